-- A keeper beside a list: if the keeper exposes its history, that is the list, and so what may follow the list may
-- follow the history, and after it both are the same again. A keeper that exposes nothing owes nothing.
use Rattle.std.proofs.Common.{◌≡◌, List, [], ◌∷◌, ◌++◌, Some, None, Option, option_map, IfSome, refl, sym, ap, ◌∙◌, subst}
use Rattle.wiki_model.specs.History.{Entry, IsHistory}

pub may_follow : (o : Option (List Entry)) (list : List Entry) (e : Entry)
    → IfSome o (λ h. h ≡ list) → IsHistory (list ++ e ∷ []) → IfSome o (λ h. IsHistory (h ++ e ∷ []))
may_follow None list e same is = same
may_follow (Some h) list e same is = subst (λ l. IsHistory (l ++ e ∷ [])) (sym same) is

pub stays_beside : (o : Option (List Entry)) (list : List Entry) (e : Entry)
    → IfSome o (λ h. h ≡ list) → IfSome (option_map (λ h. h ++ e ∷ []) o) (λ h. h ≡ list ++ e ∷ [])
stays_beside None list e same = same
stays_beside (Some h) list e same = ap (λ l. l ++ e ∷ []) same
