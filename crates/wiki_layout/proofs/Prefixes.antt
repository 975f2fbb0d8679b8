-- What `strip_prefix` gives is what stands after the prefix.
use Rattle.std.proofs.Common.{◌≡◌, true, false, if◌then◌else◌, Option, Some, None, MatchOption, option_map, length, drop, refl, sym, ap, ◌∙◌, subst}
use denote.Ref.{Bor}
use Rattle.std.specs.Str.{IsCharBoundary}
use Rattle.std.specs.Str.Pattern.{FindsTextPrefix, StripsPrefix}
use Rattle.std.proofs.lemmas.Str.Pattern.{starts_text}
use Rattle.wiki_model.specs.Bytes.{Bytes, begins}

pub stripped : (prefix text : Bytes) (result : Option (Bor Bytes))
    → MatchOption result (FindsTextPrefix prefix text None)
    (λ rest. StripsPrefix (FindsTextPrefix prefix) text rest.now)
    → option_map (λ rest. rest.now) result ≡ (if begins prefix text then Some (drop (length prefix) text) else None)
stripped prefix text None h = rw (sym (starts_text false prefix text h)) refl
stripped prefix text (Some rest) h =
    let found : true ≡ begins prefix text =
    starts_text true prefix text (h.0, h.1, subst (λ n. IsCharBoundary text n) (sym h.1.0) h.1.2) in
    rw (← found) (ap Some (h.2 ∙ ap (λ n. drop n text) h.1.0))
