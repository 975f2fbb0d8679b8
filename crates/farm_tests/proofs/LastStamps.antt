-- The stamp of the entry whose number is the length is the last stamp.
use Rattle.std.proofs.Common.{◌≡◌, ℕ, ◌≤◌, List, length, Option, Some, None, option_map, unwrap_or, IfSome, sym, ap, ◌∙◌, subst, arith}
use Rattle.wiki_model.specs.History.{Entry, entry_at, stamp_at, stamp_of}

pub last_stamp : (content : Option (List Entry)) (len stamp moment : ℕ) (entry : Option Entry) → IfSome content (λ h. len ≡ length h) → IfSome content (λ h. entry ≡ entry_at h len)
    → unwrap_or (option_map stamp_of entry) 0 ≤ moment → IfSome content (λ h. stamp_at h (length h) ≤ moment)
last_stamp None len stamp moment entry counted found le = tt
last_stamp (Some h) len stamp moment entry counted found le =
    let same : unwrap_or (option_map stamp_of entry) 0 ≡ stamp_at h (length h) = ap (λ o. unwrap_or (option_map stamp_of o) 0) (found ∙ ap (entry_at h) counted) in
    subst (λ n. n ≤ moment) same le
