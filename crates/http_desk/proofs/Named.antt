-- The values of a name are those of the first pair and those of the later ones.
use Rattle.std.proofs.Common.{◌≡◌, Bool, true, false, List, ◌∷◌, ◌++◌, refl, bytes_eq}
use Rattle.wiki_model.specs.Bytes.{Bytes}
use Rattle.http_desk.specs.Calls.{decoded, named_raw, if_named}

pub named_more : (name own value : Bytes) (raws : List (Bytes × Bytes)) → named_raw name ((own, value) ∷ raws) ≡ if_named name (decoded own) (decoded value) ++ named_raw name raws
named_more name own value raws = by (bytes_eq (decoded own) name) refl
  where
    by : (b : Bool) → bytes_eq (decoded own) name ≡ b → named_raw name ((own, value) ∷ raws) ≡ if_named name (decoded own) (decoded value) ++ named_raw name raws
    by true e = rw e refl
    by false e = rw e refl
