-- The revision in an entry, which tests count a title's commits by.
use Rattle.std.specs.Prelude.{ℕ, Option, Some, None}
use Rattle.wiki_model.specs.History.{Entry, Beat, Committed}

abbrev pub revision_in : Option Entry → ℕ
revision_in None = 0
revision_in (Some (Beat stamp)) = 0
revision_in (Some (Committed c)) = c.revision
