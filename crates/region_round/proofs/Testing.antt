-- The test says what it should: a job that passes it is proper.
use Rattle.std.proofs.Common.{◌≡◌, ℕ, zero, suc, ◌<◌, Bool, true, false, List, [], ◌∷◌, length, Option, Some, None, refl, arith}
use Rattle.std.specs.Prelude.{All, IsTrue, not, slice_index_or, ◌&&◌, if◌then◌else◌}
use Rattle.std.specs.List.{list_all}
use Rattle.wiki_model.specs.declared.Region.{Region}
use Rattle.wiki_model.specs.declared.Region.TheVariants.{Home, West}
use Rattle.wiki_model.specs.Titles.{Title}
use Rattle.purge_relay.specs.declared.message.Body.{Body}
use Rattle.purge_relay.specs.declared.message.Body.TheVariants.{Purge, Position}
use Rattle.purge_relay.specs.declared.ledger_row.LedgerRow.{LedgerRow}
use Rattle.purge_relay.specs.Ledger.{row_at}
use Rattle.region_round.specs.declared.job.Job.{Job}
use Rattle.region_round.specs.declared.job.Job.TheVariants as job
use Rattle.region_round.specs.Jobs.{AreProper, IsProper, IsPurgeAt, is_open_purge, is_proper_job, is_purge_body, is_west_purge}

undropped : (b : Bool) → not b ≡ true → b ≡ false
undropped true e = sym_no e
  where
    sym_no : false ≡ true → true ≡ false
    sym_no e = let no : ⊥ = cc in absurd no
undropped false e = refl

pub open_is : (rows : List LedgerRow) (number : ℕ) → is_open_purge (row_at rows number) ≡ true → (title : Title) × IsPurgeAt rows number title
open_is rows number passes = by (row_at rows number) refl passes
  where
    of_body : (row : LedgerRow) (body : Body) → row.message.body ≡ body → row_at rows number ≡ Some row → (if is_purge_body body then not row.dropped else false) ≡ true → (title : Title) × IsPurgeAt rows number title
    of_body row (Purge purge title issued) is there passes = (title, record { row = row; issued = issued; purge = purge; there = there; body = is; undropped = undropped row.dropped passes })
    of_body row (Position client index entry stamp) is there passes = let no : ⊥ = cc in absurd no

    by : (o : Option LedgerRow) → row_at rows number ≡ o → is_open_purge o ≡ true → (title : Title) × IsPurgeAt rows number title
    by None there passes = let no : ⊥ = cc in absurd no
    by (Some row) there passes = of_body row row.message.body refl there passes

one_is : (r : Region) (rows : List LedgerRow) (x : Job) → is_proper_job r rows x ≡ true → IsProper r rows x
one_is r rows (job.View view) passes = tt
one_is Home rows (job.Receipt number) passes = let no : ⊥ = cc in absurd no
one_is West rows (job.Receipt number) passes = let is = open_is rows number passes in (refl, is.0, is.1)

both : (a b : Bool) → (a && b) ≡ true → (a ≡ true) × (b ≡ true)
both true b e = (refl, e)
both false b e = let no : ⊥ = cc in absurd no

pub all_are : (r : Region) (rows : List LedgerRow) (jobs : List Job) → list_all (is_proper_job r rows) jobs ≡ true → AreProper r rows jobs
all_are r rows [] passes k d within = absurd (omega (arith, within))
all_are r rows (x ∷ jobs) passes zero d within = one_is r rows x (both (is_proper_job r rows x) (list_all (is_proper_job r rows) jobs) passes).0
all_are r rows (x ∷ jobs) passes (suc k) d within = all_are r rows jobs (both (is_proper_job r rows x) (list_all (is_proper_job r rows) jobs) passes).1 k d (omega (arith, within))
