-- The receipts of a batch's round. The code asks of each purge that is held whether west may receive it; for each run for
-- which the farm stands that is so of all of them, since no step from the housekeeping on changed a message.
use Rattle.std.proofs.Common.{◌≡◌, ℕ, suc, ◌+◌, ◌≤◌, ◌<◌, Bool, true, false, List, [], ◌∷◌, ◌++◌, length, map, refl, sym, ap, subst, ◌∙◌, arith, append_assoc, append-nil}
use Rattle.std.specs.Prelude.{All, if◌then◌else◌}
use Rattle.std.proofs.lemmas.List.{map-append, length-append, length-map}
use Rattle.std.proofs.lemmas.List.Elements.{All-nil, All-cons, All-head, All-tail, All-append}
use Rattle.wiki_model.specs.declared.Region.{Region}
use Rattle.wiki_model.specs.declared.Region.TheVariants.{Home, West}
use Rattle.wiki_model.specs.Limits.{jobs_max}
use Rattle.wiki_model.specs.World.{World, Job}
use Rattle.wiki_model.specs.World.Job.{ViewJob}
use Rattle.wiki_model.specs.Serving.{Taken, IsReceivable, view_job, receipt_job, room_beside}
use Rattle.purge_relay.specs.AsModel.{row_message}
use Rattle.purge_relay.specs.declared.message.Message.{Message}
use Rattle.purge_relay.specs.declared.ledger_row.LedgerRow.{LedgerRow}
use Rattle.region_round.specs.AsModel.{jobs_of}
use Rattle.region_round.specs.Jobs.{IsProper, AreProper}
use Rattle.region_round.specs.declared.job.Job.{Job as CodeJob}
use Rattle.region_round.specs.declared.job.Job.TheVariants as job
use Rattle.wiki_model.specs.Steps.{region_of}
use Rattle.region_state.specs.AsModel.{view_of}
use Rattle.wiki_serve.specs.declared.serve_batch.Drawn.{Drawn}
use Rattle.wiki_serve.specs.declared.serve_batch.BatchAsk.{BatchAsk}
use Rattle.wiki_serve.specs.BatchSteps.{pair_of, job_at, room_of}
use Rattle.wiki_serve.specs.HoldingBack.{taken_of, all_taken, is_receivable, receipts_in}
use Rattle.wiki_serve.proofs.Receivable.{receivable_test, purge_there}

-- Views

pub jobs_are : (need : ℕ) (drawn : List Drawn) → jobs_of (map (job_at need) drawn) ≡ map (view_job need) (map pair_of drawn)
jobs_are need [] = refl
jobs_are need (d ∷ drawn) = ap (λ (l : List Job). ViewJob d.title need d.word ∷ l) (jobs_are need drawn)

-- views are always proper
pub views_proper : (r : Region) (rows : List LedgerRow) (need : ℕ) (drawn : List Drawn) (jobs : List CodeJob) → jobs ≡ map (job_at need) drawn → AreProper r rows jobs
views_proper r rows need drawn jobs is = subst (λ (js : List CodeJob). AreProper r rows js) (sym is) (go drawn)
  where
    go : (ds : List Drawn) → AreProper r rows (map (job_at need) ds)
    go [] = All-nil (IsProper r rows)
    go (d ∷ ds) = All-cons (IsProper r rows) (job_at need d) (map (job_at need) ds) tt (go ds)

pub jobs_long : (need : ℕ) (drawn : List Drawn) (jobs : List CodeJob) → jobs ≡ map (job_at need) drawn → length jobs ≡ length drawn
jobs_long need drawn jobs is = ap length is ∙ go drawn
  where
    go : (ds : List Drawn) → length (map (job_at need) ds) ≡ length ds
    go [] = refl
    go (d ∷ ds) = let e = go ds in omega (arith, e)

-- Adding receipts

-- these jobs, with the receipts of the rest, are those that there were with the receipts of all; there is room for each
pub record IsReceiving (rows : List LedgerRow) (first : List CodeJob) (all rest : List Message) (jobs : List CodeJob) (room : ℕ) : Type 0 where
  pub jobs_are : jobs ++ receipts_in rows (all_taken rest) ≡ first ++ receipts_in rows (all_taken all)
  pub fits : length jobs + length rest ≤ room

if_more : (b : Bool) (j : CodeJob) (js : List CodeJob) → (if b then j ∷ js else js) ≡ (if b then j ∷ [] else []) ++ js
if_more true j js = refl
if_more false j js = refl

if_long : (b : Bool) (j : CodeJob) (js : List CodeJob) (n : ℕ) → length js ≤ n → length (if b then j ∷ js else js) ≤ n + 1
if_long true j js n few = omega (arith, few)
if_long false j js n few = omega (arith, few)

one_or_none : (rows : List LedgerRow) (t : Taken) → length (receipts_in rows (t ∷ [])) ≤ 1
one_or_none rows t = let none : length {A = CodeJob} [] ≤ 0 = omega arith in if_long (is_receivable rows t) (job.Receipt t.number) [] 0 none

pub receiving_none : (rows : List LedgerRow) (first : List CodeJob) (all rest : List Message) (room : ℕ) → rest ≡ all → length first + length all ≤ room → IsReceiving rows first all rest first room
receiving_none rows first all rest room same fits =
    subst (λ (r : List Message). IsReceiving rows first all r first room) (sym same) (record { jobs_are = refl; fits = fits })

pub receiving_more : (rows : List LedgerRow) (first : List CodeJob) (all left rest : List Message) (m : Message) (before now : List CodeJob) (room room_now : ℕ) → left ≡ m ∷ rest → room ≤ room_now → IsReceiving rows first all left before room
    → now ≡ before ++ receipts_in rows (taken_of m ∷ []) → IsReceiving rows first all rest now room_now
receiving_more rows first all left rest m before now room room_now left_is more is now_is =
    let one = receipts_in rows (taken_of m ∷ []) in
    let size : length left ≡ suc (length rest) = ap length left_is in
    let grown : length now ≡ length (before ++ one) = ap length now_is in
    let both = length-append before one in
    let few = one_or_none rows (taken_of m) in
    let fits = is.fits in
    record {
      jobs_are =
          ap (λ (js : List CodeJob). js ++ receipts_in rows (all_taken rest)) now_is
          ∙ append_assoc before one (receipts_in rows (all_taken rest))
          ∙ ap (λ (js : List CodeJob). before ++ js) (sym (if_more (is_receivable rows (taken_of m)) (job.Receipt m.number) (receipts_in rows (all_taken rest))))
          ∙ ap (λ (ms : List Message). before ++ receipts_in rows (all_taken ms)) (sym left_is)
          ∙ is.jobs_are;
      fits = omega (arith, size, grown, both, few, fits, more);
    }

pub receiving_over : (rows : List LedgerRow) (first : List CodeJob) (all rest : List Message) (jobs : List CodeJob) (room : ℕ) → rest ≡ [] → IsReceiving rows first all rest jobs room → jobs ≡ first ++ receipts_in rows (all_taken all)
receiving_over rows first all rest jobs room none is = sym (append-nil jobs) ∙ ap (λ (ms : List Message). jobs ++ receipts_in rows (all_taken ms)) (sym none) ∙ is.jobs_are

pub receiving_room : (rows : List LedgerRow) (first : List CodeJob) (all left rest : List Message) (m : Message) (jobs : List CodeJob) (room : ℕ) → left ≡ m ∷ rest → IsReceiving rows first all left jobs room → length jobs < room
receiving_room rows first all left rest m jobs room left_is is =
    let size : length left ≡ suc (length rest) = ap length left_is in
    let fits = is.fits in
    omega (arith, size, fits)

-- The jobs of a round

receipts_long : (rows : List LedgerRow) (taken : List Taken) → length (receipts_in rows taken) ≤ length taken
receipts_long rows [] = omega arith
receipts_long rows (t ∷ taken) =
    let one = if_long (is_receivable rows t) (job.Receipt t.number) (receipts_in rows taken) (length taken) (receipts_long rows taken) in
    omega (arith, one)

pub beside_few : (r : Region) (titles : ℕ) → titles ≤ jobs_max → titles + room_beside r titles ≤ jobs_max
beside_few Home titles few = omega (arith, few)
beside_few West titles few = omega (arith, few)

-- the region of a view, as the code has it
pub beside_same : (r : Region) (ask : BatchAsk) → r ≡ region_of (view_of ask.view) → length ask.held.messages.items ≤ room_of ask → length ask.held.messages.items ≤ room_beside r (length ask.drawn.items)
beside_same r ask is few = subst (λ (q : Region). length ask.held.messages.items ≤ room_beside q (length ask.drawn.items)) (sym is) few

-- there are no more jobs than a round may have
pub jobs_few : (rows : List LedgerRow) (need : ℕ) (r : Region) (drawn : List Drawn) (messages : List Message) (views jobs : List CodeJob) → views ≡ map (job_at need) drawn → jobs ≡ views ++ receipts_in rows (all_taken messages)
    → length drawn ≤ jobs_max → length messages ≤ room_beside r (length drawn) → length jobs ≤ jobs_max
jobs_few rows need r drawn messages views jobs views_are jobs_are few held =
    let whole : length jobs ≡ length (views ++ receipts_in rows (all_taken messages)) = ap length jobs_are in
    let both = length-append views (receipts_in rows (all_taken messages)) in
    let one = jobs_long need drawn views views_are in
    let two = receipts_long rows (all_taken messages) in
    let same = length-map messages taken_of in
    let beside = beside_few r (length drawn) few in
    omega (arith, whole, both, one, two, same, beside, held)

receipts_proper : (rows : List LedgerRow) (taken : List Taken) → AreProper West rows (receipts_in rows taken)
receipts_proper rows [] = All-nil (IsProper West rows)
receipts_proper rows (t ∷ taken) = by (is_receivable rows t) refl (receipts_proper rows taken)
  where
    by : (b : Bool) → is_receivable rows t ≡ b → AreProper West rows (receipts_in rows taken) → AreProper West rows (if b then job.Receipt t.number ∷ receipts_in rows taken else receipts_in rows taken)
    by true may more = let there = purge_there rows t may in All-cons (IsProper West rows) (job.Receipt t.number) (receipts_in rows taken) (refl, there.0, there.1) more
    by false may more = more

-- home's round has no receipt, since none is held for it
pub jobs_proper : (rows : List LedgerRow) (need : ℕ) (r : Region) (drawn : List Drawn) (messages : List Message) (views jobs : List CodeJob) → views ≡ map (job_at need) drawn → jobs ≡ views ++ receipts_in rows (all_taken messages)
    → length messages ≤ room_beside r (length drawn) → AreProper r rows jobs
jobs_proper rows need r drawn messages views jobs views_are jobs_are held =
    subst (λ (js : List CodeJob). AreProper r rows js) (sym jobs_are)
    (All-append (IsProper r rows) views (receipts_in rows (all_taken messages)) (views_proper r rows need drawn views views_are) (receipts r messages held))
  where
    receipts : (q : Region) (ms : List Message) → length ms ≤ room_beside q (length drawn) → AreProper q rows (receipts_in rows (all_taken ms))
    receipts West ms few = receipts_proper rows (all_taken ms)
    receipts Home [] few = All-nil (IsProper Home rows)
    receipts Home (m ∷ ms) few = let never : ⊥ = omega (arith, few) in absurd never

-- if a world with the ledger's messages would receive each of them, there is a receipt of each
pub receipts_are : (w : World) (rows : List LedgerRow) (held : List Taken) → map row_message rows ≡ w.messages → All (IsReceivable w) held → jobs_of (receipts_in rows held) ≡ map receipt_job held
receipts_are w rows [] same all = refl
receipts_are w rows (t ∷ held) same all =
    by (is_receivable rows t) (receivable_test w rows t same (All-head (IsReceivable w) t held all)) (receipts_are w rows held same (All-tail (IsReceivable w) t held all))
  where
    by : (b : Bool) → b ≡ true → jobs_of (receipts_in rows held) ≡ map receipt_job held → jobs_of (if b then job.Receipt t.number ∷ receipts_in rows held else receipts_in rows held) ≡ receipt_job t ∷ map receipt_job held
    by true is more = ap (λ (js : List Job). receipt_job t ∷ js) more
    by false is more = let never : ⊥ = cc in absurd never

-- all jobs of the round are those that the model asks for
pub all_jobs_are : (w : World) (rows : List LedgerRow) (views jobs : List CodeJob) (asked : List Job) (held : List Taken) → map row_message rows ≡ w.messages → All (IsReceivable w) held
    → jobs_of views ≡ asked → jobs ≡ views ++ receipts_in rows held → jobs_of jobs ≡ asked ++ map receipt_job held
all_jobs_are w rows views jobs asked held same all views_are jobs_are =
    ap jobs_of jobs_are
    ∙ map-append Rattle.region_round.specs.AsModel.job_of views (receipts_in rows held)
    ∙ ap (λ (js : List Job). js ++ jobs_of (receipts_in rows held)) views_are
    ∙ ap (λ (js : List Job). asked ++ js) (receipts_are w rows held same all)
