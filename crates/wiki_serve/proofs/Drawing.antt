-- Titles are drawn for one after another, and become jobs one after another: what is made, with what is to come, is all.
use Rattle.std.proofs.Common.{◌≡◌, ℕ, suc, ◌+◌, ◌≤◌, ◌<◌, List, [], ◌∷◌, ◌++◌, length, map, Option, refl, sym, ap, subst, ◌∙◌, arith, append_assoc, append-nil}
use Rattle.std.proofs.lemmas.List.{map-append, length-append, length-map}
use Rattle.wiki_model.specs.Titles.{Title}
use Rattle.farm_base.specs.Series.{Series}
use Rattle.region_round.specs.declared.job.Job.{Job as CodeJob}
use Rattle.wiki_serve.specs.declared.serve_batch.Drawn.{Drawn}
use Rattle.wiki_serve.specs.Exchanges.{GivesAll}
use Rattle.wiki_serve.specs.BatchSteps.{title_of, word_of, job_at, IsDrawn, IsOneDrawn}
use Rattle.wiki_serve.proofs.OneMore.{gives_more}

-- how many are left after one more
pub left_length : {A : Type 0} (n after : ℕ) (items rest : List A) (x : A) → n ≡ length items → (items ≡ x ∷ rest) × (after + 1 ≡ n) → after ≡ length rest
left_length n after items rest x whole step = let size : length items ≡ suc (length rest) = ap length step.0 in let less = step.1 in omega (arith, whole, less, size)

-- Words

pub record IsDrawing (old now : Option (Series ℕ)) (all rest : List Title) (drawn : List Drawn) : Type 0 where
  pub all_is : map title_of drawn ++ rest ≡ all
  pub words : GivesAll old (map word_of drawn) now

pub drawing_none : (lots : Option (Series ℕ)) (all rest : List Title) (drawn : List Drawn) → drawn ≡ [] → rest ≡ all → IsDrawing lots lots all rest drawn
drawing_none lots all rest drawn none same = subst (λ (d : List Drawn). IsDrawing lots lots all rest d) (sym none) (record { all_is = same; words = refl })

pub drawing_more : (old mid new : Option (Series ℕ)) (all left rest : List Title) (x : Title) (before now : List Drawn) → left ≡ x ∷ rest → IsDrawing old mid all left before → IsOneDrawn mid new x before now → IsDrawing old new all rest now
drawing_more old mid new all left rest x before now left_is is one =
    let d : Drawn = record { title = x; word = one.word } in
    subst (λ (ds : List Drawn). IsDrawing old new all rest ds) (sym one.now_is)
    (record {
      all_is = ap (λ l. l ++ rest) (map-append title_of before (d ∷ [])) ∙ append_assoc (map title_of before) (x ∷ []) rest ∙ ap (λ l. map title_of before ++ l) (sym left_is) ∙ is.all_is;
      words = subst (λ ws. GivesAll old ws new) (sym (map-append word_of before (d ∷ []))) (gives_more old mid new (map word_of before) (one.word ∷ []) is.words (new, one.gives, refl));
    })

pub drawing_over : (old new : Option (Series ℕ)) (all rest : List Title) (drawn : List Drawn) → rest ≡ [] → IsDrawing old new all rest drawn → IsDrawn old new all drawn
drawing_over old new all rest drawn none is = record { titles_are = sym (append-nil (map title_of drawn)) ∙ ap (λ l. map title_of drawn ++ l) (sym none) ∙ is.all_is; words = is.words }

pub drawing_room : (old new : Option (Series ℕ)) (all left rest : List Title) (x : Title) (drawn : List Drawn) (room : ℕ) → left ≡ x ∷ rest → length all ≤ room → IsDrawing old new all left drawn → length drawn < room
drawing_room old new all left rest x drawn room left_is small is =
    let whole : length (map title_of drawn ++ left) ≡ length all = ap length is.all_is in
    let both = length-append (map title_of drawn) left in
    let same = length-map drawn title_of in
    let size : length left ≡ suc (length rest) = ap length left_is in
    omega (arith, small, whole, both, same, size)

-- Jobs

abbrev pub IsAdding : (need : ℕ) → (all rest : List Drawn) → (jobs : List CodeJob) → Type 0
IsAdding need all rest jobs = jobs ++ map (job_at need) rest ≡ map (job_at need) all

pub adding_none : (need : ℕ) (all rest : List Drawn) (jobs : List CodeJob) → jobs ≡ [] → rest ≡ all → IsAdding need all rest jobs
adding_none need all rest jobs none same = ap (λ (js : List CodeJob). js ++ map (job_at need) rest) none ∙ ap (map (job_at need)) same

pub adding_more : (need : ℕ) (all left rest : List Drawn) (x : Drawn) (before now : List CodeJob) → left ≡ x ∷ rest → IsAdding need all left before → now ≡ before ++ job_at need x ∷ [] → IsAdding need all rest now
adding_more need all left rest x before now left_is is now_is =
    ap (λ (js : List CodeJob). js ++ map (job_at need) rest) now_is ∙ append_assoc before (job_at need x ∷ []) (map (job_at need) rest) ∙ ap (λ (ds : List Drawn). before ++ map (job_at need) ds) (sym left_is) ∙ is

pub adding_over : (need : ℕ) (all rest : List Drawn) (jobs : List CodeJob) → rest ≡ [] → IsAdding need all rest jobs → jobs ≡ map (job_at need) all
adding_over need all rest jobs none is = sym (append-nil jobs) ∙ ap (λ (ds : List Drawn). jobs ++ map (job_at need) ds) (sym none) ∙ is

pub adding_room : (need : ℕ) (all left rest : List Drawn) (x : Drawn) (jobs : List CodeJob) (room : ℕ) → left ≡ x ∷ rest → length all ≤ room → IsAdding need all left jobs → length jobs < room
adding_room need all left rest x jobs room left_is small is =
    let whole : length (jobs ++ map (job_at need) left) ≡ length (map (job_at need) all) = ap length is in
    let both = length-append jobs (map (job_at need) left) in
    let some = length-map left (job_at need) in
    let every = length-map all (job_at need) in
    let size : length left ≡ suc (length rest) = ap length left_is in
    omega (arith, small, whole, both, some, every, size)
