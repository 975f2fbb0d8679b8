-- The generator's state and texts as the code keeps and prints them.
-- A printed line is put together from the right; that it is the model's is proved in proofs/Stirs.antt.
use Rattle.std.specs.Prelude.{ℕ, ◌≤◌, ◌<◌, ◌+◌, ◌-◌, ◌*◌, ◌==◌, ◌&&◌, if◌then◌else◌, nat_lt, slice_index, slice_set, ◌/◌, ◌%◌, ◌^◌, All, [], ◌∷◌, ◌++◌, codes, decimal}
use Rattle.wiki_model.specs.Bytes.{Bytes}
use Rattle.wiki_model.specs.Generator.{Stirred, seed_after, next_seed}
use Rattle.script_generator.specs.declared.make_script.Stirring.{Stirring}
use Rattle.script_generator.specs.declared.make_script.Draws.{Draws}

abbrev pub stirred_of : Stirring → Stirred
stirred_of s = record { seed = s.seed; home = s.home; revisions = s.revisions; wrote = s.wrote; messages = s.messages }

-- the number below the limit that the seed gives after so many draws
abbrev pub drawn_of : (draws limit seed : ℕ) → ℕ
drawn_of draws limit seed = seed_after draws seed / 2 ^ 33 % limit

-- what a step draws first
abbrev pub draws_by : (seed : ℕ) → Draws
draws_by seed = record {
  home = drawn_of 1 1_500 seed;
  west = drawn_of 2 1_201 seed;
  kind = drawn_of 3 12 seed;
  client = drawn_of 4 5 seed;
  title = drawn_of 5 8 seed;
  word = drawn_of 6 1_000 seed;
  replica = drawn_of 7 2 seed;
  seed = seed_after 7 seed;
}

-- the draws are below their limits
pub record IsBelow (d : Draws) : Type 0 where
  pub home : d.home < 1_500
  pub west : d.west < 1_201
  pub client : d.client < 5
  pub title : d.title < 8

-- After so many steps no number is great.
pub record IsWithin (steps : ℕ) (s : Stirred) : Type 0 where
  pub early : 1_000 ≤ s.home
  pub late : s.home ≤ 1_000 + 1_500 * steps
  pub revisions : All (λ n. n ≤ steps) s.revisions
  pub wrote : All (λ n. n ≤ steps) s.wrote
  pub messages : s.messages ≤ 2 * steps

-- The lines

abbrev pub at_text : (home west : ℕ) → Bytes
at_text home west = codes "at " ++ (decimal home ++ (codes " " ++ (decimal west ++ codes "\n")))

abbrev pub edit_text : (number client : ℕ) → (title : Bytes) → (base : ℕ) → Bytes
edit_text number client title base =
    codes "edit "
    ++ (decimal client
    ++ (codes " t"
    ++ (decimal number
    ++ (codes " " ++ (title ++ (codes " " ++ (decimal base ++ (codes " v" ++ (decimal number ++ codes "\n")))))))))

abbrev pub apply_text : (region : Bytes) → (replica : ℕ) → Bytes
apply_text region replica = codes "apply " ++ (region ++ (codes " " ++ (decimal replica ++ codes " 50\n")))

abbrev pub view_text : (region : Bytes) → (client : ℕ) → (cookie : Bytes) → (word : ℕ) → (title : Bytes) → Bytes
view_text region client cookie word title =
    codes "view "
    ++ (region
    ++ (codes " "
    ++ (decimal client
    ++ (codes " " ++ (cookie ++ (codes " " ++ (decimal word ++ (codes " " ++ (title ++ codes "\n")))))))))

abbrev pub carry_text : (number : ℕ) → Bytes
carry_text number = codes "carry " ++ (decimal number ++ codes "\n")

abbrev pub position_text : (index seconds : ℕ) → Bytes
position_text index seconds = decimal index ++ (codes "@" ++ decimal seconds)

-- The line of a step after its readings, and both

abbrev pub letter : Draws → Bytes
letter d = (65 + d.title) ∷ []

abbrev pub carried : Stirring → Draws → Bytes
carried s d = if s.messages == 0 then codes "beat\n" else carry_text (1 + next_seed d.seed / 2 ^ 33 % s.messages)

abbrev pub position : Stirring → Draws → Bytes
position s d =
    if slice_index s.wrote d.client == 0 then codes "-"
    else position_text (slice_index s.wrote d.client) ((s.home + d.home) / 1_000)

abbrev pub step_text : (number : ℕ) → Stirring → Draws → Bytes
step_text number s d =
    if nat_lt d.kind 2 then edit_text number (1 + d.client) (letter d) (slice_index s.revisions d.title)
    else (if nat_lt d.kind 4 then codes "beat\n"
    else (if nat_lt d.kind 6 then apply_text (codes "home") d.replica
    else (if d.kind == 6 then apply_text (codes "west") d.replica
    else (if d.kind == 7 then carried s d
    else (if d.kind == 8 then view_text (codes "home") (1 + d.client) (codes "-") d.word (letter d)
    else (if nat_lt d.kind 11 then view_text (codes "west") (1 + d.client) (codes "-") d.word (letter d)
    else view_text (codes "west") (1 + d.client) (position s d) d.word (letter d)))))))

abbrev pub step_bytes : (number : ℕ) → Stirring → Draws → Bytes
step_bytes number s d = at_text (s.home + d.home) (s.home + d.home + d.west - 600) ++ step_text number s d

-- The state after a step

abbrev pub last_seed : Stirring → Draws → ℕ
last_seed s d = if (d.kind == 7) && nat_lt 0 s.messages then next_seed d.seed else d.seed

abbrev pub after_by : Stirring → Draws → Stirred
after_by s d = record {
  seed = last_seed s d;
  home = s.home + d.home;
  revisions =
      if nat_lt d.kind 2 then slice_set s.revisions d.title (slice_index s.revisions d.title + 1) else s.revisions;
  wrote = if nat_lt d.kind 2 then slice_set s.wrote d.client (slice_index s.wrote d.client + 1) else s.wrote;
  messages = if nat_lt d.kind 2 then s.messages + 2 else s.messages;
}
