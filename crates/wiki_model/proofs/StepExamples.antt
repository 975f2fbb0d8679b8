-- Edits, sessions, replicas, openings and steps, at their edges.
-- Each value is computed by the prover.
use Rattle.std.specs.Prelude.{ℕ, ◌≡◌, List, [], ◌∷◌, false, true, Some, None, codes, refl}
use Rattle.wiki_model.specs.declared.Region.TheVariants.{Home, West}
use Rattle.wiki_model.specs.declared.Behind.TheVariants as by
use Rattle.wiki_model.specs.Limits.{default_bounds}
use Rattle.wiki_model.specs.History.{Edit, Entry, Beat, Committed, Numbered, own, count, current_revision, page_text, entry_at, stamp_at, commit_for, touches}
use Rattle.wiki_model.specs.Answers.{edit_answer}
use Rattle.wiki_model.specs.Answers.Answer.{EditSaved, Conflict, TokenUsed, StoreFault, Miss}
use Rattle.wiki_model.specs.Balance.{Row, is_eligible, shares}
use Rattle.wiki_model.specs.World.{World, Setting, View, OpenView, Cookie, Message, cut, at_readings, drop_at, moment}
use Rattle.wiki_model.specs.World.Body.{Purge}
use Rattle.wiki_model.specs.Sessions.{known_of, unknown, is_live, lag_behind, counts_all}
use Rattle.wiki_model.specs.Steps.{gives_up, is_after, region_of, reach}
use Rattle.wiki_model.specs.Runs.{opening, young, One}
use Rattle.wiki_model.specs.Sequences.{ends}
use Rattle.wiki_model.specs.Serving.{is_past, room_beside}

-- Edits

abbrev first : Edit
first = record { client = codes "x"; token = codes "t1"; title = codes "A"; base = 0; text = codes "one" }

abbrev history : List Entry
history = Beat 500 ∷ Committed (commit_for (Beat 500 ∷ []) first 1_999 7) ∷ []

numbered : (entry_at history 0 ≡ None) × (entry_at history 1 ≡ Some (Beat 500)) × (stamp_at history 2 ≡ 1_999) × (stamp_at history 3 ≡ 0) × (own history (codes "x") ≡ 2) × (count history (codes "x") ≡ 1) × (own history (codes "y") ≡ 0)
numbered = (refl, refl, refl, refl, refl, refl, refl)

prefixes : (page_text history 1 (codes "A") ≡ None) × (page_text history 2 (codes "A") ≡ Some (codes "one")) × (current_revision history (codes "A") ≡ 1) × (current_revision history (codes "B") ≡ 0)
prefixes = (refl, refl, refl, refl)

-- the same edit again is saved as before, also where its base is no longer the current revision
again : edit_answer history first ≡ Some (EditSaved (record { entry = 2; revision = 1; client = codes "x"; index = 1; seconds = 1 }))
again = refl

-- its token with another base, another text or another title is used
other_base : edit_answer history (record first { base = 1 }) ≡ Some (TokenUsed 2)
other_base = refl

other_text : edit_answer history (record first { text = codes "two" }) ≡ Some (TokenUsed 2)
other_text = refl

other_title : edit_answer history (record first { title = codes "B" }) ≡ Some (TokenUsed 2)
other_title = refl

-- a new token: a conflict with the current revision, or nothing decides it
conflict : edit_answer history (record first { token = codes "t2" }) ≡ Some (Conflict 0 1)
conflict = refl

undecided : (edit_answer history (record first { token = codes "t2"; base = 1 }) ≡ None) × (edit_answer history (record first { client = codes "y"; base = 1 }) ≡ None)
undecided = (refl, refl)

-- a template touches each page, a plain title its own
touched : (touches (commit_for [] (record first { title = codes "Template:X" }) 0 0) (codes "A") ≡ true) × (touches (commit_for [] (record first { title = codes "MediaWiki:X" }) 0 0) (codes "A") ≡ true)
    × (touches (commit_for [] first 0 0) (codes "A") ≡ true) × (touches (commit_for [] first 0 0) (codes "B") ≡ false)
touched = (refl, refl, refl, refl)

-- Sessions

abbrev last : Numbered
last = record { number = 3; commit = commit_for [] first 1_000 0 }

-- a position lives for a minute
known_edge : (known_of 60_999 last ≡ record { index = 1; position = 3 }) × (known_of 61_000 last ≡ unknown)
known_edge = (refl, refl)

abbrev cookie : Cookie
cookie = record { index = 2; seconds = 5; client = codes "x" }

-- a cookie lives to the end of its tenth second
live : (is_live 15_999 cookie ≡ true) × (is_live 16_000 cookie ≡ false)
live = (refl, refl)

-- by index before by entry, and neither where they are reached
behind : (lag_behind 2 (record { index = 1; position = 3 }) 2 ≡ Some (record { by = by.Index; needed = 2; reached = 1 })) × (lag_behind 1 (record { index = 1; position = 3 }) 2 ≡ Some (record { by = by.Entry; needed = 3; reached = 2 }))
    × (lag_behind 1 (record { index = 1; position = 3 }) 3 ≡ None) × (lag_behind 0 unknown 0 ≡ None)
behind = (refl, refl, refl, refl)

-- a live cookie of this client that counts all its commits
counted : (counts_all 0 2 (codes "x") cookie ≡ true) × (counts_all 0 3 (codes "x") cookie ≡ false) × (counts_all 0 2 (codes "y") cookie ≡ false) × (counts_all 16_000 2 (codes "x") cookie ≡ false)
counted = (refl, refl, refl, refl)

-- Replicas

abbrev row : (weight lag applied : ℕ) → Row
row weight lag applied = record { weight = weight; lag = lag; applied = applied }

eligible : (is_eligible 5 (row 1 6_000 5) ≡ true) × (is_eligible 5 (row 1 6_001 5) ≡ false) × (is_eligible 5 (row 1 0 4) ≡ false) × (is_eligible 5 (row 0 0 5) ≡ false)
eligible = (refl, refl, refl, refl)

drawn_from : shares 5 (row 3 0 5 ∷ row 2 0 4 ∷ row 1 6_001 9 ∷ row 4 6_000 9 ∷ []) ≡ 3 ∷ 0 ∷ 0 ∷ 4 ∷ []
drawn_from = refl

-- Openings and moments

abbrev setting : Setting
setting = record { home_weights = 1 ∷ 2 ∷ []; west_weights = 1 ∷ []; epoch = 0; bounds = default_bounds; workers = 1; together = λ r a b. true; opened = 9 }

abbrev opened : World
opened = opening setting history 0 (record { home = 5; west = 7 })

-- home begins at the last stamp, the entries are counted, and a position that is young counts as heard
opens : (moment Home opened ≡ 1_999) × (moment West opened ≡ 7) × (opened.setting.opened ≡ 2) × (opened.home.applied ≡ 0 ∷ 0 ∷ []) × (opened.home.heard ≡ 2 ∷ []) × (opened.west.heard ≡ 2 ∷ [])
opens = (refl, refl, refl, refl, refl, refl)

young_edge : (young 61_998 history ≡ 2 ∷ []) × (young 61_999 history ≡ [])
young_edge = (refl, refl)

-- a moment never falls, and a reading is cut
read : (moment Home (at_readings (record { home = 3; west = 9 }) opened) ≡ 1_999) × (moment West (at_readings (record { home = 3; west = 9 }) opened) ≡ 9) × (cut 4_000_000_000_000_001 ≡ 4_000_000_000_000_000)
read = (refl, refl, refl)

-- Steps

abbrev view : View
view = record { host = West; client = codes "x"; cookie = None; use_master = false; word = 0; title = codes "A" }

routed : (region_of view ≡ West) × (region_of (record view { use_master = true }) ≡ Home)
routed = (refl, refl)

abbrev waiting : OpenView
waiting = record { view = view; region = Home; arrived = 0 }

gave_up : (gives_up (at_readings (record { home = 4_999; west = 0 }) opened) waiting false ≡ false) × (gives_up (at_readings (record { home = 5_000; west = 0 }) opened) waiting false ≡ true) × (gives_up opened waiting true ≡ true)
gave_up = (refl, refl, refl)

-- a commit is late from the first millisecond past its delay
late : (is_after 3_000 3_010 (Purge 1 (codes "A") 10) ≡ false) × (is_after 3_000 3_011 (Purge 1 (codes "A") 10) ≡ true)
late = (refl, refl)

reached : (reach opened Home 0 1 ≡ 1) × (reach opened Home 0 5 ≡ 2)
reached = (refl, refl)

-- messages are numbered from 1
abbrev message : Message
message = record { body = Purge 1 (codes "A") 0; dropped = false }

dropping : (drop_at (message ∷ message ∷ []) 0 ≡ message ∷ message ∷ []) × (drop_at (message ∷ message ∷ []) 1 ≡ record message { dropped = true } ∷ message ∷ []) × (drop_at (message ∷ message ∷ []) 2 ≡ message ∷ record message { dropped = true } ∷ [])
dropping = (refl, refl, refl)

-- a beat is due from one second on; a batch in the west has room for sixteen jobs
due : (is_past 999 (Some 0) ≡ false) × (is_past 1_000 (Some 0) ≡ true) × (is_past 0 None ≡ true)
due = (refl, refl, refl)

room : (room_beside West 15 ≡ 1) × (room_beside West 16 ≡ 0) × (room_beside Home 1 ≡ 0)
room = (refl, refl, refl)

-- an answer ends a line of several steps, but for a miss
ended : (ends (One None) ≡ false) × (ends (One (Some StoreFault)) ≡ true) × (ends (One (Some (Miss Rattle.wiki_model.specs.declared.Cause.TheVariants.Absent))) ≡ false)
ended = (refl, refl, refl)
