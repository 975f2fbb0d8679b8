-- The rule of a shared cache: what holds of its words, its rows and what its seats know, between any two steps.
use Rattle.std.specs.Prelude.{ℕ, ◌≡◌, ◌+◌, ◌<◌, List, [], ◌∷◌, ◌++◌, map, length, replicate, None}
use mathlib.Core.Option as home
use lib.ListN.{get_elem?}
use Rattle.atomic_table.specs.Table.{State}
use Rattle.slot_share.specs.declared.view.Marks.{Marks}
use Rattle.slot_share.specs.declared.view.Rank.{Rank}
use Rattle.slot_share.specs.declared.view.View.{View}
use Rattle.slot_share.specs.declared.view.Start.{Start}
use Rattle.slot_share.specs.Marks.{AreMarked, made_at, higher}
use Rattle.slot_share.specs.Ranks.{AreRanked, left_rank, right_rank, both_ranks, no_rank}
use Rattle.slot_share.specs.Claims.{AreClaimed, Claim}
use Rattle.slot_share.specs.Values.{Truth, Row, Keeping, AreValues, slots_of}

module _ {P : Type 0} where
  -- the marks at sharing
  abbrev pub marks_at : Start P → List ℕ
  marks_at start = 0 ∷ start.template_check ∷ start.message_check ∷ start.floors.value.items

  abbrev pub size_of : Start P → ℕ
  size_of start = length (marks_at start)

  abbrev pub marks_of : View P → Marks
  marks_of v = v.marks

  abbrev pub rank_of : View P → Rank
  rank_of v = v.rank

  abbrev pub claim_of : View P → Claim
  claim_of v = (v.rank, v.holds)

  abbrev pub keeping_of : View P → Keeping P
  keeping_of v = (v.met, v.handed)

  -- it made nothing and was handed nothing
  abbrev pub IsIdle : View P → Type 0
  IsIdle v = ((word : ℕ) → made_at word v.marks ≡ 0) × (v.handed ≡ [])

  -- What always holds of the table:
  -- 1. it has a word for each mark and a claim for each slot, and a slot at least;
  -- 2. each mark is as it was at sharing, or the highest that a seat made of it since, and no seat has seen more;
  -- 3. the seats' parts are all seats together, and no two own one number;
  -- 4. the claim of a slot is the number of the seat that holds it, or 0, and its row then is at home;
  -- 5. the values of each row are true, and stood there at sharing or were handed in;
  -- 6. a seat with no part is idle: it has made no mark, and was handed nothing.
  pub record Keeps (is_true : Truth P) (start : Start P) (s : State (Row P) (View P)) : Type 0 where
    pub long : length s.words ≡ size_of start + slots_of start
    pub some : 0 < size_of start
    pub marks : AreMarked (marks_at start) s.words (map marks_of s.views)
    pub ranks : AreRanked start.seats (map rank_of s.views)
    pub claims : AreClaimed (size_of start) (slots_of start) s.words s.homes (map claim_of s.views)
    pub values : AreValues is_true start s.homes (map keeping_of s.views)
    pub idle : (id : ℕ) (v : View P) → get_elem? s.views id ≡ home.some v → v.rank.parts ≡ 0 → IsIdle v

  -- Views of seats

  -- a seat that has done nothing, by the marks that it has seen
  abbrev pub fresh : (seen : List ℕ) → Rank → View P
  fresh seen rank = record {
    marks = record { seen = seen; made = replicate (length seen) 0 };
    rank = rank;
    holds = None;
    met = [];
    claims = 0;
    last_slot = 0;
    last_found = 0;
    handed = [];
  }

  abbrev pub first_view : Start P → View P
  first_view start = fresh (marks_at start) (record { number = 1; parts = start.seats; seats = start.seats })

  -- a seat is cut in two

  abbrev pub left_of : View P → View P
  left_of v = record v { rank = left_rank v.rank }

  abbrev pub right_of : View P → View P
  right_of v = fresh v.marks.seen (right_rank v.rank)

  -- two seats become one

  abbrev pub both_of : View P → View P → View P
  both_of v w = record {
    marks = record { seen = higher v.marks.seen w.marks.seen; made = higher v.marks.made w.marks.made };
    rank = both_ranks v.rank w.rank;
    holds = None;
    met = v.met ++ w.met;
    claims = v.claims + w.claims;
    last_slot = 0;
    last_found = 0;
    handed = v.handed ++ w.handed;
  }

  abbrev pub spent_view : View P
  spent_view = fresh [] no_rank
