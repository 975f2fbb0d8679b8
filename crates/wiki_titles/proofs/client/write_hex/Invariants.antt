use Rattle.std.proofs.Common.{◌≡◌, ◌-◌, ◌++◌, length, drop}
use Rattle.wiki_model.specs.Script.{hex}
use Rattle.wiki_titles.proofs.client.write_hex.Given as goal

-- the digits written so far, after those of the rest, are all
abbrev pub invariant-loop-i : goal.invariant-loop-i
invariant-loop-i l = record {
  room : length l.digits ≡ l.count;
  all : hex (l.count - l.i) l.rest ++ drop (l.count - l.i) l.digits ≡ hex l.count l.fn.n;
}
