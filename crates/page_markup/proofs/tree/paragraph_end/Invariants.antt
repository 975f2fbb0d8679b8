use Rattle.std.proofs.Common.{◌≡◌, ◌≤◌, ◌<◌, ◌+◌, ◌-◌, length, drop, take, get_or}
use Rattle.std.specs.Str.{IsCharBoundary}
use Rattle.wiki_model.specs.Bytes.{line_feed}
use Rattle.page_markup.specs.Runs.{lines_from, paragraph_then}
use Rattle.page_markup.proofs.tree.paragraph_end.Given as goal

abbrev pub invariant-loop-end : goal.invariant-loop-end
invariant-loop-end l = record {
  order : l.fn.end ≤ l.end;
  within : l.end ≤ length l.text;
  feed : l.end < length l.text → get_or l.text l.end 0 ≡ line_feed;
  cut : IsCharBoundary l.text l.end;
  next : l.end < length l.text → IsCharBoundary l.text (l.end + 1);
  lines : paragraph_then (take (l.end - l.from) (drop l.from l.text)) (lines_from (drop (l.end + 1) l.text)) ≡ paragraph_then (take (l.fn.end - l.from) (drop l.from l.text)) (lines_from (drop (l.fn.end + 1) l.text));
}

abbrev pub decreases-loop-end : goal.decreases-loop-end
decreases-loop-end l = length l.text - l.end
