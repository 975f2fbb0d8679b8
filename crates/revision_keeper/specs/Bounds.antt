-- The bounds of what a keeper answers, whether or not it exposes its content.
use Rattle.std.specs.Prelude.{◌<◌, ◌≤◌, ◌^◌, List}
use Rattle.wiki_model.specs.Limits.{greatest_moment}
use Rattle.wiki_model.specs.Titles.{Client}
use Rattle.wiki_model.specs.History.{Entry, Beat, Committed, count, own, stamp_at}
use Rattle.commit_feed.specs.declared.feed.Writes.{Writes}

abbrev pub IsSmall : Entry → Type 0
IsSmall (Beat stamp) = stamp ≤ greatest_moment
IsSmall (Committed c) = (c.stamp ≤ greatest_moment) × (c.revision < 2 ^ 63) × (c.index < 2 ^ 63)

abbrev pub AreSmall : Writes → Type 0
AreSmall writes = (writes.count < 2 ^ 63) × (writes.last < 2 ^ 63) × (writes.stamp ≤ greatest_moment)

-- what a client has committed: how often, and the number and stamp of its last commit
abbrev pub writes_of : List Entry → Client → Writes
writes_of history client = record {
  count = count history client;
  last = own history client;
  stamp = stamp_at history (own history client);
}
