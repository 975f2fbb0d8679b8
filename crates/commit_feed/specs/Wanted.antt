-- Which commits are looked for, as a test of a commit.
use Rattle.std.specs.Prelude.{Bool}
use Rattle.wiki_model.specs.History.{Commit}
use Rattle.commit_feed.specs.declared.find.Wanted.{Wanted}
use Rattle.commit_feed.specs.declared.find.Wanted.TheVariants.{On, By, Of}
use Rattle.commit_feed.specs.Feed.{on, by, of}

abbrev pub test_of : Wanted → Commit → Bool
test_of (On title) = on title.now
test_of (By client) = by client.now
test_of (Of client token) = of client.now token.now
