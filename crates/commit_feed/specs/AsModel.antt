-- What the entries of this crate stand for in the model's definitions.
-- A title, a token and a text are seen as their bytes, a moment as its number.
use Rattle.wiki_model.specs.History as history
use Rattle.commit_feed.specs.declared.entry.Entry.{Entry}
use Rattle.commit_feed.specs.declared.entry.Entry.TheVariants.{Beat, Commit}

abbrev pub entry_of : Entry → history.Entry
entry_of (Beat stamp) = history.Beat stamp
entry_of (Commit stamp purge title revision client index token base text) =
    history.Committed (record {
      stamp = stamp;
      purge = purge;
      revision = revision;
      index = index;
      edit = record { client = client; token = token; title = title; base = base; text = text };
    })
