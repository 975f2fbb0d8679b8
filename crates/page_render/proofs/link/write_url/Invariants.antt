use Rattle.std.proofs.Common.{◌≡◌, ◌++◌, drop}
use Rattle.wiki_model.specs.Titles.{url_of}
use Rattle.page_render.proofs.link.write_url.Given as goal

abbrev pub invariant-loop-byte : goal.invariant-loop-byte
invariant-loop-byte l = l.out.items ++ url_of (drop l.byte-index l.title) ≡ l.fn.out.items ++ url_of l.title
