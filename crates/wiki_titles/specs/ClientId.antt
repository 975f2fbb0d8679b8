-- The client that a text names, and the client of a request.
use Rattle.std.specs.Prelude.{if◌then◌else◌, ◌∷◌, ◌++◌, Option, Some, None}
use Rattle.std.specs.Int.{from_be_bytes, w128}
use Rattle.md5.specs.Md5.{md5}
use Rattle.wiki_model.specs.Bytes.{Bytes, line_feed}
use Rattle.wiki_model.specs.Titles.{Client, is_client}
use Rattle.wiki_model.specs.Script.{hex}

-- the bytes themselves if they are a client's digits
abbrev pub client_of : Bytes → Option Client
client_of text = if is_client text then Some text else None

-- the MD5 digest of the peer, a line feed and the agent, read as one number, in 32 digits
abbrev pub client_after : (peer agent : Bytes) → Client
client_after peer agent = hex 32 (from_be_bytes w128 (md5 (peer ++ line_feed ∷ agent)))
