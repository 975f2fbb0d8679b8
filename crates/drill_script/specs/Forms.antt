-- The forms of a script's line, as functions on bytes that give the line, or none outside the grammar.
-- That they read exactly what the model's `Spells` says is proved in proofs/Spelled.antt.
use Rattle.std.specs.Prelude.{ℕ, ◌-◌, Option, None, Some, if◌then◌else◌, codes}
use Rattle.std.specs.Str.{bytes_eq}
use Rattle.wiki_model.specs.Bytes.{Bytes}
use Rattle.wiki_model.specs.History.{Edit}
use Rattle.wiki_model.specs.Limits.{greatest_moment, id_limit, replicas_max, bound_max, count_max}
use Rattle.wiki_model.specs.World.{Asked, View}
use Rattle.wiki_model.specs.World.Asked.{AskedView, AskedEdit}
use Rattle.wiki_model.specs.Script.{Line}
use Rattle.wiki_model.specs.Script.Line.{FarmLine, BoundsLine, At, BeatLine, ApplyLine, EditLine, ViewLine, Open, BeginLine, CommitLine, WaitLine, LookLine, SnapLine, StoreLine, CarryLine, DropLine, MarkupLine, End}
use Rattle.drill_script.specs.Words.{◌>>=◌, word_at, number_of, positive_of, largest, client_in, region_in, token_in, title_in, last_title, text_in, weights_in, cookie_in, utf8_of}

-- the greatest number that is kept of a replica
abbrev pub replica_most : ℕ
replica_most = 255

-- CLIENT TOKEN TITLE BASE TEXT
unfoldable pub edit_in : Bytes → Option Edit
edit_in text = do
  client ← word_at text
  who ← client_in client.0
  token ← word_at client.1
  mark ← token_in token.0
  title ← word_at token.1
  name ← title_in title.0
  base ← word_at title.1
  revision ← number_of largest base.0
  content ← text_in base.1
  Some (record { client = who; token = mark; title = name; base = revision; text = content })

-- HOST CLIENT COOKIE WORD TITLE
unfoldable pub view_in : Bytes → Option View
view_in text = do
  host ← word_at text
  region ← region_in host.0
  client ← word_at host.1
  who ← client_in client.0
  cookie ← word_at client.1
  known ← cookie_in who cookie.0
  word ← word_at cookie.1
  draw ← number_of largest word.0
  name ← last_title word.1
  Some (record { host = region; client = who; cookie = known.0; use_master = known.1; word = draw; title = name })

abbrev pub asked_named : Bytes → Bytes → Option Asked
asked_named name text =
    if bytes_eq name (codes "edit") then (edit_in text >>= (λ edit. Some (AskedEdit edit)))
    else (if bytes_eq name (codes "view") then (view_in text >>= (λ view. Some (AskedView view))) else None)

unfoldable pub asked_in : Bytes → Option Asked
asked_in text = do
  name ← word_at text
  asked_named name.0 name.1

-- ID and an edit or a view
unfoldable pub open_in : Bytes → Option Line
open_in text = do
  number ← word_at text
  id ← positive_of (id_limit - 1) number.0
  asked ← asked_in number.1
  Some (Open id asked)

-- WEIGHTS WEIGHTS EPOCH
unfoldable pub farm_in : Bytes → Option Line
farm_in text = do
  first ← word_at text
  home ← weights_in replicas_max first.0
  second ← word_at first.1
  west ← weights_in replicas_max second.0
  epoch ← number_of greatest_moment second.1
  Some (FarmLine home west epoch)

-- DELAY LAG SKEW
unfoldable pub bounds_in : Bytes → Option Line
bounds_in text = do
  first ← word_at text
  delay ← number_of bound_max first.0
  second ← word_at first.1
  lag ← number_of bound_max second.0
  skew ← positive_of bound_max second.1
  Some (BoundsLine (record { commit_delay = delay; read_lag = lag; skew = skew }))

-- HOME WEST
unfoldable pub at_in : Bytes → Option Line
at_in text = do
  first ← word_at text
  home ← number_of greatest_moment first.0
  west ← number_of greatest_moment first.1
  Some (At (record { home = home; west = west }))

-- REGION REPLICA COUNT, with a replica up to the greatest
unfoldable pub apply_in : (greatest : ℕ) → Bytes → Option Line
apply_in greatest text = do
  first ← word_at text
  region ← region_in first.0
  second ← word_at first.1
  replica ← number_of greatest second.0
  count ← positive_of count_max second.1
  Some (ApplyLine region replica count)

abbrev pub id_line : (ℕ → Line) → Bytes → Option Line
id_line line text = positive_of (id_limit - 1) text >>= (λ id. Some (line id))

abbrev pub number_line : (ℕ → Line) → Bytes → Option Line
number_line line text = number_of largest text >>= (λ n. Some (line n))

-- the lines of a word and a number
abbrev pub numbered : Bytes → Bytes → Option Line
numbered name text =
    if bytes_eq name (codes "begin") then id_line BeginLine text
    else (if bytes_eq name (codes "commit") then id_line CommitLine text
    else (if bytes_eq name (codes "wait") then id_line WaitLine text
    else (if bytes_eq name (codes "look") then id_line LookLine text
    else (if bytes_eq name (codes "snap") then id_line SnapLine text
    else (if bytes_eq name (codes "store") then id_line StoreLine text
    else (if bytes_eq name (codes "carry") then number_line CarryLine text
    else (if bytes_eq name (codes "drop") then number_line DropLine text
    else (if bytes_eq name (codes "markup") then (positive_of 2 text >>= (λ n. Some (MarkupLine n)))
    else None))))))))

-- the lines by their first word
abbrev pub named : (greatest : ℕ) → Bytes → Bytes → Option Line
named greatest name text =
    if bytes_eq name (codes "farm") then farm_in text
    else (if bytes_eq name (codes "bounds") then bounds_in text
    else (if bytes_eq name (codes "at") then at_in text
    else (if bytes_eq name (codes "apply") then apply_in greatest text
    else (if bytes_eq name (codes "edit") then (edit_in text >>= (λ edit. Some (EditLine edit)))
    else (if bytes_eq name (codes "view") then (view_in text >>= (λ view. Some (ViewLine view)))
    else (if bytes_eq name (codes "open") then open_in text
    else numbered name text))))))

unfoldable pub worded : (greatest : ℕ) → Bytes → Option Line
worded greatest text = do
  name ← word_at text
  named greatest name.0 name.1

-- what a text says
abbrev pub said_by : (greatest : ℕ) → Bytes → Option Line
said_by greatest text =
    if bytes_eq text (codes "beat") then Some BeatLine
    else (if bytes_eq text (codes "end") then Some End else worded greatest text)

unfoldable pub line_in : (greatest : ℕ) → Bytes → Option Line
line_in greatest line = do
  text ← utf8_of line
  said_by greatest text
