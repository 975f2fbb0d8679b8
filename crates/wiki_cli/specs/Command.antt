-- Which words are a command, and the lines that the program writes besides a report.
use Rattle.std.specs.Prelude.{◌≡◌, ℕ, ◌-◌, false, if◌then◌else◌, List, [], ◌∷◌, ◌++◌, map, Option, None, Some, option_map, option_and_then, codes, decimal, bytes_eq, string_bytes, String}
use Rattle.std.specs.declared.alloc.Global.{Global}
use Rattle.wiki_model.specs.Bytes.{Bytes}
use Rattle.wiki_model.specs.Limits.{seed_limit, steps_max}
use Rattle.wiki_model.specs.Commands as model
use Rattle.wiki_model.specs.Commands.{IsCommand, Options}
use Rattle.drill_script.specs.Words.{number_of}
use Rattle.wiki_layout.specs.Options.{options_read}
use Rattle.wiki_cli.specs.declared.command.Command.{Command}
use Rattle.wiki_cli.specs.declared.command.Command.TheVariants as command
use Rattle.wiki_cli.specs.declared.command.ScriptCommand.{ScriptCommand}
use Rattle.wiki_cli.specs.declared.command.ScriptCommand.TheVariants as script

abbrev pub word_texts : List (String Global) → List Bytes
word_texts words = map string_bytes words

abbrev pub command_of : ScriptCommand → model.Command
command_of script.Drill = model.Drill
command_of (script.Stir seed steps) = model.Stir seed steps

-- the words are the command's
abbrev pub AreWordsOf : ScriptCommand → List (String Global) → Type 0
AreWordsOf command words = IsCommand (command_of command) (word_texts words)

-- the texts are `serve` with this number of connections, and ask for no other program's history
abbrev pub AreServeTexts : (connections : ℕ) → (texts : List Bytes) → Type 0
AreServeTexts connections texts =
    (options : Options) × IsCommand (model.Serve options) texts × (options.link ≡ false)
    × (options.connections ≡ connections)

abbrev pub AreServeWords : (connections : ℕ) → List (String Global) → Type 0
AreServeWords connections words = AreServeTexts connections (word_texts words)

-- the texts are `serve` with this file for the history, or with none or no `serve` at all
abbrev pub NamesStore : (texts : List Bytes) → Option Bytes → Type 0
NamesStore texts (Some path) =
    (options : Options) × IsCommand (model.Serve options) texts × (options.link ≡ false) × (options.store ≡ Some path)
NamesStore texts None =
    (options : Options) → IsCommand (model.Serve options) texts → options.link ≡ false → options.store ≡ None

-- the words are no command
abbrev pub AreNoCommand : List (String Global) → Type 0
AreNoCommand words =
    ((command : ScriptCommand) → AreWordsOf command words → ⊥)
    × ((connections : ℕ) → AreServeWords connections words → ⊥)

-- the words run a script, and so begin a history
abbrev pub AreScriptWords : List (String Global) → Type 0
AreScriptWords words = (command : ScriptCommand) × AreWordsOf command words

abbrev pub ReadsCommand : Option Command → List (String Global) → Type 0
ReadsCommand (Some (command.Script script)) words = AreWordsOf script words
ReadsCommand (Some (command.Serve connections)) words = AreServeWords connections words
ReadsCommand None words = AreNoCommand words

-- the same by the words one by one
abbrev pub drill_in : (word : Bytes) → Option ScriptCommand
drill_in word = if bytes_eq word (codes "drill") then Some script.Drill else None

abbrev pub stir_numbers : (seed steps : Option ℕ) → Option ScriptCommand
stir_numbers (Some seed) (Some steps) = Some (script.Stir seed steps)
stir_numbers _ _ = None

abbrev pub stir_in : (word seed steps : Bytes) → Option ScriptCommand
stir_in word seed steps =
    if bytes_eq word (codes "stir")
    then stir_numbers (number_of (seed_limit - 1) seed) (number_of steps_max steps)
    else None

-- the command of a script, by these texts
abbrev pub script_in : List Bytes → Option ScriptCommand
script_in (word ∷ []) = drill_in word
script_in (word ∷ seed ∷ steps ∷ []) = stir_in word seed steps
script_in _ = None

abbrev pub script_by : List (String Global) → Option ScriptCommand
script_by (word ∷ []) = drill_in (string_bytes word)
script_by (word ∷ seed ∷ steps ∷ []) = stir_in (string_bytes word) (string_bytes seed) (string_bytes steps)
script_by _ = None

abbrev pub serve_of : Options → Option Command
serve_of options = if options.link then None else Some (command.Serve options.connections)

abbrev pub serve_in : (rest : List Bytes) → Option Command
serve_in rest = option_and_then serve_of (options_read rest)

-- the texts after the word `serve`
abbrev pub after_serve : List Bytes → Option (List Bytes)
after_serve [] = None
after_serve (word ∷ rest) = if bytes_eq word (codes "serve") then Some rest else None

abbrev pub serve_or_script : Option (List Bytes) → (texts : List Bytes) → Option Command
serve_or_script (Some rest) texts = serve_in rest
serve_or_script None texts = option_map command.Script (script_in texts)

-- the file for the history
abbrev pub store_by : Options → Option Bytes
store_by options = if options.link then None else options.store

abbrev pub store_after : (rest : List Bytes) → Option Bytes
store_after rest = option_and_then store_by (options_read rest)

-- the command of these texts
abbrev pub command_in : List Bytes → Option Command
command_in texts = serve_or_script (after_serve texts) texts

abbrev pub usage_line : Bytes
usage_line = codes "usage: wiki drill | wiki stir SEED STEPS | wiki serve [--connections N] [--store PATH]\n"

abbrev pub read_fault_line : Bytes
read_fault_line = codes "read-fault\n"

abbrev pub store_fault_line : Bytes
store_fault_line = codes "store-fault\n"

abbrev pub script_line : ℕ → Bytes
script_line n = codes "script line=" ++ (decimal n ++ codes "\n")

abbrev pub not_empty_line : ℕ → Bytes
not_empty_line n = codes "not-empty entries=" ++ (decimal n ++ codes "\n")

abbrev pub layout_line : ℕ → Bytes
layout_line rule = codes "layout rule=" ++ (decimal rule ++ codes "\n")

abbrev pub door_fault_line : Bytes
door_fault_line = codes "door-fault\n"

abbrev pub served_line : ℕ → Bytes
served_line n = codes "served connections=" ++ (decimal n ++ codes "\n")
