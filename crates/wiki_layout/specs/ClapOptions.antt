-- The options of a served farm as `clap` reads them, and what reading them so answers.
use Rattle.std.specs.Prelude.{ℕ, ◌≡◌, ◌<◌, ◌≤◌, true, false, List, Option, Some, None, IsTrue, codes, decimal}
use Rattle.clap.specs.Walk.{Rule, Row, first_of}
use Rattle.clap.specs.Simple.{App, new_app, new_rule, with_rule, on_top}
use Rattle.clap.specs.declared.builder.action.ArgAction.TheVariants.{Set}
use Rattle.wiki_model.specs.Bytes.{Bytes}
use Rattle.wiki_model.specs.Commands.{Options, AreOptions, is_path}
use Rattle.wiki_model.specs.Limits.{connections_max, connections_default}

abbrev pub option_rule : Bytes → Rule
option_rule name = record (new_rule name) { long = Some name; action = Some Set }

-- without a name of the program, help and version
abbrev pub plain_app : App
plain_app =
    on_top (λ s. record s { no_binary_name = true; disable_help_flag = true; disable_version_flag = true })
    (new_app (codes "serve"))

-- two options
abbrev pub serve_app : App
serve_app = with_rule (with_rule plain_app (option_rule (codes "connections"))) (option_rule (codes "store"))

abbrev pub IsConnections : Option Bytes → ℕ → Type 0
IsConnections None n = n ≡ connections_default
IsConnections (Some word) n = (0 < n) × (n ≤ connections_max) × (word ≡ decimal n)

abbrev pub IsStore : Option Bytes → Option Bytes → Type 0
IsStore None store = store ≡ None
IsStore (Some path) store = IsTrue (is_path path) × (store ≡ Some path)

-- the values that were read are these options
abbrev pub AreValues : List Row → Options → Type 0
AreValues rows options =
    IsConnections (first_of (codes "connections") rows) options.connections
    × IsStore (first_of (codes "store") rows) options.store

-- these options of a farm without a link, or none if no such options are the words
abbrev pub ServedBy : (words : List Bytes) → Option Options → Type 0
ServedBy words None = (options : Options) → options.link ≡ false → AreOptions options words → ⊥
ServedBy words (Some options) = AreOptions options words × (options.link ≡ false)
