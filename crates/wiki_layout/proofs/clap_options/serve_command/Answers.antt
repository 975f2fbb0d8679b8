use Rattle.std.proofs.Common.{rules, ap, ap₂, codes, true, ◌≡◌, ◌∙◌}
use Rattle.clap.specs.Walk.{rule_of}
use Rattle.clap.specs.Simple.{app_of, app_of_fields, new_app, with_rule, on_top}
use Rattle.wiki_layout.specs.ClapOptions.{option_rule}
use Rattle.wiki_layout.proofs.clap_options.serve_command.Goals as goal

pub returns : goal.returns
returns c =
    let one : rule_of c.action-connections.result ≡ option_rule (codes "connections") = search rules in
    let two : rule_of c.action-store.result ≡ option_rule (codes "store") = search rules in
    let first : app_of c.no_binary_name.result
    ≡ on_top (λ s. record s { no_binary_name = true }) (new_app (codes "serve")) =
    ap app_of_fields c.no_binary_name.ensures
    ∙ ap (on_top (λ s. record s { no_binary_name = true })) c.new-3.ensures.app in
    let second : app_of c.disable_help_flag.result
    ≡ on_top (λ s. record s { no_binary_name = true; disable_help_flag = true }) (new_app (codes "serve")) =
    ap app_of_fields c.disable_help_flag.ensures ∙ ap (on_top (λ s. record s { disable_help_flag = true })) first in
    let third : app_of c.disable_version_flag-plain.result
    ≡ on_top (λ s. record s { no_binary_name = true; disable_help_flag = true; disable_version_flag = true })
    (new_app (codes "serve")) =
    ap app_of_fields c.disable_version_flag-plain.ensures
    ∙ ap (on_top (λ s. record s { disable_version_flag = true })) second in
    c.in_ok-whole.ensures.shape (search rules)
    ∙ ap₂ with_rule (c.in_ok-command.ensures.shape (search rules) ∙ ap₂ with_rule third one) two
