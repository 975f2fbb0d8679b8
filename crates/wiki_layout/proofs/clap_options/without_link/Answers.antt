use Rattle.std.proofs.Common.{option_map, sym, ap, subst, ◌∙◌, true≢false}
use Rattle.wiki_model.specs.Commands.{AreOptions}
use Rattle.wiki_layout.specs.Options.{OptionsAre}
use Rattle.wiki_layout.specs.AsModel.{options_of, texts_of}
use Rattle.wiki_layout.proofs.AtMostOnce.{same_options}
use Rattle.wiki_layout.proofs.clap_options.without_link.Goals as goal

pub returns-then-options : goal.returns-then-options
returns-then-options c = λ other no are.
    let these : AreOptions (options_of c.in-Some.options) (texts_of c.args.words.now) =
    subst (λ o. OptionsAre (texts_of c.args.words.now)
    (option_map options_of o)) c.in-Some.is c.read_options.ensures in
    let same = same_options (texts_of c.args.words.now) (options_of c.in-Some.options) other these are in
    true≢false (sym c.if-options.true ∙ (ap (λ o. o.link) same ∙ no))
