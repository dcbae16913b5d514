use Rattle.std.proofs.Common.{◌∙◌, List, Option, map, ap}
use Rattle.std.specs.Prelude.{option_map}
use Rattle.std.proofs.lemmas.Result.{IfOk-weaker}
use Rattle.clap.specs.Words.{Text}
use Rattle.mq_cli.specs.Syntax.{app_for, app_with, names_for, repeated_for, verb_text}
use Rattle.mq_cli.proofs.parse.command_for.Goals as goal

pub returns : goal.returns
unfolding app_for
returns c =
    let v = c.args.verb in
    IfOk-weaker c.with_words.result _ _ (λ x is. is
    ∙ ap (λ (t : Text). app_with t (map (λ s. s.now) c.names.result.now) (option_map (λ s. s.now) c.repeated.result) (map (λ s. s.now) c.options.result.now)) c.name.ensures
    ∙ ap (λ (ns : List Text). app_with (verb_text v) ns (option_map (λ s. s.now) c.repeated.result) (map (λ s. s.now) c.options.result.now)) c.names.ensures
    ∙ ap (λ (o : Option Text). app_with (verb_text v) (names_for v) o (map (λ s. s.now) c.options.result.now)) c.repeated.ensures
    ∙ ap (app_with (verb_text v) (names_for v) (repeated_for v)) c.options.ensures) c.with_words.ensures
