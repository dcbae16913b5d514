use Rattle.std.proofs.Common.{rules, ◌≡◌, ◌∙◌, ℕ, List, [], Option, Bor, get_or, map, ap}
use Rattle.std.specs.Prelude.{option_map}
use Rattle.std.proofs.lemmas.List.{take_all}
use Rattle.clap.specs.Words.{Text, app_of, rule_of, with_rule}
use Rattle.mq_cli.specs.Syntax.{app_with, option_rule}
use Rattle.mq_cli.proofs.SyntaxApps.{option_more, step}
use Rattle.mq_cli.proofs.parse.with_words.Goals as goal

pub loop-option-preserved : goal.loop-option-preserved
loop-option-preserved c =
    let d : Bor (List ℕ) = record { ref_ptr = (0, 0); now = [] } in
    let items : List (Bor (List ℕ)) = c.args.options.now in
    let names : List Text = map (λ s. s.now) c.args.names.now in
    let repeated : Option Text = option_map (λ s. s.now) c.args.repeated in
    let option : Text = (get_or items c.loop-option.option-index d).now in
    let rule : rule_of c.action-option.result ≡ option_rule option = search rules in
    step (λ (s : Bor (List ℕ)). s.now) (app_with c.args.verb.now names repeated) option_rule (option_more c.args.verb.now names repeated) items c.loop-option.option-index d c.loop-option-test.true (app_of c.loop-option.command) (app_of c.in_ok-command-2.command) c.loop-option.invariant
    (c.in_ok-command-2.ensures.shape (search rules) ∙ ap (with_rule (app_of c.loop-option.command)) rule)

pub returns : goal.returns
returns c =
    let items : List (Bor (List ℕ)) = c.args.options.now in
    c.loop-option.invariant
    ∙ ap (λ (l : List (Bor (List ℕ))). app_with c.args.verb.now (map (λ s. s.now) c.args.names.now) (option_map (λ s. s.now) c.args.repeated) (map (λ s. s.now) l)) (take_all c.loop-option.option-index items c.loop-option-test.false)
