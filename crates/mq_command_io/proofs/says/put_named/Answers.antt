use Rattle.std.proofs.Common.{◌≡◌, ℕ, List, [], ◌∷◌, ◌++◌, Option, ◌∙◌, ap}
use Rattle.std.proofs.lemmas.Result.{MatchResult-weaker}
use Rattle.mq_outside.specs.Outside.{appended}
use Rattle.mq_command_io.proofs.Ending.{on_err, appended_twice, prefix_next, prefix_longer}
use Rattle.mq_command_io.proofs.says.put_named.Goals as goal

pub returns-in_err-put_all-2-clause-wrote : goal.returns-in_err-put_all-2-clause-wrote
returns-in_err-put_all-2-clause-wrote g c =
    let state = g.K.Sink.state in
    let old : Option (List ℕ) = (state c.args.out.now).contents in
    let one : Option (List ℕ) = (state c.put_all.new.sink).contents in
    let two : Option (List ℕ) = (state c.put_all-2.new.sink).contents in
    let first : one ≡ appended old c.args.first.now = c.in_ok-put_all.ensures.wrote in
    on_err c.from_residual-in_err-put_all-2.result (λ x. two ≡ appended old (c.args.first.now ++ (c.args.name.now ++ 10 ∷ []))) c.from_residual-in_err-put_all-2.ensures.0
    (λ e. prefix_next old one two c.args.first.now (c.args.name.now ++ 10 ∷ []) first (prefix_longer one two c.args.name.now (10 ∷ []) c.in_err-put_all-2.ensures.wrote))

pub returns-clause-wrote : goal.returns-clause-wrote
returns-clause-wrote g c =
    let state = g.K.Sink.state in
    let old : Option (List ℕ) = (state c.args.out.now).contents in
    let one : Option (List ℕ) = (state c.put_all.new.sink).contents in
    let two : Option (List ℕ) = (state c.put_all-2.new.sink).contents in
    let three : Option (List ℕ) = (state c.put_all-3.new.sink).contents in
    let first : one ≡ appended old c.args.first.now = c.in_ok-put_all.ensures.wrote in
    let second : two ≡ appended one c.args.name.now = c.in_ok-put_all-2.ensures.wrote in
    MatchResult-weaker c.put_all-3.result c.put_all-3.ensures.wrote
    (λ x is. is ∙ ap (λ (o : Option (List ℕ)). appended o (10 ∷ [])) second ∙ appended_twice one c.args.name.now (10 ∷ [])
    ∙ ap (λ (o : Option (List ℕ)). appended o (c.args.name.now ++ 10 ∷ [])) first ∙ appended_twice old c.args.first.now (c.args.name.now ++ 10 ∷ []))
    (λ e prefix. prefix_next old one three c.args.first.now (c.args.name.now ++ 10 ∷ []) first (prefix_next one two three c.args.name.now (10 ∷ []) second prefix))
