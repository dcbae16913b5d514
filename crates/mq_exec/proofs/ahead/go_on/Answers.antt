use Rattle.std.proofs.Common.{◌≡◌, true, sym, subst}
use Rattle.std.specs.Prelude.{IfOk}
use Rattle.mq_exec.specs.Ahead.{AddsOf, GoesOn}
use Rattle.mq_tree.specs.Kept.{HasBytes}
use Rattle.mq_tree.specs.declared.request.Request.{Request}
use Rattle.mq_exec.proofs.ahead.go_on.Goals as goal

pub returns-in-Mkdir-clause-adds : goal.returns-in-Mkdir-clause-adds
returns-in-Mkdir-clause-adds c =
    let w = c.args.working.now in
    subst (λ (x : Request). IfOk c.make_unseen.result (λ _. AddsOf w c.args.queue x c.args.lacked.now.items c.make_unseen.new.lacked.items)) (sym c.in-Mkdir.is) c.make_unseen.ensures.adds

pub returns-in-Mkdir-clause-goes : goal.returns-in-Mkdir-clause-goes
returns-in-Mkdir-clause-goes c =
    let w = c.args.working.now in
    subst (λ (x : Request). IfOk c.make_unseen.result (λ goes. goes ≡ true → GoesOn c.args.queue x w c.make_unseen.new.working)) (sym c.in-Mkdir.is) c.make_unseen.ensures.goes

pub returns-in-Create-clause-adds : goal.returns-in-Create-clause-adds
returns-in-Create-clause-adds c =
    let w = c.args.working.now in
    subst (λ (x : Request). IfOk c.make_unseen-in-Create.result (λ _. AddsOf w c.args.queue x c.args.lacked.now.items c.make_unseen-in-Create.new.lacked.items)) (sym c.in-Create.is) c.make_unseen-in-Create.ensures.adds

pub returns-in-Create-clause-goes : goal.returns-in-Create-clause-goes
returns-in-Create-clause-goes c =
    let w = c.args.working.now in
    subst (λ (x : Request). IfOk c.make_unseen-in-Create.result (λ goes. goes ≡ true → GoesOn c.args.queue x w c.make_unseen-in-Create.new.working)) (sym c.in-Create.is) c.make_unseen-in-Create.ensures.goes

pub returns-in-Mkdir-clause-bytes : goal.returns-in-Mkdir-clause-bytes
returns-in-Mkdir-clause-bytes c good = subst (λ (r : Request). HasBytes r) (sym c.in-Mkdir.is) tt

pub returns-in-Create-clause-bytes : goal.returns-in-Create-clause-bytes
returns-in-Create-clause-bytes c good = subst (λ (r : Request). HasBytes r) (sym c.in-Create.is) tt
