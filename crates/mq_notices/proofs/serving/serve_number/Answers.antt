use Rattle.std.proofs.Common.{ℕ, [], sym, subst}
use Rattle.std.specs.Prelude.{Option}
use Rattle.mq_notices.specs.Notices.{with_number}
use Rattle.mq_notices.specs.Serving.{Serves}
use Rattle.mq_notices.specs.Serving.Serves.{begins, goes}
use Rattle.mq_notices.proofs.serving.serve_number.Goals as goal

pub returns-in-Some-clause-served : goal.returns-in-Some-clause-served
returns-in-Some-clause-served g c = subst (λ (o : Option ℕ). Serves (g.S.Serve.serves c.args.context.now) c.args.server.now (with_number o []) c.serve.new.self) (sym c.in-Some.is) (goes begins c.serve.ensures.served)

pub returns-in_default-clause-served : goal.returns-in_default-clause-served
returns-in_default-clause-served g c = subst (λ (o : Option ℕ). Serves (g.S.Serve.serves c.args.context.now) c.args.server.now (with_number o []) c.args.server.now) (sym c.in_default.is) begins
