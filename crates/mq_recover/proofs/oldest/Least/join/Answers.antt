use Rattle.std.proofs.Common.{arith}
use Rattle.mq_recover.proofs.Ends.{least-new, least-same, least-second, least-third}
use Rattle.mq_recover.proofs.oldest.Least.join.Goals as goal

pub returns-then-number-self : goal.returns-then-number-self
returns-then-number-self c chains is ends =
    least-new chains c.args.queue c.args.number ends (λ q n low there. let b = is.least q n low there in omega (arith, b))

pub returns-then-number-self-2 : goal.returns-then-number-self-2
returns-then-number-self-2 c chains is ends = least-same chains c.args.queue c.args.number c.args.self is ends (omega arith)

pub returns-in-Some : goal.returns-in-Some
returns-in-Some c chains is ends = least-third chains c.args.queue c.args.number c.in-Some.field-0 c.args.self is ends (omega arith) c.in-Some.is

pub returns-in-None : goal.returns-in-None
returns-in-None c chains is ends = least-second chains c.args.queue c.args.number c.args.self is ends (omega arith) c.in-None.is
