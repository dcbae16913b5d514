use Rattle.std.proofs.Common.{◌≡◌, ◌+◌, ◌≤◌, length, subst, arith}
use Rattle.mq_blocks.proofs.DescriptorLimits.{further-none}
use Rattle.mq_queue_side.specs.Parts.{HasFurther}
use Rattle.mq_queue_side.proofs.commit.write_blocks.Goals as goal

pub returns-in-None-clause-rest : goal.returns-in-None-clause-rest
returns-in-None-clause-rest c =
    let d = c.args.d.now in
    let few : length d.logged + length d.revoked ≤ 1010 = subst (HasFurther (length d.logged + length d.revoked)) c.in-None.is c.requires.before in
    λ one. absurd (omega (arith, one, further-none (length d.logged + length d.revoked) few))
