-- The fields that are written one after another are the completion's.
use Rattle.std.proofs.Common.{rules, ◌≡◌, ◌<◌, ◌^◌}
use Rattle.mq_nvme.proofs.CompletionCommands.{status_of-completion}
use Rattle.mq_nvme.proofs.FieldWritings.{bit, completion_written}
use Rattle.mq_nvme.proofs.completion.completion_of.Goals as goal

pub returns-clause-is : goal.returns-clause-is
returns-clause-is c =
    let x = c.args.ended.now in
    let phase : c.from-4.result ≡ bit x.phase = search rules in
    let h : x.sq_head < 2 ^ 16 = search rules in
    let i : x.sq_id < 2 ^ 16 = search rules in
    let j : x.cid < 2 ^ 16 = search rules in
    rw (
      c.set-5.ensures.is,
      c.set-4.ensures.is,
      c.set-3.ensures.is,
      c.set-2.ensures.is,
      c.set.ensures.is,
      c.from.ensures,
      c.from-2.ensures,
      c.from-3.ensures,
      phase,
      c.from-5.ensures,
    ) (completion_written x h i j c.requires)

pub returns-clause-status : goal.returns-clause-status
returns-clause-status c =
    let x = c.args.ended.now in
    let j : x.cid < 2 ^ 16 = search rules in
    rw (returns-clause-is c) (status_of-completion x j)
