use Rattle.std.proofs.Common.{◌∙◌, ◌+◌, take}
use Rattle.std.proofs.lemmas.Result.{err_from_is_err_and}
use Rattle.mq_inodes.specs.Fits.{Agrees}
use Rattle.mq_inodes.specs.Pages.{pages_of}
use Rattle.mq_inodes.specs.Walks.{LeadsPast, LooksUnder}
use Rattle.mq_inodes.proofs.MissingPages.{lacks-weaker}
use Rattle.mq_inodes.proofs.Walks.{past-walk, walk-dir, walk-more, walk-refused}
use Rattle.mq_tree.specs.Volume.{Volume, way}
use Rattle.mq_inodes.proofs.working.Working.walk.Goals as goal

pub enter-requires-clause-dir : goal.enter-requires-clause-dir
enter-requires-clause-dir c v agrees = walk-dir c.args.self.now.geometry v (way (take c.loop-name.name-index c.args.names.now)) c.loop-name.at agrees.sound (c.loop-name.invariant v agrees)

pub returns-in_err-i-clause-lack : goal.returns-in_err-i-clause-lack
returns-in_err-i-clause-lack c =
    let p = err_from_is_err_and c.from_residual.result c.from_residual.ensures.1 in
    rw (p.1, p.2) (lacks-weaker (pages_of c.args.self.now) (λ b. (v : Volume) → Agrees c.args.self.now.geometry (pages_of c.args.self.now) v → LooksUnder c.args.self.now.geometry v c.loop-name.at c.name-item.result b) (λ b. (v : Volume) → Agrees c.args.self.now.geometry (pages_of c.args.self.now) v → LeadsPast c.args.self.now.geometry v (way c.args.names.now) b) c.in_err-i.field-0.0
    (λ b h v agrees. past-walk c.args.self.now.geometry v c.args.names.now c.loop-name.name-index c.name-item.result c.loop-name.at b agrees.sound c.loop-name-test.true c.name-item.is (c.loop-name.invariant v agrees) (h v agrees)) c.in_err-i.ensures.lack)

pub returns-in-Err-clause-ok : goal.returns-in-Err-clause-ok
returns-in-Err-clause-ok c v agrees =
    walk-refused v c.args.names.now (c.loop-name.name-index + 1) c.in-Err.fault (walk-more v c.args.names.now c.loop-name.name-index c.name-item.result c.loop-name.at _ c.loop-name-test.true c.name-item.is (c.loop-name.invariant v agrees) (c.in_ok-i.ensures.ok v agrees) ∙ c.in-Err.is)
