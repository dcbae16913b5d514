use Rattle.std.proofs.Common.{◌∙◌, ℕ, List, sym, subst}
use Rattle.mq_blocks.specs.Descriptor.{AreRising}
use Rattle.mq_blocks.specs.Geometry.{homes_of}
use Rattle.mq_revoke.specs.Placing.{AreInOrder}
use Rattle.mq_revoke.specs.declared.placement.Planned.{Planned}
use Rattle.mq_sessions.proofs.PlansTold.{blocks-planned}
use Rattle.mq_sessions.proofs.preparing.place.Goals as goal

pub plan-requires : goal.plan-requires
plan-requires c =
    subst (λ (ps : List Planned). AreInOrder c.args.geometry ps) (sym (c.deref.ensures.value ∙ c.in_ok-planned.ensures))
    (subst (λ (bs : List ℕ). AreRising 0 (homes_of c.args.geometry) bs) (sym (blocks-planned c.args.held.now.cells c.args.writes.now)) c.requires.rise)
