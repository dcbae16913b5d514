use Rattle.std.proofs.Common.{◌≡◌, refl, ap, ◌∙◌, ⊎_elim, inl, inr}
use Rattle.std.proofs.lemmas.Result.{err_from_is_err_and}
use Rattle.mq_blocks.specs.Drive.{PortState}
use Rattle.mq_drive.specs.Steps.{PowerOff}
use Rattle.mq_queue_side.specs.Side.{SideState, side_state}
use Rattle.mq_queue_side.proofs.DrainedCompletes.{gains_rises}
use Rattle.mq_queue_side.proofs.Drained.{rings_of, advances, advances_cut, stays_advanced, stays_cut, counts_advanced, counts_cut, head_posted, head_failed}
use Rattle.mq_queue_side.proofs.DrainedEvents.{moved}
use Rattle.mq_queue_side.proofs.SideHeads.{HeadMoves, head_at}
use Rattle.mq_queue_side.proofs.Told.{told_more}
use Rattle.mq_queue_side.proofs.side.QueueSide.advance.Goals as goal

pub returns-clause-advances : goal.returns-clause-advances
returns-clause-advances g c =
    let old : SideState = side_state g.P.Port.state g.P.Port.faults c.args.self.now in
    let ring = c.advance_head.new.self in
    let new : SideState = record { geometry = ring.geometry; queue = ring.queue; port = g.P.Port.state ring.port; faults = g.P.Port.faults ring.port; passed = ring.done; rung = ring.rung.items; done = c.in_ok-done.done; kept = c.args.self.now.kept } in
    let e = c.in_ok-done.ensures in
    let posted : new.port.posted ≡ old.port.posted = ap (λ (p : PortState). p.posted) e.ok ∙ head_posted old.port new.passed.end in
    let failed : new.port.failed ≡ old.port.failed = ap (λ (p : PortState). p.failed) e.ok ∙ head_failed old.port new.passed.end in
    let a : HeadMoves old new new.passed.end = record { geometry = e.own.0; queue = e.own.1; passed = e.done; rung = e.rung; end_is = refl; kept = refl } in
    advances old new a (rings_of old new _ _ c.args.self.now.pmr.fits ring.fits refl refl c.args.self.now.pmr.ends posted failed) _ e.ok e.answer e.cause

pub returns-in_err-done-clause-advances : goal.returns-in_err-done-clause-advances
returns-in_err-done-clause-advances g c =
    let old : SideState = side_state g.P.Port.state g.P.Port.faults c.args.self.now in
    let ring = c.advance_head.new.self in
    let new : SideState = record { geometry = ring.geometry; queue = ring.queue; port = g.P.Port.state ring.port; faults = g.P.Port.faults ring.port; passed = ring.done; rung = ring.rung.items; done = c.args.self.now.done; kept = c.args.self.now.kept } in
    let e = c.in_err-done.ensures in
    let posted : new.port.posted ≡ old.port.posted = ⊎_elim (λ e. ap (λ (p : PortState). p.posted) e) (λ e. ap (λ (p : PortState). p.posted) e) e.off in
    let failed : new.port.failed ≡ old.port.failed = ⊎_elim (λ e. ap (λ (p : PortState). p.failed) e) (λ e. ap (λ (p : PortState). p.failed) e) e.off in
    let a : HeadMoves old new new.passed.end = record { geometry = e.own.0; queue = e.own.1; passed = e.done; rung = e.rung; end_is = refl; kept = refl } in
    let p = err_from_is_err_and c.from_residual.result c.from_residual.ensures.1 in
    rw p.1 (advances_cut old new a (rings_of old new _ _ c.args.self.now.pmr.fits ring.fits refl refl c.args.self.now.pmr.ends posted failed) _ e.off refl e.cause)

pub returns-in_err-done-clause-stays : goal.returns-in_err-done-clause-stays
returns-in_err-done-clause-stays g c =
    let old : SideState = side_state g.P.Port.state g.P.Port.faults c.args.self.now in
    let ring = c.advance_head.new.self in
    let new : SideState = record { geometry = ring.geometry; queue = ring.queue; port = g.P.Port.state ring.port; faults = g.P.Port.faults ring.port; passed = ring.done; rung = ring.rung.items; done = c.args.self.now.done; kept = c.args.self.now.kept } in
    let e = c.in_err-done.ensures in
    let posted : new.port.posted ≡ old.port.posted = ⊎_elim (λ e. ap (λ (p : PortState). p.posted) e) (λ e. ap (λ (p : PortState). p.posted) e) e.off in
    let failed : new.port.failed ≡ old.port.failed = ⊎_elim (λ e. ap (λ (p : PortState). p.failed) e) (λ e. ap (λ (p : PortState). p.failed) e) e.off in
    let a : HeadMoves old new new.passed.end = record { geometry = e.own.0; queue = e.own.1; passed = e.done; rung = e.rung; end_is = refl; kept = refl } in
    stays_cut old new a (rings_of old new _ _ c.args.self.now.pmr.fits ring.fits refl refl c.args.self.now.pmr.ends posted failed) e.off refl

pub returns-in_err-done-clause-counts : goal.returns-in_err-done-clause-counts
returns-in_err-done-clause-counts g c =
    let old : SideState = side_state g.P.Port.state g.P.Port.faults c.args.self.now in
    let ring = c.advance_head.new.self in
    let new : SideState = record { geometry = ring.geometry; queue = ring.queue; port = g.P.Port.state ring.port; faults = g.P.Port.faults ring.port; passed = ring.done; rung = ring.rung.items; done = c.args.self.now.done; kept = c.args.self.now.kept } in
    let e = c.in_err-done.ensures in
    let posted : new.port.posted ≡ old.port.posted = ⊎_elim (λ e. ap (λ (p : PortState). p.posted) e) (λ e. ap (λ (p : PortState). p.posted) e) e.off in
    let failed : new.port.failed ≡ old.port.failed = ⊎_elim (λ e. ap (λ (p : PortState). p.failed) e) (λ e. ap (λ (p : PortState). p.failed) e) e.off in
    let a : HeadMoves old new new.passed.end = record { geometry = e.own.0; queue = e.own.1; passed = e.done; rung = e.rung; end_is = refl; kept = refl } in
    counts_cut old new a (rings_of old new _ _ c.args.self.now.pmr.fits ring.fits refl refl c.args.self.now.pmr.ends posted failed) (gains_rises PowerOff old.faults new.faults e.cause) e.off

pub returns-in_err-done-clause-told : goal.returns-in_err-done-clause-told
returns-in_err-done-clause-told g c first d = told_more first PowerOff (g.P.Port.faults c.args.self.now.pmr.port) (g.P.Port.faults c.advance_head.new.self.port) c.args.self.now.kept c.in_err-done.ensures.cause d

pub returns-clause-stays : goal.returns-clause-stays
returns-clause-stays g c =
    let old : SideState = side_state g.P.Port.state g.P.Port.faults c.args.self.now in
    let ring = c.advance_head.new.self in
    let new : SideState = record { geometry = ring.geometry; queue = ring.queue; port = g.P.Port.state ring.port; faults = g.P.Port.faults ring.port; passed = ring.done; rung = ring.rung.items; done = c.in_ok-done.done; kept = c.args.self.now.kept } in
    let e = c.in_ok-done.ensures in
    let posted : new.port.posted ≡ old.port.posted = ap (λ (p : PortState). p.posted) e.ok ∙ head_posted old.port new.passed.end in
    let failed : new.port.failed ≡ old.port.failed = ap (λ (p : PortState). p.failed) e.ok ∙ head_failed old.port new.passed.end in
    let a : HeadMoves old new new.passed.end = record { geometry = e.own.0; queue = e.own.1; passed = e.done; rung = e.rung; end_is = refl; kept = refl } in
    stays_advanced old new a (rings_of old new _ _ c.args.self.now.pmr.fits ring.fits refl refl c.args.self.now.pmr.ends posted failed) e.ok e.answer

pub returns-clause-counts : goal.returns-clause-counts
returns-clause-counts g c =
    let old : SideState = side_state g.P.Port.state g.P.Port.faults c.args.self.now in
    let ring = c.advance_head.new.self in
    let new : SideState = record { geometry = ring.geometry; queue = ring.queue; port = g.P.Port.state ring.port; faults = g.P.Port.faults ring.port; passed = ring.done; rung = ring.rung.items; done = c.in_ok-done.done; kept = c.args.self.now.kept } in
    let e = c.in_ok-done.ensures in
    let posted : new.port.posted ≡ old.port.posted = ap (λ (p : PortState). p.posted) e.ok ∙ head_posted old.port new.passed.end in
    let failed : new.port.failed ≡ old.port.failed = ap (λ (p : PortState). p.failed) e.ok ∙ head_failed old.port new.passed.end in
    let a : HeadMoves old new new.passed.end = record { geometry = e.own.0; queue = e.own.1; passed = e.done; rung = e.rung; end_is = refl; kept = refl } in
    counts_advanced old new a (rings_of old new _ _ c.args.self.now.pmr.fits ring.fits refl refl c.args.self.now.pmr.ends posted failed) e.cause e.ok

pub returns-clause-moves : goal.returns-clause-moves
returns-clause-moves g c =
    let old : SideState = side_state g.P.Port.state g.P.Port.faults c.args.self.now in
    let ring = c.advance_head.new.self in
    let new : SideState = record { geometry = ring.geometry; queue = ring.queue; port = g.P.Port.state ring.port; faults = g.P.Port.faults ring.port; passed = ring.done; rung = ring.rung.items; done = c.in_ok-done.done; kept = c.args.self.now.kept } in
    let e = c.in_ok-done.ensures in
    moved old new e.ok (ap (λ (p : PortState). p.head) e.ok ∙ head_at old.port new.passed.end)

pub returns-in_err-done-clause-moves : goal.returns-in_err-done-clause-moves
returns-in_err-done-clause-moves g c =
    let e = c.in_err-done.ensures in
    let p = err_from_is_err_and c.from_residual.result c.from_residual.ensures.1 in
    rw p.1 (⊎_elim (λ port. inl port) (λ port. inr (port, e.done)) e.off)
