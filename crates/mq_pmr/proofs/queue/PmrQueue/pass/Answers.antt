use Rattle.std.proofs.Common.{arith}
use Rattle.mq_pmr.proofs.QueueFitting.{tells_done, fits_passed}
use Rattle.mq_pmr.specs.Rungs.{is_clear}
use Rattle.mq_pmr.proofs.Ring.{held_pass}
use Rattle.mq_pmr.proofs.Written.{written_passed}
use Rattle.mq_pmr.proofs.queue.PmrQueue.pass.Goals as goal

pub returns-clause-done : goal.returns-clause-done
returns-clause-done g c =
    let old = c.args.self.now in
    (c.pass_done.ensures.walk _ old.ends old.fits.done old.fits.passed).leads _ (tells_done _ _ old.fits)

pub returns-clause-rung : goal.returns-clause-rung
returns-clause-rung g c =
    let old = c.args.self.now in
    (c.pass_done.ensures.walk _ old.ends old.fits.done old.fits.passed).leaves _ (tells_done _ _ old.fits)

pub invariant_of-self : goal.invariant_of-self
invariant_of-self g c =
    let old = c.args.self.now in
    let walk = c.pass_done.ensures.walk _ old.ends old.fits.done old.fits.passed in
    let tells = tells_done _ _ old.fits in
    let ring = held_pass (is_clear (g.P.Port.state old.port)) (g.P.Port.state old.opened.value) (g.P.Port.state old.port) old.done c.pass_done.new.done old.rung.items c.pass_done.new.rung.items old.staged (walk.leads _ tells) (walk.leaves _ tells) old.ends old.whole old.held in
    record {
      fits = fits_passed _ _ c.pass_done.new.passed c.pass_done.new.done c.pass_done.new.rung.items old.fits walk.up walk.all walk.high walk.rises walk.low;
      ends = walk.ends;
      own = old.own;
      written = written_passed _ _ _ _ _ walk.rises old.written;
      whole = ring.0;
      held = ring.1;
      reserved = let kept = c.pass_done.ensures.capacity in let was = old.reserved in omega (arith, kept, was);
    }
