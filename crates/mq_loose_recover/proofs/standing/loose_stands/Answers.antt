use Rattle.std.proofs.Common.{refl, sym, subst}
use Rattle.std.proofs.lemmas.Result.{err_from_is_err_and}
use Rattle.mq_blocks.proofs.DriveQuiescent.{base-of}
use Rattle.mq_recover.specs.Copies.{AreCopies}
use Rattle.mq_recover.specs.Drives.{states}
use Rattle.mq_loose_recover.proofs.ImagesRefused.{err-exact, image-refused, memory-alone}
use Rattle.mq_loose_recover.specs.declared.standing.LooseStanding.{LooseStanding}
use Rattle.mq_loose_recover.proofs.standing.loose_stands.Goals as goal

pub read_blocks-requires-clause-copies : goal.read_blocks-requires-clause-copies
read_blocks-requires-clause-copies g c =
    let is = c.in_ok-found.ensures.ok in
    (is.ds, subst (AreCopies c.args.geometry is.ds) (sym c.deref.ensures.value) is.copies_are)

pub returns-in_err-found-clause-exact : goal.returns-in_err-found-clause-exact
returns-in_err-found-clause-exact g c e refuses =
    let p = err_from_is_err_and c.from_residual.result c.from_residual.ensures.1 in
    rw (p.1, p.2) (err-exact LooseStanding c.args.geometry (states g.P.Port.state c.args.ports.now.queues.items c.args.ports.now.root) c.in_err-found.field-0.0 e c.in_err-found.ensures.refused refuses)

pub returns-in_err-found-clause-complete : goal.returns-in_err-found-clause-complete
returns-in_err-found-clause-complete g c image =
    let p = err_from_is_err_and c.from_residual.result c.from_residual.ensures.1 in
    rw (p.1, p.2) (memory-alone c.args.geometry (states g.P.Port.state c.args.ports.now.queues.items c.args.ports.now.root) c.in_err-found.field-0.0 c.in_err-found.ensures.refused image)

pub returns-clause-ok : goal.returns-clause-ok
returns-clause-ok g c =
    let d = states g.P.Port.state c.args.ports.now.queues.items c.args.ports.now.root in
    let is = c.in_ok-found.ensures.ok in
    record {
      deps = is.deps;
      ds = is.ds;
      top = c.in_ok-found.found.top;
      read = is.read;
      standing = record {
        blocks = c.in_ok-blocks.ensures is.ds (subst (AreCopies c.args.geometry is.ds) (sym c.deref.ensures.value) is.copies_are);
        set = is.set_is;
        top_is = refl;
      };
      base_is = base-of c.base.result d.root c.requires.root.quiet c.base.ensures;
    }

pub returns-clause-exact : goal.returns-clause-exact
returns-clause-exact g c e refuses =
    let d = states g.P.Port.state c.args.ports.now.queues.items c.args.ports.now.root in
    absurd (image-refused c.args.geometry d e c.in_ok-found.ensures.readable refuses)
