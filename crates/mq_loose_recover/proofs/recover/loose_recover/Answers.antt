use Rattle.std.proofs.Common.{refl, sym, subst}
use Rattle.std.proofs.lemmas.Result.{err_from_is_err_and}
use Rattle.mq_recover.specs.Copies.{AreCopies}
use Rattle.mq_recover.specs.Drives.{states}
use Rattle.mq_loose_recover.proofs.ImagesRefused.{memory-alone}
use Rattle.mq_loose_recover.proofs.Recoveries.{cut-found, heads-low, top-low, unless-image, whole}
use Rattle.mq_loose_recover.specs.declared.standing.LooseStanding.{LooseStanding}
use Rattle.mq_loose_recover.proofs.recover.loose_recover.Goals as goal

pub returns-in_err-found-clause-complete : goal.returns-in_err-found-clause-complete
returns-in_err-found-clause-complete g c image =
    let p = err_from_is_err_and c.from_residual.result c.from_residual.ensures.1 in
    rw (p.1, p.2) (memory-alone c.args.geometry (states g.P.Port.state c.args.ports.now.queues.items c.args.ports.now.root) c.in_err-found.field-0.0 c.in_err-found.ensures.refused image)

pub read_blocks-requires-clause-copies : goal.read_blocks-requires-clause-copies
read_blocks-requires-clause-copies g c =
    let is = c.in_ok-found.ensures.ok in
    (is.ds, subst (AreCopies c.args.geometry is.ds) (sym c.deref.ensures.value) is.copies_are)

pub recover_chosen-requires-clause-copies : goal.recover_chosen-requires-clause-copies
recover_chosen-requires-clause-copies g c =
    let is = c.in_ok-found.ensures.ok in
    (is.ds, subst (AreCopies c.args.geometry is.ds) (sym c.deref-2.ensures.value) is.copies_are)

pub recover_chosen-requires-clause-low : goal.recover_chosen-requires-clause-low
recover_chosen-requires-clause-low g c =
    let is = c.in_ok-found.ensures.ok in
    top-low is.deps c.args.geometry (states g.P.Port.state c.args.ports.now.queues.items c.args.ports.now.root) is.ds c.in_ok-found.found.top is.read

pub recover_chosen-requires-clause-heads : goal.recover_chosen-requires-clause-heads
recover_chosen-requires-clause-heads g c = heads-low c.args.geometry (states g.P.Port.state c.args.ports.now.queues.items c.args.ports.now.root) c.in_ok-found.ensures.readable

pub returns-in_err-recover_chosen-clause-readable : goal.returns-in_err-recover_chosen-clause-readable
returns-in_err-recover_chosen-clause-readable g c =
    unless-image c.args.geometry (states g.P.Port.state c.args.ports.now.queues.items c.args.ports.now.root) c.in_ok-found.found c.from_residual-in_err-recover_chosen.result c.in_ok-found.ensures.ok

pub returns-in_err-recover_chosen-clause-drive : goal.returns-in_err-recover_chosen-clause-drive
returns-in_err-recover_chosen-clause-drive g c =
    let is = c.in_ok-found.ensures.ok in
    let p = err_from_is_err_and c.from_residual-in_err-recover_chosen.result c.from_residual-in_err-recover_chosen.ensures.1 in
    cut-found LooseStanding (Unit {0}) is.deps c.args.geometry (states g.P.Port.state c.args.ports.now.queues.items c.args.ports.now.root) (states g.P.Port.state c.recover_chosen.new.ports.queues.items c.recover_chosen.new.ports.root) is.ds c.in_ok-found.found.top c.from_residual-in_err-recover_chosen.result c.in_err-recover_chosen.field-0.0 c.requires is.read (rw p.2 at p.1)
    (c.in_err-recover_chosen.ensures.drive is.ds (subst (AreCopies c.args.geometry is.ds) (sym c.deref-2.ensures.value) is.copies_are))

pub returns-clause-ok : goal.returns-clause-ok
returns-clause-ok g c =
    let is = c.in_ok-found.ensures.ok in
    whole is.deps c.args.geometry (states g.P.Port.state c.args.ports.now.queues.items c.args.ports.now.root) (states g.P.Port.state c.recover_chosen.new.ports.queues.items c.recover_chosen.new.ports.root) is.ds c.in_ok-found.found.top _ c.requires is.read
    (record { blocks = c.in_ok-blocks.ensures is.ds (subst (AreCopies c.args.geometry is.ds) (sym c.deref.ensures.value) is.copies_are); set = is.set_is; top_is = refl }) refl
    (c.in_ok-recover_chosen.ensures.ok is.ds (subst (AreCopies c.args.geometry is.ds) (sym c.deref-2.ensures.value) is.copies_are))

pub returns-clause-readable : goal.returns-clause-readable
returns-clause-readable g c = c.in_ok-found.ensures.readable
