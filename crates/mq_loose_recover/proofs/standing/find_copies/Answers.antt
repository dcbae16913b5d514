use Rattle.std.proofs.Common.{refl, sym, subst}
use Rattle.std.proofs.lemmas.Result.{err_from_is_err_and}
use Rattle.mq_blocks.proofs.DriveQuiescent.{base-of}
use Rattle.mq_blocks.specs.Drive.{PortState}
use Rattle.mq_blocks.specs.Geometry.{homes_of}
use Rattle.mq_recover.specs.Drives.{states}
use Rattle.mq_recover.specs.Queues.{AreChains}
use Rattle.mq_loose_recover.proofs.ImagesFound.{chains-listed, found-in, found-readable}
use Rattle.mq_loose_recover.proofs.ImagesRefused.{err-exact, image-refused, reading-refused, twice-refused}
use Rattle.mq_loose_recover.specs.declared.standing.LooseFound.{LooseFound}
use Rattle.mq_loose_recover.proofs.standing.find_copies.Goals as goal

pub choose-requires-clause-chains : goal.choose-requires-clause-chains
choose-requires-clause-chains g c =
    let root : PortState = g.P.Port.state c.args.ports.now.root in
    subst (λ n. AreChains (homes_of c.args.geometry) n c.in_ok-read.read.chains.items) (sym (base-of c.base-base.result root c.requires.root.quiet c.base-base.ensures)) c.in_ok-read.ensures.chains

pub choose-requires-clause-count : goal.choose-requires-clause-count
choose-requires-clause-count g c = c.in_ok-read.ensures.ok.queues.count

pub choose-requires-clause-listed : goal.choose-requires-clause-listed
choose-requires-clause-listed g c = chains-listed c.args.geometry (states g.P.Port.state c.args.ports.now.queues.items c.args.ports.now.root) c.in_ok-read.read c.in_ok-read.ensures.ok

pub returns-in_err-read-clause-refused : goal.returns-in_err-read-clause-refused
returns-in_err-read-clause-refused g c =
    let d = states g.P.Port.state c.args.ports.now.queues.items c.args.ports.now.root in
    let p = err_from_is_err_and c.from_residual.result c.from_residual.ensures.1 in
    rw (p.1, p.2) (reading-refused c.args.geometry d c.in_err-read.field-0.0 c.in_err-read.ensures.refused)

pub returns-in_err-read-clause-exact : goal.returns-in_err-read-clause-exact
returns-in_err-read-clause-exact g c e refuses =
    let d = states g.P.Port.state c.args.ports.now.queues.items c.args.ports.now.root in
    let p = err_from_is_err_and c.from_residual.result c.from_residual.ensures.1 in
    rw (p.1, p.2) (err-exact LooseFound c.args.geometry d c.in_err-read.field-0.0 e (reading-refused c.args.geometry d c.in_err-read.field-0.0 c.in_err-read.ensures.refused) refuses)

pub returns-in_err-chosen-clause-refused : goal.returns-in_err-chosen-clause-refused
returns-in_err-chosen-clause-refused g c =
    let d = states g.P.Port.state c.args.ports.now.queues.items c.args.ports.now.root in
    let p = err_from_is_err_and c.from_residual-in_err-chosen.result c.from_residual-in_err-chosen.ensures.1 in
    rw (p.1, p.2) (twice-refused c.args.geometry d c.in_ok-read.read c.in_err-chosen.field-0.0 c.in_ok-read.ensures.ok c.in_err-chosen.ensures.refused)

pub returns-in_err-chosen-clause-exact : goal.returns-in_err-chosen-clause-exact
returns-in_err-chosen-clause-exact g c e refuses =
    let d = states g.P.Port.state c.args.ports.now.queues.items c.args.ports.now.root in
    let p = err_from_is_err_and c.from_residual-in_err-chosen.result c.from_residual-in_err-chosen.ensures.1 in
    rw (p.1, p.2) (err-exact LooseFound c.args.geometry d c.in_err-chosen.field-0.0 e (twice-refused c.args.geometry d c.in_ok-read.read c.in_err-chosen.field-0.0 c.in_ok-read.ensures.ok c.in_err-chosen.ensures.refused) refuses)

pub returns-clause-ok : goal.returns-clause-ok
returns-clause-ok g c =
    let d = states g.P.Port.state c.args.ports.now.queues.items c.args.ports.now.root in
    found-in c.args.geometry d c.base-base.result c.in_ok-read.read c.in_ok-chosen.chosen (record { copies = c.in_ok-chosen.chosen.copies; set = c.in_ok-chosen.chosen.set; top = c.in_ok-read.read.top })
    (base-of c.base-base.result d.root c.requires.root.quiet c.base-base.ensures) c.in_ok-read.ensures.ok c.in_ok-chosen.ensures.ok refl refl refl

pub returns-clause-readable : goal.returns-clause-readable
returns-clause-readable g c =
    let d = states g.P.Port.state c.args.ports.now.queues.items c.args.ports.now.root in
    let found : LooseFound = record { copies = c.in_ok-chosen.chosen.copies; set = c.in_ok-chosen.chosen.set; top = c.in_ok-read.read.top } in
    found-readable c.args.geometry d found
    (found-in c.args.geometry d c.base-base.result c.in_ok-read.read c.in_ok-chosen.chosen found (base-of c.base-base.result d.root c.requires.root.quiet c.base-base.ensures) c.in_ok-read.ensures.ok c.in_ok-chosen.ensures.ok refl refl refl)

pub returns-clause-exact : goal.returns-clause-exact
returns-clause-exact g c e refuses =
    let d = states g.P.Port.state c.args.ports.now.queues.items c.args.ports.now.root in
    let found : LooseFound = record { copies = c.in_ok-chosen.chosen.copies; set = c.in_ok-chosen.chosen.set; top = c.in_ok-read.read.top } in
    absurd (image-refused c.args.geometry d e (found-readable c.args.geometry d found
    (found-in c.args.geometry d c.base-base.result c.in_ok-read.read c.in_ok-chosen.chosen found (base-of c.base-base.result d.root c.requires.root.quiet c.base-base.ensures) c.in_ok-read.ensures.ok c.in_ok-chosen.ensures.ok refl refl refl)) refuses)
