use Rattle.std.proofs.Common.{◌≡◌, ◌⊎◌, refl, sym, subst, inl, inr}
use Rattle.std.proofs.lemmas.Result.{err_from_is_err_and}
use Rattle.mq_blocks.specs.Drive.{PortState}
use Rattle.mq_blocks.specs.Geometry.{homes_of}
use Rattle.mq_blocks.proofs.DriveQuiescent.{base-of}
use Rattle.mq_recover.specs.Drives.{states}
use Rattle.mq_recover.specs.Images.{RefusesImage}
use Rattle.mq_recover.specs.Queues.{AreChains}
use Rattle.mq_recover.specs.declared.choice.Found.{Found}
use Rattle.mq_recover.specs.declared.refusal.ImageFault.TheVariants.{OutOfMemory}
use Rattle.mq_recover.proofs.DrivesImages.{err-exact, found-in, image-refused, read-readable, reading-refused, twice-refused}
use Rattle.mq_recover.proofs.choice.find_copies.Goals as goal

pub choose-requires : goal.choose-requires
choose-requires g c =
    let root : PortState = g.P.Port.state c.args.ports.now.root in
    subst (λ n. AreChains (homes_of c.args.geometry) n c.in_ok-read.read.chains.items) (sym (base-of c.base-base.result root c.requires.root.quiet c.base-base.ensures)) c.in_ok-read.ensures.chains

pub returns-in_err-read-clause-exact : goal.returns-in_err-read-clause-exact
returns-in_err-read-clause-exact g c e refuses =
    let d = states g.P.Port.state c.args.ports.now.queues.items c.args.ports.now.root in
    let p = err_from_is_err_and c.from_residual.result c.from_residual.ensures.1 in
    let given : (c.in_err-read.field-0.0 ≡ OutOfMemory) ⊎ RefusesImage c.args.geometry d c.in_err-read.field-0.0 = elim c.in_err-read.ensures.refused [ inl x ↦ inl x | inr x ↦ inr (reading-refused c.args.geometry d c.in_err-read.field-0.0 x) ] in
    rw (p.1, p.2) (err-exact Found c.args.geometry d c.in_err-read.field-0.0 e given refuses)

pub returns-in_err-chosen-clause-exact : goal.returns-in_err-chosen-clause-exact
returns-in_err-chosen-clause-exact g c e refuses =
    let d = states g.P.Port.state c.args.ports.now.queues.items c.args.ports.now.root in
    let p = err_from_is_err_and c.from_residual-in_err-chosen.result c.from_residual-in_err-chosen.ensures.1 in
    let given : (c.in_err-chosen.field-0.0 ≡ OutOfMemory) ⊎ RefusesImage c.args.geometry d c.in_err-chosen.field-0.0 = elim c.in_err-chosen.ensures.refused [ inl x ↦ inl x | inr x ↦ inr (twice-refused c.args.geometry d c.in_ok-read.read c.in_err-chosen.field-0.0 c.in_ok-read.ensures.ok x) ] in
    rw (p.1, p.2) (err-exact Found c.args.geometry d c.in_err-chosen.field-0.0 e given refuses)

pub returns-clause-ok : goal.returns-clause-ok
returns-clause-ok g c =
    let d = states g.P.Port.state c.args.ports.now.queues.items c.args.ports.now.root in
    let root : PortState = g.P.Port.state c.args.ports.now.root in
    found-in c.args.geometry d c.base-base.result c.in_ok-read.read c.in_ok-chosen.chosen
    (record { copies = c.in_ok-chosen.chosen.copies; recovered = record { prefix = c.in_ok-chosen.chosen.prefix; base = c.in_ok-read.read.top } })
    (base-of c.base-base.result root c.requires.root.quiet c.base-base.ensures) c.in_ok-read.ensures.ok c.in_ok-chosen.ensures.ok refl refl refl

pub returns-clause-exact : goal.returns-clause-exact
returns-clause-exact g c e refuses =
    let d = states g.P.Port.state c.args.ports.now.queues.items c.args.ports.now.root in
    let root : PortState = g.P.Port.state c.args.ports.now.root in
    let is =
    found-in c.args.geometry d c.base-base.result c.in_ok-read.read c.in_ok-chosen.chosen
    (record { copies = c.in_ok-chosen.chosen.copies; recovered = record { prefix = c.in_ok-chosen.chosen.prefix; base = c.in_ok-read.read.top } })
    (base-of c.base-base.result root c.requires.root.quiet c.base-base.ensures) c.in_ok-read.ensures.ok c.in_ok-chosen.ensures.ok refl refl refl in
    absurd (image-refused c.args.geometry d e (read-readable c.args.geometry d is.ds c.in_ok-read.read.top is.read) refuses)
