use Rattle.std.proofs.lemmas.Result.{err_from_is_err_and}
use Rattle.mq_recover.specs.Drives.{states}
use Rattle.mq_recover.specs.declared.choice.Recovered.{Recovered}
use Rattle.mq_recover.proofs.DrivesImages.{err-exact, memory-alone, image-refused, read-readable}
use Rattle.mq_recover.proofs.standing.find_prefix.Goals as goal

pub returns-in_err-found-clause-exact : goal.returns-in_err-found-clause-exact
returns-in_err-found-clause-exact g c e refuses =
    let p = err_from_is_err_and c.from_residual.result c.from_residual.ensures.1 in
    rw (p.1, p.2) (err-exact Recovered c.args.geometry (states g.P.Port.state c.args.ports.now.queues.items c.args.ports.now.root) c.in_err-found.field-0.0 e c.in_err-found.ensures.refused refuses)

pub returns-in_err-found-clause-complete : goal.returns-in_err-found-clause-complete
returns-in_err-found-clause-complete g c image =
    let p = err_from_is_err_and c.from_residual.result c.from_residual.ensures.1 in
    rw (p.1, p.2) (memory-alone c.args.geometry (states g.P.Port.state c.args.ports.now.queues.items c.args.ports.now.root) c.in_err-found.field-0.0 c.in_err-found.ensures.refused image)

pub returns-clause-ok : goal.returns-clause-ok
returns-clause-ok g c = let is = c.in_ok-found.ensures.ok in record { ds = is.ds; read = is.read; prefix_is = is.prefix_is }

pub returns-clause-exact : goal.returns-clause-exact
returns-clause-exact g c e refuses =
    let d = states g.P.Port.state c.args.ports.now.queues.items c.args.ports.now.root in
    let is = c.in_ok-found.ensures.ok in
    absurd (image-refused c.args.geometry d e (read-readable c.args.geometry d is.ds _ is.read) refuses)

pub returns-clause-readable : goal.returns-clause-readable
returns-clause-readable g c =
    let is = c.in_ok-found.ensures.ok in
    read-readable c.args.geometry (states g.P.Port.state c.args.ports.now.queues.items c.args.ports.now.root) is.ds _ is.read
