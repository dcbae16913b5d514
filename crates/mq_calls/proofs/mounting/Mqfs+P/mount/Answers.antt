use Rattle.mq_turns.specs.AtDesk.{start_of}
use Rattle.mq_calls.specs.Mounting.{memory}
use Rattle.mq_calls.proofs.MountingVolumes.{mounted}
use Rattle.mq_calls.proofs.mounting.Mqfs+P.mount.Goals as goal

pub returns-in-Ok-open-clause-desk : goal.returns-in-Ok-open-clause-desk
returns-in-Ok-open-clause-desk g c = mounted g.P.Port.state g.P.Port.faults c.args.geometry c.args.ports c.in-Ok.standing (start_of c.in-Ok-open.opened.0.desk) c.requires.start c.in-Ok.ensures.stands c.in-Ok.ensures.open c.in-Ok-open.ensures.desk

pub returns-in-Err-open-clause-refused : goal.returns-in-Err-open-clause-refused
returns-in-Err-open-clause-refused g c = memory
