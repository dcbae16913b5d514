use Rattle.std.proofs.Common.{[]}
use Rattle.mq_recover.specs.Drives.{drive_of}
use Rattle.mq_recover.proofs.DrivesImages.{memory-alone, read-readable}
use Rattle.mq_kv.proofs.OpeningStore.{opens}
use Rattle.mq_sessions.proofs.OpeningStartReads.{stands-home, start-read}
use Rattle.mq_kv.proofs.finding.find_store.Goals as goal

pub only_memory-requires : goal.only_memory-requires
only_memory-requires g c =
    let d = drive_of g.P.Port.state c.args.ports.now in
    memory-alone c.args.geometry d c.in-Err.fault c.in-Err.ensures.refused (read-readable c.args.geometry d [] d.root.base (start-read c.args.geometry d c.requires.start))

pub returns-in-Ok-clause-homes : goal.returns-in-Ok-clause-homes
returns-in-Ok-clause-homes g c = stands-home c.args.geometry (drive_of g.P.Port.state c.args.ports.now) c.in-Ok.standing c.requires.start c.in-Ok.ensures.ok

pub returns-in-Ok-clause-open : goal.returns-in-Ok-clause-open
returns-in-Ok-clause-open g c = opens c.args.geometry (drive_of g.P.Port.state c.args.ports.now) c.in-Ok.standing c.requires.start c.in-Ok.ensures.ok
