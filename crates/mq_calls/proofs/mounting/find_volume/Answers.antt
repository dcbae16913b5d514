use Rattle.std.proofs.Common.{◌≢◌, ℕ, List, [], Option, subst}
use Rattle.mq_recover.specs.Drives.{drive_of}
use Rattle.mq_recover.proofs.DrivesImages.{memory-alone, read-readable}
use Rattle.mq_tree.specs.Corrupt.{Refuses}
use Rattle.mq_tree.specs.Laid.{IsTreeOf, map_of}
use Rattle.mq_tree.specs.Volume.{Things, tree}
use Rattle.mq_tree.specs.declared.corrupt.MountRefusal.TheVariants as mount
use Rattle.mq_calls.proofs.MountingVolumes.{opens, refuses, wanting}
use Rattle.mq_sessions.proofs.OpeningStartReads.{start-read}
use Rattle.mq_calls.proofs.mounting.find_volume.Goals as goal

pub only_memory-requires : goal.only_memory-requires
only_memory-requires g c =
    let d = drive_of g.P.Port.state c.args.ports.now in
    memory-alone c.args.geometry d c.in-Err.fault c.in-Err.ensures.refused (read-readable c.args.geometry d [] d.root.base (start-read c.args.geometry d c.requires.start))

pub returns-in-Err-clause-refused : goal.returns-in-Err-clause-refused
returns-in-Err-clause-refused g c = wanting c.args.geometry (drive_of g.P.Port.state c.args.ports.now) c.only_memory.result c.only_memory.ensures

pub returns-in-Ok-mount-clause-open : goal.returns-in-Ok-mount-clause-open
returns-in-Ok-mount-clause-open g c =
    let found = subst (λ (l : List (Option (List ℕ))). IsTreeOf c.args.geometry (map_of c.args.geometry l) (tree c.in-Ok-mount.field-0)) c.deref.ensures.value c.in-Ok-mount.ensures.tree in
    opens c.args.geometry (drive_of g.P.Port.state c.args.ports.now) c.in-Ok.standing (tree c.in-Ok-mount.field-0) c.requires.start c.in-Ok.ensures.ok found

pub returns-in-Err-mount-clause-refused : goal.returns-in-Err-mount-clause-refused
returns-in-Err-mount-clause-refused g c =
    let refused = subst (λ (l : List (Option (List ℕ))). Refuses c.args.geometry l c.in-Err-mount.refusal) c.deref.ensures.value c.in-Err-mount.ensures.cause in
    let none = subst (λ (l : List (Option (List ℕ))). c.in-Err-mount.refusal ≢ mount.OutOfMemory → (t : Things) → IsTreeOf c.args.geometry (map_of c.args.geometry l) t → ⊥) c.deref.ensures.value c.in-Err-mount.ensures.none in
    refuses c.args.geometry (drive_of g.P.Port.state c.args.ports.now) c.in-Ok.standing c.in-Err-mount.refusal c.requires.start c.in-Ok.ensures.ok refused none
