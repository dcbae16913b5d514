-- What has at most one proof.
use Rattle.std.proofs.Props.{props}
use Rattle.mq_blocks.specs.Drive.{IsQuiescent, PortState}
use Rattle.mq_blocks.specs.declared.geometry.Geometry.{Geometry}
use Rattle.mq_recover.specs.Drives.{DriveState, IsQuiescentDrive, IsQuiescentPort}
use Rattle.mq_drive.specs.declared.role.Role.{Role}
use Rattle.mq_replica.specs.Contents.{Contents}
use Rattle.mq_replica.specs.Images.{StandsFor}

pub stands-prop : (g : Geometry) (d : DriveState) (c : Contents) → IsProp (StandsFor g d c)
stands-prop g d c = Prim.hlevel props

pub quiet-prop : (p : PortState) → IsProp (IsQuiescent p)
quiet-prop p = Prim.hlevel props

pub quiet_port-prop : (g : Geometry) (role : Role) (p : PortState) → IsProp (IsQuiescentPort g role p)
quiet_port-prop g role p = Prim.hlevel props

pub quiet_drive-prop : (g : Geometry) (d : DriveState) → IsProp (IsQuiescentDrive g d)
quiet_drive-prop g d = Prim.hlevel props
