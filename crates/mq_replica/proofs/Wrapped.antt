-- The ports of a quiet drive may be wrapped: of each all is certain.
use Rattle.std.proofs.Common.{◌≡◌, ◌+◌, ◌++◌, ◌∙◌, List, [], ◌∷◌, ap, length, map, arith}
use Rattle.std.proofs.lemmas.List.{length-append}
use Rattle.mq_blocks.specs.Drive.{PortState}
use Rattle.mq_blocks.specs.declared.geometry.Geometry.{Geometry}
use Rattle.mq_drive.specs.declared.role.Role.{Role}
use Rattle.mq_drive.specs.declared.role.Role.TheVariants.{Queue}
use Rattle.mq_ledger.specs.State.{port_at}
use Rattle.mq_recover.specs.Drives.{DriveState, IsQuiescentDrive, IsQuiescentPort}
use Rattle.mq_replica.specs.Certain.{IsAreaCertain}

pub area_certain : (g : Geometry) (role : Role) (p : PortState) → IsQuiescentPort g role p → IsAreaCertain p
area_certain g role p q = λ k low. q.quiet.certain k (let a = q.port.area_size in let b = q.port.blocks in let c = q.port.certain in omega (arith, low, a, b, c))

pub quiet_queue : (g : Geometry) (d : DriveState) → IsQuiescentDrive g d → length d.queues ≡ 1 → IsQuiescentPort g (Queue 0) (port_at d.queues 0)
quiet_queue g d quiet one = quiet.each 0 (let c = quiet.count in omega (arith, c, one))

pub popped : {P : Type 0} (S : P → PortState) (items rest : List P) (port : P) → items ≡ rest ++ (port ∷ []) → length items ≡ 1 → port_at (map S items) 0 ≡ S port
popped S items [] port is one = ap (λ l. port_at (map S l) 0) is
popped S items (x ∷ rest) port is one = absurd (let n : length items ≡ length (x ∷ rest) + 1 = ap length is ∙ length-append (x ∷ rest) (port ∷ []) in omega (arith, n, one))
