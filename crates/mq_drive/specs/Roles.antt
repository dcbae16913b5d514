-- Which port a role is.
use Rattle.std.specs.Prelude.{ℕ, ◌+◌, Option, Some, None}
use Rattle.mq_blocks.specs.Ports as ports
use Rattle.mq_drive.specs.declared.role.Role.{Role}
use Rattle.mq_drive.specs.declared.role.Role.TheVariants.{Queue, Root}

abbrev pub role_of : Option ℕ → Role
role_of (Some q) = Queue q
role_of None = Root

abbrev pub queue_in : Role → Option ℕ
queue_in (Queue q) = Some q
queue_in Root = None

-- the slots of a port's ring: the root has none
abbrev pub slots_of : Role → ℕ
slots_of role = ports.slots_of (queue_in role)

-- the identifier of a port's submission queue: the queue's number plus 1; the root has no queue
abbrev pub id_of : Option ℕ → ℕ
id_of (Some q) = q + 1
id_of None = 0
