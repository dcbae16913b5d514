-- What a port in memory stands for.
use Rattle.std.specs.Prelude.{ℕ, List, ◌++◌, replicate}
use Rattle.std.specs.Option.{option_to_list}
use Rattle.mq_blocks.specs.Drive.{PortState}
use Rattle.mq_drive.specs.Choices.{Chance}
use Rattle.mq_drive.specs.Emulated.{Counts}
use Rattle.mq_drive.specs.Roles.{queue_in}
use Rattle.mq_drive.specs.Steps.{PortFault, PowerOff}
use Rattle.mq_drive.specs.Failures.{failed_of, unended_of, errors_of, while_in}
use Rattle.mq_drive.specs.Seats.{fuse_of, tickets_of}
use Rattle.mq_drive.specs.declared.device.Device.{Device}
use Rattle.mq_drive.specs.declared.emu.EmuPort.{EmuPort}

abbrev pub device_state : Device → PortState
device_state p = record {
  queue = queue_in p.role;
  area_first = p.area.first;
  area_size = p.area.size;
  homes_first = p.homes.first;
  homes_size = p.homes.size;
  flushed = p.flushed.items;
  staged = p.staged.items;
  flushed_end = p.flushed_end;
  pending = p.pending.items;
  doorbell = p.doorbell;
  posted = p.posted.items;
  failed = failed_of p.failure;
  head = p.head;
  stored_head = p.stored_head;
  base = p.base;
  stored_base = p.stored_base;
  blocks = p.blocks.stored.items;
  certain = p.blocks.certain.items;
  begun = unended_of p.failure ++ option_to_list p.under_way;
  rings = p.rings;
  begins = p.begins;
  events = p.events;
  fuse = fuse_of p.power.seat;
  fail = p.failing.named;
}

-- each refused event, and at most one error
abbrev pub device_faults : Device → List PortFault
device_faults p = replicate p.power.offs PowerOff ++ errors_of p.failure

-- how many commands it executed
abbrev pub device_counts : Device → Counts
device_counts p = record { completed = p.completions; executed = p.failing.executed }

-- the tickets that its seat drew, the last first
abbrev pub device_tickets : Device → List ℕ
device_tickets p = tickets_of p.power.seat

-- what it leaves to chance
abbrev pub device_chance : Device → Chance
device_chance p = record {
  number = p.number;
  order = p.order;
  failed = while_in p.blocks.doubt (failed_of p.failure);
  begun = while_in p.blocks.doubt (unended_of p.failure) ++ option_to_list p.under_way;
}

-- the same of the port that holds it
abbrev pub emu_state : EmuPort → PortState
emu_state p = device_state p.device.value

abbrev pub emu_faults : EmuPort → List PortFault
emu_faults p = device_faults p.device.value

-- the events that happened
abbrev pub happened_of : EmuPort → ℕ
happened_of p = p.device.value.power.happened

-- the tickets that its seat drew, the last first
abbrev pub drawn_by : EmuPort → List ℕ
drawn_by p = tickets_of p.device.value.power.seat

-- the commands that were executed: those of its ring, and these and its home writes together
abbrev pub counts_of : EmuPort → Counts
counts_of p = device_counts p.device.value

abbrev pub executed_of : EmuPort → ℕ
executed_of p = p.device.value.failing.executed

-- what it leaves to chance
abbrev pub chance_of : EmuPort → Chance
chance_of p = device_chance p.device.value
