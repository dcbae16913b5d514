-- A start of the journal's machine is one of the loose machine.
use Rattle.std.proofs.Common.{ℕ, Option, Some, None}
use Rattle.mq_blocks.specs.Drive.{PortState}
use Rattle.mq_ledger.specs.Plain.{plain}
use Rattle.mq_ledger.specs.State.{State, IsStart, IsStartPort}
use Rattle.mq_loose_order.specs.Dependence.{deps_of}
use Rattle.mq_loose_order.proofs.FormSound.{loose-sound}
use Rattle.mq_loose.specs.Guards.{IsLooseStart, entries_in}

port_start : (s : State) (z : Option ℕ) (from : ℕ) (p : PortState) → IsStartPort plain s z from p → IsStartPort (entries_in plain s) s z from p
port_start s z from p i = record {
  port = i.port;
  doorbell = i.doorbell;
  head = i.head;
  stored_head = i.stored_head;
  flushed_end = i.flushed_end;
  pending = i.pending;
  posted = i.posted;
  failed = i.failed;
  staged = i.staged;
  low = i.low;
  newest = i.newest;
  homes = i.homes;
}

pub start_loose : (s : State) → IsStart plain s → IsLooseStart plain s
start_loose s i = record {
  entries = i.entries;
  form = loose-sound (deps_of s.base s.history);
  history = i.history;
  low = i.low;
  base = i.base;
  stored_base = i.stored_base;
  start = i.start;
  ports = i.ports;
  marked = i.marked;
  marks = i.marks;
  writing = i.writing;
  acknowledged = i.acknowledged;
  each = λ q own. port_start s (Some q) _ _ (i.each q own);
  root = port_start s None 0 s.root i.root;
}
