-- The journal's machine as one over its states.
use Rattle.std.proofs.Common.{◌≡◌, refl}
use Rattle.mq_blocks.specs.Drive.{staged_end}
use Rattle.mq_blocks.specs.Geometry.{zone_of}
use Rattle.mq_ledger.specs.Items.{Entries}
use Rattle.mq_ledger.specs.Plain.{plain}
use Rattle.mq_ledger.specs.State.{State, Facts, port_of}
use Rattle.mq_core.specs.Events.{begin_home, end_home, content_at}
use Rattle.mq_core.specs.Machine.{Event, Draw, Stage, Flush, Ring, Complete, FailCommand, StoreHead, FlushHead, Clear, Acknowledge, WriteHome, HomeDone, StoreBase, FlushBase, IsAllowed, happens}
use Rattle.mq_core.proofs.MachineFacts.{keeps}
use Rattle.mq_core.proofs.MachineLifts.{Machine, idle_with}

pub idle_stays : (e : Entries) (v : Event) (s : State) → staged_end (happens e v s).root ≡ staged_end s.root
idle_stays e (Draw t) s = refl
idle_stays e (Stage q) s = refl
idle_stays e (Flush q) s = refl
idle_stays e (Ring q) s = refl
idle_stays e (Complete q c) s = refl
idle_stays e (FailCommand q c) s = refl
idle_stays e (StoreHead q h) s = refl
idle_stays e (FlushHead q) s = refl
idle_stays e (Clear q low) s = refl
idle_stays e (Acknowledge n) s = refl
idle_stays e (WriteHome x) s = idle_with s (zone_of s.geometry x) (begin_home s.geometry x (content_at s x) (port_of s (zone_of s.geometry x))) refl
idle_stays e (HomeDone x) s = idle_with s (zone_of s.geometry x) (end_home s.geometry x (content_at s x) (port_of s (zone_of s.geometry x))) refl
idle_stays e (StoreBase b) s = refl
idle_stays e FlushBase s = refl

abbrev pub core_machine : Machine
core_machine = record {
  Event = Event;
  Facts = λ s. Facts plain s;
  Allowed = λ v s. IsAllowed plain v s;
  happens = λ v s. happens plain v s;
  keeps = λ v s f may. keeps plain v s f may;
  idle_stays = λ v s. idle_stays plain v s;
}
