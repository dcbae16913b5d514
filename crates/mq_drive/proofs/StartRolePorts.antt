-- A port stays a port of its role.
use Rattle.std.proofs.Common.{◌≡◌, ◌<◌, ◌≤◌, ℕ, ◌%◌, true, false, List, [], ◌∷◌, length, Some, Result, Ok, Err, inl, inr, ⊎_elim, refl, sym, ◌∙◌, subst, arith, length-append}
use Rattle.std.proofs.lemmas.Bool.{cases_eq}
use Rattle.std.proofs.lemmas.List.{get_or-set_other}
use Rattle.std.proofs.Math.ListN.{length-set}
use Rattle.std.specs.Prelude.{slice_index_or}
use Rattle.mq_blocks.specs.Drive.{PortState, IsFlushed, staged_end, index_of, after_stage, after_flush, after_ring, after_done, after_failed, after_begin, after_end}
use Rattle.mq_blocks.specs.Limits.{depth}
use Rattle.mq_blocks.specs.Ports.{IsPort}
use Rattle.mq_blocks.specs.declared.command.Command.{Command}
use Rattle.mq_blocks.specs.declared.geometry.Geometry.{Geometry}
use Rattle.mq_blocks.proofs.Ports.{parts_of, port-along}
use Rattle.mq_nvme.specs.Completion.{status_of}
use Rattle.mq_drive.specs.Roles.{queue_in}
use Rattle.mq_drive.specs.Start.{IsPortOf}
use Rattle.mq_drive.specs.Steps.{PortFault, StepGives, HomeGives}
use Rattle.mq_drive.specs.declared.port.Off.{Off}
use Rattle.mq_drive.specs.declared.port.Step.{Step}
use Rattle.mq_drive.specs.declared.port.Step.TheVariants.{Idle, Done}
use Rattle.mq_drive.specs.declared.port.HomeStep.{HomeStep}
use Rattle.mq_drive.specs.declared.port.HomeStep.TheVariants as home
use Rattle.mq_drive.specs.declared.role.Role.{Role}

-- the slots that are flushed are as they were staged
abbrev AreFlushed : PortState → Type 0
AreFlushed s = (k : ℕ) → k < length s.flushed → IsFlushed s k → slice_index_or s.flushed k [] ≡ slice_index_or s.staged k []

-- a port of a role is a port of its part of the drive
pub is-port : {g : Geometry} {role : Role} {s : PortState} → IsPortOf g role s → IsPort g (queue_in role) s
is-port p = record {
  queue = p.queue;
  area_first = p.area_first;
  area_size = p.area_size;
  homes_first = p.homes_first;
  homes_size = p.homes_size;
  flushed = p.flushed;
  staged = p.staged;
  blocks = p.blocks;
  certain = p.certain ∙ p.blocks;
}

pub is-port_of : {g : Geometry} {role : Role} {s : PortState} → IsPort g (queue_in role) s → AreFlushed s → IsPortOf g role s
is-port_of p settled = record {
  queue = p.queue;
  area_first = p.area_first;
  area_size = p.area_size;
  homes_first = p.homes_first;
  homes_size = p.homes_size;
  flushed = p.flushed;
  staged = p.staged;
  blocks = p.blocks;
  certain = p.certain ∙ sym p.blocks;
  settled = settled;
}

-- a port of the same parts is one of the same role
pub port_of-along : {g : Geometry} {role : Role} {s t : PortState} → IsPortOf g role s → parts_of t ≡ parts_of s → AreFlushed t → IsPortOf g role t
port_of-along p same settled = is-port_of (port-along (is-port p) same) settled

pub begin-port : (g : Geometry) (role : Role) (s : PortState) (lba : ℕ) (block : List ℕ) → IsPortOf g role s → IsPortOf g role (after_begin s lba block)
begin-port g role s lba block p = port_of-along p (λ i. record (parts_of s) { certain = length-set s.certain (index_of s lba) false i }) p.settled

pub end-port : (g : Geometry) (role : Role) (s : PortState) (lba : ℕ) (block : List ℕ) → IsPortOf g role s → IsPortOf g role (after_end s lba block)
end-port g role s lba block p = port_of-along p (λ i. record (parts_of s) { blocks = length-set s.blocks (index_of s lba) (Some block) i; certain = length-set s.certain (index_of s lba) true i }) p.settled

-- only words changed
pub word-port : (g : Geometry) (role : Role) (s : PortState) (stored_head stored_base events : ℕ) → IsPortOf g role s → IsPortOf g role (record s { stored_head = stored_head; stored_base = stored_base; events = events })
word-port g role s stored_head stored_base events p = port_of-along p refl p.settled

pub flush-port : (g : Geometry) (role : Role) (s : PortState) → IsPortOf g role s → IsPortOf g role (after_flush s)
flush-port g role s p = port_of-along p (λ i. record (parts_of s) { flushed = (p.staged ∙ sym p.flushed) i }) (λ k within flushed. refl)

-- a slot that is flushed after a stage was so before, and another one was staged
pub stage-port : (g : Geometry) (role : Role) (s : PortState) (entry : List ℕ) (tx lba : ℕ) (block : List ℕ) → s.flushed_end ≤ staged_end s → IsPortOf g role s → IsPortOf g role (after_stage s entry tx lba block)
stage-port g role s entry tx lba block order p =
    port_of-along p (λ i. record (parts_of s) { staged = length-set s.staged (staged_end s % depth) entry i }) (λ k within flushed.
    let more = length-append s.pending (record { count = staged_end s; tx = tx; lba = lba; block = block } ∷ []) in
    p.settled k within (λ c low high. flushed c low (omega (arith, high, more)))
    ∙ sym (get_or-set_other s.staged (staged_end s % depth) k entry [] (λ at. flushed (staged_end s) order (omega (arith, more)) (sym at))))

pub ring-port : (g : Geometry) (role : Role) (s : PortState) → IsPortOf g role s → IsPortOf g role (after_ring s)
ring-port g role s p = port_of-along p refl (λ k within flushed. p.settled k within (λ c low high. flushed c low (omega (arith, high))))

pub done-port : (g : Geometry) (role : Role) (s : PortState) (i : ℕ) (c : Command) → IsPortOf g role s → IsPortOf g role (after_done s i c)
done-port g role s i c p = port_of-along p (λ i. record (parts_of s) { blocks = length-set s.blocks (index_of s c.lba) (Some c.block) i; certain = length-set s.certain (index_of s c.lba) true i }) p.settled

pub failed-port : (g : Geometry) (role : Role) (s : PortState) (i : ℕ) (c : Command) → IsPortOf g role s → IsPortOf g role (after_failed s i c)
failed-port g role s i c p = port_of-along p (λ i. record (parts_of s) { certain = length-set s.certain (index_of s c.lba) false i }) p.settled

-- ---- what a call gives

pub step-port : (g : Geometry) (role : Role) (s new : PortState) (faults more : List PortFault) (r : Result Step Off) → StepGives s faults r new more → IsPortOf g role s → IsPortOf g role new
step-port g role s new faults more (Ok Idle) gives p = subst (IsPortOf g role) (sym gives.1) p
step-port g role s new faults more (Ok (Done c)) gives p = elim (cases_eq (status_of c) 0) [
  | inl good ↦ subst (IsPortOf g role) (sym (gives.success good).0) (done-port g role s gives.at gives.command p)
  | inr bad ↦ subst (IsPortOf g role) (sym (gives.error bad).0) (failed-port g role s gives.at gives.command p)
]
step-port g role s new faults more (Err x) gives p = subst (IsPortOf g role) (sym gives.1) p

pub home-port : (g : Geometry) (role : Role) (s new : PortState) (faults more : List PortFault) (lba : ℕ) (block : List ℕ) (r : Result HomeStep Off) → HomeGives s faults lba block r new more → IsPortOf g role s → IsPortOf g role new
home-port g role s new faults more lba block (Ok home.Done) gives p =
    subst (IsPortOf g role) (sym gives.0) (end-port g role (after_begin s lba block) lba block (begin-port g role s lba block p))
home-port g role s new faults more lba block (Ok (home.Error status)) gives p = subst (IsPortOf g role) (sym gives.1) (begin-port g role s lba block p)
home-port g role s new faults more lba block (Err x) gives p = ⊎_elim
    (λ same. subst (IsPortOf g role) (sym same) p)
    (λ begun. subst (IsPortOf g role) (sym begun) (begin-port g role s lba block p))
    gives.0
