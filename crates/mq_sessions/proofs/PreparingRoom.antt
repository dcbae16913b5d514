-- The ring of a side has room, or is drained for it.
use Rattle.std.proofs.Common.{ℕ, ◌+◌, ◌≤◌, List, length, refl, inl, arith}
use Rattle.mq_blocks.specs.Drive.{PortState, staged_end}
use Rattle.mq_blocks.specs.Geometry.{area_of, write_limit}
use Rattle.mq_blocks.specs.declared.geometry.Geometry.{Geometry}
use Rattle.mq_blocks.proofs.DescriptorLimits.{further-most, limit-high}
use Rattle.mq_drive.specs.Steps.{PortFault}
use Rattle.mq_drive.specs.declared.port.Port.{Ghosts}
use Rattle.mq_journal.specs.Laws.{HaveSameParts}
use Rattle.mq_journal.specs.Numbers.{Seat}
use Rattle.mq_revoke.specs.Placed.{Placed}
use Rattle.mq_queue_side.specs.Stored.{FitIs, FitsRing, Row}
use Rattle.mq_queue_side.specs.declared.answers.Fit.TheVariants.{Ring, Yes}
use Rattle.mq_queue_side.specs.declared.side.QueueSide.{QueueSide}
use Rattle.mq_sessions.specs.Preparing.{IsDrainedForRoom, IsMadeReady}

-- A ring in which nothing is under way has room for the most blocks that a transaction writes, and for those
-- of its descriptor: so what fits the area fits.
pub rests-fit : (g : Geometry) (base : ℕ) (rows : List Row) (p r : PortState) (plan : Placed) → length plan.logged + length plan.direct ≤ write_limit g → staged_end r ≤ r.head → FitIs (area_of g) base rows p plan Ring → FitIs (area_of g) base rows r plan Yes
rests-fit g base rows p r plan few rests fit =
    let high = limit-high g in
    let most = further-most (length plan.logged + length plan.revoked) in
    let area = (fit.ring_lacks.0 refl).0 in
    let ring : FitsRing r plan = omega arith in
    record {
      area_lacks = (λ e. absurd cc, λ lacks. absurd (lacks area));
      ring_lacks = (λ e. absurd cc, λ lacks. absurd (lacks.1 ring));
    }

module _ {P E : Type 0} {G : Ghosts P} where
  same-parts : (s : QueueSide P E G) → HaveSameParts s s
  same-parts s = record { pmr = refl; stored = refl; done = refl; kept = refl }

module _ {P E : Type 0} {G : Ghosts P} (state : P → PortState) (faults : P → List PortFault) where
  -- nothing was done to it
  pub left-alone : (plan : Placed) (v : Seat P E G) (s : QueueSide P E G) → IsMadeReady state faults plan v s s
  left-alone plan v s = record { base = 0; read = omega arith; between = s; drained = inl refl; same = same-parts s }

  -- and no commit was prepared on it
  pub only-drained : (base : ℕ) (plan : Placed) (v : Seat P E G) (s u : QueueSide P E G) → base ≤ v.reading.base → IsDrainedForRoom state faults base plan s u → IsMadeReady state faults plan v s u
  only-drained base plan v s u read drained = record { base = base; read = read; between = u; drained = drained; same = same-parts u }

  pub made-ready : (base : ℕ) (plan : Placed) (v : Seat P E G) (s u w : QueueSide P E G) → base ≤ v.reading.base → IsDrainedForRoom state faults base plan s u → HaveSameParts u w → IsMadeReady state faults plan v s w
  made-ready base plan v s u w read drained same = record { base = base; read = read; between = u; drained = drained; same = same }
