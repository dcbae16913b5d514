-- The writes of an update as they are planned.
use Rattle.std.proofs.Common.{◌≡◌, ℕ, ◌+◌, ◌≤◌, List, [], ◌∷◌, length, map, sym, ap, subst, ◌∙◌, arith}
use Rattle.std.proofs.Math.Logic.{∥∥₁_elim}
use Rattle.std.proofs.lemmas.List.{length-map}
use Rattle.std.specs.Coded.{le_prop, ×_prop}
use Rattle.mq_blocks.proofs.DescriptorLimits.{limit-high}
use Rattle.mq_blocks.specs.Descriptor.{AreRising}
use Rattle.mq_blocks.specs.Drive.{staged_end}
use Rattle.mq_blocks.specs.Geometry.{homes_of, write_limit}
use Rattle.mq_blocks.specs.declared.geometry.Geometry.{Geometry}
use Rattle.mq_ledger.specs.History.{blocks_of}
use Rattle.mq_pages.specs.declared.page.Write.{Write}
use Rattle.mq_queue_side.specs.Stored.{slots_in}
use Rattle.mq_revoke.specs.Placed.{Placed}
use Rattle.mq_replica.specs.Applying.{IsWritten, PortsState, doorbell_on}
use Rattle.mq_replica.specs.Opened.{IsOpened, OpenedState}
use Rattle.mq_replica.specs.Plans.{pairs_of, written_as}
use Rattle.mq_replica.specs.Updates.{AreWritesFit, AreWritesRising}
use Rattle.mq_replica.specs.declared.update.Update.{Update}
use Rattle.mq_replica.proofs.Applied.{all_logged, blocks_in, blocks_same}
use Rattle.mq_replica.proofs.Pairs.{pairs_few, pairs_rising}
use Rattle.mq_replica.proofs.Recovered.{size_low}

module _ (g : Geometry) (u : Update) (ws : List Write) (plan : Placed) (pairs : map written_as ws ≡ pairs_of g u) (planned : plan ≡ all_logged ws) (fit : AreWritesFit g u.writes) where
  pub planned_rising : AreWritesRising u.writes → AreRising 0 (homes_of g) (blocks_in ws)
  planned_rising rising = subst (λ (bs : List ℕ). AreRising 0 (homes_of g) bs) (ap blocks_of (sym pairs) ∙ blocks_same ws) (pairs_rising g u fit.below rising)

  pub planned_few : length ws ≤ write_limit g
  planned_few = (let n : length (map written_as ws) ≡ length ws = length-map ws written_as in let e = ap length pairs in let l = pairs_few g u fit.few in omega (arith, n, e, l))

  pub planned_logged : length plan.logged ≤ write_limit g
  planned_logged = (let e : length plan.logged ≡ length ws = ap (λ (p : Placed). length p.logged) planned ∙ length-map ws (λ w. w.block) in let l = planned_few in omega (arith, e, l))

  pub planned_plain : (plan.direct ≡ []) × (plan.revoked ≡ [])
  planned_plain = (ap (λ (p : Placed). p.direct) planned, ap (λ (p : Placed). p.revoked) planned)

  pub planned_slots : slots_in plan ≤ 2002
  planned_slots =
      let l = planned_logged in
      let d : length plan.direct ≡ 0 = ap length planned_plain.0 in
      let s = size_low (length plan.logged) (length plan.revoked) in
      let h = limit-high g in
      omega (arith, l, d, s, h)

-- nothing is staged on an open side, so its next entry is at the doorbell
pub staged_opened : (g : Geometry) (v : OpenedState) → ∥ IsOpened g v ∥₁ → staged_end v.side.port ≤ v.side.port.doorbell
staged_opened g v o = ∥∥₁_elim o le_prop (λ is.
    let none = (subst (λ w. Rattle.mq_queue_side.specs.Side.IsKept (Rattle.mq_ledger.specs.State.from_at (is.journal.from ∷ []) 0) is.journal.history v.side.port.failed v.side.port.pending v.side.port.doorbell w) is.settled.none is.journal.side.kept).1 in
    let empty : length v.side.port.pending ≡ 0 = ap length none in
    omega (arith, empty))

-- what a bound says that is known only to hold
pub both_low : (B : Type 0) (a b c d : ℕ) → ∥ B ∥₁ → (B → (a ≤ b) × (c ≤ d)) → (a ≤ b) × (c ≤ d)
both_low B a b c d is f = ∥∥₁_elim is (×_prop le_prop le_prop) f

-- how far the doorbell rises
pub written_low : (g : Geometry) (ws : List Write) (old new : PortsState) → length ws ≤ write_limit g → IsWritten g (map written_as ws) old new → doorbell_on new ≤ doorbell_on old + 4096
written_low g ws old new few w =
    let e = w.entries in
    let n : length (map written_as ws) ≡ length ws = length-map ws written_as in
    let s = size_low (length (map written_as ws)) 0 in
    let h = limit-high g in
    omega (arith, e, n, s, h, few)
