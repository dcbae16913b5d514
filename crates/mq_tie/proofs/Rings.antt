-- How often the ports of a run rang, and how many events happened on them.
use Rattle.std.proofs.Common.{◌≡◌, ℕ, zero, suc, ◌+◌, ◌-◌, ◌^◌, ◌<◌, ◌≤◌, ◌⊎◌, List, [], ◌∷◌, ◌++◌, length, map, Some, refl, sym, ap, subst, ◌∙◌, inl, inr, arith}
use Rattle.std.specs.Prelude.{reverse, slice_get, slice_index_or}
use Rattle.std.proofs.lemmas.List.{length-reverse, reverse-append}
use Rattle.mq_blocks.specs.Drive.{PortState, counted}
use Rattle.mq_drive.specs.Steps.{PortFault}
use Rattle.mq_drive.specs.declared.port.Port.{Ghosts}
use Rattle.mq_journal.specs.Numbers.{Seat, Shared, Start}
use Rattle.mq_journal.specs.Values.{AreFew, IsRecord, rung_of, side_values}
use Rattle.mq_ledger.specs.History.{of_queue}
use Rattle.mq_ledger.specs.State.{no_port, port_at}
use Rattle.mq_ledger.specs.declared.tx.Tx.{Tx}
use Rattle.mq_recover.specs.Drives.{faults_of}
use Rattle.mq_desk_laws.specs.Groups.{GroupView}
use Rattle.mq_desk_laws.specs.Rule.{IsSide, doorbell_of, own_of, part_of, port_of}
use Rattle.mq_desk_laws.specs.Rule as rule
use Rattle.mq_desk_laws.specs.Values.{Part, Values}
use Rattle.mq_desk_laws.proofs.Opening.{at_map}
use Rattle.mq_queue_side.specs.Counts.{most_events}
use Rattle.mq_queue_side.specs.Side.{SideState, side_state}
use Rattle.mq_queue_side.specs.declared.root.Root.{Root}
use Rattle.mq_queue_side.specs.declared.side.QueueSide.{QueueSide}
use Rattle.mq_tie.specs.Backed.{faults_at}
use Rattle.mq_tie.specs.Closed.{HasRun}
use Rattle.mq_tie.specs.Legal.{numbered}
use Rattle.mq_tie.specs.Ports.{opened_states}
use Rattle.mq_tie.specs.Rings.{RangOnceEach, txs_in}
use Rattle.mq_tie.specs.Runs.{history_of, ports_of}
use Rattle.mq_tie.specs.declared.ended.Ended.{Ended}
use Rattle.mq_tie.proofs.EndedParts.{there as found}
use Rattle.mq_tie.proofs.Runs.{same-ports}

-- ---- the history as transactions

numbered-append : {E : Type 0} (n : ℕ) (xs ys : List E) → numbered n (xs ++ ys) ≡ numbered n xs ++ numbered (n + length xs) ys
numbered-append n [] ys = let same : n ≡ n + 0 = omega arith in ap (λ (m : ℕ). numbered m ys) same
numbered-append n (x ∷ xs) ys =
    let same : suc n + length xs ≡ n + suc (length xs) = omega arith in
    ap (λ hs. (n, x) ∷ hs) (numbered-append (suc n) xs ys ∙ ap (λ (m : ℕ). numbered (suc n) xs ++ numbered m ys) same)

-- the newest number stands first in it, read backwards
newest-first : {E : Type 0} (n : ℕ) (e : E) (es : List E) → reverse (numbered n (reverse (e ∷ es))) ≡ (n + length es, e) ∷ reverse (numbered n (reverse es))
newest-first n e es =
    ap (λ xs. reverse (numbered n xs)) (reverse-append (e ∷ []) es)
    ∙ (ap reverse (numbered-append n (reverse es) (e ∷ []))
    ∙ (reverse-append (numbered n (reverse es)) ((n + length (reverse es), e) ∷ [])
    ∙ ap (λ (k : ℕ). (n + k, e) ∷ reverse (numbered n (reverse es))) (length-reverse es)))

module _ {Q R E : Type 0} (values : Values Q R E) (group : GroupView E) where
  txs-of-log : (base : ℕ) (log : List E) → map (λ h. rule.numbered h.0 (group.tx h.1)) (reverse (numbered (suc base) (reverse log))) ≡ rule.history values group base log
  txs-of-log base [] = refl
  txs-of-log base (e ∷ es) =
      let same : suc base + length es ≡ base + length es + 1 = omega arith in
      ap (map (λ h. rule.numbered h.0 (group.tx h.1))) (newest-first (suc base) e es)
      ∙ ((λ i. rule.numbered (same i) (group.tx e) ∷ txs-of-log base es i))

-- ---- a side

at-none : {A : Type 0} (f : A → PortState) (xs : List A) (q : ℕ) → slice_index_or (map (λ w. (f w).doorbell) xs) q 0 ≡ (slice_index_or (map f xs) q no_port).doorbell
at-none f [] q = refl
at-none f (x ∷ xs) zero = refl
at-none f (x ∷ xs) (suc q) = at-none f xs q

few-events : (p : Part) (s : SideState) → AreFew p s → (2 ^ 64 - 1 ≤ length s.faults) ⊎ (s.port.events ≤ p.opened.events + most_events p.txs + length s.faults)
few-events p s (inl many) = inl many
few-events p s (inr low) = inr (omega arith)

rang : (p : Part) (s : SideState) → IsRecord p s → p.start ≡ p.opened.doorbell → RangOnceEach p.txs s.faults p.opened s.port
rang p s is start = record {
  rings = is.rings ∙ ap (λ (n : ℕ). counted p.opened.rings (rung_of n p.txs s.port.doorbell)) start;
  events = few-events p s is.few;
}

module _ {P E : Type 0} {G : Ghosts P} (state : P → PortState) (faults : P → List PortFault) (group : GroupView E) (o : Start P E G) (views : List (Seat P E G)) (r : Ended P E G) (q : ℕ) (run : HasRun state faults group o views r) (lt : q < length o.sides) where
  abbrev values : Values (QueueSide P E G) (Root P G) E
  values = side_values state faults

  abbrev K : Shared P E G
  K = run.end.known

  txs-are : own_of values group q K ≡ txs_in group q (history_of r)
  txs-are =
      ap (of_queue q) (sym (txs-of-log values group K.opening.base K.log))
      ∙ ap (txs_in group q) (sym run.run.history)

  opened-is : port_of values group K.opening q ≡ port_at (opened_states G state faults group o) q
  opened-is = ap (λ (z : Start P E G). port_of values group z q) run.end.opening

  at : (w : QueueSide P E G) × (slice_get run.sides q ≡ Some w)
  at = found run.sides q (let m = run.end.all_sides in omega arith)

  new-is : port_at (map state (ports_of r)) q ≡ state at.0.pmr.port
  new-is =
      ap (λ ps. port_at (map state ps) q) run.ports
      ∙ (ap (λ ps. port_at ps q) (sym (same-ports state run.sides))
      ∙ (at_map (λ (s : QueueSide P E G). state s.pmr.port) run.sides q at.0 no_port at.1).0)

  faults-are : faults_at (faults_of faults (ports_of r) r.root.port) q ≡ faults at.0.pmr.port
  faults-are =
      ap (λ ps. slice_index_or (map faults ps) q []) run.ports
      ∙ (ap (λ fs. slice_index_or fs q []) (sym (same-ports faults run.sides))
      ∙ (at_map (λ (s : QueueSide P E G). faults s.pmr.port) run.sides q at.0 [] at.1).0)

  pub rang-once : RangOnceEach (txs_in group q (history_of r)) (faults_at (faults_of faults (ports_of r) r.root.port) q) (port_at (opened_states G state faults group o) q) (port_at (map state (ports_of r)) q)
  rang-once =
      let is : IsSide values group q K at.0 = run.end.sides_stand q at.0 at.1 in
      let side : RangOnceEach (own_of values group q K) (faults at.0.pmr.port) (port_of values group K.opening q) (state at.0.pmr.port) =
      rang (part_of values group q K) (side_state state faults at.0) is.says.is (at-none (λ (w : QueueSide P E G). state w.pmr.port) K.opening.sides q) in
      subst (λ (z : List Tx × List PortFault × PortState × PortState). RangOnceEach z.0 z.1 z.2 z.3) (λ i. (txs-are i, sym faults-are i, opened-is i, sym new-is i)) side
