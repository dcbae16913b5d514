-- A posted command that ends keeps a side.
use Rattle.std.proofs.Common.{◌≡◌, ◌≢◌, ℕ, zero, suc, ◌+◌, ◌≤◌, true, List, [], ◌∷◌, ◌++◌, Option, Some, None, sym, refl, ap, subst, ◌∙◌, inl, inr, arith}
use Rattle.std.specs.Prelude.{slice_get}
use Rattle.std.proofs.lemmas.Bool.{eq-eqb, ne_eqb, cases_lt, le-leb, lt-leb}
use Rattle.mq_blocks.specs.Drive.{PortState, AreCounted, after_done, after_failed}
use Rattle.mq_blocks.specs.declared.command.Command.{Command}
use Rattle.mq_ledger.specs.Items.{item_at}
use Rattle.mq_ledger.specs.KnownJournal.{KnownJournal, LogOk}
use Rattle.mq_ledger.specs.Sides.{SideOk, holds_count}
use Rattle.mq_ledger.specs.declared.tx.Tx.{Tx}
use Rattle.mq_core.specs.Events.{index_with, command_with, complete_side, fail_side}
use Rattle.mq_core.proofs.SidesCommands.{count_range, own_with}
use Rattle.mq_core.proofs.EventsSideCommands.{side_complete, side_fail}
use Rattle.mq_pmr.specs.Answers.{EndsWell, EndsBadly}
use Rattle.mq_pmr.specs.Rungs.{last_end}
use Rattle.mq_pmr.specs.declared.rungs.Rung.{Rung}
use Rattle.mq_queue_side.specs.Drained.{kept_with}
use Rattle.mq_queue_side.specs.Side.{SideState, IsQueueSide, IsPassedOf, AreRungsOf, IsBelow, IsDoneOf, IsKept, AreFromTx, HasTx}
use Rattle.mq_queue_side.specs.declared.answers.Why.{Why}
use Rattle.mq_queue_side.specs.declared.answers.Why.TheVariants.{Status, Off}
use Rattle.mq_queue_side.proofs.SideRungs.{rung_number}

-- where the command at an index stands
pub record Stands (cs : List Command) (at : ℕ) (c : Command) : Type 0 where
  pub index : index_with c.count cs ≡ at
  pub command : command_with c.count cs ≡ c
  pub held : holds_count c.count cs ≡ true

pub stands_at : (low high at : ℕ) (cs : List Command) (c : Command) → AreCounted low high cs → slice_get cs at ≡ Some c → Stands cs at c
stands_at low high at [] c k is = absurd (let none : ⊥ = cc in none)
stands_at low high zero (d ∷ cs) c k is =
    let same : d ≡ c = cc in
    let e = eq-eqb d.count c.count (ap (λ (v : Command). v.count) same) in
    record { index = rw e refl; command = rw e same; held = rw e refl }
stands_at low high (suc at) (d ∷ cs) c k is =
    let s = stands_at (d.count + 1) high at cs c k.1.1 is in
    let r = count_range (d.count + 1) high c.count cs k.1.1 s.held in
    let e = ne_eqb d.count c.count (λ same. omega (arith, r.0)) in
    record { index = rw e (ap suc s.index); command = rw e s.command; held = rw e s.held }

done_is : (p : PortState) (at : ℕ) (c : Command) → Stands p.posted at c → complete_side c.count p ≡ after_done p at c
done_is p at c s = λ i. after_done p (s.index i) (s.command i)

failed_is : (p : PortState) (at : ℕ) (c : Command) → Stands p.posted at c → fail_side c.count p ≡ after_failed p at c
failed_is p at c s = λ i. after_failed p (s.index i) (s.command i)

-- what the calls leave as it is
pub record SameRecords (old new : SideState) : Type 0 where
  pub geometry : new.geometry ≡ old.geometry
  pub queue : new.queue ≡ old.queue
  pub passed : new.passed ≡ old.passed
  pub rung : new.rung ≡ old.rung
  pub done : new.done ≡ old.done

-- the ring's records are as they were
pub rungs_along : (from : ℕ) (us : List Tx) (d e : Rung) (rs ss : List Rung) → e ≡ d → ss ≡ rs → AreRungsOf from us d.end rs → AreRungsOf from us e.end ss
rungs_along from us d e rs ss same_passed same_rung are =
    subst (λ (xs : List Rung). AreRungsOf from us e.end xs) (sym same_rung) (subst (λ (r : Rung). AreRungsOf from us r.end rs) (sym same_passed) are)

-- what is done stays done where the head moves up
pub done_up : (from : ℕ) (us : List Tx) (low high n : ℕ) → low ≤ high → IsDoneOf from us low n → IsDoneOf from us high n
done_up from us low high n up (inl none) = inl none
done_up from us low high n up (inr d) = inr (record { t = d.t; ts = d.ts; at = d.at; number = d.number; below = (let b = d.below in omega (arith, b, up)) })

-- the same where another transaction is drawn
pub done_later : (from : ℕ) (t : Tx) (us : List Tx) (head n : ℕ) → IsDoneOf from us head n → IsDoneOf from (t ∷ us) head n
done_later from t us head n (inl none) = inl none
done_later from t us head n (inr d) = inr (record { t = d.t; ts = d.ts; at = inr d.at; number = d.number; below = d.below })

-- what is passed is done once the head is there
pub passed_done : (from : ℕ) (us : List Tx) (r : Rung) (head : ℕ) → IsPassedOf from us r → r.end ≤ head → IsDoneOf from us head r.tx
passed_done from us r head (inl none) up = inl none.0
passed_done from us r head (inr is) up = inr (record { t = is.t; ts = is.ts; at = is.at; number = is.tx; below = (let e = is.end_is in omega (arith, e, up)) })

-- the port moved, and its records are as they were
pub moved : (k : KnownJournal) (q : ℕ) (us : List Tx) (old new : SideState) (p : PortState) → new.port ≡ p → SameRecords old new → p.doorbell ≡ old.port.doorbell → old.port.head ≤ p.head → SideOk k q us p
    → IsKept (k.from q) us p.failed p.pending p.doorbell new.kept → IsQueueSide k q us old → IsQueueSide k q us new
moved k q us old new p is same bell up side kept s =
    record {
      geometry = same.geometry ∙ s.geometry;
      queue = same.queue ∙ s.queue;
      entries = s.entries;
      side = subst (λ (r : PortState). SideOk k q us r) (sym is) side;
      passed = subst (λ (d : Rung). IsPassedOf (k.from q) us d) (sym same.passed) s.passed;
      rung = rungs_along (k.from q) us old.passed new.passed old.rung new.rung same.passed same.rung s.rung;
      last = (λ i. last_end (same.passed i).end (same.rung i)) ∙ s.last ∙ sym bell ∙ ap (λ (r : PortState). r.doorbell) (sym is);
      done =
          let e : new.port.head ≡ p.head = ap (λ (r : PortState). r.head) is in
          subst (λ (n : ℕ). IsDoneOf (k.from q) us new.port.head n) (sym same.done) (done_up (k.from q) us old.port.head new.port.head old.done (omega (arith, e, up)) s.done);
      kept = subst (λ (r : PortState). IsKept (k.from q) us r.failed r.pending r.doorbell new.kept) (sym is) kept;
    }

pub kept-along : (from : ℕ) (us : List Tx) (failed pending : List Command) (bell : ℕ) (a b : Option (ℕ × Why)) → b ≡ a → IsKept from us failed pending bell a → IsKept from us failed pending bell b
kept-along from us failed pending bell a b e h = subst (λ (w : Option (ℕ × Why)). IsKept from us failed pending bell w) (sym e) h

pub unmoved : (k : KnownJournal) (q : ℕ) (us : List Tx) (old new : SideState) → new.port ≡ old.port → SameRecords old new → new.kept ≡ old.kept → IsQueueSide k q us old → IsQueueSide k q us new
unmoved k q us old new is same kept s = moved k q us old new old.port is same refl (omega arith) s.side (kept-along (k.from q) us old.port.failed old.port.pending old.port.doorbell old.kept new.kept kept s.kept) s

-- ---- with success

pub well_ended : (k : KnownJournal) (q : ℕ) (us : List Tx) (old new : SideState) (slot : ℕ) → LogOk k → EndsWell old.port slot new.port → SameRecords old new → new.kept ≡ old.kept → IsQueueSide k q us old → IsQueueSide k q us new
well_ended k q us old new slot log ends same kept s =
    let c = ends.command in
    let at = stands_at old.port.stored_head old.port.doorbell ends.at old.port.posted c s.side.commands.posted_counts ends.posted in
    let side : SideOk k q us (after_done old.port ends.at c) = subst (λ (r : PortState). SideOk k q us r) (done_is old.port ends.at c at) (side_complete k q us old.port log s.side c.count at.held) in
    moved k q us old new (after_done old.port ends.at c) ends.is same refl (omega arith) side (kept-along (k.from q) us old.port.failed old.port.pending old.port.doorbell old.kept new.kept kept s.kept) s

-- ---- with an error

of_more : (n : ℕ) (cs : List Command) (c : Command) → AreFromTx n cs → n ≤ c.tx → AreFromTx n (cs ++ c ∷ [])
of_more n [] c are l = (l, tt)
of_more n (d ∷ cs) c are l = (are.0, of_more n cs c are.1 l)

of_less : (m n : ℕ) (cs : List Command) → m ≤ n → AreFromTx n cs → AreFromTx m cs
of_less m n [] l are = tt
of_less m n (d ∷ cs) l are = (omega (arith, l, are.0), of_less m n cs l are.1)

has_more : (n : ℕ) (cs : List Command) (c : Command) → HasTx n cs → HasTx n (cs ++ c ∷ [])
has_more n [] c has = absurd has
has_more n (d ∷ cs) c (inl here) = inl here
has_more n (d ∷ cs) c (inr deeper) = inr (has_more n cs c deeper)

has_last : (n : ℕ) (cs : List Command) (c : Command) → c.tx ≡ n → HasTx n (cs ++ c ∷ [])
has_last n [] c e = inl e
has_last n (d ∷ cs) c e = inr (has_last n cs c e)

-- the least transaction stays the one that is kept
first_failed : (from : ℕ) (us : List Tx) (failed pending : List Command) (bell : ℕ) (c : Command) (tx status : ℕ) → failed ≡ [] → tx ≡ c.tx → status ≢ 0 → IsBelow from us bell tx → IsKept from us (failed ++ c ∷ []) pending bell (Some (tx, Status status))
first_failed from us failed pending bell c tx status none is bad rung =
    let one : (c ∷ []) ≡ (failed ++ c ∷ []) = ap (λ (cs : List Command). cs ++ c ∷ []) (sym none) in
    (bad, has_last tx failed c (sym is), subst (AreFromTx tx) one (omega (arith, is), tt), rung)

pub kept_more : (from : ℕ) (us : List Tx) (failed pending : List Command) (bell : ℕ) (c : Command) (kept : Option (ℕ × Why)) (tx status : ℕ) → tx ≡ c.tx → status ≢ 0 → IsBelow from us bell tx
    → IsKept from us failed pending bell kept → IsKept from us (failed ++ c ∷ []) pending bell (kept_with kept tx status)
kept_more from us failed pending bell c None tx status is bad rung k = first_failed from us failed pending bell c tx status k.0 is bad rung
kept_more from us failed pending bell c (Some (n, Off)) tx status is bad rung k = first_failed from us failed pending bell c tx status k.0 is bad rung
kept_more from us failed pending bell c (Some (n, Status s)) tx status is bad rung k = elim (cases_lt tx n) [
  | inl less ↦ rw (lt-leb n tx less) (bad, has_last tx failed c (sym is), of_more tx failed c (of_less tx n failed (omega (arith, less)) k.2) (omega (arith, is)), rung)
  | inr more ↦ rw (le-leb n tx more) (k.0, has_more n failed c k.1, of_more n failed c k.2 (omega (arith, is, more)), k.3)
]

-- the command's transaction is rung
rung_tx : (k : KnownJournal) (q : ℕ) (us : List Tx) (p : PortState) (at : ℕ) (c : Command) → SideOk k q us p → Stands p.posted at c → IsBelow (k.from q) us p.doorbell c.tx
rung_tx k q us p at c s stands =
    let own = own_with k.entries.form k.geometry q (k.from q) c.count us p.posted s.commands.posted stands.held in
    let number : c.tx ≡ (item_at (k.from q) us c.count).number = ap (λ (d : Command). d.tx) (sym stands.command ∙ own) in
    let range = count_range p.stored_head p.doorbell c.count p.posted s.commands.posted_counts stands.held in
    let o = s.order in
    subst (λ (n : ℕ). IsBelow (k.from q) us p.doorbell n) (sym number)
    (rung_number (k.from q) c.count p.doorbell us s.ends.doorbell (let a = o.head_low in let b = o.stored in omega (arith, a, b, range.0)) range.1)

pub badly_ended : (k : KnownJournal) (q : ℕ) (us : List Tx) (old new : SideState) (tx status : ℕ) → LogOk k → EndsBadly old.port tx new.port → status ≢ 0 → SameRecords old new → new.kept ≡ kept_with old.kept tx status → IsQueueSide k q us old → IsQueueSide k q us new
badly_ended k q us old new tx status log ends bad same kept s =
    let c = ends.command in
    let at = stands_at old.port.stored_head old.port.doorbell ends.at old.port.posted c s.side.commands.posted_counts ends.posted in
    let p : PortState = after_failed old.port ends.at c in
    let rung : IsBelow (k.from q) us old.port.doorbell tx = subst (λ (n : ℕ). IsBelow (k.from q) us old.port.doorbell n) (sym ends.tx_is) (rung_tx k q us old.port ends.at c s.side at) in
    let side : SideOk k q us p = subst (λ (r : PortState). SideOk k q us r) (failed_is old.port ends.at c at) (side_fail k q us old.port log s.side c.count at.held) in
    moved k q us old new p ends.is same refl (omega arith) side
    (kept-along (k.from q) us p.failed p.pending p.doorbell (kept_with old.kept tx status) new.kept kept (kept_more (k.from q) us old.port.failed old.port.pending old.port.doorbell c old.kept tx status ends.tx_is bad rung s.kept)) s
