-- Storing the head past what is done keeps a side.
use Rattle.std.proofs.Common.{◌≡◌, ℕ, ◌≤◌, eqb, Bool, true, false, cond, List, sym, refl, ap, subst, ◌∙◌, inl, inr, arith}
use Rattle.std.proofs.lemmas.Bool.{cases_Bool, eqb-true}
use Rattle.mq_blocks.specs.Drive.{PortState, AreFrom, after_flush, after_store_head}
use Rattle.mq_blocks.specs.declared.command.Command.{Command}
use Rattle.mq_ledger.specs.KnownJournal.{KnownJournal, LogOk}
use Rattle.mq_ledger.specs.Sides.{SideOk}
use Rattle.mq_ledger.specs.declared.tx.Tx.{Tx}
use Rattle.mq_core.specs.Events.{MayStoreHead}
use Rattle.mq_core.proofs.EventsSides.{side_flush, side_store_head}
use Rattle.mq_pmr.specs.Queue.{after_head}
use Rattle.mq_pmr.specs.Rungs.{AreEnds, last_end, last_leading, left_after, is_clear}
use Rattle.mq_pmr.specs.declared.rungs.Rung.{Rung}
use Rattle.mq_queue_side.specs.Side.{SideState, IsQueueSide, IsPassedOf, AreRungsOf, IsDoneOf, IsKept}
use Rattle.mq_queue_side.proofs.SideEnds.{done_up, passed_done}
use Rattle.mq_queue_side.proofs.SideRungs.{passed_is_end, leading_passed, leading_left, leading_last, leading_up, leading_high}

side_head : (k : KnownJournal) (q : ℕ) (us : List Tx) (p : PortState) (h : ℕ) → SideOk k q us p → MayStoreHead (k.from q) us p h → SideOk k q us (after_head p h)
side_head k q us p h s may = elim (cases_Bool (eqb p.head h)) [
  | inl same ↦ rw same s
  | inr other ↦ rw other (side_flush k q us (after_store_head p h) (side_store_head k q us p h s may))
]

pub head_at : (p : PortState) (h : ℕ) → (after_head p h).head ≡ h
head_at p h = elim (cases_Bool (eqb p.head h)) [
  | inl same ↦ rw same (eqb-true _ _ same)
  | inr other ↦ rw other refl
]

pub same_head : (b : Bool) (p r : PortState) (A : PortState → Type 0) → A p → A r → A (cond b p r)
same_head true p r A x y = x
same_head false p r A x y = y

-- the ring's records moved on with the port
pub record HeadMoves (old new : SideState) (h : ℕ) : Type 0 where
  pub geometry : new.geometry ≡ old.geometry
  pub queue : new.queue ≡ old.queue
  pub passed : new.passed ≡ last_leading (is_clear old.port) old.passed old.rung
  pub rung : new.rung ≡ left_after (is_clear old.port) old.rung
  pub end_is : h ≡ new.passed.end
  pub kept : new.kept ≡ old.kept

-- what a ring's own records say of its port
pub record Rings (old new : SideState) : Type 0 where
  pub stored : old.port.stored_head ≤ old.passed.end
  pub ends : AreEnds old.passed.end old.port.doorbell old.rung
  pub posted : AreFrom new.passed.end old.port.posted
  pub failed : AreFrom new.passed.end old.port.failed

module _ (k : KnownJournal) (q : ℕ) (us : List Tx) (old new : SideState) (log : LogOk k) (s : IsQueueSide k q us old) (a : HeadMoves old new new.passed.end) (r : Rings old new) where
  passed_is : IsPassedOf (k.from q) us new.passed
  passed_is = subst (λ (d : Rung). IsPassedOf (k.from q) us d) (sym a.passed) (leading_passed (k.from q) us (is_clear old.port) old.passed old.rung s.passed s.rung)

  may : MayStoreHead (k.from q) us old.port new.passed.end
  may =
      let e : new.passed.end ≡ (last_leading (is_clear old.port) old.passed old.rung).end = ap (λ (d : Rung). d.end) a.passed in
      record {
        is_end = passed_is_end (k.from q) us new.passed passed_is;
        above = omega (arith, r.stored, e, leading_up (is_clear old.port) old.port.doorbell old.passed old.rung r.ends);
        rung = omega (arith, e, leading_high (is_clear old.port) old.port.doorbell old.passed old.rung r.ends);
        posted = r.posted;
        failed = r.failed;
      }

  with_port : (p : PortState) → new.port ≡ p → SideOk k q us p → p.doorbell ≡ old.port.doorbell → p.failed ≡ old.port.failed → p.pending ≡ old.port.pending → IsDoneOf (k.from q) us p.head new.done → IsQueueSide k q us new
  with_port p is side bell failed pending done = record {
    geometry = a.geometry ∙ s.geometry;
    queue = a.queue ∙ s.queue;
    entries = s.entries;
    side = subst (λ (t : PortState). SideOk k q us t) (sym is) side;
    passed = passed_is;
    rung =
        let passes = is_clear old.port in
        let left = leading_left (k.from q) us passes old.passed old.rung s.rung in
        let behind : AreRungsOf (k.from q) us new.passed.end (left_after passes old.rung) = subst (λ (d : Rung). AreRungsOf (k.from q) us d.end (left_after passes old.rung)) (sym a.passed) left in
        subst (λ (rs : List Rung). AreRungsOf (k.from q) us new.passed.end rs) (sym a.rung) behind;
    last = (λ i. last_end (a.passed i).end (a.rung i)) ∙ leading_last (is_clear old.port) old.passed old.rung ∙ s.last ∙ sym bell ∙ ap (λ (t : PortState). t.doorbell) (sym is);
    done = subst (λ (t : PortState). IsDoneOf (k.from q) us t.head new.done) (sym is) done;
    kept =
        subst (λ (t : PortState). IsKept (k.from q) us t.failed t.pending t.doorbell new.kept) (sym is)
        (transport-kept p.failed p.pending p.doorbell failed pending bell);
  }
    where
      transport-kept : (f : List Command) (w : List Command) (b : ℕ) → f ≡ old.port.failed → w ≡ old.port.pending → b ≡ old.port.doorbell → IsKept (k.from q) us f w b new.kept
      transport-kept f w b x y z = rw (x, y, z, a.kept) s.kept

  done_stays : (p : PortState) → old.port.head ≤ p.head → new.done ≡ old.done → IsDoneOf (k.from q) us p.head new.done
  done_stays p up same = subst (λ (n : ℕ). IsDoneOf (k.from q) us p.head n) (sym same) (done_up (k.from q) us old.port.head p.head old.done up s.done)

  pub advanced : new.port ≡ after_head old.port new.passed.end → new.done ≡ new.passed.tx → IsQueueSide k q us new
  advanced is done =
      let h : ℕ = new.passed.end in
      let e = same_head (eqb old.port.head h) old.port (after_flush (after_store_head old.port h)) in
      with_port (after_head old.port h) is (side_head k q us old.port h s.side may)
      (e (λ t. t.doorbell ≡ old.port.doorbell) refl refl) (e (λ t. t.failed ≡ old.port.failed) refl refl) (e (λ t. t.pending ≡ old.port.pending) refl refl)
      (subst (λ (n : ℕ). IsDoneOf (k.from q) us (after_head old.port h).head n) (sym done) (passed_done (k.from q) us new.passed (after_head old.port h).head passed_is (let at = head_at old.port h in omega (arith, at))))

  pub stored : new.port ≡ after_store_head old.port new.passed.end → new.done ≡ old.done → IsQueueSide k q us new
  stored is done = with_port (after_store_head old.port new.passed.end) is (side_store_head k q us old.port new.passed.end s.side may) refl refl refl (done_stays (after_store_head old.port new.passed.end) (omega arith) done)

  pub passed : new.port ≡ old.port → new.done ≡ old.done → IsQueueSide k q us new
  passed is done = with_port old.port is s.side refl refl refl (done_stays old.port (omega arith) done)
