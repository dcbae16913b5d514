-- Sending the newest transaction keeps a side, whole or cut.
use Rattle.std.proofs.Common.{◌≡◌, ◌⊎◌, ℕ, ◌+◌, ◌<◌, ◌≤◌, List, [], ◌∷◌, ◌++◌, length, Option, Some, None, sym, refl, ap, subst, ◌∙◌, inl, inr, arith}
use Rattle.mq_blocks.specs.Drive.{PortState, staged_end, after_flush, after_ring}
use Rattle.mq_blocks.specs.declared.command.Command.{Command}
use Rattle.mq_ledger.specs.Items.{end_of}
use Rattle.mq_ledger.specs.KnownJournal.{KnownJournal, LogOk}
use Rattle.mq_ledger.specs.Sides.{SideOk}
use Rattle.mq_ledger.specs.declared.tx.Tx.{Tx}
use Rattle.mq_core.specs.Events.{MayRing}
use Rattle.mq_core.proofs.EventsSides.{side_flush}
use Rattle.mq_core.proofs.EventsSideCommands.{side_ring}
use Rattle.mq_core.proofs.HistoryBases.{at_append}
use Rattle.mq_pmr.specs.Runs.{Items, after_some}
use Rattle.mq_pmr.specs.Rungs.{last_end}
use Rattle.mq_pmr.specs.declared.rungs.Rung.{Rung}
use Rattle.mq_pmr.proofs.Runs.{end_all}
use Rattle.mq_queue_side.specs.Commits.{NumberedCommit, commit_of, items_of}
use Rattle.mq_queue_side.specs.Side.{SideState, IsQueueSide, IsRungOf, IsPassedOf, IsDoneOf, IsKept, NewestBegins}
use Rattle.mq_queue_side.specs.Sent.{AreItems, IsReady, Sends, RingsAll, IsCutAt, after_send}
use Rattle.mq_queue_side.specs.declared.answers.Why.{Why}
use Rattle.mq_queue_side.specs.declared.answers.Why.TheVariants.{Off}
use Rattle.mq_ledger.specs.History.{IsAt}
use Rattle.mq_ledger.proofs.HistoryQueues.{FromQueue-of}
use Rattle.mq_queue_side.proofs.SideEnds.{SameRecords, moved, done_up, rungs_along}
use Rattle.mq_queue_side.proofs.CommitsItems.{staged_some, items_end, items_are, items_some}
use Rattle.mq_queue_side.proofs.SideRungs.{rungs_more, last_more}

-- the newest is rung, and its entries begin at the doorbell
newest_rung : (from tx bell end : ℕ) (us : List Tx) → NewestBegins from us bell tx → end ≡ end_of from us → (is : IsRungOf from us (record { tx = tx; end = end })) × (end_of from is.ts ≡ bell)
newest_rung from tx bell end [] newest is = absurd newest
newest_rung from tx bell end (t ∷ ts) newest is = (record { t = t; ts = ts; at = inl (refl, refl); tx = sym newest.0; end_is = is }, sym newest.1)

pub none_kept : (from : ℕ) (us : List Tx) (failed pending : List Command) (bell : ℕ) (kept : Option (ℕ × Why)) → kept ≡ None → IsKept from us failed pending bell kept → (failed ≡ []) × (pending ≡ [])
none_kept from us failed pending bell kept e h = subst (λ (w : Option (ℕ × Why)). IsKept from us failed pending bell w) e h

-- one more transaction is rung, and the other records are as they were
pub record RungRecords (old new : SideState) (r : Rung) : Type 0 where
  pub geometry : new.geometry ≡ old.geometry
  pub queue : new.queue ≡ old.queue
  pub passed : new.passed ≡ old.passed
  pub rung : new.rung ≡ old.rung ++ r ∷ []
  pub done : new.done ≡ old.done

-- The newest transaction is drawn and nothing of it is staged; these are its items.
pub record AreReady (k : KnownJournal) (q : ℕ) (us : List Tx) (s : SideState) (tx : ℕ) (items : Items) : Type 0 where
  pub none : s.kept ≡ None
  pub items_are : AreItems k.entries.form k.geometry q (k.from q) us tx s.port.doorbell items
  pub some : 0 < length items
  pub newest : NewestBegins (k.from q) us s.port.doorbell tx

-- the transactions are those of the queue
pub own_queue : (k : KnownJournal) (q : ℕ) (us : List Tx) (s : SideState) (t : Tx) (ts : List Tx) → us ≡ t ∷ ts → IsQueueSide k q us s → t.queue ≡ q
own_queue k q us s t ts newest is =
    let part = is.side.part in
    let at : IsAt t ts us = subst (λ ws. IsAt t ts ws) (sym newest) (inl (refl, refl)) in
    (FromQueue-of q t ts k.history (subst (λ ws. IsAt t ts ws) (sym part.1) (at_append t ts part.0 us at))).own

pub are_ready : (k : KnownJournal) (q : ℕ) (us : List Tx) (s : SideState) (n : NumberedCommit) → IsReady k q us s n → IsQueueSide k q us s → AreReady k q us s n.number (items_of s.geometry n)
are_ready k q us s n r is =
    let form = k.entries.form in
    let g = k.geometry in
    let from : ℕ = k.from q in
    let t = r.t in
    let ts = r.ts in
    let own : t.queue ≡ q = own_queue k q us s t ts r.newest is in
    let a : AreItems form g t.queue from (t ∷ ts) t.number (end_of from ts) (items_of g (commit_of form t ts)) = items_are form g from t ts in
    let b : AreItems form g q from (t ∷ ts) t.number (end_of from ts) (items_of g (commit_of form t ts)) = subst (λ (m : ℕ). AreItems form g m from (t ∷ ts) t.number (end_of from ts) (items_of g (commit_of form t ts))) own a in
    let c : AreItems form g q from us t.number (end_of from ts) (items_of g (commit_of form t ts)) = subst (λ (ws : List Tx). AreItems form g q from ws t.number (end_of from ts) (items_of g (commit_of form t ts))) (sym r.newest) b in
    let d : AreItems form g q from us t.number s.port.doorbell (items_of g (commit_of form t ts)) = subst (λ (m : ℕ). AreItems form g q from us t.number m (items_of g (commit_of form t ts))) (sym r.rung) c in
    let e : AreItems form g q from us n.number s.port.doorbell (items_of g n) = subst (λ (m : NumberedCommit). AreItems form g q from us m.number s.port.doorbell (items_of g m)) (sym r.commit) d in
    record {
      none = r.none;
      items_are = subst (λ h. AreItems form g q from us n.number s.port.doorbell (items_of h n)) (sym is.geometry) e;
      some = items_some s.geometry n;
      newest = subst (λ (ws : List Tx). NewestBegins from ws s.port.doorbell n.number) (sym r.newest) (sym (ap (λ (m : NumberedCommit). m.number) r.commit), r.rung);
    }

module _ (k : KnownJournal) (q : ℕ) (us : List Tx) (old : SideState) (tx : ℕ) (items : Items) (log : LogOk k) (r : AreReady k q us old tx items) (s : IsQueueSide k q us old) where
  abbrev p : PortState
  p = old.port

  quiet : (p.failed ≡ []) × (p.pending ≡ [])
  quiet = none_kept (k.from q) us p.failed p.pending p.doorbell old.kept r.none s.kept

  pub nothing_pending : p.pending ≡ []
  nothing_pending = quiet.1

  pub at_end : staged_end p ≡ p.doorbell
  at_end = (let e : length p.pending ≡ 0 = ap length quiet.1 in omega (arith, e))

  here : AreItems k.entries.form k.geometry q (k.from q) us tx (staged_end p) items
  here = subst (λ (n : ℕ). AreItems k.entries.form k.geometry q (k.from q) us tx n items) (sym at_end) r.items_are

  pub whole : p.doorbell + length items ≡ end_of (k.from q) us
  whole = items_end k.entries.form k.geometry q (k.from q) us tx p.doorbell items r.items_are

  abbrev then : PortState
  then = after_some p tx (length items) items

  all : SideOk k q us then
  all = staged_some k q us p tx (length items) items log s.entries s.side here (omega arith)

  then_end : staged_end then ≡ end_of (k.from q) us
  then_end = end_all p tx items ∙ (let e = at_end in let w = whole in let sum : staged_end p + length items ≡ end_of (k.from q) us = omega (arith, e, w) in sum)

  -- ---- cut

  off_with : (new : SideState) (m : PortState) → SideOk k q us m → m.doorbell ≡ p.doorbell → p.head ≤ m.head → m.failed ≡ p.failed → new.port ≡ m → SameRecords old new → new.kept ≡ Some (tx, Off) → IsQueueSide k q us new
  off_with new m side bell up failed is same kept =
      let newest : NewestBegins (k.from q) us m.doorbell tx = subst (λ (b : ℕ). NewestBegins (k.from q) us b tx) (sym bell) r.newest in
      moved k q us old new m is same bell up side
      (subst (λ (o : Option (ℕ × Why)). IsKept (k.from q) us m.failed m.pending m.doorbell o) (sym kept) (failed ∙ quiet.0, newest)) s

  pub staged_off : (new : SideState) (n : ℕ) → n < length items → new.port ≡ after_some p tx n items → SameRecords old new → new.kept ≡ Some (tx, Off) → IsQueueSide k q us new
  staged_off new n less is same kept = off_with new (after_some p tx n items) (staged_some k q us p tx n items log s.entries s.side here (omega (arith, less))) refl (omega arith) refl is same kept

  pub rung_off : (new : SideState) → (new.port ≡ then) ⊎ (new.port ≡ after_flush then) → SameRecords old new → new.kept ≡ Some (tx, Off) → IsQueueSide k q us new
  rung_off new (inl is) same kept = off_with new then all refl (omega arith) refl is same kept
  rung_off new (inr is) same kept = off_with new (after_flush then) (side_flush k q us then all) refl (let o = s.side.order in o.stored) refl is same kept

  -- ---- whole

  pub sent : (new : SideState) → new.port ≡ after_ring (after_flush then) → RungRecords old new (record { tx = tx; end = staged_end then }) → new.kept ≡ None → IsQueueSide k q us new × (new.port.doorbell ≡ end_of (k.from q) us)
  sent new is same kept =
      let w = whole in
      let some = r.some in
      let e = then_end in
      let o = s.side.order in
      let may : MayRing (k.from q) us (after_flush then) = record { drawn = omega (arith, w, some); whole = e; flushed = e } in
      let side : SideOk k q us (after_ring (after_flush then)) = side_ring k q us (after_flush then) log (side_flush k q us then all) may in
      let last = newest_rung (k.from q) tx p.doorbell (staged_end then) us r.newest e in (
        record {
          geometry = same.geometry ∙ s.geometry;
          queue = same.queue ∙ s.queue;
          entries = s.entries;
          side = subst (λ (t : PortState). SideOk k q us t) (sym is) side;
          passed = subst (λ (d : Rung). IsPassedOf (k.from q) us d) (sym same.passed) s.passed;
          rung =
              let more = rungs_more (k.from q) us old.passed.end old.rung (record { tx = tx; end = staged_end then }) s.rung last.0 (last.1 ∙ sym s.last) in
              rungs_along (k.from q) us old.passed new.passed (old.rung ++ record { tx = tx; end = staged_end then } ∷ []) new.rung same.passed same.rung more;
          last = ap (last_end new.passed.end) same.rung ∙ last_more new.passed.end old.rung (record { tx = tx; end = staged_end then }) ∙ ap (λ (t : PortState). t.doorbell) (sym is);
          done =
              let h : new.port.head ≡ p.stored_head = ap (λ (t : PortState). t.head) is in
              subst (λ (m : ℕ). IsDoneOf (k.from q) us new.port.head m) (sym same.done) (done_up (k.from q) us p.head new.port.head old.done (let up = o.stored in omega (arith, h, up)) s.done);
          kept =
              subst (λ (o : Option (ℕ × Why)). IsKept (k.from q) us new.port.failed new.port.pending new.port.doorbell o) (sym kept)
              (ap (λ (t : PortState). t.failed) is ∙ quiet.0, ap (λ (t : PortState). t.pending) is);
        },
        ap (λ (t : PortState). t.doorbell) is ∙ e,
      )

-- ---- a call, however it ended

module _ (old new : SideState) (n : NumberedCommit) where
  abbrev its : Items
  its = items_of old.geometry n

  pub sends_whole : new.port ≡ after_send old.port n.number its → RungRecords old new (record { tx = n.number; end = staged_end (after_some old.port n.number (length its) its) }) → new.kept ≡ old.kept → Sends old n new × RingsAll old n new
  sends_whole is same kept = (
    λ q k us log r s. (sent k q us old n.number its log (are_ready k q us old n r s) s new is same (kept ∙ r.none)).0,
    λ q k us log r s. (sent k q us old n.number its log (are_ready k q us old n r s) s new is same (kept ∙ r.none)).1,
  )

  pub sends_cut : IsCutAt old.port n.number its new.port → SameRecords old new → new.kept ≡ Some (n.number, Off) → Sends old n new
  sends_cut (inl some) same kept q k us log r s = staged_off k q us old n.number its log (are_ready k q us old n r s) s new some.0 some.1 some.2 same kept
  sends_cut (inr all) same kept q k us log r s = rung_off k q us old n.number its log (are_ready k q us old n r s) s new all same kept

-- ---- a call of the ring, along the number and the items

pub cut_along : (old new : PortState) (tx number : ℕ) (is js : Items) → tx ≡ number → is ≡ js → IsCutAt old tx is new → IsCutAt old number js new
cut_along old new tx number is js same_tx same_items cut =
    subst (λ (xs : Items). IsCutAt old number xs new) same_items (subst (λ (n : ℕ). IsCutAt old n is new) same_tx cut)

pub rung_along : (old new : SideState) (tx number : ℕ) (is js : Items) → tx ≡ number → is ≡ js → RungRecords old new (record { tx = tx; end = staged_end (after_some old.port tx (length is) is) }) → RungRecords old new (record { tx = number; end = staged_end (after_some old.port number (length js) js) })
rung_along old new tx number is js same_tx same_items r =
    subst (λ (xs : Items). RungRecords old new (record { tx = number; end = staged_end (after_some old.port number (length xs) xs) })) same_items
    (subst (λ (n : ℕ). RungRecords old new (record { tx = n; end = staged_end (after_some old.port n (length is) is) })) same_tx r)
