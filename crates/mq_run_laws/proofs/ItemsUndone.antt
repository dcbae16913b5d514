-- A transaction that a side shows as failed, or as not rung, has an entry at or above the stored head of
-- its port.
use Rattle.std.proofs.Common.{◌≡◌, ◌∙◌, ℕ, ◌+◌, ◌<◌, ◌≤◌, eqb, Bool, cond, List, [], ◌∷◌, Option, inl, inr, refl, sym, ap, subst, arith}
use Rattle.std.proofs.lemmas.Bool.{cases_lt, eq-eqb}
use Rattle.mq_blocks.specs.Descriptor.{DescriptorForm}
use Rattle.mq_blocks.specs.Drive.{AreFrom, PortState, staged_end}
use Rattle.mq_blocks.specs.declared.command.Command.{Command}
use Rattle.mq_blocks.specs.declared.geometry.Geometry.{Geometry}
use Rattle.mq_core.proofs.KnownJournalSources.{from_of, number-from}
use Rattle.mq_journal.specs.Draining.{report_of}
use Rattle.mq_journal.specs.Values.{IsUnrung, Shows}
use Rattle.mq_ledger.proofs.HistoryQueues.{FromQueue-of}
use Rattle.mq_ledger.specs.History.{IsAt, of_queue, writes}
use Rattle.mq_ledger.specs.Items.{descriptor_blocks, end_of, item_at, total}
use Rattle.mq_ledger.specs.KnownJournal.{KnownJournal}
use Rattle.mq_ledger.specs.Sides.{AreOwn, SideOk}
use Rattle.mq_ledger.specs.declared.tx.Tx.{Tx}
use Rattle.mq_pmr.specs.Queue.{times}
use Rattle.mq_queue_side.specs.Laws.{NamesTransaction}
use Rattle.mq_queue_side.specs.Side.{HasTx}
use Rattle.mq_queue_side.specs.declared.answers.Cause.{Cause}
use Rattle.mq_queue_side.specs.declared.answers.Cause.TheVariants.{Failed, FailedHome, Off, Stopped}
use Rattle.mq_queue_side.specs.declared.answers.Why.{Why}
use Rattle.mq_queue_side.specs.declared.answers.Why.TheVariants as why

-- an entry of the transaction of this number stands between two counts
record HasEntryIn (from low high n : ℕ) (us : List Tx) : Type 0 where
  count : ℕ
  least : low ≤ count
  most : count < high
  number : (item_at from us count).number ≡ n

-- such is that of a command of it that failed
entry-failed : (form : DescriptorForm) (g : Geometry) (q from low high n : ℕ) (us : List Tx) (cs : List Command) → HasTx n cs → AreOwn form g q from us cs → AreFrom low cs → ((m : ℕ) → high ≤ m → times m cs ≡ 0) → HasEntryIn from low high n us
entry-failed form g q from low high n us [] has own above none = absurd has
entry-failed form g q from low high n us (c ∷ cs) (inl here_is) own above none = record {
  count = c.count;
  least = above.0;
  most = elim (cases_lt c.count high) [
    | inl less ↦ less
    | inr past ↦ (let zero = none c.count past in let one : cond {A = ℕ} (eqb c.count c.count) 1 0 ≡ 1 = ap (λ (b : Bool). cond {A = ℕ} b 1 0) (eq-eqb c.count c.count refl) in absurd (omega arith))
  ];
  number = sym (ap (λ (x : Command). x.tx) own.0) ∙ here_is;
}
entry-failed form g q from low high n us (c ∷ cs) (inr deeper) own above none = entry-failed form g q from low high n us cs deeper own.1 above.1 (λ m past. let all = none m past in omega arith)

-- the transaction of this number is one of the queue, and not all its entries stand below the stored head
pub record IsUndoneOn (k : KnownJournal) (q n : ℕ) (p : PortState) : Type 0 where
  pub t : Tx
  pub ts : List Tx
  pub at : IsAt t ts k.history
  pub own : t.queue ≡ q
  pub number : t.number ≡ n
  pub above : p.stored_head < end_of (k.from q) (of_queue q ts) + (writes t + descriptor_blocks t)

module _ (k : KnownJournal) (q : ℕ) (p : PortState) (side : SideOk k q (of_queue q k.history) p) where
  abbrev us : List Tx
  us = of_queue q k.history

  undone-failed : (n : ℕ) → ((m : ℕ) → staged_end p ≤ m → times m p.failed ≡ 0) → HasTx n p.failed → IsUndoneOn k q n p
  undone-failed n none has =
      let o = side.order in
      let head_low = o.head_low in
      let stored = o.stored in
      let drawn = o.drawn in
      let x = entry-failed k.entries.form k.geometry q (k.from q) p.stored_head (staged_end p) n us p.failed has side.commands.failed side.commands.failed_counts none in
      let least = x.least in
      let most = x.most in
      let w = from_of k q us x.count side.part (omega arith) (omega arith) in
      let high = w.high in
      record { t = w.t; ts = w.ts; at = w.at; own = w.own; number = sym (number-from k q us x.count w) ∙ x.number; above = omega arith }

  undone-cut : (n : ℕ) → IsUnrung (k.from q) us p.doorbell n → IsUndoneOn k q n p
  undone-cut n is =
      let r = FromQueue-of q is.t is.ts k.history is.at in
      let same = ap total r.rest in
      let above = is.above in
      let rung = side.order.rung in
      record { t = is.t; ts = r.ts; at = r.at; own = r.own; number = sym is.number; above = omega arith }

  -- no command at or above the staged end has failed
  pub undone-shown : (kept : Option (ℕ × Why)) (cause : Cause) (n : ℕ) → ((m : ℕ) → staged_end p ≤ m → times m p.failed ≡ 0) → NamesTransaction cause n → Shows (k.from q) us p.doorbell p.failed kept (report_of cause) → IsUndoneOn k q n p
  undone-shown kept Off n none named shows = absurd named
  undone-shown kept (FailedHome block status) n none named shows = absurd named
  undone-shown kept (Failed tx status) n none named shows = undone-failed n none (subst (λ (m : ℕ). HasTx m p.failed) named shows.1)
  undone-shown kept (Stopped tx why.Off) n none named shows = undone-cut n (subst (λ (m : ℕ). IsUnrung (k.from q) us p.doorbell m) named shows.1)
  undone-shown kept (Stopped tx (why.Status status)) n none named shows = undone-failed n none (subst (λ (m : ℕ). HasTx m p.failed) named shows.1)
