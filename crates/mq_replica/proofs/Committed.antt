-- A side that one thread owns, through a number, a send and a drain.
use Rattle.std.proofs.Common.{◌≡◌, ℕ, ◌+◌, List, ◌∷◌, length, sym, refl, ap, ◌∙◌, arith, Result, Ok, Err, None, OnOk}
use Rattle.mq_blocks.specs.Descriptor.{journal_form}
use Rattle.mq_blocks.specs.Drive.{PortState}
use Rattle.mq_drive.specs.Steps.{PortFault}
use Rattle.mq_drive.specs.declared.port.Port.{Ghosts}
use Rattle.mq_ledger.specs.History.{of_queue}
use Rattle.mq_ledger.specs.Items.{end_of}
use Rattle.mq_ledger.specs.KnownJournal.{KnownJournal, LogOk, draw_known}
use Rattle.mq_ledger.specs.declared.tx.Tx.{Tx}
use Rattle.mq_core.proofs.KnownJournalGrowth.{log_drawn}
use Rattle.mq_queue_side.specs.Commits.{Commit, NumberedCommit, commit_of_tx, descriptor_size}
use Rattle.mq_queue_side.specs.Drained.{Drains, IsWhole}
use Rattle.mq_queue_side.specs.Sent.{Sends, RingsAll, IsReady}
use Rattle.mq_queue_side.specs.Side.{SideState, IsQueueSide, IsRung, side_state}
use Rattle.mq_queue_side.specs.Staying.{Stays}
use Rattle.mq_queue_side.specs.Stored.{Row, next_in, numbered_in, rows_for}
use Rattle.mq_queue_side.specs.declared.answers.Cause.{Cause}
use Rattle.mq_queue_side.specs.declared.side.QueueSide.{QueueSide}
use Rattle.mq_queue_side.proofs.SideDraws.{drawn, next_is}
use Rattle.mq_queue_side.proofs.Stored.{numbering}
use Rattle.mq_replica.specs.Committing.{IsCommitted, MayCommit}

pub same_side : {P E : Type 0} {G : Ghosts P} (state : P → PortState) (faults : P → List PortFault) (s u : QueueSide P E G) → u.pmr ≡ s.pmr → u.done ≡ s.done → u.kept ≡ s.kept → side_state state faults u ≡ side_state state faults s
same_side state faults s u pmr done kept = λ i. record {
  geometry = (pmr i).geometry;
  queue = (pmr i).queue;
  port = state ((pmr i).port);
  faults = faults ((pmr i).port);
  passed = (pmr i).done;
  rung = (pmr i).rung.items;
  done = done i;
  kept = kept i;
}

module _ (k : KnownJournal) (t : Tx) (old : SideState) (rows : List Row) (tx : ℕ) (commit : Commit) (m : MayCommit k t old rows) (num : t.number ≡ tx) (tells : commit_of_tx t ≡ commit) (none : old.kept ≡ None) where
  abbrev us : List Tx
  us = of_queue t.queue k.history

  pub log : LogOk (draw_known t k)
  log = log_drawn k t m.log m.may m.new

  pub was_drawn : IsQueueSide (draw_known t k) t.queue (t ∷ us) old
  was_drawn = drawn k t old m.log m.may m.new none m.room m.side

  pub rows_then : (more : List Row) → more ≡ record { number = tx; next = next_in rows + (length commit.logged + descriptor_size (length commit.logged) (length commit.revoked)) } ∷ rows → more ≡ rows_for (t ∷ us)
  rows_then more is = is ∙ (λ i. record { number = sym num i; next = (ap next_in m.stored_are ∙ next_is us) i + (length (sym tells i).logged + descriptor_size (length (sym tells i).logged) (length (sym tells i).revoked)) } ∷ m.stored_are i)

  pub is_ready : (n : NumberedCommit) → n ≡ numbered_in journal_form old.queue tx rows commit → IsReady (draw_known t k) t.queue (t ∷ us) old n
  is_ready n is = record {
    t = t;
    ts = us;
    newest = refl;
    commit = is ∙ ((λ i. numbered_in (sym m.form i) (sym m.queue i) (sym num i) (m.stored_are i) (sym tells i)) ∙ numbering k.entries.form t us);
    rung = m.rung;
    none = none;
  }

  -- it was sent
  pub was_sent : (n : NumberedCommit) (sent : SideState) → n ≡ numbered_in journal_form old.queue tx rows commit → Sends old n sent → IsQueueSide (draw_known t k) t.queue (t ∷ us) sent
  was_sent n sent is stays = stays t.queue (draw_known t k) (t ∷ us) log (is_ready n is) was_drawn

  -- and drained
  pub was_drained : (n : NumberedCommit) (sent new : SideState) → n ≡ numbered_in journal_form old.queue tx rows commit → Sends old n sent → Stays sent new → IsQueueSide (draw_known t k) t.queue (t ∷ us) new
  was_drained n sent new is sends stays = stays t.queue (draw_known t k) (t ∷ us) log (was_sent n sent is sends)

  pub committed : (n : NumberedCommit) (sent new : SideState) → n ≡ numbered_in journal_form old.queue tx rows commit → Sends old n sent → RingsAll old n sent → (r : Result ℕ Cause) → Drains sent r new → OnOk r (IsWhole sent new) → IsCommitted k t new r
  committed n sent new is sends rings (Ok number) drains whole =
      let side = was_sent n sent is sends in
      let rung : IsRung (draw_known t k) t.queue (t ∷ us) sent = rings t.queue (draw_known t k) (t ∷ us) log (is_ready n is) was_drawn in
      let same = drains.doorbell in
      let head = whole t.queue (draw_known t k) (t ∷ us) log side in
      let rung' : new.port.doorbell ≡ end_of (k.from t.queue) (t ∷ us) = same ∙ rung in
      (omega (arith, head, rung'), rung')
  committed n sent new is sends rings (Err c) drains whole = tt
