-- A page after a draw.
use Rattle.std.proofs.Common.{◌≡◌, ℕ, List, Option, None, is_some, ap, inl, inr, arith, if◌then◌else◌}
use Rattle.std.proofs.lemmas.Bool.{cases_Bool}
use Rattle.mq_blocks.specs.Journal.{is_among}
use Rattle.mq_blocks.specs.Machine.{Map, after, or_kept, write_of}
use Rattle.mq_ledger.specs.History.{change_of, changes}
use Rattle.mq_ledger.specs.KnownJournal.{KnownJournal}
use Rattle.mq_ledger.specs.declared.tx.Tx.{Tx}
use Rattle.mq_core.proofs.KnownJournalGrowth.{front_low}
use Rattle.mq_desk_laws.specs.Pages.{last_ended}
use Rattle.mq_desk_laws.proofs.Pages.{due_last}
use Rattle.mq_pages.specs.declared.page.PageCell.{PageCell}
use Rattle.mq_turns.specs.Meaning.{drawn}
use Rattle.mq_desk_laws.specs.Cells.{cell_after}
use Rattle.mq_desk_laws.specs.Groups.{GroupView}
use Rattle.mq_desk_laws.specs.Rule
use Rattle.mq_desk_laws.specs.Rule.{IsOk, IsPage, next_tx}
use Rattle.mq_desk_laws.specs.Values.{Values}
use Rattle.mq_desk_laws.proofs.RuleStaying.{length_history}

-- what it leaves of a block depends on what stood there alone
left_alone : (m : Map) (t : Tx) (b : ℕ) (c : Option (List ℕ)) → c ≡ m b → after (λ x. c) (change_of t) b ≡ after m (change_of t) b
unfolding after
left_alone m t b c same = ap (λ z. or_kept (write_of (change_of t).writes b) (if is_among b t.freed then None else z)) same

module _ {Q R E : Type 0} (values : Values Q R E) (group : GroupView E) where
  abbrev Desk : Type 0
  Desk = Rule.DeskState values group

  abbrev core : Desk → KnownJournal
  core = Rule.core_of values group

  pub page_drawn : (b : ℕ) (e : E) (K : Desk) (c : PageCell) → IsOk values group K → IsPage values group b K c → IsPage values group b (drawn e K) (cell_after (next_tx values group e K) b c)
  page_drawn b e K c ok p =
      let t : Tx = next_tx values group e K in
      let base : ℕ = K.opening.base in
      let ended : ℕ = last_ended base K.ended b in
      let low = ok.log.due b ended (due_last base K.ended b) in
      let front = front_low (core K) in
      let n = length_history values group base K.log in
      record {
        content = left_alone (Rule.map_now values group K) t b c.content p.content;
        version = ap (λ z. if changes t b then t.number else z) p.version;
        last_logged = ap (λ z. if is_some (write_of t.logged b) then t.number else z) p.last_logged;
        home_version = elim (cases_Bool (is_some (write_of t.direct b))) [
          | inl direct ↦ rw direct (omega arith)
          | inr other ↦ rw other p.home_version
        ];
      }
