-- Where the transaction after the front ends.
use Rattle.std.proofs.Common.{◌≡◌, ℕ, ◌+◌, ◌-◌, ◌<◌, ◌≤◌, List, length, reverse, get_or, sym, refl, ap, ◌∙◌, arith}
use Rattle.std.proofs.lemmas.List.{length-reverse}
use Rattle.mq_ledger.specs.History.{writes, of_queue}
use Rattle.mq_ledger.specs.Items.{end_of, descriptor_blocks}
use Rattle.mq_ledger.specs.Records.{Ledger, IsNextEnd}
use Rattle.mq_ledger.specs.State.{from_at}
use Rattle.mq_ledger.specs.Tables.{AreTables, ends_of}
use Rattle.mq_ledger.specs.declared.queue_rows.Row.{Row}
use Rattle.mq_ledger.specs.declared.latest.Latest.{Latest}
use Rattle.mq_ledger.specs.declared.records.Ledger.TheInside.{Inside}
use Rattle.mq_ledger.specs.declared.tx.Tx.{Tx}
use Rattle.mq_ledger.proofs.TablesLedgers.{IsNext, next_of, next_read}
use Rattle.mq_ledger.proofs.RecordsLookups.{end_at}
use Rattle.mq_ledger.proofs.TablesRows.{length-along}

pub ends_length : (s : Ledger) (newest settled : List Latest) (queue_rows : List (List Row)) (ends : List ℕ) → AreTables s newest settled queue_rows ends → length ends ≡ length s.history
ends_length s newest settled queue_rows ends old = ap length old.ends_are ∙ length-reverse (ends_of s.starts s.history) ∙ length-along (λ t ts. end_of (from_at s.starts t.queue) (of_queue t.queue ts) + (writes t + descriptor_blocks t)) s.history

module _ (s : Ledger) (newest settled : List Latest) (queue_rows : List (List Row)) (ends : List ℕ) (old : AreTables s newest settled queue_rows ends) (more : s.front < s.base + length s.history) (history : List Tx) (u : Tx) (same : s.history ≡ reverse history) (read : u ≡ get_or history (s.front - s.base) u) where
  the_next : IsNext s
  the_next = next_of s old.numbers old.front_low more

  is_next : u ≡ the_next.t
  is_next = next_read s history (s.front - s.base) u the_next same refl read

  pub next_ends : (q e : ℕ) → q ≡ u.queue → e ≡ get_or ends (s.front - s.base) e → IsNextEnd s (record { queue = q; count = e })
  next_ends q e here at =
      let own : q ≡ the_next.t.queue = here ∙ ap (λ (t : Tx). t.queue) is_next in
      let l = (old.each the_next.t the_next.ts the_next.at).queue in
      record {
        tx = the_next.t;
        before = the_next.ts;
        stands = the_next.at;
        number = the_next.number;
        queue = own;
        within = omega arith;
        count = at ∙ ap (λ (n : ℕ). get_or ends n e) (sym the_next.size) ∙ end_at s ends the_next.t the_next.ts e old.ends_are the_next.at;
      }

pub more_of : (l : Inside) (n : ℕ) → n ≡ length l.history.items → l.base ≤ l.front → l.front - l.base < n → l.front < l.base + length (reverse l.history.items)
more_of l n e low less = (let long = length-reverse l.history.items in omega arith)
