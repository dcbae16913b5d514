-- Stage, Flush, StoreHead and FlushHead keep what holds of a queue's port.
use Rattle.std.proofs.Common.{◌≡◌, ◌≢◌, ℕ, ◌+◌, ◌-◌, ◌<◌, ◌≤◌, ◌%◌, List, [], ◌∷◌, ◌++◌, length, Some, sym, refl, ap, ◌∙◌, inl, inr, arith}
use Rattle.std.proofs.lemmas.Bool.{cases_eq}
use Rattle.std.proofs.lemmas.List.{length-set, get_or-set_same, get_or-set_other, length-append}
use Rattle.mq_blocks.specs.Drive.{PortState, IsFlushed, index_of, staged_end, after_flush, after_store_head}
use Rattle.mq_blocks.specs.Limits.{depth}
use Rattle.mq_blocks.specs.declared.command.Command.{Command}
use Rattle.mq_ledger.specs.Items.{Item, said_of, command_of, item_at}
use Rattle.mq_ledger.specs.KnownJournal.{KnownJournal, LogOk}
use Rattle.mq_ledger.specs.Sides.{Certainly, IsRing, IsDone, IsArea, SideOk, flushed_at, staged_at}
use Rattle.mq_ledger.specs.declared.tx.Tx.{Tx}
use Rattle.mq_core.specs.Events.{stage_side, MayStage, MayStoreHead}
use Rattle.mq_blocks.proofs.DriveCounts.{counted_from}
use Rattle.mq_blocks.proofs.Ports.{parts_of, port-along}
use Rattle.mq_core.proofs.SidesCommands.{own_append, next_append}
use Rattle.mq_core.proofs.EventsPorts.{certainly_along}
use Rattle.mq_core.proofs.KnownJournalSources.{from_of, may-say}

-- ---- where blocks and commands stay

pub record IsSame (p r : PortState) : Type 0 where
  pub index : (lba : ℕ) → index_of r lba ≡ index_of p lba
  pub certain : r.certain ≡ p.certain
  pub blocks : r.blocks ≡ p.blocks
  pub posted : r.posted ≡ p.posted
  pub failed : r.failed ≡ p.failed
  pub doorbell : r.doorbell ≡ p.doorbell

pub certainly_same : (p r : PortState) (n : ℕ) (v : List ℕ) → IsSame p r → Certainly p n v → Certainly r n v
certainly_same p r n v same c = certainly_along p r n v same.index same.certain same.blocks same.posted c

done_same : (p r : PortState) (c : ℕ) → IsSame p r → IsDone r c → IsDone p c
done_same p r c same d =
    record {
      rung = rw (← same.doorbell) d.rung;
      posted = rw (← same.posted) d.posted;
      failed = rw (← same.failed) d.failed;
    }

area_same : (k : KnownJournal) (q : ℕ) (txs : List Tx) (p r : PortState) → IsSame p r → IsArea k q txs p → IsArea k q txs r
area_same k q txs p r same a =
    record {
      fits = a.fits;
      limit = a.limit;
      holds = λ c place low d target. certainly_same p r _ _ same (a.holds c place low (done_same p r c same d) target);
    }

-- ---- the next entry is staged

module _ (k : KnownJournal) (q : ℕ) (txs : List Tx) (p : PortState) (log : LogOk k) (s : SideOk k q txs p) (may : MayStage (k.from q) txs p) where
  abbrev item : Item
  item = item_at (k.from q) txs (staged_end p)

  abbrev entry : List ℕ
  entry = k.entries.entry (staged_end p % depth) (said_of k.geometry q item)

  abbrev command : Command
  command = command_of k.entries.form k.geometry q (staged_end p) item

  abbrev staged : PortState
  staged = stage_side k.entries k.geometry q (k.from q) txs p

  more : staged_end staged ≡ staged_end p + 1
  more = (let e : length (p.pending ++ command ∷ []) ≡ length p.pending + 1 = length-append p.pending (command ∷ []) in omega arith)

  other_slot : (c : ℕ) → c < staged_end p → staged_end p < c + depth → staged_at staged c ≡ staged_at p c
  other_slot c low high =
      let apart : c % depth ≢ staged_end p % depth = omega arith in
      get_or-set_other p.staged (staged_end p % depth) (c % depth) entry [] apart

  new_slot : staged_at staged (staged_end p) ≡ entry
  new_slot =
      let long = s.port.staged in
      get_or-set_same p.staged (staged_end p % depth) entry [] (omega arith)

  reads : k.entries.says entry ≡ Some (said_of k.geometry q item)
  reads =
      let o = s.order in
      let f = from_of k q txs (staged_end p) s.part (omega (arith, o.head_low, o.stored, o.rung, o.flushed, o.staged)) may in
      log.entries (staged_end p % depth) (said_of k.geometry q item) (may-say k q txs (staged_end p) (staged_end p % depth) log s.queue f (omega arith))

  ring_staged : IsRing k q txs staged
  ring_staged =
      let o = s.order in
      record {
        settled = λ n flushed.
            let before : IsFlushed p n = λ c low high. flushed c low (let m = more in omega arith) in
            let apart : n ≢ staged_end p % depth = λ e. flushed (staged_end p) (o.staged) (let m = more in omega arith) (sym e) in
            get_or-set_other p.staged (staged_end p % depth) n entry [] apart ∙ s.ring.settled n before;
        start = s.ring.start;
        rung = s.ring.rung;
        waits = λ c low high. elim (cases_eq c (staged_end p)) [
          | inl same ↦ rw same (ap k.entries.says new_slot ∙ reads)
          | inr not ↦
              let m = more in
              ap k.entries.says (other_slot c (omega arith) (omega (arith, o.room, o.stored, o.rung, o.drawn, may))) ∙ s.ring.waits c low (omega arith)
        ];
      }

  pub side_stage : SideOk k q txs staged
  side_stage =
      let o = s.order in
      let same : IsSame p staged = record { index = λ lba. refl; certain = refl; blocks = refl; posted = refl; failed = refl; doorbell = refl } in
      record {
        queue = s.queue;
        part = s.part;
        port = port-along s.port (λ i. record (parts_of p) { staged = length-set p.staged (staged_end p % depth) entry i });
        order = record {
          head_low = o.head_low;
          stored = o.stored;
          rung = o.rung;
          flushed = o.flushed;
          staged = omega (arith, more, o.staged);
          drawn = omega (arith, more, may);
          room = o.room;
        };
        limit = s.limit;
        ends = record { head = s.ends.head; stored = s.ends.stored; doorbell = s.ends.doorbell };
        ring = ring_staged;
        commands = record {
          pending = own_append k.entries.form k.geometry q (k.from q) txs p.pending (command ∷ []) s.commands.pending (refl, tt);
          pending_counts = next_append p.doorbell p.pending command s.commands.pending_counts refl;
          posted = s.commands.posted;
          posted_counts = s.commands.posted_counts;
          failed = s.commands.failed;
          failed_counts = s.commands.failed_counts;
        };
        area = area_same k q txs p staged same s.area;
        based = s.based;
        done = s.done;
        direct = λ c x low d target m. certainly_same p staged _ _ same (s.direct c x low (done_same p staged c same d) target m);
        homes = λ x v content block zone due there m. certainly_same p staged _ _ same (s.homes x v content block zone due there m);
      }

-- ---- what is staged and stored is certain from here on

-- no entry that is staged since the last flush is in a slot from the one before the head to the doorbell
pub slot_clear : (k : KnownJournal) (q : ℕ) (txs : List Tx) (p : PortState) (c : ℕ) → SideOk k q txs p → p.head ≤ c + 1 → c < p.doorbell → IsFlushed p (c % depth)
slot_clear k q txs p c s low high d from to =
    let o = s.order in
    let apart : d % depth ≢ c % depth = omega (arith, o.room, o.drawn, o.flushed) in
    apart

pub side_flush : (k : KnownJournal) (q : ℕ) (txs : List Tx) (p : PortState) → SideOk k q txs p → SideOk k q txs (after_flush p)
side_flush k q txs p s =
    let o = s.order in
    let same : IsSame p (after_flush p) = record { index = λ lba. refl; certain = refl; blocks = refl; posted = refl; failed = refl; doorbell = refl } in
    let kept : (c : ℕ) → p.head ≤ c + 1 → c < p.doorbell → flushed_at (after_flush p) c ≡ flushed_at p c = λ c low high. s.ring.settled (c % depth) (slot_clear k q txs p c s low high) in
    record {
      queue = s.queue;
      part = s.part;
      port = port-along s.port (λ i. record (parts_of p) { flushed = (s.port.staged ∙ sym s.port.flushed) i });
      order = record {
        head_low = omega (arith, o.head_low, o.stored);
        stored = omega arith;
        rung = o.rung;
        flushed = omega (arith, o.flushed, o.staged);
        staged = omega arith;
        drawn = o.drawn;
        room = omega (arith, o.room, o.stored);
      };
      limit = s.limit;
      ends = record { head = s.ends.stored; stored = s.ends.stored; doorbell = s.ends.doorbell };
      ring = record {
        settled = λ n flushed. refl;
        start = λ some at.
            let head : p.head ≡ k.from q = omega (arith, o.head_low, o.stored) in
            let r = s.ring.start some head in
            let low : p.head ≤ k.from q - 1 + 1 = omega (arith, head) in
            let high : k.from q - 1 < p.doorbell = omega (arith, o.stored, o.rung) in
            (r.0, r.1, ap k.entries.says (kept (k.from q - 1) low high) ∙ r.2, r.3);
        rung = λ c low near high.
            let near' : p.head ≤ c + 1 = omega (arith, o.stored) in
            ap k.entries.says (kept c near' high) ∙ s.ring.rung c low near' high;
        waits = s.ring.waits;
      };
      commands = record {
        pending = s.commands.pending;
        pending_counts = s.commands.pending_counts;
        posted = s.commands.posted;
        posted_counts = s.commands.posted_counts;
        failed = s.commands.failed;
        failed_counts = s.commands.failed_counts;
      };
      area = area_same k q txs p (after_flush p) same s.area;
      based = omega (arith, s.based, o.stored);
      done = λ t ts at own known. omega (arith, s.done t ts at own known, o.stored);
      direct = λ c x low d target m. certainly_same p (after_flush p) _ _ same (s.direct c x low (done_same p (after_flush p) c same d) target m);
      homes = λ x v content block zone due there m. certainly_same p (after_flush p) _ _ same (s.homes x v content block zone due there m);
    }

pub side_store_head : (k : KnownJournal) (q : ℕ) (txs : List Tx) (p : PortState) (h : ℕ) → SideOk k q txs p → MayStoreHead (k.from q) txs p h → SideOk k q txs (after_store_head p h)
side_store_head k q txs p h s may =
    let o = s.order in
    let same : IsSame p (after_store_head p h) = record { index = λ lba. refl; certain = refl; blocks = refl; posted = refl; failed = refl; doorbell = refl } in
    record {
      queue = s.queue;
      part = s.part;
      port = port-along s.port refl;
      order = record {
        head_low = o.head_low;
        stored = omega (arith, o.stored, may.above);
        rung = may.rung;
        flushed = o.flushed;
        staged = o.staged;
        drawn = o.drawn;
        room = o.room;
      };
      limit = s.limit;
      ends = record { head = s.ends.head; stored = may.is_end; doorbell = s.ends.doorbell };
      ring = record { settled = s.ring.settled; start = s.ring.start; rung = s.ring.rung; waits = s.ring.waits };
      commands = record {
        pending = s.commands.pending;
        pending_counts = s.commands.pending_counts;
        posted = s.commands.posted;
        posted_counts = counted_from p.stored_head p.doorbell h p.posted may.posted s.commands.posted_counts;
        failed = s.commands.failed;
        failed_counts = may.failed;
      };
      area = area_same k q txs p (after_store_head p h) same s.area;
      based = s.based;
      done = s.done;
      direct = λ c x low d target m. certainly_same p (after_store_head p h) _ _ same (s.direct c x low (done_same p (after_store_head p h) c same d) target m);
      homes = λ x v content block zone due there m. certainly_same p (after_store_head p h) _ _ same (s.homes x v content block zone due there m);
    }
