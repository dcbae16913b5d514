use Rattle.std.proofs.Common.{◌≡◌, ◌<◌, ℕ, ◌+◌, ◌%◌, List, Option, Some, None, sym, ◌∙◌, ap, subst, arith}
use Rattle.std.specs.Prelude.{if◌then◌else◌}
use Rattle.mq_blocks.specs.Drive.{PortState, staged_end, after_stage}
use Rattle.mq_blocks.specs.Limits.{depth, usable_depth}
use Rattle.mq_nvme.specs.Entry.{entry_of, tx_of, lba_of}
use Rattle.mq_nvme.specs.declared.write.WriteReq.{WriteReq}
use Rattle.mq_nvme.proofs.EntryRequests.{tx_of-entry, lba_of-entry}
use Rattle.mq_pmr.specs.Queue.{Fits, Kept}
use Rattle.mq_pmr.specs.declared.slots.SlotRecord.{SlotRecord}
use Rattle.mq_pmr.proofs.QueueFitting.{fits_staged, ends-along}
use Rattle.mq_pmr.proofs.Ring.{Stages, held_stage, of_stage}
use Rattle.mq_pmr.proofs.QueueOwning.{stage_ring}
use Rattle.mq_pmr.specs.Ring.{IsHeld, AreWhole, AreOf}
use Rattle.mq_pmr.specs.Written.{IsWritten}
use Rattle.mq_pmr.proofs.Written.{holds_new, written_staged}
use Rattle.mq_pmr.proofs.queue.PmrQueue.stage_one.Goals as goal

pub invariant_of-self-2 : goal.invariant_of-self-2
invariant_of-self-2 g c =
    let q = c.args.self.now in
    let old : PortState = g.P.Port.state q.port in
    let new : PortState = g.P.Port.state c.stage.new.self in
    let kept : Kept = record { slots = q.slots.items; end = q.end; head = q.head; stored_head = q.stored_head; passed = q.passed; done = q.done; rung = q.rung.items; staged = q.staged } in
    let request : WriteReq = record { tx = c.args.tx; slot = q.end % depth; lba = c.from.result; commit = c.args.commit } in
    let tx_is : tx_of c.write_of-entry.result ≡ c.args.tx = ap tx_of c.write_of-entry.ensures.is ∙ tx_of-entry request in
    let moved : new ≡ after_stage old c.write_of-entry.result (tx_of c.write_of-entry.result) (lba_of c.write_of-entry.result) c.args.block = c.in_ok-stage.ensures.ok in
    let named : new ≡ after_stage old c.write_of-entry.result c.args.tx (lba_of c.write_of-entry.result) c.args.block =
    moved ∙ ap (λ (n : ℕ). after_stage old c.write_of-entry.result n (lba_of c.write_of-entry.result) c.args.block) tx_is in
    let head : q.head ≡ old.head = q.fits.head in
    let end : q.end ≡ staged_end old = q.fits.end in
    let room : q.end < q.head + usable_depth = let less = c.requires.room in omega (arith, less, head, end) in
    let fits = fits_staged old kept c.write_of-entry.result c.args.tx (lba_of c.write_of-entry.result) c.args.block c.tx_if-self.result q.fits room in
    let slots = c.note_staged.ensures in
    let from : c.from.result ≡ lba_of c.write_of-entry.result = sym (ap lba_of c.write_of-entry.ensures.is ∙ lba_of-entry request) in
    let entry : c.write_of-entry.result ≡ entry_of record { tx = c.args.tx; slot = staged_end old % depth; lba = lba_of c.write_of-entry.result; commit = c.args.commit } =
    c.write_of-entry.ensures.is ∙ (λ i. entry_of record { tx = c.args.tx; slot = end i % depth; lba = from i; commit = c.args.commit }) in
    let held = holds_new old.staged (staged_end old) c.args.tx (lba_of c.write_of-entry.result) c.args.commit c.write_of-entry.result q.own.port.staged entry in
    let written = written_staged old kept c.write_of-entry.result c.args.tx (lba_of c.write_of-entry.result) c.args.block q.fits room held q.written in
    let opened : PortState = g.P.Port.state q.opened.value in
    let stages : Stages old kept c.write_of-entry.result c.args.tx (lba_of c.write_of-entry.result) c.args.commit =
    record { fits = q.fits; room = room; ring = q.own.port.staged; unstaged = c.requires.unstaged; whose = c.requires.whose; is = entry } in
    let held = held_stage opened old kept c.write_of-entry.result c.args.tx (lba_of c.write_of-entry.result) c.args.block c.args.commit stages q.held in
    record {
      fits = subst (λ (s : PortState). Fits s (record kept { slots = c.note_staged.new.slots.items; end = q.end + 1; staged = c.tx_if-self.result })) (sym named)
          (subst (λ (l : List SlotRecord). Fits (after_stage old c.write_of-entry.result c.args.tx (lba_of c.write_of-entry.result) c.args.block) (record kept { slots = l; end = q.end + 1; staged = c.tx_if-self.result })) (sym slots) fits);
      ends = ends-along old new q.done.end q.rung.items (ap (λ (s : PortState). s.doorbell) moved) q.ends;
      own = stage_ring q.geometry q.queue old new _ _ _ _ moved q.own;
      written = subst (λ (s : PortState). IsWritten s c.note_staged.new.slots.items q.done.end (q.end + 1)) (sym named)
          (subst (λ (l : List SlotRecord). IsWritten (after_stage old c.write_of-entry.result c.args.tx (lba_of c.write_of-entry.result) c.args.block) l q.done.end (q.end + 1)) (sym slots) written);
      whole = subst (λ (s : PortState). AreWhole s.flushed q.done.end q.rung.items) (sym named) q.whole;
      held = subst (λ (s : PortState). IsHeld opened s q.done q.rung.items c.tx_if-self.result) (sym named)
          (subst (IsHeld opened (after_stage old c.write_of-entry.result c.args.tx (lba_of c.write_of-entry.result) c.args.block) q.done q.rung.items) (sym c.tx_if-self.ensures) held);
      reserved = q.reserved;
    }

pub returns-clause-whose : goal.returns-clause-whose
returns-clause-whose g c =
    let q = c.args.self.now in
    let old : PortState = g.P.Port.state q.port in
    let new : PortState = g.P.Port.state c.stage.new.self in
    let kept : Kept = record { slots = q.slots.items; end = q.end; head = q.head; stored_head = q.stored_head; passed = q.passed; done = q.done; rung = q.rung.items; staged = q.staged } in
    let request : WriteReq = record { tx = c.args.tx; slot = q.end % depth; lba = c.from.result; commit = c.args.commit } in
    let tx_is : tx_of c.write_of-entry.result ≡ c.args.tx = ap tx_of c.write_of-entry.ensures.is ∙ tx_of-entry request in
    let named : new ≡ after_stage old c.write_of-entry.result c.args.tx (lba_of c.write_of-entry.result) c.args.block =
    c.in_ok-stage.ensures.ok ∙ ap (λ (n : ℕ). after_stage old c.write_of-entry.result n (lba_of c.write_of-entry.result) c.args.block) tx_is in
    let head : q.head ≡ old.head = q.fits.head in
    let end : q.end ≡ staged_end old = q.fits.end in
    let room : q.end < q.head + usable_depth = let less = c.requires.room in omega (arith, less, head, end) in
    let from : c.from.result ≡ lba_of c.write_of-entry.result = sym (ap lba_of c.write_of-entry.ensures.is ∙ lba_of-entry request) in
    let entry : c.write_of-entry.result ≡ entry_of record { tx = c.args.tx; slot = staged_end old % depth; lba = lba_of c.write_of-entry.result; commit = c.args.commit } =
    c.write_of-entry.ensures.is ∙ (λ i. entry_of record { tx = c.args.tx; slot = end i % depth; lba = from i; commit = c.args.commit }) in
    let stages : Stages old kept c.write_of-entry.result c.args.tx (lba_of c.write_of-entry.result) c.args.commit =
    record { fits = q.fits; room = room; ring = q.own.port.staged; unstaged = c.requires.unstaged; whose = c.requires.whose; is = entry } in
    subst (λ (s : PortState). AreOf s c.args.tx) (sym named)
    (of_stage (g.P.Port.state q.opened.value) old kept c.write_of-entry.result c.args.tx (lba_of c.write_of-entry.result) c.args.block c.args.commit stages q.held)

pub returns-clause-ok : goal.returns-clause-ok
returns-clause-ok g c =
    let q = c.args.self.now in
    let old : PortState = g.P.Port.state q.port in
    let request : WriteReq = record { tx = c.args.tx; slot = q.end % depth; lba = c.from.result; commit = c.args.commit } in
    let lba_is : c.from.result ≡ c.args.lba = c.from.ensures ∙ c.lba.view_is in
    let entry : c.write_of-entry.result ≡ entry_of record { tx = c.args.tx; slot = staged_end old % depth; lba = c.args.lba; commit = c.args.commit } =
    c.write_of-entry.ensures.is ∙ (λ i. entry_of record { tx = c.args.tx; slot = q.fits.end i % depth; lba = lba_is i; commit = c.args.commit }) in
    let tx_is : tx_of c.write_of-entry.result ≡ c.args.tx = ap tx_of c.write_of-entry.ensures.is ∙ tx_of-entry request in
    let lba_in : lba_of c.write_of-entry.result ≡ c.args.lba = ap lba_of c.write_of-entry.ensures.is ∙ lba_of-entry request ∙ lba_is in
    c.in_ok-stage.ensures.ok ∙ (λ i. after_stage old (entry i) (tx_is i) (lba_in i) c.args.block)
