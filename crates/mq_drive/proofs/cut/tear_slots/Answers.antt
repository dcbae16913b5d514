use Rattle.std.proofs.Common.{rules, ◌≡◌, ◌≢◌, ◌+◌, ◌-◌, ◌%◌, ℕ, suc, List, [], length, get_or, sym, ◌∙◌, ap, arith}
use Rattle.mq_blocks.specs.Limits.{depth}
use Rattle.std.proofs.Math.ListN.{length-set}
use Rattle.std.proofs.lemmas.List.{get_or-set_other}
use Rattle.mq_drive.specs.Choices.{torn, next_slot, torn_slots}
use Rattle.mq_drive.proofs.Choices.{slots_step}
use Rattle.mq_drive.proofs.cut.tear_slots.Goals as goal

pub loop-count-preserved : goal.loop-count-preserved
loop-count-preserved c =
    let before = c.loop-count-test.true in
    let k : ℕ = c.loop-count.count % depth in
    let one : suc (c.args.to - (c.loop-count.count + 1)) ≡ c.args.to - c.loop-count.count = omega (arith, before) in
    record {
      len = ap length c.put_slot.ensures ∙ length-set c.loop-count.flushed.items k c.either_entry-entry.result ∙ c.loop-count.invariant.len;
      kept = λ j apart.
          let other : j ≢ k = λ at. apart c.loop-count.count (search rules) before (sym at) in
          ap (λ (l : List (List ℕ)). get_or l j []) c.put_slot.ensures ∙ get_or-set_other c.loop-count.flushed.items k j c.either_entry-entry.result [] other
          ∙ c.loop-count.invariant.kept j apart;
      left =
          ap (λ (l : List (List ℕ)). torn_slots (c.args.to - (c.loop-count.count + 1)) (c.loop-count.count + 1) c.args.staged.now.items l c.either_entry-entry.new.rng) c.put_slot.ensures
          ∙ slots_step (c.args.to - (c.loop-count.count + 1)) c.loop-count.count c.args.staged.now.items c.loop-count.flushed.items c.either_entry-entry.result c.loop-count.rng c.either_entry-entry.new.rng
          (c.either_entry-entry.ensures ∙ ap (λ (e : List ℕ). torn next_slot e c.slot_at-in-loop-count.result c.loop-count.rng) c.slot_at.ensures
          ∙ ap (λ (e : List ℕ). torn next_slot (get_or c.loop-count.flushed.items k []) e c.loop-count.rng) c.slot_at-in-loop-count.ensures)
          ∙ ap (λ (n : ℕ). torn_slots n c.loop-count.count c.args.staged.now.items c.loop-count.flushed.items c.loop-count.rng) one
          ∙ c.loop-count.invariant.left;
    }
