use Rattle.std.proofs.Common.{◌≡◌, ◌<◌, ℕ, List, Option, get_or, None, ◌∙◌, ap}
use Rattle.mq_block_trace.specs.Lines.{set_in}
use Rattle.mq_block_trace.proofs.LinesFills.{Fill}
use Rattle.mq_block_trace.proofs.Pushed.{draw_text}
use Rattle.mq_block_trace.proofs.steps.push_draw.Goals as goal

pub returns : goal.returns
returns c = λ m number marks.
    let f : Fill = λ b. get_or c.deref.result.now b None in
    let fills : (x : ℕ) → x < 256 → f x ≡ set_in c.args.line.now x = λ x less. ap (λ (l : List (Option ℕ)). get_or l x None) c.deref.ensures.value ∙ c.in_ok-fills.ensures.1 x less in
    c.in_ok-push.ensures.items
    ∙ draw_text m number c.args.line.now f c.args.before.now c.args.after.now c.args.out.now.items c.extend_from_slice.new.self.items c.push_sets.new.out.items c.extend_from_slice-2.new.self.items c.push_freed.new.out.items
    c.requires.good marks c.requires.marked fills c.in_ok-extend_from_slice.ensures.items c.in_ok-push_sets.ensures c.in_ok-extend_from_slice-2.ensures.items c.in_ok-push_freed.ensures
