use Rattle.std.proofs.Common.{◌≡◌, ℕ, Bool, List, Option, None, get_or, ◌∙◌, ap, subst, arith}
use Rattle.mq_block_trace.specs.Lines.{set_in, writes_from, named}
use Rattle.mq_block_trace.specs.Marks.{AreMarked, dropped_from}
use Rattle.mq_block_trace.proofs.LinesFills.{named_is, writes-along}
use Rattle.mq_loose_run.proofs.ItemLists.{frees_all}
use Rattle.mq_loose_run.proofs.items.items_of.Goals as goal

pub returns : goal.returns
returns c =
    let fills : List (Option ℕ) = c.in_ok-fills.fills.items in
    let line = c.args.line.now in
    let marks = c.args.marks.now in
    let copied : c.in_ok-after.after.items ≡ marks = c.in_ok-after.ensures.items in
    let marked : AreMarked line marks c.mark_line.new.marks.items = subst (λ (l : List Bool). AreMarked line l c.mark_line.new.marks.items) copied c.mark_line.ensures.marks in
    record {
      writes =
          c.in_ok-writes.ensures ∙ ap (λ (l : List (Option ℕ)). writes_from (λ b. get_or l b None) 0 named) c.deref.ensures.value
          ∙ writes-along (λ b. get_or fills b None) (set_in line) 0 named (λ k low high. c.in_ok-fills.ensures.1 k (omega (arith, high, named_is)));
      frees = λ m old.
          c.in_ok-frees.ensures ∙ ap (λ (l : List Bool). dropped_from marks l 0 named) c.deref-2.ensures.value
          ∙ frees_all m line marks c.mark_line.new.marks.items c.requires.good old marked;
      whole = c.mark_line.ensures.whole;
      marked = marked;
    }
