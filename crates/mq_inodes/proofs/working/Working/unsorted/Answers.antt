use Rattle.std.proofs.Common.{sym, ap, ◌∙◌, ◌++◌, ◌+◌, List, ℕ, drop}
use Rattle.std.specs.Prelude.{Option}
use Rattle.mq_layout.specs.Slots.{Entry}
use Rattle.mq_inodes.specs.Dirs.{names_of, slots_at, slots_in}
use Rattle.mq_inodes.specs.Pages.{content, pages_of}
use Rattle.mq_inodes.proofs.Dirs.{slots-drop}
use Rattle.mq_inodes.proofs.DirsSorting.{block-gathered, names-append}
use Rattle.mq_inodes.proofs.working.Working.unsorted.Goals as goal

pub loop-b-preserved : goal.loop-b-preserved
loop-b-preserved c =
    let pages = pages_of c.args.self.now in
    let rest = slots_at pages (drop (c.loop-b.b-index + 1) c.args.blocks.now) in
    block-gathered c.loop-b.names.items c.push_names.new.names.items (names_of rest) (names_of (slots_in c.held.result.now)) _ _ c.in_ok-push_names.ensures
    (ap (λ (s : List (Option Entry)). names_of s) (slots-drop pages c.args.blocks.now c.loop-b.b-index c.b-item.result c.loop-b-test.true c.b-item.is) ∙ names-append (slots_in (content (pages c.b-item.result))) rest ∙ ap (λ (p : List ℕ). names_of (slots_in p) ++ names_of rest) (sym c.held.ensures))
    c.loop-b.invariant
