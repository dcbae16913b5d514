use Rattle.std.proofs.Common.{sym, ap, ◌∙◌, ◌≡◌, ◌++◌, List, ℕ, drop, [], ◌∷◌, ◌+◌}
use Rattle.std.specs.Prelude.{Option, Vec}
use Rattle.mq_layout.specs.Slots.{Entry}
use Rattle.mq_inodes.specs.Dirs.{names_of, slots_in}
use Rattle.mq_inodes.proofs.DirsEntries.{drop-all, names-unused, names-used}
use Rattle.mq_inodes.proofs.DirsSorting.{name-pushed, names-end}
use Rattle.mq_inodes.proofs.slots.push_names.Goals as goal
use Rattle.mq_inodes.proofs.slots.push_names.Goals.{in-Some+in_ok-from_slice+in_ok-push, in_default}

pub loop-at-preserved : goal.loop-at-preserved
loop-at-preserved c = elim c.match-entry.branch [
  | in-Some+in_ok-from_slice+in_ok-push w ↦
      let e = ap (λ (v : Vec (List ℕ) _). v.items) w.names-is in
      let n : w.in_ok-from_slice.field-0.items ≡ w.in-Some.name.now = w.in_ok-from_slice.ensures.items in
      name-pushed c.loop-at.names.items c.match-entry.names.items _ _ _ w.in-Some.name.now (e ∙ w.in_ok-push.ensures.items ∙ ap (λ (x : List ℕ). c.loop-at.names.items ++ x ∷ []) n) (names-used c.args.block.now c.loop-at.at _ c.loop-at-test.true w.in-Some.ensures) c.loop-at.invariant
  | in_default w ↦
      let e = ap (λ (v : Vec (List ℕ) _). v.items) w.names-is in
      ap (λ (xs : List (List ℕ)). xs ++ names_of (drop (c.loop-at.at + 1) (slots_in c.args.block.now))) e ∙ ap (λ (xs : List (List ℕ)). c.loop-at.names.items ++ xs) (sym (names-unused c.args.block.now c.loop-at.at c.loop-at-test.true w.in_default.ensures)) ∙ c.loop-at.invariant
]

pub returns : goal.returns
returns c = names-end _ _ _ (ap (λ (s : List (Option Entry)). names_of s) (drop-all c.args.block.now c.loop-at.at c.loop-at-test.false)) c.loop-at.invariant
