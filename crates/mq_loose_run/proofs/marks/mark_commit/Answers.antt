use Rattle.std.proofs.Common.{◌≡◌, ℕ, ◌+◌, Bool, true, false, List, length, refl, sym, ◌∙◌, ap, subst}
use Rattle.mq_blocks.specs.Journal.{is_among}
use Rattle.mq_blocks.specs.Machine.{Writes}
use Rattle.mq_ledger.specs.History.{blocks_of}
use Rattle.mq_loose_run.specs.Items.{AreItems}
use Rattle.mq_loose_run.specs.Markings.{AreMarkedTo}
use Rattle.mq_loose_run.specs.declared.marks.Marking.{Marking}
use Rattle.mq_loose_run.proofs.MarksKept.{frees_named, marked_in, marked_out, some_map, writes_named}
use Rattle.mq_loose_run.proofs.marks.mark_commit.Goals as goal
use Rattle.mq_loose_run.proofs.marks.mark_commit.Goals.{then-is_in, else-is_in}

pub unmark-requires-clause-named : goal.unmark-requires-clause-named
unmark-requires-clause-named c = λ b e.
    let all : List Bool = c.args.marking.now.all.items in
    let i = c.in_ok-items.items in
    let are : AreItems c.args.line.now all i = subst (λ (ms : List Bool). AreItems c.args.line.now ms i) c.deref.ensures.value c.in_ok-items.ensures in
    let some = some_map all in
    frees_named c.args.line.now all i are some.0 some.1 b (sym (ap (is_among b) c.deref-then-is_in.ensures.value) ∙ e)

pub mark-requires-clause-named : goal.mark-requires-clause-named
mark-requires-clause-named c = λ b e.
    let all : List Bool = c.args.marking.now.all.items in
    let i = c.in_ok-items.items in
    let are : AreItems c.args.line.now all i = subst (λ (ms : List Bool). AreItems c.args.line.now ms i) c.deref.ensures.value c.in_ok-items.ensures in
    writes_named c.args.line.now all i are b (sym (ap (λ (ws : Writes). is_among b (blocks_of ws)) c.deref-then-is_in-2.ensures.value) ∙ e)

pub returns : goal.returns
returns c h q is =
    let m : Marking = c.args.marking.now in
    let all : List Bool = m.all.items in
    let i = c.in_ok-items.items in
    let are : AreItems c.args.line.now all i = subst (λ (ms : List Bool). AreItems c.args.line.now ms i) c.deref.ensures.value c.in_ok-items.ensures in
    elim c.if-is_in.branch [
      | then-is_in w ↦
          let number : c.if-is_in.marking.number ≡ m.number + 1 = ap (λ (k : Marking). k.number) w.marking-is in
          let kept_is : c.if-is_in.marking.kept.items ≡ w.mark.new.marks.items = ap (λ (k : Marking). k.kept.items) w.marking-is in
          let between : List Bool = w.unmark.new.marks.items in
          marked_in c.args.set.now h q c.args.line.now c.requires.good m is i are _ between number refl (sym c.is_in.ensures ∙ w.if-is_in.true) (ap length kept_is ∙ w.mark.ensures.whole)
          (subst (λ (bs : List ℕ). AreMarkedTo false bs m.kept.items between) w.deref-then-is_in.ensures.value w.unmark.ensures.marked)
          (subst (λ (ms : List Bool). AreMarkedTo true (blocks_of i.writes.items) between ms) (sym kept_is) (subst (λ (ws : Writes). AreMarkedTo true (blocks_of ws) between w.mark.new.marks.items) w.deref-then-is_in-2.ensures.value w.mark.ensures.marked))
      | else-is_in w ↦
          let number : c.if-is_in.marking.number ≡ m.number + 1 = ap (λ (k : Marking). k.number) w.marking-is in
          let kept_is : c.if-is_in.marking.kept.items ≡ m.kept.items = ap (λ (k : Marking). k.kept.items) w.marking-is in
          marked_out c.args.set.now h q c.args.line.now c.requires.good m is i are _ number refl (sym c.is_in.ensures ∙ w.if-is_in.false) kept_is
    ]
