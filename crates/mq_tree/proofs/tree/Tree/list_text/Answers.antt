use Rattle.std.proofs.Common.{arith, rules, length, drop, ◌+◌, ◌-◌, ◌≡◌}
use Rattle.mq_tree.specs.ListText.{name_count, slot_count}
use Rattle.mq_tree.specs.Volume.{body}
use Rattle.mq_tree.proofs.ListText.{listed-all, listed-inode, listed-more, listed-next, listed-none, listed-step, slots-past}
use Rattle.mq_tree.proofs.tree.Tree.list_text.Goals as goal
use Rattle.mq_tree.proofs.tree.Tree.list_text.Goals.{in-Some+in_ok-list_step, in_default}

pub loop-k-init : goal.loop-k-init
loop-k-init c = listed-inode c.args.self.now c.loop-i.i c.loop-i.text.items c.loop-i.todo.items (let n = c.count-i-end.ensures in let t = c.loop-i-test.true in omega arith) c.loop-i.invariant

pub list_step-requires-clause-step : goal.list_step-requires-clause-step
list_step-requires-clause-step c = (listed-step c.loop-k.text.items c.pop.new.self.items c.loop-k.todo.items c.in-Some.step c.loop-k.invariant.inside c.in-Some.ensures.items).1

pub list_step-requires-clause-inside : goal.list_step-requires-clause-inside
list_step-requires-clause-inside c = (listed-step c.loop-k.text.items c.pop.new.self.items c.loop-k.todo.items c.in-Some.step c.loop-k.invariant.inside c.in-Some.ensures.items).0

pub loop-k-preserved : goal.loop-k-preserved
loop-k-preserved c =
    let v = c.args.self.now in
    let rest = slot_count (drop (c.loop-i.i + 1) v) in
    let left = name_count (body v c.loop-i.i) - c.loop-k.k + rest in
    let more = name_count (body v c.loop-i.i) - (c.loop-k.k + 1) + rest in
    let n = c.name_count-k-end.ensures in
    let t = c.loop-k-test.true in
    elim c.match-pop.branch [
      | in-Some+in_ok-list_step w ↦
          rw (w.text-is, w.todo-is) (listed-more v left more c.loop-k.text.items w.list_step.new.text.items c.loop-k.todo.items c.pop.new.self.items w.list_step.new.todo.items w.in-Some.step c.loop-k.invariant w.in-Some.ensures.items (omega arith) w.in_ok-list_step.ensures.text w.in_ok-list_step.ensures.todo
          w.in_ok-list_step.ensures.inside)
      | in_default w ↦
          let z : length c.loop-k.todo.items ≡ 0 = (let e = w.in_default.ensures.cases.0 in search rules) in
          let y : length c.pop.new.self.items ≡ 0 = (let e = w.in_default.ensures.cases.1 in search rules) in
          rw (w.text-is, w.todo-is) (listed-none v left more c.loop-k.text.items c.loop-k.todo.items c.pop.new.self.items c.loop-k.invariant z y)
    ]

pub loop-i-preserved : goal.loop-i-preserved
loop-i-preserved c = listed-next c.args.self.now c.loop-i.i c.loop-k.k c.loop-k.text.items c.loop-k.todo.items (let n = c.name_count-k-end.ensures in let t = c.loop-k-test.false in omega arith) c.loop-k.invariant

pub returns : goal.returns
returns c =
    listed-all c.args.self.now (slot_count (drop c.loop-i.i c.args.self.now)) c.loop-i.text.items c.loop-i.todo.items c.loop-i.invariant (slots-past c.args.self.now c.loop-i.i (let n = c.count-i-end.ensures in let t = c.loop-i-test.false in omega arith))
