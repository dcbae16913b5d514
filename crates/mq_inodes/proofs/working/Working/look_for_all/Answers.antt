use Rattle.std.proofs.Common.{sym, ap, ◌∙◌, ◌≡◌, ℕ, List, length, subst, ◌+◌, rules}
use Rattle.std.specs.Prelude.{Vec}
use Rattle.mq_inodes.specs.Pages.{pages_of}
use Rattle.mq_inodes.proofs.MissingPages.{IsSought, sought-absent, sought-all, sought-there, sought-none}
use Rattle.mq_inodes.proofs.working.Working.look_for_all.Goals as goal
use Rattle.mq_inodes.proofs.working.Working.look_for_all.Goals.{in-Absent+in_ok-push, in_default}

pub loop-b-init : goal.loop-b-init
loop-b-init c = sought-none (pages_of c.args.self.now) c.args.blocks.now c.new-absent.result.items c.new-absent.ensures.items

pub loop-b-preserved : goal.loop-b-preserved
loop-b-preserved c = elim c.match-page.branch [
  | in-Absent+in_ok-push w ↦
      sought-absent (pages_of c.args.self.now) c.args.blocks.now c.loop-b.absent.items _ c.loop-b.b-index c.b-item.result c.page.result c.loop-b-test.true c.b-item.is c.page.ensures w.in-Absent.is
      (ap (λ (v : Vec ℕ _). v.items) w.absent-is ∙ w.in_ok-push.ensures.items) c.loop-b.invariant
  | in_default w ↦
      subst (λ (xs : List ℕ). IsSought (pages_of c.args.self.now) c.args.blocks.now xs (c.loop-b.b-index + 1)) (ap (λ (v : Vec ℕ _). v.items) (sym w.absent-is))
      (sought-there (pages_of c.args.self.now) c.args.blocks.now c.loop-b.absent.items c.loop-b.b-index c.b-item.result c.page.result c.loop-b-test.true c.b-item.is c.page.ensures w.in_default.not-Absent c.loop-b.invariant)
]

pub returns-then-is_empty-clause-ok : goal.returns-then-is_empty-clause-ok
returns-then-is_empty-clause-ok c = sought-all (pages_of c.args.self.now) c.args.blocks.now c.loop-b.absent.items c.loop-b.b-index c.loop-b-test.false (let e : length c.loop-b.absent.items ≡ 0 = search rules in e) c.loop-b.invariant
