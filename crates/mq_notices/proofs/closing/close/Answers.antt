use Rattle.std.proofs.Common.{◌≡◌, ◌∙◌, List, ap, arith, length, rules, subst, sym}
use Rattle.crossbeam_queue.specs.Passes.{view}
use Rattle.mq_notices.specs.Ends.{announced}
use Rattle.mq_notices.specs.Notices.{Merged, all_of, notices_from}
use Rattle.mq_notices.specs.declared.notice.Notice.{Notice}
use Rattle.mq_notices.proofs.Ends.{ended-merged, numbers-all, numbers-taken, taken-length}
use Rattle.mq_notices.proofs.Keeping.{merges, totals}
use Rattle.mq_notices.proofs.closing.close.Goals as goal

pub absorb-requires-clause-rule : goal.absorb-requires-clause-rule
absorb-requires-clause-rule c = merges _ _ _ _ c.requires.session.work.session c.requires.helper.helping.helper

pub learn_as-requires-clause-rule : goal.learn_as-requires-clause-rule
learn_as-requires-clause-rule c = totals _ _ (search rules) (search rules)

pub merge-requires-clause-some : goal.merge-requires-clause-some
merge-requires-clause-some c =
    let s = c.args.session in
    let all = notices_from 0 (all_of (announced s)) in
    let merged = ended-merged c.args.line s c.args.helper c.learn_as.ensures.rule.0 (view c.absorb.new.pass) c.requires.session c.requires.helper c.absorb.ensures.rule c.learn_as.ensures.rule.1 in
    let at = subst (λ (l : List Notice). Merged l c.args.helper.taken.items all) (sym c.deref.ensures.value) merged in
    (all_of (announced s), subst (λ (l : List Notice). Merged c.deref.result.now l all) (sym c.deref-2.ensures.value) at)

pub merge-requires-clause-room : goal.merge-requires-clause-room
merge-requires-clause-room c =
    let s = c.args.session in
    let merged = ended-merged c.args.line s c.args.helper c.learn_as.ensures.rule.0 (view c.absorb.new.pass) c.requires.session c.requires.helper c.absorb.ensures.rule c.learn_as.ensures.rule.1 in
    let many = taken-length (announced s) s.taken.items c.args.helper.taken.items merged in
    let first : length c.deref.result.now ≡ length s.taken.items = ap length c.deref.ensures.value in
    let second : length c.deref-2.result.now ≡ length c.args.helper.taken.items = ap length c.deref-2.ensures.value in
    let few = c.requires.session.few in
    let room = c.requires.session.work.spare in
    omega arith

pub returns-clause-taken : goal.returns-clause-taken
returns-clause-taken c = ended-merged c.args.line c.args.session c.args.helper c.learn_as.ensures.rule.0 (view c.absorb.new.pass) c.requires.session c.requires.helper c.absorb.ensures.rule c.learn_as.ensures.rule.1

pub returns-clause-served : goal.returns-clause-served
returns-clause-served c =
    let s = c.args.session in
    let merged = ended-merged c.args.line s c.args.helper c.learn_as.ensures.rule.0 (view c.absorb.new.pass) c.requires.session c.requires.helper c.absorb.ensures.rule c.learn_as.ensures.rule.1 in
    numbers-taken (announced s) s.taken.items c.args.helper.taken.items merged

pub returns-clause-numbers : goal.returns-clause-numbers
returns-clause-numbers c =
    let s = c.args.session in
    let all = notices_from 0 (all_of (announced s)) in
    let merged = ended-merged c.args.line s c.args.helper c.learn_as.ensures.rule.0 (view c.absorb.new.pass) c.requires.session c.requires.helper c.absorb.ensures.rule c.learn_as.ensures.rule.1 in
    let at = subst (λ (l : List Notice). Merged l c.args.helper.taken.items all) (sym c.deref.ensures.value) merged in
    let here = subst (λ (l : List Notice). Merged c.deref.result.now l all) (sym c.deref-2.ensures.value) at in
    c.merge.ensures (all_of (announced s)) here ∙ numbers-all (announced s)
