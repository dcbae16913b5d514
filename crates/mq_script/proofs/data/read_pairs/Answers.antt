use Rattle.std.proofs.Common.{◌≡◌, ◌%◌, length, ap}
use Rattle.std.specs.Option.{ok_or}
use Rattle.mq_script.specs.Words.{pairs_in}
use Rattle.mq_script.specs.declared.refusal.ScriptCause.TheVariants.{Data as not_data}
use Rattle.mq_script.proofs.WordsData.{pairs_odd, front_none, pair_some, pair_none, pairs_all}
use Rattle.mq_script.proofs.data.read_pairs.Goals as goal

pub returns-then-digits-ne0 : goal.returns-then-digits-ne0
returns-then-digits-ne0 c = ap (λ r. ok_or r not_data) (pairs_odd c.args.digits.now c.if-digits-ne0.true)

pub loop-i-init : goal.loop-i-init
loop-i-init c = rw c.in_ok-bytes.ensures.items (front_none (pairs_in c.args.digits.now))

pub returns-in-None : goal.returns-in-None
returns-in-None c =
    ap (λ r. ok_or r not_data) (pair_none c.args.digits.now c.loop-i.bytes.items c.loop-i.i c.loop-i-test.true c.loop-i.invariant c.in-None.ensures)

pub loop-i-preserved : goal.loop-i-preserved
loop-i-preserved c =
    rw c.in_ok-push-in-Some.ensures.items
    (pair_some c.args.digits.now c.loop-i.bytes.items c.loop-i.i c.in-Some.byte c.loop-i-test.true c.loop-i.invariant c.in-Some.ensures)

pub returns : goal.returns
returns c =
    let even : length c.args.digits.now % 2 ≡ 0 = c.if-digits-ne0.false in
    ap (λ r. ok_or r not_data) (pairs_all c.args.digits.now c.loop-i.bytes.items c.loop-i.i c.loop-i-test.false even c.loop-i.invariant)
