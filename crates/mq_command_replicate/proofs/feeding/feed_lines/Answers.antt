use Rattle.std.proofs.Common.{◌≡◌, ◌+◌, ℕ, suc, List, [], length, ◌∙◌, ap, subst, arith}
use Rattle.mq_block_text.specs.declared.item.BlockItem.{BlockItem}
use Rattle.mq_block_trace.proofs.WriterLines.{there}
use Rattle.mq_drive.specs.Emu.{emu_faults, emu_state}
use Rattle.mq_replica.specs.Feeding.{FeederState}
use Rattle.mq_replica.specs.Offers.{ReplicaState}
use Rattle.mq_replica.specs.Replicas.{replica_state}
use Rattle.mq_replica.specs.Views.{below, faults_below}
use Rattle.mq_command_replicate.specs.Feeds.{HasLines}
use Rattle.mq_command_replicate.specs.Updates.{update_of}
use Rattle.mq_command_replicate.proofs.Lasting.{still_following}
use Rattle.mq_command_replicate.proofs.Offered.{few_lines, one_more}
use Rattle.mq_command_replicate.proofs.feeding.feed_lines.Goals as goal

pub feed_line-requires-clause-good : goal.feed_line-requires-clause-good
feed_line-requires-clause-good c =
    (there c.deref-line-items.result.now c.args.text.now c.loop-line.line-index c.line-item.result c.requires.good (c.deref-line-items.ensures.value ∙ c.text.view_is) c.loop-line-test.true c.line-item.is).good

pub feed_line-requires-clause-low : goal.feed_line-requires-clause-low
feed_line-requires-clause-low c =
    let line = there c.deref-line-items.result.now c.args.text.now c.loop-line.line-index c.line-item.result c.requires.good (c.deref-line-items.ensures.value ∙ c.text.view_is) c.loop-line-test.true c.line-item.is in
    let reached = c.loop-line.invariant.reached in
    let less = line.less in
    let few = few_lines c.args.text.now in
    let all = c.requires.good.1 in
    omega (arith, reached, less, few, all)

pub feed_line-requires-clause-few : goal.feed_line-requires-clause-few
feed_line-requires-clause-few c =
    let line = there c.deref-line-items.result.now c.args.text.now c.loop-line.line-index c.line-item.result c.requires.good (c.deref-line-items.ensures.value ∙ c.text.view_is) c.loop-line-test.true c.line-item.is in
    let offers = c.loop-line.invariant.offers in
    let less = line.less in
    let few = few_lines c.args.text.now in
    let all = c.requires.good.1 in
    omega (arith, offers, less, few, all)

pub loop-line-preserved : goal.loop-line-preserved
loop-line-preserved c =
    let lines : List (List BlockItem) = c.args.text.now in
    let k : ℕ = c.loop-line.line-index in
    let inv = c.loop-line.invariant in
    let line = there c.deref-line-items.result.now lines k c.line-item.result c.requires.good (c.deref-line-items.ensures.value ∙ c.text.view_is) c.loop-line-test.true c.line-item.is in
    let old : ReplicaState = replica_state (below emu_state) (faults_below emu_faults) c.loop-line.replica in
    let new : ReplicaState = replica_state (below emu_state) (faults_below emu_faults) c.feed_line.new.replica in
    let up = c.in_ok-feed_line.ensures.has in
    let reached : new.reached ≡ k + 1 = (let a = up.reached in let b = inv.reached in omega (arith, a, b)) in
    record {
      feeder = c.in_ok-feed_line.ensures.feeder ∙ ap (λ (n : ℕ). let f : FeederState = record { acknowledged = n; waiting = [] } in f) reached;
      follows = still_following old (update_of (old.reached + 1) c.line-item.result) new inv.follows up;
      reached = reached;
      offers = (let a = up.offers in let b = inv.offers in omega (arith, a, b));
      has = λ g first before. subst (λ (n : ℕ). HasLines g first lines n new) (let e : suc k ≡ k + 1 = omega arith in e) (one_more g first lines k c.line-item.result old new line.is line.good (inv.has g first before) up);
    }

pub returns : goal.returns
returns c = λ g first before.
    let lines : List (List BlockItem) = c.args.text.now in
    let all : length c.deref-line-items.result.now ≡ length lines = ap length (c.deref-line-items.ensures.value ∙ c.text.view_is) in
    let over = c.loop-line-test.false in
    let end = c.loop-line.auto.line-index-end in
    let here : c.loop-line.line-index ≡ length lines = omega (arith, all, over, end) in
    subst (λ (n : ℕ). HasLines g first lines n (replica_state (below emu_state) (faults_below emu_faults) c.loop-line.replica)) here (c.loop-line.invariant.has g first before)
