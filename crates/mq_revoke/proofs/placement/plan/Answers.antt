use Rattle.std.proofs.Common.{◌≡◌, ◌-◌, ◌<◌, ◌≤◌, length, sym, ◌∙◌, rules, arith}
use Rattle.std.specs.Prelude.{vec_len}
use Rattle.std.proofs.lemmas.Bool.{false≢true}
use Rattle.std.proofs.lemmas.List.{length-map, take_all}
use Rattle.mq_blocks.specs.Geometry.{homes_of}
use Rattle.mq_blocks.proofs.DescriptorLimits.{limit-high}
use Rattle.mq_blocks.proofs.DescriptorRising.{rising-few}
use Rattle.mq_revoke.specs.Placing.{IsDirect}
use Rattle.mq_revoke.proofs.Placing.{in_range, short, after_logged, after_direct, after_revoked, so_far-placement, so_far-length}
use Rattle.mq_revoke.proofs.placement.plan.Goals as goal
use Rattle.mq_revoke.proofs.placement.plan.Goals.{then-is_direct+then-is_copied, then-is_direct+else-is_copied, else-is_direct}

pub overflow_cast-result : goal.overflow_cast-result
overflow_cast-result c =
    let few : length c.args.writes.now ≤ homes_of c.args.geometry - 0 = simp length-map at (rising-few 0 (homes_of c.args.geometry) _ c.requires) in
    let many : length c.args.writes.now ≤ 32768 = omega (arith, few, c.args.geometry.homes_high) in
    omega (arith, many)

pub is_direct-requires : goal.is_direct-requires
is_direct-requires c = (in_range 0 (homes_of c.args.geometry) c.args.writes.now c.write-item.result c.loop-write.write-index c.requires (omega arith) (sym c.write-item.is)).1

pub add-requires : goal.add-requires
add-requires c =
    let most = limit-high c.args.geometry in
    let lists = short c.args.geometry c.args.queue c.args.front c.args.base c.args.writes.now c.loop-write.write-index c.write-item.result c.loop-write-test.true c.write-item.is _ _ _ c.loop-write.invariant.lists in
    let len : vec_len c.loop-write.into-inside.direct ≡ length c.loop-write.into-inside.direct.items = search rules in
    omega (arith, len, lists.1, c.loop-write.invariant.reserved.in_direct)

pub add-requires-then-is_copied : goal.add-requires-then-is_copied
add-requires-then-is_copied c =
    let most = limit-high c.args.geometry in
    let lists = short c.args.geometry c.args.queue c.args.front c.args.base c.args.writes.now c.loop-write.write-index c.write-item.result c.loop-write-test.true c.write-item.is _ _ _ c.loop-write.invariant.lists in
    let len : vec_len c.loop-write.into-inside.revoked ≡ length c.loop-write.into-inside.revoked.items = search rules in
    omega (arith, len, lists.2, c.loop-write.invariant.reserved.in_revoked)

pub add-requires-else-is_direct : goal.add-requires-else-is_direct
add-requires-else-is_direct c =
    let most = limit-high c.args.geometry in
    let lists = short c.args.geometry c.args.queue c.args.front c.args.base c.args.writes.now c.loop-write.write-index c.write-item.result c.loop-write-test.true c.write-item.is _ _ _ c.loop-write.invariant.lists in
    let len : vec_len c.loop-write.into-inside.logged ≡ length c.loop-write.into-inside.logged.items = search rules in
    omega (arith, len, lists.0, c.loop-write.invariant.reserved.in_logged)

pub loop-write-preserved : goal.loop-write-preserved
loop-write-preserved c = elim c.if-is_direct.branch [
  | then-is_direct+then-is_copied w ↦
      let is = c.is_direct.ensures.0 w.if-is_direct.true in
      let new : c.args.base < c.write-item.result.last_logged = w.is_copied.ensures.0 w.if-is_copied.true in
      let then = after_revoked c.args.geometry c.args.queue c.args.front c.args.base c.args.writes.now c.loop-write.write-index c.write-item.result c.loop-write-test.true c.write-item.is _ _ _ c.loop-write.invariant.lists is new in
      rw w.into-inside-is (record {
        lists = rw (w.add.ensures.items, w.add-then-is_copied.ensures.items) then;
        reserved = record {
          in_logged = c.loop-write.invariant.reserved.in_logged;
          in_direct = omega (arith, c.loop-write.invariant.reserved.in_direct, w.add.ensures.capacity);
          in_revoked = omega (arith, c.loop-write.invariant.reserved.in_revoked, w.add-then-is_copied.ensures.capacity);
        };
      })
  | then-is_direct+else-is_copied w ↦
      let is = c.is_direct.ensures.0 w.if-is_direct.true in
      let old = λ (new : c.args.base < c.write-item.result.last_logged). false≢true (sym w.if-is_copied.false ∙ w.is_copied.ensures.1 new) in
      let then = after_direct c.args.geometry c.args.queue c.args.front c.args.base c.args.writes.now c.loop-write.write-index c.write-item.result c.loop-write-test.true c.write-item.is _ _ _ c.loop-write.invariant.lists is old in
      rw w.into-inside-is (record {
        lists = rw w.add.ensures.items then;
        reserved = record {
          in_logged = c.loop-write.invariant.reserved.in_logged;
          in_direct = omega (arith, c.loop-write.invariant.reserved.in_direct, w.add.ensures.capacity);
          in_revoked = c.loop-write.invariant.reserved.in_revoked;
        };
      })
  | else-is_direct w ↦
      let other = λ (is : IsDirect c.args.geometry c.args.queue c.args.front c.write-item.result). false≢true (sym w.if-is_direct.false ∙ c.is_direct.ensures.1 is) in
      let then = after_logged c.args.geometry c.args.queue c.args.front c.args.base c.args.writes.now c.loop-write.write-index c.write-item.result c.loop-write-test.true c.write-item.is _ _ _ c.loop-write.invariant.lists other in
      rw w.into-inside-is (record {
        lists = rw w.add-else-is_direct.ensures.items then;
        reserved = record {
          in_logged = omega (arith, c.loop-write.invariant.reserved.in_logged, w.add-else-is_direct.ensures.capacity);
          in_direct = c.loop-write.invariant.reserved.in_direct;
          in_revoked = c.loop-write.invariant.reserved.in_revoked;
        };
      })
]

pub returns-clause-ok : goal.returns-clause-ok
returns-clause-ok c =
    let all = take_all c.loop-write.write-index c.args.writes.now c.loop-write-test.false in
    so_far-placement c.args.geometry c.args.queue c.args.front c.args.base c.args.writes.now _ _ _ c.requires (rw all at c.loop-write.invariant.lists)

pub returns-clause-whole : goal.returns-clause-whole
returns-clause-whole c =
    let all = take_all c.loop-write.write-index c.args.writes.now c.loop-write-test.false in
    so_far-length c.args.geometry c.args.queue c.args.front c.args.base c.args.writes.now _ _ _ (rw all at c.loop-write.invariant.lists)
