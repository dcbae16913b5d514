use Rattle.std.proofs.Common.{arith, ◌∙◌, ap, length, refl}
use Rattle.mq_notices.proofs.Interleaving.{all-merged, begins, goes-on, some-left, some-next}
use Rattle.mq_notices.proofs.merging.merge.Goals as goal

pub loop-index-init : goal.loop-index-init
loop-index-init c = record {
  on = λ pushed merged. begins c.args.mine.now c.args.theirs.now c.args.into.items pushed c.requires.none merged;
  places = omega arith;
  first_in = omega arith;
  second_in = omega arith;
  few = let e = ap length c.requires.none in omega arith;
  room = refl;
}

pub next-notice-requires-clause-some : goal.next-notice-requires-clause-some
next-notice-requires-clause-some c =
    let i = c.loop-index.invariant in
    let some = c.requires.some in
    let on = i.on some.0 some.1 in
    let mine = c.args.mine.now in
    let theirs = c.args.theirs.now in
    some-next mine theirs c.loop-index.index c.loop-index.a c.loop-index.b c.loop-index.into.items some.0 on
    (some-left mine theirs c.loop-index.index c.loop-index.a c.loop-index.b c.loop-index.into.items some.0 on c.loop-index-test.true i.places)

pub loop-index-preserved : goal.loop-index-preserved
loop-index-preserved c =
    let i = c.loop-index.invariant in
    let mine = c.args.mine.now in
    let theirs = c.args.theirs.now in
    let next = c.next-notice.ensures in
    record {
      on = λ pushed merged.
          let on = i.on pushed merged in
          goes-on mine theirs c.loop-index.index c.loop-index.a c.loop-index.b c.loop-index.into.items pushed on c.next-notice.new.a c.next-notice.new.b c.note.new.into.items c.next-notice.result
          (some-left mine theirs c.loop-index.index c.loop-index.a c.loop-index.b c.loop-index.into.items pushed on c.loop-index-test.true i.places) next c.note.ensures.numbers;
      places = omega (arith, next.on, i.places);
      first_in = next.first_in;
      second_in = next.second_in;
      few = omega (arith, c.note.ensures.length, i.few);
      room = c.note.ensures.room ∙ i.room;
    }

pub returns : goal.returns
returns c = λ pushed merged.
    let i = c.loop-index.invariant in
    all-merged c.args.mine.now c.args.theirs.now c.loop-index.index c.loop-index.a c.loop-index.b c.loop-index.into.items pushed (i.on pushed merged) c.loop-index-test.false i.places i.first_in i.second_in
