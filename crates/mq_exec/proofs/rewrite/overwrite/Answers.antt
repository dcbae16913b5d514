use Rattle.std.proofs.Common.{get_or, drop, take, ◌≡◌, ◌<◌, ◌-◌, ℕ, ◌*◌, length, sym, ap, subst, ◌∙◌, arith}
use Rattle.std.specs.Prelude.{Some}
use Rattle.std.proofs.lemmas.List.{get_or_default}
use Rattle.mq_pages.specs.declared.page.Kind.TheVariants.{Data}
use Rattle.mq_exec.specs.Overwrites.{IsOverwritten, past_place}
use Rattle.mq_exec.proofs.Overwrites.{over-more, over-none, past-first, still-held, text-slice}
use Rattle.mq_inodes.specs.Changes.{IsTextPut}
use Rattle.mq_inodes.specs.Edits.{IsKindPut}
use Rattle.mq_inodes.specs.Pages.{IsHeld, pages_of}
use Rattle.mq_inodes.proofs.EditsBecoming.{over-self, over-then}
use Rattle.mq_exec.proofs.rewrite.overwrite.Goals as goal

pub loop-place-init : goal.loop-place-init
loop-place-init c = record {
  over = over-self c.args.working.now;
  first = omega arith;
  written = over-none c.args.working.now c.args.blocks.now c.args.at c.args.bytes.now;
}

pub put_bytes-requires-clause-held : goal.put_bytes-requires-clause-held
put_bytes-requires-clause-held c =
    let i = c.loop-place.invariant in
    let past : c.loop-place.place < past_place c.args.at (length c.args.bytes.now) = (let t = c.loop-place-test.true in let e = c.past_place-place-end.ensures in omega arith) in
    let low = c.requires.inside c.loop-place.place i.first past in
    let b : c.index-blocks-place.result ≡ get_or c.args.blocks.now c.loop-place.place 0 = c.index-blocks-place.is ∙ get_or_default c.args.blocks.now c.loop-place.place c.index-blocks-place.result 0 low in
    subst (λ x. IsHeld (pages_of c.loop-place.working) x) (sym b)
    (still-held c.args.working.now c.loop-place.working c.args.blocks.now c.args.at c.loop-place.place c.args.bytes.now i.written i.first low c.requires.apart (c.requires.held c.loop-place.place i.first past low))

pub loop-place-preserved : goal.loop-place-preserved
loop-place-preserved c =
    let i = c.loop-place.invariant in
    let past : c.loop-place.place < past_place c.args.at (length c.args.bytes.now) = (let t = c.loop-place-test.true in let e = c.past_place-place-end.ensures in omega arith) in
    let low = c.requires.inside c.loop-place.place i.first past in
    let b : c.index-blocks-place.result ≡ get_or c.args.blocks.now c.loop-place.place 0 = c.index-blocks-place.is ∙ get_or_default c.args.blocks.now c.loop-place.place c.index-blocks-place.result 0 low in
    record {
      over = over-then c.args.working.now c.loop-place.working c.put_bytes.new.self i.over c.in_ok-put_bytes.ensures.over;
      first = omega arith;
      written = over-more c.args.working.now c.loop-place.working c.put_bytes.new.self c.args.blocks.now c.args.at c.loop-place.place (c.max-from.result - 4096 * c.loop-place.place) c.args.bytes.now (take (c.min-to.result - c.args.at - (c.max-from.result - c.args.at)) (drop (c.max-from.result - c.args.at) c.args.bytes.now)) i.written i.first low c.requires.apart
          (ap (λ (x : ℕ). x - 4096 * c.loop-place.place) c.max-from.ensures) (text-slice c.args.at c.loop-place.place c.max-from.result c.min-to.result c.args.bytes.now c.max-from.ensures c.min-to.ensures)
          (subst (λ x. IsTextPut (pages_of c.loop-place.working) (pages_of c.put_bytes.new.self) x (c.max-from.result - 4096 * c.loop-place.place) (take (c.min-to.result - c.args.at - (c.max-from.result - c.args.at)) (drop (c.max-from.result - c.args.at) c.args.bytes.now))) b c.in_ok-put_bytes.ensures.put) (subst (λ x. IsKindPut c.loop-place.working c.put_bytes.new.self x (Some Data)) b c.in_ok-put_bytes.ensures.kinds);
    }

pub returns-clause-over : goal.returns-clause-over
returns-clause-over c = c.loop-place.invariant.over

pub returns-clause-written : goal.returns-clause-written
returns-clause-written c =
    let t : c.loop-place.place ≡ past_place c.args.at (length c.args.bytes.now) = (let f = past-first c.args.at (length c.args.bytes.now) in let e = c.past_place-place-end.ensures in let t = c.loop-place-test.false in let n = c.loop-place.auto.place-end (omega arith) in omega arith) in
    subst (λ k. IsOverwritten c.args.working.now c.loop-place.working c.args.blocks.now c.args.at c.args.bytes.now k) t c.loop-place.invariant.written
