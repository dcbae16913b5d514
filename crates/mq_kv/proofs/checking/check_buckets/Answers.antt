use Rattle.std.proofs.Common.{◌≡◌, ◌<◌, ℕ, List, length, sym, ap, subst, ◌∙◌, arith, get_or}
use Rattle.std.specs.Prelude.{None}
use Rattle.std.proofs.lemmas.List.{get_or_default}
use Rattle.mq_blocks.specs.Blocks.{content}
use Rattle.mq_blocks.specs.Geometry.{meta_of}
use Rattle.mq_kv_buckets.specs.Buckets.{IsFirstBad}
use Rattle.mq_kv.specs.Opening.{bucket}
use Rattle.mq_kv.proofs.checking.check_buckets.Goals as goal

pub returns-in-Err-clause-refused : goal.returns-in-Err-clause-refused
returns-in-Err-clause-refused c =
    let low : c.loop-b.b < meta_of c.args.geometry = (let t = c.loop-b-test.true in let e = c.meta-b-end.ensures in omega arith) in
    let whole = c.requires in
    let within : c.loop-b.b < length c.args.blocks.now = omega arith in
    let same : get_or c.args.blocks.now c.loop-b.b None ≡ c.index-blocks-b.result =
    get_or_default c.args.blocks.now c.loop-b.b None c.index-blocks-b.result within ∙ sym c.index-blocks-b.is in
    bucket (record {
      meta = low;
      bad = subst (λ (bytes : List ℕ). IsFirstBad bytes c.in-Err.offset) (sym (ap content same)) c.in-Err.ensures;
      least = c.loop-b.invariant;
    })
