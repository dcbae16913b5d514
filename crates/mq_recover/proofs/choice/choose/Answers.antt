use Rattle.std.proofs.Common.{◌≡◌, ◌-◌, ◌+◌, List, inr, length, Option, refl, sym, ◌∙◌, ap, subst, arith, rules, Vec, Global}
use Rattle.std.proofs.lemmas.Result.{err_from_is_err_and}
use Rattle.std.proofs.lemmas.List.{with_items_is}
use Rattle.mq_blocks.specs.Descriptor.{Descriptor, IsGood}
use Rattle.mq_blocks.specs.Geometry.{homes_of}
use Rattle.mq_blocks.specs.Limits.{list_limit}
use Rattle.mq_recover.specs.Copies.{with_transaction}
use Rattle.mq_recover.specs.declared.copies.CopyPlace.{CopyPlace}
use Rattle.mq_recover.proofs.Choices.{IsChoosing, can-go-on, end-chosen, none-chosen}
use Rattle.mq_recover.proofs.choice.choose.Goals as goal
use Rattle.mq_recover.proofs.choice.choose.Goals.{then-next-base, else-next-base}

pub loop-copies-init : goal.loop-copies-init
loop-copies-init c = record { choosing = none-chosen (homes_of c.args.geometry) c.args.base c.args.chains.items c.in_ok-copies.copies.items c.requires c.in_ok-copies.ensures; base_is = refl }

pub returns-in_err-next-clause-refused : goal.returns-in_err-next-clause-refused
returns-in_err-next-clause-refused c =
    let t = c.loop-copies.invariant.choosing in
    let p = err_from_is_err_and c.from_residual-in_err-next.result c.from_residual-in_err-next.ensures.1 in
    rw (p.1, p.2) (inr (c.in_err-next.ensures.twice (homes_of c.args.geometry) c.args.base c.args.chains.items t.taken t.merging))

pub overflow_sub-next-inside : goal.overflow_sub-next-inside
overflow_sub-next-inside c =
    let t = c.loop-copies.invariant.choosing in
    let can = can-go-on (homes_of c.args.geometry) c.args.base c.args.chains.items c.loop-copies.chains.items c.take_oldest.new.chains.items c.loop-copies.copies.items c.loop-copies.prefix c.in_ok-next.field-0 c.in-Some.next t
    (c.in_ok-next.ensures.ok (homes_of c.args.geometry) c.args.base c.args.chains.items t.taken t.merging) c.in-Some.is in
    omega (arith, can.above, ap (λ (x : Descriptor). x.number) c.next.view_is)

pub overflow_add-prefix : goal.overflow_add-prefix
overflow_add-prefix c =
    let t = c.loop-copies.invariant.choosing in
    let can = can-go-on (homes_of c.args.geometry) c.args.base c.args.chains.items c.loop-copies.chains.items c.take_oldest.new.chains.items c.loop-copies.copies.items c.loop-copies.prefix c.in_ok-next.field-0 c.in-Some.next t
    (c.in_ok-next.ensures.ok (homes_of c.args.geometry) c.args.base c.args.chains.items t.taken t.merging) c.in-Some.is in
    omega (arith, can.high, can.number)

pub take_over-requires : goal.take_over-requires
take_over-requires c =
    let t = c.loop-copies.invariant.choosing in
    let can = can-go-on (homes_of c.args.geometry) c.args.base c.args.chains.items c.loop-copies.chains.items c.take_oldest.new.chains.items c.loop-copies.copies.items c.loop-copies.prefix c.in_ok-next.field-0 c.in-Some.next t
    (c.in_ok-next.ensures.ok (homes_of c.args.geometry) c.args.base c.args.chains.items t.taken t.merging) c.in-Some.is in
    subst (λ (l : List (Option CopyPlace)). IsGood list_limit (length l) c.in-Some.next) (sym c.deref_mut.ensures.value) can.good

pub loop-copies-preserved : goal.loop-copies-preserved
loop-copies-preserved c =
    let t = c.loop-copies.invariant.choosing in
    let can = can-go-on (homes_of c.args.geometry) c.args.base c.args.chains.items c.loop-copies.chains.items c.take_oldest.new.chains.items c.loop-copies.copies.items c.loop-copies.prefix c.in_ok-next.field-0 c.in-Some.next t
    (c.in_ok-next.ensures.ok (homes_of c.args.geometry) c.args.base c.args.chains.items t.taken t.merging) c.in-Some.is in
    elim c.if-next-base.branch [
      | then-next-base w ↦
          let items : c.if-next-base.copies.items ≡ w.take_over.new.copies = ap (λ (v : Vec (Option CopyPlace) Global). v.items) w.copies-is ∙ with_items_is c.loop-copies.copies w.take_over.new.copies (search (rules, w.take_over.auto.copies, w.deref_mut.ensures.len)) in
          let start : w.deref_mut.result.now ≡ c.loop-copies.copies.items = w.deref_mut.ensures.value in
          let number : c.in-Some.next.number - c.args.base ≡ c.loop-copies.prefix + 1 = ap (λ (x : Descriptor). x.number - c.args.base) (sym c.next.view_is) ∙ w.if-next-base.true in
          let next = can.chosen c.if-next-base.copies.items (items ∙ w.take_over.ensures ∙ ap (λ (l : List (Option CopyPlace)). with_transaction l c.in-Some.next) start) number in
          record {
            choosing = subst (IsChoosing (homes_of c.args.geometry) c.args.base c.args.chains.items c.take_oldest.new.chains.items c.if-next-base.copies.items) (sym w.prefix-is) next;
            base_is = refl;
          }
      | else-next-base w ↦
          let items : c.if-next-base.copies.items ≡ c.loop-copies.copies.items = ap (λ (v : Vec (Option CopyPlace) Global). v.items) w.copies-is in
          let next = can.passed (λ is. w.if-next-base.false (ap (λ (x : Descriptor). x.number - c.args.base) c.next.view_is ∙ is)) in
          record {
            choosing =
                subst (IsChoosing (homes_of c.args.geometry) c.args.base c.args.chains.items c.take_oldest.new.chains.items c.if-next-base.copies.items) (sym w.prefix-is)
                (subst (λ (l : List (Option CopyPlace)). IsChoosing (homes_of c.args.geometry) c.args.base c.args.chains.items c.take_oldest.new.chains.items l c.loop-copies.prefix) (sym items) next);
            base_is = refl;
          }
    ]

pub returns-clause-ok : goal.returns-clause-ok
returns-clause-ok c =
    let t = c.loop-copies.invariant.choosing in
    end-chosen (homes_of c.args.geometry) c.args.base c.args.chains.items c.loop-copies.chains.items c.take_oldest.new.chains.items c.loop-copies.copies.items c.loop-copies.prefix c.in_ok-next.field-0 (record { copies = c.loop-copies.copies; prefix = c.loop-copies.prefix }) t
    (c.in_ok-next.ensures.ok (homes_of c.args.geometry) c.args.base c.args.chains.items t.taken t.merging) c.in_default.is refl refl
