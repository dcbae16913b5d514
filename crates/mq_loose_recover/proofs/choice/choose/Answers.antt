use Rattle.std.proofs.Common.{◌≡◌, ℕ, ◌%◌, ◌≤◌, ◌++◌, List, [], ◌∷◌, inr, length, Option, refl, sym, ◌∙◌, ap, subst, arith, rules, Vec, Global}
use Rattle.std.proofs.lemmas.Result.{err_from_is_err_and}
use Rattle.std.proofs.lemmas.List.{with_items_is}
use Rattle.std.specs.List.Sorted.{IsNonDecreasing}
use Rattle.std.specs.Prelude.{◌||◌, nat_le}
use Rattle.mq_area.specs.Reading.{header_of}
use Rattle.mq_blocks.specs.Descriptor.{Descriptor, IsGood}
use Rattle.mq_blocks.specs.Geometry.{area_of, homes_of}
use Rattle.mq_blocks.specs.Journal.{is_among}
use Rattle.mq_blocks.specs.Limits.{list_limit}
use Rattle.mq_loose_order.specs.Dependence.{all_in}
use Rattle.mq_loose_order.specs.Form.{loose_limit}
use Rattle.mq_recover.specs.Copies.{with_transaction}
use Rattle.mq_recover.specs.Drives.{states, view_over}
use Rattle.mq_recover.specs.declared.copies.CopyPlace.{CopyPlace}
use Rattle.mq_loose_recover.proofs.Choosing.{IsLooselyChoosing, can-go-on, end-chosen, none-chosen}
use Rattle.mq_loose_recover.proofs.ImagesWhole.{area-block, listed-few}
use Rattle.mq_loose_recover.proofs.Searching.{chosen-rise}
use Rattle.mq_loose_recover.specs.Choices.{block_of}
use Rattle.mq_loose_recover.specs.Reading.{deps_of_block}
use Rattle.mq_loose_recover.proofs.choice.choose.Goals as goal
use Rattle.mq_loose_recover.proofs.choice.choose.Goals.{then-is_met+in_ok-push, else-is_met}

pub loop-block-init : goal.loop-block-init
loop-block-init g c = record {
  choosing = none-chosen c.args.geometry (states g.P.Port.state c.args.ports.now.queues.items c.args.ports.now.root) c.args.base c.args.chains.items c.in_ok-copies.copies.items c.new-set.result.items c.requires.chains c.in_ok-copies.ensures c.new-set.ensures.items;
  base_is = refl;
}

pub returns-in_err-next-clause-refused : goal.returns-in_err-next-clause-refused
returns-in_err-next-clause-refused g c =
    let t = c.loop-block.invariant.choosing in
    let p = err_from_is_err_and c.from_residual-in_err-next.result c.from_residual-in_err-next.ensures.1 in
    rw (p.1, p.2) (inr (c.in_err-next.ensures.twice (homes_of c.args.geometry) c.args.base c.args.chains.items t.taken t.merging))

pub read_copy_place-requires-clause-own : goal.read_copy_place-requires-clause-own
read_copy_place-requires-clause-own g c =
    let d = states g.P.Port.state c.args.ports.now.queues.items c.args.ports.now.root in
    let t = c.loop-block.invariant.choosing in
    let can = can-go-on c.args.geometry d c.args.base c.args.chains.items c.loop-block.chains.items c.take_oldest.new.chains.items c.loop-block.copies.items c.loop-block.set.items c.in_ok-next.field-0 c.in-Some.next t
    (c.in_ok-next.ensures.ok (homes_of c.args.geometry) c.args.base c.args.chains.items t.taken t.merging) c.in-Some.is in
    let own = can.own in
    let count = c.requires.count in
    omega (arith, own, count, ap (λ (x : Descriptor). x.queue) c.next.view_is)

pub is_met-requires-clause-logged : goal.is_met-requires-clause-logged
is_met-requires-clause-logged g c =
    let d = states g.P.Port.state c.args.ports.now.queues.items c.args.ports.now.root in
    let t = c.loop-block.invariant.choosing in
    let can = can-go-on c.args.geometry d c.args.base c.args.chains.items c.loop-block.chains.items c.take_oldest.new.chains.items c.loop-block.copies.items c.loop-block.set.items c.in_ok-next.field-0 c.in-Some.next t
    (c.in_ok-next.ensures.ok (homes_of c.args.geometry) c.args.base c.args.chains.items t.taken t.merging) c.in-Some.is in
    let block_is : c.bytes.result.now ≡ block_of c.args.geometry d c.in-Some.next =
    c.bytes.ensures.is ∙ c.read_copy_place.ensures ∙ ap (λ (y : Descriptor). (view_over c.args.geometry d).area y.queue (y.place % area_of c.args.geometry)) c.next.view_is ∙ area-block c.args.geometry d c.in-Some.next in
    subst (λ (b : List ℕ). (header_of b).logged ≤ loose_limit) (sym block_is) (listed-few c.args.geometry d c.in-Some.next (c.requires.listed c.in-Some.next.queue c.in-Some.next can.own can.has)).0

pub is_met-requires-clause-deps : goal.is_met-requires-clause-deps
is_met-requires-clause-deps g c =
    let d = states g.P.Port.state c.args.ports.now.queues.items c.args.ports.now.root in
    let t = c.loop-block.invariant.choosing in
    let can = can-go-on c.args.geometry d c.args.base c.args.chains.items c.loop-block.chains.items c.take_oldest.new.chains.items c.loop-block.copies.items c.loop-block.set.items c.in_ok-next.field-0 c.in-Some.next t
    (c.in_ok-next.ensures.ok (homes_of c.args.geometry) c.args.base c.args.chains.items t.taken t.merging) c.in-Some.is in
    let block_is : c.bytes.result.now ≡ block_of c.args.geometry d c.in-Some.next =
    c.bytes.ensures.is ∙ c.read_copy_place.ensures ∙ ap (λ (y : Descriptor). (view_over c.args.geometry d).area y.queue (y.place % area_of c.args.geometry)) c.next.view_is ∙ area-block c.args.geometry d c.in-Some.next in
    subst (λ (b : List ℕ). (header_of b).revoked ≤ loose_limit) (sym block_is) (listed-few c.args.geometry d c.in-Some.next (c.requires.listed c.in-Some.next.queue c.in-Some.next can.own can.has)).1

pub is_met-requires-clause-rising : goal.is_met-requires-clause-rising
is_met-requires-clause-rising g c =
    let d = states g.P.Port.state c.args.ports.now.queues.items c.args.ports.now.root in
    subst IsNonDecreasing (sym c.deref.ensures.value) (chosen-rise c.args.geometry d c.args.base c.args.chains.items c.loop-block.chains.items c.loop-block.copies.items c.loop-block.set.items c.loop-block.invariant.choosing)

pub take_over-requires : goal.take_over-requires
take_over-requires g c =
    let d = states g.P.Port.state c.args.ports.now.queues.items c.args.ports.now.root in
    let t = c.loop-block.invariant.choosing in
    let can = can-go-on c.args.geometry d c.args.base c.args.chains.items c.loop-block.chains.items c.take_oldest.new.chains.items c.loop-block.copies.items c.loop-block.set.items c.in_ok-next.field-0 c.in-Some.next t
    (c.in_ok-next.ensures.ok (homes_of c.args.geometry) c.args.base c.args.chains.items t.taken t.merging) c.in-Some.is in
    subst (λ (l : List (Option CopyPlace)). IsGood list_limit (length l) c.in-Some.next) (sym c.deref_mut.ensures.value) can.good

pub loop-block-preserved : goal.loop-block-preserved
loop-block-preserved g c =
    let d = states g.P.Port.state c.args.ports.now.queues.items c.args.ports.now.root in
    let t = c.loop-block.invariant.choosing in
    let x : Descriptor = c.in-Some.next in
    let can = can-go-on c.args.geometry d c.args.base c.args.chains.items c.loop-block.chains.items c.take_oldest.new.chains.items c.loop-block.copies.items c.loop-block.set.items c.in_ok-next.field-0 c.in-Some.next t
    (c.in_ok-next.ensures.ok (homes_of c.args.geometry) c.args.base c.args.chains.items t.taken t.merging) c.in-Some.is in
    let block_is : c.bytes.result.now ≡ block_of c.args.geometry d x =
    c.bytes.ensures.is ∙ c.read_copy_place.ensures ∙ ap (λ (y : Descriptor). (view_over c.args.geometry d).area y.queue (y.place % area_of c.args.geometry)) c.next.view_is ∙ area-block c.args.geometry d x in
    let met : c.is_met.result ≡ all_in (λ n. nat_le n c.args.base || is_among n c.loop-block.set.items) (deps_of_block (block_of c.args.geometry d x)) =
    c.is_met.ensures ∙ ap (λ (ns : List ℕ). all_in (λ n. nat_le n c.args.base || is_among n ns) (deps_of_block c.bytes.result.now)) c.deref.ensures.value
    ∙ ap (λ (b : List ℕ). all_in (λ n. nat_le n c.args.base || is_among n c.loop-block.set.items) (deps_of_block b)) block_is in
    elim c.if-is_met.branch [
      | then-is_met+in_ok-push w ↦
          let copies : c.if-is_met.copies.items ≡ w.take_over.new.copies = ap (λ (v : Vec (Option CopyPlace) Global). v.items) w.copies-is ∙ with_items_is c.loop-block.copies w.take_over.new.copies (search (rules, w.take_over.auto.copies, w.deref_mut.ensures.len)) in
          let start : w.deref_mut.result.now ≡ c.loop-block.copies.items = w.deref_mut.ensures.value in
          let number : c.next.inside.number ≡ x.number = ap (λ (y : Descriptor). y.number) c.next.view_is in
          let set : c.if-is_met.set.items ≡ c.loop-block.set.items ++ x.number ∷ [] = ap (λ (v : Vec ℕ Global). v.items) w.set-is ∙ w.in_ok-push.ensures.items ∙ ap (λ (n : ℕ). c.loop-block.set.items ++ n ∷ []) number in
          record {
            choosing = can.chosen c.if-is_met.copies.items c.if-is_met.set.items (copies ∙ w.take_over.ensures ∙ ap (λ (l : List (Option CopyPlace)). with_transaction l x) start) set (sym met ∙ w.if-is_met.true);
            base_is = refl;
          }
      | else-is_met w ↦
          let copies : c.if-is_met.copies.items ≡ c.loop-block.copies.items = ap (λ (v : Vec (Option CopyPlace) Global). v.items) w.copies-is in
          let set : c.if-is_met.set.items ≡ c.loop-block.set.items = ap (λ (v : Vec ℕ Global). v.items) w.set-is in
          record {
            choosing =
                subst (IsLooselyChoosing c.args.geometry d c.args.base c.args.chains.items c.take_oldest.new.chains.items c.if-is_met.copies.items) (sym set)
                (subst (λ (l : List (Option CopyPlace)). IsLooselyChoosing c.args.geometry d c.args.base c.args.chains.items c.take_oldest.new.chains.items l c.loop-block.set.items) (sym copies) (can.passed (sym met ∙ w.if-is_met.false)));
            base_is = refl;
          }
    ]

pub returns-clause-ok : goal.returns-clause-ok
returns-clause-ok g c =
    let d = states g.P.Port.state c.args.ports.now.queues.items c.args.ports.now.root in
    let t = c.loop-block.invariant.choosing in
    end-chosen c.args.geometry d c.args.base c.args.chains.items c.loop-block.chains.items c.take_oldest.new.chains.items c.loop-block.copies.items c.loop-block.set.items c.in_ok-next.field-0 (record { copies = c.loop-block.copies; set = c.loop-block.set }) t
    (c.in_ok-next.ensures.ok (homes_of c.args.geometry) c.args.base c.args.chains.items t.taken t.merging) c.in_default.is refl refl
