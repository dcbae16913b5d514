use Rattle.std.proofs.Common.{◌≡◌, ◌∙◌, ◌++◌, [], ℕ, true, length, replicate, sym, ap, subst}
use Rattle.mq_blocks.specs.Drive.{PortImage}
use Rattle.mq_drive.specs.Choices.{generator_of}
use Rattle.mq_drive.specs.Failures.{while_in}
use Rattle.mq_drive.specs.Seats.{fuse_of}
use Rattle.mq_drive.specs.Sound.{Place}
use Rattle.mq_drive.specs.Start.{IsImageOf, chance_at_start, start_of}
use Rattle.mq_drive.proofs.StartSound.{start-counts, start-placed, start-queued, start-slots, start-words, start-written}
use Rattle.mq_drive.proofs.device.Device.new.Goals as goal

pub invariant_of-result : goal.invariant_of-result
invariant_of-result c =
    let inside = c.image.inside in
    let i : PortImage = record { doorbell = inside.doorbell; head = inside.head; base = inside.base; slots = inside.slots.items; blocks = inside.blocks.items } in
    let image : IsImageOf c.args.geometry c.args.role i = subst (IsImageOf c.args.geometry c.args.role) (sym c.image.view_is) c.requires.image in
    let port : Place = record { role = c.args.role; id = c.queue_id.result; area = c.extents.result.0; homes = c.extents.result.1 } in
    let pending = c.in_ok-with_capacity.ensures.items in
    let posted = c.in_ok-with_capacity-2.ensures.items in
    let blocks : c.new.result.stored.items ≡ inside.blocks.items = ap (λ v. v.items) c.new.ensures.blocks in
    let slots : c.in_ok-flushed.flushed.items ≡ inside.slots.items = c.in_ok-flushed.ensures.items_if_clones_equal (λ x y h. h) ∙ c.deref.ensures.value in
    record {
      sound = record {
        place = start-placed c.args.geometry c.args.role i port c.new.result.stored.items image c.extents.ensures.area_size c.extents.ensures.homes_size c.extents.ensures.order c.extents.ensures.end c.queue_id.ensures.small c.queue_id.ensures.is blocks;
        slots = start-slots c.args.geometry c.args.role i c.in_ok-flushed.flushed.items inside.slots.items c.in_ok-with_capacity.field-0.items image slots (λ n. inside.slots.items) pending;
        commands = start-queued c.in_ok-with_capacity.field-0.items c.in_ok-with_capacity-2.field-0.items _ _ inside.doorbell inside.head pending posted c.in_ok-with_capacity.ensures.capacity c.in_ok-with_capacity-2.ensures.capacity;
        words = start-words c.args.role i image.words;
        writes = start-written port c.in_ok-with_capacity.field-0.items c.in_ok-with_capacity-2.field-0.items c.new.result.stored.items c.new.result.certain.items c.new.result.doubt pending posted;
        counts = start-counts c.args.power.happened c.args.power.offs c.new-2.result.failed c.requires.power.0 c.new-2.ensures.failed;
      };
    }

pub returns-clause-state : goal.returns-clause-state
returns-clause-state c =
    let is = c.image.view_is in
    let slots = c.in_ok-flushed.ensures.items_if_clones_equal (λ x y h. h) ∙ c.deref.ensures.value ∙ ap (λ (x : PortImage). x.slots) is in
    let blocks = ap (λ v. v.items) c.new.ensures.blocks ∙ ap (λ (x : PortImage). x.blocks) is in
    let certain : c.new.result.certain.items ≡ replicate (length c.args.image.blocks) true =
    ap (λ v. v.items) c.new.ensures.certain
    ∙ c.in_ok-certain.ensures.items_if_clones_equal (λ y h. h)
    ∙ ap (λ (n : ℕ). replicate n true) (c.len.ensures ∙ c.image.inside.blocks.ok.0 ∙ ap (λ (x : PortImage). length x.blocks) is) in
    λ j. record (start_of c.args.geometry c.args.role (is j) (fuse_of c.args.power.seat) c.args.fail) {
      area_first = c.extents.ensures.area_first j;
      area_size = c.extents.ensures.area_size j;
      homes_first = c.extents.ensures.homes_first j;
      homes_size = c.extents.ensures.homes_size j;
      flushed = slots j;
      pending = c.in_ok-with_capacity.ensures.items j;
      posted = c.in_ok-with_capacity-2.ensures.items j;
      blocks = blocks j;
      certain = certain j;
      fail = c.new-2.ensures.named j;
    }

pub returns-clause-chance : goal.returns-clause-chance
returns-clause-chance c = λ j. record (chance_at_start c.args.geometry c.args.role c.args.seed) {
  number = c.port_number-number.ensures j;
  order = (c.generator.ensures ∙ ap (generator_of c.args.seed) c.port_number-number.ensures) j;
  failed = while_in (c.new.ensures.doubt j) [];
  begun = while_in (c.new.ensures.doubt j) [] ++ [];
}
