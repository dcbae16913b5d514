use Rattle.std.proofs.Common.{rules, ◌≡◌, ◌<◌, ◌≤◌, ◌+◌, ◌-◌, ◌++◌, ℕ, Bool, false, List, Option, length, get_or, None, refl, sym, ◌∙◌, ap, subst}
use Rattle.std.specs.Option.{ForSome, option_to_list}
use Rattle.rand_pcg.specs.Lcg.{Lcg}
use Rattle.mq_blocks.specs.Drive.{PortImage, index_of}
use Rattle.mq_blocks.specs.declared.command.Command.{Command}
use Rattle.mq_blocks.specs.declared.command.HomeWrite.{HomeWrite}
use Rattle.mq_drive.specs.Choices.{torn_blocks, writes_of, by_count, in_doubt}
use Rattle.mq_drive.specs.Emu.{device_state, device_chance}
use Rattle.mq_drive.specs.Failures.{failed_of, unended_of, while_in, written_by}
use Rattle.mq_drive.specs.Slots.{index_in}
use Rattle.mq_drive.specs.declared.device.Device.{Device}
use Rattle.mq_drive.proofs.Choices.{failed_for, unended_for, all_torn, cut_is}
use Rattle.mq_drive.proofs.DriveCutting.{IsCut, image_of-cut, quiet-cut}
use Rattle.mq_drive.proofs.device.Device.cut.Goals as goal

-- ---- the block of the failed write is the port's, and uncertain

abbrev IsOwn : Device → ℕ → ℕ → Type 0
IsOwn p n lba = (p.area.first ≤ lba) × (index_in p.area.first p.area.size p.homes.first lba < n)

abbrev IsOpen : Device → List Bool → ℕ → Type 0
IsOpen p certain lba = get_or certain (index_in p.area.first p.area.size p.homes.first lba) false ≡ false

own_still : (p : Device) → ForSome p.failure (λ f. ForSome p.blocks.doubt (λ k. IsOwn p (length p.blocks.stored.items) (written_by f)))
own_still p = λ f is k some. p.sound.writes.failure_own f is

open_still : (p : Device) → ForSome p.failure (λ f. ForSome p.blocks.doubt (λ k. IsOpen p p.blocks.certain.items (written_by f)))
open_still p = λ f is k some. ap (λ (n : ℕ). get_or p.blocks.certain.items n false) (p.sound.writes.failure_doubt f is k some) ∙ (p.blocks.doubtful k some).1

failed_is : (p : Device) (doubt : Option ℕ) (failed : Option Command) → doubt ≡ p.blocks.doubt → option_to_list failed ≡ while_in doubt (failed_of p.failure) → option_to_list failed ≡ while_in p.blocks.doubt (failed_of p.failure)
failed_is p doubt failed same is = is ∙ ap (λ (o : Option ℕ). while_in o (failed_of p.failure)) same

unended_is : (p : Device) (doubt : Option ℕ) (unended : Option HomeWrite) → doubt ≡ p.blocks.doubt → option_to_list unended ≡ while_in doubt (unended_of p.failure) → option_to_list unended ≡ while_in p.blocks.doubt (unended_of p.failure)
unended_is p doubt unended same is = is ∙ ap (λ (o : Option ℕ). while_in o (unended_of p.failure)) same

pub tear_commands-requires-clause-failed : goal.tear_commands-requires-clause-failed
tear_commands-requires-clause-failed c =
    let p = c.args.self in
    failed_for (IsOwn p (length p.blocks.stored.items)) p.blocks.doubt p.failure c.parts_of-failed.result.0 (failed_is p c.doubt.result c.parts_of-failed.result.0 c.doubt.ensures c.parts_of-failed.ensures.failed) (own_still p)

pub tear_commands-requires-clause-doubt : goal.tear_commands-requires-clause-doubt
tear_commands-requires-clause-doubt c =
    let p = c.args.self in
    failed_for (IsOpen p p.blocks.certain.items) p.blocks.doubt p.failure c.parts_of-failed.result.0 (failed_is p c.doubt.result c.parts_of-failed.result.0 c.doubt.ensures c.parts_of-failed.ensures.failed) (open_still p)

pub tear_home-requires-clause-own : goal.tear_home-requires-clause-own
tear_home-requires-clause-own c =
    let p = c.args.self in
    subst (λ (n : ℕ). ForSome c.parts_of-failed.result.1 (λ w. IsOwn p n w.lba)) (sym c.tear_commands.ensures.len)
    (unended_for (IsOwn p (length p.blocks.stored.items)) p.blocks.doubt p.failure c.parts_of-failed.result.1 (unended_is p c.doubt.result c.parts_of-failed.result.1 c.doubt.ensures c.parts_of-failed.ensures.unended) (own_still p))

pub tear_home-requires-clause-doubt : goal.tear_home-requires-clause-doubt
tear_home-requires-clause-doubt c =
    let p = c.args.self in
    subst (λ (l : List Bool). ForSome c.parts_of-failed.result.1 (λ w. IsOpen p l w.lba)) (sym c.tear_commands.ensures.certain)
    (unended_for (IsOpen p p.blocks.certain.items) p.blocks.doubt p.failure c.parts_of-failed.result.1 (unended_is p c.doubt.result c.parts_of-failed.result.1 c.doubt.ensures c.parts_of-failed.ensures.unended) (open_still p))

pub tear_home-requires-2-clause-own : goal.tear_home-requires-2-clause-own
tear_home-requires-2-clause-own c = λ w is.
    subst (λ (n : ℕ). IsOwn c.args.self n w.lba) (sym (c.tear_home.ensures.len ∙ c.tear_commands.ensures.len)) (c.args.self.sound.writes.under_way_own w is)

pub tear_home-requires-2-clause-doubt : goal.tear_home-requires-2-clause-doubt
tear_home-requires-2-clause-doubt c = λ w is.
    subst (λ (l : List Bool). IsOpen c.args.self l w.lba) (sym (c.tear_home.ensures.certain ∙ c.tear_commands.ensures.certain)) (c.args.self.sound.writes.under_way_doubt w is)

-- ---- the image

image_after : goal.After-drop-staged → PortImage
image_after c = record {
  doorbell = c.args.self.doorbell;
  head = c.either-head.result;
  base = c.either-base.result;
  slots = c.tear_slots.new.flushed.items;
  blocks = c.into_inner.result.items;
}

is_cut : (c : goal.After-drop-staged) → IsCut (device_state c.args.self) (image_after c)
unfolding image_after
is_cut c =
    let few : c.len.result ≡ length c.args.self.pending.items = search rules in
    record {
      doorbell = refl;
      head = c.either-head.ensures.one;
      base = c.either-base.ensures.one;
      slots_len = c.tear_slots.ensures.len;
      slots = λ k flushed. c.tear_slots.ensures.kept k (λ n low high. flushed n low (subst (λ (m : ℕ). n < c.args.self.doorbell + m) few high));
      blocks_len = ap (λ v. length v.items) c.into_inner.ensures ∙ c.tear_home-2.ensures.len ∙ c.tear_home.ensures.len ∙ c.tear_commands.ensures.len;
      blocks = λ k apart certain.
          let after : get_or c.tear_commands.new.blocks.certain.items k false ≡ Rattle.std.proofs.Common.true = ap (λ (l : List Bool). get_or l k false) c.tear_commands.ensures.certain ∙ certain in
          ap (λ v. get_or v.items k None) c.into_inner.ensures
          ∙ c.tear_home-2.ensures.kept k (ap (λ (l : List Bool). get_or l k false) c.tear_home.ensures.certain ∙ after)
          ∙ c.tear_home.ensures.kept k after
          ∙ c.tear_commands.ensures.kept k apart certain;
    }

pub returns-clause-image : goal.returns-clause-image
unfolding image_after
returns-clause-image c = image_of-cut (device_state c.args.self) (image_after c) (is_cut c)

pub returns-clause-quiet : goal.returns-clause-quiet
unfolding image_after
returns-clause-quiet c = quiet-cut (device_state c.args.self) (image_after c) c.args.self.blocks.sized (is_cut c)

pub returns-clause-chosen : goal.returns-clause-chosen
returns-clause-chosen c =
    let p = c.args.self in
    let few : c.len.result ≡ length p.pending.items = search rules in
    let place : ℕ → ℕ = index_of (device_state p) in
    let blocks : ◌≡◌ {A = List (Option (List ℕ)) × Lcg} (c.tear_home-2.new.blocks.stored.items, c.tear_home-2.new.rng)
    (torn_blocks place (writes_of (by_count (option_to_list c.parts_of-failed.result.0) p.posted.items) ++ (option_to_list c.parts_of-failed.result.1 ++ option_to_list p.under_way)) p.blocks.stored.items c.either-base.new.rng) =
    all_torn place (writes_of (by_count (option_to_list c.parts_of-failed.result.0) p.posted.items)) (option_to_list c.parts_of-failed.result.1) (option_to_list p.under_way)
    p.blocks.stored.items c.tear_commands.new.blocks.stored.items c.tear_home.new.blocks.stored.items c.tear_home-2.new.blocks.stored.items
    c.either-base.new.rng c.tear_commands.new.rng c.tear_home.new.rng c.tear_home-2.new.rng
    c.tear_commands.ensures.chosen c.tear_home.ensures.chosen c.tear_home-2.ensures.chosen in
    let failed = failed_is p c.doubt.result c.parts_of-failed.result.0 c.doubt.ensures c.parts_of-failed.ensures.failed in
    let unended = unended_is p c.doubt.result c.parts_of-failed.result.1 c.doubt.ensures c.parts_of-failed.ensures.unended in
    let all : ◌≡◌ {A = List (Option (List ℕ)) × Lcg} (c.into_inner.result.items, c.tear_home-2.new.rng)
    (torn_blocks place (in_doubt (device_state p) (device_chance p)) p.blocks.stored.items c.either-base.new.rng) =
    ap (λ v. (v.items, c.tear_home-2.new.rng)) c.into_inner.ensures ∙ blocks
    ∙ ap (λ (l : List Command). torn_blocks place (writes_of (by_count l p.posted.items) ++ (option_to_list c.parts_of-failed.result.1 ++ option_to_list p.under_way)) p.blocks.stored.items c.either-base.new.rng) failed
    ∙ ap (λ (l : List HomeWrite). torn_blocks place (writes_of (by_count (while_in p.blocks.doubt (failed_of p.failure)) p.posted.items) ++ (l ++ option_to_list p.under_way)) p.blocks.stored.items c.either-base.new.rng) unended in
    cut_is (device_state p) (device_chance p) c.args.pick (p.doorbell + c.len.result - p.flushed_end)
    c.generator-rng.result c.tear_slots.new.rng c.either-head.new.rng c.either-base.new.rng c.tear_home-2.new.rng
    c.tear_slots.new.flushed.items c.either-head.result c.either-base.result c.into_inner.result.items
    c.generator-rng.ensures (ap (λ (n : ℕ). p.doorbell + n - p.flushed_end) few) c.tear_slots.ensures.chosen c.either-head.ensures.chosen c.either-base.ensures.chosen all
