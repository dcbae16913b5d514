use Rattle.std.proofs.Math.ListN.{length-set}
use Rattle.std.proofs.Common.{◌≡◌, ◌<◌, ◌≤◌, ◌+◌, ℕ, Option, Some, None, Bool, List, [], ◌∷◌, ◌++◌, length, get_or, inl, inr, refl, sym, ◌∙◌, ap, subst, arith, set, false}
use Rattle.std.specs.Option.{ForSome, option_to_list}
use Rattle.mq_blocks.specs.Drive.{FuseName, counted, index_of}
use Rattle.mq_drive.proofs.Choices.{chance_done, chance_home, chance_open}
use Rattle.mq_blocks.specs.declared.command.HomeWrite.{HomeWrite}
use Rattle.mq_blocks.proofs.Options.{none-of}
use Rattle.mq_drive.specs.declared.device.Device.{Device}
use Rattle.mq_drive.specs.declared.failing.Failure.TheVariants.{Home}
use Rattle.mq_drive.specs.Emu.{device_state, device_faults, device_chance, device_counts, device_tickets}
use Rattle.mq_drive.specs.Seats.{fuse_of, tickets_of, Happens, IsRefused}
use Rattle.mq_drive.specs.Failures.{errors_of, failed_of, unended_of, written_by, doubt_after}
use Rattle.mq_drive.specs.Slots.{index_in}
use Rattle.mq_drive.specs.Steps.{HomeError}
use Rattle.mq_drive.proofs.Doubts.{some_for, false_at}
use Rattle.mq_drive.proofs.Emulated.{same_counts, refused_home_counts, refused_home_tickets, refused_home_chosen}
use Rattle.mq_drive.proofs.StepsFaults.{off_gains, refused_home, error_gains}
use Rattle.mq_drive.proofs.DriveMoves.{set-set, same_state, begun_home, begun_failed, begun_open}
use Rattle.mq_drive.proofs.SlotsOwned.{IsWithin, within_homes}
use Rattle.mq_drive.proofs.Happened.{happened-begin}
use Rattle.mq_drive.specs.Sound.{IsBlock}
use Rattle.mq_drive.proofs.Sound.{place_of, nothing_open, place_still, own_still, failure_still, writes_failed, writes_done, counts_home}
use Rattle.mq_drive.proofs.device.DevicePort.write_home.Goals as goal

own_home : (p : Device) (lba : ℕ) → (p.homes.first ≤ lba) × (lba < p.homes.first + p.homes.size) → IsWithin p.area.first p.area.size p.homes.first (length p.blocks.stored.items) lba
own_home p lba home =
    within_homes p.area.first p.area.size p.homes.first p.homes.size (length p.blocks.stored.items) lba p.sound.place.area_before p.sound.place.homes_end p.sound.place.sized home.0 home.1

pub returns-in_err-event-clause-gives : goal.returns-in_err-event-clause-gives
returns-in_err-event-clause-gives c =
    refused_home (device_state c.args.self.now) _ (device_faults c.args.self.now) _ c.args.lba c.args.block c.from_residual.result c.from_residual.ensures.0
    (inl (same_state (device_state c.args.self.now) (fuse_of c.event.new.self.seat) c.event.ensures.fuse))
    (off_gains c.args.self.now.power.offs c.event.new.self.offs (errors_of c.args.self.now.failure) c.event.ensures.range c.in_err-event.ensures.refused.1)

-- ---- the power goes off before the end

pub invariant_of-self-in-Err : goal.invariant_of-self-in-Err
invariant_of-self-in-Err c =
    let p = c.args.self.now in
    let w : HomeWrite = record { lba = c.args.lba; block = c.args.block } in
    let long : length c.begin.new.self.stored.items ≡ length p.blocks.stored.items = ap length c.begin.ensures.blocks in
    let own = own_home p c.args.lba c.requires in
    let in_doubt : get_or c.begin.new.self.certain.items (index_in p.area.first p.area.size p.homes.first c.args.lba) false ≡ false =
    ap (λ (k : ℕ). get_or c.begin.new.self.certain.items k false) (sym c.block_index-index.ensures)
    ∙ ap (λ (l : List Bool). get_or l c.block_index-index.result false) c.begin.ensures.certain
    ∙ false_at p.blocks.certain.items c.block_index-index.result in
    record {
      sound = record {
        place = place_still p (length c.begin.new.self.stored.items) long;
        slots = p.sound.slots;
        commands = p.sound.commands;
        words = p.sound.words;
        writes = record {
          pending_own = own_still p (length c.begin.new.self.stored.items) p.pending.items long p.sound.writes.pending_own;
          posted_own = own_still p (length c.begin.new.self.stored.items) p.posted.items long p.sound.writes.posted_own;
          failure_own = failure_still p (length c.begin.new.self.stored.items) long;
          failure_doubt = λ f is. subst (λ (o : Option ℕ). ForSome o (λ k. index_of (device_state p) (written_by f) ≡ k)) (sym c.begin.ensures.doubt) (p.sound.writes.failure_doubt f is);
          under_way_own = some_for w (λ (x : HomeWrite). IsBlock (place_of p) (length c.begin.new.self.stored.items) x.lba)
              (own.low, let index = own.index in omega (arith, index, long));
          under_way_doubt = some_for w (λ (x : HomeWrite). get_or c.begin.new.self.certain.items (index_in p.area.first p.area.size p.homes.first x.lba) false ≡ false) in_doubt;
        };
        counts = record {
          events_counted = happened-begin p.power.happened c.event-2.new.self.happened p.events p.begins c.bump-self.result p.power.offs p.under_way w p.sound.counts.under_way_last
              c.in_ok-event.ensures.first p.sound.counts.events_counted (c.in-Err.ensures.refused.0 ∙ c.in_ok-event.ensures.happens.0) c.bump-self.ensures;
          failure_counted = p.sound.counts.failure_counted;
          under_way_last = λ x is. let more = c.in-Err.ensures.refused.1 in omega (arith, more);
        };
      };
    }

pub returns-in-Err-clause-gives : goal.returns-in-Err-clause-gives
returns-in-Err-clause-gives c =
    let nothing : c.args.self.now.under_way ≡ None = nothing_open c.args.self.now c.in_ok-event.ensures.first in (
      inr (begun_home (device_state c.args.self.now) c.args.lba c.args.block (failed_of c.args.self.now.failure) (unended_of c.args.self.now.failure ++ record { lba = c.args.lba; block = c.args.block } ∷ [])
          c.begin.new.self.stored.items c.begin.new.self.certain.items c.bump-self.result (fuse_of c.event-2.new.self.seat) c.args.self.now.failing.named
          refl
          (begun_open c.args.self.now.failure c.args.self.now.under_way (record { lba = c.args.lba; block = c.args.block }) nothing)
          c.begin.ensures.blocks
          (c.begin.ensures.certain ∙ ap (λ (k : ℕ). set c.args.self.now.blocks.certain.items k false) c.block_index-index.ensures)
          c.bump-self.ensures (c.event-2.ensures.fuse ∙ c.event.ensures.fuse) refl),
      off_gains c.args.self.now.power.offs c.event-2.new.self.offs (errors_of c.args.self.now.failure) c.event.ensures.range
          (c.in-Err.ensures.refused.1 ∙ ap (λ (n : ℕ). counted n 1) c.in_ok-event.ensures.happens.1),
    )

-- ---- it ends with an error

pub invariant_of-self-then-next : goal.invariant_of-self-then-next
invariant_of-self-then-next c =
    let p = c.args.self.now in
    let w : HomeWrite = record { lba = c.args.lba; block = c.args.block } in
    let long : length c.fail.new.self.stored.items ≡ length p.blocks.stored.items = ap length (c.fail.ensures.blocks ∙ c.begin.ensures.blocks) in
    let own = own_home p c.args.lba c.requires in
    record {
      sound = record {
        place = place_still p (length c.fail.new.self.stored.items) long;
        slots = p.sound.slots;
        commands = p.sound.commands;
        words = p.sound.words;
        writes = writes_failed p p.posted.items c.fail.new.self.stored.items c.fail.new.self.certain.items c.fail.new.self.doubt (Home w) c.block_index-index.result c.in_ok-event.ensures.first
            long p.sound.writes.posted_own (own.low, own.index) c.fail.ensures.doubt c.block_index-index.ensures;
        counts = counts_home p c.event.new.self.happened c.event-2.new.self.happened c.bump-self.result c.event-2.new.self.offs c.next.new.self.failed (Some (Home w)) c.in_ok-event.ensures.first
            c.in_ok-event.ensures.happens.0 c.in_default.ensures.happens.0 c.bump-self.ensures (sym (c.next.ensures.fails c.if-next.true).1);
      };
    }

pub returns-then-next-clause-gives : goal.returns-then-next-clause-gives
returns-then-next-clause-gives c =
    let nothing : c.args.self.now.under_way ≡ None = nothing_open c.args.self.now c.in_ok-event.ensures.first in
    let none : c.args.self.now.failure ≡ None = none-of c.args.self.now.failure (c.args.self.now.sound.counts.failure_counted ∙ (c.next.ensures.fails c.if-next.true).0) in (
      λ zero. absurd (omega (arith, zero)),
      begun_home (device_state c.args.self.now) c.args.lba c.args.block [] (record { lba = c.args.lba; block = c.args.block } ∷ option_to_list c.args.self.now.under_way)
          c.fail.new.self.stored.items c.fail.new.self.certain.items c.bump-self.result (fuse_of c.event-2.new.self.seat) c.next.new.self.named
          (sym (ap failed_of none))
          (begun_failed c.args.self.now.failure c.args.self.now.under_way (record { lba = c.args.lba; block = c.args.block }) none nothing)
          (c.fail.ensures.blocks ∙ c.begin.ensures.blocks)
          (c.fail.ensures.certain ∙ ap (λ (l : List Bool). set l c.block_index-index.result false) c.begin.ensures.certain
          ∙ set-set c.args.self.now.blocks.certain.items c.block_index-index.result false false
          ∙ ap (λ (k : ℕ). set c.args.self.now.blocks.certain.items k false) c.block_index-index.ensures)
          c.bump-self.ensures (c.event-2.ensures.fuse ∙ c.event.ensures.fuse) c.next.ensures.named,
      error_gains c.args.self.now.power.offs c.event-2.new.self.offs c.args.self.now.failure (Some (Home (record { lba = c.args.lba; block = c.args.block }))) (HomeError c.args.lba 640)
          none refl (c.in_default.ensures.happens.1 ∙ c.in_ok-event.ensures.happens.1),
    )

-- ---- it ends with success

pub invariant_of-self-2 : goal.invariant_of-self-2
invariant_of-self-2 c =
    let p = c.args.self.now in
    let long : length c.complete.new.self.stored.items ≡ length p.blocks.stored.items =
    ap length c.complete.ensures.blocks ∙ length-set c.begin.new.self.stored.items c.block_index-index.result (Some c.args.block) ∙ ap length c.begin.ensures.blocks in
    record {
      sound = record {
        place = place_still p (length c.complete.new.self.stored.items) long;
        slots = p.sound.slots;
        commands = p.sound.commands;
        words = p.sound.words;
        writes = writes_done p p.posted.items c.complete.new.self.stored.items c.complete.new.self.certain.items c.complete.new.self.doubt c.block_index-index.result c.in_ok-event.ensures.first
            long p.sound.writes.posted_own (c.complete.ensures.doubt ∙ ap (λ (o : Option ℕ). doubt_after o c.block_index-index.result) c.begin.ensures.doubt);
        counts = counts_home p c.event.new.self.happened c.event-2.new.self.happened c.bump-self.result c.event-2.new.self.offs c.next.new.self.failed p.failure c.in_ok-event.ensures.first
            c.in_ok-event.ensures.happens.0 c.in_default.ensures.happens.0 c.bump-self.ensures (p.sound.counts.failure_counted ∙ sym (c.next.ensures.succeeds c.if-next.false));
      };
    }

-- ---- what it counts, and its tickets

pub returns-in_err-event-clause-counts : goal.returns-in_err-event-clause-counts
returns-in_err-event-clause-counts c = refused_home_counts (device_state c.args.self.now) (device_counts c.args.self.now) c.from_residual.result _ c.from_residual.ensures.0 refl

pub returns-in_err-event-clause-tickets : goal.returns-in_err-event-clause-tickets
returns-in_err-event-clause-tickets c =
    refused_home_tickets (device_state c.args.self.now).fuse.limit (device_tickets c.args.self.now) c.from_residual.result (tickets_of c.event.new.self.seat) c.from_residual.ensures.0 c.in_err-event.ensures.over

pub returns-in-Err-clause-tickets : goal.returns-in-Err-clause-tickets
returns-in-Err-clause-tickets c =
    inr (
      tickets_of c.event.new.self.seat,
      c.in_ok-event.ensures.ticket,
      subst (λ (f : FuseName). IsRefused f.limit (tickets_of c.event.new.self.seat) (tickets_of c.event-2.new.self.seat)) c.event.ensures.fuse c.in-Err.ensures.over,
    )

pub returns-then-next-clause-counts : goal.returns-then-next-clause-counts
returns-then-next-clause-counts c = (sym c.next.ensures.is ∙ c.if-next.true, refl, same_counts _ _ _ _ refl c.next.ensures.executed)

pub returns-then-next-clause-tickets : goal.returns-then-next-clause-tickets
returns-then-next-clause-tickets c = (
  tickets_of c.event.new.self.seat,
  c.in_ok-event.ensures.ticket,
  subst (λ (f : FuseName). Happens f.limit (tickets_of c.event.new.self.seat) (tickets_of c.event-2.new.self.seat)) c.event.ensures.fuse c.in_default.ensures.ticket,
)

pub returns-clause-counts : goal.returns-clause-counts
returns-clause-counts c = (sym c.next.ensures.is ∙ c.if-next.false, same_counts _ _ _ _ refl c.next.ensures.executed)

pub returns-clause-tickets : goal.returns-clause-tickets
returns-clause-tickets c = (
  tickets_of c.event.new.self.seat,
  c.in_ok-event.ensures.ticket,
  subst (λ (f : FuseName). Happens f.limit (tickets_of c.event.new.self.seat) (tickets_of c.event-2.new.self.seat)) c.event.ensures.fuse c.in_default.ensures.ticket,
)

-- ---- what is left to chance

pub returns-in_err-event-clause-chosen : goal.returns-in_err-event-clause-chosen
returns-in_err-event-clause-chosen c =
    refused_home_chosen (device_state c.args.self.now) _ (device_chance c.args.self.now) c.args.lba c.args.block c.from_residual.result c.from_residual.ensures.0
    (same_state (device_state c.args.self.now) (fuse_of c.event.new.self.seat) c.event.ensures.fuse)

pub returns-in-Err-clause-chosen : goal.returns-in-Err-clause-chosen
returns-in-Err-clause-chosen c =
    let p = c.args.self.now in
    let w : HomeWrite = record { lba = c.args.lba; block = c.args.block } in
    let nothing : p.under_way ≡ None = nothing_open p c.in_ok-event.ensures.first in
    inr (
      begun_home (device_state p) c.args.lba c.args.block (failed_of p.failure) (unended_of p.failure ++ w ∷ [])
          c.begin.new.self.stored.items c.begin.new.self.certain.items c.bump-self.result (fuse_of c.event-2.new.self.seat) p.failing.named
          refl (begun_open p.failure p.under_way w nothing) c.begin.ensures.blocks
          (c.begin.ensures.certain ∙ ap (λ (k : ℕ). set p.blocks.certain.items k false) c.block_index-index.ensures)
          c.bump-self.ensures (c.event-2.ensures.fuse ∙ c.event.ensures.fuse) refl,
      chance_open p.number p.order p.blocks.doubt c.begin.new.self.doubt p.failure p.under_way w nothing c.begin.ensures.doubt,
    )

pub returns-then-next-clause-chosen : goal.returns-then-next-clause-chosen
returns-then-next-clause-chosen c =
    let p = c.args.self.now in
    let nothing : p.under_way ≡ None = nothing_open p c.in_ok-event.ensures.first in
    let none : p.failure ≡ None = none-of p.failure (p.sound.counts.failure_counted ∙ (c.next.ensures.fails c.if-next.true).0) in
    chance_home p.number c.block_index-index.result p.order p.blocks.doubt c.fail.new.self.doubt p.failure p.under_way (record { lba = c.args.lba; block = c.args.block }) none nothing c.fail.ensures.doubt

pub returns-clause-chosen : goal.returns-clause-chosen
returns-clause-chosen c =
    let p = c.args.self.now in
    chance_done (device_state p) p.number p.order p.order p.blocks.doubt c.complete.new.self.doubt p.failure p.under_way c.args.lba
    p.sound.writes.failure_doubt (nothing_open p c.in_ok-event.ensures.first)
    (c.complete.ensures.doubt ∙ ap (λ (o : Option ℕ). doubt_after o c.block_index-index.result) c.begin.ensures.doubt ∙ ap (λ (k : ℕ). doubt_after p.blocks.doubt k) c.block_index-index.ensures) refl
