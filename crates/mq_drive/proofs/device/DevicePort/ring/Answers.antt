use Rattle.mq_drive.proofs.Sound.{counts_event}
use Rattle.std.proofs.Common.{rules, ◌≡◌, ◌<◌, ◌≤◌, ◌+◌, ◌-◌, ℕ, suc, List, [], ◌∷◌, length, All, sym, ap, subst, arith}
use Rattle.std.proofs.lemmas.List.Elements.{All-append}
use Rattle.std.specs.VecDeque.{deque_len, deque_capacity}
use Rattle.mq_blocks.specs.Drive.{AreCounted}
use Rattle.mq_blocks.specs.Limits.{usable_depth}
use Rattle.mq_blocks.specs.declared.command.Command.{Command}
use Rattle.mq_drive.specs.declared.device.Device.{Device}
use Rattle.mq_drive.specs.Slots.{AreSettled, index_in}
use Rattle.mq_blocks.proofs.DriveCounts.{length-counted}
use Rattle.mq_drive.proofs.DriveCommands.{counted_ring}
use Rattle.mq_drive.specs.Failures.{errors_of}
use Rattle.mq_drive.proofs.StepsFaults.{refused}
use Rattle.mq_drive.proofs.device.DevicePort.ring.Goals as goal

abbrev IsOwn : Device → ℕ → Command → Type 0
IsOwn p n x = (p.area.first ≤ x.lba) × (index_in p.area.first p.area.size p.homes.first x.lba < n)

fit : (xs ys : List Command) (room head stored doorbell : ℕ) → usable_depth ≤ room → length xs ≤ doorbell - stored → head ≤ stored → (0 < length ys → doorbell + length ys - head ≤ usable_depth) → (0 < length ys → stored ≤ doorbell)
    → length xs ≤ room → length xs + length ys ≤ room
fit xs [] room head stored doorbell least few heads some order now = omega arith
fit xs (y ∷ ys) room head stored doorbell least few heads some order now =
    let a : doorbell + suc (length ys) - head ≤ usable_depth = some (omega arith) in
    let b : stored ≤ doorbell = order (omega arith) in
    omega arith

pub add_all-requires : goal.add_all-requires
add_all-requires c =
    let p = c.args.self.now in
    let few = length-counted p.stored_head p.doorbell p.posted.items p.sound.commands.posted_counted in
    let posted : deque_len p.posted ≡ length p.posted.items = search rules in
    let pending : deque_len p.pending ≡ length p.pending.items = search rules in
    let fits : length p.posted.items + length p.pending.items ≤ deque_capacity p.posted = fit p.posted.items p.pending.items (deque_capacity p.posted) p.head p.stored_head p.doorbell p.sound.commands.posted_room few p.sound.words.heads p.sound.commands.pending_few p.sound.commands.pending_order (search rules) in
    omega (arith, posted, pending, fits)

pub returns-in_err-event-clause-cause : goal.returns-in_err-event-clause-cause
returns-in_err-event-clause-cause c =
    refused c.from_residual.result c.args.self.now.power.offs c.event.new.self.offs (errors_of c.args.self.now.failure) c.from_residual.ensures.0 c.event.ensures.range c.in_err-event.ensures.refused.1

pub invariant_of-self-2 : goal.invariant_of-self-2
invariant_of-self-2 c =
    let p = c.args.self.now in
    let none : length c.add_all.new.more.items ≡ 0 = ap length c.add_all.ensures.more in
    let end : c.args.tail + length c.add_all.new.more.items ≡ p.doorbell + length p.pending.items = omega (arith, none, c.requires.tail) in
    let counted = counted_ring p.stored_head p.doorbell p.posted.items p.pending.items p.sound.commands.pending_order p.sound.commands.posted_counted p.sound.commands.pending_counted in
    let own = All-append (IsOwn p (length p.blocks.stored.items)) p.posted.items p.pending.items p.sound.writes.posted_own p.sound.writes.pending_own in
    record {
      sound = record {
        place = p.sound.place;
        slots = record {
          same_ring = p.sound.slots.same_ring;
          ring = p.sound.slots.ring;
          pending_ring = λ some. absurd (omega (arith, some, none));
          settled = subst (AreSettled p.flushed.items p.staged.items p.flushed_end) (sym end) p.sound.slots.settled;
          flushed_low = search rules;
          flushed_high = search rules;
        };
        commands = record {
          pending_room = search rules;
          posted_room = search rules;
          pending_few = λ some. absurd (omega (arith, some, none));
          pending_last = λ some. absurd (omega (arith, some, none));
          pending_order = λ some. absurd (omega (arith, some, none));
          pending_counted = search rules;
          posted_counted = subst (λ (n : ℕ). AreCounted p.stored_head n c.add_all.new.commands.items) (sym c.requires.tail)
              (subst (AreCounted p.stored_head (p.doorbell + length p.pending.items)) (sym c.add_all.ensures.items) counted);
        };
        words = record { heads = p.sound.words.heads; queue_base = p.sound.words.queue_base; root_words = search rules };
        writes = record {
          pending_own = search rules;
          posted_own = subst (λ (l : List Command). All (IsOwn p (length p.blocks.stored.items)) l) (sym c.add_all.ensures.items) own;
          failure_own = p.sound.writes.failure_own;
          failure_doubt = p.sound.writes.failure_doubt;
          under_way_own = p.sound.writes.under_way_own;
          under_way_doubt = p.sound.writes.under_way_doubt;
        };
        counts = counts_event p c.event.new.self.happened c.bump-self-2.result c.event.new.self.offs p.failing.failed p.failure c.in_ok-event.ensures.first c.in_ok-event.ensures.happens.0 c.bump-self-2.ensures p.sound.counts.failure_counted;
      };
    }
