use Rattle.std.proofs.Math.ListN.{length-set}
use Rattle.std.proofs.Common.{rules, ◌≡◌, ◌<◌, ℕ, Some, None, List, ◌++◌, length, replicate, refl, sym, ◌∙◌, ap, subst, arith, set, true, false}
use Rattle.rand_pcg.specs.Lcg.{Lcg}
use Rattle.std.specs.Option.{option_to_list}
use Rattle.std.specs.Prelude.{slice_get}
use Rattle.std.specs.List.{remove}
use Rattle.mq_nvme.specs.Completion.{status_of, identifier_of}
use Rattle.mq_nvme.proofs.CompletionCommands.{identifier_of-completion}
use Rattle.mq_blocks.specs.declared.command.Command.{Command}
use Rattle.mq_drive.specs.declared.device.Device.{Device}
use Rattle.mq_drive.specs.declared.failing.Failure.TheVariants.{Queued}
use Rattle.mq_drive.specs.Emu.{device_state, device_faults, device_chance, device_counts, device_tickets}
use Rattle.mq_drive.specs.Seats.{fuse_of, tickets_of}
use Rattle.mq_drive.specs.Failures.{errors_of}
use Rattle.mq_drive.specs.Steps.{PowerOff, CommandError, Gains}
use Rattle.mq_drive.specs.Choices.{chosen}
use Rattle.mq_drive.specs.Failures.{written_by}
use Rattle.mq_blocks.proofs.Options.{none-of}
use Rattle.mq_drive.proofs.Choices.{chance_done, chance_failed}
use Rattle.mq_drive.proofs.DriveCommands.{all_remove, all_at}
use Rattle.mq_drive.proofs.Emulated.{next_is, same_counts, refused_counts, refused_tickets, refused_chosen, fails_status, succeeds_status}
use Rattle.mq_drive.proofs.StepsFaults.{off_gains, refused_step, error_gains}
use Rattle.mq_drive.proofs.DriveMoves.{same_state, done_at, failed_at}
use Rattle.mq_drive.proofs.SlotsTearing.{IsOwn}
use Rattle.mq_drive.proofs.Sound.{AreOwn, nothing_open, place_still, commands_left, writes_failed, writes_done, counts_event}
use Rattle.std.specs.VecDeque.{deque_capacity}
use Rattle.mq_drive.proofs.device.DevicePort.step.Goals as goal

abbrev Own : Device → ℕ → Command → Type 0
Own p n x = IsOwn p.area.first p.area.size p.homes.first n x

own_at : (p : Device) (at : ℕ) (x : Command) → slice_get p.posted.items at ≡ Some x → Own p (length p.blocks.stored.items) x
own_at p at x is = all_at (Own p (length p.blocks.stored.items)) p.posted.items at x is p.sound.writes.posted_own

own_left : (p : Device) (at : ℕ) (left : List Command) → left ≡ remove p.posted.items at → AreOwn p (length p.blocks.stored.items) left
own_left p at left is = subst (AreOwn p (length p.blocks.stored.items)) (sym is) (all_remove (Own p (length p.blocks.stored.items)) at p.posted.items p.sound.writes.posted_own)

pub returns-in_err-event-clause-gives : goal.returns-in_err-event-clause-gives
returns-in_err-event-clause-gives c =
    let some : 0 < length c.args.self.now.posted.items = search rules in
    refused_step (device_state c.args.self.now) _ (device_faults c.args.self.now) _ c.from_residual.result c.from_residual.ensures.0
    (λ none. let zero_long : length c.args.self.now.posted.items ≡ 0 = ap length none in omega (arith, some, zero_long))
    (same_state (device_state c.args.self.now) (fuse_of c.event.new.self.seat) c.event.ensures.fuse)
    (off_gains c.args.self.now.power.offs c.event.new.self.offs (errors_of c.args.self.now.failure) c.event.ensures.range c.in_err-event.ensures.refused.1)

pub block_index-index-requires : goal.block_index-index-requires
block_index-index-requires c = record { low = (own_at c.args.self.now c.choose-at.result c.take_at-command.result c.take_at-command.ensures.item).0 }

pub fail-requires : goal.fail-requires
fail-requires c =
    let own = (own_at c.args.self.now c.choose-at.result c.take_at-command.result c.take_at-command.ensures.item).1 in
    let at = c.block_index-index.ensures in
    omega (arith, own, at)

pub complete-requires : goal.complete-requires
complete-requires c =
    let own = (own_at c.args.self.now c.choose-at.result c.take_at-command.result c.take_at-command.ensures.item).1 in
    let at = c.block_index-index.ensures in
    omega (arith, own, at)

pub invariant_of-self-then-next : goal.invariant_of-self-then-next
invariant_of-self-then-next c =
    let p = c.args.self.now in
    let long : length c.fail.new.self.stored.items ≡ length p.blocks.stored.items = ap length c.fail.ensures.blocks in
    record {
      sound = record {
        place = place_still p (length c.fail.new.self.stored.items) long;
        slots = p.sound.slots;
        commands = commands_left p c.choose-at.result (deque_capacity c.take_at-command.new.commands) c.take_at-command.new.commands.items c.take_at-command.ensures.capacity c.take_at-command.ensures.items;
        words = p.sound.words;
        writes = writes_failed p c.take_at-command.new.commands.items c.fail.new.self.stored.items c.fail.new.self.certain.items c.fail.new.self.doubt (Queued c.take_at-command.result) c.block_index-index.result c.in_ok-event.ensures.first
            long (own_left p c.choose-at.result c.take_at-command.new.commands.items c.take_at-command.ensures.items) (own_at p c.choose-at.result c.take_at-command.result c.take_at-command.ensures.item)
            c.fail.ensures.doubt c.block_index-index.ensures;
        counts = counts_event p c.event.new.self.happened c.bump-self-2.result c.event.new.self.offs c.next.new.self.failed (Some (Queued c.take_at-command.result)) c.in_ok-event.ensures.first
            c.in_ok-event.ensures.happens.0 c.bump-self-2.ensures (sym (c.next.ensures.fails c.if-next.true).1);
      };
    }

pub invariant_of-self-2 : goal.invariant_of-self-2
invariant_of-self-2 c =
    let p = c.args.self.now in
    let long : length c.complete.new.self.stored.items ≡ length p.blocks.stored.items =
    ap length c.complete.ensures.blocks ∙ length-set p.blocks.stored.items c.block_index-index.result (Some c.take_at-command.result.block) in
    record {
      sound = record {
        place = place_still p (length c.complete.new.self.stored.items) long;
        slots = p.sound.slots;
        commands = commands_left p c.choose-at.result (deque_capacity c.take_at-command.new.commands) c.take_at-command.new.commands.items c.take_at-command.ensures.capacity c.take_at-command.ensures.items;
        words = p.sound.words;
        writes = writes_done p c.take_at-command.new.commands.items c.complete.new.self.stored.items c.complete.new.self.certain.items c.complete.new.self.doubt c.block_index-index.result c.in_ok-event.ensures.first
            long (own_left p c.choose-at.result c.take_at-command.new.commands.items c.take_at-command.ensures.items) c.complete.ensures.doubt;
        counts = counts_event p c.event.new.self.happened c.bump-self-2.result c.event.new.self.offs c.next.new.self.failed p.failure c.in_ok-event.ensures.first
            c.in_ok-event.ensures.happens.0 c.bump-self-2.ensures (p.sound.counts.failure_counted ∙ sym (c.next.ensures.succeeds c.if-next.false));
      };
    }

pub returns-then-next-clause-gives : goal.returns-then-next-clause-gives
returns-then-next-clause-gives c =
    let status : status_of c.completion_of-completion.result ≡ 640 = c.completion_of-completion.ensures.status in
    let none : c.args.self.now.failure ≡ None = none-of c.args.self.now.failure (c.args.self.now.sound.counts.failure_counted ∙ (c.next.ensures.fails c.if-next.true).0) in
    record {
      at = c.choose-at.result;
      command = c.take_at-command.result;
      posted = c.take_at-command.ensures.item;
      identifier = ap identifier_of c.completion_of-completion.ensures.is ∙ identifier_of-completion _ (omega arith);
      success = λ good. absurd (omega (arith, good, status));
      error = λ bad. (
        failed_at (device_state c.args.self.now) c.choose-at.result c.take_at-command.result c.args.self.now.failure (option_to_list c.args.self.now.under_way)
            c.take_at-command.new.commands.items c.fail.new.self.stored.items c.fail.new.self.certain.items c.bump-self-2.result (fuse_of c.event.new.self.seat) c.next.new.self.named
            none refl refl c.take_at-command.ensures.items c.fail.ensures.blocks
            (c.fail.ensures.certain ∙ ap (λ (k : ℕ). set c.args.self.now.blocks.certain.items k false) c.block_index-index.ensures)
            c.bump-self-2.ensures c.event.ensures.fuse c.next.ensures.named,
        subst (λ (n : ℕ). Gains (CommandError c.take_at-command.result.tx n) (device_faults c.args.self.now) (replicate c.event.new.self.offs PowerOff ++ errors_of (Some (Queued c.take_at-command.result)))) (sym status)
            (error_gains c.args.self.now.power.offs c.event.new.self.offs c.args.self.now.failure (Some (Queued c.take_at-command.result)) (CommandError c.take_at-command.result.tx 640) none refl c.in_ok-event.ensures.happens.1),
      );
    }

pub returns-clause-gives : goal.returns-clause-gives
returns-clause-gives c =
    let success : status_of c.completion_of.result ≡ 0 = c.completion_of.ensures.status in
    record {
      at = c.choose-at.result;
      command = c.take_at-command.result;
      posted = c.take_at-command.ensures.item;
      identifier = ap identifier_of c.completion_of.ensures.is ∙ identifier_of-completion _ (omega arith);
      success = λ good. (
        done_at (device_state c.args.self.now) c.choose-at.result c.take_at-command.result
            c.take_at-command.new.commands.items c.complete.new.self.stored.items c.complete.new.self.certain.items c.bump-self-2.result (fuse_of c.event.new.self.seat) c.next.new.self.named
            c.take_at-command.ensures.items
            (c.complete.ensures.blocks ∙ ap (λ (k : ℕ). set c.args.self.now.blocks.stored.items k (Some c.take_at-command.result.block)) c.block_index-index.ensures)
            (c.complete.ensures.certain ∙ ap (λ (k : ℕ). set c.args.self.now.blocks.certain.items k true) c.block_index-index.ensures)
            c.bump-self-2.ensures c.event.ensures.fuse c.next.ensures.named,
        ap (λ (n : ℕ). replicate n PowerOff ++ errors_of c.args.self.now.failure) c.in_ok-event.ensures.happens.1,
      );
      error = λ bad. absurd (bad success);
    }

pub returns-in_err-event-clause-counts : goal.returns-in_err-event-clause-counts
returns-in_err-event-clause-counts c = refused_counts (device_state c.args.self.now) (device_counts c.args.self.now) c.from_residual.result _ c.from_residual.ensures.0 refl

pub returns-in_err-event-clause-tickets : goal.returns-in_err-event-clause-tickets
returns-in_err-event-clause-tickets c =
    refused_tickets (device_state c.args.self.now).fuse.limit (device_tickets c.args.self.now) c.from_residual.result (tickets_of c.event.new.self.seat) c.from_residual.ensures.0 c.in_err-event.ensures.over

pub returns-then-next-clause-counts : goal.returns-then-next-clause-counts
returns-then-next-clause-counts c = (
  next_is (device_state c.args.self.now) (device_counts c.args.self.now) c.completion_of-completion.result _ c.completion_of-completion.ensures.is (omega arith)
      refl c.args.self.now.sound.place.id_is c.phase_after.ensures.phase (fails_status (device_state c.args.self.now) c.args.self.now.failing.executed (sym c.next.ensures.is ∙ c.if-next.true)),
  same_counts _ _ _ _ c.bump-self.ensures c.next.ensures.executed,
)

pub returns-then-next-clause-tickets : goal.returns-then-next-clause-tickets
returns-then-next-clause-tickets c = c.in_ok-event.ensures.ticket

pub returns-clause-counts : goal.returns-clause-counts
returns-clause-counts c = (
  next_is (device_state c.args.self.now) (device_counts c.args.self.now) c.completion_of.result _ c.completion_of.ensures.is (omega arith)
      refl c.args.self.now.sound.place.id_is c.phase_after.ensures.phase (succeeds_status (device_state c.args.self.now) c.args.self.now.failing.executed (sym c.next.ensures.is ∙ c.if-next.false)),
  same_counts _ _ _ _ c.bump-self.ensures c.next.ensures.executed,
)

pub returns-clause-tickets : goal.returns-clause-tickets
returns-clause-tickets c = c.in_ok-event.ensures.ticket

-- ---- what is left to chance

pub returns-then-next-clause-chosen : goal.returns-then-next-clause-chosen
unfolding returns-then-next-clause-gives
returns-then-next-clause-chosen c =
    let p = c.args.self.now in
    let few : c.len.result ≡ length p.posted.items = search rules in
    let chose : ◌≡◌ {A = ℕ × Lcg} (c.choose-at.result, c.choose-at.new.rng) (chosen (length p.posted.items) p.order) = c.choose-at.ensures.chosen ∙ ap (λ (n : ℕ). chosen n p.order) few in
    let status : status_of c.completion_of-completion.result ≡ 640 = c.completion_of-completion.ensures.status in
    let none : p.failure ≡ None = none-of p.failure (p.sound.counts.failure_counted ∙ (c.next.ensures.fails c.if-next.true).0) in
    record {
      ends = returns-then-next-clause-gives c;
      at = ap (λ (x : ℕ × Lcg). x.0) chose;
      success = λ good. absurd (omega (arith, good, status));
      error = λ bad.
          chance_failed p.number c.block_index-index.result c.choose-at.new.rng (chosen (length p.posted.items) p.order).1 p.blocks.doubt c.fail.new.self.doubt p.failure p.under_way c.take_at-command.result
          none c.fail.ensures.doubt (ap (λ (x : ℕ × Lcg). x.1) chose);
    }

pub returns-clause-chosen : goal.returns-clause-chosen
unfolding returns-clause-gives
returns-clause-chosen c =
    let p = c.args.self.now in
    let few : c.len.result ≡ length p.posted.items = search rules in
    let chose : ◌≡◌ {A = ℕ × Lcg} (c.choose-at.result, c.choose-at.new.rng) (chosen (length p.posted.items) p.order) = c.choose-at.ensures.chosen ∙ ap (λ (n : ℕ). chosen n p.order) few in
    let success : status_of c.completion_of.result ≡ 0 = c.completion_of.ensures.status in
    record {
      ends = returns-clause-gives c;
      at = ap (λ (x : ℕ × Lcg). x.0) chose;
      success = λ good.
          chance_done (device_state p) p.number c.choose-at.new.rng (chosen (length p.posted.items) p.order).1 p.blocks.doubt c.complete.new.self.doubt p.failure p.under_way c.take_at-command.result.lba
          p.sound.writes.failure_doubt (nothing_open p c.in_ok-event.ensures.first)
          (c.complete.ensures.doubt ∙ ap (λ (k : ℕ). Rattle.mq_drive.specs.Failures.doubt_after p.blocks.doubt k) c.block_index-index.ensures) (ap (λ (x : ℕ × Lcg). x.1) chose);
      error = λ bad. absurd (bad success);
    }

pub returns-in_err-event-clause-chosen : goal.returns-in_err-event-clause-chosen
returns-in_err-event-clause-chosen c = refused_chosen (device_state c.args.self.now) _ (device_faults c.args.self.now) _ (device_chance c.args.self.now) c.from_residual.result c.from_residual.ensures.0
