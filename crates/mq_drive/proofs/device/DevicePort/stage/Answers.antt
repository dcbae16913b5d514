use Rattle.mq_drive.proofs.Sound.{counts_event}
use Rattle.std.proofs.Common.{rules, ◌≡◌, ◌<◌, ◌≤◌, ◌+◌, ◌%◌, ◌^◌, ℕ, List, [], ◌∷◌, ◌++◌, length, All, sym, ◌∙◌, ap, subst, arith, length-append, set}
use Rattle.std.proofs.lemmas.List.Elements.{All-append, All-cons}
use Rattle.mq_nvme.specs.Entry.{lba_of}
use Rattle.mq_nvme.proofs.EntryRequests.{lba_of-entry}
use Rattle.mq_blocks.specs.Drive.{AreCounted}
use Rattle.mq_blocks.specs.Limits.{depth}
use Rattle.mq_blocks.specs.declared.command.Command.{Command}
use Rattle.mq_drive.specs.declared.device.Device.{Device}
use Rattle.mq_drive.specs.Slots.{AreSettled, index_in}
use Rattle.mq_drive.proofs.SlotsOwned.{within}
use Rattle.mq_drive.proofs.Slots.{settled_stage}
use Rattle.mq_drive.proofs.DriveCommands.{counted_one}
use Rattle.mq_drive.specs.Failures.{errors_of}
use Rattle.mq_drive.proofs.StepsFaults.{refused}
use Rattle.mq_drive.proofs.device.DevicePort.stage.Goals as goal

abbrev IsOwn : Device → ℕ → Command → Type 0
IsOwn p n x = (p.area.first ≤ x.lba) × (index_in p.area.first p.area.size p.homes.first x.lba < n)

pub overflow_cast-command : goal.overflow_cast-command
overflow_cast-command c =
    let p = c.args.self.now in
    let lba : c.lba.result ≡ c.requires.write.request.lba = c.lba.ensures ∙ ap lba_of c.requires.write.write.is ∙ lba_of-entry c.requires.write.request in
    let inside = within p.area.first p.area.size p.homes.first p.homes.size (length p.blocks.stored.items) c.requires.write.request.lba p.sound.place.area_before p.sound.place.homes_end p.sound.place.sized c.requires.write.own in
    let small : c.lba.result < 2 ^ 32 = omega (arith, lba, inside.small) in
    search (rules, small)

pub invariant_of-command : goal.invariant_of-command
invariant_of-command c =
    let p = c.args.self.now in
    let lba : c.lba.result ≡ c.requires.write.request.lba = c.lba.ensures ∙ ap lba_of c.requires.write.write.is ∙ lba_of-entry c.requires.write.request in
    let inside = within p.area.first p.area.size p.homes.first p.homes.size (length p.blocks.stored.items) c.requires.write.request.lba p.sound.place.area_before p.sound.place.homes_end p.sound.place.sized c.requires.write.own in
    omega (arith, lba, inside.small)

more : (xs ys : List Command) (x : Command) → ys ≡ xs ++ x ∷ [] → length ys ≡ length xs + 1
more xs ys x is = ap length is ∙ length-append xs (x ∷ [])

pub returns-in_err-event-clause-cause : goal.returns-in_err-event-clause-cause
returns-in_err-event-clause-cause c =
    refused c.from_residual.result c.args.self.now.power.offs c.event.new.self.offs (errors_of c.args.self.now.failure) c.from_residual.ensures.0 c.event.ensures.range c.in_err-event.ensures.refused.1

pub invariant_of-self-2 : goal.invariant_of-self-2
invariant_of-self-2 c =
    let p = c.args.self.now in
    let lba : c.lba.result ≡ c.requires.write.request.lba = c.lba.ensures ∙ ap lba_of c.requires.write.write.is ∙ lba_of-entry c.requires.write.request in
    let inside = within p.area.first p.area.size p.homes.first p.homes.size (length p.blocks.stored.items) c.requires.write.request.lba p.sound.place.area_before p.sound.place.homes_end p.sound.place.sized c.requires.write.own in
    let own : (p.area.first ≤ c.lba.result) × (index_in p.area.first p.area.size p.homes.first c.lba.result < length p.blocks.stored.items) =
    subst (λ (n : ℕ). (p.area.first ≤ n) × (index_in p.area.first p.area.size p.homes.first n < length p.blocks.stored.items)) (sym lba) (inside.low, inside.index) in
    let end : ℕ = p.doorbell + length p.pending.items in
    let one : length c.add.new.commands.items ≡ length p.pending.items + 1 = more p.pending.items c.add.new.commands.items _ c.add.ensures.items in
    let next : p.doorbell + length c.add.new.commands.items ≡ end + 1 = omega (arith, one) in
    let staged : c.put_slot.new.slots.items ≡ set p.staged.items (end % depth) c.args.entry =
    c.put_slot.ensures ∙ ap (λ (n : ℕ). set p.staged.items (n % depth) c.args.entry) c.requires.next in
    let settled = settled_stage p.flushed.items p.staged.items p.flushed_end end c.args.entry p.sound.slots.flushed_high p.sound.slots.settled in
    let counted = counted_one p.doorbell end p.pending.items _ (omega arith) c.requires.next p.sound.commands.pending_counted in
    record {
      sound = record {
        place = p.sound.place;
        slots = record {
          same_ring = search rules;
          ring = search rules;
          pending_ring = search rules;
          settled = subst (λ (n : ℕ). AreSettled p.flushed.items c.put_slot.new.slots.items p.flushed_end n) (sym next)
              (subst (λ (l : List (List ℕ)). AreSettled p.flushed.items l p.flushed_end (end + 1)) (sym staged) settled);
          flushed_low = p.sound.slots.flushed_low;
          flushed_high = search rules;
        };
        commands = record {
          pending_room = search rules;
          posted_room = p.sound.commands.posted_room;
          pending_few = search rules;
          pending_last = search rules;
          pending_order = λ some. c.requires.order;
          pending_counted = subst (λ (n : ℕ). AreCounted p.doorbell n c.add.new.commands.items) (sym next)
              (subst (λ (l : List Command). AreCounted p.doorbell (end + 1) l) (sym c.add.ensures.items) counted);
          posted_counted = p.sound.commands.posted_counted;
        };
        words = p.sound.words;
        writes = record {
          pending_own = subst (λ (l : List Command). All (IsOwn p (length p.blocks.stored.items)) l) (sym c.add.ensures.items)
              (All-append (IsOwn p (length p.blocks.stored.items)) p.pending.items (_ ∷ []) p.sound.writes.pending_own (All-cons (IsOwn p (length p.blocks.stored.items)) _ [] own (λ k d less. absurd (omega arith))));
          posted_own = p.sound.writes.posted_own;
          failure_own = p.sound.writes.failure_own;
          failure_doubt = p.sound.writes.failure_doubt;
          under_way_own = p.sound.writes.under_way_own;
          under_way_doubt = p.sound.writes.under_way_doubt;
        };
        counts = counts_event p c.event.new.self.happened c.bump-self.result c.event.new.self.offs p.failing.failed p.failure c.in_ok-event.ensures.first c.in_ok-event.ensures.happens.0 c.bump-self.ensures p.sound.counts.failure_counted;
      };
    }
