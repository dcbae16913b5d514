use Rattle.std.proofs.Common.{rules}
use Rattle.mq_drive.proofs.Sound.{counts_event}
use Rattle.mq_blocks.proofs.DriveCounts.{counted_from}
use Rattle.mq_drive.specs.Failures.{errors_of}
use Rattle.mq_drive.proofs.StepsFaults.{refused}
use Rattle.mq_drive.proofs.device.DevicePort.store_head.Goals as goal

pub returns-in_err-event-clause-cause : goal.returns-in_err-event-clause-cause
returns-in_err-event-clause-cause c =
    refused c.from_residual.result c.args.self.now.power.offs c.event.new.self.offs (errors_of c.args.self.now.failure) c.from_residual.ensures.0 c.event.ensures.range c.in_err-event.ensures.refused.1

pub invariant_of-self-2 : goal.invariant_of-self-2
invariant_of-self-2 c =
    let p = c.args.self.now in
    record {
      sound = record {
        place = p.sound.place;
        slots = p.sound.slots;
        commands = record {
          pending_room = p.sound.commands.pending_room;
          posted_room = p.sound.commands.posted_room;
          pending_few = p.sound.commands.pending_few;
          pending_last = p.sound.commands.pending_last;
          pending_order = λ some. c.requires.high;
          pending_counted = p.sound.commands.pending_counted;
          posted_counted = counted_from p.stored_head p.doorbell c.args.head p.posted.items c.requires.posted p.sound.commands.posted_counted;
        };
        words = record { heads = c.requires.low; queue_base = p.sound.words.queue_base; root_words = search rules };
        writes = p.sound.writes;
        counts = counts_event p c.event.new.self.happened c.bump-self.result c.event.new.self.offs p.failing.failed p.failure c.in_ok-event.ensures.first c.in_ok-event.ensures.happens.0 c.bump-self.ensures p.sound.counts.failure_counted;
      };
    }
