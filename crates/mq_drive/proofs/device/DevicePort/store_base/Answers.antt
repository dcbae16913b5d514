use Rattle.std.proofs.Common.{rules}
use Rattle.mq_drive.proofs.Sound.{counts_event}
use Rattle.mq_drive.specs.Failures.{errors_of}
use Rattle.mq_drive.proofs.StepsFaults.{refused}
use Rattle.mq_drive.proofs.device.DevicePort.store_base.Goals as goal

pub returns-in_err-event-clause-cause : goal.returns-in_err-event-clause-cause
returns-in_err-event-clause-cause c =
    refused c.from_residual.result c.args.self.now.power.offs c.event.new.self.offs (errors_of c.args.self.now.failure) c.from_residual.ensures.0 c.event.ensures.range c.in_err-event.ensures.refused.1

pub invariant_of-self-2 : goal.invariant_of-self-2
invariant_of-self-2 c =
    let p = c.args.self.now in
    record {
      sound = record {
        place = p.sound.place;
        slots = p.sound.slots;
        commands = p.sound.commands;
        words = record { heads = p.sound.words.heads; queue_base = search rules; root_words = p.sound.words.root_words };
        writes = p.sound.writes;
        counts = counts_event p c.event.new.self.happened c.bump-self.result c.event.new.self.offs p.failing.failed p.failure c.in_ok-event.ensures.first c.in_ok-event.ensures.happens.0 c.bump-self.ensures p.sound.counts.failure_counted;
      };
    }
