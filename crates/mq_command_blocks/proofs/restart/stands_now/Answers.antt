use Rattle.std.proofs.Common.{refl}
use Rattle.mq_command_blocks.proofs.RestartStanding.{stands_home}
use Rattle.mq_command_blocks.proofs.restart.stands_now.Goals as goal

pub returns-clause-stands : goal.returns-clause-stands
returns-clause-stands c = stands_home c.args.image c.in_ok-recovered.recovered c.in_ok-blocks.blocks.items c.in_ok-recovered.ensures.ok c.in_ok-blocks.ensures

pub returns-clause-chosen : goal.returns-clause-chosen
returns-clause-chosen c = record {
  r = c.in_ok-recovered.recovered;
  recovery = c.in_ok-recovered.ensures.ok;
  chosen = c.in_ok-recovered.ensures.chosen;
  prefix_is = refl;
  blocks = c.in_ok-blocks.ensures;
}
