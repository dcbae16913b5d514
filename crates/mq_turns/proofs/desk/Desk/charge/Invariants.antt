use Rattle.std.proofs.Common.{Some}
use Rattle.mq_turns.specs.declared.rule.Notice.TheVariants as notice
use Rattle.mq_turns.proofs.desk.Desk.charge.Given as goal

abbrev pub ghosts-charge : goal.ghosts-charge
ghosts-charge g a = record { notice = Some (notice.Charge a.charge.now) }
