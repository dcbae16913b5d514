use Rattle.std.proofs.Common.{Some}
use Rattle.mq_turns.specs.declared.rule.Notice.TheVariants as notice
use Rattle.mq_turns.proofs.desk.Desk.note_home.Given as goal

abbrev pub ghosts-note_home : goal.ghosts-note_home
ghosts-note_home g a = record { notice = Some (notice.Home a.block a.number) }
