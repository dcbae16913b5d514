use Rattle.std.proofs.Common.{Some}
use Rattle.mq_turns.specs.declared.rule.Notice.TheVariants as notice
use Rattle.mq_turns.proofs.desk.Desk.front.Given as goal

abbrev pub ghosts-note_front : goal.ghosts-note_front
ghosts-note_front g a = record { notice = Some (notice.Front a.front) }
