use Rattle.std.proofs.Common.{Some}
use Rattle.mq_turns.specs.declared.rule.Notice.TheVariants as notice
use Rattle.mq_turns.proofs.desk.Desk.note_page.Given as goal

abbrev pub ghosts-note_page : goal.ghosts-note_page
ghosts-note_page g a = record { notice = Some (notice.Page a.block a.page.now) }
