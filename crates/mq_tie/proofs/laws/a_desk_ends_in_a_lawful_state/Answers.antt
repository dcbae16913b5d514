use Rattle.mq_tie.proofs.EndedParts.{ended_marks, ended_parts}
use Rattle.mq_tie.proofs.laws.a_desk_ends_in_a_lawful_state.Goals as goal

pub returns : goal.returns
returns g c = record {
  parts = λ K sides root acknowledged end. ended_parts g.J.JournalValues.values g.J.JournalValues.group K sides root acknowledged end;
  marks = λ K sides root acknowledged end undone. ended_marks g.J.JournalValues.values g.J.JournalValues.group K sides root acknowledged end undone;
}
