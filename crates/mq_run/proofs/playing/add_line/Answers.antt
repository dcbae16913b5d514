use Rattle.std.proofs.Common.{◌≡◌, [], ◌∷◌, ap, refl, rules}
use Rattle.std.specs.Prelude.{false}
use Rattle.mq_report.specs.declared.line.Line.{Line}
use Rattle.mq_script.specs.Scripts.{Group}
use Rattle.mq_run.proofs.PlayingGroups.{read-line}
use Rattle.mq_run.proofs.playing.add_line.Goals as goal

pub returns-then-not-answer-clause-read : goal.returns-then-not-answer-clause-read
returns-then-not-answer-clause-read c =
    let a = c.in-Ok.answer in
    let line : Line = record { number = a.at; commit = false; session = c.session.inside.0; group = c.args.index; end = c.group.inside.end; replies = a.replies.items } in
    let none : a.drew ≡ false = search rules in (
      line ∷ [],
      read-line c.args.session c.args.index c.args.group.now.end c.args.answer a line c.in-Ok.is none (record {
        number = refl;
        commit = refl;
        session_is = search rules;
        group = refl;
        end_is = ap (λ (x : Group). x.end) c.group.view_is;
        replies_are = refl;
      }),
      c.push_reserved.ensures.items,
    )
