use Rattle.std.proofs.Common.{sym, subst}
use Rattle.std.proofs.lemmas.Result.{IfOk-weaker}
use Rattle.mq_loose_text.specs.Meaning.{after_line}
use Rattle.mq_loose_text.specs.declared.line.LooseLine.{LooseLine}
use Rattle.mq_loose_run.specs.Markings.{IsMarking, MarksCommit, MarksLine}
use Rattle.mq_loose_run.proofs.marks.mark_text_line.Goals as goal

pub returns-in-Commit : goal.returns-in-Commit
returns-in-Commit c =
    IfOk-weaker c.mark_commit.result (λ x. MarksCommit c.in-Commit.items c.args.set.now c.args.marking.now c.mark_commit.new.marking) (λ x. MarksLine c.args.line.now c.args.set.now c.args.marking.now c.mark_commit.new.marking)
    (λ x p h is. subst (λ (l : LooseLine). IsMarking c.args.set.now (after_line l h) c.mark_commit.new.marking) (sym c.in-Commit.is) (p h c.in-Commit.field-0 is))
    c.mark_commit.ensures
