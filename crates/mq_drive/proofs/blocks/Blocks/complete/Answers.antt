use Rattle.std.proofs.Common.{sym, ◌∙◌}
use Rattle.mq_drive.proofs.Doubts.{doubt_complete, none_eq}
use Rattle.mq_drive.proofs.Choices.{doubt_ended, doubt_kept}
use Rattle.mq_drive.proofs.blocks.Blocks.complete.Goals as goal

pub invariant_of-self-else-eq-clause-doubtful : goal.invariant_of-self-else-eq-clause-doubtful
invariant_of-self-else-eq-clause-doubtful c =
    doubt_complete c.args.self.now.doubt c.args.self.now.certain.items c.put_flag.new.flags.items c.args.k c.put_flag.ensures (none_eq c.args.self.now.doubt c.args.k (sym c.if-eq.false ∙ c.eq.ensures)) c.args.self.now.doubtful

pub returns-then-eq-clause-doubt : goal.returns-then-eq-clause-doubt
returns-then-eq-clause-doubt c = doubt_ended c.args.self.now.doubt c.args.k (sym c.if-eq.true ∙ c.eq.ensures)

pub returns-else-eq-clause-doubt : goal.returns-else-eq-clause-doubt
returns-else-eq-clause-doubt c = doubt_kept c.args.self.now.doubt c.args.k (sym c.if-eq.false ∙ c.eq.ensures)
