use Rattle.std.proofs.Common.{ℕ, ◌∷◌, subst, sym}
use Rattle.mq_queue_side.specs.Commits.{commit_of, items_of}
use Rattle.mq_queue_side.specs.Sent.{AreItems}
use Rattle.mq_queue_side.proofs.CountsSides.{drawn_counts}
use Rattle.mq_queue_side.proofs.SideDraws.{drawn, others_drawn, fitting}
use Rattle.mq_queue_side.proofs.CommitsItems.{items_are}
use Rattle.mq_queue_side.proofs.Stored.{numbering}
use Rattle.mq_queue_side.proofs.laws.a_draw_keeps_sides.Goals as goal

pub returns-clause-fitting : goal.returns-clause-fitting
returns-clause-fitting c = fitting

pub returns-clause-numbering : goal.returns-clause-numbering
returns-clause-numbering c = numbering

pub returns-clause-own : goal.returns-clause-own
returns-clause-own c = drawn

pub returns-clause-others : goal.returns-clause-others
returns-clause-others c = others_drawn

pub returns-clause-counts : goal.returns-clause-counts
returns-clause-counts c = drawn_counts

pub returns-clause-items : goal.returns-clause-items
returns-clause-items c k t us s rung = subst (λ (n : ℕ). AreItems k.entries.form k.geometry t.queue (k.from t.queue) (t ∷ us) t.number n (items_of k.geometry (commit_of k.entries.form t us))) (sym rung) (items_are k.entries.form k.geometry (k.from t.queue) t us)
