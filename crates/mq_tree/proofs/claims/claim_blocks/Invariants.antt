use Rattle.mq_tree.proofs.DecodedClaiming.{Claims}
use Rattle.mq_tree.proofs.claims.claim_blocks.Given as goal

abbrev pub invariant-loop-i : goal.invariant-loop-i
invariant-loop-i l = Claims l.fn.geometry l.blocks l.uses.used.items l.uses.twice l.i 0

abbrev pub invariant-loop-place : goal.invariant-loop-place
invariant-loop-place l = Claims l.fn.geometry l.blocks l.uses.used.items l.uses.twice l.i l.place
