use Rattle.std.proofs.Common.{◌≡◌, take, drop}
use Rattle.std.specs.Prelude.{map}
use Rattle.mq_audit.specs.Lists.{cut_by}
use Rattle.mq_audit.proofs.ListsReading.{put_before}
use Rattle.mq_audit.proofs.lists.cut_words.Given as goal

-- the word is none of those so far
abbrev pub invariant-loop-at : goal.invariant-loop-at
invariant-loop-at l = cut_by l.word (map (λ w. w.now) l.words) ≡ put_before (map (λ w. w.now) (take l.at l.words)) (cut_by l.word (map (λ w. w.now) (drop l.at l.words)))
