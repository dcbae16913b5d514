-- A whole transaction.
use Rattle.std.proofs.Common.{◌≡◌, ℕ, ◌+◌, [], ◌∷◌, ◌++◌, length, sym, ◌∙◌, ap, subst}
use Rattle.mq_blocks.specs.Drive.{PortState, IsQuiescent, index_of, staged_end, after_flush, after_ring}
use Rattle.mq_pmr.specs.Runs.{Items, commands_of, after_some}
use Rattle.mq_command_blocks.specs.Runs.{IsApart, AreApart, IsNewIn, AreDistinct}
use Rattle.mq_pmr.proofs.Runs.{length-commands}

apart_from : (at : ℕ → ℕ) (tx n k : ℕ) (items : Items) → IsNewIn at k items → IsApart at k (commands_of tx n (length items) items)
apart_from at tx n k [] new = tt
apart_from at tx n k (i ∷ is) new = (new.0, apart_from at tx (n + 1) k is new.1)

pub apart_commands : (at : ℕ → ℕ) (tx n : ℕ) (items : Items) → AreDistinct at items → AreApart at (commands_of tx n (length items) items)
apart_commands at tx n [] distinct = tt
apart_commands at tx n (i ∷ is) distinct = (apart_from at tx (n + 1) (at i.0) is distinct.0, apart_commands at tx (n + 1) is distinct.1)

pub apart_posted : (s t : PortState) (tx : ℕ) (items : Items) → IsQuiescent s → AreDistinct (index_of s) items → t ≡ after_ring (after_flush (after_some s tx (length items) items)) → AreApart (index_of t) t.posted
apart_posted s t tx items quiet distinct is =
    let posted : s.posted ++ (s.pending ++ commands_of tx (staged_end s) (length items) items) ≡ commands_of tx (staged_end s) (length items) items =
    (λ i. quiet.posted i ++ (quiet.pending i ++ commands_of tx (staged_end s) (length items) items)) in
    subst (λ (u : PortState). AreApart (index_of u) u.posted) (sym is)
    (subst (AreApart (index_of s)) (sym posted) (apart_commands (index_of s) tx (staged_end s) items distinct))

pub staged_all : (s : PortState) (tx : ℕ) (items : Items) → IsQuiescent s → staged_end (after_some s tx (length items) items) ≡ s.doorbell + length items
staged_all s tx items quiet =
    (λ i. s.doorbell + length (quiet.pending i ++ commands_of tx (staged_end s) (length items) items))
    ∙ ap (λ (n : ℕ). s.doorbell + n) (length-commands tx (staged_end s) items)
