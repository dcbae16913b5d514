-- Ports on which nothing is under way.
use Rattle.std.proofs.Common.{◌≡◌, ◌⊎◌, ⊎_elim, ℕ, length, ◌∙◌, ap, arith}
use Rattle.mq_blocks.specs.Drive.{PortState, IsQuiescent, IsFlushed}

-- each slot of a quiet port is flushed
pub quiet-flushed : (s : PortState) (k : ℕ) → IsQuiescent s → IsFlushed s k
quiet-flushed s k quiet c low high at =
    let none : length s.pending ≡ 0 = ap length quiet.pending in
    let end = quiet.flushed_end in
    omega arith

-- a quiet port's words are one each
pub head-of : (n : ℕ) (s : PortState) → IsQuiescent s → (n ≡ s.head) ⊎ (n ≡ s.stored_head) → n ≡ s.head
head-of n s quiet is = ⊎_elim (λ h. h) (λ h. h ∙ quiet.head) is

pub base-of : (n : ℕ) (s : PortState) → IsQuiescent s → (n ≡ s.base) ⊎ (n ≡ s.stored_base) → n ≡ s.base
base-of n s quiet is = ⊎_elim (λ h. h) (λ h. h ∙ quiet.base) is
