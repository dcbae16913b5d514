-- The protocol of a queue of notices, by indexes alone.
use Rattle.std.specs.Prelude.{◌≡◌, ◌⊎◌, ◌↔◌, ◌+◌, ◌<◌, ℕ, suc, List, [], ◌∷◌, length, map}
use Rattle.mq_notices.specs.Rule.{IsQueued}
use Rattle.mq_notices.specs.declared.notice.Notice.{Notice}
use Rattle.mq_notices.specs.declared.rule.Log.{Log}

abbrev pub IsIn : ℕ → List ℕ → Type 0
IsIn n [] = ⊥
IsIn n (m ∷ ms) = (n ≡ m) ⊎ IsIn n ms

-- all are n or above
abbrev pub AreAbove : ℕ → List ℕ → Type 0
AreAbove n [] = Unit {0}
AreAbove n (m ∷ ms) = (n < suc m) × AreAbove n ms

-- each is above those before it
abbrev pub AreRising : List ℕ → Type 0
AreRising [] = Unit {0}
AreRising (m ∷ ms) = AreAbove (suc m) ms × AreRising ms

-- consecutive numbers from n on
abbrev pub AreFrom : ℕ → List ℕ → Type 0
AreFrom n [] = Unit {0}
AreFrom n (m ∷ ms) = (m ≡ n) × AreFrom (suc n) ms

abbrev pub indexes : List Notice → List ℕ
indexes xs = map (λ x. x.index) xs

-- The protocol, of the queue's notices, the number of the session's pushes, and the indexes that the session
-- and the helper took. The first index in the queue is `first`, or, where it is empty, the number of pushes.
pub record IsProtocol (items : List Notice) (pushes : ℕ) (mine theirs : List ℕ) : Type 0 where
  pub first : ℕ
  pub consecutive : AreFrom first (indexes items)
  pub ends : first + length items ≡ pushes
  pub mine_rises : AreRising mine
  pub theirs_rises : AreRising theirs
  pub apart : (n : ℕ) → IsIn n mine → IsIn n theirs → ⊥
  pub together : (n : ℕ) → (IsIn n mine ⊎ IsIn n theirs) ↔ (n < first)

-- Wherever the rule holds, the protocol does.
abbrev pub RulesAreProtocols : Type 0
RulesAreProtocols = (items : List Notice) (views : List Log) (h : IsQueued items views)
    → IsProtocol items (length h.pushed) (indexes h.mine) (indexes h.theirs)
