-- What a queue's ring holds, as bytes: the transactions that are rung and not done, the one that is staged,
-- and what stands before the head.
use Rattle.std.specs.Prelude.{◌≡◌, ◌<◌, ◌≤◌, ℕ, ◌+◌, ◌-◌, ◌%◌, Bool, true, false, List, [], ◌∷◌, Option, Some, None, nat_eq}
use Rattle.std.specs.Coded.{×_prop, Π_prop, →_prop, Unit-prop, Coded-set, coded_list, coded_ℕ}
use Rattle.mq_blocks.specs.Drive.{PortState, IsFlushed, staged_end}
use Rattle.mq_blocks.specs.Limits.{depth}
use Rattle.mq_nvme.specs.Entry.{entry_of, tx_of, lba_of}
use Rattle.mq_pmr.specs.Rungs.{last_end}
use Rattle.mq_pmr.specs.Written.{bytes_at}
use Rattle.mq_pmr.specs.declared.rungs.Rung.{Rung}

-- the slot of a count holds a request of this transaction: its commit request, or another
abbrev pub IsRequestAt : List (List ℕ) → ℕ → ℕ → Bool → Type 0
IsRequestAt slots tx n commit =
    bytes_at slots n
    ≡ entry_of record { tx = tx; slot = n % depth; lba = lba_of (bytes_at slots n); commit = commit }

-- a transaction ends there: its commit request stands before this count
abbrev pub HasCommit : List (List ℕ) → ℕ → Type 0
HasCommit slots end = IsRequestAt slots (tx_of (bytes_at slots (end - 1))) (end - 1) true

-- from a count up to its end stand a transaction's requests, of which the last is its commit request
abbrev pub IsWhole : List (List ℕ) → ℕ → Rung → Type 0
IsWhole slots low t = (n : ℕ) → low ≤ n → n < t.end → IsRequestAt slots t.tx n (nat_eq (n + 1) t.end)

-- transactions one after another, from a count on
abbrev pub AreWhole : List (List ℕ) → ℕ → List Rung → Type 0
AreWhole slots low [] = Unit {0}
AreWhole slots low (t ∷ ts) = IsWhole slots low t × AreWhole slots t.end ts

pub AreWhole-prop : (slots : List (List ℕ)) (low : ℕ) (ts : List Rung) → IsProp (AreWhole slots low ts)
AreWhole-prop slots low [] = Unit-prop
AreWhole-prop slots low (t ∷ ts) =
    ×_prop (Π_prop (λ (n : ℕ). →_prop (→_prop (one n)))) (AreWhole-prop slots t.end ts)
  where
    one : (n : ℕ) → IsProp (IsRequestAt slots t.tx n (nat_eq (n + 1) t.end))
    one n = Coded-set (coded_list coded_ℕ) (bytes_at slots n) _

-- what is staged and not rung are requests of this transaction
abbrev pub AreOf : PortState → ℕ → Type 0
AreOf s tx = (n : ℕ) → s.doorbell ≤ n → n < staged_end s → tx_of (bytes_at s.staged n) ≡ tx

-- the slots from the one before the head up to the doorbell are flushed: each image has their bytes
abbrev pub AreCertain : PortState → Type 0
AreCertain s =
    (n : ℕ) → s.head ≤ n + 1 → n < s.doorbell
    → IsFlushed s (n % depth) × (bytes_at s.flushed n ≡ bytes_at s.staged n)

-- the slot before the flushed head keeps its bytes
abbrev pub KeepsBefore : PortState → PortState → Type 0
KeepsBefore old new =
    0 < old.head → bytes_at new.flushed (old.head - 1) ≡ bytes_at old.flushed (old.head - 1)

-- What a ring holds beside the transactions that are rung and not done, where `o` is the port as the queue
-- was opened over it.
pub record IsHeld (o s : PortState) (last : Rung) (ts : List Rung) (whole : Option ℕ) : Type 0 where
  -- what is rung is flushed, and ends at the doorbell
  pub flushed : s.doorbell ≤ s.flushed_end
  pub rung : last_end last.end ts ≡ s.doorbell
  -- while the head stands where it was, the slot before it holds what it held
  pub low : o.doorbell ≤ s.head
  pub start : 0 < o.doorbell → s.head ≡ o.doorbell
      → bytes_at s.flushed (o.doorbell - 1) ≡ bytes_at o.flushed (o.doorbell - 1)
  -- later heads, and later doorbells, stand at ends of transactions
  pub head : o.doorbell < s.head → HasCommit s.flushed s.head
  pub stored_head : o.doorbell < s.stored_head → HasCommit s.flushed s.stored_head
  pub doorbell : o.doorbell < s.doorbell → HasCommit s.flushed s.doorbell
  pub done : o.doorbell < last.end → IsRequestAt s.flushed last.tx (last.end - 1) true
  -- a transaction that is staged whole, and a part of one, which has no commit request
  pub staged : (tx : ℕ) → whole ≡ Some tx
      → IsWhole s.staged s.doorbell (record { tx = tx; end = staged_end s })
  pub begun : whole ≡ None → (n : ℕ) → s.doorbell ≤ n → n < staged_end s
      → IsRequestAt s.staged (tx_of (bytes_at s.staged s.doorbell)) n false
