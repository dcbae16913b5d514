-- Dependence of transactions through the blocks that they write or free, and sets of numbers that are
-- closed under it.
use Rattle.std.specs.Prelude.{◌≡◌, ℕ, Bool, true, ◌&&◌, List, [], ◌∷◌, ◌++◌, nat_eq, nat_le, if◌then◌else◌}
use Rattle.mq_blocks.specs.Journal.{is_among}
use Rattle.mq_ledger.specs.History.{blocks_of, last, IsAt}
use Rattle.mq_ledger.specs.declared.tx.Tx.{Tx}
use Rattle.mq_loose_order.specs.Rising.{with_number}

-- the blocks that it writes or frees, where it writes none directly
abbrev pub touched : Tx → List ℕ
touched t = blocks_of t.logged ++ t.freed

-- with this number, if it is above the base
abbrev pub with_last : ℕ → ℕ → List ℕ → List ℕ
with_last base n ns = if nat_le n base then ns else with_number n ns

-- of each of these blocks, the last number above the base that changed it
abbrev pub last_of_each : ℕ → List ℕ → List Tx → List ℕ
last_of_each base [] ts = []
last_of_each base (x ∷ xs) ts = with_last base (last base ts x) (last_of_each base xs ts)

-- the numbers on which a transaction depends, where these stand before it: they rise, and none stands twice
abbrev pub depends_on : ℕ → Tx → List Tx → List ℕ
depends_on base t ts = last_of_each base (touched t) ts

-- those on which the transaction of a number depends
abbrev pub deps_of : ℕ → List Tx → ℕ → List ℕ
deps_of base [] n = []
deps_of base (t ∷ ts) n = if nat_eq n t.number then depends_on base t ts else deps_of base ts n

-- with each number of the history the set has all on which that depends
pub record IsClosed (base : ℕ) (h : List Tx) (S : ℕ → Bool) : Type 0 where
  pub each : (t : Tx) (ts : List Tx) (n : ℕ) → IsAt t ts h → S t.number ≡ true
      → is_among n (depends_on base t ts) ≡ true → S n ≡ true

abbrev pub all_in : (ℕ → Bool) → List ℕ → Bool
all_in S [] = true
all_in S (n ∷ ns) = S n && all_in S ns

-- Of the transactions that pass a test, those that depend, step by step, on such alone. All numbers up to
-- the base are among them, and none above the newest.
abbrev pub closure : (Tx → List Tx → Bool) → ℕ → List Tx → ℕ → Bool
closure has base [] n = nat_le n base
closure has base (t ∷ ts) n =
    if nat_eq n t.number then has t ts && all_in (λ m. closure has base ts m) (depends_on base t ts)
    else closure has base ts n

-- the transactions of a set of numbers, the newest first
abbrev pub kept : (ℕ → Bool) → List Tx → List Tx
kept S [] = []
kept S (t ∷ ts) = if S t.number then t ∷ kept S ts else kept S ts
