-- What is wrong with a bitmap.
use Rattle.std.specs.Prelude.{◌≡◌, ◌<◌, ℕ, Bool, true, false, List, if◌then◌else◌}
use Rattle.mq_layout.specs.Bits.{bit_of}
use Rattle.mq_tree.specs.declared.corrupt.CorruptCause.{CorruptCause}
use Rattle.mq_tree.specs.declared.corrupt.CorruptCause.TheVariants.{Unmarked, Unreached}

-- of the first bits, just those are set that are to be
abbrev pub AreRight : List ℕ → (is_used : ℕ → Bool) → (count : ℕ) → Type 0
AreRight block is_used count = (k : ℕ) → k < count → bit_of block k ≡ (if is_used k then 1 else 0)

-- all of them are set that are to be, and one more is
pub record HasMore (block : List ℕ) (is_used : ℕ → Bool) (count : ℕ) : Type 0 where
  pub all : (k : ℕ) → k < count → is_used k ≡ true → bit_of block k ≡ 1
  pub more : ℕ
  pub inside : more < count
  pub not_used : is_used more ≡ false
  pub set : bit_of block more ≡ 1

-- the first cause that they give: one that is clear comes before all that are set
pub data IsMarkCause (block : List ℕ) (is_used : ℕ → Bool) (count : ℕ) (cause : CorruptCause)
    : Type 0 where
  clear : (k : ℕ) → cause ≡ Unmarked → k < count → is_used k ≡ true → bit_of block k ≡ 0
      → IsMarkCause block is_used count cause
  more : cause ≡ Unreached → HasMore block is_used count → IsMarkCause block is_used count cause
