-- Bytes that are written over those of a file, in several of its blocks.
use Rattle.std.specs.Prelude.{◌≡◌, ◌≢◌, ◌≤◌, ◌<◌, ◌+◌, ◌-◌, ◌*◌, ◌/◌, ◌==◌, ◌⊎◌, ℕ, List, drop, length, max, min, slice_index, take, Some, if◌then◌else◌}
use Rattle.mq_inodes.specs.Changes.{Turns}
use Rattle.mq_inodes.specs.Pages.{Pages, kinds_of, pages_of}
use Rattle.mq_inodes.specs.declared.working.Working.{Working}
use Rattle.mq_blocks.specs.Windows.{written}
use Rattle.mq_pages.specs.declared.page.Kind.TheVariants.{Data}

-- no block stands twice
abbrev pub AreApart : List ℕ → Type 0
AreApart blocks =
    (j k : ℕ) → j < length blocks → k < length blocks → slice_index blocks j ≡ slice_index blocks k
    → j ≡ k

-- the place behind that of the last of `count` bytes at an offset
abbrev pub past_place : (at count : ℕ) → ℕ
past_place at count = if count == 0 then at / 4096 else (at + count + 4095) / 4096

-- the blocks at the places from the first on, and before another
abbrev pub blocks_at : List ℕ → (first past : ℕ) → List ℕ
blocks_at blocks first past = take (past - first) (drop first blocks)

-- where the bytes at an offset begin in the block at a place, and those of them that stand in it
abbrev pub text_from : (at place : ℕ) → ℕ
text_from at place = max at (4096 * place) - 4096 * place

abbrev pub text_in : (at : ℕ) → List ℕ → (place : ℕ) → List ℕ
text_in at bytes place =
    take (min (at + length bytes) (4096 * place + 4096) - max at (4096 * place))
    (drop (max at (4096 * place) - at) bytes)

-- The file has the bytes of a text at an offset, and is as before beside them.
pub record IsSplicedAt (at : ℕ) (text bytes now : List ℕ) : Type 0 where
  pub inside : (k : ℕ) → k < length text → slice_index now (at + k) ≡ slice_index text k
  pub outside : (k : ℕ) → (k < at) ⊎ (at + length text ≤ k) → slice_index now k ≡ slice_index bytes k

-- the block has its part of the bytes
pub record IsPartWritten (old new : Pages) (b at : ℕ) (bytes : List ℕ) (place : ℕ) : Type 0 where
  pub before : List ℕ
  pub after : List ℕ
  pub turns : Turns old new b before after
  pub is : after ≡ written before (text_from at place) (text_in at bytes place)

-- The blocks from that of the first byte on, and before a place, have their parts of the bytes.
pub record IsOverwritten (old new : Working) (blocks : List ℕ) (at : ℕ) (bytes : List ℕ)
    (past : ℕ) : Type 0 where
  pub parts : (place : ℕ) → at / 4096 ≤ place → place < past
      → IsPartWritten (pages_of old) (pages_of new) (slice_index blocks place) at bytes place
  pub kinds : (place : ℕ) → at / 4096 ≤ place → place < past
      → kinds_of new (slice_index blocks place) ≡ Some Data
  pub rest : (b : ℕ) → ((place : ℕ) → at / 4096 ≤ place → place < past → slice_index blocks place ≢ b)
      → pages_of new b ≡ pages_of old b
  pub kinds_rest : (b : ℕ)
      → ((place : ℕ) → at / 4096 ≤ place → place < past → slice_index blocks place ≢ b)
      → kinds_of new b ≡ kinds_of old b
