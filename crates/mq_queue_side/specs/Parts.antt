-- The parts of a commit, as the calls build them.
use Rattle.std.specs.Prelude.{◌≡◌, ◌<◌, ◌≤◌, ℕ, ◌+◌, ◌^◌, Bool, true, false, List, [], ◌∷◌, Option, Some, None, length, map, nat_eq, if◌then◌else◌}
use Rattle.mq_blocks.specs.Descriptor.{AreRising}
use Rattle.mq_blocks.specs.Limits.{list_limit}
use Rattle.mq_blocks.specs.Journal.{is_among}
use Rattle.mq_blocks.specs.Machine.{Writes}
use Rattle.mq_ledger.specs.History.{blocks_of}
use Rattle.mq_pages.specs.declared.page.ShadowPage.{ShadowPage}
use Rattle.mq_pmr.specs.Runs.{Items}
use Rattle.mq_queue_side.specs.Commits.{Commit, NumberedCommit, further_of, further_where, place_of}
use Rattle.mq_queue_side.specs.declared.commit.Position.{Position}

-- the blocks of pages, with what is written there
abbrev pub writes_of : List ShadowPage → Writes
writes_of pages = map (λ p. (p.block, p.content)) pages

-- those of the pages whose blocks are among these, and the others
abbrev pub pages_in : List ℕ → List ShadowPage → List ShadowPage
pages_in blocks [] = []
pages_in blocks (p ∷ ps) = if is_among p.block blocks then p ∷ pages_in blocks ps else pages_in blocks ps

abbrev pub pages_out : List ℕ → List ShadowPage → List ShadowPage
pages_out blocks [] = []
pages_out blocks (p ∷ ps) = if is_among p.block blocks then pages_out blocks ps else p ∷ pages_out blocks ps

-- whether a list begins with this block
abbrev pub is_head : ℕ → List ℕ → Bool
is_head block [] = false
is_head block (b ∷ bs) = nat_eq b block

-- Blocks and pages, both in rising order, where each of the blocks is a page's.
pub record AreLeft (blocks : List ℕ) (pages : List ShadowPage) : Type 0 where
  pub low : ℕ
  pub high : ℕ
  pub blocks_rising : AreRising low high blocks
  pub pages_rising : AreRising low high (blocks_of (writes_of pages))
  pub within : (x : ℕ) → is_among x blocks ≡ true → is_among x (blocks_of (writes_of pages)) ≡ true

-- a further block is taken for so many entries only where they ask for one
abbrev pub HasFurther : ℕ → Option (List ℕ) → Type 0
HasFurther count None = count ≤ 1010
HasFurther count (Some block) = 1010 < count

-- how many further blocks that are, and what stands in it
abbrev pub count_of : Option (List ℕ) → ℕ
count_of None = 0
count_of (Some block) = 1

abbrev pub bytes_in : Option (List ℕ) → List ℕ
bytes_in None = []
bytes_in (Some block) = block

-- The descriptor's lists are of these blocks and fit a descriptor, and the memory is there for its blocks
-- and for the items.
pub record ArePartsOf (logged direct : Writes) (blocks revoked : List ℕ) (before : Option (List ℕ))
    (items : Items) (capacity : ℕ) : Type 0 where
  pub blocks_are : blocks ≡ blocks_of logged
  pub counts : length blocks + length revoked ≤ list_limit
  pub further : HasFurther (length blocks + length revoked) before
  pub none : items ≡ []
  pub room : length logged + length direct + 2 ≤ capacity

-- what goes where
abbrev pub commit_with : List ShadowPage → List ShadowPage → List ℕ → Commit
commit_with logged direct revoked =
    record { logged = writes_of logged; direct = writes_of direct; revoked = revoked }

-- what is numbered, by its parts
abbrev pub numbered_by : Commit → ℕ → Position → (last further : List ℕ) → NumberedCommit
numbered_by commit number at last further = record {
  commit = commit;
  queue = at.queue;
  number = number;
  first = at.first;
  prev_place = at.prev_place;
  prev_number = at.prev_number;
  last = last;
  further = further_where (further_of commit) further;
}

-- its place is a number of 64 bits, and the memory is there for the items
pub record AreNumberedParts (n : NumberedCommit) (before : Option (List ℕ)) (items : Items)
    (capacity : ℕ) : Type 0 where
  pub place_fits : place_of n < 2 ^ 64
  pub count : HasFurther (length n.commit.logged + length n.commit.revoked) before
  pub none : items ≡ []
  pub room : length n.commit.logged + length n.commit.direct + 2 ≤ capacity
