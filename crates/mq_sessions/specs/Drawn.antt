-- What a drawn group makes of the page of a block.
use Rattle.std.specs.Prelude.{◌≡◌, ◌≢◌, ◌<◌, ◌+◌, ◌||◌, ℕ, Bool, length, List, [], ◌∷◌, ◌++◌, map, Option, Some, None, if◌then◌else◌}
use Rattle.std.specs.List.{Contains}
use Rattle.mq_blocks.specs.Descriptor.{AreRising}
use Rattle.mq_pages.specs.declared.page.PageCell.{PageCell}
use Rattle.mq_pages.specs.declared.page.Write.{Write}
use Rattle.mq_desk_laws.specs.Cells.{cell_after}
use Rattle.mq_ledger.specs.declared.tx.Tx.{Tx}
use Rattle.mq_queue_side.specs.Commits.{commit_by}
use Rattle.mq_revoke.specs.Placed.{Placed}

-- ---- writes, from the last on

-- the last of these writes is taken out where it is of the block
abbrev pub TakesWrite : List Write → ℕ → Option Write → List Write → Type 0
TakesWrite old b (Some w) new = (old ≡ new ++ w ∷ []) × (w.block ≡ b)
TakesWrite old b None new = (new ≡ old) × ((ws : List Write) (w : Write) → old ≡ ws ++ w ∷ [] → w.block ≢ b)

-- those of the block are gone, and those of lesser blocks are left
pub record LeavesBelow (b : ℕ) (old new : List Write) : Type 0 where
  pub gone : List Write
  pub is : old ≡ new ++ gone
  pub own : (w : Write) → Contains gone w → w.block ≡ b
  pub below : AreRising 0 b (map (λ w. w.block) new)

-- ---- one page

abbrev pub content_with : Option (List ℕ) → Option (List ℕ) → (is_written freed : Bool) → Option (List ℕ)
content_with old written is_written freed = if is_written then written else (if freed then None else old)

abbrev pub page_with : PageCell → ℕ → Option (List ℕ) → (logged direct freed : Bool) → PageCell
page_with cell number written logged direct freed = record {
  content = content_with cell.content written (logged || direct) freed;
  version = if (logged || direct) || freed then number else cell.version;
  last_logged = if logged then number else cell.last_logged;
  home_version = if direct then number else cell.home_version;
}

-- ---- a transaction

abbrev pub blocks_in : List Write → List ℕ
blocks_in ws = map (λ w. w.block) ws

-- the transaction of a group: its number, its queue, where its writes go, and what it writes and frees
abbrev pub tx_by : ℕ → ℕ → Placed → List Write → List ℕ → Tx
tx_by number queue plan writes frees = record {
  number = number;
  queue = queue;
  logged = (commit_by plan writes).logged;
  direct = (commit_by plan writes).direct;
  revoked = (commit_by plan writes).revoked;
  freed = frees;
}

-- it writes or frees a block
abbrev pub Changes : List Write → List ℕ → Type 0
Changes writes frees = 0 < length writes + length frees

-- ---- what a drawn group makes of a page

-- what it writes to greater blocks changes nothing of the page, and its queue doesn't either
abbrev pub PagesStayBelow : Type 0
PagesStayBelow =
    (number queue b : ℕ) (plan : Placed) (writes more : List Write) (frees : List ℕ) (c : PageCell)
    → ((w : Write) → Contains more w → b < w.block)
    → cell_after (tx_by number queue plan (writes ++ more) frees) b c
    ≡ cell_after (tx_by number 0 plan writes frees) b c
