-- What a transaction writes, on its way into the ring.
use Rattle.std.specs.Prelude.{◌≡◌, ◌⊎◌, ◌↔◌, ℕ, zero, suc, ◌+◌, true, List, [], ◌∷◌, ◌++◌, length, if◌then◌else◌}
use Rattle.mq_blocks.specs.Copies.{copies_at, directs_of}
use Rattle.mq_blocks.specs.Descriptor.{Descriptor, DescriptorForm, AreRising, AreApart, further_block, further_for, last_block}
use Rattle.mq_blocks.specs.Geometry.{area_lba}
use Rattle.mq_blocks.specs.Journal.{is_among}
use Rattle.mq_blocks.specs.Machine.{Writes}
use Rattle.mq_blocks.specs.declared.geometry.Geometry.{Geometry}
use Rattle.mq_ledger.specs.History.{blocks_of}
use Rattle.mq_ledger.specs.Items.{next, number_before, place_before}
use Rattle.mq_ledger.specs.declared.tx.Tx.{Tx}
use Rattle.mq_pages.specs.declared.page.Write.{Write}
use Rattle.mq_pmr.specs.Runs.{Items}
use Rattle.mq_revoke.specs.Placed.{Placed}

-- how many blocks the descriptor of so many logged and revoked blocks takes in the journal area, each with
-- an entry
abbrev pub descriptor_size : (logged revoked : ℕ) → ℕ
descriptor_size logged revoked = further_for (logged + revoked) + 1

-- ---- what is prepared

-- those of the writes whose blocks are among these
abbrev pub written_in : List ℕ → List Write → Writes
written_in blocks [] = []
written_in blocks (w ∷ ws) =
    if is_among w.block blocks then (w.block, w.content) ∷ written_in blocks ws else written_in blocks ws

-- The plan says of each of these blocks, in rising order, whether it is logged or direct, and names no
-- other; it revokes direct ones alone.
pub record IsPlanOf (homes : ℕ) (blocks : List ℕ) (plan : Placed) : Type 0 where
  pub rising : AreRising 0 homes blocks
  pub logged : AreRising 0 homes plan.logged
  pub direct : AreRising 0 homes plan.direct
  pub revoked : AreRising 0 homes plan.revoked
  pub each : (x : ℕ)
      → (is_among x blocks ≡ true) ↔ ((is_among x plan.logged ≡ true) ⊎ (is_among x plan.direct ≡ true))
  pub apart : AreApart plan.logged plan.direct
  pub revokes : (x : ℕ) → is_among x plan.revoked ≡ true → is_among x plan.direct ≡ true

-- what is written, by where it goes, and the blocks whose earlier copies count no more
pub record Commit : Type 0 where
  pub logged : Writes
  pub direct : Writes
  pub revoked : List ℕ

abbrev pub commit_by : Placed → List Write → Commit
commit_by plan writes =
    record {
      logged = written_in plan.logged writes;
      direct = written_in plan.direct writes;
      revoked = plan.revoked;
    }

-- ---- what is numbered

-- how many further blocks its descriptor has
abbrev pub further_of : Commit → ℕ
further_of c = further_for (length c.logged + length c.revoked)

-- a commit with its queue and number, the place of its first copy, place and number of the queue's last
-- descriptor before it, and the blocks of its own
pub record NumberedCommit : Type 0 where
  pub commit : Commit
  pub queue : ℕ
  pub number : ℕ
  pub first : ℕ
  pub prev_place : ℕ
  pub prev_number : ℕ
  pub last : List ℕ
  pub further : List ℕ

-- where its descriptor's last block stands
abbrev pub place_of : NumberedCommit → ℕ
place_of n = n.first + (length n.commit.logged + further_of n.commit)

-- the descriptor of a commit, by its queue and number, its first place and the descriptor before it
abbrev pub descriptor_with : Commit → (queue number first prev_place prev_number : ℕ) → Descriptor
descriptor_with commit queue number first prev_place prev_number = record {
  queue = queue;
  number = number;
  place = first + (length commit.logged + further_of commit);
  prev_place = prev_place;
  prev_number = prev_number;
  logged = blocks_of commit.logged;
  revoked = commit.revoked;
}

-- the further block, where there are so many
abbrev pub further_where : ℕ → List ℕ → List ℕ
further_where zero block = []
further_where (suc count) block = block

-- a commit whose descriptor is written in a form
abbrev pub numbered_with : DescriptorForm → Commit → (queue number first prev_place prev_number : ℕ)
    → NumberedCommit
numbered_with form commit queue number first prev_place prev_number = record {
  commit = commit;
  queue = queue;
  number = number;
  first = first;
  prev_place = prev_place;
  prev_number = prev_number;
  last = last_block form form.version
      (descriptor_with commit queue number first prev_place prev_number);
  further = further_where (further_of commit)
      (further_block form form.version (descriptor_with commit queue number first prev_place prev_number));
}

-- what a transaction writes, by where it goes
abbrev pub commit_of_tx : Tx → Commit
commit_of_tx t = record { logged = t.logged; direct = t.direct; revoked = t.revoked }

-- the commit of a transaction, where these stand before it on its queue
abbrev pub commit_of : DescriptorForm → Tx → List Tx → NumberedCommit
commit_of form t us =
    numbered_with form (commit_of_tx t) t.queue t.number (next us) (place_before us) (number_before us)

-- ---- what goes into the ring

-- the blocks of a descriptor with `count` further ones, from a place of the queue on, the last one last
abbrev pub descriptor_at : Geometry → (queue first count : ℕ) → (further last : List ℕ) → Items
descriptor_at g queue first zero further last = (area_lba g queue first, last) ∷ []
descriptor_at g queue first (suc count) further last =
    (area_lba g queue first, further) ∷ (area_lba g queue (first + suc count), last) ∷ []

abbrev pub descriptor_items : Geometry → NumberedCommit → Items
descriptor_items g n =
    descriptor_at g n.queue (n.first + length n.commit.logged) (further_of n.commit)
    n.further n.last

-- the copies of the logged blocks, then the direct blocks, and the descriptor last
abbrev pub items_of : Geometry → NumberedCommit → Items
items_of g n =
    copies_at g n.queue n.first n.commit.logged
    ++ (directs_of g n.commit.direct ++ descriptor_items g n)

-- how many that are: the blocks that are written, and those of the descriptor
abbrev pub size_of : NumberedCommit → ℕ
size_of n =
    length n.commit.logged + length n.commit.direct
    + descriptor_size (length n.commit.logged) (length n.commit.revoked)
