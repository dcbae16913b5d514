-- How many directories and files a volume has, and how many bytes are in its files.
use Rattle.std.specs.Prelude.{◌≤◌, ◌<◌, ℕ, ◌-◌, ◌^◌, length}
use Rattle.std.specs.List.{sum_by}
use Rattle.mq_tree.specs.Volume.{Body, Free, File, Dir, Volume, body}
use Rattle.mq_tree.specs.declared.counts.TreeCounts.{TreeCounts}

-- one inode alone
abbrev pub counts_of : Body → TreeCounts
counts_of Free = record { directories = 0; files = 0; bytes = 0 }
counts_of (File bytes) = record { directories = 0; files = 1; bytes = length bytes }
counts_of (Dir slots) = record { directories = 1; files = 0; bytes = 0 }

-- a number of each inode, over all of them
abbrev pub sum_of : (Body → ℕ) → Volume → ℕ
sum_of f v = sum_by (λ n. f n.body) v

-- all inodes together
abbrev pub counts_of_volume : Volume → TreeCounts
counts_of_volume v = record {
  directories = sum_of (λ b. (counts_of b).directories) v;
  files = sum_of (λ b. (counts_of b).files) v;
  bytes = sum_of (λ b. (counts_of b).bytes) v;
}

-- all but the root, which is inode 0
abbrev pub counts_in : Volume → TreeCounts
counts_in v = record {
  directories = (counts_of_volume v).directories - (counts_of (body v 0)).directories;
  files = (counts_of_volume v).files;
  bytes = (counts_of_volume v).bytes;
}

-- its bytes are counted in 64 bits
pub record IsCountable (v : Volume) : Type 0 where
  pub few : length v ≤ 32768
  pub bytes : sum_of (λ b. (counts_of b).bytes) v < 2 ^ 64
