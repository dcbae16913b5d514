-- How many slots name an inode.
use Rattle.std.specs.Prelude.{◌≡◌, ◌<◌, ◌≤◌, ◌^◌, ℕ, List, Option, Some, None, if◌then◌else◌, nat_eq}
use Rattle.std.specs.List.{sum_by}
use Rattle.mq_layout.specs.Slots.{Entry}
use Rattle.mq_tree.specs.Volume.{Body, Free, File, Dir, Volume, body, node, slots_of}

-- 1 where a slot names the inode
abbrev pub names : ℕ → Option Entry → ℕ
names i None = 0
names i (Some e) = if nat_eq e.inode i then 1 else 0

-- how many of these slots name it
abbrev pub names_among : ℕ → List (Option Entry) → ℕ
names_among i slots = sum_by (names i) slots

-- how many slots of all directories name it
abbrev pub links_to : Volume → ℕ → ℕ
links_to v i = sum_by (λ n. names_among i (slots_of n.body)) v

-- A file has at least one link, and at most 65,535, a directory one.
abbrev pub HasLinks : Body → (links : ℕ) → Type 0
HasLinks Free links = links ≡ 0
HasLinks (File bytes) links = (1 ≤ links) × (links < 2 ^ 16)
HasLinks (Dir slots) links = links ≡ 1

-- a file's links are as many as the slots that name it
abbrev pub AreCounted : Volume → Type 0
AreCounted v = (i : ℕ) (bytes : List ℕ) → body v i ≡ File bytes → (node v i).links ≡ links_to v i
