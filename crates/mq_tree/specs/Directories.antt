-- The names of a directory, as a map has them.
use Rattle.std.specs.Prelude.{◌≡◌, ℕ, ◌*◌, ◌/◌, ◌<◌, ◌≢◌, List, [], ◌∷◌, Option, Some, None, if◌then◌else◌, Vec}
use Rattle.std.specs.Str.{bytes_eq}
use Rattle.mq_blocks.specs.declared.geometry.Geometry.{Geometry}
use Rattle.mq_layout.specs.Slots.{Entry}
use Rattle.mq_layout.specs.declared.inode.Inode.{Inode}
use Rattle.mq_tree.specs.Corrupt.{IsTwin}
use Rattle.mq_tree.specs.Decoded.{Stored, count_of, entry_of, pointer_to}
use Rattle.mq_tree.specs.Least.{IsLeast}
use Rattle.mq_tree.specs.ListText.{entries_in, insert_entry}
use Rattle.mq_tree.specs.Volume.{find}
use Rattle.mq_tree.specs.declared.corrupt.CorruptCause.TheVariants.{Twin}
use Rattle.mq_tree.specs.declared.corrupt.MountRefusal.{MountRefusal}
use Rattle.mq_tree.specs.declared.corrupt.MountRefusal.TheVariants.{Corrupt, OutOfMemory}

-- names with their inodes, as used slots
abbrev pub as_slots : {A : Type 0} → List (Vec ℕ A × ℕ) → List (Option Entry)
as_slots [] = []
as_slots (e ∷ es) = Some (record { inode = e.1; name = e.0.items }) ∷ as_slots es

-- a name leads to the same inode in both, and both have the same entries in order
pub record AreSameNames (xs ys : List (Option Entry)) : Type 0 where
  pub finds : (name : List ℕ) → find name xs ≡ find name ys
  pub entries : entries_in xs ≡ entries_in ys

-- a name leads to this inode, and each other name where it led before
abbrev pub Leads : (xs ys : List (Option Entry)) → (name : List ℕ) → (i : ℕ) → Type 0
Leads xs ys name i = (q : List ℕ) → find q ys ≡ (if bytes_eq name q then Some i else find q xs)

-- a name that was not there was added
pub record Adds (xs ys : List (Option Entry)) (name : List ℕ) (i : ℕ) : Type 0 where
  pub missing : find name xs ≡ None
  pub finds : Leads xs ys name i
  pub entries : entries_in ys ≡ insert_entry (record { inode = i; name = name }) (entries_in xs)

-- a name is there
abbrev pub Has : List (Option Entry) → (name : List ℕ) → Type 0
Has xs name = (i : ℕ) × (find name xs ≡ Some i)

-- no name stands in two of the first slots
abbrev pub OnceBelow : (ℕ → Option Entry) → (count : ℕ) → Type 0
OnceBelow at count =
    (k l : ℕ) (e f : Entry) → k < count → l < count → at k ≡ Some e → at l ≡ Some f → e.name ≡ f.name
    → k ≡ l

-- the name in a slot of this block stands in another slot too
pub record HasTwin (s : Stored) (n : Inode) (b : ℕ) : Type 0 where
  pub k : ℕ
  pub l : ℕ
  pub e : Entry
  pub f : Entry
  pub dir : n.kind ≡ 2
  pub inside : k < 15 * count_of n
  pub other : l < 15 * count_of n
  pub first : entry_of s n k ≡ Some e
  pub second : entry_of s n l ≡ Some f
  pub same : e.name ≡ f.name
  pub apart : k ≢ l
  pub is : b ≡ pointer_to s n (k / 15)

-- a slot of this block has one of these names
pub record HasNameOf (s : Stored) (n : Inode) (names : List (Option Entry)) (b : ℕ) : Type 0 where
  pub k : ℕ
  pub e : Entry
  pub inside : k < 15 * count_of n
  pub there : entry_of s n k ≡ Some e
  pub has : Has names e.name
  pub is : b ≡ pointer_to s n (k / 15)

-- A directory is refused for the least block with such a name, or because the call runs out of memory.
abbrev pub RefusesNames : Stored → Inode → MountRefusal → Type 0
RefusesNames s n (Corrupt cause b) = (cause ≡ Twin) × IsLeast (HasTwin s n) b
RefusesNames s n OutOfMemory = Unit {0}

-- so are all directories, for the least block of all
abbrev pub RefusesTwin : Geometry → Stored → MountRefusal → Type 0
RefusesTwin g s (Corrupt cause b) = (cause ≡ Twin) × IsLeast (IsTwin g s) b
RefusesTwin g s OutOfMemory = Unit {0}

-- no name stands twice in what an inode says
abbrev pub IsOnce : Stored → Inode → Type 0
IsOnce s n = n.kind ≡ 2 → OnceBelow (entry_of s n) (15 * count_of n)
