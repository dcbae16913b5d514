-- The slots that held blocks of a directory have.
use Rattle.std.specs.Prelude.{ℕ, ◌+◌, List, [], ◌∷◌, ◌++◌, Option, Some, None}
use Rattle.std.specs.List.{All}
use Rattle.mq_inodes.specs.Pages.{IsHeld, Pages, content}
use Rattle.mq_layout.specs.Slots.{Entry}
use Rattle.mq_tree.specs.Clean.{IsDirBlock}
use Rattle.mq_tree.specs.Decoded.{slot_of, table_of}

-- the slots of one block
unfoldable pub slots_in : List ℕ → List (Option Entry)
slots_in page = table_of 15 (slot_of page)

-- the names in slots, in the order of these
abbrev pub names_of : List (Option Entry) → List (List ℕ)
names_of [] = []
names_of (None ∷ slots) = names_of slots
names_of (Some e ∷ slots) = e.name ∷ names_of slots

-- a slot that was found, or else another
abbrev pub earlier : Option ℕ → Option ℕ → Option ℕ
earlier None other = other
earlier (Some at) other = Some at

-- the number of a slot that stands behind `first` others
abbrev pub later : (first : ℕ) → Option ℕ → Option ℕ
later first None = None
later first (Some at) = Some (first + at)

-- of blocks one after another
abbrev pub slots_at : Pages → (blocks : List ℕ) → List (Option Entry)
slots_at pages [] = []
slots_at pages (b ∷ bs) = slots_in (content (pages b)) ++ slots_at pages bs

-- a block of slots is held
pub record IsDirAt (pages : Pages) (b : ℕ) : Type 0 where
  pub held : IsHeld pages b
  pub form : IsDirBlock (content (pages b))

abbrev pub AreDirsAt : Pages → List ℕ → Type 0
AreDirsAt pages blocks = All (IsDirAt pages) blocks
