-- The text that lists a tree: a line for each path, in the order of lists of names.
use Rattle.std.specs.Prelude.{◌≤◌, ℕ, zero, suc, ◌+◌, List, [], ◌∷◌, ◌++◌, length, map, reverse, slice_range, codes, Option, Some, None, if◌then◌else◌}
use Rattle.std.specs.Cmp.Lexicographic.{slice_cmp}
use Rattle.std.specs.Fmt.{decimal}
use Rattle.std.specs.Ordering.{is_lt, nat_cmp}
use Rattle.mq_layout.specs.Slots.{Entry}
use Rattle.mq_tree.specs.Volume.{Body, Free, File, Dir, Volume, body, slots_of}
use Rattle.mq_tree.specs.declared.slots.Link.{Link}
use Rattle.mq_tree.specs.declared.listing.Step.{Step}

-- the entries of a directory, in rising order of names
abbrev pub insert_entry : Entry → List Entry → List Entry
insert_entry e [] = e ∷ []
insert_entry e (f ∷ fs) =
    if is_lt (slice_cmp nat_cmp e.name f.name) then e ∷ f ∷ fs else f ∷ insert_entry e fs

abbrev pub entries_in : List (Option Entry) → List Entry
entries_in [] = []
entries_in (None ∷ slots) = entries_in slots
entries_in (Some e ∷ slots) = insert_entry e (entries_in slots)

-- An entry of the directory at this path, which is empty for the root.
pub record Item : Type 0 where
  pub above : List ℕ
  pub entry : Entry

abbrev pub path_of : Item → List ℕ
path_of x = x.above ++ codes "/" ++ x.entry.name

abbrev pub items_of : (path : List ℕ) → List Entry → List Item
items_of path es = map (λ e. record { above = path; entry = e }) es

-- what stands before the path in a line; no name of a tree leads to a free inode
abbrev pub head_of : Body → List ℕ
head_of Free = []
head_of (File bytes) = codes "f " ++ decimal (length bytes) ++ codes " "
head_of (Dir slots) = codes "d "

abbrev pub line_of : (path : List ℕ) → Body → List ℕ
line_of path b = head_of b ++ path ++ codes "\n"

-- The lines of these items and of all below them, for at most `count`: after each item come those below it.
unfoldable pub lines : (count : ℕ) → Volume → List Item → List ℕ
lines zero v todo = []
lines (suc count) v [] = []
lines (suc count) v (x ∷ todo) =
    line_of (path_of x) (body v x.entry.inode)
    ++ lines count v (items_of (path_of x) (entries_in (slots_of (body v x.entry.inode))) ++ todo)

-- the used slots of a body, and of all bodies
abbrev pub name_count : Body → ℕ
name_count b = length (entries_in (slots_of b))

abbrev pub slot_count : Volume → ℕ
slot_count [] = 0
slot_count (n ∷ v) = name_count n.body + slot_count v

-- The root, and what is below it. A tree has no more paths below the root than used slots.
abbrev pub list_text : Volume → List ℕ
list_text v =
    line_of (codes "/") (body v 0)
    ++ lines (slot_count v) v (items_of [] (entries_in (slots_of (body v 0))))

-- ---- items that wait in a stack, whose last one is next

-- the path above an item stands in the text so far
abbrev pub item_in : List ℕ → Step → Item
item_in text s =
    record {
      above = slice_range text s.from s.to;
      entry = record { inode = s.link.inode; name = s.link.name.now };
    }

abbrev pub todo_in : List ℕ → List Step → List Item
todo_in text steps = reverse (map (item_in text) steps)

abbrev pub IsIn : List ℕ → Step → Type 0
IsIn text s = (s.from ≤ s.to) × (s.to ≤ length text)

abbrev pub AreIn : List ℕ → List Step → Type 0
AreIn text [] = Unit {0}
AreIn text (s ∷ steps) = IsIn text s × AreIn text steps

-- the entries that links show
abbrev pub entry_of_link : Link → Entry
entry_of_link l = record { inode = l.inode; name = l.name.now }
