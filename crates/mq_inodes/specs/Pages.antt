-- Pages of home blocks, as far as they are known.
use Rattle.std.specs.Prelude.{◌≡◌, ℕ, List, [], Option, Some, None}
use Rattle.std.specs.BTreeMap.{get}
use Rattle.std.specs.Ordering.{nat_cmp}
use Rattle.mq_inodes.specs.declared.working.Change.{Change}
use Rattle.mq_inodes.specs.declared.working.Page.{Page}
use Rattle.mq_inodes.specs.declared.working.Page.TheVariants.{Absent, Free, Held}
use Rattle.mq_inodes.specs.declared.working.Working.{Working}
use Rattle.mq_pages.specs.Held.{Cells, cell_of}
use Rattle.mq_pages.specs.declared.page.Kind.{Kind}
use Rattle.mq_pages.specs.declared.page.PageCell.{PageCell}

-- What is known of each home block: nothing, that it is free, or its content.
abbrev pub Pages : Type 0
Pages = ℕ → Option (Option (List ℕ))

abbrev pub page_in : Option PageCell → Option (Option (List ℕ))
page_in None = None
page_in (Some cell) = Some cell.content

-- the pages of held cells; no other is known
abbrev pub held_pages : Cells → Pages
held_pages cells b = page_in (cell_of cells b)

-- a page that was changed stands before what it was
abbrev pub over : Option (Option (List ℕ)) → Option (Option (List ℕ)) → Option (Option (List ℕ))
over None page = page
over (Some changed) page = Some changed

-- the page that a change put
abbrev pub page_put : Option (Option Change) → Option (Option (List ℕ))
page_put None = None
page_put (Some None) = Some None
page_put (Some (Some change)) = Some (Some change.content)

-- and its kind, where it has content
abbrev pub kind_put : Option (Option Change) → Option Kind
kind_put None = None
kind_put (Some None) = None
kind_put (Some (Some change)) = Some change.kind

-- the pages of the view below, and those that were changed since
unfoldable pub view_of : Working → Pages
view_of w b = held_pages w.held.now.cells b

unfoldable pub changed_of : Working → Pages
changed_of w b = page_put (get nat_cmp w.changed b)

unfoldable pub kinds_of : Working → ℕ → Option Kind
kinds_of w b = kind_put (get nat_cmp w.changed b)

-- the pages as they are now
unfoldable pub pages_of : Working → Pages
pages_of w b = over (page_put (get nat_cmp w.changed b)) (held_pages w.held.now.cells b)

-- a page as it is looked up
abbrev pub known : Page → Option (Option (List ℕ))
known Absent = None
known Free = Some None
known (Held block) = Some (Some block.now)

-- the content of a block that is held
abbrev pub content : Option (Option (List ℕ)) → List ℕ
content None = []
content (Some None) = []
content (Some (Some page)) = page

-- the block is held, with content
abbrev pub IsHeld : Pages → ℕ → Type 0
IsHeld pages b = pages b ≡ Some (Some (content (pages b)))
