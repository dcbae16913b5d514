-- What differs where pages that were put are compared with those of a view.
use Rattle.std.specs.Prelude.{◌≡◌, ◌≢◌, ◌<◌, ◌≤◌, ℕ, Bool, true, false, List, Option, Some, None}
use Rattle.std.specs.List.{AllPairs, Contains}
use Rattle.std.specs.Str.{bytes_eq}
use Rattle.mq_blocks.specs.Geometry.{meta_of}
use Rattle.mq_inodes.specs.Pages.{IsHeld, Pages, kinds_of}
use Rattle.mq_inodes.specs.declared.working.Working.{Working}
use Rattle.mq_pages.specs.declared.page.Kind.TheVariants.{Meta}
use Rattle.mq_pages.specs.declared.page.Write.{Write}

-- whether a page is known to have just this content
abbrev pub has_page : Option (Option (List ℕ)) → List ℕ → Bool
has_page None content = false
has_page (Some None) content = false
has_page (Some (Some page)) content = bytes_eq page content

-- whether it is known to have some content
abbrev pub has_content : Option (Option (List ℕ)) → Bool
has_content None = false
has_content (Some None) = false
has_content (Some (Some page)) = true

-- A block of the metadata region is written as metadata, any other with the kind under which it was put.
pub record HasKind (w : Working) (x : Write) : Type 0 where
  pub low : x.block < meta_of w.geometry → x.kind ≡ Meta
  pub high : meta_of w.geometry ≤ x.block → kinds_of w x.block ≡ Some x.kind

-- What changed over the pages of a view, `changed` having the pages that were put.
pub record Differs (view changed : Pages) (writes : List Write) (frees : List ℕ) : Type 0 where
  pub writes_rise : AllPairs (λ x y. x.block < y.block) writes
  pub written : (x : Write) → Contains writes x
      → (changed x.block ≡ Some (Some x.content)) × (view x.block ≢ Some (Some x.content))
  pub writes_all : (b : ℕ) (page : List ℕ) → changed b ≡ Some (Some page) → view b ≢ Some (Some page)
      → (x : Write) × Contains writes x × (x.block ≡ b) × (x.content ≡ page)
  pub frees_rise : AllPairs (λ b c. b < c) frees
  pub freed : (b : ℕ) → Contains frees b → (changed b ≡ Some None) × IsHeld view b
  pub frees_all : (b : ℕ) → changed b ≡ Some None → IsHeld view b → Contains frees b
