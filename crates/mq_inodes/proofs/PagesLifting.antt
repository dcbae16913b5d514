-- Pages of cells that were lifted out of a map, and the volume that lies on it.
use Rattle.std.proofs.Common.{◌≡◌, ◌∙◌, ℕ, suc, List, [], ◌∷◌, Option, sym, ap, subst, arith, inl, inr}
use Rattle.std.specs.List.{All}
use Rattle.std.specs.Prelude.{Some, None}
use Rattle.std.proofs.lemmas.Bool.{cases_eq}
use Rattle.std.proofs.lemmas.Bool.Decides.{nat_tests}
use Rattle.mq_blocks.specs.Machine.{Map}
use Rattle.mq_blocks.specs.declared.geometry.Geometry.{Geometry}
use Rattle.mq_inodes.specs.Fits.{Agrees}
use Rattle.mq_inodes.specs.Pages.{Pages, held_pages, page_in}
use Rattle.mq_pages.specs.Held.{Cells, cell_of}
use Rattle.mq_tree.specs.Laid.{IsLaid}
use Rattle.mq_tree.specs.Volume.{Volume}

-- where each cell has the map's page, so have the pages
pub pages-of : (map : Map) (cells : Cells) → All (λ pair. pair.1.content ≡ map pair.0) cells → (b : ℕ) (page : Option (List ℕ)) → held_pages cells b ≡ Some page → map b ≡ page
pages-of map [] h b page e = absurd (cc)
pages-of map ((x, cell) ∷ rest) h b page e =
    let others = pages-of map rest (λ j d l. h (suc j) d (omega (arith, l))) b page in
    let this : map x ≡ cell.content = sym (h 0 (x, cell) (omega arith)) in
    elim (cases_eq x b) [
      | inl same ↦
          let found : cell_of ((x, cell) ∷ rest) b ≡ Some cell = grind (arith, nat_tests, same) in
          let is : Some cell.content ≡ Some page = ap page_in (sym found) ∙ e in
          subst (λ k. map k ≡ page) same (this ∙ (cc))
      | inr differs ↦
          let passed : cell_of ((x, cell) ∷ rest) b ≡ cell_of rest b = grind (arith, nat_tests, differs) in
          others (ap page_in (sym passed) ∙ e)
    ]

-- pages of a map may be a part of the volume that lies on it
pub laid-agrees : (g : Geometry) (map : Map) (pages : Pages) (v : Volume) → IsLaid g map v → ((b : ℕ) (page : Option (List ℕ)) → pages b ≡ Some page → map b ≡ page) → Agrees g pages v
laid-agrees g map pages v laid same = record {
  sound = laid.sound;
  fits = record { held = λ b page e. laid.shown b page (same b (Some page) e); free = λ b e. laid.vacant b (same b None e) };
}
