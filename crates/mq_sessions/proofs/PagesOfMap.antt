-- The pages that a session holds are those of the map at the newest number.
use Rattle.std.proofs.Common.{◌≡◌, ℕ, List, sym, ap, ◌∙◌, inl, inr}
use Rattle.std.specs.Prelude.{Option, Some}
use Rattle.std.proofs.lemmas.Option.{none-some, same_Some}
use Rattle.mq_blocks.proofs.Options.{option-cases}
use Rattle.mq_pages.specs.Held.{Cells, cell_of}
use Rattle.mq_pages.specs.declared.page.PageCell.{PageCell}
use Rattle.mq_desk_laws.specs.Groups.{GroupView}
use Rattle.mq_desk_laws.specs.Rule.{DeskState, IsPage, map_now}
use Rattle.mq_desk_laws.specs.Values.{Values}
use Rattle.mq_sessions.specs.Pages.{held_pages, page_in}

module _ {Q R E : Type 0} (values : Values Q R E) (group : GroupView E) where
  pub map-of-cells : (cells : Cells) (K : DeskState values group) → ((b : ℕ) (c : PageCell) → cell_of cells b ≡ Some c → IsPage values group b K c) → (b : ℕ) (page : Option (List ℕ)) → held_pages cells b ≡ Some page → map_now values group K b ≡ page
  map-of-cells cells K are b page e = elim (option-cases (cell_of cells b)) [
    | inl none ↦ absurd (none-some page (sym (ap page_in none) ∙ e))
    | inr some ↦
        let is : some.0.content ≡ page = same_Some some.0.content page (sym (ap page_in some.1) ∙ e) in
        sym (are b some.0 some.1).content ∙ is
  ]
