-- What the rule of placing asks of writes, by the cells of held pages.
use Rattle.std.proofs.Common.{◌≡◌, ℕ, Bool, List, [], ◌∷◌, map, is_none, refl, ap, ◌∙◌}
use Rattle.std.specs.Prelude.{Option, Some, None}
use Rattle.mq_desk_laws.specs.Groups.{GroupView}
use Rattle.mq_desk_laws.specs.Rule.{history_of, start_of}
use Rattle.mq_desk_laws.specs.Values.{Values}
use Rattle.mq_pages.specs.Held.{Cells, cell_of}
use Rattle.mq_pages.specs.declared.page.PageCell.{PageCell}
use Rattle.mq_pages.specs.declared.page.Write.{Write}
use Rattle.mq_sessions.specs.Drawn.{blocks_in}
use Rattle.mq_sessions.specs.Plans.{PagesTellPlans, is_data, planned_by, planned_by_cell, planned_with}
use Rattle.mq_sessions.proofs.Members.{cons-here, cons-there}

-- the planned writes are of the same blocks
planned-block : (block : ℕ) (of_file : Bool) (o : Option PageCell) → (planned_by_cell block of_file o).block ≡ block
planned-block block of_file None = refl
planned-block block of_file (Some c) = refl

pub blocks-planned : (cells : Cells) (ws : List Write) → map (λ p. p.block) (map (planned_with cells) ws) ≡ blocks_in ws
blocks-planned cells [] = refl
blocks-planned cells (w ∷ ws) =
    let one : (planned_with cells w).block ≡ w.block = planned-block w.block (is_data w.kind) (cell_of cells w.block) in
    let more = blocks-planned cells ws in
    λ i. one i ∷ more i

module _ {Q R E : Type 0} (values : Values Q R E) (group : GroupView E) where
  pub tells_plans : PagesTellPlans values group
  tells_plans K cells [] pages known = refl
  tells_plans K cells (w ∷ ws) pages known =
      let rest = tells_plans K cells ws pages (λ x c. known x (cons-there w ws x c)) in
      let found = known w (cons-here w ws w refl) in
      let p = pages w.block found.0 found.1 in
      let one : planned_with cells w ≡ planned_by (start_of values group K.opening) K.opening.base (history_of values group K) w =
      ap (planned_by_cell w.block (is_data w.kind)) found.1
      ∙ (λ i. record { block = w.block; is_data = is_data w.kind; was_free = is_none (p.content i); version = p.version i; last_logged = p.last_logged i }) in
      λ i. one i ∷ rest i
