-- What a group comes to on held pages, it comes to on the map of whatever is known by now.
use Rattle.std.proofs.Common.{◌≡◌, ℕ, List, sym, ap, subst, ◌∙◌}
use Rattle.std.specs.Prelude.{Option, Some}
use Rattle.mq_blocks.specs.Drive.{PortState}
use Rattle.mq_blocks.specs.declared.geometry.Geometry.{Geometry}
use Rattle.mq_drive.specs.Steps.{PortFault}
use Rattle.mq_drive.specs.declared.port.Port.{Ghosts}
use Rattle.mq_exec.specs.Outcomes.{Answers, IsDone}
use Rattle.mq_exec.specs.declared.outcome.Done.{Done as Carried}
use Rattle.mq_exec.specs.declared.outcome.Outcome.TheVariants.{Done}
use Rattle.mq_calls.specs.Group.{file_group}
use Rattle.mq_calls.specs.declared.entry.FileEntry.{FileEntry}
use Rattle.mq_inodes.specs.Fits.{Agrees}
use Rattle.mq_inodes.specs.Pages.{held_pages}
use Rattle.mq_inodes.proofs.PagesLifting.{laid-agrees}
use Rattle.mq_pages.specs.Held.{Cells}
use Rattle.mq_pages.specs.declared.page.PageCell.{PageCell}
use Rattle.mq_desk_laws.specs.Rule.{DeskState, geometry_of, map_now, shape_of}
use Rattle.mq_desk_laws.specs.Values.{Values}
use Rattle.mq_desk_laws.proofs.RuleStaying.{good_now}
use Rattle.mq_desk_laws.proofs.Meaning.{laws}
use Rattle.mq_queue_side.specs.declared.root.Root.{Root}
use Rattle.mq_queue_side.specs.declared.side.QueueSide.{QueueSide}
use Rattle.mq_tree.specs.Laid.{IsLaid}
use Rattle.mq_tree.specs.Volume.{Volume}
use Rattle.mq_tree.specs.declared.request.Request.{Request}
use Rattle.mq_turns.specs.Desk.{Sees}
use Rattle.mq_turns.specs.Meaning.{Meaning}
use Rattle.mq_turns.specs.declared.rule.Opening.{Opening}
use Rattle.mq_turns.specs.declared.rule.ChairView.{ChairView}
use Rattle.mq_turns.proofs.DeskSeen.{opening_seen}
use Rattle.mq_sessions.specs.Pages.{HoldsPages}
use Rattle.mq_calls.specs.Runs
use Rattle.mq_calls.specs.Runs.{IsDoneOnHeld}
use Rattle.mq_sessions.proofs.PagesHolding.{cells-now}
use Rattle.mq_sessions.proofs.PagesOfMap.{map-of-cells}

module _ {P : Type 0} {G : Ghosts P} (state : P → PortState) (faults : P → List PortFault) where
  abbrev V : Values (QueueSide P FileEntry G) (Root P G) FileEntry
  V = Runs.file_values state faults

  abbrev μ : Meaning PageCell (QueueSide P FileEntry G) (Root P G) FileEntry
  μ = Runs.files state faults

  module _ (g : Geometry) (o : Opening PageCell (QueueSide P FileEntry G) (Root P G)) (cells : Cells) (v : ChairView PageCell (QueueSide P FileEntry G) (Root P G) FileEntry) (opening : v.opening ≡ Some o) (shape : shape_of V file_group o ≡ g) (held : HoldsPages μ o cells v) where
    pub shape-is : (K : DeskState V file_group) → Sees μ v K → geometry_of V file_group K ≡ g
    shape-is K s = ap (shape_of V file_group) (opening_seen μ o K v opening s) ∙ shape

    map-now : (K : DeskState V file_group) → Sees μ v K → (b : ℕ) (page : Option (List ℕ)) → held_pages cells b ≡ Some page → map_now V file_group K b ≡ page
    map-now K s = map-of-cells V file_group cells K (λ b c e. cells-now μ (laws V file_group) o cells v K b c opening held s e)

    -- the volume of the map agrees with the pages
    agrees-now : (K : DeskState V file_group) → Sees μ v K → (w : Volume) × IsLaid g (map_now V file_group K) w × Agrees g (held_pages cells) w
    agrees-now K s =
        let w = good_now V file_group K s.ok in
        let laid : IsLaid g (map_now V file_group K) w.0 = subst (λ (x : Geometry). IsLaid x (map_now V file_group K) w.0) (shape-is K s) w.1 in
        (w.0, laid, laid-agrees g (map_now V file_group K) (held_pages cells) w.0 laid (map-now K s))

    pub done-now : (q : ℕ) (requests : List Request) (done : Carried) → Answers g q (held_pages cells) requests (Done done) → IsDoneOnHeld state faults q requests cells v done
    done-now q requests done answers = record {
      known = answers.0;
      does = λ K s.
          let a = agrees-now K s in
          record {
            volume = a.0;
            laid = subst (λ (x : Geometry). IsLaid x (map_now V file_group K) a.0) (sym (shape-is K s)) a.1;
            is = subst (λ (x : Geometry). IsDone x q a.0 requests done) (sym (shape-is K s)) (answers.1 a.0 a.2);
          };
    }
