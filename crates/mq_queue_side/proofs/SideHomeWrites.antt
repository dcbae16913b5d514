-- A home write keeps a side, and puts the content at home.
use Rattle.std.proofs.Common.{◌≡◌, ℕ, List, Some, sym, refl, ap, subst, ◌∙◌, inl, inr, arith}
use Rattle.std.specs.Prelude.{Result, Ok, Err}
use Rattle.mq_blocks.specs.Drive.{PortState, after_begin, after_end}
use Rattle.mq_blocks.specs.Geometry.{zone_of, home_lba}
use Rattle.mq_drive.specs.Steps.{HomeGives}
use Rattle.mq_drive.specs.declared.port.Off.{Off}
use Rattle.mq_drive.specs.declared.port.HomeStep.{HomeStep}
use Rattle.mq_drive.specs.declared.port.HomeStep.TheVariants as home
use Rattle.mq_ledger.specs.KnownJournal.{KnownJournal, LogOk}
use Rattle.mq_ledger.specs.Sides.{Certainly, SideOk, home_index}
use Rattle.mq_ledger.specs.declared.tx.Tx.{Tx}
use Rattle.mq_core.specs.Events.{begin_home, end_home}
use Rattle.mq_core.specs.Homes.{IsLoggedLast}
use Rattle.mq_core.proofs.HomesWritten.{side_began, side_ended as port_ended, came_home}
use Rattle.mq_queue_side.specs.Side.{SideState, IsQueueSide}
use Rattle.mq_queue_side.specs.Homes.{StaysAt, GoesHome}
use Rattle.mq_queue_side.proofs.SideEnds.{SameRecords, moved, kept-along}

-- ---- of a port

module _ (k : KnownJournal) (q : ℕ) (us : List Tx) (p : PortState) (x : ℕ) (block : List ℕ) (log : LogOk k) (s : SideOk k q us p) (zone : zone_of k.geometry x ≡ Some q) (u : IsLoggedLast k x) where
  pub home_begun : SideOk k q us (begin_home k.geometry x block p)
  home_begun = side_began k log x block u q us p s zone

  pub home_ended : SideOk k q us (end_home k.geometry x block (begin_home k.geometry x block p))
  home_ended = port_ended k log x block u q us (begin_home k.geometry x block p) home_begun zone

  pub at_home : Certainly (end_home k.geometry x block (begin_home k.geometry x block p)) (home_index k.geometry x) block
  at_home = came_home k log x block u q us (begin_home k.geometry x block p) home_begun zone

-- ---- of a side

module _ (k : KnownJournal) (q : ℕ) (us : List Tx) (old new : SideState) (x lba : ℕ) (block : List ℕ) (log : LogOk k) (s : IsQueueSide k q us old) (zone : zone_of k.geometry x ≡ Some q) (u : IsLoggedLast k x) (lba_is : lba ≡ home_lba k.geometry x)
    (same : SameRecords old new) (kept : new.kept ≡ old.kept) where
  pub side_begun : new.port ≡ after_begin old.port lba block → IsQueueSide k q us new
  side_begun is =
      moved k q us old new (begin_home k.geometry x block old.port) (is ∙ ap (λ (n : ℕ). after_begin old.port n block) lba_is) same refl (omega arith) (home_begun k q us old.port x block log s.side zone u)
      (kept-along (k.from q) us old.port.failed old.port.pending old.port.doorbell old.kept new.kept kept s.kept) s

  pub side_ended : new.port ≡ after_end (after_begin old.port lba block) lba block → IsQueueSide k q us new × Certainly new.port (home_index k.geometry x) block
  side_ended is =
      let to : new.port ≡ end_home k.geometry x block (begin_home k.geometry x block old.port) = is ∙ ap (λ (n : ℕ). after_end (after_begin old.port n block) n block) lba_is in (
        moved k q us old new (end_home k.geometry x block (begin_home k.geometry x block old.port)) to same refl (omega arith) (home_ended k q us old.port x block log s.side zone u)
            (kept-along (k.from q) us old.port.failed old.port.pending old.port.doorbell old.kept new.kept kept s.kept) s,
        subst (λ (r : PortState). Certainly r (home_index k.geometry x) block) (sym to) (at_home k q us old.port x block log s.side zone u),
      )

  pub side_same : new.port ≡ old.port → IsQueueSide k q us new
  side_same is = moved k q us old new old.port is same refl (omega arith) s.side (kept-along (k.from q) us old.port.failed old.port.pending old.port.doorbell old.kept new.kept kept s.kept) s

-- ---- a call, however it ended

module _ (old new : SideState) (lba : ℕ) (block : List ℕ) (same : SameRecords old new) (kept : new.kept ≡ old.kept) where
  pub home_stays : (r : Result HomeStep Off) → HomeGives old.port old.faults lba block r new.port new.faults → StaysAt lba old new
  home_stays (Ok home.Done) gives q k us x log may s = (side_ended k q us old new x lba block log s may.zone may.last_is may.lba_is same kept gives.0).0
  home_stays (Ok (home.Error status)) gives q k us x log may s = side_begun k q us old new x lba block log s may.zone may.last_is may.lba_is same kept gives.1
  home_stays (Err off) gives q k us x log may s = elim gives.0 [
    | inl is ↦ side_same k q us old new x lba block log s may.zone may.last_is may.lba_is same kept is
    | inr is ↦ side_begun k q us old new x lba block log s may.zone may.last_is may.lba_is same kept is
  ]

  pub home_goes : (r : Result HomeStep Off) → HomeGives old.port old.faults lba block r new.port new.faults → GoesHome lba block old r new
  home_goes (Ok home.Done) gives = λ q k us x log may s. (side_ended k q us old new x lba block log s may.zone may.last_is may.lba_is same kept gives.0).1
  home_goes (Ok (home.Error status)) gives = tt
  home_goes (Err off) gives = tt
