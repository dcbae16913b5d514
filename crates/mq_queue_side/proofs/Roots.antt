-- The calls of the root keep it.
use Rattle.std.proofs.Common.{◌≡◌, ℕ, ◌≤◌, List, None, sym, ap, subst, ◌∙◌, inl, inr, arith}
use Rattle.std.specs.Prelude.{Result, Ok, Err}
use Rattle.mq_blocks.specs.Drive.{PortState, after_begin, after_end, after_store_base}
use Rattle.mq_drive.specs.Steps.{PortFault, HomeGives}
use Rattle.mq_drive.specs.declared.port.Off.{Off}
use Rattle.mq_drive.specs.declared.port.HomeStep.{HomeStep}
use Rattle.mq_drive.specs.declared.port.HomeStep.TheVariants as home
use Rattle.mq_ledger.specs.KnownJournal.{KnownJournal, LogOk}
use Rattle.mq_ledger.specs.Sides.{Certainly, RootOk, home_index}
use Rattle.mq_core.specs.Events.{begin_home, end_home}
use Rattle.mq_core.proofs.HomesWritten.{root_began, root_ended as port_ended, root_came}
use Rattle.mq_core.proofs.Roots.{root_stored, root_flushed}
use Rattle.mq_queue_side.specs.Homes.{MayGoHome, RootStaysAt, RootGoesHome}
use Rattle.mq_queue_side.specs.Roots.{IsRaiseCut, RootStays, after_raise}

-- ---- the base

-- it is not below the flushed one
stored_base : (k : KnownJournal) (p : PortState) (b : ℕ) → p.stored_base ≤ b → RootOk k p → RootOk k (after_store_base p b)
stored_base k p b up r = (let high = r.bases.1 in root_stored k p b r (omega arith))

pub raised : (old new : PortState) (b : ℕ) → old.stored_base ≤ b → new ≡ after_raise old b → RootStays old new
raised old new b up is k r = subst (λ (p : PortState). RootOk k p) (sym is) (root_flushed k (after_store_base old b) (stored_base k old b up r))

pub raise_cut : (old new : PortState) (b : ℕ) → old.stored_base ≤ b → IsRaiseCut old b new → RootStays old new
raise_cut old new b up (inl is) k r = subst (λ (p : PortState). RootOk k p) (sym is) r
raise_cut old new b up (inr is) k r = subst (λ (p : PortState). RootOk k p) (sym is) (stored_base k old b up r)

-- ---- home writes

module _ (k : KnownJournal) (p : PortState) (x lba : ℕ) (block : List ℕ) (log : LogOk k) (r : RootOk k p) (may : MayGoHome k None x lba) where
  begun : RootOk k (begin_home k.geometry x block p)
  begun = root_began k log x block may.last_is p r may.zone may.block

  abbrev then : PortState
  then = end_home k.geometry x block (begin_home k.geometry x block p)

  ended : RootOk k then
  ended = port_ended k log x block may.last_is (begin_home k.geometry x block p) begun may.zone may.block

  at_home : Certainly then (home_index k.geometry x) block
  at_home = root_came k log x block may.last_is (begin_home k.geometry x block p) begun may.zone may.block

  pub root_begun : (new : PortState) → new ≡ after_begin p lba block → RootOk k new
  root_begun new is = subst (λ (s : PortState). RootOk k s) (sym (is ∙ ap (λ (n : ℕ). after_begin p n block) may.lba_is)) begun

  ended_is : (new : PortState) → new ≡ after_end (after_begin p lba block) lba block → new ≡ then
  ended_is new is = is ∙ ap (λ (n : ℕ). after_end (after_begin p n block) n block) may.lba_is

  pub root_ended : (new : PortState) → new ≡ after_end (after_begin p lba block) lba block → RootOk k new × Certainly new (home_index k.geometry x) block
  root_ended new is = (
    subst (λ (s : PortState). RootOk k s) (sym (ended_is new is)) ended,
    subst (λ (s : PortState). Certainly s (home_index k.geometry x) block) (sym (ended_is new is)) at_home,
  )

pub root_stays : (old new : PortState) (faults more : List PortFault) (lba : ℕ) (block : List ℕ) (r : Result HomeStep Off) → HomeGives old faults lba block r new more → RootStaysAt lba old new
root_stays old new faults more lba block (Ok home.Done) gives k x log may root = (root_ended k old x lba block log root may new gives.0).0
root_stays old new faults more lba block (Ok (home.Error status)) gives k x log may root = root_begun k old x lba block log root may new gives.1
root_stays old new faults more lba block (Err off) gives k x log may root = elim gives.0 [
  | inl is ↦ subst (λ (s : PortState). RootOk k s) (sym is) root
  | inr is ↦ root_begun k old x lba block log root may new is
]

pub root_goes : (old new : PortState) (faults more : List PortFault) (lba : ℕ) (block : List ℕ) (r : Result HomeStep Off) → HomeGives old faults lba block r new more → RootGoesHome lba block old r new
root_goes old new faults more lba block (Ok home.Done) gives = λ k x log may root. (root_ended k old x lba block log root may new gives.0).1
root_goes old new faults more lba block (Ok (home.Error status)) gives = tt
root_goes old new faults more lba block (Err off) gives = tt
