-- Groups that are played one after another.
use Rattle.std.proofs.Common.{◌≡◌, ℕ, true, false, List, [], ◌∷◌, ◌++◌, refl, sym, ◌∙◌, ap, subst, append_assoc}
use Rattle.std.proofs.lemmas.List.{append-nil}
use Rattle.mq_blocks.specs.Drive.{PortState}
use Rattle.mq_blocks.specs.declared.geometry.Geometry.{Geometry}
use Rattle.mq_drive.specs.Steps.{PortFault}
use Rattle.mq_drive.specs.declared.port.Port.{Ghosts}
use Rattle.mq_journal.specs.Numbers.{Seat}
use Rattle.mq_kv_buckets.specs.declared.operation.KvOp.{KvOp}
use Rattle.mq_kv_entries.specs.declared.entry.KvEntry.{KvEntry}
use Rattle.mq_kv_run.specs.Played.{ArePlayed, IsPlayed, cut_off, is_off, next, whole}
use Rattle.mq_kv_text.specs.declared.report.GroupReport.{GroupReport}
use Rattle.mq_kv_text.specs.declared.report.GroupReport.TheVariants.{Large, Off, Synced}

off-only : (r : GroupReport) → is_off r ≡ true → r ≡ Off
off-only (Synced s) e = absurd (cc)
off-only (Large count) e = absurd (cc)
off-only Off e = refl

module _ {P : Type 0} {G : Ghosts P} (state : P → PortState) (faults : P → List PortFault) (g : Geometry) (queue : ℕ) where
  -- what is played of the groups that are left leads from here to where all of them lead from the start
  abbrev pub Goes : (groups left : List (List KvOp)) (reports : List GroupReport) (start now : Seat P KvEntry G) → Type 0
  Goes groups left reports start now =
      (more : List GroupReport) (end : Seat P KvEntry G) → ArePlayed state faults g queue left more now end → ArePlayed state faults g queue groups (reports ++ more) start end

  pub goes-first : (groups : List (List KvOp)) (reports : List GroupReport) (start : Seat P KvEntry G) → reports ≡ [] → Goes groups groups reports start start
  goes-first groups reports start none = λ more end played. subst (λ (l : List GroupReport). ArePlayed state faults g queue groups (l ++ more) start end) (sym none) played

  pub goes-on : (groups left : List (List KvOp)) (ops : List KvOp) (reports more : List GroupReport) (r : GroupReport) (start now new : Seat P KvEntry G) → Goes groups (ops ∷ left) reports start now
      → IsPlayed state faults g queue ops now new r → is_off r ≡ false → more ≡ reports ++ r ∷ [] → Goes groups left more start new
  goes-on groups left ops reports more r start now new goes played on is = λ rest end later.
      subst (λ (l : List GroupReport). ArePlayed state faults g queue groups l start end) (sym (ap (λ (l : List GroupReport). l ++ rest) is ∙ append_assoc reports (r ∷ []) rest)) (goes (r ∷ rest) end (next played on later))

  pub goes-off : (groups left : List (List KvOp)) (ops : List KvOp) (reports more : List GroupReport) (r : GroupReport) (start now new : Seat P KvEntry G) → Goes groups (ops ∷ left) reports start now
      → IsPlayed state faults g queue ops now new r → is_off r ≡ true → more ≡ reports ++ r ∷ [] → ArePlayed state faults g queue groups more start new
  goes-off groups left ops reports more r start now new goes played off is =
      subst (λ (l : List GroupReport). ArePlayed state faults g queue groups l start new) (sym (is ∙ ap (λ (x : GroupReport). reports ++ x ∷ []) (off-only r off)))
      (goes (Off ∷ []) new (cut_off (subst (IsPlayed state faults g queue ops now new) (off-only r off) played)))

  pub goes-all : (groups : List (List KvOp)) (reports : List GroupReport) (start now : Seat P KvEntry G) → Goes groups [] reports start now → ArePlayed state faults g queue groups reports start now
  goes-all groups reports start now goes = subst (λ (l : List GroupReport). ArePlayed state faults g queue groups l start now) (append-nil reports) (goes [] now whole)
