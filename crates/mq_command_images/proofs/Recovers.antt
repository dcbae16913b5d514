-- What `recover` says, and that each status comes exactly where its cause holds.
use Rattle.std.proofs.Common.{◌≡◌, ℕ, List, Option, Some, refl, sym, ◌∙◌, subst}
use Rattle.std.specs.Prelude.{IfOk, MatchResult, Result}
use Rattle.mq_blocks.specs.Descriptor.{Descriptor}
use Rattle.mq_command_images.specs.Commands.{SavesAs, SaysOfImage, saved, unsaved}
use Rattle.mq_command_images.specs.Recovers.{IsRecoveredAs, IsRecoveredBy, Recovers, RefusesRecovery, not_recovered, recovered_text}
use Rattle.mq_command_images.specs.Recovers as recovers
use Rattle.mq_command_io.specs.Ending.{EndsWith, IsLoaded, IsNotLoaded, IsSaved, IsUnlessFailed, memory_line, not_loaded}
use Rattle.mq_command_io.proofs.Ending.{not-saved-status, unless_wanting}
use Rattle.mq_image.specs.Drives.{IsRead}
use Rattle.mq_image.specs.Faults.{HasFault}
use Rattle.mq_image.specs.File.{DriveImage, image_bytes}
use Rattle.mq_image.specs.declared.fault.FileFault.{FileFault}
use Rattle.mq_image.proofs.FileForms.{read-faulty, read-once}
use Rattle.mq_image_ops.specs.Standing.{Reads, RefusesDrive}
use Rattle.mq_image_ops.specs.declared.recovery.RecoveredImage.{RecoveredImage}
use Rattle.mq_image_ops.proofs.Standing.{read-refused}
use Rattle.mq_outside.specs.Outside.{FilesState, SinkState, Tells}
use Rattle.mq_recover.specs.declared.refusal.ImageFault.{ImageFault}
use Rattle.mq_command_images.proofs.CommandsExact.{of-image, one-held, refused-status, says-where}
use Rattle.mq_command_images.proofs.CommandsSaying.{says}

-- the end of `recover`
abbrev pub RecoverEnds : Option ℕ → (pick : ℕ) → (name : List ℕ) → (old new : FilesState) → (before after : SinkState) → ℕ → Type 0
RecoverEnds limit pick name old new before after result = (status : ℕ) × (text : List ℕ) × Recovers limit pick name old new status text × EndsWith status text result before after

-- ---- what is said

pub not-loaded-ends : (limit : Option ℕ) (pick : ℕ) (name : List ℕ) (old new : FilesState) (before after : SinkState) (result : ℕ) → (status : ℕ) × (text : List ℕ) × IsNotLoaded name old new status text × EndsWith status text result before after → RecoverEnds limit pick name old new before after result
not-loaded-ends limit pick name old new before after result said = (said.0, said.1, recovers.refused (not_loaded said.2), said.3)

pub refused-ends : {A E : Type 0} (stat : A → ℕ) (words : A → List ℕ) (limit : Option ℕ) (pick : ℕ) (name bytes : List ℕ) (old new : FilesState) (before mid after : SinkState) (answer : Result A E) (result : ℕ) → IsLoaded name bytes old new → mid ≡ before
    → IfOk answer (λ a. SaysOfImage RefusesRecovery bytes (stat a) (words a))
    → MatchResult answer (λ a. EndsWith (stat a) (words a) result mid after) (λ _. EndsWith 6 memory_line result mid after)
    → RecoverEnds limit pick name old new before after result
refused-ends stat words limit pick name bytes old new before mid after answer result load same of ends =
    let said = says stat words (SaysOfImage RefusesRecovery) name bytes old new before mid after answer result load same of ends in
    (said.0, said.1, recovers.refused said.2, said.3)

saves-as : (limit : Option ℕ) (pick : ℕ) (name bytes file said : List ℕ) (x : DriveImage) (r : RecoveredImage) (old mid new : FilesState) (status : ℕ) (text : List ℕ) → IsLoaded name bytes old mid → IsRead x bytes → IsRecoveredBy x limit pick r → file ≡ image_bytes r.image → said ≡ recovered_text r
    → SavesAs name file said mid new status text → Recovers limit pick name old new status text
saves-as limit pick name bytes file said x r old mid new _ _ load read recovery file_is said_is (saved save) =
    subst (λ (l : List ℕ). Recovers limit pick name old new 0 l) (sym said_is) (recovers.recovered bytes x r mid load read recovery (subst (λ (l : List ℕ). IsSaved name l mid new) file_is save))
saves-as limit pick name bytes file said x r old mid new _ _ load read recovery file_is said_is (unsaved not) = recovers.unsaved bytes mid load not

pub saved-ends : (limit : Option ℕ) (pick : ℕ) (name bytes file said stored words : List ℕ) (old mid new : FilesState) (before between after : SinkState) (result : ℕ) → IsLoaded name bytes old mid → between ≡ before → file ≡ stored → said ≡ words
    → (x : DriveImage) × IsRead x bytes × IsRecoveredAs x limit pick stored words
    → (status : ℕ) × (text : List ℕ) × SavesAs name file said mid new status text × EndsWith status text result between after → RecoverEnds limit pick name old new before after result
saved-ends limit pick name bytes file said stored words old mid new before between after result load same file_is said_is made ends =
    let recovery = made.2 in (
      ends.0,
      ends.1,
      saves-as limit pick name bytes file said made.0 recovery.0 old mid new ends.0 ends.1 load made.1 recovery.1 (file_is ∙ recovery.2.0) (said_is ∙ recovery.2.1) ends.2,
      subst (λ (s : SinkState). EndsWith ends.0 ends.1 result s after) same ends.3,
    )

-- ---- which status comes

says-refusal : (x : DriveImage) (wanted : ℕ) → ((e : ImageFault) → RefusesDrive x e → 3 ≡ wanted) → (s : ℕ) (t : List ℕ) → RefusesRecovery x s t → s ≡ wanted
says-refusal x wanted each _ _ (not_recovered e refuses) = each e refuses

done-status : (limit : Option ℕ) (pick : ℕ) (name bytes : List ℕ) (x : DriveImage) (ds : List Descriptor) (top : ℕ) (old new : FilesState) (result status : ℕ) (text : List ℕ) → Tells old.contents name (Some bytes) → IsRead x bytes → Reads x ds top
    → Recovers limit pick name old new status text → IsUnlessFailed status result → IsUnlessFailed 0 result
done-status limit pick name bytes x ds top old new result _ _ tells read reads (recovers.recovered other y r mid load is recovery save) ends = ends
done-status limit pick name bytes x ds top old new result status text tells read reads (recovers.refused said) ends =
    says-where (SaysOfImage RefusesRecovery) name bytes 0 old new result status text tells
    (of-image RefusesRecovery bytes x 0 read (says-refusal x 0 (λ e refuses. absurd (read-refused x ds top e reads refuses)))) said ends
done-status limit pick name bytes x ds top old new result status text tells read reads (recovers.unsaved other mid load not) ends = not-saved-status name mid new status text 0 result not ends

pub done-where : (limit : Option ℕ) (pick : ℕ) (name bytes : List ℕ) (x : DriveImage) (ds : List Descriptor) (top : ℕ) (old new : FilesState) (before after : SinkState) (result : ℕ) → RecoverEnds limit pick name old new before after result → Tells old.contents name (Some bytes) → IsRead x bytes → Reads x ds top → IsUnlessFailed 0 result
done-where limit pick name bytes x ds top old new before after result ends tells read reads = done-status limit pick name bytes x ds top old new result ends.0 ends.1 tells read reads ends.2 (unless_wanting ends.0 ends.1 result before after ends.3)

fault-status : (limit : Option ℕ) (pick : ℕ) (name bytes : List ℕ) (e : FileFault) (old new : FilesState) (result status : ℕ) (text : List ℕ) → Tells old.contents name (Some bytes) → HasFault bytes (Some e) → Recovers limit pick name old new status text → IsUnlessFailed status result → IsUnlessFailed 3 result
fault-status limit pick name bytes e old new result _ _ tells has (recovers.recovered other y r mid load is recovery save) ends =
    absurd (read-faulty y bytes e (subst (IsRead y) (one-held old.contents name bytes other tells load.holds) is) has)
fault-status limit pick name bytes e old new result status text tells has (recovers.refused said) ends =
    says-where (SaysOfImage RefusesRecovery) name bytes 3 old new result status text tells (refused-status RefusesRecovery bytes e has) said ends
fault-status limit pick name bytes e old new result status text tells has (recovers.unsaved other mid load not) ends = not-saved-status name mid new status text 3 result not ends

pub fault-where : (limit : Option ℕ) (pick : ℕ) (name bytes : List ℕ) (e : FileFault) (old new : FilesState) (before after : SinkState) (result : ℕ) → RecoverEnds limit pick name old new before after result → Tells old.contents name (Some bytes) → HasFault bytes (Some e) → IsUnlessFailed 3 result
fault-where limit pick name bytes e old new before after result ends tells has = fault-status limit pick name bytes e old new result ends.0 ends.1 tells has ends.2 (unless_wanting ends.0 ends.1 result before after ends.3)

unreadable-status : (limit : Option ℕ) (pick : ℕ) (name bytes : List ℕ) (x : DriveImage) (e : ImageFault) (old new : FilesState) (result status : ℕ) (text : List ℕ) → Tells old.contents name (Some bytes) → IsRead x bytes → RefusesDrive x e → Recovers limit pick name old new status text → IsUnlessFailed status result → IsUnlessFailed 3 result
unreadable-status limit pick name bytes x e old new result _ _ tells read refuses (recovers.recovered other y r mid load is recovery save) ends =
    let same : y ≡ x = read-once y x bytes (subst (IsRead y) (one-held old.contents name bytes other tells load.holds) is) read in
    let found = recovery.recovery in
    absurd (read-refused y found.ds found.top e found.plan.read (subst (λ (z : DriveImage). RefusesDrive z e) (sym same) refuses))
unreadable-status limit pick name bytes x e old new result status text tells read refuses (recovers.refused said) ends =
    says-where (SaysOfImage RefusesRecovery) name bytes 3 old new result status text tells (of-image RefusesRecovery bytes x 3 read (says-refusal x 3 (λ f other. refl))) said ends
unreadable-status limit pick name bytes x e old new result status text tells read refuses (recovers.unsaved other mid load not) ends = not-saved-status name mid new status text 3 result not ends

pub unreadable-where : (limit : Option ℕ) (pick : ℕ) (name bytes : List ℕ) (x : DriveImage) (e : ImageFault) (old new : FilesState) (before after : SinkState) (result : ℕ) → RecoverEnds limit pick name old new before after result → Tells old.contents name (Some bytes) → IsRead x bytes → RefusesDrive x e → IsUnlessFailed 3 result
unreadable-where limit pick name bytes x e old new before after result ends tells read refuses = unreadable-status limit pick name bytes x e old new result ends.0 ends.1 tells read refuses ends.2 (unless_wanting ends.0 ends.1 result before after ends.3)
