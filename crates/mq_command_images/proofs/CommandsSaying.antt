-- What is said of bytes that were loaded.
use Rattle.std.proofs.Common.{◌≡◌, ◌≢◌, ◌⊎◌, inl, inr, ℕ, List, Option, Some, refl, sym, ◌∙◌, subst}
use Rattle.std.specs.Prelude.{Result, Ok, Err, IfOk, MatchResult, codes}
use Rattle.mq_blocks.specs.declared.geometry.Geometry.{Geometry}
use Rattle.mq_blocks.specs.declared.geometry.GeometryRefusal.{GeometryRefusal}
use Rattle.mq_command_images.specs.Commands.{Formats, RefusesName, RefusesNumbers, SavesAs, SaysNothing, SaysOfImage, ShowsFile, formatted, is_image, no_file, no_geometry, no_image, not_saved, numbers_of, saved, shown, unsaved, wants_memory}
use Rattle.mq_command_images.specs.Lines.{file_line, geometry_line, path_line}
use Rattle.mq_command_images.specs.declared.formatting.Numbers.{Numbers}
use Rattle.mq_command_io.specs.Ending.{EndsWith, IsLoaded, IsNotLoaded, IsSaved, SaysOf, loaded, memory_line, not_loaded, wanting}
use Rattle.mq_command_io.proofs.Ending.{not-loaded-same}
use Rattle.mq_image.specs.Drives.{IsRead}
use Rattle.mq_image.specs.Faults.{HasFault, Refuses}
use Rattle.mq_image.specs.File.{DriveImage, image_bytes}
use Rattle.mq_image_ops.specs.Empty.{IsEmptyDrive}
use Rattle.mq_image_ops.specs.Standing.{StandsFor}
use Rattle.mq_tree.specs.Trees.{IsAlike, ReadsAs}
use Rattle.mq_tree.specs.Volume.{Path, Volume}
use Rattle.mq_tree.specs.declared.request.Fault.{Fault}
use Rattle.mq_tree.proofs.VolumeAlike.{alike-reads}
use Rattle.mq_image.specs.declared.fault.FileFault.{FileFault}
use Rattle.mq_image.specs.declared.fault.FileFault.TheVariants as file
use Rattle.mq_outside.specs.Outside.{FilesState, SinkState}

-- the same of equal statuses and texts
pub said-as : (Of : ℕ → List ℕ → Type 0) (status s : ℕ) (text t : List ℕ) → s ≡ status → t ≡ text → Of status text → Of s t
said-as Of status s text t same alike of = subst (λ (l : List ℕ). Of s l) (sym alike) (subst (λ (n : ℕ). Of n text) (sym same) of)

-- the answer to a refusal with its line
pub refused-as : {A E : Type 0} (stat : A → ℕ) (words : A → List ℕ) (Of : ℕ → List ℕ → Type 0) (line : List ℕ) (Other : Type 0) (r : Result A E) → IfOk r (λ a. (stat a ≡ 3) × (words a ≡ line) × Other) → (Other → Of 3 line) → IfOk r (λ a. Of (stat a) (words a))
refused-as stat words Of line Other (Ok a) is of = said-as Of 3 (stat a) line (words a) is.0 is.1 (of is.2)
refused-as stat words Of line Other (Err e) is of = tt

some-fault : (f : Option FileFault) (e : FileFault) → Refuses f e → e ≢ file.OutOfMemory → f ≡ Some e
some-fault f (file.Short need have) refuses other = refuses
some-fault f file.Magic refuses other = refuses
some-fault f (file.Version found) refuses other = refuses
some-fault f (file.Geometry refusal) refuses other = refuses
some-fault f (file.Reserved found) refuses other = refuses
some-fault f (file.Count found) refuses other = refuses
some-fault f (file.Order index) refuses other = refuses
some-fault f (file.Zero lba) refuses other = refuses
some-fault f (file.Extra bytes) refuses other = refuses
some-fault f (file.OldWords queue) refuses other = refuses
some-fault f file.OutOfMemory refuses other = absurd (other refl)

-- what is said of bytes that are refused
pub no-image : (Of : DriveImage → ℕ → List ℕ → Type 0) (bytes : List ℕ) (e : FileFault) → ((text : List ℕ) → (fault : Option FileFault) × HasFault text fault) → ((fault : Option FileFault) → HasFault bytes fault → Refuses fault e) → e ≢ file.OutOfMemory → SaysOfImage Of bytes 3 (file_line e)
no-image Of bytes e first finds other =
    let has = first bytes in
    no_image e (subst (HasFault bytes) (some-fault has.0 e (finds has.0 has.1) other) has.1)

-- what is said of bytes that were loaded, by the answer to them
pub says : {A E : Type 0} (stat : A → ℕ) (words : A → List ℕ) (Of : List ℕ → ℕ → List ℕ → Type 0) (name bytes : List ℕ) (old new : FilesState) (before mid after : SinkState) (answer : Result A E) (result : ℕ) → IsLoaded name bytes old new → mid ≡ before
    → IfOk answer (λ a. Of bytes (stat a) (words a))
    → MatchResult answer (λ a. EndsWith (stat a) (words a) result mid after) (λ _. EndsWith 6 memory_line result mid after)
    → (status : ℕ) × (text : List ℕ) × SaysOf Of name old new status text × EndsWith status text result before after
says stat words Of name bytes old new before mid after (Ok a) result load same of ends =
    (stat a, words a, loaded bytes load of, subst (λ (s : SinkState). EndsWith (stat a) (words a) result s after) same ends)
says stat words Of name bytes old new before mid after (Err e) result load same of ends =
    (6, memory_line, wanting bytes load refl refl, subst (λ (s : SinkState). EndsWith 6 memory_line result s after) same ends)

pub says-not : (Of : List ℕ → ℕ → List ℕ → Type 0) (name : List ℕ) (old new : FilesState) (before after : SinkState) (result : ℕ) → (status : ℕ) × (text : List ℕ) × IsNotLoaded name old new status text × EndsWith status text result before after
    → (status : ℕ) × (text : List ℕ) × SaysOf Of name old new status text × EndsWith status text result before after
says-not Of name old new before after result said = (said.0, said.1, not_loaded said.2, said.3)

-- what is said of the image that a name holds
pub says-of-image : {A E : Type 0} (stat : A → ℕ) (words : A → List ℕ) (Of : DriveImage → ℕ → List ℕ → Type 0) (name : List ℕ) (x : DriveImage) (old new : FilesState) (before mid after : SinkState) (answer : Result A E) (result : ℕ)
    → (bytes : List ℕ) × IsLoaded name bytes old new × IsRead x bytes → mid ≡ before → IfOk answer (λ a. Of x (stat a) (words a))
    → MatchResult answer (λ a. EndsWith (stat a) (words a) result mid after) (λ _. EndsWith 6 memory_line result mid after)
    → (status : ℕ) × (text : List ℕ) × SaysOf (SaysOfImage Of) name old new status text × EndsWith status text result before after
says-of-image {A} {E} stat words Of name x old new before mid after answer result load same of ends =
    says stat words (SaysOfImage Of) name load.0 old new before mid after answer result load.1 same (image-of answer of) ends
  where
    image-of : (r : Result A E) → IfOk r (λ a. Of x (stat a) (words a)) → IfOk r (λ a. SaysOfImage Of load.0 (stat a) (words a))
    image-of (Ok a) says = is_image x load.2 says
    image-of (Err e) says = tt

none-of : (Of : DriveImage → ℕ → List ℕ → Type 0) (bytes : List ℕ) (status : ℕ) (text : List ℕ) → SaysOfImage SaysNothing bytes status text → SaysOfImage Of bytes status text
none-of Of bytes _ _ (is_image x read nothing) = absurd nothing
none-of Of bytes _ _ (no_image e has) = no_image e has

name-refused : (Of : DriveImage → ℕ → List ℕ → Type 0) (name : List ℕ) (old new : FilesState) (status : ℕ) (text : List ℕ) → RefusesName name old new status text → SaysOf (SaysOfImage Of) name old new status text
name-refused Of name old new status text (loaded bytes load none) = loaded bytes load (none-of Of bytes status text none)
name-refused Of name old new status text (not_loaded not) = not_loaded not
name-refused Of name old new status text (wanting bytes load six line) = wanting bytes load six line

-- the same where it holds none
pub says-no-image : (Of : DriveImage → ℕ → List ℕ → Type 0) (name : List ℕ) (old new : FilesState) (before after : SinkState) (result : ℕ) → (status : ℕ) × (text : List ℕ) × RefusesName name old new status text × EndsWith status text result before after
    → (status : ℕ) × (text : List ℕ) × SaysOf (SaysOfImage Of) name old new status text × EndsWith status text result before after
says-no-image Of name old new before after result said = (said.0, said.1, name-refused Of name old new said.0 said.1 said.2, said.3)

-- then the names hold what they held
pub name-same : (name : List ℕ) (old new : FilesState) (status : ℕ) (text : List ℕ) → RefusesName name old new status text → new.contents ≡ old.contents
name-same name old new status text (loaded bytes load none) = load.contents
name-same name old new status text (not_loaded not) = not-loaded-same name old new status text not
name-same name old new status text (wanting bytes load six line) = load.contents

-- a tree that is alike is read alike
pub reads-along : (t v : Volume) (path : Path) (r : Result (List ℕ) Fault) → IsAlike t v → ReadsAs t path r → ReadsAs v path r
reads-along t v path r alike reads = λ g q at count. sym (alike-reads g q t v alike path at count) ∙ reads g q at count

-- what is said of the bytes of a file, or of why there are none
pub shows : (path : Path) (x : DriveImage) (t : Volume) (bytes : List ℕ) → (v : Volume) × StandsFor x v × IsAlike t v → ReadsAs t path (Ok bytes) → ShowsFile path x 0 bytes
shows path x t bytes found reads = shown found.0 bytes found.1 (reads-along t found.0 path (Ok bytes) found.2 reads)

pub shows-none : (path : Path) (x : DriveImage) (t : Volume) (fault : Fault) → (v : Volume) × StandsFor x v × IsAlike t v → ReadsAs t path (Err fault) → ShowsFile path x 3 (path_line fault)
shows-none path x t fault found reads = no_file found.0 fault found.1 (reads-along t found.0 path (Err fault) found.2 reads)

pub refused-as-two : {A E : Type 0} (stat : A → ℕ) (words : A → List ℕ) (Of : ℕ → List ℕ → Type 0) (line : List ℕ) (r : Result A E) → IfOk r (λ a. (stat a ≡ 3) × (words a ≡ line)) → Of 3 line → IfOk r (λ a. Of (stat a) (words a))
refused-as-two stat words Of line (Ok a) is of = said-as Of 3 (stat a) line (words a) is.0 is.1 of
refused-as-two stat words Of line (Err e) is of = tt

-- ---- `format`

-- what is said where an image was to be saved
pub formats : (n : Numbers) (name file : List ℕ) (g : Geometry) (x : DriveImage) (old new : FilesState) (before after : SinkState) (result : ℕ) → numbers_of g ≡ n → IsEmptyDrive g x → file ≡ image_bytes x
    → (status : ℕ) × (text : List ℕ) × SavesAs name file (codes "formatted\n") old new status text × EndsWith status text result before after
    → (status : ℕ) × (text : List ℕ) × Formats n name old new status text × EndsWith status text result before after
formats n name file g x old new before after result are empty is said = (said.0, said.1, saves n name file g x old new said.0 said.1 are empty is said.2, said.3)
  where
    saves : (n : Numbers) (name file : List ℕ) (g : Geometry) (x : DriveImage) (old new : FilesState) (status : ℕ) (text : List ℕ) → numbers_of g ≡ n → IsEmptyDrive g x → file ≡ image_bytes x → SavesAs name file (codes "formatted\n") old new status text → Formats n name old new status text
    saves n name file g x old new _ _ are empty is (saved save) = formatted g x are empty (subst (λ (l : List ℕ). IsSaved name l old new) is save)
    saves n name file g x old new _ _ are empty is (unsaved not) = not_saved not

-- what is said of numbers that are no geometry
pub no-numbers : (n : Numbers) (name : List ℕ) (files : FilesState) (e : GeometryRefusal) (before after : SinkState) (result : ℕ) → RefusesNumbers n e → EndsWith 3 (geometry_line e) result before after ⊎ EndsWith 6 memory_line result before after
    → (status : ℕ) × (text : List ℕ) × Formats n name files files status text × EndsWith status text result before after
no-numbers n name files e before after result refuses (inl ends) = (3, geometry_line e, no_geometry e refuses refl, ends)
no-numbers n name files e before after result refuses (inr ends) = (6, memory_line, wants_memory refl, ends)
