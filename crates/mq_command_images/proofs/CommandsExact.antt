-- Each status comes exactly where its cause holds.
use Rattle.std.proofs.Common.{◌≡◌, ℕ, List, Option, Some, None, refl, sym, ◌∙◌, ap, subst}
use Rattle.std.specs.Prelude.{Ok, Err, Result}
use Rattle.mq_blocks.specs.Geometry.{AreHomes, IsArea, IsQueues, area_of, meta_of, queues_of, zone_size}
use Rattle.mq_blocks.specs.declared.geometry.Geometry.{Geometry}
use Rattle.mq_blocks.specs.declared.geometry.GeometryRefusal.{GeometryRefusal}
use Rattle.mq_blocks.specs.declared.geometry.GeometryRefusal.TheVariants.{Queues, Area, Homes}
use Rattle.mq_command_images.specs.Commands.{Dumps, Formats, Lists, RefusesNumbers, SaysOfImage, ShowsFile, dumped, formatted, is_image, listed, no_file, no_geometry, no_image, not_dumped, not_listed, not_saved, not_shown, numbers_of, shown, wants_memory}
use Rattle.mq_command_images.specs.declared.formatting.Numbers.{Numbers}
use Rattle.mq_command_io.specs.Ending.{EndsWith, IsUnlessFailed, SaysOf, loaded, not_loaded, wanting}
use Rattle.mq_command_io.proofs.Ending.{not-loaded-status, not-saved-status, still-memory, unless_wanting}
use Rattle.mq_image.specs.Drives.{IsRead}
use Rattle.mq_image.specs.Faults.{HasFault, IsGeometryIn, fault_of}
use Rattle.mq_image.specs.File.{DriveImage, queue_ports, root_port}
use Rattle.mq_image.specs.declared.fault.FileFault.{FileFault}
use Rattle.mq_image.proofs.FileForms.{read-faulty, read-once}
use Rattle.mq_image_ops.specs.Standing.{HasNoVolume, RefusesDrive, StandsFor}
use Rattle.mq_image_ops.proofs.Standing.{whole-refused}
use Rattle.mq_image_ops.proofs.StandingVolumes.{stands-none, stands-once, stands-refused}
use Rattle.mq_outside.specs.Outside.{FilesState, Held, Holds, SinkState, Tells}
use Rattle.mq_recover.specs.declared.refusal.ImageFault.{ImageFault}
use Rattle.mq_tree.specs.Trees.{ReadsAs, read_answer}
use Rattle.mq_tree.specs.Volume.{Path, Volume}
use Rattle.mq_tree.specs.declared.request.Fault.{Fault}
use Rattle.mq_blocks.specs.Descriptor.{Descriptor}
use Rattle.mq_blocks.specs.Journal.{AreWhole}
use Rattle.mq_image_ops.specs.Views.{view_of}

-- ---- the status of what is said

pub refused-status : (Of : DriveImage → ℕ → List ℕ → Type 0) (bytes : List ℕ) (e : FileFault) → HasFault bytes (Some e) → (s : ℕ) (t : List ℕ) → SaysOfImage Of bytes s t → s ≡ 3
refused-status Of bytes e has s t (is_image y read of) = absurd (read-faulty y bytes e read has)
refused-status Of bytes e has _ _ (no_image other faulty) = refl

pub of-image : (Of : DriveImage → ℕ → List ℕ → Type 0) (bytes : List ℕ) (x : DriveImage) (wanted : ℕ) → IsRead x bytes → ((s : ℕ) (t : List ℕ) → Of x s t → s ≡ wanted) → (s : ℕ) (t : List ℕ) → SaysOfImage Of bytes s t → s ≡ wanted
of-image Of bytes x wanted read each s t (is_image y other of) = each s t (subst (λ (z : DriveImage). Of z s t) (read-once y x bytes other read) of)
of-image Of bytes x wanted read each _ _ (no_image e faulty) = absurd (read-faulty x bytes e read faulty)

lists-done : (x : DriveImage) (v : Volume) → StandsFor x v → (s : ℕ) (t : List ℕ) → Lists x s t → s ≡ 0
lists-done x v for _ _ (listed w other) = refl
lists-done x v for _ _ (not_listed e refuses other) = absurd (stands-refused x v e for refuses other)

lists-none : (x : DriveImage) → HasNoVolume x → (s : ℕ) (t : List ℕ) → Lists x s t → s ≡ 3
lists-none x none _ _ (listed w for) = absurd (stands-none x w for none)
lists-none x none _ _ (not_listed e refuses other) = refl

dumps-refused : (x : DriveImage) (e : ImageFault) → RefusesDrive x e → (s : ℕ) (t : List ℕ) → Dumps x s t → s ≡ 3
dumps-refused x e refuses _ _ (dumped text is) = absurd (whole-refused x is.chains e is.whole refuses)
dumps-refused x e refuses _ _ (not_dumped f other) = refl

dumps-done : (x : DriveImage) (chains : ℕ → List Descriptor) → AreWhole x.geometry (view_of x) chains → (s : ℕ) (t : List ℕ) → Dumps x s t → s ≡ 0
dumps-done x chains whole _ _ (dumped text is) = refl
dumps-done x chains whole _ _ (not_dumped e refuses) = absurd (whole-refused x chains e whole refuses)

-- a path reads as bytes or as none
reads-apart : (v : Volume) (path : Path) (bytes : List ℕ) (fault : Fault) → ReadsAs v path (Ok bytes) → ReadsAs v path (Err fault) → Geometry → ⊥
reads-apart v path bytes fault some none g = let same : read_answer 0 0 (Ok bytes) ≡ read_answer 0 0 (Err fault) = sym (some g 0 0 0) ∙ none g 0 0 0 in cc

shows-done : (path : Path) (x : DriveImage) (v : Volume) (bytes : List ℕ) → StandsFor x v → ReadsAs v path (Ok bytes) → (s : ℕ) (t : List ℕ) → ShowsFile path x s t → s ≡ 0
shows-done path x v bytes for reads _ _ (shown w other stands same) = refl
shows-done path x v bytes for reads _ _ (no_file w fault stands none) = absurd (reads-apart v path bytes fault reads (subst (λ (u : Volume). ReadsAs u path (Err fault)) (stands-once x w v stands for) none) x.geometry)
shows-done path x v bytes for reads _ _ (not_shown e refuses other) = absurd (stands-refused x v e for refuses other)

shows-none : (path : Path) (x : DriveImage) (v : Volume) (fault : Fault) → StandsFor x v → ReadsAs v path (Err fault) → (s : ℕ) (t : List ℕ) → ShowsFile path x s t → s ≡ 3
shows-none path x v fault for reads _ _ (shown w bytes stands some) = absurd (reads-apart v path bytes fault (subst (λ (u : Volume). ReadsAs u path (Ok bytes)) (stands-once x w v stands for) some) reads x.geometry)
shows-none path x v fault for reads _ _ (no_file w other stands none) = refl
shows-none path x v fault for reads _ _ (not_shown e refuses other) = refl

shows-no-volume : (path : Path) (x : DriveImage) → HasNoVolume x → (s : ℕ) (t : List ℕ) → ShowsFile path x s t → s ≡ 3
shows-no-volume path x none _ _ (shown w bytes for some) = absurd (stands-none x w for none)
shows-no-volume path x none _ _ (no_file w fault for missing) = refl
shows-no-volume path x none _ _ (not_shown e refuses other) = refl

-- ---- the status with which the command ends

pub one-held : (contents : Option Held) (name bytes other : List ℕ) → Tells contents name (Some bytes) → Holds contents name other → other ≡ bytes
one-held None name bytes other tells holds = absurd tells
one-held (Some held) name bytes other tells holds = let same : ◌≡◌ {A = Option (List ℕ)} (Some other) (Some bytes) = sym holds ∙ tells in cc

pub says-where : (Of : List ℕ → ℕ → List ℕ → Type 0) (name bytes : List ℕ) (wanted : ℕ) (old new : FilesState) (result status : ℕ) (text : List ℕ) → Tells old.contents name (Some bytes) → ((s : ℕ) (t : List ℕ) → Of bytes s t → s ≡ wanted) → SaysOf Of name old new status text → IsUnlessFailed status result → IsUnlessFailed wanted result
says-where Of name bytes wanted old new result status text tells each (loaded other load of) ends =
    let same : other ≡ bytes = one-held old.contents name bytes other tells load.holds in
    subst (λ (s : ℕ). IsUnlessFailed s result) (each status text (subst (λ (l : List ℕ). Of l status text) same of)) ends
says-where Of name bytes wanted old new result status text tells each (not_loaded not) ends = not-loaded-status name old new status text wanted result not ends
says-where Of name bytes wanted old new result status text tells each (wanting other load six line) ends = still-memory wanted result (subst (λ (s : ℕ). IsUnlessFailed s result) six ends)

-- a command's end
abbrev pub Ends : (Of : List ℕ → ℕ → List ℕ → Type 0) → (name : List ℕ) → (old new : FilesState) → (before after : SinkState) → ℕ → Type 0
Ends Of name old new before after result = (status : ℕ) × (text : List ℕ) × SaysOf Of name old new status text × EndsWith status text result before after

ends-where : (Of : List ℕ → ℕ → List ℕ → Type 0) (name bytes : List ℕ) (wanted : ℕ) (old new : FilesState) (before after : SinkState) (result : ℕ) → Ends Of name old new before after result → Tells old.contents name (Some bytes) → ((s : ℕ) (t : List ℕ) → Of bytes s t → s ≡ wanted) → IsUnlessFailed wanted result
ends-where Of name bytes wanted old new before after result ends tells each = says-where Of name bytes wanted old new result ends.0 ends.1 tells each ends.2 (unless_wanting ends.0 ends.1 result before after ends.3)

-- bytes that are no image
pub refused-where : (Of : DriveImage → ℕ → List ℕ → Type 0) (name bytes : List ℕ) (e : FileFault) (old new : FilesState) (before after : SinkState) (result : ℕ) → Ends (SaysOfImage Of) name old new before after result → Tells old.contents name (Some bytes) → HasFault bytes (Some e) → IsUnlessFailed 3 result
refused-where Of name bytes e old new before after result ends tells has = ends-where (SaysOfImage Of) name bytes 3 old new before after result ends tells (refused-status Of bytes e has)

-- an image of which all that there is to say has one status
pub image-where : (Of : DriveImage → ℕ → List ℕ → Type 0) (name bytes : List ℕ) (x : DriveImage) (wanted : ℕ) (old new : FilesState) (before after : SinkState) (result : ℕ) → Ends (SaysOfImage Of) name old new before after result → Tells old.contents name (Some bytes) → IsRead x bytes → ((s : ℕ) (t : List ℕ) → Of x s t → s ≡ wanted) → IsUnlessFailed wanted result
image-where Of name bytes x wanted old new before after result ends tells read each = ends-where (SaysOfImage Of) name bytes wanted old new before after result ends tells (of-image Of bytes x wanted read each)

pub listed-where : (name bytes : List ℕ) (x : DriveImage) (v : Volume) (old new : FilesState) (before after : SinkState) (result : ℕ) → Ends (SaysOfImage Lists) name old new before after result → Tells old.contents name (Some bytes) → IsRead x bytes → StandsFor x v → IsUnlessFailed 0 result
listed-where name bytes x v old new before after result ends tells read for = image-where Lists name bytes x 0 old new before after result ends tells read (lists-done x v for)

pub unlisted-where : (name bytes : List ℕ) (x : DriveImage) (old new : FilesState) (before after : SinkState) (result : ℕ) → Ends (SaysOfImage Lists) name old new before after result → Tells old.contents name (Some bytes) → IsRead x bytes → HasNoVolume x → IsUnlessFailed 3 result
unlisted-where name bytes x old new before after result ends tells read none = image-where Lists name bytes x 3 old new before after result ends tells read (lists-none x none)

pub dumped-where : (name bytes : List ℕ) (x : DriveImage) (chains : ℕ → List Descriptor) (old new : FilesState) (before after : SinkState) (result : ℕ) → Ends (SaysOfImage Dumps) name old new before after result → Tells old.contents name (Some bytes) → IsRead x bytes → AreWhole x.geometry (view_of x) chains → IsUnlessFailed 0 result
dumped-where name bytes x chains old new before after result ends tells read whole = image-where Dumps name bytes x 0 old new before after result ends tells read (dumps-done x chains whole)

pub undumped-where : (name bytes : List ℕ) (x : DriveImage) (e : ImageFault) (old new : FilesState) (before after : SinkState) (result : ℕ) → Ends (SaysOfImage Dumps) name old new before after result → Tells old.contents name (Some bytes) → IsRead x bytes → RefusesDrive x e → IsUnlessFailed 3 result
undumped-where name bytes x e old new before after result ends tells read refuses = image-where Dumps name bytes x 3 old new before after result ends tells read (dumps-refused x e refuses)

pub shown-where : (path : Path) (name bytes : List ℕ) (x : DriveImage) (v : Volume) (content : List ℕ) (old new : FilesState) (before after : SinkState) (result : ℕ) → Ends (SaysOfImage (ShowsFile path)) name old new before after result → Tells old.contents name (Some bytes) → IsRead x bytes → StandsFor x v → ReadsAs v path (Ok content) → IsUnlessFailed 0 result
shown-where path name bytes x v content old new before after result ends tells read for reads = image-where (ShowsFile path) name bytes x 0 old new before after result ends tells read (shows-done path x v content for reads)

pub no-file-where : (path : Path) (name bytes : List ℕ) (x : DriveImage) (v : Volume) (fault : Fault) (old new : FilesState) (before after : SinkState) (result : ℕ) → Ends (SaysOfImage (ShowsFile path)) name old new before after result → Tells old.contents name (Some bytes) → IsRead x bytes → StandsFor x v → ReadsAs v path (Err fault) → IsUnlessFailed 3 result
no-file-where path name bytes x v fault old new before after result ends tells read for reads = image-where (ShowsFile path) name bytes x 3 old new before after result ends tells read (shows-none path x v fault for reads)

pub not-shown-where : (path : Path) (name bytes : List ℕ) (x : DriveImage) (old new : FilesState) (before after : SinkState) (result : ℕ) → Ends (SaysOfImage (ShowsFile path)) name old new before after result → Tells old.contents name (Some bytes) → IsRead x bytes → HasNoVolume x → IsUnlessFailed 3 result
not-shown-where path name bytes x old new before after result ends tells read none = image-where (ShowsFile path) name bytes x 3 old new before after result ends tells read (shows-no-volume path x none)

-- ---- `format`

good-numbers : (g : Geometry) → IsQueues (queues_of g) × IsArea (area_of g) × AreHomes (queues_of g) (meta_of g) (zone_size g)
good-numbers g =
    let a = g.queues_low in
    let b = g.queues_high in
    let c = g.area_low in
    let d = g.area_high in
    let e = g.meta_low in
    let f = g.zone_low in
    let h = g.homes_high in
    ((a, b), (c, d), (e, f, h))

numbers-good : (n : Numbers) (g : Geometry) (e : GeometryRefusal) → numbers_of g ≡ n → RefusesNumbers n e → ⊥
numbers-good n g (Queues found) are refuses = (subst (λ (m : Numbers). RefusesNumbers m (Queues found)) (sym are) refuses).1 (good-numbers g).0
numbers-good n g (Area found) are refuses = (subst (λ (m : Numbers). RefusesNumbers m (Area found)) (sym are) refuses).2 (good-numbers g).1
numbers-good n g (Homes meta zone) are refuses = (subst (λ (m : Numbers). RefusesNumbers m (Homes meta zone)) (sym are) refuses).4 (good-numbers g).2

formats-done : (n : Numbers) (name : List ℕ) (g : Geometry) (old new : FilesState) (result status : ℕ) (text : List ℕ) → numbers_of g ≡ n → Formats n name old new status text → IsUnlessFailed status result → IsUnlessFailed 0 result
formats-done n name g old new result _ _ are (formatted h x own empty save) ends = ends
formats-done n name g old new result _ _ are (no_geometry e refuses same) ends = absurd (numbers-good n g e are refuses)
formats-done n name g old new result _ _ are (not_saved not) ends = not-saved-status name old new _ _ 0 result not ends
formats-done n name g old new result _ _ are (wants_memory same) ends = still-memory 0 result ends

formats-refused : (n : Numbers) (name : List ℕ) (e : GeometryRefusal) (old new : FilesState) (result status : ℕ) (text : List ℕ) → RefusesNumbers n e → Formats n name old new status text → IsUnlessFailed status result → IsUnlessFailed 3 result
formats-refused n name e old new result _ _ refuses (formatted h x own empty save) ends = absurd (numbers-good n h e own refuses)
formats-refused n name e old new result _ _ refuses (no_geometry f other same) ends = ends
formats-refused n name e old new result _ _ refuses (not_saved not) ends = not-saved-status name old new _ _ 3 result not ends
formats-refused n name e old new result _ _ refuses (wants_memory same) ends = still-memory 3 result ends

-- the end of `format`
abbrev pub FormatEnds : Numbers → (name : List ℕ) → (old new : FilesState) → (before after : SinkState) → ℕ → Type 0
FormatEnds n name old new before after result = (status : ℕ) × (text : List ℕ) × Formats n name old new status text × EndsWith status text result before after

pub formatted-where : (n : Numbers) (name : List ℕ) (g : Geometry) (old new : FilesState) (before after : SinkState) (result : ℕ) → FormatEnds n name old new before after result → numbers_of g ≡ n → IsUnlessFailed 0 result
formatted-where n name g old new before after result ends are = formats-done n name g old new result ends.0 ends.1 are ends.2 (unless_wanting ends.0 ends.1 result before after ends.3)

pub no-geometry-where : (n : Numbers) (name : List ℕ) (e : GeometryRefusal) (old new : FilesState) (before after : SinkState) (result : ℕ) → FormatEnds n name old new before after result → RefusesNumbers n e → IsUnlessFailed 3 result
no-geometry-where n name e old new before after result ends refuses = formats-refused n name e old new result ends.0 ends.1 refuses ends.2 (unless_wanting ends.0 ends.1 result before after ends.3)
