-- At what getting another size looks.
use Rattle.std.proofs.Common.{◌≡◌, ℕ, ◌*◌, ◌<◌, ◌≤◌, inl, inr, List, length, Bool, true, false, cond, refl, ap, ◌∙◌, arith}
use Rattle.std.specs.Prelude.{Some, None, max}
use Rattle.std.specs.List.{list_all}
use Rattle.std.proofs.lemmas.Bool.{le-ltb}
use Rattle.std.proofs.lemmas.Option.{slice_get_within}
use Rattle.mq_blocks.specs.Geometry.{queues_of}
use Rattle.mq_blocks.specs.declared.geometry.Geometry.{Geometry}
use Rattle.mq_exec.specs.Cuts.{LooksCut, marks, pointer_marks, pointers, part}
use Rattle.mq_exec.specs.Longer.{LooksLonger, longer_needs}
use Rattle.mq_exec.specs.Plans.{IsFound, on_body, on_file}
use Rattle.mq_exec.specs.declared.file.Found.{Found}
use Rattle.mq_exec.proofs.LongerFilling.{truncate-makes}
use Rattle.mq_exec.proofs.LongerResized.{IsResizing, resizing-does, resizing-done, resizing-looks, resizing-pointers}
use Rattle.mq_exec.proofs.Cuts.{needs-none}
use Rattle.mq_exec.proofs.PlansTargets.{found-under}
use Rattle.mq_inodes.specs.Changes.{zone_in}
use Rattle.mq_inodes.specs.Opened.{cut_file}
use Rattle.mq_inodes.proofs.ChangesLists.{part-gone, pointers-gone}
use Rattle.mq_inodes.proofs.ChangesSteps.{gone-free}
use Rattle.mq_inodes.proofs.ChangesVolumes.{resized-cut}
use Rattle.mq_inodes.proofs.Sound.{sound-count, sound-uses}
use Rattle.mq_layout.specs.Names.{is_name}
use Rattle.mq_layout.specs.Places.{file_limit, zone_bitmap}
use Rattle.mq_tree.proofs.SoundVolumes.{used-low as used-inside}
use Rattle.mq_tree.specs.Free.{free_blocks}
use Rattle.mq_tree.specs.Looks.{LooksAt, bytes as at_bytes, freed as at_freed}
use Rattle.mq_tree.specs.Requests.{In, Lost, RequestOutcome, Root, RequestTarget, Verdict, cut_to, refused, resized, set_bytes, target, truncate, truncate_in}
use Rattle.mq_tree.specs.Sound.{IsSound, blocks_for}
use Rattle.mq_tree.specs.Volume.{Body, Free, File, Dir, Part, Path, Pointers, Volume, body, has_block, is_taken, node, way, is_used, cut_node}
use Rattle.mq_tree.specs.declared.request.Fault.{Fault}
use Rattle.mq_tree.specs.declared.request.Fault.TheVariants.{BadName}
use Rattle.mq_tree.specs.declared.request.Request.TheVariants.{Truncate}
use Rattle.mq_tree.proofs.RequestsNodes.{cut-length}
use Rattle.mq_tree.proofs.FreeUses.{node-other}
use Rattle.mq_tree.proofs.LaidUses.{use-has, use-taken}

-- ---- what the request comes to

-- on what stands at its path
abbrev sized : Geometry → (queue : ℕ) → Volume → (size d : ℕ) → List ℕ → ℕ → List ℕ → Verdict
sized g q v size d name i bytes = set_bytes g q v i size (cut_to size bytes)

truncate_in-on : (g : Geometry) (q : ℕ) (v : Volume) (size d : ℕ) (name : List ℕ) (i : ℕ) (x : Body) → truncate_in g q v i size x ≡ on_body (sized g q v size) d name i x
truncate_in-on g q v size d name i Free = refl
truncate_in-on g q v size d name i (File bytes) = refl
truncate_in-on g q v size d name i (Dir slots) = refl

truncate-on : (g : Geometry) (q : ℕ) (v : Volume) (size : ℕ) (t : RequestTarget) → truncate g q v size t ≡ on_file v (sized g q v size) t
truncate-on g q v size Root = refl
truncate-on g q v size (Lost fault) = refl
truncate-on g q v size (In d name None) = refl
truncate-on g q v size (In d name (Some i)) = truncate_in-on g q v size d name i (body v i)

pub truncate-refused : (g : Geometry) (q : ℕ) (v : Volume) (size : ℕ) (t : RequestTarget) (fault : Fault) → ((act : ℕ → List ℕ → ℕ → List ℕ → Verdict) → on_file v act t ≡ refused fault) → truncate g q v size t ≡ refused fault
truncate-refused g q v size t fault h = truncate-on g q v size t ∙ h (sized g q v size)

pub truncate-found : (g : Geometry) (q : ℕ) (v : Volume) (path : Path) (size : ℕ) (f : Found) → IsFound v path f → truncate g q v size (target v (way path)) ≡ truncate_in g q v f.number size (body v f.number)
truncate-found g q v path size f h = ap (λ (t : RequestTarget). truncate g q v size t) h.target_is

-- ---- a file that gets another size

abbrev pub IsSized : Geometry → (queue : ℕ) → Volume → Path → (i size : ℕ) → List ℕ → Type 0
IsSized g q v path i size bytes = IsResizing g q v (Truncate path size) i size bytes (cut_to size bytes)

pub sized-found : (g : Geometry) (q : ℕ) (v : Volume) (path : Path) (size : ℕ) (f : Found) → IsSound g v → q < queues_of g → list_all is_name path ≡ true → size ≤ file_limit → (h : IsFound v path f) → IsSized g q v path f.number size h.file.bytes
sized-found g q v path size f sound queue named limit h =
    let m = truncate-makes g q v f.number size h.file.bytes h.file.is limit in
    record {
      sound = sound;
      queue = queue;
      works = record { path = path; names = refl; leads = (found-under g v path f sound h).leads; is = h.file.is };
      makes = ap (λ (t : Bool). cond t (truncate g q v size (target v (way path))) (refused BadName)) named ∙ truncate-found g q v path size f h ∙ m.makes;
      length_is = m.length_is;
    }

-- ---- where it is filled

pub filled-looks : (g : Geometry) (q : ℕ) (v : Volume) (path : Path) (i size : ℕ) (bytes : List ℕ) (b : ℕ) → IsSized g q v path i size bytes → length bytes ≤ size → LooksLonger g q v i size 0 0 b → LooksAt g q v (Truncate path size) b
filled-looks g q v path i size bytes b h longer looks = resizing-looks g q v (Truncate path size) i size 0 0 bytes (cut_to size bytes) b h longer (λ place enough low high e. absurd (omega arith)) looks

-- ---- where it is cut

cut-few : (g : Geometry) (q : ℕ) (v : Volume) (path : Path) (i size : ℕ) (bytes : List ℕ) → IsSized g q v path i size bytes → size < length bytes → blocks_for size ≤ length (node v i).blocks
cut-few g q v path i size bytes h shorter = let c = sound-count g v i bytes h.sound h.works.is in omega arith

-- it takes no block
cut-enough : (g : Geometry) (q : ℕ) (v : Volume) (path : Path) (i size : ℕ) (bytes : List ℕ) → IsSized g q v path i size bytes → size < length bytes → longer_needs v i size ≤ free_blocks g v
cut-enough g q v path i size bytes h shorter = let n = needs-none (length (node v i).blocks) (blocks_for size) (cut-few g q v path i size bytes h shorter) in omega arith

cut-makes : (g : Geometry) (q : ℕ) (v : Volume) (path : Path) (i size : ℕ) (bytes : List ℕ) → IsSized g q v path i size bytes → size < length bytes → resized g q v i (cut_to size bytes) ≡ cut_file v i (blocks_for size) (cut_to size bytes)
cut-makes g q v path i size bytes h shorter =
    let n = cut-length size bytes in
    let few = cut-few g q v path i size bytes h shorter in
    resized-cut g q v i (cut_to size bytes) (omega arith) ∙ ap (λ (k : ℕ). cut_file v i (blocks_for k) (cut_to size bytes)) n

-- a block that it has no more
cut-frees : (g : Geometry) (q : ℕ) (v : Volume) (path : Path) (i size : ℕ) (bytes : List ℕ) (x b : ℕ) → IsSized g q v path i size bytes → size < length bytes → has_block (node v i) x ≡ true → has_block (node (cut_file v i (blocks_for size) (cut_to size bytes)) i) x ≡ false
    → is_taken v x ≡ true → b ≡ zone_bitmap (zone_in g x) → LooksAt g q v (Truncate path size) b
cut-frees g q v path i size bytes x b h shorter had has used at =
    let now = cut_to size bytes in
    let w = cut_file v i (blocks_for size) now in
    let free = gone-free g v w i x (sound-uses g v h.sound) (λ y away. node-other v i y (cut_node (node v i) (blocks_for size) now) away) had has in
    at_freed x used (ap (λ (o : RequestOutcome). is_taken o.next x) (resizing-does g q v (Truncate path size) i size bytes (cut_to size bytes) h (cut-enough g q v path i size bytes h shorter)) ∙ ap (λ (y : Volume). is_taken y x) (cut-makes g q v path i size bytes h shorter) ∙ free) at

pub cut-looks : (g : Geometry) (q : ℕ) (v : Volume) (path : Path) (i size : ℕ) (bytes : List ℕ) (b : ℕ) → IsSized g q v path i size bytes → size < length bytes → LooksCut g v i size b → LooksAt g q v (Truncate path size) b
cut-looks g q v path i size bytes b h shorter (part place low e) =
    let c = sound-count g v i bytes h.sound h.works.is in
    let l = slice_get_within (node v i).blocks place b e in
    at_bytes i place (max size (4096 * place)) bytes h.works (resizing-done g q v (Truncate path size) i size bytes (cut_to size bytes) h (cut-enough g q v path i size bytes h shorter)) e (omega arith) (omega arith) (omega arith)
cut-looks g q v path i size bytes b h shorter (pointers e) = resizing-pointers g q v (Truncate path size) i size bytes (cut_to size bytes) b h (cut-enough g q v path i size bytes h shorter) e
cut-looks g q v path i size bytes b h shorter (marks place x low e at) =
    cut-frees g q v path i size bytes x b h shorter (use-has (node v i) x (inl (place, e))) (part-gone g v i (blocks_for size) (cut_to size bytes) place x (sound-uses g v h.sound) (used-inside v i (ap (λ (x : Body). is_used x) h.works.is)) low e) (use-taken v (Part i place) x e) at
cut-looks g q v path i size bytes b h shorter (pointer_marks x few e at) =
    cut-frees g q v path i size bytes x b h shorter (use-has (node v i) x (inr e)) (pointers-gone g v i (blocks_for size) (cut_to size bytes) x (sound-uses g v h.sound) (used-inside v i (ap (λ (x : Body). is_used x) h.works.is)) (le-ltb 12 (blocks_for size) few) e) (use-taken v (Pointers i) x e) at
