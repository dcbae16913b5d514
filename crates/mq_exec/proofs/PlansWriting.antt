-- Writing bytes into a file: what it comes to, and at what it looks.
use Rattle.std.proofs.Common.{◌≡◌, ◌≢◌, ℕ, ◌+◌, ◌*◌, ◌<◌, ◌≤◌, inl, inr, drop, List, [], ◌∷◌, ◌++◌, length, Bool, true, cond, refl, sym, ap, ◌∙◌, arith, length-append, ◌/◌}
use Rattle.std.specs.Prelude.{Some, None, max, nat_eq, slice_get}
use Rattle.std.specs.List.{list_all}
use Rattle.std.proofs.lemmas.Bool.{le-ltb, lt-ltb, ne_eqb}
use Rattle.std.proofs.lemmas.List.{length-drop}
use Rattle.mq_blocks.specs.Geometry.{queues_of}
use Rattle.mq_blocks.specs.declared.geometry.Geometry.{Geometry}
use Rattle.mq_exec.specs.Longer.{IsRewriting, LooksLonger, longer_needs}
use Rattle.mq_exec.specs.Overwrites.{IsSplicedAt, past_place}
use Rattle.mq_exec.specs.Plans.{IsFound, IsRefused, on_body, on_file}
use Rattle.mq_exec.specs.declared.file.Found.{Found}
use Rattle.mq_exec.proofs.RequestsLocalBytes.{spliced-after, spliced-before, spliced-in}
use Rattle.mq_exec.proofs.LongerResized.{IsResizing, resizing-done, resizing-looks}
use Rattle.mq_exec.proofs.OverwritesRewriting.{past-of}
use Rattle.mq_exec.proofs.PlansTargets.{found-under}
use Rattle.mq_inodes.proofs.Files.{file-size}
use Rattle.mq_layout.specs.Names.{is_name}
use Rattle.mq_layout.specs.Places.{file_limit}
use Rattle.mq_tree.specs.Free.{free_blocks, needs}
use Rattle.mq_tree.specs.Looks.{LooksAt, touched, bytes as at_bytes}
use Rattle.mq_tree.specs.Requests.{In, Lost, Makes, Root, RequestTarget, Verdict, carried_out, cut_to, refused, resized, set_bytes, spliced, target, write, write_in}
use Rattle.mq_tree.specs.Sound.{IsSound, blocks_for}
use Rattle.mq_tree.specs.Volume.{Body, Free, File, Dir, Path, Volume, body, node, way}
use Rattle.mq_tree.specs.declared.request.Fault.{Fault}
use Rattle.mq_tree.specs.declared.request.Fault.TheVariants.{BadName, TooBig}
use Rattle.mq_tree.specs.declared.request.Request.TheVariants.{Write}
use Rattle.mq_tree.proofs.RequestsNodes.{cut-length}

-- ---- what the request comes to

-- on what stands at its path
abbrev written : Geometry → (queue : ℕ) → Volume → (at : ℕ) → List ℕ → ℕ → List ℕ → ℕ → List ℕ → Verdict
written g q v at new d name i bytes = set_bytes g q v i (at + length new) (spliced at new bytes)

write_in-on : (g : Geometry) (q : ℕ) (v : Volume) (at : ℕ) (new : List ℕ) (d : ℕ) (name : List ℕ) (i : ℕ) (x : Body) → write_in g q v i at new x ≡ on_body (written g q v at new) d name i x
write_in-on g q v at new d name i Free = refl
write_in-on g q v at new d name i (File bytes) = refl
write_in-on g q v at new d name i (Dir slots) = refl

write-on : (g : Geometry) (q : ℕ) (v : Volume) (at : ℕ) (new : List ℕ) (t : RequestTarget) → write g q v at new t ≡ on_file v (written g q v at new) t
write-on g q v at new Root = refl
write-on g q v at new (Lost fault) = refl
write-on g q v at new (In d name None) = refl
write-on g q v at new (In d name (Some i)) = write_in-on g q v at new d name i (body v i)

pub write-refused : (g : Geometry) (q : ℕ) (v : Volume) (at : ℕ) (new : List ℕ) (t : RequestTarget) (fault : Fault) → ((act : ℕ → List ℕ → ℕ → List ℕ → Verdict) → on_file v act t ≡ refused fault) → IsRefused g v (write g q v at new t) fault
write-refused g q v at new t fault h = ap (λ (x : Verdict). carried_out g v x) (write-on g q v at new t ∙ h (written g q v at new))

write-found : (g : Geometry) (q : ℕ) (v : Volume) (path : Path) (at : ℕ) (new : List ℕ) (f : Found) → (h : IsFound v path f) → write g q v at new (target v (way path)) ≡ set_bytes g q v f.number (at + length new) (spliced at new h.file.bytes)
write-found g q v path at new f h = ap (λ (t : RequestTarget). write g q v at new t) h.target_is ∙ ap (λ (x : Body). write_in g q v f.number at new x) h.file.is

pub write-big : (g : Geometry) (q : ℕ) (v : Volume) (path : Path) (at : ℕ) (new : List ℕ) (f : Found) → IsFound v path f → file_limit < at + length new → IsRefused g v (write g q v at new (target v (way path))) TooBig
write-big g q v path at new f h big =
    let now = spliced at new h.file.bytes in
    ap (λ (x : Verdict). carried_out g v x) (write-found g q v path at new f h
    ∙ ap (λ (t : Bool). cond t (refused TooBig) (Makes (needs (length (node v f.number).blocks) (blocks_for (length now))) (resized g q v f.number now))) (lt-ltb file_limit (at + length new) big))

-- ---- the bytes afterwards

spliced-size : (at : ℕ) (new bytes : List ℕ) → length (spliced at new bytes) ≡ cond (nat_eq (length new) 0) (length bytes) (max (length bytes) (at + length new))
spliced-size at [] bytes = refl
spliced-size at (x ∷ xs) bytes =
    let n = cut-length at bytes in
    let m = length-append (cut_to at bytes) (x ∷ xs) in
    let k = length-drop (at + length (x ∷ xs)) bytes in
    let some : length (x ∷ xs) ≢ 0 = λ e. absurd (omega arith) in
    let whole : length (spliced at (x ∷ xs) bytes) ≡ length (cut_to at bytes ++ (x ∷ xs)) + length (drop (at + length (x ∷ xs)) bytes) = length-append (cut_to at bytes ++ (x ∷ xs)) (drop (at + length (x ∷ xs)) bytes) in
    let sum : length (spliced at (x ∷ xs) bytes) ≡ max (length bytes) (at + length (x ∷ xs)) = omega arith in
    sum ∙ sym (ap (λ (t : Bool). cond t (length bytes) (max (length bytes) (at + length (x ∷ xs)))) (ne_eqb (length (x ∷ xs)) 0 some))

spliced-longer : (at : ℕ) (new bytes : List ℕ) → length bytes ≤ length (spliced at new bytes)
spliced-longer at [] bytes = omega arith
spliced-longer at (x ∷ xs) bytes =
    let some : length (x ∷ xs) ≢ 0 = λ e. absurd (omega arith) in
    let n : length (spliced at (x ∷ xs) bytes) ≡ max (length bytes) (at + length (x ∷ xs)) = spliced-size at (x ∷ xs) bytes ∙ ap (λ (t : Bool). cond t (length bytes) (max (length bytes) (at + length (x ∷ xs)))) (ne_eqb (length (x ∷ xs)) 0 some) in
    omega arith

-- the size afterwards is that of the bytes
pub size-is : (v : Volume) (path : Path) (at size : ℕ) (new : List ℕ) (f : Found) → (h : IsFound v path f) → size ≡ cond (nat_eq (length new) 0) f.inode.size (max f.inode.size (at + length new)) → size ≡ length (spliced at new h.file.bytes)
size-is v path at size new f h e =
    e ∙ ap (λ (k : ℕ). cond (nat_eq (length new) 0) k (max k (at + length new))) (file-size (node v f.number) f.inode h.file.bytes h.file.says h.file.is) ∙ sym (spliced-size at new h.file.bytes)

pub written-spliced : (at : ℕ) (new bytes : List ℕ) → IsSplicedAt at new bytes (spliced at new bytes)
written-spliced at new bytes = record {
  inside = λ k l. spliced-in at new bytes k l;
  outside = λ k beside. elim beside [ inl l ↦ spliced-before at new bytes k l | inr l ↦ spliced-after at new bytes k l ];
}

-- ---- a file into which bytes are written

pub record IsWriting (g : Geometry) (q : ℕ) (v : Volume) (path : Path) (at : ℕ) (new : List ℕ) (i size : ℕ) (bytes : List ℕ) : Type 0 where
  pub rewriting : IsRewriting g q v i size (write g q v at new (target v (way path))) (spliced at new) bytes
  pub resizing : IsResizing g q v (Write path at new) i size bytes (spliced at new bytes)
  pub longer : length bytes ≤ size

pub writing : (g : Geometry) (q : ℕ) (v : Volume) (path : Path) (at size : ℕ) (new : List ℕ) (f : Found) → IsSound g v → q < queues_of g → list_all is_name path ≡ true → (h : IsFound v path f) → at + length new ≤ file_limit → size ≡ length (spliced at new h.file.bytes)
    → IsWriting g q v path at new f.number size h.file.bytes
writing g q v path at size new f sound queue named h limit e = record {
  rewriting = rewriting;
  resizing = record {
    sound = sound;
    queue = queue;
    works = record { path = path; names = refl; leads = (found-under g v path f sound h).leads; is = h.file.is };
    makes = ap (λ (t : Bool). cond t (write g q v at new (target v (way path))) (refused BadName)) named ∙ rewriting.makes;
    length_is = sym e;
  };
  longer = let l = spliced-longer at new h.file.bytes in omega arith;
}
  where
    now : List ℕ
    now = spliced at new h.file.bytes

    rewriting : IsRewriting g q v f.number size (write g q v at new (target v (way path))) (spliced at new) h.file.bytes
    rewriting = record {
      is = h.file.is;
      makes = write-found g q v path at new f h
          ∙ ap (λ (t : Bool). cond t (refused TooBig) (Makes (needs (length (node v f.number).blocks) (blocks_for (length now))) (resized g q v f.number now))) (le-ltb file_limit (at + length new) limit)
          ∙ ap (λ (k : ℕ). Makes (needs (length (node v f.number).blocks) (blocks_for k)) (resized g q v f.number now)) (sym e);
      length_is = sym e;
    }

-- ---- at what it looks

-- a block of the file with a byte that is written
write-part : (g : Geometry) (q : ℕ) (v : Volume) (path : Path) (at : ℕ) (new : List ℕ) (i size : ℕ) (bytes : List ℕ) (b place : ℕ) → IsWriting g q v path at new i size bytes → longer_needs v i size ≤ free_blocks g v → at / 4096 ≤ place → place < past_place at (length new)
    → slice_get (node v i).blocks place ≡ Some b → LooksAt g q v (Write path at new) b
write-part g q v path at new i size bytes b place h enough low high e =
    let past = past-of at (length new) place low high in
    let some = past.0 in
    let end = past.1 in
    at_bytes i place (max at (4096 * place)) bytes h.resizing.works (resizing-done g q v (Write path at new) i size bytes (spliced at new bytes) h.resizing enough) e (omega arith) (first-touched new some) (past-touched new some end)
  where
    first-touched : (xs : List ℕ) → 1 ≤ length xs → (touched (Write path at xs) (length bytes)).0 ≤ max at (4096 * place)
    first-touched [] some = absurd (omega arith)
    first-touched (x ∷ xs) some = omega arith

    past-touched : (xs : List ℕ) → 1 ≤ length xs → 4096 * place < at + length xs → max at (4096 * place) < (touched (Write path at xs) (length bytes)).1
    past-touched [] some end = absurd (omega arith)
    past-touched (x ∷ xs) some end = omega arith

pub write-looks : (g : Geometry) (q : ℕ) (v : Volume) (path : Path) (at : ℕ) (new : List ℕ) (i size : ℕ) (bytes : List ℕ) (b : ℕ) → IsWriting g q v path at new i size bytes → LooksLonger g q v i size at (length new) b → LooksAt g q v (Write path at new) b
write-looks g q v path at new i size bytes b h looks =
    resizing-looks g q v (Write path at new) i size at (length new) bytes (spliced at new bytes) b h.resizing h.longer (λ place enough low high e. write-part g q v path at new i size bytes b place h enough low high e) looks
