-- At what removing a file or a directory looks.
use Rattle.mq_tree.specs.Links.{HasLinks}
use Rattle.std.proofs.Common.{◌≡◌, ◌≢◌, ℕ, ◌*◌, ◌<◌, ◌≤◌, Bool, true, false, List, length, sym, ap, subst, ◌∙◌, arith, inl, inr, length-set}
use Rattle.std.specs.Prelude.{None, Some, slice_get, if◌then◌else◌}
use Rattle.std.specs.List.{list_all}
use Rattle.std.proofs.lemmas.Bool.{le-leb, true≢false}
use Rattle.std.proofs.lemmas.Option.{slice_get_within}
use Rattle.mq_blocks.specs.declared.geometry.Geometry.{Geometry}
use Rattle.mq_layout.specs.Names.{is_name}
use Rattle.mq_exec.specs.Plans.{IsFound}
use Rattle.mq_exec.specs.Removes.{LooksFreed}
use Rattle.mq_exec.specs.declared.file.Found.{Found}
use Rattle.mq_exec.proofs.PlansRemoving.{file-other, last-makes, step-made}
use Rattle.mq_layout.specs.declared.inode.Inode.{Inode}
use Rattle.mq_exec.proofs.PlansTargets.{IsUnder, found-under}
use Rattle.mq_inodes.specs.Walks.{IsDirectory, last_of}
use Rattle.mq_inodes.proofs.ChangesBodies.{rebodied}
use Rattle.mq_inodes.proofs.ChangesFrame.{has-use}
use Rattle.mq_inodes.proofs.ChangesSteps.{gone-free}
use Rattle.mq_inodes.proofs.ChangesUses.{use-cases}
use Rattle.mq_inodes.proofs.ChangesVolumes.{with_body-uses}
use Rattle.mq_inodes.proofs.Sound.{sound-count, sound-uses, used-low}
use Rattle.mq_inodes.proofs.Walks.{leads-here}
use Rattle.mq_tree.proofs.SoundVolumes.{used-low as used-inside}
use Rattle.mq_tree.specs.Looks.{LooksAt, WorksOn, is_refused, bytes as at_bytes, directory as at_directory, freed as at_freed, marks as at_marks, pointers as at_pointers}
use Rattle.mq_tree.specs.Requests.{Makes, RequestOutcome, cleared, freed, rmdir, step, target, unlink, unlinked}
use Rattle.mq_tree.specs.Sound.{IsSound}
use Rattle.mq_tree.specs.Volume.{Body, File, Dir, Node, Path, Use, Volume, block_in, body, free_node, has_block, is_taken, is_used, node, slots_of, way}
use Rattle.mq_tree.specs.declared.request.Reply.TheVariants.{Ok as Ready}
use Rattle.mq_tree.specs.declared.request.Request.{Request}
use Rattle.mq_tree.specs.declared.request.Request.TheVariants.{Rmdir, Unlink}
use Rattle.mq_tree.proofs.FreeUses.{node-here, node-other}
use Rattle.mq_tree.specs.Uses.{AreUses}
use Rattle.mq_tree.proofs.LaidUses.{use-taken}

-- ---- an inode that is freed

-- the slots of another directory change, and then the inode goes
record IsGone (g : Geometry) (v : Volume) (d i : ℕ) : Type 0 where
  sound : IsSound g v
  dir : IsDirectory v d
  used : is_used (body v i) ≡ true
  other : i ≢ d

gone-here : (g : Geometry) (v : Volume) (d i : ℕ) (name : List ℕ) → IsGone g v d i → node (freed (unlinked v d name) i) i ≡ free_node
gone-here g v d i name h =
    let u = unlinked v d name in
    let l = used-low g v i h.sound h.used in
    let c = h.sound.count in
    let n : length u ≡ length v = length-set v d _ in
    node-here u i free_node (omega arith)

gone-not_taken : (g : Geometry) (v : Volume) (d i : ℕ) (name : List ℕ) (c : ℕ) → IsGone g v d i → has_block (node v i) c ≡ true → is_taken (freed (unlinked v d name) i) c ≡ false
gone-not_taken g v d i name c h has =
    let now = Dir (cleared name (slots_of (body v d))) in
    let uses = sound-uses g v h.sound in
    let fine : AreUses g (unlinked v d name) = with_body-uses g v d now uses (used-inside v d (ap (λ (x : Body). is_used x) h.dir.1)) (subst (λ (x : Body). HasLinks x (node v d).links) h.dir.1 (uses.links d)) in
    gone-free g (unlinked v d name) (freed (unlinked v d name) i) i c fine (λ x away. node-other (unlinked v d name) i x free_node away)
    (ap (λ (n : Node). has_block n c) (node-other v d i (rebodied (node v d) now) h.other) ∙ has)
    (ap (λ (n : Node). has_block n c) (gone-here g v d i name h))

-- a request that does so looks at what is looked at to free the inode, if it looks at the blocks of that
freed-looks : (g : Geometry) (q : ℕ) (v : Volume) (r : Request) (d i : ℕ) (name : List ℕ) (b : ℕ) → IsGone g v d i → step g q v r ≡ record { reply = Ready; next = freed (unlinked v d name) i } → ((x : ℕ) → has_block (node v i) x ≡ true → LooksAt g q v r x)
    → LooksFreed g v i b → LooksAt g q v r b
freed-looks g q v r d i name b h does own (inl e) =
    at_marks i (λ same. true≢false (sym h.used ∙ same ∙ ap (λ (o : RequestOutcome). is_used (body o.next i)) does ∙ ap (λ (n : Node). is_used n.body) (gone-here g v d i name h))) e
freed-looks g q v r d i name b h does own (inr (inl has)) = own b has
freed-looks g q v r d i name b h does own (inr (inr (c, has, e))) =
    let u = has-use v i c has in
    at_freed c (use-taken v u.0 c u.2) (ap (λ (o : RequestOutcome). is_taken o.next c) does ∙ gone-not_taken g v d i name c h has) e

-- ---- files

-- a file that goes, by its name in a directory
pub record IsFileGone (g : Geometry) (v : Volume) (path : Path) (d i : ℕ) (bytes : List ℕ) : Type 0 where
  pub sound : IsSound g v
  pub named : list_all is_name path ≡ true
  pub under : IsUnder v (way path) d i
  pub is : body v i ≡ File bytes
  pub last : (node v i).links ≤ 1
  pub makes : unlink v (target v (way path)) ≡ Makes 0 (freed (unlinked v d (last_of (way path))) i)

pub file-gone : (g : Geometry) (v : Volume) (path : Path) (f : Found) → IsSound g v → list_all is_name path ≡ true → (h : IsFound v path f) → f.inode.links ≤ 1 → IsFileGone g v path f.directory f.number h.file.bytes
file-gone g v path f sound good h last =
    let u = found-under g v path f sound h in
    record { sound = sound; named = good; under = u; is = h.file.is; last = subst (λ (n : Inode). n.links ≤ 1) h.file.says last; makes = last-makes v path f h (file-other v f.directory f.number h.file.bytes u.dir h.file.is) last }

file-does : (g : Geometry) (q : ℕ) (v : Volume) (path : Path) (d i : ℕ) (bytes : List ℕ) → IsFileGone g v path d i bytes → step g q v (Unlink path) ≡ record { reply = Ready; next = freed (unlinked v d (last_of (way path))) i }
file-does g q v path d i bytes h = step-made g q v (Unlink path) _ h.named h.makes

file-done : (g : Geometry) (q : ℕ) (v : Volume) (path : Path) (d i : ℕ) (bytes : List ℕ) → IsFileGone g v path d i bytes → is_refused (step g q v (Unlink path)).reply ≡ false
file-done g q v path d i bytes h = ap (λ (o : RequestOutcome). is_refused o.reply) (file-does g q v path d i bytes h)

file-works : (g : Geometry) (v : Volume) (path : Path) (d i : ℕ) (bytes : List ℕ) → IsFileGone g v path d i bytes → WorksOn v (Unlink path) i bytes
file-works g v path d i bytes h = record { path = path; names = ap (λ (t : Bool). if t then Some path else None) (le-leb (node v i).links 1 h.last); leads = h.under.leads; is = h.is }

pub file-pointers : (g : Geometry) (q : ℕ) (v : Volume) (path : Path) (d i : ℕ) (bytes : List ℕ) (b : ℕ) → IsFileGone g v path d i bytes → (node v i).indirect ≡ Some b → LooksAt g q v (Unlink path) b
file-pointers g q v path d i bytes b h e = at_pointers i bytes (file-works g v path d i bytes h) (file-done g q v path d i bytes h) e

-- each block of a file has a byte
block-byte : (g : Geometry) (v : Volume) (i : ℕ) (bytes : List ℕ) (k b : ℕ) → IsSound g v → body v i ≡ File bytes → slice_get (node v i).blocks k ≡ Some b → 4096 * k < length bytes
block-byte g v i bytes k b sound is at =
    let count = sound-count g v i bytes sound is in
    let l = slice_get_within (node v i).blocks k b at in
    omega arith

file-part : (g : Geometry) (q : ℕ) (v : Volume) (path : Path) (d i : ℕ) (bytes : List ℕ) (k b : ℕ) → IsFileGone g v path d i bytes → slice_get (node v i).blocks k ≡ Some b → LooksAt g q v (Unlink path) b
file-part g q v path d i bytes k b h at =
    at_bytes i k (4096 * k) bytes (file-works g v path d i bytes h) (file-done g q v path d i bytes h) at (omega arith) (omega arith) (block-byte g v i bytes k b h.sound h.is at)

file-own : (g : Geometry) (q : ℕ) (v : Volume) (path : Path) (d i : ℕ) (bytes : List ℕ) (b : ℕ) → IsFileGone g v path d i bytes → has_block (node v i) b ≡ true → LooksAt g q v (Unlink path) b
file-own g q v path d i bytes b h has =
    let u = has-use v i b has in
    elim (use-cases u.0 i u.1) [
      | inl p ↦ file-part g q v path d i bytes p.0 b h (subst (λ (x : Use). block_in v x ≡ Some b) p.1 u.2)
      | inr p ↦ file-pointers g q v path d i bytes b h (subst (λ (x : Use). block_in v x ≡ Some b) p u.2)
    ]

pub file-freed : (g : Geometry) (q : ℕ) (v : Volume) (path : Path) (d i : ℕ) (bytes : List ℕ) (b : ℕ) → IsFileGone g v path d i bytes → LooksFreed g v i b → LooksAt g q v (Unlink path) b
file-freed g q v path d i bytes b h looks =
    freed-looks g q v (Unlink path) d i (last_of (way path)) b (record { sound = h.sound; dir = h.under.dir; used = h.under.used; other = file-other v d i bytes h.under.dir h.is }) (file-does g q v path d i bytes h) (λ x has. file-own g q v path d i bytes x h has) looks

-- ---- directories

pub dir-freed : (g : Geometry) (q : ℕ) (v : Volume) (path : Path) (d i : ℕ) (b : ℕ) → IsSound g v → list_all is_name path ≡ true → IsUnder v (way path) d i → IsDirectory v i → i ≢ d → rmdir v (target v (way path)) ≡ Makes 0 (freed (unlinked v d (last_of (way path))) i)
    → LooksFreed g v i b → LooksAt g q v (Rmdir path) b
dir-freed g q v path d i b sound good u dir other makes looks =
    freed-looks g q v (Rmdir path) d i (last_of (way path)) b (record { sound = sound; dir = u.dir; used = u.used; other = other }) (step-made g q v (Rmdir path) _ good makes)
    (λ x has. at_directory i dir.0 (inl (leads-here v (way path) i u.leads)) dir.1 has) looks
