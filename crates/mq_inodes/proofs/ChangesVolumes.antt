-- The volumes of which changes are made: their uses, and how they are put together.
use Rattle.std.proofs.Common.{set, ◌≡◌, ◌≢◌, ℕ, zero, suc, ◌+◌, ◌-◌, ◌*◌, ◌<◌, ◌≤◌, List, [], ◌∷◌, length, Bool, true, false, cond, refl, sym, ap, subst, ◌∙◌, arith}
use Rattle.std.specs.Prelude.{Option, Some, None, is_some, nat_lt, slice_get, if◌then◌else◌}
use Rattle.std.proofs.lemmas.Bool.{eq-eqb, ne_eqb, true≢false}
use Rattle.std.proofs.lemmas.List.{get_or_past, take_all}
use Rattle.std.proofs.lemmas.Option.{none-some}
use Rattle.mq_blocks.specs.Blocks.{zeros}
use Rattle.mq_blocks.specs.Geometry.{queues_of}
use Rattle.mq_blocks.specs.declared.geometry.Geometry.{Geometry}
use Rattle.mq_inodes.specs.Changes.{IsInodeMarked, IsInodePut, Stepped}
use Rattle.mq_inodes.specs.Fits.{Fits}
use Rattle.mq_inodes.specs.Pages.{Pages}
use Rattle.mq_inodes.proofs.ChangesBodies.{bare-form, rebodied}
use Rattle.mq_inodes.proofs.Changes.{kept-uses, more-uses, pointed-uses}
use Rattle.mq_inodes.specs.Opened.{cut_file}
use Rattle.mq_inodes.proofs.ChangesInodes.{bare, bare-step}
use Rattle.mq_inodes.proofs.LaidParts.{zeros-dir, zeros-file}
use Rattle.mq_inodes.proofs.ChangesTaken.{IsFree, longer, with_indirect}
use Rattle.mq_inodes.proofs.ChangesUses.{uses-fewer, links-at}
use Rattle.mq_layout.specs.Places.{file_limit, inode_bitmap, inode_block, inodes_of}
use Rattle.mq_layout.specs.Slots.{Entry}
use Rattle.mq_tree.proofs.VolumeChanges.{kept-option, take-get}
use Rattle.mq_tree.specs.Free.{first_of, grown, one_more, order, pointed, with_block, with_pointers}
use Rattle.mq_tree.specs.Laid.{ShowsPart, inode_of, size_of}
use Rattle.mq_tree.specs.Requests.{freed, resized, with_body}
use Rattle.mq_tree.specs.Sound.{IsBody, IsNode, blocks_for}
use Rattle.mq_tree.specs.Links.{HasLinks}
use Rattle.mq_tree.specs.Volume.{Body, Free, File, Dir, Node, Volume, body, free_node, is_used, node, cut_node}
use Rattle.mq_tree.proofs.Free.{first-not_taken, first-zones}
use Rattle.mq_tree.proofs.FreeUses.{node-here, node-other}
use Rattle.mq_tree.specs.Uses.{AreUses}

-- ---- a free block

pub first-free_block : (g : Geometry) (q : ℕ) (v : Volume) (b : ℕ) → q < queues_of g → first_of v (order g q) ≡ Some b → IsFree g v b
first-free_block g q v b low e = let z = first-zones g q v b low e in record { free = first-not_taken v (order g q) b e; high = z.0; home = z.1 }

pub one_more-is : (g : Geometry) (q : ℕ) (v : Volume) (i b : ℕ) → first_of v (order g q) ≡ Some b → one_more g q v i ≡ with_block v i (Some b)
one_more-is g q v i b e = ap (λ (o : Option ℕ). with_block v i o) e

pub pointed-is : (g : Geometry) (q : ℕ) (v : Volume) (i b : ℕ) → length (node v i).blocks ≡ 12 → first_of v (order g q) ≡ Some b → pointed g q v i ≡ with_pointers v i (Some b)
pointed-is g q v i b e first = ap (λ (t : Bool). if t then with_pointers v i (first_of v (order g q)) else v) (eq-eqb (length (node v i).blocks) 12 e) ∙ ap (λ (o : Option ℕ). with_pointers v i o) first

pub pointed-not : (g : Geometry) (q : ℕ) (v : Volume) (i : ℕ) → length (node v i).blocks ≢ 12 → pointed g q v i ≡ v
pointed-not g q v i other = ap (λ (t : Bool). if t then with_pointers v i (first_of v (order g q)) else v) (ne_eqb (length (node v i).blocks) 12 other)

-- a block past all that a body has shows zeros
pub next-file : (x : Body) (bytes : List ℕ) (count : ℕ) → x ≡ File bytes → length bytes ≤ 4096 * count → ShowsPart x count zeros
next-file x bytes count is few = subst (λ y. ShowsPart y count zeros) (sym is) (zeros-file bytes count (λ k l. get_or_past bytes (4096 * count + k) 0 (omega arith)))

pub next-dir : (x : Body) (slots : List (Option Entry)) (count : ℕ) → x ≡ Dir slots → length slots ≤ 15 * count → ShowsPart x count zeros
next-dir x slots count is few = subst (λ y. ShowsPart y count zeros) (sym is) (zeros-dir slots count (λ k l. get_or_past slots (15 * count + k) None (omega arith)))

-- ---- uses

pub with_body-uses : (g : Geometry) (v : Volume) (i : ℕ) (y : Body) → AreUses g v → i < length v → HasLinks y (node v i).links → AreUses g (with_body v i y)
with_body-uses g v i y uses low l =
    let here = node-here v i (rebodied (node v i) y) low in
    kept-uses g v (with_body v i y) i uses (λ x other. node-other v i x (rebodied (node v i) y) other) (ap (λ (n : Node). n.blocks) here) (ap (λ (n : Node). n.indirect) here) (links-at (with_body v i y) i (rebodied (node v i) y) here l)

pub with_block-uses : (g : Geometry) (v : Volume) (i b : ℕ) → AreUses g v → i < length v → IsFree g v b → AreUses g (with_block v i (Some b))
with_block-uses g v i b uses low f =
    let here = node-here v i (longer (node v i) b) low in
    more-uses g v (with_block v i (Some b)) i b uses (λ x other. node-other v i x (longer (node v i) b) other) (ap (λ (n : Node). n.blocks) here) (ap (λ (n : Node). n.indirect) here) f.high f.home f.free (links-at (with_block v i (Some b)) i (longer (node v i) b) here (uses.links i))

pub with_pointers-uses : (g : Geometry) (v : Volume) (i b : ℕ) → AreUses g v → i < length v → IsFree g v b → AreUses g (with_pointers v i (Some b))
with_pointers-uses g v i b uses low f =
    let here = node-here v i (with_indirect (node v i) b) low in
    pointed-uses g v (with_pointers v i (Some b)) i b uses (λ x other. node-other v i x (with_indirect (node v i) b) other) (ap (λ (n : Node). n.blocks) here) (ap (λ (n : Node). n.indirect) here) f.high f.home f.free (links-at (with_pointers v i (Some b)) i (with_indirect (node v i) b) here (uses.links i))

-- an inode without blocks, as a new one or one that was freed
pub bare-uses : (g : Geometry) (v : Volume) (i : ℕ) (n : Node) → AreUses g v → i < length v → n.blocks ≡ [] → n.indirect ≡ None → HasLinks n.body n.links → AreUses g (set v i n)
bare-uses g v i n uses low bs ind l =
    let here = node-here v i n low in
    uses-fewer g v (set v i n) i uses (λ x other. node-other v i x n other) (λ k c e. absurd (none-some c (sym (ap (λ (m : Node). slice_get m.blocks k) here ∙ ap (λ (xs : List ℕ). slice_get xs k) bs) ∙ e)))
    (λ c e. absurd (none-some c (sym (ap (λ (m : Node). m.indirect) here ∙ ind) ∙ e))) (links-at (set v i n) i n here l)

pub freed-uses : (g : Geometry) (v : Volume) (i : ℕ) → AreUses g v → i < length v → AreUses g (freed v i)
freed-uses g v i uses low = bare-uses g v i free_node uses low refl refl refl

pub cut-uses : (g : Geometry) (v : Volume) (i count : ℕ) (bytes : List ℕ) → AreUses g v → i < length v → HasLinks (File bytes) (node v i).links → AreUses g (cut_file v i count bytes)
cut-uses g v i count bytes uses low l =
    let n = cut_node (node v i) count bytes in
    let here = node-here v i n low in
    uses-fewer g v (set v i n) i uses (λ x other. node-other v i x n other) (λ k c e. take-get count (node v i).blocks k c (sym (ap (λ (m : Node). slice_get m.blocks k) here) ∙ e))
    (λ c e. kept-option (nat_lt 12 count) (node v i).indirect c (sym (ap (λ (m : Node). m.indirect) here) ∙ e)) (links-at (set v i n) i n here l)

-- ---- an inode that is free, or new

pub free-bare : (n : Node) → IsNode n → n.body ≡ Free → (n.blocks ≡ []) × (n.indirect ≡ None)
free-bare n good is =
    let fine : IsBody Free (length n.blocks) = subst (λ x. IsBody x (length n.blocks)) is good.body in
    (nothing n.blocks fine, missing n.indirect (good.indirect ∙ ap (λ (k : ℕ). nat_lt 12 k) fine))
  where
    nothing : (xs : List ℕ) → length xs ≡ 0 → xs ≡ []
    nothing [] e = refl
    nothing (x ∷ xs) e = absurd (omega arith)

    missing : (o : Option ℕ) → is_some o ≡ false → o ≡ None
    missing None e = refl
    missing (Some b) e = absurd (true≢false e)

-- a free inode becomes a new file or directory
pub made-step : (g : Geometry) (v : Volume) (i : ℕ) (y : Body) (old mid new : Pages) → AreUses g v → i < length v → i < inodes_of g → IsNode (node v i) → body v i ≡ Free → is_used y ≡ true → size_of y 0 ≤ file_limit
    → Fits g old v → IsInodeMarked g old mid i true → IsInodePut g mid new i (inode_of (bare y)) → Stepped g v (set v i (bare y)) new (inode_bitmap g ∷ inode_block g i ∷ [])
made-step g v i y old mid new uses low inside good is used few fits m p =
    let none = free-bare (node v i) good is in
    bare-step g v i y old mid new uses low inside none.0 none.1 used (bare-form y used few) fits (subst (λ t. IsInodeMarked g old mid i t) (sym used) m) p

-- ---- one change behind another

set-twice : (xs : List Node) (i : ℕ) (a b : Node) → set (set xs i a) i b ≡ set xs i b
set-twice [] zero a b = refl
set-twice [] (suc i) a b = refl
set-twice (x ∷ xs) zero a b = refl
set-twice (x ∷ xs) (suc i) a b = ap (λ (ys : List Node). x ∷ ys) (set-twice xs i a b)

-- a file that is cut after its bytes changed
pub cut-body : (v : Volume) (i count : ℕ) (x : Body) (bytes : List ℕ) → i < length v → cut_file (with_body v i x) i count bytes ≡ cut_file v i count bytes
cut-body v i count x bytes low =
    ap (λ (n : Node). set (with_body v i x) i (cut_node n count bytes)) (node-here v i (rebodied (node v i) x) low) ∙ set-twice v i (rebodied (node v i) x) (cut_node (node v i) count bytes)

-- ---- resizing

-- a file that does not grow is cut
pub resized-cut : (g : Geometry) (q : ℕ) (v : Volume) (i : ℕ) (bytes : List ℕ) → blocks_for (length bytes) ≤ length (node v i).blocks → resized g q v i bytes ≡ cut_file v i (blocks_for (length bytes)) bytes
resized-cut g q v i bytes few =
    let none : blocks_for (length bytes) - length (node v i).blocks ≡ 0 = omega arith in
    ap (λ (k : ℕ). cut_file (grown g q v i k) i (blocks_for (length bytes)) bytes) none

-- one that is not cut has other bytes over its blocks
pub resized-grown : (g : Geometry) (q : ℕ) (v u : Volume) (i : ℕ) (bytes : List ℕ) → u ≡ grown g q v i (blocks_for (length bytes) - length (node v i).blocks) → length (node u i).blocks ≡ blocks_for (length bytes)
    → is_some (node u i).indirect ≡ nat_lt 12 (blocks_for (length bytes)) → resized g q v i bytes ≡ with_body u i (File bytes)
resized-grown g q v u i bytes is count indirect =
    ap (λ (x : Volume). cut_file x i (blocks_for (length bytes)) bytes) (sym is)
    ∙ ap (λ (xs : List ℕ). set u i (record { body = File bytes; blocks = xs; indirect = if nat_lt 12 (blocks_for (length bytes)) then (node u i).indirect else None; links = (node u i).links })) (take_all (blocks_for (length bytes)) (node u i).blocks (omega arith))
    ∙ ap (λ (o : Option ℕ). set u i (record { body = File bytes; blocks = (node u i).blocks; indirect = o; links = (node u i).links })) (kept (nat_lt 12 (blocks_for (length bytes))) (node u i).indirect indirect)
  where
    kept : (t : Bool) (o : Option ℕ) → is_some o ≡ t → cond t o None ≡ o
    kept true o e = refl
    kept false None e = refl
    kept false (Some b) e = absurd (true≢false e)
