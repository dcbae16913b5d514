-- The slots of a directory, block by block.
use Rattle.std.proofs.Common.{get_or, ◌≡◌, ◌≢◌, ℕ, zero, suc, ◌+◌, ◌-◌, ◌*◌, ◌/◌, ◌%◌, ◌<◌, Bool, false, true, cond, List, [], ◌∷◌, ◌++◌, length, drop, refl, sym, ap, subst, ◌∙◌, arith, drop-cons, inl, inr}
use Rattle.std.specs.Prelude.{Option, Some, None, nat_le, slice_get}
use Rattle.std.specs.List.{All, Contains}
use Rattle.std.specs.Str.{bytes_eq}
use Rattle.std.proofs.lemmas.Bool.{cases_Bool, lt-leb}
use Rattle.std.proofs.lemmas.List.{get_or_append_left, get_or-append_right, get_or_default, length-append, same_lists}
use Rattle.std.proofs.lemmas.Option.{slice_get-get_or}
use Rattle.mq_blocks.specs.declared.geometry.Geometry.{Geometry}
use Rattle.mq_layout.specs.Places.{names_limit}
use Rattle.mq_layout.specs.Slots.{Entry, ShowsSlot}
use Rattle.mq_layout.specs.declared.inode.Inode.{Inode}
use Rattle.mq_inodes.specs.Dirs.{IsDirAt, slots_at, slots_in}
use Rattle.mq_inodes.specs.Edits.{Carries}
use Rattle.mq_inodes.specs.Fits.{Agrees}
use Rattle.mq_inodes.specs.Pages.{IsHeld, Pages, content}
use Rattle.mq_inodes.proofs.EditsBecoming.{carries-sound}
use Rattle.mq_inodes.proofs.DirsEntries.{length-slots_in, slots_in-at}
use Rattle.mq_inodes.proofs.FitsShowing.{use-carried, use-there}
use Rattle.mq_tree.proofs.RequestsNodes.{count-most}
use Rattle.mq_tree.specs.Decoded.{slot_of}
use Rattle.mq_tree.specs.Laid.{ShowsPart, inode_of, kind_of}
use Rattle.mq_tree.specs.Requests.{count_names}
use Rattle.mq_tree.specs.Sound.{IsBody}
use Rattle.mq_tree.specs.Volume.{Body, Free, File, Dir, Node, Volume, Part, body, find, has_block, node}
use Rattle.mq_tree.proofs.Decoded.{slot-decoded}
use Rattle.mq_tree.proofs.LaidUses.{use-has}

-- ---- of blocks one after another

pub slots-drop : (pages : Pages) (blocks : List ℕ) (k b : ℕ) → k < length blocks → b ≡ get_or blocks k b → slots_at pages (drop k blocks) ≡ slots_in (content (pages b)) ++ slots_at pages (drop (k + 1) blocks)
slots-drop pages blocks k b l is =
    let e : k + 1 ≡ suc k = omega arith in
    ap (λ (bs : List ℕ). slots_at pages bs) (drop-cons blocks k b l) ∙ ap (λ (x : ℕ). slots_in (content (pages x)) ++ slots_at pages (drop (suc k) blocks)) (sym is) ∙ ap (λ (j : ℕ). slots_in (content (pages b)) ++ slots_at pages (drop j blocks)) (sym e)

pub length-slots_at : (pages : Pages) (blocks : List ℕ) → length (slots_at pages blocks) ≡ 15 * length blocks
length-slots_at pages [] = refl
length-slots_at pages (b ∷ bs) = length-append (slots_in (content (pages b))) (slots_at pages bs) ∙ (let n = length-slots_in (content (pages b)) in let m = length-slots_at pages bs in omega arith)

slots_at-at : (pages : Pages) (blocks : List ℕ) (place at : ℕ) (d : Option Entry) → place < length blocks → at < 15 → get_or (slots_at pages blocks) (15 * place + at) d ≡ slot_of (content (pages (get_or blocks place 0))) at
slots_at-at pages [] place at d l small = absurd (omega arith)
slots_at-at pages (b ∷ bs) zero at d l small =
    let n = length-slots_in (content (pages b)) in
    let z : 15 * 0 + at ≡ at = omega arith in
    ap (λ (k : ℕ). get_or (slots_in (content (pages b)) ++ slots_at pages bs) k d) z ∙ get_or_append_left (slots_in (content (pages b))) (slots_at pages bs) d at (omega arith) ∙ slots_in-at (content (pages b)) at d small
slots_at-at pages (b ∷ bs) (suc place) at d l small =
    let n = length-slots_in (content (pages b)) in
    let e : 15 * suc place + at - 15 ≡ 15 * place + at = omega arith in
    get_or-append_right (slots_in (content (pages b))) (slots_at pages bs) 15 (15 * suc place + at) d n (omega arith) ∙ ap (λ (k : ℕ). get_or (slots_at pages bs) k d) e ∙ slots_at-at pages bs place at d (omega arith) small

find-here : (name : List ℕ) (xs ys : List (Option Entry)) (i : ℕ) → Some i ≡ find name xs → find name (xs ++ ys) ≡ Some i
find-here name [] ys i e = absurd (cc)
find-here name (None ∷ xs) ys i e = find-here name xs ys i e
find-here name (Some x ∷ xs) ys i e = elim (cases_Bool (bytes_eq x.name name)) [
  | inl y ↦ ap (λ (b : Bool). cond b (Some x.inode) (find name (xs ++ ys))) y ∙ sym (e ∙ ap (λ (b : Bool). cond b (Some x.inode) (find name xs)) y)
  | inr n ↦ ap (λ (b : Bool). cond b (Some x.inode) (find name (xs ++ ys))) n ∙ find-here name xs ys i (e ∙ ap (λ (b : Bool). cond b (Some x.inode) (find name xs)) n)
]

find-beyond : (name : List ℕ) (xs ys : List (Option Entry)) → None ≡ find name xs → find name (xs ++ ys) ≡ find name ys
find-beyond name [] ys e = refl
find-beyond name (None ∷ xs) ys e = find-beyond name xs ys e
find-beyond name (Some x ∷ xs) ys e = elim (cases_Bool (bytes_eq x.name name)) [
  | inl y ↦ (let f : None ≡ Some x.inode = e ∙ ap (λ (b : Bool). cond b (Some x.inode) (find name xs)) y in absurd (cc))
  | inr n ↦ ap (λ (b : Bool). cond b (Some x.inode) (find name (xs ++ ys))) n ∙ find-beyond name xs ys (e ∙ ap (λ (b : Bool). cond b (Some x.inode) (find name xs)) n)
]

count-append : (xs ys : List (Option Entry)) → count_names (xs ++ ys) ≡ count_names xs + count_names ys
count-append [] ys = omega arith
count-append (None ∷ xs) ys = count-append xs ys
count-append (Some x ∷ xs) ys = let h = count-append xs ys in omega arith

-- with fewer blocks than a full directory has there is room for a name more
pub room_below : (pages : Pages) (blocks : List ℕ) → length blocks < 1036 → false ≡ nat_le names_limit (count_names (slots_at pages blocks))
room_below pages blocks few =
    let most = count-most (slots_at pages blocks) in
    let long = length-slots_at pages blocks in
    let low : count_names (slots_at pages blocks) < names_limit = omega arith in
    sym (lt-leb names_limit (count_names (slots_at pages blocks)) low)

-- ---- a directory of each volume that the pages carry, or of which they may be a part

pub kind-dir : (n : Node) (inode : Inode) → inode ≡ inode_of n → inode.kind ≡ 2 → (slots : List (Option Entry)) × (n.body ≡ Dir slots)
kind-dir n inode e two = go n.body refl
  where
    go : (x : Body) → n.body ≡ x → (slots : List (Option Entry)) × (n.body ≡ Dir slots)
    go Free is = absurd (let f = ap (λ (i : Inode). i.kind) e ∙ ap kind_of is in omega arith)
    go (File bytes) is = absurd (let f = ap (λ (i : Inode). i.kind) e ∙ ap kind_of is in omega arith)
    go (Dir slots) is = (slots, is)

part-carried : (g : Geometry) (pages : Pages) (v : Volume) (d place b : ℕ) (slots : List (Option Entry)) → Carries g pages v → body v d ≡ Dir slots → slice_get (node v d).blocks place ≡ Some b → IsHeld pages b → ShowsPart (Dir slots) place (content (pages b))
part-carried g pages v d place b slots c is at held = subst (λ x. ShowsPart x place (content (pages b))) is (use-carried g pages v (Part d place) b (content (pages b)) c at held).shows

pub carried-form : (g : Geometry) (pages : Pages) (v : Volume) (d : ℕ) (slots : List (Option Entry)) (blocks : List ℕ) → Carries g pages v → body v d ≡ Dir slots → blocks ≡ (node v d).blocks → All (IsHeld pages) blocks → All (IsDirAt pages) blocks
carried-form g pages v d slots blocks c is same held k x l =
    let b = get_or blocks k x in
    let at : slice_get (node v d).blocks k ≡ Some b = ap (λ (bs : List ℕ). slice_get bs k) (sym same) ∙ slice_get-get_or blocks k x l in
    let p = part-carried g pages v d k b slots c is at (held k x l) in
    record {
      held = held k x l;
      form = record {
        slots = λ at small. let s = p.0 at small in subst (λ o. ShowsSlot (content (pages b)) at o) (sym (slot-decoded (content (pages b)) at _ s)) s;
        rest = p.1;
      };
    }

-- where it has 15 slots in each block
pub carried-slots : (g : Geometry) (pages : Pages) (v : Volume) (d : ℕ) (slots : List (Option Entry)) (blocks : List ℕ) → Carries g pages v → body v d ≡ Dir slots → blocks ≡ (node v d).blocks → length slots ≡ 15 * length blocks → All (IsHeld pages) blocks → slots ≡ slots_at pages blocks
carried-slots g pages v d slots blocks c is same long held =
    same_lists slots (slots_at pages blocks) (long ∙ sym (length-slots_at pages blocks)) (λ k x l.
    let inside : k / 15 < length blocks = (let n = long in omega arith) in
    let small : k % 15 < 15 = omega arith in
    let i : 15 * (k / 15) + k % 15 ≡ k = omega arith in
    let b = get_or blocks (k / 15) 0 in
    let at : slice_get (node v d).blocks (k / 15) ≡ Some b = ap (λ (bs : List ℕ). slice_get bs (k / 15)) (sym same) ∙ slice_get-get_or blocks (k / 15) 0 inside in
    let p = part-carried g pages v d (k / 15) b slots c is at (held (k / 15) 0 inside) in
    get_or_default slots k x None l ∙ ap (λ (j : ℕ). get_or slots j None) (sym i) ∙ sym (slot-decoded (content (pages b)) (k % 15) _ (p.0 (k % 15) small)) ∙ sym (slots_at-at pages blocks (k / 15) (k % 15) x inside small) ∙ ap (λ (j : ℕ). get_or (slots_at pages blocks) j x) i)

pub dir-form : (g : Geometry) (pages : Pages) (v : Volume) (d : ℕ) (slots : List (Option Entry)) (blocks : List ℕ) → Agrees g pages v → body v d ≡ Dir slots → blocks ≡ (node v d).blocks → All (IsHeld pages) blocks → All (IsDirAt pages) blocks
dir-form g pages v d slots blocks agrees is same held = carried-form g pages v d slots blocks (carries-sound g pages v agrees) is same held

pub dir-slots : (g : Geometry) (pages : Pages) (v : Volume) (d : ℕ) (slots : List (Option Entry)) (blocks : List ℕ) → Agrees g pages v → body v d ≡ Dir slots → blocks ≡ (node v d).blocks → All (IsHeld pages) blocks → slots ≡ slots_at pages blocks
dir-slots g pages v d slots blocks agrees is same held =
    let fine : IsBody (Dir slots) (length (node v d).blocks) = subst (λ x. IsBody x (length (node v d).blocks)) is (agrees.sound.nodes d).body in
    carried-slots g pages v d slots blocks (carries-sound g pages v agrees) is same (fine.1 ∙ ap (λ (bs : List ℕ). 15 * length bs) (sym same)) held

-- its blocks are not known to be free, and are looked at
pub blocks-there : (g : Geometry) (pages : Pages) (v : Volume) (d : ℕ) (blocks : List ℕ) → Agrees g pages v → blocks ≡ (node v d).blocks → All (λ b. pages b ≢ Some None) blocks
blocks-there g pages v d blocks agrees same k x l =
    use-there g pages v (Part d k) (get_or blocks k x) agrees (ap (λ (bs : List ℕ). slice_get bs k) (sym same) ∙ slice_get-get_or blocks k x l)

pub blocks-has : (n : Node) (blocks : List ℕ) (b : ℕ) → blocks ≡ n.blocks → Contains blocks b → has_block n b ≡ true
blocks-has n blocks b same c = use-has n b (inl (c.0, ap (λ (bs : List ℕ). slice_get bs c.0) (sym same) ∙ slice_get-get_or blocks c.0 b c.1 ∙ ap (λ (x : ℕ). Some x) c.2))

pub pointers-has : (n : Node) (b : ℕ) → n.indirect ≡ Some b → has_block n b ≡ true
pointers-has n b e = use-has n b (inr e)

-- ---- a search from block to block

pub found-here : (pages : Pages) (name blocks : List ℕ) (k b : ℕ) (page : List ℕ) (i : ℕ) → k < length blocks → b ≡ get_or blocks k b → page ≡ content (pages b) → Some i ≡ find name (slots_in page)
    → find name (slots_at pages (drop k blocks)) ≡ find name (slots_at pages blocks) → Some i ≡ find name (slots_at pages blocks)
found-here pages name blocks k b page i l at is e h =
    sym (find-here name (slots_in (content (pages b))) (slots_at pages (drop (k + 1) blocks)) i (e ∙ ap (λ (p : List ℕ). find name (slots_in p)) is)) ∙ sym (ap (λ (s : List (Option Entry)). find name s) (slots-drop pages blocks k b l at)) ∙ h

pub found-beyond : (pages : Pages) (name blocks : List ℕ) (k b : ℕ) (page : List ℕ) → k < length blocks → b ≡ get_or blocks k b → page ≡ content (pages b) → None ≡ find name (slots_in page)
    → find name (slots_at pages (drop k blocks)) ≡ find name (slots_at pages blocks) → find name (slots_at pages (drop (k + 1) blocks)) ≡ find name (slots_at pages blocks)
found-beyond pages name blocks k b page l at is e h =
    sym (find-beyond name (slots_in (content (pages b))) (slots_at pages (drop (k + 1) blocks)) (e ∙ ap (λ (p : List ℕ). find name (slots_in p)) is)) ∙ sym (ap (λ (s : List (Option Entry)). find name s) (slots-drop pages blocks k b l at)) ∙ h

pub counted-more : (pages : Pages) (blocks : List ℕ) (k b : ℕ) (page : List ℕ) (n : ℕ) → k < length blocks → b ≡ get_or blocks k b → page ≡ content (pages b) → n ≡ count_names (slots_in page)
    → count_names (slots_at pages (drop k blocks)) ≡ n + count_names (slots_at pages (drop (k + 1) blocks))
counted-more pages blocks k b page n l at is e =
    ap (λ (s : List (Option Entry)). count_names s) (slots-drop pages blocks k b l at) ∙ count-append (slots_in (content (pages b))) (slots_at pages (drop (k + 1) blocks))
    ∙ ap (λ (m : ℕ). m + count_names (slots_at pages (drop (k + 1) blocks))) (sym (e ∙ ap (λ (p : List ℕ). count_names (slots_in p)) is))
