-- The blocks that an inode has no more, where it is freed or a file is cut.
use Rattle.std.proofs.Common.{◌≡◌, ℕ, zero, suc, ◌<◌, ◌≤◌, inl, inr, List, [], ◌∷◌, ◌++◌, length, drop, take, Bool, true, false, cond, refl, sym, ap, subst, ◌∙◌}
use Rattle.std.specs.Prelude.{Option, Some, None, ◌||◌, is_some, nat_eq, nat_lt, if◌then◌else◌}
use Rattle.std.specs.List.{All}
use Rattle.std.proofs.lemmas.Bool.{cases_Bool, ltb-false, ltb-true, true≢false}
use Rattle.std.proofs.lemmas.List.Elements.{All-contains}
use Rattle.mq_blocks.proofs.JournalAmong.{among-behind, among-cons, among-contains, among-either, among-here, among-one, among-parts}
use Rattle.mq_blocks.specs.Geometry.{queues_of}
use Rattle.mq_blocks.specs.Journal.{is_among}
use Rattle.mq_blocks.specs.declared.geometry.Geometry.{Geometry}
use Rattle.mq_inodes.specs.Changes.{IsCleared, zone_in}
use Rattle.mq_inodes.specs.Fits.{Fits}
use Rattle.mq_inodes.specs.Opened.{IsOpened, IsReleasable, cut_file}
use Rattle.mq_inodes.specs.Pages.{IsHeld, Pages, content}
use Rattle.mq_inodes.specs.Released.{IsReleased, gone_from}
use Rattle.mq_inodes.specs.declared.opened.Opened.{Opened}
use Rattle.mq_inodes.proofs.ChangesLists.{bitmap-zone, bitmaps, if_some, indirect-among, listed-drop, part-gone, pointers-gone, some-is}
use Rattle.mq_layout.specs.Places.{zone_bitmap}
use Rattle.mq_layout.specs.declared.inode.Inode.{Inode}
use Rattle.mq_tree.specs.Laid.{or_zero}
use Rattle.mq_tree.specs.Volume.{Node, Volume, has_block, is_block, node}
use Rattle.mq_tree.proofs.FreeUses.{node-here}
use Rattle.mq_tree.specs.Uses.{AreUses}
use Rattle.mq_tree.proofs.LaidUses.{use-has}

-- ---- which they are

abbrev pub gone_node : (count : ℕ) → Node → List ℕ
gone_node count n = drop count n.blocks ++ (if nat_lt 12 count then [] else if_some n.indirect)

-- what is known of the inode says the same
pub gone-opened : (g : Geometry) (v : Volume) (o : Opened) (count : ℕ) → IsOpened g v o → gone_from o count ≡ gone_node count (node v o.number)
gone-opened g v o count p =
    let n = node v o.number in
    ap (λ (xs : List ℕ). drop count xs ++ (if nat_lt 12 count then [] else (if nat_lt 12 (length xs) then o.inode.indirect ∷ [] else []))) p.blocks
    ∙ ap (λ (x : Inode). drop count n.blocks ++ (if nat_lt 12 count then [] else (if nat_lt 12 (length n.blocks) then x.indirect ∷ [] else []))) p.inode
    ∙ ap (λ (ys : List ℕ). drop count n.blocks ++ (if nat_lt 12 count then [] else ys)) (own n.indirect (nat_lt 12 (length n.blocks)) p.indirect)
  where
    own : (x : Option ℕ) (t : Bool) → is_some x ≡ t → cond t (or_zero x ∷ []) [] ≡ if_some x
    own None true e = absurd (true≢false (sym e))
    own None false e = refl
    own (Some p) true e = refl
    own (Some p) false e = absurd (true≢false e)

pub gone-has : (g : Geometry) (v : Volume) (i count : ℕ) (bytes : List ℕ) (c : ℕ) → AreUses g v → i < length v → is_among c (gone_node count (node v i)) ≡ true → (has_block (node v i) c ≡ true) × (has_block (node (cut_file v i count bytes) i) c ≡ false)
gone-has g v i count bytes c uses low e = elim (among-either (drop count (node v i).blocks) (if nat_lt 12 count then [] else if_some (node v i).indirect) c e) [
  | inl d ↦ let t = listed-drop count (node v i).blocks c d in (use-has (node v i) c (inl (t.0, t.2)), part-gone g v i count bytes t.0 c uses low t.1 t.2)
  | inr p ↦ elim (cases_Bool (nat_lt 12 count)) [
    | inl far ↦ absurd (true≢false (sym (ap (λ (t : Bool). is_among c (if t then [] else if_some (node v i).indirect)) (sym far) ∙ p)))
    | inr near ↦
        let is = some-is (node v i).indirect c (ap (λ (t : Bool). is_among c (if t then [] else if_some (node v i).indirect)) (sym near) ∙ p) in
        (use-has (node v i) c (inr is), pointers-gone g v i count bytes c uses low near is)
  ]
]

among-take : (n : ℕ) (xs : List ℕ) (c : ℕ) → is_among c (drop n xs) ≡ false → is_among c xs ≡ is_among c (take n xs)
among-take zero xs c out = out
among-take (suc n) [] c out = refl
among-take (suc n) (x ∷ xs) c out = ap (λ (t : Bool). cond (nat_eq x c) true t) (among-take n xs c out)

pub gone-left : (v : Volume) (i count : ℕ) (bytes : List ℕ) (c : ℕ) → i < length v → is_among c (gone_node count (node v i)) ≡ false → has_block (node v i) c ≡ has_block (node (cut_file v i count bytes) i) c
gone-left v i count bytes c low out =
    let n = node v i in
    let p = among-parts (drop count n.blocks) (if nat_lt 12 count then [] else if_some n.indirect) c out in
    ap (λ (t : Bool). t || is_block c n.indirect) (among-take count n.blocks c p.0) ∙ ap (λ (t : Bool). is_among c (take count n.blocks) || t) (pointer (nat_lt 12 count) n.indirect p.1)
    ∙ ap (λ (m : Node). has_block m c) (sym (node-here v i (record { body = _; blocks = take count n.blocks; indirect = if nat_lt 12 count then n.indirect else None; links = n.links }) low))
  where
    pointer : (t : Bool) (x : Option ℕ) → is_among c (if t then [] else if_some x) ≡ false → is_block c x ≡ is_block c (if t then x else None)
    pointer true x e = refl
    pointer false x e = sym (indirect-among x c) ∙ e

-- ---- their zones

abbrev pub zones_of : Geometry → List ℕ → List ℕ
zones_of g [] = []
zones_of g (b ∷ bs) = zone_in g b ∷ zones_of g bs

pub zone-listed : (g : Geometry) (bs : List ℕ) (c : ℕ) → is_among c bs ≡ true → is_among (zone_in g c) (zones_of g bs) ≡ true
zone-listed g [] c e = absurd (true≢false (sym e))
zone-listed g (b ∷ bs) c e = elim (among-cons b c bs e) [
  | inl same ↦ ap (λ (x : ℕ). is_among (zone_in g x) (zone_in g b ∷ zones_of g bs)) same ∙ among-here (zone_in g b) (zones_of g bs)
  | inr later ↦ among-behind (zone_in g b) (zone_in g c) (zones_of g bs) (zone-listed g bs c later)
]

pub listed-zone : (g : Geometry) (bs : List ℕ) (z : ℕ) → is_among z (zones_of g bs) ≡ true → (c : ℕ) × (is_among c bs ≡ true) × (z ≡ zone_in g c)
listed-zone g [] z e = absurd (true≢false (sym e))
listed-zone g (b ∷ bs) z e = elim (among-cons (zone_in g b) z (zones_of g bs) e) [
  | inl same ↦ (b, among-here b bs, same)
  | inr later ↦ let r = listed-zone g bs z later in (r.0, among-behind b r.0 bs r.1, r.2)
]

-- a bitmap of a zone that is listed beside other blocks
pub bitmap-in : (g : Geometry) (xs bs ys : List ℕ) (b : ℕ) → is_among b (xs ++ (bitmaps (zones_of g bs) ++ ys)) ≡ true → is_among b xs ≡ false → is_among b ys ≡ false → (c : ℕ) × (is_among c bs ≡ true) × (b ≡ zone_bitmap (zone_in g c))
bitmap-in g xs bs ys b e first last = elim (among-either xs (bitmaps (zones_of g bs) ++ ys) b e) [
  | inl l ↦ absurd (true≢false (sym l ∙ first))
  | inr r ↦ elim (among-either (bitmaps (zones_of g bs)) ys b r) [
    | inl z ↦
        let m = bitmap-zone (zones_of g bs) b z in
        let t = listed-zone g bs m.0 m.1 in
        (t.0, t.1, m.2 ∙ ap zone_bitmap t.2)
    | inr y ↦ absurd (true≢false (sym y ∙ last))
  ]
]

-- ---- what is known of them

among-all : (P : ℕ → Type 0) (xs : List ℕ) (c : ℕ) → All P xs → is_among c xs ≡ true → P c
among-all P xs c all e = All-contains P xs c all (among-contains xs c e)

pub gone-releasable : (g : Geometry) (pages : Pages) (o : Opened) (count : ℕ) → All (IsReleasable g pages) (drop count o.blocks.items) → (count ≤ 12 → 12 < length o.blocks.items → IsReleasable g pages o.inode.indirect) → (c : ℕ) → is_among c (gone_from o count) ≡ true → IsReleasable g pages c
gone-releasable g pages o count blocks pointers c e = elim (among-either (drop count o.blocks.items) (if nat_lt 12 count then [] else (if nat_lt 12 (length o.blocks.items) then o.inode.indirect ∷ [] else [])) c e) [
  | inl d ↦ among-all (IsReleasable g pages) (drop count o.blocks.items) c blocks d
  | inr p ↦ at (nat_lt 12 count) refl p
]
  where
    many : count ≤ 12 → (t : Bool) → nat_lt 12 (length o.blocks.items) ≡ t → is_among c (if t then o.inode.indirect ∷ [] else []) ≡ true → IsReleasable g pages c
    many few true t e = subst (IsReleasable g pages) (sym (among-one o.inode.indirect c e)) (pointers few (ltb-true 12 (length o.blocks.items) t))
    many few false t e = absurd (true≢false (sym e))

    at : (t : Bool) → nat_lt 12 count ≡ t → is_among c (if t then [] else (if nat_lt 12 (length o.blocks.items) then o.inode.indirect ∷ [] else [])) ≡ true → IsReleasable g pages c
    at true t e = absurd (true≢false (sym e))
    at false t e = many (ltb-false 12 count t) (nat_lt 12 (length o.blocks.items)) refl e

-- ---- the bitmaps of their zones

pub cleared-by : (g : Geometry) (v : Volume) (old mid new : Pages) (zone : ℕ) (blocks : List ℕ) (gone : ℕ → Bool) → Fits g old v → IsReleased g old mid blocks → zone < queues_of g → IsHeld old (zone_bitmap zone) → new (zone_bitmap zone) ≡ mid (zone_bitmap zone)
    → ((b : ℕ) → gone b ≡ is_among b blocks) → IsCleared g old new zone gone
cleared-by g v old mid new zone blocks gone fits r low held same is =
    let before = content (old (zone_bitmap zone)) in
    let c = r.marks zone before low held in
    record {
      before = before;
      after = c.after;
      turns = record { was = held; now = same ∙ c.now; form = c.form (fits.held (zone_bitmap zone) before held).0 };
      clear = λ k l e. c.clear k l (sym (is _) ∙ e);
      rest = λ k out. c.rest k (λ l. sym (is _) ∙ out l);
    }
