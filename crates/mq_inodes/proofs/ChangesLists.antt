-- The blocks that change where an inode is freed or a file is cut.
use Rattle.std.proofs.Common.{◌≡◌, ℕ, zero, suc, ◌<◌, ◌≤◌, ◌⊎◌, inl, inr, List, [], ◌∷◌, ◌++◌, length, drop, take, length-take, Bool, true, false, cond, refl, sym, ap, subst, ◌∙◌, arith}
use Rattle.std.specs.Prelude.{Option, Some, None, ◌||◌, nat_eq, nat_lt, slice_get, if◌then◌else◌}
use Rattle.std.proofs.lemmas.Bool.{cases_Bool, false_from_ne_true, or_cases, true≢false}
use Rattle.std.proofs.lemmas.Option.{none-some, same_Some, slice_get_within}
use Rattle.mq_blocks.proofs.JournalAmong.{among-behind, among-cons, among-either, among-here, among-left, among-one, among-right}
use Rattle.mq_blocks.specs.Geometry.{queues_of}
use Rattle.mq_blocks.specs.Journal.{is_among}
use Rattle.mq_blocks.specs.declared.geometry.Geometry.{Geometry}
use Rattle.mq_inodes.specs.Changes.{zone_in}
use Rattle.mq_inodes.specs.Opened.{cut_file}
use Rattle.mq_inodes.proofs.ChangesCut.{AreCut}
use Rattle.mq_inodes.proofs.ChangesFrame.{has-use}
use Rattle.mq_inodes.proofs.ChangesInodes.{AreFreed}
use Rattle.mq_inodes.proofs.ChangesUses.{use-cases}
use Rattle.mq_layout.specs.Places.{inode_bitmap, inode_block, zone_bitmap}
use Rattle.mq_tree.proofs.VolumeChanges.{kept-option, take-get}
use Rattle.mq_tree.specs.Volume.{Node, Use, Part, Pointers, Volume, block_in, has_block, is_block, node, cut_node}
use Rattle.mq_tree.proofs.FreeUses.{node-here}
use Rattle.mq_tree.specs.Uses.{AreUses}
use Rattle.mq_tree.proofs.LaidUses.{use-has}

-- ---- what is listed

-- the bitmaps of zones
abbrev pub bitmaps : List ℕ → List ℕ
bitmaps [] = []
bitmaps (z ∷ zs) = zone_bitmap z ∷ bitmaps zs

bitmap-listed : (zs : List ℕ) (z : ℕ) → is_among z zs ≡ true → is_among (zone_bitmap z) (bitmaps zs) ≡ true
bitmap-listed [] z e = absurd (true≢false (sym e))
bitmap-listed (x ∷ zs) z e = elim (among-cons x z zs e) [
  | inl same ↦ ap (λ (k : ℕ). is_among (zone_bitmap k) (zone_bitmap x ∷ bitmaps zs)) same ∙ among-here (zone_bitmap x) (bitmaps zs)
  | inr later ↦ among-behind (zone_bitmap x) (zone_bitmap z) (bitmaps zs) (bitmap-listed zs z later)
]

pub bitmap-zone : (zs : List ℕ) (b : ℕ) → is_among b (bitmaps zs) ≡ true → (z : ℕ) × (is_among z zs ≡ true) × (b ≡ zone_bitmap z)
bitmap-zone [] b e = absurd (true≢false (sym e))
bitmap-zone (x ∷ zs) b e = elim (among-cons (zone_bitmap x) b (bitmaps zs) e) [
  | inl same ↦ (x, among-here x zs, same)
  | inr later ↦ let r = bitmap-zone zs b later in (r.0, among-behind x r.0 zs r.1, r.2)
]

-- ---- all blocks of an inode

abbrev pub if_some : Option ℕ → List ℕ
if_some None = []
if_some (Some p) = p ∷ []

pub some-is : (x : Option ℕ) (c : ℕ) → is_among c (if_some x) ≡ true → x ≡ Some c
some-is None c e = absurd (true≢false (sym e))
some-is (Some p) c e = ap (λ (y : ℕ). Some y) (sym (among-one p c e))

abbrev pub own_blocks : Node → List ℕ
own_blocks n = n.blocks ++ if_some n.indirect

pub indirect-among : (o : Option ℕ) (b : ℕ) → is_among b (if_some o) ≡ is_block b o
indirect-among None b = refl
indirect-among (Some p) b = elim (cases_Bool (nat_eq p b)) [
  | inl y ↦ ap (λ (t : Bool). cond t true false) y ∙ sym y
  | inr n ↦ ap (λ (t : Bool). cond t true false) n ∙ sym n
]

pub own-listed : (n : Node) (b : ℕ) → has_block n b ≡ true → is_among b (own_blocks n) ≡ true
own-listed n b h = elim (or_cases (is_among b n.blocks) (is_block b n.indirect) h) [
  | inl l ↦ among-left n.blocks (if_some n.indirect) b l
  | inr r ↦ among-right n.blocks (if_some n.indirect) b (indirect-among n.indirect b ∙ r)
]

pub listed-own : (n : Node) (b : ℕ) → is_among b (own_blocks n) ≡ true → has_block n b ≡ true
listed-own n b e = elim (among-either n.blocks (if_some n.indirect) b e) [
  | inl l ↦ ap (λ (t : Bool). t || is_block b n.indirect) l
  | inr r ↦ or-right (is_among b n.blocks) (is_block b n.indirect) (sym (indirect-among n.indirect b) ∙ r)
]
  where
    or-right : (x y : Bool) → y ≡ true → (x || y) ≡ true
    or-right true y h = refl
    or-right false y h = h

-- ---- where an inode is freed

abbrev pub freed_list : Geometry → (inode : ℕ) → (zones : List ℕ) → Node → List ℕ
freed_list g i zs n = inode_block g i ∷ inode_bitmap g ∷ (bitmaps zs ++ own_blocks n)

-- the zones in which it has blocks
pub freed-listed : (g : Geometry) (v : Volume) (i : ℕ) (zs : List ℕ) → ((c : ℕ) → has_block (node v i) c ≡ true → is_among (zone_in g c) zs ≡ true) → ((z : ℕ) → is_among z zs ≡ true → z < queues_of g) → AreFreed g v i (freed_list g i zs (node v i))
freed-listed g v i zs zones low = record {
  inode = among-here (inode_block g i) (inode_bitmap g ∷ (bitmaps zs ++ own_blocks (node v i)));
  used = among-behind (inode_block g i) (inode_bitmap g) (inode_bitmap g ∷ (bitmaps zs ++ own_blocks (node v i))) (among-here (inode_bitmap g) (bitmaps zs ++ own_blocks (node v i)));
  own = λ c h. (rest c (among-right (bitmaps zs) (own_blocks (node v i)) c (own-listed (node v i) c h)), rest (zone_bitmap (zone_in g c)) (among-left (bitmaps zs) (own_blocks (node v i)) (zone_bitmap (zone_in g c)) (bitmap-listed zs (zone_in g c) (zones c h))));
  only = λ c e. elim (among-cons (inode_block g i) c (inode_bitmap g ∷ (bitmaps zs ++ own_blocks (node v i))) e) [
    | inl first ↦ inl first
    | inr later ↦ elim (among-cons (inode_bitmap g) c (bitmaps zs ++ own_blocks (node v i)) later) [
      | inl second ↦ inr (inl second)
      | inr more ↦ elim (among-either (bitmaps zs) (own_blocks (node v i)) c more) [
        | inl z ↦ let r = bitmap-zone zs c z in inr (inr (inr (r.0, low r.0 r.1, r.2)))
        | inr o ↦ inr (inr (inl (listed-own (node v i) c o)))
      ]
    ]
  ];
}
  where
    rest : (c : ℕ) → is_among c (bitmaps zs ++ own_blocks (node v i)) ≡ true → is_among c (freed_list g i zs (node v i)) ≡ true
    rest c e = among-behind (inode_block g i) c (inode_bitmap g ∷ (bitmaps zs ++ own_blocks (node v i))) (among-behind (inode_bitmap g) c (bitmaps zs ++ own_blocks (node v i)) e)

-- ---- where a file is cut

abbrev pub cut_list : Geometry → (inode count : ℕ) → (zones : List ℕ) → Node → List ℕ
cut_list g i count zs n = inode_block g i ∷ (if_some n.indirect ++ (bitmaps zs ++ drop count n.blocks))

drop-listed : (n : ℕ) (xs : List ℕ) (k c : ℕ) → n ≤ k → slice_get xs k ≡ Some c → is_among c (drop n xs) ≡ true
drop-listed zero [] k c l e = absurd (none-some c e)
drop-listed zero (x ∷ xs) zero c l e = ap (λ (y : ℕ). is_among y (x ∷ xs)) (sym (same_Some x c e)) ∙ among-here x xs
drop-listed zero (x ∷ xs) (suc k) c l e = among-behind x c xs (drop-listed zero xs k c (omega arith) e)
drop-listed (suc n) [] k c l e = absurd (none-some c e)
drop-listed (suc n) (x ∷ xs) zero c l e = absurd (omega arith)
drop-listed (suc n) (x ∷ xs) (suc k) c l e = drop-listed n xs k c (omega arith) e

pub listed-drop : (n : ℕ) (xs : List ℕ) (c : ℕ) → is_among c (drop n xs) ≡ true → (k : ℕ) × (n ≤ k) × (slice_get xs k ≡ Some c)
listed-drop zero [] c e = absurd (true≢false (sym e))
listed-drop zero (x ∷ xs) c e = elim (among-cons x c xs e) [
  | inl same ↦ (zero, (omega arith), ap (λ (y : ℕ). Some y) (sym same))
  | inr later ↦ let r = listed-drop zero xs c later in (suc r.0, (omega arith), r.2)
]
listed-drop (suc n) [] c e = absurd (true≢false (sym e))
listed-drop (suc n) (x ∷ xs) c e = let r = listed-drop n xs c e in let l = r.1 in (suc r.0, (omega arith), r.2)

take-low : (n : ℕ) (xs : List ℕ) (k c : ℕ) → slice_get (take n xs) k ≡ Some c → k < n
take-low n xs k c e = let l = slice_get_within (take n xs) k c e in let m = length-take n xs in omega arith

abbrev place_of : Use → ℕ
place_of (Part i k) = k
place_of (Pointers i) = 0

abbrev number_of : Use → ℕ
number_of (Part i k) = 0
number_of (Pointers i) = 1

-- what it still has
cut-here : (v : Volume) (i count : ℕ) (bytes : List ℕ) → i < length v → node (cut_file v i count bytes) i ≡ cut_node (node v i) count bytes
cut-here v i count bytes low = node-here v i (cut_node (node v i) count bytes) low

part-left : (v : Volume) (i count : ℕ) (bytes : List ℕ) (k c : ℕ) → i < length v → slice_get (node (cut_file v i count bytes) i).blocks k ≡ Some c → (k < count) × (slice_get (node v i).blocks k ≡ Some c)
part-left v i count bytes k c low e =
    let f = ap (λ (n : Node). slice_get n.blocks k) (sym (cut-here v i count bytes low)) ∙ e in
    (take-low count (node v i).blocks k c f, take-get count (node v i).blocks k c f)

pointers-left : (v : Volume) (i count : ℕ) (bytes : List ℕ) (c : ℕ) → i < length v → (node (cut_file v i count bytes) i).indirect ≡ Some c → (node v i).indirect ≡ Some c
pointers-left v i count bytes c low e = kept-option (nat_lt 12 count) (node v i).indirect c (ap (λ (n : Node). n.indirect) (sym (cut-here v i count bytes low)) ∙ e)

-- and what it has no more
pub part-gone : (g : Geometry) (v : Volume) (i count : ℕ) (bytes : List ℕ) (k c : ℕ) → AreUses g v → i < length v → count ≤ k → slice_get (node v i).blocks k ≡ Some c → has_block (node (cut_file v i count bytes) i) c ≡ false
part-gone g v i count bytes k c uses low past e = false_from_ne_true _ (λ h.
    let w = cut_file v i count bytes in
    let u = has-use w i c h in
    elim (use-cases u.0 i u.1) [
      | inl p ↦
          let l = part-left v i count bytes p.0 c low (subst (λ x. block_in w x ≡ Some c) p.1 u.2) in
          let low_place = l.0 in
          let same : place_of (Part i k) ≡ place_of (Part i p.0) = ap place_of (uses.apart (Part i k) (Part i p.0) c e l.1) in
          absurd (omega arith)
      | inr p ↦
          let same : number_of (Part i k) ≡ number_of (Pointers i) = ap number_of (uses.apart (Part i k) (Pointers i) c e (pointers-left v i count bytes c low (subst (λ x. block_in w x ≡ Some c) p u.2))) in
          absurd (omega arith)
    ])

pub pointers-gone : (g : Geometry) (v : Volume) (i count : ℕ) (bytes : List ℕ) (c : ℕ) → AreUses g v → i < length v → nat_lt 12 count ≡ false → (node v i).indirect ≡ Some c → has_block (node (cut_file v i count bytes) i) c ≡ false
pointers-gone g v i count bytes c uses low n e = false_from_ne_true _ (λ h.
    let w = cut_file v i count bytes in
    let u = has-use w i c h in
    elim (use-cases u.0 i u.1) [
      | inl p ↦
          let l = part-left v i count bytes p.0 c low (subst (λ x. block_in w x ≡ Some c) p.1 u.2) in
          let same : number_of (Part i p.0) ≡ number_of (Pointers i) = ap number_of (uses.apart (Part i p.0) (Pointers i) c l.1 e) in
          absurd (omega arith)
      | inr p ↦
          let none : (node w i).indirect ≡ None = ap (λ (m : Node). m.indirect) (cut-here v i count bytes low) ∙ ap (λ (t : Bool). if t then (node v i).indirect else None) n in
          absurd (none-some c (sym none ∙ subst (λ x. block_in w x ≡ Some c) p u.2))
    ])

-- the zones in which it loses blocks
pub cut-listed : (g : Geometry) (v : Volume) (i count : ℕ) (bytes zs : List ℕ) → AreUses g v → i < length v → ((c : ℕ) → has_block (node v i) c ≡ true → has_block (node (cut_file v i count bytes) i) c ≡ false → is_among (zone_in g c) zs ≡ true)
    → ((z : ℕ) → is_among z zs ≡ true → z < queues_of g) → AreCut g v (cut_file v i count bytes) i count (cut_list g i count zs (node v i))
cut-listed g v i count bytes zs uses low zones zone_low = record {
  inode = among-here (inode_block g i) (if_some (node v i).indirect ++ more);
  pointers = λ p e. rest p (among-left (if_some (node v i).indirect) more p (ap (λ (o : Option ℕ). is_among p (if_some o)) e ∙ among-here p []));
  past = λ k c l e. rest c (among-right (if_some (node v i).indirect) more c (among-right (bitmaps zs) (drop count (node v i).blocks) c (drop-listed count (node v i).blocks k c l e)));
  zones = λ c had has. rest (zone_bitmap (zone_in g c)) (among-right (if_some (node v i).indirect) more (zone_bitmap (zone_in g c)) (among-left (bitmaps zs) (drop count (node v i).blocks) (zone_bitmap (zone_in g c)) (bitmap-listed zs (zone_in g c) (zones c had has))));
  only = λ c e. elim (among-cons (inode_block g i) c (if_some (node v i).indirect ++ more) e) [
    | inl first ↦ inl first
    | inr later ↦ elim (among-either (if_some (node v i).indirect) more c later) [
      | inl p ↦ elim (pointers-kept (cases_Bool (nat_lt 12 count)) c (some-is (node v i).indirect c p)) [
        | inl kept ↦ inr (inl kept)
        | inr gone ↦ inr (inr (inl gone))
      ]
      | inr r ↦ elim (among-either (bitmaps zs) (drop count (node v i).blocks) c r) [
        | inl z ↦ let t = bitmap-zone zs c z in inr (inr (inr (t.0, zone_low t.0 t.1, t.2)))
        | inr d ↦ let t = listed-drop count (node v i).blocks c d in inr (inr (inl (use-has (node v i) c (inl (t.0, t.2)), part-gone g v i count bytes t.0 c uses low t.1 t.2)))
      ]
    ]
  ];
}
  where
    w : Volume
    w = cut_file v i count bytes

    more : List ℕ
    more = bitmaps zs ++ drop count (node v i).blocks

    here : node w i ≡ cut_node (node v i) count bytes
    here = cut-here v i count bytes low

    rest : (c : ℕ) → is_among c (if_some (node v i).indirect ++ more) ≡ true → is_among c (cut_list g i count zs (node v i)) ≡ true
    rest c e = among-behind (inode_block g i) c (if_some (node v i).indirect ++ more) e

    pointers-kept : (nat_lt 12 count ≡ true) ⊎ (nat_lt 12 count ≡ false) → (c : ℕ) → (node v i).indirect ≡ Some c → ((node w i).indirect ≡ Some c) ⊎ ((has_block (node v i) c ≡ true) × (has_block (node w i) c ≡ false))
    pointers-kept (inl y) c e = inl (ap (λ (n : Node). n.indirect) here ∙ ap (λ (t : Bool). if t then (node v i).indirect else None) y ∙ e)
    pointers-kept (inr n) c e = inr (use-has (node v i) c (inr e), pointers-gone g v i count bytes c uses low n e)
