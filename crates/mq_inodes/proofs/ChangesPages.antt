-- What a page shows after it was changed: the inode table, and the bitmaps.
use Rattle.std.proofs.Common.{◌≡◌, ◌≢◌, ℕ, ◌+◌, ◌*◌, ◌/◌, ◌%◌, ◌<◌, ◌⊎◌, inl, inr, List, Bool, true, false, length, refl, sym, ap, subst, ◌∙◌, arith}
use Rattle.std.specs.Prelude.{if◌then◌else◌, ◌&&◌, nat_lt}
use Rattle.std.proofs.lemmas.Bool.{cases_Bool, cases_eq, cases_lt, lt-ltb}
use Rattle.mq_blocks.specs.Geometry.{queues_of, zone_size}
use Rattle.mq_blocks.specs.Windows.{written}
use Rattle.mq_blocks.specs.declared.geometry.Geometry.{Geometry}
use Rattle.mq_inodes.specs.Changes.{AreOthers}
use Rattle.mq_inodes.proofs.ChangesRegions.{marked-same, shown-in, shows-in, zone-marks-region}
use Rattle.mq_layout.specs.Bits.{bit_of}
use Rattle.mq_layout.specs.Inodes.{IsInode, ShowsInode, inode_bytes}
use Rattle.mq_layout.specs.Places.{inode_bitmap, inode_block, inode_place, inodes_of, zone_bitmap}
use Rattle.mq_layout.proofs.SlotsLaws.{inode-kept, inode-written}
use Rattle.mq_tree.specs.Laid.{InodeMarks, IsPage, ShowsPage, ShowsMarks, ShowsTable, Table, ZoneMarks, inode_marked, inode_of, zone_block, zone_marked}
use Rattle.mq_tree.specs.Volume.{Node, Volume, body, is_taken, is_used, node}
use Rattle.mq_tree.proofs.LaidRegions.{region-inode_marks, region-table, table-holds}

-- ---- the inode table

table-written : (v w : Volume) (i at : ℕ) (old new : List ℕ) → AreOthers v w i → length old ≡ 4096 → at ≡ i % 32 → IsInode (inode_of (node w i)) → new ≡ written old (128 * at) (inode_bytes (inode_of (node w i)))
    → ShowsTable v (i / 32) old → ShowsTable w (i / 32) new
table-written v w i at old new o whole is good e s k l =
    let page = written old (128 * at) (inode_bytes (inode_of (node w i))) in
    let low : at < 32 = omega arith in
    elim (cases_eq at k) [
      | inl same ↦
          let j : 32 * (i / 32) + k ≡ i = omega arith in
          let here : ShowsInode page k (inode_of (node w i)) = subst (λ x. ShowsInode page x (inode_of (node w i))) same (inode-written old at (inode_of (node w i)) whole low good) in
          subst (λ p. ShowsInode p k (inode_of (node w (32 * (i / 32) + k)))) (sym e) (subst (λ x. ShowsInode page k (inode_of (node w x))) (sym j) here)
      | inr other ↦
          let j : 32 * (i / 32) + k ≢ i = λ h. other (omega arith) in
          let kept = inode-kept old at k (inode_of (node w i)) (inode_of (node v (32 * (i / 32) + k))) whole low other good (s k l) in
          subst (λ p. ShowsInode p k (inode_of (node w (32 * (i / 32) + k)))) (sym e) (subst (λ n. ShowsInode page k (inode_of n)) (sym (o (32 * (i / 32) + k) j)) kept)
    ]

-- the block of an inode that was written
pub table-put : (g : Geometry) (v w : Volume) (i at : ℕ) (old new : List ℕ) → i < inodes_of g → AreOthers v w i → ShowsPage g v (inode_block g i) old → IsPage new → at ≡ inode_place i → IsInode (inode_of (node w i))
    → new ≡ written old (128 * at) (inode_bytes (inode_of (node w i))) → ShowsPage g w (inode_block g i) new
table-put g v w i at old new low o s form is good e =
    let r = region-table g (i / 32) (table-holds g i low) in
    let before : ShowsTable v (i / 32) old = shown-in g v (inode_block g i) (Table (i / 32)) old r s in
    shows-in g w (inode_block g i) (Table (i / 32)) new r form (table-written v w i at old new o s.0.whole is good e before)

-- ---- the bitmap of a zone

bit-along : (bit one : ℕ) (b c : Bool) → bit ≡ one → one ≡ (if b then 1 else 0) → b ≡ c → bit ≡ (if c then 1 else 0)
bit-along bit one b c e f h = e ∙ f ∙ ap (λ (x : Bool). if x then 1 else 0) h

-- Each bit says what is taken now, or is as it was where the block is taken as it was.
abbrev pub IsMarked : Geometry → (v w : Volume) → (zone : ℕ) → (old new : List ℕ) → ℕ → Type 0
IsMarked g v w zone old new k =
    ((k < zone_size g) × (bit_of new k ≡ (if is_taken w (zone_block g zone k) then 1 else 0)))
    ⊎ ((bit_of new k ≡ bit_of old k) × (k < zone_size g → is_taken v (zone_block g zone k) ≡ is_taken w (zone_block g zone k)))

marks-put : (g : Geometry) (v w : Volume) (zone : ℕ) (old new : List ℕ) → zone < queues_of g → ShowsPage g v (zone_bitmap zone) old → IsPage new → ((k : ℕ) → k < 32768 → IsMarked g v w zone old new k) → ShowsPage g w (zone_bitmap zone) new
marks-put g v w zone old new low s form marked =
    let r = zone-marks-region g zone low in
    let before : ShowsMarks old (zone_marked g v zone) = shown-in g v (zone_bitmap zone) (ZoneMarks zone) old r s in
    let after : ShowsMarks new (zone_marked g w zone) = λ k l. elim (marked k l) [
      | inl m ↦
          let inside = lt-ltb k (zone_size g) m.0 in
          let t = is_taken w (zone_block g zone k) in
          bit-along (bit_of new k) (if t then 1 else 0) t (nat_lt k (zone_size g) && t) m.1 refl (sym (ap (λ (b : Bool). b && t) inside))
      | inr m ↦ bit-along (bit_of new k) (bit_of old k) (zone_marked g v zone k) (zone_marked g w zone k) m.0 (before k l) (marked-same g v w zone k m.1)
    ] in
    shows-in g w (zone_bitmap zone) (ZoneMarks zone) new r form after

-- one bit was set or cleared
pub marks-one : (g : Geometry) (v w : Volume) (zone at : ℕ) (value : Bool) (old new : List ℕ) → zone < queues_of g → at < zone_size g → is_taken w (zone_block g zone at) ≡ value
    → ((k : ℕ) → k < zone_size g → k ≢ at → is_taken v (zone_block g zone k) ≡ is_taken w (zone_block g zone k)) → ShowsPage g v (zone_bitmap zone) old → IsPage new
    → bit_of new at ≡ (if value then 1 else 0) → ((k : ℕ) → k ≢ at → bit_of new k ≡ bit_of old k) → ShowsPage g w (zone_bitmap zone) new
marks-one g v w zone at value old new low inside is same s form bit rest = marks-put g v w zone old new low s form (λ k l. elim (cases_eq k at) [
  | inl e ↦
      let here : bit_of new at ≡ (if is_taken w (zone_block g zone at) then 1 else 0) = bit ∙ ap (λ (b : Bool). if b then 1 else 0) (sym is) in
      inl (subst (λ x. x < zone_size g) (sym e) inside, subst (λ x. bit_of new x ≡ (if is_taken w (zone_block g zone x) then 1 else 0)) (sym e) here)
  | inr other ↦ inr (rest k other, λ h. same k h other)
])

-- the bits of the blocks that are gone were cleared
pub marks-cleared : (g : Geometry) (v w : Volume) (zone : ℕ) (gone : ℕ → Bool) (old new : List ℕ) → zone < queues_of g → ((b : ℕ) → gone b ≡ true → is_taken w b ≡ false)
    → ((b : ℕ) → gone b ≡ false → is_taken v b ≡ is_taken w b) → ShowsPage g v (zone_bitmap zone) old → IsPage new
    → ((k : ℕ) → k < zone_size g → gone (zone_block g zone k) ≡ true → bit_of new k ≡ 0)
    → ((k : ℕ) → (k < zone_size g → gone (zone_block g zone k) ≡ false) → bit_of new k ≡ bit_of old k) → ShowsPage g w (zone_bitmap zone) new
marks-cleared g v w zone gone old new low free same s form bits rest = marks-put g v w zone old new low s form (λ k l. elim (cases_lt k (zone_size g)) [
  | inl inside ↦ elim (cases_Bool (gone (zone_block g zone k))) [
    | inl y ↦ inl (inside, bits k inside y ∙ sym (ap (λ (b : Bool). if b then 1 else 0) (free (zone_block g zone k) y)))
    | inr n ↦ inr (rest k (λ h. n), λ h. same (zone_block g zone k) n)
  ]
  | inr past ↦ inr (rest k (λ h. absurd (omega arith)), λ h. absurd (omega arith))
])

-- ---- the bitmap of the inodes

pub inode_marks-one : (g : Geometry) (v w : Volume) (i : ℕ) (value : Bool) (old new : List ℕ) → AreOthers v w i → is_used (body w i) ≡ value → ShowsPage g v (inode_bitmap g) old → IsPage new
    → bit_of new i ≡ (if value then 1 else 0) → ((k : ℕ) → k ≢ i → bit_of new k ≡ bit_of old k) → ShowsPage g w (inode_bitmap g) new
inode_marks-one g v w i value old new o is s form bit rest =
    let r = region-inode_marks g in
    let before : ShowsMarks old (inode_marked v) = shown-in g v (inode_bitmap g) InodeMarks old r s in
    let after : ShowsMarks new (inode_marked w) = λ k l. elim (cases_eq k i) [
      | inl e ↦
          let here : bit_of new i ≡ (if is_used (body w i) then 1 else 0) = bit ∙ ap (λ (b : Bool). if b then 1 else 0) (sym is) in
          subst (λ x. bit_of new x ≡ (if is_used (body w x) then 1 else 0)) (sym e) here
      | inr other ↦ bit-along (bit_of new k) (bit_of old k) (is_used (body v k)) (is_used (body w k)) (rest k other) (before k l) (ap (λ (n : Node). is_used n.body) (sym (o k other)))
    ] in
    shows-in g w (inode_bitmap g) InodeMarks new r form after
