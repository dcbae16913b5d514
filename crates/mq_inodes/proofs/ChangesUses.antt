-- The uses of a volume where one inode changes, and how it changes.
use Rattle.std.proofs.Common.{◌≡◌, ℕ, ◌<◌, ◌≤◌, ◌⊎◌, inl, inr, List, true, false, refl, sym, ap, subst, ◌∙◌, arith, lit<, lit≤}
use Rattle.std.specs.Prelude.{Some, ◌↔◌, slice_get}
use Rattle.std.proofs.lemmas.Bool.{cases_Bool, cases_eq, false_from_ne_true, true≢false}
use Rattle.mq_blocks.specs.Geometry.{homes_of, meta_of, queues_of, zone_size}
use Rattle.mq_blocks.specs.Journal.{is_among}
use Rattle.mq_blocks.specs.declared.geometry.Geometry.{Geometry}
use Rattle.mq_inodes.specs.Changes.{AreOthers, ChangesAt, IsKept, owner}
use Rattle.mq_inodes.proofs.ChangesFrame.{has-use, use-along}
use Rattle.mq_layout.specs.Places.{inode_bitmap, inode_block, zone_bitmap}
use Rattle.mq_tree.specs.Laid.{ShowsPart, ShowsPointers, inode_of, kind_of, zone_block}
use Rattle.mq_tree.specs.Links.{HasLinks}
use Rattle.mq_tree.specs.Volume.{Body, Free, File, Dir, Node, Use, Part, Pointers, Volume, block_in, body, has_block, is_taken, is_used, node}
use Rattle.mq_tree.proofs.FreeUses.{not-used, uses-within}
use Rattle.mq_tree.specs.Uses.{AreUses}
use Rattle.mq_tree.proofs.LaidUses.{use-has}

pub use-cases : (u : Use) (i : ℕ) → owner u ≡ i → ((k : ℕ) × (u ≡ Part i k)) ⊎ (u ≡ Pointers i)
use-cases (Part j k) i e = inl (k, ap (λ (x : ℕ). Part x k) e)
use-cases (Pointers j) i e = inr (ap (λ (x : ℕ). Pointers x) e)

-- ---- uses of the changed volume

-- what the inode uses, it used so before, but perhaps one block
abbrev pub IsOld : (v : Volume) → (u : Use) → (new : Use) → (c b : ℕ) → Type 0
IsOld v u new c b = (block_in v u ≡ Some c) ⊎ ((u ≡ new) × (c ≡ b))

record More (v w : Volume) (new : Use) (b : ℕ) : Type 0 where
  more : (u : Use) (c : ℕ) → block_in w u ≡ Some c → IsOld v u new c b

more-in : (v w : Volume) (i : ℕ) (new : Use) (b : ℕ) → AreOthers v w i → ((k c : ℕ) → slice_get (node w i).blocks k ≡ Some c → IsOld v (Part i k) new c b) → ((c : ℕ) → (node w i).indirect ≡ Some c → IsOld v (Pointers i) new c b)
    → More v w new b
more-in v w i new b o parts pointers = record {
  more = λ u c e. elim (cases_eq (owner u) i) [
    | inl own ↦ elim (use-cases u i own) [
      | inl p ↦ subst (λ x. IsOld v x new c b) (sym p.1) (parts p.0 c (subst (λ x. block_in w x ≡ Some c) p.1 e))
      | inr p ↦ subst (λ x. IsOld v x new c b) (sym p) (pointers c (subst (λ x. block_in w x ≡ Some c) p e))
    ]
    | inr other ↦ inl (use-along w v u c (sym (o (owner u) other)) e)
  ];
}

-- its links are in their range, and so are those of the others
links-with : (v w : Volume) (i : ℕ) → ((x : ℕ) → HasLinks (body v x) (node v x).links) → AreOthers v w i → HasLinks (body w i) (node w i).links → (x : ℕ) → HasLinks (body w x) (node w x).links
links-with v w i a o l x = elim (cases_eq x i) [
  | inl same ↦ subst (λ y. HasLinks (body w y) (node w y).links) (sym same) l
  | inr other ↦ subst (λ (n : Node). HasLinks n.body n.links) (sym (o x other)) (a x)
]

pub links-at : (w : Volume) (i : ℕ) (n : Node) → node w i ≡ n → HasLinks n.body n.links → HasLinks (body w i) (node w i).links
links-at w i n here l = subst (λ (m : Node). HasLinks m.body m.links) (sym here) l

-- a new file or directory has one link
pub used-links : (y : Body) → is_used y ≡ true → HasLinks y 1
used-links Free used = absurd (true≢false (sym used))
used-links (File bytes) used = (lit≤ tt, lit< tt)
used-links (Dir slots) used = refl

-- a file may have the links of another, and so may a directory
pub links-kind : (x y : Body) (k : ℕ) → kind_of x ≡ kind_of y → HasLinks x k → HasLinks y k
links-kind Free Free k e l = l
links-kind Free (File ys) k e l = absurd (omega arith)
links-kind Free (Dir t) k e l = absurd (omega arith)
links-kind (File xs) Free k e l = absurd (omega arith)
links-kind (File xs) (File ys) k e l = l
links-kind (File xs) (Dir t) k e l = absurd (omega arith)
links-kind (Dir r) Free k e l = absurd (omega arith)
links-kind (Dir r) (File ys) k e l = absurd (omega arith)
links-kind (Dir r) (Dir t) k e l = l

-- a free block of the zones is used, and no other that was not
pub uses-new : (g : Geometry) (v w : Volume) (i : ℕ) (new : Use) (b : ℕ) → AreUses g v → AreOthers v w i → meta_of g ≤ b → b < homes_of g → is_taken v b ≡ false
    → ((k c : ℕ) → slice_get (node w i).blocks k ≡ Some c → IsOld v (Part i k) new c b) → ((c : ℕ) → (node w i).indirect ≡ Some c → IsOld v (Pointers i) new c b) → HasLinks (body w i) (node w i).links → AreUses g w
uses-new g v w i new b a o high home free parts pointers l =
    let m = more-in v w i new b o parts pointers in
    record {
      links = links-with v w i a.links o l;
      zones = λ u c e. elim (m.more u c e) [
        | inl old ↦ a.zones u c old
        | inr n ↦ subst (λ y. (meta_of g ≤ y) × (y < homes_of g)) (sym n.1) (high, home)
      ];
      apart = λ u x c e f. elim (m.more u c e) [
        | inl old ↦ elim (m.more x c f) [
          | inl other ↦ a.apart u x c old other
          | inr n ↦ absurd (not-used v u b c free old n.1)
        ]
        | inr n ↦ elim (m.more x c f) [
          | inl other ↦ absurd (not-used v x b c free other n.1)
          | inr too ↦ n.0 ∙ sym too.0
        ]
      ];
    }

-- no block is used that was not
pub uses-fewer : (g : Geometry) (v w : Volume) (i : ℕ) → AreUses g v → AreOthers v w i → ((k c : ℕ) → slice_get (node w i).blocks k ≡ Some c → slice_get (node v i).blocks k ≡ Some c)
    → ((c : ℕ) → (node w i).indirect ≡ Some c → (node v i).indirect ≡ Some c) → HasLinks (body w i) (node w i).links → AreUses g w
uses-fewer g v w i a o parts pointers l = uses-within g v w a (λ u c e. elim (cases_eq (owner u) i) [
  | inl own ↦ elim (use-cases u i own) [
    | inl p ↦ subst (λ x. block_in v x ≡ Some c) (sym p.1) (parts p.0 c (subst (λ x. block_in w x ≡ Some c) p.1 e))
    | inr p ↦ subst (λ x. block_in v x ≡ Some c) (sym p) (pointers c (subst (λ x. block_in w x ≡ Some c) p e))
  ]
  | inr other ↦ use-along w v u c (sym (o (owner u) other)) e
]) (links-with v w i a.links o l)

-- ---- how it changes

-- At blocks that are not listed it has the same, which shows the same.
pub record Rewrites (g : Geometry) (v w : Volume) (i : ℕ) (blocks : List ℕ) : Type 0 where
  pub others : AreOthers v w i
  pub parts : (k c : ℕ) → is_among c blocks ≡ false → slice_get (node v i).blocks k ≡ Some c → slice_get (node w i).blocks k ≡ Some c
  pub parts_show : (k c : ℕ) → is_among c blocks ≡ false → slice_get (node v i).blocks k ≡ Some c → (page : List ℕ) → ShowsPart (body v i) k page ↔ ShowsPart (body w i) k page
  pub parts_were : (k c : ℕ) → is_among c blocks ≡ false → slice_get (node w i).blocks k ≡ Some c → slice_get (node v i).blocks k ≡ Some c
  pub pointers : (c : ℕ) → is_among c blocks ≡ false → (node v i).indirect ≡ Some c → (node w i).indirect ≡ Some c
  pub pointers_show : (c : ℕ) → is_among c blocks ≡ false → (node v i).indirect ≡ Some c → (page : List ℕ) → ShowsPointers (node v i).blocks page ↔ ShowsPointers (node w i).blocks page
  pub pointers_were : (c : ℕ) → is_among c blocks ≡ false → (node w i).indirect ≡ Some c → (node v i).indirect ≡ Some c
  pub marks : (zone k : ℕ) → zone < queues_of g → k < zone_size g → is_among (zone_bitmap zone) blocks ≡ false
      → (is_among (zone_block g zone k) blocks ≡ false) ⊎ (has_block (node v i) (zone_block g zone k) ≡ has_block (node w i) (zone_block g zone k))
  pub inode_marks : is_among (inode_bitmap g) blocks ≡ false → is_used (body v i) ≡ is_used (body w i)
  pub table : is_among (inode_block g i) blocks ≡ false → inode_of (node v i) ≡ inode_of (node w i)
  -- where a part is not listed, a file stays a file
  pub kind : (k c : ℕ) → is_among c blocks ≡ false → slice_get (node v i).blocks k ≡ Some c → kind_of (body v i) ≡ kind_of (body w i)

own-in : (g : Geometry) (v w : Volume) (i : ℕ) (blocks : List ℕ) → Rewrites g v w i blocks → (c : ℕ) → is_among c blocks ≡ false → ((has_block (node v i) c ≡ false) × (has_block (node w i) c ≡ false)) ⊎ IsKept v w c
own-in g v w i blocks r c out = elim (cases_Bool (has_block (node v i) c)) [
  | inl y ↦
      let u = has-use v i c y in
      elim (use-cases u.0 i u.1) [
        | inl p ↦
            let e : slice_get (node v i).blocks p.0 ≡ Some c = subst (λ x. block_in v x ≡ Some c) p.1 u.2 in
            inr (record { purpose = Part i p.0; before = e; after = r.parts p.0 c out e; shows = r.parts_show p.0 c out e })
        | inr p ↦
            let e : (node v i).indirect ≡ Some c = subst (λ x. block_in v x ≡ Some c) p u.2 in
            inr (record { purpose = Pointers i; before = e; after = r.pointers c out e; shows = r.pointers_show c out e })
      ]
  | inr n ↦ inl (
    n,
    false_from_ne_true _ (λ h.
        let u = has-use w i c h in
        elim (use-cases u.0 i u.1) [
          | inl p ↦ true≢false (sym (use-has (node v i) c (inl (p.0, r.parts_were p.0 c out (subst (λ x. block_in w x ≡ Some c) p.1 u.2)))) ∙ n)
          | inr p ↦ true≢false (sym (use-has (node v i) c (inr (r.pointers_were c out (subst (λ x. block_in w x ≡ Some c) p u.2)))) ∙ n)
        ]),
  )
]

-- a block that is not listed is had by the inode in both volumes or in none
has-same : (g : Geometry) (v w : Volume) (i : ℕ) (blocks : List ℕ) → Rewrites g v w i blocks → (c : ℕ) → is_among c blocks ≡ false → has_block (node v i) c ≡ has_block (node w i) c
has-same g v w i blocks r c out = elim (cases_Bool (has_block (node v i) c)) [
  | inl y ↦
      let u = has-use v i c y in
      elim (use-cases u.0 i u.1) [
        | inl p ↦ y ∙ sym (use-has (node w i) c (inl (p.0, r.parts p.0 c out (subst (λ x. block_in v x ≡ Some c) p.1 u.2))))
        | inr p ↦ y ∙ sym (use-has (node w i) c (inr (r.pointers c out (subst (λ x. block_in v x ≡ Some c) p u.2))))
      ]
  | inr n ↦ elim (own-in g v w i blocks r c out) [
    | inl both ↦ n ∙ sym both.1
    | inr k ↦ n ∙ sym (false_from_ne_true _ (λ h.
        let u = has-use w i c h in
        elim (use-cases u.0 i u.1) [
          | inl p ↦ true≢false (sym (use-has (node v i) c (inl (p.0, r.parts_were p.0 c out (subst (λ x. block_in w x ≡ Some c) p.1 u.2)))) ∙ n)
          | inr p ↦ true≢false (sym (use-has (node v i) c (inr (r.pointers_were c out (subst (λ x. block_in w x ≡ Some c) p u.2)))) ∙ n)
        ]))
  ]
]

pub changes-at : (g : Geometry) (v w : Volume) (i : ℕ) (blocks : List ℕ) → Rewrites g v w i blocks → ChangesAt g v w i blocks
changes-at g v w i blocks r = record {
  others = r.others;
  own = own-in g v w i blocks r;
  marks = λ zone k low l out. elim (r.marks zone k low l out) [
    | inl away ↦ has-same g v w i blocks r (zone_block g zone k) away
    | inr same ↦ same
  ];
  inode_marks = r.inode_marks;
  table = r.table;
}
