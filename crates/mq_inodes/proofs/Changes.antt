-- The changes of one inode of which requests are made.
use Rattle.std.proofs.Common.{get_or, ◌≡◌, ◌≢◌, ℕ, zero, suc, ◌+◌, ◌-◌, ◌*◌, ◌/◌, ◌<◌, ◌≤◌, ◌⊎◌, inl, inr, List, [], ◌∷◌, ◌++◌, length, Bool, true, false, refl, sym, ap, subst, ◌∙◌, arith}
use Rattle.std.specs.Prelude.{Option, Some, None, ◌↔◌, ◌||◌, slice_get, nat_eq}
use Rattle.std.proofs.lemmas.Bool.{cases_Bool, ne_eqb, true≢false}
use Rattle.std.proofs.lemmas.List.{get_or_past, get_or_append_left, get_or_default, length-append, same_lists}
use Rattle.std.proofs.lemmas.Nat.{div-mul-add}
use Rattle.std.proofs.lemmas.Option.{none-some, same_Some}
use Rattle.mq_blocks.proofs.JournalAmong.{among-apart, among-push}
use Rattle.mq_blocks.specs.Geometry.{homes_of, meta_of, zone_size}
use Rattle.mq_blocks.specs.Journal.{is_among}
use Rattle.mq_blocks.specs.declared.geometry.Geometry.{Geometry}
use Rattle.mq_inodes.specs.Changes.{AreOthers, zone_in}
use Rattle.mq_inodes.proofs.ChangesFrame.{has-use, same-bool}
use Rattle.mq_inodes.proofs.LaidParts.{pointers-along}
use Rattle.mq_inodes.proofs.ChangesUses.{Rewrites, use-cases, uses-fewer, uses-new}
use Rattle.mq_layout.specs.Places.{inode_bitmap, inode_block, zone_bitmap}
use Rattle.mq_tree.proofs.CleanLaid.{length-padded}
use Rattle.mq_tree.proofs.FreeUses.{push-get}
use Rattle.mq_tree.specs.Laid.{ShowsPart, ShowsPointers, inode_of, kind_of, padded, zone_block}
use Rattle.mq_tree.specs.Links.{HasLinks}
use Rattle.mq_tree.specs.Volume.{Body, Free, File, Dir, Part, Pointers, Volume, block_in, body, has_block, is_block, is_taken, is_used, node}
use Rattle.mq_tree.specs.Uses.{AreUses}
use Rattle.mq_tree.proofs.LaidUnique.{padded-at}
use Rattle.mq_tree.proofs.LaidUses.{use-has}

-- ---- zones

pub zone-of-block : (g : Geometry) (zone k : ℕ) → k < zone_size g → zone_in g (zone_block g zone k) ≡ zone
zone-of-block g zone k low =
    let e : zone_block g zone k - meta_of g ≡ zone * zone_size g + k = omega arith in
    ap (λ (x : ℕ). x / zone_size g) e ∙ div-mul-add zone (zone_size g) k low

-- where the bitmap of a block's zone is listed, and that of another is not, it is another block
other-zone : (g : Geometry) (blocks : List ℕ) (b zone k : ℕ) → is_among (zone_bitmap (zone_in g b)) blocks ≡ true → k < zone_size g → is_among (zone_bitmap zone) blocks ≡ false → zone_block g zone k ≢ b
other-zone g blocks b zone k listed low out e =
    let same : zone_in g b ≡ zone = ap (λ (x : ℕ). zone_in g x) (sym e) ∙ zone-of-block g zone k low in
    true≢false (sym listed ∙ ap (λ (x : ℕ). is_among (zone_bitmap x) blocks) same ∙ out)

-- ---- the blocks stay

pub used-kind : (x y : Body) → kind_of x ≡ kind_of y → is_used x ≡ is_used y
used-kind Free Free e = refl
used-kind Free (File bytes) e = absurd (omega arith)
used-kind Free (Dir slots) e = absurd (omega arith)
used-kind (File bytes) Free e = absurd (omega arith)
used-kind (File bytes) (File now) e = refl
used-kind (File bytes) (Dir slots) e = refl
used-kind (Dir slots) Free e = absurd (omega arith)
used-kind (Dir slots) (File bytes) e = refl
used-kind (Dir slots) (Dir now) e = refl

pub body-shows : (x y : Body) (k : ℕ) (page : List ℕ) → x ≡ y → ShowsPart x k page ↔ ShowsPart y k page
body-shows x y k page e = (subst (λ b. ShowsPart b k page) e, subst (λ b. ShowsPart b k page) (sym e))

pointers-show : (xs ys : List ℕ) (page : List ℕ) → xs ≡ ys → ShowsPointers xs page ↔ ShowsPointers ys page
pointers-show xs ys page e = (subst (λ b. ShowsPointers b page) e, subst (λ b. ShowsPointers b page) (sym e))

-- a body changes, over the same blocks
pub kept-rewrites : (g : Geometry) (v w : Volume) (i : ℕ) (blocks : List ℕ) → AreOthers v w i → (node w i).blocks ≡ (node v i).blocks → (node w i).indirect ≡ (node v i).indirect → kind_of (body v i) ≡ kind_of (body w i)
    → (is_among (inode_block g i) blocks ≡ false → inode_of (node v i) ≡ inode_of (node w i))
    → ((k c : ℕ) → is_among c blocks ≡ false → slice_get (node v i).blocks k ≡ Some c → (page : List ℕ) → ShowsPart (body v i) k page ↔ ShowsPart (body w i) k page) → Rewrites g v w i blocks
kept-rewrites g v w i blocks o bs ind kind inode show = record {
  others = o;
  parts = λ k c out e. ap (λ (xs : List ℕ). slice_get xs k) bs ∙ e;
  parts_show = show;
  parts_were = λ k c out e. ap (λ (xs : List ℕ). slice_get xs k) (sym bs) ∙ e;
  pointers = λ c out e. ind ∙ e;
  pointers_show = λ c out e page. pointers-show _ _ page (sym bs);
  pointers_were = λ c out e. sym ind ∙ e;
  marks = λ zone k low l out. inr (ap (λ (xs : List ℕ). is_among (zone_block g zone k) xs || is_block (zone_block g zone k) (node v i).indirect) (sym bs) ∙ ap (λ (x : Option ℕ). is_among (zone_block g zone k) (node w i).blocks || is_block (zone_block g zone k) x) (sym ind));
  inode_marks = λ out. used-kind (body v i) (body w i) kind;
  table = inode;
  kind = λ k c out e. kind;
}

pub kept-uses : (g : Geometry) (v w : Volume) (i : ℕ) → AreUses g v → AreOthers v w i → (node w i).blocks ≡ (node v i).blocks → (node w i).indirect ≡ (node v i).indirect → HasLinks (body w i) (node w i).links → AreUses g w
kept-uses g v w i uses o bs ind l = uses-fewer g v w i uses o (λ k c e. ap (λ (xs : List ℕ). slice_get xs k) (sym bs) ∙ e) (λ c e. sym ind ∙ e) l

-- ---- a block more

get-push : (xs : List ℕ) (b k c : ℕ) → slice_get xs k ≡ Some c → slice_get (xs ++ b ∷ []) k ≡ Some c
get-push [] b k c e = absurd (none-some c e)
get-push (x ∷ xs) b zero c e = e
get-push (x ∷ xs) b (suc k) c e = get-push xs b k c e

-- a block is taken for the next part
pub more-rewrites : (g : Geometry) (v w : Volume) (i b : ℕ) (blocks : List ℕ) → AreOthers v w i → body w i ≡ body v i → (node w i).blocks ≡ (node v i).blocks ++ b ∷ [] → (node w i).indirect ≡ (node v i).indirect
    → is_among b blocks ≡ true → is_among (zone_bitmap (zone_in g b)) blocks ≡ true → (is_among (inode_block g i) blocks ≡ false → inode_of (node v i) ≡ inode_of (node w i))
    → ((p : ℕ) → (node v i).indirect ≡ Some p → is_among p blocks ≡ false → length (node v i).blocks < 12) → Rewrites g v w i blocks
more-rewrites g v w i b blocks o bd bs ind here zone inode far = record {
  others = o;
  parts = λ k c out e. ap (λ (xs : List ℕ). slice_get xs k) bs ∙ get-push (node v i).blocks b k c e;
  parts_show = λ k c out e page. body-shows _ _ k page (sym bd);
  parts_were = λ k c out e. elim (push-get (node v i).blocks b k c (ap (λ (xs : List ℕ). slice_get xs k) (sym bs) ∙ e)) [
    | inl old ↦ old
    | inr new ↦ absurd (among-apart blocks b c here out new.1)
  ];
  pointers = λ c out e. ind ∙ e;
  pointers_show = λ c out e page.
      let few = far c e out in
      let longer : length (node w i).blocks ≡ length (node v i).blocks + 1 = ap length bs ∙ length-append (node v i).blocks (b ∷ []) in
      let same : (k : ℕ) → get_or (node v i).blocks (12 + k) 0 ≡ get_or (node w i).blocks (12 + k) 0 = λ k. get_or_past (node v i).blocks (12 + k) 0 (omega arith) ∙ sym (get_or_past (node w i).blocks (12 + k) 0 (omega arith)) in
      (pointers-along _ _ page (λ k l. same k), pointers-along _ _ page (λ k l. sym (same k)));
  pointers_were = λ c out e. sym ind ∙ e;
  marks = λ zone_at k low l out.
      let c = zone_block g zone_at k in
      let other = other-zone g blocks b zone_at k zone l out in
      inr (ap (λ (t : Bool). t || is_block c (node v i).indirect) (sym (among-push (node v i).blocks b c other) ∙ ap (λ (xs : List ℕ). is_among c xs) (sym bs))
      ∙ ap (λ (x : Option ℕ). is_among c (node w i).blocks || is_block c x) (sym ind));
  inode_marks = λ out. ap is_used (sym bd);
  table = inode;
  kind = λ k c out e. ap kind_of (sym bd);
}

pub more-uses : (g : Geometry) (v w : Volume) (i b : ℕ) → AreUses g v → AreOthers v w i → (node w i).blocks ≡ (node v i).blocks ++ b ∷ [] → (node w i).indirect ≡ (node v i).indirect → meta_of g ≤ b → b < homes_of g → is_taken v b ≡ false → HasLinks (body w i) (node w i).links → AreUses g w
more-uses g v w i b uses o bs ind high home free l =
    uses-new g v w i (Part i (length (node v i).blocks)) b uses o high home free
    (λ k c e. elim (push-get (node v i).blocks b k c (ap (λ (xs : List ℕ). slice_get xs k) (sym bs) ∙ e)) [
      | inl old ↦ inl old
      | inr new ↦ inr (ap (λ (x : ℕ). Part i x) new.0, new.1)
    ])
    (λ c e. inl (sym ind ∙ e)) l

-- past the twelfth the inode names the same blocks
pub padded-push : (xs : List ℕ) (b : ℕ) → 12 ≤ length xs → padded 12 (xs ++ b ∷ []) ≡ padded 12 xs
padded-push xs b many =
    let m = length-padded 12 (xs ++ b ∷ []) in
    let n = length-padded 12 xs in
    same_lists _ _ (m ∙ sym n) (λ k d l.
    let low : k < 12 = omega arith in
    get_or_default _ k d 0 l ∙ padded-at 12 (xs ++ b ∷ []) k low ∙ get_or_append_left xs (b ∷ []) 0 k (omega arith) ∙ sym (padded-at 12 xs k low) ∙ get_or_default (padded 12 xs) k 0 d (omega arith))

-- ---- a block of pointers

pub pointed-rewrites : (g : Geometry) (v w : Volume) (i b : ℕ) (blocks : List ℕ) → AreOthers v w i → body w i ≡ body v i → (node w i).blocks ≡ (node v i).blocks → (node v i).indirect ≡ None → (node w i).indirect ≡ Some b
    → is_among b blocks ≡ true → is_among (zone_bitmap (zone_in g b)) blocks ≡ true → is_among (inode_block g i) blocks ≡ true → Rewrites g v w i blocks
pointed-rewrites g v w i b blocks o bd bs was ind here zone inode = record {
  others = o;
  parts = λ k c out e. ap (λ (xs : List ℕ). slice_get xs k) bs ∙ e;
  parts_show = λ k c out e page. body-shows _ _ k page (sym bd);
  parts_were = λ k c out e. ap (λ (xs : List ℕ). slice_get xs k) (sym bs) ∙ e;
  pointers = λ c out e. absurd (none-some c (sym was ∙ e));
  pointers_show = λ c out e. absurd (none-some c (sym was ∙ e));
  pointers_were = λ c out e. absurd (among-apart blocks b c here out (sym (same_Some b c (sym ind ∙ e))));
  marks = λ zone_at k low l out.
      let c = zone_block g zone_at k in
      let other = other-zone g blocks b zone_at k zone l out in
      inr (ap (λ (x : Option ℕ). is_among c (node v i).blocks || is_block c x) was ∙ ap (λ (t : Bool). is_among c (node v i).blocks || t) (sym (ne_eqb b c (λ e. other (sym e))))
      ∙ ap (λ (xs : List ℕ). is_among c xs || nat_eq b c) (sym bs) ∙ ap (λ (x : Option ℕ). is_among c (node w i).blocks || is_block c x) (sym ind));
  inode_marks = λ out. ap is_used (sym bd);
  table = λ out. absurd (true≢false (sym inode ∙ out));
  kind = λ k c out e. ap kind_of (sym bd);
}

pub pointed-uses : (g : Geometry) (v w : Volume) (i b : ℕ) → AreUses g v → AreOthers v w i → (node w i).blocks ≡ (node v i).blocks → (node w i).indirect ≡ Some b → meta_of g ≤ b → b < homes_of g → is_taken v b ≡ false → HasLinks (body w i) (node w i).links → AreUses g w
pointed-uses g v w i b uses o bs ind high home free l =
    uses-new g v w i (Pointers i) b uses o high home free (λ k c e. inl (ap (λ (xs : List ℕ). slice_get xs k) (sym bs) ∙ e)) (λ c e. inr (refl, sym (same_Some b c (sym ind ∙ e)))) l

-- ---- fewer blocks

-- The inode has some of its blocks no more; these are listed, with the bitmaps of their zones, and so is
-- its block of pointers.
pub fewer-rewrites : (g : Geometry) (v w : Volume) (i : ℕ) (blocks : List ℕ) → AreOthers v w i
    → ((k c : ℕ) → slice_get (node w i).blocks k ≡ Some c → slice_get (node v i).blocks k ≡ Some c) → ((c : ℕ) → (node w i).indirect ≡ Some c → (node v i).indirect ≡ Some c)
    → ((k c : ℕ) → slice_get (node v i).blocks k ≡ Some c → is_among c blocks ≡ false → slice_get (node w i).blocks k ≡ Some c) → ((c : ℕ) → (node v i).indirect ≡ Some c → is_among c blocks ≡ true)
    → ((c : ℕ) → has_block (node v i) c ≡ true → has_block (node w i) c ≡ false → is_among (zone_bitmap (zone_in g c)) blocks ≡ true)
    → ((k c : ℕ) → is_among c blocks ≡ false → slice_get (node v i).blocks k ≡ Some c → (page : List ℕ) → ShowsPart (body v i) k page ↔ ShowsPart (body w i) k page)
    → (is_among (inode_bitmap g) blocks ≡ false → is_used (body v i) ≡ is_used (body w i)) → is_among (inode_block g i) blocks ≡ true
    → ((k c : ℕ) → is_among c blocks ≡ false → slice_get (node v i).blocks k ≡ Some c → kind_of (body v i) ≡ kind_of (body w i)) → Rewrites g v w i blocks
fewer-rewrites g v w i blocks o parts pointers left listed zones show used inode kind = record {
  others = o;
  parts = λ k c out e. left k c e out;
  parts_show = show;
  parts_were = λ k c out e. parts k c e;
  pointers = λ c out e. absurd (true≢false (sym (listed c e) ∙ out));
  pointers_show = λ c out e. absurd (true≢false (sym (listed c e) ∙ out));
  pointers_were = λ c out e. pointers c e;
  marks = λ zone k low l out. inr (same-bool _ _ (λ y. there zone k l out y (cases_Bool (has_block (node w i) (zone_block g zone k)))) (within (zone_block g zone k)));
  inode_marks = used;
  table = λ out. absurd (true≢false (sym inode ∙ out));
  kind = kind;
}
  where
    within : (c : ℕ) → has_block (node w i) c ≡ true → has_block (node v i) c ≡ true
    within c h =
        let u = has-use w i c h in
        elim (use-cases u.0 i u.1) [
          | inl p ↦ use-has (node v i) c (inl (p.0, parts p.0 c (subst (λ x. block_in w x ≡ Some c) p.1 u.2)))
          | inr p ↦ use-has (node v i) c (inr (pointers c (subst (λ x. block_in w x ≡ Some c) p u.2)))
        ]

    there : (zone k : ℕ) → k < zone_size g → is_among (zone_bitmap zone) blocks ≡ false → has_block (node v i) (zone_block g zone k) ≡ true → (has_block (node w i) (zone_block g zone k) ≡ true) ⊎ (has_block (node w i) (zone_block g zone k) ≡ false)
        → has_block (node w i) (zone_block g zone k) ≡ true
    there zone k l out y (inl t) = t
    there zone k l out y (inr gone) = absurd (other-zone g blocks (zone_block g zone k) zone k (zones (zone_block g zone k) y gone) l out refl)

-- ---- an inode without blocks

pub bare-rewrites : (g : Geometry) (v w : Volume) (i : ℕ) (blocks : List ℕ) → AreOthers v w i → (node v i).blocks ≡ [] → (node w i).blocks ≡ [] → (node v i).indirect ≡ None → (node w i).indirect ≡ None
    → (is_among (inode_bitmap g) blocks ≡ false → is_used (body v i) ≡ is_used (body w i)) → (is_among (inode_block g i) blocks ≡ false → inode_of (node v i) ≡ inode_of (node w i)) → Rewrites g v w i blocks
bare-rewrites g v w i blocks o was bs none ind used inode = record {
  others = o;
  parts = λ k c out e. absurd (none-some c (ap (λ (xs : List ℕ). slice_get xs k) (sym was) ∙ e));
  parts_show = λ k c out e. absurd (none-some c (ap (λ (xs : List ℕ). slice_get xs k) (sym was) ∙ e));
  parts_were = λ k c out e. absurd (none-some c (ap (λ (xs : List ℕ). slice_get xs k) (sym bs) ∙ e));
  pointers = λ c out e. absurd (none-some c (sym none ∙ e));
  pointers_show = λ c out e. absurd (none-some c (sym none ∙ e));
  pointers_were = λ c out e. absurd (none-some c (sym ind ∙ e));
  marks = λ zone k low l out.
      let c = zone_block g zone k in
      inr (ap (λ (xs : List ℕ). is_among c xs || is_block c (node v i).indirect) (was ∙ sym bs) ∙ ap (λ (x : Option ℕ). is_among c (node w i).blocks || is_block c x) (none ∙ sym ind));
  inode_marks = used;
  table = inode;
  kind = λ k c out e. absurd (none-some c (ap (λ (xs : List ℕ). slice_get xs k) (sym was) ∙ e));
}
