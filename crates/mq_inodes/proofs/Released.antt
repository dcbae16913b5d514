-- Blocks that are freed, one after another.
use Rattle.std.proofs.Common.{get_or, ◌≡◌, ◌≢◌, ℕ, suc, zero, ◌+◌, ◌-◌, ◌*◌, ◌%◌, ◌<◌, ◌≤◌, inl, inr, List, [], ◌∷◌, ◌++◌, length, take, drop, Bool, true, false, refl, sym, ap, subst, ◌∙◌, arith}
use Rattle.std.specs.Prelude.{Some, None, nat_lt, if◌then◌else◌}
use Rattle.std.specs.Int.{to_le_bytes, w32}
use Rattle.std.specs.List.{All}
use Rattle.std.proofs.lemmas.Bool.{cases_Bool, cases_eq, cases_lt, false_from_ne_true, le-ltb, lt-ltb, true≢false}
use Rattle.std.proofs.lemmas.List.{get_or_default, length-drop, take_all}
use Rattle.std.proofs.lemmas.Nat.{mod-mul-add}
use Rattle.std.proofs.lemmas.Option.{none-some, same_Some}
use Rattle.mq_blocks.proofs.JournalAmong.{among-apart, among-either, among-here, among-left, among-one, among-parts, among-right}
use Rattle.mq_blocks.specs.Geometry.{homes_of, meta_of, queues_of, zone_size}
use Rattle.mq_blocks.specs.Journal.{is_among}
use Rattle.mq_blocks.specs.Windows.{written}
use Rattle.mq_blocks.specs.declared.geometry.Geometry.{Geometry}
use Rattle.mq_blocks.proofs.WindowsWritten.{length-written}
use Rattle.mq_inodes.specs.Changes.{IsBlockMarked, IsPut, bit_in, zone_in}
use Rattle.mq_inodes.specs.Edits.{IsKindPut, IsLifted, IsOver, IsSameView, KeepsKinds}
use Rattle.mq_inodes.specs.Opened.{IsReleasable}
use Rattle.mq_inodes.specs.Pages.{IsHeld, Pages, content, kinds_of, pages_of}
use Rattle.mq_inodes.specs.Released.{ClearsBits, CutsPointers, IsReleased, Releases, gone_from}
use Rattle.mq_inodes.specs.declared.opened.Opened.{Opened}
use Rattle.mq_inodes.specs.declared.working.Working.{Working}
use Rattle.mq_inodes.proofs.EditsBecoming.{over-self, over-then, view-then}
use Rattle.mq_inodes.proofs.PagesHeld.{held-is}
use Rattle.mq_inodes.proofs.Changes.{zone-of-block}
use Rattle.mq_layout.specs.Bits.{bit_of, pointer_of}
use Rattle.mq_layout.specs.Places.{zone_bitmap}
use Rattle.mq_layout.proofs.SlotsLaws.{pointer-kept, pointer-written}
use Rattle.mq_pages.specs.declared.page.Kind.TheVariants.{Meta}
use Rattle.mq_tree.specs.Laid.{IsPage, zone_block}
use Rattle.mq_tree.proofs.LaidMaps.{zone-low, zone-place, zone-rest}

-- ---- lists

among-first : (xs ys : List ℕ) (b : ℕ) → is_among b (xs ++ ys) ≡ true → is_among b ys ≡ false → is_among b xs ≡ true
among-first xs ys b e out = elim (among-either xs ys b e) [
  | inl l ↦ l
  | inr r ↦ absurd (true≢false (sym r ∙ out))
]

-- ---- pages

-- a block of the zones is no bitmap
pub high-marks : (g : Geometry) (b zone : ℕ) → meta_of g ≤ b → zone < queues_of g → zone_bitmap zone ≢ b
high-marks g b zone high low e = let m = g.meta_low in omega arith

bit-place : (g : Geometry) (zone k b : ℕ) → k < zone_size g → zone_block g zone k ≡ b → bit_in g b ≡ k
bit-place g zone k b l e =
    let f : b - meta_of g ≡ zone * zone_size g + k = omega arith in
    ap (λ (x : ℕ). x % zone_size g) f ∙ mod-mul-add zone (zone_size g) k l

one-clears : (g : Geometry) (old mid new : Pages) (b zone : ℕ) (before : List ℕ) → meta_of g ≤ b → b < homes_of g → IsBlockMarked g old mid b false → IsPut mid new b None → zone < queues_of g → old (zone_bitmap zone) ≡ Some (Some before)
    → ClearsBits g new zone before (λ x. is_among x (b ∷ []))
one-clears g old mid new b zone before high home m put low was = elim (cases_eq zone (zone_in g b)) [
  | inl same ↦
      let is : before ≡ m.before = same_Some before m.before (same_Some (Some before) (Some m.before) (sym was ∙ ap (λ (z : ℕ). old (zone_bitmap z)) same ∙ m.was)) in
      record {
        after = m.after;
        now = put.others (zone_bitmap zone) (high-marks g b zone high low) ∙ ap (λ (z : ℕ). mid (zone_bitmap z)) same ∙ m.put.here;
        form = λ f. m.form;
        clear = λ k l e. ap (bit_of m.after) (sym (bit-place g zone k b l (among-one b _ e))) ∙ m.bit;
        rest = λ k out. m.rest k (λ e.
            let at : zone_block g zone k ≡ b = ap (λ (z : ℕ). zone_block g z k) same ∙ ap (λ (j : ℕ). zone_block g (zone_in g b) j) e ∙ zone-place g b high in
            let l : k < zone_size g = let r = zone-rest g b in omega arith in
            among-apart (b ∷ []) b (zone_block g zone k) (among-here b []) (out l) at) ∙ ap (λ (page : List ℕ). bit_of page k) (sym is);
      }
  | inr other ↦ record {
    after = before;
    now = put.others (zone_bitmap zone) (high-marks g b zone high low) ∙ m.put.others (zone_bitmap zone) (λ e. other (omega arith)) ∙ was;
    form = λ f. f;
    clear = λ k l e. absurd (other (sym (zone-of-block g zone k l) ∙ ap (zone_in g) (among-one b _ e)));
    rest = λ k out. refl;
  }
]

released-one : (g : Geometry) (old mid new : Pages) (b : ℕ) → meta_of g ≤ b → b < homes_of g → IsBlockMarked g old mid b false → IsPut mid new b None → IsReleased g old new (b ∷ [])
released-one g old mid new b high home m put = record {
  inside = λ x e. subst (λ y. (meta_of g ≤ y) × (y < homes_of g)) (sym (among-one b x e)) (high, home);
  free = λ x e. ap new (among-one b x e) ∙ put.here;
  marks = λ zone before low was. one-clears g old mid new b zone before high home m put low was;
  rest = λ x out away. put.others x (among-apart (b ∷ []) b x (among-here b []) out) ∙ m.put.others x (away b (among-here b []));
}

released-then : (g : Geometry) (old mid new : Pages) (xs ys : List ℕ) → IsReleased g old mid xs → IsReleased g mid new ys → IsReleased g old new (xs ++ ys)
released-then g old mid new xs ys s t = record {
  inside = λ b e. elim (among-either xs ys b e) [
    | inl l ↦ s.inside b l
    | inr r ↦ t.inside b r
  ];
  free = λ b e. elim (cases_Bool (is_among b ys)) [
    | inl y ↦ t.free b y
    | inr n ↦
        let l = among-first xs ys b e n in
        t.rest b n (λ c y same. let i = t.inside c y in high-marks g b (zone_in g c) (s.inside b l).0 (zone-low g c i.0 i.1) (sym same)) ∙ s.free b l
  ];
  marks = λ zone before low was.
      let a = s.marks zone before low was in
      let c = t.marks zone a.after low a.now in
      record {
        after = c.after;
        now = c.now;
        form = λ f. c.form (a.form f);
        clear = λ k l e. elim (cases_Bool (is_among (zone_block g zone k) ys)) [
          | inl y ↦ c.clear k l y
          | inr n ↦ c.rest k (λ _. n) ∙ a.clear k l (among-first xs ys _ e n)
        ];
        rest = λ k out. c.rest k (λ l. (among-parts xs ys _ (out l)).1) ∙ a.rest k (λ l. (among-parts xs ys _ (out l)).0);
      };
  rest = λ b out away.
      let p = among-parts xs ys b out in
      t.rest b p.1 (λ c y. away c (among-right xs ys c y)) ∙ s.rest b p.0 (λ c y. away c (among-left xs ys c y));
}

-- ---- pages of the metadata region

pub released-low : (g : Geometry) (old new : Pages) (blocks : List ℕ) (b : ℕ) → IsReleased g old new blocks → b < meta_of g → is_among b blocks ≡ false
released-low g old new blocks b r low = false_from_ne_true _ (λ y. let i = (r.inside b y).0 in absurd (omega arith))

-- one that is no bitmap of a zone is as it was
pub released-meta : (g : Geometry) (old new : Pages) (blocks : List ℕ) (b : ℕ) → IsReleased g old new blocks → b < meta_of g → ((zone : ℕ) → zone < queues_of g → b ≢ zone_bitmap zone) → new b ≡ old b
released-meta g old new blocks b r low away = r.rest b (released-low g old new blocks b r low) (λ c y. let i = r.inside c y in away (zone_in g c) (zone-low g c i.0 i.1))

pub held-along : (g : Geometry) (old new : Pages) (blocks : List ℕ) (b : ℕ) → IsReleased g old new blocks → b < meta_of g → IsHeld old b → IsHeld new b
held-along g old new blocks zero r low held = held-is new 0 (content (old 0)) (released-meta g old new blocks 0 r low (λ zone l e. absurd (omega arith)) ∙ held)
held-along g old new blocks (suc zone) r low held = elim (cases_lt zone (queues_of g)) [
  | inl inside ↦
      let at : zone_bitmap zone ≡ suc zone = omega arith in
      let c = r.marks zone (content (old (suc zone))) inside (ap old at ∙ held) in
      held-is new (suc zone) c.after (ap new (sym at) ∙ c.now)
  | inr past ↦ held-is new (suc zone) (content (old (suc zone))) (released-meta g old new blocks (suc zone) r low (λ z l e. absurd (omega arith)) ∙ held)
]

-- ---- working pages

put-over : (old new : Working) (b : ℕ) → IsSameView old new → IsPut (pages_of old) (pages_of new) b None → pages_of old b ≢ None → IsOver old new
put-over old new b view put was = record {
  view = view;
  absent = λ x e. elim (cases_eq x b) [
    | inl same ↦ absurd (was (ap (pages_of old) (sym same) ∙ e))
    | inr other ↦ put.others x other ∙ e
  ];
  known = λ x e. elim (cases_eq x b) [
    | inl same ↦ absurd (none-some None (sym e ∙ ap (pages_of new) same ∙ put.here))
    | inr other ↦ sym (put.others x other) ∙ e
  ];
}

pub releases-one : (old mid new : Working) (b : ℕ) → IsReleasable old.geometry (pages_of old) b → IsOver old mid → KeepsKinds old mid → IsBlockMarked old.geometry (pages_of old) (pages_of mid) b false → IsSameView mid new → IsPut (pages_of mid) (pages_of new) b None → IsKindPut mid new b None
    → Releases old new (b ∷ [])
releases-one old mid new b may over keeps marked view put kind = record {
  over = over-then old mid new over (put-over mid new b view put (λ e. may.known (over.known b e)));
  pages = released-one old.geometry (pages_of old) (pages_of mid) (pages_of new) b may.marks.high may.marks.home marked put;
  none = λ x e. ap (kinds_of new) (among-one b x e) ∙ kind.here;
  kinds = λ x high out. kind.others x (among-apart (b ∷ []) b x (among-here b []) out) ∙ keeps x high;
}

releases-then : (old mid new : Working) (xs ys : List ℕ) → Releases old mid xs → Releases mid new ys → Releases old new (xs ++ ys)
releases-then old mid new xs ys s t =
    let g = s.over.view.geometry in
    record {
      over = over-then old mid new s.over t.over;
      pages = released-then old.geometry (pages_of old) (pages_of mid) (pages_of new) xs ys s.pages (subst (λ x. IsReleased x (pages_of mid) (pages_of new) ys) g t.pages);
      none = λ b e. elim (cases_Bool (is_among b ys)) [
        | inl y ↦ t.none b y
        | inr n ↦
            let l = among-first xs ys b e n in
            t.kinds b (subst (λ x. meta_of x ≤ b) (sym g) (s.pages.inside b l).0) n ∙ s.none b l
      ];
      kinds = λ b high out. let p = among-parts xs ys b out in t.kinds b (subst (λ x. meta_of x ≤ b) (sym g) high) p.1 ∙ s.kinds b high p.0;
    }

-- what may be freed before may be freed behind
pub releasable-along : (old mid : Working) (xs : List ℕ) (b : ℕ) → Releases old mid xs → IsReleasable old.geometry (pages_of old) b → IsReleasable mid.geometry (pages_of mid) b
releasable-along old mid xs b r l =
    let m = l.marks in
    let z = zone-low old.geometry b m.high m.home in
    let low = old.geometry.meta_low in
    subst (λ g. IsReleasable g (pages_of mid) b) (sym r.over.view.geometry) (record {
      marks = record { high = m.high; home = m.home; marks = held-along old.geometry (pages_of old) (pages_of mid) xs (zone_bitmap (zone_in old.geometry b)) r.pages (omega arith) m.marks };
      known = λ e. l.known (r.over.known b e);
    })

-- ---- a list

take-more : (xs : List ℕ) (k : ℕ) → k < length xs → take (k + 1) xs ≡ take k xs ++ get_or xs k 0 ∷ []
take-more [] k l = absurd (omega arith)
take-more (x ∷ xs) zero l = refl
take-more (x ∷ xs) (suc k) l =
    let e : suc k + 1 ≡ suc (k + 1) = omega arith in
    ap (λ (n : ℕ). take n (x ∷ xs)) e ∙ ap (λ (ys : List ℕ). x ∷ ys) (take-more xs k (omega arith))

pub at-item : (g : Geometry) (pages : Pages) (xs : List ℕ) (k b : ℕ) → k < length xs → b ≡ get_or xs k b → All (IsReleasable g pages) xs → IsReleasable g pages b
at-item g pages xs k b l e all = subst (λ x. IsReleasable g pages x) (sym e) (all k b l)

pub releases-more : (old mid new : Working) (xs : List ℕ) (k b : ℕ) → k < length xs → b ≡ get_or xs k b → Releases old mid (take k xs) → Releases mid new (b ∷ []) → Releases old new (take (k + 1) xs)
releases-more old mid new xs k b l e s t =
    subst (λ ys. Releases old new ys) (sym (take-more xs k l)) (releases-then old mid new (take k xs) (get_or xs k 0 ∷ []) s (subst (λ x. Releases mid new (x ∷ [])) (e ∙ get_or_default xs k b 0 l) t))

-- ---- the blocks of an inode

-- a slice up to the end
pub rest-all : (xs ys : List ℕ) (count : ℕ) → ys ≡ xs → take (length ys - count) (drop count ys) ≡ drop count xs
rest-all xs ys count e = take_all (length ys - count) (drop count ys) (let n = length-drop count ys in omega arith) ∙ ap (λ (zs : List ℕ). drop count zs) e

-- and that of its pointers
pub releases-both : (old mid new : Working) (o : Opened) (count : ℕ) → count ≤ 12 → 12 < length o.blocks.items → Releases old mid (drop count o.blocks.items) → Releases mid new (o.inode.indirect ∷ []) → Releases old new (gone_from o count)
releases-both old mid new o count few many s t =
    let e : gone_from o count ≡ drop count o.blocks.items ++ o.inode.indirect ∷ [] =
    ap (λ (t : Bool). drop count o.blocks.items ++ (if t then [] else (if nat_lt 12 (length o.blocks.items) then o.inode.indirect ∷ [] else []))) (le-ltb 12 count few)
    ∙ ap (λ (t : Bool). drop count o.blocks.items ++ (if t then o.inode.indirect ∷ [] else [])) (lt-ltb 12 (length o.blocks.items) many) in
    subst (λ xs. Releases old new xs) (sym e) (releases-then old mid new (drop count o.blocks.items) (o.inode.indirect ∷ []) s t)

-- ---- pointers

-- pointers up to this one that are clear, and those before as they were
pub record AreClear (before page : List ℕ) (from to : ℕ) : Type 0 where
  pub whole : length page ≡ 4096
  pub left : (k : ℕ) → k < 1024 → k < from → pointer_of page k ≡ pointer_of before k
  pub cut : (k : ℕ) → k < 1024 → from ≤ k → k < to → pointer_of page k ≡ 0

pub pointer-cleared : (before page now : List ℕ) (from at : ℕ) → from ≤ at → at < 1024 → now ≡ written page (4 * at) (to_le_bytes w32 0) → AreClear before page from at → AreClear before now from (at + 1)
pointer-cleared before page now from at past low e h = record {
  whole = let w = h.whole in ap length e ∙ length-written page (4 * at) (to_le_bytes w32 0) (omega arith) ∙ w;
  left = λ k l before_it. ap (λ (p : List ℕ). pointer_of p k) e ∙ pointer-kept page at k 0 h.whole low (λ same. omega arith) ∙ h.left k l before_it;
  cut = λ k l past_it up. ap (λ (p : List ℕ). pointer_of p k) e ∙ elim (cases_eq at k) [
    | inl same ↦ ap (pointer_of (written page (4 * at) (to_le_bytes w32 0))) (sym same) ∙ pointer-written page at 0 h.whole low (omega arith)
    | inr other ↦ pointer-kept page at k 0 h.whole low other ∙ h.cut k l past_it (omega arith)
  ];
}

pub pointers-stay : (w : Working) (p have count : ℕ) → (12 < count → count < have → ⊥) → CutsPointers w w p have count
pointers-stay w p have count none = record {
  over = over-self w;
  cut = λ many few. absurd (none many few);
  kind = λ many few. absurd (none many few);
  others = λ x other. refl;
  kinds = λ x other. refl;
}

pub pointers-cut : (old mid new : Working) (p have count from : ℕ) (before after : List ℕ) → 12 < count → count < have → from ≡ count - 12 → pages_of old p ≡ Some (Some before) → IsLifted old mid p → IsPage after
    → ((k : ℕ) → k < 1024 → k < from → pointer_of after k ≡ pointer_of before k) → ((k : ℕ) → k < 1024 → from ≤ k → pointer_of after k ≡ 0)
    → IsSameView mid new → IsPut (pages_of mid) (pages_of new) p (Some after) → IsKindPut mid new p (Some Meta) → CutsPointers old new p have count
pointers-cut old mid new p have count from before after many more is was lifted form left cut view put kind = record {
  over = record {
    view = view-then old mid new lifted.view view;
    absent = λ x e. elim (cases_eq x p) [
      | inl same ↦ absurd (none-some (Some before) (sym e ∙ ap (pages_of old) same ∙ was))
      | inr other ↦ rest x other ∙ e
    ];
    known = λ x e. elim (cases_eq x p) [
      | inl same ↦ absurd (none-some (Some after) (sym e ∙ ap (pages_of new) same ∙ put.here))
      | inr other ↦ sym (rest x other) ∙ e
    ];
  };
  cut = λ _ _. record {
    before = before;
    after = after;
    turns = record { was = was; now = put.here; form = form };
    left = λ k l there. left k l (omega arith);
    cut = λ k l past. cut k l (omega arith);
  };
  kind = λ _ _. kind.here;
  others = λ x other. rest x (other many more);
  kinds = λ x other. kind.others x (other many more) ∙ lifted.kinds x (other many more);
}
  where
    rest : (x : ℕ) → x ≢ p → pages_of new x ≡ pages_of old x
    rest x other = put.others x other ∙ lifted.pages x other
