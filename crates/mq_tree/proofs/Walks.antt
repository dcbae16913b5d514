-- Steps of a walk over the directories of a volume.
use Rattle.std.proofs.Common.{get_or, set, ◌≡◌, ◌≢◌, ℕ, zero, suc, ◌+◌, ◌*◌, ◌<◌, ◌≤◌, ◌⊎◌, inl, inr, List, [], ◌∷◌, ◌++◌, length, replicate, Bool, true, false, not, refl, sym, ap, subst, ◌∙◌, arith, get_or-set_same, get_or-set_other, length-set}
use Rattle.std.specs.Prelude.{Option, Some, None, option_and_then}
use Rattle.std.proofs.lemmas.Bool.{cases_eq, cases_lt, eq-eqb, ne_eqb, true≢false}
use Rattle.std.proofs.lemmas.List.{get_or_append_left, get_or_push, length_push, length-replicate}
use Rattle.std.proofs.lemmas.List.Sums.{sum_by-set, count_by-le-length}
use Rattle.std.proofs.lemmas.List.Folds.{sum_by-replicate}
use Rattle.mq_blocks.specs.declared.geometry.Geometry.{Geometry}
use Rattle.mq_layout.specs.Places.{inode_block, inodes_of}
use Rattle.mq_layout.specs.Slots.{Entry}
use Rattle.mq_layout.specs.declared.inode.Inode.{Inode}
use Rattle.mq_tree.specs.Clean.{AreNamed, AreNamedOnce, AreOnce, AreReached, IsTable}
use Rattle.mq_tree.specs.Corrupt.{IsCorrupt, lost_inode}
use Rattle.mq_tree.specs.Decoded.{Stored, body_of, count_of, entry_of, inodes_in, the_inode, volume_in}
use Rattle.mq_tree.specs.Volume.{ADir, AFile, Body, Free, File, Dir, Node, Volume, Way, body, find, inode_at, is_used, slot, slots_of, thing}
use Rattle.mq_tree.specs.Walks.{Finds, IsLooked, IsOrder, IsWalk, IsWholeWalk, Starts, Walked, is_seen, weight}
use Rattle.mq_tree.specs.declared.corrupt.CorruptCause.TheVariants.{Unreached}
use Rattle.mq_tree.proofs.Directories.{find-none, find-some}
use Rattle.mq_tree.proofs.Decoded.{body-dir, body-file, body-free, body-in, node-past, table-at}
use Rattle.mq_tree.proofs.DecodedMounting.{length-inodes}
use Rattle.mq_tree.proofs.DecodedNaming.{slot-found}
use Rattle.mq_tree.proofs.Parts.{used-kind}

-- ---- slots and names

-- a slot whose name stands in no other is found by it
pub slot-name : (v : Volume) (d k : ℕ) (e : Entry) → AreOnce v → slot v d k ≡ Some e → find e.name (slots_of (body v d)) ≡ Some e.inode
slot-name v d k e once there = by (find e.name (slots_of (body v d))) refl
  where
    by : (o : Option ℕ) → find e.name (slots_of (body v d)) ≡ o → o ≡ Some e.inode
    by None h = absurd (find-none (slots_of (body v d)) e.name k e h there refl)
    by (Some i) h =
        let x = find-some (slots_of (body v d)) e.name i h in
        let here : x.k ≡ k = once d x.k k x.e e x.there there x.same in
        let same : x.e ≡ e = (let f = sym x.there ∙ ap (λ (j : ℕ). slot v d j) here ∙ there in cc) in
        ap (λ (j : ℕ). Some j) (sym x.leads ∙ ap (λ (y : Entry). y.inode) same)

-- an inode with a used slot is used
pub slot-used : (v : Volume) (d k : ℕ) (e : Entry) → slot v d k ≡ Some e → is_used (body v d) ≡ true
slot-used v d k e there = by (body v d) there
  where
    by : (b : Body) → get_or (slots_of b) k None ≡ Some e → is_used b ≡ true
    by Free h = absurd (cc)
    by (File bytes) h = refl
    by (Dir slots) h = refl

-- a way past the root goes through a directory
pub and-then : (o : Option ℕ) (f : ℕ → Option ℕ) (i : ℕ) → option_and_then f o ≡ Some i → (d : ℕ) × (o ≡ Some d) × (f d ≡ Some i)
and-then None f i h = absurd (cc)
and-then (Some d) f i h = (d, refl, h)

-- ---- what was looked at

looked-more : (order : List ℕ) (done part d k : ℕ) → IsLooked order done (part + 1) d k → IsLooked order done part d k ⊎ ((get_or order done 0 ≡ d) × (k ≡ part))
looked-more order done part d k (inl h) = inl (inl h)
looked-more order done part d k (inr h) = elim (cases_eq k part) [
  | inl e ↦ inr (h.0, e)
  | inr n ↦ inl (inr (h.0, let l = h.1 in omega arith))
]

-- an inode more at the end of the order changes nothing before
pushed : (order : List ℕ) (i done j : ℕ) → done < length order → j ≤ done → get_or (order ++ i ∷ []) j 0 ≡ get_or order j 0
pushed order i done j inside low = get_or_append_left order (i ∷ []) 0 j (omega arith)

looked-back : (order : List ℕ) (i done part d k : ℕ) → done < length order → IsLooked (order ++ i ∷ []) done part d k → IsLooked order done part d k
looked-back order i done part d k inside (inl h) = inl (h.0, h.1, sym (pushed order i done h.0 inside (let l = h.1 in omega arith)) ∙ h.2)
looked-back order i done part d k inside (inr h) = inr (sym (pushed order i done done inside (omega arith)) ∙ h.0, h.1)

-- ---- the walk

-- one slot has one entry
slot-same : (v : Volume) (d k c l : ℕ) (e f : Entry) → slot v d k ≡ Some e → (d ≡ c) × (l ≡ k) → slot v c l ≡ Some f → e.inode ≡ f.inode
slot-same v d k c l e f there q h =
    let g = sym there ∙ ap (λ (a : ℕ). slot v a k) q.0 ∙ ap (λ (b : ℕ). slot v c b) (sym q.1) ∙ h in
    let same : e ≡ f = cc in
    ap (λ (y : Entry). y.inode) same

walk-same : (v : Volume) (seen : List Bool) (looked next : ℕ → ℕ → Type 0) → IsWalk v seen looked → ((d k : ℕ) (e : Entry) → next d k → slot v d k ≡ Some e → looked d k) → IsWalk v seen next
walk-same v seen looked next w back = record {
  reached = w.reached;
  root = w.root;
  closed = λ d k e l there. w.closed d k e (back d k e l there) there;
}

walk-mark : (v : Volume) (seen : List Bool) (looked next : ℕ → ℕ → Type 0) (d k : ℕ) (e : Entry) → AreOnce v → IsWalk v seen looked → ((c l : ℕ) → next c l → looked c l ⊎ ((d ≡ c) × (l ≡ k)))
    → slot v d k ≡ Some e → is_seen seen d ≡ true → e.inode < length seen → IsWalk v (set seen e.inode true) next
walk-mark v seen looked next d k e names w back there way inside =
    let here : is_seen (set seen e.inode true) e.inode ≡ true = get_or-set_same seen e.inode true false inside in
    let keeps : (i : ℕ) → is_seen seen i ≡ true → is_seen (set seen e.inode true) i ≡ true = λ i t. elim (cases_eq i e.inode) [
      | inl q ↦ subst (λ x. is_seen (set seen e.inode true) x ≡ true) (sym q) here
      | inr n ↦ get_or-set_other seen e.inode i true false n ∙ t
    ] in
    let up = w.reached d way in
    let leads : inode_at v (e.name ∷ up.0) ≡ Some e.inode = ap (option_and_then (λ c. find e.name (slots_of (body v c)))) up.1 ∙ slot-name v d k e names there in
    record {
      reached = λ i t. elim (cases_eq i e.inode) [
        | inl q ↦ (e.name ∷ up.0, leads ∙ ap (λ (x : ℕ). Some x) (sym q))
        | inr n ↦ w.reached i (sym (get_or-set_other seen e.inode i true false n) ∙ t)
      ];
      root = keeps 0 w.root;
      closed = λ c l f x h. elim (back c l x) [
        | inl old ↦ keeps f.inode (w.closed c l f old h)
        | inr q ↦ subst (λ y. is_seen (set seen e.inode true) y ≡ true) (slot-same v d k c l e f there q h) here
      ];
    }

-- the slot names an inode that was seen
walk-again : (v : Volume) (seen : List Bool) (looked next : ℕ → ℕ → Type 0) (d k : ℕ) (e : Entry) → IsWalk v seen looked → ((c l : ℕ) → next c l → looked c l ⊎ ((d ≡ c) × (l ≡ k))) → slot v d k ≡ Some e → is_seen seen e.inode ≡ true → IsWalk v seen next
walk-again v seen looked next d k e w back there was = record {
  reached = w.reached;
  root = w.root;
  closed = λ c l f x h. elim (back c l x) [
    | inl old ↦ w.closed c l f old h
    | inr q ↦ subst (λ y. is_seen seen y ≡ true) (slot-same v d k c l e f there q h) was
  ];
}

-- ---- the order

order-mark : (count : ℕ) (seen : List Bool) (order : List ℕ) (i : ℕ) → IsOrder count seen order → is_seen seen i ≡ false → i < count → IsOrder count (set seen i true) (order ++ i ∷ [])
order-mark count seen order i o new low =
    let n = length_push order i in
    let s = o.size in
    let inside : i < length seen = omega arith in
    let here : is_seen (set seen i true) i ≡ true = get_or-set_same seen i true false inside in
    let keeps : (x : ℕ) → is_seen seen x ≡ true → is_seen (set seen i true) x ≡ true = λ x t. elim (cases_eq x i) [
      | inl q ↦ subst (λ y. is_seen (set seen i true) y ≡ true) (sym q) here
      | inr d ↦ get_or-set_other seen i x true false d ∙ t
    ] in
    let old : (j : ℕ) → j < length order → get_or (order ++ i ∷ []) j 0 ≡ get_or order j 0 = λ j l. get_or_append_left order (i ∷ []) 0 j l in
    let last : (j : ℕ) → j ≡ length order → get_or (order ++ i ∷ []) j 0 ≡ i = λ j q. get_or_push order i 0 j (sym q) in
    let more = sum_by-set weight seen i true false inside in
    let zero_now : weight (get_or seen i false) ≡ 0 = ap weight new in
    record {
      size = length-set seen i true ∙ o.size;
      counted = (let c = o.counted in omega arith);
      below = λ j l. elim (cases_lt j (length order)) [
        | inl a ↦ subst (λ x. x < count) (sym (old j a)) (o.below j a)
        | inr b ↦ subst (λ x. x < count) (sym (last j (omega arith))) low
      ];
      marked = λ j l. elim (cases_lt j (length order)) [
        | inl a ↦ subst (λ x. is_seen (set seen i true) x ≡ true) (sym (old j a)) (keeps (get_or order j 0) (o.marked j a))
        | inr b ↦ subst (λ x. is_seen (set seen i true) x ≡ true) (sym (last j (omega arith))) here
      ];
      listed = λ x t. elim (cases_eq x i) [
        | inl q ↦ (length order, omega arith, last (length order) refl ∙ sym q)
        | inr d ↦ let u = o.listed x (sym (get_or-set_other seen i x true false d) ∙ t) in (u.0, (let l = u.1 in omega arith), old u.0 u.1 ∙ u.2)
      ];
    }

pub all-false : (n i : ℕ) → get_or (replicate n false) i false ≡ false
all-false zero i = refl
all-false (suc n) zero = refl
all-false (suc n) (suc i) = all-false n i

first-zero : (j : ℕ) → j < 1 → get_or {A = ℕ} (0 ∷ []) j 0 ≡ 0
first-zero zero l = refl
first-zero (suc j) l = refl

only-root : (count i : ℕ) → is_seen (set (replicate count false) 0 true) i ≡ true → i ≡ 0
only-root count i t = elim (cases_eq i 0) [
  | inl e ↦ e
  | inr n ↦ absurd (true≢false (sym t ∙ get_or-set_other (replicate count false) 0 i true false n ∙ all-false count i))
]

order-start : (count : ℕ) → 0 < count → IsOrder count (set (replicate count false) 0 true) (0 ∷ [])
order-start count some =
    let n = length-replicate count false in
    let inside : 0 < length (replicate count false) = omega arith in
    let here : is_seen (set (replicate count false) 0 true) 0 ≡ true = get_or-set_same (replicate count false) 0 true false inside in
    let more = sum_by-set weight (replicate count false) 0 true false inside in
    let none = sum_by-replicate weight count false in
    let was : weight (get_or (replicate count false) 0 false) ≡ 0 = ap weight (all-false count 0) in
    record {
      size = length-set (replicate count false) 0 true ∙ n;
      counted = omega arith;
      below = λ j l. subst (λ x. x < count) (sym (first-zero j l)) some;
      marked = λ j l. subst (λ x. is_seen (set (replicate count false) 0 true) x ≡ true) (sym (first-zero j l)) here;
      listed = λ i t. (0, omega arith, sym (only-root count i t));
    }

start-at : (v : Volume) (count : ℕ) → 0 < count → Walked v count (set (replicate count false) 0 true) (0 ∷ []) 0 0
start-at v count some =
    let o = order-start count some in
    record {
      listing = o;
      walk = record {
        reached = λ i t. ([], ap (λ (x : ℕ). Some x) (sym (only-root count i t)));
        root = o.marked 0 (omega arith);
        closed = λ d k e l. absurd (never d k l);
      };
    }
  where
    never : (d k : ℕ) → IsLooked (0 ∷ []) 0 0 d k → ⊥
    never d k (inl h) = absurd (let l = h.1 in omega arith)
    never d k (inr h) = absurd (let l = h.1 in omega arith)

-- ---- the steps of the loops

pub walked-start : (v : Volume) (count : ℕ) (seen : List Bool) (order : List ℕ) → 0 < count → Starts count seen order → Walked v count seen order 0 0
walked-start v count seen order some h = subst (λ xs. Walked v count xs order 0 0) (sym h.marks) (subst (λ ys. Walked v count (set (replicate count false) 0 true) ys 0 0) (sym h.first) (start-at v count some))

-- the slot is not used
pub walked-skip : (v : Volume) (count : ℕ) (seen : List Bool) (order : List ℕ) (done part d : ℕ) → Walked v count seen order done part → d ≡ get_or order done 0 → slot v d part ≡ None → Walked v count seen order done (part + 1)
walked-skip v count seen order done part d w is none = record {
  listing = w.listing;
  walk = walk-same v seen (IsLooked order done part) (IsLooked order done (part + 1)) w.walk (λ c k e l there. elim (looked-more order done part c k l) [
    | inl old ↦ old
    | inr q ↦ absurd (let h = sym none ∙ ap (λ (a : ℕ). slot v a part) (is ∙ q.0) ∙ ap (λ (b : ℕ). slot v c b) (sym q.1) ∙ there in cc)
  ]);
}

-- the slot names an inode that was not seen
pub walked-mark : (v : Volume) (count : ℕ) (seen : List Bool) (order : List ℕ) (done part d : ℕ) (e : Entry) → AreOnce v → Walked v count seen order done part → done < length order → d ≡ get_or order done 0 → slot v d part ≡ Some e → is_seen seen e.inode ≡ false → e.inode < count
    → Walked v count (set seen e.inode true) (order ++ e.inode ∷ []) done (part + 1)
walked-mark v count seen order done part d e names w inside is there new low =
    let back : (c l : ℕ) → IsLooked (order ++ e.inode ∷ []) done (part + 1) c l → IsLooked order done part c l ⊎ ((d ≡ c) × (l ≡ part)) = λ c l x. elim (looked-more order done part c l (looked-back order e.inode done (part + 1) c l inside x)) [
      | inl old ↦ inl old
      | inr q ↦ inr (is ∙ q.0, q.1)
    ] in
    let found : is_seen seen d ≡ true = subst (λ x. is_seen seen x ≡ true) (sym is) (w.listing.marked done inside) in
    record {
      listing = order-mark count seen order e.inode w.listing new low;
      walk = walk-mark v seen (IsLooked order done part) (IsLooked (order ++ e.inode ∷ []) done (part + 1)) d part e names w.walk back there found (let s = w.listing.size in omega arith);
    }

-- the slot names an inode that was seen
pub walked-again : (v : Volume) (count : ℕ) (seen : List Bool) (order : List ℕ) (done part d : ℕ) (e : Entry) → Walked v count seen order done part → d ≡ get_or order done 0 → slot v d part ≡ Some e → is_seen seen e.inode ≡ true
    → Walked v count seen order done (part + 1)
walked-again v count seen order done part d e w is there was = record {
  listing = w.listing;
  walk = walk-again v seen (IsLooked order done part) (IsLooked order done (part + 1)) d part e w.walk (λ c l x. elim (looked-more order done part c l x) [
    | inl old ↦ inl old
    | inr q ↦ inr (is ∙ q.0, q.1)
  ]) there was;
}

-- all its slots were looked at
pub walked-next : (v : Volume) (count : ℕ) (seen : List Bool) (order : List ℕ) (done part d : ℕ) → Walked v count seen order done part → d ≡ get_or order done 0 → ((k : ℕ) (e : Entry) → slot v d k ≡ Some e → k < part) → Walked v count seen order (done + 1) 0
walked-next v count seen order done part d w is all = record {
  listing = w.listing;
  walk = walk-same v seen (IsLooked order done part) (IsLooked order (done + 1) 0) w.walk back;
}
  where
    back : (c k : ℕ) (e : Entry) → IsLooked order (done + 1) 0 c k → slot v c k ≡ Some e → IsLooked order done part c k
    back c k e (inr h) there = absurd (let l = h.1 in omega arith)
    back c k e (inl h) there = elim (cases_eq h.0 done) [
      | inl q ↦ let at : get_or order done 0 ≡ c = ap (λ (j : ℕ). get_or order j 0) (sym q) ∙ h.2 in inr (at, all k e (ap (λ (a : ℕ). slot v a k) (is ∙ at) ∙ there))
      | inr n ↦ inl (h.0, (let l = h.1 in omega arith), h.2)
    ]

pub used-below : (g : Geometry) (s : Stored) (i : ℕ) → is_used (body (volume_in g s) i) ≡ true → i < inodes_of g
used-below g s i t = elim (cases_lt i (inodes_of g)) [
  | inl low ↦ low
  | inr past ↦ absurd (true≢false (sym t ∙ ap (λ (n : Node). is_used n.body) (node-past g s i past)))
]

pub walked-few : (v : Volume) (count : ℕ) (seen : List Bool) (order : List ℕ) (done part : ℕ) → Walked v count seen order done part → length order ≤ count
walked-few v count seen order done part w = let c = w.listing.counted in let s = w.listing.size in let l = count_by-le-length (λ (b : Bool). b) seen in omega arith

-- ---- the end

pub walked-whole : (v : Volume) (count : ℕ) (seen : List Bool) (order : List ℕ) (done : ℕ) → AreNamedOnce v → Walked v count seen order done 0 → length order ≤ done → IsWholeWalk v seen
walked-whole v count seen order done once w all = record {
  reached = w.walk.reached;
  all = whole v seen (IsLooked order done 0) w.walk looked;
  once = λ d k c l e f x y. once d k c l e f;
}
  where
    looked : (d k : ℕ) → is_seen seen d ≡ true → IsLooked order done 0 d k
    looked d k t = let u = w.listing.listed d t in inl (u.0, (let l = u.1 in omega arith), u.2)

    whole : (v : Volume) (seen : List Bool) (L : ℕ → ℕ → Type 0) → IsWalk v seen L → ((d k : ℕ) → is_seen seen d ≡ true → L d k) → (way : Way) (i : ℕ) → inode_at v way ≡ Some i → is_seen seen i ≡ true
    whole v seen L w looked [] i h = let e : 0 ≡ i = cc in subst (λ x. is_seen seen x ≡ true) e w.root
    whole v seen L w looked (name ∷ way) i h =
        let a = and-then (inode_at v way) (λ d. find name (slots_of (body v d))) i h in
        let up = whole v seen L w looked way a.0 a.1 in
        let x = find-some (slots_of (body v a.0)) name i a.2 in
        subst (λ y. is_seen seen y ≡ true) x.leads (w.closed a.0 x.k x.e (looked a.0 x.k up) x.there)

pub reached-all : (v : Volume) (seen : List Bool) → IsWholeWalk v seen → ((i : ℕ) → is_used (body v i) ≡ true → is_seen seen i ≡ true) → AreReached v
reached-all v seen w all = record {
  once = λ d k c l e f p q. w.once d k c l e f (all d (slot-used v d k e p)) (all c (slot-used v c l f q)) p q;
  reached = λ i t. w.reached i (all i t);
}

pub lost-found : (g : Geometry) (s : Stored) (seen : List Bool) (i b : ℕ) (n : Inode) → IsTable g s → IsWholeWalk (volume_in g s) seen → i < inodes_of g → n ≡ the_inode g s i → n.kind ≢ 0 → is_seen seen i ≡ false → b ≡ inode_block g i → IsCorrupt g s Unreached b
lost-found g s seen i b n table w low e some new is =
    lost_inode i low is (used-kind g s i n table low e ∙ ap not (ne_eqb n.kind 0 some)) (λ way h. true≢false (sym (w.all way i h) ∙ new))

pub free-unused : (g : Geometry) (s : Stored) (i : ℕ) (n : Inode) → IsTable g s → i < inodes_of g → n ≡ the_inode g s i → n.kind ≡ 0 → is_used (body (volume_in g s) i) ≡ false
free-unused g s i n table low e free = used-kind g s i n table low e ∙ ap not (eq-eqb n.kind 0 free)

-- ---- whether an inode is a directory

pub dir-is : (g : Geometry) (s : Stored) (i : ℕ) → i < inodes_of g → (the_inode g s i).kind ≡ 2 → thing (body (volume_in g s) i) ≡ Some ADir
dir-is g s i low two = ap (λ (b : Body). thing b) (body-in g s i low ∙ body-dir s (the_inode g s i) two)

pub dir-low : (g : Geometry) (s : Stored) (i : ℕ) → thing (body (volume_in g s) i) ≡ Some ADir → i < inodes_of g
dir-low g s i dir = elim (cases_lt i (inodes_of g)) [
  | inl low ↦ low
  | inr past ↦ absurd (let e : None ≡ Some ADir = ap (λ (n : Node). thing n.body) (sym (node-past g s i past)) ∙ dir in cc)
]

pub dir-kind : (g : Geometry) (s : Stored) (i : ℕ) → IsTable g s → thing (body (volume_in g s) i) ≡ Some ADir → (the_inode g s i).kind ≡ 2
dir-kind g s i table dir =
    let n = the_inode g s i in
    let low = dir-low g s i dir in
    let kind = (table.inodes i low).0.kind in
    let is : thing (body_of s n) ≡ Some ADir = ap (λ (b : Body). thing b) (sym (body-in g s i low)) ∙ dir in
    elim (cases_eq n.kind 1) [
      | inl one ↦ absurd (let e : Some (AFile _) ≡ Some ADir = ap (λ (b : Body). thing b) (sym (body-file s n one)) ∙ is in cc)
      | inr rest ↦ elim (cases_eq n.kind 0) [
        | inl free ↦ absurd (let e : None ≡ Some ADir = ap (λ (b : Body). thing b) (sym (body-free s n free)) ∙ is in cc)
        | inr some ↦ omega arith
      ]
    ]

-- ---- the slots of the directory that is visited

pub slot-entry : (g : Geometry) (s : Stored) (d k : ℕ) (n : Inode) → d < inodes_of g → n ≡ the_inode g s d → n.kind ≡ 2 → k < 15 * count_of n → slot (volume_in g s) d k ≡ entry_of s n k
slot-entry g s d k n low e two inside =
    let at : slot (volume_in g s) d k ≡ get_or (slots_of (body_of s n)) k None = ap (λ (b : Body). get_or (slots_of b) k None) (body-in g s d low ∙ ap (body_of s) (sym e)) in
    at ∙ ap (λ (b : Body). get_or (slots_of b) k None) (body-dir s n two) ∙ table-at (15 * count_of n) (entry_of s n) k None inside

pub visit-low : (g : Geometry) (s : Stored) (xs : List Inode) (v : Volume) (seen : List Bool) (order : List ℕ) (done part d : ℕ) → Walked v (inodes_of g) seen order done part → done < length order → d ≡ get_or order done 0 → xs ≡ inodes_in g s → d < length xs
visit-low g s xs v seen order done part d w inside is e = let b = w.listing.below done inside in let n = ap length e in let m = length-inodes g s in omega arith

pub visit-none : (g : Geometry) (s : Stored) (seen : List Bool) (order : List ℕ) (done d : ℕ) (n : Inode) → IsTable g s → Walked (volume_in g s) (inodes_of g) seen order done 0 → d ≡ get_or order done 0 → n ≡ the_inode g s d → n.kind ≢ 2 → Walked (volume_in g s) (inodes_of g) seen order (done + 1) 0
visit-none g s seen order done d n table w is e other = walked-next (volume_in g s) (inodes_of g) seen order done 0 d w is (λ k f there. absurd (other (ap (λ (m : Inode). m.kind) e ∙ (slot-found g s d k f table there).dir)))

pub visit-end : (g : Geometry) (s : Stored) (seen : List Bool) (order : List ℕ) (done part d : ℕ) (n : Inode) → IsTable g s → Walked (volume_in g s) (inodes_of g) seen order done part → d ≡ get_or order done 0 → n ≡ the_inode g s d → part ≡ 15 * count_of n
    → Walked (volume_in g s) (inodes_of g) seen order (done + 1) 0
visit-end g s seen order done part d n table w is e all = walked-next (volume_in g s) (inodes_of g) seen order done part d w is (λ k f there. let l = (slot-found g s d k f table there).inside in let c = ap (λ (m : Inode). count_of m) e in omega arith)

-- what holds in the loop over its slots
abbrev pub Visits : Geometry → Stored → List Bool → List ℕ → (done part d : ℕ) → Type 0
Visits g s seen order done part d = Walked (volume_in g s) (inodes_of g) seen order done part × (done < length order) × (d ≡ get_or order done 0)

pub visit-skip : (g : Geometry) (s : Stored) (seen now : List Bool) (order next : List ℕ) (done part d : ℕ) (n : Inode) → Visits g s seen order done part d → d < inodes_of g → n ≡ the_inode g s d → n.kind ≡ 2 → part < 15 * count_of n → entry_of s n part ≡ None → now ≡ seen → next ≡ order
    → Visits g s now next done (part + 1) d
visit-skip g s seen now order next done part d n h low e two inside none p q =
    rw (p, q) (walked-skip (volume_in g s) (inodes_of g) seen order done part d h.0 h.2 (slot-entry g s d part n low e two inside ∙ none), h.1, h.2)

pub visit-found : (g : Geometry) (s : Stored) (seen after now : List Bool) (order more next : List ℕ) (done part d : ℕ) (n : Inode) (e : Entry) → AreOnce (volume_in g s) → AreNamed (volume_in g s) → Visits g s seen order done part d → d < inodes_of g → n ≡ the_inode g s d → n.kind ≡ 2
    → part < 15 * count_of n → entry_of s n part ≡ Some e → Finds e.inode seen order after more → now ≡ after → next ≡ more → Visits g s now next done (part + 1) d
visit-found g s seen after now order more next done part d n e once named h low same two inside there (inr f) p q =
    let at : slot (volume_in g s) d part ≡ Some e = slot-entry g s d part n low same two inside ∙ there in
    rw (p ∙ f.1, q ∙ f.2) (walked-again (volume_in g s) (inodes_of g) seen order done part d e h.0 h.2 at f.0, h.1, h.2)
visit-found g s seen after now order more next done part d n e once named h low same two inside there (inl f) p q =
    let at : slot (volume_in g s) d part ≡ Some e = slot-entry g s d part n low same two inside ∙ there in
    let w = walked-mark (volume_in g s) (inodes_of g) seen order done part d e once h.0 h.1 h.2 at f.0 (used-below g s e.inode (named d part e at).1) in
    let grown = length_push order e.inode in
    let l = h.1 in
    rw (p ∙ f.1, q ∙ f.2) (w, (let r : done < length (order ++ e.inode ∷ []) = omega arith in r), h.2 ∙ sym (pushed order e.inode done done h.1 (omega arith)))

-- a slot names an inode of the table
pub visit-inside : (g : Geometry) (s : Stored) (seen : List Bool) (order : List ℕ) (done part d : ℕ) (n : Inode) (e : Entry) → AreNamed (volume_in g s) → Visits g s seen order done part d → d < inodes_of g → n ≡ the_inode g s d → n.kind ≡ 2 → part < 15 * count_of n → entry_of s n part ≡ Some e → e.inode < length seen
visit-inside g s seen order done part d n e named h low same two inside there = let l = used-below g s e.inode (named d part e (slot-entry g s d part n low same two inside ∙ there)).1 in let z = h.0.listing.size in omega arith
