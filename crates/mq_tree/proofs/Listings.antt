-- A listing has a line for each path of a tree, in rising order.
use Rattle.std.proofs.Common.{get_or, set, ◌≡◌, ◌≢◌, ℕ, zero, suc, ◌+◌, ◌<◌, ◌≤◌, ◌⊎◌, inl, inr, List, [], ◌∷◌, ◌++◌, append_assoc, length, length-append, map, replicate, Bool, true, false, Ordering, Less, Equal, refl, sym, ap, subst, ◌∙◌, arith, get_or-set_other, length-set}
use Rattle.std.specs.Prelude.{Option, Some, None, codes, if◌then◌else◌, ⊤}
use Rattle.std.specs.Cmp.{IsTotalOrder}
use Rattle.std.specs.Cmp.Lexicographic.{slice_cmp}
use Rattle.std.specs.List.{Contains}
use Rattle.std.specs.List.Sorted.{IsStrictlySortedBy}
use Rattle.std.specs.Ordering.{nat_cmp, ordering_then}
use Rattle.std.proofs.lemmas.Bool.{cases_Bool, cases_eq, true≢false}
use Rattle.std.proofs.lemmas.Cmp.{lists_total, nat_list_cmp_total, tied_itself}
use Rattle.std.proofs.lemmas.List.{append-nil, length-map, length-replicate, map-append}
use Rattle.std.proofs.lemmas.List.Elements.{Contains-append_cases, Contains-append_left, Contains-append_right}
use Rattle.std.proofs.lemmas.Option.{same_Some}
use Rattle.mq_blocks.specs.declared.geometry.Geometry.{Geometry}
use Rattle.mq_layout.specs.Slots.{Entry}
use Rattle.mq_tree.specs.ListText.{Item, entries_in, items_of, line_of, lines, list_text, name_count, path_of, slot_count}
use Rattle.mq_tree.specs.Listings.{ArePaths, IsListing, lines_at, names_text, path_cmp, path_text, thing_line}
use Rattle.mq_tree.specs.Sound.{IsSound}
use Rattle.mq_tree.specs.Volume.{ADir, Body, Free, File, Dir, Path, Thing, Things, Volume, Way, body, inode_at, is_used, slots_of, thing, tree, way}
use Rattle.mq_tree.specs.Walks.{is_seen}
use Rattle.mq_tree.proofs.KeptAsks.{thing-leads}
use Rattle.mq_tree.proofs.VolumeMove.{leads-part}
use Rattle.mq_tree.proofs.VolumePaths.{Edge, IsTree, Step, last-step, leads-used, next-step, one-way, thing-here, used-is}
use Rattle.mq_tree.proofs.RequestsTargets.{same-way, way-append}
use Rattle.mq_tree.proofs.SoundVolumes.{sound-tree, used-low}
use Rattle.mq_tree.proofs.Members.{cons-cases, cons-here, cons-there, map-cases, map-has, none-contained}
use Rattle.mq_tree.proofs.ListTextSorting.{all-contained, contained-all, entries-found, entries-have, entries-sorted, entry_cmp, less-equal, sorted-same}
use Rattle.mq_tree.proofs.Walks.{all-false}

-- ---- paths in order

path_total : IsTotalOrder path_cmp
path_total = lists_total nat_list_cmp_total

-- one path comes before the other, and so does all below it before all below that
abbrev Before : Path → Path → Type 0
Before [] q = ⊥
Before (n ∷ p) [] = ⊥
Before (n ∷ p) (m ∷ q) = ((n ≡ m) × Before p q) ⊎ (slice_cmp nat_cmp n m ≡ Less)

before-below : (p q r s : Path) → Before p q → Before (p ++ r) (q ++ s)
before-below [] q r s b = absurd b
before-below (n ∷ p) [] r s b = absurd b
before-below (n ∷ p) (m ∷ q) r s (inl b) = inl (b.0, before-below p q r s b.1)
before-below (n ∷ p) (m ∷ q) r s (inr l) = inr l

tied : (n m : List ℕ) → n ≡ m → slice_cmp nat_cmp n m ≡ Equal
tied n m e = ap (λ (x : List ℕ). slice_cmp nat_cmp n x) (sym e) ∙ tied_itself nat_list_cmp_total n

before-less : (p q : Path) → Before p q → path_cmp p q ≡ Less
before-less [] q b = absurd b
before-less (n ∷ p) [] b = absurd b
before-less (n ∷ p) (m ∷ q) (inl b) = ap (λ (o : Ordering). ordering_then o (path_cmp p q)) (tied n m b.0) ∙ before-less p q b.1
before-less (n ∷ p) (m ∷ q) (inr l) = ap (λ (o : Ordering). ordering_then o (path_cmp p q)) l

before-names : (p : Path) (a b : List ℕ) → slice_cmp nat_cmp a b ≡ Less → Before (p ++ a ∷ []) (p ++ b ∷ [])
before-names [] a b l = inr l
before-names (n ∷ p) a b l = inl (refl, before-names p a b l)

-- a path comes before what is below it
less-below : (p : Path) (a : List ℕ) (r : Path) → path_cmp p (p ++ a ∷ r) ≡ Less
less-below [] a r = refl
less-below (n ∷ p) a r = ap (λ (o : Ordering). ordering_then o (path_cmp p (p ++ a ∷ r))) (tied n n refl) ∙ less-below p a r

-- ---- items that wait, each with its path

record PendingItem : Type 0 where
  path : Path
  item : Item

abbrev place : PendingItem → ℕ
place s = s.item.entry.inode

record Waits (v : Volume) (s : PendingItem) : Type 0 where
  text : path_of s.item ≡ names_text s.path
  whole : path_text s.path ≡ names_text s.path
  leads : inode_at v (way s.path) ≡ Some (place s)

record Below (pending : List PendingItem) (p : Path) : Type 0 where
  one : PendingItem
  among : Contains pending one
  rest : Path
  is : p ≡ one.path ++ rest

-- each comes before those after it
abbrev AreApart : List PendingItem → Type 0
AreApart [] = ⊤
AreApart (s ∷ pending) = ((t : PendingItem) → Contains pending t → Before s.path t.path) × AreApart pending

apart-append : (xs ys : List PendingItem) → AreApart xs → AreApart ys → ((s t : PendingItem) → Contains xs s → Contains ys t → Before s.path t.path) → AreApart (xs ++ ys)
apart-append [] ys a b h = b
apart-append (x ∷ xs) ys a b h = (
  λ t c. elim (Contains-append_cases xs ys t c) [
    | inl left ↦ a.0 t left
    | inr right ↦ h x t (cons-here x xs x refl) right
  ],
  apart-append xs ys a.1 b (λ s t c d. h s t (cons-there x xs s c) d),
)

-- the entries of a directory at this path, where its text is this
abbrev child : (path : Path) (text : List ℕ) → Entry → PendingItem
child path text e = record { path = path ++ e.name ∷ []; item = record { above = text; entry = e } }

abbrev children : (path : Path) (text : List ℕ) → List Entry → List PendingItem
children path text es = map (child path text) es

children-items : (path : Path) (text : List ℕ) (es : List Entry) → map (λ (s : PendingItem). s.item) (children path text es) ≡ items_of text es
children-items path text [] = refl
children-items path text (e ∷ es) = ap (λ (xs : List Item). record { above = text; entry = e } ∷ xs) (children-items path text es)

children-apart : (path : Path) (text : List ℕ) (es : List Entry) → IsStrictlySortedBy entry_cmp es → AreApart (children path text es)
unfolding IsStrictlySortedBy
children-apart path text [] s = tt
children-apart path text (e ∷ es) s = (
  λ t c.
      let d = map-cases (child path text) es t c in
      let less = all-contained (λ f. entry_cmp e f ≡ Less) es s.0 d.0 d.1 in
      subst (λ (x : PendingItem). Before (path ++ e.name ∷ []) x.path) d.2 (before-names path e.name (d.0).name less),
  children-apart path text es s.1,
)

names-more : (path : Path) (name : List ℕ) → names_text (path ++ name ∷ []) ≡ names_text path ++ codes "/" ++ name
names-more [] name = append-nil (codes "/" ++ name)
names-more (n ∷ path) name =
    let first = codes "/" ++ n in
    ap (λ (t : List ℕ). first ++ t) (names-more path name) ∙ sym (append_assoc first (names_text path ++ codes "/") name) ∙ ap (λ (t : List ℕ). t ++ name) (sym (append_assoc first (names_text path) (codes "/")))

whole-more : (path : Path) (name : List ℕ) → path_text (path ++ name ∷ []) ≡ names_text (path ++ name ∷ [])
whole-more [] name = refl
whole-more (n ∷ path) name = refl

-- what stands below a directory at a path
abbrev pending_in : Volume → (path : Path) (text : List ℕ) → ℕ → List PendingItem
pending_in v path text d = children path text (entries_in (slots_of (body v d)))

record InDir (v : Volume) (path : Path) (text : List ℕ) (d : ℕ) : Type 0 where
  leads : inode_at v (way path) ≡ Some d
  names : text ≡ names_text path

pending-wait : (v : Volume) (path : Path) (text : List ℕ) (d : ℕ) → IsTree v → InDir v path text d → (s : PendingItem) → Contains (pending_in v path text d) s → Waits v s
pending-wait v path text d t h s c =
    let m = map-cases (child path text) (entries_in (slots_of (body v d))) s c in
    let e = m.0 in
    let f = entries-found (slots_of (body v d)) e m.1 in
    let edge : Edge v d e.name e.inode = record { place = f.0; entry = e; there = f.1; named = refl; leads = refl } in
    subst (Waits v) m.2 (record {
      text = ap (λ (x : List ℕ). x ++ codes "/" ++ e.name) h.names ∙ sym (names-more path e.name);
      whole = whole-more path e.name;
      leads = ap (λ (w : Way). inode_at v w) (way-append path (e.name ∷ [])) ∙ next-step v e.name (way path) d e.inode t.names h.leads edge;
    })

pending-apart : (v : Volume) (path : Path) (text : List ℕ) (d : ℕ) → IsTree v → AreApart (pending_in v path text d)
pending-apart v path text d t = children-apart path text (entries_in (slots_of (body v d))) (entries-sorted (slots_of (body v d)) (t.names d))

child-split : (path : Path) (name : List ℕ) (rest : Path) (e : Entry) → e.name ≡ name → path ++ name ∷ rest ≡ (path ++ e.name ∷ []) ++ rest
child-split path name rest e named = sym (append_assoc path (name ∷ []) rest) ∙ ap (λ (n : List ℕ). (path ++ n ∷ []) ++ rest) (sym named)

pending-step : (v : Volume) (path : Path) (text : List ℕ) (d : ℕ) → InDir v path text d → (name : List ℕ) (rest : Path) (i : ℕ) → Step v name (way path) i → Below (pending_in v path text d) (path ++ name ∷ rest)
pending-step v path text d h name rest i step =
    let here : step.directory ≡ d = same_Some step.directory d (sym step.before ∙ h.leads) in
    let stands = subst (λ (x : ℕ). get_or (slots_of (body v x)) step.edge.place None ≡ Some step.edge.entry) here step.edge.there in
    record {
      one = child path text step.edge.entry;
      among = map-has (child path text) (entries_in (slots_of (body v d))) step.edge.entry (entries-have (slots_of (body v d)) step.edge.place step.edge.entry stands);
      rest = rest;
      is = child-split path name rest step.edge.entry step.edge.named;
    }

-- whatever stands further down is below one of them
pending-all : (v : Volume) (path : Path) (text : List ℕ) (d : ℕ) → InDir v path text d → (name : List ℕ) (rest : Path) (there : Thing) → tree v (path ++ name ∷ rest) ≡ Some there → Below (pending_in v path text d) (path ++ name ∷ rest)
pending-all v path text d h name rest there is =
    let l = thing-leads v (path ++ name ∷ rest) there is in
    let turned : way (path ++ name ∷ rest) ≡ way rest ++ name ∷ way path =
    ap (λ (p : Path). way p) (sym (append_assoc path (name ∷ []) rest)) ∙ way-append (path ++ name ∷ []) rest ∙ ap (λ (w : Way). way rest ++ w) (way-append path (name ∷ [])) in
    let part = leads-part v (way rest) (name ∷ way path) l.0 (ap (λ (w : Way). inode_at v w) (sym turned) ∙ l.1) in
    pending-step v path text d h name rest part.0 (last-step v name (way path) part.0 part.1)

-- ---- how far the listing has come

-- how many names stand in the directories that were not listed
abbrev unlisted : Volume → List Bool → ℕ
unlisted [] seen = 0
unlisted (n ∷ v) [] = name_count n.body + unlisted v []
unlisted (n ∷ v) (b ∷ seen) = (if b then 0 else name_count n.body) + unlisted v seen

unlisted-all : (v : Volume) → unlisted v (replicate (length v) false) ≡ slot_count v
unlisted-all [] = refl
unlisted-all (n ∷ v) = ap (λ (k : ℕ). name_count n.body + k) (unlisted-all v)

-- an inode is listed
unlisted-less : (v : Volume) (seen : List Bool) (i : ℕ) → i < length v → length seen ≡ length v → is_seen seen i ≡ false → unlisted v seen ≡ name_count (body v i) + unlisted v (set seen i true)
unlisted-less [] seen i low size new = absurd (omega arith)
unlisted-less (n ∷ v) [] i low size new = absurd (omega arith)
unlisted-less (n ∷ v) (true ∷ seen) zero low size new = absurd (true≢false new)
unlisted-less (n ∷ v) (false ∷ seen) zero low size new = let e : unlisted v seen ≡ 0 + unlisted v seen = omega arith in ap (λ (k : ℕ). name_count n.body + k) e
unlisted-less (n ∷ v) (b ∷ seen) (suc i) low size new =
    let h : unlisted v seen ≡ name_count (body v i) + unlisted v (set seen i true) = unlisted-less v seen i (omega arith) (omega arith) new in
    let w : ℕ = if b then 0 else name_count n.body in
    ap (λ (k : ℕ). w + k) h ∙ turn w (name_count (body v i)) (unlisted v (set seen i true))
  where
    turn : (a b c : ℕ) → a + (b + c) ≡ b + (a + c)
    turn a b c = omega arith

-- The lines that are left are enough: for what waits, and for the names of what was not listed. What was
-- listed has earlier paths.
record Ready (v : Volume) (count : ℕ) (pending : List PendingItem) (seen : List Bool) : Type 0 where
  waits : (s : PendingItem) → Contains pending s → Waits v s
  apart : AreApart pending
  size : length seen ≡ length v
  enough : length pending + unlisted v seen ≤ count
  past : (i : ℕ) → is_seen seen i ≡ true → (p : Path) × (inode_at v (way p) ≡ Some i) × ((s : PendingItem) → Contains pending s → path_cmp p s.path ≡ Less)

pending-used : (v : Volume) (s : PendingItem) → IsTree v → Waits v s → is_used (body v (place s)) ≡ true
pending-used v s t w = leads-used v t (way s.path) (place s) w.leads

-- a directory was not listed before
pending-past : (v : Volume) (count : ℕ) (s : PendingItem) (pending : List PendingItem) (seen : List Bool) → IsTree v → Ready v count (s ∷ pending) seen → is_seen seen (place s) ≡ true → thing (body v (place s)) ≢ Some ADir
pending-past v count s pending seen t r was dir =
    let p = r.past (place s) was in
    let w = r.waits s (cons-here s pending s refl) in
    let same : p.0 ≡ s.path = same-way p.0 s.path (one-way v t.named t.once (way p.0) (way s.path) (place s) dir p.1 w.leads) in
    less-equal (sym (p.2 s (cons-here s pending s refl)) ∙ ap (λ (q : Path). path_cmp q s.path) same ∙ tied_itself path_total s.path)

-- what is no directory has no names
nameless-count : (b : Body) → (thing b ≢ Some ADir) → name_count b ≡ 0
nameless-count Free other = refl
nameless-count (File bytes) other = refl
nameless-count (Dir slots) other = absurd (other refl)

set-seen : (seen : List Bool) (i : ℕ) → is_seen seen i ≡ true → set seen i true ≡ seen
set-seen [] i was = refl
set-seen (b ∷ seen) zero was = ap (λ (c : Bool). c ∷ seen) (sym was)
set-seen (b ∷ seen) (suc i) was = ap (λ (xs : List Bool). b ∷ xs) (set-seen seen i was)

pending-listed : (v : Volume) (count : ℕ) (s : PendingItem) (pending : List PendingItem) (seen : List Bool) → IsTree v → Ready v count (s ∷ pending) seen → unlisted v seen ≡ name_count (body v (place s)) + unlisted v (set seen (place s) true)
pending-listed v count s pending seen t r = elim (cases_Bool (is_seen seen (place s))) [
  | inl was ↦
      let none = nameless-count (body v (place s)) (pending-past v count s pending seen t r was) in
      let same : unlisted v (set seen (place s) true) ≡ unlisted v seen = ap (unlisted v) (set-seen seen (place s) was) in
      omega arith
  | inr new ↦ unlisted-less v seen (place s) (used-low v (place s) (pending-used v s t (r.waits s (cons-here s pending s refl)))) r.size new
]

pending-left : {R : Type 0} (v : Volume) (s : PendingItem) (pending : List PendingItem) (seen : List Bool) → Ready v zero (s ∷ pending) seen → R
pending-left v s pending seen r = let e = r.enough in absurd (omega arith)

-- the directory of an item that waits
pending-dir : (v : Volume) (s : PendingItem) → Waits v s → InDir v s.path (path_of s.item) (place s)
pending-dir v s w = record { leads = w.leads; names = w.text }

abbrev pending_at : Volume → PendingItem → List PendingItem
pending_at v s = pending_in v s.path (path_of s.item) (place s)

-- an item below another comes after it
pending-below : (v : Volume) (s c : PendingItem) → Contains (pending_at v s) c → (name : List ℕ) × (c.path ≡ s.path ++ name ∷ [])
pending-below v s c among =
    let m = map-cases (child s.path (path_of s.item)) (entries_in (slots_of (body v (place s)))) c among in
    ((m.0).name, ap (λ (x : PendingItem). x.path) (sym m.2))

ready-more : (v : Volume) (count : ℕ) (s : PendingItem) (pending : List PendingItem) (seen : List Bool) → IsTree v → Ready v (suc count) (s ∷ pending) seen → Ready v count (pending_at v s ++ pending) (set seen (place s) true)
ready-more v count s pending seen t r =
    let w = r.waits s (cons-here s pending s refl) in
    let dir = pending-dir v s w in
    let here : (c : PendingItem) → Contains (pending_at v s) c → path_cmp s.path c.path ≡ Less = λ c among.
    let b = pending-below v s c among in
    ap (λ (q : Path). path_cmp s.path q) b.1 ∙ less-below s.path b.0 [] in
    let after : (c : PendingItem) → Contains pending c → path_cmp s.path c.path ≡ Less = λ c among. before-less s.path c.path (r.apart.0 c among) in
    record {
      waits = λ c among. elim (Contains-append_cases (pending_at v s) pending c among) [
        | inl new ↦ pending-wait v s.path (path_of s.item) (place s) t dir c new
        | inr old ↦ r.waits c (cons-there s pending c old)
      ];
      apart = apart-append (pending_at v s) pending (pending-apart v s.path (path_of s.item) (place s) t) r.apart.1 (λ c d among other.
          let b = pending-below v s c among in
          let whole : Before (s.path ++ (b.0 ∷ [])) (d.path ++ []) = before-below s.path d.path (b.0 ∷ []) [] (r.apart.0 d other) in
          subst (λ (q : Path). Before q d.path) (sym b.1) (subst (Before (s.path ++ b.0 ∷ [])) (append-nil d.path) whole));
      size = length-set seen (place s) true ∙ r.size;
      enough = (
          let less = pending-listed v (suc count) s pending seen t r in
          let all = length-append (pending_at v s) pending in
          let new : length (pending_at v s) ≡ name_count (body v (place s)) = length-map (entries_in (slots_of (body v (place s)))) (child s.path (path_of s.item)) in
          let e = r.enough in
          omega arith
          );
      past = λ i was. elim (cases_eq i (place s)) [
        | inl same ↦ (s.path, w.leads ∙ ap (λ (x : ℕ). Some x) (sym same), λ c among. elim (Contains-append_cases (pending_at v s) pending c among) [ inl new ↦ here c new | inr old ↦ after c old ])
        | inr other ↦
            let p = r.past i (sym (get_or-set_other seen (place s) i true false other) ∙ was) in
            let before = p.2 s (cons-here s pending s refl) in (
              p.0,
              p.1,
              λ c among. elim (Contains-append_cases (pending_at v s) pending c among) [
                | inl new ↦ path_total.trans p.0 s.path c.path before (here c new)
                | inr old ↦ p.2 c (cons-there s pending c old)
              ],
            )
      ];
    }

-- ---- what the lines say

record Told (v : Volume) (pending : List PendingItem) (text : List ℕ) : Type 0 where
  paths : List Path
  lines : text ≡ lines_at (tree v) paths
  rising : IsStrictlySortedBy path_cmp paths
  below : (p : Path) → Contains paths p → Below pending p
  found : (p : Path) → Contains paths p → (there : Thing) × (tree v p ≡ Some there)
  all : (p : Path) (there : Thing) → tree v p ≡ Some there → Below pending p → Contains paths p

told-none : (v : Volume) → Told v [] []
unfolding IsStrictlySortedBy
told-none v = record {
  paths = [];
  lines = refl;
  rising = tt;
  below = λ p c. none-contained p c;
  found = λ p c. none-contained p c;
  all = λ p there is b. none-contained b.one b.among;
}

line-is : (path : Path) (text : List ℕ) (b : Body) → is_used b ≡ true → text ≡ path_text path → line_of text b ≡ thing_line path (thing b)
line-is path text Free u e = absurd (true≢false (sym u))
line-is path text (File bytes) u e = ap (λ (t : List ℕ). line_of t (File bytes)) e
line-is path text (Dir slots) u e = ap (λ (t : List ℕ). line_of t (Dir slots)) e

sorted-cons : (p : Path) (paths : List Path) → ((q : Path) → Contains paths q → path_cmp p q ≡ Less) → IsStrictlySortedBy path_cmp paths → IsStrictlySortedBy path_cmp (p ∷ paths)
unfolding IsStrictlySortedBy
sorted-cons p paths h s = (contained-all (λ q. path_cmp p q ≡ Less) paths h, s)

told-more : (v : Volume) (s : PendingItem) (pending : List PendingItem) (text : List ℕ) → IsTree v → Waits v s → ((t : PendingItem) → Contains pending t → Before s.path t.path) → Told v (pending_at v s ++ pending) text → Told v (s ∷ pending) (line_of (path_of s.item) (body v (place s)) ++ text)
told-more v s pending text t w apart rest =
    let used = pending-used v s t w in
    let here : tree v s.path ≡ thing (body v (place s)) = thing-here v (way s.path) (place s) w.leads in
    let line : line_of (path_of s.item) (body v (place s)) ≡ thing_line s.path (tree v s.path) =
    line-is s.path (path_of s.item) (body v (place s)) used (w.text ∙ sym w.whole) ∙ ap (λ (o : Option Thing). thing_line s.path o) (sym here) in
    let stands = used-is (body v (place s)) used in
    record {
      paths = s.path ∷ rest.paths;
      lines = ap (λ (l : List ℕ). l ++ text) line ∙ ap (λ (l : List ℕ). thing_line s.path (tree v s.path) ++ l) rest.lines;
      rising = sorted-cons s.path rest.paths (λ q c.
          let b = rest.below q c in
          elim (Contains-append_cases (pending_at v s) pending b.one b.among) [
            | inl new ↦
                let n = pending-below v s b.one new in
                let is : q ≡ s.path ++ n.0 ∷ b.rest = b.is ∙ ap (λ (x : Path). x ++ b.rest) n.1 ∙ append_assoc s.path (n.0 ∷ []) b.rest in
                ap (λ (x : Path). path_cmp s.path x) is ∙ less-below s.path n.0 b.rest
            | inr old ↦
                let whole = before-below s.path (b.one).path [] b.rest (apart b.one old) in
                before-less s.path q (subst (Before s.path) (sym b.is) (subst (λ (x : Path). Before x ((b.one).path ++ b.rest)) (append-nil s.path) whole))
          ]) rest.rising;
      below = λ q c. elim (cons-cases s.path rest.paths q c) [
        | inl same ↦ record { one = s; among = cons-here s pending s refl; rest = []; is = sym same ∙ sym (append-nil s.path) }
        | inr there ↦
            let b = rest.below q there in
            elim (Contains-append_cases (pending_at v s) pending b.one b.among) [
              | inl new ↦
                  let n = pending-below v s b.one new in
                  record { one = s; among = cons-here s pending s refl; rest = n.0 ∷ b.rest; is = b.is ∙ ap (λ (x : Path). x ++ b.rest) n.1 ∙ append_assoc s.path (n.0 ∷ []) b.rest }
              | inr old ↦ record { one = b.one; among = cons-there s pending b.one old; rest = b.rest; is = b.is }
            ]
      ];
      found = λ q c. elim (cons-cases s.path rest.paths q c) [
        | inl same ↦ (stands.0, ap (λ (x : Path). tree v x) (sym same) ∙ here ∙ stands.1)
        | inr there ↦ rest.found q there
      ];
      all = λ q there is b. elim (cons-cases s pending b.one b.among) [
        | inl same ↦ told-here v s pending text w rest q there is b.rest (b.is ∙ ap (λ (x : PendingItem). x.path ++ b.rest) (sym same))
        | inr old ↦ cons-there s.path rest.paths q (rest.all q there is (record { one = b.one; among = Contains-append_right (pending_at v s) pending b.one old; rest = b.rest; is = b.is }))
      ];
    }
  where
    told-here : (v : Volume) (s : PendingItem) (pending : List PendingItem) (text : List ℕ) → Waits v s → (rest : Told v (pending_at v s ++ pending) text) → (q : Path) (there : Thing) → tree v q ≡ Some there → (more : Path) → q ≡ s.path ++ more → Contains (s.path ∷ rest.paths) q
    told-here v s pending text w rest q there is [] e = cons-here s.path rest.paths q (sym (append-nil s.path) ∙ sym e)
    told-here v s pending text w rest q there is (name ∷ more) e =
        let b = pending-all v s.path (path_of s.item) (place s) (pending-dir v s w) name more there (ap (λ (x : Path). tree v x) (sym e) ∙ is) in
        cons-there s.path rest.paths q (rest.all q there is (record { one = b.one; among = Contains-append_left (pending_at v s) pending b.one b.among; rest = b.rest; is = e ∙ b.is }))

items-more : (v : Volume) (s : PendingItem) (pending : List PendingItem) → map (λ (x : PendingItem). x.item) (pending_at v s ++ pending) ≡ items_of (path_of s.item) (entries_in (slots_of (body v (place s)))) ++ map (λ (x : PendingItem). x.item) pending
items-more v s pending = map-append (λ (x : PendingItem). x.item) (pending_at v s) pending ∙ ap (λ (xs : List Item). xs ++ map (λ (x : PendingItem). x.item) pending) (children-items s.path (path_of s.item) (entries_in (slots_of (body v (place s)))))

told : (count : ℕ) (v : Volume) (pending : List PendingItem) (seen : List Bool) → IsTree v → Ready v count pending seen → Told v pending (lines count v (map (λ (s : PendingItem). s.item) pending))
unfolding lines
told zero v [] seen t r = told-none v
told (suc count) v [] seen t r = told-none v
told zero v (s ∷ pending) seen t r = pending-left v s pending seen r
told (suc count) v (s ∷ pending) seen t r =
    let rest = told count v (pending_at v s ++ pending) (set seen (place s) true) t (ready-more v count s pending seen t r) in
    told-more v s pending (lines count v (items_of (path_of s.item) (entries_in (slots_of (body v (place s)))) ++ map (λ (x : PendingItem). x.item) pending)) t (r.waits s (cons-here s pending s refl)) r.apart.0 (subst (λ (xs : List Item). Told v (pending_at v s ++ pending) (lines count v xs)) (items-more v s pending) rest)

-- ---- the whole listing

root-dir : (v : Volume) → InDir v [] [] 0
root-dir v = record { leads = refl; names = refl }

abbrev root_pending : Volume → List PendingItem
root_pending v = pending_in v [] [] 0

root-used : (v : Volume) → IsTree v → is_used (body v 0) ≡ true
root-used v t = leads-used v t [] 0 refl

-- only the root was listed
abbrev root_seen : Volume → List Bool
root_seen v = set (replicate (length v) false) 0 true

root-ready : (v : Volume) → IsTree v → Ready v (slot_count v) (root_pending v) (root_seen v)
root-ready v t = record {
  waits = pending-wait v [] [] 0 t (root-dir v);
  apart = pending-apart v [] [] 0 t;
  size = length-set (replicate (length v) false) 0 true ∙ length-replicate (length v) false;
  enough = (
      let all = unlisted-all v in
      let less = unlisted-less v (replicate (length v) false) 0 (used-low v 0 (root-used v t)) (length-replicate (length v) false) (all-false (length v) 0) in
      let new : length (root_pending v) ≡ name_count (body v 0) = length-map (entries_in (slots_of (body v 0))) (child [] []) in
      omega arith
      );
  past = λ i was. elim (cases_eq i 0) [
    | inl root ↦ (
      [],
      ap (λ (x : ℕ). Some x) (sym root),
      λ c among.
          let m = map-cases (child [] []) (entries_in (slots_of (body v 0))) c among in
          ap (λ (x : PendingItem). path_cmp [] x.path) (sym m.2),
    )
    | inr other ↦ absurd (true≢false (sym was ∙ get_or-set_other (replicate (length v) false) 0 i true false other ∙ all-false (length v) i))
  ];
}

root-told : (v : Volume) → IsTree v → Told v (root_pending v) (lines (slot_count v) v (items_of [] (entries_in (slots_of (body v 0)))))
root-told v t = subst (λ (xs : List Item). Told v (root_pending v) (lines (slot_count v) v xs)) (children-items [] [] (entries_in (slots_of (body v 0)))) (told (slot_count v) v (root_pending v) (root_seen v) t (root-ready v t))

tree-listing : (v : Volume) → IsTree v → IsListing (tree v) (list_text v)
tree-listing v t =
    let r = root-told v t in
    let stands = used-is (body v 0) (root-used v t) in
    record {
      paths = [] ∷ r.paths;
      each = record {
        rising = sorted-cons [] r.paths (λ q c. root-first v q (r.below q c)) r.rising;
        found = λ q c. elim (cons-cases [] r.paths q c) [
          | inl same ↦ (stands.0, ap (λ (x : Path). tree v x) (sym same) ∙ stands.1)
          | inr there ↦ r.found q there
        ];
        all = λ q there is. root-all v r q there is;
      };
      lines = ap (λ (l : List ℕ). l ++ lines (slot_count v) v (items_of [] (entries_in (slots_of (body v 0))))) (line-is [] (codes "/") (body v 0) (root-used v t) refl) ∙ ap (λ (l : List ℕ). thing_line [] (tree v []) ++ l) r.lines;
    }
  where
    root-first : (v : Volume) (q : Path) → Below (root_pending v) q → path_cmp [] q ≡ Less
    root-first v q b =
        let m = map-cases (child [] []) (entries_in (slots_of (body v 0))) b.one b.among in
        ap (λ (x : Path). path_cmp [] x) (b.is ∙ ap (λ (x : PendingItem). x.path ++ b.rest) (sym m.2))

    root-all : (v : Volume) (r : Told v (root_pending v) (lines (slot_count v) v (items_of [] (entries_in (slots_of (body v 0)))))) (q : Path) (there : Thing) → tree v q ≡ Some there → Contains ([] ∷ r.paths) q
    root-all v r [] there is = cons-here [] r.paths [] refl
    root-all v r (name ∷ q) there is = cons-there [] r.paths (name ∷ q) (r.all (name ∷ q) there is (pending-all v [] [] 0 (root-dir v) name q there is))

pub sound-listing : (g : Geometry) (v : Volume) → IsSound g v → IsListing (tree v) (list_text v)
sound-listing g v s = tree-listing v (sound-tree g v s)

-- a tree has one listing
pub listing-once : (t : Things) (a b : List ℕ) → IsListing t a → IsListing t b → a ≡ b
listing-once t a b x y =
    let kept : (u w : List Path) → ArePaths t u → ArePaths t w → (p : Path) → Contains u p → Contains w p = λ u w f g p c. (let h = f.found p c in g.all p h.0 h.1) in
    let same = sorted-same path_cmp path_total x.paths y.paths x.each.rising y.each.rising (kept x.paths y.paths x.each y.each) (kept y.paths x.paths y.each x.each) in
    x.lines ∙ ap (λ (ps : List Path). lines_at t ps) same ∙ sym y.lines
