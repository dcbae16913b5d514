-- What is written and freed, entry by entry of the pages that were put.
use Rattle.std.proofs.Common.{get_or, ◌≡◌, ◌≢◌, ℕ, zero, suc, ◌<◌, inl, inr, List, [], ◌∷◌, ◌++◌, Bool, true, false, cond, rules, refl, sym, ap, subst, ◌∙◌, arith}
use Rattle.std.specs.Prelude.{Option, Some, None, if◌then◌else◌, nat_lt}
use Rattle.std.specs.BTreeMap.{BTreeMap, IsOrdered, get}
use Rattle.std.specs.List.{All, AllPairs, Contains, cons_option, filter_map}
use Rattle.std.specs.List.Sorted.{IsStrictlySortedBy}
use Rattle.std.specs.Map.{keys_of}
use Rattle.std.specs.Ordering.{nat_cmp}
use Rattle.std.specs.Cmp.{nat_cmp_total}
use Rattle.std.proofs.lemmas.Bool.{cases_Bool, false_from_ne_true, le-ltb, lt-ltb, true≢false}
use Rattle.std.proofs.lemmas.List.{append-nil, get_or-map, get_or_default, length-map}
use Rattle.std.proofs.lemmas.List.Kept.{AllPairs-cons}
use Rattle.std.proofs.lemmas.Option.{none-some, same_Some}
use Rattle.std.proofs.lemmas.Map.Keys.{below_from_sorted, sorted_tail}
use Rattle.std.proofs.lemmas.Map.Lookups.{exact_unsigned}
use Rattle.std.proofs.lemmas.Map.Views.{btree_map_get_iff}
use Rattle.mq_blocks.specs.Geometry.{meta_of}
use Rattle.mq_inodes.specs.Differences.{Differs, HasKind, has_content, has_page}
use Rattle.mq_inodes.specs.Pages.{IsHeld, Pages, changed_of, content, kind_put, kinds_of, page_put, view_of}
use Rattle.mq_inodes.specs.declared.working.Change.{Change}
use Rattle.mq_inodes.specs.declared.working.Working.{Working}
use Rattle.mq_pages.specs.declared.page.Kind.TheVariants.{Meta}
use Rattle.mq_pages.specs.declared.page.Write.{Write}
use Rattle.mq_tree.proofs.Members.{cons-here, cons-there}

abbrev pub Put : Type 0
Put = ℕ × Option Change

-- a block that was put with content, as it is written: below `low` it is metadata
abbrev pub written_as : (low b : ℕ) → Change → Write
written_as low b c = record { block = b; kind = if nat_lt b low then Meta else c.kind; content = c.content }

-- what is written, and what is freed, of one that was put
abbrev pub write_of : (low : ℕ) → Pages → Put → Option Write
write_of low view (b, None) = None
write_of low view (b, Some c) = if has_page (view b) c.content then None else Some (written_as low b c)

abbrev pub freed_of : Pages → Put → Option ℕ
freed_of view (b, None) = if has_content (view b) then Some b else None
freed_of view (b, Some c) = None

-- ---- what is taken of each entry, at most one thing

record IsFrom {X : Type 0} (out : Put → Option X) (es : List Put) (x : X) : Type 0 where
  entry : Put
  there : Contains es entry
  gives : out entry ≡ Some x

later-from : {X : Type 0} (out : Put → Option X) (e : Put) (es : List Put) (x : X) → IsFrom out es x → IsFrom out (e ∷ es) x
later-from {X} out e es x f = record { entry = f.entry; there = cons-there e es f.entry f.there; gives = f.gives }

taken-from : {X : Type 0} (out : Put → Option X) (es : List Put) (x : X) → Contains (filter_map out es) x → IsFrom out es x
taken-from {X} out [] x (k, l, h) = absurd (omega arith)
taken-from {X} out (e ∷ es) x c = at (λ d. later-from out e es x (taken-from out es x d)) (out e) refl c
  where
    at : (Contains (filter_map out es) x → IsFrom out (e ∷ es) x) → (o : Option X) → out e ≡ o → Contains (cons_option o (filter_map out es)) x → IsFrom out (e ∷ es) x
    at rest None is c = rest c
    at rest (Some y) is (zero, l, h) = record { entry = e; there = cons-here e es e refl; gives = is ∙ ap (λ (z : X). Some z) h }
    at rest (Some y) is (suc k, l, h) = rest (k, (omega arith), h)

taken-all : {X : Type 0} (out : Put → Option X) (es : List Put) (e : Put) (x : X) → Contains es e → out e ≡ Some x → Contains (filter_map out es) x
taken-all {X} out [] e x (k, l, h) is = absurd (omega arith)
taken-all {X} out (f ∷ es) e x (zero, l, h) is = subst (λ (o : Option X). Contains (cons_option o (filter_map out es)) x) (sym (ap out h ∙ is)) (cons-here x (filter_map out es) x refl)
taken-all {X} out (f ∷ es) e x (suc k, l, h) is = behind (out f) (taken-all out es e x (k, (omega arith), h) is)
  where
    behind : (o : Option X) → Contains (filter_map out es) x → Contains (cons_option o (filter_map out es)) x
    behind None c = c
    behind (Some y) c = cons-there y (filter_map out es) x c

-- where no entry is left, all was taken
pub taken-end : {X : Type 0} (out : Put → Option X) (xs : List X) (rest es : List Put) → xs ++ filter_map out rest ≡ filter_map out es → rest ≡ [] → xs ≡ filter_map out es
taken-end {X} out xs rest es e none = sym (append-nil xs) ∙ ap (λ (ys : List Put). xs ++ filter_map out ys) (sym none) ∙ e

-- a key is below those behind it
key-above : (e f : Put) (es : List Put) → IsStrictlySortedBy nat_cmp (keys_of (e ∷ es)) → Contains es f → e.0 < f.0
key-above e f es sorted (k, l, h) =
    let m = length-map es (λ (p : Put). p.0) in
    let at : get_or (keys_of (e ∷ es)) (suc k) 0 ≡ f.0 = get_or-map (λ (p : Put). p.0) es k f 0 l ∙ ap (λ (p : Put). p.0) h in
    subst (λ (n : ℕ). e.0 < n) at (below_from_sorted (keys_of (e ∷ es)) 0 (suc k) 0 sorted (omega arith) (omega arith))

-- two entries in order give things in order
abbrev IsAlong : {X : Type 0} → (n : X → ℕ) → (out : Put → Option X) → Type 0
IsAlong {X} n out = (e : Put) (x : X) → out e ≡ Some x → n x ≡ e.0

taken-above : {X : Type 0} (n : X → ℕ) (out : Put → Option X) (e : Put) (es : List Put) (y : X) → IsAlong n out → IsStrictlySortedBy nat_cmp (keys_of (e ∷ es)) → out e ≡ Some y → All (λ x. n y < n x) (filter_map out es)
taken-above {X} n out e es y along sorted is k d l =
    let x = get_or (filter_map out es) k d in
    let f = taken-from out es x (k, l, get_or_default (filter_map out es) k x d l) in
    let above = key-above e f.entry es sorted f.there in
    let low = along e y is in
    let high = along f.entry x f.gives in
    omega arith

taken-rises : {X : Type 0} (n : X → ℕ) (out : Put → Option X) (es : List Put) → IsAlong n out → IsStrictlySortedBy nat_cmp (keys_of es) → AllPairs (λ x y. n x < n y) (filter_map out es)
taken-rises {X} n out [] along sorted = λ i j d l h. absurd (omega arith)
taken-rises {X} n out (e ∷ es) along sorted = at (out e) refl (taken-rises n out es along (sorted_tail nat_cmp e.0 (keys_of es) sorted))
  where
    at : (o : Option X) → out e ≡ o → AllPairs (λ x y. n x < n y) (filter_map out es) → AllPairs (λ x y. n x < n y) (cons_option o (filter_map out es))
    at None is rest = rest
    at (Some y) is rest = AllPairs-cons (λ a b. n a < n b) y (filter_map out es) (taken-above n out e es y along sorted is) rest

-- ---- pages that are compared

page-same : (page : List ℕ) → has_page (Some (Some page)) page ≡ true
page-same page = search rules

page-other : (o : Option (Option (List ℕ))) (page : List ℕ) → has_page o page ≡ true → o ≡ Some (Some page)
page-other None page e = absurd (true≢false (sym e))
page-other (Some None) page e = absurd (true≢false (sym e))
page-other (Some (Some x)) page e = search rules

content-held : (o : Option (Option (List ℕ))) → has_content o ≡ true → o ≡ Some (Some (content o))
content-held None e = absurd (true≢false (sym e))
content-held (Some None) e = absurd (true≢false (sym e))
content-held (Some (Some x)) e = refl

-- the only entry
alone : (a b : Put) → Contains (a ∷ []) b → b.0 ≡ a.0
alone a b (zero, l, h) = ap (λ (p : Put). p.0) (sym h)
alone a b (suc k, l, h) = absurd (omega arith)

-- ---- writes

record IsWriteOf (low : ℕ) (view : Pages) (es : List Put) (x : Write) : Type 0 where
  block : ℕ
  change : Change
  there : Contains es (block, Some change)
  new : has_page (view block) change.content ≡ false
  is : x ≡ written_as low block change

write-from : (low : ℕ) (view : Pages) (es : List Put) (x : Write) → IsFrom (write_of low view) es x → IsWriteOf low view es x
write-from low view es x f = go f.entry f.there f.gives
  where
    go : (e : Put) → Contains es e → write_of low view e ≡ Some x → IsWriteOf low view es x
    go (b, None) there g = absurd (none-some x g)
    go (b, Some c) there g =
        let w = written_as low b c in
        elim (cases_Bool (has_page (view b) c.content)) [
          | inl y ↦ absurd (none-some x (ap (λ (t : Bool). cond t None (Some w)) (sym y) ∙ g))
          | inr n ↦ record { block = b; change = c; there = there; new = n; is = sym (same_Some w x (ap (λ (t : Bool). cond t None (Some w)) (sym n) ∙ g)) }
        ]

write-along : (low : ℕ) (view : Pages) → IsAlong (λ (x : Write). x.block) (write_of low view)
write-along low view e x g = let f = write-from low view (e ∷ []) x (record { entry = e; there = cons-here e [] e refl; gives = g }) in ap (λ (z : Write). z.block) f.is ∙ alone e (f.block, Some f.change) f.there

-- ---- frees

record IsFreeOf (view : Pages) (es : List Put) (b : ℕ) : Type 0 where
  there : Contains es (b, None)
  held : has_content (view b) ≡ true

free-from : (view : Pages) (es : List Put) (b : ℕ) → IsFrom (freed_of view) es b → IsFreeOf view es b
free-from view es b f = go f.entry f.there f.gives
  where
    go : (e : Put) → Contains es e → freed_of view e ≡ Some b → IsFreeOf view es b
    go (x, None) there g = elim (cases_Bool (has_content (view x))) [
      | inl y ↦
          let same : x ≡ b = same_Some x b (ap (λ (t : Bool). cond t (Some x) None) (sym y) ∙ g) in
          subst (λ z. IsFreeOf view es z) same (record { there = there; held = y })
      | inr n ↦ absurd (none-some b (ap (λ (t : Bool). cond t (Some x) None) (sym n) ∙ g))
    ]
    go (x, Some c) there g = absurd (none-some b g)

free-along : (view : Pages) → IsAlong (λ (b : ℕ). b) (freed_of view)
free-along view e b g = let f = free-from view (e ∷ []) b (record { entry = e; there = cons-here e [] e refl; gives = g }) in alone e (b, None) f.there

-- ---- the difference

-- what a map finds, and its entries
found-there : (m : BTreeMap ℕ (Option Change)) (b : ℕ) (o : Option Change) → IsOrdered nat_cmp m → Contains m.entries (b, o) → get nat_cmp m b ≡ Some o
found-there m b o sorted there = (btree_map_get_iff nat_cmp_total exact_unsigned m sorted b o).1 there

there-found : (m : BTreeMap ℕ (Option Change)) (b : ℕ) (o : Option Change) → IsOrdered nat_cmp m → get nat_cmp m b ≡ Some o → Contains m.entries (b, o)
there-found m b o sorted e = (btree_map_get_iff nat_cmp_total exact_unsigned m sorted b o).0 e

record IsPutWith (o : Option (Option Change)) (page : List ℕ) : Type 0 where
  change : Change
  is : o ≡ Some (Some change)
  same : change.content ≡ page

put-with : (o : Option (Option Change)) (page : List ℕ) → page_put o ≡ Some (Some page) → IsPutWith o page
put-with None page e = absurd (cc)
put-with (Some None) page e = absurd (cc)
put-with (Some (Some c)) page e = record { change = c; is = refl; same = (cc) }

put-free : (o : Option (Option Change)) → page_put o ≡ Some None → o ≡ Some None
put-free None e = absurd (cc)
put-free (Some None) e = refl
put-free (Some (Some c)) e = absurd (cc)

-- a view's pages, the entries that were put over them, and what is written
record IsCompared (w : Working) (view : Pages) : Type 0 where
  view_is : (b : ℕ) → view_of w b ≡ view b
  ordered : IsOrdered nat_cmp w.changed

is-written : (w : Working) (view : Pages) (x : Write) → IsCompared w view → IsWriteOf (meta_of w.geometry) view w.changed.entries x → (changed_of w x.block ≡ Some (Some x.content)) × (view_of w x.block ≢ Some (Some x.content))
unfolding changed_of
is-written w view x h f = subst (λ (z : Write). (changed_of w z.block ≡ Some (Some z.content)) × (view_of w z.block ≢ Some (Some z.content))) (sym f.is) (
  ap page_put (found-there w.changed f.block (Some f.change) h.ordered f.there),
  λ e. true≢false (sym (page-same f.change.content) ∙ ap (λ o. has_page o f.change.content) (sym e ∙ h.view_is f.block) ∙ f.new),
)

all-written : (w : Working) (view : Pages) (b : ℕ) (page : List ℕ) → IsCompared w view → changed_of w b ≡ Some (Some page) → view_of w b ≢ Some (Some page) → (x : Write) × Contains (filter_map (write_of (meta_of w.geometry) view) w.changed.entries) x × (x.block ≡ b) × (x.content ≡ page)
unfolding changed_of
all-written w view b page h e new =
    let low = meta_of w.geometry in
    let p = put-with (get nat_cmp w.changed b) page e in
    let none : has_page (view b) p.change.content ≡ false = false_from_ne_true _ (λ t. new (h.view_is b ∙ page-other (view b) p.change.content t ∙ ap (λ (xs : List ℕ). Some (Some xs)) p.same)) in
    let gives : write_of low view (b, Some p.change) ≡ Some (written_as low b p.change) = ap (λ (t : Bool). cond t None (Some (written_as low b p.change))) none in
    (written_as low b p.change, taken-all (write_of low view) w.changed.entries (b, Some p.change) (written_as low b p.change) (there-found w.changed b (Some p.change) h.ordered p.is) gives, refl, p.same)

is-freed : (w : Working) (view : Pages) (b : ℕ) → IsCompared w view → IsFreeOf view w.changed.entries b → (changed_of w b ≡ Some None) × IsHeld (view_of w) b
unfolding changed_of
is-freed w view b h f = (
  ap page_put (found-there w.changed b None h.ordered f.there),
  subst (λ o. o ≡ Some (Some (content o))) (sym (h.view_is b)) (content-held (view b) f.held),
)

all-freed : (w : Working) (view : Pages) (b : ℕ) → IsCompared w view → changed_of w b ≡ Some None → IsHeld (view_of w) b → Contains (filter_map (freed_of view) w.changed.entries) b
unfolding changed_of
all-freed w view b h e held =
    let there = there-found w.changed b None h.ordered (put-free (get nat_cmp w.changed b) e) in
    let some : has_content (view b) ≡ true = ap has_content (sym (h.view_is b) ∙ held) in
    let gives : freed_of view (b, None) ≡ Some b = ap (λ (t : Bool). cond t (Some b) None) some in
    taken-all (freed_of view) w.changed.entries (b, None) b there gives

pub differs : (w : Working) (view : Pages) (writes : List Write) (frees : List ℕ) → ((b : ℕ) → view_of w b ≡ view b) → IsOrdered nat_cmp w.changed → writes ≡ filter_map (write_of (meta_of w.geometry) view) w.changed.entries → frees ≡ filter_map (freed_of view) w.changed.entries
    → Differs (view_of w) (changed_of w) writes frees
differs w view writes frees same sorted written freed =
    let low = meta_of w.geometry in
    let es = w.changed.entries in
    let h : IsCompared w view = record { view_is = same; ordered = sorted } in
    record {
      writes_rise = subst (λ xs. AllPairs (λ x y. x.block < y.block) xs) (sym written) (taken-rises (λ (x : Write). x.block) (write_of low view) es (write-along low view) sorted);
      written = λ x c. is-written w view x h (write-from low view es x (taken-from (write_of low view) es x (subst (λ xs. Contains xs x) written c)));
      writes_all = λ b page e new. let r = all-written w view b page h e new in (r.0, subst (λ xs. Contains xs r.0) (sym written) r.1, r.2, r.3);
      frees_rise = subst (λ xs. AllPairs (λ x y. x < y) xs) (sym freed) (taken-rises (λ (b : ℕ). b) (freed_of view) es (free-along view) sorted);
      freed = λ b c. is-freed w view b h (free-from view es b (taken-from (freed_of view) es b (subst (λ xs. Contains xs b) freed c)));
      frees_all = λ b e held. subst (λ xs. Contains xs b) (sym freed) (all-freed w view b h e held);
    }

-- ---- kinds

has-kind : (w : Working) (view : Pages) (x : Write) → IsOrdered nat_cmp w.changed → IsWriteOf (meta_of w.geometry) view w.changed.entries x → HasKind w x
unfolding kinds_of
has-kind w view x sorted f =
    let c = f.change in
    let low = meta_of w.geometry in
    subst (λ (z : Write). HasKind w z) (sym f.is) (record {
      low = λ l. ap (λ (t : Bool). cond t Meta c.kind) (lt-ltb f.block low l);
      high = λ l. ap kind_put (found-there w.changed f.block (Some c) sorted f.there) ∙ ap (λ (t : Bool). Some (cond t Meta c.kind)) (sym (le-ltb f.block low l));
    })

pub have-kinds : (w : Working) (view : Pages) (writes : List Write) → IsOrdered nat_cmp w.changed → writes ≡ filter_map (write_of (meta_of w.geometry) view) w.changed.entries → All (HasKind w) writes
have-kinds w view writes sorted written = subst (λ xs. All (HasKind w) xs) (sym written) (λ k d l.
    let out = write_of (meta_of w.geometry) view in
    let es = w.changed.entries in
    let x = get_or (filter_map out es) k d in
    has-kind w view x sorted (write-from (meta_of w.geometry) view es x (taken-from out es x (k, l, get_or_default (filter_map out es) k x d l))))
