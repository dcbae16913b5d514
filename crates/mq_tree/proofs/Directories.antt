-- The names of a directory, and the map of them.
use Rattle.std.proofs.Common.{get_or, ◌≡◌, ℕ, zero, suc, ◌+◌, ◌*◌, ◌/◌, ◌<◌, List, [], ◌∷◌, ◌++◌, length, Bool, true, false, cond, refl, sym, ap, subst, ◌∙◌, arith, inl, inr, Vec}
use Rattle.std.specs.Prelude.{Option, Some, None, is_some, not, if◌then◌else◌}
use Rattle.std.specs.Bool.{MatchBool}
use Rattle.std.specs.BTreeMap.{insert_entry}
use Rattle.std.specs.Cmp.Lexicographic.{slice_cmp}
use Rattle.std.specs.Map.{lookup}
use Rattle.std.specs.Ordering.{is_eq, match_ordering, nat_cmp}
use Rattle.std.specs.declared.cmp.Ordering.{Ordering}
use Rattle.std.specs.declared.cmp.Ordering.TheVariants.{Less, Equal, Greater}
use Rattle.std.specs.Str.{bytes_eq}
use Rattle.std.proofs.lemmas.Bool.{cases_Bool, cases_eq, true≢false}
use Rattle.std.proofs.lemmas.Bool.Decides.{same_from_decides, Decides-like}
use Rattle.std.proofs.lemmas.Map.Text.{is_eq-slice_cmp}
use Rattle.std.proofs.lemmas.Slice.Eq.{bytes_eq-Decides}
use Rattle.mq_blocks.specs.declared.geometry.Geometry.{Geometry}
use Rattle.mq_layout.specs.Places.{inodes_of}
use Rattle.mq_layout.specs.Slots.{Entry}
use Rattle.mq_layout.specs.declared.inode.Inode.{Inode}
use Rattle.mq_tree.specs.Clean.{AreOnce, ArePointers, IsTable}
use Rattle.mq_tree.specs.Corrupt.{IsSlotIn, IsTwin}
use Rattle.mq_tree.specs.Decoded.{Stored, body_of, count_of, entry_of, pointer_to, table_of, the_inode, volume_in}
use Rattle.mq_tree.specs.Directories.{Adds, AreSameNames, Has, HasTwin, IsOnce, Leads, OnceBelow, as_slots}
use Rattle.mq_tree.specs.Least.{IsLeastOf}
use Rattle.mq_tree.specs.ListText.{entries_in, insert_entry as insert_in_order}
use Rattle.mq_tree.specs.Volume.{find, slots_of}
use Rattle.mq_tree.proofs.Decoded.{body-dir, table-at}
use Rattle.mq_tree.proofs.DecodedMounting.{table-more}
use Rattle.mq_tree.proofs.DecodedNaming.{none-entry, slot-found, slot-in, slot-is}
use Rattle.mq_tree.proofs.Least.{least-same}
use Rattle.mq_tree.proofs.LeastBelow.{WrongBelow}
use Rattle.mq_tree.proofs.ListTextSorting.{entries-push, entries-skip, insert-swap}

-- ---- names that are the same

pub same-name : (xs ys : List ℕ) → xs ≡ ys → bytes_eq xs ys ≡ true
same-name xs ys e = (bytes_eq-Decides xs ys).1 e

pub name-same : (xs ys : List ℕ) → bytes_eq xs ys ≡ true → xs ≡ ys
name-same xs ys t = (bytes_eq-Decides xs ys).0 t

pub name-flip : (xs ys : List ℕ) → bytes_eq xs ys ≡ bytes_eq ys xs
name-flip xs ys = same_from_decides (bytes_eq xs ys) (bytes_eq ys xs) (bytes_eq-Decides xs ys) (Decides-like (bytes_eq ys xs) sym sym (bytes_eq-Decides ys xs))

-- ---- the map

name_cmp : {A : Type 0} → Vec ℕ A → Vec ℕ A → Ordering
name_cmp x y = slice_cmp nat_cmp x.items y.items

pub find-lookup : {A : Type 0} (es : List (Vec ℕ A × ℕ)) (name : List ℕ) → lookup (λ k. is_eq (slice_cmp nat_cmp name k.items)) es ≡ find name (as_slots es)
find-lookup [] name = refl
find-lookup {A} (e ∷ es) name =
    let b : is_eq (slice_cmp nat_cmp name e.0.items) ≡ bytes_eq e.0.items name = is_eq-slice_cmp name e.0.items ∙ name-flip name e.0.items in
    ap (λ (c : Bool). cond c (Some e.1) (lookup (λ (k : Vec ℕ A). is_eq (slice_cmp nat_cmp name k.items)) es)) b ∙ ap (λ (o : Option ℕ). cond (bytes_eq e.0.items name) (Some e.1) o) (find-lookup es name)

pub find-insert : {A : Type 0} (es : List (Vec ℕ A × ℕ)) (k : Vec ℕ A) (v : ℕ) (q : List ℕ) → find q (as_slots (insert_entry (λ x y. slice_cmp nat_cmp x.items y.items) es k v)) ≡ (if bytes_eq k.items q then Some v else find q (as_slots es))
find-insert [] k v q = refl
find-insert {A} (e ∷ es) k v q = by (slice_cmp nat_cmp k.items e.0.items) refl (find-insert es k v q)
  where
    more : List (Vec ℕ A × ℕ)
    more = insert_entry (λ x y. slice_cmp nat_cmp x.items y.items) es k v

    by : (o : Ordering) → slice_cmp nat_cmp k.items e.0.items ≡ o → find q (as_slots more) ≡ (if bytes_eq k.items q then Some v else find q (as_slots es))
        → find q (as_slots (match_ordering o ((k, v) ∷ e ∷ es) ((e.0, v) ∷ es) (e ∷ more))) ≡ (if bytes_eq k.items q then Some v else find q (as_slots (e ∷ es)))
    by Less h rest = refl
    by Equal h rest =
        let same : k.items ≡ e.0.items = name-same k.items e.0.items (sym (is_eq-slice_cmp k.items e.0.items) ∙ ap is_eq h) in
        elim (cases_Bool (bytes_eq e.0.items q)) [
          | inl t ↦ let u : bytes_eq k.items q ≡ true = ap (λ (n : List ℕ). bytes_eq n q) same ∙ t in rw t (rw u refl)
          | inr f ↦ let u : bytes_eq k.items q ≡ false = ap (λ (n : List ℕ). bytes_eq n q) same ∙ f in rw f (rw u refl)
        ]
    by Greater h rest =
        let other : bytes_eq k.items e.0.items ≡ false = sym (is_eq-slice_cmp k.items e.0.items) ∙ ap is_eq h in
        elim (cases_Bool (bytes_eq e.0.items q)) [
          | inl t ↦ elim (cases_Bool (bytes_eq k.items q)) [
            | inl u ↦ absurd (true≢false (sym (same-name k.items e.0.items (name-same k.items q u ∙ sym (name-same e.0.items q t))) ∙ other))
            | inr g ↦ rw t (rw g refl)
          ]
          | inr f ↦ rw f (rw rest refl)
        ]

absent-rest : (e : Entry) (xs : List (Option Entry)) (name : List ℕ) → find name (Some e ∷ xs) ≡ None → (bytes_eq e.name name ≡ false) × (find name xs ≡ None)
absent-rest e xs name h = elim (cases_Bool (bytes_eq e.name name)) [
  | inl t ↦ let g : Some e.inode ≡ None = ap (λ (c : Bool). cond c (Some e.inode) (find name xs)) (sym t) ∙ h in absurd (cc)
  | inr n ↦ (n, ap (λ (c : Bool). cond c (Some e.inode) (find name xs)) (sym n) ∙ h)
]

-- what the map puts in order stands in order among the entries
entries-insert : {A : Type 0} (es : List (Vec ℕ A × ℕ)) (k : Vec ℕ A) (v : ℕ) → find k.items (as_slots es) ≡ None
    → entries_in (as_slots (insert_entry (λ x y. slice_cmp nat_cmp x.items y.items) es k v)) ≡ insert_in_order (record { inode = v; name = k.items }) (entries_in (as_slots es))
entries-insert [] k v absent = refl
entries-insert {A} (e ∷ es) k v absent =
    let first : Entry = record { inode = e.1; name = e.0.items } in
    let r = absent-rest first (as_slots es) k.items absent in
    by (slice_cmp nat_cmp k.items e.0.items) refl r.0 (entries-insert es k v r.1)
  where
    more : List (Vec ℕ A × ℕ)
    more = insert_entry (λ x y. slice_cmp nat_cmp x.items y.items) es k v

    by : (o : Ordering) → slice_cmp nat_cmp k.items e.0.items ≡ o → bytes_eq e.0.items k.items ≡ false → entries_in (as_slots more) ≡ insert_in_order (record { inode = v; name = k.items }) (entries_in (as_slots es))
        → entries_in (as_slots (match_ordering o ((k, v) ∷ e ∷ es) ((e.0, v) ∷ es) (e ∷ more))) ≡ insert_in_order (record { inode = v; name = k.items }) (entries_in (as_slots (e ∷ es)))
    by Less h other rest = refl
    by Equal h other rest = absurd (true≢false (sym (name-flip e.0.items k.items ∙ sym (is_eq-slice_cmp k.items e.0.items) ∙ ap is_eq h) ∙ other))
    by Greater h other rest =
        ap (insert_in_order (record { inode = e.1; name = e.0.items })) rest
        ∙ insert-swap (record { inode = e.1; name = e.0.items }) (record { inode = v; name = k.items }) (entries_in (as_slots es)) (λ same. true≢false (sym (same-name e.0.items k.items same) ∙ other))

pub led : {A : Type 0} (es new : List (Vec ℕ A × ℕ)) (xs : List (Option Entry)) (k : Vec ℕ A) (name : List ℕ) (v : ℕ) → as_slots es ≡ xs → k.items ≡ name → new ≡ insert_entry (λ x y. slice_cmp nat_cmp x.items y.items) es k v → Leads xs (as_slots new) name v
led es new xs k name v e is now = λ q.
    ap (λ (ys : List _). find q (as_slots ys)) now ∙ find-insert es k v q ∙ ap (λ (n : List ℕ). if bytes_eq n q then Some v else find q (as_slots es)) is ∙ ap (λ (ys : List (Option Entry)). if bytes_eq name q then Some v else find q ys) e

pub added : {A : Type 0} (es new : List (Vec ℕ A × ℕ)) (xs : List (Option Entry)) (k : Vec ℕ A) (name : List ℕ) (v : ℕ) (before : Option ℕ) (t : Bool) → as_slots es ≡ xs → k.items ≡ name
    → before ≡ lookup (λ x. is_eq (slice_cmp nat_cmp k.items x.items)) es → new ≡ insert_entry (λ x y. slice_cmp nat_cmp x.items y.items) es k v → is_some before ≡ not t → MatchBool t (Adds xs (as_slots new) name v) (Has xs name)
added es new xs k name v None true e is was now there = record {
  missing = ap (find name) (sym e) ∙ ap (λ (n : List ℕ). find n (as_slots es)) (sym is) ∙ absent;
  finds = led es new xs k name v e is now;
  entries = ap (λ (ys : List _). entries_in (as_slots ys)) now ∙ entries-insert es k v absent ∙ ap (λ (n : List ℕ). insert_in_order (record { inode = v; name = n }) (entries_in (as_slots es))) is ∙ ap (λ (ys : List (Option Entry)). insert_in_order (record { inode = v; name = name }) (entries_in ys)) e;
}
  where
    absent : find k.items (as_slots es) ≡ None
    absent = sym (find-lookup es k.items) ∙ sym was
added es new xs k name v None false e is was now there = absurd (true≢false (sym there))
added es new xs k name v (Some i) true e is was now there = absurd (true≢false there)
added es new xs k name v (Some i) false e is was now there = (i, ap (find name) (sym e) ∙ ap (λ (n : List ℕ). find n (as_slots es)) (sym is) ∙ sym (find-lookup es k.items) ∙ sym was)

-- ---- names in lists of slots

abbrev pub first_found : Option ℕ → Option ℕ → Option ℕ
first_found None o = o
first_found (Some i) o = Some i

find-append : (xs ys : List (Option Entry)) (q : List ℕ) → find q (xs ++ ys) ≡ first_found (find q xs) (find q ys)
find-append [] ys q = refl
find-append (None ∷ xs) ys q = find-append xs ys q
find-append (Some e ∷ xs) ys q = elim (cases_Bool (bytes_eq e.name q)) [
  | inl t ↦ rw t refl
  | inr f ↦ rw f (find-append xs ys q)
]

none-behind : (xs : List (Option Entry)) (f : Entry) (name : List ℕ) (k : ℕ) (e : Entry) → ((j : ℕ) → get_or xs j None ≡ Some e → ⊥) → get_or (Some f ∷ xs) k None ≡ Some e → e.name ≡ name → bytes_eq f.name name ≡ false → ⊥
none-behind xs f name zero e rest there same n = let g : f ≡ e = cc in true≢false (sym (same-name f.name name (ap (λ (x : Entry). x.name) g ∙ same)) ∙ n)
none-behind xs f name (suc k) e rest there same n = rest k there

-- a name that is not found stands in no slot
pub find-none : (xs : List (Option Entry)) (name : List ℕ) (k : ℕ) (e : Entry) → find name xs ≡ None → get_or xs k None ≡ Some e → e.name ≡ name → ⊥
find-none [] name k e h there same = none-entry e there
find-none (None ∷ xs) name zero e h there same = none-entry e there
find-none (None ∷ xs) name (suc k) e h there same = find-none xs name k e h there same
find-none (Some f ∷ xs) name k e h there same = elim (cases_Bool (bytes_eq f.name name)) [
  | inl t ↦ let g : Some f.inode ≡ None = ap (λ (c : Bool). cond c (Some f.inode) (find name xs)) (sym t) ∙ h in absurd (cc)
  | inr n ↦ none-behind xs f name k e (λ j at. find-none xs name j e (ap (λ (c : Bool). cond c (Some f.inode) (find name xs)) (sym n) ∙ h) at same) there same n
]

-- where a name is found
pub record FoundAt (xs : List (Option Entry)) (name : List ℕ) (i : ℕ) : Type 0 where
  pub k : ℕ
  pub e : Entry
  pub inside : k < length xs
  pub there : get_or xs k None ≡ Some e
  pub same : e.name ≡ name
  pub leads : e.inode ≡ i

pub find-some : (xs : List (Option Entry)) (name : List ℕ) (i : ℕ) → find name xs ≡ Some i → FoundAt xs name i
find-some [] name i h = absurd (cc)
find-some (None ∷ xs) name i h = let r = find-some xs name i h in record { k = suc r.k; e = r.e; inside = (let l = r.inside in omega arith); there = r.there; same = r.same; leads = r.leads }
find-some (Some f ∷ xs) name i h = elim (cases_Bool (bytes_eq f.name name)) [
  | inl t ↦
      let g : Some f.inode ≡ Some i = ap (λ (c : Bool). cond c (Some f.inode) (find name xs)) (sym t) ∙ h in
      record { k = zero; e = f; inside = omega arith; there = refl; same = name-same f.name name t; leads = cc }
  | inr n ↦
      let r = find-some xs name i (ap (λ (c : Bool). cond c (Some f.inode) (find name xs)) (sym n) ∙ h) in
      record { k = suc r.k; e = r.e; inside = (let l = r.inside in omega arith); there = r.there; same = r.same; leads = r.leads }
]

-- ---- slot by slot

-- the map of the first slots, in which no name stands twice
pub record Built (at : ℕ → Option Entry) (k : ℕ) (names : List (Option Entry)) : Type 0 where
  pub alike : AreSameNames names (table_of k at)
  pub once : OnceBelow at k

table-push : (at : ℕ → Option Entry) (k : ℕ) → table_of (k + 1) at ≡ table_of k at ++ at k ∷ []
table-push at k = sym (table-more at k (table_of k at) (table_of k at ++ at k ∷ []) (at k) refl refl refl)

pub built-skip : (at : ℕ → Option Entry) (k : ℕ) (names : List (Option Entry)) → Built at k names → at k ≡ None → Built at (k + 1) names
built-skip at k names b h = record { alike = record { finds = finds; entries = entries }; once = once }
  where
    entries : entries_in names ≡ entries_in (table_of (k + 1) at)
    entries = b.alike.entries ∙ sym (ap entries_in (table-push at k) ∙ ap (λ (o : Option Entry). entries_in (table_of k at ++ o ∷ [])) h ∙ entries-skip (table_of k at))

    finds : (q : List ℕ) → find q names ≡ find q (table_of (k + 1) at)
    finds q =
        let p : find q (table_of (k + 1) at) ≡ first_found (find q (table_of k at)) None = ap (find q) (table-push at k) ∙ find-append (table_of k at) (at k ∷ []) q ∙ ap (λ (o : Option Entry). first_found (find q (table_of k at)) (find q (o ∷ []))) h in
        b.alike.finds q ∙ sym (p ∙ none-last (find q (table_of k at)))
      where
        none-last : (o : Option ℕ) → first_found o None ≡ o
        none-last None = refl
        none-last (Some i) = refl

    once : OnceBelow at (k + 1)
    once i j e f low small there here same = elim (cases_eq i k) [
      | inl x ↦ none-entry e (sym h ∙ ap at (sym x) ∙ there)
      | inr n ↦ elim (cases_eq j k) [
        | inl y ↦ none-entry f (sym h ∙ ap at (sym y) ∙ here)
        | inr m ↦ b.once i j e f (omega arith) (omega arith) there here same
      ]
    ]

pub built-add : (at : ℕ → Option Entry) (k : ℕ) (names more : List (Option Entry)) (e : Entry) → Built at k names → at k ≡ Some e → Adds names more e.name e.inode → Built at (k + 1) more
built-add at k names more e b h a = record { alike = record { finds = finds; entries = entries }; once = once }
  where
    absent : find e.name (table_of k at) ≡ None
    absent = sym (b.alike.finds e.name) ∙ a.missing

    entries : entries_in more ≡ entries_in (table_of (k + 1) at)
    entries =
        a.entries ∙ ap (insert_in_order e) b.alike.entries
        ∙ sym (ap entries_in (table-push at k) ∙ ap (λ (o : Option Entry). entries_in (table_of k at ++ o ∷ [])) h ∙ entries-push (table_of k at) e (λ j f here same. find-none (table_of k at) e.name j f absent here same))

    finds : (q : List ℕ) → find q more ≡ find q (table_of (k + 1) at)
    finds q =
        let p : find q (table_of (k + 1) at) ≡ first_found (find q (table_of k at)) (find q (Some e ∷ [])) = ap (find q) (table-push at k) ∙ find-append (table_of k at) (at k ∷ []) q ∙ ap (λ (o : Option Entry). first_found (find q (table_of k at)) (find q (o ∷ []))) h in
        elim (cases_Bool (bytes_eq e.name q)) [
          | inl t ↦
              let none : find q (table_of k at) ≡ None = ap (λ (n : List ℕ). find n (table_of k at)) (sym (name-same e.name q t)) ∙ absent in
              a.finds q ∙ ap (λ (c : Bool). cond c (Some e.inode) (find q names)) t ∙ sym (p ∙ ap (λ (o : Option ℕ). first_found o (find q (Some e ∷ []))) none ∙ ap (λ (c : Bool). cond c (Some e.inode) None) t)
          | inr f ↦
              a.finds q ∙ ap (λ (c : Bool). cond c (Some e.inode) (find q names)) f ∙ b.alike.finds q ∙ sym (p ∙ ap (λ (c : Bool). first_found (find q (table_of k at)) (cond c (Some e.inode) None)) f ∙ none-last (find q (table_of k at)))
        ]
      where
        none-last : (o : Option ℕ) → first_found o None ≡ o
        none-last None = refl
        none-last (Some i) = refl

    new : (j : ℕ) (d f : Entry) → j < k → at k ≡ Some d → at j ≡ Some f → d.name ≡ f.name → ⊥
    new j d f low there here same =
        let g : e ≡ d = (let t = sym h ∙ there in cc) in
        find-none (table_of k at) e.name j f absent (table-at k at j None low ∙ here) (sym same ∙ ap (λ (x : Entry). x.name) (sym g))

    once : OnceBelow at (k + 1)
    once i j d f low small there here same = elim (cases_eq i k) [
      | inl x ↦ elim (cases_eq j k) [
        | inl y ↦ x ∙ sym y
        | inr m ↦ absurd (new j d f (omega arith) (ap at (sym x) ∙ there) here same)
      ]
      | inr n ↦ elim (cases_eq j k) [
        | inl y ↦ absurd (new i f d (omega arith) (ap at (sym y) ∙ here) there (sym same))
        | inr m ↦ b.once i j d f (omega arith) (omega arith) there here same
      ]
    ]

-- ---- what a directory's map says of it

pub alike-all : (s : Stored) (n : Inode) (k : ℕ) (names : List (Option Entry)) → n.kind ≡ 2 → k ≡ 15 * count_of n → Built (entry_of s n) k names → AreSameNames names (slots_of (body_of s n))
alike-all s n k names two e b = subst (λ xs. AreSameNames names xs) (ap (λ (m : ℕ). table_of m (entry_of s n)) e ∙ sym (ap slots_of (body-dir s n two))) b.alike

-- ---- all directories

pub twin-found : (g : Geometry) (s : Stored) (i b : ℕ) → IsTable g s → ArePointers g s → i < inodes_of g → HasTwin s (the_inode g s i) b → IsTwin g s b
twin-found g s i b table pointers low t =
    let first = slot-in g s i t.k t.e table pointers (slot-is g s i t.k t.e (record { low = low; dir = t.dir; inside = t.inside; is = t.first })) in
    record {
      d = i;
      k = t.k;
      l = t.l;
      e = t.e;
      f = t.f;
      other = pointer_to s (the_inode g s i) (t.l / 15);
      first = subst (λ c. IsSlotIn g s i t.k t.e c) (sym t.is) first;
      second = slot-in g s i t.l t.f table pointers (slot-is g s i t.l t.f (record { low = low; dir = t.dir; inside = t.other; is = t.second }));
      same = t.same;
      apart = t.apart;
    }

-- the inode of this number has such a name
abbrev pub TwinAt : Geometry → Stored → (i c : ℕ) → Type 0
TwinAt g s i c = HasTwin s (the_inode g s i) c

pub twin-lost : (g : Geometry) (s : Stored) (b : ℕ) → IsTable g s → IsTwin g s b → WrongBelow (TwinAt g s) (inodes_of g) b
twin-lost g s b table t =
    let p = slot-found g s t.d t.k t.e table t.first.there in
    let q = slot-found g s t.d t.l t.f table t.second.there in
    record {
      j = t.d;
      low = p.low;
      wrong = record { k = t.k; l = t.l; e = t.e; f = t.f; dir = p.dir; inside = p.inside; other = q.inside; first = p.is; second = q.is; same = t.same; apart = t.apart; is = t.first.place.is };
    }

-- what a search over all inodes says of the volume
pub twin-all : (g : Geometry) (s : Stored) (n : ℕ) (r : Option ℕ) → IsTable g s → ArePointers g s → n ≡ inodes_of g → IsLeastOf (WrongBelow (TwinAt g s) n) r → IsLeastOf (IsTwin g s) r
twin-all g s n r table pointers all found =
    least-same (WrongBelow (TwinAt g s) (inodes_of g)) (IsTwin g s) r
    (λ c h. twin-found g s h.j c table pointers h.low h.wrong) (λ c h. twin-lost g s c table h)
    (subst (λ m. IsLeastOf (WrongBelow (TwinAt g s) m) r) all found)

pub once-volume : (g : Geometry) (s : Stored) → IsTable g s → ((i : ℕ) → i < inodes_of g → IsOnce s (the_inode g s i)) → AreOnce (volume_in g s)
once-volume g s table all d k l e f first second same =
    let p = slot-found g s d k e table first in
    let q = slot-found g s d l f table second in
    all d p.low p.dir k l e f p.inside q.inside p.is q.is same
