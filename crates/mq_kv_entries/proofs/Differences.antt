-- What is written, entry by entry of the buckets that were put.
use Rattle.std.proofs.Common.{get_or, ◌≡◌, ◌≢◌, ℕ, zero, suc, ◌<◌, ◌⊎◌, inl, inr, List, [], ◌∷◌, ◌++◌, Bool, false, cond, refl, sym, ap, subst, ◌∙◌, arith}
use Rattle.std.specs.Prelude.{Option, Some, None, if◌then◌else◌}
use Rattle.std.specs.BTreeMap.{BTreeMap, IsOrdered, get}
use Rattle.std.specs.List.{All, AllPairs, Contains, cons_option, filter_map}
use Rattle.std.specs.List.Sorted.{IsStrictlySortedBy}
use Rattle.std.specs.Map.{keys_of}
use Rattle.std.specs.Ordering.{nat_cmp}
use Rattle.std.specs.Str.{bytes_eq}
use Rattle.std.specs.Cmp.{nat_cmp_total}
use Rattle.std.proofs.lemmas.Bool.{cases_Bool, false_from_ne_true, true≢false}
use Rattle.std.proofs.lemmas.List.{append-nil, get_or-map, get_or_default, length-map}
use Rattle.std.proofs.lemmas.List.Kept.{AllPairs-cons}
use Rattle.std.proofs.lemmas.Option.{none-some, same_Some}
use Rattle.std.proofs.lemmas.Map.Keys.{below_from_sorted, sorted_tail}
use Rattle.std.proofs.lemmas.Map.Lookups.{exact_unsigned}
use Rattle.std.proofs.lemmas.Map.Views.{btree_map_get_iff}
use Rattle.std.proofs.lemmas.Slice.Eq.{bytes_eq-Decides}
use Rattle.mq_blocks.specs.Blocks.{content}
use Rattle.mq_blocks.specs.Machine.{Map, or_kept}
use Rattle.mq_kv_entries.specs.Groups.{IsDifference}
use Rattle.mq_kv_entries.specs.Working.{changed_of, now, was}
use Rattle.mq_kv_entries.specs.declared.working.Working.{Working}
use Rattle.mq_sessions.proofs.Members.{cons-here, cons-there}
use Rattle.mq_pages.specs.declared.page.Kind.TheVariants.{Meta}
use Rattle.mq_pages.specs.declared.page.Write.{Write}

abbrev pub Put : Type 0
Put = ℕ × List ℕ

-- a bucket that was put, as it is written
abbrev pub written_as : ℕ → List ℕ → Write
written_as b bytes = record { block = b; kind = Meta; content = bytes }

abbrev pub write_of : Map → Put → Option Write
write_of old (b, bytes) = if bytes_eq (content (old b)) bytes then None else Some (written_as b bytes)

-- ---- what is taken of each entry, at most one write

record IsFrom (old : Map) (es : List Put) (x : Write) : Type 0 where
  entry : Put
  there : Contains es entry
  gives : write_of old entry ≡ Some x

taken-from : (old : Map) (es : List Put) (x : Write) → Contains (filter_map (write_of old) es) x → IsFrom old es x
taken-from old [] x (k, l, h) = absurd (omega arith)
taken-from old (e ∷ es) x c = at (taken-from old es x) (write_of old e) refl c
  where
    later : IsFrom old es x → IsFrom old (e ∷ es) x
    later f = record { entry = f.entry; there = cons-there e es f.entry f.there; gives = f.gives }

    at : (Contains (filter_map (write_of old) es) x → IsFrom old es x) → (o : Option Write) → write_of old e ≡ o → Contains (cons_option o (filter_map (write_of old) es)) x → IsFrom old (e ∷ es) x
    at rest None is c = later (rest c)
    at rest (Some y) is (zero, l, h) = record { entry = e; there = cons-here e es e refl; gives = is ∙ ap (λ (z : Write). Some z) h }
    at rest (Some y) is (suc k, l, h) = later (rest (k, (omega arith), h))

taken-all : (old : Map) (es : List Put) (e : Put) (x : Write) → Contains es e → write_of old e ≡ Some x → Contains (filter_map (write_of old) es) x
taken-all old [] e x (k, l, h) is = absurd (omega arith)
taken-all old (f ∷ es) e x (zero, l, h) is = subst (λ (o : Option Write). Contains (cons_option o (filter_map (write_of old) es)) x) (sym (ap (write_of old) h ∙ is)) (cons-here x (filter_map (write_of old) es) x refl)
taken-all old (f ∷ es) e x (suc k, l, h) is = behind (write_of old f) (taken-all old es e x (k, (omega arith), h) is)
  where
    behind : (o : Option Write) → Contains (filter_map (write_of old) es) x → Contains (cons_option o (filter_map (write_of old) es)) x
    behind None c = c
    behind (Some y) c = cons-there y (filter_map (write_of old) es) x c

-- where no entry is left, all was taken
pub taken-end : (old : Map) (xs : List Write) (rest es : List Put) → xs ++ filter_map (write_of old) rest ≡ filter_map (write_of old) es → rest ≡ [] → xs ≡ filter_map (write_of old) es
taken-end old xs rest es e none = sym (append-nil xs) ∙ ap (λ (ys : List Put). xs ++ filter_map (write_of old) ys) (sym none) ∙ e

-- ---- an entry that is written

record IsWriteOf (old : Map) (b : ℕ) (bytes : List ℕ) (x : Write) : Type 0 where
  new : bytes_eq (content (old b)) bytes ≡ false
  is : x ≡ written_as b bytes

write-is : (old : Map) (b : ℕ) (bytes : List ℕ) (x : Write) → write_of old (b, bytes) ≡ Some x → IsWriteOf old b bytes x
write-is old b bytes x g = elim (cases_Bool (bytes_eq (content (old b)) bytes)) [
  | inl y ↦ absurd (none-some x (ap (λ (t : Bool). cond t None (Some (written_as b bytes))) (sym y) ∙ g))
  | inr n ↦ record { new = n; is = sym (same_Some (written_as b bytes) x (ap (λ (t : Bool). cond t None (Some (written_as b bytes))) (sym n) ∙ g)) }
]

write-at : (old : Map) (e : Put) (x : Write) → write_of old e ≡ Some x → x.block ≡ e.0
write-at old (b, bytes) x g = ap (λ (z : Write). z.block) (write-is old b bytes x g).is

-- ---- in rising order

-- a key is below those behind it
key-above : (e f : Put) (es : List Put) → IsStrictlySortedBy nat_cmp (keys_of (e ∷ es)) → Contains es f → e.0 < f.0
key-above e f es sorted (k, l, h) =
    let m = length-map es (λ (p : Put). p.0) in
    let at : get_or (keys_of (e ∷ es)) (suc k) 0 ≡ f.0 = get_or-map (λ (p : Put). p.0) es k f 0 l ∙ ap (λ (p : Put). p.0) h in
    subst (λ (n : ℕ). e.0 < n) at (below_from_sorted (keys_of (e ∷ es)) 0 (suc k) 0 sorted (omega arith) (omega arith))

taken-above : (old : Map) (e : Put) (es : List Put) (y : Write) → IsStrictlySortedBy nat_cmp (keys_of (e ∷ es)) → write_of old e ≡ Some y → All (λ x. y.block < x.block) (filter_map (write_of old) es)
taken-above old e es y sorted is k d l =
    let x = get_or (filter_map (write_of old) es) k d in
    let f = taken-from old es x (k, l, get_or_default (filter_map (write_of old) es) k x d l) in
    let above = key-above e f.entry es sorted f.there in
    let low = write-at old e y is in
    let high = write-at old f.entry x f.gives in
    omega arith

taken-rises : (old : Map) (es : List Put) → IsStrictlySortedBy nat_cmp (keys_of es) → AllPairs (λ x y. x.block < y.block) (filter_map (write_of old) es)
taken-rises old [] sorted = λ i j d l h. absurd (omega arith)
taken-rises old (e ∷ es) sorted = at (write_of old e) refl (taken-rises old es (sorted_tail nat_cmp e.0 (keys_of es) sorted))
  where
    at : (o : Option Write) → write_of old e ≡ o → AllPairs (λ x y. x.block < y.block) (filter_map (write_of old) es) → AllPairs (λ x y. x.block < y.block) (cons_option o (filter_map (write_of old) es))
    at None is rest = rest
    at (Some y) is rest = AllPairs-cons (λ a b. a.block < b.block) y (filter_map (write_of old) es) (taken-above old e es y sorted is) rest

-- ---- the difference

found-there : (m : BTreeMap ℕ (List ℕ)) (b : ℕ) (bytes : List ℕ) → IsOrdered nat_cmp m → Contains m.entries (b, bytes) → get nat_cmp m b ≡ Some bytes
found-there m b bytes sorted there = (btree_map_get_iff nat_cmp_total exact_unsigned m sorted b bytes).1 there

there-found : (m : BTreeMap ℕ (List ℕ)) (b : ℕ) (bytes : List ℕ) → IsOrdered nat_cmp m → get nat_cmp m b ≡ Some bytes → Contains m.entries (b, bytes)
there-found m b bytes sorted e = (btree_map_get_iff nat_cmp_total exact_unsigned m sorted b bytes).0 e

is-written : (w : Working) (x : Write) (b : ℕ) (bytes : List ℕ) → IsOrdered nat_cmp w.changed → Contains w.changed.entries (b, bytes) → IsWriteOf (was w) b bytes x
    → (x.kind ≡ Meta) × (content (now w x.block) ≡ x.content) × (content (was w x.block) ≢ x.content)
unfolding changed_of
is-written w x b bytes sorted there f =
    let found : changed_of w b ≡ Some bytes = found-there w.changed b bytes sorted there in
    let other : content (was w b) ≢ bytes = λ same. true≢false (sym ((bytes_eq-Decides (content (was w b)) bytes).1 same) ∙ f.new) in
    let P : Write → Type 0 = λ z. (z.kind ≡ Meta) × (content (now w z.block) ≡ z.content) × (content (was w z.block) ≢ z.content) in
    subst P (sym f.is) (refl, ap (λ (o : Option (List ℕ)). content (or_kept o (was w b))) found, other)

written : (w : Working) (x : Write) (e : Put) → IsOrdered nat_cmp w.changed → Contains w.changed.entries e → write_of (was w) e ≡ Some x
    → (x.kind ≡ Meta) × (content (now w x.block) ≡ x.content) × (content (was w x.block) ≢ x.content)
written w x (b, bytes) sorted there g = is-written w x b bytes sorted there (write-is (was w) b bytes x g)

changed-cases : (o : Option (List ℕ)) → (o ≡ None) ⊎ ((bytes : List ℕ) × (o ≡ Some bytes))
changed-cases None = inl refl
changed-cases (Some bytes) = inr (bytes, refl)

all-written : (w : Working) (b : ℕ) → IsOrdered nat_cmp w.changed → content (now w b) ≢ content (was w b) → (x : Write) × Contains (filter_map (write_of (was w)) w.changed.entries) x × (x.block ≡ b)
unfolding changed_of
all-written w b sorted other = elim (changed-cases (changed_of w b)) [
  | inl none ↦ absurd (other (ap (λ (o : Option (List ℕ)). content (or_kept o (was w b))) none))
  | inr some ↦
      let new : bytes_eq (content (was w b)) some.0 ≡ false = false_from_ne_true _ (λ t. other (ap (λ (o : Option (List ℕ)). content (or_kept o (was w b))) some.1 ∙ sym ((bytes_eq-Decides (content (was w b)) some.0).0 t))) in
      let gives : write_of (was w) (b, some.0) ≡ Some (written_as b some.0) = ap (λ (t : Bool). cond t None (Some (written_as b some.0))) new in
      (written_as b some.0, taken-all (was w) w.changed.entries (b, some.0) (written_as b some.0) (there-found w.changed b some.0 sorted some.1) gives, refl)
]

pub differs : (w : Working) (writes : List Write) → IsOrdered nat_cmp w.changed → writes ≡ filter_map (write_of (was w)) w.changed.entries → IsDifference (was w) (now w) writes
differs w writes sorted e = record {
  rise = subst (λ xs. AllPairs (λ x y. x.block < y.block) xs) (sym e) (taken-rises (was w) w.changed.entries sorted);
  written = λ x c. (let f = taken-from (was w) w.changed.entries x (subst (λ xs. Contains xs x) e c) in written w x f.entry sorted f.there f.gives);
  all = λ b other. (let r = all-written w b sorted other in (r.0, subst (λ xs. Contains xs r.0) (sym e) r.1, r.2));
}
