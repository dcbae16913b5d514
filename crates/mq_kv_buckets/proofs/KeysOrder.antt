-- The order of keys, and the records of lesser and greater ones.
use Rattle.std.proofs.Common.{◌≡◌, ◌⊎◌, inl, inr, ℕ, ◌+◌, Bool, true, false, cond, List, [], ◌∷◌, ◌++◌, refl, sym, ap, ◌∙◌}
use Rattle.std.specs.Prelude.{Option, Some, None}
use Rattle.std.specs.Cmp.Lexicographic.{slice_cmp}
use Rattle.std.specs.FinMap.{nat_cmp-IsAntisymmetric, slice_cmp-IsAntisymmetric}
use Rattle.std.specs.Ordering.{is_eq, is_gt, is_lt, nat_cmp, ordering_reverse}
use Rattle.std.specs.Str.{bytes_eq}
use Rattle.std.specs.declared.cmp.Ordering.{Ordering}
use Rattle.std.specs.declared.cmp.Ordering.TheVariants.{Less, Equal, Greater}
use Rattle.std.proofs.lemmas.Cmp.{nat_list_cmp_total}
use Rattle.std.proofs.lemmas.Map.Text.{is_eq-slice_cmp}
use Rattle.mq_kv_buckets.specs.Keys.{is_below}
use Rattle.mq_kv_buckets.specs.Records.{AreRising, Record, above, below, lookup, size_of_all}
use Rattle.mq_kv_buckets.proofs.RecordsBytes.{size_of_all-append}

abbrev pub cmp : List ℕ → List ℕ → Ordering
cmp a b = slice_cmp nat_cmp a b

less-of : (o : Ordering) → is_lt o ≡ true → o ≡ Less
less-of Less e = refl
less-of Equal e = absurd (cc)
less-of Greater e = absurd (cc)

pub greater-of : (o : Ordering) → is_gt o ≡ true → o ≡ Greater
greater-of Less e = absurd (cc)
greater-of Equal e = absurd (cc)
greater-of Greater e = refl

pub below-less : (a b : List ℕ) → is_below a b ≡ true → cmp a b ≡ Less
below-less a b h = less-of (cmp a b) h

pub less-below : (a b : List ℕ) → cmp a b ≡ Less → is_below a b ≡ true
less-below a b h = ap is_lt h

pub less-greater : (a b : List ℕ) → cmp a b ≡ Less → cmp b a ≡ Greater
less-greater a b h = nat_list_cmp_total.antisymm b a ∙ ap ordering_reverse h

pub greater-less : (a b : List ℕ) → cmp a b ≡ Greater → cmp b a ≡ Less
greater-less a b h = nat_list_cmp_total.antisymm b a ∙ ap ordering_reverse h

pub equal-same : (a b : List ℕ) → cmp a b ≡ Equal → a ≡ b
equal-same a b h = slice_cmp-IsAntisymmetric nat_cmp-IsAntisymmetric a b h

pub below-trans : (a b c : List ℕ) → is_below a b ≡ true → is_below b c ≡ true → is_below a c ≡ true
below-trans a b c h k = less-below a c (nat_list_cmp_total.trans a b c (below-less a b h) (below-less b c k))

-- ---- one record more

pub below-passes : (key : List ℕ) (r : Record) (rs : List Record) → cmp r.key key ≡ Less → below key (r ∷ rs) ≡ r ∷ below key rs
below-passes key r rs h = ap (λ (o : Ordering). cond (is_lt o) (r ∷ below key rs) (below key rs)) h

pub below-drops : (key : List ℕ) (r : Record) (rs : List Record) → (o : Ordering) → cmp r.key key ≡ o → is_lt o ≡ false → below key (r ∷ rs) ≡ below key rs
below-drops key r rs o h f = ap (λ (x : Ordering). cond (is_lt x) (r ∷ below key rs) (below key rs)) h ∙ ap (λ (t : Bool). cond t (r ∷ below key rs) (below key rs)) f

pub above-passes : (key : List ℕ) (r : Record) (rs : List Record) → cmp r.key key ≡ Greater → above key (r ∷ rs) ≡ r ∷ above key rs
above-passes key r rs h = ap (λ (o : Ordering). cond (is_gt o) (r ∷ above key rs) (above key rs)) h

pub above-drops : (key : List ℕ) (r : Record) (rs : List Record) → (o : Ordering) → cmp r.key key ≡ o → is_gt o ≡ false → above key (r ∷ rs) ≡ above key rs
above-drops key r rs o h f = ap (λ (x : Ordering). cond (is_gt x) (r ∷ above key rs) (above key rs)) h ∙ ap (λ (t : Bool). cond t (r ∷ above key rs) (above key rs)) f

pub lookup-here : (key : List ℕ) (r : Record) (rs : List Record) → cmp r.key key ≡ Equal → lookup (r ∷ rs) key ≡ Some r.value
lookup-here key r rs h = ap (λ (t : Bool). cond t (Some r.value) (lookup rs key)) (sym (is_eq-slice_cmp r.key key) ∙ ap is_eq h)

pub lookup-on : (key : List ℕ) (r : Record) (rs : List Record) (o : Ordering) → cmp r.key key ≡ o → is_eq o ≡ false → lookup (r ∷ rs) key ≡ lookup rs key
lookup-on key r rs o h f = ap (λ (t : Bool). cond t (Some r.value) (lookup rs key)) (sym (is_eq-slice_cmp r.key key) ∙ ap is_eq h ∙ f)

-- ---- records behind a key

-- the key is the last one, or before it
abbrev pub IsUpTo : List ℕ → List ℕ → Type 0
IsUpTo key last = (cmp key last ≡ Less) ⊎ (key ≡ last)

pub up-to-next : (key last next : List ℕ) → IsUpTo key last → is_below last next ≡ true → cmp key next ≡ Less
up-to-next key last next (inl less) h = nat_list_cmp_total.trans key last next less (below-less last next h)
up-to-next key last next (inr same) h = ap (λ (k : List ℕ). cmp k next) same ∙ below-less last next h

pub record AreBehind (key : List ℕ) (rs : List Record) : Type 0 where
  pub below_none : below key rs ≡ []
  pub above_all : above key rs ≡ rs
  pub none : lookup rs key ≡ None

pub all-behind : (key last : List ℕ) (rs : List Record) → AreRising last rs → IsUpTo key last → AreBehind key rs
all-behind key last [] rise u = record { below_none = refl; above_all = refl; none = refl }
all-behind key last (r ∷ rs) rise u =
    let less : cmp key r.key ≡ Less = up-to-next key last r.key u rise.1 in
    let greater : cmp r.key key ≡ Greater = less-greater key r.key less in
    let rest = all-behind key r.key rs rise.2 (inl less) in
    record {
      below_none = below-drops key r rs Greater greater refl ∙ rest.below_none;
      above_all = above-passes key r rs greater ∙ ap (λ (xs : List Record). r ∷ xs) rest.above_all;
      none = lookup-on key r rs Greater greater refl ∙ rest.none;
    }

-- ---- the records around a key

-- the record of a key with this value, or none
abbrev pub here : List ℕ → Option (List ℕ) → List Record
here key None = []
here key (Some value) = record { key = key; value = value } ∷ []

pub split : (key last : List ℕ) (rs : List Record) → AreRising last rs → rs ≡ below key rs ++ (here key (lookup rs key) ++ above key rs)
split key last [] rise = refl
split key last (r ∷ rs) rise = by (cmp r.key key) refl (split key r.key rs rise.2)
  where
    by : (o : Ordering) → cmp r.key key ≡ o → rs ≡ below key rs ++ (here key (lookup rs key) ++ above key rs) → r ∷ rs ≡ below key (r ∷ rs) ++ (here key (lookup (r ∷ rs) key) ++ above key (r ∷ rs))
    by Less e ih =
        rw (below-passes key r rs e, lookup-on key r rs Less e refl, above-drops key r rs Less e refl) (ap (λ (xs : List Record). r ∷ xs) ih)
    by Equal e ih =
        let same : r.key ≡ key = equal-same r.key key e in
        let b = all-behind key r.key rs rise.2 (inr (sym same)) in
        let mine : r ≡ record { key = key; value = r.value } = ap (λ (k : List ℕ). record { key = k; value = r.value }) same in
        rw (below-drops key r rs Equal e refl, b.below_none, lookup-here key r rs e, above-drops key r rs Equal e refl, b.above_all) (ap (λ (x : Record). x ∷ rs) mine)
    by Greater e ih =
        let b = all-behind key r.key rs rise.2 (inl (greater-less r.key key e)) in
        rw (below-drops key r rs Greater e refl, b.below_none, lookup-on key r rs Greater e refl, b.none, above-passes key r rs e, b.above_all) refl

-- ---- lists one behind the other

pub below-append : (key : List ℕ) (rs ss : List Record) → below key (rs ++ ss) ≡ below key rs ++ below key ss
below-append key [] ss = refl
below-append key (r ∷ rs) ss = by (is_below r.key key) (below-append key rs ss)
  where
    by : (t : Bool) → below key (rs ++ ss) ≡ below key rs ++ below key ss → cond t (r ∷ below key (rs ++ ss)) (below key (rs ++ ss)) ≡ cond t (r ∷ below key rs) (below key rs) ++ below key ss
    by true ih = ap (λ (xs : List Record). r ∷ xs) ih
    by false ih = ih

pub lookup-append : (key : List ℕ) (rs ss : List Record) → lookup rs key ≡ None → lookup (rs ++ ss) key ≡ lookup ss key
lookup-append key [] ss none = refl
lookup-append key (r ∷ rs) ss none = by (bytes_eq r.key key) (lookup-append key rs ss) none
  where
    by : (t : Bool) → (lookup rs key ≡ None → lookup (rs ++ ss) key ≡ lookup ss key) → cond t (Some r.value) (lookup rs key) ≡ None → cond t (Some r.value) (lookup (rs ++ ss) key) ≡ lookup ss key
    by true ih h = absurd (cc)
    by false ih h = ih h

pub rising-behind : (last : List ℕ) (rs ss : List Record) → AreRising last (rs ++ ss) → (next : List ℕ) × AreRising next ss
rising-behind last [] ss rise = (last, rise)
rising-behind last (r ∷ rs) ss rise = rising-behind r.key rs ss rise.2

-- ---- sizes

pub size-around : (key last : List ℕ) (rs : List Record) → AreRising last rs → size_of_all rs ≡ size_of_all (below key rs) + (size_of_all (here key (lookup rs key)) + size_of_all (above key rs))
size-around key last rs rise =
    ap size_of_all (split key last rs rise)
    ∙ size_of_all-append (below key rs) (here key (lookup rs key) ++ above key rs)
    ∙ ap (λ (n : ℕ). size_of_all (below key rs) + n) (size_of_all-append (here key (lookup rs key)) (above key rs))
