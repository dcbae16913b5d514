-- Records with one put or removed.
use Rattle.std.proofs.Common.{◌≡◌, inl, inr, ℕ, Bool, true, false, cond, List, [], ◌∷◌, ◌++◌, refl, sym, ap, subst, ◌∙◌}
use Rattle.std.specs.Prelude.{Option, Some, None}
use Rattle.std.specs.Str.{bytes_eq}
use Rattle.std.specs.declared.cmp.Ordering.{Ordering}
use Rattle.std.specs.declared.cmp.Ordering.TheVariants.{Less, Equal, Greater}
use Rattle.std.proofs.lemmas.Cmp.{nat_list_cmp_total, tied_itself}
use Rattle.mq_kv_buckets.specs.Keys.{is_above, is_below}
use Rattle.mq_kv_buckets.specs.Records.{AreRising, IsRecord, Record, above, below, lookup, put_in, without}
use Rattle.mq_kv_buckets.proofs.KeysOrder.{above-drops, above-passes, all-behind, below-drops, below-less, below-passes, below-trans, cmp, equal-same, greater-less, greater-of, here, less-below, lookup-append, lookup-here, lookup-on, split}

-- ---- rising

pub rising-lower : (a b : List ℕ) (rs : List Record) → is_below a b ≡ true → AreRising b rs → AreRising a rs
rising-lower a b [] low rise = tt
rising-lower a b (r ∷ rs) low rise = (rise.0, below-trans a b r.key low rise.1, rise.2)

pub rising-put : (key value last : List ℕ) (rs : List Record) → IsRecord (record { key = key; value = value }) → is_below last key ≡ true → AreRising last rs → AreRising last (put_in key value rs)
rising-put key value last [] good low rise = (good, low, tt)
rising-put key value last (r ∷ rs) good low rise = by (cmp r.key key) refl (λ less. rising-put key value r.key rs good less rise.2)
  where
    by : (o : Ordering) → cmp r.key key ≡ o → (is_below r.key key ≡ true → AreRising r.key (put_in key value rs)) → AreRising last (put_in key value (r ∷ rs))
    by Less e ih = rw (below-passes key r rs e, above-drops key r rs Less e refl) (rise.0, rise.1, ih (less-below r.key key e))
    by Equal e ih =
        let same : r.key ≡ key = equal-same r.key key e in
        let b = all-behind key r.key rs rise.2 (inr (sym same)) in
        let P : List ℕ → Type 0 = λ k. AreRising k rs in
        rw (below-drops key r rs Equal e refl, b.below_none, above-drops key r rs Equal e refl, b.above_all) (good, low, subst P same rise.2)
    by Greater e ih =
        let less : cmp key r.key ≡ Less = greater-less r.key key e in
        let b = all-behind key r.key rs rise.2 (inl less) in
        rw (below-drops key r rs Greater e refl, b.below_none, above-passes key r rs e, b.above_all) (good, low, (rise.0, less-below key r.key less, rise.2))

pub rising-without : (key last : List ℕ) (rs : List Record) → AreRising last rs → AreRising last (without key rs)
rising-without key last [] rise = tt
rising-without key last (r ∷ rs) rise = by (cmp r.key key) refl (rising-without key r.key rs rise.2)
  where
    by : (o : Ordering) → cmp r.key key ≡ o → AreRising r.key (without key rs) → AreRising last (without key (r ∷ rs))
    by Less e ih = rw (below-passes key r rs e, above-drops key r rs Less e refl) (rise.0, rise.1, ih)
    by Equal e ih =
        let same : r.key ≡ key = equal-same r.key key e in
        let b = all-behind key r.key rs rise.2 (inr (sym same)) in
        rw (below-drops key r rs Equal e refl, b.below_none, above-drops key r rs Equal e refl, b.above_all) (rising-lower last r.key rs rise.1 rise.2)
    by Greater e ih =
        let less : cmp key r.key ≡ Less = greater-less r.key key e in
        let b = all-behind key r.key rs rise.2 (inl less) in
        rw (below-drops key r rs Greater e refl, b.below_none, above-passes key r rs e, b.above_all) rise

-- ---- what is found

none-below : (key : List ℕ) (rs : List Record) → lookup (below key rs) key ≡ None
none-below key [] = refl
none-below key (r ∷ rs) = by (is_below r.key key) refl (none-below key rs)
  where
    by : (t : Bool) → is_below r.key key ≡ t → lookup (below key rs) key ≡ None → lookup (cond t (r ∷ below key rs) (below key rs)) key ≡ None
    by true e ih = lookup-on key r (below key rs) Less (below-less r.key key e) refl ∙ ih
    by false e ih = ih

none-above : (key : List ℕ) (rs : List Record) → lookup (above key rs) key ≡ None
none-above key [] = refl
none-above key (r ∷ rs) = by (is_above r.key key) refl (none-above key rs)
  where
    by : (t : Bool) → is_above r.key key ≡ t → lookup (above key rs) key ≡ None → lookup (cond t (r ∷ above key rs) (above key rs)) key ≡ None
    by true e ih = lookup-on key r (above key rs) Greater (greater-of (cmp r.key key) e) refl ∙ ih
    by false e ih = ih

pub found-put : (key value : List ℕ) (rs : List Record) → lookup (put_in key value rs) key ≡ Some value
found-put key value rs =
    lookup-append key (below key rs) (record { key = key; value = value } ∷ above key rs) (none-below key rs)
    ∙ lookup-here key (record { key = key; value = value }) (above key rs) (tied_itself nat_list_cmp_total key)

pub gone-without : (key : List ℕ) (rs : List Record) → lookup (without key rs) key ≡ None
gone-without key rs = lookup-append key (below key rs) (above key rs) (none-below key rs) ∙ none-above key rs

skip : (rs ss : List Record) (r : Record) (other : List ℕ) → bytes_eq r.key other ≡ false → lookup (rs ++ r ∷ ss) other ≡ lookup (rs ++ ss) other
skip [] ss r other e = ap (λ (t : Bool). cond t (Some r.value) (lookup ss other)) e
skip (s ∷ rs) ss r other e = ap (λ (o : Option (List ℕ)). cond (bytes_eq s.key other) (Some s.value) o) (skip rs ss r other e)

other-around : (key last other : List ℕ) (rs : List Record) → AreRising last rs → bytes_eq key other ≡ false → lookup rs other ≡ lookup (below key rs ++ above key rs) other
other-around key last other rs rise e = ap (λ (xs : List Record). lookup xs other) (split key last rs rise) ∙ by (lookup rs key)
  where
    by : (o : Option (List ℕ)) → lookup (below key rs ++ (here key o ++ above key rs)) other ≡ lookup (below key rs ++ above key rs) other
    by None = refl
    by (Some value) = skip (below key rs) (above key rs) (record { key = key; value = value }) other e

pub other-put : (key value last other : List ℕ) (rs : List Record) → AreRising last rs → bytes_eq key other ≡ false → lookup (put_in key value rs) other ≡ lookup rs other
other-put key value last other rs rise e =
    skip (below key rs) (above key rs) (record { key = key; value = value }) other e ∙ sym (other-around key last other rs rise e)

pub other-without : (key last other : List ℕ) (rs : List Record) → AreRising last rs → bytes_eq key other ≡ false → lookup (without key rs) other ≡ lookup rs other
other-without key last other rs rise e = sym (other-around key last other rs rise e)
