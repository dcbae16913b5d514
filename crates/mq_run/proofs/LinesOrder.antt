-- The order of lines is total, and where one is not less than another it does not come before it.
use Rattle.std.proofs.Common.{◌≡◌, ◌⊎◌, ◌<◌, ◌≤◌, ℕ, Bool, true, false, List, refl, sym, subst, inl, inr, arith}
use Rattle.std.specs.Prelude.{slice_index_or}
use Rattle.std.specs.Cmp.{IsTotalOrder}
use Rattle.std.specs.List.{AllPairs}
use Rattle.std.specs.List.Sorted.{IsSortedBy}
use Rattle.std.specs.Ordering.{MatchOrdering, bool_cmp, is_lt, nat_cmp, ordering_then}
use Rattle.std.specs.declared.cmp.Ordering.{Ordering}
use Rattle.std.specs.declared.cmp.Ordering.TheVariants.{Equal, Greater, Less}
use Rattle.std.specs.Cmp.{bool_cmp_total}
use Rattle.std.proofs.lemmas.Cmp.{back_total, nat_cmp_total, on_total, ranked, then_total}
use Rattle.std.proofs.lemmas.List.Sorted.{ranks_by, sorted_far}
use Rattle.mq_run.specs.Lines.{IsNotAfter, line_cmp}
use Rattle.mq_report.specs.declared.line.Line.{Line}
use Rattle.mq_tree.proofs.ListTextSorting.{same-number, same-order}

pub line_cmp_total : IsTotalOrder line_cmp
line_cmp_total = then_total (then_total (then_total (on_total (λ l. l.number) nat_cmp_total) (back_total (on_total (λ l. l.commit) bool_cmp_total))) (on_total (λ l. l.session) nat_cmp_total)) (on_total (λ l. l.group) nat_cmp_total)

not_less : (o p : Ordering) → is_lt (ordering_then o p) ≡ false → (o ≡ Greater) ⊎ ((o ≡ Equal) × (is_lt p ≡ false))
not_less Less p h = absurd (cc)
not_less Equal p h = inr (refl, h)
not_less Greater p h = inl refl

then_greater : (o p : Ordering) → ordering_then o p ≡ Greater → (o ≡ Greater) ⊎ ((o ≡ Equal) × (p ≡ Greater))
then_greater Less p h = absurd (cc)
then_greater Equal p h = inr (refl, h)
then_greater Greater p h = inl refl

above : (x y : ℕ) → nat_cmp x y ≡ Greater → y < x
above x y e = subst (λ (o : Ordering). MatchOrdering o (x < y) (x ≡ y) (y < x)) e (ranked x y (nat_cmp x y) refl)

same_flag : (x y : Bool) → bool_cmp x y ≡ Equal → x ≡ y
same_flag false false e = refl
same_flag true true e = refl
same_flag false true e = absurd (cc)
same_flag true false e = absurd (cc)

only_first : (x y : Bool) → bool_cmp x y ≡ Greater → (x ≡ true) × (y ≡ false)
only_first false false e = absurd (cc)
only_first true true e = absurd (cc)
only_first false true e = absurd (cc)
only_first true false e = (refl, refl)

at_most : (x y : ℕ) → is_lt (nat_cmp x y) ≡ false → y ≤ x
at_most x y h =
    let both : (o : Ordering) → MatchOrdering o (x < y) (x ≡ y) (y < x) → is_lt o ≡ false → y ≤ x =
    λ o r q. elim o as (λ (o : Ordering). MatchOrdering o (x < y) (x ≡ y) (y < x) → is_lt o ≡ false → y ≤ x) [ Less ↦ λ r q. absurd (cc) | Equal ↦ λ r q. omega arith | Greater ↦ λ r q. omega arith ] r q
    in both (nat_cmp x y) (ranked x y (nat_cmp x y) refl) h

module _ (l m : Line) where
  first_two : ordering_then (nat_cmp m.number l.number) (bool_cmp l.commit m.commit) ≡ Greater → IsNotAfter l m
  first_two h = elim (then_greater (nat_cmp m.number l.number) (bool_cmp l.commit m.commit) h) [ inl e ↦ inl (above m.number l.number e) | inr e ↦ inr (inl (sym (same-number m.number l.number e.0), (only_first l.commit m.commit e.1).0, (only_first l.commit m.commit e.1).1)) ]

  first_three : ordering_then (ordering_then (nat_cmp m.number l.number) (bool_cmp l.commit m.commit)) (nat_cmp m.session l.session) ≡ Greater → IsNotAfter l m
  first_three h = elim (then_greater (ordering_then (nat_cmp m.number l.number) (bool_cmp l.commit m.commit)) (nat_cmp m.session l.session) h) [ inl e ↦ first_two e | inr e ↦ (let both = same-order (nat_cmp m.number l.number) (bool_cmp l.commit m.commit) e.0 in inr (inr (inl (sym (same-number m.number l.number both.0), same_flag l.commit m.commit both.1, above m.session l.session e.1)))) ]

  pub not_after : is_lt (line_cmp m l) ≡ false → IsNotAfter l m
  not_after h = elim (not_less (ordering_then (ordering_then (nat_cmp m.number l.number) (bool_cmp l.commit m.commit)) (nat_cmp m.session l.session)) (nat_cmp m.group l.group) h) [
    | inl e ↦ first_three e
    | inr e ↦ (
        let most = same-order (ordering_then (nat_cmp m.number l.number) (bool_cmp l.commit m.commit)) (nat_cmp m.session l.session) e.0 in
        let both = same-order (nat_cmp m.number l.number) (bool_cmp l.commit m.commit) most.0 in
        inr (inr (inr (sym (same-number m.number l.number both.0), same_flag l.commit m.commit both.1, sym (same-number m.session l.session most.1), at_most m.group l.group e.1))))
  ]

pub in_order : (lines : List Line) → IsSortedBy (λ x y. is_lt (line_cmp x y)) lines → AllPairs IsNotAfter lines
in_order lines sorted i j d lt within = not_after (slice_index_or lines i d) (slice_index_or lines j d) (sorted_far (λ x y. is_lt (line_cmp x y)) (ranks_by line_cmp_total (λ (l : Line). l)) lines sorted i j d (omega arith) within)
