-- The descriptors of the transactions of a set.
use Rattle.std.proofs.Common.{◌≡◌, ◌≢◌, ℕ, ◌+◌, ◌<◌, ◌≤◌, Bool, true, false, List, [], ◌∷◌, length, sym, refl, ap, subst, ◌∙◌, inl, inr, arith}
use Rattle.std.proofs.lemmas.Bool.{cases_lt, cases_eq, cases_Bool, le-leb, lt-leb, eq-eqb, ne_eqb}
use Rattle.mq_blocks.specs.Descriptor.{Descriptor}
use Rattle.mq_blocks.specs.Journal.{Has, is_among}
use Rattle.mq_ledger.specs.History.{of_queue, AreNumbered, IsAt}
use Rattle.mq_ledger.specs.Items.{descriptor_for}
use Rattle.mq_ledger.specs.declared.tx.Tx.{Tx}
use Rattle.mq_ledger.proofs.History.{at_most}
use Rattle.mq_loose_order.specs.Standing.{AreFalling, numbers_of}
use Rattle.mq_loose_order.proofs.Standing.{among_has}
use Rattle.mq_loose.proofs.Cuts.{rows_in}

row-none : (S : ℕ → Bool) (n : ℕ) (t : Tx) (ts : List Tx) → t.number ≤ n → rows_in S n (t ∷ ts) ≡ []
row-none S n t ts l = rw (le-leb _ _ l) refl

row-in : (S : ℕ → Bool) (n : ℕ) (t : Tx) (ts : List Tx) → n < t.number → S t.number ≡ true → rows_in S n (t ∷ ts) ≡ descriptor_for t (of_queue t.queue ts) ∷ rows_in S n ts
row-in S n t ts l m = rw (lt-leb _ _ l, m) refl

row-out : (S : ℕ → Bool) (n : ℕ) (t : Tx) (ts : List Tx) → n < t.number → S t.number ≡ false → rows_in S n (t ∷ ts) ≡ rows_in S n ts
row-out S n t ts l m = rw (lt-leb _ _ l, m) refl

pub record FromRows (S : ℕ → Bool) (n : ℕ) (h : List Tx) (d : Descriptor) : Type 0 where
  pub t : Tx
  pub ts : List Tx
  pub at : IsAt t ts h
  pub above : n < t.number
  pub member : S t.number ≡ true
  pub is : descriptor_for t (of_queue t.queue ts) ≡ d

pub from_rows : (S : ℕ → Bool) (n : ℕ) (h : List Tx) (d : Descriptor) → Has (rows_in S n h) d → FromRows S n h d
from_rows S n [] d has = absurd has
from_rows S n (u ∷ us) d has = elim (cases_lt n u.number) [
  | inr low ↦ absurd (rw (row-none S n u us low) at has)
  | inl past ↦ elim (cases_Bool (S u.number)) [
    | inr out ↦ (let r = from_rows S n us d (rw (row-out S n u us past out) at has) in record { t = r.t; ts = r.ts; at = inr r.at; above = r.above; member = r.member; is = r.is })
    | inl member ↦ (let h = rw (row-in S n u us past member) at has in elim h [
      | inl here ↦ record { t = u; ts = us; at = inl (refl, refl); above = past; member = member; is = here }
      | inr deeper ↦ (let r = from_rows S n us d deeper in record { t = r.t; ts = r.ts; at = inr r.at; above = r.above; member = r.member; is = r.is })
    ])
  ]
]

pub has_rows : (S : ℕ → Bool) (base n : ℕ) (t : Tx) (ts h : List Tx) → AreNumbered base h → IsAt t ts h → n < t.number → S t.number ≡ true → Has (rows_in S n h) (descriptor_for t (of_queue t.queue ts))
has_rows S base n t ts [] k at l m = absurd at
has_rows S base n t ts (u ∷ us) k (inl same) l m =
    let e : u.number ≡ t.number = ap (λ (v : Tx). v.number) same.0 in
    rw (row-in S n u us (omega (arith, e, l)) (subst (λ v. S v ≡ true) (sym e) m)) (inl (λ i. descriptor_for (same.0 i) (of_queue (same.0 i).queue (same.1 i))))
has_rows S base n t ts (u ∷ us) k (inr deeper) l m =
    let most = at_most base t ts us k.1 deeper in
    let past : n < u.number = omega (arith, k.0, most, l) in
    let rest = has_rows S base n t ts us k.1 deeper l m in
    elim (cases_Bool (S u.number)) [
      | inl member ↦ rw (row-in S n u us past member) (inr rest)
      | inr out ↦ rw (row-out S n u us past out) rest
    ]

-- ---- their numbers

pub rows_fall : (S : ℕ → Bool) (base n : ℕ) (h : List Tx) → AreNumbered base h → AreFalling n (rows_in S n h)
rows_fall S base n [] k = tt
rows_fall S base n (t ∷ ts) k = elim (cases_lt n t.number) [
  | inr low ↦ rw (row-none S n t ts low) tt
  | inl past ↦ elim (cases_Bool (S t.number)) [
    | inr out ↦ rw (row-out S n t ts past out) (rows_fall S base n ts k.1)
    | inl member ↦ rw (row-in S n t ts past member) (
      past,
      λ d has. (let r = from_rows S n ts d has in let most = at_most base r.t r.ts ts k.1 r.at in let e : r.t.number ≡ d.number = ap (λ (v : Descriptor). v.number) r.is in omega (arith, e, most, k.0)),
      rows_fall S base n ts k.1,
    )
  ]
]

among_rows : (S : ℕ → Bool) (base low : ℕ) (h : List Tx) (n : ℕ) → AreNumbered base h → base < n → low < n → n ≤ base + length h → is_among n (numbers_of (rows_in S low h)) ≡ S n
among_rows S base low [] n k b l m = absurd (omega arith)
among_rows S base low (t ∷ ts) n k b l m = elim (cases_lt low t.number) [
  | inr under ↦ absurd (omega (arith, under, k.0, m, l))
  | inl past ↦ elim (cases_eq t.number n) [
    | inl same ↦ elim (cases_Bool (S t.number)) [
      | inl member ↦ rw (row-in S low t ts past member) (here same ∙ sym (subst (λ v. S v ≡ true) same member))
      | inr out ↦ rw (row-out S low t ts past out) (none same out)
    ]
    | inr other ↦
        let rest = among_rows S base low ts n k.1 b l (omega (arith, k.0, m, other)) in
        elim (cases_Bool (S t.number)) [
          | inl member ↦ rw (row-in S low t ts past member) (later other ∙ rest)
          | inr out ↦ rw (row-out S low t ts past out) rest
        ]
  ]
]
  where
    here : t.number ≡ n → is_among n (t.number ∷ numbers_of (rows_in S low ts)) ≡ true
    here same = rw (eq-eqb t.number n same) refl

    later : t.number ≢ n → is_among n (t.number ∷ numbers_of (rows_in S low ts)) ≡ is_among n (numbers_of (rows_in S low ts))
    later other = rw (ne_eqb t.number n other) refl

    none : t.number ≡ n → S t.number ≡ false → is_among n (numbers_of (rows_in S low ts)) ≡ S n
    none same out = elim (cases_Bool (is_among n (numbers_of (rows_in S low ts)))) [
      | inr not ↦ not ∙ sym (subst (λ v. S v ≡ false) same out)
      | inl some ↦
          let a = among_has n (rows_in S low ts) some in
          let r = from_rows S low ts a.0 a.1 in
          let most = at_most base r.t r.ts ts k.1 r.at in
          let e : r.t.number ≡ a.0.number = ap (λ (v : Descriptor). v.number) r.is in
          absurd (omega (arith, e, most, a.2, same, k.0))
    ]

-- a number above the least is one of theirs exactly where the set has it, if it has none past the history
pub rows_among : (S : ℕ → Bool) (base low : ℕ) (h : List Tx) (n : ℕ) → AreNumbered base h → base ≤ low → low < n → (S n ≡ true → n ≤ base + length h) → is_among n (numbers_of (rows_in S low h)) ≡ S n
rows_among S base low h n k b l top = elim (cases_lt (base + length h) n) [
  | inr within ↦ among_rows S base low h n k (omega (arith, b, l)) l within
  | inl past ↦ elim (cases_Bool (S n)) [
    | inl member ↦ absurd (let m = top member in omega (arith, m, past))
    | inr out ↦ elim (cases_Bool (is_among n (numbers_of (rows_in S low h)))) [
      | inr not ↦ not ∙ sym out
      | inl some ↦
          let a = among_has n (rows_in S low h) some in
          let r = from_rows S low h a.0 a.1 in
          let most = at_most base r.t r.ts h k r.at in
          let e : r.t.number ≡ a.0.number = ap (λ (v : Descriptor). v.number) r.is in
          absurd (omega (arith, e, most, a.2, past))
    ]
  ]
]
