-- Each readable image has a greatest number that it shows.
use Rattle.std.proofs.Common.{◌≡◌, ◌∙◌, ℕ, zero, suc, ◌+◌, ◌-◌, ◌<◌, ◌≤◌, ◌%◌, List, [], ◌∷◌, ◌++◌, inl, inr, refl, sym, ap, subst, arith}
use Rattle.std.specs.Prelude.{Option, Some, None}
use Rattle.std.specs.List.{Contains}
use Rattle.std.proofs.lemmas.Bool.{cases_eq, cases_lt}
use Rattle.mq_blocks.specs.Descriptor.{Descriptor}
use Rattle.mq_blocks.specs.Limits.{depth}
use Rattle.mq_blocks.specs.Journal.{AreWhole, Has, IsTop, WriteFields, ShowsNumber, Shown}
use Rattle.mq_blocks.specs.declared.geometry.Geometry.{Geometry}
use Rattle.mq_state_laws.proofs.Members.{cons-cases, here, in-either, in-left, in-right, none-in, there}

-- the greatest of a list that has a first one
record Greatest (xs : List ℕ) : Type 0 where
  top : ℕ
  there : Contains xs top
  most : (n : ℕ) → Contains xs n → n ≤ top

greatest : (x : ℕ) (xs : List ℕ) → Greatest (x ∷ xs)
greatest x [] = record { top = x; there = here x []; most = λ n c. elim (cons-cases n x [] c) [ inl e ↦ omega arith | inr c ↦ absurd (none-in n c) ] }
greatest x (y ∷ ys) =
    let rest = greatest y ys in
    elim (cases_lt rest.top x) [
      | inl lt ↦ record { top = x; there = here x (y ∷ ys); most = λ n c. elim (cons-cases n x (y ∷ ys) c) [ inl e ↦ omega arith | inr c ↦ (let le = rest.most n c in omega arith) ] }
      | inr ge ↦ record { top = rest.top; there = there rest.top x (y ∷ ys) rest.there; most = λ n c. elim (cons-cases n x (y ∷ ys) c) [ inl e ↦ omega arith | inr c ↦ rest.most n c ] }
    ]

module _ (i : Shown) (chains : ℕ → List Descriptor) where
  -- ---- the numbers of a queue

  abbrev numbers-in : List Descriptor → List ℕ
  numbers-in [] = []
  numbers-in (d ∷ ds) = d.number ∷ numbers-in ds

  chained : (ds : List Descriptor) (d : Descriptor) → Has ds d → Contains (numbers-in ds) d.number
  chained [] d has = absurd has
  chained (e ∷ ds) d (inl same) = (0, omega arith, ap (λ (x : Descriptor). x.number) same)
  chained (e ∷ ds) d (inr deeper) = there d.number e.number (numbers-in ds) (chained ds d deeper)

  chained-back : (ds : List Descriptor) (n : ℕ) → Contains (numbers-in ds) n → (d : Descriptor) × Has ds d × (d.number ≡ n)
  chained-back [] n c = absurd (none-in n c)
  chained-back (e ∷ ds) n c = elim (cons-cases n e.number (numbers-in ds) c) [
    | inl same ↦ (e, inl refl, same)
    | inr c ↦ (let r = chained-back ds n c in (r.0, inr r.1, r.2))
  ]

  abbrev said : Option WriteFields → List ℕ
  said None = []
  said (Some s) = s.0 ∷ []

  -- those of `many` entries of a queue, from a count on
  abbrev rung : (q from many : ℕ) → List ℕ
  rung q from zero = []
  rung q from (suc n) = said (i.entry q (from % depth)) ++ rung q (suc from) n

  said-in : (o : Option WriteFields) (s : WriteFields) → o ≡ Some s → Contains (said o) s.0
  said-in None s e = absurd (cc)
  said-in (Some t) s e = let same : t.0 ≡ s.0 = cc in (0, omega arith, same)

  said-back : (o : Option WriteFields) (n : ℕ) → Contains (said o) n → (s : WriteFields) × (o ≡ Some s) × (s.0 ≡ n)
  said-back None n c = absurd (none-in n c)
  said-back (Some s) n c = elim (cons-cases n s.0 [] c) [ inl e ↦ (s, refl, e) | inr c ↦ absurd (none-in n c) ]

  rung-in : (q from many c : ℕ) (s : WriteFields) → from ≤ c → c < from + many → i.entry q (c % depth) ≡ Some s → Contains (rung q from many) s.0
  rung-in q from zero c s low high is = absurd (omega arith)
  rung-in q from (suc n) c s low high is = elim (cases_eq from c) [
    | inl same ↦ in-left (said (i.entry q (from % depth))) (rung q (suc from) n) s.0 (said-in (i.entry q (from % depth)) s (ap (λ (x : ℕ). i.entry q (x % depth)) same ∙ is))
    | inr other ↦ in-right (said (i.entry q (from % depth))) (rung q (suc from) n) s.0 (rung-in q (suc from) n c s (omega arith) (omega arith) is)
  ]

  abbrev Rung : ℕ → ℕ → ℕ → ℕ → Type 0
  Rung q from many n = (c : ℕ) × (s : WriteFields) × (from ≤ c) × (c < from + many) × (i.entry q (c % depth) ≡ Some s) × (s.0 ≡ n)

  rung-back : (q from many n : ℕ) → Contains (rung q from many) n → Rung q from many n
  rung-back q from zero n c = absurd (none-in n c)
  rung-back q from (suc m) n c = elim (in-either (said (i.entry q (from % depth))) (rung q (suc from) m) n c) [
    | inl a ↦ (let r = said-back (i.entry q (from % depth)) n a in (from, r.0, omega arith, omega arith, r.1, r.2))
    | inr b ↦ (let r = rung-back q (suc from) m n b in let low = r.2 in let high = r.3 in (r.0, r.1, omega arith, omega arith, r.4, r.5))
  ]

  -- ---- the numbers of all queues

  abbrev of-queue : ℕ → List ℕ
  of-queue q = numbers-in (chains q) ++ rung q (i.head q) (i.doorbell q - i.head q)

  abbrev of-queues : ℕ → List ℕ
  of-queues zero = []
  of-queues (suc q) = of-queue q ++ of-queues q

  in-queues : (queues q n : ℕ) → q < queues → Contains (of-queue q) n → Contains (of-queues queues) n
  in-queues zero q n lt c = absurd (omega arith)
  in-queues (suc k) q n lt c = elim (cases_eq k q) [
    | inl same ↦ in-left (of-queue k) (of-queues k) n (subst (λ (x : ℕ). Contains (of-queue x) n) (sym same) c)
    | inr other ↦ in-right (of-queue k) (of-queues k) n (in-queues k q n (omega arith) c)
  ]

  queues-back : (queues n : ℕ) → Contains (of-queues queues) n → (q : ℕ) × (q < queues) × Contains (of-queue q) n
  queues-back zero n c = absurd (none-in n c)
  queues-back (suc k) n c = elim (in-either (of-queue k) (of-queues k) n c) [
    | inl a ↦ (k, (omega arith), a)
    | inr b ↦ (let r = queues-back k n b in let lt = r.1 in (r.0, (omega arith), r.2))
  ]

  all-in : (g : Geometry) (n : ℕ) → ShowsNumber g i chains n → Contains (i.base ∷ of-queues g.queues) n
  all-in g n shows = elim shows.where_from [
    | inl base ↦ (0, omega arith, sym base)
    | inr (inl (q, d, own, has, number)) ↦
        there n i.base (of-queues g.queues) (in-queues g.queues q n own
        (in-left (numbers-in (chains q)) (rung q (i.head q) (i.doorbell q - i.head q)) n (subst (λ (x : ℕ). Contains (numbers-in (chains q)) x) number (chained (chains q) d has))))
    | inr (inr (q, c, s, own, low, high, is, number)) ↦
        there n i.base (of-queues g.queues) (in-queues g.queues q n own
        (in-right (numbers-in (chains q)) (rung q (i.head q) (i.doorbell q - i.head q)) n
        (subst (λ (x : ℕ). Contains (rung q (i.head q) (i.doorbell q - i.head q)) x) number (rung-in q (i.head q) (i.doorbell q - i.head q) c s low (omega arith) is))))
  ]

  all-back : (g : Geometry) (n : ℕ) → Contains (i.base ∷ of-queues g.queues) n → ShowsNumber g i chains n
  all-back g n c = elim (cons-cases n i.base (of-queues g.queues) c) [
    | inl base ↦ record { where_from = inl (sym base) }
    | inr c ↦ (
        let r = queues-back g.queues n c in
        elim (in-either (numbers-in (chains r.0)) (rung r.0 (i.head r.0) (i.doorbell r.0 - i.head r.0)) n r.2) [
          | inl a ↦ (let d = chained-back (chains r.0) n a in record { where_from = inr (inl (r.0, d.0, r.1, d.1, d.2)) })
          | inr b ↦ (
              let x = rung-back r.0 (i.head r.0) (i.doorbell r.0 - i.head r.0) n b in
              let low = x.2 in
              let high = x.3 in
              record { where_from = inr (inr (r.0, x.0, x.1, r.1, low, omega arith, x.4, x.5)) })
        ])
  ]

  pub top-of : (g : Geometry) → AreWhole g i chains → (top : ℕ) × IsTop g i chains top
  top-of g whole =
      let most = greatest i.base (of-queues g.queues) in
      (most.top, record { whole = whole; shown = all-back g most.top most.there; greatest = λ n shows. most.most n (all-in g n shows) })
