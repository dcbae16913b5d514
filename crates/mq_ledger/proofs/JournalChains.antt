-- Where blocks are those of one descriptor at most, a queue has one chain at most.
use Rattle.std.proofs.Common.{◌≡◌, ℕ, ◌+◌, ◌-◌, ◌*◌, ◌<◌, ◌≤◌, ◌%◌, true, List, [], ◌∷◌, Option, Some, sym, refl, ap, subst, ◌∙◌, inl, inr, arith}
use Rattle.std.proofs.lemmas.Bool.{cases_eq, cases_lt}
use Rattle.mq_blocks.specs.Descriptor.{Descriptor, IsDescriptor, IsReadOnce}
use Rattle.mq_blocks.specs.Geometry.{homes_of, write_limit}
use Rattle.mq_blocks.specs.Journal.{Shown, WriteFields, IsChain, IsQueueChain}
use Rattle.mq_blocks.specs.declared.geometry.Geometry.{Geometry}

pub said-once : (o : Option WriteFields) (a b : WriteFields) → o ≡ Some a → o ≡ Some b → a ≡ b
said-once o a b is there = let both : Some a ≡ Some b = sym is ∙ there in cc

-- a chain from a number at or below the base is empty
pub chain-none : (g : Geometry) (i : Shown) (q number place : ℕ) (ds : List Descriptor) → number ≤ i.base → IsChain g i q number place ds → ds ≡ []
chain-none g i q number place [] low chain = refl
chain-none g i q number place (d ∷ ds) low chain = let above = chain.0 in absurd (omega (arith, above, low))

chain-same : (g : Geometry) (i : Shown) (q number place other : ℕ) (ds es : List Descriptor) → IsReadOnce i.form → place % g.area ≡ other % g.area → IsChain g i q number place ds → IsChain g i q number other es → ds ≡ es
chain-same g i q number place other [] [] read at c e = refl
chain-same g i q number place other [] (e ∷ es) read at c f = let above = f.0 in absurd (omega (arith, above, c))
chain-same g i q number place other (d ∷ ds) [] read at c f = let above = c.0 in absurd (omega (arith, above, f))
chain-same g i q number place other (d ∷ ds) (e ∷ es) read at c f =
    let D : List ℕ → Type 0 = λ x. IsDescriptor i.form (write_limit g) (homes_of g) x (i.area q ((other - 1) % g.area)) e in
    let first : IsDescriptor i.form (write_limit g) (homes_of g) (i.area q (place % g.area)) (i.area q ((other - 1) % g.area)) e = subst D (ap (i.area q) (sym at)) f.1.is in
    let here : other ≡ place =
    sym f.1.place_is ∙ read.placed g (i.area q (place % g.area)) (i.area q ((other - 1) % g.area)) (i.area q ((place - 1) % g.area)) e d first c.1.is ∙ c.1.place_is in
    let Q : ℕ → Type 0 = λ n. IsDescriptor i.form (write_limit g) (homes_of g) (i.area q (place % g.area)) (i.area q ((n - 1) % g.area)) e in
    let one : e ≡ d = read.once g (i.area q (place % g.area)) (i.area q ((place - 1) % g.area)) e d (subst Q here first) c.1.is in
    let P : Descriptor → Type 0 = λ x. IsChain g i q x.prev_number x.prev_place es in
    let more = chain-same g i q d.prev_number d.prev_place d.prev_place ds es read refl c.2 (subst P one f.2) in
    λ k. sym one k ∷ more k

number-same : (g : Geometry) (i : Shown) (q : ℕ) (ds es : List Descriptor) (c : IsQueueChain g i q ds) (e : IsQueueChain g i q es) → 0 < i.head q → (c.number ≡ e.number) × (c.lba ≡ e.lba)
number-same g i q ds es c e some =
    let both : (c.number, c.lba, true) ≡ (e.number, e.lba, true) = said-once _ (c.number, c.lba, true) (e.number, e.lba, true) (c.newest some) (e.newest some) in
    (ap (λ (x : WriteFields). x.0) both, ap (λ (x : WriteFields). x.1) both)

pub queue-chain-once : (g : Geometry) (i : Shown) (q : ℕ) (ds es : List Descriptor) → IsReadOnce i.form → IsQueueChain g i q ds → IsQueueChain g i q es → ds ≡ es
queue-chain-once g i q ds es read c e = elim (cases_eq (i.head q) 0) [
  | inl z ↦
      let a : c.number ≡ 0 = c.none z in
      let b : e.number ≡ 0 = e.none z in
      chain-none g i q c.number c.place ds (omega (arith, a)) c.chain ∙ sym (chain-none g i q e.number e.place es (omega (arith, b)) e.chain)
  | inr n ↦
      let same = number-same g i q ds es c e (omega (arith, n)) in
      elim (cases_lt i.base c.number) [
        | inl above ↦
            let up : i.base < e.number = let x = same.0 in omega (arith, x, above) in
            let x = c.own above in
            let y = e.own up in
            let at : q * g.area + c.place % g.area ≡ q * g.area + e.place % g.area = sym x ∙ same.1 ∙ y in
            chain-same g i q c.number c.place e.place ds es read (omega (arith, at)) c.chain (subst (λ (m : ℕ). IsChain g i q m e.place es) (sym same.0) e.chain)
        | inr low ↦
            let s = same.0 in
            chain-none g i q c.number c.place ds (omega (arith, low)) c.chain ∙ sym (chain-none g i q e.number e.place es (omega (arith, low, s)) e.chain)
      ]
]
