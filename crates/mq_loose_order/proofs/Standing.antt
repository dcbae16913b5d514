-- Which descriptors of an image stand.
use Rattle.std.proofs.Common.{◌≡◌, ℕ, ◌<◌, ◌≤◌, eqb, leb, Bool, true, false, List, [], ◌∷◌, sym, refl, ap, subst, ◌∙◌, inl, inr, arith}
use Rattle.std.specs.Prelude.{◌⊎◌}
use Rattle.std.proofs.lemmas.Bool.{cases_Bool, cases_lt, le-leb, lt-leb, or_left, or_right, or_cases, leb-true, eqb-true, eq-eqb, false≢true}
use Rattle.mq_blocks.specs.Descriptor.{Descriptor}
use Rattle.mq_blocks.specs.Journal.{Shown, Has, is_among}
use Rattle.mq_blocks.specs.declared.geometry.Geometry.{Geometry}
use Rattle.mq_loose_order.specs.Dependence.{all_in}
use Rattle.mq_loose_order.specs.Standing.{AreAll, AreEarlier, AreFalling, AreInChains, AreMet, AreStanding, in_set, numbers_of, standing}
use Rattle.mq_loose_order.proofs.Closed.{all_at, all_from}

-- ---- numbers of descriptors

pub has_among : (d : Descriptor) (ds : List Descriptor) → Has ds d → is_among d.number (numbers_of ds) ≡ true
has_among d [] has = absurd has
has_among d (e ∷ es) (inl same) = (let n : e.number ≡ d.number = ap (λ (v : Descriptor). v.number) same in rw (eq-eqb e.number d.number n) refl)
has_among d (e ∷ es) (inr deeper) = elim (cases_Bool (eqb e.number d.number)) [
  | inl same ↦ rw same refl
  | inr other ↦ rw other (has_among d es deeper)
]

pub among_has : (n : ℕ) (ds : List Descriptor) → is_among n (numbers_of ds) ≡ true → (d : Descriptor) × Has ds d × (d.number ≡ n)
among_has n [] a = absurd (false≢true a)
among_has n (e ∷ es) a = elim (cases_Bool (eqb e.number n)) [
  | inl same ↦ (e, inl refl, eqb-true _ _ same)
  | inr other ↦ (let r = among_has n es (rw other at a) in (r.0, inr r.1, r.2))
]

pub set_has : (base : ℕ) (d : Descriptor) (ds : List Descriptor) → Has ds d → in_set base ds d.number ≡ true
set_has base d ds has = or_right (leb d.number base) _ (has_among d ds has)

pub set_cases : (base : ℕ) (ds : List Descriptor) (n : ℕ) → in_set base ds n ≡ true → (n ≤ base) ⊎ ((d : Descriptor) × Has ds d × (d.number ≡ n))
set_cases base ds n e = elim (or_cases (leb n base) (is_among n (numbers_of ds)) e) [
  | inl low ↦ inl (leb-true n base low)
  | inr among ↦ inr (among_has n ds among)
]

set_more : (base : ℕ) (d : Descriptor) (ds : List Descriptor) (n : ℕ) → in_set base ds n ≡ true → in_set base (d ∷ ds) n ≡ true
set_more base d ds n e = elim (set_cases base ds n e) [
  | inl low ↦ or_left (leb n base) _ (le-leb n base low)
  | inr r ↦ subst (λ m. in_set base (d ∷ ds) m ≡ true) r.2 (set_has base r.0 (d ∷ ds) (inr r.1))
]

-- ---- those that are found

module _ (deps : ℕ → List ℕ) (base : ℕ) where
  found : List Descriptor → List Descriptor
  found ds = standing deps base ds

  stood : (d : Descriptor) (ds : List Descriptor) → all_in (in_set base (standing deps base ds)) (deps d.number) ≡ true → standing deps base (d ∷ ds) ≡ d ∷ standing deps base ds
  stood d ds e = rw e refl

  fell : (d : Descriptor) (ds : List Descriptor) → all_in (in_set base (standing deps base ds)) (deps d.number) ≡ false → standing deps base (d ∷ ds) ≡ standing deps base ds
  fell d ds e = rw e refl

  within : (ds : List Descriptor) (d : Descriptor) → Has (standing deps base ds) d → Has ds d
  within [] d has = has
  within (e ∷ es) d has = elim (cases_Bool (all_in (in_set base (standing deps base es)) (deps e.number))) [
    | inl met ↦ (let h = rw (stood e es met) at has in elim h [ inl same ↦ inl same | inr deeper ↦ inr (within es d deeper) ])
    | inr not ↦ inr (within es d (rw (fell e es not) at has))
  ]

  falls : (ds : List Descriptor) → AreFalling base ds → AreFalling base (standing deps base ds)
  falls [] f = tt
  falls (e ∷ es) f = elim (cases_Bool (all_in (in_set base (standing deps base es)) (deps e.number))) [
    | inl met ↦ rw (stood e es met) (f.0, λ d has. f.1 d (within es d has), falls es f.2)
    | inr not ↦ rw (fell e es not) (falls es f.2)
  ]

  are_met : (ds : List Descriptor) → AreMet deps base (standing deps base ds)
  are_met [] d n has dep = absurd has
  are_met (e ∷ es) d n has dep = elim (cases_Bool (all_in (in_set base (standing deps base es)) (deps e.number))) [
    | inl met ↦
        let h = rw (stood e es met) at has in
        rw (stood e es met) (set_more base e (standing deps base es) n (elim h [
          | inl same ↦ all_at (in_set base (standing deps base es)) (deps e.number) n met (subst (λ (v : Descriptor). is_among n (deps v.number) ≡ true) (sym same) dep)
          | inr deeper ↦ are_met es d n deeper dep
        ]))
    | inr not ↦ rw (fell e es not) (are_met es d n (rw (fell e es not) at has) dep)
  ]

  -- above all of these
  abbrev IsAbove : Descriptor → List Descriptor → Type 0
  IsAbove e ds = (d : Descriptor) → Has ds d → d.number < e.number

  all_found : (es ds : List Descriptor) → AreMet deps base es → AreEarlier deps es → AreFalling base ds → ((e : Descriptor) → Has es e → Has ds e ⊎ IsAbove e ds) → (d : Descriptor) → Has es d → Has ds d → Has (standing deps base ds) d
  all_found es [] m early f place d a has = absurd has
  all_found es (x ∷ xs) m early f place d a has =
      let rest : (e : Descriptor) → Has es e → Has xs e ⊎ IsAbove e xs = λ e b. elim (place e b) [
        | inl here ↦ elim here [
          | inl same ↦ inr (λ y h. (let l = f.1 y h in let n = ap (λ (v : Descriptor). v.number) same in omega (arith, l, n)))
          | inr deeper ↦ inl deeper
        ]
        | inr above ↦ inr (λ y h. above y (inr h))
      ] in
      elim has [
        | inr deeper ↦
            let k = all_found es xs m early f.2 rest d a deeper in
            elim (cases_Bool (all_in (in_set base (standing deps base xs)) (deps x.number))) [
              | inl met ↦ rw (stood x xs met) (inr k)
              | inr not ↦ rw (fell x xs not) k
            ]
        | inl same ↦
            let number : x.number ≡ d.number = ap (λ (v : Descriptor). v.number) same in
            let met : all_in (in_set base (standing deps base xs)) (deps x.number) ≡ true = all_from (in_set base (standing deps base xs)) (deps x.number) (λ n dep.
            let dep' : is_among n (deps d.number) ≡ true = subst (λ k. is_among n (deps k) ≡ true) number dep in
            let low = early d n a dep' in
            elim (set_cases base es n (m d n a dep')) [
              | inl under ↦ or_left (leb n base) _ (le-leb n base under)
              | inr r ↦
                  let is = r.2 in
                  elim (rest r.0 r.1) [
                    | inl deeper ↦ subst (λ k. in_set base (standing deps base xs) k ≡ true) r.2 (set_has base r.0 (standing deps base xs) (all_found es xs m early f.2 rest r.0 r.1 deeper))
                    | inr above ↦ elim (place r.0 r.1) [
                      | inl here ↦ elim here [
                        | inl own ↦ absurd (let o = ap (λ (v : Descriptor). v.number) own in omega (arith, o, is, low, number))
                        | inr deeper ↦ subst (λ k. in_set base (standing deps base xs) k ≡ true) r.2 (set_has base r.0 (standing deps base xs) (all_found es xs m early f.2 rest r.0 r.1 deeper))
                      ]
                      | inr higher ↦ absurd (let h = higher x (inl refl) in omega (arith, h, is, low, number))
                    ]
                  ]
            ]) in
            rw (stood x xs met) (inl same)
      ]

pub found_stand : (deps : ℕ → List ℕ) (g : Geometry) (i : Shown) (chains : ℕ → List Descriptor) (ds : List Descriptor) → AreFalling i.base ds → AreInChains g chains ds → AreAll g chains ds → AreEarlier deps ds → AreStanding deps g i chains (standing deps i.base ds)
found_stand deps g i chains ds f inside all early = record {
  falls = falls deps i.base ds f;
  whole = λ d has. inside d (within deps i.base ds d has);
  met = are_met deps i.base ds;
  greatest = λ es whole met d has.
      let there : (e : Descriptor) → Has es e → Has ds e = λ e b. (let w = whole e b in all e.queue e w.0 w.1) in
      all_found deps i.base es ds met (λ e n b dep. early e n (there e b) dep) f (λ e b. inl (there e b)) d has (there d has);
}
