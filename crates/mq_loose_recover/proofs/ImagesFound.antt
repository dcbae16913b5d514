-- What is found in an image of the loose order, and that an image has one set and one greatest number.
use Rattle.std.proofs.Common.{◌≡◌, ℕ, zero, suc, ◌+◌, ◌<◌, ◌^◌, true, eqb, List, [], ◌∷◌, ◌++◌, length, reverse, refl, sym, ap, subst, ◌∙◌, inl, inr, arith}
use Rattle.std.proofs.lemmas.Bool.{cases_Bool, cases_eq, cases_lt, eqb-true, false≢true}
use Rattle.std.specs.Prelude.{◌⊎◌}
use Rattle.mq_blocks.specs.Descriptor.{AreRising, Descriptor}
use Rattle.mq_blocks.specs.Geometry.{homes_of}
use Rattle.mq_blocks.specs.Journal.{Has, IsTop, ShowsNumber, is_among}
use Rattle.mq_blocks.specs.declared.geometry.Geometry.{Geometry}
use Rattle.mq_ledger.specs.State.{port_at}
use Rattle.mq_loose_order.proofs.Standing.{found_stand}
use Rattle.mq_loose_order.specs.Dependence.{all_in}
use Rattle.mq_loose_order.specs.Standing.{AreEarlier, AreFalling as AreLooselyFalling, AreInChains, AreStanding, in_set, numbers_of, standing}
use Rattle.mq_recover.proofs.Merges.{falls-under}
use Rattle.mq_recover.proofs.Readers.{readable-falls}
use Rattle.mq_recover.proofs.Refusals.{readable-once-by}
use Rattle.mq_recover.specs.Copies.{with_all}
use Rattle.mq_recover.specs.Drives.{DriveState}
use Rattle.mq_recover.specs.Queues.{AreChainsReadBy}
use Rattle.mq_recover.specs.Recover.{AreFalling, AreGood, chain_at}
use Rattle.mq_recover.specs.declared.queues.QueuesRead.{QueuesRead}
use Rattle.mq_loose_recover.proofs.Choosing.{has-after, shown-other, shown-own}
use Rattle.mq_loose_recover.proofs.ImagesWhole.{AreSaid, image-whole, listed-of, queue-found, said-of, top-of, whole-image}
use Rattle.mq_loose_recover.proofs.ReadingExact.{loose-reader}
use Rattle.mq_loose_recover.specs.Choices.{AreListedIn, IsLooselyChosen, IsLooselyFound, block_of, deps_shown}
use Rattle.mq_loose_recover.specs.Images.{AreLooselyWhole, IsLooselyRead, IsReadableLooseImage, loose_view}
use Rattle.mq_loose_recover.specs.Reading.{accepts_loose, deps_of_block, refuses_loose}
use Rattle.mq_loose_recover.specs.declared.choice.LooseChosen.{LooseChosen}
use Rattle.mq_loose_recover.specs.declared.standing.LooseFound.{LooseFound}

-- ---- the dependences of descriptors with numbers of their own

-- no other of these has its number
abbrev IsOwn : List Descriptor → Descriptor → Type 0
IsOwn ds x = (y : Descriptor) → Has ds y → y.number ≡ x.number → y ≡ x

pub shown-of : (g : Geometry) (d : DriveState) (ds : List Descriptor) (x : Descriptor) → IsOwn ds x → Has ds x → deps_shown g d ds x.number ≡ deps_of_block (block_of g d x)
shown-of g d [] x own has = absurd has
shown-of g d (y ∷ ys) x own has = elim (cases_eq x.number y.number) [
  | inl same ↦
      let is : y ≡ x = own y (inl refl) (sym same) in
      ap (deps_shown g d (y ∷ ys)) same ∙ shown-own g d y ys ∙ ap (λ (z : Descriptor). deps_of_block (block_of g d z)) is
  | inr apart ↦
      shown-other g d y ys x.number apart ∙ shown-of g d ys x (λ z there. own z (inr there)) (elim has [
        | inl is ↦ absurd (apart (ap (λ (z : Descriptor). z.number) (sym is)))
        | inr there ↦ there
      ])
]

falls-own : (low high : ℕ) (ds : List Descriptor) (x : Descriptor) → AreFalling low high ds → Has ds x → IsOwn ds x
falls-own low high [] x falls has y there same = absurd has
falls-own low high (d ∷ ds) x falls has y there same = elim has [
  | inl is ↦ elim there [
    | inl also ↦ sym also ∙ is
    | inr deeper ↦ absurd (let b = falls-under low d.number ds y falls.2 deeper in let n : d.number ≡ x.number = ap (λ (z : Descriptor). z.number) is in omega (arith, b, n, same))
  ]
  | inr later ↦ elim there [
    | inl also ↦ absurd (let b = falls-under low d.number ds x falls.2 later in let n : d.number ≡ y.number = ap (λ (z : Descriptor). z.number) also in omega (arith, b, n, same))
    | inr deeper ↦ falls-own low d.number ds x falls.2 later y deeper same
  ]
]

-- ---- the dependences of all chains

abbrev joined : ℕ → (ℕ → List Descriptor) → List Descriptor
joined zero chains = []
joined (suc q) chains = chains q ++ joined q chains

has-before : (xs ys : List Descriptor) (x : Descriptor) → Has xs x → Has (xs ++ ys) x
has-before [] ys x has = absurd has
has-before (y ∷ xs) ys x has = elim has [ inl is ↦ inl is | inr deeper ↦ inr (has-before xs ys x deeper) ]

has-split : (xs ys : List Descriptor) (x : Descriptor) → Has (xs ++ ys) x → Has xs x ⊎ Has ys x
has-split [] ys x has = inr has
has-split (y ∷ xs) ys x has = elim has [
  | inl is ↦ inl (inl is)
  | inr deeper ↦ elim (has-split xs ys x deeper) [ inl there ↦ inl (inr there) | inr there ↦ inr there ]
]

has-joined : (n : ℕ) (chains : ℕ → List Descriptor) (q : ℕ) (x : Descriptor) → q < n → Has (chains q) x → Has (joined n chains) x
has-joined zero chains q x low has = absurd (omega (arith, low))
has-joined (suc n) chains q x low has = elim (cases_eq q n) [
  | inl same ↦ has-before (chains n) (joined n chains) x (subst (λ (k : ℕ). Has (chains k) x) same has)
  | inr other ↦ has-after (chains n) (joined n chains) x (has-joined n chains q x (omega (arith, low, other)) has)
]

joined-has : (n : ℕ) (chains : ℕ → List Descriptor) (x : Descriptor) → Has (joined n chains) x → (q : ℕ) × (q < n) × Has (chains q) x
joined-has zero chains x has = absurd has
joined-has (suc n) chains x has = elim (has-split (chains n) (joined n chains) x has) [
  | inl here ↦ (n, omega arith, here)
  | inr there ↦ let r = joined-has n chains x there in let low = r.1 in (r.0, omega (arith, low), r.2)
]

image-own : (g : Geometry) (d : DriveState) (image : IsReadableLooseImage g d) (q : ℕ) (x : Descriptor) → q < g.queues → Has (image.chains q) x → IsOwn (joined g.queues image.chains) x
image-own g d image q x low has y there same =
    let r = joined-has g.queues image.chains y there in
    elim (cases_eq r.0 q) [
      | inl at ↦
          let falls = readable-falls accepts_loose refuses_loose loose-reader g (port_at d.queues q) q d.root.base (image.chains q) (image.readable q low) in
          falls-own d.root.base (2 ^ 64) (image.chains q) x falls has y (subst (λ (k : ℕ). Has (image.chains k) y) at r.2) same
      | inr other ↦ elim (cases_lt r.0 q) [
        | inl less ↦ absurd (image.once r.0 q x.number less low (y, r.2, same) (x, has, refl))
        | inr more ↦ absurd (image.once q r.0 x.number (omega (arith, other, more)) r.1 (x, has, refl) (y, r.2, same))
      ]
    ]

-- a readable image is whole by what its own blocks say
pub image-said : (g : Geometry) (d : DriveState) (image : IsReadableLooseImage g d) → (deps : ℕ → List ℕ) × AreLooselyWhole deps g (loose_view deps g d) image.chains
image-said g d image =
    let all = joined g.queues image.chains in (
      deps_shown g d all,
      image-whole (deps_shown g d all) g d image (λ q low x has. shown-of g d all x (image-own g d image q x low has) (has-joined g.queues image.chains q x low has)),
    )

-- ---- what is found

loosely-falls : (low high : ℕ) (ds : List Descriptor) → AreFalling low high ds → AreLooselyFalling low ds
loosely-falls low high [] falls = tt
loosely-falls low high (d ∷ ds) falls = (falls.0, λ e has. falls-under low d.number ds e falls.2 has, loosely-falls low d.number ds falls.2)

among-high : (low high : ℕ) (ns : List ℕ) (n : ℕ) → AreRising low high ns → is_among n ns ≡ true → n < high
among-high low high [] n rising a = absurd (false≢true a)
among-high low high (m ∷ ms) n rising a = elim (cases_Bool (eqb m n)) [
  | inl same ↦ (let is = eqb-true m n same in let b = rising.1 in omega (arith, is, b))
  | inr other ↦ among-high (m + 1) high ms n rising.2 (rw other at a)
]

good-of : (deps : ℕ → List ℕ) (base homes : ℕ) (ds : List Descriptor) → AreGood homes ds → AreGood homes (standing deps base ds)
good-of deps base homes [] good = tt
good-of deps base homes (d ∷ ds) good = elim (cases_Bool (all_in (in_set base (standing deps base ds)) (deps d.number))) [
  | inl met ↦ rw met (good.0, good-of deps base homes ds good.1)
  | inr not ↦ rw not (good-of deps base homes ds good.1)
]

-- the chains that were read are listed in their blocks
pub chains-listed : (g : Geometry) (d : DriveState) (read : QueuesRead) → AreChainsReadBy accepts_loose g d read → AreListedIn g d read.chains.items
chains-listed g d read all q x low has =
    let count = all.queues.count in
    listed-of g d q d.root.base (chain_at read.chains.items q) x (all.queues.readable q (omega (arith, count, low))) has

pub found-in : (g : Geometry) (d : DriveState) (base : ℕ) (read : QueuesRead) (c : LooseChosen) (found : LooseFound) → base ≡ d.root.base → AreChainsReadBy accepts_loose g d read → IsLooselyChosen g d base read.chains.items c
    → found.copies.items ≡ c.copies.items → found.set.items ≡ c.set.items → found.top ≡ read.top → IsLooselyFound g d found
found-in g d base read c found base_is all p copies_is set_is top_is =
    let deps = deps_shown g d p.merged in
    let i = loose_view deps g d in
    let merged = p.are_merged in
    let count = all.queues.count in
    let chains : ℕ → List Descriptor = chain_at read.chains.items in
    let within : (q : ℕ) → q < g.queues → q < length read.chains.items = λ q low. omega (arith, count, low) in
    let image : IsReadableLooseImage g d = record {
      limit = all.limit;
      chains = chains;
      readable = all.queues.readable;
      once = λ q r number order low a b. merged.once q r (within q (omega (arith, order, low))) (within r low) (omega (arith, order)) a.0 b.0 a.1 b.1 (a.2 ∙ sym b.2);
    } in
    let said : (q : ℕ) → q < g.queues → AreSaid deps g d (chains q) = λ q low x has.
    let here = merged.every q x (within q low) has in
    shown-of g d p.merged x (falls-own base (2 ^ 64) p.merged x merged.falling here) here in
    let w = image-whole deps g d image said in
    let inside : AreInChains g chains p.merged = λ x has. let from = merged.from_chains x has in let low = from.0 in (omega (arith, count, low), from.1) in
    let earlier : AreEarlier deps p.merged = λ x n has dep. let from = inside x has in among-high 1 x.number (deps x.number) n (w.loose x.queue x from.0 from.1).rising dep in
    let falls : AreLooselyFalling d.root.base p.merged = subst (λ (b : ℕ). AreLooselyFalling b p.merged) base_is (loosely-falls base (2 ^ 64) p.merged merged.falling) in
    let stands = found_stand deps g i chains p.merged falls inside (λ q x low has. merged.every q x (within q low) has) earlier in
    let ds = standing deps d.root.base p.merged in
    let same : standing deps base p.merged ≡ ds = ap (λ (b : ℕ). standing deps b p.merged) base_is in
    record {
      deps = deps;
      ds = ds;
      read = record { chains = chains; whole = w; standing = stands; top_is = subst (IsTop g i chains) (sym top_is) (top-of deps g d chains read.top all.queues.top w.whole) };
      copies_are = record {
        own = λ x has. (stands.whole x has).0;
        good = good-of deps d.root.base (homes_of g) p.merged merged.good;
        are = copies_is ∙ p.copies_are ∙ ap (with_all (homes_of g)) same;
      };
      set_is = set_is ∙ p.set_is ∙ ap (λ (l : List Descriptor). reverse (numbers_of l)) same;
    }

pub found-readable : (g : Geometry) (d : DriveState) (found : LooseFound) → IsLooselyFound g d found → IsReadableLooseImage g d
found-readable g d found is = whole-image is.deps g d is.read.chains is.read.whole

-- ---- one set and one top

-- descriptors by falling numbers are one list where they are the same
falls-same : (base : ℕ) (ds es : List Descriptor) → AreLooselyFalling base ds → AreLooselyFalling base es → ((x : Descriptor) → Has ds x → Has es x) → ((x : Descriptor) → Has es x → Has ds x) → ds ≡ es
falls-same base [] [] f h there back = refl
falls-same base [] (e ∷ es) f h there back = absurd (back e (inl refl))
falls-same base (d ∷ ds) [] f h there back = absurd (there d (inl refl))
falls-same base (d ∷ ds) (e ∷ es) f h there back =
    let first : d ≡ e = elim (there d (inl refl)) [
      | inl same ↦ sym same
      | inr deep ↦ elim (back e (inl refl)) [
        | inl same ↦ same
        | inr low ↦ absurd (let a = h.1 d deep in let b = f.1 e low in omega (arith, a, b))
      ]
    ] in
    let number : d.number ≡ e.number = ap (λ (x : Descriptor). x.number) first in
    let on : (x : Descriptor) → Has ds x → Has es x = λ x has. elim (there x (inr has)) [
      | inl same ↦ absurd (let a = f.1 x has in let n : e.number ≡ x.number = ap (λ (y : Descriptor). y.number) same in omega (arith, a, n, number))
      | inr deep ↦ deep
    ] in
    let from : (x : Descriptor) → Has es x → Has ds x = λ x has. elim (back x (inr has)) [
      | inl same ↦ absurd (let a = h.1 x has in let n : d.number ≡ x.number = ap (λ (y : Descriptor). y.number) same in omega (arith, a, n, number))
      | inr deep ↦ deep
    ] in
    let rest = falls-same base ds es f.2 h.2 on from in
    λ k. first k ∷ rest k

module _ (g : Geometry) (d : DriveState) (deps others : ℕ → List ℕ) (chains more : ℕ → List Descriptor) (a : AreLooselyWhole deps g (loose_view deps g d) chains) (b : AreLooselyWhole others g (loose_view others g d) more) where
  -- the chains are the same
  pub chains-same : (q : ℕ) → q < g.queues → chains q ≡ more q
  chains-same q low =
      readable-once-by accepts_loose refuses_loose loose-reader g (port_at d.queues q) q d.root.base (chains q) (more q) (queue-found deps g d q (chains q) (λ x has. a.loose q x low has) (a.whole.each q low)) (queue-found others g d q (more q) (λ x has. b.loose q x low has) (b.whole.each q low))

  -- and so are the dependences in them
  deps-same : (q : ℕ) (x : Descriptor) → q < g.queues → Has (chains q) x → deps x.number ≡ others x.number
  deps-same q x low has = said-of deps g d chains a q low x has ∙ sym (said-of others g d more b q low x (subst (λ (l : List Descriptor). Has l x) (chains-same q low) has))

  -- what stands by the one stands by the other
  stands-in : (ds es : List Descriptor) → AreStanding deps g (loose_view deps g d) chains ds → AreStanding others g (loose_view others g d) more es → (x : Descriptor) → Has ds x → Has es x
  stands-in ds es s t x has =
      t.greatest ds (λ y here. let w = s.whole y here in (w.0, subst (λ (l : List Descriptor). Has l y) (chains-same y.queue w.0) w.1))
      (λ y n here dep. let w = s.whole y here in s.met y n here (subst (λ (l : List ℕ). is_among n l ≡ true) (sym (deps-same y.queue y w.0 w.1)) dep))
      x has

  shows-along : (n : ℕ) → ShowsNumber g (loose_view deps g d) chains n → ShowsNumber g (loose_view others g d) more n
  shows-along n s = elim s.where_from [
    | inl x ↦ record { where_from = inl x }
    | inr y ↦ elim y [
      | inl x ↦ record { where_from = inr (inl (x.0, x.1, x.2, subst (λ (l : List Descriptor). Has l x.1) (chains-same x.0 x.2) x.3, x.4)) }
      | inr x ↦ record { where_from = inr (inr x) }
    ]
  ]

-- An image has one set and one greatest number.
pub read-same : (g : Geometry) (d : DriveState) (deps others : ℕ → List ℕ) (ds es : List Descriptor) (top other : ℕ) → IsLooselyRead deps g (loose_view deps g d) ds top → IsLooselyRead others g (loose_view others g d) es other → (ds ≡ es) × (top ≡ other)
read-same g d deps others ds es top other a b =
    let x = b.top_is.greatest top (shows-along g d deps others a.chains b.chains a.whole b.whole top a.top_is.shown) in
    let y = a.top_is.greatest other (shows-along g d others deps b.chains a.chains b.whole a.whole other b.top_is.shown) in (
      falls-same d.root.base ds es a.standing.falls b.standing.falls (stands-in g d deps others a.chains b.chains a.whole b.whole ds es a.standing b.standing) (stands-in g d others deps b.chains a.chains b.whole a.whole es ds b.standing a.standing),
      omega (arith, x, y),
    )
