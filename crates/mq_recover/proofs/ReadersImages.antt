-- Images whose descriptors a reader reads: what holds of their chains, and that each is read or refused for one cause.
use Rattle.std.proofs.Common.{◌≡◌, ◌<◌, ◌≤◌, ◌⊎◌, inl, inr, ℕ, ◌^◌, List, length, refl, sym, ◌∙◌, ap, subst, arith}
use Rattle.std.proofs.lemmas.Bool.{cases_eq, cases_lt}
use Rattle.std.specs.Prelude.{IfOk, IfErr, IsErrOf, Result, Ok, Err}
use Rattle.mq_blocks.specs.Descriptor.{Descriptor}
use Rattle.mq_blocks.specs.Geometry.{homes_of}
use Rattle.mq_blocks.specs.Journal.{number_limit}
use Rattle.mq_blocks.specs.declared.geometry.Geometry.{Geometry}
use Rattle.mq_ledger.specs.State.{port_at}
use Rattle.mq_recover.specs.Drives.{DriveState}
use Rattle.mq_recover.specs.Images.{IsReadableImageBy, RefusesImageBy}
use Rattle.mq_recover.specs.Merges.{HasNumber, IsTwice, RefusesTwice}
use Rattle.mq_recover.specs.Queues.{AreChains, AreChainsReadBy, AreReadBy, RefusesReadingBy}
use Rattle.mq_recover.specs.Reader.{Accepting, IsReader, Refusing}
use Rattle.mq_recover.specs.Recover.{AreFalling, chain_at}
use Rattle.mq_recover.specs.Refusals.{AreReadableBy, RefusesQueueBy, RefusesSomeBy}
use Rattle.mq_recover.specs.declared.queues.QueuesRead.{QueuesRead}
use Rattle.mq_recover.specs.declared.refusal.ChainRefusal.{ChainRefusal}
use Rattle.mq_recover.specs.declared.refusal.ImageFault.{ImageFault}
use Rattle.mq_recover.specs.declared.refusal.ImageFault.TheVariants.{Bad, Limit, Twice, OutOfMemory}
use Rattle.mq_recover.proofs.Readers.{readable-falls, readable-good, readable-own}
use Rattle.mq_recover.proofs.Refusals.{readable-once-by, readable-refused-by, refuses-queue-once-by}

-- ---- a number that stands twice

number-along : (ds es : List Descriptor) (n : ℕ) → ds ≡ es → HasNumber ds n → HasNumber es n
number-along ds es n same has = subst (λ (l : List Descriptor). HasNumber l n) same has

-- of two pairs of the least two queues with a number the first are one
first-low : (queues : ℕ) (chains others : ℕ → List Descriptor) (n a b c e : ℕ) → ((q : ℕ) → q < queues → chains q ≡ others q) → IsTwice queues chains n a b → IsTwice queues others n c e → a < c → ⊥
first-low queues chains others n a b c e same s t low =
    let x = t.order in
    let y = t.within in
    t.others a (omega (arith, low, x)) (omega (arith, low)) (number-along (chains a) (others a) n (same a (omega (arith, low, x, y))) s.in_first)

second-low : (queues : ℕ) (chains others : ℕ → List Descriptor) (n a b c e : ℕ) → ((q : ℕ) → q < queues → chains q ≡ others q) → IsTwice queues chains n a b → IsTwice queues others n c e → a ≡ c → b < e → ⊥
second-low queues chains others n a b c e same s t first low =
    let x = s.order in
    let y = t.within in
    t.others b low (omega (arith, x, first)) (number-along (chains b) (others b) n (same b (omega (arith, low, y))) s.in_second)

twice-least : (queues : ℕ) (chains others : ℕ → List Descriptor) (n m a b c e : ℕ) → ((q : ℕ) → q < queues → chains q ≡ others q) → IsTwice queues chains n a b → IsTwice queues others m c e → n ≤ m
twice-least queues chains others n m a b c e same s t =
    let x = t.order in
    let y = t.within in
    s.least m c e x y (number-along (others c) (chains c) m (sym (same c (omega (arith, x, y)))) t.in_first) (number-along (others e) (chains e) m (sym (same e y)) t.in_second)

twice-same : (queues : ℕ) (chains others : ℕ → List Descriptor) (n m a b c e : ℕ) → ((q : ℕ) → q < queues → chains q ≡ others q) → IsTwice queues chains n a b → IsTwice queues others m c e
    → (n ≡ m) × (a ≡ c) × (b ≡ e)
twice-same queues chains others n m a b c e same s t =
    let back : (q : ℕ) → q < queues → others q ≡ chains q = λ q low. sym (same q low) in
    let u = twice-least queues chains others n m a b c e same s t in
    let v = twice-least queues others chains m n c e a b back t s in
    let number : n ≡ m = omega (arith, u, v) in
    let t' : IsTwice queues others n c e = subst (λ (k : ℕ). IsTwice queues others k c e) (sym number) t in
    let first : a ≡ c = elim (cases_lt a c) [
      | inl low ↦ absurd (first-low queues chains others n a b c e same s t' low)
      | inr high ↦ elim (cases_lt c a) [
        | inl low ↦ absurd (first-low queues others chains n c e a b back t' s low)
        | inr low ↦ omega (arith, high, low)
      ]
    ] in
    let second : b ≡ e = elim (cases_lt b e) [
      | inl low ↦ absurd (second-low queues chains others n a b c e same s t' first low)
      | inr high ↦ elim (cases_lt e b) [
        | inl low ↦ absurd (second-low queues others chains n c e a b back t' s (sym first) low)
        | inr low ↦ omega (arith, high, low)
      ]
    ] in
    (number, first, second)

-- ---- chains, and causes

module _ (accepts : Accepting) (refuses : Refusing) (reader : IsReader accepts refuses) where
  -- what the chains of readable queues are good for
  pub good-chains-by : (g : Geometry) (d : DriveState) (read : QueuesRead) (base : ℕ) → base ≡ d.root.base → AreReadBy accepts g d read → AreChains (homes_of g) base read.chains.items
  good-chains-by g d read base base_is are =
      let count = are.count in
      let within : (q : ℕ) → q < length read.chains.items → q < g.queues = λ q low. omega (arith, count, low) in
      let few = g.queues_high in
      record {
        few = omega (arith, count, few);
        good = λ q low. readable-good accepts refuses reader g (port_at d.queues q) q d.root.base (chain_at read.chains.items q) (are.readable q (within q low));
        falling = λ q low. subst (λ (n : ℕ). AreFalling n (2 ^ 64) (chain_at read.chains.items q)) (sym base_is) (readable-falls accepts refuses reader g (port_at d.queues q) q d.root.base (chain_at read.chains.items q) (are.readable q (within q low)));
        own = λ q low. readable-own accepts refuses reader g (port_at d.queues q) q d.root.base (chain_at read.chains.items q) (are.readable q (within q low));
      }

  pub queues-good-by : (g : Geometry) (d : DriveState) (r : Result QueuesRead ImageFault) → IfOk r (AreReadBy accepts g d) → IfOk r (λ read. AreChains (homes_of g) d.root.base read.chains.items)
  queues-good-by g d (Ok read) are = good-chains-by g d read d.root.base refl are
  queues-good-by g d (Err e) are = tt

  pub some-refused-by : (g : Geometry) (d : DriveState) (e : ImageFault) → d.root.base ≤ number_limit → RefusesSomeBy accepts refuses g d e → RefusesReadingBy accepts refuses g d e
  some-refused-by g d (Bad q cause) limit r = (limit, r)
  some-refused-by g d (Limit n) limit r = absurd r
  some-refused-by g d (Twice n a b) limit r = absurd r
  some-refused-by g d OutOfMemory limit r = r

  pub reading-refused-by : (g : Geometry) (d : DriveState) (e : ImageFault) → RefusesReadingBy accepts refuses g d e → RefusesImageBy accepts refuses g d e
  reading-refused-by g d (Bad q cause) r = r
  reading-refused-by g d (Limit n) r = r
  reading-refused-by g d (Twice n a b) r = absurd r
  reading-refused-by g d OutOfMemory r = r

  pub twice-refused-by : (g : Geometry) (d : DriveState) (read : QueuesRead) (e : ImageFault) → AreChainsReadBy accepts g d read → RefusesTwice read.chains.items e → RefusesImageBy accepts refuses g d e
  twice-refused-by g d read (Twice n a b) all r = (all.limit, chain_at read.chains.items, all.queues.readable, subst (λ (k : ℕ). IsTwice k (chain_at read.chains.items) n a b) all.queues.count r)
  twice-refused-by g d read (Bad q cause) all r = absurd r
  twice-refused-by g d read (Limit n) all r = absurd r
  twice-refused-by g d read OutOfMemory all r = r

  -- a readable image has no cause to be refused
  pub image-refused-by : (g : Geometry) (d : DriveState) (e : ImageFault) → IsReadableImageBy accepts g d → RefusesImageBy accepts refuses g d e → ⊥
  image-refused-by g d (Limit base) image r = let l = image.limit in let is = r.0 in let high = r.1 in absurd (omega (arith, l, is, high))
  image-refused-by g d (Bad q cause) image r = readable-refused-by accepts refuses reader g (port_at d.queues q) q d.root.base (image.chains q) cause (image.readable q r.1.0) r.1.3
  image-refused-by g d (Twice n a b) image r =
      let twice = r.3 in
      let order = twice.order in
      let low = twice.within in
      let along : (q : ℕ) → q < g.queues → HasNumber (r.1 q) n → HasNumber (image.chains q) n =
      λ q within has. subst (λ (l : List Descriptor). HasNumber l n) (readable-once-by accepts refuses reader g (port_at d.queues q) q d.root.base (r.1 q) (image.chains q) (r.2 q within) (image.readable q within)) has in
      image.once a b n order low (along a (omega (arith, order, low)) twice.in_first) (along b low twice.in_second)
  image-refused-by g d OutOfMemory image r = r

  -- queues that are readable up to one that is refused do not go past another that is refused
  bad-apart : (g : Geometry) (d : DriveState) (p q : ℕ) (chains : ℕ → List Descriptor) (cause : ChainRefusal) → p < q → AreReadableBy accepts g d q chains → RefusesQueueBy accepts refuses g (port_at d.queues p) p d.root.base cause → ⊥
  bad-apart g d p q chains cause low readable refused = readable-refused-by accepts refuses reader g (port_at d.queues p) p d.root.base (chains p) cause (readable p low) refused

  bad-once : (g : Geometry) (d : DriveState) (p q : ℕ) (c f : ChainRefusal) → RefusesSomeBy accepts refuses g d (Bad p c) → RefusesSomeBy accepts refuses g d (Bad q f) → Bad p c ≡ Bad q f
  bad-once g d p q c f r s = elim (cases_eq p q) [
    | inl at ↦
        let same = refuses-queue-once-by accepts refuses reader g (port_at d.queues p) p d.root.base c f r.3 (subst (λ (n : ℕ). RefusesQueueBy accepts refuses g (port_at d.queues n) n d.root.base f) (sym at) s.3) in
        λ k. Bad (at k) (same k)
    | inr other ↦ elim (cases_lt p q) [
      | inl low ↦ absurd (bad-apart g d p q s.1 c low s.2 r.3)
      | inr high ↦ absurd (bad-apart g d q p r.1 f (omega (arith, other, high)) r.2 s.3)
    ]
  ]

  pub refuses-image-once-by : (g : Geometry) (d : DriveState) (e f : ImageFault) → RefusesImageBy accepts refuses g d e → RefusesImageBy accepts refuses g d f → e ≡ f
  refuses-image-once-by g d (Limit a) (Limit b) r s = ap (λ (n : ℕ). Limit n) (r.0 ∙ sym s.0)
  refuses-image-once-by g d (Limit a) (Bad q c) r s = let x = r.0 in let y = r.1 in let z = s.0 in absurd (omega (arith, x, y, z))
  refuses-image-once-by g d (Limit a) (Twice n q p) r s = let x = r.0 in let y = r.1 in let z = s.0 in absurd (omega (arith, x, y, z))
  refuses-image-once-by g d (Limit a) OutOfMemory r s = absurd s
  refuses-image-once-by g d (Bad q c) (Limit a) r s = let x = s.0 in let y = s.1 in let z = r.0 in absurd (omega (arith, x, y, z))
  refuses-image-once-by g d (Bad q c) (Bad p f) r s = bad-once g d q p c f r.1 s.1
  refuses-image-once-by g d (Bad q c) (Twice n p t) r s = absurd (bad-apart g d q g.queues s.1 c r.1.0 s.2 r.1.3)
  refuses-image-once-by g d (Bad q c) OutOfMemory r s = absurd s
  refuses-image-once-by g d (Twice n q p) (Limit a) r s = let x = s.0 in let y = s.1 in let z = r.0 in absurd (omega (arith, x, y, z))
  refuses-image-once-by g d (Twice n p t) (Bad q c) r s = absurd (bad-apart g d q g.queues r.1 c s.1.0 r.2 s.1.3)
  refuses-image-once-by g d (Twice n q p) (Twice m t u) r s =
      let same = twice-same g.queues r.1 s.1 n m q p t u (λ k low. readable-once-by accepts refuses reader g (port_at d.queues k) k d.root.base (r.1 k) (s.1 k) (r.2 k low) (s.2 k low)) r.3 s.3 in
      λ k. Twice (same.0 k) (same.1 k) (same.2 k)
  refuses-image-once-by g d (Twice n q p) OutOfMemory r s = absurd s
  refuses-image-once-by g d OutOfMemory f r s = absurd r

  -- chains that were read have no cause for which they can't be
  reading-apart-by : (g : Geometry) (d : DriveState) (read : QueuesRead) (e : ImageFault) → AreChainsReadBy accepts g d read → RefusesReadingBy accepts refuses g d e → ⊥
  reading-apart-by g d read (Limit base) are r = let l = are.limit in let is = r.0 in let high = r.1 in absurd (omega (arith, l, is, high))
  reading-apart-by g d read (Bad q cause) are r = readable-refused-by accepts refuses reader g (port_at d.queues q) q d.root.base (chain_at read.chains.items q) cause (are.queues.readable q r.1.0) r.1.3
  reading-apart-by g d read (Twice n a b) are r = r
  reading-apart-by g d read OutOfMemory are r = r

  pub queues-exact-by : (g : Geometry) (d : DriveState) (r : Result QueuesRead ImageFault) → d.root.base ≤ number_limit → IfOk r (AreReadBy accepts g d) → IfErr r (λ e. (e ≡ OutOfMemory) ⊎ RefusesSomeBy accepts refuses g d e)
      → (e : ImageFault) → RefusesReadingBy accepts refuses g d e → IsErrOf r e ⊎ IsErrOf r OutOfMemory
  queues-exact-by g d (Ok read) limit ok bad e refused = absurd (reading-apart-by g d read e (record { limit = limit; queues = ok }) refused)
  queues-exact-by g d (Err f) limit ok bad e refused = elim bad [
    | inl x ↦ inr (ap (λ (z : ImageFault). Err z) x)
    | inr x ↦ inl (ap (λ (z : ImageFault). Err z) (refuses-image-once-by g d f e (reading-refused-by g d f (some-refused-by g d f limit x)) (reading-refused-by g d e refused)))
  ]
