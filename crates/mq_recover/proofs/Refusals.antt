-- Each cause of a refusal is the only one, and none holds of what is readable.
use Rattle.std.proofs.Common.{◌≡◌, ◌<◌, ◌≤◌, ◌⊎◌, inl, inr, ℕ, ◌+◌, ◌-◌, ◌*◌, ◌%◌, true, false, List, [], ◌∷◌, Option, Some, None, refl, sym, ◌∙◌, ap, subst, arith}
use Rattle.std.proofs.lemmas.Bool.{cases_eq, cases_lt}
use Rattle.std.proofs.Math.Nat.{mod-eq_of_lt}
use Rattle.std.specs.Option.{unwrap_or}
use Rattle.mq_blocks.specs.Descriptor.{Descriptor, first_place}
use Rattle.mq_blocks.specs.Drive.{PortState}
use Rattle.mq_blocks.specs.Geometry.{area_of}
use Rattle.mq_blocks.specs.Journal.{WriteFields}
use Rattle.mq_blocks.specs.declared.geometry.Geometry.{Geometry}
use Rattle.mq_nvme.specs.Entry.{refusal_of}
use Rattle.mq_nvme.specs.Says.{says, said}
use Rattle.mq_nvme.specs.declared.write.EntryRefusal.{EntryRefusal}
use Rattle.mq_area.specs.Reading.{Accepts, Refuses}
use Rattle.mq_area.specs.declared.descriptor.PlaceIs.{PlaceIs}
use Rattle.mq_area.specs.declared.descriptor.PlaceIs.TheVariants.{Index, Exact}
use Rattle.mq_area.specs.declared.refusal.DescriptorRefusal.{DescriptorRefusal}
use Rattle.mq_ledger.proofs.JournalChains.{said-once}
use Rattle.mq_recover.specs.Reader.{Accepting, IsReader, Refusing}
use Rattle.mq_recover.specs.Refusals.{AreWords, IsNewest, RefusesNewest, IsFoundNextBy, AreFoundBy, RefusesNextBy, IsIndex, RefusesChainBy, IsWholeChainBy, IsRung, AreRung, IsRungWhole, RefusesRequest, RefusesRung, IsReadable, IsReadableBy, RefusesQueue, RefusesQueueBy, entry_at, expected, block_where, before_where, NewestEntry, NewestCommit, NewestLimit, NextRefused, NextApart, ChainOutside, ChainStopped, RequestEntry, RequestLimit, RungStopped, RungCommit, QueueWords, QueueNewest, QueueChain, QueueRung}
use Rattle.mq_recover.proofs.Readers.{journal-reader}
use Rattle.mq_recover.specs.declared.refusal.ChainRefusal.{ChainRefusal}
use Rattle.mq_recover.specs.declared.refusal.ChainRefusal.TheVariants.{Words, Entry, Descriptor as AtDescriptor, Span, Limit}

-- what passes has one value at most, and what is refused one cause at most
pub record IsTest (A E : Type 0) (P : A → Type 0) (R : E → Type 0) : Type 0 where
  pub once : (a b : A) → P a → P b → a ≡ b
  pub refused : (e f : E) → R e → R f → e ≡ f
  pub apart : (a : A) (e : E) → P a → R e → ⊥

-- a test and then another, which may depend on the value of the first
abbrev Both : (A B : Type 0) → (A → Type 0) → (A → B → Type 0) → A × B → Type 0
Both A B P Q x = P x.0 × Q x.0 x.1

abbrev FirstOf : (A E : Type 0) → (A → Type 0) → (E → Type 0) → (A → E → Type 0) → E → Type 0
FirstOf A E P R S e = R e ⊎ ((a : A) × P a × S a e)

and-then : (A B E : Type 0) (P : A → Type 0) (R : E → Type 0) (Q : A → B → Type 0) (S : A → E → Type 0) → IsTest A E P R → ((a : A) → IsTest B E (Q a) (S a))
    → IsTest (A × B) E (Both A B P Q) (FirstOf A E P R S)
and-then A B E P R Q S first next = record {
  once = λ x y p q.
      let same : x.0 ≡ y.0 = first.once x.0 y.0 p.0 q.0 in
      let more : x.1 ≡ y.1 = (next y.0).once x.1 y.1 (subst (λ (a : A). Q a x.1) same p.1) q.1 in
      λ i. (same i, more i);
  refused = λ e f r s.
      elim r [
        | inl a ↦ elim s [ inl b ↦ first.refused e f a b | inr b ↦ absurd (first.apart b.0 e b.1 a) ]
        | inr a ↦ elim s [
          | inl b ↦ absurd (first.apart a.0 f a.1 b)
          | inr b ↦ (next b.0).refused e f (subst (λ (x : A). S x e) (first.once a.0 b.0 a.1 b.1) a.2) b.2
        ]
      ];
  apart = λ x e p r.
      elim r [
        | inl a ↦ first.apart x.0 e p.0 a
        | inr a ↦ (next x.0).apart x.1 e p.1 (subst (λ (y : A). S y e) (first.once a.0 x.0 a.1 p.0) a.2)
      ];
}

-- ---- entries

says-none : (e : List ℕ) (cause : EntryRefusal) → refusal_of e ≡ Some cause → says e ≡ None
unfolding says
says-none e cause h = ap (said e) h

pub refused-said : (e : List ℕ) (cause : EntryRefusal) (r : WriteFields) → refusal_of e ≡ Some cause → says e ≡ Some r → ⊥
refused-said e cause r refused speaks = let none : says e ≡ None = says-none e cause refused in cc

some-once : {A : Type 0} (o : Option A) (a b : A) → o ≡ Some a → o ≡ Some b → a ≡ b
some-once o a b is there = let both : Some a ≡ Some b = sym is ∙ there in cc

not-both : (o : Option WriteFields) (n l m k : ℕ) → o ≡ Some (n, l, true) → o ≡ Some (m, k, false) → ⊥
not-both o n l m k is there = let same : true ≡ false = ap (λ (s : WriteFields). s.2) (said-once o (n, l, true) (m, k, false) is there) in cc

-- ---- the words, and the entry before the head

words-test : (s : PortState) → IsTest (Unit {0}) ChainRefusal (λ _. AreWords s) (λ e. (e ≡ Words) × (AreWords s → ⊥))
words-test s = record { once = λ a b p q. refl; refused = λ e f r t. r.0 ∙ sym t.0; apart = λ a e p r. r.1 p }

newest-once : (s : PortState) (a b : ℕ × ℕ) → IsNewest s a.0 a.1 → IsNewest s b.0 b.1 → a ≡ b
newest-once s a b p q = elim (cases_eq s.head 0) [
  | inl z ↦ let m = p.none z in let n = q.none z in λ i. ((m.0 ∙ sym n.0) i, (m.1 ∙ sym n.1) i)
  | inr z ↦
      let same : (a.0, a.1, true) ≡ (b.0, b.1, true) = said-once (says (entry_at s (s.head - 1))) (a.0, a.1, true) (b.0, b.1, true) (p.some (omega arith)) (q.some (omega arith)) in
      ap (λ (r : WriteFields). (r.0, r.1)) same
]

newest-refused : (s : PortState) (e f : ChainRefusal) → RefusesNewest s e → RefusesNewest s f → e ≡ f
newest-refused s _ _ (NewestEntry c h r) (NewestEntry d k t) = ap Entry (some-once _ c d r t)
newest-refused s _ _ (NewestEntry c h r) (NewestCommit n l k t) = absurd (refused-said _ c (n, l, false) r t)
newest-refused s _ _ (NewestEntry c h r) (NewestLimit n l k t high) = absurd (refused-said _ c (n, l, true) r t)
newest-refused s _ _ (NewestCommit n l h r) (NewestEntry d k t) = absurd (refused-said _ d (n, l, false) t r)
newest-refused s _ _ (NewestCommit n l h r) (NewestCommit m j k t) = refl
newest-refused s _ _ (NewestCommit n l h r) (NewestLimit m j k t high) = absurd (not-both _ m j n l t r)
newest-refused s _ _ (NewestLimit n l h r low) (NewestEntry d k t) = absurd (refused-said _ d (n, l, true) t r)
newest-refused s _ _ (NewestLimit n l h r low) (NewestCommit m j k t) = absurd (not-both _ n l m j r t)
newest-refused s _ _ (NewestLimit n l h r low) (NewestLimit m j k t high) = ap (λ (x : WriteFields). Limit x.0) (said-once _ (n, l, true) (m, j, true) r t)

newest-apart : (s : PortState) (a : ℕ × ℕ) (e : ChainRefusal) → IsNewest s a.0 a.1 → RefusesNewest s e → ⊥
newest-apart s a _ p (NewestEntry c h r) = refused-said _ c (a.0, a.1, true) r (p.some h)
newest-apart s a _ p (NewestCommit n l h r) = not-both _ a.0 a.1 n l (p.some h) r
newest-apart s a _ p (NewestLimit n l h r high) =
    let same : a.0 ≡ n = ap (λ (x : WriteFields). x.0) (said-once _ (a.0, a.1, true) (n, l, true) (p.some h) r) in
    let low = p.limit in
    absurd (omega (arith, same, low, high))

newest-test : (s : PortState) → IsTest (ℕ × ℕ) ChainRefusal (λ a. IsNewest s a.0 a.1) (RefusesNewest s)
newest-test s = record { once = newest-once s; refused = newest-refused s; apart = newest-apart s }

-- ---- the chain

module _ (accepts : Accepting) (refuses : Refusing) (reader : IsReader accepts refuses) where
  next-once : (g : Geometry) (s : PortState) (q number : ℕ) (at : PlaceIs) (newest : Option ℕ) (d e : Descriptor) → IsFoundNextBy accepts g s q number at newest d → IsFoundNextBy accepts g s q number at newest e → d ≡ e
  next-once g s q number at newest d e a b = reader.once g (expected q number at) (block_where g s at) (before_where g s at) d e a.0 b.0

  next-refused : (g : Geometry) (s : PortState) (q number : ℕ) (at : PlaceIs) (newest : Option ℕ) (e f : ChainRefusal) → RefusesNextBy accepts refuses g s q number at newest e → RefusesNextBy accepts refuses g s q number at newest f → e ≡ f
  next-refused g s q number at newest _ _ (NextRefused c n r) (NextRefused d m t) =
      ap (λ (x : DescriptorRefusal). AtDescriptor number x) (reader.cause_once g (expected q number at) (block_where g s at) (before_where g s at) c d r t n m)
  next-refused g s q number at newest _ _ (NextRefused c n r) (NextApart d a far) = absurd (n (reader.apart g (expected q number at) (block_where g s at) (before_where g s at) d c a r))
  next-refused g s q number at newest _ _ (NextApart d a far) (NextRefused c n r) = absurd (n (reader.apart g (expected q number at) (block_where g s at) (before_where g s at) d c a r))
  next-refused g s q number at newest _ _ (NextApart d a far) (NextApart e b long) =
      ap (λ (x : Descriptor). Span (first_place x) (unwrap_or newest x.place)) (reader.once g (expected q number at) (block_where g s at) (before_where g s at) d e a b)

  next-apart : (g : Geometry) (s : PortState) (q number : ℕ) (at : PlaceIs) (newest : Option ℕ) (d : Descriptor) (e : ChainRefusal) → IsFoundNextBy accepts g s q number at newest d → RefusesNextBy accepts refuses g s q number at newest e → ⊥
  next-apart g s q number at newest d _ a (NextRefused c n r) = n (reader.apart g (expected q number at) (block_where g s at) (before_where g s at) d c a.0 r)
  next-apart g s q number at newest d _ a (NextApart e b far) =
      let same = reader.once g (expected q number at) (block_where g s at) (before_where g s at) e d b a.0 in
      let long : (first_place d) + area_of g ≤ unwrap_or newest d.place = subst (λ (x : Descriptor). (first_place x) + area_of g ≤ unwrap_or newest x.place) same far in
      let near = a.1 in
      omega (arith, long, near)

  -- Of two walks from one descriptor on, one goes on where the other ends, or they are the same.
  data Compared (g : Geometry) (s : PortState) (q base : ℕ) (ds es : List Descriptor) (n : ℕ) (a : PlaceIs) (w : Option ℕ) (m : ℕ) (b : PlaceIs) (v : Option ℕ) : Type 0 where
    same : ds ≡ es → n ≡ m → a ≡ b → w ≡ v → Compared g s q base ds es n a w m b v
    longer : (d : Descriptor) → base < n → IsFoundNextBy accepts g s q n a w d → Compared g s q base ds es n a w m b v
    shorter : (d : Descriptor) → base < m → IsFoundNextBy accepts g s q m b v d → Compared g s q base ds es n a w m b v

  along : (P : ℕ → PlaceIs → Option ℕ → Type 0) (n m : ℕ) (a b : PlaceIs) (w v : Option ℕ) → n ≡ m → a ≡ b → w ≡ v → P m b v → P n a w
  along P n m a b w v p q r x = subst (λ (k : ℕ). P k a w) (sym p) (subst (λ (k : PlaceIs). P m k w) (sym q) (subst (λ (k : Option ℕ). P m b k) (sym r) x))

  compare : (g : Geometry) (s : PortState) (q base number : ℕ) (at : PlaceIs) (newest : Option ℕ) (ds es : List Descriptor) (n : ℕ) (a : PlaceIs) (w : Option ℕ) (m : ℕ) (b : PlaceIs) (v : Option ℕ)
      → AreFoundBy accepts g s q base number at newest ds n a w → AreFoundBy accepts g s q base number at newest es m b v → Compared g s q base ds es n a w m b v
  compare g s q base number at newest [] [] n a w m b v f h = same refl (f.0 ∙ sym h.0) (f.1 ∙ sym h.1) (f.2 ∙ sym h.2)
  compare g s q base number at newest [] (e ∷ es) n a w m b v f h =
      let low = h.0 in
      let is = f.0 in
      longer e (omega arith) (along (λ k p o. IsFoundNextBy accepts g s q k p o e) n number a at w newest f.0 f.1 f.2 h.1)
  compare g s q base number at newest (d ∷ ds) [] n a w m b v f h =
      let low = f.0 in
      let is = h.0 in
      shorter d (omega arith) (along (λ k p o. IsFoundNextBy accepts g s q k p o d) m number b at v newest h.0 h.1 h.2 f.1)
  compare g s q base number at newest (d ∷ ds) (e ∷ es) n a w m b v f h =
      let one : e ≡ d = next-once g s q number at newest e d h.1 f.1 in
      let P : Descriptor → Type 0 = λ x. AreFoundBy accepts g s q base x.prev_number (Exact x.prev_place) (Some (unwrap_or newest x.place)) es m b v in
      elim (compare g s q base d.prev_number (Exact d.prev_place) (Some (unwrap_or newest d.place)) ds es n a w m b v f.2 (subst P one h.2)) [
        | same p x y z ↦ same (λ i. sym one i ∷ p i) x y z
        | longer x y z ↦ longer x y z
        | shorter x y z ↦ shorter x y z
      ]

  index-once : (g : Geometry) (q lba i j : ℕ) → IsIndex g q lba i → IsIndex g q lba j → i ≡ j
  index-once g q lba i j p r =
      let x : i % g.area ≡ i = mod-eq_of_lt p.1 in
      let y : j % g.area ≡ j = mod-eq_of_lt r.1 in
      let same : q * g.area + i % g.area ≡ q * g.area + j % g.area = sym p.0 ∙ r.0 in
      omega (arith, x, y, same)

  whole-once : (g : Geometry) (s : PortState) (q base number lba : ℕ) (ds es : List Descriptor) → IsWholeChainBy accepts g s q base number lba ds → IsWholeChainBy accepts g s q base number lba es → ds ≡ es
  whole-once g s q base number lba ds es a b = elim a [
    | inl x ↦ elim b [ inl y ↦ x.1 ∙ sym y.1 | inr y ↦ absurd (omega (arith, x.0, y.0)) ]
    | inr x ↦ elim b [
      | inl y ↦ absurd (omega (arith, x.0, y.0))
      | inr y ↦
          let P : ℕ → Type 0 = λ k. AreFoundBy accepts g s q base number (Index k) None es y.3 y.4 y.5 in
          let there = subst P (index-once g q lba y.1 x.1 y.2 x.2) y.6 in
          elim (compare g s q base number (Index x.1) None ds es x.3 x.4 x.5 y.3 y.4 y.5 x.6 there) [
            | same p x1 x2 x3 ↦ p
            | longer d above f1 ↦ absurd (omega (arith, above, x.7))
            | shorter d above f1 ↦ absurd (omega (arith, above, y.7))
          ]
    ]
  ]

  whole-refused : (g : Geometry) (s : PortState) (q base number lba : ℕ) (e f : ChainRefusal) → RefusesChainBy accepts refuses g s q base number lba e → RefusesChainBy accepts refuses g s q base number lba f → e ≡ f
  whole-refused g s q base number lba _ _ (ChainOutside above out) (ChainOutside up none) = refl
  whole-refused g s q base number lba _ _ (ChainOutside above out) (ChainStopped j es m b v up at r h t) = absurd (out j at.0)
  whole-refused g s q base number lba _ _ (ChainStopped i ds n a w up at r h t) (ChainOutside above out) = absurd (out i at.0)
  whole-refused g s q base number lba e f (ChainStopped i ds n a w up at r h t) (ChainStopped j es m b v above there k l u) =
      let P : ℕ → Type 0 = λ x. AreFoundBy accepts g s q base number (Index x) None es m b v in
      let walked = subst P (index-once g q lba j i there at) k in
      elim (compare g s q base number (Index i) None ds es n a w m b v r walked) [
        | same p x y z ↦ next-refused g s q m b v e f (along (λ k p o. RefusesNextBy accepts refuses g s q k p o e) m n b a v w (sym x) (sym y) (sym z) t) u
        | longer d x y ↦ absurd (next-apart g s q n a w d e y t)
        | shorter d x y ↦ absurd (next-apart g s q m b v d f y u)
      ]

  whole-apart : (g : Geometry) (s : PortState) (q base number lba : ℕ) (ds : List Descriptor) (e : ChainRefusal) → IsWholeChainBy accepts g s q base number lba ds → RefusesChainBy accepts refuses g s q base number lba e → ⊥
  whole-apart g s q base number lba ds _ p (ChainOutside above out) = elim p [ inl x ↦ absurd (omega (arith, x.0, above)) | inr x ↦ out x.1 x.2.0 ]
  whole-apart g s q base number lba ds e p (ChainStopped j es m b v above there k l u) = elim p [
    | inl x ↦ absurd (omega (arith, x.0, above))
    | inr x ↦
        let P : ℕ → Type 0 = λ y. AreFoundBy accepts g s q base number (Index y) None es m b v in
        let walked = subst P (index-once g q lba j x.1 there x.2) k in
        elim (compare g s q base number (Index x.1) None ds es x.3 x.4 x.5 m b v x.6 walked) [
          | same p1 x1 y1 z1 ↦ let low = x.7 in absurd (omega (arith, low, l, x1))
          | longer d x1 y1 ↦ let low = x.7 in absurd (omega (arith, low, x1))
          | shorter d x1 y1 ↦ next-apart g s q m b v d e y1 u
        ]
  ]

  chain-test : (g : Geometry) (s : PortState) (q base number lba : ℕ) → IsTest (List Descriptor) ChainRefusal (IsWholeChainBy accepts g s q base number lba) (RefusesChainBy accepts refuses g s q base number lba)
  chain-test g s q base number lba = record { once = whole-once g s q base number lba; refused = whole-refused g s q base number lba; apart = whole-apart g s q base number lba }

-- ---- the entries from head to doorbell

request-refused : (s : PortState) (count : ℕ) (e f : ChainRefusal) → RefusesRequest s count e → RefusesRequest s count f → e ≡ f
request-refused s count _ _ (RequestEntry c r) (RequestEntry d t) = ap Entry (some-once _ c d r t)
request-refused s count _ _ (RequestEntry c r) (RequestLimit n l k t high) = absurd (refused-said _ c (n, l, k) r t)
request-refused s count _ _ (RequestLimit n l k t high) (RequestEntry c r) = absurd (refused-said _ c (n, l, k) r t)
request-refused s count _ _ (RequestLimit n l k r low) (RequestLimit m j b t high) = ap (λ (x : WriteFields). Limit x.0) (said-once _ (n, l, k) (m, j, b) r t)

request-apart : (s : PortState) (count : ℕ) (e : ChainRefusal) → IsRung s count → RefusesRequest s count e → ⊥
request-apart s count _ p (RequestEntry c r) = refused-said _ c p.0 r p.1
request-apart s count _ p (RequestLimit n l k t high) =
    let same : p.0.0 ≡ n = ap (λ (x : WriteFields). x.0) (said-once _ p.0 (n, l, k) p.1 t) in
    let low = p.2 in
    absurd (omega (arith, same, low, high))

rung-refused : (s : PortState) (e f : ChainRefusal) → RefusesRung s e → RefusesRung s f → e ≡ f
rung-refused s e f (RungStopped i low high before r) (RungStopped j from to past t) = elim (cases_lt i j) [
  | inl x ↦ absurd (request-apart s i e (past i low x) r)
  | inr x ↦ elim (cases_lt j i) [
    | inl y ↦ absurd (request-apart s j f (before j from y) t)
    | inr y ↦ let same : j ≡ i = omega (arith, x, y) in request-refused s i e f r (subst (λ (k : ℕ). RefusesRequest s k f) same t)
  ]
]
rung-refused s e _ (RungStopped i low high before r) (RungCommit n l some all t) = absurd (request-apart s i e (all i low high) r)
rung-refused s _ f (RungCommit n l some all t) (RungStopped i low high before r) = absurd (request-apart s i f (all i low high) r)
rung-refused s _ _ (RungCommit n l some all t) (RungCommit m k more each u) = refl

rung-apart : (s : PortState) (e : ChainRefusal) → AreRung s s.head s.doorbell → IsRungWhole s → RefusesRung s e → ⊥
rung-apart s e all whole (RungStopped i low high before r) = request-apart s i e (all i low high) r
rung-apart s _ all whole (RungCommit n l some each t) = let w = whole some in not-both _ w.0 w.1 n l w.2 t

rung-test : (s : PortState) → IsTest (Unit {0}) ChainRefusal (λ _. AreRung s s.head s.doorbell × IsRungWhole s) (RefusesRung s)
rung-test s = record { once = λ a b p q. refl; refused = rung-refused s; apart = λ a e p r. rung-apart s e p.0 p.1 r }

-- ---- a queue

module _ (accepts : Accepting) (refuses : Refusing) (reader : IsReader accepts refuses) where
  abbrev Passed : (g : Geometry) (s : PortState) (q base : ℕ) → Unit {0} × ((ℕ × ℕ) × (List Descriptor × Unit {0})) → Type 0
  Passed g s q base =
      Both (Unit {0}) ((ℕ × ℕ) × (List Descriptor × Unit {0})) (λ _. AreWords s)
      (λ _. Both (ℕ × ℕ) (List Descriptor × Unit {0}) (λ a. IsNewest s a.0 a.1)
      (λ a. Both (List Descriptor) (Unit {0}) (IsWholeChainBy accepts g s q base a.0 a.1) (λ _ _. AreRung s s.head s.doorbell × IsRungWhole s)))

  abbrev Failed : (g : Geometry) (s : PortState) (q base : ℕ) → ChainRefusal → Type 0
  Failed g s q base =
      FirstOf (Unit {0}) ChainRefusal (λ _. AreWords s) (λ e. (e ≡ Words) × (AreWords s → ⊥))
      (λ _. FirstOf (ℕ × ℕ) ChainRefusal (λ a. IsNewest s a.0 a.1) (RefusesNewest s)
      (λ a. FirstOf (List Descriptor) ChainRefusal (IsWholeChainBy accepts g s q base a.0 a.1) (RefusesChainBy accepts refuses g s q base a.0 a.1) (λ _. RefusesRung s)))

  all-test : (g : Geometry) (s : PortState) (q base : ℕ) → IsTest (Unit {0} × ((ℕ × ℕ) × (List Descriptor × Unit {0}))) ChainRefusal (Passed g s q base) (Failed g s q base)
  all-test g s q base =
      and-then _ _ _ _ _ _ _ (words-test s) (λ _.
      and-then _ _ _ _ _ _ _ (newest-test s) (λ a.
      and-then _ _ _ _ _ _ _ (chain-test accepts refuses reader g s q base a.0 a.1) (λ _. rung-test s)))

  passed : (g : Geometry) (s : PortState) (q base : ℕ) (ds : List Descriptor) (r : IsReadableBy accepts g s q base ds) → Passed g s q base (tt, ((r.number, r.lba), (ds, tt)))
  passed g s q base ds r = (r.words, (r.newest, (r.chain, (r.rung, r.rung_whole))))

  failed : (g : Geometry) (s : PortState) (q base : ℕ) (e : ChainRefusal) → RefusesQueueBy accepts refuses g s q base e → Failed g s q base e
  failed g s q base _ (QueueWords none) = inl (refl, none)
  failed g s q base e (QueueNewest w r) = inr (tt, w, inl r)
  failed g s q base e (QueueChain n l w h r) = inr (tt, w, inr ((n, l), h, inl r))
  failed g s q base e (QueueRung n l ds w h c r) = inr (tt, w, inr ((n, l), h, inr (ds, c, r)))

  pub readable-once-by : (g : Geometry) (s : PortState) (q base : ℕ) (ds es : List Descriptor) → IsReadableBy accepts g s q base ds → IsReadableBy accepts g s q base es → ds ≡ es
  readable-once-by g s q base ds es r t =
      ap (λ (x : Unit {0} × ((ℕ × ℕ) × (List Descriptor × Unit {0}))). x.1.1.0) ((all-test g s q base).once _ _ (passed g s q base ds r) (passed g s q base es t))

  pub refuses-queue-once-by : (g : Geometry) (s : PortState) (q base : ℕ) (e f : ChainRefusal) → RefusesQueueBy accepts refuses g s q base e → RefusesQueueBy accepts refuses g s q base f → e ≡ f
  refuses-queue-once-by g s q base e f r t = (all-test g s q base).refused e f (failed g s q base e r) (failed g s q base f t)

  pub readable-refused-by : (g : Geometry) (s : PortState) (q base : ℕ) (ds : List Descriptor) (e : ChainRefusal) → IsReadableBy accepts g s q base ds → RefusesQueueBy accepts refuses g s q base e → ⊥
  readable-refused-by g s q base ds e r t = (all-test g s q base).apart _ e (passed g s q base ds r) (failed g s q base e t)

-- ---- a queue of the journal

pub readable-once : (g : Geometry) (s : PortState) (q base : ℕ) (ds es : List Descriptor) → IsReadable g s q base ds → IsReadable g s q base es → ds ≡ es
readable-once = readable-once-by Accepts Refuses journal-reader

pub refuses-queue-once : (g : Geometry) (s : PortState) (q base : ℕ) (e f : ChainRefusal) → RefusesQueue g s q base e → RefusesQueue g s q base f → e ≡ f
refuses-queue-once = refuses-queue-once-by Accepts Refuses journal-reader

pub readable-refused : (g : Geometry) (s : PortState) (q base : ℕ) (ds : List Descriptor) (e : ChainRefusal) → IsReadable g s q base ds → RefusesQueue g s q base e → ⊥
readable-refused = readable-refused-by Accepts Refuses journal-reader
