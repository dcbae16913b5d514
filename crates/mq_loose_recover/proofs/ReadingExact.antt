-- A block is refused for one cause alone, unless the call runs out of memory, and for none where it is accepted.
use Rattle.std.proofs.Common.{◌≡◌, ◌≢◌, ℕ, zero, suc, ◌+◌, ◌-◌, ◌≤◌, ◌⊎◌, inl, inr, Result, Ok, Err, IfOk, IfErr, IsErrOf, MatchResult, List, ◌++◌, length, take, get_or, refl, sym, ap, subst, ◌∙◌, arith}
use Rattle.std.proofs.lemmas.Bool.{cases_lt}
use Rattle.std.proofs.lemmas.List.{take-take}
use Rattle.mq_area.proofs.ReadingDescriptors.{rising-take}
use Rattle.mq_area.specs.Reading.{GoodMagic, GoodNumber, GoodPlace, GoodQueue, GoodVersion, RefusesRest, header_of, logged_of}
use Rattle.mq_area.specs.declared.descriptor.Expect.{Expect}
use Rattle.mq_area.specs.declared.header.Header.{Header}
use Rattle.mq_area.specs.declared.refusal.DescriptorRefusal.{DescriptorRefusal}
use Rattle.mq_area.specs.declared.refusal.DescriptorRefusal.TheVariants.{Magic, Version, Queue, Number, Place, Previous, Counts, List as Listed, Rest, OutOfMemory}
use Rattle.mq_blocks.specs.Descriptor.{AreRising, Descriptor}
use Rattle.mq_blocks.specs.Geometry.{area_of, homes_of}
use Rattle.mq_blocks.specs.declared.geometry.Geometry.{Geometry}
use Rattle.mq_recover.proofs.RecoverCopies.{good-more}
use Rattle.mq_recover.specs.Reader.{IsReader}
use Rattle.mq_loose_order.specs.Form.{loose_limit}
use Rattle.mq_loose_recover.proofs.ReadingOnce.{accepted-header, accepted-lists, accepted-once, accepted-rest}
use Rattle.mq_loose_recover.specs.Reading.{AcceptsLoose, AreListed, GoodHeader, GoodLists, GoodPrevious, RefusesHeader, RefusesList, RefusesLoose, accepts_loose, deps_of_block, loose_stamp, refuses_loose}
use Rattle.mq_loose_recover.specs.declared.read.LooseDescriptor.{LooseDescriptor}

-- ---- the header

-- how many tests of the header passed
abbrev Passed : ℕ → Expect → Header → ℕ → Type 0
Passed area at h zero = Unit {0}
Passed area at h (suc zero) = GoodMagic loose_stamp h
Passed area at h (suc (suc zero)) = GoodVersion loose_stamp h
Passed area at h (suc (suc (suc zero))) = GoodQueue loose_stamp at h
Passed area at h (suc (suc (suc (suc zero)))) = GoodNumber loose_stamp at h
Passed area at h (suc (suc (suc (suc (suc zero))))) = GoodPlace loose_stamp area at h
Passed area at h (suc (suc (suc (suc (suc (suc zero)))))) = GoodPrevious area at h
Passed area at h (suc (suc (suc (suc (suc (suc (suc k))))))) = GoodHeader area at h

-- the cause of a refusal by that test
abbrev cause : Header → ℕ → DescriptorRefusal
cause h zero = Magic h.magic
cause h (suc zero) = Version h.version
cause h (suc (suc zero)) = Queue h.queue
cause h (suc (suc (suc zero))) = Number h.number
cause h (suc (suc (suc (suc zero)))) = Place h.place
cause h (suc (suc (suc (suc (suc zero))))) = Previous h.prev_place h.prev_number
cause h (suc (suc (suc (suc (suc (suc k)))))) = Counts h.logged h.revoked

passed-before : (area : ℕ) (at : Expect) (h : Header) (k : ℕ) → Passed area at h (suc k) → Passed area at h k
passed-before area at h zero p = tt
passed-before area at h (suc zero) p = p.0
passed-before area at h (suc (suc zero)) p = p.0
passed-before area at h (suc (suc (suc zero))) p = p.0
passed-before area at h (suc (suc (suc (suc zero)))) p = p.0
passed-before area at h (suc (suc (suc (suc (suc zero))))) p = p.0
passed-before area at h (suc (suc (suc (suc (suc (suc zero)))))) p = p.0
passed-before area at h (suc (suc (suc (suc (suc (suc (suc k))))))) p = p

passed-low : (area : ℕ) (at : Expect) (h : Header) (k m : ℕ) → k ≤ m → Passed area at h m → Passed area at h k
passed-low area at h k zero l p = let P : ℕ → Type 0 = λ n. Passed area at h n in let z : 0 ≡ k = omega (arith, l) in subst P z p
passed-low area at h k (suc m) l p = elim (cases_lt k (suc m)) [
  | inl s ↦ passed-low area at h k m (omega (arith, s)) (passed-before area at h m p)
  | inr s ↦ let P : ℕ → Type 0 = λ n. Passed area at h n in let z : suc m ≡ k = omega (arith, l, s) in subst P z p
]

-- the one test that failed
record Fails (area : ℕ) (at : Expect) (h : Header) (e : DescriptorRefusal) (k : ℕ) : Type 0 where
  named : e ≡ cause h k
  passed : Passed area at h k
  failed : Passed area at h (suc k) → ⊥

fails : (area : ℕ) (at : Expect) (h : Header) (e : DescriptorRefusal) → RefusesHeader area at h e → (k : ℕ) × Fails area at h e k
fails area at h (Magic found) r = (0, record { named = ap (λ (x : ℕ). Magic x) r.0; passed = tt; failed = r.1 })
fails area at h (Version found) r = (1, record { named = ap (λ (x : ℕ). Version x) r.0; passed = r.1; failed = r.2 })
fails area at h (Queue found) r = (2, record { named = ap (λ (x : ℕ). Queue x) r.0; passed = r.1; failed = r.2 })
fails area at h (Number found) r = (3, record { named = ap (λ (x : ℕ). Number x) r.0; passed = r.1; failed = r.2 })
fails area at h (Place found) r = (4, record { named = ap (λ (x : ℕ). Place x) r.0; passed = r.1; failed = r.2 })
fails area at h (Previous place number) r = (5, record { named = rw (r.0, r.1) refl; passed = r.2; failed = r.3 })
fails area at h (Counts logged revoked) r = (6, record { named = rw (r.0, r.1) refl; passed = r.2; failed = r.3 })
fails area at h (Listed index found) r = absurd r
fails area at h (Rest offset) r = absurd r
fails area at h OutOfMemory r = absurd r

header-once : (area : ℕ) (at : Expect) (h : Header) (e f : DescriptorRefusal) → RefusesHeader area at h e → RefusesHeader area at h f → e ≡ f
header-once area at h e f r s =
    let p = fails area at h e r in
    let q = fails area at h f s in
    elim (cases_lt p.0 q.0) [
      | inl l ↦ absurd (p.1.failed (passed-low area at h (suc p.0) q.0 (omega (arith, l)) q.1.passed))
      | inr l ↦ elim (cases_lt q.0 p.0) [
        | inl m ↦ absurd (q.1.failed (passed-low area at h (suc q.0) p.0 (omega (arith, m)) p.1.passed))
        | inr m ↦ let z : p.0 ≡ q.0 = omega (arith, l, m) in p.1.named ∙ ap (λ (k : ℕ). cause h k) z ∙ sym q.1.named
      ]
    ]

-- a header that passes is not refused
header-passes : (area : ℕ) (at : Expect) (h : Header) (e : DescriptorRefusal) → GoodHeader area at h → RefusesHeader area at h e → ⊥
header-passes area at h e good r = let p = fails area at h e r in p.1.failed (passed-low area at h (suc p.0) (suc (suc (suc (suc (suc (suc (suc p.0))))))) (omega arith) good)

-- ---- the lists and what follows

-- fewer entries of good lists are good
listed-low : (homes number : ℕ) (logged deps : List ℕ) (i j : ℕ) → i ≤ j → AreListed homes number j logged deps → AreListed homes number i logged deps
listed-low homes number logged deps i j l g =
    let n = i - length logged in
    let m = j - length logged in
    let low : n ≤ m = omega (arith, l) in (
      subst (λ (xs : List ℕ). AreRising 0 homes xs) (take-take i j logged l) (rising-take 0 homes i (take j logged) g.0),
      subst (λ (xs : List ℕ). AreRising 1 number xs) (take-take n m deps low) (rising-take 1 number n (take m deps) g.1),
    )

list-once : (homes number : ℕ) (logged deps : List ℕ) (i j x y : ℕ) → RefusesList homes number logged deps i x → RefusesList homes number logged deps j y → Listed i x ≡ Listed j y
list-once homes number logged deps i j x y r s =
    elim (cases_lt i j) [
      | inl l ↦ absurd (r.wrong (listed-low homes number logged deps (i + 1) j (omega (arith, l)) s.before))
      | inr l ↦ elim (cases_lt j i) [
        | inl m ↦ absurd (s.wrong (listed-low homes number logged deps (j + 1) i (omega (arith, m)) r.before))
        | inr m ↦ let z : i ≡ j = omega (arith, l, m) in let e : x ≡ y = r.found_is ∙ ap (λ (k : ℕ). get_or (logged ++ deps) k 0) z ∙ sym s.found_is in rw (z, e) refl
      ]
    ]

lists-pass : (g : Geometry) (b : List ℕ) (index found : ℕ) → GoodLists (homes_of g) b (header_of b) → RefusesList (homes_of g) (header_of b).number (logged_of b (header_of b).logged) (deps_of_block b) index found → ⊥
lists-pass g b index found good r =
    let logged = logged_of b (header_of b).logged in
    r.wrong (rising-take 0 (homes_of g) (index + 1) logged good.0, rising-take 1 (header_of b).number (index + 1 - length logged) (deps_of_block b) good.1)

rest-once : (from to : ℕ) (b : List ℕ) (i j : ℕ) → RefusesRest from to b i → RefusesRest from to b j → Rest i ≡ Rest j
rest-once from to b i j r s =
    elim (cases_lt i j) [
      | inl l ↦ absurd (r.wrong (s.before i r.low l))
      | inr l ↦ elim (cases_lt j i) [
        | inl m ↦ absurd (s.wrong (r.before j s.low m))
        | inr m ↦ let z : i ≡ j = omega (arith, l, m) in ap (λ (k : ℕ). Rest k) z
      ]
    ]

-- ---- a block

-- the four kinds of refusal
data Kind (g : Geometry) (at : Expect) (b : List ℕ) : DescriptorRefusal → Type 0 where
  by-header : (e : DescriptorRefusal) → RefusesHeader (area_of g) at (header_of b) e → Kind g at b e
  by-list : (i x : ℕ) → RefusesLoose g at b (Listed i x) → Kind g at b (Listed i x)
  by-rest : (o : ℕ) → RefusesLoose g at b (Rest o) → Kind g at b (Rest o)
  by-memory : Kind g at b OutOfMemory

kind : (g : Geometry) (at : Expect) (b : List ℕ) (e : DescriptorRefusal) → RefusesLoose g at b e → Kind g at b e
kind g at b (Magic found) r = by-header (Magic found) r
kind g at b (Version found) r = by-header (Version found) r
kind g at b (Queue found) r = by-header (Queue found) r
kind g at b (Number found) r = by-header (Number found) r
kind g at b (Place found) r = by-header (Place found) r
kind g at b (Previous place number) r = by-header (Previous place number) r
kind g at b (Counts logged revoked) r = by-header (Counts logged revoked) r
kind g at b (Listed index found) r = by-list index found r
kind g at b (Rest offset) r = by-rest offset r
kind g at b OutOfMemory r = by-memory

kinds-once : (g : Geometry) (at : Expect) (b : List ℕ) (e f : DescriptorRefusal) → Kind g at b e → Kind g at b f → e ≢ OutOfMemory → f ≢ OutOfMemory → e ≡ f
kinds-once g at b _ _ (by-header e r) (by-header f s) n m = header-once (area_of g) at (header_of b) e f r s
kinds-once g at b _ _ (by-header e r) (by-list i x s) n m = absurd (header-passes (area_of g) at (header_of b) e s.0 r)
kinds-once g at b _ _ (by-header e r) (by-rest o s) n m = absurd (header-passes (area_of g) at (header_of b) e s.0 r)
kinds-once g at b _ _ (by-list i x r) (by-header f s) n m = absurd (header-passes (area_of g) at (header_of b) f r.0 s)
kinds-once g at b _ _ (by-rest o r) (by-header f s) n m = absurd (header-passes (area_of g) at (header_of b) f r.0 s)
kinds-once g at b _ _ (by-list i x r) (by-list j y s) n m = list-once _ _ _ _ i j x y r.1 s.1
kinds-once g at b _ _ (by-list i x r) (by-rest o s) n m = absurd (lists-pass g b i x s.1 r.1)
kinds-once g at b _ _ (by-rest o r) (by-list i x s) n m = absurd (lists-pass g b i x r.1 s.1)
kinds-once g at b _ _ (by-rest o r) (by-rest p s) n m = rest-once _ _ _ o p r.2 s.2
kinds-once g at b _ _ by-memory k n m = absurd (n refl)
kinds-once g at b _ _ k by-memory n m = absurd (m refl)

-- one cause at most
pub refuses-once : (g : Geometry) (at : Expect) (b : List ℕ) (e f : DescriptorRefusal) → RefusesLoose g at b e → RefusesLoose g at b f → e ≢ OutOfMemory → f ≢ OutOfMemory → e ≡ f
refuses-once g at b e f r s n m = kinds-once g at b e f (kind g at b e r) (kind g at b f s) n m

-- none where a descriptor is accepted
pub accepted-refused : (g : Geometry) (at : Expect) (b : List ℕ) (d : Descriptor) (deps : List ℕ) (e : DescriptorRefusal) → AcceptsLoose g at b d deps → RefusesLoose g at b e → e ≡ OutOfMemory
accepted-refused g at b d deps e a r = kind-none e (kind g at b e r)
  where
    kind-none : (e : DescriptorRefusal) → Kind g at b e → e ≡ OutOfMemory
    kind-none _ (by-header f s) = absurd (header-passes (area_of g) at (header_of b) f (accepted-header g at b d deps a) s)
    kind-none _ (by-list i x s) = absurd (lists-pass g b i x (accepted-lists g at b d deps a) s.1)
    kind-none _ (by-rest o s) = let z = accepted-rest g at b d deps a in absurd (s.2.wrong (z o s.2.low s.2.high))
    kind-none _ by-memory = refl

memory-or : (g : Geometry) (at : Expect) (b : List ℕ) (e : DescriptorRefusal) → Kind g at b e → (e ≡ OutOfMemory) ⊎ (e ≢ OutOfMemory)
memory-or g at b _ (by-header e r) = let P : DescriptorRefusal → Type 0 = λ x. RefusesHeader (area_of g) at (header_of b) x in inr (λ p. subst P p r)
memory-or g at b _ (by-list i x r) = inr (λ p. cc)
memory-or g at b _ (by-rest o r) = inr (λ p. cc)
memory-or g at b _ by-memory = inl refl

-- So what accepts and refuses rightly is complete, and names the one cause.
pub complete-of : (g : Geometry) (at : Expect) (b : List ℕ) (r : Result LooseDescriptor DescriptorRefusal) → IfOk r (λ x. AcceptsLoose g at b x.descriptor x.deps) → IfErr r (RefusesLoose g at b) → (d : Descriptor) (deps : List ℕ) → AcceptsLoose g at b d deps
    → MatchResult r (λ x. (x.descriptor ≡ d) × (x.deps ≡ deps)) (λ e. e ≡ OutOfMemory)
complete-of g at b (Ok x) s t d deps a = accepted-once g at b x.descriptor d x.deps deps s a
complete-of g at b (Err e) s t d deps a = accepted-refused g at b d deps e a t

pub exact-of : (g : Geometry) (at : Expect) (b : List ℕ) (r : Result LooseDescriptor DescriptorRefusal) → IfOk r (λ x. AcceptsLoose g at b x.descriptor x.deps) → IfErr r (RefusesLoose g at b) → (e : DescriptorRefusal) → e ≢ OutOfMemory → RefusesLoose g at b e → IsErrOf r e ⊎ IsErrOf r OutOfMemory
exact-of g at b (Ok x) s t e n k = absurd (n (accepted-refused g at b x.descriptor x.deps e s k))
exact-of g at b (Err f) s t e n k = elim (memory-or g at b f (kind g at b f t)) [ inl m ↦ inr (ap (λ (x : DescriptorRefusal). Err x) m) | inr m ↦ inl (ap (λ (x : DescriptorRefusal). Err x) (refuses-once g at b f e t k m n)) ]

-- ---- the reader

pub loose-reader : IsReader accepts_loose refuses_loose
loose-reader = record {
  good = λ g at block before d a. good-more loose_limit (homes_of g) d (omega arith) a.1.good;
  queue = λ g at block before d a. a.1.queue;
  number = λ g at block before d a. a.1.number;
  once = λ g at block before d e a f. (accepted-once g at block d e a.0 f.0 a.1 f.1).0;
  cause_once = λ g at block before e f r s n m. refuses-once g at block e f r s n m;
  apart = λ g at block before d e a r. accepted-refused g at block d a.0 e a.1 r;
}
