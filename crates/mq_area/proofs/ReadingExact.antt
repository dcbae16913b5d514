-- A block is refused for one cause alone, unless the call runs out of memory.
use Rattle.std.proofs.Common.{◌≡◌, ◌≢◌, ℕ, zero, suc, ◌+◌, ◌-◌, ◌≤◌, ◌⊎◌, inl, inr, Result, Ok, Err, IfOk, IfErr, IsErrOf, MatchResult, List, ◌++◌, length, take, get_or, refl, sym, ap, subst, ◌∙◌, arith}
use Rattle.std.proofs.lemmas.Bool.{cases_lt}
use Rattle.std.proofs.lemmas.List.{take-take}
use Rattle.mq_blocks.specs.Descriptor.{Descriptor, AreRising, AreApart}
use Rattle.mq_blocks.specs.Geometry.{homes_of, area_of, write_limit}
use Rattle.mq_blocks.specs.declared.geometry.Geometry.{Geometry}
use Rattle.mq_area.specs.Reading.{Accepts, journal_stamp, header_of, logged_of, revoked_of, GoodMagic, GoodVersion, GoodQueue, GoodNumber, GoodPlace, GoodPrevious, GoodCounts, AreListed, RefusesHeader, Refuses, RefusesList, RefusesRest}
use Rattle.mq_area.specs.declared.descriptor.Expect.{Expect}
use Rattle.mq_area.specs.declared.header.Header.{Header}
use Rattle.mq_area.specs.declared.refusal.DescriptorRefusal.{DescriptorRefusal}
use Rattle.mq_area.specs.declared.refusal.DescriptorRefusal.TheVariants.{Magic, Version, Queue, Number, Place, Previous, Counts, List as Listed, Rest, OutOfMemory}
use Rattle.mq_area.proofs.ReadingDescriptors.{accepted-counts, lists-stop, rising-take, apart-take, refused-header, refused-lists, refused-rest}
use Rattle.mq_area.proofs.ReadingSound.{accepted-once}

-- how many tests of the header passed
abbrev Passed : (area limit : ℕ) → Expect → Header → ℕ → Type 0
Passed area limit at h zero = Unit {0}
Passed area limit at h (suc zero) = GoodMagic journal_stamp h
Passed area limit at h (suc (suc zero)) = GoodVersion journal_stamp h
Passed area limit at h (suc (suc (suc zero))) = GoodQueue journal_stamp at h
Passed area limit at h (suc (suc (suc (suc zero)))) = GoodNumber journal_stamp at h
Passed area limit at h (suc (suc (suc (suc (suc zero))))) = GoodPlace journal_stamp area at h
Passed area limit at h (suc (suc (suc (suc (suc (suc zero)))))) = GoodPrevious journal_stamp area at h
Passed area limit at h (suc (suc (suc (suc (suc (suc (suc k))))))) = GoodCounts journal_stamp area limit at h

-- the cause of a refusal by that test
abbrev cause : Header → ℕ → DescriptorRefusal
cause h zero = Magic h.magic
cause h (suc zero) = Version h.version
cause h (suc (suc zero)) = Queue h.queue
cause h (suc (suc (suc zero))) = Number h.number
cause h (suc (suc (suc (suc zero)))) = Place h.place
cause h (suc (suc (suc (suc (suc zero))))) = Previous h.prev_place h.prev_number
cause h (suc (suc (suc (suc (suc (suc k)))))) = Counts h.logged h.revoked

passed-before : (area limit : ℕ) (at : Expect) (h : Header) (k : ℕ) → Passed area limit at h (suc k) → Passed area limit at h k
passed-before area limit at h zero p = tt
passed-before area limit at h (suc zero) p = p.0
passed-before area limit at h (suc (suc zero)) p = p.0
passed-before area limit at h (suc (suc (suc zero))) p = p.0
passed-before area limit at h (suc (suc (suc (suc zero)))) p = p.0
passed-before area limit at h (suc (suc (suc (suc (suc zero))))) p = p.0
passed-before area limit at h (suc (suc (suc (suc (suc (suc zero)))))) p = p.0
passed-before area limit at h (suc (suc (suc (suc (suc (suc (suc k))))))) p = p

passed-low : (area limit : ℕ) (at : Expect) (h : Header) (k m : ℕ) → k ≤ m → Passed area limit at h m → Passed area limit at h k
passed-low area limit at h k zero l p = let P : ℕ → Type 0 = λ n. Passed area limit at h n in let z : 0 ≡ k = omega arith in subst P z p
passed-low area limit at h k (suc m) l p = elim (cases_lt k (suc m)) [
  | inl s ↦ passed-low area limit at h k m (omega arith) (passed-before area limit at h m p)
  | inr s ↦ let P : ℕ → Type 0 = λ n. Passed area limit at h n in let z : suc m ≡ k = omega arith in subst P z p
]

-- the one test that failed
record Fails (area limit : ℕ) (at : Expect) (h : Header) (e : DescriptorRefusal) (k : ℕ) : Type 0 where
  named : e ≡ cause h k
  passed : Passed area limit at h k
  failed : Passed area limit at h (suc k) → ⊥

fails : (area limit : ℕ) (at : Expect) (h : Header) (e : DescriptorRefusal) → RefusesHeader journal_stamp area limit at h e → (k : ℕ) × Fails area limit at h e k
fails area limit at h (Magic found) r = (0, record { named = ap (λ (x : ℕ). Magic x) r.0; passed = tt; failed = r.1 })
fails area limit at h (Version found) r = (1, record { named = ap (λ (x : ℕ). Version x) r.0; passed = r.1; failed = r.2 })
fails area limit at h (Queue found) r = (2, record { named = ap (λ (x : ℕ). Queue x) r.0; passed = r.1; failed = r.2 })
fails area limit at h (Number found) r = (3, record { named = ap (λ (x : ℕ). Number x) r.0; passed = r.1; failed = r.2 })
fails area limit at h (Place found) r = (4, record { named = ap (λ (x : ℕ). Place x) r.0; passed = r.1; failed = r.2 })
fails area limit at h (Previous place number) r = (5, record { named = rw (r.0, r.1) refl; passed = r.2; failed = r.3 })
fails area limit at h (Counts logged revoked) r = (6, record { named = rw (r.0, r.1) refl; passed = r.2; failed = r.3 })
fails area limit at h (Listed index found) r = absurd r
fails area limit at h (Rest offset) r = absurd r
fails area limit at h OutOfMemory r = absurd r

header-once : (area limit : ℕ) (at : Expect) (h : Header) (e f : DescriptorRefusal) → RefusesHeader journal_stamp area limit at h e → RefusesHeader journal_stamp area limit at h f → e ≡ f
header-once area limit at h e f r s =
    let p = fails area limit at h e r in
    let q = fails area limit at h f s in
    elim (cases_lt p.0 q.0) [
      | inl l ↦ absurd (p.1.failed (passed-low area limit at h (suc p.0) q.0 (omega arith) q.1.passed))
      | inr l ↦ elim (cases_lt q.0 p.0) [
        | inl m ↦ absurd (q.1.failed (passed-low area limit at h (suc q.0) p.0 (omega arith) p.1.passed))
        | inr m ↦ let z : p.0 ≡ q.0 = omega arith in p.1.named ∙ ap (λ (k : ℕ). cause h k) z ∙ sym q.1.named
      ]
    ]

-- fewer entries of good lists are good
listed-low : (homes : ℕ) (logged revoked : List ℕ) (i j : ℕ) → i ≤ j → AreListed homes j logged revoked → AreListed homes i logged revoked
listed-low homes logged revoked i j l g =
    let P : List ℕ → Type 0 = λ xs. AreRising 0 homes xs in
    let Q : List ℕ → Type 0 = λ xs. AreApart xs logged in
    let n = i - length logged in
    let m = j - length logged in
    let low : n ≤ m = omega arith in (
      subst P (take-take i j logged l) (rising-take 0 homes i (take j logged) g.0),
      (subst P (take-take n m revoked low) (rising-take 0 homes n (take m revoked) g.1.0), subst Q (take-take n m revoked low) (apart-take n (take m revoked) logged g.1.1)),
    )

list-once : (homes : ℕ) (logged revoked : List ℕ) (i j x y : ℕ) → RefusesList homes logged revoked i x → RefusesList homes logged revoked j y → Listed i x ≡ Listed j y
list-once homes logged revoked i j x y r s =
    elim (cases_lt i j) [
      | inl l ↦ absurd (r.wrong (listed-low homes logged revoked (i + 1) j (omega arith) s.before))
      | inr l ↦ elim (cases_lt j i) [
        | inl m ↦ absurd (s.wrong (listed-low homes logged revoked (j + 1) i (omega arith) r.before))
        | inr m ↦ let z : i ≡ j = omega arith in let e : x ≡ y = r.found_is ∙ ap (λ (k : ℕ). get_or (logged ++ revoked) k 0) z ∙ sym s.found_is in rw (z, e) refl
      ]
    ]

rest-once : (from to : ℕ) (b : List ℕ) (i j : ℕ) → RefusesRest from to b i → RefusesRest from to b j → Rest i ≡ Rest j
rest-once from to b i j r s =
    elim (cases_lt i j) [
      | inl l ↦ absurd (r.wrong (s.before i r.low l))
      | inr l ↦ elim (cases_lt j i) [
        | inl m ↦ absurd (s.wrong (r.before j s.low m))
        | inr m ↦ let z : i ≡ j = omega arith in ap (λ (k : ℕ). Rest k) z
      ]
    ]

-- the four kinds of refusal
data Kind (g : Geometry) (at : Expect) (b c : List ℕ) : DescriptorRefusal → Type 0 where
  by-header : (e : DescriptorRefusal) → RefusesHeader journal_stamp (area_of g) (write_limit g) at (header_of b) e → Kind g at b c e
  by-list : (i x : ℕ) → Refuses g at b c (Listed i x) → Kind g at b c (Listed i x)
  by-rest : (o : ℕ) → Refuses g at b c (Rest o) → Kind g at b c (Rest o)
  by-memory : Kind g at b c OutOfMemory

kind : (g : Geometry) (at : Expect) (b c : List ℕ) (e : DescriptorRefusal) → Refuses g at b c e → Kind g at b c e
kind g at b c (Magic found) r = by-header (Magic found) r
kind g at b c (Version found) r = by-header (Version found) r
kind g at b c (Queue found) r = by-header (Queue found) r
kind g at b c (Number found) r = by-header (Number found) r
kind g at b c (Place found) r = by-header (Place found) r
kind g at b c (Previous place number) r = by-header (Previous place number) r
kind g at b c (Counts logged revoked) r = by-header (Counts logged revoked) r
kind g at b c (Listed index found) r = by-list index found r
kind g at b c (Rest offset) r = by-rest offset r
kind g at b c OutOfMemory r = by-memory

lists-pass : (g : Geometry) (at : Expect) (b c : List ℕ) (i x o : ℕ) → Refuses g at b c (Listed i x) → Refuses g at b c (Rest o) → ⊥
lists-pass g at b c i x o r s = lists-stop (homes_of g) (logged_of (b ++ c) (header_of b).logged) (revoked_of (b ++ c) (header_of b).logged (header_of b).revoked) i x s.1.0 s.1.1.0 s.1.1.1 r.1

kinds-once : (g : Geometry) (at : Expect) (b c : List ℕ) (e f : DescriptorRefusal) → Kind g at b c e → Kind g at b c f → e ≢ OutOfMemory → f ≢ OutOfMemory → e ≡ f
kinds-once g at b c _ _ (by-header e r) (by-header f s) n m = header-once (area_of g) (write_limit g) at (header_of b) e f r s
kinds-once g at b c _ _ (by-header e r) (by-list i x s) n m = absurd (refused-header (area_of g) (write_limit g) at (header_of b) e s.0 r)
kinds-once g at b c _ _ (by-header e r) (by-rest o s) n m = absurd (refused-header (area_of g) (write_limit g) at (header_of b) e s.0 r)
kinds-once g at b c _ _ (by-list i x r) (by-header f s) n m = absurd (refused-header (area_of g) (write_limit g) at (header_of b) f r.0 s)
kinds-once g at b c _ _ (by-rest o r) (by-header f s) n m = absurd (refused-header (area_of g) (write_limit g) at (header_of b) f r.0 s)
kinds-once g at b c _ _ (by-list i x r) (by-list j y s) n m = list-once _ _ _ i j x y r.1 s.1
kinds-once g at b c _ _ (by-list i x r) (by-rest o s) n m = absurd (lists-pass g at b c i x o r s)
kinds-once g at b c _ _ (by-rest o r) (by-list i x s) n m = absurd (lists-pass g at b c i x o s r)
kinds-once g at b c _ _ (by-rest o r) (by-rest p s) n m = rest-once _ _ _ o p r.2 s.2
kinds-once g at b c _ _ by-memory k n m = absurd (n refl)
kinds-once g at b c _ _ k by-memory n m = absurd (m refl)

-- one cause at most
pub refuses-once : (g : Geometry) (at : Expect) (b c : List ℕ) (e f : DescriptorRefusal) → Refuses g at b c e → Refuses g at b c f → e ≢ OutOfMemory → f ≢ OutOfMemory → e ≡ f
refuses-once g at b c e f r s n m = kinds-once g at b c e f (kind g at b c e r) (kind g at b c f s) n m

-- none where a descriptor is accepted
pub accepted-refused : (g : Geometry) (at : Expect) (b c : List ℕ) (d : Descriptor) (e : DescriptorRefusal) → Accepts g at b c d → Refuses g at b c e → e ≡ OutOfMemory
accepted-refused g at b c d e a r = kind-none e (kind g at b c e r)
  where
    kind-none : (e : DescriptorRefusal) → Kind g at b c e → e ≡ OutOfMemory
    kind-none _ (by-header f s) = absurd (refused-header (area_of g) (write_limit g) at (header_of b) f (accepted-counts g at b c d a) s)
    kind-none _ (by-list i x s) = absurd (refused-lists g at b c d i x a s.1)
    kind-none _ (by-rest o s) = absurd (refused-rest g at b c d o a s.2)
    kind-none _ by-memory = refl

memory-or : (g : Geometry) (at : Expect) (b c : List ℕ) (e : DescriptorRefusal) → Kind g at b c e → (e ≡ OutOfMemory) ⊎ (e ≢ OutOfMemory)
memory-or g at b c _ (by-header e r) = let P : DescriptorRefusal → Type 0 = λ x. RefusesHeader journal_stamp (area_of g) (write_limit g) at (header_of b) x in inr (λ p. subst P p r)
memory-or g at b c _ (by-list i x r) = inr (λ p. cc)
memory-or g at b c _ (by-rest o r) = inr (λ p. cc)
memory-or g at b c _ by-memory = inl refl

-- So what accepts and refuses rightly is complete, and names the one cause.
pub complete-of : (g : Geometry) (at : Expect) (b c : List ℕ) (r : Result Descriptor DescriptorRefusal) → IfOk r (Accepts g at b c) → IfErr r (Refuses g at b c) → (d : Descriptor) → Accepts g at b c d → MatchResult r (λ x. x ≡ d) (λ e. e ≡ OutOfMemory)
complete-of g at b c (Ok x) s t d a = accepted-once g at b c x d s a
complete-of g at b c (Err e) s t d a = accepted-refused g at b c d e a t

pub exact-of : (g : Geometry) (at : Expect) (b c : List ℕ) (r : Result Descriptor DescriptorRefusal) → IfOk r (Accepts g at b c) → IfErr r (Refuses g at b c) → (e : DescriptorRefusal) → e ≢ OutOfMemory → Refuses g at b c e → IsErrOf r e ⊎ IsErrOf r OutOfMemory
exact-of g at b c (Ok x) s t e n k = absurd (n (accepted-refused g at b c x e s k))
exact-of g at b c (Err f) s t e n k = elim (memory-or g at b c f (kind g at b c f t)) [ inl m ↦ inr (ap (λ (x : DescriptorRefusal). Err x) m) | inr m ↦ inl (ap (λ (x : DescriptorRefusal). Err x) (refuses-once g at b c f e t k m n)) ]
