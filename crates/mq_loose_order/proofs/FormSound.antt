-- A descriptor of the loose order is read as it was written, and as nothing else.
use Rattle.std.proofs.Common.{◌≡◌, ◌≢◌, ℕ, zero, suc, ◌+◌, ◌-◌, ◌*◌, ◌^◌, ◌<◌, ◌≤◌, leb, true, false, cond, List, [], ◌∷◌, ◌++◌, length, take, drop, replicate, refl, sym, ap, ◌∙◌, inl, inr, arith, lit<, append_assoc, length-append}
use Rattle.std.proofs.lemmas.Bool.{cases_Bool, cases_eq, leb-true, le-leb, and_parts, and_from, false≢true}
use Rattle.std.proofs.lemmas.List.{drop_at, length-replicate, take_all}
use Rattle.byteorder.specs.Numbers.{little_number-reads_back}
use Rattle.mq_blocks.specs.Descriptor.{Descriptor, IsDescriptor, IsGood, IsReadOnce, IsSound, descriptor_text, further_block, header_bytes, journal_form, journal_magic, last_block, list_bytes}
use Rattle.mq_blocks.specs.Geometry.{homes_of, write_limit}
use Rattle.mq_blocks.specs.Limits.{list_limit, newest_version}
use Rattle.mq_blocks.specs.Windows.{number_at, numbers}
use Rattle.mq_blocks.proofs.DescriptorLimits.{limit-high}
use Rattle.mq_blocks.proofs.WindowsReadings.{numbers-list_bytes}
use Rattle.mq_blocks.proofs.WindowsWritten.{length-list_bytes}
use Rattle.mq_area.specs.Reading.{header_of}
use Rattle.mq_area.proofs.DescriptorWritten.{length-header_bytes}
use Rattle.mq_area.proofs.ReadingDescriptors.{accepted-homes, descriptor-placed, descriptor-unique}
use Rattle.mq_loose_order.proofs.NumbersWritten.{length-number_bytes}
use Rattle.mq_loose_order.specs.Form.{is_none, listing, logs_few, loose_bytes, loose_form, loose_limit, loose_magic, loose_text, number_bytes}

-- ---- which bytes a descriptor has

none-is : (xs : List ℕ) → is_none xs ≡ true → xs ≡ []
none-is [] e = refl
none-is (x ∷ xs) e = absurd (false≢true e)

pub few-parts : (d : Descriptor) → logs_few d ≡ true → (d.revoked ≡ []) × (length d.logged ≤ loose_limit)
few-parts d e = (let p = and_parts (is_none d.revoked) (leb (length d.logged) loose_limit) e in (none-is d.revoked p.0, leb-true _ _ p.1))

pub few-from : (d : Descriptor) → d.revoked ≡ [] → length d.logged ≤ loose_limit → logs_few d ≡ true
few-from d none few = and_from (is_none d.revoked) (leb (length d.logged) loose_limit) (ap is_none none) (le-leb _ _ few)

pub loose-own : (deps : ℕ → List ℕ) (version : ℕ) (d : Descriptor) → logs_few d ≡ true → loose_text deps version d ≡ loose_bytes d (deps d.number)
unfolding loose_text
loose-own deps version d e = rw e refl

loose-other : (deps : ℕ → List ℕ) (version : ℕ) (d : Descriptor) → logs_few d ≡ false → loose_text deps version d ≡ descriptor_text journal_magic newest_version d
unfolding loose_text
loose-other deps version d e = rw e refl

-- only on what it depends itself counts
pub text-along : (deps others : ℕ → List ℕ) (version : ℕ) (d : Descriptor) → deps d.number ≡ others d.number → loose_text deps version d ≡ loose_text others version d
unfolding loose_text
text-along deps others version d e = ap (λ ns. cond (logs_few d) (loose_bytes d ns) (descriptor_text journal_magic newest_version d)) e

-- ---- the journal's bytes

in_journal : (deps : ℕ → List ℕ) (limit homes : ℕ) (block before : List ℕ) (d : Descriptor) → logs_few d ≡ false → IsDescriptor (loose_form deps) limit homes block before d → IsDescriptor journal_form limit homes block before d
unfolding last_block further_block
in_journal deps limit homes block before d e is = record {
  version = newest_version;
  known = inr refl;
  last = is.last ∙ ap (λ (xs : List ℕ). take 4096 xs) (loose-other deps is.version d e);
  rest = λ one. is.rest one ∙ ap (λ (xs : List ℕ). drop 4096 xs) (loose-other deps is.version d e);
  good = is.good;
}

-- ---- the loose bytes

take_front : (n : ℕ) (xs ys : List ℕ) → length xs ≤ n → take n (xs ++ ys) ≡ xs ++ take (n - length xs) ys
take_front n [] ys l = (let e : n ≡ n - length {A = ℕ} [] = omega arith in ap (λ k. take k ys) e)
take_front zero (x ∷ xs) ys l = absurd (omega arith)
take_front (suc n) (x ∷ xs) ys l = (let e : n - length xs ≡ suc n - length (x ∷ xs) = omega arith in ap (λ zs. x ∷ zs) (take_front n xs ys (omega arith) ∙ ap (λ k. xs ++ take k ys) e))

-- the block begins with the header and the logged blocks
pub record IsLooseBlock (homes : ℕ) (block : List ℕ) (d : Descriptor) (deps : List ℕ) : Type 0 where
  pub tail : List ℕ
  pub joined : block ≡ header_bytes loose_magic 1 (listing deps d) ++ (list_bytes d.logged ++ tail)
  pub few : length d.logged ≤ loose_limit
  pub none : d.revoked ≡ []
  pub limit : ℕ
  pub good : IsGood limit homes d

front_of : (d : Descriptor) (deps : List ℕ) → length d.logged ≤ loose_limit → (tail : List ℕ) × (take 4096 (loose_bytes d deps) ≡ header_bytes loose_magic 1 (listing deps d) ++ (list_bytes d.logged ++ tail))
unfolding loose_bytes
front_of d deps few =
    let h = header_bytes loose_magic 1 (listing deps d) in
    let l = list_bytes d.logged in
    let z = replicate (4096 - (56 + 4 * length d.logged + 8 * length deps)) 0 in
    let long : length (h ++ l) ≤ 4096 = omega (arith, length-append h l, length-header_bytes loose_magic 1 (listing deps d), length-list_bytes d.logged) in
    let tail = take (4096 - length (h ++ l)) (number_bytes deps ++ z) in
    (tail, ap (λ (xs : List ℕ). take 4096 xs) (append_assoc (h ++ l) (number_bytes deps) z) ∙ take_front 4096 (h ++ l) (number_bytes deps ++ z) long ∙ append_assoc h l tail)

pub block_of : (deps : ℕ → List ℕ) (limit homes : ℕ) (block before : List ℕ) (d : Descriptor) → logs_few d ≡ true → IsDescriptor (loose_form deps) limit homes block before d → IsLooseBlock homes block d (deps d.number)
unfolding last_block
block_of deps limit homes block before d e is =
    let p = few-parts d e in
    let f = front_of d (deps d.number) p.1 in
    record {
      tail = f.0;
      joined = is.last ∙ ap (λ (xs : List ℕ). take 4096 xs) (loose-own deps is.version d e) ∙ f.1;
      few = p.1;
      none = p.0;
      limit = limit;
      good = is.good;
    }

-- ---- its fields

magic-at : (d : Descriptor) (deps rest : List ℕ) → number_at 8 0 (header_bytes loose_magic 1 (listing deps d) ++ rest) ≡ loose_magic
unfolding number_at header_bytes
magic-at d deps rest = little_number-reads_back 8 loose_magic [] (lit< tt)

queue-at : (d : Descriptor) (deps rest : List ℕ) → d.queue < 2 ^ 32 → number_at 4 12 (header_bytes loose_magic 1 (listing deps d) ++ rest) ≡ d.queue
unfolding number_at header_bytes
queue-at d deps rest h = little_number-reads_back 4 d.queue [] h

number-at : (d : Descriptor) (deps rest : List ℕ) → d.number < 2 ^ 64 → number_at 8 16 (header_bytes loose_magic 1 (listing deps d) ++ rest) ≡ d.number
unfolding number_at header_bytes
number-at d deps rest h = little_number-reads_back 8 d.number [] h

place-at : (d : Descriptor) (deps rest : List ℕ) → d.place < 2 ^ 64 → number_at 8 24 (header_bytes loose_magic 1 (listing deps d) ++ rest) ≡ d.place
unfolding number_at header_bytes
place-at d deps rest h = little_number-reads_back 8 d.place [] h

prev_place-at : (d : Descriptor) (deps rest : List ℕ) → d.prev_place < 2 ^ 64 → number_at 8 32 (header_bytes loose_magic 1 (listing deps d) ++ rest) ≡ d.prev_place
unfolding number_at header_bytes
prev_place-at d deps rest h = little_number-reads_back 8 d.prev_place [] h

prev_number-at : (d : Descriptor) (deps rest : List ℕ) → d.prev_number < 2 ^ 64 → number_at 8 40 (header_bytes loose_magic 1 (listing deps d) ++ rest) ≡ d.prev_number
unfolding number_at header_bytes
prev_number-at d deps rest h = little_number-reads_back 8 d.prev_number [] h

count-at : (d : Descriptor) (deps rest : List ℕ) → length d.logged < 2 ^ 32 → number_at 4 48 (header_bytes loose_magic 1 (listing deps d) ++ rest) ≡ length d.logged
unfolding number_at header_bytes
count-at d deps rest h = little_number-reads_back 4 (length d.logged) [] h

place-small : (homes : ℕ) (d : Descriptor) (limit : ℕ) → IsGood limit homes d → d.prev_place < 2 ^ 64
place-small homes d limit good = elim (cases_eq d.prev_number 0) [
  | inl z ↦ (let p = good.first z in omega arith)
  | inr n ↦ (let p = good.before (omega arith) in let q = good.place in omega arith)
]

module _ (homes : ℕ) (block : List ℕ) (d : Descriptor) (deps : List ℕ) (b : IsLooseBlock homes block d deps) where
  pub magic-is : number_at 8 0 block ≡ loose_magic
  magic-is = ap (number_at 8 0) b.joined ∙ magic-at d deps (list_bytes d.logged ++ b.tail)

  pub queue-is : number_at 4 12 block ≡ d.queue
  queue-is = ap (number_at 4 12) b.joined ∙ queue-at d deps (list_bytes d.logged ++ b.tail) b.good.queue

  pub number-is : number_at 8 16 block ≡ d.number
  number-is = ap (number_at 8 16) b.joined ∙ number-at d deps (list_bytes d.logged ++ b.tail) b.good.number

  pub place-is : number_at 8 24 block ≡ d.place
  place-is = ap (number_at 8 24) b.joined ∙ place-at d deps (list_bytes d.logged ++ b.tail) (let p = b.good.place in omega arith)

  pub prev_place-is : number_at 8 32 block ≡ d.prev_place
  prev_place-is = ap (number_at 8 32) b.joined ∙ prev_place-at d deps (list_bytes d.logged ++ b.tail) (place-small homes d b.limit b.good)

  pub prev_number-is : number_at 8 40 block ≡ d.prev_number
  prev_number-is = ap (number_at 8 40) b.joined ∙ prev_number-at d deps (list_bytes d.logged ++ b.tail) (let n = b.good.number in let f = b.good.falls in omega arith)

  pub count-is : number_at 4 48 block ≡ length d.logged
  count-is = ap (number_at 4 48) b.joined ∙ count-at d deps (list_bytes d.logged ++ b.tail) (let f = b.few in omega arith)

  pub logged-is : homes ≤ 2 ^ 32 → numbers (number_at 4 48 block) (drop 56 block) ≡ d.logged
  logged-is wide =
      let head = header_bytes loose_magic 1 (listing deps d) in
      let rest : drop 56 block ≡ list_bytes d.logged ++ b.tail = ap (λ (xs : List ℕ). drop 56 xs) b.joined ∙ drop_at head (list_bytes d.logged ++ b.tail) 56 (length-header_bytes loose_magic 1 (listing deps d)) in
      (λ i. numbers (count-is i) (rest i)) ∙ numbers-list_bytes 0 homes d.logged b.tail (length d.logged) wide b.good.logged refl

-- what a block reads as
abbrev read : List ℕ → Descriptor
read block = record {
  queue = number_at 4 12 block;
  number = number_at 8 16 block;
  place = number_at 8 24 block;
  prev_place = number_at 8 32 block;
  prev_number = number_at 8 40 block;
  logged = numbers (number_at 4 48 block) (drop 56 block);
  revoked = [];
}

read-is : (homes : ℕ) (block : List ℕ) (d : Descriptor) (deps : List ℕ) → homes ≤ 2 ^ 32 → IsLooseBlock homes block d deps → read block ≡ d
read-is homes block d deps wide b = λ i. record {
  queue = queue-is homes block d deps b i;
  number = number-is homes block d deps b i;
  place = place-is homes block d deps b i;
  prev_place = prev_place-is homes block d deps b i;
  prev_number = prev_number-is homes block d deps b i;
  logged = logged-is homes block d deps b wide i;
  revoked = sym b.none i;
}

-- ---- the two kinds of bytes begin otherwise

journal-magic : (limit homes : ℕ) (block before : List ℕ) (d : Descriptor) → limit ≤ list_limit → IsDescriptor journal_form limit homes block before d → number_at 8 0 block ≡ journal_magic
unfolding header_of
journal-magic limit homes block before d l is = ap (λ (h : Rattle.mq_area.specs.declared.header.Header.Header). h.magic) (Rattle.mq_area.proofs.ReadingDescriptors.text-of limit homes block before d l is).header

magics-apart : loose_magic ≢ journal_magic
magics-apart e = absurd (omega (arith, e))

apart : (deps : ℕ → List ℕ) (limit homes : ℕ) (block before other : List ℕ) (d e : Descriptor) → limit ≤ list_limit → logs_few d ≡ true → logs_few e ≡ false → IsDescriptor (loose_form deps) limit homes block before d → IsDescriptor (loose_form deps) limit homes block other e → ⊥
apart deps limit homes block before other d e l x y a b =
    magics-apart (sym (magic-is homes block d (deps d.number) (block_of deps limit homes block before d x a)) ∙ journal-magic limit homes block other e l (in_journal deps limit homes block other e y b))

pub loose-read : (deps : ℕ → List ℕ) → IsReadOnce (loose_form deps)
loose-read deps = record {
  once = λ g block before d e x y.
      let l = limit-high g in
      let w = accepted-homes g in
      elim (cases_Bool (logs_few d)) [
        | inl few ↦ elim (cases_Bool (logs_few e)) [
          | inl also ↦ sym (read-is (homes_of g) block d (deps d.number) w (block_of deps (write_limit g) (homes_of g) block before d few x)) ∙ read-is (homes_of g) block e (deps e.number) w (block_of deps (write_limit g) (homes_of g) block before e also y)
          | inr not ↦ absurd (apart deps (write_limit g) (homes_of g) block before before d e l few not x y)
        ]
        | inr not ↦ elim (cases_Bool (logs_few e)) [
          | inl few ↦ absurd (apart deps (write_limit g) (homes_of g) block before before e d l few not y x)
          | inr also ↦ descriptor-unique (write_limit g) (homes_of g) block before d e l w (in_journal deps (write_limit g) (homes_of g) block before d not x) (in_journal deps (write_limit g) (homes_of g) block before e also y)
        ]
      ];
  placed = λ g block before other d e x y.
      let l = limit-high g in
      elim (cases_Bool (logs_few d)) [
        | inl few ↦ elim (cases_Bool (logs_few e)) [
          | inl also ↦ sym (place-is (homes_of g) block d (deps d.number) (block_of deps (write_limit g) (homes_of g) block before d few x)) ∙ place-is (homes_of g) block e (deps e.number) (block_of deps (write_limit g) (homes_of g) block other e also y)
          | inr not ↦ absurd (apart deps (write_limit g) (homes_of g) block before other d e l few not x y)
        ]
        | inr not ↦ elim (cases_Bool (logs_few e)) [
          | inl few ↦ absurd (apart deps (write_limit g) (homes_of g) block other before e d l few not y x)
          | inr also ↦ descriptor-placed (write_limit g) (homes_of g) block before other d e l (in_journal deps (write_limit g) (homes_of g) block before d not x) (in_journal deps (write_limit g) (homes_of g) block other e also y)
        ]
      ];
}

pub loose-sound : (deps : ℕ → List ℕ) → IsSound (loose_form deps)
loose-sound deps = record { read = loose-read deps; lists = λ g. omega arith }

-- ---- the block of a descriptor that is written

length-loose : (d : Descriptor) (deps : List ℕ) → length d.logged ≤ loose_limit → length deps ≤ loose_limit → length (loose_bytes d deps) ≡ 4096
unfolding loose_bytes
length-loose d deps few also =
    let h = header_bytes loose_magic 1 (listing deps d) in
    let l = list_bytes d.logged in
    let m = number_bytes deps in
    let n = 4096 - (56 + 4 * length d.logged + 8 * length deps) in
    let z : length {A = ℕ} (replicate {A = ℕ} n 0) ≡ n = length-replicate {A = ℕ} n 0 in
    omega (arith, length-header_bytes loose_magic 1 (listing deps d), length-list_bytes d.logged, length-number_bytes deps, length-append h l, length-append (h ++ l) m, length-append (h ++ l ++ m) (replicate n 0))

pub loose-last : (deps : ℕ → List ℕ) (d : Descriptor) → logs_few d ≡ true → length (deps d.number) ≤ loose_limit → last_block (loose_form deps) 1 d ≡ loose_bytes d (deps d.number)
unfolding last_block
loose-last deps d few also = ap (λ (xs : List ℕ). take 4096 xs) (loose-own deps 1 d few) ∙ take_all 4096 (loose_bytes d (deps d.number)) (omega (arith, length-loose d (deps d.number) (few-parts d few).1 also))
