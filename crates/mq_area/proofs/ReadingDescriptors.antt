-- What the blocks of a good descriptor read as.
use Rattle.std.proofs.Common.{◌≡◌, ◌⊎◌, ℕ, zero, suc, ◌+◌, ◌-◌, ◌*◌, ◌^◌, ◌<◌, ◌≤◌, inl, inr, List, [], ◌∷◌, ◌++◌, length, take, drop, replicate, get_or, refl, sym, ap, subst, ◌∙◌, arith, lit<, append_assoc, length-append}
use Rattle.std.proofs.lemmas.Bool.{cases_eq, cases_lt}
use Rattle.std.proofs.lemmas.List.{get_or-drop, get_or_append_left, drop_at, drop-drop, drop-append-le, take-append-drop, take_all, append-nil, length-replicate}
use Rattle.byteorder.specs.Endian.{little_number, little_from}
use Rattle.byteorder.specs.Numbers.{little_number-reads_back, little_from-append, little_from-take}
use Rattle.mq_blocks.specs.Descriptor.{Descriptor, IsGood, IsDescriptor, IsVersion, AreRising, AreApart, list_bytes, header_bytes, descriptor_text, further, further_block, further_for, journal_form, journal_magic, last_block, most_listed}
use Rattle.mq_blocks.specs.Limits.{list_limit}
use Rattle.mq_blocks.specs.Geometry.{homes_of, area_of, write_limit}
use Rattle.mq_blocks.specs.declared.geometry.Geometry.{Geometry}
use Rattle.mq_blocks.specs.Windows.{number_at, numbers}
use Rattle.mq_area.specs.Reading.{Accepts, journal_stamp, header_of, logged_of, revoked_of, end_of, size_of, GoodCounts, RefusesHeader, RefusesPlace, RefusesList, RefusesRest, IsZero}
use Rattle.mq_area.specs.declared.descriptor.Expect.{Expect}
use Rattle.mq_area.specs.declared.header.Header.{Header}
use Rattle.mq_area.specs.declared.header.Stamp.{Stamp}
use Rattle.mq_area.specs.declared.refusal.DescriptorRefusal.{DescriptorRefusal}
use Rattle.mq_area.specs.declared.refusal.DescriptorRefusal.TheVariants.{Magic, Version, Queue, Number, Place, Previous, Counts, List as Listed, Rest, OutOfMemory}
use Rattle.mq_blocks.proofs.DescriptorLimits.{further-none, further-one, further-most, limit-high, listed-high}
use Rattle.mq_blocks.proofs.WindowsReadings.{numbers-list_bytes}
use Rattle.mq_area.proofs.DescriptorWritten.{length-header_bytes}
use Rattle.mq_blocks.proofs.WindowsWritten.{length-list_bytes}

-- ---- the header is in the last block

pub number_at-left : (size from : ℕ) (b c : List ℕ) → from + size ≤ length b → number_at size from (b ++ c) ≡ number_at size from b
unfolding number_at
number_at-left size from b c h =
    ap (little_number size) (drop-append-le from b c (omega arith)) ∙ little_from-append size (drop from b) c (omega (arith, Rattle.std.proofs.Common.length-drop from b))

pub number_at-right : (size from : ℕ) (b c : List ℕ) → length b ≤ from → number_at size from (b ++ c) ≡ number_at size (from - length b) c
unfolding number_at
number_at-right size from b c h =
    let k : length b + (from - length b) ≡ from = omega arith in
    ap (little_number size) (sym (ap (λ (n : ℕ). drop n (b ++ c)) k) ∙ sym (drop-drop (from - length b) (length b) (b ++ c)) ∙ ap (λ (xs : List ℕ). drop (from - length b) xs) (drop_at b c (length b) refl))

pub header-left : (b c : List ℕ) → 56 ≤ length b → header_of (b ++ c) ≡ header_of b
unfolding header_of
header-left b c h =
    rw (number_at-left 8 0 b c (omega arith), number_at-left 4 8 b c (omega arith), number_at-left 4 12 b c (omega arith), number_at-left 8 16 b c (omega arith), number_at-left 8 24 b c (omega arith), number_at-left 8 32 b c (omega arith), number_at-left 8 40 b c (omega arith), number_at-left 4 48 b c (omega arith), number_at-left 4 52 b c (omega arith)) refl

-- ---- the text of a good descriptor

-- so many entries fit
pub entries-fit : (n : ℕ) → n ≤ list_limit → 56 + 4 * n ≤ 4096 * (further_for n + 1)
entries-fit n l = elim (cases_lt 1010 n) [ inl m ↦ omega (arith, further-one n m) | inr m ↦ omega (arith, further-none n m) ]

pub length-text : (version most homes : ℕ) (d : Descriptor) → most ≤ list_limit → IsGood most homes d → length (descriptor_text journal_magic version d) ≡ 4096 * (further d + 1)
unfolding descriptor_text
length-text version most homes d m g =
    let c = g.counts in
    let fit = entries-fit (length d.logged + length d.revoked) (omega arith) in
    let n = 4096 * (further d + 1) - (56 + 4 * length d.logged + 4 * length d.revoked) in
    omega (arith, length-header_bytes journal_magic version d, length-list_bytes d.logged, length-list_bytes d.revoked, length-replicate {A = ℕ} n 0, length-append (header_bytes journal_magic version d) (list_bytes d.logged), length-append (header_bytes journal_magic version d ++ list_bytes d.logged) (list_bytes d.revoked), length-append (header_bytes journal_magic version d ++ list_bytes d.logged ++ list_bytes d.revoked) (replicate n 0))

-- the header of a descriptor
abbrev pub shown : ℕ → Descriptor → Header
shown version d = record {
  magic = journal_magic;
  version = version;
  queue = d.queue;
  number = d.number;
  place = d.place;
  prev_place = d.prev_place;
  prev_number = d.prev_number;
  logged = length d.logged;
  revoked = length d.revoked;
}

prev_place-small : (most homes : ℕ) (d : Descriptor) → IsGood most homes d → d.prev_place < 2 ^ 64
prev_place-small most homes d g = elim (cases_eq d.prev_number 0) [
  | inl z ↦ let p = g.first z in omega arith
  | inr n ↦ let p = g.before (omega arith) in let q = g.place in omega arith
]

-- its fields, one by one
magic-at : (v : ℕ) (d : Descriptor) → number_at 8 0 (descriptor_text journal_magic v d) ≡ journal_magic
unfolding number_at descriptor_text header_bytes
magic-at v d = little_number-reads_back 8 journal_magic [] (lit< tt)

version-at : (v : ℕ) (d : Descriptor) → v < 2 ^ 32 → number_at 4 8 (descriptor_text journal_magic v d) ≡ v
unfolding number_at descriptor_text header_bytes
version-at v d h = little_number-reads_back 4 v [] h

queue-at : (v : ℕ) (d : Descriptor) → d.queue < 2 ^ 32 → number_at 4 12 (descriptor_text journal_magic v d) ≡ d.queue
unfolding number_at descriptor_text header_bytes
queue-at v d h = little_number-reads_back 4 (d.queue) [] h

number-at : (v : ℕ) (d : Descriptor) → d.number < 2 ^ 64 → number_at 8 16 (descriptor_text journal_magic v d) ≡ d.number
unfolding number_at descriptor_text header_bytes
number-at v d h = little_number-reads_back 8 (d.number) [] h

place-at : (v : ℕ) (d : Descriptor) → d.place < 2 ^ 64 → number_at 8 24 (descriptor_text journal_magic v d) ≡ d.place
unfolding number_at descriptor_text header_bytes
place-at v d h = little_number-reads_back 8 (d.place) [] h

prev_place-at : (v : ℕ) (d : Descriptor) → d.prev_place < 2 ^ 64 → number_at 8 32 (descriptor_text journal_magic v d) ≡ d.prev_place
unfolding number_at descriptor_text header_bytes
prev_place-at v d h = little_number-reads_back 8 (d.prev_place) [] h

prev_number-at : (v : ℕ) (d : Descriptor) → d.prev_number < 2 ^ 64 → number_at 8 40 (descriptor_text journal_magic v d) ≡ d.prev_number
unfolding number_at descriptor_text header_bytes
prev_number-at v d h = little_number-reads_back 8 (d.prev_number) [] h

logged-at : (v : ℕ) (d : Descriptor) → length d.logged < 2 ^ 32 → number_at 4 48 (descriptor_text journal_magic v d) ≡ length d.logged
unfolding number_at descriptor_text header_bytes
logged-at v d h = little_number-reads_back 4 (length d.logged) [] h

revoked-at : (v : ℕ) (d : Descriptor) → length d.revoked < 2 ^ 32 → number_at 4 52 (descriptor_text journal_magic v d) ≡ length d.revoked
unfolding number_at descriptor_text header_bytes
revoked-at v d h = little_number-reads_back 4 (length d.revoked) [] h

header_of-text : (v most homes : ℕ) (d : Descriptor) → v < 2 ^ 32 → most ≤ list_limit → IsGood most homes d → header_of (descriptor_text journal_magic v d) ≡ shown v d
unfolding header_of
header_of-text v most homes d low m g =
    let c = g.counts in
    let p = g.place in
    let f = g.falls in
    let n = g.number in
    rw (magic-at v d, version-at v d low, queue-at v d g.queue, number-at v d g.number, place-at v d (omega arith), prev_place-at v d (prev_place-small most homes d g), prev_number-at v d (omega arith), logged-at v d (omega arith), revoked-at v d (omega arith)) refl

-- the two lists of a descriptor
drop-header : (v : ℕ) (d : Descriptor) → drop 56 (descriptor_text journal_magic v d) ≡ list_bytes d.logged ++ (list_bytes d.revoked ++ replicate (4096 * (further d + 1) - (56 + 4 * length d.logged + 4 * length d.revoked)) 0)
unfolding descriptor_text header_bytes
drop-header v d = append_assoc (list_bytes d.logged) (list_bytes d.revoked) (replicate (4096 * (further d + 1) - (56 + 4 * length d.logged + 4 * length d.revoked)) 0)

drop-logged : (v : ℕ) (d : Descriptor) → drop (56 + 4 * length d.logged) (descriptor_text journal_magic v d) ≡ list_bytes d.revoked ++ replicate (4096 * (further d + 1) - (56 + 4 * length d.logged + 4 * length d.revoked)) 0
drop-logged v d =
    sym (drop-drop (4 * length d.logged) 56 (descriptor_text journal_magic v d)) ∙ ap (λ (xs : List ℕ). drop (4 * length d.logged) xs) (drop-header v d)
    ∙ drop_at (list_bytes d.logged) (list_bytes d.revoked ++ replicate (4096 * (further d + 1) - (56 + 4 * length d.logged + 4 * length d.revoked)) 0) (4 * length d.logged) (length-list_bytes d.logged)

drop-revoked : (v : ℕ) (d : Descriptor) → drop (56 + 4 * length d.logged + 4 * length d.revoked) (descriptor_text journal_magic v d) ≡ replicate (4096 * (further d + 1) - (56 + 4 * length d.logged + 4 * length d.revoked)) 0
drop-revoked v d =
    sym (drop-drop (4 * length d.revoked) (56 + 4 * length d.logged) (descriptor_text journal_magic v d)) ∙ ap (λ (xs : List ℕ). drop (4 * length d.revoked) xs) (drop-logged v d)
    ∙ drop_at (list_bytes d.revoked) (replicate (4096 * (further d + 1) - (56 + 4 * length d.logged + 4 * length d.revoked)) 0) (4 * length d.revoked) (length-list_bytes d.revoked)

get-zeros : (n k : ℕ) → get_or (replicate {A = ℕ} n 0) k 0 ≡ 0
get-zeros zero k = refl
get-zeros (suc n) zero = refl
get-zeros (suc n) (suc k) = get-zeros n k

-- these bytes begin with the text of the descriptor, whose header is that of this block
pub record IsText (limit homes : ℕ) (block bytes : List ℕ) (d : Descriptor) : Type 0 where
  pub version : ℕ
  pub known : IsVersion journal_form version
  pub rest : List ℕ
  pub joined : bytes ≡ descriptor_text journal_magic version d ++ rest
  pub long : length (descriptor_text journal_magic version d) ≡ 4096 * (further d + 1)
  pub header : header_of block ≡ shown version d
  pub good : IsGood (most_listed limit version) homes d

version-low : (v : ℕ) → IsVersion journal_form v → v < 2 ^ 32
version-low v k = elim k [ inl e ↦ omega arith | inr e ↦ omega arith ]

pub text-of : (limit homes : ℕ) (block before : List ℕ) (d : Descriptor) → limit ≤ list_limit → IsDescriptor journal_form limit homes block before d → IsText limit homes block (block ++ before) d
unfolding last_block further_block
text-of limit homes block before d l is =
    let v = is.version in
    let text = descriptor_text journal_magic v d in
    let most = listed-high limit v l in
    let long = length-text v (most_listed limit v) homes d most is.good in
    let shows = header_of-text v (most_listed limit v) homes d (version-low v is.known) most is.good in
    elim (cases_eq (further d) 1) [
      | inl one ↦
          let all : block ++ before ≡ text = ap (λ (xs : List ℕ). xs ++ before) is.last ∙ ap (λ (xs : List ℕ). take 4096 text ++ xs) (is.rest one) ∙ take-append-drop 4096 text in
          let size : length block ≡ 4096 = ap (λ (xs : List ℕ). length xs) is.last ∙ Rattle.std.proofs.lemmas.List.length-take-le 4096 text (omega (arith, long, one)) in
          let head : header_of block ≡ shown v d = sym (header-left block before (omega arith)) ∙ ap header_of all ∙ shows in
          record { version = v; known = is.known; rest = []; joined = all ∙ sym (append-nil text); long = long; header = head; good = is.good }
      | inr not ↦
          let none : further d ≡ 0 = omega (arith, further-most (length d.logged + length d.revoked)) in
          let all : block ≡ text = is.last ∙ take_all 4096 text (omega (arith, long, none)) in
          record { version = v; known = is.known; rest = before; joined = ap (λ (xs : List ℕ). xs ++ before) all; long = long; header = ap header_of all ∙ shows; good = is.good }
    ]

module _ (limit homes : ℕ) (block bytes : List ℕ) (d : Descriptor) (wide : homes ≤ 2 ^ 32) (t : IsText limit homes block bytes d) where
  abbrev z : List ℕ
  z = replicate (4096 * (further d + 1) - (56 + 4 * length d.logged + 4 * length d.revoked)) 0

  -- the entries end within the text
  pub ends : 56 + 4 * length d.logged + 4 * length d.revoked ≤ 4096 * (further d + 1)
  unfolding descriptor_text
  ends =
      let k = length-text-least t.version d in
      let long = t.long in
      omega arith
    where
      length-text-least : (v : ℕ) (d : Descriptor) → 56 + 4 * length d.logged + 4 * length d.revoked ≤ length (descriptor_text journal_magic v d)
      length-text-least v d =
          let n = 4096 * (further d + 1) - (56 + 4 * length d.logged + 4 * length d.revoked) in
          omega (arith, length-header_bytes journal_magic v d, length-list_bytes d.logged, length-list_bytes d.revoked, length-append (header_bytes journal_magic v d) (list_bytes d.logged), length-append (header_bytes journal_magic v d ++ list_bytes d.logged) (list_bytes d.revoked), length-append (header_bytes journal_magic v d ++ list_bytes d.logged ++ list_bytes d.revoked) (replicate n 0))

  pub logged-is : logged_of bytes (length d.logged) ≡ d.logged
  logged-is =
      let e = ends in
      let k : drop 56 bytes ≡ list_bytes d.logged ++ ((list_bytes d.revoked ++ z) ++ t.rest) =
      ap (λ (xs : List ℕ). drop 56 xs) t.joined ∙ drop-append-le 56 (descriptor_text journal_magic t.version d) t.rest (omega (arith, t.long)) ∙ ap (λ (xs : List ℕ). xs ++ t.rest) (drop-header t.version d) ∙ append_assoc (list_bytes d.logged) (list_bytes d.revoked ++ z) t.rest in
      ap (λ (xs : List ℕ). numbers (length d.logged) xs) k ∙ numbers-list_bytes 0 homes d.logged _ (length d.logged) wide t.good.logged refl

  pub revoked-is : revoked_of bytes (length d.logged) (length d.revoked) ≡ d.revoked
  revoked-is =
      let e = ends in
      let n = 56 + 4 * length d.logged in
      let k : drop n bytes ≡ list_bytes d.revoked ++ (z ++ t.rest) =
      ap (λ (xs : List ℕ). drop n xs) t.joined ∙ drop-append-le n (descriptor_text journal_magic t.version d) t.rest (omega (arith, t.long)) ∙ ap (λ (xs : List ℕ). xs ++ t.rest) (drop-logged t.version d) ∙ append_assoc (list_bytes d.revoked) z t.rest in
      ap (λ (xs : List ℕ). numbers (length d.revoked) xs) k ∙ numbers-list_bytes 0 homes d.revoked _ (length d.revoked) wide t.good.revoked refl

  pub rest-is : IsZero (56 + 4 * length d.logged + 4 * length d.revoked) (4096 * (further d + 1)) bytes
  rest-is k low high =
      let e = 56 + 4 * length d.logged + 4 * length d.revoked in
      let text = descriptor_text journal_magic t.version d in
      let there : e + (k - e) ≡ k = omega arith in
      ap (λ (xs : List ℕ). get_or xs k 0) t.joined ∙ get_or_append_left text t.rest 0 k (omega (arith, t.long, high)) ∙ sym (ap (λ (j : ℕ). get_or text j 0) there) ∙ sym (get_or-drop e text (k - e) 0) ∙ ap (λ (xs : List ℕ). get_or xs (k - e) 0) (drop-revoked t.version d) ∙ get-zeros (4096 * (further d + 1) - e) (k - e)

-- what two blocks read as
abbrev pub parsed : (block bytes : List ℕ) → Descriptor
parsed block bytes = record {
  queue = (header_of block).queue;
  number = (header_of block).number;
  place = (header_of block).place;
  prev_place = (header_of block).prev_place;
  prev_number = (header_of block).prev_number;
  logged = logged_of bytes (header_of block).logged;
  revoked = revoked_of bytes (header_of block).logged (header_of block).revoked;
}

parsed-is : (limit homes : ℕ) (block bytes : List ℕ) (d : Descriptor) → homes ≤ 2 ^ 32 → IsText limit homes block bytes d → parsed block bytes ≡ d
parsed-is limit homes block bytes d wide t = rw (t.header, logged-is limit homes block bytes d wide t, revoked-is limit homes block bytes d wide t) refl

-- Two blocks are those of one good descriptor at most.
pub descriptor-unique : (limit homes : ℕ) (block before : List ℕ) (d e : Descriptor) → limit ≤ list_limit → homes ≤ 2 ^ 32 → IsDescriptor journal_form limit homes block before d → IsDescriptor journal_form limit homes block before e → d ≡ e
descriptor-unique limit homes block before d e l wide a b =
    sym (parsed-is limit homes block (block ++ before) d wide (text-of limit homes block before d l a)) ∙ parsed-is limit homes block (block ++ before) e wide (text-of limit homes block before e l b)

-- the last block says at which place it stands
pub descriptor-placed : (limit homes : ℕ) (block before other : List ℕ) (d e : Descriptor) → limit ≤ list_limit → IsDescriptor journal_form limit homes block before d → IsDescriptor journal_form limit homes block other e → d.place ≡ e.place
descriptor-placed limit homes block before other d e l a b = ap (λ (h : Header). h.place) (sym (text-of limit homes block before d l a).header ∙ (text-of limit homes block other e l b).header)

-- a block that is accepted passes every test
pub accepted-homes : (g : Geometry) → homes_of g ≤ 2 ^ 32
accepted-homes g = let h = g.homes_high in omega arith

pub accepted-text : (g : Geometry) (at : Expect) (b c : List ℕ) (d : Descriptor) → Accepts g at b c d → IsText (write_limit g) (homes_of g) b (b ++ c) d
accepted-text g at b c d a = text-of (write_limit g) (homes_of g) b c d (limit-high g) a.is

pub accepted-counts : (g : Geometry) (at : Expect) (b c : List ℕ) (d : Descriptor) → Accepts g at b c d → GoodCounts journal_stamp (area_of g) (write_limit g) at (header_of b)
accepted-counts g at b c d a =
    let P : Header → Type 0 = λ h. GoodCounts journal_stamp (area_of g) (write_limit g) at h in
    let t = accepted-text g at b c d a in
    let s = t.good in
    subst P (sym t.header) ((((((refl, t.known), a.queue), a.number), (s.place, a.place)), (s.falls, s.first, s.before)), (s.counts, s.fits))

pub rising-take : (low high n : ℕ) (xs : List ℕ) → AreRising low high xs → AreRising low high (take n xs)
rising-take low high zero xs r = tt
rising-take low high (suc n) [] r = tt
rising-take low high (suc n) (x ∷ xs) r = (r.0, r.1, rising-take (x + 1) high n xs r.2)

pub apart-take : (n : ℕ) (xs ys : List ℕ) → AreApart xs ys → AreApart (take n xs) ys
apart-take zero xs ys a = tt
apart-take (suc n) [] ys a = tt
apart-take (suc n) (x ∷ xs) ys a = (a.0, apart-take n xs ys a.1)

-- lists that are good stop nowhere
pub lists-stop : (homes : ℕ) (logged revoked : List ℕ) (index found : ℕ) → AreRising 0 homes logged → AreRising 0 homes revoked → AreApart revoked logged → RefusesList homes logged revoked index found → ⊥
lists-stop homes logged revoked index found l r a s = s.wrong (rising-take 0 homes (index + 1) logged l, (rising-take 0 homes (index + 1 - length logged) revoked r, apart-take (index + 1 - length logged) revoked logged a))

pub refused-lists : (g : Geometry) (at : Expect) (b c : List ℕ) (d : Descriptor) (index found : ℕ) → Accepts g at b c d → RefusesList (homes_of g) (logged_of (b ++ c) (header_of b).logged) (revoked_of (b ++ c) (header_of b).logged (header_of b).revoked) index found → ⊥
refused-lists g at b c d index found a s =
    let t = accepted-text g at b c d a in
    let w = accepted-homes g in
    let P : Header → Type 0 = λ h. RefusesList (homes_of g) (logged_of (b ++ c) h.logged) (revoked_of (b ++ c) h.logged h.revoked) index found in
    let u : RefusesList (homes_of g) (logged_of (b ++ c) (length d.logged)) (revoked_of (b ++ c) (length d.logged) (length d.revoked)) index found = subst P t.header s in
    let Q : List ℕ → Type 0 = λ xs. RefusesList (homes_of g) xs (revoked_of (b ++ c) (length d.logged) (length d.revoked)) index found in
    let R : List ℕ → Type 0 = λ xs. RefusesList (homes_of g) d.logged xs index found in
    lists-stop (homes_of g) d.logged d.revoked index found t.good.logged t.good.revoked t.good.apart
    (subst R (revoked-is (write_limit g) (homes_of g) b (b ++ c) d w t) (subst Q (logged-is (write_limit g) (homes_of g) b (b ++ c) d w t) u))

pub refused-rest : (g : Geometry) (at : Expect) (b c : List ℕ) (d : Descriptor) (offset : ℕ) → Accepts g at b c d → RefusesRest (end_of (header_of b)) (size_of (header_of b)) (b ++ c) offset → ⊥
refused-rest g at b c d offset a s =
    let t = accepted-text g at b c d a in
    let P : Header → Type 0 = λ h. RefusesRest (end_of h) (size_of h) (b ++ c) offset in
    let u : RefusesRest (end_of (shown t.version d)) (size_of (shown t.version d)) (b ++ c) offset = subst P t.header s in
    u.wrong (rest-is (write_limit g) (homes_of g) b (b ++ c) d (accepted-homes g) t offset u.low u.high)

-- what the tests up to that of the place refuse, the header's refuse
pub place-refused : (stamp : Stamp) (area limit : ℕ) (at : Expect) (h : Header) (e : DescriptorRefusal) → RefusesPlace stamp area at h e → RefusesHeader stamp area limit at h e
place-refused stamp area limit at h (Magic found) r = r
place-refused stamp area limit at h (Version found) r = r
place-refused stamp area limit at h (Queue found) r = r
place-refused stamp area limit at h (Number found) r = r
place-refused stamp area limit at h (Place found) r = r
place-refused stamp area limit at h (Previous place number) r = absurd r
place-refused stamp area limit at h (Counts logged revoked) r = absurd r
place-refused stamp area limit at h (Listed index found) r = absurd r
place-refused stamp area limit at h (Rest offset) r = absurd r
place-refused stamp area limit at h OutOfMemory r = absurd r

-- So a block that is accepted is refused only when the call runs out of memory.
pub refused-header : (area limit : ℕ) (at : Expect) (h : Header) (e : DescriptorRefusal) → GoodCounts journal_stamp area limit at h → RefusesHeader journal_stamp area limit at h e → ⊥
refused-header area limit at h (Magic found) c r = r.1 c.0.0.0.0.0.0
refused-header area limit at h (Version found) c r = r.2 c.0.0.0.0.0
refused-header area limit at h (Queue found) c r = r.2 c.0.0.0.0
refused-header area limit at h (Number found) c r = r.2 c.0.0.0
refused-header area limit at h (Place found) c r = r.2 c.0.0
refused-header area limit at h (Previous place number) c r = r.3 c.0
refused-header area limit at h (Counts logged revoked) c r = r.3 c
refused-header area limit at h (Listed index found) c r = r
refused-header area limit at h (Rest offset) c r = r
refused-header area limit at h OutOfMemory c r = r
