-- Where the lists fit into a descriptor's last block, the block before it counts for nothing.
use Rattle.std.proofs.Common.{◌≡◌, ℕ, zero, suc, ◌+◌, ◌*◌, ◌<◌, ◌≤◌, inl, inr, List, ◌++◌, length, drop, refl, sym, ap, subst, ◌∙◌, arith, length-drop}
use Rattle.std.specs.Prelude.{slice_index}
use Rattle.std.proofs.lemmas.Bool.{cases_lt}
use Rattle.std.proofs.lemmas.List.{drop-append-le, get_or_append_left}
use Rattle.mq_blocks.specs.Descriptor.{Descriptor, AreRising, further}
use Rattle.mq_blocks.specs.Geometry.{homes_of}
use Rattle.mq_blocks.specs.declared.geometry.Geometry.{Geometry}
use Rattle.mq_blocks.specs.Windows.{numbers}
use Rattle.mq_blocks.proofs.DescriptorLimits.{further-none, further-one}
use Rattle.mq_area.specs.Reading.{Accepts, Refuses, RefusesList, RefusesRest, GoodRevoked, further_of, header_of, logged_of, revoked_of}
use Rattle.mq_area.specs.declared.descriptor.Expect.{Expect}
use Rattle.mq_area.specs.declared.header.Header.{Header}
use Rattle.mq_area.specs.declared.refusal.DescriptorRefusal.{DescriptorRefusal}
use Rattle.mq_area.specs.declared.refusal.DescriptorRefusal.TheVariants.{Magic, Version, Queue, Number, Place, Previous, Counts, List as Listed, Rest, OutOfMemory}
use Rattle.mq_area.proofs.ReadingDescriptors.{accepted-text, number_at-left}

-- ---- what is accepted

further-accepted : (g : Geometry) (at : Expect) (b c : List ℕ) (d : Descriptor) → Accepts g at b c d → further_of (header_of b) ≡ further d
further-accepted g at b c d a = ap further_of (accepted-text g at b c d a).header

-- where the descriptor has a further block, these are equal
pub accepts-before : (g : Geometry) (at : Expect) (b c e : List ℕ) (d : Descriptor) → (further_of (header_of b) ≡ 1 → c ≡ e) → Accepts g at b c d → Accepts g at b e d
accepts-before g at b c e d same a =
    let is = a.is in
    record {
      is = record {
        version = is.version;
        known = is.known;
        last = is.last;
        rest = λ one. sym (same (further-accepted g at b c d a ∙ one)) ∙ is.rest one;
        good = is.good;
      };
      queue = a.queue;
      number = a.number;
      place = a.place;
    }

-- ---- what is refused

numbers-front : (count : ℕ) (xs c : List ℕ) → 4 * count ≤ length xs → numbers count (xs ++ c) ≡ numbers count xs
unfolding numbers
numbers-front zero xs c h = refl
numbers-front (suc n) xs c h =
    rw (number_at-left 4 0 xs c (omega arith), drop-append-le 4 xs c (omega arith), numbers-front n (drop 4 xs) c (omega (arith, length-drop 4 xs))) refl

numbers-left : (count from : ℕ) (b c : List ℕ) → from + 4 * count ≤ length b → numbers count (drop from (b ++ c)) ≡ numbers count (drop from b)
numbers-left count from b c h =
    ap (numbers count) (drop-append-le from b c (omega arith)) ∙ numbers-front count (drop from b) c (omega (arith, length-drop from b))

numbers-same : (count from : ℕ) (b c e : List ℕ) → from + 4 * count ≤ length b → numbers count (drop from (b ++ c)) ≡ numbers count (drop from (b ++ e))
numbers-same count from b c e h = numbers-left count from b c h ∙ sym (numbers-left count from b e h)

module _ (g : Geometry) (at : Expect) (b c e : List ℕ) (whole : length b ≡ 4096) (few : (header_of b).logged + (header_of b).revoked ≤ 1010) where
  abbrev h : Header
  h = header_of b

  logged-same : logged_of (b ++ c) h.logged ≡ logged_of (b ++ e) h.logged
  logged-same = numbers-same h.logged 56 b c e (omega (arith, whole, few))

  revoked-same : revoked_of (b ++ c) h.logged h.revoked ≡ revoked_of (b ++ e) h.logged h.revoked
  revoked-same = numbers-same h.revoked (56 + 4 * h.logged) b c e (omega (arith, whole, few))

  lists-same : (P : List ℕ → List ℕ → Type 0) → P (logged_of (b ++ c) h.logged) (revoked_of (b ++ c) h.logged h.revoked) → P (logged_of (b ++ e) h.logged) (revoked_of (b ++ e) h.logged h.revoked)
  lists-same P p =
      subst (λ (xs : List ℕ). P xs (revoked_of (b ++ e) h.logged h.revoked)) logged-same (subst (λ (ys : List ℕ). P (logged_of (b ++ c) h.logged) ys) revoked-same p)

  byte-same : (k : ℕ) → k < 4096 → slice_index (b ++ c) k ≡ slice_index (b ++ e) k
  byte-same k low = get_or_append_left b c 0 k (omega (arith, whole)) ∙ sym (get_or_append_left b e 0 k (omega (arith, whole)))

  rest-same : (from to offset : ℕ) → to ≡ 4096 → RefusesRest from to (b ++ c) offset → RefusesRest from to (b ++ e) offset
  rest-same from to offset size r =
      let high = r.high in
      record {
        low = r.low;
        high = r.high;
        before = λ k l m. sym (byte-same k (omega (arith, high, size, m))) ∙ r.before k l m;
        wrong = λ z. r.wrong (byte-same offset (omega (arith, high, size)) ∙ z);
      }

  alone : (cause : DescriptorRefusal) → further_of h ≡ 0 → Refuses g at b c cause → Refuses g at b e cause
  alone (Magic found) none r = r
  alone (Version found) none r = r
  alone (Queue found) none r = r
  alone (Number found) none r = r
  alone (Place found) none r = r
  alone (Previous place number) none r = r
  alone (Counts logged revoked) none r = r
  alone (Listed index found) none r = (r.0, lists-same (λ (xs ys : List ℕ). RefusesList (homes_of g) xs ys index found) r.1)
  alone (Rest offset) none r =
      (r.0, lists-same (λ (xs ys : List ℕ). AreRising 0 (homes_of g) xs × GoodRevoked (homes_of g) xs ys) r.1, rest-same _ _ offset (omega (arith, none)) r.2)
  alone OutOfMemory none r = tt

-- the same of a refusal
pub refuses-before : (g : Geometry) (at : Expect) (b c e : List ℕ) (cause : DescriptorRefusal) → length b ≡ 4096 → (further_of (header_of b) ≡ 1 → c ≡ e) → Refuses g at b c cause → Refuses g at b e cause
refuses-before g at b c e cause whole same r =
    let n = (header_of b).logged + (header_of b).revoked in
    elim (cases_lt 1010 n) [
      | inl many ↦ subst (λ (x : List ℕ). Refuses g at b x cause) (same (further-one n many)) r
      | inr few ↦ alone g at b c e whole few cause (further-none n few) r
    ]
