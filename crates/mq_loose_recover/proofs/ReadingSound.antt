-- A block that passes every test is that of a descriptor of the loose order.
use Rattle.std.proofs.Common.{◌≡◌, inl, inr, ℕ, zero, suc, ◌+◌, ◌-◌, ◌*◌, ◌^◌, ◌<◌, ◌≤◌, List, [], ◌∷◌, ◌++◌, length, take, drop, replicate, get_or, refl, sym, ap, subst, ◌∙◌, arith, length-drop}
use Rattle.std.proofs.lemmas.List.{ext_get_or, length-replicate, length-take-le, get_or-take, get_or-drop, get_or-replicate, get_or_append_left, get_or-append-add, take_all, drop-append-le}
use Rattle.std.specs.Prelude.{◌⊎◌}
use Rattle.std.specs.Int.{to_le_bytes, w32, w64}
use Rattle.mq_area.proofs.ReadingDescriptors.{number_at-left, rising-take}
use Rattle.mq_area.specs.Reading.{GoodRevoked, IsListRefusal, IsRestRefusal, IsZero, RefusesList as JournalRefuses, RefusesRest, header_of, logged_of}
use Rattle.mq_area.specs.declared.descriptor.Expect.{Expect}
use Rattle.mq_area.specs.declared.header.Header.{Header}
use Rattle.mq_area.specs.declared.refusal.DescriptorRefusal.{DescriptorRefusal}
use Rattle.mq_area.specs.declared.refusal.DescriptorRefusal.TheVariants.{Magic, Version, Queue, Number, Place, Previous, Counts, List as Listed, Rest, OutOfMemory}
use Rattle.mq_blocks.proofs.DescriptorLimits.{further-none}
use Rattle.mq_blocks.proofs.WindowsReadings.{bytes-number_at_4, bytes-number_at_8, length-numbers, list_bytes-numbers, number_at-below, window-add}
use Rattle.mq_blocks.specs.Descriptor.{AreRising, Descriptor, further_for, header_bytes, list_bytes}
use Rattle.mq_blocks.specs.Geometry.{area_of, homes_of}
use Rattle.mq_blocks.specs.Windows.{number_at, numbers, window}
use Rattle.mq_blocks.specs.declared.geometry.Geometry.{Geometry}
use Rattle.mq_loose_order.specs.Form.{listing, loose_bytes, loose_magic, number_bytes}
use Rattle.mq_loose_recover.proofs.Numbers.{length-wide, number_bytes-wide}
use Rattle.mq_loose_recover.specs.Checks.{IsDepsRefusal, StopsDeps}
use Rattle.mq_loose_recover.specs.Reading.{AcceptsLoose, GoodHeader, GoodLists, RefusesList, RefusesLoose, deps_of_block, end_of, wide_numbers}

-- what a block reads as
abbrev pub parsed : List ℕ → Descriptor
parsed block = record {
  queue = (header_of block).queue;
  number = (header_of block).number;
  place = (header_of block).place;
  prev_place = (header_of block).prev_place;
  prev_number = (header_of block).prev_number;
  logged = logged_of block (header_of block).logged;
  revoked = [];
}

-- the bytes at the start of a block, and those right behind
joined : (b xs ys : List ℕ) (m n k : ℕ) → xs ≡ window b 0 m → ys ≡ window b m n → k ≡ m + n → xs ++ ys ≡ window b 0 k
joined b xs ys m n k e f s =
    let z : 0 + m ≡ m = omega arith in
    ap (λ (l : List ℕ). l ++ ys) e ∙ ap (λ (l : List ℕ). window b 0 m ++ l) (f ∙ ap (λ (j : ℕ). window b j n) (sym z)) ∙ sym (window-add b 0 m n) ∙ ap (λ (j : ℕ). window b 0 j) (sym s)

-- the header's bytes are those of its fields
header-back : (b : List ℕ) → 56 ≤ length b → ((i : ℕ) → get_or b i 0 < 256) → number_at 8 0 b ≡ loose_magic → number_at 4 8 b ≡ 1
    → to_le_bytes w64 loose_magic ++ to_le_bytes w32 1 ++ to_le_bytes w32 (number_at 4 12 b) ++ to_le_bytes w64 (number_at 8 16 b) ++ to_le_bytes w64 (number_at 8 24 b)
    ++ to_le_bytes w64 (number_at 8 32 b) ++ to_le_bytes w64 (number_at 8 40 b) ++ to_le_bytes w32 (number_at 4 48 b) ++ to_le_bytes w32 (number_at 4 52 b)
    ≡ window b 0 56
header-back b whole small m v =
    let x₁ : to_le_bytes w64 loose_magic ≡ window b 0 8 = sym (ap (to_le_bytes w64) m) ∙ bytes-number_at_8 0 b (omega arith) small in
    let y₂ = joined b _ _ 8 4 12 x₁ (sym (ap (to_le_bytes w32) v) ∙ bytes-number_at_4 8 b (omega arith) small) refl in
    let y₃ = joined b _ _ 12 4 16 y₂ (bytes-number_at_4 12 b (omega arith) small) refl in
    let y₄ = joined b _ _ 16 8 24 y₃ (bytes-number_at_8 16 b (omega arith) small) refl in
    let y₅ = joined b _ _ 24 8 32 y₄ (bytes-number_at_8 24 b (omega arith) small) refl in
    let y₆ = joined b _ _ 32 8 40 y₅ (bytes-number_at_8 32 b (omega arith) small) refl in
    let y₇ = joined b _ _ 40 8 48 y₆ (bytes-number_at_8 40 b (omega arith) small) refl in
    let y₈ = joined b _ _ 48 4 52 y₇ (bytes-number_at_4 48 b (omega arith) small) refl in
    joined b _ _ 52 4 56 y₈ (bytes-number_at_4 52 b (omega arith) small) refl

header-of-parsed : (b : List ℕ) → 56 ≤ length b → ((i : ℕ) → get_or b i 0 < 256) → (header_of b).magic ≡ loose_magic → (header_of b).version ≡ 1 → header_bytes loose_magic 1 (listing (deps_of_block b) (parsed b)) ≡ window b 0 56
unfolding header_of header_bytes
header-of-parsed b whole small m v =
    rw (length-numbers (number_at 4 48 b) (drop 56 b), length-wide (number_at 4 52 b) (drop (56 + 4 * number_at 4 48 b) b)) (header-back b whole small m v)

zeros-back : (b : List ℕ) (e n : ℕ) → n ≤ length b → e ≤ n → IsZero e n b → replicate (n - e) 0 ≡ window b e (n - e)
zeros-back b e n whole h z =
    let len : length {A = ℕ} (replicate {A = ℕ} (n - e) 0) ≡ n - e = length-replicate {A = ℕ} (n - e) 0 in
    let wide : length (window b e (n - e)) ≡ n - e = length-take-le (n - e) (drop e b) (omega (arith, length-drop e b)) in
    ext_get_or 0 (replicate {A = ℕ} (n - e) 0) (window b e (n - e)) (len ∙ sym wide) (λ i l.
    let small : i < n - e = omega arith in
    get_or-replicate (n - e) i 0 0 small ∙ sym (get_or-take (n - e) (drop e b) i 0 small ∙ get_or-drop e b i 0 ∙ z (e + i) (omega arith) (omega arith)))

-- a block has the bytes of what it reads as
bytes-back : (b : List ℕ) → length b ≡ 4096 → ((i : ℕ) → get_or b i 0 < 256) → (header_of b).magic ≡ loose_magic → (header_of b).version ≡ 1 → end_of (header_of b) ≤ 4096 → IsZero (end_of (header_of b)) 4096 b
    → b ≡ loose_bytes (parsed b) (deps_of_block b)
unfolding loose_bytes
bytes-back b whole small m v fits z =
    let l = (header_of b).logged in
    let r = (header_of b).revoked in
    let deps = deps_of_block b in
    let head = header_bytes loose_magic 1 (listing deps (parsed b)) in
    let x = header-of-parsed b (omega arith) small m v in
    let y : head ++ list_bytes (logged_of b l) ≡ window b 0 (56 + 4 * l) = joined b _ _ 56 (4 * l) _ x (list_bytes-numbers l 56 b (omega arith) small) refl in
    let w : head ++ list_bytes (logged_of b l) ++ number_bytes deps ≡ window b 0 (56 + 4 * l + 8 * r) =
    joined b _ _ (56 + 4 * l) (8 * r) _ y (number_bytes-wide r (56 + 4 * l) b (omega arith) small) refl in
    let u : head ++ list_bytes (logged_of b l) ++ number_bytes deps ++ replicate (4096 - (56 + 4 * l + 8 * r)) 0 ≡ window b 0 4096 =
    joined b _ _ (56 + 4 * l + 8 * r) (4096 - (56 + 4 * l + 8 * r)) 4096 w (zeros-back b (56 + 4 * l + 8 * r) 4096 (omega arith) fits z) (omega arith) in
    let p : length (logged_of b l) ≡ l = length-numbers l (drop 56 b) in
    let q : length deps ≡ r = length-wide r (drop (56 + 4 * l) b) in
    sym (take_all 4096 b (omega arith)) ∙ rw (p, q) (sym u)

header-fits : (b : List ℕ) → ((i : ℕ) → get_or b i 0 < 256) → ((header_of b).queue < 2 ^ 32) × ((header_of b).number < 2 ^ 64)
unfolding header_of
header-fits b small = (number_at-below 4 12 b small, number_at-below 8 16 b small)

pub version-one : (v : ℕ) → (v ≡ 1) ⊎ (v ≡ 1) → v ≡ 1
version-one v h = elim h [ inl e ↦ e | inr e ↦ e ]

pub accepts : (g : Geometry) (at : Expect) (b : List ℕ) → length b ≡ 4096 → ((i : ℕ) → get_or b i 0 < 256) → GoodHeader (area_of g) at (header_of b) → GoodLists (homes_of g) b (header_of b) → IsZero (end_of (header_of b)) 4096 b
    → AcceptsLoose g at b (parsed b) (deps_of_block b)
accepts g at b whole small k l z =
    let p : length (logged_of b (header_of b).logged) ≡ (header_of b).logged = length-numbers (header_of b).logged (drop 56 b) in
    let q : length (deps_of_block b) ≡ (header_of b).revoked = length-wide (header_of b).revoked (drop (56 + 4 * (header_of b).logged) b) in
    let few = k.1.0 in
    let also = k.1.1 in
    let fits = k.1.2 in
    let follows = k.0.1 in
    let placed = k.0.0.1 in
    let ranges = header-fits b small in
    let none = further-none (length (logged_of b (header_of b).logged) + 0) (omega (arith, p, few)) in
    record {
      bytes = bytes-back b whole small k.0.0.0.0.0.0 (version-one (header_of b).version k.0.0.0.0.0.1) (omega (arith, few, also)) z;
      good = record {
        queue = ranges.0;
        number = ranges.1;
        place = placed.0;
        falls = follows.0;
        first = follows.1;
        before = λ s. let t = follows.2 s in omega (arith, none, p, t);
        counts = omega (arith, p, few);
        fits = omega (arith, none, p, fits);
        logged = l.0;
        revoked = tt;
        apart = tt;
      };
      loose = record { few = omega (arith, p, few); none = refl; deps_few = omega (arith, q, also); rising = l.1 };
      queue = k.0.0.0.0.1;
      number = k.0.0.0.1;
      place = placed.1;
    }

-- ---- the same for what the variables of the code hold

numbers-left : (n : ℕ) (xs ys : List ℕ) → 4 * n ≤ length xs → numbers n (xs ++ ys) ≡ numbers n xs
unfolding numbers
numbers-left zero xs ys fits = refl
numbers-left (suc n) xs ys fits =
    (λ i. number_at-left 4 0 xs ys (omega (arith, fits)) i ∷ numbers n (drop-append-le 4 xs ys (omega (arith, fits)) i))
    ∙ ap (λ (ms : List ℕ). number_at 4 0 xs ∷ ms) (numbers-left n (drop 4 xs) ys (omega (arith, fits, length-drop 4 xs)))

-- the logged blocks are all in the one block
pub logged-left : (b : List ℕ) (n : ℕ) → length b ≡ 4096 → n ≤ 256 → numbers n (drop (56 + 4 * 0) (b ++ b)) ≡ logged_of b n
logged-left b n whole few = ap (numbers n) (drop-append-le 56 b b (omega (arith, whole))) ∙ numbers-left n (drop 56 b) b (omega (arith, whole, few, length-drop 56 b))

pub zeros-left : (b : List ℕ) (count end : ℕ) → length b ≡ 4096 → count ≤ 1010 → end ≡ 56 + 4 * count → IsZero (56 + 4 * count) (4096 * (further_for count + 1)) (b ++ b) → IsZero end 4096 b
zeros-left b count end whole few is z k low high =
    let n = further-none count few in
    sym (get_or_append_left b b 0 k (omega (arith, whole, high))) ∙ z k (omega (arith, low, is)) (omega (arith, n, high))

pub header-good : (g : Geometry) (at : Expect) (b : List ℕ) (h : Header) (area : ℕ) → h ≡ header_of b → area ≡ area_of g → GoodHeader area at h → GoodHeader (area_of g) at (header_of b)
header-good g at b h area is area_is good = subst (λ (x : Header). GoodHeader (area_of g) at x) is (subst (λ (n : ℕ). GoodHeader n at h) area_is good)

pub lists-good : (g : Geometry) (b : List ℕ) (h : Header) (homes : ℕ) (logged deps : List ℕ) → h ≡ header_of b → homes ≡ homes_of g → logged ≡ logged_of b h.logged → deps ≡ wide_numbers h.revoked (drop (56 + 4 * h.logged) b) → AreRising 0 homes logged → AreRising 1 h.number deps
    → GoodLists (homes_of g) b (header_of b)
lists-good g b h homes logged deps is homes_is l d rising also =
    subst (λ (x : Header). GoodLists (homes_of g) b x) is (
      subst (AreRising 0 (homes_of g)) l (subst (λ (n : ℕ). AreRising 0 n logged) homes_is rising),
      subst (AreRising 1 h.number) d also,
    )

pub sound-along : (g : Geometry) (at : Expect) (b : List ℕ) (h : Header) (area homes : ℕ) (logged deps ls ds none : List ℕ) → length b ≡ 4096 → ((i : ℕ) → get_or b i 0 < 256) → h ≡ header_of b → area ≡ area_of g → homes ≡ homes_of g → ls ≡ logged → ds ≡ deps → none ≡ []
    → logged ≡ numbers h.logged (drop (56 + 4 * 0) (b ++ b)) → deps ≡ wide_numbers h.revoked (drop (56 + 4 * h.logged) b) → GoodHeader area at h → AreRising 0 homes ls → AreRising 1 h.number ds
    → IsZero (56 + 4 * (h.logged + 2 * h.revoked)) (4096 * (further_for (h.logged + 2 * h.revoked) + 1)) (b ++ b)
    → AcceptsLoose g at b (record { queue = h.queue; number = h.number; place = h.place; prev_place = h.prev_place; prev_number = h.prev_number; logged = logged; revoked = none }) deps
sound-along g at b h area homes logged deps ls ds none whole small is area_is homes_is p q none_is l d good rising also z =
    let few = good.1.0 in
    let many = good.1.1 in
    let l' : logged ≡ logged_of b h.logged = l ∙ logged-left b h.logged whole few in
    let zeros = zeros-left b (h.logged + 2 * h.revoked) (end_of h) whole (omega (arith, few, many)) (omega arith) z in
    let lists = lists-good g b h homes logged deps is homes_is l' d (subst (AreRising 0 homes) p rising) (subst (AreRising 1 h.number) q also) in
    let acc = accepts g at b whole small (header-good g at b h area is area_is good) lists (subst (λ (x : Header). IsZero (end_of x) 4096 b) is zeros) in
    let back : header_of b ≡ h = sym is in
    let logged_is : logged_of b (header_of b).logged ≡ logged = ap (λ (x : Header). logged_of b x.logged) back ∙ sym l' in
    let deps_is : deps_of_block b ≡ deps = ap (λ (x : Header). wide_numbers x.revoked (drop (56 + 4 * x.logged) b)) back ∙ sym d in
    let D : Descriptor = record { queue = h.queue; number = h.number; place = h.place; prev_place = h.prev_place; prev_number = h.prev_number; logged = logged; revoked = none } in
    let same : parsed b ≡ D = λ i. record {
      queue = (back i).queue;
      number = (back i).number;
      place = (back i).place;
      prev_place = (back i).prev_place;
      prev_number = (back i).prev_number;
      logged = logged_is i;
      revoked = sym none_is i;
    } in
    subst (λ (x : Descriptor). AcceptsLoose g at b x deps) same (subst (AcceptsLoose g at b (parsed b)) deps_is acc)

-- ---- what is refused

lists-at : (homes number : ℕ) (logged deps : List ℕ) (index found : ℕ) → JournalRefuses homes logged [] index found → RefusesList homes number logged deps index found
lists-at homes number logged deps index found r =
    let inside : index < length logged = let i = r.inside in omega (arith, i) in
    let zero_is : index - length logged ≡ 0 = omega (arith, inside) in
    record {
      inside = omega (arith, inside);
      found_is = r.found_is ∙ get_or_append_left logged [] 0 index inside ∙ sym (get_or_append_left logged deps 0 index inside);
      before = (r.before.0, subst (λ (n : ℕ). AreRising 1 number (take n deps)) (sym zero_is) tt);
      wrong = λ good. r.wrong (good.0, subst (GoodRevoked homes logged) (sym (take-nil (index + 1 - length logged))) (tt, tt));
    }
  where
    take-nil : (n : ℕ) → take {A = ℕ} n [] ≡ []
    take-nil zero = refl
    take-nil (suc n) = refl

pub refused-list : (g : Geometry) (at : Expect) (b : List ℕ) (h : Header) (area homes : ℕ) (logged ls : List ℕ) (e : DescriptorRefusal) → length b ≡ 4096 → h ≡ header_of b → area ≡ area_of g → homes ≡ homes_of g → ls ≡ logged → logged ≡ numbers h.logged (drop (56 + 4 * 0) (b ++ b))
    → GoodHeader area at h → IsListRefusal homes ls [] e → RefusesLoose g at b e
refused-list g at b h area homes logged ls (Listed index found) whole is area_is homes_is p l good r = (
  header-good g at b h area is area_is good,
  subst (λ (x : Header). RefusesList (homes_of g) x.number (logged_of b x.logged) (wide_numbers x.revoked (drop (56 + 4 * x.logged) b)) index found) is
      (lists-at (homes_of g) h.number (logged_of b h.logged) (wide_numbers h.revoked (drop (56 + 4 * h.logged) b)) index found
      (subst (λ (xs : List ℕ). JournalRefuses (homes_of g) xs [] index found) (p ∙ l ∙ logged-left b h.logged whole good.1.0) (subst (λ (n : ℕ). JournalRefuses n ls [] index found) homes_is r))),
)
refused-list g at b h area homes logged ls (Magic found) whole is area_is homes_is p l good r = absurd r
refused-list g at b h area homes logged ls (Version found) whole is area_is homes_is p l good r = absurd r
refused-list g at b h area homes logged ls (Queue found) whole is area_is homes_is p l good r = absurd r
refused-list g at b h area homes logged ls (Number found) whole is area_is homes_is p l good r = absurd r
refused-list g at b h area homes logged ls (Place found) whole is area_is homes_is p l good r = absurd r
refused-list g at b h area homes logged ls (Previous place number) whole is area_is homes_is p l good r = absurd r
refused-list g at b h area homes logged ls (Counts a c) whole is area_is homes_is p l good r = absurd r
refused-list g at b h area homes logged ls (Rest offset) whole is area_is homes_is p l good r = absurd r
refused-list g at b h area homes logged ls OutOfMemory whole is area_is homes_is p l good r = tt

deps-at : (homes number : ℕ) (logged deps : List ℕ) (index found : ℕ) → AreRising 0 homes logged → StopsDeps number (length logged) deps index found → RefusesList homes number logged deps index found
deps-at homes number logged deps index found rising r =
    let k = r.at in
    let inside = r.stops.0 in
    let index_is : index ≡ length logged + k = r.index_is in
    let here : index - length logged ≡ k = omega (arith, index_is) in
    let next : index + 1 - length logged ≡ k + 1 = omega (arith, index_is) in
    record {
      inside = omega (arith, index_is, inside);
      found_is = r.found_is ∙ sym (get_or-append-add logged deps k 0) ∙ ap (λ (n : ℕ). get_or (logged ++ deps) n 0) (sym index_is);
      before = (rising-take 0 homes index logged rising, subst (λ (n : ℕ). AreRising 1 number (take n deps)) (sym here) r.stops.1);
      wrong = λ good. r.stops.2 (subst (λ (n : ℕ). AreRising 1 number (take n deps)) next good.1);
    }

pub refused-deps : (g : Geometry) (at : Expect) (b : List ℕ) (h : Header) (area homes first : ℕ) (logged deps ls ds : List ℕ) (e : DescriptorRefusal) → length b ≡ 4096 → h ≡ header_of b → area ≡ area_of g → homes ≡ homes_of g → first ≡ h.logged → ls ≡ logged → ds ≡ deps
    → logged ≡ numbers h.logged (drop (56 + 4 * 0) (b ++ b)) → deps ≡ wide_numbers h.revoked (drop (56 + 4 * h.logged) b)
    → GoodHeader area at h → AreRising 0 homes ls → IsDepsRefusal h.number first ds e → RefusesLoose g at b e
refused-deps g at b h area homes first logged deps ls ds (Listed index found) whole is area_is homes_is first_is p q l d good rising r =
    let l' : ls ≡ logged_of b h.logged = p ∙ l ∙ logged-left b h.logged whole good.1.0 in
    let count : first ≡ length (logged_of b h.logged) = first_is ∙ sym (length-numbers h.logged (drop 56 b)) in (
      header-good g at b h area is area_is good,
      subst (λ (x : Header). RefusesList (homes_of g) x.number (logged_of b x.logged) (wide_numbers x.revoked (drop (56 + 4 * x.logged) b)) index found) is
          (deps-at (homes_of g) h.number (logged_of b h.logged) (wide_numbers h.revoked (drop (56 + 4 * h.logged) b)) index found
          (subst (AreRising 0 (homes_of g)) l' (subst (λ (n : ℕ). AreRising 0 n ls) homes_is rising))
          (subst (λ (n : ℕ). StopsDeps h.number n (wide_numbers h.revoked (drop (56 + 4 * h.logged) b)) index found) count (subst (λ (xs : List ℕ). StopsDeps h.number first xs index found) (q ∙ d) r))),
    )
refused-deps g at b h area homes first logged deps ls ds (Magic found) whole is area_is homes_is first_is p q l d good rising r = absurd r
refused-deps g at b h area homes first logged deps ls ds (Version found) whole is area_is homes_is first_is p q l d good rising r = absurd r
refused-deps g at b h area homes first logged deps ls ds (Queue found) whole is area_is homes_is first_is p q l d good rising r = absurd r
refused-deps g at b h area homes first logged deps ls ds (Number found) whole is area_is homes_is first_is p q l d good rising r = absurd r
refused-deps g at b h area homes first logged deps ls ds (Place found) whole is area_is homes_is first_is p q l d good rising r = absurd r
refused-deps g at b h area homes first logged deps ls ds (Previous place number) whole is area_is homes_is first_is p q l d good rising r = absurd r
refused-deps g at b h area homes first logged deps ls ds (Counts a c) whole is area_is homes_is first_is p q l d good rising r = absurd r
refused-deps g at b h area homes first logged deps ls ds (Rest offset) whole is area_is homes_is first_is p q l d good rising r = absurd r
refused-deps g at b h area homes first logged deps ls ds OutOfMemory whole is area_is homes_is first_is p q l d good rising r = tt

rest-at : (b : List ℕ) (count end offset : ℕ) → length b ≡ 4096 → count ≤ 1010 → end ≡ 56 + 4 * count → RefusesRest (56 + 4 * count) (4096 * (further_for count + 1)) (b ++ b) offset → RefusesRest end 4096 b offset
rest-at b count end offset whole few is r =
    let n = further-none count few in
    let low = r.low in
    let high = r.high in
    let inside : offset < length b = omega (arith, n, high, whole) in
    record {
      low = omega (arith, low, is);
      high = omega (arith, inside, whole);
      before = λ k from to. sym (get_or_append_left b b 0 k (omega (arith, to, inside))) ∙ r.before k (omega (arith, from, is)) to;
      wrong = λ e. r.wrong (get_or_append_left b b 0 offset inside ∙ e);
    }

pub refused-rest : (g : Geometry) (at : Expect) (b : List ℕ) (h : Header) (area homes : ℕ) (logged deps ls ds : List ℕ) (e : DescriptorRefusal) → length b ≡ 4096 → h ≡ header_of b → area ≡ area_of g → homes ≡ homes_of g → ls ≡ logged → ds ≡ deps
    → logged ≡ numbers h.logged (drop (56 + 4 * 0) (b ++ b)) → deps ≡ wide_numbers h.revoked (drop (56 + 4 * h.logged) b)
    → GoodHeader area at h → AreRising 0 homes ls → AreRising 1 h.number ds → IsRestRefusal (56 + 4 * (h.logged + 2 * h.revoked)) (4096 * (further_for (h.logged + 2 * h.revoked) + 1)) (b ++ b) e → RefusesLoose g at b e
refused-rest g at b h area homes logged deps ls ds (Rest offset) whole is area_is homes_is p q l d good rising also r =
    let few = good.1.0 in
    let many = good.1.1 in
    let l' : logged ≡ logged_of b h.logged = l ∙ logged-left b h.logged whole few in (
      header-good g at b h area is area_is good,
      lists-good g b h homes logged deps is homes_is l' d (subst (AreRising 0 homes) p rising) (subst (AreRising 1 h.number) q also),
      subst (λ (x : Header). RefusesRest (end_of x) 4096 b offset) is (rest-at b (h.logged + 2 * h.revoked) (end_of h) offset whole (omega (arith, few, many)) (omega arith) r),
    )
refused-rest g at b h area homes logged deps ls ds (Magic found) whole is area_is homes_is p q l d good rising also r = absurd r
refused-rest g at b h area homes logged deps ls ds (Version found) whole is area_is homes_is p q l d good rising also r = absurd r
refused-rest g at b h area homes logged deps ls ds (Queue found) whole is area_is homes_is p q l d good rising also r = absurd r
refused-rest g at b h area homes logged deps ls ds (Number found) whole is area_is homes_is p q l d good rising also r = absurd r
refused-rest g at b h area homes logged deps ls ds (Place found) whole is area_is homes_is p q l d good rising also r = absurd r
refused-rest g at b h area homes logged deps ls ds (Previous place number) whole is area_is homes_is p q l d good rising also r = absurd r
refused-rest g at b h area homes logged deps ls ds (Counts a c) whole is area_is homes_is p q l d good rising also r = absurd r
refused-rest g at b h area homes logged deps ls ds (Listed index found) whole is area_is homes_is p q l d good rising also r = absurd r
refused-rest g at b h area homes logged deps ls ds OutOfMemory whole is area_is homes_is p q l d good rising also r = tt
