-- The blocks that pass every test are those of a descriptor.
use Rattle.std.proofs.Common.{◌≡◌, inl, inr, ℕ, ◌+◌, ◌-◌, ◌*◌, ◌^◌, ◌<◌, ◌≤◌, List, ◌++◌, length, take, drop, replicate, get_or, refl, sym, ap, subst, ◌∙◌, arith, length-append, length-drop}
use Rattle.std.proofs.lemmas.Bool.{cases_lt}
use Rattle.std.proofs.lemmas.List.{ext_get_or, length-replicate, length-take-le, get_or-take, get_or-drop, get_or-replicate, get_or_append_left, get_or-append-add, take_all, take-take, take_at, drop_at}
use Rattle.std.specs.Int.{to_le_bytes, w32, w64}
use Rattle.mq_blocks.specs.Descriptor.{Descriptor, IsDescriptor, IsGood, AreRising, list_bytes, header_bytes, descriptor_text, further, further_block, further_for, journal_form, journal_magic, last_block, most_listed}
use Rattle.mq_blocks.specs.Limits.{list_limit}
use Rattle.mq_blocks.specs.Geometry.{homes_of, area_of, write_limit}
use Rattle.mq_blocks.specs.declared.geometry.Geometry.{Geometry}
use Rattle.mq_blocks.specs.Windows.{window, number_at, numbers}
use Rattle.mq_blocks.proofs.DescriptorLimits.{further-none, further-one, limit-high, listed-high}
use Rattle.mq_area.specs.Reading.{Accepts, journal_stamp, header_of, logged_of, revoked_of, further_of, end_of, size_of, GoodCounts, GoodLists, GoodRevoked, IsZero, RefusesRest}
use Rattle.mq_area.specs.declared.descriptor.Expect.{Expect}
use Rattle.mq_area.specs.declared.header.Header.{Header}
use Rattle.mq_area.proofs.ReadingDescriptors.{parsed, header-left, entries-fit, descriptor-unique, accepted-homes}
use Rattle.mq_blocks.proofs.WindowsReadings.{window-add, bytes-number_at_4, bytes-number_at_8, number_at-below, length-numbers, list_bytes-numbers}

-- the bytes at the start of a block, and those right behind
joined : (b xs ys : List ℕ) (m n k : ℕ) → xs ≡ window b 0 m → ys ≡ window b m n → k ≡ m + n → xs ++ ys ≡ window b 0 k
joined b xs ys m n k e f s =
    let z : 0 + m ≡ m = omega arith in
    ap (λ (l : List ℕ). l ++ ys) e ∙ ap (λ (l : List ℕ). window b 0 m ++ l) (f ∙ ap (λ (j : ℕ). window b j n) (sym z)) ∙ sym (window-add b 0 m n) ∙ ap (λ (j : ℕ). window b 0 j) (sym s)

-- the header's bytes are those of its fields
header-back : (b : List ℕ) → 56 ≤ length b → ((i : ℕ) → get_or b i 0 < 256) → number_at 8 0 b ≡ journal_magic
    → to_le_bytes w64 journal_magic ++ to_le_bytes w32 (number_at 4 8 b) ++ to_le_bytes w32 (number_at 4 12 b) ++ to_le_bytes w64 (number_at 8 16 b) ++ to_le_bytes w64 (number_at 8 24 b)
    ++ to_le_bytes w64 (number_at 8 32 b) ++ to_le_bytes w64 (number_at 8 40 b) ++ to_le_bytes w32 (number_at 4 48 b) ++ to_le_bytes w32 (number_at 4 52 b)
    ≡ window b 0 56
header-back b whole small m =
    let x₁ : to_le_bytes w64 journal_magic ≡ window b 0 8 = sym (ap (to_le_bytes w64) m) ∙ bytes-number_at_8 0 b (omega arith) small in
    let y₂ = joined b _ _ 8 4 12 x₁ (bytes-number_at_4 8 b (omega arith) small) refl in
    let y₃ = joined b _ _ 12 4 16 y₂ (bytes-number_at_4 12 b (omega arith) small) refl in
    let y₄ = joined b _ _ 16 8 24 y₃ (bytes-number_at_8 16 b (omega arith) small) refl in
    let y₅ = joined b _ _ 24 8 32 y₄ (bytes-number_at_8 24 b (omega arith) small) refl in
    let y₆ = joined b _ _ 32 8 40 y₅ (bytes-number_at_8 32 b (omega arith) small) refl in
    let y₇ = joined b _ _ 40 8 48 y₆ (bytes-number_at_8 40 b (omega arith) small) refl in
    let y₈ = joined b _ _ 48 4 52 y₇ (bytes-number_at_4 48 b (omega arith) small) refl in
    joined b _ _ 52 4 56 y₈ (bytes-number_at_4 52 b (omega arith) small) refl

header-of-parsed : (b : List ℕ) → 56 ≤ length b → ((i : ℕ) → get_or b i 0 < 256) → (header_of b).magic ≡ journal_magic → header_bytes journal_magic (header_of b).version (parsed b b) ≡ window b 0 56
unfolding header_of header_bytes
header-of-parsed b whole small m =
    rw (length-numbers (number_at 4 48 b) (drop 56 b), length-numbers (number_at 4 52 b) (drop (56 + 4 * number_at 4 48 b) b)) (header-back b whole small m)

zeros-back : (b : List ℕ) (e n : ℕ) → n ≤ length b → e ≤ n → IsZero e n b → replicate (n - e) 0 ≡ window b e (n - e)
zeros-back b e n whole h z =
    let len : length {A = ℕ} (replicate {A = ℕ} (n - e) 0) ≡ n - e = length-replicate {A = ℕ} (n - e) 0 in
    let wide : length (window b e (n - e)) ≡ n - e = length-take-le (n - e) (drop e b) (omega (arith, length-drop e b)) in
    ext_get_or 0 (replicate {A = ℕ} (n - e) 0) (window b e (n - e)) (len ∙ sym wide) (λ i l.
    let small : i < n - e = omega arith in
    get_or-replicate (n - e) i 0 0 small ∙ sym (get_or-take (n - e) (drop e b) i 0 small ∙ get_or-drop e b i 0 ∙ z (e + i) (omega arith) (omega arith)))

-- bytes begin with the text of what they read as
text-back : (b : List ℕ) → 56 ≤ length b → size_of (header_of b) ≤ length b → ((i : ℕ) → get_or b i 0 < 256) → (header_of b).magic ≡ journal_magic
    → end_of (header_of b) ≤ size_of (header_of b) → IsZero (end_of (header_of b)) (size_of (header_of b)) b → take (size_of (header_of b)) b ≡ descriptor_text journal_magic (header_of b).version (parsed b b)
unfolding descriptor_text
text-back b some whole small m fits z =
    let v = (header_of b).version in
    let l = (header_of b).logged in
    let r = (header_of b).revoked in
    let n = size_of (header_of b) in
    let x = header-of-parsed b some small m in
    let y : header_bytes journal_magic v (parsed b b) ++ list_bytes (logged_of b l) ≡ window b 0 (56 + 4 * l) = joined b _ _ 56 (4 * l) _ x (list_bytes-numbers l 56 b (omega arith) small) refl in
    let w : header_bytes journal_magic v (parsed b b) ++ list_bytes (logged_of b l) ++ list_bytes (revoked_of b l r) ≡ window b 0 (56 + 4 * l + 4 * r) =
    joined b _ _ (56 + 4 * l) (4 * r) _ y (list_bytes-numbers r (56 + 4 * l) b (omega arith) small) refl in
    let u : header_bytes journal_magic v (parsed b b) ++ list_bytes (logged_of b l) ++ list_bytes (revoked_of b l r) ++ replicate (n - (56 + 4 * l + 4 * r)) 0 ≡ window b 0 n =
    joined b _ _ (56 + 4 * l + 4 * r) (n - (56 + 4 * l + 4 * r)) n w (zeros-back b (56 + 4 * l + 4 * r) n whole fits z) (omega arith) in
    let p : length (logged_of b l) ≡ l = length-numbers l (drop 56 b) in
    let q : length (revoked_of b l r) ≡ r = length-numbers r (drop (56 + 4 * l) b) in
    rw (p, q) (sym u)

header-fits : (b : List ℕ) → ((i : ℕ) → get_or b i 0 < 256) → ((header_of b).queue < 2 ^ 32) × ((header_of b).number < 2 ^ 64)
unfolding header_of
header-fits b small = (number_at-below 4 12 b small, number_at-below 8 16 b small)

both-small : (b c : List ℕ) → ((i : ℕ) → get_or b i 0 < 256) → ((i : ℕ) → get_or c i 0 < 256) → (i : ℕ) → get_or (b ++ c) i 0 < 256
both-small b c x y i = elim (cases_lt i (length b)) [
  | inl l ↦ let e : get_or (b ++ c) i 0 ≡ get_or b i 0 = get_or_append_left b c 0 i l in let s = x i in omega arith
  | inr g ↦
      let k : length b + (i - length b) ≡ i = omega arith in
      let e : get_or (b ++ c) i 0 ≡ get_or c (i - length b) 0 = sym (ap (λ (j : ℕ). get_or (b ++ c) j 0) k) ∙ get_or-append-add b c (i - length b) 0 in
      let s = y (i - length b) in
      omega arith
]

-- the two blocks of what they read as
blocks-back : (b c : List ℕ) → length b ≡ 4096 → length c ≡ 4096 → ((i : ℕ) → get_or b i 0 < 256) → ((i : ℕ) → get_or c i 0 < 256) → (header_of b).magic ≡ journal_magic
    → (header_of b).logged + (header_of b).revoked ≤ list_limit → IsZero (end_of (header_of b)) (size_of (header_of b)) (b ++ c)
    → (b ≡ last_block journal_form (header_of b).version (parsed b (b ++ c))) × (further (parsed b (b ++ c)) ≡ 1 → c ≡ further_block journal_form (header_of b).version (parsed b (b ++ c)))
unfolding last_block further_block
blocks-back b c whole other small more m few z =
    let w = b ++ c in
    let head : header_of w ≡ header_of b = header-left b c (omega arith) in
    let long : length w ≡ 8192 = omega (arith, length-append b c) in
    let n = size_of (header_of b) in
    let fit = entries-fit ((header_of b).logged + (header_of b).revoked) few in
    let least : further_of (header_of b) ≤ 1 = Rattle.mq_blocks.proofs.DescriptorLimits.further-most ((header_of b).logged + (header_of b).revoked) in
    let M : Header → Type 0 = λ h. h.magic ≡ journal_magic in
    let F : Header → Type 0 = λ h. end_of h ≤ size_of h in
    let S : Header → Type 0 = λ h. size_of h ≤ length w in
    let Z : Header → Type 0 = λ h. IsZero (end_of h) (size_of h) w in
    let back = text-back w (omega arith) (subst S (sym head) (omega arith)) (both-small b c small more) (subst M (sym head) m) (subst F (sym head) (omega arith)) (subst Z (sym head) z) in
    let Q : Header → Type 0 = λ h. take (size_of h) w ≡ descriptor_text journal_magic h.version (record { queue = h.queue; number = h.number; place = h.place; prev_place = h.prev_place; prev_number = h.prev_number; logged = logged_of w h.logged; revoked = revoked_of w h.logged h.revoked }) in
    let text : take n w ≡ descriptor_text journal_magic (header_of b).version (parsed b w) = subst Q head back in
    let p : length (logged_of w (header_of b).logged) ≡ (header_of b).logged = length-numbers (header_of b).logged (drop 56 w) in
    let q : length (revoked_of w (header_of b).logged (header_of b).revoked) ≡ (header_of b).revoked = length-numbers (header_of b).revoked (drop (56 + 4 * (header_of b).logged) w) in
    let first : b ≡ take 4096 (take n w) = sym (take_at b c 4096 whole) ∙ sym (take-take 4096 n w (omega arith)) in (
      first ∙ ap (λ (xs : List ℕ). take 4096 xs) text,
      λ one.
          let count : further (parsed b w) ≡ further_of (header_of b) = rw (p, q) refl in
          let all : take n w ≡ w = take_all n w (omega (arith, count, one)) in
          sym (drop_at b c 4096 whole) ∙ ap (λ (xs : List ℕ). drop 4096 xs) (sym all ∙ text),
    )

pub accepts : (g : Geometry) (at : Expect) (b c : List ℕ) → length b ≡ 4096 → length c ≡ 4096 → ((i : ℕ) → get_or b i 0 < 256) → ((i : ℕ) → get_or c i 0 < 256) → GoodCounts journal_stamp (area_of g) (write_limit g) at (header_of b) → GoodLists (homes_of g) (b ++ c) (header_of b)
    → IsZero (end_of (header_of b)) (size_of (header_of b)) (b ++ c) → Accepts g at b c (parsed b (b ++ c))
accepts g at b c whole other small more k l z =
    let w = b ++ c in
    let p : length (logged_of w (header_of b).logged) ≡ (header_of b).logged = length-numbers (header_of b).logged (drop 56 w) in
    let q : length (revoked_of w (header_of b).logged (header_of b).revoked) ≡ (header_of b).revoked = length-numbers (header_of b).revoked (drop (56 + 4 * (header_of b).logged) w) in
    let count : further (parsed b w) ≡ further_of (header_of b) = rw (p, q) refl in
    let few = k.1.0 in
    let fits = k.1.1 in
    let follows = k.0.1 in
    let placed = k.0.0.1 in
    let ranges = header-fits b small in
    let most = listed-high (write_limit g) (header_of b).version (limit-high g) in
    let blocks = blocks-back b c whole other small more k.0.0.0.0.0.0 (omega arith) z in
    record {
      is = record {
        version = (header_of b).version;
        known = k.0.0.0.0.0.1;
        last = blocks.0;
        rest = blocks.1;
        good = record {
          queue = ranges.0;
          number = ranges.1;
          place = placed.0;
          falls = follows.0;
          first = follows.1;
          before = λ s. let t = follows.2 s in omega (arith, count, p);
          counts = omega arith;
          fits = omega (arith, count, p);
          logged = l.0;
          revoked = l.1.0;
          apart = l.1.1;
        };
      };
      queue = k.0.0.0.0.1;
      number = k.0.0.0.1;
      place = placed.1;
    }

-- The same for what the variables of the code hold.
pub few-along : (area limit : ℕ) (at : Expect) (h : Header) (logged revoked xs ys bs cs : List ℕ) → limit ≤ list_limit → GoodCounts journal_stamp area limit at h → bs ≡ logged → cs ≡ revoked → logged ≡ numbers h.logged xs → revoked ≡ numbers h.revoked ys → length bs + length cs ≤ list_limit
few-along area limit at h logged revoked xs ys bs cs low c p q l r =
    let few = c.1.0 in
    let most = listed-high limit h.version low in
    let m : length bs ≡ h.logged = ap (λ (zs : List ℕ). length zs) (p ∙ l) ∙ length-numbers h.logged xs in
    let n : length cs ≡ h.revoked = ap (λ (zs : List ℕ). length zs) (q ∙ r) ∙ length-numbers h.revoked ys in
    omega arith

-- so many entries stand in the two blocks
pub counts-fit : (area limit : ℕ) (at : Expect) (h : Header) → limit ≤ list_limit → GoodCounts journal_stamp area limit at h → h.logged + h.revoked ≤ list_limit
counts-fit area limit at h low c = let few = c.1.0 in let most = listed-high limit h.version low in omega arith

pub accepts-along : (g : Geometry) (at : Expect) (b d : List ℕ) (h : Header) (area limit homes count : ℕ) (bs cs logged revoked : List ℕ) → length b ≡ 4096 → length d ≡ 4096 → ((i : ℕ) → get_or b i 0 < 256) → ((i : ℕ) → get_or d i 0 < 256)
    → h ≡ header_of b → area ≡ area_of g → limit ≡ write_limit g → homes ≡ homes_of g → count ≡ h.logged + h.revoked
    → bs ≡ logged → cs ≡ revoked → logged ≡ numbers h.logged (drop (56 + 4 * 0) (b ++ d)) → revoked ≡ revoked_of (b ++ d) h.logged h.revoked
    → GoodCounts journal_stamp area limit at h → AreRising 0 homes bs × GoodRevoked homes bs cs → IsZero (56 + 4 * count) (4096 * (further_for count + 1)) (b ++ d)
    → Accepts g at b d (record { queue = h.queue; number = h.number; place = h.place; prev_place = h.prev_place; prev_number = h.prev_number; logged = logged; revoked = revoked })
accepts-along g at b d h area limit homes count bs cs logged revoked whole other small more e n y k o p q l m c lists z =
    let w = b ++ d in
    let A : ℕ → Type 0 = λ x. GoodCounts journal_stamp x limit at h in
    let B : ℕ → Type 0 = λ x. GoodCounts journal_stamp (area_of g) x at h in
    let C : Header → Type 0 = λ x. GoodCounts journal_stamp (area_of g) (write_limit g) at x in
    let D : ℕ → Type 0 = λ x. AreRising 0 x bs × GoodRevoked x bs cs in
    let E : List ℕ → Type 0 = λ x. AreRising 0 (homes_of g) x × GoodRevoked (homes_of g) x cs in
    let F : List ℕ → Type 0 = λ x. AreRising 0 (homes_of g) (logged_of w h.logged) × GoodRevoked (homes_of g) (logged_of w h.logged) x in
    let G : Header → Type 0 = λ x. GoodLists (homes_of g) w x in
    let I : Header → Type 0 = λ x. IsZero (end_of x) (size_of x) w in
    let K : Header → Type 0 = λ x. Accepts g at b d (record { queue = x.queue; number = x.number; place = x.place; prev_place = x.prev_place; prev_number = x.prev_number; logged = logged_of w x.logged; revoked = revoked_of w x.logged x.revoked }) in
    let L : List ℕ → Type 0 = λ x. Accepts g at b d (record { queue = h.queue; number = h.number; place = h.place; prev_place = h.prev_place; prev_number = h.prev_number; logged = x; revoked = revoked_of w h.logged h.revoked }) in
    let M : List ℕ → Type 0 = λ x. Accepts g at b d (record { queue = h.queue; number = h.number; place = h.place; prev_place = h.prev_place; prev_number = h.prev_number; logged = logged; revoked = x }) in
    let T : ℕ → Type 0 = λ x. IsZero (56 + 4 * x) (4096 * (further_for x + 1)) w in
    let U : ℕ → Type 0 = λ x. IsZero x (size_of h) w in
    let end : 56 + 4 * (h.logged + h.revoked) ≡ end_of h = omega arith in
    let zeros : IsZero (end_of h) (size_of h) w = subst U end (subst T o z) in
    let good : GoodLists (homes_of g) w (header_of b) = subst G e (subst F (q ∙ m) (subst E (p ∙ l) (subst D k lists))) in
    subst M (sym m) (subst L (sym l) (subst K (sym e) (accepts g at b d whole other small more (subst C e (subst B y (subst A n c))) good (subst I e zeros))))

-- at most one descriptor is accepted
pub accepted-once : (g : Geometry) (at : Expect) (b c : List ℕ) (d e : Descriptor) → Accepts g at b c d → Accepts g at b c e → d ≡ e
accepted-once g at b c d e a f = descriptor-unique (write_limit g) (homes_of g) b c d e (limit-high g) (accepted-homes g) a.is f.is

-- ---- the bytes after the lists, in one block or the other

pub zero-one : (b c : List ℕ) (count : ℕ) → length b ≡ 4096 → count ≤ 1010 → IsZero (56 + 4 * count) 4096 b → IsZero (56 + 4 * count) (4096 * (further_for count + 1)) (b ++ c)
zero-one b c count whole few z k low high = let n = further-none count few in get_or_append_left b c 0 k (omega arith) ∙ z k low (omega arith)

pub zero-two : (b c : List ℕ) (count : ℕ) → length b ≡ 4096 → 1010 < count → IsZero (4 * (count - 1010)) 4096 c → IsZero (56 + 4 * count) (4096 * (further_for count + 1)) (b ++ c)
zero-two b c count whole many z k low high =
    let n = further-one count many in
    let at : length b + (k - 4096) ≡ k = omega arith in
    sym (ap (λ (j : ℕ). get_or (b ++ c) j 0) at) ∙ get_or-append-add b c (k - 4096) 0 ∙ z (k - 4096) (omega arith) (omega arith)

pub rest-one : (b c : List ℕ) (count offset : ℕ) → length b ≡ 4096 → count ≤ 1010 → RefusesRest (56 + 4 * count) 4096 b offset → RefusesRest (56 + 4 * count) (4096 * (further_for count + 1)) (b ++ c) offset
rest-one b c count offset whole few r =
    let n = further-none count few in
    let low = r.low in
    let high = r.high in
    record {
      low = low;
      high = omega arith;
      before = λ k from to. get_or_append_left b c 0 k (omega arith) ∙ r.before k from to;
      wrong = λ e. r.wrong (sym (get_or_append_left b c 0 offset (omega arith)) ∙ e);
    }

pub rest-two : (b c : List ℕ) (count offset at : ℕ) → length b ≡ 4096 → 1010 < count → at ≡ length b + offset → RefusesRest (4 * (count - 1010)) 4096 c offset → RefusesRest (56 + 4 * count) (4096 * (further_for count + 1)) (b ++ c) at
rest-two b c count offset at whole many is r =
    let n = further-one count many in
    let low = r.low in
    let high = r.high in
    record {
      low = omega arith;
      high = omega arith;
      before = λ k from to.
          let there : length b + (k - 4096) ≡ k = omega arith in
          sym (ap (λ (j : ℕ). get_or (b ++ c) j 0) there) ∙ get_or-append-add b c (k - 4096) 0 ∙ r.before (k - 4096) (omega arith) (omega arith);
      wrong = λ e. r.wrong (sym (get_or-append-add b c offset 0) ∙ ap (λ (j : ℕ). get_or (b ++ c) j 0) (sym is) ∙ e);
    }
