-- A block is that of one descriptor of the loose order at most, and passes every test then.
use Rattle.std.proofs.Common.{◌≡◌, inl, ℕ, ◌+◌, ◌-◌, ◌*◌, ◌≤◌, List, [], ◌++◌, length, drop, replicate, get_or, refl, sym, ap, subst, ◌∙◌, arith, lit<, append_assoc, length-append}
use Rattle.std.proofs.lemmas.List.{drop-drop, drop_at, get_or-drop, get_or-replicate}
use Rattle.byteorder.specs.Numbers.{little_number-reads_back}
use Rattle.mq_area.proofs.DescriptorWritten.{length-header_bytes}
use Rattle.mq_area.proofs.ReadingDescriptors.{accepted-homes}
use Rattle.mq_area.specs.Reading.{IsZero, header_of, logged_of}
use Rattle.mq_area.specs.declared.descriptor.Expect.{Expect}
use Rattle.mq_area.specs.declared.header.Header.{Header}
use Rattle.mq_blocks.proofs.DescriptorLimits.{further-none}
use Rattle.mq_blocks.proofs.WindowsWritten.{length-list_bytes}
use Rattle.mq_blocks.specs.Descriptor.{AreRising, Descriptor, further, header_bytes, list_bytes}
use Rattle.mq_blocks.specs.Geometry.{area_of, homes_of}
use Rattle.mq_blocks.specs.Windows.{number_at, numbers}
use Rattle.mq_blocks.specs.declared.geometry.Geometry.{Geometry}
use Rattle.mq_loose_order.proofs.FormSound.{IsLooseBlock, count-is, logged-is, magic-is, number-is, place-is, prev_number-is, prev_place-is, queue-is}
use Rattle.mq_loose_order.proofs.NumbersWritten.{length-number_bytes}
use Rattle.mq_loose_order.specs.Form.{listing, loose_bytes, loose_limit, loose_magic, number_bytes}
use Rattle.mq_loose_recover.proofs.Numbers.{wide-number_bytes}
use Rattle.mq_loose_recover.proofs.ReadingSound.{parsed}
use Rattle.mq_loose_recover.specs.Reading.{AcceptsLoose, GoodHeader, GoodLists, deps_of_block, end_of, wide_numbers}

-- the header of a descriptor that depends on these numbers
abbrev pub header_for : Descriptor → List ℕ → Header
header_for d deps = record {
  magic = loose_magic;
  version = 1;
  queue = d.queue;
  number = d.number;
  place = d.place;
  prev_place = d.prev_place;
  prev_number = d.prev_number;
  logged = length d.logged;
  revoked = length deps;
}

version-at : (d : Descriptor) (deps rest : List ℕ) → number_at 4 8 (header_bytes loose_magic 1 (listing deps d) ++ rest) ≡ 1
unfolding number_at header_bytes
version-at d deps rest = little_number-reads_back 4 1 [] (lit< tt)

deps_count-at : (d : Descriptor) (deps rest : List ℕ) → length deps ≤ loose_limit → number_at 4 52 (header_bytes loose_magic 1 (listing deps d) ++ rest) ≡ length deps
unfolding number_at header_bytes
deps_count-at d deps rest few = little_number-reads_back 4 (length deps) [] (omega (arith, few))

-- the zeros at the end
abbrev zeros_of : Descriptor → List ℕ → List ℕ
zeros_of d deps = replicate (4096 - (56 + 4 * length d.logged + 8 * length deps)) 0

-- the bytes in their three parts
joined-of : (g : Geometry) (at : Expect) (b : List ℕ) (d : Descriptor) (deps : List ℕ) → AcceptsLoose g at b d deps → b ≡ (header_bytes loose_magic 1 (listing deps d) ++ list_bytes d.logged) ++ (number_bytes deps ++ zeros_of d deps)
unfolding loose_bytes
joined-of g at b d deps a = a.bytes ∙ append_assoc (header_bytes loose_magic 1 (listing deps d) ++ list_bytes d.logged) (number_bytes deps) (zeros_of d deps)

pub block-of : (g : Geometry) (at : Expect) (b : List ℕ) (d : Descriptor) (deps : List ℕ) → AcceptsLoose g at b d deps → IsLooseBlock (homes_of g) b d deps
block-of g at b d deps a = record {
  tail = number_bytes deps ++ zeros_of d deps;
  joined = joined-of g at b d deps a ∙ append_assoc (header_bytes loose_magic 1 (listing deps d)) (list_bytes d.logged) (number_bytes deps ++ zeros_of d deps);
  few = a.loose.few;
  none = a.loose.none;
  limit = loose_limit;
  good = a.good;
}

pub header-is : (g : Geometry) (at : Expect) (b : List ℕ) (d : Descriptor) (deps : List ℕ) → AcceptsLoose g at b d deps → header_of b ≡ header_for d deps
unfolding header_of
header-is g at b d deps a =
    let k = block-of g at b d deps a in
    let rest = list_bytes d.logged ++ k.tail in
    let version : number_at 4 8 b ≡ 1 = ap (number_at 4 8) k.joined ∙ version-at d deps rest in
    let many : number_at 4 52 b ≡ length deps = ap (number_at 4 52) k.joined ∙ deps_count-at d deps rest a.loose.deps_few in
    λ i. record {
      magic = magic-is (homes_of g) b d deps k i;
      version = version i;
      queue = queue-is (homes_of g) b d deps k i;
      number = number-is (homes_of g) b d deps k i;
      place = place-is (homes_of g) b d deps k i;
      prev_place = prev_place-is (homes_of g) b d deps k i;
      prev_number = prev_number-is (homes_of g) b d deps k i;
      logged = count-is (homes_of g) b d deps k i;
      revoked = many i;
    }

logged-at : (g : Geometry) (at : Expect) (b : List ℕ) (d : Descriptor) (deps : List ℕ) → AcceptsLoose g at b d deps → logged_of b (length d.logged) ≡ d.logged
logged-at g at b d deps a =
    let k = block-of g at b d deps a in
    ap (λ (n : ℕ). numbers n (drop 56 b)) (sym (count-is (homes_of g) b d deps k)) ∙ logged-is (homes_of g) b d deps k (accepted-homes g)

-- what stands after the logged blocks
rest-at : (g : Geometry) (at : Expect) (b : List ℕ) (d : Descriptor) (deps : List ℕ) → AcceptsLoose g at b d deps → drop (56 + 4 * length d.logged) b ≡ number_bytes deps ++ zeros_of d deps
rest-at g at b d deps a =
    let h = header_bytes loose_magic 1 (listing deps d) in
    let l = list_bytes d.logged in
    let long : length (h ++ l) ≡ 56 + 4 * length d.logged = omega (arith, length-append h l, length-header_bytes loose_magic 1 (listing deps d), length-list_bytes d.logged) in
    ap (λ (xs : List ℕ). drop (56 + 4 * length d.logged) xs) (joined-of g at b d deps a) ∙ drop_at (h ++ l) (number_bytes deps ++ zeros_of d deps) (56 + 4 * length d.logged) long

deps-at : (g : Geometry) (at : Expect) (b : List ℕ) (d : Descriptor) (deps : List ℕ) → AcceptsLoose g at b d deps → wide_numbers (length deps) (drop (56 + 4 * length d.logged) b) ≡ deps
deps-at g at b d deps a =
    let number = a.good.number in
    ap (λ (xs : List ℕ). wide_numbers (length deps) xs) (rest-at g at b d deps a) ∙ wide-number_bytes 1 d.number deps (zeros_of d deps) (length deps) (omega (arith, number)) a.loose.rising refl

zeros-at : (g : Geometry) (at : Expect) (b : List ℕ) (d : Descriptor) (deps : List ℕ) → AcceptsLoose g at b d deps → drop (56 + 4 * length d.logged + 8 * length deps) b ≡ zeros_of d deps
zeros-at g at b d deps a =
    sym (drop-drop (8 * length deps) (56 + 4 * length d.logged) b) ∙ ap (λ (xs : List ℕ). drop (8 * length deps) xs) (rest-at g at b d deps a)
    ∙ drop_at (number_bytes deps) (zeros_of d deps) (8 * length deps) (length-number_bytes deps)

-- ---- as the header of the block has it

pub logged-of : (g : Geometry) (at : Expect) (b : List ℕ) (d : Descriptor) (deps : List ℕ) → AcceptsLoose g at b d deps → logged_of b (header_of b).logged ≡ d.logged
logged-of g at b d deps a = ap (λ (h : Header). logged_of b h.logged) (header-is g at b d deps a) ∙ logged-at g at b d deps a

pub deps-of : (g : Geometry) (at : Expect) (b : List ℕ) (d : Descriptor) (deps : List ℕ) → AcceptsLoose g at b d deps → deps_of_block b ≡ deps
deps-of g at b d deps a = ap (λ (h : Header). wide_numbers h.revoked (drop (56 + 4 * h.logged) b)) (header-is g at b d deps a) ∙ deps-at g at b d deps a

parsed-is : (g : Geometry) (at : Expect) (b : List ℕ) (d : Descriptor) (deps : List ℕ) → AcceptsLoose g at b d deps → parsed b ≡ d
parsed-is g at b d deps a =
    let h = header-is g at b d deps a in
    let l = logged-of g at b d deps a in
    let none = a.loose.none in
    λ i. record {
      queue = (h i).queue;
      number = (h i).number;
      place = (h i).place;
      prev_place = (h i).prev_place;
      prev_number = (h i).prev_number;
      logged = l i;
      revoked = sym none i;
    }

-- at most one descriptor is accepted, with its dependences
pub accepted-once : (g : Geometry) (at : Expect) (b : List ℕ) (d e : Descriptor) (deps others : List ℕ) → AcceptsLoose g at b d deps → AcceptsLoose g at b e others → (d ≡ e) × (deps ≡ others)
accepted-once g at b d e deps others a f = (sym (parsed-is g at b d deps a) ∙ parsed-is g at b e others f, sym (deps-of g at b d deps a) ∙ deps-of g at b e others f)

-- ---- every test is passed

-- it has no further block
pub further-of : (g : Geometry) (at : Expect) (b : List ℕ) (d : Descriptor) (deps : List ℕ) → AcceptsLoose g at b d deps → further d ≡ 0
further-of g at b d deps a =
    let few = a.loose.few in
    let none : length d.revoked ≡ 0 = ap length a.loose.none in
    further-none (length d.logged + length d.revoked) (omega (arith, few, none))

pub accepted-header : (g : Geometry) (at : Expect) (b : List ℕ) (d : Descriptor) (deps : List ℕ) → AcceptsLoose g at b d deps → GoodHeader (area_of g) at (header_of b)
accepted-header g at b d deps a =
    let none = further-of g at b d deps a in
    let good = a.good in
    let fits = good.fits in
    let here : GoodHeader (area_of g) at (header_for d deps) =
    ((((((refl, inl refl), a.queue), a.number), (good.place, a.place)), (good.falls, good.first, λ some. let before = good.before some in omega (arith, none, before))), (a.loose.few, a.loose.deps_few, omega (arith, none, fits))) in
    subst (λ (h : Header). GoodHeader (area_of g) at h) (sym (header-is g at b d deps a)) here

pub accepted-lists : (g : Geometry) (at : Expect) (b : List ℕ) (d : Descriptor) (deps : List ℕ) → AcceptsLoose g at b d deps → GoodLists (homes_of g) b (header_of b)
accepted-lists g at b d deps a =
    let here : GoodLists (homes_of g) b (header_for d deps) = (
      subst (AreRising 0 (homes_of g)) (sym (logged-at g at b d deps a)) a.good.logged,
      subst (AreRising 1 d.number) (sym (deps-at g at b d deps a)) a.loose.rising,
    ) in
    subst (λ (h : Header). GoodLists (homes_of g) b h) (sym (header-is g at b d deps a)) here

pub accepted-rest : (g : Geometry) (at : Expect) (b : List ℕ) (d : Descriptor) (deps : List ℕ) → AcceptsLoose g at b d deps → IsZero (end_of (header_of b)) 4096 b
accepted-rest g at b d deps a =
    let e = 56 + 4 * length d.logged + 8 * length deps in
    let here : IsZero (end_of (header_for d deps)) 4096 b = λ k low high.
    let there : e + (k - e) ≡ k = omega (arith, low) in
    sym (ap (λ (j : ℕ). get_or b j 0) there) ∙ sym (get_or-drop e b (k - e) 0) ∙ ap (λ (xs : List ℕ). get_or xs (k - e) 0) (zeros-at g at b d deps a) ∙ get_or-replicate (4096 - e) (k - e) 0 0 (omega (arith, low, high)) in
    subst (λ (h : Header). IsZero (end_of h) 4096 b) (sym (header-is g at b d deps a)) here
