use Rattle.std.proofs.Common.{◌≡◌, ℕ, ◌+◌, ◌*◌, ◌<◌, Bool, true, false, List, length, get_or, drop, sym, ap, ◌∙◌, arith}
use Rattle.std.specs.Prelude.{◌||◌, ◌&&◌, nat_le}
use Rattle.mq_area.specs.Reading.{header_of}
use Rattle.mq_area.specs.declared.header.Header.{Header}
use Rattle.mq_blocks.specs.Journal.{is_among}
use Rattle.mq_blocks.specs.Windows.{number_at}
use Rattle.mq_loose_order.specs.Dependence.{all_in}
use Rattle.mq_loose_recover.proofs.Tests.{all-next, all-none, wide-at}
use Rattle.mq_loose_recover.proofs.Numbers.{length-wide}
use Rattle.mq_loose_recover.specs.Reading.{deps_of_block}
use Rattle.mq_loose_recover.proofs.choice.is_met.Goals as goal

-- the next number of the list
at-next : (b : List ℕ) (h : Header) (first i x : ℕ) → h ≡ header_of b → i < h.revoked → first ≡ 56 + 4 * (header_of b).logged → x ≡ number_at 8 (first + 8 * i) b → (i < length (deps_of_block b)) × (x ≡ get_or (deps_of_block b) i 0)
at-next b h first i x is low first_is x_is =
    let same : h.revoked ≡ (header_of b).revoked = ap (λ (y : Header). y.revoked) is in
    let at : ℕ = 56 + 4 * (header_of b).logged in
    let long = length-wide (header_of b).revoked (drop at b) in (
      omega (arith, same, low, long),
      x_is ∙ ap (λ (n : ℕ). number_at 8 (n + 8 * i) b) first_is ∙ sym (wide-at (header_of b).revoked at i b (omega (arith, same, low))),
    )

failed : (S : ℕ → Bool) (ns : List ℕ) (i x : ℕ) → i < length ns → x ≡ get_or ns i 0 → S x ≡ false → all_in S ns ≡ all_in S (drop i ns) → false ≡ all_in S ns
failed S ns i x inside is not rest = sym (rest ∙ all-next S ns i x inside is ∙ ap (λ (t : Bool). t && all_in S (drop (i + 1) ns)) not)

passed : (S : ℕ → Bool) (ns : List ℕ) (i x : ℕ) → i < length ns → x ≡ get_or ns i 0 → S x ≡ true → all_in S ns ≡ all_in S (drop i ns) → all_in S ns ≡ all_in S (drop (i + 1) ns)
passed S ns i x inside is good rest = rest ∙ all-next S ns i x inside is ∙ ap (λ (t : Bool). t && all_in S (drop (i + 1) ns)) good

pub returns-then-not-is_standing : goal.returns-then-not-is_standing
returns-then-not-is_standing c =
    let n = at-next c.args.block.now c.read_header-header.result (56 + 4 * c.read_header-header.result.logged) c.loop-i.i c.u64_at.result c.read_header-header.ensures.is (omega arith) c.loop-i.invariant.first_is c.u64_at.ensures in
    failed (λ m. nat_le m c.args.base || is_among m c.args.set.now) (deps_of_block c.args.block.now) c.loop-i.i c.u64_at.result n.0 n.1
    (sym c.is_standing.ensures ∙ c.if-not-is_standing.true) c.loop-i.invariant.rest

pub loop-i-preserved : goal.loop-i-preserved
loop-i-preserved c =
    let n = at-next c.args.block.now c.read_header-header.result (56 + 4 * c.read_header-header.result.logged) c.loop-i.i c.u64_at.result c.read_header-header.ensures.is (omega arith) c.loop-i.invariant.first_is c.u64_at.ensures in
    record {
      first_is = c.loop-i.invariant.first_is;
      rest =
          passed (λ m. nat_le m c.args.base || is_among m c.args.set.now) (deps_of_block c.args.block.now) c.loop-i.i c.u64_at.result n.0 n.1
          (sym c.is_standing.ensures ∙ c.if-not-is_standing.false) c.loop-i.invariant.rest;
    }

pub returns : goal.returns
returns c =
    let same : c.read_header-header.result.revoked ≡ (header_of c.args.block.now).revoked = ap (λ (y : Header). y.revoked) c.read_header-header.ensures.is in
    let long = length-wide (header_of c.args.block.now).revoked (drop (56 + 4 * (header_of c.args.block.now).logged) c.args.block.now) in
    sym (c.loop-i.invariant.rest ∙ all-none (λ m. nat_le m c.args.base || is_among m c.args.set.now) (deps_of_block c.args.block.now) c.loop-i.i (omega (arith, same, long)))
