use Rattle.std.proofs.Common.{◌≡◌, ℕ, ◌<◌, List, length, get_or, sym, ap, ◌∙◌, arith, refl}
use Rattle.std.proofs.lemmas.Bool.{false≢true}
use Rattle.std.proofs.lemmas.List.{ext_get_or}
use Rattle.mq_blocks.specs.Blocks.{zeros}
use Rattle.mq_blocks.proofs.BlocksZeros.{length-zeros, zeros-at}
use Rattle.mq_core.proofs.port.are_zeros.Goals as goal

pub returns-then-bytes-ne4096 : goal.returns-then-bytes-ne4096
returns-then-bytes-ne4096 c = (λ k. absurd (false≢true k), λ e. absurd (c.if-bytes-ne4096.true (ap length e ∙ length-zeros)))

pub returns-then-byte-ne0 : goal.returns-then-byte-ne0
returns-then-byte-ne0 c = (λ k. absurd (false≢true k), λ e. absurd (c.if-byte-ne0.true (ap (λ (l : List ℕ). get_or l c.loop-byte.byte-index 0) e ∙ zeros-at c.loop-byte.byte-index)))

pub returns : goal.returns
returns c =
    let size : length c.args.bytes.now ≡ length zeros = (let z = length-zeros in omega arith) in
    let all : (k : ℕ) → k < length c.args.bytes.now → get_or c.args.bytes.now k 0 ≡ get_or zeros k 0 = λ k l. c.loop-byte.invariant k (omega arith) ∙ sym (zeros-at k) in
    (λ k. ext_get_or 0 c.args.bytes.now zeros size all, λ e. refl)
