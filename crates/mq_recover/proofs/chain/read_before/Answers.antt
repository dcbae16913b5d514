use Rattle.std.proofs.Common.{◌≡◌, ◌+◌, ◌-◌, ◌%◌, ℕ, ◌∙◌, ap, arith}
use Rattle.mq_blocks.specs.Blocks.{block_at}
use Rattle.mq_blocks.specs.Geometry.{area_of}
use Rattle.mq_recover.proofs.chain.read_before.Goals as goal

pub returns-clause-is : goal.returns-clause-is
returns-clause-is g c = λ one.
    let s = g.P.Port.state c.args.port.now in
    let size : c.from-area.result ≡ area_of c.args.geometry = omega (arith, c.area.ensures, c.from-area.ensures) in
    c.read_area.ensures ∙ ap (λ (n : ℕ). block_at s.blocks ((c.place_of.result % n + (n - 1)) % area_of c.args.geometry)) size
    ∙ ap (λ (n : ℕ). block_at s.blocks ((n % area_of c.args.geometry + (area_of c.args.geometry - 1)) % area_of c.args.geometry)) c.place_of.ensures
