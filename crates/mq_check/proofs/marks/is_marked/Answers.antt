use Rattle.std.proofs.Common.{◌≡◌, ◌-◌, ◌/◌, ◌%◌, ℕ, List, false, sym, ap, ◌∙◌, rules}
use Rattle.std.specs.Prelude.{nat_eq}
use Rattle.mq_blocks.specs.Blocks.{block_at, zeros}
use Rattle.mq_layout.specs.Bits.{bit_of}
use Rattle.mq_layout.specs.Places.{zone_bitmap}
use Rattle.mq_layout.proofs.EmptyLaws.{zeros-bit}
use Rattle.mq_check.proofs.marks.is_marked.Goals as goal

-- no bit of an absent bitmap is set
none-set : (page : List ℕ) (k : ℕ) → page ≡ zeros → false ≡ nat_eq (bit_of page k) 1
none-set page k absent = sym (ap (λ (p : List ℕ). nat_eq (bit_of p k) 1) absent ∙ ap (λ (n : ℕ). nat_eq n 1) (zeros-bit k))

pub returns-in_default : goal.returns-in_default
returns-in_default c =
    let g = c.args.geometry in
    let place = c.args.b - g.meta in
    let absent : block_at c.args.blocks.now (zone_bitmap (place / g.zone)) ≡ zeros = search rules in
    none-set _ (place % g.zone) absent

pub returns-in_default-2 : goal.returns-in_default-2
returns-in_default-2 c =
    let g = c.args.geometry in
    let place = c.args.b - g.meta in
    let absent : block_at c.args.blocks.now (zone_bitmap (place / g.zone)) ≡ zeros = search rules in
    none-set _ (place % g.zone) absent
