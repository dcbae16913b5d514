use Rattle.std.proofs.Common.{rules, ◌≡◌, ℕ, length, ◌∙◌, ap}
use Rattle.mq_drive.specs.Choices.{next_bytes}
use Rattle.mq_drive.proofs.random.next_block.Goals as goal

pub returns : goal.returns
unfolding next_bytes
returns c =
    let long : length c.bytes_mut.result.now ≡ 4096 = search rules in
    c.fill_bytes_via_u64.ensures ∙ ap (λ (n : ℕ). next_bytes n c.args.rng.now) long
