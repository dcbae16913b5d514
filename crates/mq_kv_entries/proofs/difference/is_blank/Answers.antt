use Rattle.std.proofs.Common.{◌∙◌, ℕ, List, ap}
use Rattle.std.specs.Str.{bytes_eq}
use Rattle.mq_blocks.specs.Blocks.{zeros}
use Rattle.mq_kv_entries.proofs.difference.is_blank.Goals as goal

pub returns : goal.returns
unfolding zeros
returns c = c.is_equal.ensures ∙ ap (λ (xs : List ℕ). bytes_eq xs c.bytes.result.now) c.as_slice.ensures ∙ ap (λ (xs : List ℕ). bytes_eq zeros xs) c.bytes.ensures.is
