-- What holds of a side's port where no failure is kept, whatever is known.
use Rattle.std.specs.Prelude.{◌≡◌, ℕ, [], Option, None}
use Rattle.mq_blocks.specs.Drive.{PortState}
use Rattle.mq_queue_side.specs.declared.answers.Why.{Why}

-- Unless a failure is kept, no command of the port has failed, and nothing is staged on it.
pub record IsClearUnlessKept (kept : Option (ℕ × Why)) (p : PortState) : Type 0 where
  pub failed : kept ≡ None → p.failed ≡ []
  pub pending : kept ≡ None → p.pending ≡ []
