-- What a group of requests that only read is answered.
use Rattle.std.specs.Prelude.{◌≡◌, ◌<◌, ℕ, true, false, List, length, Option, None}
use Rattle.std.specs.List.{AllWithin, HoldsAt}
use Rattle.mq_drive.specs.declared.port.Port.{Ghosts}
use Rattle.mq_calls.specs.declared.entry.FileEntry.{FileEntry}
use Rattle.mq_journal.specs.Numbers.{Seat}
use Rattle.mq_tree.specs.Requests.{is_change}
use Rattle.mq_tree.specs.declared.request.Request.{Request}
use Rattle.mq_calls.specs.Acts.{KeepsAll}
use Rattle.mq_queue_side.specs.declared.answers.CallCause.{CallCause}
use Rattle.mq_queue_side.specs.declared.answers.CallCause.TheVariants.{Changes, OutOfMemory}
use Rattle.mq_queue_side.specs.declared.answers.Refusal.{Refusal}

-- The request with this index may change the tree, and none before it may.
pub record IsFirstChange (requests : List Request) (index : ℕ) : Type 0 where
  pub within : index < length requests
  pub changes : HoldsAt (λ r. is_change r ≡ true) requests index
  pub before : AllWithin (λ r. is_change r ≡ false) requests 0 index

-- how a group is refused for that request
abbrev pub refusal_at : ℕ → Refusal
refusal_at index = record { cause = Changes index; drawn = None }

module _ {P : Type 0} {G : Ghosts P} where
  -- Why `ask` refuses a group, with the number that it has drawn, which is none, and what that leaves.
  pub data IsNotAnswered (requests : List Request) (old new : Seat P FileEntry G) : CallCause → Option ℕ
      → Type 0 where
    memory : KeepsAll old new → IsNotAnswered requests old new OutOfMemory None
    changes : {index : ℕ} → IsFirstChange requests index → new ≡ old
        → IsNotAnswered requests old new (Changes index) None
