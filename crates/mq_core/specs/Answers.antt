-- What the answer of an event says.
use Rattle.std.specs.Prelude.{◌≡◌, ◌<◌, ◌≤◌, ℕ, Result, Ok, Err}
use Rattle.mq_blocks.specs.Drive.{PortState, AreFrom, staged_end}
use Rattle.mq_core.specs.declared.event.CoreRefusal.{CoreRefusal}
use Rattle.mq_core.specs.declared.event.CoreRefusal.TheVariants.{NotAllowed, OutOfMemory}

-- At Ok the event was allowed, and the new state is the one after it. It is refused as not allowed only
-- where it isn't, and each refusal leaves the old state.
abbrev pub Answers : {A : Type 0} → Type 0 → A → A → A → Result (Unit {0}) CoreRefusal → Type 0
Answers allowed after old new (Ok u) = allowed × (new ≡ after)
Answers allowed after old new (Err (NotAllowed index)) = (index ≡ 0) × (allowed → ⊥) × (new ≡ old)
Answers allowed after old new (Err OutOfMemory) = new ≡ old

-- the refusal of the event at this index of a list
abbrev pub refusal_at : ℕ → CoreRefusal → CoreRefusal
refusal_at index (NotAllowed n) = NotAllowed index
refusal_at index OutOfMemory = OutOfMemory

-- ---- what a port shows of where an event is allowed, where its queue's transactions end at a count

-- something is drawn that isn't rung, and it is wholly staged
pub record IsStagedTo (end : ℕ) (p : PortState) : Type 0 where
  pub drawn : p.doorbell < end
  pub whole : staged_end p ≡ end

-- and it is flushed
pub record IsFlushedTo (end : ℕ) (p : PortState) : Type 0 where
  pub drawn : p.doorbell < end
  pub whole : staged_end p ≡ end
  pub flushed : p.flushed_end ≡ end

-- every command below the count is completed with success, and the head may move up to it
pub record IsCompletedTo (head : ℕ) (p : PortState) : Type 0 where
  pub above : p.stored_head ≤ head
  pub rung : head ≤ p.doorbell
  pub posted : AreFrom head p.posted
  pub failed : AreFrom head p.failed
