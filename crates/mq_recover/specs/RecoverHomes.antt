-- Copies that are written home.
use Rattle.std.specs.Prelude.{◌≡◌, ◌≢◌, ◌⊎◌, ◌<◌, ◌≤◌, ℕ, ◌+◌, ◌%◌, List, [], ◌∷◌, ◌++◌, length, map, take, drop, Option, Some, None, Result, Ok, Err, nat_eq, if◌then◌else◌}
use Rattle.mq_blocks.specs.Drive.{PortState, IsQuiescent, after_begin, after_end, after_flush, after_store_base, after_store_head}
use Rattle.mq_blocks.specs.Geometry.{home_lba}
use Rattle.mq_blocks.specs.Machine.{Writes, or_kept}
use Rattle.mq_blocks.specs.declared.geometry.Geometry.{Geometry}
use Rattle.mq_ledger.specs.State.{port_at}
use Rattle.mq_recover.specs.Drives.{DriveState, at_queue, at_root}
use Rattle.mq_recover.specs.declared.copies.CopyPlace.{CopyPlace}
use Rattle.mq_recover.specs.declared.refusal.RecoverRefusal.{RecoverRefusal}
use Rattle.mq_recover.specs.declared.refusal.RecoverRefusal.TheVariants.{Image, Off, Failed}

-- the writes of the copies that stand there, which are those of the blocks from b on
abbrev pub writes_from : (ℕ → ℕ → List ℕ) → ℕ → ℕ → List (Option CopyPlace) → Writes
writes_from area size b [] = []
writes_from area size b (None ∷ copies) = writes_from area size (b + 1) copies
writes_from area size b (Some source ∷ copies) =
    (b, area source.queue (source.place % size)) ∷ writes_from area size (b + 1) copies

-- what is last written to a block
abbrev pub written : Writes → ℕ → Option (List ℕ)
written [] x = None
written (w ∷ ws) x = or_kept (written ws x) (if nat_eq w.0 x then Some w.1 else None)

-- all of them write blocks below this one
abbrev pub AreBelow : ℕ → Writes → Type 0
AreBelow homes [] = Unit {0}
AreBelow homes (w ∷ ws) = (w.0 < homes) × AreBelow homes ws

-- a home write has begun and ended
abbrev pub after_home : PortState → ℕ → List ℕ → PortState
after_home s lba block = after_end (after_begin s lba block) lba block

-- a home write through a port ended, or was refused before it began or after
abbrev pub GivesHome : {A : Type 0} → Geometry → (s : PortState) → ℕ → List ℕ → Result A RecoverRefusal
    → (t : PortState) → Type 0
GivesHome g s b block (Ok _) t = t ≡ after_home s (home_lba g b) block
GivesHome g s b block (Err (Image _)) t = ⊥
GivesHome g s b block (Err Off) t = (t ≡ s) ⊎ (t ≡ after_begin s (home_lba g b) block)
GivesHome g s b block (Err (Failed c _)) t = (c ≡ b) × (t ≡ after_begin s (home_lba g b) block)

-- the same through the port of the block's zone
abbrev pub GivesOne : {A : Type 0} → Geometry → Option ℕ → (old : DriveState) → ℕ → List ℕ
    → Result A RecoverRefusal → (new : DriveState) → Type 0
GivesOne g None old b block result new =
    (t : PortState) × GivesHome g old.root b block result t × (new ≡ at_root (λ _. t) old)
GivesOne g (Some q) old b block result new =
    (t : PortState) × GivesHome g (port_at old.queues q) b block result t
    × (new ≡ at_queue q (λ _. t) old)

-- the base word is stored and flushed where it changes
abbrev pub after_raise : PortState → ℕ → PortState
after_raise s base = if nat_eq s.base base then s else after_flush (after_store_base s base)

-- the same with the head, which goes to the doorbell
abbrev pub after_move : PortState → PortState
after_move s = if nat_eq s.head s.doorbell then s else after_flush (after_store_head s s.doorbell)

-- it was refused before the store or after it
abbrev pub IsCutRaise : PortState → ℕ → PortState → Type 0
IsCutRaise s base t = (s.base ≢ base) × ((t ≡ s) ⊎ (t ≡ after_store_base s base))

abbrev pub IsCutMove : PortState → PortState → Type 0
IsCutMove s t = (s.head ≢ s.doorbell) × ((t ≡ s) ⊎ (t ≡ after_store_head s s.doorbell))

-- the head may go to the doorbell
pub record CanMove (s : PortState) : Type 0 where
  pub quiet : IsQuiescent s
  pub order : s.head ≤ s.doorbell

-- the heads before one went to their doorbells, this one was refused, and those after it are as before
abbrev pub AreCutMoves : (olds news : List PortState) → Type 0
AreCutMoves olds news =
    (q : ℕ) × (q < length olds) × (t : PortState) × IsCutMove (port_at olds q) t
    × (news ≡ map after_move (take q olds) ++ t ∷ drop (q + 1) olds)
