-- Which lines spell which events: by the words of a line.
use Rattle.std.specs.Prelude.{◌≡◌, ◌<◌, ℕ, ◌^◌, List, [], ◌∷◌, ◌++◌, codes, decimal, map, replicate, slice_index}
use Rattle.std.specs.List.{AllByRecursion}
use Rattle.mq_block_text.specs.Text.{set_text}
use Rattle.mq_blocks.specs.Descriptor.{AreRising}
use Rattle.mq_blocks.specs.Geometry.{homes_of, queues_of}
use Rattle.mq_blocks.specs.declared.geometry.Geometry.{Geometry}
use Rattle.mq_core.specs.declared.event.Event.{Event}
use Rattle.mq_core.specs.declared.event.Event.TheVariants.{Draw, Stage, Flush, Ring, Complete, FailCommand, StoreHead, FlushHead, Clear, Acknowledge, WriteHome, HomeDone, StoreBase, FlushBase}
use Rattle.mq_ledger.specs.History.{blocks_of}
use Rattle.mq_ledger.specs.declared.tx.Tx.{Tx}

-- ---- the words

-- a block and the first byte of its content
abbrev pub set_word : ℕ × List ℕ → List ℕ
set_word s = set_text s.0 (slice_index s.1 0)

abbrev pub list_words : Tx → List (List ℕ)
list_words t =
    codes "logged" ∷ (map set_word t.logged
    ++ codes "direct" ∷ (map set_word t.direct
    ++ codes "revoked" ∷ (map decimal t.revoked
    ++ codes "freed" ∷ map decimal t.freed)))

abbrev pub event_words : Event → List (List ℕ)
event_words (Draw t) = codes "draw" ∷ decimal t.queue ∷ list_words t
event_words (Stage q) = codes "stage" ∷ decimal q ∷ []
event_words (Flush q) = codes "flush" ∷ decimal q ∷ []
event_words (Ring q) = codes "ring" ∷ decimal q ∷ []
event_words (Complete q c) = codes "complete" ∷ decimal q ∷ decimal c ∷ []
event_words (FailCommand q c) = codes "failed" ∷ decimal q ∷ decimal c ∷ []
event_words (StoreHead q h) = codes "storehead" ∷ decimal q ∷ decimal h ∷ []
event_words (FlushHead q) = codes "flushhead" ∷ decimal q ∷ []
event_words (Clear q low) = codes "clear" ∷ decimal q ∷ decimal low ∷ []
event_words (Acknowledge n) = codes "ack" ∷ decimal n ∷ []
event_words (WriteHome b) = codes "home" ∷ decimal b ∷ []
event_words (HomeDone b) = codes "homedone" ∷ decimal b ∷ []
event_words (StoreBase n) = codes "storebase" ∷ decimal n ∷ []
event_words FlushBase = codes "flushbase" ∷ []

-- ---- the events that lines spell

-- 4,096 times one byte
abbrev pub IsFilled : List ℕ → Type 0
IsFilled content = (byte : ℕ) × (byte < 256) × (content ≡ replicate 4096 byte)

-- home blocks in rising order from one on, each with a filled content
abbrev pub AreSets : ℕ → ℕ → List (ℕ × List ℕ) → Type 0
AreSets low homes sets = AreRising low homes (blocks_of sets) × AllByRecursion (λ s. IsFilled s.1) sets

pub record IsDraw (g : Geometry) (number : ℕ) (t : Tx) : Type 0 where
  pub number_is : t.number ≡ number
  pub queue : t.queue < queues_of g
  pub logged : AreSets 0 (homes_of g) t.logged
  pub direct : AreSets 0 (homes_of g) t.direct
  pub revoked : AreRising 0 (homes_of g) t.revoked
  pub freed : AreRising 0 (homes_of g) t.freed

-- the queues and blocks are the geometry's, and a draw has this number
abbrev pub IsEvent : Geometry → ℕ → Event → Type 0
IsEvent g number (Draw t) = IsDraw g number t
IsEvent g number (Stage q) = q < queues_of g
IsEvent g number (Flush q) = q < queues_of g
IsEvent g number (Ring q) = q < queues_of g
IsEvent g number (Complete q c) = (q < queues_of g) × (c < 2 ^ 64)
IsEvent g number (FailCommand q c) = (q < queues_of g) × (c < 2 ^ 64)
IsEvent g number (StoreHead q h) = (q < queues_of g) × (h < 2 ^ 64)
IsEvent g number (FlushHead q) = q < queues_of g
IsEvent g number (Clear q low) = (q < queues_of g) × (low < 2 ^ 64)
IsEvent g number (Acknowledge n) = n < 2 ^ 64
IsEvent g number (WriteHome b) = b < homes_of g
IsEvent g number (HomeDone b) = b < homes_of g
IsEvent g number (StoreBase n) = n < 2 ^ 64
IsEvent g number FlushBase = Unit {0}
