-- What each event changes of a port, of what is known, and of the whole state, and where it is
-- allowed.
use Rattle.std.specs.Prelude.{◌≡◌, ◌<◌, ◌≤◌, ℕ, suc, ◌+◌, ◌-◌, ◌%◌, ◌^◌, true, false, List, [], ◌∷◌, length, Option, Some, None, nat_eq, slice_set, if◌then◌else◌}
use Rattle.mq_blocks.specs.Blocks.{content}
use Rattle.mq_blocks.specs.Limits.{depth, usable_depth}
use Rattle.mq_blocks.specs.Drive.{PortState, AreFrom, staged_end, after_stage, after_flush, after_ring, after_done, after_failed, after_store_head, after_store_base, after_begin, after_end}
use Rattle.mq_blocks.specs.Geometry.{homes_of, zone_of, home_lba}
use Rattle.mq_blocks.specs.Journal.{is_among, number_limit}
use Rattle.mq_blocks.specs.declared.command.Command.{Command}
use Rattle.mq_blocks.specs.declared.geometry.Geometry.{Geometry}
use Rattle.mq_ledger.specs.History.{blocks_of, writes, changes, map_after, last, upto, of_queue, IsAt}
use Rattle.mq_ledger.specs.Items.{Entries, Item, said_of, lba_of, end_of, next, item_at, IsEnd, place_for, descriptor_blocks, bytes_of}
use Rattle.mq_ledger.specs.Sides.{IsKept, holds_count}
use Rattle.mq_ledger.specs.State.{State, is_done, front_of, from_at, known_of, port_at, port_of, start_map}
use Rattle.mq_ledger.specs.declared.tx.Tx.{Tx}

-- ---- of a queue's port, where its entries begin at `from` and are those of `txs`

abbrev pub staged_with : Entries → Geometry → ℕ → Item → PortState → PortState
staged_with e g q i p =
    after_stage p (e.entry (staged_end p % depth) (said_of g q i)) i.number
    (lba_of g q i.target) (bytes_of e.form i.content)

-- the next entry is staged
abbrev pub stage_side : Entries → Geometry → ℕ → ℕ → List Tx → PortState → PortState
stage_side e g q from txs p = staged_with e g q (item_at from txs (staged_end p)) p

abbrev pub no_command : Command
no_command = record { count = 0; tx = 0; lba = 0; block = [] }

abbrev pub index_with : ℕ → List Command → ℕ
index_with n [] = 0
index_with n (c ∷ cs) = if nat_eq c.count n then 0 else suc (index_with n cs)

abbrev pub command_with : ℕ → List Command → Command
command_with n [] = no_command
command_with n (c ∷ cs) = if nat_eq c.count n then c else command_with n cs

-- the posted command of this count ends with success, or with an error
abbrev pub complete_side : ℕ → PortState → PortState
complete_side c p = after_done p (index_with c p.posted) (command_with c p.posted)

abbrev pub fail_side : ℕ → PortState → PortState
fail_side c p = after_failed p (index_with c p.posted) (command_with c p.posted)

-- an entry of the drawn transaction isn't staged
abbrev pub MayStage : ℕ → List Tx → PortState → Type 0
MayStage from txs p = staged_end p < end_of from txs

-- the drawn transaction is wholly staged
pub record MayFlush (from : ℕ) (txs : List Tx) (p : PortState) : Type 0 where
  pub drawn : p.doorbell < end_of from txs
  pub whole : staged_end p ≡ end_of from txs

-- it is staged and flushed
pub record MayRing (from : ℕ) (txs : List Tx) (p : PortState) : Type 0 where
  pub drawn : p.doorbell < end_of from txs
  pub whole : staged_end p ≡ end_of from txs
  pub flushed : p.flushed_end ≡ end_of from txs

-- the command is posted
abbrev pub MayEnd : ℕ → PortState → Type 0
MayEnd c p = holds_count c p.posted ≡ true

-- the new head is an end of a transaction, and every command below it is completed with success
pub record MayStoreHead (from : ℕ) (txs : List Tx) (p : PortState) (h : ℕ) : Type 0 where
  pub is_end : IsEnd from txs h
  pub above : p.stored_head ≤ h
  pub rung : h ≤ p.doorbell
  pub posted : AreFrom h p.posted
  pub failed : AreFrom h p.failed

-- ---- of the port of a home block

abbrev pub begin_home : Geometry → ℕ → List ℕ → PortState → PortState
begin_home g x block p = after_begin p (home_lba g x) block

abbrev pub end_home : Geometry → ℕ → List ℕ → PortState → PortState
end_home g x block p = after_end p (home_lba g x) block

-- The part about its queue's port: nothing that was drawn waits for the ring, no command has
-- failed, and the entries fit into the ring and the area.
pub record HasRoom (g : Geometry) (from word : ℕ) (txs : List Tx) (t : Tx) (p : PortState) : Type 0 where
  pub rung : p.doorbell ≡ end_of from txs
  pub failed : p.failed ≡ []
  pub ring : writes t + descriptor_blocks t ≤ usable_depth - (staged_end p - p.head)
  pub area : next txs + (length t.logged + descriptor_blocks t) ≤ next (upto word txs) + g.area
  pub places : place_for t txs < 2 ^ 62
  pub limit : end_of from txs + (writes t + descriptor_blocks t) ≤ number_limit

-- ---- of the state

-- the state with another port of a queue, or of the root
abbrev pub with_port : State → Option ℕ → PortState → State
with_port s (Some q) p = record s { ports = slice_set s.ports q p }
with_port s None p = record s { root = p }

abbrev pub us_of : State → ℕ → List Tx
us_of s q = of_queue q s.history

-- those of these blocks that the transaction leaves as they are
abbrev pub unchanged_by : Tx → List ℕ → List ℕ
unchanged_by t [] = []
unchanged_by t (x ∷ xs) = if changes t x then unchanged_by t xs else x ∷ unchanged_by t xs

abbrev pub without : ℕ → List ℕ → List ℕ
without x [] = []
without x (y ∷ ys) = if nat_eq y x then without x ys else y ∷ without x ys

abbrev pub draw : Tx → State → State
draw t s = record s { history = t ∷ s.history; writing = unchanged_by t s.writing }

abbrev pub stage : Entries → ℕ → State → State
stage e q s =
    with_port s (Some q)
    (stage_side e s.geometry q (from_at s.starts q) (us_of s q) (port_at s.ports q))

abbrev pub flush : ℕ → State → State
flush q s = with_port s (Some q) (after_flush (port_at s.ports q))

abbrev pub ring : ℕ → State → State
ring q s = with_port s (Some q) (after_ring (port_at s.ports q))

abbrev pub complete : ℕ → ℕ → State → State
complete q c s = with_port s (Some q) (complete_side c (port_at s.ports q))

abbrev pub fail_command : ℕ → ℕ → State → State
fail_command q c s = with_port s (Some q) (fail_side c (port_at s.ports q))

abbrev pub store_head : ℕ → ℕ → State → State
store_head q h s = with_port s (Some q) (after_store_head (port_at s.ports q) h)

abbrev pub clear : ℕ → ℕ → State → State
clear q low s = record s { marks = slice_set s.marks q low }

abbrev pub acknowledge : ℕ → State → State
acknowledge n s = record s { acknowledged = n ∷ s.acknowledged }

-- the block's content in the map
abbrev pub content_at : State → ℕ → List ℕ
content_at s x = content (map_after (start_map s.start) s.history x)

abbrev pub write_home : ℕ → State → State
write_home x s =
    record (with_port s (zone_of s.geometry x)
    (begin_home s.geometry x (content_at s x) (port_of s (zone_of s.geometry x))))
    { writing = x ∷ s.writing }

abbrev pub home_done : ℕ → State → State
home_done x s =
    record (with_port s (zone_of s.geometry x)
    (end_home s.geometry x (content_at s x) (port_of s (zone_of s.geometry x))))
    { writing = without x s.writing }

abbrev pub store_base : ℕ → State → State
store_base b s = record s { root = after_store_base s.root b }

abbrev pub flush_base : State → State
flush_base s = record s { root = after_flush s.root }

-- each number of the queue that isn't done is at or above the mark
pub record MayClear (s : State) (q low : ℕ) : Type 0 where
  pub queue : q < s.geometry.queues
  pub each : (t : Tx) (ts : List Tx) → IsAt t ts s.history → t.queue ≡ q
      → is_done s.starts s.ports t ts ≡ false → low ≤ t.number

-- the block is in the map, and its last change logged it, is done, and is above the stored base
pub record MayWriteHome (s : State) (x : ℕ) : Type 0 where
  pub block : x < homes_of s.geometry
  pub there : (block : List ℕ) × (map_after (start_map s.start) s.history x ≡ Some block)
  pub low : s.root.stored_base < last s.base s.history x
  pub high : last s.base s.history x ≤ front_of s
  pub logged : (t : Tx) (ts : List Tx) → IsAt t ts s.history → t.number ≡ last s.base s.history x
      → is_among x (blocks_of t.logged) ≡ true

-- each block of the map after the base is certainly at home, or is changed by a number above the base
-- and up to the front
pub record MayStoreBase (e : Entries) (s : State) (b : ℕ) : Type 0 where
  pub above : s.root.stored_base ≤ b
  pub reached : b ≤ front_of s
  pub home : (x : ℕ) (block : List ℕ) → x < homes_of s.geometry
      → map_after (start_map s.start) (upto b s.history) x ≡ Some block
      → IsKept (known_of e s) (port_of s (zone_of s.geometry x)) x b block
