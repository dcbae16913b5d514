-- The store after a run: what recovery of any image of its ports holds, and what its replies are.
use Rattle.std.specs.Prelude.{◌≡◌, ◌<◌, ◌≤◌, ℕ, suc, ◌+◌, ◌-◌, List, [], ◌∷◌, length, map, take, Some, slice_get}
use Rattle.mq_blocks.specs.Blocks.{block_at, content}
use Rattle.mq_blocks.specs.Drive.{PortState, image_of}
use Rattle.mq_blocks.specs.Geometry.{meta_of}
use Rattle.mq_blocks.specs.Machine.{Map}
use Rattle.mq_blocks.specs.declared.geometry.Geometry.{Geometry}
use Rattle.mq_drive.specs.Steps.{PortFault}
use Rattle.mq_drive.specs.declared.port.Port.{Ghosts}
use Rattle.mq_drive.specs.declared.port.Ports.{Ports}
use Rattle.mq_journal.specs.Numbers.{Seat, Start}
use Rattle.mq_kv_buckets.specs.Store.{AreBuckets, Runs, Store, kv_of, map_after_ops, replies_on}
use Rattle.mq_kv_entries.specs.Group.{store_group}
use Rattle.mq_kv_entries.specs.declared.entry.KvEntry.{KvEntry}
use Rattle.mq_kv.specs.Opening.{IsOpenedOver, store_map}
use Rattle.mq_recover.specs.Drives.{AreImages, DriveState, states, view_over}
use Rattle.mq_recover.specs.Standing.{StandsIn}
use Rattle.mq_recover.specs.Steps.{HasRecovered}
use Rattle.mq_recover.specs.declared.standing.Standing.{Standing}
use Rattle.mq_tie.specs.Closed.{HasRun}
use Rattle.mq_tie.specs.Runs.{IsKnownDone, history_of, ports_of}
use Rattle.mq_tie.specs.declared.ended.Ended.{Ended}
use Rattle.mq_turns.specs.Desk.{drawn_of, read_of}
use Rattle.mq_turns.specs.Lists.{Each}
use Rattle.mq_turns.specs.Meaning.{newest}

-- ---- groups one after another

-- Groups one after another lead from a store to this one: the replies of each are those of the store that the
-- groups before it left.
abbrev pub Leads : Store → List KvEntry → Store → Type 0
Leads s [] t = (key : List ℕ) → t key ≡ s key
Leads s (e ∷ es) t = (u : Store) × Runs s e.ops e.replies u × Leads u es t

-- the buckets that groups leave, one after another
abbrev pub buckets_after : (buckets : ℕ) → Map → List KvEntry → Map
buckets_after buckets m [] = m
buckets_after buckets m (e ∷ es) = buckets_after buckets (map_after_ops buckets m e.ops) es

-- The replies of each group are exactly those of the buckets that the groups before it left.
abbrev pub AnswerOn : (buckets : ℕ) → Map → List KvEntry → Type 0
AnswerOn buckets m [] = Unit {0}
AnswerOn buckets m (e ∷ es) =
    (e.replies ≡ replies_on buckets m e.ops) × AnswerOn buckets (map_after_ops buckets m e.ops) es

-- the store that stood on the drive when it was opened
abbrev pub first_store : Geometry → Standing → Store
first_store g s = kv_of (meta_of g) (store_map g s.blocks.items)

-- what the home blocks hold
abbrev pub store_at : Geometry → (ℕ → List ℕ) → Store
store_at g home = kv_of (meta_of g) (λ b. Some (home b))

module _ {P : Type 0} {G : Ghosts P} where
  -- the first groups of the history, in number order
  abbrev pub first_groups : ℕ → Ended P KvEntry G → List KvEntry
  first_groups count r = map (λ h. h.1) (take count (history_of r))

  -- the buckets after these, byte for byte
  abbrev pub buckets_at : Geometry → Standing → ℕ → Ended P KvEntry G → Map
  buckets_at g s count r = buckets_after (meta_of g) (store_map g s.blocks.items) (first_groups count r)

  -- These home blocks hold the store after the first committed groups in number order, up to the number that is
  -- reached. Each number up to which a session knew all to be done is among them. Each bucket is in its form, and
  -- just what these groups leave.
  pub record HoldsPrefix (g : Geometry) (s : Standing) (views : List (Seat P KvEntry G))
      (r : Ended P KvEntry G) (reached : ℕ) (home : ℕ → List ℕ) : Type 0 where
    pub count : ℕ
    pub reaches : reached ≡ s.base + count
    pub some : count ≤ length (history_of r)
    pub durable : (n : ℕ) → IsKnownDone views r.next n → n ≤ reached
    pub store : Store
    pub leads : Leads (first_store g s) (first_groups count r) store
    pub holds : (key : List ℕ) → store_at g home key ≡ store key
    pub buckets : (b : ℕ) → b < meta_of g → home b ≡ content (buckets_at g s count r b)
    pub formed : AreBuckets (meta_of g) (λ b. Some (home b))

  -- The replies of the group are the store's after all groups up to the number, and exactly those of its buckets.
  pub record IsRepliedAt (g : Geometry) (s : Standing) (r : Ended P KvEntry G) (n : ℕ) (e : KvEntry) : Type 0 where
    pub count : ℕ
    pub number : n ≡ s.base + count
    pub some : count ≤ length (history_of r)
    pub store : Store
    pub leads : Leads (first_store g s) (first_groups count r) store
    pub after : Store
    pub runs : Runs store e.ops e.replies after
    pub exact : e.replies ≡ replies_on (meta_of g) (buckets_at g s count r) e.ops

module _ {P : Type 0} (G : Ghosts P) (state : P → PortState) (faults : P → List PortFault) where
  -- a power cut may leave this of the ports at the end
  abbrev pub IsCutOfEnd : Geometry → Ended P KvEntry G → DriveState → Type 0
  IsCutOfEnd g r d =
      AreImages g (states state (ports_of r) r.root.port) (map image_of d.queues) (image_of d.root)

  -- After recovery of any image of the ports the home blocks hold the store after the first groups.
  abbrev pub RecoveriesHoldAPrefix : Type 0
  RecoveriesHoldAPrefix =
      (g : Geometry) (ports : Ports P) (s : Standing) (o : Start P KvEntry G)
      (views : List (Seat P KvEntry G)) (r : Ended P KvEntry G)
      (d new : DriveState) (prefix base : ℕ)
      → IsOpenedOver state faults g ports s o
      → HasRun state faults store_group o views r
      → IsCutOfEnd g r d
      → HasRecovered g d prefix base new
      → HoldsPrefix g s views r (d.root.base + prefix) (view_over g new).home

  -- So does what stands on the image, before it is recovered.
  abbrev pub StandingsHoldAPrefix : Type 0
  StandingsHoldAPrefix =
      (g : Geometry) (ports : Ports P) (s : Standing) (o : Start P KvEntry G)
      (views : List (Seat P KvEntry G)) (r : Ended P KvEntry G)
      (d : DriveState) (found : Standing)
      → IsOpenedOver state faults g ports s o
      → HasRun state faults store_group o views r
      → IsCutOfEnd g r d
      → StandsIn g d found
      → HoldsPrefix g s views r (found.base + found.prefix) (block_at found.blocks.items)

  -- The replies of all committed groups are the store's, one group after another in number order.
  abbrev pub CommitsAreOfTheStore : Type 0
  CommitsAreOfTheStore =
      (g : Geometry) (ports : Ports P) (s : Standing) (o : Start P KvEntry G)
      (views : List (Seat P KvEntry G)) (r : Ended P KvEntry G)
      → IsOpenedOver state faults g ports s o
      → HasRun state faults store_group o views r
      → (store : Store) × Leads (first_store g s) (map (λ h. h.1) (history_of r)) store

  -- They are exactly those of the buckets, so that no put is refused whose bucket has room.
  abbrev pub CommitsAreExact : Type 0
  CommitsAreExact =
      (g : Geometry) (ports : Ports P) (s : Standing) (o : Start P KvEntry G)
      (views : List (Seat P KvEntry G)) (r : Ended P KvEntry G)
      → IsOpenedOver state faults g ports s o
      → HasRun state faults store_group o views r
      → AnswerOn (meta_of g) (store_map g s.blocks.items) (map (λ h. h.1) (history_of r))

  -- Those of a group that was read are the store's at its number.
  abbrev pub ReadsAreOfTheStore : Type 0
  ReadsAreOfTheStore =
      (g : Geometry) (ports : Ports P) (s : Standing) (o : Start P KvEntry G)
      (views : List (Seat P KvEntry G)) (r : Ended P KvEntry G)
      → IsOpenedOver state faults g ports s o
      → HasRun state faults store_group o views r
      → Each (λ a. IsRepliedAt g s r (newest a.1) a.0) (read_of views)

  -- What a session drew stands in the history at its number.
  abbrev pub DrawnGroupsAreInTheHistory : Type 0
  DrawnGroupsAreInTheHistory =
      (g : Geometry) (ports : Ports P) (s : Standing) (o : Start P KvEntry G)
      (views : List (Seat P KvEntry G)) (r : Ended P KvEntry G)
      → IsOpenedOver state faults g ports s o
      → HasRun state faults store_group o views r
      → Each (λ d. slice_get (history_of r) (d.0 - suc s.base) ≡ Some d) (drawn_of views)
