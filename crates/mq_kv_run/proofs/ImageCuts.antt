-- Whatever a power cut leaves of the ports of a closed desk is a cut of what is told of its groups.
use Rattle.std.proofs.Common.{◌≡◌, ◌∙◌, ℕ, suc, cond, ◌+◌, ◌<◌, ◌≤◌, Bool, List, [], ◌∷◌, ◌++◌, length, inl, inr, refl, sym, ap, subst, arith}
use Rattle.std.specs.Prelude.{Option, None, Some}
use Rattle.std.proofs.lemmas.Bool.{cases_lt, lt-ltb}
use Rattle.mq_nvme.specs.Says.{journal_reading}
use Rattle.mq_blocks.specs.Blocks.{block_at, content}
use Rattle.mq_blocks.specs.Drive.{PortImage, PortState}
use Rattle.mq_blocks.specs.Geometry.{meta_of}
use Rattle.mq_blocks.specs.Journal.{shown, stands}
use Rattle.mq_blocks.specs.Machine.{Map}
use Rattle.mq_blocks.specs.declared.geometry.Geometry.{Geometry}
use Rattle.mq_drive.specs.Steps.{PortFault}
use Rattle.mq_drive.specs.declared.port.Port.{Ghosts}
use Rattle.mq_drive.specs.declared.port.Ports.{Ports}
use Rattle.mq_journal.specs.Numbers.{Seat, Shared, Start}
use Rattle.mq_journal.specs.Values.{side_values}
use Rattle.mq_kv.proofs.Histories.{there-log}
use Rattle.mq_kv.specs.Opening.{IsOpenedOver}
use Rattle.mq_kv_buckets.specs.declared.operation.KvOp.{KvOp}
use Rattle.mq_kv_entries.proofs.Entries.{meta-home}
use Rattle.mq_kv_entries.specs.Group.{store_group}
use Rattle.mq_kv_entries.specs.declared.entry.KvEntry.{KvEntry}
use Rattle.mq_kv_run.specs.Groups.{IsReached, Point, with_cut, without}
use Rattle.mq_kv_run.specs.Promise.{IsCutAt}
use Rattle.mq_kv_run.specs.Trails.{IsCutLast, IsNewest, IsPointAt}
use Rattle.mq_kv_run.proofs.ImageEnds as at_end
use Rattle.mq_ledger.specs.History.{map_after, upto}
use Rattle.mq_ledger.specs.KnownJournal.{front}
use Rattle.mq_recover.specs.Drives.{AreImages, states}
use Rattle.mq_recover.specs.declared.standing.Standing.{Standing}
use Rattle.mq_desk_laws.specs.Rule.{core_of, history, history_of, start_of}
use Rattle.mq_desk_laws.specs.Values.{Values}
use Rattle.mq_queue_side.specs.declared.root.Root.{Root}
use Rattle.mq_queue_side.specs.declared.side.QueueSide.{QueueSide}
use Rattle.mq_tie.proofs.Legal.{upto-hist}
use Rattle.mq_tie.specs.Closed.{HasRun}
use Rattle.mq_tie.specs.Runs.{ports_of}
use Rattle.mq_tie.specs.declared.ended.Ended.{Ended}

module _ {P : Type 0} (G : Ghosts P) (state : P → PortState) (faults : P → List PortFault) (g : Geometry) (ports : Ports P) (s : Standing) (o : Start P KvEntry G) (views : List (Seat P KvEntry G)) (r : Ended P KvEntry G)
    (opened : IsOpenedOver state faults g ports s o) (run : HasRun state faults store_group o views r) where
  abbrev values : Values (QueueSide P KvEntry G) (Root P G) KvEntry
  values = side_values state faults

  abbrev K : Shared P KvEntry G
  K = run.end.known

  abbrev start : Map
  start = start_of values store_group K.opening

  abbrev base : ℕ
  base = K.opening.base

  -- each bucket is in the map
  has-bucket : (es : List KvEntry) (b : ℕ) → b < meta_of g → (now : List ℕ) × (map_after start (history values store_group base es) b ≡ Some now)
  has-bucket es b low =
      let first : start b ≡ Some (block_at s.blocks.items b) =
      at_end.start-is G state faults g ports s o views r opened run b ∙ ap (λ (t : Bool). cond t (Some (block_at s.blocks.items b)) None) (lt-ltb b (meta_of g) low) in
      there-log values g start base es b (block_at s.blocks.items b) first

  -- what stands on an image that reaches the end of the older groups has the buckets of their point
  stands-at : (queues : List PortImage) (root : PortImage) (f : at_end.Found G state faults g ports s o views r opened run g queues root) (newer old : List KvEntry) (p : Point) → K.log ≡ newer ++ old → root.base + length f.ds ≡ base + length old → IsPointAt state faults g K old p
      → (b : ℕ) → b < meta_of g → stands g (shown journal_reading g queues root) f.ds b ≡ content (p.map b)
  stands-at queues root f newer old p whole number at b low =
      let now = has-bucket old b low in
      let there_is : map_after start (upto (root.base + length f.ds) (history_of values store_group K)) b ≡ Some now.0 =
      ap (λ (es : List KvEntry). map_after start (upto (root.base + length f.ds) (history values store_group base es)) b) whole
      ∙ (ap (λ ts. map_after start ts b) (upto-hist values store_group base (root.base + length f.ds) newer old number) ∙ now.1) in
      f.stand b now.0 (meta-home g b low) there_is ∙ (sym (ap content now.1) ∙ sym (at.each b low))

  -- the point that an image reaches
  pub record Reached (last newest : Point) (off : Option (List KvOp)) (queues : List PortImage) (root : PortImage) : Type 0 where
    pub point : Point
    pub at : IsReached g last off point
    pub cut : IsCutAt g (shown journal_reading g queues root) point newest.number

  module _ (last newest : Point) (off : Option (List KvOp)) (queues : List PortImage) (root : PortImage) (low : last.number ≤ front (core_of values store_group K)) (f : at_end.Found G state faults g ports s o views r opened run g queues root) where
    at-whole : IsPointAt state faults g K K.log newest → IsReached g last off newest → root.base + length f.ds ≡ base + length K.log → Reached last newest off queues root
    at-whole at is number =
        let top = f.top_low in
        let high = at.number in
        record {
          point = newest;
          at = is;
          cut = record {
            ds = f.ds;
            top = f.top;
            read = f.read;
            reaches = omega arith;
            each = stands-at queues root f [] K.log newest refl number at;
            top_most = omega arith;
          };
        }

    at-before : (c : IsCutLast state faults g K last off newest) → root.base + length f.ds ≡ base + length c.before → Reached last newest off queues root
    at-before c number =
        let top = f.top_low in
        let high = c.behind.number in
        let own = c.at.number in
        record {
          point = last;
          at = without off;
          cut = record {
            ds = f.ds;
            top = f.top;
            read = f.read;
            reaches = omega arith;
            each = stands-at queues root f (c.entry ∷ []) c.before last c.log number c.at;
            top_most = omega arith;
          };
        }

    pub is-cut : IsNewest state faults g K last off newest → Reached last newest off queues root
    is-cut (inl (same, at)) =
        let least = f.least in
        let most = f.most in
        let own = at.number in
        at-whole (subst (λ (p : Point). IsPointAt state faults g K K.log p) (sym same) at) (subst (λ (p : Point). IsReached g last off p) (sym same) (without off)) (omega arith)
    is-cut (inr c) =
        let least = f.least in
        let most = f.most in
        let own = c.at.number in
        let long : length K.log ≡ suc (length c.before) = ap (λ (es : List KvEntry). length es) c.log in
        elim (cases_lt (root.base + length f.ds) (base + length K.log)) [
          | inl less ↦ at-before c (omega arith)
          | inr whole ↦ at-whole c.behind (subst (λ (x : Option (List KvOp)). IsReached g last x newest) (sym c.off_is) (with_cut c.ops newest c.commit)) (omega arith)
        ]

  -- each image of the ports at the end is a cut
  pub ends-in-cut : (last newest : Point) (off : Option (List KvOp)) (queues : List PortImage) (root : PortImage) → last.number ≤ front (core_of values store_group K) → IsNewest state faults g K last off newest → AreImages g (states state (ports_of r) r.root.port) queues root → Reached last newest off queues root
  ends-in-cut last newest off queues root low is images =
      is-cut last newest off queues root low (at_end.found G state faults g ports s o views r opened run queues root images) is
