-- What is found on the ports of a closed desk after a power cut, by the history of its groups.
use Rattle.std.proofs.Common.{◌≡◌, ◌∙◌, ℕ, suc, ◌+◌, ◌<◌, ◌≤◌, true, List, [], ◌∷◌, length, get_or, inl, inr, refl, sym, ap, subst, arith}
use Rattle.std.specs.Prelude.{Option, None, Some}
use Rattle.std.proofs.lemmas.List.{length-map}
use Rattle.mq_blocks.proofs.JournalAmong.{among-contains, among-here}
use Rattle.mq_sessions.proofs.Members.{cons-cases, none-contained}
use Rattle.mq_nvme.specs.Says.{journal_reading}
use Rattle.mq_blocks.specs.Descriptor.{Descriptor}
use Rattle.mq_blocks.specs.Drive.{PortImage, PortState}
use Rattle.mq_blocks.specs.Geometry.{homes_of}
use Rattle.mq_blocks.specs.Journal.{is_among, shown, stands}
use Rattle.mq_blocks.specs.Machine.{Map}
use Rattle.mq_blocks.specs.declared.geometry.Geometry.{Geometry}
use Rattle.mq_core.proofs.StateCuts.{cut_of}
use Rattle.mq_drive.specs.Steps.{PortFault}
use Rattle.mq_drive.specs.declared.port.Port.{Ghosts}
use Rattle.mq_drive.specs.declared.port.Ports.{Ports}
use Rattle.mq_state_laws.proofs.PartsAssembly.{front_reached}
use Rattle.mq_state_laws.proofs.JournalTops.{shows_low}
use Rattle.mq_state_laws.specs.Parts.{Parts, least_marks, state_with}
use Rattle.mq_journal.specs.Numbers.{Seat, Shared, Start}
use Rattle.mq_journal.specs.Values.{side_values}
use Rattle.mq_kv.proofs.OpeningStore.{map-at}
use Rattle.mq_kv.specs.Opening.{IsOpenedOver, store_map}
use Rattle.mq_kv_entries.specs.Group.{store_group}
use Rattle.mq_kv_entries.specs.declared.entry.KvEntry.{KvEntry}
use Rattle.mq_ledger.specs.History as ledger
use Rattle.mq_ledger.specs.KnownJournal.{front}
use Rattle.mq_ledger.specs.State as machine
use Rattle.mq_ledger.specs.State.{State}
use Rattle.mq_recover.specs.Drives.{AreImages, states}
use Rattle.mq_recover.specs.Recovery.{IsReadPrefix}
use Rattle.mq_recover.specs.declared.standing.Standing.{Standing}
use Rattle.mq_desk_laws.specs.Rule.{core_of, geometry_of, history, history_of, shape_of, start_of}
use Rattle.mq_desk_laws.specs.Values.{Values}
use Rattle.mq_queue_side.specs.declared.root.Root.{Root}
use Rattle.mq_queue_side.specs.declared.side.QueueSide.{QueueSide}
use Rattle.mq_state_laws.proofs.ReadableTops.{top-of}
use Rattle.mq_tie.specs.Closed.{HasRun}
use Rattle.mq_tie.specs.Runs.{EndsLawfully, IsKnownDone, parts_of, ports_of}
use Rattle.mq_tie.specs.declared.ended.Ended.{Ended}

module _ {Q R : Type 0} (values : Values Q R KvEntry) where
  pub many-txs : (base : ℕ) (es : List KvEntry) → length (history values store_group base es) ≡ length es
  many-txs base [] = refl
  many-txs base (e ∷ es) = ap suc (many-txs base es)

module _ {P : Type 0} (G : Ghosts P) (state : P → PortState) (faults : P → List PortFault) (g : Geometry) (ports : Ports P) (s : Standing) (o : Start P KvEntry G) (views : List (Seat P KvEntry G)) (r : Ended P KvEntry G)
    (opened : IsOpenedOver state faults g ports s o) (run : HasRun state faults store_group o views r) where
  abbrev values : Values (QueueSide P KvEntry G) (Root P G) KvEntry
  values = side_values state faults

  abbrev K : Shared P KvEntry G
  K = run.end.known

  abbrev own : Geometry
  own = geometry_of values store_group K

  abbrev start : Map
  start = start_of values store_group K.opening

  pub shape-is : own ≡ g
  shape-is = ap (shape_of values store_group) run.end.opening ∙ opened.shape

  pub base-is : K.opening.base ≡ s.base
  base-is = ap (λ (x : Start P KvEntry G). x.base) run.end.opening ∙ opened.base

  pub start-is : (b : ℕ) → start b ≡ store_map g s.blocks.items b
  start-is b =
      ap (λ (x : Start P KvEntry G). start_of values store_group x b) run.end.opening
      ∙ (ap (λ (xs : List (Option (List ℕ))). get_or xs b None) opened.pages ∙ map-at g s.blocks.items b)

  pub all-sides : length K.opening.sides ≡ own.queues
  all-sides =
      ap (λ (x : Start P KvEntry G). length x.sides) run.end.opening
      ∙ (sym (length-map o.sides (λ (q : QueueSide P KvEntry G). state q.pmr.port))
      ∙ (opened.fresh.start.ports
      ∙ (ap (λ (x : Geometry). x.queues) opened.shape
      ∙ sym (ap (λ (x : Geometry). x.queues) shape-is))))

  abbrev pub parts : Parts
  parts = parts_of state faults store_group K r []

  abbrev at-end : State
  at-end = state_with (least_marks parts) parts

  pub ends : EndsLawfully state faults store_group K r []
  ends = run.run.ends all-sides [] (λ n among. absurd (cc))

  -- what is found on an image
  pub record Found (h : Geometry) (queues : List PortImage) (root : PortImage) : Type 0 where
    pub ds : List Descriptor
    pub top : ℕ
    pub read : IsReadPrefix h (shown journal_reading h queues root) ds top
    pub top_low : top ≤ K.opening.base + length K.log
    pub least : front (core_of values store_group K) ≤ root.base + length ds
    pub most : root.base + length ds ≤ K.opening.base + length K.log
    pub stand : (x : ℕ) (content : List ℕ) → x < homes_of h → ledger.map_after start (ledger.upto (root.base + length ds) (history_of values store_group K)) x ≡ Some content → stands h (shown journal_reading h queues root) ds x ≡ content

  found-own : (queues : List PortImage) (root : PortImage) → machine.AreImages at-end queues root → Found own queues root
  found-own queues root images =
      let recovers = ends.lawful.safe.images queues root images in
      let cut = cut_of parts.entries at-end queues root ends.lawful.facts images in
      let top = top-of (shown journal_reading own queues root) recovers.chains own recovers.whole in
      let low = shows_low parts.entries at-end ends.lawful.facts (shown journal_reading own queues root) cut recovers.chains top.0 recovers.whole top.1.shown in
      let many = many-txs values K.opening.base K.log in
      let reached = front_reached parts ends.parts in
      let least = recovers.least in
      let most = recovers.most in
      record {
        ds = recovers.ds;
        top = top.0;
        read = record { form_is = refl; chains = recovers.chains; whole = recovers.whole; prefix = recovers.prefix; top_is = top.1 };
        top_low = omega arith;
        least = omega arith;
        most = omega arith;
        stand = recovers.stand;
      }

  pub found : (queues : List PortImage) (root : PortImage) → AreImages g (states state (ports_of r) r.root.port) queues root → Found g queues root
  found queues root =
      subst (λ (h : Geometry). AreImages h (states state (ports_of r) r.root.port) queues root → Found h queues root) shape-is
      (λ images. found-own queues root (record { each = images.each; root_is = images.root_is }))

  -- what a session knew to be done is at or below the front
  pub known-low : (n : ℕ) → IsKnownDone views r.next n → n ≤ front (core_of values store_group K)
  known-low n known =
      let e = run.run.ends all-sides (n ∷ []) (λ m among. subst (λ (k : ℕ). IsKnownDone views r.next k) (only m among) known) in
      e.parts.acknowledged n (among-here n [])
    where
      only : (m : ℕ) → is_among m (n ∷ []) ≡ true → n ≡ m
      only m among = elim (cons-cases n [] m (among-contains (n ∷ []) m among)) [
        | inl same ↦ same
        | inr none ↦ none-contained m none
      ]
