-- What recovery finds of the ports after a run: the store after the first groups of its history.
use Rattle.std.proofs.Common.{◌≡◌, ℕ, zero, suc, ◌+◌, ◌-◌, ◌<◌, ◌≤◌, true, Bool, cond, List, [], ◌∷◌, ◌++◌, length, get_or, map, take, drop, Option, Some, None, refl, sym, ap, subst, ◌∙◌, inl, inr, arith}
use Rattle.std.specs.Prelude.{reverse, slice_get}
use Rattle.std.proofs.lemmas.Bool.{lt-ltb}
use Rattle.std.proofs.lemmas.List.{length-drop, length-map, length-reverse, reverse-append, take-append-drop}
use Rattle.std.proofs.Math.Seq.{take-append_seam}
use Rattle.mq_blocks.specs.Blocks.{block_at, content}
use Rattle.mq_blocks.specs.Drive.{PortState}
use Rattle.mq_blocks.specs.Geometry.{homes_of, meta_of}
use Rattle.mq_blocks.specs.Journal.{is_among}
use Rattle.mq_blocks.specs.Machine.{Map}
use Rattle.mq_blocks.specs.declared.geometry.Geometry.{Geometry}
use Rattle.mq_blocks.proofs.JournalAmong.{among-contains, among-here}
use Rattle.mq_desk_laws.specs.Rule.{IsLegalHistory, geometry_of, history, history_of, shape_of, start_of}
use Rattle.mq_desk_laws.specs.Values.{Values}
use Rattle.mq_drive.specs.Steps.{PortFault}
use Rattle.mq_drive.specs.declared.port.Port.{Ghosts}
use Rattle.mq_drive.specs.declared.port.Ports.{Ports}
use Rattle.mq_journal.specs.Numbers.{Seat, Shared, Start}
use Rattle.mq_journal.specs.Values.{side_values}
use Rattle.mq_kv_buckets.specs.Buckets.{IsFormed}
use Rattle.mq_kv_buckets.specs.Keys.{bucket_of}
use Rattle.mq_kv_buckets.specs.Store.{Store, kv_of}
use Rattle.mq_kv_buckets.proofs.StoreLaws.{Alike, bucket-low}
use Rattle.mq_kv_entries.specs.Entries.{RanUndrawn, map_by}
use Rattle.mq_kv_entries.specs.Group.{store_group}
use Rattle.mq_kv_entries.specs.declared.entry.KvEntry.{KvEntry}
use Rattle.mq_kv_entries.proofs.Entries.{meta-home, some-buckets}
use Rattle.mq_sessions.proofs.Members.{cons-cases, none-contained}
use Rattle.mq_kv.specs.Laws.{AnswerOn, HoldsPrefix, IsCutOfEnd, IsRepliedAt, Leads, buckets_after, buckets_at, first_groups, first_store}
use Rattle.mq_kv.specs.Opening.{IsOpenedOver, store_map}
use Rattle.mq_kv.proofs.AlikeBuckets.{Alike as AlikeBuckets, answers-alike, groups-alike, replies-alike}
use Rattle.mq_kv.proofs.Histories.{answers-log, buckets-log, formed-log, kv-same, leads-from, leads-log, legal-older, ran-runs, there-log}
use Rattle.mq_kv.proofs.OpeningStore.{map-at}
use Rattle.mq_ledger.specs.History.{map_after, upto}
use Rattle.mq_queue_side.specs.declared.root.Root.{Root}
use Rattle.mq_queue_side.specs.declared.side.QueueSide.{QueueSide}
use Rattle.mq_recover.specs.Drives.{DriveState, view_over}
use Rattle.mq_recover.specs.Standing.{StandsIn}
use Rattle.mq_recover.specs.Steps.{HasRecovered}
use Rattle.mq_recover.specs.declared.standing.Standing.{Standing}
use Rattle.mq_state_laws.specs.Found.{Finds}
use Rattle.mq_state_laws.specs.Laws.{RecoveriesFindAPrefix, StandingsFindAPrefix}
use Rattle.mq_tie.proofs.Legal.{upto-hist}
use Rattle.mq_tie.specs.Closed.{HasRun}
use Rattle.mq_tie.specs.Legal.{IsRead, numbered}
use Rattle.mq_tie.specs.Runs as runs
use Rattle.mq_tie.specs.Runs.{EndsLawfully, IsKnownDone, parts_of, ports_of}
use Rattle.mq_tie.specs.declared.ended.Ended.{Ended}
use Rattle.mq_turns.specs.Desk.{drawn_of, read_of}
use Rattle.mq_turns.specs.Lists.{Each}
use Rattle.mq_turns.specs.Meaning.{newest}

-- ---- lists

numbered-take : {E : Type 0} (n k : ℕ) (xs : List E) → map (λ h. h.1) (take n (numbered k xs)) ≡ take n xs
numbered-take zero k xs = refl
numbered-take (suc n) k [] = refl
numbered-take {E} (suc n) k (x ∷ xs) = ap (λ (ys : List E). x ∷ ys) (numbered-take n (suc k) xs)

numbered-all : {E : Type 0} (k : ℕ) (xs : List E) → map (λ h. h.1) (numbered k xs) ≡ xs
numbered-all k [] = refl
numbered-all {E} k (x ∷ xs) = ap (λ (ys : List E). x ∷ ys) (numbered-all (suc k) xs)

numbered-length : {E : Type 0} (k : ℕ) (xs : List E) → length (numbered k xs) ≡ length xs
numbered-length k [] = refl
numbered-length k (x ∷ xs) = ap suc (numbered-length (suc k) xs)

older : {E : Type 0} (log newer old : List E) → log ≡ newer ++ old → take (length old) (reverse log) ≡ reverse old
older log newer old is =
    ap (λ es. take (length old) (reverse es)) is
    ∙ (ap (take (length old)) (reverse-append newer old)
    ∙ (ap (λ (n : ℕ). take n (reverse old ++ reverse newer)) (sym (length-reverse old))
    ∙ take-append_seam (reverse old) (reverse newer)))

module _ {P : Type 0} (G : Ghosts P) (state : P → PortState) (faults : P → List PortFault) (g : Geometry) (ports : Ports P) (s : Standing) (o : Start P KvEntry G) (views : List (Seat P KvEntry G)) (r : Ended P KvEntry G)
    (opened : IsOpenedOver state faults g ports s o) (run : HasRun state faults store_group o views r) where
  abbrev values : Values (QueueSide P KvEntry G) (Root P G) KvEntry
  values = side_values state faults

  abbrev K : Shared P KvEntry G
  K = run.end.known

  abbrev own : Geometry
  own = geometry_of values store_group K

  abbrev start : Map
  start = start_of values store_group K.opening

  shape-is : own ≡ g
  shape-is = ap (shape_of values store_group) run.end.opening ∙ opened.shape

  base-is : K.opening.base ≡ s.base
  base-is = ap (λ (x : Start P KvEntry G). x.base) run.end.opening ∙ opened.base

  start-is : (b : ℕ) → start b ≡ store_map g s.blocks.items b
  start-is b =
      ap (λ (x : Start P KvEntry G). start_of values store_group x b) run.end.opening
      ∙ (ap (λ (xs : List (Option (List ℕ))). get_or xs b None) opened.pages ∙ map-at g s.blocks.items b)

  legal : IsLegalHistory values store_group g start K.opening.base K.log
  legal = subst (λ (h : Geometry). IsLegalHistory values store_group h start K.opening.base K.log) shape-is run.end.ok.legal

  all-sides : length K.opening.sides ≡ own.queues
  all-sides =
      ap (λ (x : Start P KvEntry G). length x.sides) run.end.opening
      ∙ (sym (length-map o.sides (λ (q : QueueSide P KvEntry G). state q.pmr.port))
      ∙ (opened.fresh.start.ports
      ∙ (ap (λ (x : Geometry). x.queues) opened.shape
      ∙ sym (ap (λ (x : Geometry). x.queues) shape-is))))

  -- ---- the groups up to a number

  record Upto (n : ℕ) : Type 0 where
    pub newer : List KvEntry
    pub old : List KvEntry
    pub whole : K.log ≡ newer ++ old
    pub number : n ≡ K.opening.base + length old
    pub some : length old ≤ length K.log

  upto-at : (n : ℕ) → K.opening.base ≤ n → n ≤ K.opening.base + length K.log → Upto n
  upto-at n low high =
      let k = K.opening.base + length K.log - n in
      let many = length-drop k K.log in
      record {
        newer = take k K.log;
        old = drop k K.log;
        whole = sym (take-append-drop k K.log);
        number = omega arith;
        some = omega arith;
      }

  abbrev map-of : List KvEntry → Map
  map-of es = map_after start (history values store_group K.opening.base es)

  abbrev store-of : List KvEntry → Store
  store-of es = kv_of (meta_of g) (map-of es)

  first-alike : Alike (kv_of (meta_of g) start) (first_store g s)
  first-alike key = kv-same (meta_of g) start (store_map g s.blocks.items) key (ap content (start-is (bucket_of (meta_of g) key)))

  long : length (runs.history_of r) ≡ length K.log
  long = ap length run.run.history ∙ (numbered-length (suc K.opening.base) (reverse K.log) ∙ length-reverse K.log)

  groups-old : (n : ℕ) (u : Upto n) → first_groups (length u.old) r ≡ reverse u.old
  groups-old n u =
      ap (λ (hs : List (ℕ × KvEntry)). map (λ h. h.1) (take (length u.old) hs)) run.run.history
      ∙ (numbered-take (length u.old) (suc K.opening.base) (reverse K.log) ∙ older K.log u.newer u.old u.whole)

  legal-old : (n : ℕ) (u : Upto n) → IsLegalHistory values store_group g start K.opening.base u.old
  legal-old n u = legal-older values g start K.opening.base u.newer u.old (subst (λ (es : List KvEntry). IsLegalHistory values store_group g start K.opening.base es) u.whole legal)

  leads-old : (n : ℕ) (u : Upto n) → Leads (first_store g s) (first_groups (length u.old) r) (store-of u.old)
  leads-old n u =
      subst (λ (es : List KvEntry). Leads (first_store g s) es (store-of u.old)) (sym (groups-old n u))
      (leads-from (kv_of (meta_of g) start) (first_store g s) (store-of u.old) (reverse u.old) first-alike (leads-log values g start K.opening.base u.old (legal-old n u)))

  start-buckets : AlikeBuckets (meta_of g) start (store_map g s.blocks.items)
  start-buckets b low = ap content (start-is b)

  -- byte for byte
  buckets-old : (n : ℕ) (u : Upto n) → AlikeBuckets (meta_of g) (map-of u.old) (buckets_at g s (length u.old) r)
  buckets-old n u b low =
      buckets-log values g start K.opening.base u.old (legal-old n u) b low
      ∙ (groups-alike (meta_of g) (some-buckets g) start (store_map g s.blocks.items) (reverse u.old) start-buckets b low
      ∙ ap (λ (es : List KvEntry). content (buckets_after (meta_of g) (store_map g s.blocks.items) es b)) (sym (groups-old n u)))

  map-upto : (n : ℕ) (u : Upto n) → map_after start (upto n (history_of values store_group K)) ≡ map-of u.old
  map-upto n u =
      ap (λ (es : List KvEntry). map_after start (upto n (history values store_group K.opening.base es))) u.whole
      ∙ ap (map_after start) (upto-hist values store_group K.opening.base n u.newer u.old u.number)

  -- ---- what is found

  record Found (h : Geometry) (reached : ℕ) (home : ℕ → List ℕ) : Type 0 where
    pub least : K.opening.base ≤ reached
    pub most : reached ≤ K.opening.base + length K.log
    pub durable : (n : ℕ) → IsKnownDone views r.next n → n ≤ reached
    pub stand : (x : ℕ) (page : List ℕ) → x < homes_of h → map_after start (upto reached (history_of values store_group K)) x ≡ Some page → home x ≡ page

  -- what is found of a bucket
  bucket-found : (reached : ℕ) (home : ℕ → List ℕ) → Found g reached home → (u : Upto reached) → (b : ℕ) → b < meta_of g → home b ≡ content (map-of u.old b)
  bucket-found reached home found u b low =
      let first : start b ≡ Some (block_at s.blocks.items b) = start-is b ∙ ap (λ (t : Bool). cond t (Some (block_at s.blocks.items b)) None) (lt-ltb b (meta_of g) low) in
      let now = there-log values g start K.opening.base u.old b (block_at s.blocks.items b) first in
      let is : home b ≡ now.0 = found.stand b now.0 (meta-home g b low) (ap (λ (m : Map). m b) (map-upto reached u) ∙ now.1) in
      is ∙ sym (ap content now.1)

  holds-prefix : (reached : ℕ) (home : ℕ → List ℕ) → Found g reached home → HoldsPrefix g s views r reached home
  holds-prefix reached home found =
      let u = upto-at reached found.least found.most in
      let number = u.number in
      let some = u.some in
      let base = base-is in
      let many = long in
      record {
        count = length u.old;
        reaches = omega arith;
        some = omega arith;
        durable = found.durable;
        store = store-of u.old;
        leads = leads-old reached u;
        holds = λ key. kv-same (meta_of g) (λ x. Some (home x)) (map-of u.old) key (bucket-found reached home found u (bucket_of (meta_of g) key) (bucket-low (meta_of g) key (some-buckets g)));
        buckets = λ b low. bucket-found reached home found u b low ∙ buckets-old reached u b low;
        formed = λ b low. subst IsFormed (sym (bucket-found reached home found u b low)) (formed-log values g start K.opening.base u.old (legal-old reached u) b low);
      }

  -- ---- by the laws of recovery

  told-of : (n : ℕ) → IsKnownDone views r.next n → (m : ℕ) → is_among m (n ∷ []) ≡ true → IsKnownDone views r.next m
  told-of n known m among = elim (cons-cases n [] m (among-contains (n ∷ []) m among)) [
    | inl same ↦ subst (λ (k : ℕ). IsKnownDone views r.next k) same known
    | inr none ↦ none-contained m none
  ]

  ends-with : (told : List ℕ) → ((n : ℕ) → is_among n told ≡ true → IsKnownDone views r.next n) → EndsLawfully state faults store_group K r told
  ends-with told known = run.run.ends all-sides told known

  many-txs : (base : ℕ) (es : List KvEntry) → length (history values store_group base es) ≡ length es
  many-txs base [] = refl
  many-txs base (e ∷ es) = ap suc (many-txs base es)

  -- what is found of the parts, whichever numbers were acknowledged
  found-by : (reached : ℕ) (home : ℕ → List ℕ) → ((told : List ℕ) → ((n : ℕ) → is_among n told ≡ true → IsKnownDone views r.next n) → Finds (parts_of state faults store_group K r told) reached home) → Found own reached home
  found-by reached home finds =
      let none = finds [] (λ n among. absurd (cc)) in
      let many = many-txs K.opening.base K.log in
      let settled = none.settled in
      let most = none.most in
      record {
        least = omega arith;
        most = omega arith;
        durable = λ n known. (finds (n ∷ []) (told-of n known)).acknowledged n (among-here n []);
        stand = none.stand;
      }

  recovered-own : RecoveriesFindAPrefix → (d new : DriveState) (prefix base : ℕ) → IsCutOfEnd G state faults own r d → HasRecovered own d prefix base new → Found own (d.root.base + prefix) (view_over own new).home
  recovered-own law d new prefix base cut recovered = found-by (d.root.base + prefix) (view_over own new).home (λ told known.
      law (parts_of state faults store_group K r told) d new prefix base (ends-with told known).parts refl (record { each = cut.each; root_is = cut.root_is }) recovered)

  pub recovered : RecoveriesFindAPrefix → (d new : DriveState) (prefix base : ℕ) → IsCutOfEnd G state faults g r d → HasRecovered g d prefix base new → HoldsPrefix g s views r (d.root.base + prefix) (view_over g new).home
  recovered law d new prefix base cut is =
      holds-prefix (d.root.base + prefix) (view_over g new).home
      (subst (λ (h : Geometry). IsCutOfEnd G state faults h r d → HasRecovered h d prefix base new → Found h (d.root.base + prefix) (view_over h new).home) shape-is (recovered-own law d new prefix base) cut is)

  standing-own : StandingsFindAPrefix → (d : DriveState) (found : Standing) → IsCutOfEnd G state faults own r d → StandsIn own d found → Found own (found.base + found.prefix) (block_at found.blocks.items)
  standing-own law d found cut stands = found-by (found.base + found.prefix) (block_at found.blocks.items) (λ told known.
      law (parts_of state faults store_group K r told) d found (ends-with told known).parts refl (record { each = cut.each; root_is = cut.root_is }) stands)

  pub standing : StandingsFindAPrefix → (d : DriveState) (found : Standing) → IsCutOfEnd G state faults g r d → StandsIn g d found → HoldsPrefix g s views r (found.base + found.prefix) (block_at found.blocks.items)
  standing law d found cut is =
      holds-prefix (found.base + found.prefix) (block_at found.blocks.items)
      (subst (λ (h : Geometry). IsCutOfEnd G state faults h r d → StandsIn h d found → Found h (found.base + found.prefix) (block_at found.blocks.items)) shape-is (standing-own law d found) cut is)

  -- ---- replies

  pub commits : (store : Store) × Leads (first_store g s) (map (λ h. h.1) (runs.history_of r)) store
  commits =
      let groups : map (λ h. h.1) (runs.history_of r) ≡ reverse K.log = ap (map (λ (h : ℕ × KvEntry). h.1)) run.run.history ∙ numbered-all (suc K.opening.base) (reverse K.log) in (
        store-of K.log,
        subst (λ (es : List KvEntry). Leads (first_store g s) es (store-of K.log)) (sym groups)
            (leads-from (kv_of (meta_of g) start) (first_store g s) (store-of K.log) (reverse K.log) first-alike (leads-log values g start K.opening.base K.log legal)),
      )

  pub exact : AnswerOn (meta_of g) (store_map g s.blocks.items) (map (λ h. h.1) (runs.history_of r))
  exact =
      let groups : map (λ h. h.1) (runs.history_of r) ≡ reverse K.log = ap (map (λ (h : ℕ × KvEntry). h.1)) run.run.history ∙ numbered-all (suc K.opening.base) (reverse K.log) in
      subst (λ (es : List KvEntry). AnswerOn (meta_of g) (store_map g s.blocks.items) es) (sym groups)
      (answers-alike (meta_of g) (some-buckets g) start (store_map g s.blocks.items) (reverse K.log) start-buckets (answers-log values g start K.opening.base K.log legal))

  replied : (n : ℕ) (e : KvEntry) → IsRead values store_group K n e → IsRepliedAt g s r n e
  replied n e read =
      let u = upto-at n read.low read.high in
      let number = u.number in
      let some = u.some in
      let base = base-is in
      let many = long in
      let asks : RanUndrawn g (map-of u.old) e =
      subst (λ (m : Map). RanUndrawn g m e) (map-upto n u) (subst (λ (h : Geometry). RanUndrawn h (map_after start (upto n (history_of values store_group K))) e) shape-is read.asks) in
      record {
        count = length u.old;
        number = omega arith;
        some = omega arith;
        store = store-of u.old;
        leads = leads-old n u;
        after = kv_of (meta_of g) (map_by g (map-of u.old) e);
        runs = ran-runs g (map-of u.old) e asks.ran;
        exact = asks.ran.is.replies_are ∙ replies-alike (meta_of g) (some-buckets g) (map-of u.old) (buckets_at g s (length u.old) r) e.ops (buckets-old n u);
      }

  each-read : (rs : List (KvEntry × Shared P KvEntry G)) → Each (λ a. IsRead values store_group K (newest a.1) a.0) rs → Each (λ a. IsRepliedAt g s r (newest a.1) a.0) rs
  each-read [] reads = tt
  each-read (a ∷ rs) reads = (replied (newest a.1) a.0 reads.0, each-read rs reads.1)

  pub reads : Each (λ a. IsRepliedAt g s r (newest a.1) a.0) (read_of views)
  reads = each-read (read_of views) run.run.reads

  pub draws : Each (λ d. slice_get (runs.history_of r) (d.0 - suc s.base) ≡ Some d) (drawn_of views)
  draws = subst (λ (n : ℕ). Each (λ d. slice_get (runs.history_of r) (d.0 - suc n) ≡ Some d) (drawn_of views)) base-is run.run.draws
