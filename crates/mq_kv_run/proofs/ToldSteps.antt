-- What a group that was drawn or read comes to at its point of the history.
use Rattle.std.proofs.Common.{◌≡◌, ◌⊎◌, ℕ, suc, ◌+◌, ◌<◌, ◌≤◌, true, List, [], ◌∷◌, ◌++◌, length, inl, inr, refl, sym, ap, subst, ◌∙◌, arith}
use Rattle.std.specs.Prelude.{Some}
use Rattle.mq_blocks.specs.Blocks.{content}
use Rattle.mq_blocks.specs.Drive.{PortState}
use Rattle.mq_blocks.specs.Geometry.{meta_of, write_limit}
use Rattle.mq_blocks.specs.Machine.{Map, after}
use Rattle.mq_blocks.specs.declared.geometry.Geometry.{Geometry}
use Rattle.mq_desk_laws.specs.Rule.{IsLegalHistory, geometry_of, history, history_of, map_now, numbered, shape_of, start_of}
use Rattle.mq_desk_laws.specs.Values.{Values}
use Rattle.mq_drive.specs.Steps.{PortFault}
use Rattle.mq_drive.specs.declared.port.Port.{Ghosts}
use Rattle.mq_drive.specs.declared.port.Ports.{Ports}
use Rattle.mq_journal.specs.Machine.{journal}
use Rattle.mq_journal.specs.Numbers.{Seat, Shared, Start}
use Rattle.mq_journal.specs.Values.{side_values}
use Rattle.mq_kv.specs.Opening.{IsOpenedOver}
use Rattle.mq_kv.proofs.Histories.{legal-older}
use Rattle.mq_kv_buckets.specs.Store.{map_after_ops, replies_on}
use Rattle.mq_kv_buckets.specs.declared.operation.KvOp.{KvOp}
use Rattle.mq_kv_entries.specs.Calls.{IsDoneOnMap}
use Rattle.mq_kv_entries.specs.Entries.{Does, RanUndrawn, tx_of, written_by}
use Rattle.mq_kv_entries.specs.Group.{store_group}
use Rattle.mq_kv_entries.specs.declared.entry.KvEntry.{KvEntry}
use Rattle.mq_kv_entries.proofs.Entries.{some-buckets}
use Rattle.mq_kv_run.specs.Groups.{IsCommit, Point, Writes, entries_for}
use Rattle.mq_ledger.specs.History.{change_of, map_after, upto}
use Rattle.mq_ledger.specs.Items.{total}
use Rattle.mq_ledger.specs.declared.tx.Tx.{Tx}
use Rattle.mq_queue_side.specs.declared.root.Root.{Root}
use Rattle.mq_queue_side.specs.declared.side.QueueSide.{QueueSide}
use Rattle.mq_recover.specs.declared.standing.Standing.{Standing}
use Rattle.mq_sessions.specs.Calls.{call_by}
use Rattle.mq_tie.proofs.Legal.{upto-hist}
use Rattle.mq_tie.specs.Closed.{HasRun}
use Rattle.mq_tie.specs.Legal.{IsRead}
use Rattle.mq_tie.specs.declared.ended.Ended.{Ended}
use Rattle.mq_turns.specs.Desk.{DrawAfterDraw, DrawAfterRead, ReadAfterDraw}
use Rattle.mq_turns.specs.Lists.{Each, Sorted}
use Rattle.mq_turns.specs.Meaning.{HasNumberAt, newest}
use Rattle.mq_turns.proofs.Lists.{each_both, each_map}
use Rattle.mq_kv_run.specs.Trails.{IsPointAt}
use Rattle.mq_kv_run.proofs.ToldEntries.{entries-are}
use Rattle.mq_kv_run.proofs.ToldLists.{all-noted, below-first, drawn-last, each-left, each-right, noted, one-history, one-log, split}
use Rattle.mq_kv.proofs.AlikeBuckets.{Alike, after-alike, replies-alike}
use Rattle.mq_kv_run.proofs.ToldMaps.{difference-alike}
use Rattle.mq_kv_run.proofs.ToldPlayed.{Later, Waited}

-- what a transaction makes of a map does not depend on its number
after-numbered : (m : Map) (n : ℕ) (t : Tx) (b : ℕ) → after m (change_of (numbered n t)) b ≡ after m (change_of t) b
unfolding after
after-numbered m n t b = refl

-- ---- lists

sorted-map : {A : Type 0} (R S : A → A → Type 0) → ((x y : A) → R x y → S x y) → (xs : List A) → Sorted R xs → Sorted S xs
sorted-map R S f [] h = tt
sorted-map R S f (x ∷ xs) h = (each_map (R x) (S x) (f x) xs h.0, sorted-map R S f xs h.1)

module _ {P : Type 0} (G : Ghosts P) (state : P → PortState) (faults : P → List PortFault) (g : Geometry) (ports : Ports P) (s : Standing) (o : Start P KvEntry G) (last : Seat P KvEntry G) (r : Ended P KvEntry G)
    (opened : IsOpenedOver state faults g ports s o) (run : HasRun state faults store_group o (last ∷ []) r) where
  abbrev values : Values (QueueSide P KvEntry G) (Root P G) KvEntry
  values = side_values state faults

  abbrev pub K : Shared P KvEntry G
  K = run.end.known

  abbrev pub base : ℕ
  base = K.opening.base

  abbrev start : Map
  start = start_of values store_group K.opening

  abbrev map-of : List KvEntry → Map
  map-of es = map_after start (history values store_group base es)

  shape-is : geometry_of values store_group K ≡ g
  shape-is = ap (shape_of values store_group) run.end.opening ∙ opened.shape

  legal : IsLegalHistory values store_group g start base K.log
  legal = subst (λ (h : Geometry). IsLegalHistory values store_group h start base K.log) shape-is run.end.ok.legal

  legal-at : (newer es : List KvEntry) → K.log ≡ newer ++ es → IsLegalHistory values store_group g start base es
  legal-at newer es is = legal-older values g start base newer es (subst (λ (xs : List KvEntry). IsLegalHistory values store_group g start base xs) is legal)

  -- ---- what the session drew

  pub drawn-all : last.drawn ≡ noted base K.log
  drawn-all =
      let first : o.base ≡ base = sym (ap (λ (x : Start P KvEntry G). x.base) run.end.opening) in
      let next = run.end.next_is in
      all-noted base K.log last.drawn run.end.drew
      (sorted-map (DrawAfterDraw (journal {G = G} state faults store_group)) (λ (d before : ℕ × KvEntry). before.0 < d.0) (λ d before after. after.1) last.drawn run.end.ordered.0.draws)
      (λ n low high. run.end.once n (omega (arith, first, low)) (omega (arith, next, high)))

  -- what was drawn by one moment is a beginning of the history
  pub beginning : (v : Seat P KvEntry G) → Later state faults g v last → (newer : List KvEntry) × (old : List KvEntry) × (K.log ≡ newer ++ old) × (v.drawn ≡ noted base old)
  beginning v later = split base K.log later.drew v.drawn (sym drawn-all ∙ later.drawn)

  pub record IsDrawn (es : List KvEntry) (at : ℕ) (e : KvEntry) : Type 0 where
    pub number : at ≡ suc (base + length es)
    pub newer : List KvEntry
    pub is : K.log ≡ newer ++ e ∷ es

  pub drawn-at : (es : List KvEntry) (at : ℕ) (e : KvEntry) (old new : Seat P KvEntry G) → old.drawn ≡ noted base es → new.drawn ≡ (at, e) ∷ old.drawn → Later state faults g new last → IsDrawn es at e
  drawn-at es at e old new was drew later =
      let b = beginning new later in
      let d = drawn-last base at e es b.1 (ap (λ (ds : List (ℕ × KvEntry)). (at, e) ∷ ds) (sym was) ∙ (sym drew ∙ b.3)) in
      record { number = d.0; newer = b.0; is = b.2 ∙ ap (λ (xs : List KvEntry). b.0 ++ xs) d.1 }

  -- ---- at which number it read

  abbrev Rel : ℕ × KvEntry → KvEntry × Shared P KvEntry G → Type 0
  Rel d x = DrawAfterRead (journal state faults store_group) d x ⊎ ReadAfterDraw (journal state faults store_group) x d

  both-at : (v : Seat P KvEntry G) (e : KvEntry) (L : Shared P KvEntry G) (reads : List (KvEntry × Shared P KvEntry G)) → Later state faults g v last → v.read ≡ (e, L) ∷ reads → Each (λ d. Rel d (e, L)) last.drawn
  both-at v e L reads later read =
      each_map (λ (d : ℕ × KvEntry). Each (λ (x : KvEntry × Shared P KvEntry G). Rel d x) last.read) (λ (d : ℕ × KvEntry). Rel d (e, L))
      (λ d all. (each-right (λ (x : KvEntry × Shared P KvEntry G). Rel d x) later.looked ((e, L) ∷ reads)
      (subst (λ (xs : List (KvEntry × Shared P KvEntry G)). Each (λ (x : KvEntry × Shared P KvEntry G). Rel d x) xs) (later.read ∙ ap (λ (xs : List (KvEntry × Shared P KvEntry G)). later.looked ++ xs) read) all)).0)
      last.drawn run.end.ordered.0.both

  is-read : (v : Seat P KvEntry G) (e : KvEntry) (L : Shared P KvEntry G) (reads : List (KvEntry × Shared P KvEntry G)) → Later state faults g v last → v.read ≡ (e, L) ∷ reads → IsRead values store_group K (newest L) e
  is-read v e L reads later read =
      (each-right (λ (a : KvEntry × Shared P KvEntry G). IsRead values store_group K (newest a.1) a.0) later.looked ((e, L) ∷ reads)
      (subst (Each (λ (a : KvEntry × Shared P KvEntry G). IsRead values store_group K (newest a.1) a.0)) (later.read ∙ ap (λ (xs : List (KvEntry × Shared P KvEntry G)). later.looked ++ xs) read) run.run.reads)).0

  not-below : (es : List KvEntry) (e : KvEntry) (L : Shared P KvEntry G) → base ≤ newest L → Each (λ d. d.1.call < e.call) (noted base es) → Each (λ d. Rel d (e, L)) (noted base es) → base + length es ≤ newest L
  not-below [] e L low called both = omega (arith, low)
  not-below (x ∷ es) e L low called both = elim both.0 [
    | inl later ↦ (let a : e.call < x.call = later.0 in let c : x.call < e.call = called.0 in absurd (omega (arith, a, c)))
    | inr earlier ↦ (let b : suc (base + length es) ≤ newest L = earlier.1 in omega (arith, b))
  ]

  pub read-number : (es : List KvEntry) (e : KvEntry) (L : Shared P KvEntry G) (reads : List (KvEntry × Shared P KvEntry G)) (v : Seat P KvEntry G)
      → v.drawn ≡ noted base es → v.read ≡ (e, L) ∷ reads → Each (λ d. d.1.call < e.call) v.drawn → Later state faults g v last → newest L ≡ base + length es
  read-number es e L reads v was read called later =
      let at = is-read v e L reads later read in
      let all = subst (Each (λ (d : ℕ × KvEntry). Rel d (e, L))) later.drawn (both-at v e L reads later read) in
      let low = not-below es e L at.low (subst (Each (λ (d : ℕ × KvEntry). d.1.call < e.call)) was called)
      (subst (Each (λ (d : ℕ × KvEntry). Rel d (e, L))) was (each-right (λ (d : ℕ × KvEntry). Rel d (e, L)) later.drew v.drawn all)) in
      let above : Each (λ (d : ℕ × KvEntry). newest L < d.0) later.drew =
      each_both (λ (d : ℕ × KvEntry). Rel d (e, L)) (λ (d : ℕ × KvEntry). Each (λ (x : KvEntry × Shared P KvEntry G). x.0.call < d.1.call) v.read) (λ (d : ℕ × KvEntry). newest L < d.0)
      (λ d rel calls. (
      let mine : e.call < d.1.call = (subst (Each (λ (x : KvEntry × Shared P KvEntry G). x.0.call < d.1.call)) read calls).0 in
      elim rel [
        | inl after_it ↦ after_it.1
        | inr earlier ↦ (let b : d.1.call < e.call = earlier.0 in absurd (omega (arith, b, mine)))
      ]))
      later.drew (each-left (λ (d : ℕ × KvEntry). Rel d (e, L)) later.drew v.drawn all) later.above in
      let high = below-first base K.log es later.drew (newest L) (sym drawn-all ∙ (later.drawn ∙ ap (λ (ds : List (ℕ × KvEntry)). later.drew ++ ds) was)) above
      (λ same. let most = at.high in let long = ap length same in omega (arith, most, long)) in
      omega (arith, low, high)

  -- ---- what it comes to

  alike-at : (es : List KvEntry) (p : Point) → IsPointAt state faults g K es p → Alike (meta_of g) (map-of es) p.map
  alike-at es p at b low = sym (at.each b low)

  pub record Commits (es : List KvEntry) (e : KvEntry) (p : Point) (ops : List KvOp) : Type 0 where
    pub q : Point
    pub commit : IsCommit g p ops q
    pub at : IsPointAt state faults g K (e ∷ es) q
    pub replies : replies_on (meta_of g) p.map ops ≡ e.replies
    pub number : q.number ≡ suc (base + length es)

  commit-own : (newer es : List KvEntry) (e : KvEntry) (p : Point) → K.log ≡ newer ++ e ∷ es → IsPointAt state faults g K es p → length (written_by e) ≤ write_limit g → Commits es e p e.ops
  commit-own newer es e p is at few =
      let does : Does g (map-of es) e = (legal-at newer (e ∷ es) is).0 in
      let alike = alike-at es p at in
      let some : 0 < length (written_by e) + 0 = does.changes in
      let count = length (written_by e) in
      let ring = entries-are e (base + length es + 1) does.logged in
      let number : p.number ≡ base + length es = at.number in
      let number_is : p.number + 1 ≡ suc (base + length es) = omega (arith, number) in
      let number_there : p.number + 1 ≡ base + suc (length es) = omega (arith, number) in
      let entries : p.entries ≡ total (history values store_group base es) = at.entries in
      let q : Point = record { map = map_after_ops (meta_of g) p.map e.ops; number = p.number + 1; entries = p.entries + entries_for count } in
      record {
        q = q;
        commit = record {
          count = count;
          writes = (written_by e, difference-alike g (map-of es) p.map e.ops (written_by e) alike does.ran.is.writes_are, refl);
          some = omega (arith, some);
          few = few;
          map_is = refl;
          number_is = refl;
          entries_are = refl;
        };
        at = record {
          number = number_there;
          each = λ b low.
              sym (after-alike (meta_of g) (some-buckets g) (map-of es) p.map e.ops alike b low)
              ∙ (sym (does.next b) ∙ sym (ap content (after-numbered (map-of es) (base + length es + 1) (tx_of e) b)));
          entries = λ i. entries i + sym ring i;
        };
        replies = sym (replies-alike (meta_of g) (some-buckets g) (map-of es) p.map e.ops alike) ∙ sym does.ran.is.replies_are;
        number = number_is;
      }

  pub commit-at : (newer es : List KvEntry) (e : KvEntry) (p : Point) (ops : List KvOp) → K.log ≡ newer ++ e ∷ es → IsPointAt state faults g K es p → e.ops ≡ ops → length (written_by e) ≤ write_limit g → Commits es e p ops
  commit-at newer es e p ops is at same few = subst (λ (xs : List KvOp). Commits es e p xs) same (commit-own newer es e p is at few)

  map-upto : (newer es : List KvEntry) (n : ℕ) → K.log ≡ newer ++ es → n ≡ base + length es → map_after start (upto n (history_of values store_group K)) ≡ map-of es
  map-upto newer es n is number =
      ap (λ (xs : List KvEntry). map_after start (upto n (history values store_group base xs))) is
      ∙ ap (map_after start) (upto-hist values store_group base n newer es number)

  pub record Reads (e : KvEntry) (p : Point) (ops : List KvOp) (count : ℕ) : Type 0 where
    pub writes : Writes g p.map ops count
    pub replies : replies_on (meta_of g) p.map ops ≡ e.replies

  pub read-at : (newer es : List KvEntry) (e : KvEntry) (n count : ℕ) (p : Point) (ops : List KvOp) → K.log ≡ newer ++ es → IsPointAt state faults g K es p → e.ops ≡ ops → count ≡ length (written_by e) → n ≡ base + length es → IsRead values store_group K n e
      → Reads e p ops count
  read-at newer es e n count p ops is at same writes number read =
      let asks : RanUndrawn g (map-of es) e =
      subst (λ (m : Map). RanUndrawn g m e) (map-upto newer es n is number)
      (subst (λ (h : Geometry). RanUndrawn h (map_after start (upto n (history_of values store_group K))) e) shape-is read.asks) in
      let alike = alike-at es p at in
      subst (λ (xs : List KvOp). Reads e p xs count) same (record {
        writes = (written_by e, difference-alike g (map-of es) p.map e.ops (written_by e) alike asks.ran.is.writes_are, writes);
        replies = sym (replies-alike (meta_of g) (some-buckets g) (map-of es) p.map e.ops alike) ∙ sym asks.ran.is.replies_are;
      })

  pub looked-at : (es : List KvEntry) (e : KvEntry) (L : Shared P KvEntry G) (reads : List (KvEntry × Shared P KvEntry G)) (count : ℕ) (p : Point) (ops : List KvOp) (v : Seat P KvEntry G)
      → v.drawn ≡ noted base es → v.read ≡ (e, L) ∷ reads → Each (λ d. d.1.call < e.call) v.drawn → Later state faults g v last → IsPointAt state faults g K es p → e.ops ≡ ops → count ≡ length (written_by e)
      → (newest L ≡ p.number) × Reads e p ops count
  looked-at es e L reads count p ops v was read called later at same writes =
      let number = read-number es e L reads v was read called later in
      let b = beginning v later in
      let one = one-history base es b.1 (sym was ∙ b.3) in
      (number ∙ sym at.number, read-at b.0 es e (newest L) count p ops (b.2 ∙ ap (λ (xs : List KvEntry). b.0 ++ xs) (sym one)) at same writes number (is-read v e L reads later read))

  -- ---- what was known when it drew and read nothing

  -- no number that the session has seen is above the last one
  seen-low : last.seen ≤ newest K
  seen-low = run.end.seen.0

  same-opening : (L : Shared P KvEntry G) (v : Seat P KvEntry G) → v.opening ≡ Some K.opening → v.opening ≡ Some L.opening → L.opening ≡ K.opening
  same-opening L v own other = let same : Some L.opening ≡ Some K.opening = sym other ∙ own in cc

  -- what it has seen of the history since, it drew
  known-log : (es : List KvEntry) (L : Shared P KvEntry G) (v : Seat P KvEntry G) → v.drawn ≡ noted base es → K.log ≡ es → L.opening ≡ K.opening → Each (λ d. HasNumberAt L.opening.base L.log d.0 d.1) v.drawn → newest L ≤ newest K → L.log ≡ es
  known-log es L v was all opening drew low =
      let first : L.opening.base ≡ base = ap (λ (x : Start P KvEntry G). x.base) opening in
      let long : length K.log ≡ length es = ap length all in
      one-log base L.log es (omega (arith, first, long, low))
      (subst (λ (n : ℕ). Each (λ (d : ℕ × KvEntry). HasNumberAt n L.log d.0 d.1) (noted base es)) first (subst (Each (λ (d : ℕ × KvEntry). HasNumberAt L.opening.base L.log d.0 d.1)) was drew))

  map-known : (es : List KvEntry) (L : Shared P KvEntry G) → L.opening ≡ K.opening → L.log ≡ es → map_now values store_group L ≡ map-of es
  map-known es L opening log = λ i. map_after (start_of values store_group (opening i)) (history values store_group (opening i).base (log i))

  -- A group that was to be drawn by what was known then, after which nothing was drawn: it writes so on the buckets of
  -- the point, and not too much.
  pub waited-at : (es : List KvEntry) (p : Point) (ops : List KvOp) (calls : ℕ) (old new : Seat P KvEntry G) → old.opening ≡ Some K.opening → old.drawn ≡ noted base es → last.drawn ≡ new.drawn → Later state faults g new last
      → IsPointAt state faults g K es p → Waited state faults g (call_by 0 calls true ops) old new → (count : ℕ) × Writes g p.map ops count × (count ≤ write_limit g)
  waited-at es p ops calls old new opened_so was over later at w =
      let all : K.log ≡ es = one-history base K.log es (sym drawn-all ∙ (over ∙ (w.rests.drawn ∙ was))) in
      let opening = same-opening w.known old opened_so w.from.opening in
      let seen = w.seen in
      let on = later.seen in
      let low = seen-low in
      let log = known-log es w.known old was all opening w.from.drew (omega (arith, seen, on, low)) in
      let writes = w.done.done.writes.items in
      let does : IsDoneOnMap g (map-of es) ops w.done = subst (λ (m : Map). IsDoneOnMap g m ops w.done) (map-known es w.known opening log) w.is.does in
      (length writes, (writes, difference-alike g (map-of es) p.map ops writes (alike-at es p at) does.is.writes_are, refl), w.is.few)
