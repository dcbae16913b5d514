-- What a value is by what is known, it is by what is known later, where nothing of that is about it.
use Rattle.std.proofs.Common.{◌≡◌, ◌≢◌, ℕ, ◌+◌, Bool, true, false, List, [], ◌∷◌, ◌++◌, length, Option, Some, None, max, sym, refl, ap, subst, ◌∙◌, inl, inr, arith, eqb}
use Rattle.std.proofs.lemmas.Bool.{eq-eqb, or_cases, or_left, or_right, false≢true}
use Rattle.mq_blocks.specs.Drive.{IsBoundKept}
use Rattle.mq_blocks.specs.Geometry.{zone_of}
use Rattle.mq_blocks.specs.Machine.{Map, after}
use Rattle.mq_blocks.specs.declared.geometry.Geometry.{Geometry}
use Rattle.mq_ledger.specs.History.{change_of, changes, map_after, last, last_logged, of_queue}
use Rattle.mq_ledger.specs.KnownJournal.{KnownJournal, LogOk}
use Rattle.mq_ledger.specs.Sides.{RootOk, SideOk}
use Rattle.mq_ledger.specs.Written.{journal_entries}
use Rattle.mq_ledger.specs.declared.tx.Tx.{Tx}
use Rattle.mq_drive.specs.Steps.{PortFault}
use Rattle.mq_core.proofs.HistoryFronts.{DoneMore}
use Rattle.mq_core.proofs.KnownJournalGrowth.{log_drawn}
use Rattle.mq_desk_laws.specs.Bases.{BaseOk}
use Rattle.mq_desk_laws.specs.Grown.{HasGrown}
use Rattle.mq_desk_laws.specs.Pages.{due_by, is_ended, last_direct, last_ended}
use Rattle.mq_desk_laws.proofs.Bases.{base_later}
use Rattle.mq_pages.specs.declared.page.PageCell.{PageCell}
use Rattle.mq_turns.specs.Lists.{Each}
use Rattle.mq_turns.specs.Marks.{is_claimed}
use Rattle.mq_turns.specs.Meaning.{Apart, Grows, newest, drawn}
use Rattle.mq_turns.specs.declared.rule.Charge.{Charge}
use Rattle.mq_turns.specs.declared.rule.Opening.{Opening}
use Rattle.mq_turns.specs.declared.turn.Turn.{Turn}
use Rattle.mq_turns.specs.declared.turn.Turn.TheVariants.{Page, Side, Root}
use Rattle.mq_turns.proofs.Lists.{each_map}
use Rattle.mq_desk_laws.specs.Faults.{AreCharged, reports_of}
use Rattle.mq_desk_laws.specs.Groups.{GroupView}
use Rattle.mq_desk_laws.specs.Rule
use Rattle.mq_desk_laws.specs.Rule.{same_port, numbered, start_of, doorbell_of, port_of, faults_of, geometry_of, IsOk, IsPage, IsSide, IsRoot, May, next_tx}
use Rattle.mq_desk_laws.specs.Values.{Values}
use Rattle.mq_desk_laws.proofs.FaultsAdded.{claimed_more, claimed_apart, unclaimed, ended_more, ended_apart, last_ended_apart, backed_apart, reports_apart, same_port-same}
use Rattle.mq_desk_laws.proofs.HistoryAlong.{Among, queue_newer, side_later, root_later, same_block}

-- its number changes nothing of what a transaction does
after-number : (m : Map) (t : Tx) (n : ℕ) → after m (change_of t) ≡ after m (change_of (numbered n t))
unfolding after
after-number m t n = refl

module _ {Q R E : Type 0} (values : Values Q R E) (group : GroupView E) where
  abbrev Desk : Type 0
  Desk = Rule.DeskState values group

  abbrev core : Desk → KnownJournal
  core = Rule.core_of values group

  abbrev hist : ℕ → List E → List Tx
  hist = Rule.history values group

  abbrev Stay : Turn → Desk → Desk → Type 0
  Stay = Rule.Stay values group

  -- ---- the history

  abbrev newer_txs : ℕ → List E → List E → List Tx
  newer_txs base [] ys = []
  newer_txs base (x ∷ xs) ys = numbered (base + length (xs ++ ys) + 1) (group.tx x) ∷ newer_txs base xs ys

  history_append : (base : ℕ) (xs ys : List E) → hist base (xs ++ ys) ≡ newer_txs base xs ys ++ hist base ys
  history_append base [] ys = refl
  history_append base (x ∷ xs) ys = ap (λ ts. numbered (base + length (xs ++ ys) + 1) (group.tx x) ∷ ts) (history_append base xs ys)

  pub length_history : (base : ℕ) (es : List E) → length (hist base es) ≡ length es
  length_history base [] = refl
  length_history base (e ∷ es) = let ih = length_history base es in omega arith

  module _ (K L : Desk) (g : Grows K L) where
    abbrev newer : List Tx
    newer = newer_txs K.opening.base g.newer K.log

    abbrev done : Tx → List Tx → Bool
    done t ts = is_claimed t.queue t.number L.claims

    abbrev due : ℕ → ℕ → Bool
    due = due_by K.opening.base L.ended

    abbrev later : KnownJournal
    later = record (core K) { history = newer ++ hist K.opening.base K.log; done = done; due = due; word = L.word }

    history_grows : hist L.opening.base L.log ≡ newer ++ hist K.opening.base K.log
    history_grows = (λ i. hist (g.opening i).base (g.log i)) ∙ history_append K.opening.base g.newer K.log

    core_grows : core L ≡ later
    core_grows = let o = g.opening in let h = history_grows in λ i. record {
      geometry = Rule.shape_of values group (o i);
      entries = journal_entries;
      start = start_of values group (o i);
      base = (o i).base;
      from = doorbell_of values group (o i);
      history = h i;
      done = done;
      due = due_by (o i).base L.ended;
      word = L.word;
    }

    more : DoneMore (core K).done done (core K).history
    more = record { each = λ u us at e. ap (λ cs. is_claimed u.queue u.number cs) g.claims ∙ claimed_more g.claimed K.claims u.queue u.number e }

    due_more : (x v : ℕ) → (core K).due x v ≡ true → due x v ≡ true
    due_more x v e = elim (or_cases (eqb v K.opening.base) (is_ended K.ended x v) e) [
      | inl base ↦ or_left (eqb v K.opening.base) (is_ended L.ended x v) base
      | inr home ↦ or_right (eqb v K.opening.base) (is_ended L.ended x v) (ap (λ hs. is_ended hs x v) g.ended ∙ ended_more x v g.written K.ended home)
    ]

    -- what the journal knows has grown
    pub core_grown : HasGrown (core K) (core L)
    core_grown = record { newer = newer; done = done; due = due; word = L.word; is = core_grows; more_done = more.each; more_due = due_more; above = g.word }

    due_apart : (x v : ℕ) → Each (λ h. h.0 ≢ x) g.written → due x v ≡ true → (core K).due x v ≡ true
    due_apart x v apart e = elim (or_cases (eqb v K.opening.base) (is_ended L.ended x v) e) [
      | inl base ↦ or_left (eqb v K.opening.base) (is_ended K.ended x v) base
      | inr home ↦ or_right (eqb v K.opening.base) (is_ended K.ended x v) (ended_apart x v g.written K.ended apart (ap (λ hs. is_ended hs x v) (sym g.ended) ∙ home))
    ]

  -- none of the newer ones is of the queue, or changes the block
  apart_side : (q base : ℕ) (xs ys : List E) → Apart (Rule.touches values group) xs ys (Side q) → (u : Tx) → Among (newer_txs base xs ys) u → u.queue ≢ q
  apart_side q base [] ys a u m = absurd m
  apart_side q base (x ∷ xs) ys a u (inl same) = λ own. false≢true (sym a.0 ∙ eq-eqb (group.tx x).queue q (ap (λ (w : Tx). w.queue) same ∙ own))
  apart_side q base (x ∷ xs) ys a u (inr deeper) = apart_side q base xs ys a.1 u deeper

  apart_page : (b base : ℕ) (xs ys : List E) → Apart (Rule.touches values group) xs ys (Page b) → (u : Tx) → Among (newer_txs base xs ys) u → changes u b ≡ false
  apart_page b base [] ys a u m = absurd m
  apart_page b base (x ∷ xs) ys a u (inl same) = ap (λ (w : Tx). changes w b) (sym same) ∙ a.0
  apart_page b base (x ∷ xs) ys a u (inr deeper) = apart_page b base xs ys a.1 u deeper

  -- and none of them is stored in its side
  apart_entries : (q base : ℕ) (xs ys : List E) → Apart (Rule.touches values group) xs ys (Side q) → Rule.entries_of values group q base (xs ++ ys) ≡ Rule.entries_of values group q base ys
  apart_entries q base [] ys a = refl
  apart_entries q base (x ∷ xs) ys a = rw a.0 (apart_entries q base xs ys a.1)

  -- a home write of a block of a port is about the port's turn
  not_home : (g : Geometry) (z : Option ℕ) (x : ℕ) → zone_of g x ≡ z → (h : ℕ × ℕ) → same_port (zone_of g h.0) z ≡ false → h.0 ≢ x
  not_home g z x zone h apart same = false≢true (sym apart ∙ (ap (λ w. same_port w z) (ap (zone_of g) same ∙ zone) ∙ same_port-same z))

  not_block : (b : ℕ) (h : ℕ × ℕ) → eqb h.0 b ≡ false → h.0 ≢ b
  not_block b h apart same = false≢true (sym apart ∙ eq-eqb h.0 b same)

  -- ---- values

  pub page_along : (b : ℕ) (K L : Desk) (c : PageCell) → Stay (Page b) K L → IsPage values group b K c → IsPage values group b L c
  page_along b K L c s p =
      let o = s.grows.opening in
      let h = history_grows K L s.grows in
      let r = same_block (start_of values group K.opening) K.opening.base b (newer K L s.grows) (hist K.opening.base K.log) (apart_page b K.opening.base s.grows.newer K.log s.apart) in
      let home : last_ended L.opening.base L.ended b ≡ last_ended K.opening.base K.ended b = (λ i. last_ended (o i).base (s.grows.ended i) b) ∙ last_ended_apart K.opening.base b s.grows.written K.ended (each_map _ _ (λ h n. not_block b h n) s.grows.written s.ended) in
      let direct : last_direct L.opening.base (hist L.opening.base L.log) b ≡ last_direct K.opening.base (hist K.opening.base K.log) b = (λ i. last_direct (o i).base (h i) b) ∙ r.direct in
      record {
        content = p.content ∙ (sym r.content ∙ (λ i. map_after (start_of values group (sym o i)) (sym h i) b));
        version = p.version ∙ (sym r.version ∙ (λ i. last (sym o i).base (sym h i) b));
        last_logged = p.last_logged ∙ (sym r.logged ∙ (λ i. last_logged (sym o i).base (sym h i) b));
        home_version = p.home_version ∙ (λ i. max (sym direct i) (sym home i));
      }

  pub side_along : (q : ℕ) (K L : Desk) (w : Q) → Stay (Side q) K L → IsOk values group K → IsOk values group L → IsSide values group q K w → IsSide values group q L w
  side_along q K L w s k l is =
      let o = s.grows.opening in
      let h = history_grows K L s.grows in
      let core_is = core_grows K L s.grows in
      let txs : List Tx = of_queue q (hist K.opening.base K.log) in
      let apart = apart_side q K.opening.base s.grows.newer K.log s.apart in
      let same : of_queue q (hist L.opening.base L.log) ≡ txs = ap (of_queue q) h ∙ queue_newer q (newer K L s.grows) (hist K.opening.base K.log) apart in
      let log : LogOk (later K L s.grows) = subst LogOk core_is l.log in
      let port = side_later (core K) (newer K L s.grows) (done K L s.grows) (due K L s.grows) L.word k.log log (more K L s.grows) s.grows.word q (values.port w) apart
      (λ u us own e. claimed_apart s.grows.claimed K.claims u.queue u.number (each_map _ _ (λ c n. λ e. n (e ∙ ap Side own)) s.grows.claimed s.claims) (ap (λ cs. is_claimed u.queue u.number cs) (sym s.grows.claims) ∙ e))
      (λ x v zone e. due_apart K L s.grows x v (each_map _ _ (λ h n. not_home (geometry_of values group K) (Some q) x zone h n) s.grows.written s.ended) e) is.port in
      let F : KnownJournal × List Tx → Type 0 = λ z. SideOk z.0 q z.1 (values.port w) in
      let reports : reports_of (Side q) L.charges ≡ reports_of (Side q) K.charges = ap (reports_of (Side q)) s.grows.charges ∙ reports_apart (Side q) s.grows.blamed K.charges s.charges in
      let says = values.later (Rule.part_of values group q K) L.word w s.grows.word is.says in
      let part : record (Rule.part_of values group q K) { word = L.word } ≡ Rule.part_of values group q L = λ i. record {
        geometry = Rule.shape_of values group (sym o i);
        queue = q;
        start = doorbell_of values group (sym o i) q;
        opened = port_of values group (sym o i) q;
        first = faults_of values group (sym o i) q;
        word = L.word;
        txs = sym same i;
        reports = sym reports i;
      } in
      record {
        port = subst F (λ i. (sym core_is i, sym same i)) port;
        stored = is.stored ∙ (sym (apart_entries q K.opening.base s.grows.newer K.log s.apart) ∙ (λ i. Rule.entries_of values group q (sym o i).base (sym s.grows.log i)));
        says = subst (λ p. values.says p w) part says;
        charged = subst (λ (z : Geometry × (List Charge × List PortFault)). AreCharged z.0 (Side q) z.1.0 z.1.1 (values.faults w)) (λ i. (Rule.shape_of values group (sym o i), (sym s.grows.charges i, faults_of values group (sym o i) q)))
            (backed_apart (geometry_of values group K) (Side q) s.grows.blamed K.charges (faults_of values group K.opening q) (values.faults w) s.charges is.charged);
      }

  pub root_along : (K L : Desk) (r : R) → Stay Root K L → IsOk values group K → IsOk values group L → IsRoot values group K r → IsRoot values group L r
  root_along K L r s k l is =
      let o = s.grows.opening in
      let core_is = core_grows K L s.grows in
      let log : LogOk (later K L s.grows) = subst LogOk core_is l.log in
      let port = root_later (core K) (newer K L s.grows) (done K L s.grows) (due K L s.grows) L.word k.log log (more K L s.grows) s.grows.word (values.root r) (s.word refl)
      (λ x v zone e. due_apart K L s.grows x v (each_map _ _ (λ h n. not_home (geometry_of values group K) None x zone h n) s.grows.written s.ended) e) is.port.port in
      let later_base : (b : ℕ) → BaseOk (core K) b → BaseOk (core L) b = λ b. base_later (core K) (core L) b k.log l.log (core_grown K L s.grows) in
      record {
        says = subst (λ g. values.root_says g r) (ap (Rule.shape_of values group) (sym o)) is.says;
        port = record {
          port = subst (λ z. RootOk z (values.root r)) (sym core_is) port;
          flushed = later_base (values.root r).base is.port.flushed;
          stored = later_base (values.root r).stored_base is.port.stored;
        };
        bound = subst (λ (z : Opening PageCell Q R). IsBoundKept (values.root z.root) (values.root r)) (sym o) is.bound;
        charged = subst (λ (z : Geometry × (List Charge × List PortFault)). AreCharged z.0 Root z.1.0 z.1.1 (values.root_faults r)) (λ i. (Rule.shape_of values group (sym o i), (sym s.grows.charges i, values.root_faults (sym o i).root)))
            (backed_apart (geometry_of values group K) Root s.grows.blamed K.charges (values.root_faults K.opening.root) (values.root_faults r) s.charges is.charged);
      }

  -- ---- a draw

  -- what is known grows by it
  pub grows_drawn : (e : E) (K : Desk) → Grows K (drawn e K)
  grows_drawn e K = record {
    opening = refl;
    newer = e ∷ [];
    log = refl;
    claimed = [];
    claims = refl;
    written = [];
    ended = refl;
    word = omega arith;
    blamed = [];
    charges = refl;
  }

  pub ok_drawn : (e : E) (K : Desk) → IsOk values group K → May values group e K → IsOk values group (drawn e K)
  ok_drawn e K k may =
      let n = length_history K.opening.base K.log in
      let t = next_tx values group e K in
      let log = log_drawn (core K) t k.log may.draw (unclaimed (newest K) K.claims t.queue t.number k.claims (omega arith)) in
      record {
        log = log;
        claims = each_map _ _ (λ c le. omega arith) K.claims k.claims;
        base = base_later (core K) (core (drawn e K)) K.word k.log log (core_grown K (drawn e K) (grows_drawn e K)) k.base;
        legal = (may.does, may.placed, k.legal);
        ports = k.ports;
      }

  -- groups run on the map at the newest number
  good_from : (g : Geometry) (start : Map) (base : ℕ) (es : List E) → Rule.IsLegalHistory values group g start base es → group.good g (map_after start (hist base es))
  good_from g start base [] legal = legal
  good_from g start base (e ∷ es) legal = subst (λ m. group.good g m) (after-number (map_after start (hist base es)) (group.tx e) (base + length es + 1)) (group.keeps g (map_after start (hist base es)) e legal.0 (good_from g start base es legal.2))

  pub good_now : (K : Desk) → IsOk values group K → group.good (geometry_of values group K) (Rule.map_now values group K)
  good_now K k = good_from (geometry_of values group K) (start_of values group K.opening) K.opening.base K.log k.legal
