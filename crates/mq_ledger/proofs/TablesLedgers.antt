-- What a ledger's tables say, and how they grow with its history.
use Rattle.std.proofs.Common.{◌≡◌, ℕ, ◌+◌, ◌-◌, ◌<◌, ◌≤◌, ◌^◌, true, false, List, [], ◌∷◌, ◌++◌, length, reverse, Option, get_or, set, is_some, sym, refl, ap, subst, ◌∙◌, inl, inr, arith}
use Rattle.std.proofs.lemmas.Bool.{cases_Bool, cases_eq, false≢true}
use Rattle.std.proofs.lemmas.List.{length-reverse, length-set, get_or-set_same, get_or-set_other, reverse-reverse}
use Rattle.mq_blocks.specs.Descriptor.{AreRising}
use Rattle.mq_blocks.specs.Geometry.{homes_of}
use Rattle.mq_blocks.specs.Journal.{is_among, number_limit}
use Rattle.mq_blocks.specs.Machine.{write_of}
use Rattle.mq_blocks.specs.declared.geometry.Geometry.{Geometry}
use Rattle.mq_blocks.proofs.DescriptorLimits.{limit-high}
use Rattle.mq_ledger.specs.History.{blocks_of, writes, changes, last, last_logged, upto, of_queue, IsAt, AreNumbered}
use Rattle.mq_ledger.specs.Items.{total, end_of, next, below, descriptor_blocks}
use Rattle.mq_ledger.specs.KnownJournal.{IsTx}
use Rattle.mq_ledger.specs.Records.{Ledger, own, from_of, HasPlace, push_tx, settle_next}
use Rattle.mq_ledger.specs.Tables.{AreTables, AreLatest, IsLatest, row_of, rows_of, ends_of, after_tx}
use Rattle.mq_ledger.specs.declared.queue_rows.Row.{Row}
use Rattle.mq_ledger.specs.declared.latest.Latest.{Latest}
use Rattle.mq_ledger.specs.declared.tx.Tx.{Tx}
use Rattle.mq_ledger.proofs.Items.{below-at, below-past, of_queue-own, of_queue-other}
use Rattle.mq_ledger.proofs.TablesMarks.{latest_more, upto_next, last_logged_le}
use Rattle.mq_ledger.proofs.HistoryQueues.{at_end}
use Rattle.mq_ledger.proofs.TablesRows.{at-length, has_before, at-history, reverse-cons, reverse-push}
use Rattle.mq_ledger.proofs.History.{at_numbered, last_le, last-changed, last-same, written_among, unwritten, changes_logged, upto-past}

-- ---- numbers

pub before_count : (base : ℕ) (t : Tx) (ts h : List Tx) → AreNumbered base h → IsAt t ts h → t.number ≡ base + length ts + 1
before_count base t ts h n at = (at_numbered base t ts h n at).0

pub numbered-at : (history : List Tx) (base number : ℕ) (t u : Tx) (ts : List Tx) → AreNumbered base (reverse history) → IsAt t ts (reverse history) → t.number ≡ number → u ≡ get_or history (number - base - 1) u → u ≡ t
numbered-at history base number t u ts n at is read =
    let k = before_count base t ts (reverse history) n at in
    let place : number - base - 1 ≡ length ts = omega arith in
    read ∙ ap (λ (i : ℕ). get_or history i u) place ∙ ap (λ (txs : List Tx). get_or txs (length ts) u) (sym (reverse-reverse history)) ∙ at-history t ts (reverse history) u at

pub numbered-bound : (history : List Tx) (base number : ℕ) (t : Tx) (ts : List Tx) → AreNumbered base (reverse history) → IsAt t ts (reverse history) → t.number ≡ number → (base + 1 ≤ number) × (number - base - 1 < length history)
numbered-bound history base number t ts n at is =
    let k = before_count base t ts (reverse history) n at in
    let l = at-length t ts (reverse history) at in
    let long : length (reverse history) ≡ length history = length-reverse history in
    (omega arith, omega arith)

-- ---- the newest change

pub latest_limit : (start : List (Option (List ℕ))) (base x : ℕ) (h : List Tx) (l : Latest) → AreNumbered base h → IsLatest start base h x l → (l.change ≤ base + length h) × (l.logged ≤ base + length h)
latest_limit start base x h l n is =
    let a = last_le base h x n in
    let b = last_logged_le base h x n in
    let c = is.change in
    let d = is.logged in
    (omega arith, omega arith)

last_logged-in : (base : ℕ) (t : Tx) (ts : List Tx) (x : ℕ) → is_some (write_of t.logged x) ≡ true → last_logged base (t ∷ ts) x ≡ t.number
last_logged-in base t ts x e = rw e refl

last_logged-out : (base : ℕ) (t : Tx) (ts : List Tx) (x : ℕ) → is_some (write_of t.logged x) ≡ false → last_logged base (t ∷ ts) x ≡ last_logged base ts x
last_logged-out base t ts x e = rw e refl

pub some_among : (t : Tx) (x : ℕ) → is_some (write_of t.logged x) ≡ true → is_among x (blocks_of t.logged) ≡ true
some_among t x e = elim (cases_Bool (is_among x (blocks_of t.logged))) [
  | inl is ↦ is
  | inr not ↦ absurd (false≢true (ap is_some (sym (unwritten t.logged x not)) ∙ e))
]

none_among : (t : Tx) (x : ℕ) → is_some (write_of t.logged x) ≡ false → is_among x (blocks_of t.logged) ≡ true → ⊥
none_among t x e among = (let w = written_among t.logged x among in false≢true (sym e ∙ ap is_some w.1))

-- the last change logged the block exactly where no change of it is later than its last copy
pub logs_to : (base x : ℕ) (h : List Tx) → AreNumbered base h → last base h x ≡ last_logged base h x → (t : Tx) (ts : List Tx) → IsAt t ts h → t.number ≡ last base h x → is_among x (blocks_of t.logged) ≡ true
logs_to base x [] n e t ts at is = absurd at
logs_to base x (u ∷ txs) n e t ts at is = elim (cases_Bool (is_some (write_of u.logged x))) [
  | inl copied ↦ (let among = some_among u x copied in
      let new : last base (u ∷ txs) x ≡ u.number = last-changed base u txs x (changes_logged u x among) in
      elim at [
        | inl same ↦ subst (λ (v : Tx). is_among x (blocks_of v.logged) ≡ true) same.0 among
        | inr deeper ↦ absurd (let k = at-length t ts txs deeper in let b = before_count base t ts txs n.1 deeper in let a = n.0 in omega arith)
      ])
  | inr not ↦ (let old : last_logged base (u ∷ txs) x ≡ last_logged base txs x = last_logged-out base u txs x not in
      let low = last_logged_le base txs x n.1 in
      let a = n.0 in
      elim (cases_Bool (changes u x)) [
        | inl changed ↦ absurd (let k : last base (u ∷ txs) x ≡ u.number = last-changed base u txs x changed in omega arith)
        | inr still ↦ (let k : last base (u ∷ txs) x ≡ last base txs x = last-same base u txs x still in
            elim at [
              | inl same ↦ absurd (let v : u.number ≡ t.number = ap (λ (w : Tx). w.number) same.0 in omega arith)
              | inr deeper ↦ logs_to base x txs n.1 (sym k ∙ e ∙ old) t ts deeper (is ∙ k)
            ])
      ])
]

pub logs_from : (base x : ℕ) (h : List Tx) → AreNumbered base h → ((t : Tx) (ts : List Tx) → IsAt t ts h → t.number ≡ last base h x → is_among x (blocks_of t.logged) ≡ true) → last base h x ≡ last_logged base h x
logs_from base x [] n f = refl
logs_from base x (u ∷ txs) n f = elim (cases_Bool (is_some (write_of u.logged x))) [
  | inl copied ↦ last-changed base u txs x (changes_logged u x (some_among u x copied)) ∙ sym (last_logged-in base u txs x copied)
  | inr not ↦ elim (cases_Bool (changes u x)) [
    | inl changed ↦ absurd (none_among u x not (f u txs (inl (refl, refl)) (sym (last-changed base u txs x changed))))
    | inr still ↦
        (let k : last base (u ∷ txs) x ≡ last base txs x = last-same base u txs x still in
        k ∙ logs_from base x txs n.1 (λ t ts at is. f t ts (inr at) (is ∙ sym k)) ∙ sym (last_logged-out base u txs x not))
  ]
]

-- ---- the entry of a count

below-whole : (from h : ℕ) (txs : List Tx) → end_of from txs ≤ h → below from h txs ≡ txs
below-whole from h [] l = refl
below-whole from h (t ∷ txs) l = below-at from h t txs l

pub below-is : (from h : ℕ) (t : Tx) (txs ws : List Tx) → IsAt t txs ws → end_of from txs ≤ h → h < end_of from txs + (writes t + descriptor_blocks t) → below from h ws ≡ txs
below-is from h t txs [] at low high = absurd at
below-is from h t txs (w ∷ ws) (inl same) low high =
    let past : h < from + total (w ∷ ws) = rw (same.0, same.1) (omega arith) in
    below-past from h w ws past ∙ ap (below from h) same.1 ∙ below-whole from h txs low
below-is from h t txs (w ∷ ws) (inr deeper) low high =
    let end = at_end from t txs ws deeper in
    below-past from h w ws (omega arith) ∙ below-is from h t txs ws deeper low high

-- ---- one more transaction

pub own_of-pushed : (s : Ledger) (t : Tx) → own (push_tx t s) t.queue ≡ t ∷ own s t.queue
own_of-pushed s t = of_queue-own t.queue t s.history refl

module _ (s : Ledger) (t : Tx) (newest settled : List Latest) (queue_rows : List (List Row)) (ends : List ℕ) (old : AreTables s newest settled queue_rows ends) (fits : HasPlace s t) (row : Row) (row_is : row ≡ row_of (from_of s t.queue) (t ∷ own s t.queue)) where
  queue_fits : t.queue < s.geometry.queues
  queue_fits = fits.form.queue

  abbrev new_lanes : List (List Row)
  new_lanes = set queue_rows t.queue (get_or queue_rows t.queue [] ++ row ∷ [])

  pushed_each : (u : Tx) (txs : List Tx) → IsAt u txs (t ∷ s.history) → IsTx s.geometry u
  pushed_each u txs (inl same) = subst (IsTx s.geometry) same.0 fits.form
  pushed_each u txs (inr deeper) = old.each u txs deeper

  pushed_lane : (q : ℕ) → q < s.geometry.queues → get_or new_lanes q [] ≡ reverse (rows_of (from_of s q) (of_queue q (t ∷ s.history)))
  pushed_lane q l = elim (cases_eq t.queue q) [
    | inl same ↦ (let Q : ℕ → Type 0 = λ r. get_or new_lanes r [] ≡ reverse (rows_of (from_of s r) (of_queue r (t ∷ s.history))) in
        let size = old.lanes_size in
        let here : get_or new_lanes t.queue [] ≡ get_or queue_rows t.queue [] ++ row ∷ [] = get_or-set_same queue_rows t.queue _ [] (omega arith) in
        let rows : get_or queue_rows t.queue [] ≡ reverse (rows_of (from_of s t.queue) (own s t.queue)) = old.lanes_are t.queue queue_fits in
        let more : reverse (rows_of (from_of s t.queue) (t ∷ own s t.queue)) ≡ reverse (rows_of (from_of s t.queue) (own s t.queue)) ++ row_of (from_of s t.queue) (t ∷ own s t.queue) ∷ [] = reverse-cons (row_of (from_of s t.queue) (t ∷ own s t.queue)) (rows_of (from_of s t.queue) (own s t.queue)) in
        let all : own (push_tx t s) t.queue ≡ t ∷ own s t.queue = own_of-pushed s t in
        let joined : get_or queue_rows t.queue [] ++ row ∷ [] ≡ reverse (rows_of (from_of s t.queue) (own s t.queue)) ++ row_of (from_of s t.queue) (t ∷ own s t.queue) ∷ [] = cc in
        subst Q same (here ∙ joined ∙ sym more ∙ ap (λ txs. reverse (rows_of (from_of s t.queue) txs)) (sym all)))
    | inr other ↦
        get_or-set_other queue_rows t.queue q _ [] (λ e. other (sym e)) ∙ old.lanes_are q l ∙ ap (λ txs. reverse (rows_of (from_of s q) txs)) (sym (of_queue-other q t s.history other))
  ]

  pushed_counts : (q : ℕ) → q < s.geometry.queues → end_of (from_of s q) (of_queue q (t ∷ s.history)) ≤ number_limit
  pushed_counts q l = elim (cases_eq t.queue q) [
    | inl same ↦ (let Q : ℕ → Type 0 = λ r. end_of (from_of s r) (of_queue r (t ∷ s.history)) ≤ number_limit in
        let all : own (push_tx t s) t.queue ≡ t ∷ own s t.queue = own_of-pushed s t in
        let P : List Tx → Type 0 = λ txs. end_of (from_of s t.queue) txs ≤ number_limit in
        let room = fits.counts in
        let here : P (t ∷ own s t.queue) = omega arith in
        subst Q same (subst P (sym all) here))
    | inr other ↦ (let P : List Tx → Type 0 = λ txs. end_of (from_of s q) txs ≤ number_limit in subst P (sym (of_queue-other q t s.history other)) (old.counts q l))
  ]

  pushed_places : (q : ℕ) → q < s.geometry.queues → next (of_queue q (t ∷ s.history)) ≤ 2 ^ 62
  pushed_places q l = elim (cases_eq t.queue q) [
    | inl same ↦ (let Q : ℕ → Type 0 = λ r. next (of_queue r (t ∷ s.history)) ≤ 2 ^ 62 in
        let all : own (push_tx t s) t.queue ≡ t ∷ own s t.queue = own_of-pushed s t in
        let P : List Tx → Type 0 = λ txs. next txs ≤ 2 ^ 62 in
        let room = fits.places in
        let here : P (t ∷ own s t.queue) = omega arith in
        subst Q same (subst P (sym all) here))
    | inr other ↦ (let P : List Tx → Type 0 = λ txs. next txs ≤ 2 ^ 62 in subst P (sym (of_queue-other q t s.history other)) (old.places q l))
  ]

  pub tables_pushed : AreTables (push_tx t s) (after_tx t newest) settled new_lanes (ends ++ row.end ∷ [])
  tables_pushed =
      let number = fits.number in
      let limit = fits.limit in
      let front_high = old.front_high in
      let same : upto s.front (t ∷ s.history) ≡ upto s.front s.history = upto-past s.front t s.history (omega arith) in
      let end : row.end ≡ end_of (from_of s t.queue) (own s t.queue) + (writes t + descriptor_blocks t) = ap (λ (r : Row). r.end) row_is ∙ omega arith in
      record {
        numbers = (number, old.numbers);
        limit = omega arith;
        front_low = old.front_low;
        front_high = omega arith;
        each = pushed_each;
        start_size = old.start_size;
        starts_size = old.starts_size;
        newest_is = latest_more s.start s.base s.history s.geometry (homes_of s.geometry) t newest fits.form old.newest_is;
        settled_is = subst (λ txs. AreLatest s.start s.base txs (homes_of s.geometry) settled) (sym same) old.settled_is;
        lanes_size = length-set queue_rows t.queue _ ∙ old.lanes_size;
        lanes_are = pushed_lane;
        ends_are = ap (λ txs. txs ++ row.end ∷ []) old.ends_are ∙ ap (λ (n : ℕ). reverse (ends_of s.starts s.history) ++ n ∷ []) end ∙ sym (reverse-cons (end_of (from_of s t.queue) (own s t.queue) + (writes t + descriptor_blocks t)) (ends_of s.starts s.history));
        counts = pushed_counts;
        places = pushed_places;
      }

-- ---- one more that is done

-- the transaction after the front
pub record IsNext (s : Ledger) : Type 0 where
  pub t : Tx
  pub ts : List Tx
  pub at : IsAt t ts s.history
  pub number : t.number ≡ s.front + 1
  pub size : length ts ≡ s.front - s.base

pub next_of : (s : Ledger) → AreNumbered s.base s.history → s.base ≤ s.front → s.front < s.base + length s.history → IsNext s
next_of s n low high =
    let r = has_before (s.front - s.base) s.history (omega arith) in
    let b = before_count s.base r.t r.ts s.history n r.at in
    let size = r.size in
    record { t = r.t; ts = r.ts; at = r.at; number = omega arith; size = r.size }

pub tables_settled : (s : Ledger) (newest settled : List Latest) (queue_rows : List (List Row)) (ends : List ℕ) → AreTables s newest settled queue_rows ends → (t : Tx) (ts : List Tx) → IsAt t ts s.history → t.number ≡ s.front + 1 → s.front < s.base + length s.history → AreTables (settle_next s) newest (after_tx t settled) queue_rows ends
tables_settled s newest settled queue_rows ends old t ts at number high =
    let low = old.front_low in
    let more : upto (s.front + 1) s.history ≡ t ∷ upto s.front s.history = upto_next s.base s.front t ts s.history old.numbers at number in
    record {
      numbers = old.numbers;
      limit = old.limit;
      front_low = omega arith;
      front_high = omega arith;
      each = old.each;
      start_size = old.start_size;
      starts_size = old.starts_size;
      newest_is = old.newest_is;
      settled_is = subst (λ txs. AreLatest s.start s.base txs (homes_of s.geometry) (after_tx t settled)) (sym more) (latest_more s.start s.base (upto s.front s.history) s.geometry (homes_of s.geometry) t settled (old.each t ts at) old.settled_is);
      lanes_size = old.lanes_size;
      lanes_are = old.lanes_are;
      ends_are = old.ends_are;
      counts = old.counts;
      places = old.places;
    }

pub next_read : (s : Ledger) (history : List Tx) (k : ℕ) (u : Tx) (n : IsNext s) → s.history ≡ reverse history → k ≡ s.front - s.base → u ≡ get_or history k u → u ≡ n.t
next_read s history k u n same place read =
    let where_is : k ≡ length n.ts = place ∙ sym n.size in
    read ∙ ap (λ (i : ℕ). get_or history i u) where_is ∙ ap (λ (txs : List Tx). get_or txs (length n.ts) u) (sym (ap reverse same ∙ reverse-reverse history)) ∙ at-history n.t n.ts s.history u n.at

-- the blocks of a transaction fit into a table of this size
pub record FitsTable (size : ℕ) (t : Tx) : Type 0 where
  pub freed : AreRising 0 size t.freed
  pub logged : AreRising 0 size (blocks_of t.logged)
  pub direct : AreRising 0 size (blocks_of t.direct)
  pub few : writes t < 2 ^ 64

pub fits_table : (g : Geometry) (size : ℕ) (t : Tx) → IsTx g t → size ≡ homes_of g → FitsTable size t
fits_table g size t form e =
    let P : ℕ → Type 0 = λ n. FitsTable n t in
    let here : P (homes_of g) = record { freed = form.freed; logged = form.logged; direct = form.direct; few = (let few = form.few in let most = limit-high g in omega arith) } in
    subst P (sym e) here

module _ (s : Ledger) (newest settled : List Latest) (queue_rows : List (List Row)) (ends : List ℕ) (old : AreTables s newest settled queue_rows ends) (more : s.front < s.base + length s.history) (history : List Tx) (u : Tx) (same : s.history ≡ reverse history) (read : u ≡ get_or history (s.front - s.base) u) where
  the_next : IsNext s
  the_next = next_of s old.numbers old.front_low more

  is_next : u ≡ the_next.t
  is_next = next_read s history (s.front - s.base) u the_next same refl read

  pub settling_fits : FitsTable (length settled) u
  settling_fits = let T : Tx → Type 0 = λ t. FitsTable (length settled) t in subst T (sym is_next) (fits_table s.geometry (length settled) the_next.t (old.each the_next.t the_next.ts the_next.at) old.settled_is.size)

  pub settling_tables : (table : List Latest) → table ≡ after_tx u settled → AreTables (settle_next s) newest table queue_rows ends
  settling_tables table e =
      let T : List Latest → Type 0 = λ v. AreTables (settle_next s) newest v queue_rows ends in
      subst T (sym (e ∙ ap (λ (t : Tx). after_tx t settled) is_next)) (tables_settled s newest settled queue_rows ends old the_next.t the_next.ts the_next.at the_next.number more)

abbrev row_with : ℕ → ℕ → ℕ → Row
row_with n a x = record { number = n; end = a; next = x }

row_behind : (from : ℕ) (t : Tx) (txs : List Tx) (before row : Row) → before ≡ row_of from txs → row.number ≡ t.number → row.end ≡ before.end + (writes t + descriptor_blocks t) → row.next ≡ before.next + (length t.logged + descriptor_blocks t) → row ≡ row_of from (t ∷ txs)
row_behind from t txs before row e number end place =
    let a : row.end ≡ end_of from (t ∷ txs) = end ∙ ap (λ (r : Row). r.end + (writes t + descriptor_blocks t)) e ∙ omega arith in
    let b : row.next ≡ next (t ∷ txs) = place ∙ ap (λ (r : Row). r.next + (length t.logged + descriptor_blocks t)) e in
    ap (λ (n : ℕ). row_with n row.end row.next) number ∙ ap (λ (n : ℕ). row_with t.number n row.next) a ∙ ap (row_with t.number (end_of from (t ∷ txs))) b

-- the tables of a ledger over longer lists
pub tables_along : (s : Ledger) (t : Tx) (before row : Row) (newest settled table : List Latest) (queue_rows rows : List (List Row)) (ends more : List ℕ) (history new : List Tx) → AreTables s newest settled queue_rows ends → HasPlace s t → before ≡ row_of (from_of s t.queue) (own s t.queue) → row.number ≡ t.number → row.end ≡ before.end + (writes t + descriptor_blocks t) → row.next ≡ before.next + (length t.logged + descriptor_blocks t)
    → s.history ≡ reverse history → new ≡ history ++ t ∷ [] → table ≡ after_tx t newest → rows ≡ set queue_rows t.queue (get_or queue_rows t.queue [] ++ row ∷ []) → more ≡ ends ++ row.end ∷ []
    → AreTables (record { geometry = s.geometry; start = s.start; base = s.base; starts = s.starts; history = reverse new; front = s.front }) table settled rows more
tables_along s t before row newest settled table queue_rows rows ends more history new old fits e number end place same longer marked added ended =
    let behind = row_behind (from_of s t.queue) t (own s t.queue) before row e number end place in
    let all : t ∷ s.history ≡ reverse new = ap (λ txs. t ∷ txs) same ∙ sym (reverse-push t history) ∙ ap reverse (sym longer) in
    let H : List Tx → Type 0 = λ txs. AreTables (record { geometry = s.geometry; start = s.start; base = s.base; starts = s.starts; history = txs; front = s.front }) table settled rows more in
    let T : List Latest → Type 0 = λ v. AreTables (push_tx t s) v settled rows more in
    let R : List (List Row) → Type 0 = λ v. AreTables (push_tx t s) (after_tx t newest) settled v more in
    let M : List ℕ → Type 0 = λ v. AreTables (push_tx t s) (after_tx t newest) settled (set queue_rows t.queue (get_or queue_rows t.queue [] ++ row ∷ [])) v in
    subst H all (subst T (sym marked) (subst R (sym added) (subst M (sym ended) (tables_pushed s t newest settled queue_rows ends old fits row behind))))
