-- What a page's numbers say for a home write, and what is known once it has ended.
use Rattle.std.proofs.Common.{◌≡◌, ◌≢◌, ◌⊎◌, ℕ, ◌+◌, ◌<◌, ◌≤◌, true, false, Bool, ◌&&◌, List, [], ◌∷◌, length, is_some, Option, Some, None, sym, refl, ap, subst, ◌∙◌, inl, inr, arith, eqb}
use Rattle.std.proofs.lemmas.Bool.{cases_lt, cases_Bool, eq-eqb, eqb-true, and_parts, or_cases, or_left, or_right, false≢true}
use Rattle.mq_blocks.specs.Drive.{PortState}
use Rattle.mq_blocks.specs.Geometry.{homes_of, zone_of}
use Rattle.mq_blocks.specs.Journal.{is_among}
use Rattle.mq_blocks.specs.Machine.{write_of}
use Rattle.mq_ledger.specs.History.{blocks_of, changes, map_after, last, last_logged, upto, AreNumbered, IsAt}
use Rattle.mq_ledger.specs.KnownJournal.{KnownJournal, LogOk, front}
use Rattle.mq_ledger.specs.Sides.{SideOk, RootOk, AreHome, Certainly, home_index}
use Rattle.mq_ledger.specs.declared.tx.Tx.{Tx}
use Rattle.mq_blocks.proofs.JournalAmong.{apart-not_among}
use Rattle.mq_ledger.proofs.History.{last-changed, last-same, last_settled, value_settled, last_upto_le, at_most, changes_logged}
use Rattle.mq_ledger.proofs.TablesLedgers.{some_among}
use Rattle.mq_core.specs.Events.{end_home}
use Rattle.mq_core.proofs.HistoryBases.{log_based, side_based}
use Rattle.mq_core.specs.Homes.{IsLoggedLast}
use Rattle.mq_core.proofs.HomesWritten.{side_ended, root_ended, came_home, root_came}
use Rattle.mq_core.proofs.Roots.{root_based}
use Rattle.mq_desk_laws.specs.Bases.{BaseOk}
use Rattle.mq_desk_laws.specs.Grown.{HasGrown}
use Rattle.mq_desk_laws.specs.Pages.{is_ended, due_by, home_number, known_after, IsNumbered, IsToBring}
use Rattle.mq_desk_laws.proofs.Pages.{due_low, ended_above, numbered_of}

-- ---- before

last_logged_le : (base x : ℕ) (h : List Tx) → AreNumbered base h → last_logged base h x ≤ base + length h
last_logged_le base x [] n = omega arith
last_logged_le base x (t ∷ ts) n = elim (cases_Bool (is_some (write_of t.logged x))) [
  | inl e ↦ rw e (omega (arith, n.0))
  | inr e ↦ rw e (omega (arith, last_logged_le base x ts n.1))
]

-- where the last change, above the base, is the last that logged the block, it logged the block
last_is_logged : (base x : ℕ) (h : List Tx) → AreNumbered base h → last_logged base h x ≡ last base h x → base < last base h x → (t : Tx) (ts : List Tx) → IsAt t ts h → t.number ≡ last base h x → is_among x (blocks_of t.logged) ≡ true
last_is_logged base x [] n same above t ts at number = absurd at
last_is_logged base x (u ∷ txs) n same above t ts at number = elim (cases_Bool (is_some (write_of u.logged x))) [
  | inl e ↦
      let wrote = last-changed base u txs x (changes_logged u x (some_among u x e)) in
      elim at [
        | inl here ↦ subst (λ (w : Tx). is_among x (blocks_of w.logged) ≡ true) here.0 (some_among u x e)
        | inr deeper ↦ absurd (omega (arith, n.0, at_most base t ts txs n.1 deeper))
      ]
  | inr e ↦
      let same' : last_logged base txs x ≡ last base (u ∷ txs) x = rw e at same in
      let low = last_logged_le base x txs n.1 in
      elim (cases_Bool (changes u x)) [
        | inl c ↦ absurd (omega (arith, n.0, last-changed base u txs x c))
        | inr c ↦
            let kept = last-same base u txs x c in
            elim at [
              | inl here ↦ absurd (let is : u.number ≡ t.number = ap (λ (w : Tx). w.number) here.0 in omega (arith, n.0))
              | inr deeper ↦ last_is_logged base x txs n.1 (same' ∙ kept) (omega arith) t ts deeper (number ∙ kept)
            ]
      ]
]

-- the part of a home write's guard that the history says
pub logged_last : (k : KnownJournal) (ended : List (ℕ × ℕ)) (x version logged home : ℕ) → LogOk k → IsToBring k ended x version logged home → IsLoggedLast k x
logged_last k ended x version logged home log c =
    let v = c.version_is in
    let l = c.logged_is in
    let hm = c.home_is in
    let same = c.last in
    let waits = c.waits in
    let done = c.done in
    let above = ended_above k.base ended x in
    record {
      due = λ w d. (let low = due_low k.base ended x w (subst (λ f. f x w ≡ true) c.due_is d) in omega arith);
      high = omega arith;
      logged = last_is_logged k.base x k.history log.numbers (omega arith) (omega arith);
    }

-- and the part that the root's bases say
pub above_base : (k : KnownJournal) (b x : ℕ) (content : List ℕ) → LogOk k → BaseOk k b → IsLoggedLast k x → x < homes_of k.geometry → map_after k.start k.history x ≡ Some content → b < last k.base k.history x
above_base k b x content log ok u block there = elim (cases_lt b (last k.base k.history x)) [
  | inl above ↦ above
  | inr at ↦
      let same = last_settled k.base b k.history x log.numbers at in
      let then : map_after k.start (upto b k.history) x ≡ Some content = sym (value_settled k.start k.base b k.history x at) ∙ there in
      elim (ok.home x content block then) [
        | inl d ↦ absurd (let low = d.low in let less = u.due d.number d.due in omega arith)
        | inr (inl w) ↦
            let number : w.tx.number ≡ last k.base k.history x = w.number ∙ same in
            let form = (log.each w.tx w.before w.at).0 in
            absurd (false≢true (sym (apart-not_among (blocks_of w.tx.logged) (blocks_of w.tx.direct) x form.apart (u.logged w.tx w.before w.at number)) ∙ w.among))
        | inr (inr above) ↦ absurd (omega (arith, above, last_upto_le k.base (front k) k.history x log.numbers))
      ]
]

-- ---- it is known to have ended

-- nothing is due beside what was, and the block by its last change
abbrev pub IsTold : KnownJournal → ℕ → (ℕ → ℕ → Bool) → Type 0
IsTold k x due = (y v : ℕ) → due y v ≡ true → (k.due y v ≡ true) ⊎ ((y ≡ x) × (v ≡ last k.base k.history x))

module _ (k : KnownJournal) (log : LogOk k) (x : ℕ) (u : IsLoggedLast k x) (due : ℕ → ℕ → Bool) (is_told : IsTold k x due) where
  abbrev pub after : KnownJournal
  after = record k { due = due }

  pub log_told : LogOk after
  log_told = log_based k due k.word log (omega arith) log.word_high (λ y v d. elim (is_told y v d) [
    | inl old ↦ log.due y v old
    | inr new ↦ (let is = new.1 in let high = u.high in omega arith)
  ])

  -- the other ports
  homes_apart : (z : Option ℕ) (p : PortState) → AreHome k z p → zone_of k.geometry x ≢ z → AreHome after z p
  homes_apart z p homes other y v c inside zone d was m = elim (is_told y v d) [
    | inl old ↦ homes y v c inside zone old was m
    | inr new ↦ absurd (other (subst (λ w. zone_of k.geometry w ≡ z) new.0 zone))
  ]

  pub side_apart : (q : ℕ) (txs : List Tx) (p : PortState) → SideOk k q txs p → zone_of k.geometry x ≢ Some q → SideOk after q txs p
  side_apart q txs p s other = side_based k due k.word log (omega arith) log.word_high q txs p s (homes_apart (Some q) p s.homes other)

  pub root_apart : (p : PortState) → RootOk k p → zone_of k.geometry x ≢ None → RootOk after p
  root_apart p r other = root_based k due k.word p r r.bases.0 (homes_apart None p r.homes other)

  -- its own port
  module _ (block : List ℕ) (there : map_after k.start k.history x ≡ Some block) where
    content-is : {a b : List ℕ} → Some a ≡ Some b → a ≡ b
    content-is e = cc

    homes_told : (z : Option ℕ) (p : PortState) → AreHome k z p → Certainly p (home_index k.geometry x) block → AreHome after z p
    homes_told z p homes here y v c inside zone d was m = elim (is_told y v d) [
      | inl old ↦ homes y v c inside zone old was m
      | inr new ↦
          let settled = value_settled k.start k.base (last k.base k.history x) k.history x (omega arith) in
          let was' : map_after k.start (upto (last k.base k.history x) k.history) x ≡ Some c = ap (λ n. map_after k.start (upto n k.history) x) (sym new.1) ∙ ap (λ w. map_after k.start (upto v k.history) w) (sym new.0) ∙ was in
          let same : block ≡ c = content-is (sym there ∙ settled ∙ was') in
          let at : Certainly p (home_index k.geometry y) block = subst (λ w. Certainly p (home_index k.geometry w) block) (sym new.0) here in
          record { certain = at.certain; is = at.is ∙ same }
    ]

    pub side_told : (q : ℕ) (txs : List Tx) (p : PortState) → SideOk k q txs p → zone_of k.geometry x ≡ Some q → SideOk after q txs (end_home k.geometry x block p)
    side_told q txs p s zone =
        let s' = side_ended k log x block u q txs p s zone in
        side_based k due k.word log (omega arith) log.word_high q txs (end_home k.geometry x block p) s' (homes_told (Some q) (end_home k.geometry x block p) s'.homes (came_home k log x block u q txs p s zone))

    pub root_told : (p : PortState) → RootOk k p → zone_of k.geometry x ≡ None → x < homes_of k.geometry → RootOk after (end_home k.geometry x block p)
    root_told p r zone inside =
        let r' = root_ended k log x block u p r zone inside in
        root_based k due k.word (end_home k.geometry x block p) r' r'.bases.0 (homes_told None (end_home k.geometry x block p) r'.homes (root_came k log x block u p r zone inside))

-- ---- the page after it

-- its home write is known with its number
pub told_with : (k : KnownJournal) (ended : List (ℕ × ℕ)) (x version logged home : ℕ) → IsToBring k ended x version logged home → IsTold k x (due_by k.base ((x, version) ∷ ended))
told_with k ended x version logged home c y v d = elim (or_cases (eqb v k.base) (is_ended ((x, version) ∷ ended) y v) d) [
  | inl base ↦ inl (subst (λ f. f y v ≡ true) (sym c.due_is) (or_left _ _ base))
  | inr some ↦ elim (or_cases (eqb x y && eqb version v) (is_ended ended y v) some) [
    | inl here ↦ (let p = and_parts _ _ here in inr (sym (eqb-true _ _ p.0), sym (eqb-true _ _ p.1) ∙ c.version_is))
    | inr old ↦ inl (subst (λ f. f y v ≡ true) (sym c.due_is) (or_right (eqb v k.base) _ old))
  ]
]

-- what was due stays so
pub due_with : (k : KnownJournal) (ended : List (ℕ × ℕ)) (x version logged home : ℕ) → IsToBring k ended x version logged home → (y v : ℕ) → k.due y v ≡ true → due_by k.base ((x, version) ∷ ended) y v ≡ true
due_with k ended x version logged home c y v d = elim (or_cases (eqb v k.base) (is_ended ended y v) (subst (λ f. f y v ≡ true) c.due_is d)) [
  | inl base ↦ or_left _ _ base
  | inr old ↦ or_right (eqb v k.base) _ (or_right (eqb x y && eqb version v) _ old)
]

-- the cell's third number is its version now
pub home_number_with : (k : KnownJournal) (ended : List (ℕ × ℕ)) (x version logged home : ℕ) → IsToBring k ended x version logged home → home_number k ((x, version) ∷ ended) x ≡ version
home_number_with k ended x version logged home c =
    let is = c.home_is in
    let waits = c.waits in
    rw (eq-eqb x x refl) (omega arith)

-- the port of its zone, or the root's, where its bytes were the page's content
pub side_brought : (k : KnownJournal) (ended : List (ℕ × ℕ)) (x version logged home : ℕ) (block : List ℕ) (q : ℕ) (txs : List Tx) (p : PortState) → LogOk k → IsToBring k ended x version logged home → map_after k.start k.history x ≡ Some block → SideOk k q txs p → zone_of k.geometry x ≡ Some q
    → SideOk (known_after k ended x version) q txs (end_home k.geometry x block p)
side_brought k ended x version logged home block q txs p log c there s zone =
    side_told k log x (logged_last k ended x version logged home log c) (due_by k.base ((x, version) ∷ ended)) (told_with k ended x version logged home c) block there q txs p s zone

pub root_brought : (k : KnownJournal) (ended : List (ℕ × ℕ)) (x version logged home : ℕ) (block : List ℕ) (p : PortState) → LogOk k → IsToBring k ended x version logged home → map_after k.start k.history x ≡ Some block → RootOk k p → zone_of k.geometry x ≡ None → x < homes_of k.geometry
    → RootOk (known_after k ended x version) (end_home k.geometry x block p)
root_brought k ended x version logged home block p log c there r zone inside =
    root_told k log x (logged_last k ended x version logged home log c) (due_by k.base ((x, version) ∷ ended)) (told_with k ended x version logged home c) block there p r zone inside

-- nothing that it takes back, so that any content may have been written
pub log_brought : (k : KnownJournal) (ended : List (ℕ × ℕ)) (x version logged home : ℕ) → LogOk k → IsToBring k ended x version logged home → LogOk (known_after k ended x version)
log_brought k ended x version logged home log c =
    log_told k log x (logged_last k ended x version logged home log c) (due_by k.base ((x, version) ∷ ended)) (told_with k ended x version logged home c)

pub grown_brought : (k : KnownJournal) (ended : List (ℕ × ℕ)) (x version logged home : ℕ) → IsToBring k ended x version logged home → HasGrown k (known_after k ended x version)
grown_brought k ended x version logged home c = record {
  newer = [];
  done = k.done;
  due = due_by k.base ((x, version) ∷ ended);
  word = k.word;
  is = refl;
  more_done = λ t ts at d. d;
  more_due = due_with k ended x version logged home c;
  above = omega arith;
}

-- the other ports
pub side_else : (k : KnownJournal) (ended : List (ℕ × ℕ)) (x version logged home q : ℕ) (txs : List Tx) (p : PortState) → LogOk k → IsToBring k ended x version logged home → SideOk k q txs p → zone_of k.geometry x ≢ Some q → SideOk (known_after k ended x version) q txs p
side_else k ended x version logged home q txs p log c s other =
    side_apart k log x (logged_last k ended x version logged home log c) (due_by k.base ((x, version) ∷ ended)) (told_with k ended x version logged home c) q txs p s other

pub root_else : (k : KnownJournal) (ended : List (ℕ × ℕ)) (x version logged home : ℕ) (p : PortState) → LogOk k → IsToBring k ended x version logged home → RootOk k p → zone_of k.geometry x ≢ None → RootOk (known_after k ended x version) p
root_else k ended x version logged home p log c r other =
    root_apart k log x (logged_last k ended x version logged home log c) (due_by k.base ((x, version) ∷ ended)) (told_with k ended x version logged home c) p r other

-- the page's numbers, with its version as the third
pub numbers_brought : (k : KnownJournal) (ended : List (ℕ × ℕ)) (x version logged home : ℕ) → IsToBring k ended x version logged home → IsNumbered (known_after k ended x version) x version logged version
numbers_brought k ended x version logged home c = numbered_of (known_after k ended x version) ((x, version) ∷ ended) x version logged version refl c.version_is c.logged_is (sym (home_number_with k ended x version logged home c))
