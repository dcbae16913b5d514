-- Pages that were brought home one after another make a base.
use Rattle.std.proofs.Common.{◌≡◌, ◌≢◌, ◌⊎◌, ℕ, ◌+◌, ◌<◌, ◌≤◌, max, true, false, ◌&&◌, List, [], ◌∷◌, ◌++◌, length, is_some, Option, Some, None, sym, refl, ap, subst, ◌∙◌, inl, inr, arith, eqb}
use Rattle.std.proofs.lemmas.Bool.{cases_lt, cases_eq, cases_Bool, eq-eqb, eqb-true, and_parts, and_from, or_cases, or_left, or_right, false≢true}
use Rattle.mq_blocks.specs.Geometry.{homes_of}
use Rattle.mq_blocks.specs.Journal.{is_among}
use Rattle.mq_blocks.specs.Machine.{Map, write_of, or_kept, after}
use Rattle.mq_ledger.specs.History.{changes, map_after, last, last_logged, upto}
use Rattle.mq_ledger.specs.KnownJournal.{KnownJournal, LogOk, front}
use Rattle.mq_ledger.specs.declared.tx.Tx.{Tx}
use Rattle.mq_ledger.proofs.History.{last-changed, last-same, last_le, last_at, last_settled, value_settled, unchanged, among_written, write_of-append, changes_direct, changes_logged}
use Rattle.mq_desk_laws.specs.Bases.{BaseOk, AreAtHome, IsAtHome, WroteDirectly}
use Rattle.mq_desk_laws.specs.Grown.{HasGrown}
use Rattle.mq_desk_laws.specs.Pages.{is_ended, last_ended, last_direct, due_by, home_number, IsNumbered, IsBrought, AreBrought}
use Rattle.mq_desk_laws.proofs.Bases.{home_later, value_later, grown_none}

-- ---- a last change that didn't log the block wrote it directly

some-none : {o : Option (List ℕ)} {b : List ℕ} → o ≡ None → o ≡ Some b → ⊥
some-none a b = cc

map_freed : (start : Map) (t : Tx) (ts : List Tx) (x : ℕ) → write_of (t.logged ++ t.direct) x ≡ None → is_among x t.freed ≡ true → map_after start (t ∷ ts) x ≡ None
unfolding after
map_freed start t ts x w f = rw (w, f) refl

is-none : (o : Option (List ℕ)) → is_some o ≡ false → o ≡ None
is-none (Some v) e = absurd (false≢true (sym e))
is-none None e = refl

directly_deeper : (t : Tx) (h : List Tx) (x n : ℕ) → WroteDirectly h x n → WroteDirectly (t ∷ h) x n
directly_deeper t h x n w = record { tx = w.tx; before = w.before; at = inr w.at; number = w.number; among = w.among }

pub not_logged : (start : Map) (base x : ℕ) (h : List Tx) (content : List ℕ) → map_after start h x ≡ Some content → last_logged base h x ≢ last base h x → WroteDirectly h x (last base h x)
not_logged start base x [] content there other = absurd (other refl)
not_logged start base x (t ∷ ts) content there other = elim (cases_Bool (is_some (write_of t.logged x))) [
  | inl logged ↦ absurd (other (rw logged (sym (last-changed base t ts x (changed logged)))))
  | inr not ↦ elim (cases_Bool (changes t x)) [
    | inl c ↦ direct (is-none _ not) c (write_of t.direct x) refl
    | inr c ↦
        let same = last-same base t ts x c in
        subst (λ n. WroteDirectly (t ∷ ts) x n) (sym same) (directly_deeper t ts x _ (not_logged start base x ts content (sym (unchanged start t ts x c) ∙ there) (λ e. other (rw not (e ∙ sym same)))))
  ]
]
  where
    whole : (o p : Option (List ℕ)) → write_of t.logged x ≡ o → write_of t.direct x ≡ p → write_of (t.logged ++ t.direct) x ≡ or_kept o p
    whole o p a b = write_of-append t.logged t.direct x ∙ (λ i. or_kept (a i) (b i))

    changed : is_some (write_of t.logged x) ≡ true → changes t x ≡ true
    changed e = go (write_of t.logged x) refl e
      where
        go : (o : Option (List ℕ)) → write_of t.logged x ≡ o → is_some o ≡ true → changes t x ≡ true
        go (Some v) a e = changes_logged t x (among_written t.logged x v a)
        go None a e = absurd (false≢true e)

    direct : write_of t.logged x ≡ None → changes t x ≡ true → (p : Option (List ℕ)) → write_of t.direct x ≡ p → WroteDirectly (t ∷ ts) x (last base (t ∷ ts) x)
    direct none c (Some v) d = record { tx = t; before = ts; at = inl (refl, refl); number = sym (last-changed base t ts x c); among = among_written t.direct x v d }
    direct none c None d =
        let w = whole None None none d in
        absurd (some-none (map_freed start t ts x w (rw w at c)) there)

-- ---- a page that was brought home

pub home_of_page : (k : KnownJournal) (b x version logged home : ℕ) (content : List ℕ) → LogOk k → IsNumbered k x version logged home → version ≤ front k → IsBrought k b x version logged home → map_after k.start (upto b k.history) x ≡ Some content → IsAtHome k b x
home_of_page k b x version logged home content log is done brought there =
    let h = k.history in
    let v = is.version_is in
    let low : last k.base h x ≤ front k = omega arith in
    let seen = last_settled k.base (front k) h x log.numbers low in
    elim (cases_lt b (last k.base h x)) [
      | inl above ↦ inr (inr (omega arith))
      | inr at ↦
          let same = last_settled k.base b h x log.numbers at in
          let now : map_after k.start h x ≡ Some content = value_settled k.start k.base b h x at ∙ there in
          elim (cases_eq logged version) [
            | inl e ↦
                let up = brought content now e (omega arith) in
                elim (is.home_is) [
                  | inl due ↦ inl (record {
                    number = home;
                    due = due;
                    low = omega arith;
                    same = last_settled k.base home h x log.numbers (omega arith) ∙ sym same;
                  })
                  | inr w ↦
                      let most = last_at k.base w.tx w.before h x log.numbers w.at (changes_direct w.tx x w.among) in
                      let number = w.number in
                      inr (inl (record { tx = w.tx; before = w.before; at = w.at; number = omega arith; among = w.among }))
                ]
            | inr other ↦ inr (inl (subst (λ n. WroteDirectly h x n) (sym same) (not_logged k.start k.base x h content now (λ e. other (is.logged_is ∙ e ∙ sym v)))))
          ]
    ]

-- ---- one page after another, in what is known at the moment

pub none_yet : (k : KnownJournal) (b : ℕ) → AreAtHome k b 0
none_yet k b x content l there = absurd (omega arith)

pub one_more : (k : KnownJournal) (b x version logged home : ℕ) → LogOk k → IsNumbered k x version logged home → version ≤ front k → IsBrought k b x version logged home → AreAtHome k b x → AreAtHome k b (x + 1)
one_more k b x version logged home log is done brought before y content l there = elim (cases_eq y x) [
  | inl same ↦
      let there' : map_after k.start (upto b k.history) x ≡ Some content = subst (λ z. map_after k.start (upto b k.history) z ≡ Some content) same there in
      subst (λ z. IsAtHome k b z) (sym same) (home_of_page k b x version logged home content log is done brought there')
  | inr other ↦ before y content (omega arith) there
]

pub still_home : (k l : KnownJournal) (b n : ℕ) → LogOk k → LogOk l → HasGrown k l → b ≤ front k → AreAtHome k b n → AreAtHome l b n
still_home k l b n log then g reached each x content inside there = home_later k l b x log then g reached (each x content inside (sym (value_later k l b x then g reached) ∙ there))

pub all_home : (k : KnownJournal) (b : ℕ) → k.base ≤ b → b ≤ front k → AreAtHome k b (homes_of k.geometry) → BaseOk k b
all_home k b low reached each = record { low = low; reached = reached; home = λ x content inside there. each x content inside there }

-- ---- or from what was so at earlier moments

-- each page of the map was brought home, at some moment after the base was reached
pub raise : (k : KnownJournal) (b : ℕ) → LogOk k → k.base ≤ b → b ≤ front k → AreBrought k b → BaseOk k b
raise k b log low reached each =
    record {
      low = low;
      reached = reached;
      home = λ x content block there.
          let w = each x block in
          home_later w.earlier k b x w.log log w.grown w.reached (home_of_page w.earlier b x w.version w.logged w.home content w.log w.numbers w.done w.brought (sym (value_later w.earlier k b x log w.grown w.reached) ∙ there));
    }

-- all numbers are done, and no page waits for a home write
pub raise_all : (k : KnownJournal) (version logged home : ℕ → ℕ) → LogOk k → k.base + length k.history ≤ front k → ((x : ℕ) → x < homes_of k.geometry → IsNumbered k x (version x) (logged x) (home x)) → ((x : ℕ) → x < homes_of k.geometry → IsBrought k (front k) x (version x) (logged x) (home x)) → BaseOk k (front k)
raise_all k version logged home log all numbers brought =
    raise k (front k) log (omega arith) (omega arith) (λ x block. record {
      earlier = k;
      log = log;
      grown = grown_none k;
      reached = omega arith;
      version = version x;
      logged = logged x;
      home = home x;
      numbers = numbers x block;
      done = (let v = let n = numbers x block in n.version_is in omega (arith, v, last_le k.base k.history x log.numbers));
      brought = brought x block;
    })

-- ---- the numbers of a page, as a desk has them

pub ended_low : (base : ℕ) (ended : List (ℕ × ℕ)) (x v : ℕ) → is_ended ended x v ≡ true → v ≤ last_ended base ended x
ended_low base [] x v e = absurd (false≢true e)
ended_low base (h ∷ hs) x v e = elim (or_cases (eqb h.0 x && eqb h.1 v) (is_ended hs x v) e) [
  | inl here ↦ (let p = and_parts (eqb h.0 x) (eqb h.1 v) here in let n = eqb-true h.1 v p.1 in rw p.0 (omega arith))
  | inr there ↦ (let r = ended_low base hs x v there in elim (cases_Bool (eqb h.0 x)) [ inl s ↦ rw s (omega arith) | inr o ↦ rw o r ])
]

pub ended_above : (base : ℕ) (ended : List (ℕ × ℕ)) (x : ℕ) → base ≤ last_ended base ended x
ended_above base [] x = omega arith
ended_above base (h ∷ hs) x = (let r = ended_above base hs x in elim (cases_Bool (eqb h.0 x)) [ inl s ↦ rw s (omega arith) | inr o ↦ rw o r ])

pub due_low : (base : ℕ) (ended : List (ℕ × ℕ)) (x v : ℕ) → due_by base ended x v ≡ true → v ≤ last_ended base ended x
due_low base ended x v e = elim (or_cases (eqb v base) (is_ended ended x v) e) [
  | inl is ↦ (let n = eqb-true _ _ is in omega (arith, ended_above base ended x))
  | inr is ↦ ended_low base ended x v is
]

pub due_last : (base : ℕ) (ended : List (ℕ × ℕ)) (x : ℕ) → due_by base ended x (last_ended base ended x) ≡ true
due_last base [] x = or_left _ _ (eq-eqb base base refl)
due_last base (h ∷ hs) x = elim (cases_Bool (eqb h.0 x)) [
  | inl s ↦
      let is : last_ended base (h ∷ hs) x ≡ max h.1 (last_ended base hs x) = rw s refl in
      elim (cases_lt (last_ended base hs x) h.1) [
        | inl more ↦
            let e : h.1 ≡ last_ended base (h ∷ hs) x = omega arith in
            subst (λ v. due_by base (h ∷ hs) x v ≡ true) e (or_right (eqb h.1 base) _ (or_left _ (is_ended hs x h.1) (and_from (eqb h.0 x) (eqb h.1 h.1) s (eq-eqb h.1 h.1 refl))))
        | inr less ↦
            let e : last_ended base hs x ≡ last_ended base (h ∷ hs) x = omega arith in
            subst (λ v. due_by base (h ∷ hs) x v ≡ true) e (later (last_ended base hs x) (due_last base hs x))
      ]
  | inr o ↦
      let e : last_ended base hs x ≡ last_ended base (h ∷ hs) x = rw o refl in
      subst (λ v. due_by base (h ∷ hs) x v ≡ true) e (later (last_ended base hs x) (due_last base hs x))
]
  where
    later : (v : ℕ) → due_by base hs x v ≡ true → due_by base (h ∷ hs) x v ≡ true
    later v e = elim (or_cases (eqb v base) (is_ended hs x v) e) [
      | inl is ↦ or_left _ _ is
      | inr is ↦ or_right (eqb v base) _ (or_right (eqb h.0 x && eqb h.1 v) _ is)
    ]

pub direct_last : (base : ℕ) (h : List Tx) (x : ℕ) → (last_direct base h x ≡ base) ⊎ WroteDirectly h x (last_direct base h x)
direct_last base [] x = inl refl
direct_last base (t ∷ ts) x = elim (cases_Bool (is_some (write_of t.direct x))) [
  | inl e ↦ rw e (inr (go (write_of t.direct x) refl e))
  | inr e ↦ rw e (elim (direct_last base ts x) [
    | inl none ↦ inl none
    | inr w ↦ inr (directly_deeper t ts x _ w)
  ])
]
  where
    go : (o : Option (List ℕ)) → write_of t.direct x ≡ o → is_some o ≡ true → WroteDirectly (t ∷ ts) x t.number
    go (Some v) a e = record { tx = t; before = ts; at = inl (refl, refl); number = refl; among = among_written t.direct x v a }
    go None a e = absurd (false≢true e)

pub numbered_of : (k : KnownJournal) (ended : List (ℕ × ℕ)) (x version logged home : ℕ) → k.due ≡ due_by k.base ended → version ≡ last k.base k.history x → logged ≡ last_logged k.base k.history x → home ≡ home_number k ended x → IsNumbered k x version logged home
numbered_of k ended x version logged home due v l h =
    record {
      version_is = v;
      logged_is = l;
      home_is = elim (cases_lt (last_ended k.base ended x) (last_direct k.base k.history x)) [
        | inl more ↦
            let e : last_direct k.base k.history x ≡ home = omega arith in
            elim (direct_last k.base k.history x) [
              | inl none ↦ absurd (omega (arith, ended_above k.base ended x))
              | inr w ↦ inr (subst (λ n. WroteDirectly k.history x n) e w)
            ]
        | inr less ↦
            let e : last_ended k.base ended x ≡ home = omega arith in
            inl (ap (λ d. d x home) due ∙ subst (λ n. due_by k.base ended x n ≡ true) e (due_last k.base ended x))
      ];
    }
