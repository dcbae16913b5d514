-- What is done and rung where the power goes off after some events, by where in the lines that is.
use Rattle.std.proofs.Common.{◌≡◌, ◌<◌, ◌≤◌, ℕ, zero, suc, ◌+◌, ◌-◌, Bool, true, false, ◌&&◌, cond, eqb, leb, List, [], ◌∷◌, length, Option, Some, None, refl, sym, ◌∙◌, ap, subst, inl, inr, arith}
use Rattle.std.proofs.lemmas.Bool.{eq-eqb, ne_eqb, cases_eq, cases_Bool, le-leb, lt-leb, leb-true, and_right, false_from_ne_true}
use Rattle.mq_block_text.specs.Text.{sets_in}
use Rattle.mq_ledger.specs.History.{AreNumbered, IsAt}
use Rattle.mq_ledger.specs.declared.tx.Tx.{Tx}
use Rattle.mq_loose_order.specs.Dependence.{all_in, closure, depends_on}
use Rattle.mq_loose_order.proofs.Closed.{closure-high, closure-other}
use Rattle.mq_loose_text.specs.Meaning.{after_line, done_by_line, done_on, drawn_by, drawn_in, events_of_line, events_upto, happens, is_done, line_at, newest_on, rung_by_line, rung_upto, settled_in, tx_of, waiting_after, waiting_on}
use Rattle.mq_loose_text.specs.declared.line.LooseLine.{LooseLine}
use Rattle.mq_loose_text.specs.declared.line.LooseLine.TheVariants.{Commit, Done}
use Rattle.mq_loose_run.proofs.Counts.{drawn_numbered}

-- ---- events only come

pub events_more : (n d : ℕ) (lines : List LooseLine) → events_upto lines n ≤ events_upto lines (n + d)
events_more n zero lines = (let e : n + 0 ≡ n = omega arith in subst (λ (m : ℕ). events_upto lines n ≤ events_upto lines m) (sym e) (omega arith))
events_more n (suc d) lines = (let e : n + suc d ≡ suc (n + d) = omega arith in subst (λ (m : ℕ). events_upto lines n ≤ events_upto lines m) (sym e) (let l = events_more n d lines in omega (arith, l)))

-- what happens within a cut
pub happens_less : (cut : Option ℕ) (a b : ℕ) → a ≤ b → happens cut b ≡ true → happens cut a ≡ true
happens_less None a b low e = refl
happens_less (Some k) a b low e = (let l : b ≤ k = leb-true b k e in le-leb a k (omega (arith, low, l)))

-- ---- before the cut all is as without it

early_done_line : (cut : Option ℕ) (q n : ℕ) (lines : List LooseLine) (l : LooseLine) (a b : ℕ) → a ≡ b → happens cut (events_upto lines (suc n)) ≡ true → done_by_line cut q lines n l a ≡ done_by_line None q lines n l b
early_done_line cut q n lines (Commit r is) a b same h = same
early_done_line cut q n lines (Done r) a b same h = λ i. cond (eqb r q && h i) (newest_on q (drawn_by lines n)) (same i)

pub early_done : (cut : Option ℕ) (q n : ℕ) (lines : List LooseLine) → happens cut (events_upto lines n) ≡ true → done_on cut q lines n ≡ done_on None q lines n
early_done cut q zero lines h = refl
early_done cut q (suc n) lines h =
    let before = happens_less cut (events_upto lines n) (events_upto lines (suc n)) (omega arith) h in
    early_done_line cut q n lines (line_at lines n) (done_on cut q lines n) (done_on None q lines n) (early_done cut q n lines before) h

early_rung_line : (cut : Option ℕ) (q n : ℕ) (lines : List LooseLine) (l : LooseLine) → happens cut (events_upto lines (suc n)) ≡ true → rung_by_line cut q lines n l ≡ rung_by_line None q lines n l
early_rung_line cut q n lines (Commit r is) h = λ i. cond (eqb r q && h i) (sets_in is + 1) 0
early_rung_line cut q n lines (Done r) h = refl

pub early_rung : (cut : Option ℕ) (q n : ℕ) (lines : List LooseLine) → happens cut (events_upto lines n) ≡ true → rung_upto cut q lines n ≡ rung_upto None q lines n
early_rung cut q zero lines h = refl
early_rung cut q (suc n) lines h =
    let before = happens_less cut (events_upto lines n) (events_upto lines (suc n)) (omega arith) h in
    λ i. early_rung cut q n lines before i + early_rung_line cut q n lines (line_at lines n) h i

-- ---- after it nothing more is done

late_done_line : (cut : Option ℕ) (q n : ℕ) (lines : List LooseLine) (l : LooseLine) (a : ℕ) → happens cut (events_upto lines (suc n)) ≡ false → done_by_line cut q lines n l a ≡ a
late_done_line cut q n lines (Commit r is) a h = refl
late_done_line cut q n lines (Done r) a h = ap (λ (b : Bool). cond b (newest_on q (drawn_by lines n)) a) (and_right (eqb r q) _ h)

late_rung_line : (cut : Option ℕ) (q n : ℕ) (lines : List LooseLine) (l : LooseLine) → happens cut (events_upto lines (suc n)) ≡ false → rung_by_line cut q lines n l ≡ 0
late_rung_line cut q n lines (Commit r is) h = ap (λ (b : Bool). cond b (sets_in is + 1) 0) (and_right (eqb r q) _ h)
late_rung_line cut q n lines (Done r) h = refl

-- the cut is behind all events of the first n lines, and before the last of the next
module _ (k n : ℕ) (lines : List LooseLine) (past : k < events_upto lines (suc n)) where
  late : (d : ℕ) → happens (Some k) (events_upto lines (suc (n + d))) ≡ false
  late d = (let l = events_more (suc n) d lines in let e : suc n + d ≡ suc (n + d) = omega arith in let m : events_upto lines (suc n + d) ≡ events_upto lines (suc (n + d)) = ap (events_upto lines) e in lt-leb (events_upto lines (suc (n + d))) k (omega (arith, l, m, past)))

  late_done : (q d : ℕ) → done_on (Some k) q lines (n + d) ≡ done_on (Some k) q lines n
  late_done q zero = (let e : n + 0 ≡ n = omega arith in ap (done_on (Some k) q lines) e)
  late_done q (suc d) = (let e : n + suc d ≡ suc (n + d) = omega arith in ap (done_on (Some k) q lines) e) ∙ late_done_line (Some k) q (n + d) lines (line_at lines (n + d)) (done_on (Some k) q lines (n + d)) (late d) ∙ late_done q d

  late_rung : (q d : ℕ) → rung_upto (Some k) q lines (n + d) ≡ rung_upto (Some k) q lines n
  late_rung q zero = (let e : n + 0 ≡ n = omega arith in ap (rung_upto (Some k) q lines) e)
  late_rung q (suc d) =
      (let e : n + suc d ≡ suc (n + d) = omega arith in ap (rung_upto (Some k) q lines) e)
      ∙ (let none = late_rung_line (Some k) q (n + d) lines (line_at lines (n + d)) (late d) in let rest = late_rung q d in omega (arith, none, rest))

  pub cut_done : (q m : ℕ) → n ≤ m → events_upto lines n ≤ k → done_on (Some k) q lines m ≡ done_on None q lines n
  cut_done q m low before =
      (let e : m ≡ n + (m - n) = omega (arith, low) in ap (done_on (Some k) q lines) e)
      ∙ late_done q (m - n)
      ∙ early_done (Some k) q n lines (le-leb (events_upto lines n) k before)

  pub cut_rung : (q m : ℕ) → n ≤ m → events_upto lines n ≤ k → rung_upto (Some k) q lines m ≡ rung_upto None q lines n
  cut_rung q m low before =
      (let e : m ≡ n + (m - n) = omega (arith, low) in ap (rung_upto (Some k) q lines) e)
      ∙ late_rung q (m - n)
      ∙ early_rung (Some k) q n lines (le-leb (events_upto lines n) k before)

-- ---- a cut right behind a line

-- where nothing waits, all is done
idle_line : (q n : ℕ) (lines : List LooseLine) (l : LooseLine) → (waiting_on q lines n ≡ 0 → done_on None q lines n ≡ newest_on q (drawn_by lines n)) → waiting_after q l (waiting_on q lines n) ≡ 0
    → done_by_line None q lines n l (done_on None q lines n) ≡ newest_on q (after_line l (drawn_by lines n))
idle_line q n lines (Commit r is) before none = go (eqb r q) none
  where
    go : (b : Bool) → cond b (waiting_on q lines n + (sets_in is + 1)) (waiting_on q lines n) ≡ 0 → done_on None q lines n ≡ cond b (length (drawn_by lines n) + 1) (newest_on q (drawn_by lines n))
    go true e = absurd (omega (arith, e))
    go false e = before e
idle_line q n lines (Done r) before none = go (eqb r q) none
  where
    go : (b : Bool) → cond b 0 (waiting_on q lines n) ≡ 0 → cond (b && true) (newest_on q (drawn_by lines n)) (done_on None q lines n) ≡ newest_on q (drawn_by lines n)
    go true e = refl
    go false e = before e

pub idle_done : (q n : ℕ) (lines : List LooseLine) → waiting_on q lines n ≡ 0 → done_on None q lines n ≡ newest_on q (drawn_by lines n)
idle_done q zero lines none = refl
idle_done q (suc n) lines none = idle_line q n lines (line_at lines n) (idle_done q n lines) none

-- a drain without events is of a queue on which nothing waits
no_events : (r n : ℕ) (lines : List LooseLine) → events_of_line lines n (Done r) ≡ 0 → waiting_on r lines n ≡ 0
no_events r n lines none = elim (cases_eq (waiting_on r lines n) 0) [
  | inl e ↦ e
  | inr some ↦ absurd (let e = ap (λ (b : Bool). cond b 0 (waiting_on r lines n + 2)) (sym (ne_eqb (waiting_on r lines n) 0 some)) ∙ none in omega (arith, e))
]

module _ (k n : ℕ) (lines : List LooseLine) (at : k ≡ events_upto lines n) where
  -- a later line that happens whole is a drain with nothing to do
  behind_line : (q d : ℕ) (l : LooseLine) → line_at lines (n + d) ≡ l → done_on (Some k) q lines (n + d) ≡ done_on None q lines n → done_by_line (Some k) q lines (n + d) l (done_on (Some k) q lines (n + d)) ≡ done_on None q lines n
  behind_line q d (Commit r is) is_line before = before
  behind_line q d (Done r) is_line before = elim (cases_eq r q) [
    | inr other ↦ ap (λ (b : Bool). cond (b && happens (Some k) (events_upto lines (suc (n + d)))) (newest_on q (drawn_by lines (n + d))) (done_on (Some k) q lines (n + d))) (ne_eqb r q other) ∙ before
    | inl same ↦ elim (cases_Bool (happens (Some k) (events_upto lines (suc (n + d))))) [
      | inr out ↦ late_done_line (Some k) q (n + d) lines (Done r) (done_on (Some k) q lines (n + d)) out ∙ before
      | inl in_time ↦
          let high : events_upto lines (suc (n + d)) ≤ k = leb-true _ _ in_time in
          let more = events_more n d lines in
          let ev : events_of_line lines (n + d) (Done r) ≡ 0 = (let e = ap (λ (l : LooseLine). events_of_line lines (n + d) l) is_line in omega (arith, high, more, at, e)) in
          let idle : waiting_on q lines (n + d) ≡ 0 = ap (λ (m : ℕ). waiting_on m lines (n + d)) (sym same) ∙ no_events r (n + d) lines ev in
          let here : done_on (Some k) q lines (n + d) ≡ done_on None q lines (n + d) = early_done (Some k) q (n + d) lines (le-leb (events_upto lines (n + d)) k (omega (arith, high))) in
          ap (λ (b : Bool). cond b (newest_on q (drawn_by lines (n + d))) (done_on (Some k) q lines (n + d))) ((λ i. eq-eqb r q same i && in_time i))
          ∙ sym (idle_done q (n + d) lines idle) ∙ sym here ∙ before
    ]
  ]

  behind : (q d : ℕ) → done_on (Some k) q lines (n + d) ≡ done_on None q lines n
  behind q zero = (let e : n + 0 ≡ n = omega arith in ap (done_on (Some k) q lines) e) ∙ early_done (Some k) q n lines (le-leb (events_upto lines n) k (omega (arith, at)))
  behind q (suc d) = (let e : n + suc d ≡ suc (n + d) = omega arith in ap (done_on (Some k) q lines) e) ∙ behind_line q d (line_at lines (n + d)) refl (behind q d)

  pub right_done : (q m : ℕ) → n ≤ m → done_on (Some k) q lines m ≡ done_on None q lines n
  right_done q m low = (let e : m ≡ n + (m - n) = omega (arith, low) in ap (done_on (Some k) q lines) e) ∙ behind q (m - n)

-- ---- closures

pub closure_same : (has other : Tx → List Tx → Bool) (base : ℕ) (h : List Tx) → ((t : Tx) (ts : List Tx) → IsAt t ts h → has t ts ≡ other t ts) → (n : ℕ) → closure has base h n ≡ closure other base h n
closure_same has other base [] same n = refl
closure_same has other base (t ∷ ts) same n =
    let here : has t ts ≡ other t ts = same t ts (inl (refl, refl)) in
    let rest : (m : ℕ) → closure has base ts m ≡ closure other base ts m = closure_same has other base ts (λ u us at. same u us (inr at)) in
    λ i. cond (eqb n t.number) (here i && all_in (λ m. rest m i) (depends_on base t ts)) (rest n i)

-- the transactions up to numbers of their queues
abbrev pub up_to : (ℕ → ℕ) → Tx → List Tx → Bool
up_to f t ts = leb t.number (f t.queue)

grown_line : (f : ℕ → ℕ) (l : LooseLine) (h : List Tx) (n : ℕ) → AreNumbered 0 h → ((q : ℕ) → f q ≤ length h) → closure (up_to f) 0 (after_line l h) n ≡ closure (up_to f) 0 h n
grown_line f (Done q) h n numbered low = refl
grown_line f (Commit q is) h n numbered low = elim (cases_eq n (length h + 1)) [
  | inr other ↦ closure-other (up_to f) 0 (tx_of h q is) h n other
  | inl same ↦
      let out : up_to f (tx_of h q is) h ≡ false = lt-leb (length h + 1) (f q) (let l = low q in omega (arith, l)) in
      let none : closure (up_to f) 0 h n ≡ false = false_from_ne_true _ (λ e. let l = closure-high (up_to f) 0 h n numbered e in absurd (omega (arith, l, same))) in
      (λ i. cond (eq-eqb n (length h + 1) same i) (out i && all_in (λ m. closure (up_to f) 0 h m) (depends_on 0 (tx_of h q is) h)) (closure (up_to f) 0 h n)) ∙ sym none
]

grown : (f : ℕ → ℕ) (lines : List LooseLine) (n d m : ℕ) → ((q : ℕ) → f q ≤ length (drawn_by lines n)) → closure (up_to f) 0 (drawn_by lines (n + d)) m ≡ closure (up_to f) 0 (drawn_by lines n) m
grown f lines n zero m low = (let e : n + 0 ≡ n = omega arith in ap (λ (k : ℕ). closure (up_to f) 0 (drawn_by lines k) m) e)
grown f lines n (suc d) m low =
    (let e : n + suc d ≡ suc (n + d) = omega arith in ap (λ (k : ℕ). closure (up_to f) 0 (drawn_by lines k) m) e)
    ∙ grown_line f (line_at lines (n + d)) (drawn_by lines (n + d)) m (drawn_numbered (n + d) lines) (λ q. let l = low q in let more = drawn_more n d lines in omega (arith, l, more))
    ∙ grown f lines n d m low
  where
    line_more : (l : LooseLine) (h : List Tx) → length h ≤ length (after_line l h)
    line_more (Commit q is) h = omega arith
    line_more (Done q) h = omega arith

    drawn_more : (n d : ℕ) (lines : List LooseLine) → length (drawn_by lines n) ≤ length (drawn_by lines (n + d))
    drawn_more n zero lines = (let e : n + 0 ≡ n = omega arith in let s = ap (λ (k : ℕ). length (drawn_by lines k)) e in omega (arith, s))
    drawn_more n (suc d) lines = (let e : n + suc d ≡ suc (n + d) = omega arith in let s = ap (λ (k : ℕ). length (drawn_by lines k)) e in let l = drawn_more n d lines in let m = line_more (line_at lines (n + d)) (drawn_by lines (n + d)) in omega (arith, s, l, m))

-- What is settled by the lines under a cut, where what is done of each queue is this, and only of the first n lines.
pub settled_at : (cut : Option ℕ) (lines : List LooseLine) (f : ℕ → ℕ) (n m : ℕ) → n ≤ length lines → ((q : ℕ) → done_on cut q lines (length lines) ≡ f q) → ((q : ℕ) → f q ≤ length (drawn_by lines n))
    → settled_in cut lines m ≡ closure (up_to f) 0 (drawn_by lines n) m
settled_at cut lines f n m low is few =
    closure_same (is_done cut lines) (up_to f) 0 (drawn_in lines) (λ t ts at. ap (leb t.number) (is t.queue)) m
    ∙ (let e : length lines ≡ n + (length lines - n) = omega (arith, low) in ap (λ (k : ℕ). closure (up_to f) 0 (drawn_by lines k) m) e)
    ∙ grown f lines n (length lines - n) m few
