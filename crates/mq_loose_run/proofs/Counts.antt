-- Counts of the lines of a text: their queues, entries, events and numbers.
use Rattle.std.proofs.Common.{◌≡◌, ◌≢◌, ◌<◌, ◌≤◌, ℕ, zero, suc, ◌+◌, ◌-◌, ◌*◌, ◌^◌, min, Bool, true, false, ◌&&◌, cond, eqb, List, [], ◌∷◌, length, None, refl, sym, ◌∙◌, ap, subst, inl, inr, arith}
use Rattle.std.proofs.lemmas.Bool.{eq-eqb, ne_eqb, cases_eq, eqb-true}
use Rattle.mq_block_text.specs.Text.{sets_in}
use Rattle.mq_blocks.specs.Drive.{counted}
use Rattle.mq_ledger.specs.History.{AreNumbered, IsAt}
use Rattle.mq_ledger.specs.declared.tx.Tx.{Tx}
use Rattle.mq_ledger.proofs.History.{at_most}
use Rattle.mq_loose_text.specs.Meaning.{after_line, done_by_line, done_on, drawn_by, events_of_line, events_upto, line_at, newest_on, rung_by_line, rung_upto, waiting_after, waiting_on}
use Rattle.mq_loose_text.specs.Text.{IsGoodLine, IsGoodText, places_on, queue_count}
use Rattle.mq_loose_text.specs.declared.line.LooseLine.{LooseLine}
use Rattle.mq_loose_text.specs.declared.line.LooseLine.TheVariants.{Commit, Done}
use Rattle.mq_loose_run.specs.Lines.{events_on, queue_of}

-- a count that does not reach its end is a sum
pub counted_small : (n a : ℕ) → n + a ≤ 2 ^ 64 - 1 → counted n a ≡ n + a
counted_small n zero low = omega arith
counted_small n (suc a) low =
    let one_more : min (n + 1) (2 ^ 64 - 1) ≡ n + 1 = omega (arith, low) in
    let sum : n + 1 + a ≡ n + suc a = omega arith in
    ap (λ (m : ℕ). counted m a) one_more ∙ counted_small (n + 1) a (omega (arith, low)) ∙ sum

and_true : (b : Bool) → (b && true) ≡ b
and_true true = refl
and_true false = refl

-- ---- the queue of a line

pub queue_is : queue_count ≡ 4
unfolding queue_count
queue_is = refl

good_queue : (l : LooseLine) → IsGoodLine l → queue_of l < queue_count
good_queue (Commit q is) good = good.0
good_queue (Done q) good = good

pub good_line : (lines : List LooseLine) (n : ℕ) → IsGoodText lines → n < length lines → IsGoodLine (line_at lines n)
good_line lines n good inside = good.good n (Done 0) inside

pub queue_low : (lines : List LooseLine) (n : ℕ) → IsGoodText lines → n < length lines → queue_of (line_at lines n) < 4
queue_low lines n good inside = (let low = good_queue (line_at lines n) (good_line lines n good inside) in omega (arith, low, queue_is))

-- of one of four queues, and of none of the others
one_of_four : (r e : ℕ) → r < 4 → cond (eqb r 0) e 0 + (cond (eqb r 1) e 0 + (cond (eqb r 2) e 0 + cond (eqb r 3) e 0)) ≡ e
one_of_four zero e low = omega arith
one_of_four (suc zero) e low = omega arith
one_of_four (suc (suc zero)) e low = omega arith
one_of_four (suc (suc (suc zero))) e low = omega arith
one_of_four (suc (suc (suc (suc r)))) e low = absurd (omega (arith, low))

-- ---- entries

-- the entries of a line on a queue
abbrev pub part : ℕ → LooseLine → ℕ
part q (Commit r is) = cond (eqb r q) (sets_in is + 1) 0
part q (Done r) = 0

rung_line : (q n : ℕ) (lines : List LooseLine) (l : LooseLine) → rung_by_line None q lines n l ≡ part q l
rung_line q n lines (Commit r is) = ap (λ (b : Bool). cond b (sets_in is + 1) 0) (and_true (eqb r q))
rung_line q n lines (Done r) = refl

pub rung_next : (q n : ℕ) (lines : List LooseLine) → rung_upto None q lines (suc n) ≡ rung_upto None q lines n + part q (line_at lines n)
rung_next q n lines = ap (λ (m : ℕ). rung_upto None q lines n + m) (rung_line q n lines (line_at lines n))

rung_cons : (q n : ℕ) (l : LooseLine) (ls : List LooseLine) → rung_upto None q (l ∷ ls) (suc n) ≡ part q l + rung_upto None q ls n
rung_cons q zero l ls = (let e = rung_next q 0 (l ∷ ls) in omega (arith, e))
rung_cons q (suc n) l ls = omega (arith, rung_next q (suc n) (l ∷ ls), rung_cons q n l ls, rung_next q n ls)

places_cons : (q : ℕ) (l : LooseLine) (ls : List LooseLine) → places_on q (l ∷ ls) ≡ part q l + places_on q ls
places_cons q (Commit r is) ls = refl
places_cons q (Done r) ls = omega arith

pub rung_places : (q n : ℕ) (lines : List LooseLine) → n ≤ length lines → rung_upto None q lines n ≤ places_on q lines
rung_places q zero lines low = omega arith
rung_places q (suc n) [] low = absurd (omega (arith, low))
rung_places q (suc n) (l ∷ ls) low = omega (arith, rung_cons q n l ls, places_cons q l ls, rung_places q n ls (omega (arith, low)))

pub rung_few : (q n : ℕ) (lines : List LooseLine) → IsGoodText lines → q < queue_count → n ≤ length lines → rung_upto None q lines n ≤ 1024
rung_few q n lines good own low = omega (arith, rung_places q n lines low, good.fits q own)

waits_line : (q w : ℕ) (l : LooseLine) → waiting_after q l w ≤ w + part q l
waits_line q w (Commit r is) = go (eqb r q)
  where
    go : (b : Bool) → cond b (w + (sets_in is + 1)) w ≤ w + cond b (sets_in is + 1) 0
    go true = omega arith
    go false = omega arith
waits_line q w (Done r) = go (eqb r q)
  where
    go : (b : Bool) → cond b 0 w ≤ w + 0
    go true = omega arith
    go false = omega arith

pub waits_rung : (q n : ℕ) (lines : List LooseLine) → waiting_on q lines n ≤ rung_upto None q lines n
waits_rung q zero lines = omega arith
waits_rung q (suc n) lines = omega (arith, waits_line q (waiting_on q lines n) (line_at lines n), waits_rung q n lines, rung_next q n lines)

-- ---- events

-- the events of a line on a queue, and the entries that wait behind it, are few for the entries
few_line : (q n : ℕ) (lines : List LooseLine) (l : LooseLine) → cond (eqb (queue_of l) q) (events_of_line lines n l) 0 + 3 * waiting_after q l (waiting_on q lines n) ≤ 3 * waiting_on q lines n + 6 * part q l
few_line q n lines (Commit r is) = go (eqb r q)
  where
    go : (b : Bool) → cond b (sets_in is + 3) 0 + 3 * cond b (waiting_on q lines n + (sets_in is + 1)) (waiting_on q lines n) ≤ 3 * waiting_on q lines n + 6 * cond b (sets_in is + 1) 0
    go true = omega arith
    go false = omega arith
few_line q n lines (Done r) = go (eqb r q) refl
  where
    drained : (w : ℕ) → cond (eqb w 0) 0 (w + 2) ≤ 3 * w
    drained w = elim (cases_eq w 0) [
      | inl e ↦ rw (eq-eqb w 0 e) (omega arith)
      | inr some ↦ rw (ne_eqb w 0 some) (let ne : w ≢ 0 = some in omega arith)
    ]

    go : (b : Bool) → eqb r q ≡ b → cond b (cond (eqb (waiting_on r lines n) 0) 0 (waiting_on r lines n + 2)) 0 + 3 * cond b 0 (waiting_on q lines n) ≤ 3 * waiting_on q lines n + 6 * 0
    go true same = (let e : waiting_on r lines n ≡ waiting_on q lines n = ap (λ (k : ℕ). waiting_on k lines n) (eqb-true r q same) in omega (arith, e, drained (waiting_on r lines n)))
    go false other = omega arith

events_waits : (q n : ℕ) (lines : List LooseLine) → events_on q lines n + 3 * waiting_on q lines n ≤ 6 * rung_upto None q lines n
events_waits q zero lines = omega arith
events_waits q (suc n) lines = omega (arith, few_line q n lines (line_at lines n), events_waits q n lines, rung_next q n lines)

pub events_few : (q n : ℕ) (lines : List LooseLine) → IsGoodText lines → q < queue_count → n ≤ length lines → events_on q lines n ≤ 6144
events_few q n lines good own low = omega (arith, events_waits q n lines, rung_few q n lines good own low)

-- the events of all lines are those of the four queues
abbrev pub events_all : List LooseLine → ℕ → ℕ
events_all lines n = events_on 0 lines n + (events_on 1 lines n + (events_on 2 lines n + events_on 3 lines n))

pub events_sum : (n : ℕ) (lines : List LooseLine) → IsGoodText lines → n ≤ length lines → events_all lines n ≡ events_upto lines n
events_sum zero lines good low = omega arith
events_sum (suc n) lines good low =
    let one = one_of_four (queue_of (line_at lines n)) (events_of_line lines n (line_at lines n)) (queue_low lines n good (omega (arith, low))) in
    let before = events_sum n lines good (omega (arith, low)) in
    omega (arith, one, before)

-- ---- numbers

line_numbered : (l : LooseLine) (h : List Tx) → AreNumbered 0 h → AreNumbered 0 (after_line l h)
line_numbered (Commit q is) h numbered = (omega arith, numbered)
line_numbered (Done q) h numbered = numbered

pub drawn_numbered : (n : ℕ) (lines : List LooseLine) → AreNumbered 0 (drawn_by lines n)
drawn_numbered zero lines = tt
drawn_numbered (suc n) lines = line_numbered (line_at lines n) (drawn_by lines n) (drawn_numbered n lines)

pub newest_low : (q : ℕ) (h : List Tx) → AreNumbered 0 h → newest_on q h ≤ length h
newest_low q [] numbered = omega arith
newest_low q (t ∷ ts) numbered = go (newest_low q ts numbered.1) (eqb t.queue q)
  where
    go : newest_on q ts ≤ length ts → (b : Bool) → cond b t.number (newest_on q ts) ≤ suc (length ts)
    go rest true = (let e = numbered.0 in omega (arith, e))
    go rest false = omega (arith, rest)

pub newest_high : (q : ℕ) (t : Tx) (ts h : List Tx) → AreNumbered 0 h → IsAt t ts h → t.queue ≡ q → t.number ≤ newest_on q h
newest_high q t ts [] numbered at own = absurd at
newest_high q t ts (u ∷ us) numbered at own = elim (cases_eq u.queue q) [
  | inl here ↦ subst (λ (b : Bool). t.number ≤ cond b u.number (newest_on q us)) (sym (eq-eqb u.queue q here)) (most at)
  | inr other ↦ subst (λ (b : Bool). t.number ≤ cond b u.number (newest_on q us)) (sym (ne_eqb u.queue q other)) (elim at [
    | inl first ↦ absurd (other (ap (λ (v : Tx). v.queue) first.0 ∙ own))
    | inr later ↦ newest_high q t ts us numbered.1 later own
  ])
]
  where
    most : IsAt t ts (u ∷ us) → t.number ≤ u.number
    most (inl first) = (let e : u.number ≡ t.number = ap (λ (v : Tx). v.number) first.0 in omega (arith, e))
    most (inr later) = (let l = at_most 0 t ts us numbered.1 later in let e = numbered.0 in omega (arith, l, e))

done_line_low : (q n : ℕ) (lines : List LooseLine) (l : LooseLine) (before : ℕ) → before ≤ length (drawn_by lines n) → done_by_line None q lines n l before ≤ length (after_line l (drawn_by lines n))
done_line_low q n lines (Commit r is) before low = omega (arith, low)
done_line_low q n lines (Done r) before low = go (eqb r q && true)
  where
    go : (b : Bool) → cond b (newest_on q (drawn_by lines n)) before ≤ length (drawn_by lines n)
    go true = newest_low q (drawn_by lines n) (drawn_numbered n lines)
    go false = low

pub done_low : (q n : ℕ) (lines : List LooseLine) → done_on None q lines n ≤ length (drawn_by lines n)
done_low q zero lines = omega arith
done_low q (suc n) lines = done_line_low q n lines (line_at lines n) (done_on None q lines n) (done_low q n lines)

-- each commit has an entry
drawn_line : (h : List Tx) (l : LooseLine) → queue_of l < 4 → length (after_line l h) ≤ length h + (part 0 l + (part 1 l + (part 2 l + part 3 l)))
drawn_line h (Commit r is) low = (let e = one_of_four r (sets_in is + 1) low in omega (arith, e))
drawn_line h (Done r) low = omega arith

drawn_rung : (n : ℕ) (lines : List LooseLine) → IsGoodText lines → n ≤ length lines → length (drawn_by lines n) ≤ rung_upto None 0 lines n + (rung_upto None 1 lines n + (rung_upto None 2 lines n + rung_upto None 3 lines n))
drawn_rung zero lines good low = omega arith
drawn_rung (suc n) lines good low =
    let before = drawn_rung n lines good (omega (arith, low)) in
    let one = drawn_line (drawn_by lines n) (line_at lines n) (queue_low lines n good (omega (arith, low))) in
    omega (arith, before, one, rung_next 0 n lines, rung_next 1 n lines, rung_next 2 n lines, rung_next 3 n lines)

pub drawn_few : (n : ℕ) (lines : List LooseLine) → IsGoodText lines → n ≤ length lines → length (drawn_by lines n) ≤ 4096
drawn_few n lines good low =
    let q = queue_is in
    omega (arith, drawn_rung n lines good low, rung_few 0 n lines good (omega (arith, q)) low, rung_few 1 n lines good (omega (arith, q)) low, rung_few 2 n lines good (omega (arith, q)) low, rung_few 3 n lines good (omega (arith, q)) low)
