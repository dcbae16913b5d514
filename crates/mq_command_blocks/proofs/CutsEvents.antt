-- Counts of events, and how far the doorbell has moved after some.
use Rattle.std.proofs.Common.{◌≡◌, ◌<◌, ◌≤◌, ℕ, zero, suc, ◌+◌, ◌-◌, ◌*◌, Bool, cond, List, [], ◌∷◌, length, refl, sym, ◌∙◌, ap, subst, arith}
use Rattle.std.proofs.lemmas.Bool.{le-ltb, lt-ltb}
use Rattle.mq_blocks.specs.Drive.{counted}
use Rattle.mq_block_trace.specs.Prefixes.{events_of, line_events, places_upto}
use Rattle.mq_command_blocks.specs.Cuts.{rung_after, rung_by, rung_upto}
use Rattle.mq_block_trace.specs.Lines.{line_at}
use Rattle.mq_block_text.specs.Text.{places_of, sets_in}
use Rattle.mq_block_text.specs.declared.item.BlockItem.{BlockItem}

pub counted-counted : (n a b : ℕ) → counted (counted n a) b ≡ counted n (a + b)
counted-counted n zero b = let e : b ≡ 0 + b = omega arith in ap (counted n) e
counted-counted n (suc a) b = let e : suc (a + b) ≡ suc a + b = omega arith in counted-counted (counted n 1) a b ∙ ap (counted n) e

pub events_more : (lines : List (List BlockItem)) (n m : ℕ) → n ≤ m → events_of lines n ≤ events_of lines m
events_more lines n m low =
    let sum : n + (m - n) ≡ m = omega arith in
    subst (λ (k : ℕ). events_of lines n ≤ events_of lines k) sum (by (m - n))
  where
    by : (k : ℕ) → events_of lines n ≤ events_of lines (n + k)
    by zero = subst (λ (k : ℕ). events_of lines n ≤ events_of lines k) (let e : n ≡ n + 0 = omega arith in e) (omega arith)
    by (suc k) = subst (λ (j : ℕ). events_of lines n ≤ events_of lines j) (let e : suc (n + k) ≡ n + suc k = omega arith in e) (let less = by k in omega arith)

events_first : (l : List BlockItem) (ls : List (List BlockItem)) (n : ℕ) → events_of (l ∷ ls) (suc n) ≡ line_events l + events_of ls n
events_first l ls zero = omega arith
events_first l ls (suc n) = let first = events_first l ls n in omega arith

-- the events of a whole text
pub events_all : (lines : List (List BlockItem)) → events_of lines (length lines) ≡ 2 * places_of lines + 4 * length lines
events_all [] = refl
events_all (l ∷ ls) = let first = events_first l ls (length ls) in let rest = events_all ls in omega arith

-- ---- the doorbell

-- before its ring a transaction has not moved it
pub rung_none : (entries events : ℕ) → events < entries + 2 → 0 ≡ rung_by entries events
rung_none entries events less = sym (ap (λ (b : Bool). cond b 0 entries) (lt-ltb events (entries + 2) less))

-- with it, by all its entries
pub rung_all : (entries events : ℕ) → entries + 2 ≤ events → rung_by entries events ≡ entries
rung_all entries events more = ap (λ (b : Bool). cond b 0 entries) (le-ltb events (entries + 2) more)

-- the lines whose events are over have moved it by their places
rung_over : (lines : List (List BlockItem)) (events n : ℕ) → events_of lines n ≤ events → rung_upto lines events n ≡ places_upto lines n
rung_over lines events zero over = refl
rung_over lines events (suc n) over =
    let rest : rung_upto lines events n ≡ places_upto lines n = rung_over lines events n (omega arith) in
    let last : rung_by (sets_in (line_at lines n) + 1) (events - events_of lines n) ≡ sets_in (line_at lines n) + 1 =
    rung_all (sets_in (line_at lines n) + 1) (events - events_of lines n) (omega arith) in
    omega (arith, rest, last)

-- the lines whose events are still to come have not moved it
rung_later : (lines : List (List BlockItem)) (events n k : ℕ) → events ≤ events_of lines n → rung_upto lines events (n + k) ≡ rung_upto lines events n
rung_later lines events n zero later = ap (rung_upto lines events) (let e : n + 0 ≡ n = omega arith in e)
rung_later lines events n (suc k) later =
    let more = events_more lines n (n + k) (omega arith) in
    let last = rung_none (sets_in (line_at lines (n + k)) + 1) (events - events_of lines (n + k)) (omega (arith, more)) in
    let rest : rung_upto lines events (n + k) ≡ rung_upto lines events n = rung_later lines events n k later in
    ap (rung_upto lines events) (let e : n + suc k ≡ suc (n + k) = omega arith in e) ∙ (let e : rung_upto lines events (suc (n + k)) ≡ rung_upto lines events n = omega (arith, rest, last) in e)

-- between two lines
pub rung_between : (lines : List (List BlockItem)) (n : ℕ) → n ≤ length lines → rung_after lines (events_of lines n) ≡ places_upto lines n
rung_between lines n within =
    ap (rung_upto lines (events_of lines n)) (let e : length lines ≡ n + (length lines - n) = omega arith in e)
    ∙ rung_later lines (events_of lines n) n (length lines - n) (omega arith) ∙ rung_over lines (events_of lines n) n (omega arith)

-- within a line
pub rung_inside : (lines : List (List BlockItem)) (n k : ℕ) → n < length lines → k ≤ line_events (line_at lines n)
    → rung_after lines (events_of lines n + k) ≡ places_upto lines n + rung_by (sets_in (line_at lines n) + 1) k
rung_inside lines n k less inside =
    let events : ℕ = events_of lines n + k in
    let over : rung_upto lines events n ≡ places_upto lines n = rung_over lines events n (omega arith) in
    let here : events - events_of lines n ≡ k = omega arith in
    let last : rung_upto lines events (suc n) ≡ places_upto lines n + rung_by (sets_in (line_at lines n) + 1) k =
    (λ i. over i + rung_by (sets_in (line_at lines n) + 1) (here i)) in
    ap (rung_upto lines events) (let e : length lines ≡ suc n + (length lines - suc n) = omega arith in e)
    ∙ rung_later lines events (suc n) (length lines - suc n) (omega arith) ∙ last
