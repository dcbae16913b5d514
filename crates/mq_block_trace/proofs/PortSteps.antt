-- The events of a transaction as its text goes through them: those on the port by their index.
use Rattle.std.proofs.Common.{◌≡◌, ◌<◌, ◌≤◌, ℕ, zero, suc, ◌+◌, ◌-◌, ◌*◌, min, Bool, true, false, cond, ltb, List, [], ◌∷◌, ◌++◌, replicate, refl, sym, ◌∙◌, ap, inl, inr, arith, append_assoc, append-nil}
use Rattle.std.proofs.lemmas.Bool.{cases_lt, lt-ltb, le-ltb}
use Rattle.mq_core.specs.declared.event.Event.{Event}
use Rattle.mq_core.specs.declared.event.Event.TheVariants.{Draw, Stage, Flush, Ring, Complete, StoreHead, FlushHead, Clear, Acknowledge}
use Rattle.mq_ledger.specs.declared.tx.Tx.{Tx}
use Rattle.mq_block_trace.specs.Traced.{completed, cut_after, executed, is_on_port, tx_events}
use Rattle.mq_block_trace.specs.Written.{event_line, events_text, step_at, steps_from}

-- ---- texts

pub text_append : (es fs : List Event) → events_text (es ++ fs) ≡ events_text es ++ events_text fs
text_append [] fs = refl
text_append (e ∷ es) fs = ap (λ (l : List ℕ). event_line e ++ l) (text_append es fs) ∙ sym (append_assoc (event_line e) (events_text es) (events_text fs))

-- ---- the events on the port, by their index

module _ (count entries : ℕ) where
  steps_append : (at n m : ℕ) → steps_from count entries at (n + m) ≡ steps_from count entries at n ++ steps_from count entries (at + n) m
  steps_append at zero m = ap (steps_from count entries at) (let e : zero + m ≡ m = omega arith in e) ∙ ap (λ (k : ℕ). steps_from count entries k m) (let e : at ≡ at + zero = omega arith in e)
  steps_append at (suc n) m =
      ap (steps_from count entries at) (let e : suc n + m ≡ suc (n + m) = omega arith in e)
      ∙ ap (λ (l : List Event). step_at count entries at ∷ l) (steps_append (at + 1) n m
      ∙ ap (λ (k : ℕ). steps_from count entries (at + 1) n ++ steps_from count entries k m) (let e : at + 1 + n ≡ at + suc n = omega arith in e))

  pub step_stage : (at : ℕ) → at < entries → step_at count entries at ≡ Stage 0
  step_stage at low = rw (lt-ltb at entries low) refl

  pub step_flush : (at : ℕ) → at ≡ entries → step_at count entries at ≡ Flush 0
  step_flush at is = rw (le-ltb at entries (omega (arith, is))) (rw (lt-ltb at (entries + 1) (omega (arith, is))) refl)

  pub step_ring : (at : ℕ) → at ≡ entries + 1 → step_at count entries at ≡ Ring 0
  step_ring at is = rw (le-ltb at entries (omega (arith, is))) (rw (le-ltb at (entries + 1) (omega (arith, is))) (rw (lt-ltb at (entries + 2) (omega (arith, is))) refl))

  pub step_complete : (at : ℕ) → entries + 2 ≤ at → at < 2 * entries + 2 → step_at count entries at ≡ Complete 0 (count + at - (entries + 2))
  step_complete at low high =
      rw (le-ltb at entries (omega (arith, low))) (rw (le-ltb at (entries + 1) (omega (arith, low))) (rw (le-ltb at (entries + 2) (omega (arith, low))) (rw (lt-ltb at (2 * entries + 2) high) refl)))

  pub step_store : (at : ℕ) → at ≡ 2 * entries + 2 → step_at count entries at ≡ StoreHead 0 (count + entries)
  step_store at is =
      rw (le-ltb at entries (omega (arith, is))) (rw (le-ltb at (entries + 1) (omega (arith, is))) (rw (le-ltb at (entries + 2) (omega (arith, is)))
      (rw (le-ltb at (2 * entries + 2) (omega (arith, is))) (rw (lt-ltb at (2 * entries + 3) (omega (arith, is))) refl))))

  pub step_last : (at : ℕ) → 2 * entries + 3 ≤ at → step_at count entries at ≡ FlushHead 0
  step_last at low =
      rw (le-ltb at entries (omega (arith, low))) (rw (le-ltb at (entries + 1) (omega (arith, low))) (rw (le-ltb at (entries + 2) (omega (arith, low)))
      (rw (le-ltb at (2 * entries + 2) (omega (arith, low))) (rw (le-ltb at (2 * entries + 3) low) refl))))

  steps_stage : (at n : ℕ) → at + n ≤ entries → steps_from count entries at n ≡ replicate n (Stage 0)
  steps_stage at zero low = refl
  steps_stage at (suc n) low = let here = step_stage at (omega arith) in let rest = steps_stage (at + 1) n (omega arith) in λ i. here i ∷ rest i

  steps_complete : (at first n : ℕ) → entries + 2 ≤ at → at + n ≤ 2 * entries + 2 → first + (entries + 2) ≡ count + at → steps_from count entries at n ≡ completed first n
  steps_complete at first zero low high is = refl
  steps_complete at first (suc n) low high is =
      let here = step_complete at low (omega arith) ∙ ap (λ (c : ℕ). Complete 0 c) (let e : count + at - (entries + 2) ≡ first = omega (arith, is) in e) in
      let rest = steps_complete (at + 1) (first + 1) n (omega arith) (omega arith) (omega (arith, is)) in
      λ i. here i ∷ rest i

  front : steps_from count entries entries 2 ≡ Flush 0 ∷ Ring 0 ∷ []
  front = let flush = step_flush entries refl in let ring = step_ring (entries + 1) refl in λ i. flush i ∷ ring i ∷ []

  back : steps_from count entries (entries + 2 + entries) 2 ≡ StoreHead 0 (count + entries) ∷ FlushHead 0 ∷ []
  back = let store = step_store (entries + 2 + entries) (omega arith) in let last = step_last (entries + 2 + entries + 1) (omega arith) in λ i. store i ∷ last i ∷ []

  rest : steps_from count entries (entries + 2) (entries + 2) ≡ completed count entries ++ (StoreHead 0 (count + entries) ∷ FlushHead 0 ∷ [])
  rest = let complete = steps_complete (entries + 2) count entries (omega arith) (omega arith) refl in steps_append (entries + 2) entries 2 ∙ (λ i. complete i ++ back i)

  later : steps_from count entries (0 + entries) (2 + (entries + 2)) ≡ Flush 0 ∷ Ring 0 ∷ (completed count entries ++ (StoreHead 0 (count + entries) ∷ FlushHead 0 ∷ []))
  later = ap (λ (k : ℕ). steps_from count entries k (2 + (entries + 2))) (let e : 0 + entries ≡ entries = omega arith in e) ∙ steps_append entries 2 (entries + 2) ∙ (λ i. front i ++ rest i)

  -- all of them
  pub steps_all : steps_from count entries 0 (2 * entries + 4) ≡ executed count entries ++ (StoreHead 0 (count + entries) ∷ FlushHead 0 ∷ [])
  steps_all =
      let stages = steps_stage 0 entries (omega arith) in
      ap (steps_from count entries 0) (let e : 2 * entries + 4 ≡ entries + (2 + (entries + 2)) = omega arith in e)
      ∙ steps_append 0 entries (2 + (entries + 2))
      ∙ (λ i. stages i ++ later i)
      ∙ sym (append_assoc (replicate entries (Stage 0)) (Flush 0 ∷ Ring 0 ∷ completed count entries) (StoreHead 0 (count + entries) ∷ FlushHead 0 ∷ []))

  -- each is on the port
  on_port : (at : ℕ) → is_on_port (step_at count entries at) ≡ true
  on_port at = step (ltb at entries) (ltb at (entries + 1)) (ltb at (entries + 2)) (ltb at (2 * entries + 2)) (ltb at (2 * entries + 3))
    where
      step : (a b c d e : Bool) → is_on_port (cond a (Stage 0) (cond b (Flush 0) (cond c (Ring 0) (cond d (Complete 0 (count + at - (entries + 2))) (cond e (StoreHead 0 (count + entries)) (FlushHead 0)))))) ≡ true
      step true b c d e = refl
      step false true c d e = refl
      step false false true d e = refl
      step false false false true e = refl
      step false false false false true = refl
      step false false false false false = refl

  -- a cut among them leaves those before it
  cut_steps : (fs : List Event) (at n left : ℕ) → left < n → cut_after left (steps_from count entries at n ++ fs) ≡ steps_from count entries at left
  cut_steps fs at zero left few = absurd (omega arith)
  cut_steps fs at (suc n) zero few = rw (on_port at) refl
  cut_steps fs at (suc n) (suc left) few = rw (on_port at) (ap (λ (l : List Event). step_at count entries at ∷ l) (cut_steps fs (at + 1) n left (omega arith)))

  -- one behind them leaves them all
  cut_behind : (fs : List Event) (at n left : ℕ) → n ≤ left → cut_after left (steps_from count entries at n ++ fs) ≡ steps_from count entries at n ++ cut_after (left - n) fs
  cut_behind fs at zero left many = ap (λ (m : ℕ). cut_after m fs) (let e : left ≡ left - 0 = omega arith in e)
  cut_behind fs at (suc n) zero many = absurd (omega arith)
  cut_behind fs at (suc n) (suc left) many =
      rw (on_port at) (ap (λ (l : List Event). step_at count entries at ∷ l) (cut_behind fs (at + 1) n left (omega arith)
      ∙ ap (λ (m : ℕ). steps_from count entries (at + 1) n ++ cut_after m fs) (let e : left - n ≡ suc left - suc n = omega arith in e)))

-- ---- the steps that are left

pub steps_more : (count entries at steps : ℕ) (out line new all : List ℕ) → at < steps → line ≡ event_line (step_at count entries at) → new ≡ out ++ line → out ++ events_text (steps_from count entries at (steps - at)) ≡ all → new ++ events_text (steps_from count entries (at + 1) (steps - (at + 1))) ≡ all
steps_more count entries at steps out line new all less is adds so_far =
    let rest = events_text (steps_from count entries (at + 1) (steps - (at + 1))) in
    ap (λ (l : List ℕ). l ++ rest) adds ∙ append_assoc out line rest ∙ ap (λ (l : List ℕ). out ++ (l ++ rest)) is
    ∙ ap (λ (n : ℕ). out ++ events_text (steps_from count entries at n)) (let e : suc (steps - (at + 1)) ≡ steps - at = omega arith in e) ∙ so_far

pub steps_end : (count entries at steps : ℕ) (out all : List ℕ) → steps ≤ at → out ++ events_text (steps_from count entries at (steps - at)) ≡ all → out ≡ all
steps_end count entries at steps out all over so_far =
    sym (append-nil out) ∙ ap (λ (n : ℕ). out ++ events_text (steps_from count entries at n)) (let e : 0 ≡ steps - at = omega arith in e) ∙ so_far

-- ---- a transaction

module _ (t : Tx) (count entries left : ℕ) where
  parts : tx_events t count entries ≡ Clear 0 t.number ∷ Draw t ∷ (steps_from count entries 0 (2 * entries + 4) ++ Acknowledge t.number ∷ [])
  parts =
      ap (λ (l : List Event). Clear 0 t.number ∷ Draw t ∷ l)
      (sym (append_assoc (executed count entries) (StoreHead 0 (count + entries) ∷ FlushHead 0 ∷ []) (Acknowledge t.number ∷ []))
      ∙ ap (λ (l : List Event). l ++ Acknowledge t.number ∷ []) (sym (steps_all count entries)))

  pub tx_cut : left < 2 * entries + 4 → cut_after left (tx_events t count entries) ≡ Clear 0 t.number ∷ Draw t ∷ steps_from count entries 0 left
  tx_cut few =
      ap (cut_after left) parts
      ∙ ap (λ (l : List Event). Clear 0 t.number ∷ Draw t ∷ l) (cut_steps count entries (Acknowledge t.number ∷ []) 0 (2 * entries + 4) left few)

  pub tx_whole : 2 * entries + 4 ≤ left → cut_after left (tx_events t count entries) ≡ Clear 0 t.number ∷ Draw t ∷ (steps_from count entries 0 (2 * entries + 4) ++ Acknowledge t.number ∷ [])
  tx_whole many =
      ap (cut_after left) parts
      ∙ ap (λ (l : List Event). Clear 0 t.number ∷ Draw t ∷ l) (cut_behind count entries (Acknowledge t.number ∷ []) 0 (2 * entries + 4) left many)

  -- what is written of it, part by part
  pub tx_text : (out a b c d : List ℕ) (steps : ℕ) → a ≡ out ++ event_line (Clear 0 t.number) → b ≡ a ++ event_line (Draw t) → steps ≡ min left (2 * entries + 4) → c ≡ b ++ events_text (steps_from count entries 0 steps)
      → ((2 * entries + 4 ≤ left) → d ≡ c ++ event_line (Acknowledge t.number)) → ((left < 2 * entries + 4) → d ≡ c) → d ≡ out ++ events_text (cut_after left (tx_events t count entries))
  tx_text out a b c d steps first draw least body more less = elim (cases_lt left (2 * entries + 4)) [
    | inl few ↦
        less few ∙ three left (let e : steps ≡ left = omega (arith, least, few) in e) ∙ ap (λ (es : List Event). out ++ events_text es) (sym (tx_cut few))
    | inr many ↦
        more many ∙ ap (λ (l : List ℕ). l ++ event_line (Acknowledge t.number)) (three (2 * entries + 4) (let e : steps ≡ 2 * entries + 4 = omega (arith, least, many) in e))
        ∙ append_assoc out (events_text (Clear 0 t.number ∷ Draw t ∷ steps_from count entries 0 (2 * entries + 4))) (event_line (Acknowledge t.number))
        ∙ ap (λ (l : List ℕ). out ++ (events_text (Clear 0 t.number ∷ Draw t ∷ steps_from count entries 0 (2 * entries + 4)) ++ l)) (sym (append-nil (event_line (Acknowledge t.number))))
        ∙ ap (λ (l : List ℕ). out ++ l) (sym (text_append (Clear 0 t.number ∷ Draw t ∷ steps_from count entries 0 (2 * entries + 4)) (Acknowledge t.number ∷ [])))
        ∙ ap (λ (es : List Event). out ++ events_text es) (sym (tx_whole many))
  ]
    where
      three : (n : ℕ) → steps ≡ n → c ≡ out ++ events_text (Clear 0 t.number ∷ Draw t ∷ steps_from count entries 0 n)
      three n is =
          body ∙ ap (λ (l : List ℕ). l ++ events_text (steps_from count entries 0 steps)) (draw ∙ ap (λ (l : List ℕ). l ++ event_line (Draw t)) first)
          ∙ ap (λ (m : ℕ). ((out ++ event_line (Clear 0 t.number)) ++ event_line (Draw t)) ++ events_text (steps_from count entries 0 m)) is
          ∙ append_assoc (out ++ event_line (Clear 0 t.number)) (event_line (Draw t)) (events_text (steps_from count entries 0 n))
          ∙ append_assoc out (event_line (Clear 0 t.number)) (event_line (Draw t) ++ events_text (steps_from count entries 0 n))
