-- The head of a side stays past what stood below it, whatever a commit comes to.
use Rattle.std.proofs.Common.{◌≡◌, ℕ, ◌+◌, ◌≤◌, Bool, leb, List, [], ◌∷◌, length, Option, refl, sym, ap, subst, ◌∙◌, arith, inl, inr}
use Rattle.std.proofs.lemmas.Bool.{cases_Bool, eqb-true, le-leb}
use Rattle.mq_blocks.specs.Drive.{PortState}
use Rattle.mq_blocks.specs.Machine.{changes}
use Rattle.mq_blocks.specs.declared.geometry.Geometry.{Geometry}
use Rattle.mq_core.proofs.KnownJournalGrowth.{placed_front, side_moved}
use Rattle.mq_ledger.specs.History.{AreNumbered, IsAt, change_of, last, of_queue, part_of, upto}
use Rattle.mq_ledger.specs.Items.{end_of}
use Rattle.mq_ledger.specs.KnownJournal.{KnownJournal, LogOk, front}
use Rattle.mq_ledger.specs.Sides.{SideOk}
use Rattle.mq_ledger.specs.declared.tx.Tx.{Tx}
use Rattle.mq_queue_side.specs.Side.{IsQueueSide, SideState}
use Rattle.mq_queue_side.proofs.SideDraws.{side_along}
use Rattle.mq_replica.specs.Opened.{AreLogged, known_over}
use Rattle.mq_replica.proofs.Fronts.{upto_base}
use Rattle.mq_replica.proofs.Journals.{own_queue}
use Rattle.mq_replica.proofs.Quiets.{part_never}

-- no last change stands below the base
last_low : (base : ℕ) (ts : List Tx) (x : ℕ) → AreNumbered base ts → base ≤ last base ts x
last_low base [] x are = omega arith
last_low base (t ∷ ts) x are = elim (cases_Bool (changes (change_of t) x)) [
  | inl y ↦ rw y (let e = are.0 in omega (arith, e))
  | inr n ↦ rw n (last_low base ts x are.1)
]

-- one of them ends at most where all do
end_at : (from : ℕ) (h : List Tx) (t : Tx) (ts : List Tx) → IsAt t ts h → end_of from (t ∷ ts) ≤ end_of from h
end_at from [] t ts at = absurd at
end_at from (u ∷ us) t ts at = elim at [
  | inl here ↦ (let e : end_of from (u ∷ us) ≡ end_of from (t ∷ ts) = λ i. end_of from (here.0 i ∷ here.1 i) in omega (arith, e))
  | inr deeper ↦ (let l = end_at from us t ts deeper in omega (arith, l))
]

logged_at : (h : List Tx) (t : Tx) (ts : List Tx) → AreLogged h → IsAt t ts h → AreLogged (t ∷ ts)
logged_at [] t ts are at = absurd at
logged_at (u ∷ us) t ts are at = elim at [
  | inl here ↦ subst AreLogged (λ i. here.0 i ∷ here.1 i) are
  | inr deeper ↦ logged_at us t ts are.3 deeper
]

-- all up to a number are taken to be done
abbrev pub done_to : ℕ → Tx → List Tx → Bool
done_to n t ts = leb t.number n

module _ (g : Geometry) (start : List (Option (List ℕ))) (base from : ℕ) (h : List Tx) (logged : AreLogged h) (log : LogOk (known_over g start base from h)) where
  abbrev k : KnownJournal
  k = known_over g start base from h

  -- the same journal, in which all of these are taken to be done
  abbrev pub known_done : KnownJournal
  known_done = record k { done = done_to (base + length h) }

  front_base : front k ≡ base
  front_base = (let z : length (part_of k.done h) ≡ 0 = ap length (part_never h) in omega (arith, z))

  pub log_done : LogOk known_done
  log_done = record {
    entries = log.entries;
    numbers = log.numbers;
    limit = log.limit;
    word_low = log.word_low;
    word_high = omega arith;
    due = λ x v e. (let l = log.due x v e in omega (arith, l, front_base));
    each = λ t ts at. ((log.each t ts at).0, placed_front k known_done t ts refl refl (let f = front_base in omega (arith, f)) (omega arith) (log.each t ts at).1);
  }

  pub side_done : (p : PortState) → SideOk k 0 h p → end_of from h ≤ p.head → SideOk known_done 0 h p
  side_done p s passed = side_moved k 0 h p h (done_to (base + length h)) k.due base s (record {
    part = s.part;
    fits = s.area.fits;
    low = omega arith;
    based = s.based;
    done = λ t ts at own known.
        let those = logged_at h t ts logged at in
        let e : end_of from (of_queue 0 ts) ≡ end_of from ts = ap (end_of from) (own_queue ts those.3) in
        let l = end_at from h t ts at in
        omega (arith, e, l, passed);
    change = λ x v l. (let seen : upto (front k) h ≡ [] = ap (λ (n : ℕ). upto n h) front_base ∙ upto_base base h log.numbers in let low = last_low base (upto (base + length (part_of (done_to (base + length h)) h)) h) x (numbered_upto (base + length (part_of (done_to (base + length h)) h)) h log.numbers) in let e : last base (upto (front k) h) x ≡ base = ap (λ (ts : List Tx). last base ts x) seen in omega (arith, l, low, e));
  }) (λ x v block low zone due there kept. s.homes x v block low zone due there (let seen : upto (front k) h ≡ [] = ap (λ (n : ℕ). upto n h) front_base ∙ upto_base base h log.numbers in let e : last base (upto (front k) h) x ≡ base = ap (λ (ts : List Tx). last base ts x) seen in let v_is = eqb-true v base due in omega (arith, e, v_is)))
    where
      numbered_upto : (n : ℕ) (ts : List Tx) → AreNumbered base ts → AreNumbered base (upto n ts)
      numbered_upto n [] are = tt
      numbered_upto n (t ∷ ts) are = elim (cases_Bool (leb t.number n)) [
        | inl y ↦ rw y are
        | inr m ↦ rw m (numbered_upto n ts are.1)
      ]

  pub queue_done : (s : SideState) → IsQueueSide k 0 h s → end_of from h ≤ s.port.head → IsQueueSide known_done 0 h s
  queue_done s is passed = side_along k known_done 0 h s refl refl refl (side_done s.port is.side passed) is

  -- so the head of whatever is still a side of it is past them
  pub head_past : (t : Tx) (p : PortState) → SideOk (record known_done { history = t ∷ h }) 0 (t ∷ h) p → AreNumbered base h → end_of from h ≤ p.head
  head_past t p s numbers = past h refl
    where
      past : (ts : List Tx) → h ≡ ts → end_of from ts ≤ p.head
      past [] e = (let l = s.order.head_low in omega (arith, l))
      past (u ∷ us) e =
          let at : IsAt u us (t ∷ h) = inr (subst (λ (ws : List Tx). IsAt u us ws) (sym e) (inl (refl, refl))) in
          let those : AreLogged (u ∷ us) = subst AreLogged e logged in
          let size = ap length e in
          let n : u.number ≡ base + length us + 1 = (subst (λ (ws : List Tx). AreNumbered base ws) e numbers).0 in
          let l = s.done u us at those.0 (le-leb u.number (base + length h) (omega (arith, n, size))) in
          let own : end_of from (of_queue 0 us) ≡ end_of from us = ap (end_of from) (own_queue us those.3) in
          omega (arith, l, own)
