-- A base stays one, while what is known grows.
use Rattle.std.proofs.Common.{◌≡◌, ℕ, ◌≤◌, true, Bool, List, [], ◌++◌, sym, refl, ap, subst, ◌∙◌, inl, inr, arith, append_assoc}
use Rattle.mq_ledger.specs.History.{map_after, last, upto, IsAt}
use Rattle.mq_ledger.specs.KnownJournal.{KnownJournal, LogOk, front}
use Rattle.mq_ledger.specs.declared.tx.Tx.{Tx}
use Rattle.mq_ledger.proofs.History.{last_upto_more}
use Rattle.mq_core.proofs.HistoryFronts.{part_more}
use Rattle.mq_core.proofs.KnownJournalGrowth.{front_low}
use Rattle.mq_desk_laws.specs.Bases.{BaseOk, IsAtHome, WroteDirectly}
use Rattle.mq_desk_laws.specs.Grown.{HasGrown, grown_to}
use Rattle.mq_core.proofs.HistoryBases.{at_append}
use Rattle.mq_desk_laws.proofs.HistoryNewer.{part_longer, upto_older}

pub directly_later : (newer h : List Tx) (x n : ℕ) → WroteDirectly h x n → WroteDirectly (newer ++ h) x n
directly_later newer h x n w = record { tx = w.tx; before = w.before; at = at_append w.tx w.before newer h w.at; number = w.number; among = w.among }

module _ (k : KnownJournal) (log : LogOk k) (newer : List Tx) (done : Tx → List Tx → Bool) (due : ℕ → ℕ → Bool) (word : ℕ) where
  abbrev later : KnownJournal
  later = grown_to k newer done due word

  module _ (then : LogOk later) (more_done : (t : Tx) (ts : List Tx) → IsAt t ts k.history → k.done t ts ≡ true → done t ts ≡ true) (more_due : (x v : ℕ) → k.due x v ≡ true → due x v ≡ true) where
    pub front_later : front k ≤ front later
    front_later = omega (arith, part_more k.done done k.history record { each = more_done }, part_longer done newer k.history)

    older : (b : ℕ) → b ≤ front k → upto b (newer ++ k.history) ≡ upto b k.history
    older b l = upto_older k.base b newer k.history then.numbers (omega (arith, front_low k))

    seen_later : (x : ℕ) → last k.base (upto (front k) k.history) x ≤ last k.base (upto (front later) (newer ++ k.history)) x
    seen_later x = rw (← older (front k) (omega arith)) (last_upto_more k.base (front k) (front later) (newer ++ k.history) x then.numbers front_later)

    pub home_grown : (b x : ℕ) → b ≤ front k → IsAtHome k b x → IsAtHome later b x
    home_grown b x l (inl d) =
        let same : last k.base (upto b (newer ++ k.history)) x ≡ last k.base (upto b k.history) x = ap (λ hs. last k.base hs x) (older b l) in
        let kept : upto d.number (newer ++ k.history) ≡ upto d.number k.history = older d.number (log.due x d.number d.due) in
        inl (record {
          number = d.number;
          due = more_due x d.number d.due;
          low = (let low = d.low in omega arith);
          same = ap (λ hs. last k.base hs x) kept ∙ d.same ∙ sym same;
        })
    home_grown b x l (inr (inl w)) = inr (inl (subst (λ hs. WroteDirectly (newer ++ k.history) x (last k.base hs x)) (sym (older b l)) (directly_later newer k.history x _ w)))
    home_grown b x l (inr (inr above)) = inr (inr (omega (arith, above, seen_later x)))

    pub base_grown : (b : ℕ) → BaseOk k b → BaseOk later b
    base_grown b ok = record {
      low = ok.low;
      reached = omega (arith, ok.reached, front_later);
      home = λ x content block there. home_grown b x ok.reached (ok.home x content block (ap (λ hs. map_after k.start hs x) (sym (older b ok.reached)) ∙ there));
    }

pub home_later : (k l : KnownJournal) (b x : ℕ) → LogOk k → LogOk l → HasGrown k l → b ≤ front k → IsAtHome k b x → IsAtHome l b x
home_later k l b x log then g reached h =
    let then' : LogOk (grown_to k g.newer g.done g.due g.word) = subst (λ n. LogOk n) g.is then in
    subst (λ n. IsAtHome n b x) (sym g.is) (home_grown k log g.newer g.done g.due g.word then' g.more_done g.more_due b x reached h)

pub base_later : (k l : KnownJournal) (b : ℕ) → LogOk k → LogOk l → HasGrown k l → BaseOk k b → BaseOk l b
base_later k l b log then g ok =
    let then' : LogOk (grown_to k g.newer g.done g.due g.word) = subst (λ n. LogOk n) g.is then in
    subst (λ n. BaseOk n b) (sym g.is) (base_grown k log g.newer g.done g.due g.word then' g.more_done g.more_due b ok)

-- the map after a base is as it was
pub value_later : (k l : KnownJournal) (b x : ℕ) → LogOk l → HasGrown k l → b ≤ front k → map_after l.start (upto b l.history) x ≡ map_after k.start (upto b k.history) x
value_later k l b x then g reached =
    let then' : LogOk (grown_to k g.newer g.done g.due g.word) = subst (λ n. LogOk n) g.is then in
    ap (λ (n : KnownJournal). map_after n.start (upto b n.history) x) g.is ∙ ap (λ hs. map_after k.start hs x) (upto_older k.base b g.newer k.history then'.numbers (omega (arith, front_low k)))

pub same_base : (k l : KnownJournal) → HasGrown k l → l.base ≡ k.base
same_base k l g = ap (λ (n : KnownJournal). n.base) g.is

-- nothing new is known
pub grown_none : (k : KnownJournal) → HasGrown k k
grown_none k = record { newer = []; done = k.done; due = k.due; word = k.word; is = refl; more_done = λ t ts at d. d; more_due = λ x v d. d; above = omega arith }

-- what has grown grows on
pub grown_on : (k l m : KnownJournal) → HasGrown k l → HasGrown l m → HasGrown k m
grown_on k l m g h =
    let next : HasGrown (grown_to k g.newer g.done g.due g.word) m = subst (λ n. HasGrown n m) g.is h in
    let joined : next.newer ++ (g.newer ++ k.history) ≡ (next.newer ++ g.newer) ++ k.history = sym (append_assoc next.newer g.newer k.history) in
    record {
      newer = next.newer ++ g.newer;
      done = next.done;
      due = next.due;
      word = next.word;
      is = next.is ∙ ap (λ hs. record k { history = hs; done = next.done; due = next.due; word = next.word }) joined;
      more_done = λ t ts at d. next.more_done t ts (at_append t ts g.newer k.history at) (g.more_done t ts at d);
      more_due = λ x v d. next.more_due x v (g.more_due x v d);
      above = (let low = g.above in let high = next.above in omega arith);
    }

-- the front never falls
pub front_grown : (k l : KnownJournal) → HasGrown k l → front k ≤ front l
front_grown k l g = subst (λ n. front k ≤ front n) (sym g.is) (omega (arith, part_more k.done g.done k.history record { each = g.more_done }, part_longer g.done g.newer k.history))
