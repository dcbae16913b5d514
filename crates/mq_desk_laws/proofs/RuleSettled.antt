-- A number up to which every entry is claimed to be done is not above the front.
use Rattle.std.proofs.Common.{◌≡◌, ℕ, suc, ◌+◌, ◌≤◌, true, List, [], ◌∷◌, length, refl, ap, subst, inl, inr, arith}
use Rattle.mq_ledger.specs.History as ledger
use Rattle.mq_ledger.specs.KnownJournal.{front}
use Rattle.mq_ledger.specs.declared.tx.Tx.{Tx}
use Rattle.mq_desk_laws.proofs.Claims.{part_covers}
use Rattle.mq_turns.specs.Marks.{is_claimed}
use Rattle.mq_turns.specs.Meaning.{HasNumberAt, newest}
use Rattle.mq_desk_laws.specs.Groups.{GroupView}
use Rattle.mq_desk_laws.specs.Rule
use Rattle.mq_desk_laws.specs.Rule.{IsOk}
use Rattle.mq_desk_laws.specs.Values.{Values}
use Rattle.mq_desk_laws.proofs.RuleStaying.{length_history}

module _ {Q R E : Type 0} (values : Values Q R E) (group : GroupView E) where
  -- each transaction of the history is an entry's
  pub entry_at : (base : ℕ) (es : List E) (t : Tx) (ts : List Tx) → ledger.IsAt t ts (Rule.history values group base es) → (e : E) × HasNumberAt base es t.number e × ((group.tx e).queue ≡ t.queue)
  entry_at base [] t ts at = absurd at
  entry_at base (e ∷ es) t ts (inl same) =
      let number : base + length es + 1 ≡ t.number = ap (λ (u : Tx). u.number) same.0 in
      let is : t.number ≡ suc (base + length es) = omega arith in
      (e, inl (is, refl), ap (λ (u : Tx). u.queue) same.0)
  entry_at base (e ∷ es) t ts (inr deeper) = let rest = entry_at base es t ts deeper in (rest.0, inr rest.1, rest.2)

  pub front_claimed : (n : ℕ) (K : Rule.DeskState values group) → IsOk values group K → n ≤ newest K → ((m : ℕ) (e : E) → HasNumberAt K.opening.base K.log m e → m ≤ n → is_claimed (group.tx e).queue m K.claims ≡ true) → n ≤ front (Rule.core_of values group K)
  front_claimed n K ok low each =
      let long = length_history values group K.opening.base K.log in
      part_covers K.opening.base n (Rule.core_of values group K).done (Rule.history_of values group K) ok.log.numbers (omega arith) (λ t ts at below.
      let found = entry_at K.opening.base K.log t ts at in
      subst (λ q. is_claimed q t.number K.claims ≡ true) found.2 (each t.number found.0 found.1 below))
