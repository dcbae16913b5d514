-- What a session does not know of its own group, from the draw to the answer.
use Rattle.std.proofs.Common.{◌≡◌, ℕ, ◌<◌, Bool, true, false, List, refl, sym, ap, subst, ◌∙◌, inl, inr, arith, Some}
use Rattle.std.proofs.lemmas.Bool.{cases_lt}
use Rattle.mq_desk_laws.specs.Groups.{GroupView}
use Rattle.mq_blocks.specs.Drive.{PortState}
use Rattle.mq_drive.specs.Steps.{PortFault}
use Rattle.mq_drive.specs.declared.port.Port.{Ghosts}
use Rattle.mq_journal.specs.Numbers.{HasNumbered, HoldsNumbered, Seat, Shared, Start}
use Rattle.mq_journal.proofs.NumbersHolding.{numbered_known}
use Rattle.mq_ledger.specs.History.{IsAt, of_queue}
use Rattle.mq_ledger.specs.Items.{total}
use Rattle.mq_ledger.specs.declared.tx.Tx.{Tx}
use Rattle.mq_ledger.proofs.HistoryQueues.{FromQueue-of}
use Rattle.mq_desk_laws.specs.Rule.{history_of}
use Rattle.mq_desk_laws.proofs.RuleSettled.{entry_at}
use Rattle.mq_queue_side.specs.Commits.{NumberedCommit}
use Rattle.mq_queue_side.specs.declared.side.QueueSide.{QueueSide}
use Rattle.mq_turns.specs.Desk.{Sees}
use Rattle.mq_turns.specs.Marks.{is_claimed}
use Rattle.mq_turns.specs.Meaning.{HasNumberAt}
use Rattle.mq_sessions.specs.Acts.{IsUnderWay, WaitsForNone}
use Rattle.mq_journal.specs.Machine.{journal}
use Rattle.mq_journal.specs.Values.{side_values}
use Rattle.mq_sessions.specs.Wanted.{IsSameSession}

module _ {P E : Type 0} {G : Ghosts P} where
  -- it stays so while the session reads no words
  pub under-after : (q at : ℕ) (v w : Seat P E G) → w.reading.done ≡ v.reading.done → w.reading.swept ≡ v.reading.swept → w.reading.low ≡ v.reading.low → IsUnderWay q at v → IsUnderWay q at w
  under-after q at v w done swept low u = record {
    undone = (let l = u.undone in omega arith);
    unswept = λ passed. (let l = u.unswept (omega arith) in omega arith);
  }

  -- what stands before the group changes nothing of it
  pub waits-same : (q at : ℕ) (drew : Bool) (v m w : Seat P E G) → IsSameSession v m → WaitsForNone q at drew m w → WaitsForNone q at drew v w
  waits-same q at true v m w same k = k
  waits-same q at false v m w same k = k ∙ ap (λ (x : Seat P E G). x.reading) same.is

module _ {P E : Type 0} {G : Ghosts P} (state : P → PortState) (faults : P → List PortFault) (group : GroupView E) where
  -- a group that is drawn and not sent, as it is known, whose number no claim of its queue reaches
  record IsUnclaimed (q : ℕ) (K : Shared P E G) (n : ℕ) : Type 0 where
    pub entry : E
    pub at : HasNumberAt K.opening.base K.log n entry
    pub own : (group.tx entry).queue ≡ q
    pub open_yet : is_claimed (group.tx entry).queue n K.claims ≡ true → ⊥

  unclaimed : (q : ℕ) (K : Shared P E G) (s : QueueSide P E G) (n : NumberedCommit) → HasNumbered state faults group q K s n → IsUnclaimed q K n.number
  unclaimed q K s n has =
      let r = has.says.ready in
      let h : List Tx = history_of (side_values {G = G} state faults) group K in
      let here : IsAt r.t r.ts (of_queue q h) = subst (λ (us : List Tx). IsAt r.t r.ts us) (sym r.newest) (inl (refl, refl)) in
      let f = FromQueue-of q r.t r.ts h here in
      let found = entry_at (side_values {G = G} state faults) group K.opening.base K.log r.t f.ts f.at in
      let number : n.number ≡ r.t.number = ap (λ (m : NumberedCommit). m.number) r.commit in
      record {
        entry = found.0;
        at = subst (λ (m : ℕ). HasNumberAt K.opening.base K.log m found.0) (sym number) found.1;
        own = found.2 ∙ f.own;
        open_yet = λ claimed.
            let mine : is_claimed r.t.queue r.t.number K.claims ≡ true = subst (λ (k : ℕ). is_claimed k r.t.number K.claims ≡ true) found.2 (subst (λ (m : ℕ). is_claimed (group.tx found.0).queue m K.claims ≡ true) number claimed) in
            let below = has.port.done r.t f.ts f.at f.own mine in
            let rest : total (of_queue q f.ts) ≡ total r.ts = ap total f.rest in
            let rung = r.rung in
            let stored = has.port.order.stored in
            let last = has.port.order.rung in
            omega arith;
      }

  -- while it holds the side on which its group is drawn
  pub under-way : (o : Start P E G) (q : ℕ) (s : QueueSide P E G) (n : NumberedCommit) (v : Seat P E G) (K : Shared P E G) → v.opening ≡ Some o → HoldsNumbered state faults group o q s n v → Sees (journal state faults group) v K → IsUnderWay q n.number v
  under-way o q s n v K opening holds sees =
      let u = unclaimed q K s n (numbered_known state faults group o q s n v opening holds K sees) in
      record {
        undone = elim (cases_lt v.reading.done n.number) [
          | inl less ↦ less
          | inr reached ↦ absurd (u.open_yet (sees.reader.done n.number u.entry u.at reached))
        ];
        unswept = λ passed. elim (cases_lt v.reading.low n.number) [
          | inl less ↦ less
          | inr reached ↦ absurd (u.open_yet (sees.reader.swept n.number u.entry u.at reached (subst (λ (k : ℕ). k < v.reading.swept) (sym u.own) passed)))
        ];
      }
