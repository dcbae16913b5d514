-- A side that was settled.
use Rattle.std.proofs.Common.{◌≡◌, ◌⊎◌, ℕ, ◌+◌, ◌-◌, ◌<◌, ◌≤◌, ◌^◌, min, Bool, true, List, [], ◌∷◌, length, sym, refl, ap, subst, ◌∙◌, inl, inr, ⊎_elim, arith}
use Rattle.std.specs.Prelude.{Ok, Err, Result, IfOk, OnOk, Some}
use Rattle.std.proofs.lemmas.Bool.{cases_eq}
use Rattle.mq_blocks.specs.Drive.{PortState}
use Rattle.mq_drive.specs.Steps.{PortFault}
use Rattle.mq_drive.specs.declared.port.Port.{Ghosts}
use Rattle.mq_ledger.specs.History.{IsAt, of_queue}
use Rattle.mq_ledger.specs.declared.tx.Tx.{Tx}
use Rattle.mq_ledger.proofs.Items.{of_queue-other, of_queue-own}
use Rattle.mq_desk_laws.specs.Groups.{GroupView}
use Rattle.mq_desk_laws.specs.Rule
use Rattle.mq_desk_laws.specs.Rule.{IsSide}
use Rattle.mq_desk_laws.specs.Values.{Values}
use Rattle.mq_queue_side.specs.Side.{IsDoneOf}
use Rattle.mq_queue_side.specs.declared.side.QueueSide.{QueueSide}
use Rattle.mq_turns.specs.Chairs.{giving, holding}
use Rattle.mq_turns.specs.Desk.{Sees, refreshed, slot_of, turn_at}
use Rattle.mq_turns.specs.Lists.{Each, without}
use Rattle.mq_turns.specs.Marks.{claim_of, queues_of, shown}
use Rattle.mq_turns.specs.Meaning.{claimed, newest}
use Rattle.mq_turns.specs.Words.{after_clear, same_turn}
use Rattle.mq_turns.specs.declared.turn.Turn.TheVariants.{Side}
use Rattle.mq_turns.proofs.DeskSeen.{opening_seen, sees_before}
use Rattle.mq_journal.specs.Draining.{IsPassed, Passes}
use Rattle.mq_journal.specs.Numbers
use Rattle.mq_journal.specs.Numbers.{Seat, Shared, Start}
use Rattle.mq_journal.specs.Settling.{Settles, ShowsDone}
use Rattle.mq_journal.proofs.DrainingRefusing.{taken_back}
use Rattle.mq_journal.proofs.NumbersMarking.{read_shown, side_alone}
use Rattle.mq_journal.specs.Sweeping.{HasSwept}

module _ {Q R E : Type 0} (values : Values Q R E) (group : GroupView E) where
  -- no transaction of a queue has a number above the newest
  own-low : (q base : ℕ) (es : List E) (t : Tx) (ts : List Tx) → IsAt t ts (of_queue q (Rule.history values group base es)) → t.number ≤ base + length es
  own-low q base [] t ts at = absurd at
  own-low q base (x ∷ xs) t ts at =
      let u : Tx = Rule.numbered (base + length xs + 1) (group.tx x) in
      elim (cases_eq u.queue q) [
        | inl own ↦
            let here : IsAt t ts (u ∷ of_queue q (Rule.history values group base xs)) = subst (λ (l : List Tx). IsAt t ts l) (of_queue-own q u (Rule.history values group base xs) own) at in
            ⊎_elim (λ e. let n : u.number ≡ t.number = ap (λ (w : Tx). w.number) e.0 in omega arith) (λ later. let low = own-low q base xs t ts later in omega arith) here
        | inr other ↦
            let low = own-low q base xs t ts (subst (λ (l : List Tx). IsAt t ts l) (of_queue-other q u (Rule.history values group base xs) other) at) in omega arith
      ]

  done-low : (q base from head n : ℕ) (es : List E) → IsDoneOf from (of_queue q (Rule.history values group base es)) head n → n ≤ base + length es
  done-low q base from head n es is = ⊎_elim (λ (zero_is : n ≡ 0). omega arith) (λ b. let low = own-low q base es b.t b.ts b.at in let e = b.number in omega arith) is

module _ {P E : Type 0} {G : Ghosts P} (state : P → PortState) (faults : P → List PortFault) (group : GroupView E) where
  pub shows-done : (q n : ℕ) (s : QueueSide P E G) (K : Shared P E G) → n ≡ s.done → IsSide (Numbers.values state faults group) group q (claimed (claim_of q (2 ^ 64 - 1) (newest K)) K) s → ShowsDone state faults group q n s K
  shows-done q n s K same is = record {
    side = is;
    drawn = let low = done-low (Numbers.values {G = G} state faults group) group q K.opening.base _ _ s.done K.log is.says.is.done in omega arith;
  }

  abbrev about : Start P E G → ℕ → ℕ → Bool
  about o q k = same_turn (Side q) (turn_at o k)

  pub settles : (o : Start P E G) (q n : ℕ) (after : QueueSide P E G) (v w new : Seat P E G) (K1 : Shared P E G) → v.opening ≡ Some o → Each (λ h. h.0 < slot_of o (Side q)) v.held → w ≡ holding (slot_of o (Side q)) K1 v → IsPassed state faults group o q (2 ^ 64 - 1) w new → ((K : Shared P E G) → Sees (Numbers.machine state faults group) w K → ShowsDone state faults group q n after K) → Settles state faults group q n after v new
  settles o q n after v w new K1 opening above held p done =
      let μ = Numbers.machine {G = G} state faults group in
      let K = p.known in
      let start : K.opening ≡ o = opening_seen μ o K w (ap (λ (z : Seat P E G). z.opening) held ∙ opening) p.sees in
      let L = claimed (claim_of q (2 ^ 64 - 1) (newest K)) K in
      let back : without (slot_of o (Side q)) (refreshed (about K.opening q) L ((slot_of o (Side q), K1) ∷ v.held)) ≡ v.held = taken_back (about K.opening q) L K1 (slot_of o (Side q)) v.held (λ k found. side_alone o q k (subst (λ z. about z q k ≡ true) start found)) above in
      record {
        known = K;
        sees = sees_before μ (slot_of o (Side q)) K1 K v (subst (λ (z : Seat P E G). Sees μ z K) held p.sees);
        shows = done K p.sees;
        is = p.is ∙ (ap (λ (z : Seat P E G). giving (slot_of o (Side q)) (after_clear q (2 ^ 64 - 1) K z)) held ∙ ap (λ l. record v { hand = 0; held = l; reading = shown (queues_of v.opening) q (min (2 ^ 64 - 1 - 1) (newest K)) v.reading }) back);
      }

module _ {P E : Type 0} {G : Ghosts P} (state : P → PortState) (faults : P → List PortFault) (group : GroupView E) where
  pub swept-by : (q n : ℕ) (after : QueueSide P E G) (v new : Seat P E G) → Settles state faults group q n after v new → HasSwept state faults group v new
  swept-by q n after v new s =
      let k : ℕ = min (2 ^ 64 - 1 - 1) (newest s.known) in
      let r = read_shown (queues_of v.opening) q k v.reading in
      let reading : new.reading ≡ shown (queues_of v.opening) q k v.reading = ap (λ (z : Seat P E G). z.reading) s.is in
      record {
        is = subst (λ (z : Seat P E G). z ≡ record v { hand = 0; reading = z.reading }) (sym s.is) refl;
        reading = record {
          done = let a = r.0 in let b = ap (λ (x : _). x.done) reading in omega arith;
          base = ap (λ x. x.base) reading ∙ r.1;
          pages = ap (λ x. x.pages) reading ∙ r.2;
          answers = ap (λ x. x.answers) reading ∙ r.3;
          charged = ap (λ x. x.charged) reading ∙ r.4;
        };
      }

pub ok-on : {T E : Type 0} (r : Result T E) {A : T → Type 0} {B : Type 0} → ((x : T) → A x → B) → IfOk r A → OnOk r B
ok-on (Ok x) f a = f x a
ok-on (Err e) f a = tt

pub ok-both : {T E : Type 0} (r : Result T E) {A B C : T → Type 0} → ((x : T) → A x → B x → C x) → IfOk r A → IfOk r B → IfOk r C
ok-both (Ok x) f a b = f x a b
ok-both (Err e) f a b = tt
