-- What one session hears of the others, one after another, and what its checkpoint leaves.
use Rattle.std.proofs.Common.{◌≡◌, ℕ, ◌+◌, ◌<◌, ◌≤◌, Bool, true, false, List, [], ◌∷◌, length, map, take, refl, sym, ap, ◌∙◌, subst, arith}
use Rattle.std.specs.Prelude.{None, Some, Result, Ok, Err, IfErr, IfOk, slice_get}
use Rattle.mq_blocks.specs.Drive.{PortState}
use Rattle.mq_journal.specs.Raised.{HasRefused, Raises}
use Rattle.mq_journal.specs.declared.refusal.CheckpointRefusal.{CheckpointRefusal}
use Rattle.mq_drive.specs.Steps.{PortFault}
use Rattle.mq_drive.specs.declared.port.Port.{Ghosts}
use Rattle.mq_calls.specs.Group.{file_group}
use Rattle.mq_calls.specs.declared.entry.FileEntry.{FileEntry}
use Rattle.mq_journal.specs.Numbers.{Seat}
use Rattle.mq_turns.proofs.Lists.{each_append, each_map}
use Rattle.mq_turns.specs.Desk.{Below}
use Rattle.mq_turns.specs.Lists.{Each}
use Rattle.mq_run.proofs.LinesGrowing.{take_next}
use Rattle.mq_run.specs.Ending.{Finishes, HasFinished, HasHeard, IsAskedFor}

module _ {P : Type 0} {G : Ghosts P} where
  pub below_later : (m n : ℕ) (v : Seat P FileEntry G) → m ≤ n → Below m v → Below n v
  below_later m n v le h =
      (let l = h.0 in omega arith, each_map (λ (d : ℕ × FileEntry). d.0 ≤ m) (λ (d : ℕ × FileEntry). d.0 ≤ n) (λ d q. omega arith) v.drawn h.1)

  -- one more of the others has passed on what it knows
  pub heard_next : (vs : List (Seat P FileEntry G)) (i m n : ℕ) (v : Seat P FileEntry G) → slice_get vs i ≡ Some v → m ≤ n → Each (λ w. Below m w) (take i vs) → Below n v → Each (λ w. Below n w) (take (i + 1) vs)
  heard_next vs i m n v at le h this =
      subst (λ (ws : List (Seat P FileEntry G)). Each (λ w. Below n w) ws) (sym (take_next vs i v at))
      (each_append (λ w. Below n w) (take i vs) (v ∷ []) (each_map (λ w. Below m w) (λ w. Below n w) (λ w b. below_later m n w le b) (take i vs) h) (this, tt))

  abbrev set_seen : ℕ → Seat P FileEntry G → Seat P FileEntry G
  set_seen n v = record v { seen = n }

  pub seen_is : (a b w : Seat P FileEntry G) (n : ℕ) → w ≡ record b { seen = n } → b ≡ record a { seen = b.seen } → w ≡ record a { seen = w.seen }
  seen_is a b w n is before =
      let at : n ≡ w.seen = sym (ap (λ (v : Seat P FileEntry G). v.seen) is) in
      is ∙ (ap (λ (v : Seat P FileEntry G). set_seen n v) before ∙ ap (λ (m : ℕ). set_seen m a) at)

module _ {P : Type 0} {G : Ghosts P} (state : P → PortState) (faults : P → List PortFault) {S : Type 0} (look : S → Seat P FileEntry G) where
  pub not_finished : (asked : Bool) (ss : List S) → 0 < length ss → asked ≡ false → HasFinished state faults asked None (map look ss) (map look ss)
  not_finished asked [] some not_asked = absurd (omega arith)
  not_finished asked (s ∷ ss) some not_asked = record {
    asked = subst (λ (b : Bool). IsAskedFor b None) (sym not_asked) tt;
    first = look s;
    last = look s;
    others = map look ss;
    before = refl;
    after = refl;
    finishes = refl;
  }

  by_answer : (answer : Result ℕ CheckpointRefusal) (others : List (Seat P FileEntry G)) (old between new : Seat P FileEntry G) → HasHeard others old between → IfOk answer (λ base. Raises state faults file_group base between new) → IfErr answer (λ why. HasRefused state faults file_group why between new) → Finishes state faults (Some answer) others old new
  by_answer (Ok base) others old between new heard raised refused = (between, heard, raised)
  by_answer (Err why) others old between new heard raised refused = (between, heard, refused)

  -- the first one has heard of the others, and made a checkpoint
  pub finished_by : (asked : Bool) (answer : Result ℕ CheckpointRefusal) (ss others more : List S) (first last : S) (between : Seat P FileEntry G)
      → asked ≡ true → ss ≡ first ∷ others → map look more ≡ map look others → HasHeard (map look others) (look first) between
      → IfOk answer (λ base. Raises state faults file_group base between (look last)) → IfErr answer (λ why. HasRefused state faults file_group why between (look last))
      → HasFinished state faults asked (Some answer) (map look ss) (look last ∷ map look more)
  finished_by asked answer ss others more first last between is_asked is same heard raised refused = record {
    asked = subst (λ (b : Bool). IsAskedFor b (Some answer)) (sym is_asked) tt;
    first = look first;
    last = look last;
    others = map look others;
    before = ap (map look) is;
    after = ap (λ (vs : List (Seat P FileEntry G)). look last ∷ vs) same;
    finishes = by_answer answer (map look others) (look first) between (look last) heard raised refused;
  }
