-- Why a drain beside the calls was answered so, and what it leaves of who made it.
use Rattle.std.proofs.Common.{◌≡◌, ℕ, List, [], sym, refl, ap, subst, ◌∙◌, arith}
use Rattle.std.specs.Prelude.{Option, Some, None, Result, Ok, Err, OnOk, IfErr}
use Rattle.std.proofs.lemmas.Option.{same_Some}
use Rattle.mq_blocks.specs.Drive.{PortState}
use Rattle.mq_blocks.specs.declared.geometry.Geometry.{Geometry}
use Rattle.mq_drive.specs.Steps.{PortFault}
use Rattle.mq_drive.specs.declared.port.Port.{Ghosts}
use Rattle.mq_desk_laws.specs.Groups.{GroupView}
use Rattle.mq_journal.specs.Draining.{RefusesDrain}
use Rattle.mq_journal.specs.Numbers.{Seat}
use Rattle.mq_journal.specs.Settling.{WasSettled}
use Rattle.mq_journal.specs.Sweeping.{HasSwept}
use Rattle.mq_pages.specs.Held.{HeldCells}
use Rattle.mq_queue_side.specs.Drained.{DrainCause, Drains, Failures, kept_after}
use Rattle.mq_queue_side.specs.Side.{SideState, side_state}
use Rattle.mq_queue_side.specs.declared.answers.Cause.{Cause}
use Rattle.mq_queue_side.specs.declared.answers.Cause.TheVariants as cause
use Rattle.mq_queue_side.specs.declared.answers.Why.{Why}
use Rattle.mq_sessions.specs.Acts.{GoesOn}
use Rattle.mq_sessions.specs.Calls.{IsReady}
use Rattle.mq_sessions.specs.Settling.{HasSettled, IsCausedBy, OnlyReads}
use Rattle.mq_sessions.proofs.Attempts.{goes-swept}

-- ---- the causes of an answer

-- a drain by which no failure was taken leaves what the side had kept
kept-same : (kept now : Option (ℕ × Why)) (failures : Failures) → failures ≡ [] → now ≡ kept_after kept failures → now ≡ kept
kept-same kept now failures none is = is ∙ ap (kept_after kept) none

some-not-none : {A : Type 0} (x : Option A) (y : A) → x ≡ Some y → x ≡ None → ⊥
some-not-none x y some none = let e : None ≡ Some y = sym none ∙ some in absurd (cc)

stopped-same : (a b : ℕ) (v w : Why) → ◌≡◌ {A = Option (ℕ × Why)} (Some (a, v)) (Some (b, w)) → ◌≡◌ {A = Result ℕ Cause} (Err (cause.Stopped a v)) (Err (cause.Stopped b w))
stopped-same a b v w e =
    let same : ◌≡◌ {A = ℕ × Why} (a, v) (b, w) = same_Some _ _ e in
    ap (λ (k : ℕ × Why). Err (cause.Stopped k.0 k.1)) same

stopped-kept : (a b : ℕ) (v w : Why) → ◌≡◌ {A = Result ℕ Cause} (Err (cause.Stopped a v)) (Err (cause.Stopped b w)) → ◌≡◌ {A = Option (ℕ × Why)} (Some (a, v)) (Some (b, w))
stopped-kept a b v w e =
    let at : a ≡ b = cc in
    let why : v ≡ w = cc in
    subst (λ (k : ℕ). ◌≡◌ {A = Option (ℕ × Why)} (Some (a, v)) (Some (k, w))) at (subst (λ (y : Why). ◌≡◌ {A = Option (ℕ × Why)} (Some (a, v)) (Some (a, y))) why refl)

pub caused-by : (answer : Result ℕ Cause) (old new : SideState) → Drains old answer new → DrainCause answer old.faults new.faults → IsCausedBy old.kept old.faults new.faults answer
caused-by (Ok n) old new d c =
    let kept : new.kept ≡ old.kept = kept-same old.kept new.kept d.failures d.ends.0 d.takes.kept in
    record {
      off = λ e. absurd (cc);
      failed = λ tx status e. absurd (cc);
      stopped = λ tx why e. absurd (cc);
      stops = λ tx why some calm. absurd (some-not-none new.kept (tx, why) (kept ∙ some) d.ends.1);
      not_home = λ block status e. absurd (cc);
    }
caused-by (Err cause.Off) old new d c = record {
  off = λ e. c;
  failed = λ tx status e. absurd (cc);
  stopped = λ tx why e. absurd (cc);
  stops = λ tx why some calm. absurd (calm c);
  not_home = λ block status e. absurd (cc);
}
caused-by (Err (cause.Failed tx status)) old new d c = record {
  off = λ e. absurd (cc);
  failed = λ tx status e. c;
  stopped = λ tx why e. absurd (cc);
  stops = λ tx why some calm. absurd (calm c);
  not_home = λ block status e. absurd (cc);
}
caused-by (Err (cause.Stopped at w)) old new d c =
    let kept : old.kept ≡ Some (at, w) = sym (kept-same old.kept new.kept d.failures d.ends.0 d.takes.kept) ∙ d.ends.1 in
    record {
      off = λ e. absurd (cc);
      failed = λ tx status e. absurd (cc);
      stopped = λ tx why e. (kept ∙ stopped-kept at tx w why e, c);
      stops = λ tx why some calm. stopped-same at tx w why (sym kept ∙ some);
      not_home = λ block status e. absurd (cc);
    }
caused-by (Err (cause.FailedHome block status)) old new d c = absurd c

module _ {P E : Type 0} {G : Ghosts P} (state : P → PortState) (faults : P → List PortFault) (group : GroupView E) where
  pub has-settled : (q : ℕ) (answer : Result ℕ Cause) (v w : Seat P E G) → WasSettled state faults group q v w answer → HasSettled state faults group q v w answer
  has-settled q answer v w was = record {
    was = was;
    caused = caused-by answer (side_state state faults was.side) (side_state state faults was.after) was.drains was.cause;
  }

  -- ---- the session or the helper after it

  refused-read : (q : ℕ) (c : Cause) (v w : Seat P E G) → RefusesDrain q c v w → OnlyReads v w
  refused-read q c v w is = subst (λ (x : Seat P E G). x ≡ record v { hand = 0; reading = x.reading }) (sym is) refl

  pub only-read : (q : ℕ) (r : Result ℕ Cause) (v w : Seat P E G) → OnOk r (HasSwept state faults group v w) → IfErr r (λ c. RefusesDrain q c v w) → OnlyReads v w
  only-read q (Ok n) v w swept refused = swept.is
  only-read q (Err c) v w swept refused = refused-read q c v w refused

  refused-goes : (q : ℕ) (c : Cause) (v w : Seat P E G) → RefusesDrain q c v w → GoesOn v w
  refused-goes q c v w is = record {
    seen = (let e : w.seen ≡ v.seen = ap (λ (x : Seat P E G). x.seen) is in omega arith);
    done = (let e : w.reading.done ≡ v.reading.done = ap (λ (x : Seat P E G). x.reading.done) is in omega arith);
  }

  pub goes-settled : (q : ℕ) (r : Result ℕ Cause) (v w : Seat P E G) → OnOk r (HasSwept state faults group v w) → IfErr r (λ c. RefusesDrain q c v w) → GoesOn v w
  goes-settled q (Ok n) v w swept refused = goes-swept state faults group v w swept
  goes-settled q (Err c) v w swept refused = refused-goes q c v w refused

  pub still-ready : (g : Geometry) (q n : ℕ) (cells : HeldCells) (v w : Seat P E G) → OnlyReads v w → IsReady group g q n cells v → IsReady group g q n cells w
  still-ready g q n cells v w is ready = subst (λ (x : Seat P E G). IsReady group g q n cells x) (sym is) (record {
    queue = ready.queue;
    own = ready.own;
    idle = ready.idle;
    called = record { drawn = ready.called.drawn; read = ready.called.read; few = ready.called.few };
    none = ready.none;
    room = ready.room;
  })
