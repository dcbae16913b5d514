-- A checkpoint that a session makes, between two calls or within one.
use Rattle.std.proofs.Common.{◌≡◌, ℕ, ◌<◌, Bool, List, [], Option, sym, subst, ◌∙◌, arith, inl, inr}
use Rattle.std.specs.Prelude.{Result, Ok, Err, IfOk, IfErr, Some, None}
use Rattle.std.proofs.lemmas.Option.{same_Some}
use Rattle.mq_blocks.specs.Drive.{PortState}
use Rattle.mq_blocks.specs.declared.geometry.Geometry.{Geometry}
use Rattle.mq_journal.specs.Raised.{HasRefused, Raises}
use Rattle.mq_journal.specs.Steps.{MovesOn}
use Rattle.mq_journal.specs.declared.refusal.CheckpointRefusal.{CheckpointRefusal}
use Rattle.mq_journal.specs.declared.refusal.CheckpointRefusal.TheVariants as checkpoint
use Rattle.mq_desk_laws.specs.Groups.{GroupView}
use Rattle.mq_drive.specs.Steps.{PortFault}
use Rattle.mq_drive.specs.declared.port.Port.{Ghosts}
use Rattle.mq_journal.specs.Numbers.{Seat}
use Rattle.mq_pages.specs.Held.{HeldCells}
use Rattle.mq_queue_side.specs.declared.answers.Cause.TheVariants as cause
use Rattle.mq_turns.specs.Lists.{times}
use Rattle.mq_turns.specs.declared.rule.MarkAnswer.{MarkAnswer}
use Rattle.mq_turns.specs.declared.rule.Charge.{Charge}
use Rattle.mq_turns.proofs.Lists.{times_none}
use Rattle.mq_sessions.specs.Acts.{GoesOn, WaitsForNone}
use Rattle.mq_sessions.specs.Attempts.{Acts, Begins, HasActed, HasNotWaited, IsAreaFull, again, at_once}
use Rattle.mq_sessions.specs.Calling.{HasLeft, refusal_of}
use Rattle.mq_sessions.specs.Calls.{Call, IsReady}
use Rattle.mq_sessions.specs.Committing.{IsMissed}
use Rattle.mq_sessions.specs.Executors.{CallView}
use Rattle.mq_sessions.specs.Refusing.{IsRefused, IsTurnedDown, before, cut, memory, too_large, turned_down}
use Rattle.mq_sessions.specs.declared.answers.Refusal.{Refusal}
use Rattle.mq_sessions.specs.declared.answers.RefusalCause.{RefusalCause}
use Rattle.mq_sessions.specs.declared.answers.RefusalCause.TheVariants as refused
use Rattle.mq_sessions.specs.declared.committing.Miss.{Miss}
use Rattle.mq_sessions.specs.declared.committing.Miss.TheVariants as miss
use Rattle.mq_sessions.proofs.SessionsCalled.{called-kept, ready-kept, ready-left}

module _ {P E : Type 0} {G : Ghosts P} where
  goes-moved : {reports : List Charge} {fronts : List MarkAnswer} (v w : Seat P E G) → MovesOn reports fronts v w → GoesOn v w
  goes-moved v w m = record { seen = m.seen; done = m.done }

module _ {P E : Type 0} {G : Ghosts P} (state : P → PortState) (faults : P → List PortFault) (group : GroupView E) where
  -- ---- what a checkpoint leaves

  ready-moved : {reports : List Charge} {fronts : List MarkAnswer} (g : Geometry) (q n : ℕ) (cells : HeldCells) (v w : Seat P E G) → MovesOn reports fronts v w → w.held ≡ [] → IsReady group g q n cells v → IsReady group g q n cells w
  ready-moved g q n cells v w m idle ready = ready-kept group g q n cells v w m.session m.drawn m.read idle ready

  ready-raised : (g : Geometry) (q n : ℕ) (cells : HeldCells) (base : ℕ) (v w : Seat P E G) → Raises state faults group base v w → IsReady group g q n cells v → IsReady group g q n cells w
  ready-raised g q n cells base v w r ready = ready-kept group g q n cells v w r.session r.drawn r.read_before (r.held ∙ ready.idle) ready

  -- also with the cells that a later value has
  pub ready-between : (g : Geometry) (q n : ℕ) (base : ℕ) (first mid : HeldCells) (v m : Seat P E G) → mid ≡ first → Raises state faults group base v m → IsReady group g q n first v → IsReady group g q n mid m
  ready-between g q n base first mid v m same raises ready = subst (λ (x : HeldCells). IsReady group g q n x m) (sym same) (ready-raised g q n first base v m raises ready)

  goes-raised : (base : ℕ) (v w : Seat P E G) → Raises state faults group base v w → GoesOn v w
  goes-raised base v w r = record { seen = r.later; done = r.done }

  ready-unraised : (g : Geometry) (q n : ℕ) (cells : HeldCells) (why : CheckpointRefusal) (v w : Seat P E G) → HasRefused state faults group why v w → w.held ≡ [] → IsReady group g q n cells v → IsReady group g q n cells w
  ready-unraised g q n cells checkpoint.OutOfMemory v w (inl r) idle ready = ready-moved g q n cells v w r idle ready
  ready-unraised g q n cells checkpoint.OutOfMemory v w (inr r) idle ready = ready-moved g q n cells v w r.1 idle ready
  ready-unraised g q n cells (checkpoint.Drive c) v w (inl r) idle ready = ready-moved g q n cells v w r.moves idle ready
  ready-unraised g q n cells (checkpoint.Drive c) v w (inr r) idle ready = ready-moved g q n cells v w r.1.moves idle ready

  goes-unraised : (why : CheckpointRefusal) (v w : Seat P E G) → HasRefused state faults group why v w → GoesOn v w
  goes-unraised checkpoint.OutOfMemory v w (inl r) = goes-moved v w r
  goes-unraised checkpoint.OutOfMemory v w (inr r) = goes-moved v w r.1
  goes-unraised (checkpoint.Drive c) v w (inl r) = goes-moved v w r.moves
  goes-unraised (checkpoint.Drive c) v w (inr r) = goes-moved v w r.1.moves

  -- whatever it came to
  pub ready-either : (g : Geometry) (q n : ℕ) (cells : HeldCells) (r : Result ℕ CheckpointRefusal) (v w : Seat P E G) → IfOk r (λ base. Raises state faults group base v w) → IfErr r (λ why. HasRefused state faults group why v w) → w.held ≡ [] → IsReady group g q n cells v → IsReady group g q n cells w
  ready-either g q n cells (Ok base) v w raised refused idle ready = ready-raised g q n cells base v w raised ready
  ready-either g q n cells (Err why) v w raised refused idle ready = ready-unraised g q n cells why v w refused idle ready

  pub goes-either : (r : Result ℕ CheckpointRefusal) (v w : Seat P E G) → IfOk r (λ base. Raises state faults group base v w) → IfErr r (λ why. HasRefused state faults group why v w) → GoesOn v w
  goes-either (Ok base) v w raised refused = goes-raised base v w raised
  goes-either (Err why) v w raised refused = goes-unraised why v w refused

module _ {P E Req Rep D : Type 0} {G : Ghosts P} (state : P → PortState) (faults : P → List PortFault) (group : GroupView E) (calls : CallView E Req Rep D) where
  -- ---- why an attempt missed

  turned-as : (g : Geometry) (c : Call Req) (v w : Seat P E G) (r s : Refusal) → Some s ≡ Some r → IsTurnedDown state faults group calls g c v w s.cause s.drawn → IsTurnedDown state faults group calls g c v w r.cause r.drawn
  turned-as g c v w r s is turned = subst (λ (x : Refusal). IsTurnedDown state faults group calls g c v w x.cause x.drawn) (same_Some s r is) turned

  pub turned-of : (g : Geometry) (c : Call Req) (x : Miss) (r : Refusal) (v w : Seat P E G) → refusal_of x ≡ Some r → IsMissed state faults group calls g c v w x → IsTurnedDown state faults group calls g c v w r.cause r.drawn
  turned-of g c miss.AreaFull r v w is missed = absurd cc
  turned-of g c miss.Memory r v w is missed = turned-as g c v w r (record { cause = refused.OutOfMemory; drawn = None }) is (memory missed)
  turned-of g c (miss.Large count limit) r v w is missed = turned-as g c v w r (record { cause = refused.TooLarge count limit; drawn = None }) is (too_large missed)
  turned-of g c (miss.Refused why) r v w is missed = turned-as g c v w r (record { cause = refused.Drive why; drawn = None }) is (before missed)
  turned-of g c (miss.Cut at) r v w is missed = turned-as g c v w r (record { cause = refused.Drive cause.Off; drawn = Some at }) is (cut missed)

  pub full-of : (g : Geometry) (c : Call Req) (x : Miss) (v w : Seat P E G) → refusal_of x ≡ None → IsMissed state faults group calls g c v w x → IsAreaFull state faults group calls g c v w
  full-of g c miss.AreaFull v w is missed = missed
  full-of g c miss.Memory v w is missed = absurd cc
  full-of g c (miss.Large count limit) v w is missed = absurd cc
  full-of g c (miss.Refused why) v w is missed = absurd cc
  full-of g c (miss.Cut at) v w is missed = absurd cc

  -- ---- a plan that did not fit

  -- the session may be asked the same call again
  pub ready-full : (g : Geometry) (c : Call Req) (old new : HeldCells) (v w : Seat P E G) → IsReady group g c.session c.count old v → HasLeft old new v w → IsAreaFull state faults group calls g c v w → IsReady group g c.session c.count new w
  ready-full g c old new v w ready left full = ready-left group g c.session c.count c.count old new v w ready left (called-kept group c.count v w full.keeps.rests.drawn full.keeps.rests.read ready.called)

  -- ---- a call that was run once

  pub acted-at-once : (g : Geometry) (c : Call Req) (at : ℕ) (drew : Bool) (replies : List Rep) (v w : Seat P E G) → Acts calls g c at drew replies v w → HasActed state faults group calls g c at drew replies v w
  acted-at-once g c at drew replies v w acts = record { from = v; begins = at_once; acts = acts }

  pub waits-at-once : (g : Geometry) (c : Call Req) (at : ℕ) (drew : Bool) (v w : Seat P E G) → WaitsForNone c.session at drew v w → HasNotWaited state faults group calls g c at drew v w
  waits-at-once g c at drew v w waits = record { from = v; begins = at_once; waits = waits }

  pub refused-at-once : (g : Geometry) (c : Call Req) (why : RefusalCause) (drawn : Option ℕ) (v w : Seat P E G) → IsTurnedDown state faults group calls g c v w why drawn → IsRefused state faults group calls g c v w why drawn
  refused-at-once g c why drawn v w turned = turned_down at_once turned

  -- ---- a call that was run once more after a checkpoint

  begins-again : (g : Geometry) (c : Call Req) (base : ℕ) (first v m : Seat P E G) → IsAreaFull state faults group calls g c first v → Raises state faults group base v m → Begins state faults group calls g c first m
  begins-again g c base first v m full raises = again (record { between = v; full = full; base = base; raises = raises })

  pub acted-again : (g : Geometry) (c : Call Req) (at : ℕ) (drew : Bool) (replies : List Rep) (base : ℕ) (first v m w : Seat P E G) → IsAreaFull state faults group calls g c first v → Raises state faults group base v m → Acts calls g c at drew replies m w → HasActed state faults group calls g c at drew replies first w
  acted-again g c at drew replies base first v m w full raises acts = record { from = m; begins = begins-again g c base first v m full raises; acts = acts }

  pub waits-again : (g : Geometry) (c : Call Req) (at : ℕ) (drew : Bool) (base : ℕ) (first v m w : Seat P E G) → IsAreaFull state faults group calls g c first v → Raises state faults group base v m → WaitsForNone c.session at drew m w → HasNotWaited state faults group calls g c at drew first w
  waits-again g c at drew base first v m w full raises waits = record { from = m; begins = begins-again g c base first v m full raises; waits = waits }

  pub refused-again : (g : Geometry) (c : Call Req) (why : RefusalCause) (drawn : Option ℕ) (base : ℕ) (first v m w : Seat P E G) → IsAreaFull state faults group calls g c first v → Raises state faults group base v m → IsTurnedDown state faults group calls g c m w why drawn → IsRefused state faults group calls g c first w why drawn
  refused-again g c why drawn base first v m w full raises turned = turned_down (begins-again g c base first v m full raises) turned

  -- each number that the session drew is then covered by the base, so its plan fits
  pub fits-then : (g : Geometry) (c : Call Req) (base : ℕ) (v m w : Seat P E G) → Raises state faults group base v m → IsAreaFull state faults group calls g c m w → ⊥
  fits-then g c base v m w raises full =
      let k = full.lacks in
      let word = raises.word in
      let later = k.later in
      let above = k.above in
      let mine : 0 < times k.number v.drawn = subst (λ (l : List (ℕ × E)). 0 < times k.number l) raises.drawn k.drew in
      let none = times_none k.number base v.drawn raises.seen.1 (omega arith) in
      absurd (omega arith)
