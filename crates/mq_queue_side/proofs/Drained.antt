-- A drain: commands end, and then the head moves on.
use Rattle.std.proofs.Common.{◌≡◌, ◌≢◌, ◌⊎◌, ℕ, ◌≤◌, eqb, Bool, true, false, List, [], ◌∷◌, Option, Some, None, sym, refl, ap, subst, ◌∙◌, inl, inr, arith, ⊎_elim}
use Rattle.std.specs.Prelude.{◌&&◌, Result, Ok, Err, OnOk}
use Rattle.std.proofs.lemmas.Bool.{cases_lt, le-leb, lt-leb}
use Rattle.mq_blocks.specs.Drive.{PortState, IsBoundKept, AreFrom, after_flush, after_store_head}
use Rattle.mq_blocks.specs.declared.command.Command.{Command}
use Rattle.mq_drive.specs.Steps.{PortFault, Gains, PowerOff}
use Rattle.mq_drive.specs.declared.port.Off.{Off as PowerCut}
use Rattle.mq_pmr.specs.Queue.{Fits, Kept, after_head}
use Rattle.mq_pmr.specs.Rungs.{AreEnds, are_from, is_clear, last_end, last_leading, left_after}
use Rattle.mq_pmr.specs.declared.rungs.Rung.{Rung}
use Rattle.mq_pmr.proofs.QueueFitting.{posted_from, failed_from}
use Rattle.mq_queue_side.specs.Counts.{KeepsCount}
use Rattle.mq_queue_side.specs.Drained.{Failures, kept_with, kept_after, AreGained, numbers_of, Takes, HasTaken, Completes, Advances, IsDrained, DrainsTo, Drains, IsWhole, Rises, DrainCause, answer_of}
use Rattle.mq_queue_side.specs.Side.{SideState, IsQueueSide}
use Rattle.mq_queue_side.specs.Staying.{Stays}
use Rattle.mq_queue_side.specs.declared.answers.Cause.{Cause}
use Rattle.mq_queue_side.specs.declared.answers.Cause.TheVariants as cause
use Rattle.mq_queue_side.specs.declared.answers.Why.{Why}
use Rattle.mq_queue_side.specs.declared.answers.Why.TheVariants.{Status, Off}
use Rattle.mq_queue_side.proofs.DrainedCompletes.{bound_now, bound_then, gains_rises, gained_rises, gained_then}
use Rattle.mq_queue_side.proofs.CountsSides.{head_counts, cut_head_counts}
use Rattle.mq_queue_side.proofs.SideHeads.{HeadMoves, Rings, advanced, stored, passed, head_at, same_head}
use Rattle.mq_queue_side.proofs.SideRungs.{leading_all}
use Rattle.mq_queue_side.proofs.SideSends.{none_kept}

-- the failure is that of a command
abbrev IsStatus : Option (ℕ × Why) → Type 0
IsStatus None = ⊥
IsStatus (Some (n, Off)) = ⊥
IsStatus (Some (n, Status s)) = Unit {0}

-- ---- the ring's own records

from_along : (cs ds : List Command) (r t : Rung) → cs ≡ ds → r ≡ t → AreFrom r.end cs → AreFrom t.end ds
from_along cs ds r t e f from = rw (← e, ← f) from

pub stored_low : (s : SideState) (a : Kept) → Fits s.port a → a.done ≡ s.passed → s.port.stored_head ≤ s.passed.end
stored_low s a f is = (let x = f.stored_head in let y = f.stored in let e : a.done.end ≡ s.passed.end = ap (λ (r : Rung). r.end) is in omega (arith, x, y, e))

pub rings_of : (old new : SideState) (a b : Kept) → Fits old.port a → Fits new.port b → a.done ≡ old.passed → b.done ≡ new.passed → AreEnds old.passed.end old.port.doorbell old.rung → new.port.posted ≡ old.port.posted → new.port.failed ≡ old.port.failed → Rings old new
rings_of old new a b f g is then ends posted failed = record {
  stored = stored_low old a f is;
  ends = ends;
  posted = from_along new.port.posted old.port.posted b.done new.passed posted then (posted_from new.port b g);
  failed = from_along new.port.failed old.port.failed b.done new.passed failed then (failed_from new.port b g);
}

-- ---- the head moved on

pub head_posted : (p : PortState) (h : ℕ) → (after_head p h).posted ≡ p.posted
head_posted p h = same_head (eqb p.head h) p (after_flush (after_store_head p h)) (λ t. t.posted ≡ p.posted) refl refl

pub head_failed : (p : PortState) (h : ℕ) → (after_head p h).failed ≡ p.failed
head_failed p h = same_head (eqb p.head h) p (after_flush (after_store_head p h)) (λ t. t.failed ≡ p.failed) refl refl

pub head_bell : (p : PortState) (h : ℕ) → (after_head p h).doorbell ≡ p.doorbell
head_bell p h = same_head (eqb p.head h) p (after_flush (after_store_head p h)) (λ t. t.doorbell ≡ p.doorbell) refl refl

pub head_rings : (p : PortState) (h : ℕ) → (after_head p h).rings ≡ p.rings
head_rings p h = same_head (eqb p.head h) p (after_flush (after_store_head p h)) (λ t. t.rings ≡ p.rings) refl refl

pub head_bound : (p : PortState) (h : ℕ) → IsBoundKept p (after_head p h)
head_bound p h = same_head (eqb p.head h) p (after_flush (after_store_head p h)) (IsBoundKept p) (bound_now p) (record { fuse = refl; fail = refl })

-- ---- the head moves on

-- the new head is not stored, or it is stored and not flushed
abbrev pub IsHeadCut : PortState → ℕ → PortState → Type 0
IsHeadCut old h new = (new ≡ old) ⊎ (new ≡ after_store_head old h)

module _ (old new : SideState) (a : HeadMoves old new new.passed.end) (r : Rings old new) where
  pub stays_advanced : new.port ≡ after_head old.port new.passed.end → new.done ≡ new.passed.tx → Stays old new
  stays_advanced is done q k us log s = advanced k q us old new log s a r is done

  pub stays_cut : IsHeadCut old.port new.passed.end new.port → new.done ≡ old.done → Stays old new
  stays_cut (inl is) done q k us log s = passed k q us old new log s a r is done
  stays_cut (inr is) done q k us log s = stored k q us old new log s a r is done

  pub counts_advanced : new.faults ≡ old.faults → new.port ≡ after_head old.port new.passed.end → KeepsCount old new
  counts_advanced faults is first q k us log s n = head_counts first k q us old new a r s.side.order.stored n faults is

  pub counts_cut : Rises old.faults new.faults → IsHeadCut old.port new.passed.end new.port → KeepsCount old new
  counts_cut rises is first q k us log s n = cut_head_counts first k q us old new a r s.side.order.stored n rises is

  pub advances : {A : Type 0} (x : A) → new.port ≡ after_head old.port new.passed.end → new.done ≡ new.passed.tx → new.faults ≡ old.faults → Advances old (Ok x) new
  advances x is done faults =
      let h : ℕ = new.passed.end in
      record {
        ends = (a.passed, a.rung, ap (λ (p : PortState). p.head) is ∙ head_at old.port h, done, faults);
        geometry = a.geometry;
        queue = a.queue;
        posted = ap (λ (p : PortState). p.posted) is ∙ head_posted old.port h;
        failed = ap (λ (p : PortState). p.failed) is ∙ head_failed old.port h;
        kept = a.kept;
        doorbell = ap (λ (p : PortState). p.doorbell) is ∙ head_bell old.port h;
        rings = ap (λ (p : PortState). p.rings) is ∙ head_rings old.port h;
        bound = subst (IsBoundKept old.port) (sym is) (head_bound old.port h);
      }

  pub advances_cut : {A : Type 0} (off : PowerCut) → IsHeadCut old.port new.passed.end new.port → new.done ≡ old.done → Gains PowerOff old.faults new.faults → Advances {A = A} old (Err off) new
  advances_cut off is done gains = record {
    ends = (done, gains);
    geometry = a.geometry;
    queue = a.queue;
    posted = ⊎_elim (λ e. ap (λ (p : PortState). p.posted) e) (λ e. ap (λ (p : PortState). p.posted) e) is;
    failed = ⊎_elim (λ e. ap (λ (p : PortState). p.failed) e) (λ e. ap (λ (p : PortState). p.failed) e) is;
    kept = a.kept;
    doorbell = ⊎_elim (λ e. ap (λ (p : PortState). p.doorbell) e) (λ e. ap (λ (p : PortState). p.doorbell) e) is;
    rings = ⊎_elim (λ e. ap (λ (p : PortState). p.rings) e) (λ e. ap (λ (p : PortState). p.rings) e) is;
    bound = ⊎_elim (λ e. subst (IsBoundKept old.port) (sym e) (bound_now old.port)) (λ e. subst (IsBoundKept old.port) (sym e) (record { fuse = refl; fail = refl })) is;
  }

-- ---- the whole drain

some_taken : (kept : Option (ℕ × Why)) (tx status : ℕ) → IsStatus (kept_with kept tx status)
some_taken None tx status = tt
some_taken (Some (n, Off)) tx status = tt
some_taken (Some (n, Status s)) tx status = elim (cases_lt tx n) [
  | inl less ↦ rw (lt-leb n tx less) tt
  | inr more ↦ rw (le-leb n tx more) tt
]

still_status : (kept : Option (ℕ × Why)) (fs : Failures) → IsStatus kept → IsStatus (kept_after kept fs)
still_status kept [] is = is
still_status kept (f ∷ fs) is = still_status (kept_with kept f.0 f.1) fs (some_taken kept f.0 f.1)

status_taken : (kept : Option (ℕ × Why)) (fs : Failures) → fs ≢ [] → IsStatus (kept_after kept fs)
status_taken kept [] some = absurd (some refl)
status_taken kept (f ∷ fs) some = still_status (kept_with kept f.0 f.1) fs (some_taken kept f.0 f.1)

module _ {A : Type 0} (old mid new : SideState) (failed : Bool) (u : A) (c : Completes old (Ok failed) mid) (a : Advances mid (Ok u) new) where
  takes : Takes old c.failures c.faults new
  takes = record {
    failed = ap numbers_of a.failed ∙ c.takes.failed;
    gained = c.takes.gained;
    kept = a.kept ∙ c.takes.kept;
  }

  faults_are : new.faults ≡ c.faults
  faults_are = a.ends.4 ∙ c.ends.1

  clear_is : is_clear mid.port ≡ is_clear new.port
  clear_is = λ i. λ h. are_from h (sym a.posted i) && are_from h (sym a.failed i)

  drained : IsDrained old new
  drained = record {
    posted = a.posted ∙ c.ends.0;
    passed = a.ends.0 ∙ (λ i. last_leading (clear_is i) (c.same.passed i) (c.same.rung i));
    rung = a.ends.1 ∙ (λ i. left_after (clear_is i) (c.same.rung i));
    head = a.ends.2;
    done = a.ends.3;
  }

  drains_with : (r : Result ℕ Cause) → DrainsTo old c.failures c.faults r new → Drains old r new
  drains_with r ends = record {
    failures = c.failures;
    faults = c.faults;
    takes = takes;
    ends = ends;
    geometry = a.geometry ∙ c.same.geometry;
    queue = a.queue ∙ c.same.queue;
    doorbell = a.doorbell ∙ c.same.doorbell;
    rings = a.rings ∙ c.same.rings;
    bound = bound_then old.port mid.port new.port c.same.bound a.bound;
  }

  -- none was taken where nothing is kept
  none_taken : (fs : Failures) (b : Bool) → HasTaken fs b → kept_after old.kept fs ≡ None → fs ≡ []
  none_taken fs false taken none = taken
  none_taken fs true taken none = absurd (subst IsStatus none (status_taken old.kept fs taken))

  ends_kept : (b : Bool) → HasTaken c.failures b → (kept : Option (ℕ × Why)) → new.kept ≡ kept → DrainsTo old c.failures c.faults (answer_of b new.done kept) new
  ends_kept b taken None is = (none_taken c.failures b taken (sym takes.kept ∙ is), is, refl, faults_are, drained)
  ends_kept true taken (Some (tx, Status s)) is = (taken, is, faults_are, drained)
  ends_kept true taken (Some (tx, Off)) is = absurd (subst IsStatus (sym takes.kept ∙ is) (status_taken old.kept c.failures taken))
  ends_kept false taken (Some (tx, w)) is = (taken, is, faults_are, drained)

  pub drains : Drains old (answer_of failed new.done new.kept) new
  drains = drains_with (answer_of failed new.done new.kept) (ends_kept failed c.ends.2 new.kept refl)

  cause_kept : (b : Bool) → HasTaken c.failures b → (kept : Option (ℕ × Why)) → new.kept ≡ kept → DrainCause (answer_of b new.done kept) old.faults new.faults
  cause_kept b taken None is = same_faults c.failures (none_taken c.failures b taken (sym takes.kept ∙ is)) c.takes.gained
    where
      same_faults : (fs : Failures) → fs ≡ [] → AreGained fs old.faults c.faults → new.faults ≡ old.faults
      same_faults fs none gained = faults_are ∙ subst (λ (x : Failures). AreGained x old.faults c.faults) none gained
  cause_kept true taken (Some (tx, Status s)) is = subst (λ (fs : List PortFault). Rises old.faults fs) (sym faults_are) (gained_rises c.failures old.faults c.faults taken c.takes.gained)
  cause_kept true taken (Some (tx, Off)) is = absurd (subst IsStatus (sym takes.kept ∙ is) (status_taken old.kept c.failures taken))
  cause_kept false taken (Some (tx, w)) is = faults_are ∙ subst (λ (x : Failures). AreGained x old.faults c.faults) taken c.takes.gained

  pub drain_cause : DrainCause (answer_of failed new.done new.kept) old.faults new.faults
  drain_cause = cause_kept failed c.ends.2 new.kept refl

  -- where nothing is kept, all that was rung is passed
  all_passed : new.kept ≡ None → Stays old mid → IsWhole old new
  all_passed none stays q k us log s =
      let m : IsQueueSide k q us mid = stays q k us log s in
      let quiet = none_kept (k.from q) us mid.port.failed mid.port.pending mid.port.doorbell mid.kept (sym a.kept ∙ none) m.kept in
      let clear : (h : ℕ) → is_clear mid.port h ≡ true = λ h. λ i. are_from h (c.ends.0 i) && are_from h (quiet.0 i) in
      let end : new.passed.end ≡ last_end mid.passed.end mid.rung = ap (λ (d : Rung). d.end) a.ends.0 ∙ leading_all (is_clear mid.port) mid.passed mid.rung clear in
      a.ends.2 ∙ end ∙ m.last ∙ sym a.doorbell

  whole_kept : (kept : Option (ℕ × Why)) → new.kept ≡ kept → Stays old mid → OnOk (answer_of failed new.done kept) (IsWhole old new)
  whole_kept None is stays = all_passed is stays
  whole_kept (Some w) is stays = tt

  pub drain_whole : Stays old mid → OnOk (answer_of failed new.done new.kept) (IsWhole old new)
  drain_whole stays = whole_kept new.kept refl stays

-- a completion that was cut
pub cut_drain : (old new : SideState) (off : PowerCut) → Completes old (Err off) new → Drains old (Err cause.Off) new
cut_drain old new off c = record {
  failures = c.failures;
  faults = c.faults;
  takes = c.takes;
  ends = (c.ends, c.same.done);
  geometry = c.same.geometry;
  queue = c.same.queue;
  doorbell = c.same.doorbell;
  rings = c.same.rings;
  bound = c.same.bound;
}

pub cut_cause : (old new : SideState) (off : PowerCut) → Completes old (Err off) new → Rises old.faults new.faults
cut_cause old new off c = gained_then c.failures old.faults c.faults new.faults c.takes.gained (gains_rises PowerOff c.faults new.faults c.ends)

-- and a store or a flush of the head that was cut
module _ {A : Type 0} (old mid new : SideState) (failed : Bool) (off : PowerCut) (c : Completes old (Ok failed) mid) (a : Advances {A = A} mid (Err off) new) where
  gains_off : Gains PowerOff c.faults new.faults
  gains_off = subst (λ (fs : List PortFault). Gains PowerOff fs new.faults) c.ends.1 a.ends.1

  pub cut_head : Drains old (Err cause.Off) new
  cut_head = record {
    failures = c.failures;
    faults = c.faults;
    takes = record { failed = ap numbers_of a.failed ∙ c.takes.failed; gained = c.takes.gained; kept = a.kept ∙ c.takes.kept };
    ends = (gains_off, a.ends.0 ∙ c.same.done);
    geometry = a.geometry ∙ c.same.geometry;
    queue = a.queue ∙ c.same.queue;
    doorbell = a.doorbell ∙ c.same.doorbell;
    rings = a.rings ∙ c.same.rings;
    bound = bound_then old.port mid.port new.port c.same.bound a.bound;
  }

  pub cut_head_cause : Rises old.faults new.faults
  cut_head_cause = gained_then c.failures old.faults c.faults new.faults c.takes.gained (gains_rises PowerOff c.faults new.faults gains_off)
