-- Completing, one command after another.
use Rattle.std.proofs.Common.{◌≡◌, ◌≢◌, ℕ, ◌+◌, ◌<◌, ◌≤◌, Bool, true, false, List, [], ◌∷◌, ◌++◌, length, map, Option, Some, sym, refl, ap, subst, ◌∙◌, inl, inr, arith, length-append, append_assoc}
use Rattle.std.specs.Prelude.{slice_get, Ok, Err}
use Rattle.std.specs.List.{remove}
use Rattle.std.proofs.lemmas.List.{map-append, append-nil}
use Rattle.std.proofs.lemmas.List.Edits.{length-remove}
use Rattle.std.proofs.lemmas.Option.{slice_get_within}
use Rattle.std.proofs.lemmas.Bool.{cases_lt}
use Rattle.mq_blocks.specs.Drive.{PortState, IsBoundKept}
use Rattle.mq_blocks.specs.declared.command.Command.{Command}
use Rattle.mq_drive.specs.Steps.{PortFault, Gains, CommandError, PowerOff}
use Rattle.mq_pmr.specs.Answers.{EndsWell, EndsBadly}
use Rattle.mq_queue_side.specs.Drained.{Failures, kept_with, kept_after, AreGained, numbers_of, Takes, HasTaken, SameEnds, Completes, Rises}
use Rattle.mq_queue_side.specs.Side.{SideState}
use Rattle.mq_queue_side.specs.declared.answers.Why.{Why}
use Rattle.mq_queue_side.proofs.SideEnds.{SameRecords}

-- ---- faults

pub gains_rises : (f : PortFault) (old new : List PortFault) → Gains f old new → Rises old new
gains_rises f old new (inl more) =
    let a : length old ≡ length more.before + length more.after = ap length more.old_is ∙ length-append more.before more.after in
    let b : length new ≡ length more.before + length (f ∷ more.after) = ap length more.new_is ∙ length-append more.before (f ∷ more.after) in
    (omega (arith, a, b), inl (omega (arith, a, b)))
gains_rises f old new (inr full) = (let e : length new ≡ length old = ap length full.1 in omega (arith, e), inr full.0)

pub rises_then : (a b c : List PortFault) → Rises a b → Rises b c → Rises a c
rises_then a b c x y = (
  omega (arith, x.0, y.0),
  elim x.1 [
    | inl less ↦ inl (omega (arith, less, y.0))
    | inr full ↦ inr full
  ],
)

-- taking failures makes no fewer faults, and some make more
pub gained_up : (fs : Failures) (old new : List PortFault) → AreGained fs old new → length old ≤ length new
gained_up [] old new same = (let e : length new ≡ length old = ap length same in omega (arith, e))
gained_up (f ∷ fs) old new (mid, gains, rest) = (let r = gains_rises (CommandError f.0 f.1) old mid gains in omega (arith, r.0, gained_up fs mid new rest))

pub gained_rises : (fs : Failures) (old new : List PortFault) → fs ≢ [] → AreGained fs old new → Rises old new
gained_rises [] old new some same = absurd (some refl)
gained_rises (f ∷ fs) old new some (mid, gains, rest) =
    let r = gains_rises (CommandError f.0 f.1) old mid gains in
    let up = gained_up fs mid new rest in (
      omega (arith, r.0, up),
      elim r.1 [
        | inl less ↦ inl (omega (arith, less, up))
        | inr full ↦ inr full
      ],
    )

-- faults after those that were taken are more than before them
pub gained_then : (fs : Failures) (old mid new : List PortFault) → AreGained fs old mid → Rises mid new → Rises old new
gained_then fs old mid new gained r =
    let up = gained_up fs old mid gained in (
      omega (arith, up, r.0),
      elim r.1 [
        | inl less ↦ inl (omega (arith, up, less))
        | inr full ↦ elim (cases_lt (length old) (length mid)) [
          | inl less ↦ inl (omega (arith, less, r.0))
          | inr more ↦ inr (omega (arith, more, full))
        ]
      ],
    )

-- ---- one more is taken

kept_more : (kept : Option (ℕ × Why)) (fs : Failures) (tx status : ℕ) → kept_after kept (fs ++ (tx, status) ∷ []) ≡ kept_with (kept_after kept fs) tx status
kept_more kept [] tx status = refl
kept_more kept (f ∷ fs) tx status = kept_more (kept_with kept f.0 f.1) fs tx status

gained_more : (fs : Failures) (tx status : ℕ) (old mid new : List PortFault) → AreGained fs old mid → Gains (CommandError tx status) mid new → AreGained (fs ++ (tx, status) ∷ []) old new
gained_more [] tx status old mid new same gains = (new, subst (λ (m : List PortFault). Gains (CommandError tx status) m new) same gains, refl)
gained_more (f ∷ fs) tx status old mid new (at, first, rest) gains = (at, first, gained_more fs tx status at mid new rest gains)

failed_more : (old : List ℕ) (fs : Failures) (cs : List Command) (c : Command) (tx status : ℕ) → numbers_of cs ≡ old ++ map (λ f. f.0) fs → tx ≡ c.tx → numbers_of (cs ++ c ∷ []) ≡ old ++ map (λ f. f.0) (fs ++ (tx, status) ∷ [])
failed_more old fs cs c tx status is same =
    map-append (λ (d : Command). d.tx) cs (c ∷ [])
    ∙ (λ i. is i ++ sym same i ∷ [])
    ∙ append_assoc old (map (λ f. f.0) fs) (tx ∷ [])
    ∙ ap (λ (ns : List ℕ). old ++ ns) (sym (map-append (λ (f : ℕ × ℕ). f.0) fs ((tx, status) ∷ [])))

not_none : (fs : Failures) (f : ℕ × ℕ) → (fs ++ f ∷ []) ≢ []
not_none fs f e = (let a = length-append fs (f ∷ []) in let b : length (fs ++ f ∷ []) ≡ 0 = ap length e in omega (arith, a, b))

-- ---- the steps

-- what was taken so far
pub record SoFar (old : SideState) (failed : Bool) (now : SideState) : Type 0 where
  pub failures : Failures
  pub takes : Takes old failures now.faults now
  pub taken : HasTaken failures failed
  pub same : SameEnds old now

-- a port keeps its fuse and its failing command
pub bound_now : (p : PortState) → IsBoundKept p p
bound_now p = record { fuse = refl; fail = refl }

pub bound_then : (a b c : PortState) → IsBoundKept a b → IsBoundKept b c → IsBoundKept a c
bound_then a b c first second = record { fuse = second.fuse ∙ first.fuse; fail = second.fail ∙ first.fail }

-- what a command that ends leaves of a port
pub record EndedPort (old new : PortState) : Type 0 where
  pub head : new.head ≡ old.head
  pub stored : new.stored_head ≡ old.stored_head
  pub doorbell : new.doorbell ≡ old.doorbell
  pub rings : new.rings ≡ old.rings
  pub bound : IsBoundKept old new

pub so_ends : (old now new : SideState) → SameEnds old now → SameRecords now new → EndedPort now.port new.port → SameEnds old new
so_ends old now new ends same port = record {
  geometry = same.geometry ∙ ends.geometry;
  queue = same.queue ∙ ends.queue;
  passed = same.passed ∙ ends.passed;
  rung = same.rung ∙ ends.rung;
  done = same.done ∙ ends.done;
  head = port.head ∙ ends.head;
  stored = port.stored ∙ ends.stored;
  doorbell = port.doorbell ∙ ends.doorbell;
  rings = port.rings ∙ ends.rings;
  bound = bound_then old.port now.port new.port ends.bound port.bound;
}

pub none_so_far : (s : SideState) → SoFar s false s
none_so_far s = record {
  failures = [];
  takes = record { failed = sym (append-nil (numbers_of s.port.failed)); gained = refl; kept = refl };
  taken = refl;
  same = record { geometry = refl; queue = refl; passed = refl; rung = refl; done = refl; head = refl; stored = refl; doorbell = refl; rings = refl; bound = bound_now s.port };
}

module _ (old now new : SideState) (failed : Bool) (so : SoFar old failed now) (same : SameRecords now new) where
  well_port : (slot : ℕ) → EndsWell now.port slot new.port → EndedPort now.port new.port
  well_port slot well = (let is = well.is in record {
    head = ap (λ (p : PortState). p.head) is;
    stored = ap (λ (p : PortState). p.stored_head) is;
    doorbell = ap (λ (p : PortState). p.doorbell) is;
    rings = ap (λ (p : PortState). p.rings) is;
    bound = subst (IsBoundKept now.port) (sym is) (record { fuse = refl; fail = refl });
  })

  pub well_so_far : (slot : ℕ) → EndsWell now.port slot new.port → new.kept ≡ now.kept → new.faults ≡ now.faults → SoFar old failed new
  well_so_far slot well kept faults = record {
    failures = so.failures;
    takes = record {
      failed = ap (λ (p : PortState). numbers_of p.failed) well.is ∙ so.takes.failed;
      gained = subst (λ (fs : List PortFault). AreGained so.failures old.faults fs) (sym faults) so.takes.gained;
      kept = kept ∙ so.takes.kept;
    };
    taken = so.taken;
    same = so_ends old now new so.same same (well_port slot well);
  }

  badly_port : (tx : ℕ) → EndsBadly now.port tx new.port → EndedPort now.port new.port
  badly_port tx badly = (let is = badly.is in record {
    head = ap (λ (p : PortState). p.head) is;
    stored = ap (λ (p : PortState). p.stored_head) is;
    doorbell = ap (λ (p : PortState). p.doorbell) is;
    rings = ap (λ (p : PortState). p.rings) is;
    bound = subst (IsBoundKept now.port) (sym is) (record { fuse = refl; fail = refl });
  })

  pub badly_so_far : (tx status : ℕ) → EndsBadly now.port tx new.port → Gains (CommandError tx status) now.faults new.faults → new.kept ≡ kept_with now.kept tx status → SoFar old true new
  badly_so_far tx status badly gains kept = record {
    failures = so.failures ++ (tx, status) ∷ [];
    takes = record {
      failed = ap (λ (p : PortState). numbers_of p.failed) badly.is ∙ failed_more (numbers_of old.port.failed) so.failures now.port.failed badly.command tx status so.takes.failed badly.tx_is;
      gained = gained_more so.failures tx status old.faults now.faults new.faults so.takes.gained gains;
      kept = kept ∙ ap (λ (w : Option (ℕ × Why)). kept_with w tx status) so.takes.kept ∙ sym (kept_more old.kept so.failures tx status);
    };
    taken = not_none so.failures (tx, status);
    same = so_ends old now new so.same same (badly_port tx badly);
  }

  -- nothing happened on the port
  still_port : new.port ≡ now.port → EndedPort now.port new.port
  still_port is = record {
    head = ap (λ (p : PortState). p.head) is;
    stored = ap (λ (p : PortState). p.stored_head) is;
    doorbell = ap (λ (p : PortState). p.doorbell) is;
    rings = ap (λ (p : PortState). p.rings) is;
    bound = subst (IsBoundKept now.port) (sym is) (bound_now now.port);
  }

  still_takes : new.port ≡ now.port → new.kept ≡ now.kept → Takes old so.failures now.faults new
  still_takes is kept = record {
    failed = ap (λ (p : PortState). numbers_of p.failed) is ∙ so.takes.failed;
    gained = so.takes.gained;
    kept = kept ∙ so.takes.kept;
  }

  pub completed : now.port.posted ≡ [] → new.port ≡ now.port → new.kept ≡ now.kept → new.faults ≡ now.faults → Completes old (Ok failed) new
  completed idle is kept faults = record {
    failures = so.failures;
    faults = now.faults;
    takes = still_takes is kept;
    ends = (ap (λ (p : PortState). p.posted) is ∙ idle, faults, so.taken);
    same = so_ends old now new so.same same (still_port is);
  }

  pub cut_off : (off : Rattle.mq_drive.specs.declared.port.Off.Off) → new.port ≡ now.port → new.kept ≡ now.kept → Gains PowerOff now.faults new.faults → Completes old (Err off) new
  cut_off off is kept gains = record {
    failures = so.failures;
    faults = now.faults;
    takes = still_takes is kept;
    ends = gains;
    same = so_ends old now new so.same same (still_port is);
  }

-- ---- there is one less to end

pub fewer : (p r : PortState) (at : ℕ) (c : Command) → slice_get p.posted at ≡ Some c → r.posted ≡ remove p.posted at → length r.posted < length p.posted
fewer p r at c is left =
    let e : length r.posted ≡ length (remove p.posted at) = ap length left in
    omega (arith, e, length-remove p.posted at (slice_get_within p.posted at c is))
