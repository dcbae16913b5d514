-- How many events a drain makes.
use Rattle.std.proofs.Common.{◌≡◌, ◌⊎◌, ℕ, ◌+◌, ◌≤◌, eqb, Bool, true, false, zero, suc, List, [], length, sym, refl, ap, subst, ◌∙◌, inl, inr, arith}
use Rattle.std.specs.Prelude.{Result, Ok, Err, Option, Some, None, min, ◌-◌, ◌^◌, slice_get, if◌then◌else◌}
use Rattle.std.specs.List.{remove}
use Rattle.std.proofs.lemmas.List.Edits.{length-remove}
use Rattle.std.proofs.lemmas.Option.{slice_get_within}
use Rattle.mq_blocks.specs.Drive.{PortState, counted, after_flush, after_store_head}
use Rattle.mq_blocks.specs.declared.command.Command.{Command}
use Rattle.mq_drive.specs.declared.port.Off.{Off as PowerCut}
use Rattle.mq_pmr.specs.Answers.{EndsWell, EndsBadly}
use Rattle.mq_pmr.specs.Queue.{after_head}
use Rattle.mq_pmr.specs.Rungs.{last_leading, is_clear}
use Rattle.mq_queue_side.specs.Drained.{Completes, HasMade, HasEnded, HasDrained, IsCutBefore, IsCutBetween, DrainMakes, answer_of}
use Rattle.mq_queue_side.specs.Side.{SideState}
use Rattle.mq_queue_side.specs.declared.answers.Why.{Why}
use Rattle.mq_queue_side.specs.declared.answers.Why.TheVariants.{Status, Off}
use Rattle.mq_queue_side.specs.declared.answers.Cause.TheVariants as cause

-- ---- counts

pub counted_more : (e n m : ℕ) → counted (counted e n) m ≡ counted e (n + m)
counted_more e zero m = (let z : m ≡ 0 + m = omega arith in ap (λ (k : ℕ). counted e k) z)
counted_more e (suc n) m =
    let z : suc (n + m) ≡ suc n + m = omega arith in
    counted_more (min (e + 1) (2 ^ 64 - 1)) n m ∙ ap (λ (k : ℕ). counted e k) z

pub made_then : (n m : ℕ) (a b c : SideState) → HasMade n a b → HasMade m b c → HasMade (n + m) a c
made_then n m a b c first second = (second.0 ∙ ap (λ (e : ℕ). counted e m) first.0 ∙ counted_more a.port.events n m, second.1 ∙ first.1)

-- ---- commands end

pub none_ended : (s : SideState) → HasEnded s s
none_ended s = record { ended = 0; left = omega arith; made = (refl, refl) }

one_less : (cs : List Command) (at : ℕ) (c : Command) → slice_get cs at ≡ Some c → 1 + length (remove cs at) ≡ length cs
one_less cs at c is = (let l = length-remove cs at (slice_get_within cs at c is) in omega (arith, l))

ended_more : (old now new : SideState) → HasEnded old now → 1 + length new.port.posted ≡ length now.port.posted → HasMade 1 now new → HasEnded old new
ended_more old now new h less made = record {
  ended = h.ended + 1;
  left = (let l = h.left in omega (arith, l, less));
  made = made_then h.ended 1 old now new h.made made;
}

pub well_more : (old now new : SideState) (slot : ℕ) → HasEnded old now → EndsWell now.port slot new.port → HasEnded old new
well_more old now new slot h well =
    ended_more old now new h
    (ap (λ (p : PortState). 1 + length p.posted) well.is ∙ one_less now.port.posted well.at well.command well.posted)
    (ap (λ (p : PortState). p.events) well.is, ap (λ (p : PortState). p.begins) well.is)

pub badly_more : (old now new : SideState) (tx : ℕ) → HasEnded old now → EndsBadly now.port tx new.port → HasEnded old new
badly_more old now new tx h badly =
    ended_more old now new h
    (ap (λ (p : PortState). 1 + length p.posted) badly.is ∙ one_less now.port.posted badly.at badly.command badly.posted)
    (ap (λ (p : PortState). p.events) badly.is, ap (λ (p : PortState). p.begins) badly.is)

pub still_ended : (old now new : SideState) → HasEnded old now → new.port ≡ now.port → HasEnded old new
still_ended old now new h is = record {
  ended = h.ended;
  left = ap (λ (p : PortState). h.ended + length p.posted) is ∙ h.left;
  made = (ap (λ (p : PortState). p.events) is ∙ h.made.0, ap (λ (p : PortState). p.begins) is ∙ h.made.1);
}

-- ---- the head moves on

head_events : (p : PortState) (h : ℕ) (b : Bool) → (if b then p else after_flush (after_store_head p h)).events ≡ counted p.events (if b then 0 else 2)
head_events p h true = refl
head_events p h false = refl

head_begins : (p : PortState) (h : ℕ) (b : Bool) → (if b then p else after_flush (after_store_head p h)).begins ≡ p.begins
head_begins p h true = refl
head_begins p h false = refl

pub moved : (old new : SideState) → new.port ≡ after_head old.port new.passed.end → new.port.head ≡ new.passed.end → HasMade (if eqb old.port.head new.port.head then 0 else 2) old new
moved old new is head = (
  ap (λ (p : PortState). p.events) is
      ∙ head_events old.port new.passed.end (eqb old.port.head new.passed.end)
      ∙ ap (λ (h : ℕ). counted old.port.events (if eqb old.port.head h then 0 else 2)) (sym head),
  ap (λ (p : PortState). p.begins) is ∙ head_begins old.port new.passed.end (eqb old.port.head new.passed.end),
)

-- ---- the whole drain

all_ended : (old mid : SideState) → HasEnded old mid → mid.port.posted ≡ [] → HasMade (length old.port.posted) old mid
all_ended old mid h none =
    let e : length mid.port.posted ≡ 0 = ap length none in
    let n : h.ended ≡ length old.port.posted = (let l = h.left in omega (arith, l, e)) in
    subst (λ (m : ℕ). HasMade m old mid) n h.made

module _ (old mid new : SideState) (failed : Bool) (c : Completes old (Ok failed) mid) (h : HasEnded old mid) (m : HasMade (if eqb mid.port.head new.port.head then 0 else 2) mid new) where
  drained : HasDrained old new
  drained =
      subst (λ (x : ℕ). HasMade (length old.port.posted + (if eqb x new.port.head then 0 else 2)) old new) c.same.head
      (made_then (length old.port.posted) _ old mid new (all_ended old mid h c.ends.0) m)

  answered : (b : Bool) (n : ℕ) (kept : Option (ℕ × Why)) → DrainMakes old (answer_of b n kept) new
  answered b n None = drained
  answered true n (Some (tx, Status s)) = drained
  answered true n (Some (tx, Off)) = drained
  answered false n (Some w) = drained

  pub makes : DrainMakes old (answer_of failed new.done new.kept) new
  makes = answered failed new.done new.kept

pub cut_before : (old new : SideState) (off : PowerCut) → Completes old (Err off) new → HasEnded old new → DrainMakes old (Err cause.Off) new
cut_before old new off c h = inl (record { ended = h; head = c.same.head; stored = c.same.stored })

pub cut_between : (old mid new : SideState) (failed : Bool) → Completes old (Ok failed) mid → HasEnded old mid → (new.port ≡ mid.port) ⊎ ((new.port ≡ after_store_head mid.port new.passed.end) × (new.passed ≡ last_leading (is_clear mid.port) mid.passed mid.rung)) → DrainMakes old (Err cause.Off) new
cut_between old mid new failed c h (inl is) = inl (record {
  ended = still_ended old mid new h is;
  head = ap (λ (p : PortState). p.head) is ∙ c.same.head;
  stored = ap (λ (p : PortState). p.stored_head) is ∙ c.same.stored;
})
cut_between old mid new failed c h (inr (is, passed)) = inr (record {
  posted = ap (λ (p : PortState). p.posted) is ∙ c.ends.0;
  made = made_then (length old.port.posted) 1 old mid new (all_ended old mid h c.ends.0) (ap (λ (p : PortState). p.events) is, ap (λ (p : PortState). p.begins) is);
  head = ap (λ (p : PortState). p.head) is ∙ c.same.head;
  stored = ap (λ (p : PortState). p.stored_head) is;
  passed =
      passed
      ∙ ap (λ (f : ℕ → Bool). last_leading f mid.passed mid.rung) (sym (ap is_clear is))
      ∙ (λ j. last_leading (is_clear new.port) (c.same.passed j) (c.same.rung j));
})
