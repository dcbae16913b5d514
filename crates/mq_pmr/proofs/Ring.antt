-- What each event of a queue keeps of what its ring holds.
use Rattle.std.proofs.Common.{◌≡◌, ◌≢◌, ◌<◌, ◌≤◌, inl, inr, ⊎_elim, ℕ, ◌+◌, ◌-◌, ◌%◌, Bool, true, false, List, [], ◌∷◌, ◌++◌, length, Option, Some, None, Result, Ok, Err, set, refl, sym, ◌∙◌, ap, subst, arith}
use Rattle.std.specs.Prelude.{nat_eq, if◌then◌else◌}
use Rattle.std.proofs.lemmas.Bool.{cases_eq, eq-eqb, ne_eqb}
use Rattle.std.proofs.lemmas.List.{get_or-set_other, get_or-set_same}
use Rattle.mq_blocks.specs.Drive.{PortState, IsFlushed, staged_end, after_stage, after_flush, after_ring, after_store_head, after_begin, after_end}
use Rattle.mq_blocks.specs.Limits.{depth, usable_depth}
use Rattle.mq_blocks.specs.declared.geometry.Geometry.{Geometry}
use Rattle.mq_blocks.proofs.DriveRemainders.{slots_apart}
use Rattle.mq_nvme.specs.Entry.{entry_of, tx_of, lba_of}
use Rattle.mq_nvme.proofs.EntryRequests.{tx_of-entry, lba_of-entry}
use Rattle.mq_drive.specs.Start.{IsPortOf}
use Rattle.mq_drive.specs.Steps.{PortFault, HomeGives}
use Rattle.mq_drive.specs.declared.port.Off.{Off}
use Rattle.mq_drive.specs.declared.port.HomeStep.{HomeStep}
use Rattle.mq_drive.specs.declared.port.HomeStep.TheVariants as home
use Rattle.mq_drive.specs.declared.role.Role.TheVariants.{Queue}
use Rattle.mq_pmr.specs.Queue.{Fits, Kept}
use Rattle.mq_pmr.specs.Ring.{IsRequestAt, HasCommit, IsWhole, AreWhole, AreOf, AreCertain, KeepsBefore, IsHeld}
use Rattle.mq_pmr.specs.Rungs.{AreEnds, last_end, last_leading, left_after}
use Rattle.mq_pmr.specs.Written.{bytes_at}
use Rattle.mq_pmr.specs.declared.rungs.Rung.{Rung}
use Rattle.mq_pmr.proofs.Runs.{end_more}
use Rattle.mq_pmr.proofs.RungsWalking.{ends_high}

-- ---- the bytes of one slot

request_along : (xs ys : List (List ℕ)) (tx n : ℕ) (commit : Bool) → bytes_at xs n ≡ bytes_at ys n → IsRequestAt xs tx n commit → IsRequestAt ys tx n commit
request_along xs ys tx n commit same is = subst (λ (b : List ℕ). b ≡ entry_of record { tx = tx; slot = n % depth; lba = lba_of b; commit = commit }) same is

commit_along : (xs ys : List (List ℕ)) (end : ℕ) → bytes_at xs (end - 1) ≡ bytes_at ys (end - 1) → HasCommit xs end → HasCommit ys end
commit_along xs ys end same is = subst (λ (b : List ℕ). b ≡ entry_of record { tx = tx_of b; slot = (end - 1) % depth; lba = lba_of b; commit = true }) same is

request_tx : (slots : List (List ℕ)) (tx n : ℕ) (commit : Bool) → IsRequestAt slots tx n commit → tx_of (bytes_at slots n) ≡ tx
request_tx slots tx n commit is = ap tx_of is ∙ tx_of-entry (record { tx = tx; slot = n % depth; lba = lba_of (bytes_at slots n); commit = commit })

-- the commit request of a transaction stands before its end
has_commit : (slots : List (List ℕ)) (tx end : ℕ) → IsRequestAt slots tx (end - 1) true → HasCommit slots end
has_commit slots tx end is = subst (λ (x : ℕ). IsRequestAt slots x (end - 1) true) (sym (request_tx slots tx (end - 1) true is)) is

-- ---- what is certain

pub room_of : (s : PortState) (k : Kept) → Fits s k → staged_end s ≤ s.head + usable_depth
room_of s k fits = let e = fits.end in let h = fits.head in let r = fits.room in omega (arith, e, h, r)

pub certain : (g : Geometry) (q : ℕ) (s : PortState) → IsPortOf g (Queue q) s → s.doorbell ≤ s.flushed_end → staged_end s ≤ s.head + usable_depth → AreCertain s
certain g q s port flushed room n low high =
    let is : IsFlushed s (n % depth) = λ c least less same.
    slots_apart n c (omega (arith, least, flushed, high)) (omega (arith, less, room, low)) (sym same) in
    (is, port.settled (n % depth) (let ring = port.flushed in omega (arith, ring)) is)

-- where all is flushed, every slot is
all_settled : (g : Geometry) (q : ℕ) (s : PortState) → IsPortOf g (Queue q) s → s.flushed_end ≡ staged_end s → (n : ℕ) → bytes_at s.flushed n ≡ bytes_at s.staged n
all_settled g q s port tail n = port.settled (n % depth) (let ring = port.flushed in omega (arith, ring)) (λ c least less. absurd (omega (arith, least, less, tail)))

-- the counts in order
record InOrder (s : PortState) (k : Kept) : Type 0 where
  heads : s.head ≤ s.stored_head
  stored : s.stored_head ≤ k.done.end
  done : k.done.end ≤ s.doorbell

in_order : (s : PortState) (k : Kept) → Fits s k → InOrder s k
in_order s k fits =
    let a = fits.head in let b = fits.stored_head in let c = fits.heads in let d = fits.stored in let e = fits.done in let f = fits.passed in
    record { heads = omega (arith, a, b, c); stored = omega (arith, b, d); done = omega (arith, e, f) }

-- ---- flushing

pub held_flush : (g : Geometry) (q : ℕ) (o s : PortState) (k : Kept) → IsPortOf g (Queue q) s → Fits s k → IsHeld o s k.done k.rung k.staged → IsHeld o (after_flush s) k.done k.rung k.staged
held_flush g q o s k port fits h =
    let r = in_order s k fits in
    let a = r.heads in
    let b = r.stored in
    let d = r.done in
    let low = h.low in
    let at : (n : ℕ) → s.head ≤ n + 1 → n < s.doorbell → bytes_at s.flushed n ≡ bytes_at s.staged n = λ n least less. (certain g q s port h.flushed (room_of s k fits) n least less).1 in
    record {
      flushed = omega arith;
      rung = h.rung;
      low = omega (arith, low, a);
      start = λ some same.
          let head : s.head ≡ o.doorbell = omega (arith, same, low, a) in
          sym (at (o.doorbell - 1) (omega (arith, some, head)) (omega (arith, some, head, a, b, d))) ∙ h.start some head;
      head = λ more. commit_along s.flushed s.staged s.stored_head (at (s.stored_head - 1) (omega (arith, more, a)) (omega (arith, more, b, d))) (h.stored_head more);
      stored_head = λ more. commit_along s.flushed s.staged s.stored_head (at (s.stored_head - 1) (omega (arith, more, a)) (omega (arith, more, b, d))) (h.stored_head more);
      doorbell = λ more. commit_along s.flushed s.staged s.doorbell (at (s.doorbell - 1) (omega (arith, more, a, b, d)) (omega (arith, more))) (h.doorbell more);
      done = λ more. request_along s.flushed s.staged k.done.tx (k.done.end - 1) true (at (k.done.end - 1) (omega (arith, more, a, b)) (omega (arith, more, d))) (h.done more);
      staged = h.staged;
      begun = h.begun;
    }

whole_along : (xs ys : List (List ℕ)) (low high : ℕ) (ts : List Rung) → ((n : ℕ) → low ≤ n → n < high → bytes_at xs n ≡ bytes_at ys n) → AreEnds low high ts → AreWhole xs low ts → AreWhole ys low ts
whole_along xs ys low high [] same ends whole = tt
whole_along xs ys low high (t ∷ ts) same ends whole = (
  λ n least less. request_along xs ys t.tx n (nat_eq (n + 1) t.end) (same n least (let up = ends_high t.end high ts ends.1 in omega (arith, less, up))) (whole.0 n least less),
  whole_along xs ys t.end high ts (λ n least less. same n (let up = ends.0 in omega (arith, up, least)) less) ends.1 whole.1,
)

pub whole_flush : (g : Geometry) (q : ℕ) (s : PortState) (k : Kept) → IsPortOf g (Queue q) s → Fits s k → s.doorbell ≤ s.flushed_end → AreEnds k.done.end s.doorbell k.rung → AreWhole s.flushed k.done.end k.rung
    → AreWhole s.staged k.done.end k.rung
whole_flush g q s k port fits flushed ends whole =
    let r = in_order s k fits in
    let a = r.heads in
    let b = r.stored in
    whole_along s.flushed s.staged k.done.end s.doorbell k.rung (λ n least less. (certain g q s port flushed (room_of s k fits) n (omega (arith, least, a, b)) less).1) ends whole

pub before_flush : (g : Geometry) (q : ℕ) (s : PortState) (k : Kept) → IsPortOf g (Queue q) s → Fits s k → s.doorbell ≤ s.flushed_end → KeepsBefore s (after_flush s)
before_flush g q s k port fits flushed some =
    let r = in_order s k fits in
    let a = r.heads in
    let b = r.stored in
    let d = r.done in
    sym (certain g q s port flushed (room_of s k fits) (s.head - 1) (omega (arith, some)) (omega (arith, some, a, b, d))).1

-- ---- ringing

last_more : (low : ℕ) (ts : List Rung) (t : Rung) → last_end low (ts ++ t ∷ []) ≡ t.end
last_more low [] t = refl
last_more low (x ∷ ts) t = last_more x.end ts t

whole_more : (slots : List (List ℕ)) (low : ℕ) (ts : List Rung) (t : Rung) → AreWhole slots low ts → IsWhole slots (last_end low ts) t → AreWhole slots low (ts ++ t ∷ [])
whole_more slots low [] t whole next = (next, tt)
whole_more slots low (x ∷ ts) t whole next = (whole.0, whole_more slots x.end ts t whole.1 next)

-- the staged transaction, in the slots as they are flushed
staged_whole : (g : Geometry) (q : ℕ) (o s : PortState) (k : Kept) (t : Rung) → IsPortOf g (Queue q) s → s.flushed_end ≡ staged_end s → k.staged ≡ Some t.tx → t.end ≡ staged_end s → IsHeld o s k.done k.rung k.staged → IsWhole s.flushed s.doorbell t
staged_whole g q o s k t port tail is end h =
    let whole : IsWhole s.staged s.doorbell t = subst (λ (e : ℕ). IsWhole s.staged s.doorbell (record { tx = t.tx; end = e })) (sym end) (h.staged t.tx is) in
    λ n least less. request_along s.staged s.flushed t.tx n (nat_eq (n + 1) t.end) (sym (all_settled g q s port tail n)) (whole n least less)

pub whole_ring : (g : Geometry) (q : ℕ) (o s : PortState) (k : Kept) (t : Rung) → IsPortOf g (Queue q) s → s.flushed_end ≡ staged_end s → k.staged ≡ Some t.tx → t.end ≡ staged_end s → IsHeld o s k.done k.rung k.staged
    → AreWhole s.flushed k.done.end k.rung → AreWhole s.flushed k.done.end (k.rung ++ t ∷ [])
whole_ring g q o s k t port tail is end h whole =
    whole_more s.flushed k.done.end k.rung t whole (subst (λ (n : ℕ). IsWhole s.flushed n t) (sym h.rung) (staged_whole g q o s k t port tail is end h))

pub held_ring : (g : Geometry) (q : ℕ) (o s : PortState) (k : Kept) (t : Rung) → IsPortOf g (Queue q) s → Fits s k → s.flushed_end ≡ staged_end s → k.staged ≡ Some t.tx → t.end ≡ staged_end s → IsHeld o s k.done k.rung k.staged
    → IsHeld o (after_ring s) k.done (k.rung ++ t ∷ []) None
held_ring g q o s k t port fits tail is end h =
    let some : s.doorbell < staged_end s = let a = fits.staged t.tx is in let b = fits.end in omega (arith, a, b) in
    let last : IsRequestAt s.flushed t.tx (t.end - 1) (nat_eq (t.end - 1 + 1) t.end) = staged_whole g q o s k t port tail is end h (t.end - 1) (omega (arith, some, end)) (omega (arith, some, end)) in
    let mark : IsRequestAt s.flushed t.tx (t.end - 1) true = subst (IsRequestAt s.flushed t.tx (t.end - 1)) (eq-eqb (t.end - 1 + 1) t.end (omega (arith, some, end))) last in
    record {
      flushed = omega (arith, tail);
      rung = last_more k.done.end k.rung t ∙ end;
      low = h.low;
      start = h.start;
      head = h.head;
      stored_head = h.stored_head;
      doorbell = λ more. subst (HasCommit s.flushed) end (has_commit s.flushed t.tx t.end mark);
      done = h.done;
      staged = λ m none n least less. cc;
      begun = λ none n least less. absurd (omega (arith, least, less));
    }

-- ---- staging

-- the requests before the new one, and the new one
record Adds (slots : List (List ℕ)) (tx low end : ℕ) (commit : Bool) : Type 0 where
  others : (n : ℕ) → low ≤ n → n < end → IsRequestAt slots tx n false
  last : IsRequestAt slots tx end commit

adds_whole : (commit : Bool) (slots : List (List ℕ)) (tx low end : ℕ) → Adds slots tx low end commit → (m : ℕ) → (if commit then Some tx else None) ≡ Some m → IsWhole slots low (record { tx = m; end = end + 1 })
adds_whole true slots tx low end adds m is n least less =
    let same : tx ≡ m = cc in
    subst (λ (x : ℕ). IsRequestAt slots x n (nat_eq (n + 1) (end + 1))) same (elim (cases_eq n end) [
      | inl here ↦ subst (IsRequestAt slots tx n) (sym (eq-eqb (n + 1) (end + 1) (omega (arith, here)))) (subst (λ (k : ℕ). IsRequestAt slots tx k true) (sym here) adds.last)
      | inr other ↦ subst (IsRequestAt slots tx n) (sym (ne_eqb (n + 1) (end + 1) (λ e. other (omega (arith, e))))) (adds.others n least (omega (arith, other, less)))
    ])
adds_whole false slots tx low end adds m is n least less = cc

adds_part : (commit : Bool) (slots : List (List ℕ)) (tx low end : ℕ) → low ≤ end → Adds slots tx low end commit → (if commit then Some tx else None) ≡ None → (n : ℕ) → low ≤ n → n < end + 1
    → IsRequestAt slots (tx_of (bytes_at slots low)) n false
adds_part true slots tx low end up adds is n least less = cc
adds_part false slots tx low end up adds is n least less =
    let here : (k : ℕ) → low ≤ k → k < end + 1 → IsRequestAt slots tx k false = λ k a b. elim (cases_eq k end) [
      | inl same ↦ subst (λ (j : ℕ). IsRequestAt slots tx j false) (sym same) adds.last
      | inr other ↦ adds.others k a (omega (arith, other, b))
    ] in
    let own : tx_of (bytes_at slots low) ≡ tx = request_tx slots tx low false (here low (omega arith) (omega (arith, up))) in
    subst (λ (x : ℕ). IsRequestAt slots x n false) (sym own) (here n least less)

-- a request is staged behind those of its transaction
pub record Stages (s : PortState) (k : Kept) (entry : List ℕ) (tx lba : ℕ) (commit : Bool) : Type 0 where
  pub fits : Fits s k
  pub room : k.end < k.head + usable_depth
  pub ring : length s.staged ≡ depth
  pub unstaged : k.staged ≡ None
  pub whose : AreOf s tx
  pub is : entry ≡ entry_of record { tx = tx; slot = staged_end s % depth; lba = lba; commit = commit }

stage_adds : (o s : PortState) (k : Kept) (entry : List ℕ) (tx lba : ℕ) (commit : Bool) → Stages s k entry tx lba commit → IsHeld o s k.done k.rung k.staged → Adds (set s.staged (staged_end s % depth) entry) tx s.doorbell (staged_end s) commit
stage_adds o s k entry tx lba commit st h =
    let to : List (List ℕ) = set s.staged (staged_end s % depth) entry in
    let r = in_order s k st.fits in
    let a = r.heads in
    let b = r.stored in
    let d = r.done in
    let room : staged_end s < s.head + usable_depth = let x = st.room in let y = st.fits.end in let z = st.fits.head in omega (arith, x, y, z) in
    let new : bytes_at to (staged_end s) ≡ entry = get_or-set_same s.staged (staged_end s % depth) entry [] (let ring = st.ring in omega (arith, ring)) in
    let lba_is : lba_of entry ≡ lba = ap lba_of st.is ∙ lba_of-entry (record { tx = tx; slot = staged_end s % depth; lba = lba; commit = commit }) in
    let own : entry ≡ entry_of record { tx = tx; slot = staged_end s % depth; lba = lba_of entry; commit = commit } =
    st.is ∙ ap (λ (l : ℕ). entry_of record { tx = tx; slot = staged_end s % depth; lba = l; commit = commit }) (sym lba_is) in
    record {
      others = λ n least less.
          let apart : n % depth ≢ staged_end s % depth = slots_apart n (staged_end s) less (omega (arith, room, least, a, b, d)) in
          let same : bytes_at to n ≡ bytes_at s.staged n = get_or-set_other s.staged (staged_end s % depth) (n % depth) entry [] apart in
          let first : tx_of (bytes_at s.staged s.doorbell) ≡ tx = st.whose s.doorbell (omega arith) (omega (arith, least, less)) in
          request_along s.staged to tx n false (sym same) (subst (λ (x : ℕ). IsRequestAt s.staged x n false) first (h.begun st.unstaged n least less));
      last = subst (λ (b : List ℕ). b ≡ entry_of record { tx = tx; slot = staged_end s % depth; lba = lba_of b; commit = commit }) (sym new) own;
    }

pub held_stage : (o s : PortState) (k : Kept) (entry : List ℕ) (tx lba : ℕ) (block : List ℕ) (commit : Bool) → Stages s k entry tx lba commit → IsHeld o s k.done k.rung k.staged
    → IsHeld o (after_stage s entry tx lba block) k.done k.rung (if commit then Some tx else None)
held_stage o s k entry tx lba block commit st h =
    let to : List (List ℕ) = set s.staged (staged_end s % depth) entry in
    let adds = stage_adds o s k entry tx lba commit st h in
    let end : staged_end (after_stage s entry tx lba block) ≡ staged_end s + 1 = end_more s entry tx lba block in
    record {
      flushed = h.flushed;
      rung = h.rung;
      low = h.low;
      start = h.start;
      head = h.head;
      stored_head = h.stored_head;
      doorbell = h.doorbell;
      done = h.done;
      staged = λ m is. subst (λ (e : ℕ). IsWhole to s.doorbell (record { tx = m; end = e })) (sym end) (adds_whole commit to tx s.doorbell (staged_end s) adds m is);
      begun = λ is n least less. adds_part commit to tx s.doorbell (staged_end s) (omega arith) adds is n least (omega (arith, end, less));
    }

pub of_stage : (o s : PortState) (k : Kept) (entry : List ℕ) (tx lba : ℕ) (block : List ℕ) (commit : Bool) → Stages s k entry tx lba commit → IsHeld o s k.done k.rung k.staged → AreOf (after_stage s entry tx lba block) tx
of_stage o s k entry tx lba block commit st h n least less =
    let to : List (List ℕ) = set s.staged (staged_end s % depth) entry in
    let adds = stage_adds o s k entry tx lba commit st h in
    let end : staged_end (after_stage s entry tx lba block) ≡ staged_end s + 1 = end_more s entry tx lba block in
    elim (cases_eq n (staged_end s)) [
      | inl here ↦ request_tx to tx n commit (subst (λ (j : ℕ). IsRequestAt to tx j commit) (sym here) adds.last)
      | inr other ↦ request_tx to tx n false (adds.others n least (omega (arith, other, end, less)))
    ]

-- where nothing waits, no transaction is staged
pub none_staged : (s : PortState) (k : Kept) → Fits s k → s.pending ≡ [] → k.staged ≡ None
none_staged s k fits empty = none k.staged (λ tx is. let a = fits.staged tx is in let b = fits.end in let c : length s.pending ≡ 0 = ap length empty in omega (arith, a, b, c))
  where
    none : (o : Option ℕ) → ((tx : ℕ) → o ≡ Some tx → ⊥) → o ≡ None
    none None not_some = refl
    none (Some tx) not_some = absurd (not_some tx refl)

pub none_of : (s : PortState) (tx : ℕ) → s.pending ≡ [] → AreOf s tx
none_of s tx empty n least less = let c : length s.pending ≡ 0 = ap length empty in absurd (omega (arith, least, less, c))

-- ---- the head, and what is passed

pub held_store : (o s : PortState) (last : Rung) (ts : List Rung) (whole : Option ℕ) → IsHeld o s last ts whole → IsHeld o (after_store_head s last.end) last ts whole
held_store o s last ts whole h = record {
  flushed = h.flushed;
  rung = h.rung;
  low = h.low;
  start = h.start;
  head = h.head;
  stored_head = λ more. has_commit s.flushed last.tx last.end (h.done more);
  doorbell = h.doorbell;
  done = h.done;
  staged = h.staged;
  begun = h.begun;
}

-- what each of the transactions hands on to the rest holds of those that are left
either : (P : Rung → List Rung → Type 0) (b : Bool) (x y : Rung) (xs ys : List Rung) → P x xs → P y ys → P (if b then x else y) (if b then xs else ys)
either P true x y xs ys first second = first
either P false x y xs ys first second = second

along : (passes : ℕ → Bool) (P : Rung → List Rung → Type 0) → ((last t : Rung) (ts : List Rung) → P last (t ∷ ts) → P t ts) → (last : Rung) (ts : List Rung) → P last ts → P (last_leading passes last ts) (left_after passes ts)
along passes P step last [] holds = holds
along passes P step last (t ∷ ts) holds = either P (passes t.end) (last_leading passes t ts) last (left_after passes ts) (t ∷ ts) (along passes P step t ts (step last t ts holds)) holds

record Passing (from bell : ℕ) (slots : List (List ℕ)) (last : Rung) (ts : List Rung) : Type 0 where
  whole : AreWhole slots last.end ts
  ends : AreEnds last.end bell ts
  rung : last_end last.end ts ≡ bell
  done : from < last.end → IsRequestAt slots last.tx (last.end - 1) true

passing_next : (from bell : ℕ) (slots : List (List ℕ)) (last t : Rung) (ts : List Rung) → Passing from bell slots last (t ∷ ts) → Passing from bell slots t ts
passing_next from bell slots last t ts p =
    let up = p.ends.0 in
    record {
      whole = p.whole.1;
      ends = p.ends.1;
      rung = p.rung;
      done = λ more. subst (IsRequestAt slots t.tx (t.end - 1)) (eq-eqb (t.end - 1 + 1) t.end (omega (arith, up))) (p.whole.0 (t.end - 1) (omega (arith, up)) (omega (arith, up)));
    }

pub held_pass : (passes : ℕ → Bool) (o s : PortState) (last new : Rung) (ts left : List Rung) (whole : Option ℕ) → new ≡ last_leading passes last ts → left ≡ left_after passes ts
    → AreEnds last.end s.doorbell ts → AreWhole s.flushed last.end ts → IsHeld o s last ts whole → AreWhole s.flushed new.end left × IsHeld o s new left whole
held_pass passes o s last new ts left whole new_is left_is ends w h =
    let start : Passing o.doorbell s.doorbell s.flushed last ts = record { whole = w; ends = ends; rung = h.rung; done = h.done } in
    let end : Passing o.doorbell s.doorbell s.flushed (last_leading passes last ts) (left_after passes ts) =
    along passes (Passing o.doorbell s.doorbell s.flushed) (passing_next o.doorbell s.doorbell s.flushed) last ts start in
    let p : Passing o.doorbell s.doorbell s.flushed new left =
    subst (λ (r : Rung). Passing o.doorbell s.doorbell s.flushed r left) (sym new_is)
    (subst (λ (l : List Rung). Passing o.doorbell s.doorbell s.flushed (last_leading passes last ts) l) (sym left_is) end) in (
      p.whole,
      record {
        flushed = h.flushed;
        rung = p.rung;
        low = h.low;
        start = h.start;
        head = h.head;
        stored_head = h.stored_head;
        doorbell = h.doorbell;
        done = p.done;
        staged = h.staged;
        begun = h.begun;
      },
    )

-- ---- events that leave the ring as it is

held_same : (o s t : PortState) (last : Rung) (ts : List Rung) (whole : Option ℕ) → IsHeld o s last ts whole
    → IsHeld o (record s { blocks = t.blocks; certain = t.certain; posted = t.posted; failed = t.failed; begun = t.begun; begins = t.begins; events = t.events }) last ts whole
held_same o s t last ts whole h = record {
  flushed = h.flushed;
  rung = h.rung;
  low = h.low;
  start = h.start;
  head = h.head;
  stored_head = h.stored_head;
  doorbell = h.doorbell;
  done = h.done;
  staged = h.staged;
  begun = h.begun;
}

-- the new state t is the old one except for what it says of blocks and commands
pub held_as : (o s new t : PortState) (last : Rung) (ts : List Rung) (whole : Option ℕ)
    → new ≡ record s { blocks = t.blocks; certain = t.certain; posted = t.posted; failed = t.failed; begun = t.begun; begins = t.begins; events = t.events }
    → (AreWhole s.flushed last.end ts × IsHeld o s last ts whole) → AreWhole new.flushed last.end ts × IsHeld o new last ts whole
held_as o s new t last ts whole is h = (
  subst (λ (u : PortState). AreWhole u.flushed last.end ts) (sym is) h.0,
  subst (λ (u : PortState). IsHeld o u last ts whole) (sym is) (held_same o s t last ts whole h.1),
)

pub home_held : (o s new : PortState) (faults more : List PortFault) (lba : ℕ) (block : List ℕ) (r : Result HomeStep Off) (last : Rung) (ts : List Rung) (whole : Option ℕ) → HomeGives s faults lba block r new more
    → (AreWhole s.flushed last.end ts × IsHeld o s last ts whole) → AreWhole new.flushed last.end ts × IsHeld o new last ts whole
home_held o s new faults more lba block (Ok home.Done) last ts whole gives h = held_as o s new (after_end (after_begin s lba block) lba block) last ts whole gives.0 h
home_held o s new faults more lba block (Ok (home.Error status)) last ts whole gives h = held_as o s new (after_begin s lba block) last ts whole gives.1 h
home_held o s new faults more lba block (Err x) last ts whole gives h = ⊎_elim
    (λ same. held_as o s new s last ts whole same h)
    (λ begun. held_as o s new (after_begin s lba block) last ts whole begun h)
    gives.0
