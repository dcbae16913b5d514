-- What was staged stays in its slot.
use Rattle.std.proofs.Common.{◌≡◌, ◌≢◌, ◌<◌, ◌≤◌, ℕ, ◌+◌, ◌%◌, Bool, true, false, List, [], ◌∷◌, length, Some, set, inl, inr, ⊎_elim, refl, sym, ◌∙◌, ap, subst, arith}
use Rattle.std.proofs.lemmas.Bool.{cases_eq}
use Rattle.std.proofs.lemmas.List.{get_or-set_other, get_or-set_same}
use Rattle.std.proofs.lemmas.List.Elements.{All-cons, All-rest, All-append}
use Rattle.std.specs.Prelude.{slice_get, Result, Ok, Err}
use Rattle.mq_blocks.specs.Drive.{PortState, staged_end, after_stage, after_ring, after_done, after_failed}
use Rattle.mq_blocks.specs.Limits.{depth, usable_depth}
use Rattle.mq_blocks.specs.declared.command.Command.{Command}
use Rattle.mq_nvme.specs.Entry.{entry_of, lba_of, is_commit}
use Rattle.mq_nvme.proofs.EntryRequests.{lba_of-entry, is_commit-entry}
use Rattle.mq_drive.specs.Steps.{PortFault, HomeGives}
use Rattle.mq_drive.specs.declared.port.Off.{Off}
use Rattle.mq_drive.specs.declared.port.HomeStep.{HomeStep}
use Rattle.mq_drive.specs.declared.port.HomeStep.TheVariants as home
use Rattle.mq_drive.proofs.DriveCommands.{all_remove, all_at}
use Rattle.mq_pmr.specs.Queue.{Fits, Kept, times, waiting}
use Rattle.mq_pmr.specs.Slots.{tx_in, blank}
use Rattle.mq_pmr.specs.Written.{bytes_at, IsWriteOf, AreHeld, IsWritten}
use Rattle.mq_pmr.specs.declared.slots.SlotRecord.{SlotRecord}
use Rattle.mq_pmr.proofs.QueueCounting.{at_count-here, times-cons, tx_kept}
use Rattle.mq_pmr.proofs.QueueFitting.{where_waiting, other_slots}

abbrev Held : List (List ℕ) → Command → Type 0
Held slots c = IsWriteOf (bytes_at slots c.count) c.tx (c.count % depth) c.lba

-- another slot is written
other_bytes : (slots : List (List ℕ)) (m : ℕ) (e : List ℕ) (n : ℕ) → n % depth ≢ m → bytes_at (set slots m e) n ≡ bytes_at slots n
other_bytes slots m e n other = get_or-set_other slots m (n % depth) e [] other

held_set : (slots : List (List ℕ)) (m : ℕ) (e : List ℕ) (cs : List Command) → ((n : ℕ) → 0 < times n cs → n % depth ≢ m) → AreHeld slots cs → AreHeld (set slots m e) cs
held_set slots m e [] other held = λ i d less. absurd (omega (arith, less))
held_set slots m e (c ∷ cs) other held =
    let here : c.count % depth ≢ m = other c.count (omega (arith, times-cons c.count c cs, at_count-here c.count c refl)) in
    let first : Held (set slots m e) c = subst (λ (b : List ℕ). IsWriteOf b c.tx (c.count % depth) c.lba) (sym (other_bytes slots m e c.count here)) (held 0 c (omega arith)) in
    All-cons (Held (set slots m e)) c cs first
    (held_set slots m e cs (λ n some. other n (omega (arith, times-cons n c cs, some)))
    (All-rest (Held slots) c cs (c ∷ cs) refl held))

-- the block of the bytes is the one that is written
own_lba : (bytes : List ℕ) (tx slot lba : ℕ) → IsWriteOf bytes tx slot lba → IsWriteOf bytes tx slot (lba_of bytes)
own_lba bytes tx slot lba is =
    let same : lba_of bytes ≡ lba = ap lba_of is ∙ lba_of-entry (record { tx = tx; slot = slot; lba = lba; commit = is_commit bytes }) in
    subst (IsWriteOf bytes tx slot) (sym same) is

-- the entry of a write, where it was put
pub holds_new : (slots : List (List ℕ)) (n tx lba : ℕ) (commit : Bool) (entry : List ℕ) → length slots ≡ depth
    → entry ≡ entry_of record { tx = tx; slot = n % depth; lba = lba; commit = commit } → IsWriteOf (bytes_at (set slots (n % depth) entry) n) tx (n % depth) lba
holds_new slots n tx lba commit entry ring is =
    let flag : is_commit entry ≡ commit = ap is_commit is ∙ is_commit-entry (record { tx = tx; slot = n % depth; lba = lba; commit = commit }) in
    let own : IsWriteOf entry tx (n % depth) lba = is ∙ ap (λ (b : Bool). entry_of record { tx = tx; slot = n % depth; lba = lba; commit = b }) (sym flag) in
    subst (λ (b : List ℕ). IsWriteOf b tx (n % depth) lba) (sym (get_or-set_same slots (n % depth) entry [] (omega (arith, ring)))) own

pub written_staged : (s : PortState) (k : Kept) (entry : List ℕ) (tx lba : ℕ) (block : List ℕ) → Fits s k → k.end < k.head + usable_depth
    → IsWriteOf (bytes_at (set s.staged (staged_end s % depth) entry) (staged_end s)) tx (staged_end s % depth) lba → IsWritten s k.slots k.done.end k.end
    → IsWritten (after_stage s entry tx lba block) (set k.slots (k.end % depth) (record { tx = tx; done = false })) k.done.end (k.end + 1)
written_staged s k entry tx lba block fits room new w =
    let c : Command = record { count = staged_end s; tx = tx; lba = lba; block = block } in
    let v : SlotRecord = record { tx = tx; done = false } in
    let to : List (List ℕ) = set s.staged (staged_end s % depth) entry in
    let at : k.end ≡ staged_end s = fits.end in
    let low : k.done.end ≤ k.end = omega (arith, at, fits.done, fits.passed) in
    let near : k.end < k.done.end + usable_depth = omega (arith, room, fits.heads, fits.stored) in
    let apart : (n : ℕ) → k.done.end ≤ n → n < k.end → n % depth ≢ k.end % depth = λ n least less.
    other_slots k.done.end n k.end least low (omega (arith, less, near)) (omega (arith, near)) (λ same. omega (arith, same, less)) in
    let away : (n : ℕ) → k.done.end ≤ n → n < k.end → n % depth ≢ staged_end s % depth = λ n least less same.
    apart n least less (same ∙ ap (λ (m : ℕ). m % depth) (sym at)) in
    let kept : (cs : List Command) → ((n : ℕ) → times n cs ≤ waiting s n) → AreHeld s.staged cs → AreHeld to cs = λ cs few held.
    held_set s.staged (staged_end s % depth) entry cs
    (λ n some. let here = where_waiting s k n fits (omega (arith, some, few n)) in away n (let up = here.0 in omega (arith, up, fits.done)) here.1) held in
    let names : List SlotRecord = set k.slots (k.end % depth) v in
    record {
      entries = λ n least less. elim (cases_eq n k.end) [
        | inl here ↦
            let named : tx_in names (n % depth) ≡ tx =
            ap (λ (m : ℕ). tx_in names (m % depth)) here
            ∙ ap (λ (x : SlotRecord). x.tx) (get_or-set_same k.slots (k.end % depth) v blank (omega (arith, fits.ring))) in
            let own : IsWriteOf (bytes_at to (staged_end s)) tx (staged_end s % depth) (lba_of (bytes_at to (staged_end s))) = own_lba (bytes_at to (staged_end s)) tx (staged_end s % depth) lba new in
            let there : IsWriteOf (bytes_at to n) tx (n % depth) (lba_of (bytes_at to n)) =
            subst (λ (m : ℕ). IsWriteOf (bytes_at to m) tx (m % depth) (lba_of (bytes_at to m))) (sym (here ∙ at)) own in
            subst (λ (x : ℕ). IsWriteOf (bytes_at to n) x (n % depth) (lba_of (bytes_at to n))) (sym named) there
        | inr other ↦
            let under : n < k.end = omega (arith, other, less) in
            let same : tx_in names (n % depth) ≡ tx_in k.slots (n % depth) =
            ap (λ (x : SlotRecord). x.tx) (get_or-set_other k.slots (k.end % depth) (n % depth) v blank (apart n least under)) in
            let bytes : bytes_at to n ≡ bytes_at s.staged n = other_bytes s.staged (staged_end s % depth) entry n (away n least under) in
            subst (λ (b : List ℕ). IsWriteOf b (tx_in names (n % depth)) (n % depth) (lba_of b)) (sym bytes)
            (subst (λ (x : ℕ). IsWriteOf (bytes_at s.staged n) x (n % depth) (lba_of (bytes_at s.staged n))) (sym same) (w.entries n least under))
      ];
      pending = All-append (Held to) s.pending (c ∷ [])
          (kept s.pending (λ n. omega arith) w.pending)
          (All-cons (Held to) c [] new (λ i d less. absurd (omega (arith, less))));
      posted = kept s.posted (λ n. omega arith) w.posted;
      failed = kept s.failed (λ n. omega arith) w.failed;
    }

pub written_rung : (s : PortState) (slots : List SlotRecord) (from to : ℕ) → IsWritten s slots from to → IsWritten (after_ring s) slots from to
written_rung s slots from to w = record {
  entries = w.entries;
  pending = λ i d less. absurd (omega (arith, less));
  posted = All-append (Held s.staged) s.posted s.pending w.posted w.pending;
  failed = w.failed;
}

pub written_done : (s : PortState) (slots : List SlotRecord) (from to i : ℕ) (c : Command) (slot : ℕ) (v : SlotRecord) → slot < length slots → v ≡ record { tx = tx_in slots slot; done = true }
    → IsWritten s slots from to → IsWritten (after_done s i c) (set slots slot v) from to
written_done s slots from to i c slot v within v_is w = record {
  entries = λ n least less.
      subst (λ (x : ℕ). IsWriteOf (bytes_at s.staged n) x (n % depth) (lba_of (bytes_at s.staged n)))
      (sym (tx_kept slots slot (n % depth) v within (ap (λ (x : SlotRecord). x.tx) v_is))) (w.entries n least less);
  pending = w.pending;
  posted = all_remove (Held s.staged) i s.posted w.posted;
  failed = w.failed;
}

pub written_failed : (s : PortState) (slots : List SlotRecord) (from to i : ℕ) (c : Command) → slice_get s.posted i ≡ Some c → IsWritten s slots from to → IsWritten (after_failed s i c) slots from to
written_failed s slots from to i c is w = record {
  entries = w.entries;
  pending = w.pending;
  posted = all_remove (Held s.staged) i s.posted w.posted;
  failed = All-append (Held s.staged) s.failed (c ∷ []) w.failed
      (All-cons (Held s.staged) c [] (all_at (Held s.staged) s.posted i c is w.posted) (λ j d less. absurd (omega (arith, less))));
}

-- fewer counts are looked at
pub written_passed : (s : PortState) (slots : List SlotRecord) (from more to : ℕ) → from ≤ more → IsWritten s slots from to → IsWritten s slots more to
written_passed s slots from more to up w =
    record { entries = λ n least less. w.entries n (omega (arith, up, least)) less; pending = w.pending; posted = w.posted; failed = w.failed }

-- no slot and no command changed
pub record SameRing (s new : PortState) : Type 0 where
  pub staged : new.staged ≡ s.staged
  pub pending : new.pending ≡ s.pending
  pub posted : new.posted ≡ s.posted
  pub failed : new.failed ≡ s.failed

pub written_same : (s new : PortState) (slots : List SlotRecord) (from to : ℕ) → SameRing s new → IsWritten s slots from to → IsWritten new slots from to
written_same s new slots from to same w = record {
  entries = λ n least less. subst (λ (l : List (List ℕ)). IsWriteOf (bytes_at l n) (tx_in slots (n % depth)) (n % depth) (lba_of (bytes_at l n))) (sym same.staged) (w.entries n least less);
  pending = moved new.pending s.pending same.pending w.pending;
  posted = moved new.posted s.posted same.posted w.posted;
  failed = moved new.failed s.failed same.failed w.failed;
}
  where
    moved : (cs ds : List Command) → cs ≡ ds → AreHeld s.staged ds → AreHeld new.staged cs
    moved cs ds is held = subst (λ (l : List (List ℕ)). AreHeld l cs) (sym same.staged) (subst (AreHeld s.staged) (sym is) held)

ring_like : (s new t : PortState) → new ≡ t → SameRing s t → SameRing s new
ring_like s new t is same = subst (SameRing s) (sym is) same

pub home_written : (s new : PortState) (faults more : List PortFault) (lba : ℕ) (block : List ℕ) (r : Result HomeStep Off) (slots : List SlotRecord) (from to : ℕ) → HomeGives s faults lba block r new more → IsWritten s slots from to → IsWritten new slots from to
home_written s new faults more lba block r slots from to gives w = written_same s new slots from to (same r gives) w
  where
    same : (r : Result HomeStep Off) → HomeGives s faults lba block r new more → SameRing s new
    same (Ok home.Done) gives = ring_like s new _ gives.0 (record { staged = refl; pending = refl; posted = refl; failed = refl })
    same (Ok (home.Error status)) gives = ring_like s new _ gives.1 (record { staged = refl; pending = refl; posted = refl; failed = refl })
    same (Err x) gives = ⊎_elim
        (λ is. ring_like s new _ is (record { staged = refl; pending = refl; posted = refl; failed = refl }))
        (λ begun. ring_like s new _ begun (record { staged = refl; pending = refl; posted = refl; failed = refl }))
        gives.0
