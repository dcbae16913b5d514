-- What each event of a queue keeps of how its records stand to its port.
use Rattle.std.proofs.Common.{◌≡◌, ◌≢◌, ◌<◌, ◌≤◌, inl, inr, ⊎_elim, ℕ, ◌+◌, ◌%◌, Bool, true, false, List, [], ◌∷◌, ◌++◌, length, Option, Some, None, Result, Ok, Err, set, refl, sym, ◌∙◌, ap, subst, arith, length-append}
use Rattle.std.specs.Prelude.{slice_get, ◌&&◌}
use Rattle.std.specs.List.{remove}
use Rattle.std.proofs.Math.ListN.{length-set}
use Rattle.std.proofs.lemmas.Bool.{cases_eq, cases_lt}
use Rattle.std.proofs.lemmas.List.{get_or-set_other, get_or-set_same}
use Rattle.std.proofs.lemmas.List.Elements.{All-cons, All-append}
use Rattle.std.proofs.Math.Bool.{and-false}
use Rattle.mq_blocks.specs.Drive.{PortState, AreFrom, staged_end, after_stage, after_ring, after_done, after_failed, after_begin, after_end}
use Rattle.mq_blocks.specs.Limits.{depth, usable_depth}
use Rattle.mq_blocks.specs.declared.command.Command.{Command}
use Rattle.mq_blocks.specs.declared.command.HomeWrite.{HomeWrite}
use Rattle.mq_blocks.proofs.DriveRemainders.{slots_apart}
use Rattle.mq_drive.specs.Steps.{PortFault, HomeGives}
use Rattle.mq_drive.specs.declared.port.Off.{Off}
use Rattle.mq_drive.specs.declared.port.HomeStep.{HomeStep}
use Rattle.mq_drive.specs.declared.port.HomeStep.TheVariants as home
use Rattle.mq_drive.proofs.DriveCommands.{all_remove, all_at}
use Rattle.mq_pmr.specs.Queue.{Fits, Kept, times, waiting, one_unless, AreNamed}
use Rattle.mq_pmr.specs.Rungs.{AreEnds, TellsDone, is_clear, are_from}
use Rattle.mq_pmr.specs.Slots.{AllDone, done_at, tx_in, blank}
use Rattle.mq_pmr.specs.declared.rungs.Rung.{Rung}
use Rattle.mq_pmr.specs.declared.slots.SlotRecord.{SlotRecord}
use Rattle.mq_pmr.proofs.QueueCounting.{at_count, at_count-here, at_count-other, times-append, times-one, times-remove, times-at, from_none, are_from-yes, are_from-no, named_set, named_same}

-- so have any two of those from a count on
pub other_slots : (low m n : ℕ) → low ≤ m → low ≤ n → m < low + depth → n < low + depth → m ≢ n → m % depth ≢ n % depth
other_slots low m n m_low n_low m_high n_high other same = elim (cases_lt m n) [
  | inl less ↦ slots_apart m n less (omega (arith, m_low, n_high)) same
  | inr more ↦ slots_apart n m (omega (arith, more, other)) (omega (arith, n_low, m_high)) (sym same)
]

done-other : (slots : List SlotRecord) (m n : ℕ) (v : SlotRecord) → n % depth ≢ m % depth → done_at (set slots (m % depth) v) n ≡ done_at slots n
done-other slots m n v other = ap (λ (s : SlotRecord). s.done) (get_or-set_other slots (m % depth) (n % depth) v blank other)

done-same : (slots : List SlotRecord) (m : ℕ) (v : SlotRecord) → length slots ≡ depth → done_at (set slots (m % depth) v) m ≡ v.done
done-same slots m v ring = ap (λ (s : SlotRecord). s.done) (get_or-set_same slots (m % depth) v blank (omega (arith, ring)))

-- a command that waits stands between the passed and the staged end
pub where_waiting : (s : PortState) (k : Kept) (n : ℕ) → Fits s k → 0 < waiting s n → (k.passed ≤ n) × (n < k.end)
where_waiting s k n fits some = (
  elim (cases_lt n k.passed) [ inl below ↦ absurd (omega (arith, fits.below n below, some)) | inr above ↦ above ],
  elim (cases_lt n k.end) [ inl below ↦ below | inr above ↦ absurd (omega (arith, fits.above n above, some)) ],
)

-- ---- staging

pub fits_staged : (s : PortState) (k : Kept) (entry : List ℕ) (tx lba : ℕ) (block : List ℕ) (whole : Option ℕ) → Fits s k → k.end < k.head + usable_depth
    → Fits (after_stage s entry tx lba block) (record k { slots = set k.slots (k.end % depth) (record { tx = tx; done = false }); end = k.end + 1; staged = whole })
fits_staged s k entry tx lba block whole fits room =
    let c : Command = record { count = staged_end s; tx = tx; lba = lba; block = block } in
    let v : SlotRecord = record { tx = tx; done = false } in
    let t : PortState = after_stage s entry tx lba block in
    let at : k.end ≡ staged_end s = fits.end in
    let count : c.count ≡ k.end = sym at in
    let low : k.passed ≤ k.end = omega (arith, at, fits.passed) in
    let near : k.end ≤ k.passed + usable_depth = omega (arith, fits.room, fits.heads, fits.stored, fits.done) in
    let moved : (n : ℕ) → waiting t n ≡ waiting s n + at_count n c = λ n. omega (arith, times-one n s.pending c) in
    let apart : (n : ℕ) → k.passed ≤ n → n < k.end → n % depth ≢ k.end % depth = λ n least less.
    other_slots k.passed n k.end least low (omega (arith, less, near)) (omega (arith, near)) (λ same. omega (arith, same, less)) in
    let kept : (cs : List Command) → ((n : ℕ) → times n cs ≤ waiting s n) → AreNamed k.slots cs → AreNamed (set k.slots (k.end % depth) v) cs = λ cs few named.
    named_set k.slots (k.end % depth) v cs
    (λ n some. let here = where_waiting s k n fits (omega (arith, some, few n)) in apart n here.0 here.1) named in
    let named : tx_in (set k.slots (k.end % depth) v) (c.count % depth) ≡ tx =
    ap (λ (m : ℕ). tx_in (set k.slots (k.end % depth) v) (m % depth)) count
    ∙ ap (λ (x : SlotRecord). x.tx) (get_or-set_same k.slots (k.end % depth) v blank (omega (arith, fits.ring))) in
    record {
      queue = fits.queue;
      ring = length-set k.slots (k.end % depth) v ∙ fits.ring;
      end = omega (arith, at, length-append s.pending (c ∷ []));
      head = fits.head;
      stored_head = fits.stored_head;
      heads = fits.heads;
      stored = fits.stored;
      done = fits.done;
      passed = fits.passed;
      room = omega (arith, room);
      below = λ n less. omega (arith, moved n, fits.below n less, at_count-other n c (λ same. omega (arith, same, count, less, low)));
      within = λ n least less. elim (cases_eq n k.end) [
        | inl here ↦
            let before = fits.above n (omega (arith, here)) in
            let one : waiting t n ≡ 1 = omega (arith, moved n, before, at_count-here n c (count ∙ sym here)) in
            one ∙ sym (ap one_unless (ap (done_at (set k.slots (k.end % depth) v)) here ∙ done-same k.slots k.end v fits.ring))
        | inr other ↦
            let under : n < k.end = omega (arith, other, less) in
            let same : waiting t n ≡ waiting s n = omega (arith, moved n, at_count-other n c (λ is. other (sym is ∙ count))) in
            same ∙ fits.within n least under ∙ sym (ap one_unless (done-other k.slots k.end n v (apart n least under)))
      ];
      above = λ n high. omega (arith, moved n, fits.above n (omega (arith, high)), at_count-other n c (λ same. omega (arith, same, count, high)));
      pending = λ n less. omega (arith, times-one n s.pending c, fits.pending n less, at_count-other n c (λ same. omega (arith, same, count, less, low, at)));
      named_pending = All-append (λ d. tx_in (set k.slots (k.end % depth) v) (d.count % depth) ≡ d.tx) s.pending (c ∷ [])
          (kept s.pending (λ n. omega arith) fits.named_pending)
          (All-cons (λ d. tx_in (set k.slots (k.end % depth) v) (d.count % depth) ≡ d.tx) c [] named (λ i d less. absurd (omega (arith, less))));
      named_posted = kept s.posted (λ n. omega arith) fits.named_posted;
      staged = λ m is. omega (arith, at);
    }

-- ---- ringing

pub fits_rung : (s : PortState) (k : Kept) (ts : List Rung) → Fits s k → Fits (after_ring s) (record k { rung = ts; staged = None })
fits_rung s k ts fits =
    let moved : (n : ℕ) → waiting (after_ring s) n ≡ waiting s n = λ n. omega (arith, times-append n s.posted s.pending) in
    record {
      queue = fits.queue;
      ring = fits.ring;
      end = omega (arith, fits.end);
      head = fits.head;
      stored_head = fits.stored_head;
      heads = fits.heads;
      stored = fits.stored;
      done = fits.done;
      passed = omega (arith, fits.passed);
      room = fits.room;
      below = λ n less. moved n ∙ fits.below n less;
      within = λ n least less. moved n ∙ fits.within n least less;
      above = λ n high. moved n ∙ fits.above n high;
      pending = λ n less. refl;
      named_pending = λ i d less. absurd (omega (arith, less));
      named_posted = All-append (λ d. tx_in k.slots (d.count % depth) ≡ d.tx) s.posted s.pending fits.named_posted fits.named_pending;
      staged = λ m is. cc;
    }

pub ends_more : (low high : ℕ) (ts : List Rung) (t : Rung) → high < t.end → AreEnds low high ts → AreEnds low t.end (ts ++ t ∷ [])
ends_more low high [] t more ends = (omega (arith, ends, more), omega arith)
ends_more low high (x ∷ ts) t more ends = (ends.0, ends_more x.end high ts t more ends.1)

pub length-ends : (low high : ℕ) (ts : List Rung) → AreEnds low high ts → length ts + low ≤ high
length-ends low high [] ends = omega (arith, ends)
length-ends low high (t ∷ ts) ends = omega (arith, ends.0, length-ends t.end high ts ends.1)

-- ---- completion

-- where a posted command stands
pub record IsPosted (s : PortState) (k : Kept) (c : Command) : Type 0 where
  pub low : k.passed ≤ c.count
  pub high : c.count < k.end
  pub open_ : done_at k.slots c.count ≡ false
  pub tx : tx_in k.slots (c.count % depth) ≡ c.tx

not_done : (b : Bool) → 0 < one_unless b → b ≡ false
not_done true some = absurd (omega (arith, some))
not_done false some = refl

pub is_posted : (s : PortState) (k : Kept) (i : ℕ) (c : Command) → Fits s k → slice_get s.posted i ≡ Some c → IsPosted s k c
is_posted s k i c fits is =
    let some : 0 < waiting s c.count = omega (arith, times-at i s.posted c is) in
    let here = where_waiting s k c.count fits some in
    record {
      low = here.0;
      high = here.1;
      open_ = not_done (done_at k.slots c.count) (let count = fits.within c.count here.0 here.1 in omega (arith, some, count));
      tx = all_at (λ d. tx_in k.slots (d.count % depth) ≡ d.tx) s.posted i c is fits.named_posted;
    }

pub fits_done : (s : PortState) (k : Kept) (i : ℕ) (c : Command) (slot : ℕ) (v : SlotRecord) → Fits s k → slice_get s.posted i ≡ Some c → slot ≡ c.count % depth
    → v ≡ record { tx = tx_in k.slots slot; done = true }
    → Fits (after_done s i c) (record k { slots = set k.slots slot v })
fits_done s k i c slot v fits is slot_is v_is =
    let posted = is_posted s k i c fits is in
    let t : PortState = after_done s i c in
    let near : k.end ≤ k.passed + usable_depth = omega (arith, fits.room, fits.heads, fits.stored, fits.done) in
    let moved : (n : ℕ) → waiting s n ≡ waiting t n + at_count n c = λ n. omega (arith, times-remove n i s.posted c is) in
    let in_ring : slot < length k.slots = omega (arith, fits.ring, slot_is) in
    let tx : v.tx ≡ tx_in k.slots slot = ap (λ (x : SlotRecord). x.tx) v_is in
    let done : v.done ≡ true = ap (λ (x : SlotRecord). x.done) v_is in
    let at : (n : ℕ) → done_at (set k.slots slot v) n ≡ done_at (set k.slots (c.count % depth) v) n = λ n. ap (λ (m : ℕ). done_at (set k.slots m v) n) slot_is in
    record {
      queue = fits.queue;
      ring = length-set k.slots slot v ∙ fits.ring;
      end = fits.end;
      head = fits.head;
      stored_head = fits.stored_head;
      heads = fits.heads;
      stored = fits.stored;
      done = fits.done;
      passed = fits.passed;
      room = fits.room;
      below = λ n less. omega (arith, moved n, fits.below n less);
      within = λ n least less. elim (cases_eq n c.count) [
        | inl here ↦
            let before : waiting s n ≡ 1 = fits.within n least less ∙ ap one_unless (ap (done_at k.slots) here ∙ posted.open_) in
            let none : waiting t n ≡ 0 = omega (arith, moved n, before, at_count-here n c (sym here)) in
            none ∙ sym (ap one_unless (at n ∙ ap (done_at (set k.slots (c.count % depth) v)) here ∙ done-same k.slots c.count v fits.ring ∙ done))
        | inr other ↦
            let apart : n % depth ≢ c.count % depth =
            other_slots k.passed n c.count least posted.low (omega (arith, less, near)) (omega (arith, posted.high, near)) other in
            let same : waiting t n ≡ waiting s n = omega (arith, moved n, at_count-other n c (λ e. other (sym e))) in
            same ∙ fits.within n least less ∙ sym (ap one_unless (at n ∙ done-other k.slots c.count n v apart))
      ];
      above = λ n high. omega (arith, moved n, fits.above n high);
      pending = fits.pending;
      named_pending = named_same k.slots slot v s.pending in_ring tx fits.named_pending;
      named_posted = named_same k.slots slot v (remove s.posted i) in_ring tx (all_remove (λ d. tx_in k.slots (d.count % depth) ≡ d.tx) i s.posted fits.named_posted);
      staged = fits.staged;
    }

pub fits_failed : (s : PortState) (k : Kept) (i : ℕ) (c : Command) → Fits s k → slice_get s.posted i ≡ Some c → Fits (after_failed s i c) k
fits_failed s k i c fits is =
    let moved : (n : ℕ) → waiting (after_failed s i c) n ≡ waiting s n = λ n. omega (arith, times-remove n i s.posted c is, times-one n s.failed c) in
    record {
      queue = fits.queue;
      ring = fits.ring;
      end = fits.end;
      head = fits.head;
      stored_head = fits.stored_head;
      heads = fits.heads;
      stored = fits.stored;
      done = fits.done;
      passed = fits.passed;
      room = fits.room;
      below = λ n less. moved n ∙ fits.below n less;
      within = λ n least less. moved n ∙ fits.within n least less;
      above = λ n high. moved n ∙ fits.above n high;
      pending = fits.pending;
      named_pending = fits.named_pending;
      named_posted = all_remove (λ d. tx_in k.slots (d.count % depth) ≡ d.tx) i s.posted fits.named_posted;
      staged = fits.staged;
    }

-- ---- home writes

fits_homes : (s : PortState) (k : Kept) (blocks : List (Option (List ℕ))) (certain : List Bool) (begun : List HomeWrite) (begins : ℕ) → Fits s k
    → Fits (record s { blocks = blocks; certain = certain; begun = begun; begins = begins }) k
fits_homes s k blocks certain begun begins fits = record {
  queue = fits.queue;
  ring = fits.ring;
  end = fits.end;
  head = fits.head;
  stored_head = fits.stored_head;
  heads = fits.heads;
  stored = fits.stored;
  done = fits.done;
  passed = fits.passed;
  room = fits.room;
  below = fits.below;
  within = fits.within;
  above = fits.above;
  pending = fits.pending;
  named_pending = fits.named_pending;
  named_posted = fits.named_posted;
  staged = fits.staged;
}

fits_as : (s new t : PortState) (k : Kept) → new ≡ record s { blocks = t.blocks; certain = t.certain; begun = t.begun; begins = t.begins } → Fits s k → Fits new k
fits_as s new t k is fits = subst (λ (u : PortState). Fits u k) (sym is) (fits_homes s k t.blocks t.certain t.begun t.begins fits)

pub home_fits : (s new : PortState) (faults more : List PortFault) (lba : ℕ) (block : List ℕ) (r : Result HomeStep Off) (k : Kept) → HomeGives s faults lba block r new more → Fits s k → Fits new k
home_fits s new faults more lba block (Ok home.Done) k gives fits = fits_as s new (after_end (after_begin s lba block) lba block) k gives.0 fits
home_fits s new faults more lba block (Ok (home.Error status)) k gives fits = fits_as s new (after_begin s lba block) k gives.1 fits
home_fits s new faults more lba block (Err x) k gives fits = ⊎_elim
    (λ same. subst (λ (u : PortState). Fits u k) (sym same) fits)
    (λ begun. fits_as s new (after_begin s lba block) k begun fits)
    gives.0

-- ---- the head

-- none below what is done is posted or failed
pub posted_from : (s : PortState) (k : Kept) → Fits s k → AreFrom k.done.end s.posted
posted_from s k fits = from_none k.done.end s.posted (λ n less. omega (arith, fits.below n (omega (arith, less, fits.done))))

pub failed_from : (s : PortState) (k : Kept) → Fits s k → AreFrom k.done.end s.failed
failed_from s k fits = from_none k.done.end s.failed (λ n less. omega (arith, fits.below n (omega (arith, less, fits.done))))

clear-yes : (s : PortState) (end : ℕ) → ((n : ℕ) → n < end → times n s.posted + times n s.failed ≡ 0) → is_clear s end ≡ true
clear-yes s end none =
    ap (λ (b : Bool). b && are_from end s.failed) (are_from-yes end s.posted (λ n less. omega (arith, none n less)))
    ∙ are_from-yes end s.failed (λ n less. omega (arith, none n less))

clear-no : (s : PortState) (end n : ℕ) → n < end → 0 < times n s.posted + times n s.failed → is_clear s end ≡ false
clear-no s end n less some = elim (cases_lt 0 (times n s.posted)) [
  | inl more ↦ ap (λ (b : Bool). b && are_from end s.failed) (are_from-no end n s.posted less more)
  | inr none ↦ ap (λ (b : Bool). are_from end s.posted && b) (are_from-no end n s.failed less (omega (arith, none, some))) ∙ and-false (are_from end s.posted)
]

-- the records show what is posted or failed below an end
pub tells_done : (s : PortState) (k : Kept) → Fits s k → TellsDone (is_clear s) s.doorbell k.slots k.passed
tells_done s k fits = record {
  yes = λ end high done. clear-yes s end (λ n less. elim (cases_lt n k.passed) [
    | inl below ↦ omega (arith, fits.below n below)
    | inr above ↦
        let none : waiting s n ≡ 0 = fits.within n above (omega (arith, less, high, fits.end)) ∙ ap one_unless (done n above less) in
        omega (arith, none)
  ]);
  no = λ end n high least less left_open.
      let one : waiting s n ≡ 1 = fits.within n least (omega (arith, less, high, fits.end)) ∙ ap one_unless left_open in
      let rest = fits.pending n (omega (arith, less, high)) in
      clear-no s end n less (omega (arith, one, rest));
}

-- done entries are passed
pub fits_passed : (s : PortState) (k : Kept) (to : ℕ) (new : Rung) (ts : List Rung) → Fits s k → k.passed ≤ to → AllDone k.slots k.passed to → to ≤ s.doorbell → k.done.end ≤ new.end → new.end ≤ to
    → Fits s (record k { passed = to; done = new; rung = ts })
fits_passed s k to new ts fits up all high rises low = record {
  queue = fits.queue;
  ring = fits.ring;
  end = fits.end;
  head = fits.head;
  stored_head = fits.stored_head;
  heads = fits.heads;
  stored = omega (arith, fits.stored, rises);
  done = low;
  passed = high;
  room = fits.room;
  below = λ n less. elim (cases_lt n k.passed) [
    | inl below ↦ fits.below n below
    | inr above ↦ fits.within n above (omega (arith, less, high, fits.end)) ∙ ap one_unless (all n above less)
  ];
  within = λ n least less. fits.within n (omega (arith, up, least)) less;
  above = fits.above;
  pending = fits.pending;
  named_pending = fits.named_pending;
  named_posted = fits.named_posted;
  staged = fits.staged;
}

pub ends-along : (s t : PortState) (low : ℕ) (ts : List Rung) → t.doorbell ≡ s.doorbell → AreEnds low s.doorbell ts → AreEnds low t.doorbell ts
ends-along s t low ts same ends = subst (λ (n : ℕ). AreEnds low n ts) (sym same) ends
