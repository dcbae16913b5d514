-- What one line makes of the side of a queue.
use Rattle.std.proofs.Common.{◌≡◌, ◌≢◌, ◌<◌, ◌≤◌, ℕ, suc, ◌+◌, Bool, true, false, ◌&&◌, cond, eqb, List, [], ◌∷◌, ◌++◌, length, map, Ok, Err, refl, sym, ◌∙◌, ap, subst, inl, inr, arith, length-append}
use Rattle.std.proofs.lemmas.Bool.{eq-eqb, ne_eqb}
use Rattle.std.specs.Prelude.{Contains}
use Rattle.mq_block_text.specs.Text.{sets_in}
use Rattle.mq_block_text.specs.declared.item.BlockItem.{BlockItem}
use Rattle.mq_blocks.specs.Drive.{FuseName, PortState, after_flush, counted, staged_end}
use Rattle.mq_blocks.specs.Machine.{Writes}
use Rattle.mq_blocks.specs.declared.command.Command.{Command}
use Rattle.mq_drive.specs.Steps.{Gains, PortFault, PowerOff}
use Rattle.mq_drive.proofs.StepsFaults.{contains-more}
use Rattle.mq_loose_queues.specs.Commits.{IsRungOn}
use Rattle.mq_loose_queues.specs.Commits as commits
use Rattle.mq_loose_queues.specs.Queues.{StoredSide}
use Rattle.mq_loose_text.specs.Meaning.{events_of_line, line_at, waiting_after, waiting_on}
use Rattle.mq_loose_text.specs.declared.line.LooseLine.{LooseLine}
use Rattle.mq_loose_text.specs.declared.line.LooseLine.TheVariants.{Commit, Done}
use Rattle.mq_pmr.specs.Runs.{after_some, commands_of}
use Rattle.mq_pmr.proofs.Runs.{length-commands}
use Rattle.mq_pmr.specs.Rungs.{are_from, is_clear, last_end, last_leading}
use Rattle.mq_pmr.specs.declared.rungs.Rung.{Rung}
use Rattle.mq_queue_side.specs.Drained.{AreGained, DrainCause, DrainMakes, Drains, Failures, numbers_of}
use Rattle.mq_queue_side.proofs.DrainedEvents.{counted_more}
use Rattle.mq_queue_side.specs.Sent.{IsCutAt}
use Rattle.mq_queue_side.specs.Side.{SideState}
use Rattle.mq_queue_side.specs.declared.answers.Cause.TheVariants as cause
use Rattle.mq_loose_run.specs.Lines.{HasHappened, HasRunOn, IsCutOn, events_on, queue_of}
use Rattle.mq_loose_run.proofs.Counts.{counted_small, part, rung_next}

-- ---- what a line counts

pub waits_other : (q w : ℕ) (l : LooseLine) → queue_of l ≢ q → waiting_after q l w ≡ w
waits_other q w (Commit r is) other = ap (λ (b : Bool). cond b (w + (sets_in is + 1)) w) (ne_eqb r q other)
waits_other q w (Done r) other = ap (λ (b : Bool). cond b 0 w) (ne_eqb r q other)

part_other : (q : ℕ) (l : LooseLine) → queue_of l ≢ q → part q l ≡ 0
part_other q (Commit r is) other = ap (λ (b : Bool). cond b (sets_in is + 1) 0) (ne_eqb r q other)
part_other q (Done r) other = refl

events_own : (q n e : ℕ) (lines : List LooseLine) (l : LooseLine) → line_at lines n ≡ l → queue_of l ≡ q → events_of_line lines n l ≡ e → events_on q lines (suc n) ≡ events_on q lines n + e
events_own q n e lines l is own count =
    ap (λ (l : LooseLine). events_on q lines n + cond (eqb (queue_of l) q) (events_of_line lines n l) 0) is
    ∙ ap (λ (b : Bool). events_on q lines n + cond b (events_of_line lines n l) 0) (eq-eqb (queue_of l) q own)
    ∙ ap (λ (m : ℕ). events_on q lines n + m) count

same_happened : (fuse : FuseName) (a b : ℕ) (p : PortState) → a ≡ b → HasHappened fuse a p → HasHappened fuse b p
same_happened fuse a b p same h = subst (λ (e : ℕ). HasHappened fuse e p) same h

-- a line of another queue leaves the side as it is
pub skipped : (fuse : FuseName) (lines : List LooseLine) (n q : ℕ) (s : SideState) → queue_of (line_at lines n) ≢ q → HasRunOn fuse lines n q s → HasRunOn fuse lines (suc n) q s
skipped fuse lines n q s other r =
    let l = line_at lines n in
    let waits : waiting_on q lines (suc n) ≡ waiting_on q lines n = waits_other q (waiting_on q lines n) l other in
    let none : cond (eqb (queue_of l) q) (events_of_line lines n l) 0 ≡ 0 = ap (λ (b : Bool). cond b (events_of_line lines n l) 0) (ne_eqb (queue_of l) q other) in
    let rung = rung_next q n lines in
    let nothing = part_other q l other in
    record {
      happened = same_happened fuse (events_on q lines n) (events_on q lines (suc n)) s.port (omega (arith, none)) r.happened;
      kept = r.kept;
      faults = r.faults;
      stored = r.stored;
      posted = r.posted ∙ sym waits;
      waits = (let w = r.waits in omega (arith, w, waits));
      rung = (let e = r.rung in omega (arith, e, rung, nothing));
    }

-- ---- a drain with nothing to do

pub idle : (fuse : FuseName) (lines : List LooseLine) (n q : ℕ) (s : SideState) → line_at lines n ≡ Done q → waiting_on q lines n ≡ 0 → HasRunOn fuse lines n q s → HasRunOn fuse lines (suc n) q s
idle fuse lines n q s is none r =
    let waits : waiting_on q lines (suc n) ≡ 0 = ap (λ (l : LooseLine). waiting_after q l (waiting_on q lines n)) is ∙ ap (λ (b : Bool). cond b 0 (waiting_on q lines n)) (eq-eqb q q refl) in
    let events = events_own q n 0 lines (Done q) is refl (ap (λ (w : ℕ). cond (eqb w 0) 0 (w + 2)) none) in
    let rung = rung_next q n lines in
    let nothing : part q (line_at lines n) ≡ 0 = ap (part q) is in
    record {
      happened = same_happened fuse (events_on q lines n) (events_on q lines (suc n)) s.port (omega (arith, events)) r.happened;
      kept = r.kept;
      faults = r.faults;
      stored = r.stored;
      posted = (let p = r.posted in omega (arith, p, none, waits));
      waits = (let w = r.waits in omega (arith, w, none, waits));
      rung = (let e = r.rung in omega (arith, e, rung, nothing));
    }

-- ---- a commit

module _ (fuse : FuseName) (lines : List LooseLine) (n q tx : ℕ) (is : List BlockItem) (ws : Writes) (old new : StoredSide) (line : line_at lines n ≡ Commit q is) (sets : length ws ≡ sets_in is) (low : sets_in is ≤ 1024) (few : events_on q lines n ≤ 6144) (r : HasRunOn fuse lines n q old.side) (none : old.side.port.pending ≡ []) where
  abbrev p : PortState
  p = old.side.port

  events_before : p.events ≡ events_on q lines n
  events_before = r.happened.events_are

  line_events : events_of_line lines n (line_at lines n) ≡ sets_in is + 3
  line_events = ap (λ (l : LooseLine). events_of_line lines n l) line

  pub sent : IsRungOn old ws tx new → HasRunOn fuse lines (suc n) q new.side
  sent rung =
      let items = rung.items in
      let k = length items in
      let e = rung.port in
      let waits : waiting_on q lines (suc n) ≡ waiting_on q lines n + (sets_in is + 1) = ap (λ (l : LooseLine). waiting_after q l (waiting_on q lines n)) line ∙ ap (λ (b : Bool). cond b (waiting_on q lines n + (sets_in is + 1)) (waiting_on q lines n)) (eq-eqb q q refl) in
      let own : part q (line_at lines n) ≡ sets_in is + 1 = ap (part q) line ∙ ap (λ (b : Bool). cond b (sets_in is + 1) 0) (eq-eqb q q refl) in
      let events = events_own q n (sets_in is + 3) lines (Commit q is) line refl refl in
      let sum : new.side.port.events ≡ events_on q lines (suc n) =
      ap (λ (s : PortState). s.events) e
      ∙ (let one = counted_small p.events k (let c = rung.count in omega (arith, events_before, few, c, sets, low)) in
      let two = counted_small (counted p.events k) 1 (let c = rung.count in omega (arith, events_before, few, c, sets, low, one)) in
      let three = counted_small (counted (counted p.events k) 1) 1 (let c = rung.count in omega (arith, events_before, few, c, sets, low, one, two)) in
      (let c = rung.count in omega (arith, events_before, c, sets, one, two, three, events))) in
      let made : length (p.pending ++ commands_of tx (staged_end p) k items) ≡ k = length-append p.pending (commands_of tx (staged_end p) k items) ∙ (let a = length-commands tx (staged_end p) items in let b : length p.pending ≡ 0 = ap length none in omega (arith, a, b)) in
      let bell : new.side.port.doorbell ≡ p.doorbell + k = ap (λ (s : PortState). s.doorbell) e ∙ ap (λ (m : ℕ). p.doorbell + m) made in
      let posted : length new.side.port.posted ≡ length p.posted + k = ap (λ (s : PortState). length s.posted) e ∙ length-append p.posted (p.pending ++ commands_of tx (staged_end p) k items) ∙ ap (λ (m : ℕ). length p.posted + m) made in
      let head : new.side.port.head ≡ p.head = ap (λ (s : PortState). s.head) e ∙ r.stored in
      let c = rung.count in
      record {
        happened = record {
          fuse_is = ap (λ (s : PortState). s.fuse) e ∙ r.happened.fuse_is;
          fail = ap (λ (s : PortState). s.fail) e ∙ r.happened.fail;
          begins = ap (λ (s : PortState). s.begins) e ∙ r.happened.begins;
          events_are = sum;
        };
        kept = rung.kept;
        faults = rung.faults ∙ r.faults;
        stored = ap (λ (s : PortState). s.stored_head) e ∙ r.stored ∙ sym head;
        posted = (let a = r.posted in omega (arith, posted, a, waits, c, sets));
        waits = (let a = r.waits in omega (arith, head, bell, a, waits, c, sets));
        rung = (let a = r.rung in let b = rung_next q n lines in omega (arith, bell, a, b, own, c, sets));
      }

  -- so many of its events happened
  stopped_at : (events : ℕ) (s : PortState) → new.side.port ≡ s → events < sets_in is + 3 → s.fuse ≡ p.fuse → s.fail ≡ p.fail → s.begins ≡ p.begins → s.events ≡ counted p.events events → s.doorbell ≡ p.doorbell → s.stored_head ≡ s.head → Gains PowerOff old.side.faults new.side.faults
      → IsCutOn fuse lines n q events new.side
  stopped_at events s e less fuse_is fail begins made bell stored gains = record {
    few = omega (arith, less, line_events);
    happened = record {
      fuse_is = ap (λ (s : PortState). s.fuse) e ∙ fuse_is ∙ r.happened.fuse_is;
      fail = ap (λ (s : PortState). s.fail) e ∙ fail ∙ r.happened.fail;
      begins = ap (λ (s : PortState). s.begins) e ∙ begins ∙ r.happened.begins;
      events_are = ap (λ (s : PortState). s.events) e ∙ made ∙ counted_small p.events events (omega (arith, less, low, events_before, few)) ∙ ap (λ (m : ℕ). m + events) events_before;
    };
    off = gained_off old.side.faults new.side.faults r.faults gains;
    rung = ap (λ (s : PortState). s.doorbell) e ∙ bell ∙ r.rung;
    stored = inl (ap (λ (s : PortState). s.stored_head) e ∙ stored ∙ sym (ap (λ (s : PortState). s.head) e));
  }
    where
      gained_off : (a b : List PortFault) → a ≡ [] → Gains PowerOff a b → Contains b PowerOff
      gained_off a b nothing (inl more) = contains-more PowerOff a b more
      gained_off a b nothing (inr full) = absurd (let e : length a ≡ 0 = ap length nothing in let m = full.0 in omega (arith, e, m))

  pub sent_cut : commits.IsCutOn old ws tx new → (events : ℕ) × IsCutOn fuse lines n q events new.side
  sent_cut cut = by cut.port
    where
      by : IsCutAt p tx cut.items new.side.port → (events : ℕ) × IsCutOn fuse lines n q events new.side
      by (inl (m, less, e)) = (m, stopped_at m (after_some p tx m cut.items) e (let c = cut.count in omega (arith, less, c, sets)) refl refl refl refl refl r.stored cut.gained)
      by (inr (inl e)) = (length cut.items, stopped_at (length cut.items) (after_some p tx (length cut.items) cut.items) e (let c = cut.count in omega (arith, c, sets)) refl refl refl refl refl r.stored cut.gained)
      by (inr (inr e)) = (let k = length cut.items in (k + 1, stopped_at (k + 1) (after_flush (after_some p tx k cut.items)) e (let c = cut.count in omega (arith, c, sets)) refl refl refl (counted_more p.events k 1) refl refl cut.gained))

-- ---- a drain

pub no_failures : (fs : Failures) (old new : List Command) → new ≡ [] → numbers_of new ≡ numbers_of old ++ map (λ f. f.0) fs → fs ≡ []
no_failures [] old new clean taken = refl
no_failures (f ∷ fs) old new clean taken = absurd (let none = ap length clean in let e = ap length taken ∙ length-append (numbers_of old) (f.0 ∷ map (λ f. f.0) fs) in let z : length (numbers_of new) ≡ 0 = ap (λ (cs : List Command). length (numbers_of cs)) clean in omega (arith, e, z))

-- where all pass, the last leads
last_of_all : (passes : ℕ → Bool) (last : Rung) (ts : List Rung) → ((n : ℕ) → passes n ≡ true) → (last_leading passes last ts).end ≡ last_end last.end ts
last_of_all passes last [] all = refl
last_of_all passes last (t ∷ ts) all = ap (λ (b : Bool). (cond b (last_leading passes t ts) last).end) (all t.end) ∙ last_of_all passes t ts all

all_clear : (p : PortState) → p.posted ≡ [] → p.failed ≡ [] → (n : ℕ) → is_clear p n ≡ true
all_clear p posted failed n = λ i. are_from n (posted i) && are_from n (failed i)

module _ (fuse : FuseName) (lines : List LooseLine) (n q : ℕ) (old new : SideState) (line : line_at lines n ≡ Done q) (some : 0 < waiting_on q lines n) (few : events_on q lines n ≤ 6144) (low : waiting_on q lines n ≤ 1024) (r : HasRunOn fuse lines n q old) (clean : new.port.failed ≡ []) where
  abbrev w : ℕ
  w = waiting_on q lines n

  drain_before : old.port.events ≡ events_on q lines n
  drain_before = r.happened.events_are

  drain_events : events_of_line lines n (Done q) ≡ w + 2
  drain_events = ap (λ (b : Bool). cond b 0 (w + 2)) (ne_eqb w 0 (λ e. absurd (omega (arith, e, some))))

  drain_line : events_of_line lines n (line_at lines n) ≡ w + 2
  drain_line = ap (λ (l : LooseLine). events_of_line lines n l) line ∙ drain_events

  pub drained : (m : ℕ) → Drains old (Ok m) new → DrainMakes old (Ok m) new → DrainCause (Ok m) old.faults new.faults → new.port.head ≡ new.port.doorbell → new.port.head ≤ new.port.stored_head → new.port.stored_head ≤ new.port.doorbell → HasRunOn fuse lines (suc n) q new
  drained m d made faults whole head_low head_high =
      let bell = d.doorbell in
      let moves : eqb old.port.head new.port.head ≡ false = ne_eqb old.port.head new.port.head (λ e. absurd (let a = r.waits in omega (arith, e, whole, bell, a, some))) in
      let sum : new.port.events ≡ old.port.events + (w + 2) =
      made.0 ∙ (λ i. counted old.port.events (r.posted i + cond (moves i) 0 2)) ∙ counted_small old.port.events (w + 2) (omega (arith, drain_before, few, low)) in
      let events = events_own q n (w + 2) lines (Done q) line refl drain_events in
      let waits : waiting_on q lines (suc n) ≡ 0 = ap (λ (l : LooseLine). waiting_after q l w) line ∙ ap (λ (b : Bool). cond b 0 w) (eq-eqb q q refl) in
      let nothing : part q (line_at lines n) ≡ 0 = ap (part q) line in
      let posted : length new.port.posted ≡ 0 = ap length d.ends.4.posted in
      record {
        happened = record {
          fuse_is = d.bound.fuse ∙ r.happened.fuse_is;
          fail = d.bound.fail ∙ r.happened.fail;
          begins = made.1 ∙ r.happened.begins;
          events_are = omega (arith, sum, drain_before, events);
        };
        kept = d.ends.1;
        faults = faults ∙ r.faults;
        stored = omega (arith, whole, head_low, head_high);
        posted = omega (arith, posted, waits);
        waits = omega (arith, whole, waits);
        rung = (let a = r.rung in let b = rung_next q n lines in omega (arith, bell, a, b, nothing));
      }

  pub drain_cut : Drains old (Err cause.Off) new → DrainMakes old (Err cause.Off) new → last_end old.passed.end old.rung ≡ old.port.doorbell → (events : ℕ) × IsCutOn fuse lines n q events new
  drain_cut d made last = by made
    where
      none : d.failures ≡ []
      none = no_failures d.failures old.port.failed new.port.failed clean d.takes.failed

      gained : (fs : Failures) (a b : List PortFault) → fs ≡ [] → AreGained fs a b → b ≡ a
      gained [] a b e same = same
      gained (f ∷ fs) a b e same = absurd (let z : length (f ∷ fs) ≡ 0 = ap length e in omega (arith, z))

      off : Contains new.faults PowerOff
      off = go d.ends.0
        where
          start : d.faults ≡ []
          start = gained d.failures old.faults d.faults none d.takes.gained ∙ r.faults

          go : Gains PowerOff d.faults new.faults → Contains new.faults PowerOff
          go (inl more) = contains-more PowerOff d.faults new.faults more
          go (inr full) = absurd (let e : length d.faults ≡ 0 = ap length start in let m = full.0 in omega (arith, e, m))

      by : DrainMakes old (Err cause.Off) new → (events : ℕ) × IsCutOn fuse lines n q events new
      by (inl c) =
          let k = c.ended.ended in
          let l = c.ended.left in
          let posted = r.posted in
          let bell = d.doorbell in (
            k,
            record {
              few = omega (arith, l, posted, drain_line);
              happened = record {
                fuse_is = d.bound.fuse ∙ r.happened.fuse_is;
                fail = d.bound.fail ∙ r.happened.fail;
                begins = c.ended.made.1 ∙ r.happened.begins;
                events_are = c.ended.made.0 ∙ counted_small old.port.events k (omega (arith, l, posted, low, drain_before, few)) ∙ ap (λ (m : ℕ). m + k) drain_before;
              };
              off = off;
              rung = bell ∙ r.rung;
              stored = inl (c.stored ∙ r.stored ∙ sym c.head);
            },
          )
      by (inr c) =
          let posted = r.posted in
          let bell = d.doorbell in
          let stored : new.port.stored_head ≡ new.port.doorbell = c.stored ∙ ap (λ (t : Rung). t.end) c.passed ∙ last_of_all (is_clear new.port) old.passed old.rung (all_clear new.port c.posted clean) ∙ last ∙ sym bell in (
            length old.port.posted + 1,
            record {
              few = omega (arith, posted, drain_line);
              happened = record {
                fuse_is = d.bound.fuse ∙ r.happened.fuse_is;
                fail = d.bound.fail ∙ r.happened.fail;
                begins = c.made.1 ∙ r.happened.begins;
                events_are = c.made.0 ∙ counted_small old.port.events (length old.port.posted + 1) (omega (arith, posted, low, drain_before, few)) ∙ ap (λ (m : ℕ). m + (length old.port.posted + 1)) drain_before;
              };
              off = off;
              rung = bell ∙ r.rung;
              stored = inr (line, omega (arith, drain_events, posted), stored);
            },
          )
