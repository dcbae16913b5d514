-- Ring, Complete and FailCommand keep what holds of a queue's port.
use Rattle.std.proofs.Common.{◌≡◌, ◌≢◌, ℕ, ◌+◌, ◌<◌, ◌≤◌, ◌%◌, true, false, List, [], ◌∷◌, Some, sym, refl, ap, subst, ◌∙◌, inl, inr, arith}
use Rattle.std.proofs.lemmas.Bool.{cases_lt, cases_eq, cases_order, eq-eqb, false≢true}
use Rattle.std.proofs.lemmas.List.{length-set}
use Rattle.std.specs.List.{remove}
use Rattle.mq_blocks.specs.Drive.{PortState, IsFlushed, IsApartFrom, index_of, staged_end, after_ring}
use Rattle.mq_blocks.specs.Limits.{depth}
use Rattle.mq_blocks.specs.Geometry.{zone_of}
use Rattle.mq_blocks.specs.declared.command.Command.{Command}
use Rattle.mq_ledger.specs.History.{last, upto, map_after}
use Rattle.mq_ledger.specs.Items.{Item, Target, AtPlace, AtHome, command_of, lba_of, end_of, item_at, IsEnd, bytes_of}
use Rattle.mq_ledger.specs.KnownJournal.{KnownJournal, LogOk, front}
use Rattle.mq_ledger.specs.Sides.{Certainly, IsDone, SideOk, home_index, place_index, holds_count}
use Rattle.mq_ledger.specs.declared.tx.Tx.{Tx}
use Rattle.mq_ledger.proofs.Items.{below-at, places_apart}
use Rattle.mq_core.specs.Events.{MayRing, MayEnd, index_with, command_with, complete_side, fail_side}
use Rattle.mq_blocks.proofs.DriveCounts.{counted_append, counted_remove}
use Rattle.mq_blocks.proofs.Ports.{parts_of, port-along}
use Rattle.mq_core.proofs.SidesCommands.{count-with, own_with, own_remove, own_append, counted_next, count_range, from_append, left_out, taken_out, held_append, held_remove, next_holds, apart_own}
use Rattle.mq_core.proofs.EventsPorts.{index-place, index-zone, zone-apart, certainly_ring, certainly_complete, certainly_fail, certainly_new}
use Rattle.mq_core.proofs.KnownJournalSources.{DirectIn, direct_in, direct-zone, unneeded, clash}

-- ---- blocks of commands that aren't completed

module _ (k : KnownJournal) (q : ℕ) (txs : List Tx) (p : PortState) (log : LogOk k) (s : SideOk k q txs p) where
  abbrev pub at : ℕ → Item
  at c = item_at (k.from q) txs c

  abbrev pub block_of : ℕ → ℕ
  block_of n = index_of p (lba_of k.geometry q (at n).target)

  -- the entry stands at or past the stored head, and is drawn
  abbrev pub IsLate : ℕ → Type 0
  IsLate n = (p.stored_head ≤ n) × (n < end_of (k.from q) txs)

  pub late_direct : (n x : ℕ) → IsLate n → (at n).target ≡ AtHome x → DirectIn k q txs n x
  late_direct n x l e = direct_in k q txs n x s.part (let o = s.order in omega (arith, l.0, o.head_low, o.stored)) l.1 e

  -- it is apart from the place of another entry above the base
  apart_place : (n c place : ℕ) → IsLate n → end_of (k.from q) (upto k.word txs) ≤ c → c < end_of (k.from q) txs → c ≢ n → (at c).target ≡ AtPlace place → block_of n ≢ place_index k.geometry place
  apart_place n c place l low high other e = go (at n).target refl
    where
      go : (target : Target) → (at n).target ≡ target → index_of p (lba_of k.geometry q target) ≢ place_index k.geometry place
      go (AtPlace r) f same =
          let o = s.order in
          let based = s.based in
          let i = (index-place k.geometry q r p s.port s.queue).0 in
          let same' : r % k.geometry.area ≡ place % k.geometry.area = sym i ∙ same in
          elim (cases_order c n) [
            | inl is ↦ other is
            | inr (inl less) ↦ places_apart k.geometry.area k.word (k.from q) txs c n place r s.area.fits (omega arith) low less l.1 e f (sym same')
            | inr (inr more) ↦ places_apart k.geometry.area k.word (k.from q) txs n c r place s.area.fits (omega (arith, l.0, o.head_low, o.stored)) (omega (arith, l.0, o.stored)) more high f e same'
          ]
      go (AtHome x) f same =
          let d = late_direct n x l f in
          let i = index-zone k.geometry q x p s.port (direct-zone k q txs n x log d).0 in
          let j = (index-place k.geometry q place p s.port s.queue).1 in
          omega (arith, i.0, i.1)

  -- it is apart from a block of the zone that it doesn't write
  pub apart_home : (n x : ℕ) → IsLate n → zone_of k.geometry x ≡ Some q → (DirectIn k q txs n x → ⊥) → block_of n ≢ home_index k.geometry x
  apart_home n x l zone other = go (at n).target refl
    where
      go : (target : Target) → (at n).target ≡ target → index_of p (lba_of k.geometry q target) ≢ home_index k.geometry x
      go (AtPlace r) f same =
          let i = index-place k.geometry q r p s.port s.queue in
          let j = index-zone k.geometry q x p s.port zone in
          omega (arith, i.0, i.1, j.1)
      go (AtHome y) f same =
          let d = late_direct n y l f in
          let z = (direct-zone k q txs n y log d).0 in
          let i = (index-zone k.geometry q y p s.port z).0 in
          let is : y ≡ x = zone-apart k.geometry q y x z zone (sym i ∙ same) in
          other (late_direct n x l (f ∙ ap AtHome is))

  -- what a kept direct write and a due block need is apart from it
  apart_direct : (n c x : ℕ) → IsLate n → k.from q ≤ c → c < end_of (k.from q) txs → c ≢ n → (at c).target ≡ AtHome x → last k.base (upto (front k) k.history) x ≤ (at c).number → block_of n ≢ home_index k.geometry x
  apart_direct n c x l low high other e m =
      let b = direct_in k q txs c x s.part low high e in
      let number = b.number in
      apart_home n x l (direct-zone k q txs c x log b).0 (λ a. clash k q txs p n c x log s l.0 a b (omega (arith, number)) other)

  apart_due : (n x v : ℕ) (content : List ℕ) → IsLate n → zone_of k.geometry x ≡ Some q → k.due x v ≡ true → map_after k.start (upto v k.history) x ≡ Some content → last k.base (upto (front k) k.history) x ≤ v → block_of n ≢ home_index k.geometry x
  apart_due n x v content l zone due there m = apart_home n x l zone (λ a. unneeded k q txs p n x v content log s l.0 a (log.due x v due) m there)

  -- ---- the doorbell is at the staged end

  rung_late : (n : ℕ) → holds_count n p.pending ≡ true → IsLate n × (p.doorbell ≤ n)
  rung_late n held =
      let o = s.order in
      let r = count_range p.doorbell (staged_end p) n p.pending (counted_next p.doorbell p.pending s.commands.pending_counts) held in
      ((omega (arith, r.0, o.rung), omega (arith, r.1, o.drawn)), r.0)

  pending_apart : (index : ℕ) → ((n : ℕ) → IsLate n → p.doorbell ≤ n → block_of n ≢ index) → IsApartFrom p index p.pending
  pending_apart index each = apart_own k.entries.form p k.geometry q (k.from q) txs index p.pending s.commands.pending (λ n held. let l = rung_late n held in each n l.0 l.1)

  -- what is done after the ring was done before it
  done_before : (c : ℕ) → IsDone (after_ring p) c → IsDone p c
  done_before c d =
      let parts = held_append c p.posted p.pending d.posted in
      let rung = d.rung in
      record {
        rung = elim (cases_lt c p.doorbell) [
          | inl less ↦ less
          | inr past ↦ absurd (false≢true (sym parts.1 ∙ next_holds p.doorbell c p.pending s.commands.pending_counts past rung))
        ];
        posted = parts.0;
        failed = d.failed;
      }

  end-all : IsEnd (k.from q) txs (end_of (k.from q) txs)
  end-all = go txs
    where
      go : (ws : List Tx) → IsEnd (k.from q) ws (end_of (k.from q) ws)
      go [] = omega arith
      go (t ∷ ws) = rw (below-at (k.from q) (end_of (k.from q) (t ∷ ws)) t ws (omega arith)) refl

  pub side_ring : MayRing (k.from q) txs p → SideOk k q txs (after_ring p)
  side_ring may =
      let o = s.order in
      let drawn = may.drawn in
      let whole = may.whole in
      let flushed = may.flushed in
      let all : (n : ℕ) → IsFlushed p n = λ n c low high. absurd (omega arith) in
      let ring_end : staged_end (after_ring p) ≡ staged_end p = omega arith in
      record {
        queue = s.queue;
        part = s.part;
        port = port-along s.port refl;
        order = record {
          head_low = o.head_low;
          stored = o.stored;
          rung = omega (arith, o.rung, o.flushed, o.staged);
          flushed = omega arith;
          staged = omega (arith, ring_end);
          drawn = omega (arith, ring_end);
          room = o.room;
        };
        limit = s.limit;
        ends = record { head = s.ends.head; stored = s.ends.stored; doorbell = subst (λ h. IsEnd (k.from q) txs h) (sym whole) end-all };
        ring = record {
          settled = λ n f. s.ring.settled n (all n);
          start = s.ring.start;
          rung = λ c low near high. elim (cases_lt c p.doorbell) [
            | inl less ↦ s.ring.rung c low near less
            | inr past ↦ ap k.entries.says (sym (s.ring.settled (c % depth) (all (c % depth)))) ∙ s.ring.waits c past high
          ];
          waits = λ c low high. absurd (omega (arith, ring_end));
        };
        commands = record {
          pending = tt;
          pending_counts = tt;
          posted = own_append k.entries.form k.geometry q (k.from q) txs p.posted p.pending s.commands.posted s.commands.pending;
          posted_counts = counted_append p.stored_head p.doorbell (staged_end p) p.posted p.pending o.rung (omega arith) s.commands.posted_counts (counted_next p.doorbell p.pending s.commands.pending_counts);
          failed = s.commands.failed;
          failed_counts = s.commands.failed_counts;
        };
        area = record {
          fits = s.area.fits;
          limit = s.area.limit;
          holds = λ c place low d target.
              let before = done_before c d in
              let rung = before.rung in
              certainly_ring p _ _ (pending_apart _ (λ n l past. apart_place n c place l low (omega (arith, o.flushed, o.staged, o.drawn)) (λ e. omega arith) target)) (s.area.holds c place low before target);
        };
        based = s.based;
        done = s.done;
        direct = λ c x low d target m.
            let before = done_before c d in
            let rung = before.rung in
            certainly_ring p _ _ (pending_apart _ (λ n l past. apart_direct n c x l low (omega (arith, o.flushed, o.staged, o.drawn)) (λ e. omega arith) target m)) (s.direct c x low before target m);
        homes = λ x v content block zone due there m.
            certainly_ring p _ _ (pending_apart _ (λ n l past. apart_due n x v content l zone due there m)) (s.homes x v content block zone due there m);
      }

  -- ---- a command ends

  pub posted_late : (n : ℕ) → holds_count n p.posted ≡ true → IsLate n × (n < p.doorbell)
  posted_late n held =
      let o = s.order in
      let r = count_range p.stored_head p.doorbell n p.posted s.commands.posted_counts held in
      ((r.0, omega (arith, r.1, o.flushed, o.staged, o.drawn)), r.1)

  module _ (n : ℕ) (may : MayEnd n p) where
    abbrev left : List Command
    left = remove p.posted (index_with n p.posted)

    own : command_with n p.posted ≡ command_of k.entries.form k.geometry q n (at n)
    own = own_with k.entries.form k.geometry q (k.from q) n txs p.posted s.commands.posted may

    -- the other posted commands write elsewhere
    left_apart : (index : ℕ) → ((d : ℕ) → IsLate d → n ≢ d → block_of d ≢ index) → IsApartFrom p index left
    left_apart index each =
        apart_own k.entries.form p k.geometry q (k.from q) txs index left (own_remove k.entries.form k.geometry q (k.from q) txs (index_with n p.posted) p.posted s.commands.posted) (λ d held.
        each d (posted_late d (held_remove d (index_with n p.posted) p.posted held)).0 (λ e. false≢true (sym (taken_out p.stored_head p.doorbell n p.posted s.commands.posted_counts) ∙ ap (λ m. holds_count m left) e ∙ held)))

    ended : PortState
    ended = complete_side n p

    -- what is done after it was done before, or is this one
    done_then : (c : ℕ) → c ≢ n → IsDone (complete_side n p) c → IsDone p c
    done_then c other d = record { rung = d.rung; posted = left_out n c p.posted other d.posted; failed = d.failed }

    -- what it wrote
    new : (index : ℕ) → block_of n ≡ index → index < k.geometry.area + k.geometry.zone → ((d : ℕ) → IsLate d → n ≢ d → block_of d ≢ index) → Certainly (complete_side n p) index (bytes_of k.entries.form (at n).content)
    new index is small each =
        let long = s.port.certain in
        let wide = s.port.blocks in
        subst (λ (v : List ℕ). Certainly (complete_side n p) index v) (ap (λ (c : Command). c.block) own)
        (certainly_new p n index (ap (λ (c : Command). index_of p c.lba) own ∙ is) (omega arith) (omega arith) (left_apart index each))

    pub side_complete : SideOk k q txs (complete_side n p)
    side_complete =
        let o = s.order in
        let l = posted_late n may in
        record {
          queue = s.queue;
          part = s.part;
          port = port-along s.port (λ i. record (parts_of p) { blocks = length-set p.blocks (index_of p (command_with n p.posted).lba) (Some (command_with n p.posted).block) i; certain = length-set p.certain (index_of p (command_with n p.posted).lba) true i });
          order = record { head_low = o.head_low; stored = o.stored; rung = o.rung; flushed = o.flushed; staged = o.staged; drawn = o.drawn; room = o.room };
          limit = s.limit;
          ends = record { head = s.ends.head; stored = s.ends.stored; doorbell = s.ends.doorbell };
          ring = record { settled = s.ring.settled; start = s.ring.start; rung = s.ring.rung; waits = s.ring.waits };
          commands = record {
            pending = s.commands.pending;
            pending_counts = s.commands.pending_counts;
            posted = own_remove k.entries.form k.geometry q (k.from q) txs (index_with n p.posted) p.posted s.commands.posted;
            posted_counts = counted_remove p.stored_head p.doorbell (index_with n p.posted) p.posted s.commands.posted_counts;
            failed = s.commands.failed;
            failed_counts = s.commands.failed_counts;
          };
          area = record {
            fits = s.area.fits;
            limit = s.area.limit;
            holds = λ c place low d target. elim (cases_eq c n) [
              | inl same ↦
                  let target' : (at n).target ≡ AtPlace place = rw (← same) target in
                  let i = index-place k.geometry q place p s.port s.queue in
                  let is : block_of n ≡ place_index k.geometry place = ap (λ (t : Target). index_of p (lba_of k.geometry q t)) target' ∙ i.0 in
                  rw same (new (place_index k.geometry place) is (omega (arith, i.1)) (λ e late other. apart_place e n place late (rw same at low) l.0.1 other target'))
              | inr other ↦ certainly_complete p n _ _ may (s.area.holds c place low (done_then c other d) target)
            ];
          };
          based = s.based;
          done = s.done;
          direct = λ c x low d target m. elim (cases_eq c n) [
            | inl same ↦
                let target' : (at n).target ≡ AtHome x = rw (← same) target in
                let m' : last k.base (upto (front k) k.history) x ≤ (at n).number = rw (← same) m in
                let b = direct_in k q txs n x s.part (rw same at low) l.0.1 target' in
                let i = index-zone k.geometry q x p s.port (direct-zone k q txs n x log b).0 in
                let is : block_of n ≡ home_index k.geometry x = ap (λ (t : Target). index_of p (lba_of k.geometry q t)) target' ∙ i.0 in
                rw same (new (home_index k.geometry x) is i.2 (λ e late other. apart_direct e n x late (rw same at low) l.0.1 other target' m'))
            | inr other ↦ certainly_complete p n _ _ may (s.direct c x low (done_then c other d) target m)
          ];
          homes = λ x v content block zone due there m. certainly_complete p n _ _ may (s.homes x v content block zone due there m);
        }

    -- what is done after a failure was done before, and isn't this one
    done_still : (c : ℕ) → IsDone (fail_side n p) c → IsDone p c
    done_still c d =
        let parts = held_append c p.failed (command_with n p.posted ∷ []) d.failed in
        let other : c ≢ n = λ e. false≢true (sym parts.1 ∙ rw (eq-eqb _ _ (count-with n p.posted may ∙ sym e)) refl) in
        record { rung = d.rung; posted = left_out n c p.posted other d.posted; failed = parts.0 }

    pub side_fail : SideOk k q txs (fail_side n p)
    side_fail =
        let o = s.order in
        let l = posted_late n may in
        let count : (command_with n p.posted).count ≡ n = count-with n p.posted may in
        let mine : command_with n p.posted ≡ command_of k.entries.form k.geometry q (command_with n p.posted).count (at (command_with n p.posted).count) = own ∙ ap (λ m. command_of k.entries.form k.geometry q m (at m)) (sym count) in
        record {
          queue = s.queue;
          part = s.part;
          port = port-along s.port (λ i. record (parts_of p) { certain = length-set p.certain (index_of p (command_with n p.posted).lba) false i });
          order = record { head_low = o.head_low; stored = o.stored; rung = o.rung; flushed = o.flushed; staged = o.staged; drawn = o.drawn; room = o.room };
          limit = s.limit;
          ends = record { head = s.ends.head; stored = s.ends.stored; doorbell = s.ends.doorbell };
          ring = record { settled = s.ring.settled; start = s.ring.start; rung = s.ring.rung; waits = s.ring.waits };
          commands = record {
            pending = s.commands.pending;
            pending_counts = s.commands.pending_counts;
            posted = own_remove k.entries.form k.geometry q (k.from q) txs (index_with n p.posted) p.posted s.commands.posted;
            posted_counts = counted_remove p.stored_head p.doorbell (index_with n p.posted) p.posted s.commands.posted_counts;
            failed = own_append k.entries.form k.geometry q (k.from q) txs p.failed (command_with n p.posted ∷ []) s.commands.failed (mine, tt);
            failed_counts = from_append p.stored_head p.failed (command_with n p.posted ∷ []) s.commands.failed_counts (omega (arith, count, l.0.0), tt);
          };
          area = record { fits = s.area.fits; limit = s.area.limit; holds = λ c place low d target. certainly_fail p n _ _ may (s.area.holds c place low (done_still c d) target) };
          based = s.based;
          done = s.done;
          direct = λ c x low d target m. certainly_fail p n _ _ may (s.direct c x low (done_still c d) target m);
          homes = λ x v content block zone due there m. certainly_fail p n _ _ may (s.homes x v content block zone due there m);
        }
