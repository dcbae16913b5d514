-- The refusals of a transaction: how many events came before each, and what it leaves.
use Rattle.std.proofs.Common.{◌≡◌, ◌<◌, ◌≤◌, ◌⊎◌, ⊎_elim, inl, inr, ℕ, ◌+◌, ◌*◌, [], ◌++◌, length, get_or, refl, sym, ◌∙◌, ap, subst, arith}
use Rattle.mq_blocks.specs.Drive.{PortState, PortImage, IsImage, IsQuiescent, counted, staged_end, after_flush, after_ring, after_store_head}
use Rattle.mq_blocks.specs.Limits.{depth, usable_depth}
use Rattle.mq_blocks.specs.declared.geometry.Geometry.{Geometry}
use Rattle.mq_drive.specs.Start.{IsPortOf}
use Rattle.mq_drive.specs.declared.role.Role.{Role}
use Rattle.mq_drive.proofs.StartRolePorts.{flush-port, ring-port}
use Rattle.mq_command_blocks.specs.Cuts.{HasBounds, HasEnded, IsCut, nearly_done, rung_by}
use Rattle.mq_pmr.specs.Runs.{Items, commands_of, after_some}
use Rattle.mq_command_blocks.specs.Runs.{after_all, after_line}
use Rattle.mq_command_blocks.proofs.CutsEvents.{counted-counted, rung_all, rung_none}
use Rattle.mq_command_blocks.proofs.Cuts.{port_stored, port_ended, port_some, early_some, early_flushed, early_ended, early_all}
use Rattle.mq_command_blocks.proofs.CutsEnded.{ended_all}
use Rattle.mq_command_blocks.proofs.RunsLines.{staged_all}
use Rattle.mq_pmr.proofs.Runs.{length-commands}

bounds_ended : (s t u : PortState) (n : ℕ) → HasBounds s t → HasEnded t u n → HasBounds s u
bounds_ended s t u n bounds ended = subst (HasBounds s) (sym ended.is) (record { fuse = bounds.fuse; fail = bounds.fail; begins = bounds.begins })

pub bounds_then : (s t u : PortState) → HasBounds s t → HasBounds t u → HasBounds s u
bounds_then s t u first second = record { fuse = second.fuse ∙ first.fuse; fail = second.fail ∙ first.fail; begins = second.begins ∙ first.begins }

pub bounds_line : (s : PortState) (tx : ℕ) (items : Items) → HasBounds s (after_line s tx items)
unfolding after_line
bounds_line s tx items = record { fuse = refl; fail = refl; begins = refl }

-- Where the head is stored and not flushed, an image is one of before the store or one of after the
-- flush.
pub nearly_image : (s : PortState) (tx : ℕ) (items : Items) (i : PortImage) → IsImage (nearly_done s tx items) i
    → IsImage (after_all (after_ring (after_flush (after_some s tx (length items) items)))) i ⊎ IsImage (after_line s tx items) i
unfolding nearly_done after_line
nearly_image s tx items i is = ⊎_elim
    (λ old. inl record {
      doorbell = is.doorbell;
      head = inl old;
      base = is.base;
      slots_len = is.slots_len;
      slots = is.slots;
      blocks_len = is.blocks_len;
      blocks = λ k within certain. is.blocks k within (record { certain = certain.certain; apart = tt });
    })
    (λ stored. inr record {
      doorbell = is.doorbell;
      head = inl stored;
      base = is.base;
      slots_len = is.slots_len;
      slots = λ k within flushed. is.slots k within (λ c low high. absurd (omega arith));
      blocks_len = is.blocks_len;
      blocks = λ k within certain. is.blocks k within (record { certain = certain.certain; apart = tt });
    })
    is.head

pub stored_past : (s : PortState) (tx : ℕ) (items : Items) (t : PortState) (head : ℕ) → t ≡ after_all (after_ring (after_flush (after_some s tx (length items) items)))
    → head ≡ staged_end s + length items → after_store_head t head ≡ nearly_done s tx items
unfolding nearly_done
stored_past s tx items t head is at = λ i. after_store_head (is i) (at i)

module _ (s : PortState) (tx : ℕ) (items : Items) (quiet : IsQuiescent s) where
  rung_count : length (after_ring (after_flush (after_some s tx (length items) items))).posted ≡ length items
  rung_count = (λ i. length (quiet.posted i ++ (quiet.pending i ++ commands_of tx (staged_end s) (length items) items))) ∙ length-commands tx (staged_end s) items

  -- the events up to where the last command has ended, and n more
  counts : (n : ℕ) → counted (after_all (after_ring (after_flush (after_some s tx (length items) items)))).events n ≡ counted s.events (2 * length items + 2 + n)
  counts n =
      let sum : length items + 2 + length items + n ≡ 2 * length items + 2 + n = omega arith in
      ap (λ (m : ℕ). counted (counted (counted (counted s.events (length items)) 2) m) n) rung_count
      ∙ ap (λ (m : ℕ). counted (counted m (length items)) n) (counted-counted s.events (length items) 2)
      ∙ ap (λ (m : ℕ). counted m n) (counted-counted s.events (length items + 2) (length items))
      ∙ counted-counted s.events (length items + 2 + length items) n
      ∙ ap (counted s.events) sum

  events_all : (after_all (after_ring (after_flush (after_some s tx (length items) items)))).events ≡ counted s.events (2 * length items + 2)
  events_all = let sum : 2 * length items + 2 + 0 ≡ 2 * length items + 2 = omega arith in counts 0 ∙ ap (counted s.events) sum

  events_nearly : (nearly_done s tx items).events ≡ counted s.events (2 * length items + 3)
  unfolding nearly_done
  events_nearly = let sum : 2 * length items + 2 + 1 ≡ 2 * length items + 3 = omega arith in counts 1 ∙ ap (counted s.events) sum

  pub events_line : (after_line s tx items).events ≡ counted s.events (2 * length items + 4)
  unfolding after_line
  events_line = let sum : 2 * length items + 2 + 2 ≡ 2 * length items + 4 = omega arith in counts 2 ∙ ap (counted s.events) sum

  -- before the ring the doorbell is where it was
  still : (k : ℕ) → k < length items + 2 → s.doorbell ≡ s.doorbell + rung_by (length items) k
  still k less = let none = rung_none (length items) k less in omega (arith, none)

  -- with it, past the items
  moved : (k : ℕ) → length items + 2 ≤ k → (after_ring (after_flush (after_some s tx (length items) items))).doorbell ≡ s.doorbell + rung_by (length items) k
  moved k more = staged_all s tx items quiet ∙ ap (λ (n : ℕ). s.doorbell + n) (sym (rung_all (length items) k more))

  pub port_all : (g : Geometry) (role : Role) → IsPortOf g role s → IsPortOf g role (after_all (after_ring (after_flush (after_some s tx (length items) items))))
  port_all g role port =
      let rung : PortState = after_ring (after_flush (after_some s tx (length items) items)) in
      port_ended g role rung _ _ (ended_all rung) (ring-port g role _ (flush-port g role _ (port_some s tx items quiet g role (length items) port)))

  module _ (done : s.head ≡ s.doorbell) (settled : (k : ℕ) → k < depth → get_or s.flushed k [] ≡ get_or s.staged k []) (room : length items ≤ usable_depth) (new : PortState) where
    pub cut_staging : (k : ℕ) → k ≤ length items → new ≡ after_some s tx k items → IsCut s new tx items k
    cut_staging k few is = subst (λ (u : PortState). IsCut s u tx items k) (sym is) record {
      events_are = refl;
      rung_is = still k (omega arith);
      bounds = record { fuse = refl; fail = refl; begins = refl };
      port = λ g role port. port_some s tx items quiet g role k port;
      stage = inl (early_some s tx items quiet done settled room k, omega arith);
    }

    pub cut_flushed : new ≡ after_flush (after_some s tx (length items) items) → IsCut s new tx items (length items + 1)
    cut_flushed is = subst (λ (u : PortState). IsCut s u tx items (length items + 1)) (sym is) record {
      events_are = counted-counted s.events (length items) 1;
      rung_is = still (length items + 1) (omega arith);
      bounds = record { fuse = refl; fail = refl; begins = refl };
      port = λ g role port. flush-port g role _ (port_some s tx items quiet g role (length items) port);
      stage = inl (early_flushed s tx items quiet done settled room, omega arith);
    }

    pub cut_ended : (t : PortState) (n : ℕ) → t ≡ after_ring (after_flush (after_some s tx (length items) items)) → HasEnded t new n → IsCut s new tx items (length items + 2 + n)
    cut_ended t n is ended =
        let rung : PortState = after_ring (after_flush (after_some s tx (length items) items)) in
        let at : HasEnded rung new n = subst (λ (u : PortState). HasEnded u new n) is ended in
        let few : n ≤ length items = omega (arith, at.left, rung_count) in
        record {
          events_are = ap (λ (u : PortState). u.events) at.is ∙ ap (λ (m : ℕ). counted m n) (counted-counted s.events (length items) 2) ∙ counted-counted s.events (length items + 2) n;
          rung_is = ap (λ (u : PortState). u.doorbell) at.is ∙ moved (length items + 2 + n) (omega arith);
          bounds = bounds_ended s rung new n (record { fuse = refl; fail = refl; begins = refl }) at;
          port = λ g role port. port_ended g role rung new n at (ring-port g role _ (flush-port g role _ (port_some s tx items quiet g role (length items) port)));
          stage = inl (early_ended s tx items quiet done settled room new n at, omega arith);
        }

    pub cut_all : new ≡ after_all (after_ring (after_flush (after_some s tx (length items) items))) → IsCut s new tx items (2 * length items + 2)
    cut_all is = subst (λ (u : PortState). IsCut s u tx items (2 * length items + 2)) (sym is) record {
      events_are = events_all;
      rung_is = moved (2 * length items + 2) (omega arith);
      bounds = record { fuse = refl; fail = refl; begins = refl };
      port = port_all;
      stage = inl (early_all s tx items quiet done settled room, omega arith);
    }

    pub cut_stored : new ≡ nearly_done s tx items → IsCut s new tx items (2 * length items + 3)
    unfolding nearly_done
    cut_stored is =
        let rung : PortState = after_ring (after_flush (after_some s tx (length items) items)) in
        record {
          events_are = ap (λ (u : PortState). u.events) is ∙ events_nearly;
          rung_is = ap (λ (u : PortState). u.doorbell) is ∙ moved (2 * length items + 3) (omega arith);
          bounds = subst (HasBounds s) (sym is) record { fuse = refl; fail = refl; begins = refl };
          port = λ g role port. subst (λ (u : PortState). IsPortOf g role u) (sym is)
              (port_stored g role (after_all rung) (staged_end s + length items) (port_all g role port));
          stage = inr (is, refl);
        }
