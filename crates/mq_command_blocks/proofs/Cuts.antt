-- States in the middle of a transaction: what is certain in them, and that they are the port's.
use Rattle.std.proofs.Common.{◌≡◌, ◌≢◌, ◌<◌, ◌≤◌, inl, inr, ℕ, zero, suc, ◌+◌, ◌-◌, ◌%◌, List, [], ◌∷◌, ◌++◌, length, set, get_or, refl, sym, ◌∙◌, ap, subst, arith, add-zero, length-append}
use Rattle.std.proofs.lemmas.List.{get_or-set_other}
use Rattle.std.proofs.lemmas.Nat.{mod_below}
use Rattle.mq_blocks.specs.Drive.{PortState, IsQuiescent, IsFlushed, IsApartFrom, index_of, staged_end, after_flush, after_ring, after_store_head}
use Rattle.mq_blocks.specs.Limits.{depth, usable_depth}
use Rattle.mq_blocks.specs.declared.command.Command.{Command}
use Rattle.mq_blocks.specs.declared.geometry.Geometry.{Geometry}
use Rattle.mq_blocks.proofs.Ports.{parts_of}
use Rattle.mq_drive.specs.Start.{IsPortOf}
use Rattle.mq_drive.specs.declared.role.Role.{Role}
use Rattle.mq_drive.specs.declared.role.Role.TheVariants.{Queue}
use Rattle.mq_drive.proofs.StartRolePorts.{port_of-along}
use Rattle.mq_command_blocks.specs.Cuts.{HasEnded, IsEarly}
use Rattle.mq_pmr.specs.Runs.{Items, commands_of, slots_with, entry_at, after_some}
use Rattle.mq_command_blocks.specs.Runs.{IsApart, IsNewIn, after_all}
use Rattle.mq_command_blocks.proofs.CutsEnded.{ended_all}
use Rattle.mq_command_blocks.proofs.RunsJournalItems.{length-slots_with}
use Rattle.mq_command_blocks.proofs.RunsLines.{staged_all}
use Rattle.mq_pmr.proofs.Runs.{other_slot}

-- ---- slots and commands

-- a slot in which nothing is staged
pub slots_other : (slots : List (List ℕ)) (tx at k q : ℕ) (items : Items) → ((c : ℕ) → at ≤ c → c < at + length (commands_of tx at k items) → c % depth ≢ q)
    → get_or (slots_with slots tx at k items) q [] ≡ get_or slots q []
slots_other slots tx at zero q items other = refl
slots_other slots tx at (suc k) q [] other = refl
slots_other slots tx at (suc k) q (i ∷ is) other =
    slots_other (set slots (at % depth) (entry_at tx at i.0 is)) tx (at + 1) k q is (λ c low high. other c (omega arith) (omega arith))
    ∙ get_or-set_other slots (at % depth) q (entry_at tx at i.0 is) [] (λ same. other at (omega arith) (omega arith) (sym same))

pub few_commands : (tx at k : ℕ) (items : Items) → length (commands_of tx at k items) ≤ length items
few_commands tx at zero items = omega arith
few_commands tx at (suc k) [] = omega arith
few_commands tx at (suc k) (i ∷ is) = omega (arith, few_commands tx (at + 1) k is)

apart_commands_of : (at : ℕ → ℕ) (j tx n k : ℕ) (items : Items) → IsNewIn at j items → IsApart at j (commands_of tx n k items)
apart_commands_of at j tx n zero items new = tt
apart_commands_of at j tx n (suc k) [] new = tt
apart_commands_of at j tx n (suc k) (i ∷ is) new = (new.0, apart_commands_of at j tx (n + 1) k is new.1)

pub apart_from : (s : PortState) (k : ℕ) (cs : List Command) → IsApart (index_of s) k cs → IsApartFrom s k cs
apart_from s k [] apart = tt
apart_from s k (c ∷ cs) apart = ((λ same. apart.0 (sym same)), apart_from s k cs apart.1)

-- ---- the port

pub port_stored : (g : Geometry) (role : Role) (s : PortState) (head : ℕ) → IsPortOf g role s → IsPortOf g role (after_store_head s head)
port_stored g role s head port = port_of-along port refl port.settled

pub port_ended : (g : Geometry) (role : Role) (s t : PortState) (n : ℕ) → HasEnded s t n → IsPortOf g role s → IsPortOf g role t
port_ended g role s t n ended port = subst (IsPortOf g role) (sym ended.is) (port_of-along port (λ i. record (parts_of s) { blocks = ended.blocks_len i; certain = ended.certain_len i }) port.settled)

-- what a quiet queue's port has staged is flushed
pub settled_port : (g : Geometry) (s : PortState) → IsPortOf g (Queue 0) s → IsQuiescent s → (k : ℕ) → k < depth → get_or s.flushed k [] ≡ get_or s.staged k []
settled_port g s port quiet k within =
    let at : staged_end s ≡ s.doorbell = ap (λ (l : List Command). s.doorbell + length l) quiet.pending ∙ add-zero s.doorbell in
    port.settled k (let ring = port.flushed in omega arith) (λ c low high. absurd (let old = quiet.flushed_end in omega arith))

-- nothing is under way
pub early_none : (s : PortState) → IsQuiescent s → IsEarly s s 0 []
early_none s quiet =
    let start : staged_end s ≡ s.doorbell = ap (λ (l : List Command). s.doorbell + length l) quiet.pending ∙ add-zero s.doorbell in
    record {
      head = refl;
      stored = quiet.head;
      slot = λ some. refl;
      slot_flushed = λ some c low high. absurd (let end = quiet.flushed_end in omega arith);
      blocks = λ k new. refl;
      certain = λ k within new. record { certain = quiet.certain k within; apart = subst (IsApartFrom s k) (sym quiet.posted) tt };
      rung = inl refl;
    }

module _ (s : PortState) (tx : ℕ) (items : Items) (quiet : IsQuiescent s) where
  pub start : staged_end s ≡ s.doorbell
  start = ap (λ (l : List Command). s.doorbell + length l) quiet.pending ∙ add-zero s.doorbell

  end_some : (k : ℕ) → staged_end (after_some s tx k items) ≡ staged_end s + length (commands_of tx (staged_end s) k items)
  end_some k = let long = length-append s.pending (commands_of tx (staged_end s) k items) in omega (arith, long)

  pub port_some : (g : Geometry) (role : Role) (k : ℕ) → IsPortOf g role s → IsPortOf g role (after_some s tx k items)
  port_some g role k port =
      let size = length-slots_with s.staged tx (staged_end s) k items in
      let old = quiet.flushed_end in
      port_of-along port (λ i. record (parts_of s) { staged = size i }) (λ q within flushed.
      port.settled q within (λ c low high. absurd (let at = start in omega arith))
      ∙ sym (slots_other s.staged tx (staged_end s) k q items (λ c low high. flushed c (let at = start in omega arith) (let end = end_some k in omega arith))))

  no_posted : (j : ℕ) (t : PortState) → t.posted ≡ s.posted → IsApartFrom t j t.posted
  no_posted j t same = subst (IsApartFrom t j) (sym (same ∙ quiet.posted)) tt

  module _ (done : s.head ≡ s.doorbell) (settled : (k : ℕ) → k < depth → get_or s.flushed k [] ≡ get_or s.staged k []) (room : length items ≤ usable_depth) where
    same_slot : 0 < s.head → get_or (slots_with s.staged tx (staged_end s) (length items) items) ((s.head - 1) % depth) [] ≡ get_or s.flushed ((s.head - 1) % depth) []
    same_slot some =
        slots_other s.staged tx (staged_end s) (length items) ((s.head - 1) % depth) items
        (λ c low high. other_slot s.head c some (let at = start in omega arith) (let at = start in let few = few_commands tx (staged_end s) (length items) items in omega arith))
        ∙ sym (settled ((s.head - 1) % depth) (mod_below (s.head - 1) depth (omega arith)))

    pub early_some : (k : ℕ) → IsEarly s (after_some s tx k items) tx items
    early_some k = record {
      head = refl;
      stored = quiet.head;
      slot = λ some. refl;
      slot_flushed = λ some c low high. other_slot s.head c some (let old = quiet.flushed_end in omega arith)
          (let at = start in let end = end_some k in let few = few_commands tx (staged_end s) k items in omega arith);
      blocks = λ j new. refl;
      certain = λ j within new. record { certain = quiet.certain j within; apart = no_posted j (after_some s tx k items) refl };
      rung = inl refl;
    }

    pub early_flushed : IsEarly s (after_flush (after_some s tx (length items) items)) tx items
    early_flushed = record {
      head = quiet.head;
      stored = quiet.head;
      slot = same_slot;
      slot_flushed = λ some c low high. absurd (omega arith);
      blocks = λ j new. refl;
      certain = λ j within new. record { certain = quiet.certain j within; apart = no_posted j (after_flush (after_some s tx (length items) items)) refl };
      rung = inl refl;
    }

    -- the commands that are rung are those of the items
    rung_apart : (j : ℕ) → IsNewIn (index_of s) j items → IsApart (index_of s) j (after_ring (after_flush (after_some s tx (length items) items))).posted
    rung_apart j new =
        subst (IsApart (index_of s) j) (sym (λ i. quiet.posted i ++ (quiet.pending i ++ commands_of tx (staged_end s) (length items) items)))
        (apart_commands_of (index_of s) j tx (staged_end s) (length items) items new)

    pub early_ended : (new : PortState) (n : ℕ) → HasEnded (after_ring (after_flush (after_some s tx (length items) items))) new n → IsEarly s new tx items
    early_ended new n ended =
        let flushed : (q : ℕ) → IsFlushed new q = λ q. subst (λ (u : PortState). IsFlushed u q) (sym ended.is) (λ c low high. absurd (omega arith)) in
        let at : index_of new ≡ index_of s = ap index_of ended.is in
        record {
          head = ap (λ (u : PortState). u.head) ended.is ∙ quiet.head;
          stored = ap (λ (u : PortState). u.stored_head) ended.is ∙ quiet.head;
          slot = λ some. ap (λ (u : PortState). get_or u.flushed ((s.head - 1) % depth) []) ended.is ∙ same_slot some;
          slot_flushed = λ some. flushed ((s.head - 1) % depth);
          blocks = λ j apart. ended.blocks j (rung_apart j apart);
          certain = λ j within apart. record {
            certain = ended.certain j (rung_apart j apart) ∙ quiet.certain j within;
            apart = apart_from new j new.posted (subst (λ (f : ℕ → ℕ). IsApart f j new.posted) (sym at) (ended.posted j (rung_apart j apart)));
          };
          rung = inr record {
            doorbell = ap (λ (u : PortState). u.doorbell) ended.is ∙ staged_all s tx items quiet;
            slots = ap (λ (u : PortState). u.flushed) ended.is;
            flushed = flushed;
          };
        }

    pub early_all : IsEarly s (after_all (after_ring (after_flush (after_some s tx (length items) items)))) tx items
    early_all = early_ended _ _ (ended_all (after_ring (after_flush (after_some s tx (length items) items))))
