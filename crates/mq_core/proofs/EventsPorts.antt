-- Where the blocks of a port lie, and what stays certainly at its place through each event.
use Rattle.std.proofs.Common.{◌≡◌, ◌≢◌, ℕ, ◌+◌, ◌-◌, ◌*◌, ◌%◌, ◌<◌, ◌≤◌, true, false, List, length, get_or, Some, None, refl, sym, ap, ◌∙◌, inl, inr, arith}
use Rattle.std.proofs.lemmas.Bool.{cases_lt, lt-ltb, le-ltb}
use Rattle.std.proofs.lemmas.List.{get_or-set_same, get_or-set_other}
use Rattle.std.proofs.lemmas.Nat.{mod_below, mul-add-lt}
use Rattle.std.specs.List.{remove}
use Rattle.mq_blocks.specs.Blocks.{block_at, content}
use Rattle.mq_blocks.specs.Drive.{PortState, IsApartFrom, index_of, after_ring}
use Rattle.mq_blocks.specs.Geometry.{homes_of, zone_of, home_lba, area_lba}
use Rattle.mq_blocks.specs.Ports.{IsPort}
use Rattle.mq_blocks.specs.declared.command.Command.{Command}
use Rattle.mq_blocks.specs.declared.geometry.Geometry.{Geometry}
use Rattle.mq_blocks.proofs.GeometryZones.{zone-row}
use Rattle.mq_ledger.specs.Sides.{Certainly, holds_count, home_index, home_index_in, place_index}
use Rattle.mq_core.specs.Events.{index_with, command_with, complete_side, fail_side}
use Rattle.mq_core.proofs.SidesCommands.{apart_along, apart_remove, apart_append, apart_with}

-- ---- where blocks lie

pub row-below : (q n a r : ℕ) → q < n → r < a → q * a + r < n * a
row-below q n a r l m =
    let k : q * a + r < a * n = mul-add-lt q a r n l m in
    let e : n * a ≡ a * n = grind arith in
    omega arith

-- a place of a queue
pub index-place : (g : Geometry) (q place : ℕ) (p : PortState) → IsPort g (Some q) p → q < g.queues → (index_of p (area_lba g q place) ≡ place_index g place) × (place_index g place < g.area)
index-place g q place p port own =
    let size = g.area_low in
    let small : place % g.area < g.area = mod_below place g.area (omega arith) in
    let room = row-below q g.queues g.area (place % g.area) own small in
    let first = port.homes_first in
    let before : q * g.area + place % g.area < p.homes_first = omega arith in
    let area = port.area_first in
    let at : q * g.area + place % g.area - p.area_first ≡ place % g.area = omega arith in
    (rw (lt-ltb _ _ before) at, small)

pub index-zone : (g : Geometry) (q x : ℕ) (p : PortState) → IsPort g (Some q) p → zone_of g x ≡ Some q → (index_of p (home_lba g x) ≡ home_index g x) × (g.area ≤ home_index g x) × (home_index g x < g.area + g.zone)
index-zone g q x p port e =
    let row = zone-row g q x e in
    let first = port.homes_first in
    let size = port.area_size in
    let lba = g.queues * g.area + x in
    let past : p.homes_first ≤ lba = omega (arith, row.0) in
    let at : p.area_size + (lba - p.homes_first) ≡ g.area + (x - (g.meta + q * g.zone)) = omega (arith, row.0) in
    let is : home_index g x ≡ g.area + (x - (g.meta + q * g.zone)) = ap (λ z. home_index_in g z x) e in
    (rw (le-ltb _ _ past) (at ∙ sym is), omega (arith, is), omega (arith, is, row.0, row.1))

-- blocks of a zone have indices of their own
pub zone-apart : (g : Geometry) (q x y : ℕ) → zone_of g x ≡ Some q → zone_of g y ≡ Some q → home_index g x ≡ home_index g y → x ≡ y
zone-apart g q x y e f same =
    let a = zone-row g q x e in
    let b = zone-row g q y f in
    let xi : home_index g x ≡ g.area + (x - (g.meta + q * g.zone)) = ap (λ z. home_index_in g z x) e in
    let yi : home_index g y ≡ g.area + (y - (g.meta + q * g.zone)) = ap (λ z. home_index_in g z y) f in
    omega (arith, a.0, b.0)

pub index-root : (g : Geometry) (x : ℕ) (p : PortState) → IsPort g None p → zone_of g x ≡ None → x < homes_of g → (index_of p (home_lba g x) ≡ home_index g x) × (home_index g x < g.meta)
index-root g x p port e block =
    let first = port.homes_first in
    let size = port.area_size in
    let lba = g.queues * g.area + x in
    let past : p.homes_first ≤ lba = omega arith in
    let at : p.area_size + (lba - p.homes_first) ≡ x = omega arith in
    let is : home_index g x ≡ x = ap (λ z. home_index_in g z x) e in
    let low : x < g.meta = elim (cases_lt x g.meta) [
      | inl low ↦ low
      | inr high ↦ absurd (let k = rw (le-ltb _ _ high) at e in some k)
    ] in
    (rw (le-ltb _ _ past) (at ∙ sym is), omega (arith, is))
  where
    some : {n : ℕ} → Some n ≡ None → ⊥
    some k = cc

-- ---- what stays certain

pub certainly_along : (s r : PortState) (k : ℕ) (v : List ℕ) → ((lba : ℕ) → index_of r lba ≡ index_of s lba) → r.certain ≡ s.certain → r.blocks ≡ s.blocks → r.posted ≡ s.posted → Certainly s k v → Certainly r k v
certainly_along s r k v same certain blocks posted c =
    record {
      certain = record {
        certain = ap (λ l. get_or l k false) certain ∙ c.certain.certain;
        apart = rw posted (apart_along s r k s.posted same c.certain.apart);
      };
      is = ap (λ l. block_at l k) blocks ∙ c.is;
    }

pub certainly_ring : (s : PortState) (k : ℕ) (v : List ℕ) → IsApartFrom s k s.pending → Certainly s k v → Certainly (after_ring s) k v
certainly_ring s k v apart c =
    record {
      certain = record { certain = c.certain.certain; apart = apart_append (after_ring s) k s.posted s.pending (along s.posted c.certain.apart) (along s.pending apart) };
      is = c.is;
    }
  where
    along : (cs : List Command) → IsApartFrom s k cs → IsApartFrom (after_ring s) k cs
    along cs a = apart_along s (after_ring s) k cs (λ lba. refl) a

pub certainly_complete : (s : PortState) (n k : ℕ) (v : List ℕ) → holds_count n s.posted ≡ true → Certainly s k v → Certainly (complete_side n s) k v
certainly_complete s n k v held c =
    let other : k ≢ index_of s (command_with n s.posted).lba = λ e. apart_with s k n s.posted c.certain.apart held (sym e) in
    record {
      certain = record {
        certain = get_or-set_other s.certain (index_of s (command_with n s.posted).lba) k true false other ∙ c.certain.certain;
        apart = apart_along s (complete_side n s) k (remove s.posted (index_with n s.posted)) (λ lba. refl) (apart_remove s k (index_with n s.posted) s.posted c.certain.apart);
      };
      is = ap content (get_or-set_other s.blocks (index_of s (command_with n s.posted).lba) k (Some (command_with n s.posted).block) None other) ∙ c.is;
    }

pub certainly_fail : (s : PortState) (n k : ℕ) (v : List ℕ) → holds_count n s.posted ≡ true → Certainly s k v → Certainly (fail_side n s) k v
certainly_fail s n k v held c =
    let other : k ≢ index_of s (command_with n s.posted).lba = λ e. apart_with s k n s.posted c.certain.apart held (sym e) in
    record {
      certain = record {
        certain = get_or-set_other s.certain (index_of s (command_with n s.posted).lba) k false false other ∙ c.certain.certain;
        apart = apart_along s (fail_side n s) k (remove s.posted (index_with n s.posted)) (λ lba. refl) (apart_remove s k (index_with n s.posted) s.posted c.certain.apart);
      };
      is = c.is;
    }

-- what a command wrote, where no other posted command writes the block
pub certainly_new : (s : PortState) (n k : ℕ) → index_of s (command_with n s.posted).lba ≡ k → k < length s.certain → k < length s.blocks → IsApartFrom s k (remove s.posted (index_with n s.posted)) → Certainly (complete_side n s) k (command_with n s.posted).block
certainly_new s n k at l m apart =
    record {
      certain = record {
        certain = rw at (get_or-set_same s.certain k true false l);
        apart = apart_along s (complete_side n s) k (remove s.posted (index_with n s.posted)) (λ lba. refl) apart;
      };
      is = rw at (ap content (get_or-set_same s.blocks k (Some (command_with n s.posted).block) None m));
    }
