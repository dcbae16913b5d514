-- The map of a store at its opening.
use Rattle.std.proofs.Common.{◌≡◌, ℕ, ◌≤◌, Bool, cond, List, get_or, sym, ap, subst, ◌∙◌, inl, inr, arith}
use Rattle.std.specs.Prelude.{Option, Some, None}
use Rattle.std.proofs.lemmas.Bool.{cases_lt, le-ltb, lt-ltb}
use Rattle.mq_blocks.specs.Blocks.{block_at, content}
use Rattle.mq_blocks.specs.Geometry.{homes_of, meta_of}
use Rattle.mq_blocks.specs.declared.geometry.Geometry.{Geometry}
use Rattle.mq_kv_buckets.specs.Buckets.{IsFormed}
use Rattle.mq_kv_entries.specs.Group.{CarriesStore}
use Rattle.mq_recover.specs.Drives.{DriveState}
use Rattle.mq_recover.specs.Recovery.{IsStartDrive}
use Rattle.mq_recover.specs.Standing.{StandsIn}
use Rattle.mq_recover.specs.declared.standing.Standing.{Standing}
use Rattle.mq_sessions.proofs.OpeningStartReads.{starts-over}
use Rattle.mq_sessions.proofs.OpeningState as opening
use Rattle.mq_kv.specs.Opening.{AreFormed, MayOpen, store_map, stored_map}

pub outside : (g : Geometry) (stored : List (Option (List ℕ))) (b : ℕ) → homes_of g ≤ b → store_map g stored b ≡ None
outside g stored b out =
    let high : meta_of g ≤ b = omega arith in
    ap (λ (c : Bool). cond c (Some (block_at stored b)) None) (le-ltb b (meta_of g) high)

-- the list says of each block what the map has there
pub map-at : (g : Geometry) (stored : List (Option (List ℕ))) (b : ℕ) → get_or (stored_map g stored) b None ≡ store_map g stored b
map-at g stored b = opening.map-at g (store_map g stored) (outside g stored) b

held : (g : Geometry) (stored : List (Option (List ℕ))) (b : ℕ) (page : List ℕ) → store_map g stored b ≡ Some page → page ≡ block_at stored b
held g stored b page e = elim (cases_lt b (meta_of g)) [
  | inl low ↦ (let is : Some (block_at stored b) ≡ Some page = sym (ap (λ (t : Bool). cond t (Some (block_at stored b)) None) (lt-ltb b (meta_of g) low)) ∙ e in cc)
  | inr high ↦ (let is : None ≡ Some page = sym (ap (λ (t : Bool). cond t (Some (block_at stored b)) None) (le-ltb b (meta_of g) high)) ∙ e in absurd (cc))
]

-- a start drive may be opened over what stands
pub opens : (g : Geometry) (d : DriveState) (s : Standing) → IsStartDrive g d → StandsIn g d s → MayOpen g d s
opens g d s start stood =
    let is = stood.3 in
    record {
      whole = is.whole;
      base = is.base_is;
      start = starts-over g d s (store_map g s.blocks.items) start stood (outside g s.blocks.items) (held g s.blocks.items);
    }

-- the map of buckets in their form holds a store
pub carried : (g : Geometry) (stored : List (Option (List ℕ))) → AreFormed (meta_of g) stored → CarriesStore g (store_map g stored)
carried g stored formed b low =
    let here : content (store_map g stored b) ≡ block_at stored b = ap (λ (t : Bool). content (cond t (Some (block_at stored b)) None)) (lt-ltb b (meta_of g) low) in
    subst IsFormed (sym here) (formed b low)
