-- The map of a volume at its opening, and the helpers.
use Rattle.std.proofs.Common.{◌≡◌, ℕ, zero, suc, ◌+◌, ◌≤◌, Bool, cond, List, [], ◌∷◌, ◌++◌, length, get_or, ap, ◌∙◌, arith}
use Rattle.std.specs.Prelude.{Option, Some, None, nat_lt, slice_get, ◌&&◌}
use Rattle.std.proofs.lemmas.Bool.{le-ltb}
use Rattle.mq_blocks.specs.Blocks.{block_at}
use Rattle.mq_blocks.specs.Geometry.{homes_of, meta_of}
use Rattle.mq_blocks.specs.declared.geometry.Geometry.{Geometry}
use Rattle.mq_drive.specs.declared.port.Port.{Ghosts}
use Rattle.mq_calls.specs.declared.entry.FileEntry.{FileEntry}
use Rattle.mq_journal.specs.Numbers.{Seat, Start}
use Rattle.mq_sessions.proofs.OpeningState as opening
use Rattle.mq_tree.specs.Laid.{is_marked, map_of}
use Rattle.mq_turns.specs.Desk.{fresh}
use Rattle.mq_calls.specs.Helpers.{IsNewHelper}
use Rattle.mq_calls.specs.Opening.{stored_map}

pub outside : (g : Geometry) (stored : List (Option (List ℕ))) (b : ℕ) → homes_of g ≤ b → map_of g stored b ≡ None
unfolding map_of
outside g stored b out =
    let high : meta_of g ≤ b = omega arith in
    ap (λ (c : Bool). cond c (Some (block_at stored b)) (cond (nat_lt b (homes_of g) && is_marked g stored b) (Some (block_at stored b)) None)) (le-ltb b (meta_of g) high)
    ∙ ap (λ (c : Bool). cond (c && is_marked g stored b) (Some (block_at stored b)) None) (le-ltb b (homes_of g) out)

-- the list says of each block what the map has there
pub map-at : (g : Geometry) (stored : List (Option (List ℕ))) (b : ℕ) → get_or (stored_map g stored) b None ≡ map_of g stored b
map-at g stored b = opening.map-at g (map_of g stored) (outside g stored) b

-- ---- the helpers

-- what stands at a place of the first one of two lists, and at a place of the second one
pub get-first : {A : Type 0} (xs ys : List A) (i : ℕ) (x : A) → slice_get xs i ≡ Some x → slice_get (xs ++ ys) i ≡ Some x
get-first [] ys i x e = absurd (cc)
get-first (y ∷ xs) ys zero x e = e
get-first (y ∷ xs) ys (suc i) x e = get-first xs ys i x e

pub get-second : {A : Type 0} (xs ys : List A) (i : ℕ) (y : A) → slice_get ys i ≡ Some y → slice_get (xs ++ ys) (length xs + i) ≡ Some y
get-second {A = A} [] ys i y e =
    let place : length {A = A} [] + i ≡ i = omega arith in
    ap (λ (k : ℕ). slice_get ys k) place ∙ e
get-second (x ∷ xs) ys i y e =
    let place : suc (length xs) + i ≡ suc (length xs + i) = omega arith in
    ap (λ (k : ℕ). slice_get (x ∷ (xs ++ ys)) k) place ∙ get-second xs ys i y e

module _ {P : Type 0} {G : Ghosts P} where
  pub new-helper : (o : Start P FileEntry G) (i : ℕ) (v : Seat P FileEntry G) → v ≡ fresh o i → IsNewHelper o i v
  new-helper o i v is = record {
    view_is = is;
    ease = record {
      idle = ap (λ (w : Seat P FileEntry G). w.held) is;
      drawn = ap (λ (w : Seat P FileEntry G). w.drawn) is;
      read = ap (λ (w : Seat P FileEntry G). w.read) is;
    };
  }
