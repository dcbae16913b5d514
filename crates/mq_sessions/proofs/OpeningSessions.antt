-- The sessions of a desk at its opening.
use Rattle.std.proofs.Common.{◌≡◌, ℕ, ◌<◌, List, map, sym, ap, subst, ◌∙◌, arith}
use Rattle.std.specs.Prelude.{Some, slice_get}
use Rattle.std.specs.List.{All}
use Rattle.std.specs.Option.{option_map}
use Rattle.std.proofs.lemmas.Option.{get_or_from_slice_get, slice_get-map, slice_get_within}
use Rattle.mq_blocks.specs.Geometry.{queues_of}
use Rattle.mq_blocks.specs.declared.geometry.Geometry.{Geometry}
use Rattle.mq_desk_laws.specs.Groups.{GroupView}
use Rattle.mq_drive.specs.declared.port.Port.{Ghosts}
use Rattle.mq_journal.specs.Numbers.{Seat, Start}
use Rattle.mq_sessions.specs.Opening.{IsNewSession}
use Rattle.mq_pages.specs.Held.{HeldCells}
use Rattle.mq_sessions.specs.Calls.{HasCalled}
use Rattle.mq_sessions.specs.Seats.{IsEquipped, IsUncalled}
use Rattle.mq_turns.specs.Desk.{fresh}

pub all-at : {A : Type 0} (F : A → Type 0) (xs : List A) (i : ℕ) (x : A) → All F xs → slice_get xs i ≡ Some x → F x
all-at F xs i x all e = subst F (get_or_from_slice_get xs i x x e) (all i x (slice_get_within xs i x e))

-- what stands at a place of a list that is made by a function
pub map-place : {A B : Type 0} (f : A → B) (xs : List A) (ys : List B) (i : ℕ) (x : A) → map f xs ≡ ys → slice_get xs i ≡ Some x → slice_get ys i ≡ Some (f x)
map-place {B = B} f xs ys i x made e = ap (λ (zs : List B). slice_get zs i) (sym made) ∙ (slice_get-map f xs i ∙ ap (option_map f) e)

module _ {P E : Type 0} {G : Ghosts P} (group : GroupView E) where
  pub new-session : (g : Geometry) (o : Start P E G) (i queue calls : ℕ) (wanted : List ℕ) (cells : HeldCells) (v : Seat P E G) → i < queues_of g → v ≡ fresh o i → IsUncalled i queue calls wanted → IsEquipped g cells → IsNewSession group g o i queue calls wanted cells v
  new-session g o i queue calls wanted cells v low is unused equipped = record {
    view_is = is;
    queue_is = unused.queue_is;
    calls_are = unused.calls_are;
    wanted_are = unused.wanted_are;
    ready = record {
      queue = low;
      own = ap (λ (w : Seat P E G). w.session) is;
      idle = ap (λ (w : Seat P E G). w.held) is;
      called = subst (λ (w : Seat P E G). HasCalled group 0 w) (sym is) (record { drawn = tt; read = tt; few = omega arith });
      none = equipped.none;
      room = equipped.room;
    };
  }
