-- The ports of the queues, by the sides that they stand in.
use Rattle.std.proofs.Common.{◌≡◌, ℕ, suc, zero, List, [], ◌∷◌, map, get_or, refl}
use Rattle.mq_ledger.specs.State.{port_at}
use Rattle.mq_loose_queues.specs.Queues.{QueuesState, StoredSide, at_queue, no_side, ports_of}

pub mapped : {A B : Type 0} → (f : A → B) (xs : List A) (n : ℕ) (d : A) → get_or (map f xs) n (f d) ≡ f (get_or xs n d)
mapped f [] n d = refl
mapped f (x ∷ xs) zero d = refl
mapped f (x ∷ xs) (suc n) d = mapped f xs n d

pub port_is : (v : QueuesState) (q : ℕ) → port_at (ports_of v) q ≡ (at_queue v q).side.port
port_is v q = mapped (λ (s : StoredSide). s.side.port) v.sides q (no_side v.geometry)
