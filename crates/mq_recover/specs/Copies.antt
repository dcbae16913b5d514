-- Where the copies of home blocks stand that descriptors leave.
use Rattle.std.specs.Prelude.{◌≡◌, ◌<◌, ℕ, ◌+◌, ◌%◌, List, [], ◌∷◌, Option, Some, None, slice_set, nat_eq, if◌then◌else◌, replicate}
use Rattle.mq_blocks.specs.Descriptor.{Descriptor, first_place}
use Rattle.mq_blocks.specs.Geometry.{homes_of}
use Rattle.mq_blocks.specs.Journal.{Has, is_among}
use Rattle.mq_blocks.specs.declared.geometry.Geometry.{Geometry}
use Rattle.mq_recover.specs.Recover.{AreGood}
use Rattle.mq_recover.specs.declared.copies.CopyPlace.{CopyPlace}

abbrev pub copy_place_at : (queue place : ℕ) → CopyPlace
copy_place_at queue place = record { queue = queue; place = place }

-- the queue of the copy, if there is one, is one of `queues`
abbrev pub IsCopyPlaceOf : ℕ → Option CopyPlace → Type 0
IsCopyPlaceOf queues None = Unit {0}
IsCopyPlaceOf queues (Some source) = source.queue < queues

abbrev pub or_place : Option CopyPlace → Option CopyPlace → Option CopyPlace
or_place (Some source) old = Some source
or_place None old = old

-- where the copy of a block stands among the logged ones, which stand from a place of a queue on
abbrev pub logged_place : (queue place : ℕ) → List ℕ → ℕ → Option CopyPlace
logged_place queue place [] x = None
logged_place queue place (b ∷ bs) x =
    if nat_eq b x then Some (copy_place_at queue place) else logged_place queue (place + 1) bs x

-- where the newest logged copy of a block stands that no later transaction revokes, the newest
-- descriptor first
abbrev pub copy_of : List Descriptor → ℕ → Option CopyPlace
copy_of [] x = None
copy_of (d ∷ ds) x =
    or_place (logged_place d.queue (first_place d) d.logged x)
    (if is_among x d.revoked then None else copy_of ds x)

-- where the copies of all blocks stand, where these blocks have none
abbrev pub forgotten : List (Option CopyPlace) → List ℕ → List (Option CopyPlace)
forgotten copies [] = copies
forgotten copies (b ∷ bs) = forgotten (slice_set copies b None) bs

-- the same where these blocks have copies from a place of a queue on
abbrev pub noted : List (Option CopyPlace) → (queue place : ℕ) → List ℕ → List (Option CopyPlace)
noted copies queue place [] = copies
noted copies queue place (b ∷ bs) =
    noted (slice_set copies b (Some (copy_place_at queue place))) queue (place + 1) bs

-- the same after one more transaction
abbrev pub with_transaction : List (Option CopyPlace) → Descriptor → List (Option CopyPlace)
with_transaction copies d = noted (forgotten copies d.revoked) d.queue (first_place d) d.logged

-- the same after all of them, on a drive with `homes` home blocks
abbrev pub with_all : ℕ → List Descriptor → List (Option CopyPlace)
with_all homes [] = replicate homes None
with_all homes (d ∷ ds) = with_transaction (with_all homes ds) d

-- the content of the copy that stands there, in journal areas of `size` blocks
abbrev pub content_of : (ℕ → ℕ → List ℕ) → ℕ → Option CopyPlace → Option (List ℕ)
content_of area size None = None
content_of area size (Some source) = Some (area source.queue (source.place % size))

-- These descriptors, newest first, are those of a drive's queues, and this is where the copies of its home
-- blocks stand that they leave.
pub record AreCopies (g : Geometry) (ds : List Descriptor)
    (copies : List (Option CopyPlace)) : Type 0 where
  pub own : (d : Descriptor) → Has ds d → d.queue < g.queues
  pub good : AreGood (homes_of g) ds
  pub are : copies ≡ with_all (homes_of g) ds
