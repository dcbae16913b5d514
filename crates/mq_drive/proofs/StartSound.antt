-- What holds of the parts of a port that starts from an image.
use Rattle.std.proofs.Common.{◌≡◌, ◌<◌, ◌≤◌, ℕ, ◌+◌, ◌^◌, All, Bool, false, true≢false, List, [], get_or, length, Option, None, refl, sym, ◌∙◌, ap, subst, arith}
use Rattle.mq_blocks.specs.Drive.{PortImage, AreCounted}
use Rattle.mq_blocks.specs.Limits.{usable_depth}
use Rattle.mq_blocks.specs.declared.command.Command.{Command}
use Rattle.mq_blocks.specs.declared.geometry.Geometry.{Geometry}
use Rattle.mq_drive.specs.Roles.{id_of, queue_in}
use Rattle.mq_drive.specs.Sound.{AreCounts, AreQueued, AreSlots, AreWords, AreWritten, IsBlock, IsPlaced, Place}
use Rattle.mq_drive.specs.Slots.{AreStaged}
use Rattle.mq_drive.specs.Start.{HasWords, IsImageOf, area_size_of, homes_size_of}
use Rattle.mq_drive.specs.declared.role.Role.{Role}
use Rattle.mq_drive.specs.declared.role.Role.TheVariants.{Queue, Root}
use Rattle.mq_drive.proofs.Doubts.{none_for}

-- its area and its homes are all its blocks
pub start-placed : (g : Geometry) (role : Role) (i : PortImage) (port : Place) (stored : List (Option (List ℕ))) → IsImageOf g role i
    → port.area.size ≡ area_size_of g role → port.homes.size ≡ homes_size_of g role
    → port.area.first + port.area.size ≤ port.homes.first → port.homes.first + port.homes.size ≤ 2 ^ 32
    → port.id < 2 ^ 16 → port.id ≡ id_of (queue_in port.role) → stored ≡ i.blocks
    → IsPlaced port (length stored)
start-placed g role i port stored image area homes before end small id same = record {
  sized = let all = image.blocks in let long = ap length same in omega arith;
  area_before = before;
  homes_end = end;
  id_small = small;
  id_is = id;
}

-- nothing is staged, and the flushed slots are the staged ones
pub start-slots : (g : Geometry) (role : Role) (i : PortImage) (flushed staged : List (List ℕ)) (pending : List Command) → IsImageOf g role i
    → flushed ≡ i.slots → staged ≡ i.slots → pending ≡ []
    → AreSlots role (record { flushed = flushed; staged = staged; flushed_end = i.doorbell }) i.doorbell pending
start-slots g role i flushed staged pending image is are none = record {
  same_ring = ap length (is ∙ sym are);
  ring = ap length are ∙ image.slots;
  pending_ring = λ some. absurd (let few = ap length none in omega arith);
  settled = λ k within apart. ap (λ (l : List (List ℕ)). get_or l k []) (is ∙ sym are);
  flushed_low = omega arith;
  flushed_high = omega arith;
}

-- no command is staged or posted
pub start-queued : (pending posted : List Command) (pending_room posted_room doorbell head : ℕ) → pending ≡ [] → posted ≡ [] → usable_depth ≤ pending_room → usable_depth ≤ posted_room
    → AreQueued (record { pending = pending; pending_capacity = pending_room; posted = posted; posted_capacity = posted_room }) doorbell head head
start-queued pending posted pending_room posted_room doorbell head none none_posted room more = record {
  pending_room = room;
  posted_room = more;
  pending_few = λ some. absurd (let few = ap length none in omega arith);
  pending_last = λ some. absurd (let few = ap length none in omega arith);
  pending_order = λ some. absurd (let few = ap length none in omega arith);
  pending_counted = subst (AreStaged doorbell) (sym none) tt;
  posted_counted = subst (AreCounted head doorbell) (sym none_posted) tt;
}

-- the words are the image's
pub start-words : (role : Role) (i : PortImage) → HasWords role i → AreWords role (record { doorbell = i.doorbell; head = i.head; stored_head = i.head; base = i.base; stored_base = i.base })
start-words (Queue q) i words = record { heads = omega arith; queue_base = λ some. (words, words); root_words = λ none. absurd (true≢false none) }
start-words Root i words = record { heads = omega arith; queue_base = λ some. absurd (true≢false (sym some)); root_words = λ none. (words.0, words.1, words.1) }

-- no block is being written
pub start-written : (port : Place) (pending posted : List Command) (stored : List (Option (List ℕ))) (certain : List Bool) (doubt : Option ℕ) → pending ≡ [] → posted ≡ []
    → AreWritten port pending posted (record { stored = stored; certain = certain; doubt = doubt; failure = None; under_way = None })
start-written port pending posted stored certain doubt none none_posted = record {
  pending_own = subst (All (λ c. IsBlock port (length stored) c.lba)) (sym none) (λ k c low. absurd (omega arith));
  posted_own = subst (All (λ c. IsBlock port (length stored) c.lba)) (sym none_posted) (λ k c low. absurd (omega arith));
  failure_own = none_for None _ refl;
  failure_doubt = none_for None _ refl;
  under_way_own = none_for None _ refl;
  under_way_doubt = none_for None _ refl;
}

-- nothing has happened
pub start-counts : (happened offs : ℕ) (failed : Bool) → happened ≡ 0 → failed ≡ false
    → AreCounts (record { events = 0; begins = 0; happened = happened; offs = offs; failed = failed }) None None
start-counts happened offs failed none well = record { events_counted = none; failure_counted = sym well; under_way_last = none_for None _ refl }
