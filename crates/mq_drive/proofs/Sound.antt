-- What each kind of change leaves of what holds of a port in memory.
use Rattle.std.proofs.Common.{◌≡◌, ◌≤◌, ℕ, Bool, List, length, All, Option, Some, None, is_some, sym, subst}
use Rattle.std.specs.List.{remove}
use Rattle.std.specs.Option.{ForSome}
use Rattle.std.specs.VecDeque.{deque_capacity}
use Rattle.mq_blocks.specs.Drive.{AreCounted, counted, index_of}
use Rattle.mq_blocks.specs.Limits.{usable_depth}
use Rattle.mq_blocks.specs.declared.command.Command.{Command}
use Rattle.mq_blocks.proofs.DriveCounts.{counted_remove}
use Rattle.mq_drive.specs.Emu.{device_state}
use Rattle.mq_drive.specs.Failures.{written_by, doubt_after}
use Rattle.mq_drive.specs.Sound.{Place, IsBlock, IsPlaced, AreQueued, AreWritten, AreCounts}
use Rattle.mq_drive.specs.declared.device.Device.{Device}
use Rattle.mq_drive.specs.declared.failing.Failure.{Failure}
use Rattle.mq_drive.proofs.Choices.{doubt_for, new_doubt}
use Rattle.mq_drive.proofs.Doubts.{none_while, none_for, some_for}
use Rattle.mq_drive.proofs.Happened.{happened-event, happened-home}

abbrev pub place_of : Device → Place
place_of p = record { role = p.role; id = p.id; area = p.area; homes = p.homes }

abbrev pub AreOwn : Device → (blocks : ℕ) → List Command → Type 0
AreOwn p blocks cs = All (λ c. IsBlock (place_of p) blocks c.lba) cs

-- as long as no event was refused, no home write was cut short
pub nothing_open : (p : Device) → p.power.offs ≡ 0 → p.under_way ≡ None
nothing_open p on = none_while p.under_way p.power.offs p.sound.counts.under_way_last on

-- ---- it has as many blocks as before

pub place_still : (p : Device) (blocks : ℕ) → blocks ≡ length p.blocks.stored.items → IsPlaced (place_of p) blocks
place_still p blocks same = subst (IsPlaced (place_of p)) (sym same) p.sound.place

pub own_still : (p : Device) (blocks : ℕ) (cs : List Command) → blocks ≡ length p.blocks.stored.items → AreOwn p (length p.blocks.stored.items) cs → AreOwn p blocks cs
own_still p blocks cs same own = subst (λ (n : ℕ). AreOwn p n cs) (sym same) own

pub failure_still : (p : Device) (blocks : ℕ) → blocks ≡ length p.blocks.stored.items → ForSome p.failure (λ f. IsBlock (place_of p) blocks (written_by f))
failure_still p blocks same = subst (λ (n : ℕ). ForSome p.failure (λ f. IsBlock (place_of p) n (written_by f))) (sym same) p.sound.writes.failure_own

-- ---- a posted command is taken out

pub commands_left : (p : Device) (at capacity : ℕ) (left : List Command) → capacity ≡ deque_capacity p.posted → left ≡ remove p.posted.items at
    → AreQueued (record { pending = p.pending.items; pending_capacity = deque_capacity p.pending; posted = left; posted_capacity = capacity }) p.doorbell p.head p.stored_head
commands_left p at capacity left same is = record {
  pending_room = p.sound.commands.pending_room;
  posted_room = subst (λ (n : ℕ). usable_depth ≤ n) (sym same) p.sound.commands.posted_room;
  pending_few = p.sound.commands.pending_few;
  pending_last = p.sound.commands.pending_last;
  pending_order = p.sound.commands.pending_order;
  pending_counted = p.sound.commands.pending_counted;
  posted_counted = subst (AreCounted p.stored_head p.doorbell) (sym is) (counted_remove p.stored_head p.doorbell at p.posted.items p.sound.commands.posted_counted);
}

-- ---- a write ends, while the power is on

-- with an error: it is the failure that is kept, and its block is uncertain
pub writes_failed : (p : Device) (posted : List Command) (stored : List (Option (List ℕ))) (certain : List Bool) (doubt : Option ℕ) (f : Failure) (at : ℕ) → p.power.offs ≡ 0
    → length stored ≡ length p.blocks.stored.items → AreOwn p (length p.blocks.stored.items) posted → IsBlock (place_of p) (length p.blocks.stored.items) (written_by f)
    → doubt ≡ Some at → at ≡ index_of (device_state p) (written_by f)
    → AreWritten (place_of p) p.pending.items posted (record { stored = stored; certain = certain; doubt = doubt; failure = Some f; under_way = p.under_way })
writes_failed p posted stored certain doubt f at on same own block is is_at = record {
  pending_own = own_still p (length stored) p.pending.items same p.sound.writes.pending_own;
  posted_own = own_still p (length stored) posted same own;
  failure_own = some_for f (λ (x : Failure). IsBlock (place_of p) (length stored) (written_by x)) (subst (λ (n : ℕ). IsBlock (place_of p) n (written_by f)) (sym same) block);
  failure_doubt = some_for f (λ (x : Failure). ForSome doubt (λ k. index_of (device_state p) (written_by x) ≡ k)) (new_doubt doubt at (index_of (device_state p) (written_by f)) is is_at);
  under_way_own = none_for p.under_way _ (nothing_open p on);
  under_way_doubt = none_for p.under_way _ (nothing_open p on);
}

-- with success: no failure leaves its block uncertain any more
pub writes_done : (p : Device) (posted : List Command) (stored : List (Option (List ℕ))) (certain : List Bool) (doubt : Option ℕ) (at : ℕ) → p.power.offs ≡ 0
    → length stored ≡ length p.blocks.stored.items → AreOwn p (length p.blocks.stored.items) posted → doubt ≡ doubt_after p.blocks.doubt at
    → AreWritten (place_of p) p.pending.items posted (record { stored = stored; certain = certain; doubt = doubt; failure = p.failure; under_way = p.under_way })
writes_done p posted stored certain doubt at on same own is = record {
  pending_own = own_still p (length stored) p.pending.items same p.sound.writes.pending_own;
  posted_own = own_still p (length stored) posted same own;
  failure_own = failure_still p (length stored) same;
  failure_doubt = λ f some. subst (λ (o : Option ℕ). ForSome o (λ k. index_of (device_state p) (written_by f) ≡ k)) (sym is)
      (doubt_for p.blocks.doubt at (λ k. index_of (device_state p) (written_by f) ≡ k) (p.sound.writes.failure_doubt f some));
  under_way_own = none_for p.under_way _ (nothing_open p on);
  under_way_doubt = none_for p.under_way _ (nothing_open p on);
}

-- ---- events are counted, while the power is on

-- one event, which is none of a home write
pub counts_event : (p : Device) (happened events offs : ℕ) (failed : Bool) (failure : Option Failure) → p.power.offs ≡ 0
    → happened ≡ counted p.power.happened 1 → events ≡ counted p.events 1 → is_some failure ≡ failed
    → AreCounts (record { events = events; begins = p.begins; happened = happened; offs = offs; failed = failed }) failure p.under_way
counts_event p happened events offs failed failure on is_happened is_events kept = record {
  events_counted = happened-event p.power.happened happened p.events events p.begins p.power.offs p.under_way p.sound.counts.under_way_last on p.sound.counts.events_counted is_happened is_events;
  failure_counted = kept;
  under_way_last = none_for p.under_way _ (nothing_open p on);
}

-- the two events of a home write
pub counts_home : (p : Device) (begun happened begins offs : ℕ) (failed : Bool) (failure : Option Failure) → p.power.offs ≡ 0
    → begun ≡ counted p.power.happened 1 → happened ≡ counted begun 1 → begins ≡ counted p.begins 1 → is_some failure ≡ failed
    → AreCounts (record { events = p.events; begins = begins; happened = happened; offs = offs; failed = failed }) failure p.under_way
counts_home p begun happened begins offs failed failure on is_begun is_happened is_begins kept = record {
  events_counted = happened-home p.power.happened begun happened p.events p.begins begins p.power.offs p.under_way p.sound.counts.under_way_last on p.sound.counts.events_counted is_begun is_happened is_begins;
  failure_counted = kept;
  under_way_last = none_for p.under_way _ (nothing_open p on);
}
