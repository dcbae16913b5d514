-- A feeder and a replica, between which offers and answers are lost, repeated and come late, while the
-- replica's power may be cut at any moment.
use Rattle.std.specs.Prelude.{◌≡◌, ◌≤◌, ℕ, ◌+◌, false, List, [], ◌∷◌, ◌++◌, Contains, Result, Ok, Err}
use Rattle.mq_blocks.specs.declared.geometry.Geometry.{Geometry}
use Rattle.mq_recover.specs.Drives.{DriveState}
use Rattle.mq_recover.specs.declared.refusal.RecoverRefusal.{RecoverRefusal}
use Rattle.mq_replica.specs.Contents.{Contents, IsUpToNumber, number_of}
use Rattle.mq_replica.specs.Feeding.{FeederState, after_heard, after_push, last_of}
use Rattle.mq_replica.specs.Images.{AlwaysStands, IsLeftOf, StandsFor}
use Rattle.mq_replica.specs.Offers.{IsOpenedOn, IsOpenRefused, MayOpen, Offers, ReplicaState}
use Rattle.mq_replica.specs.declared.update.OfferRefusal.{OfferRefusal}
use Rattle.mq_replica.specs.declared.update.Update.{Update}

-- the replica runs, or its ports lie there
pub data Place : Type 0 where
  Runs : ReplicaState → Place
  Lies : DriveState → Place

abbrev pub drive_of : Place → DriveState
drive_of (Runs r) = r.drive
drive_of (Lies d) = d

pub record World : Type 0 where
  pub feeder : FeederState
  -- all updates that were pushed, the oldest first
  pub pushed : List Update
  -- the updates that were ever sent, and the answers that were ever given
  pub sent : List Update
  pub answers : List ℕ
  pub place : Place

pub data Event : Type 0 where
  -- the next update of the history
  Push : Update → Event
  -- an update that was pushed, however long ago
  Send : Update → Event
  -- an update that was sent, however often it was offered: what is answered, and the replica then
  Offer : Update → Result ℕ OfferRefusal → ReplicaState → Event
  -- an answer that was given, however long ago
  Hear : ℕ → Event
  -- the power is cut, and the replica is opened on what that leaves: it runs, or the opening is refused
  -- and the ports lie there
  Open : DriveState → ReplicaState → Event
  Refuse : DriveState → RecoverRefusal → DriveState → Event

-- an answer that was given is kept
abbrev pub answered : Result ℕ OfferRefusal → List ℕ → List ℕ
answered (Ok n) answers = n ∷ answers
answered (Err e) answers = answers

abbrev pub after_event : Event → World → World
after_event (Push u) w = record w { feeder = after_push u w.feeder; pushed = w.pushed ++ u ∷ [] }
after_event (Send u) w = record w { sent = u ∷ w.sent }
after_event (Offer u result r) w =
    record w { answers = answered result w.answers; place = Runs r }
after_event (Hear n) w = record w { feeder = after_heard n w.feeder }
after_event (Open cut r) w = record w { place = Runs r }
after_event (Refuse cut e d) w = record w { place = Lies d }

-- what may happen
abbrev pub MayHappen : Geometry → Event → World → Type 0
MayHappen g (Push u) w = u.number ≡ last_of w.feeder + 1
MayHappen g (Send u) w = Contains w.pushed u
MayHappen g (Offer u result r) w =
    Contains w.sent u × (old : ReplicaState) × (w.place ≡ Runs old) × Offers old u result r
MayHappen g (Hear n) w = Contains w.answers n
MayHappen g (Open cut r) w =
    IsLeftOf g (drive_of w.place) cut × MayOpen g cut × IsOpenedOn g cut r
MayHappen g (Refuse cut e d) w =
    IsLeftOf g (drive_of w.place) cut × MayOpen g cut × IsOpenRefused g cut e d

abbrev pub after_all : List Event → World → World
after_all [] w = w
after_all (e ∷ es) w = after_all es (after_event e w)

abbrev pub MayAllHappen : Geometry → List Event → World → Type 0
MayAllHappen g [] w = Unit {0}
MayAllHappen g (e ∷ es) w = MayHappen g e w × MayAllHappen g es (after_event e w)

-- ---- the beginning

-- The feeder begins at a base. The replica stands for this number in its last block, and for these contents
-- on the others.
pub record IsBeginning (g : Geometry) (base : ℕ) (first : Contents) (w : World) : Type 0 where
  pub feeder : w.feeder ≡ record { acknowledged = base; waiting = [] }
  pub pushed : w.pushed ≡ []
  pub sent : w.sent ≡ []
  pub answers : w.answers ≡ []
  pub r : ReplicaState
  pub runs : w.place ≡ Runs r
  pub geometry : r.geometry ≡ g
  pub stopped : r.stopped ≡ false
  pub reached : r.reached ≡ base
  pub number : number_of g first ≡ base
  pub stands : StandsFor g r.drive first

-- ---- what always holds

-- What an image stands for: some number in the last block, and what the history makes of the others up to
-- it. All answers and what the feeder takes as acknowledged are at most this number, and once nothing is
-- waiting it is the last one.
pub record IsServed (g : Geometry) (base : ℕ) (first : Contents) (w : World) (c : Contents) : Type 0 where
  pub low : base ≤ number_of g c
  pub high : number_of g c ≤ last_of w.feeder
  pub contents : IsUpToNumber g base w.pushed first c
  pub answers : (n : ℕ) → Contains w.answers n → n ≤ number_of g c
  pub acknowledged : w.feeder.acknowledged ≤ number_of g c
  pub all : w.feeder.waiting ≡ [] → number_of g c ≡ last_of w.feeder

-- each image is readable, and stands for such contents
abbrev pub Serves : Geometry → ℕ → Contents → World → Type 0
Serves g base first w = AlwaysStands g (drive_of w.place) (IsServed g base first w)

-- whatever happens
abbrev pub AlwaysServes : Type 0
AlwaysServes =
    (g : Geometry) (base : ℕ) (first : Contents) (w : World) (events : List Event)
    → IsBeginning g base first w
    → MayAllHappen g events w
    → Serves g base first (after_all events w)
