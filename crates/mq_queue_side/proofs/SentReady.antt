-- The blocks that a send writes are those of its port.
use Rattle.std.proofs.Common.{◌≡◌, ℕ, zero, suc, List, ◌+◌, ◌-◌, ◌*◌, ◌%◌, ◌<◌, [], ◌∷◌, ◌++◌, length, Some, inl, inr, arith}
use Rattle.std.proofs.lemmas.Nat.{mod_below}
use Rattle.mq_blocks.specs.Drive.{PortState, Owns}
use Rattle.mq_blocks.specs.Copies.{copies_at, directs_of}
use Rattle.mq_blocks.specs.Geometry.{area_lba, homes_of, home_lba, zone_of}
use Rattle.mq_blocks.specs.Machine.{Writes}
use Rattle.mq_blocks.specs.declared.geometry.Geometry.{Geometry}
use Rattle.mq_drive.specs.Start.{IsPortOf}
use Rattle.mq_drive.specs.declared.role.Role.TheVariants.{Queue}
use Rattle.mq_ledger.specs.History.{blocks_of}
use Rattle.mq_blocks.proofs.JournalAmong.{among-here, among-behind}
use Rattle.mq_blocks.proofs.GeometryZones.{zone-row}
use Rattle.mq_core.proofs.EventsPorts.{row-below}
use Rattle.mq_pmr.specs.Runs.{Items, OwnsAll}
use Rattle.mq_queue_side.specs.Commits.{NumberedCommit, items_of, descriptor_at, further_of}
use Rattle.mq_queue_side.specs.Sent.{AreInZone}

place_owned : (g : Geometry) (q place : ℕ) (p : PortState) → IsPortOf g (Queue q) p → Owns p (area_lba g q place)
place_owned g q place p port =
    let low = g.area_low in
    let small : place % g.area < g.area = mod_below place g.area (omega arith) in
    let first = port.area_first in
    let size = port.area_size in
    inl (omega arith, omega arith)

home_owned : (g : Geometry) (q x : ℕ) (p : PortState) → IsPortOf g (Queue q) p → zone_of g x ≡ Some q → Owns p (home_lba g x)
home_owned g q x p port zone =
    let row = zone-row g q x zone in
    let first = port.homes_first in
    let size = port.homes_size in
    inr (omega (arith, row.0), omega (arith, row.1))

-- ---- the blocks of a commit's items are the port's

copies_owned : (g : Geometry) (q place : ℕ) (ws : Writes) (rest : Items) (p : PortState) → IsPortOf g (Queue q) p → OwnsAll p rest → OwnsAll p (copies_at g q place ws ++ rest)
copies_owned g q place [] rest p port own = own
copies_owned g q place (w ∷ ws) rest p port own = (place_owned g q place p port, copies_owned g q (place + 1) ws rest p port own)

directs_owned : (g : Geometry) (q : ℕ) (ws : Writes) (rest : Items) (p : PortState) → IsPortOf g (Queue q) p → AreInZone g q ws → OwnsAll p rest → OwnsAll p (directs_of g ws ++ rest)
directs_owned g q [] rest p port zone own = own
directs_owned g q (w ∷ ws) rest p port zone own = (home_owned g q w.0 p port (zone w.0 (among-here w.0 (blocks_of ws))), directs_owned g q ws rest p port (λ x among. zone x (among-behind w.0 x (blocks_of ws) among)) own)

descriptor_owned : (g : Geometry) (q first count : ℕ) (further last : List ℕ) (p : PortState) → IsPortOf g (Queue q) p → OwnsAll p (descriptor_at g q first count further last)
descriptor_owned g q first zero further last p port = (place_owned g q first p port, tt)
descriptor_owned g q first (suc count) further last p port = (place_owned g q first p port, (place_owned g q (first + suc count) p port, tt))

pub items_owned : (g : Geometry) (n : NumberedCommit) (p : PortState) → IsPortOf g (Queue n.queue) p → AreInZone g n.queue n.commit.direct → OwnsAll p (items_of g n)
items_owned g n p port zone =
    copies_owned g n.queue n.first n.commit.logged _ p port
    (directs_owned g n.queue n.commit.direct _ p port zone (descriptor_owned g n.queue (n.first + length n.commit.logged) (further_of n.commit) _ _ p port))

-- a block in the zone of a queue is a home block
pub zone_home : (g : Geometry) (q x : ℕ) → q < g.queues → zone_of g x ≡ Some q → x < homes_of g
zone_home g q x queue zone =
    let row = zone-row g q x zone in
    let inside : x - (g.meta + q * g.zone) < g.zone = omega (arith, row.0, row.1) in
    let below = row-below q g.queues g.zone (x - (g.meta + q * g.zone)) queue inside in
    omega (arith, below, row.0)
