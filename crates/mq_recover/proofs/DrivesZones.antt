-- The ports of a drive by their zones, and where the home blocks lie.
use Rattle.std.proofs.Common.{◌≡◌, ◌≢◌, ◌<◌, ◌≤◌, ◌⊎◌, inl, inr, ℕ, zero, suc, ◌+◌, ◌-◌, ◌*◌, List, [], ◌∷◌, length, map, Option, Some, None, set, refl, sym, ◌∙◌, ap, subst, arith}
use Rattle.std.proofs.lemmas.Bool.{cases_eq, cases_lt, lt-ltb, le-ltb}
use Rattle.std.proofs.lemmas.List.{length-set, get_or-set_same, get_or-set_other, set-set}
use Rattle.std.proofs.lemmas.Nat.{div_below}
use Rattle.mq_blocks.specs.Blocks.{block_at}
use Rattle.mq_blocks.specs.Drive.{PortState, PortImage, IsImage, IsHome, index_of, image_of}
use Rattle.mq_blocks.specs.Geometry.{homes_of, home_lba, zone_of}
use Rattle.mq_blocks.specs.Journal.{image_at, home_block}
use Rattle.mq_blocks.specs.Ports.{IsPort}
use Rattle.mq_blocks.specs.declared.geometry.Geometry.{Geometry}
use Rattle.mq_blocks.proofs.GeometryZones.{zone-row, zone-none}
use Rattle.mq_ledger.specs.Sides.{home_index, home_index_in}
use Rattle.mq_ledger.specs.State.{port_at}
use Rattle.mq_drive.specs.Start.{IsPortOf, area_size_of}
use Rattle.mq_drive.specs.declared.role.Role.{Role}
use Rattle.mq_drive.specs.declared.role.Role.TheVariants.{Queue, Root}
use Rattle.mq_drive.proofs.StartRolePorts.{is-port}
use Rattle.mq_recover.specs.Drives.{DriveState, IsQuiescentPort, ArePorts, IsQuiescentDrive, AreImages, at_queue, view_over}
use Rattle.mq_recover.specs.Events.{at_home}

-- ---- a port by its zone

-- a queue's port, or the root's
abbrev pub port_in : DriveState → Option ℕ → PortState
port_in d (Some q) = port_at d.queues q
port_in d None = d.root

abbrev pub image_in : List PortImage → PortImage → Option ℕ → PortImage
image_in queues root (Some q) = image_at queues q
image_in queues root None = root

abbrev pub role_in : Option ℕ → Role
role_in (Some q) = Queue q
role_in None = Root

-- the zone is one of the geometry's
abbrev pub IsZone : Geometry → Option ℕ → Type 0
IsZone g (Some q) = q < g.queues
IsZone g None = Unit {0}

pub zone-cases : (y z : Option ℕ) → (y ≡ z) ⊎ (y ≢ z)
zone-cases None None = inl refl
zone-cases None (Some r) = inr (λ e. cc)
zone-cases (Some q) None = inr (λ e. cc)
zone-cases (Some q) (Some r) = elim (cases_eq q r) [
  | inl same ↦ inl (ap (λ (n : ℕ). Some n) same)
  | inr other ↦ inr (λ e. other (some-is q r e))
]
  where
    some-is : (q r : ℕ) → Some q ≡ Some r → q ≡ r
    some-is q r e = cc

pub zone-is : (g : Geometry) (x : ℕ) → x < homes_of g → IsZone g (zone_of g x)
zone-is g x inside = elim (cases_lt x g.meta) [
  | inl low ↦ rw (lt-ltb x g.meta low) tt
  | inr high ↦ rw (le-ltb x g.meta high) (div_below (x - g.meta) g.zone g.queues (let z = g.zone_low in omega arith) (omega arith))
]

-- ---- the same fact of all ports

pub ports-in : (g : Geometry) (d : DriveState) → ArePorts g d → (z : Option ℕ) → IsZone g z → IsPortOf g (role_in z) (port_in d z)
ports-in g d ports None zone = ports.root
ports-in g d ports (Some q) zone = ports.each q zone

pub ports-of : (g : Geometry) (d : DriveState) → length d.queues ≡ g.queues → ((z : Option ℕ) → IsZone g z → IsPortOf g (role_in z) (port_in d z)) → ArePorts g d
ports-of g d count each = record { count = count; each = λ q low. each (Some q) low; root = each None tt }

pub still-in : (g : Geometry) (d : DriveState) → IsQuiescentDrive g d → (z : Option ℕ) → IsZone g z → IsQuiescentPort g (role_in z) (port_in d z)
still-in g d still None zone = still.root
still-in g d still (Some q) zone = still.each q zone

pub still-ports : (g : Geometry) (d : DriveState) → IsQuiescentDrive g d → ArePorts g d
still-ports g d still = record { count = still.count; each = λ q low. (still.each q low).port; root = still.root.port }

pub images-in : (g : Geometry) (d : DriveState) (queues : List PortImage) (root : PortImage) → AreImages g d queues root → (z : Option ℕ) → IsZone g z → IsImage (port_in d z) (image_in queues root z)
images-in g d queues root images None zone = images.root_is
images-in g d queues root images (Some q) zone = images.each q zone

-- ---- one port changes

pub queue-here : (d : DriveState) (q : ℕ) (f : PortState → PortState) → q < length d.queues → port_at (at_queue q f d).queues q ≡ f (port_at d.queues q)
queue-here d q f low = get_or-set_same d.queues q (f (port_at d.queues q)) _ low

pub queue-apart : (d : DriveState) (q r : ℕ) (f : PortState → PortState) → r ≢ q → port_at (at_queue q f d).queues r ≡ port_at d.queues r
queue-apart d q r f other = get_or-set_other d.queues q r (f (port_at d.queues q)) _ other

pub at-count : (d : DriveState) (z : Option ℕ) (f : PortState → PortState) → length (at_home z f d).queues ≡ length d.queues
at-count d None f = refl
at-count d (Some q) f = length-set d.queues q (f (port_at d.queues q))

pub at-here : (g : Geometry) (d : DriveState) (z : Option ℕ) (f : PortState → PortState) → length d.queues ≡ g.queues → IsZone g z → port_in (at_home z f d) z ≡ f (port_in d z)
at-here g d None f count zone = refl
at-here g d (Some q) f count zone = queue-here d q f (omega arith)

pub at-apart : (d : DriveState) (y z : Option ℕ) (f : PortState → PortState) → y ≢ z → port_in (at_home z f d) y ≡ port_in d y
at-apart d None None f other = absurd (other refl)
at-apart d None (Some q) f other = refl
at-apart d (Some r) None f other = refl
at-apart d (Some r) (Some q) f other = queue-apart d q r f (λ e. other (ap (λ (n : ℕ). Some n) e))

-- what holds of a port after a change: of the one that changes, or of another as before
pub at-one : (g : Geometry) (P : PortState → Type 0) (d : DriveState) (y z : Option ℕ) (f : PortState → PortState) → length d.queues ≡ g.queues → IsZone g y
    → (y ≡ z → P (f (port_in d z))) → (y ≢ z → P (port_in d y)) → P (port_in (at_home z f d) y)
at-one g P d y z f count zone here apart = elim (zone-cases y z) [
  | inl same ↦
      let own : IsZone g z = subst (IsZone g) same zone in
      subst (λ (w : Option ℕ). P (port_in (at_home z f d) w)) (sym same) (subst P (sym (at-here g d z f count own)) (here same))
  | inr other ↦ subst P (sym (at-apart d y z f other)) (apart other)
]

-- a fact of all ports stays one where it stays one of the port that changes
pub at-each : (g : Geometry) (P : Option ℕ → PortState → Type 0) (d : DriveState) (z : Option ℕ) (f : PortState → PortState) → length d.queues ≡ g.queues
    → ((y : Option ℕ) → IsZone g y → P y (port_in d y)) → (IsZone g z → P z (f (port_in d z))) → (y : Option ℕ) → IsZone g y → P y (port_in (at_home z f d) y)
at-each g P d z f count each changed y zone = at-one g (P y) d y z f count zone
    (λ same. subst (λ (w : Option ℕ). P w (f (port_in d z))) (sym same) (changed (subst (IsZone g) same zone)))
    (λ other. each y zone)

-- two changes of a port are one
pub at-twice : (g : Geometry) (d : DriveState) (z : Option ℕ) (f h : PortState → PortState) → length d.queues ≡ g.queues → IsZone g z → at_home z h (at_home z f d) ≡ at_home z (λ _. h (f (port_in d z))) d
at-twice g d None f h count zone = refl
at-twice g d (Some q) f h count zone =
    ap (λ (p : PortState). record { queues = set (set d.queues q (f (port_at d.queues q))) q (h p); root = d.root }) (queue-here d q f (omega arith))
    ∙ ap (λ (l : List PortState). record { queues = l; root = d.root }) (set-set d.queues q (f (port_at d.queues q)) (h (f (port_at d.queues q))))

-- ---- images

pub image-at : (ports : List PortState) (q : ℕ) → image_at (map image_of ports) q ≡ image_of (port_at ports q)
image-at [] q = refl
image-at (p ∷ ps) zero = refl
image-at (p ∷ ps) (suc q) = image-at ps q

pub image-own : (d : DriveState) (z : Option ℕ) → image_in (map image_of d.queues) (image_of d.root) z ≡ image_of (port_in d z)
image-own d None = refl
image-own d (Some q) = image-at d.queues q

pub home-in : (g : Geometry) (queues : List PortImage) (root : PortImage) (x : ℕ) (z : Option ℕ) → home_block g queues root x z ≡ block_at (image_in queues root z).blocks (home_index_in g z x)
home-in g queues root x None = refl
home-in g queues root x (Some q) = refl

-- the content of a home block
abbrev pub home_in : Geometry → DriveState → ℕ → List ℕ
home_in g d x = block_at (port_in d (zone_of g x)).blocks (home_index g x)

pub view-home : (g : Geometry) (d : DriveState) (x : ℕ) → (view_over g d).home x ≡ home_in g d x
view-home g d x =
    home-in g (map image_of d.queues) (image_of d.root) x (zone_of g x)
    ∙ ap (λ (i : PortImage). block_at i.blocks (home_index g x)) (image-own d (zone_of g x))

-- ---- where home blocks lie

-- where the block stands among those of its port
pub record IsPlaced (g : Geometry) (z : Option ℕ) (p : PortState) (x : ℕ) : Type 0 where
  pub index_is : index_of p (home_lba g x) ≡ home_index_in g z x
  pub low : area_size_of g (role_in z) ≤ home_index_in g z x
  pub high : home_index_in g z x < length p.blocks

pub placed-in : (g : Geometry) (z : Option ℕ) (p : PortState) (x : ℕ) → zone_of g x ≡ z → IsPortOf g (role_in z) p → IsPlaced g z p x
placed-in g None p x is port =
    let low = zone-none g x is in
    let first : p.homes_first ≡ g.queues * g.area = port.homes_first in
    let size : p.area_size ≡ 0 = port.area_size in
    let blocks : length p.blocks ≡ 0 + g.meta = port.blocks in
    let past : p.homes_first ≤ home_lba g x = omega arith in
    let at : p.area_size + (home_lba g x - p.homes_first) ≡ x = omega arith in
    record { index_is = rw (le-ltb (home_lba g x) p.homes_first past) at; low = omega arith; high = omega arith }
placed-in g (Some q) p x is port =
    let row = zone-row g q x is in
    let above = row.0 in
    let below = row.1 in
    let first : p.homes_first ≡ g.queues * g.area + (g.meta + q * g.zone) = port.homes_first in
    let size : p.area_size ≡ g.area = port.area_size in
    let blocks : length p.blocks ≡ g.area + g.zone = port.blocks in
    let past : p.homes_first ≤ home_lba g x = omega arith in
    let at : p.area_size + (home_lba g x - p.homes_first) ≡ g.area + (x - (g.meta + q * g.zone)) = omega arith in
    record { index_is = rw (le-ltb (home_lba g x) p.homes_first past) at; low = omega arith; high = omega arith }

pub placed-at : (g : Geometry) (x : ℕ) (p : PortState) → IsPortOf g (role_in (zone_of g x)) p → IsPlaced g (zone_of g x) p x
placed-at g x p port = placed-in g (zone_of g x) p x refl port

-- blocks of one zone have places of their own
pub place-apart : (g : Geometry) (x y : ℕ) → zone_of g x ≡ zone_of g y → home_index g x ≡ home_index g y → x ≡ y
place-apart g x y zone same = apart (zone_of g y) zone refl (ap (λ (z : Option ℕ). home_index_in g z x) (sym zone) ∙ same)
  where
    apart : (z : Option ℕ) → zone_of g x ≡ z → zone_of g y ≡ z → home_index_in g z x ≡ home_index_in g z y → x ≡ y
    apart None a b is = is
    apart (Some q) a b is = let r = (zone-row g q x a).0 in let s = (zone-row g q y b).0 in omega arith

-- ---- a port as the pure machine sees it

pub port-of : (g : Geometry) (z : Option ℕ) (p : PortState) → IsPortOf g (role_in z) p → IsPort g z p
port-of g None p port = is-port port
port-of g (Some q) p port = is-port port

-- a home block is one of its port's
pub home-own : (g : Geometry) (z : Option ℕ) (p : PortState) (x : ℕ) → zone_of g x ≡ z → IsPortOf g (role_in z) p → IsHome p (home_lba g x)
home-own g None p x is port =
    let low = zone-none g x is in
    let first : p.homes_first ≡ g.queues * g.area = port.homes_first in
    let size : p.homes_size ≡ g.meta = port.homes_size in
    (omega arith, omega arith)
home-own g (Some q) p x is port =
    let row = zone-row g q x is in
    let above = row.0 in
    let below = row.1 in
    let first : p.homes_first ≡ g.queues * g.area + (g.meta + q * g.zone) = port.homes_first in
    let size : p.homes_size ≡ g.zone = port.homes_size in
    (omega arith, omega arith)
