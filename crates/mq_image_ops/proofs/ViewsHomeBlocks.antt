-- The home blocks of an image, taken out of its ports, and what they are after a recovery.
use Rattle.std.proofs.Common.{◌≡◌, ◌<◌, inl, inr, ℕ, zero, suc, ◌+◌, ◌-◌, ◌*◌, ◌/◌, Bool, if◌then◌else◌, List, [], ◌∷◌, ◌++◌, All, length, take, drop, get_or, Option, Some, None, refl, sym, ◌∙◌, ap, subst, arith, append_assoc, length-append}
use Rattle.std.proofs.lemmas.Bool.{cases_lt, lt-ltb, le-ltb}
use Rattle.std.proofs.lemmas.List.{get_or-append_right, get_or-drop, get_or_append_left, length-drop, take_at}
use Rattle.std.proofs.lemmas.Nat.{div_below, mod_below}
use Rattle.std.proofs.Math.Nat.{mod-add-div'}
use Rattle.mq_blocks.specs.Blocks.{block_at, content}
use Rattle.mq_blocks.specs.Drive.{PortImage}
use Rattle.mq_blocks.specs.Geometry.{homes_of, zone_of}
use Rattle.mq_blocks.specs.Journal.{home_block, image_at, no_image}
use Rattle.mq_blocks.specs.declared.geometry.Geometry.{Geometry}
use Rattle.mq_drive.specs.Start.{IsImageOf}
use Rattle.mq_drive.specs.declared.role.Role.TheVariants.{Queue}
use Rattle.mq_image.specs.Drives.{IsDrive}
use Rattle.mq_image.specs.File.{DriveImage, HasArea, queue_ports, root_port, zones}
use Rattle.mq_image_ops.specs.Recovering.{IsAllHome, IsRecoveryOf}
use Rattle.mq_image_ops.specs.Standing.{IsStandingOf}
use Rattle.mq_image_ops.specs.Views.{home_blocks, view_of}
use Rattle.mq_image_ops.specs.declared.recovery.RecoveredImage.{RecoveredImage}
use Rattle.mq_image_ops.proofs.StandingRestarts.{all-home}
use Rattle.mq_image_ops.proofs.Views.{queue-in, queues-count}

abbrev Blocks : Type 0
Blocks = List (Option (List ℕ))

-- ---- zone after zone

-- the blocks are the root's and then the zones of all ports but those that are left
pub record AreTakenTo (g : Geometry) (root : Blocks) (all left : List PortImage) (blocks : Blocks) : Type 0 where
  pub areas : All (HasArea g) left
  pub parts : blocks ++ zones g left ≡ root ++ zones g all

-- each queue's port has an area and a zone
abbrev HasZone : Geometry → PortImage → Type 0
HasZone g p = length p.blocks ≡ g.area + g.zone

queue-zones : (x : DriveImage) → IsDrive x → All (HasZone x.geometry) (queue_ports x)
queue-zones x drive q d low =
    let many = queues-count x drive in
    let own : q < x.geometry.queues = omega (arith, low, many) in
    let image : IsImageOf x.geometry (Queue q) (get_or x.ports q no_image) = drive.queues q own in
    let is : get_or (queue_ports x) q d ≡ get_or x.ports q no_image = any-else (queue_ports x) q d no_image low ∙ queue-in x q own in
    subst (HasZone x.geometry) (sym is) image.blocks
  where
    any-else : (l : List PortImage) (q : ℕ) (d e : PortImage) → q < length l → get_or l q d ≡ get_or l q e
    any-else [] q d e low = absurd (omega arith)
    any-else (s ∷ l) zero d e low = refl
    any-else (s ∷ l) (suc q) d e low = any-else l q d e (omega (arith, low))

-- the last port is the root's
pub none-taken : (g : Geometry) (x : DriveImage) (left : List PortImage) (root : PortImage) (blocks : Blocks) → g ≡ x.geometry → IsDrive x → x.ports ≡ left ++ root ∷ [] → blocks ≡ root.blocks → AreTakenTo g (root_port x).blocks (queue_ports x) left blocks
none-taken g x left root blocks same drive parts is =
    let n : ℕ = x.geometry.queues in
    let long = ap length parts ∙ length-append left (root ∷ []) in
    let many = drive.ports in
    let count : length left ≡ n = omega (arith, long, many) in
    let rest : queue_ports x ≡ left = ap (take n) parts ∙ take_at left (root ∷ []) n count in
    let first : n - n ≡ 0 = omega arith in
    let own : root_port x ≡ root = ap (λ (l : List PortImage). get_or l n no_image) parts ∙ get_or-append_right left (root ∷ []) n n no_image count (omega arith) ∙ ap (λ (k : ℕ). get_or (root ∷ []) k no_image) first in
    let area : All (HasArea g) (queue_ports x) = λ q d low. let l = queue-zones x drive q d low in let a = ap (λ (h : Geometry). h.area) same in omega (arith, l, a) in
    record {
      areas = subst (All (HasArea g)) rest area;
      parts = ap (λ (bs : Blocks). bs ++ zones g left) (is ∙ ap (λ (p : PortImage). p.blocks) (sym own)) ∙ ap (λ (l : List PortImage). (root_port x).blocks ++ zones g l) (sym rest);
    }

pub next-taken : (g : Geometry) (root : Blocks) (all : List PortImage) (p : PortImage) (left : List PortImage) (blocks more : Blocks) → AreTakenTo g root all (p ∷ left) blocks → more ≡ blocks ++ drop g.area p.blocks → AreTakenTo g root all left more
next-taken g root all p left blocks more to more-is = record {
  areas = λ k d low. to.areas (suc k) d (omega (arith, low));
  parts = ap (λ (bs : Blocks). bs ++ zones g left) more-is ∙ append_assoc blocks (drop g.area p.blocks) (zones g left) ∙ to.parts;
}

-- ---- by their numbers

drop-zone : (g : Geometry) (p : PortImage) → HasZone g p → length (drop g.area p.blocks) ≡ g.zone
drop-zone g p zone = length-drop g.area p.blocks ∙ (let e : length p.blocks - g.area ≡ g.zone = omega (arith, zone) in e)

zones-long : (g : Geometry) (ps : List PortImage) → All (HasZone g) ps → length (zones g ps) ≡ length ps * g.zone
zones-long g [] all = (let e : 0 ≡ 0 * g.zone = omega arith in e)
zones-long g (p ∷ ps) all =
    let one = drop-zone g p (all 0 p (omega arith)) in
    let rest = zones-long g ps (λ k d low. all (suc k) d (omega (arith, low))) in
    let both = length-append (drop g.area p.blocks) (zones g ps) in
    omega (arith, one, rest, both)

zones-at : (g : Geometry) (ps : List PortImage) (q k : ℕ) → All (HasZone g) ps → q < length ps → k < g.zone → get_or (zones g ps) (q * g.zone + k) None ≡ get_or (image_at ps q).blocks (g.area + k) None
zones-at g [] q k all low within = absurd (omega arith)
zones-at g (p ∷ ps) zero k all low within =
    let one = drop-zone g p (all 0 p (omega arith)) in
    ap (λ (i : ℕ). get_or (drop g.area p.blocks ++ zones g ps) i None) (let e : zero * g.zone + k ≡ k = omega arith in e)
    ∙ get_or_append_left (drop g.area p.blocks) (zones g ps) None k (omega (arith, one, within))
    ∙ get_or-drop g.area p.blocks k None
zones-at g (p ∷ ps) (suc q) k all low within =
    let one = drop-zone g p (all 0 p (omega arith)) in
    let some : suc q * g.zone ≡ q * g.zone + g.zone = omega arith in
    get_or-append_right (drop g.area p.blocks) (zones g ps) g.zone (suc q * g.zone + k) None one (omega (arith, some))
    ∙ ap (λ (i : ℕ). get_or (zones g ps) i None) (let e : suc q * g.zone + k - g.zone ≡ q * g.zone + k = omega (arith, some) in e)
    ∙ zones-at g ps q k (λ i d below. all (suc i) d (omega (arith, below))) (omega (arith, low)) within

module _ (x : DriveImage) (drive : IsDrive x) where
  abbrev g : Geometry
  g = x.geometry

  root-long : length (root_port x).blocks ≡ g.meta
  root-long = (let e = drive.root.blocks in omega (arith, e))

  homes-long : length (home_blocks x) ≡ homes_of g
  homes-long =
      let root = root-long in
      let many = queues-count x drive in
      let zones_are = zones-long g (queue_ports x) (queue-zones x drive) in
      let count : length (queue_ports x) * g.zone ≡ g.queues * g.zone = ap (λ (n : ℕ). n * g.zone) many in
      let both = length-append (root_port x).blocks (zones g (queue_ports x)) in
      omega (arith, root, zones_are, count, both)

  homes-at : (b : ℕ) → b < homes_of g → block_at (home_blocks x) b ≡ (view_of x).home b
  homes-at b inside = elim (cases_lt b g.meta) [
    | inl low ↦ (
        let none : zone_of g b ≡ None = ap (λ (t : Bool). if t then None else Some ((b - g.meta) / g.zone)) (lt-ltb b g.meta low) in
        let root = root-long in
        ap content (get_or_append_left (root_port x).blocks (zones g (queue_ports x)) None b (omega (arith, low, root))) ∙ ap (home_block g (queue_ports x) (root_port x) b) (sym none)
        )
    | inr high ↦ (
        let q : ℕ = (b - g.meta) / g.zone in
        let some : zone_of g b ≡ Some q = ap (λ (t : Bool). if t then None else Some q) (le-ltb b g.meta high) in
        let big = g.zone_low in
        let low : q < g.queues = div_below (b - g.meta) g.zone g.queues (omega (arith, big)) (omega (arith, inside, high)) in
        let many = queues-count x drive in
        let sum = mod-add-div' (b - g.meta) g.zone in
        let less = mod_below (b - g.meta) g.zone (omega (arith, big)) in
        let k : ℕ = b - (g.meta + q * g.zone) in
        let within : k < g.zone = omega (arith, sum, less, high) in
        let is : b - g.meta ≡ q * g.zone + k = omega (arith, sum, less, high) in
        ap content (
        get_or-append_right (root_port x).blocks (zones g (queue_ports x)) g.meta b None root-long high
        ∙ ap (λ (i : ℕ). get_or (zones g (queue_ports x)) i None) is
        ∙ zones-at g (queue_ports x) q k (queue-zones x drive) (omega (arith, low, many)) within
        ) ∙ ap (home_block g (queue_ports x) (root_port x) b) (sym some)
        )
  ]

-- ---- after a recovery

pub recovered-stand : (x : DriveImage) (r : RecoveredImage) (stored : Blocks) → IsRecoveryOf x None r → stored ≡ home_blocks r.image → IsStandingOf x stored
recovered-stand x r stored recovery is =
    let home : IsAllHome x recovery.ds recovery.top r.image = all-home x r recovery in
    let under : (b : ℕ) → b < homes_of x.geometry → b < homes_of r.image.geometry = λ b low. subst (λ (h : Geometry). b < homes_of h) (sym recovery.geometry) low in
    record {
      ds = recovery.ds;
      top = recovery.top;
      read = recovery.plan.read;
      blocks = record {
        count = ap length is ∙ homes-long r.image recovery.drive ∙ ap homes_of recovery.geometry;
        each = λ b low. ap (λ (l : Blocks). block_at l b) is ∙ homes-at r.image recovery.drive b (under b low) ∙ home.homes b low;
      };
    }
