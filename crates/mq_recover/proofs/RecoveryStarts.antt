-- After a recovery the drive is a start of the pure machine.
use Rattle.std.proofs.Common.{◌≡◌, ◌<◌, ◌≤◌, ℕ, zero, suc, ◌-◌, ◌%◌, ◌^◌, true, List, [], ◌∷◌, map, Option, Some, None, get_or, refl, sym, ◌∙◌, ap, subst, arith}
use Rattle.std.proofs.lemmas.List.{length-replicate, get_or-replicate}
use Rattle.mq_blocks.specs.Descriptor.{journal_form}
use Rattle.mq_nvme.specs.Says.{says}
use Rattle.mq_blocks.specs.Blocks.{block_at}
use Rattle.mq_blocks.specs.Limits.{depth}
use Rattle.mq_blocks.specs.Drive.{PortState, PortImage}
use Rattle.mq_blocks.specs.Geometry.{homes_of, zone_of}
use Rattle.mq_blocks.specs.Journal.{IsQueueChain, number_limit}
use Rattle.mq_blocks.specs.declared.geometry.Geometry.{Geometry}
use Rattle.mq_ledger.specs.Sides.{AreHome, home_index, home_index_in, flushed_at}
use Rattle.mq_ledger.specs.State.{IsStartPort, known_of, port_at, from_at}
use Rattle.mq_ledger.specs.Written.{journal_entries}
use Rattle.mq_ledger.proofs.Written.{entries_read, form_sound}
use Rattle.mq_recover.specs.Drives.{DriveState, IsQuiescentPort, IsQuiescentDrive, view_over}
use Rattle.mq_recover.specs.Recovery.{IsReadPrefix, IsStartDrive, started}
use Rattle.mq_recover.proofs.RecoveryCutImages.{newest-low}
use Rattle.mq_recover.proofs.StepsCuts.{staged-same}
use Rattle.mq_recover.proofs.DrivesStages.{apart-none}
use Rattle.mq_recover.proofs.DrivesZones.{IsZone, port_in, role_in, image-at, view-home, placed-in, port-of}

from-at : (ports : List PortState) (q : ℕ) → from_at (map (λ p. p.doorbell) ports) q ≡ (port_at ports q).doorbell
from-at [] q = refl
from-at (p ∷ ps) zero = refl
from-at (p ∷ ps) (suc q) = from-at ps q

-- the map holds what is at home
abbrev pub HoldsHomes : Geometry → DriveState → List (Option (List ℕ)) → Type 0
HoldsHomes g d start = (x : ℕ) (content : List ℕ) → x < homes_of g → get_or start x None ≡ Some content → (view_over g d).home x ≡ content

start-homes : (g : Geometry) (d : DriveState) (start : List (Option (List ℕ))) (z : Option ℕ) → IsZone g z → IsQuiescentPort g (role_in z) (port_in d z) → HoldsHomes g d start → AreHome (known_of journal_entries (started g d start)) z (port_in d z)
start-homes g d start z zone still holds x v content inside in_zone due mapped last_low =
    let p : PortState = port_in d z in
    let placed = placed-in g z p x in_zone still.port in
    let certain_size = still.port.certain in
    let high = placed.high in
    let at : home_index g x ≡ home_index_in g z x = ap (λ (y : Option ℕ). home_index_in g y x) in_zone in
    let here : block_at (port_in d (zone_of g x)).blocks (home_index g x) ≡ content = sym (view-home g d x) ∙ holds x content inside mapped in
    record {
      certain = record { certain = still.quiet.certain (home_index g x) (omega arith); apart = apart-none p (home_index g x) p.posted still.quiet.posted };
      is = ap (λ (y : Option ℕ). block_at (port_in d y).blocks (home_index g x)) (sym in_zone) ∙ here;
    }

-- a port that has one image, whose head is at its doorbell
start-port : (g : Geometry) (d : DriveState) (start : List (Option (List ℕ))) (z : Option ℕ) (from : ℕ) → IsZone g z → IsQuiescentPort g (role_in z) (port_in d z) → HoldsHomes g d start
    → (port_in d z).doorbell ≡ from → (port_in d z).head ≡ from → from ≤ number_limit
    → (0 < from → (n : ℕ) × (lba : ℕ) × (says (flushed_at (port_in d z) (from - 1)) ≡ Some (n, lba, true)) × (n ≤ d.root.base))
    → IsStartPort journal_entries (started g d start) z from (port_in d z)
start-port g d start z from zone still holds bell head low newest =
    let quiet = still.quiet in
    record {
      port = port-of g z (port_in d z) still.port;
      doorbell = bell;
      head = head;
      stored_head = quiet.head ∙ head;
      flushed_end = quiet.flushed_end ∙ bell;
      pending = quiet.pending;
      posted = quiet.posted;
      failed = quiet.failed;
      staged = staged-same g (role_in z) (port_in d z) still.port quiet;
      low = low;
      newest = newest;
      homes = start-homes g d start z zone still holds;
    }

queue-start : (g : Geometry) (d : DriveState) (start : List (Option (List ℕ))) (base q : ℕ) → IsQuiescentDrive g d → (port_at d.queues q).head ≡ (port_at d.queues q).doorbell → IsReadPrefix g (view_over g d) [] base → d.root.base ≡ base → HoldsHomes g d start → q < g.queues
    → IsStartPort journal_entries (started g d start) (Some q) (port_at d.queues q).doorbell (port_at d.queues q)
queue-start g d start base q still at read base_is holds own =
    let p : PortState = port_at d.queues q in
    let chain : IsQueueChain g (view_over g d) q (read.chains q) = read.whole.each q own in
    let image = image-at d.queues q in
    let head : (view_over g d).head q ≡ p.doorbell = ap (λ (i : PortImage). i.head) image ∙ at in
    let bell : (view_over g d).doorbell q ≡ p.doorbell = ap (λ (i : PortImage). i.doorbell) image in
    let low = chain.low in
    let number_low = newest-low g (view_over g d) read.chains base q chain.number chain.place (read.chains q) own read.top_is refl chain.chain in
    start-port g d start (Some q) p.doorbell own (still.each q own) holds refl at (omega arith)
    (λ some. (
      chain.number,
      chain.lba,
      sym (ap (λ (i : PortImage). says (get_or i.slots ((p.doorbell - 1) % depth) [])) image)
          ∙ ap (λ (n : ℕ). (view_over g d).entry q ((n - 1) % depth)) (sym head)
          ∙ chain.newest (omega arith),
      omega arith,
    ))

-- over the base that is its greatest number, with all heads at their doorbells
pub starts : (g : Geometry) (d : DriveState) (base : ℕ) → IsQuiescentDrive g d → ((q : ℕ) → q < g.queues → (port_at d.queues q).head ≡ (port_at d.queues q).doorbell) → IsReadPrefix g (view_over g d) [] base → d.root.base ≡ base → IsStartDrive g d
starts g d base still heads read base_is start long holds =
    let limit = read.whole.limit in
    record {
      entries = entries_read journal_form;
      form = form_sound;
      history = refl;
      low = limit;
      base = refl;
      stored_base = still.root.quiet.base;
      start = long;
      ports = still.count;
      marked = length-replicate g.queues (2 ^ 64 - 1);
      marks = λ q own. get_or-replicate g.queues q (2 ^ 64 - 1) 0 own;
      writing = refl;
      acknowledged = refl;
      each = λ q own.
          subst (λ (n : ℕ). IsStartPort journal_entries (started g d start) (Some q) n (port_at d.queues q)) (sym (from-at d.queues q))
          (queue-start g d start base q still (heads q own) read base_is holds own);
      root = start-port g d start None 0 tt still.root holds still.ringless.0 still.ringless.1 (omega arith) (λ some. absurd (omega arith));
    }
