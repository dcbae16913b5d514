-- What is read on a drive that is a start of the machine: nothing is left to bring home, so what stands is
-- at home.
use Rattle.std.proofs.Common.{◌≡◌, ◌⊎◌, inl, inr, ℕ, zero, suc, ◌-◌, ◌%◌, ◌<◌, ◌≤◌, true, List, [], get_or, replicate, refl, sym, ap, ◌∙◌, arith}
use Rattle.std.specs.Prelude.{Option, Some, None}
use Rattle.std.proofs.lemmas.List.{length-replicate, get_or-replicate}
use Rattle.std.proofs.lemmas.List.FromFn.{length-map-range_with_len}
use Rattle.mq_blocks.specs.Blocks.{block_at}
use Rattle.mq_blocks.specs.Limits.{depth}
use Rattle.mq_blocks.specs.Descriptor.{Descriptor}
use Rattle.mq_blocks.specs.Drive.{PortImage}
use Rattle.mq_blocks.specs.Geometry.{homes_of}
use Rattle.mq_blocks.specs.Journal.{AreWhole, number_limit, stands}
use Rattle.mq_blocks.specs.declared.geometry.Geometry.{Geometry}
use Rattle.mq_blocks.specs.Machine.{Map}
use Rattle.mq_ledger.specs.State.{IsStart, IsStartPort, port_at}
use Rattle.mq_ledger.specs.Written.{journal_entries}
use Rattle.mq_recover.specs.Drives.{DriveState, view_over}
use Rattle.mq_recover.specs.Recovery.{IsReadPrefix, IsStartDrive, started}
use Rattle.mq_recover.specs.Standing.{StandsIn}
use Rattle.mq_recover.specs.declared.standing.Standing.{Standing}
use Rattle.mq_recover.proofs.DrivesImages.{read-same}
use Rattle.mq_recover.proofs.DrivesZones.{image-at}
use Rattle.mq_sessions.specs.Opening.{listed}
use Rattle.mq_sessions.proofs.OpeningState.{map-at}

-- ---- the images of a start

-- no block of the map is known
abbrev blank : Geometry → List (Option (List ℕ))
blank g = replicate (homes_of g) None

start-of : (g : Geometry) (d : DriveState) → IsStartDrive g d → IsStart journal_entries (started g d (blank g))
start-of g d start = start (blank g) (length-replicate (homes_of g) None) (λ x content low e. let none : Some content ≡ None = sym e ∙ get_or-replicate (homes_of g) x None None low in absurd (cc))

-- the number of the entry before the head is not above the base
pub record IsHeld (g : Geometry) (d : DriveState) (q : ℕ) : Type 0 where
  pub number : ℕ
  pub lba : ℕ
  pub head : (view_over g d).head q ≡ (view_over g d).doorbell q
  pub low : (view_over g d).doorbell q ≤ number_limit
  pub newest : 0 < (view_over g d).head q → (view_over g d).entry q (((view_over g d).head q - 1) % depth) ≡ Some (number, lba, true)
  pub none : (view_over g d).head q ≡ 0 → number ≡ 0
  pub under : number ≤ d.root.base

held-by : (g : Geometry) (d : DriveState) (q from : ℕ) → IsStartPort journal_entries (started g d (blank g)) (Some q) from (port_at d.queues q) → IsHeld g d q
held-by g d q zero s =
    let image = image-at d.queues q in
    let head : (view_over g d).head q ≡ 0 = ap (λ (i : PortImage). i.head) image ∙ s.head in
    let bell : (view_over g d).doorbell q ≡ 0 = ap (λ (i : PortImage). i.doorbell) image ∙ s.doorbell in
    record {
      number = 0;
      lba = 0;
      head = head ∙ sym bell;
      low = omega arith;
      newest = λ some. absurd (omega arith);
      none = λ e. refl;
      under = omega arith;
    }
held-by g d q (suc from) s =
    let image = image-at d.queues q in
    let head : (view_over g d).head q ≡ suc from = ap (λ (i : PortImage). i.head) image ∙ s.head in
    let bell : (view_over g d).doorbell q ≡ suc from = ap (λ (i : PortImage). i.doorbell) image ∙ s.doorbell in
    let said = s.newest (omega arith) in
    let limit = s.low in
    record {
      number = said.0;
      lba = said.1;
      head = head ∙ sym bell;
      low = omega arith;
      newest = λ some. ap (λ (n : ℕ). (view_over g d).entry q ((n - 1) % depth)) head ∙ (ap (λ (i : PortImage). journal_entries.says (get_or i.slots ((suc from - 1) % depth) [])) image ∙ said.2);
      none = λ e. absurd (omega arith);
      under = said.3;
    }

held : (g : Geometry) (d : DriveState) → IsStartDrive g d → (q : ℕ) → q < g.queues → IsHeld g d q
held g d start q own = held-by g d q _ ((start-of g d start).each q own)

abbrev none-at : ℕ → List Descriptor
none-at q = []

whole : (g : Geometry) (d : DriveState) → IsStartDrive g d → AreWhole g (view_over g d) none-at
whole g d start = record {
  limit = (start-of g d start).low;
  each = λ q own.
      let h = held g d start q own in
      let limit = (start-of g d start).low in
      let head = h.head in
      let under = h.under in
      record {
        number = h.number;
        lba = h.lba;
        place = 0;
        order = omega arith;
        few = omega arith;
        low = h.low;
        none = h.none;
        newest = h.newest;
        limit = omega arith;
        own = λ above. absurd (omega arith);
        chain = under;
        reach = tt;
        rung = λ c low high. absurd (omega arith);
        rung_whole = λ some. absurd (omega arith);
      };
  once = λ q r own other apart x y h i. absurd h;
}

-- nothing is left to bring home
pub start-read : (g : Geometry) (d : DriveState) → IsStartDrive g d → IsReadPrefix g (view_over g d) [] d.root.base
start-read g d start = record {
  form_is = refl;
  chains = none-at;
  whole = whole g d start;
  prefix = record { row = tt; whole = λ x h. absurd h; greatest = λ q x own h. absurd h };
  top_is = record {
    whole = whole g d start;
    shown = record { where_from = inl refl };
    greatest = λ n s. most n s.where_from;
  };
}
  where
    most : (n : ℕ) → (n ≡ (view_over g d).base) ⊎ (((q : ℕ) × (x : Descriptor) × (q < g.queues) × ⊥ × (x.number ≡ n)) ⊎ ((q : ℕ) × (c : ℕ) × (s : ℕ × ℕ × _) × (q < g.queues) × ((view_over g d).head q ≤ c) × (c < (view_over g d).doorbell q) × ((view_over g d).entry q (c % depth) ≡ Some s) × (s.0 ≡ n))) → n ≤ d.root.base
    most n (inl is) = omega arith
    most n (inr (inl h)) = absurd h.3
    most n (inr (inr h)) = let e = (held g d start h.0 h.3).head in let low = h.4 in let high = h.5 in absurd (omega arith)

-- ---- what stands

-- what stands on each home block is there
pub stands-home : (g : Geometry) (d : DriveState) (s : Standing) → IsStartDrive g d → StandsIn g d s → (b : ℕ) → b < homes_of g → block_at s.blocks.items b ≡ (view_over g d).home b
stands-home g d s start (ds, top, read, is) b low =
    let none : ds ≡ [] = (read-same g (view_over g d) ds [] top d.root.base read (start-read g d start)).0 in
    is.blocks_are b low ∙ ap (λ (es : List Descriptor). stands g (view_over g d) es b) none

-- such a drive is a start of the machine over each map of home blocks that what stands holds
pub starts-over : (g : Geometry) (d : DriveState) (s : Standing) (m : Map) → IsStartDrive g d → StandsIn g d s → ((b : ℕ) → homes_of g ≤ b → m b ≡ None) → ((b : ℕ) (page : List ℕ) → m b ≡ Some page → page ≡ block_at s.blocks.items b)
    → IsStart journal_entries (started g d (listed g m))
starts-over g d s m start stood none held = start (listed g m) (length-map-range_with_len m 0 (homes_of g)) (λ x content low e. sym (stands-home g d s start stood x low) ∙ sym (held x content (sym (map-at g m none x) ∙ e)))
