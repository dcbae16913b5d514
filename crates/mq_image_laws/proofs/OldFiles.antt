-- What a file of version 1 is read as says what the file says by its own rules.
use Rattle.std.proofs.Common.{get_or, ◌≡◌, ◌≤◌, ◌<◌, ℕ, inl, inr, ◌+◌, ◌-◌, ◌%◌, List, [], ◌∷◌, ◌++◌, length, map, Option, None, refl, sym, ◌∙◌, ap, subst, arith, length-append}
use Rattle.std.specs.Prelude.{◌↔◌}
use Rattle.std.proofs.lemmas.Bool.{cases_lt}
use Rattle.std.proofs.lemmas.List.{get_or-append_right, get_or-map, get_or_append_left, get_or_at, length-map, take_at}
use Rattle.mq_blocks.specs.Blocks.{block_at}
use Rattle.mq_blocks.specs.Descriptor.{Descriptor}
use Rattle.mq_blocks.specs.Drive.{FuseName, PortImage, PortState, no_fuse}
use Rattle.mq_blocks.specs.Geometry.{homes_of, queues_of}
use Rattle.mq_blocks.specs.Journal.{AreWhole, Has, Shown, image_at, no_image, stands}
use Rattle.mq_blocks.specs.Limits.{depth}
use Rattle.mq_blocks.specs.declared.geometry.Geometry.{Geometry}
use Rattle.mq_drive.specs.declared.role.Role.TheVariants.{Queue, Root}
use Rattle.mq_image.specs.Drives.{IsDrive, IsOldFile, IsRead}
use Rattle.mq_image.specs.File.{DriveImage, queue_ports, root_port}
use Rattle.mq_image.specs.Old.{IsOldPort, moved}
use Rattle.mq_image.proofs.OldMoves.{entry-moved}
use Rattle.mq_image_laws.specs.OldFiles.{by_old_rules, unrolled, unrolled_slots}
use Rattle.mq_image_ops.specs.Standing.{AreStanding, Reads, RefusesDrive}
use Rattle.mq_image_ops.specs.Views.{drive_from, port_from, starts_from, view_of}
use Rattle.mq_image_ops.proofs.Views.{queues-count, start-at, start-view}
use Rattle.mq_ledger.specs.State.{port_at}
use Rattle.mq_image_laws.specs.Alike.{AreAlike, IsQueueAlike}
use Rattle.mq_recover.specs.Drives.{DriveState, view_over}
use Rattle.mq_recover.specs.Recovery.{IsReadPrefix}
use Rattle.mq_recover.specs.declared.refusal.ImageFault.{ImageFault}
use Rattle.mq_image_laws.proofs.AlikeDrives.{alike-back, image-alike, read-alike, stands-alike, whole-alike}

-- ---- a ring four times in a row

next-ring : (xs ys : List (List ℕ)) (k : ℕ) → length xs ≡ 1024 → ((j : ℕ) → k ≡ j + 1024 → get_or ys j [] ≡ get_or xs (j % 1024) []) → get_or (xs ++ ys) k [] ≡ get_or xs (k % 1024) []
next-ring xs ys k n h = elim (cases_lt k 1024) [
  | inl low ↦
      let e : k ≡ k % 1024 = omega arith in
      get_or_append_left xs ys [] k (omega arith) ∙ ap (λ (j : ℕ). get_or xs j []) e
  | inr high ↦
      let e : (k - 1024) % 1024 ≡ k % 1024 = omega arith in
      get_or-append_right xs ys 1024 k [] n (omega arith) ∙ h (k - 1024) (omega arith) ∙ ap (λ (j : ℕ). get_or xs j []) e
]

slot-unrolled : (slots : List (List ℕ)) (k : ℕ) → length slots ≡ 1024 → k < 4096 → get_or (unrolled_slots slots) k [] ≡ get_or slots (k % 1024) []
unfolding unrolled_slots
slot-unrolled slots k n l = next-ring slots (slots ++ (slots ++ slots)) k n (λ i e. next-ring slots (slots ++ slots) i n (λ j f. next-ring slots slots j n (λ m h. let s : m ≡ m % 1024 = omega arith in ap (λ (z : ℕ). get_or slots z []) s)))

-- the slot of a count
count-unrolled : (slots : List (List ℕ)) (c : ℕ) → length slots ≡ 1024 → get_or (unrolled_slots slots) (c % 4096) [] ≡ get_or slots (c % 1024) []
count-unrolled slots c n =
    let e : c % 4096 % 1024 ≡ c % 1024 = omega arith in
    slot-unrolled slots (c % 4096) n (omega arith) ∙ ap (λ (k : ℕ). get_or slots k []) e

-- ---- the drives

queue-alike : (g : Geometry) (fuse : FuseName) (q : ℕ) (p : PortImage) → IsOldPort p → IsQueueAlike (port_from g fuse None (Queue q) (moved p)) (port_from g fuse None (Queue q) (unrolled p))
queue-alike g fuse q p h = record {
  head = refl;
  doorbell = refl;
  blocks = refl;
  entries = λ c low high. entry-moved p h.words c low high ∙ sym (count-unrolled p.slots c h.slots);
}

-- the port of a queue that starts from one of these images
port-at : (g : Geometry) (fuse : FuseName) (f : PortImage → PortImage) (images old : List PortImage) (q : ℕ) → images ≡ map f old → q < length old → port_at (starts_from g fuse None 0 images) q ≡ port_from g fuse None (Queue q) (f (get_or old q no_image))
port-at g fuse f images old q e l =
    let z : 0 + q ≡ q = omega arith in
    start-at g fuse None 0 images q (omega (arith, l, ap length e, length-map old f)) ∙ ap (λ (k : ℕ). port_from g fuse None (Queue k) (image_at images q)) z
    ∙ ap (λ (i : PortImage). port_from g fuse None (Queue q) i) (ap (λ (is : List PortImage). image_at is q) e ∙ get_or-map f old q no_image no_image l)

module _ (x : DriveImage) (file : List ℕ) (r : IsRead x file) (f : IsOldFile x file) where
  abbrev y : DriveImage
  y = by_old_rules x f.old

  count : length f.old ≡ x.geometry.queues
  count = sym (length-map f.old moved) ∙ ap length (sym f.moved_is) ∙ queues-count x r.drive

  old-queues : queue_ports y ≡ map unrolled f.old
  old-queues = take_at (map unrolled f.old) (root_port x ∷ []) (queues_of x.geometry) (length-map f.old unrolled ∙ count)

  old-root : root_port x ≡ root_port y
  old-root = sym (get_or_at (map unrolled f.old) (root_port x) [] no_image (queues_of x.geometry) (length-map f.old unrolled ∙ count))

  alike : (fuse : FuseName) → AreAlike x.geometry (drive_from fuse None x) (drive_from fuse None y)
  alike fuse = record {
    queues = λ q own.
        let inside : q < length f.old = omega (arith, own, count) in
        let g = x.geometry in
        let p = get_or f.old q no_image in
        subst (λ (s : PortState). IsQueueAlike s (port_at (drive_from fuse None y).queues q)) (sym (port-at g fuse moved (queue_ports x) f.old q f.moved_is inside))
        (subst (λ (s : PortState). IsQueueAlike (port_from g fuse None (Queue q) (moved p)) s) (sym (port-at g fuse unrolled (queue_ports y) f.old q old-queues inside)) (queue-alike g fuse q p (f.each q no_image inside)));
    base = ap (λ (p : PortImage). p.base) old-root;
    blocks = ap (λ (p : PortImage). p.blocks) old-root;
  }

  abbrev d : DriveState
  d = drive_from no_fuse None x

  abbrev e : DriveState
  e = drive_from no_fuse None y

  shows-x : view_over x.geometry d ≡ view_of x
  shows-x = start-view no_fuse None x

  shows-y : view_over x.geometry e ≡ view_of y
  shows-y = start-view no_fuse None y

  -- what is said of both views
  both : (P : Shown → Type 0) → (P (view_over x.geometry d) → P (view_over x.geometry e)) → (P (view_over x.geometry e) → P (view_over x.geometry d)) → P (view_of x) ↔ P (view_of y)
  both P there back = (λ p. subst P shows-y (there (subst P (sym shows-x) p)), λ p. subst P shows-x (back (subst P (sym shows-y) p)))

  same-stand : (ds : List Descriptor) (top b : ℕ) → Reads x ds top → b < homes_of x.geometry → stands x.geometry (view_of x) ds b ≡ stands x.geometry (view_of y) ds b
  same-stand ds top b read low =
      ap (λ (v : Shown). stands x.geometry v ds b) (sym shows-x) ∙ stands-alike x.geometry d e ds b (alike no_fuse) (λ t has. (read.prefix.whole t has).0) low ∙ ap (λ (v : Shown). stands x.geometry v ds b) shows-y

-- ---- what is read

pub old-whole : (x : DriveImage) (file : List ℕ) (chains : ℕ → List Descriptor) → IsRead x file → (f : IsOldFile x file) → AreWhole x.geometry (view_of x) chains ↔ AreWhole x.geometry (view_of (by_old_rules x f.old)) chains
old-whole x file chains r f =
    let a = alike x file r f no_fuse in
    both x file r f (λ v. AreWhole x.geometry v chains) (whole-alike x.geometry _ _ chains a) (whole-alike x.geometry _ _ chains (alike-back x.geometry _ _ a))

pub old-reads : (x : DriveImage) (file : List ℕ) (ds : List Descriptor) (top : ℕ) → IsRead x file → (f : IsOldFile x file)
    → (Reads x ds top ↔ Reads (by_old_rules x f.old) ds top) × ((view_of x).base ≡ (view_of (by_old_rules x f.old)).base)
old-reads x file ds top r f =
    let a = alike x file r f no_fuse in
    (both x file r f (λ v. IsReadPrefix x.geometry v ds top) (read-alike x.geometry _ _ ds top a) (read-alike x.geometry _ _ ds top (alike-back x.geometry _ _ a)), ap (λ (p : PortImage). p.base) (old-root x file r f))

pub old-stands : (x : DriveImage) (file : List ℕ) (ds : List Descriptor) (top : ℕ) (stored : List (Option (List ℕ))) → IsRead x file → (f : IsOldFile x file) → Reads x ds top
    → AreStanding x ds stored ↔ AreStanding (by_old_rules x f.old) ds stored
old-stands x file ds top stored r f read = (
  λ s. record { count = s.count; each = λ b low. s.each b low ∙ same-stand x file r f ds top b read low },
  λ s. record { count = s.count; each = λ b low. s.each b low ∙ sym (same-stand x file r f ds top b read low) },
)

pub old-refused : (x : DriveImage) (file : List ℕ) (cause : ImageFault) → IsRead x file → (f : IsOldFile x file) → RefusesDrive x cause ↔ RefusesDrive (by_old_rules x f.old) cause
old-refused x file cause r f = (
  λ s. record { fuse = s.fuse; refuses = image-alike x.geometry _ _ cause (alike x file r f s.fuse) s.refuses },
  λ s. record { fuse = s.fuse; refuses = image-alike x.geometry _ _ cause (alike-back x.geometry _ _ (alike x file r f s.fuse)) s.refuses },
)
