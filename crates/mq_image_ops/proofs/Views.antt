-- The drive that starts from an image: its ports in a row, and what they show.
use Rattle.std.proofs.Common.{◌≡◌, ◌<◌, ℕ, zero, suc, ◌+◌, List, [], ◌∷◌, length, map, get_or, Option, refl, sym, ◌∙◌, ap, subst, arith}
use Rattle.std.proofs.lemmas.List.{length-take-le, get_or-take}
use Rattle.mq_blocks.specs.Drive.{FuseName, PortImage, image_of}
use Rattle.mq_blocks.specs.Journal.{image_at, shown, no_image}
use Rattle.mq_blocks.specs.declared.geometry.Geometry.{Geometry}
use Rattle.mq_drive.specs.Start.{IsImageOf}
use Rattle.mq_drive.specs.declared.role.Role.TheVariants.{Queue, Root}
use Rattle.mq_drive.proofs.Start.{port_of-start, quiet-start}
use Rattle.mq_image.specs.Drives.{IsDrive}
use Rattle.mq_image.specs.File.{DriveImage, queue_ports, root_port}
use Rattle.mq_image_ops.specs.Views.{command_of, drive_from, port_from, starts_from, view_of}
use Rattle.mq_image_ops.specs.declared.ports.Failing.{Failing}
use Rattle.mq_ledger.specs.State.{port_at}
use Rattle.mq_nvme.specs.Says.{journal_reading}
use Rattle.mq_recover.specs.Drives.{DriveState, IsQuiescentDrive, IsQuiescentPort, view_over}

pub start-length : (g : Geometry) (fuse : FuseName) (fail : Option Failing) (n : ℕ) (is : List PortImage) → length (starts_from g fuse fail n is) ≡ length is
start-length g fuse fail n [] = refl
start-length g fuse fail n (i ∷ is) = ap suc (start-length g fuse fail (n + 1) is)

pub start-at : (g : Geometry) (fuse : FuseName) (fail : Option Failing) (n : ℕ) (is : List PortImage) (q : ℕ) → q < length is → port_at (starts_from g fuse fail n is) q ≡ port_from g fuse fail (Queue (n + q)) (image_at is q)
start-at g fuse fail n [] q low = absurd (omega arith)
start-at g fuse fail n (i ∷ is) zero low = ap (λ (k : ℕ). port_from g fuse fail (Queue k) i) (let e : n ≡ n + 0 = omega arith in e)
start-at g fuse fail n (i ∷ is) (suc q) low =
    start-at g fuse fail (n + 1) is q (omega arith) ∙ ap (λ (k : ℕ). port_from g fuse fail (Queue k) (image_at is q)) (let e : n + 1 + q ≡ n + suc q = omega arith in e)

pub queues-count : (x : DriveImage) → IsDrive x → length (queue_ports x) ≡ x.geometry.queues
queues-count x drive = let few = drive.ports in length-take-le x.geometry.queues x.ports (omega arith)

-- each queue's
pub start-queue : (fuse : FuseName) (fail : Option Failing) (x : DriveImage) (q : ℕ) → IsDrive x → q < x.geometry.queues → port_at (drive_from fuse fail x).queues q ≡ port_from x.geometry fuse fail (Queue q) (image_at (queue_ports x) q)
start-queue fuse fail x q drive low =
    let many = queues-count x drive in
    start-at x.geometry fuse fail 0 (queue_ports x) q (omega arith) ∙ ap (λ (k : ℕ). port_from x.geometry fuse fail (Queue k) (image_at (queue_ports x) q)) (let e : 0 + q ≡ q = omega arith in e)

start-images : (g : Geometry) (fuse : FuseName) (fail : Option Failing) (n : ℕ) (is : List PortImage) → map image_of (starts_from g fuse fail n is) ≡ is
start-images g fuse fail n [] = refl
start-images g fuse fail n (i ∷ is) = ap (λ (l : List PortImage). i ∷ l) (start-images g fuse fail (n + 1) is)

-- the drive shows what the image shows
pub start-view : (fuse : FuseName) (fail : Option Failing) (x : DriveImage) → view_over x.geometry (drive_from fuse fail x) ≡ view_of x
start-view fuse fail x = ap (λ (l : List PortImage). shown journal_reading x.geometry l (root_port x)) (start-images x.geometry fuse fail 0 (queue_ports x))

pub queue-in : (x : DriveImage) (q : ℕ) → q < x.geometry.queues → image_at (queue_ports x) q ≡ get_or x.ports q no_image
queue-in x q low = get_or-take x.geometry.queues x.ports q no_image low

-- and each of its ports has one image
pub start-still : (fuse : FuseName) (fail : Option Failing) (x : DriveImage) → IsDrive x → IsQuiescentDrive x.geometry (drive_from fuse fail x)
start-still fuse fail x drive =
    let g = x.geometry in
    let many = queues-count x drive in
    record {
      count = start-length g fuse fail 0 (queue_ports x) ∙ many;
      each = λ q low.
          let image : IsImageOf g (Queue q) (image_at (queue_ports x) q) = subst (IsImageOf g (Queue q)) (sym (queue-in x q low)) (drive.queues q low) in
          subst (IsQuiescentPort g (Queue q)) (sym (start-queue fuse fail x q drive low)) (record {
            port = port_of-start g (Queue q) (image_at (queue_ports x) q) fuse (command_of fail q) image;
            quiet = quiet-start g (Queue q) (image_at (queue_ports x) q) fuse (command_of fail q);
          });
      root = record { port = port_of-start g Root (root_port x) fuse (command_of fail g.queues) drive.root; quiet = quiet-start g Root (root_port x) fuse (command_of fail g.queues) };
      ringless = drive.root.words;
    }

-- the same of a drive whose states are these
pub started-still : (fuse : FuseName) (fail : Option Failing) (x : DriveImage) (d : DriveState) → IsDrive x → d ≡ drive_from fuse fail x → IsQuiescentDrive x.geometry d
started-still fuse fail x d drive is = subst (IsQuiescentDrive x.geometry) (sym is) (start-still fuse fail x drive)

pub started-view : (fuse : FuseName) (fail : Option Failing) (x : DriveImage) (d : DriveState) → d ≡ drive_from fuse fail x → view_over x.geometry d ≡ view_of x
started-view fuse fail x d is = ap (view_over x.geometry) is ∙ start-view fuse fail x

-- the same under another name of its geometry
pub still-under : (fuse : FuseName) (fail : Option Failing) (g : Geometry) (x : DriveImage) (d : DriveState) → IsDrive x → g ≡ x.geometry → d ≡ drive_from fuse fail x → IsQuiescentDrive g d
still-under fuse fail g x d drive same is = subst (λ (h : Geometry). IsQuiescentDrive h d) (sym same) (started-still fuse fail x d drive is)
