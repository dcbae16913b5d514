-- A volume lies on one map, and a map has one volume.
use Rattle.std.proofs.Common.{◌≡◌, ◌∙◌, ℕ, List, refl, ap}
use Rattle.std.specs.Prelude.{Option, Some, None}
use Rattle.mq_blocks.specs.Descriptor.{Descriptor}
use Rattle.mq_blocks.specs.Journal.{Shown, stands}
use Rattle.mq_blocks.specs.Machine.{Map}
use Rattle.mq_blocks.specs.declared.geometry.Geometry.{Geometry}
use Rattle.mq_inodes.proofs.LaidOnce.{page-once, shown-vacant}
use Rattle.mq_inodes.proofs.Sound.{sound-uses}
use Rattle.mq_run_laws.specs.Cuts.{ShowsVolume}
use Rattle.mq_tree.proofs.LaidUnique.{volume-once}
use Rattle.mq_tree.specs.Laid.{IsLaid}
use Rattle.mq_tree.specs.Volume.{Volume}

-- at a block, two maps of one volume are the same
same-at : (g : Geometry) (m n : Map) (v : Volume) → IsLaid g m v → IsLaid g n v → (b : ℕ) (o p : Option (List ℕ)) → m b ≡ o → n b ≡ p → o ≡ p
same-at g m n v h k b None None e f = refl
same-at g m n v h k b None (Some q) e f = absurd (shown-vacant g v b q (k.shown b q f) (h.vacant b e))
same-at g m n v h k b (Some p) None e f = absurd (shown-vacant g v b p (h.shown b p e) (k.vacant b f))
same-at g m n v h k b (Some p) (Some q) e f = ap Some (page-once g v b p q (sound-uses g v h.sound) (h.shown b p e) (k.shown b q f))

pub same-map : (g : Geometry) (m n : Map) (v : Volume) → IsLaid g m v → IsLaid g n v → (b : ℕ) → m b ≡ n b
same-map g m n v h k b = same-at g m n v h k b (m b) (n b) refl refl

-- what lies on a map lies on one that is the same
pub laid-on : (g : Geometry) (m n : Map) (v : Volume) → IsLaid g m v → ((b : ℕ) → m b ≡ n b) → IsLaid g n v
laid-on g m n v h e = record {
  sound = h.sound;
  shown = λ b page f. h.shown b page (e b ∙ f);
  vacant = λ b f. h.vacant b (e b ∙ f);
}

pub same-volume : (g : Geometry) (m n : Map) (v w : Volume) → IsLaid g m v → IsLaid g n w → ((b : ℕ) → m b ≡ n b) → v ≡ w
same-volume g m n v w h k e = volume-once g n v w (laid-on g m n v h e) k

-- where the volume stands, each map of it does
pub each-stands : (g : Geometry) (i : Shown) (ds : List Descriptor) (v : Volume) (m : Map) (b : ℕ) (page : List ℕ) → ShowsVolume g i ds v → IsLaid g m v → m b ≡ Some page → stands g i ds b ≡ page
each-stands g i ds v m b page s h e = s.each b page (same-map g s.map m v s.laid h b ∙ e)
