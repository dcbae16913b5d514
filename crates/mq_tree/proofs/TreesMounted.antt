-- The tree that a mount gives, and why there is none.
use Rattle.std.proofs.Common.{◌≡◌, ◌≢◌, refl, sym, subst}
use Rattle.mq_blocks.specs.declared.geometry.Geometry.{Geometry}
use Rattle.mq_tree.specs.Clean.{IsClean}
use Rattle.mq_tree.specs.Counts.{IsCountable}
use Rattle.mq_tree.specs.Decoded.{Stored, volume_in}
use Rattle.mq_tree.specs.Empty.{ArePages}
use Rattle.mq_tree.specs.Laid.{IsLaid, IsTreeOf, map_of}
use Rattle.mq_tree.specs.ListText.{list_text}
use Rattle.mq_tree.specs.Listings.{IsListing}
use Rattle.mq_tree.specs.Trees.{IsAlike}
use Rattle.mq_tree.specs.Volume.{Things, Volume, layout, tree}
use Rattle.mq_tree.specs.declared.corrupt.MountRefusal.{MountRefusal}
use Rattle.mq_tree.specs.declared.corrupt.MountRefusal.TheVariants.{OutOfMemory}
use Rattle.mq_tree.proofs.VolumeAlike.{alike-text}
use Rattle.mq_tree.proofs.CleanLaid.{clean-laid}
use Rattle.mq_tree.proofs.CountsSums.{alike-countable, sound-countable}
use Rattle.mq_tree.proofs.TreesKeeping.{same-tree}
use Rattle.mq_tree.proofs.LaidClean.{volume-clean, volume-decoded}
use Rattle.mq_tree.specs.Phases.{RefusesByPhase, refusal_of}
use Rattle.mq_tree.specs.declared.corrupt.PhaseRefusal.{PhaseRefusal}
use Rattle.mq_tree.specs.declared.corrupt.PhaseRefusal.TheVariants.{Found, OutOfMemory as NoMemory}
use Rattle.mq_tree.proofs.CorruptRefuted.{corrupt-not_clean}
use Rattle.mq_tree.proofs.FirstFindings.{finds-corrupt}
use Rattle.mq_tree.proofs.Listings.{sound-listing}

pub mounted-tree : (g : Geometry) (s : Stored) (t : Volume) → ArePages s → IsClean g s → IsAlike t (volume_in g s) → IsTreeOf g (map_of g s) (tree t)
mounted-tree g s t pages clean alike = record {
  places = layout (volume_in g s);
  laid = record {
    volume = volume_in g s;
    laid = clean-laid g s pages clean;
    things = same-tree t (volume_in g s) alike;
    places = λ path. refl;
  };
}

pub mounted-alike : (g : Geometry) (s : Stored) (t v : Volume) → IsAlike t (volume_in g s) → IsLaid g (map_of g s) v → IsAlike t v
mounted-alike g s t v alike laid = subst (IsAlike t) (volume-decoded g s v laid) alike

pub mounted-listing : (g : Geometry) (s : Stored) (t : Volume) → ArePages s → IsClean g s → IsAlike t (volume_in g s) → IsListing (tree t) (list_text t)
mounted-listing g s t pages clean alike =
    let same : tree t ≡ tree (volume_in g s) = λ i path. same-tree t (volume_in g s) alike path i in
    subst (IsListing (tree t)) (sym (alike-text t (volume_in g s) alike)) (subst (λ (u : Things). IsListing u (list_text (volume_in g s))) (sym same) (sound-listing g (volume_in g s) (clean-laid g s pages clean).sound))

pub mounted-countable : (g : Geometry) (s : Stored) (t : Volume) → ArePages s → IsClean g s → IsAlike t (volume_in g s) → IsCountable t
mounted-countable g s t pages clean alike = alike-countable t (volume_in g s) alike (sound-countable g (volume_in g s) (clean-laid g s pages clean).sound)

pub refused-none_by_phase : (g : Geometry) (s : Stored) (r : PhaseRefusal) → ArePages s → RefusesByPhase g s r → r ≢ NoMemory → (t : Things) → IsTreeOf g (map_of g s) t → ⊥
refused-none_by_phase g s NoMemory pages h other t of = other refl
refused-none_by_phase g s (Found phase cause b) pages h other t of = corrupt-not_clean g s cause b (finds-corrupt g s phase cause b h.first.found) (volume-clean g s of.laid.volume pages of.laid.laid)

-- the same without the phase
pub refused-none_without : (r : PhaseRefusal) (e : MountRefusal) (R : Type 0) → (r ≢ NoMemory → R) → e ≡ refusal_of r → e ≢ OutOfMemory → R
refused-none_without NoMemory e R h is other = absurd (other is)
refused-none_without (Found phase cause b) e R h is other = h (λ f. absurd (cc))
