-- What a volume that is sound has.
use Rattle.std.proofs.Common.{◌≡◌, ℕ, ◌<◌, ◌≤◌, List, length, true, subst, arith}
use Rattle.mq_blocks.specs.declared.geometry.Geometry.{Geometry}
use Rattle.mq_layout.specs.Places.{inodes_of}
use Rattle.mq_tree.specs.Sound.{IsBody, IsSound, blocks_for}
use Rattle.mq_tree.specs.Volume.{File, Volume, body, is_used, node}
use Rattle.mq_tree.specs.Uses.{AreUses}
use Rattle.mq_tree.proofs.SoundVolumes.{used-low as used-inside}

pub sound-uses : (g : Geometry) (v : Volume) → IsSound g v → AreUses g v
sound-uses g v sound = record { zones = sound.zones; apart = sound.apart; links = λ i. (sound.nodes i).links }

pub used-low : (g : Geometry) (v : Volume) (i : ℕ) → IsSound g v → is_used (body v i) ≡ true → i < inodes_of g
used-low g v i sound used = let l = used-inside v i used in let c = sound.count in omega arith

-- a file has a block for each part of it, and is no longer than a file may be
file-body : (g : Geometry) (v : Volume) (i : ℕ) (bytes : List ℕ) → IsSound g v → body v i ≡ File bytes → IsBody (File bytes) (length (node v i).blocks)
file-body g v i bytes sound is = subst (λ x. IsBody x (length (node v i).blocks)) is (sound.nodes i).body

pub sound-count : (g : Geometry) (v : Volume) (i : ℕ) (bytes : List ℕ) → IsSound g v → body v i ≡ File bytes → length (node v i).blocks ≡ blocks_for (length bytes)
sound-count g v i bytes sound is = (file-body g v i bytes sound is).1

pub sound-low : (g : Geometry) (v : Volume) (i : ℕ) (bytes : List ℕ) → IsSound g v → body v i ≡ File bytes → length bytes ≤ 4243456
sound-low g v i bytes sound is = (file-body g v i bytes sound is).0
