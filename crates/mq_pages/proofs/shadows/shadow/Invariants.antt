use Rattle.std.proofs.Common.{◌≡◌, map, take}
use Rattle.mq_pages.specs.Shadows.{shadow_of}
use Rattle.mq_pages.proofs.shadows.shadow.Given as goal

abbrev pub invariant-loop-write : goal.invariant-loop-write
invariant-loop-write l = l.pages.items ≡ map shadow_of (take l.write-index l.writes)
