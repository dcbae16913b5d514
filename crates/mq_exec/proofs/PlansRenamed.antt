-- Moving what was planned: the old name goes, and then the new one is added.
use Rattle.std.proofs.Common.{◌≡◌, ℕ, List, sym, subst}
use Rattle.mq_blocks.specs.declared.geometry.Geometry.{Geometry}
use Rattle.mq_exec.specs.Plans.{HoldsRename, PlansRename, moved_entry}
use Rattle.mq_exec.specs.declared.rename.Renaming.{Renaming}
use Rattle.mq_exec.proofs.OpenedLinkable.{IsLinkable, link-at, link-kept, name-added}
use Rattle.mq_exec.proofs.PlansRemoveCarried.{Unlinks}
use Rattle.mq_inodes.specs.Edits.{Becomes, Carries, IsOver}
use Rattle.mq_inodes.specs.Fits.{Agrees}
use Rattle.mq_inodes.specs.Opened.{MayLink, MayUnlink}
use Rattle.mq_inodes.specs.Pages.{pages_of}
use Rattle.mq_inodes.specs.Walks.{last_of}
use Rattle.mq_inodes.specs.declared.working.Working.{Working}
use Rattle.mq_inodes.proofs.EditsBecoming.{becomes-then, carries-sound}
use Rattle.mq_tree.specs.Requests.{linked, unlinked}
use Rattle.mq_tree.specs.Volume.{Path, Volume, way}

abbrev pub without_name : Volume → Path → Renaming → Volume
without_name v from m = unlinked v m.source.number (last_of (way from))

pub old-gone : (g : Geometry) (q : ℕ) (v : Volume) (from to : Path) (m : Renaming) (name blocks : List ℕ) (old mid : Working) → Agrees g (pages_of old) v → PlansRename g q v from to m → name ≡ last_of (way from) → blocks ≡ m.source.blocks.items → Unlinks g old mid blocks name
    → Becomes g v (without_name v from m) old mid
old-gone g q v from to m name blocks old mid agrees plan n same f =
    subst (λ (s : List ℕ). Becomes g v (unlinked v m.source.number s) old mid) n (f v m.source.number (carries-sound g (pages_of old) v agrees) (subst (λ (bs : List ℕ). MayUnlink g v m.source.number bs) (sym same) plan.unlink))

pub rename-linkable : (g : Geometry) (q : ℕ) (v : Volume) (from to : Path) (m : Renaming) (old mid : Working) → PlansRename g q v from to m → HoldsRename g (pages_of old) m → IsOver old mid → Becomes g v (without_name v from m) old mid → IsLinkable g m.directory m.picks.items (pages_of mid)
rename-linkable g q v from to m old mid plan h over becomes =
    link-kept g q (without_name v from m) m.directory (moved_entry to m) m.picks.items old mid becomes.carries over plan.link (record { dirs = h.dirs; takes = h.picks; table = h.table; pointers = h.pointers })

pub rename-possible : (g h : Geometry) (q : ℕ) (v : Volume) (from to : Path) (m : Renaming) (name picks : List ℕ) (old mid : Working) → h ≡ g → name ≡ last_of (way to) → picks ≡ m.picks.items → PlansRename g q v from to m → Becomes g v (without_name v from m) old mid
    → (r : ℕ) × (u : Volume) × Carries h (pages_of mid) u × MayLink h r u m.directory (record { inode = m.inode; name = name }) picks
rename-possible g h q v from to m name picks old mid e n same plan becomes =
    let u = without_name v from m in (
      q,
      u,
      subst (λ (x : Geometry). Carries x (pages_of mid) u) (sym e) becomes.carries,
      link-at g h q u m.directory (moved_entry to m) name m.picks.items picks e n same plan.link,
    )

-- what adding the name says of each
abbrev pub Links : Geometry → (mid new : Working) → Renaming → (name picks : List ℕ) → Type 0
Links h mid new m name picks = (q : ℕ) (v : Volume) → Carries h (pages_of mid) v → MayLink h q v m.directory (record { inode = m.inode; name = name }) picks → Becomes h v (linked h q v m.directory.number (record { inode = m.inode; name = name })) mid new

pub renamed : (g h : Geometry) (q : ℕ) (v : Volume) (from to : Path) (m : Renaming) (name picks : List ℕ) (old mid new : Working) → h ≡ g → name ≡ last_of (way to) → picks ≡ m.picks.items → PlansRename g q v from to m → IsOver old mid → Becomes g v (without_name v from m) old mid
    → Links h mid new m name picks → Becomes g v (linked g q (without_name v from m) m.directory.number (moved_entry to m)) old new
renamed g h q v from to m name picks old mid new e n same plan over becomes f =
    let u = without_name v from m in
    becomes-then g v u _ old mid new over becomes (name-added g h q u m.directory (moved_entry to m) name m.picks.items picks mid new e n same becomes.carries plan.link (f q u))
