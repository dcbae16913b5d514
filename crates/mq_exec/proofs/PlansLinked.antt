-- Adding what was planned: the file has a link more, and then its new name.
use Rattle.std.proofs.Common.{◌≡◌, ◌+◌, ℕ, List, sym, subst}
use Rattle.mq_blocks.specs.declared.geometry.Geometry.{Geometry}
use Rattle.mq_exec.specs.Plans.{HoldsLink, PlansLink, linked_entry, more_links}
use Rattle.mq_exec.specs.declared.link.Linking.{Linking}
use Rattle.mq_exec.proofs.OpenedLinkable.{IsLinkable, link-at, link-kept, name-added}
use Rattle.mq_inodes.specs.Edits.{Becomes, Carries, IsOver}
use Rattle.mq_inodes.specs.Fits.{Agrees}
use Rattle.mq_inodes.specs.Opened.{MayCount, MayLink}
use Rattle.mq_inodes.specs.Pages.{pages_of}
use Rattle.mq_inodes.specs.Walks.{last_of}
use Rattle.mq_inodes.specs.declared.working.Working.{Working}
use Rattle.mq_inodes.proofs.EditsBecoming.{becomes-then, carries-sound}
use Rattle.mq_tree.specs.Requests.{linked, with_links}
use Rattle.mq_tree.specs.Volume.{Path, Volume, way}

-- what writing the links says of each volume
abbrev pub Counts : Geometry → (old mid : Working) → Linking → Type 0
Counts g old mid m = (v : Volume) → Carries g (pages_of old) v → MayCount g v m.file.number (m.file.inode.links + 1) m.file.inode → Becomes g v (with_links v m.file.number (m.file.inode.links + 1)) old mid

pub link-counted : (g : Geometry) (q : ℕ) (v : Volume) (from to : Path) (m : Linking) (old mid : Working) → Agrees g (pages_of old) v → PlansLink g q v from to m → Counts g old mid m → Becomes g v (more_links v m) old mid
link-counted g q v from to m old mid agrees plan f = f v (carries-sound g (pages_of old) v agrees) plan.count

pub link-linkable : (g : Geometry) (q : ℕ) (v : Volume) (from to : Path) (m : Linking) (old mid : Working) → PlansLink g q v from to m → HoldsLink g (pages_of old) m → IsOver old mid → Becomes g v (more_links v m) old mid → IsLinkable g m.directory m.picks.items (pages_of mid)
link-linkable g q v from to m old mid plan h over becomes =
    link-kept g q (more_links v m) m.directory (linked_entry to m) m.picks.items old mid becomes.carries over plan.link (record { dirs = h.dirs; takes = h.picks; table = h.table; pointers = h.pointers })

pub link-possible : (g h : Geometry) (q : ℕ) (v : Volume) (from to : Path) (m : Linking) (name picks : List ℕ) (old mid : Working) → h ≡ g → name ≡ last_of (way to) → picks ≡ m.picks.items → PlansLink g q v from to m → Becomes g v (more_links v m) old mid
    → (r : ℕ) × (u : Volume) × Carries h (pages_of mid) u × MayLink h r u m.directory (record { inode = m.file.number; name = name }) picks
link-possible g h q v from to m name picks old mid e n same plan becomes =
    let u = more_links v m in (
      q,
      u,
      subst (λ (x : Geometry). Carries x (pages_of mid) u) (sym e) becomes.carries,
      link-at g h q u m.directory (linked_entry to m) name m.picks.items picks e n same plan.link,
    )

-- what adding the name says of each
abbrev pub Adds : Geometry → (mid new : Working) → Linking → (name picks : List ℕ) → Type 0
Adds h mid new m name picks = (q : ℕ) (v : Volume) → Carries h (pages_of mid) v → MayLink h q v m.directory (record { inode = m.file.number; name = name }) picks → Becomes h v (linked h q v m.directory.number (record { inode = m.file.number; name = name })) mid new

pub link-added : (g h : Geometry) (q : ℕ) (v : Volume) (from to : Path) (m : Linking) (name picks : List ℕ) (old mid new : Working) → h ≡ g → name ≡ last_of (way to) → picks ≡ m.picks.items → PlansLink g q v from to m → IsOver old mid → Becomes g v (more_links v m) old mid
    → Adds h mid new m name picks → Becomes g v (linked g q (more_links v m) m.directory.number (linked_entry to m)) old new
link-added g h q v from to m name picks old mid new e n same plan over becomes f =
    let u = more_links v m in
    becomes-then g v u _ old mid new over becomes (name-added g h q u m.directory (linked_entry to m) name m.picks.items picks mid new e n same becomes.carries plan.link (f q u))
