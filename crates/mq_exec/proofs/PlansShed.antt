-- A file that loses one of its names, carried out: the name goes, and then a link.
use Rattle.std.proofs.Common.{◌≡◌, ℕ, ◌-◌, ◌<◌, List, sym, ap, subst, ◌∙◌}
use Rattle.mq_blocks.specs.declared.geometry.Geometry.{Geometry}
use Rattle.mq_exec.specs.Plans.{IsCarried, IsFound, PlansShed}
use Rattle.mq_exec.specs.declared.file.Found.{Found}
use Rattle.mq_exec.proofs.PlansRemoveCarried.{Unlinks}
use Rattle.mq_exec.proofs.PlansRemoving.{carried-makes, file-other, may-shed, may-unlink, shed-makes, unlinked-node}
use Rattle.mq_exec.proofs.PlansTargets.{found-under, under-low}
use Rattle.mq_inodes.specs.Edits.{Becomes, Carries, IsOver}
use Rattle.mq_inodes.specs.Fits.{Agrees}
use Rattle.mq_inodes.specs.Opened.{IsOpened, MayCount}
use Rattle.mq_inodes.specs.declared.opened.Opened.{Opened}
use Rattle.mq_inodes.specs.Pages.{pages_of}
use Rattle.mq_inodes.specs.Walks.{last_of}
use Rattle.mq_inodes.specs.declared.working.Working.{Working}
use Rattle.mq_inodes.proofs.EditsBecoming.{becomes-then, carries-sound}
use Rattle.mq_inodes.proofs.Sound.{used-low}
use Rattle.mq_tree.specs.Laid.{inode_of}
use Rattle.mq_tree.specs.Requests.{target, unlink, unlinked, with_links}
use Rattle.mq_tree.specs.Sound.{IsSound}
use Rattle.mq_tree.specs.Volume.{Body, Node, Path, Volume, is_used, node, way}

plans-shed : (g : Geometry) (v : Volume) (path : Path) (blocks : List ℕ) (f : Found) → IsSound g v → IsFound v path f → blocks ≡ (node v f.directory).blocks → 1 < f.inode.links → PlansShed g v path blocks f
plans-shed g v path blocks f sound h same more =
    let u = found-under g v path f sound h in
    record {
      target_is = h.target_is;
      unlink = may-unlink g v f.directory blocks sound u.dir (used-low g v f.directory sound (ap (λ (x : Body). is_used x) u.dir.1)) same;
      found = u.found;
      other = file-other v f.directory f.number h.file.bytes u.dir h.file.is;
      count = may-shed g v path f sound h (under-low g v (way path) f.directory f.number sound u) more;
    }

pub plans-opened : (g : Geometry) (v : Volume) (path : Path) (blocks : List ℕ) (f : Found) (o : Opened) → IsSound g v → IsFound v path f → blocks ≡ o.blocks.items → o.number ≡ f.directory → IsOpened g v o → 1 < f.inode.links → PlansShed g v path blocks f
plans-opened g v path blocks f o sound h same number opened more = plans-shed g v path blocks f sound h (same ∙ opened.blocks ∙ ap (λ (d : ℕ). (node v d).blocks) number) more

pub shed-does : (g : Geometry) (v : Volume) (path : Path) (f : Found) → IsSound g v → IsFound v path f → 1 < f.inode.links → IsCarried g v (unlink v (target v (way path))) (with_links (unlinked v f.directory (last_of (way path))) f.number (f.inode.links - 1))
shed-does g v path f sound h more =
    let u = found-under g v path f sound h in
    carried-makes g v _ _ (shed-makes v path f h (file-other v f.directory f.number h.file.bytes u.dir h.file.is) more)

-- what is known of the file stays
counted-after : (g : Geometry) (v : Volume) (path : Path) (blocks : List ℕ) (f : Found) → PlansShed g v path blocks f → MayCount g (unlinked v f.directory (last_of (way path))) f.number (f.inode.links - 1) f.inode
counted-after g v path blocks f plan =
    let same = unlinked-node v f.directory f.number (last_of (way path)) plan.other in
    let m = plan.count in
    record {
      low = m.low;
      says = m.says ∙ ap (λ (n : Node). inode_of n) (sym same);
      bytes = m.bytes;
      is = ap (λ (n : Node). n.body) same ∙ m.is;
      size = m.size;
      few = m.few;
    }

-- what writing its links says of each volume
abbrev pub Counts : Geometry → (mid new : Working) → Found → Type 0
Counts h mid new f = (v : Volume) → Carries h (pages_of mid) v → MayCount h v f.number (f.inode.links - 1) f.inode → Becomes h v (with_links v f.number (f.inode.links - 1)) mid new

shed-name : (g : Geometry) (v : Volume) (path : Path) (name blocks : List ℕ) (f : Found) (old mid : Working) → Agrees g (pages_of old) v → PlansShed g v path blocks f → name ≡ last_of (way path) → Unlinks g old mid blocks name → Becomes g v (unlinked v f.directory (last_of (way path))) old mid
shed-name g v path name blocks f old mid agrees plan n unlinks = subst (λ (s : List ℕ). Becomes g v (unlinked v f.directory s) old mid) n (unlinks v f.directory (carries-sound g (pages_of old) v agrees) plan.unlink)

pub shed-carried : (g h : Geometry) (v : Volume) (path : Path) (name blocks : List ℕ) (f : Found) (old mid : Working) → h ≡ g → Agrees g (pages_of old) v → PlansShed g v path blocks f → name ≡ last_of (way path) → Unlinks g old mid blocks name
    → (u : Volume) × Carries h (pages_of mid) u × MayCount h u f.number (f.inode.links - 1) f.inode
shed-carried g h v path name blocks f old mid e agrees plan n unlinks =
    let u = unlinked v f.directory (last_of (way path)) in
    let gone = shed-name g v path name blocks f old mid agrees plan n unlinks in
    (u, subst (λ (x : Geometry). Carries x (pages_of mid) u) (sym e) gone.carries, subst (λ (x : Geometry). MayCount x u f.number (f.inode.links - 1) f.inode) (sym e) (counted-after g v path blocks f plan))

pub shed-becomes : (g h : Geometry) (v : Volume) (path : Path) (name blocks : List ℕ) (f : Found) (old mid new : Working) → h ≡ g → Agrees g (pages_of old) v → PlansShed g v path blocks f → name ≡ last_of (way path) → IsOver old mid → Unlinks g old mid blocks name → Counts h mid new f
    → Becomes g v (with_links (unlinked v f.directory (last_of (way path))) f.number (f.inode.links - 1)) old new
shed-becomes g h v path name blocks f old mid new e agrees plan n over unlinks counts =
    let u = unlinked v f.directory (last_of (way path)) in
    let w = with_links u f.number (f.inode.links - 1) in
    let gone = shed-name g v path name blocks f old mid agrees plan n unlinks in
    let m = counted-after g v path blocks f plan in
    becomes-then g v u w old mid new over gone (subst (λ (x : Geometry). Becomes x u w mid new) e (counts u (subst (λ (x : Geometry). Carries x (pages_of mid) u) (sym e) gone.carries) (subst (λ (x : Geometry). MayCount x u f.number (f.inode.links - 1) f.inode) (sym e) m)))
