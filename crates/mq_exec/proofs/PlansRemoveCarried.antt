-- A removal that is carried out: the name goes, and then the inode.
use Rattle.std.proofs.Common.{◌≡◌, ◌≢◌, ℕ, ◌<◌, List, length, sym, ap, subst, ◌∙◌}
use Rattle.std.specs.Prelude.{Option, Some, None, is_some, nat_lt}
use Rattle.std.specs.List.{All}
use Rattle.mq_blocks.specs.declared.geometry.Geometry.{Geometry}
use Rattle.mq_layout.specs.Places.{inode_bitmap, inode_block}
use Rattle.mq_layout.specs.Slots.{Entry}
use Rattle.mq_exec.specs.Plans.{HoldsRemove, PlansRemove}
use Rattle.mq_exec.specs.declared.remove.Removal.{Removal}
use Rattle.mq_inodes.specs.Dirs.{AreDirsAt, slots_at}
use Rattle.mq_inodes.specs.Edits.{Becomes, Carries, IsOver, KeepsHeld}
use Rattle.mq_inodes.specs.Fits.{Agrees}
use Rattle.mq_inodes.specs.Opened.{IsOpened, IsReleasable, MayUnlink}
use Rattle.mq_inodes.specs.Pages.{IsHeld, Pages, pages_of}
use Rattle.mq_inodes.specs.Walks.{last_of}
use Rattle.mq_inodes.specs.declared.opened.Opened.{Opened}
use Rattle.mq_inodes.specs.declared.working.Working.{Working}
use Rattle.mq_inodes.proofs.EditsBecoming.{becomes-then, carries-sound}
use Rattle.mq_inodes.proofs.Dirs.{carried-slots}
use Rattle.mq_inodes.proofs.PagesKeeping.{keeps-releasable}
use Rattle.mq_inodes.proofs.ChangesBodies.{rebodied}
use Rattle.mq_tree.specs.Laid.{inode_of}
use Rattle.mq_tree.specs.Requests.{Verdict, cleared, freed, unlinked}
use Rattle.mq_tree.specs.Volume.{Body, Dir, Node, Path, Volume, body, find, node, slots_of, way}
use Rattle.mq_tree.proofs.FreeUses.{node-other}

-- ---- the name that goes

pub name-there : (g : Geometry) (pages : Pages) (v : Volume) (d i : ℕ) (name last blocks items : List ℕ) → Agrees g pages v → MayUnlink g v d items → find last (slots_of (body v d)) ≡ Some i → AreDirsAt pages items → name ≡ last → blocks ≡ items → find name (slots_at pages blocks) ≢ None
name-there g pages v d i name last blocks items agrees u is dirs n same none =
    let slots = carried-slots g pages v d u.slots items (carries-sound g pages v agrees) u.is u.blocks_are u.size (λ k x l. (dirs k x l).held) in
    let found : Some i ≡ find last (slots_at pages items) = sym is ∙ ap (λ (x : Body). find last (slots_of x)) u.is ∙ ap (λ (s : List (Option Entry)). find last s) slots in
    let lost : find last (slots_at pages items) ≡ None = ap (λ (s : List ℕ). find s (slots_at pages items)) (sym n) ∙ ap (λ (bs : List ℕ). find name (slots_at pages bs)) (sym same) ∙ none in
    absurd (cc)

-- ---- the inode behind it

-- another inode is known as before
opened-after : (g : Geometry) (v : Volume) (d : ℕ) (name : List ℕ) (o : Opened) → o.number ≢ d → IsOpened g v o → IsOpened g (unlinked v d name) o
opened-after g v d name o other h =
    let same : node (unlinked v d name) o.number ≡ node v o.number = node-other v d o.number (rebodied (node v d) (Dir (cleared name (slots_of (body v d))))) other in
    record {
      low = h.low;
      inode = h.inode ∙ ap (λ (n : Node). inode_of n) (sym same);
      blocks = h.blocks ∙ ap (λ (n : Node). n.blocks) (sym same);
      indirect = ap (λ (n : Node). is_some n.indirect) same ∙ h.indirect ∙ ap (λ (n : Node). nat_lt 12 (length n.blocks)) (sym same);
    }

-- all that freeing it requires
pub record MayFree (g : Geometry) (pages : Pages) (o : Opened) : Type 0 where
  pub table : IsHeld pages (inode_block g o.number)
  pub marks : IsHeld pages (inode_bitmap g)
  pub releases : All (IsReleasable g pages) o.blocks.items
  pub pointers : 12 < length o.blocks.items → IsReleasable g pages o.inode.indirect

may-free-in : (g : Geometry) (m : Removal) (old new : Working) → HoldsRemove g (pages_of old) m → KeepsHeld (pages_of old) (pages_of new) → IsOver old new → MayFree g (pages_of new) m.gone
may-free-in g m old new h k over = record {
  table = k.held (inode_block g m.gone.number) h.table;
  marks = k.held (inode_bitmap g) h.marks;
  releases = λ j d l. keeps-releasable g old new _ k over (h.release.blocks j d l);
  pointers = λ many. keeps-releasable g old new _ k over (h.release.pointers many);
}

pub may-free : (g h : Geometry) (m : Removal) (old new : Working) → h ≡ g → HoldsRemove g (pages_of old) m → KeepsHeld (pages_of old) (pages_of new) → IsOver old new → MayFree h (pages_of new) m.gone
may-free g h m old new e holds k over = subst (λ (x : Geometry). MayFree x (pages_of new) m.gone) (sym e) (may-free-in g m old new holds k over)

-- ---- each volume

-- what taking the name out says of each
abbrev pub Unlinks : Geometry → (old mid : Working) → (blocks name : List ℕ) → Type 0
Unlinks g old mid blocks name = (v : Volume) (d : ℕ) → Carries g (pages_of old) v → MayUnlink g v d blocks → Becomes g v (unlinked v d name) old mid

name-gone : (g : Geometry) (v : Volume) (verdict : Verdict) (path : Path) (m : Removal) (name blocks : List ℕ) (old mid : Working) → Agrees g (pages_of old) v → PlansRemove g v verdict path m → name ≡ last_of (way path) → blocks ≡ m.directory.blocks.items
    → Unlinks g old mid blocks name → Becomes g v (unlinked v m.directory.number (last_of (way path))) old mid
name-gone g v verdict path m name blocks old mid agrees plan n same f =
    subst (λ (s : List ℕ). Becomes g v (unlinked v m.directory.number s) old mid) n (f v m.directory.number (carries-sound g (pages_of old) v agrees) (subst (λ (bs : List ℕ). MayUnlink g v m.directory.number bs) (sym same) plan.unlink))

pub gone-carried : (g h : Geometry) (v : Volume) (verdict : Verdict) (path : Path) (m : Removal) (name blocks : List ℕ) (old mid : Working) → h ≡ g → Agrees g (pages_of old) v → PlansRemove g v verdict path m → name ≡ last_of (way path) → blocks ≡ m.directory.blocks.items
    → Unlinks g old mid blocks name → (u : Volume) × Carries h (pages_of mid) u × IsOpened h u m.gone
gone-carried g h v verdict path m name blocks old mid e agrees plan n same f =
    let u = unlinked v m.directory.number (last_of (way path)) in
    let gone = name-gone g v verdict path m name blocks old mid agrees plan n same f in (
      u,
      subst (λ (x : Geometry). Carries x (pages_of mid) u) (sym e) gone.carries,
      subst (λ (x : Geometry). IsOpened x u m.gone) (sym e) (opened-after g v m.directory.number (last_of (way path)) m.gone plan.other plan.gone),
    )

-- and freeing the inode
abbrev pub Frees : Geometry → (mid new : Working) → Opened → Type 0
Frees h mid new o = (v : Volume) → Carries h (pages_of mid) v → IsOpened h v o → Becomes h v (freed v o.number) mid new

inode-gone : (g h : Geometry) (u : Volume) (o : Opened) (mid new : Working) → h ≡ g → Carries g (pages_of mid) u → IsOpened g u o → Frees h mid new o → Becomes g u (freed u o.number) mid new
inode-gone g h u o mid new e c is f = subst (λ (x : Geometry). Becomes x u (freed u o.number) mid new) e (f u (subst (λ (x : Geometry). Carries x (pages_of mid) u) (sym e) c) (subst (λ (x : Geometry). IsOpened x u o) (sym e) is))

pub removed : (g h : Geometry) (v : Volume) (verdict : Verdict) (path : Path) (m : Removal) (name blocks : List ℕ) (old mid new : Working) → h ≡ g → Agrees g (pages_of old) v → PlansRemove g v verdict path m → name ≡ last_of (way path) → blocks ≡ m.directory.blocks.items
    → IsOver old mid → Unlinks g old mid blocks name → Frees h mid new m.gone → Becomes g v (freed (unlinked v m.directory.number (last_of (way path))) m.gone.number) old new
removed g h v verdict path m name blocks old mid new e agrees plan n same over unlinks frees =
    let u = unlinked v m.directory.number (last_of (way path)) in
    let gone = name-gone g v verdict path m name blocks old mid agrees plan n same unlinks in
    becomes-then g v u (freed u m.gone.number) old mid new over gone (inode-gone g h u m.gone mid new e gone.carries (opened-after g v m.directory.number (last_of (way path)) m.gone plan.other plan.gone) frees)
