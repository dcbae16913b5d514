-- Names that are added to directories, after other steps of the same request.
use Rattle.std.proofs.Common.{get_or, ◌≡◌, ◌≢◌, ℕ, suc, ◌-◌, ◌<◌, List, [], ◌∷◌, ◌++◌, length, Bool, cond, refl, sym, ap, subst, ◌∙◌, arith, take, drop, drop-cons}
use Rattle.std.specs.Prelude.{Option, Some, None, nat_lt, is_some, slice_get}
use Rattle.std.specs.List.{All}
use Rattle.std.proofs.lemmas.List.{drop_all, take-append-drop}
use Rattle.std.proofs.lemmas.Option.{none-some, same_Some, slice_get-get_or}
use Rattle.mq_blocks.specs.Geometry.{meta_of, queues_of}
use Rattle.mq_blocks.specs.declared.geometry.Geometry.{Geometry}
use Rattle.mq_inodes.specs.Dirs.{AreDirsAt}
use Rattle.mq_inodes.specs.Edits.{Becomes, Carries, IsOver}
use Rattle.mq_inodes.specs.Fits.{Fits}
use Rattle.mq_inodes.specs.Opened.{HoldsPointers, IsOpened, IsTakeable, MayLink}
use Rattle.mq_inodes.specs.Pages.{IsHeld, Pages, pages_of}
use Rattle.mq_inodes.specs.Picks.{ArePicked, IsMarkable, free_of}
use Rattle.mq_inodes.specs.Walks.{last_of}
use Rattle.mq_inodes.specs.declared.opened.Opened.{Opened}
use Rattle.mq_inodes.specs.declared.working.Working.{Working}
use Rattle.mq_inodes.proofs.Dirs.{carried-form}
use Rattle.mq_inodes.proofs.PagesHeld.{meta-held, used-held}
use Rattle.mq_inodes.proofs.LaidOnce.{shown-vacant}
use Rattle.mq_inodes.proofs.ChangesTaken.{IsFree}
use Rattle.mq_inodes.proofs.OpenedLookups.{opened-pointers}
use Rattle.mq_inodes.proofs.Picks.{picks-all_free}
use Rattle.mq_inodes.proofs.Walks.{way-last}
use Rattle.mq_layout.specs.Places.{inode_block}
use Rattle.mq_layout.specs.Slots.{Entry}
use Rattle.mq_tree.specs.Free.{order}
use Rattle.mq_tree.specs.Laid.{inode_of}
use Rattle.mq_tree.specs.Requests.{link_needs, linked}
use Rattle.mq_tree.specs.Volume.{Node, Part, Path, Pointers, Volume, is_taken, node, way}
use Rattle.mq_tree.proofs.LaidMaps.{zone-low}

-- ---- volumes in which the directory is the same, and the same blocks are taken

free-same : (v w : Volume) (xs : List ℕ) → ((x : ℕ) → is_taken w x ≡ is_taken v x) → free_of w xs ≡ free_of v xs
free-same v w [] same = refl
free-same v w (x ∷ xs) same = ap (λ (ys : List ℕ). cond (is_taken w x) ys (x ∷ ys)) (free-same v w xs same) ∙ ap (λ (t : Bool). cond t (free_of v xs) (x ∷ free_of v xs)) (same x)

pub picked-same : (g : Geometry) (q : ℕ) (v w : Volume) (count : ℕ) (picks : List ℕ) → ((x : ℕ) → is_taken w x ≡ is_taken v x) → ArePicked g q v count picks → ArePicked g q w count picks
picked-same g q v w count picks same p = record { enough = p.enough; first = p.first ∙ ap (λ (xs : List ℕ). take count xs) (sym (free-same v w (order g q) same)) }

opened-same : (g : Geometry) (v w : Volume) (o : Opened) → node w o.number ≡ node v o.number → IsOpened g v o → IsOpened g w o
opened-same g v w o e h = record {
  low = h.low;
  inode = h.inode ∙ ap inode_of (sym e);
  blocks = h.blocks ∙ ap (λ (n : Node). n.blocks) (sym e);
  indirect = ap (λ (n : Node). is_some n.indirect) e ∙ h.indirect ∙ ap (λ (n : Node). nat_lt 12 (length n.blocks)) (sym e);
}

pub link-same : (g : Geometry) (q : ℕ) (v w : Volume) (o : Opened) (entry : Entry) (picks : List ℕ) → node w o.number ≡ node v o.number → ((x : ℕ) → is_taken w x ≡ is_taken v x) → MayLink g q v o entry picks → MayLink g q w o entry picks
link-same g q v w o entry picks e same h = record {
  opened = opened-same g v w o e h.opened;
  queue = h.queue;
  slots = h.slots;
  is = ap (λ (n : Node). n.body) e ∙ h.is;
  size = h.size;
  form = h.form;
  few = h.few;
  picked = subst (λ (n : Node). ArePicked g q w (link_needs n) picks) (sym e) (picked-same g q v w (link_needs (node v o.number)) picks same h.picked);
}

-- ---- pages

held-known : (old new : Working) (b : ℕ) → IsOver old new → IsHeld (pages_of old) b → pages_of new b ≢ None
held-known old new b over held none = none-some _ (sym (over.known b none) ∙ held)

-- a free block that is known is known to be free
free-known : (g : Geometry) (pages : Pages) (v : Volume) (b : ℕ) → Fits g pages v → IsFree g v b → pages b ≢ None → pages b ≡ Some None
free-known g pages v b fits f known = go (pages b) refl
  where
    go : (o : Option (Option (List ℕ))) → pages b ≡ o → pages b ≡ Some None
    go None e = absurd (known e)
    go (Some None) e = e
    go (Some (Some page)) e = absurd (shown-vacant g v b page (fits.held b page e) (f.high, f.free))

pub takeables : (g : Geometry) (q : ℕ) (pages : Pages) (v : Volume) (count : ℕ) (picks : List ℕ) → Fits g pages v → q < queues_of g → ArePicked g q v count picks → All (IsMarkable g pages) picks → All (λ b. pages b ≢ None) picks → All (IsTakeable g pages) picks
takeables g q pages v count picks fits low p marks known k d l = record { marks = marks k d l; free = free-known g pages v _ fits (picks-all_free g q v count picks low p k d l) (known k d l) }

meta-kept : (g : Geometry) (v : Volume) (b : ℕ) (old new : Working) → Carries g (pages_of new) v → IsOver old new → b < meta_of g → IsHeld (pages_of old) b → IsHeld (pages_of new) b
meta-kept g v b old new c over low held = meta-held g (pages_of new) v b c.fits low (held-known old new b over held)

-- ---- what adding a name requires of pages

pub record IsLinkable (g : Geometry) (o : Opened) (picks : List ℕ) (pages : Pages) : Type 0 where
  pub dirs : AreDirsAt pages o.blocks.items
  pub takes : All (IsTakeable g pages) picks
  pub table : IsHeld pages (inode_block g o.number)
  pub pointers : HoldsPointers pages o

-- it goes along where the name may be added to what the pages carry then
pub link-kept : (g : Geometry) (q : ℕ) (v : Volume) (o : Opened) (entry : Entry) (picks : List ℕ) (old new : Working) → Carries g (pages_of new) v → IsOver old new → MayLink g q v o entry picks → IsLinkable g o picks (pages_of old) → IsLinkable g o picks (pages_of new)
link-kept g q v o entry picks old new c over m h = record {
  dirs = carried-form g (pages_of new) v o.number m.slots o.blocks.items c m.is m.opened.blocks
      (λ k x l. used-held g (pages_of new) v (Part o.number k) _ c (ap (λ (bs : List ℕ). slice_get bs k) (sym m.opened.blocks) ∙ slice_get-get_or o.blocks.items k x l) (held-known old new _ over (h.dirs k x l).held));
  takes = λ k x l.
      let t = h.takes k x l in record {
        marks = record { high = t.marks.high; home = t.marks.home; marks = meta-kept g v _ old new c over (let z = zone-low g _ t.marks.high t.marks.home in let m = g.meta_low in omega arith) t.marks.marks };
        free = free-known g (pages_of new) v _ c.fits (picks-all_free g q v _ picks m.queue m.picked k x l) (λ none. none-some _ (sym (over.known _ none) ∙ t.free));
      };
  table = meta-kept g v _ old new c over (let l = m.opened.low in omega arith) h.table;
  pointers = λ many. used-held g (pages_of new) v (Pointers o.number) _ c (opened-pointers g v o m.opened many) (held-known old new _ over (h.pointers many));
}

-- ---- the name is added, as the call says it

pub link-at : (g h : Geometry) (q : ℕ) (v : Volume) (o : Opened) (entry : Entry) (name picks more : List ℕ) → h ≡ g → name ≡ entry.name → more ≡ picks → MayLink g q v o entry picks → MayLink h q v o (record { inode = entry.inode; name = name }) more
link-at g h q v o entry name picks more e n m l =
    subst (λ (x : Geometry). MayLink x q v o (record { inode = entry.inode; name = name }) more) (sym e) (subst (λ (s : List ℕ). MayLink g q v o (record { inode = entry.inode; name = s }) more) (sym n) (subst (λ (bs : List ℕ). MayLink g q v o entry bs) (sym m) l))

pub name-added : (g h : Geometry) (q : ℕ) (v : Volume) (o : Opened) (entry : Entry) (name picks more : List ℕ) (mid new : Working) → h ≡ g → name ≡ entry.name → more ≡ picks → Carries g (pages_of mid) v → MayLink g q v o entry picks
    → (Carries h (pages_of mid) v → MayLink h q v o (record { inode = entry.inode; name = name }) more → Becomes h v (linked h q v o.number (record { inode = entry.inode; name = name })) mid new) → Becomes g v (linked g q v o.number entry) mid new
name-added g h q v o entry name picks more mid new e n m c l f =
    subst (λ (x : Geometry). Becomes x v (linked x q v o.number entry) mid new) e (subst (λ (s : List ℕ). Becomes h v (linked h q v o.number (record { inode = entry.inode; name = s })) mid new) n
    (f (subst (λ (x : Geometry). Carries x (pages_of mid) v) (sym e) c) (link-at g h q v o entry name picks more e n m l)))

-- ---- the last name

pub last-name : (path : Path) (name : List ℕ) → Some name ≡ slice_get path (length path - 1) → name ≡ last_of (way path)
last-name [] name e = absurd (none-some name (sym e))
last-name (x ∷ xs) name e =
    let path = x ∷ xs in
    let k = length xs in
    let at : slice_get path k ≡ Some name = sym (e ∙ ap (λ (j : ℕ). slice_get path j) (omega arith)) in
    let here : get_or path k [] ≡ name = same_Some (get_or path k []) name (sym (slice_get-get_or path k [] (omega arith)) ∙ at) in
    let rest : drop k path ≡ name ∷ [] = drop-cons path k [] (omega arith) ∙ ap (λ (ns : Path). get_or path k [] ∷ ns) (drop_all (suc k) path (omega arith)) ∙ ap (λ (n : List ℕ). n ∷ []) here in
    sym (ap last_of (way-last path (take k path) name (sym (take-append-drop k path) ∙ ap (λ (ns : Path). take k path ++ ns) rest)))
