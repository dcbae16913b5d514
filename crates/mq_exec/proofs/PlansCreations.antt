-- Files and directories that are made: the inode, and then its name.
use Rattle.std.proofs.Common.{◌≡◌, ◌≢◌, ℕ, ◌<◌, List, [], ◌∷◌, length, false, sym, ap, subst, ◌∙◌, arith}
use Rattle.std.specs.Prelude.{Option, None}
use Rattle.std.specs.List.{All, Contains}
use Rattle.std.proofs.lemmas.List.Elements.{All-contains, Contains-append_left, Contains-get_or, Contains-push}
use Rattle.mq_blocks.specs.declared.geometry.Geometry.{Geometry}
use Rattle.mq_exec.specs.Plans.{HoldsMake, IsSeen, PlansMake, made_entry, wanted}
use Rattle.mq_exec.specs.declared.make.Creation.{Creation}
use Rattle.mq_exec.proofs.OpenedLinkable.{IsLinkable, link-kept, link-same, takeables}
use Rattle.mq_inodes.specs.Changes.{AreOthers}
use Rattle.mq_inodes.specs.Dirs.{AreDirsAt, slots_at}
use Rattle.mq_inodes.specs.Edits.{Carries, IsOver}
use Rattle.mq_inodes.specs.Fits.{Agrees}
use Rattle.mq_inodes.specs.Opened.{IsTakeable, MayLink}
use Rattle.mq_inodes.specs.Pages.{Pages, pages_of}
use Rattle.mq_inodes.specs.Unseen.{AreFree}
use Rattle.mq_inodes.specs.Bare.{with_inode}
use Rattle.mq_inodes.specs.declared.opened.Opened.{Opened}
use Rattle.mq_inodes.specs.declared.working.Working.{Working}
use Rattle.mq_inodes.proofs.Dirs.{carried-slots}
use Rattle.mq_inodes.proofs.PagesHeld.{meta-held}
use Rattle.mq_inodes.proofs.ChangesFrame.{taken-same}
use Rattle.mq_inodes.proofs.ChangesInodes.{bare}
use Rattle.mq_inodes.proofs.ChangesVolumes.{free-bare}
use Rattle.mq_layout.specs.Places.{inode_block, inodes_of}
use Rattle.mq_layout.specs.Slots.{Entry}
use Rattle.mq_tree.specs.Requests.{unused}
use Rattle.mq_tree.specs.Sound.{IsSound}
use Rattle.mq_tree.specs.Volume.{Body, Free, Dir, Node, Path, Volume, body, has_block, node}
use Rattle.mq_tree.proofs.FreeUses.{node-here, node-other}

-- ---- an inode more

free-not-dir : (v : Volume) (d i : ℕ) (slots : List (Option Entry)) → body v d ≡ Dir slots → body v i ≡ Free → d ≢ i
free-not-dir v d i slots is free e = free-dir (sym free ∙ ap (λ (x : ℕ). body v x) (sym e) ∙ is)
  where
    free-dir : Free ≡ Dir slots → ⊥
    free-dir f = cc

pub made-link : (g : Geometry) (q : ℕ) (v : Volume) (i : ℕ) (y : Body) (o : Opened) (entry : Entry) (picks : List ℕ) → IsSound g v → i < inodes_of g → body v i ≡ Free → MayLink g q v o entry picks → MayLink g q (with_inode v i y) o entry picks
made-link g q v i y o entry picks sound low free h =
    let w = with_inode v i y in
    let inside : i < length v = (let c = sound.count in omega arith) in
    let others : AreOthers v w i = λ x other. node-other v i x (bare y) other in
    let none = free-bare (node v i) (sound.nodes i) free in
    let here : node w i ≡ bare y = node-here v i (bare y) inside in
    let has : (x : ℕ) → has_block (node v i) x ≡ has_block (node w i) x = λ x. lacks (node v i) x none.0 none.1 ∙ sym (lacks (node w i) x (ap (λ (n : Node). n.blocks) here) (ap (λ (n : Node). n.indirect) here)) in
    link-same g q v w o entry picks (node-other v i o.number (bare y) (free-not-dir v o.number i h.slots h.is free)) (λ x. sym (taken-same v w i x others (has x))) h
  where
    lacks : (n : Node) (x : ℕ) → n.blocks ≡ [] → n.indirect ≡ None → has_block n x ≡ false
    lacks n x bs ind = ap (λ (xs : List ℕ). has_block (record { body = n.body; blocks = xs; indirect = n.indirect; links = n.links }) x) bs ∙ ap (λ (p : Option ℕ). has_block (record { body = n.body; blocks = []; indirect = p; links = n.links }) x) ind

-- ---- pages

-- what is known of the blocks that are looked at last
pub seen-make : (g : Geometry) (q : ℕ) (pages : Pages) (v : Volume) (y : Body) (path : Path) (m : Creation) (known : List ℕ) → Agrees g pages v → PlansMake g q v y path m → HoldsMake g pages m → known ≡ wanted g m → All (λ b. pages b ≢ None) known → IsSeen g pages m
seen-make g q pages v y path m known agrees plan holds e all = record {
  picks = λ k x l. (takes k x l).free;
  inode = meta-held g pages v (inode_block g m.inode) agrees.fits (let low = plan.low in omega arith) (every _ (Contains-push m.picks.items (inode_block g m.inode)));
}
  where
    every : (b : ℕ) → Contains (wanted g m) b → pages b ≢ None
    every b c = All-contains (λ x. pages x ≢ None) known b all (subst (λ (bs : List ℕ). Contains bs b) (sym e) c)

    takes : All (IsTakeable g pages) m.picks.items
    takes = takeables g q pages v _ m.picks.items agrees.fits plan.link.queue plan.link.picked holds.picks (λ k x l. every _ (Contains-append_left m.picks.items (inode_block g m.inode ∷ []) _ (Contains-get_or m.picks.items k x l)))

pub made-linkable : (g : Geometry) (q : ℕ) (v : Volume) (y : Body) (path : Path) (m : Creation) (old new : Working) → Agrees g (pages_of old) v → PlansMake g q v y path m → HoldsMake g (pages_of old) m → AreFree (pages_of old) m.picks.items → IsOver old new → Carries g (pages_of new) (with_inode v m.inode y)
    → IsLinkable g m.directory m.picks.items (pages_of new)
made-linkable g q v y path m old new agrees plan holds free over carries =
    link-kept g q (with_inode v m.inode y) m.directory (made_entry path m) m.picks.items old new carries over (made-link g q v m.inode y m.directory _ m.picks.items agrees.sound plan.low plan.free plan.link)
    (record { dirs = holds.dirs; takes = λ k x l. record { marks = holds.picks k x l; free = free k x l }; table = holds.table; pointers = holds.pointers })

-- the slots of the directory stay
pub made-slots : (g : Geometry) (q : ℕ) (v : Volume) (y : Body) (path : Path) (m : Creation) (old new : Working) → Agrees g (pages_of old) v → Carries g (pages_of old) v → PlansMake g q v y path m → HoldsMake g (pages_of old) m → AreDirsAt (pages_of new) m.directory.blocks.items → Carries g (pages_of new) (with_inode v m.inode y)
    → m.unused ≡ unused 0 (slots_at (pages_of new) m.directory.blocks.items)
made-slots g q v y path m old new agrees carries plan holds dirs now =
    let l = plan.link in
    let o = m.directory in
    let w = with_inode v m.inode y in
    let e : node w o.number ≡ node v o.number = node-other v m.inode o.number (bare y) (free-not-dir v o.number m.inode l.slots l.is plan.free) in
    let before : l.slots ≡ slots_at (pages_of old) o.blocks.items = carried-slots g (pages_of old) v o.number l.slots o.blocks.items carries l.is l.opened.blocks l.size (λ k x i. (holds.dirs k x i).held) in
    let after : l.slots ≡ slots_at (pages_of new) o.blocks.items = carried-slots g (pages_of new) w o.number l.slots o.blocks.items now (ap (λ (n : Node). n.body) e ∙ l.is) (l.opened.blocks ∙ ap (λ (n : Node). n.blocks) (sym e)) l.size (λ k x i. (dirs k x i).held) in
    holds.slot ∙ ap (λ (s : List (Option Entry)). unused 0 s) (sym before ∙ after)
