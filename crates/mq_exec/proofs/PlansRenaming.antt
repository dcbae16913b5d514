-- What moving a file or a directory comes to, and at what it looks.
use Rattle.mq_tree.specs.Links.{HasLinks}
use Rattle.std.proofs.Common.{◌≡◌, ◌≢◌, ℕ, ◌*◌, ◌<◌, ◌≤◌, inl, inr, List, length, Bool, true, false, cond, sym, ap, subst, ◌∙◌, arith, length-set}
use Rattle.std.specs.Prelude.{Option, Some, None, is_some, nat_le, nat_lt}
use Rattle.std.specs.List.{All, Contains, list_all}
use Rattle.std.proofs.lemmas.Bool.{and_from, cases_eq, eq-eqb, le-leb, leb-false, leb-true, lt-leb, ne_eqb, true≢false}
use Rattle.std.proofs.lemmas.List.Elements.{All-contains}
use Rattle.mq_blocks.specs.Geometry.{queues_of}
use Rattle.mq_blocks.specs.declared.geometry.Geometry.{Geometry}
use Rattle.mq_exec.specs.Plans.{HoldsRename, IsCarried, IsRefused, IsSource, PlansRename, is_full, move_needs}
use Rattle.mq_exec.specs.declared.rename.Renaming.{Renaming}
use Rattle.mq_exec.proofs.PlansComing.{carried-enough, carried-few}
use Rattle.mq_exec.proofs.OpenedLinkable.{link-same, picked-same, takeables}
use Rattle.mq_exec.proofs.PlansCreationLooks.{may-link, need-is}
use Rattle.mq_exec.proofs.WalksNewNames.{IsNew, new-form}
use Rattle.mq_exec.proofs.PlansRemoving.{may-unlink}
use Rattle.mq_exec.proofs.RequestsTaking.{body-taken, linked-takes}
use Rattle.mq_exec.proofs.PlansTargets.{IsUnder, under-low, under-named}
use Rattle.mq_inodes.specs.Dirs.{AreDirsAt, slots_at}
use Rattle.mq_inodes.specs.Fits.{Agrees}
use Rattle.mq_inodes.specs.Opened.{HoldsPointers, IsOpened, MayLink}
use Rattle.mq_inodes.specs.Pages.{IsHeld, Pages}
use Rattle.mq_inodes.specs.Picks.{ArePicked, IsMarkable, IsSearched}
use Rattle.mq_inodes.specs.Walks.{LeadsPast, directory, inode, last_of}
use Rattle.mq_inodes.specs.declared.opened.Opened.{Opened}
use Rattle.mq_inodes.proofs.OpenedLinkedGrown.{picked-enough}
use Rattle.mq_inodes.proofs.ChangesBodies.{rebodied}
use Rattle.mq_inodes.proofs.ChangesTaken.{IsFree}
use Rattle.mq_inodes.proofs.ChangesVolumes.{with_body-uses}
use Rattle.mq_inodes.proofs.Picks.{picks-all_free}
use Rattle.mq_inodes.proofs.Sound.{sound-uses}
use Rattle.mq_layout.specs.Names.{IsName, is_name}
use Rattle.mq_layout.specs.Places.{inode_block, inodes_of, names_limit}
use Rattle.mq_layout.specs.Slots.{Entry}
use Rattle.mq_tree.specs.Free.{free_blocks}
use Rattle.mq_tree.specs.Laid.{inode_of}
use Rattle.mq_tree.specs.Looks.{LooksAt, directory as looks_directory, inode as looks_inode, needed, searched, taken}
use Rattle.mq_tree.specs.Requests.{Makes, RequestOutcome, Verdict, carried_out, cleared, count_names, entry_needs, link_needs, linked, is_below, move, refused, rename, step, target, unlinked, unused, verdict}
use Rattle.mq_tree.specs.Sound.{IsBody, IsSound}
use Rattle.mq_tree.specs.Volume.{Body, Dir, Node, Path, Volume, body, find, is_taken, node, slots_of, way}
use Rattle.mq_tree.specs.declared.request.Fault.TheVariants.{BadName, NoSpace, Subtree, TooBig}
use Rattle.mq_tree.specs.declared.request.Request.TheVariants.{Rename}
use Rattle.mq_tree.proofs.RequestsNodes.{cleared-count, cleared-length, count-most, unused-none}
use Rattle.mq_tree.proofs.FreeUses.{node-here, node-other}
use Rattle.mq_tree.specs.Uses.{AreUses}
use Rattle.mq_tree.proofs.LaidUses.{some-of}

-- ---- slots from which a name is gone

-- one is unused
cleared-unused : (name : List ℕ) (slots : List (Option Entry)) (i : ℕ) → find name slots ≡ Some i → unused 0 (cleared name slots) ≢ None
cleared-unused name slots i e none =
    let a = unused-none 0 (cleared name slots) none in
    let b = cleared-count name slots i e in
    let c = cleared-length name slots in
    let d = count-most slots in
    absurd (omega arith)

cleared-needs : (name : List ℕ) (slots : List (Option Entry)) (i count : ℕ) → find name slots ≡ Some i → entry_needs count (unused 0 (cleared name slots)) ≡ 0
cleared-needs name slots i count e =
    let s = some-of (unused 0 (cleared name slots)) (cleared-unused name slots i e) in
    ap (λ (o : Option ℕ). entry_needs count o) s.1

-- ---- what is to move

-- what is to move, and the directory for its new name
pub record IsMove (v : Volume) (from to : Path) (d i into : ℕ) : Type 0 where
  pub under : IsUnder v (way from) d i
  pub apart : is_below from to ≡ false
  pub new : IsNew v (way to) into
  pub good : list_all is_name from ≡ true
  pub good_to : list_all is_name to ≡ true

-- both directories, as they were opened
pub record IsMoving (g : Geometry) (pages : Pages) (v : Volume) (from to : Path) (i : ℕ) (s o : Opened) : Type 0 where
  pub sound : IsSound g v
  pub move : IsMove v from to s.number i o.number
  pub source : IsOpened g v s
  pub opened : IsOpened g v o
  pub is : body v o.number ≡ Dir (slots_at pages o.blocks.items)

pub source-under : (g : Geometry) (v : Volume) (from to : Path) (found : ℕ × ℕ) → IsSound g v → IsSource v from to found → IsUnder v (way from) found.0 found.1
source-under g v from to found sound h = under-named g v (way from) found.0 found.1 sound (sym h.target_is)

pub moving : (g : Geometry) (pages : Pages) (v : Volume) (from to : Path) (found : ℕ × ℕ) (into : ℕ) (s o : Opened) → IsSound g v → IsSource v from to found → IsNew v (way to) into → list_all is_name from ≡ true → list_all is_name to ≡ true
    → s.number ≡ found.0 → o.number ≡ into → IsOpened g v s → IsOpened g v o → body v into ≡ Dir (slots_at pages o.blocks.items) → IsMoving g pages v from to found.1 s o
moving g pages v from to found into s o sound h n good good_to same there source opened is = record {
  sound = sound;
  move = record {
    under = subst (λ (x : ℕ). IsUnder v (way from) x found.1) (sym same) (source-under g v from to found sound h);
    apart = h.apart;
    new = subst (λ (x : ℕ). IsNew v (way to) x) (sym there) n;
    good = good;
    good_to = good_to;
  };
  source = source;
  opened = opened;
  is = ap (λ (x : ℕ). body v x) there ∙ is;
}

abbrev need_at : Pages → (s o : Opened) → ℕ
need_at pages s o = move_needs s.number o.number (length o.blocks.items) (slots_at pages o.blocks.items)

abbrev full_at : Pages → (s o : Opened) → Bool
full_at pages s o = is_full s.number o.number (slots_at pages o.blocks.items)

pub need-there : (pages : Pages) (s o : Opened) (d into need : ℕ) (bs : List ℕ) → s.number ≡ d → o.number ≡ into → bs ≡ o.blocks.items → need ≡ move_needs d into (length bs) (slots_at pages bs) → need ≡ need_at pages s o
need-there pages s o d into need bs a b c e =
    e ∙ ap (λ (xs : List ℕ). move_needs d into (length xs) (slots_at pages xs)) c ∙ ap (λ (x : ℕ). move_needs x into (length o.blocks.items) (slots_at pages o.blocks.items)) (sym a) ∙ ap (λ (x : ℕ). move_needs s.number x (length o.blocks.items) (slots_at pages o.blocks.items)) (sym b)

pub full-there : (pages : Pages) (s o : Opened) (d into : ℕ) (full : Bool) (bs : List ℕ) → s.number ≡ d → o.number ≡ into → bs ≡ o.blocks.items → full ≡ is_full d into (slots_at pages bs) → full_at pages s o ≡ full
full-there pages s o d into full bs a b c e =
    sym (e ∙ ap (λ (xs : List ℕ). is_full d into (slots_at pages xs)) c ∙ ap (λ (x : ℕ). is_full x into (slots_at pages o.blocks.items)) (sym a) ∙ ap (λ (x : ℕ). is_full s.number x (slots_at pages o.blocks.items)) (sym b))

-- ---- the volume without the old name

abbrev gone : Volume → Path → ℕ → Volume
gone v from d = unlinked v d (last_of (way from))

-- The directory of the new name is as before; or it is the same, and has one slot less that is used.
data IsGone (v u : Volume) (d into : ℕ) (name : List ℕ) : Type 0 where
  other : d ≢ into → node u into ≡ node v into → IsGone v u d into name
  same : d ≡ into → node u into ≡ rebodied (node v into) (Dir (cleared name (slots_of (body v into)))) → IsGone v u d into name

gone-is : (v : Volume) (d into : ℕ) (name : List ℕ) → d < length v → IsGone v (unlinked v d name) d into name
gone-is v d into name low =
    let y : Body = Dir (cleared name (slots_of (body v d))) in
    elim (cases_eq d into) [
      | inl e ↦ same e (subst (λ (x : ℕ). node (unlinked v d name) x ≡ rebodied (node v x) (Dir (cleared name (slots_of (body v x))))) e (node-here v d (rebodied (node v d) y) low))
      | inr n ↦ other n (node-other v d into (rebodied (node v d) y) (λ e. n (sym e)))
    ]

source-low : (g : Geometry) (pages : Pages) (v : Volume) (from to : Path) (i : ℕ) (s o : Opened) → IsMoving g pages v from to i s o → s.number < length v
source-low g pages v from to i s o m = let l = m.source.low in let c = m.sound.count in omega arith

move-gone : (g : Geometry) (pages : Pages) (v : Volume) (from to : Path) (i : ℕ) (s o : Opened) → IsMoving g pages v from to i s o → IsGone v (gone v from s.number) s.number o.number (last_of (way from))
move-gone g pages v from to i s o m = gone-is v s.number o.number (last_of (way from)) (source-low g pages v from to i s o m)

found-there : (v : Volume) (from to : Path) (d i into : ℕ) (slots : List (Option Entry)) → IsMove v from to d i into → d ≡ into → body v into ≡ Dir slots → find (last_of (way from)) slots ≡ Some i
found-there v from to d i into slots m e is = sym (ap (λ (x : Body). find (last_of (way from)) (slots_of x)) (ap (λ (x : ℕ). body v x) e ∙ is)) ∙ m.under.found

move-need : (g : Geometry) (pages : Pages) (v : Volume) (from to : Path) (i need : ℕ) (s o : Opened) → IsMoving g pages v from to i s o → need ≡ need_at pages s o → need ≡ link_needs (node (gone v from s.number) o.number)
move-need g pages v from to i need s o m e = go (move-gone g pages v from to i s o m)
  where
    slots : List (Option Entry)
    slots = slots_at pages o.blocks.items

    go : IsGone v (gone v from s.number) s.number o.number (last_of (way from)) → need ≡ link_needs (node (gone v from s.number) o.number)
    go (other n at) = need-is g v o slots need m.opened m.is (e ∙ ap (λ (t : Bool). cond t 0 (entry_needs (length o.blocks.items) (unused 0 slots))) (ne_eqb s.number o.number n)) ∙ ap link_needs (sym at)
    go (same is at) =
        e ∙ ap (λ (t : Bool). cond t 0 (entry_needs (length o.blocks.items) (unused 0 slots))) (eq-eqb s.number o.number is)
        ∙ sym (ap link_needs at ∙ cleared-needs (last_of (way from)) (slots_of (body v o.number)) i _ (found-there v from to s.number i o.number (slots_of (body v o.number)) m.move is (m.is ∙ ap (λ (x : List (Option Entry)). Dir x) (sym (ap slots_of m.is)))))

move-size : (g : Geometry) (pages : Pages) (v : Volume) (from to : Path) (i : ℕ) (s o : Opened) → IsMoving g pages v from to i s o → (length (slots_at pages o.blocks.items) ≡ 15 * length o.blocks.items) × (length o.blocks.items ≤ 1036)
move-size g pages v from to i s o m =
    let slots = slots_at pages o.blocks.items in
    let shape : IsBody (Dir slots) (length (node v o.number).blocks) = subst (λ (x : Body). IsBody x (length (node v o.number).blocks)) m.is (m.sound.nodes o.number).body in
    let count = ap (λ (bs : List ℕ). length bs) m.opened.blocks in
    (shape.1 ∙ ap (λ (n : ℕ). 15 * n) (sym count), let few = shape.0 in omega arith)

move-room : (g : Geometry) (pages : Pages) (v : Volume) (from to : Path) (i : ℕ) (s o : Opened) → IsMoving g pages v from to i s o → full_at pages s o ≡ false → count_names (slots_of (body (gone v from s.number) o.number)) < names_limit
move-room g pages v from to i s o m e = go (move-gone g pages v from to i s o m)
  where
    slots : List (Option Entry)
    slots = slots_at pages o.blocks.items

    go : IsGone v (gone v from s.number) s.number o.number (last_of (way from)) → count_names (slots_of (body (gone v from s.number) o.number)) < names_limit
    go (other n at) =
        let few = leb-false names_limit (count_names slots) (sym (ap (λ (t : Bool). cond t false (nat_le names_limit (count_names slots))) (ne_eqb s.number o.number n)) ∙ e) in
        let now = ap (λ (x : Node). count_names (slots_of x.body)) at ∙ ap (λ (x : Body). count_names (slots_of x)) m.is in
        omega arith
    go (same is at) =
        let now : count_names (slots_of (body (gone v from s.number) o.number)) ≡ count_names (cleared (last_of (way from)) slots) = ap (λ (x : Node). count_names (slots_of x.body)) at ∙ ap (λ (x : Body). count_names (cleared (last_of (way from)) (slots_of x))) m.is in
        let less = cleared-count (last_of (way from)) slots i (found-there v from to s.number i o.number slots m.move is m.is) in
        let most = count-most slots in
        let size = move-size g pages v from to i s o m in
        let a = size.0 in
        let b = size.1 in
        omega arith

move-full : (g : Geometry) (pages : Pages) (v : Volume) (from to : Path) (i : ℕ) (s o : Opened) → IsMoving g pages v from to i s o → full_at pages s o ≡ true → names_limit ≤ count_names (slots_of (body (gone v from s.number) o.number))
move-full g pages v from to i s o m e = go (move-gone g pages v from to i s o m)
  where
    slots : List (Option Entry)
    slots = slots_at pages o.blocks.items

    go : IsGone v (gone v from s.number) s.number o.number (last_of (way from)) → names_limit ≤ count_names (slots_of (body (gone v from s.number) o.number))
    go (other n at) =
        let many = leb-true names_limit (count_names slots) (sym (ap (λ (t : Bool). cond t false (nat_le names_limit (count_names slots))) (ne_eqb s.number o.number n)) ∙ e) in
        let now = ap (λ (x : Node). count_names (slots_of x.body)) at ∙ ap (λ (x : Body). count_names (slots_of x)) m.is in
        omega arith
    go (same is at) = absurd (true≢false (sym e ∙ ap (λ (t : Bool). cond t false (nat_le names_limit (count_names slots))) (eq-eqb s.number o.number is)))

-- ---- what moving comes to

abbrev moved : Geometry → (queue : ℕ) → Volume → (from to : Path) → (d i into : ℕ) → Volume
moved g q v from to d i into = linked g q (gone v from d) into (record { inode = i; name = last_of (way to) })

rename-is : (g : Geometry) (q : ℕ) (v : Volume) (from to : Path) (d i into : ℕ) (full : Bool) → IsMove v from to d i into → nat_le names_limit (count_names (slots_of (body (gone v from d) into))) ≡ full
    → rename g q v from to (target v (way from)) ≡ cond full (refused TooBig) (Makes (link_needs (node (gone v from d) into)) (moved g q v from to d i into))
rename-is g q v from to d i into full m e =
    ap (rename g q v from to) m.under.target_is ∙ ap (λ (t : Bool). cond t (refused Subtree) (move g q (gone v from d) i (target v (way to)))) m.apart ∙ ap (move g q (gone v from d) i) m.new.target_is
    ∙ ap (λ (t : Bool). cond t (refused TooBig) (Makes (link_needs (node (gone v from d) into)) (moved g q v from to d i into))) e

pub rename-full : (g : Geometry) (q : ℕ) (pages : Pages) (v : Volume) (from to : Path) (i : ℕ) (s o : Opened) → IsMoving g pages v from to i s o → full_at pages s o ≡ true → IsRefused g v (rename g q v from to (target v (way from))) TooBig
rename-full g q pages v from to i s o m e = ap (λ (x : Verdict). carried_out g v x) (rename-is g q v from to s.number i o.number true m.move (le-leb names_limit _ (move-full g pages v from to i s o m e)))

rename-makes : (g : Geometry) (q : ℕ) (pages : Pages) (v : Volume) (from to : Path) (i : ℕ) (s o : Opened) → IsMoving g pages v from to i s o → full_at pages s o ≡ false
    → rename g q v from to (target v (way from)) ≡ Makes (link_needs (node (gone v from s.number) o.number)) (moved g q v from to s.number i o.number)
rename-makes g q pages v from to i s o m e = rename-is g q v from to s.number i o.number false m.move (lt-leb names_limit _ (move-room g pages v from to i s o m e))

pub rename-few : (g : Geometry) (q : ℕ) (pages : Pages) (v : Volume) (from to : Path) (i need : ℕ) (s o : Opened) → IsMoving g pages v from to i s o → full_at pages s o ≡ false → need ≡ need_at pages s o → free_blocks g v < need → IsRefused g v (rename g q v from to (target v (way from))) NoSpace
rename-few g q pages v from to i need s o m e n few =
    ap (λ (x : Verdict). carried_out g v x) (rename-makes g q pages v from to i s o m e) ∙ carried-few g v _ (moved g q v from to s.number i o.number) (subst (λ (k : ℕ). free_blocks g v < k) (move-need g pages v from to i need s o m n) few)

rename-enough : (g : Geometry) (q : ℕ) (pages : Pages) (v : Volume) (from to : Path) (i need : ℕ) (s o : Opened) → IsMoving g pages v from to i s o → full_at pages s o ≡ false → need ≡ need_at pages s o → need ≤ free_blocks g v
    → IsCarried g v (rename g q v from to (target v (way from))) (moved g q v from to s.number i o.number)
rename-enough g q pages v from to i need s o m e n enough =
    ap (λ (x : Verdict). carried_out g v x) (rename-makes g q pages v from to i s o m e) ∙ carried-enough g v _ (moved g q v from to s.number i o.number) (subst (λ (k : ℕ). k ≤ free_blocks g v) (move-need g pages v from to i need s o m n) enough)

-- ---- the entry may be added

gone-taken : (g : Geometry) (pages : Pages) (v : Volume) (from to : Path) (i : ℕ) (s o : Opened) → IsMoving g pages v from to i s o → (x : ℕ) → is_taken (gone v from s.number) x ≡ is_taken v x
gone-taken g pages v from to i s o m x = body-taken v s.number _ x (source-low g pages v from to i s o m)

rename-link : (g : Geometry) (q : ℕ) (pages : Pages) (v : Volume) (from to : Path) (i need : ℕ) (s o : Opened) (picks : List ℕ) → q < queues_of g → IsMoving g pages v from to i s o → full_at pages s o ≡ false → need ≡ need_at pages s o → ArePicked g q v need picks
    → MayLink g q (gone v from s.number) o (record { inode = i; name = last_of (way to) }) picks
rename-link g q pages v from to i need s o picks low m e n picked = go (move-gone g pages v from to i s o m)
  where
    slots : List (Option Entry)
    slots = slots_at pages o.blocks.items

    inode_low : i < inodes_of g
    inode_low = under-low g v (way from) s.number i m.sound m.move.under

    named : IsName (last_of (way to))
    named = new-form v to o.number m.move.good_to m.move.new

    u : Volume
    u = gone v from s.number

    go : IsGone v u s.number o.number (last_of (way from)) → MayLink g q u o (record { inode = i; name = last_of (way to) }) picks
    go (other differs at) =
        let few = move-room g pages v from to i s o m e in
        let now = ap (λ (x : Node). count_names (slots_of x.body)) at ∙ ap (λ (x : Body). count_names (slots_of x)) m.is in
        let need_is = n ∙ ap (λ (t : Bool). cond t 0 (entry_needs (length o.blocks.items) (unused 0 slots))) (ne_eqb s.number o.number differs) in
        link-same g q v u o _ picks at (gone-taken g pages v from to i s o m) (may-link g q v o slots i (last_of (way to)) picks need m.sound low m.opened m.is (omega arith) inode_low named need_is picked)
    go (same is at) =
        let name = last_of (way from) in
        let there = found-there v from to s.number i o.number slots m.move is m.is in
        let now : body u o.number ≡ Dir (cleared name slots) = ap (λ (x : Node). x.body) at ∙ ap (λ (x : Body). Dir (cleared name (slots_of x))) m.is in
        let says : inode_of (node v o.number) ≡ inode_of (rebodied (node v o.number) (Dir (cleared name (slots_of (body v o.number))))) = ap (λ (x : Body). inode_of (rebodied (node v o.number) x)) m.is in
        record {
          opened = record {
            low = m.opened.low;
            inode = m.opened.inode ∙ says ∙ ap inode_of (sym at);
            blocks = m.opened.blocks ∙ ap (λ (x : Node). x.blocks) (sym at);
            indirect = ap (λ (x : Node). is_some x.indirect) at ∙ m.opened.indirect ∙ ap (λ (x : Node). nat_lt 12 (length x.blocks)) (sym at);
          };
          queue = low;
          slots = cleared name slots;
          is = now;
          size = cleared-length name slots ∙ (move-size g pages v from to i s o m).0;
          form = record { inode = (let l = inode_low in omega arith); name = named };
          few = λ none. absurd (cleared-unused name slots i there none);
          picked = subst (λ (k : ℕ). ArePicked g q u k picks) (move-need g pages v from to i need s o m n) (picked-same g q v u need picks (gone-taken g pages v from to i s o m) picked);
        }

-- ---- the request, and at what it looks

rename-verdict : (g : Geometry) (q : ℕ) (v : Volume) (from to : Path) (d i into : ℕ) → IsMove v from to d i into → verdict g q v (Rename from to) ≡ rename g q v from to (target v (way from))
rename-verdict g q v from to d i into m = ap (λ (t : Bool). cond t (rename g q v from to (target v (way from))) (refused BadName)) (and_from (list_all is_name from) (list_all is_name to) m.good m.good_to)

rename-step : (g : Geometry) (q : ℕ) (v : Volume) (from to : Path) (d i into : ℕ) → IsMove v from to d i into → step g q v (Rename from to) ≡ carried_out g v (rename g q v from to (target v (way from)))
unfolding step
rename-step g q v from to d i into m = ap (λ (x : Verdict). carried_out g v x) (rename-verdict g q v from to d i into m)

pub rename-past_from : (g : Geometry) (q : ℕ) (v : Volume) (from to : Path) (b : ℕ) → LeadsPast g v (way from) b → LooksAt g q v (Rename from to) b
rename-past_from g q v from to b (inode i h at) = looks_inode i (inl h) at
rename-past_from g q v from to b (directory i slots h is has) = looks_directory i slots (inl h) is has

pub rename-past_to : (g : Geometry) (q : ℕ) (v : Volume) (from to : Path) (b : ℕ) → LeadsPast g v (way to) b → LooksAt g q v (Rename from to) b
rename-past_to g q v from to b (inode i h at) = looks_inode i (inr (inl h)) at
rename-past_to g q v from to b (directory i slots h is has) = looks_directory i slots (inr (inl h)) is has

pub rename-searched : (g : Geometry) (q : ℕ) (pages : Pages) (v : Volume) (from to : Path) (i need b : ℕ) (s o : Opened) → IsMoving g pages v from to i s o → full_at pages s o ≡ false → need ≡ need_at pages s o → IsSearched g q v need b → LooksAt g q v (Rename from to) b
rename-searched g q pages v from to i need b s o m e n h =
    let is : needed (verdict g q v (Rename from to)) ≡ need = ap needed (rename-verdict g q v from to s.number i o.number m.move ∙ rename-makes g q pages v from to i s o m e) ∙ sym (move-need g pages v from to i need s o m n) in
    searched h.zone h.inside (let few = h.few in omega arith) h.is

pub rename-taken : (g : Geometry) (q : ℕ) (pages : Pages) (v : Volume) (from to : Path) (i need b : ℕ) (s o : Opened) (picks : List ℕ) → q < queues_of g → IsMoving g pages v from to i s o → full_at pages s o ≡ false → need ≡ need_at pages s o → ArePicked g q v need picks
    → Contains picks b → LooksAt g q v (Rename from to) b
rename-taken g q pages v from to i need b s o picks low m e n picked among =
    let u = gone v from s.number in
    let inside = source-low g pages v from to i s o m in
    let uses : AreUses g u = with_body-uses g v s.number _ (sound-uses g v m.sound) inside (subst (λ (x : Body). HasLinks x (node v s.number).links) m.move.under.dir.1 (m.sound.nodes s.number).links) in
    let within : o.number < length u = (let k = length-set v s.number (rebodied (node v s.number) (Dir (cleared (last_of (way from)) (slots_of (body v s.number))))) in let c = m.sound.count in let l = m.opened.low in omega arith) in
    let made = rename-step g q v from to s.number i o.number m.move ∙ rename-enough g q pages v from to i need s o m e n (picked-enough g q v need picks low picked) in
    let free = All-contains (IsFree g v) picks b (picks-all_free g q v need picks low picked) among in
    taken free.free (ap (λ (x : RequestOutcome). is_taken x.next b) made ∙ linked-takes g q u o _ picks b (rename-link g q pages v from to i need s o picks low m e n picked) uses within among)

-- ---- the plan

pub plans-rename : (g : Geometry) (q : ℕ) (pages : Pages) (v : Volume) (from to : Path) (need : ℕ) (m : Renaming) → q < queues_of g → IsMoving g pages v from to m.inode m.source m.directory → full_at pages m.source m.directory ≡ false → need ≡ need_at pages m.source m.directory → ArePicked g q v need m.picks.items
    → PlansRename g q v from to m
plans-rename g q pages v from to need m low h e n picked = record {
  carried = rename-enough g q pages v from to m.inode need m.source m.directory h e n (picked-enough g q v need m.picks.items low picked);
  unlink = may-unlink g v m.source.number m.source.blocks.items h.sound h.move.under.dir h.source.low h.source.blocks;
  found = h.move.under.found;
  link = rename-link g q pages v from to m.inode need m.source m.directory m.picks.items low h e n picked;
}

pub holds-rename : (g : Geometry) (q : ℕ) (pages : Pages) (v : Volume) (need into : ℕ) (known : List ℕ) (m : Renaming) → Agrees g pages v → q < queues_of g → AreDirsAt pages m.source.blocks.items → length m.source.blocks.items ≤ 1036 → AreDirsAt pages m.directory.blocks.items → length m.directory.blocks.items ≤ 1036
    → m.directory.number ≡ into → IsHeld pages (inode_block g into) → HoldsPointers pages m.directory → ArePicked g q v need m.picks.items → All (IsMarkable g pages) m.picks.items → known ≡ m.picks.items → All (λ b. pages b ≢ None) known → HoldsRename g pages m
holds-rename g q pages v need into known m agrees low source few dirs few_dirs there table pointers picked marks is all = record {
  source = source;
  few = few;
  dirs = dirs;
  few_dirs = few_dirs;
  table = subst (λ (x : ℕ). IsHeld pages (inode_block g x)) (sym there) table;
  pointers = pointers;
  picks = takeables g q pages v need m.picks.items agrees.fits low picked marks (subst (λ (bs : List ℕ). All (λ b. pages b ≢ None) bs) is all);
}
