-- What making a file or a directory comes to, and at what it looks.
use Rattle.mq_inodes.proofs.ChangesUses.{used-links}
use Rattle.std.proofs.Common.{◌≡◌, ◌≢◌, ℕ, ◌*◌, ◌<◌, ◌≤◌, inl, inr, List, [], ◌∷◌, ◌++◌, length, Bool, true, false, cond, refl, sym, ap, subst, ◌∙◌, arith, length-set}
use Rattle.std.specs.Prelude.{Option, Some, None, nat_le}
use Rattle.std.specs.List.{Contains, list_all}
use Rattle.std.proofs.lemmas.Bool.{cases_lt, leb-false, lt-leb, true≢false}
use Rattle.std.proofs.lemmas.List.Elements.{All-contains, Contains-push_cases}
use Rattle.mq_blocks.specs.Geometry.{queues_of}
use Rattle.mq_blocks.specs.declared.geometry.Geometry.{Geometry}
use Rattle.mq_exec.specs.Plans.{IsCarried, IsRefused, PlansMake, make_request}
use Rattle.mq_exec.specs.declared.make.Creation.{Creation}
use Rattle.mq_exec.proofs.ReadsAnswering.{past-looks}
use Rattle.mq_exec.proofs.PlansComing.{carried-enough, carried-few}
use Rattle.mq_exec.proofs.PlansCreations.{made-link}
use Rattle.mq_exec.proofs.WalksNewNames.{IsNew, new-form}
use Rattle.mq_exec.proofs.RequestsTaking.{linked-other, linked-takes}
use Rattle.mq_inodes.specs.Dirs.{slots_at}
use Rattle.mq_inodes.specs.Opened.{IsOpened, MayLink}
use Rattle.mq_inodes.specs.Pages.{Pages}
use Rattle.mq_inodes.specs.Picks.{ArePicked, IsSearched}
use Rattle.mq_inodes.specs.Bare.{empty_body, with_inode}
use Rattle.mq_inodes.specs.Walks.{LeadsPast, last_of}
use Rattle.mq_inodes.specs.declared.opened.Opened.{Opened}
use Rattle.mq_inodes.proofs.BareEmptyInodes.{empty-used}
use Rattle.mq_inodes.proofs.OpenedLinkedGrown.{picked-enough}
use Rattle.mq_inodes.proofs.ChangesInodes.{bare}
use Rattle.mq_inodes.proofs.ChangesTaken.{IsFree}
use Rattle.mq_inodes.proofs.ChangesVolumes.{bare-uses}
use Rattle.mq_inodes.proofs.Picks.{picks-all_free}
use Rattle.mq_inodes.proofs.Sound.{sound-uses}
use Rattle.mq_layout.specs.Names.{IsName, is_name}
use Rattle.mq_layout.specs.Places.{inode_bitmap, inode_block, inodes_of, names_limit}
use Rattle.mq_layout.specs.Slots.{Entry}
use Rattle.mq_tree.specs.Free.{first_free, free_blocks}
use Rattle.mq_tree.specs.Looks.{LooksAt, TakesInode, is_making, marks, needed, no_inodes, no_space, paths_of, searched, taken, taken_inode}
use Rattle.mq_tree.specs.Requests.{Makes, RequestOutcome, Verdict, carried_out, count_names, entry_needs, link_needs, linked, make, make_free, refused, step, target, unused, verdict}
use Rattle.mq_tree.specs.Sound.{IsBody, IsSound}
use Rattle.mq_tree.specs.Volume.{Body, Dir, File, Free, Node, Path, Volume, body, is_taken, is_used, node, slots_of, way}
use Rattle.mq_tree.specs.declared.request.Fault.TheVariants.{BadName, NoInodes, NoSpace, TooBig}
use Rattle.mq_tree.specs.declared.request.Reply.TheVariants.{Ok as Done}
use Rattle.mq_tree.proofs.VolumeChanges.{first-free}
use Rattle.mq_tree.proofs.RequestsNodes.{unused-none}
use Rattle.mq_tree.proofs.VolumePaths.{nothing-free}
use Rattle.mq_tree.proofs.FreeUses.{node-here}
use Rattle.mq_tree.specs.Uses.{AreUses}

-- ---- an entry may be added

pub need-is : (g : Geometry) (v : Volume) (o : Opened) (slots : List (Option Entry)) (need : ℕ) → IsOpened g v o → body v o.number ≡ Dir slots → need ≡ entry_needs (length o.blocks.items) (unused 0 slots) → need ≡ link_needs (node v o.number)
need-is g v o slots need h is e =
    e ∙ ap (λ (bs : List ℕ). entry_needs (length bs) (unused 0 slots)) h.blocks ∙ ap (λ (x : Body). entry_needs (length (node v o.number).blocks) (unused 0 (slots_of x))) (sym is)

pub may-link : (g : Geometry) (q : ℕ) (v : Volume) (o : Opened) (slots : List (Option Entry)) (i : ℕ) (name picks : List ℕ) (need : ℕ) → IsSound g v → q < queues_of g → IsOpened g v o → body v o.number ≡ Dir slots → count_names slots < names_limit
    → i < inodes_of g → IsName name → need ≡ entry_needs (length o.blocks.items) (unused 0 slots) → ArePicked g q v need picks → MayLink g q v o (record { inode = i; name = name }) picks
may-link g q v o slots i name picks need sound low h is few inode good e picked =
    let count = length o.blocks.items in
    let shape : IsBody (Dir slots) (length (node v o.number).blocks) = subst (λ (x : Body). IsBody x (length (node v o.number).blocks)) is (sound.nodes o.number).body in
    let size : length slots ≡ 15 * count = shape.1 ∙ ap (λ (bs : List ℕ). 15 * length bs) (sym h.blocks) in
    record {
      opened = h;
      queue = low;
      slots = slots;
      is = is;
      size = size;
      form = record { inode = omega arith; name = good };
      few = λ none. let all = unused-none 0 slots none in omega arith;
      picked = subst (λ (k : ℕ). ArePicked g q v k picks) (need-is g v o slots need h is e) picked;
    }

pub need-at : (g : Geometry) (pages : Pages) (v : Volume) (o : Opened) (d need : ℕ) → IsOpened g v o → o.number ≡ d → body v d ≡ Dir (slots_at pages o.blocks.items) → need ≡ entry_needs (length o.blocks.items) (unused 0 (slots_at pages o.blocks.items)) → need ≡ link_needs (node v o.number)
need-at g pages v o d need h same is e = need-is g v o (slots_at pages o.blocks.items) need h (ap (λ (x : ℕ). body v x) same ∙ is) e

-- ---- what making comes to

-- nothing stands under the name, and the directory is not full
pub record IsReady (v : Volume) (path : Path) (d : ℕ) : Type 0 where
  pub new : IsNew v (way path) d
  pub few : count_names (slots_of (body v d)) < names_limit
  pub good : list_all is_name path ≡ true

pub ready : (pages : Pages) (v : Volume) (path : Path) (o : Opened) (d : ℕ) (blocks : List ℕ) (full : Bool) → IsNew v (way path) d → o.number ≡ d → body v d ≡ Dir (slots_at pages o.blocks.items) → blocks ≡ o.blocks.items → full ≡ nat_le names_limit (count_names (slots_at pages blocks)) → full ≡ false → list_all is_name path ≡ true → IsReady v path o.number
ready pages v path o d blocks full n same is these e room good =
    let there : count_names (slots_of (body v d)) ≡ count_names (slots_at pages o.blocks.items) = ap (λ (x : Body). count_names (slots_of x)) is in
    let test : nat_le names_limit (count_names (slots_of (body v d))) ≡ false = ap (λ (n : ℕ). nat_le names_limit n) (there ∙ ap (λ (bs : List ℕ). count_names (slots_at pages bs)) (sym these)) ∙ sym e ∙ room in
    subst (λ (x : ℕ). IsReady v path x) (sym same) (record { new = n; few = leb-false names_limit (count_names (slots_of (body v d))) test; good = good })

abbrev made_volume : Geometry → (queue : ℕ) → Volume → Body → Path → (d i : ℕ) → Volume
made_volume g q v y path d i = linked g q (with_inode v i y) d (record { inode = i; name = last_of (way path) })

make-ready : (g : Geometry) (q : ℕ) (v : Volume) (y : Body) (path : Path) (d : ℕ) (found : Option ℕ) → IsReady v path d → first_free 0 v ≡ found → make g q v y (target v (way path)) ≡ make_free g q v y d (last_of (way path)) found
make-ready g q v y path d found r e =
    ap (make g q v y) r.new.target_is ∙ ap (λ (t : Bool). cond t (refused TooBig) (make_free g q v y d (last_of (way path)) (first_free 0 v))) (lt-leb names_limit (count_names (slots_of (body v d))) r.few) ∙ ap (make_free g q v y d (last_of (way path))) e

make-none : (g : Geometry) (q : ℕ) (v : Volume) (y : Body) (path : Path) (d : ℕ) → IsReady v path d → first_free 0 v ≡ None → IsRefused g v (make g q v y (target v (way path))) NoInodes
make-none g q v y path d r e = ap (λ (x : Verdict). carried_out g v x) (make-ready g q v y path d None r e)

make-some : (g : Geometry) (q : ℕ) (v : Volume) (y : Body) (path : Path) (d i : ℕ) → IsReady v path d → first_free 0 v ≡ Some i → make g q v y (target v (way path)) ≡ Makes (link_needs (node v d)) (made_volume g q v y path d i)
make-some g q v y path d i r e = make-ready g q v y path d (Some i) r e

pub make-few : (g : Geometry) (q : ℕ) (v : Volume) (y : Body) (path : Path) (d i : ℕ) → IsReady v path d → first_free 0 v ≡ Some i → free_blocks g v < link_needs (node v d) → IsRefused g v (make g q v y (target v (way path))) NoSpace
make-few g q v y path d i r e few = ap (λ (x : Verdict). carried_out g v x) (make-some g q v y path d i r e) ∙ carried-few g v (link_needs (node v d)) (made_volume g q v y path d i) few

make-enough : (g : Geometry) (q : ℕ) (v : Volume) (y : Body) (path : Path) (d i : ℕ) → IsReady v path d → first_free 0 v ≡ Some i → link_needs (node v d) ≤ free_blocks g v → IsCarried g v (make g q v y (target v (way path))) (made_volume g q v y path d i)
make-enough g q v y path d i r e enough = ap (λ (x : Verdict). carried_out g v x) (make-some g q v y path d i r e) ∙ carried-enough g v (link_needs (node v d)) (made_volume g q v y path d i) enough

pub free-is : (g : Geometry) (v : Volume) (i : ℕ) → IsSound g v → first_free 0 v ≡ Some i → (i < inodes_of g) × (body v i ≡ Free)
free-is g v i sound e = let f = first-free v i e in let l = f.0 in let c = sound.count in (omega arith, nothing-free (body v i) f.1)

-- ---- the request

making-paths : (t : Bool) (path : Path) → paths_of (make_request t path) ≡ path ∷ []
making-paths true path = refl
making-paths false path = refl

making-makes : (t : Bool) (path : Path) → is_making (make_request t path) ≡ true
making-makes true path = refl
making-makes false path = refl

making-verdict : (g : Geometry) (q : ℕ) (v : Volume) (t : Bool) (path : Path) → list_all is_name path ≡ true → verdict g q v (make_request t path) ≡ make g q v (empty_body t) (target v (way path))
making-verdict g q v true path good = ap (λ (b : Bool). cond b (make g q v (Dir []) (target v (way path))) (refused BadName)) good
making-verdict g q v false path good = ap (λ (b : Bool). cond b (make g q v (File []) (target v (way path))) (refused BadName)) good

pub making-step : (g : Geometry) (q : ℕ) (v : Volume) (t : Bool) (path : Path) → list_all is_name path ≡ true → step g q v (make_request t path) ≡ carried_out g v (make g q v (empty_body t) (target v (way path)))
unfolding step
making-step g q v t path good = ap (λ (x : Verdict). carried_out g v x) (making-verdict g q v t path good)

-- ---- at what it looks

pub make-past : (g : Geometry) (q : ℕ) (v : Volume) (t : Bool) (path : Path) (b : ℕ) → LeadsPast g v (way path) b → LooksAt g q v (make_request t path) b
make-past g q v t path b h = past-looks g q v path (make_request t path) b (making-paths t path) h

pub make-searched : (g : Geometry) (q : ℕ) (v : Volume) (t : Bool) (path : Path) (d i need b : ℕ) → IsReady v path d → first_free 0 v ≡ Some i → need ≡ link_needs (node v d) → IsSearched g q v need b → LooksAt g q v (make_request t path) b
make-searched g q v t path d i need b r e n h =
    let same : needed (verdict g q v (make_request t path)) ≡ need = ap needed (making-verdict g q v t path r.good ∙ make-some g q v (empty_body t) path d i r e) ∙ sym n in
    searched h.zone h.inside (let few = h.few in omega arith) h.is

make-takes : (g : Geometry) (q : ℕ) (v : Volume) (t : Bool) (path : Path) (d i : ℕ) → IsSound g v → IsReady v path d → first_free 0 v ≡ Some i → link_needs (node v d) ≤ free_blocks g v → TakesInode g q v (make_request t path) i
make-takes g q v t path d i sound r e enough same =
    let y = empty_body t in
    let f = free-is g v i sound e in
    let low : i < length v = (let l = f.0 in let c = sound.count in omega arith) in
    let other : i ≢ d = λ is. free-dir (sym f.1 ∙ ap (λ (x : ℕ). body v x) is ∙ r.new.dir.1) in
    let made : step g q v (make_request t path) ≡ record { reply = Done; next = made_volume g q v y path d i } = making-step g q v t path r.good ∙ make-enough g q v y path d i r e enough in
    let now : body (made_volume g q v y path d i) i ≡ y = ap (λ (n : Node). n.body) (linked-other g q (with_inode v i y) d _ i other ∙ node-here v i (bare y) low) in
    true≢false (sym (ap (λ (o : RequestOutcome). is_used (body o.next i)) made ∙ ap is_used now ∙ empty-used t) ∙ sym same ∙ ap is_used f.1)
  where
    free-dir : {slots : List (Option Entry)} → Free ≡ Dir slots → ⊥
    free-dir f = cc

pub make-marks : (g : Geometry) (q : ℕ) (v : Volume) (t : Bool) (path : Path) (d b : ℕ) → IsSound g v → IsReady v path d → b ≡ inode_bitmap g → LooksAt g q v (make_request t path) b
make-marks g q v t path d b sound r at = go (first_free 0 v) refl
  where
    go : (found : Option ℕ) → first_free 0 v ≡ found → LooksAt g q v (make_request t path) b
    go None e = no_inodes (ap (λ (o : RequestOutcome). o.reply) (making-step g q v t path r.good ∙ make-none g q v (empty_body t) path d r e)) at
    go (Some i) e = elim (cases_lt (free_blocks g v) (link_needs (node v d))) [
      | inl few ↦ no_space (making-makes t path) (ap (λ (o : RequestOutcome). o.reply) (making-step g q v t path r.good ∙ make-few g q v (empty_body t) path d i r e few)) at
      | inr enough ↦ marks i (make-takes g q v t path d i sound r e enough) at
    ]

-- the picked blocks, and the block of the inode
pub make-wanted : (g : Geometry) (q : ℕ) (v : Volume) (t : Bool) (path : Path) (o : Opened) (i : ℕ) (picks : List ℕ) (b : ℕ) → IsSound g v → IsReady v path o.number → first_free 0 v ≡ Some i → MayLink g q v o (record { inode = i; name = last_of (way path) }) picks
    → Contains (picks ++ inode_block g i ∷ []) b → LooksAt g q v (make_request t path) b
make-wanted g q v t path o i picks b sound r e m c =
    let y = empty_body t in
    let d = o.number in
    let f = free-is g v i sound e in
    let low : i < length v = (let l = f.0 in let c = sound.count in omega arith) in
    let enough = picked-enough g q v (link_needs (node v d)) picks m.queue m.picked in
    elim (Contains-push_cases picks (inode_block g i) b c) [
      | inl among ↦
          let w = with_inode v i y in
          let uses : AreUses g w = bare-uses g v i (bare y) (sound-uses g v sound) low refl refl (used-links y (empty-used t)) in
          let inside : d < length w = (let n = length-set v i (bare y) in let c = sound.count in let l = m.opened.low in omega arith) in
          let made : step g q v (make_request t path) ≡ record { reply = Done; next = made_volume g q v y path d i } = making-step g q v t path r.good ∙ make-enough g q v y path d i r e enough in
          let free = All-contains (IsFree g v) picks b (picks-all_free g q v _ picks m.queue m.picked) among in
          taken free.free (ap (λ (x : RequestOutcome). is_taken x.next b) made ∙ linked-takes g q w o _ picks b (made-link g q v i y o _ picks sound f.0 f.1 m) uses inside among)
      | inr at ↦ taken_inode i (make-takes g q v t path d i sound r e enough) (sym at)
    ]

-- ---- the plan

pub record IsPlanned (g : Geometry) (q : ℕ) (v : Volume) (path : Path) (m : Creation) : Type 0 where
  pub ready : IsReady v path m.directory.number
  pub first : first_free 0 v ≡ Some m.inode
  pub link : MayLink g q v m.directory (record { inode = m.inode; name = last_of (way path) }) m.picks.items

pub planned : (g : Geometry) (q : ℕ) (pages : Pages) (v : Volume) (path : Path) (m : Creation) (d need : ℕ) (found : Option ℕ) → IsSound g v → q < queues_of g → IsReady v path m.directory.number → m.directory.number ≡ d → IsOpened g v m.directory → body v d ≡ Dir (slots_at pages m.directory.blocks.items)
    → found ≡ first_free 0 v → found ≡ Some m.inode → need ≡ entry_needs (length m.directory.blocks.items) (unused 0 (slots_at pages m.directory.blocks.items)) → ArePicked g q v need m.picks.items → IsPlanned g q v path m
planned g q pages v path m d need found sound low r same opened is first some e picked =
    let slots = slots_at pages m.directory.blocks.items in
    let free = sym first ∙ some in
    let here : body v m.directory.number ≡ Dir slots = ap (λ (x : ℕ). body v x) same ∙ is in
    let few : count_names slots < names_limit = (let f = r.few in let n = ap (λ (x : Body). count_names (slots_of x)) here in omega arith) in
    record {
      ready = r;
      first = free;
      link = may-link g q v m.directory slots m.inode (last_of (way path)) m.picks.items need sound low opened here few (free-is g v m.inode sound free).0 (new-form v path m.directory.number r.good r.new) e picked;
    }

pub plans-make : (g : Geometry) (q : ℕ) (v : Volume) (t : Bool) (path : Path) (m : Creation) → IsSound g v → IsPlanned g q v path m → PlansMake g q v (empty_body t) path m
plans-make g q v t path m sound p =
    let f = free-is g v m.inode sound p.first in
    record {
      carried = make-enough g q v (empty_body t) path m.directory.number m.inode p.ready p.first (picked-enough g q v (link_needs (node v m.directory.number)) m.picks.items p.link.queue p.link.picked);
      low = f.0;
      free = f.1;
      link = p.link;
    }
