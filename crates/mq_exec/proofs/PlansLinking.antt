-- What one more name of a file comes to, and at what it looks.
use Rattle.std.proofs.Common.{◌≡◌, ◌≢◌, ℕ, suc, ◌+◌, ◌^◌, ◌<◌, ◌≤◌, inl, inr, List, [], ◌∷◌, length, Bool, true, false, cond, refl, sym, ap, subst, ◌∙◌, arith, length-set}
use Rattle.std.specs.Prelude.{MatchResult, Option, None, Some, Ok, Result, nat_le}
use Rattle.std.specs.List.{All, Contains, list_all}
use Rattle.std.proofs.lemmas.Bool.{and_from, leb-false, lt-leb}
use Rattle.std.proofs.lemmas.List.Elements.{All-contains}
use Rattle.mq_blocks.specs.Geometry.{queues_of}
use Rattle.mq_blocks.specs.declared.geometry.Geometry.{Geometry}
use Rattle.mq_exec.specs.Plans.{HoldsLink, IsCarried, IsFound, IsRefused, PlansLink, on_body, on_file}
use Rattle.mq_exec.specs.declared.file.Found.{Found}
use Rattle.mq_exec.specs.declared.link.Linking.{Linking}
use Rattle.mq_exec.proofs.OpenedLinkable.{link-same, takeables}
use Rattle.mq_exec.proofs.PlansComing.{carried-enough, carried-few}
use Rattle.mq_exec.proofs.PlansCreationLooks.{may-link, need-is}
use Rattle.mq_exec.proofs.PlansRemoving.{file-other}
use Rattle.mq_exec.proofs.PlansTargets.{RefusesFile, file-found, found-under, under-low}
use Rattle.mq_exec.proofs.RequestsTaking.{linked-takes}
use Rattle.mq_exec.proofs.WalksNewNames.{IsNew, held-place, new-form, new-placed}
use Rattle.mq_inodes.specs.Dirs.{slots_at}
use Rattle.mq_inodes.specs.Fits.{Agrees}
use Rattle.mq_inodes.specs.Opened.{IsOpened, MayCount, MayLink}
use Rattle.mq_inodes.specs.Pages.{IsHeld, Pages, pages_of}
use Rattle.mq_inodes.specs.Picks.{ArePicked, IsMarkable, IsSearched}
use Rattle.mq_inodes.specs.Walks.{HoldsDirectory, HoldsPlace, LeadsPast, directory, inode, last_of, placed}
use Rattle.mq_inodes.specs.declared.opened.Opened.{Opened}
use Rattle.mq_inodes.specs.declared.walk.Place.{Place}
use Rattle.mq_inodes.specs.declared.walk.Place.TheVariants.{In as PlacedIn}
use Rattle.mq_inodes.specs.declared.working.Working.{Working}
use Rattle.mq_inodes.proofs.ChangesFrame.{taken-same}
use Rattle.mq_inodes.proofs.ChangesTaken.{IsFree}
use Rattle.mq_inodes.proofs.Counted.{counted-uses, recounted, recounted-here}
use Rattle.mq_inodes.proofs.OpenedLinkedGrown.{picked-enough}
use Rattle.mq_inodes.proofs.Picks.{picks-all_free}
use Rattle.mq_inodes.proofs.Sound.{sound-uses}
use Rattle.mq_layout.specs.Names.{is_name}
use Rattle.mq_layout.specs.Places.{inode_block, inodes_of, names_limit}
use Rattle.mq_layout.specs.declared.inode.Inode.{Inode}
use Rattle.mq_tree.specs.Free.{free_blocks}
use Rattle.mq_tree.specs.Links.{HasLinks}
use Rattle.mq_tree.specs.Looks.{LooksAt, directory as looks_directory, inode as looks_inode, needed, searched, taken}
use Rattle.mq_tree.specs.Requests.{In, Lost, Makes, RequestOutcome, RequestTarget, Root, Verdict, carried_out, count_names, entry_needs, link, link_file, link_needs, link_to, linked, links_limit, refused, step, target, unused, verdict, with_links}
use Rattle.mq_tree.specs.Sound.{IsBody, IsSound}
use Rattle.mq_tree.specs.Uses.{AreUses}
use Rattle.mq_tree.specs.Volume.{Body, Dir, File, Free, Node, Path, Volume, Way, body, has_block, is_taken, node, slots_of, way}
use Rattle.mq_tree.specs.declared.request.Fault.{Fault}
use Rattle.mq_tree.specs.declared.request.Fault.TheVariants.{BadName, Links, NoSpace, TooBig}
use Rattle.mq_tree.specs.declared.request.Request.TheVariants.{Link}
use Rattle.mq_tree.proofs.FreeUses.{node-other}

-- ---- whether the first path names a file

abbrev adds_name : Geometry → (queue : ℕ) → Volume → (to : RequestTarget) → ℕ → List ℕ → ℕ → List ℕ → Verdict
adds_name g q v to d name i bytes = link_to g q v i to

link_file-on : (g : Geometry) (q : ℕ) (v : Volume) (to : RequestTarget) (d : ℕ) (name : List ℕ) (i : ℕ) (x : Body) → link_file g q v i to x ≡ on_body (adds_name g q v to) d name i x
link_file-on g q v to d name i Free = refl
link_file-on g q v to d name i (File bytes) = refl
link_file-on g q v to d name i (Dir slots) = refl

link-on : (g : Geometry) (q : ℕ) (v : Volume) (to t : RequestTarget) → link g q v to t ≡ on_file v (adds_name g q v to) t
link-on g q v to Root = refl
link-on g q v to (Lost fault) = refl
link-on g q v to (In d name None) = refl
link-on g q v to (In d name (Some i)) = link_file-on g q v to d name i (body v i)

pub link-refused : (g : Geometry) (q : ℕ) (v : Volume) (from to : Path) (fault : Fault) → RefusesFile v from fault → IsRefused g v (link g q v (target v (way to)) (target v (way from))) fault
link-refused g q v from to fault h = ap (λ (x : Verdict). carried_out g v x) (link-on g q v (target v (way to)) (target v (way from)) ∙ h (adds_name g q v (target v (way to))))

-- where it does, the second path decides
link-leads : (g : Geometry) (q : ℕ) (v : Volume) (from : Path) (to : RequestTarget) (f : Found) → IsFound v from f → link g q v to (target v (way from)) ≡ link_to g q v f.number to
link-leads g q v from to f h = ap (λ (t : RequestTarget). link g q v to t) h.target_is ∙ ap (λ (x : Body). link_file g q v f.number to x) h.file.is

-- ---- what is to be linked

-- the file, and the directory for its new name, as it was opened
pub record IsLinking (g : Geometry) (pages : Pages) (v : Volume) (from to : Path) (f : Found) (o : Opened) : Type 0 where
  pub sound : IsSound g v
  pub found : IsFound v from f
  pub new : IsNew v (way to) o.number
  pub good : list_all is_name from ≡ true
  pub good_to : list_all is_name to ≡ true
  pub opened : IsOpened g v o
  pub is : body v o.number ≡ Dir (slots_at pages o.blocks.items)

-- as both paths were walked
pub linking : (w : Working) (v : Volume) (from to : Path) (r : Result Found Fault) (f : Found) (t : Place) (o : Opened) (found free : Option ℕ) → Agrees w.geometry (pages_of w) v → r ≡ Ok f → MatchResult r (IsFound v from) (RefusesFile v from)
    → t ≡ PlacedIn o found free → found ≡ None → HoldsPlace w t → placed (way to) t ≡ target v (way to) → list_all is_name from ≡ true → list_all is_name to ≡ true → IsLinking w.geometry (pages_of w) v from to f o
linking w v from to r f t o found free agrees is h at none holds e good good_to =
    let d : HoldsDirectory w o = (held-place w t o found free at holds).directory in
    record {
      sound = agrees.sound;
      found = file-found v from r f is h;
      new = new-placed w.geometry v (way to) t o found free agrees.sound at none e;
      good = good;
      good_to = good_to;
      opened = d.opened v agrees;
      is = d.slots v agrees;
    }

link-low : (g : Geometry) (pages : Pages) (v : Volume) (from to : Path) (f : Found) (o : Opened) → IsLinking g pages v from to f o → f.number < inodes_of g
link-low g pages v from to f o m = under-low g v (way from) f.directory f.number m.sound (found-under g v from f m.sound m.found)

-- the directory is another inode
link-other : (g : Geometry) (pages : Pages) (v : Volume) (from to : Path) (f : Found) (o : Opened) → IsLinking g pages v from to f o → o.number ≢ f.number
link-other g pages v from to f o m same = file-other v o.number f.number m.found.file.bytes m.new.dir m.found.file.is (sym same)

links-are : (v : Volume) (from : Path) (f : Found) → IsFound v from f → f.inode.links ≡ (node v f.number).links
links-are v from f h = ap (λ (n : Inode). n.links) h.file.says

link-count : (g : Geometry) (pages : Pages) (v : Volume) (from to : Path) (f : Found) (o : Opened) → IsLinking g pages v from to f o → f.inode.links ≢ links_limit → MayCount g v f.number (f.inode.links + 1) f.inode
link-count g pages v from to f o m room = record {
  low = link-low g pages v from to f o m;
  says = m.found.file.says;
  bytes = m.found.file.bytes;
  is = m.found.file.is;
  size = fine.0;
  few = (omega arith, let e = links-are v from f m.found in let l = few in omega arith);
}
  where
    fine : IsBody (File m.found.file.bytes) (length (node v f.number).blocks)
    fine = subst (λ x. IsBody x (length (node v f.number).blocks)) m.found.file.is (m.sound.nodes f.number).body

    few : (node v f.number).links < 2 ^ 16
    few = (subst (λ (x : Body). HasLinks x (node v f.number).links) m.found.file.is (m.sound.nodes f.number).links).1

-- ---- what it comes to

abbrev made_name : Geometry → (queue : ℕ) → Volume → (to : Path) → Found → (d : ℕ) → Volume
made_name g q v to f d = linked g q (with_links v f.number (f.inode.links + 1)) d (record { inode = f.number; name = last_of (way to) })

names-are : (g : Geometry) (pages : Pages) (v : Volume) (from to : Path) (f : Found) (o : Opened) → IsLinking g pages v from to f o → count_names (slots_of (body v o.number)) ≡ count_names (slots_at pages o.blocks.items)
names-are g pages v from to f o m = ap (λ (x : Body). count_names (slots_of x)) m.is

link-is : (g : Geometry) (q : ℕ) (pages : Pages) (v : Volume) (from to : Path) (f : Found) (o : Opened) (full most : Bool) → IsLinking g pages v from to f o → nat_le names_limit (count_names (slots_at pages o.blocks.items)) ≡ full → nat_le links_limit f.inode.links ≡ most
    → link g q v (target v (way to)) (target v (way from)) ≡ cond full (refused TooBig) (cond most (refused Links) (Makes (link_needs (node v o.number)) (made_name g q v to f o.number)))
link-is g q pages v from to f o full most m e l =
    let d = o.number in
    let same = links-are v from f m.found in
    let made = Makes (link_needs (node v d)) (linked g q (with_links v f.number (suc (node v f.number).links)) d (record { inode = f.number; name = last_of (way to) })) in
    let more : suc (node v f.number).links ≡ f.inode.links + 1 = omega arith in
    link-leads g q v from (target v (way to)) f m.found ∙ ap (λ (t : RequestTarget). link_to g q v f.number t) m.new.target_is
    ∙ ap (λ (t : Bool). cond t (refused TooBig) (cond (nat_le links_limit (node v f.number).links) (refused Links) made)) (ap (λ (n : ℕ). nat_le names_limit n) (names-are g pages v from to f o m) ∙ e)
    ∙ ap (λ (t : Bool). cond full (refused TooBig) (cond t (refused Links) made)) (ap (λ (n : ℕ). nat_le links_limit n) (sym same) ∙ l)
    ∙ ap (λ (n : ℕ). cond full (refused TooBig) (cond most (refused Links) (Makes (link_needs (node v d)) (linked g q (with_links v f.number n) d (record { inode = f.number; name = last_of (way to) }))))) more

-- there is room in the directory and among the links
pub record HasRoom (pages : Pages) (f : Found) (o : Opened) : Type 0 where
  pub names : nat_le names_limit (count_names (slots_at pages o.blocks.items)) ≡ false
  pub links : f.inode.links ≢ links_limit

abbrev links_low : Found → Type 0
links_low f = f.inode.links < links_limit

few-links : (g : Geometry) (pages : Pages) (v : Volume) (from to : Path) (f : Found) (o : Opened) → IsLinking g pages v from to f o → HasRoom pages f o → links_low f
few-links g pages v from to f o m r = let c = (link-count g pages v from to f o m r.links).few in let l = c.1 in omega arith

link-makes : (g : Geometry) (q : ℕ) (pages : Pages) (v : Volume) (from to : Path) (f : Found) (o : Opened) → IsLinking g pages v from to f o → HasRoom pages f o → link g q v (target v (way to)) (target v (way from)) ≡ Makes (link_needs (node v o.number)) (made_name g q v to f o.number)
link-makes g q pages v from to f o m r = link-is g q pages v from to f o false false m r.names (lt-leb links_limit f.inode.links (few-links g pages v from to f o m r))

-- this is needed, and there is room
pub record IsReady (pages : Pages) (f : Found) (o : Opened) (need : ℕ) : Type 0 where
  pub room : HasRoom pages f o
  pub need_is : need ≡ entry_needs (length o.blocks.items) (unused 0 (slots_at pages o.blocks.items))

-- as it was asked
pub ready : (pages : Pages) (f : Found) (o : Opened) (blocks more : List ℕ) (full : Bool) (need : ℕ) → blocks ≡ o.blocks.items → full ≡ nat_le names_limit (count_names (slots_at pages blocks)) → full ≡ false → f.inode.links ≢ links_limit
    → more ≡ o.blocks.items → need ≡ entry_needs (length more) (unused 0 (slots_at pages more)) → IsReady pages f o need
ready pages f o blocks more full need same e room links also n = record {
  room = record { names = ap (λ (bs : List ℕ). nat_le names_limit (count_names (slots_at pages bs))) (sym same) ∙ sym e ∙ room; links = links };
  need_is = n ∙ ap (λ (bs : List ℕ). entry_needs (length bs) (unused 0 (slots_at pages bs))) also;
}

link-need : (g : Geometry) (pages : Pages) (v : Volume) (from to : Path) (f : Found) (o : Opened) (need : ℕ) → IsLinking g pages v from to f o → IsReady pages f o need → need ≡ link_needs (node v o.number)
link-need g pages v from to f o need m r = need-is g v o (slots_at pages o.blocks.items) need m.opened m.is r.need_is

pub link-few : (g : Geometry) (q : ℕ) (pages : Pages) (v : Volume) (from to : Path) (f : Found) (o : Opened) (need : ℕ) → IsLinking g pages v from to f o → IsReady pages f o need → free_blocks g v < need → IsRefused g v (link g q v (target v (way to)) (target v (way from))) NoSpace
link-few g q pages v from to f o need m r few =
    ap (λ (x : Verdict). carried_out g v x) (link-makes g q pages v from to f o m r.room) ∙ carried-few g v _ (made_name g q v to f o.number) (subst (λ (k : ℕ). free_blocks g v < k) (link-need g pages v from to f o need m r) few)

link-enough : (g : Geometry) (q : ℕ) (pages : Pages) (v : Volume) (from to : Path) (f : Found) (o : Opened) (need : ℕ) → IsLinking g pages v from to f o → IsReady pages f o need → need ≤ free_blocks g v → IsCarried g v (link g q v (target v (way to)) (target v (way from))) (made_name g q v to f o.number)
link-enough g q pages v from to f o need m r enough =
    ap (λ (x : Verdict). carried_out g v x) (link-makes g q pages v from to f o m r.room) ∙ carried-enough g v _ (made_name g q v to f o.number) (subst (λ (k : ℕ). k ≤ free_blocks g v) (link-need g pages v from to f o need m r) enough)

-- ---- the entry may be added, after the link was

link-here : (g : Geometry) (pages : Pages) (v : Volume) (from to : Path) (f : Found) (o : Opened) → IsLinking g pages v from to f o → HasRoom pages f o → node (with_links v f.number (f.inode.links + 1)) f.number ≡ recounted (node v f.number) (f.inode.links + 1)
link-here g pages v from to f o m r = recounted-here g v f.number (f.inode.links + 1) f.inode (sound-uses g v m.sound) m.sound.count (link-count g pages v from to f o m r.links)

link-taken : (g : Geometry) (pages : Pages) (v : Volume) (from to : Path) (f : Found) (o : Opened) → IsLinking g pages v from to f o → HasRoom pages f o → (x : ℕ) → is_taken (with_links v f.number (f.inode.links + 1)) x ≡ is_taken v x
link-taken g pages v from to f o m r x =
    sym (taken-same v (with_links v f.number (f.inode.links + 1)) f.number x (λ y other. node-other v f.number y (recounted (node v f.number) (f.inode.links + 1)) other) (ap (λ (n : Node). has_block n x) (sym (link-here g pages v from to f o m r))))

link-linked : (g : Geometry) (q : ℕ) (pages : Pages) (v : Volume) (from to : Path) (f : Found) (o : Opened) (need : ℕ) (picks : List ℕ) → q < queues_of g → IsLinking g pages v from to f o → IsReady pages f o need → ArePicked g q v need picks
    → MayLink g q (with_links v f.number (f.inode.links + 1)) o (record { inode = f.number; name = last_of (way to) }) picks
link-linked g q pages v from to f o need picks low m r picked =
    let slots = slots_at pages o.blocks.items in
    let few = leb-false names_limit (count_names slots) r.room.names in
    link-same g q v (with_links v f.number (f.inode.links + 1)) o _ picks (node-other v f.number o.number (recounted (node v f.number) (f.inode.links + 1)) (link-other g pages v from to f o m)) (link-taken g pages v from to f o m r.room)
    (may-link g q v o slots f.number (last_of (way to)) picks need m.sound low m.opened m.is few (link-low g pages v from to f o m) (new-form v to o.number m.good_to m.new) r.need_is picked)

-- ---- the request, and at what it looks

link-verdict : (g : Geometry) (q : ℕ) (v : Volume) (from to : Path) → list_all is_name from ≡ true → list_all is_name to ≡ true → verdict g q v (Link from to) ≡ link g q v (target v (way to)) (target v (way from))
link-verdict g q v from to good good_to = ap (λ (t : Bool). cond t (link g q v (target v (way to)) (target v (way from))) (refused BadName)) (and_from (list_all is_name from) (list_all is_name to) good good_to)

link-step : (g : Geometry) (q : ℕ) (v : Volume) (from to : Path) → list_all is_name from ≡ true → list_all is_name to ≡ true → step g q v (Link from to) ≡ carried_out g v (link g q v (target v (way to)) (target v (way from)))
unfolding step
link-step g q v from to good good_to = ap (λ (x : Verdict). carried_out g v x) (link-verdict g q v from to good good_to)

pub link-past_from : (g : Geometry) (q : ℕ) (v : Volume) (from to : Path) (b : ℕ) → LeadsPast g v (way from) b → LooksAt g q v (Link from to) b
link-past_from g q v from to b (inode i h at) = looks_inode i (inl h) at
link-past_from g q v from to b (directory i slots h is has) = looks_directory i slots (inl h) is has

pub link-past_to : (g : Geometry) (q : ℕ) (v : Volume) (from to : Path) (b : ℕ) → LeadsPast g v (way to) b → LooksAt g q v (Link from to) b
link-past_to g q v from to b (inode i h at) = looks_inode i (inr (inl h)) at
link-past_to g q v from to b (directory i slots h is has) = looks_directory i slots (inr (inl h)) is has

pub link-searched : (g : Geometry) (q : ℕ) (pages : Pages) (v : Volume) (from to : Path) (f : Found) (o : Opened) (need b : ℕ) → IsLinking g pages v from to f o → IsReady pages f o need → IsSearched g q v need b → LooksAt g q v (Link from to) b
link-searched g q pages v from to f o need b m r h =
    let is : needed (verdict g q v (Link from to)) ≡ need = ap needed (link-verdict g q v from to m.good m.good_to ∙ link-makes g q pages v from to f o m r.room) ∙ sym (link-need g pages v from to f o need m r) in
    searched h.zone h.inside (let few = h.few in omega arith) h.is

pub link-takes : (g : Geometry) (q : ℕ) (pages : Pages) (v : Volume) (from to : Path) (f : Found) (o : Opened) (need b : ℕ) (picks : List ℕ) → q < queues_of g → IsLinking g pages v from to f o → IsReady pages f o need → ArePicked g q v need picks → Contains picks b → LooksAt g q v (Link from to) b
link-takes g q pages v from to f o need b picks low m r picked among =
    let u = with_links v f.number (f.inode.links + 1) in
    let uses : AreUses g u = counted-uses g v f.number (f.inode.links + 1) f.inode (sound-uses g v m.sound) m.sound.count (link-count g pages v from to f o m r.room.links) in
    let within : o.number < length u = (let k = length-set v f.number (recounted (node v f.number) (f.inode.links + 1)) in let c = m.sound.count in let l = m.opened.low in omega arith) in
    let made = link-step g q v from to m.good m.good_to ∙ link-enough g q pages v from to f o need m r (picked-enough g q v need picks low picked) in
    let free = All-contains (IsFree g v) picks b (picks-all_free g q v need picks low picked) among in
    taken free.free (ap (λ (x : RequestOutcome). is_taken x.next b) made ∙ linked-takes g q u o _ picks b (link-linked g q pages v from to f o need picks low m r picked) uses within among)

-- ---- the plan

pub plans-link : (g : Geometry) (q : ℕ) (pages : Pages) (v : Volume) (from to : Path) (need : ℕ) (m : Linking) → q < queues_of g → IsLinking g pages v from to m.file m.directory → IsReady pages m.file m.directory need → ArePicked g q v need m.picks.items → PlansLink g q v from to m
plans-link g q pages v from to need m low h r picked = record {
  carried = link-enough g q pages v from to m.file m.directory need h r (picked-enough g q v need m.picks.items low picked);
  count = link-count g pages v from to m.file m.directory h r.room.links;
  link = link-linked g q pages v from to m.file m.directory need m.picks.items low h r picked;
  some = not-root (way to) h.new.target_is;
}
  where
    not-root : (w : Way) → target v w ≡ In m.directory.number (last_of w) None → (name : List ℕ) × (rest : List (List ℕ)) × (w ≡ name ∷ rest)
    not-root [] e = absurd (cc)
    not-root (name ∷ rest) e = (name, rest, refl)

pub holds-link : (w : Working) (q : ℕ) (v : Volume) (need : ℕ) (known : List ℕ) (m : Linking) → Agrees w.geometry (pages_of w) v → q < queues_of w.geometry → HoldsDirectory w m.directory → IsHeld (pages_of w) (inode_block w.geometry m.file.number)
    → ArePicked w.geometry q v need m.picks.items → All (IsMarkable w.geometry (pages_of w)) m.picks.items → known ≡ m.picks.items → All (λ b. pages_of w b ≢ None) known → HoldsLink w.geometry (pages_of w) m
holds-link w q v need known m agrees low h file picked marks is all = record {
  file = file;
  dirs = h.dirs;
  few = h.few;
  table = h.table;
  pointers = h.pointers;
  picks = takeables w.geometry q (pages_of w) v need m.picks.items agrees.fits low picked marks (subst (λ (bs : List ℕ). All (λ b. pages_of w b ≢ None) bs) is all);
}
