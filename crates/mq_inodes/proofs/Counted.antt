-- A file with another number of links.
use Rattle.std.proofs.Common.{◌≡◌, ◌≢◌, ℕ, ◌≤◌, [], ◌∷◌, length, true, refl, sym, ap, subst, ◌∙◌, arith, length-set}
use Rattle.std.specs.Prelude.{Some}
use Rattle.std.proofs.lemmas.Bool.{true≢false}
use Rattle.std.proofs.lemmas.Option.{none-some}
use Rattle.mq_blocks.proofs.JournalAmong.{among-here, among-one}
use Rattle.mq_blocks.specs.Geometry.{meta_of}
use Rattle.mq_blocks.specs.declared.geometry.Geometry.{Geometry}
use Rattle.mq_inodes.specs.Changes.{AreOthers, IsInodePut, Stepped}
use Rattle.mq_inodes.specs.Edits.{Becomes, Carries, KeepsKinds}
use Rattle.mq_inodes.specs.Opened.{MayCount}
use Rattle.mq_inodes.specs.Pages.{pages_of}
use Rattle.mq_inodes.specs.declared.working.Working.{Working}
use Rattle.mq_inodes.proofs.Changes.{body-shows, kept-rewrites, kept-uses}
use Rattle.mq_inodes.proofs.ChangesBodies.{inode-form}
use Rattle.mq_inodes.proofs.ChangesFits.{fits-put}
use Rattle.mq_inodes.proofs.ChangesPages.{table-put}
use Rattle.mq_inodes.proofs.ChangesSteps.{step-end, step-start}
use Rattle.mq_inodes.proofs.ChangesUses.{Rewrites, links-at}
use Rattle.mq_inodes.proofs.EditsBecoming.{becomes-stepped}
use Rattle.mq_layout.specs.Inodes.{IsInode}
use Rattle.mq_layout.specs.Places.{file_limit, inode_block, inode_place, inodes_of}
use Rattle.mq_layout.specs.declared.inode.Inode.{Inode}
use Rattle.mq_tree.specs.Laid.{inode_of, kind_of, size_of}
use Rattle.mq_tree.specs.Links.{HasLinks}
use Rattle.mq_tree.specs.Requests.{with_links}
use Rattle.mq_tree.specs.Volume.{Body, File, Node, Volume, body, is_used, node}
use Rattle.mq_tree.proofs.FreeUses.{node-here, node-other}
use Rattle.mq_tree.proofs.LaidRegions.{table-holds}
use Rattle.mq_tree.specs.Uses.{AreUses}

abbrev pub recounted : Node → ℕ → Node
recounted n links = record { body = n.body; blocks = n.blocks; indirect = n.indirect; links = links }

-- ---- what is written

abbrev pub relinked : Inode → ℕ → Inode
relinked inode links = record { kind = inode.kind; links = links; size = inode.size; direct = inode.direct; indirect = inode.indirect }

pub recounted-here : (g : Geometry) (v : Volume) (i links : ℕ) (inode : Inode) → AreUses g v → length v ≡ inodes_of g → MayCount g v i links inode → node (with_links v i links) i ≡ recounted (node v i) links
recounted-here g v i links inode uses count m = let l = m.low in node-here v i (recounted (node v i) links) (omega arith)

pub counted-uses : (g : Geometry) (v : Volume) (i links : ℕ) (inode : Inode) → AreUses g v → length v ≡ inodes_of g → MayCount g v i links inode → AreUses g (with_links v i links)
counted-uses g v i links inode uses count m =
    let here = recounted-here g v i links inode uses count m in
    kept-uses g v (with_links v i links) i uses (λ x other. node-other v i x (recounted (node v i) links) other) (ap (λ (n : Node). n.blocks) here) (ap (λ (n : Node). n.indirect) here)
    (links-at (with_links v i links) i (recounted (node v i) links) here (subst (λ (x : Body). HasLinks x links) (sym m.is) m.few))

counted-form : (g : Geometry) (v : Volume) (i links : ℕ) (inode : Inode) → AreUses g v → length v ≡ inodes_of g → MayCount g v i links inode → IsInode (inode_of (node (with_links v i links) i))
counted-form g v i links inode uses count m =
    let here = recounted-here g v i links inode uses count m in
    let is : body (with_links v i links) i ≡ File m.bytes = ap (λ (n : Node). n.body) here ∙ m.is in
    inode-form g (with_links v i links) i (counted-uses g v i links inode uses count m) (ap (λ (x : Body). is_used x) is) (subst (λ (x : Body). size_of x (length (node (with_links v i links) i).blocks) ≤ file_limit) (sym is) m.size)

pub counted-is : (g : Geometry) (v : Volume) (i links : ℕ) (inode : Inode) → AreUses g v → length v ≡ inodes_of g → MayCount g v i links inode → relinked inode links ≡ inode_of (node (with_links v i links) i)
counted-is g v i links inode uses count m = ap (λ (x : Inode). relinked x links) m.says ∙ sym (ap inode_of (recounted-here g v i links inode uses count m))

pub relinked-form : (g : Geometry) (v : Volume) (i links : ℕ) (inode : Inode) → AreUses g v → length v ≡ inodes_of g → MayCount g v i links inode → IsInode (relinked inode links)
relinked-form g v i links inode uses count m = subst (λ (x : Inode). IsInode x) (sym (counted-is g v i links inode uses count m)) (counted-form g v i links inode uses count m)

-- ---- the step

pub links-counted : (g : Geometry) (v : Volume) (i links : ℕ) (inode : Inode) (old new : Working) → Carries g (pages_of old) v → MayCount g v i links inode → old.geometry ≡ g → KeepsKinds old new → IsInodePut g (pages_of old) (pages_of new) i (relinked inode links) → Becomes g v (with_links v i links) old new
links-counted g v i links inode old new c m at kinds put =
    becomes-stepped g v w old new (b ∷ []) c fine (length-set v i (recounted (node v i) links)) step
    (λ x y none. none-some _ (sym none ∙ ap (λ (z : ℕ). pages_of old z) (among-one b x y) ∙ p.was))
    (λ x high out. kinds x (subst (λ (h : Geometry). meta_of h ≤ x) (sym at) high))
    (λ x kind high y e. absurd (let same = among-one b x y in let t = table-holds g i m.low in omega arith))
  where
    b : ℕ
    b = inode_block g i

    w : Volume
    w = with_links v i links

    here : node w i ≡ recounted (node v i) links
    here = recounted-here g v i links inode c.uses c.count m

    o : AreOthers v w i
    o = λ x other. node-other v i x (recounted (node v i) links) other

    bd : body w i ≡ body v i
    bd = ap (λ (n : Node). n.body) here

    fine : AreUses g w
    fine = counted-uses g v i links inode c.uses c.count m

    p : IsInodePut g (pages_of old) (pages_of new) i (inode_of (node w i))
    p = subst (λ (x : Inode). IsInodePut g (pages_of old) (pages_of new) i x) (counted-is g v i links inode c.uses c.count m) put

    r : Rewrites g v w i (b ∷ [])
    r = kept-rewrites g v w i (b ∷ []) o (ap (λ (n : Node). n.blocks) here) (ap (λ (n : Node). n.indirect) here) (ap kind_of (sym bd)) (λ out. absurd (true≢false (sym (among-here b []) ∙ out))) (λ k x out e page. body-shows (body v i) (body w i) k page (sym bd))

    step : Stepped g v w (pages_of new) (b ∷ [])
    step =
        let now = table-put g v w i (inode_place i) p.before p.after m.low o (c.fits.held b p.before p.was) p.form refl (counted-form g v i links inode c.uses c.count m) p.is in
        step-end g v w i (b ∷ []) (pages_of new) c.uses fine r (fits-put g (pages_of old) (pages_of new) w [] b (Some p.after) (step-start g v w i (b ∷ []) (pages_of old) c.uses fine r c.fits) p.put now)
