-- A file's rewriting, page by page, for one of the volumes.
use Rattle.mq_tree.specs.Links.{HasLinks}
use Rattle.std.proofs.Common.{get_or, ◌≡◌, ℕ, ◌+◌, ◌-◌, ◌/◌, ◌<◌, ◌≤◌, inl, inr, List, length, sym, ap, subst, ◌∙◌, arith}
use Rattle.std.specs.Prelude.{Option, Some, None, slice_get}
use Rattle.std.proofs.lemmas.Bool.{true≢false}
use Rattle.std.proofs.lemmas.Option.{same_Some, slice_get-get_or, slice_get_within}
use Rattle.mq_blocks.specs.declared.geometry.Geometry.{Geometry}
use Rattle.mq_exec.specs.Overwrites.{AreApart, IsOverwritten, IsSplicedAt, past_place}
use Rattle.mq_exec.specs.Plans.{HoldsPlaces, PlansRewrite}
use Rattle.mq_exec.specs.declared.rewrite.Rewriting.{Rewriting}
use Rattle.mq_exec.proofs.OverwritesRegrown.{IsRegrown, blocks-apart, regrown, sized-inode}
use Rattle.mq_exec.proofs.OverwritesRewriting.{past-of, rewrite-becomes}
use Rattle.mq_inodes.specs.Changes.{IsInodePut}
use Rattle.mq_inodes.specs.Edits.{Becomes, Carries, IsOver, KeepsKinds}
use Rattle.mq_inodes.specs.Fits.{Agrees}
use Rattle.mq_inodes.specs.Opened.{MayGrow}
use Rattle.mq_inodes.specs.Pages.{IsHeld, content, pages_of}
use Rattle.mq_inodes.specs.declared.opened.Opened.{Opened}
use Rattle.mq_inodes.specs.declared.working.Working.{Working}
use Rattle.mq_inodes.proofs.EditsBecoming.{becomes-then, carries-sound}
use Rattle.mq_inodes.proofs.PagesHeld.{meta-held, table-low, used-held}
use Rattle.mq_inodes.proofs.OpenedLinkedGrown.{Grows}
use Rattle.mq_inodes.proofs.ChangesBodies.{inode-form, rebodied}
use Rattle.mq_inodes.proofs.ChangesVolumes.{with_body-uses}
use Rattle.mq_inodes.proofs.PagesUnchanged.{inode-stays}
use Rattle.mq_layout.specs.Inodes.{IsInode}
use Rattle.mq_layout.specs.Places.{file_limit, inode_block}
use Rattle.mq_layout.specs.declared.inode.Inode.{Inode}
use Rattle.mq_tree.specs.Laid.{inode_of, size_of}
use Rattle.mq_tree.specs.Requests.{Verdict, resized, with_body}
use Rattle.mq_tree.specs.Sound.{blocks_for}
use Rattle.mq_tree.specs.Volume.{Body, File, Node, Part, Volume, is_used, node}
use Rattle.mq_tree.proofs.FreeUses.{node-here}
use Rattle.mq_tree.proofs.LaidUses.{use-taken}

pub regrown-of : (g : Geometry) (q : ℕ) (v : Volume) (verdict : Verdict) (rewritten : List ℕ → List ℕ) (m : Rewriting) (old mid : Working) (after : Opened) (picks : List ℕ) → picks ≡ m.picks.items → Agrees g (pages_of old) v → (plan : PlansRewrite g q v verdict rewritten m)
    → Grows g picks old mid m.file after → IsRegrown g q v m plan.bytes old mid after
regrown-of g q v verdict rewritten m old mid after picks e agrees plan grows =
    let c = carries-sound g (pages_of old) v agrees in
    let count = blocks_for m.size - blocks_for (length plan.bytes) in
    regrown g q v verdict rewritten m old mid after c plan (grows q v count c (subst (λ (xs : List ℕ). MayGrow g q v m.file xs count) (sym e) plan.grow))

-- ---- before the bytes are written

-- each place that is written has a block
pub mid-inside : (g : Geometry) (q : ℕ) (v : Volume) (m : Rewriting) (bytes : List ℕ) (old mid : Working) (after : Opened) (at count : ℕ) → IsRegrown g q v m bytes old mid after → (1 ≤ count → at + count ≤ m.size)
    → (place : ℕ) → at / 4096 ≤ place → place < past_place at count → place < length after.blocks.items
mid-inside g q v m bytes old mid after at count r fits place low high =
    let p = past-of at count place low high in
    let f = fits p.0 in
    let l = p.1 in
    let n : length after.blocks.items ≡ blocks_for m.size = ap length r.blocks ∙ r.count in
    omega arith

-- the block at a place, in the volume with the blocks
there : (u : Volume) (i : ℕ) (blocks : List ℕ) (place : ℕ) → blocks ≡ (node u i).blocks → place < length blocks → slice_get (node u i).blocks place ≡ Some (get_or blocks place 0)
there u i blocks place e l = ap (λ (xs : List ℕ). slice_get xs place) (sym e) ∙ slice_get-get_or blocks place 0 l

-- A block that was known is held. The blocks that were taken were known too, since what isn't known is the
-- same in both volumes.
pub mid-held : (g : Geometry) (q : ℕ) (v : Volume) (m : Rewriting) (bytes : List ℕ) (old mid : Working) (after : Opened) (at count : ℕ) → IsRegrown g q v m bytes old mid after → Carries g (pages_of old) v → m.file.blocks.items ≡ (node v m.file.number).blocks → IsOver old mid
    → HoldsPlaces (pages_of old) m.file.blocks.items (at / 4096) (past_place at count) → HoldsPlaces (pages_of mid) after.blocks.items (at / 4096) (past_place at count)
mid-held g q v m bytes old mid after at count r c were over held place low high inside =
    let b = get_or after.blocks.items place 0 in
    let e = there r.u m.file.number after.blocks.items place r.blocks inside in
    used-held g (pages_of mid) r.u (Part m.file.number place) b r.becomes.carries e (λ none. unknown place low high b e (over.known b none))
  where
    none-held : {x : Option (List ℕ)} → None ≡ Some x → ⊥
    none-held e = absurd (cc)

    unknown : (place : ℕ) → at / 4096 ≤ place → place < past_place at count → (b : ℕ) → slice_get (node r.u m.file.number).blocks place ≡ Some b → pages_of old b ≡ None → ⊥
    unknown place low high b e none = elim (r.fresh (Part m.file.number place) b e) [
      | inl before ↦
          let f : slice_get m.file.blocks.items place ≡ Some b = ap (λ (xs : List ℕ). slice_get xs place) were ∙ before in
          let inside = slice_get_within m.file.blocks.items place b f in
          let same : get_or m.file.blocks.items place 0 ≡ b = same_Some _ _ (sym (slice_get-get_or m.file.blocks.items place 0 inside) ∙ f) in
          none-held (sym none ∙ ap (pages_of old) (sym same) ∙ held place low high inside)
      | inr free ↦
          let vacant = (r.becomes.same b none).vacant.0 ((r.becomes.carries.uses.zones (Part m.file.number place) b e).0, free) in
          true≢false (sym (use-taken r.u (Part m.file.number place) b e) ∙ vacant.1)
    ]

pub mid-apart : (g : Geometry) (q : ℕ) (v : Volume) (m : Rewriting) (bytes : List ℕ) (old mid : Working) (after : Opened) → IsRegrown g q v m bytes old mid after → AreApart after.blocks.items
mid-apart g q v m bytes old mid after r = subst (λ (xs : List ℕ). AreApart xs) (sym r.blocks) (blocks-apart g (pages_of mid) r.u m.file.number r.becomes.carries)

-- ---- the inode that is written

-- the block of the inode is no block of the file
mid-there : (g : Geometry) (q : ℕ) (v : Volume) (m : Rewriting) (bytes : List ℕ) (at : ℕ) (text : List ℕ) (old mid wrote : Working) (after : Opened) → IsRegrown g q v m bytes old mid after → IsOver old mid → IsHeld (pages_of old) (inode_block g m.file.number)
    → ((place : ℕ) → at / 4096 ≤ place → place < past_place at (length text) → place < length after.blocks.items) → IsOverwritten mid wrote after.blocks.items at text (past_place at (length text))
    → IsHeld (pages_of mid) (inode_block g m.file.number) × (pages_of wrote (inode_block g m.file.number) ≡ pages_of mid (inode_block g m.file.number))
mid-there g q v m bytes at text old mid wrote after r over held past parts =
    let b = inode_block g m.file.number in
    let low = table-low g m.file.number r.low in
    let there_mid = meta-held g (pages_of mid) r.u b r.becomes.carries.fits low (λ none. none-held (sym (over.known b none) ∙ held)) in
    let rest : pages_of wrote b ≡ pages_of mid b = parts.rest b (λ place first high e.
    let z = (r.becomes.carries.uses.zones (Part m.file.number place) (get_or after.blocks.items place 0) (there r.u m.file.number after.blocks.items place r.blocks (past place first high))).0 in
    omega arith) in
    (there_mid, rest)
  where
    none-held : {x : Option (List ℕ)} → None ≡ Some x → ⊥
    none-held e = absurd (cc)

pub mid-table : (g : Geometry) (q : ℕ) (v : Volume) (m : Rewriting) (bytes : List ℕ) (at : ℕ) (text : List ℕ) (old mid wrote : Working) (after : Opened) → IsRegrown g q v m bytes old mid after → IsOver old mid → wrote.geometry ≡ g → IsHeld (pages_of old) (inode_block g m.file.number)
    → ((place : ℕ) → at / 4096 ≤ place → place < past_place at (length text) → place < length after.blocks.items) → IsOverwritten mid wrote after.blocks.items at text (past_place at (length text)) → IsHeld (pages_of wrote) (inode_block wrote.geometry after.number)
mid-table g q v m bytes at text old mid wrote after r over same held past parts =
    let b = inode_block g m.file.number in
    let t = mid-there g q v m bytes at text old mid wrote after r over held past parts in
    let here : IsHeld (pages_of wrote) b = subst (λ o. o ≡ Some (Some (content o))) (sym t.1) t.0 in
    subst (λ (x : Geometry). IsHeld (pages_of wrote) (inode_block x after.number)) (sym same) (subst (λ k. IsHeld (pages_of wrote) (inode_block g k)) (sym r.number) here)

-- The inode of a file that keeps its size says what it said, as if it were put.
pub mid-stays : (g : Geometry) (q : ℕ) (v : Volume) (m : Rewriting) (bytes : List ℕ) (at : ℕ) (text : List ℕ) (old mid wrote : Working) (after : Opened) → IsRegrown g q v m bytes old mid after → IsOver old mid → IsHeld (pages_of old) (inode_block g m.file.number)
    → ((place : ℕ) → at / 4096 ≤ place → place < past_place at (length text) → place < length after.blocks.items) → IsOverwritten mid wrote after.blocks.items at text (past_place at (length text)) → after.inode.size ≡ m.size
    → IsInodePut g (pages_of wrote) (pages_of wrote) after.number (record { kind = after.inode.kind; links = after.inode.links; size = m.size; direct = after.inode.direct; indirect = after.inode.indirect })
mid-stays g q v m bytes at text old mid wrote after r over held past parts size =
    let i = m.file.number in
    let t = mid-there g q v m bytes at text old mid wrote after r over held past parts in
    let stays : IsInodePut g (pages_of wrote) (pages_of wrote) i (inode_of (node r.u i)) = inode-stays g (pages_of mid) (pages_of wrote) r.u i r.becomes.carries r.low t.0 t.1 in
    let says : IsInodePut g (pages_of wrote) (pages_of wrote) after.number after.inode = subst (λ k. IsInodePut g (pages_of wrote) (pages_of wrote) k after.inode) (sym r.number) (subst (λ (x : Inode). IsInodePut g (pages_of wrote) (pages_of wrote) i x) (sym r.inode) stays) in
    subst (λ s. IsInodePut g (pages_of wrote) (pages_of wrote) after.number (record { kind = after.inode.kind; links = after.inode.links; size = s; direct = after.inode.direct; indirect = after.inode.indirect })) size says

mid-inode : (g : Geometry) (q : ℕ) (v : Volume) (m : Rewriting) (bytes now : List ℕ) (old mid : Working) (after : Opened) → (r : IsRegrown g q v m bytes old mid after) → length now ≡ m.size
    → record { kind = after.inode.kind; links = after.inode.links; size = m.size; direct = after.inode.direct; indirect = after.inode.indirect } ≡ inode_of (rebodied (node r.u m.file.number) (File now))
mid-inode g q v m bytes now old mid after r e = sized-inode (node r.u m.file.number) after.inode bytes now m.size r.inode r.is (sym e)

pub mid-form : (g : Geometry) (q : ℕ) (v : Volume) (m : Rewriting) (bytes now : List ℕ) (old mid : Working) (after : Opened) → (r : IsRegrown g q v m bytes old mid after) → length now ≡ m.size → m.size ≤ file_limit
    → IsInode (record { kind = after.inode.kind; links = after.inode.links; size = m.size; direct = after.inode.direct; indirect = after.inode.indirect })
mid-form g q v m bytes now old mid after r e few =
    let i = m.file.number in
    let low : i < length r.u = (let c = r.becomes.carries.count in let l = r.low in omega arith) in
    let w = with_body r.u i (File now) in
    let here = node-here r.u i (rebodied (node r.u i) (File now)) low in
    let size : size_of (File now) (length (node r.u i).blocks) ≤ file_limit = (let f = few in omega arith) in
    let form = inode-form g w i (with_body-uses g r.u i (File now) r.becomes.carries.uses low (subst (λ (x : Body). HasLinks x (node r.u i).links) r.is (r.becomes.carries.uses.links i))) (ap (λ (n : Node). is_used n.body) here) (subst (λ (n : Node). size_of n.body (length n.blocks) ≤ file_limit) (sym here) size) in
    subst (λ (x : Inode). IsInode x) (ap inode_of here ∙ sym (mid-inode g q v m bytes now old mid after r e)) form

-- ---- all of it

pub record IsCarriedOut (g : Geometry) (q : ℕ) (v : Volume) (m : Rewriting) (at : ℕ) (text bytes now : List ℕ) (old mid wrote new : Working) (after : Opened) : Type 0 where
  pub regrown : IsRegrown g q v m bytes old mid after
  pub over : IsOver old mid
  pub size : length now ≡ m.size
  pub few : m.size ≤ file_limit
  pub past : (place : ℕ) → at / 4096 ≤ place → place < past_place at (length text) → place < length after.blocks.items
  pub spliced : IsSplicedAt at text bytes now
  pub parts : IsOverwritten mid wrote after.blocks.items at text (past_place at (length text))
  pub inode : IsInodePut g (pages_of wrote) (pages_of new) after.number (record { kind = after.inode.kind; links = after.inode.links; size = m.size; direct = after.inode.direct; indirect = after.inode.indirect })
  pub kinds : KeepsKinds wrote new
  pub geometry : wrote.geometry ≡ g

pub mid-becomes : (g : Geometry) (q : ℕ) (v : Volume) (m : Rewriting) (at : ℕ) (text bytes now : List ℕ) (old mid wrote new : Working) (after : Opened) → IsCarriedOut g q v m at text bytes now old mid wrote new after → Becomes g v (resized g q v m.file.number now) old new
mid-becomes g q v m at text bytes now old mid wrote new after h =
    let r = h.regrown in
    let i = m.file.number in
    let put : IsInodePut g (pages_of wrote) (pages_of new) i (inode_of (rebodied (node r.u i) (File now))) =
    subst (λ (x : Inode). IsInodePut g (pages_of wrote) (pages_of new) i x) (mid-inode g q v m bytes now old mid after r h.size) (subst (λ k. IsInodePut g (pages_of wrote) (pages_of new) k (record { kind = after.inode.kind; links = after.inode.links; size = m.size; direct = after.inode.direct; indirect = after.inode.indirect })) r.number h.inode) in
    let few : length now ≤ file_limit = (let s = h.size in let f = h.few in omega arith) in
    let then = rewrite-becomes g r.u i at text bytes now mid wrote new (record {
      carries = r.becomes.carries;
      low = r.low;
      is = r.is;
      few = few;
      past = subst (λ (xs : List ℕ). (place : ℕ) → at / 4096 ≤ place → place < past_place at (length text) → place < length xs) r.blocks h.past;
      spliced = h.spliced;
      parts = subst (λ (xs : List ℕ). IsOverwritten mid wrote xs at text (past_place at (length text))) r.blocks h.parts;
      inode = put;
      kinds = h.kinds;
      geometry = h.geometry;
    }) in
    subst (λ w. Becomes g v w old new) (sym (r.resized_is now h.size)) (becomes-then g v r.u (with_body r.u i (File now)) old mid new h.over r.becomes then)
