-- An inode that is made or freed, and a file that is cut.
use Rattle.std.proofs.Common.{set, ◌≡◌, ◌≢◌, ℕ, ◌*◌, ◌<◌, ◌⊎◌, inl, inr, List, [], ◌∷◌, length, Bool, true, false, refl, sym, ap, subst, ◌∙◌, arith}
use Rattle.std.specs.Prelude.{Some, None, slice_get}
use Rattle.std.proofs.lemmas.Bool.{true≢false}
use Rattle.std.proofs.lemmas.Option.{none-some}
use Rattle.mq_blocks.proofs.JournalAmong.{among-behind, among-here}
use Rattle.mq_blocks.specs.Geometry.{queues_of}
use Rattle.mq_blocks.specs.Journal.{is_among}
use Rattle.mq_blocks.specs.Windows.{written}
use Rattle.mq_blocks.specs.declared.geometry.Geometry.{Geometry}
use Rattle.mq_inodes.specs.Changes.{AreOthers, FitsAt, IsCleared, IsInodeMarked, IsInodePut, IsInodeTurned, IsMarkTurned, Stepped, zone_in}
use Rattle.mq_inodes.specs.Fits.{Fits}
use Rattle.mq_inodes.specs.Pages.{Pages}
use Rattle.mq_inodes.proofs.Changes.{bare-rewrites, fewer-rewrites}
use Rattle.mq_inodes.proofs.ChangesFits.{fits-put}
use Rattle.mq_inodes.proofs.ChangesPages.{inode_marks-one, table-put}
use Rattle.mq_inodes.proofs.ChangesSteps.{gone-vacant, marks-gone, put-before, step-end, step-over, step-start}
use Rattle.mq_inodes.proofs.ChangesUses.{Rewrites, uses-fewer, links-at, used-links}
use Rattle.mq_layout.specs.Empty.{free_inode}
use Rattle.mq_layout.specs.Inodes.{IsInode, ShowsInode, inode_bytes}
use Rattle.mq_layout.specs.Places.{inode_bitmap, inode_block, inode_place, inodes_of, zone_bitmap}
use Rattle.mq_layout.proofs.EmptyLaws.{zeros-free}
use Rattle.mq_tree.specs.Laid.{inode_of}
use Rattle.mq_tree.specs.Requests.{freed}
use Rattle.mq_tree.specs.Volume.{Body, Node, Volume, body, free_node, has_block, is_used, node}
use Rattle.mq_tree.proofs.FreeUses.{node-here, node-other}
use Rattle.mq_tree.specs.Uses.{AreUses}
use Rattle.mq_tree.proofs.LaidUses.{use-has}
use Rattle.mq_tree.proofs.Empty.{free-inode}

-- ---- an inode without blocks

abbrev pub bare : Body → Node
bare y = record { body = y; blocks = []; indirect = None; links = 1 }

marks-apart : (g : Geometry) (i : ℕ) → inode_bitmap g ≢ inode_block g i
marks-apart g i e = omega arith

-- it is marked as used or as free, and written
pub bare-step : (g : Geometry) (v : Volume) (i : ℕ) (y : Body) (old mid new : Pages) → AreUses g v → i < length v → i < inodes_of g → (node v i).blocks ≡ [] → (node v i).indirect ≡ None → is_used y ≡ true → IsInode (inode_of (bare y))
    → Fits g old v → IsInodeMarked g old mid i (is_used y) → IsInodePut g mid new i (inode_of (bare y)) → Stepped g v (set v i (bare y)) new (inode_bitmap g ∷ inode_block g i ∷ [])
bare-step g v i y old mid new uses low inside was none used good fits m p =
    let w = set v i (bare y) in
    let here : node w i ≡ bare y = node-here v i (bare y) low in
    let o : AreOthers v w i = λ x other. node-other v i x (bare y) other in
    let bs : (node w i).blocks ≡ [] = ap (λ (n : Node). n.blocks) here in
    let ind : (node w i).indirect ≡ None = ap (λ (n : Node). n.indirect) here in
    let fine : AreUses g w = uses-fewer g v w i uses o (λ k c e. absurd (none-some c (ap (λ (xs : List ℕ). slice_get xs k) (sym bs) ∙ e))) (λ c e. absurd (none-some c (sym ind ∙ e))) (links-at w i (bare y) here (used-links y used)) in
    let a = inode_bitmap g in
    let b = inode_block g i in
    let r : Rewrites g v w i (a ∷ b ∷ []) = bare-rewrites g v w i (a ∷ b ∷ []) o was bs none ind (λ out. absurd (true≢false (sym (among-here a (b ∷ [])) ∙ out))) (λ out. absurd (true≢false (sym (among-behind a b (b ∷ []) (among-here b [])) ∙ out))) in
    let marks = inode_marks-one g v w i (is_used y) m.before m.after o (ap (λ (n : Node). is_used n.body) here) (fits.held a m.before m.was) m.form m.bit m.rest in
    let before = put-before old mid a b (Some m.after) (Some (Some p.before)) m.put (λ e. marks-apart g i (sym e)) p.was in
    let inode = table-put g v w i (inode_place i) p.before p.after inside o (fits.held b p.before before) p.form refl (subst (λ (n : Node). IsInode (inode_of n)) (sym here) good) (p.is ∙ ap (λ (n : Node). written p.before (128 * inode_place i) (inode_bytes (inode_of n))) (sym here)) in
    step-end g v w i (a ∷ b ∷ []) new uses fine r
    (fits-put g mid new w [] b (Some p.after) (fits-put g old mid w (b ∷ []) a (Some m.after) (step-start g v w i (a ∷ b ∷ []) old uses fine r fits) m.put marks) p.put inode)

-- ---- pages that fit where blocks are gone

pub fits-inode : (g : Geometry) (v w : Volume) (i : ℕ) (old new : Pages) → i < inodes_of g → AreOthers v w i → Fits g old v → IsInode (inode_of (node w i)) → IsInodeTurned g old new i (inode_of (node w i)) → FitsAt g (new (inode_block g i)) w (inode_block g i)
fits-inode g v w i old new low o fits good t =
    subst (λ x. FitsAt g x w (inode_block g i)) (sym t.turns.now) (table-put g v w i (inode_place i) t.before t.after low o (fits.held (inode_block g i) t.before t.turns.was) t.turns.form refl good t.is)

fits-used : (g : Geometry) (v w : Volume) (i : ℕ) (old new : Pages) → AreOthers v w i → Fits g old v → IsMarkTurned g old new i (is_used (body w i)) → FitsAt g (new (inode_bitmap g)) w (inode_bitmap g)
fits-used g v w i old new o fits t =
    subst (λ x. FitsAt g x w (inode_bitmap g)) (sym t.turns.now) (inode_marks-one g v w i (is_used (body w i)) t.before t.after o refl (fits.held (inode_bitmap g) t.before t.turns.was) t.turns.form t.bit t.rest)

pub fits-gone : (g : Geometry) (v w : Volume) (i b : ℕ) (new : Pages) → AreUses g v → AreOthers v w i → has_block (node v i) b ≡ true → has_block (node w i) b ≡ false → new b ≡ Some None → FitsAt g (new b) w b
fits-gone g v w i b new uses o had has free = subst (λ x. FitsAt g x w b) (sym free) (gone-vacant g v w i b uses o had has)

pub fits-cleared : (g : Geometry) (v w : Volume) (i zone : ℕ) (gone : ℕ → Bool) (old new : Pages) → AreUses g v → AreOthers v w i → zone < queues_of g
    → ((b : ℕ) → gone b ≡ true → (has_block (node v i) b ≡ true) × (has_block (node w i) b ≡ false)) → ((b : ℕ) → gone b ≡ false → has_block (node v i) b ≡ has_block (node w i) b)
    → Fits g old v → IsCleared g old new zone gone → FitsAt g (new (zone_bitmap zone)) w (zone_bitmap zone)
fits-cleared g v w i zone gone old new uses o low lost left fits t =
    subst (λ x. FitsAt g x w (zone_bitmap zone)) (sym t.turns.now) (marks-gone g v w i zone gone t.before t.after uses o low lost left (fits.held (zone_bitmap zone) t.before t.turns.was) t.turns.form t.clear t.rest)

-- ---- an inode is freed

-- the blocks that change where it is
pub record AreFreed (g : Geometry) (v : Volume) (i : ℕ) (blocks : List ℕ) : Type 0 where
  pub inode : is_among (inode_block g i) blocks ≡ true
  pub used : is_among (inode_bitmap g) blocks ≡ true
  pub own : (c : ℕ) → has_block (node v i) c ≡ true → (is_among c blocks ≡ true) × (is_among (zone_bitmap (zone_in g c)) blocks ≡ true)
  pub only : (c : ℕ) → is_among c blocks ≡ true → (c ≡ inode_block g i) ⊎ ((c ≡ inode_bitmap g) ⊎ ((has_block (node v i) c ≡ true) ⊎ ((zone : ℕ) × (zone < queues_of g) × (c ≡ zone_bitmap zone))))

free-form : IsInode free_inode
free-form = let s : ShowsInode _ 0 free_inode = zeros-free 0 (omega arith) in s.0

-- It is cleared in the table and in the bitmap, and its blocks are free and cleared in the bitmaps of
-- their zones.
pub freed-step : (g : Geometry) (v : Volume) (i : ℕ) (blocks : List ℕ) (old new : Pages) → AreUses g v → i < length v → i < inodes_of g → AreFreed g v i blocks → Fits g old v
    → ((x : ℕ) → is_among x blocks ≡ false → new x ≡ old x) → IsInodeTurned g old new i free_inode → IsMarkTurned g old new i false → ((c : ℕ) → has_block (node v i) c ≡ true → new c ≡ Some None)
    → ((zone : ℕ) → zone < queues_of g → is_among (zone_bitmap zone) blocks ≡ true → IsCleared g old new zone (has_block (node v i))) → Stepped g v (freed v i) new blocks
freed-step g v i blocks old new uses low inside listed fits rest inode used gone zones = step-over g v w i blocks old new uses fine r fits rest put
  where
    w : Volume
    w = freed v i

    here : node w i ≡ free_node
    here = node-here v i free_node low

    o : AreOthers v w i
    o = λ x other. node-other v i x free_node other

    bs : (node w i).blocks ≡ []
    bs = ap (λ (n : Node). n.blocks) here

    ind : (node w i).indirect ≡ None
    ind = ap (λ (n : Node). n.indirect) here

    none : (c : ℕ) → has_block (node w i) c ≡ false
    none c = ap (λ (n : Node). has_block n c) here

    parts : (k c : ℕ) → slice_get (node w i).blocks k ≡ Some c → slice_get (node v i).blocks k ≡ Some c
    parts k c e = absurd (none-some c (ap (λ (xs : List ℕ). slice_get xs k) (sym bs) ∙ e))

    pointers : (c : ℕ) → (node w i).indirect ≡ Some c → (node v i).indirect ≡ Some c
    pointers c e = absurd (none-some c (sym ind ∙ e))

    fine : AreUses g w
    fine = uses-fewer g v w i uses o parts pointers (links-at w i free_node here refl)

    out-own : (k c : ℕ) → slice_get (node v i).blocks k ≡ Some c → is_among c blocks ≡ false → ⊥
    out-own k c e out = true≢false (sym (listed.own c (use-has (node v i) c (inl (k, e)))).0 ∙ out)

    r : Rewrites g v w i blocks
    r = fewer-rewrites g v w i blocks o parts pointers (λ k c e out. absurd (out-own k c e out)) (λ c e. (listed.own c (use-has (node v i) c (inr e))).0) (λ c had has. (listed.own c had).1)
        (λ k c out e. absurd (out-own k c e out)) (λ out. absurd (true≢false (sym listed.used ∙ out))) listed.inode (λ k c out e. absurd (out-own k c e out))

    put : (x : ℕ) → is_among x blocks ≡ true → FitsAt g (new x) w x
    put x y = elim (listed.only x y) [
      | inl e ↦
          let same : inode_of (node w i) ≡ free_inode = ap inode_of here ∙ free-inode in
          let good : IsInode (inode_of (node w i)) = subst (λ n. IsInode n) (sym same) free-form in
          let at = fits-inode g v w i old new inside o fits good (subst (λ n. IsInodeTurned g old new i n) (sym same) inode) in
          subst (λ b. FitsAt g (new b) w b) (sym e) at
      | inr (inl e) ↦
          let at = fits-used g v w i old new o fits (subst (λ t. IsMarkTurned g old new i t) (sym (ap (λ (n : Node). is_used n.body) here)) used) in
          subst (λ b. FitsAt g (new b) w b) (sym e) at
      | inr (inr (inl had)) ↦ fits-gone g v w i x new uses o had (none x) (gone x had)
      | inr (inr (inr z)) ↦
          let among : is_among (zone_bitmap z.0) blocks ≡ true = ap (λ (b : ℕ). is_among b blocks) (sym z.2) ∙ y in
          let at = fits-cleared g v w i z.0 (has_block (node v i)) old new uses o z.1 (λ b t. (t, none b)) (λ b f. f ∙ sym (none b)) fits (zones z.0 z.1 among) in
          subst (λ b. FitsAt g (new b) w b) (sym z.2) at
    ]
