-- A free block is taken for an inode: for its next part, or for its pointers.
use Rattle.std.proofs.Common.{get_or, ◌≡◌, ◌≢◌, ℕ, zero, suc, ◌+◌, ◌-◌, ◌*◌, ◌<◌, ◌≤◌, List, [], ◌∷◌, ◌++◌, length, Bool, true, false, refl, sym, ap, subst, ◌∙◌, arith}
use Rattle.std.specs.Int.{to_le_bytes, w32}
use Rattle.std.specs.Prelude.{Option, Some, None, ◌||◌, slice_get}
use Rattle.std.proofs.lemmas.Bool.{ne_eqb, true≢false}
use Rattle.std.proofs.lemmas.List.{get_or_at, get_or_past, length-append}
use Rattle.std.proofs.lemmas.Option.{same_Some}
use Rattle.mq_blocks.proofs.JournalAmong.{among-behind, among-here, among-push}
use Rattle.mq_blocks.specs.Blocks.{zeros}
use Rattle.mq_blocks.specs.Geometry.{homes_of, meta_of}
use Rattle.mq_blocks.specs.Journal.{is_among}
use Rattle.mq_blocks.specs.Windows.{Shows as ShowsBytes, written}
use Rattle.mq_blocks.specs.declared.geometry.Geometry.{Geometry}
use Rattle.mq_blocks.proofs.Windows.{number-shown}
use Rattle.mq_inodes.specs.Changes.{AreOthers, FitsBut, IsInodePut, IsPointerPut, IsTakenIn, Stepped, zone_in}
use Rattle.mq_inodes.specs.Fits.{Fits}
use Rattle.mq_inodes.specs.Pages.{Pages}
use Rattle.mq_inodes.proofs.ChangesBodies.{inode-form}
use Rattle.mq_inodes.proofs.Changes.{more-rewrites, more-uses, padded-push, pointed-rewrites, pointed-uses}
use Rattle.mq_inodes.proofs.ChangesFits.{fits-put}
use Rattle.mq_inodes.proofs.ChangesFrame.{taken-same}
use Rattle.mq_inodes.proofs.ChangesPages.{table-put}
use Rattle.mq_inodes.proofs.LaidParts.{pointers-written, zeros-number}
use Rattle.mq_inodes.proofs.ChangesSteps.{mark-put, put-before, step-end, step-start, zone-held, zone-put}
use Rattle.mq_inodes.proofs.ChangesUses.{Rewrites, links-at}
use Rattle.mq_layout.specs.Bits.{pointer_of}
use Rattle.mq_layout.specs.Inodes.{inode_bytes}
use Rattle.mq_layout.specs.Places.{file_limit, inode_block, inode_place, inodes_of, zone_bitmap}
use Rattle.mq_layout.specs.declared.inode.Inode.{Inode}
use Rattle.mq_layout.proofs.FieldsWrites.{four_zeros}
use Rattle.mq_tree.proofs.DecodedMounting.{zeros-page}
use Rattle.mq_tree.specs.Free.{with_block, with_pointers}
use Rattle.mq_tree.specs.Laid.{IsPage, ShowsPage, ShowsPart, ShowsPointers, inode_of, kind_of, or_zero, padded, size_of}
use Rattle.mq_tree.specs.Volume.{Node, Use, Part, Pointers, Volume, block_in, body, has_block, is_block, is_taken, is_used, node}
use Rattle.mq_tree.proofs.FreeUses.{node-here, node-other}
use Rattle.mq_tree.specs.Uses.{AreUses}
use Rattle.mq_tree.proofs.LaidMaps.{zone-low}
use Rattle.mq_tree.proofs.LaidUses.{use-taken}

listed : (p q : ℕ) (blocks : List ℕ) → is_among p blocks ≡ true → Some p ≡ Some q → is_among q blocks ≡ false → ⊥
listed p q blocks y e n = true≢false (sym y ∙ ap (λ (x : ℕ). is_among x blocks) (same_Some p q e) ∙ n)

-- ---- the bit is set, and zeros stand in the block

-- a free block of the zones
pub record IsFree (g : Geometry) (v : Volume) (b : ℕ) : Type 0 where
  pub free : is_taken v b ≡ false
  pub high : meta_of g ≤ b
  pub home : b < homes_of g

-- where a metadata block is that is no bitmap of a zone, or a block of the zones that is taken
abbrev IsAway : Geometry → (b x : ℕ) → Type 0
IsAway g b x = (x ≢ zone_bitmap (zone_in g b)) × (x ≢ b)

taken-held : (g : Geometry) (old new : Pages) (b x : ℕ) (page : List ℕ) → IsTakenIn g old new b → IsAway g b x → new x ≡ Some (Some page) → old x ≡ Some (Some page)
taken-held g old new b x page t away e = put-before old t.marked (zone_bitmap (zone_in g b)) x (Some t.after) (Some (Some page)) t.marks away.0 (put-before t.marked new b x (Some zeros) (Some (Some page)) t.blank away.1 e)

inode-away : (g : Geometry) (v : Volume) (b i : ℕ) → IsFree g v b → i < inodes_of g → IsAway g b (inode_block g i)
inode-away g v b i f low =
    let h = f.high in
    let z = zone-low g b f.high f.home in
    ((λ e. omega arith), (λ e. omega arith))

used-away : (g : Geometry) (v : Volume) (u : Use) (b p : ℕ) → AreUses g v → IsFree g v b → block_in v u ≡ Some p → IsAway g b p
used-away g v u b p uses f e =
    let h = (uses.zones u p e).0 in
    let z = zone-low g b f.high f.home in
    let m = g.meta_low in
    ((λ same. omega arith), (λ same. true≢false (sym (use-taken v u p e) ∙ ap (λ (x : ℕ). is_taken v x) same ∙ f.free)))

take-fits : (g : Geometry) (v w : Volume) (u : Use) (b : ℕ) (rest : List ℕ) (old new : Pages) → AreUses g w → IsFree g v b → Fits g old v → IsTakenIn g old new b → block_in w u ≡ Some b
    → ((x : ℕ) → x ≢ b → is_taken v x ≡ is_taken w x) → ShowsPage g w b zeros → FitsBut g old w (zone_bitmap (zone_in g b) ∷ b ∷ rest) → FitsBut g new w rest
take-fits g v w u b rest old new fine f fits t is same blank but =
    let marks = mark-put g v w b true t.before t.after f.high f.home (use-taken w u b is) same (fits.held (zone_bitmap (zone_in g b)) t.before t.was) t.form t.set t.rest in
    fits-put g t.marked new w rest b (Some zeros) (fits-put g old t.marked w (b ∷ rest) (zone_bitmap (zone_in g b)) (Some t.after) but t.marks marks) t.blank blank

-- ---- for the next part

-- an inode with a block more
abbrev pub longer : Node → ℕ → Node
longer n b = record { body = n.body; blocks = n.blocks ++ b ∷ []; indirect = n.indirect; links = n.links }

pub get-last : (xs : List ℕ) (b : ℕ) → slice_get (xs ++ b ∷ []) (length xs) ≡ Some b
get-last [] b = refl
get-last (x ∷ xs) b = get-last xs b

-- what is known of the volume with the block
record IsLonger (g : Geometry) (v w : Volume) (i b : ℕ) : Type 0 where
  here : node w i ≡ longer (node v i) b
  others : AreOthers v w i
  uses : AreUses g w
  there : block_in w (Part i (length (node v i).blocks)) ≡ Some b
  taken : (x : ℕ) → x ≢ b → is_taken v x ≡ is_taken w x
  blank : ShowsPage g w b zeros

is-longer : (g : Geometry) (v : Volume) (i b : ℕ) → AreUses g v → i < length v → IsFree g v b → ShowsPart (body v i) (length (node v i).blocks) zeros → IsLonger g v (with_block v i (Some b)) i b
is-longer g v i b uses low f shows =
    let w = with_block v i (Some b) in
    let here : node w i ≡ longer (node v i) b = node-here v i (longer (node v i) b) low in
    let o : AreOthers v w i = λ x other. node-other v i x (longer (node v i) b) other in
    let bs : (node w i).blocks ≡ (node v i).blocks ++ b ∷ [] = ap (λ (n : Node). n.blocks) here in
    let ind : (node w i).indirect ≡ (node v i).indirect = ap (λ (n : Node). n.indirect) here in
    let fine = more-uses g v w i b uses o bs ind f.high f.home f.free (links-at w i (longer (node v i) b) here (uses.links i)) in
    let there : block_in w (Part i (length (node v i).blocks)) ≡ Some b = ap (λ (xs : List ℕ). slice_get xs (length (node v i).blocks)) bs ∙ get-last (node v i).blocks b in
    record {
      here = here;
      others = o;
      uses = fine;
      there = there;
      taken = λ x other. taken-same v w i x o (ap (λ (t : Bool). t || is_block x (node v i).indirect) (sym (among-push (node v i).blocks b x other)) ∙ ap (λ (n : Node). has_block n x) (sym here));
      blank = zone-put g w (Part i (length (node v i).blocks)) b zeros fine there zeros-page (subst (λ x. ShowsPart x (length (node v i).blocks) zeros) (sym (ap (λ (n : Node). n.body) here)) shows);
    }

longer-rewrites : (g : Geometry) (v w : Volume) (i b : ℕ) (blocks : List ℕ) → IsLonger g v w i b → is_among b blocks ≡ true → is_among (zone_bitmap (zone_in g b)) blocks ≡ true
    → (is_among (inode_block g i) blocks ≡ false → inode_of (node v i) ≡ inode_of (longer (node v i) b)) → ((p : ℕ) → (node v i).indirect ≡ Some p → is_among p blocks ≡ false → length (node v i).blocks < 12) → Rewrites g v w i blocks
longer-rewrites g v w i b blocks l here zone inode far =
    more-rewrites g v w i b blocks l.others (ap (λ (n : Node). n.body) l.here) (ap (λ (n : Node). n.blocks) l.here) (ap (λ (n : Node). n.indirect) l.here) here zone (λ out. inode out ∙ ap inode_of (sym l.here)) far

-- a page on which an inode was written, or a pointer
record IsInodePage (g : Geometry) (i : ℕ) (before page : List ℕ) (inode : Inode) : Type 0 where
  form : IsPage page
  is : page ≡ written before (128 * inode_place i) (inode_bytes inode)

record IsPointerPage (before page : List ℕ) (at x : ℕ) : Type 0 where
  form : IsPage page
  is : page ≡ written before (4 * at) (to_le_bytes w32 x)

-- the inode is written behind
longer-inode : (g : Geometry) (v w : Volume) (i b : ℕ) (before page : List ℕ) → IsLonger g v w i b → i < inodes_of g → is_used (body v i) ≡ true → size_of (body v i) (length (node v i).blocks + 1) ≤ file_limit
    → ShowsPage g v (inode_block g i) before → IsInodePage g i before page (inode_of (longer (node v i) b)) → ShowsPage g w (inode_block g i) page
longer-inode g v w i b before page l low used few s p =
    let size : size_of (body v i) (length ((node v i).blocks ++ b ∷ [])) ≤ file_limit = subst (λ (n : ℕ). size_of (body v i) n ≤ file_limit) (sym (length-append (node v i).blocks (b ∷ []))) few in
    let good = inode-form g w i l.uses (ap (λ (n : Node). is_used n.body) l.here ∙ used) (subst (λ (n : Node). size_of n.body (length n.blocks) ≤ file_limit) (sym l.here) size) in
    table-put g v w i (inode_place i) before page low l.others s p.form refl good (p.is ∙ ap (λ (n : Node). written before (128 * inode_place i) (inode_bytes (inode_of n))) (sym l.here))

-- one of the first twelve
pub near-step : (g : Geometry) (v : Volume) (i b : ℕ) (old mid new : Pages) → AreUses g v → i < length v → i < inodes_of g → is_used (body v i) ≡ true → size_of (body v i) (length (node v i).blocks + 1) ≤ file_limit
    → length (node v i).blocks < 12 → IsFree g v b → ShowsPart (body v i) (length (node v i).blocks) zeros → Fits g old v → IsTakenIn g old mid b → IsInodePut g mid new i (inode_of (longer (node v i) b))
    → Stepped g v (with_block v i (Some b)) new (zone_bitmap (zone_in g b) ∷ b ∷ inode_block g i ∷ [])
near-step g v i b old mid new uses low inside used few near f shows fits t p =
    let w = with_block v i (Some b) in
    let l = is-longer g v i b uses low f shows in
    let z = zone_bitmap (zone_in g b) in
    let a = inode_block g i in
    let blocks = z ∷ b ∷ a ∷ [] in
    let r = longer-rewrites g v w i b blocks l (among-behind z b (b ∷ a ∷ []) (among-here b (a ∷ []))) (among-here z (b ∷ a ∷ []))
    (λ out. absurd (true≢false (sym (among-behind z a (b ∷ a ∷ []) (among-behind b a (a ∷ []) (among-here a []))) ∙ out))) (λ q e out. near) in
    let was = taken-held g old mid b a p.before t (inode-away g v b i f inside) p.was in
    let inode = longer-inode g v w i b p.before p.after l inside used few (fits.held a p.before was) (record { form = p.form; is = p.is }) in
    let taken = take-fits g v w (Part i (length (node v i).blocks)) b (a ∷ []) old mid l.uses f fits t l.there l.taken l.blank (step-start g v w i blocks old uses l.uses r fits) in
    step-end g v w i blocks new uses l.uses r (fits-put g mid new w [] a (Some p.after) taken p.put inode)

-- ---- past the twelfth

pointer-set : (g : Geometry) (v w : Volume) (i b p : ℕ) (before page : List ℕ) → AreUses g v → IsLonger g v w i b → b < homes_of g → 12 ≤ length (node v i).blocks → length (node v i).blocks < 1036 → (node v i).indirect ≡ Some p
    → ShowsPage g v p before → IsPointerPage before page (length (node v i).blocks - 12) b → ShowsPage g w p page
pointer-set g v w i b p before page uses l home many few ind s is =
    let bs = (node v i).blocks in
    let at = length bs - 12 in
    let h : homes_of g ≤ 32768 = g.homes_high in
    let e : 12 + at ≡ length bs = omega arith in
    let old : ShowsPointers bs before = zone-held g v (Pointers i) p before uses ind s in
    let now : ShowsPointers (bs ++ b ∷ []) page = pointers-written bs (bs ++ b ∷ []) at b before page s.0.whole (omega arith) (omega arith) is.is (ap (λ (j : ℕ). get_or (bs ++ b ∷ []) j 0) e ∙ get_or_at bs b [] 0 (length bs) refl)
    (λ k small other. push-other bs b (12 + k) (λ same. other (omega arith))) old in
    zone-put g w (Pointers i) p page l.uses (ap (λ (n : Node). n.indirect) l.here ∙ ind) is.form (subst (λ (n : Node). ShowsPointers n.blocks page) (sym l.here) now)
  where
    push-other : (xs : List ℕ) (b k : ℕ) → k ≢ length xs → get_or (xs ++ b ∷ []) k 0 ≡ get_or xs k 0
    push-other [] b zero other = absurd (other refl)
    push-other [] b (suc k) other = refl
    push-other (x ∷ xs) b zero other = refl
    push-other (x ∷ xs) b (suc k) other = push-other xs b k (λ e. other (omega arith))

-- where the inode says the same, as a file's does
pub far-step : (g : Geometry) (v : Volume) (i b p : ℕ) (old mid new : Pages) → AreUses g v → i < length v → 12 ≤ length (node v i).blocks → length (node v i).blocks < 1036 → (node v i).indirect ≡ Some p → inode_of (node v i) ≡ inode_of (longer (node v i) b)
    → IsFree g v b → ShowsPart (body v i) (length (node v i).blocks) zeros → Fits g old v → IsTakenIn g old mid b → IsPointerPut mid new p (length (node v i).blocks - 12) b
    → Stepped g v (with_block v i (Some b)) new (zone_bitmap (zone_in g b) ∷ b ∷ p ∷ [])
far-step g v i b p old mid new uses low many few ind same f shows fits t put =
    let w = with_block v i (Some b) in
    let l = is-longer g v i b uses low f shows in
    let z = zone_bitmap (zone_in g b) in
    let blocks = z ∷ b ∷ p ∷ [] in
    let r = longer-rewrites g v w i b blocks l (among-behind z b (b ∷ p ∷ []) (among-here b (p ∷ []))) (among-here z (b ∷ p ∷ []))
    (λ out. same) (λ q e out. absurd (listed p q blocks (among-behind z p (b ∷ p ∷ []) (among-behind b p (p ∷ []) (among-here p []))) (sym ind ∙ e) out)) in
    let was = taken-held g old mid b p put.before t (used-away g v (Pointers i) b p uses f ind) put.was in
    let now = pointer-set g v w i b p put.before put.after uses l f.home many few ind (fits.held p put.before was) (record { form = put.form; is = put.is }) in
    let taken = take-fits g v w (Part i (length (node v i).blocks)) b (p ∷ []) old mid l.uses f fits t l.there l.taken l.blank (step-start g v w i blocks old uses l.uses r fits) in
    step-end g v w i blocks new uses l.uses r (fits-put g mid new w [] p (Some put.after) taken put.put now)

-- where it is written too, as a directory's is
pub far_inode-step : (g : Geometry) (v : Volume) (i b p : ℕ) (old mid next new : Pages) → AreUses g v → i < length v → i < inodes_of g → is_used (body v i) ≡ true → size_of (body v i) (length (node v i).blocks + 1) ≤ file_limit
    → 12 ≤ length (node v i).blocks → length (node v i).blocks < 1036 → (node v i).indirect ≡ Some p → IsFree g v b → ShowsPart (body v i) (length (node v i).blocks) zeros → Fits g old v
    → IsTakenIn g old mid b → IsPointerPut mid next p (length (node v i).blocks - 12) b → IsInodePut g next new i (inode_of (longer (node v i) b))
    → Stepped g v (with_block v i (Some b)) new (zone_bitmap (zone_in g b) ∷ b ∷ p ∷ inode_block g i ∷ [])
far_inode-step g v i b p old mid next new uses low inside used size many few ind f shows fits t put q =
    let w = with_block v i (Some b) in
    let l = is-longer g v i b uses low f shows in
    let z = zone_bitmap (zone_in g b) in
    let a = inode_block g i in
    let blocks = z ∷ b ∷ p ∷ a ∷ [] in
    let there_p = among-behind z p (b ∷ p ∷ a ∷ []) (among-behind b p (p ∷ a ∷ []) (among-here p (a ∷ []))) in
    let there_a = among-behind z a (b ∷ p ∷ a ∷ []) (among-behind b a (p ∷ a ∷ []) (among-behind p a (a ∷ []) (among-here a []))) in
    let r = longer-rewrites g v w i b blocks l (among-behind z b (b ∷ p ∷ a ∷ []) (among-here b (p ∷ a ∷ []))) (among-here z (b ∷ p ∷ a ∷ []))
    (λ out. absurd (true≢false (sym there_a ∙ out))) (λ c e out. absurd (listed p c blocks there_p (sym ind ∙ e) out)) in
    let was = taken-held g old mid b p put.before t (used-away g v (Pointers i) b p uses f ind) put.was in
    let now = pointer-set g v w i b p put.before put.after uses l f.home many few ind (fits.held p put.before was) (record { form = put.form; is = put.is }) in
    let other : a ≢ p = λ e. let h = (uses.zones (Pointers i) p ind).0 in omega arith in
    let was_inode = taken-held g old mid b a q.before t (inode-away g v b i f inside) (put-before mid next p a (Some put.after) (Some (Some q.before)) put.put other q.was) in
    let inode = longer-inode g v w i b q.before q.after l inside used size (fits.held a q.before was_inode) (record { form = q.form; is = q.is }) in
    let taken = take-fits g v w (Part i (length (node v i).blocks)) b (p ∷ a ∷ []) old mid l.uses f fits t l.there l.taken l.blank (step-start g v w i blocks old uses l.uses r fits) in
    step-end g v w i blocks new uses l.uses r (fits-put g next new w [] a (Some q.after) (fits-put g mid next w (a ∷ []) p (Some put.after) taken put.put now) q.put inode)

-- a file's inode says the same with a block more past the twelfth
pub file-far : (n : Node) (b : ℕ) → 12 ≤ length n.blocks → size_of n.body (length n.blocks) ≡ size_of n.body (length n.blocks + 1) → inode_of n ≡ inode_of (longer n b)
file-far n b many same =
    ap (λ (xs : List ℕ). record { kind = kind_of n.body; links = n.links; size = size_of n.body (length n.blocks); direct = xs; indirect = or_zero n.indirect }) (sym (padded-push n.blocks b many))
    ∙ ap (λ (s : ℕ). record { kind = kind_of n.body; links = n.links; size = s; direct = padded 12 (n.blocks ++ b ∷ []); indirect = or_zero n.indirect }) (same ∙ ap (λ (c : ℕ). size_of n.body c) (sym (length-append n.blocks (b ∷ []))))

-- ---- for its pointers

abbrev pub with_indirect : Node → ℕ → Node
with_indirect n b = record { body = n.body; blocks = n.blocks; indirect = Some b; links = n.links }

zeros-pointer : (k : ℕ) → k < 1024 → pointer_of zeros k ≡ 0
zeros-pointer k l =
    let P : List ℕ → Type 0 = λ xs. ShowsBytes zeros (4 * k) xs in
    number-shown zeros (4 * k) 4 0 (omega arith) (subst P (sym four_zeros) (zeros-number (4 * k) 4 (omega arith)))

zeros-pointers : (xs : List ℕ) → length xs ≤ 12 → ShowsPointers xs zeros
zeros-pointers xs few k l = zeros-pointer k l ∙ sym (get_or_past xs (12 + k) 0 (omega arith))

pub pointed-step : (g : Geometry) (v : Volume) (i b : ℕ) (old mid new : Pages) → AreUses g v → i < length v → i < inodes_of g → is_used (body v i) ≡ true → size_of (body v i) (length (node v i).blocks) ≤ file_limit
    → length (node v i).blocks ≤ 12 → (node v i).indirect ≡ None → IsFree g v b → Fits g old v → IsTakenIn g old mid b → IsInodePut g mid new i (inode_of (with_indirect (node v i) b))
    → Stepped g v (with_pointers v i (Some b)) new (zone_bitmap (zone_in g b) ∷ b ∷ inode_block g i ∷ [])
pointed-step g v i b old mid new uses low inside used few near none f fits t p =
    let w = with_pointers v i (Some b) in
    let here : node w i ≡ with_indirect (node v i) b = node-here v i (with_indirect (node v i) b) low in
    let o : AreOthers v w i = λ x other. node-other v i x (with_indirect (node v i) b) other in
    let bs : (node w i).blocks ≡ (node v i).blocks = ap (λ (n : Node). n.blocks) here in
    let ind : (node w i).indirect ≡ Some b = ap (λ (n : Node). n.indirect) here in
    let bd : body w i ≡ body v i = ap (λ (n : Node). n.body) here in
    let fine = pointed-uses g v w i b uses o bs ind f.high f.home f.free (links-at w i (with_indirect (node v i) b) here (uses.links i)) in
    let z = zone_bitmap (zone_in g b) in
    let a = inode_block g i in
    let blocks = z ∷ b ∷ a ∷ [] in
    let r = pointed-rewrites g v w i b blocks o bd bs none ind (among-behind z b (b ∷ a ∷ []) (among-here b (a ∷ []))) (among-here z (b ∷ a ∷ [])) (among-behind z a (b ∷ a ∷ []) (among-behind b a (a ∷ []) (among-here a []))) in
    let taken_same : (x : ℕ) → x ≢ b → is_taken v x ≡ is_taken w x = λ x other. taken-same v w i x o (ap (λ (q : Option ℕ). is_among x (node v i).blocks || is_block x q) none
    ∙ ap (λ (s : Bool). is_among x (node v i).blocks || s) (sym (ne_eqb b x (λ e. other (sym e)))) ∙ ap (λ (n : Node). has_block n x) (sym here)) in
    let blank = zone-put g w (Pointers i) b zeros fine ind zeros-page (subst (λ (n : Node). ShowsPointers n.blocks zeros) (sym here) (zeros-pointers (node v i).blocks near)) in
    let was = taken-held g old mid b a p.before t (inode-away g v b i f inside) p.was in
    let good = inode-form g w i fine (ap is_used bd ∙ used) (subst (λ (n : Node). size_of n.body (length n.blocks) ≤ file_limit) (sym here) few) in
    let inode = table-put g v w i (inode_place i) p.before p.after inside o (fits.held a p.before was) p.form refl good (p.is ∙ ap (λ (n : Node). written p.before (128 * inode_place i) (inode_bytes (inode_of n))) (sym here)) in
    let taken = take-fits g v w (Pointers i) b (a ∷ []) old mid fine f fits t ind taken_same blank (step-start g v w i blocks old uses fine r fits) in
    step-end g v w i blocks new uses fine r (fits-put g mid new w [] a (Some p.after) taken p.put inode)
