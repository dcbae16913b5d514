-- An inode gets one block more: what the pages keep, and what the volume that they carry becomes.
use Rattle.std.proofs.Common.{set, ◌≡◌, ◌≢◌, ℕ, ◌+◌, ◌-◌, ◌<◌, ◌≤◌, inl, inr, List, [], ◌∷◌, ◌++◌, length, Bool, true, false, cond, refl, sym, ap, subst, ◌∙◌, arith, rules, vec_len, Ok, Err, Result}
use Rattle.std.specs.Prelude.{Option, Some, None, OnOk, ◌↔◌, if◌then◌else◌, nat_eq, nat_lt}
use Rattle.std.proofs.lemmas.Bool.{cases_eq, cases_lt, eq-eqb, le-ltb, lt-ltb, ne_eqb, true≢false}
use Rattle.std.proofs.lemmas.List.{length-append, length-set}
use Rattle.mq_blocks.specs.Blocks.{zeros}
use Rattle.mq_blocks.specs.Geometry.{meta_of}
use Rattle.mq_blocks.specs.Journal.{is_among}
use Rattle.mq_blocks.specs.declared.geometry.Geometry.{Geometry}
use Rattle.mq_inodes.specs.Changes.{IsInodePut, IsOfFile, IsPointerPut, IsPut, IsTakenIn, Stepped, zone_in}
use Rattle.mq_inodes.specs.Edits.{Becomes, Carries, IsKindPut, IsOver, IsZoneKindPut, KeepsKinds}
use Rattle.mq_inodes.specs.Growing.{HasGot, KeepsOthers, MayGet, kind_in, longer_inode}
use Rattle.mq_inodes.specs.Opened.{IsTakeable, IsWithin}
use Rattle.mq_inodes.specs.Pages.{IsHeld, Pages, content, kinds_of, pages_of}
use Rattle.mq_inodes.specs.declared.opened.Opened.{Opened}
use Rattle.mq_inodes.specs.declared.working.Working.{Working}
use Rattle.mq_inodes.proofs.EditsBecoming.{becomes-stepped}
use Rattle.mq_inodes.proofs.PagesHeld.{held-is, table-low}
use Rattle.mq_inodes.proofs.ChangesBodies.{inode-form}
use Rattle.mq_inodes.proofs.Changes.{padded-push}
use Rattle.mq_inodes.proofs.ChangesKinds.{dir-not-file, meta-not-data, part-of-file, pointers-not-file}
use Rattle.mq_inodes.proofs.ChangesTaken.{IsFree, far-step, far_inode-step, file-far, get-last, longer, near-step, pointed-step, with_indirect}
use Rattle.mq_inodes.proofs.ChangesVolumes.{next-dir, next-file, with_block-uses, with_pointers-uses}
use Rattle.mq_inodes.proofs.LaidPadded.{padded-near}
use Rattle.mq_layout.specs.Inodes.{IsInode}
use Rattle.mq_layout.specs.Places.{file_limit, inode_block, inodes_of, zone_bitmap}
use Rattle.mq_layout.specs.declared.inode.Inode.{Inode}
use Rattle.mq_pages.specs.declared.page.Kind.{Kind}
use Rattle.mq_pages.specs.declared.page.Kind.TheVariants.{Data, Meta}
use Rattle.mq_tree.proofs.CleanLaid.{length-padded}
use Rattle.mq_tree.specs.Free.{with_block, with_pointers}
use Rattle.mq_tree.specs.Laid.{ShowsPart, inode_of, kind_of, or_zero, padded, size_of}
use Rattle.mq_tree.specs.Volume.{Body, Free, File, Dir, Node, Part, Pointers, Volume, block_in, body, is_used, node}
use Rattle.mq_tree.proofs.FreeUses.{node-here}
use Rattle.mq_tree.specs.Uses.{AreUses}
use Rattle.mq_tree.proofs.LaidMaps.{zone-low}

pub on_ok_three : {T E P Q R S : Type 0} (r : Result T E) → (P → Q → R → S) → OnOk r P → OnOk r Q → OnOk r R → OnOk r S
on_ok_three (Ok x) f p q s = f p q s
on_ok_three (Err e) f p q s = tt

-- ---- what the pages keep

-- content was put where there was some, or at the block itself
put-keeps : (old new : Pages) (z b : ℕ) (page : List ℕ) → IsPut old new z (Some page) → (z ≢ b → old z ≢ Some None) → KeepsOthers old new b
put-keeps old new z b page put other = record {
  held = λ x h. elim (cases_eq x z) [
    | inl e ↦ held-is new x page (ap new e ∙ put.here)
    | inr away ↦ held-is new x (content (old x)) (put.others x away ∙ h)
  ];
  free = λ x away e. elim (cases_eq x z) [
    | inl same ↦ absurd (other (λ h. away (same ∙ h)) (ap old (sym same) ∙ e))
    | inr apart ↦ put.others x apart ∙ e
  ];
}

had-some : (pages : Pages) (x : ℕ) (page : List ℕ) → pages x ≡ Some (Some page) → pages x ≢ Some None
had-some pages x page e none = absurd (cc)

pub keeps-then : (old mid new : Pages) (b : ℕ) → KeepsOthers old mid b → KeepsOthers mid new b → KeepsOthers old new b
keeps-then old mid new b k l = record { held = λ x h. l.held x (k.held x h); free = λ x other e. l.free x other (k.free x other e) }

pub take-keeps : (g : Geometry) (old new : Pages) (b : ℕ) → IsTakenIn g old new b → KeepsOthers old new b
take-keeps g old new b t =
    keeps-then old t.marked new b (put-keeps old t.marked (zone_bitmap (zone_in g b)) b t.after t.marks (λ other. had-some old (zone_bitmap (zone_in g b)) t.before t.was)) (put-keeps t.marked new b b zeros t.blank (λ other. absurd (other refl)))

pub inode-keeps : (g : Geometry) (old new : Pages) (i b : ℕ) (inode : Inode) → IsInodePut g old new i inode → KeepsOthers old new b
inode-keeps g old new i b inode p = put-keeps old new (inode_block g i) b p.after p.put (λ other. had-some old (inode_block g i) p.before p.was)

pub pointer-keeps : (old new : Pages) (p at x b : ℕ) → IsPointerPut old new p at x → KeepsOthers old new b
pointer-keeps old new p at x b put = put-keeps old new p b put.after put.put (λ other. had-some old p put.before put.was)

-- ---- lists of blocks

each-more : (P : ℕ → Type 0) (b : ℕ) (bs : List ℕ) → P b → ((x : ℕ) → is_among x bs ≡ true → P x) → (x : ℕ) → is_among x (b ∷ bs) ≡ true → P x
each-more P b bs here rest x e = elim (cases_eq b x) [
  | inl same ↦ subst P same here
  | inr other ↦ rest x (sym (ap (λ (t : Bool). cond t true (is_among x bs)) (ne_eqb b x other)) ∙ e)
]

each-none : (P : ℕ → Type 0) (x : ℕ) → is_among x [] ≡ true → P x
each-none P x e = absurd (true≢false (sym e))

out-more : (b : ℕ) (bs : List ℕ) (x : ℕ) → is_among x (b ∷ bs) ≡ false → (x ≢ b) × (is_among x bs ≡ false)
out-more b bs x e = elim (cases_eq b x) [
  | inl same ↦ absurd (true≢false (sym (ap (λ (t : Bool). cond t true (is_among x bs)) (eq-eqb b x same)) ∙ e))
  | inr other ↦ ((λ h. other (sym h)), sym (ap (λ (t : Bool). cond t true (is_among x bs)) (ne_eqb b x other)) ∙ e)
]

-- ---- bodies with room for a block

used-within : (x : Body) (count : ℕ) → IsWithin x count → is_used x ≡ true
used-within Free count h = absurd h
used-within (File bytes) count h = refl
used-within (Dir slots) count h = refl

size-within : (x : Body) (count more : ℕ) → IsWithin x count → more ≤ 1036 → size_of x more ≤ file_limit
size-within Free count more h few = absurd h
size-within (File bytes) count more h few = h.1
size-within (Dir slots) count more h few = omega arith

blank-within : (x : Body) (count : ℕ) → IsWithin x count → ShowsPart x count zeros
blank-within Free count h = absurd h
blank-within (File bytes) count h = next-file (File bytes) bytes count refl h.0
blank-within (Dir slots) count h = next-dir (Dir slots) slots count refl h

pub more-within : (x : Body) (count : ℕ) → IsWithin x count → IsWithin x (count + 1)
more-within Free count h = h
more-within (File bytes) count h = (omega (arith, h.0), h.1)
more-within (Dir slots) count h = omega arith

-- ---- what the inode says

size-more : (x : Body) (count : ℕ) → size_of x (count + 1) ≡ (if nat_eq (kind_of x) 2 then size_of x count + 4096 else size_of x count)
size-more Free count = refl
size-more (File bytes) count = refl
size-more (Dir slots) count = omega arith

direct-more : (xs : List ℕ) (b : ℕ) → padded 12 (xs ++ b ∷ []) ≡ (if nat_lt (length xs) 12 then set (padded 12 xs) (length xs) b else padded 12 xs)
direct-more xs b = elim (cases_lt (length xs) 12) [
  | inl near ↦ padded-near xs b near ∙ sym (ap (λ (t : Bool). if t then set (padded 12 xs) (length xs) b else padded 12 xs) (lt-ltb (length xs) 12 near))
  | inr far ↦ padded-push xs b far ∙ sym (ap (λ (t : Bool). if t then set (padded 12 xs) (length xs) b else padded 12 xs) (le-ltb (length xs) 12 far))
]

longer-is : (n : Node) (b : ℕ) → inode_of (longer n b) ≡ longer_inode (inode_of n) (length n.blocks) b
longer-is n b =
    ap (λ (xs : List ℕ). record { kind = kind_of n.body; links = n.links; size = size_of n.body (length (n.blocks ++ b ∷ [])); direct = xs; indirect = or_zero n.indirect }) (direct-more n.blocks b)
    ∙ ap (λ (s : ℕ). record { kind = kind_of n.body; links = n.links; size = s; direct = if nat_lt (length n.blocks) 12 then set (padded 12 n.blocks) (length n.blocks) b else padded 12 n.blocks; indirect = or_zero n.indirect })
    (ap (λ (c : ℕ). size_of n.body c) (length-append n.blocks (b ∷ [])) ∙ size-more n.body (length n.blocks))

file-size : (x : Body) (count : ℕ) → kind_of x ≢ 2 → size_of x count ≡ size_of x (count + 1)
file-size Free count other = refl
file-size (File bytes) count other = refl
file-size (Dir slots) count other = absurd (other refl)

-- ---- the block of pointers

pub some-indirect : (o : Option ℕ) (p : ℕ) → p ≡ or_zero o → p ≢ 0 → o ≡ Some p
some-indirect None p e other = absurd (other e)
some-indirect (Some x) p e other = ap (λ (y : ℕ). Some y) (sym e)

pub indirect-high : (g : Geometry) (v : Volume) (i p : ℕ) → AreUses g v → (node v i).indirect ≡ Some p → p ≢ 0
indirect-high g v i p uses is e = let z = (uses.zones (Pointers i) p is).0 in let m = g.meta_low in omega arith

pub no-indirect : (g : Geometry) (v : Volume) (i : ℕ) → AreUses g v → or_zero (node v i).indirect ≡ 0 → (node v i).indirect ≡ None
no-indirect g v i uses e = at (node v i).indirect refl e
  where
    at : (o : Option ℕ) → (node v i).indirect ≡ o → or_zero o ≡ 0 → o ≡ None
    at None is zero = refl
    at (Some p) is zero = absurd (indirect-high g v i p uses is zero)

-- ---- kinds

-- what a kind says of the block that was put with it
abbrev IsRight : Volume → (new : Working) → ℕ → Type 0
IsRight w new x = (kind : Kind) → kinds_of new x ≡ Some kind → (kind ≡ Data) ↔ IsOfFile w x

right-pointers : (g : Geometry) (w : Volume) (new : Working) (i p : ℕ) → AreUses g w → block_in w (Pointers i) ≡ Some p → kinds_of new p ≡ Some Meta → IsRight w new p
right-pointers g w new i p uses is e kind same = (λ d. absurd (meta-not-data (cc)), λ f. absurd (pointers-not-file g w i p uses is f))

right-part : (g : Geometry) (w : Volume) (new : Working) (i place b : ℕ) (inode : Inode) → AreUses g w → block_in w (Part i place) ≡ Some b → is_used (body w i) ≡ true → inode.kind ≡ kind_of (body w i) → kinds_of new b ≡ Some (kind_in inode) → IsRight w new b
right-part g w new i place b inode uses there used k e = at (body w i) refl used
  where
    at : (x : Body) → body w i ≡ x → is_used x ≡ true → IsRight w new b
    at Free is h = absurd (true≢false (sym h))
    at (File bytes) is h =
        let file : kind_in inode ≡ Data = ap (λ (n : ℕ). if nat_eq n 2 then Meta else Data) (k ∙ ap kind_of is) in
        λ kind same. ((λ d. part-of-file w i place b bytes there is), (λ f. cc))
    at (Dir slots) is h =
        let dir : kind_in inode ≡ Meta = ap (λ (n : ℕ). if nat_eq n 2 then Meta else Data) (k ∙ ap kind_of is) in
        λ kind same. ((λ d. absurd (meta-not-data (cc))), (λ f. absurd (dir-not-file g w i place b slots uses there is f)))

-- ---- what was done to the pages

-- a block was taken
pub record Took (old new : Working) (b : ℕ) (kind : Kind) : Type 0 where
  pub over : IsOver old new
  pub kinds : IsZoneKindPut old new b (Some kind)
  pub taken : IsTakenIn old.geometry (pages_of old) (pages_of new) b

-- an inode was written
pub record Wrote (old new : Working) (i : ℕ) (inode : Inode) : Type 0 where
  pub over : IsOver old new
  pub kinds : KeepsKinds old new
  pub put : IsInodePut old.geometry (pages_of old) (pages_of new) i inode

-- a pointer was set
pub record Pointed (old new : Working) (p at b : ℕ) : Type 0 where
  pub over : IsOver old new
  pub kinds : IsKindPut old new p (Some Meta)
  pub put : IsPointerPut (pages_of old) (pages_of new) p at b

pub took-as : (old new : Working) (b : ℕ) (kind other : Kind) → kind ≡ other → IsOver old new → IsZoneKindPut old new b (Some kind) → IsTakenIn old.geometry (pages_of old) (pages_of new) b → Took old new b other
took-as old new b kind other e over kinds taken = record { over = over; kinds = subst (λ (k : Kind). IsZoneKindPut old new b (Some k)) e kinds; taken = taken }

pub pointed-as : (old new : Working) (p q at place b : ℕ) → p ≡ q → at ≡ place → IsOver old new → IsKindPut old new p (Some Meta) → IsPointerPut (pages_of old) (pages_of new) p at b → Pointed old new q place b
pointed-as old new p q at place b e f over kinds put = record {
  over = over;
  kinds = subst (λ (x : ℕ). IsKindPut old new x (Some Meta)) e kinds;
  put = subst (λ (x : ℕ). IsPointerPut (pages_of old) (pages_of new) x place b) e (subst (λ (x : ℕ). IsPointerPut (pages_of old) (pages_of new) p x b) f put);
}

inode-put : (g h : Geometry) (old new : Pages) (i : ℕ) (inode said : Inode) → h ≡ g → inode ≡ said → IsInodePut h old new i inode → IsInodePut g old new i said
inode-put g h old new i inode said e f p = subst (λ (x : Inode). IsInodePut g old new i x) f (subst (λ (x : Geometry). IsInodePut x old new i inode) e p)

-- what holds where an inode may get a block
record IsReady (g : Geometry) (v : Volume) (i b : ℕ) : Type 0 where
  low : i < length v
  used : is_used (body v i) ≡ true
  now : size_of (body v i) (length (node v i).blocks) ≤ file_limit
  more : size_of (body v i) (length (node v i).blocks + 1) ≤ file_limit
  few : length (node v i).blocks < 1036
  free : IsFree g v b
  blank : ShowsPart (body v i) (length (node v i).blocks) zeros

ready : (g : Geometry) (pages : Pages) (v : Volume) (o : Opened) (b : ℕ) → Carries g pages v → MayGet g v o b → IsReady g v o.number b
ready g pages v o b c m =
    let within : IsWithin (body v o.number) (length (node v o.number).blocks) = subst (λ (xs : List ℕ). IsWithin (body v o.number) (length xs)) m.blocks m.within in
    let few : length (node v o.number).blocks < 1036 = subst (λ (xs : List ℕ). length xs < 1036) m.blocks m.few in
    let count = c.count in
    let inside = m.low in
    record {
      low = omega arith;
      used = used-within _ _ within;
      now = size-within _ _ _ within (omega arith);
      more = size-within _ _ _ within (omega arith);
      few = few;
      free = record { free = m.free; high = m.high; home = m.home };
      blank = blank-within _ _ within;
    }

-- the blocks of the metadata region that change with a taken block
bitmap-low : (g : Geometry) (v : Volume) (b : ℕ) → IsFree g v b → zone_bitmap (zone_in g b) < meta_of g
bitmap-low g v b f = let z = zone-low g b f.high f.home in let m = g.meta_low in omega arith

-- ---- what the volume becomes

none-not : (pages : Pages) (b : ℕ) (page : Option (List ℕ)) → pages b ≡ Some page → pages b ≢ None
none-not pages b page e none = absurd (cc)

-- a listed block was known, and was put with the kind of its use
abbrev IsListed : Geometry → (w : Volume) → (old new : Working) → ℕ → Type 0
IsListed g w old new x = (pages_of old x ≢ None) × (meta_of g ≤ x → IsRight w new x)

-- the bitmap of its zone and a free block are listed, and others
becomes-with : (g : Geometry) (v w : Volume) (old new : Working) (b : ℕ) (rest : List ℕ) → Carries g (pages_of old) v → AreUses g w → length w ≡ length v → IsFree g v b → Stepped g v w (pages_of new) (zone_bitmap (zone_in g b) ∷ b ∷ rest)
    → IsHeld (pages_of old) (zone_bitmap (zone_in g b)) → pages_of old b ≡ Some None → IsRight w new b → ((x : ℕ) → is_among x rest ≡ true → IsListed g w old new x)
    → ((x : ℕ) → meta_of g ≤ x → x ≢ b → is_among x rest ≡ false → kinds_of new x ≡ kinds_of old x) → Becomes g v w old new
becomes-with g v w old new b rest c fine size f s marks free right listed others =
    let z = zone_bitmap (zone_in g b) in
    let low = bitmap-low g v b f in
    let all : (x : ℕ) → is_among x (z ∷ b ∷ rest) ≡ true → IsListed g w old new x =
    each-more (IsListed g w old new) z (b ∷ rest) (none-not (pages_of old) z _ marks, λ h. absurd (omega arith)) (each-more (IsListed g w old new) b rest (none-not (pages_of old) b None free, λ h. right) listed) in
    becomes-stepped g v w old new (z ∷ b ∷ rest) c fine size s (λ x e. (all x e).0)
    (λ x high out. let one = out-more z (b ∷ rest) x out in let two = out-more b rest x one.1 in others x high two.0 two.1)
    (λ x kind high e. (all x e).1 high kind)

-- a block of the inode table
table-listed : (g : Geometry) (w : Volume) (old new : Working) (i : ℕ) → i < inodes_of g → IsHeld (pages_of old) (inode_block g i) → IsListed g w old new (inode_block g i)
table-listed g w old new i low held = let a = table-low g i low in (none-not (pages_of old) (inode_block g i) _ held, λ h. absurd (omega arith))

one-listed : (g : Geometry) (w : Volume) (old new : Working) (a : ℕ) → IsListed g w old new a → (x : ℕ) → is_among x (a ∷ []) ≡ true → IsListed g w old new x
one-listed g w old new a here = each-more (IsListed g w old new) a [] here (each-none (IsListed g w old new))

-- ---- a block for the pointers

pub point-form : (g : Geometry) (pages : Pages) (v : Volume) (o : Opened) (b : ℕ) → Carries g pages v → MayGet g v o b → IsInode (inode_of (with_indirect (node v o.number) b))
point-form g pages v o b c m =
    let r = ready g pages v o b c m in
    let w = with_pointers v o.number (Some b) in
    let here : node w o.number ≡ with_indirect (node v o.number) b = node-here v o.number (with_indirect (node v o.number) b) r.low in
    let fine = with_pointers-uses g v o.number b c.uses r.low r.free in
    subst (λ (n : Node). IsInode (inode_of n)) here (inode-form g w o.number fine (ap (λ (n : Node). is_used n.body) here ∙ r.used) (subst (λ (n : Node). size_of n.body (length n.blocks) ≤ file_limit) (sym here) r.now))

pub point-got : (old mid new : Working) (v : Volume) (o after : Opened) (b : ℕ) → Carries old.geometry (pages_of old) v → MayGet old.geometry v o b → length o.blocks.items ≡ 12 → o.inode.indirect ≡ 0 → IsTakeable old.geometry (pages_of old) b → IsHeld (pages_of old) (inode_block old.geometry o.number)
    → Took old mid b Meta → after.number ≡ o.number → after.inode ≡ record { kind = o.inode.kind; links = o.inode.links; size = o.inode.size; direct = o.inode.direct; indirect = b } → after.blocks.items ≡ o.blocks.items → Wrote mid new o.number after.inode
    → HasGot old.geometry v (with_pointers v o.number (Some b)) old new o after
point-got old mid new v o after b c m twelve zero pick table t number said blocks p =
    let g = old.geometry in
    let i = o.number in
    let w = with_pointers v i (Some b) in
    let r = ready g (pages_of old) v o b c m in
    let here : node w i ≡ with_indirect (node v i) b = node-here v i (with_indirect (node v i) b) r.low in
    let inode : after.inode ≡ inode_of (with_indirect (node v i) b) = said ∙ ap (λ (x : Inode). record { kind = x.kind; links = x.links; size = x.size; direct = x.direct; indirect = b }) m.inode in
    let none = no-indirect g v i c.uses (sym (ap (λ (x : Inode). x.indirect) m.inode) ∙ zero) in
    let count : length (node v i).blocks ≡ 12 = sym (ap (λ (xs : List ℕ). length xs) m.blocks) ∙ twelve in
    let fine = with_pointers-uses g v i b c.uses r.low r.free in
    let put = inode-put g mid.geometry (pages_of mid) (pages_of new) i after.inode (inode_of (with_indirect (node v i) b)) t.over.view.geometry inode p.put in
    let s = pointed-step g v i b (pages_of old) (pages_of mid) (pages_of new) c.uses r.low m.low r.used r.now (omega arith) none r.free c.fits t.taken put in
    let later : (x : ℕ) → meta_of g ≤ x → kinds_of new x ≡ kinds_of mid x = λ x high. p.kinds x (subst (λ (h : Geometry). meta_of h ≤ x) (sym t.over.view.geometry) high) in
    let right = right-pointers g w new i b fine (ap (λ (n : Node). n.indirect) here) (later b r.free.high ∙ t.kinds.here) in
    record {
      number = number;
      becomes = becomes-with g v w old new b (inode_block g i ∷ []) c fine (length-set v i (with_indirect (node v i) b)) r.free s pick.marks.marks pick.free right
          (one-listed g w old new (inode_block g i) (table-listed g w old new i m.low table)) (λ x high other out. later x high ∙ t.kinds.others x high other);
      inode = inode ∙ ap inode_of (sym here);
      blocks = blocks ∙ m.blocks ∙ ap (λ (n : Node). n.blocks) (sym here);
    }

-- ---- a block for the next part

pub append-form : (g : Geometry) (pages : Pages) (v : Volume) (o : Opened) (b : ℕ) → Carries g pages v → MayGet g v o b → IsInode (longer_inode o.inode (length o.blocks.items) b)
append-form g pages v o b c m =
    let r = ready g pages v o b c m in
    let w = with_block v o.number (Some b) in
    let n = node v o.number in
    let here : node w o.number ≡ longer n b = node-here v o.number (longer n b) r.low in
    let fine = with_block-uses g v o.number b c.uses r.low r.free in
    let size : size_of n.body (length (n.blocks ++ b ∷ [])) ≤ file_limit = subst (λ (k : ℕ). size_of n.body k ≤ file_limit) (sym (length-append n.blocks (b ∷ []))) r.more in
    let form : IsInode (inode_of (longer n b)) = subst (λ (x : Node). IsInode (inode_of x)) here (inode-form g w o.number fine (ap (λ (x : Node). is_used x.body) here ∙ r.used) (subst (λ (x : Node). size_of x.body (length x.blocks) ≤ file_limit) (sym here) size)) in
    subst (λ (x : Inode). IsInode x) (longer-is n b ∙ ap (λ (x : Inode). longer_inode x (length n.blocks) b) (sym m.inode) ∙ ap (λ (xs : List ℕ). longer_inode o.inode (length xs) b) (sym m.blocks)) form

pub count-items : (o : Opened) → vec_len o.blocks ≡ length o.blocks.items
count-items o = search rules

pub twelve-direct : (g : Geometry) (v : Volume) (o : Opened) (b : ℕ) → MayGet g v o b → length o.inode.direct ≡ 12
twelve-direct g v o b m = ap (λ (x : Inode). length x.direct) m.inode ∙ length-padded 12 (node v o.number).blocks

-- what the inode was found to say and to have
pub record IsAppended (o after : Opened) (b : ℕ) : Type 0 where
  pub number : after.number ≡ o.number
  pub inode : after.inode ≡ longer_inode o.inode (length o.blocks.items) b
  pub blocks : after.blocks.items ≡ o.blocks.items ++ b ∷ []

pub appended-as : (o after : Opened) (count b : ℕ) → count ≡ length o.blocks.items → after.number ≡ o.number → after.inode ≡ longer_inode o.inode count b → after.blocks.items ≡ o.blocks.items ++ b ∷ [] → IsAppended o after b
appended-as o after count b e number inode blocks = record { number = number; inode = inode ∙ ap (λ (k : ℕ). longer_inode o.inode k b) e; blocks = blocks }

appended-inode : (g : Geometry) (v : Volume) (o after : Opened) (b : ℕ) → MayGet g v o b → IsAppended o after b → after.inode ≡ inode_of (longer (node v o.number) b)
appended-inode g v o after b m a =
    a.inode ∙ ap (λ (xs : List ℕ). longer_inode o.inode (length xs) b) m.blocks ∙ ap (λ (x : Inode). longer_inode x (length (node v o.number).blocks) b) m.inode ∙ sym (longer-is (node v o.number) b)

-- however the pages became so
append-with : (old new : Working) (v : Volume) (o after : Opened) (b : ℕ) (rest : List ℕ) → Carries old.geometry (pages_of old) v → MayGet old.geometry v o b → IsTakeable old.geometry (pages_of old) b → IsAppended o after b
    → Stepped old.geometry v (with_block v o.number (Some b)) (pages_of new) (zone_bitmap (zone_in old.geometry b) ∷ b ∷ rest) → kinds_of new b ≡ Some (kind_in o.inode) → ((x : ℕ) → is_among x rest ≡ true → IsListed old.geometry (with_block v o.number (Some b)) old new x)
    → ((x : ℕ) → meta_of old.geometry ≤ x → x ≢ b → is_among x rest ≡ false → kinds_of new x ≡ kinds_of old x) → HasGot old.geometry v (with_block v o.number (Some b)) old new o after
append-with old new v o after b rest c m pick a s kind listed others =
    let g = old.geometry in
    let i = o.number in
    let n = node v i in
    let w = with_block v i (Some b) in
    let r = ready g (pages_of old) v o b c m in
    let here : node w i ≡ longer n b = node-here v i (longer n b) r.low in
    let fine = with_block-uses g v i b c.uses r.low r.free in
    let there : block_in w (Part i (length n.blocks)) ≡ Some b = ap (λ (x : Node). block_in (x ∷ []) (Part 0 (length n.blocks))) here ∙ get-last n.blocks b in
    let right = right-part g w new i (length n.blocks) b o.inode fine there (ap (λ (x : Node). is_used x.body) here ∙ r.used) (ap (λ (x : Inode). x.kind) m.inode ∙ ap (λ (x : Node). kind_of x.body) (sym here)) kind in
    record {
      number = a.number;
      becomes = becomes-with g v w old new b rest c fine (length-set v i (longer n b)) r.free s pick.marks.marks pick.free right listed others;
      inode = appended-inode g v o after b m a ∙ ap inode_of (sym here);
      blocks = a.blocks ∙ ap (λ (xs : List ℕ). xs ++ b ∷ []) m.blocks ∙ ap (λ (x : Node). x.blocks) (sym here);
    }

-- among the first twelve
pub near-got : (old mid new : Working) (v : Volume) (o after : Opened) (b : ℕ) → Carries old.geometry (pages_of old) v → MayGet old.geometry v o b → length o.blocks.items < 12 → IsTakeable old.geometry (pages_of old) b → IsHeld (pages_of old) (inode_block old.geometry o.number)
    → Took old mid b (kind_in o.inode) → IsAppended o after b → Wrote mid new o.number after.inode → HasGot old.geometry v (with_block v o.number (Some b)) old new o after
near-got old mid new v o after b c m near pick table t a p =
    let g = old.geometry in
    let i = o.number in
    let r = ready g (pages_of old) v o b c m in
    let w = with_block v i (Some b) in
    let put = inode-put g mid.geometry (pages_of mid) (pages_of new) i after.inode (inode_of (longer (node v i) b)) t.over.view.geometry (appended-inode g v o after b m a) p.put in
    let small : length (node v i).blocks < 12 = subst (λ (xs : List ℕ). length xs < 12) m.blocks near in
    let s = near-step g v i b (pages_of old) (pages_of mid) (pages_of new) c.uses r.low m.low r.used r.more small r.free r.blank c.fits t.taken put in
    let later : (x : ℕ) → meta_of g ≤ x → kinds_of new x ≡ kinds_of mid x = λ x high. p.kinds x (subst (λ (h : Geometry). meta_of h ≤ x) (sym t.over.view.geometry) high) in
    append-with old new v o after b (inode_block g i ∷ []) c m pick a s (later b m.high ∙ t.kinds.here) (one-listed g w old new (inode_block g i) (table-listed g w old new i m.low table)) (λ x high other out. later x high ∙ t.kinds.others x high other)

-- past the twelfth, where the block of pointers is there
record IsFar (old : Working) (v : Volume) (o : Opened) (b : ℕ) : Type 0 where
  ind : (node v o.number).indirect ≡ Some o.inode.indirect
  many : 12 ≤ length (node v o.number).blocks
  there : (node (with_block v o.number (Some b)) o.number).indirect ≡ Some o.inode.indirect
  apart : b ≢ o.inode.indirect

far-is : (old : Working) (v : Volume) (o : Opened) (b : ℕ) → Carries old.geometry (pages_of old) v → MayGet old.geometry v o b → 12 ≤ length o.blocks.items → o.inode.indirect ≢ 0 → pages_of old b ≡ Some None → IsHeld (pages_of old) o.inode.indirect → IsFar old v o b
far-is old v o b c m many other free held =
    let r = ready old.geometry (pages_of old) v o b c m in
    let n = node v o.number in
    let ind = some-indirect n.indirect o.inode.indirect (ap (λ (x : Inode). x.indirect) m.inode) other in
    record {
      ind = ind;
      many = subst (λ (xs : List ℕ). 12 ≤ length xs) m.blocks many;
      there = ap (λ (x : Node). x.indirect) (node-here v o.number (longer n b) r.low) ∙ ind;
      apart = λ e. had-some (pages_of old) o.inode.indirect _ held (ap (pages_of old) (sym e) ∙ free);
    }

pointer-listed : (old new : Working) (v : Volume) (o : Opened) (b : ℕ) → Carries old.geometry (pages_of old) v → MayGet old.geometry v o b → IsFar old v o b → IsHeld (pages_of old) o.inode.indirect → kinds_of new o.inode.indirect ≡ Some Meta
    → IsListed old.geometry (with_block v o.number (Some b)) old new o.inode.indirect
pointer-listed old new v o b c m f held kind =
    let r = ready old.geometry (pages_of old) v o b c m in
    let fine = with_block-uses old.geometry v o.number b c.uses r.low r.free in
    (none-not (pages_of old) o.inode.indirect _ held, λ h. right-pointers old.geometry (with_block v o.number (Some b)) new o.number o.inode.indirect fine f.there kind)

pointer-put : (old new : Pages) (p b : ℕ) (xs ys : List ℕ) → xs ≡ ys → IsPointerPut old new p (length xs - 12) b → IsPointerPut old new p (length ys - 12) b
pointer-put old new p b xs ys e put = subst (λ (zs : List ℕ). IsPointerPut old new p (length zs - 12) b) e put

-- of a file
pub far_file-got : (old mid new : Working) (v : Volume) (o after : Opened) (b : ℕ) → Carries old.geometry (pages_of old) v → MayGet old.geometry v o b → 12 ≤ length o.blocks.items → o.inode.indirect ≢ 0 → o.inode.kind ≢ 2 → IsTakeable old.geometry (pages_of old) b → IsHeld (pages_of old) o.inode.indirect
    → Took old mid b (kind_in o.inode) → IsAppended o after b → Pointed mid new o.inode.indirect (length o.blocks.items - 12) b → HasGot old.geometry v (with_block v o.number (Some b)) old new o after
far_file-got old mid new v o after b c m many other file pick held t a p =
    let g = old.geometry in
    let i = o.number in
    let n = node v i in
    let q = o.inode.indirect in
    let r = ready g (pages_of old) v o b c m in
    let w = with_block v i (Some b) in
    let f = far-is old v o b c m many other pick.free held in
    let same = file-far n b f.many (file-size n.body (length n.blocks) (λ e. file (ap (λ (x : Inode). x.kind) m.inode ∙ e))) in
    let put = pointer-put (pages_of mid) (pages_of new) q b o.blocks.items n.blocks m.blocks p.put in
    let s = far-step g v i b q (pages_of old) (pages_of mid) (pages_of new) c.uses r.low f.many r.few f.ind same r.free r.blank c.fits t.taken put in
    append-with old new v o after b (q ∷ []) c m pick a s (p.kinds.others b f.apart ∙ t.kinds.here) (one-listed g w old new q (pointer-listed old new v o b c m f held p.kinds.here))
    (λ x high away out. p.kinds.others x (out-more q [] x out).0 ∙ t.kinds.others x high away)

-- of a directory, whose size is written too
pub far_dir-got : (old mid next new : Working) (v : Volume) (o after : Opened) (b : ℕ) → Carries old.geometry (pages_of old) v → MayGet old.geometry v o b → 12 ≤ length o.blocks.items → o.inode.indirect ≢ 0 → IsTakeable old.geometry (pages_of old) b → IsHeld (pages_of old) o.inode.indirect
    → IsHeld (pages_of old) (inode_block old.geometry o.number) → Took old mid b (kind_in o.inode) → IsAppended o after b → Pointed mid next o.inode.indirect (length o.blocks.items - 12) b → Wrote next new o.number after.inode
    → HasGot old.geometry v (with_block v o.number (Some b)) old new o after
far_dir-got old mid next new v o after b c m many other pick held table t a p q =
    let g = old.geometry in
    let i = o.number in
    let n = node v i in
    let d = o.inode.indirect in
    let r = ready g (pages_of old) v o b c m in
    let w = with_block v i (Some b) in
    let f = far-is old v o b c m many other pick.free held in
    let same : next.geometry ≡ g = p.over.view.geometry ∙ t.over.view.geometry in
    let set_pointer = pointer-put (pages_of mid) (pages_of next) d b o.blocks.items n.blocks m.blocks p.put in
    let put = inode-put g next.geometry (pages_of next) (pages_of new) i after.inode (inode_of (longer n b)) same (appended-inode g v o after b m a) q.put in
    let s = far_inode-step g v i b d (pages_of old) (pages_of mid) (pages_of next) (pages_of new) c.uses r.low m.low r.used r.more f.many r.few f.ind r.free r.blank c.fits t.taken set_pointer put in
    let later : (x : ℕ) → meta_of g ≤ x → kinds_of new x ≡ kinds_of next x = λ x high. q.kinds x (subst (λ (h : Geometry). meta_of h ≤ x) (sym same) high) in
    let z = (c.uses.zones (Pointers i) d f.ind).0 in
    append-with old new v o after b (d ∷ inode_block g i ∷ []) c m pick a s (later b m.high ∙ p.kinds.others b f.apart ∙ t.kinds.here)
    (each-more (IsListed g w old new) d (inode_block g i ∷ []) (pointer-listed old new v o b c m f held (later d z ∙ p.kinds.here)) (one-listed g w old new (inode_block g i) (table-listed g w old new i m.low table)))
    (λ x high away out. later x high ∙ p.kinds.others x (out-more d (inode_block g i ∷ []) x out).0 ∙ t.kinds.others x high away)
