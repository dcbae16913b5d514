-- The least block at which marks or paths are not as they should be.
use Rattle.std.proofs.Common.{get_or, ◌≡◌, ◌≢◌, ℕ, ◌*◌, ◌/◌, ◌<◌, ◌≤◌, List, length, Bool, true, false, refl, sym, ap, subst, ◌∙◌, arith, inl, inr}
use Rattle.std.specs.Prelude.{if◌then◌else◌, ◌&&◌, nat_eq, not}
use Rattle.std.proofs.lemmas.Bool.{cases_lt, lt-ltb, ne_eqb, true≢false}
use Rattle.std.proofs.Math.Nat.{mul-le-mul_right}
use Rattle.mq_blocks.specs.Blocks.{block_at}
use Rattle.mq_blocks.specs.Geometry.{queues_of, zone_size}
use Rattle.mq_blocks.specs.declared.geometry.Geometry.{Geometry}
use Rattle.mq_layout.specs.Bits.{bit_of}
use Rattle.mq_layout.specs.Empty.{free_inode}
use Rattle.mq_layout.specs.Places.{inode_bitmap, inode_block, inodes_of, zone_bitmap}
use Rattle.mq_layout.specs.declared.inode.Inode.{Inode}
use Rattle.mq_tree.specs.Clean.{AreMarked, ArePointers, IsTable}
use Rattle.mq_tree.specs.Corrupt.{IsUnmarked, IsUnreached, lost_inode, unmarked_block, unmarked_inode, unused_block, unused_inode}
use Rattle.mq_tree.specs.Decoded.{Stored, inodes_in, the_inode, volume_in}
use Rattle.mq_tree.specs.Laid.{zone_block}
use Rattle.mq_tree.specs.Marks.{AreRight, IsMarkCause, clear, more}
use Rattle.mq_tree.specs.Phases.{Finds, IsBefore, IsFirstIn, counts, dirs, names, pointers, rank, root, shared, table, tails, twins, unmarked, unreached}
use Rattle.mq_tree.specs.Volume.{body, is_taken, is_used}
use Rattle.mq_tree.specs.Walks.{IsWholeWalk, is_seen}
use Rattle.mq_tree.specs.declared.corrupt.CorruptCause.{CorruptCause}
use Rattle.mq_tree.specs.declared.corrupt.CorruptCause.TheVariants.{Unmarked, Unreached}
use Rattle.mq_tree.proofs.DecodedMounting.{inode-seen, length-inodes}
use Rattle.mq_tree.proofs.Decoded.{taken-use}
use Rattle.mq_tree.proofs.LaidUses.{use-taken}
use Rattle.mq_tree.proofs.Parts.{used-for, used-kind}

zero-one : {R : Type 0} (n : ℕ) → n ≡ 0 → n ≡ 1 → R
zero-one n e f = absurd (omega arith)

-- ---- the order of findings

at-or_past : (cause : CorruptCause) (b : ℕ) (other : CorruptCause) (c : ℕ) → b ≤ c → rank cause ≤ rank other → IsBefore cause b other c
at-or_past cause b other c l r = elim (cases_lt b c) [
  | inl less ↦ inl less
  | inr same ↦ inr (omega arith, r)
]

-- it comes before all that is unmarked and all that is unreached
first-of : (g : Geometry) (s : Stored) (b : ℕ) (cause : CorruptCause) → Finds g s 5 cause b → ((c : ℕ) → IsUnmarked g s c → IsBefore cause b Unmarked c) → ((c : ℕ) → IsUnreached g s c → IsBefore cause b Unreached c) → IsFirstIn g s 5 cause b
first-of g s b cause found marks paths = record { found = found; first = by }
  where
    by : (other : CorruptCause) (c : ℕ) → Finds g s 5 other c → IsBefore cause b other c
    by other c (table p e x) = absurd (omega arith)
    by other c (root p e x) = absurd (omega arith)
    by other c (pointers p e x) = absurd (omega arith)
    by other c (dirs p e x) = absurd (omega arith)
    by other c (names p e x) = absurd (omega arith)
    by other c (twins p e x) = absurd (omega arith)
    by other c (shared p e x) = absurd (omega arith)
    by other c (counts p e x) = absurd (omega arith)
    by other c (unmarked p e x) = subst (λ o. IsBefore cause b o c) (sym e) (marks c x)
    by other c (unreached p e x) = subst (λ o. IsBefore cause b o c) (sym e) (paths c x)
    by other c (tails p e x) = absurd (omega arith)

first-unmarked : (g : Geometry) (s : Stored) (b : ℕ) → IsUnmarked g s b → ((c : ℕ) → IsUnmarked g s c → b ≤ c) → ((c : ℕ) → IsUnreached g s c → b ≤ c) → IsFirstIn g s 5 Unmarked b
first-unmarked g s b x marks paths = first-of g s b Unmarked (unmarked refl refl x) (λ c y. at-or_past Unmarked b Unmarked c (marks c y) (omega arith)) (λ c y. at-or_past Unmarked b Unreached c (paths c y) (omega arith))

first-unreached : (g : Geometry) (s : Stored) (b : ℕ) → IsUnreached g s b → (IsUnmarked g s b → ⊥) → ((c : ℕ) → IsUnmarked g s c → b ≤ c) → ((c : ℕ) → IsUnreached g s c → b ≤ c) → IsFirstIn g s 5 Unreached b
first-unreached g s b x not marks paths =
    first-of g s b Unreached (unreached refl refl x)
    (λ c y. elim (cases_lt b c) [
      | inl less ↦ inl less
      | inr past ↦ let l = marks c y in let e : c ≡ b = omega arith in absurd (not (subst (λ d. IsUnmarked g s d) e y))
    ])
    (λ c y. at-or_past Unreached b Unreached c (paths c y) (omega arith))

-- ---- bitmaps

-- the bitmaps of the first zones are as they should be
abbrev pub AreZones : Geometry → Stored → (count : ℕ) → Type 0
AreZones g s count = (z : ℕ) → z < count → AreRight (block_at s (zone_bitmap z)) (λ k. is_taken (volume_in g s) (zone_block g z k)) (zone_size g)

-- what is unmarked or unreached lies past them
unmarked-past : (g : Geometry) (s : Stored) (count c : ℕ) → count ≤ queues_of g → AreZones g s count → IsUnmarked g s c → zone_bitmap count ≤ c
unmarked-past g s count c few zones (unmarked_block z k u low small is used zero) = elim (cases_lt z count) [
  | inl before ↦ zero-one _ (ap (λ (b : ℕ). bit_of (block_at s b) k) (sym is) ∙ zero) (zones z before k small ∙ ap (λ (t : Bool). if t then 1 else 0) (use-taken (volume_in g s) u (zone_block g z k) used.block))
  | inr past ↦ omega arith
]
unmarked-past g s count c few zones (unmarked_inode i low is used zero) = omega arith

unreached-past : (g : Geometry) (s : Stored) (count c : ℕ) → count ≤ queues_of g → AreZones g s count → IsUnreached g s c → zone_bitmap count ≤ c
unreached-past g s count c few zones (unused_block z k low small is free one) = elim (cases_lt z count) [
  | inl before ↦ zero-one _ (zones z before k small ∙ ap (λ (t : Bool). if t then 1 else 0) free) (ap (λ (b : ℕ). bit_of (block_at s b) k) (sym is) ∙ one)
  | inr past ↦ omega arith
]
unreached-past g s count c few zones (unused_inode i low is free one) = omega arith
unreached-past g s count c few zones (lost_inode i low is used none) = let q : 0 ≤ i / 32 = omega arith in omega arith

-- the bitmap of a zone, after those of the zones before it
pub zone-first : (g : Geometry) (s : Stored) (zone b : ℕ) (cause : CorruptCause) → ArePointers g s → zone < queues_of g → b ≡ zone_bitmap zone → AreZones g s zone → IsMarkCause (block_at s b) (λ k. is_taken (volume_in g s) (zone_block g zone k)) (zone_size g) cause → IsFirstIn g s 5 cause b
zone-first g s zone b cause are few at zones (clear k e inside taken zero) =
    let u = taken-use (volume_in g s) (zone_block g zone k) taken in
    subst (λ x. IsFirstIn g s 5 x b) (sym e) (first-unmarked g s b (unmarked_block zone k u.0 few inside at (used-for g s u.0 (zone_block g zone k) are u.1) zero)
    (λ c y. let l = unmarked-past g s zone c (omega arith) zones y in omega arith)
    (λ c y. let l = unreached-past g s zone c (omega arith) zones y in omega arith))
zone-first g s zone b cause are few at zones (more e h) =
    subst (λ x. IsFirstIn g s 5 x b) (sym e) (first-unreached g s b (unused_block zone h.more few h.inside at h.not_used h.set) set
    (λ c y. let l = unmarked-past g s zone c (omega arith) zones y in omega arith)
    (λ c y. let l = unreached-past g s zone c (omega arith) zones y in omega arith))
  where
    set : IsUnmarked g s b → ⊥
    set (unmarked_block z k u low small is used zero) =
        let same : z ≡ zone = omega arith in
        zero-one _ zero (h.all k small (ap (λ (y : ℕ). is_taken (volume_in g s) (zone_block g y k)) (sym same) ∙ use-taken (volume_in g s) u (zone_block g z k) used.block))
    set (unmarked_inode i low is used zero) = omega arith

-- the bitmap of the inodes, after those of all zones
pub inodes-first : (g : Geometry) (s : Stored) (b : ℕ) (cause : CorruptCause) → b ≡ inode_bitmap g → AreZones g s (queues_of g) → IsMarkCause (block_at s b) (λ i. is_used (body (volume_in g s) i)) (inodes_of g) cause → IsFirstIn g s 5 cause b
inodes-first g s b cause at zones (clear i e inside used zero) =
    subst (λ x. IsFirstIn g s 5 x b) (sym e) (first-unmarked g s b (unmarked_inode i inside at used zero)
    (λ c y. let l = unmarked-past g s (queues_of g) c (omega arith) zones y in omega arith)
    (λ c y. let l = unreached-past g s (queues_of g) c (omega arith) zones y in omega arith))
inodes-first g s b cause at zones (more e h) =
    subst (λ x. IsFirstIn g s 5 x b) (sym e) (first-unreached g s b (unused_inode h.more h.inside at h.not_used h.set) set
    (λ c y. let l = unmarked-past g s (queues_of g) c (omega arith) zones y in omega arith)
    (λ c y. let l = unreached-past g s (queues_of g) c (omega arith) zones y in omega arith))
  where
    set : IsUnmarked g s b → ⊥
    set (unmarked_block z k u low small is used zero) = omega arith
    set (unmarked_inode i low is used zero) = zero-one _ zero (h.all i low used)

-- ---- the same marks, said otherwise

same-right : (block : List ℕ) (f h : ℕ → Bool) (n m : ℕ) → n ≡ m → ((k : ℕ) → k < m → f k ≡ h k) → AreRight block f n → AreRight block h m
same-right block f h n m e same a k low = a k (omega arith) ∙ ap (λ (t : Bool). if t then 1 else 0) (same k low)

same-cause : (block : List ℕ) (f h : ℕ → Bool) (n m : ℕ) (cause : CorruptCause) → n ≡ m → ((k : ℕ) → k < m → f k ≡ h k) → IsMarkCause block f n cause → IsMarkCause block h m cause
same-cause block f h n m cause e same (clear k is inside used zero) = let l : k < m = omega arith in clear k is l (sym (same k l) ∙ used) zero
same-cause block f h n m cause e same (more is x) =
    let l : x.more < m = let i = x.inside in omega arith in
    more is (record { all = λ k low t. x.all k (omega arith) (same k low ∙ t); more = x.more; inside = l; not_used = sym (same x.more l) ∙ x.not_used; set = x.set })

used-inodes : (g : Geometry) (s : Stored) (xs : List Inode) → IsTable g s → xs ≡ inodes_in g s → (k : ℕ) → k < inodes_of g → not (nat_eq (get_or xs k free_inode).kind 0) ≡ is_used (body (volume_in g s) k)
used-inodes g s xs form e k low =
    let n = ap length e in
    let m = length-inodes g s in
    sym (used-kind g s k (get_or xs k free_inode) form low (inode-seen g s xs k free_inode e (omega arith)))

pub zone-right : (g : Geometry) (s : Stored) (used : List Bool) (zone b : ℕ) (page : List ℕ) → ((c : ℕ) → get_or used c false ≡ is_taken (volume_in g s) c) → b ≡ zone_bitmap zone → page ≡ block_at s b
    → AreRight page (λ k. get_or used (zone_block g zone k) false) (zone_size g) → AreRight (block_at s (zone_bitmap zone)) (λ k. is_taken (volume_in g s) (zone_block g zone k)) (zone_size g)
zone-right g s used zone b page taken at is h = same-right (block_at s (zone_bitmap zone)) _ _ (zone_size g) (zone_size g) refl (λ k low. taken (zone_block g zone k)) (subst (λ p. AreRight p (λ k. get_or used (zone_block g zone k) false) (zone_size g)) (is ∙ ap (λ (c : ℕ). block_at s c) at) h)

pub zone-refused : (g : Geometry) (s : Stored) (used : List Bool) (zone b : ℕ) (page : List ℕ) (cause : CorruptCause) → ArePointers g s → ((c : ℕ) → get_or used c false ≡ is_taken (volume_in g s) c) → zone < queues_of g → b ≡ zone_bitmap zone → page ≡ block_at s b → AreZones g s zone
    → IsMarkCause page (λ k. get_or used (zone_block g zone k) false) (zone_size g) cause → IsFirstIn g s 5 cause b
zone-refused g s used zone b page cause are taken few at is zones h = zone-first g s zone b cause are few at zones (same-cause (block_at s b) _ _ (zone_size g) (zone_size g) cause refl (λ k low. taken (zone_block g zone k)) (subst (λ p. IsMarkCause p (λ k. get_or used (zone_block g zone k) false) (zone_size g) cause) is h))

pub inodes-right : (g : Geometry) (s : Stored) (xs : List Inode) (b : ℕ) (page : List ℕ) → IsTable g s → xs ≡ inodes_in g s → b ≡ inode_bitmap g → page ≡ block_at s b
    → AreRight page (λ k. not (nat_eq (get_or xs k free_inode).kind 0)) (length xs) → AreRight (block_at s (inode_bitmap g)) (λ i. is_used (body (volume_in g s) i)) (inodes_of g)
inodes-right g s xs b page form e at is h = same-right (block_at s (inode_bitmap g)) _ _ (length xs) (inodes_of g) (ap length e ∙ length-inodes g s) (used-inodes g s xs form e) (subst (λ p. AreRight p (λ k. not (nat_eq (get_or xs k free_inode).kind 0)) (length xs)) (is ∙ ap (λ (c : ℕ). block_at s c) at) h)

pub inodes-refused : (g : Geometry) (s : Stored) (xs : List Inode) (b : ℕ) (page : List ℕ) (cause : CorruptCause) → IsTable g s → xs ≡ inodes_in g s → b ≡ inode_bitmap g → page ≡ block_at s b → AreZones g s (queues_of g)
    → IsMarkCause page (λ k. not (nat_eq (get_or xs k free_inode).kind 0)) (length xs) cause → IsFirstIn g s 5 cause b
inodes-refused g s xs b page cause form e at is zones h = inodes-first g s b cause at zones (same-cause (block_at s b) _ _ (length xs) (inodes_of g) cause (ap length e ∙ length-inodes g s) (used-inodes g s xs form e) (subst (λ p. IsMarkCause p (λ k. not (nat_eq (get_or xs k free_inode).kind 0)) (length xs) cause) is h))

-- ---- paths

zones-marked : (g : Geometry) (s : Stored) → AreMarked g s → AreZones g s (queues_of g)
zones-marked g s marked zone low k small =
    let h = g.homes_high in
    let one : 1 * zone_size g ≤ queues_of g * zone_size g = mul-le-mul_right (zone_size g) g.queues_low in
    marked.zones zone low k (omega arith) ∙ ap (λ (c : Bool). if c && is_taken (volume_in g s) (zone_block g zone k) then 1 else 0) (lt-ltb k (zone_size g) small)

not-unmarked : (g : Geometry) (s : Stored) (b : ℕ) → AreMarked g s → IsUnmarked g s b → ⊥
not-unmarked g s b marked (unmarked_block z k u low small is used zero) =
    zero-one _ (ap (λ (c : ℕ). bit_of (block_at s c) k) (sym is) ∙ zero) (zones-marked g s marked z low k small ∙ ap (λ (c : Bool). if c then 1 else 0) (use-taken (volume_in g s) u (zone_block g z k) used.block))
not-unmarked g s b marked (unmarked_inode i low is used zero) =
    zero-one _ (ap (λ (c : ℕ). bit_of (block_at s c) i) (sym is) ∙ zero) (marked.inodes i (omega arith) ∙ ap (λ (c : Bool). if c then 1 else 0) used)

-- an inode that no path reaches
pub lost-found : (g : Geometry) (s : Stored) (seen : List Bool) (i b : ℕ) (n : Inode) → IsTable g s → IsWholeWalk (volume_in g s) seen → i < inodes_of g → n ≡ the_inode g s i → n.kind ≢ 0 → is_seen seen i ≡ false → b ≡ inode_block g i → IsUnreached g s b
lost-found g s seen i b n form walk low e some new is = lost_inode i low is (used-kind g s i n form low e ∙ ap not (ne_eqb n.kind 0 some)) (λ way h. true≢false (sym (walk.all way i h) ∙ new))

-- the first of them, where all marks are right
pub lost-first : (g : Geometry) (s : Stored) (seen : List Bool) (i b : ℕ) → AreMarked g s → IsWholeWalk (volume_in g s) seen → ((j : ℕ) → j < i → is_used (body (volume_in g s) j) ≡ true → is_seen seen j ≡ true) → b ≡ inode_block g i → IsUnreached g s b → IsFirstIn g s 5 Unreached b
lost-first g s seen i b marked walk before at x = first-unreached g s b x (not-unmarked g s b marked) (λ c y. absurd (not-unmarked g s c marked y)) paths
  where
    paths : (c : ℕ) → IsUnreached g s c → b ≤ c
    paths c (unused_block z k low small is free one) = zero-one _ (zones-marked g s marked z low k small ∙ ap (λ (t : Bool). if t then 1 else 0) free) (ap (λ (b : ℕ). bit_of (block_at s b) k) (sym is) ∙ one)
    paths c (unused_inode j low is free one) = zero-one _ (marked.inodes j (omega arith) ∙ ap (λ (t : Bool). if t then 1 else 0) free) (ap (λ (b : ℕ). bit_of (block_at s b) j) (sym is) ∙ one)
    paths c (lost_inode j low is used none) = elim (cases_lt j i) [
      | inl less ↦ let r = walk.reached j (before j less used) in absurd (none r.0 r.1)
      | inr past ↦ omega arith
    ]
