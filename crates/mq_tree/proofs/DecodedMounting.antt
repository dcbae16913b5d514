-- Steps of the phases of a mount.
use Rattle.std.proofs.Common.{get_or, ◌≡◌, ◌≢◌, ℕ, ◌+◌, ◌<◌, ◌≤◌, List, [], ◌∷◌, ◌++◌, length, Bool, true, false, refl, sym, ap, subst, ◌∙◌, arith, below_more}
use Rattle.std.specs.Prelude.{Option, Some, None, slice_index, MatchOption, is_some}
use Rattle.std.specs.Bool.{MatchBool}
use Rattle.std.proofs.lemmas.Bool.{true≢false}
use Rattle.std.proofs.lemmas.List.{get_or_default, get_or_past}
use Rattle.std.proofs.lemmas.List.FromFn.{map-range_with_len_more}
use Rattle.mq_blocks.specs.Blocks.{block_at, content, zeros}
use Rattle.mq_blocks.specs.Geometry.{meta_of, queues_of, zone_size}
use Rattle.mq_blocks.specs.declared.geometry.Geometry.{Geometry}
use Rattle.mq_blocks.proofs.BlocksZeros.{length-zeros, zeros-at}
use Rattle.mq_layout.specs.Bits.{bit_of}
use Rattle.mq_layout.specs.Inodes.{IsInode, ShowsInode, wrong_inode}
use Rattle.mq_layout.specs.Places.{inode_bitmap, inode_block, inode_place, inodes_of, table_first, zone_bitmap}
use Rattle.mq_layout.specs.Superblock.{wrong_super}
use Rattle.mq_layout.specs.declared.inode.Inode.{Inode}
use Rattle.mq_layout.specs.declared.refusal.LayoutRefusal.{LayoutRefusal}
use Rattle.mq_tree.specs.Clean.{IsTable, NoneFrom}
use Rattle.mq_tree.specs.Corrupt.{BadTable, inode_bit, superblock, table_inode, table_rest, zone_bit}
use Rattle.mq_tree.specs.Decoded.{Stored, table_of, the_inode, inodes_in}
use Rattle.mq_tree.specs.Laid.{IsPage}
use Rattle.mq_tree.proofs.Decoded.{inode-decoded, table-at, length-table}

-- ---- pages

pub zeros-page : IsPage zeros
zeros-page = record { whole = length-zeros; bytes = λ k. let e : get_or zeros k 0 ≡ 0 = zeros-at k in omega arith }

-- a block that was looked at, where it is there
pub item-page : (s : Stored) (k : ℕ) (o : Option (List ℕ)) → k < length s → o ≡ get_or s k o → ((b : List ℕ) → o ≡ Some b → IsPage b) → IsPage (block_at s k)
item-page s k o l is h = subst (λ x. IsPage (content x)) (is ∙ get_or_default s k o None l) (go o h)
  where
    go : (o : Option (List ℕ)) → ((b : List ℕ) → o ≡ Some b → IsPage b) → IsPage (content o)
    go None h = zeros-page
    go (Some b) h = h b refl

pub past-page : (s : Stored) (k : ℕ) → length s ≤ k → IsPage (block_at s k)
past-page s k l = subst (λ o. IsPage (content o)) (sym (get_or_past s k None l)) zeros-page

-- ---- the table

pub super-bad : (g : Geometry) (s : Stored) (block : List ℕ) (e : LayoutRefusal) → block ≡ block_at s 0 → wrong_super g block ≡ Some e → BadTable g s 0
super-bad g s block e is wrong = superblock e refl (ap (λ (p : List ℕ). wrong_super g p) (sym is) ∙ wrong)

-- what a search for a set bit found
abbrev pub Found : Option ℕ → List ℕ → ℕ → Type 0
Found o block from = MatchOption o (NoneFrom block from) (λ k. (from ≤ k) × (k < 32768) × (bit_of block k ≡ 1))

pub zone-bad : (g : Geometry) (s : Stored) (zone b : ℕ) (block : List ℕ) (o : Option ℕ) → zone < queues_of g → b ≡ zone_bitmap zone → block ≡ block_at s b → Found o block (zone_size g) → is_some o ≡ true → BadTable g s b
zone-bad g s zone b block None low is at f t = absurd (cc)
zone-bad g s zone b block (Some k) low is at f t = zone_bit zone k low is f.0 f.1 (ap (λ (p : List ℕ). bit_of p k) (sym at) ∙ f.2)

pub inode-bad : (g : Geometry) (s : Stored) (b : ℕ) (block : List ℕ) (o : Option ℕ) (from : ℕ) → from ≡ inodes_of g → b ≡ inode_bitmap g → block ≡ block_at s b → Found o block from → is_some o ≡ true → BadTable g s b
inode-bad g s b block None from n is at f t = absurd (cc)
inode-bad g s b block (Some k) from n is at f t = let h = f.0 in inode_bit k is (omega arith) f.1 (ap (λ (p : List ℕ). bit_of p k) (sym at) ∙ f.2)

pub none-found : (o : Option ℕ) (block : List ℕ) (from : ℕ) → Found o block from → is_some o ≡ false → NoneFrom block from
none-found None block from f t = f
none-found (Some k) block from f t = absurd (cc)

pub table_inode-bad : (g : Geometry) (s : Stored) (i b at : ℕ) (block : List ℕ) (e : LayoutRefusal) → i < inodes_of g → b ≡ inode_block g i → at ≡ inode_place i → block ≡ block_at s b → wrong_inode block at ≡ Some e → BadTable g s b
table_inode-bad g s i b at block e low is place page wrong = table_inode i e low is (ap (λ (p : List ℕ). wrong_inode p (inode_place i)) (sym page) ∙ ap (λ (k : ℕ). wrong_inode block k) (sym place) ∙ wrong)

-- one inode more was read
pub inode-read : (g : Geometry) (s : Stored) (i b at : ℕ) (block : List ℕ) (n : Inode) → b ≡ inode_block g i → at ≡ inode_place i → block ≡ block_at s b → ShowsInode block at n
    → (n ≡ the_inode g s i) × ShowsInode (block_at s (inode_block g i)) (inode_place i) (the_inode g s i)
unfolding the_inode
inode-read g s i b at block n is place page shown =
    let moved : ShowsInode (block_at s (inode_block g i)) (inode_place i) n = subst (λ c. ShowsInode (block_at s c) (inode_place i) n) is (subst (λ k. ShowsInode (block_at s b) k n) place (subst (λ p. ShowsInode p at n) page shown)) in
    let same : n ≡ the_inode g s i = sym (inode-decoded (block_at s (inode_block g i)) (inode_place i) n moved) in
    (same, subst (λ m. ShowsInode (block_at s (inode_block g i)) (inode_place i) m) same moved)

pub table-more : {X : Type 0} (f : ℕ → X) (n : ℕ) (xs ys : List X) (x : X) → xs ≡ table_of n f → ys ≡ xs ++ x ∷ [] → x ≡ f n → ys ≡ table_of (n + 1) f
table-more {X} f n xs ys x e h is =
    h ∙ ap (λ (zs : List X). zs ++ x ∷ []) e ∙ ap (λ (z : X). table_of n f ++ z ∷ []) is ∙ sym (map-range_with_len_more f 0 n n (omega arith))

pub inodes-all : (g : Geometry) (s : Stored) (n : ℕ) (xs : List Inode) → xs ≡ table_of n (the_inode g s) → n ≡ inodes_of g → xs ≡ inodes_in g s
unfolding inodes_in
inodes-all g s n xs e m = e ∙ ap (λ (k : ℕ). table_of k (the_inode g s)) m

pub length-inodes : (g : Geometry) (s : Stored) → length (inodes_in g s) ≡ inodes_of g
unfolding inodes_in
length-inodes g s = length-table (inodes_of g) (the_inode g s)

pub inodes-at : (g : Geometry) (s : Stored) (i : ℕ) (d : Inode) → i < inodes_of g → get_or (inodes_in g s) i d ≡ the_inode g s i
unfolding inodes_in
inodes-at g s i d l = table-at (inodes_of g) (the_inode g s) i d l

pub inodes-some : (g : Geometry) → 0 < inodes_of g
inodes-some g = let m = g.meta_low in omega arith

-- a block past the last inode that is not zeros
pub rest-bad : (g : Geometry) (s : Stored) (b : ℕ) (block : List ℕ) (t : Bool) → table_first g + 1024 ≤ b → b < meta_of g → block ≡ block_at s b
    → MatchBool t ((k : ℕ) → slice_index block k ≡ 0) ((k : ℕ) × (slice_index block k ≢ 0)) → t ≡ false → BadTable g s b
rest-bad g s b block true high low at h e = absurd (true≢false e)
rest-bad g s b block false high low at h e = table_rest h.0 high low (λ z. h.1 (ap (λ (p : List ℕ). slice_index p h.0) at ∙ z))

pub rest-good : (s : Stored) (b : ℕ) (block : List ℕ) (t : Bool) → block ≡ block_at s b → MatchBool t ((k : ℕ) → slice_index block k ≡ 0) ((k : ℕ) × (slice_index block k ≢ 0)) → t ≡ true → (k : ℕ) → slice_index (block_at s b) k ≡ 0
rest-good s b block true at h e k = ap (λ (p : List ℕ). slice_index p k) (sym at) ∙ h k
rest-good s b block false at h e k = absurd (true≢false (sym e))

-- an inode as a loop over them sees it
pub inode-low : (g : Geometry) (s : Stored) (xs : List Inode) (i : ℕ) → xs ≡ inodes_in g s → i < length xs → i < inodes_of g
inode-low g s xs i e l = let n = ap length e in let m = length-inodes g s in omega arith

pub inode-seen : (g : Geometry) (s : Stored) (xs : List Inode) (i : ℕ) (d : Inode) → xs ≡ inodes_in g s → i < length xs → get_or xs i d ≡ the_inode g s i
inode-seen g s xs i d e l = ap (λ (ys : List Inode). get_or ys i d) e ∙ inodes-at g s i d (inode-low g s xs i e l)

pub inode-form : (g : Geometry) (s : Stored) (xs : List Inode) (i : ℕ) (d : Inode) → xs ≡ inodes_in g s → i < length xs → IsTable g s → IsInode (get_or xs i d)
inode-form g s xs i d e l table = subst (λ n. IsInode n) (sym (inode-seen g s xs i d e l)) (table.inodes i (inode-low g s xs i e l)).0

pub inodes-end : (g : Geometry) (s : Stored) (xs : List Inode) (n i : ℕ) → xs ≡ inodes_in g s → length xs ≤ n → i < inodes_of g → i < n
inodes-end g s xs n i e l low = let k = ap length e in let m = length-inodes g s in omega arith

pub inodes-past : (g : Geometry) (s : Stored) (xs : List Inode) (n : ℕ) → xs ≡ inodes_in g s → length xs ≤ n → inodes_of g ≤ n
inodes-past g s xs n e l = let k = ap length e in let m = length-inodes g s in omega arith

-- a loop over all of them ended
pub inodes-all_seen : (g : Geometry) (s : Stored) (xs : List Inode) (n : ℕ) → xs ≡ inodes_in g s → n ≤ length xs → length xs ≤ n → n ≡ inodes_of g
inodes-all_seen g s xs n e few all = let k = ap length e in let m = length-inodes g s in omega arith

-- ---- a test of one inode after another

-- it held of the inodes below this one, and holds of this one
pub each-more : (P : Inode → Type 0) (g : Geometry) (s : Stored) (xs : List Inode) (i : ℕ) (d : Inode) → xs ≡ inodes_in g s → i < length xs → ((k : ℕ) → k < i → P (the_inode g s k)) → P (get_or xs i d) → (k : ℕ) → k < i + 1 → P (the_inode g s k)
each-more P g s xs i d e l all h = below_more (λ k. P (the_inode g s k)) i all (subst P (inode-seen g s xs i d e l) h)
