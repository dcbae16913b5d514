-- What an inode says of its blocks.
use Rattle.std.proofs.Common.{get_or, ◌≡◌, ℕ, ◌+◌, ◌-◌, ◌<◌, ◌≤◌, List, [], ◌∷◌, ◌++◌, length, take, append_assoc, refl, sym, ap, ◌∙◌, arith, inl, inr}
use Rattle.std.specs.Prelude.{Some}
use Rattle.std.proofs.lemmas.Bool.{cases_lt, lt-ltb}
use Rattle.std.proofs.lemmas.List.{get_or_append_left, get_or-append_right, get_or-take, get_or_default, length-append, length-take, same_lists, take_all}
use Rattle.mq_layout.specs.Bits.{pointer_of}
use Rattle.mq_layout.specs.declared.inode.Inode.{Inode}
use Rattle.mq_tree.proofs.CleanLaid.{length-padded}
use Rattle.mq_tree.proofs.LaidClean.{count-is}
use Rattle.mq_tree.specs.Decoded.{table_of}
use Rattle.mq_tree.specs.Laid.{ShowsPointers, inode_of, or_zero, padded}
use Rattle.mq_tree.specs.Sound.{IsNode, blocks_for}
use Rattle.mq_tree.specs.Volume.{Node}
use Rattle.mq_tree.proofs.Decoded.{table-at, length-table}
use Rattle.mq_tree.proofs.DecodedMounting.{table-more}
use Rattle.mq_tree.proofs.LaidUnique.{body-few, padded-at, some-when}

-- its size says how many there are
node-count : (n : Node) → IsNode n → blocks_for (inode_of n).size ≡ length n.blocks
node-count n good = count-is n.body (length n.blocks) good.body

node-few : (n : Node) → IsNode n → length n.blocks ≤ 1036
node-few n good = body-few n.body (length n.blocks) good.body

-- where there are more than twelve, there is a block of pointers
node-pointers : (n : Node) → IsNode n → 12 < length n.blocks → n.indirect ≡ Some (inode_of n).indirect
node-pointers n good many =
    let s = some-when n.indirect (good.indirect ∙ lt-ltb 12 (length n.blocks) many) in
    s.1 ∙ ap (λ (b : ℕ). Some b) (sym (ap or_zero s.1))

blocks-near : (blocks : List ℕ) → length blocks ≤ 12 → take (length blocks) (padded 12 blocks) ≡ blocks
blocks-near blocks few = same_lists _ blocks (let a = length-take (length blocks) (padded 12 blocks) in let b = length-padded 12 blocks in omega arith) (λ k d l.
    let low : k < length blocks = (let a = length-take (length blocks) (padded 12 blocks) in omega arith) in
    get_or-take (length blocks) (padded 12 blocks) k d low ∙ get_or_default (padded 12 blocks) k d 0 (let b = length-padded 12 blocks in omega arith) ∙ padded-at 12 blocks k (omega arith) ∙ get_or_default blocks k 0 d low)

blocks-far : (blocks page : List ℕ) → 12 < length blocks → length blocks ≤ 1036 → ShowsPointers blocks page → padded 12 blocks ++ table_of (length blocks - 12) (pointer_of page) ≡ blocks
blocks-far blocks page many few shows = same_lists _ blocks whole (λ k d l. elim (cases_lt k 12) [
  | inl low ↦
      get_or_append_left (padded 12 blocks) _ d k (let t = twelve in omega arith) ∙ get_or_default (padded 12 blocks) k d 0 (let t = twelve in omega arith) ∙ padded-at 12 blocks k low ∙ get_or_default blocks k 0 d (let w = whole in omega arith)
  | inr high ↦
      let e : 12 + (k - 12) ≡ k = omega arith in
      get_or-append_right (padded 12 blocks) _ 12 k d twelve high ∙ table-at (length blocks - 12) (pointer_of page) (k - 12) d (let w = whole in omega arith) ∙ shows (k - 12) (let w = whole in omega arith)
      ∙ ap (λ (j : ℕ). get_or blocks j 0) e ∙ get_or_default blocks k 0 d (let w = whole in omega arith)
])
  where
    twelve : length (padded 12 blocks) ≡ 12
    twelve = length-padded 12 blocks

    whole : length (padded 12 blocks ++ table_of (length blocks - 12) (pointer_of page)) ≡ length blocks
    whole = length-append (padded 12 blocks) _ ∙ (let a = length-table (length blocks - 12) (pointer_of page) in let t = twelve in omega arith)

-- the blocks as they are gathered, without a block of pointers and with it
pub node-near : (n : Node) (inode : Inode) (count : ℕ) (items : List ℕ) → IsNode n → inode ≡ inode_of n → count ≡ blocks_for inode.size → count ≤ 12 → items ≡ take count inode.direct → items ≡ n.blocks
node-near n inode count items good e c few is =
    let same : count ≡ length n.blocks = c ∙ ap (λ (x : Inode). blocks_for x.size) e ∙ node-count n good in
    is ∙ ap (λ (x : Inode). take count x.direct) e ∙ ap (λ (k : ℕ). take k (padded 12 n.blocks)) same ∙ blocks-near n.blocks (omega arith)

pub node-far : (n : Node) (inode : Inode) (count : ℕ) (page items : List ℕ) → IsNode n → inode ≡ inode_of n → count ≡ blocks_for inode.size → 12 < count → ShowsPointers n.blocks page → items ≡ take count inode.direct ++ table_of (count - 12) (pointer_of page)
    → items ≡ n.blocks
node-far n inode count page items good e c many shows is =
    let same : count ≡ length n.blocks = c ∙ ap (λ (x : Inode). blocks_for x.size) e ∙ node-count n good in
    let few = node-few n good in
    let t = length-padded 12 n.blocks in
    let direct : take count inode.direct ≡ padded 12 n.blocks = ap (λ (x : Inode). take count x.direct) e ∙ take_all count (padded 12 n.blocks) (omega arith) in
    is ∙ ap (λ (xs : List ℕ). xs ++ table_of (count - 12) (pointer_of page)) direct ∙ ap (λ (k : ℕ). padded 12 n.blocks ++ table_of (k - 12) (pointer_of page)) same ∙ blocks-far n.blocks page (omega arith) (omega arith) shows

pub node-many : (n : Node) (inode : Inode) (count : ℕ) → IsNode n → inode ≡ inode_of n → count ≡ blocks_for inode.size → 12 < count → n.indirect ≡ Some inode.indirect
node-many n inode count good e c many =
    let same : count ≡ length n.blocks = c ∙ ap (λ (x : Inode). blocks_for x.size) e ∙ node-count n good in
    node-pointers n good (omega arith) ∙ ap (λ (x : Inode). Some x.indirect) (sym e)

-- one pointer more
pub table-push : {X : Type 0} (f : ℕ → X) (n : ℕ) (old xs ys : List X) (x : X) → xs ≡ old ++ table_of n f → ys ≡ xs ++ x ∷ [] → x ≡ f n → ys ≡ old ++ table_of (n + 1) f
table-push {X} f n old xs ys x e h is =
    h ∙ ap (λ (zs : List X). zs ++ x ∷ []) e ∙ append_assoc old (table_of n f) (x ∷ []) ∙ ap (λ (zs : List X). old ++ zs) (table-more f n (table_of n f) (table_of n f ++ x ∷ []) x refl refl is)
