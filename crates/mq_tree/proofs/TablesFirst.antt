-- The first phase of a mount: what it finds first.
use Rattle.std.proofs.Common.{get_or, ◌≡◌, ℕ, ◌+◌, ◌%◌, ◌<◌, ◌≤◌, ◌⊎◌, inl, inr, List, false, refl, sym, ap, subst, ◌∙◌, arith}
use Rattle.std.specs.Prelude.{Option, slice_index, is_some}
use Rattle.std.proofs.lemmas.Bool.{cases_lt}
use Rattle.mq_blocks.specs.Blocks.{block_at}
use Rattle.mq_blocks.specs.Geometry.{meta_of, queues_of, zone_size}
use Rattle.mq_blocks.specs.declared.geometry.Geometry.{Geometry}
use Rattle.mq_layout.specs.Bits.{bit_of}
use Rattle.mq_layout.specs.Inodes.{ShowsInode, wrong_inode}
use Rattle.mq_layout.specs.Places.{inode_bitmap, inode_block, inode_place, inodes_of, table_first, zone_bitmap}
use Rattle.mq_layout.specs.Superblock.{super_bytes, wrong_super}
use Rattle.mq_layout.specs.declared.inode.Inode.{Inode}
use Rattle.mq_layout.proofs.SuperblockForms.{super-right}
use Rattle.mq_layout.proofs.Fields.{not-refused}
use Rattle.mq_tree.specs.Clean.{IsTable, NoneFrom}
use Rattle.mq_tree.specs.Corrupt.{BadRoot, BadTable, inode_bit, superblock, table_inode, table_rest, zone_bit}
use Rattle.mq_tree.specs.Decoded.{Stored, table_of, the_inode}
use Rattle.mq_tree.specs.Phases.{Finds, IsBefore, RefusesIn, counts, dirs, names, pointers, root, shared, table, tails, twins, unmarked, unreached}
use Rattle.mq_tree.specs.Tables.{IsTableBefore}
use Rattle.mq_tree.specs.declared.corrupt.CorruptCause.{CorruptCause}
use Rattle.mq_tree.specs.declared.corrupt.CorruptCause.TheVariants.{Layout, Kind}
use Rattle.mq_tree.specs.declared.corrupt.MountRefusal.{MountRefusal}
use Rattle.mq_tree.specs.declared.corrupt.MountRefusal.TheVariants.{Corrupt}
use Rattle.mq_tree.proofs.Decoded.{inode-not_wrong, table-at}
use Rattle.mq_tree.proofs.DecodedMounting.{Found, none-found}

-- ---- no finding lies before a block up to which all is in its form

zero-one : {R : Type 0} (n : ℕ) → n ≡ 0 → n ≡ 1 → R
zero-one n e f = absurd (omega arith)

refuted : (g : Geometry) (s : Stored) (b c : ℕ) → IsTableBefore g s b → c < b → BadTable g s c → ⊥
refuted g s b c before low (superblock e is wrong) = not-refused _ e (ap (λ (c : ℕ). wrong_super g (block_at s c)) is ∙ super-right g (block_at s 0) (before.super (omega arith))) wrong
refuted g s b c before low (zone_bit zone k few is past inside one) = zero-one _ (ap (λ (c : ℕ). bit_of (block_at s c) k) is ∙ before.zones zone few (omega arith) k past inside) one
refuted g s b c before low (inode_bit k is past inside one) = zero-one _ (ap (λ (c : ℕ). bit_of (block_at s c) k) is ∙ before.marks (omega arith) k past inside) one
refuted g s b c before low (table_inode i e few is wrong) = not-refused _ e (ap (λ (c : ℕ). wrong_inode (block_at s c) (inode_place i)) is ∙ inode-not_wrong _ _ _ (before.inodes i few (omega arith))) wrong
refuted g s b c before low (table_rest k high inside not) = not (before.rest c k high inside low)

none-before : (g : Geometry) (s : Stored) (b c : ℕ) → IsTableBefore g s b → BadTable g s c → b ≤ c
none-before g s b c before bad = elim (cases_lt c b) [ inl low ↦ absurd (refuted g s b c before low bad) | inr high ↦ high ]

-- what the phase finds
finds-one : (g : Geometry) (s : Stored) (cause : CorruptCause) (b : ℕ) → Finds g s 1 cause b → ((cause ≡ Layout) × BadTable g s b) ⊎ ((cause ≡ Kind) × BadRoot g s b)
finds-one g s cause b (table p e h) = inl (e, h)
finds-one g s cause b (root p e h) = inr (e, h)
finds-one g s cause b (pointers p e h) = absurd (omega arith)
finds-one g s cause b (dirs p e h) = absurd (omega arith)
finds-one g s cause b (names p e h) = absurd (omega arith)
finds-one g s cause b (twins p e h) = absurd (omega arith)
finds-one g s cause b (shared p e h) = absurd (omega arith)
finds-one g s cause b (counts p e h) = absurd (omega arith)
finds-one g s cause b (unmarked p e h) = absurd (omega arith)
finds-one g s cause b (unreached p e h) = absurd (omega arith)
finds-one g s cause b (tails p e h) = absurd (omega arith)

at-or-past : (b c n m : ℕ) → b ≤ c → n ≤ m → (b < c) ⊎ ((b ≡ c) × (n ≤ m))
at-or-past b c n m low rank = elim (cases_lt b c) [ inl l ↦ inl l | inr past ↦ inr (omega arith, rank) ]

-- ---- the refusals of the checks

pub layout-first : (g : Geometry) (s : Stored) (b : ℕ) (r : MountRefusal) → IsTableBefore g s b → (inode_block g 0 < b → (the_inode g s 0).kind ≡ 2) → BadTable g s b → r ≡ Corrupt Layout b → RefusesIn g s 1 r
layout-first g s b r before dir bad is = subst (λ x. RefusesIn g s 1 x) (sym is) (record { found = table refl refl bad; first = first })
  where
    first : (other : CorruptCause) (c : ℕ) → Finds g s 1 other c → IsBefore Layout b other c
    first other c h = elim (finds-one g s other c h) [
      | inl t ↦ subst (λ x. IsBefore Layout b x c) (sym t.0) (at-or-past b c 1 1 (none-before g s b c before t.1) (omega arith))
      | inr t ↦ subst (λ x. IsBefore Layout b x c) (sym t.0) (at-or-past b c 1 2 (elim (cases_lt c b) [
        | inl low ↦ absurd (let at = t.1.at in t.1.not_dir (dir (omega arith)))
        | inr high ↦ high
      ]) (omega arith))
    ]

pub root-first : (g : Geometry) (s : Stored) (b : ℕ) (r : MountRefusal) → IsTableBefore g s (inode_block g 32) → BadRoot g s b → r ≡ Corrupt Kind b → RefusesIn g s 1 r
root-first g s b r before bad is = subst (λ x. RefusesIn g s 1 x) (sym is) (record { found = root refl refl bad; first = first })
  where
    first : (other : CorruptCause) (c : ℕ) → Finds g s 1 other c → IsBefore Kind b other c
    first other c h = elim (finds-one g s other c h) [
      | inl t ↦ inl (let l = none-before g s (inode_block g 32) c before t.1 in let at = bad.at in omega arith)
      | inr t ↦ subst (λ x. IsBefore Kind b x c) (sym t.0) (inr (let at = bad.at in let e = t.1.at in omega arith, omega arith))
    ]

-- ---- one check after another

pub before-none : (g : Geometry) (s : Stored) → IsTableBefore g s 0
before-none g s = record {
  super = λ l. absurd (omega arith);
  zones = λ zone few l. absurd (omega arith);
  marks = λ l. absurd (omega arith);
  inodes = λ i few l. absurd (omega arith);
  rest = λ c k high inside l. absurd (omega arith);
}

pub before-super : (g : Geometry) (s : Stored) → block_at s 0 ≡ super_bytes g → IsTableBefore g s 1
before-super g s is = record {
  super = λ l. is;
  zones = λ zone few l. absurd (omega arith);
  marks = λ l. absurd (omega arith);
  inodes = λ i few l. absurd (omega arith);
  rest = λ c k high inside l. absurd (omega arith);
}

-- a bitmap in which a search found nothing
pub clear-at : (s : Stored) (b c : ℕ) (block : List ℕ) (o : Option ℕ) (from n : ℕ) → b ≡ c → block ≡ block_at s b → from ≡ n → Found o block from → is_some o ≡ false → NoneFrom (block_at s c) n
clear-at s b c block o from n at is e found none =
    subst (λ x. NoneFrom (block_at s x) n) at (subst (λ x. NoneFrom x n) is (subst (λ x. NoneFrom block x) e (none-found o block from found none)))

-- the bitmap of one zone more
pub before-zone : (g : Geometry) (s : Stored) (z : ℕ) → z < queues_of g → NoneFrom (block_at s (zone_bitmap z)) (zone_size g) → IsTableBefore g s (1 + z) → IsTableBefore g s (1 + (z + 1))
before-zone g s z few none before = record {
  super = λ l. before.super (omega arith);
  zones = λ zone low l. elim (cases_lt zone z) [
    | inl below ↦ before.zones zone low (omega arith)
    | inr past ↦ (let e : z ≡ zone = omega arith in subst (λ x. NoneFrom (block_at s (zone_bitmap x)) (zone_size g)) e none)
  ];
  marks = λ l. absurd (omega arith);
  inodes = λ i low l. absurd (omega arith);
  rest = λ c k high inside l. absurd (omega arith);
}

pub before-marks : (g : Geometry) (s : Stored) → NoneFrom (block_at s (inode_bitmap g)) (inodes_of g) → IsTableBefore g s (inode_bitmap g) → IsTableBefore g s (table_first g)
before-marks g s none before = record {
  super = λ l. before.super (omega arith);
  zones = λ zone few l. before.zones zone few (omega arith);
  marks = λ l. none;
  inodes = λ i few l. absurd (omega arith);
  rest = λ c k high inside l. absurd (omega arith);
}

pub before-less : (g : Geometry) (s : Stored) (a b : ℕ) → a ≤ b → IsTableBefore g s b → IsTableBefore g s a
before-less g s a b less before = record {
  super = λ l. before.super (omega arith);
  zones = λ zone few l. before.zones zone few (omega arith);
  marks = λ l. before.marks (omega arith);
  inodes = λ i few l. before.inodes i few (omega arith);
  rest = λ c k high inside l. before.rest c k high inside (omega arith);
}

-- inodes of blocks from this one on
pub before-inodes : (g : Geometry) (s : Stored) (n m : ℕ) → n % 32 ≡ 0 → m ≤ inodes_of g → n ≤ m → IsTableBefore g s (inode_block g n) → ((i : ℕ) → n ≤ i → i < m → ShowsInode (block_at s (inode_block g i)) (inode_place i) (the_inode g s i)) → IsTableBefore g s (inode_block g m)
before-inodes g s n m whole most up before shown = record {
  super = λ l. before.super (omega arith);
  zones = λ zone few l. before.zones zone few (omega arith);
  marks = λ l. before.marks (omega arith);
  inodes = λ i few l. elim (cases_lt i n) [
    | inl low ↦ before.inodes i few (omega arith)
    | inr past ↦ shown i past (omega arith)
  ];
  rest = λ c k high inside l. absurd (omega arith);
}

pub before-rest : (g : Geometry) (s : Stored) → IsTableBefore g s (inode_block g (inodes_of g)) → IsTableBefore g s (table_first g + 1024)
before-rest g s before = record {
  super = λ l. before.super (omega arith);
  zones = λ zone few l. before.zones zone few (omega arith);
  marks = λ l. before.marks (omega arith);
  inodes = λ i few l. before.inodes i few (omega arith);
  rest = λ c k high inside l. absurd (omega arith);
}

-- one block of zeros more
pub before-zeros : (g : Geometry) (s : Stored) (b : ℕ) → table_first g + 1024 ≤ b → ((k : ℕ) → slice_index (block_at s b) k ≡ 0) → IsTableBefore g s b → IsTableBefore g s (b + 1)
before-zeros g s b high zero before = record {
  super = λ l. before.super (omega arith);
  zones = λ zone few l. before.zones zone few (omega arith);
  marks = λ l. before.marks (omega arith);
  inodes = λ i few l. before.inodes i few (omega arith);
  rest = λ c k past inside l. elim (cases_lt c b) [
    | inl low ↦ before.rest c k past inside low
    | inr at ↦ (let e : b ≡ c = omega arith in subst (λ x. slice_index (block_at s x) k ≡ 0) e (zero k))
  ];
}

-- the whole region
pub before-all : (g : Geometry) (s : Stored) → (the_inode g s 0).kind ≡ 2 → IsTableBefore g s (meta_of g) → IsTable g s
before-all g s dir before =
    let low = g.meta_low in
    record {
      super = before.super (omega arith);
      zones = λ zone few. before.zones zone few (omega arith);
      marks = before.marks (omega arith);
      inodes = λ i few. before.inodes i few (omega arith);
      rest = λ b k high inside. before.rest b k high inside inside;
      root = dir;
    }

-- inode 0, read with others
pub root-among : (g : Geometry) (s : Stored) (n : ℕ) (xs : List Inode) (d : Inode) → xs ≡ table_of n (the_inode g s) → 0 < n → get_or xs 0 d ≡ the_inode g s 0
root-among g s n xs d e some = ap (λ (ys : List Inode). get_or ys 0 d) e ∙ table-at n (the_inode g s) 0 d some
