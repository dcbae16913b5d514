-- Blocks of directories, marked inode by inode.
use Rattle.std.proofs.Common.{get_or, set, replicate, ◌≡◌, ◌≢◌, ℕ, ◌+◌, ◌-◌, ◌<◌, ◌≤◌, inl, inr, List, length, Bool, true, false, refl, sym, ap, subst, ◌∙◌, arith, get_or-set_same, get_or-set_other, length-set}
use Rattle.std.specs.Prelude.{slice_index}
use Rattle.std.proofs.lemmas.Bool.{cases_eq, cases_lt, true≢false}
use Rattle.std.proofs.lemmas.List.{get_or-replicate, get_or_past, length-replicate}
use Rattle.mq_blocks.specs.Blocks.{block_at}
use Rattle.mq_blocks.specs.Geometry.{homes_of, meta_of}
use Rattle.mq_blocks.specs.Windows.{Shows as ShowsBytes}
use Rattle.mq_blocks.specs.declared.geometry.Geometry.{Geometry}
use Rattle.mq_blocks.proofs.Windows.{shows-at}
use Rattle.mq_layout.specs.Fields.{zero_bytes}
use Rattle.mq_layout.specs.Places.{inodes_of}
use Rattle.mq_layout.specs.declared.inode.Inode.{Inode}
use Rattle.mq_layout.proofs.FieldsZeros.{length-zero_bytes, zero_bytes-at}
use Rattle.mq_layout.proofs.Fields.{not-refused}
use Rattle.mq_tree.specs.Clean.{AreDirs, ArePointers, IsDirBlock}
use Rattle.mq_tree.specs.Corrupt.{BadDir, IsPlace, behind_slots, in_slot}
use Rattle.mq_tree.specs.Decoded.{Stored, count_of, pointer_to, the_inode}
use Rattle.mq_tree.specs.Least.{IsLeast}
use Rattle.mq_tree.specs.Parts.{AddsMarks, HasDirBlock, IsBadBlock, LeadsTo}
use Rattle.mq_tree.proofs.Decoded.{slot-not_wrong}

-- ---- marks of one directory

pub adds-none : (g : Geometry) (s : Stored) (n : Inode) (marks : List Bool) → AddsMarks g s n 0 marks marks
adds-none g s n marks = record { size = refl; only = λ b t. inl t; kept = λ b t. t; all = λ b h. absurd (let l = h.low in omega arith) }

pub adds-other : (g : Geometry) (s : Stored) (n : Inode) (count : ℕ) (marks : List Bool) → n.kind ≢ 2 → AddsMarks g s n count marks marks
adds-other g s n count marks other = record { size = refl; only = λ b t. inl t; kept = λ b t. t; all = λ b h. absurd (other h.dir) }

further : (g : Geometry) (s : Stored) (n : Inode) (count b : ℕ) → HasDirBlock g s n count b → HasDirBlock g s n (count + 1) b
further g s n count b h = record { place = h.place; dir = h.dir; low = (let l = h.low in omega arith); there = h.there }

-- the block at one more place was marked
pub adds-more : (g : Geometry) (s : Stored) (n : Inode) (count b : ℕ) (old new : List Bool) → n.kind ≡ 2 → b < length new → LeadsTo g s n count b → AddsMarks g s n count old new → AddsMarks g s n (count + 1) old (set new b true)
adds-more g s n count b old new dir low there a =
    let here : get_or (set new b true) b false ≡ true = get_or-set_same new b true false low in
    let keeps : (x : ℕ) → get_or new x false ≡ true → get_or (set new b true) x false ≡ true = λ x t. elim (cases_eq x b) [
      | inl e ↦ subst (λ y. get_or (set new b true) y false ≡ true) (sym e) here
      | inr other ↦ get_or-set_other new b x true false other ∙ t
    ] in
    record {
      size = length-set new b true ∙ a.size;
      only = λ x t. elim (cases_eq x b) [
        | inl e ↦ inr (record { place = count; dir = dir; low = omega arith; there = subst (λ y. LeadsTo g s n count y) (sym e) there })
        | inr other ↦ elim (a.only x (sym (get_or-set_other new b x true false other) ∙ t)) [
          | inl was ↦ inl was
          | inr h ↦ inr (further g s n count x h)
        ]
      ];
      kept = λ x t. keeps x (a.kept x t);
      all = λ x h. elim (cases_lt h.place count) [
        | inl l ↦ keeps x (a.all x (record { place = h.place; dir = h.dir; low = l; there = h.there }))
        | inr past ↦
            let at : h.place ≡ count = (let l = h.low in omega arith) in
            let same : x ≡ b = h.there.is ∙ ap (λ (k : ℕ). pointer_to s n k) at ∙ sym there.is in
            subst (λ y. get_or (set new b true) y false ≡ true) (sym same) here
      ];
    }

-- no block is at the place
pub adds-nothing : (g : Geometry) (s : Stored) (n : Inode) (count : ℕ) (old new : List Bool) → ((b : ℕ) → LeadsTo g s n count b → ⊥) → AddsMarks g s n count old new → AddsMarks g s n (count + 1) old new
adds-nothing g s n count old new none a = record {
  size = a.size;
  only = λ x t. elim (a.only x t) [ inl was ↦ inl was | inr h ↦ inr (further g s n count x h) ];
  kept = a.kept;
  all = λ x h. elim (cases_lt h.place count) [
    | inl l ↦ a.all x (record { place = h.place; dir = h.dir; low = l; there = h.there })
    | inr past ↦ absurd (let at : h.place ≡ count = (let l = h.low in omega arith) in none x (subst (λ k. LeadsTo g s n k x) at h.there))
  ];
}

-- ---- marks of all directories

-- a block of a directory below this number
abbrev IsOfDir : Geometry → Stored → ℕ → ℕ → Type 0
IsOfDir g s n b = (i : ℕ) × (i < n) × HasDirBlock g s (the_inode g s i) (count_of (the_inode g s i)) b

-- just such blocks are marked
pub record Marks (g : Geometry) (s : Stored) (n : ℕ) (marks : List Bool) : Type 0 where
  pub size : length marks ≡ 32768
  pub only : (b : ℕ) → get_or marks b false ≡ true → IsOfDir g s n b
  pub all : (i b : ℕ) → i < n → HasDirBlock g s (the_inode g s i) (count_of (the_inode g s i)) b → get_or marks b false ≡ true

pub no-marks : (g : Geometry) (s : Stored) (marks : List Bool) (n : ℕ) → marks ≡ replicate n false → n ≡ 32768 → Marks g s 0 marks
no-marks g s marks n e many = record {
  size = ap length e ∙ length-replicate n false ∙ many;
  only = λ b t. absurd (true≢false (sym t ∙ ap (λ (x : List Bool). get_or x b false) e ∙ none b));
  all = λ i b low h. absurd (omega arith);
}
  where
    none : (b : ℕ) → get_or (replicate n false) b false ≡ false
    none b = elim (cases_lt b n) [
      | inl low ↦ get_or-replicate n b false false low
      | inr past ↦ get_or_past (replicate n false) b false (let l = length-replicate n false in omega arith)
    ]

pub marks-more : (g : Geometry) (s : Stored) (i : ℕ) (n : Inode) (old new : List Bool) → n ≡ the_inode g s i → Marks g s i old → AddsMarks g s n (count_of n) old new → Marks g s (i + 1) new
marks-more g s i n old new e m a =
    let b = subst (λ x. AddsMarks g s x (count_of x) old new) e a in
    record {
      size = b.size ∙ m.size;
      only = λ x t. elim (b.only x t) [
        | inl was ↦ (let o = m.only x was in (o.0, (let l = o.1 in omega arith), o.2))
        | inr h ↦ (i, omega arith, h)
      ];
      all = λ k x low h. elim (cases_lt k i) [
        | inl l ↦ b.kept x (m.all k x l h)
        | inr past ↦ (let same : k ≡ i = omega arith in b.all x (subst (λ j. HasDirBlock g s (the_inode g s j) (count_of (the_inode g s j)) x) same h))
      ];
    }

-- ---- blocks in their form

-- a block is not both
pub good-bad : (block : List ℕ) → IsDirBlock block → IsBadBlock block → ⊥
good-bad block good (inl (at, e, small, wrong)) = not-refused _ e (slot-not_wrong block at _ (good.slots at small)) wrong
good-bad block good (inr (k, high, low, wrong)) = wrong (behind block k good.rest high low)
  where
    behind : (block : List ℕ) (k : ℕ) → ShowsBytes block 4080 (zero_bytes 16) → 4080 ≤ k → k < 4096 → slice_index block k ≡ 0
    behind block k shown high low =
        let e : 4080 + (k - 4080) ≡ k = omega arith in
        let l = length-zero_bytes 16 in
        ap (λ (j : ℕ). get_or block j 0) (sym e) ∙ shows-at block 4080 (zero_bytes 16) (k - 4080) shown (omega arith) ∙ zero_bytes-at 16 (k - 4080)

-- ---- what a search over marked blocks answers

-- what is wrong with a block of a directory
bad-parts : (g : Geometry) (s : Stored) (b : ℕ) → BadDir g s b → IsOfDir g s (inodes_of g) b × IsBadBlock (block_at s b)
bad-parts g s b (in_slot i place at e low dir inside p small wrong) = ((i, low, record { place = place; dir = dir; low = inside; there = record { is = p.is; inside = p.inside; through = p.through } }), inl (at, e, small, wrong))
bad-parts g s b (behind_slots i place k low dir inside p high small wrong) = ((i, low, record { place = place; dir = dir; low = inside; there = record { is = p.is; inside = p.inside; through = p.through } }), inr (k, high, small, wrong))

parts-bad : (g : Geometry) (s : Stored) (i b : ℕ) → i < inodes_of g → HasDirBlock g s (the_inode g s i) (count_of (the_inode g s i)) b → IsBadBlock (block_at s b) → BadDir g s b
parts-bad g s i b low h bad =
    let p : IsPlace g s i h.place b = record { is = h.there.is; inside = h.there.inside; through = h.there.through } in
    elim bad [
      | inl x ↦ in_slot i h.place x.0 x.1 low h.dir h.low p x.2 x.3
      | inr x ↦ behind_slots i h.place x.0 low h.dir h.low p x.1 x.2 x.3
    ]

-- marked blocks below this one are in their form
abbrev pub AreGood : Geometry → Stored → List Bool → ℕ → Type 0
AreGood g s marks b = (c : ℕ) → meta_of g ≤ c → c < b → get_or marks c false ≡ true → IsDirBlock (block_at s c)

pub good-more : (g : Geometry) (s : Stored) (marks : List Bool) (b : ℕ) (block : List ℕ) → block ≡ block_at s b → IsDirBlock block → AreGood g s marks b → AreGood g s marks (b + 1)
good-more g s marks b block is good before c high low marked = elim (cases_lt c b) [
  | inl l ↦ before c high l marked
  | inr past ↦ (let same : b ≡ c = omega arith in subst (λ x. IsDirBlock (block_at s x)) same (subst IsDirBlock is good))
]

pub good-unmarked : (g : Geometry) (s : Stored) (marks : List Bool) (b : ℕ) → get_or marks b false ≡ false → AreGood g s marks b → AreGood g s marks (b + 1)
good-unmarked g s marks b none before c high low marked = elim (cases_lt c b) [
  | inl l ↦ before c high l marked
  | inr past ↦ (let same : c ≡ b = omega arith in absurd (true≢false (sym marked ∙ ap (λ (x : ℕ). get_or marks x false) same ∙ none)))
]

pub dirs-least : (g : Geometry) (s : Stored) (n b : ℕ) (marks : List Bool) (block : List ℕ) → n ≡ inodes_of g → Marks g s n marks → AreGood g s marks b → get_or marks b false ≡ true → block ≡ block_at s b → IsBadBlock block → IsLeast (BadDir g s) b
dirs-least g s n b marks block e m good marked is bad =
    let o = m.only b marked in
    record {
      wrong = parts-bad g s o.0 b (let l = o.1 in omega arith) o.2 (subst IsBadBlock is bad);
      least = λ c w. elim (cases_lt c b) [
        | inl low ↦
            let p = bad-parts g s c w in
            absurd (good-bad (block_at s c) (good c p.0.2.there.inside.0 low (m.all p.0.0 c (let l = p.0.1 in omega arith) p.0.2)) p.1)
        | inr high ↦ high
      ];
    }

pub dirs-none : (g : Geometry) (s : Stored) (n b : ℕ) (marks : List Bool) → n ≡ inodes_of g → homes_of g ≤ b → Marks g s n marks → AreGood g s marks b → (c : ℕ) → BadDir g s c → ⊥
dirs-none g s n b marks e all m good c w =
    let p = bad-parts g s c w in
    let z = p.0.2.there.inside in
    good-bad (block_at s c) (good c z.0 (let l = z.1 in omega arith) (m.all p.0.0 c (let l = p.0.1 in omega arith) p.0.2)) p.1

pub dirs-good : (g : Geometry) (s : Stored) (n b : ℕ) (marks : List Bool) → n ≡ inodes_of g → homes_of g ≤ b → Marks g s n marks → AreGood g s marks b → ArePointers g s → AreDirs g s
dirs-good g s n b marks e all m good pointers i place low dir inside =
    let c = pointer_to s (the_inode g s i) place in
    let z = (pointers i low).there place inside in
    let h : HasDirBlock g s (the_inode g s i) (count_of (the_inode g s i)) c = record { place = place; dir = dir; low = inside; there = record { is = refl; inside = z; through = λ high. (pointers i low).many (omega arith) } } in
    good c z.0 (let l = z.1 in omega arith) (m.all i c (omega arith) h)
