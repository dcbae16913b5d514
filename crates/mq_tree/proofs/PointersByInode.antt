-- Pointers, inode by inode.
use Rattle.std.proofs.Common.{◌≡◌, ℕ, ◌<◌, ◌≤◌, refl, sym, ap, subst, ◌∙◌, ◌⊎◌, arith, inl, inr}
use Rattle.std.specs.Prelude.{Bool, true, false, MatchOption, Option, Some, None, nat_lt, slice_index}
use Rattle.std.proofs.lemmas.Bool.{cases_eq, cases_lt, le-ltb, lt-ltb}
use Rattle.mq_blocks.specs.Geometry.{homes_of, meta_of}
use Rattle.mq_blocks.specs.declared.geometry.Geometry.{Geometry}
use Rattle.mq_layout.specs.Inodes.{IsInode}
use Rattle.mq_layout.specs.Places.{inode_block, inodes_of}
use Rattle.mq_layout.specs.declared.inode.Inode.{Inode}
use Rattle.mq_tree.specs.Clean.{ArePointers, HasPointers, IsInZone, IsTable}
use Rattle.mq_tree.specs.Corrupt.{BadPointer, direct, far, indirect, not_direct, not_far, not_indirect}
use Rattle.mq_tree.specs.Decoded.{Stored, count_of, pointer_to, the_inode}
use Rattle.mq_tree.specs.Least.{IsLeast, IsLeastOf}
use Rattle.mq_tree.specs.Pointers.{AreFar, AreNear, HasWrong, IsRight, near, middle, beyond}
use Rattle.mq_tree.proofs.Decoded.{pointer-near}
use Rattle.mq_tree.proofs.Least.{least-same}
use Rattle.mq_tree.proofs.LeastEach.{IsWrongBelow}

wanted : (g : Geometry) (k count p : ℕ) → k < count → IsRight g (nat_lt k count) p → IsInZone g p
wanted g k count p l h = subst (λ t. IsRight g t p) (lt-ltb k count l) h

unwanted : (g : Geometry) (k count p : ℕ) → count ≤ k → IsRight g (nat_lt k count) p → p ≡ 0
unwanted g k count p l h = subst (λ t. IsRight g t p) (le-ltb k count l) h

not-wanted : (g : Geometry) (k count p : ℕ) → k < count → (IsRight g (nat_lt k count) p → ⊥) → IsInZone g p → ⊥
not-wanted g k count p l wrong h = wrong (subst (λ t. IsRight g t p) (sym (lt-ltb k count l)) h)

not-unwanted : (g : Geometry) (k count p : ℕ) → count ≤ k → (IsRight g (nat_lt k count) p → ⊥) → p ≡ 0 → ⊥
not-unwanted g k count p l wrong h = wrong (subst (λ t. IsRight g t p) (sym (le-ltb k count l)) h)

has-pointers : (g : Geometry) (s : Stored) (n : Inode) → count_of n ≤ 1036 → AreNear g n (count_of n) → IsRight g (nat_lt 12 (count_of n)) n.indirect → (12 < count_of n → AreFar g s n (count_of n)) → HasPointers g s n
has-pointers g s n most nears mid rest = record {
  there = λ k l. elim (cases_lt k 12) [
    | inl low ↦ subst (λ p. IsInZone g p) (sym (pointer-near s n k low)) (wanted g k (count_of n) _ l (nears k low))
    | inr high ↦ elim (cases_lt k 1036) [
      | inl small ↦ wanted g k (count_of n) _ l (rest (omega arith) k high small)
      | inr past ↦ absurd (omega arith)
    ]
  ];
  direct = λ k past low. unwanted g k (count_of n) _ past (nears k low);
  many = λ many. wanted g 12 (count_of n) _ many mid;
  few = λ few. unwanted g 12 (count_of n) _ few mid;
  rest = λ k many past small. unwanted g k (count_of n) _ past (rest many k (omega arith) small);
}

near-bad : (g : Geometry) (s : Stored) (i b k : ℕ) → i < inodes_of g → b ≡ inode_block g i → k < 12 → (IsRight g (nat_lt k (count_of (the_inode g s i))) (slice_index (the_inode g s i).direct k) → ⊥) → BadPointer g s b
near-bad g s i b k low is small wrong = elim (cases_lt k (count_of (the_inode g s i))) [
  | inl l ↦ direct i k low is small l (λ h. not-wanted g k (count_of (the_inode g s i)) _ l wrong (subst (λ p. IsInZone g p) (pointer-near s (the_inode g s i) k small) h))
  | inr past ↦ not_direct i k low is past small (not-unwanted g k (count_of (the_inode g s i)) _ past wrong)
]

middle-bad : (g : Geometry) (s : Stored) (i b : ℕ) → i < inodes_of g → b ≡ inode_block g i → (IsRight g (nat_lt 12 (count_of (the_inode g s i))) (the_inode g s i).indirect → ⊥) → BadPointer g s b
middle-bad g s i b low is wrong = elim (cases_lt 12 (count_of (the_inode g s i))) [
  | inl many ↦ indirect i low is many (not-wanted g 12 (count_of (the_inode g s i)) _ many wrong)
  | inr few ↦ not_indirect i low is few (not-unwanted g 12 (count_of (the_inode g s i)) _ few wrong)
]

far-bad : (g : Geometry) (s : Stored) (i b k : ℕ) → i < inodes_of g → b ≡ (the_inode g s i).indirect → IsInZone g b → 12 < count_of (the_inode g s i) → 12 ≤ k → k < 1036 → (IsRight g (nat_lt k (count_of (the_inode g s i))) (pointer_to s (the_inode g s i) k) → ⊥)
    → BadPointer g s b
far-bad g s i b k low is zone many high small wrong = elim (cases_lt k (count_of (the_inode g s i))) [
  | inl l ↦ far i k low is zone high small l (not-wanted g k (count_of (the_inode g s i)) _ l wrong)
  | inr past ↦ not_far i k low is zone many past small (not-unwanted g k (count_of (the_inode g s i)) _ past wrong)
]

-- ---- what is wrong with some inode is wrong with the pointers

wrong-bad : (g : Geometry) (s : Stored) (i b : ℕ) → i < inodes_of g → HasWrong g s i b → BadPointer g s b
wrong-bad g s i b low (near k is small wrong) = near-bad g s i b k low is small wrong
wrong-bad g s i b low (middle is wrong) = middle-bad g s i b low is wrong
wrong-bad g s i b low (beyond k is zone many high small wrong) = far-bad g s i b k low is zone many high small wrong

bad-wrong : (g : Geometry) (s : Stored) (b : ℕ) → BadPointer g s b → IsWrongBelow (HasWrong g s) (inodes_of g) b
bad-wrong g s b (direct i k low is small inside not) = (i, low, near k is small (λ h. not (subst (λ p. IsInZone g p) (sym (pointer-near s (the_inode g s i) k small)) (wanted g k _ _ inside h))))
bad-wrong g s b (not_direct i k low is past small not) = (i, low, near k is small (λ h. not (unwanted g k _ _ past h)))
bad-wrong g s b (indirect i low is many not) = (i, low, middle is (λ h. not (wanted g 12 _ _ many h)))
bad-wrong g s b (not_indirect i low is few not) = (i, low, middle is (λ h. not (unwanted g 12 _ _ few h)))
bad-wrong g s b (far i k low is zone high small inside not) = (i, low, beyond k is zone (omega arith) high small (λ h. not (wanted g k _ _ inside h)))
bad-wrong g s b (not_far i k low is zone many past small not) = (i, low, beyond k is zone many (omega arith) small (λ h. not (unwanted g k _ _ past h)))

-- ---- a search that finds nothing

decide-right : (g : Geometry) (t : Bool) (p : ℕ) → IsRight g t p ⊎ (IsRight g t p → ⊥)
decide-right g true p = elim (cases_lt p (meta_of g)) [
  | inl low ↦ inr (λ h. let f = h.0 in omega arith)
  | inr high ↦ elim (cases_lt p (homes_of g)) [
    | inl inside ↦ inl (high, inside)
    | inr past ↦ inr (λ h. let f = h.1 in omega arith)
  ]
]
decide-right g false p = cases_eq p 0

right-unless : (g : Geometry) (t : Bool) (p : ℕ) → ((IsRight g t p → ⊥) → ⊥) → IsRight g t p
right-unless g t p h = elim (decide-right g t p) [ inl right ↦ right | inr wrong ↦ absurd (h wrong) ]

count-few : (n : Inode) → IsInode n → count_of n ≤ 1036
count-few n form = elim (cases_eq n.kind 0) [
  | inl free ↦ (let z = (form.free free).1 in omega arith)
  | inr used ↦ (let u = (form.used (omega arith)).1 in omega arith)
]

none-wrong : (g : Geometry) (s : Stored) (i : ℕ) → IsInode (the_inode g s i) → ((c : ℕ) → HasWrong g s i c → ⊥) → HasPointers g s (the_inode g s i)
none-wrong g s i form none =
    let mid : IsRight g (nat_lt 12 (count_of (the_inode g s i))) (the_inode g s i).indirect = right-unless g _ _ (λ wrong. none (inode_block g i) (middle refl wrong)) in
    has-pointers g s (the_inode g s i) (count-few (the_inode g s i) form) (λ k small. right-unless g _ _ (λ wrong. none (inode_block g i) (near k refl small wrong))) mid
    (λ many k high small. right-unless g _ _ (λ wrong. none (the_inode g s i).indirect (beyond k refl (wanted g 12 _ _ many mid) many high small wrong)))

-- ---- what searches answer

-- all inodes were looked at
pub pointers-searched : (g : Geometry) (s : Stored) (n : ℕ) (o : Option ℕ) → IsTable g s → n ≡ inodes_of g → IsLeastOf (IsWrongBelow (HasWrong g s) n) o → MatchOption o (ArePointers g s) (IsLeast (BadPointer g s))
pointers-searched g s n None table all h = λ i low. none-wrong g s i (table.inodes i low).0 (λ c w. h c (i, omega arith, w))
pointers-searched g s n (Some b) table all h =
    least-same (IsWrongBelow (HasWrong g s) n) (BadPointer g s) (Some b) (λ c w. wrong-bad g s w.0 c (let l = w.1 in omega arith) w.2) (λ c w. let v = bad-wrong g s c w in (v.0, let l = v.1 in omega arith, v.2)) h

-- Of one inode, as a test sees it: the inode `n` with its count `c`.
pub wrong-inside : (g : Geometry) (s : Stored) (i b : ℕ) → b ≡ inode_block g i → b < meta_of g → HasWrong g s i b → IsLeastOf (HasWrong g s i) (Some b)
wrong-inside g s i b is inside h = record {
  wrong = h;
  least = λ c w. elim w [
    | near k at small wrong ↦ (omega arith)
    | middle at wrong ↦ (omega arith)
    | beyond k at zone many high small wrong ↦ (let z = zone.0 in omega arith)
  ];
}

pub near-found : (g : Geometry) (s : Stored) (i b : ℕ) (n : Inode) (c : ℕ) → n ≡ the_inode g s i → c ≡ count_of n → b ≡ inode_block g i → (k : ℕ) × (k < 12) × (IsRight g (nat_lt k c) (slice_index n.direct k) → ⊥) → HasWrong g s i b
near-found g s i b n c e m is (k, small, wrong) =
    let P : Inode → Type 0 = λ x. IsRight g (nat_lt k (count_of x)) (slice_index x.direct k) → ⊥ in
    let Q : ℕ → Type 0 = λ x. IsRight g (nat_lt k x) (slice_index n.direct k) → ⊥ in
    near k is small (subst P e (subst Q m wrong))

pub middle-found : (g : Geometry) (s : Stored) (i b : ℕ) (n : Inode) (c : ℕ) → n ≡ the_inode g s i → c ≡ count_of n → b ≡ inode_block g i → (IsRight g (nat_lt 12 c) n.indirect → ⊥) → HasWrong g s i b
middle-found g s i b n c e m is wrong =
    let P : Inode → Type 0 = λ x. IsRight g (nat_lt 12 (count_of x)) x.indirect → ⊥ in
    let Q : ℕ → Type 0 = λ x. IsRight g (nat_lt 12 x) n.indirect → ⊥ in
    middle is (subst P e (subst Q m wrong))

-- what is right in the inode leaves the block of pointers
right-near : (g : Geometry) (s : Stored) (i : ℕ) (n : Inode) (c : ℕ) → n ≡ the_inode g s i → c ≡ count_of n → AreNear g n c → AreNear g (the_inode g s i) (count_of (the_inode g s i))
right-near g s i n c e m h = subst (λ x. AreNear g x (count_of x)) e (subst (λ x. AreNear g n x) m h)

right-middle : (g : Geometry) (s : Stored) (i : ℕ) (n : Inode) (c : ℕ) → n ≡ the_inode g s i → c ≡ count_of n → IsRight g (nat_lt 12 c) n.indirect → IsRight g (nat_lt 12 (count_of (the_inode g s i))) (the_inode g s i).indirect
right-middle g s i n c e m h = subst (λ x. IsRight g (nat_lt 12 (count_of x)) x.indirect) e (subst (λ x. IsRight g (nat_lt 12 x) n.indirect) m h)

pub far-found : (g : Geometry) (s : Stored) (i : ℕ) (n : Inode) (c : ℕ) → n ≡ the_inode g s i → c ≡ count_of n → AreNear g n c → IsRight g (nat_lt 12 c) n.indirect → 12 < c → (k : ℕ) × (12 ≤ k) × (k < 1036) × (IsRight g (nat_lt k c) (pointer_to s n k) → ⊥) → IsLeastOf (HasWrong g s i) (Some n.indirect)
far-found g s i n c e m nears mid many (k, high, small, bad) =
    let P : Inode → Type 0 = λ x. IsRight g (nat_lt k (count_of x)) (pointer_to s x k) → ⊥ in
    let Q : ℕ → Type 0 = λ x. IsRight g (nat_lt k x) (pointer_to s n k) → ⊥ in
    let same = m ∙ ap count_of e in
    let is = ap (λ (x : Inode). x.indirect) e in
    record {
      wrong = beyond k is (wanted g 12 c n.indirect many mid) (omega arith) high small (subst P e (subst Q m bad));
      least = λ d w. elim w [
        | near j at low wrong ↦ absurd (wrong (right-near g s i n c e m nears j low))
        | middle at wrong ↦ absurd (wrong (right-middle g s i n c e m mid))
        | beyond j at zone l h sm wrong ↦ (omega arith)
      ];
    }

pub all-found : (g : Geometry) (s : Stored) (i : ℕ) (n : Inode) (c : ℕ) → n ≡ the_inode g s i → c ≡ count_of n → AreNear g n c → IsRight g (nat_lt 12 c) n.indirect → (12 < c → AreFar g s n c) → IsLeastOf (HasWrong g s i) None
all-found g s i n c e m nears mid rest d w =
    let same = m ∙ ap count_of e in
    elim w [
      | near j at low wrong ↦ wrong (right-near g s i n c e m nears j low)
      | middle at wrong ↦ wrong (right-middle g s i n c e m mid)
      | beyond j at zone many high small wrong ↦ wrong (subst (λ x. AreFar g s x (count_of x)) e (subst (λ x. AreFar g s n x) m (rest (omega arith))) j high small)
    ]
