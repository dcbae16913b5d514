-- The blocks that are picked, one after another: each is the first that is free once those before it are
-- taken.
use Rattle.std.proofs.Common.{◌≡◌, ◌≢◌, ℕ, zero, suc, ◌<◌, ◌≤◌, inl, inr, List, [], ◌∷◌, length, take, Bool, true, false, cond, refl, sym, ap, subst, ◌∙◌, arith}
use Rattle.std.specs.Prelude.{Option, Some, None, ◌||◌, if◌then◌else◌, nat_eq}
use Rattle.std.specs.List.{All}
use Rattle.std.proofs.lemmas.Bool.{cases_Bool, cases_eq, eq-eqb, ne_eqb, true≢false}
use Rattle.std.proofs.lemmas.List.Elements.{All-cons}
use Rattle.mq_blocks.proofs.JournalAmong.{among-here, among-push}
use Rattle.mq_blocks.specs.Geometry.{queues_of}
use Rattle.mq_blocks.specs.Journal.{is_among}
use Rattle.mq_blocks.specs.declared.geometry.Geometry.{Geometry}
use Rattle.mq_inodes.specs.Changes.{AreOthers}
use Rattle.mq_inodes.specs.Picks.{ArePicked, free_of}
use Rattle.mq_inodes.proofs.ChangesFrame.{taken-same}
use Rattle.mq_inodes.proofs.ChangesTaken.{IsFree, get-last, longer, with_indirect}
use Rattle.mq_inodes.proofs.ChangesVolumes.{first-free_block}
use Rattle.mq_tree.specs.Free.{count_free, first_of, free_blocks, order, with_block, with_pointers}
use Rattle.mq_tree.specs.Volume.{Free, Node, Part, Pointers, Volume, block_in, has_block, is_block, is_taken, node}
use Rattle.mq_tree.proofs.Free.{count-order, free-one}
use Rattle.mq_tree.proofs.FreeUses.{node-here, node-other}
use Rattle.mq_tree.proofs.LaidUses.{use-taken}

-- ---- the free ones of a list

pub length-free : (v : Volume) (xs : List ℕ) → length (free_of v xs) ≡ count_free v xs
length-free v [] = refl
length-free v (x ∷ xs) =
    let rest = length-free v xs in
    elim (cases_Bool (is_taken v x)) [
      | inl y ↦ rw y rest
      | inr n ↦ rw n (omega (arith, rest))
    ]

free-first : (v : Volume) (xs ys : List ℕ) (b : ℕ) → free_of v xs ≡ b ∷ ys → first_of v xs ≡ Some b
free-first v [] ys b e = absurd (cc)
free-first v (x ∷ xs) ys b e = elim (cases_Bool (is_taken v x)) [
  | inl y ↦ ap (λ (t : Bool). cond t (first_of v xs) (Some x)) y ∙ free-first v xs ys b (ap (λ (t : Bool). cond t (free_of v xs) (x ∷ free_of v xs)) (sym y) ∙ e)
  | inr n ↦
      let same : x ∷ free_of v xs ≡ b ∷ ys = ap (λ (t : Bool). cond t (free_of v xs) (x ∷ free_of v xs)) (sym n) ∙ e in
      let here : x ≡ b = cc in
      ap (λ (t : Bool). cond t (first_of v xs) (Some x)) n ∙ ap (λ (c : ℕ). Some c) here
]

-- ---- one block more is taken

-- just this block is taken more
pub record IsTakenMore (v w : Volume) (b : ℕ) : Type 0 where
  pub here : is_taken w b ≡ true
  pub others : (x : ℕ) → x ≢ b → is_taken w x ≡ is_taken v x

abbrev without : ℕ → List ℕ → List ℕ
without b [] = []
without b (x ∷ xs) = if nat_eq x b then without b xs else x ∷ without b xs

-- what is free then
free-without : (v w : Volume) (b : ℕ) (xs : List ℕ) → IsTakenMore v w b → free_of w xs ≡ without b (free_of v xs)
free-without v w b [] m = refl
free-without v w b (x ∷ xs) m =
    let rest = free-without v w b xs m in
    elim (cases_eq x b) [
      | inl e ↦
          let t : is_taken w x ≡ true = ap (is_taken w) e ∙ m.here in
          ap (λ (s : Bool). cond s (free_of w xs) (x ∷ free_of w xs)) t ∙ rest ∙ either (is_taken v x) x (free_of v xs) (eq-eqb x b e)
      | inr other ↦
          let n : nat_eq x b ≡ false = ne_eqb x b other in
          ap (λ (s : Bool). cond s (free_of w xs) (x ∷ free_of w xs)) (m.others x other) ∙ ap (λ (ys : List ℕ). cond (is_taken v x) ys (x ∷ ys)) rest ∙ same (is_taken v x) x (free_of v xs) n
    ]
  where
    either : (s : Bool) (y : ℕ) (ys : List ℕ) → nat_eq y b ≡ true → without b ys ≡ without b (cond s ys (y ∷ ys))
    either true y ys e = refl
    either false y ys e = sym (ap (λ (s : Bool). cond s (without b ys) (y ∷ without b ys)) e)

    same : (s : Bool) (y : ℕ) (ys : List ℕ) → nat_eq y b ≡ false → cond s (without b ys) (y ∷ without b ys) ≡ without b (cond s ys (y ∷ ys))
    same true y ys e = refl
    same false y ys e = sym (ap (λ (s : Bool). cond s (without b ys) (y ∷ without b ys)) e)

without-few : (b : ℕ) (xs : List ℕ) → length (without b xs) ≤ length xs
without-few b [] = omega arith
without-few b (x ∷ xs) =
    let rest = without-few b xs in
    elim (cases_Bool (nat_eq x b)) [
      | inl y ↦ rw y (omega (arith, rest))
      | inr n ↦ rw n (omega (arith, rest))
    ]

-- where none fewer are left, it was not there
without-all : (b : ℕ) (xs : List ℕ) → length xs ≤ length (without b xs) → (without b xs ≡ xs) × (is_among b xs ≡ false)
without-all b [] l = (refl, refl)
without-all b (x ∷ xs) l =
    let few = without-few b xs in
    elim (cases_Bool (nat_eq x b)) [
      | inl y ↦
          let m : suc (length xs) ≤ length (without b xs) = subst (λ (t : Bool). suc (length xs) ≤ length (cond t (without b xs) (x ∷ without b xs))) y l in
          absurd (omega arith)
      | inr n ↦
          let m : suc (length xs) ≤ suc (length (without b xs)) = subst (λ (t : Bool). suc (length xs) ≤ length (cond t (without b xs) (x ∷ without b xs))) n l in
          let rest = without-all b xs (omega arith) in
          (ap (λ (t : Bool). cond t (without b xs) (x ∷ without b xs)) n ∙ ap (λ (ys : List ℕ). x ∷ ys) rest.0, ap (λ (t : Bool). cond t true (is_among b xs)) n ∙ rest.1)
    ]

-- the others that are free stay so, in order, and the block is not among them
free-rest : (g : Geometry) (q : ℕ) (v w : Volume) (b : ℕ) (ys : List ℕ) → q < queues_of g → free_of v (order g q) ≡ b ∷ ys → IsTakenMore v w b → (free_of w (order g q) ≡ ys) × (is_among b ys ≡ false)
free-rest g q v w b ys low e m =
    let first : without b (b ∷ ys) ≡ without b ys = ap (λ (t : Bool). cond t (without b ys) (b ∷ without b ys)) (eq-eqb b b refl) in
    let left : free_of w (order g q) ≡ without b ys = free-without v w b (order g q) m ∙ ap (without b) e ∙ first in
    let one = free-one g v w b (λ x other n. m.others x other ∙ n) in
    let had : suc (length ys) ≡ free_blocks g v = sym (ap (λ (xs : List ℕ). length xs) e) ∙ length-free v (order g q) ∙ count-order g q v low in
    let has : length (without b ys) ≡ free_blocks g w = sym (ap (λ (xs : List ℕ). length xs) left) ∙ length-free w (order g q) ∙ count-order g q w low in
    let all = without-all b ys (omega arith) in
    (left ∙ all.0, all.1)

-- ---- picks

-- the picks and the rest
record IsSplit (n b : ℕ) (bs zs : List ℕ) : Type 0 where
  rest : List ℕ
  is : zs ≡ b ∷ rest
  tail : bs ≡ take n rest

split-picks : (n b : ℕ) (bs zs : List ℕ) → b ∷ bs ≡ take (suc n) zs → IsSplit n b bs zs
split-picks n b bs [] e = absurd (cc)
split-picks n b bs (z ∷ zs) e =
    let here : b ≡ z = cc in
    let tail : bs ≡ take n zs = cc in
    record { rest = zs; is = ap (λ (c : ℕ). c ∷ zs) (sym here); tail = tail }

pub picks-first : (g : Geometry) (q : ℕ) (v : Volume) (n b : ℕ) (bs : List ℕ) → ArePicked g q v (suc n) (b ∷ bs) → first_of v (order g q) ≡ Some b
picks-first g q v n b bs p = let s = split-picks n b bs (free_of v (order g q)) p.first in free-first v (order g q) s.rest b s.is

pub picks-free : (g : Geometry) (q : ℕ) (v : Volume) (n b : ℕ) (bs : List ℕ) → q < queues_of g → ArePicked g q v (suc n) (b ∷ bs) → IsFree g v b
picks-free g q v n b bs low p = first-free_block g q v b low (picks-first g q v n b bs p)

-- once the first is taken, the rest are picked
pub picks-rest : (g : Geometry) (q : ℕ) (v w : Volume) (n b : ℕ) (bs : List ℕ) → q < queues_of g → ArePicked g q v (suc n) (b ∷ bs) → IsTakenMore v w b → ArePicked g q w n bs
picks-rest g q v w n b bs low p m =
    let s = split-picks n b bs (free_of v (order g q)) p.first in
    let r = free-rest g q v w b s.rest low s.is m in
    record { enough = (let e = p.enough in omega arith); first = s.tail ∙ ap (λ (xs : List ℕ). take n xs) (sym r.0) }

-- ---- volumes with one block more

pub block-more : (v : Volume) (i b : ℕ) → i < length v → IsTakenMore v (with_block v i (Some b)) b
block-more v i b low =
    let w = with_block v i (Some b) in
    let here : node w i ≡ longer (node v i) b = node-here v i (longer (node v i) b) low in
    let o : AreOthers v w i = λ x other. node-other v i x (longer (node v i) b) other in
    let there : block_in w (Part i (length (node v i).blocks)) ≡ Some b = ap (λ (n : Node). block_in (n ∷ []) (Part 0 (length (node v i).blocks))) here ∙ get-last (node v i).blocks b in
    record {
      here = use-taken w (Part i (length (node v i).blocks)) b there;
      others = λ x other. sym (taken-same v w i x o (ap (λ (t : Bool). t || is_block x (node v i).indirect) (sym (among-push (node v i).blocks b x other)) ∙ ap (λ (n : Node). has_block n x) (sym here)));
    }

pub pointers-more : (v : Volume) (i b : ℕ) → i < length v → (node v i).indirect ≡ None → IsTakenMore v (with_pointers v i (Some b)) b
pointers-more v i b low none =
    let w = with_pointers v i (Some b) in
    let here : node w i ≡ with_indirect (node v i) b = node-here v i (with_indirect (node v i) b) low in
    let o : AreOthers v w i = λ x other. node-other v i x (with_indirect (node v i) b) other in
    record {
      here = use-taken w (Pointers i) b (ap (λ (n : Node). n.indirect) here);
      others = λ x other. sym (taken-same v w i x o (ap (λ (p : Option ℕ). is_among x (node v i).blocks || is_block x p) none
          ∙ ap (λ (s : Bool). is_among x (node v i).blocks || s) (sym (ne_eqb b x (λ e. other (sym e)))) ∙ ap (λ (n : Node). has_block n x) (sym here)));
    }

-- with an inode more that has it
abbrev fuller : Volume → ℕ → Volume
fuller v b = record { body = Free; blocks = b ∷ []; indirect = None; links = 0 } ∷ v

fuller-more : (v : Volume) (b : ℕ) → IsTakenMore v (fuller v b) b
fuller-more v b = record {
  here = ap (λ (t : Bool). (t || false) || is_taken v b) (among-here b []);
  others = λ x other. ap (λ (t : Bool). (cond t true false || false) || is_taken v x) (ne_eqb b x (λ e. other (sym e)));
}

-- ---- each pick

-- none is picked twice
pub picks-apart : (g : Geometry) (q : ℕ) (v : Volume) (n b : ℕ) (bs : List ℕ) → q < queues_of g → ArePicked g q v (suc n) (b ∷ bs) → is_among b bs ≡ false
picks-apart g q v n b bs low p =
    let s = split-picks n b bs (free_of v (order g q)) p.first in
    let r = free-rest g q v (fuller v b) b s.rest low s.is (fuller-more v b) in
    ap (is_among b) s.tail ∙ not-taken n s.rest r.1
  where
    not-taken : (k : ℕ) (xs : List ℕ) → is_among b xs ≡ false → is_among b (take k xs) ≡ false
    not-taken zero xs e = refl
    not-taken (suc k) [] e = refl
    not-taken (suc k) (x ∷ xs) e = elim (cases_Bool (nat_eq x b)) [
      | inl y ↦ absurd (true≢false (ap (λ (t : Bool). cond t true (is_among b xs)) (sym y) ∙ e))
      | inr f ↦ ap (λ (t : Bool). cond t true (is_among b (take k xs))) f ∙ not-taken k xs (ap (λ (t : Bool). cond t true (is_among b xs)) (sym f) ∙ e)
    ]

-- what is free where one block more is taken, was free
free-before : (g : Geometry) (v w : Volume) (b x : ℕ) → IsTakenMore v w b → IsFree g w x → IsFree g v x
free-before g v w b x m f =
    let other : x ≢ b = λ e. true≢false (sym (ap (is_taken w) e ∙ m.here) ∙ f.free) in
    record { free = sym (m.others x other) ∙ f.free; high = f.high; home = f.home }

pub picks-all_free : (g : Geometry) (q : ℕ) (v : Volume) (n : ℕ) (bs : List ℕ) → q < queues_of g → ArePicked g q v n bs → All (IsFree g v) bs
picks-all_free g q v n [] low p = λ i d l. absurd (omega arith)
picks-all_free g q v zero (b ∷ bs) low p = absurd (let e = p.enough in omega arith)
picks-all_free g q v (suc n) (b ∷ bs) low p =
    let m = fuller-more v b in
    let rest = picks-all_free g q (fuller v b) n bs low (picks-rest g q v (fuller v b) n b bs low p m) in
    All-cons (IsFree g v) b bs (picks-free g q v n b bs low p) (λ i d l. free-before g v (fuller v b) b _ m (rest i d l))
