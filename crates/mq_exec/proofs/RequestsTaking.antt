-- The blocks that are picked are taken where an inode grows.
use Rattle.std.proofs.Common.{◌≡◌, ◌≢◌, ℕ, zero, suc, ◌+◌, ◌<◌, ◌⊎◌, inl, inr, List, [], ◌∷◌, length, Bool, true, false, refl, sym, ap, subst, ◌∙◌, arith, length-set}
use Rattle.std.specs.Prelude.{Option, Some, None, is_some, nat_eq, nat_lt, if◌then◌else◌}
use Rattle.std.specs.List.{Contains}
use Rattle.std.proofs.lemmas.Bool.{cases_eq, cases_lt, le-leb, le-ltb, lt-leb, lt-ltb}
use Rattle.std.proofs.lemmas.List.{length-append}
use Rattle.mq_blocks.specs.Geometry.{queues_of}
use Rattle.mq_blocks.specs.declared.geometry.Geometry.{Geometry}
use Rattle.mq_inodes.specs.Opened.{MayLink}
use Rattle.mq_inodes.specs.Picks.{ArePicked}
use Rattle.mq_inodes.specs.declared.opened.Opened.{Opened}
use Rattle.mq_inodes.proofs.OpenedLinkedGrown.{may-grow, picked-enough}
use Rattle.mq_inodes.proofs.ChangesBodies.{rebodied}
use Rattle.mq_inodes.proofs.ChangesFrame.{taken-same}
use Rattle.mq_inodes.proofs.ChangesLinked.{linked-grown, with_entry}
use Rattle.mq_inodes.proofs.ChangesTaken.{longer, with_indirect}
use Rattle.mq_inodes.proofs.ChangesVolumes.{one_more-is, pointed-is, pointed-not, with_block-uses, with_pointers-uses}
use Rattle.mq_inodes.proofs.Picks.{IsTakenMore, block-more, picks-first, picks-free, picks-rest, pointers-more}
use Rattle.mq_tree.specs.Free.{first_of, grown, needs, one_more, order, pointed, with_block, with_pointers}
use Rattle.mq_layout.specs.Slots.{Entry}
use Rattle.mq_tree.specs.Requests.{entry_needs, linked, linked_at, unused, with_body}
use Rattle.mq_tree.specs.Volume.{Body, Dir, Node, Volume, body, has_block, is_taken, node, slots_of}
use Rattle.mq_tree.proofs.Decoded.{taken-use}
use Rattle.mq_tree.proofs.FreeUses.{grown-is, node-here, node-other, past-twelve}
use Rattle.mq_tree.specs.Uses.{AreUses}
use Rattle.mq_tree.proofs.LaidUses.{use-taken}

contains-cases : (x : ℕ) (xs : List ℕ) (b : ℕ) → Contains (x ∷ xs) b → (x ≡ b) ⊎ Contains xs b
contains-cases x xs b (zero, l, e) = inl e
contains-cases x xs b (suc k, l, e) = inr (k, omega arith, e)

pub contains-none : (b : ℕ) → Contains [] b → ⊥
contains-none b (k, l, e) = absurd (omega arith)

more-keeps : (v w : Volume) (b x : ℕ) → IsTakenMore v w b → is_taken v x ≡ true → is_taken w x ≡ true
more-keeps v w b x m t = elim (cases_eq x b) [
  | inl e ↦ ap (is_taken w) e ∙ m.here
  | inr other ↦ m.others x other ∙ t
]

-- ---- what is needed

needs-twelve : (have count : ℕ) → have ≡ 12 → needs have (have + suc count) ≡ suc (suc count)
needs-twelve have count e =
    let a = le-leb have 12 (omega arith) in
    let b = lt-ltb 12 (have + suc count) (omega arith) in
    rw (a, b) (omega arith)

needs-past : (have count : ℕ) → 12 < have → needs have (have + count) ≡ count
needs-past have count more = let a = lt-leb have 12 more in rw a (omega arith)

needs-other : (have count : ℕ) → have ≢ 12 → needs have (have + suc count) ≡ suc (needs (have + 1) (have + 1 + count))
needs-other have count n = elim (cases_lt 12 have) [
  | inl more ↦
      let a = needs-past have (suc count) more in
      let b = needs-past (have + 1) count (omega arith) in
      omega (arith, a, b)
  | inr few ↦
      let a = le-leb have 12 few in
      let b = le-leb (have + 1) 12 (omega arith) in
      let e : have + suc count ≡ have + 1 + count = omega arith in
      rw (a, b, e) (omega arith)
]

-- ---- a block more

-- an inode whose blocks are as they are to be
record IsFit (g : Geometry) (v : Volume) (i : ℕ) : Type 0 where
  low : i < length v
  uses : AreUses g v
  indirect : is_some (node v i).indirect ≡ nat_lt 12 (length (node v i).blocks)

abbrev cost : Volume → ℕ → ℕ → ℕ
cost v i count = needs (length (node v i).blocks) (length (node v i).blocks + count)

record IsNext (g : Geometry) (q : ℕ) (v : Volume) (i count : ℕ) (picks : List ℕ) : Type 0 where
  after : Volume
  is : one_more g q (pointed g q v i) i ≡ after
  fit : IsFit g after i
  rest : List ℕ
  picked : ArePicked g q after (cost after i count) rest
  taken : (b : ℕ) → Contains picks b → (is_taken after b ≡ true) ⊎ Contains rest b

next-other : (g : Geometry) (q : ℕ) (v : Volume) (i count : ℕ) (picks : List ℕ) → q < queues_of g → IsFit g v i → length (node v i).blocks ≢ 12 → ArePicked g q v (suc (needs (length (node v i).blocks + 1) (length (node v i).blocks + 1 + count))) picks → IsNext g q v i count picks
next-other g q v i count [] low f n p = absurd (let e = p.enough in omega arith)
next-other g q v i count (b ∷ bs) low f n p =
    let have = length (node v i).blocks in
    let w = with_block v i (Some b) in
    let here : node w i ≡ longer (node v i) b = node-here v i (longer (node v i) b) f.low in
    let more = block-more v i b f.low in
    let size : length (node w i).blocks ≡ have + 1 = ap (λ (m : Node). length m.blocks) here ∙ length-append (node v i).blocks (b ∷ []) in
    record {
      after = w;
      is = ap (λ (x : Volume). one_more g q x i) (pointed-not g q v i n) ∙ one_more-is g q v i b (picks-first g q v _ b bs p);
      fit = record {
        low = (let e = length-set v i (longer (node v i) b) in let l = f.low in omega arith);
        uses = with_block-uses g v i b f.uses f.low (picks-free g q v _ b bs low p);
        indirect = ap (λ (m : Node). is_some m.indirect) here ∙ f.indirect ∙ past-twelve have n ∙ ap (λ (k : ℕ). nat_lt 12 k) (sym size);
      };
      rest = bs;
      picked = subst (λ (k : ℕ). ArePicked g q w (needs k (k + count)) bs) (sym size) (picks-rest g q v w (needs (have + 1) (have + 1 + count)) b bs low p more);
      taken = λ x h. elim (contains-cases b bs x h) [
        | inl e ↦ inl (ap (is_taken w) (sym e) ∙ more.here)
        | inr r ↦ inr r
      ];
    }

missing : (o : Option ℕ) → is_some o ≡ nat_lt 12 12 → o ≡ None
missing None e = refl
missing (Some b) e = absurd (cc)

next-twelve : (g : Geometry) (q : ℕ) (v : Volume) (i count : ℕ) (picks : List ℕ) → q < queues_of g → IsFit g v i → length (node v i).blocks ≡ 12 → ArePicked g q v (suc (suc count)) picks → IsNext g q v i count picks
next-twelve g q v i count [] low f n p = absurd (let e = p.enough in omega arith)
next-twelve g q v i count (p ∷ []) low f n h = absurd (let e = h.enough in omega arith)
next-twelve g q v i count (p ∷ b ∷ bs) low f n h =
    let u = with_pointers v i (Some p) in
    let none = missing (node v i).indirect (f.indirect ∙ ap (λ (k : ℕ). nat_lt 12 k) n) in
    let there : node u i ≡ with_indirect (node v i) p = node-here v i (with_indirect (node v i) p) f.low in
    let first = pointers-more v i p f.low none in
    let k = picks-rest g q v u (suc count) p (b ∷ bs) low h first in
    let inside : i < length u = (let e = length-set v i (with_indirect (node v i) p) in let l = f.low in omega arith) in
    let uses = with_pointers-uses g v i p f.uses f.low (picks-free g q v _ p (b ∷ bs) low h) in
    let w = with_block u i (Some b) in
    let here : node w i ≡ longer (node u i) b = node-here u i (longer (node u i) b) inside in
    let more = block-more u i b inside in
    let twelve : length (node u i).blocks ≡ 12 = ap (λ (m : Node). length m.blocks) there ∙ n in
    let size : length (node w i).blocks ≡ 13 = ap (λ (m : Node). length m.blocks) here ∙ length-append (node u i).blocks (b ∷ []) ∙ ap (λ (k : ℕ). k + 1) twelve in
    let left : cost w i count ≡ count = needs-past (length (node w i).blocks) count (omega arith) in
    record {
      after = w;
      is = ap (λ (x : Volume). one_more g q x i) (pointed-is g q v i p n (picks-first g q v _ p (b ∷ bs) h)) ∙ one_more-is g q u i b (picks-first g q u _ b bs k);
      fit = record {
        low = (let e = length-set u i (longer (node u i) b) in omega arith);
        uses = with_block-uses g u i b uses inside (picks-free g q u _ b bs low k);
        indirect = ap (λ (m : Node). is_some m.indirect) here ∙ ap (λ (m : Node). is_some m.indirect) there ∙ ap (λ (k : ℕ). nat_lt 12 k) (sym size);
      };
      rest = bs;
      picked = subst (λ (k : ℕ). ArePicked g q w k bs) (sym left) (picks-rest g q u w count b bs low k more);
      taken = λ x c. elim (contains-cases p (b ∷ bs) x c) [
        | inl e ↦ inl (more-keeps u w b x more (ap (is_taken u) (sym e) ∙ first.here))
        | inr r ↦ elim (contains-cases b bs x r) [
          | inl e ↦ inl (ap (is_taken w) (sym e) ∙ more.here)
          | inr l ↦ inr l
        ]
      ];
    }

next-block : (g : Geometry) (q : ℕ) (v : Volume) (i count : ℕ) (picks : List ℕ) → q < queues_of g → IsFit g v i → ArePicked g q v (cost v i (suc count)) picks → IsNext g q v i count picks
next-block g q v i count picks low f p = elim (cases_eq (length (node v i).blocks) 12) [
  | inl e ↦ next-twelve g q v i count picks low f e (subst (λ (k : ℕ). ArePicked g q v k picks) (needs-twelve (length (node v i).blocks) count e) p)
  | inr n ↦ next-other g q v i count picks low f n (subst (λ (k : ℕ). ArePicked g q v k picks) (needs-other (length (node v i).blocks) count n) p)
]

-- ---- growing

grown-keeps : (g : Geometry) (q : ℕ) (v : Volume) (i count : ℕ) (picks : List ℕ) (b : ℕ) → q < queues_of g → IsFit g v i → ArePicked g q v (cost v i count) picks → is_taken v b ≡ true → is_taken (grown g q v i count) b ≡ true
grown-keeps g q v i count picks b low f p t =
    let r = grown-is g q v i count low f.low f.uses f.indirect (picked-enough g q v (cost v i count) picks low p) in
    let u = taken-use v b t in
    use-taken (grown g q v i count) u.0 b (r.kept u.0 b u.1)

fit-takes : (g : Geometry) (q : ℕ) (v : Volume) (i count : ℕ) (picks : List ℕ) (b : ℕ) → q < queues_of g → IsFit g v i → ArePicked g q v (cost v i count) picks → Contains picks b → is_taken (grown g q v i count) b ≡ true
fit-takes g q v i zero picks b low f p c = absurd (none-picked picks (p.enough ∙ needs-none (length (node v i).blocks)) c)
  where
    needs-none : (have : ℕ) → needs have (have + zero) ≡ 0
    needs-none have = elim (cases_lt 12 have) [
      | inl more ↦ needs-past have zero more
      | inr few ↦ let a = le-ltb 12 (have + zero) (omega arith) in let b = le-leb have 12 few in rw (a, b) (omega arith)
    ]

    none-picked : (xs : List ℕ) → length xs ≡ 0 → Contains xs b → ⊥
    none-picked [] e h = contains-none b h
    none-picked (x ∷ xs) e h = absurd (omega arith)
fit-takes g q v i (suc count) picks b low f p c =
    let n = next-block g q v i count picks low f p in
    let same : grown g q n.after i count ≡ grown g q v i (suc count) = ap (λ (x : Volume). grown g q x i count) (sym n.is) in
    ap (λ (x : Volume). is_taken x b) (sym same) ∙ (elim (n.taken b c) [
      | inl t ↦ grown-keeps g q n.after i count n.rest b low n.fit n.picked t
      | inr r ↦ fit-takes g q n.after i count n.rest b low n.fit n.picked r
    ])

pub grown-takes : (g : Geometry) (q : ℕ) (v : Volume) (i count : ℕ) (picks : List ℕ) (b : ℕ) → q < queues_of g → i < length v → AreUses g v → is_some (node v i).indirect ≡ nat_lt 12 (length (node v i).blocks)
    → ArePicked g q v (needs (length (node v i).blocks) (length (node v i).blocks + count)) picks → Contains picks b → is_taken (grown g q v i count) b ≡ true
grown-takes g q v i count picks b low inside uses indirect p c = fit-takes g q v i count picks b low (record { low = inside; uses = uses; indirect = indirect }) p c

-- ---- a directory with an entry more

pub body-taken : (v : Volume) (i : ℕ) (y : Body) (b : ℕ) → i < length v → is_taken (with_body v i y) b ≡ is_taken v b
body-taken v i y b low =
    let here = node-here v i (rebodied (node v i) y) low in
    sym (taken-same v (with_body v i y) i b (λ x other. node-other v i x (rebodied (node v i) y) other) (ap (λ (n : Node). has_block n b) (sym here)))

pub linked-takes : (g : Geometry) (q : ℕ) (v : Volume) (o : Opened) (entry : Entry) (picks : List ℕ) (b : ℕ) → MayLink g q v o entry picks → AreUses g v → o.number < length v → Contains picks b → is_taken (linked g q v o.number entry) b ≡ true
linked-takes g q v o entry picks b m uses low c = go (unused 0 m.slots) refl
  where
    has : is_some (node v o.number).indirect ≡ nat_lt 12 (length (node v o.number).blocks)
    has = m.opened.indirect

    none-picked : (xs : List ℕ) → length xs ≡ 0 → Contains xs b → ⊥
    none-picked [] e h = contains-none b h
    none-picked (x ∷ xs) e h = absurd (omega arith)

    go : (found : Option ℕ) → unused 0 m.slots ≡ found → is_taken (linked g q v o.number entry) b ≡ true
    go (Some k) e = absurd (none-picked picks (m.picked.enough ∙ ap (λ (x : Body). entry_needs (length (node v o.number).blocks) (unused 0 (slots_of x))) m.is ∙ ap (λ (x : Option ℕ). entry_needs (length (node v o.number).blocks) x) e) c)
    go None e =
        let d = o.number in
        let p = subst (λ (xs : List ℕ). ArePicked g q v (needs (length xs) (length xs + 1)) picks) m.opened.blocks (may-grow g q v o entry picks m e).picked in
        let u = grown g q v d 1 in
        let grows = grown-is g q v d 1 m.queue low uses has (picked-enough g q v _ picks m.queue p) in
        let inside : d < length u = (let n = grows.size in omega arith) in
        let is = linked-grown g q v u d m.slots entry m.is e refl in
        ap (λ (x : Volume). is_taken x b) is ∙ body-taken u d (Dir (with_entry m.slots entry)) b inside ∙ grown-takes g q v d 1 picks b m.queue low uses has p c

-- ---- the other inodes

grown-other : (g : Geometry) (q : ℕ) (v : Volume) (i count x : ℕ) → x ≢ i → node (grown g q v i count) x ≡ node v x
grown-other g q v i zero x other = refl
grown-other g q v i (suc count) x other =
    grown-other g q (one_more g q (pointed g q v i) i) i count x other ∙ with_block-other (pointed g q v i) (first_of (pointed g q v i) (order g q)) ∙ pointed-other (nat_eq (length (node v i).blocks) 12)
  where
    with_block-other : (u : Volume) (o : Option ℕ) → node (with_block u i o) x ≡ node u x
    with_block-other u None = refl
    with_block-other u (Some b) = node-other u i x (longer (node u i) b) other

    with_pointers-other : (o : Option ℕ) → node (with_pointers v i o) x ≡ node v x
    with_pointers-other None = refl
    with_pointers-other (Some b) = node-other v i x (with_indirect (node v i) b) other

    pointed-other : (t : Bool) → node (if t then with_pointers v i (first_of v (order g q)) else v) x ≡ node v x
    pointed-other true = with_pointers-other (first_of v (order g q))
    pointed-other false = refl

pub linked-other : (g : Geometry) (q : ℕ) (v : Volume) (d : ℕ) (entry : Entry) (x : ℕ) → x ≢ d → node (linked g q v d entry) x ≡ node v x
linked-other g q v d entry x other = go (unused 0 (slots_of (body v d)))
  where
    go : (found : Option ℕ) → node (linked_at g q v d entry found) x ≡ node v x
    go (Some k) = node-other v d x (rebodied (node v d) _) other
    go None = node-other (grown g q v d 1) d x (rebodied (node (grown g q v d 1) d) _) other ∙ grown-other g q v d 1 x other
