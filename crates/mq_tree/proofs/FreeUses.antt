-- The blocks of an inode that grows are free ones of the zones, each used once.
use Rattle.std.proofs.Common.{set, ◌≡◌, ◌≢◌, ℕ, zero, suc, ◌+◌, ◌<◌, ◌≤◌, ◌⊎◌, inl, inr, List, [], ◌∷◌, ◌++◌, length, Bool, true, false, cond, refl, sym, ap, subst, ◌∙◌, arith, get_or-set_same, get_or-set_other, length-set, length-append}
use Rattle.std.specs.Prelude.{Option, Some, is_some, nat_eq, nat_lt, slice_get, if◌then◌else◌}
use Rattle.std.proofs.lemmas.Bool.{cases_eq, cases_lt, eq-eqb, false_from_ne_true, le-leb, le-ltb, lt-leb, lt-ltb, ne_eqb, true≢false}
use Rattle.std.proofs.lemmas.Option.{none-some, same_Some}
use Rattle.mq_blocks.specs.Geometry.{homes_of, meta_of, queues_of}
use Rattle.mq_blocks.specs.declared.geometry.Geometry.{Geometry}
use Rattle.mq_tree.specs.Free.{first_of, free_blocks, grown, needs, one_more, order, pointed, with_block, with_pointers}
use Rattle.mq_tree.specs.Links.{HasLinks}
use Rattle.mq_tree.specs.Uses.{AreUses}
use Rattle.mq_tree.specs.Volume.{Node, Volume, body, free_node, node, Use, Part, Pointers, block_in, is_taken}
use Rattle.mq_tree.proofs.Decoded.{taken-use}
use Rattle.mq_tree.proofs.Free.{count-order, first-not_taken, first-some, first-zones, free-more, free-one}
use Rattle.mq_tree.proofs.LaidUses.{use-taken}

-- ---- inodes of a changed volume

pub node-here : (v : Volume) (i : ℕ) (n : Node) → i < length v → node (set v i n) i ≡ n
node-here v i n l = get_or-set_same v i n free_node l

pub node-other : (v : Volume) (i x : ℕ) (n : Node) → x ≢ i → node (set v i n) x ≡ node v x
node-other v i x n other = get_or-set_other v i x n free_node other

-- ---- uses

-- what `w` uses, `v` uses so
abbrev pub IsWithin : Volume → Volume → Type 0
IsWithin w v = (u : Use) (b : ℕ) → block_in w u ≡ Some b → block_in v u ≡ Some b

pub uses-within : (g : Geometry) (v w : Volume) → AreUses g v → IsWithin w v → ((i : ℕ) → HasLinks (body w i) (node w i).links) → AreUses g w
uses-within g v w a h links = record { zones = λ u b e. a.zones u b (h u b e); apart = λ u x b e f. a.apart u x b (h u b e) (h x b f); links = links }

-- where bodies and links stay, they fit still
pub links-kept : (v w : Volume) → ((x : ℕ) → body w x ≡ body v x) → ((x : ℕ) → (node w x).links ≡ (node v x).links) → ((x : ℕ) → HasLinks (body v x) (node v x).links) → (x : ℕ) → HasLinks (body w x) (node w x).links
links-kept v w bodies links h x = subst (λ b. HasLinks b (node w x).links) (sym (bodies x)) (subst (λ k. HasLinks (body v x) k) (sym (links x)) (h x))

taken-within : (v w : Volume) → IsWithin w v → (x : ℕ) → is_taken v x ≡ false → is_taken w x ≡ false
taken-within v w h x n = false_from_ne_true _ (λ t. let r = taken-use w x t in true≢false (sym (use-taken v r.0 x (h r.0 x r.1)) ∙ n))

pub free-within : (g : Geometry) (v w : Volume) → IsWithin w v → free_blocks g v ≤ free_blocks g w
free-within g v w h = free-more g v w (taken-within v w h)

-- `w` uses what `v` uses, and a block more
abbrev IsMore : Volume → Volume → Use → ℕ → Type 0
IsMore v w u b = (x : Use) (c : ℕ) → block_in w x ≡ Some c → (block_in v x ≡ Some c) ⊎ ((x ≡ u) × (c ≡ b))

pub past-twelve : (n : ℕ) → n ≢ 12 → nat_lt 12 n ≡ nat_lt 12 (n + 1)
past-twelve n other = elim (cases_lt 12 n) [
  | inl more ↦ lt-ltb 12 n more ∙ sym (lt-ltb 12 (n + 1) (omega arith))
  | inr few ↦ le-ltb 12 n few ∙ sym (le-ltb 12 (n + 1) (omega arith))
]

pub not-used : (v : Volume) (u : Use) (b c : ℕ) → is_taken v b ≡ false → block_in v u ≡ Some c → c ≢ b
not-used v u b c n e same = true≢false (sym (use-taken v u c e) ∙ ap (λ (x : ℕ). is_taken v x) same ∙ n)

uses-more : (g : Geometry) (v w : Volume) (u : Use) (b : ℕ) → AreUses g v → (meta_of g ≤ b) × (b < homes_of g) → is_taken v b ≡ false → IsMore v w u b → ((i : ℕ) → HasLinks (body w i) (node w i).links) → AreUses g w
uses-more g v w u b a inside free more links = record {
  links = links;
  zones = λ x c e. elim (more x c e) [
    | inl old ↦ a.zones x c old
    | inr new ↦ subst (λ y. (meta_of g ≤ y) × (y < homes_of g)) (sym new.1) inside
  ];
  apart = λ x y c e f. elim (more x c e) [
    | inl old ↦ elim (more y c f) [
      | inl other ↦ a.apart x y c old other
      | inr new ↦ absurd (not-used v x b c free old new.1)
    ]
    | inr new ↦ elim (more y c f) [
      | inl other ↦ absurd (not-used v y b c free other new.1)
      | inr too ↦ new.0 ∙ sym too.0
    ]
  ];
}

uses-free : (g : Geometry) (v w : Volume) (u : Use) (b : ℕ) → IsMore v w u b → free_blocks g v ≤ suc (free_blocks g w)
uses-free g v w u b more = free-one g v w b (λ x other n. false_from_ne_true _ (λ t.
    let r = taken-use w x t in
    elim (more r.0 x r.1) [
      | inl old ↦ true≢false (sym (use-taken v r.0 x old) ∙ n)
      | inr new ↦ other new.1
    ]))

-- ---- one block more

pub push-get : (xs : List ℕ) (b k c : ℕ) → slice_get (xs ++ b ∷ []) k ≡ Some c → (slice_get xs k ≡ Some c) ⊎ ((k ≡ length xs) × (c ≡ b))
push-get [] b zero c e = inr (refl, sym (same_Some b c e))
push-get [] b (suc k) c e = absurd (none-some c e)
push-get (x ∷ xs) b zero c e = inl e
push-get (x ∷ xs) b (suc k) c e = elim (push-get xs b k c e) [
  | inl l ↦ inl l
  | inr r ↦ let h = r.0 in inr (omega arith, r.1)
]

more-block : (v : Volume) (i b : ℕ) → i < length v → IsMore v (with_block v i (Some b)) (Part i (length (node v i).blocks)) b
more-block v i b l (Part j k) c e = elim (cases_eq j i) [
  | inl same ↦
      let n : Node = record { body = (node v i).body; blocks = (node v i).blocks ++ b ∷ []; indirect = (node v i).indirect; links = (node v i).links } in
      let here : slice_get ((node v i).blocks ++ b ∷ []) k ≡ Some c = ap (λ (m : Node). slice_get m.blocks k) (sym (node-here v i n l)) ∙ ap (λ (x : ℕ). slice_get (node (set v i n) x).blocks k) (sym same) ∙ e in
      elim (push-get (node v i).blocks b k c here) [
        | inl old ↦ inl (ap (λ (x : ℕ). slice_get (node v x).blocks k) same ∙ old)
        | inr new ↦ inr (ap (λ (x : ℕ). Part x k) same ∙ ap (λ (x : ℕ). Part i x) new.0, new.1)
      ]
  | inr other ↦ inl (ap (λ (m : Node). slice_get m.blocks k) (sym (node-other v i j _ other)) ∙ e)
]
more-block v i b l (Pointers j) c e = elim (cases_eq j i) [
  | inl same ↦
      let n : Node = record { body = (node v i).body; blocks = (node v i).blocks ++ b ∷ []; indirect = (node v i).indirect; links = (node v i).links } in
      inl (ap (λ (x : ℕ). (node v x).indirect) same ∙ ap (λ (m : Node). m.indirect) (sym (node-here v i n l)) ∙ ap (λ (x : ℕ). (node (set v i n) x).indirect) (sym same) ∙ e)
  | inr other ↦ inl (ap (λ (m : Node). m.indirect) (sym (node-other v i j _ other)) ∙ e)
]

more-pointers : (v : Volume) (i b : ℕ) → i < length v → IsMore v (with_pointers v i (Some b)) (Pointers i) b
more-pointers v i b l (Part j k) c e = elim (cases_eq j i) [
  | inl same ↦
      let n : Node = record { body = (node v i).body; blocks = (node v i).blocks; indirect = Some b; links = (node v i).links } in
      inl (ap (λ (x : ℕ). slice_get (node v x).blocks k) same ∙ ap (λ (m : Node). slice_get m.blocks k) (sym (node-here v i n l)) ∙ ap (λ (x : ℕ). slice_get (node (set v i n) x).blocks k) (sym same) ∙ e)
  | inr other ↦ inl (ap (λ (m : Node). slice_get m.blocks k) (sym (node-other v i j _ other)) ∙ e)
]
more-pointers v i b l (Pointers j) c e = elim (cases_eq j i) [
  | inl same ↦
      let n : Node = record { body = (node v i).body; blocks = (node v i).blocks; indirect = Some b; links = (node v i).links } in
      let here : Some b ≡ Some c = ap (λ (m : Node). m.indirect) (sym (node-here v i n l)) ∙ ap (λ (x : ℕ). (node (set v i n) x).indirect) (sym same) ∙ e in
      inr (ap (λ (x : ℕ). Pointers x) same, sym (same_Some b c here))
  | inr other ↦ inl (ap (λ (m : Node). m.indirect) (sym (node-other v i j _ other)) ∙ e)
]

-- what is used stays so

append-get : (xs ys : List ℕ) (k c : ℕ) → slice_get xs k ≡ Some c → slice_get (xs ++ ys) k ≡ Some c
append-get [] ys k c e = absurd (none-some c e)
append-get (x ∷ xs) ys zero c e = e
append-get (x ∷ xs) ys (suc k) c e = append-get xs ys k c e

block-kept : (v : Volume) (i b : ℕ) → i < length v → IsWithin v (with_block v i (Some b))
block-kept v i b l (Part j k) c e = elim (cases_eq j i) [
  | inl same ↦
      let n : Node = record { body = (node v i).body; blocks = (node v i).blocks ++ b ∷ []; indirect = (node v i).indirect; links = (node v i).links } in
      ap (λ (x : ℕ). slice_get (node (set v i n) x).blocks k) same ∙ ap (λ (m : Node). slice_get m.blocks k) (node-here v i n l)
      ∙ append-get (node v i).blocks (b ∷ []) k c (ap (λ (x : ℕ). slice_get (node v x).blocks k) (sym same) ∙ e)
  | inr other ↦ ap (λ (m : Node). slice_get m.blocks k) (node-other v i j _ other) ∙ e
]
block-kept v i b l (Pointers j) c e = elim (cases_eq j i) [
  | inl same ↦
      let n : Node = record { body = (node v i).body; blocks = (node v i).blocks ++ b ∷ []; indirect = (node v i).indirect; links = (node v i).links } in
      ap (λ (x : ℕ). (node (set v i n) x).indirect) same ∙ ap (λ (m : Node). m.indirect) (node-here v i n l) ∙ ap (λ (x : ℕ). (node v x).indirect) (sym same) ∙ e
  | inr other ↦ ap (λ (m : Node). m.indirect) (node-other v i j _ other) ∙ e
]

no-pointers : {R : Type 0} (o : Option ℕ) (c : ℕ) → is_some o ≡ false → o ≡ Some c → R
no-pointers o c n e = absurd (true≢false (ap (λ (x : Option ℕ). is_some x) (sym e) ∙ n))

pointers-kept : (v : Volume) (i b : ℕ) → i < length v → is_some (node v i).indirect ≡ false → IsWithin v (with_pointers v i (Some b))
pointers-kept v i b l none (Part j k) c e = elim (cases_eq j i) [
  | inl same ↦
      let n : Node = record { body = (node v i).body; blocks = (node v i).blocks; indirect = Some b; links = (node v i).links } in
      ap (λ (x : ℕ). slice_get (node (set v i n) x).blocks k) same ∙ ap (λ (m : Node). slice_get m.blocks k) (node-here v i n l) ∙ ap (λ (x : ℕ). slice_get (node v x).blocks k) (sym same) ∙ e
  | inr other ↦ ap (λ (m : Node). slice_get m.blocks k) (node-other v i j _ other) ∙ e
]
pointers-kept v i b l none (Pointers j) c e = elim (cases_eq j i) [
  | inl same ↦ no-pointers (node v i).indirect c none (ap (λ (x : ℕ). (node v x).indirect) (sym same) ∙ e)
  | inr other ↦ ap (λ (m : Node). m.indirect) (node-other v i j _ other) ∙ e
]

-- what is used beyond that was free
abbrev pub IsFresh : Volume → Volume → Type 0
IsFresh v w = (u : Use) (b : ℕ) → block_in w u ≡ Some b → (block_in v u ≡ Some b) ⊎ (is_taken v b ≡ false)

fresh-more : (v w : Volume) (u : Use) (b : ℕ) → is_taken v b ≡ false → IsMore v w u b → IsFresh v w
fresh-more v w u b free more x c e = elim (more x c e) [
  | inl old ↦ inl old
  | inr new ↦ inr (ap (λ (y : ℕ). is_taken v y) new.1 ∙ free)
]

fresh-then : (v u w : Volume) → IsWithin v u → IsFresh v u → IsFresh u w → IsFresh v w
fresh-then v u w kept first more x b e = elim (more x b e) [
  | inl old ↦ first x b old
  | inr free ↦ inr (taken-within u v kept b free)
]

-- ---- growing

-- an inode has `count` blocks more, and nothing else changed but its block of pointers
pub record IsGrown (g : Geometry) (v w : Volume) (i count : ℕ) : Type 0 where
  pub bodies : (x : ℕ) → body w x ≡ body v x
  pub links : (x : ℕ) → (node w x).links ≡ (node v x).links
  pub rest : (x : ℕ) → x ≢ i → node w x ≡ node v x
  pub size : length w ≡ length v
  pub longer : length (node w i).blocks ≡ length (node v i).blocks + count
  pub indirect : is_some (node w i).indirect ≡ nat_lt 12 (length (node w i).blocks)
  pub uses : AreUses g w
  pub kept : IsWithin v w
  pub fresh : IsFresh v w

-- `cost` blocks are taken at most
record IsTaken (g : Geometry) (v w : Volume) (i count cost : ℕ) (pointers : Bool) : Type 0 where
  bodies : (x : ℕ) → body w x ≡ body v x
  links : (x : ℕ) → (node w x).links ≡ (node v x).links
  rest : (x : ℕ) → x ≢ i → node w x ≡ node v x
  size : length w ≡ length v
  longer : length (node w i).blocks ≡ length (node v i).blocks + count
  indirect : is_some (node w i).indirect ≡ pointers
  uses : AreUses g w
  kept : IsWithin v w
  fresh : IsFresh v w
  free : free_blocks g v ≤ free_blocks g w + cost

bodies-set : (v : Volume) (i : ℕ) (n : Node) → i < length v → n.body ≡ body v i → (x : ℕ) → body (set v i n) x ≡ body v x
bodies-set v i n l e x = elim (cases_eq x i) [
  | inl same ↦ ap (λ (y : ℕ). body (set v i n) y) same ∙ ap (λ (m : Node). m.body) (node-here v i n l) ∙ e ∙ ap (λ (y : ℕ). body v y) (sym same)
  | inr other ↦ ap (λ (m : Node). m.body) (node-other v i x n other)
]

pub links-set : (v : Volume) (i : ℕ) (n : Node) → i < length v → n.links ≡ (node v i).links → (x : ℕ) → (node (set v i n) x).links ≡ (node v x).links
links-set v i n l e x = elim (cases_eq x i) [
  | inl same ↦ ap (λ (y : ℕ). (node (set v i n) y).links) same ∙ ap (λ (m : Node). m.links) (node-here v i n l) ∙ e ∙ ap (λ (y : ℕ). (node v y).links) (sym same)
  | inr other ↦ ap (λ (m : Node). m.links) (node-other v i x n other)
]

some-taken : (g : Geometry) (q : ℕ) (v : Volume) → q < queues_of g → 1 ≤ free_blocks g v → (b : ℕ) × (first_of v (order g q) ≡ Some b)
some-taken g q v low l = let e = count-order g q v low in first-some v (order g q) (omega arith)

block-taken : (g : Geometry) (q : ℕ) (v : Volume) (i : ℕ) (pointers : Bool) → q < queues_of g → i < length v → AreUses g v → is_some (node v i).indirect ≡ pointers → 1 ≤ free_blocks g v → IsTaken g v (one_more g q v i) i 1 1 pointers
block-taken g q v i pointers low l uses has some =
    let r = some-taken g q v low some in
    let b = r.0 in
    let n : Node = record { body = (node v i).body; blocks = (node v i).blocks ++ b ∷ []; indirect = (node v i).indirect; links = (node v i).links } in
    let w = set v i n in
    let more = more-block v i b l in
    let taken : IsTaken g v w i 1 1 pointers = record {
      bodies = bodies-set v i n l refl;
      links = links-set v i n l refl;
      rest = λ x other. node-other v i x n other;
      size = length-set v i n;
      longer = ap (λ (m : Node). length m.blocks) (node-here v i n l) ∙ length-append (node v i).blocks (b ∷ []);
      indirect = ap (λ (m : Node). is_some m.indirect) (node-here v i n l) ∙ has;
      uses = uses-more g v w (Part i (length (node v i).blocks)) b uses (first-zones g q v b low r.1) (first-not_taken v (order g q) b r.1) more (links-kept v w (bodies-set v i n l refl) (links-set v i n l refl) uses.links);
      kept = block-kept v i b l;
      fresh = fresh-more v w (Part i (length (node v i).blocks)) b (first-not_taken v (order g q) b r.1) more;
      free = (let f = uses-free g v w (Part i (length (node v i).blocks)) b more in omega arith);
    } in
    subst (λ o. IsTaken g v (with_block v i o) i 1 1 pointers) (sym r.1) taken

pointers-taken : (g : Geometry) (q : ℕ) (v : Volume) (i : ℕ) → q < queues_of g → i < length v → AreUses g v → is_some (node v i).indirect ≡ false → 1 ≤ free_blocks g v → IsTaken g v (with_pointers v i (first_of v (order g q))) i 0 1 true
pointers-taken g q v i low l uses none some =
    let r = some-taken g q v low some in
    let b = r.0 in
    let n : Node = record { body = (node v i).body; blocks = (node v i).blocks; indirect = Some b; links = (node v i).links } in
    let w = set v i n in
    let more = more-pointers v i b l in
    let taken : IsTaken g v w i 0 1 true = record {
      bodies = bodies-set v i n l refl;
      links = links-set v i n l refl;
      rest = λ x other. node-other v i x n other;
      size = length-set v i n;
      longer = (let e = ap (λ (m : Node). length m.blocks) (node-here v i n l) in omega arith);
      indirect = ap (λ (m : Node). is_some m.indirect) (node-here v i n l);
      uses = uses-more g v w (Pointers i) b uses (first-zones g q v b low r.1) (first-not_taken v (order g q) b r.1) more (links-kept v w (bodies-set v i n l refl) (links-set v i n l refl) uses.links);
      kept = pointers-kept v i b l none;
      fresh = fresh-more v w (Pointers i) b (first-not_taken v (order g q) b r.1) more;
      free = (let f = uses-free g v w (Pointers i) b more in omega arith);
    } in
    subst (λ o. IsTaken g v (with_pointers v i o) i 0 1 true) (sym r.1) taken

-- what the next block takes: one more where it is the thirteenth
abbrev next_cost : ℕ → ℕ
next_cost have = if nat_eq have 12 then 2 else 1

both-taken : (g : Geometry) (v u w : Volume) (i : ℕ) (a b : Bool) (c d e : ℕ) → IsTaken g v u i 0 c a → IsTaken g u w i 1 d b → e ≡ c + d → IsTaken g v w i 1 e b
both-taken g v u w i a b c d e s t is = record {
  bodies = λ x. t.bodies x ∙ s.bodies x;
  links = λ x. t.links x ∙ s.links x;
  rest = λ x other. t.rest x other ∙ s.rest x other;
  size = t.size ∙ s.size;
  longer = (let p = s.longer in let q = t.longer in omega arith);
  indirect = t.indirect;
  uses = t.uses;
  kept = λ x y z. t.kept x y (s.kept x y z);
  fresh = fresh-then v u w s.kept s.fresh t.fresh;
  free = (let p = s.free in let q = t.free in omega arith);
}

next-taken : (g : Geometry) (q : ℕ) (v : Volume) (i : ℕ) → q < queues_of g → i < length v → AreUses g v → is_some (node v i).indirect ≡ nat_lt 12 (length (node v i).blocks) → next_cost (length (node v i).blocks) ≤ free_blocks g v
    → IsTaken g v (one_more g q (pointed g q v i) i) i 1 (next_cost (length (node v i).blocks)) (nat_lt 12 (length (node v i).blocks + 1))
next-taken g q v i low l uses has few = elim (cases_eq (length (node v i).blocks) 12) [
  | inl twelve ↦
      let y = eq-eqb (length (node v i).blocks) 12 twelve in
      let cost : next_cost (length (node v i).blocks) ≡ 2 = ap (λ (b : Bool). cond b 2 1) y in
      let u = with_pointers v i (first_of v (order g q)) in
      let none = has ∙ le-ltb 12 (length (node v i).blocks) (omega arith) in
      let s = pointers-taken g q v i low l uses none (omega arith) in
      let size = s.size in
      let f = s.free in
      let t = block-taken g q u i true low (omega arith) s.uses s.indirect (omega arith) in
      let many : true ≡ nat_lt 12 (length (node v i).blocks + 1) = sym (lt-ltb 12 (length (node v i).blocks + 1) (omega arith)) in
      let whole = both-taken g v u (one_more g q u i) i true true 1 1 (next_cost (length (node v i).blocks)) s t (omega arith) in
      let here : pointed g q v i ≡ u = ap (λ (b : Bool). cond b u v) y in
      subst (λ b. IsTaken g v (one_more g q (pointed g q v i) i) i 1 (next_cost (length (node v i).blocks)) b) many
      (subst (λ x. IsTaken g v (one_more g q x i) i 1 (next_cost (length (node v i).blocks)) true) (sym here) whole)
  | inr not_twelve ↦
      let n = ne_eqb (length (node v i).blocks) 12 not_twelve in
      let cost : next_cost (length (node v i).blocks) ≡ 1 = ap (λ (b : Bool). cond b 2 1) n in
      let u = with_pointers v i (first_of v (order g q)) in
      let t = block-taken g q v i (nat_lt 12 (length (node v i).blocks)) low l uses has (omega arith) in
      let here : pointed g q v i ≡ v = ap (λ (b : Bool). cond b u v) n in
      let same : nat_lt 12 (length (node v i).blocks) ≡ nat_lt 12 (length (node v i).blocks + 1) = past-twelve (length (node v i).blocks) not_twelve in
      subst (λ b. IsTaken g v (one_more g q (pointed g q v i) i) i 1 (next_cost (length (node v i).blocks)) b) same
      (subst (λ x. IsTaken g v (one_more g q x i) i 1 (next_cost (length (node v i).blocks)) (nat_lt 12 (length (node v i).blocks))) (sym here)
      (subst (λ c. IsTaken g v (one_more g q v i) i 1 c (nat_lt 12 (length (node v i).blocks))) (sym cost) t))
]

-- what is needed covers the next block, and what is needed then
needs-next : (have count : ℕ) → needs have (have + suc count) ≡ next_cost have + needs (have + 1) (have + 1 + count)
needs-next have count = elim (cases_eq have 12) [
  | inl e ↦
      let a = eq-eqb have 12 e in
      let b = le-leb have 12 (omega arith) in
      let c = lt-ltb 12 (have + suc count) (omega arith) in
      let d = lt-leb (have + 1) 12 (omega arith) in
      rw (a, b, c, d) (omega arith)
  | inr n ↦ elim (cases_lt 12 have) [
    | inl more ↦
        let a = ne_eqb have 12 n in
        let b = lt-leb have 12 more in
        let d = lt-leb (have + 1) 12 (omega arith) in
        rw (a, b, d) (omega arith)
    | inr few ↦
        let a = ne_eqb have 12 n in
        let b = le-leb have 12 few in
        let d = le-leb (have + 1) 12 (omega arith) in
        let e : have + suc count ≡ have + 1 + count = omega arith in
        rw (a, b, d, e) (omega arith)
  ]
]

pub grown-is : (g : Geometry) (q : ℕ) (v : Volume) (i count : ℕ) → q < queues_of g → i < length v → AreUses g v → is_some (node v i).indirect ≡ nat_lt 12 (length (node v i).blocks)
    → needs (length (node v i).blocks) (length (node v i).blocks + count) ≤ free_blocks g v → IsGrown g v (grown g q v i count) i count
grown-is g q v i zero low l uses has few = record { bodies = λ x. refl; links = λ x. refl; rest = λ x other. refl; size = refl; longer = omega arith; indirect = has; uses = uses; kept = λ u b e. e; fresh = λ u b e. inl e }
grown-is g q v i (suc count) low l uses has few =
    let have = length (node v i).blocks in
    let w = one_more g q (pointed g q v i) i in
    let n = needs-next have count in
    let t = next-taken g q v i low l uses has (omega arith) in
    let size = t.size in
    let longer : length (node w i).blocks ≡ have + 1 = t.longer in
    let free = t.free in
    let enough : needs (length (node w i).blocks) (length (node w i).blocks + count) ≤ free_blocks g w =
    subst (λ k. needs k (k + count) ≤ free_blocks g w) (sym longer) (omega arith) in
    let r = grown-is g q w i count low (omega arith) t.uses (t.indirect ∙ ap (λ (k : ℕ). nat_lt 12 k) (sym longer)) enough in
    let later = r.longer in
    record {
      bodies = λ x. r.bodies x ∙ t.bodies x;
      links = λ x. r.links x ∙ t.links x;
      rest = λ x other. r.rest x other ∙ t.rest x other;
      size = r.size ∙ t.size;
      longer = omega arith;
      indirect = r.indirect;
      uses = r.uses;
      kept = λ u b e. r.kept u b (t.kept u b e);
      fresh = fresh-then v w (grown g q w i count) t.kept t.fresh r.fresh;
    }
