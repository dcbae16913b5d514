-- Where two volumes show something else in the zones: at the blocks that the second uses in the ways that a list
-- names.
use Rattle.std.proofs.Common.{get_or, set, ◌≡◌, ◌≢◌, ◌⊎◌, inl, inr, ℕ, zero, suc, ◌+◌, ◌-◌, ◌*◌, ◌/◌, ◌<◌, ◌≤◌, List, [], ◌∷◌, ◌++◌, length, take, replicate, Bool, true, false, cond, refl, sym, ap, subst, ◌∙◌, arith, get_or-set_other, length-append, length-set, length-take}
use Rattle.std.specs.Prelude.{Option, Some, None, nat_eq, nat_le, nat_lt, slice_get, slice_index, if◌then◌else◌}
use Rattle.std.specs.List.{Contains}
use Rattle.std.proofs.lemmas.Bool.{cases_eq, cases_lt}
use Rattle.std.proofs.lemmas.List.{get_or_append_left, get_or-append_right, get_or_past}
use Rattle.std.proofs.lemmas.Option.{none-some, slice_get_within}
use Rattle.mq_blocks.specs.declared.geometry.Geometry.{Geometry}
use Rattle.mq_inodes.specs.Changes.{AreOthers}
use Rattle.mq_inodes.proofs.ChangesLinked.{linked-grown, linked-here, with_entry}
use Rattle.mq_layout.specs.Slots.{Entry, ShowsSlot}
use Rattle.mq_run_laws.proofs.Pairs.{here, in-left, in-right, there}
use Rattle.mq_tree.specs.Free.{first_of, grown, one_more, order, pointed, with_block, with_pointers}
use Rattle.mq_tree.specs.Laid.{ShowsPart, ShowsPointers, ShowsUse}
use Rattle.mq_tree.specs.Requests.{freed, linked, released, resized, unused, with_body, with_links}
use Rattle.mq_tree.specs.Sound.{blocks_for}
use Rattle.mq_tree.specs.Volume.{Body, Dir, File, Node, Part, Pointers, Use, Volume, block_in, body, free_node, node}
use Rattle.mq_tree.proofs.FreeUses.{node-here, node-other, push-get}
use Rattle.mq_tree.proofs.RequestsNodes.{none-all}
use Rattle.mq_tree.proofs.VolumeChanges.{take-get}

-- the block is used so, and the page shows it
abbrev pub Stands : Volume → Use → (b : ℕ) → (page : List ℕ) → Type 0
Stands v u b page = (block_in v u ≡ Some b) × ShowsUse v u page

-- what stands in the second volume, for a use that is not listed, stands in the first
pub record Touches (v w : Volume) (uses : List Use) : Type 0 where
  pub rest : (u : Use) (b : ℕ) (page : List ℕ) → block_in w u ≡ Some b → ShowsUse w u page → Contains uses u ⊎ Stands v u b page

pub touches-none : (v : Volume) → Touches v v []
touches-none v = record { rest = λ u b page is shows. inr (is, shows) }

pub touches-then : (v u w : Volume) (xs ys : List Use) → Touches v u xs → Touches u w ys → Touches v w (ys ++ xs)
touches-then v u w xs ys first later = record {
  rest = λ x b page is shows. elim (later.rest x b page is shows) [
    | inl c ↦ inl (in-left ys xs x c)
    | inr s ↦ elim (first.rest x b page s.0 s.1) [ inl c ↦ inl (in-right ys xs x c) | inr t ↦ inr t ]
  ];
}

-- ---- one inode changes

along : (v w : Volume) (u : Use) (b : ℕ) (page : List ℕ) (i : ℕ) → AreOthers v w i → (owner : ℕ) → owner ≢ i → ((k : ℕ) × (u ≡ Part owner k)) ⊎ (u ≡ Pointers owner) → Stands w u b page → Stands v u b page
along v w u b page i o j other (inl p) s =
    let at : Stands w (Part j p.0) b page = subst (λ (x : Use). Stands w x b page) p.1 s in
    subst (λ (x : Use). Stands v x b page) (sym p.1) (subst (λ (n : Node). (slice_get n.blocks p.0 ≡ Some b) × ShowsPart n.body p.0 page) (o j other) at)
along v w u b page i o j other (inr p) s =
    let at : Stands w (Pointers j) b page = subst (λ (x : Use). Stands w x b page) p s in
    subst (λ (x : Use). Stands v x b page) (sym p) (subst (λ (n : Node). (n.indirect ≡ Some b) × ShowsPointers n.blocks page) (o j other) at)

pub touches-at : (v w : Volume) (i : ℕ) (uses : List Use) → AreOthers v w i → ((k b : ℕ) (page : List ℕ) → Stands w (Part i k) b page → Contains uses (Part i k) ⊎ Stands v (Part i k) b page)
    → ((b : ℕ) (page : List ℕ) → Stands w (Pointers i) b page → Contains uses (Pointers i) ⊎ Stands v (Pointers i) b page) → Touches v w uses
touches-at v w i uses o parts pointers = record { rest = rest }
  where
    rest : (u : Use) (b : ℕ) (page : List ℕ) → block_in w u ≡ Some b → ShowsUse w u page → Contains uses u ⊎ Stands v u b page
    rest (Part j k) b page is shows = elim (cases_eq j i) [
      | inl same ↦ subst (λ (x : ℕ). Stands w (Part x k) b page → Contains uses (Part x k) ⊎ Stands v (Part x k) b page) (sym same) (parts k b page) (is, shows)
      | inr other ↦ inr (along v w (Part j k) b page i o j other (inl (k, refl)) (is, shows))
    ]
    rest (Pointers j) b page is shows = elim (cases_eq j i) [
      | inl same ↦ subst (λ (x : ℕ). Stands w (Pointers x) b page → Contains uses (Pointers x) ⊎ Stands v (Pointers x) b page) (sym same) (pointers b page) (is, shows)
      | inr other ↦ inr (along v w (Pointers j) b page i o j other (inr refl) (is, shows))
    ]

-- ---- without blocks, or with the same

pub bare-touches : (v : Volume) (i : ℕ) (n : Node) → i < length v → n.blocks ≡ [] → n.indirect ≡ None → Touches v (set v i n) []
bare-touches v i n low bs ind =
    let at : node (set v i n) i ≡ n = node-here v i n low in
    touches-at v (set v i n) i [] (λ x other. node-other v i x n other) (λ k b page s. absurd (none-some b (ap (λ (xs : List ℕ). slice_get xs k) (sym bs) ∙ ap (λ (m : Node). slice_get m.blocks k) (sym at) ∙ s.0)))
    (λ b page s. absurd (none-some b (sym ind ∙ ap (λ (m : Node). m.indirect) (sym at) ∙ s.0)))

linked-node-touches : (v : Volume) (i links : ℕ) → i < length v → Touches v (with_links v i links) []
linked-node-touches v i links low =
    let n : Node = record { body = body v i; blocks = (node v i).blocks; indirect = (node v i).indirect; links = links } in
    let at : node (set v i n) i ≡ n = node-here v i n low in
    touches-at v (set v i n) i [] (λ x other. node-other v i x n other) (λ k b page s. inr (subst (λ (m : Node). (slice_get m.blocks k ≡ Some b) × ShowsPart m.body k page) at s))
    (λ b page s. inr (subst (λ (m : Node). (m.indirect ≡ Some b) × ShowsPointers m.blocks page) at s))

either-touches : (v x y : Volume) (uses : List Use) (t : Bool) → Touches v x uses → Touches v y uses → Touches v (cond t x y) uses
either-touches v x y uses true a b = a
either-touches v x y uses false a b = b

pub released-touches : (v : Volume) (i : ℕ) → i < length v → Touches v (released v i) []
released-touches v i low =
    either-touches v (freed v i) (with_links v i ((node v i).links - 1)) [] (nat_le (node v i).links 1) (bare-touches v i free_node low refl refl) (linked-node-touches v i ((node v i).links - 1) low)

-- ---- a directory that differs at one slot

pub dir-touches : (v : Volume) (d place : ℕ) (slots new : List (Option Entry)) → d < length v → body v d ≡ Dir slots → ((l : ℕ) → l ≢ place → get_or new l None ≡ get_or slots l None) → Touches v (with_body v d (Dir new)) (Part d (place / 15) ∷ [])
dir-touches v d place slots new low was rest = touches-at v (set v d n) d (Part d (place / 15) ∷ []) (λ x other. node-other v d x n other) parts pointers
  where
    n : Node
    n = record { body = Dir new; blocks = (node v d).blocks; indirect = (node v d).indirect; links = (node v d).links }

    at : node (set v d n) d ≡ n
    at = node-here v d n low

    shows-old : (k : ℕ) (page : List ℕ) → k ≢ place / 15 → ShowsPart (Dir new) k page → ShowsPart (Dir slots) k page
    shows-old k page other s = ((λ j l. subst (λ (x : Option Entry). ShowsSlot page j x) (rest (15 * k + j) (λ e. other (omega (arith, e, l)))) (s.0 j l)), s.1)

    parts : (k b : ℕ) (page : List ℕ) → Stands (set v d n) (Part d k) b page → Contains (Part d (place / 15) ∷ []) (Part d k) ⊎ Stands v (Part d k) b page
    parts k b page s = elim (cases_eq k (place / 15)) [
      | inl same ↦ inl (subst (λ (x : ℕ). Contains (Part d (place / 15) ∷ []) (Part d x)) (sym same) (here (Part d (place / 15)) []))
      | inr other ↦
          let now : (slice_get n.blocks k ≡ Some b) × ShowsPart n.body k page = subst (λ (m : Node). (slice_get m.blocks k ≡ Some b) × ShowsPart m.body k page) at s in
          inr (now.0, subst (λ (y : Body). ShowsPart y k page) (sym was) (shows-old k page other now.1))
    ]

    pointers : (b : ℕ) (page : List ℕ) → Stands (set v d n) (Pointers d) b page → Contains (Part d (place / 15) ∷ []) (Pointers d) ⊎ Stands v (Pointers d) b page
    pointers b page s = inr (subst (λ (m : Node). (m.indirect ≡ Some b) × ShowsPointers m.blocks page) at s)

-- ---- an inode that grows

-- it has its blocks, and perhaps others behind them
record Grows (v w : Volume) (i most : ℕ) : Type 0 where
  others : AreOthers v w i
  body_is : body w i ≡ body v i
  size : length w ≡ length v
  least : length (node v i).blocks ≤ length (node w i).blocks
  few : length (node w i).blocks ≤ length (node v i).blocks + most
  parts : (k b : ℕ) → slice_get (node w i).blocks k ≡ Some b → (slice_get (node v i).blocks k ≡ Some b) ⊎ (length (node v i).blocks ≤ k)

grows-none : (v : Volume) (i most : ℕ) → Grows v v i most
grows-none v i most = record { others = λ x other. refl; body_is = refl; size = refl; least = omega arith; few = omega arith; parts = λ k b e. inl e }

grows-then : (v u w : Volume) (i m n : ℕ) → Grows v u i m → Grows u w i n → Grows v w i (m + n)
grows-then v u w i m n a b = record {
  others = λ x other. b.others x other ∙ a.others x other;
  body_is = b.body_is ∙ a.body_is;
  size = b.size ∙ a.size;
  least = (let p = a.least in let q = b.least in omega (arith, p, q));
  few = (let p = a.few in let q = b.few in omega (arith, p, q));
  parts = λ k c e. elim (b.parts k c e) [
    | inl at ↦ a.parts k c at
    | inr past ↦ (let p = a.least in inr (omega (arith, p, past)))
  ];
}

either-grows : (v x y : Volume) (i most : ℕ) (t : Bool) → Grows v x i most → Grows v y i most → Grows v (cond t x y) i most
either-grows v x y i most true a b = a
either-grows v x y i most false a b = b

block-grows : (v : Volume) (i : ℕ) (o : Option ℕ) → i < length v → Grows v (with_block v i o) i 1
block-grows v i None low = grows-none v i 1
block-grows v i (Some b) low =
    let n : Node = record { body = (node v i).body; blocks = (node v i).blocks ++ b ∷ []; indirect = (node v i).indirect; links = (node v i).links } in
    let at : node (set v i n) i ≡ n = node-here v i n low in
    let long : length (node (set v i n) i).blocks ≡ length (node v i).blocks + 1 = ap (λ (m : Node). length m.blocks) at ∙ length-append (node v i).blocks (b ∷ []) in
    record {
      others = λ x other. node-other v i x n other;
      body_is = ap (λ (m : Node). m.body) at;
      size = length-set v i n;
      least = omega (arith, long);
      few = omega (arith, long);
      parts = λ k c e. elim (push-get (node v i).blocks b k c (ap (λ (m : Node). slice_get m.blocks k) (sym at) ∙ e)) [
        | inl old ↦ inl old
        | inr new ↦ (let p = new.0 in inr (omega (arith, p)))
      ];
    }

pointers-grow : (v : Volume) (i : ℕ) (o : Option ℕ) → i < length v → Grows v (with_pointers v i o) i 0
pointers-grow v i None low = grows-none v i 0
pointers-grow v i (Some b) low =
    let n : Node = record { body = (node v i).body; blocks = (node v i).blocks; indirect = Some b; links = (node v i).links } in
    let at : node (set v i n) i ≡ n = node-here v i n low in
    let long : length (node (set v i n) i).blocks ≡ length (node v i).blocks = ap (λ (m : Node). length m.blocks) at in
    record {
      others = λ x other. node-other v i x n other;
      body_is = ap (λ (m : Node). m.body) at;
      size = length-set v i n;
      least = omega (arith, long);
      few = omega (arith, long);
      parts = λ k c e. inl (ap (λ (m : Node). slice_get m.blocks k) (sym at) ∙ e);
    }

next-grows : (g : Geometry) (q : ℕ) (v : Volume) (i : ℕ) → i < length v → Grows v (one_more g q (pointed g q v i) i) i 1
next-grows g q v i low =
    let u = pointed g q v i in
    let a : Grows v u i 0 = either-grows v (with_pointers v i (first_of v (order g q))) v i 0 (nat_eq (length (node v i).blocks) 12) (pointers-grow v i (first_of v (order g q)) low) (grows-none v i 0) in
    let size = a.size in
    grows-then v u (one_more g q u i) i 0 1 a (block-grows u i (first_of u (order g q)) (omega (arith, low, size)))

grown-grows : (g : Geometry) (q : ℕ) (v : Volume) (i count : ℕ) → i < length v → Grows v (grown g q v i count) i count
grown-grows g q v i zero low = grows-none v i 0
grown-grows g q v i (suc count) low =
    let u = one_more g q (pointed g q v i) i in
    let a = next-grows g q v i low in
    let size = a.size in
    let sum : 1 + count ≡ suc count = omega arith in
    subst (λ (m : ℕ). Grows v (grown g q u i count) i m) sum (grows-then v u (grown g q u i count) i 1 count a (grown-grows g q u i count (omega (arith, low, size))))

grows-touches : (v w : Volume) (i most : ℕ) (uses : List Use) → Grows v w i most → Contains uses (Pointers i) → ((k : ℕ) → length (node v i).blocks ≤ k → k < length (node v i).blocks + most → Contains uses (Part i k)) → Touches v w uses
grows-touches v w i most uses grows pointers new = touches-at v w i uses grows.others
    (λ k b page s. elim (grows.parts k b s.0) [
      | inl old ↦ inr (old, subst (λ (y : Body). ShowsPart y k page) grows.body_is s.1)
      | inr past ↦ (let low = slice_get_within (node w i).blocks k b s.0 in let few = grows.few in inl (new k past (omega (arith, low, few))))
    ])
    (λ b page s. inl pointers)

-- ---- a directory with an entry more

-- but for its first slot, a new block has nothing
entry-others : (slots : List (Option Entry)) (e : Entry) (l : ℕ) → l ≢ length slots → get_or (with_entry slots e) l None ≡ get_or slots l None
entry-others slots e l other = elim (cases_lt l (length slots)) [
  | inl low ↦ get_or_append_left slots (Some e ∷ replicate 14 None) None l low
  | inr past ↦
      let j : l - length slots ≡ suc (l - length slots - 1) = omega arith in
      get_or-append_right slots (Some e ∷ replicate 14 None) (length slots) l None refl past ∙ ap (λ (i : ℕ). get_or (Some e ∷ replicate 14 None) i None) j ∙ none-all 14 (l - length slots - 1) ∙ sym (get_or_past slots l None past)
]

-- at most so many uses are touched
abbrev pub TouchesFew : Volume → Volume → (most : ℕ) → Type 0
TouchesFew v w most = (uses : List Use) × Touches v w uses × (length uses ≤ most)

pub linked-touches : (g : Geometry) (q : ℕ) (v : Volume) (d : ℕ) (slots : List (Option Entry)) (e : Entry) → d < length v → body v d ≡ Dir slots → TouchesFew v (linked g q v d e) 3
linked-touches g q v d slots e low was = go (unused 0 slots) refl
  where
    go : (o : Option ℕ) → unused 0 slots ≡ o → TouchesFew v (linked g q v d e) 3
    go (Some k) is =
        let t = dir-touches v d k slots (set slots k (Some e)) low was (λ l other. get_or-set_other slots k l (Some e) None other) in
        (Part d (k / 15) ∷ [], subst (λ (x : Volume). Touches v x (Part d (k / 15) ∷ [])) (sym (linked-here g q v d k slots e was is)) t, omega arith)
    go None is =
        let u = grown g q v d 1 in
        let grows = grown-grows g q v d 1 low in
        let size = grows.size in
        let long : ℕ = length (node v d).blocks in
        let first : List Use = Pointers d ∷ Part d long ∷ [] in
        let a = grows-touches v u d 1 first grows (here (Pointers d) (Part d long ∷ [])) (λ k high less.
        let same : long ≡ k = omega (arith, high, less) in
        subst (λ (x : ℕ). Contains first (Part d x)) same (there (Part d long) (Pointers d) (Part d long ∷ []) (here (Part d long) []))) in
        let later : List Use = Part d (length slots / 15) ∷ [] in
        let b = dir-touches u d (length slots) slots (with_entry slots e) (omega (arith, low, size)) (grows.body_is ∙ was) (entry-others slots e) in
        (later ++ first, subst (λ (x : Volume). Touches v x (later ++ first)) (sym (linked-grown g q v u d slots e was is refl)) (touches-then v u (with_body u d (Dir (with_entry slots e))) first later a b), omega arith)

-- ---- a file with other bytes

-- its block of pointers, and its first eight blocks
abbrev pub own : ℕ → List Use
own i = Pointers i ∷ Part i 0 ∷ Part i 1 ∷ Part i 2 ∷ Part i 3 ∷ Part i 4 ∷ Part i 5 ∷ Part i 6 ∷ Part i 7 ∷ []

in-own : (i k : ℕ) → k < 8 → Contains (own i) (Part i k)
in-own i zero low = (1, omega arith, refl)
in-own i (suc zero) low = (2, omega arith, refl)
in-own i (suc (suc zero)) low = (3, omega arith, refl)
in-own i (suc (suc (suc zero))) low = (4, omega arith, refl)
in-own i (suc (suc (suc (suc zero)))) low = (5, omega arith, refl)
in-own i (suc (suc (suc (suc (suc zero))))) low = (6, omega arith, refl)
in-own i (suc (suc (suc (suc (suc (suc zero)))))) low = (7, omega arith, refl)
in-own i (suc (suc (suc (suc (suc (suc (suc zero))))))) low = (8, omega arith, refl)
in-own i (suc (suc (suc (suc (suc (suc (suc (suc k)))))))) low = absurd (omega (arith, low))

-- it had the blocks behind these, with the same bytes
abbrev pub IsBehindSame : (blocks : List ℕ) → (old new : List ℕ) → Type 0
IsBehindSame blocks old new =
    (k : ℕ) → 8 ≤ k → k < blocks_for (length new) → (k < length blocks) × ((j : ℕ) → j < 4096 → slice_index new (4096 * k + j) ≡ slice_index old (4096 * k + j))

pub resized-touches : (g : Geometry) (q : ℕ) (v : Volume) (i : ℕ) (old new : List ℕ) → i < length v → body v i ≡ File old → IsBehindSame (node v i).blocks old new → Touches v (resized g q v i new) (own i)
resized-touches g q v i old new low was behind =
    touches-at v (set u i n) i (own i) (λ x other. node-other u i x n other ∙ grows.others x other) parts (λ b page s. inl (0, omega arith, refl))
  where
    count : ℕ
    count = blocks_for (length new)

    u : Volume
    u = grown g q v i (count - length (node v i).blocks)

    grows : Grows v u i (count - length (node v i).blocks)
    grows = grown-grows g q v i (count - length (node v i).blocks) low

    n : Node
    n = record { body = File new; blocks = take count (node u i).blocks; indirect = if nat_lt 12 count then (node u i).indirect else None; links = (node u i).links }

    at : node (set u i n) i ≡ n
    at = let size = grows.size in node-here u i n (omega (arith, low, size))

    parts : (k b : ℕ) (page : List ℕ) → Stands (set u i n) (Part i k) b page → Contains (own i) (Part i k) ⊎ Stands v (Part i k) b page
    parts k b page s =
        let now : (slice_get n.blocks k ≡ Some b) × ShowsPart n.body k page = subst (λ (m : Node). (slice_get m.blocks k ≡ Some b) × ShowsPart m.body k page) at s in
        elim (cases_lt k 8) [
          | inl few ↦ inl (in-own i k few)
          | inr high ↦
              let within = slice_get_within (take count (node u i).blocks) k b now.0 in
              let long = length-take count (node u i).blocks in
              let same = behind k high (omega (arith, within, long)) in
              elim (grows.parts k b (take-get count (node u i).blocks k b now.0)) [
                | inl there ↦ inr (there, subst (λ (y : Body). ShowsPart y k page) (sym was) (λ j l. now.1 j l ∙ same.1 j l))
                | inr past ↦ (let inside = same.0 in absurd (omega (arith, inside, past)))
              ]
        ]
