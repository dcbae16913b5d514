-- A file that gets other bytes over its blocks: those that change, and its size.
use Rattle.mq_tree.specs.Links.{HasLinks}
use Rattle.std.proofs.Common.{get_or, ◌≡◌, ◌≢◌, ℕ, ◌+◌, ◌-◌, ◌*◌, ◌/◌, ◌<◌, ◌≤◌, ◌⊎◌, inl, inr, List, ◌∷◌, length, drop, Bool, true, false, cond, sym, ap, subst, ◌∙◌, arith}
use Rattle.std.specs.Prelude.{Option, Some, None, ◌↔◌, max, min, slice_get}
use Rattle.std.proofs.lemmas.Bool.{cases_eq, cases_lt, eq-eqb, ne_eqb, true≢false}
use Rattle.std.proofs.lemmas.List.{get_or-drop, get_or-take, length-drop, length-take}
use Rattle.std.proofs.lemmas.Option.{same_Some, slice_get-get_or, slice_get_within}
use Rattle.mq_blocks.proofs.JournalAmong.{among-at, among-behind, among-cons, among-here, at-among}
use Rattle.mq_blocks.specs.Geometry.{meta_of}
use Rattle.mq_blocks.specs.Journal.{is_among}
use Rattle.mq_blocks.specs.Windows.{written}
use Rattle.mq_blocks.specs.declared.geometry.Geometry.{Geometry}
use Rattle.mq_exec.specs.Overwrites.{IsOverwritten, IsPartWritten, IsSplicedAt, blocks_at, past_place, text_from, text_in}
use Rattle.mq_exec.proofs.RequestsLocalBytes.{IsPartPut, body-step}
use Rattle.mq_inodes.specs.Changes.{IsInodePut, IsInodeTurned, IsOfFile, Stepped}
use Rattle.mq_inodes.specs.Edits.{Becomes, Carries, KeepsKinds}
use Rattle.mq_inodes.specs.Pages.{kinds_of, pages_of}
use Rattle.mq_inodes.specs.declared.working.Working.{Working}
use Rattle.mq_inodes.proofs.EditsBecoming.{becomes-stepped}
use Rattle.mq_inodes.proofs.PagesHeld.{table-low}
use Rattle.mq_inodes.proofs.ChangesBodies.{rebodied}
use Rattle.mq_inodes.proofs.ChangesKinds.{part-of-file}
use Rattle.mq_inodes.proofs.LaidParts.{file-along, file-written}
use Rattle.mq_inodes.proofs.ChangesVolumes.{with_body-uses}
use Rattle.mq_inodes.proofs.FitsShowing.{use-carried}
use Rattle.mq_layout.specs.Places.{file_limit, inode_block, inodes_of}
use Rattle.mq_pages.specs.declared.page.Kind.{Kind}
use Rattle.mq_pages.specs.declared.page.Kind.TheVariants.{Data}
use Rattle.mq_tree.specs.Laid.{ShowsPart, inode_of, kind_of, size_of}
use Rattle.mq_tree.specs.Requests.{with_body}
use Rattle.mq_tree.specs.Volume.{Body, File, Node, Part, Volume, body, is_used, node}
use Rattle.mq_tree.proofs.FreeUses.{node-here}
use Rattle.std.proofs.lemmas.List.{length-set}

-- ---- the blocks at some places

-- a block that stands at one of the places
pub record StandsAt (blocks : List ℕ) (first past b : ℕ) : Type 0 where
  pub place : ℕ
  pub low : first ≤ place
  pub high : place < past
  pub inside : place < length blocks
  pub is : get_or blocks place 0 ≡ b

pub listed-at : (blocks : List ℕ) (first past b : ℕ) → is_among b (blocks_at blocks first past) ≡ true → StandsAt blocks first past b
listed-at blocks first past b e =
    let r = among-at (blocks_at blocks first past) b e in
    let l = r.1 in
    let n = length-take (past - first) (drop first blocks) in
    let m = length-drop first blocks in
    record {
      place = first + r.0;
      low = omega arith;
      high = omega arith;
      inside = omega arith;
      is = sym (get_or-drop first blocks r.0 0) ∙ sym (get_or-take (past - first) (drop first blocks) r.0 0 (omega arith)) ∙ r.2;
    }

pub at-listed : (blocks : List ℕ) (first past place : ℕ) → first ≤ place → place < past → place < length blocks → is_among (get_or blocks place 0) (blocks_at blocks first past) ≡ true
at-listed blocks first past place low high inside =
    let n = length-take (past - first) (drop first blocks) in
    let m = length-drop first blocks in
    let j : first + (place - first) ≡ place = omega arith in
    let e : get_or (blocks_at blocks first past) (place - first) 0 ≡ get_or blocks place 0 = get_or-take (past - first) (drop first blocks) (place - first) 0 (omega arith) ∙ get_or-drop first blocks (place - first) 0 ∙ ap (λ (k : ℕ). get_or blocks k 0) j in
    ap (λ (b : ℕ). is_among b (blocks_at blocks first past)) (sym e) ∙ at-among (blocks_at blocks first past) (place - first) (omega arith)

-- ---- the bytes at a place

pub past-of : (at count place : ℕ) → at / 4096 ≤ place → place < past_place at count → (1 ≤ count) × (4096 * place < at + count)
past-of at count place low high = elim (cases_eq count 0) [
  | inl e ↦
      let p : past_place at count ≡ at / 4096 = ap (λ (t : Bool). cond t (at / 4096) ((at + count + 4095) / 4096)) (eq-eqb count 0 e) in
      absurd (omega arith)
  | inr n ↦
      let p : past_place at count ≡ (at + count + 4095) / 4096 = ap (λ (t : Bool). cond t (at / 4096) ((at + count + 4095) / 4096)) (ne_eqb count 0 n) in
      (omega arith, omega arith)
]

past-not : (at count place : ℕ) → past_place at count ≤ place → (count ≡ 0) ⊎ (at + count ≤ 4096 * place)
past-not at count place high = elim (cases_eq count 0) [
  | inl e ↦ inl e
  | inr n ↦
      let p : past_place at count ≡ (at + count + 4095) / 4096 = ap (λ (t : Bool). cond t (at / 4096) ((at + count + 4095) / 4096)) (ne_eqb count 0 n) in
      inr (omega arith)
]

length-text : (at : ℕ) (text : List ℕ) (place : ℕ) → at / 4096 ≤ place → 4096 * place < at + length text → 1 ≤ length text → length (text_in at text place) ≡ min (at + length text) (4096 * place + 4096) - max at (4096 * place)
length-text at text place low high some =
    let n = length-take (min (at + length text) (4096 * place + 4096) - max at (4096 * place)) (drop (max at (4096 * place) - at) text) in
    let m = length-drop (max at (4096 * place) - at) text in
    omega arith

-- a part that was written shows the part of the file now
part-shows : (at place : ℕ) (text bytes now before after : List ℕ) → IsSplicedAt at text bytes now → at / 4096 ≤ place → place < past_place at (length text) → length before ≡ 4096 → after ≡ written before (text_from at place) (text_in at text place)
    → ShowsPart (File bytes) place before → ShowsPart (File now) place after
part-shows at place text bytes now before after s low high whole is shows =
    let p = past-of at (length text) place low high in
    let some = p.0 in
    let inside = p.1 in
    let n = length-text at text place low inside some in
    file-written bytes now place (text_from at place) (text_in at text place) before after whole (omega arith) is
    (λ k l.
    let e : 4096 * place + (text_from at place + k) ≡ at + (max at (4096 * place) - at + k) = omega arith in
    ap (λ (j : ℕ). get_or now j 0) e ∙ s.inside (max at (4096 * place) - at + k) (omega arith)
    ∙ sym (get_or-take (min (at + length text) (4096 * place + 4096) - max at (4096 * place)) (drop (max at (4096 * place) - at) text) k 0 (omega arith) ∙ get_or-drop (max at (4096 * place) - at) text k 0))
    (λ k small beside. s.outside (4096 * place + k) (elim beside [ inl l ↦ inl (omega arith) | inr l ↦ inr (omega arith) ])) shows

-- a part that was not written is the same
part-same : (at place : ℕ) (text bytes now page : List ℕ) → IsSplicedAt at text bytes now → (place < at / 4096) ⊎ (past_place at (length text) ≤ place) → ShowsPart (File bytes) place page ↔ ShowsPart (File now) place page
part-same at place text bytes now page s beside =
    let same : (k : ℕ) → k < 4096 → get_or bytes (4096 * place + k) 0 ≡ get_or now (4096 * place + k) 0 = λ k l. sym (s.outside (4096 * place + k) (elim beside [
      | inl low ↦ inl (omega arith)
      | inr high ↦ elim (past-not at (length text) place high) [
        | inl none ↦ elim (cases_lt (4096 * place + k) at) [ inl l ↦ inl l | inr l ↦ inr (omega arith) ]
        | inr past ↦ inr (omega arith)
      ]
    ])) in
    (file-along bytes now place page same, file-along now bytes place page (λ k l. sym (same k l)))

-- ---- the file with other bytes

-- What was written to the pages of a volume: parts of a text, and the inode.
pub record IsRewritten (g : Geometry) (u : Volume) (i at : ℕ) (text bytes now : List ℕ) (mid wrote new : Working) : Type 0 where
  pub carries : Carries g (pages_of mid) u
  pub low : i < inodes_of g
  pub is : body u i ≡ File bytes
  pub few : length now ≤ file_limit
  pub past : (place : ℕ) → at / 4096 ≤ place → place < past_place at (length text) → place < length (node u i).blocks
  pub spliced : IsSplicedAt at text bytes now
  pub parts : IsOverwritten mid wrote (node u i).blocks at text (past_place at (length text))
  pub inode : IsInodePut g (pages_of wrote) (pages_of new) i (inode_of (rebodied (node u i) (File now)))
  pub kinds : KeepsKinds wrote new
  pub geometry : wrote.geometry ≡ g

pub rewrite-becomes : (g : Geometry) (u : Volume) (i at : ℕ) (text bytes now : List ℕ) (mid wrote new : Working) → IsRewritten g u i at text bytes now mid wrote new → Becomes g u (with_body u i (File now)) mid new
rewrite-becomes g u i at text bytes now mid wrote new h =
    becomes-stepped g u (with_body u i (File now)) mid new blocks h.carries (with_body-uses g u i (File now) h.carries.uses low (subst (λ (x : Body). HasLinks x (node u i).links) h.is (h.carries.uses.links i))) (length-set u i (rebodied (node u i) (File now))) step known rest put
  where
    first : ℕ
    first = at / 4096

    past : ℕ
    past = past_place at (length text)

    parts : List ℕ
    parts = blocks_at (node u i).blocks first past

    blocks : List ℕ
    blocks = inode_block g i ∷ parts

    low : i < length u
    low = let c = h.carries.count in let l = h.low in omega arith

    high : (b : ℕ) → is_among b parts ≡ true → (s : StandsAt (node u i).blocks first past b) × (meta_of g ≤ b)
    high b e =
        let s = listed-at (node u i).blocks first past b e in
        (s, (h.carries.uses.zones (Part i s.place) b (slice_get-get_or (node u i).blocks s.place 0 s.inside ∙ ap (λ (x : ℕ). Some x) s.is)).0)

    -- the inode's block is none of them
    table-out : (place : ℕ) → first ≤ place → place < past → get_or (node u i).blocks place 0 ≢ inode_block g i
    table-out place l m e =
        let inside = h.past place l m in
        let z = (h.carries.uses.zones (Part i place) (get_or (node u i).blocks place 0) (slice_get-get_or (node u i).blocks place 0 inside)).0 in
        let t = table-low g i h.low in
        omega arith

    part : (b : ℕ) → is_among b parts ≡ true → IsPartPut u i (File now) (pages_of new) b
    part b e =
        let r = high b e in
        let s = r.0 in
        let p : IsPartWritten (pages_of mid) (pages_of wrote) (get_or (node u i).blocks s.place 0) at text s.place = h.parts.parts s.place s.low s.high in
        let there : slice_get (node u i).blocks s.place ≡ Some b = slice_get-get_or (node u i).blocks s.place 0 s.inside ∙ ap (λ (x : ℕ). Some x) s.is in
        let was : pages_of mid b ≡ Some (Some p.before) = ap (pages_of mid) (sym s.is) ∙ p.turns.was in
        let used = use-carried g (pages_of mid) u (Part i s.place) b p.before h.carries there was in
        record {
          place = s.place;
          page = p.after;
          there = there;
          now = h.inode.put.others b (λ same. table-out s.place s.low s.high (s.is ∙ same)) ∙ ap (pages_of wrote) (sym s.is) ∙ p.turns.now;
          form = p.turns.form;
          shows = part-shows at s.place text bytes now p.before p.after h.spliced s.low s.high used.form.whole p.is (subst (λ x. ShowsPart x s.place p.before) h.is used.shows);
        }

    turned : IsInodeTurned g (pages_of mid) (pages_of new) i (inode_of (rebodied (node u i) (File now)))
    turned = record {
      before = h.inode.before;
      after = h.inode.after;
      turns = record {
        was = sym (h.parts.rest (inode_block g i) table-out) ∙ h.inode.was;
        now = h.inode.put.here;
        form = h.inode.form;
      };
      is = h.inode.is;
    }

    size : size_of (File now) (length (node u i).blocks) ≤ file_limit
    size = h.few

    out : (k c : ℕ) → is_among c blocks ≡ false → slice_get (node u i).blocks k ≡ Some c → (k < first) ⊎ (past ≤ k)
    out k c n e = elim (cases_lt k first) [
      | inl l ↦ inl l
      | inr m ↦ elim (cases_lt k past) [
        | inl l ↦
            let inside = slice_get_within (node u i).blocks k c e in
            let same : get_or (node u i).blocks k 0 ≡ c = same_Some _ c (sym (slice_get-get_or (node u i).blocks k 0 inside) ∙ e) in
            absurd (true≢false (sym (among-behind (inode_block g i) c parts (subst (λ x. is_among x parts ≡ true) same (at-listed (node u i).blocks first past k m l inside))) ∙ n))
        | inr p ↦ inr p
      ]
    ]

    unlisted : (b : ℕ) → is_among b blocks ≡ false → (place : ℕ) → first ≤ place → place < past → get_or (node u i).blocks place 0 ≢ b
    unlisted b n place l m e =
        let inside = h.past place l m in
        true≢false (sym (among-behind (inode_block g i) b parts (subst (λ x. is_among x parts ≡ true) e (at-listed (node u i).blocks first past place l m inside))) ∙ n)

    table-other : (b : ℕ) → is_among b blocks ≡ false → b ≢ inode_block g i
    table-other b n e = true≢false (sym (among-here (inode_block g i) parts) ∙ ap (λ (x : ℕ). is_among x blocks) (sym e) ∙ n)

    step : Stepped g u (with_body u i (File now)) (pages_of new) blocks
    step = body-step g u i (File now) blocks (pages_of mid) (pages_of new) h.carries.uses low h.low (ap is_used h.is) (ap kind_of h.is) size
        (λ n. absurd (true≢false (sym (among-here (inode_block g i) parts) ∙ n)))
        (λ k c n e page. subst (λ x. ShowsPart x k page ↔ ShowsPart (File now) k page) (sym h.is) (part-same at k text bytes now page h.spliced (out k c n e))) h.carries.fits
        (λ x n. h.inode.put.others x (table-other x n) ∙ h.parts.rest x (unlisted x n))
        (λ x y. elim (among-cons (inode_block g i) x parts y) [
          | inl same ↦ inr (same, turned)
          | inr later ↦ inl (part x later)
        ])

    none-held : {x : Option (List ℕ)} → None ≡ Some x → ⊥
    none-held e = absurd (cc)

    known : (b : ℕ) → is_among b blocks ≡ true → pages_of mid b ≢ None
    known b y none = elim (among-cons (inode_block g i) b parts y) [
      | inl same ↦ none-held (sym none ∙ ap (pages_of mid) same ∙ turned.turns.was)
      | inr later ↦
          let r = high b later in
          let p = h.parts.parts r.0.place r.0.low r.0.high in
          none-held (sym none ∙ ap (pages_of mid) (sym r.0.is) ∙ p.turns.was)
    ]

    rest : (b : ℕ) → meta_of g ≤ b → is_among b blocks ≡ false → kinds_of new b ≡ kinds_of mid b
    rest b m n = h.kinds b (subst (λ (x : Geometry). meta_of x ≤ b) (sym h.geometry) m) ∙ h.parts.kinds_rest b (unlisted b n)

    file : body (with_body u i (File now)) i ≡ File now
    file = ap (λ (n : Node). n.body) (node-here u i (rebodied (node u i) (File now)) low)

    of-file : (b : ℕ) → (s : StandsAt (node u i).blocks first past b) → IsOfFile (with_body u i (File now)) b
    of-file b s = part-of-file (with_body u i (File now)) i s.place b now
        (ap (λ (n : Node). slice_get n.blocks s.place) (node-here u i (rebodied (node u i) (File now)) low) ∙ slice_get-get_or (node u i).blocks s.place 0 s.inside ∙ ap (λ (x : ℕ). Some x) s.is) file

    put : (b : ℕ) (kind : Kind) → meta_of g ≤ b → is_among b blocks ≡ true → kinds_of new b ≡ Some kind → (kind ≡ Data) ↔ IsOfFile (with_body u i (File now)) b
    put b kind m y e = elim (among-cons (inode_block g i) b parts y) [
      | inl same ↦ absurd (let t = table-low g i h.low in omega arith)
      | inr later ↦
          let s = (high b later).0 in
          let is : kind ≡ Data = same_Some kind Data (sym e ∙ h.kinds b (subst (λ (x : Geometry). meta_of x ≤ b) (sym h.geometry) m) ∙ ap (kinds_of wrote) (sym s.is) ∙ h.parts.kinds s.place s.low s.high) in
          (λ d. of-file b s, λ f. is)
    ]
