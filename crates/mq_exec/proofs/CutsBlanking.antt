-- A file that is cut has zeros written behind its new end first, up to the end of that block.
use Rattle.mq_tree.specs.Links.{HasLinks}
use Rattle.std.proofs.Common.{get_or, ◌≡◌, ◌≢◌, ℕ, ◌+◌, ◌-◌, ◌*◌, ◌/◌, ◌%◌, ◌<◌, ◌≤◌, inl, inr, List, [], ◌∷◌, ◌++◌, length, drop, replicate, refl, sym, ap, subst, ◌∙◌, arith, length-append, length-set}
use Rattle.std.specs.Prelude.{Option, Some, is_some, min, nat_lt, slice_get}
use Rattle.std.proofs.lemmas.Bool.{cases_lt, true≢false}
use Rattle.std.proofs.lemmas.List.{get_or-drop, get_or_past, length-drop, length-replicate}
use Rattle.std.proofs.lemmas.Option.{none-some, same_Some, slice_get-get_or}
use Rattle.mq_blocks.proofs.JournalAmong.{among-here, among-one}
use Rattle.mq_blocks.specs.Blocks.{zeros}
use Rattle.mq_blocks.specs.Journal.{is_among}
use Rattle.mq_blocks.specs.Windows.{written}
use Rattle.mq_blocks.specs.declared.geometry.Geometry.{Geometry}
use Rattle.mq_blocks.proofs.BlocksZeros.{length-zeros, zeros-at}
use Rattle.mq_exec.specs.Cuts.{IsBlankPut, IsBlanked, PlansCut}
use Rattle.mq_exec.specs.declared.truncate.Cutting.{Cutting}
use Rattle.mq_exec.proofs.RequestsLocalBytes.{spliced-after, spliced-before, spliced-in}
use Rattle.mq_inodes.specs.Changes.{IsOfFile, Stepped}
use Rattle.mq_inodes.specs.Edits.{Becomes, Carries}
use Rattle.mq_inodes.specs.Opened.{MayCut, cut_file}
use Rattle.mq_inodes.specs.Pages.{kinds_of, pages_of}
use Rattle.mq_inodes.specs.declared.working.Working.{Working}
use Rattle.mq_inodes.proofs.EditsBecoming.{becomes-self, becomes-stepped}
use Rattle.mq_inodes.proofs.ChangesBodies.{bytes-step, inode-same, rebodied}
use Rattle.mq_inodes.proofs.ChangesKinds.{part-of-file}
use Rattle.mq_inodes.proofs.LaidParts.{file-written}
use Rattle.mq_inodes.proofs.ChangesVolumes.{cut-body, with_body-uses}
use Rattle.mq_inodes.proofs.FitsShowing.{use-carried}
use Rattle.mq_layout.specs.Places.{file_limit}
use Rattle.mq_pages.specs.declared.page.Kind.TheVariants.{Data}
use Rattle.mq_tree.proofs.KeptBytes.{cut-at}
use Rattle.mq_tree.specs.Laid.{ShowsPart, inode_of}
use Rattle.mq_tree.specs.Requests.{cut_to, spliced, with_body}
use Rattle.mq_tree.specs.Sound.{blocks_for}
use Rattle.mq_tree.specs.Volume.{Body, File, Node, Part, Volume, body, node}
use Rattle.mq_tree.proofs.RequestsNodes.{cut-length, zeros-at as none-at}
use Rattle.mq_tree.proofs.FreeUses.{node-here}

-- ---- bytes

-- zeros behind a size, up to the end of its last block, and else what was there
pub record IsBlankedTo (size : ℕ) (bytes now : List ℕ) : Type 0 where
  pub same_size : length now ≡ length bytes
  pub before : (k : ℕ) → k < size → get_or now k 0 ≡ get_or bytes k 0
  pub blank : (k : ℕ) → size ≤ k → k < 4096 * blocks_for size → get_or now k 0 ≡ 0
  pub behind : (k : ℕ) → 4096 * blocks_for size ≤ k → get_or now k 0 ≡ get_or bytes k 0

spliced-same : (at : ℕ) (xs bytes : List ℕ) → at + length xs ≤ length bytes → length (spliced at xs bytes) ≡ length bytes
spliced-same at [] bytes l = refl
spliced-same at (x ∷ xs) bytes l =
    let n = cut-length at bytes in
    let m = length-append (cut_to at bytes) (x ∷ xs) in
    let o = length-append (cut_to at bytes ++ (x ∷ xs)) (drop (at + length (x ∷ xs)) bytes) in
    let d = length-drop (at + length (x ∷ xs)) bytes in
    omega arith

-- how many zeros are written
abbrev blanks : ℕ → List ℕ → ℕ
blanks size bytes = min (length bytes - size) (4096 * blocks_for size - size)

abbrev blank_to : ℕ → List ℕ → List ℕ
blank_to size bytes = spliced size (replicate (blanks size bytes) 0) bytes

blank-to : (size : ℕ) (bytes : List ℕ) → size < length bytes → IsBlankedTo size bytes (blank_to size bytes)
blank-to size bytes short = record {
  same_size = same;
  before = λ k l. spliced-before size xs bytes k l;
  blank = λ k low high. elim (cases_lt k (size + length xs)) [
    | inl inside ↦
        let j : size + (k - size) ≡ k = omega arith in
        ap (λ (x : ℕ). get_or (spliced size xs bytes) x 0) (sym j) ∙ spliced-in size xs bytes (k - size) (omega arith) ∙ none-at (blanks size bytes) (k - size)
    | inr past ↦ get_or_past (spliced size xs bytes) k 0 (let s = same in let m = n in omega arith)
  ];
  behind = λ k high. spliced-after size xs bytes k (let m = n in omega arith);
}
  where
    xs : List ℕ
    xs = replicate (blanks size bytes) 0

    n : length xs ≡ blanks size bytes
    n = length-replicate (blanks size bytes) 0

    same : length (spliced size xs bytes) ≡ length bytes
    same = spliced-same size xs bytes (let m = n in omega arith)

blank-none : (size : ℕ) (bytes : List ℕ) → size % 4096 ≡ 0 → IsBlankedTo size bytes bytes
blank-none size bytes e = record { same_size = refl; before = λ k l. refl; blank = λ k low high. absurd (omega arith); behind = λ k high. refl }

-- before the end of the last block it is the file that was cut
blank-cut : (size : ℕ) (bytes now : List ℕ) → IsBlankedTo size bytes now → (k : ℕ) → k < 4096 * blocks_for size → get_or now k 0 ≡ get_or (cut_to size bytes) k 0
blank-cut size bytes now h k l = elim (cases_lt k size) [
  | inl low ↦ h.before k low ∙ sym (cut-at size bytes k low)
  | inr past ↦ h.blank k past l ∙ sym (get_or_past (cut_to size bytes) k 0 (let n = cut-length size bytes in omega arith))
]

-- ---- the page

blank-shows : (size : ℕ) (bytes now before after : List ℕ) → size % 4096 ≢ 0 → IsBlankedTo size bytes now → length before ≡ 4096 → after ≡ written before (size % 4096) (drop (size % 4096) zeros) → ShowsPart (File bytes) (size / 4096) before → ShowsPart (File now) (size / 4096) after
blank-shows size bytes now before after part h whole e shows =
    let n = length-drop (size % 4096) zeros in
    let z = length-zeros in
    file-written bytes now (size / 4096) (size % 4096) (drop (size % 4096) zeros) before after whole (omega arith) e
    (λ k l. h.blank (4096 * (size / 4096) + (size % 4096 + k)) (omega arith) (omega arith) ∙ sym (get_or-drop (size % 4096) zeros k 0 ∙ zeros-at (size % 4096 + k)))
    (λ k small beside. elim beside [
      | inl low ↦ h.before (4096 * (size / 4096) + k) (omega arith)
      | inr past ↦ absurd (omega arith)
    ]) shows

blank-rest : (size : ℕ) (bytes now : List ℕ) → IsBlankedTo size bytes now → (k : ℕ) → k / 4096 ≢ size / 4096 → get_or bytes k 0 ≡ get_or now k 0
blank-rest size bytes now h k other = elim (cases_lt k size) [
  | inl low ↦ sym (h.before k low)
  | inr past ↦ sym (h.behind k (omega arith))
]

-- ---- the file

-- The volume in which the file has the zeros, and what is known of the file there.
pub record IsBlankFile (g : Geometry) (v : Volume) (i size : ℕ) (bytes : List ℕ) (old mid : Working) : Type 0 where
  pub u : Volume
  pub now : List ℕ
  pub becomes : Becomes g v u old mid
  pub is : body u i ≡ File now
  pub blank : IsBlankedTo size bytes now
  pub blocks : (node u i).blocks ≡ (node v i).blocks
  pub indirect : (node u i).indirect ≡ (node v i).indirect
  pub inode : inode_of (node u i) ≡ inode_of (node v i)
  pub cuts : (n : ℕ) (xs : List ℕ) → cut_file u i n xs ≡ cut_file v i n xs

-- the block with the last byte that stays
record IsLastPut (g : Geometry) (v : Volume) (i size b : ℕ) (bytes : List ℕ) (old new : Working) : Type 0 where
  carries : Carries g (pages_of old) v
  low : i < length v
  is : body v i ≡ File bytes
  short : size < length bytes
  part : size % 4096 ≢ 0
  there : slice_get (node v i).blocks (size / 4096) ≡ Some b
  put : IsBlankPut old new b (size % 4096)

last-step : (g : Geometry) (v : Volume) (i size b : ℕ) (bytes : List ℕ) (old new : Working) → IsLastPut g v i size b bytes old new → Stepped g v (with_body v i (File (blank_to size bytes))) (pages_of new) (b ∷ [])
last-step g v i size b bytes old new h =
    let place = size / 4096 in
    let now = blank_to size bytes in
    let to = blank-to size bytes h.short in
    let t = h.put.text in
    let used = use-carried g (pages_of old) v (Part i place) b t.before h.carries h.there t.was in
    let shown : ShowsPart (File bytes) place t.before = subst (λ x. ShowsPart x place t.before) h.is used.shows in
    bytes-step g v i place b bytes now (pages_of old) (pages_of new) t.after h.carries.uses h.low h.is to.same_size h.there (blank-rest size bytes now to) h.carries.fits t.put t.form
    (blank-shows size bytes now t.before t.after h.part to used.form.whole t.is shown)

last-becomes : (g : Geometry) (v : Volume) (i size b : ℕ) (bytes : List ℕ) (old new : Working) → IsLastPut g v i size b bytes old new → Becomes g v (with_body v i (File (blank_to size bytes))) old new
last-becomes g v i size b bytes old new h =
    becomes-stepped g v w old new (b ∷ []) h.carries (with_body-uses g v i (File now) h.carries.uses h.low (subst (λ (x : Body). HasLinks x (node v i).links) h.is (h.carries.uses.links i))) (length-set v i (rebodied (node v i) (File now))) (last-step g v i size b bytes old new h)
    (λ x y none. none-some _ (sym none ∙ ap (pages_of old) (among-one b x y) ∙ h.put.text.was))
    (λ x high n. h.put.kind.others x (λ e. true≢false (sym (ap (λ (c : ℕ). is_among c (b ∷ [])) e ∙ among-here b []) ∙ n)))
    (λ x kind high y e. (λ d. subst (λ c. IsOfFile w c) (sym (among-one b x y)) file, λ f. same_Some kind Data (sym e ∙ ap (kinds_of new) (among-one b x y) ∙ h.put.kind.here)))
  where
    now : List ℕ
    now = blank_to size bytes

    w : Volume
    w = with_body v i (File now)

    here : node w i ≡ rebodied (node v i) (File now)
    here = node-here v i (rebodied (node v i) (File now)) h.low

    file : IsOfFile w b
    file = part-of-file w i (size / 4096) b now (ap (λ (n : Node). slice_get n.blocks (size / 4096)) here ∙ h.there) (ap (λ (n : Node). n.body) here)

blank-put : (g : Geometry) (v : Volume) (i size b : ℕ) (bytes : List ℕ) (old new : Working) → IsLastPut g v i size b bytes old new → IsBlankFile g v i size bytes old new
blank-put g v i size b bytes old new h =
    let now = blank_to size bytes in
    let to = blank-to size bytes h.short in
    let here : node (with_body v i (File now)) i ≡ rebodied (node v i) (File now) = node-here v i (rebodied (node v i) (File now)) h.low in
    record {
      u = with_body v i (File now);
      now = now;
      becomes = last-becomes g v i size b bytes old new h;
      is = ap (λ (n : Node). n.body) here;
      blank = to;
      blocks = ap (λ (n : Node). n.blocks) here;
      indirect = ap (λ (n : Node). n.indirect) here;
      inode = ap inode_of here ∙ sym (inode-same (node v i) (File bytes) (File now) h.is refl (sym to.same_size));
      cuts = λ n xs. cut-body v i n (File now) xs h.low;
    }

pub blank-file : (g : Geometry) (v : Volume) (m : Cutting) (old new : Working) → Carries g (pages_of old) v → (plan : PlansCut g v m) → IsBlanked old new m.file.blocks.items m.size → IsBlankFile g v m.file.number m.size plan.bytes old new
blank-file g v m old new c plan (inl (whole, same)) = record {
  u = v;
  now = plan.bytes;
  becomes = subst (λ x. Becomes g v v old x) (sym same) (becomes-self g v old c);
  is = plan.is;
  blank = blank-none m.size plan.bytes whole;
  blocks = refl;
  indirect = refl;
  inode = refl;
  cuts = λ n xs. refl;
}
blank-file g v m old new c plan (inr (part, put)) =
    let n = plan.count in
    let s = plan.shorter in
    let l = plan.opened.low in
    let k = c.count in
    let inside : m.size / 4096 < length m.file.blocks.items = omega arith in
    blank-put g v m.file.number m.size (get_or m.file.blocks.items (m.size / 4096) 0) plan.bytes old new (record {
      carries = c;
      low = omega arith;
      is = plan.is;
      short = s;
      part = part;
      there = ap (λ (xs : List ℕ). slice_get xs (m.size / 4096)) (sym plan.opened.blocks) ∙ slice_get-get_or m.file.blocks.items (m.size / 4096) 0 inside;
      put = put;
    })

-- ---- it may be cut

pub blank-may : (g : Geometry) (v : Volume) (m : Cutting) (old mid : Working) → (plan : PlansCut g v m) → length plan.bytes ≤ file_limit → (h : IsBlankFile g v m.file.number m.size plan.bytes old mid) → MayCut g h.u m.file (blocks_for m.size) h.now (cut_to m.size plan.bytes)
blank-may g v m old mid plan limit h = record {
  opened = record {
    low = plan.opened.low;
    inode = plan.opened.inode ∙ sym h.inode;
    blocks = plan.opened.blocks ∙ sym h.blocks;
    indirect = ap (λ (o : Option ℕ). is_some o) h.indirect ∙ plan.opened.indirect ∙ ap (λ (xs : List ℕ). nat_lt 12 (length xs)) (sym h.blocks);
  };
  is = h.is;
  few = let n = plan.count in let s = plan.shorter in omega arith;
  size = let n = cut-length m.size plan.bytes in let s = plan.shorter in omega arith;
  same = λ k l. blank-cut m.size plan.bytes h.now h.blank k l;
}
