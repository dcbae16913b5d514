-- A file that gets other bytes and is not shorter then: what that takes, and at what it looks.
use Rattle.std.proofs.Common.{get_or, ◌++◌, ◌≢◌, ◌≡◌, ℕ, ◌+◌, ◌-◌, ◌/◌, ◌<◌, ◌≤◌, inl, inr, List, [], length, drop, take, sym, ap, subst, ◌∙◌, arith}
use Rattle.std.specs.Prelude.{None, Some, min, slice_get}
use Rattle.std.specs.List.{All, Contains}
use Rattle.std.proofs.lemmas.Bool.{cases_lt}
use Rattle.std.proofs.lemmas.List.{drop_all, get_or_append_left, length-append, length-drop, take_all}
use Rattle.std.proofs.lemmas.List.Elements.{All-contains, Contains-append_cases, Contains-append_right}
use Rattle.std.proofs.lemmas.Option.{slice_get-get_or}
use Rattle.mq_blocks.proofs.JournalAmong.{among-contains, contains-among}
use Rattle.mq_blocks.specs.Geometry.{queues_of}
use Rattle.mq_blocks.specs.declared.geometry.Geometry.{Geometry}
use Rattle.mq_exec.specs.Longer.{IsRewriting, LooksLonger, longer_needs, part, picked}
use Rattle.mq_exec.specs.Overwrites.{blocks_at, past_place}
use Rattle.mq_exec.specs.Plans.{HoldsPlaces, IsRefused, PlansRewrite}
use Rattle.mq_exec.specs.declared.rewrite.Rewriting.{Rewriting}
use Rattle.mq_exec.proofs.PlansComing.{carried-enough, carried-few}
use Rattle.mq_exec.proofs.OverwritesRewriting.{at-listed, listed-at}
use Rattle.mq_inodes.specs.Fits.{Agrees}
use Rattle.mq_inodes.specs.Opened.{IsOpened, IsWithin}
use Rattle.mq_inodes.specs.Pages.{Pages}
use Rattle.mq_inodes.specs.Picks.{ArePicked}
use Rattle.mq_inodes.specs.Files.{IsFileOf}
use Rattle.mq_inodes.specs.declared.opened.Opened.{Opened}
use Rattle.mq_inodes.proofs.EditsBecoming.{carries-sound}
use Rattle.mq_inodes.proofs.Files.{file-size}
use Rattle.mq_inodes.proofs.PagesHeld.{used-held}
use Rattle.mq_inodes.proofs.OpenedLinkedGrown.{picked-enough}
use Rattle.mq_inodes.proofs.Sound.{sound-count}
use Rattle.mq_layout.specs.Places.{file_limit}
use Rattle.mq_layout.specs.declared.inode.Inode.{Inode}
use Rattle.mq_tree.specs.Free.{free_blocks, needs}
use Rattle.mq_tree.specs.Requests.{Verdict, carried_out, resized}
use Rattle.mq_tree.specs.Sound.{blocks_for}
use Rattle.mq_tree.specs.Volume.{Body, File, Part, Volume, node}
use Rattle.mq_tree.specs.declared.request.Fault.TheVariants.{NoSpace}

-- ---- what it needs

pub longer-need : (g : Geometry) (pages : Pages) (v : Volume) (i size need old new : ℕ) (inode : Inode) → Agrees g pages v → IsFileOf v i inode → need ≡ needs old new → old ≡ blocks_for inode.size → new ≡ blocks_for size → need ≡ longer_needs v i size
longer-need g pages v i size need old new inode agrees f e a b =
    let n = sound-count g v i f.bytes agrees.sound f.is in
    let s = file-size (node v i) inode f.bytes f.says f.is in
    e ∙ ap (λ (k : ℕ). needs k new) (a ∙ ap (λ (k : ℕ). blocks_for k) s ∙ sym n) ∙ ap (λ (k : ℕ). needs (length (node v i).blocks) k) b

pub longer-few : (g : Geometry) (q : ℕ) (v : Volume) (i size need : ℕ) (verdict : Verdict) (rewritten : List ℕ → List ℕ) (bytes : List ℕ) → IsRewriting g q v i size verdict rewritten bytes → need ≡ longer_needs v i size → free_blocks g v < need → IsRefused g v verdict NoSpace
longer-few g q v i size need verdict rewritten bytes r e few =
    ap (λ (x : Verdict). carried_out g v x) r.makes ∙ carried-few g v (longer_needs v i size) (resized g q v i (rewritten bytes)) (subst (λ (k : ℕ). free_blocks g v < k) e few)

-- ---- the plan

longer-here : (g : Geometry) (q : ℕ) (pages : Pages) (v : Volume) (m : Rewriting) (verdict : Verdict) (rewritten : List ℕ → List ℕ) (bytes : List ℕ) → Agrees g pages v → q < queues_of g → IsOpened g v m.file → IsRewriting g q v m.file.number m.size verdict rewritten bytes
    → length bytes ≤ m.size → m.size ≤ file_limit → ArePicked g q v (longer_needs v m.file.number m.size) m.picks.items → PlansRewrite g q v verdict rewritten m
longer-here g q pages v m verdict rewritten bytes agrees queue opened r longer low first = record {
  bytes = bytes;
  is = r.is;
  carried = ap (λ (x : Verdict). carried_out g v x) r.makes ∙ carried-enough g v need (resized g q v i (rewritten bytes)) (picked-enough g q v need m.picks.items queue first);
  size = sym r.length_is;
  limit = low;
  longer = longer;
  count = count;
  grow = record {
    opened = opened;
    queue = queue;
    within = subst (λ (x : Body). IsWithin x (length m.file.blocks.items)) (sym r.is) (let c = count in omega arith, let l = longer in omega arith);
    few = let t = total in omega arith;
    picked = subst (λ (k : ℕ). ArePicked g q v (needs (length m.file.blocks.items) k) m.picks.items) (sym total) (subst (λ (k : ℕ). ArePicked g q v (needs k (blocks_for m.size)) m.picks.items) (sym (ap (λ (xs : List ℕ). length xs) opened.blocks)) first);
  };
}
  where
    i : ℕ
    i = m.file.number

    need : ℕ
    need = longer_needs v i m.size

    count : length m.file.blocks.items ≡ blocks_for (length bytes)
    count = ap (λ (xs : List ℕ). length xs) opened.blocks ∙ sound-count g v i bytes agrees.sound r.is

    total : length m.file.blocks.items + (blocks_for m.size - blocks_for (length bytes)) ≡ blocks_for m.size
    total = let c = count in let l = longer in omega arith

file-same : (x y : List ℕ) → File x ≡ File y → x ≡ y
file-same x y e = ap bytes_in e
  where
    bytes_in : Body → List ℕ
    bytes_in (File bytes) = bytes
    bytes_in other = x

pub longer-plan : (g : Geometry) (q : ℕ) (pages : Pages) (v : Volume) (m : Rewriting) (i need : ℕ) (inode : Inode) (verdict : Verdict) (rewritten : List ℕ → List ℕ) (bytes : List ℕ) → Agrees g pages v → q < queues_of g → IsOpened g v m.file → m.file.number ≡ i → IsFileOf v i inode
    → IsRewriting g q v i m.size verdict rewritten bytes → inode.size ≤ m.size → m.size ≤ file_limit → need ≡ longer_needs v i m.size → ArePicked g q v need m.picks.items → PlansRewrite g q v verdict rewritten m
longer-plan g q pages v m i need inode verdict rewritten bytes agrees queue opened same f r longer low e first =
    let s = file-size (node v i) inode f.bytes f.says f.is in
    let alike : f.bytes ≡ bytes = file-same f.bytes bytes (sym f.is ∙ r.is) in
    let long : inode.size ≡ length bytes = s ∙ ap (λ (xs : List ℕ). length xs) alike in
    longer-here g q pages v m verdict rewritten bytes agrees queue opened (subst (λ (k : ℕ). IsRewriting g q v k m.size verdict rewritten bytes) (sym same) r) (omega arith) low
    (subst (λ (k : ℕ). ArePicked g q v (longer_needs v k m.size) m.picks.items) (sym same) (subst (λ (k : ℕ). ArePicked g q v k m.picks.items) e first))

-- ---- the blocks at some places

-- a slice that ends with the list
pub slice-at : (blocks : List ℕ) (first past low high : ℕ) → high ≡ min past (length blocks) → low ≡ min first high → take (high - low) (drop low blocks) ≡ blocks_at blocks first past
slice-at blocks first past low high e f = elim (cases_lt first high) [
  | inl inside ↦
      let same : low ≡ first = omega arith in
      let n = length-drop first blocks in
      ap (λ (k : ℕ). take (high - k) (drop k blocks)) same ∙ elim (cases_lt past (length blocks)) [
        | inl l ↦ (let h : high ≡ past = omega arith in ap (λ (k : ℕ). take (k - first) (drop first blocks)) h)
        | inr all ↦ take_all (high - first) (drop first blocks) (omega arith) ∙ sym (take_all (past - first) (drop first blocks) (omega arith))
      ]
  | inr beyond ↦
      let z : high - low ≡ 0 = omega arith in
      ap (λ (k : ℕ). take k (drop low blocks)) z ∙ elim (cases_lt first past) [
        | inl l ↦ (let e : take (past - first) (drop first blocks) ≡ [] = take_all (past - first) (drop first blocks) (let n = length-drop first blocks in omega arith) ∙ drop_all first blocks (omega arith) in sym e)
        | inr none ↦ (let n : past - first ≡ 0 = omega arith in let e : take (past - first) (drop first blocks) ≡ [] = ap (λ (k : ℕ). take k (drop first blocks)) n in sym e)
      ]
]

-- ---- what is wanted

pub all-left : (P : ℕ → Type 0) (xs ys : List ℕ) → All P (xs ++ ys) → All P xs
all-left P xs ys h k d l =
    let n = length-append xs ys in
    subst P (get_or_append_left xs ys d k l) (h k d (omega arith))

-- a block that is picked, or one of the file that is written
pub wanted-looks : (g : Geometry) (q : ℕ) (v : Volume) (o : Opened) (i size at count b : ℕ) (picks wanted : List ℕ) → IsOpened g v o → o.number ≡ i → ArePicked g q v (longer_needs v i size) picks → wanted ≡ picks ++ blocks_at o.blocks.items (at / 4096) (past_place at count)
    → Contains wanted b → LooksLonger g q v i size at count b
wanted-looks g q v o i size at count b picks wanted opened same first is h = elim (Contains-append_cases picks (blocks_at o.blocks.items (at / 4096) (past_place at count)) b (subst (λ (xs : List ℕ). Contains xs b) is h)) [
  | inl l ↦ picked picks first l
  | inr r ↦
      let s = listed-at o.blocks.items (at / 4096) (past_place at count) b (contains-among (blocks_at o.blocks.items (at / 4096) (past_place at count)) b r) in
      part picks first s.place s.low s.high
      (ap (λ (k : ℕ). slice_get (node v k).blocks s.place) (sym same) ∙ ap (λ (xs : List ℕ). slice_get xs s.place) (sym opened.blocks) ∙ slice_get-get_or o.blocks.items s.place 0 s.inside ∙ ap (λ (x : ℕ). Some x) s.is)
]

-- those that are written are held
pub wanted-places : (g : Geometry) (pages : Pages) (v : Volume) (o : Opened) (at count : ℕ) (picks wanted : List ℕ) → Agrees g pages v → IsOpened g v o → wanted ≡ picks ++ blocks_at o.blocks.items (at / 4096) (past_place at count) → All (λ b. pages b ≢ None) wanted
    → HoldsPlaces pages o.blocks.items (at / 4096) (past_place at count)
wanted-places g pages v o at count picks wanted agrees opened is known place low high inside =
    let b = get_or o.blocks.items place 0 in
    let c = carries-sound g pages v agrees in
    let listed = among-contains (blocks_at o.blocks.items (at / 4096) (past_place at count)) b (at-listed o.blocks.items (at / 4096) (past_place at count) place low high inside) in
    let there : slice_get (node v o.number).blocks place ≡ Some b = ap (λ (xs : List ℕ). slice_get xs place) (sym opened.blocks) ∙ slice_get-get_or o.blocks.items place 0 inside in
    used-held g pages v (Part o.number place) b c there (All-contains (λ x. pages x ≢ None) (picks ++ blocks_at o.blocks.items (at / 4096) (past_place at count)) b (subst (λ (xs : List ℕ). All (λ x. pages x ≢ None) xs) is known) (Contains-append_right picks _ b listed))
