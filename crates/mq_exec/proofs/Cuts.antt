-- A file is cut behind the zeros that were written.
use Rattle.std.proofs.Common.{◌≡◌, ℕ, ◌<◌, ◌≤◌, inl, inr, List, length, sym, ap, subst, ◌∙◌, arith}
use Rattle.std.proofs.lemmas.Bool.{cases_lt, le-leb, le-ltb, lt-leb}
use Rattle.mq_blocks.specs.declared.geometry.Geometry.{Geometry}
use Rattle.mq_exec.specs.Cuts.{HoldsCut, IsBlanked, PlansCut}
use Rattle.mq_exec.specs.Longer.{longer_needs}
use Rattle.mq_exec.specs.Plans.{ComesTo, IsCarried}
use Rattle.mq_exec.specs.declared.truncate.Cutting.{Cutting}
use Rattle.mq_exec.proofs.CutsBlanking.{IsBlankFile, blank-file, blank-may}
use Rattle.mq_exec.proofs.PlansComing.{carried-enough, comes-carried}
use Rattle.mq_exec.proofs.LongerFilling.{truncate-makes}
use Rattle.mq_inodes.specs.Edits.{Becomes, Carries, IsOver, KeepsHeld}
use Rattle.mq_inodes.specs.Fits.{Agrees}
use Rattle.mq_inodes.specs.Opened.{IsOpened, MayCut, cut_file}
use Rattle.mq_inodes.specs.Pages.{Pages, pages_of}
use Rattle.mq_inodes.specs.Files.{IsFileOf}
use Rattle.mq_inodes.specs.declared.opened.Opened.{Opened}
use Rattle.mq_inodes.specs.declared.working.Working.{Working}
use Rattle.mq_inodes.proofs.EditsBecoming.{becomes-then, carries-sound}
use Rattle.mq_inodes.proofs.Files.{file-size}
use Rattle.mq_inodes.proofs.PagesKeeping.{keeps-pointers, keeps-put, keeps-releasable}
use Rattle.mq_inodes.proofs.ChangesVolumes.{resized-cut}
use Rattle.mq_inodes.proofs.Sound.{sound-count, sound-low}
use Rattle.mq_layout.specs.declared.inode.Inode.{Inode}
use Rattle.mq_tree.specs.Free.{needs}
use Rattle.mq_tree.specs.Requests.{Verdict, carried_out, cut_to, resized, truncate_in}
use Rattle.mq_tree.specs.Sound.{blocks_for}
use Rattle.mq_tree.specs.Volume.{File, Volume, body, node}
use Rattle.mq_tree.specs.declared.request.Reply.TheVariants.{Ok as Done}
use Rattle.mq_tree.proofs.RequestsNodes.{cut-length}

-- ---- what is held

pub blank-keeps : (old mid : Working) (blocks : List ℕ) (size : ℕ) → IsBlanked old mid blocks size → KeepsHeld (pages_of old) (pages_of mid)
blank-keeps old mid blocks size (inl (whole, same)) = subst (λ w. KeepsHeld (pages_of old) (pages_of w)) (sym same) (record { held = λ b h. h; free = λ b h. h })
blank-keeps old mid blocks size (inr (part, put)) = keeps-put (pages_of old) (pages_of mid) _ put.text.before put.text.after put.text.was put.text.put

pub holds-along : (old mid : Working) (m : Cutting) → IsOver old mid → KeepsHeld (pages_of old) (pages_of mid) → HoldsCut old.geometry (pages_of old) m → HoldsCut mid.geometry (pages_of mid) m
holds-along old mid m over keeps h = subst (λ (g : Geometry). HoldsCut g (pages_of mid) m) (sym over.view.geometry) (record {
  table = keeps.held _ h.table;
  last = λ place low high inside. keeps.held _ (h.last place low high inside);
  blocks = λ k d l. keeps-releasable old.geometry old mid _ keeps over (h.blocks k d l);
  pointers = keeps-pointers (pages_of old) (pages_of mid) m.file keeps h.pointers;
  release = λ few many. keeps-releasable old.geometry old mid _ keeps over (h.release few many);
})

-- ---- the volumes

pub cut-limit : (g : Geometry) (v : Volume) (m : Cutting) (old : Working) → Agrees g (pages_of old) v → PlansCut g v m → m.size ≤ 4243456
cut-limit g v m old agrees plan = let l = sound-low g v m.file.number plan.bytes agrees.sound plan.is in let s = plan.shorter in omega arith

-- what cutting does to each file that may be cut so
abbrev pub CutsAt : Geometry → (mid new : Working) → Opened → (count size : ℕ) → Type 0
CutsAt g mid new o count size = (v : Volume) (bytes now : List ℕ) → Carries g (pages_of mid) v → MayCut g v o count bytes now → length now ≡ size → Becomes g v (cut_file v o.number count now) mid new

-- the file with the zeros may be cut
pub record IsMidCut (g : Geometry) (v : Volume) (m : Cutting) (bytes : List ℕ) (old mid : Working) (count : ℕ) : Type 0 where
  pub file : IsBlankFile g v m.file.number m.size bytes old mid
  pub carries : Carries mid.geometry (pages_of mid) file.u
  pub may : MayCut mid.geometry file.u m.file count file.now (cut_to m.size bytes)
  pub size : length (cut_to m.size bytes) ≡ m.size

pub mid-cut : (g : Geometry) (v : Volume) (m : Cutting) (blocks : List ℕ) (old mid : Working) (count : ℕ) → g ≡ old.geometry → Agrees g (pages_of old) v → (plan : PlansCut g v m) → IsOver old mid → blocks ≡ m.file.blocks.items → IsBlanked old mid blocks m.size → count ≡ blocks_for m.size → IsMidCut g v m plan.bytes old mid count
mid-cut g v m blocks old mid count here agrees plan over same b e =
    let h = blank-file g v m old mid (carries-sound g (pages_of old) v agrees) plan (subst (λ (xs : List ℕ). IsBlanked old mid xs m.size) same b) in
    let at : g ≡ mid.geometry = here ∙ sym over.view.geometry in
    record {
      file = h;
      carries = subst (λ (x : Geometry). Carries x (pages_of mid) h.u) at h.becomes.carries;
      may = subst (λ (x : Geometry). MayCut x h.u m.file count h.now (cut_to m.size plan.bytes)) at (subst (λ (k : ℕ). MayCut g h.u m.file k h.now (cut_to m.size plan.bytes)) (sym e) (blank-may g v m old mid plan (sound-low g v m.file.number plan.bytes agrees.sound plan.is) h));
      size = cut-length m.size plan.bytes;
    }

pub mid-becomes_cut : (g : Geometry) (v : Volume) (m : Cutting) (bytes : List ℕ) (old mid new : Working) (count : ℕ) → g ≡ old.geometry → IsOver old mid → count ≡ blocks_for m.size → IsMidCut g v m bytes old mid count → CutsAt mid.geometry mid new m.file count m.size
    → Becomes g v (cut_file v m.file.number (blocks_for m.size) (cut_to m.size bytes)) old new
mid-becomes_cut g v m bytes old mid new count here over e h cuts =
    let now = cut_to m.size bytes in
    let at : mid.geometry ≡ g = over.view.geometry ∙ sym here in
    let did : Becomes g h.file.u (cut_file h.file.u m.file.number count now) mid new = subst (λ (x : Geometry). Becomes x h.file.u (cut_file h.file.u m.file.number count now) mid new) at (cuts h.file.u h.file.now now h.carries h.may h.size) in
    let same : cut_file h.file.u m.file.number count now ≡ cut_file v m.file.number (blocks_for m.size) now = h.file.cuts count now ∙ ap (λ (k : ℕ). cut_file v m.file.number k now) e in
    becomes-then g v h.file.u (cut_file v m.file.number (blocks_for m.size) now) old mid new over h.file.becomes (subst (λ w. Becomes g h.file.u w mid new) same did)

-- ---- the plan

pub plans-cut : (g : Geometry) (pages : Pages) (v : Volume) (m : Cutting) (i : ℕ) (inode : Inode) → Agrees g pages v → IsOpened g v m.file → m.file.number ≡ i → IsFileOf v i inode → m.size < inode.size → PlansCut g v m
plans-cut g pages v m i inode agrees opened same f short =
    let is : body v m.file.number ≡ File f.bytes = ap (λ (k : ℕ). body v k) same ∙ f.is in
    let s = file-size (node v i) inode f.bytes f.says f.is in
    record {
      opened = opened;
      bytes = f.bytes;
      is = is;
      shorter = omega arith;
      count = ap (λ (xs : List ℕ). length xs) opened.blocks ∙ sound-count g v m.file.number f.bytes agrees.sound is;
    }

-- no block is taken where there are enough
pub needs-none : (have want : ℕ) → want ≤ have → needs have want ≡ 0
needs-none have want few = elim (cases_lt 12 have) [
  | inl more ↦ let a = lt-leb have 12 more in rw a (omega arith)
  | inr less ↦
      let a = le-leb have 12 less in
      let b = le-ltb 12 want (omega arith) in
      rw (a, b) (omega arith)
]

cut-here : (g : Geometry) (q : ℕ) (v : Volume) (m : Cutting) (old new : Working) → Agrees g (pages_of old) v → (plan : PlansCut g v m) → Becomes g v (cut_file v m.file.number (blocks_for m.size) (cut_to m.size plan.bytes)) old new
    → ComesTo g v (truncate_in g q v m.file.number m.size (body v m.file.number)) Done old new
cut-here g q v m old new agrees plan becomes =
    let i = m.file.number in
    let now = cut_to m.size plan.bytes in
    let n = cut-length m.size plan.bytes in
    let limit = cut-limit g v m old agrees plan in
    let s = plan.shorter in
    let few : blocks_for m.size ≤ length (node v i).blocks = (let c = sound-count g v i plan.bytes agrees.sound plan.is in omega arith) in
    let none = needs-none (length (node v i).blocks) (blocks_for m.size) few in
    let carried : IsCarried g v (truncate_in g q v i m.size (body v i)) (resized g q v i now) =
    ap (λ (x : Verdict). carried_out g v x) (truncate-makes g q v i m.size plan.bytes plan.is limit).makes ∙ carried-enough g v (longer_needs v i m.size) (resized g q v i now) (omega arith) in
    let is : resized g q v i now ≡ cut_file v i (blocks_for m.size) now = resized-cut g q v i now (omega arith) ∙ ap (λ (k : ℕ). cut_file v i (blocks_for k) now) n in
    comes-carried g v (truncate_in g q v i m.size (body v i)) (resized g q v i now) old new carried (subst (λ w. Becomes g v w old new) (sym is) becomes)

pub cut-comes : (g : Geometry) (q : ℕ) (v : Volume) (m : Cutting) (i size : ℕ) (old new : Working) → Agrees g (pages_of old) v → m.file.number ≡ i → m.size ≡ size → (plan : PlansCut g v m) → Becomes g v (cut_file v m.file.number (blocks_for m.size) (cut_to m.size plan.bytes)) old new
    → ComesTo g v (truncate_in g q v i size (body v i)) Done old new
cut-comes g q v m i size old new agrees e f plan becomes =
    subst (λ (s : ℕ). ComesTo g v (truncate_in g q v i s (body v i)) Done old new) f (subst (λ (k : ℕ). ComesTo g v (truncate_in g q v k m.size (body v k)) Done old new) e (cut-here g q v m old new agrees plan becomes))
