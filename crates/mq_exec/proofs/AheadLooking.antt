-- Each block at which a request looks is a home block.
use Rattle.std.proofs.Common.{◌≡◌, ◌≢◌, ℕ, ◌+◌, ◌-◌, ◌<◌, ◌≤◌, inl, inr, List, [], ◌∷◌, ◌++◌, length, true, sym, subst, ◌∙◌, arith, drop, get_or}
use Rattle.std.specs.List.{All}
use Rattle.std.proofs.Math.Nat.{div-le_self}
use Rattle.std.proofs.lemmas.List.{length-append}
use Rattle.std.proofs.lemmas.List.Elements.{All-append}
use Rattle.std.proofs.lemmas.Bool.{cases_Bool}
use Rattle.mq_blocks.specs.Geometry.{homes_of, meta_of, queues_of, zone_size}
use Rattle.mq_blocks.specs.declared.geometry.Geometry.{Geometry}
use Rattle.mq_exec.specs.Ahead.{IsLacked}
use Rattle.mq_exec.specs.Outcomes.{Answers, NeedsOf}
use Rattle.mq_exec.specs.declared.outcome.Outcome.{Outcome as Stops}
use Rattle.mq_exec.proofs.Outcomes.{IsRun, IsRunTo, cut-next, run-agrees, run-geometry, run-lacks, run-looks}
use Rattle.mq_exec.proofs.ReadsStepping.{WritesBytes, named-sound}
use Rattle.mq_inodes.specs.Fits.{Agrees, IsPossible}
use Rattle.mq_inodes.specs.MissingPages.{IsNeed, MissingPages, OfEach}
use Rattle.mq_inodes.specs.Pages.{Pages, pages_of}
use Rattle.mq_inodes.specs.declared.lack.Missing.{Missing}
use Rattle.mq_inodes.specs.declared.lack.Missing.TheVariants.{Need as NeedOf, OutOfMemory as Wanting}
use Rattle.mq_inodes.specs.declared.working.Working.{Working}
use Rattle.mq_inodes.proofs.ChangesFrame.{has-use}
use Rattle.mq_layout.specs.Places.{inode_block, inodes_of}
use Rattle.mq_tree.specs.Looks.{Leads, LeadsIn, Looks, LooksAt, paths_of, inode, directory, pointers, bytes, taken_inode, marks, no_inodes, no_space, freed, taken, searched}
use Rattle.mq_tree.specs.Requests.{step}
use Rattle.mq_tree.specs.Sound.{IsSound}
use Rattle.mq_tree.specs.Volume.{Part, Path, Pointers, Volume, Way, body, is_used, way}
use Rattle.mq_tree.specs.declared.request.Reply.{Reply}
use Rattle.mq_tree.specs.declared.request.Request.{Request}
use Rattle.mq_tree.proofs.Decoded.{taken-use}
use Rattle.mq_tree.proofs.VolumePaths.{IsTree, leads-used}
use Rattle.mq_tree.proofs.SoundVolumes.{sound-tree, used-low}
use Rattle.mq_tree.proofs.LaidRegions.{table-holds}

leads-in-way : (v : Volume) → IsTree v → (w : Way) (i : ℕ) → Leads v w i → is_used (body v i) ≡ true
leads-in-way v t [] i e = leads-used v t [] i e
leads-in-way v t (name ∷ w) i (inl e) = leads-used v t (name ∷ w) i e
leads-in-way v t (name ∷ w) i (inr l) = leads-in-way v t w i l

leads-in : (v : Volume) → IsTree v → (ps : List Path) (i : ℕ) → LeadsIn v ps i → is_used (body v i) ≡ true
leads-in v t [] i l = absurd l
leads-in v t (p ∷ ps) i (inl l) = leads-in-way v t (way p) i l
leads-in v t (p ∷ ps) i (inr l) = leads-in v t ps i l

inode-home : (g : Geometry) (i : ℕ) → i < inodes_of g → inode_block g i < homes_of g
inode-home g i low = let h = table-holds g i low in omega arith

used-home : (g : Geometry) (v : Volume) (i : ℕ) → IsSound g v → is_used (body v i) ≡ true → inode_block g i < homes_of g
used-home g v i s used = inode-home g i (let c = s.count in let l = used-low v i used in omega arith)

takes-home : (g : Geometry) (v w : Volume) (i : ℕ) → IsSound g v → IsSound g w → is_used (body v i) ≢ is_used (body w i) → inode_block g i < homes_of g
takes-home g v w i s t takes = elim (cases_Bool (is_used (body v i))) [
  | inl used ↦ used-home g v i s used
  | inr free ↦ elim (cases_Bool (is_used (body w i))) [
    | inl used ↦ used-home g w i t used
    | inr still ↦ absurd (takes (free ∙ sym still))
  ]
]

pub look-low : (g : Geometry) (q : ℕ) (v : Volume) (r : Request) (b : ℕ) → IsSound g v → q < queues_of g → WritesBytes r → LooksAt g q v r b → b < homes_of g
look-low g q v r b s low fine (inode i leads e) = subst (λ (n : ℕ). n < homes_of g) (sym e) (used-home g v i s (leads-in v (sound-tree g v s) (paths_of r) i leads))
look-low g q v r b s low fine (directory i slots leads is has) = let u = has-use v i b has in (s.zones u.0 b u.2).1
look-low g q v r b s low fine (pointers i text works kept e) = (s.zones (Pointers i) b e).1
look-low g q v r b s low fine (bytes i place byte text works kept e at from to) = (s.zones (Part i place) b e).1
look-low g q v r b s low fine (taken_inode i takes e) = subst (λ (n : ℕ). n < homes_of g) (sym e) (takes-home g v (step g q v r).next i s (named-sound g q v r s low fine) takes)
look-low g q v r b s low fine (marks i takes e) = let m = g.meta_low in omega arith
look-low g q v r b s low fine (no_inodes f e) = let m = g.meta_low in omega arith
look-low g q v r b s low fine (no_space f is e) = let m = g.meta_low in omega arith
look-low g q v r b s low fine (freed x was now e) =
    let u = taken-use v x was in
    let z = s.zones u.0 x u.1 in
    let d = div-le_self (x - meta_of g) (zone_size g) in
    let m = g.meta_low in
    let up = z.0 in
    let down = z.1 in
    omega arith
look-low g q v r b s low fine (taken was now) =
    let t = named-sound g q v r s low fine in
    let u = taken-use (step g q v r).next b now in
    (t.zones u.0 b u.1).1
look-low g q v r b s low fine (searched zone small few e) = let m = g.meta_low in omega arith

-- what a request of a group misses is among the home blocks
pub run-low : (g : Geometry) (q : ℕ) (held : Pages) (start now : Working) (whole : List Request) (k : ℕ) (r : Request) (so_far : List Reply) (b : ℕ) → start.geometry ≡ g → q < queues_of g → WritesBytes r → k < length whole → r ≡ get_or whole k r → IsRun g q held start now whole (drop k whole) so_far
    → OfEach now (λ v. Looks now.geometry q v r b) → (v : Volume) → Agrees g held v → b < homes_of g
run-low g q held start now whole k r so_far b e low fine l at h looks v agrees =
    let shape = run-geometry g q held start now whole (drop k whole) so_far e h in
    let t : IsRunTo g q v start now whole (r ∷ drop (k + 1) whole) so_far = subst (λ (rs : List Request). IsRunTo g q v start now whole rs so_far) (cut-next whole k r l at) (h.runs v agrees) in
    let each : (u : Volume) → Agrees g (pages_of now) u → Looks g q u r b = subst (λ (x : Geometry). (u : Volume) → Agrees x (pages_of now) u → Looks x q u r b) shape looks in
    look-low g q t.volume r b t.sound low fine (each t.volume (run-agrees g q v start now whole (r ∷ drop (k + 1) whole) so_far t)).looks

-- what a request of a group lacks
pub run-lacked : (g : Geometry) (q : ℕ) (held : Pages) (start now : Working) (whole : List Request) (k : ℕ) (r : Request) (so_far : List Reply) (blocks : List ℕ) → start.geometry ≡ g → q < queues_of g → WritesBytes r → k < length whole → r ≡ get_or whole k r → ((b : ℕ) → pages_of start b ≡ held b) → IsPossible g held
    → IsRun g q held start now whole (drop k whole) so_far → IsNeed (pages_of now) (λ b. OfEach now (λ v. Looks now.geometry q v r b)) blocks → All (IsLacked g q held whole) blocks
run-lacked g q held start now whole k r so_far blocks e low fine l at pages possible h need i d inside =
    let looks = need.looked i d inside in
    record {
      absent = sym (pages _) ∙ h.over.known _ (need.absent i d inside);
      home = run-low g q held start now whole k r so_far _ e low fine l at h looks possible.0 possible.1;
      looks = run-looks g q held start now whole k r so_far _ e l at h looks;
    }

pub run-stops : (g : Geometry) (q : ℕ) (held : Pages) (start now : Working) (whole : List Request) (k : ℕ) (r : Request) (so_far : List Reply) (lack : Missing) (ahead : List ℕ) (outcome : Stops) → start.geometry ≡ g → q < queues_of g → WritesBytes r → k < length whole → r ≡ get_or whole k r → ((b : ℕ) → pages_of start b ≡ held b) → IsPossible g held
    → IsRun g q held start now whole (drop k whole) so_far → MissingPages (pages_of now) (λ b. OfEach now (λ v. Looks now.geometry q v r b)) lack → All (IsLacked g q held whole) ahead → NeedsOf lack ahead outcome → Answers g q held whole outcome
run-stops g q held start now whole k r so_far (NeedOf blocks) ahead outcome e low fine l at pages possible h need more is =
    let first = run-lacked g q held start now whole k r so_far blocks.items e low fine l at pages possible h need in
    let some : 1 ≤ length (blocks.items ++ ahead) = (let n = length-append blocks.items ahead in let s = need.some in omega arith) in
    run-lacks g q held whole (blocks.items ++ ahead) outcome some (All-append (IsLacked g q held whole) blocks.items ahead first more) is
run-stops g q held start now whole k r so_far Wanting ahead outcome e low fine l at pages possible h need more is = absurd is
