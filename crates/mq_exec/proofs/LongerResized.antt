-- A file that gets other bytes, in a volume that is sound, and at what the request for it looks.
use Rattle.std.proofs.Common.{◌≡◌, ℕ, ◌+◌, ◌-◌, ◌<◌, ◌≤◌, List, length, true, refl, sym, ap, subst, ◌∙◌, arith, false, ◌/◌}
use Rattle.std.specs.Prelude.{Some, nat_lt, slice_get}
use Rattle.std.specs.List.{Contains}
use Rattle.std.proofs.lemmas.List.Elements.{All-contains}
use Rattle.mq_blocks.specs.Geometry.{queues_of}
use Rattle.mq_blocks.specs.declared.geometry.Geometry.{Geometry}
use Rattle.mq_exec.specs.Longer.{LooksLonger, indirect, longer_needs, part, picked, short}
use Rattle.mq_exec.specs.Overwrites.{past_place}
use Rattle.mq_exec.proofs.PlansComing.{carried-enough}
use Rattle.mq_exec.proofs.RequestsTaking.{body-taken, grown-takes}
use Rattle.mq_inodes.specs.Picks.{ArePicked}
use Rattle.mq_inodes.proofs.OpenedLinkedGrown.{picked-enough}
use Rattle.mq_inodes.proofs.ChangesTaken.{IsFree}
use Rattle.mq_inodes.proofs.ChangesVolumes.{resized-grown}
use Rattle.mq_inodes.proofs.Picks.{picks-all_free}
use Rattle.mq_inodes.proofs.Sound.{sound-count, sound-uses}
use Rattle.mq_tree.proofs.SoundVolumes.{used-low as used-inside}
use Rattle.mq_tree.specs.Free.{free_blocks, grown, needs}
use Rattle.mq_tree.specs.Looks.{LooksAt, WorksOn, is_refused, needed, pointers as at_pointers, searched as at_searched, taken as at_taken}
use Rattle.mq_tree.specs.Requests.{Makes, RequestOutcome, Verdict, carried_out, resized, step, verdict, with_body}
use Rattle.mq_tree.specs.Sound.{IsSound, blocks_for}
use Rattle.mq_tree.specs.Volume.{Body, File, Volume, body, is_taken, is_used, node}
use Rattle.mq_tree.proofs.FreeUses.{grown-is}
use Rattle.mq_tree.specs.declared.request.Reply.TheVariants.{Ok as Ready}
use Rattle.mq_tree.specs.declared.request.Request.{Request}

-- a block that is picked is taken in a file that is not shorter
resized-takes : (g : Geometry) (q : ℕ) (v : Volume) (i size : ℕ) (bytes now picks : List ℕ) (b : ℕ) → IsSound g v → q < queues_of g → body v i ≡ File bytes → length bytes ≤ size → length now ≡ size → ArePicked g q v (longer_needs v i size) picks → Contains picks b
    → is_taken (resized g q v i now) b ≡ true
resized-takes g q v i size bytes now picks b sound queue file longer n p c =
    let have = length (node v i).blocks in
    let uses = sound-uses g v sound in
    let low = used-inside v i (ap (λ (x : Body). is_used x) file) in
    let count = sound-count g v i bytes sound file in
    let more = blocks_for (length now) - have in
    let total : have + more ≡ blocks_for size = omega arith in
    let has = (sound.nodes i).indirect in
    let enough : needs have (have + more) ≤ free_blocks g v = subst (λ (k : ℕ). needs have k ≤ free_blocks g v) (sym total) (picked-enough g q v (longer_needs v i size) picks queue p) in
    let r = grown-is g q v i more queue low uses has enough in
    let u = grown g q v i more in
    let blocks : length (node u i).blocks ≡ blocks_for (length now) = (let l = r.longer in omega arith) in
    let is : resized g q v i now ≡ with_body u i (File now) = resized-grown g q v u i now refl blocks (r.indirect ∙ ap (λ (k : ℕ). nat_lt 12 k) blocks) in
    let inside : i < length u = (let s = r.size in omega arith) in
    ap (λ (x : Volume). is_taken x b) is ∙ body-taken u i (File now) b inside
    ∙ grown-takes g q v i more picks b queue low uses has (subst (λ (k : ℕ). ArePicked g q v (needs have k) picks) (sym total) p) c

-- ---- a request for it

pub record IsResizing (g : Geometry) (q : ℕ) (v : Volume) (r : Request) (i size : ℕ) (bytes now : List ℕ) : Type 0 where
  pub sound : IsSound g v
  pub queue : q < queues_of g
  pub works : WorksOn v r i bytes
  pub makes : verdict g q v r ≡ Makes (longer_needs v i size) (resized g q v i now)
  pub length_is : length now ≡ size

pub resizing-does : (g : Geometry) (q : ℕ) (v : Volume) (r : Request) (i size : ℕ) (bytes now : List ℕ) → IsResizing g q v r i size bytes now → longer_needs v i size ≤ free_blocks g v → step g q v r ≡ record { reply = Ready; next = resized g q v i now }
unfolding step
resizing-does g q v r i size bytes now h enough = ap (λ (x : Verdict). carried_out g v x) h.makes ∙ carried-enough g v (longer_needs v i size) (resized g q v i now) enough

pub resizing-done : (g : Geometry) (q : ℕ) (v : Volume) (r : Request) (i size : ℕ) (bytes now : List ℕ) → IsResizing g q v r i size bytes now → longer_needs v i size ≤ free_blocks g v → is_refused (step g q v r).reply ≡ false
resizing-done g q v r i size bytes now h enough = ap (λ (o : RequestOutcome). is_refused o.reply) (resizing-does g q v r i size bytes now h enough)

pub resizing-pointers : (g : Geometry) (q : ℕ) (v : Volume) (r : Request) (i size : ℕ) (bytes now : List ℕ) (b : ℕ) → IsResizing g q v r i size bytes now → longer_needs v i size ≤ free_blocks g v → (node v i).indirect ≡ Some b → LooksAt g q v r b
resizing-pointers g q v r i size bytes now b h enough e = at_pointers i bytes h.works (resizing-done g q v r i size bytes now h enough) e

-- it looks at what is looked at to get a file that is not shorter, if it looks at the blocks of the bytes
-- that are written
pub resizing-looks : (g : Geometry) (q : ℕ) (v : Volume) (r : Request) (i size at count : ℕ) (bytes now : List ℕ) (b : ℕ) → IsResizing g q v r i size bytes now → length bytes ≤ size
    → ((place : ℕ) → longer_needs v i size ≤ free_blocks g v → at / 4096 ≤ place → place < past_place at count → slice_get (node v i).blocks place ≡ Some b → LooksAt g q v r b) → LooksLonger g q v i size at count b → LooksAt g q v r b
resizing-looks g q v r i size at count bytes now b h longer parts (short s) =
    let same : needed (verdict g q v r) ≡ longer_needs v i size = ap needed h.makes in
    at_searched s.zone s.inside (let few = s.few in omega arith) s.is
resizing-looks g q v r i size at count bytes now b h longer parts (indirect picks p e) = resizing-pointers g q v r i size bytes now b h (picked-enough g q v (longer_needs v i size) picks h.queue p) e
resizing-looks g q v r i size at count bytes now b h longer parts (picked picks p c) =
    let enough = picked-enough g q v (longer_needs v i size) picks h.queue p in
    let free = All-contains (IsFree g v) picks b (picks-all_free g q v (longer_needs v i size) picks h.queue p) c in
    at_taken free.free (ap (λ (o : RequestOutcome). is_taken o.next b) (resizing-does g q v r i size bytes now h enough)
    ∙ resized-takes g q v i size bytes now picks b h.sound h.queue h.works.is longer h.length_is p c)
resizing-looks g q v r i size at count bytes now b h longer parts (part picks p place low high e) = parts place (picked-enough g q v (longer_needs v i size) picks h.queue p) low high e
