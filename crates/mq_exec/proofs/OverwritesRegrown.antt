-- A file that has got the blocks for its new size.
use Rattle.std.proofs.Common.{get_or, ◌≡◌, ℕ, ◌+◌, ◌-◌, ◌<◌, ◌≤◌, List, length, sym, ap, subst, ◌∙◌, arith}
use Rattle.std.specs.Prelude.{Some, nat_lt}
use Rattle.std.proofs.lemmas.Option.{slice_get-get_or}
use Rattle.mq_blocks.specs.declared.geometry.Geometry.{Geometry}
use Rattle.mq_exec.specs.Overwrites.{AreApart}
use Rattle.mq_exec.specs.Plans.{PlansRewrite}
use Rattle.mq_exec.specs.declared.rewrite.Rewriting.{Rewriting}
use Rattle.mq_inodes.specs.Edits.{Becomes, Carries}
use Rattle.mq_inodes.specs.Opened.{HasGrown}
use Rattle.mq_inodes.specs.Pages.{Pages, pages_of}
use Rattle.mq_inodes.specs.declared.opened.Opened.{Opened}
use Rattle.mq_inodes.specs.declared.working.Working.{Working}
use Rattle.mq_inodes.proofs.OpenedLinkedGrown.{picked-enough}
use Rattle.mq_inodes.proofs.ChangesBodies.{rebodied}
use Rattle.mq_inodes.proofs.ChangesVolumes.{resized-grown}
use Rattle.mq_layout.specs.Places.{inodes_of}
use Rattle.mq_layout.specs.declared.inode.Inode.{Inode}
use Rattle.mq_tree.specs.Free.{free_blocks, grown, needs}
use Rattle.mq_tree.specs.Laid.{inode_of, kind_of, or_zero, padded}
use Rattle.mq_tree.specs.Requests.{Verdict, resized, with_body}
use Rattle.mq_tree.specs.Sound.{blocks_for}
use Rattle.mq_tree.specs.Volume.{Body, File, Node, Use, Part, Pointers, Volume, body, node}
use Rattle.mq_tree.proofs.FreeUses.{IsFresh, IsGrown, grown-is}

-- The volume with the blocks, and what is known of the file in it.
pub record IsRegrown (g : Geometry) (q : ℕ) (v : Volume) (m : Rewriting) (bytes : List ℕ) (old mid : Working) (after : Opened) : Type 0 where
  pub u : Volume
  pub becomes : Becomes g v u old mid
  pub low : m.file.number < inodes_of g
  pub number : after.number ≡ m.file.number
  pub is : body u m.file.number ≡ File bytes
  pub inode : after.inode ≡ inode_of (node u m.file.number)
  pub blocks : after.blocks.items ≡ (node u m.file.number).blocks
  pub count : length (node u m.file.number).blocks ≡ blocks_for m.size
  pub fresh : IsFresh v u
  pub resized_is : (now : List ℕ) → length now ≡ m.size → resized g q v m.file.number now ≡ with_body u m.file.number (File now)

pub regrown : (g : Geometry) (q : ℕ) (v : Volume) (verdict : Verdict) (rewritten : List ℕ → List ℕ) (m : Rewriting) (old mid : Working) (after : Opened) → Carries g (pages_of old) v → (plan : PlansRewrite g q v verdict rewritten m)
    → HasGrown g q v old mid m.file after (blocks_for m.size - blocks_for (length plan.bytes)) → IsRegrown g q v m plan.bytes old mid after
regrown g q v verdict rewritten m old mid after c plan h = record {
  u = u;
  becomes = h.becomes;
  low = plan.grow.opened.low;
  number = h.number;
  is = r.bodies m.file.number ∙ plan.is;
  inode = subst (λ k. after.inode ≡ inode_of (node u k)) h.number h.opened.inode;
  blocks = subst (λ k. after.blocks.items ≡ (node u k).blocks) h.number h.opened.blocks;
  count = count;
  fresh = r.fresh;
  resized_is = λ now e.
      let same : blocks_for (length now) ≡ blocks_for m.size = ap (λ (k : ℕ). blocks_for k) e in
      let grows : blocks_for (length now) - length (node v i).blocks ≡ more = ap (λ (k : ℕ). blocks_for (length now) - k) have ∙ ap (λ (k : ℕ). k - blocks_for (length plan.bytes)) same in
      resized-grown g q v u i now (sym (ap (λ (k : ℕ). grown g q v i k) grows)) (count ∙ sym same) (r.indirect ∙ ap (λ (k : ℕ). nat_lt 12 k) (count ∙ sym same));
}
  where
    i : ℕ
    i = m.file.number

    more : ℕ
    more = blocks_for m.size - blocks_for (length plan.bytes)

    u : Volume
    u = grown g q v i more

    have : length (node v i).blocks ≡ blocks_for (length plan.bytes)
    have = ap length (sym plan.grow.opened.blocks) ∙ plan.count

    enough : needs (length (node v i).blocks) (length (node v i).blocks + more) ≤ free_blocks g v
    enough = subst (λ (xs : List ℕ). needs (length xs) (length xs + more) ≤ free_blocks g v) plan.grow.opened.blocks (picked-enough g q v (needs (length m.file.blocks.items) (length m.file.blocks.items + more)) m.picks.items plan.grow.queue plan.grow.picked)

    r : IsGrown g v u i more
    r = grown-is g q v i more plan.grow.queue (let n = c.count in let l = plan.grow.opened.low in omega arith) c.uses plan.grow.opened.indirect enough

    longer : blocks_for (length plan.bytes) ≤ blocks_for m.size
    longer = let l = plan.longer in omega arith

    count : length (node u i).blocks ≡ blocks_for m.size
    count = let l = r.longer in let m = longer in let h = have in omega arith

-- the inode with the new size
pub sized-inode : (n : Node) (o : Inode) (bytes now : List ℕ) (size : ℕ) → o ≡ inode_of n → n.body ≡ File bytes → size ≡ length now → record { kind = o.kind; links = o.links; size = size; direct = o.direct; indirect = o.indirect } ≡ inode_of (rebodied n (File now))
sized-inode n o bytes now size e is s =
    ap (λ (x : Inode). record { kind = x.kind; links = x.links; size = size; direct = x.direct; indirect = x.indirect }) e
    ∙ ap (λ (b : Body). record { kind = kind_of b; links = n.links; size = size; direct = padded 12 n.blocks; indirect = or_zero n.indirect }) is
    ∙ ap (λ (k : ℕ). record { kind = 1; links = n.links; size = k; direct = padded 12 n.blocks; indirect = or_zero n.indirect }) s

part-place : (i j k : ℕ) → Part i j ≡ Part i k → j ≡ k
part-place i j k e = ap place_in e
  where
    place_in : Use → ℕ
    place_in (Part i place) = place
    place_in (Pointers i) = 0

-- no block of a file stands twice
pub blocks-apart : (g : Geometry) (pages : Pages) (u : Volume) (i : ℕ) → Carries g pages u → AreApart (node u i).blocks
blocks-apart g pages u i c j k l m e =
    part-place i j k (c.uses.apart (Part i j) (Part i k) (get_or (node u i).blocks j 0) (slice_get-get_or (node u i).blocks j 0 l) (slice_get-get_or (node u i).blocks k 0 m ∙ ap (λ (x : ℕ). Some x) (sym e)))
