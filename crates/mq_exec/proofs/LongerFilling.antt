-- A file that is filled up with zeros, and what getting another size comes to.
use Rattle.std.proofs.Common.{◌≡◌, ℕ, ◌<◌, ◌≤◌, inl, inr, List, [], length, Bool, cond, sym, ap, ◌∙◌, arith}
use Rattle.std.proofs.lemmas.Bool.{cases_lt, le-ltb, lt-ltb}
use Rattle.std.proofs.lemmas.List.{get_or_past}
use Rattle.mq_blocks.specs.declared.geometry.Geometry.{Geometry}
use Rattle.mq_exec.specs.Longer.{IsRewriting}
use Rattle.mq_exec.specs.Overwrites.{IsSplicedAt}
use Rattle.mq_exec.specs.Plans.{PlansRewrite}
use Rattle.mq_exec.specs.declared.rewrite.Rewriting.{Rewriting}
use Rattle.mq_layout.specs.Places.{file_limit}
use Rattle.mq_tree.proofs.KeptBytes.{cut-at}
use Rattle.mq_tree.specs.Free.{needs}
use Rattle.mq_tree.specs.Requests.{Makes, Verdict, cut_to, refused, resized, truncate_in}
use Rattle.mq_tree.specs.Sound.{blocks_for}
use Rattle.mq_tree.specs.Volume.{Body, File, Volume, body, node}
use Rattle.mq_tree.specs.declared.request.Fault.TheVariants.{TooBig}
use Rattle.mq_tree.proofs.RequestsNodes.{cut-length}

-- ---- what it comes to

pub truncate-big : (g : Geometry) (q : ℕ) (v : Volume) (i size : ℕ) (bytes : List ℕ) → body v i ≡ File bytes → file_limit < size → truncate_in g q v i size (body v i) ≡ refused TooBig
truncate-big g q v i size bytes is big =
    ap (λ (x : Body). truncate_in g q v i size x) is ∙ ap (λ (t : Bool). cond t (refused TooBig) (Makes (needs (length (node v i).blocks) (blocks_for (length (cut_to size bytes)))) (resized g q v i (cut_to size bytes)))) (lt-ltb file_limit size big)

pub truncate-makes : (g : Geometry) (q : ℕ) (v : Volume) (i size : ℕ) (bytes : List ℕ) → body v i ≡ File bytes → size ≤ file_limit → IsRewriting g q v i size (truncate_in g q v i size (body v i)) (cut_to size) bytes
truncate-makes g q v i size bytes is low =
    let n = cut-length size bytes in
    record {
      is = is;
      makes = ap (λ (x : Body). truncate_in g q v i size x) is ∙ ap (λ (t : Bool). cond t (refused TooBig) (Makes (needs (length (node v i).blocks) (blocks_for (length (cut_to size bytes)))) (resized g q v i (cut_to size bytes)))) (le-ltb file_limit size low)
          ∙ ap (λ (k : ℕ). Makes (needs (length (node v i).blocks) (blocks_for k)) (resized g q v i (cut_to size bytes))) n;
      length_is = n;
    }

-- ---- the bytes

-- zeros past the end change no byte
filled-spliced : (size : ℕ) (bytes : List ℕ) → length bytes ≤ size → IsSplicedAt 0 [] bytes (cut_to size bytes)
filled-spliced size bytes longer = record {
  inside = λ k l. absurd (omega arith);
  outside = λ k beside. elim (cases_lt k size) [
    | inl low ↦ cut-at size bytes k low
    | inr past ↦ get_or_past (cut_to size bytes) k 0 (let n = cut-length size bytes in omega arith) ∙ sym (get_or_past bytes k 0 (omega arith))
  ];
}

pub filled-at : (g : Geometry) (q : ℕ) (v : Volume) (verdict : Verdict) (size : ℕ) (m : Rewriting) → (plan : PlansRewrite g q v verdict (cut_to size) m) → IsSplicedAt 0 [] plan.bytes (cut_to size plan.bytes)
filled-at g q v verdict size m plan =
    let n = cut-length size plan.bytes in
    let s = plan.size in
    let l = plan.longer in
    filled-spliced size plan.bytes (omega arith)
