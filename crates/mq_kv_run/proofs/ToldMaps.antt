-- What a group changes on two maps whose buckets have the same content.
use Rattle.std.proofs.Common.{List, sym, ◌∙◌}
use Rattle.mq_blocks.specs.Geometry.{meta_of}
use Rattle.mq_blocks.specs.Machine.{Map}
use Rattle.mq_blocks.specs.declared.geometry.Geometry.{Geometry}
use Rattle.mq_kv.proofs.AlikeBuckets.{Alike, after-alike}
use Rattle.mq_kv_buckets.specs.Store.{map_after_ops}
use Rattle.mq_kv_buckets.specs.declared.operation.KvOp.{KvOp}
use Rattle.mq_kv_entries.proofs.Entries.{looked-low, some-buckets}
use Rattle.mq_kv_entries.specs.Groups.{IsDifference}
use Rattle.mq_kv_entries.proofs.GroupsDone.{differs-looked}
use Rattle.mq_pages.specs.declared.page.Write.{Write}

-- the same blocks are changed
pub difference-alike : (g : Geometry) (m n : Map) (ops : List KvOp) (ws : List Write) → Alike (meta_of g) m n → IsDifference m (map_after_ops (meta_of g) m ops) ws → IsDifference n (map_after_ops (meta_of g) n ops) ws
difference-alike g m n ops ws h d =
    let after : Alike (meta_of g) (map_after_ops (meta_of g) m ops) (map_after_ops (meta_of g) n ops) = after-alike (meta_of g) (some-buckets g) m n ops h in
    record {
      rise = d.rise;
      written = λ x c.
          let at = d.written x c in
          let low = looked-low g ops x.block (differs-looked (meta_of g) m ops x.block (λ e. at.2 (sym e ∙ at.1))) in
          (at.0, sym (after x.block low) ∙ at.1, λ e. at.2 (h x.block low ∙ e));
      all = λ b other.
          let low = looked-low g ops b (differs-looked (meta_of g) n ops b other) in
          d.all b (λ e. other (sym (after b low) ∙ (e ∙ h b low)));
    }
