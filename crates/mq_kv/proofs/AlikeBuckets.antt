-- Groups on two maps whose buckets have the same content.
use Rattle.std.proofs.Common.{◌≡◌, ℕ, ◌<◌, ◌≤◌, Bool, true, false, cond, nat_eq, List, [], ◌∷◌, ◌++◌, refl, sym, ap, ◌∙◌}
use Rattle.std.specs.Prelude.{Option, Some}
use Rattle.mq_blocks.specs.Blocks.{content}
use Rattle.mq_blocks.specs.Machine.{Map}
use Rattle.mq_kv_buckets.specs.Buckets.{bucket_bytes, records_of}
use Rattle.mq_kv_buckets.specs.Keys.{bucket_of}
use Rattle.mq_kv_buckets.specs.Records.{Record}
use Rattle.mq_kv_buckets.specs.Store.{done_in, is_done, key_of, map_after_ops, map_on, records_at, replies_on, reply, reply_on, set_bucket}
use Rattle.mq_kv_buckets.specs.declared.operation.KvOp.{KvOp}
use Rattle.mq_kv_buckets.specs.declared.operation.KvReply.{KvReply}
use Rattle.mq_kv_buckets.proofs.StoreLaws.{bucket-low}
use Rattle.mq_kv_entries.specs.declared.entry.KvEntry.{KvEntry}
use Rattle.mq_kv.specs.Laws.{AnswerOn, buckets_after}

-- the buckets of two maps have the same content
abbrev pub Alike : ℕ → Map → Map → Type 0
Alike buckets m n = (b : ℕ) → b < buckets → content (m b) ≡ content (n b)

content-of : (t u : Bool) (x y : Option (List ℕ)) → content (cond t (cond u x y) y) ≡ cond t (cond u (content x) (content y)) (content y)
content-of true true x y = refl
content-of true false x y = refl
content-of false u x y = refl

module _ (buckets : ℕ) (some : 1 ≤ buckets) where
  -- what an operation leaves in a block, by the bytes of its key's bucket
  abbrev left : List ℕ → List ℕ → KvOp → ℕ → List ℕ
  left bytes old op b =
      cond (is_done (reply op (records_of bytes))) (cond (nat_eq (bucket_of buckets (key_of op)) b) (bucket_bytes (done_in op (records_of bytes))) old) old

  at-block : (t : Bool) (m : Map) (at : ℕ) (rs : List Record) (b : ℕ) → (cond t (set_bucket m at rs) m) b ≡ cond t (cond (nat_eq at b) (Some (bucket_bytes rs)) (m b)) (m b)
  at-block true m at rs b = refl
  at-block false m at rs b = refl

  left-is : (m : Map) (op : KvOp) (b : ℕ) → content (map_on buckets m op b) ≡ left (content (m (bucket_of buckets (key_of op)))) (content (m b)) op b
  left-is m op b =
      let at = bucket_of buckets (key_of op) in
      let rs = done_in op (records_at m at) in
      ap content (at-block (is_done (reply_on buckets m op)) m at rs b)
      ∙ content-of (is_done (reply_on buckets m op)) (nat_eq at b) (Some (bucket_bytes rs)) (m b)

  on-alike : (m n : Map) (op : KvOp) → Alike buckets m n → Alike buckets (map_on buckets m op) (map_on buckets n op)
  on-alike m n op h b low =
      let at = bucket_of buckets (key_of op) in
      left-is m op b
      ∙ (ap (λ (bytes : List ℕ). left bytes (content (m b)) op b) (h at (bucket-low buckets (key_of op) some))
      ∙ (ap (λ (old : List ℕ). left (content (n at)) old op b) (h b low)
      ∙ sym (left-is n op b)))

  reply-alike : (m n : Map) (op : KvOp) → Alike buckets m n → reply_on buckets m op ≡ reply_on buckets n op
  reply-alike m n op h = ap (λ (bytes : List ℕ). reply op (records_of bytes)) (h (bucket_of buckets (key_of op)) (bucket-low buckets (key_of op) some))

  pub after-alike : (m n : Map) (ops : List KvOp) → Alike buckets m n → Alike buckets (map_after_ops buckets m ops) (map_after_ops buckets n ops)
  after-alike m n [] h = h
  after-alike m n (op ∷ ops) h = after-alike (map_on buckets m op) (map_on buckets n op) ops (on-alike m n op h)

  pub replies-alike : (m n : Map) (ops : List KvOp) → Alike buckets m n → replies_on buckets m ops ≡ replies_on buckets n ops
  replies-alike m n [] h = refl
  replies-alike m n (op ∷ ops) h =
      ap (λ (r : KvReply). r ∷ replies_on buckets (map_on buckets m op) ops) (reply-alike m n op h)
      ∙ ap (λ (rs : List KvReply). reply_on buckets n op ∷ rs) (replies-alike (map_on buckets m op) (map_on buckets n op) ops (on-alike m n op h))

  -- ---- groups one after another

  pub groups-alike : (m n : Map) (es : List KvEntry) → Alike buckets m n → Alike buckets (buckets_after buckets m es) (buckets_after buckets n es)
  groups-alike m n [] h = h
  groups-alike m n (e ∷ es) h = groups-alike (map_after_ops buckets m e.ops) (map_after_ops buckets n e.ops) es (after-alike m n e.ops h)

  pub answers-alike : (m n : Map) (es : List KvEntry) → Alike buckets m n → AnswerOn buckets m es → AnswerOn buckets n es
  answers-alike m n [] h a = tt
  answers-alike m n (e ∷ es) h a =
      (a.0 ∙ replies-alike m n e.ops h, answers-alike (map_after_ops buckets m e.ops) (map_after_ops buckets n e.ops) es (after-alike m n e.ops h) a.1)

-- one group more
pub buckets-more : (buckets : ℕ) (m : Map) (es : List KvEntry) (e : KvEntry) → buckets_after buckets m (es ++ e ∷ []) ≡ map_after_ops buckets (buckets_after buckets m es) e.ops
buckets-more buckets m [] e = refl
buckets-more buckets m (x ∷ es) e = buckets-more buckets (map_after_ops buckets m x.ops) es e

pub answers-more : (buckets : ℕ) (m : Map) (es : List KvEntry) (e : KvEntry) → AnswerOn buckets m es → e.replies ≡ replies_on buckets (buckets_after buckets m es) e.ops → AnswerOn buckets m (es ++ e ∷ [])
answers-more buckets m [] e a is = (is, tt)
answers-more buckets m (x ∷ es) e a is = (a.0, answers-more buckets (map_after_ops buckets m x.ops) es e a.1 is)
