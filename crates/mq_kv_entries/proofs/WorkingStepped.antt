-- One operation on the buckets as they are now, and one after another.
use Rattle.std.proofs.Common.{◌≡◌, ◌⊎◌, inl, inr, ℕ, ◌≤◌, Bool, true, false, cond, nat_eq, List, [], ◌∷◌, ◌++◌, refl, sym, ap, subst, ◌∙◌, append_assoc}
use Rattle.std.specs.Prelude.{Option, Some}
use Rattle.std.proofs.lemmas.Bool.{cases_eq, eq-eqb, ne_eqb}
use Rattle.std.proofs.lemmas.List.{append-nil}
use Rattle.mq_blocks.specs.Blocks.{content}
use Rattle.mq_blocks.specs.Machine.{Map, or_kept}
use Rattle.mq_kv_buckets.specs.Buckets.{IsFormed, bucket_bytes}
use Rattle.mq_kv_buckets.specs.Keys.{bucket_of}
use Rattle.mq_kv_buckets.specs.Store.{AreBuckets, done_in, is_done, key_of, map_after_ops, map_on, records_at, replies_on, reply_on}
use Rattle.mq_kv_buckets.specs.declared.operation.KvOp.{KvOp}
use Rattle.mq_kv_buckets.specs.declared.operation.KvReply.{KvReply}
use Rattle.mq_kv_buckets.specs.declared.operation.KvReply.TheVariants.{Done}
use Rattle.mq_kv_buckets.proofs.StoreLaws.{on-store}
use Rattle.mq_kv_entries.specs.Groups.{joined}
use Rattle.mq_kv_entries.specs.Working.{HasRun, IsKept, IsPut, IsStepped, changed_of, held_of, now}
use Rattle.mq_kv_entries.specs.declared.working.Working.{Working}
use Rattle.mq_kv_entries.proofs.LawsAlike.{does-alike, done-on, kept-on}

pub stepped-kept : (buckets : ℕ) (w : Working) (op : KvOp) → is_done (reply_on buckets (now w) op) ≡ false → IsStepped buckets w w op
stepped-kept buckets w op e = record { held = λ x. refl; is = λ x. sym (kept-on buckets (now w) op x e) }

pub stepped-done : (buckets b : ℕ) (old mid new : Working) (op : KvOp) (block : List ℕ) → b ≡ bucket_of buckets (key_of op) → IsKept old mid b → IsPut mid new b block → block ≡ bucket_bytes (done_in op (records_at (now old) b)) → reply_on buckets (now old) op ≡ Done
    → IsStepped buckets old new op
stepped-done buckets b old mid new op block b_is kept put block_is done = record {
  held = λ x. put.held x ∙ kept.held x;
  is = λ x. by x (cases_eq b x);
}
  where
    rest : (x : ℕ) → or_kept (changed_of old x) (joined (held_of old x)) ≡ or_kept (changed_of old x) (joined (held_of old x))
    rest x = refl

    by : (x : ℕ) → (b ≡ x) ⊎ (b ≡ x → ⊥) → now new x ≡ map_on buckets (now old) op x
    by x (inl same) =
        let here : changed_of new x ≡ Some block = ap (changed_of new) (sym same) ∙ put.here in
        let test : nat_eq (bucket_of buckets (key_of op)) x ≡ true = eq-eqb _ _ (sym b_is ∙ same) in
        ap (λ (o : Option (List ℕ)). or_kept o (joined (held_of new x))) here
        ∙ ap (λ (xs : List ℕ). Some xs) (block_is ∙ ap (λ (n : ℕ). bucket_bytes (done_in op (records_at (now old) n))) b_is)
        ∙ sym (done-on buckets (now old) op x done ∙ ap (λ (t : Bool). cond t (Some (bucket_bytes (done_in op (records_at (now old) (bucket_of buckets (key_of op)))))) (now old x)) test)
    by x (inr other) =
        let apart : x ≡ b → ⊥ = λ e. other (sym e) in
        let there : changed_of new x ≡ changed_of old x = put.others x apart ∙ kept.others x apart in
        let test : nat_eq (bucket_of buckets (key_of op)) x ≡ false = ne_eqb _ _ (λ e. other (b_is ∙ e)) in
        ap (λ (o : Option (List ℕ)). or_kept o (joined (held_of new x))) there
        ∙ ap (λ (o : Option (Option (List ℕ))). or_kept (changed_of old x) (joined o)) (put.held x ∙ kept.held x)
        ∙ sym (done-on buckets (now old) op x done ∙ ap (λ (t : Bool). cond t (Some (bucket_bytes (done_in op (records_at (now old) (bucket_of buckets (key_of op)))))) (now old x)) test)

pub formed-along : (buckets : ℕ) (m n : Map) → ((b : ℕ) → n b ≡ m b) → AreBuckets buckets m → AreBuckets buckets n
formed-along buckets m n h all b low = let P : Option (List ℕ) → Type 0 = λ page. IsFormed (content page) in subst P (sym (h b)) (all b low)

-- ---- one after another

-- what is left to do leads to the same end
pub record IsRun (buckets : ℕ) (old new : Working) (ops left : List KvOp) (replies : List KvReply) : Type 0 where
  pub held : (x : ℕ) → held_of new x ≡ held_of old x
  pub replies_are : replies ++ replies_on buckets (now new) left ≡ replies_on buckets (now old) ops
  pub is : (x : ℕ) → map_after_ops buckets (now new) left x ≡ map_after_ops buckets (now old) ops x
  pub formed : AreBuckets buckets (now new)

pub run-none : (buckets : ℕ) (w : Working) (ops : List KvOp) → AreBuckets buckets (now w) → IsRun buckets w w ops ops []
run-none buckets w ops all = record { held = λ x. refl; replies_are = refl; is = λ x. refl; formed = all }

pub run-more : (buckets : ℕ) (old mid new : Working) (ops left rest : List KvOp) (op : KvOp) (replies : List KvReply) (r : KvReply) → 1 ≤ buckets → left ≡ op ∷ rest → IsRun buckets old mid ops left replies → r ≡ reply_on buckets (now mid) op → IsStepped buckets mid new op
    → IsRun buckets old new ops rest (replies ++ r ∷ [])
run-more buckets old mid new ops left rest op replies r some e run r_is step =
    let alike = does-alike buckets (now new) (map_on buckets (now mid) op) rest (λ b looks. step.is b) in
    record {
      held = λ x. step.held x ∙ run.held x;
      replies_are =
          append_assoc replies (r ∷ []) (replies_on buckets (now new) rest)
          ∙ ap (λ (x : KvReply). replies ++ x ∷ replies_on buckets (now new) rest) r_is
          ∙ ap (λ (xs : List KvReply). replies ++ reply_on buckets (now mid) op ∷ xs) alike.replies
          ∙ ap (λ (xs : List KvOp). replies ++ replies_on buckets (now mid) xs) (sym e)
          ∙ run.replies_are;
      is = λ x. alike.blocks x (step.is x) ∙ ap (λ (xs : List KvOp). map_after_ops buckets (now mid) xs x) (sym e) ∙ run.is x;
      formed = formed-along buckets (map_on buckets (now mid) op) (now new) step.is (on-store buckets (now mid) op some run.formed).0;
    }

pub run-end : (buckets : ℕ) (old new : Working) (ops left : List KvOp) (replies : List KvReply) → left ≡ [] → IsRun buckets old new ops left replies → (replies ≡ replies_on buckets (now old) ops) × HasRun buckets old new ops
run-end buckets old new ops left replies e run = (
  sym (append-nil replies) ∙ ap (λ (xs : List KvOp). replies ++ replies_on buckets (now new) xs) (sym e) ∙ run.replies_are,
  record { held = run.held; is = λ x. ap (λ (xs : List KvOp). map_after_ops buckets (now new) xs x) (sym e) ∙ run.is x },
)
