-- A group depends on the buckets of its keys, and leaves all others.
use Rattle.std.proofs.Common.{◌≡◌, ◌⊎◌, inl, inr, ℕ, Bool, true, false, cond, nat_eq, List, [], ◌∷◌, refl, sym, ap, subst, ◌∙◌}
use Rattle.std.specs.Prelude.{Option, Some}
use Rattle.std.specs.List.{Contains}
use Rattle.std.proofs.lemmas.Bool.{cases_Bool, cases_eq, eqb-true, false≢true}
use Rattle.mq_blocks.specs.Blocks.{content}
use Rattle.mq_blocks.specs.Machine.{Map}
use Rattle.mq_kv_buckets.specs.Buckets.{bucket_bytes, records_of}
use Rattle.mq_kv_buckets.specs.Keys.{bucket_of}
use Rattle.mq_kv_buckets.specs.Records.{Record}
use Rattle.mq_kv_buckets.specs.Store.{done_in, is_done, is_key, key_of, map_after_ops, map_on, records_at, replies_on, reply, reply_in, reply_on, set_bucket}
use Rattle.mq_kv_buckets.specs.declared.operation.KvFault.TheVariants.{KeySize}
use Rattle.mq_kv_buckets.specs.declared.operation.KvOp.{KvOp}
use Rattle.mq_kv_buckets.specs.declared.operation.KvReply.{KvReply}
use Rattle.mq_kv_buckets.specs.declared.operation.KvReply.TheVariants.{Done, Refused}
use Rattle.mq_kv_entries.specs.Groups.{GroupLooks, LooksAt}
use Rattle.mq_kv_entries.specs.GroupLaws.{DoesAlike}
use Rattle.mq_sessions.proofs.Members.{cons-cases, cons-here, cons-there, none-contained}

-- ---- what is looked at

pub looks-first : (buckets : ℕ) (op : KvOp) (ops : List KvOp) (b : ℕ) → LooksAt buckets op b → GroupLooks buckets (op ∷ ops) b
looks-first buckets op ops b looks = (op, cons-here op ops op refl, looks)

pub looks-later : (buckets : ℕ) (op : KvOp) (ops : List KvOp) (b : ℕ) → GroupLooks buckets ops b → GroupLooks buckets (op ∷ ops) b
looks-later buckets op ops b looks = (looks.0, cons-there op ops looks.0 looks.1, looks.2)

looks-or-not : (buckets : ℕ) (op : KvOp) (b : ℕ) → LooksAt buckets op b ⊎ (LooksAt buckets op b → ⊥)
looks-or-not buckets op b = elim (cases_Bool (is_key (key_of op))) [
  | inl good ↦ elim (cases_eq (bucket_of buckets (key_of op)) b) [
    | inl same ↦ inl (good, same)
    | inr other ↦ inr (λ looks. other looks.1)
  ]
  | inr bad ↦ inr (λ looks. false≢true (sym bad ∙ looks.0))
]

pub group-looks-or-not : (buckets : ℕ) (ops : List KvOp) (b : ℕ) → GroupLooks buckets ops b ⊎ (GroupLooks buckets ops b → ⊥)
group-looks-or-not buckets [] b = inr (λ looks. none-contained looks.0 looks.1)
group-looks-or-not buckets (op ∷ ops) b = by (looks-or-not buckets op b) (group-looks-or-not buckets ops b)
  where
    by : LooksAt buckets op b ⊎ (LooksAt buckets op b → ⊥) → GroupLooks buckets ops b ⊎ (GroupLooks buckets ops b → ⊥) → GroupLooks buckets (op ∷ ops) b ⊎ (GroupLooks buckets (op ∷ ops) b → ⊥)
    by (inl first) rest = inl (looks-first buckets op ops b first)
    by (inr none) (inl later) = inl (looks-later buckets op ops b later)
    by (inr none) (inr never) = inr (λ looks. apart looks.0 looks.1 looks.2)
      where
        apart : (x : KvOp) → Contains (op ∷ ops) x → LooksAt buckets x b → ⊥
        apart x there at = elim (cons-cases op ops x there) [
          | inl same ↦ (let P : KvOp → Type 0 = λ y. LooksAt buckets y b in none (subst P (sym same) at))
          | inr later ↦ never (x, later, at)
        ]

-- ---- one operation

-- what an operation makes of a block, by its bucket and the block
abbrev made : ℕ → KvOp → ℕ → Option (List ℕ) → Option (List ℕ) → Option (List ℕ)
made bucket op b page mine =
    cond (is_done (reply op (records_of (content page)))) (cond (nat_eq bucket b) (Some (bucket_bytes (done_in op (records_of (content page))))) mine) mine

pub made-is : (buckets : ℕ) (m : Map) (op : KvOp) (b : ℕ) → map_on buckets m op b ≡ made (bucket_of buckets (key_of op)) op b (m (bucket_of buckets (key_of op))) (m b)
made-is buckets m op b = by (is_done (reply_on buckets m op))
  where
    by : (t : Bool) → cond t (set_bucket m (bucket_of buckets (key_of op)) (done_in op (records_at m (bucket_of buckets (key_of op))))) m b
        ≡ cond t (cond (nat_eq (bucket_of buckets (key_of op)) b) (Some (bucket_bytes (done_in op (records_at m (bucket_of buckets (key_of op)))))) (m b)) (m b)
    by true = refl
    by false = refl

-- a key of another length is refused whatever the bucket is
refused : (op : KvOp) (rs : List Record) → is_key (key_of op) ≡ false → reply op rs ≡ Refused KeySize
refused op rs e = ap (λ (t : Bool). cond t (reply_in op rs) (Refused KeySize)) e

pub reply-alike : (buckets : ℕ) (m n : Map) (op : KvOp) → (LooksAt buckets op (bucket_of buckets (key_of op)) → m (bucket_of buckets (key_of op)) ≡ n (bucket_of buckets (key_of op))) → reply_on buckets m op ≡ reply_on buckets n op
reply-alike buckets m n op h = elim (cases_Bool (is_key (key_of op))) [
  | inl good ↦ ap (λ (page : Option (List ℕ)). reply op (records_of (content page))) (h (good, refl))
  | inr bad ↦ refused op (records_at m (bucket_of buckets (key_of op))) bad ∙ sym (refused op (records_at n (bucket_of buckets (key_of op))) bad)
]

pub kept-on : (buckets : ℕ) (m : Map) (op : KvOp) (b : ℕ) → is_done (reply_on buckets m op) ≡ false → map_on buckets m op b ≡ m b
kept-on buckets m op b e =
    made-is buckets m op b ∙ ap (λ (t : Bool). cond t (cond (nat_eq (bucket_of buckets (key_of op)) b) (Some (bucket_bytes (done_in op (records_at m (bucket_of buckets (key_of op)))))) (m b)) (m b)) e

pub done-on : (buckets : ℕ) (m : Map) (op : KvOp) (b : ℕ) → reply_on buckets m op ≡ Done → map_on buckets m op b ≡ cond (nat_eq (bucket_of buckets (key_of op)) b) (Some (bucket_bytes (done_in op (records_at m (bucket_of buckets (key_of op)))))) (m b)
done-on buckets m op b e =
    made-is buckets m op b ∙ ap (λ (r : KvReply). cond (is_done r) (cond (nat_eq (bucket_of buckets (key_of op)) b) (Some (bucket_bytes (done_in op (records_at m (bucket_of buckets (key_of op)))))) (m b)) (m b)) e

refused-kept : (buckets : ℕ) (m : Map) (op : KvOp) (b : ℕ) → is_key (key_of op) ≡ false → map_on buckets m op b ≡ m b
refused-kept buckets m op b bad = kept-on buckets m op b (ap is_done (refused op (records_at m (bucket_of buckets (key_of op))) bad))

pub on-alike : (buckets : ℕ) (m n : Map) (op : KvOp) → (LooksAt buckets op (bucket_of buckets (key_of op)) → m (bucket_of buckets (key_of op)) ≡ n (bucket_of buckets (key_of op))) → (b : ℕ) → m b ≡ n b → map_on buckets m op b ≡ map_on buckets n op b
on-alike buckets m n op h b e = elim (cases_Bool (is_key (key_of op))) [
  | inl good ↦
      made-is buckets m op b
      ∙ ap (λ (page : Option (List ℕ)). made (bucket_of buckets (key_of op)) op b page (m b)) (h (good, refl))
      ∙ ap (λ (page : Option (List ℕ)). made (bucket_of buckets (key_of op)) op b (n (bucket_of buckets (key_of op))) page) e
      ∙ sym (made-is buckets n op b)
  | inr bad ↦ refused-kept buckets m op b bad ∙ e ∙ sym (refused-kept buckets n op b bad)
]

on-untouched : (buckets : ℕ) (m : Map) (op : KvOp) (b : ℕ) → (LooksAt buckets op b → ⊥) → map_on buckets m op b ≡ m b
on-untouched buckets m op b never = elim (cases_Bool (is_key (key_of op))) [
  | inl good ↦ made-is buckets m op b ∙ by good (nat_eq (bucket_of buckets (key_of op)) b) refl (is_done (reply_on buckets m op))
  | inr bad ↦ refused-kept buckets m op b bad
]
  where
    by : is_key (key_of op) ≡ true → (t : Bool) → nat_eq (bucket_of buckets (key_of op)) b ≡ t → (u : Bool)
        → cond u (cond t (Some (bucket_bytes (done_in op (records_at m (bucket_of buckets (key_of op)))))) (m b)) (m b) ≡ m b
    by good true e u = absurd (never (good, eqb-true _ _ e))
    by good false e true = refl
    by good false e false = refl

-- ---- a group

pub does-alike : (buckets : ℕ) (m n : Map) (ops : List KvOp) → ((b : ℕ) → GroupLooks buckets ops b → m b ≡ n b) → DoesAlike buckets m n ops
does-alike buckets m n [] h = record { replies = refl; blocks = λ b e. e }
does-alike buckets m n (op ∷ ops) h =
    let here : LooksAt buckets op (bucket_of buckets (key_of op)) → m (bucket_of buckets (key_of op)) ≡ n (bucket_of buckets (key_of op)) = λ looks. h (bucket_of buckets (key_of op)) (looks-first buckets op ops (bucket_of buckets (key_of op)) looks) in
    let one : (b : ℕ) → m b ≡ n b → map_on buckets m op b ≡ map_on buckets n op b = on-alike buckets m n op here in
    let rest = does-alike buckets (map_on buckets m op) (map_on buckets n op) ops (λ b looks. one b (h b (looks-later buckets op ops b looks))) in
    record {
      replies = ap (λ (r : KvReply). r ∷ replies_on buckets (map_on buckets m op) ops) (reply-alike buckets m n op here) ∙ ap (λ (rs : List KvReply). reply_on buckets n op ∷ rs) rest.replies;
      blocks = λ b e. rest.blocks b (one b e);
    }

pub untouched : (buckets : ℕ) (m : Map) (ops : List KvOp) (b : ℕ) → (GroupLooks buckets ops b → ⊥) → map_after_ops buckets m ops b ≡ m b
untouched buckets m [] b never = refl
untouched buckets m (op ∷ ops) b never =
    untouched buckets (map_on buckets m op) ops b (λ looks. never (looks-later buckets op ops b looks))
    ∙ on-untouched buckets m op b (λ looks. never (looks-first buckets op ops b looks))
