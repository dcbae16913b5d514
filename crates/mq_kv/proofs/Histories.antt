-- A history of groups on the buckets of a map, and the stores that they lead to.
use Rattle.std.proofs.Common.{◌≡◌, ℕ, ◌+◌, Bool, cond, List, [], ◌∷◌, ◌++◌, length, Option, Some, None, refl, sym, ap, subst, ◌∙◌, inl, inr}
use Rattle.std.specs.Prelude.{reverse}
use Rattle.std.specs.Str.{bytes_eq}
use Rattle.std.proofs.lemmas.List.{reverse-append}
use Rattle.mq_blocks.specs.Blocks.{content}
use Rattle.mq_blocks.specs.Geometry.{meta_of}
use Rattle.mq_blocks.specs.Machine.{Map, after, or_kept, write_of}
use Rattle.mq_blocks.specs.declared.geometry.Geometry.{Geometry}
use Rattle.mq_blocks.proofs.Options.{option-cases}
use Rattle.mq_desk_laws.specs.Rule.{IsLegalHistory, history, numbered}
use Rattle.mq_desk_laws.specs.Values.{Values}
use Rattle.mq_kv_buckets.specs.Buckets.{records_of}
use Rattle.mq_kv_buckets.specs.Keys.{bucket_of}
use Rattle.mq_kv_buckets.specs.Records.{lookup}
use Rattle.mq_kv_buckets.specs.Store.{AreBuckets, Runs, Store, delete_reply, is_key, kv_of, read_reply, store_after, store_reply, stored}
use Rattle.mq_kv_buckets.specs.declared.operation.KvOp.{KvOp}
use Rattle.mq_kv_buckets.specs.declared.operation.KvOp.TheVariants.{Delete, Get, Put}
use Rattle.mq_kv_buckets.specs.declared.operation.KvReply.{KvReply}
use Rattle.mq_kv_buckets.specs.declared.operation.KvReply.TheVariants.{Done, Missing, Refused, Value}
use Rattle.mq_kv_buckets.specs.declared.operation.KvFault.TheVariants.{KeySize}
use Rattle.mq_kv_buckets.proofs.StoreLaws.{Alike, alike-runs, groups-run}
use Rattle.mq_kv_entries.specs.Entries.{Does, Ran, map_by, tx_of}
use Rattle.mq_kv_entries.specs.Group.{store_group}
use Rattle.mq_kv_entries.specs.declared.entry.KvEntry.{KvEntry}
use Rattle.mq_kv_entries.proofs.Entries.{some-buckets}
use Rattle.mq_kv.specs.Laws.{AnswerOn, Leads, buckets_after}
use Rattle.mq_kv.proofs.AlikeBuckets.{Alike as AlikeBuckets, after-alike, answers-more, buckets-more, replies-alike}
use Rattle.mq_ledger.specs.History.{change_of, map_after}
use Rattle.mq_ledger.specs.declared.tx.Tx.{Tx}

-- ---- stores

runs-to : (s t u : Store) (ops : List KvOp) (rs : List KvReply) → ((key : List ℕ) → u key ≡ t key) → Runs s ops rs t → Runs s ops rs u
runs-to s t u [] [] same run = λ key. same key ∙ run key
runs-to s t u [] (r ∷ rs) same run = run
runs-to s t u (op ∷ ops) [] same run = run
runs-to s t u (op ∷ ops) (r ∷ rs) same run = (run.0, runs-to (store_after s op r) t u ops rs same run.1)

-- one group more
leads-more : (s t u : Store) (es : List KvEntry) (e : KvEntry) → Leads s es t → Runs t e.ops e.replies u → Leads s (es ++ e ∷ []) u
leads-more s t u [] e led run = (u, alike-runs t s u e.ops e.replies led run, λ key. refl)
leads-more s t u (x ∷ es) e led run = (led.0, led.1, leads-more led.0 t u es e led.2 run)

pub leads-from : (s t u : Store) (es : List KvEntry) → Alike s t → Leads s es u → Leads t es u
leads-from s t u [] h led = λ key. led key ∙ h key
leads-from s t u (e ∷ es) h led = (led.0, alike-runs s t led.0 e.ops e.replies h led.1, led.2)

-- what a key has depends on the content of its bucket
pub kv-same : (buckets : ℕ) (m n : Map) (key : List ℕ) → content (m (bucket_of buckets key)) ≡ content (n (bucket_of buckets key)) → kv_of buckets m key ≡ kv_of buckets n key
kv-same buckets m n key same = ap (λ (bytes : List ℕ). lookup (records_of bytes) key) same

-- ---- one group

module _ (g : Geometry) (m : Map) (e : KvEntry) where
  -- its replies are the store's
  pub ran-runs : Ran g m e → Runs (kv_of (meta_of g) m) e.ops e.replies (kv_of (meta_of g) (map_by g m e))
  ran-runs ran =
      subst (λ (rs : List KvReply). Runs (kv_of (meta_of g) m) e.ops rs (kv_of (meta_of g) (map_by g m e))) (sym ran.is.replies_are)
      (groups-run (meta_of g) m e.ops (some-buckets g) ran.buckets).1

  -- and it leaves the next store
  pub does-runs : Does g m e → Runs (kv_of (meta_of g) m) e.ops e.replies (kv_of (meta_of g) (after m (change_of (tx_of e))))
  does-runs does =
      runs-to (kv_of (meta_of g) m) (kv_of (meta_of g) (map_by g m e)) (kv_of (meta_of g) (after m (change_of (tx_of e)))) e.ops e.replies
      (λ key. kv-same (meta_of g) (after m (change_of (tx_of e))) (map_by g m e) key (does.next (bucket_of (meta_of g) key)))
      (ran-runs does.ran)

-- a bucket that is there stays there
there-after : (m : Map) (e : KvEntry) (b : ℕ) (page : List ℕ) → m b ≡ Some page → (now : List ℕ) × (after m (change_of (tx_of e)) b ≡ Some now)
unfolding after
there-after m e b page is = elim (option-cases (write_of ((tx_of e).logged ++ (tx_of e).direct) b)) [
  | inl none ↦ (page, ap (λ (o : Option (List ℕ)). or_kept o (m b)) none ∙ is)
  | inr some ↦ (some.0, ap (λ (o : Option (List ℕ)). or_kept o (m b)) some.1)
]

-- what a transaction makes of a map does not depend on its number
after-numbered : (m : Map) (n : ℕ) (t : Tx) → after m (change_of t) ≡ after m (change_of (numbered n t))
unfolding after
after-numbered m n t = refl

-- ---- the history, newest first

module _ {Q R : Type 0} (values : Values Q R KvEntry) (g : Geometry) (start : Map) (base : ℕ) where
  abbrev at : List KvEntry → Map
  at es = map_after start (history values store_group base es)

  pub leads-log : (es : List KvEntry) → IsLegalHistory values store_group g start base es → Leads (kv_of (meta_of g) start) (reverse es) (kv_of (meta_of g) (at es))
  leads-log [] legal = λ key. refl
  leads-log (e ∷ es) legal =
      subst (λ (xs : List KvEntry). Leads (kv_of (meta_of g) start) xs (kv_of (meta_of g) (at (e ∷ es)))) (sym (reverse-append (e ∷ []) es))
      (leads-more (kv_of (meta_of g) start) (kv_of (meta_of g) (at es)) (kv_of (meta_of g) (at (e ∷ es))) (reverse es) e
      (leads-log es legal.2) (subst (λ (m : Map). Runs (kv_of (meta_of g) (at es)) e.ops e.replies (kv_of (meta_of g) m)) (after-numbered (at es) (base + length es + 1) (tx_of e)) (does-runs g (at es) e legal.0)))

  pub legal-older : (newer es : List KvEntry) → IsLegalHistory values store_group g start base (newer ++ es) → IsLegalHistory values store_group g start base es
  legal-older [] es legal = legal
  legal-older (x ∷ xs) es legal = legal-older xs es legal.2

  pub there-log : (es : List KvEntry) (b : ℕ) (page : List ℕ) → start b ≡ Some page → (now : List ℕ) × (at es b ≡ Some now)
  there-log [] b page is = (page, is)
  there-log (e ∷ es) b page is =
      let before = there-log es b page is in
      let now = there-after (at es) e b before.0 before.1 in
      (now.0, sym (ap (λ (m : Map). m b) (after-numbered (at es) (base + length es + 1) (tx_of e))) ∙ now.1)

  -- ---- the buckets of a history, byte for byte

  pub formed-log : (es : List KvEntry) → IsLegalHistory values store_group g start base es → AreBuckets (meta_of g) (at es)
  formed-log [] legal = legal
  formed-log (e ∷ es) legal = subst (λ (m : Map). AreBuckets (meta_of g) m) (after-numbered (at es) (base + length es + 1) (tx_of e)) legal.0.buckets

  pub buckets-log : (es : List KvEntry) → IsLegalHistory values store_group g start base es → AlikeBuckets (meta_of g) (at es) (buckets_after (meta_of g) start (reverse es))
  buckets-log [] legal b low = refl
  buckets-log (e ∷ es) legal b low =
      sym (ap (λ (m : Map). content (m b)) (after-numbered (at es) (base + length es + 1) (tx_of e)))
      ∙ (legal.0.next b
      ∙ (after-alike (meta_of g) (some-buckets g) (at es) (buckets_after (meta_of g) start (reverse es)) e.ops (buckets-log es legal.2) b low
      ∙ (ap (λ (m : Map). content (m b)) (sym (buckets-more (meta_of g) start (reverse es) e))
      ∙ ap (λ (xs : List KvEntry). content (buckets_after (meta_of g) start xs b)) (sym (reverse-append (e ∷ []) es)))))

  pub answers-log : (es : List KvEntry) → IsLegalHistory values store_group g start base es → AnswerOn (meta_of g) start (reverse es)
  answers-log [] legal = tt
  answers-log (e ∷ es) legal =
      subst (λ (xs : List KvEntry). AnswerOn (meta_of g) start xs) (sym (reverse-append (e ∷ []) es))
      (answers-more (meta_of g) start (reverse es) e (answers-log es legal.2)
      (legal.0.ran.is.replies_are ∙ replies-alike (meta_of g) (some-buckets g) (at es) (buckets_after (meta_of g) start (reverse es)) e.ops (buckets-log es legal.2)))
