-- Groups that are reported run on the store in the buckets.
use Rattle.std.proofs.Common.{◌≡◌, ◌≤◌, ℕ, Bool, true, false, List, [], ◌∷◌, Contains, length, refl, sym, ap, subst, ◌∙◌, arith}
use Rattle.std.specs.Prelude.{Option}
use Rattle.std.specs.Str.{bytes_eq}
use Rattle.std.proofs.lemmas.Bool.{false≢true}
use Rattle.std.proofs.lemmas.Slice.Eq.{bytes_eq-Decides}
use Rattle.mq_blocks.specs.Blocks.{content}
use Rattle.mq_blocks.specs.Geometry.{meta_of}
use Rattle.mq_blocks.specs.Machine.{Map}
use Rattle.mq_blocks.specs.declared.geometry.Geometry.{Geometry}
use Rattle.mq_kv_buckets.specs.Buckets.{records_of}
use Rattle.mq_kv_buckets.specs.Keys.{bucket_of}
use Rattle.mq_kv_buckets.specs.Records.{lookup}
use Rattle.mq_kv_buckets.specs.Store.{AreBuckets, Runs, Store, kv_of, map_after_ops, replies_on, store_after}
use Rattle.mq_kv_buckets.specs.declared.operation.KvOp.{KvOp}
use Rattle.mq_kv_buckets.specs.declared.operation.KvReply.{KvReply}
use Rattle.mq_kv_buckets.proofs.StoreLaws.{groups-run}
use Rattle.mq_kv_entries.specs.Groups.{IsDifference}
use Rattle.mq_kv_run.specs.Groups.{AreTold, IsCommit, Point, Writes, committed, cut_off, next, read, too_large, whole}
use Rattle.mq_kv_run.specs.Stores.{LeaveStore, store_at}
use Rattle.mq_kv_text.specs.declared.report.GroupReport.{GroupReport}
use Rattle.mq_pages.specs.declared.page.Write.{Write}

some-buckets : (g : Geometry) → 1 ≤ meta_of g
some-buckets g = let low = g.meta_low in omega arith

-- ---- a group that writes nothing

same-content : (old new : Map) (writes : List Write) → IsDifference old new writes → 0 ≡ length writes → (b : ℕ) → content (new b) ≡ content (old b)
same-content old new [] d none b = by (bytes_eq (content (new b)) (content (old b))) refl
  where
    nothing : (x : Write) → Contains [] x → ⊥
    nothing x has = let low = has.1 in omega (arith, low)

    by : (t : Bool) → bytes_eq (content (new b)) (content (old b)) ≡ t → content (new b) ≡ content (old b)
    by true e = (bytes_eq-Decides (content (new b)) (content (old b))).0 e
    by false e =
        let w = d.all b (λ same. false≢true (sym e ∙ (bytes_eq-Decides (content (new b)) (content (old b))).1 same)) in
        absurd (nothing w.0 w.1)
same-content old new (w ∷ writes) d none b = absurd (omega (arith, none))

same-store : (buckets : ℕ) (old new : Map) → ((b : ℕ) → content (new b) ≡ content (old b)) → (key : List ℕ) → kv_of buckets new key ≡ kv_of buckets old key
same-store buckets old new same key = ap (λ (bytes : List ℕ). lookup (records_of bytes) key) (same (bucket_of buckets key))

-- a run that leaves a store leaves each that is the same
runs-alike : (s t u : Store) (ops : List KvOp) (rs : List KvReply) → ((key : List ℕ) → u key ≡ t key) → Runs s ops rs t → Runs s ops rs u
runs-alike s t u [] [] same run = λ key. same key ∙ run key
runs-alike s t u [] (r ∷ rs) same run = run
runs-alike s t u (op ∷ ops) [] same run = run
runs-alike s t u (op ∷ ops) (r ∷ rs) same run = (run.0, runs-alike (store_after s op r) t u ops rs same run.1)

-- ---- groups

-- what a group leaves of the buckets and the store
abbrev Leaves : Geometry → Point → List KvOp → List KvReply → Point → Type 0
Leaves g p ops replies q = AreBuckets (meta_of g) q.map × Runs (store_at g p) ops replies (store_at g q)

commit-leaves : (g : Geometry) (p q : Point) (ops : List KvOp) → IsCommit g p ops q → AreBuckets (meta_of g) p.map → Leaves g p ops (replies_on (meta_of g) p.map ops) q
commit-leaves g p q ops is formed =
    let run = groups-run (meta_of g) p.map ops (some-buckets g) formed in
    subst (λ (m : Map). AreBuckets (meta_of g) m × Runs (store_at g p) ops (replies_on (meta_of g) p.map ops) (kv_of (meta_of g) m)) (sym is.map_is) run

read-leaves : (g : Geometry) (p : Point) (ops : List KvOp) → Writes g p.map ops 0 → AreBuckets (meta_of g) p.map → Leaves g p ops (replies_on (meta_of g) p.map ops) p
read-leaves g p ops none formed =
    let run = groups-run (meta_of g) p.map ops (some-buckets g) formed in
    let same = same-content p.map (map_after_ops (meta_of g) p.map ops) none.0 none.1 none.2 in
    (formed, runs-alike (store_at g p) (kv_of (meta_of g) (map_after_ops (meta_of g) p.map ops)) (store_at g p) ops _ (λ key. sym (same-store (meta_of g) p.map (map_after_ops (meta_of g) p.map ops) same key)) run.1)

pub groups-leave : (g : Geometry) (p last : Point) (groups : List (List KvOp)) (reports : List GroupReport) (off : Option (List KvOp)) → AreTold g p groups reports off last → AreBuckets (meta_of g) p.map
    → AreBuckets (meta_of g) last.map × LeaveStore (store_at g p) groups reports (store_at g last)
groups-leave g p _ _ _ _ (whole _) formed = (formed, λ key. refl)
groups-leave g p _ _ _ _ (cut_off _ ops [] count writes few) formed = (formed, λ key. refl)
groups-leave g p _ _ _ _ (cut_off _ ops (more ∷ groups) count writes few) formed = (formed, λ key. refl)
groups-leave g p last _ _ off (next _ q _ ops groups _ reports _ (committed _ is) rest) formed =
    let here = commit-leaves g p q ops is formed in
    let there = groups-leave g q last groups reports off rest here.0 in
    (there.0, (store_at g q, here.1, there.1))
groups-leave g p last _ _ off (next _ _ _ ops groups _ reports _ (read none) rest) formed =
    let here = read-leaves g p ops none formed in
    let there = groups-leave g p last groups reports off rest formed in
    (there.0, (store_at g p, here.1, there.1))
groups-leave g p last _ _ off (next _ _ _ ops groups _ reports _ (too_large count writes more) rest) formed =
    groups-leave g p last groups reports off rest formed

pub commits-run : (g : Geometry) (p q : Point) (ops : List KvOp) → IsCommit g p ops q → AreBuckets (meta_of g) p.map
    → AreBuckets (meta_of g) q.map × ((replies : List KvReply) × Runs (store_at g p) ops replies (store_at g q))
commits-run g p q ops is formed =
    let here = commit-leaves g p q ops is formed in
    (here.0, (replies_on (meta_of g) p.map ops, here.1))
