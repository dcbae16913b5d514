-- A request that reads, by what its path was found to name.
use Rattle.std.proofs.Common.{◌≡◌, ℕ, ◌/◌, false, List, [], ◌∷◌, refl, sym, ap, subst, ◌∙◌, inl, inr}
use Rattle.std.specs.Prelude.{Result, Ok, Err}
use Rattle.std.proofs.lemmas.Bool.{true≢false}
use Rattle.mq_blocks.specs.declared.geometry.Geometry.{Geometry}
use Rattle.mq_exec.specs.Reads.{IsNamedOrRefused, IsNamed, LooksAlways, LooksInDir, NamesLeadPast, Reads, asked, path_of, reading}
use Rattle.mq_exec.specs.declared.named_inode.Subject.{Subject}
use Rattle.mq_inodes.specs.Files.{LooksInFile}
use Rattle.mq_inodes.specs.Walks.{LeadsPast, inode, directory}
use Rattle.mq_inodes.proofs.Walks.{leads-here}
use Rattle.mq_tree.specs.Looks.{LeadsIn, LooksAt, WorksOn, paths_of, inode as looks_inode, directory as looks_directory, pointers, bytes, is_refused}
use Rattle.mq_tree.specs.Requests.{RequestOutcome, Says, Verdict, carried_out, is_change, read_in, step, verdict}
use Rattle.mq_tree.specs.Volume.{Body, Path, Volume, body, way}
use Rattle.mq_tree.specs.declared.request.Fault.{Fault}
use Rattle.mq_tree.specs.declared.request.Reply.{Reply}
use Rattle.mq_tree.specs.declared.request.Reply.TheVariants.{Refused}
use Rattle.mq_tree.specs.declared.request.Request.{Request}
use Rattle.mq_tree.specs.declared.request.Request.TheVariants.{Mkdir, Create, Write, Truncate, Unlink, Rmdir, Rename, Link, Read, List as ListOf, Stat}

-- ---- what it answers

read-verdict : (g : Geometry) (q : ℕ) (v : Volume) (r : Request) → is_change r ≡ false → verdict g q v r ≡ asked v (reading r) (path_of r)
read-verdict g q v (Mkdir p) e = absurd (true≢false e)
read-verdict g q v (Create p) e = absurd (true≢false e)
read-verdict g q v (Write p at new) e = absurd (true≢false e)
read-verdict g q v (Truncate p size) e = absurd (true≢false e)
read-verdict g q v (Unlink p) e = absurd (true≢false e)
read-verdict g q v (Rmdir p) e = absurd (true≢false e)
read-verdict g q v (Rename p to) e = absurd (true≢false e)
read-verdict g q v (Link p to) e = absurd (true≢false e)
read-verdict g q v (Read p at count) e = refl
read-verdict g q v (ListOf p) e = refl
read-verdict g q v (Stat p) e = refl

read-step : (g : Geometry) (v : Volume) (r : Request) (reply : Reply) → is_change r ≡ false → asked v (reading r) (path_of r) ≡ Says reply → Reads g v r reply
unfolding step
read-step g v r reply reads e q = ap (λ (x : Verdict). carried_out g v x) (read-verdict g q v r reads ∙ e)

pub found-refused : (g : Geometry) (v : Volume) (r : Request) (path : Path) (found : Result Subject Fault) (fault : Fault) → is_change r ≡ false → path ≡ path_of r → found ≡ Err fault → IsNamedOrRefused v path found → Reads g v r (Refused fault)
found-refused g v r path found fault reads at is h =
    let f : IsNamedOrRefused v (path_of r) (Err fault) = subst (λ (p : Path). IsNamedOrRefused v p (Err fault)) at (subst (λ (x : Result Subject Fault). IsNamedOrRefused v path x) is h) in
    read-step g v r (Refused fault) reads (f (reading r))

pub found-named : (v : Volume) (path other : Path) (found : Result Subject Fault) (s : Subject) → path ≡ other → found ≡ Ok s → IsNamedOrRefused v path found → IsNamed v other s
found-named v path other found s at is h = subst (λ (p : Path). IsNamed v p s) at (subst (λ (x : Result Subject Fault). IsNamedOrRefused v path x) is h)

pub named-reads : (g : Geometry) (v : Volume) (r : Request) (s : Subject) (reply : Reply) → is_change r ≡ false → IsNamed v (path_of r) s → reply ≡ reading r (body v s.number) → Reads g v r reply
named-reads g v r s reply reads h e = read-step g v r reply reads (h.answers (reading r) ∙ ap (λ (x : Reply). Says x) (sym e))

-- ---- at what it looks

pub past-looks : (g : Geometry) (q : ℕ) (v : Volume) (p : Path) (r : Request) (b : ℕ) → paths_of r ≡ p ∷ [] → LeadsPast g v (way p) b → LooksAt g q v r b
past-looks g q v p r b e (inode i h at) = looks_inode i (subst (λ (ps : List Path). LeadsIn v ps i) (sym e) (inl h)) at
past-looks g q v p r b e (directory i slots h is has) = looks_directory i slots (subst (λ (ps : List Path). LeadsIn v ps i) (sym e) (inl h)) is has

pub names-look : (g : Geometry) (v : Volume) (r : Request) (path : Path) (b : ℕ) → is_change r ≡ false → path ≡ path_of r → NamesLeadPast g v path b → LooksAlways g v r b
names-look g v (Mkdir p) path b e at h q = absurd (true≢false e)
names-look g v (Create p) path b e at h q = absurd (true≢false e)
names-look g v (Write p o new) path b e at h q = absurd (true≢false e)
names-look g v (Truncate p size) path b e at h q = absurd (true≢false e)
names-look g v (Unlink p) path b e at h q = absurd (true≢false e)
names-look g v (Rmdir p) path b e at h q = absurd (true≢false e)
names-look g v (Rename p to) path b e at h q = absurd (true≢false e)
names-look g v (Link p to) path b e at h q = absurd (true≢false e)
names-look g v (Read p o count) path b e at h q = let k : NamesLeadPast g v p b = subst (λ (x : Path). NamesLeadPast g v x b) at h in record { named = k.names; looks = past-looks g q v p (Read p o count) b refl k.past }
names-look g v (ListOf p) path b e at h q = let k : NamesLeadPast g v p b = subst (λ (x : Path). NamesLeadPast g v x b) at h in record { named = k.names; looks = past-looks g q v p (ListOf p) b refl k.past }
names-look g v (Stat p) path b e at h q = let k : NamesLeadPast g v p b = subst (λ (x : Path). NamesLeadPast g v x b) at h in record { named = k.names; looks = past-looks g q v p (Stat p) b refl k.past }

dir-past : (g : Geometry) (v : Volume) (p : Path) (s : Subject) (b : ℕ) → IsNamed v p s → LooksInDir v s.number b → LeadsPast g v (way p) b
dir-past g v p s b h l = directory s.number l.dir.0 (leads-here v (way p) s.number h.leads) l.dir.1 l.has

pub list-looks : (g : Geometry) (v : Volume) (p : Path) (s : Subject) (b : ℕ) → IsNamed v p s → LooksInDir v s.number b → LooksAlways g v (ListOf p) b
list-looks g v p s b h l q = record { named = h.names; looks = past-looks g q v p (ListOf p) b refl (dir-past g v p s b h l) }

pub stat-looks : (g : Geometry) (v : Volume) (p : Path) (s : Subject) (b : ℕ) → IsNamed v p s → LooksInDir v s.number b → LooksAlways g v (Stat p) b
stat-looks g v p s b h l q = record { named = h.names; looks = past-looks g q v p (Stat p) b refl (dir-past g v p s b h l) }

pub read-looks : (g : Geometry) (v : Volume) (p : Path) (at count : ℕ) (s : Subject) (b : ℕ) → IsNamed v p s → LooksInFile v s.number at count b → LooksAlways g v (Read p at count) b
read-looks g v p at count s b h l q =
    let done : is_refused (step g q v (Read p at count)).reply ≡ false = ap (λ (o : RequestOutcome). is_refused o.reply) (named-reads g v (Read p at count) s _ refl h refl q) ∙ ap (λ (x : Body). is_refused (read_in at count x)) l.is in
    let works : WorksOn v (Read p at count) s.number l.bytes = record { path = p; names = refl; leads = h.leads; is = l.is } in
    record {
      named = h.names;
      looks = elim l.looks [
        | inl e ↦ pointers s.number l.bytes works done e
        | inr (byte, here, first, past) ↦ bytes s.number (byte / 4096) byte l.bytes works done here refl first past
      ];
    }
