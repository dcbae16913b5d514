-- What requests answer on a sound volume are bytes and good names.
use Rattle.std.proofs.Common.{◌≡◌, ℕ, suc, ◌<◌, ◌≤◌, inl, inr, Bool, true, false, cond, List, [], ◌∷◌, length, drop, refl, sym, subst, arith}
use Rattle.std.specs.Prelude.{Option, None, Some, nat_lt}
use Rattle.std.specs.Cmp.Lexicographic.{slice_cmp}
use Rattle.std.specs.List.{All, list_all}
use Rattle.std.specs.Ordering.{is_lt, nat_cmp}
use Rattle.std.proofs.lemmas.List.{length-drop, length-take}
use Rattle.std.proofs.lemmas.List.Elements.{All-cons, All-drop, All-head, All-nil, All-tail, All-take}
use Rattle.mq_blocks.specs.Geometry.{queues_of}
use Rattle.mq_blocks.specs.declared.geometry.Geometry.{Geometry}
use Rattle.mq_run_laws.specs.Histories.{AreOfBytes}
use Rattle.mq_run_laws.specs.Legal.{IsRun, group_of, next}
use Rattle.mq_layout.proofs.Names.{name-right}
use Rattle.mq_layout.specs.Names.{is_name}
use Rattle.mq_layout.specs.Slots.{Entry}
use Rattle.mq_report.specs.Lines.{Line}
use Rattle.mq_report.specs.Ranges.{HaveFitReplies, IsFit}
use Rattle.mq_script.specs.Scripts.{Script}
use Rattle.mq_tree.proofs.KeptSteps.{change-answers, group-sound, outcome, step-sound}
use Rattle.mq_tree.specs.Free.{free_blocks}
use Rattle.mq_tree.specs.Kept.{HasBytes}
use Rattle.mq_tree.specs.Requests.{Root, Lost, In, RequestTarget, Verdict, Says, Makes, asks, carried_out, count_names, insert_name, is_change, list_in, names_in, read_in, refused, replies, stat_in, step, target, verdict}
use Rattle.mq_tree.specs.Sound.{AreBytes, AreEntries, IsBody, IsSound}
use Rattle.mq_tree.specs.Volume.{Body, Free, File, Dir, Volume, body, node, way}
use Rattle.mq_tree.specs.declared.request.Fault.TheVariants.{BadName}
use Rattle.mq_tree.specs.declared.request.Reply.{Reply}
use Rattle.mq_tree.specs.declared.request.Request.{Request}
use Rattle.mq_tree.specs.declared.request.Request.TheVariants.{Mkdir, Create, Write, Truncate, Unlink, Rmdir, Rename, Link, Read, List as ListOf, Stat}

-- ---- bytes and names

are-bytes : (bytes : List ℕ) → AreBytes bytes → All (λ b. b < 256) bytes
are-bytes [] h = All-nil (λ b. b < 256)
are-bytes (b ∷ bs) h = All-cons (λ b. b < 256) b bs (h 0) (are-bytes bs (λ k. h (suc k)))

abbrev AreNames : List (List ℕ) → Type 0
AreNames names = All (λ n. is_name n ≡ true) names

insert-name : (name : List ℕ) (names : List (List ℕ)) → is_name name ≡ true → AreNames names → AreNames (insert_name name names)
insert-name name [] good h = All-cons (λ n. is_name n ≡ true) name [] good h
insert-name name (other ∷ names) good h =
    go (is_lt (slice_cmp nat_cmp name other)) (insert-name name names good (All-tail (λ n. is_name n ≡ true) other names h))
  where
    go : (b : Bool) → AreNames (insert_name name names) → AreNames (cond b (name ∷ other ∷ names) (other ∷ insert_name name names))
    go true more = All-cons (λ n. is_name n ≡ true) name (other ∷ names) good h
    go false more = All-cons (λ n. is_name n ≡ true) other (insert_name name names) (All-head (λ n. is_name n ≡ true) other names h) more

are-names : (slots : List (Option Entry)) → AreEntries slots → AreNames (names_in slots)
are-names [] h = All-nil (λ n. is_name n ≡ true)
are-names (None ∷ slots) h = are-names slots (λ k e. h (suc k) e)
are-names (Some e ∷ slots) h = insert-name e.name (names_in slots) (name-right e.name (h 0 e refl).name) (are-names slots (λ k e. h (suc k) e))

names-few : (slots : List (Option Entry)) → count_names slots ≤ length slots
names-few [] = omega arith
names-few (None ∷ slots) = let h = names-few slots in omega (arith, h)
names-few (Some e ∷ slots) = let h = names-few slots in omega (arith, h)

-- ---- one reply

read-fit : (at count blocks : ℕ) (b : Body) → IsBody b blocks → IsFit (read_in at count b)
read-fit at count blocks Free is = tt
read-fit at count blocks (File bytes) is =
    let long = is.0 in
    let kept = length-take count (drop at bytes) in
    let dropped = length-drop at bytes in
    (All-take (λ b. b < 256) count (drop at bytes) (All-drop (λ b. b < 256) at bytes (are-bytes bytes is.2)), omega (arith, long, kept, dropped))
read-fit at count blocks (Dir slots) is = tt

list-fit : (blocks : ℕ) (b : Body) → IsBody b blocks → IsFit (list_in b)
list-fit blocks Free is = tt
list-fit blocks (File bytes) is = tt
list-fit blocks (Dir slots) is = are-names slots is.2

stat-fit : (blocks : ℕ) (b : Body) → IsBody b blocks → IsFit (stat_in b)
stat-fit blocks Free is = tt
stat-fit blocks (File bytes) is = let long = is.0 in omega (arith, long)
stat-fit blocks (Dir slots) is = let few = names-few slots in let most = is.0 in let all = is.1 in omega (arith, few, most, all)

-- what a request says is fit
abbrev IsFitVerdict : Verdict → Type 0
IsFitVerdict (Says reply) = IsFit reply
IsFitVerdict (Makes blocks w) = Unit {0}

asks-fit : (v : Volume) (reply : Body → Reply) (t : RequestTarget) → ((i : ℕ) → IsFit (reply (body v i))) → IsFitVerdict (asks v reply t)
asks-fit v reply Root fit = fit 0
asks-fit v reply (Lost fault) fit = tt
asks-fit v reply (In d name None) fit = tt
asks-fit v reply (In d name (Some i)) fit = fit i

named-fit : (good : Bool) (x : Verdict) → IsFitVerdict x → IsFitVerdict (cond good x (refused BadName))
named-fit true x fit = fit
named-fit false x fit = tt

carried-fit : (g : Geometry) (v : Volume) (x : Verdict) → IsFitVerdict x → IsFit (carried_out g v x).reply
carried-fit g v (Says reply) fit = fit
carried-fit g v (Makes blocks w) fit = go (nat_lt (free_blocks g v) blocks)
  where
    go : (full : Bool) → IsFit (outcome full v w).reply
    go true = tt
    go false = tt

-- a request that may change the tree answers Ok, or is refused
change-fit : (g : Geometry) (q : ℕ) (v : Volume) (r : Request) → is_change r ≡ true → IsFit (step g q v r).reply
change-fit g q v r change = elim (change-answers g q v r change) [
  | inl done ↦ subst IsFit (sym done) tt
  | inr fault ↦ subst IsFit (sym fault.1) tt
]

ask-fit : (g : Geometry) (q : ℕ) (v : Volume) (r : Request) → IsFitVerdict (verdict g q v r) → IsFit (step g q v r).reply
unfolding step
ask-fit g q v r fit = carried-fit g v (verdict g q v r) fit

step-fit : (g : Geometry) (q : ℕ) (v : Volume) (r : Request) → IsSound g v → IsFit (step g q v r).reply
step-fit g q v (Mkdir p) sound = change-fit g q v (Mkdir p) refl
step-fit g q v (Create p) sound = change-fit g q v (Create p) refl
step-fit g q v (Write p at bytes) sound = change-fit g q v (Write p at bytes) refl
step-fit g q v (Truncate p size) sound = change-fit g q v (Truncate p size) refl
step-fit g q v (Unlink p) sound = change-fit g q v (Unlink p) refl
step-fit g q v (Rmdir p) sound = change-fit g q v (Rmdir p) refl
step-fit g q v (Rename p to) sound = change-fit g q v (Rename p to) refl
step-fit g q v (Link p to) sound = change-fit g q v (Link p to) refl
step-fit g q v (Read p at count) sound =
    ask-fit g q v (Read p at count) (named-fit (list_all is_name p) (asks v (read_in at count) (target v (way p))) (asks-fit v (read_in at count) (target v (way p)) (λ i. read-fit at count (length (node v i).blocks) (body v i) (sound.nodes i).body)))
step-fit g q v (ListOf p) sound =
    ask-fit g q v (ListOf p) (named-fit (list_all is_name p) (asks v list_in (target v (way p))) (asks-fit v list_in (target v (way p)) (λ i. list-fit (length (node v i).blocks) (body v i) (sound.nodes i).body)))
step-fit g q v (Stat p) sound =
    ask-fit g q v (Stat p) (named-fit (list_all is_name p) (asks v stat_in (target v (way p))) (asks-fit v stat_in (target v (way p)) (λ i. stat-fit (length (node v i).blocks) (body v i) (sound.nodes i).body)))

-- ---- groups and lines

group-fit : (g : Geometry) (q : ℕ) (v : Volume) (rs : List Request) → IsSound g v → q < queues_of g → All HasBytes rs → All IsFit (replies g q v rs)
unfolding replies
group-fit g q v [] sound low fine = All-nil IsFit
group-fit g q v (r ∷ rs) sound low fine =
    All-cons IsFit (step g q v r).reply (replies g q (step g q v r).next rs) (step-fit g q v r sound)
    (group-fit g q (step g q v r).next rs (step-sound g q v r sound low (All-head HasBytes r rs fine)) low (All-tail HasBytes r rs fine))

pub run-fit : (g : Geometry) (scripts : List Script) (v : Volume) (n : ℕ) (lines : List Line) → IsSound g v → AreOfBytes scripts → IsRun g scripts v n lines → HaveFitReplies lines
run-fit g scripts v n [] sound bytes run = All-nil (λ (l : Line). All IsFit l.replies)
run-fit g scripts v n (l ∷ ls) sound bytes run =
    let fine : All HasBytes (group_of scripts l).requests = bytes l.session l.group run.0.of in
    All-cons (λ (l : Line). All IsFit l.replies) l ls
    (subst (λ (rs : List Reply). All IsFit rs) (sym run.0.answered) (group-fit g l.session v (group_of scripts l).requests sound run.0.queue fine))
    (run-fit g scripts (next g scripts v l) l.number ls (group-sound g l.session v (group_of scripts l).requests sound run.0.queue fine) bytes run.1)
