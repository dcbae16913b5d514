-- From a history of entries on a map to a run over volumes.
use Rattle.std.proofs.Common.{◌≡◌, ◌∙◌, ℕ, zero, suc, ◌+◌, ◌-◌, ◌<◌, ◌≤◌, inl, inr, Bool, List, [], ◌∷◌, ◌++◌, length, take, refl, sym, ap, subst, arith}
use Rattle.std.specs.Prelude.{if◌then◌else◌}
use Rattle.std.specs.List.{All}
use Rattle.std.proofs.lemmas.Bool.{cases_lt, le-ltb, lt-ltb, true≢false}
use Rattle.mq_blocks.specs.Geometry.{write_limit}
use Rattle.mq_blocks.specs.Machine.{Map, after}
use Rattle.mq_blocks.specs.declared.geometry.Geometry.{Geometry}
use Rattle.mq_exec.specs.Moves.{Moves}
use Rattle.mq_calls.specs.Entries.{RanUndrawn, Does, Ran, freed_by, tx_of, volume_after, written_by}
use Rattle.mq_calls.specs.declared.entry.FileEntry.{FileEntry}
use Rattle.mq_ledger.specs.History.{change_of}
use Rattle.mq_run_laws.proofs.Laid.{sound-laid}
use Rattle.mq_run_laws.proofs.MovesQuiet.{moves-change, moves-stay}
use Rattle.mq_run_laws.specs.Histories.{AllDo, AreLinesOf, none, commit, read, AreOfBytes, ChangesOn, IsCommitOf, WritesNothing, IsReadOf, RunsOn, StaysOn, TellsOf, map_after, volume_through}
use Rattle.mq_run_laws.specs.Legal.{AllWriteFew, IsRun, IsStep, WritesFew, group_of, newest, next, number_after, volume_at}
use Rattle.mq_pages.specs.declared.page.Write.{Write}
use Rattle.mq_report.specs.Lines.{Line}
use Rattle.mq_script.specs.Scripts.{Script}
use Rattle.mq_tree.proofs.KeptSteps.{group-sound}
use Rattle.mq_tree.proofs.LaidUnique.{volume-once}
use Rattle.mq_tree.specs.Kept.{HasBytes}
use Rattle.mq_tree.specs.Laid.{IsLaid}
use Rattle.mq_tree.specs.Requests.{after_group, replies}
use Rattle.mq_tree.specs.Volume.{Volume}

-- ---- entries on volumes

-- what ran on the volume of a map ran on the one that lies there
ran-on : (g : Geometry) (m : Map) (v : Volume) (e : FileEntry) → IsLaid g m v → Ran g m e → RunsOn g v e
ran-on g m v e laid ran = subst (λ (w : Volume). RunsOn g w e) (volume-once g m ran.volume v ran.laid laid) (record { queue = ran.queue; answered = ran.answered; moves = ran.moves })

pub asks-on : (g : Geometry) (m : Map) (v : Volume) (e : FileEntry) → IsLaid g m v → RanUndrawn g m e → RunsOn g v e
asks-on g m v e laid asks = ran-on g m v e laid asks.ran

does-laid : (g : Geometry) (m : Map) (v : Volume) (e : FileEntry) → IsLaid g m v → Does g m e → IsLaid g (after m (change_of (tx_of e))) (volume_after g v e)
does-laid g m v e laid does = subst (λ (w : Volume). IsLaid g (after m (change_of (tx_of e))) (volume_after g w e)) (volume-once g m does.ran.volume v does.ran.laid laid) does.next

does-on : (g : Geometry) (m : Map) (v : Volume) (e : FileEntry) → IsLaid g m v → Does g m e → ChangesOn g v e
does-on g m v e laid does =
    let runs = ran-on g m v e laid does.ran in
    record { runs = runs; changes = moves-change g v (volume_after g v e) (written_by e) (freed_by e) runs.moves does.changes }

quiet-moves : (g : Geometry) (v w : Volume) (e : FileEntry) → WritesNothing e → Moves g v w (written_by e) (freed_by e) → Moves g v w [] []
quiet-moves g v w e quiet moves = subst (λ (fs : List ℕ). Moves g v w [] fs) quiet.frees (subst (λ (ws : List Write). Moves g v w ws (freed_by e)) quiet.writes moves)

pub stays-on-map : (g : Geometry) (m n : Map) (v : Volume) (e : FileEntry) → IsLaid g m v → RanUndrawn g m e → WritesNothing e → IsLaid g n (volume_after g v e) → StaysOn g v e
stays-on-map g m n v e laid asks quiet there =
    let runs = asks-on g m v e laid asks in
    record { runs = runs; stays = moves-stay g m n v (volume_after g v e) laid there (quiet-moves g v (volume_after g v e) e quiet runs.moves) }

pub stays-on : (g : Geometry) (m : Map) (v : Volume) (e : FileEntry) → IsLaid g m v → RanUndrawn g m e → WritesNothing e → All HasBytes e.requests → StaysOn g v e
stays-on g m v e laid asks quiet low =
    let there = sound-laid g (volume_after g v e) (group-sound g e.session v e.requests laid.sound asks.ran.queue low) in
    stays-on-map g m there.0 v e laid asks quiet there.1

-- ---- a history

pub history-laid : (g : Geometry) (m : Map) (v : Volume) (es rest : List FileEntry) → IsLaid g m v → AllDo g m (es ++ rest) → IsLaid g (map_after m es) (volume_through g v es)
history-laid g m v [] rest laid all = laid
history-laid g m v (e ∷ es) rest laid all = history-laid g (after m (change_of (tx_of e))) (volume_after g v e) es rest (does-laid g m v e laid all.0) all.1

pub history-changes : (g : Geometry) (m : Map) (v : Volume) (es rest : List FileEntry) (e : FileEntry) → IsLaid g m v → AllDo g m (es ++ e ∷ rest) → ChangesOn g (volume_through g v es) e
history-changes g m v [] rest e laid all = does-on g m v e laid all.0
history-changes g m v (x ∷ es) rest e laid all = history-changes g (after m (change_of (tx_of x))) (volume_after g v x) es rest e (does-laid g m v x laid all.0) all.1

-- ---- lines

-- the volume after the entry of a line is the one after the line
next-is : (g : Geometry) (scripts : List Script) (v : Volume) (e : FileEntry) (l : Line) → TellsOf scripts l e → volume_after g v e ≡ next g scripts v l
next-is g scripts v e l t = ap (λ (s : ℕ). after_group g s v e.requests) t.session_is ∙ ap (after_group g l.session v) t.requests_are

replies-are : (g : Geometry) (scripts : List Script) (v : Volume) (e : FileEntry) (l : Line) → TellsOf scripts l e → RunsOn g v e → l.replies ≡ replies g l.session v (group_of scripts l).requests
replies-are g scripts v e l t runs =
    sym t.replies_are ∙ runs.answered ∙ ap (λ (s : ℕ). replies g s v e.requests) t.session_is ∙ ap (replies g l.session v) t.requests_are

own-queue : (g : Geometry) (scripts : List Script) (e : FileEntry) (l : Line) (count : ℕ) → TellsOf scripts l e → e.session < count → l.session < count
own-queue g scripts e l count t low = subst (λ (s : ℕ). s < count) t.session_is low

commit-step : (g : Geometry) (scripts : List Script) (m : Map) (v : Volume) (n : ℕ) (e : FileEntry) (l : Line) → IsLaid g m v → IsCommitOf g scripts m n e l → IsStep g scripts v n l
commit-step g scripts m v n e l laid c =
    let on = does-on g m v e laid c.does in record {
      of = c.tells.of;
      queue = own-queue g scripts e l _ c.tells on.runs.queue;
      end_is = c.tells.end_is;
      number = c.number ∙ ap (number_after n) (sym c.commit);
      answered = replies-are g scripts v e l c.tells on.runs;
      changes = λ yea same. on.changes (next-is g scripts v e l c.tells ∙ same);
      stays = λ nay. absurd (true≢false (sym c.commit ∙ nay));
    }

read-stays : (g : Geometry) (scripts : List Script) (m : Map) (v : Volume) (n : ℕ) (e : FileEntry) (l : Line) → AreOfBytes scripts → IsLaid g m v → IsReadOf g scripts m n e l → StaysOn g v e
read-stays g scripts m v n e l low laid r =
    stays-on g m v e laid r.asks r.quiet (subst (λ rs. All HasBytes rs) (sym r.tells.requests_are) (low l.session l.group r.tells.of))

read-step : (g : Geometry) (scripts : List Script) (m : Map) (v : Volume) (n : ℕ) (e : FileEntry) (l : Line) → AreOfBytes scripts → IsLaid g m v → IsReadOf g scripts m n e l → IsStep g scripts v n l
read-step g scripts m v n e l low laid r =
    let on = read-stays g scripts m v n e l low laid r in record {
      of = r.tells.of;
      queue = own-queue g scripts e l _ r.tells on.runs.queue;
      end_is = r.tells.end_is;
      number = r.number ∙ ap (number_after n) (sym r.commit);
      answered = replies-are g scripts v e l r.tells on.runs;
      changes = λ yea. absurd (true≢false (sym yea ∙ r.commit));
      stays = λ nay. sym (next-is g scripts v e l r.tells) ∙ on.stays;
    }

-- how much it writes
writes-few : (g : Geometry) (scripts : List Script) (v : Volume) (e : FileEntry) (l : Line) → TellsOf scripts l e → RunsOn g v e → length (written_by e) ≤ write_limit g → WritesFew g v (next g scripts v l)
writes-few g scripts v e l t runs few =
    subst (λ (w : Volume). WritesFew g v w) (next-is g scripts v e l t) (length (written_by e), record { writes = written_by e; frees = freed_by e; moves = runs.moves; many = refl }, few)

read-few : (g : Geometry) (e : FileEntry) → WritesNothing e → length (written_by e) ≤ write_limit g
read-few g e quiet = let l = ap length quiet.writes in omega (arith, l)

-- the map after a commit is that of the next volume, and after a read that of the same
commit-laid : (g : Geometry) (scripts : List Script) (m : Map) (v : Volume) (n : ℕ) (e : FileEntry) (l : Line) → IsLaid g m v → IsCommitOf g scripts m n e l → IsLaid g (after m (change_of (tx_of e))) (next g scripts v l)
commit-laid g scripts m v n e l laid c = subst (λ (w : Volume). IsLaid g (after m (change_of (tx_of e))) w) (next-is g scripts v e l c.tells) (does-laid g m v e laid c.does)

read-laid : (g : Geometry) (scripts : List Script) (m : Map) (v : Volume) (n : ℕ) (e : FileEntry) (l : Line) → AreOfBytes scripts → IsLaid g m v → IsReadOf g scripts m n e l → IsLaid g m (next g scripts v l)
read-laid g scripts m v n e l low laid r =
    subst (λ (w : Volume). IsLaid g m w) (sym (sym (next-is g scripts v e l r.tells) ∙ (read-stays g scripts m v n e l low laid r).stays)) laid

pub lines-run : (g : Geometry) (scripts : List Script) (m : Map) (v : Volume) (n k : ℕ) (es : List FileEntry) (lines : List Line) → AreOfBytes scripts → IsLaid g m v → n ≡ k → AreLinesOf g scripts m n es lines → IsRun g scripts v k lines × AllWriteFew g scripts v lines
lines-run g scripts m v n k es lines low laid same none = (tt, tt)
lines-run g scripts m v n k es lines low laid same (commit e l c more) =
    let on = does-on g m v e laid c.does in
    let rest = lines-run g scripts _ (next g scripts v l) (n + 1) l.number _ _ low (commit-laid g scripts m v n e l laid c) (sym c.number) more in
    ((subst (λ (i : ℕ). IsStep g scripts v i l) same (commit-step g scripts m v n e l laid c), rest.0), (writes-few g scripts v e l c.tells on.runs c.few, rest.1))
lines-run g scripts m v n k es lines low laid same (read e l r more) =
    let on = read-stays g scripts m v n e l low laid r in
    let rest = lines-run g scripts m (next g scripts v l) n l.number _ _ low (read-laid g scripts m v n e l low laid r) (sym r.number) more in
    ((subst (λ (i : ℕ). IsStep g scripts v i l) same (read-step g scripts m v n e l low laid r), rest.0), (writes-few g scripts v e l r.tells on.runs (read-few g e r.quiet), rest.1))

pub lines-newest : (g : Geometry) (scripts : List Script) (m : Map) (n k : ℕ) (es : List FileEntry) (lines : List Line) → n ≡ k → AreLinesOf g scripts m n es lines → newest k lines ≡ n + length es
lines-newest g scripts m n k es lines same none = omega (arith, same)
lines-newest g scripts m n k es lines same (commit e l c more) =
    let rest = lines-newest g scripts _ (n + 1) l.number _ _ (sym c.number) more in omega (arith, rest)
lines-newest g scripts m n k es lines same (read e l r more) = lines-newest g scripts m n l.number _ _ (sym r.number) more

-- ---- the volume at a number

take-none : (k : ℕ) → take {A = FileEntry} k [] ≡ []
take-none zero = refl
take-none (suc k) = refl

at-before : (g : Geometry) (scripts : List Script) (m : Map) (v : Volume) (l : Line) (ls : List Line) (x i : ℕ) (es : List FileEntry) → IsLaid g m v → x < l.number → i ≡ 0 → IsLaid g (map_after m (take i es)) (volume_at g scripts v (l ∷ ls) x)
at-before g scripts m v l ls x i es laid low z =
    subst (λ (w : Volume). IsLaid g (map_after m (take i es)) w) (ap (λ (b : Bool). if b then v else volume_at g scripts (next g scripts v l) ls x) (sym (lt-ltb x l.number low)))
    (subst (λ (j : ℕ). IsLaid g (map_after m (take j es)) v) (sym z) laid)

at-behind : (g : Geometry) (scripts : List Script) (m : Map) (v : Volume) (l : Line) (ls : List Line) (x : ℕ) → l.number ≤ x → IsLaid g m (volume_at g scripts (next g scripts v l) ls x) → IsLaid g m (volume_at g scripts v (l ∷ ls) x)
at-behind g scripts m v l ls x high laid = subst (λ (w : Volume). IsLaid g m w) (ap (λ (b : Bool). if b then v else volume_at g scripts (next g scripts v l) ls x) (sym (le-ltb x l.number high))) laid

pub lines-at : (g : Geometry) (scripts : List Script) (m : Map) (v : Volume) (n x : ℕ) (es : List FileEntry) (lines : List Line) → AreOfBytes scripts → IsLaid g m v → AreLinesOf g scripts m n es lines → IsLaid g (map_after m (take (x - n) es)) (volume_at g scripts v lines x)
lines-at g scripts m v n x es lines low laid none = subst (λ (fs : List FileEntry). IsLaid g (map_after m fs) v) (sym (take-none (x - n))) laid
lines-at g scripts m v n x es lines low laid (commit {es = fs} {ls = ls} e l c more) = elim (cases_lt x l.number) [
  | inl before ↦ let s = c.number in at-before g scripts m v l _ x (x - n) es laid before (omega (arith, s, before))
  | inr behind ↦
      let s = c.number in
      let rest = lines-at g scripts (after m (change_of (tx_of e))) (next g scripts v l) (n + 1) x fs ls low (commit-laid g scripts m v n e l laid c) more in
      let count : suc (x - (n + 1)) ≡ x - n = omega (arith, s, behind) in
      at-behind g scripts (map_after m (take (x - n) (e ∷ fs))) v l ls x behind (subst (λ (i : ℕ). IsLaid g (map_after m (take i (e ∷ fs))) (volume_at g scripts (next g scripts v l) ls x)) count rest)
]
lines-at g scripts m v n x es lines low laid (read {ls = ls} e l r more) = elim (cases_lt x l.number) [
  | inl before ↦ let s = r.number in at-before g scripts m v l _ x (x - n) es laid before (omega (arith, s, before))
  | inr behind ↦ at-behind g scripts (map_after m (take (x - n) es)) v l ls x behind (lines-at g scripts m (next g scripts v l) n x es ls low (read-laid g scripts m v n e l low laid r) more)
]
