-- How often the ports of a run rang, and how many events happened on them, by the commits of its report.
use Rattle.std.proofs.Common.{◌≡◌, ℕ, suc, ◌+◌, ◌<◌, ◌≤◌, ◌++◌, Bool, true, false, cond, List, [], ◌∷◌, length, map, Some, refl, sym, ap, subst, ◌∙◌, inl, inr, arith, append-nil, eq-eqb, eqb-true}
use Rattle.std.specs.Prelude.{◌&&◌, Ok, Err, Result, nat_eq, reverse, slice_get, if◌then◌else◌}
use Rattle.std.specs.List.{AllPairs, filter, sum_by}
use Rattle.std.proofs.lemmas.Bool.{cases_Bool, cases_lt}
use Rattle.std.proofs.lemmas.List.{length-map, reverse-append, reverse-reverse}
use Rattle.std.proofs.lemmas.List.Kept.{AllPairs-filter}
use Rattle.std.proofs.lemmas.List.Sorted.{sum_by-IsPermutation}
use Rattle.std.proofs.lemmas.List.Sums.{sum_by-append, sum_by-cons}
use Rattle.mq_blocks.specs.Drive.{PortState}
use Rattle.mq_blocks.specs.declared.geometry.Geometry.{Geometry}
use Rattle.mq_queue_side.specs.declared.answers.Refusal.{Refusal}
use Rattle.mq_drive.specs.Steps.{PortFault}
use Rattle.mq_drive.specs.declared.port.Port.{Ghosts}
use Rattle.mq_drive.specs.declared.port.Ports.{Ports}
use Rattle.mq_calls.specs.Group.{file_group}
use Rattle.mq_calls.specs.declared.entry.FileEntry.{FileEntry}
use Rattle.mq_journal.specs.Numbers.{Seat, Start}
use Rattle.mq_ledger.specs.History.{of_queue}
use Rattle.mq_ledger.specs.State.{port_at}
use Rattle.mq_ledger.specs.declared.tx.Tx.{Tx}
use Rattle.mq_recover.specs.Drives.{faults_of, faults_on}
use Rattle.mq_recover.specs.declared.standing.Standing.{Standing}
use Rattle.mq_report.specs.declared.line.Line.{Line}
use Rattle.mq_report.specs.declared.line.Told.{Told}
use Rattle.mq_desk_laws.specs.Rule as rule
use Rattle.mq_script.specs.Scripts.{Group, Script}
use Rattle.mq_queue_side.specs.declared.side.QueueSide.{QueueSide}
use Rattle.mq_tie.specs.Backed.{faults_at}
use Rattle.mq_tie.specs.Legal.{numbered}
use Rattle.mq_tie.specs.Ports.{opened_states}
use Rattle.mq_tie.specs.Rings.{RangOnceEach, txs_in}
use Rattle.mq_tie.specs.Runs.{history_of, ports_of}
use Rattle.mq_tie.specs.declared.ended.Ended.{Ended}
use Rattle.mq_tie.proofs.Rings as closed
use Rattle.mq_tie.proofs.Runs.{same-ports}
use Rattle.mq_run.specs.Lines.{AreCommitLines, IsNotAfter, joined, more, none}
use Rattle.mq_run.specs.Playing.{Comes, Plays, begins, goes, serves}
use Rattle.mq_run.specs.Rings.{AreCommitsOf, HasRungOnceEach, is_commit_of}
use Rattle.mq_run.specs.Runs.{HasRunScripts, Track}
use Rattle.mq_run.specs.declared.end.RunEnd.{RunEnd}
use Rattle.mq_run.proofs.Parts.{partner}

-- ---- numbers that rise are known by how often each stands among them

abbrev one : ℕ → ℕ → ℕ
one n m = cond {A = ℕ} (nat_eq m n) 1 0

abbrev Rising : ℕ → List ℕ → Type 0
Rising low [] = Unit {0}
Rising low (x ∷ xs) = (low ≤ x) × Rising x xs

from-lower : (a b : ℕ) (xs : List ℕ) → a ≤ b → Rising b xs → Rising a xs
from-lower a b [] le rising = tt
from-lower a b (x ∷ xs) le rising = let at = rising.0 in (omega arith, rising.1)

one-hit : (n : ℕ) → one n n ≡ 1
one-hit n = ap (λ (t : Bool). cond {A = ℕ} t 1 0) (eq-eqb n n refl)

one-miss : (n m : ℕ) → n < m → one n m ≡ 0
one-miss n m lt = elim (cases_Bool (nat_eq m n)) [
  | inl hit ↦ let same : m ≡ n = eqb-true m n hit in absurd (omega arith)
  | inr miss ↦ ap (λ (t : Bool). cond {A = ℕ} t 1 0) miss
]

none-below : (n low : ℕ) (xs : List ℕ) → n < low → Rising low xs → sum_by (one n) xs ≡ 0
none-below n low [] lt rising = refl
none-below n low (x ∷ xs) lt rising =
    let at = rising.0 in
    let head = one-miss n x (omega arith) in
    let rest = none-below n x xs (omega arith) rising.1 in
    let all = sum_by-cons (one n) x xs in
    omega arith

stands : (x : ℕ) (xs : List ℕ) → 0 < sum_by (one x) (x ∷ xs)
stands x xs = let hit = one-hit x in let all = sum_by-cons (one x) x xs in omega arith

not-below : (x y : ℕ) (xs ys : List ℕ) → Rising y ys → sum_by (one x) (x ∷ xs) ≡ sum_by (one x) (y ∷ ys) → y ≤ x
not-below x y xs ys rising same = elim (cases_lt x y) [
  | inl lt ↦
      let none = none-below x y (y ∷ ys) lt (omega arith, rising) in
      let some = stands x xs in
      absurd (omega arith)
  | inr le ↦ omega arith
]

same-rising : (xs ys : List ℕ) (a b : ℕ) → Rising a xs → Rising b ys → ((n : ℕ) → sum_by (one n) xs ≡ sum_by (one n) ys) → xs ≡ ys
same-rising [] [] a b r s same = refl
same-rising [] (y ∷ ys) a b r s same = let is = same y in let some = stands y ys in let none : sum_by (one y) [] ≡ 0 = refl in absurd (omega arith)
same-rising (x ∷ xs) [] a b r s same = let is = same x in let some = stands x xs in let none : sum_by (one x) [] ≡ 0 = refl in absurd (omega arith)
same-rising (x ∷ xs) (y ∷ ys) a b r s same =
    let low = not-below x y xs ys s.1 (same x) in
    let high = not-below y x ys xs r.1 (sym (same y)) in
    let head : x ≡ y = omega arith in
    let rest : xs ≡ ys = same-rising xs ys x y r.1 s.1 (λ n.
    let all = same n in
    let left = sum_by-cons (one n) x xs in
    let right = sum_by-cons (one n) y ys in
    let here = ap (one n) head in
    omega arith)
    in
    λ i. head i ∷ rest i

-- ---- lines of commits

-- how often a line is that of a commit of the session with this number
abbrev commit_at : ℕ → ℕ → Line → ℕ
commit_at q n l = cond {A = ℕ} (is_commit_of q l) (one n l.number) 0

abbrev numbers_of : ℕ → List Line → List ℕ
numbers_of q ls = map (λ l. l.number) (filter (is_commit_of q) ls)

counted-lines : (q n : ℕ) (ls : List Line) → sum_by (one n) (numbers_of q ls) ≡ sum_by (commit_at q n) ls
counted-lines q n [] = refl
counted-lines q n (l ∷ ls) = step (is_commit_of q l) (counted-lines q n ls) ∙ sym (sum_by-cons (commit_at q n) l ls)
  where
    step : (t : Bool) → sum_by (one n) (numbers_of q ls) ≡ sum_by (commit_at q n) ls → sum_by (one n) (map (λ (k : Line). k.number) (cond t (l ∷ filter (is_commit_of q) ls) (filter (is_commit_of q) ls))) ≡ cond {A = ℕ} t (one n l.number) 0 + sum_by (commit_at q n) ls
    step true rest = let all = sum_by-cons (one n) l.number (numbers_of q ls) in omega arith
    step false rest = omega arith

-- none of these is the line of a commit
abbrev NoCommits : List Line → Type 0
NoCommits [] = Unit {0}
NoCommits (l ∷ ls) = (l.commit ≡ false) × NoCommits ls

no-commits-append : (ls ms : List Line) → NoCommits ls → NoCommits ms → NoCommits (ls ++ ms)
no-commits-append [] ms h k = k
no-commits-append (l ∷ ls) ms h k = (h.0, no-commits-append ls ms h.1 k)

none-counted : (q n : ℕ) (ls : List Line) → NoCommits ls → sum_by (commit_at q n) ls ≡ 0
none-counted q n [] h = refl
none-counted q n (l ∷ ls) h =
    let head : commit_at q n l ≡ 0 = ap (λ (t : Bool). cond {A = ℕ} (t && nat_eq l.session q) (one n l.number) 0) h.0 in
    let rest = none-counted q n ls h.1 in
    let all = sum_by-cons (commit_at q n) l ls in
    omega arith

pub not-after : (l m : Line) → IsNotAfter l m → l.number ≤ m.number
not-after l m (inl lt) = omega arith
not-after l m (inr (inl h)) = let is = h.0 in omega arith
not-after l m (inr (inr (inl h))) = let is = h.0 in omega arith
not-after l m (inr (inr (inr h))) = let is = h.0 in omega arith

rising-after : (l : Line) (ls : List Line) → AllPairs IsNotAfter (l ∷ ls) → Rising l.number (map (λ (k : Line). k.number) ls)
rising-after l [] h = tt
rising-after l (m ∷ ms) h = (not-after l m (h 0 1 l (omega arith) (omega arith)), rising-after m ms (λ i j d lt within. h (suc i) (suc j) d (omega arith) (omega arith)))

rising-lines : (ls : List Line) → AllPairs IsNotAfter ls → Rising 0 (map (λ (k : Line). k.number) ls)
rising-lines [] h = tt
rising-lines (l ∷ ls) h = (omega arith, rising-after l ls h)

rising-commits : (q n : ℕ) (es : List FileEntry) (ls : List Line) → AreCommitLines (numbered n es) ls → Rising n (numbers_of q ls)
rising-commits q n [] _ none = tt
rising-commits q n (e ∷ es) _ (more {l = l} {ls = ls} line rest) = step (is_commit_of q l) (rising-commits q (suc n) es ls rest)
  where
    step : (t : Bool) → Rising (suc n) (numbers_of q ls) → Rising n (map (λ (k : Line). k.number) (cond t (l ∷ filter (is_commit_of q) ls) (filter (is_commit_of q) ls)))
    step true later = let at = line.number_is in (omega arith, from-lower l.number (suc n) (numbers_of q ls) (omega arith) later)
    step false later = from-lower n (suc n) (numbers_of q ls) (omega arith) later

-- ---- the transactions of a queue

abbrev tx_at : ℕ × FileEntry → Tx
tx_at h = rule.numbered h.0 (file_group.tx h.1)

of-queue-append : (q : ℕ) (ts us : List Tx) → of_queue q (ts ++ us) ≡ of_queue q ts ++ of_queue q us
of-queue-append q [] us = refl
of-queue-append q (t ∷ ts) us = step (nat_eq t.queue q) (of-queue-append q ts us)
  where
    step : (b : Bool) → of_queue q (ts ++ us) ≡ of_queue q ts ++ of_queue q us → (if b then t ∷ of_queue q (ts ++ us) else of_queue q (ts ++ us)) ≡ (if b then t ∷ of_queue q ts else of_queue q ts) ++ of_queue q us
    step true rest = ap (λ vs. t ∷ vs) rest
    step false rest = rest

of-queue-reverse : (q : ℕ) (ts : List Tx) → of_queue q (reverse ts) ≡ reverse (of_queue q ts)
of-queue-reverse q [] = refl
of-queue-reverse q (t ∷ ts) =
    ap (of_queue q) (reverse-append (t ∷ []) ts)
    ∙ (of-queue-append q (reverse ts) (t ∷ [])
    ∙ (ap (λ us. us ++ of_queue q (t ∷ [])) (of-queue-reverse q ts)
    ∙ step (nat_eq t.queue q)))
  where
    step : (b : Bool) → reverse (of_queue q ts) ++ (if b then t ∷ [] else []) ≡ reverse (if b then t ∷ of_queue q ts else of_queue q ts)
    step true = sym (reverse-append (t ∷ []) (of_queue q ts))
    step false = append-nil (reverse (of_queue q ts))

map-reverse : (hs : List (ℕ × FileEntry)) → map tx_at (reverse hs) ≡ reverse (map tx_at hs)
map-reverse [] = refl
map-reverse (h ∷ hs) =
    ap (map tx_at) (reverse-append (h ∷ []) hs)
    ∙ (map-append (reverse hs) (h ∷ [])
    ∙ (ap (λ ts. ts ++ tx_at h ∷ []) (map-reverse hs)
    ∙ sym (reverse-append (tx_at h ∷ []) (map tx_at hs))))
  where
    map-append : (xs ys : List (ℕ × FileEntry)) → map tx_at (xs ++ ys) ≡ map tx_at xs ++ map tx_at ys
    map-append [] ys = refl
    map-append (x ∷ xs) ys = ap (λ ts. tx_at x ∷ ts) (map-append xs ys)

-- those of a queue in a history, the oldest first
oldest-first : (q : ℕ) (hs : List (ℕ × FileEntry)) → reverse (txs_in file_group q hs) ≡ of_queue q (map tx_at hs)
oldest-first q hs =
    ap (λ ts. reverse (of_queue q ts)) (map-reverse hs)
    ∙ (ap reverse (of-queue-reverse q (map tx_at hs))
    ∙ reverse-reverse (of_queue q (map tx_at hs)))

commit-numbers : (q : ℕ) (hs : List (ℕ × FileEntry)) (ls : List Line) → AreCommitLines hs ls → numbers_of q ls ≡ map (λ t. t.number) (of_queue q (map tx_at hs))
commit-numbers q [] _ none = refl
commit-numbers q (h ∷ hs) _ (more {l = l} {ls = ls} line rest) =
    ap (λ (t : Bool). map (λ (k : Line). k.number) (cond t (l ∷ filter (is_commit_of q) ls) (filter (is_commit_of q) ls))) same
    ∙ step (nat_eq h.1.session q) (commit-numbers q hs ls rest)
  where
    same : is_commit_of q l ≡ nat_eq h.1.session q
    same = λ i. line.commit i && nat_eq (line.session i) q

    step : (t : Bool) → numbers_of q ls ≡ map (λ (u : Tx). u.number) (of_queue q (map tx_at hs)) → map (λ (k : Line). k.number) (cond t (l ∷ filter (is_commit_of q) ls) (filter (is_commit_of q) ls)) ≡ map (λ (u : Tx). u.number) (if t then tx_at h ∷ of_queue q (map tx_at hs) else of_queue q (map tx_at hs))
    step true later = λ i. line.number_is i ∷ later i
    step false later = later

-- ---- the lines of what was read

module _ {P : Type 0} {G : Ghosts P} (state : P → PortState) (faults : P → List PortFault) (g : Geometry) (session : ℕ) where
  comes-read : (k : ℕ) (group : Group) (answer : Result ℕ Refusal) (ls : List Line) (old new : Seat P FileEntry G) → Comes state faults g session k group answer ls old new → NoCommits ls
  comes-read k group (Ok at) [] old new c = tt
  comes-read k group (Ok at) (l ∷ []) old new c = (c.1.commit, tt)
  comes-read k group (Ok at) (l ∷ m ∷ ls) old new c = absurd c
  comes-read k group (Err r) [] old new c = tt
  comes-read k group (Err r) (l ∷ ls) old new c = absurd c

  plays-read : (groups : List Group) (from : Seat P FileEntry G) (k : ℕ) (told : List Told) (ls : List Line) (sent served : List ℕ) (v : Seat P FileEntry G) → Plays state faults g session groups from k told ls sent served v → NoCommits ls
  plays-read groups from _ _ _ _ _ _ begins = tt
  plays-read groups from _ _ _ _ _ _ (goes {k = k} {told = told} {lines = lines} {more = ms} {sent = sent} {served = served} {old = old} {new = new} {group = group} {t = t} before at is) =
      no-commits-append lines ms (plays-read groups from k told lines sent served old before) (comes-read k group t.answer ms old new is.comes)
  plays-read groups from k told ls sent _ _ (serves {served = served} {old = old} before are) = plays-read groups from k told ls sent served old before

joined-read : {P : Type 0} {G : Ghosts P} (ts : List (Track P G)) → ((i : ℕ) (t : Track P G) → slice_get ts i ≡ Some t → NoCommits t.reads) → NoCommits (joined (map (λ t. t.reads) ts))
joined-read [] each = tt
joined-read (t ∷ ts) each = no-commits-append t.reads _ (each 0 t refl) (joined-read ts (λ i u at. each (suc i) u at))

-- ---- a run

module _ {P : Type 0} (G : Ghosts P) (state : P → PortState) (faults : P → List PortFault) (g : Geometry) (ports : Ports P) (s : Standing) (scripts : List Script) (finish : Bool) (e : RunEnd P) (q : ℕ)
    (run : HasRunScripts G state faults g ports s scripts finish e) where
  abbrev o : Start P FileEntry G
  o = run.opening

  abbrev end : Ended P FileEntry G
  end = run.ends.end

  abbrev commits : List Line
  commits = run.ends.leaves.commits

  abbrev reads : List Line
  reads = joined (map (λ t. t.reads) run.tracks)

  reads-none : NoCommits reads
  reads-none = joined-read run.tracks (λ i t at.
      let there = partner run.tracks scripts i t (record { groups = [] }) run.many at in
      let played = run.played i _ t there at in
      plays-read state faults g i _ _ _ t.told t.reads t.sent _ t.view played.plays)

  same-counts : (n : ℕ) → sum_by (one n) (numbers_of q e.entries.items) ≡ sum_by (one n) (numbers_of q commits)
  same-counts n =
      let all = sum_by-IsPermutation (commit_at q n) (commits ++ reads) e.entries.items run.ends.leaves.lines in
      let both = sum_by-append (commit_at q n) commits reads in
      let none = none-counted q n reads reads-none in
      let left = counted-lines q n e.entries.items in
      let right = counted-lines q n commits in
      omega arith

  same-numbers : numbers_of q e.entries.items ≡ numbers_of q commits
  same-numbers =
      same-rising _ _ 0 _
      (rising-lines (filter (is_commit_of q) e.entries.items) (AllPairs-filter IsNotAfter (is_commit_of q) e.entries.items run.ends.leaves.order))
      (rising-commits q _ _ commits (subst (λ hs. AreCommitLines hs commits) run.ends.run.run.history run.ends.leaves.commits_are))
      same-counts

  are-commits : AreCommitsOf q e.entries.items (txs_in file_group q (history_of end))
  are-commits =
      same-numbers
      ∙ (commit-numbers q (history_of end) commits run.ends.leaves.commits_are
      ∙ ap (map (λ t. t.number)) (sym (oldest-first q (history_of end))))

  given : map state (ports_of end) ≡ map state e.ports.queues.items
  given = ap (map state) (sym run.ends.leaves.queues)

  taken : opened_states G state faults file_group o ≡ map state ports.queues.items
  taken = same-ports state o.sides ∙ ap (map state) run.opened.queues

  with-faults : faults_at (faults_of faults (ports_of end) end.root.port) q ≡ faults_at (faults_on faults e.ports) q
  with-faults = ap (λ ps. faults_at (faults_of faults ps end.root.port) q) (sym run.ends.leaves.queues)

  many : length o.sides ≡ g.queues
  many = sym (length-map o.sides (λ (x : QueueSide P FileEntry G). state x.pmr.port)) ∙ (run.opened.fresh.start.ports ∙ ap (λ (x : Geometry). x.queues) run.opened.shape)

  pub rang-once : q < g.queues → HasRungOnceEach state faults q ports (history_of end) e
  rang-once lt = record {
    commits = are-commits;
    rang =
        subst (λ (z : List PortFault × List PortState × List PortState). RangOnceEach (txs_in file_group q (history_of end)) z.0 (port_at z.1 q) (port_at z.2 q)) (λ i. (with-faults i, taken i, given i))
        (closed.rang-once state faults file_group o run.ends.left end q run.ends.run (let m = many in omega arith));
  }
