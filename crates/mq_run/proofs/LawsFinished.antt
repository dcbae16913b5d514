-- The base that a checkpoint at the end of a run raises is the last number.
use Rattle.std.proofs.Common.{◌≡◌, ℕ, suc, ◌<◌, ◌≤◌, Bool, List, [], ◌∷◌, ◌++◌, length, map, Some, refl, sym, ap, subst, ◌∙◌, inl, inr, arith}
use Rattle.std.specs.Prelude.{Ok, slice_get}
use Rattle.std.proofs.lemmas.Bool.{cases_lt}
use Rattle.mq_blocks.specs.Drive.{PortState}
use Rattle.mq_blocks.specs.declared.geometry.Geometry.{Geometry}
use Rattle.mq_journal.specs.Raised.{Raises}
use Rattle.mq_core.proofs.KnownJournalGrowth.{front_low}
use Rattle.mq_drive.specs.Steps.{PortFault}
use Rattle.mq_drive.specs.declared.port.Port.{Ghosts}
use Rattle.mq_drive.specs.declared.port.Ports.{Ports}
use Rattle.mq_calls.specs.Group.{file_group}
use Rattle.mq_calls.specs.declared.entry.FileEntry.{FileEntry}
use Rattle.mq_journal.specs.Numbers.{Seat, Shared, Start}
use Rattle.mq_journal.specs.Values.{side_values}
use Rattle.mq_ledger.specs.KnownJournal.{front}
use Rattle.mq_recover.specs.declared.standing.Standing.{Standing}
use Rattle.mq_desk_laws.specs.Groups.{GroupView}
use Rattle.mq_desk_laws.specs.Rule.{IsOk, IsRoot, core_of, history}
use Rattle.mq_desk_laws.specs.Values.{Values}
use Rattle.mq_script.specs.Scripts.{Group, Script}
use Rattle.mq_queue_side.specs.declared.root.Root.{Root}
use Rattle.mq_queue_side.specs.declared.side.QueueSide.{QueueSide}
use Rattle.mq_tie.specs.declared.ended.Ended.{Ended}
use Rattle.mq_turns.specs.Desk.{drawn_of, fresh}
use Rattle.mq_turns.specs.Lists.{Each, tick, times}
use Rattle.mq_turns.proofs.Lists.{each_append, each_map, miss}
use Rattle.mq_report.specs.declared.line.Line.{Line}
use Rattle.mq_report.specs.declared.line.Told.{Told}
use Rattle.mq_run.specs.Ending.{Finishes, HasFinished, HasHeard}
use Rattle.mq_run.specs.Laws.{IsClean}
use Rattle.mq_run.specs.Playing.{Plays, begins, goes, serves}
use Rattle.mq_run.specs.Runs.{HasRunScripts, Track}
use Rattle.mq_run.specs.declared.end.RunEnd.{RunEnd}
use Rattle.mq_run.proofs.RunsHelpers.{all-left, helpers-drew}
use Rattle.mq_run.proofs.ServedNotices.{seen-served}

-- ---- numbers in lists

none-above : {A : Type 0} (m n : ℕ) (xs : List (ℕ × A)) → n < m → Each (λ d. d.0 ≤ n) xs → times m xs ≡ 0
none-above m n [] lt each = refl
none-above m n (x ∷ xs) lt each =
    let here : tick x.0 m ≡ 0 = miss x.0 m (λ e. let l = each.0 in let s = e in absurd (omega arith)) in
    let rest = none-above m n xs lt each.1 in
    omega arith

-- ---- a history has a transaction for each entry

module _ {Q R E : Type 0} (values : Values Q R E) (group : GroupView E) where
  many-txs : (base : ℕ) (es : List E) → length (history values group base es) ≡ length es
  many-txs base [] = refl
  many-txs base (e ∷ es) = ap suc (many-txs base es)

module _ {P : Type 0} {G : Ghosts P} where
  -- what chairs drew that drew nothing above a number
  all-drawn : (n : ℕ) (vs : List (Seat P FileEntry G)) → Each (λ v. Each (λ d. d.0 ≤ n) v.drawn) vs → Each (λ d. d.0 ≤ n) (drawn_of vs)
  all-drawn n [] each = tt
  all-drawn n (v ∷ vs) each = each_append (λ d. d.0 ≤ n) (drawn_of vs) v.drawn (all-drawn n vs each.1) each.0

module _ {P : Type 0} {G : Ghosts P} (state : P → PortState) (faults : P → List PortFault) where
  -- what a session has seen never falls
  seen-grows : (g : Geometry) (session : ℕ) (groups : List Group) (from : Seat P FileEntry G) (k : ℕ) (told : List Told) (lines : List Line) (sent served : List ℕ) (v : Seat P FileEntry G) → Plays state faults g session groups from k told lines sent served v → from.seen ≤ v.seen
  seen-grows g session groups from _ _ _ _ _ _ begins = omega arith
  seen-grows g session groups from _ _ _ _ _ _ (goes {old = old} plays at told) = let a = seen-grows g session groups from _ _ _ _ _ old plays in let b = told.goes.seen in omega arith
  seen-grows g session groups from _ _ _ _ _ v (serves {more = more} {old = old} plays are) = let a = seen-grows g session groups from _ _ _ _ _ old plays in let b = seen-served state faults session old more v are in omega arith

first-track : {A B : Type 0} (f : A → B) (xs : List A) (y : B) (ys : List B) → map f xs ≡ y ∷ ys → (x : A) × (slice_get xs 0 ≡ Some x) × (f x ≡ y)
first-track f [] y ys e = absurd (cc)
first-track f (x ∷ xs) y ys e = (x, refl, cc)

some-first : {A B : Type 0} (xs : List A) (ys : List B) (x : A) → length xs ≡ length ys → slice_get xs 0 ≡ Some x → (y : B) × (slice_get ys 0 ≡ Some y)
some-first [] ys x same at = absurd (cc)
some-first (a ∷ xs) [] x same at = absurd (omega arith)
some-first (a ∷ xs) (y ∷ ys) x same at = (y, refl)

module _ {P : Type 0} (G : Ghosts P) (state : P → PortState) (faults : P → List PortFault) (g : Geometry) (ports : Ports P) (s : Standing) (scripts : List Script) (finish : Bool) (e : RunEnd P) (n : ℕ)
    (run : HasRunScripts G state faults g ports s scripts finish e) (is : e.finished ≡ Some (Ok n)) where
  abbrev o : Start P FileEntry G
  o = run.opening

  abbrev end : Ended P FileEntry G
  end = run.ends.end

  abbrev K : Shared P FileEntry G
  K = run.ends.run.end.known

  abbrev values : Values (QueueSide P FileEntry G) (Root P G) FileEntry
  values = side_values state faults

  fin : HasFinished state faults finish e.finished (map (λ t. t.view) run.tracks) run.ends.sessions
  fin = run.ends.finished

  abbrev helpers : List (Seat P FileEntry G)
  helpers = map (λ t. t.helper) run.tracks

  left-is : run.ends.left ≡ fin.last ∷ fin.others ++ helpers
  unfolding fin
  left-is = all-left G state faults g ports s scripts finish e run

  answered : Finishes state faults (Some (Ok n)) fin.others fin.first fin.last
  answered = subst (λ a. Finishes state faults a fin.others fin.first fin.last) is fin.finishes

  abbrev between : Seat P FileEntry G
  between = answered.0

  heard : HasHeard fin.others fin.first between
  heard = answered.1

  raises : Raises state faults file_group n between fin.last
  raises = answered.2

  -- ---- the number is not below the last one

  drawn-low : Each (λ d. d.0 ≤ n) (drawn_of run.ends.left)
  drawn-low =
      let low = raises.seen.0 in
      let last : Each (λ d. d.0 ≤ n) fin.last.drawn = subst (Each (λ d. d.0 ≤ n)) (sym raises.drawn) raises.seen.1 in
      let idle : Each (λ v. Each (λ d. d.0 ≤ n) v.drawn) helpers = each_map _ _ (λ v none. subst (Each (λ d. d.0 ≤ n)) (sym none) tt) helpers (helpers-drew G state faults g ports s scripts finish e run) in
      let others : Each (λ v. Each (λ d. d.0 ≤ n) v.drawn) fin.others = each_map _ _ (λ v b. each_map (λ d. d.0 ≤ between.seen) (λ d. d.0 ≤ n) (λ d l. omega arith) v.drawn b.1) fin.others heard.each in
      subst (λ vs. Each (λ d. d.0 ≤ n) (drawn_of vs)) (sym left-is) (all-drawn n (fin.last ∷ fin.others ++ helpers) (last, each_append (λ v. Each (λ d. d.0 ≤ n) v.drawn) fin.others helpers others idle))

  began : o.base ≤ fin.first.seen
  began =
      let t = first-track (λ (t : Track P G). t.view) run.tracks fin.first fin.others fin.before in
      let script = some-first run.tracks scripts t.0 run.many t.1 in
      let played = run.played 0 script.0 t.0 script.1 t.1 in
      let grows = seen-grows state faults g 0 script.0.groups (fresh o 0) _ _ _ _ _ t.0.view played.plays in
      subst (λ v. o.base ≤ v.seen) t.2 grows

  not-below : end.next ≤ n
  not-below = elim (cases_lt n end.next) [
    | inl lt ↦
        let first = began in
        let later = heard.later in
        let seen = raises.seen.0 in
        let one = run.ends.run.end.once end.next (omega arith) (omega arith) in
        let none = none-above end.next n (drawn_of run.ends.left) lt drawn-low in
        absurd (omega arith)
    | inr ge ↦ ge
  ]

  -- ---- nor above it

  word-high : n ≤ K.word
  word-high =
      let both : Each (λ v. v.reading.base ≤ K.word) (fin.last ∷ fin.others ++ helpers) = subst (Each (λ v. v.reading.base ≤ K.word)) left-is run.ends.run.end.based in
      let low = both.0 in
      let told = raises.word in
      omega arith

  ok : IsOk values file_group K
  ok = run.ends.run.end.ok

  front-high : front (core_of values file_group K) ≤ end.next
  front-high =
      let low = front_low (core_of values file_group K) in
      let many = many-txs values file_group K.opening.base K.log in
      let last = run.ends.run.end.next_is in
      omega arith

  root : IsRoot values file_group K end.root
  root = run.ends.run.end.root_stands

  pub finished-clean : IsClean n e.next (state e.ports.root)
  finished-clean =
      let low = not-below in
      let high = word-high in
      let reached = ok.base.reached in
      let front_is = front-high in
      let next = run.ends.leaves.next in
      let bases = root.port.port.bases.0 in
      let order = root.port.port.bases.1 in
      let stored = root.port.stored.reached in
      let flushed_is : (state end.root.port).base ≡ n = omega arith in
      let stored_is : (state end.root.port).stored_base ≡ n = omega arith in
      record {
        last = omega arith;
        flushed = ap (λ (p : P). (state p).base) run.ends.leaves.root ∙ flushed_is;
        stored = ap (λ (p : P). (state p).stored_base) run.ends.leaves.root ∙ stored_is;
      }
