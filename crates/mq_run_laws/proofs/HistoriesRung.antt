-- The doorbell of a queue after a run has gone on by the entries of its commits, up to one behind which
-- none was answered well.
use Rattle.std.proofs.Common.{◌≡◌, ◌∙◌, ℕ, zero, cond, suc, ◌+◌, ◌<◌, ◌≤◌, Bool, true, false, List, [], ◌∷◌, ◌++◌, length, get_or, map, inl, inr, refl, sym, ap, subst, arith}
use Rattle.std.specs.Prelude.{Option, ◌&&◌, nat_eq, reverse, slice_get}
use Rattle.std.specs.List.{All, Contains}
use Rattle.std.proofs.lemmas.Bool.{and_parts, cases_Bool, eq-eqb, eqb-true, true≢false}
use Rattle.std.proofs.lemmas.List.{length-reverse, reverse-append}
use Rattle.std.proofs.lemmas.Option.{get_or_from_slice_get}
use Rattle.mq_blocks.specs.Drive.{PortState}
use Rattle.mq_blocks.specs.Geometry.{queues_of}
use Rattle.mq_blocks.specs.Machine.{Map}
use Rattle.mq_blocks.specs.declared.command.Command.{Command}
use Rattle.mq_blocks.specs.declared.geometry.Geometry.{Geometry}
use Rattle.mq_drive.specs.Steps.{PortFault}
use Rattle.mq_drive.specs.declared.port.Port.{Ghosts}
use Rattle.mq_drive.specs.declared.port.Ports.{Ports}
use Rattle.mq_calls.specs.Group.{file_group}
use Rattle.mq_calls.specs.declared.entry.FileEntry.{FileEntry}
use Rattle.mq_journal.specs.Numbers.{Shared, Start, reported}
use Rattle.mq_journal.specs.Values.{Shows, side_values}
use Rattle.mq_ledger.specs.History.{of_queue}
use Rattle.mq_ledger.specs.Items.{below, end_of}
use Rattle.mq_ledger.specs.State.{no_port, port_at}
use Rattle.mq_ledger.specs.declared.tx.Tx.{Tx}
use Rattle.mq_run_laws.specs.Answers.{IsOf, is_good}
use Rattle.mq_run_laws.specs.Cuts.{IsRung, is_on}
use Rattle.mq_run_laws.specs.Histories.{AreOfBytes}
use Rattle.mq_recover.specs.Drives.{drive_of}
use Rattle.mq_recover.specs.declared.standing.Standing.{Standing}
use Rattle.mq_report.specs.declared.line.Line.{Line}
use Rattle.mq_report.specs.declared.line.Told.{Told}
use Rattle.mq_desk_laws.specs.Faults.{reports_of}
use Rattle.mq_desk_laws.specs.Rule.{doorbell_of, history_of, start_of}
use Rattle.mq_desk_laws.specs.Values.{Values}
use Rattle.mq_script.specs.Scripts.{Script}
use Rattle.mq_queue_side.specs.Side.{IsBelow}
use Rattle.mq_queue_side.specs.declared.answers.Why.{Why}
use Rattle.mq_queue_side.specs.declared.root.Root.{Root}
use Rattle.mq_queue_side.specs.declared.side.QueueSide.{QueueSide}
use Rattle.mq_tie.specs.Runs.{ports_of}
use Rattle.mq_tie.proofs.EndedParts.{there as some-at}
use Rattle.mq_tree.specs.Laid.{IsLaid, map_of}
use Rattle.mq_tree.specs.Volume.{Volume}
use Rattle.mq_turns.specs.Desk.{charged_of}
use Rattle.mq_turns.specs.Lists.{Each, tally}
use Rattle.mq_turns.specs.Words.{same_turn}
use Rattle.mq_turns.specs.declared.rule.Charge.{Charge}
use Rattle.mq_turns.specs.declared.rule.Report.{Report}
use Rattle.mq_turns.specs.declared.rule.Report.TheVariants as report
use Rattle.mq_turns.specs.declared.turn.Turn.TheVariants.{Side}
use Rattle.mq_run.proofs.LinesGrowing.{image_at, map_twice}
use Rattle.mq_run.specs.Playing.{IsShort}
use Rattle.mq_run.specs.Runs.{HasRunScripts}
use Rattle.mq_run.specs.declared.end.RunEnd.{RunEnd}
use Rattle.mq_run_laws.proofs.AnswersGiven.{same-told, told-in}
use Rattle.mq_run_laws.proofs.Cuts.{all-sides, ends}
use Rattle.mq_run_laws.proofs.Pairs.{cons-cases, get-in, in-right, none-in}
use Rattle.mq_run_laws.proofs.HistoriesShares.{all-sized, below-at, commits-above, count, count-reverse, legal-older, parted, shares, sized-reverse, total-is}
use Rattle.mq_run_laws.proofs.NumbersViews.{in-charged}
use Rattle.mq_run_laws.proofs.RunsWhole.{are-lines, line-in, session-of, shape-is, start-is}

-- ---- the report of a send

abbrev is-send : ℕ → Report → Bool
is-send n (report.Sent m) = nat_eq m n
is-send n report.Off = false
is-send n (report.Failed tx status) = false
is-send n (report.FailedHome block status) = false
is-send n (report.Stopped tx status) = false

abbrev is-sent : (q n : ℕ) → Charge → Bool
is-sent q n c = same_turn (Side q) c.port && is-send n c.report

sent-is : (q n : ℕ) → is-sent q n (reported q (report.Sent n)) ≡ true
sent-is q n = ap (λ (b : Bool). b && nat_eq n n) (eq-eqb q q refl) ∙ eq-eqb n n refl

-- as a count
abbrev tick : Bool → ℕ
tick b = cond b 1 0

tally-in : {A : Type 0} (f : A → Bool) (xs : List A) (x : A) → f x ≡ true → Contains xs x → 0 < tally f xs
tally-in f [] x yea c = absurd (none-in x c)
tally-in f (y ∷ ys) x yea c = elim (cons-cases x y ys c) [
  | inl e ↦ (let one : tick (f y) ≡ 1 = ap tick (ap f e ∙ yea) in omega arith)
  | inr c ↦ (let rest = tally-in f ys x yea c in omega arith)
]

module _ (from bell q n : ℕ) (us : List Tx) (failed : List Command) (kept : Option (ℕ × Why)) where
  shown-sent : (r : Report) → is-send n r ≡ true → Shows from us bell failed kept r → IsBelow from us bell n
  shown-sent (report.Sent m) yea h = subst (λ (k : ℕ). IsBelow from us bell k) (eqb-true m n yea) h
  shown-sent report.Off yea h = absurd (true≢false (sym yea))
  shown-sent (report.Failed tx status) yea h = absurd (true≢false (sym yea))
  shown-sent (report.FailedHome block status) yea h = absurd (true≢false (sym yea))
  shown-sent (report.Stopped tx status) yea h = absurd (true≢false (sym yea))

  -- what is shown of the reports of a queue is shown of its sends
  sent-below : (cs : List Charge) → 0 < tally (is-sent q n) cs → Each (Shows from us bell failed kept) (reports_of (Side q) cs) → IsBelow from us bell n
  sent-below [] some each = absurd (omega arith)
  sent-below (c ∷ cs) some each = by (sent-below cs) (same_turn (Side q) c.port) refl (is-send n c.report) refl
    where
      by : (0 < tally (is-sent q n) cs → Each (Shows from us bell failed kept) (reports_of (Side q) cs) → IsBelow from us bell n) → (a : Bool) → same_turn (Side q) c.port ≡ a → (b : Bool) → is-send n c.report ≡ b → IsBelow from us bell n
      by rest true own true sent = shown-sent c.report sent (subst (λ (a : Bool). Each (Shows from us bell failed kept) (cond a (c.report ∷ reports_of (Side q) cs) (reports_of (Side q) cs))) own each).0
      by rest true own false sent =
          let none : tick (is-sent q n c) ≡ 0 = ap (λ (z : Bool × Bool). tick (z.0 && z.1)) (λ i. (own i, sent i)) in
          rest (omega arith) (subst (λ (a : Bool). Each (Shows from us bell failed kept) (cond a (c.report ∷ reports_of (Side q) cs) (reports_of (Side q) cs))) own each).1
      by rest false own b sent =
          let none : tick (is-sent q n c) ≡ 0 = ap (λ (a : Bool). tick (a && is-send n c.report)) own in
          rest (omega arith) (subst (λ (a : Bool). Each (Shows from us bell failed kept) (cond a (c.report ∷ reports_of (Side q) cs) (reports_of (Side q) cs))) own each)

-- ---- lists

at-map : {A B : Type 0} (f : A → B) (xs : List A) (q : ℕ) (d : A) → get_or (map f xs) q (f d) ≡ f (get_or xs q d)
at-map f [] q d = refl
at-map f (x ∷ xs) zero d = refl
at-map f (x ∷ xs) (suc q) d = at-map f xs q d

module _ {P : Type 0} (G : Ghosts P) (state : P → PortState) (faults : P → List PortFault) (g : Geometry) (ports : Ports P) (s : Standing) (scripts : List Script) (finish : Bool) (e : RunEnd P)
    (run : HasRunScripts G state faults g ports s scripts finish e) (short : All (λ script. IsShort script.groups) scripts) (q : ℕ) (own : q < queues_of g) where
  abbrev K : Shared P FileEntry G
  K = run.ends.run.end.known

  abbrev values : Values (QueueSide P FileEntry G) (Root P G) FileEntry
  values = side_values state faults

  abbrev base : ℕ
  base = K.opening.base

  abbrev from : ℕ
  from = doorbell_of values file_group K.opening q

  abbrev txs : List Tx
  txs = of_queue q (history_of values file_group K)

  abbrev bell : ℕ
  bell = (port_at (map state (ports_of run.ends.end)) q).doorbell

  own-is : q < (Rattle.mq_desk_laws.specs.Rule.geometry_of values file_group K).queues
  own-is = let shape = ap (λ (h : Geometry). h.queues) (shape-is G state faults g ports s scripts finish e run) in omega arith

  -- where the queue began
  from-is : from ≡ (port_at (drive_of state ports).queues q).doorbell
  from-is =
      let opened : map (λ (w : QueueSide P FileEntry G). (state w.pmr.port).doorbell) K.opening.sides ≡ map (λ (p : PortState). p.doorbell) (map state ports.queues.items) =
      ap (λ (x : Start P FileEntry G). map (λ (w : QueueSide P FileEntry G). (state w.pmr.port).doorbell) x.sides) run.ends.run.end.opening
      ∙ (sym (map_twice (λ (w : QueueSide P FileEntry G). w.pmr.port) (λ (p : P). (state p).doorbell) run.opening.sides)
      ∙ (ap (map (λ (p : P). (state p).doorbell)) run.opened.queues
      ∙ sym (map_twice state (λ (p : PortState). p.doorbell) ports.queues.items))) in
      ap (λ (ns : List ℕ). get_or ns q 0) opened ∙ at-map (λ (p : PortState). p.doorbell) (map state ports.queues.items) q no_port

  -- a send that was reported stands below the doorbell
  send-below : (n : ℕ) → Contains (charged_of run.ends.left) (reported q (report.Sent n)) → IsBelow from txs bell n
  send-below n c =
      let counted = run.ends.run.end.charges (is-sent q n) in
      let some = tally-in (is-sent q n) (charged_of run.ends.left) (reported q (report.Sent n)) (sent-is q n) c in
      let many = all-sides G state faults g ports s scripts finish e run in
      let opened = ap (λ (x : Start P FileEntry G). length x.sides) run.ends.run.end.opening in
      let all = run.ends.run.end.all_sides in
      let low = own-is in
      let w = some-at run.ends.run.sides q (omega arith) in
      let side = run.ends.run.end.sides_stand q w.0 w.1 in
      let there_is : slice_get (map state (ports_of run.ends.end)) q ≡ Rattle.std.specs.Prelude.Some (state w.0.pmr.port) =
      image_at state (ports_of run.ends.end) q w.0.pmr.port (ap (λ (ps : List P). slice_get ps q) run.ends.run.ports ∙ image_at (λ (x : QueueSide P FileEntry G). x.pmr.port) run.ends.run.sides q w.0 w.1) in
      let port : port_at (map state (ports_of run.ends.end)) q ≡ state w.0.pmr.port = get_or_from_slice_get (map state (ports_of run.ends.end)) q (state w.0.pmr.port) no_port there_is in
      let found : IsBelow from txs (state w.0.pmr.port).doorbell n = sent-below from (state w.0.pmr.port).doorbell q n txs (state w.0.pmr.port).failed w.0.kept K.charges (omega arith) side.says.shows in
      subst (λ (p : PortState). IsBelow from txs p.doorbell n) (sym port) found

  -- a commit of the queue above all sends was not answered well
  not-good : (limit : ℕ) → ((n : ℕ) → Contains (charged_of run.ends.left) (reported q (report.Sent n)) → n ≤ limit) → (l : Line) (t : Told) → limit < l.number → Contains e.entries.items l → is_on q l ≡ true → Contains e.answers.items t → IsOf t l.session l.group → is_good t.answer ≡ false
  not-good limit low l t high there_is on told is = elim (cases_Bool (is_good t.answer)) [
    | inl good ↦ absurd (never good)
    | inr bad ↦ bad
  ]
    where
      both : (l.commit ≡ true) × (nat_eq l.session q ≡ true)
      both = and_parts l.commit (nat_eq l.session q) on

      never : is_good t.answer ≡ true → ⊥
      never good = elim (line-in G state faults g ports s scripts finish e run short l there_is) [
        | inl a ↦ (
            let x = session-of G state faults g ports s scripts finish e run l.session a.track a.own in
            let at = same-told G state faults g ports s scripts finish e run short t (told-in G state faults g ports s scripts finish e run short t told) l.session a.track is.0 a.own in
            let sent = x.tells.sent (l.number, a.entry) a.there t (ap (slice_get a.track.told) (a.group_is ∙ sym is.1) ∙ at) good in
            let kept : Contains x.last.reading.charged (reported l.session (report.Sent l.number)) =
            subst (λ (cs : List Charge). Contains cs (reported l.session (report.Sent l.number))) (sym x.keeps.charged) (in-right x.keeps.charges a.track.view.reading.charged (reported l.session (report.Sent l.number)) sent) in
            let all = in-charged run.ends.left x.last (reported l.session (report.Sent l.number)) (get-in run.ends.left l.session x.last x.last_at) kept in
            let le = low l.number (subst (λ (i : ℕ). Contains (charged_of run.ends.left) (reported i (report.Sent l.number))) (eqb-true l.session q both.1) all) in
            absurd (omega arith))
        | inr a ↦ (
            let x = session-of G state faults g ports s scripts finish e run l.session a.track a.own in
            let b = x.tells.reads l a.there in
            absurd (true≢false (sym both.0 ∙ b.commit)))
      ]

  pub is-rung : (v : Volume) → AreOfBytes scripts → IsLaid g (map_of g s.blocks.items) v → IsRung g scripts v e.entries.items e.answers.items q (port_at (drive_of state ports).queues q).doorbell (port_at (drive_of state e.ports).queues q).doorbell
  is-rung v low laid =
      let start : Map = start_of values file_group K.opening in
      let b = below-at values from bell q base K.log in
      let there_is : IsLaid g start v = subst (λ (m : Map). IsLaid g m v) (sym (start-is G state faults g ports s scripts finish e run)) laid in
      let side = (ends G state faults g ports s scripts finish e run).parts.sides q own-is in
      let bell_end : end_of from (below from bell txs) ≡ bell = side.ends.doorbell in
      let legal = legal-older values _ start base b.newer b.old (subst (λ (es : List FileEntry). Rattle.mq_desk_laws.specs.Rule.IsLegalHistory values file_group (Rattle.mq_desk_laws.specs.Rule.geometry_of values file_group K) start base es) b.whole run.ends.run.end.ok.legal) in
      let many = total-is values base q b.old in
      let all = sized-reverse b.old (all-sized values _ start base b.old legal) in
      let turned = count-reverse q b.old in
      let sum : from + count q (reverse b.old) ≡ bell = (let is = ap (end_of from) b.is in omega arith) in
      let whole : reverse K.log ≡ reverse b.old ++ reverse b.newer = ap reverse b.whole ∙ reverse-append b.newer b.old in
      let p = parted g scripts start base (reverse b.old) (reverse b.newer) (reverse K.log) e.entries.items whole (are-lines G state faults g ports s scripts finish e run short) in
      let given : bell ≡ (port_at (drive_of state e.ports).queues q).doorbell = ap (λ (ps : List P). (port_at (map state ps) q).doorbell) (sym run.ends.leaves.queues) in
      let began = from-is in
      record {
        sent = p.sent;
        unsent = p.unsent;
        parts = p.parts;
        sum = count q (reverse b.old);
        entries = shares g scripts q start v base (reverse b.old) p.sent low there_is all p.before;
        doorbell = omega arith;
        good = λ l t c on told is.
            let above = commits-above g scripts _ (base + length (reverse b.old)) (reverse b.newer) p.unsent l p.behind c (and_parts l.commit (nat_eq l.session q) on).0 in
            let long = length-reverse b.old in
            not-good (base + length b.old) (λ n h. let k = send-below n h in let m = b.low k.t k.ts k.at k.below in let number = k.number in omega arith) l t (omega arith)
            (subst (λ (ls : List Line). Contains ls l) (sym p.parts) (in-right p.sent p.unsent l c)) on told is;
      }
