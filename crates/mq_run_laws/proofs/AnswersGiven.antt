-- The answers of a run are one for each group of a prefix of each script, with the numbers of their lines.
use Rattle.std.proofs.Common.{◌≡◌, ◌≢◌, ◌∙◌, ℕ, suc, ◌-◌, ◌<◌, Bool, List, ◌++◌, length, get_or, map, inl, inr, refl, sym, ap, subst, arith}
use Rattle.std.specs.Prelude.{None, Option, Some, slice_get}
use Rattle.std.specs.List.{All, AllPairs, Contains}
use Rattle.std.proofs.lemmas.Bool.{true≢false}
use Rattle.std.proofs.lemmas.List.Sorted.{Contains-permutation}
use Rattle.std.proofs.lemmas.Option.{slice_get_within}
use Rattle.mq_blocks.specs.Drive.{PortState}
use Rattle.mq_blocks.specs.declared.geometry.Geometry.{Geometry}
use Rattle.mq_turns.proofs.Meaning.{at_bounds}
use Rattle.mq_drive.specs.Steps.{PortFault}
use Rattle.mq_drive.specs.declared.port.Port.{Ghosts}
use Rattle.mq_drive.specs.declared.port.Ports.{Ports}
use Rattle.mq_run_laws.specs.Answers.{AreAnswered, IsOf, IsPrefixAnswered, Names, group_told, is_good, number_in}
use Rattle.mq_run_laws.specs.Groups.{IsGroup}
use Rattle.mq_recover.specs.declared.standing.Standing.{Standing}
use Rattle.mq_report.specs.declared.line.Line.{Line}
use Rattle.mq_report.specs.declared.line.Told.{Told}
use Rattle.mq_script.specs.Scripts.{Group, Script}
use Rattle.mq_tie.proofs.Stored.{at-place}
use Rattle.mq_tie.proofs.EndedParts.{there as some-at}
use Rattle.mq_run.proofs.LinesGrowing.{got, image_at}
use Rattle.mq_run.proofs.Parts.{image_from}
use Rattle.mq_run.specs.Lines.{joined}
use Rattle.mq_run.specs.Playing.{IsShort}
use Rattle.mq_run.specs.Runs.{HasRunScripts, Track, track}
use Rattle.mq_run.specs.declared.end.RunEnd.{RunEnd}
use Rattle.mq_run_laws.proofs.LinesNumbered.{commit-has, group-found, groups-are}
use Rattle.mq_run_laws.proofs.Pairs.{get-in, in-get, in-joined, in-left, in-right, joined-in, pairs-joined, same-get}
use Rattle.mq_run_laws.proofs.AnswersPlayed.{HasEntry, HasLine, ToldAt}
use Rattle.mq_run_laws.proofs.RunsWhole.{Session, commits-are, drawn-stands, line-in, session-of, small-call}

module _ {P : Type 0} (G : Ghosts P) (state : P → PortState) (faults : P → List PortFault) (g : Geometry) (ports : Ports P) (s : Standing) (scripts : List Script) (finish : Bool) (e : RunEnd P)
    (run : HasRunScripts G state faults g ports s scripts finish e) (short : All (λ script. IsShort script.groups) scripts) where
  abbrev answers : List Told
  answers = e.answers.items

  abbrev lines : List Line
  lines = e.entries.items

  abbrev of-session : (i : ℕ) (t : Track P G) → slice_get run.tracks i ≡ Some t → Session G state faults g ports s scripts finish e run i t
  of-session = session-of G state faults g ports s scripts finish e run

  -- ---- an answer

  -- its session, and the group that it is of
  pub record ToldIn (t : Told) : Type 0 where
    pub track : Track P G
    pub own : slice_get run.tracks t.session ≡ Some track
    pub at : slice_get track.told t.group ≡ Some t
    pub session : Session G state faults g ports s scripts finish e run t.session track
    pub is : ToldAt t.session session.script.groups track.reads track.view t.group t

  told-at : (i j : ℕ) (track : Track P G) (t : Told) → slice_get run.tracks i ≡ Some track → slice_get track.told j ≡ Some t → ToldIn t
  told-at i j track t own at =
      let b = (of-session i track own).tells.each j t at in
      let own_is : slice_get run.tracks t.session ≡ Some track = ap (slice_get run.tracks) b.session_is ∙ own in
      let at_is : slice_get track.told t.group ≡ Some t = ap (slice_get track.told) b.group_is ∙ at in
      record { track = track; own = own_is; at = at_is; session = of-session t.session track own_is; is = (of-session t.session track own_is).tells.each t.group t at_is }

  pub told-in : (t : Told) → Contains answers t → ToldIn t
  told-in t c =
      let back : Contains (joined (map (λ (u : Track P G). u.told) run.tracks)) t = subst (λ (ts : List Told). Contains ts t) run.ends.leaves.answers c in
      let j = joined-in (map (λ (u : Track P G). u.told) run.tracks) t back in
      let u = image_from (λ (u : Track P G). u.told) run.tracks j.0 j.1 j.2 in
      let there_is : Contains u.0.told t = subst (λ (ts : List Told). Contains ts t) (sym u.2) j.3 in
      let place = in-get u.0.told t there_is in
      told-at j.0 place.0 u.0 t u.1 place.1

  in-answers : (i j : ℕ) (track : Track P G) (t : Told) → slice_get run.tracks i ≡ Some track → slice_get track.told j ≡ Some t → Contains answers t
  in-answers i j track t own at =
      subst (λ (ts : List Told). Contains ts t) (sym run.ends.leaves.answers)
      (in-joined (map (λ (u : Track P G). u.told) run.tracks) i track.told t (image_at (λ (u : Track P G). u.told) run.tracks i track own) (get-in track.told j t at))

  found : (t : Told) → Contains answers t → IsGroup scripts t.session t.group × (t.end ≡ (group_told scripts t).end)
  found t c =
      let b = told-in t c in
      let of = group-found scripts t.session t.group b.session.script b.is.group b.session.at b.is.at in
      (of.0, b.is.end ∙ sym (ap (λ (x : Group). x.end) of.1))

  -- ---- a script

  track-at : (i : ℕ) → i < length scripts → (t : Track P G) × (slice_get run.tracks i ≡ Some t)
  track-at i lt = let many = run.many in some-at run.tracks i (omega arith)

  pub same-told : (t : Told) (b : ToldIn t) (i : ℕ) (track : Track P G) → t.session ≡ i → slice_get run.tracks i ≡ Some track → slice_get track.told t.group ≡ Some t
  same-told t b i track own at =
      let one : b.track ≡ track = same-get run.tracks t.session b.track track b.own (ap (slice_get run.tracks) own ∙ at) in
      subst (λ (u : Track P G). slice_get u.told t.group ≡ Some t) one b.at

  prefix : (i : ℕ) → i < length scripts → IsPrefixAnswered scripts answers i
  prefix i lt =
      let u = track-at i lt in
      let x = of-session i u.0 u.1 in
      let a = x.played.answers in
      let groups = ap length (groups-are scripts i x.script x.at) in
      let most = a.most in
      record {
        count = length u.0.told;
        most = omega arith;
        each = λ k low.
            let t = some-at u.0.told k low in
            let b = x.tells.each k t.0 t.1 in
            (t.0, in-answers i k u.0 t.0 u.1 t.1, (b.session_is, b.group_is));
        only = λ t c own. slice_get_within u.0.told t.group t (same-told t (told-in t c) i u.0 own u.1);
        last = λ t c own ends.
            let at = same-told t (told-in t c) i u.0 own u.1 in
            let low = slice_get_within u.0.told t.group t at in
            let high : suc t.group < length u.0.told → ⊥ = λ lt. true≢false (sym ends ∙ a.before t.group t at lt) in
            omega arith;
        stopped = λ less. elim a.all [
          | inl all ↦ absurd (omega arith)
          | inr end ↦ (
              let low = slice_get_within u.0.told (length u.0.told - 1) end.0 end.1 in
              let b = x.tells.each (length u.0.told - 1) end.0 end.1 in
              let place = b.group_is in
              (end.0, in-answers i (length u.0.told - 1) u.0 end.0 u.1 end.1, b.session_is, omega arith, end.2))
        ];
      }

  -- ---- each once

  once : AllPairs (λ t u. t.session ≡ u.session → t.group ≢ u.group) answers
  once =
      let R : Told → Told → Type 0 = λ t u. t.session ≡ u.session → t.group ≢ u.group in
      subst (λ (ts : List Told). AllPairs R ts) (sym run.ends.leaves.answers)
      (pairs-joined R (map (λ (u : Track P G). u.told) run.tracks)
      (λ i ts at.
      let u = image_from (λ (u : Track P G). u.told) run.tracks i ts at in
      let x = of-session i u.0 u.1 in
      subst (λ (ts : List Told). AllPairs R ts) u.2 (λ j k d lt within same equal.
      let a = (x.tells.each j (get_or u.0.told j d) (got u.0.told j d (omega arith))).group_is in
      let b = (x.tells.each k (get_or u.0.told k d) (got u.0.told k d within)).group_is in
      omega arith))
      (λ i j ts us t u lt at to c d same equal.
      let a = image_from (λ (u : Track P G). u.told) run.tracks i ts at in
      let b = image_from (λ (u : Track P G). u.told) run.tracks j us to in
      let p = in-get a.0.told t (subst (λ (ts : List Told). Contains ts t) (sym a.2) c) in
      let q = in-get b.0.told u (subst (λ (ts : List Told). Contains ts u) (sym b.2) d) in
      let own = ((of-session i a.0 a.1).tells.each p.0 t p.1).session_is in
      let other = ((of-session j b.0 b.1).tells.each q.0 u q.1).session_is in
      omega arith))

  -- ---- lines of answers

  -- the answer to the group of a line
  record TellsLine (l : Line) : Type 0 where
    track : Track P G
    own : slice_get run.tracks l.session ≡ Some track
    answer : Told
    at : slice_get track.told l.group ≡ Some answer
    number : number_in answer.answer ≡ Some l.number

  tells-line : (l : Line) → Contains lines l → TellsLine l
  tells-line l c = elim (line-in G state faults g ports s scripts finish e run short l c) [
    | inl a ↦ (
        let x = of-session l.session a.track a.own in
        let b = x.tells.drawn (l.number, a.entry) a.there in
        record { track = a.track; own = a.own; answer = b.answer; at = ap (slice_get a.track.told) (sym a.group_is) ∙ b.told_at; number = b.number })
    | inr a ↦ (
        let x = of-session l.session a.track a.own in
        let b = x.tells.reads l a.there in
        record { track = a.track; own = a.own; answer = b.answer; at = b.told_at; number = ap number_in b.good })
  ]

  line-told : (l : Line) → Contains lines l → (t : Told) × Contains answers t × IsOf t l.session l.group
  line-told l c =
      let a = tells-line l c in
      let b = (of-session l.session a.track a.own).tells.each l.group a.answer a.at in
      (a.answer, in-answers l.session l.group a.track a.answer a.own a.at, (b.session_is, b.group_is))

  no-line : (t : Told) → Contains answers t → number_in t.answer ≡ None → Names lines t None
  no-line t c none l d is =
      let b = told-in t c in
      let a = tells-line l d in
      let at : slice_get a.track.told t.group ≡ Some t = same-told t b l.session a.track (sym is.0) a.own in
      let one : a.answer ≡ t = same-get a.track.told t.group a.answer t (ap (slice_get a.track.told) (sym is.1) ∙ a.at) at in
      let number : number_in t.answer ≡ Some l.number = subst (λ (u : Told). number_in u.answer ≡ Some l.number) one a.number in
      absurd (cc)

  commit-named : (t : Told) (b : ToldIn t) (n : ℕ) → HasEntry t.session t.group n b.track.view.drawn → Names lines t (Some n)
  commit-named t b n h =
      let K = run.ends.run.end.known in
      let stands = drawn-stands G state faults g ports s scripts finish e run t.session b.track (n, h.entry) b.own h.there in
      let low = (at_bounds K.opening.base K.log n h.entry stands).0 in
      let place = at-place K.opening.base K.log n h.entry stands in
      let all = run.ends.leaves.commits ++ joined (map (λ t. t.reads) run.tracks) in
      let r = commit-has (suc K.opening.base) _ run.ends.leaves.commits (n - suc K.opening.base) h.entry (commits-are G state faults g ports s scripts finish e run) place in
      let in_lines : Contains lines r.0 = Contains-permutation all lines r.0 run.ends.leaves.lines (in-left run.ends.leaves.commits (joined (map (λ t. t.reads) run.tracks)) r.0 r.1) in
      let drew = b.session.tells.drawn (n, h.entry) h.there in
      let small = small-call G state faults g ports s scripts finish e run short t.session b.track (n, h.entry) b.own h.there in
      let group = r.2.group in
      let call = h.call in
      let number = r.2.number_is in
      (r.0, in_lines, (r.2.session ∙ drew.session_is, omega arith), omega arith, λ nay. r.2.commit)

  read-named : (t : Told) (b : ToldIn t) (n : ℕ) → HasLine t.group n t.answer b.track.reads → Names lines t (Some n)
  read-named t b n h =
      let all = run.ends.leaves.commits ++ joined (map (λ t. t.reads) run.tracks) in
      let own = in-joined (map (λ (u : Track P G). u.reads) run.tracks) t.session b.track.reads h.line (image_at (λ (u : Track P G). u.reads) run.tracks t.session b.track b.own) h.there in
      let in_lines : Contains lines h.line = Contains-permutation all lines h.line run.ends.leaves.lines (in-right run.ends.leaves.commits (joined (map (λ t. t.reads) run.tracks)) h.line own) in
      let read = b.session.tells.reads h.line h.there in
      (h.line, in_lines, (read.session_is, h.group), h.number, λ nay. absurd (true≢false (sym (ap is_good h.good) ∙ nay)))

  pub names : (t : Told) → Contains answers t → (number : Option ℕ) → number_in t.answer ≡ number → Names lines t number
  names t c None is = no-line t c is
  names t c (Some n) is = let b = told-in t c in elim (b.is.names n is) [ inl h ↦ commit-named t b n h | inr h ↦ read-named t b n h ]

  pub are-answered : AreAnswered scripts lines answers
  are-answered = record {
    of = λ t c. (found t c).0;
    ends = λ t c. (found t c).1;
    prefixes = prefix;
    once = once;
    names = λ t c. names t c (number_in t.answer) refl;
    told = line-told;
  }
