-- Each refusal of a run has its cause, as far as scripts and history say.
use Rattle.std.proofs.Common.{◌≡◌, ◌⊎◌, ◌∙◌, ℕ, ◌-◌, ◌<◌, ◌≤◌, Bool, List, length, take, inl, inr, refl, sym, ap, subst, arith}
use Rattle.std.specs.Prelude.{Err, reverse, slice_get}
use Rattle.std.specs.List.{All, Contains}
use Rattle.std.proofs.lemmas.List.{length-append, length-reverse}
use Rattle.mq_blocks.specs.Drive.{PortState}
use Rattle.mq_blocks.specs.Machine.{Map}
use Rattle.mq_blocks.specs.declared.geometry.Geometry.{Geometry}
use Rattle.mq_calls.specs.Asking.{IsFirstChange}
use Rattle.mq_queue_side.specs.declared.answers.CallCause.{CallCause}
use Rattle.mq_queue_side.specs.declared.answers.CallCause.TheVariants.{Changes, Drive, OutOfMemory, TooLarge}
use Rattle.mq_queue_side.specs.declared.answers.Refusal.{Refusal}
use Rattle.mq_drive.specs.Steps.{PortFault}
use Rattle.mq_drive.specs.declared.port.Port.{Ghosts}
use Rattle.mq_drive.specs.declared.port.Ports.{Ports}
use Rattle.mq_calls.specs.Entries.{freed_by, volume_after, written_by}
use Rattle.mq_calls.specs.Group.{file_group}
use Rattle.mq_calls.specs.declared.entry.FileEntry.{FileEntry}
use Rattle.mq_journal.specs.Numbers.{Shared}
use Rattle.mq_journal.specs.Values.{side_values}
use Rattle.mq_journal.specs.Machine.{journal}
use Rattle.mq_run_laws.proofs.Histories.{asks-on, lines-at, lines-newest}
use Rattle.mq_run_laws.specs.Answers.{HasSeen, IsCause, IsCaused, IsLarge, IsLate, IsPortCause, group_told}
use Rattle.mq_run_laws.specs.Histories.{AreOfBytes, map_after}
use Rattle.mq_run_laws.specs.Legal.{Writes, volume_at}
use Rattle.mq_recover.specs.declared.standing.Standing.{Standing}
use Rattle.mq_report.specs.declared.line.Line.{Line}
use Rattle.mq_report.specs.declared.line.Told.{Told}
use Rattle.mq_pages.specs.declared.page.PageCell.{PageCell}
use Rattle.mq_desk_laws.specs.Rule.{Fits, start_of}
use Rattle.mq_desk_laws.specs.Values.{Values}
use Rattle.mq_script.specs.Scripts.{Group, Script}
use Rattle.mq_script.specs.declared.group.End.{End}
use Rattle.mq_script.specs.declared.group.End.TheVariants.{Ask}
use Rattle.mq_queue_side.specs.declared.answers.Cause.{Cause}
use Rattle.mq_queue_side.specs.declared.root.Root.{Root}
use Rattle.mq_queue_side.specs.declared.side.QueueSide.{QueueSide}
use Rattle.mq_tree.specs.Laid.{IsLaid, map_of}
use Rattle.mq_tree.specs.Requests.{after_group}
use Rattle.mq_tree.specs.Volume.{Volume}
use Rattle.mq_turns.specs.Desk.{DrawAfterRead, ReadAfterDraw, ReadAfterRead, fresh, read_of}
use Rattle.mq_turns.specs.Lists.{Each}
use Rattle.mq_turns.specs.Meaning as desk
use Rattle.mq_turns.specs.Meaning.{Grows, Meaning}
use Rattle.mq_run.specs.Playing.{IsShort, TellsOfChanges, call_at}
use Rattle.mq_run.specs.Runs.{HasRunScripts, Track}
use Rattle.mq_run.specs.declared.end.RunEnd.{RunEnd}
use Rattle.mq_run_laws.proofs.AnswersGiven.{ToldIn, told-in}
use Rattle.mq_run_laws.proofs.LinesNumbered.{group-found, sorted-cases}
use Rattle.mq_run_laws.proofs.Pairs.{each-in, get-in, same-get}
use Rattle.mq_run_laws.proofs.ActsReasons.{Large, Reasons, says}
use Rattle.mq_run_laws.proofs.NumbersViews.{in-read}
use Rattle.mq_run_laws.proofs.RunsWhole.{are-lines, asks-at, base-is, in-order, line-in, start-is}

module _ {P : Type 0} (G : Ghosts P) (state : P → PortState) (faults : P → List PortFault) (g : Geometry) (ports : Ports P) (s : Standing) (scripts : List Script) (finish : Bool) (e : RunEnd P)
    (run : HasRunScripts G state faults g ports s scripts finish e) (short : All (λ script. IsShort script.groups) scripts) (v : Volume) (bytes : AreOfBytes scripts) (laid : IsLaid g (map_of g s.blocks.items) v) where
  abbrev K : Shared P FileEntry G
  K = run.ends.run.end.known

  abbrev lines : List Line
  lines = e.entries.items

  abbrev μ : Meaning PageCell (QueueSide P FileEntry G) (Root P G) FileEntry
  μ = journal state faults file_group

  abbrev vals : Values (QueueSide P FileEntry G) (Root P G) FileEntry
  vals = side_values state faults

  abbrev start : Map
  start = start_of vals file_group K.opening

  module _ (t : Told) (b : ToldIn G state faults g ports s scripts finish e run short t) (group : Group) (count limit : ℕ) (l : Large g (call_at t.session t.group group) count limit b.track.view.read) where
    known-of : Grows l.known K × Fits vals file_group l.entry l.known
    known-of =
        let own : Contains b.session.last.read (l.entry, l.known) = subst (λ rs. Contains rs (l.entry, l.known)) (sym b.session.keeps.read) l.there in
        let all = each-in (λ r. μ.ok r.1 × Grows r.1 K × Fits vals file_group r.0 r.1) (read_of run.ends.left) (l.entry, l.known) run.ends.run.end.read
        (in-read run.ends.left b.session.last (l.entry, l.known) (get-in run.ends.left t.session b.session.last b.session.last_at) own) in
        (all.1, all.2)

    seen : HasSeen lines t.session t.group (desk.newest l.known)
    seen m c same less =
        let order = in-order G state faults g ports s scripts finish e run short t.session b.track b.own in
        let call = l.is.call in
        elim (line-in G state faults g ports s scripts finish e run short m c) [
          | inl a ↦ (
              let one : a.track ≡ b.track = same-get run.tracks t.session a.track b.track (ap (slice_get run.tracks) (sym same) ∙ a.own) b.own in
              let there_is : Contains b.track.view.drawn (m.number, a.entry) = subst (λ (u : Track P G). Contains u.view.drawn (m.number, a.entry)) one a.there in
              let each = each-in (λ d. Each (λ r. DrawAfterRead μ d r ⊎ ReadAfterDraw μ r d) b.track.view.read) b.track.view.drawn (m.number, a.entry) order.1.both there_is in
              let own = a.group_is in
              elim (each-in (λ r. DrawAfterRead μ (m.number, a.entry) r ⊎ ReadAfterDraw μ r (m.number, a.entry)) b.track.view.read (l.entry, l.known) each l.there) [
                | inl h ↦ (let low : l.entry.call < a.entry.call = h.0 in absurd (omega arith))
                | inr h ↦ h.1
              ])
          | inr a ↦ (
              let one : a.track ≡ b.track = same-get run.tracks t.session a.track b.track (ap (slice_get run.tracks) (sym same) ∙ a.own) b.own in
              let r = b.session.tells.reads m (subst (λ (u : Track P G). Contains u.reads m) one a.there) in
              let own = r.call in
              let number = r.number in
              elim (sorted-cases (ReadAfterRead μ) b.track.view.read (r.entry, r.known) (l.entry, l.known) order.1.reads r.there l.there) [
                | inl h ↦ (let low : l.entry.call < r.entry.call = h.0 in absurd (omega arith))
                | inr (inl h) ↦ (let le : desk.newest r.known ≤ desk.newest l.known = h.1 in omega arith)
                | inr (inr is) ↦ (let calls : r.entry.call ≡ l.entry.call = ap (λ (z : FileEntry × Shared P FileEntry G). z.0.call) is in absurd (omega arith))
              ])
        ]

    is-large : group_told scripts t ≡ group → IsLarge g scripts v s.base lines t count
    is-large told =
        let k = known-of in
        let base = base-is G state faults g ports s scripts finish e run in
        let opened : K.opening.base ≡ l.known.opening.base = ap (λ x. x.base) k.0.opening in
        let more = ap length k.0.log in
        let parts = length-append k.0.newer l.known.log in
        let long = length-reverse K.log in
        let are = are-lines G state faults g ports s scripts finish e run short in
        let last = lines-newest g scripts start K.opening.base s.base (reverse K.log) lines base are in
        let there_is : IsLaid g start v = subst (λ (m : Map). IsLaid g m v) (sym (start-is G state faults g ports s scripts finish e run)) laid in
        let place : desk.newest l.known - K.opening.base ≡ length l.known.log = omega arith in
        let m : Map = map_after start (take (length l.known.log) (reverse K.log)) in
        let w : Volume = volume_at g scripts v lines (desk.newest l.known) in
        let lies : IsLaid g m w = subst (λ (n : ℕ). IsLaid g (map_after start (take n (reverse K.log))) w) place (lines-at g scripts start v K.opening.base (desk.newest l.known) (reverse K.log) lines bytes there_is are) in
        let runs = asks-on g m w l.entry lies (asks-at G state faults g ports s scripts finish e run short l.entry l.known k.0 k.1) in
        let requests : l.entry.requests ≡ (group_told scripts t).requests = l.is.requests ∙ sym (ap (λ (x : Group). x.requests) told) in
        let after : volume_after g w l.entry ≡ after_group g t.session w (group_told scripts t).requests = ap (λ (i : ℕ). after_group g i w l.entry.requests) l.is.session ∙ ap (after_group g t.session w) requests in
        let limit_is = l.limit_is in
        let above = l.above in
        record {
          at = desk.newest l.known;
          least = omega arith;
          seen = seen;
          most = omega arith;
          writes = subst (λ (x : Volume). Writes g w x count) after (record { writes = written_by l.entry; frees = freed_by l.entry; moves = runs.moves; many = sym l.count_is });
          many = omega arith;
        }

  pub is-caused : (reached : ℕ) (t : Told) → Contains e.answers.items t → ((r : Refusal) (cause : Cause) → t.answer ≡ Err r → r.cause ≡ Drive cause → IsPortCause g lines reached cause) → IsCaused g scripts v s.base lines reached t
  is-caused reached t c port =
      let b = told-in G state faults g ports s scripts finish e run short t c in
      let x = b.session in
      let h = says state faults g t.session x.script.groups (fresh run.opening t.session) (length b.track.told) b.track.told b.track.reads _ _ b.track.view refl x.played.plays t.group t b.at in
      let group : Group = h.0 in
      let told : group_told scripts t ≡ group = (group-found scripts t.session t.group x.script group x.at h.1).1 in
      let end : (group_told scripts t).end ≡ group.end = ap (λ (y : Group). y.end) told in
      let requests : (group_told scripts t).requests ≡ group.requests = ap (λ (y : Group). y.requests) told in
      record {
        refused = λ r is.
            let why = h.2.reasons r is in
            record {
              cause_is = by-cause reached t b group r (λ cause drive. port r cause is drive) told why r.cause refl;
              asks = λ ask. why.asks (sym end ∙ ask);
              late = λ n drew. subst (λ (z : End). IsLate z n r.cause) (sym end) (why.late n drew);
            };
        changing = λ index is.
            let asked : TellsOfChanges Ask group.requests t.answer = subst (λ (z : End). TellsOfChanges z group.requests t.answer) (sym end ∙ is.asks) h.2.changing in
            (asked index).0 (subst (λ rs. IsFirstChange rs index) requests is.first);
      }
    where
      by-cause : (reached : ℕ) (t : Told) (b : ToldIn G state faults g ports s scripts finish e run short t) (group : Group) (r : Refusal) → ((cause : Cause) → r.cause ≡ Drive cause → IsPortCause g lines reached cause) → group_told scripts t ≡ group → Reasons g group.end (call_at t.session t.group group) r.cause r.drawn b.track.view.read → (why : CallCause) → r.cause ≡ why → IsCause g scripts v s.base lines reached t why
      by-cause reached t b group r port told h OutOfMemory is = tt
      by-cause reached t b group r port told h (TooLarge count limit) is = let large = h.large count limit is in (is-large t b group count limit large told, large.limit_is)
      by-cause reached t b group r port told h (Changes index) is =
          let first = h.first index is in
          record { asks = ap (λ (y : Group). y.end) told ∙ first.0; first = subst (λ rs. IsFirstChange rs index) (sym (ap (λ (y : Group). y.requests) told)) first.1 }
      by-cause reached t b group r port told h (Drive cause) is = port cause is
