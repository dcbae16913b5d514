-- The lines of a run are a legal list.
use Rattle.std.proofs.Common.{◌≡◌, ◌⊎◌, ◌∙◌, ℕ, suc, ◌+◌, ◌<◌, ◌≤◌, ◌%◌, ◌^◌, Bool, true, false, List, [], ◌++◌, length, get_or, map, take, inl, inr, refl, sym, ap, subst, arith}
use Rattle.std.specs.Prelude.{None, Some, reverse, slice_get}
use Rattle.std.specs.List.{All, AllPairs, Contains}
use Rattle.std.proofs.lemmas.Bool.{true≢false}
use Rattle.std.proofs.lemmas.List.{length-append, length-reverse}
use Rattle.std.proofs.lemmas.List.Elements.{All-contains}
use Rattle.std.proofs.lemmas.List.Sorted.{Contains-permutation, IsPermutation-sym}
use Rattle.std.proofs.lemmas.Option.{slice_get_within}
use Rattle.mq_blocks.specs.Drive.{PortState}
use Rattle.mq_blocks.specs.Machine.{Map}
use Rattle.mq_blocks.specs.declared.geometry.Geometry.{Geometry}
use Rattle.mq_calls.proofs.OpeningVolume.{map-at}
use Rattle.mq_drive.specs.Steps.{PortFault}
use Rattle.mq_drive.specs.declared.port.Port.{Ghosts}
use Rattle.mq_drive.specs.declared.port.Ports.{Ports}
use Rattle.mq_calls.specs.Entries.{RanUndrawn}
use Rattle.mq_calls.specs.Group.{file_group}
use Rattle.mq_calls.specs.declared.entry.FileEntry.{FileEntry}
use Rattle.mq_journal.specs.Numbers.{Seat, Shared, Start}
use Rattle.mq_journal.specs.Values.{side_values}
use Rattle.mq_journal.specs.Machine.{journal}
use Rattle.mq_run_laws.proofs.Histories.{lines-run}
use Rattle.mq_run_laws.proofs.HistoriesLogs.{log-does, log-map}
use Rattle.mq_run_laws.specs.Groups.{IsGroup, group_at}
use Rattle.mq_run_laws.specs.Histories.{AllDo, AreLinesOf, AreOfBytes, map_after}
use Rattle.mq_run_laws.specs.Legal.{IsLegal}
use Rattle.mq_pages.specs.declared.page.PageCell.{PageCell}
use Rattle.mq_recover.specs.declared.standing.Standing.{Standing}
use Rattle.mq_report.specs.declared.line.Line.{Line}
use Rattle.mq_desk_laws.specs.Rule.{Fits, geometry_of, map_now, shape_of, start_of}
use Rattle.mq_desk_laws.specs.Values.{Values}
use Rattle.mq_script.specs.Scripts.{Group, Script}
use Rattle.mq_queue_side.specs.declared.root.Root.{Root}
use Rattle.mq_queue_side.specs.declared.side.QueueSide.{QueueSide}
use Rattle.mq_tie.specs.Legal.{numbered}
use Rattle.mq_tie.specs.declared.ended.Ended.{Ended}
use Rattle.mq_tree.specs.Laid.{IsLaid, map_of}
use Rattle.mq_tree.specs.Volume.{Volume}
use Rattle.mq_turns.specs.Desk.{DrawAfterDraw, DrawAfterRead, InOrder, IsInOrder, ReadAfterDraw, ReadAfterRead, drawn_of, fresh, read_of}
use Rattle.mq_turns.specs.Lists.{Each}
use Rattle.mq_turns.specs.Meaning.{Grows, HasNumberAt, Meaning, newest}
use Rattle.mq_run.proofs.LinesGrowing.{image_at}
use Rattle.mq_run.proofs.Parts.{image_from, partner}
use Rattle.mq_run.proofs.RunsHelpers.{helpers-drew}
use Rattle.mq_run.proofs.ServedNotices.{Keeps}
use Rattle.mq_run.specs.Lines.{AreCommitLines, IsNotAfter, end_of, joined}
use Rattle.mq_run.specs.Playing.{HasPlayed, IsShort}
use Rattle.mq_run.specs.Runs.{HasRunScripts, Track}
use Rattle.mq_run.specs.declared.end.RunEnd.{RunEnd}
use Rattle.mq_run_laws.proofs.LinesBuilding.{DifferIn, HasLineAt, Kind, build, drawn, seen}
use Rattle.mq_run_laws.proofs.LinesNumbered.{commit-has, commit-of, commit-rising, do-at, entry-at, group-found, older, once-at, small-rest, sorted-cases}
use Rattle.mq_run_laws.proofs.Pairs.{each-in, get-append, get-in, in-either, in-get, in-left, joined-in, none-in, pairs-append, pairs-joined, pairs-map, pairs-permuted, same-get, times-in}
use Rattle.mq_run_laws.proofs.AnswersPlayed.{Tells, tells}
use Rattle.mq_run_laws.proofs.NumbersViews.{after-finish, before-finish, drawn-in, in-drawn, in-read}

-- the one line is that of an earlier group of the session: its number is not above the other's, and below
-- it where that one is a commit
abbrev Earlier : Line → Line → Type 0
Earlier l m = (l.group < m.group) × (l.number ≤ m.number) × (m.commit ≡ true → l.number < m.number)

-- of each two lines of a session one is earlier, and no two commits have the same number
abbrev Apart : Line → Line → Type 0
Apart l m = (l.session ≡ m.session → Earlier l m ⊎ Earlier m l) × DifferIn l m

apart-turned : (l m : Line) → Apart l m → Apart m l
apart-turned l m h = (
  λ same. elim (h.0 (sym same)) [ inl a ↦ inr a | inr b ↦ inl b ],
  λ yea too same. h.1 too yea (sym same),
)

-- in the order of a report, the earlier one stands first
in-front : (l m : Line) → Apart l m → IsNotAfter l m → l.session ≡ m.session → l.group < m.group
in-front l m h order same = elim (h.0 same) [
  | inl a ↦ a.0
  | inr b ↦ absurd (behind b order)
]
  where
    behind : Earlier m l → IsNotAfter l m → ⊥
    behind b (inl lt) = let le = b.1 in omega arith
    behind b (inr (inl h)) = let lt = b.2 h.1 in let is = h.0 in omega arith
    behind b (inr (inr (inl h))) = let lt = h.2 in omega arith
    behind b (inr (inr (inr h))) = let lt = b.0 in let le = h.3 in omega arith

reads-differ : (l m : Line) → l.commit ≡ false → DifferIn l m
reads-differ l m nay yea too same = true≢false (sym yea ∙ nay)

differ-reads : (l m : Line) → m.commit ≡ false → DifferIn l m
differ-reads l m nay yea too same = true≢false (sym too ∙ nay)

module _ {P : Type 0} (G : Ghosts P) (state : P → PortState) (faults : P → List PortFault) (g : Geometry) (ports : Ports P) (s : Standing) (scripts : List Script) (finish : Bool) (e : RunEnd P)
    (run : HasRunScripts G state faults g ports s scripts finish e) where
  abbrev pub o : Start P FileEntry G
  o = run.opening

  abbrev pub end : Ended P FileEntry G
  end = run.ends.end

  abbrev pub K : Shared P FileEntry G
  K = run.ends.run.end.known

  abbrev pub values : Values (QueueSide P FileEntry G) (Root P G) FileEntry
  values = side_values state faults

  abbrev pub machine : Meaning PageCell (QueueSide P FileEntry G) (Root P G) FileEntry
  machine = journal state faults file_group

  abbrev pub es : List FileEntry
  es = reverse K.log

  abbrev pub start : Map
  start = start_of values file_group K.opening

  abbrev pub lines : List Line
  lines = e.entries.items

  abbrev pub views : List (Seat P FileEntry G)
  views = map (λ t. t.view) run.tracks

  abbrev helpers : List (Seat P FileEntry G)
  helpers = map (λ t. t.helper) run.tracks

  pub base-is : K.opening.base ≡ s.base
  base-is = ap (λ (x : Start P FileEntry G). x.base) run.ends.run.end.opening ∙ run.opened.base

  pub shape-is : geometry_of values file_group K ≡ g
  shape-is = ap (λ (x : Start P FileEntry G). shape_of values file_group x) run.ends.run.end.opening ∙ run.opened.shape

  pub start-is : start ≡ map_of g s.blocks.items
  start-is = λ i b. (ap (λ (x : Start P FileEntry G). start_of values file_group x b) run.ends.run.end.opening ∙ (ap (λ xs. get_or xs b None) run.opened.pages ∙ map-at g s.blocks.items b)) i

  -- ---- sessions

  pub record Session (i : ℕ) (t : Track P G) : Type 0 where
    pub script : Script
    pub at : slice_get scripts i ≡ Some script
    pub played : HasPlayed state faults g i script.groups t.told t.reads t.sent t.mine (fresh o i) t.view
    pub tells : Tells g i script.groups (length t.told) t.told t.reads t.view
    pub last : Seat P FileEntry G
    pub last_at : slice_get run.ends.left i ≡ Some last
    pub keeps : Keeps t.view last

  pub session-of : (i : ℕ) (t : Track P G) → slice_get run.tracks i ≡ Some t → Session i t
  session-of i t at =
      let script : Script = get_or scripts i (record { groups = [] }) in
      let here_is : slice_get scripts i ≡ Some script = partner run.tracks scripts i t (record { groups = [] }) run.many at in
      let played = run.played i script t here_is at in
      let after = after-finish state faults finish e.finished views run.ends.sessions run.ends.finished i t.view (image_at (λ (u : Track P G). u.view) run.tracks i t at) in
      record {
        script = script;
        at = here_is;
        played = played;
        tells = tells state faults g i script.groups (fresh o i) (length t.told) t.told t.reads _ _ t.view refl played.plays;
        last = after.0;
        last_at = ap (λ (vs : List (Seat P FileEntry G)). slice_get vs i) run.ends.left_are ∙ get-append run.ends.sessions helpers i after.0 after.1;
        keeps = after.2;
      }

  -- what a session has drawn is in the history
  pub drawn-stands : (i : ℕ) (t : Track P G) (d : ℕ × FileEntry) → slice_get run.tracks i ≡ Some t → Contains t.view.drawn d → HasNumberAt K.opening.base K.log d.0 d.1
  drawn-stands i t d at c =
      let x = session-of i t at in
      let own : Contains x.last.drawn d = subst (λ ds. Contains ds d) (sym x.keeps.drawn) c in
      each-in (λ d. HasNumberAt K.opening.base K.log d.0 d.1) (drawn_of run.ends.left) d run.ends.run.end.drew (in-drawn run.ends.left x.last d (get-in run.ends.left i x.last x.last_at) own)

  -- who has drawn something is no helper
  drawing : (v : Seat P FileEntry G) (d : ℕ × FileEntry) → Contains run.ends.left v → Contains v.drawn d → Contains run.ends.sessions v
  drawing v d c has = elim (in-either run.ends.sessions helpers v (subst (λ (vs : List (Seat P FileEntry G)). Contains vs v) run.ends.left_are c)) [
    | inl own ↦ own
    | inr other ↦ (
        let none : v.drawn ≡ [] = each-in (λ (w : Seat P FileEntry G). w.drawn ≡ []) helpers v (helpers-drew G state faults g ports s scripts finish e run) other in
        absurd (none-in d (subst (λ (ds : List (ℕ × FileEntry)). Contains ds d) none has)))
  ]

  -- and each entry of the history was drawn by one
  pub record DrawnAt (n : ℕ) (f : FileEntry) : Type 0 where
    pub session : ℕ
    pub track : Track P G
    pub at : slice_get run.tracks session ≡ Some track
    pub there : Contains track.view.drawn (n, f)

  pub drawn-at : (n : ℕ) (f : FileEntry) → HasNumberAt K.opening.base K.log n f → K.opening.base < n → n ≤ newest K → DrawnAt n f
  drawn-at n f is lo hi =
      let opened = ap (λ (x : Start P FileEntry G). x.base) run.ends.run.end.opening in
      let next = run.ends.run.end.next_is in
      let one = run.ends.run.end.once n (omega arith) (omega arith) in
      let some = times-in n (drawn_of run.ends.left) (omega arith) in
      let by = drawn-in run.ends.left (n, some.0) some.1 in
      let place = in-get run.ends.sessions by.0 (drawing by.0 (n, some.0) by.1 by.2) in
      let before = before-finish state faults finish e.finished views run.ends.sessions run.ends.finished place.0 by.0 place.1 in
      let of = image_from (λ (t : Track P G). t.view) run.tracks place.0 before.0 before.1 in
      let there_is : Contains of.0.view.drawn (n, some.0) = subst (λ (ds : List (ℕ × FileEntry)). Contains ds (n, some.0)) {y = of.0.view.drawn} (before.2.drawn ∙ ap (λ (v : Seat P FileEntry G). v.drawn) (sym of.2)) by.2 in
      let same = once-at K.opening.base K.log n some.0 f (drawn-stands place.0 of.0 (n, some.0) of.1 there_is) is in
      record { session = place.0; track = of.0; at = of.1; there = subst (λ (x : FileEntry). Contains of.0.view.drawn (n, x)) same there_is }

  -- ---- lines

  pub commits-are : AreCommitLines (numbered (suc K.opening.base) es) run.ends.leaves.commits
  commits-are = subst (λ hs. AreCommitLines hs run.ends.leaves.commits) run.ends.run.run.history run.ends.leaves.commits_are

  -- the line of an entry of the history, by what its session was answered
  pub record CommitIn (l : Line) : Type 0 where
    pub place : ℕ
    pub entry : FileEntry
    pub at : slice_get es place ≡ Some entry
    pub number : l.number ≡ suc K.opening.base + place
    pub commit : l.commit ≡ true
    pub track : Track P G
    pub own : slice_get run.tracks l.session ≡ Some track
    pub there : Contains track.view.drawn (l.number, entry)
    pub session_is : entry.session ≡ l.session
    pub group_is : entry.call ≡ l.group
    pub end_is : l.end ≡ end_of entry.durable
    pub replies_are : entry.replies ≡ l.replies

  -- the line of what a session has read
  pub record ReadIn (l : Line) : Type 0 where
    pub track : Track P G
    pub own : slice_get run.tracks l.session ≡ Some track
    pub there : Contains track.reads l

  module _ (short : All (λ script. IsShort script.groups) scripts) where
    few-groups : (i : ℕ) (script : Script) → slice_get scripts i ≡ Some script → length script.groups < 2 ^ 32
    few-groups i script at = (All-contains (λ script. IsShort script.groups) scripts script short (get-in scripts i script at)).few

    -- the group of an entry is counted in 32 bits
    pub small-call : (i : ℕ) (t : Track P G) (d : ℕ × FileEntry) → slice_get run.tracks i ≡ Some t → Contains t.view.drawn d → d.1.call % 2 ^ 32 ≡ d.1.call
    small-call i t d at c =
        let x = session-of i t at in
        let b = x.tells.drawn d c in
        let low = slice_get_within x.script.groups d.1.call b.group b.at in
        let few = few-groups i x.script x.at in
        small-rest d.1.call (length x.script.groups) low (omega arith)

    commit-in : (l : Line) → Contains run.ends.leaves.commits l → CommitIn l
    commit-in l c =
        let r = commit-of (suc K.opening.base) es run.ends.leaves.commits l commits-are c in
        let low = slice_get_within es r.0 r.1 r.2 in
        let long = length-reverse K.log in
        let stands = entry-at K.opening.base K.log r.0 r.1 r.2 in
        let d = drawn-at (suc K.opening.base + r.0) r.1 stands (omega arith) (omega arith) in
        let x = session-of d.session d.track d.at in
        let b = x.tells.drawn (suc K.opening.base + r.0, r.1) d.there in
        let small = small-call d.session d.track (suc K.opening.base + r.0, r.1) d.at d.there in
        let own : d.session ≡ l.session = sym b.session_is ∙ sym r.3.session in
        record {
          place = r.0;
          entry = r.1;
          at = r.2;
          number = r.3.number_is;
          commit = r.3.commit;
          track = d.track;
          own = subst (λ (i : ℕ). slice_get run.tracks i ≡ Some d.track) own d.at;
          there = subst (λ (n : ℕ). Contains d.track.view.drawn (n, r.1)) (sym r.3.number_is) d.there;
          session_is = sym r.3.session;
          group_is = sym small ∙ sym r.3.group;
          end_is = r.3.end_is;
          replies_are = sym r.3.replies_are;
        }

    read-in : (l : Line) → Contains (joined (map (λ t. t.reads) run.tracks)) l → ReadIn l
    read-in l c =
        let j = joined-in (map (λ t. t.reads) run.tracks) l c in
        let t = image_from (λ (t : Track P G). t.reads) run.tracks j.0 j.1 j.2 in
        let there_is : Contains t.0.reads l = subst (λ ls. Contains ls l) (sym t.2) j.3 in
        let x = session-of j.0 t.0 t.1 in
        let own : j.0 ≡ l.session = sym (x.tells.reads l there_is).session_is in
        record { track = t.0; own = subst (λ (i : ℕ). slice_get run.tracks i ≡ Some t.0) own t.1; there = there_is }

    pub line-in : (l : Line) → Contains lines l → CommitIn l ⊎ ReadIn l
    line-in l c =
        let all = run.ends.leaves.commits ++ joined (map (λ t. t.reads) run.tracks) in
        let back = Contains-permutation lines all l (IsPermutation-sym all lines run.ends.leaves.lines) c in
        elim (in-either run.ends.leaves.commits (joined (map (λ t. t.reads) run.tracks)) l back) [ inl a ↦ inl (commit-in l a) | inr b ↦ inr (read-in l b) ]

    -- each entry has its line
    pub has-line : (i : ℕ) (f : FileEntry) → slice_get es i ≡ Some f → HasLineAt lines (K.opening.base + suc i)
    has-line i f at =
        let r = commit-has (suc K.opening.base) es run.ends.leaves.commits i f commits-are at in
        let all = run.ends.leaves.commits ++ joined (map (λ t. t.reads) run.tracks) in
        let place : suc K.opening.base + i ≡ K.opening.base + suc i = omega arith in
        (r.0, Contains-permutation all lines r.0 run.ends.leaves.lines (in-left run.ends.leaves.commits (joined (map (λ t. t.reads) run.tracks)) r.0 r.1), r.2.commit, r.2.number_is ∙ place)

    -- ---- what lines report

    all-do : AllDo g start es
    all-do = subst (λ (h : Geometry). AllDo h start es) shape-is (log-does values (geometry_of values file_group K) start K.opening.base K.log run.ends.run.end.ok.legal)

    commit-kind : (l : Line) → CommitIn l → Kind g scripts start K.opening.base es l
    commit-kind l c =
        let x = session-of l.session c.track c.own in
        let b = x.tells.drawn (l.number, c.entry) c.there in
        let of = group-found scripts l.session c.entry.call x.script b.group x.at b.at in
        let found : IsGroup scripts l.session l.group × (group_at scripts l.session l.group ≡ b.group) = subst (λ (k : ℕ). IsGroup scripts l.session k × (group_at scripts l.session k ≡ b.group)) c.group_is of in
        let is = c.number in
        let next : l.number ≡ (K.opening.base + c.place) + 1 = omega arith in
        drawn c.place c.entry c.at (record {
          commit = c.commit;
          number = next;
          tells = record {
            of = found.0;
            session_is = c.session_is;
            requests_are = b.requests ∙ sym (ap (λ (x : Group). x.requests) found.1);
            replies_are = c.replies_are;
            end_is = c.end_is ∙ (b.end ∙ sym (ap (λ (x : Group). x.end) found.1));
          };
          does = do-at g start es c.place c.entry all-do c.at;
          few = b.few;
        })

    -- a read on the map of what was known then
    pub asks-at : (f : FileEntry) (L : Shared P FileEntry G) → Grows L K → Fits values file_group f L → RanUndrawn g (map_after start (take (length L.log) es)) f
    asks-at f L grows fits =
        let leads : map_now values file_group L ≡ map_after (start_of values file_group L.opening) (reverse L.log) = log-map values (start_of values file_group L.opening) L.opening.base L.log in
        let old : map_after (start_of values file_group L.opening) (reverse L.log) ≡ map_after start (take (length L.log) es) =
        λ i. map_after (start_of values file_group (sym grows.opening i)) (sym (older K.log grows.newer L.log grows.log) i) in
        let same : geometry_of values file_group L ≡ g = ap (λ (x : Start P FileEntry G). shape_of values file_group x) (sym grows.opening) ∙ shape-is in
        subst (λ (z : Geometry × Map). RanUndrawn z.0 z.1 f) (λ i. (same i, (leads ∙ old) i)) fits

    read-kind : (l : Line) → ReadIn l → Kind g scripts start K.opening.base es l
    read-kind l r =
        let x = session-of l.session r.track r.own in
        let b = x.tells.reads l r.there in
        let of = group-found scripts l.session l.group x.script b.group x.at b.at in
        let own : Contains x.last.read (b.entry, b.known) = subst (λ rs. Contains rs (b.entry, b.known)) (sym x.keeps.read) b.there in
        let known = each-in (λ r. machine.ok r.1 × Grows r.1 K × Fits values file_group r.0 r.1) (read_of run.ends.left) (b.entry, b.known) run.ends.run.end.read
        (in-read run.ends.left x.last (b.entry, b.known) (get-in run.ends.left l.session x.last x.last_at) own) in
        let grows = known.1 in
        let opened = ap (λ (x : Start P FileEntry G). x.base) grows.opening in
        let more = ap length grows.log in
        let parts = length-append grows.newer b.known.log in
        let long = length-reverse K.log in
        let at = b.number in
        let place : l.number ≡ K.opening.base + length b.known.log = omega arith in
        seen (length b.known.log) b.entry (omega arith) (record {
          commit = b.commit;
          number = place;
          tells = record {
            of = of.0;
            session_is = b.entry_session;
            requests_are = b.requests ∙ sym (ap (λ (x : Group). x.requests) of.1);
            replies_are = b.replies;
            end_is = b.end ∙ sym (ap (λ (x : Group). x.end) of.1);
          };
          asks = asks-at b.entry b.known grows known.2;
          quiet = b.quiet;
        })

    pub kinds : (l : Line) → Contains lines l → Kind g scripts start K.opening.base es l
    kinds l c = elim (line-in l c) [ inl a ↦ commit-kind l a | inr b ↦ read-kind l b ]

    -- ---- along a session

    -- what the session of a track drew and read is in order
    pub in-order : (i : ℕ) (t : Track P G) → slice_get run.tracks i ≡ Some t → (n : ℕ) × InOrder machine n t.view.drawn t.view.read
    in-order i t at =
        let x = session-of i t at in
        let own : IsInOrder machine x.last = each-in (IsInOrder machine) run.ends.left x.last run.ends.run.end.ordered (get-in run.ends.left i x.last x.last_at) in
        (x.last.session, subst (λ (z : List (ℕ × FileEntry) × List (FileEntry × Shared P FileEntry G)). InOrder machine x.last.session z.0 z.1) (λ j. (x.keeps.drawn j, x.keeps.read j)) own)

    same-track : (l m : Line) (t u : Track P G) → l.session ≡ m.session → slice_get run.tracks l.session ≡ Some t → slice_get run.tracks m.session ≡ Some u → u ≡ t
    same-track l m t u same at to = same-get run.tracks l.session u t (ap (slice_get run.tracks) same ∙ to) at

    two-commits : (l m : Line) → CommitIn l → CommitIn m → l.number < m.number → Apart l m
    two-commits l m c d lt = (
      λ same.
          let one = same-track l m c.track d.track same c.own d.own in
          let there_is : Contains c.track.view.drawn (m.number, d.entry) = subst (λ (t : Track P G). Contains t.view.drawn (m.number, d.entry)) one d.there in
          let order = in-order l.session c.track c.own in
          let a = c.group_is in
          let b = d.group_is in
          elim (sorted-cases (DrawAfterDraw machine) c.track.view.drawn (l.number, c.entry) (m.number, d.entry) order.1.draws c.there there_is) [
            | inl h ↦ (let low : m.number < l.number = h.1 in absurd (omega arith))
            | inr (inl h) ↦ (let low : c.entry.call < d.entry.call = h.0 in inl (omega arith, omega arith, λ yea. lt))
            | inr (inr e) ↦ (let is = ap (λ (z : ℕ × FileEntry). z.0) e in absurd (omega arith))
          ],
      λ yea too same. omega arith,
    )

    two-reads : (i : ℕ) (t : Track P G) (l m : Line) → slice_get run.tracks i ≡ Some t → Contains t.reads l → Contains t.reads m → l.group < m.group → Apart l m
    two-reads i t l m at c d lt =
        let x = session-of i t at in
        let a = x.tells.reads l c in
        let b = x.tells.reads m d in
        let order = in-order i t at in
        let calls = a.call in
        let too = b.call in
        let number = a.number in
        let other = b.number in (
          λ same. elim (sorted-cases (ReadAfterRead machine) t.view.read (a.entry, a.known) (b.entry, b.known) order.1.reads a.there b.there) [
            | inl h ↦ (let low : b.entry.call < a.entry.call = h.0 in absurd (omega arith))
            | inr (inl h) ↦ (let le : newest a.known ≤ newest b.known = h.1 in inl (lt, omega arith, λ yea. absurd (true≢false (sym yea ∙ b.commit))))
            | inr (inr e) ↦ (let is = ap (λ (z : FileEntry × Shared P FileEntry G). z.0.call) e in absurd (omega arith))
          ],
          reads-differ l m a.commit,
        )

    commit-and-read : (l m : Line) → CommitIn l → ReadIn m → Apart l m
    commit-and-read l m c r =
        let x = session-of m.session r.track r.own in
        let b = x.tells.reads m r.there in (
          λ same.
              let one = same-track l m c.track r.track same c.own r.own in
              let there_is : Contains r.track.view.drawn (l.number, c.entry) = subst (λ (t : Track P G). Contains t.view.drawn (l.number, c.entry)) (sym one) c.there in
              let order = in-order m.session r.track r.own in
              let each = each-in (λ d. Each (λ r. DrawAfterRead machine d r ⊎ ReadAfterDraw machine r d) r.track.view.read) r.track.view.drawn (l.number, c.entry) order.1.both there_is in
              let group = c.group_is in
              let call = b.call in
              let number = b.number in
              elim (each-in (λ r. DrawAfterRead machine (l.number, c.entry) r ⊎ ReadAfterDraw machine r (l.number, c.entry)) r.track.view.read (b.entry, b.known) each b.there) [
                | inl h ↦ (let low : b.entry.call < c.entry.call = h.0 in let lt : newest b.known < l.number = h.1 in inr (omega arith, omega arith, λ yea. omega arith))
                | inr h ↦ (let low : c.entry.call < b.entry.call = h.0 in let le : l.number ≤ newest b.known = h.1 in inl (omega arith, omega arith, λ yea. absurd (true≢false (sym yea ∙ b.commit))))
              ],
          differ-reads l m b.commit,
        )

    -- ---- all lines

    read-at : (i : ℕ) (ls : List Line) → slice_get (map (λ t. t.reads) run.tracks) i ≡ Some ls → (t : Track P G) × (slice_get run.tracks i ≡ Some t) × (t.reads ≡ ls)
    read-at i ls at = image_from (λ (t : Track P G). t.reads) run.tracks i ls at

    read-of-session : (i : ℕ) (ls : List Line) (l : Line) → slice_get (map (λ t. t.reads) run.tracks) i ≡ Some ls → Contains ls l → (l.session ≡ i) × (l.commit ≡ false)
    read-of-session i ls l at c =
        let t = read-at i ls at in
        let x = session-of i t.0 t.1 in
        let b = x.tells.reads l (subst (λ ks. Contains ks l) (sym t.2) c) in
        (b.session_is, b.commit)

    reads-apart : AllPairs Apart (joined (map (λ t. t.reads) run.tracks))
    reads-apart = pairs-joined Apart (map (λ t. t.reads) run.tracks)
        (λ i ls at.
        let t = read-at i ls at in
        let x = session-of i t.0 t.1 in
        subst (λ ks. AllPairs Apart ks) t.2
        (pairs-map (λ l m. l.group < m.group) Apart t.0.reads (λ l m c d lt. two-reads i t.0 l m t.1 c d lt) x.tells.rising))
        (λ i j ls ms l m lt at to c d.
        let a = read-of-session i ls l at c in
        let b = read-of-session j ms m to d in
        let own = a.0 in
        let other = b.0 in
        ((λ same. absurd (omega arith)), reads-differ l m a.1))

    pub all-apart : AllPairs Apart lines
    all-apart =
        let all = run.ends.leaves.commits ++ joined (map (λ t. t.reads) run.tracks) in
        let before : AllPairs Apart all = pairs-append Apart run.ends.leaves.commits (joined (map (λ t. t.reads) run.tracks))
        (pairs-map (λ l m. l.number < m.number) Apart run.ends.leaves.commits (λ l m c d lt. two-commits l m (commit-in l c) (commit-in m d) lt) (commit-rising (suc K.opening.base) es run.ends.leaves.commits commits-are))
        reads-apart
        (λ l m c d. commit-and-read l m (commit-in l c) (read-in m d)) in
        pairs-permuted Apart apart-turned all lines run.ends.leaves.lines before

    pub are-lines : AreLinesOf g scripts start K.opening.base es lines
    are-lines = build g scripts lines es start K.opening.base run.ends.leaves.order (λ i j d lt within. (all-apart i j d lt within).1) kinds has-line

    pub legal : (v : Volume) → AreOfBytes scripts → IsLaid g (map_of g s.blocks.items) v → IsLegal g scripts v s.base lines
    legal v low laid =
        let there_is : IsLaid g start v = subst (λ (m : Map). IsLaid g m v) (sym start-is) laid in
        let both = lines-run g scripts start v K.opening.base s.base es lines low there_is base-is are-lines in
        record {
          run = both.0;
          sessions = λ i j d lt within. in-front (get_or lines i d) (get_or lines j d) (all-apart i j d lt within) (run.ends.leaves.order i j d lt within);
          few = both.1;
        }
