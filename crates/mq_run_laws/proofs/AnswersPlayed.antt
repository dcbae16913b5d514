-- What a session that has played its script has drawn, read and been answered.
use Rattle.std.proofs.Common.{◌≡◌, ◌⊎◌, ◌∙◌, ℕ, suc, ◌<◌, ◌≤◌, Bool, true, false, List, [], ◌∷◌, ◌++◌, length, inl, inr, refl, sym, ap, subst, arith}
use Rattle.std.specs.Prelude.{Some, Result, Ok, Err, slice_get}
use Rattle.std.specs.List.{AllPairs, Contains}
use Rattle.std.proofs.lemmas.List.{length-append}
use Rattle.std.proofs.lemmas.Option.{slice_get_within}
use Rattle.mq_blocks.specs.Drive.{PortState}
use Rattle.mq_blocks.specs.Geometry.{write_limit}
use Rattle.mq_blocks.specs.declared.geometry.Geometry.{Geometry}
use Rattle.mq_calls.specs.Acts.{Call}
use Rattle.mq_queue_side.specs.declared.answers.Refusal.{Refusal}
use Rattle.mq_drive.specs.Steps.{PortFault}
use Rattle.mq_drive.specs.declared.port.Port.{Ghosts}
use Rattle.mq_calls.specs.Entries.{written_by}
use Rattle.mq_calls.specs.declared.entry.FileEntry.{FileEntry}
use Rattle.mq_journal.specs.Numbers.{Seat, Shared, reported}
use Rattle.mq_run_laws.specs.Answers.{is_good, number_in}
use Rattle.mq_run_laws.specs.Histories.{WritesNothing}
use Rattle.mq_report.specs.declared.line.Line.{Line}
use Rattle.mq_report.specs.declared.line.Told.{Told}
use Rattle.mq_run.specs.Lines.{end_of}
use Rattle.mq_run.specs.Playing.{Comes, IsDone, Plays, begins, goes, serves, call_at}
use Rattle.mq_run.proofs.ServedNotices.{Keeps, keeps-served}
use Rattle.mq_script.specs.Scripts.{Group}
use Rattle.mq_script.specs.declared.group.End.{End}
use Rattle.mq_script.specs.declared.group.End.TheVariants.{Ask, Fatomic, Fsync}
use Rattle.mq_tree.specs.declared.request.Reply.{Reply}
use Rattle.mq_turns.specs.Meaning.{newest}
use Rattle.mq_turns.specs.declared.rule.Charge.{Charge}
use Rattle.mq_turns.specs.declared.rule.Report.TheVariants as report
use Rattle.mq_run_laws.proofs.PlayingCame.{Came, drew, saw, passed, came}
use Rattle.mq_run_laws.proofs.Pairs.{cons-cases, get-append, get-push, here, in-either, in-left, in-right, none-in, pairs-append, pairs-none, pairs-one, push-cases, same-get, there}

-- the drawn entry is that of a group that was answered so
pub record DrawnBy (g : Geometry) (session : ℕ) (groups : List Group) (told : List Told) (d : ℕ × FileEntry) : Type 0 where
  pub group : Group
  pub at : slice_get groups d.1.call ≡ Some group
  pub answer : Told
  pub told_at : slice_get told d.1.call ≡ Some answer
  pub number : number_in answer.answer ≡ Some d.0
  pub session_is : d.1.session ≡ session
  pub requests : d.1.requests ≡ group.requests
  pub end : end_of d.1.durable ≡ group.end
  pub few : length (written_by d.1) ≤ write_limit g

-- the number of an answer is that of an entry which was drawn, or of a line which was read
pub record HasEntry (session k n : ℕ) (drawn : List (ℕ × FileEntry)) : Type 0 where
  pub entry : FileEntry
  pub there : Contains drawn (n, entry)
  pub call : entry.call ≡ k

pub record HasLine (k n : ℕ) (answer : Result ℕ Refusal) (lines : List Line) : Type 0 where
  pub line : Line
  pub there : Contains lines line
  pub number : line.number ≡ n
  pub group : line.group ≡ k
  pub good : answer ≡ Ok n

drawn-more : (g : Geometry) (session : ℕ) (groups : List Group) (told more : List Told) (d : ℕ × FileEntry) → DrawnBy g session groups told d → DrawnBy g session groups (told ++ more) d
drawn-more g session groups told more d b = record {
  group = b.group;
  at = b.at;
  answer = b.answer;
  told_at = get-append told more d.1.call b.answer b.told_at;
  number = b.number;
  session_is = b.session_is;
  requests = b.requests;
  end = b.end;
  few = b.few;
}

in-same : {A : Type 0} (xs ys : List A) → ys ≡ xs → (x : A) → Contains xs x → Contains ys x
in-same xs ys e x c = subst (λ zs. Contains zs x) (sym e) c

in-back : {A : Type 0} (xs ys : List A) → ys ≡ xs → (x : A) → Contains ys x → Contains xs x
in-back xs ys e x c = subst (λ zs. Contains zs x) e c

module _ {P : Type 0} {G : Ghosts P} where
  -- the line is that of a group that was read
  pub record ReadBy (session : ℕ) (groups : List Group) (told : List Told) (read : List (FileEntry × Shared P FileEntry G)) (l : Line) : Type 0 where
    pub group : Group
    pub at : slice_get groups l.group ≡ Some group
    pub answer : Told
    pub told_at : slice_get told l.group ≡ Some answer
    pub good : answer.answer ≡ Ok l.number
    pub commit : l.commit ≡ false
    pub session_is : l.session ≡ session
    pub end : l.end ≡ group.end
    pub entry : FileEntry
    pub known : Shared P FileEntry G
    pub there : Contains read (entry, known)
    pub number : newest known ≡ l.number
    pub entry_session : entry.session ≡ session
    pub call : entry.call ≡ l.group
    pub requests : entry.requests ≡ group.requests
    pub replies : entry.replies ≡ l.replies
    pub quiet : WritesNothing entry

  pub record ToldAt (session : ℕ) (groups : List Group) (lines : List Line) (v : Seat P FileEntry G) (k : ℕ) (t : Told) : Type 0 where
    pub group : Group
    pub at : slice_get groups k ≡ Some group
    pub session_is : t.session ≡ session
    pub group_is : t.group ≡ k
    pub end : t.end ≡ group.end
    pub names : (n : ℕ) → number_in t.answer ≡ Some n → HasEntry session k n v.drawn ⊎ HasLine k n t.answer lines
    pub durable : (n : ℕ) → t.answer ≡ Ok n → group.end ≡ Fsync → n ≤ v.reading.done

  -- what the first k groups left
  pub record Tells (g : Geometry) (session : ℕ) (groups : List Group) (k : ℕ) (told : List Told) (lines : List Line) (v : Seat P FileEntry G) : Type 0 where
    pub many : length told ≡ k
    pub drawn : (d : ℕ × FileEntry) → Contains v.drawn d → DrawnBy g session groups told d
    pub reads : (l : Line) → Contains lines l → ReadBy session groups told v.read l
    pub each : (j : ℕ) (t : Told) → slice_get told j ≡ Some t → ToldAt session groups lines v j t
    pub rising : AllPairs (λ l m. l.group < m.group) lines
    -- the send of a group that was answered well is reported
    pub sent : (d : ℕ × FileEntry) → Contains v.drawn d → (t : Told) → slice_get told d.1.call ≡ Some t → is_good t.answer ≡ true → Contains v.reading.charged (reported session (report.Sent d.0))

  -- ---- one more answer

  reads-more : (session : ℕ) (groups : List Group) (told more : List Told) (old new : List (FileEntry × Shared P FileEntry G)) (l : Line) → ((r : FileEntry × Shared P FileEntry G) → Contains old r → Contains new r) → ReadBy session groups told old l → ReadBy session groups (told ++ more) new l
  reads-more session groups told more old new l on b = record {
    group = b.group;
    at = b.at;
    answer = b.answer;
    told_at = get-append told more l.group b.answer b.told_at;
    good = b.good;
    commit = b.commit;
    session_is = b.session_is;
    end = b.end;
    entry = b.entry;
    known = b.known;
    there = on (b.entry, b.known) b.there;
    number = b.number;
    entry_session = b.entry_session;
    call = b.call;
    requests = b.requests;
    replies = b.replies;
    quiet = b.quiet;
  }

  told-more : (session : ℕ) (groups : List Group) (lines more : List Line) (old new : Seat P FileEntry G) (k : ℕ) (t : Told) → ((d : ℕ × FileEntry) → Contains old.drawn d → Contains new.drawn d) → old.reading.done ≤ new.reading.done → ToldAt session groups lines old k t → ToldAt session groups (lines ++ more) new k t
  told-more session groups lines more old new k t on later b = record {
    group = b.group;
    at = b.at;
    session_is = b.session_is;
    group_is = b.group_is;
    end = b.end;
    names = λ n e. elim (b.names n e) [
      | inl h ↦ inl (record { entry = h.entry; there = on (n, h.entry) h.there; call = h.call })
      | inr h ↦ inr (record { line = h.line; there = in-left lines more h.line h.there; number = h.number; group = h.group; good = h.good })
    ];
    durable = λ n a e. let low = b.durable n a e in omega arith;
  }

  same-told : (session : ℕ) (groups : List Group) (lines : List Line) (old new : Seat P FileEntry G) (k : ℕ) (t : Told) → ((d : ℕ × FileEntry) → Contains old.drawn d → Contains new.drawn d) → old.reading.done ≤ new.reading.done → ToldAt session groups lines old k t → ToldAt session groups lines new k t
  same-told session groups lines old new k t on later b = record {
    group = b.group;
    at = b.at;
    session_is = b.session_is;
    group_is = b.group_is;
    end = b.end;
    names = λ n e. elim (b.names n e) [ inl h ↦ inl (record { entry = h.entry; there = on (n, h.entry) h.there; call = h.call }) | inr h ↦ inr h ];
    durable = λ n a e. let low = b.durable n a e in omega arith;
  }

  -- the entry that the new group drew
  pub record NewlyDrawn (g : Geometry) (session : ℕ) (groups : List Group) (k : ℕ) (told : List Told) (t : Told) (new : Seat P FileEntry G) (d : ℕ × FileEntry) : Type 0 where
    pub by : DrawnBy g session groups (told ++ t ∷ []) d
    pub call : d.1.call ≡ k
    pub sent : is_good t.answer ≡ true → Contains new.reading.charged (reported session (report.Sent d.0))

  -- what the new group left
  pub record Adds (g : Geometry) (session : ℕ) (groups : List Group) (k : ℕ) (told : List Told) (t : Told) (more : List Line) (old new : Seat P FileEntry G) : Type 0 where
    pub drawn_on : (d : ℕ × FileEntry) → Contains old.drawn d → Contains new.drawn d
    pub drawn : (d : ℕ × FileEntry) → Contains new.drawn d → Contains old.drawn d ⊎ NewlyDrawn g session groups k told t new d
    pub charged_on : (x : Charge) → Contains old.reading.charged x → Contains new.reading.charged x
    pub read_on : (r : FileEntry × Shared P FileEntry G) → Contains old.read r → Contains new.read r
    pub reads : (l : Line) → Contains more l → ReadBy session groups (told ++ t ∷ []) new.read l × (l.group ≡ k)
    pub names : (n : ℕ) → number_in t.answer ≡ Some n → HasEntry session k n new.drawn ⊎ HasLine k n t.answer more
    pub rising : AllPairs (λ l m. l.group < m.group) more

  adds : (g : Geometry) (session : ℕ) (groups : List Group) (k : ℕ) (group : Group) (told : List Told) (t : Told) (more : List Line) (old new : Seat P FileEntry G) → length told ≡ k → slice_get groups k ≡ Some group → Came g session k group t.answer more old new → Adds g session groups k told t more old new
  adds g session groups k group told t more old new many at h = by t.answer more refl h
    where
      by : (answer : Result ℕ Refusal) (ls : List Line) → t.answer ≡ answer → Came g session k group answer ls old new → Adds g session groups k told t ls old new
      by answer _ same (drew n d end number sent) =
          let one : DrawnBy g session groups (told ++ t ∷ []) (n, d.entry) = record {
            group = group;
            at = ap (slice_get groups) d.is.call ∙ at;
            answer = t;
            told_at = ap (slice_get (told ++ t ∷ [])) d.is.call ∙ get-push told k t many;
            number = ap number_in same ∙ number;
            session_is = d.is.session;
            requests = d.is.requests;
            end = ap end_of d.is.durable ∙ end;
            few = d.few;
          } in
          record {
            drawn_on = λ x c. in-same ((n, d.entry) ∷ old.drawn) new.drawn d.drawn x (there x (n, d.entry) old.drawn c);
            drawn = λ x c. elim (cons-cases x (n, d.entry) old.drawn (in-back ((n, d.entry) ∷ old.drawn) new.drawn d.drawn x c)) [ inl e ↦ inr (subst (λ (y : ℕ × FileEntry). NewlyDrawn g session groups k told t new y) e (record { by = one; call = d.is.call; sent = λ good. sent (sym (ap is_good same) ∙ good) })) | inr c ↦ inl c ];
            charged_on = λ x c. in-same (d.charges ++ old.reading.charged) new.reading.charged d.charged x (in-right d.charges old.reading.charged x c);
            read_on = in-same old.read new.read d.read;
            reads = λ l c. absurd (none-in l c);
            names = λ m e. let is : n ≡ m = cc in inl (record { entry = d.entry; there = in-same ((n, d.entry) ∷ old.drawn) new.drawn d.drawn (m, d.entry) (0, omega arith, λ i. (is i, d.entry)); call = d.is.call });
            rising = pairs-none (λ l m. l.group < m.group);
          }
      by _ _ same (saw {n = n} {l = l} replies line s) =
          let now : Contains new.read (s.entry, s.known) = in-same ((s.entry, s.known) ∷ old.read) new.read s.read (s.entry, s.known) (here (s.entry, s.known) old.read) in
          let one : ReadBy session groups (told ++ t ∷ []) new.read l = record {
            group = group;
            at = ap (slice_get groups) line.group ∙ at;
            answer = t;
            told_at = ap (slice_get (told ++ t ∷ [])) line.group ∙ get-push told k t many;
            good = same ∙ ap (λ (i : ℕ). Ok i) (sym line.number);
            commit = line.commit;
            session_is = line.session_is;
            end = line.end_is;
            entry = s.entry;
            known = s.known;
            there = now;
            number = s.number ∙ sym line.number;
            entry_session = s.is.session;
            call = s.is.call ∙ sym line.group;
            requests = s.is.requests;
            replies = s.is.replies_are ∙ sym line.replies_are;
            quiet = s.quiet;
          } in
          record {
            drawn_on = in-same old.drawn new.drawn s.drawn;
            drawn = λ x c. inl (in-back old.drawn new.drawn s.drawn x c);
            charged_on = λ x c. in-same (s.charges ++ old.reading.charged) new.reading.charged s.charged x (in-right s.charges old.reading.charged x c);
            read_on = λ r c. in-same ((s.entry, s.known) ∷ old.read) new.read s.read r (there r (s.entry, s.known) old.read c);
            reads = λ m c. elim (cons-cases m l [] c) [ inl e ↦ subst (λ (x : Line). ReadBy session groups (told ++ t ∷ []) new.read x × (x.group ≡ k)) e (one, line.group) | inr c ↦ absurd (none-in m c) ];
            names = λ m e. let a = ap number_in same in let is : n ≡ m = cc in inr (record { line = l; there = here l []; number = line.number ∙ is; group = line.group; good = same ∙ ap (λ (i : ℕ). Ok i) is });
            rising = pairs-one (λ l m. l.group < m.group) l;
          }
      by answer _ same (passed none p) = record {
        drawn_on = in-same old.drawn new.drawn p.drawn;
        drawn = λ x c. inl (in-back old.drawn new.drawn p.drawn x c);
        charged_on = λ x c. in-same (p.charges ++ old.reading.charged) new.reading.charged p.charged x (in-right p.charges old.reading.charged x c);
        read_on = λ r c. in-same (p.more ++ old.read) new.read p.read r (in-right p.more old.read r c);
        reads = λ l c. absurd (none-in l c);
        names = λ m e. let a = ap number_in same in absurd (cc);
        rising = pairs-none (λ l m. l.group < m.group);
      }

  one-more : (g : Geometry) (session : ℕ) (groups : List Group) (k : ℕ) (group : Group) (told : List Told) (t : Told) (lines more : List Line) (old new : Seat P FileEntry G) → Tells g session groups k told lines old → slice_get groups k ≡ Some group
      → t.session ≡ session → t.group ≡ k → t.end ≡ group.end → old.reading.done ≤ new.reading.done → ((n : ℕ) → t.answer ≡ Ok n → group.end ≡ Fsync → n ≤ new.reading.done) → Adds g session groups k told t more old new
      → Tells g session groups (suc k) (told ++ t ∷ []) (lines ++ more) new
  one-more g session groups k group told t lines more old new h at own place end later durable a = record {
    many = let n = h.many in let l = length-append told (t ∷ []) in omega arith;
    drawn = λ d c. elim (a.drawn d c) [ inl o ↦ drawn-more g session groups told (t ∷ []) d (h.drawn d o) | inr n ↦ n.by ];
    sent = sent_on;
    reads = λ l c. elim (in-either lines more l c) [ inl o ↦ reads-more session groups told (t ∷ []) old.read new.read l a.read_on (h.reads l o) | inr n ↦ (a.reads l n).0 ];
    each = λ j u e. elim (push-cases told j t u e) [
      | inl o ↦ told-more session groups lines more old new j u a.drawn_on later (h.each j u o)
      | inr n ↦ (
          let place_is : k ≡ j = sym h.many ∙ sym n.0 in
          subst (λ (z : ℕ × Told). ToldAt session groups (lines ++ more) new z.0 z.1) (λ i. (place_is i, n.1 i)) this)
    ];
    rising = pairs-append (λ l m. l.group < m.group) lines more h.rising a.rising (λ l m c d.
        let b = h.reads l c in
        let low = slice_get_within told l.group b.answer b.told_at in
        let is = (a.reads m d).1 in
        let n = h.many in
        omega arith);
  }
    where
      sent_on : (d : ℕ × FileEntry) → Contains new.drawn d → (u : Told) → slice_get (told ++ t ∷ []) d.1.call ≡ Some u → is_good u.answer ≡ true → Contains new.reading.charged (reported session (report.Sent d.0))
      sent_on d c u there_at good = elim (a.drawn d c) [
        | inl o ↦ (
            let b = h.drawn d o in
            let same : b.answer ≡ u = same-get (told ++ t ∷ []) d.1.call b.answer u (get-append told (t ∷ []) d.1.call b.answer b.told_at) there_at in
            a.charged_on (reported session (report.Sent d.0)) (h.sent d o b.answer b.told_at (ap (λ (x : Told). is_good x.answer) same ∙ good)))
        | inr n ↦ (
            let same : t ≡ u = same-get (told ++ t ∷ []) k t u (get-push told k t h.many) (ap (slice_get (told ++ t ∷ [])) (sym n.call) ∙ there_at) in
            n.sent (ap (λ (x : Told). is_good x.answer) same ∙ good))
      ]

      this : ToldAt session groups (lines ++ more) new k t
      this = record {
        group = group;
        at = at;
        session_is = own;
        group_is = place;
        end = end;
        names = λ n e. elim (a.names n e) [
          | inl o ↦ inl o
          | inr o ↦ inr (record { line = o.line; there = in-right lines more o.line o.there; number = o.number; group = o.group; good = o.good })
        ];
        durable = durable;
      }

  -- what was left stays where the session only serves notices
  tells-on : (g : Geometry) (session : ℕ) (groups : List Group) (k : ℕ) (told : List Told) (lines : List Line) (old new : Seat P FileEntry G) → Keeps old new → Tells g session groups k told lines old → Tells g session groups k told lines new
  tells-on g session groups k told lines old new keeps h =
      let drawn-on : (d : ℕ × FileEntry) → Contains old.drawn d → Contains new.drawn d = λ d c. in-same old.drawn new.drawn keeps.drawn d c in
      let drawn-back : (d : ℕ × FileEntry) → Contains new.drawn d → Contains old.drawn d = λ d c. in-back old.drawn new.drawn keeps.drawn d c in
      record {
        many = h.many;
        drawn = λ d c. h.drawn d (drawn-back d c);
        reads = λ l c. subst (λ (rs : List (FileEntry × Shared P FileEntry G)). ReadBy session groups told rs l) (sym keeps.read) (h.reads l c);
        each = λ j t e. same-told session groups lines old new j t drawn-on keeps.done (h.each j t e);
        rising = h.rising;
        sent = λ d c t at good. in-same (keeps.charges ++ old.reading.charged) new.reading.charged keeps.charged (reported session (report.Sent d.0)) (in-right keeps.charges old.reading.charged (reported session (report.Sent d.0)) (h.sent d (drawn-back d c) t at good));
      }

module _ {P : Type 0} {G : Ghosts P} (state : P → PortState) (faults : P → List PortFault) (g : Geometry) (session : ℕ) (groups : List Group) (from : Seat P FileEntry G) where
  done-of : (end : End) (c : Call) (at : ℕ) (was : Bool) (replies : List Reply) (old new : Seat P FileEntry G) → IsDone state faults g end c at was replies old new → end ≡ Fsync → at ≤ new.reading.done
  done-of Fsync c at was replies old new d is = d.done
  done-of Fatomic c at was replies old new d is = absurd (cc)
  done-of Ask c at was replies old new d is = absurd (cc)

  -- `fsync` knows that all numbers up to its own are done
  durable-done : (k : ℕ) (group : Group) (answer : Result ℕ Refusal) (lines : List Line) (old new : Seat P FileEntry G) → Comes state faults g session k group answer lines old new → (n : ℕ) → answer ≡ Ok n → group.end ≡ Fsync → n ≤ new.reading.done
  durable-done k group (Ok at) [] old new (replies, done) n is end = let low = done-of group.end (call_at session k group) at true replies old new done end in let same : at ≡ n = cc in omega arith
  durable-done k group (Ok at) (l ∷ []) old new (replies, line, done) n is end = let low = done-of group.end (call_at session k group) at false replies old new done end in let same : at ≡ n = cc in omega arith
  durable-done k group (Ok at) (l ∷ m ∷ ls) old new h n is end = absurd h
  durable-done k group (Err r) lines old new h n is end = absurd (cc)

  pub tells : (k : ℕ) (told : List Told) (lines : List Line) (sent served : List ℕ) (v : Seat P FileEntry G) → from.drawn ≡ [] → Plays state faults g session groups from k told lines sent served v → Tells g session groups k told lines v
  tells _ _ _ _ _ _ none begins = record {
    many = refl;
    drawn = λ d c. absurd (none-in d (subst (λ (ds : List (ℕ × FileEntry)). Contains ds d) none c));
    reads = λ l c. absurd (none-in l c);
    each = λ j t e. absurd (cc);
    rising = pairs-none (λ l m. l.group < m.group);
    sent = λ d c t at good. absurd (none-in d (subst (λ (ds : List (ℕ × FileEntry)). Contains ds d) none c));
  }
  tells _ _ _ _ _ _ none (goes {k = k} {told = told} {lines = lines} {more = more} {sent = sent} {served = served} {old = old} {new = new} {group = group} {t = t} plays at is) =
      let h = tells k told lines sent served old none plays in
      let a = adds g session groups k group told t more old new h.many at (came state faults g session k group t.answer more old new is.comes) in
      one-more g session groups k group told t lines more old new h at is.session_is is.group_is is.end is.goes.done (durable-done k group t.answer more old new is.comes) a
  tells k told lines sent _ new none (serves {served = served} {more = ns} {old = old} plays are) =
      tells-on g session groups k told lines old new (keeps-served state faults session old ns new are) (tells k told lines sent served old none plays)
