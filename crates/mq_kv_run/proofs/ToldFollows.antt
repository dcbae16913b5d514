-- What is told of the groups of a run, and how the history of its desk follows it.
use Rattle.std.proofs.Common.{◌≡◌, ◌⊎◌, ℕ, suc, ◌+◌, ◌<◌, ◌≤◌, Bool, true, false, List, [], ◌∷◌, length, inl, inr, refl, sym, ap, subst, ◌∙◌, arith}
use Rattle.std.specs.Prelude.{Option, Some, None}
use Rattle.mq_blocks.specs.Drive.{PortState}
use Rattle.mq_blocks.specs.Geometry.{meta_of, write_limit}
use Rattle.mq_blocks.specs.declared.geometry.Geometry.{Geometry}
use Rattle.mq_drive.specs.Steps.{PortFault}
use Rattle.mq_drive.specs.declared.port.Port.{Ghosts}
use Rattle.mq_drive.specs.declared.port.Ports.{Ports}
use Rattle.mq_journal.specs.Numbers.{Seat, Shared, Start}
use Rattle.mq_kv.specs.Opening.{IsOpenedOver}
use Rattle.mq_kv_buckets.specs.Store.{replies_on}
use Rattle.mq_kv_buckets.specs.declared.operation.KvOp.{KvOp}
use Rattle.mq_kv_buckets.specs.declared.operation.KvReply.{KvReply}
use Rattle.mq_kv_entries.specs.Group.{store_group}
use Rattle.mq_kv_entries.specs.declared.entry.KvEntry.{KvEntry}
use Rattle.mq_kv_run.specs.Groups.{AreTold, IsCommit, IsReached, IsTold, Point, Writes, committed, cut_off, next, read, too_large, whole, with_cut, without}
use Rattle.mq_kv_run.specs.Played.{ArePlayed, Calls, HasPlayedStore, is_off, cut_off as played_off, next as played_next, whole as played_whole}
use Rattle.mq_kv_run.specs.declared.storing.StoreEnd.{StoreEnd}
use Rattle.mq_kv_text.specs.declared.report.GroupReport.{GroupReport}
use Rattle.mq_kv_text.specs.declared.report.GroupReport.TheVariants.{Off, Synced}
use Rattle.mq_recover.specs.declared.standing.Standing.{Standing}
use Rattle.mq_sessions.specs.Calls.{call_by}
use Rattle.mq_tie.specs.Closed.{HasRun}
use Rattle.mq_tie.specs.declared.ended.Ended.{Ended}
use Rattle.mq_turns.specs.Desk.{fresh}
use Rattle.mq_turns.specs.Lists.{Each}
use Rattle.mq_kv_run.specs.Trails.{AreOfFirst, FollowsTold, IsNewest, IsPointAt}
use Rattle.mq_kv_run.proofs.ToldLists.{noted, one-history}
use Rattle.mq_kv_run.proofs.ToldPlayed.{Came, Drew, Later, Looked, came, came_drew, came_large, came_off, came_off_drew, came_off_saw, came_saw, ended, later-groups, later-on, later-rested}
use Rattle.mq_kv_run.proofs.ToldSteps.{Commits, commit-at, drawn-all, drawn-at, looked-at, waited-at}

module _ {P : Type 0} (G : Ghosts P) (state : P → PortState) (faults : P → List PortFault) (g : Geometry) (ports : Ports P) (s : Standing) (o : Start P KvEntry G) (last : Seat P KvEntry G) (r : Ended P KvEntry G)
    (opened : IsOpenedOver state faults g ports s o) (run : HasRun state faults store_group o (last ∷ []) r) where
  abbrev K : Shared P KvEntry G
  K = run.end.known

  abbrev base : ℕ
  base = K.opening.base

  abbrev At : List KvEntry → Point → Type 0
  At es p = IsPointAt state faults g K es p

  -- up to the number of the point all is known to be done
  abbrev Known : Point → Seat P KvEntry G → Type 0
  Known p v = (p.number ≤ v.reading.done) ⊎ (p.number ≡ base)

  known-on : (p : Point) (v w : Seat P KvEntry G) → v.reading.done ≤ w.reading.done → Known p v → Known p w
  known-on p v w goes (inl done) = inl (omega (arith, goes, done))
  known-on p v w goes (inr first) = inr first

  -- where the session stands, behind these entries of its own
  record Stands (es : List KvEntry) (p : Point) (v : Seat P KvEntry G) : Type 0 where
    drawn : v.drawn ≡ noted base es
    at : At es p
    own : AreOfFirst es

  -- ---- one group

  record Told (ops : List KvOp) (p : Point) (report : GroupReport) (new : Seat P KvEntry G) : Type 0 where
    es : List KvEntry
    q : Point
    told : IsTold g p ops report q
    stands : Stands es q new
    known : Known q new

  called-all : (calls : ℕ) (e : KvEntry) (v w : Seat P KvEntry G) → e.call ≡ calls → Calls state faults calls v w → w.drawn ≡ v.drawn → Each (λ d. d.1.call < e.call) w.drawn
  called-all calls e v w own is same =
      subst (λ (ds : List (ℕ × KvEntry)). Each (λ d. d.1.call < e.call) ds) (sym same)
      (subst (λ (n : ℕ). Each (λ d. d.1.call < n) v.drawn) (sym own) is.called.drawn)

  drew-at : (ops : List KvOp) (calls at : ℕ) (replies : List KvReply) (old new : Seat P KvEntry G) (es : List KvEntry) (p : Point) → Later state faults g new last → Stands es p old
      → (d : Drew g (call_by 0 calls true ops) at replies old new) → (c : Commits G state faults g ports s o last r opened run es d.entry p ops) × (at ≡ c.q.number) × Stands (d.entry ∷ es) c.q new
  drew-at ops calls at replies old new es p later st d =
      let x = drawn-at G state faults g ports s o last r opened run es at d.entry old new st.drawn d.drawn later in
      let c = commit-at G state faults g ports s o last r opened run x.newer es d.entry p ops x.is st.at d.is.ops d.few in
      let number : at ≡ suc (base + length es) = x.number in (
        c,
        number ∙ sym c.number,
        record {
          drawn = d.drawn ∙ (ap (λ (ds : List (ℕ × KvEntry)). (at, d.entry) ∷ ds) st.drawn ∙ ap (λ (n : ℕ). (n, d.entry) ∷ noted base es) number);
          at = c.at;
          own = (d.is.session, st.own);
        },
      )

  synced-drew : (ops : List KvOp) (calls at : ℕ) (replies : List KvReply) (old new : Seat P KvEntry G) (es : List KvEntry) (p : Point) → Later state faults g new last → Stands es p old
      → Drew g (call_by 0 calls true ops) at replies old new → at ≤ new.reading.done → Told ops p (Synced (record { replies = replies; at = at })) new
  synced-drew ops calls at replies old new es p later st d done =
      let x = drew-at ops calls at replies old new es p later st d in
      let number = x.1 in
      record {
        es = d.entry ∷ es;
        q = x.0.q;
        told = subst (λ (z : List KvReply). IsTold g p ops (Synced (record { replies = z; at = at })) x.0.q) (x.0.replies ∙ d.is.replies_are)
            (subst (λ (n : ℕ). IsTold g p ops (Synced (record { replies = replies_on (meta_of g) p.map ops; at = n })) x.0.q) (sym x.1) (committed x.0.q x.0.commit));
        stands = x.2;
        known = inl (omega (arith, number, done));
      }

  stands-on : (es : List KvEntry) (p : Point) (old new : Seat P KvEntry G) → new.drawn ≡ old.drawn → Stands es p old → Stands es p new
  stands-on es p old new same st = record { drawn = same ∙ st.drawn; at = st.at; own = st.own }

  looked : (ops : List KvOp) (calls at count : ℕ) (replies : List KvReply) (old new : Seat P KvEntry G) (es : List KvEntry) (p : Point) → Calls state faults calls old new → Later state faults g new last → Stands es p old
      → Looked (call_by 0 calls true ops) at replies count old new → (at ≡ p.number) × Writes g p.map ops count × (replies_on (meta_of g) p.map ops ≡ replies)
  looked ops calls at count replies old new es p is later st l =
      let x = looked-at G state faults g ports s o last r opened run es l.entry l.known old.read count p ops new (l.drawn ∙ st.drawn) l.read (called-all calls l.entry old new l.is.call is l.drawn) later st.at l.is.ops l.writes in
      (sym l.number ∙ x.0, x.1.writes, x.1.replies ∙ l.is.replies_are)

  synced-saw : (ops : List KvOp) (calls at : ℕ) (replies : List KvReply) (old new : Seat P KvEntry G) (es : List KvEntry) (p : Point) → Calls state faults calls old new → Later state faults g new last → Stands es p old
      → Looked (call_by 0 calls true ops) at replies 0 old new → at ≤ new.reading.done → Told ops p (Synced (record { replies = replies; at = at })) new
  synced-saw ops calls at replies old new es p is later st l done =
      let x = looked ops calls at 0 replies old new es p is later st l in
      let number = x.0 in
      record {
        es = es;
        q = p;
        told = subst (λ (z : List KvReply). IsTold g p ops (Synced (record { replies = z; at = at })) p) x.2
            (subst (λ (n : ℕ). IsTold g p ops (Synced (record { replies = replies_on (meta_of g) p.map ops; at = n })) p) (sym x.0) (read x.1));
        stands = stands-on es p old new l.drawn st;
        known = inl (omega (arith, number, done));
      }

  one-told : (ops : List KvOp) (calls : ℕ) (old new : Seat P KvEntry G) (report : GroupReport) (es : List KvEntry) (p : Point) → Calls state faults calls old new → Later state faults g new last → Stands es p old → Known p old
      → Came state faults g (call_by 0 calls true ops) old new report → is_off report ≡ false → Told ops p report new
  one-told ops calls old new _ es p is later st known (came_drew at replies d upto) on = synced-drew ops calls at replies old new es p later st d upto
  one-told ops calls old new _ es p is later st known (came_saw at replies l upto) on = synced-saw ops calls at replies old new es p is later st l upto
  one-told ops calls old new _ es p is later st known (came_large at replies count l more) on =
      let x = looked ops calls at count replies old new es p is later st l in
      record { es = es; q = p; told = too_large count x.1 more; stands = stands-on es p old new l.drawn st; known = known-on p old new is.goes.done known }
  one-told ops calls old new _ es p is later st known (came_off_drew at replies d) on = absurd (cc)
  one-told ops calls old new _ es p is later st known (came_off_saw at replies l) on = absurd (cc)
  one-told ops calls old new _ es p is later st known (came_off w) on = absurd (cc)

  -- ---- the groups

  -- the last of these entries is of the group that was cut off
  record Cut (es : List KvEntry) (end : Point) (off : Option (List KvOp)) (newest : Point) : Type 0 where
    ops : List KvOp
    off_is : off ≡ Some ops
    entry : KvEntry
    before : List KvEntry
    log : es ≡ entry ∷ before
    at : At before end
    commit : IsCommit g end ops newest
    behind : At es newest

  record Tells (groups : List (List KvOp)) (reports : List GroupReport) (p : Point) (new : Seat P KvEntry G) : Type 0 where
    off : Option (List KvOp)
    end : Point
    newest : Point
    told : AreTold g p groups reports off end
    es : List KvEntry
    drawn : new.drawn ≡ noted base es
    own : AreOfFirst es
    ends : ((newest ≡ end) × At es end) ⊎ Cut es end off newest
    known : Known end new

  -- the group that was cut off drew nothing
  off-rested : (ops : List KvOp) (groups : List (List KvOp)) (old new : Seat P KvEntry G) (es : List KvEntry) (p : Point) → old.reading.done ≤ new.reading.done → new.drawn ≡ old.drawn → Stands es p old → Known p old
      → (count : ℕ) → Writes g p.map ops count → count ≤ write_limit g → Tells (ops ∷ groups) (Off ∷ []) p new
  off-rested ops groups old new es p goes same st known count writes few =
      record { off = Some ops; end = p; newest = p; told = cut_off p ops groups count writes few; es = es; drawn = same ∙ st.drawn; own = st.own; ends = inl (refl, st.at); known = known-on p old new goes known }

  off-told : (ops : List KvOp) (groups : List (List KvOp)) (calls : ℕ) (old new : Seat P KvEntry G) (report : GroupReport) (es : List KvEntry) (p : Point) → report ≡ Off
      → old.opening ≡ Some K.opening → last.drawn ≡ new.drawn → Calls state faults calls old new → Later state faults g new last → Stands es p old → Known p old → Came state faults g (call_by 0 calls true ops) old new report → Tells (ops ∷ groups) (Off ∷ []) p new
  off-told ops groups calls old new _ es p off opened_so over is later st known (came_off_drew at replies d) =
      let x = drew-at ops calls at replies old new es p later st d in
      record {
        off = Some ops;
        end = p;
        newest = x.0.q;
        told = cut_off p ops groups x.0.commit.count x.0.commit.writes x.0.commit.few;
        es = d.entry ∷ es;
        drawn = x.2.drawn;
        own = x.2.own;
        ends = inr (record { ops = ops; off_is = refl; entry = d.entry; before = es; log = refl; at = st.at; commit = x.0.commit; behind = x.2.at });
        known = known-on p old new is.goes.done known;
      }
  off-told ops groups calls old new _ es p off opened_so over is later st known (came_off_saw at replies l) =
      let x = looked ops calls at 0 replies old new es p is later st l in
      off-rested ops groups old new es p is.goes.done l.drawn st known 0 x.1 (omega arith)
  off-told ops groups calls old new _ es p off opened_so over is later st known (came_off w) =
      let x = waited-at G state faults g ports s o last r opened run es p ops calls old new opened_so st.drawn over later st.at w in
      off-rested ops groups old new es p is.goes.done w.rests.drawn st known x.0 x.1 x.2
  off-told ops groups calls old new _ es p off opened_so over is later st known (came_drew at replies d upto) = absurd (cc)
  off-told ops groups calls old new _ es p off opened_so over is later st known (came_saw at replies l upto) = absurd (cc)
  off-told ops groups calls old new _ es p off opened_so over is later st known (came_large at replies count l more) = absurd (cc)

  all-told : (groups : List (List KvOp)) (reports : List GroupReport) (old new : Seat P KvEntry G) (es : List KvEntry) (p : Point) → ArePlayed state faults g 0 groups reports old new
      → old.opening ≡ Some K.opening → last.drawn ≡ new.drawn → Later state faults g new last → Stands es p old → Known p old → Tells groups reports p new
  all-told _ _ old _ es p played_whole opened_so over later st known =
      record { off = None; end = p; newest = p; told = whole p; es = es; drawn = st.drawn; own = st.own; ends = inl (refl, st.at); known = known }
  all-told _ _ old new es p (played_off {ops = ops} {groups = groups} played) opened_so over later st known =
      let c = came state faults g ops old new Off played in
      off-told ops groups c.0 old new Off es p refl opened_so over c.1 later st known c.2
  all-told _ _ old new es p (played_next {ops = ops} {groups = groups} {r = report} {reports = reports} {mid = mid} played on rest) opened_so over later st known =
      let c = came state faults g ops old mid report played in
      let here = one-told ops c.0 old mid report es p c.1 (later-on state faults g mid new last (later-groups state faults g groups reports mid new rest) later) st known c.2 on in
      let t = all-told groups reports mid new here.es here.q rest (c.1.opening ∙ opened_so) over later here.stands here.known in
      record {
        off = t.off;
        end = t.end;
        newest = t.newest;
        told = next p here.q t.end ops groups report reports t.off here.told t.told;
        es = t.es;
        drawn = t.drawn;
        own = t.own;
        ends = t.ends;
        known = t.known;
      }

-- ---- the whole

module _ {P : Type 0} (G : Ghosts P) (state : P → PortState) (faults : P → List PortFault) (g : Geometry) (ports : Ports P) (s : Standing) (o : Start P KvEntry G) (groups : List (List KvOp)) (finish : Bool) (e : StoreEnd P)
    (opened : IsOpenedOver state faults g ports s o) (run : HasPlayedStore G state faults g o 0 (fresh o 0) groups finish e) where
  abbrev here-known : Shared P KvEntry G
  here-known = run.closed.end.known

  pub record Follows (first : Point) : Type 0 where
    pub off : Option (List KvOp)
    pub last : Point
    pub newest : Point
    pub told : AreTold g first groups e.reports.items off last
    pub drawn : IsReached g last off newest
    pub follows : FollowsTold state faults g here-known run.last last off newest

  reached : (es : List KvEntry) (end newest : Point) (off : Option (List KvOp)) → ((newest ≡ end) × IsPointAt state faults g here-known es end) ⊎ Cut G state faults g ports s o run.last run.left opened run.closed es end off newest → IsReached g end off newest
  reached es end newest off (inl is) = subst (λ (p : Point). IsReached g end off p) (sym is.0) (without off)
  reached es end newest off (inr is) = subst (λ (x : Option (List KvOp)). IsReached g end x newest) (sym is.off_is) (with_cut is.ops newest is.commit)

  newest-is : (es : List KvEntry) (end newest : Point) (off : Option (List KvOp)) → es ≡ here-known.log → ((newest ≡ end) × IsPointAt state faults g here-known es end) ⊎ Cut G state faults g ports s o run.last run.left opened run.closed es end off newest → IsNewest state faults g here-known end off newest
  newest-is es end newest off all (inl is) = inl (is.0, subst (λ (xs : List KvEntry). IsPointAt state faults g here-known xs end) all is.1)
  newest-is es end newest off all (inr is) = inr (record {
    ops = is.ops;
    off_is = is.off_is;
    entry = is.entry;
    before = is.before;
    log = sym all ∙ is.log;
    at = is.at;
    commit = is.commit;
    behind = subst (λ (xs : List KvEntry). IsPointAt state faults g here-known xs newest) all is.behind;
  })

  pub follows : (first : Point) → IsPointAt state faults g here-known [] first → Follows first
  follows first at =
      let rests = ended state faults g finish e.finished run.between run.last run.ended in
      let later = later-rested state faults g run.between run.last rests.0 rests.1 rests.2 in
      let number = at.number in
      let t = all-told G state faults g ports s o run.last run.left opened run.closed groups e.reports.items (fresh o 0) run.between [] first run.played
      (ap (λ (x : Start P KvEntry G). Some x) (sym run.closed.end.opening)) rests.0.drawn later
      (record { drawn = refl; at = at; own = tt }) (inr (omega (arith, number))) in
      let all : t.es ≡ here-known.log = one-history here-known.opening.base t.es here-known.log (sym t.drawn ∙ (sym rests.0.drawn ∙ drawn-all G state faults g ports s o run.last run.left opened run.closed)) in
      record {
        off = t.off;
        last = t.end;
        newest = t.newest;
        told = t.told;
        drawn = reached t.es t.end t.newest t.off t.ends;
        follows = record {
          own = subst (λ (xs : List KvEntry). AreOfFirst xs) all t.own;
          newest_is = newest-is t.es t.end t.newest t.off all t.ends;
          done = known-on G state faults g ports s o run.last run.left opened run.closed t.end run.between run.last rests.2 t.known;
        };
      }
