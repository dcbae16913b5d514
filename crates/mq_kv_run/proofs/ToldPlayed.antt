-- What a group that was played left of its session: what it drew, and what it read.
use Rattle.std.proofs.Common.{◌≡◌, ◌⊎◌, ℕ, ◌<◌, ◌≤◌, Bool, true, false, List, [], ◌∷◌, ◌++◌, length, inl, inr, refl, sym, ap, subst, ◌∙◌, arith, append_assoc}
use Rattle.std.specs.Prelude.{Option, Some, None, Result, Ok, Err}
use Rattle.mq_blocks.specs.Drive.{PortState}
use Rattle.mq_blocks.specs.Geometry.{write_limit}
use Rattle.mq_blocks.specs.declared.geometry.Geometry.{Geometry}
use Rattle.mq_journal.specs.Raised.{HasRefused}
use Rattle.mq_journal.specs.Steps.{IsKnownFrom}
use Rattle.mq_journal.specs.declared.refusal.CheckpointRefusal.{CheckpointRefusal}
use Rattle.mq_journal.specs.declared.refusal.CheckpointRefusal.TheVariants as checkpoint
use Rattle.mq_drive.specs.Steps.{PortFault}
use Rattle.mq_drive.specs.declared.port.Port.{Ghosts}
use Rattle.mq_journal.specs.Numbers.{Seat, Shared}
use Rattle.mq_kv_buckets.specs.declared.operation.KvOp.{KvOp}
use Rattle.mq_kv_buckets.specs.declared.operation.KvReply.{KvReply}
use Rattle.mq_kv_entries.specs.Calls.{IsOfCall, store_calls}
use Rattle.mq_kv_entries.specs.Entries.{written_by}
use Rattle.mq_kv_entries.specs.Group.{store_group}
use Rattle.mq_kv_entries.specs.declared.entry.KvEntry.{KvEntry}
use Rattle.mq_kv_entries.specs.declared.executor.KvMade.{KvMade}
use Rattle.mq_kv_run.specs.Played.{ArePlayed, Calls, EndsBy, IsPlayed, cut_off as played_off, done as played_done, large as played_large, next as played_next, refused as played_refused, whole as played_whole}
use Rattle.mq_kv_text.specs.declared.report.GroupReport.{GroupReport}
use Rattle.mq_kv_text.specs.declared.report.GroupReport.TheVariants.{Large, Off, Synced}
use Rattle.mq_queue_side.specs.declared.answers.Cause.{Cause}
use Rattle.mq_sessions.specs.Attempts.{Begins, HasActed, IsDrawable, MadeRoom, again, at_once}
use Rattle.mq_sessions.specs.Calls.{Call, call_by}
use Rattle.mq_sessions.specs.Refusing.{IsRefused, IsTurnedDown, before, cut, memory, no_room, too_large, turned_down}
use Rattle.mq_sessions.specs.Synchronizing.{IsDurable, IsNotDurable, after as refused_after, before as refused_before}
use Rattle.mq_sessions.specs.declared.answers.RefusalCause.{RefusalCause}
use Rattle.mq_sessions.specs.declared.answers.RefusalCause.TheVariants.{Drive, OutOfMemory, TooLarge}
use Rattle.mq_turns.specs.Lists.{Each}
use Rattle.mq_turns.specs.Meaning.{newest}
use Rattle.mq_turns.proofs.Lists.{each_append, each_map}
use Rattle.mq_kv_run.proofs.ToldLists.{each-right}

module _ {P : Type 0} {G : Ghosts P} where
  -- it drew an entry at the number
  pub record Drew (g : Geometry) (c : Call KvOp) (at : ℕ) (replies : List KvReply) (old new : Seat P KvEntry G) : Type 0 where
    pub entry : KvEntry
    pub is : IsOfCall c replies entry
    pub drawn : new.drawn ≡ (at, entry) ∷ old.drawn
    pub read : new.read ≡ old.read
    pub few : length (written_by entry) ≤ write_limit g

  -- it read one there that writes so many blocks
  pub record Looked (c : Call KvOp) (at : ℕ) (replies : List KvReply) (count : ℕ) (old new : Seat P KvEntry G) : Type 0 where
    pub entry : KvEntry
    pub is : IsOfCall c replies entry
    pub known : Shared P KvEntry G
    pub number : newest known ≡ at
    pub drawn : new.drawn ≡ old.drawn
    pub read : new.read ≡ (entry, known) ∷ old.read
    pub writes : count ≡ length (written_by entry)

  pub record Rested (old new : Seat P KvEntry G) : Type 0 where
    pub drawn : new.drawn ≡ old.drawn
    pub read : new.read ≡ old.read

  drew-on : (g : Geometry) (c : Call KvOp) (at : ℕ) (replies : List KvReply) (old mid new : Seat P KvEntry G) → Rested old mid → Drew g c at replies mid new → Drew g c at replies old new
  drew-on g c at replies old mid new r d = record {
    entry = d.entry;
    is = d.is;
    drawn = d.drawn ∙ ap (λ (ds : List (ℕ × KvEntry)). (at, d.entry) ∷ ds) r.drawn;
    read = d.read ∙ r.read;
    few = d.few;
  }

  drew-rest : (g : Geometry) (c : Call KvOp) (at : ℕ) (replies : List KvReply) (old mid new : Seat P KvEntry G) → Drew g c at replies old mid → Rested mid new → Drew g c at replies old new
  drew-rest g c at replies old mid new d r = record { entry = d.entry; is = d.is; drawn = r.drawn ∙ d.drawn; read = r.read ∙ d.read; few = d.few }

  looked-on : (c : Call KvOp) (at : ℕ) (replies : List KvReply) (count : ℕ) (old mid new : Seat P KvEntry G) → Rested old mid → Looked c at replies count mid new → Looked c at replies count old new
  looked-on c at replies count old mid new r l = record {
    entry = l.entry;
    is = l.is;
    known = l.known;
    number = l.number;
    drawn = l.drawn ∙ r.drawn;
    read = l.read ∙ ap (λ (rs : List (KvEntry × Shared P KvEntry G)). (l.entry, l.known) ∷ rs) r.read;
    writes = l.writes;
  }

  looked-rest : (c : Call KvOp) (at : ℕ) (replies : List KvReply) (count : ℕ) (old mid new : Seat P KvEntry G) → Looked c at replies count old mid → Rested mid new → Looked c at replies count old new
  looked-rest c at replies count old mid new l r = record { entry = l.entry; is = l.is; known = l.known; number = l.number; drawn = r.drawn ∙ l.drawn; read = r.read ∙ l.read; writes = l.writes }

module _ {P : Type 0} {G : Ghosts P} (state : P → PortState) (faults : P → List PortFault) (g : Geometry) where
  -- It drew and read nothing. By what was known at one moment since then, all of which it has seen, its group was to
  -- be drawn.
  pub record Waited (c : Call KvOp) (old new : Seat P KvEntry G) : Type 0 where
    pub rests : Rested old new
    pub known : Shared P KvEntry G
    pub from : IsKnownFrom state faults store_group old known
    pub seen : newest known ≤ new.seen
    pub done : KvMade
    pub is : IsDrawable state faults store_group store_calls g c known done

  -- what a refusal left, by its cause
  abbrev Left : Call KvOp → RefusalCause → Seat P KvEntry G → Seat P KvEntry G → Type 0
  Left c OutOfMemory old new = Rested old new
  Left c (TooLarge count limit) old new = (at : ℕ) × (replies : List KvReply) × Looked c at replies count old new × (write_limit g < count)
  Left c (Drive why) old new =
      ((at : ℕ) × (replies : List KvReply) × Drew g c at replies old new)
      ⊎ (((at : ℕ) × (replies : List KvReply) × Looked c at replies 0 old new) ⊎ Waited c old new)

  -- what a group came to
  pub data Came (c : Call KvOp) (old new : Seat P KvEntry G) : GroupReport → Type 0 where
    came_drew : (at : ℕ) (replies : List KvReply) → Drew g c at replies old new → at ≤ new.reading.done
        → Came c old new (Synced (record { replies = replies; at = at }))
    came_saw : (at : ℕ) (replies : List KvReply) → Looked c at replies 0 old new → at ≤ new.reading.done
        → Came c old new (Synced (record { replies = replies; at = at }))
    came_large : (at : ℕ) (replies : List KvReply) (count : ℕ) → Looked c at replies count old new → write_limit g < count
        → Came c old new (Large count)
    came_off_drew : (at : ℕ) (replies : List KvReply) → Drew g c at replies old new → Came c old new Off
    came_off_saw : (at : ℕ) (replies : List KvReply) → Looked c at replies 0 old new → Came c old new Off
    came_off : Waited c old new → Came c old new Off

  -- ---- a checkpoint for room, and the group once more

  made-rests : (c : Call KvOp) (old from : Seat P KvEntry G) → MadeRoom state faults store_group store_calls g c old from → Rested old from
  made-rests c old from made = record { drawn = made.raises.drawn ∙ made.full.keeps.rests.drawn; read = made.raises.read_before ∙ made.full.keeps.rests.read }

  begun : (c : Call KvOp) (old from : Seat P KvEntry G) → Begins state faults store_group store_calls g c old from → Rested old from
  begun c old _ at_once = record { drawn = refl; read = refl }
  begun c old from (again made) = made-rests c old from made

  -- Before the checkpoint the group was to be drawn already, by what its plan was made of.
  made-waited : (c : Call KvOp) (old from new : Seat P KvEntry G) → MadeRoom state faults store_group store_calls g c old from → Waited c from new → Waited c old new
  made-waited c old from new made w =
      let r = made-rests c old from made in
      let known_then = made.full.seen in
      let raised = made.raises.later in
      let since = w.from.seen in
      let now = w.seen in
      record {
        rests = record { drawn = w.rests.drawn ∙ r.drawn; read = w.rests.read ∙ r.read };
        known = made.full.known;
        from = made.full.lacks.from;
        seen = omega (arith, known_then, raised, since, now);
        done = made.full.lacks.placed.done;
        is = made.full.lacks.placed.is;
      }

  made-left : (c : Call KvOp) (why : RefusalCause) (old from new : Seat P KvEntry G) → MadeRoom state faults store_group store_calls g c old from → Left c why from new → Left c why old new
  made-left c OutOfMemory old from new made l = let r = made-rests c old from made in record { drawn = l.drawn ∙ r.drawn; read = l.read ∙ r.read }
  made-left c (TooLarge count limit) old from new made (at, replies, l, more) = (at, replies, looked-on c at replies count old from new (made-rests c old from made) l, more)
  made-left c (Drive why) old from new made (inl (at, replies, d)) = inl (at, replies, drew-on g c at replies old from new (made-rests c old from made) d)
  made-left c (Drive why) old from new made (inr (inl (at, replies, l))) = inr (inl (at, replies, looked-on c at replies 0 old from new (made-rests c old from made) l))
  made-left c (Drive why) old from new made (inr (inr w)) = inr (inr (made-waited c old from new made w))

  acted-drew : (c : Call KvOp) (at : ℕ) (replies : List KvReply) (old new : Seat P KvEntry G) → HasActed state faults store_group store_calls g c at true replies old new → Drew g c at replies old new
  acted-drew c at replies old new a =
      drew-on g c at replies old a.from new (begun c old a.from a.begins)
      (record { entry = a.acts.entry; is = a.acts.is; drawn = a.acts.drawn; read = a.acts.read; few = a.acts.few })

  acted-saw : (c : Call KvOp) (at : ℕ) (replies : List KvReply) (old new : Seat P KvEntry G) → HasActed state faults store_group store_calls g c at false replies old new → Looked c at replies 0 old new
  acted-saw c at replies old new a =
      looked-on c at replies 0 old a.from new (begun c old a.from a.begins)
      (record { entry = a.acts.entry; is = a.acts.reads.is; known = a.acts.reads.known; number = a.acts.reads.number; drawn = a.acts.reads.drawn; read = a.acts.reads.read; writes = sym (ap (λ ws. length ws) a.acts.writes) })

  -- ---- groups that were refused

  turned : (c : Call KvOp) (old new : Seat P KvEntry G) (why : RefusalCause) (drawn : Option ℕ) → IsTurnedDown state faults store_group store_calls g c old new why drawn → Left c why old new
  turned c old new _ _ (memory keeps) = record { drawn = keeps.rests.drawn; read = keeps.rests.read }
  turned c old new _ _ (too_large {count = count} {limit = limit} is) =
      let same = is.limit_is in
      let above = is.above in
      (is.at, is.replies, record { entry = is.entry; is = is.reads.is; known = is.reads.known; number = is.reads.number; drawn = is.reads.drawn; read = is.reads.read; writes = is.count_is }, omega (arith, same, above))
  turned c old new _ _ (before refuses) = inr (inr (record {
    rests = record { drawn = refuses.rests.drawn; read = refuses.rests.read };
    known = refuses.known;
    from = refuses.meets.from;
    seen = refuses.seen;
    done = refuses.meets.done;
    is = refuses.meets.drawable;
  }))
  turned c old new _ _ (cut {at = at} is) =
      inl (at, is.replies, record { entry = is.commits.entry; is = is.commits.is; drawn = is.commits.drawn; read = is.commits.read; few = is.commits.few })

  checkpoint-rests : (why : CheckpointRefusal) (mid new : Seat P KvEntry G) → HasRefused state faults store_group why mid new → Rested mid new
  checkpoint-rests checkpoint.OutOfMemory mid new (inl m) = record { drawn = m.drawn; read = m.read }
  checkpoint-rests checkpoint.OutOfMemory mid new (inr (front, m)) = record { drawn = m.drawn; read = m.read }
  checkpoint-rests (checkpoint.Drive why) mid new (inl m) = record { drawn = m.moves.drawn; read = m.moves.read }
  checkpoint-rests (checkpoint.Drive why) mid new (inr (front, m)) = record { drawn = m.moves.drawn; read = m.moves.read }

  checkpoint-seen : (why : CheckpointRefusal) (mid new : Seat P KvEntry G) → HasRefused state faults store_group why mid new → mid.seen ≤ new.seen
  checkpoint-seen checkpoint.OutOfMemory mid new (inl m) = m.seen
  checkpoint-seen checkpoint.OutOfMemory mid new (inr (front, m)) = m.seen
  checkpoint-seen (checkpoint.Drive why) mid new (inl m) = m.moves.seen
  checkpoint-seen (checkpoint.Drive why) mid new (inr (front, m)) = m.moves.seen

  refused : (c : Call KvOp) (old new : Seat P KvEntry G) (why : RefusalCause) (drawn : Option ℕ) → IsRefused state faults store_group store_calls g c old new why drawn → Left c why old new
  refused c old new why drawn (turned_down at_once down) = turned c old new why drawn down
  refused c old new why drawn (turned_down {from = from} (again made) down) = made-left c why old from new made (turned c from new why drawn down)
  refused c old new _ _ (no_room checkpoint.OutOfMemory {between = mid} full has) =
      let r = checkpoint-rests checkpoint.OutOfMemory mid new has in
      record { drawn = r.drawn ∙ full.keeps.rests.drawn; read = r.read ∙ full.keeps.rests.read }
  refused c old new _ _ (no_room (checkpoint.Drive why) {between = mid} full has) =
      let r = checkpoint-rests (checkpoint.Drive why) mid new has in
      let known_then = full.seen in
      let later = checkpoint-seen (checkpoint.Drive why) mid new has in
      inr (inr (record {
        rests = record { drawn = r.drawn ∙ full.keeps.rests.drawn; read = r.read ∙ full.keeps.rests.read };
        known = full.known;
        from = full.lacks.from;
        seen = omega (arith, known_then, later);
        done = full.lacks.placed.done;
        is = full.lacks.placed.is;
      }))

  after-done : (c : Call KvOp) (at : ℕ) (drew : Bool) (replies : List KvReply) (why : Cause) (old mid new : Seat P KvEntry G) → HasActed state faults store_group store_calls g c at drew replies old mid → Rested mid new → Left c (Drive why) old new
  after-done c at true replies why old mid new acted r = inl (at, replies, drew-rest g c at replies old mid new (acted-drew c at replies old mid acted) r)
  after-done c at false replies why old mid new acted r = inr (inl (at, replies, looked-rest c at replies 0 old mid new (acted-saw c at replies old mid acted) r))

  not-durable : (c : Call KvOp) (old new : Seat P KvEntry G) (why : RefusalCause) (drawn : Option ℕ) → IsNotDurable state faults store_group store_calls g c old new why drawn → Left c why old new
  not-durable c old new why drawn (refused_before r) = refused c old new why drawn r
  not-durable c old new _ drawn (refused_after {cause = why} w) =
      after-done c w.at w.drew w.replies why old w.between new w.acted
      (record { drawn = ap (λ (v : Seat P KvEntry G). v.drawn) w.refused.is; read = ap (λ (v : Seat P KvEntry G). v.read) w.refused.is })

  -- ---- a group that was played

  answered : (c : Call KvOp) (at : ℕ) (drew : Bool) (replies : List KvReply) (old new : Seat P KvEntry G) → IsDurable state faults store_group store_calls g c at drew replies old new → Came c old new (Synced (record { replies = replies; at = at }))
  answered c at true replies old new is = came_drew at replies (acted-drew c at replies old new is.acted) is.done
  answered c at false replies old new is = came_saw at replies (acted-saw c at replies old new is.acted) is.done

  off : (c : Call KvOp) (why : Cause) (old new : Seat P KvEntry G) → Left c (Drive why) old new → Came c old new Off
  off c why old new (inl (at, replies, d)) = came_off_drew at replies d
  off c why old new (inr (inl (at, replies, l))) = came_off_saw at replies l
  off c why old new (inr (inr w)) = came_off w

  too-much : (c : Call KvOp) (count limit : ℕ) (old new : Seat P KvEntry G) → Left c (TooLarge count limit) old new → Came c old new (Large count)
  too-much c count limit old new (at, replies, l, more) = came_large at replies count l more

  -- with the number of its call
  pub came : (ops : List KvOp) (old new : Seat P KvEntry G) (r : GroupReport) → IsPlayed state faults g 0 ops old new r → (calls : ℕ) × Calls state faults calls old new × Came (call_by 0 calls true ops) old new r
  came ops old new _ (played_done calls at drew replies is a) = (calls, is, answered (call_by 0 calls true ops) at drew replies old new a)
  came ops old new _ (played_large calls count limit drawn is d) = (calls, is, too-much (call_by 0 calls true ops) count limit old new (not-durable (call_by 0 calls true ops) old new (TooLarge count limit) drawn d))
  came ops old new _ (played_refused calls why drawn is d) = (calls, is, off (call_by 0 calls true ops) why old new (not-durable (call_by 0 calls true ops) old new (Drive why) drawn d))

  -- ---- what comes later

  -- What the session drew later is of later calls than what it had read before, and what it knows of numbers has not
  -- fallen.
  pub record Later (old new : Seat P KvEntry G) : Type 0 where
    pub drew : List (ℕ × KvEntry)
    pub drawn : new.drawn ≡ drew ++ old.drawn
    pub looked : List (KvEntry × Shared P KvEntry G)
    pub read : new.read ≡ looked ++ old.read
    pub above : Each (λ d. Each (λ r. r.0.call < d.1.call) old.read) drew
    pub seen : old.seen ≤ new.seen
    pub done : old.reading.done ≤ new.reading.done

  pub later-rested : (old new : Seat P KvEntry G) → Rested old new → old.seen ≤ new.seen → old.reading.done ≤ new.reading.done → Later old new
  later-rested old new r saw goes = record { drew = []; drawn = r.drawn; looked = []; read = r.read; above = tt; seen = saw; done = goes }

  pub later-on : (a b c : Seat P KvEntry G) → Later a b → Later b c → Later a c
  later-on a b c m n = record {
    drew = n.drew ++ m.drew;
    drawn = n.drawn ∙ (ap (λ (ds : List (ℕ × KvEntry)). n.drew ++ ds) m.drawn ∙ sym (append_assoc n.drew m.drew a.drawn));
    looked = n.looked ++ m.looked;
    read = n.read ∙ (ap (λ (rs : List (KvEntry × Shared P KvEntry G)). n.looked ++ rs) m.read ∙ sym (append_assoc n.looked m.looked a.read));
    above = each_append (λ (d : ℕ × KvEntry). Each (λ (r : KvEntry × Shared P KvEntry G). r.0.call < d.1.call) a.read) n.drew m.drew
        (each_map (λ (d : ℕ × KvEntry). Each (λ (r : KvEntry × Shared P KvEntry G). r.0.call < d.1.call) b.read) (λ (d : ℕ × KvEntry). Each (λ (r : KvEntry × Shared P KvEntry G). r.0.call < d.1.call) a.read)
        (λ d h. each-right (λ (r : KvEntry × Shared P KvEntry G). r.0.call < d.1.call) m.looked a.read (subst (Each (λ (r : KvEntry × Shared P KvEntry G). r.0.call < d.1.call)) m.read h)) n.drew n.above)
        m.above;
    seen = let x = m.seen in let y = n.seen in omega arith;
    done = let x = m.done in let y = n.done in omega arith;
  }

  later-drew : (ops : List KvOp) (calls at : ℕ) (replies : List KvReply) (old new : Seat P KvEntry G) → Calls state faults calls old new → Drew g (call_by 0 calls true ops) at replies old new → Later old new
  later-drew ops calls at replies old new is d = record {
    drew = (at, d.entry) ∷ [];
    drawn = d.drawn;
    looked = [];
    read = d.read;
    above = (subst (λ (n : ℕ). Each (λ (r : KvEntry × Shared P KvEntry G). r.0.call < n) old.read) (sym d.is.call) is.called.read, tt);
    seen = is.goes.seen;
    done = is.goes.done;
  }

  later-looked : (ops : List KvOp) (calls at : ℕ) (replies : List KvReply) (count : ℕ) (old new : Seat P KvEntry G) → Calls state faults calls old new → Looked (call_by 0 calls true ops) at replies count old new → Later old new
  later-looked ops calls at replies count old new is l = record { drew = []; drawn = l.drawn; looked = (l.entry, l.known) ∷ []; read = l.read; above = tt; seen = is.goes.seen; done = is.goes.done }

  pub later-came : (ops : List KvOp) (calls : ℕ) (old new : Seat P KvEntry G) (r : GroupReport) → Calls state faults calls old new → Came (call_by 0 calls true ops) old new r → Later old new
  later-came ops calls old new _ is (came_drew at replies d upto) = later-drew ops calls at replies old new is d
  later-came ops calls old new _ is (came_saw at replies l upto) = later-looked ops calls at replies 0 old new is l
  later-came ops calls old new _ is (came_large at replies count l more) = later-looked ops calls at replies count old new is l
  later-came ops calls old new _ is (came_off_drew at replies d) = later-drew ops calls at replies old new is d
  later-came ops calls old new _ is (came_off_saw at replies l) = later-looked ops calls at replies 0 old new is l
  later-came ops calls old new _ is (came_off w) = later-rested old new w.rests is.goes.seen is.goes.done

  pub later-played : (ops : List KvOp) (old new : Seat P KvEntry G) (r : GroupReport) → IsPlayed state faults g 0 ops old new r → Later old new
  later-played ops old new r played = let c = came ops old new r played in later-came ops c.0 old new r c.1 c.2

  pub later-groups : (groups : List (List KvOp)) (reports : List GroupReport) (old new : Seat P KvEntry G) → ArePlayed state faults g 0 groups reports old new → Later old new
  later-groups _ _ old _ played_whole = later-rested old old (record { drawn = refl; read = refl }) (omega arith) (omega arith)
  later-groups _ _ old new (played_off {ops = ops} played) = later-played ops old new Off played
  later-groups _ _ old new (played_next {ops = ops} {groups = groups} {r = r} {reports = reports} {mid = mid} played on rest) =
      later-on old mid new (later-played ops old mid r played) (later-groups groups reports mid new rest)

  -- ---- the end

  checkpoint-done : (why : CheckpointRefusal) (mid new : Seat P KvEntry G) → HasRefused state faults store_group why mid new → mid.reading.done ≤ new.reading.done
  checkpoint-done checkpoint.OutOfMemory mid new (inl m) = m.done
  checkpoint-done checkpoint.OutOfMemory mid new (inr (front, m)) = m.done
  checkpoint-done (checkpoint.Drive why) mid new (inl m) = m.moves.done
  checkpoint-done (checkpoint.Drive why) mid new (inr (front, m)) = m.moves.done

  -- the checkpoint at the end draws and reads nothing
  pub ended : (finish : Bool) (answer : Option (Result ℕ CheckpointRefusal)) (old new : Seat P KvEntry G) → EndsBy state faults finish answer old new → Rested old new × (old.seen ≤ new.seen) × (old.reading.done ≤ new.reading.done)
  ended false None old new is = (
    record { drawn = ap (λ (v : Seat P KvEntry G). v.drawn) is; read = ap (λ (v : Seat P KvEntry G). v.read) is },
    subst (λ (v : Seat P KvEntry G). old.seen ≤ v.seen) (sym is) (omega arith),
    subst (λ (v : Seat P KvEntry G). old.reading.done ≤ v.reading.done) (sym is) (omega arith),
  )
  ended false (Some answer) old new is = absurd is
  ended true None old new is = absurd is
  ended true (Some (Ok base)) old new is = (record { drawn = is.drawn; read = is.read_before }, is.later, is.done)
  ended true (Some (Err why)) old new is = (checkpoint-rests why old new is, checkpoint-seen why old new is, checkpoint-done why old new is)
