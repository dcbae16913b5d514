-- A session that holds the pages of a group and the side of its queue.
use Rattle.std.proofs.Common.{◌≡◌, ℕ, ◌+◌, ◌<◌, ◌≤◌, List, ◌∷◌, length, sym, ap, subst, ◌∙◌, arith}
use Rattle.std.specs.Prelude.{None}
use Rattle.mq_desk_laws.specs.Groups.{GroupView}
use Rattle.mq_blocks.specs.Drive.{PortState}
use Rattle.mq_drive.specs.Steps.{PortFault}
use Rattle.mq_drive.specs.declared.port.Port.{Ghosts}
use Rattle.mq_sessions.specs.declared.reads.Reads.{Reads as WordsRead}
use Rattle.mq_journal.specs.Laws.{HaveSameParts}
use Rattle.mq_journal.specs.Numbers.{HoldsSide, Seat, Shared, Start}
use Rattle.mq_journal.proofs.LawsKeeping.{prepared_stays, stays_at_reads}
use Rattle.mq_pages.specs.Held.{Cells}
use Rattle.mq_pages.specs.declared.page.PageCell.{PageCell}
use Rattle.mq_queue_side.specs.declared.root.Root.{Root}
use Rattle.mq_queue_side.specs.declared.side.QueueSide.{QueueSide}
use Rattle.mq_turns.specs.Chairs.{holding}
use Rattle.mq_turns.specs.Desk.{Sees, after_look, slot_of}
use Rattle.mq_turns.specs.Lists.{tick, times}
use Rattle.mq_turns.specs.Meaning.{Meaning}
use Rattle.mq_turns.specs.Swept.{AfterFront}
use Rattle.mq_turns.specs.Words.{after_base}
use Rattle.mq_turns.specs.declared.rule.MarkAnswer.TheVariants.{Base, Front}
use Rattle.mq_turns.specs.declared.rule.ChairView.{ChairView}
use Rattle.mq_turns.specs.declared.rule.Known.{Known}
use Rattle.mq_turns.specs.declared.turn.Turn.TheVariants.{Side}
use Rattle.mq_sessions.specs.Committing.{HasRead, HoldsCommit, ReadsWords, ShowsObstacle}
use Rattle.mq_sessions.specs.Pages.{HoldsOnlyPages, HoldsPages, IsSeen}
use Rattle.mq_journal.specs.Machine.{journal}
use Rattle.mq_sessions.specs.declared.committing.Obstacle.{Obstacle}
use Rattle.mq_sessions.specs.declared.committing.Obstacle.TheVariants as obstacle
use Rattle.mq_turns.proofs.DeskSeen.{sees_look}
use Rattle.mq_sessions.proofs.PagesHolding.{pages-beside-all, sees-taken}
use Rattle.mq_sessions.proofs.PagesBeside.{pages-same, side-apart}

module _ {Q R E : Type 0} (μ : Meaning PageCell Q R E) where
  -- ---- a front and a base were read

  pub sees-base : (b : ℕ) (K : Known PageCell Q R E) (v : ChairView PageCell Q R E) → K.word ≡ b → Sees μ v K → Sees μ (after_base b v) K
  sees-base b K v is s = record {
    opening = s.opening;
    ok = s.ok;
    few = s.few;
    held = s.held;
    seen = s.seen;
    drew = s.drew;
    marked = s.marked;
    reader = record {
      low = s.reader.low;
      swept = s.reader.swept;
      last = s.reader.last;
      done = s.reader.done;
      base = subst (λ n. n ≤ K.word) is (omega arith);
      pages = s.reader.pages;
    };
    own = s.own;
  }

  -- ---- a look

  pub sees-looked : (K : Known PageCell Q R E) (v : ChairView PageCell Q R E) → Sees μ v K → Sees μ (after_look None K v) K
  sees-looked K v s = record { opening = s.opening; ok = s.ok; few = s.few; held = s.held; seen = omega arith; drew = s.drew; marked = s.marked; reader = s.reader; own = s.own }

module _ {P E : Type 0} {G : Ghosts P} (state : P → PortState) (faults : P → List PortFault) (group : GroupView E) where
  abbrev μ : Meaning PageCell (QueueSide P E G) (Root P G) E
  μ = journal state faults group

  -- ---- a front and a base were read

  words-front : (o : Start P E G) (front : ℕ) (v w : Seat P E G) → AfterFront μ o front v w → ReadsWords v w
  words-front o front v w a =
      let s = a.marks.sweep in
      let is : w ≡ record v { seen = s.counter; reading = record s.reading { answers = Front front ∷ s.reading.answers } } =
      a.is ∙ ap (λ (x : Seat P E G). record x { reading = record x.reading { answers = Front front ∷ x.reading.answers } }) s.is in
      record {
        parts = ap (λ (x : Seat P E G). x.parts) is;
        opening = ap (λ (x : Seat P E G). x.opening) is;
        session = ap (λ (x : Seat P E G). x.session) is;
        held = ap (λ (x : Seat P E G). x.held) is;
        drawn = ap (λ (x : Seat P E G). x.drawn) is;
        read = ap (λ (x : Seat P E G). x.read) is;
        seen = (let e : w.seen ≡ s.counter = ap (λ (x : Seat P E G). x.seen) is in let b = s.below.0 in omega arith);
        done = (let e : w.reading.done ≡ s.reading.done = ap (λ (x : Seat P E G). x.reading.done) is in let k = s.kept.0 in omega arith);
        charged = ap (λ (x : Seat P E G). x.reading.charged) is ∙ s.kept.4;
      }

  front-read : (o : Start P E G) (front : ℕ) (v w : Seat P E G) → 0 < length o.sides → AfterFront μ o front v w → front ≤ w.reading.done
  front-read o front v w some a =
      let s = a.marks.sweep in
      let e : w.reading.done ≡ a.swept.reading.done = ap (λ (x : Seat P E G). x.reading.done) a.is in
      let f : a.swept.reading.done ≡ s.reading.done = ap (λ (x : Seat P E G). x.reading.done) s.is in
      let low = s.passes.ended some (omega arith) in
      omega arith

  front-answered : (o : Start P E G) (front : ℕ) (v w : Seat P E G) → AfterFront μ o front v w → w.reading.answers ≡ Front front ∷ v.reading.answers
  front-answered o front v w a =
      let s = a.marks.sweep in
      ap (λ (x : Seat P E G). x.reading.answers) a.is
      ∙ ap (λ (x : Seat P E G). Front front ∷ x.reading.answers) s.is
      ∙ ap (λ l. Front front ∷ l) s.kept.3

  front-base : (o : Start P E G) (front : ℕ) (v w : Seat P E G) → AfterFront μ o front v w → w.reading.base ≡ v.reading.base
  front-base o front v w a =
      let s = a.marks.sweep in
      ap (λ (x : Seat P E G). x.reading.base) a.is
      ∙ ap (λ (x : Seat P E G). x.reading.base) s.is
      ∙ s.kept.1

  words-then : (a b c : Seat P E G) → ReadsWords a b → ReadsWords b c → ReadsWords a c
  words-then a b c x y = record {
    parts = y.parts ∙ x.parts;
    opening = y.opening ∙ x.opening;
    session = y.session ∙ x.session;
    held = y.held ∙ x.held;
    drawn = y.drawn ∙ x.drawn;
    read = y.read ∙ x.read;
    seen = (let l = x.seen in let m = y.seen in omega arith);
    done = (let l = x.done in let m = y.done in omega arith);
    charged = y.charged ∙ x.charged;
  }

  words-base : (b : ℕ) (v w : Seat P E G) → w ≡ after_base b v → ReadsWords v w
  words-base b v w is = record {
    parts = ap (λ (x : Seat P E G). x.parts) is;
    opening = ap (λ (x : Seat P E G). x.opening) is;
    session = ap (λ (x : Seat P E G). x.session) is;
    held = ap (λ (x : Seat P E G). x.held) is;
    drawn = ap (λ (x : Seat P E G). x.drawn) is;
    read = ap (λ (x : Seat P E G). x.read) is;
    seen = (let e : w.seen ≡ v.seen = ap (λ (x : Seat P E G). x.seen) is in omega arith);
    done = (let e : w.reading.done ≡ v.reading.done = ap (λ (x : Seat P E G). x.reading.done) is in omega arith);
    charged = ap (λ (x : Seat P E G). x.reading.charged) is;
  }

  pub has-read : (o : Start P E G) (reads : WordsRead) (v w u : Seat P E G) → 0 < length o.sides → AfterFront μ o reads.front v w → u ≡ after_base reads.base w → w.reading.base ≤ reads.base → HasRead reads v u
  has-read o reads v w u some a is above =
      let first = words-front o reads.front v w a in
      record {
        words = words-then v w u first (words-base reads.base w u is);
        answers = ap (λ (x : Seat P E G). x.reading.answers) is ∙ ap (λ l. Base reads.base ∷ l) (front-answered o reads.front v w a);
        front = (let e : u.reading.done ≡ w.reading.done = ap (λ (x : Seat P E G). x.reading.done) is in let l = front-read o reads.front v w some a in omega arith);
        base = (let e : u.reading.base ≡ reads.base = ap (λ (x : Seat P E G). x.reading.base) is in omega arith);
        later = (let e = front-base o reads.front v w a in omega arith);
      }

  -- ---- pages and side in hand

  pub commit-taken : (o : Start P E G) (q : ℕ) (cells : Cells) (s : QueueSide P E G) (v w : Seat P E G) (K : Shared P E G) → HoldsOnlyPages μ o cells v → w ≡ holding (slot_of o (Side q)) K v → Sees μ v K → HoldsSide state faults group o q s w → HoldsCommit state faults group o q cells s w
  commit-taken o q cells s v w K h is seen side = record {
    pages = subst (λ (x : Seat P E G). HoldsPages μ o cells x) (sym is) (pages-beside-all μ o cells v (slot_of o (Side q)) K (side-apart μ o q cells v h.pages) h.pages);
    side = side;
    only = λ k.
        let e : times k w.held ≡ tick (slot_of o (Side q)) k + times k v.held = ap (λ (x : Seat P E G). times k x.held) is in
        let o = h.only k in
        omega arith;
    seen = (K, subst (λ (x : Seat P E G). Sees μ x K) (sym is) (sees-taken μ (slot_of o (Side q)) K v seen));
  }

  pub commit-read : (o : Start P E G) (q : ℕ) (cells : Cells) (s : QueueSide P E G) (v w : Seat P E G) → w.held ≡ v.held → IsSeen μ w → HoldsCommit state faults group o q cells s v → HoldsCommit state faults group o q cells s w
  commit-read o q cells s v w same seen h = record {
    pages = pages-same μ o cells v w same h.pages;
    side = stays_at_reads state faults group s o q v w same h.side;
    only = λ k. ap (times k) same ∙ h.only k;
    seen = seen;
  }

  pub commit-side : (o : Start P E G) (q : ℕ) (cells : Cells) (s u : QueueSide P E G) (v : Seat P E G) → HoldsSide state faults group o q u v → HoldsCommit state faults group o q cells s v → HoldsCommit state faults group o q cells u v
  commit-side o q cells s u v side h = record { pages = h.pages; side = side; only = h.only; seen = h.seen }

  pub commit-prepared : (o : Start P E G) (q : ℕ) (cells : Cells) (s u : QueueSide P E G) (v : Seat P E G) → HaveSameParts s u → HoldsCommit state faults group o q cells s v → HoldsCommit state faults group o q cells u v
  commit-prepared o q cells s u v same h = commit-side o q cells s u v (prepared_stays state faults group s o q u v same h.side) h

  pub commit-looked : (o : Start P E G) (q : ℕ) (cells : Cells) (s : QueueSide P E G) (v w : Seat P E G) (K : Shared P E G) → w ≡ after_look None K v → Sees μ v K → HoldsCommit state faults group o q cells s v → HoldsCommit state faults group o q cells s w
  commit-looked o q cells s v w K is sees h =
      commit-read o q cells s v w (ap (λ (x : Seat P E G). x.held) is) (K, subst (λ (x : Seat P E G). Sees μ x K) (sym is) (sees-looked μ K v sees)) h

  -- what a side shows of its port, it shows after a look
  pub obstacle-looked : (q : ℕ) (s : QueueSide P E G) (v w : Seat P E G) (K : Shared P E G) (l : Obstacle) → w ≡ after_look None K v → Sees μ v K → ShowsObstacle state faults group q s v l → ShowsObstacle state faults group q s w l
  obstacle-looked q s v w K obstacle.Memory is sees shows = tt
  obstacle-looked q s v w K obstacle.Area is sees shows = tt
  obstacle-looked q s v w K (obstacle.Drive cause) is sees shows = λ L later. shows L (sees_look μ K L v sees (subst (λ (x : Seat P E G). Sees μ x L) is later))
