-- A session between two calls.
use Rattle.std.proofs.Common.{◌≡◌, ℕ, ◌+◌, ◌<◌, ◌≤◌, List, [], ◌∷◌, length, refl, sym, ap, subst, ◌∙◌, inl, inr, arith}
use Rattle.std.proofs.lemmas.Bool.{cases_lt}
use Rattle.mq_blocks.specs.Geometry.{homes_of}
use Rattle.mq_blocks.specs.declared.geometry.Geometry.{Geometry}
use Rattle.mq_desk_laws.specs.Groups.{GroupView}
use Rattle.mq_drive.specs.declared.port.Port.{Ghosts}
use Rattle.mq_journal.specs.Numbers.{Seat, Shared}
use Rattle.mq_pages.specs.Held.{HeldCells}
use Rattle.mq_turns.specs.Lists.{Each}
use Rattle.mq_turns.proofs.Lists.{each_map}
use Rattle.mq_sessions.specs.Acts.{KeepsAll, Rests}
use Rattle.mq_sessions.specs.Calling.{HasLeft}
use Rattle.mq_sessions.specs.Calls.{Call, HasCalled, IsReady}
use Rattle.mq_sessions.specs.Executors.{CallView, EntriesTell, IsReadOf}
use Rattle.mq_sessions.specs.Wanted.{IsSameSession}

module _ {P E : Type 0} {G : Ghosts P} where
  -- ---- what a call leaves

  pub keeps-at-once : (v : Seat P E G) → KeepsAll v v
  keeps-at-once v = record { rests = record { drawn = refl; read = refl }; charged = refl }

  pub keeps-all : (v w : Seat P E G) → IsSameSession v w → KeepsAll v w
  keeps-all v w same = record {
    rests = record {
      drawn = ap (λ (x : Seat P E G). x.drawn) same.is;
      read = ap (λ (x : Seat P E G). x.read) same.is;
    };
    charged = ap (λ (x : Seat P E G). x.reading.charged) same.is;
  }

  -- it holds nothing after its pages were taken and given back
  pub left-along : (old mid new : HeldCells) (v m w : Seat P E G) → IsSameSession v m → HasLeft mid new m w → mid.room ≡ old.room → HasLeft old new v w
  left-along old mid new v m w same left room = record {
    parts = left.parts ∙ ap (λ (x : Seat P E G). x.parts) same.is;
    opening = left.opening ∙ ap (λ (x : Seat P E G). x.opening) same.is;
    session = left.session ∙ ap (λ (x : Seat P E G). x.session) same.is;
    held = left.held;
    none = left.none;
    room = left.room ∙ room;
  }

  pub left-same : (old new : HeldCells) (v w : Seat P E G) → IsSameSession v w → w.held ≡ [] → new.cells ≡ [] → new.room ≡ old.room → HasLeft old new v w
  left-same old new v w same held none room = record {
    parts = ap (λ (x : Seat P E G). x.parts) same.is;
    opening = ap (λ (x : Seat P E G). x.opening) same.is;
    session = ap (λ (x : Seat P E G). x.session) same.is;
    held = held;
    none = none;
    room = room;
  }

module _ {E : Type 0} (group : GroupView E) where
  drawn-more : (n : ℕ) (l : List (ℕ × E)) → Each (λ d. group.call d.1 < n) l → Each (λ d. group.call d.1 < n + 1) l
  drawn-more n l low = each_map (λ d. group.call d.1 < n) (λ d. group.call d.1 < n + 1) (λ d lt. omega arith) l low

module _ {P E : Type 0} {G : Ghosts P} (group : GroupView E) where
  -- ---- one call more

  read-more : (n : ℕ) (l : List (E × Shared P E G)) → Each (λ r. group.call r.0 < n) l → Each (λ r. group.call r.0 < n + 1) l
  read-more n l low = each_map (λ r. group.call r.0 < n) (λ r. group.call r.0 < n + 1) (λ r lt. omega arith) l low

  pub called-more : (n : ℕ) (v : Seat P E G) → HasCalled group n v → HasCalled group (n + 1) v
  called-more n v h = record {
    drawn = drawn-more group n v.drawn h.drawn;
    read = read-more n v.read h.read;
    few = let few = h.few in omega arith;
  }

  pub called-along : (n : ℕ) (v w : Seat P E G) → IsSameSession v w → HasCalled group n v → HasCalled group n w
  called-along n v w same h = record {
    drawn = subst (λ (x : Seat P E G). Each (λ d. group.call d.1 < n) x.drawn) (sym same.is) h.drawn;
    read = subst (λ (x : Seat P E G). Each (λ r. group.call r.0 < n) x.read) (sym same.is) h.read;
    few = subst (λ (x : Seat P E G). length x.drawn ≤ n) (sym same.is) h.few;
  }

  pub called-drawn : (n at : ℕ) (e : E) (v w : Seat P E G) → group.call e ≡ n → w.drawn ≡ (at, e) ∷ v.drawn → w.read ≡ v.read → HasCalled group n v → HasCalled group (n + 1) w
  called-drawn n at e v w count drawn read h =
      let more = called-more n v h in
      record {
        drawn = subst (Each (λ d. group.call d.1 < n + 1)) (sym drawn) (omega (arith, count), more.drawn);
        read = subst (Each (λ r. group.call r.0 < n + 1)) (sym read) more.read;
        few = (let l = h.few in let s = ap length drawn in omega arith);
      }

  pub called-read : (n : ℕ) (e : E) (K : Shared P E G) (v w : Seat P E G) → group.call e ≡ n → w.drawn ≡ v.drawn → w.read ≡ (e, K) ∷ v.read → HasCalled group n v → HasCalled group (n + 1) w
  called-read n e K v w count drawn read h =
      let more = called-more n v h in
      record {
        drawn = subst (Each (λ d. group.call d.1 < n + 1)) (sym drawn) more.drawn;
        read = subst (Each (λ r. group.call r.0 < n + 1)) (sym read) (omega (arith, count), more.read);
        few = (let l = more.few in let s = ap length drawn in omega arith);
      }

  pub called-rests : (n : ℕ) (v w : Seat P E G) → Rests v w → HasCalled group n v → HasCalled group (n + 1) w
  called-rests n v w r h =
      let more = called-more n v h in
      record {
        drawn = subst (Each (λ d. group.call d.1 < n + 1)) (sym r.drawn) more.drawn;
        read = subst (Each (λ x. group.call x.0 < n + 1)) (sym r.read) more.read;
        few = (let l = more.few in let s = ap length r.drawn in omega arith);
      }

  pub called-kept : (n : ℕ) (v w : Seat P E G) → w.drawn ≡ v.drawn → w.read ≡ v.read → HasCalled group n v → HasCalled group n w
  called-kept n v w drawn read h = record {
    drawn = subst (Each (λ d. group.call d.1 < n)) (sym drawn) h.drawn;
    read = subst (Each (λ r. group.call r.0 < n)) (sym read) h.read;
    few = (let l = h.few in let s = ap length drawn in omega arith);
  }

  -- ---- it is ready

  -- a call that left the session without a turn
  pub ready-again : (g : Geometry) (q n : ℕ) (old new : HeldCells) (v w : Seat P E G) → IsReady group g q n old v → IsSameSession v w → w.held ≡ [] → new.cells ≡ [] → new.room ≡ old.room → IsReady group g q (n + 1) new w
  ready-again g q n old new v w ready same idle none room = record {
    queue = ready.queue;
    own = ap (λ (x : Seat P E G). x.session) same.is ∙ ready.own;
    idle = idle;
    called = called-more n w (called-along n v w same ready.called);
    none = none;
    room = subst (λ (k : ℕ). homes_of g ≤ k) (sym room) ready.room;
  }

  -- a call that was counted, and that took no step
  pub ready-more : (g : Geometry) (q n : ℕ) (cells : HeldCells) (v : Seat P E G) → IsReady group g q n cells v → IsReady group g q (n + 1) cells v
  ready-more g q n cells v ready = record {
    queue = ready.queue;
    own = ready.own;
    idle = ready.idle;
    called = called-more n v ready.called;
    none = ready.none;
    room = ready.room;
  }

  -- where it is counted as long as fewer than the limit were made
  pub ready-counted : (g : Geometry) (q n m limit : ℕ) (cells : HeldCells) (v : Seat P E G) → (n < limit → m ≡ n + 1) → (limit ≤ n → m ≡ n) → IsReady group g q n cells v → IsReady group g q m cells v
  ready-counted g q n m limit cells v one same ready = elim (cases_lt n limit) [
    | inl low ↦ subst (λ (k : ℕ). IsReady group g q k cells v) (sym (one low)) (ready-more g q n cells v ready)
    | inr high ↦ subst (λ (k : ℕ). IsReady group g q k cells v) (sym (same high)) ready
  ]

  -- by equal parts of the session
  pub ready-as : (g : Geometry) (q k n m : ℕ) (old new : HeldCells) (v : Seat P E G) → k ≡ q → m ≡ n → new ≡ old → IsReady group g q n old v → IsReady group g k m new v
  ready-as g q k n m old new v queue calls held ready =
      subst (λ (x : ℕ). IsReady group g x m new v) (sym queue)
      (subst (λ (x : ℕ). IsReady group g q x new v) (sym calls) (subst (λ (x : HeldCells). IsReady group g q n x v) (sym held) ready))

  -- it was told of a number
  pub ready-told : (g : Geometry) (q n k : ℕ) (cells : HeldCells) (v : Seat P E G) → IsReady group g q n cells v → IsReady group g q n cells (record v { seen = k })
  ready-told g q n k cells v ready = record {
    queue = ready.queue;
    own = ready.own;
    idle = ready.idle;
    called = record { drawn = ready.called.drawn; read = ready.called.read; few = ready.called.few };
    none = ready.none;
    room = ready.room;
  }

  -- once it has left
  pub ready-left : (g : Geometry) (q n k : ℕ) (old new : HeldCells) (v w : Seat P E G) → IsReady group g q n old v → HasLeft old new v w → HasCalled group k w → IsReady group g q k new w
  ready-left g q n k old new v w ready left called = record {
    queue = ready.queue;
    own = left.session ∙ ready.own;
    idle = left.held;
    called = called;
    none = left.none;
    room = subst (λ (x : ℕ). homes_of g ≤ x) (sym left.room) ready.room;
  }

  -- for its next call, once its group was run
  pub ready-attempted : (g : Geometry) (q n k l : ℕ) (old new : HeldCells) (v w : Seat P E G) → IsReady group g q n old v → HasLeft old new v w → HasCalled group (n + 1) w → k ≡ q → l ≡ n + 1 → IsReady group g k l new w
  ready-attempted g q n k l old new v w ready left called queue calls =
      subst (λ (x : ℕ). IsReady group g x l new w) (sym queue)
      (subst (λ (x : ℕ). IsReady group g q x new w) (sym calls) (ready-left g q n (n + 1) old new v w ready left called))

  pub ready-kept : (g : Geometry) (q n : ℕ) (cells : HeldCells) (v w : Seat P E G) → w.session ≡ v.session → w.drawn ≡ v.drawn → w.read ≡ v.read → w.held ≡ [] → IsReady group g q n cells v → IsReady group g q n cells w
  ready-kept g q n cells v w session drawn read idle ready = record {
    queue = ready.queue;
    own = session ∙ ready.own;
    idle = idle;
    called = called-kept n v w drawn read ready.called;
    none = ready.none;
    room = ready.room;
  }

module _ {P E Req Rep D : Type 0} {G : Ghosts P} (group : GroupView E) (calls : CallView E Req Rep D) where
  -- once it has read the group of its next call
  pub ready-read : (g : Geometry) (c : Call Req) (done : D) (at : ℕ) (old new : HeldCells) (v m w : Seat P E G) → EntriesTell group calls → IsReady group g c.session c.count old v → IsSameSession v m → IsReadOf calls c done at m w → new.cells ≡ [] → new.room ≡ old.room → IsReady group g c.session (c.count + 1) new w
  ready-read g c done at old new v m w law ready same read none room = record {
    queue = ready.queue;
    own = ap (λ (x : Seat P E G). x.session) read.looked.is ∙ ap (λ (x : Seat P E G). x.session) same.is ∙ ready.own;
    idle = ap (λ (x : Seat P E G). x.held) read.looked.is;
    called = called-read group c.count read.entry read.looked.known m w (law c done read.entry read.is).call (ap (λ (x : Seat P E G). x.drawn) read.looked.is) (ap (λ (x : Seat P E G). x.read) read.looked.is) (called-along group c.count v m same ready.called);
    none = none;
    room = subst (λ (k : ℕ). homes_of g ≤ k) (sym room) ready.room;
  }
