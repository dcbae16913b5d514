-- The machine on a drive of one queue, through the events of a transaction.
use Rattle.std.proofs.Common.{◌≡◌, ◌<◌, ◌≤◌, ℕ, zero, suc, ◌+◌, ◌-◌, ◌^◌, List, [], ◌∷◌, ◌++◌, length, replicate, None, Some, refl, sym, ◌∙◌, ap, subst, arith, length-append}
use Rattle.std.specs.List.{remove}
use Rattle.std.proofs.lemmas.Bool.{eq-eqb, le-leb}
use Rattle.mq_blocks.specs.Drive.{PortState, AreFrom, after_flush, after_ring, after_store_head}
use Rattle.mq_blocks.specs.declared.command.Command.{Command}
use Rattle.mq_blocks.specs.declared.geometry.Geometry.{Geometry}
use Rattle.mq_core.proofs.SidesCommands.{next_append, next_holds}
use Rattle.mq_core.specs.Events.{complete_side, index_with, stage_side}
use Rattle.mq_core.specs.Machine.{AreAllowed, happens, run}
use Rattle.mq_core.specs.declared.event.Event.{Event}
use Rattle.mq_core.specs.declared.event.Event.TheVariants.{Stage, Flush, Ring, StoreHead, FlushHead}
use Rattle.mq_core.specs.Start.{fresh_port, fresh_ports}
use Rattle.mq_ledger.specs.History.{of_queue}
use Rattle.mq_ledger.specs.Items.{IsEnd, end_of}
use Rattle.mq_ledger.specs.Plain.{plain}
use Rattle.mq_ledger.specs.Sides.{AreNext}
use Rattle.mq_ledger.specs.State.{State}
use Rattle.mq_ledger.specs.declared.tx.Tx.{Tx}
use Rattle.mq_block_trace.specs.Traced.{blank_start, text_start, executed, completed}

-- ---- lists of events

pub run_append : (es fs : List Event) (s : State) → run plain (es ++ fs) s ≡ run plain fs (run plain es s)
run_append [] fs s = refl
run_append (e ∷ es) fs s = run_append es fs (happens plain e s)

pub allowed_append : (es fs : List Event) (s : State) → AreAllowed plain es s → AreAllowed plain fs (run plain es s) → AreAllowed plain (es ++ fs) s
allowed_append [] fs s may more = more
allowed_append (e ∷ es) fs s may more = (may.0, allowed_append es fs (happens plain e s) may.1 more)

-- ---- the states

-- after these transactions, with this port of the queue, this mark, and these acknowledged numbers
abbrev pub at : Geometry → List Tx → PortState → (mark : ℕ) → List ℕ → State
at g txs p mark told = record {
  geometry = g;
  start = blank_start g;
  base = 0;
  starts = 0 ∷ [];
  history = txs;
  ports = p ∷ [];
  root = fresh_port g (blank_start g) 0 None;
  marks = mark ∷ [];
  writing = [];
  acknowledged = told;
}

pub at_start : (g : Geometry) → g.queues ≡ 1 → text_start g ≡ at g [] (fresh_port g (blank_start g) 0 (Some 0)) (2 ^ 64 - 1) []
at_start g one = λ i. record {
  geometry = g;
  start = blank_start g;
  base = 0;
  starts = replicate (one i) 0;
  history = [];
  ports = fresh_ports g (blank_start g) 0 (one i);
  root = fresh_port g (blank_start g) 0 None;
  marks = replicate (one i) (2 ^ 64 - 1);
  writing = [];
  acknowledged = [];
}

-- these events are allowed, and lead to a port of which this holds
pub record Leads (g : Geometry) (txs : List Tx) (mark : ℕ) (told more : List ℕ) (p : PortState) (events : List Event) (Then : PortState → Type 0) : Type 0 where
  pub allowed : AreAllowed plain events (at g txs p mark told)
  pub port : PortState
  pub is : run plain events (at g txs p mark told) ≡ at g txs port mark more
  pub then : Then port

pub leads_append :
    {A B : PortState → Type 0} (g : Geometry) (txs : List Tx) (mark : ℕ) (a b c : List ℕ) (p : PortState) (es fs : List Event) → Leads g txs mark a b p es A → ((q : PortState) → A q → Leads g txs mark b c q fs B)
    → Leads g txs mark a c p (es ++ fs) B
leads_append g txs mark a b c p es fs first rest =
    let last = rest first.port first.then in
    record {
      allowed = allowed_append es fs (at g txs p mark a) first.allowed (subst (AreAllowed plain fs) (sym first.is) last.allowed);
      port = last.port;
      is = run_append es fs (at g txs p mark a) ∙ ap (run plain fs) first.is ∙ last.is;
      then = last.then;
    }

-- ---- the ports

-- nothing is under way, and head and doorbell stand here
pub record IsIdle (end : ℕ) (p : PortState) : Type 0 where
  pub doorbell : p.doorbell ≡ end
  pub pending : p.pending ≡ []
  pub posted : p.posted ≡ []
  pub failed : p.failed ≡ []
  pub head : p.head ≡ end
  pub stored : p.stored_head ≡ end

-- so many entries are staged behind it
pub record IsStaging (end n : ℕ) (p : PortState) : Type 0 where
  pub doorbell : p.doorbell ≡ end
  pub staged : length p.pending ≡ n
  pub counts : AreNext end p.pending
  pub posted : p.posted ≡ []
  pub failed : p.failed ≡ []
  pub head : p.head ≡ end
  pub stored : p.stored_head ≡ end

-- they are rung up to an end, and those from a count on, so many, are not completed
pub record IsRunning (head end from n : ℕ) (p : PortState) : Type 0 where
  pub doorbell : p.doorbell ≡ end
  pub pending : p.pending ≡ []
  pub left : length p.posted ≡ n
  pub counts : AreNext from p.posted
  pub failed : p.failed ≡ []
  pub head_is : p.head ≡ head
  pub stored : p.stored_head ≡ head

pub staging_none : (end : ℕ) (p : PortState) → IsIdle end p → IsStaging end 0 p
staging_none end p idle = record {
  doorbell = idle.doorbell;
  staged = ap (λ (cs : List Command). length cs) idle.pending;
  counts = subst (AreNext end) (sym idle.pending) tt;
  posted = idle.posted;
  failed = idle.failed;
  head = idle.head;
  stored = idle.stored;
}

nothing_left : (cs : List Command) → length cs ≡ 0 → cs ≡ []
nothing_left [] none = refl
nothing_left (c ∷ cs) none = absurd (omega (arith, none))

-- ---- the events

module _ (g : Geometry) (one : g.queues ≡ 1) (txs : List Tx) (mark : ℕ) (told : List ℕ) where
  abbrev own : List Tx
  own = of_queue 0 txs

  there : 0 < g.queues
  there = omega (arith, one)

  stages : (end k n : ℕ) (p : PortState) → IsStaging end k p → end + k + n ≤ end_of 0 own → Leads g txs mark told told p (replicate n (Stage 0)) (IsStaging end (k + n))
  stages end k zero p is fits =
      record { allowed = tt; port = p; is = refl; then = subst (λ (m : ℕ). IsStaging end m p) (let e : k ≡ k + 0 = omega arith in e) is }
  stages end k (suc n) p is fits =
      let doorbell = is.doorbell in
      let staged = is.staged in
      let q : PortState = stage_side plain g 0 0 own p in
      let next : IsStaging end (k + 1) q = record {
        doorbell = is.doorbell;
        staged = length-append p.pending _ ∙ ap (λ (m : ℕ). m + 1) staged;
        counts = next_append end p.pending _ is.counts (omega arith);
        posted = is.posted;
        failed = is.failed;
        head = is.head;
        stored = is.stored;
      } in
      let rest = stages end (k + 1) n q next (omega arith) in
      record {
        allowed = ((there, omega arith), rest.allowed);
        port = rest.port;
        is = rest.is;
        then = subst (λ (m : ℕ). IsStaging end m rest.port) (let e : k + 1 + n ≡ k + suc n = omega arith in e) rest.then;
      }

  rings : (end n : ℕ) (p : PortState) → IsStaging end n p → 0 < n → end + n ≡ end_of 0 own → Leads g txs mark told told p (Flush 0 ∷ Ring 0 ∷ []) (IsRunning end (end + n) end n)
  rings end n p is some whole =
      let doorbell = is.doorbell in
      let staged = is.staged in
      let posted : p.posted ++ p.pending ≡ p.pending = ap (λ (cs : List Command). cs ++ p.pending) is.posted in
      record {
        allowed = (
          (there, record { drawn = omega arith; whole = omega arith }),
          ((there, record { drawn = omega arith; whole = omega arith; flushed = omega arith }), tt),
        );
        port = after_ring (after_flush p);
        is = refl;
        then = record {
          doorbell = omega arith;
          pending = refl;
          left = ap (λ (cs : List Command). length cs) posted ∙ staged;
          counts = subst (AreNext end) (sym posted) is.counts;
          failed = is.failed;
          head_is = is.stored;
          stored = is.stored;
        };
      }

  removed : (n : ℕ) (cs : List Command) → AreNext n cs → 0 < length cs → AreNext (n + 1) (remove cs (index_with n cs)) × (length (remove cs (index_with n cs)) + 1 ≡ length cs)
  removed n [] counts some = absurd (omega arith)
  removed n (c ∷ cs) counts some = rw (eq-eqb c.count n counts.0) (counts.1, let e : length cs + 1 ≡ suc (length cs) = omega arith in e)

  completes : (head end from n : ℕ) (p : PortState) → IsRunning head end from n p → Leads g txs mark told told p (completed from n) (IsRunning head end (from + n) 0)
  completes head end from zero p is =
      record { allowed = tt; port = p; is = refl; then = subst (λ (m : ℕ). IsRunning head end m 0 p) (let e : from ≡ from + 0 = omega arith in e) is }
  completes head end from (suc n) p is =
      let left = is.left in
      let q : PortState = complete_side from p in
      let out = removed from p.posted is.counts (omega arith) in
      let next : IsRunning head end (from + 1) n q = record {
        doorbell = is.doorbell;
        pending = is.pending;
        left = omega (arith, out.1, left);
        counts = out.0;
        failed = is.failed;
        head_is = is.head_is;
        stored = is.stored;
      } in
      let rest = completes head end (from + 1) n q next in
      record {
        allowed = ((there, next_holds from from p.posted is.counts (omega arith) (omega arith)), rest.allowed);
        port = rest.port;
        is = rest.is;
        then = subst (λ (m : ℕ). IsRunning head end m 0 rest.port) (let e : from + 1 + n ≡ from + suc n = omega arith in e) rest.then;
      }

  pub executes : (end n : ℕ) (p : PortState) → IsIdle end p → 0 < n → end + n ≡ end_of 0 own → Leads g txs mark told told p (executed end n) (IsRunning end (end + n) (end + n) 0)
  executes end n p idle some whole =
      leads_append g txs mark told told told p (replicate n (Stage 0)) (Flush 0 ∷ Ring 0 ∷ completed end n) (stages end 0 n p (staging_none end p idle) (omega (arith, whole)))
      (λ q staged.
      leads_append g txs mark told told told q (Flush 0 ∷ Ring 0 ∷ []) (completed end n) (rings end n q (subst (λ (m : ℕ). IsStaging end m q) (let e : 0 + n ≡ n = omega arith in e) staged) some whole) (λ r running. completes end (end + n) end n r running))

  ends_there : (h : ℕ) (us : List Tx) → end_of 0 us ≡ h → IsEnd 0 us h
  ends_there h [] whole = whole
  ends_there h (u ∷ us) whole = rw (le-leb (end_of 0 (u ∷ us)) h (omega (arith, whole))) whole

  pub heads : (head end : ℕ) (p : PortState) → IsRunning head end end 0 p → head ≤ end → end_of 0 own ≡ end → Leads g txs mark told told p (StoreHead 0 end ∷ FlushHead 0 ∷ []) (IsIdle end)
  heads head end p is low whole =
      let doorbell = is.doorbell in
      let stored = is.stored in
      let posted = nothing_left p.posted is.left in
      record {
        allowed = (
          (
            there,
            record {
              is_end = ends_there end own whole;
              above = omega arith;
              rung = omega arith;
              posted = subst (AreFrom end) (sym posted) tt;
              failed = subst (AreFrom end) (sym is.failed) tt;
            },
          ),
          (there, tt),
        );
        port = after_flush (after_store_head p end);
        is = refl;
        then = record {
          doorbell = doorbell;
          pending = is.pending;
          posted = posted;
          failed = is.failed;
          head = refl;
          stored = refl;
        };
      }
