-- What a chair that holds them has to show before numbers are known done, a home write is known to have
-- ended, or the base is raised.
use Rattle.std.proofs.Common.{◌≡◌, ℕ, ◌+◌, ◌<◌, ◌≤◌, ◌&&◌, ◌⊎◌, ◌-◌, ◌^◌, nat_le, List, [], ◌∷◌, length, refl, sym, subst, inl, inr, arith, eqb}
use Rattle.std.proofs.lemmas.Bool.{or_cases, or_right, and_parts, leb-true}
use Rattle.mq_ledger.specs.History.{writes, of_queue, IsAt}
use Rattle.mq_ledger.specs.Items.{end_of, descriptor_blocks}
use Rattle.mq_ledger.specs.KnownJournal.{KnownJournal, front}
use Rattle.mq_ledger.specs.declared.tx.Tx.{Tx}
use Rattle.mq_core.proofs.HistoryFronts.{DoneMore}
use Rattle.mq_core.proofs.KnownJournalGrowth.{log_more, side_more}
use Rattle.mq_desk_laws.specs.Bases.{BaseOk}
use Rattle.mq_desk_laws.specs.Grown.{HasGrown}
use Rattle.mq_desk_laws.specs.Pages.{IsNumbered, IsToBring, WasBrought}
use Rattle.mq_desk_laws.proofs.Bases.{base_later}
use Rattle.mq_desk_laws.proofs.PagesHomeWrites.{home_number_with, grown_brought, log_brought}
use Rattle.mq_desk_laws.proofs.Pages.{numbered_of}
use Rattle.mq_desk_laws.proofs.BasesRoots.{grown_word, log_raised, stands_raised}
use Rattle.mq_pages.specs.declared.page.PageCell.{PageCell}
use Rattle.mq_turns.specs.Marks.{is_claimed}
use Rattle.mq_turns.specs.Meaning.{Grows, newest, claimed, charged, raised, written}
use Rattle.mq_turns.specs.declared.rule.Charge.{Charge}
use Rattle.mq_turns.specs.declared.rule.Claim.{Claim}
use Rattle.mq_turns.specs.declared.turn.Turn.TheVariants.{Side, Root}
use Rattle.mq_desk_laws.specs.Faults.{AreCharged, IsBacked}
use Rattle.mq_desk_laws.specs.Groups.{GroupView}
use Rattle.mq_desk_laws.specs.Rule
use Rattle.mq_desk_laws.specs.Rule.{IsOfPort, IsOk, IsPage, IsSide, IsRoot}
use Rattle.mq_desk_laws.specs.Values.{Values}
use Rattle.mq_desk_laws.proofs.Faults.{charged_backed}
use Rattle.mq_desk_laws.proofs.RuleStaying.{core_grown}

module _ {Q R E : Type 0} (values : Values Q R E) (group : GroupView E) where
  abbrev Desk : Type 0
  Desk = Rule.DeskState values group

  abbrev core : Desk → KnownJournal
  core = Rule.core_of values group

  -- ---- claims

  more : (c : Claim) (K : Desk) → DoneMore (core K).done (core (claimed c K)).done (core K).history
  more c K = record { each = λ t ts at d. or_right (eqb c.queue t.queue && nat_le t.number c.up_to) (is_claimed t.queue t.number K.claims) d }

  done_grown : (c : Claim) (K : Desk) → HasGrown (core K) (core (claimed c K))
  done_grown c K = record { newer = []; done = (core (claimed c K)).done; due = (core K).due; word = K.word; is = refl; more_done = (more c K).each; more_due = λ x v d. d; above = omega arith }

  pub ok_claimed : (c : Claim) (K : Desk) → IsOk values group K → c.up_to ≤ newest K → IsOk values group (claimed c K)
  ok_claimed c K ok low =
      let log = log_more (core K) (core (claimed c K)).done ok.log (more c K) in
      record {
        log = log;
        claims = (low, ok.claims);
        base = base_later (core K) (core (claimed c K)) K.word ok.log log (done_grown c K) ok.base;
        legal = ok.legal;
        ports = ok.ports;
      }

  pub side_claimed : (c : Claim) (K : Desk) (w : Q) → IsOk values group K → IsSide values group c.queue K w
      → ((t : Tx) (ts : List Tx) → IsAt t ts (core K).history → t.queue ≡ c.queue → t.number ≤ c.up_to → end_of ((core K).from c.queue) (of_queue c.queue ts) + (writes t + descriptor_blocks t) ≤ (values.port w).head)
      → IsSide values group c.queue (claimed c K) w
  side_claimed c K w ok is past = record {
    port = side_more (core K) (core (claimed c K)).done ok.log (more c K) c.queue (Rule.own_of values group c.queue K) (values.port w) is.port (λ t ts at mine d. elim (or_cases (eqb c.queue t.queue && nat_le t.number c.up_to) (is_claimed t.queue t.number K.claims) d) [
      | inl new ↦ past t ts at mine (leb-true _ _ (and_parts (eqb c.queue t.queue) (nat_le t.number c.up_to) new).1)
      | inr old ↦ is.port.done t ts at mine old
    ]);
    stored = is.stored;
    says = is.says;
    charged = is.charged;
  }

  -- ---- a page

  pub page_numbers : (b : ℕ) (K : Desk) (c : PageCell) → IsPage values group b K c → IsNumbered (core K) b c.version c.last_logged c.home_version
  page_numbers b K c p = numbered_of (core K) K.ended b c.version c.last_logged c.home_version refl p.version p.last_logged p.home_version

  pub page_waits : (b : ℕ) (K : Desk) (c : PageCell) → IsPage values group b K c → c.last_logged ≡ c.version → c.home_version < c.version → c.version ≤ front (core K) → IsToBring (core K) K.ended b c.version c.last_logged c.home_version
  page_waits b K c p last waits done = record { version_is = p.version; logged_is = p.last_logged; home_is = p.home_version; due_is = refl; last = last; waits = waits; done = done }

  pub page_brought : (base b : ℕ) (K L : Desk) (c : PageCell) → IsOk values group K → Grows K L → base ≤ front (core K) → IsPage values group b K c → c.version ≤ front (core K) → (c.last_logged ≡ c.version → c.version ≤ base → c.version ≤ c.home_version) → WasBrought (core L) base b
  page_brought base b K L c ok grows reached p done home = record {
    earlier = core K;
    log = ok.log;
    grown = core_grown values group K L grows;
    reached = reached;
    version = c.version;
    logged = c.last_logged;
    home = c.home_version;
    numbers = page_numbers b K c p;
    done = done;
    brought = λ content there same low. home same low;
  }

  -- ---- its home write

  pub ok_written : (b version logged home : ℕ) (K : Desk) → IsOk values group K → IsToBring (core K) K.ended b version logged home → IsOk values group (written (b, version) K)
  ok_written b version logged home K ok bring =
      let log = log_brought (core K) K.ended b version logged home ok.log bring in
      record {
        log = log;
        claims = ok.claims;
        base = base_later (core K) (core (written (b, version) K)) K.word ok.log log (grown_brought (core K) K.ended b version logged home bring) ok.base;
        legal = ok.legal;
        ports = ok.ports;
      }

  pub page_written : (b : ℕ) (K : Desk) (c : PageCell) → IsPage values group b K c → IsToBring (core K) K.ended b c.version c.last_logged c.home_version → IsPage values group b (written (b, c.version) K) (record c { home_version = c.version })
  page_written b K c p bring = record { content = p.content; version = p.version; last_logged = p.last_logged; home_version = sym (home_number_with (core K) K.ended b c.version c.last_logged c.home_version bring) }

  -- ---- the base

  pub ok_raised : (b : ℕ) (K : Desk) → IsOk values group K → BaseOk (core K) b → K.word ≤ b → IsOk values group (raised b K)
  ok_raised b K ok base up =
      let log = log_raised (core K) b ok.log up base.reached in
      record {
        log = log;
        claims = ok.claims;
        base = base_later (core K) (core (raised b K)) b ok.log log (grown_word (core K) b up) base;
        legal = ok.legal;
        ports = ok.ports;
      }

  pub root_raised : (b : ℕ) (K : Desk) (r : R) → IsOk values group K → IsRoot values group K r → K.word ≤ b → b ≤ (values.root r).base → IsRoot values group (raised b K) r
  root_raised b K r ok is up low = record { says = is.says; port = stands_raised (core K) b (values.root r) ok.log is.port up low; bound = is.bound; charged = is.charged }

  -- ---- charges

  pub ok_charged : (c : Charge) (K : Desk) → IsOk values group K → IsOfPort (length K.opening.sides) c → IsOk values group (charged c K)
  ok_charged c K ok port = record { log = ok.log; claims = ok.claims; base = ok.base; legal = ok.legal; ports = (port, ok.ports) }

  pub side_charged : (c : Charge) (q : ℕ) (K : Desk) (w u : Q) → c.port ≡ Side q → IsSide values group q K u
      → values.says (Rule.part_of values group q (charged c K)) u
      → AreCharged (Rule.geometry_of values group K) (Side q) K.charges (Rule.faults_of values group K.opening q) (values.faults w)
      → (2 ^ 64 - 1 ≤ length (values.faults u)) ⊎ IsBacked (Rule.geometry_of values group K) c.report (Rule.faults_of values group K.opening q) (values.faults w) (values.faults u)
      → IsSide values group q (charged c K) u
  side_charged c q K w u mine is says was backed =
      let g = Rule.geometry_of values group K in
      let first = Rule.faults_of values group K.opening q in
      record {
        port = is.port;
        stored = is.stored;
        says = says;
        charged = subst (λ t. AreCharged g t (c ∷ K.charges) first (values.faults u)) mine
            (charged_backed g c K.charges first (values.faults w) (values.faults u) (subst (λ t. AreCharged g t K.charges first (values.faults w)) (sym mine) was) backed);
      }

  pub root_charged : (c : Charge) (K : Desk) (r s : R) → c.port ≡ Root → IsRoot values group K s
      → AreCharged (Rule.geometry_of values group K) Root K.charges (values.root_faults K.opening.root) (values.root_faults r)
      → (2 ^ 64 - 1 ≤ length (values.root_faults s)) ⊎ IsBacked (Rule.geometry_of values group K) c.report (values.root_faults K.opening.root) (values.root_faults r) (values.root_faults s)
      → IsRoot values group (charged c K) s
  root_charged c K r s mine is was backed =
      let g = Rule.geometry_of values group K in
      let first = values.root_faults K.opening.root in
      record {
        says = is.says;
        port = is.port;
        bound = is.bound;
        charged = subst (λ t. AreCharged g t (c ∷ K.charges) first (values.root_faults s)) mine
            (charged_backed g c K.charges first (values.root_faults r) (values.root_faults s) (subst (λ t. AreCharged g t K.charges first (values.root_faults r)) (sym mine) was) backed);
      }
