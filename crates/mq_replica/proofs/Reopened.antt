-- A side that is opened over ports that were recovered.
use Rattle.std.proofs.Common.{◌≡◌, ℕ, zero, suc, ◌+◌, ◌<◌, ◌≤◌, List, [], ◌∷◌, length, IsSome, Option, Some, None, refl, sym, ap, subst, ◌∙◌, arith, get_or, add-zero}
use Rattle.std.proofs.lemmas.Bool.{eqb-true, or_left}
use Rattle.mq_blocks.specs.Blocks.{content}
use Rattle.mq_blocks.specs.Descriptor.{Descriptor}
use Rattle.mq_blocks.specs.Drive.{PortState}
use Rattle.mq_blocks.specs.Geometry.{homes_of}
use Rattle.mq_blocks.specs.declared.geometry.Geometry.{Geometry}
use Rattle.mq_desk_laws.specs.Bases.{RootStands}
use Rattle.mq_core.proofs.MachineFacts.{start_facts}
use Rattle.mq_ledger.specs.KnownJournal.{LogOk}
use Rattle.mq_ledger.specs.Sides.{RootOk, SideOk}
use Rattle.mq_ledger.specs.State.{Facts}
use Rattle.mq_ledger.specs.Written.{journal_entries}
use Rattle.mq_queue_side.specs.Laws.{IsFresh}
use Rattle.mq_queue_side.specs.Side.{IsQueueSide}
use Rattle.mq_queue_side.proofs.SideDraws.{opened}
use Rattle.mq_recover.specs.Drives.{DriveState, drive, view_over}
use Rattle.mq_recover.specs.Recovery.{IsReadPrefix, IsStartDrive, started}
use Rattle.mq_replica.specs.Contents.{Contents}
use Rattle.mq_replica.specs.Opened.{IsOpened, IsRootIdle, OpenedState, contents_of, known_over}
use Rattle.mq_replica.proofs.Journals.{base_is}
use Rattle.mq_replica.proofs.OpenedStands.{parts_top}

-- ---- the blocks as a list

abbrev pub listed : Contents → ℕ → ℕ → List (Option (List ℕ))
listed c first zero = []
listed c first (suc n) = Some (c first) ∷ listed c (first + 1) n

pub length-listed : (c : Contents) (first n : ℕ) → length (listed c first n) ≡ n
length-listed c first zero = refl
length-listed c first (suc n) = omega (arith, length-listed c (first + 1) n)

pub listed_at : (c : Contents) (first n k : ℕ) → k < n → get_or (listed c first n) k None ≡ Some (c (first + k))
listed_at c first zero k low = absurd (omega (arith, low))
listed_at c first (suc n) zero low = ap (λ (m : ℕ). Some (c m)) (omega arith)
listed_at c first (suc n) (suc k) low = listed_at c (first + 1) n k (omega (arith, low)) ∙ ap (λ (m : ℕ). Some (c m)) (omega arith)

-- ---- the journal

module _ (g : Geometry) (port root : PortState) (one : g.queues ≡ 1) (begin : IsStartDrive g (drive (port ∷ []) root)) where
  abbrev d : DriveState
  d = drive (port ∷ []) root

  abbrev home : Contents
  home = (view_over g d).home

  pub blocks : List (Option (List ℕ))
  blocks = listed home 0 (homes_of g)

  pub block_at : (x : ℕ) → x < homes_of g → get_or blocks x None ≡ Some (home x)
  unfolding blocks
  block_at x low = listed_at home 0 (homes_of g) x low ∙ ap (λ (m : ℕ). Some (home m)) (omega arith)

  pub many : length blocks ≡ homes_of g
  unfolding blocks
  many = length-listed home 0 (homes_of g)

  some_same : (a b : List ℕ) → Some a ≡ Some b → a ≡ b
  some_same a b e = cc

  facts : Facts journal_entries (started g d blocks)
  facts = start_facts journal_entries (started g d blocks) (begin blocks many (λ x block low there. some_same _ _ (sym (block_at x low) ∙ there)))

  abbrev k : Rattle.mq_ledger.specs.KnownJournal.KnownJournal
  k = known_over g blocks root.base port.doorbell []

  log : LogOk k
  log = record {
    entries = facts.log.entries;
    numbers = tt;
    limit = facts.log.limit;
    word_low = omega arith;
    word_high = omega arith;
    due = λ x v e. (let s = eqb-true v root.base e in omega (arith, s));
    each = λ t ts at. absurd at;
  }

  side : SideOk k 0 [] port
  side =
      let s = facts.sides 0 (omega (arith, one)) in
      record {
        queue = s.queue;
        part = ([], refl);
        port = s.port;
        order = s.order;
        limit = s.limit;
        ends = s.ends;
        ring = record { settled = s.ring.settled; start = s.ring.start; rung = s.ring.rung; waits = s.ring.waits };
        commands = s.commands;
        area = record { fits = s.area.fits; limit = s.area.limit; holds = s.area.holds };
        based = s.based;
        done = λ t ts at. absurd at;
        direct = s.direct;
        homes = λ x v block low zone due. s.homes x v block low zone (or_left _ _ due);
      }

  root_ok : RootOk k root
  root_ok = record {
    port = facts.root.port;
    posted = facts.root.posted;
    bases = facts.root.bases;
    homes = λ x v block low zone due. facts.root.homes x v block low zone (or_left _ _ due);
  }

  stands : root.stored_base ≡ root.base → RootStands k root
  stands same = record {
    port = root_ok;
    flushed = base_is g blocks root.base port.doorbell [] log;
    stored = subst (λ (b : ℕ). Rattle.mq_desk_laws.specs.Bases.BaseOk k b) (sym same) (base_is g blocks root.base port.doorbell [] log);
  }

  -- a fresh side over its port, with the root
  pub fresh_opened : (v : OpenedState) → v.side.port ≡ port → v.root ≡ root → v.rows ≡ [] → v.number ≡ root.base → IsFresh v.side → v.side.geometry ≡ g → v.side.queue ≡ 0 → port.head ≡ port.doorbell → IsRootIdle g root → IsOpened g v
  fresh_opened v at at_root none number fresh shape queue head idle = record {
    journal = record {
      one = one;
      start = blocks;
      from = port.doorbell;
      history = [];
      whole = many;
      full = λ x low. subst (λ (o : Option (List ℕ)). IsSome o) (sym (block_at x low)) refl;
      logged = tt;
      number_is = (let b = ap (λ (p : PortState). p.base) at_root in omega (arith, number, b));
      log = subst (λ (p : PortState). LogOk (known_over g blocks p.base port.doorbell [])) (sym at_root) log;
      side = subst (λ (p : PortState). IsQueueSide (known_over g blocks p.base port.doorbell []) 0 [] v.side) (sym at_root)
          (opened k 0 v.side fresh shape queue refl (ap (λ (p : PortState). p.doorbell) at) (subst (λ (p : PortState). SideOk k 0 [] p) (sym at) side));
      stored = none;
      root_is = subst (λ (p : PortState). RootStands (known_over g blocks p.base port.doorbell []) p) (sym at_root) (stands idle.quiet.quiet.base);
      idle = subst (λ (p : PortState). IsRootIdle g p) (sym at_root) idle;
    };
    settled = record {
      none = fresh.kept;
      rung = ap (λ (p : PortState). p.doorbell) at ∙ sym (add-zero port.doorbell);
      passed = (let e = ap (λ (p : PortState). p.head) at in omega (arith, e, head));
    };
  }

  -- the contents at home
  pub fresh_contents : (x : ℕ) → x < homes_of g → contents_of blocks [] x ≡ home x
  fresh_contents x low = ap content (block_at x low)

  -- no image shows a number above the base
  pub fresh_top : root.stored_base ≡ root.base → (ds : List Descriptor) (top : ℕ) → IsReadPrefix g (view_over g d) ds top → top ≤ root.base
  fresh_top same ds top read =
      let l = parts_top g blocks root.base port.doorbell [] port root one (λ x low. subst (λ (o : Option (List ℕ)). IsSome o) (sym (block_at x low)) refl) tt log side (stands same) ds top read in
      omega (arith, l)
