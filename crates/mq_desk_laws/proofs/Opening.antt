-- What lies on a desk at its opening is what the rule says of it.
use Rattle.std.proofs.Common.{◌≡◌, ℕ, zero, suc, ◌<◌, true, false, List, [], ◌∷◌, length, map, get_or, Option, Some, None, sym, refl, ap, subst, ◌∙◌, inl, inr, arith, eqb}
use Rattle.std.proofs.lemmas.Bool.{or_cases, or_left, eqb-true, false≢true}
use Rattle.std.specs.Prelude.{slice_get}
use lib.ListN.{length-map}
use Rattle.mq_blocks.specs.Drive.{PortState}
use Rattle.mq_blocks.specs.declared.geometry.Geometry.{Geometry}
use Rattle.mq_drive.specs.Faults.{count_of}
use Rattle.mq_drive.specs.Steps.{PortFault}
use Rattle.mq_ledger.specs.KnownJournal.{KnownJournal, LogOk}
use Rattle.mq_ledger.specs.Sides.{SideOk, AreHome}
use Rattle.mq_ledger.specs.State.{State, Facts, known_of, no_port}
use Rattle.mq_ledger.specs.Written.{journal_entries}
use Rattle.mq_core.proofs.KnownJournalGrowth.{side_moved}
use Rattle.mq_core.proofs.MachineFacts.{start_facts}
use Rattle.mq_desk_laws.specs.Bases.{BaseOk}
use Rattle.mq_desk_laws.proofs.BasesOpenings.{first_base}
use Rattle.mq_pages.specs.declared.page.PageCell.{PageCell}
use Rattle.mq_turns.specs.Meaning.{opened}
use Rattle.mq_turns.specs.declared.rule.Known.{Known}
use Rattle.mq_turns.specs.declared.rule.Opening.{Opening}
use Rattle.mq_turns.specs.declared.turn.Turn.{Turn}
use Rattle.mq_turns.specs.declared.turn.Turn.TheVariants.{Side, Root}
use Rattle.mq_desk_laws.specs.Faults.{AreCharged, of_kind}
use Rattle.mq_desk_laws.specs.Groups.{GroupView}
use Rattle.mq_desk_laws.specs.Opening.{state_of, IsFresh, IsRuled}
use Rattle.mq_desk_laws.specs.Rule
use Rattle.mq_desk_laws.specs.Values.{Values}

nothing_charged : (g : Geometry) (t : Turn) (old new : List PortFault) → old ≡ new → AreCharged g t [] old new
nothing_charged g t old new same = inr (record {
  more = λ f. let e = ap (count_of f) same in omega arith;
  counts = λ f. let e = ap (count_of (of_kind f)) same in omega arith;
  named = tt;
})

pub at_map : {A B : Type 0} (f : A → B) (xs : List A) (i : ℕ) (x : A) (d : B) → slice_get xs i ≡ Some x → (get_or (map f xs) i d ≡ f x) × (i < length xs)
at_map f [] i x d e = absurd (cc)
at_map f (y ∷ ys) zero x d e = let same : y ≡ x = cc in (ap f same, omega arith)
at_map f (y ∷ ys) (suc i) x d e = let ih = at_map f ys i x d e in (ih.0, let lt = ih.1 in omega arith)

module _ {Q R E : Type 0} (values : Values Q R E) (group : GroupView E) (o : Opening PageCell Q R) (fresh : IsFresh values group o) where
  abbrev s : State
  s = state_of values group o

  abbrev k : KnownJournal
  k = known_of journal_entries s

  -- what is known on the desk
  abbrev shown : Known PageCell Q R E
  shown = opened o

  abbrev core : KnownJournal
  core = Rule.core_of values group shown

  facts : Facts journal_entries s
  facts = start_facts journal_entries s fresh.start

  due_before : (x v : ℕ) → core.due x v ≡ true → k.due x v ≡ true
  due_before x v e = elim (or_cases (eqb v o.base) false e) [
    | inl at ↦ or_left (eqb v (values.root o.root).base) (eqb v (values.root o.root).stored_base) (ap (eqb v) fresh.start.base ∙ at)
    | inr none ↦ absurd (false≢true none)
  ]

  homes : (z : Option ℕ) (p : PortState) → AreHome k z p → AreHome core z p
  homes z p h x v content block zone due there m = h x v content block zone (due_before x v due) there m

  log : LogOk core
  log = record {
    entries = fresh.start.entries;
    numbers = tt;
    limit = let low = fresh.start.low in omega arith;
    word_low = omega arith;
    word_high = omega arith;
    due = λ x v e. elim (or_cases (eqb v o.base) false e) [
      | inl at ↦ let is = eqb-true v o.base at in omega arith
      | inr none ↦ absurd (false≢true none)
    ];
    each = λ t ts at. absurd at;
  }

  base : BaseOk core o.base
  base = first_base core [] log refl

  side : (q : ℕ) (p : PortState) → SideOk k q [] p → SideOk core q [] p
  side q p was = side_moved k q [] p [] core.done core.due o.base was (record {
    part = ([], refl);
    fits = was.area.fits;
    low = omega arith;
    based = was.based;
    done = λ t ts at. absurd at;
    change = λ x v l. l;
  }) (homes (Some q) p was.homes)

  pub opening_ruled : IsRuled values group o
  opening_ruled = record {
    ok = record { log = log; claims = tt; base = base; legal = fresh.good; ports = tt };
    pages = λ b c at.
        let is = fresh.cells b c at in
        let there = (at_map (λ (d : PageCell). d.content) o.pages b c None at).0 in
        record { content = sym there; version = is.0; last_logged = is.1; home_version = let home = is.2 in omega arith };
    sides = λ q w at.
        let there = at_map values.port o.sides q w no_port at in
        let many = length-map o.sides values.port in
        let all = fresh.start.ports in
        let own : q < (Rule.shape_of values group o).queues = let lt = there.1 in omega arith in
        record {
          port = side q (values.port w) (subst (λ p. SideOk k q [] p) there.0 (facts.sides q own));
          stored = fresh.stored q w at;
          says = fresh.says q w at;
          charged = nothing_charged (Rule.shape_of values group o) (Side q) (Rule.faults_of values group o q) (values.faults w) (at_map values.faults o.sides q w [] at).0;
        };
    root =
        let base_is = fresh.start.base in
        let stored_is = fresh.start.stored_base in
        record {
          says = fresh.shape;
          port = record {
            port = record { port = facts.root.port; posted = facts.root.posted; bases = (omega arith, omega arith); homes = homes None (values.root o.root) facts.root.homes };
            flushed = subst (λ b. BaseOk core b) (sym base_is) base;
            stored = subst (λ b. BaseOk core b) (sym stored_is) base;
          };
          bound = record { fuse = refl; fail = refl };
          charged = nothing_charged (Rule.shape_of values group o) Root (values.root_faults o.root) (values.root_faults o.root) refl;
        };
  }
