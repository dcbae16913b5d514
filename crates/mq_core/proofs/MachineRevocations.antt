-- A worked run with a block that is written directly after its copy: allowed once the free is done, and
-- only with the copy revoked, until the base has passed the copy.
use Rattle.std.proofs.Common.{◌≡◌, ◌≢◌, ◌<◌, ◌≤◌, ℕ, true, false, List, [], ◌∷◌, ◌++◌, length, Option, Some, None, refl, sym, ap, subst, ◌∙◌, inl, inr, ◌⊎◌, lit<, lit≤, arith, replicate, eqb, set}
use Rattle.std.proofs.lemmas.Bool.{cases_Bool, cases_eq, cases_lt, eqb-true, false≢true}
use Rattle.std.proofs.lemmas.List.{get_or-set_other, get_or-replicate, get_or_past, length-replicate}
use Rattle.std.proofs.lemmas.List.Elements.{All-cons, All-nil}
use Rattle.mq_blocks.specs.Descriptor.{further_for}
use Rattle.mq_blocks.specs.Geometry.{write_limit, shaped}
use Rattle.mq_blocks.specs.Blocks.{filled}
use Rattle.mq_blocks.specs.Descriptor.{AreRising}
use Rattle.mq_blocks.specs.Geometry.{zone_of}
use Rattle.mq_blocks.specs.Journal.{is_among}
use Rattle.mq_blocks.specs.Machine.{after}
use Rattle.mq_blocks.specs.declared.geometry.Geometry.{Geometry}
use Rattle.mq_ledger.specs.History.{map_after, last, last_logged}
use Rattle.mq_ledger.specs.KnownJournal.{IsTx}
use Rattle.mq_ledger.specs.Plain.{plain}
use Rattle.mq_ledger.specs.State.{State, start_map, is_done}
use Rattle.mq_ledger.specs.declared.tx.Tx.{Tx}
use Rattle.mq_core.specs.Machine.{Event, Draw, Stage, Flush, Ring, Complete, StoreHead, FlushHead, Clear, StoreBase, FlushBase, IsAllowed, AreAllowed, IsAlwaysLawful, run}
use Rattle.mq_core.specs.Start.{start_state}
use Rattle.mq_core.proofs.MachineExamples.{long}
use Rattle.mq_core.proofs.MachineFacts.{run_is_lawful}
use Rattle.mq_core.proofs.Start.{start_is}

-- block 5 is one of the metadata region, and block 70 the zone of queue 1
abbrev wide : Geometry
wide = shaped 2 1024 69 1 (lit≤ tt, lit≤ tt) (lit≤ tt, lit≤ tt) (lit≤ tt, lit≤ tt, lit≤ tt)

abbrev logs : Tx
logs = record { number = 1; queue = 0; logged = (70, filled 1) ∷ []; direct = []; revoked = []; freed = [] }

abbrev frees : Tx
frees = record { number = 2; queue = 0; logged = (5, filled 2) ∷ []; direct = []; revoked = []; freed = 70 ∷ [] }

abbrev writes_directly : List ℕ → Tx
writes_directly revoked = record { number = 3; queue = 1; logged = []; direct = (70, filled 3) ∷ []; revoked = revoked; freed = [] }

-- block 5 is in the map, and all others are free
abbrev blocks_at_start : List (Option (List ℕ))
blocks_at_start = set (replicate 71 None) 5 (Some (filled 9))

abbrev at_start : State
at_start = start_state wide blocks_at_start 0

-- the first is done
abbrev first_done : List Event
first_done = Clear 0 1 ∷ Draw logs ∷ Stage 0 ∷ Stage 0 ∷ Flush 0 ∷ Ring 0 ∷ Complete 0 0 ∷ Complete 0 1 ∷ StoreHead 0 2 ∷ FlushHead 0 ∷ []

-- the second is rung
abbrev second_rung : List Event
second_rung = Clear 0 2 ∷ Draw frees ∷ Stage 0 ∷ Stage 0 ∷ Flush 0 ∷ Ring 0 ∷ Clear 1 3 ∷ []

-- the second is done
abbrev second_done : List Event
second_done = Complete 0 2 ∷ Complete 0 3 ∷ StoreHead 0 4 ∷ FlushHead 0 ∷ []

-- the base is 1
abbrev raised : List Event
raised = StoreBase 1 ∷ FlushBase ∷ []

abbrev rung : List Event
rung = first_done ++ second_rung

abbrev done : List Event
done = rung ++ second_done

-- ---- the run is allowed

allowed-then : (vs ws : List Event) (s : State) → AreAllowed plain vs s → AreAllowed plain ws (run plain vs s) → AreAllowed plain (vs ++ ws) s
allowed-then [] ws s may rest = rest
allowed-then (v ∷ vs) ws s may rest = (may.0, allowed-then vs ws _ may.1 rest)

only : (x : ℕ) → is_among x (70 ∷ []) ≡ true → 70 ≡ x
only x e = elim (cases_Bool (eqb 70 x)) [
  | inl same ↦ eqb-true _ _ same
  | inr other ↦ absurd (false≢true (rw other at e))
]

copied : map_after (start_map blocks_at_start) (logs ∷ []) 70 ≡ Some (filled 1)
unfolding after
copied = refl

gone : map_after (start_map blocks_at_start) (frees ∷ logs ∷ []) 70 ≡ None
unfolding after
gone = refl

logs_form : IsTx wide logs
unfolding further_for write_limit
logs_form = record {
  queue = lit< tt;
  logged = (lit≤ tt, lit< tt, tt);
  direct = tt;
  revoked = tt;
  freed = tt;
  whole = All-cons (λ w. length w.1 ≡ 4096) (70, filled 1) [] (long 1) (All-nil (λ w. length w.1 ≡ 4096));
  few = lit≤ tt;
  apart = (tt, tt);
  kept = tt;
  zoned = λ x e. absurd (false≢true e);
  revokes = λ x e. absurd (false≢true e);
}

frees_form : IsTx wide frees
unfolding further_for write_limit
frees_form = record {
  queue = lit< tt;
  logged = (lit≤ tt, lit< tt, tt);
  direct = tt;
  revoked = tt;
  freed = (lit≤ tt, lit< tt, tt);
  whole = All-cons (λ w. length w.1 ≡ 4096) (5, filled 2) [] (long 2) (All-nil (λ w. length w.1 ≡ 4096));
  few = lit≤ tt;
  apart = (tt, tt);
  kept = ((λ e. let never : 70 ≡ 5 = e in omega arith, tt), tt);
  zoned = λ x e. absurd (false≢true e);
  revokes = λ x e. absurd (false≢true e);
}

-- of queue 0, not of queue 1
not_other : (u t : Tx) → u ≡ t → u.queue ≡ 0 → t.queue ≡ 1 → ⊥
not_other u t same own other = (let queue : u.queue ≡ t.queue = ap (λ (v : Tx). v.queue) same in omega arith)

first_may : AreAllowed plain first_done at_start
unfolding further_for write_limit
first_may = (
  record { queue = lit< tt; each = λ t ts at own undone. absurd at },
  (
    (
      record { form = logs_form; number = refl; limit = lit≤ tt; freed = λ x e. absurd (false≢true e); free = λ x e. absurd (false≢true e); settled = λ x e. absurd (false≢true e); revoked = λ x e. absurd (false≢true e) },
      record { rung = refl; failed = refl; ring = lit≤ tt; area = lit≤ tt; places = lit< tt; limit = lit≤ tt },
      lit≤ tt,
    ),
    (
      (lit< tt, lit< tt),
      (
        (lit< tt, lit< tt),
        (
          (lit< tt, record { drawn = lit< tt; whole = refl }),
          (
            (lit< tt, record { drawn = lit< tt; whole = refl; flushed = refl }),
            ((lit< tt, refl), ((lit< tt, refl), ((lit< tt, record { is_end = refl; above = lit≤ tt; rung = lit≤ tt; posted = tt; failed = tt }), (lit< tt, tt)))),
          ),
        ),
      ),
    ),
  ),
)

logs_done : (t : Tx) (ts : List Tx) → ((logs ≡ t) × ([] ≡ ts)) ⊎ ⊥ → is_done (0 ∷ 0 ∷ []) (run plain first_done at_start).ports t ts ≡ false → ⊥
unfolding further_for write_limit
logs_done t ts at undone = elim at [
  | inl is ↦
      let here : is_done (0 ∷ 0 ∷ []) (run plain first_done at_start).ports logs [] ≡ false = subst (λ u. is_done (0 ∷ 0 ∷ []) (run plain first_done at_start).ports u [] ≡ false) (sym is.0) (subst (λ txs. is_done (0 ∷ 0 ∷ []) (run plain first_done at_start).ports t txs ≡ false) (sym is.1) undone) in
      false≢true (sym here)
  | inr none ↦ absurd none
]

second_may : AreAllowed plain second_rung (run plain first_done at_start)
unfolding further_for write_limit
second_may = (
  record { queue = lit< tt; each = λ t ts at own undone. absurd (logs_done t ts at undone) },
  (
    (
      record {
        form = frees_form;
        number = refl;
        limit = lit≤ tt;
        freed = λ x e. (filled 1, subst (λ n. map_after (start_map blocks_at_start) (logs ∷ []) n ≡ Some (filled 1)) (only x e) copied);
        free = λ x e. absurd (false≢true e);
        settled = λ x e. absurd (false≢true e);
        revoked = λ x e. absurd (false≢true e);
      },
      record { rung = refl; failed = refl; ring = lit≤ tt; area = lit≤ tt; places = lit< tt; limit = lit≤ tt },
      lit≤ tt,
    ),
    (
      (lit< tt, lit< tt),
      (
        (lit< tt, lit< tt),
        (
          (lit< tt, record { drawn = lit< tt; whole = refl }),
          (
            (lit< tt, record { drawn = lit< tt; whole = refl; flushed = refl }),
            (record { queue = lit< tt; each = λ t ts at own undone. elim at [ inl first ↦ absurd (not_other frees t first.0 refl own) | inr deeper ↦ elim deeper [ inl first ↦ absurd (not_other logs t first.0 refl own) | inr none ↦ absurd none ] ] }, tt),
          ),
        ),
      ),
    ),
  ),
)

done_may : AreAllowed plain second_done (run plain rung at_start)
unfolding further_for write_limit
done_may = ((lit< tt, refl), ((lit< tt, refl), ((lit< tt, record { is_end = refl; above = lit≤ tt; rung = lit≤ tt; posted = tt; failed = tt }), (lit< tt, tt))))

run_may : AreAllowed plain done at_start
run_may = allowed-then rung second_done at_start (allowed-then first_done second_rung at_start first_may second_may) done_may

-- ---- the direct write

form : (revoked : List ℕ) → AreRising 0 71 revoked → ((x : ℕ) → is_among x revoked ≡ true → is_among x (70 ∷ []) ≡ true) → IsTx wide (writes_directly revoked)
unfolding further_for write_limit
form revoked rising within = record {
  queue = lit< tt;
  logged = tt;
  direct = (lit≤ tt, lit< tt, tt);
  revoked = rising;
  freed = tt;
  whole = All-cons (λ w. length w.1 ≡ 4096) (70, filled 3) [] (long 3) (All-nil (λ w. length w.1 ≡ 4096));
  few = lit≤ tt;
  apart = tt;
  kept = tt;
  zoned = λ x e. subst (λ n. zone_of wide n ≡ Some 1) (only x e) refl;
  revokes = within;
}

-- allowed once the free is done
allowed : IsAllowed plain (Draw (writes_directly (70 ∷ []))) (run plain done at_start)
unfolding further_for write_limit
allowed = (
  record {
    form = form (70 ∷ []) (lit≤ tt, lit< tt, tt) (λ x e. e);
    number = refl;
    limit = lit≤ tt;
    freed = λ x e. absurd (false≢true e);
    free = λ x e. subst (λ n. map_after (start_map blocks_at_start) (frees ∷ logs ∷ []) n ≡ None) (only x e) gone;
    settled = λ x e. subst (λ n. last 0 (frees ∷ logs ∷ []) n ≤ 2) (only x e) (lit≤ tt);
    revoked = λ x e above. e;
  },
  record { rung = refl; failed = refl; ring = lit≤ tt; area = lit≤ tt; places = lit< tt; limit = lit≤ tt },
  lit≤ tt,
)

-- so the whole run is lawful
lawful : IsAlwaysLawful plain (done ++ Draw (writes_directly (70 ∷ [])) ∷ []) at_start
lawful = run_is_lawful plain at_start (done ++ Draw (writes_directly (70 ∷ [])) ∷ []) (start_is wide blocks_at_start refl 0 (lit≤ tt)) (allowed-then done (Draw (writes_directly (70 ∷ [])) ∷ []) at_start run_may (allowed, tt))

refused_before : IsAllowed plain (Draw (writes_directly (70 ∷ []))) (run plain rung at_start) → ⊥
unfolding further_for write_limit
refused_before may = (let settled : 2 ≤ 1 = may.0.settled 70 refl in omega arith)

refused_unrevoked : IsAllowed plain (Draw (writes_directly [])) (run plain done at_start) → ⊥
refused_unrevoked may = false≢true (may.0.revoked 70 refl (lit< tt))

-- ---- a base past the copy

free_at_start : (x : ℕ) → x ≢ 5 → start_map blocks_at_start x ≡ None
free_at_start x off = get_or-set_other (replicate 71 None) 5 x (Some (filled 9)) None off ∙ elim (cases_lt x 71) [
  | inl below ↦ get_or-replicate 71 x None None below
  | inr past ↦ get_or_past (replicate 71 None) x None (omega (arith, past, length-replicate {A = Option (List ℕ)} 71 None))
]

-- the map after the first transaction has the blocks 5 and 70 alone
in_first : (x : ℕ) (block : List ℕ) → map_after (start_map blocks_at_start) (logs ∷ []) x ≡ Some block → (x ≡ 5) ⊎ (x ≡ 70)
unfolding after
in_first x block there = elim (cases_Bool (eqb 70 x)) [
  | inl same ↦ inr (sym (eqb-true _ _ same))
  | inr other ↦ elim (cases_eq x 5) [
    | inl five ↦ inl five
    | inr off ↦
        let start : start_map blocks_at_start x ≡ Some block = rw other at there in
        let never : None ≡ Some block = sym (free_at_start x off) ∙ start in
        absurd (cc never)
  ]
]

raised_may : AreAllowed plain raised (run plain done at_start)
unfolding further_for write_limit
raised_may = (
  record {
    above = lit≤ tt;
    reached = lit≤ tt;
    home = λ x block inside there old. elim (in_first x block there) [
      | inl five ↦ (let last_five : 2 ≤ 1 = subst (λ n. last 0 (frees ∷ logs ∷ []) n ≤ 1) five old in absurd (omega arith))
      | inr seventy ↦ (let last_seventy : 2 ≤ 1 = subst (λ n. last 0 (frees ∷ logs ∷ []) n ≤ 1) seventy old in absurd (omega arith))
    ];
  },
  (tt, tt),
)

allowed_unrevoked : IsAllowed plain (Draw (writes_directly [])) (run plain (done ++ raised) at_start)
unfolding further_for write_limit
allowed_unrevoked = (
  record {
    form = form [] tt (λ x e. absurd (false≢true e));
    number = refl;
    limit = lit≤ tt;
    freed = λ x e. absurd (false≢true e);
    free = λ x e. subst (λ n. map_after (start_map blocks_at_start) (frees ∷ logs ∷ []) n ≡ None) (only x e) gone;
    settled = λ x e. subst (λ n. last 0 (frees ∷ logs ∷ []) n ≤ 2) (only x e) (lit≤ tt);
    revoked = λ x e above. (let none : 1 < 1 = subst (λ n. 1 < last_logged 0 (frees ∷ logs ∷ []) n) (sym (only x e)) above in absurd (omega arith));
  },
  record { rung = refl; failed = refl; ring = lit≤ tt; area = lit≤ tt; places = lit< tt; limit = lit≤ tt },
  lit≤ tt,
)
