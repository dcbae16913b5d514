-- A worked run: of two queues, one has its transaction done, the other has the one before it rung and
-- not completed. Its events are allowed, and the later number is not acknowledged after them.
use Rattle.std.proofs.Common.{◌≡◌, ℕ, List, [], ◌∷◌, length, None, refl, ap, inl, inr, lit<, lit≤, arith, replicate}
use Rattle.std.proofs.lemmas.Bool.{false≢true}
use Rattle.std.proofs.lemmas.List.{length-replicate}
use Rattle.std.proofs.lemmas.List.Elements.{All-cons, All-nil}
use Rattle.mq_blocks.specs.Descriptor.{further_for}
use Rattle.mq_blocks.specs.Geometry.{write_limit, shaped}
use Rattle.mq_blocks.specs.Blocks.{filled}
use Rattle.mq_blocks.specs.declared.geometry.Geometry.{Geometry}
use Rattle.mq_ledger.specs.KnownJournal.{IsTx}
use Rattle.mq_ledger.specs.Plain.{plain}
use Rattle.mq_ledger.specs.State.{State, front_of}
use Rattle.mq_ledger.specs.declared.tx.Tx.{Tx}
use Rattle.mq_core.specs.Machine.{Clear, Event, Draw, Stage, Flush, Ring, Complete, StoreHead, FlushHead, Acknowledge, IsAllowed, AreAllowed, run}
use Rattle.mq_core.specs.Start.{start_state}

abbrev pub tiny : Geometry
tiny = shaped 2 1024 5 1 (lit≤ tt, lit≤ tt) (lit≤ tt, lit≤ tt) (lit≤ tt, lit≤ tt, lit≤ tt)

abbrev first : Tx
first = record { number = 1; queue = 1; logged = (0, filled 1) ∷ []; direct = []; revoked = []; freed = [] }

abbrev second : Tx
second = record { number = 2; queue = 0; logged = (1, filled 2) ∷ []; direct = []; revoked = []; freed = [] }

abbrev at_start : State
at_start = start_state tiny (replicate 7 None) 0

abbrev events : List Event
events = Clear 1 1 ∷ Draw first ∷ Stage 1 ∷ Stage 1 ∷ Flush 1 ∷ Ring 1 ∷ Clear 0 2 ∷ Draw second ∷ Stage 0 ∷ Stage 0 ∷ Flush 0 ∷ Ring 0 ∷ Complete 0 0 ∷ Complete 0 1 ∷ StoreHead 0 2 ∷ FlushHead 0 ∷ []

pub long : (n : ℕ) → length (filled n) ≡ 4096
unfolding filled
long n = length-replicate 4096 n

first_form : IsTx tiny first
unfolding further_for write_limit
first_form = record {
  queue = lit< tt;
  logged = (lit≤ tt, lit< tt, tt);
  direct = tt;
  revoked = tt;
  freed = tt;
  whole = All-cons (λ w. length w.1 ≡ 4096) (0, filled 1) [] (long 1) (All-nil (λ w. length w.1 ≡ 4096));
  few = lit≤ tt;
  apart = (tt, tt);
  kept = tt;
  zoned = λ x e. absurd (false≢true e);
  revokes = λ x e. absurd (false≢true e);
}

second_form : IsTx tiny second
unfolding further_for write_limit
second_form = record {
  queue = lit< tt;
  logged = (lit≤ tt, lit< tt, tt);
  direct = tt;
  revoked = tt;
  freed = tt;
  whole = All-cons (λ w. length w.1 ≡ 4096) (1, filled 2) [] (long 2) (All-nil (λ w. length w.1 ≡ 4096));
  few = lit≤ tt;
  apart = (tt, tt);
  kept = tt;
  zoned = λ x e. absurd (false≢true e);
  revokes = λ x e. absurd (false≢true e);
}

not_first : (t : Tx) → first ≡ t → t.queue ≡ 0 → ⊥
not_first t same own = (let queue : 1 ≡ t.queue = ap (λ (u : Tx). u.queue) same in omega arith)

allowed : AreAllowed plain events at_start
unfolding further_for write_limit
allowed = (
  record { queue = lit< tt; each = λ t ts at own undone. absurd at },
  (
    (
      record { form = first_form; number = refl; limit = lit≤ tt; freed = λ x e. absurd (false≢true e); free = λ x e. absurd (false≢true e); settled = λ x e. absurd (false≢true e); revoked = λ x e. absurd (false≢true e) },
      record { rung = refl; failed = refl; ring = lit≤ tt; area = lit≤ tt; places = lit< tt; limit = lit≤ tt },
      lit≤ tt,
    ),
    (
      (lit< tt, lit< tt),
      (
        (lit< tt, lit< tt),
        (
          (lit< tt, record { drawn = lit< tt; whole = refl }),
          (
            (lit< tt, record { drawn = lit< tt; whole = refl; flushed = refl }),
            (
              record { queue = lit< tt; each = λ t ts at own undone. elim at [ inl same ↦ absurd (not_first t same.0 own) | inr deeper ↦ absurd deeper ] },
              (
                (
                  record { form = second_form; number = refl; limit = lit≤ tt; freed = λ x e. absurd (false≢true e); free = λ x e. absurd (false≢true e); settled = λ x e. absurd (false≢true e); revoked = λ x e. absurd (false≢true e) },
                  record { rung = refl; failed = refl; ring = lit≤ tt; area = lit≤ tt; places = lit< tt; limit = lit≤ tt },
                  lit≤ tt,
                ),
                (
                  (lit< tt, lit< tt),
                  (
                    (lit< tt, lit< tt),
                    (
                      (lit< tt, record { drawn = lit< tt; whole = refl }),
                      (
                        (lit< tt, record { drawn = lit< tt; whole = refl; flushed = refl }),
                        (
                          (lit< tt, refl),
                          (
                            (lit< tt, refl),
                            (
                              (lit< tt, record { is_end = refl; above = lit≤ tt; rung = lit≤ tt; posted = tt; failed = tt }),
                              (
                                lit< tt,
                                tt,
                              ),
                            ),
                          ),
                        ),
                      ),
                    ),
                  ),
                ),
              ),
            ),
          ),
        ),
      ),
    ),
  ),
)

front_there : front_of (run plain events at_start) ≡ 0
unfolding further_for write_limit
front_there = refl

refused : IsAllowed plain (Acknowledge 2) (run plain events at_start) → ⊥
refused may = (let front = front_there in omega arith)
