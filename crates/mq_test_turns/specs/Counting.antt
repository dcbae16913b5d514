-- A machine for tests. An entry is a vote on a queue, the port of the queue's side counts the votes, and
-- the root is the base word.
use Rattle.std.specs.Prelude.{◌≡◌, ◌==◌, ℕ, ◌+◌, ◌%◌, false, List, [], ◌∷◌, map, slice_index_or}
use Rattle.mq_turns.specs.Lists.{tick}
use Rattle.mq_turns.specs.Meaning.{Meaning, Touch}
use Rattle.mq_turns.specs.declared.rule.Known.{Known}
use Rattle.mq_turns.specs.declared.turn.Turn.TheVariants.{Page, Side, Root}

module _ {E : Type 0} (queue : E → ℕ) where
  -- the votes of a queue
  abbrev pub votes : ℕ → List E → ℕ
  votes q [] = 0
  votes q (e ∷ es) = tick (queue e) q + votes q es

  abbrev pub vote_touches : Touch E
  vote_touches log e (Page b) = false
  vote_touches log e (Side q) = queue e == q
  vote_touches log e Root = false

  module _ {Q : Type 0} (state : Q → ℕ) where
    -- the port has counted the votes, from what it stood at when the desk was opened
    abbrev pub Counted : ℕ → Known ℕ Q ℕ E → Q → Type 0
    Counted q K x =
        state x % 18446744073709551616
        ≡ (slice_index_or (map state K.opening.sides) q 0 + votes q K.log) % 18446744073709551616

module _ {E Q : Type 0} (queue session group : E → ℕ) (state : Q → ℕ) where
  abbrev pub counting : Meaning ℕ Q ℕ E
  counting = record {
    touches = vote_touches queue;
    lies = λ o h t. false;
    queue = queue;
    session = session;
    group = group;
    ok = λ K. Unit {0};
    page = λ b K p. Unit {0};
    side = Counted queue state;
    root = λ K r. r ≡ K.word;
    may = λ e K. Unit {0};
    fits = λ e K. Unit {0};
  }
