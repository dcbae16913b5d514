-- What is known of a journal grows: newer transactions, more that is done, more contents at home, a later
-- base word.
use Rattle.std.specs.Prelude.{◌≡◌, ◌≤◌, ℕ, Bool, true, List, ◌++◌}
use Rattle.mq_ledger.specs.History.{IsAt}
use Rattle.mq_ledger.specs.KnownJournal.{KnownJournal}
use Rattle.mq_ledger.specs.declared.tx.Tx.{Tx}

-- with these newer transactions, and with another word on what is done, on what is kept at home, and on the
-- base
abbrev pub grown_to : KnownJournal → List Tx → (Tx → List Tx → Bool) → (ℕ → ℕ → Bool) → ℕ → KnownJournal
grown_to k newer done due word =
    record k { history = newer ++ k.history; done = done; due = due; word = word }

-- What is known at the one moment has grown to what is known at the other: nothing is taken back.
pub record HasGrown (k l : KnownJournal) : Type 0 where
  pub newer : List Tx
  pub done : Tx → List Tx → Bool
  pub due : ℕ → ℕ → Bool
  pub word : ℕ
  pub is : l ≡ grown_to k newer done due word
  pub more_done : (t : Tx) (ts : List Tx) → IsAt t ts k.history → k.done t ts ≡ true → done t ts ≡ true
  pub more_due : (x v : ℕ) → k.due x v ≡ true → due x v ≡ true
  pub above : k.word ≤ word
