-- The root's port, as bases are stored and flushed, and as the base word is raised.
use Rattle.std.proofs.Common.{ℕ, ◌≤◌, max, List, [], refl, arith}
use Rattle.mq_blocks.specs.Drive.{PortState, after_store_base, after_flush}
use Rattle.mq_ledger.specs.KnownJournal.{KnownJournal, LogOk, front}
use Rattle.mq_ledger.specs.Sides.{RootOk, SideOk}
use Rattle.mq_ledger.specs.declared.tx.Tx.{Tx}
use Rattle.mq_core.proofs.HistoryBases.{log_based, side_based}
use Rattle.mq_core.proofs.Roots.{root_based, root_stored, root_flushed}
use Rattle.mq_desk_laws.specs.Bases.{BaseOk, RootStands}
use Rattle.mq_desk_laws.specs.Grown.{HasGrown}
use Rattle.mq_desk_laws.proofs.Bases.{base_later}
use Rattle.mq_desk_laws.proofs.BasesOpenings.{greater_base}

-- the word is raised to a base that the root's port has flushed
module _ (k : KnownJournal) (b : ℕ) (log : LogOk k) (above : k.word ≤ b) (reached : b ≤ front k) where
  abbrev pub raised : KnownJournal
  raised = record k { word = b }

  pub log_raised : LogOk raised
  log_raised = log_based k k.due b log above reached log.due

  pub side_raised : (q : ℕ) (txs : List Tx) (p : PortState) → SideOk k q txs p → SideOk raised q txs p
  side_raised q txs p s = side_based k k.due b log above reached q txs p s s.homes

  pub root_raised : (p : PortState) → RootOk k p → b ≤ p.base → RootOk raised p
  root_raised p r low = root_based k k.due b p r low r.homes

-- ---- with its bases

pub stands_stored : (k : KnownJournal) (p : PortState) (b : ℕ) → RootStands k p → BaseOk k b → RootStands k (after_store_base p (max b p.stored_base))
stands_stored k p b r ok =
    let up = r.port.bases.1 in
    record { port = root_stored k p (max b p.stored_base) r.port (omega arith); flushed = r.flushed; stored = greater_base k b p.stored_base ok r.stored }

pub stands_flushed : (k : KnownJournal) (p : PortState) → RootStands k p → RootStands k (after_flush p)
stands_flushed k p r = record { port = root_flushed k p r.port; flushed = r.stored; stored = r.stored }

pub grown_word : (k : KnownJournal) (b : ℕ) → k.word ≤ b → HasGrown k (record k { word = b })
grown_word k b above = record { newer = []; done = k.done; due = k.due; word = b; is = refl; more_done = λ t ts at d. d; more_due = λ x v d. d; above = above }

pub stands_raised : (k : KnownJournal) (b : ℕ) (p : PortState) → LogOk k → RootStands k p → k.word ≤ b → b ≤ p.base → RootStands (record k { word = b }) p
stands_raised k b p log r above low =
    let f = r.flushed in
    let reached : b ≤ front k = (let up = f.reached in omega arith) in
    let log' = log_raised k b log above reached in
    record {
      port = root_raised k b log above reached p r.port low;
      flushed = base_later k (record k { word = b }) p.base log log' (grown_word k b above) r.flushed;
      stored = base_later k (record k { word = b }) p.stored_base log log' (grown_word k b above) r.stored;
    }
