-- A home write keeps the port, and puts the content at home.
use Rattle.std.proofs.Common.{◌≡◌, ℕ, ◌<◌, true, false, List, length, get_or, set, Some, None, refl, sym, ap, subst, ◌∙◌, arith}
use Rattle.std.proofs.lemmas.List.{get_or-set_same}
use Rattle.mq_blocks.specs.Blocks.{content}
use Rattle.mq_blocks.specs.Drive.{PortState, IsApartFrom, index_of}
use Rattle.mq_blocks.specs.Geometry.{homes_of, zone_of, home_lba}
use Rattle.mq_blocks.specs.declared.geometry.Geometry.{Geometry}
use Rattle.mq_ledger.specs.KnownJournal.{KnownJournal, LogOk}
use Rattle.mq_ledger.specs.Sides.{Certainly, SideOk, RootOk, home_index}
use Rattle.mq_ledger.specs.declared.tx.Tx.{Tx}
use Rattle.mq_ledger.proofs.History.{last_at, changes_direct}
use Rattle.mq_core.specs.Events.{begin_home, end_home}
use Rattle.mq_core.specs.Homes.{IsLoggedLast}
use Rattle.mq_core.proofs.SidesCommands.{apart_along, apart_own}
use Rattle.mq_core.proofs.EventsPorts.{index-zone, index-root}
use Rattle.mq_core.proofs.EventsSideCommands.{posted_late, apart_home}
use Rattle.mq_core.proofs.KnownJournalSources.{late}
use Rattle.mq_core.proofs.Homes.{side_written, root_written, else_begin, else_end}

-- what has ended is at home, where no posted command writes the block
came : (g : Geometry) (x : ℕ) (block : List ℕ) (p : PortState) → index_of p (home_lba g x) ≡ home_index g x → home_index g x < length p.blocks → home_index g x < length p.certain → IsApartFrom p (home_index g x) p.posted → Certainly (end_home g x block p) (home_index g x) block
came g x block p at blocks certain apart =
    record {
      certain = record {
        certain = ap (λ n. get_or (set p.certain n true) (home_index g x) false) at ∙ get_or-set_same p.certain (home_index g x) true false certain;
        apart = apart_along p (end_home g x block p) (home_index g x) p.posted (λ lba. refl) apart;
      };
      is = ap content (ap (λ n. get_or (set p.blocks n (Some block)) (home_index g x) None) at ∙ get_or-set_same p.blocks (home_index g x) (Some block) None blocks);
    }

module _ (k : KnownJournal) (log : LogOk k) (x : ℕ) (block : List ℕ) (u : IsLoggedLast k x) where
  pub side_began : (q : ℕ) (txs : List Tx) (p : PortState) → SideOk k q txs p → zone_of k.geometry x ≡ Some q → SideOk k q txs (begin_home k.geometry x block p)
  side_began q txs p s zone =
      let n = begin_home k.geometry x block p in
      side_written k q txs p x n.blocks n.certain n.begun n.begins log s zone u (else_begin k.geometry x block p (index-zone k.geometry q x p s.port zone).0)

  pub root_began : (p : PortState) → RootOk k p → zone_of k.geometry x ≡ None → x < homes_of k.geometry → RootOk k (begin_home k.geometry x block p)
  root_began p r zone inside =
      let n = begin_home k.geometry x block p in
      root_written k p x n.blocks n.certain n.begun n.begins log r zone inside u (else_begin k.geometry x block p (index-root k.geometry x p r.port zone inside).0)

  pub side_ended : (q : ℕ) (txs : List Tx) (p : PortState) → SideOk k q txs p → zone_of k.geometry x ≡ Some q → SideOk k q txs (end_home k.geometry x block p)
  side_ended q txs p s zone =
      let n = end_home k.geometry x block p in
      side_written k q txs p x n.blocks n.certain n.begun n.begins log s zone u (else_end k.geometry x block p (index-zone k.geometry q x p s.port zone).0)

  pub root_ended : (p : PortState) → RootOk k p → zone_of k.geometry x ≡ None → x < homes_of k.geometry → RootOk k (end_home k.geometry x block p)
  root_ended p r zone inside =
      let n = end_home k.geometry x block p in
      root_written k p x n.blocks n.certain n.begun n.begins log r zone inside u (else_end k.geometry x block p (index-root k.geometry x p r.port zone inside).0)

  -- no posted command of its queue writes the block
  unposted : (q : ℕ) (txs : List Tx) (p : PortState) → SideOk k q txs p → zone_of k.geometry x ≡ Some q → IsApartFrom p (home_index k.geometry x) p.posted
  unposted q txs p s zone = apart_own k.entries.form p k.geometry q (k.from q) txs (home_index k.geometry x) p.posted s.commands.posted (λ n held.
      let l = posted_late k q txs p log s n held in
      apart_home k q txs p log s n x l.0 zone (λ d.
      let past = late k q txs p n x log s l.0.0 d in
      let most = last_at k.base d.t d.ts k.history x log.numbers d.at (changes_direct d.t x d.among) in
      let high = u.high in
      omega (arith, past, most, high)))

  -- the block has come home
  pub came_home : (q : ℕ) (txs : List Tx) (p : PortState) → SideOk k q txs p → zone_of k.geometry x ≡ Some q → Certainly (end_home k.geometry x block p) (home_index k.geometry x) block
  came_home q txs p s zone =
      let j = index-zone k.geometry q x p s.port zone in
      came k.geometry x block p j.0 (let l = s.port.blocks in omega (arith, j.2)) (let l = s.port.certain in omega (arith, j.2)) (unposted q txs p s zone)

  pub root_came : (p : PortState) → RootOk k p → zone_of k.geometry x ≡ None → x < homes_of k.geometry → Certainly (end_home k.geometry x block p) (home_index k.geometry x) block
  root_came p r zone inside =
      let j = index-root k.geometry x p r.port zone inside in
      came k.geometry x block p j.0 (let l = r.port.blocks in omega (arith, j.1)) (let l = r.port.certain in omega (arith, j.1)) (subst (λ cs. IsApartFrom p (home_index k.geometry x) cs) (sym r.posted) tt)
