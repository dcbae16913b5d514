-- What is known says the machine's guards of home writes and of bases.
use Rattle.std.proofs.Common.{◌≡◌, ℕ, ◌<◌, max, List, Some, refl, arith}
use Rattle.mq_blocks.specs.Geometry.{homes_of, zone_of}
use Rattle.mq_ledger.specs.History.{map_after}
use Rattle.mq_ledger.specs.KnownJournal.{front}
use Rattle.mq_ledger.specs.State.{front_of}
use Rattle.mq_ledger.proofs.History.{last_upto_more}
use Rattle.mq_core.specs.Events.{MayWriteHome, MayStoreBase}
use Rattle.mq_core.specs.Homes.{IsLoggedLast}
use Rattle.mq_desk_laws.specs.Bases.{BaseOk}
use Rattle.mq_state_laws.specs.Parts.{Parts, AreParts, known, state, state_with}
use Rattle.mq_state_laws.proofs.PartsAssembly.{front_reached, based_home}
use Rattle.mq_desk_laws.proofs.PagesHomeWrites.{above_base}
use Rattle.mq_desk_laws.proofs.BasesOpenings.{greater_base}

pub may_write_home : (p : Parts) (marks : List ℕ) → AreParts p → (x : ℕ) (content : List ℕ) → x < homes_of p.geometry → map_after (known p).start p.history x ≡ Some content → IsLoggedLast (known p) x → MayWriteHome (state_with marks p) x
may_write_home p marks are x content inside there u =
    record {
      block = inside;
      there = (content, there);
      low = above_base (known p) p.root.stored_base x content are.log are.root.stored u inside there;
      high = (let high = u.high in omega (arith, front_reached p are));
      logged = u.logged;
    }

pub may_store_base : (p : Parts) (marks : List ℕ) → AreParts p → (b : ℕ) → BaseOk (known p) b → MayStoreBase p.entries (state_with marks p) (max b p.root.stored_base)
may_store_base p marks are b one =
    let n = max b p.root.stored_base in
    let ok : BaseOk (known p) n = greater_base (known p) b p.root.stored_base one are.root.stored in
    record {
      above = omega arith;
      reached = (let reached = ok.reached in omega (arith, front_reached p are));
      home = λ x block inside there m. based_home p are n ok x block (zone_of p.geometry x) refl inside there (omega (arith, last_upto_more p.base (front (known p)) (front_of (state p)) p.history x are.log.numbers (front_reached p are), m));
    }
