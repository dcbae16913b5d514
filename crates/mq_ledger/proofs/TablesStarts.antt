-- The tables of a history's start: nothing changed a block, and no queue has an entry.
use Rattle.std.proofs.Common.{◌≡◌, ℕ, ◌≤◌, List, [], length, get_or, reverse, Option, replicate, sym, refl, ap, subst, ◌∙◌, arith}
use Rattle.std.proofs.lemmas.List.{length-replicate, get_or-replicate}
use Rattle.mq_blocks.specs.Geometry.{homes_of}
use Rattle.mq_blocks.specs.Journal.{number_limit}
use Rattle.mq_blocks.specs.declared.geometry.Geometry.{Geometry}
use Rattle.mq_ledger.specs.Records.{Ledger}
use Rattle.mq_ledger.specs.State.{from_at}
use Rattle.mq_ledger.specs.Tables.{AreLatest, AreTables, IsLatest, latest_at, no_latest}
use Rattle.mq_ledger.specs.declared.latest.Latest.{Latest}
use Rattle.mq_ledger.specs.declared.latest.Place.TheVariants.{Start}
use Rattle.mq_ledger.specs.declared.queue_rows.Row.{Row}
use Rattle.mq_ledger.specs.declared.tx.Tx.{Tx}

abbrev pub latest_from : ℕ → Latest
latest_from base = record { change = base; logged = base; place = Start }

latest_start : (start : List (Option (List ℕ))) (base homes : ℕ) (table : List Latest) → table ≡ replicate homes (latest_from base) → AreLatest start base [] homes table
latest_start start base homes table is =
    record {
      size = ap length is ∙ length-replicate homes (latest_from base);
      each = λ x low.
          let e : latest_at table x ≡ latest_from base = ap (λ t. latest_at t x) is ∙ get_or-replicate homes x (latest_from base) no_latest low in
          subst (λ l. IsLatest start base [] x l) (sym e) (record { change = refl; logged = refl; place = refl });
    }

-- what the code makes of the start
pub record IsStart (g : Geometry) (start : List (Option (List ℕ))) (base : ℕ) (starts : List ℕ) (history : List Tx) (ends : List ℕ) (newest settled : List Latest) (rows : List (List Row)) : Type 0 where
  pub size : length start ≡ homes_of g
  pub limit : base ≤ number_limit
  pub starts_are : starts ≡ replicate g.queues 0
  pub history_is : history ≡ []
  pub ends_are : ends ≡ []
  pub newest_is : newest ≡ replicate (homes_of g) (latest_from base)
  pub settled_is : settled ≡ replicate (homes_of g) (latest_from base)
  pub rows_are : rows ≡ replicate g.queues []

abbrev ledger_with : Geometry → List (Option (List ℕ)) → ℕ → List ℕ → List Tx → Ledger
ledger_with g start base starts history = record { geometry = g; start = start; base = base; starts = starts; history = reverse history; front = base }

pub tables_start : (g : Geometry) (start : List (Option (List ℕ))) (base : ℕ) (starts : List ℕ) (history : List Tx) (ends : List ℕ) (newest settled : List Latest) (rows : List (List Row)) → IsStart g start base starts history ends newest settled rows → AreTables (ledger_with g start base starts history) newest settled rows ends
tables_start g start base starts history ends newest settled rows s =
    let empty : AreTables (ledger_with g start base starts []) newest settled rows [] = record {
      numbers = tt;
      limit = omega (arith, s.limit);
      front_low = omega arith;
      front_high = omega arith;
      each = λ t ts at. absurd at;
      start_size = s.size;
      starts_size = ap length s.starts_are ∙ length-replicate g.queues 0;
      newest_is = latest_start start base (homes_of g) newest s.newest_is;
      settled_is = latest_start start base (homes_of g) settled s.settled_is;
      lanes_size = ap length s.rows_are ∙ length-replicate g.queues [];
      lanes_are = λ q own. ap (λ rs. get_or rs q []) s.rows_are ∙ get_or-replicate g.queues q [] [] own;
      ends_are = refl;
      counts = λ q own. (let e : from_at starts q ≡ 0 = ap (λ xs. from_at xs q) s.starts_are ∙ get_or-replicate g.queues q 0 0 own in omega (arith, e));
      places = λ q own. omega arith;
    } in
    let there : AreTables (ledger_with g start base starts history) newest settled rows [] = subst (λ h. AreTables (ledger_with g start base starts h) newest settled rows []) (sym s.history_is) empty in
    subst (λ es. AreTables (ledger_with g start base starts history) newest settled rows es) (sym s.ends_are) there
