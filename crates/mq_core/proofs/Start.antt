-- The state over given blocks and a base is a start state.
use Rattle.std.proofs.Common.{◌≡◌, ℕ, zero, suc, ◌+◌, ◌-◌, ◌*◌, ◌<◌, ◌≤◌, ◌^◌, true, false, Bool, cond, eqb, List, [], ◌∷◌, ◌++◌, length, get_or, replicate, take, drop, Option, Some, None, sym, refl, ap, subst, ◌∙◌, inl, inr, arith, length-append}
use Rattle.std.proofs.lemmas.Bool.{cases_lt, eqb-true}
use Rattle.std.proofs.lemmas.List.{length-replicate, length-take-le, length-drop, get_or-replicate, get_or-take, get_or-drop, get_or-append-add}
use Rattle.std.proofs.lemmas.Nat.{mul-add-lt}
use Rattle.mq_blocks.specs.Blocks.{block_at, content}
use Rattle.mq_blocks.specs.Geometry.{homes_of, zone_of}
use Rattle.mq_blocks.specs.Journal.{WriteFields}
use Rattle.mq_blocks.specs.Ports.{IsPort, area_size_of, homes_size_of, slots_of}
use Rattle.mq_blocks.specs.declared.geometry.Geometry.{Geometry}
use Rattle.mq_blocks.proofs.GeometryZones.{zone-row}
use Rattle.mq_ledger.specs.Items.{Entries, AreRead}
use Rattle.mq_ledger.specs.Plain.{plain}
use Rattle.mq_ledger.specs.Sides.{AreHome, home_index, home_index_in}
use Rattle.mq_ledger.specs.State.{IsStart, IsStartPort, port_at, from_at, known_of, start_map}
use Rattle.mq_ledger.proofs.Written.{form_sound}
use Rattle.mq_core.specs.Start.{blank, first_home, fresh_port, fresh_ports, start_state}

-- what is written plainly is read again
pub plain_read : AreRead plain
plain_read slot s may = ap (commits s.0 s.1) (go s.2)
  where
    commits : ℕ → ℕ → Bool → Option WriteFields
    commits n l c = Some (n, l, c)

    go : (c : Bool) → eqb (cond c 1 0) 1 ≡ c
    go true = refl
    go false = refl

fresh_at : (g : Geometry) (blocks : List (Option (List ℕ))) (q n r : ℕ) → r < n → port_at (fresh_ports g blocks q n) r ≡ fresh_port g blocks 0 (Some (q + r))
fresh_at g blocks q zero r l = absurd (omega arith)
fresh_at g blocks q (suc n) zero l = (let e : q ≡ q + 0 = omega arith in ap (λ m. fresh_port g blocks 0 (Some m)) e)
fresh_at g blocks q (suc n) (suc r) l = (let e : q + 1 + r ≡ q + suc r = omega arith in fresh_at g blocks (q + 1) n r (omega arith) ∙ ap (λ m. fresh_port g blocks 0 (Some m)) e)

length-fresh_ports : (g : Geometry) (blocks : List (Option (List ℕ))) (q n : ℕ) → length (fresh_ports g blocks q n) ≡ n
length-fresh_ports g blocks q zero = refl
length-fresh_ports g blocks q (suc n) = ap suc (length-fresh_ports g blocks (q + 1) n)

-- one port more
pub fresh_more : (g : Geometry) (blocks : List (Option (List ℕ))) (q n : ℕ) → fresh_ports g blocks q n ++ fresh_port g blocks 0 (Some (q + n)) ∷ [] ≡ fresh_ports g blocks q (suc n)
fresh_more g blocks q zero = (let e : q + 0 ≡ q = omega arith in ap (λ m. fresh_port g blocks 0 (Some m) ∷ []) e)
fresh_more g blocks q (suc n) =
    let e : q + suc n ≡ q + 1 + n = omega arith in
    ap (λ m. fresh_port g blocks 0 (Some q) ∷ (fresh_ports g blocks (q + 1) n ++ fresh_port g blocks 0 (Some m) ∷ [])) e ∙ ap (λ ps. fresh_port g blocks 0 (Some q) ∷ ps) (fresh_more g blocks (q + 1) n)

module _ (g : Geometry) (blocks : List (Option (List ℕ))) (whole : length blocks ≡ homes_of g) where
  -- the port has its part of the home blocks
  abbrev Fits : Option ℕ → Type 0
  Fits z = first_home g z + homes_size_of g z ≤ homes_of g

  fits_root : Fits None
  fits_root = omega arith

  fits_queue : (q : ℕ) → q < g.queues → Fits (Some q)
  fits_queue q own =
      let row : q * g.zone + (g.zone - 1) < g.zone * g.queues = mul-add-lt q g.zone (g.zone - 1) g.queues own (let z = g.zone_low in omega arith) in
      let turned : g.zone * g.queues ≡ g.queues * g.zone = grind arith in
      let z = g.zone_low in
      omega arith

  port_is : (base : ℕ) (z : Option ℕ) → Fits z → IsPort g z (fresh_port g blocks base z)
  port_is base z fits =
      let homes : length (take (homes_size_of g z) (drop (first_home g z) blocks)) ≡ homes_size_of g z = length-take-le (homes_size_of g z) (drop (first_home g z) blocks) (let d = length-drop (first_home g z) blocks in omega arith) in
      record {
        queue = refl;
        area_first = refl;
        area_size = refl;
        homes_first = refl;
        homes_size = refl;
        flushed = length-replicate (slots_of z) blank;
        staged = length-replicate (slots_of z) blank;
        blocks = (let area : length (replicate {A = Option (List ℕ)} (area_size_of g z) None) ≡ area_size_of g z = length-replicate (area_size_of g z) None in
            omega (arith, length-append (replicate {A = Option (List ℕ)} (area_size_of g z) None) (take (homes_size_of g z) (drop (first_home g z) blocks))));
        certain = length-replicate (area_size_of g z + homes_size_of g z) true;
      }

  -- a home block at its port
  home_at : (base : ℕ) (z : Option ℕ) (x : ℕ) → Fits z → first_home g z ≤ x → x < first_home g z + homes_size_of g z → block_at (fresh_port g blocks base z).blocks (area_size_of g z + (x - first_home g z)) ≡ content (get_or blocks x None)
  home_at base z x fits low high =
      let area = replicate {A = Option (List ℕ)} (area_size_of g z) None in
      let long : length area ≡ area_size_of g z = length-replicate (area_size_of g z) None in
      let homes = take (homes_size_of g z) (drop (first_home g z) blocks) in
      let i = x - first_home g z in
      let there : first_home g z + i ≡ x = omega arith in
      ap content (
      ap (λ n. get_or (area ++ homes) (n + i) None) (sym long) ∙ get_or-append-add area homes i None
      ∙ get_or-take (homes_size_of g z) (drop (first_home g z) blocks) i None (omega arith) ∙ get_or-drop (first_home g z) blocks i None
      ∙ ap (λ n. get_or blocks n None) there
      )

  value_is : (x : ℕ) (v : List ℕ) → start_map blocks x ≡ Some v → content (get_or blocks x None) ≡ v
  value_is x v e = ap content e

  homes_are : (e : Entries) (b base : ℕ) (z : Option ℕ) → Fits z → ((x : ℕ) → x < homes_of g → zone_of g x ≡ z → (first_home g z ≤ x) × (x < first_home g z + homes_size_of g z) × (home_index g x ≡ area_size_of g z + (x - first_home g z)))
      → AreHome (known_of e (start_state g blocks base)) z (fresh_port g blocks b z)
  homes_are e b base z fits place x v block inside zone due there m =
      let r = place x inside zone in
      let within : home_index g x < area_size_of g z + homes_size_of g z = (let a = r.0 in let c = r.1 in let d = r.2 in omega arith) in
      record {
        certain = record { certain = get_or-replicate (area_size_of g z + homes_size_of g z) (home_index g x) true false within; apart = tt };
        is = ap (block_at (fresh_port g blocks b z).blocks) r.2 ∙ home_at b z x fits r.0 r.1 ∙ value_is x block there;
      }

  root_place : (x : ℕ) → x < homes_of g → zone_of g x ≡ None → (first_home g None ≤ x) × (x < first_home g None + homes_size_of g None) × (home_index g x ≡ area_size_of g None + (x - first_home g None))
  root_place x inside zone =
      let at : home_index g x ≡ x = ap (λ z. home_index_in g z x) zone in
      let low : x < g.meta = elim (cases_lt x g.meta) [
        | inl low ↦ low
        | inr high ↦ absurd (some (sym (rw (Rattle.std.proofs.lemmas.Bool.le-ltb _ _ high) at zone)))
      ] in
      (omega arith, omega arith, omega arith)
    where
      some : {n : ℕ} → None ≡ Some n → ⊥
      some k = cc

  queue_place : (q x : ℕ) → x < homes_of g → zone_of g x ≡ Some q → (first_home g (Some q) ≤ x) × (x < first_home g (Some q) + homes_size_of g (Some q)) × (home_index g x ≡ area_size_of g (Some q) + (x - first_home g (Some q)))
  queue_place q x inside zone = (let r = zone-row g q x zone in (r.0, r.1, ap (λ z. home_index_in g z x) zone))

  pub start_is : (base : ℕ) → base ≤ 2 ^ 62 → IsStart plain (start_state g blocks base)
  start_is base low =
      record {
        entries = plain_read;
        form = form_sound;
        history = refl;
        low = omega arith;
        base = refl;
        stored_base = refl;
        start = whole;
        ports = length-fresh_ports g blocks 0 g.queues;
        marked = length-replicate g.queues (2 ^ 64 - 1);
        marks = λ q own. get_or-replicate g.queues q (2 ^ 64 - 1) 0 own;
        writing = refl;
        acknowledged = refl;
        each = λ q own.
            let is : port_at (fresh_ports g blocks 0 g.queues) q ≡ fresh_port g blocks 0 (Some q) = fresh_at g blocks 0 g.queues q own ∙ (let e : 0 + q ≡ q = omega arith in ap (λ m. fresh_port g blocks 0 (Some m)) e) in
            let from : from_at (replicate g.queues 0) q ≡ 0 = get_or-replicate g.queues q 0 0 own in
            subst (λ n. IsStartPort plain (start_state g blocks base) (Some q) n (port_at (fresh_ports g blocks 0 g.queues) q)) (sym from) (subst (λ p. IsStartPort plain (start_state g blocks base) (Some q) 0 p) (sym is) (record {
              port = port_is 0 (Some q) (fits_queue q own);
              doorbell = refl;
              head = refl;
              stored_head = refl;
              flushed_end = refl;
              pending = refl;
              posted = refl;
              failed = refl;
              staged = refl;
              low = omega arith;
              newest = λ some. absurd (omega arith);
              homes = homes_are plain 0 base (Some q) (fits_queue q own) (queue_place q);
            }));
        root = record {
          port = port_is base None fits_root;
          doorbell = refl;
          head = refl;
          stored_head = refl;
          flushed_end = refl;
          pending = refl;
          posted = refl;
          failed = refl;
          staged = refl;
          low = omega arith;
          newest = λ some. absurd (omega arith);
          homes = homes_are plain base base None fits_root root_place;
        };
      }
