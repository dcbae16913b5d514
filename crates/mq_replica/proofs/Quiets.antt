-- A replica on which nothing is under way has one image.
use Rattle.std.proofs.Common.{◌≡◌, ℕ, ◌+◌, ◌-◌, ◌*◌, ◌<◌, ◌≤◌, true, false, List, [], ◌∷◌, length, IsSome, Option, Some, None, refl, sym, ap, subst, ◌∙◌, arith, inl, inr, get_or, one-mul}
use Rattle.std.proofs.lemmas.Bool.{cases_lt, eq-eqb}
use Rattle.mq_blocks.proofs.GeometryZones.{zone-none}
use Rattle.mq_blocks.specs.Blocks.{content}
use Rattle.mq_blocks.specs.Drive.{AreCounted, IsQuiescent, PortState}
use Rattle.mq_blocks.specs.Geometry.{homes_of, zone_of}
use Rattle.mq_blocks.specs.declared.command.Command.{Command}
use Rattle.mq_blocks.specs.declared.geometry.Geometry.{Geometry}
use Rattle.mq_ledger.specs.History.{last, map_after, part_of, upto}
use Rattle.mq_ledger.specs.Sides.{home_index, home_index_in}
use Rattle.mq_ledger.specs.State.{start_map}
use Rattle.mq_ledger.specs.declared.tx.Tx.{Tx}
use Rattle.mq_recover.proofs.DrivesZones.{IsZone, zone-is}
use Rattle.mq_replica.specs.Certain.{HasOneBase, IsCertainUnlessFailed}
use Rattle.mq_replica.specs.Opened.{IsJournal, IsOpened, OpenedState}
use Rattle.mq_replica.proofs.Fronts.{upto_base}
use Rattle.mq_replica.proofs.Maps.{some_content}

-- no command stands between two counts that are one
none_between : (low high : ℕ) (cs : List Command) → AreCounted low high cs → high ≤ low → cs ≡ []
none_between low high [] are le = refl
none_between low high (c ∷ cs) are le = absurd (omega (arith, are.0, are.1, le))

-- where nothing is taken to be done, nothing is
pub part_never : (h : List Tx) → part_of (λ t ts. false) h ≡ []
part_never [] = refl
part_never (t ∷ ts) = part_never ts

-- on a drive of one queue each block behind the metadata region is in its zone
zone_first : (g : Geometry) (x : ℕ) → g.queues ≡ 1 → g.meta ≤ x → x < homes_of g → zone_of g x ≡ Some 0
zone_first g x one low high = by_zone (zone_of g x) refl
  where
    by_zone : (z : Option ℕ) → zone_of g x ≡ z → zone_of g x ≡ Some 0
    by_zone None e = absurd (let l = zone-none g x e in omega (arith, l, low))
    by_zone (Some q) e = (let own : IsZone g (Some q) = subst (IsZone g) e (zone-is g x high) in let z : q ≡ 0 = omega (arith, own, one) in e ∙ ap (λ (n : ℕ). Some n) z)

module _ (g : Geometry) (v : OpenedState) (o : IsOpened g v) (certain : IsCertainUnlessFailed v.side.port) (base : HasOneBase v.side.port) where
  abbrev j : IsJournal g v
  j = o.journal

  abbrev p : PortState
  p = v.side.port

  kept_none : (p.failed ≡ []) × (p.pending ≡ [])
  kept_none = subst (λ w. Rattle.mq_queue_side.specs.Side.IsKept (Rattle.mq_ledger.specs.State.from_at (j.from ∷ []) 0) j.history p.failed p.pending p.doorbell w) o.settled.none j.side.kept

  home_certain : (k : ℕ) → g.area ≤ k → k < g.area + g.zone → get_or p.certain k false ≡ true
  home_certain k low high =
      let x = g.meta + (k - g.area) in
      let homes : homes_of g ≡ g.meta + g.zone = ap (λ (n : ℕ). g.meta + n) (ap (λ (n : ℕ). n * g.zone) j.one ∙ one-mul g.zone) in
      let inside : x < homes_of g = omega (arith, low, high, homes) in
      let zone = zone_first g x j.one (omega arith) inside in
      let b = v.root.base in
      let none = upto_base b j.history j.log.numbers in
      let front : b + length (part_of (λ t ts. false) j.history) ≡ b = (let z : length (part_of (λ t ts. false) j.history) ≡ 0 = ap length (part_never j.history) in omega (arith, z)) in
      let seen : upto (b + length (part_of (λ t ts. false) j.history)) j.history ≡ [] = ap (λ (n : ℕ). upto n j.history) front ∙ none in
      let change : last b (upto (b + length (part_of (λ t ts. false) j.history)) j.history) x ≡ b = ap (λ (ts : List Tx). last b ts x) seen in
      let there : map_after (start_map j.start) (upto b j.history) x ≡ Some (content (start_map j.start x)) = ap (λ (ts : List Tx). map_after (start_map j.start) ts x) none ∙ some_content (start_map j.start x) (j.full x inside) in
      let sure = j.side.side.homes x b (content (start_map j.start x)) inside zone (eq-eqb b b refl) there (omega (arith, change)) in
      let at : home_index g x ≡ k = ap (λ (z : Option ℕ). home_index_in g z x) zone ∙ (omega (arith, low)) in
      subst (λ (n : ℕ). get_or p.certain n false ≡ true) at sure.certain.certain

  pub quiet : IsQuiescent p
  quiet =
      let none = kept_none in
      let order = j.side.side.order in
      let empty : length p.pending ≡ 0 = ap length none.1 in
      let rung = o.settled.rung in
      let passed = o.settled.passed in
      record {
        flushed_end = (let a = order.flushed in let b = order.staged in omega (arith, a, b, empty));
        pending = none.1;
        posted = none_between p.stored_head p.doorbell p.posted j.side.side.commands.posted_counts (let a = order.stored in omega (arith, a, rung, passed));
        failed = none.0;
        head = (let a = order.stored in let b = order.rung in omega (arith, a, b, rung, passed));
        base = base (subst (λ (q : Option ℕ). IsSome q) (sym j.side.side.port.queue) refl);
        certain = λ k low. elim (cases_lt k g.area) [
          | inl area ↦ certain none.0 k (let s = j.side.side.port.area_size in omega (arith, area, s))
          | inr home ↦ home_certain k home (let l = j.side.side.port.certain in omega (arith, low, l))
        ];
      }
