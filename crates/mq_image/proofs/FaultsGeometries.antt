-- Geometries by their numbers, and the shape of a header.
use Rattle.std.proofs.Common.{◌≡◌, ◌≤◌, ℕ, ◌+◌, ◌*◌, List, inl, inr, refl, sym, ap, subst, ◌∙◌, arith}
use Rattle.std.specs.Prelude.{Some, Result, Ok, Err, IsOk, IsErrOf, nat_le, ◌&&◌, ◌↔◌}
use Rattle.std.proofs.lemmas.Bool.{cases_Bool, both_ways, and_from, and_parts, le-leb, leb-true}
use Rattle.std.proofs.Math.Bridge.{le_prop}
use mathlib.Core.HLevel.{is_prop→PathP}
use Rattle.mq_blocks.specs.Geometry.{IsQueues, IsArea, AreHomes, shaped, queues_of, area_of, meta_of, zone_size}
use Rattle.mq_blocks.specs.declared.geometry.Geometry.{Geometry}
use Rattle.mq_blocks.specs.declared.geometry.GeometryRefusal.{GeometryRefusal}
use Rattle.mq_blocks.specs.declared.geometry.GeometryRefusal.TheVariants.{Queues, Area, Homes}
use Rattle.mq_image.specs.Faults.{HasShape, IsGeometryIn, geometry_fault, queues_in, area_in, meta_in, zone_in}
use Rattle.mq_image.specs.declared.fault.FileFault.TheVariants.{Geometry as Shape}

-- a geometry is its four numbers
pub same_geometry : (g h : Geometry) → queues_of g ≡ queues_of h → area_of g ≡ area_of h → meta_of g ≡ meta_of h → zone_size g ≡ zone_size h → g ≡ h
same_geometry g h q a m z = λ i. record {
  queues = q i;
  area = a i;
  meta = m i;
  zone = z i;
  queues_low = is_prop→PathP (λ j. 1 ≤ q j) (λ j. le_prop) g.queues_low h.queues_low i;
  queues_high = is_prop→PathP (λ j. q j ≤ 16) (λ j. le_prop) g.queues_high h.queues_high i;
  area_low = is_prop→PathP (λ j. 1024 ≤ a j) (λ j. le_prop) g.area_low h.area_low i;
  area_high = is_prop→PathP (λ j. a j ≤ 16384) (λ j. le_prop) g.area_high h.area_high i;
  meta_low = is_prop→PathP (λ j. q j + 3 ≤ m j) (λ j. le_prop) g.meta_low h.meta_low i;
  zone_low = is_prop→PathP (λ j. 1 ≤ z j) (λ j. le_prop) g.zone_low h.zone_low i;
  homes_high = is_prop→PathP (λ j. m j + q j * z j ≤ 32768) (λ j. le_prop) g.homes_high h.homes_high i;
}

-- the numbers of a geometry are in their ranges
pub good_numbers : (file : List ℕ) (g : Geometry) → IsGeometryIn file g → IsQueues (queues_in file) × IsArea (area_in file) × AreHomes (queues_in file) (meta_in file) (zone_in file)
good_numbers file g h =
    let a = g.queues_low in
    let b = g.queues_high in
    let c = g.area_low in
    let d = g.area_high in
    let e = g.meta_low in
    let f = g.zone_low in
    let k = g.homes_high in
    let q = h.queues in
    let r = h.area in
    let s = h.meta in
    let t = h.zone in
    let homes : meta_in file + queues_in file * zone_in file ≡ g.meta + g.queues * g.zone = cc in
    ((omega arith, omega arith), (omega arith, omega arith), (omega arith, omega arith, omega arith))

-- a header has one shape
pub one_shape : (file : List ℕ) (g : Geometry) (s : Result Geometry GeometryRefusal) → IsGeometryIn file g → HasShape file s → s ≡ Ok g
one_shape file g (Ok h) is has = λ i. Ok (same_geometry h g (has.queues ∙ sym is.queues) (has.area ∙ sym is.area) (has.meta ∙ sym is.meta) (has.zone ∙ sym is.zone) i)
one_shape file g (Err (Queues found)) is has = absurd (has.0 (good_numbers file g is).0)
one_shape file g (Err (Area found)) is has = absurd (has.1 (good_numbers file g is).1)
one_shape file g (Err (Homes meta zone)) is has = absurd (has.2 (good_numbers file g is).2)

homes_along : (q m z r n y : ℕ) → q ≡ r → m ≡ n → z ≡ y → AreHomes q m z → AreHomes r n y
homes_along q m z r n y e f g h = subst (λ (x : ℕ). AreHomes r n x) g (subst (λ (x : ℕ). AreHomes r x z) f (subst (λ (x : ℕ). AreHomes x m z) e h))

same_refusal : (r : Result Geometry GeometryRefusal) (e f : GeometryRefusal) → r ≡ Err e → IsErrOf r f → f ≡ e
same_refusal r e f is of = cc

not_ok : {R : Type 0} (r : Result Geometry GeometryRefusal) (e : GeometryRefusal) → r ≡ Err e → IsOk r → R
not_ok (Ok x) e is ok = absurd (cc)
not_ok (Err f) e is ok = absurd (cc)

-- numbers that are refused as a geometry are those of a header of one shape
pub geometry_refused :
    (file : List ℕ) (q a m z : ℕ) (r : Result Geometry GeometryRefusal) (e : GeometryRefusal) (s : Result Geometry GeometryRefusal) → q ≡ queues_in file → a ≡ area_in file → m ≡ meta_in file → z ≡ zone_in file → r ≡ Err e
    → (IsQueues q → IsArea a → AreHomes q m z → IsOk r)
    → (IsErrOf r (Queues q) ↔ (IsQueues q → ⊥))
    → (IsErrOf r (Area a) ↔ (IsQueues q × (IsArea a → ⊥)))
    → (IsErrOf r (Homes m z) ↔ (IsQueues q × IsArea a × (AreHomes q m z → ⊥)))
    → HasShape file s → geometry_fault s ≡ Some (Shape e)
geometry_refused file q a m z r e (Ok g) eq ea em ez is good fq fa fh has =
    let n = good_numbers file g has in
    not_ok r e is
    (good (subst (λ (x : ℕ). IsQueues x) (sym eq) n.0) (subst (λ (x : ℕ). IsArea x) (sym ea) n.1) (homes_along _ _ _ q m z (sym eq) (sym em) (sym ez) n.2))
geometry_refused file q a m z r e (Err (Queues found)) eq ea em ez is good fq fa fh has =
    let f = same_refusal r e (Queues q) is (fq.1 (λ h. has.0 (subst (λ (x : ℕ). IsQueues x) eq h))) in
    ap (λ (x : GeometryRefusal). Some (Shape x)) (ap Queues (has.1 ∙ sym eq) ∙ f)
geometry_refused file q a m z r e (Err (Area found)) eq ea em ez is good fq fa fh has =
    let f = same_refusal r e (Area a) is (fa.1 (subst (λ (x : ℕ). IsQueues x) (sym eq) has.0, λ h. has.1 (subst (λ (x : ℕ). IsArea x) ea h))) in
    ap (λ (x : GeometryRefusal). Some (Shape x)) (ap Area (has.2 ∙ sym ea) ∙ f)
geometry_refused file q a m z r e (Err (Homes meta zone)) eq ea em ez is good fq fa fh has =
    let f = same_refusal r e (Homes m z) is
    (fh.1 (subst (λ (x : ℕ). IsQueues x) (sym eq) has.0, subst (λ (x : ℕ). IsArea x) (sym ea) has.1, λ h. has.2 (homes_along _ _ _ _ _ _ eq em ez h))) in
    ap (λ (x : GeometryRefusal). Some (Shape x)) (ap (λ (n : ℕ). Homes n zone) (has.3 ∙ sym em) ∙ ap (λ (n : ℕ). Homes m n) (has.4 ∙ sym ez) ∙ f)

-- every header has a shape
pub some_shape : (file : List ℕ) → (s : Result Geometry GeometryRefusal) × HasShape file s
some_shape file = elim (cases_Bool (nat_le 1 (queues_in file) && nat_le (queues_in file) 16)) [
  | inr fails ↦ (Err (Queues (queues_in file)), (λ h. both_ways _ fails (and_from _ _ (le-leb _ _ h.0) (le-leb _ _ h.1)), refl))
  | inl fits ↦
      let p = and_parts _ _ fits in
      let q : IsQueues (queues_in file) = (leb-true _ _ p.0, leb-true _ _ p.1) in
      elim (cases_Bool (nat_le 1024 (area_in file) && nat_le (area_in file) 16384)) [
        | inr fails ↦ (Err (Area (area_in file)), (q, λ h. both_ways _ fails (and_from _ _ (le-leb _ _ h.0) (le-leb _ _ h.1)), refl))
        | inl area ↦
            let t = and_parts _ _ area in
            let a : IsArea (area_in file) = (leb-true _ _ t.0, leb-true _ _ t.1) in
            let good = nat_le (queues_in file + 3) (meta_in file) && (nat_le 1 (zone_in file) && nat_le (meta_in file + queues_in file * zone_in file) 32768) in
            elim (cases_Bool good) [
              | inr fails ↦ (
                Err (Homes (meta_in file) (zone_in file)),
                (q, a, λ h. both_ways _ fails (and_from _ _ (le-leb _ _ h.0) (and_from _ _ (le-leb _ _ h.1) (le-leb _ _ h.2))), refl, refl),
              )
              | inl all ↦
                  let u = and_parts _ _ all in
                  let v = and_parts _ _ u.1 in (
                    Ok (shaped (queues_in file) (area_in file) (meta_in file) (zone_in file) q a (leb-true _ _ u.0, leb-true _ _ v.0, leb-true _ _ v.1)),
                    record { queues = refl; area = refl; meta = refl; zone = refl },
                  )
            ]
      ]
]
