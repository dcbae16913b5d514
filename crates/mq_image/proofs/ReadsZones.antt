-- The blocks of the zones, read behind those of the areas.
use Rattle.std.proofs.Common.{get_or, set, ◌≡◌, ◌≢◌, ℕ, zero, suc, ◌+◌, ◌*◌, ◌<◌, ◌≤◌, inl, inr, List, [], ◌∷◌, ◌++◌, length, take, drop, refl, sym, ap, ◌∙◌, subst, append_assoc, arith, get_or-set_same, get_or-set_other, length-append}
use Rattle.std.specs.Prelude.{Option}
use Rattle.std.specs.List.{All, flat_map}
use Rattle.std.proofs.lemmas.Bool.{cases_eq}
use Rattle.std.proofs.lemmas.List.{append-nil, drop_all, drop_at, take_all, take_at, set-get_or, length-set}
use Rattle.std.proofs.lemmas.List.Elements.{All-append}
use Rattle.mq_blocks.specs.Drive.{PortImage}
use Rattle.mq_blocks.specs.Geometry.{area_of, zone_size}
use Rattle.mq_blocks.specs.declared.geometry.Geometry.{Geometry}
use Rattle.mq_blocks.specs.Journal.{no_image}
use Rattle.mq_image.specs.Drives.{HasWidths}
use Rattle.mq_image.specs.File.{IsBlockSized, ring_bytes, zones}
use Rattle.mq_image.specs.Places.{IsInside, IsSpan}
use Rattle.mq_image.specs.Reads.{AreZonesRead, IsAreaPort, IsQueuePort, with_zone}
use Rattle.mq_image.specs.declared.place.Place.{Place}
use Rattle.mq_image.proofs.PlacesSpans.{span-join, span-none}

-- ---- one item of a list is another

flat-set : {X A : Type 0} (f : X → List A) (xs : List X) (i : ℕ) (y z : X) → f y ≡ f z → flat_map f (set xs i y) ≡ flat_map f (set xs i z)
flat-set f [] i y z e = refl
flat-set {X} {A} f (x ∷ xs) zero y z e = ap (λ (r : List A). r ++ flat_map f xs) e
flat-set {X} {A} f (x ∷ xs) (suc i) y z e = ap (λ (r : List A). f x ++ r) (flat-set f xs i y z e)

flat-same : {X A : Type 0} (f : X → List A) (xs : List X) (i : ℕ) (y d : X) → f y ≡ f (get_or xs i d) → flat_map f (set xs i y) ≡ flat_map f xs
flat-same f xs i y d e = flat-set f xs i y (get_or xs i d) e ∙ ap (flat_map f) (set-get_or xs i d)

flat-nil : {X A : Type 0} (f : X → List A) (xs : List X) (d : X) → ((k : ℕ) → k < length xs → f (get_or xs k d) ≡ []) → flat_map f xs ≡ []
flat-nil f [] d h = refl
flat-nil f (x ∷ xs) d h =
    let a : f x ≡ [] = h zero (omega arith) in
    let b : flat_map f xs ≡ [] = flat-nil f xs d (λ k l. h (suc k) (omega arith)) in
    rw (a, b) refl

flat-last : {X A : Type 0} (f : X → List A) (xs : List X) (i : ℕ) (y d : X) → i < length xs → ((k : ℕ) → i ≤ k → k < length xs → f (get_or xs k d) ≡ []) → flat_map f (set xs i y) ≡ flat_map f xs ++ f y
flat-last f [] i y d l h = absurd (omega arith)
flat-last f (x ∷ xs) zero y d l h =
    let a : f x ≡ [] = h zero (omega arith) (omega arith) in
    let b : flat_map f xs ≡ [] = flat-nil f xs d (λ k l. h (suc k) (omega arith) (omega arith)) in
    rw (a, b) (append-nil (f y))
flat-last {X} {A} f (x ∷ xs) (suc i) y d l h =
    ap (λ (r : List A). f x ++ r) (flat-last f xs i y d (omega arith) (λ k a b. h (suc k) (omega arith) (omega arith))) ∙ sym (append_assoc (f x) (flat_map f xs) (f y))

flat-alike : {X A : Type 0} (f g : X → List A) (xs : List X) (d : X) → ((k : ℕ) → k < length xs → f (get_or xs k d) ≡ g (get_or xs k d)) → flat_map f xs ≡ flat_map g xs
flat-alike f g [] d h = refl
flat-alike {X} {A} f g (x ∷ xs) d h =
    let a : f x ≡ g x = h zero (omega arith) in
    let b : flat_map f xs ≡ flat_map g xs = flat-alike f g xs d (λ k l. h (suc k) (omega arith)) in
    ap (λ (r : List A). r ++ flat_map f xs) a ∙ ap (λ (r : List A). g x ++ r) b

-- ---- the zones

pub zones-none : (v : ℕ) (g : Geometry) (file : List ℕ) (p : Place) (ports : List PortImage) → All (λ q. IsAreaPort v g q) ports → IsInside p file → AreZonesRead v g file 0 p p ports ports
zones-none v g file p ports h inside =
    let none : zones g ports ≡ [] = flat-nil (λ (q : PortImage). drop (area_of g) q.blocks) ports no_image (λ k l. let s = (h k no_image l).area in drop_all (area_of g) (get_or ports k no_image).blocks (omega arith)) in
    record {
      count_is = refl;
      done = λ k l. absurd (omega arith);
      rest = λ k a l. h k no_image l;
      size = ap length none ∙ (omega arith);
      span = subst (λ (bs : List (Option (List ℕ))). IsSpan file p p bs) (sym none) (span-none file p inside);
      areas_are =
          flat-alike (λ (q : PortImage). take (area_of g) q.blocks) (λ (q : PortImage). q.blocks) ports no_image (λ k l. let s = (h k no_image l).area in take_all (area_of g) (get_or ports k no_image).blocks (omega arith));
      rings = refl;
    }

ring-blocks : (p : PortImage) (bs : List (Option (List ℕ))) → ring_bytes (record p { blocks = bs }) ≡ ring_bytes p
unfolding ring_bytes
ring-blocks p bs = refl

-- the zone of one more port
pub zones-more : (v : ℕ) (g : Geometry) (file : List ℕ) (i : ℕ) (old mid new : Place) (before ports : List PortImage) (q : PortImage) (zone : List (Option (List ℕ))) → i < length ports → q ≡ with_zone (get_or ports i no_image) zone
    → AreZonesRead v g file i old mid before ports → IsSpan file mid new zone → length zone ≡ zone_size g → AreZonesRead v g file (i + 1) old new before (set ports i q)
zones-more v g file i old mid new before ports q zone l e r s n = record {
  count_is = length-set ports i q ∙ r.count_is;
  done = λ k low. elim (cases_eq k i) [
    | inl same ↦ subst (λ (p : PortImage). IsQueuePort v g p) (sym (ap (λ (j : ℕ). get_or (set ports i q) j no_image) same ∙ get_or-set_same ports i q no_image l)) whole
    | inr apart ↦ subst (λ (p : PortImage). IsQueuePort v g p) (sym (get_or-set_other ports i k q no_image apart)) (r.done k (omega arith))
  ];
  rest = λ k high low.
      let apart : k ≢ i = omega arith in
      let inside : k < length ports = omega (arith, length-set ports i q) in
      subst (λ (p : PortImage). IsAreaPort v g p) (sym (get_or-set_other ports i k q no_image apart)) (r.rest k (omega arith) inside);
  size = ap length more ∙ length-append (zones g ports) zone ∙ (let a = r.size in let b : (i + 1) * zone_size g ≡ i * zone_size g + zone_size g = omega arith in omega arith);
  span = subst (λ (bs : List (Option (List ℕ))). IsSpan file old new bs) (sym more) (span-join file old mid new (zones g ports) zone r.span s);
  areas_are = flat-same (λ (p : PortImage). take (area_of g) p.blocks) ports i q no_image front ∙ r.areas_are;
  rings = flat-same ring_bytes ports i q no_image ring ∙ r.rings;
}
  where
    p : PortImage
    p = get_or ports i no_image

    alone : IsAreaPort v g (get_or ports i no_image)
    alone = r.rest i (omega arith) l

    len : length p.blocks ≡ area_of g
    len = alone.area

    blocks : q.blocks ≡ p.blocks ++ zone
    blocks = ap (λ (x : PortImage). x.blocks) e

    front : take (area_of g) q.blocks ≡ take (area_of g) p.blocks
    front = let m = len in ap (λ (bs : List (Option (List ℕ))). take (area_of g) bs) blocks ∙ take_at p.blocks zone (area_of g) len ∙ sym (take_all (area_of g) p.blocks (omega arith))

    back : drop (area_of g) q.blocks ≡ zone
    back = ap (λ (bs : List (Option (List ℕ))). drop (area_of g) bs) blocks ∙ drop_at p.blocks zone (area_of g) len

    ring : ring_bytes q ≡ ring_bytes p
    ring = ap ring_bytes e ∙ ring-blocks p (p.blocks ++ zone)

    whole : IsQueuePort v g q
    whole = record {
      blocks = let m = len in ap length blocks ∙ length-append p.blocks zone ∙ (let t : length p.blocks + length zone ≡ area_of g + zone_size g = omega arith in t);
      slots = ap (λ (x : PortImage). length x.slots) e ∙ alone.slots;
      base = ap (λ (x : PortImage). x.base) e ∙ alone.base;
      widths = subst (λ (x : PortImage). HasWidths x) (sym e) (record {
        doorbell = alone.widths.doorbell;
        head = alone.widths.head;
        base = alone.widths.base;
        slots = alone.widths.slots;
        blocks = All-append IsBlockSized p.blocks zone alone.widths.blocks s.bytes;
      });
    }

    more : zones g (set ports i q) ≡ zones g ports ++ zone
    more =
        flat-last (λ (x : PortImage). drop (area_of g) x.blocks) ports i q no_image l (λ k a b. let m = (r.rest k a b).area in drop_all (area_of g) (get_or ports k no_image).blocks (omega arith))
        ∙ ap (λ (bs : List (Option (List ℕ))). zones g ports ++ bs) back
