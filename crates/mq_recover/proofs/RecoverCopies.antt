-- Where the copies stand.
use Rattle.std.proofs.Common.{◌≡◌, ◌≢◌, ◌<◌, ◌≤◌, inl, inr, ⊎_elim, ℕ, zero, suc, ◌+◌, ◌%◌, List, [], ◌∷◌, length, Bool, true, false, Option, Some, None, get_or, set, drop, replicate, refl, subst, sym, ◌∙◌, ap, arith, drop-cons, add-one}
use Rattle.std.proofs.lemmas.Bool.{cases_eq, eq-eqb, ne_eqb}
use Rattle.std.proofs.lemmas.Grind.{get_or-set_at}
use Rattle.std.proofs.lemmas.List.{get_or-set_other, length-replicate}
use Rattle.std.proofs.Math.ListN.{length-set}
use Rattle.std.specs.Prelude.{nat_eq, if◌then◌else◌}
use Rattle.mq_blocks.proofs.DescriptorLimits.{limit-high, listed-high}
use Rattle.mq_blocks.specs.Limits.{list_limit}
use Rattle.mq_blocks.specs.Descriptor.{Descriptor, AreRising, IsGood, first_place, most_listed, DescriptorForm, journal_form}
use Rattle.mq_blocks.specs.Geometry.{homes_of, write_limit}
use Rattle.mq_blocks.specs.Journal.{Shown, IsChain, Has, is_among, logged_copy, or_else, stands}
use Rattle.mq_blocks.specs.declared.geometry.Geometry.{Geometry}
use Rattle.mq_recover.specs.Copies.{copy_place_at, IsCopyPlaceOf, or_place, logged_place, copy_of, forgotten, noted, with_all, content_of}
use Rattle.mq_recover.specs.Recover.{AreGood, AreOf}
use Rattle.mq_recover.specs.declared.copies.CopyPlace.{CopyPlace}

pub rising-at : (low high : ℕ) (xs : List ℕ) (k d : ℕ) → AreRising low high xs → k < length xs → get_or xs k d < high
rising-at low high [] k d rising within = absurd (omega arith)
rising-at low high (x ∷ xs) zero d rising within = rising.1
rising-at low high (x ∷ xs) (suc k) d rising within = rising-at (x + 1) high xs k d rising.2 (omega arith)

pub forgotten-next : (copies : List (Option CopyPlace)) (bs : List ℕ) (k b d : ℕ) → k < length bs → b ≡ get_or bs k d → forgotten (set copies b None) (drop (k + 1) bs) ≡ forgotten copies (drop k bs)
forgotten-next copies bs k b d within is =
    ap (λ (n : ℕ). forgotten (set copies b None) (drop n bs)) (add-one k)
    ∙ ap (λ (n : ℕ). forgotten (set copies n None) (drop (suc k) bs)) is
    ∙ sym (ap (λ (l : List ℕ). forgotten copies l) (drop-cons bs k d within))

pub noted-next : (copies : List (Option CopyPlace)) (q place : ℕ) (bs : List ℕ) (k b d : ℕ) → k < length bs → b ≡ get_or bs k d
    → noted (set copies b (Some (copy_place_at q place))) q (place + 1) (drop (k + 1) bs) ≡ noted copies q place (drop k bs)
noted-next copies q place bs k b d within is =
    ap (λ (n : ℕ). noted (set copies b (Some (copy_place_at q place))) q (place + 1) (drop n bs)) (add-one k)
    ∙ ap (λ (n : ℕ). noted (set copies n (Some (copy_place_at q place))) q (place + 1) (drop (suc k) bs)) is
    ∙ sym (ap (λ (l : List ℕ). noted copies q place l) (drop-cons bs k d within))

-- ---- what is taken over

pub length-forgotten : (copies : List (Option CopyPlace)) (bs : List ℕ) → length (forgotten copies bs) ≡ length copies
length-forgotten copies [] = refl
length-forgotten copies (b ∷ bs) = length-forgotten (set copies b None) bs ∙ length-set copies b None

pub length-noted : (copies : List (Option CopyPlace)) (q place : ℕ) (bs : List ℕ) → length (noted copies q place bs) ≡ length copies
length-noted copies q place [] = refl
length-noted copies q place (b ∷ bs) = length-noted (set copies b (Some (copy_place_at q place))) q (place + 1) bs ∙ length-set copies b (Some (copy_place_at q place))

pub length-with_all : (homes : ℕ) (ds : List Descriptor) → length (with_all homes ds) ≡ homes
length-with_all homes [] = length-replicate homes None
length-with_all homes (d ∷ ds) =
    length-noted (forgotten (with_all homes ds) d.revoked) d.queue (first_place d) d.logged ∙ length-forgotten (with_all homes ds) d.revoked ∙ length-with_all homes ds

same-eq : (b x : ℕ) → b ≡ x → nat_eq b x ≡ true
same-eq b x same = eq-eqb b x same

other-eq : (b x : ℕ) → b ≢ x → nat_eq b x ≡ false
other-eq b x other = ne_eqb b x other

-- a test on whether a block is among others
forgotten-here : (old now : Option CopyPlace) (b x : ℕ) (among : Bool) → b ≡ x → now ≡ None → (if among then None else now) ≡ (if (if nat_eq b x then true else among) then None else old)
forgotten-here old now b x among same is = rw (same-eq b x same) (none among)
  where
    none : (t : Bool) → (if t then None else now) ≡ None
    none true = refl
    none false = is

forgotten-other : (old now : Option CopyPlace) (b x : ℕ) (among : Bool) → b ≢ x → now ≡ old → (if among then None else now) ≡ (if (if nat_eq b x then true else among) then None else old)
forgotten-other old now b x among other is = rw (other-eq b x other) (ap (λ (o : Option CopyPlace). if among then None else o) is)

pub forgotten-at : (low high : ℕ) (copies : List (Option CopyPlace)) (bs : List ℕ) (x : ℕ) → AreRising low high bs → high ≤ length copies
    → get_or (forgotten copies bs) x None ≡ (if is_among x bs then None else get_or copies x None)
forgotten-at low high copies [] x rising within = refl
forgotten-at low high copies (b ∷ bs) x rising within =
    let fits : high ≤ length (set copies b None) = omega (arith, length-set copies b None) in
    let inside : b < length copies = let h = rising.1 in omega arith in
    forgotten-at (b + 1) high (set copies b None) bs x rising.2 fits
    ∙ ⊎_elim
    (λ same. forgotten-here (get_or copies x None) (get_or (set copies b None) x None) b x (is_among x bs) same (get_or-set_at copies b x None None (sym same) inside))
    (λ other. forgotten-other (get_or copies x None) (get_or (set copies b None) x None) b x (is_among x bs) other (get_or-set_other copies b x None None (λ e. other (sym e))))
    (cases_eq b x)

pub logged_place-low : (q place low high : ℕ) (bs : List ℕ) (x : ℕ) → AreRising low high bs → x < low → logged_place q place bs x ≡ None
logged_place-low q place low high [] x rising below = refl
logged_place-low q place low high (b ∷ bs) x rising below =
    let h = rising.0 in
    rw (other-eq b x (omega arith)) (logged_place-low q (place + 1) (b + 1) high bs x rising.2 (omega arith))

noted-here : (old now rest : Option CopyPlace) (source : CopyPlace) (b x : ℕ) → b ≡ x → rest ≡ None → now ≡ Some source → or_place rest now ≡ or_place (if nat_eq b x then Some source else rest) old
noted-here old now rest source b x same none is = rw (same-eq b x same, none) is

noted-other : (old now rest : Option CopyPlace) (source : CopyPlace) (b x : ℕ) → b ≢ x → now ≡ old → or_place rest now ≡ or_place (if nat_eq b x then Some source else rest) old
noted-other old now rest source b x other is = rw (other-eq b x other) (ap (or_place rest) is)

pub noted-at : (low high : ℕ) (copies : List (Option CopyPlace)) (q place : ℕ) (bs : List ℕ) (x : ℕ) → AreRising low high bs → high ≤ length copies
    → get_or (noted copies q place bs) x None ≡ or_place (logged_place q place bs x) (get_or copies x None)
noted-at low high copies q place [] x rising within = refl
noted-at low high copies q place (b ∷ bs) x rising within =
    let source = copy_place_at q place in
    let fits : high ≤ length (set copies b (Some source)) = omega (arith, length-set copies b (Some source)) in
    let inside : b < length copies = let h = rising.1 in omega arith in
    noted-at (b + 1) high (set copies b (Some source)) q (place + 1) bs x rising.2 fits
    ∙ ⊎_elim
    (λ same. noted-here (get_or copies x None) (get_or (set copies b (Some source)) x None) (logged_place q (place + 1) bs x) source b x same
    (logged_place-low q (place + 1) (b + 1) high bs x rising.2 (omega (arith, same))) (get_or-set_at copies b x (Some source) None (sym same) inside))
    (λ other. noted-other (get_or copies x None) (get_or (set copies b (Some source)) x None) (logged_place q (place + 1) bs x) source b x other
    (get_or-set_other copies b x (Some source) None (λ e. other (sym e))))
    (cases_eq b x)

none-replicate : (n x : ℕ) → get_or (replicate {A = Option CopyPlace} n None) x None ≡ None
none-replicate zero x = refl
none-replicate (suc n) zero = refl
none-replicate (suc n) (suc x) = none-replicate n x

-- after all transactions each block has the copy that stands
pub with_all-at : (homes : ℕ) (ds : List Descriptor) (x : ℕ) → AreGood homes ds → get_or (with_all homes ds) x None ≡ copy_of ds x
with_all-at homes [] x good = none-replicate homes x
with_all-at homes (d ∷ ds) x good =
    let n = length-with_all homes ds in
    let fits : homes ≤ length (with_all homes ds) = omega (arith, n) in
    let still : homes ≤ length (forgotten (with_all homes ds) d.revoked) = omega (arith, length-forgotten (with_all homes ds) d.revoked, n) in
    let place = first_place d in
    noted-at 0 homes (forgotten (with_all homes ds) d.revoked) d.queue place d.logged x good.0.logged still
    ∙ ap (or_place (logged_place d.queue place d.logged x))
    (forgotten-at 0 homes (with_all homes ds) d.revoked x good.0.revoked fits ∙ ap (λ (o : Option CopyPlace). if is_among x d.revoked then None else o) (with_all-at homes ds x good.1))

-- ---- standing

content-if : (area : ℕ → ℕ → List ℕ) (size : ℕ) (b : Bool) (x y : Option CopyPlace) → content_of area size (if b then x else y) ≡ (if b then content_of area size x else content_of area size y)
content-if area size true x y = refl
content-if area size false x y = refl

pub content-logged : (area : ℕ → ℕ → List ℕ) (size q place : ℕ) (bs : List ℕ) (x : ℕ) → logged_copy (area q) size place bs x ≡ content_of area size (logged_place q place bs x)
content-logged area size q place [] x = refl
content-logged area size q place (b ∷ bs) x =
    ap (λ (o : Option (List ℕ)). if nat_eq b x then Some (area q (place % size)) else o) (content-logged area size q (place + 1) bs x)
    ∙ sym (content-if area size (nat_eq b x) (Some (copy_place_at q place)) (logged_place q (place + 1) bs x))

else-or : (area : ℕ → ℕ → List ℕ) (size : ℕ) (a b : Option CopyPlace) (home : List ℕ) → or_else (content_of area size (or_place a b)) home ≡ or_else (content_of area size a) (or_else (content_of area size b) home)
else-or area size (Some source) b home = refl
else-or area size None b home = refl

else-if : (area : ℕ → ℕ → List ℕ) (size : ℕ) (among : Bool) (a : Option CopyPlace) (home : List ℕ)
    → or_else (content_of area size (if among then None else a)) home ≡ (if among then home else or_else (content_of area size a) home)
else-if area size true a home = refl
else-if area size false a home = refl

-- what stands on a block is the copy that stands there, or what is at home
pub stands-copy : (g : Geometry) (i : Shown) (ds : List Descriptor) (x : ℕ) → stands g i ds x ≡ or_else (content_of i.area g.area (copy_of ds x)) (i.home x)
stands-copy g i [] x = refl
stands-copy g i (d ∷ ds) x =
    let copy = logged_place d.queue (first_place d) d.logged x in
    ap (λ (o : Option (List ℕ)). or_else o (if is_among x d.revoked then i.home x else stands g i ds x)) (content-logged i.area g.area d.queue (first_place d) d.logged x)
    ∙ ap (λ (l : List ℕ). or_else (content_of i.area g.area copy) (if is_among x d.revoked then i.home x else l)) (stands-copy g i ds x)
    ∙ ap (or_else (content_of i.area g.area copy)) (sym (else-if i.area g.area (is_among x d.revoked) (copy_of ds x) (i.home x)))
    ∙ sym (else-or i.area g.area copy (if is_among x d.revoked then None else copy_of ds x) (i.home x))

place-or : (n : ℕ) (a b : Option CopyPlace) → IsCopyPlaceOf n a → IsCopyPlaceOf n b → IsCopyPlaceOf n (or_place a b)
place-or n (Some source) b here there = here
place-or n None b here there = there

place-if : (n : ℕ) (t : Bool) (a b : Option CopyPlace) → IsCopyPlaceOf n a → IsCopyPlaceOf n b → IsCopyPlaceOf n (if t then a else b)
place-if n true a b here there = here
place-if n false a b here there = there

logged-within : (n q place : ℕ) (bs : List ℕ) (x : ℕ) → q < n → IsCopyPlaceOf n (logged_place q place bs x)
logged-within n q place [] x low = tt
logged-within n q place (b ∷ bs) x low = place-if n (nat_eq b x) (Some (copy_place_at q place)) (logged_place q (place + 1) bs x) low (logged-within n q (place + 1) bs x low)

-- copies stand in the areas of the queues that have the transactions
pub copy-within : (n : ℕ) (ds : List Descriptor) (x : ℕ) → ((d : Descriptor) → Has ds d → d.queue < n) → IsCopyPlaceOf n (copy_of ds x)
copy-within n [] x own = tt
copy-within n (d ∷ ds) x own =
    let copy = logged_place d.queue (first_place d) d.logged x in
    place-or n copy (if is_among x d.revoked then None else copy_of ds x) (logged-within n d.queue (first_place d) d.logged x (own d (inl refl)))
    (place-if n (is_among x d.revoked) None (copy_of ds x) tt (copy-within n ds x (λ e has. own e (inr has))))

pub chain-of : (g : Geometry) (i : Shown) (q number place : ℕ) (ds : List Descriptor) → IsChain g i q number place ds → AreOf q ds
chain-of g i q number place [] chain = tt
chain-of g i q number place (d ∷ ds) chain = (chain.1.queue_is, chain-of g i q d.prev_number d.prev_place ds chain.2)

pub good-more : (most homes : ℕ) (d : Descriptor) → most ≤ list_limit → IsGood most homes d → IsGood list_limit homes d
good-more most homes d more good =
    let counts = good.counts in
    record {
      queue = good.queue;
      number = good.number;
      place = good.place;
      falls = good.falls;
      first = good.first;
      before = good.before;
      counts = omega (arith, counts, more);
      fits = good.fits;
      logged = good.logged;
      revoked = good.revoked;
      apart = good.apart;
    }

pub chain-good : (g : Geometry) (i : Shown) (q number place : ℕ) (ds : List Descriptor) → i.form ≡ journal_form → IsChain g i q number place ds → AreGood (homes_of g) ds
chain-good g i q number place [] form chain = tt
chain-good g i q number place (d ∷ ds) form chain =
    let version = chain.1.is.version in
    let G : DescriptorForm → Type 0 = λ f. IsGood (f.most (write_limit g) version) (homes_of g) d in
    (good-more (most_listed (write_limit g) version) (homes_of g) d (listed-high (write_limit g) version (limit-high g)) (subst G form chain.1.is.good), chain-good g i q d.prev_number d.prev_place ds form chain.2)
