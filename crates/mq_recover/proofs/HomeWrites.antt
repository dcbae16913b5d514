-- What goes home of the copies that stand somewhere.
use Rattle.std.proofs.Common.{◌≡◌, ◌<◌, ◌≤◌, ℕ, zero, suc, ◌+◌, ◌%◌, List, [], ◌∷◌, ◌++◌, length, map, Option, Some, None, get_or, drop, refl, sym, ◌∙◌, ap, subst, arith, drop-cons, add-one, append_assoc}
use Rattle.std.proofs.lemmas.Bool.{eq-eqb, ne_eqb}
use Rattle.std.proofs.lemmas.List.{append-nil, drop_all}
use Rattle.mq_blocks.specs.Descriptor.{Descriptor, AreRising}
use Rattle.mq_blocks.specs.Geometry.{homes_of, area_of}
use Rattle.mq_blocks.specs.Machine.{Writes, or_kept}
use Rattle.mq_blocks.specs.declared.geometry.Geometry.{Geometry}
use Rattle.mq_blocks.proofs.DescriptorRising.{rising-lower}
use Rattle.mq_recover.specs.Drives.{DriveState, view_over}
use Rattle.mq_recover.specs.Recovering.{HaveCopies}
use Rattle.mq_recover.specs.Copies.{AreCopies, content_of, copy_of, IsCopyPlaceOf}
use Rattle.mq_recover.specs.RecoverHomes.{writes_from, written}
use Rattle.mq_recover.specs.Events.{AreHomeWrites}
use Rattle.mq_recover.specs.declared.copies.CopyPlace.{CopyPlace}
use Rattle.mq_recover.proofs.RecoverCopies.{copy-within, length-with_all, with_all-at}

-- ---- the writes of copies

pub writes-some : (area : ℕ → ℕ → List ℕ) (size b : ℕ) (source : CopyPlace) (copies : List (Option CopyPlace)) (d : Option CopyPlace) (writes more : Writes) (block : List ℕ) → b < length copies → get_or copies b d ≡ Some source
    → block ≡ area source.queue (source.place % size) → more ≡ writes ++ (b, block) ∷ [] → more ++ writes_from area size (b + 1) (drop (b + 1) copies) ≡ writes ++ writes_from area size b (drop b copies)
writes-some area size b source copies d writes more block within is content_is more_is =
    ap (λ (n : ℕ). more ++ writes_from area size (b + 1) (drop n copies)) (add-one b)
    ∙ ap (λ (l : Writes). l ++ writes_from area size (b + 1) (drop (suc b) copies)) more_is
    ∙ append_assoc writes ((b, block) ∷ []) (writes_from area size (b + 1) (drop (suc b) copies))
    ∙ ap (λ (l : List ℕ). writes ++ (b, l) ∷ writes_from area size (b + 1) (drop (suc b) copies)) content_is
    ∙ ap (λ (o : Option CopyPlace). writes ++ writes_from area size b (o ∷ drop (suc b) copies)) (sym is)
    ∙ ap (λ (l : List (Option CopyPlace)). writes ++ writes_from area size b l) (sym (drop-cons copies b d within))

pub writes-none : (area : ℕ → ℕ → List ℕ) (size b : ℕ) (copies : List (Option CopyPlace)) (d : Option CopyPlace) (writes more : Writes) → b < length copies → get_or copies b d ≡ None → more ≡ writes
    → more ++ writes_from area size (b + 1) (drop (b + 1) copies) ≡ writes ++ writes_from area size b (drop b copies)
writes-none area size b copies d writes more within is more_is =
    ap (λ (n : ℕ). more ++ writes_from area size (b + 1) (drop n copies)) (add-one b)
    ∙ ap (λ (l : Writes). l ++ writes_from area size (b + 1) (drop (suc b) copies)) more_is
    ∙ ap (λ (o : Option CopyPlace). writes ++ writes_from area size b (o ∷ drop (suc b) copies)) (sym is)
    ∙ ap (λ (l : List (Option CopyPlace)). writes ++ writes_from area size b l) (sym (drop-cons copies b d within))

-- where no copies are left, the writes are all
pub writes-end : (area : ℕ → ℕ → List ℕ) (size b : ℕ) (copies : List (Option CopyPlace)) (writes all : Writes) → length copies ≤ b → writes ++ writes_from area size b (drop b copies) ≡ all → writes ≡ all
writes-end area size b copies writes all past is =
    sym (append-nil writes) ∙ ap (λ (l : List (Option CopyPlace)). writes ++ writes_from area size b l) (sym (drop_all b copies past)) ∙ is

-- a block below the first of the copies is not written
writes-low : (area : ℕ → ℕ → List ℕ) (size b : ℕ) (copies : List (Option CopyPlace)) (x : ℕ) → x < b → written (writes_from area size b copies) x ≡ None
writes-low area size b [] x low = refl
writes-low area size b (None ∷ copies) x low = writes-low area size (b + 1) copies x (omega arith)
writes-low area size b (Some source ∷ copies) x low =
    rw (writes-low area size (b + 1) copies x (omega arith), ne_eqb b x (omega arith)) refl

kept-none : (o : Option (List ℕ)) → or_kept o None ≡ o
kept-none None = refl
kept-none (Some v) = refl

writes-from : (area : ℕ → ℕ → List ℕ) (size b : ℕ) (copies : List (Option CopyPlace)) (k x : ℕ) → x ≡ b + k → written (writes_from area size b copies) x ≡ content_of area size (get_or copies k None)
writes-from area size b [] k x is = refl
writes-from area size b (None ∷ copies) zero x is = writes-low area size (b + 1) copies x (omega arith)
writes-from area size b (None ∷ copies) (suc k) x is = writes-from area size (b + 1) copies k x (omega arith)
writes-from area size b (Some source ∷ copies) zero x is =
    rw (writes-low area size (b + 1) copies x (omega arith), eq-eqb b x (omega arith)) refl
writes-from area size b (Some source ∷ copies) (suc k) x is =
    rw (ne_eqb b x (omega arith)) (kept-none (written (writes_from area size (b + 1) copies) x) ∙ writes-from area size (b + 1) copies k x (omega arith))

-- what is written to a block is the content of its copy
pub writes-at : (area : ℕ → ℕ → List ℕ) (size : ℕ) (copies : List (Option CopyPlace)) (x : ℕ) → written (writes_from area size 0 copies) x ≡ content_of area size (get_or copies x None)
writes-at area size copies x = writes-from area size 0 copies x x (omega arith)

writes-rise : (area : ℕ → ℕ → List ℕ) (size b : ℕ) (copies : List (Option CopyPlace)) (homes : ℕ) → b + length copies ≤ homes → AreRising b homes (map (λ w. w.0) (writes_from area size b copies))
writes-rise area size b [] homes fits = tt
writes-rise area size b (None ∷ copies) homes fits =
    rising-lower b (b + 1) homes (map (λ w. w.0) (writes_from area size (b + 1) copies)) (omega arith) (writes-rise area size (b + 1) copies homes (omega arith))
writes-rise area size b (Some source ∷ copies) homes fits = (omega arith, omega arith, writes-rise area size (b + 1) copies homes (omega arith))

-- ---- the copies of descriptors

pub copies-length : (g : Geometry) (copies : List (Option CopyPlace)) → HaveCopies g copies → length copies ≡ homes_of g
copies-length g copies have = ap length have.1.are ∙ length-with_all (homes_of g) have.0

pub copies-at : (g : Geometry) (ds : List Descriptor) (copies : List (Option CopyPlace)) (x : ℕ) → AreCopies g ds copies → get_or copies x None ≡ copy_of ds x
copies-at g ds copies x are = ap (λ (l : List (Option CopyPlace)). get_or l x None) are.are ∙ with_all-at (homes_of g) ds x are.good

-- each of them stands in the area of a queue
pub copies-within : (g : Geometry) (copies : List (Option CopyPlace)) → HaveCopies g copies → (x : ℕ) → IsCopyPlaceOf g.queues (get_or copies x None)
copies-within g copies have x = subst (IsCopyPlaceOf g.queues) (sym (copies-at g have.0 copies x have.1)) (copy-within g.queues have.0 x have.1.own)

-- the writes of all copies are the home writes of the descriptors
pub home-writes : (g : Geometry) (d : DriveState) (copies : List (Option CopyPlace)) (writes : Writes) → HaveCopies g copies → writes ≡ writes_from (view_over g d).area (area_of g) 0 copies
    → (ds : List Descriptor) → AreCopies g ds copies → AreHomeWrites g d ds writes
home-writes g d copies writes have is ds are =
    let area = (view_over g d).area in
    subst (AreHomeWrites g d ds) (sym is) (record {
      rising = writes-rise area (area_of g) 0 copies (homes_of g) (let n = copies-length g copies have in omega (arith, n));
      copies = λ x. writes-at area (area_of g) copies x ∙ ap (content_of area (area_of g)) (copies-at g ds copies x are);
    })
