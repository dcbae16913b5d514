-- The first fault of a file, by its parts.
use Rattle.std.proofs.Common.{◌≡◌, ◌⊎◌, ◌<◌, ◌+◌, List, ℕ, inl, inr, refl, sym, ap, subst, ◌∙◌, arith}
use Rattle.std.specs.Prelude.{Option, Some, None, Result, Ok, Err, IsErrOf, MatchResult}
use Rattle.mq_blocks.specs.Geometry.{queues_of, blocks_of_drive}
use Rattle.mq_blocks.specs.declared.geometry.Geometry.{Geometry}
use Rattle.mq_blocks.specs.declared.geometry.GeometryRefusal.{GeometryRefusal}
use Rattle.mq_image.specs.Faults.{FindsFirst, HasFault, HasShape, IsGeometryIn, Refuses, RefusesIn, header_fault, length_fault, block_fault, body_fault, extra_fault, record_fault, words_fault, count_at, count_in, blocks_at, blocks_end, fault_of, version_in}
use Rattle.mq_image.specs.File.{rings_end}
use Rattle.mq_image.proofs.FaultsGeometries.{one_shape}
use Rattle.mq_image.specs.Places.{fault_left}
use Rattle.mq_image.specs.Reads.{IsHeaderIn, IsPast}
use Rattle.mq_image.specs.declared.header.Header.{Header}
use Rattle.mq_image.specs.declared.place.Place.{Place}
use Rattle.mq_image.proofs.PlacesNexts.{end-refused, none-left}
use Rattle.mq_image.specs.declared.fault.FileFault.{FileFault}
use Rattle.mq_image.specs.declared.fault.FileFault.TheVariants.{Order, OutOfMemory}

pub some-refuses : (f : Option FileFault) (e : FileFault) → f ≡ Some e → Refuses f e
some-refuses f OutOfMemory h = tt
some-refuses f e h = h

refuses-of : (f g : Option FileFault) (e : FileFault) → (f ≡ Some e → g ≡ Some e) → Refuses f e → Refuses g e
refuses-of f g OutOfMemory h r = tt
refuses-of f g e h r = h r

-- ---- the parts behind the header

pub length-first : (file : List ℕ) (g : Geometry) (e : FileFault) → length_fault g file ≡ Some e → Refuses (body_fault g file) e
length-first file g e l = some-refuses (body_fault g file) e (rw l refl)

pub block-first : (file : List ℕ) (g : Geometry) (e : FileFault) → length_fault g file ≡ None → Refuses (block_fault g file) e → Refuses (body_fault g file) e
block-first file g e l r = refuses-of (block_fault g file) (body_fault g file) e (λ b. rw (l, b) refl) r

pub extra-first : (file : List ℕ) (g : Geometry) (e : FileFault) → length_fault g file ≡ None → block_fault g file ≡ None → extra_fault (blocks_end file) file ≡ Some e → Refuses (body_fault g file) e
extra-first file g e l b x = some-refuses (body_fault g file) e (rw (l, b) x)

pub body-none : (file : List ℕ) (g : Geometry) → length_fault g file ≡ None → block_fault g file ≡ None → extra_fault (blocks_end file) file ≡ None → body_fault g file ≡ None
body-none file g l b x = rw (l, b) x

-- ---- the whole file

pub none-faulty : (file : List ℕ) (g : Geometry) → header_fault (Ok g) file ≡ None → body_fault g file ≡ None → words_fault (version_in file) file ≡ None → fault_of (Ok g) file ≡ None
unfolding fault_of
none-faulty file g h b w = rw (h, b) w

header-first : (file : List ℕ) (s : Result Geometry GeometryRefusal) (e : FileFault) → header_fault s file ≡ Some e → fault_of s file ≡ Some e
unfolding fault_of
header-first file (Ok g) e h = rw h refl
header-first file (Err r) e h = h

body-second : (file : List ℕ) (g : Geometry) (e : FileFault) → header_fault (Ok g) file ≡ None → body_fault g file ≡ Some e → fault_of (Ok g) file ≡ Some e
unfolding fault_of
body-second file g e h b = rw (h, b) refl

words-last : (file : List ℕ) (g : Geometry) (e : FileFault) → header_fault (Ok g) file ≡ None → body_fault g file ≡ None → words_fault (version_in file) file ≡ Some e → fault_of (Ok g) file ≡ Some e
unfolding fault_of
words-last file g e h b w = rw (h, b) w

-- what is refused in a file of this geometry is refused in the file
for-shape : (file : List ℕ) (g : Geometry) (e : FileFault) → IsGeometryIn file g → Refuses (fault_of (Ok g) file) e → RefusesIn file e
for-shape file g e is r s has = subst (λ (x : Result Geometry GeometryRefusal). Refuses (fault_of x file) e) (sym (one_shape file g s is has)) r

pub header-refuses : (file : List ℕ) (e : FileFault) → ((s : Result Geometry GeometryRefusal) → HasShape file s → header_fault s file ≡ Some e) → RefusesIn file e
header-refuses file e h s has = some-refuses _ e (header-first file s e (h s has))

pub body-refuses : (file : List ℕ) (h : Header) (e : FileFault) → IsHeaderIn file h → Refuses (body_fault h.geometry file) e → RefusesIn file e
body-refuses file h e is r = for-shape file h.geometry e is.geometry_is (refuses-of _ _ e (body-second file h.geometry e is.none) r)

pub words-refuses : (file : List ℕ) (h : Header) (e : FileFault) → IsHeaderIn file h → body_fault h.geometry file ≡ None → Refuses (words_fault h.version file) e → RefusesIn file e
words-refuses file h e is b r =
    for-shape file h.geometry e is.geometry_is (refuses-of _ _ e (λ w. words-last file h.geometry e is.none b (ap (λ (v : ℕ). words_fault v file) (sym is.version_is) ∙ w)) r)

pub no-refusal : (file : List ℕ) (h : Header) → IsHeaderIn file h → body_fault h.geometry file ≡ None → words_fault h.version file ≡ None → fault_of (Ok h.geometry) file ≡ None
no-refusal file h is b w = none-faulty file h.geometry is.none b (ap (λ (v : ℕ). words_fault v file) (sym is.version_is) ∙ w)

-- a reading refuses the first fault of the file
pub finds-first : {X : Type 0} (file : List ℕ) (r : Result X FileFault) (P : X → Geometry) → MatchResult r (λ x. IsGeometryIn file (P x) × (fault_of (Ok (P x)) file ≡ None)) (RefusesIn file) → FindsFirst file r
finds-first file (Ok x) P m fault f = sym f.is ∙ ap (λ (s : Result Geometry GeometryRefusal). fault_of s file) (one_shape file (P x) f.shape m.0 f.has) ∙ m.1
finds-first file (Err e) P m fault f = subst (λ (x : Option FileFault). Refuses x e) f.is (m f.shape f.has)

-- ---- from the records to the file

-- the place before the first record
abbrev pub first_of : Header → ℕ → Place
first_of h count = record { at = rings_end h.version (queues_of h.geometry) + 4; left = count; index = 0; lba = 0; size = blocks_of_drive h.geometry }

pub count-place : (file : List ℕ) (h : Header) → IsHeaderIn file h → rings_end h.version (queues_of h.geometry) ≡ count_at file
count-place file h is = ap (λ (v : ℕ). rings_end v (queues_of h.geometry)) is.version_is ∙ ap (rings_end (version_in file)) is.geometry_is.queues

pub block-is : (file : List ℕ) (h : Header) (p : Place) (count : ℕ) → IsHeaderIn file h → count ≡ count_in file → p ≡ first_of h count → fault_left p file ≡ block_fault h.geometry file
block-is file h p count head e is =
    let g = h.geometry in
    let at : rings_end h.version (queues_of g) + 4 ≡ blocks_at file = ap (λ (n : ℕ). n + 4) (count-place file h head) in
    ap (λ (x : Place). fault_left x file) is
    ∙ ap (λ (n : ℕ). record_fault (blocks_of_drive g) n 0 0 (rings_end h.version (queues_of g) + 4) file) e ∙ ap (λ (n : ℕ). record_fault (blocks_of_drive g) (count_in file) 0 0 n file) at

pub end-is : (file : List ℕ) (h : Header) (p last : Place) (count end n : ℕ) → IsHeaderIn file h → count ≡ count_in file → p ≡ first_of h count → IsPast file p last n → last.left ≡ 0 → end ≡ last.at → end ≡ blocks_end file
end-is file h p last count end n head e is past none at =
    let q = count-place file h head in
    let t = past.end in
    let a : p.at ≡ rings_end h.version (queues_of h.geometry) + 4 = ap (λ (x : Place). x.at) is in
    let l : p.left ≡ count = ap (λ (x : Place). x.left) is in
    omega arith

pub end-refuses : (file : List ℕ) (h : Header) (p last : Place) (count : ℕ) (e : FileFault) → IsHeaderIn file h → length_fault h.geometry file ≡ None → count ≡ count_in file → p ≡ first_of h count → IsPast file p last p.size → 0 < last.left → e ≡ Order last.index
    → Refuses (body_fault h.geometry file) e
end-refuses file h p last count e head ln c is past more order =
    let a : p.lba ≡ 0 = ap (λ (x : Place). x.lba) is in
    let s = past.size in
    let l = past.lba in
    let whole : last.lba ≡ last.size = omega arith in
    let f : block_fault h.geometry file ≡ Some (Order last.index) = sym (block-is file h p count head c is) ∙ sym past.fault ∙ end-refused last file whole more in
    block-first file h.geometry e ln (some-refuses (block_fault h.geometry file) e (f ∙ ap Some (sym order)))

pub block-none : (file : List ℕ) (h : Header) (p last : Place) (count n : ℕ) → IsHeaderIn file h → count ≡ count_in file → p ≡ first_of h count → IsPast file p last n → last.left ≡ 0 → block_fault h.geometry file ≡ None
block-none file h p last count n head c is past none = sym (block-is file h p count head c is) ∙ sym past.fault ∙ none-left last file none

-- a reading that refuses no other fault than the first refuses that one, or wants memory
pub exact-of : {X : Type 0} (file : List ℕ) (r : Result X FileFault) → FindsFirst file r → (e : FileFault) → HasFault file (Some e) → IsErrOf r e ⊎ IsErrOf r OutOfMemory
exact-of file (Ok x) m e h = absurd (no (m (Some e) h)) where
  no : ◌≡◌ {A = Option FileFault} (Some e) None → ⊥
  no p = cc
exact-of file (Err OutOfMemory) m e h = inr refl
exact-of file (Err d) m e h = inl (let p = m (Some e) h in cc)
