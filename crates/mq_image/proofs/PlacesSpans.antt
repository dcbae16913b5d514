-- Blocks of the namespace, one behind another.
use Rattle.std.proofs.Common.{◌≡◌, ℕ, add-zero, ◌+◌, List, [], ◌∷◌, ◌++◌, length, refl, sym, ap, ◌∙◌, append_assoc, arith, length-append}
use Rattle.std.specs.Prelude.{Option, map}
use Rattle.std.proofs.lemmas.List.{append-nil, map-append}
use Rattle.std.proofs.lemmas.List.Elements.{All-append, All-cons, All-nil}
use Rattle.mq_image.specs.File.{IsBlockSized, kept, one_of, record_bytes, record_count, records}
use Rattle.mq_image.specs.Places.{IsInside, IsNext, IsSpan, rest_of}
use Rattle.mq_image.specs.declared.place.Place.{Place}

pub records-append : (lba : ℕ) (bs cs : List (Option (List ℕ))) → records lba (bs ++ cs) ≡ records lba bs ++ records (lba + length bs) cs
unfolding records
records-append lba [] cs = ap (λ (n : ℕ). records n cs) (sym (add-zero lba))
records-append lba (b ∷ bs) cs =
    let e : lba + 1 + length bs ≡ lba + length (b ∷ bs) = omega arith in
    ap (λ (r : List ℕ). record_bytes lba (kept b) ++ r) (records-append (lba + 1) bs cs)
    ∙ ap (λ (n : ℕ). record_bytes lba (kept b) ++ (records (lba + 1) bs ++ records n cs)) e
    ∙ sym (append_assoc (record_bytes lba (kept b)) (records (lba + 1) bs) (records (lba + length (b ∷ bs)) cs))

pub record_count-append : (bs cs : List (Option (List ℕ))) → record_count (bs ++ cs) ≡ record_count bs + record_count cs
unfolding record_count
record_count-append [] cs = omega arith
record_count-append (b ∷ bs) cs = let e = record_count-append bs cs in omega arith

pub records-one : (lba : ℕ) (b : Option (List ℕ)) → kept b ≡ b → records lba (b ∷ []) ≡ record_bytes lba b
unfolding records
records-one lba b k = append-nil (record_bytes lba (kept b)) ∙ ap (record_bytes lba) k

pub record_count-one : (b : Option (List ℕ)) → kept b ≡ b → record_count (b ∷ []) ≡ one_of b
unfolding record_count
record_count-one b k = let e : one_of (kept b) ≡ one_of b = ap one_of k in omega arith

pub span-none : (file : List ℕ) (p : Place) → IsInside p file → IsSpan file p p []
unfolding records record_count
span-none file p h = record {
  size = refl;
  lba = sym (add-zero p.lba);
  inside = h;
  fault = refl;
  rest = refl;
  end = refl;
  count = omega arith;
  kept_is = refl;
  bytes = λ k d l. absurd (omega arith);
}

pub span-join : (file : List ℕ) (old mid new : Place) (bs cs : List (Option (List ℕ))) → IsSpan file old mid bs → IsSpan file mid new cs → IsSpan file old new (bs ++ cs)
span-join file old mid new bs cs s t =
    let l = length-append bs cs in
    let m = s.lba in
    let n = t.lba in
    let c = record_count-append bs cs in
    let u = s.count in
    let v = t.count in record {
      size = t.size ∙ s.size;
      lba = omega arith;
      inside = t.inside;
      fault = t.fault ∙ s.fault;
      rest = s.rest ∙ ap (λ (r : List ℕ). records old.lba bs ++ r) t.rest ∙ sym (append_assoc (records old.lba bs) (records mid.lba cs) (rest_of new file))
          ∙ ap (λ (n : ℕ). (records old.lba bs ++ records n cs) ++ rest_of new file) s.lba ∙ ap (λ (r : List ℕ). r ++ rest_of new file) (sym (records-append old.lba bs cs));
      end = t.end ∙ s.end;
      count = omega arith;
      kept_is = map-append kept bs cs ∙ ap (λ (r : List (Option (List ℕ))). r ++ map kept cs) s.kept_is ∙ ap (λ (r : List (Option (List ℕ))). bs ++ r) t.kept_is;
      bytes = All-append IsBlockSized bs cs s.bytes t.bytes;
    }

pub span-one : (file : List ℕ) (old new : Place) (b : Option (List ℕ)) → IsNext file old new b → IsSpan file old new (b ∷ [])
span-one file old new b n = record {
  size = n.size;
  lba = n.lba;
  inside = n.inside;
  fault = n.fault;
  rest = n.rest ∙ ap (λ (r : List ℕ). r ++ rest_of new file) (sym (records-one old.lba b n.kept_is));
  end = n.end;
  count = let e = record_count-one b n.kept_is in let c = n.count in omega arith;
  kept_is = ap (λ (x : Option (List ℕ)). x ∷ []) n.kept_is;
  bytes = All-cons IsBlockSized b [] n.bytes (All-nil IsBlockSized);
}

pub span-more : (file : List ℕ) (old mid new : Place) (bs : List (Option (List ℕ))) (b : Option (List ℕ)) → IsSpan file old mid bs → IsNext file mid new b → IsSpan file old new (bs ++ b ∷ [])
span-more file old mid new bs b s n = span-join file old mid new bs (b ∷ []) s (span-one file mid new b n)
