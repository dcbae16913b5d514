-- Lemmas on files and sinks.
use Rattle.std.proofs.Common.{◌≡◌, inl, inr, ℕ, zero, suc, ◌+◌, ◌<◌, ◌≤◌, Bool, true, false, cond, List, [], ◌∷◌, ◌++◌, length, take, drop, get_or, refl, sym, subst, ap, ◌∙◌, append_assoc, arith}
use Rattle.std.specs.Prelude.{Option, None, Some, Result, Ok, Err, IfOk, IsErr, OnOk, find, position}
use Rattle.std.specs.List.{position_or_len}
use Rattle.std.proofs.Math.ListN.{set}
use Rattle.std.proofs.Math.Dec.{ltb}
use Rattle.std.proofs.Math.Path.{fun_ext}
use Rattle.std.specs.Option.{option_map, option_or, unwrap_or}
use Rattle.std.specs.Str.{bytes_eq}
use Rattle.std.specs.String.{string_bytes}
use Rattle.std.specs.declared.string.String.{String}
use Rattle.std.specs.declared.vec.Vec.{Vec}
use Rattle.std.proofs.lemmas.Bool.{cases_Bool, ltb-false}
use Rattle.std.proofs.lemmas.Slice.Eq.{bytes_eq-Decides}
use Rattle.std.proofs.lemmas.Option.{slice_get_past}
use Rattle.std.proofs.lemmas.List.Folds.{find_at, find-set, find-append}
use Rattle.std.proofs.lemmas.List.Quantifiers.{position-Some}
use Rattle.std.proofs.lemmas.List.{take-take, take-append-drop, drop-take}
use Rattle.mq_outside.specs.Outside.{Held, appended, held_in, is_named, put_held, certain_in}

-- a prefix and the first bytes of the rest are a longer prefix
pub take-drop-take : (a n : ℕ) (bytes : List ℕ) → take a bytes ++ take n (drop a bytes) ≡ take (a + n) bytes
take-drop-take a n bytes =
    let below : a ≤ a + n = omega arith in
    let front : take a (take (a + n) bytes) ≡ take a bytes = take-take a (a + n) bytes below in
    let back : drop a (take (a + n) bytes) ≡ take n (drop a bytes) = drop-take a n bytes in
    ap (λ more. more ++ take n (drop a bytes)) (sym front)
    ∙ ap (λ more. take a (take (a + n) bytes) ++ more) (sym back)
    ∙ take-append-drop a (take (a + n) bytes)

-- a sink that was appended a prefix and then the first bytes of the rest was appended a longer prefix
pub appended-more : (a n m : ℕ) (bytes : List ℕ) (old : Option (List ℕ)) → n ≤ m → appended (appended old (take a bytes)) (take n (take m (drop a bytes))) ≡ appended old (take (a + n) bytes)
appended-more a n m bytes None within = refl
appended-more a n m bytes (Some written) within =
    let same : take n (take m (drop a bytes)) ≡ take n (drop a bytes) = take-take n m (drop a bytes) within in
    ap Some (ap (λ more. (written ++ take a bytes) ++ more) same
    ∙ append_assoc written (take a bytes) (take n (drop a bytes))
    ∙ ap (λ more. written ++ more) (take-drop-take a n bytes))

-- an entry that fails the test and is replaced by one that fails it changes no find
find-skip : {X : Type 0} (p : X → Bool) (xs : List X) (i : ℕ) (y d : X) → i < length xs → p y ≡ false → p (get_or xs i d) ≡ false → find p (set xs i y) ≡ find p xs
find-skip p [] i y d within new old = refl
find-skip p (x ∷ xs) zero y d within new old = rw (new, old) refl
find-skip p (x ∷ xs) (suc i) y d within new old =
    let below : i < length xs = omega arith in
    ap (λ found. cond (p x) (Some x) found) (find-skip p xs i y d below new old)

-- where no entry passes the test, none is found
find-absent : {X : Type 0} (p : X → Bool) (xs : List X) → position p xs ≡ None → find p xs ≡ None
find-absent p xs absent =
    elim (cases_Bool (ltb (position_or_len p xs) (length xs))) [
      | inl within ↦ let present : Some (position_or_len p xs) ≡ None = rw within at absent in cc
      | inr past ↦ find_at p xs ∙ slice_get_past xs (position_or_len p xs) (ltb-false _ _ past)
    ]

-- the place of the first entry that passes
place_of : {X : Type 0} (p : X → Bool) (xs : List X) (i : ℕ) → position p xs ≡ Some i → i ≡ position_or_len p xs
place_of p xs i found =
    elim (cases_Bool (ltb (position_or_len p xs) (length xs))) [
      | inl within ↦ let same : Some (position_or_len p xs) ≡ Some i = rw within at found in cc
      | inr past ↦ let none : None ≡ Some i = rw past at found in cc
    ]

-- names that differ one way differ the other way
differ : (xs ys : List ℕ) → bytes_eq xs ys ≡ false → bytes_eq ys xs ≡ false
differ xs ys apart =
    elim (cases_Bool (bytes_eq ys xs)) [
      | inl same ↦ let equal : bytes_eq xs ys ≡ true = (bytes_eq-Decides xs ys).1 (sym ((bytes_eq-Decides ys xs).0 same)) in cc
      | inr other ↦ other
    ]

-- one more entry that fails the test changes no find
find-append-skip : {X : Type 0} (p : X → Bool) (xs : List X) (y : X) → p y ≡ false → find p (xs ++ y ∷ []) ≡ find p xs
find-append-skip p [] y fails = rw fails refl
find-append-skip p (x ∷ xs) y fails = ap (λ found. cond (p x) (Some x) found) (find-append-skip p xs y fails)

-- the first entry that passes is found
find-append-hit : {X : Type 0} (p : X → Bool) (xs : List X) (y : X) → find p xs ≡ None → p y ≡ true → find p (xs ++ y ∷ []) ≡ Some y
find-append-hit p xs y absent passes =
    find-append p xs (y ∷ [])
    ∙ ap (λ found. option_or found (find p (y ∷ []))) absent
    ∙ ap (λ b. cond b (Some y) None) passes

-- what a name holds that was put
put_held-same : (held : Held) (name bytes other : List ℕ) → bytes_eq other name ≡ true → put_held held name bytes other ≡ Some bytes
put_held-same held name bytes other same = ap (λ b. cond b (Some bytes) (held other)) same

-- what any other name holds
put_held-other : (held : Held) (name bytes other : List ℕ) → bytes_eq other name ≡ false → put_held held name bytes other ≡ held other
put_held-other held name bytes other apart = ap (λ b. cond b (Some bytes) (held other)) apart

-- an entry of one name doesn't have another
is_named-other : {Y : Type 0} (name other : List ℕ) (entry : String Y × Vec ℕ Y) → string_bytes entry.0 ≡ name → bytes_eq other name ≡ false → is_named other entry ≡ false
is_named-other name other entry named apart = ap (λ n. bytes_eq n other) named ∙ differ other name apart

-- other bytes at the place of a name's entry are put at that name
pub held_in-set : {Y : Type 0} (entries : List (String Y × Vec ℕ Y)) (name bytes : List ℕ) (i : ℕ) (entry : String Y × Vec ℕ Y) (copy : Vec ℕ Y)
    → position (is_named name) entries ≡ Some i → entry ≡ get_or entries i entry → copy.items ≡ bytes
    → held_in (set entries i (entry.0, copy)) ≡ put_held (held_in entries) name bytes
held_in-set {Y} entries name bytes i entry copy found at_place copied =
    let some = position-Some (is_named name) entries i entry found in
    let within : i < length entries = some.0 in
    let named : is_named name entry ≡ true = subst (λ (e : String Y × Vec ℕ Y). is_named name e ≡ true) (sym at_place) some.1 in
    let has : string_bytes entry.0 ≡ name = (bytes_eq-Decides (string_bytes entry.0) name).0 named in
    let bytes_of = λ (o : Option (String Y × Vec ℕ Y)). option_map (λ (e : String Y × Vec ℕ Y). e.1.items) o in
    fun_ext λ other.
    elim (cases_Bool (bytes_eq other name)) [
      | inl same ↦
          let equal : other ≡ name = (bytes_eq-Decides other name).0 same in
          ap (λ n. bytes_of (find (is_named n) (set entries i (entry.0, copy)))) equal
          ∙ ap bytes_of (find-set (is_named name) entries i (entry.0, copy) (place_of (is_named name) entries i found) within named)
          ∙ ap Some copied
          ∙ sym (put_held-same (held_in entries) name bytes other same)
      | inr apart ↦
          let skipped : is_named other entry ≡ false = is_named-other name other entry has apart in
          let old : is_named other (get_or entries i entry) ≡ false = subst (λ (e : String Y × Vec ℕ Y). is_named other e ≡ false) at_place skipped in
          ap bytes_of (find-skip (is_named other) entries i (entry.0, copy) entry within skipped old)
          ∙ sym (put_held-other (held_in entries) name bytes other apart)
    ]

-- an entry of an absent name is put at that name
pub held_in-push : {Y : Type 0} (entries : List (String Y × Vec ℕ Y)) (name bytes : List ℕ) (entry : String Y × Vec ℕ Y)
    → position (is_named name) entries ≡ None → string_bytes entry.0 ≡ name → entry.1.items ≡ bytes
    → held_in (entries ++ entry ∷ []) ≡ put_held (held_in entries) name bytes
held_in-push {Y} entries name bytes entry absent has copied =
    let named : is_named name entry ≡ true = (bytes_eq-Decides (string_bytes entry.0) name).1 has in
    let bytes_of = λ (o : Option (String Y × Vec ℕ Y)). option_map (λ (e : String Y × Vec ℕ Y). e.1.items) o in
    fun_ext λ other.
    elim (cases_Bool (bytes_eq other name)) [
      | inl same ↦
          let equal : other ≡ name = (bytes_eq-Decides other name).0 same in
          ap (λ n. bytes_of (find (is_named n) (entries ++ entry ∷ []))) equal
          ∙ ap bytes_of (find-append-hit (is_named name) entries entry (find-absent (is_named name) entries absent) named)
          ∙ ap Some copied
          ∙ sym (put_held-same (held_in entries) name bytes other same)
      | inr apart ↦
          ap bytes_of (find-append-skip (is_named other) entries entry (is_named-other name other entry has apart))
          ∙ sym (put_held-other (held_in entries) name bytes other apart)
    ]

-- bytes that are put are put too where an absent name holds no bytes
pub certain_in-put : {Y : Type 0} (old new : List (String Y × Vec ℕ Y)) (name bytes : List ℕ)
    → held_in new ≡ put_held (held_in old) name bytes → certain_in new ≡ put_held (certain_in old) name bytes
certain_in-put {Y} old new name bytes puts =
    fun_ext λ other.
    ap (λ (held : Held). Some (unwrap_or (held other) [])) puts
    ∙ elim (cases_Bool (bytes_eq other name)) [
      | inl same ↦
          ap (λ held. Some (unwrap_or held [])) (put_held-same (held_in old) name bytes other same)
          ∙ sym (put_held-same (certain_in old) name bytes other same)
      | inr apart ↦
          ap (λ held. Some (unwrap_or held [])) (put_held-other (held_in old) name bytes other apart)
          ∙ sym (put_held-other (certain_in old) name bytes other apart)
    ]

-- what holds of the reader that was opened holds of some reader
pub opened-some : {F E T D : Type 0} (opened : Result F E) (r : Result T D) (same : Type 0) (P : F → Type 0) → (IsErr opened → IsErr r × same) → IfOk opened (λ f. OnOk r (P f)) → OnOk r ((f : F) × P f)
opened-some (Ok f) (Ok u) same P refused all = (f, all)
opened-some (Ok f) (Err e) same P refused all = tt
opened-some (Err e) (Ok u) same P refused all = absurd (no (refused refl).0) where
  no : false ≡ true → ⊥
  no e = cc
opened-some (Err e) (Err d) same P refused all = tt
