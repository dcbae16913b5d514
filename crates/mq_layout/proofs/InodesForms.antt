-- The bytes of an inode say it, and no field is refused, exactly where it is in its form.
use Rattle.std.proofs.Common.{get_or, ◌≡◌, ℕ, ◌+◌, ◌*◌, ◌%◌, ◌^◌, ◌<◌, ◌≤◌, List, [], ◌∷◌, ◌++◌, length, drop, replicate, Bool, true, nat_eq, refl, sym, ap, subst, ◌∙◌, arith, lit<, length-append, inl, inr}
use Rattle.std.specs.Prelude.{None, nat_le, if◌then◌else◌, ◌&&◌, ◌||◌}
use Rattle.std.proofs.lemmas.Bool.{eq-eqb, leb-true, le-leb, cases_eq, ne_eqb}
use Rattle.std.proofs.lemmas.Bool.Decides.{nat_tests}
use Rattle.std.proofs.lemmas.List.{get_or_default, get_or-replicate, same_lists}
use Rattle.std.specs.Int.{to_le_bytes, w16, w32, w64}
use Rattle.std.specs.List.{All}
use Rattle.mq_blocks.specs.Descriptor.{list_bytes}
use Rattle.mq_blocks.specs.Windows.{number_at, numbers, window, Shows}
use Rattle.mq_blocks.proofs.WindowsReadings.{length-numbers, list_bytes-numbers, number_at-below}
use Rattle.mq_blocks.proofs.Windows.{number-shown, numbers-at, numbers-shown, shows-at, shows-join, shows-left, shows-right}
use Rattle.mq_blocks.proofs.WindowsWritten.{length-list_bytes}
use Rattle.mq_layout.specs.Fields.{nonzero, zero_bytes}
use Rattle.mq_layout.specs.Inodes.{IsInode, ShowsInode, inode_at, inode_bytes, is_links, is_size, wrong_fields}
use Rattle.mq_layout.specs.declared.inode.Inode.{Inode}
use Rattle.mq_layout.proofs.Fields.{byte-shows, field-first, none-first, number-shows-2, number-shows-4, number-shows-8, pass, pass-field, pass-none}
use Rattle.mq_layout.proofs.FieldsWrites.{lengths}
use Rattle.mq_layout.proofs.FieldsZeros.{length-zero_bytes, none-nonzero, nonzero-none, shows-zeros, zeros-shown}

-- the inode is what these bytes say
pub record Says (i : Inode) (p : ℕ) (b : List ℕ) : Type 0 where
  pub kind : i.kind ≡ get_or b p 0
  pub links : i.links ≡ number_at 2 (p + 2) b
  pub size : i.size ≡ number_at 8 (p + 8) b
  pub direct : i.direct ≡ numbers 12 (drop (p + 16) b)
  pub indirect : i.indirect ≡ number_at 4 (p + 64) b

pub inode_at-says : (p : ℕ) (b : List ℕ) → Says (inode_at p b) p b
unfolding inode_at
inode_at-says p b = record { kind = refl; links = refl; size = refl; direct = refl; indirect = refl }

pub says-inode_at : (i : Inode) (p : ℕ) (b : List ℕ) → Says i p b → inode_at p b ≡ i
unfolding inode_at
says-inode_at i p b s = rw (sym s.kind, sym s.links, sym s.size, sym s.direct, sym s.indirect) refl

-- ---- the tests

abbrev links_test : ℕ → ℕ → Bool
links_test kind links = if nat_eq kind 0 then nat_eq links 0 else (nat_le 1 links && (nat_eq kind 1 || nat_eq links 1))

links-free : (kind links : ℕ) → links_test kind links ≡ true → kind ≡ 0 → links ≡ 0
links-free kind links h e = grind (arith, nat_tests)

links-used : (kind links : ℕ) → links_test kind links ≡ true → 1 ≤ kind → 1 ≤ links
links-used kind links h e = grind (arith, nat_tests)

links-directory : (kind links : ℕ) → links_test kind links ≡ true → kind ≡ 2 → links ≡ 1
links-directory kind links h e = grind (arith, nat_tests)

links-right : (kind links : ℕ) → kind ≤ 2 → (kind ≡ 0 → links ≡ 0) → (1 ≤ kind → 1 ≤ links) → (kind ≡ 2 → links ≡ 1) → links_test kind links ≡ true
links-right kind links k free used one = grind (arith, nat_tests)

abbrev size_test : ℕ → ℕ → Bool
size_test kind size = if nat_eq kind 0 then nat_eq size 0 else (nat_le size 4243456 && (nat_eq kind 1 || nat_eq (size % 4096) 0))

size-free : (kind size : ℕ) → size_test kind size ≡ true → kind ≡ 0 → size ≡ 0
size-free kind size h e = grind (arith, nat_tests)

size-used : (kind size : ℕ) → size_test kind size ≡ true → 1 ≤ kind → size ≤ 4243456
size-used kind size h e = grind (arith, nat_tests)

size-directory : (kind size : ℕ) → size_test kind size ≡ true → kind ≡ 2 → size % 4096 ≡ 0
size-directory kind size h e = grind (arith, nat_tests)

size-right : (kind size : ℕ) → kind ≤ 2 → (kind ≡ 0 → size ≡ 0) → (1 ≤ kind → size ≤ 4243456) → (kind ≡ 2 → size % 4096 ≡ 0) → size_test kind size ≡ true
size-right kind size k free used whole = grind (arith, nat_tests)

-- ---- pointers

pointers-low : (i : Inode) (p : ℕ) (b : List ℕ) → ((k : ℕ) → get_or b k 0 < 256) → Says i p b → All (λ x. x < 2 ^ 32) i.direct
pointers-low i p b small s = λ k d l.
    let n : length i.direct ≡ 12 = ap length s.direct ∙ length-numbers 12 (drop (p + 16) b) in
    let e : get_or i.direct k d ≡ number_at 4 (p + 16 + 4 * k) b = get_or_default i.direct k d 0 l ∙ ap (λ (xs : List ℕ). get_or xs k 0) s.direct ∙ numbers-at 12 b (p + 16) k (omega arith) in
    let low = number_at-below 4 (p + 16 + 4 * k) b small in
    omega arith

pointers-free : (i : Inode) (p : ℕ) (b : List ℕ) → Says i p b → nonzero 4 13 (p + 16) b ≡ None → (i.direct ≡ replicate 12 0) × (i.indirect ≡ 0)
pointers-free i p b s none =
    let n : length i.direct ≡ 12 = ap length s.direct ∙ length-numbers 12 (drop (p + 16) b) in
    let m : length {A = ℕ} (replicate 12 0) ≡ 12 = refl in
    let direct : i.direct ≡ replicate 12 0 = same_lists _ _ n (λ k d l.
    let low : k < 12 = omega arith in
    get_or_default i.direct k d 0 l ∙ ap (λ (xs : List ℕ). get_or xs k 0) s.direct ∙ numbers-at 12 b (p + 16) k low ∙ none-nonzero 4 13 (p + 16) b none k (omega arith) ∙ sym (get_or-replicate 12 k 0 d low)) in
    let q : p + 16 + 4 * 12 ≡ p + 64 = omega arith in
    (direct, s.indirect ∙ ap (λ (j : ℕ). number_at 4 j b) (sym q) ∙ none-nonzero 4 13 (p + 16) b none 12 (omega arith))

pointers-right : (i : Inode) (p : ℕ) (b : List ℕ) → Says i p b → i.direct ≡ replicate 12 0 → i.indirect ≡ 0 → nonzero 4 13 (p + 16) b ≡ None
pointers-right i p b s e f = nonzero-none 4 13 (p + 16) b (λ j l. elim (cases_eq j 12) [
  | inl same ↦ let q : p + 16 + 4 * j ≡ p + 64 = omega arith in ap (λ (k : ℕ). number_at 4 k b) q ∙ sym s.indirect ∙ f
  | inr other ↦ let low : j < 12 = omega arith in sym (numbers-at 12 b (p + 16) j low) ∙ ap (λ (xs : List ℕ). get_or xs j 0) (sym s.direct ∙ e) ∙ get_or-replicate 12 j 0 0 low
])

one_zero : zero_bytes 1 ≡ 0 ∷ []
unfolding zero_bytes
one_zero = refl

-- ---- where no field is refused

-- the seven fields
record Passes (i : Inode) (p : ℕ) (b : List ℕ) : Type 0 where
  kind : nat_le i.kind 2 ≡ true
  second : nonzero 1 1 (p + 1) b ≡ None
  links : is_links i ≡ true
  behind : nonzero 1 4 (p + 4) b ≡ None
  size : is_size i ≡ true
  pointers : (if nat_eq i.kind 0 then nonzero 4 13 (p + 16) b else None) ≡ None
  rest : nonzero 1 60 (p + 68) b ≡ None

passes : (i : Inode) (p : ℕ) (b : List ℕ) → wrong_fields i p b ≡ None → Passes i p b
unfolding wrong_fields
passes i p b none =
    let k = field-first _ _ _ _ none in
    let z = none-first _ _ k.1 in
    let l = field-first _ _ _ _ z.1 in
    let y = none-first _ _ l.1 in
    let s = field-first _ _ _ _ y.1 in
    let q = none-first _ _ s.1 in
    let r = none-first _ _ q.1 in
    record { kind = k.0; second = z.0; links = l.0; behind = y.0; size = s.0; pointers = q.0; rest = r.0 }

passed : (i : Inode) (p : ℕ) (b : List ℕ) → Passes i p b → wrong_fields i p b ≡ None
unfolding wrong_fields
passed i p b t = pass-field _ _ _ _ t.kind (pass _ _ t.second (pass-field _ _ _ _ t.links (pass _ _ t.behind (pass-field _ _ _ _ t.size (pass _ _ t.pointers (pass _ _ t.rest pass-none))))))

pub inode-good : (i : Inode) (p : ℕ) (b : List ℕ) → ((k : ℕ) → get_or b k 0 < 256) → Says i p b → wrong_fields i p b ≡ None → IsInode i
inode-good i p b small s none =
    let t = passes i p b none in
    record {
      kind = leb-true _ _ t.kind;
      free = λ e.
          let yes = eq-eqb i.kind 0 e in
          let q = pointers-free i p b s (ap (λ (c : Bool). if c then nonzero 4 13 (p + 16) b else None) (sym yes) ∙ t.pointers) in
          (links-free i.kind i.links t.links e, size-free i.kind i.size t.size e, q.0, q.1);
      used = λ e. (links-used i.kind i.links t.links e, size-used i.kind i.size t.size e);
      directory = λ e. (links-directory i.kind i.links t.links e, size-directory i.kind i.size t.size e);
      links = let low = number_at-below 2 (p + 2) b small in let e = s.links in omega arith;
      twelve = ap length s.direct ∙ length-numbers 12 (drop (p + 16) b);
      direct = pointers-low i p b small s;
      indirect = let low = number_at-below 4 (p + 64) b small in let e = s.indirect in omega arith;
    }

-- how long its bytes are
pub length-inode_bytes : (i : Inode) → length i.direct ≡ 12 → length (inode_bytes i) ≡ 128
unfolding inode_bytes
length-inode_bytes i twelve =
    let n = lengths i twelve in
    let l = length-zero_bytes 60 in
    omega (arith, n.six, length-append ((i.kind ∷ 0 ∷ []) ++ to_le_bytes w16 i.links ++ zero_bytes 4 ++ to_le_bytes w64 i.size ++ list_bytes i.direct ++ to_le_bytes w32 i.indirect) (zero_bytes 60))

direct-shows : (i : Inode) (p : ℕ) (b : List ℕ) → p + 16 + 4 * 12 ≤ length b → ((k : ℕ) → get_or b k 0 < 256) → Says i p b → Shows b (p + 16) (list_bytes i.direct)
direct-shows i p b room small s =
    let n : length (list_bytes i.direct) ≡ 4 * 12 = length-list_bytes i.direct ∙ ap (λ (k : ℕ). 4 * k) (ap length s.direct ∙ length-numbers 12 (drop (p + 16) b)) in
    ap (λ (k : ℕ). window b (p + 16) k) n ∙ sym (list_bytes-numbers 12 (p + 16) b room small) ∙ ap list_bytes (sym s.direct)

pub inode-shows : (i : Inode) (p : ℕ) (b : List ℕ) → p + 128 ≤ length b → ((k : ℕ) → get_or b k 0 < 256) → Says i p b → wrong_fields i p b ≡ None → Shows b p (inode_bytes i)
unfolding inode_bytes
inode-shows i p b room small s none =
    let r₀ : p + 1 ≤ length b = omega arith in
    let r₁ : p + 1 + 1 ≤ length b = omega arith in
    let r₂ : p + 2 + 2 ≤ length b = omega arith in
    let r₃ : p + 4 + 4 ≤ length b = omega arith in
    let r₄ : p + 8 + 8 ≤ length b = omega arith in
    let r₅ : p + 16 + 4 * 12 ≤ length b = omega arith in
    let r₆ : p + 64 + 4 ≤ length b = omega arith in
    let r₇ : p + 68 + 60 ≤ length b = omega arith in
    let t = passes i p b none in
    let a : Shows b (p + 1) (0 ∷ []) = let P : List ℕ → Type 0 = λ xs. Shows b (p + 1) xs in subst P one_zero (shows-zeros b (p + 1) 1 r₁ t.second) in
    let s₁ : Shows b p (i.kind ∷ 0 ∷ []) = shows-join b p (i.kind ∷ []) (p + 1) (0 ∷ []) (byte-shows b p i.kind r₀ (sym s.kind)) refl a in
    let xs₂ = (i.kind ∷ 0 ∷ []) ++ to_le_bytes w16 i.links in
    let xs₃ = xs₂ ++ zero_bytes 4 in
    let xs₄ = xs₃ ++ to_le_bytes w64 i.size in
    let xs₅ = xs₄ ++ list_bytes i.direct in
    let n = lengths i (ap length s.direct ∙ length-numbers 12 (drop (p + 16) b)) in
    let s₂ : Shows b p xs₂ = shows-join b p (i.kind ∷ 0 ∷ []) (p + 2) (to_le_bytes w16 i.links) s₁ refl (number-shows-2 b (p + 2) i.links r₂ small (sym s.links)) in
    let s₃ : Shows b p xs₃ = shows-join b p xs₂ (p + 4) (zero_bytes 4) s₂ refl (shows-zeros b (p + 4) 4 r₃ t.behind) in
    let s₄ : Shows b p xs₄ = shows-join b p xs₃ (p + 8) (to_le_bytes w64 i.size) s₃ (ap (λ (k : ℕ). p + k) (sym n.three)) (number-shows-8 b (p + 8) i.size r₄ small (sym s.size)) in
    let s₅ : Shows b p xs₅ = shows-join b p xs₄ (p + 16) (list_bytes i.direct) s₄ (ap (λ (k : ℕ). p + k) (sym n.four)) (direct-shows i p b r₅ small s) in
    let s₆ : Shows b p (xs₅ ++ to_le_bytes w32 i.indirect) = shows-join b p xs₅ (p + 64) (to_le_bytes w32 i.indirect) s₅ (ap (λ (k : ℕ). p + k) (sym n.five)) (number-shows-4 b (p + 64) i.indirect r₆ small (sym s.indirect)) in
    shows-join b p (xs₅ ++ to_le_bytes w32 i.indirect) (p + 68) (zero_bytes 60) s₆ (ap (λ (k : ℕ). p + k) (sym n.six)) (shows-zeros b (p + 68) 60 r₇ t.rest)

-- ---- and where it stands there

-- the parts of its bytes
record Parts (i : Inode) (p : ℕ) (b : List ℕ) : Type 0 where
  kind : Shows b p (i.kind ∷ 0 ∷ [])
  links : Shows b (p + 2) (to_le_bytes w16 i.links)
  behind : Shows b (p + 4) (zero_bytes 4)
  size : Shows b (p + 8) (to_le_bytes w64 i.size)
  direct : Shows b (p + 16) (list_bytes i.direct)
  indirect : Shows b (p + 64) (to_le_bytes w32 i.indirect)
  rest : Shows b (p + 68) (zero_bytes 60)

parts : (i : Inode) (p : ℕ) (b : List ℕ) → length i.direct ≡ 12 → Shows b p (inode_bytes i) → Parts i p b
unfolding inode_bytes
parts i p b twelve s =
    let xs₁ = i.kind ∷ 0 ∷ [] in
    let xs₂ = xs₁ ++ to_le_bytes w16 i.links in
    let xs₃ = xs₂ ++ zero_bytes 4 in
    let xs₄ = xs₃ ++ to_le_bytes w64 i.size in
    let xs₅ = xs₄ ++ list_bytes i.direct in
    let xs₆ = xs₅ ++ to_le_bytes w32 i.indirect in
    let n = lengths i twelve in
    let s₆ : Shows b p xs₆ = shows-left b p xs₆ (zero_bytes 60) s in
    let s₅ : Shows b p xs₅ = shows-left b p xs₅ (to_le_bytes w32 i.indirect) s₆ in
    let s₄ : Shows b p xs₄ = shows-left b p xs₄ (list_bytes i.direct) s₅ in
    let s₃ : Shows b p xs₃ = shows-left b p xs₃ (to_le_bytes w64 i.size) s₄ in
    let s₂ : Shows b p xs₂ = shows-left b p xs₂ (zero_bytes 4) s₃ in
    record {
      kind = shows-left b p xs₁ (to_le_bytes w16 i.links) s₂;
      links = shows-right b p xs₁ (p + 2) (to_le_bytes w16 i.links) s₂ refl;
      behind = shows-right b p xs₂ (p + 4) (zero_bytes 4) s₃ refl;
      size = shows-right b p xs₃ (p + 8) (to_le_bytes w64 i.size) s₄ (ap (λ (k : ℕ). p + k) (sym n.three));
      direct = shows-right b p xs₄ (p + 16) (list_bytes i.direct) s₅ (ap (λ (k : ℕ). p + k) (sym n.four));
      indirect = shows-right b p xs₅ (p + 64) (to_le_bytes w32 i.indirect) s₆ (ap (λ (k : ℕ). p + k) (sym n.five));
      rest = shows-right b p xs₆ (p + 68) (zero_bytes 60) s (ap (λ (k : ℕ). p + k) (sym n.six));
    }

links-low : (i : Inode) → IsInode i → i.links < 256 ^ 2
links-low i good = let h = good.links in omega arith

size-low : (i : Inode) → IsInode i → i.size < 256 ^ 8
size-low i good = elim (cases_eq i.kind 0) [
  | inl e ↦ let h = (good.free e).1 in omega arith
  | inr ne ↦ let h : i.size ≤ 4243456 = (good.used (omega arith)).1 in omega arith
]

pub shown-says : (i : Inode) (p : ℕ) (b : List ℕ) → IsInode i → Shows b p (inode_bytes i) → Says i p b
shown-says i p b good s =
    let t = parts i p b good.twelve s in
    let zero_on : p + 0 ≡ p = omega arith in
    record {
      kind = sym (ap (λ (k : ℕ). get_or b k 0) (sym zero_on) ∙ shows-at b p (i.kind ∷ 0 ∷ []) 0 t.kind (lit< tt));
      links = sym (number-shown b (p + 2) 2 i.links (links-low i good) t.links);
      size = sym (number-shown b (p + 8) 8 i.size (size-low i good) t.size);
      direct = sym (numbers-shown b (p + 16) i.direct good.direct t.direct) ∙ ap (λ (n : ℕ). numbers n (drop (p + 16) b)) good.twelve;
      indirect = sym (number-shown b (p + 64) 4 i.indirect good.indirect t.indirect);
    }

pub inode-right : (i : Inode) (p : ℕ) (b : List ℕ) → IsInode i → Shows b p (inode_bytes i) → wrong_fields i p b ≡ None
inode-right i p b good s =
    let t = parts i p b good.twelve s in
    let says = shown-says i p b good s in
    let second : Shows b (p + 1) (zero_bytes 1) = let P : List ℕ → Type 0 = λ xs. Shows b (p + 1) xs in subst P (sym one_zero) (shows-right b p (i.kind ∷ []) (p + 1) (0 ∷ []) t.kind refl) in
    passed i p b (record {
      kind = le-leb _ _ good.kind;
      second = zeros-shown b (p + 1) 1 second;
      links = links-right i.kind i.links good.kind (λ e. (good.free e).0) (λ e. (good.used e).0) (λ e. (good.directory e).0);
      behind = zeros-shown b (p + 4) 4 t.behind;
      size = size-right i.kind i.size good.kind (λ e. (good.free e).1) (λ e. (good.used e).1) (λ e. (good.directory e).1);
      pointers = elim (cases_eq i.kind 0) [
        | inl e ↦ let f = good.free e in let yes = eq-eqb i.kind 0 e in ap (λ (c : Bool). if c then nonzero 4 13 (p + 16) b else None) yes ∙ pointers-right i p b says f.2 f.3
        | inr ne ↦ let none = ne_eqb i.kind 0 ne in ap (λ (c : Bool). if c then nonzero 4 13 (p + 16) b else None) none
      ];
      rest = zeros-shown b (p + 68) 60 t.rest;
    })

-- ---- what a reading gives, where it reads the block b

pub read-sound : (b w : List ℕ) (at : ℕ) (i : Inode) → w ≡ b → length b ≡ 4096 → at < 32 → ((k : ℕ) → get_or w k 0 < 256) → i ≡ inode_at (128 * at) w → wrong_fields i (128 * at) w ≡ None → ShowsInode b at i
read-sound b w at i e whole h small is none =
    let l : length w ≡ 4096 = ap length e ∙ whole in
    let room : 128 * at + 128 ≤ length w = omega arith in
    let says : Says i (128 * at) w = let P : Inode → Type 0 = λ j. Says j (128 * at) w in subst P (sym is) (inode_at-says (128 * at) w) in
    let Q : List ℕ → Type 0 = λ x. ShowsInode x at i in
    subst Q e (inode-good i (128 * at) w small says none, inode-shows i (128 * at) w room small says none)

pub read-same : (b w : List ℕ) (at : ℕ) (i j : Inode) → w ≡ b → i ≡ inode_at (128 * at) w → ShowsInode b at j → i ≡ j
read-same b w at i j e is s = is ∙ ap (λ (x : List ℕ). inode_at (128 * at) x) e ∙ says-inode_at j (128 * at) b (shown-says j (128 * at) b s.0 s.1)

pub read-none : (b w : List ℕ) (at : ℕ) (i j : Inode) → w ≡ b → i ≡ inode_at (128 * at) w → ShowsInode b at j → wrong_fields i (128 * at) w ≡ None
read-none b w at i j e is s =
    ap (λ (x : Inode). wrong_fields x (128 * at) w) (read-same b w at i j e is s) ∙ ap (λ (x : List ℕ). wrong_fields j (128 * at) x) e ∙ inode-right j (128 * at) b s.0 s.1
