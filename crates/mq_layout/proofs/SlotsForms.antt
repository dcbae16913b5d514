-- The bytes of a slot say its entry, and no field is refused, exactly where it is in its form.
use Rattle.std.proofs.Common.{get_or, ◌≡◌, ◌≢◌, ℕ, ◌+◌, ◌-◌, ◌*◌, ◌<◌, ◌≤◌, List, [], ◌∷◌, ◌++◌, length, drop, Bool, nat_eq, refl, sym, ap, subst, ◌∙◌, arith, lit<, length-append, length-drop, inl, inr}
use Rattle.std.specs.Prelude.{Option, Some, None, if◌then◌else◌}
use Rattle.std.proofs.lemmas.Bool.{eq-eqb, ne_eqb, cases_eq, ltb-true, lt-ltb}
use Rattle.std.proofs.lemmas.List.{length-take-le}
use Rattle.std.specs.Int.{to_le_bytes, w32}
use Rattle.mq_blocks.specs.Windows.{number_at, window, Shows}
use Rattle.mq_blocks.proofs.WindowsReadings.{number_at-below}
use Rattle.mq_blocks.proofs.Windows.{number-shown, shows-at, shows-join, shows-left, shows-right}
use Rattle.mq_layout.specs.Fields.{nonzero, refused, zero_bytes}
use Rattle.mq_layout.specs.Names.{IsName}
use Rattle.mq_layout.specs.Slots.{Entry, IsEntry, ShowsSlot, slot_bytes, wrong_from, wrong_used}
use Rattle.mq_layout.specs.declared.refusal.LayoutCause.TheVariants.{Used}
use Rattle.mq_layout.specs.declared.refusal.LayoutRefusal.{LayoutRefusal}
use Rattle.mq_layout.proofs.Fields.{byte-shows, field-first, none-first, number-shows-4, pass, pass-field, pass-none}
use Rattle.mq_layout.proofs.Names.{name-good, name-right}
use Rattle.mq_layout.proofs.FieldsZeros.{length-zero_bytes, shows-zeros, zero_bytes-at, zeros-shown}

pub length-slot_bytes : (e : Entry) → length e.name ≤ 255 → length (slot_bytes e) ≡ 272
unfolding slot_bytes
length-slot_bytes e few =
    let xs₂ = to_le_bytes w32 e.inode ++ (1 ∷ length e.name ∷ []) in
    let xs₃ = xs₂ ++ zero_bytes 10 in
    let n₃ : length xs₃ ≡ 16 = omega (arith, length-append xs₂ (zero_bytes 10), length-zero_bytes 10) in
    omega (arith, length-append xs₃ e.name, length-append (xs₃ ++ e.name) (zero_bytes (256 - length e.name)), length-zero_bytes (256 - length e.name))

-- ---- where no field is refused

-- an unused slot
pub wrong-unused : (p : ℕ) (b : List ℕ) → get_or b (p + 4) 0 ≡ 0 → wrong_from p b ≡ nonzero 1 272 p b
unfolding wrong_from
wrong-unused p b e = rw (eq-eqb _ _ e) refl

pub wrong-used : (p : ℕ) (b : List ℕ) → get_or b (p + 4) 0 ≡ 1 → wrong_from p b ≡ wrong_used (get_or b (p + 5) 0) p b
unfolding wrong_from
wrong-used p b e = rw e refl

used-bad : {R : Type 0} (p used : ℕ) (x y : Option LayoutRefusal) → used ≢ 0 → used ≢ 1 → (if nat_eq used 0 then x else (if nat_eq used 1 then y else Some (refused Used (p + 4)))) ≡ None → R
used-bad p used x y ne other none =
    let n₀ = ne_eqb used 0 ne in
    let n₁ = ne_eqb used 1 other in
    let e : Some (refused Used (p + 4)) ≡ None = sym (ap (λ (c : Bool). if c then x else (if nat_eq used 1 then y else Some (refused Used (p + 4)))) n₀ ∙ ap (λ (c : Bool). if c then y else Some (refused Used (p + 4))) n₁) ∙ none in
    absurd (cc)

pub is-used : (p : ℕ) (b : List ℕ) → get_or b (p + 4) 0 ≢ 0 → wrong_from p b ≡ None → get_or b (p + 4) 0 ≡ 1
unfolding wrong_from
is-used p b ne none = elim (cases_eq (get_or b (p + 4) 0) 1) [
  | inl e ↦ e
  | inr other ↦ used-bad p (get_or b (p + 4) 0) _ _ ne other none
]

-- the four fields of a used slot
record Passes (n p : ℕ) (b : List ℕ) : Type 0 where
  some : 0 < n
  behind : nonzero 1 10 (p + 6) b ≡ None
  name : IsName (window b (p + 16) n)
  rest : nonzero 1 (256 - n) (p + 16 + n) b ≡ None

passes : (n p : ℕ) (b : List ℕ) → wrong_used n p b ≡ None → Passes n p b
unfolding wrong_used
passes n p b none =
    let l = field-first _ _ _ _ none in
    let z = none-first _ _ l.1 in
    let m = field-first _ _ _ _ z.1 in
    let r = none-first _ _ m.1 in
    record { some = ltb-true _ _ l.0; behind = z.0; name = name-good _ m.0; rest = r.0 }

passed : (n p : ℕ) (b : List ℕ) → Passes n p b → wrong_used n p b ≡ None
unfolding wrong_used
passed n p b t = pass-field _ _ _ _ (lt-ltb _ _ t.some) (pass _ _ t.behind (pass-field _ _ _ _ (name-right _ t.name) (pass _ _ t.rest pass-none)))

-- the entry that is read from a used slot
abbrev pub entry_at : ℕ → List ℕ → Entry
entry_at p b = record { inode = number_at 4 p b; name = window b (p + 16) (get_or b (p + 5) 0) }

pub used-shows : (p : ℕ) (b : List ℕ) → p + 272 ≤ length b → ((k : ℕ) → get_or b k 0 < 256) → get_or b (p + 4) 0 ≡ 1 → wrong_used (get_or b (p + 5) 0) p b ≡ None → IsEntry (entry_at p b) × Shows b p (slot_bytes (entry_at p b))
unfolding slot_bytes
used-shows p b room small one none =
    let n = get_or b (p + 5) 0 in
    let name = window b (p + 16) n in
    let low = small (p + 5) in
    let r₀ : p + 4 ≤ length b = omega arith in
    let r₁ : p + 4 + 1 ≤ length b = omega arith in
    let r₂ : p + 5 + 1 ≤ length b = omega arith in
    let r₃ : p + 6 + 10 ≤ length b = omega arith in
    let r₄ : p + 16 + n + (256 - n) ≤ length b = omega arith in
    let len : length name ≡ n = length-take-le n (drop (p + 16) b) (omega (arith, length-drop (p + 16) b)) in
    let t = passes n p b none in
    let inode = number-shows-4 b p (number_at 4 p b) r₀ small refl in
    let used : Shows b (p + 4) (1 ∷ []) = byte-shows b (p + 4) 1 r₁ one in
    let count : Shows b (p + 5) (length name ∷ []) = byte-shows b (p + 5) (length name) r₂ (sym len) in
    let e₅ : p + 5 ≡ p + 4 + 1 = omega arith in
    let two : Shows b (p + 4) (1 ∷ length name ∷ []) = shows-join b (p + 4) (1 ∷ []) (p + 5) (length name ∷ []) used e₅ count in
    let xs₂ = to_le_bytes w32 (number_at 4 p b) ++ (1 ∷ length name ∷ []) in
    let xs₃ = xs₂ ++ zero_bytes 10 in
    let s₂ : Shows b p xs₂ = shows-join b p (to_le_bytes w32 (number_at 4 p b)) (p + 4) (1 ∷ length name ∷ []) inode refl two in
    let s₃ : Shows b p xs₃ = shows-join b p xs₂ (p + 6) (zero_bytes 10) s₂ refl (shows-zeros b (p + 6) 10 r₃ t.behind) in
    let n₃ : p + 16 ≡ p + length xs₃ = omega (arith, length-append xs₂ (zero_bytes 10), length-zero_bytes 10) in
    let shown : Shows b (p + 16) name = ap (λ (k : ℕ). window b (p + 16) k) len in
    let s₄ : Shows b p (xs₃ ++ name) = shows-join b p xs₃ (p + 16) name s₃ n₃ shown in
    let n₄ : p + 16 + n ≡ p + length (xs₃ ++ name) = omega (arith, length-append xs₃ name) in
    let rest : Shows b (p + 16 + n) (zero_bytes (256 - length name)) = let P : ℕ → Type 0 = λ k. Shows b (p + 16 + n) (zero_bytes (256 - k)) in subst P (sym len) (shows-zeros b (p + 16 + n) (256 - n) r₄ t.rest) in
    (record { inode = number_at-below 4 p b small; name = t.name }, shows-join b p (xs₃ ++ name) (p + 16 + n) (zero_bytes (256 - length name)) s₄ n₄ rest)

-- ---- and where it stands there

pub shown-used : (p : ℕ) (b : List ℕ) (e : Entry) → IsEntry e → Shows b p (slot_bytes e) → (get_or b (p + 4) 0 ≡ 1) × (wrong_from p b ≡ None) × (entry_at p b ≡ e)
unfolding slot_bytes
shown-used p b e good s =
    let few = good.name.few in
    let xs₁ = to_le_bytes w32 e.inode in
    let xs₂ = xs₁ ++ (1 ∷ length e.name ∷ []) in
    let xs₃ = xs₂ ++ zero_bytes 10 in
    let xs₄ = xs₃ ++ e.name in
    let n₃ : p + 16 ≡ p + length xs₃ = omega (arith, length-append xs₂ (zero_bytes 10), length-zero_bytes 10) in
    let n₄ : p + 16 + length e.name ≡ p + length xs₄ = omega (arith, length-append xs₃ e.name) in
    let s₄ : Shows b p xs₄ = shows-left b p xs₄ (zero_bytes (256 - length e.name)) s in
    let rest = shows-right b p xs₄ (p + 16 + length e.name) (zero_bytes (256 - length e.name)) s n₄ in
    let s₃ : Shows b p xs₃ = shows-left b p xs₃ e.name s₄ in
    let name = shows-right b p xs₃ (p + 16) e.name s₄ n₃ in
    let s₂ : Shows b p xs₂ = shows-left b p xs₂ (zero_bytes 10) s₃ in
    let behind = shows-right b p xs₂ (p + 6) (zero_bytes 10) s₃ refl in
    let inode = shows-left b p xs₁ (1 ∷ length e.name ∷ []) s₂ in
    let one : get_or b (p + 4) 0 ≡ 1 = shows-at b p xs₂ 4 s₂ (lit< tt) in
    let count : get_or b (p + 5) 0 ≡ length e.name = shows-at b p xs₂ 5 s₂ (lit< tt) in
    let number : number_at 4 p b ≡ e.inode = number-shown b p 4 e.inode good.inode inode in
    let text : window b (p + 16) (get_or b (p + 5) 0) ≡ e.name = ap (λ (k : ℕ). window b (p + 16) k) count ∙ name in
    let fine : wrong_used (length e.name) p b ≡ None = passed (length e.name) p b (record {
      some = good.name.some;
      behind = zeros-shown b (p + 6) 10 behind;
      name = let P : List ℕ → Type 0 = λ xs. IsName xs in subst P (sym name) good.name;
      rest = zeros-shown b (p + 16 + length e.name) (256 - length e.name) rest;
    }) in
    (one, wrong-used p b one ∙ ap (λ (k : ℕ). wrong_used k p b) count ∙ fine, rw (number, text) refl)

pub shown-unused : (p : ℕ) (b : List ℕ) → Shows b p (zero_bytes 272) → (get_or b (p + 4) 0 ≡ 0) × (wrong_from p b ≡ None)
shown-unused p b s =
    let l = length-zero_bytes 272 in
    let z : get_or b (p + 4) 0 ≡ 0 = shows-at b p (zero_bytes 272) 4 s (omega arith) ∙ zero_bytes-at 272 4 in
    (z, wrong-unused p b z ∙ zeros-shown b p 272 s)

-- ---- what a reading gives, where it reads the block b

pub unused-sound : (b w : List ℕ) (at : ℕ) → w ≡ b → length b ≡ 4096 → at < 15 → get_or w (272 * at + 4) 0 ≡ 0 → wrong_from (272 * at) w ≡ None → Shows b (272 * at) (zero_bytes 272)
unused-sound b w at e whole h z none =
    let l : length w ≡ 4096 = ap length e ∙ whole in
    let room : 272 * at + 272 ≤ length w = omega arith in
    let P : List ℕ → Type 0 = λ x. Shows x (272 * at) (zero_bytes 272) in
    subst P e (shows-zeros w (272 * at) 272 room (sym (wrong-unused (272 * at) w z) ∙ none))

pub used-sound : (b w : List ℕ) (at inode : ℕ) → w ≡ b → length b ≡ 4096 → at < 15 → ((k : ℕ) → get_or w k 0 < 256) → get_or w (272 * at + 4) 0 ≢ 0 → inode ≡ number_at 4 (272 * at) w → wrong_from (272 * at) w ≡ None
    → ShowsSlot b at (Some (record { inode = inode; name = window b (272 * at + 16) (get_or w (272 * at + 5) 0) }))
used-sound b w at inode e whole h small ne is none =
    let l : length w ≡ 4096 = ap length e ∙ whole in
    let room : 272 * at + 272 ≤ length w = omega arith in
    let one = is-used (272 * at) w ne none in
    let P : List ℕ → Type 0 = λ x. ShowsSlot x at (Some (record { inode = inode; name = window x (272 * at + 16) (get_or w (272 * at + 5) 0) })) in
    let Q : ℕ → Type 0 = λ n. ShowsSlot w at (Some (record { inode = n; name = window w (272 * at + 16) (get_or w (272 * at + 5) 0) })) in
    subst P e (subst Q (sym is) (used-shows (272 * at) w room small one (sym (wrong-used (272 * at) w one) ∙ none)))

-- no field is refused where a slot is shown
pub slot-none : (b w : List ℕ) (at : ℕ) (o : Option Entry) → w ≡ b → ShowsSlot b at o → wrong_from (272 * at) w ≡ None
slot-none b w at None e s = ap (λ (x : List ℕ). wrong_from (272 * at) x) e ∙ (shown-unused (272 * at) b s).1
slot-none b w at (Some t) e s = ap (λ (x : List ℕ). wrong_from (272 * at) x) e ∙ (shown-used (272 * at) b t s.0 s.1).1

pub slot-unused : (b w : List ℕ) (at : ℕ) (o : Option Entry) → w ≡ b → get_or w (272 * at + 4) 0 ≡ 0 → ShowsSlot b at o → None ≡ o
slot-unused b w at None e z s = refl
slot-unused b w at (Some t) e z s =
    let one : get_or b (272 * at + 4) 0 ≡ 1 = (shown-used (272 * at) b t s.0 s.1).0 in
    let z' : get_or b (272 * at + 4) 0 ≡ 0 = ap (λ (x : List ℕ). get_or x (272 * at + 4) 0) (sym e) ∙ z in
    absurd (omega arith)

pub slot-used : (b w : List ℕ) (at inode : ℕ) (o : Option Entry) → w ≡ b → get_or w (272 * at + 4) 0 ≢ 0 → inode ≡ number_at 4 (272 * at) w → ShowsSlot b at o
    → Some (record { inode = inode; name = window b (272 * at + 16) (get_or w (272 * at + 5) 0) }) ≡ o
slot-used b w at inode None e ne is s = absurd (ne (ap (λ (x : List ℕ). get_or x (272 * at + 4) 0) e ∙ (shown-unused (272 * at) b s).0))
slot-used b w at inode (Some t) e ne is s =
    let same : entry_at (272 * at) b ≡ t = (shown-used (272 * at) b t s.0 s.1).2 in
    let n : inode ≡ number_at 4 (272 * at) b = is ∙ ap (λ (x : List ℕ). number_at 4 (272 * at) x) e in
    rw (n, e) (ap (λ (x : Entry). Some x) same)
