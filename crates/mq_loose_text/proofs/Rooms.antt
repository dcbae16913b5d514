-- The places that are left on each queue's journal area.
use Rattle.std.proofs.Common.{◌≡◌, ℕ, ◌+◌, ◌<◌, ◌≤◌, List, [], ◌∷◌, ◌++◌, get_or, sym, ◌∙◌, subst, arith}
use Rattle.std.specs.Prelude.{replicate}
use Rattle.std.proofs.lemmas.List.{get_or-replicate}
use Rattle.std.proofs.lemmas.List.Elements.{All-nil}
use Rattle.mq_loose_text.specs.Text.{IsGoodLine, IsGoodText, line_text, places_on, queue_count}
use Rattle.mq_loose_text.specs.declared.line.LooseLine.{LooseLine}
use Rattle.mq_loose_text.proofs.LooseLines.{good_last, good_more, line_injective, places_append, queue_low}

-- what the lines take of each area, and what is left, is all of it
abbrev pub HasRoom : List LooseLine → List ℕ → Type 0
HasRoom lines room = (q : ℕ) → q < queue_count → places_on q lines + get_or room q 0 ≡ 1024

-- what the line takes, and what is left behind it, was left before it
abbrev pub Takes : LooseLine → (room left : List ℕ) → Type 0
Takes l room left = (q : ℕ) → q < queue_count → places_on q (l ∷ []) + get_or left q 0 ≡ get_or room q 0

abbrev pub Lacks : LooseLine → (room : List ℕ) → Type 0
Lacks l room = (q : ℕ) × (q < queue_count) × (get_or room q 0 < places_on q (l ∷ []))

pub text_none : IsGoodText []
text_none = record {
  good = All-nil IsGoodLine;
  fits = λ q h. omega arith;
}

abbrev pub whole_room : List ℕ
whole_room = replicate 4 1024

whole_at : (q : ℕ) → q < 4 → get_or whole_room q 0 ≡ 1024
whole_at q h = get_or-replicate 4 q 1024 0 h

pub room_first : HasRoom [] whole_room
room_first q h = omega (arith, whole_at q (queue_low q h))

pub room_more : (lines : List LooseLine) (l : LooseLine) (room left : List ℕ) → HasRoom lines room → Takes l room left → HasRoom (lines ++ l ∷ []) left
room_more lines l room left has takes q h =
    let sum = places_append q lines (l ∷ []) in
    let all = has q h in
    let rest = takes q h in
    omega arith

pub text_more : (lines : List LooseLine) (l : LooseLine) (room left : List ℕ) → IsGoodText lines → IsGoodLine l → HasRoom lines room → Takes l room left → IsGoodText (lines ++ l ∷ [])
text_more lines l room left good line has takes =
    good_more lines l good line (λ q h. (let all = has q h in let rest = takes q h in omega arith))

-- a text that is no good line may not stand
pub no_line : (lines : List LooseLine) (text : List ℕ) → ((l : LooseLine) → IsGoodLine l → text ≡ line_text l → ⊥) → (l : LooseLine) → text ≡ line_text l → IsGoodText (lines ++ l ∷ []) → ⊥
no_line lines text none l e good = none l (good_last lines l good) e

-- a line for which no room is left may not stand
pub no_room :
    (lines : List LooseLine) (text : List ℕ) (m : LooseLine) (room : List ℕ) → IsGoodLine m → text ≡ line_text m → HasRoom lines room → Lacks m room
    → (l : LooseLine) → text ≡ line_text l → IsGoodText (lines ++ l ∷ []) → ⊥
no_room lines text m room line is has lacks l e good =
    let q = lacks.0 in
    let same : l ≡ m = line_injective l m (good_last lines l good) line (sym e ∙ is) in
    let fits : places_on q (lines ++ m ∷ []) ≤ 1024 = subst (λ (x : LooseLine). places_on q (lines ++ x ∷ []) ≤ 1024) same (good.fits q lacks.1) in
    let sum = places_append q lines (m ∷ []) in
    let all = has q lacks.1 in
    let more = lacks.2 in
    omega arith
