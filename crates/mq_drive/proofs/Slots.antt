-- Flushing copies the staged slots one by one.
use Rattle.std.proofs.Common.{◌≡◌, ◌≢◌, ◌<◌, ◌≤◌, ℕ, ◌+◌, ◌%◌, List, [], length, get_or, set, ⊎_elim, sym, ◌∙◌, ap, subst, arith}
use Rattle.mq_blocks.specs.Limits.{depth}
use Rattle.std.proofs.lemmas.Bool.{cases_eq}
use Rattle.std.proofs.lemmas.Grind.{get_or-set_at}
use Rattle.std.proofs.lemmas.List.{get_or-set_other, ext_get_or}
use Rattle.mq_drive.specs.Slots.{AreSettled}

pub settled_all : (flushed staged : List (List ℕ)) (from to : ℕ) → length flushed ≡ length staged → to ≤ from → AreSettled flushed staged from to → flushed ≡ staged
settled_all flushed staged from to same past settled =
    ext_get_or [] flushed staged same (λ k within. settled k (subst (λ (n : ℕ). k < n) same within) (λ c low high. absurd (omega arith)))

pub settled_one : (flushed staged : List (List ℕ)) (from to : ℕ) (entry : List ℕ) → length flushed ≡ length staged → length staged ≡ depth → entry ≡ get_or staged (from % depth) []
    → AreSettled flushed staged from to → AreSettled (set flushed (from % depth) entry) staged (from + 1) to
settled_one flushed staged from to entry same ring is settled k within apart = ⊎_elim
    (λ here.
    let low : from % depth < length flushed = omega arith in
    get_or-set_at flushed (from % depth) k entry [] here low ∙ is ∙ ap (λ (n : ℕ). get_or staged n []) (sym here))
    (λ other.
    get_or-set_other flushed (from % depth) k entry [] other
    ∙ settled k within (λ c low high at. ⊎_elim
    (λ first. other (sym at ∙ ap (λ (n : ℕ). n % depth) first))
    (λ later. apart c (let ne : c ≢ from = later in omega arith) high at)
    (cases_eq c from)))
    (cases_eq k (from % depth))

-- one more slot is staged
pub settled_stage : (flushed staged : List (List ℕ)) (from to : ℕ) (entry : List ℕ) → from ≤ to
    → AreSettled flushed staged from to → AreSettled flushed (set staged (to % depth) entry) from (to + 1)
settled_stage flushed staged from to entry low settled k within apart =
    let other : k ≢ to % depth = λ at. apart to low (omega arith) (sym at) in
    let inside : k < length staged = subst (λ (n : ℕ). k < n) (Rattle.std.proofs.Math.ListN.length-set staged (to % depth) entry) within in
    settled k inside (λ c first last at. apart c first (omega arith) at)
    ∙ sym (get_or-set_other staged (to % depth) k entry [] other)
