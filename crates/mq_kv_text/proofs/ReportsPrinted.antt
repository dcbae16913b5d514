-- The lines of a report, printed one after another.
use Rattle.std.proofs.Common.{◌≡◌, ℕ, ◌+◌, ◌<◌, List, [], ◌∷◌, ◌++◌, length, get_or, drop, sym, ◌∙◌, ap, refl, append_assoc}
use Rattle.std.specs.Prelude.{decimal}
use Rattle.std.proofs.lemmas.List.{drop_more}
use Rattle.mq_block_text.specs.Refusals.{ended}
use Rattle.mq_kv_text.specs.Reports.{group_lines, groups_lines}
use Rattle.mq_kv_text.specs.declared.report.GroupReport.{GroupReport}

ended_append : (xs ys : List (List ℕ)) → ended 10 (xs ++ ys) ≡ ended 10 xs ++ ended 10 ys
ended_append [] ys = refl
ended_append (x ∷ xs) ys = ap (λ t. x ++ 10 ∷ t) (ended_append xs ys) ∙ sym (append_assoc x (10 ∷ ended 10 xs) (ended 10 ys))

-- some lines, and then others
pub lines_more : (o p q : List ℕ) (ls ms : List (List ℕ)) → p ≡ o ++ ended 10 ls → q ≡ p ++ ended 10 ms → q ≡ o ++ ended 10 (ls ++ ms)
lines_more o p q ls ms e f =
    f ∙ ap (λ t. t ++ ended 10 ms) e ∙ append_assoc o (ended 10 ls) (ended 10 ms) ∙ ap (λ t. o ++ t) (sym (ended_append ls ms))

-- a word, a space, a number and a line feed
pub line_written : (o word : List ℕ) (n : ℕ) → ((o ++ word) ++ 32 ∷ decimal n) ++ 10 ∷ [] ≡ o ++ ended 10 ((word ++ 32 ∷ decimal n) ∷ [])
line_written o word n =
    append_assoc (o ++ word) (32 ∷ decimal n) (10 ∷ []) ∙ append_assoc o word ((32 ∷ decimal n) ++ 10 ∷ [])
    ∙ ap (λ t. o ++ t) (sym (append_assoc word (32 ∷ decimal n) (10 ∷ [])))

pub groups_step :
    (o p all : List ℕ) (groups : List GroupReport) (i : ℕ) (g : GroupReport) → i < length groups → g ≡ get_or groups i g → p ≡ o ++ ended 10 (group_lines g)
    → o ++ ended 10 (groups_lines (drop i groups)) ≡ all → p ++ ended 10 (groups_lines (drop (i + 1) groups)) ≡ all
groups_step o p all groups i g inside is written before =
    let rest = drop (i + 1) groups in
    let left : drop i groups ≡ g ∷ rest = drop_more groups i g inside ∙ ap (λ (h : GroupReport). h ∷ rest) (sym is) in
    ap (λ t. t ++ ended 10 (groups_lines rest)) written
    ∙ append_assoc o (ended 10 (group_lines g)) (ended 10 (groups_lines rest))
    ∙ ap (λ t. o ++ t) (sym (ended_append (group_lines g) (groups_lines rest)))
    ∙ ap (λ (l : List GroupReport). o ++ ended 10 (groups_lines l)) (sym left)
    ∙ before
