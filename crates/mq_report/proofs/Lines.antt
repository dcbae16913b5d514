-- The lines of one list, and then those of another.
use Rattle.std.proofs.Common.{◌≡◌, ◌<◌, ◌+◌, ◌∙◌, ℕ, List, [], ◌∷◌, ◌++◌, map, drop, get_or, length, refl, sym, ap, append_assoc}
use Rattle.std.proofs.lemmas.List.{drop_more}
use Rattle.mq_report.specs.Lines.{Line}
use Rattle.mq_report.specs.Texts.{Words, base_line, entry_lines, group_lines, last_line, report_lines, spaced, spelled, told_line}
use Rattle.mq_report.specs.declared.line.Last.{Last}
use Rattle.mq_report.specs.declared.line.Told.{Told}

spelled-append : (ls ms : List Words) → spelled (ls ++ ms) ≡ spelled ls ++ spelled ms
spelled-append [] ms = refl
spelled-append (l ∷ ls) ms = ap (λ t. spaced l ++ 10 ∷ t) (spelled-append ls ms) ∙ sym (append_assoc (spaced l) (10 ∷ spelled ls) (spelled ms))

entries-spelled : (l : Line) (ls : List Line) → spelled (entry_lines (l ∷ ls)) ≡ spelled (group_lines l) ++ spelled (entry_lines ls)
entries-spelled l ls = spelled-append (group_lines l) (entry_lines ls)

pub whole : (b : ℕ) (ls : List Line) (ts : List Told) (x : Last)
    → ((((spaced (base_line b) ++ 10 ∷ []) ++ spelled (entry_lines ls)) ++ spelled (map told_line ts)) ++ spaced (last_line x)) ++ 10 ∷ [] ≡ spelled (report_lines b ls ts x)
whole b ls ts x =
    let front : List ℕ = spaced (base_line b) ++ 10 ∷ [] in
    append_assoc ((front ++ spelled (entry_lines ls)) ++ spelled (map told_line ts)) (spaced (last_line x)) (10 ∷ [])
    ∙ append_assoc (front ++ spelled (entry_lines ls)) (spelled (map told_line ts)) (spaced (last_line x) ++ 10 ∷ [])
    ∙ ap (λ t. (front ++ spelled (entry_lines ls)) ++ t) (sym (spelled-append (map told_line ts) (last_line x ∷ [])))
    ∙ append_assoc front (spelled (entry_lines ls)) (spelled (map told_line ts ++ last_line x ∷ []))
    ∙ ap (λ t. front ++ t) (sym (spelled-append (entry_lines ls) (map told_line ts ++ last_line x ∷ [])))
    ∙ sym (spelled-append (base_line b ∷ []) (entry_lines ls ++ (map told_line ts ++ last_line x ∷ [])))

pub entries-step : (o p all : List ℕ) (l : Line) (left rest : List Line) → left ≡ l ∷ rest → p ≡ o ++ spelled (group_lines l) → o ++ spelled (entry_lines left) ≡ all → p ++ spelled (entry_lines rest) ≡ all
entries-step o p all l left rest is written before =
    ap (λ t. t ++ spelled (entry_lines rest)) written
    ∙ append_assoc o (spelled (group_lines l)) (spelled (entry_lines rest))
    ∙ ap (λ t. o ++ t) (sym (entries-spelled l rest))
    ∙ ap (λ (t : List Line). o ++ spelled (entry_lines t)) (sym is)
    ∙ before

pub next-line : (ls : List Line) (i : ℕ) (l : Line) → i < length ls → l ≡ get_or ls i l → drop i ls ≡ l ∷ drop (i + 1) ls
next-line ls i l inside is = drop_more ls i l inside ∙ ap (λ (m : Line). m ∷ drop (i + 1) ls) (sym is)

pub answers-step : (o p all : List ℕ) (t : Told) (left rest : List Told) → left ≡ t ∷ rest → p ≡ o ++ spaced (told_line t) ++ 10 ∷ [] → o ++ spelled (map told_line left) ≡ all → p ++ spelled (map told_line rest) ≡ all
answers-step o p all t left rest is written before =
    let more : List ℕ = spelled (map told_line rest) in
    ap (λ w. w ++ more) written
    ∙ append_assoc (o ++ spaced (told_line t)) (10 ∷ []) more
    ∙ append_assoc o (spaced (told_line t)) (10 ∷ more)
    ∙ ap (λ (ts : List Told). o ++ spelled (map told_line ts)) (sym is)
    ∙ before

pub next-told : (ts : List Told) (i : ℕ) (t : Told) → i < length ts → t ≡ get_or ts i t → drop i ts ≡ t ∷ drop (i + 1) ts
next-told ts i t inside is = drop_more ts i t inside ∙ ap (λ (u : Told). u ∷ drop (i + 1) ts) (sym is)
