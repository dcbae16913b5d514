use Rattle.std.proofs.Common.{◌≡◌, ◌∷◌, List, ℕ, Bor, eqb, map, sym, ap, ◌∙◌}
use Rattle.std.specs.List.{slice_split}
use Rattle.mq_kv_text.proofs.LinesSpelled.{told_ok, told_refused, verb_found, verb_missing, words_of_line}
use Rattle.mq_kv_text.proofs.line.read_line.Goals as goal
use Rattle.mq_kv_text.proofs.line.read_line.Goals.{In-Some}

words_are : (c : In-Some) → slice_split (λ b. eqb b 32) c.args.text.now ≡ c.in-Some.word.now.now ∷ map (λ (w : Bor (List ℕ)). w.now) c.in-Some.words.now
words_are c = sym c.in_ok-words.ensures ∙ ap (map (λ (w : Bor (List ℕ)). w.now)) (sym c.deref.ensures.value ∙ c.in-Some.ensures.cases.0)

pub returns-in-Some-read_verb-clause-ok : goal.returns-in-Some-read_verb-clause-ok
returns-in-Some-read_verb-clause-ok c =
    let rest = map (λ (w : Bor (List ℕ)). w.now) c.in-Some.words.now in
    told_ok c.args.text.now _
    (words_are (goal.at.returns-in-Some-read_verb-clause-ok c).In-Some ∙ ap (λ (w : List ℕ). w ∷ rest) (verb_found c.in-Some.word.now.now c.in-Some-read_verb.verb c.in-Some-read_verb.ensures))
    c.read_arguments.result c.read_arguments.ensures.ok

pub returns-in-Some-read_verb-clause-refused : goal.returns-in-Some-read_verb-clause-refused
returns-in-Some-read_verb-clause-refused c =
    let rest = map (λ (w : Bor (List ℕ)). w.now) c.in-Some.words.now in
    told_refused c.args.text.now _
    (words_are (goal.at.returns-in-Some-read_verb-clause-refused c).In-Some ∙ ap (λ (w : List ℕ). w ∷ rest) (verb_found c.in-Some.word.now.now c.in-Some-read_verb.verb c.in-Some-read_verb.ensures))
    c.read_arguments.result c.read_arguments.ensures.refused

pub returns-clause-refused : goal.returns-clause-refused
returns-clause-refused c = λ form l is spelled.
    verb_missing c.in-Some.word.now.now (map (λ (w : Bor (List ℕ)). w.now) c.in-Some.words.now) l c.in-None.ensures
    (sym (words_are (goal.at.returns-clause-refused c).In-Some) ∙ ap (slice_split (λ b. eqb b 32)) spelled ∙ words_of_line l is)
