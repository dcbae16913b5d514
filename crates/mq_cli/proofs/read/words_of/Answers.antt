use Rattle.std.proofs.Common.{rules, ◌≡◌, ◌∙◌, ◌≤◌, Some, List, Option, Bor, inr, length, map, refl, sym, ap}
use Rattle.clap.specs.Words.{Text, all_of, found_of, rows_of}
use Rattle.clap.proofs.WalkLemmas.{raw_values-rows}
use Rattle.mq_cli.specs.Asked.{Words}
use Rattle.mq_cli.proofs.Asked.{no_word, none_found, some_found, some_word}
use Rattle.mq_cli.proofs.read.words_of.Goals as goal

pub returns-in_default-clause-reads : goal.returns-in_default-clause-reads
returns-in_default-clause-reads c =
    let all : Option Words = all_of c.args.id.now (rows_of (found_of c.args.matches.now)) in
    inr (refl, none_found c.get_strs.result all (c.get_strs.ensures ∙ raw_values-rows (found_of c.args.matches.now) c.args.id.now) c.in_default.is)

pub returns-then-is_empty-clause-reads : goal.returns-then-is_empty-clause-reads
returns-then-is_empty-clause-reads c =
    let all : Option Words = all_of c.args.id.now (rows_of (found_of c.args.matches.now)) in
    let words = c.in-Some.words in
    let empty : length words.now ≡ 0 = search rules in
    inr (refl, some_found c.get_strs.result words all (c.get_strs.ensures ∙ raw_values-rows (found_of c.args.matches.now) c.args.id.now) c.in-Some.is ∙ no_word words.now empty)

pub returns-clause-reads : goal.returns-clause-reads
returns-clause-reads c =
    let all : Option Words = all_of c.args.id.now (rows_of (found_of c.args.matches.now)) in
    let words = c.in-Some.words in
    let some : 1 ≤ length words.now = search rules in
    let same : c.in_ok-to_vec.field-0.items ≡ words.now = c.in_ok-to_vec.ensures.items_if_clones_equal (λ x y h. h) in
    some_found c.get_strs.result words all (c.get_strs.ensures ∙ raw_values-rows (found_of c.args.matches.now) c.args.id.now) c.in-Some.is
    ∙ some_word words.now some ∙ ap (λ (l : List (Bor Text)). Some (map (λ w. w.now) l)) (sym same)
