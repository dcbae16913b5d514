-- Printed scripts are read again.
use Rattle.std.proofs.Common.{◌≡◌, ℕ, true, ◌+◌, ◌-◌, ◌^◌, ◌<◌, ◌≤◌, List, [], ◌∷◌, ◌++◌, length, map, sym, ◌∙◌, ap, refl, append_assoc, append-nil, false, eqb, cond}
use Rattle.std.specs.Prelude.{decimal, Ok}
use Rattle.std.specs.List.{AllByRecursion, list_all}
use Rattle.mq_block_text.specs.Refusals.{ended}
use Rattle.mq_block_text.proofs.TextParts.{Avoids}
use Rattle.mq_block_text.specs.Words.{is_plain, lines_of}
use Rattle.mq_block_text.proofs.WordsLines.{joined, lines_again, no_feed, number_visible, plain_of}
use Rattle.mq_tree.specs.declared.request.Request.{Request}
use Rattle.mq_tree.specs.declared.request.Request.TheVariants.{Mkdir, Create, Write, Truncate, Unlink, Rmdir, Rename, Link, Read, List as ListOf, Stat}
use Rattle.mq_tree.specs.Listings.{path_text}
use Rattle.mq_script.specs.Answers.{made}
use Rattle.mq_script.specs.Grammar.{IsRequest, IsGroup, IsScript}
use Rattle.mq_script.specs.Lines.{line_in}
use Rattle.mq_script.specs.Printing.{data_text, request_text, requests_text, end_text, groups_text, script_text}
use Rattle.mq_script.specs.Reading.{groups_in, script_in}
use Rattle.mq_script.specs.Scripts.{Group, Script}
use Rattle.mq_script.specs.Spelled.{end_word}
use Rattle.mq_script.specs.declared.group.End.{End}
use Rattle.mq_script.specs.declared.group.End.TheVariants.{Fsync, Fatomic, Ask}
use Rattle.mq_script.specs.declared.line.Line.TheVariants.{Ends}
use Rattle.mq_script.proofs.Scripts.{script_of, script_small}
use Rattle.mq_script.proofs.PrintingLines.{after_path, data_plain, line_again, path_plain}

-- ---- the lines of groups

abbrev group_lines : List Request → End → List (List ℕ) → List (List ℕ)
group_lines [] end rest = end_word end ∷ rest
group_lines (r ∷ requests) end rest = request_text r ∷ group_lines requests end rest

abbrev groups_lines : List Group → List (List ℕ)
groups_lines [] = []
groups_lines (g ∷ groups) = group_lines g.requests g.end (groups_lines groups)

end_line : (end : End) (rest : List ℕ) → end_word end ++ 10 ∷ rest ≡ end_text end ++ rest
end_line Fsync rest = refl
end_line Fatomic rest = refl
end_line Ask rest = refl

group_text : (requests : List Request) (end : End) (rest : List (List ℕ)) → ended 10 (group_lines requests end rest) ≡ requests_text requests ++ end_text end ++ ended 10 rest
group_text [] end rest = end_line end (ended 10 rest)
group_text (r ∷ requests) end rest =
    ap (λ t. request_text r ++ 10 ∷ t) (group_text requests end rest)
    ∙ sym (append_assoc (request_text r) (10 ∷ (requests_text requests ++ end_text end)) (ended 10 rest))
    ∙ ap (λ t. t ++ ended 10 rest) (sym (append_assoc (request_text r) (10 ∷ requests_text requests) (end_text end)))

text_of_lines : (groups : List Group) → ended 10 (groups_lines groups) ≡ groups_text groups
text_of_lines [] = refl
text_of_lines (g ∷ groups) = group_text g.requests g.end (groups_lines groups) ∙ ap (λ t. requests_text g.requests ++ end_text g.end ++ t) (text_of_lines groups)

-- ---- no line has a line feed

number_plain : (n : ℕ) → n < 2 ^ 64 → list_all is_plain (decimal n) ≡ true
number_plain n h = plain_of (decimal n) (number_visible n h)

request_plain : (r : Request) → IsRequest r → list_all is_plain (request_text r) ≡ true
request_plain (Mkdir p) is = path_plain p is
request_plain (Create p) is = path_plain p is
request_plain (Write p n bytes) is = joined is_plain (path_text p ++ 32 ∷ decimal n) (32 ∷ data_text bytes) (after_path p (decimal n) is.0 (number_plain n is.1)) (data_plain bytes is.2)
request_plain (Truncate p n) is = after_path p (decimal n) is.0 (number_plain n is.1)
request_plain (Unlink p) is = path_plain p is
request_plain (Rmdir p) is = path_plain p is
request_plain (Rename p q) is = after_path p (path_text q) is.0 (path_plain q is.1)
request_plain (Link p q) is = after_path p (path_text q) is.0 (path_plain q is.1)
request_plain (Read p m n) is = joined is_plain (path_text p ++ 32 ∷ decimal m) (32 ∷ decimal n) (after_path p (decimal m) is.0 (number_plain m is.1)) (number_plain n is.2)
request_plain (ListOf p) is = path_plain p is
request_plain (Stat p) is = path_plain p is

end_plain : (end : End) → list_all is_plain (end_word end) ≡ true
end_plain Fsync = refl
end_plain Fatomic = refl
end_plain Ask = refl

group_feeds : (requests : List Request) (end : End) (rest : List (List ℕ)) → AllByRecursion IsRequest requests → AllByRecursion (Avoids 10) rest → AllByRecursion (Avoids 10) (group_lines requests end rest)
group_feeds [] end rest is more = (no_feed (end_word end) (end_plain end), more)
group_feeds (r ∷ requests) end rest is more = (no_feed (request_text r) (request_plain r is.0), group_feeds requests end rest is.1 more)

groups_feeds : (groups : List Group) → AllByRecursion IsGroup groups → AllByRecursion (Avoids 10) (groups_lines groups)
groups_feeds [] is = tt
groups_feeds (g ∷ groups) is = group_feeds g.requests g.end (groups_lines groups) is.0 (groups_feeds groups is.1)

-- ---- the groups of these lines

end_again : (end : End) → line_in (end_word end) ≡ Ok (Ends end)
end_again Fsync = refl
end_again Fatomic = refl
end_again Ask = refl

group_again :
    (requests : List Request) (end : End) (rest : List (List ℕ)) (tail : List Group) → ((k : ℕ) → groups_in k [] (map line_in rest) ≡ Ok tail) → AllByRecursion IsRequest requests
    → (i : ℕ) (before : List Request) → groups_in i before (map line_in (group_lines requests end rest)) ≡ Ok (record { requests = before ++ requests; end = end } ∷ tail)
group_again [] end rest tail more is i before =
    ap (λ a. groups_in i before (a ∷ map line_in rest)) (end_again end) ∙ ap (made (λ groups. record { requests = before; end = end } ∷ groups)) (more (i + 1))
    ∙ ap (λ (l : List Request). Ok (record { requests = l; end = end } ∷ tail)) (sym (append-nil before))
group_again (r ∷ requests) end rest tail more is i before =
    ap (λ a. groups_in i before (a ∷ map line_in (group_lines requests end rest))) (line_again r is.0)
    ∙ group_again requests end rest tail more is.1 (i + 1) (before ++ r ∷ [])
    ∙ ap (λ (l : List Request). Ok (record { requests = l; end = end } ∷ tail)) (append_assoc before (r ∷ []) requests)

groups_again : (groups : List Group) → AllByRecursion IsGroup groups → (i : ℕ) → groups_in i [] (map line_in (groups_lines groups)) ≡ Ok groups
groups_again [] is i = refl
groups_again (g ∷ groups) is i = group_again g.requests g.end (groups_lines groups) groups (groups_again groups is.1) is.0 i []

-- a script that was printed is read again
pub script_again : (script : Script) → IsScript script → length (script_text script) ≤ 16777216 → script_in (script_text script) ≡ Ok script
script_again script is small =
    script_small (script_text script) small
    ∙ ap (λ t. script_of (groups_in 0 [] (map line_in (lines_of t)))) (sym (text_of_lines script.groups))
    ∙ ap (λ ls. script_of (groups_in 0 [] (map line_in ls))) (lines_again (groups_lines script.groups) (groups_feeds script.groups is))
    ∙ ap script_of (groups_again script.groups is 0)
