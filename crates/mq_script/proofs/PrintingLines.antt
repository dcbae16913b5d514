-- Printed lines are read again.
use Rattle.std.proofs.Common.{◌≡◌, ℕ, Bool, true, false, cond, Some, ◌/◌, ◌%◌, ◌^◌, ◌<◌, List, [], ◌∷◌, ◌++◌, ◌∙◌, ap, refl, arith, append_assoc, suc, eqb, ◌≤◌, length, get_or}
use Rattle.std.specs.Prelude.{◌&&◌, codes, decimal, Ok}
use Rattle.std.specs.List.{AllByRecursion, list_all}
use Rattle.std.specs.Option.{ok_or}
use Rattle.std.proofs.lemmas.Bool.{and_from}
use Rattle.std.proofs.lemmas.List.Splits.{slice_split_none, slice_split_at}
use Rattle.mq_block_text.specs.Text.{hex_digit}
use Rattle.mq_block_text.specs.Words.{is_plain, is_visible, words_of, number_in}
use Rattle.mq_block_text.proofs.WordsDigits.{number_again}
use Rattle.mq_block_text.proofs.WordsLines.{weaker, joined, avoids, number_visible, plain_of, visible_space}
use Rattle.mq_tree.specs.declared.request.Request.{Request}
use Rattle.mq_tree.specs.declared.request.Request.TheVariants.{Mkdir as make_mkdir, Create as make_create, Write as make_write, Truncate as make_truncate, Unlink as make_unlink, Rmdir as make_rmdir, Rename as make_rename, Link as make_link, Read as make_read, List as make_list, Stat as make_stat}
use Rattle.mq_tree.specs.Listings.{names_text, path_text}
use Rattle.mq_script.specs.Answers.{and_then, made}
use Rattle.mq_script.specs.Grammar.{is_letter, IsPath, IsRequest, AreBytes}
use Rattle.mq_script.specs.Lines.{a_path, line_in, verb_line, arguments_in}
use Rattle.mq_script.specs.Printing.{pairs_text, is_quotable, data_text, request_text}
use Rattle.mq_script.specs.Verbs.{verb_in}
use Rattle.mq_script.specs.Words.{path_in, data_in}
use Rattle.mq_script.specs.declared.line.Line.TheVariants.{Asks}
use Rattle.mq_script.specs.declared.refusal.ScriptCause.TheVariants.{Arguments, Path, Number, Data}
use Rattle.mq_script.specs.declared.verb.Verb.{Verb}
use Rattle.mq_script.specs.declared.verb.Verb.TheVariants.{Mkdir, Create, Write, Truncate, Unlink, Rmdir, Rename, Link, Read, List as ListOf, Stat}
use Rattle.mq_script.proofs.WordsCutting.{is_space, rest_of_three}
use Rattle.mq_script.proofs.Lines.{line_plain}
use Rattle.mq_script.proofs.PrintingWords.{path_again, data_again}

-- ---- the bytes of words

letter_visible : (b : ℕ) → is_letter b ≡ true → is_visible b ≡ true
letter_visible b h = grind arith

quotable_plain : (b : ℕ) → is_quotable b ≡ true → is_plain b ≡ true
quotable_plain b h = grind arith

names_visible : (names : List (List ℕ)) → AllByRecursion (λ n. list_all is_letter n ≡ true) names → list_all is_visible (names_text names) ≡ true
names_visible [] h = refl
names_visible (name ∷ names) h = joined is_visible name (names_text names) (weaker is_letter is_visible letter_visible name h.0) (names_visible names h.1)

path_visible : (names : List (List ℕ)) → IsPath names → list_all is_visible (path_text names) ≡ true
path_visible [] is = refl
path_visible (name ∷ names) is = names_visible (name ∷ names) is.letters

hex_plain : (d : ℕ) → d < 16 → is_plain (hex_digit d) ≡ true
hex_plain d h = grind arith

pairs_plain : (bytes : List ℕ) → AreBytes bytes → list_all is_plain (pairs_text bytes) ≡ true
pairs_plain [] h = refl
pairs_plain (b ∷ bytes) h =
    and_from (is_plain (hex_digit (b / 16))) (is_plain (hex_digit (b % 16)) && list_all is_plain (pairs_text bytes)) (hex_plain (b / 16) (omega (arith, h.0)))
    (and_from (is_plain (hex_digit (b % 16))) (list_all is_plain (pairs_text bytes)) (hex_plain (b % 16) (omega arith)) (pairs_plain bytes h.1))

data_bytes : (bytes : List ℕ) (t : Bool) → list_all is_quotable bytes ≡ t → AreBytes bytes → list_all is_plain (cond t (34 ∷ bytes ++ 34 ∷ []) (codes "hex:" ++ pairs_text bytes)) ≡ true
data_bytes bytes true e h = joined is_plain bytes (34 ∷ []) (weaker is_quotable is_plain quotable_plain bytes e) refl
data_bytes bytes false e h = pairs_plain bytes h

pub data_plain : (bytes : List ℕ) → AreBytes bytes → list_all is_plain (data_text bytes) ≡ true
data_plain bytes h = data_bytes bytes (list_all is_quotable bytes) refl h

-- ---- where a line is cut

alone : (word : List ℕ) → list_all is_visible word ≡ true → words_of word ≡ word ∷ []
alone word h = slice_split_none is_space word (avoids is_visible 32 visible_space word h)

word_first : (word rest : List ℕ) → list_all is_visible word ≡ true → words_of (word ++ 32 ∷ rest) ≡ word ∷ words_of rest
word_first word rest h = slice_split_at is_space word 32 rest (avoids is_visible 32 visible_space word h) refl

two : (word next : List ℕ) → list_all is_visible word ≡ true → list_all is_visible next ≡ true → words_of (word ++ 32 ∷ next) ≡ word ∷ next ∷ []
two word next h k = word_first word next h ∙ ap (λ ws. word ∷ ws) (alone next k)

line_verb :
    (verb : Verb) (word rest : List ℕ) → list_all is_visible word ≡ true → verb_in word ≡ Some verb → list_all is_plain rest ≡ true
    → line_in (word ++ 32 ∷ rest) ≡ arguments_in verb (words_of rest)
line_verb verb word rest h e plain =
    line_plain (word ++ 32 ∷ rest) word (words_of rest) (joined is_plain word (32 ∷ rest) (plain_of word h) plain) (word_first word rest h)
    ∙ ap (λ v. verb_line v (words_of rest)) e

-- ---- requests of one path

one_path :
    (verb : Verb) (word : List ℕ) (make : List (List ℕ) → Request) (names : List (List ℕ)) → list_all is_visible word ≡ true → verb_in word ≡ Some verb
    → ((ws : List (List ℕ)) → arguments_in verb ws ≡ made (λ p. Asks (make p)) (a_path ws)) → IsPath names
    → line_in (word ++ 32 ∷ path_text names) ≡ Ok (Asks (make names))
one_path verb word make names h e forms is =
    line_verb verb word (path_text names) h e (plain_of (path_text names) (path_visible names is)) ∙ ap (arguments_in verb) (alone (path_text names) (path_visible names is))
    ∙ forms (path_text names ∷ []) ∙ ap (λ o. made (λ p. Asks (make p)) (ok_or o Path)) (path_again names is)

-- ---- lines of more words

pub path_plain : (names : List (List ℕ)) → IsPath names → list_all is_plain (path_text names) ≡ true
path_plain names is = plain_of (path_text names) (path_visible names is)

-- a path and a word after it
pub after_path : (names : List (List ℕ)) (rest : List ℕ) → IsPath names → list_all is_plain rest ≡ true → list_all is_plain (path_text names ++ 32 ∷ rest) ≡ true
after_path names rest is h = joined is_plain (path_text names) (32 ∷ rest) (path_plain names is) h

truncate_line : (p : List (List ℕ)) (n : ℕ) → IsPath p → n < 2 ^ 64 → line_in (request_text (make_truncate p n)) ≡ Ok (Asks (make_truncate p n))
truncate_line p n is small =
    let f = λ (x : List (List ℕ) × ℕ). Asks (make_truncate x.0 x.1) in
    line_verb Truncate (codes "truncate") (path_text p ++ 32 ∷ decimal n) refl refl (after_path p (decimal n) is (plain_of (decimal n) (number_visible n small)))
    ∙ ap (arguments_in Truncate) (two (path_text p) (decimal n) (path_visible p is) (number_visible n small))
    ∙ ap (λ o. made f (and_then (ok_or o Path) (λ q. and_then (ok_or (number_in (decimal n)) Number) (λ m. Ok (q, m))))) (path_again p is)
    ∙ ap (λ o. made f (and_then (ok_or o Number) (λ m. Ok (p, m)))) (number_again n small)

rename_line : (p q : List (List ℕ)) → IsPath p → IsPath q → line_in (request_text (make_rename p q)) ≡ Ok (Asks (make_rename p q))
rename_line p q is also =
    let f = λ (x : List (List ℕ) × List (List ℕ)). Asks (make_rename x.0 x.1) in
    line_verb Rename (codes "rename") (path_text p ++ 32 ∷ path_text q) refl refl (after_path p (path_text q) is (path_plain q also))
    ∙ ap (arguments_in Rename) (two (path_text p) (path_text q) (path_visible p is) (path_visible q also))
    ∙ ap (λ o. made f (and_then (ok_or o Path) (λ x. and_then (ok_or (path_in (path_text q)) Path) (λ y. Ok (x, y))))) (path_again p is)
    ∙ ap (λ o. made f (and_then (ok_or o Path) (λ y. Ok (p, y)))) (path_again q also)

link_line : (p q : List (List ℕ)) → IsPath p → IsPath q → line_in (request_text (make_link p q)) ≡ Ok (Asks (make_link p q))
link_line p q is also =
    let f = λ (x : List (List ℕ) × List (List ℕ)). Asks (make_link x.0 x.1) in
    line_verb Link (codes "link") (path_text p ++ 32 ∷ path_text q) refl refl (after_path p (path_text q) is (path_plain q also))
    ∙ ap (arguments_in Link) (two (path_text p) (path_text q) (path_visible p is) (path_visible q also))
    ∙ ap (λ o. made f (and_then (ok_or o Path) (λ x. and_then (ok_or (path_in (path_text q)) Path) (λ y. Ok (x, y))))) (path_again p is)
    ∙ ap (λ o. made f (and_then (ok_or o Path) (λ y. Ok (p, y)))) (path_again q also)

read_line : (p : List (List ℕ)) (m n : ℕ) → IsPath p → m < 2 ^ 64 → n < 2 ^ 64 → line_in (request_text (make_read p m n)) ≡ Ok (Asks (make_read p m n))
read_line p m n is small also =
    let f = λ (x : List (List ℕ) × ℕ × ℕ). Asks (make_read x.0 x.1 x.2) in
    let numbers : List ℕ = decimal m ++ 32 ∷ decimal n in
    ap (λ t. line_in (codes "read " ++ t)) (append_assoc (path_text p) (32 ∷ decimal m) (32 ∷ decimal n))
    ∙ line_verb Read (codes "read") (path_text p ++ 32 ∷ numbers) refl refl
    (after_path p numbers is (joined is_plain (decimal m) (32 ∷ decimal n) (plain_of (decimal m) (number_visible m small)) (plain_of (decimal n) (number_visible n also))))
    ∙ ap (arguments_in Read) (word_first (path_text p) numbers (path_visible p is) ∙ ap (λ ws. path_text p ∷ ws) (two (decimal m) (decimal n) (number_visible m small) (number_visible n also)))
    ∙ ap (λ o. made f (and_then (ok_or o Path) (λ q. and_then (ok_or (number_in (decimal m)) Number) (λ i. and_then (ok_or (number_in (decimal n)) Number) (λ k. Ok (q, i, k)))))) (path_again p is)
    ∙ ap (λ o. made f (and_then (ok_or o Number) (λ i. and_then (ok_or (number_in (decimal n)) Number) (λ k. Ok (p, i, k))))) (number_again m small)
    ∙ ap (λ o. made f (and_then (ok_or o Number) (λ k. Ok (p, m, k)))) (number_again n also)

write_words :
    (p : List (List ℕ)) (n : ℕ) (rest : List ℕ) (bytes : List ℕ) → IsPath p → n < 2 ^ 64 → list_all is_plain rest ≡ true → data_in rest ≡ Some bytes
    → line_in (codes "write " ++ path_text p ++ 32 ∷ decimal n ++ 32 ∷ rest) ≡ Ok (Asks (make_write p n bytes))
write_words p n rest bytes is small plain data_is =
    let f = λ (x : List (List ℕ) × ℕ × List ℕ). Asks (make_write x.0 x.1 x.2) in
    let more : List ℕ = decimal n ++ 32 ∷ rest in
    ap (λ t. line_in (codes "write " ++ t)) (append_assoc (path_text p) (32 ∷ decimal n) (32 ∷ rest))
    ∙ line_verb Write (codes "write") (path_text p ++ 32 ∷ more) refl refl
    (after_path p more is (joined is_plain (decimal n) (32 ∷ rest) (plain_of (decimal n) (number_visible n small)) plain))
    ∙ ap (λ o. made f (and_then (ok_or o Arguments) (λ w. and_then (ok_or (path_in w.0) Path) (λ q. and_then (ok_or (number_in w.1) Number) (λ i. and_then (ok_or (data_in w.2) Data) (λ t. Ok (q, i, t)))))))
    (rest_of_three (path_text p ++ 32 ∷ more) (path_text p) more (decimal n) rest
    (word_first (path_text p) more (path_visible p is)) (word_first (decimal n) rest (number_visible n small)))
    ∙ ap (λ o. made f (and_then (ok_or o Path) (λ q. and_then (ok_or (number_in (decimal n)) Number) (λ i. and_then (ok_or (data_in rest) Data) (λ t. Ok (q, i, t)))))) (path_again p is)
    ∙ ap (λ o. made f (and_then (ok_or o Number) (λ i. and_then (ok_or (data_in rest) Data) (λ t. Ok (p, i, t))))) (number_again n small)
    ∙ ap (λ o. made f (and_then (ok_or o Data) (λ t. Ok (p, n, t)))) data_is

-- the line of a request is read as it
pub line_again : (r : Request) → IsRequest r → line_in (request_text r) ≡ Ok (Asks r)
line_again (make_mkdir p) is = one_path Mkdir (codes "mkdir") make_mkdir p refl refl (λ ws. refl) is
line_again (make_create p) is = one_path Create (codes "create") make_create p refl refl (λ ws. refl) is
line_again (make_write p n bytes) is = write_words p n (data_text bytes) bytes is.0 is.1 (data_plain bytes is.2) (data_again bytes is.2)
line_again (make_truncate p n) is = truncate_line p n is.0 is.1
line_again (make_unlink p) is = one_path Unlink (codes "unlink") make_unlink p refl refl (λ ws. refl) is
line_again (make_rmdir p) is = one_path Rmdir (codes "rmdir") make_rmdir p refl refl (λ ws. refl) is
line_again (make_rename p q) is = rename_line p q is.0 is.1
line_again (make_link p q) is = link_line p q is.0 is.1
line_again (make_read p m n) is = read_line p m n is.0 is.1 is.2
line_again (make_list p) is = one_path ListOf (codes "list") make_list p refl refl (λ ws. refl) is
line_again (make_stat p) is = one_path Stat (codes "stat") make_stat p refl refl (λ ws. refl) is
