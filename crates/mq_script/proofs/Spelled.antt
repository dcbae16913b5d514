-- What is read of a text is spelled by it.
use Rattle.std.proofs.Common.{◌≡◌, inl, inr, ℕ, Bool, true, false, cond, eqb, Option, Some, None, ◌+◌, ◌-◌, ◌/◌, ◌≤◌, List, [], ◌∷◌, ◌++◌, length, take, drop, map, replicate, refl, sym, ap, subst, ◌∙◌, append_assoc, append-nil, arith, length-append, ◌⊎◌, ◌*◌, ◌%◌, ◌^◌, ◌<◌}
use Rattle.std.specs.Prelude.{nat_le, nat_lt, bytes_eq, codes, decimal, Result, Ok, Err, IfOk, ◌&&◌}
use Rattle.std.specs.List.{AllByRecursion, join_with_byte, list_all, onto_first, slice_split}
use Rattle.std.specs.Option.{ok_or, option_map}
use Rattle.std.proofs.lemmas.Bool.{eqb-true, leb-true, ltb-false, and_from, and_parts}
use Rattle.std.proofs.lemmas.List.{take-append-drop}
use Rattle.std.proofs.lemmas.List.Folds.{list_all-append}
use Rattle.std.proofs.lemmas.List.Splits.{join_with_byte-slice_split}
use Rattle.std.proofs.lemmas.Slice.Eq.{bytes_eq-Decides}
use Rattle.std.proofs.lemmas.Option.{same_Some}
use Rattle.mq_block_text.specs.Refusals.{ended}
use Rattle.mq_block_text.specs.Text.{hex_text, hex_digit}
use Rattle.mq_block_text.proofs.TextParts.{split_some}
use Rattle.mq_block_text.specs.Words.{is_plain, lines_of, byte_in, number_in, one_of, two_of, words_of, is_visible, byte_of, digit_in, AreLines}
use Rattle.mq_block_text.proofs.WordsDigits.{byte_read, number_spelled}
use Rattle.mq_block_text.proofs.WordsLines.{lines_are, word_found}
use Rattle.mq_tree.specs.declared.request.Request.{Request}
use Rattle.mq_tree.specs.declared.request.Request.TheVariants.{Mkdir as make_mkdir, Create as make_create, Write as make_write, Truncate as make_truncate, Unlink as make_unlink, Rmdir as make_rmdir, Rename as make_rename, Link as make_link, Read as make_read, List as make_list, Stat as make_stat}
use Rattle.mq_tree.specs.Listings.{names_text, path_text}
use Rattle.mq_script.specs.Answers.{and_then, made, AgreesAt, Refused}
use Rattle.mq_script.specs.Grammar.{is_letter, AreBytes, IsNumber, IsPath}
use Rattle.mq_script.specs.Lines.{Answer, a_path, a_path_a_number_and_data, a_path_and_a_number, a_path_and_two_numbers, an_end, arguments_in, line_in, two_paths, verb_line, words_line}
use Rattle.mq_script.specs.Printing.{is_quotable, pairs_text, request_text}
use Rattle.mq_script.specs.Reading.{groups_in, script_in, ended_at}
use Rattle.mq_script.specs.Scripts.{Group, Script}
use Rattle.mq_script.specs.Spelled.{Asks, AskAll, IsData, IsFill, IsHex, IsQuoted, IsWriting, SpellAll, Spells, end_word}
use Rattle.mq_script.specs.Verbs.{verb_in, verb_text, verbs}
use Rattle.mq_script.specs.Words.{after, data_in, fill_in, filled, form_in, names_in, onto, pairs_in, path_in, quoted_in, rest_of, three_of}
use Rattle.mq_script.specs.declared.group.End.{End}
use Rattle.mq_script.specs.declared.group.End.TheVariants.{Fsync as by_fsync, Fatomic as by_fatomic, Ask as by_ask}
use Rattle.mq_script.specs.declared.line.Line.{Line}
use Rattle.mq_script.specs.declared.line.Line.TheVariants.{Asks as asks, Ends as ends}
use Rattle.mq_script.specs.declared.refusal.ScriptCause.{ScriptCause}
use Rattle.mq_script.specs.declared.refusal.ScriptCause.TheVariants.{Arguments, Bytes, Path, Number, Data, Size}
use Rattle.mq_script.specs.declared.refusal.ScriptRefusal.{ScriptRefusal}
use Rattle.mq_script.specs.declared.verb.Verb.{Verb}
use Rattle.mq_script.specs.declared.verb.Verb.TheVariants.{Mkdir, Create, Write, Truncate, Unlink, Rmdir, Rename, Link, Read, List as ListOf, Stat, Fsync, Fatomic, Ask}
use Rattle.mq_script.proofs.WordsCutting.{is_space}

-- ---- answers that are Ok

abbrev Found : {A B : Type 0} → Option A → (A → Result B ScriptCause) → B → Type 0
Found {A} o f y = (x : A) × (o ≡ Some x) × (f x ≡ Ok y)

found : {A B : Type 0} (o : Option A) (c : ScriptCause) (f : A → Result B ScriptCause) (y : B) → and_then (ok_or o c) f ≡ Ok y → Found o f y
found None c f y e = absurd (cc)
found (Some x) c f y e = (x, refl, e)

made_of : {A B : Type 0} (f : A → B) (r : Result A ScriptCause) (y : B) → made f r ≡ Ok y → (x : A) × (r ≡ Ok x) × (f x ≡ y)
made_of f (Ok x) y e = (x, refl, cc)
made_of f (Err c) y e = absurd (cc)

ok_same : {A : Type 0} (x y : A) → ◌≡◌ {A = Result A ScriptCause} (Ok x) (Ok y) → x ≡ y
ok_same x y e = cc

-- ---- tests of all bytes

back : (p : ℕ → Bool) (xs ys : List ℕ) → list_all p (xs ++ ys) ≡ true → list_all p ys ≡ true
back p xs ys h = (and_parts (list_all p xs) (list_all p ys) (sym (list_all-append p xs ys) ∙ h)).1

front : (p : ℕ → Bool) (xs ys : List ℕ) → list_all p (xs ++ ys) ≡ true → list_all p xs ≡ true
front p xs ys h = (and_parts (list_all p xs) (list_all p ys) (sym (list_all-append p xs ys) ∙ h)).0

onto_first-all : (r : ℕ → Bool) (x : ℕ) (parts : List (List ℕ)) → r x ≡ true → AllByRecursion (λ w. list_all r w ≡ true) parts → AllByRecursion (λ w. list_all r w ≡ true) (onto_first x parts)
onto_first-all r x [] h all = (and_from (r x) true h refl, tt)
onto_first-all r x (w ∷ ws) h all = (and_from (r x) (list_all r w) h all.0, all.1)

parts_step :
    (p r : ℕ → Bool) (x : ℕ) (xs : List ℕ) (t : Bool) → p x ≡ t → (t ≡ false → r x ≡ true) → AllByRecursion (λ w. list_all r w ≡ true) (slice_split p xs)
    → AllByRecursion (λ w. list_all r w ≡ true) (cond t ([] ∷ slice_split p xs) (onto_first x (slice_split p xs)))
parts_step p r x xs true e h all = (refl, all)
parts_step p r x xs false e h all = onto_first-all r x (slice_split p xs) (h refl) all

-- the parts of a list have what all its elements have, but those where it is cut
parts_all : (p q r : ℕ → Bool) → ((b : ℕ) → q b ≡ true → p b ≡ false → r b ≡ true) → (xs : List ℕ) → list_all q xs ≡ true → AllByRecursion (λ w. list_all r w ≡ true) (slice_split p xs)
parts_all p q r keep [] h = (refl, tt)
parts_all p q r keep (x ∷ xs) h =
    subst (λ (t : Bool). AllByRecursion (λ w. list_all r w ≡ true) (cond t ([] ∷ slice_split p xs) (onto_first x (slice_split p xs)))) refl
    (parts_step p r x xs (p x) refl (λ e. keep x (and_parts (q x) (list_all q xs) h).0 e) (parts_all p q r keep xs (and_parts (q x) (list_all q xs) h).1))

-- ---- paths

after_is : (start text rest : List ℕ) → after start text ≡ Some rest → text ≡ start ++ rest
after_is start text rest e = step (bytes_eq (take (length start) text) start) refl e
  where
    step : (t : Bool) → bytes_eq (take (length start) text) start ≡ t → cond t (Some (drop (length start) text)) None ≡ Some rest → text ≡ start ++ rest
    step true is p =
        let same : take (length start) text ≡ start = (bytes_eq-Decides (take (length start) text) start).0 is in
        let r : drop (length start) text ≡ rest = cc in
        sym (take-append-drop (length start) text) ∙ ap (λ (l : List ℕ). l ++ drop (length start) text) same ∙ ap (λ (l : List ℕ). start ++ l) r
    step false is p = absurd (no p) where
      no : ◌≡◌ {A = Option (List ℕ)} None (Some rest) → ⊥
      no q = cc

names_join : (name : List ℕ) (names : List (List ℕ)) → names_text (name ∷ names) ≡ 47 ∷ join_with_byte 47 (name ∷ names)
names_join name [] = ap (λ (l : List ℕ). 47 ∷ l) (append-nil name)
names_join name (next ∷ names) = ap (λ (l : List ℕ). 47 ∷ name ++ l) (names_join next names)

path_join : (names : List (List ℕ)) → (names ≡ [] → ⊥) → path_text names ≡ 47 ∷ join_with_byte 47 names
path_join [] some = absurd (some refl)
path_join (name ∷ names) some = names_join name names

letter : (b : ℕ) → is_visible b ≡ true → eqb b 47 ≡ false → is_letter b ≡ true
letter b h e = grind arith

names_is : (rest : List ℕ) → list_all is_visible rest ≡ true → IsPath (names_in rest) × (47 ∷ rest ≡ path_text (names_in rest))
names_is [] h = (record { letters = tt; not_root = λ e. no e }, refl) where
  no : ◌≡◌ {A = List (List ℕ)} [] ([] ∷ []) → ⊥
  no e = cc
names_is (b ∷ bs) h =
    let joined : join_with_byte 47 (slice_split (λ c. eqb c 47) (b ∷ bs)) ≡ b ∷ bs = join_with_byte-slice_split 47 (b ∷ bs) in (
      record {
        letters = parts_all (λ c. eqb c 47) is_visible is_letter letter (b ∷ bs) h;
        not_root = λ e. no (sym (ap (join_with_byte 47) e) ∙ joined);
      },
      sym (path_join (slice_split (λ c. eqb c 47) (b ∷ bs)) (split_some (λ c. eqb c 47) (b ∷ bs)) ∙ ap (λ (l : List ℕ). 47 ∷ l) joined),
    ) where
      no : [] ≡ b ∷ bs → ⊥
      no e = cc

pub path_is : (word : List ℕ) (names : List (List ℕ)) → list_all is_visible word ≡ true → path_in word ≡ Some names → IsPath names × (word ≡ path_text names)
path_is word names h e = step (after (codes "/") word) refl e
  where
    step : (o : Option (List ℕ)) → after (codes "/") word ≡ o → option_map names_in o ≡ Some names → IsPath names × (word ≡ path_text names)
    step None is p = absurd (cc)
    step (Some rest) is p =
        let same : names_in rest ≡ names = cc in
        let text : word ≡ 47 ∷ rest = after_is (codes "/") word rest is in
        let t = names_is rest (back is_visible (47 ∷ []) rest (ap (list_all is_visible) (sym text) ∙ h)) in
        (subst (λ (l : List (List ℕ)). IsPath l) same t.0, text ∙ t.1 ∙ ap path_text same)

-- ---- data

plain_quotable : (b : ℕ) → is_plain b ≡ true → eqb b 34 ≡ false → is_quotable b ≡ true
plain_quotable b h e = grind arith

abbrev QuotedOf : List ℕ → Type 0
QuotedOf text = (rest : List ℕ) → quoted_in text ≡ Some rest → (list_all is_quotable rest ≡ true) × (text ≡ rest ++ 34 ∷ [])

quoted_is : (text bytes : List ℕ) → list_all is_plain text ≡ true → quoted_in text ≡ Some bytes → (list_all is_quotable bytes ≡ true) × (text ≡ bytes ++ 34 ∷ [])
quoted_is [] bytes h e = absurd (cc)
quoted_is (b ∷ []) bytes h e = step (eqb b 34) refl e
  where
    step : (t : Bool) → eqb b 34 ≡ t → cond {A = Option (List ℕ)} t (Some []) None ≡ Some bytes → (list_all is_quotable bytes ≡ true) × (b ∷ [] ≡ bytes ++ 34 ∷ [])
    step true is p =
        let same : [] ≡ bytes = cc in
        subst (λ (l : List ℕ). (list_all is_quotable l ≡ true) × (b ∷ [] ≡ l ++ 34 ∷ [])) same (refl, ap (λ (n : ℕ). n ∷ []) (eqb-true b 34 is))
    step false is p = absurd (cc)
quoted_is (b ∷ c ∷ text) bytes h e = step (λ rest q. quoted_is (c ∷ text) rest (and_parts (is_plain b) (list_all is_plain (c ∷ text)) h).1 q) (eqb b 34) refl e
  where
    inner : QuotedOf (c ∷ text) → (o : Option (List ℕ)) → quoted_in (c ∷ text) ≡ o → eqb b 34 ≡ false → option_map (λ t. b ∷ t) o ≡ Some bytes → (list_all is_quotable bytes ≡ true) × (b ∷ c ∷ text ≡ bytes ++ 34 ∷ [])
    inner again None is other p = absurd (cc)
    inner again (Some rest) is other p =
        let same : b ∷ rest ≡ bytes = cc in
        let t = again rest is in
        subst (λ (l : List ℕ). (list_all is_quotable l ≡ true) × (b ∷ c ∷ text ≡ l ++ 34 ∷ [])) same
        (and_from (is_quotable b) (list_all is_quotable rest) (plain_quotable b (and_parts (is_plain b) (list_all is_plain (c ∷ text)) h).0 other) t.0, ap (λ (l : List ℕ). b ∷ l) t.1)

    step : QuotedOf (c ∷ text) → (t : Bool) → eqb b 34 ≡ t → cond t None (option_map (λ t. b ∷ t) (quoted_in (c ∷ text))) ≡ Some bytes → (list_all is_quotable bytes ≡ true) × (b ∷ c ∷ text ≡ bytes ++ 34 ∷ [])
    step again true is p = absurd (cc)
    step again false is p = inner again (quoted_in (c ∷ text)) refl is p

pairs_is : (digits bytes : List ℕ) → pairs_in digits ≡ Some bytes → AreBytes bytes × (digits ≡ pairs_text bytes)
pairs_is [] bytes e = let same : [] ≡ bytes = cc in subst (λ (l : List ℕ). AreBytes l × ([] ≡ pairs_text l)) same (tt, refl)
pairs_is (high ∷ []) bytes e = absurd (cc)
pairs_is (high ∷ low ∷ digits) bytes e = step (λ rest q. pairs_is digits rest q) (byte_in high low) (pairs_in digits) refl refl e
  where
    step : ((rest : List ℕ) → pairs_in digits ≡ Some rest → AreBytes rest × (digits ≡ pairs_text rest)) → (b : Option ℕ) (o : Option (List ℕ)) → byte_in high low ≡ b → pairs_in digits ≡ o → onto b o ≡ Some bytes → AreBytes bytes × (high ∷ low ∷ digits ≡ pairs_text bytes)
    step again None o p q r = absurd (cc)
    step again (Some b) None p q r = absurd (cc)
    step again (Some b) (Some rest) p q r =
        let same : b ∷ rest ≡ bytes = cc in
        let t = again rest q in
        let v = byte_read high low b p in
        subst (λ (l : List ℕ). AreBytes l × (high ∷ low ∷ digits ≡ pairs_text l)) same ((v.0, t.0), ap (λ (l : List ℕ). l ++ digits) v.1 ∙ ap (λ (l : List ℕ). hex_text b ++ l) t.1)

fill_is : (text bytes : List ℕ) → fill_in text ≡ Some bytes → IsFill (codes "fill:" ++ text) bytes
fill_is [] bytes e = absurd (cc)
fill_is (a ∷ []) bytes e = absurd (cc)
fill_is (a ∷ b ∷ []) bytes e = absurd (cc)
fill_is (high ∷ low ∷ colon ∷ count) bytes e = step (eqb colon 58) refl e
  where
    inner : (v n : Option ℕ) → eqb colon 58 ≡ true → byte_in high low ≡ v → number_in count ≡ n → filled v n ≡ Some bytes → IsFill (codes "fill:" ++ high ∷ low ∷ colon ∷ count) bytes
    inner None n at p q r = absurd (cc)
    inner (Some b) None at p q r = absurd (cc)
    inner (Some b) (Some n) at p q r = last (nat_le n 4243456) refl r
      where
        last : (t : Bool) → nat_le n 4243456 ≡ t → cond t (Some (replicate n b)) None ≡ Some bytes → IsFill (codes "fill:" ++ high ∷ low ∷ colon ∷ count) bytes
        last true few s =
            let v = byte_read high low b p in
            record {
              byte = b;
              count = n;
              small = v.0;
              few = leb-true n 4243456 few;
              are = cc;
              is = ap (λ (l : List ℕ). codes "fill:" ++ l)
                  (ap (λ (k : ℕ). high ∷ low ∷ k ∷ count) (eqb-true colon 58 at) ∙ ap (λ (l : List ℕ). high ∷ low ∷ 58 ∷ l) (number_spelled count n q).1 ∙ ap (λ (l : List ℕ). l ++ 58 ∷ decimal n) v.1);
            }
        last false few s = absurd (cc)

    step : (t : Bool) → eqb colon 58 ≡ t → cond t (filled (byte_in high low) (number_in count)) None ≡ Some bytes → IsFill (codes "fill:" ++ high ∷ low ∷ colon ∷ count) bytes
    step true is p = inner (byte_in high low) (number_in count) is refl refl p
    step false is p = absurd (cc)

pub data_is : (text bytes : List ℕ) → list_all is_plain text ≡ true → data_in text ≡ Some bytes → IsData text bytes
data_is text bytes h e = step (after (codes "\"") text) (after (codes "hex:") text) (after (codes "fill:") text) refl refl refl e
  where
    step : (q d f : Option (List ℕ)) → after (codes "\"") text ≡ q → after (codes "hex:") text ≡ d → after (codes "fill:") text ≡ f → form_in q d f ≡ Some bytes → IsData text bytes
    step (Some rest) d f a b c p =
        let is : text ≡ 34 ∷ rest = after_is (codes "\"") text rest a in
        let t = quoted_is rest bytes (back is_plain (34 ∷ []) rest (ap (list_all is_plain) (sym is) ∙ h)) p in
        inl (record { are = t.0; is = is ∙ ap (λ (l : List ℕ). 34 ∷ l) t.1 })
    step None (Some rest) f a b c p =
        let t = pairs_is rest bytes p in
        inr (inl (record { are = t.0; is = after_is (codes "hex:") text rest b ∙ ap (λ (l : List ℕ). codes "hex:" ++ l) t.1 }))
    step None None (Some rest) a b c p = inr (inr (subst (λ (l : List ℕ). IsFill l bytes) (sym (after_is (codes "fill:") text rest c)) (fill_is rest bytes p)))
    step None None None a b c p = absurd (cc)

-- ---- what follows a verb

abbrev AreVisible : List (List ℕ) → Type 0
AreVisible words = AllByRecursion (λ w. list_all is_visible w ≡ true) words

one_is : (words : List (List ℕ)) (a : List ℕ) → one_of words ≡ Some a → words ≡ a ∷ []
one_is [] a e = absurd (cc)
one_is (x ∷ []) a e = let s : x ≡ a = cc in ap (λ (w : List ℕ). w ∷ []) s
one_is (x ∷ y ∷ words) a e = absurd (cc)

two_is : (words : List (List ℕ)) (a b : List ℕ) → two_of words ≡ Some (a, b) → words ≡ a ∷ b ∷ []
two_is [] a b e = absurd (cc)
two_is (x ∷ []) a b e = absurd (cc)
two_is (x ∷ y ∷ []) a b e =
    let p = same_Some (x, y) (a, b) e in
    let s : x ≡ a = ap (λ (q : List ℕ × List ℕ). q.0) p in
    let t : y ≡ b = ap (λ (q : List ℕ × List ℕ). q.1) p in
    ap (λ (w : List ℕ). w ∷ y ∷ []) s ∙ ap (λ (w : List ℕ). a ∷ w ∷ []) t
two_is (x ∷ y ∷ z ∷ words) a b e = absurd (cc)

three_is : (words : List (List ℕ)) (a b c : List ℕ) → three_of words ≡ Some (a, b, c) → words ≡ a ∷ b ∷ c ∷ []
three_is [] a b c e = absurd (cc)
three_is (x ∷ []) a b c e = absurd (cc)
three_is (x ∷ y ∷ []) a b c e = absurd (cc)
three_is (x ∷ y ∷ z ∷ []) a b c e =
    let p = same_Some (x, y, z) (a, b, c) e in
    let s : x ≡ a = ap (λ (q : List ℕ × List ℕ × List ℕ). q.0) p in
    let t : y ≡ b = ap (λ (q : List ℕ × List ℕ × List ℕ). q.1) p in
    let u : z ≡ c = ap (λ (q : List ℕ × List ℕ × List ℕ). q.2) p in
    ap (λ (w : List ℕ). w ∷ y ∷ z ∷ []) s ∙ ap (λ (w : List ℕ). a ∷ w ∷ z ∷ []) t ∙ ap (λ (w : List ℕ). a ∷ b ∷ w ∷ []) u
three_is (x ∷ y ∷ z ∷ v ∷ words) a b c e = absurd (cc)

-- two words and a rest
record Rest (words : List (List ℕ)) (a b c : List ℕ) : Type 0 where
  third : List ℕ
  more : List (List ℕ)
  are : words ≡ a ∷ b ∷ third ∷ more
  is : c ≡ join_with_byte 32 (third ∷ more)

rest_is : (words : List (List ℕ)) (a b c : List ℕ) → rest_of words ≡ Some (a, b, c) → Rest words a b c
rest_is [] a b c e = absurd (cc)
rest_is (x ∷ []) a b c e = absurd (cc)
rest_is (x ∷ y ∷ []) a b c e = absurd (cc)
rest_is (x ∷ y ∷ z ∷ words) a b c e =
    let p = same_Some (x, y, join_with_byte 32 (z ∷ words)) (a, b, c) e in
    let s : x ≡ a = ap (λ (q : List ℕ × List ℕ × List ℕ). q.0) p in
    let t : y ≡ b = ap (λ (q : List ℕ × List ℕ × List ℕ). q.1) p in
    let u : join_with_byte 32 (z ∷ words) ≡ c = ap (λ (q : List ℕ × List ℕ × List ℕ). q.2) p in
    record { third = z; more = words; are = ap (λ (w : List ℕ). w ∷ y ∷ z ∷ words) s ∙ ap (λ (w : List ℕ). a ∷ w ∷ z ∷ words) t; is = sym u }

-- a line says this
abbrev SpellsLine : Line → List ℕ → Type 0
SpellsLine (asks r) line = Asks line r
SpellsLine (ends end) line = line ≡ end_word end

path_args : (words : List (List ℕ)) (p : List (List ℕ)) → AreVisible words → a_path words ≡ Ok p → IsPath p × (words ≡ path_text p ∷ [])
path_args words p all e =
    let t = found (one_of words) Arguments _ p e in
    let u = path_found (path_in t.0) p t.2 in
    let w = one_is words t.0 t.1 in
    let v = path_is t.0 p (subst (λ (l : List (List ℕ)). AreVisible l) w all).0 u in
    (v.0, w ∙ ap (λ (l : List ℕ). l ∷ []) v.1)
  where
    path_found : (o : Option (List (List ℕ))) (y : List (List ℕ)) → ok_or o Path ≡ Ok y → o ≡ Some y
    path_found None y h = absurd (cc)
    path_found (Some x) y h = ap Some (ok_same x y h)

two_path_args : (words : List (List ℕ)) (x : List (List ℕ) × List (List ℕ)) → AreVisible words → two_paths words ≡ Ok x → IsPath x.0 × IsPath x.1 × (words ≡ path_text x.0 ∷ path_text x.1 ∷ [])
two_path_args words x all e =
    let t = found (two_of words) Arguments _ x e in
    let u = found (path_in t.0.0) Path _ x t.2 in
    let v = found (path_in t.0.1) Path _ x u.2 in
    let w = two_is words t.0.0 t.0.1 t.1 in
    let a = subst (λ (l : List (List ℕ)). AreVisible l) w all in
    let p = path_is t.0.0 u.0 a.0 u.1 in
    let q = path_is t.0.1 v.0 a.1.0 v.1 in
    let s : (u.0, v.0) ≡ x = ok_same (u.0, v.0) x v.2 in
    subst (λ (y : List (List ℕ) × List (List ℕ)). IsPath y.0 × IsPath y.1 × (words ≡ path_text y.0 ∷ path_text y.1 ∷ [])) s
    (p.0, q.0, w ∙ ap (λ (l : List ℕ). l ∷ t.0.1 ∷ []) p.1 ∙ ap (λ (l : List ℕ). path_text u.0 ∷ l ∷ []) q.1)

number_args : (words : List (List ℕ)) (x : List (List ℕ) × ℕ) → AreVisible words → a_path_and_a_number words ≡ Ok x → IsPath x.0 × IsNumber x.1 × (words ≡ path_text x.0 ∷ decimal x.1 ∷ [])
number_args words x all e =
    let t = found (two_of words) Arguments _ x e in
    let u = found (path_in t.0.0) Path _ x t.2 in
    let v = found (number_in t.0.1) Number _ x u.2 in
    let w = two_is words t.0.0 t.0.1 t.1 in
    let a = subst (λ (l : List (List ℕ)). AreVisible l) w all in
    let p = path_is t.0.0 u.0 a.0 u.1 in
    let q = number_spelled t.0.1 v.0 v.1 in
    let s : (u.0, v.0) ≡ x = ok_same (u.0, v.0) x v.2 in
    subst (λ (y : List (List ℕ) × ℕ). IsPath y.0 × IsNumber y.1 × (words ≡ path_text y.0 ∷ decimal y.1 ∷ [])) s
    (p.0, q.0, w ∙ ap (λ (l : List ℕ). l ∷ t.0.1 ∷ []) p.1 ∙ ap (λ (l : List ℕ). path_text u.0 ∷ l ∷ []) q.1)

two_number_args : (words : List (List ℕ)) (x : List (List ℕ) × ℕ × ℕ) → AreVisible words → a_path_and_two_numbers words ≡ Ok x → IsPath x.0 × IsNumber x.1 × IsNumber x.2 × (words ≡ path_text x.0 ∷ decimal x.1 ∷ decimal x.2 ∷ [])
two_number_args words x all e =
    let t = found (three_of words) Arguments _ x e in
    let u = found (path_in t.0.0) Path _ x t.2 in
    let v = found (number_in t.0.1) Number _ x u.2 in
    let n = found (number_in t.0.2) Number _ x v.2 in
    let w = three_is words t.0.0 t.0.1 t.0.2 t.1 in
    let a = subst (λ (l : List (List ℕ)). AreVisible l) w all in
    let p = path_is t.0.0 u.0 a.0 u.1 in
    let q = number_spelled t.0.1 v.0 v.1 in
    let r = number_spelled t.0.2 n.0 n.1 in
    let s : (u.0, v.0, n.0) ≡ x = ok_same (u.0, v.0, n.0) x n.2 in
    subst (λ (y : List (List ℕ) × ℕ × ℕ). IsPath y.0 × IsNumber y.1 × IsNumber y.2 × (words ≡ path_text y.0 ∷ decimal y.1 ∷ decimal y.2 ∷ [])) s
    (p.0, q.0, r.0, w ∙ ap (λ (l : List ℕ). l ∷ t.0.1 ∷ t.0.2 ∷ []) p.1 ∙ ap (λ (l : List ℕ). path_text u.0 ∷ l ∷ t.0.2 ∷ []) q.1 ∙ ap (λ (l : List ℕ). path_text u.0 ∷ decimal v.0 ∷ l ∷ []) r.1)

data_args : (words : List (List ℕ)) (x : List (List ℕ) × ℕ × List ℕ) → AreVisible words → list_all is_plain (join_with_byte 32 words) ≡ true → a_path_a_number_and_data words ≡ Ok x
    → (text : List ℕ) × IsPath x.0 × IsNumber x.1 × IsData text x.2 × (join_with_byte 32 words ≡ path_text x.0 ++ 32 ∷ decimal x.1 ++ 32 ∷ text)
data_args words x all plain e =
    let t = found (rest_of words) Arguments _ x e in
    let u = found (path_in t.0.0) Path _ x t.2 in
    let v = found (number_in t.0.1) Number _ x u.2 in
    let d = found (data_in t.0.2) Data _ x v.2 in
    let w = rest_is words t.0.0 t.0.1 t.0.2 t.1 in
    let a = subst (λ (l : List (List ℕ)). AreVisible l) w.are all in
    let p = path_is t.0.0 u.0 a.0 u.1 in
    let q = number_spelled t.0.1 v.0 v.1 in
    let line : join_with_byte 32 words ≡ t.0.0 ++ 32 ∷ t.0.1 ++ 32 ∷ t.0.2 =
    ap (join_with_byte 32) w.are ∙ ap (λ (l : List ℕ). t.0.0 ++ 32 ∷ (t.0.1 ++ 32 ∷ l)) (sym w.is) ∙ sym (append_assoc t.0.0 (32 ∷ t.0.1) (32 ∷ t.0.2)) in
    let r = data_is t.0.2 d.0 (back is_plain (32 ∷ []) t.0.2 (back is_plain (t.0.0 ++ 32 ∷ t.0.1) (32 ∷ t.0.2) (ap (list_all is_plain) (sym line) ∙ plain))) d.1 in
    let s : (u.0, v.0, d.0) ≡ x = ok_same (u.0, v.0, d.0) x d.2 in
    subst (λ (y : List (List ℕ) × ℕ × List ℕ). (text : List ℕ) × IsPath y.0 × IsNumber y.1 × IsData text y.2 × (join_with_byte 32 words ≡ path_text y.0 ++ 32 ∷ decimal y.1 ++ 32 ∷ text)) s
    (t.0.2, p.0, q.0, r, line ∙ ap (λ (l : List ℕ). l ++ 32 ∷ t.0.1 ++ 32 ∷ t.0.2) p.1 ∙ ap (λ (l : List ℕ). path_text u.0 ++ 32 ∷ l ++ 32 ∷ t.0.2) q.1)

end_args : (end : End) (words : List (List ℕ)) (l : Line) → an_end end words ≡ Ok l → (words ≡ []) × (l ≡ ends end)
end_args end [] l e = (refl, sym (ok_same (ends end) l e))
end_args end (w ∷ words) l e = absurd (cc)

-- ---- a line

word_join : (w : List ℕ) (words : List (List ℕ)) → (words ≡ [] → ⊥) → join_with_byte 32 (w ∷ words) ≡ w ++ 32 ∷ join_with_byte 32 words
word_join w [] some = absurd (some refl)
word_join w (x ∷ words) some = refl

some_words : (words : List (List ℕ)) (path number form : List ℕ) → join_with_byte 32 words ≡ path ++ 32 ∷ number ++ 32 ∷ form → words ≡ [] → ⊥
some_words words path number form e none =
    let a : 0 ≡ length (path ++ 32 ∷ number ++ 32 ∷ form) = ap length (ap (join_with_byte 32) (sym none) ∙ e) in
    let b = length-append (path ++ 32 ∷ number) (32 ∷ form) in
    omega arith

args_is :
    (verb : Verb) (words : List (List ℕ)) (l : Line) → AreVisible words → list_all is_plain (join_with_byte 32 words) ≡ true → arguments_in verb words ≡ Ok l
    → SpellsLine l (join_with_byte 32 (verb_text verb ∷ words))
args_is Mkdir words l all plain e =
    let m = made_of (λ p. asks (make_mkdir p)) (a_path words) l e in
    let t = path_args words m.0 all m.1 in
    subst (λ (x : Line). SpellsLine x (join_with_byte 32 (codes "mkdir" ∷ words))) m.2 (t.0, ap (λ (ws : List (List ℕ)). join_with_byte 32 (codes "mkdir" ∷ ws)) t.1)
args_is Create words l all plain e =
    let m = made_of (λ p. asks (make_create p)) (a_path words) l e in
    let t = path_args words m.0 all m.1 in
    subst (λ (x : Line). SpellsLine x (join_with_byte 32 (codes "create" ∷ words))) m.2 (t.0, ap (λ (ws : List (List ℕ)). join_with_byte 32 (codes "create" ∷ ws)) t.1)
args_is Write words l all plain e =
    let m = made_of (λ x. asks (make_write x.0 x.1 x.2)) (a_path_a_number_and_data words) l e in
    let t = data_args words m.0 all plain m.1 in
    subst (λ (x : Line). SpellsLine x (join_with_byte 32 (codes "write" ∷ words))) m.2
    (record { form = t.0; path_is = t.1; offset_is = t.2; data_is = t.3; is = word_join (codes "write") words (some_words words _ _ _ t.4) ∙ ap (λ (r : List ℕ). codes "write " ++ r) t.4 })
args_is Truncate words l all plain e =
    let m = made_of (λ x. asks (make_truncate x.0 x.1)) (a_path_and_a_number words) l e in
    let t = number_args words m.0 all m.1 in
    subst (λ (x : Line). SpellsLine x (join_with_byte 32 (codes "truncate" ∷ words))) m.2 (t.0, t.1, ap (λ (ws : List (List ℕ)). join_with_byte 32 (codes "truncate" ∷ ws)) t.2)
args_is Unlink words l all plain e =
    let m = made_of (λ p. asks (make_unlink p)) (a_path words) l e in
    let t = path_args words m.0 all m.1 in
    subst (λ (x : Line). SpellsLine x (join_with_byte 32 (codes "unlink" ∷ words))) m.2 (t.0, ap (λ (ws : List (List ℕ)). join_with_byte 32 (codes "unlink" ∷ ws)) t.1)
args_is Rmdir words l all plain e =
    let m = made_of (λ p. asks (make_rmdir p)) (a_path words) l e in
    let t = path_args words m.0 all m.1 in
    subst (λ (x : Line). SpellsLine x (join_with_byte 32 (codes "rmdir" ∷ words))) m.2 (t.0, ap (λ (ws : List (List ℕ)). join_with_byte 32 (codes "rmdir" ∷ ws)) t.1)
args_is Rename words l all plain e =
    let m = made_of (λ x. asks (make_rename x.0 x.1)) (two_paths words) l e in
    let t = two_path_args words m.0 all m.1 in
    subst (λ (x : Line). SpellsLine x (join_with_byte 32 (codes "rename" ∷ words))) m.2 (t.0, t.1, ap (λ (ws : List (List ℕ)). join_with_byte 32 (codes "rename" ∷ ws)) t.2)
args_is Link words l all plain e =
    let m = made_of (λ x. asks (make_link x.0 x.1)) (two_paths words) l e in
    let t = two_path_args words m.0 all m.1 in
    subst (λ (x : Line). SpellsLine x (join_with_byte 32 (codes "link" ∷ words))) m.2 (t.0, t.1, ap (λ (ws : List (List ℕ)). join_with_byte 32 (codes "link" ∷ ws)) t.2)
args_is Read words l all plain e =
    let m = made_of (λ x. asks (make_read x.0 x.1 x.2)) (a_path_and_two_numbers words) l e in
    let t = two_number_args words m.0 all m.1 in
    subst (λ (x : Line). SpellsLine x (join_with_byte 32 (codes "read" ∷ words))) m.2
    (t.0, t.1, t.2, ap (λ (ws : List (List ℕ)). join_with_byte 32 (codes "read" ∷ ws)) t.3 ∙ ap (λ (r : List ℕ). codes "read " ++ r) (sym (append_assoc (path_text m.0.0) (32 ∷ decimal m.0.1) (32 ∷ decimal m.0.2))))
args_is ListOf words l all plain e =
    let m = made_of (λ p. asks (make_list p)) (a_path words) l e in
    let t = path_args words m.0 all m.1 in
    subst (λ (x : Line). SpellsLine x (join_with_byte 32 (codes "list" ∷ words))) m.2 (t.0, ap (λ (ws : List (List ℕ)). join_with_byte 32 (codes "list" ∷ ws)) t.1)
args_is Stat words l all plain e =
    let m = made_of (λ p. asks (make_stat p)) (a_path words) l e in
    let t = path_args words m.0 all m.1 in
    subst (λ (x : Line). SpellsLine x (join_with_byte 32 (codes "stat" ∷ words))) m.2 (t.0, ap (λ (ws : List (List ℕ)). join_with_byte 32 (codes "stat" ∷ ws)) t.1)
args_is Fsync words l all plain e =
    let t = end_args by_fsync words l e in
    subst (λ (x : Line). SpellsLine x (join_with_byte 32 (codes "fsync" ∷ words))) (sym t.1) (ap (λ (ws : List (List ℕ)). join_with_byte 32 (codes "fsync" ∷ ws)) t.0)
args_is Fatomic words l all plain e =
    let t = end_args by_fatomic words l e in
    subst (λ (x : Line). SpellsLine x (join_with_byte 32 (codes "fatomic" ∷ words))) (sym t.1) (ap (λ (ws : List (List ℕ)). join_with_byte 32 (codes "fatomic" ∷ ws)) t.0)
args_is Ask words l all plain e =
    let t = end_args by_ask words l e in
    subst (λ (x : Line). SpellsLine x (join_with_byte 32 (codes "ask" ∷ words))) (sym t.1) (ap (λ (ws : List (List ℕ)). join_with_byte 32 (codes "ask" ∷ ws)) t.0)

space_visible : (b : ℕ) → is_plain b ≡ true → is_space b ≡ false → is_visible b ≡ true
space_visible b h e = grind arith

later_plain : (w : List ℕ) (words : List (List ℕ)) → list_all is_plain (join_with_byte 32 (w ∷ words)) ≡ true → list_all is_plain (join_with_byte 32 words) ≡ true
later_plain w [] h = refl
later_plain w (x ∷ words) h = back is_plain (32 ∷ []) (join_with_byte 32 (x ∷ words)) (back is_plain w (32 ∷ join_with_byte 32 (x ∷ words)) h)

words_is : (words : List (List ℕ)) (line : List ℕ) (l : Line) → words_of line ≡ words → AreVisible words → list_all is_plain line ≡ true → words_line words ≡ Ok l → SpellsLine l line
words_is [] line l is all plain e = absurd (cc)
words_is (w ∷ words) line l is all plain e = step (verb_in w) refl e
  where
    joined : join_with_byte 32 (w ∷ words) ≡ line
    joined = ap (join_with_byte 32) (sym is) ∙ join_with_byte-slice_split 32 line

    step : (o : Option Verb) → verb_in w ≡ o → verb_line o words ≡ Ok l → SpellsLine l line
    step None found_none p = absurd (cc)
    step (Some v) found_verb p =
        let text : w ≡ verb_text v = word_found verb_text w verbs v found_verb in
        subst (λ (t : List ℕ). SpellsLine l t) (ap (λ (x : List ℕ). join_with_byte 32 (x ∷ words)) (sym text) ∙ joined)
        (args_is v words l all.1 (later_plain w words (ap (list_all is_plain) joined ∙ plain)) p)

pub line_is : (line : List ℕ) (l : Line) → line_in line ≡ Ok l → SpellsLine l line
line_is line l e = step (list_all is_plain line) refl e
  where
    step : (t : Bool) → list_all is_plain line ≡ t → cond t (words_line (words_of line)) (Err Bytes) ≡ Ok l → SpellsLine l line
    step true plain p = words_is (words_of line) line l refl (parts_all is_space is_plain is_visible space_visible line plain) plain p
    step false plain p = absurd (cc)

-- ---- groups

ask_push : (lines : List (List ℕ)) (requests : List Request) (line : List ℕ) (r : Request) → AskAll lines requests → Asks line r → AskAll (lines ++ line ∷ []) (requests ++ r ∷ [])
ask_push [] [] line r all is = (is, tt)
ask_push [] (q ∷ requests) line r all is = absurd all
ask_push (l ∷ lines) [] line r all is = absurd all
ask_push (l ∷ lines) (q ∷ requests) line r all is = (all.0, ask_push lines requests line r all.1 is)

none_asked : (lines : List (List ℕ)) → AskAll lines [] → lines ≡ []
none_asked [] h = refl
none_asked (l ∷ lines) h = absurd h

abbrev GroupsOf : List (List ℕ) → Type 0
GroupsOf lines = (k : ℕ) (rs : List Request) (some : List (List ℕ)) (gs : List Group) → AskAll some rs → groups_in k rs (map line_in lines) ≡ Ok gs → SpellAll (some ++ lines) gs

groups_is : (before : ℕ) (requests : List Request) (asked lines : List (List ℕ)) (groups : List Group) → AskAll asked requests → groups_in before requests (map line_in lines) ≡ Ok groups → SpellAll (asked ++ lines) groups
groups_is before [] asked [] groups all e =
    let same : [] ≡ groups = cc in
    subst (λ (gs : List Group). SpellAll (asked ++ []) gs) same (append-nil asked ∙ none_asked asked all)
groups_is before (r ∷ requests) asked [] groups all e = absurd (cc)
groups_is before requests asked (line ∷ lines) groups all e = step (λ k rs some gs h q. groups_is k rs some lines gs h q) (line_in line) refl e
  where
    step : GroupsOf lines → (a : Answer Line) → line_in line ≡ a → groups_in before requests (a ∷ map line_in lines) ≡ Ok groups → SpellAll (asked ++ line ∷ lines) groups
    step again (Err c) is p = absurd (cc)
    step again (Ok (asks r)) is p =
        subst (λ (ls : List (List ℕ)). SpellAll ls groups) (append_assoc asked (line ∷ []) lines)
        (again (before + 1) (requests ++ r ∷ []) (asked ++ line ∷ []) groups (ask_push asked requests line r all (line_is line (asks r) is)) p)
    step again (Ok (ends end)) is p = ended_group (groups_in (before + 1) [] (map line_in lines)) refl p
      where
        ended_group :
            (q : Result (List Group) Refused) → groups_in (before + 1) [] (map line_in lines) ≡ q → made (λ gs. record { requests = requests; end = end } ∷ gs) q ≡ Ok groups
            → SpellAll (asked ++ line ∷ lines) groups
        ended_group (Err c) at s = absurd (cc)
        ended_group (Ok rest) at s =
            let same : record { requests = requests; end = end } ∷ rest ≡ groups = cc in
            subst (λ (gs : List Group). SpellAll (asked ++ line ∷ lines) gs) same
            (asked, lines, all, ap (λ (l : List ℕ). asked ++ l ∷ lines) (line_is line (ends end) is), again (before + 1) [] [] rest tt at)

-- ---- texts

-- what is read of a text is spelled by it
pub script_is : (text : List ℕ) (script : Script) → script_in text ≡ Ok script → Spells text script
script_is text script e = step (nat_lt 16777216 (length text)) refl e
  where
    size : nat_lt 16777216 (length text) ≡ false → length text ≤ 16777216
    size is = let m = ltb-false 16777216 (length text) is in omega arith

    made_script : (r : Result (List Group) Refused) → groups_in 0 [] (map line_in (lines_of text)) ≡ r → nat_lt 16777216 (length text) ≡ false → made (λ groups. record { groups = groups }) r ≡ Ok script → Spells text script
    made_script (Err c) is small p = absurd (cc)
    made_script (Ok groups) is small p =
        let same : groups ≡ script.groups = ap groups_of (ok_script p) in
        record {
          lines = lines_of text;
          size = size small;
          are = lines_are text;
          groups = subst (λ (gs : List Group). SpellAll (lines_of text) gs) same (groups_is 0 [] [] (lines_of text) groups tt is);
        }
      where
        groups_of : Script → List Group
        groups_of s = s.groups

        ok_script : ◌≡◌ {A = Result Script Refused} (Ok (record { groups = groups })) (Ok script) → ◌≡◌ {A = Script} (record { groups = groups }) script
        ok_script q = cc

    step : (t : Bool) → nat_lt 16777216 (length text) ≡ t
        → cond {A = Result Script Refused} t (Err (record { line = 0; cause = Size })) (made (λ groups. record { groups = groups }) (groups_in 0 [] (map line_in (lines_of text)))) ≡ Ok script
        → Spells text script
    step true is p = absurd (cc)
    step false is p = made_script (groups_in 0 [] (map line_in (lines_of text))) refl is p

pub agrees_spells : (text : List ℕ) (r : Result Script ScriptRefusal) → AgreesAt (script_in text) r → IfOk r (λ script. Spells text script)
agrees_spells text (Ok script) h = script_is text script h
agrees_spells text (Err e) h = tt
