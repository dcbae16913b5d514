-- The words of a report have no byte up to the space, so its text is cut where it was joined.
use Rattle.std.proofs.Common.{◌≡◌, ℕ, zero, suc, Bool, true, false, eqb, ◌/◌, ◌%◌, ◌^◌, ◌<◌, ◌≤◌, List, [], ◌∷◌, ◌++◌, length, get_or, slice_index, refl, arith}
use Rattle.std.specs.Prelude.{map, All, Option, Some, None, codes, nat_lt}
use Rattle.std.specs.Fmt.{decimal}
use Rattle.std.specs.List.{list_all}
use Rattle.std.proofs.lemmas.Bool.{and_parts, ltb-true, ne_eqb}
use Rattle.std.proofs.lemmas.Fmt.{digits_decimal}
use Rattle.std.proofs.lemmas.List.Elements.{All-cons, All-append}
use Rattle.hex.specs.Hex.{encode_lower, encode_with, lower_digits}
use Rattle.mq_layout.proofs.Names.{name-good}
use Rattle.mq_layout.specs.Names.{is_name, is_letter}
use Rattle.mq_script.specs.Spelled.{end_word}
use Rattle.mq_script.specs.declared.group.End.{End}
use Rattle.mq_script.specs.declared.group.End.TheVariants.{Fsync, Fatomic, Ask}
use Rattle.mq_block_text.proofs.TextNumbers.{own}
use Rattle.mq_block_text.proofs.TextParts.{Avoids}
use Rattle.mq_tree.specs.declared.request.Fault.{Fault}
use Rattle.mq_tree.specs.declared.request.Fault.TheVariants.{NotFound, Exists, NotDir, IsDir, NotEmpty, BadName, TooBig, Subtree, NoSpace, NoInodes, Links}
use Rattle.mq_tree.specs.declared.request.Reply.{Reply}
use Rattle.mq_tree.specs.declared.request.Reply.TheVariants.{Ok as Done, Data, Names, File as Size, Dir as Count, Refused}
use Rattle.mq_report.specs.Lines.{Answer, Good, Large, Changes, Off, Failed, Home, Stopped, Memory, Line, answer_of}
use Rattle.mq_report.specs.Ranges.{AreFit, AreSmall, IsFit, IsSmall, IsSmallAnswer, IsSmallDrawn, IsSmallLast, IsSmallLine}
use Rattle.mq_report.specs.Texts.{Words, after_spaces, answer_words, drawn_word, entry_line, entry_lines, entry_word, fault_word, last_line, reply_line, report_lines, spaced, told_line}
use Rattle.mq_report.specs.declared.line.Last.{Last}
use Rattle.mq_report.specs.declared.line.Last.TheVariants.{Clean, Cut, StoppedTx, StoppedBlock}
use Rattle.mq_report.specs.declared.line.Told.{Told}
use Rattle.mq_report.proofs.TextsCutting.{AreLines, IsLine}

-- ---- plain words

abbrev pub IsPlain : List ℕ → Type 0
IsPlain [] = Unit {0}
IsPlain (x ∷ xs) = (32 < x) × IsPlain xs

abbrev tested : List ℕ → Bool
tested w = list_all (nat_lt 32) w

plain-by : (w : List ℕ) → ((k : ℕ) → k < length w → 32 < get_or w k 0) → IsPlain w
plain-by [] h = tt
plain-by (x ∷ xs) h = (h 0 (omega arith), plain-by xs (λ k l. h (suc k) (omega arith)))

avoids : (at : ℕ) → at ≤ 32 → (w : List ℕ) → IsPlain w → Avoids at w
avoids at low [] h = λ k d l. absurd (omega arith)
avoids at low (x ∷ xs) h = All-cons (λ y. eqb y at ≡ false) x xs (ne_eqb x at (let p = h.0 in omega arith)) (avoids at low xs h.1)

decimal-plain : (n : ℕ) → n < 2 ^ 64 → IsPlain (decimal n)
decimal-plain n small = plain-by (decimal n) (λ k l. let d = (digits_decimal own n small) k l in omega (arith, d))

plain-test : (w : List ℕ) → tested w ≡ true → IsPlain w
plain-test [] e = tt
plain-test (x ∷ xs) e = let p = and_parts (nat_lt 32 x) (tested xs) e in (ltb-true 32 x p.0, plain-test xs p.1)

plain-at : (w : List ℕ) → IsPlain w → (i : ℕ) → i < length w → 32 < slice_index w i
plain-at [] h i l = absurd (omega arith)
plain-at (x ∷ xs) h zero l = h.0
plain-at (x ∷ xs) h (suc i) l = plain-at xs h.1 i (omega arith)

digit-plain : (d : ℕ) → d < 16 → 32 < slice_index lower_digits d
digit-plain d h = plain-at lower_digits (plain-test lower_digits refl) d h

hex-plain : (bs : List ℕ) → All (λ b. b < 256) bs → IsPlain (encode_lower bs)
unfolding encode_with
hex-plain [] h = tt
hex-plain (b ∷ bs) h =
    let low : b < 256 = h 0 0 (omega arith) in
    (digit-plain (b / 16) (omega arith), (digit-plain (b % 16) (omega arith), hex-plain bs (λ k d l. h (suc k) d (omega arith))))

-- ---- plain lines

abbrev pub ArePlain : Words → Type 0
ArePlain [] = Unit {0}
ArePlain (w ∷ ws) = IsPlain w × ArePlain ws

is-line : (w : List ℕ) (ws : Words) → ArePlain (w ∷ ws) → IsLine (w ∷ ws)
is-line w [] h = avoids 32 (omega arith) w h.0
is-line w (v ∷ ws) h = (avoids 32 (omega arith) w h.0, is-line v ws h.1)

no-feed-after : (ws : Words) → ArePlain ws → Avoids 10 (after_spaces ws)
no-feed-after [] h = λ k d l. absurd (omega arith)
no-feed-after (w ∷ ws) h = All-cons (λ x. eqb x 10 ≡ false) 32 (w ++ after_spaces ws) refl (All-append (λ x. eqb x 10 ≡ false) w (after_spaces ws) (avoids 10 (omega arith) w h.0) (no-feed-after ws h.1))

no-feed : (ws : Words) → ArePlain ws → Avoids 10 (spaced ws)
no-feed [] h = λ k d l. absurd (omega arith)
no-feed (w ∷ ws) h = All-append (λ x. eqb x 10 ≡ false) w (after_spaces ws) (avoids 10 (omega arith) w h.0) (no-feed-after ws h.1)

abbrev IsGood : Words → Type 0
IsGood [] = ⊥
IsGood (w ∷ ws) = ArePlain (w ∷ ws)

abbrev AreGood : List Words → Type 0
AreGood [] = Unit {0}
AreGood (l ∷ ls) = IsGood l × AreGood ls

good-lines : (ls : List Words) → AreGood ls → AreLines ls
good-lines [] h = tt
good-lines ([] ∷ ls) h = absurd h.0
good-lines ((w ∷ ws) ∷ ls) h = (is-line w ws h.0, no-feed (w ∷ ws) h.0, good-lines ls h.1)

good-append : (ls ms : List Words) → AreGood ls → AreGood ms → AreGood (ls ++ ms)
good-append [] ms h k = k
good-append (l ∷ ls) ms h k = (h.0, good-append ls ms h.1 k)

-- ---- the lines of a report

fault-plain : (f : Fault) → IsPlain (fault_word f)
fault-plain NotFound = plain-test (fault_word NotFound) refl
fault-plain Exists = plain-test (fault_word Exists) refl
fault-plain NotDir = plain-test (fault_word NotDir) refl
fault-plain IsDir = plain-test (fault_word IsDir) refl
fault-plain NotEmpty = plain-test (fault_word NotEmpty) refl
fault-plain BadName = plain-test (fault_word BadName) refl
fault-plain TooBig = plain-test (fault_word TooBig) refl
fault-plain Subtree = plain-test (fault_word Subtree) refl
fault-plain NoSpace = plain-test (fault_word NoSpace) refl
fault-plain NoInodes = plain-test (fault_word NoInodes) refl
fault-plain Links = plain-test (fault_word Links) refl

letters-plain : (w : List ℕ) → list_all is_letter w ≡ true → IsPlain w
letters-plain [] e = tt
letters-plain (x ∷ xs) e =
    let p = and_parts (is_letter x) (list_all is_letter xs) e in
    let q = and_parts _ _ p.0 in
    let r = and_parts (nat_lt 32 x) _ q.0 in
    (ltb-true 32 x r.0, letters-plain xs p.1)

name-plain : (w : List ℕ) → is_name w ≡ true → IsPlain w
name-plain w e = letters-plain w (name-good w e).letters

names-plain : (ns : List (List ℕ)) → All (λ n. is_name n ≡ true) ns → ArePlain ns
names-plain [] h = tt
names-plain (n ∷ ns) h = (name-plain n (h 0 n (omega arith)), names-plain ns (λ k d l. h (suc k) d (omega arith)))

reply-good : (r : Reply) → IsFit r → IsGood (reply_line r)
reply-good Done h = (tt, (tt, (plain-test (codes "ok") refl, tt)))
reply-good (Data []) h = (tt, (tt, (plain-test (codes "data") refl, (decimal-plain 0 (omega arith), tt))))
reply-good (Data (b ∷ bs)) h = (tt, (tt, (plain-test (codes "data") refl, (decimal-plain (length (b ∷ bs)) h.1, (hex-plain (b ∷ bs) h.0, tt)))))
reply-good (Names ns) h = (tt, (tt, (plain-test (codes "names") refl, names-plain ns h)))
reply-good (Size n) h = (tt, (tt, (plain-test (codes "file") refl, (decimal-plain n h, tt))))
reply-good (Count n) h = (tt, (tt, (plain-test (codes "dir") refl, (decimal-plain n h, tt))))
reply-good (Refused f) h = (tt, (tt, (plain-test (codes "refused") refl, (fault-plain f, tt))))

replies-good : (rs : List Reply) → All IsFit rs → AreGood (map reply_line rs)
replies-good [] h = tt
replies-good (r ∷ rs) h = (reply-good r (h 0 r (omega arith)), replies-good rs (λ k d l. h (suc k) d (omega arith)))

end-plain : (e : End) → IsPlain (end_word e)
end-plain Fsync = plain-test (codes "fsync") refl
end-plain Fatomic = plain-test (codes "fatomic") refl
end-plain Ask = plain-test (codes "ask") refl

kind-plain : (b : Bool) → IsPlain (entry_word b)
kind-plain true = plain-test (codes "commit") refl
kind-plain false = plain-test (codes "at") refl

entry-good : (l : Line) → IsSmallLine l → IsGood (entry_line l)
entry-good l h = (kind-plain l.commit, (decimal-plain l.number h.number, (plain-test (codes "session") refl, (decimal-plain l.session h.session, (plain-test (codes "group") refl, (decimal-plain l.group h.group, (end-plain l.end, tt)))))))

entries-good : (ls : List Line) → AreFit ls → AreGood (entry_lines ls)
entries-good [] h = tt
entries-good (l ∷ ls) h = (entry-good l h.1, good-append (map reply_line l.replies) (entry_lines ls) (replies-good l.replies h.0) (entries-good ls h.2))

drawn-plain : (d : Option ℕ) → IsSmallDrawn d → IsPlain (drawn_word d)
drawn-plain None h = plain-test (codes "-") refl
drawn-plain (Some n) h = decimal-plain n h

answer-plain : (a : Answer) → IsSmallAnswer a → ArePlain (answer_words a)
answer-plain (Good n) h = (plain-test (codes "ok") refl, (decimal-plain n h, tt))
answer-plain (Large n) h = (plain-test (codes "large") refl, (decimal-plain n h, tt))
answer-plain (Changes n) h = (plain-test (codes "changes") refl, (decimal-plain n h, tt))
answer-plain (Off d) h = (plain-test (codes "off") refl, (drawn-plain d h, tt))
answer-plain (Failed t s d) h = (plain-test (codes "failed") refl, (decimal-plain t h.0, (decimal-plain s h.1, (drawn-plain d h.2, tt))))
answer-plain (Home b s) h = (plain-test (codes "home") refl, (decimal-plain b h.0, (decimal-plain s h.1, tt)))
answer-plain (Stopped t d) h = (plain-test (codes "stopped") refl, (decimal-plain t h.0, (drawn-plain d h.1, tt)))
answer-plain Memory h = (plain-test (codes "memory") refl, tt)

answers-good : (ts : List Told) → AreSmall ts → AreGood (map told_line ts)
answers-good [] h = tt
answers-good (t ∷ ts) h = ((plain-test (codes "answer") refl, (decimal-plain t.session h.0.session, (decimal-plain t.group h.0.group, answer-plain (answer_of t.answer) h.0.answer))), answers-good ts h.1)

last-good : (x : Last) → IsSmallLast x → IsGood (last_line x)
last-good (Clean n) h = (plain-test (codes "clean") refl, (decimal-plain n h, tt))
last-good (Cut n) h = (plain-test (codes "cut") refl, (decimal-plain n h, tt))
last-good (StoppedTx n) h = (plain-test (codes "stopped") refl, (plain-test (codes "tx") refl, (decimal-plain n h, tt)))
last-good (StoppedBlock n) h = (plain-test (codes "stopped") refl, (plain-test (codes "block") refl, (decimal-plain n h, tt)))

pub report-cut : (b : ℕ) (ls : List Line) (ts : List Told) (x : Last) → IsSmall b ls ts x → AreLines (report_lines b ls ts x)
report-cut b ls ts x h =
    good-lines (report_lines b ls ts x) (
      (plain-test (codes "base") refl, (decimal-plain b h.base_small, tt)),
      good-append (entry_lines ls) (map told_line ts ++ last_line x ∷ []) (entries-good ls h.entries_fit)
          (good-append (map told_line ts) (last_line x ∷ []) (answers-good ts h.answers_small) (last-good x h.last_small, tt)),
    )
