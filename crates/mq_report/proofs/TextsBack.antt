-- What a report says, from its words.
use Rattle.std.proofs.Common.{◌≡◌, ◌∙◌, ℕ, suc, zero, Bool, true, false, ◌+◌, ◌*◌, ◌^◌, ◌<◌, List, [], ◌∷◌, get_or, Result, Ok, Err, refl, ap, arith}
use Rattle.std.specs.Prelude.{Option, Some, None, nat_eq, nat_lt, if◌then◌else◌, All, codes}
use Rattle.std.specs.Fmt.{decimal}
use Rattle.std.specs.Str.Parse.{digits_value}
use Rattle.std.proofs.lemmas.Fmt.{digits_decimal, digits_value-decimal, decimal_nonempty}
use Rattle.hex.proofs.HexLemmas.{decode_of-encode_lower}
use Rattle.hex.specs.Hex.{IsBytes, decode_of, decode_pairs, encode_lower}
use Rattle.hex.specs.declared.error.FromHexError.{FromHexError}
use Rattle.mq_script.specs.Spelled.{end_word}
use Rattle.mq_script.specs.declared.group.End.{End}
use Rattle.mq_script.specs.declared.group.End.TheVariants.{Fsync, Fatomic, Ask}
use Rattle.mq_block_text.proofs.TextNumbers.{own}
use Rattle.mq_tree.specs.declared.request.Fault.{Fault}
use Rattle.mq_tree.specs.declared.request.Fault.TheVariants.{NotFound, Exists, NotDir, IsDir, NotEmpty, BadName, TooBig, Subtree, NoSpace, NoInodes, Links}
use Rattle.mq_tree.specs.declared.request.Reply.{Reply}
use Rattle.mq_tree.specs.declared.request.Reply.TheVariants.{Ok as Done, Data, Names, File as Size, Dir as Count, Refused}
use Rattle.mq_report.specs.Lines.{Answer, Good, Large, Changes, Off, Failed, Home, Stopped, Memory, Line, Printed, answer_of, as_printed}
use Rattle.mq_report.specs.Ranges.{IsFit, IsSmallAnswer, IsSmallDrawn, IsSmallLast, IsSmallLine, IsSmallTold}
use Rattle.mq_report.specs.Texts.{Words, answer_words, drawn_word, entry_line, fault_word, last_line, reply_line, told_line}
use Rattle.mq_report.specs.declared.line.Last.{Last}
use Rattle.mq_report.specs.declared.line.Last.TheVariants.{Clean, Cut, StoppedTx, StoppedBlock}
use Rattle.mq_report.specs.declared.line.Told.{Told}

abbrev pub value : List ℕ → ℕ
value w = digits_value 10 w

pub value-decimal : (n : ℕ) → n < 2 ^ 64 → value (decimal n) ≡ n
value-decimal n small = digits_value-decimal own n small

abbrev pub at : List ℕ → ℕ → ℕ
at w k = get_or w k 0

abbrev pub word : Words → ℕ → List ℕ
word ws k = get_or ws k []

abbrev pub key : List ℕ → ℕ
key w = at w 0 * 256 + at w 1

-- ---- replies

abbrev bytes_or : Result (List ℕ) FromHexError → List ℕ
bytes_or (Ok bytes) = bytes
bytes_or (Err e) = []

abbrev unhex : List ℕ → List ℕ
unhex text = bytes_or (decode_of text)

unhex-none : unhex [] ≡ []
unfolding decode_pairs
unhex-none = refl

are-bytes : (bs : List ℕ) → All (λ b. b < 256) bs → IsBytes bs
are-bytes [] h i = omega arith
are-bytes (b ∷ bs) h zero = h 0 0 (omega arith)
are-bytes (b ∷ bs) h (suc i) = are-bytes bs (λ k d l. h (suc k) d (omega arith)) i

unhex-hex : (bs : List ℕ) → All (λ b. b < 256) bs → unhex (encode_lower bs) ≡ bs
unhex-hex bs h = ap bytes_or (decode_of-encode_lower bs (are-bytes bs h))

abbrev fault_key : List ℕ → ℕ
fault_key w = at w 0 * 65536 + (at w 2 * 256 + at w 3)

abbrev fault_back : List ℕ → Fault
fault_back w =
    if nat_eq (fault_key w) (fault_key (codes "NotFound")) then NotFound
    else (if nat_eq (fault_key w) (fault_key (codes "Exists")) then Exists
    else (if nat_eq (fault_key w) (fault_key (codes "NotDir")) then NotDir
    else (if nat_eq (fault_key w) (fault_key (codes "IsDir")) then IsDir
    else (if nat_eq (fault_key w) (fault_key (codes "NotEmpty")) then NotEmpty
    else (if nat_eq (fault_key w) (fault_key (codes "BadName")) then BadName
    else (if nat_eq (fault_key w) (fault_key (codes "TooBig")) then TooBig
    else (if nat_eq (fault_key w) (fault_key (codes "Subtree")) then Subtree
    else (if nat_eq (fault_key w) (fault_key (codes "NoSpace")) then NoSpace
    else (if nat_eq (fault_key w) (fault_key (codes "NoInodes")) then NoInodes
    else Links)))))))))

fault-back : (f : Fault) → fault_back (fault_word f) ≡ f
fault-back NotFound = refl
fault-back Exists = refl
fault-back NotDir = refl
fault-back IsDir = refl
fault-back NotEmpty = refl
fault-back BadName = refl
fault-back TooBig = refl
fault-back Subtree = refl
fault-back NoSpace = refl
fault-back NoInodes = refl
fault-back Links = refl

abbrev pub rest : Words → Words
rest [] = []
rest (w ∷ ws) = ws

-- the words behind the two spaces
abbrev reply_of : Words → Reply
reply_of ws =
    if nat_eq (key (word ws 0)) (key (codes "ok")) then Done
    else (if nat_eq (key (word ws 0)) (key (codes "data")) then Data (unhex (word ws 2))
    else (if nat_eq (key (word ws 0)) (key (codes "names")) then Names (rest ws)
    else (if nat_eq (key (word ws 0)) (key (codes "file")) then Size (value (word ws 1))
    else (if nat_eq (key (word ws 0)) (key (codes "dir")) then Count (value (word ws 1))
    else Refused (fault_back (word ws 1))))))

abbrev pub reply_back : Words → Reply
reply_back ws = reply_of (rest (rest ws))

pub reply-back : (r : Reply) → IsFit r → reply_back (reply_line r) ≡ r
reply-back Done h = refl
reply-back (Data []) h = ap Data unhex-none
reply-back (Data (b ∷ bs)) h = ap Data (unhex-hex (b ∷ bs) h.0)
reply-back (Names names) h = refl
reply-back (Size n) h = ap Size (value-decimal n h)
reply-back (Count n) h = ap Count (value-decimal n h)
reply-back (Refused f) h = ap Refused (fault-back f)

-- ---- lines

abbrev end_back : List ℕ → End
end_back w =
    if nat_eq (key w) (key (codes "fsync")) then Fsync
    else (if nat_eq (key w) (key (codes "fatomic")) then Fatomic
    else Ask)

end-back : (e : End) → end_back (end_word e) ≡ e
end-back Fsync = refl
end-back Fatomic = refl
end-back Ask = refl

abbrev pub is_commit : List ℕ → Bool
is_commit w = nat_eq (key w) (key (codes "commit"))

abbrev pub line_back : Words → List Reply → Line
line_back ws rs = record {
  number = value (word ws 1);
  commit = is_commit (word ws 0);
  session = value (word ws 3);
  group = value (word ws 5);
  end = end_back (word ws 6);
  replies = rs;
}

line-at : (number : ℕ) (commit : Bool) (session group : ℕ) (end : End) (rs : List Reply) → number < 2 ^ 64 → session < 2 ^ 64 → group < 2 ^ 64
    → line_back (entry_line (record { number = number; commit = commit; session = session; group = group; end = end; replies = rs })) rs ≡ record { number = number; commit = commit; session = session; group = group; end = end; replies = rs }
line-at n true s g e rs a b c =
    ap (λ x. record { number = x; commit = true; session = value (decimal s); group = value (decimal g); end = end_back (end_word e); replies = rs }) (value-decimal n a)
    ∙ ap (λ x. record { number = n; commit = true; session = x; group = value (decimal g); end = end_back (end_word e); replies = rs }) (value-decimal s b)
    ∙ ap (λ x. record { number = n; commit = true; session = s; group = x; end = end_back (end_word e); replies = rs }) (value-decimal g c)
    ∙ ap (λ x. record { number = n; commit = true; session = s; group = g; end = x; replies = rs }) (end-back e)
line-at n false s g e rs a b c =
    ap (λ x. record { number = x; commit = false; session = value (decimal s); group = value (decimal g); end = end_back (end_word e); replies = rs }) (value-decimal n a)
    ∙ ap (λ x. record { number = n; commit = false; session = x; group = value (decimal g); end = end_back (end_word e); replies = rs }) (value-decimal s b)
    ∙ ap (λ x. record { number = n; commit = false; session = s; group = x; end = end_back (end_word e); replies = rs }) (value-decimal g c)
    ∙ ap (λ x. record { number = n; commit = false; session = s; group = g; end = x; replies = rs }) (end-back e)

pub line-back : (l : Line) → IsSmallLine l → line_back (entry_line l) l.replies ≡ l
line-back l h = line-at l.number l.commit l.session l.group l.end l.replies h.number h.session h.group

-- ---- answers

-- a dash is no number
dash-decimal : (n : ℕ) → n < 2 ^ 64 → nat_lt (at (decimal n) 0) 48 ≡ false
dash-decimal n small = let first = (digits_decimal own n small) 0 (decimal_nonempty n small) in grind (arith, first)

abbrev pub drawn_back : List ℕ → Option ℕ
drawn_back w = if nat_lt (at w 0) 48 then None else Some (value w)

drawn-back : (d : Option ℕ) → IsSmallDrawn d → drawn_back (drawn_word d) ≡ d
drawn-back None h = refl
drawn-back (Some n) h = ap (λ (b : Bool). if b then None else Some (value (decimal n))) (dash-decimal n h) ∙ ap Some (value-decimal n h)

abbrev pub answer_back : Words → Answer
answer_back ws =
    if nat_eq (key (word ws 0)) (key (codes "ok")) then Good (value (word ws 1))
    else (if nat_eq (key (word ws 0)) (key (codes "large")) then Large (value (word ws 1))
    else (if nat_eq (key (word ws 0)) (key (codes "changes")) then Changes (value (word ws 1))
    else (if nat_eq (key (word ws 0)) (key (codes "off")) then Off (drawn_back (word ws 1))
    else (if nat_eq (key (word ws 0)) (key (codes "failed")) then Failed (value (word ws 1)) (value (word ws 2)) (drawn_back (word ws 3))
    else (if nat_eq (key (word ws 0)) (key (codes "home")) then Home (value (word ws 1)) (value (word ws 2))
    else (if nat_eq (key (word ws 0)) (key (codes "stopped")) then Stopped (value (word ws 1)) (drawn_back (word ws 2))
    else Memory))))))

answer-back : (a : Answer) → IsSmallAnswer a → answer_back (answer_words a) ≡ a
answer-back (Good n) h = ap Good (value-decimal n h)
answer-back (Large n) h = ap Large (value-decimal n h)
answer-back (Changes n) h = ap Changes (value-decimal n h)
answer-back (Off d) h = ap Off (drawn-back d h)
answer-back (Failed t s d) h = ap (λ x. Failed x (value (decimal s)) (drawn_back (drawn_word d))) (value-decimal t h.0) ∙ ap (λ x. Failed t x (drawn_back (drawn_word d))) (value-decimal s h.1) ∙ ap (λ x. Failed t s x) (drawn-back d h.2)
answer-back (Home b s) h = ap (λ x. Home x (value (decimal s))) (value-decimal b h.0) ∙ ap (λ x. Home b x) (value-decimal s h.1)
answer-back (Stopped t d) h = ap (λ x. Stopped x (drawn_back (drawn_word d))) (value-decimal t h.0) ∙ ap (λ x. Stopped t x) (drawn-back d h.1)
answer-back Memory h = refl

abbrev pub told_back : Words → Printed
told_back ws = record { session = value (word ws 1); group = value (word ws 2); answer = answer_back (rest (rest (rest ws))) }

pub told-back : (t : Told) → IsSmallTold t → told_back (told_line t) ≡ as_printed t
told-back t h =
    ap (λ x. record { session = x; group = value (decimal t.group); answer = answer_back (answer_words (answer_of t.answer)) }) (value-decimal t.session h.session)
    ∙ ap (λ x. record { session = t.session; group = x; answer = answer_back (answer_words (answer_of t.answer)) }) (value-decimal t.group h.group)
    ∙ ap (λ x. record { session = t.session; group = t.group; answer = x }) (answer-back (answer_of t.answer) h.answer)

-- ---- ends

abbrev pub last_of : Words → Last
last_of ws =
    if nat_eq (key (word ws 0)) (key (codes "clean")) then Clean (value (word ws 1))
    else (if nat_eq (key (word ws 0)) (key (codes "cut")) then Cut (value (word ws 1))
    else (if nat_eq (key (word ws 1)) (key (codes "tx")) then StoppedTx (value (word ws 2))
    else StoppedBlock (value (word ws 2))))

pub last-back : (x : Last) → IsSmallLast x → last_of (last_line x) ≡ x
last-back (Clean n) h = ap Clean (value-decimal n h)
last-back (Cut n) h = ap Cut (value-decimal n h)
last-back (StoppedTx n) h = ap StoppedTx (value-decimal n h)
last-back (StoppedBlock n) h = ap StoppedBlock (value-decimal n h)
