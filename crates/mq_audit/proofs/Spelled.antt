-- What the words of an event are read as.
use Rattle.std.proofs.Common.{◌≡◌, ℕ, Bool, false, cond, leb, Option, Some, None, ◌+◌, ◌<◌, ◌≤◌, ◌^◌, List, [], ◌∷◌, ◌++◌, get_or, map, replicate, sym, ◌∙◌, ap, subst, refl, arith}
use Rattle.std.specs.Prelude.{codes, decimal, bytes_eq}
use Rattle.std.specs.List.{AllByRecursion}
use Rattle.std.specs.Option.{option_map}
use Rattle.std.proofs.lemmas.Bool.{le-leb, lt-ltb, false_from_ne_true}
use Rattle.std.proofs.lemmas.Fmt.{decimal_nonempty, digits_decimal}
use Rattle.std.proofs.lemmas.Slice.Eq.{bytes_eq-Decides}
use Rattle.std.proofs.Math.ListN.{get_or-append}
use Rattle.mq_block_text.specs.Text.{hex_text, set_text}
use Rattle.mq_block_text.proofs.TextItems.{cut}
use Rattle.mq_block_text.proofs.TextNumbers.{own}
use Rattle.mq_block_text.specs.Words.{byte_in, number_in}
use Rattle.mq_block_text.proofs.WordsDigits.{byte_written, number_again}
use Rattle.mq_blocks.specs.Descriptor.{AreRising}
use Rattle.mq_blocks.specs.Geometry.{homes_of, queues_of}
use Rattle.mq_blocks.specs.declared.geometry.Geometry.{Geometry}
use Rattle.mq_core.specs.declared.event.Event.{Event}
use Rattle.mq_core.specs.declared.event.Event.TheVariants.{Draw, Stage, Flush, Ring, Complete, FailCommand, StoreHead, FlushHead, Clear, Acknowledge, WriteHome, HomeDone, StoreBase, FlushBase}
use Rattle.mq_ledger.specs.History.{blocks_of}
use Rattle.mq_ledger.specs.declared.tx.Tx.{Tx}
use Rattle.mq_audit.specs.Answers.{and_then}
use Rattle.mq_audit.specs.Events.{a_queue_and_a_number, event_in_words, lists_of, tx_in}
use Rattle.mq_audit.specs.Lists.{blocks_in, content_in, cut_by, rising_in, sets_in}
use Rattle.mq_audit.specs.Spelled.{AreSets, IsDraw, IsEvent, IsFilled, event_words, list_words, set_word}
use Rattle.mq_audit.specs.Words.{below, block_in, both, ended_by, queue_in, set_in}

-- ---- words

below_again : (end n : ℕ) (o : Option ℕ) → n < end → o ≡ Some n → below end o ≡ Some n
below_again end n o low is = ap (below end) is ∙ ap (λ (t : Bool). cond t (Some n) None) (lt-ltb n end low)

queue_again : (g : Geometry) (q : ℕ) → q < queues_of g → queue_in g (decimal q) ≡ Some q
queue_again g q low = below_again (queues_of g) q (number_in (decimal q)) low (number_again q (let high = g.queues_high in omega (arith, low, high)))

block_again : (g : Geometry) (b : ℕ) → b < homes_of g → block_in g (decimal b) ≡ Some b
block_again g b low = below_again (homes_of g) b (number_in (decimal b)) low (number_again b (let high = g.homes_high in omega (arith, low, high)))

pair_again : (g : Geometry) (q n : ℕ) → q < queues_of g → n < 2 ^ 64 → a_queue_and_a_number g (decimal q ∷ decimal n ∷ []) ≡ Some (q, n)
pair_again g q n low small =
    ap (λ o. and_then o (λ p. and_then (number_in (decimal n)) (λ m. Some (p, m)))) (queue_again g q low)
    ∙ ap (λ o. and_then o (λ m. Some (q, m))) (number_again n small)

-- ---- sets

set_again : (g : Geometry) (b v : ℕ) → b < homes_of g → v < 256 → set_in g (set_text b v) ≡ Some (b, v)
set_again g b v low small =
    let at = cut (set_text b v) (decimal b) (61 ∷ hex_text v) refl refl in
    (λ i. ended_by (block_in g (at.0 i)) (at.1 i))
    ∙ ap (λ o. both o (byte_in (get_or (hex_text v) 0 0) (get_or (hex_text v) 1 0))) (block_again g b low)
    ∙ ap (λ o. both (Some b) o) (sym (byte_written v (get_or (hex_text v) 0 0) (get_or (hex_text v) 1 0) small refl))

content_again : (g : Geometry) (s : ℕ × List ℕ) → s.0 < homes_of g → IsFilled s.1 → content_in g (set_word s) ≡ Some s
content_again g s low filled =
    let byte = filled.0 in
    let first : get_or s.1 0 0 ≡ byte = ap (λ (l : List ℕ). get_or l 0 0) filled.2 in
    ap (λ (v : ℕ). content_in g (set_text s.0 v)) first
    ∙ ap (option_map (λ (t : ℕ × ℕ). (t.0, replicate 4096 t.1))) (set_again g s.0 byte low filled.1)
    ∙ ap (λ (c : List ℕ). Some (s.0, c)) (sym filled.2)

rising_again : {A : Type 0} (key : A → ℕ) (read : List ℕ → Option A) (text : A → List ℕ) (end low : ℕ) (xs : List A) → AreRising low end (map key xs) → AllByRecursion (λ x. key x < end → read (text x) ≡ Some x) xs → rising_in key read low (map text xs) ≡ Some xs
rising_again key read text end low [] rises reads = refl
rising_again key read text end low (x ∷ xs) rises reads =
    ap (λ o. and_then o (λ y. cond (leb low (key y)) (option_map (λ ys. y ∷ ys) (rising_in key read (key y + 1) (map text xs))) None)) (reads.0 rises.1)
    ∙ ap (λ (t : Bool). cond t (option_map (λ ys. x ∷ ys) (rising_in key read (key x + 1) (map text xs))) None) (le-leb low (key x) rises.0)
    ∙ ap (option_map (λ ys. x ∷ ys)) (rising_again key read text end (key x + 1) xs rises.2 reads.1)

sets_read : (g : Geometry) (sets : List (ℕ × List ℕ)) → AllByRecursion (λ (s : ℕ × List ℕ). IsFilled s.1) sets → AllByRecursion (λ (s : ℕ × List ℕ). s.0 < homes_of g → content_in g (set_word s) ≡ Some s) sets
sets_read g [] filled = tt
sets_read g (s ∷ sets) filled = (λ low. content_again g s low filled.0, sets_read g sets filled.1)

sets_again : (g : Geometry) (sets : List (ℕ × List ℕ)) → AreSets 0 (homes_of g) sets → sets_in g 0 (map set_word sets) ≡ Some sets
sets_again g sets good = rising_again (λ (s : ℕ × List ℕ). s.0) (content_in g) set_word (homes_of g) 0 sets good.0 (sets_read g sets good.1)

blocks_read : (g : Geometry) (blocks : List ℕ) → AllByRecursion (λ (b : ℕ). b < homes_of g → block_in g (decimal b) ≡ Some b) blocks
blocks_read g [] = tt
blocks_read g (b ∷ blocks) = (λ low. block_again g b low, blocks_read g blocks)

map_same : (xs : List ℕ) → map (λ (x : ℕ). x) xs ≡ xs
map_same [] = refl
map_same (x ∷ xs) = ap (λ (l : List ℕ). x ∷ l) (map_same xs)

blocks_again : (g : Geometry) (blocks : List ℕ) → AreRising 0 (homes_of g) blocks → blocks_in g 0 (map decimal blocks) ≡ Some blocks
blocks_again g blocks rises = rising_again (λ (b : ℕ). b) (block_in g) decimal (homes_of g) 0 blocks (subst (AreRising 0 (homes_of g)) (sym (map_same blocks)) rises) (blocks_read g blocks)

-- ---- the lists of a draw

first_digit : (n : ℕ) (more : List ℕ) → n < 2 ^ 64 → get_or (decimal n ++ more) 0 0 < 58
first_digit n more small =
    let some = decimal_nonempty n small in
    let digit = digits_decimal own n small 0 some in
    omega (arith, get_or-append (decimal n) more 0 0 some, digit.1)

not_word : (w word : List ℕ) → get_or w 0 0 < 58 → 58 ≤ get_or word 0 0 → bytes_eq w word ≡ false
not_word w word digit letter = false_from_ne_true _ (λ e. (let same = ap (λ (l : List ℕ). get_or l 0 0) ((bytes_eq-Decides w word).0 e) in absurd (omega (arith, same, digit, letter))))

abbrev StartByDigit : List ℕ → Type 0
StartByDigit w = get_or w 0 0 < 58

cut_again : (word : List ℕ) (ws rest : List (List ℕ)) → AllByRecursion StartByDigit ws → 58 ≤ get_or word 0 0 → cut_by word (ws ++ word ∷ rest) ≡ Some (ws, rest)
cut_again word [] rest digits letter = ap (λ (t : Bool). cond t (Some ([], rest)) (option_map (λ (parts : List (List ℕ) × List (List ℕ)). (word ∷ parts.0, parts.1)) (cut_by word rest))) ((bytes_eq-Decides word word).1 refl)
cut_again word (w ∷ ws) rest digits letter =
    ap (λ (t : Bool). cond t (Some ([], ws ++ word ∷ rest)) (option_map (λ (parts : List (List ℕ) × List (List ℕ)). (w ∷ parts.0, parts.1)) (cut_by word (ws ++ word ∷ rest)))) (not_word w word digits.0 letter)
    ∙ ap (option_map (λ (parts : List (List ℕ) × List (List ℕ)). (w ∷ parts.0, parts.1))) (cut_again word ws rest digits.1 letter)

set_digits : (g : Geometry) (low : ℕ) (sets : List (ℕ × List ℕ)) → AreRising low (homes_of g) (blocks_of sets) → AllByRecursion StartByDigit (map set_word sets)
set_digits g low [] rises = tt
set_digits g low (s ∷ sets) rises = (first_digit s.0 _ (let high = g.homes_high in let below = rises.1 in omega (arith, high, below)), set_digits g (s.0 + 1) sets rises.2)

block_digits : (g : Geometry) (low : ℕ) (blocks : List ℕ) → AreRising low (homes_of g) blocks → AllByRecursion StartByDigit (map decimal blocks)
block_digits g low [] rises = tt
block_digits g low (b ∷ blocks) rises = (
  (let small : b < 2 ^ 64 = (let high = g.homes_high in let below = rises.1 in omega (arith, high, below)) in
      let digit = digits_decimal own b small 0 (decimal_nonempty b small) in
      omega (arith, digit.1)),
  block_digits g (b + 1) blocks rises.2,
)

lists_again : (g : Geometry) (number : ℕ) (t : Tx) → IsDraw g number t → lists_of (list_words t) ≡ Some (map set_word t.logged, map set_word t.direct, map decimal t.revoked, map decimal t.freed)
lists_again g number t good =
    let freed = map decimal t.freed in
    let revoked = map decimal t.revoked ++ codes "freed" ∷ freed in
    let direct = map set_word t.direct ++ codes "revoked" ∷ revoked in
    ap (λ (o : Option (List (List ℕ) × List (List ℕ))). and_then o (λ b. and_then (cut_by (codes "revoked") b.1) (λ c. and_then (cut_by (codes "freed") c.1) (λ d. Some (b.0, c.0, d.0, d.1)))))
    (cut_again (codes "direct") (map set_word t.logged) direct (set_digits g 0 t.logged good.logged.0) (omega arith))
    ∙ ap (λ (o : Option (List (List ℕ) × List (List ℕ))). and_then o (λ c. and_then (cut_by (codes "freed") c.1) (λ d. Some (map set_word t.logged, c.0, d.0, d.1))))
    (cut_again (codes "revoked") (map set_word t.direct) revoked (set_digits g 0 t.direct good.direct.0) (omega arith))
    ∙ ap (λ (o : Option (List (List ℕ) × List (List ℕ))). and_then o (λ d. Some (map set_word t.logged, map set_word t.direct, d.0, d.1)))
    (cut_again (codes "freed") (map decimal t.revoked) freed (block_digits g 0 t.revoked good.revoked) (omega arith))

-- a draw with these lists
abbrev drawn : (number : ℕ) (t : Tx) (logged direct : List (ℕ × List ℕ)) (revoked freed : List ℕ) → Tx
drawn number t logged direct revoked freed = record { number = number; queue = t.queue; logged = logged; direct = direct; revoked = revoked; freed = freed }

tx_again : (g : Geometry) (number : ℕ) (t : Tx) → IsDraw g number t → tx_in g number t.queue (list_words t) ≡ Some t
tx_again g number t good =
    ap (λ (o : Option (List (List ℕ) × List (List ℕ) × List (List ℕ) × List (List ℕ))). and_then o (λ l. and_then (sets_in g 0 l.0) (λ logged. and_then (sets_in g 0 l.1) (λ direct. and_then (blocks_in g 0 l.2) (λ revoked. and_then (blocks_in g 0 l.3) (λ freed. Some (drawn number t logged direct revoked freed)))))))
    (lists_again g number t good)
    ∙ ap (λ (o : Option (List (ℕ × List ℕ))). and_then o (λ logged. and_then (sets_in g 0 (map set_word t.direct)) (λ direct. and_then (blocks_in g 0 (map decimal t.revoked)) (λ revoked. and_then (blocks_in g 0 (map decimal t.freed)) (λ freed. Some (drawn number t logged direct revoked freed))))))
    (sets_again g t.logged good.logged)
    ∙ ap (λ (o : Option (List (ℕ × List ℕ))). and_then o (λ direct. and_then (blocks_in g 0 (map decimal t.revoked)) (λ revoked. and_then (blocks_in g 0 (map decimal t.freed)) (λ freed. Some (drawn number t t.logged direct revoked freed)))))
    (sets_again g t.direct good.direct)
    ∙ ap (λ (o : Option (List ℕ)). and_then o (λ revoked. and_then (blocks_in g 0 (map decimal t.freed)) (λ freed. Some (drawn number t t.logged t.direct revoked freed))))
    (blocks_again g t.revoked good.revoked)
    ∙ ap (λ (o : Option (List ℕ)). and_then o (λ freed. Some (drawn number t t.logged t.direct t.revoked freed))) (blocks_again g t.freed good.freed)
    ∙ ap (λ (n : ℕ). Some (drawn n t t.logged t.direct t.revoked t.freed)) (sym good.number_is)

-- ---- events

pub event_again : (g : Geometry) (number : ℕ) (e : Event) → IsEvent g number e → event_in_words g number (event_words e) ≡ Some e
event_again g number (Draw t) good =
    ap (λ o. option_map (λ u. Draw u) (and_then o (λ q. tx_in g number q (list_words t)))) (queue_again g t.queue good.queue)
    ∙ ap (option_map (λ u. Draw u)) (tx_again g number t good)
event_again g number (Stage q) good = ap (option_map (λ p. Stage p)) (queue_again g q good)
event_again g number (Flush q) good = ap (option_map (λ p. Flush p)) (queue_again g q good)
event_again g number (Ring q) good = ap (option_map (λ p. Ring p)) (queue_again g q good)
event_again g number (Complete q c) good = ap (option_map (λ (x : ℕ × ℕ). Complete x.0 x.1)) (pair_again g q c good.0 good.1)
event_again g number (FailCommand q c) good = ap (option_map (λ (x : ℕ × ℕ). FailCommand x.0 x.1)) (pair_again g q c good.0 good.1)
event_again g number (StoreHead q h) good = ap (option_map (λ (x : ℕ × ℕ). StoreHead x.0 x.1)) (pair_again g q h good.0 good.1)
event_again g number (FlushHead q) good = ap (option_map (λ p. FlushHead p)) (queue_again g q good)
event_again g number (Clear q low) good = ap (option_map (λ (x : ℕ × ℕ). Clear x.0 x.1)) (pair_again g q low good.0 good.1)
event_again g number (Acknowledge n) good = ap (option_map (λ m. Acknowledge m)) (number_again n good)
event_again g number (WriteHome b) good = ap (option_map (λ x. WriteHome x)) (block_again g b good)
event_again g number (HomeDone b) good = ap (option_map (λ x. HomeDone x)) (block_again g b good)
event_again g number (StoreBase n) good = ap (option_map (λ m. StoreBase m)) (number_again n good)
event_again g number FlushBase good = refl
