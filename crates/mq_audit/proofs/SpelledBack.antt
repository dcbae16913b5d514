-- What an event is read from: its own words.
use Rattle.std.proofs.Common.{◌≡◌, ℕ, Bool, true, false, cond, eqb, leb, ltb, Option, Some, None, ◌+◌, ◌-◌, ◌<◌, ◌^◌, List, [], ◌∷◌, ◌++◌, length, map, take, drop, replicate, sym, ◌∙◌, ap, subst, refl}
use Rattle.std.specs.Prelude.{◌&&◌, nat_lt, codes, decimal, bytes_eq}
use Rattle.std.specs.List.{AllByRecursion, find}
use Rattle.std.specs.Option.{option_map}
use Rattle.std.specs.Str.Parse.{digits_value}
use Rattle.std.proofs.lemmas.Bool.{and_parts, ltb-true, leb-true, eqb-true}
use Rattle.std.proofs.lemmas.List.{take-append-drop}
use Rattle.std.proofs.lemmas.Option.{same_Some}
use Rattle.std.proofs.lemmas.Slice.Eq.{bytes_eq-Decides}
use Rattle.mq_block_text.specs.Text.{hex_text, set_text}
use Rattle.mq_block_text.specs.Words.{byte_in, number_in, one_of, two_of}
use Rattle.mq_block_text.proofs.WordsDigits.{byte_read, number_spelled}
use Rattle.mq_block_text.proofs.WordsLines.{word_found}
use Rattle.mq_blocks.specs.Descriptor.{AreRising}
use Rattle.mq_blocks.specs.Geometry.{homes_of, queues_of}
use Rattle.mq_blocks.specs.declared.geometry.Geometry.{Geometry}
use Rattle.mq_core.specs.declared.event.Event.{Event}
use Rattle.mq_core.specs.declared.event.Event.TheVariants.{Draw, Stage, Flush, Ring, Complete, FailCommand, StoreHead, FlushHead, Clear, Acknowledge, WriteHome, HomeDone, StoreBase, FlushBase}
use Rattle.mq_ledger.specs.declared.tx.Tx.{Tx}
use Rattle.mq_audit.specs.Answers.{and_then}
use Rattle.mq_audit.specs.Events.{a_queue, a_block, a_number, a_queue_and_a_number, draw_in, event_in_words, event_of, lists_of, no_words, tx_in, verb_event}
use Rattle.mq_audit.specs.Lists.{blocks_in, content_in, cut_by, headed, rising_in, sets_in}
use Rattle.mq_audit.specs.Spelled.{AreSets, IsDraw, IsEvent, IsFilled, event_words, list_words, set_word}
use Rattle.mq_audit.specs.Verbs.{verb_in, verb_text, verbs}
use Rattle.mq_audit.specs.Words.{below, block_in, both, ended_by, queue_in, set_in}
use Rattle.mq_audit.specs.declared.verb.Verb.{Verb}
use Rattle.mq_audit.specs.declared.verb.Verb.TheVariants.{Draw as by_draw, Stage as by_stage, Flush as by_flush, Ring as by_ring, Complete as by_complete, Failed as by_failed, StoreHead as by_store_head, FlushHead as by_flush_head, Clear as by_clear, Ack as by_ack, Home as by_home, HomeDone as by_home_done, StoreBase as by_store_base, FlushBase as by_flush_base}

-- what an option that gives something was
abbrev From : {A B : Type 0} → Option A → (A → Option B) → B → Type 0
From {A} o f y = (x : A) × (o ≡ Some x) × (f x ≡ Some y)

from : {A B : Type 0} (o : Option A) (f : A → Option B) (y : B) → and_then o f ≡ Some y → From o f y
from None f y e = absurd (cc)
from (Some x) f y e = (x, refl, e)

mapped : {A B : Type 0} (o : Option A) (f : A → B) (y : B) → option_map f o ≡ Some y → (x : A) × (o ≡ Some x) × (f x ≡ y)
mapped None f y e = absurd (cc)
mapped (Some x) f y e = (x, refl, same_Some (f x) y e)

tested : {A : Type 0} (t : Bool) (o : Option A) (y : A) → cond t o None ≡ Some y → (t ≡ true) × (o ≡ Some y)
tested true o y e = (refl, e)
tested false o y e = absurd (cc)

below_spelled : (end : ℕ) (o : Option ℕ) (n : ℕ) → below end o ≡ Some n → (n < end) × (o ≡ Some n)
below_spelled end None n e = absurd (cc)
below_spelled end (Some m) n e =
    let t = tested (ltb m end) (Some m) n e in
    let same = same_Some m n t.1 in
    (subst (λ (k : ℕ). k < end) same (ltb-true m end t.0), t.1)

pub queue_spelled : (g : Geometry) (word : List ℕ) (q : ℕ) → queue_in g word ≡ Some q → (q < queues_of g) × (word ≡ decimal q)
queue_spelled g word q e = (let t = below_spelled (queues_of g) (number_in word) q e in (t.0, (number_spelled word q t.1).1))

pub block_spelled : (g : Geometry) (word : List ℕ) (b : ℕ) → block_in g word ≡ Some b → (b < homes_of g) × (word ≡ decimal b)
block_spelled g word b e = (let t = below_spelled (homes_of g) (number_in word) b e in (t.0, (number_spelled word b t.1).1))

both_spelled : (block byte : Option ℕ) (s : ℕ × ℕ) → both block byte ≡ Some s → (block ≡ Some s.0) × (byte ≡ Some s.1)
both_spelled None byte s e = absurd (cc)
both_spelled (Some b) None s e = absurd (cc)
both_spelled (Some b) (Some v) s e = (let same = same_Some (b, v) s e in (ap (λ (t : ℕ × ℕ). Some t.0) same, ap (λ (t : ℕ × ℕ). Some t.1) same))

ended_spelled : (block : Option ℕ) (text : List ℕ) (s : ℕ × ℕ) → ended_by block text ≡ Some s → (block ≡ Some s.0) × (s.1 < 256) × (text ≡ 61 ∷ hex_text s.1)
ended_spelled block [] s e = absurd (cc)
ended_spelled block (a ∷ []) s e = absurd (cc)
ended_spelled block (a ∷ b ∷ []) s e = absurd (cc)
ended_spelled block (a ∷ b ∷ c ∷ []) s e =
    let t = tested (eqb a 61) (both block (byte_in b c)) s e in
    let p = both_spelled block (byte_in b c) s t.1 in
    let v = byte_read b c s.1 p.1 in
    (p.0, v.0, ap (λ (n : ℕ). n ∷ b ∷ c ∷ []) (eqb-true a 61 t.0) ∙ ap (λ (l : List ℕ). 61 ∷ l) v.1)
ended_spelled block (a ∷ b ∷ c ∷ x ∷ text) s e = absurd (cc)

set_spelled : (g : Geometry) (word : List ℕ) (s : ℕ × ℕ) → set_in g word ≡ Some s → (s.0 < homes_of g) × (s.1 < 256) × (word ≡ set_text s.0 s.1)
set_spelled g word s e =
    let front = take (length word - 3) word in
    let t = ended_spelled (block_in g front) (drop (length word - 3) word) s e in
    let b = block_spelled g front s.0 t.0 in
    (b.0, t.1, sym (take-append-drop (length word - 3) word) ∙ ap (λ (l : List ℕ). l ++ drop (length word - 3) word) b.1 ∙ ap (λ (l : List ℕ). decimal s.0 ++ l) t.2)

pub content_spelled : (g : Geometry) (word : List ℕ) (s : ℕ × List ℕ) → content_in g word ≡ Some s → (s.0 < homes_of g) × IsFilled s.1 × (word ≡ set_word s)
content_spelled g word s e =
    let t = mapped (set_in g word) (λ (p : ℕ × ℕ). (p.0, replicate 4096 p.1)) s e in
    let p = set_spelled g word t.0 t.1 in
    subst (λ (u : ℕ × List ℕ). (u.0 < homes_of g) × IsFilled u.1 × (word ≡ set_word u)) t.2 (p.0, (t.0.1, p.1, refl), p.2)

-- ---- lists

pub rising_spelled : {A : Type 0} (key : A → ℕ) (read : List ℕ → Option A) (text : A → List ℕ) (Good : A → Type 0) (end low : ℕ) (words : List (List ℕ)) (xs : List A) → ((w : List ℕ) (x : A) → read w ≡ Some x → (key x < end) × Good x × (w ≡ text x)) → rising_in key read low words ≡ Some xs
    → AreRising low end (map key xs) × AllByRecursion Good xs × (words ≡ map text xs)
rising_spelled {A} key read text Good end low [] xs each e = subst (λ (l : List A). AreRising low end (map key l) × AllByRecursion Good l × ([] ≡ map text l)) (same_Some [] xs e) (tt, tt, refl)
rising_spelled {A} key read text Good end low (w ∷ ws) xs each e =
    let a = from (read w) (λ x. cond (leb low (key x)) (option_map (λ ys. x ∷ ys) (rising_in key read (key x + 1) ws)) None) xs e in
    let t = tested (leb low (key a.0)) (option_map (λ ys. a.0 ∷ ys) (rising_in key read (key a.0 + 1) ws)) xs a.2 in
    let m = mapped (rising_in key read (key a.0 + 1) ws) (λ ys. a.0 ∷ ys) xs t.1 in
    let here = each w a.0 a.1 in
    let rest = rising_spelled key read text Good end (key a.0 + 1) ws m.0 each m.1 in
    subst (λ (l : List A). AreRising low end (map key l) × AllByRecursion Good l × (w ∷ ws ≡ map text l)) m.2
    ((leb-true low (key a.0) t.0, here.0, rest.0), (here.1, rest.1), (λ i. here.2 i ∷ rest.2 i))

pub sets_spelled : (g : Geometry) (words : List (List ℕ)) (sets : List (ℕ × List ℕ)) → sets_in g 0 words ≡ Some sets → AreSets 0 (homes_of g) sets × (words ≡ map set_word sets)
sets_spelled g words sets e =
    let t = rising_spelled (λ (s : ℕ × List ℕ). s.0) (content_in g) set_word (λ (s : ℕ × List ℕ). IsFilled s.1) (homes_of g) 0 words sets (content_spelled g) e in
    ((t.0, t.1), t.2)

map_same : (xs : List ℕ) → map (λ (x : ℕ). x) xs ≡ xs
map_same [] = refl
map_same (x ∷ xs) = ap (λ (l : List ℕ). x ∷ l) (map_same xs)

pub blocks_spelled : (g : Geometry) (words : List (List ℕ)) (blocks : List ℕ) → blocks_in g 0 words ≡ Some blocks → AreRising 0 (homes_of g) blocks × (words ≡ map decimal blocks)
blocks_spelled g words blocks e =
    let t = rising_spelled (λ (b : ℕ). b) (block_in g) decimal (λ (b : ℕ). Unit {0}) (homes_of g) 0 words blocks (λ w b is. (let p = block_spelled g w b is in (p.0, tt, p.1))) e in
    (subst (AreRising 0 (homes_of g)) (map_same blocks) t.0, t.2)

-- ---- words between

pub headed_spelled : (word : List ℕ) (words rest : List (List ℕ)) → headed word words ≡ Some rest → words ≡ word ∷ rest
headed_spelled word [] rest e = absurd (cc)
headed_spelled word (w ∷ ws) rest e =
    let t = tested (bytes_eq w word) (Some ws) rest e in
    (λ i. (bytes_eq-Decides w word).0 t.0 i ∷ same_Some ws rest t.1 i)

pub cut_spelled : (word : List ℕ) (words : List (List ℕ)) (parts : List (List ℕ) × List (List ℕ)) → cut_by word words ≡ Some parts → words ≡ parts.0 ++ word ∷ parts.1
cut_spelled word [] parts e = absurd (cc)
cut_spelled word (w ∷ ws) parts e = step (λ more is. cut_spelled word ws more is) (bytes_eq w word) refl e
  where
    step : ((more : List (List ℕ) × List (List ℕ)) → cut_by word ws ≡ Some more → ws ≡ more.0 ++ word ∷ more.1) → (t : Bool) → bytes_eq w word ≡ t → cond t (Some ([], ws)) (option_map (λ (ps : List (List ℕ) × List (List ℕ)). (w ∷ ps.0, ps.1)) (cut_by word ws)) ≡ Some parts → w ∷ ws ≡ parts.0 ++ word ∷ parts.1
    step again true is p =
        let same = same_Some ([], ws) parts p in
        ap (λ (v : List ℕ). v ∷ ws) ((bytes_eq-Decides w word).0 is) ∙ ap (λ (ps : List (List ℕ) × List (List ℕ)). ps.0 ++ word ∷ ps.1) same
    step again false is p =
        let m = mapped (cut_by word ws) (λ (ps : List (List ℕ) × List (List ℕ)). (w ∷ ps.0, ps.1)) parts p in
        ap (λ (l : List (List ℕ)). w ∷ l) (again m.0 m.1) ∙ ap (λ (ps : List (List ℕ) × List (List ℕ)). ps.0 ++ word ∷ ps.1) m.2

one_spelled : (words : List (List ℕ)) (w : List ℕ) → one_of words ≡ Some w → words ≡ w ∷ []
one_spelled [] w e = absurd (cc)
one_spelled (x ∷ []) w e = ap (λ (v : List ℕ). v ∷ []) (same_Some x w e)
one_spelled (x ∷ y ∷ words) w e = absurd (cc)

two_spelled : (words : List (List ℕ)) (p : List ℕ × List ℕ) → two_of words ≡ Some p → words ≡ p.0 ∷ p.1 ∷ []
two_spelled [] p e = absurd (cc)
two_spelled (x ∷ []) p e = absurd (cc)
two_spelled (x ∷ y ∷ []) p e = ap (λ (q : List ℕ × List ℕ). q.0 ∷ q.1 ∷ []) (same_Some (x, y) p e)
two_spelled (x ∷ y ∷ z ∷ words) p e = absurd (cc)

queue_args : (g : Geometry) (words : List (List ℕ)) (q : ℕ) → a_queue g words ≡ Some q → (q < queues_of g) × (words ≡ decimal q ∷ [])
queue_args g words q e =
    let a = from (one_of words) (λ w. queue_in g w) q e in
    let b = queue_spelled g a.0 q a.2 in
    (b.0, one_spelled words a.0 a.1 ∙ ap (λ (w : List ℕ). w ∷ []) b.1)

block_args : (g : Geometry) (words : List (List ℕ)) (b : ℕ) → a_block g words ≡ Some b → (b < homes_of g) × (words ≡ decimal b ∷ [])
block_args g words b e =
    let a = from (one_of words) (λ w. block_in g w) b e in
    let p = block_spelled g a.0 b a.2 in
    (p.0, one_spelled words a.0 a.1 ∙ ap (λ (w : List ℕ). w ∷ []) p.1)

number_args : (words : List (List ℕ)) (n : ℕ) → a_number words ≡ Some n → (n < 2 ^ 64) × (words ≡ decimal n ∷ [])
number_args words n e =
    let a = from (one_of words) (λ w. number_in w) n e in
    let p = number_spelled a.0 n a.2 in
    (p.0, one_spelled words a.0 a.1 ∙ ap (λ (w : List ℕ). w ∷ []) p.1)

pair_args : (g : Geometry) (words : List (List ℕ)) (x : ℕ × ℕ) → a_queue_and_a_number g words ≡ Some x → (x.0 < queues_of g) × (x.1 < 2 ^ 64) × (words ≡ decimal x.0 ∷ decimal x.1 ∷ [])
pair_args g words x e =
    let a = from (two_of words) (λ w. and_then (queue_in g w.0) (λ q. and_then (number_in w.1) (λ n. Some (q, n)))) x e in
    let b = from (queue_in g a.0.0) (λ q. and_then (number_in a.0.1) (λ n. Some (q, n))) x a.2 in
    let c = from (number_in a.0.1) (λ n. Some (b.0, n)) x b.2 in
    let q = queue_spelled g a.0.0 b.0 b.1 in
    let n = number_spelled a.0.1 c.0 c.1 in
    subst (λ (y : ℕ × ℕ). (y.0 < queues_of g) × (y.1 < 2 ^ 64) × (words ≡ decimal y.0 ∷ decimal y.1 ∷ [])) (same_Some (b.0, c.0) x c.2)
    (q.0, n.0, two_spelled words a.0 a.1 ∙ (λ i. q.1 i ∷ n.1 i ∷ []))

-- ---- draws

abbrev Lists : Type 0
Lists = List (List ℕ) × List (List ℕ) × List (List ℕ) × List (List ℕ)

abbrev joined : Lists → List (List ℕ)
joined l = codes "logged" ∷ (l.0 ++ codes "direct" ∷ (l.1 ++ codes "revoked" ∷ (l.2 ++ codes "freed" ∷ l.3)))

lists_spelled : (words : List (List ℕ)) (l : Lists) → lists_of words ≡ Some l → words ≡ joined l
lists_spelled words l e =
    let a = from (headed (codes "logged") words) (λ a. and_then (cut_by (codes "direct") a) (λ b. and_then (cut_by (codes "revoked") b.1) (λ c. and_then (cut_by (codes "freed") c.1) (λ d. Some (b.0, c.0, d.0, d.1))))) l e in
    let b = from (cut_by (codes "direct") a.0) (λ b. and_then (cut_by (codes "revoked") b.1) (λ c. and_then (cut_by (codes "freed") c.1) (λ d. Some (b.0, c.0, d.0, d.1)))) l a.2 in
    let c = from (cut_by (codes "revoked") b.0.1) (λ c. and_then (cut_by (codes "freed") c.1) (λ d. Some (b.0.0, c.0, d.0, d.1))) l b.2 in
    let d = from (cut_by (codes "freed") c.0.1) (λ d. Some (b.0.0, c.0.0, d.0, d.1)) l c.2 in
    headed_spelled (codes "logged") words a.0 a.1
    ∙ ap (λ (r : List (List ℕ)). codes "logged" ∷ r) (cut_spelled (codes "direct") a.0 b.0 b.1)
    ∙ ap (λ (r : List (List ℕ)). codes "logged" ∷ (b.0.0 ++ codes "direct" ∷ r)) (cut_spelled (codes "revoked") b.0.1 c.0 c.1)
    ∙ ap (λ (r : List (List ℕ)). codes "logged" ∷ (b.0.0 ++ codes "direct" ∷ (c.0.0 ++ codes "revoked" ∷ r))) (cut_spelled (codes "freed") c.0.1 d.0 d.1)
    ∙ ap joined (same_Some (b.0.0, c.0.0, d.0.0, d.0.1) l d.2)

abbrev drawn : (number queue : ℕ) (logged direct : List (ℕ × List ℕ)) (revoked freed : List ℕ) → Tx
drawn number queue logged direct revoked freed = record { number = number; queue = queue; logged = logged; direct = direct; revoked = revoked; freed = freed }

tx_spelled : (g : Geometry) (number queue : ℕ) (words : List (List ℕ)) (t : Tx) → queue < queues_of g → tx_in g number queue words ≡ Some t → IsDraw g number t × (t.queue ≡ queue) × (words ≡ list_words t)
tx_spelled g number queue words t low e =
    let l = from (lists_of words) (λ l. and_then (sets_in g 0 l.0) (λ logged. and_then (sets_in g 0 l.1) (λ direct. and_then (blocks_in g 0 l.2) (λ revoked. and_then (blocks_in g 0 l.3) (λ freed. Some (drawn number queue logged direct revoked freed)))))) t e in
    let a = from (sets_in g 0 l.0.0) (λ logged. and_then (sets_in g 0 l.0.1) (λ direct. and_then (blocks_in g 0 l.0.2) (λ revoked. and_then (blocks_in g 0 l.0.3) (λ freed. Some (drawn number queue logged direct revoked freed))))) t l.2 in
    let b = from (sets_in g 0 l.0.1) (λ direct. and_then (blocks_in g 0 l.0.2) (λ revoked. and_then (blocks_in g 0 l.0.3) (λ freed. Some (drawn number queue a.0 direct revoked freed)))) t a.2 in
    let c = from (blocks_in g 0 l.0.2) (λ revoked. and_then (blocks_in g 0 l.0.3) (λ freed. Some (drawn number queue a.0 b.0 revoked freed))) t b.2 in
    let d = from (blocks_in g 0 l.0.3) (λ freed. Some (drawn number queue a.0 b.0 c.0 freed)) t c.2 in
    let logged = sets_spelled g l.0.0 a.0 a.1 in
    let direct = sets_spelled g l.0.1 b.0 b.1 in
    let revoked = blocks_spelled g l.0.2 c.0 c.1 in
    let freed = blocks_spelled g l.0.3 d.0 d.1 in
    subst (λ (u : Tx). IsDraw g number u × (u.queue ≡ queue) × (words ≡ list_words u)) (same_Some (drawn number queue a.0 b.0 c.0 d.0) t d.2) (
      record { number_is = refl; queue = low; logged = logged.0; direct = direct.0; revoked = revoked.0; freed = freed.0 },
      refl,
      lists_spelled words l.0 l.1 ∙ (λ i. joined (logged.1 i, direct.1 i, revoked.1 i, freed.1 i)),
    )

draw_spelled : (g : Geometry) (number : ℕ) (words : List (List ℕ)) (t : Tx) → draw_in g number words ≡ Some t → IsDraw g number t × (words ≡ decimal t.queue ∷ list_words t)
draw_spelled g number [] t e = absurd (cc)
draw_spelled g number (w ∷ words) t e =
    let a = from (queue_in g w) (λ q. tx_in g number q words) t e in
    let q = queue_spelled g w a.0 a.1 in
    let u = tx_spelled g number a.0 words t q.0 a.2 in
    (u.0, (λ i. (q.1 ∙ ap decimal (sym u.1)) i ∷ u.2 i))

-- ---- events

-- the words after the verb are the event's
abbrev SpelledAs : Geometry → ℕ → List (List ℕ) → Event → Type 0
SpelledAs g number words e = IsEvent g number e × (words ≡ event_words e)

queued : (g : Geometry) (number : ℕ) (verb : List ℕ) (make : ℕ → Event) (words : List (List ℕ)) (e : Event) → ((q : ℕ) → q < queues_of g → IsEvent g number (make q)) → ((q : ℕ) → event_words (make q) ≡ verb ∷ decimal q ∷ []) → option_map make (a_queue g words) ≡ Some e → SpelledAs g number (verb ∷ words) e
queued g number verb make words e good text is =
    let m = mapped (a_queue g words) make e is in
    let a = queue_args g words m.0 m.1 in
    subst (SpelledAs g number (verb ∷ words)) m.2 (good m.0 a.0, ap (λ (l : List (List ℕ)). verb ∷ l) a.1 ∙ sym (text m.0))

blocked : (g : Geometry) (number : ℕ) (verb : List ℕ) (make : ℕ → Event) (words : List (List ℕ)) (e : Event) → ((b : ℕ) → b < homes_of g → IsEvent g number (make b)) → ((b : ℕ) → event_words (make b) ≡ verb ∷ decimal b ∷ []) → option_map make (a_block g words) ≡ Some e → SpelledAs g number (verb ∷ words) e
blocked g number verb make words e good text is =
    let m = mapped (a_block g words) make e is in
    let a = block_args g words m.0 m.1 in
    subst (SpelledAs g number (verb ∷ words)) m.2 (good m.0 a.0, ap (λ (l : List (List ℕ)). verb ∷ l) a.1 ∙ sym (text m.0))

numbered : (g : Geometry) (number : ℕ) (verb : List ℕ) (make : ℕ → Event) (words : List (List ℕ)) (e : Event) → ((n : ℕ) → n < 2 ^ 64 → IsEvent g number (make n)) → ((n : ℕ) → event_words (make n) ≡ verb ∷ decimal n ∷ []) → option_map make (a_number words) ≡ Some e → SpelledAs g number (verb ∷ words) e
numbered g number verb make words e good text is =
    let m = mapped (a_number words) make e is in
    let a = number_args words m.0 m.1 in
    subst (SpelledAs g number (verb ∷ words)) m.2 (good m.0 a.0, ap (λ (l : List (List ℕ)). verb ∷ l) a.1 ∙ sym (text m.0))

paired : (g : Geometry) (number : ℕ) (verb : List ℕ) (make : ℕ × ℕ → Event) (words : List (List ℕ)) (e : Event) → ((x : ℕ × ℕ) → x.0 < queues_of g → x.1 < 2 ^ 64 → IsEvent g number (make x)) → ((x : ℕ × ℕ) → event_words (make x) ≡ verb ∷ decimal x.0 ∷ decimal x.1 ∷ []) → option_map make (a_queue_and_a_number g words) ≡ Some e → SpelledAs g number (verb ∷ words) e
paired g number verb make words e good text is =
    let m = mapped (a_queue_and_a_number g words) make e is in
    let a = pair_args g words m.0 m.1 in
    subst (SpelledAs g number (verb ∷ words)) m.2 (good m.0 a.0 a.1, ap (λ (l : List (List ℕ)). verb ∷ l) a.2 ∙ sym (text m.0))

alone : (g : Geometry) (number : ℕ) (words : List (List ℕ)) (e : Event) → no_words words ≡ Some e → SpelledAs g number (codes "flushbase" ∷ words) e
alone g number [] e is = subst (SpelledAs g number (codes "flushbase" ∷ [])) (same_Some FlushBase e is) (tt, refl)
alone g number (w ∷ words) e is = absurd (cc)

args_spelled : (g : Geometry) (number : ℕ) (v : Verb) (words : List (List ℕ)) (e : Event) → event_of g number v words ≡ Some e → SpelledAs g number (verb_text v ∷ words) e
args_spelled g number by_draw words e is =
    let m = mapped (draw_in g number words) (λ t. Draw t) e is in
    let a = draw_spelled g number words m.0 m.1 in
    subst (SpelledAs g number (codes "draw" ∷ words)) m.2 (a.0, ap (λ (l : List (List ℕ)). codes "draw" ∷ l) a.1)
args_spelled g number by_stage words e is = queued g number (codes "stage") (λ q. Stage q) words e (λ q low. low) (λ q. refl) is
args_spelled g number by_flush words e is = queued g number (codes "flush") (λ q. Flush q) words e (λ q low. low) (λ q. refl) is
args_spelled g number by_ring words e is = queued g number (codes "ring") (λ q. Ring q) words e (λ q low. low) (λ q. refl) is
args_spelled g number by_complete words e is = paired g number (codes "complete") (λ x. Complete x.0 x.1) words e (λ x low small. (low, small)) (λ x. refl) is
args_spelled g number by_failed words e is = paired g number (codes "failed") (λ x. FailCommand x.0 x.1) words e (λ x low small. (low, small)) (λ x. refl) is
args_spelled g number by_store_head words e is = paired g number (codes "storehead") (λ x. StoreHead x.0 x.1) words e (λ x low small. (low, small)) (λ x. refl) is
args_spelled g number by_flush_head words e is = queued g number (codes "flushhead") (λ q. FlushHead q) words e (λ q low. low) (λ q. refl) is
args_spelled g number by_clear words e is = paired g number (codes "clear") (λ x. Clear x.0 x.1) words e (λ x low small. (low, small)) (λ x. refl) is
args_spelled g number by_ack words e is = numbered g number (codes "ack") (λ n. Acknowledge n) words e (λ n small. small) (λ n. refl) is
args_spelled g number by_home words e is = blocked g number (codes "home") (λ b. WriteHome b) words e (λ b low. low) (λ b. refl) is
args_spelled g number by_home_done words e is = blocked g number (codes "homedone") (λ b. HomeDone b) words e (λ b low. low) (λ b. refl) is
args_spelled g number by_store_base words e is = numbered g number (codes "storebase") (λ n. StoreBase n) words e (λ n small. small) (λ n. refl) is
args_spelled g number by_flush_base words e is = alone g number words e is

verb_event_spelled : (g : Geometry) (number : ℕ) (w : List ℕ) (words : List (List ℕ)) (o : Option Verb) (e : Event) → verb_in w ≡ o → verb_event g number o words ≡ Some e → SpelledAs g number (w ∷ words) e
verb_event_spelled g number w words None e is p = absurd (cc)
verb_event_spelled g number w words (Some v) e is p = subst (λ (x : List ℕ). SpelledAs g number (x ∷ words) e) (sym (word_found verb_text w verbs v is)) (args_spelled g number v words e p)

pub event_spelled : (g : Geometry) (number : ℕ) (words : List (List ℕ)) (e : Event) → event_in_words g number words ≡ Some e → IsEvent g number e × (words ≡ event_words e)
event_spelled g number [] e is = absurd (cc)
event_spelled g number (w ∷ words) e is = verb_event_spelled g number w words (verb_in w) e refl is
