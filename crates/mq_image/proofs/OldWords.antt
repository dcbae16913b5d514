-- The words of queues in a file of version 1.
use Rattle.std.proofs.Common.{get_or, ◌≡◌, ◌≢◌, ◌<◌, ℕ, zero, suc, inl, inr, add-zero, ◌+◌, ◌*◌, List, [], ◌∷◌, ◌++◌, length, Bool, true, refl, sym, ap, subst, ◌∙◌, arith}
use Rattle.std.specs.Prelude.{None, Some}
use Rattle.std.specs.Int.{to_le_bytes, w64}
use Rattle.std.specs.List.{All, flat_map}
use Rattle.std.proofs.lemmas.Bool.{and_from, and_parts, cases_Bool, le-leb, leb-true, ne_eqb}
use Rattle.std.proofs.lemmas.List.Elements.{All-head, All-tail}
use Rattle.mq_blocks.specs.Drive.{PortImage}
use Rattle.mq_blocks.specs.Windows.{Shows, number_at}
use Rattle.mq_blocks.proofs.Windows.{number-shown, shows-left, shows-right}
use Rattle.mq_blocks.specs.declared.geometry.Geometry.{Geometry}
use Rattle.mq_nvme.specs.Dwords.{dword_bytes}
use Rattle.mq_image.specs.Drives.{HasWidths}
use Rattle.mq_image.specs.Faults.{are_old_words, doorbell_in, head_in, old_words_fault, queues_in, unless, words_fault}
use Rattle.mq_image.specs.File.{ring_bytes, ring_size, rings_end}
use Rattle.mq_image.specs.Old.{AreOldWords}
use Rattle.mq_image.specs.declared.fault.FileFault.{FileFault}
use Rattle.mq_image.specs.declared.fault.FileFault.TheVariants.{OldWords}
use Rattle.mq_image.proofs.FileWritten.{FileShown, PortsShown}
use Rattle.mq_image.proofs.Versions.{rings-are}

-- ---- one queue

pub words-old : (p : PortImage) → AreOldWords p → are_old_words p.head p.doorbell ≡ true
words-old p w = and_from _ _ (le-leb _ _ w.order) (and_from _ _ (le-leb _ _ w.few) (le-leb _ _ w.low))

pub old-words : (p : PortImage) → are_old_words p.head p.doorbell ≡ true → AreOldWords p
old-words p e =
    let a = and_parts _ _ e in
    let b = and_parts _ _ a.1 in
    record { order = leb-true _ _ a.0; few = leb-true _ _ b.0; low = leb-true _ _ b.1 }

-- ---- all queues

pub fault-none : (count queue : ℕ) (file : List ℕ) → ((k : ℕ) → k < count → are_old_words (head_in (queue + k) file) (doorbell_in (queue + k) file) ≡ true) → old_words_fault count queue file ≡ None
unfolding old_words_fault
fault-none zero queue file h = refl
fault-none (suc count) queue file h =
    let here : are_old_words (head_in queue file) (doorbell_in queue file) ≡ true = subst (λ (q : ℕ). are_old_words (head_in q file) (doorbell_in q file) ≡ true) (add-zero queue) (h zero (omega arith)) in
    rw here (fault-none count (queue + 1) file (λ k l. let e : queue + suc k ≡ queue + 1 + k = omega arith in subst (λ (q : ℕ). are_old_words (head_in q file) (doorbell_in q file) ≡ true) e (h (suc k) (omega arith))))

-- no queue is left
pub words-done : (queue : ℕ) (file : List ℕ) → old_words_fault 0 queue file ≡ None
unfolding old_words_fault
words-done queue file = refl

-- the words that were read
pub words-read : (queue at head doorbell : ℕ) (file : List ℕ) (passes : Bool) → at ≡ rings_end 1 queue → head ≡ number_at 8 (at + 8) file → doorbell ≡ number_at 8 at file → passes ≡ are_old_words head doorbell → passes ≡ are_old_words (head_in queue file) (doorbell_in queue file)
words-read queue at head doorbell file passes here h d is =
    is ∙ ap (λ (n : ℕ). are_old_words n doorbell) (h ∙ ap (λ (k : ℕ). number_at 8 (k + 8) file) here) ∙ ap (are_old_words (head_in queue file)) (d ∙ ap (λ (k : ℕ). number_at 8 k file) here)

-- one more queue was tested
pub words-step : (m n queue : ℕ) (file : List ℕ) (passes : Bool) → m ≡ n + 1 → passes ≡ are_old_words (head_in queue file) (doorbell_in queue file) → unless passes (OldWords queue) ≡ None → old_words_fault m queue file ≡ old_words_fault n (queue + 1) file
unfolding old_words_fault
words-step zero n queue file passes e is none = absurd (omega arith)
words-step (suc m) n queue file passes e is none = elim (cases_Bool passes) [
  | inr bad ↦ absurd (let f = rw bad at none in cc)
  | inl good ↦ rw (sym is ∙ good) (let k : m ≡ n = omega arith in ap (λ (j : ℕ). old_words_fault j (queue + 1) file) k)
]

-- and it is refused
pub words-stop : (m queue : ℕ) (file : List ℕ) (passes : Bool) (e : FileFault) → 0 < m → passes ≡ are_old_words (head_in queue file) (doorbell_in queue file) → unless passes (OldWords queue) ≡ Some e → old_words_fault m queue file ≡ Some e
unfolding old_words_fault
words-stop zero queue file passes e more is some = absurd (omega arith)
words-stop (suc m) queue file passes e more is some = elim (cases_Bool passes) [
  | inl good ↦ absurd (let f = rw good at some in cc)
  | inr bad ↦ rw (sym is ∙ bad) (rw bad at some)
]

first-good : (count queue : ℕ) (file : List ℕ) → old_words_fault (suc count) queue file ≡ None → (are_old_words (head_in queue file) (doorbell_in queue file) ≡ true) × (old_words_fault count (queue + 1) file ≡ None)
unfolding old_words_fault
first-good count queue file e = elim (cases_Bool (are_old_words (head_in queue file) (doorbell_in queue file))) [
  | inr bad ↦ absurd (let f = rw bad at e in cc)
  | inl good ↦ (good, rw good at e)
]

pub none-fault : (count queue : ℕ) (file : List ℕ) → old_words_fault count queue file ≡ None → (k : ℕ) → k < count → are_old_words (head_in (queue + k) file) (doorbell_in (queue + k) file) ≡ true
none-fault zero queue file e k l = absurd (omega arith)
none-fault (suc count) queue file e zero l = subst (λ (q : ℕ). are_old_words (head_in q file) (doorbell_in q file) ≡ true) (sym (add-zero queue)) (first-good count queue file e).0
none-fault (suc count) queue file e (suc k) l =
    let m : queue + 1 + k ≡ queue + suc k = omega arith in
    subst (λ (q : ℕ). are_old_words (head_in q file) (doorbell_in q file) ≡ true) m (none-fault count (queue + 1) file (first-good count queue file e).1 k (omega arith))

-- in another version there is none
pub words-new : (file : List ℕ) (v : ℕ) → v ≢ 1 → words_fault v file ≡ None
unfolding words_fault
words-new file v e = rw (ne_eqb v 1 e) refl

-- ---- the words in a file

-- a part among parts of one length
shows-part : {X : Type 0} (f : X → List ℕ) (n : ℕ) (file : List ℕ) (at : ℕ) (xs : List X) (d : X) → All (λ x. length (f x) ≡ n) xs → Shows file at (flat_map f xs) → (k : ℕ) → k < length xs → Shows file (at + n * k) (f (get_or xs k d))
shows-part f n file at [] d h s k l = absurd (omega arith)
shows-part f n file at (x ∷ xs) d h s zero l = let e : at ≡ at + n * 0 = omega arith in subst (λ (p : ℕ). Shows file p (f x)) e (shows-left file at (f x) (flat_map f xs) s)
shows-part f n file at (x ∷ xs) d h s (suc k) l =
    let a : length (f x) ≡ n = All-head (λ y. length (f y) ≡ n) x xs h in
    let e : at + n + n * k ≡ at + n * suc k = omega arith in
    subst (λ (p : ℕ). Shows file p (f (get_or xs k d))) e
    (shows-part f n file (at + n) xs d (All-tail (λ y. length (f y) ≡ n) x xs h) (shows-right file at (f x) (at + n) (flat_map f xs) s (omega arith)) k (omega arith))

ring-words : (file : List ℕ) (at : ℕ) (p : PortImage) → HasWidths p → Shows file at (ring_bytes p) → (number_at 8 at file ≡ p.doorbell) × (number_at 8 (at + 8) file ≡ p.head)
unfolding ring_bytes
ring-words file at p w s =
    let front : Shows file at (to_le_bytes w64 p.doorbell ++ to_le_bytes w64 p.head) = shows-left file at (to_le_bytes w64 p.doorbell ++ to_le_bytes w64 p.head) (flat_map dword_bytes p.slots) s in (
      number-shown file at 8 p.doorbell w.doorbell (shows-left file at (to_le_bytes w64 p.doorbell) (to_le_bytes w64 p.head) front),
      number-shown file (at + 8) 8 p.head w.head (shows-right file at (to_le_bytes w64 p.doorbell) (at + 8) (to_le_bytes w64 p.head) front refl),
    )

-- the words of a port are where version 1 has them
pub words-shown : (file : List ℕ) (g : Geometry) (queues : List PortImage) (root : PortImage) (d : PortImage) → PortsShown 1 g queues root → FileShown file 1 g queues root → (k : ℕ) → k < length queues
    → (doorbell_in k file ≡ (get_or queues k d).doorbell) × (head_in k file ≡ (get_or queues k d).head)
words-shown file g queues root d p f k l =
    let s = shows-part ring_bytes (ring_size 1) file 40 queues d p.rings f.rings k l in
    ring-words file (rings_end 1 k) (get_or queues k d) (p.each k d l).widths (subst (λ (at : ℕ). Shows file at (ring_bytes (get_or queues k d))) (sym (rings-are 1 k)) s)

pub words-none : (file : List ℕ) (g : Geometry) (queues : List PortImage) (root : PortImage) (d : PortImage) → PortsShown 1 g queues root → FileShown file 1 g queues root → All AreOldWords queues → words_fault 1 file ≡ None
unfolding words_fault
words-none file g queues root d p f h = fault-none (queues_in file) 0 file (λ k l.
    let n : length queues ≡ queues_in file = p.count ∙ f.header.geometry.queues in
    let low : k < length queues = omega arith in
    let s = words-shown file g queues root d p f k low in
    let z : 0 + k ≡ k = omega arith in
    ap (λ (q : ℕ). are_old_words (head_in q file) (doorbell_in q file)) z ∙ ap (λ (m : ℕ). are_old_words m (doorbell_in k file)) s.1 ∙ ap (are_old_words (get_or queues k d).head) s.0 ∙ words-old (get_or queues k d) (h k d low))

pub none-words : (file : List ℕ) (g : Geometry) (queues : List PortImage) (root : PortImage) → PortsShown 1 g queues root → FileShown file 1 g queues root → words_fault 1 file ≡ None → All AreOldWords queues
unfolding words_fault
none-words file g queues root p f e = λ k d l.
    let n : length queues ≡ queues_in file = p.count ∙ f.header.geometry.queues in
    let s = words-shown file g queues root d p f k l in
    let z : 0 + k ≡ k = omega arith in
    let t = none-fault (queues_in file) 0 file e k (omega arith) in
    old-words (get_or queues k d) (sym (ap (λ (q : ℕ). are_old_words (head_in q file) (doorbell_in q file)) z ∙ ap (λ (m : ℕ). are_old_words m (doorbell_in k file)) s.1 ∙ ap (are_old_words (get_or queues k d).head) s.0) ∙ t)
