-- Bytes that are written over those of a file, block after block.
use Rattle.std.proofs.Common.{get_or, drop, take, Bool, cond, ◌-◌, ◌≡◌, ◌≢◌, ℕ, ◌+◌, ◌*◌, ◌/◌, ◌<◌, ◌≤◌, inl, inr, List, length, refl, sym, ap, subst, ◌∙◌, arith}
use Rattle.std.specs.Prelude.{Some, max, min}
use Rattle.std.proofs.lemmas.Bool.{cases_eq, cases_lt, eq-eqb, ne_eqb}
use Rattle.mq_blocks.specs.Windows.{written}
use Rattle.mq_exec.specs.Overwrites.{AreApart, IsOverwritten, IsPartWritten, past_place, text_from, text_in}
use Rattle.mq_inodes.specs.Changes.{IsTextPut}
use Rattle.mq_inodes.specs.Edits.{IsKindPut}
use Rattle.mq_inodes.specs.Pages.{IsHeld, Pages, content, kinds_of, pages_of}
use Rattle.mq_inodes.specs.declared.working.Working.{Working}
use Rattle.mq_pages.specs.declared.page.Kind.TheVariants.{Data}

pub over-none : (w : Working) (blocks : List ℕ) (at : ℕ) (bytes : List ℕ) → IsOverwritten w w blocks at bytes (at / 4096)
over-none w blocks at bytes = record {
  parts = λ place l h. absurd (omega arith);
  kinds = λ place l h. absurd (omega arith);
  rest = λ b other. refl;
  kinds_rest = λ b other. refl;
}

-- a block that was not written yet is as it was
pub still-held : (old mid : Working) (blocks : List ℕ) (at place : ℕ) (bytes : List ℕ) → IsOverwritten old mid blocks at bytes place → at / 4096 ≤ place → place < length blocks → AreApart blocks → IsHeld (pages_of old) (get_or blocks place 0) → IsHeld (pages_of mid) (get_or blocks place 0)
still-held old mid blocks at place bytes h first inside apart held =
    let same : pages_of mid (get_or blocks place 0) ≡ pages_of old (get_or blocks place 0) = h.rest (get_or blocks place 0) (λ j l low e. let s = apart j place (omega arith) inside e in omega arith) in
    same ∙ held ∙ ap (λ o. Some (Some (content o))) (sym same)

part-still : (old mid new : Pages) (b at place : ℕ) (bytes : List ℕ) → new b ≡ mid b → IsPartWritten old mid b at bytes place → IsPartWritten old new b at bytes place
part-still old mid new b at place bytes same p = record {
  before = p.before;
  after = p.after;
  turns = record { was = p.turns.was; now = same ∙ p.turns.now; form = p.turns.form };
  is = p.is;
}

part-here : (old mid new : Pages) (b at place from : ℕ) (bytes text : List ℕ) → mid b ≡ old b → from ≡ text_from at place → text ≡ text_in at bytes place → IsTextPut mid new b from text → IsPartWritten old new b at bytes place
part-here old mid new b at place from bytes text same e t put = record {
  before = put.before;
  after = put.after;
  turns = record { was = sym same ∙ put.was; now = put.put.here; form = put.form };
  is = put.is ∙ ap (λ (k : ℕ). written put.before k text) e ∙ ap (λ (xs : List ℕ). written put.before (text_from at place) xs) t;
}

pub over-more : (old mid new : Working) (blocks : List ℕ) (at place from : ℕ) (bytes text : List ℕ) → IsOverwritten old mid blocks at bytes place → at / 4096 ≤ place → place < length blocks → AreApart blocks
    → from ≡ text_from at place → text ≡ text_in at bytes place → IsTextPut (pages_of mid) (pages_of new) (get_or blocks place 0) from text → IsKindPut mid new (get_or blocks place 0) (Some Data) → IsOverwritten old new blocks at bytes (place + 1)
over-more old mid new blocks at place from bytes text h first inside apart e t put kind = record {
  parts = λ j l low. elim (cases_lt j place) [
    | inl before ↦ part-still (pages_of old) (pages_of mid) (pages_of new) (get_or blocks j 0) at j bytes (put.put.others (get_or blocks j 0) (away j before)) (h.parts j l before)
    | inr here ↦
        let same : place ≡ j = omega arith in
        subst (λ k. IsPartWritten (pages_of old) (pages_of new) (get_or blocks k 0) at bytes k) same
        (part-here (pages_of old) (pages_of mid) (pages_of new) (get_or blocks place 0) at place from bytes text (h.rest (get_or blocks place 0) (λ k m less s. away k less s)) e t put)
  ];
  kinds = λ j l low. elim (cases_lt j place) [
    | inl before ↦ kind.others (get_or blocks j 0) (away j before) ∙ h.kinds j l before
    | inr here ↦ let same : place ≡ j = omega arith in subst (λ k. kinds_of new (get_or blocks k 0) ≡ Some Data) same kind.here
  ];
  rest = λ b other. put.put.others b (λ s. other place first (omega arith) (sym s)) ∙ h.rest b (λ j l low. other j l (omega arith));
  kinds_rest = λ b other. kind.others b (λ s. other place first (omega arith) (sym s)) ∙ h.kinds_rest b (λ j l low. other j l (omega arith));
}
  where
    away : (j : ℕ) → j < place → get_or blocks j 0 ≢ get_or blocks place 0
    away j before s = let m = apart j place (omega arith) inside s in omega arith

pub past-first : (at count : ℕ) → at / 4096 ≤ past_place at count
past-first at count = elim (cases_eq count 0) [
  | inl e ↦ subst (λ p. at / 4096 ≤ p) (sym (ap (λ (t : Bool). cond t (at / 4096) ((at + count + 4095) / 4096)) (eq-eqb count 0 e))) (omega arith)
  | inr n ↦ subst (λ p. at / 4096 ≤ p) (sym (ap (λ (t : Bool). cond t (at / 4096) ((at + count + 4095) / 4096)) (ne_eqb count 0 n))) (omega arith)
]

-- the slice of the bytes that is written at a place
pub text-slice : (at place from to : ℕ) (bytes : List ℕ) → from ≡ max at (4096 * place) → to ≡ min (at + length bytes) (4096 * place + 4096) → take (to - at - (from - at)) (drop (from - at) bytes) ≡ text_in at bytes place
text-slice at place from to bytes e f =
    let n : to - at - (from - at) ≡ to - from = omega arith in
    ap (λ (k : ℕ). take k (drop (from - at) bytes)) n ∙ ap (λ (k : ℕ). take (to - k) (drop (k - at) bytes)) e ∙ ap (λ (k : ℕ). take (k - max at (4096 * place)) (drop (max at (4096 * place) - at) bytes)) f
