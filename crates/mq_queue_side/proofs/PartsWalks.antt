-- A walk along rising blocks and pages.
use Rattle.std.proofs.Common.{◌≡◌, ◌≢◌, ℕ, zero, suc, ◌+◌, ◌<◌, true, false, List, [], ◌∷◌, length, drop, Some, None, refl, sym, ap, subst, ◌∙◌, inl, inr, arith, eqb}
use Rattle.std.specs.Prelude.{slice_get}
use Rattle.std.proofs.lemmas.Bool.{cases_Bool, eqb-true, eqb-false, false≢true, false_from_ne_true}
use Rattle.mq_blocks.specs.Descriptor.{AreRising}
use Rattle.mq_blocks.specs.Journal.{is_among}
use Rattle.mq_blocks.proofs.JournalAmong.{among-here, among-behind, among-low, among-rest}
use Rattle.mq_ledger.specs.History.{blocks_of}
use Rattle.mq_pages.specs.declared.page.ShadowPage.{ShadowPage}
use Rattle.mq_queue_side.specs.Parts.{writes_of, pages_in, pages_out, is_head, AreLeft}

abbrev pub blocks_at : List ShadowPage → List ℕ
blocks_at pages = blocks_of (writes_of pages)

-- a block that no page has makes no difference
same_in : (b : ℕ) (more : List ℕ) (ps : List ShadowPage) → ((x : ℕ) → is_among x (blocks_at ps) ≡ true → b ≢ x) → pages_in (b ∷ more) ps ≡ pages_in more ps
same_in b more [] other = refl
same_in b more (p ∷ ps) other =
    let rest = same_in b more ps (λ x among. other x (among-behind p.block x (blocks_at ps) among)) in
    let same : is_among p.block (b ∷ more) ≡ is_among p.block more = among-rest b p.block more (other p.block (among-here p.block (blocks_at ps))) in
    elim (cases_Bool (is_among p.block more)) [
      | inl y ↦ rw (same, y) (ap (λ (r : List ShadowPage). p ∷ r) rest)
      | inr n ↦ rw (same, n) rest
    ]

same_out : (b : ℕ) (more : List ℕ) (ps : List ShadowPage) → ((x : ℕ) → is_among x (blocks_at ps) ≡ true → b ≢ x) → pages_out (b ∷ more) ps ≡ pages_out more ps
same_out b more [] other = refl
same_out b more (p ∷ ps) other =
    let rest = same_out b more ps (λ x among. other x (among-behind p.block x (blocks_at ps) among)) in
    let same : is_among p.block (b ∷ more) ≡ is_among p.block more = among-rest b p.block more (other p.block (among-here p.block (blocks_at ps))) in
    elim (cases_Bool (is_among p.block more)) [
      | inl y ↦ rw (same, y) rest
      | inr n ↦ rw (same, n) (ap (λ (r : List ShadowPage). p ∷ r) rest)
    ]

-- ---- a page whose block comes next

module _ (b : ℕ) (more : List ℕ) (p : ShadowPage) (ps : List ShadowPage) (left : AreLeft (b ∷ more) (p ∷ ps)) (same : b ≡ p.block) where
  above : (x : ℕ) → is_among x (blocks_at ps) ≡ true → b ≢ x
  above x among e = (let up = among-low (p.block + 1) left.high (blocks_at ps) x left.pages_rising.2 among in omega (arith, up, same, e))

  pub next_left : AreLeft more ps
  next_left = record {
    low = p.block + 1;
    high = left.high;
    blocks_rising = subst (λ (n : ℕ). AreRising (n + 1) left.high more) same left.blocks_rising.2;
    pages_rising = left.pages_rising.2;
    within = λ x among.
        let up = among-low (b + 1) left.high more x left.blocks_rising.2 among in
        let other : p.block ≢ x = λ e. omega (arith, up, same, e) in
        sym (among-rest p.block x (blocks_at ps) other) ∙ left.within x (among-behind b x more among);
  }

  there : is_among p.block (b ∷ more) ≡ true
  there = subst (λ (n : ℕ). is_among n (b ∷ more) ≡ true) same (among-here b more)

  pub next_in : pages_in (b ∷ more) (p ∷ ps) ≡ p ∷ pages_in more ps
  next_in = rw there (ap (λ (r : List ShadowPage). p ∷ r) (same_in b more ps above))

  pub next_out : pages_out (b ∷ more) (p ∷ ps) ≡ pages_out more ps
  next_out = rw there (same_out b more ps above)

-- ---- a page whose block doesn't

module _ (blocks : List ℕ) (p : ShadowPage) (ps : List ShadowPage) (left : AreLeft blocks (p ∷ ps)) (other : is_head p.block blocks ≡ false) where
  rising_above : (bs : List ℕ) → is_head p.block bs ≡ false → AreRising left.low left.high bs → ((x : ℕ) → is_among x bs ≡ true → is_among x (p.block ∷ blocks_at ps) ≡ true) → AreRising (p.block + 1) left.high bs
  rising_above [] ne_head r within = tt
  rising_above (b ∷ bs) ne_head r within =
      let there = within b (among-here b bs) in
      let ne : p.block ≢ b = λ e. eqb-false b p.block ne_head (sym e) in
      let up = among-low (p.block + 1) left.high (blocks_at ps) b left.pages_rising.2 (sym (among-rest p.block b (blocks_at ps) ne) ∙ there) in
      (up, r.1, r.2)

  rest_rising : AreRising (p.block + 1) left.high blocks
  rest_rising = rising_above blocks other left.blocks_rising left.within

  pub other_left : AreLeft blocks ps
  other_left = record {
    low = p.block + 1;
    high = left.high;
    blocks_rising = rest_rising;
    pages_rising = left.pages_rising.2;
    within = λ x among.
        let up = among-low (p.block + 1) left.high blocks x rest_rising among in
        let ne : p.block ≢ x = λ e. omega (arith, up, e) in
        sym (among-rest p.block x (blocks_at ps) ne) ∙ left.within x among;
  }

  absent : is_among p.block blocks ≡ false
  absent = false_from_ne_true _ (λ among. let up = among-low (p.block + 1) left.high blocks p.block rest_rising among in omega (arith, up))

  pub other_in : pages_in blocks (p ∷ ps) ≡ pages_in blocks ps
  other_in = rw absent refl

  pub other_out : pages_out blocks (p ∷ ps) ≡ p ∷ pages_out blocks ps
  other_out = rw absent refl

-- ---- the place in the list

-- the list from a place on, by its head
pub record IsAtHead (block at : ℕ) (blocks : List ℕ) : Type 0 where
  pub b : ℕ
  pub more : List ℕ
  pub here : drop at blocks ≡ b ∷ more
  pub same : b ≡ block
  pub next : drop (at + 1) blocks ≡ more
  pub inside : at < length blocks

pub at_head : (block at : ℕ) (blocks : List ℕ) → is_head block (drop at blocks) ≡ true → IsAtHead block at blocks
at_head block zero [] found = absurd (false≢true found)
at_head block zero (b ∷ bs) found = record { b = b; more = bs; here = refl; same = eqb-true b block found; next = refl; inside = omega arith }
at_head block (suc at) [] found = absurd (false≢true found)
at_head block (suc at) (b ∷ bs) found =
    let r = at_head block at bs found in
    record { b = r.b; more = r.more; here = r.here; same = r.same; next = ap (λ (n : ℕ). drop n (b ∷ bs)) (let e : suc at + 1 ≡ suc (at + 1) = omega arith in e) ∙ r.next; inside = (let l = r.inside in omega (arith, l)) }

pub head_some : (block at next : ℕ) (blocks : List ℕ) → slice_get blocks at ≡ Some next → is_head block (drop at blocks) ≡ eqb next block
head_some block zero next [] is = absurd (let none : ⊥ = cc in none)
head_some block zero next (b ∷ bs) is = ap (λ (n : ℕ). eqb n block) (let e : b ≡ next = cc in e)
head_some block (suc at) next [] is = absurd (let none : ⊥ = cc in none)
head_some block (suc at) next (b ∷ bs) is = head_some block at next bs is

pub head_none : (block at : ℕ) (blocks : List ℕ) → slice_get blocks at ≡ None → is_head block (drop at blocks) ≡ false
head_none block zero [] is = refl
head_none block zero (b ∷ bs) is = absurd (let none : ⊥ = cc in none)
head_none block (suc at) [] is = refl
head_none block (suc at) (b ∷ bs) is = head_none block at bs is
