-- What a drawn group makes of the page of a block.
use Rattle.std.proofs.Common.{◌≡◌, ◌≢◌, ℕ, ◌+◌, ◌<◌, ◌≤◌, Bool, true, false, List, [], ◌∷◌, ◌++◌, is_some, refl, sym, ap, subst, ◌∙◌, inl, inr, arith, eqb, if◌then◌else◌}
use Rattle.std.specs.Prelude.{Option, Some, None}
use Rattle.std.specs.List.{Contains}
use Rattle.std.proofs.lemmas.Bool.{cases_Bool, cases_eq, eq-eqb, ne_eqb}
use Rattle.mq_blocks.specs.Descriptor.{AreRising}
use Rattle.mq_blocks.specs.Journal.{is_among}
use Rattle.mq_blocks.specs.Machine.{after, or_kept, write_of}
use Rattle.mq_sessions.specs.Drawn.{tx_by, PagesStayBelow, blocks_in, LeavesBelow, page_with}
use Rattle.mq_ledger.proofs.History.{write_of-append}
use Rattle.mq_pages.specs.declared.page.PageCell.{PageCell}
use Rattle.mq_pages.specs.declared.page.Write.{Write}
use Rattle.mq_revoke.specs.Placed.{Placed}
use Rattle.mq_desk_laws.specs.Cells.{cell_after}
use Rattle.mq_queue_side.specs.Commits.{written_in}
use Rattle.mq_sessions.proofs.Members.{cons-cases, cons-here, cons-there, none-contained}

-- ---- the last of the writes

last_low : (low high : ℕ) (ws : List Write) (w : Write) → AreRising low high (blocks_in (ws ++ w ∷ [])) → low ≤ w.block
last_low low high [] w r = r.0
last_low low high (x ∷ xs) w r = let a = last_low (x.block + 1) high xs w r.2 in let b = r.0 in omega arith

-- those before it are of lesser blocks
before_last : (low b : ℕ) (ws : List Write) (w : Write) → w.block ≡ b → AreRising low (b + 1) (blocks_in (ws ++ w ∷ [])) → AreRising low b (blocks_in ws)
before_last low b [] w own r = tt
before_last low b (x ∷ xs) w own r = (r.0, let a = last_low (x.block + 1) (b + 1) xs w r.2 in omega arith, before_last (x.block + 1) b xs w own r.2)

-- where the last isn't of the block, none is
none_last : (low b : ℕ) (ws : List Write) → ((vs : List Write) (w : Write) → ws ≡ vs ++ w ∷ [] → w.block ≢ b) → AreRising low (b + 1) (blocks_in ws) → AreRising low b (blocks_in ws)
none_last low b [] other r = tt
none_last low b (x ∷ []) other r = (r.0, elim (cases_eq x.block b) [ inl same ↦ absurd (other [] x refl same) | inr apart ↦ (let a = r.1 in omega arith) ], tt)
none_last low b (x ∷ y ∷ ys) other r =
    let rest = none_last (x.block + 1) b (y ∷ ys) (λ vs w e. other (x ∷ vs) w (ap (λ l. x ∷ l) e)) r.2 in
    (r.0, let a = rest.0 in let c = rest.1 in omega arith, rest)

pub left_some : (b : ℕ) (old new : List Write) (w : Write) → old ≡ new ++ w ∷ [] → w.block ≡ b → AreRising 0 (b + 1) (blocks_in old) → LeavesBelow b old new
left_some b old new w is own r = record {
  gone = w ∷ [];
  is = is;
  own = λ x c. elim (cons-cases w [] x c) [ inl here ↦ ap (λ (z : Write). z.block) (sym here) ∙ own | inr there ↦ absurd (none-contained x there) ];
  below = before_last 0 b new w own (subst (λ ws. AreRising 0 (b + 1) (blocks_in ws)) is r);
}

pub left_none : (b : ℕ) (old new : List Write) → new ≡ old → ((ws : List Write) (w : Write) → old ≡ ws ++ w ∷ [] → w.block ≢ b) → AreRising 0 (b + 1) (blocks_in old) → LeavesBelow b old new
left_none b old new same other r = record {
  gone = [];
  is = sym (append_none new ∙ same);
  own = λ x c. absurd (none-contained x c);
  below = subst (λ ws. AreRising 0 b (blocks_in ws)) (sym same) (none_last 0 b old other r);
}
  where
    append_none : (ws : List Write) → ws ++ [] ≡ ws
    append_none [] = refl
    append_none (x ∷ xs) = ap (λ l. x ∷ l) (append_none xs)

-- ---- what is written to a block

unwritten_below : (listed : List ℕ) (low b : ℕ) (ws : List Write) → AreRising low b (blocks_in ws) → write_of (written_in listed ws) b ≡ None
unwritten_below listed low b [] r = refl
unwritten_below listed low b (x ∷ xs) r =
    let rest = unwritten_below listed (x.block + 1) b xs r.2 in
    let apart : eqb x.block b ≡ false = ne_eqb x.block b (λ e. let a = r.1 in omega (arith, a, e)) in
    elim (cases_Bool (is_among x.block listed)) [
      | inl y ↦ rw (y, apart) rest
      | inr n ↦ rw n rest
    ]

written_last : (listed : List ℕ) (low b : ℕ) (ws : List Write) (w : Write) → AreRising low b (blocks_in ws) → w.block ≡ b → write_of (written_in listed (ws ++ w ∷ [])) b ≡ (if is_among b listed then Some w.content else None)
written_last listed low b [] w r own =
    subst (λ (z : ℕ). write_of (if is_among z listed then (z, w.content) ∷ [] else []) b ≡ (if is_among b listed then Some w.content else None)) (sym own)
    (elim (cases_Bool (is_among b listed)) [
      | inl y ↦ rw (y, eq-eqb b b refl) refl
      | inr n ↦ rw n refl
    ])
written_last listed low b (x ∷ xs) w r own =
    let rest = written_last listed (x.block + 1) b xs w r.2 own in
    let apart : eqb x.block b ≡ false = ne_eqb x.block b (λ e. let a = r.1 in omega (arith, a, e)) in
    elim (cases_Bool (is_among x.block listed)) [
      | inl y ↦ rw (y, apart) rest
      | inr n ↦ rw n rest
    ]

-- ---- the page

-- by what is logged, written directly and freed of it
abbrev pub page_by : ℕ → Option (List ℕ) → Option (List ℕ) → Bool → PageCell → PageCell
page_by n logged direct freed c = record {
  content = or_kept (or_kept logged direct) (if freed then None else c.content);
  version = if (if is_some (or_kept logged direct) then true else freed) then n else c.version;
  last_logged = if is_some logged then n else c.last_logged;
  home_version = if is_some direct then n else c.home_version;
}

after_is : (n queue b : ℕ) (plan : Placed) (ws : List Write) (frees : List ℕ) (c : PageCell) → cell_after (tx_by n queue plan ws frees) b c ≡ page_by n (write_of (written_in plan.logged ws) b) (write_of (written_in plan.direct ws) b) (is_among b frees) c
unfolding after
after_is n queue b plan ws frees c =
    let both = write_of-append (written_in plan.logged ws) (written_in plan.direct ws) b in
    λ i. record {
      content = or_kept (both i) (if is_among b frees then None else c.content);
      version = if (if is_some (both i) then true else is_among b frees) then n else c.version;
      last_logged = if is_some (write_of (written_in plan.logged ws) b) then n else c.last_logged;
      home_version = if is_some (write_of (written_in plan.direct ws) b) then n else c.home_version;
    }

with_some : (n : ℕ) (content : List ℕ) (logged direct freed : Bool) (c : PageCell) → page_with c n (Some content) logged direct freed ≡ page_by n (if logged then Some content else None) (if direct then Some content else None) freed c
with_some n content true true true c = refl
with_some n content true true false c = refl
with_some n content true false true c = refl
with_some n content true false false c = refl
with_some n content false true true c = refl
with_some n content false true false c = refl
with_some n content false false true c = refl
with_some n content false false false c = refl

with_none : (n : ℕ) (freed : Bool) (c : PageCell) → page_with c n None false false freed ≡ page_by n None None freed c
with_none n true c = refl
with_none n false c = refl

pub page_some : (n b : ℕ) (plan : Placed) (old new : List Write) (w : Write) (frees : List ℕ) (c : PageCell) → old ≡ new ++ w ∷ [] → w.block ≡ b → AreRising 0 (b + 1) (blocks_in old) → page_with c n (Some w.content) (is_among b plan.logged) (is_among b plan.direct) (is_among b frees) ≡ cell_after (tx_by n 0 plan old frees) b c
page_some n b plan old new w frees c is own r =
    let low = before_last 0 b new w own (subst (λ ws. AreRising 0 (b + 1) (blocks_in ws)) is r) in
    let logged = written_last plan.logged 0 b new w low own in
    let direct = written_last plan.direct 0 b new w low own in
    with_some n w.content (is_among b plan.logged) (is_among b plan.direct) (is_among b frees) c
    ∙ ((λ i. page_by n (sym logged i) (sym direct i) (is_among b frees) c)
    ∙ (sym (after_is n 0 b plan (new ++ w ∷ []) frees c) ∙ ap (λ ws. cell_after (tx_by n 0 plan ws frees) b c) (sym is)))

pub page_none : (n b : ℕ) (plan : Placed) (old : List Write) (frees : List ℕ) (c : PageCell) → ((ws : List Write) (w : Write) → old ≡ ws ++ w ∷ [] → w.block ≢ b) → AreRising 0 (b + 1) (blocks_in old) → page_with c n None false false (is_among b frees) ≡ cell_after (tx_by n 0 plan old frees) b c
page_none n b plan old frees c other r =
    let low = none_last 0 b old other r in
    with_none n (is_among b frees) c
    ∙ ((λ i. page_by n (sym (unwritten_below plan.logged 0 b old low) i) (sym (unwritten_below plan.direct 0 b old low) i) (is_among b frees) c)
    ∙ sym (after_is n 0 b plan old frees c))

-- ---- greater blocks

unwritten_above : (listed : List ℕ) (b : ℕ) (ws : List Write) → ((w : Write) → Contains ws w → b < w.block) → write_of (written_in listed ws) b ≡ None
unwritten_above listed b [] above = refl
unwritten_above listed b (x ∷ xs) above =
    let rest = unwritten_above listed b xs (λ w c. above w (cons-there x xs w c)) in
    let apart : eqb x.block b ≡ false = ne_eqb x.block b (λ e. let a = above x (cons-here x xs x refl) in omega (arith, a, e)) in
    elim (cases_Bool (is_among x.block listed)) [
      | inl y ↦ rw (y, apart) rest
      | inr n ↦ rw n rest
    ]

written_append : (listed : List ℕ) (xs ys : List Write) → written_in listed (xs ++ ys) ≡ written_in listed xs ++ written_in listed ys
written_append listed [] ys = refl
written_append listed (x ∷ xs) ys = elim (cases_Bool (is_among x.block listed)) [
  | inl y ↦ rw y (ap (λ l. (x.block, x.content) ∷ l) (written_append listed xs ys))
  | inr n ↦ rw n (written_append listed xs ys)
]

kept_none : (o : Option (List ℕ)) → or_kept o None ≡ o
kept_none None = refl
kept_none (Some x) = refl

below_same : (listed : List ℕ) (b : ℕ) (ws more : List Write) → ((w : Write) → Contains more w → b < w.block) → write_of (written_in listed (ws ++ more)) b ≡ write_of (written_in listed ws) b
below_same listed b ws more above =
    ap (λ l. write_of l b) (written_append listed ws more)
    ∙ (write_of-append (written_in listed ws) (written_in listed more) b
    ∙ (ap (or_kept (write_of (written_in listed ws) b)) (unwritten_above listed b more above) ∙ kept_none (write_of (written_in listed ws) b)))

pub stays_below : PagesStayBelow
stays_below n queue b plan ws more frees c above =
    after_is n queue b plan (ws ++ more) frees c
    ∙ ((λ i. page_by n (below_same plan.logged b ws more above i) (below_same plan.direct b ws more above i) (is_among b frees) c)
    ∙ sym (after_is n 0 b plan ws frees c))
