-- What a draw makes of the pages that a session holds.
use Rattle.std.proofs.Common.{◌≡◌, ◌≢◌, ℕ, zero, suc, ◌+◌, ◌<◌, Bool, true, false, List, [], ◌∷◌, length, is_some, refl, sym, ap, subst, ◌∙◌, inl, inr, arith, if◌then◌else◌}
use Rattle.std.specs.Prelude.{Option, Some, None}
use Rattle.std.specs.List.{All, AllZip, Contains}
use Rattle.std.proofs.lemmas.Bool.{cases_eq, true≢false}
use Rattle.mq_blocks.specs.Drive.{PortState}
use Rattle.mq_blocks.specs.Journal.{is_among}
use Rattle.mq_blocks.specs.Machine.{after, or_kept, write_of}
use Rattle.mq_drive.specs.Steps.{PortFault}
use Rattle.mq_drive.specs.declared.port.Port.{Ghosts}
use Rattle.mq_journal.specs.Numbers
use Rattle.mq_journal.specs.Numbers.{Draws, HoldsNumbered, Seat, Shared, Start}
use Rattle.mq_journal.proofs.LawsKeeping.{numbered_stays}
use Rattle.mq_journal.specs.Laws.{without_each}
use Rattle.mq_ledger.specs.History.{changes}
use Rattle.mq_ledger.specs.declared.tx.Tx.{Tx}
use Rattle.mq_ledger.proofs.History.{write_of-append}
use Rattle.mq_pages.specs.Held.{Cells}
use Rattle.mq_pages.specs.declared.page.PageCell.{PageCell}
use Rattle.mq_desk_laws.specs.Cells.{cell_after}
use Rattle.mq_desk_laws.specs.Groups.{GroupView}
use Rattle.mq_desk_laws.specs.Rule.{IsPage, numbered, touches}
use Rattle.mq_desk_laws.specs.Values.{Values}
use Rattle.mq_desk_laws.proofs.Cells.{page_drawn}
use Rattle.mq_desk_laws.proofs.Meaning.{laws}
use Rattle.mq_queue_side.specs.Commits.{NumberedCommit}
use Rattle.mq_queue_side.specs.declared.root.Root.{Root}
use Rattle.mq_queue_side.specs.declared.side.QueueSide.{QueueSide}
use Rattle.mq_turns.specs.Chairs.{giving}
use Rattle.mq_turns.specs.Desk.{slot_of, turn_at}
use Rattle.mq_turns.specs.Lists.{Each, tick, times, without}
use Rattle.mq_turns.specs.Meaning.{Meaning, drawn, newest}
use Rattle.mq_turns.specs.declared.turn.Item.TheVariants as item
use Rattle.mq_turns.specs.declared.turn.Turn.TheVariants.{Page, Side}
use Rattle.mq_turns.proofs.Lists.{each_map, miss, times_without, times_without_other}
use Rattle.mq_turns.proofs.DeskSeen.{stands_held, turn_seen}
use Rattle.mq_sessions.specs.Leaving.{cells_after}
use Rattle.mq_sessions.specs.Pages.{HoldsPage, HoldsPages, IsAfterStep, blocks_of, giving_pages}
use Rattle.mq_sessions.proofs.DrawnSettled.{page_by}
use Rattle.mq_sessions.proofs.PagesCounting.{times-contains}
use Rattle.mq_sessions.proofs.PagesHolding.{pages-after, pages-kept-all}
use Rattle.mq_sessions.proofs.PagesLists.{none-held, without_each-less}

-- ---- one cell

cell_after-by : (t : Tx) (b : ℕ) (c : PageCell) → cell_after t b c ≡ page_by t.number (write_of t.logged b) (write_of t.direct b) (is_among b t.freed) c
unfolding after
cell_after-by t b c =
    let both = write_of-append t.logged t.direct b in
    λ i. record {
      content = or_kept (both i) (if is_among b t.freed then None else c.content);
      version = if (if is_some (both i) then true else is_among b t.freed) then t.number else c.version;
      last_logged = if is_some (write_of t.logged b) then t.number else c.last_logged;
      home_version = if is_some (write_of t.direct b) then t.number else c.home_version;
    }

page_by-same : (n : ℕ) (logged direct : Option (List ℕ)) (freed : Bool) (c : PageCell) → (if is_some (or_kept logged direct) then true else freed) ≡ false → page_by n logged direct freed c ≡ c
page_by-same n (Some x) direct freed c e = absurd (true≢false e)
page_by-same n None (Some x) freed c e = absurd (true≢false e)
page_by-same n None None true c e = absurd (true≢false e)
page_by-same n None None false c e = refl

-- a transaction leaves the cell of a block that it doesn't change
pub cell-left : (t : Tx) (b : ℕ) (c : PageCell) → changes t b ≡ false → cell_after t b c ≡ c
cell-left t b c e =
    cell_after-by t b c
    ∙ page_by-same t.number (write_of t.logged b) (write_of t.direct b) (is_among b t.freed) c (ap (λ z. if is_some z then true else is_among b t.freed) (sym (write_of-append t.logged t.direct b)) ∙ e)

-- ---- cells

pub blocks-after : (t : Tx) (cells : Cells) → blocks_of (cells_after t cells) ≡ blocks_of cells
blocks-after t [] = refl
blocks-after t (x ∷ xs) = ap (λ (bs : List ℕ). x.0 ∷ bs) (blocks-after t xs)

all-blocks : (F : ℕ → Type 0) (cells : Cells) → Each (λ x. F x.0) cells → All F (blocks_of cells)
all-blocks F [] each k d l = absurd (omega arith)
all-blocks F (x ∷ xs) each zero d l = each.0
all-blocks F (x ∷ xs) each (suc k) d l = all-blocks F xs each.1 k d (omega arith)

-- ---- a draw

module _ {P E : Type 0} {G : Ghosts P} (state : P → PortState) (faults : P → List PortFault) (group : GroupView E) where
  abbrev V : Values (QueueSide P E G) (Root P G) E
  V = Numbers.values state faults group

  abbrev μ : Meaning PageCell (QueueSide P E G) (Root P G) E
  μ = Numbers.machine state faults group

  module _ (o : Start P E G) (q : ℕ) (e : E) (old new : Seat P E G) (s : QueueSide P E G) (n : NumberedCommit) (opening : old.opening ≡ Some o) (draws : Draws state faults group o q e old new s n) where
    abbrev t : Tx
    t = numbered n.number (group.tx e)

    abbrev K : Shared P E G
    K = draws.known

    abbrev about : ℕ → Bool
    about k = touches V group K.log e (turn_at K.opening k)

    -- what is held beside the side
    abbrev rest : Seat P E G
    rest = giving (slot_of o (Side q)) old

    page-drawn : (b : ℕ) (c : PageCell) → HoldsPage μ o rest b c → IsAfterStep μ about (drawn e K) (b, c) (b, cell_after t b c)
    page-drawn b c h =
        let page : IsPage V group b K c = stands_held {M = ℕ} μ (laws V group) o (Page b) rest (item.Page c) opening h.turn h.holds h.is K draws.sees in
        let is : about b ≡ changes (group.tx e) b = ap (touches V group K.log e) (turn_seen μ o K rest (Page b) opening draws.sees h.turn) in
        let number : newest K + 1 ≡ n.number = let d = draws.number in omega arith in
        record {
          block = refl;
          about_it = λ mine. subst (λ (m : ℕ). IsPage V group b (drawn e K) (cell_after (numbered m (group.tx e)) b c)) number (page_drawn V group b e K c draws.sees.ok page);
          about_others = λ off. cell-left t b c (sym is ∙ off);
        }

    each-drawn : (cells : Cells) → Each (λ x. HoldsPage μ o rest x.0 x.1) cells → AllZip (IsAfterStep μ about (drawn e K)) cells (cells_after t cells)
    each-drawn [] h = tt
    each-drawn (x ∷ xs) h = (page-drawn x.0 x.1 h.0, each-drawn xs h.1)

    pub drawn-held : (cells : Cells) → HoldsPages μ o cells old → HoldsPages μ o (cells_after t cells) new
    drawn-held cells h =
        let apart : Each (λ x. x.0 ≢ slot_of o (Side q)) cells = each_map (λ x. HoldsPage μ o old x.0 x.1) (λ x. x.0 ≢ slot_of o (Side q)) (λ x p same. let mine = p.turn in omega arith) cells h.each in
        let kept = pages-kept-all μ o cells old (slot_of o (Side q)) (all-blocks (λ b. b ≢ slot_of o (Side q)) cells apart) h in
        pages-after μ o cells (cells_after t cells) old new about (drawn e K) (each-drawn cells kept.each) draws.held h

  -- a side on which a number was drawn stays held while pages are given back
  pub numbered-left : (o : Start P E G) (q : ℕ) (s : QueueSide P E G) (n : NumberedCommit) (v : Seat P E G) (cells : Cells) → Each (λ x. x.0 < length o.pages) cells → HoldsNumbered state faults group o q s n v → HoldsNumbered state faults group o q s n (giving_pages (blocks_of cells) v)
  numbered-left o q s n v [] low h = record { turn = h.turn; holds = h.holds; has = h.has }
  numbered-left o q s n v (x ∷ xs) low h = numbered_stays state faults group s o q x.0 n (giving_pages (blocks_of xs) v) (λ same. let a = low.0 in omega arith) (numbered-left o q s n v xs low.1 h)

-- ---- nothing is left

module _ {A : Type 0} where
  gone-from : (ks : List ℕ) (k : ℕ) (l : List (ℕ × A)) → Contains ks k → times k (without_each ks l) ≡ 0
  gone-from [] k l (i, m, e) = absurd (omega arith)
  gone-from (j ∷ js) k l (zero, m, e) = subst (λ (n : ℕ). times n (without j (without_each js l)) ≡ 0) e (times_without j (without_each js l))
  gone-from (j ∷ js) k l (suc i, m, e) = elim (cases_eq k j) [
    | inl same ↦ subst (λ (n : ℕ). times n (without j (without_each js l)) ≡ 0) (sym same) (times_without j (without_each js l))
    | inr other ↦ times_without_other j k (without_each js l) other ∙ gone-from js k l (i, (let n = m in omega arith), e)
  ]

  -- where the pages and one slot more were held
  pub nothing-left : (cells : Cells) (slot : ℕ) (l : List (ℕ × A)) → ((k : ℕ) → times k l ≡ times k cells + tick slot k) → without slot (without_each (blocks_of cells) l) ≡ []
  nothing-left cells slot l is = none-held (without slot (without_each (blocks_of cells) l)) (λ k. elim (cases_eq k slot) [
    | inl same ↦ subst (λ (n : ℕ). times n (without slot (without_each (blocks_of cells) l)) ≡ 0) (sym same) (times_without slot (without_each (blocks_of cells) l))
    | inr other ↦ times_without_other slot k (without_each (blocks_of cells) l) other ∙ elim (cases_eq (times k cells) 0) [
      | inl none ↦
          let less = without_each-less (blocks_of cells) k l in
          let all = is k in
          let apart = miss slot k (λ e. other (sym e)) in
          omega arith
      | inr some ↦ gone-from (blocks_of cells) k l (times-contains k cells (omega arith))
    ]
  ])
