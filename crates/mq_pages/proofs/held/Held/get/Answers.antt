use Rattle.std.proofs.Common.{◌∙◌, ◌≡◌, ◌≢◌, ℕ, Some, get_or, ap, sym, subst, rules}
use Rattle.std.specs.List.{All, Contains}
use Rattle.std.proofs.lemmas.List.Sorted.{answers_always}
use Rattle.mq_pages.specs.declared.page.PageCell.{PageCell}
use Rattle.mq_pages.specs.Held.{HeldCells, Cells, IsRising, cell_of}
use Rattle.mq_pages.proofs.HeldCells.{cell_of-none, search-found, search-among, search-none}
use Rattle.mq_pages.proofs.held.Held.get.Goals as goal

-- the slice that is searched has the cells of the held set
pub returns-in-Ok : goal.returns-in-Ok
returns-in-Ok c =
    let slice = c.deref.result.now in
    let searched : slice ≡ c.args.self.now.cells = c.deref.ensures.value ∙ ap (λ (h : HeldCells). h.cells) c.self.view_is in
    let rising : IsRising slice = rw c.deref.ensures.value c.self.invariant.rising in
    let read : c.index.result.now ≡ get_or slice c.in-Ok.at c.index.result.now = rw c.deref.ensures.value c.index.ensures in
    let ends = c.in-Ok.ensures.position (λ pair. pair.0) (answers_always _ _ _ (λ f a r g called. search rules)) in
    let found = search-found slice rising c.args.b c.in-Ok.at c.index.result.now c.in-Ok.ensures.bound ends in
    let among = search-among slice rising c.args.b c.in-Ok.at c.index.result.now c.in-Ok.ensures.bound ends in
    record {
      value = ap (λ (pair : ℕ × PageCell). Some pair.1) read ∙ sym found ∙ ap (λ (cells : Cells). cell_of cells c.args.b) searched;
      held = subst (λ (cells : Cells). Contains cells (c.args.b, c.index.result.now.1)) searched (subst (λ (pair : ℕ × PageCell). Contains slice (c.args.b, pair.1)) (sym read) among);
    }

pub returns-in-Err : goal.returns-in-Err
returns-in-Err c =
    let slice = c.deref.result.now in
    let searched : slice ≡ c.args.self.now.cells = c.deref.ensures.value ∙ ap (λ (h : HeldCells). h.cells) c.self.view_is in
    let rising : IsRising slice = rw c.deref.ensures.value c.self.invariant.rising in
    let ends = c.in-Err.ensures.position (λ pair. pair.0) (answers_always _ _ _ (λ f a r g called. search rules)) in
    let none = search-none slice rising c.args.b c.in-Err.field-0 ends in
    record {
      value = sym (cell_of-none slice c.args.b none) ∙ ap (λ (cells : Cells). cell_of cells c.args.b) searched;
      held = subst (All (λ pair. pair.0 ≢ c.args.b)) searched none;
    }
