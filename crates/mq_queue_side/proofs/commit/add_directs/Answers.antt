use Rattle.std.proofs.Common.{◌≡◌, suc, ◌+◌, ◌++◌, true, List, [], ◌∷◌, length, reverse, sym, ap, subst, ◌∙◌, arith, length-append}
use Rattle.std.proofs.lemmas.List.{append_assoc, length-reverse}
use Rattle.mq_blocks.specs.Journal.{is_among}
use Rattle.mq_ledger.specs.History.{blocks_of}
use Rattle.mq_blocks.proofs.JournalAmong.{among-here, among-behind}
use Rattle.mq_blocks.specs.Copies.{directs_of}
use Rattle.mq_pages.specs.declared.page.ShadowPage.{ShadowPage}
use Rattle.mq_pmr.specs.Runs.{Items}
use Rattle.mq_queue_side.specs.Parts.{writes_of}
use Rattle.mq_queue_side.proofs.commit.add_directs.Goals as goal

pub home-requires : goal.home-requires
home-requires c =
    let page = c.take_first-page.result in
    let rest : List ShadowPage = reverse c.take_first-page.new.reversed.items in
    c.placing.invariant.home page.block (subst (λ (ps : List ShadowPage). is_among page.block (blocks_of (writes_of ps)) ≡ true) (sym c.take_first-page.ensures) (among-here page.block (blocks_of (writes_of rest))))

pub placing-preserved : goal.placing-preserved
placing-preserved c =
    let page = c.take_first-page.result in
    let rest : List ShadowPage = reverse c.take_first-page.new.reversed.items in
    let was : reverse c.placing.pages.items ≡ page ∷ rest = c.take_first-page.ensures in
    let inv = c.placing.invariant in
    let old : Items = c.placing.items.items in
    let tail : Items = directs_of c.args.geometry (writes_of rest) in
    let one : Items = (c.home.result, page.content) ∷ [] in
    let longer : length c.add.new.items.items ≡ length old + 1 = ap length c.add.ensures.items ∙ length-append old one in
    let fewer : length c.placing.pages.items ≡ suc (length c.take_first-page.new.reversed.items) = sym (length-reverse c.placing.pages.items) ∙ ap length was ∙ ap suc (length-reverse c.take_first-page.new.reversed.items) in
    let more = c.add.ensures.capacity in
    record {
      goes_on =
          (λ i. c.add.ensures.items i ++ tail) ∙ append_assoc old one tail ∙ (λ i. old ++ (c.home.ensures i, page.content) ∷ tail)
          ∙ sym (ap (λ (ps : List ShadowPage). old ++ directs_of c.args.geometry (writes_of ps)) was) ∙ inv.goes_on;
      room = omega (arith, inv.room, longer, fewer, more);
      capacity = omega (arith, inv.capacity, more);
      home = λ x among. inv.home x (subst (λ (ps : List ShadowPage). is_among x (blocks_of (writes_of ps)) ≡ true) (sym was) (among-behind page.block x (blocks_of (writes_of rest)) among));
    }
