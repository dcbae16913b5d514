use Rattle.std.proofs.Common.{◌≡◌, ◌+◌, [], List, ℕ, Bor, map, drop, get_or, ◌∙◌, refl}
use Rattle.mq_block_text.specs.Text.{item_text, block_of}
use Rattle.mq_block_text.proofs.TextLines.{good_push, table_none, table_push, told_parts, told_push, named_twice, unnamed_new}
use Rattle.mq_block_text.proofs.line.read_items.Goals as goal

pub loop-word-init : goal.loop-word-init
loop-word-init c = rw c.new-items.ensures.items (record { told = refl; good = tt; table = table_none })

pub returns-in-Err-clause-refused : goal.returns-in-Err-clause-refused
returns-in-Err-clause-refused c =
    let inv = c.loop-word.invariant in
    let d : Bor (List ℕ) = record { ref_ptr = (0, 0); now = [] } in (
      refl,
      record {
        before = c.loop-word.items.items;
        word = (get_or c.args.words.now c.loop-word.word-index d).now;
        rest = map (λ x. x.now) (drop (c.loop-word.word-index + 1) c.args.words.now);
        are = told_parts (λ x. x.now) item_text c.args.words.now c.loop-word.word-index d c.loop-word.items.items c.loop-word-test.true inv.told;
        good = inv.good;
        refused = c.in-Err.ensures.refused c.loop-word.items.items;
      },
    )

pub returns-then-named-block-clause-refused : goal.returns-then-named-block-clause-refused
returns-then-named-block-clause-refused c =
    let inv = c.loop-word.invariant in
    let d : Bor (List ℕ) = record { ref_ptr = (0, 0); now = [] } in
    let block : c.block-in-loop-word.inside.0 ≡ block_of c.in-Ok.item = c.block-in-loop-word.view_is ∙ c.block.ensures in (
      refl,
      record {
        before = c.loop-word.items.items;
        word = (get_or c.args.words.now c.loop-word.word-index d).now;
        rest = map (λ x. x.now) (drop (c.loop-word.word-index + 1) c.args.words.now);
        are = told_parts (λ x. x.now) item_text c.args.words.now c.loop-word.word-index d c.loop-word.items.items c.loop-word-test.true inv.told;
        good = inv.good;
        refused = (
          c.in-Ok.item,
          c.in-Ok.ensures.ok.1,
          named_twice c.loop-word.named c.loop-word.items.items c.block-in-loop-word.inside.0 c.in-Ok.item inv.table c.if-named-block.true block,
          c.in-Ok.ensures.ok.0,
        );
      },
    )

pub loop-word-preserved : goal.loop-word-preserved
loop-word-preserved c =
    let inv = c.loop-word.invariant in
    let d : Bor (List ℕ) = record { ref_ptr = (0, 0); now = [] } in
    let good = c.in-Ok.ensures.ok.1 in
    let block : c.block-in-loop-word.inside.0 ≡ block_of c.in-Ok.item = c.block-in-loop-word.view_is ∙ c.block.ensures in
    rw c.in_ok-push.ensures.items (record {
      told = told_push (λ x. x.now) item_text c.args.words.now c.loop-word.word-index d c.loop-word.items.items c.in-Ok.item c.loop-word-test.true inv.told c.in-Ok.ensures.ok.0;
      good = good_push c.loop-word.items.items c.in-Ok.item inv.good good
          (unnamed_new c.loop-word.named c.loop-word.items.items c.block-in-loop-word.inside.0 c.in-Ok.item inv.table good c.if-named-block.false block);
      table = table_push c.loop-word.named c.loop-word.items.items c.block-in-loop-word.inside.0 c.in-Ok.item inv.table good block;
    })
