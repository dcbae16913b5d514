use Rattle.std.proofs.Common.{◌≡◌, ◌+◌, ℕ, [], ◌∷◌, List, Option, Bor, map, drop, get_or, length, length-append, ap, ◌∙◌, refl, rules, subst}
use Rattle.std.specs.Prelude.{IfSome}
use Rattle.mq_block_text.proofs.TextLines.{told_parts, told_push}
use Rattle.mq_loose_text.specs.Text.{IsGoodLine, line_text}
use Rattle.mq_loose_text.specs.declared.line.LooseLine.{LooseLine}
use Rattle.mq_loose_text.proofs.Rooms.{no_line, no_room, room_first, room_more, text_more, text_none}
use Rattle.mq_loose_text.proofs.whole.read_lines.Goals as goal

pub loop-text-init : goal.loop-text-init
loop-text-init c = rw c.new-lines.ensures.items (record { told = refl; good = text_none; whole = refl; room = room_first; count = refl })

pub returns-in_default-clause-refused : goal.returns-in_default-clause-refused
returns-in_default-clause-refused c =
    let inv = c.loop-text.invariant in
    let d : Bor (List ℕ) = record { ref_ptr = (0, 0); now = [] } in
    let count : c.len.result ≡ length c.loop-text.lines.items = search rules in
    let text = (get_or c.args.texts.now c.loop-text.text-index d).now in
    record {
      before = c.loop-text.lines.items;
      text = text;
      rest = map (λ x. x.now) (drop (c.loop-text.text-index + 1) c.args.texts.now);
      are = told_parts (λ x. x.now) line_text c.args.texts.now c.loop-text.text-index d c.loop-text.lines.items c.loop-text-test.true inv.told;
      good = inv.good;
      counted = ap (λ (n : ℕ). n + 1) count;
      refused = no_line c.loop-text.lines.items text (c.in_ok-line.ensures.only c.in_default.is);
    }

pub returns-in_default-room_behind-clause-refused :
    goal.returns-in_default-room_behind-clause-refused
returns-in_default-room_behind-clause-refused c =
    let inv = c.loop-text.invariant in
    let d : Bor (List ℕ) = record { ref_ptr = (0, 0); now = [] } in
    let count : c.len.result ≡ length c.loop-text.lines.items = search rules in
    let text = (get_or c.args.texts.now c.loop-text.text-index d).now in
    let found : (text ≡ line_text c.in-Some.line) × IsGoodLine c.in-Some.line =
    subst (λ (o : Option LooseLine). IfSome o (λ l. (text ≡ line_text l) × IsGoodLine l)) c.in-Some.is c.in_ok-line.ensures.found in
    record {
      before = c.loop-text.lines.items;
      text = text;
      rest = map (λ x. x.now) (drop (c.loop-text.text-index + 1) c.args.texts.now);
      are = told_parts (λ x. x.now) line_text c.args.texts.now c.loop-text.text-index d c.loop-text.lines.items c.loop-text-test.true inv.told;
      good = inv.good;
      counted = ap (λ (n : ℕ). n + 1) count;
      refused = no_room c.loop-text.lines.items text c.in-Some.line c.loop-text.room found.1 found.0 inv.room (c.room_behind.ensures.lacks c.in_default-room_behind.is);
    }

pub loop-text-preserved : goal.loop-text-preserved
loop-text-preserved c =
    let inv = c.loop-text.invariant in
    let d : Bor (List ℕ) = record { ref_ptr = (0, 0); now = [] } in
    let text = (get_or c.args.texts.now c.loop-text.text-index d).now in
    let found : (text ≡ line_text c.in-Some.line) × IsGoodLine c.in-Some.line =
    subst (λ (o : Option LooseLine). IfSome o (λ l. (text ≡ line_text l) × IsGoodLine l)) c.in-Some.is c.in_ok-line.ensures.found in
    let left = c.in-Some-room_behind.ensures.left in
    rw c.in_ok-push.ensures.items (record {
      told = told_push (λ x. x.now) line_text c.args.texts.now c.loop-text.text-index d c.loop-text.lines.items c.in-Some.line c.loop-text-test.true inv.told found.0;
      good = text_more c.loop-text.lines.items c.in-Some.line c.loop-text.room c.in-Some-room_behind.left inv.good found.1 inv.room left.1;
      whole = left.0;
      room = room_more c.loop-text.lines.items c.in-Some.line c.loop-text.room c.in-Some-room_behind.left inv.room left.1;
      count = length-append c.loop-text.lines.items (c.in-Some.line ∷ []) ∙ ap (λ (n : ℕ). n + 1) inv.count;
    })
