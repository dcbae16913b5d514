use Rattle.std.proofs.Common.{◌≡◌, ◌+◌, ◌++◌, ◌∷◌, [], ℕ, List, Option, length, refl, sym, ap, ◌∙◌, arith, rules}
use Rattle.std.proofs.lemmas.List.{length_push}
use Rattle.mq_blocks.specs.Geometry.{meta_of}
use Rattle.mq_kv.specs.Opening.{bucket_in, store_map}
use Rattle.mq_sessions.proofs.OpeningCells.{here, made-more, made-none}
use Rattle.mq_kv.proofs.cells.make_cells.Goals as goal

pub loop-block-init : goal.loop-block-init
loop-block-init c =
    let none : c.in_ok-cells.cells.items ≡ [] = c.in_ok-cells.ensures.items in
    record {
      made = made-none c.args.geometry (store_map c.args.geometry) c.args.standing.blocks.items c.args.standing.base c.in_ok-cells.cells.items c.requires.whole none;
      base = refl;
      room = search rules;
    }

pub loop-block-preserved : goal.loop-block-preserved
loop-block-preserved c =
    let last : c.loop-block.blocks.items ≡ c.pop.new.self.items ++ c.in-Some.block ∷ [] = c.in-Some.ensures.items in
    let fewer : length c.loop-block.blocks.items ≡ length c.pop.new.self.items + 1 = ap length last ∙ length_push c.pop.new.self.items c.in-Some.block in
    let more : length c.push_reserved.new.self.items ≡ length c.loop-block.cells.items + 1 = ap length c.push_reserved.ensures.items ∙ length_push c.loop-block.cells.items _ in
    let place : c.len-in-Some.result ≡ length c.pop.new.self.items = search rules in
    let content_is = λ (rest : List (Option (List ℕ))). c.in_ok-content.ensures ∙ ap (bucket_in (meta_of c.args.geometry) c.len-in-Some.result) (sym (here c.pop.new.self.items rest c.in-Some.block c.len-in-Some.result place)) in
    record {
      made = made-more c.args.geometry (store_map c.args.geometry) c.args.standing.blocks.items c.args.standing.base c.len-in-Some.result c.loop-block.blocks.items c.pop.new.self.items c.in-Some.block c.loop-block.cells.items c.push_reserved.new.self.items _ c.loop-block.invariant.made last place content_is refl c.push_reserved.ensures.items;
      base = refl;
      room = let room = c.loop-block.invariant.room in let same = c.push_reserved.ensures.capacity in omega arith;
    }
