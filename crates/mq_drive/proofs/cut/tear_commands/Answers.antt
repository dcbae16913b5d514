use Rattle.std.proofs.Common.{◌≡◌, ◌≢◌, ℕ, Bool, false, List, ◌∷◌, length, get_or, All, refl, sym, ◌∙◌, ap, subst}
use Rattle.std.proofs.lemmas.List.Elements.{All-rest}
use Rattle.std.specs.Option.{option_to_list}
use Rattle.mq_blocks.specs.declared.command.Command.{Command}
use Rattle.mq_drive.specs.Choices.{writes_of, by_count}
use Rattle.mq_drive.specs.Slots.{index_in}
use Rattle.mq_drive.proofs.Choices.{block_step}
use Rattle.mq_drive.proofs.SlotsTearing.{IsOwn, IsOther, first_of}
use Rattle.mq_drive.proofs.cut.tear_commands.Goals as goal

pub tear_earlier-failed-requires : goal.tear_earlier-failed-requires
tear_earlier-failed-requires c =
    let inv = c.loop-command.invariant in record {
      own = λ x is. subst (λ (n : ℕ). IsOwn c.args.area.first c.args.area.size c.args.homes.first n x) (sym inv.len) (c.requires.failed x (inv.one x is));
      doubt = λ x is. ap (λ (l : List Bool). get_or l (index_in c.args.area.first c.args.area.size c.args.homes.first x.lba) false) inv.certain ∙ c.requires.doubt x (inv.one x is);
    }

pub loop-command-preserved : goal.loop-command-preserved
loop-command-preserved c =
    let inv = c.loop-command.invariant in
    let place : ℕ → ℕ = index_in c.args.area.first c.args.area.size c.args.homes.first in
    let is : c.loop-command.posted.items ≡ c.in-Some.command ∷ c.pop_front.new.self.items = c.in-Some.ensures.items in
    let step : length c.tear.new.self.stored.items ≡ length c.loop-command.blocks.stored.items = c.tear.ensures.len ∙ c.tear_earlier-failed.ensures.len in
    record {
      area = refl;
      homes = refl;
      len = step ∙ inv.len;
      certain = c.tear.ensures.certain ∙ c.tear_earlier-failed.ensures.certain ∙ inv.certain;
      own = subst (λ (n : ℕ). All (IsOwn c.args.area.first c.args.area.size c.args.homes.first n) c.pop_front.new.self.items) (sym step)
          (All-rest (IsOwn c.args.area.first c.args.area.size c.args.homes.first (length c.loop-command.blocks.stored.items)) c.in-Some.command c.pop_front.new.self.items c.loop-command.posted.items is inv.own);
      rest = λ k apart. All-rest (IsOther c.args.area.first c.args.area.size c.args.homes.first k) c.in-Some.command c.pop_front.new.self.items c.loop-command.posted.items is (inv.rest k apart);
      kept = λ k apart certain.
          let other : k ≢ c.block_index-index.result = λ at. first_of (IsOther c.args.area.first c.args.area.size c.args.homes.first k) c.in-Some.command c.pop_front.new.self.items c.loop-command.posted.items is (inv.rest k apart) (sym (at ∙ c.block_index-index.ensures)) in
          c.tear.ensures.others k other
          ∙ c.tear_earlier-failed.ensures.kept k (ap (λ (l : List Bool). get_or l k false) inv.certain ∙ certain)
          ∙ inv.kept k apart certain;
      one = λ x some. inv.one x (c.tear_earlier-failed.ensures.left x some);
      left =
          block_step place (record { lba = c.in-Some.command.lba; block = c.in-Some.command.block }) (writes_of (by_count (option_to_list c.tear_earlier-failed.result) c.pop_front.new.self.items))
          c.block_index-index.result c.tear_earlier-failed.new.blocks.stored.items c.tear.new.self.stored.items c.tear_earlier-failed.new.rng c.tear.new.rng c.block_index-index.ensures c.tear.ensures.chosen
          ∙ c.tear_earlier-failed.ensures.chosen c.in-Some.command c.pop_front.new.self.items refl
          ∙ ap (λ (cs : List Command). Rattle.mq_drive.specs.Choices.torn_blocks place (writes_of (by_count (option_to_list c.loop-command.failed) cs)) c.loop-command.blocks.stored.items c.loop-command.rng) (sym is)
          ∙ inv.left;
    }
