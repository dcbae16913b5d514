use Rattle.std.proofs.Common.{◌≡◌, ◌∙◌, ◌<◌, ◌++◌, ◌∷◌, [], ap, arith, length, map, subst, sym}
use Rattle.std.proofs.lemmas.List.{map_push}
use Rattle.std.specs.List.{All}
use Rattle.mq_run.proofs.LinesGrowing.{map_next}
use Rattle.mq_run.proofs.Parts.{all_pushed}
use Rattle.mq_run.proofs.PlayingGroups.{read-element}
use Rattle.mq_run.specs.Pairs.{AreOpen}
use Rattle.mq_run.specs.Seating.{Room, room_for, room_of}
use Rattle.mq_run.specs.declared.opening.Kit.{Kit}
use Rattle.mq_run.proofs.opening.make_kits.Goals as goal

pub loop-script-preserved : goal.loop-script-preserved
loop-script-preserved c =
    let item = c.script-item.result in
    let kits = c.loop-script.kits.items in
    let kit = c.in_ok-make_kit.field-0 in
    let within : c.loop-script.script-index < length c.args.scripts.now = let t = c.loop-script-test.true in omega arith in
    let here = read-element c.args.scripts.now c.loop-script.script-index item within c.script-item.is in
    let rooms = map (λ (k : Kit). room_of k.told k.reads k.line) kits in
    let grown = map_next (λ s. room_for (length s.groups)) c.args.scripts.now rooms c.loop-script.script-index item c.loop-script.invariant.room here in
    record {
      room = ap (map (λ (k : Kit). room_of k.told k.reads k.line)) c.in_ok-push.ensures.items
          ∙ (map_push (λ (k : Kit). room_of k.told k.reads k.line) kits kit
          ∙ (ap (λ (r : Room). rooms ++ r ∷ []) c.in_ok-make_kit.ensures.room ∙ grown));
      opened = subst (λ ks. All (λ k. AreOpen k.line k.announcing k.listening) ks) (sym c.in_ok-push.ensures.items)
          (all_pushed (λ k. AreOpen k.line k.announcing k.listening) kits _ c.loop-script.invariant.opened c.in_ok-make_kit.ensures.open);
    }
