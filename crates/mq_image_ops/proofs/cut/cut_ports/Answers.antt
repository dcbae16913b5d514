use Rattle.std.proofs.Common.{◌≡◌, ◌∙◌, ◌++◌, ◌∷◌, [], List, ap, append_assoc, arith, subst, sym}
use Rattle.std.proofs.lemmas.List.{append-nil, nil_from_length}
use Rattle.std.specs.Vec.Iter.{into_iter_items}
use Rattle.mq_drive.specs.declared.emu.EmuPort.{EmuPort}
use Rattle.mq_image_ops.specs.Cuts.{AreCutPorts}
use Rattle.mq_image_ops.proofs.CutsRows.{next-cut}
use Rattle.mq_image_ops.proofs.cut.cut_ports.Goals as goal

pub loop-port-preserved : goal.loop-port-preserved
loop-port-preserved c =
    let done = c.loop-port.yielded in
    let port = c.in-Some.port in (
      next-cut c.args.pick done c.loop-port.images.items c.push.new.self.items c.loop-port.seats.items c.push-in-loop-port.new.self.items port c.cut_port-image.result.0 c.cut_port-image.result.1 c.loop-port.invariant.0 c.cut_port-image.ensures c.in_ok-push.ensures.items c.in_ok-push-2.ensures.items,
      c.loop-port.invariant.1 ∙ ap (λ (l : List EmuPort). done ++ l) c.in-Some.ensures.steps.0 ∙ sym (append_assoc done (port ∷ []) (into_iter_items c.next.new.self)),
    )

pub returns : goal.returns
returns c =
    let done = c.loop-port.yielded in
    let left = into_iter_items c.loop-port.port-iterator in
    let none : left ≡ [] = nil_from_length left (let k = c.in-None.ensures.steps in omega (arith, k)) in
    let all = c.loop-port.invariant.1 ∙ ap (λ (l : List EmuPort). done ++ l) none ∙ append-nil done in
    subst (λ (l : List EmuPort). AreCutPorts c.args.pick (l ++ c.args.ports.root ∷ []) c.push-2.new.self.items c.push-3.new.self.items) (sym all)
    (next-cut c.args.pick done c.loop-port.images.items c.push-2.new.self.items c.loop-port.seats.items c.push-3.new.self.items c.args.ports.root c.cut_port-image-2.result.0 c.cut_port-image-2.result.1 c.loop-port.invariant.0 c.cut_port-image-2.ensures c.in_ok-push-3.ensures.items c.in_ok-push-4.ensures.items)
