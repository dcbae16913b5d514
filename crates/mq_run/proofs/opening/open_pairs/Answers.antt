use Rattle.std.proofs.Common.{◌≡◌, ap, map, sym, ◌∙◌}
use Rattle.std.specs.Prelude.{slice_get}
use Rattle.mq_run.proofs.LinesGrowing.{image_at, map_twice}
use Rattle.mq_run.proofs.Parts.{all_at, all_images}
use Rattle.mq_run.specs.Pairs.{AreOpen}
use Rattle.mq_run.specs.Seating.{kit_of, room_of}
use Rattle.mq_run.proofs.opening.open_pairs.Goals as goal

pub returns-in-Ok-open_with-clause-each : goal.returns-in-Ok-open_with-clause-each
returns-in-Ok-open_with-clause-each g c i p at =
    c.in-Ok-open_with.ensures.each i p.session.runner.user (ap (λ zs. slice_get zs i) (sym c.seat.ensures.users) ∙ image_at (λ p. p.session.runner.user) c.seat.result.items i p at)

pub returns-in-Ok-open_with-clause-helpers : goal.returns-in-Ok-open_with-clause-helpers
returns-in-Ok-open_with-clause-helpers g c i p at =
    let here = c.in-Ok-open_with.ensures.idle i p.helper.assistant.helper (ap (λ zs. slice_get zs i) (sym c.seat.ensures.helpers) ∙ image_at (λ p. p.helper.assistant.helper) c.seat.result.items i p at) in
    let own = c.in-Ok-open_with.ensures.each i p.session.runner.user (ap (λ zs. slice_get zs i) (sym c.seat.ensures.users) ∙ image_at (λ p. p.session.runner.user) c.seat.result.items i p at) in
    (here.0, here.1, all_at (λ p. p.helper.assistant.queue ≡ p.session.runner.user.queue) c.seat.result.items i p c.seat.ensures.queues at ∙ own.1.queue_is)

pub returns-in-Ok-open_with-clause-room : goal.returns-in-Ok-open_with-clause-room
returns-in-Ok-open_with-clause-room g c =
    sym (map_twice (λ p. kit_of p.session.runner.told p.session.runner.reads p.line p.session.announcing p.helper.listening) (λ k. room_of k.told k.reads k.line) c.seat.result.items) ∙ (ap (map (λ k. room_of k.told k.reads k.line)) c.seat.ensures.kits ∙ c.in-Ok.ensures.room)

pub returns-in-Ok-open_with-clause-open : goal.returns-in-Ok-open_with-clause-open
returns-in-Ok-open_with-clause-open g c =
    all_images (λ p. kit_of p.session.runner.told p.session.runner.reads p.line p.session.announcing p.helper.listening) (λ k. AreOpen k.line k.announcing k.listening)
    c.seat.result.items c.in-Ok.kits.items c.seat.ensures.kits c.in-Ok.ensures.open
