use Rattle.std.proofs.Common.{◌≡◌, ◌++◌, ℕ, List, refl, ◌∙◌}
use Rattle.std.specs.List.{flat_map}
use Rattle.std.proofs.lemmas.Result.{IfOk-weaker}
use Rattle.mq_blocks.specs.Descriptor.{Descriptor}
use Rattle.mq_blocks.specs.Journal.{AreWhole}
use Rattle.mq_recover.specs.Drives.{drive_of, view_over}
use Rattle.mq_recover.proofs.DrivesQueueReads.{port-own}
use Rattle.mq_image_ops.specs.Dump.{descriptor_line, queue_text}
use Rattle.mq_image_ops.proofs.DumpChains.{queue-put, words-own}
use Rattle.mq_image_ops.proofs.dump.put_queue.Goals as goal

pub returns : goal.returns
returns g c =
    let geometry = c.args.geometry in
    let d = drive_of g.P.Port.state c.args.ports.now in
    let v = view_over geometry d in
    let q : ℕ = c.args.queue in
    let at = port-own geometry g.P.Port.state c.args.ports.now.queues.items c.args.ports.now.root q q c.index-port.result.now c.requires.still c.requires.within refl c.index-port.ensures in
    let words = words-own geometry d q c.head.result c.doorbell.result (g.P.Port.state c.index-port.result.now) c.requires.still c.requires.within at c.head.ensures c.doorbell.ensures in
    IfOk-weaker c.put_chain.result
    (λ _. c.put_chain.new.text.items ≡ c.put_words.new.text.items ++ flat_map descriptor_line c.deref.result.now)
    (λ _. (chains : ℕ → List Descriptor) → AreWhole geometry v chains → c.put_chain.new.text.items ≡ c.args.text.now.items ++ queue_text v chains q)
    (λ _ is chains whole.
    queue-put v chains q c.head.result c.doorbell.result c.deref.result.now c.args.text.now.items c.put_words.new.text.items c.put_chain.new.text.items c.in_ok-put_words.ensures is
    (c.deref.ensures.value ∙ c.chain.view_is ∙ c.in_ok-chain.ensures chains whole) words.0 words.1)
    c.put_chain.ensures
