use Rattle.std.proofs.Common.{[], List, ℕ, Bor, sym}
use Rattle.mq_audit.proofs.TracesReading.{number_none}
use Rattle.mq_audit.proofs.trace.read_numbers.Goals as goal

pub returns-in-None-clause-refused : goal.returns-in-None-clause-refused
returns-in-None-clause-refused c = λ form.
    let d : Bor (List ℕ) = record { ref_ptr = (0, 0); now = [] } in
    number_none (λ (w : Bor (List ℕ)). w.now) _ c.args.words.now d c.loop-word.word-index c.loop-word-test.true c.loop-word.numbers.items c.loop-word.invariant (sym c.in-None.ensures)
