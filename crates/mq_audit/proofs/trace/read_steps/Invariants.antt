use Rattle.std.proofs.Common.{◌≡◌, ◌≤◌, ◌+◌, drop}
use Rattle.std.specs.Prelude.{map}
use Rattle.mq_audit.specs.Traces.{steps_in}
use Rattle.mq_audit.proofs.TracesReading.{onto_all}
use Rattle.mq_audit.proofs.trace.read_steps.Given as goal

-- the lines so far are these events
abbrev pub invariant-loop-text : goal.invariant-loop-text
invariant-loop-text l = record {
  line_is : l.line ≡ l.text-index + 3;
  last_low : l.last ≤ l.fn.base + l.text-index;
  read : steps_in l.geometry l.fn.base 3 (map (λ w. w.now) l.lines) ≡ onto_all l.events.items (steps_in l.geometry l.last l.line (map (λ w. w.now) (drop l.text-index l.lines)));
}
