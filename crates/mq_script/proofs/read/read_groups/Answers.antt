use Rattle.std.proofs.Common.{rules, ◌≡◌, ℕ, List, [], ◌+◌, Bor, length, get_or, map, ap, refl, sym, ◌∙◌}
use Rattle.std.specs.Prelude.{Err}
use Rattle.mq_script.specs.Lines.{line_in}
use Rattle.mq_script.specs.Reading.{groups_in, script_in}
use Rattle.mq_script.specs.declared.refusal.ScriptCause.TheVariants.{Open}
use Rattle.mq_script.proofs.Scripts.{answers, few_lines, groups_none, refused_step, open_end, whole_end, script_of, script_lines, refused_script, no_requests}
use Rattle.mq_script.proofs.read.read_groups.Goals as goal

pub loop-text-init : goal.loop-text-init
loop-text-init c =
    let lines = c.deref-text-items.result.now in
    record {
      counted = refl;
      few = few_lines lines c.args.bytes.now (ap (map (λ x. x.now)) c.deref-text-items.ensures.value ∙ c.in_ok-lines.ensures) c.if-bytes-gt-SIZE_LIMIT.false;
      read = rw (c.new-groups.ensures.items, c.new-requests.ensures.items) (groups_none (groups_in 0 [] (answers lines)));
    }

pub returns-in-Err : goal.returns-in-Err
returns-in-Err c =
    let d : Bor (List ℕ) = record { ref_ptr = (0, 0); now = [] } in
    let lines = c.deref-text-items.result.now in
    let inv = c.loop-text.invariant in
    let script = script_lines lines c.args.bytes.now (ap (map (λ x. x.now)) c.deref-text-items.ensures.value ∙ c.in_ok-lines.ensures) c.if-bytes-gt-SIZE_LIMIT.false in
    refused_script (script_in c.args.bytes.now) (line_in (get_or lines c.loop-text.text-index d).now) (c.loop-text.line + 1) c.in-Err.refusal c.refused_at.result
    (λ cause e.
    script
    ∙ ap script_of (refused_step lines (groups_in 0 [] (answers lines)) c.loop-text.text-index d c.loop-text.groups.items c.loop-text.requests.items cause c.loop-text-test.true inv.read e)
    ∙ ap (λ (n : ℕ). Err (record { line = n + 1; cause = cause })) (sym inv.counted))
    c.in-Err.ensures c.refused_at.ensures

pub returns-then-not-is_empty : goal.returns-then-not-is_empty
returns-then-not-is_empty c =
    let lines = c.deref-text-items.result.now in
    let inv = c.loop-text.invariant in
    let script = script_lines lines c.args.bytes.now (ap (map (λ x. x.now)) c.deref-text-items.ensures.value ∙ c.in_ok-lines.ensures) c.if-bytes-gt-SIZE_LIMIT.false in
    let some : (length c.loop-text.requests.items ≡ 0 → ⊥) = λ e. search rules in
    script
    ∙ ap script_of (open_end lines (groups_in 0 [] (answers lines)) c.loop-text.text-index c.loop-text.groups.items c.loop-text.requests.items c.loop-text-test.false inv.read (λ e. some (ap length e)))
    ∙ ap (λ (n : ℕ). Err (record { line = n; cause = Open })) (sym inv.counted)

pub returns : goal.returns
returns c =
    let lines = c.deref-text-items.result.now in
    let inv = c.loop-text.invariant in
    let script = script_lines lines c.args.bytes.now (ap (map (λ x. x.now)) c.deref-text-items.ensures.value ∙ c.in_ok-lines.ensures) c.if-bytes-gt-SIZE_LIMIT.false in
    let none : length c.loop-text.requests.items ≡ 0 = search rules in
    script
    ∙ ap script_of (whole_end lines (groups_in 0 [] (answers lines)) c.loop-text.text-index c.loop-text.groups.items c.loop-text.requests.items c.loop-text-test.false inv.read (no_requests c.loop-text.requests.items none))
