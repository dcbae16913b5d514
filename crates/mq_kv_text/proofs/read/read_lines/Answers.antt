use Rattle.std.proofs.Common.{rules, arith, ℕ, List, [], ◌+◌, Bor, map, ap, refl, sym, subst, ◌∙◌}
use Rattle.mq_kv_buckets.specs.declared.operation.KvOp.{KvOp}
use Rattle.mq_kv_text.specs.Files.{IsMisread, IsRefused, lines_so_far}
use Rattle.mq_kv_text.proofs.FilesRead.{HasRead, end_lacks, end_whole, is_open, misread_at, misread_end, read_push, refused_line, whole_file}
use Rattle.mq_kv_text.proofs.read.read_lines.Goals as goal

pub loop-text-init : goal.loop-text-init
loop-text-init c = record {
  counted = refl;
  inside = omega arith;
  few = search rules;
  read = rw (c.new-groups.ensures.items, c.new-ops.ensures.items) (record { told = refl; good = tt });
}

pub loop-text-preserved : goal.loop-text-preserved
loop-text-preserved c =
    let d : Bor (List ℕ) = record { ref_ptr = (0, 0); now = [] } in
    let lines = c.deref-text-items.result.now in
    let inv = c.loop-text.invariant in record {
      counted = ap (λ (n : ℕ). n + 1) inv.counted;
      inside = omega (arith, c.loop-text-test.true);
      few = inv.few;
      read = subst (HasRead lines (c.loop-text.text-index + 1)) (sym c.in_ok-add_line-in-Ok.ensures.added)
          (read_push lines c.loop-text.text-index d (lines_so_far c.loop-text.groups.items c.loop-text.ops.items) c.in-Ok.said c.loop-text-test.true inv.read c.in-Ok.ensures.ok.0 c.in-Ok.ensures.ok.1);
    }

pub returns-in-Err-clause-refused : goal.returns-in-Err-clause-refused
returns-in-Err-clause-refused c =
    let d : Bor (List ℕ) = record { ref_ptr = (0, 0); now = [] } in
    let lines = c.deref-text-items.result.now in
    let inv = c.loop-text.invariant in
    let cut = ap (map (λ (x : Bor (List ℕ)). x.now)) c.deref-text-items.ensures.value ∙ c.in_ok-lines.ensures in
    subst (IsRefused (IsMisread c.args.bytes.now)) (sym c.at.ensures)
    (refused_line (IsMisread c.args.bytes.now) c.in-Err.misread (c.loop-text.line + 1)
    (λ form. subst (λ (n : ℕ). IsMisread c.args.bytes.now (n + 1)) (sym inv.counted)
    (misread_at lines c.args.bytes.now c.loop-text.text-index d (lines_so_far c.loop-text.groups.items c.loop-text.ops.items) cut c.loop-text-test.true inv.read (c.in-Err.ensures.refused form))))

pub returns-then-lacks_sync-clause-refused : goal.returns-then-lacks_sync-clause-refused
returns-then-lacks_sync-clause-refused c =
    let lines = c.deref-text-items.result.now in
    let groups = c.loop-text.groups.items in
    let ops = c.loop-text.ops.items in
    let inv = c.loop-text.invariant in
    let cut = ap (map (λ (x : Bor (List ℕ)). x.now)) c.deref-text-items.ensures.value ∙ c.in_ok-lines.ensures in
    let open_is =
    c.lacks_sync.ensures ∙ ap (λ (gs : List (List KvOp)). is_open gs c.deref-2.result.now) c.deref.ensures.value
    ∙ ap (λ (os : List KvOp). is_open groups os) c.deref-2.ensures.value in
    subst (λ (n : ℕ). IsMisread c.args.bytes.now (n + 1)) (sym inv.counted)
    (misread_end lines c.args.bytes.now c.loop-text.text-index (lines_so_far groups ops) cut (omega (arith, inv.inside, c.loop-text-test.false)) inv.read
    (end_lacks c.lacks_sync.result groups ops open_is c.if-lacks_sync.true))

pub returns-clause-ok : goal.returns-clause-ok
returns-clause-ok c =
    let lines = c.deref-text-items.result.now in
    let groups = c.loop-text.groups.items in
    let ops = c.loop-text.ops.items in
    let inv = c.loop-text.invariant in
    let cut = ap (map (λ (x : Bor (List ℕ)). x.now)) c.deref-text-items.ensures.value ∙ c.in_ok-lines.ensures in
    let open_is =
    c.lacks_sync.ensures ∙ ap (λ (gs : List (List KvOp)). is_open gs c.deref-2.result.now) c.deref.ensures.value
    ∙ ap (λ (os : List KvOp). is_open groups os) c.deref-2.ensures.value in
    let end = end_whole c.lacks_sync.result groups ops open_is c.if-lacks_sync.false in
    whole_file lines c.args.bytes.now c.loop-text.text-index groups cut c.loop-text-test.false
    (subst (λ (os : List KvOp). HasRead lines c.loop-text.text-index (lines_so_far groups os)) end.1 inv.read) end.0
