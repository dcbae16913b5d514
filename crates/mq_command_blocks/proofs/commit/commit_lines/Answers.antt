use Rattle.std.proofs.Common.{rules, ◌≡◌, length, vec_len, refl, ◌∙◌, ap, arith}
use Rattle.std.proofs.lemmas.Result.{err_from_is_err_and}
use Rattle.mq_drive.specs.declared.role.Role.TheVariants.{Queue}
use Rattle.mq_pmr.specs.Runs.{Items}
use Rattle.mq_command_blocks.proofs.CommitsTextSteps.{Lines, none_yet, finished, finished_rung, places_many, line_turn, line_more, line_between, line_stopped, some_items}
use Rattle.mq_command_blocks.proofs.commit.commit_lines.Goals as goal

pub loop-line-init : goal.loop-line-init
loop-line-init g c = record {
  number = refl;
  so_far = none_yet c.args.geometry (g.P.Port.state c.args.queue.now.port) c.args.text.now c.requires.clean c.requires.good c.requires.below;
  no_fault = refl;
  rung = c.requires.rung;
}

pub loop-line-preserved : goal.loop-line-preserved
loop-line-preserved g c =
    let state = g.P.Port.state in
    let inv = c.loop-line.invariant in
    let xs : Lines = c.deref-line-items.result.now in
    let same : xs ≡ c.args.text.now = c.deref-line-items.ensures.value ∙ c.text.view_is in
    let items : Items = c.in_ok-items.items.items in
    let len : vec_len c.in_ok-items.items ≡ length items = search rules in
    record {
      number = omega (arith, inv.number);
      so_far = line_more c.args.geometry (state c.args.queue.now.port) (state c.loop-line.queue.port) c.args.text.now xs c.loop-line.line-index c.loop-line.number c.loop-line.next c.loop-line.last inv.so_far
          c.requires.clean c.requires.good same c.loop-line-test.true c.line-item.result c.line-item.is inv.number items (state c.commit_line.new.queue.port) c.len-count.result
          c.in_ok-items.ensures c.in_ok-commit_line.ensures.ok (c.len-count.ensures ∙ len);
      no_fault = c.in_ok-commit_line.ensures.cause ∙ inv.no_fault;
      rung = c.in_ok-commit_line.ensures.rung;
    }

pub commit_line-requires-clause-room : goal.commit_line-requires-clause-room
commit_line-requires-clause-room g c =
    let state = g.P.Port.state in
    let inv = c.loop-line.invariant in
    let xs : Lines = c.deref-line-items.result.now in
    let same : xs ≡ c.args.text.now = c.deref-line-items.ensures.value ∙ c.text.view_is in
    (line_turn c.args.geometry (state c.args.queue.now.port) (state c.loop-line.queue.port) c.args.text.now xs c.loop-line.line-index c.loop-line.number c.loop-line.next c.loop-line.last inv.so_far
    c.requires.clean c.requires.good same c.loop-line-test.true c.line-item.result c.line-item.is inv.number c.in_ok-items.items.items c.in_ok-items.ensures).room

pub commit_line-requires-clause-end : goal.commit_line-requires-clause-end
commit_line-requires-clause-end g c =
    let state = g.P.Port.state in
    let inv = c.loop-line.invariant in
    let xs : Lines = c.deref-line-items.result.now in
    let same : xs ≡ c.args.text.now = c.deref-line-items.ensures.value ∙ c.text.view_is in
    (line_turn c.args.geometry (state c.args.queue.now.port) (state c.loop-line.queue.port) c.args.text.now xs c.loop-line.line-index c.loop-line.number c.loop-line.next c.loop-line.last inv.so_far
    c.requires.clean c.requires.good same c.loop-line-test.true c.line-item.result c.line-item.is inv.number c.in_ok-items.items.items c.in_ok-items.ensures).end

pub commit_line-requires-clause-own : goal.commit_line-requires-clause-own
commit_line-requires-clause-own g c =
    let state = g.P.Port.state in
    let inv = c.loop-line.invariant in
    let xs : Lines = c.deref-line-items.result.now in
    let same : xs ≡ c.args.text.now = c.deref-line-items.ensures.value ∙ c.text.view_is in
    (line_turn c.args.geometry (state c.args.queue.now.port) (state c.loop-line.queue.port) c.args.text.now xs c.loop-line.line-index c.loop-line.number c.loop-line.next c.loop-line.last inv.so_far
    c.requires.clean c.requires.good same c.loop-line-test.true c.line-item.result c.line-item.is inv.number c.in_ok-items.items.items c.in_ok-items.ensures).own

pub commit_line-requires-clause-distinct : goal.commit_line-requires-clause-distinct
commit_line-requires-clause-distinct g c =
    let state = g.P.Port.state in
    let inv = c.loop-line.invariant in
    let xs : Lines = c.deref-line-items.result.now in
    let same : xs ≡ c.args.text.now = c.deref-line-items.ensures.value ∙ c.text.view_is in
    (line_turn c.args.geometry (state c.args.queue.now.port) (state c.loop-line.queue.port) c.args.text.now xs c.loop-line.line-index c.loop-line.number c.loop-line.next c.loop-line.last inv.so_far
    c.requires.clean c.requires.good same c.loop-line-test.true c.line-item.result c.line-item.is inv.number c.in_ok-items.items.items c.in_ok-items.ensures).distinct

pub overflow_sub-last : goal.overflow_sub-last
overflow_sub-last g c =
    let state = g.P.Port.state in
    let inv = c.loop-line.invariant in
    let xs : Lines = c.deref-line-items.result.now in
    let same : xs ≡ c.args.text.now = c.deref-line-items.ensures.value ∙ c.text.view_is in
    let items : Items = c.in_ok-items.items.items in
    let len : c.len-count.result ≡ length items = search rules in
    let some = some_items c.args.geometry (state c.args.queue.now.port) (state c.loop-line.queue.port) c.args.text.now xs c.loop-line.line-index c.loop-line.number c.loop-line.next c.loop-line.last inv.so_far
    c.requires.clean c.requires.good same c.loop-line-test.true c.line-item.result c.line-item.is inv.number items c.in_ok-items.ensures in
    omega (arith, some, len)

pub returns-clause-ok : goal.returns-clause-ok
returns-clause-ok g c =
    let state = g.P.Port.state in
    let xs : Lines = c.deref-line-items.result.now in
    let lines : Lines = c.args.text.now in
    let same : xs ≡ lines = c.deref-line-items.ensures.value ∙ c.text.view_is in
    let len : length xs ≡ length lines = ap length same in
    let all : c.loop-line.line-index ≡ length lines = omega (arith, len) in
    λ q r image base.
    finished c.args.geometry (state c.args.queue.now.port) (state c.loop-line.queue.port) lines c.loop-line.line-index c.loop-line.next c.loop-line.last c.loop-line.invariant.so_far
    c.requires.clean.one c.requires.clean.low (omega (arith, places_many lines, c.requires.good.1)) all q r image base

pub returns-clause-rung : goal.returns-clause-rung
returns-clause-rung g c =
    let state = g.P.Port.state in
    let xs : Lines = c.deref-line-items.result.now in
    let lines : Lines = c.args.text.now in
    let same : xs ≡ lines = c.deref-line-items.ensures.value ∙ c.text.view_is in
    let len : length xs ≡ length lines = ap length same in
    let all : c.loop-line.line-index ≡ length lines = omega (arith, len) in
    finished_rung c.args.geometry (state c.args.queue.now.port) (state c.loop-line.queue.port) lines c.loop-line.line-index c.loop-line.next c.loop-line.last c.loop-line.invariant.so_far all

pub returns-in_err-items-clause-cut : goal.returns-in_err-items-clause-cut
returns-in_err-items-clause-cut g c =
    let state = g.P.Port.state in
    let inv = c.loop-line.invariant in
    let xs : Lines = c.deref-line-items.result.now in
    let same : xs ≡ c.args.text.now = c.deref-line-items.ensures.value ∙ c.text.view_is in
    let stopped = line_between c.args.geometry (state c.args.queue.now.port) (state c.loop-line.queue.port) c.args.text.now xs c.loop-line.line-index c.loop-line.number c.loop-line.next c.loop-line.last inv.so_far
    c.requires.clean c.requires.good same c.loop-line-test.true c.line-item.result c.line-item.is inv.number in
    let p = err_from_is_err_and c.from_residual.result c.from_residual.ensures.1 in
    rw p.1 (stopped.count, stopped.stopped, stopped.shows)

pub returns-in_err-commit_line-clause-cut : goal.returns-in_err-commit_line-clause-cut
returns-in_err-commit_line-clause-cut g c =
    let state = g.P.Port.state in
    let inv = c.loop-line.invariant in
    let xs : Lines = c.deref-line-items.result.now in
    let same : xs ≡ c.args.text.now = c.deref-line-items.ensures.value ∙ c.text.view_is in
    let cut = c.in_err-commit_line.ensures.cut in
    let stopped = line_stopped c.args.geometry (state c.args.queue.now.port) (state c.loop-line.queue.port) c.args.text.now xs c.loop-line.line-index c.loop-line.number c.loop-line.next c.loop-line.last inv.so_far
    c.requires.clean c.requires.good same c.loop-line-test.true c.line-item.result c.line-item.is inv.number c.in_ok-items.items.items (state c.commit_line.new.queue.port) cut.0 c.in_ok-items.ensures cut.1 in
    let p = err_from_is_err_and c.from_residual-in_err-commit_line.result c.from_residual-in_err-commit_line.ensures.1 in
    rw p.1 (stopped.count, stopped.stopped, stopped.shows)

pub returns-in_err-commit_line-clause-port : goal.returns-in_err-commit_line-clause-port
returns-in_err-commit_line-clause-port g c = c.in_err-commit_line.ensures.cut.1.port c.args.geometry (Queue 0) c.loop-line.invariant.so_far.keeps.port

pub commit_line-requires-clause-some : goal.commit_line-requires-clause-some
commit_line-requires-clause-some g c =
    let state = g.P.Port.state in
    let inv = c.loop-line.invariant in
    let xs : Lines = c.deref-line-items.result.now in
    let same : xs ≡ c.args.text.now = c.deref-line-items.ensures.value ∙ c.text.view_is in
    some_items c.args.geometry (state c.args.queue.now.port) (state c.loop-line.queue.port) c.args.text.now xs c.loop-line.line-index c.loop-line.number c.loop-line.next c.loop-line.last inv.so_far
    c.requires.clean c.requires.good same c.loop-line-test.true c.line-item.result c.line-item.is inv.number c.in_ok-items.items.items c.in_ok-items.ensures
