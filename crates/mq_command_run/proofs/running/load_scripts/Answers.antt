use Rattle.std.proofs.Common.{[], ◌+◌, Bor, List, ℕ, map, drop, get_or, refl, sym, ◌∙◌, subst, inl}
use Rattle.mq_command_run.specs.RunsScripts.{RefusesScripts}
use Rattle.mq_command_io.specs.Ending.{EndsWith}
use Rattle.mq_outside.specs.Outside.{SinkState}
use Rattle.mq_command_run.proofs.RunsScripts.{Goes, goes-all, goes-first, goes-on, next-name, no-names}
use Rattle.mq_command_run.proofs.running.load_scripts.Goals as goal

pub loop-name-init : goal.loop-name-init
loop-name-init g c = record {
  silent = refl;
  goes = goes-first (map (λ s. s.now) c.args.names.now) c.new-scripts.result.items (g.F.Files.state c.args.files.now) c.new-scripts.ensures.items;
}

pub loop-name-preserved : goal.loop-name-preserved
loop-name-preserved g c =
    let d : Bor (List ℕ) = record { ref_ptr = (0, 0); now = [] } in
    let files = g.F.Files.state in
    let names = map (λ (s : Bor (List ℕ)). s.now) c.args.names.now in
    let left = map (λ (s : Bor (List ℕ)). s.now) (drop (c.loop-name.name-index + 1) c.args.names.now) in
    let name = (get_or c.args.names.now c.loop-name.name-index d).now in
    record {
      silent = c.in-Ok.ensures.silent ∙ c.loop-name.invariant.silent;
      goes = goes-on names left name c.loop-name.scripts.items c.load_script.new.scripts.items (files c.args.files.now) (files c.loop-name.files) (files c.load_script.new.files)
          (subst (λ (l : List (List ℕ)). Goes names l c.loop-name.scripts.items (files c.args.files.now) (files c.loop-name.files)) (next-name c.args.names.now c.loop-name.name-index d c.loop-name-test.true) c.loop-name.invariant.goes)
          c.in-Ok.ensures.ok;
    }

pub returns-in-Err-clause-refused : goal.returns-in-Err-clause-refused
returns-in-Err-clause-refused g c =
    let d : Bor (List ℕ) = record { ref_ptr = (0, 0); now = [] } in
    let files = g.F.Files.state in
    let sink = g.K.Sink.state in
    let refused = c.in-Err.ensures.refused in (
      refused.0,
      refused.1,
      c.loop-name.invariant.goes.refused (files c.load_script.new.files) refused.0 refused.1
          (subst (λ (l : List (List ℕ)). RefusesScripts l (files c.loop-name.files) (files c.load_script.new.files) refused.0 refused.1) (sym (next-name c.args.names.now c.loop-name.name-index d c.loop-name-test.true)) (inl refused.2)),
      subst (λ (s : SinkState). EndsWith refused.0 refused.1 c.in-Err.status s (sink c.load_script.new.out)) c.loop-name.invariant.silent refused.3,
    )

pub returns-clause-ok : goal.returns-clause-ok
returns-clause-ok g c =
    let files = g.F.Files.state in
    let names = map (λ (s : Bor (List ℕ)). s.now) c.args.names.now in
    goes-all names c.loop-name.scripts.items (files c.args.files.now) (files c.loop-name.files)
    (subst (λ (l : List (List ℕ)). Goes names l c.loop-name.scripts.items (files c.args.files.now) (files c.loop-name.files)) (no-names c.args.names.now c.loop-name.name-index c.loop-name-test.false) c.loop-name.invariant.goes)
