use Rattle.std.proofs.Common.{List, ℕ, Bor, map}
use Rattle.mq_command_run.proofs.RunsScripts.{bad-script-where, done-where, fault-where, limit-where, no-volume-where, too-many-where}
use Rattle.mq_command_run.proofs.running.run.Goals as goal

pub returns-clause-done_where : goal.returns-clause-done_where
returns-clause-done_where g c = λ bytes x v texts tells read hold few for within.
    let files = g.F.Files.state in
    let sink = g.K.Sink.state in
    done-where c.args.options c.args.name.now (map (λ (s : Bor (List ℕ)). s.now) c.args.scripts.now) (files c.args.files.now) (files c.run_or_say.new.files) c.run_or_say.result bytes x tells read texts hold (sink c.args.out.now) (sink c.run_or_say.new.out) c.run_or_say.ensures few v for within

pub returns-clause-refused_where : goal.returns-clause-refused_where
returns-clause-refused_where g c = λ bytes e tells has.
    let files = g.F.Files.state in
    let sink = g.K.Sink.state in
    fault-where c.args.options c.args.name.now (map (λ (s : Bor (List ℕ)). s.now) c.args.scripts.now) (files c.args.files.now) (files c.run_or_say.new.files) (sink c.args.out.now) (sink c.run_or_say.new.out) c.run_or_say.result bytes e c.run_or_say.ensures tells has

pub returns-clause-bad_script_where : goal.returns-clause-bad_script_where
returns-clause-bad_script_where g c = λ bytes x tells read bad.
    let files = g.F.Files.state in
    let sink = g.K.Sink.state in
    bad-script-where c.args.options c.args.name.now (map (λ (s : Bor (List ℕ)). s.now) c.args.scripts.now) (files c.args.files.now) (files c.run_or_say.new.files) c.run_or_say.result bytes x tells read (sink c.args.out.now) (sink c.run_or_say.new.out) c.run_or_say.ensures bad

pub returns-clause-too_many_where : goal.returns-clause-too_many_where
returns-clause-too_many_where g c = λ bytes x texts tells read hold more.
    let files = g.F.Files.state in
    let sink = g.K.Sink.state in
    too-many-where c.args.options c.args.name.now (map (λ (s : Bor (List ℕ)). s.now) c.args.scripts.now) (files c.args.files.now) (files c.run_or_say.new.files) c.run_or_say.result bytes x tells read texts hold (sink c.args.out.now) (sink c.run_or_say.new.out) c.run_or_say.ensures more

pub returns-clause-no_volume_where : goal.returns-clause-no_volume_where
returns-clause-no_volume_where g c = λ bytes x texts tells read hold few none.
    let files = g.F.Files.state in
    let sink = g.K.Sink.state in
    no-volume-where c.args.options c.args.name.now (map (λ (s : Bor (List ℕ)). s.now) c.args.scripts.now) (files c.args.files.now) (files c.run_or_say.new.files) c.run_or_say.result bytes x tells read texts hold (sink c.args.out.now) (sink c.run_or_say.new.out) c.run_or_say.ensures few none

pub returns-clause-limit_where : goal.returns-clause-limit_where
returns-clause-limit_where g c = λ bytes x texts ds top n tells read hold few reads above.
    let files = g.F.Files.state in
    let sink = g.K.Sink.state in
    limit-where c.args.options c.args.name.now (map (λ (s : Bor (List ℕ)). s.now) c.args.scripts.now) (files c.args.files.now) (files c.run_or_say.new.files) c.run_or_say.result bytes x tells read texts hold (sink c.args.out.now) (sink c.run_or_say.new.out) c.run_or_say.ensures few ds top n reads above
