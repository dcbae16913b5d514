use Rattle.std.proofs.Common.{◌<◌, ◌^◌, List, Option, ℕ, Bor, IfSome, map, refl, sym, subst, arith}
use Rattle.mq_command_io.specs.Ending.{said}
use Rattle.mq_command_images.specs.Recovers.{Recovers}
use Rattle.mq_command_run.specs.RunsScripts.{Runs}
use Rattle.mq_cli.specs.Asked.{HasSmallNumbers, number_end}
use Rattle.mq_cli.specs.Help.{help_text, version_line}
use Rattle.mqfs.specs.Decided.{IsRunnable, RunDecides}
use Rattle.mqfs.specs.Says.{numbers, run_options}
use Rattle.mqfs.proofs.Decided.{chains_decided, file_decided, numbers_decided, standing_decided, trace_decided, tree_decided}
use Rattle.mqfs.proofs.program.run.Goals as goal

pub recover-requires : goal.recover-requires
recover-requires g c = λ k is.
    let small = subst HasSmallNumbers c.in-Recover.is c.requires.small in
    let low : k < 2 ^ 63 = subst (λ (o : Option ℕ). IfSome o (λ (n : ℕ). n < number_end)) is small.0 in
    omega (arith, low)

pub returns-in-Recover-clause-ends : goal.returns-in-Recover-clause-ends
returns-in-Recover-clause-ends g c =
    let files = g.F.Files.state in
    let ends = c.recover.ensures.ends in
    rw c.in-Recover.is (
      ends.0,
      ends.1,
      subst (λ (n : ℕ). Recovers c.in-Recover.cut n c.in-Recover.image.now (files c.args.files.now) (files c.recover.new.files) ends.0 ends.1) c.unwrap_or.ensures ends.2,
      ends.3,
    )

pub returns-in-Ls-clause-ends : goal.returns-in-Ls-clause-ends
returns-in-Ls-clause-ends g c = rw c.in-Ls.is c.ls.ensures.ends

pub returns-in-Cat-clause-ends : goal.returns-in-Cat-clause-ends
returns-in-Cat-clause-ends g c = rw c.in-Cat.is c.cat.ensures.ends

pub returns-in-Gen-clause-ends : goal.returns-in-Gen-clause-ends
returns-in-Gen-clause-ends g c = rw c.in-Gen.is c.run_workload.ensures.ends

pub returns-in-Dump-clause-ends : goal.returns-in-Dump-clause-ends
returns-in-Dump-clause-ends g c = rw c.in-Dump.is c.dump.ensures.ends

pub returns-in-Check-clause-ends : goal.returns-in-Check-clause-ends
returns-in-Check-clause-ends g c = rw c.in-Check.is c.check.ensures.ends

pub returns-in-Audit-clause-ends : goal.returns-in-Audit-clause-ends
returns-in-Audit-clause-ends g c = rw c.in-Audit.is c.audit.ensures.ends

pub returns-in-Replicate-clause-ends : goal.returns-in-Replicate-clause-ends
returns-in-Replicate-clause-ends g c = rw c.in-Replicate.is c.run_replicate.ensures.ends

pub run_loose-requires : goal.run_loose-requires
run_loose-requires g c =
    let small = subst HasSmallNumbers c.in-Loose.is c.requires.small in
    small.0

pub returns-in-Loose-clause-ends : goal.returns-in-Loose-clause-ends
returns-in-Loose-clause-ends g c = rw c.in-Loose.is c.run_loose.ensures.ends

pub returns-in-Help-clause-ends : goal.returns-in-Help-clause-ends
returns-in-Help-clause-ends g c = rw c.in-Help.is (0, help_text c.in-Help.topic, said refl, c.say_help.ensures)

pub returns-in-Version-clause-ends : goal.returns-in-Version-clause-ends
returns-in-Version-clause-ends g c = rw c.in-Version.is (0, version_line, said refl, c.say_version.ensures)

pub returns-in-Run-clause-ends : goal.returns-in-Run-clause-ends
returns-in-Run-clause-ends g c =
    let files = g.F.Files.state in
    let sink = g.K.Sink.state in
    let ends = c.run_script_files.ensures.ends in
    rw c.in-Run.is (
      ends.0,
      ends.1,
      subst (λ (l : List (Bor (List ℕ))). Runs (run_options c.in-Run.options) c.in-Run.image.now (map (λ s. s.now) l) (files c.args.files.now) (files c.run_script_files.new.files) ends.0 ends.1) c.deref.ensures.value ends.2,
      ends.3,
    )

pub returns-in-Run-clause-decided : goal.returns-in-Run-clause-decided
returns-in-Run-clause-decided g c =
    rw c.in-Run.is (λ status decides.
    c.run_script_files.ensures.decided status
    (subst (λ (l : List (Bor (List ℕ))). RunDecides c.in-Run.image.now (map (λ s. s.now) l) c.in-Run.options (g.F.Files.state c.args.files.now).contents status) (sym c.deref.ensures.value) decides))

pub returns-in-Run-clause-runs : goal.returns-in-Run-clause-runs
returns-in-Run-clause-runs g c =
    rw c.in-Run.is (λ runs.
    c.run_script_files.ensures.runs
    (subst (λ (l : List (Bor (List ℕ))). IsRunnable c.in-Run.image.now (map (λ s. s.now) l) (g.F.Files.state c.args.files.now).contents) (sym c.deref.ensures.value) runs))

pub returns-in-Format-clause-decided : goal.returns-in-Format-clause-decided
returns-in-Format-clause-decided g c = rw c.in-Format.is (numbers_decided (numbers c.in-Format.queues c.in-Format.area c.in-Format.meta c.in-Format.zone) c.format.result c.format.ensures.done_where c.format.ensures.refused_where)

pub returns-in-Recover-clause-decided : goal.returns-in-Recover-clause-decided
returns-in-Recover-clause-decided g c =
    rw c.in-Recover.is (standing_decided c.in-Recover.image.now (g.F.Files.state c.args.files.now).contents c.recover.result c.recover.ensures.refused_where c.recover.ensures.unreadable_where c.recover.ensures.done_where)

pub returns-in-Ls-clause-decided : goal.returns-in-Ls-clause-decided
returns-in-Ls-clause-decided g c =
    rw c.in-Ls.is (tree_decided c.in-Ls.image.now (g.F.Files.state c.args.files.now).contents c.ls.result c.ls.ensures.refused_where c.ls.ensures.no_volume_where c.ls.ensures.done_where)

pub returns-in-Cat-clause-decided : goal.returns-in-Cat-clause-decided
returns-in-Cat-clause-decided g c =
    rw c.in-Cat.is (file_decided c.in-Cat.image.now (g.F.Files.state c.args.files.now).contents c.cat.result c.cat.ensures.refused_where c.cat.ensures.no_volume_where c.in-Cat.path c.cat.ensures.done_where c.cat.ensures.no_file_where)

pub returns-in-Dump-clause-decided : goal.returns-in-Dump-clause-decided
returns-in-Dump-clause-decided g c =
    rw c.in-Dump.is (chains_decided c.in-Dump.image.now (g.F.Files.state c.args.files.now).contents c.dump.result c.dump.ensures.refused_where c.dump.ensures.unreadable_where c.dump.ensures.done_where)

pub returns-in-Check-clause-decided : goal.returns-in-Check-clause-decided
returns-in-Check-clause-decided g c =
    rw c.in-Check.is (standing_decided c.in-Check.image.now (g.F.Files.state c.args.files.now).contents c.check.result c.check.ensures.refused_where c.check.ensures.unreadable_where c.check.ensures.done_where)

pub returns-in-Audit-clause-decided : goal.returns-in-Audit-clause-decided
returns-in-Audit-clause-decided g c =
    rw c.in-Audit.is (trace_decided c.in-Audit.trace.now (g.F.Files.state c.args.files.now).contents c.audit.result c.audit.ensures.done_where c.audit.ensures.refused_where)
