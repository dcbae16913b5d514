use Rattle.std.proofs.Common.{refl}
use Rattle.mq_command_io.specs.Ending.{said}
use Rattle.mq_kv_cli.specs.Help.{help_text, version_line}
use Rattle.mq_kv_tool.proofs.program.run.Goals as goal

pub returns-in-Help-clause-ends : goal.returns-in-Help-clause-ends
returns-in-Help-clause-ends g c = rw c.in-Help.is (0, help_text c.in-Help.topic, said refl, c.say_help.ensures)

pub returns-in-Version-clause-ends : goal.returns-in-Version-clause-ends
returns-in-Version-clause-ends g c = rw c.in-Version.is (0, version_line, said refl, c.say_version.ensures)
