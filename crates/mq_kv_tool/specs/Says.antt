-- What there is to say of what words ask, and with which status.
use Rattle.std.specs.Prelude.{◌≡◌, ℕ, List}
use Rattle.std.specs.Option.{unwrap_or}
use Rattle.mq_command_io.specs.Ending.{SaysOnly}
use Rattle.mq_kv_cli.specs.Asked.{Asked, apply, help, make, version}
use Rattle.mq_kv_cli.specs.Help.{help_text, version_line}
use Rattle.mq_kv_cli.specs.declared.command.ApplyOptions.{ApplyOptions}
use Rattle.mq_kv_run.specs.declared.options.KvOptions.{KvOptions}
use Rattle.mq_kv_tool.specs.Applies.{Applies}
use Rattle.mq_kv_tool.specs.Makes.{Makes}
use Rattle.mq_outside.specs.Outside.{FilesState}

-- draws come from 0 where no pick is given
abbrev pub kv_options : ApplyOptions → KvOptions
kv_options o = record { cut = o.cut; pick = unwrap_or o.pick 0 }

abbrev pub Says : Asked → (old new : FilesState) → (status : ℕ) → (text : List ℕ) → Type 0
Says (make image) old new status text = Makes image old new status text
Says (apply image file options) old new status text = Applies (kv_options options) image file old new status text
Says (help topic) old new status text = SaysOnly (help_text topic) old new status text
Says version old new status text = SaysOnly version_line old new status text
