use Rattle.std.proofs.Common.{◌≡◌, map, take}
use Rattle.std.specs.Prelude.{option_map}
use Rattle.clap.specs.Words.{app_of}
use Rattle.mq_cli.specs.Syntax.{app_with}
use Rattle.mq_cli.proofs.parse.with_words.Given as goal

abbrev pub invariant-loop-option : goal.invariant-loop-option
invariant-loop-option l = app_of l.command ≡ app_with l.verb (map (λ s. s.now) l.names) (option_map (λ s. s.now) l.fn.repeated) (map (λ s. s.now) (take l.option-index l.options))
