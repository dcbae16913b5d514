use Rattle.std.specs.Option.{option_map}
use Rattle.mq_turns.proofs.steps.look.Given as goal

abbrev pub ghosts-look_as : goal.ghosts-look_as
ghosts-look_as g a = record { told = option_map (λ e. e.now) a.read }
