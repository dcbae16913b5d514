use Rattle.std.proofs.Common.{◌≡◌, ℕ, List, Option, None, get_or, sym, ◌∙◌, ap}
use Rattle.std.proofs.lemmas.List.{get_or_default}
use Rattle.mq_blocks.specs.Blocks.{content}
use Rattle.mq_blocks.proofs.BlocksZeros.{zeros-at}
use Rattle.mq_command_blocks.proofs.live.first_byte.Goals as goal

pub returns-in-None : goal.returns-in-None
returns-in-None c =
    let homes = c.args.homes.now in
    let found : c.index-homes-b.result ≡ get_or homes c.args.b None = c.index-homes-b.is ∙ get_or_default homes c.args.b c.index-homes-b.result None c.requires in
    sym (ap (λ (o : Option (List ℕ)). get_or (content o) 0 0) (sym found ∙ c.in-None.is) ∙ zeros-at 0)
