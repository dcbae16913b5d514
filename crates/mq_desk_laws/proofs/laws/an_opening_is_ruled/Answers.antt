use Rattle.mq_desk_laws.proofs.Meaning.{starts}
use Rattle.mq_desk_laws.proofs.laws.an_opening_is_ruled.Goals as goal

pub returns : goal.returns
returns g c = λ o fresh. let is = starts g.J.JournalValues.values g.J.JournalValues.group o fresh in record { ok = is.ok; pages = is.pages; sides = is.sides; root = is.root }
