use Rattle.std.proofs.Common.{sym, ◌∙◌}
use Rattle.std.proofs.lemmas.Bool.{eq-eqb, eqb-true}
use Rattle.mq_ledger.proofs.TablesLedgers.{logs_to, logs_from}
use Rattle.mq_ledger.proofs.records.Ledger.is_logged_last.Goals as goal

pub returns : goal.returns
returns c =
    let s = c.args.self.now in
    let k = c.newest_of-latest.ensures in (
      λ t. logs_to s.base c.args.block s.history k.numbers (sym k.is.change ∙ eqb-true _ _ t ∙ k.is.logged),
      λ logs. eq-eqb _ _ (k.is.change ∙ logs_from s.base c.args.block s.history k.numbers logs ∙ sym k.is.logged),
    )
