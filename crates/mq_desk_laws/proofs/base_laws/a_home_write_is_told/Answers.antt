use Rattle.mq_desk_laws.proofs.PagesHomeWrites.{log_brought, grown_brought, side_brought, root_brought, side_else, root_else, home_number_with, numbers_brought}
use Rattle.mq_desk_laws.proofs.base_laws.a_home_write_is_told.Goals as goal

pub returns : goal.returns
returns c = record {
  log = λ k ended x version logged home log bring. (log_brought k ended x version logged home log bring, grown_brought k ended x version logged home bring);
  side = λ k ended x version logged home block q txs p log bring there zone side. side_brought k ended x version logged home block q txs p log bring there side zone;
  root = λ k ended x version logged home block p log bring there zone inside root. root_brought k ended x version logged home block p log bring there root zone inside;
  other_side = λ k ended x version logged home q txs p log bring other side. side_else k ended x version logged home q txs p log bring side other;
  other_root = λ k ended x version logged home p log bring other root. root_else k ended x version logged home p log bring root other;
  page = λ k ended x version logged home bring. (home_number_with k ended x version logged home bring, numbers_brought k ended x version logged home bring);
}
