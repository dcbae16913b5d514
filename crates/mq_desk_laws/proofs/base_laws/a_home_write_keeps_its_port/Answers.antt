use Rattle.mq_desk_laws.proofs.PagesHomeWrites.{logged_last}
use Rattle.mq_core.proofs.HomesWritten.{side_began, root_began, side_ended, root_ended, came_home, root_came}
use Rattle.mq_desk_laws.proofs.base_laws.a_home_write_keeps_its_port.Goals as goal

pub returns : goal.returns
returns c = record {
  begin = λ k ended x version logged home block q txs p log bring zone side. side_began k log x block (logged_last k ended x version logged home log bring) q txs p side zone;
  begin_root = λ k ended x version logged home block p log bring zone inside root. root_began k log x block (logged_last k ended x version logged home log bring) p root zone inside;
  end = λ k ended x version logged home block q txs p log bring zone side.
      let u = logged_last k ended x version logged home log bring in
      (side_ended k log x block u q txs p side zone, came_home k log x block u q txs p side zone);
  end_root = λ k ended x version logged home block p log bring zone inside root.
      let u = logged_last k ended x version logged home log bring in
      (root_ended k log x block u p root zone inside, root_came k log x block u p root zone inside);
}
