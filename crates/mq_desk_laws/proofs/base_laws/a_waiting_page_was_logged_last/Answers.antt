use Rattle.std.proofs.Common.{arith}
use Rattle.mq_desk_laws.proofs.PagesHomeWrites.{above_base, logged_last}
use Rattle.mq_desk_laws.proofs.base_laws.a_waiting_page_was_logged_last.Goals as goal

pub returns : goal.returns
returns c = record {
  logged = λ k ended x version logged home log bring. (let u = logged_last k ended x version logged home log bring in (u.due, u.high, u.logged));
  above = λ k ended b x version logged home content log ok bring inside there.
      let above = above_base k b x content log ok (logged_last k ended x version logged home log bring) inside there in
      let v = bring.version_is in
      omega arith;
}
