use Rattle.mq_desk_laws.proofs.PagesHomeWrites.{logged_last}
use Rattle.mq_state_laws.specs.Parts.{known}
use Rattle.mq_state_laws.proofs.PartsGuards.{may_store_base, may_write_home}
use Rattle.mq_state_laws.proofs.laws.parts_allow_home_writes_and_bases.Goals as goal

pub returns : goal.returns
returns c = record {
  page = λ p marks ended x version logged home content are bring inside there. may_write_home p marks are x content inside there (logged_last (known p) ended x version logged home are.log bring);
  base = λ p marks b are ok. may_store_base p marks are b ok;
}
