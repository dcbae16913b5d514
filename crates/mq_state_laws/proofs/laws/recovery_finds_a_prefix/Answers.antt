use Rattle.mq_state_laws.proofs.Found.{readable, reads_prefix, recovers_prefix, stands_prefix, top_low}
use Rattle.mq_state_laws.proofs.laws.recovery_finds_a_prefix.Goals as goal

pub returns : goal.returns
returns c = record {
  readable = λ p d are written cut. readable p d are written cut;
  read = λ p d ds top are written cut is. reads_prefix p d are written cut ds top is;
  standing = λ p d s are written cut is. stands_prefix p d are written cut s is;
  recovered = λ p d new prefix base are written cut is. recovers_prefix p d are written cut new prefix base is;
  top = λ p d ds top are written cut is. top_low p d are written cut ds top is;
}
