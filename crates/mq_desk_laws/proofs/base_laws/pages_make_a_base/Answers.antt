use Rattle.mq_desk_laws.proofs.Pages.{all_home, none_yet, one_more, still_home}
use Rattle.mq_desk_laws.proofs.base_laws.pages_make_a_base.Goals as goal

pub returns : goal.returns
returns c = record {
  begin = λ k b. none_yet k b;
  next = λ k b x version logged home log is done brought before. one_more k b x version logged home log is done brought before;
  stay = λ k l b n log then grown reached each. still_home k l b n log then grown reached each;
  end = λ k b low reached each. all_home k b low reached each;
}
