use Rattle.mq_sessions.proofs.PagesHolding.{pages-beside-all, pages-after, pages-kept-all, pages-renewed}
use Rattle.mq_sessions.proofs.laws.held_pages_stay.Goals as goal

pub returns : goal.returns
returns g c = record {
  take = λ o cells v k K other h. pages-beside-all g.M.Machine.meaning o cells v k K other h;
  give_back = λ o cells v k other h. pages-kept-all g.M.Machine.meaning o cells v k other h;
  step = λ o cells v w about L apart is h. pages-renewed g.M.Machine.meaning o cells v w about L apart is h;
  follow = λ o cells new v w about L zip is h. pages-after g.M.Machine.meaning o cells new v w about L zip is h;
}
