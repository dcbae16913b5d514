use Rattle.std.proofs.Common.{rules, tests, ◌≡◌}
use Rattle.std.proofs.lemmas.Iterator.{YieldsList-from_slice}
use Rattle.std.proofs.lemmas.Iterator.Search.{position_from_yields_List}
use Rattle.mq_script.proofs.WordsCutting.{is_space, space_in, words_at, words_alone}
use Rattle.mq_script.proofs.words.cut_word.Goals as goal

pub returns-in-Some : goal.returns-in-Some
returns-in-Some c =
    let found : c.position.result ≡ space_in c.args.text.now =
    position_from_yields_List is_space _ _ c.position.result c.position.ensures.ran (YieldsList-from_slice c.args.text.now cc) (λ x b q k. search (rules, tests)) in
    words_at c.args.text.now c.position.result c.in-Some.at found c.in-Some.is

pub returns-in-None : goal.returns-in-None
returns-in-None c =
    let found : c.position.result ≡ space_in c.args.text.now =
    position_from_yields_List is_space _ _ c.position.result c.position.ensures.ran (YieldsList-from_slice c.args.text.now cc) (λ x b q k. search (rules, tests)) in
    words_alone c.args.text.now c.position.result found c.in-None.is
