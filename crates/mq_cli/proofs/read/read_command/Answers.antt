use Rattle.std.proofs.Common.{◌≡◌, ◌≢◌, ◌-◌, ◌⊎◌, ◌∙◌, Option, Some, [], take, drop, length, map, ap, sym, subst}
use Rattle.std.specs.String.{string_bytes}
use Rattle.std.proofs.lemmas.Result.{MatchResult-weaker, err_from_is_err_and}
use Rattle.clap.specs.Words.{App, fault_of, found_of, is_simple, is_simple_and_free, matches_of, rows_of}
use Rattle.mq_cli.specs.Asked.{asked_by, asked_of, commands, first_in, found_in}
use Rattle.mq_cli.specs.Syntax.{verb_of}
use Rattle.mq_cli.specs.declared.first.First.TheVariants as first
use Rattle.mq_cli.specs.declared.refusal.WordsRefusal.TheVariants.{OutOfMemory, Unknown}
use Rattle.mq_cli.specs.declared.verb.Verb.{Verb}
use Rattle.mq_cli.proofs.Asked.{asked_by_first, found_taken, none_as, refused_as}
use Rattle.mq_cli.proofs.SyntaxApps.{simple, simple_and_free}
use Rattle.mq_cli.proofs.read.read_command.Goals as goal

pub parse_words-requires-clause-free : goal.parse_words-requires-clause-free
parse_words-requires-clause-free c = ap is_simple_and_free c.in_ok-command-in-Command.ensures ∙ simple_and_free c.in-Command.verb

pub parse_words-requires-clause-simple : goal.parse_words-requires-clause-simple
parse_words-requires-clause-simple c = ap is_simple c.in_ok-command-in-Command.ensures ∙ simple c.in-Command.verb

pub returns-in_err-matches-in-Command-clause-asks : goal.returns-in_err-matches-in-Command-clause-asks
returns-in_err-matches-in-Command-clause-asks c =
    let v = c.in-Command.verb in
    let words = map string_bytes c.args.words.now in
    let rest = map string_bytes (take (length c.args.words.now - 1) (drop 1 c.args.words.now)) in
    let word = c.deref-2.result.now in
    let named : verb_of word ≡ c.read_verb.result = ap verb_of (c.deref-2.ensures ∙ sym c.deref.ensures) ∙ sym c.read_verb.ensures in
    let is : first_in (verb_of word) word rest ≡ Some (first.Command v) = ap (λ (o : Option Verb). first_in o word rest) named ∙ c.in_ok-topic.ensures ∙ ap Some c.in-Command.is in
    let same : asked_of words ≡ found_in commands v words = asked_by_first commands string_bytes c.args.words.now c.word-item.result word (Some (first.Command v)) c.in-len1-up.len_at_least c.word-item.is c.deref-2.ensures is in
    let p = err_from_is_err_and c.from_residual-in_err-matches-in-Command.result c.from_residual-in_err-matches-in-Command.ensures.1 in
    let e = c.in_err-matches-in-Command.field-0.0 in
    rw (p.1, p.2) (refused_as commands v words (asked_of words) e same (subst (λ (a : App). (e ≡ OutOfMemory) ⊎ ((e ≡ Unknown) × (fault_of a words ≢ []))) c.in_ok-command-in-Command.ensures c.in_err-matches-in-Command.ensures.refused))

pub returns-in_ok-matches-in-Command-clause-asks : goal.returns-in_ok-matches-in-Command-clause-asks
returns-in_ok-matches-in-Command-clause-asks c =
    let v = c.in-Command.verb in
    let words = map string_bytes c.args.words.now in
    let rest = map string_bytes (take (length c.args.words.now - 1) (drop 1 c.args.words.now)) in
    let word = c.deref-2.result.now in
    let named : verb_of word ≡ c.read_verb.result = ap verb_of (c.deref-2.ensures ∙ sym c.deref.ensures) ∙ sym c.read_verb.ensures in
    let is : first_in (verb_of word) word rest ≡ Some (first.Command v) = ap (λ (o : Option Verb). first_in o word rest) named ∙ c.in_ok-topic.ensures ∙ ap Some c.in-Command.is in
    let same : asked_of words ≡ found_in commands v words = asked_by_first commands string_bytes c.args.words.now c.word-item.result word (Some (first.Command v)) c.in-len1-up.len_at_least c.word-item.is c.deref-2.ensures is in
    let app = c.in_ok-command-in-Command.ensures in
    let m = c.in_ok-matches-in-Command in
    let found : found_in commands v words ≡ asked_by v (rows_of (found_of m.matches)) =
    found_taken commands v words (rows_of (found_of m.matches)) (ap (λ (a : App). fault_of a words) (sym app) ∙ m.ensures.taken) (m.ensures.rows ∙ ap (λ (a : App). matches_of a words) app) in
    MatchResult-weaker c.command_of.result c.command_of.ensures.asks (λ x at. same ∙ found ∙ at) (λ e at. none_as _ _ e (same ∙ found) at)
