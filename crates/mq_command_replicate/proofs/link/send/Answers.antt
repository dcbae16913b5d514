use Rattle.std.proofs.Common.{rules, ◌≢◌, ◌%◌, sym, ap}
use Rattle.rand_pcg.specs.Lcg.{Lcg}
use Rattle.mq_command_replicate.specs.declared.link.Arrival.{Arrival}
use Rattle.mq_command_replicate.proofs.Links.{at_last, lost, once, twice}
use Rattle.mq_command_replicate.proofs.link.send.Goals as goal

pub returns-in-1-clause-arrival : goal.returns-in-1-clause-arrival
returns-in-1-clause-arrival c =
    sym (ap (λ (p : Arrival × Lcg). p.0) (twice c.loop.words c.next_word.new.self c.next_word.result c.next_word.ensures c.args.words.now c.loop.counter c.loop.invariant c.loop-test.true c.in-1.is))

pub returns-in-1-clause-words : goal.returns-in-1-clause-words
returns-in-1-clause-words c =
    sym (ap (λ (p : Arrival × Lcg). p.1) (twice c.loop.words c.next_word.new.self c.next_word.result c.next_word.ensures c.args.words.now c.loop.counter c.loop.invariant c.loop-test.true c.in-1.is))

pub returns-in_default-clause-arrival : goal.returns-in_default-clause-arrival
returns-in_default-clause-arrival c =
    let first : c.next_word.result % 4 ≢ 0 = search rules in
    let second : c.next_word.result % 4 ≢ 1 = search rules in
    sym (ap (λ (p : Arrival × Lcg). p.0) (once c.loop.words c.next_word.new.self c.next_word.result c.next_word.ensures c.args.words.now c.loop.counter c.loop.invariant c.loop-test.true first second))

pub returns-in_default-clause-words : goal.returns-in_default-clause-words
returns-in_default-clause-words c =
    let first : c.next_word.result % 4 ≢ 0 = search rules in
    let second : c.next_word.result % 4 ≢ 1 = search rules in
    sym (ap (λ (p : Arrival × Lcg). p.1) (once c.loop.words c.next_word.new.self c.next_word.result c.next_word.ensures c.args.words.now c.loop.counter c.loop.invariant c.loop-test.true first second))

pub loop-preserved : goal.loop-preserved
loop-preserved c = lost c.loop.words c.next_word.new.self c.next_word.result c.next_word.ensures c.args.words.now c.loop.counter c.loop.invariant c.loop-test.true c.in-0.is

pub returns-clause-arrival : goal.returns-clause-arrival
returns-clause-arrival c = sym (ap (λ (p : Arrival × Lcg). p.0) (at_last c.args.words.now c.loop.words c.loop.counter c.loop.invariant c.loop-test.false))

pub returns-clause-words : goal.returns-clause-words
returns-clause-words c = sym (ap (λ (p : Arrival × Lcg). p.1) (at_last c.args.words.now c.loop.words c.loop.counter c.loop.invariant c.loop-test.false))
