use Rattle.std.proofs.Common.{Some, ap, sym, ◌∙◌}
use Rattle.std.proofs.lemmas.Bool.{false≢true}
use Rattle.mq_block_text.proofs.TextNumbers.{numeral_of, numeral_is, value_is, with_more, too_large}
use Rattle.mq_block_text.proofs.number.read_number.Goals as goal

pub returns-then-not-is_numeral-clause-only : goal.returns-then-not-is_numeral-clause-only
returns-then-not-is_numeral-clause-only c = λ n small e.
    absurd (false≢true (sym c.if-not-is_numeral.true ∙ c.is_numeral.ensures.1 (numeral_of c.args.text.now n small e)))

pub returns-in-None-clause-only : goal.returns-in-None-clause-only
returns-in-None-clause-only c = λ n small e.
    absurd (too_large c.args.text.now c.loop-digit.number c.loop-digit.digit-index n c.loop-digit.invariant.value c.loop-digit-test.true (c.with_digit.ensures.none c.in-None.is) small e)

pub loop-digit-preserved : goal.loop-digit-preserved
loop-digit-preserved c = record {
  small = c.in-Some.ensures.some.0;
  value =
      c.in-Some.ensures.some.1
      ∙ with_more c.args.text.now c.loop-digit.number c.loop-digit.digit-index (c.is_numeral.ensures.0 c.if-not-is_numeral.false).2 c.loop-digit.invariant.value c.loop-digit-test.true;
}

pub returns-clause-found : goal.returns-clause-found
returns-clause-found c = (
  c.loop-digit.invariant.small,
  numeral_is c.args.text.now c.loop-digit.number c.loop-digit.digit-index (c.is_numeral.ensures.0 c.if-not-is_numeral.false) c.loop-digit.invariant.small c.loop-digit.invariant.value c.loop-digit-test.false,
)

pub returns-clause-only : goal.returns-clause-only
returns-clause-only c = λ n small e.
    ap Some (value_is c.args.text.now c.loop-digit.number c.loop-digit.digit-index n c.loop-digit.invariant.value c.loop-digit-test.false small e)
