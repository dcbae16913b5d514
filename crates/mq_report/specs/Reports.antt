-- The text of a report.
use Rattle.std.specs.Prelude.{◌≡◌, ℕ, List}
use Rattle.std.specs.List.{AllPairs}
use Rattle.mq_report.specs.Lines.{Line}
use Rattle.mq_report.specs.Orders.{IsToldBefore, Precedes}
use Rattle.mq_report.specs.Ranges.{HaveFitReplies, IsSmall}
use Rattle.mq_report.specs.Texts.{report_lines, spelled}
use Rattle.mq_report.specs.declared.line.Last.{Last}
use Rattle.mq_report.specs.declared.line.Told.{Told}

-- These stand in their order, and the replies are bytes and good names.
pub record MayBeReported (entries : List Line) (answers : List Told) : Type 0 where
  pub entries_order : AllPairs Precedes entries
  pub answers_order : AllPairs IsToldBefore answers
  pub replies_fit : HaveFitReplies entries

-- The text is the report of these, which stand in their order.
pub record IsReport (text : List ℕ) (base : ℕ) (entries : List Line) (answers : List Told)
    (last : Last) : Type 0 where
  pub text_is : text ≡ spelled (report_lines base entries answers last)
  pub entries_order : AllPairs Precedes entries
  pub answers_order : AllPairs IsToldBefore answers
  pub ranges : IsSmall base entries answers last
