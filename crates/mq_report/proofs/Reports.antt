-- A text is the report of one base, one list of lines, one list of answers and one end.
use Rattle.std.proofs.Common.{◌≡◌, ◌∙◌, ℕ, List, map, sym, ap}
use Rattle.mq_report.proofs.TextsBack.{value, word}
use Rattle.mq_report.proofs.TextsGathering.{answers-are, base-is, final, gather, head, last-is, lines-are, tells}
use Rattle.mq_report.proofs.TextsPlain.{report-cut}
use Rattle.mq_report.proofs.TextsCutting.{same-words}
use Rattle.mq_report.specs.Lines.{Line, as_printed}
use Rattle.mq_report.specs.Reports.{IsReport}
use Rattle.mq_report.specs.Texts.{Words, report_lines}
use Rattle.mq_report.specs.declared.line.Last.{Last}
use Rattle.mq_report.specs.declared.line.Told.{Told}

same-report : (text : List ℕ) (b c : ℕ) (ls ms : List Line) (ts us : List Told) (x y : Last) → IsReport text b ls ts x → IsReport text c ms us y → report_lines b ls ts x ≡ report_lines c ms us y
same-report text b c ls ms ts us x y r s = same-words (report_lines b ls ts x) (report_lines c ms us y) (report-cut b ls ts x r.ranges) (report-cut c ms us y s.ranges) (sym r.text_is ∙ s.text_is)

pub one-reading : (text : List ℕ) (b c : ℕ) (ls ms : List Line) (ts us : List Told) (x y : Last) → IsReport text b ls ts x → IsReport text c ms us y → (b ≡ c) × (ls ≡ ms) × (map as_printed ts ≡ map as_printed us) × (x ≡ y)
one-reading text b c ls ms ts us x y r s =
    let e = same-report text b c ls ms ts us x y r s in (
      sym (base-is b ls ts x r.ranges) ∙ ap (λ (w : List Words). value (word (head w) 1)) e ∙ base-is c ms us y s.ranges,
      sym (lines-are b ls ts x r.ranges) ∙ ap (λ (w : List Words). (gather w).lines) e ∙ lines-are c ms us y s.ranges,
      sym (answers-are b ls ts x r.ranges) ∙ ap tells e ∙ answers-are c ms us y s.ranges,
      sym (last-is b ls ts x r.ranges) ∙ ap final e ∙ last-is c ms us y s.ranges,
    )
