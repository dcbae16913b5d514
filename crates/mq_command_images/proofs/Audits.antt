-- What `audit` says of a text, and with which status it ends.
use Rattle.std.proofs.Common.{◌≡◌, ℕ, List, Option, Some, refl, sym, subst}
use Rattle.std.specs.Prelude.{Result, Ok, Err, IfOk}
use Rattle.mq_audit.specs.Findings.{Finds}
use Rattle.mq_audit.specs.Traces.{IsMisread, IsTrace, Trace}
use Rattle.mq_audit.specs.declared.finding.Finding.{Finding}
use Rattle.mq_audit.specs.declared.finding.Finding.TheVariants.{Accepted, Refused}
use Rattle.mq_audit.proofs.TracesOnce.{trace_good}
use Rattle.mq_command_images.specs.Audits.{Audits, accepted_text, accepts, finding_text, misread_line, misreads, refused_line, refuses}
use Rattle.mq_command_images.proofs.CommandsExact.{Ends, says-where}
use Rattle.mq_command_images.proofs.CommandsSaying.{said-as}
use Rattle.mq_command_io.specs.Ending.{IsUnlessFailed}
use Rattle.mq_command_io.proofs.Ending.{unless_wanting}
use Rattle.mq_outside.specs.Outside.{FilesState, SinkState, Tells}

-- a finding of a trace is said with its lines
finding-said : (bytes : List ℕ) (f : Finding) → (t : Trace) × IsTrace bytes t × Finds t f → Audits bytes 0 (finding_text f)
finding-said bytes (Accepted events drawn done waiting least greatest) found =
    let t = found.0 in
    let finds = found.2 in
    subst (λ (n : ℕ). Audits bytes 0 (accepted_text n drawn done waiting.items least greatest)) (sym finds.1)
    (accepts t drawn done waiting.items least greatest found.1 finds.0 finds.2)
finding-said bytes (Refused line) found =
    let finds = found.2 in
    subst (λ (n : ℕ). Audits bytes 0 (refused_line n)) (sym finds.1) (refuses found.0 finds.0 found.1 finds.2)

-- what is answered with the lines of a finding
pub audits-as : (bytes : List ℕ) (f : Finding) (status : ℕ) (text : List ℕ) → (t : Trace) × IsTrace bytes t × Finds t f → status ≡ 0 → text ≡ finding_text f → Audits bytes status text
audits-as bytes f status text found same alike = said-as (Audits bytes) 0 status (finding_text f) text same alike (finding-said bytes f found)

-- what is answered to a text with a line that is not in its form
pub misread-as : {A E : Type 0} (stat : A → ℕ) (words : A → List ℕ) (bytes : List ℕ) (line : ℕ) (r : Result A E) → IsMisread bytes line → IfOk r (λ a. (stat a ≡ 2) × (words a ≡ misread_line line)) → IfOk r (λ a. Audits bytes (stat a) (words a))
misread-as stat words bytes line (Ok a) bad is = said-as (Audits bytes) 2 (stat a) (misread_line line) (words a) is.0 is.1 (misreads line bad)
misread-as stat words bytes line (Err e) bad is = tt

-- ---- the status

trace-status : (bytes : List ℕ) (t : Trace) → IsTrace bytes t → (s : ℕ) (text : List ℕ) → Audits bytes s text → s ≡ 0
trace-status bytes t is _ _ (accepts u drawn done waiting least greatest other allowed summary) = refl
trace-status bytes t is _ _ (refuses u index other first) = refl
trace-status bytes t is _ _ (misreads line bad) = absurd (trace_good bytes t line is bad)

misread-status : (bytes : List ℕ) (line : ℕ) → IsMisread bytes line → (s : ℕ) (text : List ℕ) → Audits bytes s text → s ≡ 2
misread-status bytes line bad _ _ (accepts u drawn done waiting least greatest other allowed summary) = absurd (trace_good bytes u line other bad)
misread-status bytes line bad _ _ (refuses u index other first) = absurd (trace_good bytes u line other bad)
misread-status bytes line bad _ _ (misreads n also) = refl

-- a trace has an answer
pub trace-where : (name bytes : List ℕ) (t : Trace) (old new : FilesState) (before after : SinkState) (result : ℕ) → Ends Audits name old new before after result → Tells old.contents name (Some bytes) → IsTrace bytes t → IsUnlessFailed 0 result
trace-where name bytes t old new before after result ends tells is = says-where Audits name bytes 0 old new result ends.0 ends.1 tells (trace-status bytes t is) ends.2 (unless_wanting ends.0 ends.1 result before after ends.3)

-- and a text that is none is refused
pub misread-where : (name bytes : List ℕ) (line : ℕ) (old new : FilesState) (before after : SinkState) (result : ℕ) → Ends Audits name old new before after result → Tells old.contents name (Some bytes) → IsMisread bytes line → IsUnlessFailed 2 result
misread-where name bytes line old new before after result ends tells bad = says-where Audits name bytes 2 old new result ends.0 ends.1 tells (misread-status bytes line bad) ends.2 (unless_wanting ends.0 ends.1 result before after ends.3)
