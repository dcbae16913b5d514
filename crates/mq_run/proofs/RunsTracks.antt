-- The tracks of runners, and what a run comes to by them.
use Rattle.std.proofs.Common.{◌≡◌, ℕ, ◌+◌, ◌++◌, List, length, get_or, map, sym, ap, ◌∙◌, subst}
use Rattle.std.proofs.lemmas.List.{length-map}
use Rattle.std.specs.Prelude.{Option, Some, Result, slice_get}
use Rattle.std.specs.List.{All}
use Rattle.mq_blocks.specs.Drive.{PortState}
use Rattle.mq_blocks.specs.declared.geometry.Geometry.{Geometry}
use Rattle.std.specs.Prelude.{Bool}
use Rattle.mq_calls.specs.Opening.{IsOpenedOver}
use Rattle.mq_journal.specs.declared.refusal.CheckpointRefusal.{CheckpointRefusal}
use Rattle.mq_drive.specs.Steps.{PortFault}
use Rattle.mq_drive.specs.declared.port.Port.{Ghosts}
use Rattle.mq_drive.specs.declared.port.Ports.{Ports}
use Rattle.mq_calls.specs.Group.{file_group}
use Rattle.mq_calls.specs.declared.entry.FileEntry.{FileEntry}
use Rattle.mq_journal.specs.Numbers.{Seat, Start}
use Rattle.mq_notices.specs.Notices.{Merged}
use Rattle.mq_recover.specs.declared.standing.Standing.{Standing}
use Rattle.mq_report.specs.declared.line.Line.{Line}
use Rattle.mq_report.specs.declared.line.Told.{Told}
use Rattle.mq_script.specs.Scripts.{Script}
use Rattle.mq_tie.specs.Closed.{HasRun}
use Rattle.mq_tie.specs.declared.ended.Ended.{Ended}
use Rattle.mq_turns.specs.Desk.{fresh}
use Rattle.mq_run.proofs.LinesGrowing.{map_twice}
use Rattle.mq_run.proofs.Parts.{all_at, image_from, partner}
use Rattle.mq_run.specs.Ending.{HasFinished}
use Rattle.mq_run.specs.Helping.{AreServed}
use Rattle.mq_run.specs.Playing.{HasPlayed}
use Rattle.mq_run.specs.Runs.{EndsSo, HasRunScripts, Leaves, Track, track}
use Rattle.mq_run.specs.declared.end.RunEnd.{RunEnd}

-- what is known of a pair of a session and its helper once the session has played its script
pub record Reading (P : Type 0) (G : Ghosts P) (R : Type 0) : Type 0 where
  pub told : R → List Told
  pub reads : R → List Line
  pub look : R → Seat P FileEntry G
  pub sent : R → List ℕ
  pub mine : R → List ℕ
  pub theirs : R → List ℕ
  pub helper : R → Seat P FileEntry G

module _ {P : Type 0} {G : Ghosts P} (state : P → PortState) (faults : P → List PortFault) {R : Type 0} (read : Reading P G R) where
  abbrev pub track_of : R → Track P G
  track_of r = track (read.told r) (read.reads r) (read.look r) (read.sent r) (read.mine r) (read.theirs r) (read.helper r)

  pub ends_so : (opening : Start P FileEntry G) (pairs : List R) (finish : Bool) (e : RunEnd P) (answer : Option (Result ℕ CheckpointRefusal)) (seats left helpers : List (Seat P FileEntry G)) (end : Ended P FileEntry G) (answers : List (List Told)) (lines : List (List Line))
      → seats ≡ map read.look pairs → helpers ≡ map read.helper pairs → answers ≡ map read.told pairs → lines ≡ map read.reads pairs
      → HasFinished state faults finish answer seats left → e.finished ≡ answer → HasRun state faults file_group opening (left ++ helpers) end → Leaves end answers lines e
      → EndsSo state faults opening (map track_of pairs) finish e
  ends_so opening pairs finish e answer seats left helpers end answers lines seats_are helpers_are answers_are lines_are finished same run leaves =
      let views : seats ≡ map (λ t. t.view) (map track_of pairs) = seats_are ∙ sym (map_twice track_of (λ t. t.view) pairs) in
      let aides : helpers ≡ map (λ t. t.helper) (map track_of pairs) = helpers_are ∙ sym (map_twice track_of (λ t. t.helper) pairs) in
      let tells : answers ≡ map (λ t. t.told) (map track_of pairs) = answers_are ∙ sym (map_twice track_of (λ t. t.told) pairs) in
      let reading : lines ≡ map (λ t. t.reads) (map track_of pairs) = lines_are ∙ sym (map_twice track_of (λ t. t.reads) pairs) in
      record {
        sessions = left;
        finished = subst (λ (vs : List (Seat P FileEntry G)). HasFinished state faults finish e.finished vs left) views
            (subst (λ (a : Option (Result ℕ CheckpointRefusal)). HasFinished state faults finish a seats left) (sym same) finished);
        left = left ++ helpers;
        left_are = ap (λ (vs : List (Seat P FileEntry G)). left ++ vs) aides;
        end = end;
        run = run;
        leaves = subst (λ (ls : List (List Line)). Leaves end (map (λ t. t.told) (map track_of pairs)) ls e) reading
            (subst (λ (ts : List (List Told)). Leaves end ts lines e) tells leaves);
      }

  -- What all pairs came to, from the opening on.
  pub record HavePlayed (g : Geometry) (scripts : List Script) (opening : Start P FileEntry G) (old new : List R) : Type 0 where
    pub first : (i : ℕ) (a : R) → slice_get old i ≡ Some a → read.look a ≡ fresh opening i
    pub idle : (i : ℕ) (a : R) → slice_get old i ≡ Some a → read.helper a ≡ fresh opening (length scripts + i)
    pub played : (i : ℕ) (a b : R) (script : Script) → slice_get old i ≡ Some a → slice_get new i ≡ Some b → slice_get scripts i ≡ Some script
        → HasPlayed state faults g i script.groups (read.told b) (read.reads b) (read.sent b) (read.mine b) (read.look a) (read.look b)
    pub helped : (i : ℕ) (a b : R) → slice_get old i ≡ Some a → slice_get new i ≡ Some b
        → AreServed state faults i (read.helper a) (read.theirs b) (read.helper b)
    pub once : All (λ r. Merged (read.mine r) (read.theirs r) (read.sent r)) new

  pub has_run : (g files : Geometry) (ports : Ports P) (s : Standing) (scripts : List Script) (finish : Bool) (e : RunEnd P) (opening : Start P FileEntry G) (old new : List R)
      → files ≡ g → IsOpenedOver state faults g ports s opening → length old ≡ length scripts → length new ≡ length old
      → HavePlayed files scripts opening old new
      → map (λ v. v.items) e.served.items ≡ map read.sent new
      → EndsSo state faults opening (map track_of new) finish e
      → HasRunScripts G state faults g ports s scripts finish e
  has_run g files ports s scripts finish e opening old new same opened as_many many h served ends = record {
    opening = opening;
    opened = opened;
    tracks = map track_of new;
    many = length-map new track_of ∙ (many ∙ as_many);
    played = λ i script t at to.
        let b = image_from track_of new i t to in
        let here : slice_get old i ≡ Some (get_or old i b.0) = partner new old i b.0 b.0 many b.1 in
        subst (λ (t : Track P G). HasPlayed state faults g i script.groups t.told t.reads t.sent t.mine (fresh opening i) t.view) b.2
        (subst (λ (v : Seat P FileEntry G). HasPlayed state faults g i script.groups (read.told b.0) (read.reads b.0) (read.sent b.0) (read.mine b.0) v (read.look b.0)) (h.first i (get_or old i b.0) here)
        (subst (λ (x : Geometry). HasPlayed state faults x i script.groups (read.told b.0) (read.reads b.0) (read.sent b.0) (read.mine b.0) (read.look (get_or old i b.0)) (read.look b.0)) same
        (h.played i (get_or old i b.0) b.0 script here b.1 at)));
    helped = λ i t to.
        let b = image_from track_of new i t to in
        let here : slice_get old i ≡ Some (get_or old i b.0) = partner new old i b.0 b.0 many b.1 in
        subst (λ (t : Track P G). AreServed state faults i (fresh opening (length scripts + i)) t.theirs t.helper) b.2
        (subst (λ (v : Seat P FileEntry G). AreServed state faults i v (read.theirs b.0) (read.helper b.0)) (h.idle i (get_or old i b.0) here)
        (h.helped i (get_or old i b.0) b.0 here b.1));
    once = λ i t to.
        let b = image_from track_of new i t to in
        subst (λ (t : Track P G). Merged t.mine t.theirs t.sent) b.2
        (all_at (λ r. Merged (read.mine r) (read.theirs r) (read.sent r)) new i b.0 h.once b.1);
    served = served ∙ sym (map_twice track_of (λ t. t.sent) new);
    ends = ends;
  }
