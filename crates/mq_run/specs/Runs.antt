-- What scripts that ran over the ports of a drive came to, by what was known on their desk at the end.
use Rattle.std.specs.Prelude.{◌≡◌, ◌+◌, ◌++◌, ℕ, Bool, List, length, map, Some, slice_get}
use Rattle.std.specs.List.{AllPairs}
use Rattle.std.specs.List.Sorted.{IsPermutation}
use Rattle.mq_blocks.specs.Drive.{PortState}
use Rattle.mq_blocks.specs.declared.geometry.Geometry.{Geometry}
use Rattle.mq_calls.specs.Opening.{IsOpenedOver}
use Rattle.mq_drive.specs.Steps.{PortFault}
use Rattle.mq_drive.specs.declared.port.Port.{Ghosts}
use Rattle.mq_drive.specs.declared.port.Ports.{Ports}
use Rattle.mq_calls.specs.Group.{file_group}
use Rattle.mq_calls.specs.declared.entry.FileEntry.{FileEntry}
use Rattle.mq_journal.specs.Numbers.{Seat, Start}
use Rattle.mq_notices.specs.Notices.{Merged}
use Rattle.mq_recover.specs.declared.standing.Standing.{Standing}
use Rattle.mq_report.specs.declared.line.Line.{Line}
use Rattle.mq_report.specs.declared.line.Told.{Told}
use Rattle.mq_script.specs.Scripts.{Script}
use Rattle.mq_tie.specs.Closed.{HasRun}
use Rattle.mq_tie.specs.Runs.{history_of, ports_of}
use Rattle.mq_tie.specs.declared.ended.Ended.{Ended}
use Rattle.mq_turns.specs.Desk.{fresh}
use Rattle.mq_run.specs.Ending.{HasFinished}
use Rattle.mq_run.specs.Helping.{AreServed}
use Rattle.mq_run.specs.Lines.{AreCommitLines, IsNotAfter, joined}
use Rattle.mq_run.specs.Playing.{HasPlayed}
use Rattle.mq_run.specs.declared.end.RunEnd.{RunEnd}

-- What a session was answered, the lines of what it read, and what it knew once its script was played; the
-- numbers that it announced to its helper, and those of them that it served itself; those that the helper
-- served, and what the helper knew then.
pub record Track (P : Type 0) (G : Ghosts P) : Type 0 where
  pub told : List Told
  pub reads : List Line
  pub view : Seat P FileEntry G
  pub sent : List ℕ
  pub mine : List ℕ
  pub theirs : List ℕ
  pub helper : Seat P FileEntry G

module _ {P : Type 0} {G : Ghosts P} where
  abbrev pub track : List Told → List Line → Seat P FileEntry G → (sent : List ℕ)
      → (mine theirs : List ℕ) → Seat P FileEntry G → Track P G
  track told reads view sent mine theirs helper =
      record {
        told = told;
        reads = reads;
        view = view;
        sent = sent;
        mine = mine;
        theirs = theirs;
        helper = helper;
      }

  -- What is left of a closed desk and is reported of it, where the sessions were answered this and these
  -- are the lines of what they read.
  pub record Leaves (end : Ended P FileEntry G) (told : List (List Told)) (reads : List (List Line))
      (e : RunEnd P) : Type 0 where
    pub queues : e.ports.queues.items ≡ ports_of end
    pub root : e.ports.root ≡ end.root.port
    pub pages : e.pages ≡ end.pages
    pub next : e.next ≡ end.next
    pub placed : e.placed.items ≡ map (λ h. h.1.placed) (history_of end)
    pub answers : e.answers.items ≡ joined told
    pub commits : List Line
    pub commits_are : AreCommitLines (history_of end) commits
    pub lines : IsPermutation (commits ++ joined reads) e.entries.items
    pub order : AllPairs IsNotAfter e.entries.items

module _ {P : Type 0} {G : Ghosts P} (state : P → PortState) (faults : P → List PortFault) where
  -- Where it was asked for, the first session heard of what the other sessions knew, and made a
  -- checkpoint. Then the desk was closed, with the chairs of the sessions and then of their helpers: the
  -- ports, the cells and the history are those that it had at the end.
  pub record EndsSo (opening : Start P FileEntry G) (tracks : List (Track P G)) (finish : Bool)
      (e : RunEnd P) : Type 0 where
    pub sessions : List (Seat P FileEntry G)
    pub finished : HasFinished state faults finish e.finished (map (λ t. t.view) tracks) sessions
    pub left : List (Seat P FileEntry G)
    pub left_are : left ≡ sessions ++ map (λ t. t.helper) tracks
    pub end : Ended P FileEntry G
    pub run : HasRun state faults file_group opening left end
    pub leaves : Leaves end (map (λ t. t.told) tracks) (map (λ t. t.reads) tracks) e

module _ {P : Type 0} (G : Ghosts P) (state : P → PortState) (faults : P → List PortFault) where
  -- Each session has played its script, from the opening of a desk over these ports. It announced the number
  -- of each group that drew and was answered well. Each of these numbers was served once, and in their
  -- order, by the session itself or by its helper. And then the run ended.
  pub record HasRunScripts (g : Geometry) (ports : Ports P) (s : Standing) (scripts : List Script)
      (finish : Bool) (e : RunEnd P) : Type 0 where
    pub opening : Start P FileEntry G
    pub opened : IsOpenedOver state faults g ports s opening
    pub tracks : List (Track P G)
    pub many : length tracks ≡ length scripts
    pub played : (i : ℕ) (script : Script) (t : Track P G) → slice_get scripts i ≡ Some script
        → slice_get tracks i ≡ Some t
        → HasPlayed state faults g i script.groups t.told t.reads t.sent t.mine (fresh opening i) t.view
    pub helped : (i : ℕ) (t : Track P G) → slice_get tracks i ≡ Some t
        → AreServed state faults i (fresh opening (length scripts + i)) t.theirs t.helper
    pub once : (i : ℕ) (t : Track P G) → slice_get tracks i ≡ Some t → Merged t.mine t.theirs t.sent
    pub served : map (λ v. v.items) e.served.items ≡ map (λ t. t.sent) tracks
    pub ends : EndsSo state faults opening tracks finish e
