-- The lines of a run: its commits, made of the history, and its reads, in the order of a report.
use Rattle.std.specs.Prelude.{◌≡◌, ◌⊎◌, ◌<◌, ◌≤◌, ◌++◌, ◌%◌, ◌^◌, ℕ, Bool, true, false, List, [], ◌∷◌}
use Rattle.std.specs.Ordering.{bool_cmp, nat_cmp, ordering_then}
use Rattle.std.specs.declared.cmp.Ordering.{Ordering}
use Rattle.mq_calls.specs.declared.entry.FileEntry.{FileEntry}
use Rattle.mq_report.specs.declared.line.Line.{Line}
use Rattle.mq_script.specs.declared.group.End.{End}
use Rattle.mq_script.specs.declared.group.End.TheVariants.{Fatomic, Fsync}

abbrev pub end_of : (durable : Bool) → End
end_of true = Fsync
end_of false = Fatomic

-- the line of an entry of the history
pub record IsCommitLine (number : ℕ) (e : FileEntry) (l : Line) : Type 0 where
  pub number_is : l.number ≡ number
  pub commit : l.commit ≡ true
  pub session : l.session ≡ e.session
  -- a session asks fewer groups
  pub group : l.group ≡ e.call % 2 ^ 32
  pub end_is : l.end ≡ end_of e.durable
  pub replies_are : l.replies ≡ e.replies

-- one for each entry, in their order
pub data AreCommitLines : List (ℕ × FileEntry) → List Line → Type 0 where
  none : AreCommitLines [] []
  more : {n : ℕ} {e : FileEntry} {l : Line} {es : List (ℕ × FileEntry)} {ls : List Line}
      → IsCommitLine n e l → AreCommitLines es ls → AreCommitLines ((n, e) ∷ es) (l ∷ ls)

-- the order of a report: by number, the commit before the reads, and these by session and group
abbrev pub line_cmp : Line → Line → Ordering
line_cmp l m =
    ordering_then (ordering_then
    (ordering_then (nat_cmp l.number m.number) (bool_cmp m.commit l.commit))
    (nat_cmp l.session m.session))
    (nat_cmp l.group m.group)

abbrev pub IsNotAfter : Line → Line → Type 0
IsNotAfter l m =
    (l.number < m.number)
    ⊎ ((l.number ≡ m.number) × (l.commit ≡ true) × (m.commit ≡ false))
    ⊎ ((l.number ≡ m.number) × (l.commit ≡ m.commit) × (l.session < m.session))
    ⊎ ((l.number ≡ m.number) × (l.commit ≡ m.commit) × (l.session ≡ m.session) × (l.group ≤ m.group))

-- one list after another
abbrev pub joined : {X : Type 0} → List (List X) → List X
joined [] = []
joined (xs ∷ xss) = xs ++ joined xss
