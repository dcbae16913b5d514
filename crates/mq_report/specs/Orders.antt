-- The order of entries and of answers.
use Rattle.std.specs.Prelude.{◌≡◌, ◌<◌, ◌⊎◌, ℕ, true, false}
use Rattle.mq_report.specs.Lines.{Line}
use Rattle.mq_report.specs.declared.line.Told.{Told}

-- by session, and then by group
abbrev pub IsBefore : (session group other_session other_group : ℕ) → Type 0
IsBefore s k t j = (s < t) ⊎ ((s ≡ t) × (k < j))

-- by number, the commit before the reads, and these by session and group
abbrev pub Precedes : Line → Line → Type 0
Precedes l m =
    (l.number < m.number)
    ⊎ ((l.number ≡ m.number) × (m.commit ≡ false)
    × ((l.commit ≡ true) ⊎ IsBefore l.session l.group m.session m.group))

abbrev pub IsToldBefore : Told → Told → Type 0
IsToldBefore t u = IsBefore t.session t.group u.session u.group
