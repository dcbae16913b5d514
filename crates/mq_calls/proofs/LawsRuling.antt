-- A done group by the rule of a desk over the ports of a drive.
use Rattle.std.proofs.Common.{◌≡◌, ℕ, ◌+◌, ◌≤◌, List, [], ◌∷◌, length, refl, sym, ap, subst, arith}
use Rattle.mq_blocks.specs.Journal.{number_limit}
use Rattle.mq_calls.specs.Entries.{tx_of}
use Rattle.mq_calls.specs.Group.{file_group}
use Rattle.mq_calls.specs.EntryLaws.{DoneGroupsFit, DoneGroupsMay, DoneGroupsMayBeDrawn}
use Rattle.mq_calls.specs.Plans.{HasNumber}
use Rattle.mq_calls.specs.declared.entry.FileEntry.{FileEntry}
use Rattle.mq_calls.proofs.Entries.{asks, does, plans}
use Rattle.mq_ledger.specs.KnownJournal.{MayDraw}
use Rattle.mq_desk_laws.specs.Rule.{core_of, geometry_of, history, map_now, numbered}
use Rattle.mq_desk_laws.specs.Values.{Values}
use Rattle.mq_turns.specs.Meaning.{newest}

module _ {Q R : Type 0} (values : Values Q R FileEntry) where
  history_length : (base : ℕ) (es : List FileEntry) → length (history values file_group base es) ≡ length es
  history_length base [] = refl
  history_length base (e ∷ es) = let rest = history_length base es in omega arith

  pub fits : DoneGroupsFit values
  fits K requests done e d is queue undrawn placed = asks (geometry_of values file_group K) (map_now values file_group K) requests done e d is queue undrawn placed

  pub may : DoneGroupsMayBeDrawn → DoneGroupsMay values
  may law K requests done e d is changes queue limit p =
      let k = core_of values file_group K in
      let long : k.base + length k.history + 1 ≡ newest K + 1 = ap (λ (n : ℕ). K.opening.base + n + 1) (history_length K.opening.base K.log) in
      let numbers : HasNumber k e = record { queue = queue; limit = subst (λ (n : ℕ). n ≤ number_limit) (sym long) limit } in
      record {
        draw = subst (λ (n : ℕ). MayDraw k (numbered n (tx_of e))) long (law k requests done e d is numbers p);
        does = does (geometry_of values file_group K) (map_now values file_group K) requests done e d is changes queue (plans k requests done e d is p);
        placed = p.placed;
      }
