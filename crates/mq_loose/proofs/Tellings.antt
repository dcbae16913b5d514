-- What the machine answers to a draw.
use Rattle.std.proofs.Common.{◌≡◌, ℕ, List, [], Ok, sym, refl, subst, ◌∙◌, arith}
use Rattle.std.proofs.lemmas.Bool.{lt-leb}
use Rattle.mq_blocks.specs.Drive.{PortState}
use Rattle.mq_ledger.specs.KnownJournal.{MayDraw}
use Rattle.mq_ledger.specs.Plain.{plain}
use Rattle.mq_ledger.specs.Records.{Ledger, IsKnown, HasPlace}
use Rattle.mq_ledger.specs.State.{State, front_of, from_at, port_at}
use Rattle.mq_loose.specs.Guards.{side_known}
use Rattle.mq_ledger.specs.declared.tx.Tx.{Tx}
use Rattle.mq_core.specs.Events.{HasRoom, us_of, draw}
use Rattle.mq_core.specs.Answers.{Answers}
use Rattle.mq_loose.specs.Guards.{IsDrawable, MayDrawLoose}
use Rattle.mq_loose.proofs.Events.{draw_keeps}
use Rattle.mq_core.specs.View.{state_with}
use Rattle.mq_loose.specs.View.{IsHeld}
use Rattle.mq_core.proofs.KnownJournalGrowth.{front_drawn}

module _ (l : Ledger) (ports : List PortState) (root : PortState) (marks writing acknowledged : List ℕ) (held : IsHeld l.front (state_with l ports root marks writing acknowledged)) where
  abbrev s : State
  s = state_with l ports root marks writing acknowledged

  pub known_is : IsKnown l root.base (side_known plain s)
  known_is = record { geometry = refl; start = refl; base = refl; history = refl; front_is = sym held.front_is; word_is = refl }

  pub has_place : (t : Tx) → MayDraw (side_known plain s) t → HasRoom l.geometry (from_at l.starts t.queue) root.base (us_of s t.queue) t (port_at ports t.queue) → HasPlace l t
  has_place t may room = record { form = may.form; number = may.number; limit = may.limit; counts = room.limit; places = room.places }

  -- a draw leaves the front
  pub drawn_front : (t : Tx) → IsDrawable plain s t → front_of (draw t s) ≡ front_of s
  drawn_front t may =
      let f = held.facts in
      let o = (f.sides t.queue may.may.form.queue).order in
      front_drawn (side_known plain s) t f.log may.may.number (lt-leb _ _ (let rung = may.room.rung in omega (arith, o.stored, o.rung)))

  -- what a draw answers
  pub drawn : (t : Tx) (deps : List ℕ) (new : State) → t.direct ≡ [] → t.revoked ≡ [] → MayDrawLoose plain s t deps → new ≡ draw t s → IsHeld l.front new × Answers (MayDrawLoose plain s t deps) (draw t s) s new (Ok tt)
  drawn t deps new direct revoked may is = (
    subst (λ v. IsHeld l.front v) (sym is) (record { facts = draw_keeps plain s t held.facts direct revoked may.fits; front_is = held.front_is ∙ sym (drawn_front t may.fits); idle = held.idle }),
    (may, is),
  )
