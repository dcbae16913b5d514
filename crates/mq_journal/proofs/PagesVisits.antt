-- A page that a checkpoint visits, and those that it has visited.
use Rattle.std.proofs.Common.{◌≡◌, ℕ, ◌+◌, ◌<◌, ◌≤◌, List, [], ◌∷◌, ◌++◌, length, refl, ap, subst, ◌∙◌, inl, inr, arith}
use Rattle.std.specs.Prelude.{Some, Result, Ok, Err, IfOk}
use Rattle.std.proofs.lemmas.Bool.{cases_lt}
use Rattle.mq_blocks.specs.Drive.{PortState}
use Rattle.mq_drive.specs.Steps.{PortFault}
use Rattle.mq_drive.specs.declared.port.Port.{Ghosts}
use Rattle.mq_journal.specs.Numbers
use Rattle.mq_journal.specs.Numbers.{Seat, Shared, Start}
use Rattle.mq_ledger.proofs.History.{last_le}
use Rattle.mq_pages.specs.declared.page.PageCell.{PageCell}
use Rattle.mq_desk_laws.specs.Groups.{GroupView}
use Rattle.mq_desk_laws.specs.Rule
use Rattle.mq_desk_laws.specs.Rule.{IsOk, IsPage}
use Rattle.mq_desk_laws.specs.Values.{Values}
use Rattle.mq_desk_laws.proofs.RuleStaying.{length_history}
use Rattle.mq_queue_side.specs.declared.root.Root.{Root}
use Rattle.mq_queue_side.specs.declared.side.QueueSide.{QueueSide}
use Rattle.mq_turns.specs.Chairs.{holding}
use Rattle.mq_turns.specs.Desk.{Sees}
use Rattle.mq_turns.specs.Meaning.{Meaning, newest}
use Rattle.mq_journal.specs.Pages.{AreNoted, HoldsOnlyPage, IsAtHome, IsNoted}
use Rattle.mq_journal.proofs.PagesHomeViews.{done_front, page_seen}

pub if_ok_both : {A B : Type 0} {F G H : A → Type 0} (r : Result A B) → ((x : A) → F x → G x → H x) → IfOk r F → IfOk r G → IfOk r H
if_ok_both (Ok x) f a b = f x a b
if_ok_both (Err e) f a b = tt

module _ {P E : Type 0} {G : Ghosts P} (state : P → PortState) (faults : P → List PortFault) (group : GroupView E) where
  abbrev values : Values (QueueSide P E G) (Root P G) E
  values = Numbers.values state faults group

  abbrev μ : Meaning PageCell (QueueSide P E G) (Root P G) E
  μ = Numbers.machine state faults group

  version_low : (K : Shared P E G) (b : ℕ) (c : PageCell) → IsOk values group K → IsPage values group b K c → c.version ≤ newest K
  version_low K b c ok is =
      let low = last_le K.opening.base (Rule.history_of values group K) b ok.log.numbers in
      let long = length_history values group K.opening.base K.log in
      let v = is.version in
      omega arith

  -- the page that is held stays in hand while only other turns are taken and given back
  pub page_kept : (o : Start P E G) (b : ℕ) (c : PageCell) (v w : Seat P E G) → w.held ≡ v.held → HoldsOnlyPage state faults group o b c v → HoldsOnlyPage state faults group o b c w
  page_kept o b c v w same h = record { known = h.known; turn = h.turn; held = same ∙ h.held; is = h.is }

  -- a number at which the session looked is not below the page's last change
  pub version_looked : (o : Start P E G) (b : ℕ) (c : PageCell) (v : Seat P E G) (n : ℕ) → v.opening ≡ Some o → HoldsOnlyPage state faults group o b c v → (K : Shared P E G) × (newest K ≡ n) × Sees μ v K → c.version ≤ n
  version_looked o b c v n opening h (K, number, sees) = let low = version_low K b c sees.ok (page_seen state faults group o b c v opening h K sees) in omega arith

  pub taken_page : (o : Start P E G) (b : ℕ) (c : PageCell) (v w : Seat P E G) (K : Shared P E G) → b < length o.pages → v.held ≡ [] → w ≡ holding b K v → IsPage values group b K c → HoldsOnlyPage state faults group o b c w
  taken_page o b c v w K inside idle took is = record { known = K; turn = inside; held = ap (λ (z : Seat P E G). z.held) took ∙ ap (λ l. (b, K) ∷ l) idle; is = is }

  -- ---- notes

  noted_more : (base x : ℕ) (ms ns : List (ℕ × PageCell × Shared P E G)) → IsNoted state faults group base x ns → IsNoted state faults group base x (ms ++ ns)
  noted_more base x [] ns is = is
  noted_more base x (m ∷ ms) ns is = inr (noted_more base x ms ns is)

  -- a page of which no home write is needed is noted
  pub noted_now : (base b : ℕ) (c : PageCell) (v : Seat P E G) (K : Shared P E G) (ns : List (ℕ × PageCell × Shared P E G)) → Sees μ v K → base ≤ v.reading.done → c.version ≤ v.reading.done → IsAtHome c → IsNoted state faults group base b ((b, c, K) ∷ ns)
  noted_now base b c v K ns sees low changed home = inl (
    refl,
    record {
      reached = done_front state faults group v K base sees low;
      done = done_front state faults group v K c.version sees changed;
      home = λ content there last under. home content there last;
    },
  )

  pub noted_none : (base : ℕ) (ns : List (ℕ × PageCell × Shared P E G)) → AreNoted state faults group base 0 ns
  noted_none base ns x lt = absurd (omega arith)

  pub noted_next : (base n : ℕ) (ms ns : List (ℕ × PageCell × Shared P E G)) → AreNoted state faults group base n ns → IsNoted state faults group base n (ms ++ ns) → AreNoted state faults group base (n + 1) (ms ++ ns)
  noted_next base n ms ns before now x lt = elim (cases_lt x n) [
    | inl less ↦ noted_more base x ms ns (before x less)
    | inr last ↦ let same : n ≡ x = omega arith in subst (λ y. IsNoted state faults group base y (ms ++ ns)) same now
  ]
