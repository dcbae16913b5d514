-- A group that was drawn and sent, or refused: what that leaves of its session.
use Rattle.std.proofs.Common.{◌≡◌, ◌≢◌, ℕ, ◌+◌, ◌<◌, Bool, false, List, [], ◌∷◌, length, refl, sym, ap, subst, ◌∙◌, inl, inr, arith, Some}
use Rattle.std.specs.List.{All}
use Rattle.std.proofs.lemmas.Bool.{cases_eq}
use Rattle.std.proofs.lemmas.List.Elements.{All-cons, All-nil}
use Rattle.mq_desk_laws.specs.Groups.{GroupView}
use Rattle.mq_blocks.specs.Drive.{PortState}
use Rattle.mq_drive.specs.Steps.{PortFault}
use Rattle.mq_drive.specs.declared.port.Port.{Ghosts}
use Rattle.mq_desk_laws.specs.Rule.{numbered, touches}
use Rattle.mq_journal.specs.Numbers
use Rattle.mq_journal.specs.Numbers.{Draws, IsReported, Seat, Shared, Start, WasCut, reported}
use Rattle.mq_journal.specs.Laws.{without_each}
use Rattle.mq_pages.specs.Held.{Cells}
use Rattle.mq_pages.specs.declared.page.PageCell.{PageCell}
use Rattle.mq_queue_side.specs.Commits.{NumberedCommit}
use Rattle.mq_queue_side.specs.declared.root.Root.{Root}
use Rattle.mq_queue_side.specs.declared.side.QueueSide.{QueueSide}
use Rattle.mq_turns.specs.Chairs.{giving}
use Rattle.mq_turns.specs.Desk.{refreshed, slot_of, turn_at}
use Rattle.mq_turns.specs.Lists.{Each, tick, times, without}
use Rattle.mq_turns.specs.Meaning.{Meaning, charged, drawn}
use Rattle.mq_turns.specs.Words.{after_notice, same_turn}
use Rattle.mq_turns.specs.declared.rule.Charge.{Charge}
use Rattle.mq_turns.specs.declared.rule.Notice.TheVariants as notice
use Rattle.mq_turns.specs.declared.rule.Report.{Report}
use Rattle.mq_turns.specs.declared.turn.Turn.TheVariants.{Page, Side}
use Rattle.mq_turns.proofs.Lists.{each_map, times_without, times_without_other, miss}
use Rattle.mq_turns.proofs.DeskSeen.{turn_seen}
use Rattle.mq_turns.proofs.DeskTurns.{times_refreshed}
use Rattle.mq_sessions.specs.Acts.{IsUnderWay, WasCutAt}
use Rattle.mq_sessions.specs.Committing.{HoldsCommit, OnlyReports}
use Rattle.mq_sessions.specs.Drawing.{HasDrawn}
use Rattle.mq_sessions.specs.Pages.{HoldsOnlyPages, HoldsPages, blocks_of, giving_pages}
use Rattle.mq_journal.specs.Machine.{journal}
use Rattle.mq_journal.specs.Values.{side_values}
use Rattle.mq_sessions.proofs.WantedFurther.{cells-below}
use Rattle.mq_sessions.proofs.PagesHolding.{pages-kept-all, pages-renewed}
use Rattle.mq_sessions.proofs.ActsUnderWay.{under-after}
use Rattle.mq_sessions.proofs.PagesLists.{none-held}
use Rattle.mq_sessions.proofs.DrawnPages.{nothing-left}
use Rattle.mq_sessions.proofs.PagesBeside.{side-apart}

none-there : (k : ℕ) (cells : Cells) → Each (λ x. x.0 ≢ k) cells → times k cells ≡ 0
none-there k [] apart = refl
none-there k (x ∷ xs) apart = let a = miss x.0 k apart.0 in let b = none-there k xs apart.1 in omega arith

module _ {P E : Type 0} {G : Ghosts P} (state : P → PortState) (faults : P → List PortFault) (group : GroupView E) where
  abbrev μ : Meaning PageCell (QueueSide P E G) (Root P G) E
  μ = journal state faults group

  -- a turn that is given back after a step is not held, and the others are held as often
  given-renewed : (k slot : ℕ) (about : ℕ → Bool) (L : Shared P E G) (l : List (ℕ × Shared P E G)) → times k (without slot (refreshed about L l)) ≡ times k (without slot l)
  given-renewed k slot about L l = elim (cases_eq k slot) [
    | inl same ↦
        let one : times k (without slot (refreshed about L l)) ≡ 0 = subst (λ (n : ℕ). times n (without slot (refreshed about L l)) ≡ 0) (sym same) (times_without slot (refreshed about L l)) in
        let other : times k (without slot l) ≡ 0 = subst (λ (n : ℕ). times n (without slot l) ≡ 0) (sym same) (times_without slot l) in
        one ∙ sym other
    | inr apart ↦ times_without_other slot k (refreshed about L l) apart ∙ times_refreshed about L k l ∙ sym (times_without_other slot k l apart)
  ]

  -- ---- a send

  none-left : (o : Start P E G) (q : ℕ) (cells : Cells) (about more : ℕ → Bool) (K L : Shared P E G) (l : List (ℕ × Shared P E G)) → ((k : ℕ) → times k l ≡ times k cells + tick (slot_of o (Side q)) k) → without (slot_of o (Side q)) (refreshed more L (without_each (blocks_of cells) (refreshed about K l))) ≡ []
  none-left o q cells about more K L l only =
      let slot = slot_of o (Side q) in
      let each : (k : ℕ) → times k (refreshed about K l) ≡ times k cells + tick slot k = λ k. times_refreshed about K k l ∙ only k in
      let none = nothing-left cells slot (refreshed about K l) each in
      none-held _ (λ k. given-renewed k slot more L (without_each (blocks_of cells) (refreshed about K l)) ∙ ap (times k) none)

  pub has-drawn : (o : Start P E G) (q at : ℕ) (e : E) (r : Report) (cells : Cells) (before s : QueueSide P E G) (n : NumberedCommit) (v w x y : Seat P E G) → HoldsCommit state faults group o q cells before v → Draws state faults group o q e v w s n → n.number ≡ at → x ≡ giving_pages (blocks_of cells) w → IsReported state faults group o q r x y → IsUnderWay q at x → HasDrawn e q at r v y
  has-drawn o q at e r cells before s n v w x y holds d number gave told under =
      let is : y ≡ giving (slot_of o (Side q)) (after_notice (Numbers.machine state faults group) (notice.Charge (reported q r)) told.known (giving_pages (blocks_of cells) w)) =
      told.is ∙ ap (λ (z : Seat P E G). giving (slot_of o (Side q)) (after_notice (Numbers.machine state faults group) (notice.Charge (reported q r)) told.known z)) gave in
      record {
        seat = record {
          parts = ap (λ (z : Seat P E G). z.parts) is ∙ d.rest.parts;
          opening = ap (λ (z : Seat P E G). z.opening) is ∙ d.rest.opening;
          session = ap (λ (z : Seat P E G). z.session) is ∙ d.rest.session;
        };
        held =
            ap (λ (z : Seat P E G). z.held) is
            ∙ ap (λ l. without (slot_of o (Side q)) (refreshed (λ k. same_turn (Side q) (turn_at told.known.opening k)) (charged (reported q r) told.known) (without_each (blocks_of cells) l))) d.held
            ∙ none-left o q cells (λ k. touches (side_values {G = G} state faults) group d.known.log e (turn_at d.known.opening k)) (λ k. same_turn (Side q) (turn_at told.known.opening k)) (drawn e d.known) (charged (reported q r) told.known) v.held holds.only;
        drawn = ap (λ (z : Seat P E G). z.drawn) is ∙ d.drawn ∙ ap (λ (m : ℕ). (m, e) ∷ v.drawn) number;
        read = ap (λ (z : Seat P E G). z.read) is ∙ d.rest.read;
        above = (let l = d.sees.seen in let m = d.number in omega arith);
        seen = ap (λ (z : Seat P E G). z.seen) is ∙ d.seen ∙ number;
        done = (let l : y.reading.done ≡ w.reading.done = ap (λ (z : Seat P E G). z.reading.done) is in let m = d.rest.reading.done in omega arith);
        under = under-after q at x y (ap (λ (z : Seat P E G). z.reading.done) told.is) (ap (λ (z : Seat P E G). z.reading.swept) told.is) (ap (λ (z : Seat P E G). z.reading.low) told.is) under;
        answers = ap (λ (z : Seat P E G). z.reading.answers) is ∙ d.rest.reading.answers;
        charged = ap (λ (z : Seat P E G). z.reading.charged) is ∙ ap (λ l. reported q r ∷ l) d.rest.reading.charged;
      }

  pub cut-at : (o : Start P E G) (q at : ℕ) (e : E) (s : QueueSide P E G) (n : NumberedCommit) (v w : Seat P E G) → Draws state faults group o q e v w s n → n.number ≡ at → WasCut state faults group s n → WasCutAt state faults group v at
  cut-at o q at e s n v w d number cut = record {
    above = (let l = d.sees.seen in let m = d.number in omega arith);
    side = s;
    numbered = n;
    number = number;
    cut = cut;
  }

  -- ---- a refusal

  not-sides : (q : ℕ) (o : Start P E G) (K : Shared P E G) (cells : Cells) → ((b : ℕ) → b < length o.pages → turn_at K.opening b ≡ Page b) → Each (λ x. x.0 < length o.pages) cells → All (λ b. same_turn (Side q) (turn_at K.opening b) ≡ false) (blocks_of cells)
  not-sides q o K [] turns low = All-nil (λ b. same_turn (Side q) (turn_at K.opening b) ≡ false)
  not-sides q o K (x ∷ xs) turns low = All-cons (λ b. same_turn (Side q) (turn_at K.opening b) ≡ false) x.0 (blocks_of xs) (ap (same_turn (Side q)) (turns x.0 low.0)) (not-sides q o K xs turns low.1)

  -- beside the side that was given, as many turns are held as there are cells
  side-given : (o : Start P E G) (q : ℕ) (cells : Cells) (v : Seat P E G) → ((k : ℕ) → times k v.held ≡ times k cells + tick (slot_of o (Side q)) k) → Each (λ x. x.0 < length o.pages) cells → (k : ℕ) → times k (without (slot_of o (Side q)) v.held) ≡ times k cells
  side-given o q cells v only low k = elim (cases_eq k (slot_of o (Side q))) [
    | inl same ↦ subst (λ (n : ℕ). times n (without (slot_of o (Side q)) v.held) ≡ times n cells) (sym same) (times_without (slot_of o (Side q)) v.held ∙ sym (none-there (slot_of o (Side q)) cells (each_map (λ x. x.0 < length o.pages) (λ x. x.0 ≢ slot_of o (Side q)) (λ x l e. omega arith) cells low)))
    | inr apart ↦ times_without_other (slot_of o (Side q)) k v.held apart ∙ only k ∙ (let t = miss (slot_of o (Side q)) k (λ e. apart (sym e)) in omega arith)
  ]

  pub pages-reported : (o : Start P E G) (q : ℕ) (r : Report) (cells : Cells) (s : QueueSide P E G) (v w : Seat P E G) → v.opening ≡ Some o → HoldsCommit state faults group o q cells s v → IsReported state faults group o q r v w → HoldsOnlyPages μ o cells w
  pages-reported o q r cells s v w opening h told =
      let K = told.known in
      let about : ℕ → Bool = λ k. same_turn (Side q) (turn_at K.opening k) in
      let m : Seat P E G = after_notice (Numbers.machine state faults group) (notice.Charge (reported q r)) K v in
      let apart = not-sides q o K cells (λ b low. turn_seen μ o K v (Page b) opening told.sees low) (cells-below μ o cells v h.pages) in
      let kept : HoldsPages μ o cells m = pages-renewed μ o cells v m about (charged (reported q r) K) apart refl h.pages in
      let given = pages-kept-all μ o cells m (slot_of o (Side q)) (side-apart μ o q cells m kept) kept in
      record {
        pages = subst (λ (z : Seat P E G). HoldsPages μ o cells z) (sym told.is) given;
        only = λ k. ap (λ (z : Seat P E G). times k z.held) told.is ∙ given-renewed k (slot_of o (Side q)) about (charged (reported q r) K) v.held ∙ side-given o q cells v h.only (cells-below μ o cells v h.pages) k;
      }

  pub pages-given : (o : Start P E G) (q : ℕ) (cells : Cells) (s : QueueSide P E G) (v w : Seat P E G) → HoldsCommit state faults group o q cells s v → w ≡ giving (slot_of o (Side q)) v → HoldsOnlyPages μ o cells w
  pages-given o q cells s v w h is = record {
    pages = subst (λ (z : Seat P E G). HoldsPages μ o cells z) (sym is) (pages-kept-all μ o cells v (slot_of o (Side q)) (side-apart μ o q cells v h.pages) h.pages);
    only = λ k. ap (λ (z : Seat P E G). times k z.held) is ∙ side-given o q cells v h.only (cells-below μ o cells v h.pages) k;
  }

  -- what was reported stays so where pages are given back then
  pub reports-left : (blocks : List ℕ) (reports : List Charge) (v w x : Seat P E G) → OnlyReports reports v w → x ≡ giving_pages blocks w → OnlyReports reports v x
  reports-left blocks reports v w x only is = subst (λ (z : Seat P E G). OnlyReports reports v z) (sym is) (record {
    parts = only.parts;
    opening = only.opening;
    session = only.session;
    drawn = only.drawn;
    read = only.read;
    seen = only.seen;
    done = only.done;
    answers = only.answers;
    charged = only.charged;
  })
