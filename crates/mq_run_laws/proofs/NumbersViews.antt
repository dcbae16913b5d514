-- What the sessions of a run knew once their scripts were played, and once it was ended.
use Rattle.std.proofs.Common.{◌≡◌, ◌∙◌, ℕ, zero, suc, Bool, List, [], ◌∷◌, ◌++◌, inl, inr, refl, sym, ap, subst, arith}
use Rattle.std.specs.Prelude.{Option, Some, None, Result, Ok, Err, slice_get}
use Rattle.std.specs.List.{Contains}
use Rattle.std.proofs.lemmas.Option.{same_Some}
use Rattle.mq_blocks.specs.Drive.{PortState}
use Rattle.mq_journal.specs.Raised.{HasRefused}
use Rattle.mq_journal.specs.declared.refusal.CheckpointRefusal.{CheckpointRefusal}
use Rattle.mq_journal.specs.declared.refusal.CheckpointRefusal.TheVariants as checkpoint
use Rattle.mq_drive.specs.Steps.{PortFault}
use Rattle.mq_drive.specs.declared.port.Port.{Ghosts}
use Rattle.mq_calls.specs.Group.{file_group}
use Rattle.mq_calls.specs.declared.entry.FileEntry.{FileEntry}
use Rattle.mq_journal.specs.Draining.{report_of}
use Rattle.mq_journal.specs.Numbers.{Seat, Shared}
use Rattle.mq_turns.specs.Desk.{charged_of, drawn_of, read_of}
use Rattle.mq_turns.specs.declared.rule.Charge.{Charge}
use Rattle.mq_run.specs.Ending.{Finishes, HasFinished}
use Rattle.mq_run.proofs.ServedNotices.{Keeps, keeps-self}
use Rattle.mq_run_laws.proofs.Pairs.{cons-cases, here, in-either, in-left, in-right, none-in, there}

module _ {P : Type 0} {G : Ghosts P} where
  abbrev pub Knower : List (Seat P FileEntry G) → ℕ → Seat P FileEntry G → Type 0
  Knower news i old = (new : Seat P FileEntry G) × (slice_get news i ≡ Some new) × Keeps old new

  abbrev pub Known : List (Seat P FileEntry G) → ℕ → Seat P FileEntry G → Type 0
  Known olds i new = (old : Seat P FileEntry G) × (slice_get olds i ≡ Some old) × Keeps old new

  -- ---- what all have drawn and read

  pub drawn-in : (vs : List (Seat P FileEntry G)) (d : ℕ × FileEntry) → Contains (drawn_of vs) d → (v : Seat P FileEntry G) × Contains vs v × Contains v.drawn d
  drawn-in [] d c = absurd (none-in d c)
  drawn-in (v ∷ vs) d c = elim (in-either (drawn_of vs) v.drawn d c) [ inl a ↦ (let r = drawn-in vs d a in (r.0, there r.0 v vs r.1, r.2)) | inr b ↦ (v, here v vs, b) ]

  pub in-drawn : (vs : List (Seat P FileEntry G)) (v : Seat P FileEntry G) (d : ℕ × FileEntry) → Contains vs v → Contains v.drawn d → Contains (drawn_of vs) d
  in-drawn [] v d c h = absurd (none-in v c)
  in-drawn (w ∷ vs) v d c h = elim (cons-cases v w vs c) [
    | inl e ↦ in-right (drawn_of vs) w.drawn d (subst (λ (x : Seat P FileEntry G). Contains x.drawn d) (sym e) h)
    | inr c ↦ in-left (drawn_of vs) w.drawn d (in-drawn vs v d c h)
  ]

  pub in-charged : (vs : List (Seat P FileEntry G)) (v : Seat P FileEntry G) (x : Charge) → Contains vs v → Contains v.reading.charged x → Contains (charged_of vs) x
  in-charged [] v x c h = absurd (none-in v c)
  in-charged (w ∷ vs) v x c h = elim (cons-cases v w vs c) [
    | inl e ↦ in-right (charged_of vs) w.reading.charged x (subst (λ (y : Seat P FileEntry G). Contains y.reading.charged x) (sym e) h)
    | inr c ↦ in-left (charged_of vs) w.reading.charged x (in-charged vs v x c h)
  ]

  pub in-read : (vs : List (Seat P FileEntry G)) (v : Seat P FileEntry G) (r : FileEntry × Shared P FileEntry G) → Contains vs v → Contains v.read r → Contains (read_of vs) r
  in-read [] v r c h = absurd (none-in v c)
  in-read (w ∷ vs) v r c h = elim (cons-cases v w vs c) [
    | inl e ↦ in-right (read_of vs) w.read r (subst (λ (x : Seat P FileEntry G). Contains x.read r) (sym e) h)
    | inr c ↦ in-left (read_of vs) w.read r (in-read vs v r c h)
  ]

module _ {P : Type 0} {G : Ghosts P} (state : P → PortState) (faults : P → List PortFault) where
  refused-keeps : (why : CheckpointRefusal) (old new : Seat P FileEntry G) → HasRefused state faults file_group why old new → Keeps old new
  refused-keeps checkpoint.OutOfMemory old new (inl m) = record { drawn = m.drawn; read = m.read; done = m.done; charges = []; charged = m.charged }
  refused-keeps checkpoint.OutOfMemory old new (inr (front, m)) = record { drawn = m.drawn; read = m.read; done = m.done; charges = []; charged = m.charged }
  refused-keeps (checkpoint.Drive why) old new (inl m) = record { drawn = m.moves.drawn; read = m.moves.read; done = m.moves.done; charges = record { port = m.port; report = report_of why } ∷ []; charged = m.moves.charged }
  refused-keeps (checkpoint.Drive why) old new (inr (front, m)) = record { drawn = m.moves.drawn; read = m.moves.read; done = m.moves.done; charges = record { port = m.port; report = report_of why } ∷ []; charged = m.moves.charged }

  heard-keeps : (old mid new : Seat P FileEntry G) (seen : ℕ) → mid ≡ record old { seen = seen } → Keeps mid new → Keeps old new
  heard-keeps old mid new seen is k = record {
    drawn = k.drawn ∙ ap (λ (v : Seat P FileEntry G). v.drawn) is;
    read = k.read ∙ ap (λ (v : Seat P FileEntry G). v.read) is;
    done = let a = k.done in let b = ap (λ (v : Seat P FileEntry G). v.reading.done) is in omega arith;
    charges = k.charges;
    charged = k.charged ∙ ap (λ (v : Seat P FileEntry G). k.charges ++ v.reading.charged) is;
  }

  finishes-keeps : (answer : Option (Result ℕ CheckpointRefusal)) (others : List (Seat P FileEntry G)) (old new : Seat P FileEntry G) → Finishes state faults answer others old new → Keeps old new
  finishes-keeps None others old new same = subst (λ (v : Seat P FileEntry G). Keeps old v) (sym same) (keeps-self old)
  finishes-keeps (Some (Ok base)) others old new (mid, heard, raises) = heard-keeps old mid new mid.seen heard.is (record { drawn = raises.drawn; read = raises.read_before; done = raises.done; charges = []; charged = raises.charged })
  finishes-keeps (Some (Err why)) others old new (mid, heard, refused) = heard-keeps old mid new mid.seen heard.is (refused-keeps why mid new refused)

  module _ (finish : Bool) (answer : Option (Result ℕ CheckpointRefusal)) (olds news : List (Seat P FileEntry G)) (h : HasFinished state faults finish answer olds news) where
    one : Keeps h.first h.last
    one = finishes-keeps answer h.others h.first h.last h.finishes

    after-first : (i : ℕ) (v : Seat P FileEntry G) → slice_get (h.first ∷ h.others) i ≡ Some v → Knower (h.last ∷ h.others) i v
    after-first zero v e = (h.last, refl, subst (λ (x : Seat P FileEntry G). Keeps x h.last) (same_Some h.first v e) one)
    after-first (suc i) v e = (v, e, keeps-self v)

    before-first : (i : ℕ) (v : Seat P FileEntry G) → slice_get (h.last ∷ h.others) i ≡ Some v → Known (h.first ∷ h.others) i v
    before-first zero v e = (h.first, refl, subst (λ (x : Seat P FileEntry G). Keeps h.first x) (same_Some h.last v e) one)
    before-first (suc i) v e = (v, e, keeps-self v)

    pub after-finish : (i : ℕ) (v : Seat P FileEntry G) → slice_get olds i ≡ Some v → Knower news i v
    after-finish i v e =
        subst (λ (vs : List (Seat P FileEntry G)). Knower vs i v) (sym h.after) (after-first i v (ap (λ (vs : List (Seat P FileEntry G)). slice_get vs i) (sym h.before) ∙ e))

    pub before-finish : (i : ℕ) (v : Seat P FileEntry G) → slice_get news i ≡ Some v → Known olds i v
    before-finish i v e =
        subst (λ (vs : List (Seat P FileEntry G)). Known vs i v) (sym h.before) (before-first i v (ap (λ (vs : List (Seat P FileEntry G)). slice_get vs i) (sym h.after) ∙ e))
