-- Steps of a checkpoint one after another.
use Rattle.std.proofs.Common.{◌≡◌, ℕ, ◌≤◌, List, [], ◌∷◌, ◌++◌, refl, sym, ap, ◌∙◌, subst, arith}
use Rattle.mq_blocks.specs.Drive.{PortState}
use Rattle.mq_drive.specs.Steps.{PortFault}
use Rattle.mq_drive.specs.declared.port.Port.{Ghosts}
use Rattle.mq_pages.specs.declared.page.PageCell.{PageCell}
use Rattle.mq_journal.specs.Numbers.{Seat, Shared}
use Rattle.mq_desk_laws.specs.Groups.{GroupView}
use Rattle.mq_queue_side.specs.declared.answers.Cause.{Cause}
use Rattle.mq_turns.specs.Lists.{Each}
use Rattle.mq_turns.specs.Meaning.{HasNumberAt}
use Rattle.mq_turns.specs.declared.rule.MarkAnswer.{MarkAnswer}
use Rattle.mq_turns.specs.declared.rule.Charge.{Charge}
use Rattle.mq_turns.specs.declared.turn.Turn.{Turn}
use Rattle.mq_journal.specs.Steps.{IsCaused, IsKnownFrom, IsRefusedBy, MovesOn, RefusesCheckpoint, at_side, at_root}
use Rattle.mq_journal.specs.declared.refusal.CheckpointRefusal.{CheckpointRefusal}
use Rattle.mq_journal.specs.declared.refusal.CheckpointRefusal.TheVariants as refused

append_more : {A : Type 0} (xs ys zs : List A) → xs ++ (ys ++ zs) ≡ (xs ++ ys) ++ zs
append_more [] ys zs = refl
append_more (x ∷ xs) ys zs = ap (λ l. x ∷ l) (append_more xs ys zs)

module _ {P E : Type 0} {G : Ghosts P} where
  pub moves_none : (v : Seat P E G) → MovesOn [] [] v v
  moves_none v = record { parts = refl; opening = refl; session = refl; drawn = refl; read = refl; seen = omega arith; done = omega arith; base = refl; noted = []; pages = refl; answers = refl; charged = refl }

  -- where nothing was reported and no front read at first
  pub moves_on : (reports : List Charge) (fronts : List MarkAnswer) (v u w : Seat P E G) → MovesOn [] [] v u → MovesOn reports fronts u w → MovesOn reports fronts v w
  moves_on reports fronts v u w a b = record {
    parts = b.parts ∙ a.parts;
    opening = b.opening ∙ a.opening;
    session = b.session ∙ a.session;
    drawn = b.drawn ∙ a.drawn;
    read = b.read ∙ a.read;
    seen = let x = a.seen in let y = b.seen in omega arith;
    done = let x = a.done in let y = b.done in omega arith;
    base = b.base ∙ a.base;
    noted = b.noted ++ a.noted;
    pages = b.pages ∙ (ap (λ l. b.noted ++ l) a.pages ∙ append_more b.noted a.noted v.reading.pages);
    answers = b.answers ∙ ap (λ l. fronts ++ l) a.answers;
    charged = b.charged ∙ ap (λ l. reports ++ l) a.charged;
  }

  -- where nothing was reported in the end, and no front read
  moves_still : (reports : List Charge) (fronts : List MarkAnswer) (v u w : Seat P E G) → MovesOn reports fronts v u → MovesOn [] [] u w → MovesOn reports fronts v w
  moves_still reports fronts v u w a b = record {
    parts = b.parts ∙ a.parts;
    opening = b.opening ∙ a.opening;
    session = b.session ∙ a.session;
    drawn = b.drawn ∙ a.drawn;
    read = b.read ∙ a.read;
    seen = let x = a.seen in let y = b.seen in omega arith;
    done = let x = a.done in let y = b.done in omega arith;
    base = b.base ∙ a.base;
    noted = b.noted ++ a.noted;
    pages = b.pages ∙ (ap (λ l. b.noted ++ l) a.pages ∙ append_more b.noted a.noted v.reading.pages);
    answers = b.answers ∙ a.answers;
    charged = b.charged ∙ a.charged;
  }

  -- a front read first
  pub moves_fronts : (reports : List Charge) (fronts : List MarkAnswer) (v u w : Seat P E G) → MovesOn [] fronts v u → MovesOn reports [] u w → MovesOn reports fronts v w
  moves_fronts reports fronts v u w a b = record {
    parts = b.parts ∙ a.parts;
    opening = b.opening ∙ a.opening;
    session = b.session ∙ a.session;
    drawn = b.drawn ∙ a.drawn;
    read = b.read ∙ a.read;
    seen = let x = a.seen in let y = b.seen in omega arith;
    done = let x = a.done in let y = b.done in omega arith;
    base = b.base ∙ a.base;
    noted = b.noted ++ a.noted;
    pages = b.pages ∙ (ap (λ l. b.noted ++ l) a.pages ∙ append_more b.noted a.noted v.reading.pages);
    answers = b.answers ∙ a.answers;
    charged = b.charged ∙ ap (λ l. reports ++ l) a.charged;
  }

  -- ---- single steps

  -- a turn is taken or given back; what is held may be known of anew
  pub moves_turn : (v w : Seat P E G) (h : ℕ) (held : List (ℕ × Shared P E G)) → w ≡ record v { hand = h; held = held } → MovesOn [] [] v w
  moves_turn v w h held is = record {
    parts = ap (λ (z : Seat P E G). z.parts) is;
    opening = ap (λ (z : Seat P E G). z.opening) is;
    session = ap (λ (z : Seat P E G). z.session) is;
    drawn = ap (λ (z : Seat P E G). z.drawn) is;
    read = ap (λ (z : Seat P E G). z.read) is;
    seen = let e = ap (λ (z : Seat P E G). z.seen) is in omega arith;
    done = let e = ap (λ (z : Seat P E G). z.reading.done) is in omega arith;
    base = ap (λ (z : Seat P E G). z.reading.base) is;
    noted = [];
    pages = ap (λ (z : Seat P E G). z.reading.pages) is;
    answers = ap (λ (z : Seat P E G). z.reading.answers) is;
    charged = ap (λ (z : Seat P E G). z.reading.charged) is;
  }

  -- a look
  pub moves_look : (v w : Seat P E G) (n : ℕ) → w ≡ record v { seen = n } → v.seen ≤ n → MovesOn [] [] v w
  moves_look v w n is le = record {
    parts = ap (λ (z : Seat P E G). z.parts) is;
    opening = ap (λ (z : Seat P E G). z.opening) is;
    session = ap (λ (z : Seat P E G). z.session) is;
    drawn = ap (λ (z : Seat P E G). z.drawn) is;
    read = ap (λ (z : Seat P E G). z.read) is;
    seen = let e = ap (λ (z : Seat P E G). z.seen) is in omega arith;
    done = let e = ap (λ (z : Seat P E G). z.reading.done) is in omega arith;
    base = ap (λ (z : Seat P E G). z.reading.base) is;
    noted = [];
    pages = ap (λ (z : Seat P E G). z.reading.pages) is;
    answers = ap (λ (z : Seat P E G). z.reading.answers) is;
    charged = ap (λ (z : Seat P E G). z.reading.charged) is;
  }

  -- a page is noted
  pub moves_note : (v w : Seat P E G) (b : ℕ) (c : PageCell) (K : Shared P E G) → w ≡ record v { reading = record v.reading { pages = (b, c, K) ∷ v.reading.pages } } → MovesOn [] [] v w
  moves_note v w b c K is = record {
    parts = ap (λ (z : Seat P E G). z.parts) is;
    opening = ap (λ (z : Seat P E G). z.opening) is;
    session = ap (λ (z : Seat P E G). z.session) is;
    drawn = ap (λ (z : Seat P E G). z.drawn) is;
    read = ap (λ (z : Seat P E G). z.read) is;
    seen = let e = ap (λ (z : Seat P E G). z.seen) is in omega arith;
    done = let e = ap (λ (z : Seat P E G). z.reading.done) is in omega arith;
    base = ap (λ (z : Seat P E G). z.reading.base) is;
    noted = (b, c, K) ∷ [];
    pages = ap (λ (z : Seat P E G). z.reading.pages) is;
    answers = ap (λ (z : Seat P E G). z.reading.answers) is;
    charged = ap (λ (z : Seat P E G). z.reading.charged) is;
  }

  -- a report is made, and turns may be given back
  pub moves_report : (v w : Seat P E G) (h : ℕ) (held : List (ℕ × Shared P E G)) (c : Charge) → w ≡ record v { hand = h; held = held; reading = record v.reading { charged = c ∷ v.reading.charged } } → MovesOn (c ∷ []) [] v w
  moves_report v w h held c is = record {
    parts = ap (λ (z : Seat P E G). z.parts) is;
    opening = ap (λ (z : Seat P E G). z.opening) is;
    session = ap (λ (z : Seat P E G). z.session) is;
    drawn = ap (λ (z : Seat P E G). z.drawn) is;
    read = ap (λ (z : Seat P E G). z.read) is;
    seen = let e = ap (λ (z : Seat P E G). z.seen) is in omega arith;
    done = let e = ap (λ (z : Seat P E G). z.reading.done) is in omega arith;
    base = ap (λ (z : Seat P E G). z.reading.base) is;
    noted = [];
    pages = ap (λ (z : Seat P E G). z.reading.pages) is;
    answers = ap (λ (z : Seat P E G). z.reading.answers) is;
    charged = ap (λ (z : Seat P E G). z.reading.charged) is;
  }

module _ {P E : Type 0} {G : Ghosts P} (state : P → PortState) (faults : P → List PortFault) (group : GroupView E) where
  pub known_before : (r : List Charge) (f : List MarkAnswer) (v u : Seat P E G) (K : Shared P E G) → MovesOn r f v u → IsKnownFrom state faults group u K → IsKnownFrom state faults group v K
  known_before r f v u K m k = record {
    opening = sym m.opening ∙ k.opening;
    ok = k.ok;
    seen = let a = m.seen in let b = k.seen in omega arith;
    drew = subst (Each (λ d. HasNumberAt K.opening.base K.log d.0 d.1)) m.drawn k.drew;
  }

  caused_before : (r : List Charge) (f : List MarkAnswer) (v u : Seat P E G) (t : Turn) (c : Cause) → MovesOn r f v u → IsCaused state faults group u t c → IsCaused state faults group v t c
  caused_before r f v u t c m (at_side K s after known is cause) = at_side K s after (known_before r f v u K m known) is cause
  caused_before r f v u t c m (at_root K s after of_root known is cause) = at_root K s after of_root (known_before r f v u K m known) is cause

  pub refused_on : (fronts : List MarkAnswer) (c : Cause) (v u w : Seat P E G) → MovesOn [] [] v u → IsRefusedBy state faults group fronts c u w → IsRefusedBy state faults group fronts c v w
  refused_on fronts c v u w m r = record { port = r.port; moves = moves_on _ fronts v u w m r.moves; caused = caused_before [] [] v u r.port c m r.caused }

  refused_still : (fronts : List MarkAnswer) (c : Cause) (v u w : Seat P E G) → IsRefusedBy state faults group fronts c v u → MovesOn [] [] u w → IsRefusedBy state faults group fronts c v w
  refused_still fronts c v u w r m = record { port = r.port; moves = moves_still _ fronts v u w r.moves m; caused = r.caused }

  pub refused_fronts : (fronts : List MarkAnswer) (c : Cause) (v u w : Seat P E G) → MovesOn [] fronts v u → IsRefusedBy state faults group [] c u w → IsRefusedBy state faults group fronts c v w
  refused_fronts fronts c v u w m r = record { port = r.port; moves = moves_fronts _ fronts v u w m r.moves; caused = caused_before [] fronts v u r.port c m r.caused }

  -- the same of each refusal
  pub refuses_on : (fronts : List MarkAnswer) (r : CheckpointRefusal) (v u w : Seat P E G) → MovesOn [] [] v u → RefusesCheckpoint state faults group fronts r u w → RefusesCheckpoint state faults group fronts r v w
  refuses_on fronts refused.OutOfMemory v u w m r = moves_on [] fronts v u w m r
  refuses_on fronts (refused.Drive c) v u w m r = refused_on fronts c v u w m r

  pub refuses_still : (fronts : List MarkAnswer) (r : CheckpointRefusal) (v u w : Seat P E G) → RefusesCheckpoint state faults group fronts r v u → MovesOn [] [] u w → RefusesCheckpoint state faults group fronts r v w
  refuses_still fronts refused.OutOfMemory v u w r m = moves_still [] fronts v u w r m
  refuses_still fronts (refused.Drive c) v u w r m = refused_still fronts c v u w r m

  pub refuses_fronts : (fronts : List MarkAnswer) (r : CheckpointRefusal) (v u w : Seat P E G) → MovesOn [] fronts v u → RefusesCheckpoint state faults group [] r u w → RefusesCheckpoint state faults group fronts r v w
  refuses_fronts fronts refused.OutOfMemory v u w m r = moves_fronts [] fronts v u w m r
  refuses_fronts fronts (refused.Drive c) v u w m r = refused_fronts fronts c v u w m r
