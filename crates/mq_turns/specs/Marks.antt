-- What is known done, the marks of the queues, and what a chair reads of them.
use Rattle.std.specs.Prelude.{◌≡◌, ℕ, suc, ◌-◌, ◌^◌, ◌<◌, ◌≤◌, ◌&&◌, ◌||◌, nat_eq, nat_le, max, min, Bool, true, false, cond, List, [], ◌∷◌, ◌++◌, length, Option, Some, None}
use Rattle.mq_turns.specs.Lists.{Each}
use Rattle.mq_turns.specs.Meaning.{Meaning, Grows, newest, HasNumberAt}
use Rattle.mq_turns.specs.declared.rule.Claim.{Claim}
use Rattle.mq_turns.specs.declared.rule.Opening.{Opening}
use Rattle.mq_turns.specs.declared.rule.Known.{Known}
use Rattle.mq_turns.specs.declared.rule.Reading.{Reading}

-- a claim of the queue goes up to the number
abbrev pub is_claimed : ℕ → ℕ → List Claim → Bool
is_claimed q n [] = false
is_claimed q n (c ∷ cs) = (nat_eq c.queue q && nat_le n c.up_to) || is_claimed q n cs

-- the queue's mark
abbrev pub mark_of : ℕ → List Claim → ℕ
mark_of q [] = 2 ^ 64 - 1
mark_of q (c ∷ cs) = cond (nat_eq c.queue q) c.mark (mark_of q cs)

-- what a mark of the queue claims, where n is the newest number: all numbers of the queue below it are done
abbrev pub claim_of : ℕ → ℕ → ℕ → Claim
claim_of q low n = record { queue = q; up_to = min (low - 1) n; mark = low }

module _ {P Q R : Type 0} where
  -- how many queues the desk of a chair has
  abbrev pub queues_of : Option (Opening P Q R) → ℕ
  queues_of None = 0
  queues_of (Some o) = length o.sides

module _ {P Q R E : Type 0} where
  -- nothing was read; and what stands at the opening
  abbrev pub unread : Reading P Q R E
  unread = record { swept = 0; low = 0; done = 0; base = 0; pages = []; answers = []; charged = [] }

  abbrev pub read_first : ℕ → Reading P Q R E
  read_first base =
      record { swept = 0; low = 0; done = base; base = base; pages = []; answers = []; charged = [] }

  -- a sweep over `queues` queues has passed n of them, whose numbers up to `low` are done
  abbrev pub passed : ℕ → ℕ → ℕ → Reading P Q R E → Reading P Q R E
  passed queues n low r =
      record r { swept = n; low = low; done = cond (nat_le queues n) (max r.done low) r.done }

  -- all numbers of the queue up to n are done: this begins a sweep at the first queue, and carries one on
  -- at the next
  abbrev pub shown : ℕ → ℕ → ℕ → Reading P Q R E → Reading P Q R E
  shown queues q n r =
      cond (nat_eq q 0) (passed queues 1 n r)
      (cond (nat_eq q r.swept) (passed queues (suc q) (min r.low n) r) r)

  -- what two chairs read and noted; pages and answers are forgotten
  abbrev pub read_both : Reading P Q R E → Reading P Q R E → Reading P Q R E
  read_both r t =
      record {
        swept = 0;
        low = 0;
        done = max r.done t.done;
        base = max r.base t.base;
        pages = [];
        answers = [];
        charged = r.charged ++ t.charged;
      }

module _ {P Q R E : Type 0} (μ : Meaning P Q R E) where
  -- all numbers up to n of the first queues are done
  abbrev pub DoneBelow : ℕ → ℕ → Known P Q R E → Type 0
  DoneBelow queues n K =
      (m : ℕ) (e : E) → HasNumberAt K.opening.base K.log m e → m ≤ n → μ.queue e < queues
      → is_claimed (μ.queue e) m K.claims ≡ true

  -- all numbers up to n are done
  abbrev pub DoneTo : ℕ → Known P Q R E → Type 0
  DoneTo n K =
      (m : ℕ) (e : E) → HasNumberAt K.opening.base K.log m e → m ≤ n
      → is_claimed (μ.queue e) m K.claims ≡ true

  -- each number of a queue that isn't done is at or above its mark
  pub record Marked (K : Known P Q R E) : Type 0 where
    pub own : (n : ℕ) (e : E) → HasNumberAt K.opening.base K.log n e → μ.queue e < length K.opening.sides
    pub undone : (n : ℕ) (e : E) → HasNumberAt K.opening.base K.log n e
        → is_claimed (μ.queue e) n K.claims ≡ false → mark_of (μ.queue e) K.claims ≤ n
    pub above : (q : ℕ) → 1 ≤ mark_of q K.claims
    pub word : K.opening.base ≤ K.word

  -- what a chair has read and noted
  pub record Reader (K : Known P Q R E) (r : Reading P Q R E) : Type 0 where
    pub low : r.low ≤ newest K
    pub swept : DoneBelow r.swept r.low K
    pub last : r.done ≤ newest K
    pub done : DoneTo r.done K
    pub base : r.base ≤ K.word
    pub pages : Each (λ g. μ.ok g.2 × Grows g.2 K × μ.page g.0 g.2 g.1) r.pages
