-- What is known together, how it grows, and what the values on a desk are by it.
use Rattle.std.specs.Prelude.{◌≡◌, ◌≢◌, ℕ, suc, ◌+◌, ◌≤◌, ◌⊎◌, Bool, true, false, List, [], ◌∷◌, ◌++◌, length}
use Rattle.mq_turns.specs.Lists.{Each}
use Rattle.mq_turns.specs.declared.turn.Turn.{Turn}
use Rattle.mq_turns.specs.declared.turn.Turn.TheVariants.{Page, Side, Root}
use Rattle.mq_turns.specs.declared.rule.Claim.{Claim}
use Rattle.mq_turns.specs.declared.rule.Known.{Known}
use Rattle.mq_turns.specs.declared.rule.Charge.{Charge}
use Rattle.mq_turns.specs.declared.rule.Opening.{Opening}

-- the entry e has the number n in the history, of which the first entry has the number after the base
abbrev pub HasNumberAt : {E : Type 0} → ℕ → List E → ℕ → E → Type 0
HasNumberAt base [] n e = ⊥
HasNumberAt base (x ∷ xs) n e = ((n ≡ suc (base + length xs)) × (x ≡ e)) ⊎ HasNumberAt base xs n e

module _ {P Q R E : Type 0} where
  -- nothing was drawn, claimed, written home or charged
  abbrev pub opened : Opening P Q R → Known P Q R E
  opened o = record { opening = o; log = []; claims = []; ended = []; word = o.base; charges = [] }

  -- the greatest number drawn
  abbrev pub newest : Known P Q R E → ℕ
  newest K = K.opening.base + length K.log

  -- one thing more is known: an entry drawn, a queue's numbers done, a home write ended, the base raised, a
  -- fault charged
  abbrev pub drawn : E → Known P Q R E → Known P Q R E
  drawn e K = record K { log = e ∷ K.log }

  abbrev pub claimed : Claim → Known P Q R E → Known P Q R E
  claimed c K = record K { claims = c ∷ K.claims }

  abbrev pub written : ℕ × ℕ → Known P Q R E → Known P Q R E
  written h K = record K { ended = h ∷ K.ended }

  abbrev pub raised : ℕ → Known P Q R E → Known P Q R E
  raised b K = record K { word = b }

  abbrev pub charged : Charge → Known P Q R E → Known P Q R E
  charged c K = record K { charges = c ∷ K.charges }

  -- what is known grew from K to L
  pub record Grows (K L : Known P Q R E) : Type 0 where
    pub opening : L.opening ≡ K.opening
    pub newer : List E
    pub log : L.log ≡ newer ++ K.log
    pub claimed : List Claim
    pub claims : L.claims ≡ claimed ++ K.claims
    pub written : List (ℕ × ℕ)
    pub ended : L.ended ≡ written ++ K.ended
    pub word : K.word ≤ L.word
    pub blamed : List Charge
    pub charges : L.charges ≡ blamed ++ K.charges

-- Of a history and an entry drawn on it: the entry changes what lies under the turn.
abbrev pub Touch : Type 0 → Type 0
Touch E = List E → E → Turn → Bool

-- Of the values at the opening and a home write, by its block and number: it is about what lies under the
-- turn, the page or the port that has the block.
abbrev pub Lie : Type 0 → Type 0 → Type 0 → Type 0
Lie P Q R = Opening P Q R → ℕ × ℕ → Turn → Bool

-- none of the newer entries changes what lies under the turn
abbrev pub Apart : {E : Type 0} → Touch E → List E → List E → Turn → Type 0
Apart touches [] log t = Unit {0}
Apart touches (e ∷ es) log t = (touches (es ++ log) e t ≡ false) × Apart touches es log t

module _ {P Q R E : Type 0} (touches : Touch E) (lies : Lie P Q R) where
  -- what is known grew from K to L, and nothing of it is about the turn; the base word is about the root
  pub record Stays (t : Turn) (K L : Known P Q R E) : Type 0 where
    pub grows : Grows K L
    pub apart : Apart touches grows.newer K.log t
    pub claims : Each (λ c. Side c.queue ≢ t) grows.claimed
    pub ended : Each (λ h. lies K.opening h t ≡ false) grows.written
    pub word : t ≡ Root → L.word ≡ K.word
    pub charges : Each (λ c. c.port ≢ t) grows.blamed

-- What a machine says of its values and entries. Pages are named by their block, sides by their queue.
pub record Meaning (P Q R E : Type 0) : Type 1 where
  pub touches : Touch E
  pub lies : Lie P Q R
  -- the queue that the entry is drawn on, its session, and its group's place among those of its session
  pub queue : E → ℕ
  pub session : E → ℕ
  pub group : E → ℕ
  -- the history is legal, and what is said of done numbers, home writes and the base is true
  pub ok : Known P Q R E → Type 0
  -- what a value is, by what is known
  pub page : ℕ → Known P Q R E → P → Type 0
  pub side : ℕ → Known P Q R E → Q → Type 0
  pub root : Known P Q R E → R → Type 0
  -- the entry may be drawn next: the replies and writes are the machine's on the map at the newest number
  pub may : E → Known P Q R E → Type 0
  -- the entry, which is not drawn, has the machine's replies and writes on the map at the newest number
  pub fits : E → Known P Q R E → Type 0

-- The laws of what a machine says: an entry changes its own side, a draw keeps the history legal, and a
-- value that nothing touched is what it was.
pub record AreLaws {P Q R E : Type 0} (μ : Meaning P Q R E) : Type 0 where
  pub own : (log : List E) (e : E) → μ.touches log e (Side (μ.queue e)) ≡ true
  pub ok_drawn : (e : E) (K : Known P Q R E) → μ.ok K → μ.may e K → μ.ok (drawn e K)
  pub page_along : (b : ℕ) (K L : Known P Q R E) (x : P) → Stays μ.touches μ.lies (Page b) K L → μ.ok K
      → μ.ok L → μ.page b K x → μ.page b L x
  pub side_along : (q : ℕ) (K L : Known P Q R E) (x : Q) → Stays μ.touches μ.lies (Side q) K L → μ.ok K
      → μ.ok L → μ.side q K x → μ.side q L x
  pub root_along : (K L : Known P Q R E) (x : R) → Stays μ.touches μ.lies Root K L → μ.ok K → μ.ok L
      → μ.root K x → μ.root L x
