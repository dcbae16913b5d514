-- The rule of the desk, and what each step shows.
-- Word k, for each slot k, is 1 while a chair holds the turn of the slot and else 0. The word after these
-- is the greatest number drawn, then comes a mark for each queue, and last the base.
use Rattle.std.specs.Prelude.{◌≡◌, ◌≢◌, ◌⊎◌, ℕ, zero, suc, ◌+◌, ◌-◌, ◌*◌, ◌/◌, ◌^◌, ◌<◌, ◌≤◌, nat_lt, max, Bool, true, cond, List, [], ◌∷◌, ◌++◌, length, slice_index, Option, Some, None}
use mathlib.Core.Option.{some}
use lib.ListN.{get_elem?}
use Rattle.atomic_table.specs.Table.{State, Me, Step}
use Rattle.mq_blocks.specs.Totals.{total}
use Rattle.mq_turns.specs.Lists.{Each, Sorted, tally, tick, times, without}
use Rattle.mq_turns.specs.Meaning.{Meaning, Stays, Grows, opened, newest, drawn, HasNumberAt}
use Rattle.mq_turns.specs.Marks.{mark_of, unread, read_first, read_both, Marked, Reader}
use Rattle.mq_turns.specs.declared.rule.Charge.{Charge}
use Rattle.mq_turns.specs.declared.rule.Opening.{Opening}
use Rattle.mq_turns.specs.declared.rule.Known.{Known}
use Rattle.mq_turns.specs.declared.rule.ChairView.{ChairView}
use Rattle.mq_turns.specs.declared.rule.Start.{Start}
use Rattle.mq_turns.specs.declared.turn.Turn.{Turn}
use Rattle.mq_turns.specs.declared.turn.Turn.TheVariants.{Page, Side, Root}
use Rattle.mq_turns.specs.declared.turn.Item.{Item}
use Rattle.mq_turns.specs.declared.turn.Item.TheVariants as item

-- ---- slots: the pages come first, then the sides, then the root

module _ {P Q R : Type 0} (o : Opening P Q R) where
  abbrev pub slots : ℕ
  slots = suc (length o.pages + length o.sides)

  -- the turn is one of the desk's
  abbrev pub IsTurn : Turn → Type 0
  IsTurn (Page b) = b < length o.pages
  IsTurn (Side q) = q < length o.sides
  IsTurn Root = Unit {0}

  abbrev pub slot_of : Turn → ℕ
  slot_of (Page b) = b
  slot_of (Side q) = length o.pages + q
  slot_of Root = length o.pages + length o.sides

  abbrev pub turn_at : ℕ → Turn
  turn_at k =
      cond (nat_lt k (length o.pages)) (Page k)
      (cond (nat_lt k (length o.pages + length o.sides)) (Side (k - length o.pages)) Root)

-- ---- views

-- the greatest of n and the numbers of the list
abbrev pub last_of : {E : Type 0} → ℕ → List (ℕ × E) → ℕ
last_of n [] = n
last_of n (d ∷ ds) = max d.0 (last_of n ds)

-- the sessions from i on, n of them
abbrev pub sessions_from : ℕ → ℕ → List ℕ
sessions_from i zero = []
sessions_from i (suc n) = i ∷ sessions_from (suc i) n

-- all but the first
abbrev pub behind : List ℕ → List ℕ
behind [] = []
behind (i ∷ is) = is

-- how many numbers one of `chairs` chairs may draw
abbrev pub allotment : ℕ → ℕ
allotment chairs = 2 ^ 62 / chairs

module _ {P Q R E : Type 0} where
  abbrev pub hand_at : ℕ → ChairView P Q R E → ℕ
  hand_at k v = tick v.hand (suc k)

  -- how many chairs hold the turn of the slot k, and how many have the slot in hand
  abbrev pub holders : ℕ → List (ChairView P Q R E) → ℕ
  holders k vs = total (λ v. times k v.held) vs

  abbrev pub hands : ℕ → List (ChairView P Q R E) → ℕ
  hands k vs = total (hand_at k) vs

  -- how often the session is one of those that the view stands for
  abbrev pub sits : ℕ → ChairView P Q R E → ℕ
  sits i v = total (λ j. tick j i) v.sessions

  -- the chair had seen and drawn nothing above n
  abbrev pub Below : ℕ → ChairView P Q R E → Type 0
  Below n v = (v.seen ≤ n) × Each (λ d. d.0 ≤ n) v.drawn

  -- a view that knows and holds nothing
  abbrev pub blank : ChairView P Q R E
  blank =
      record {
        parts = 0;
        opening = None;
        session = 0;
        seen = 0;
        hand = 0;
        held = [];
        drawn = [];
        read = [];
        reading = unread;
        sessions = [];
      }

  -- a new chair
  abbrev pub fresh : Opening P Q R → ℕ → ChairView P Q R E
  fresh o i =
      record blank {
        parts = 1;
        opening = Some o;
        session = i;
        seen = o.base;
        reading = read_first o.base;
        sessions = i ∷ [];
      }

  -- the slots from j on, n of them, all held since the desk was opened
  abbrev pub slots_from : Opening P Q R → ℕ → ℕ → List (ℕ × Known P Q R E)
  slots_from o j zero = []
  slots_from o j (suc n) = (j, opened o) ∷ slots_from o (suc j) n

  -- the view that stands for all chairs from the i-th on, and holds the first n slots
  abbrev pub laying : Opening P Q R → ℕ → ℕ → ℕ → ChairView P Q R E
  laying o parts i n =
      record blank {
        parts = parts;
        opening = Some o;
        session = i;
        seen = o.base;
        held = slots_from o 0 n;
        reading = read_first o.base;
        sessions = sessions_from i parts;
      }

  -- at first one view holds all turns
  abbrev pub first_view : Opening P Q R → ℕ → ChairView P Q R E
  first_view o chairs = laying o chairs 0 (slots o)

  -- one chair is set apart from the others
  abbrev pub others : ChairView P Q R E → ChairView P Q R E
  others v = record v { parts = v.parts - 1; session = suc v.session; sessions = behind v.sessions }

  abbrev pub seated : ChairView P Q R E → ChairView P Q R E
  seated v =
      record blank {
        parts = 1;
        opening = v.opening;
        session = v.session;
        seen = v.seen;
        reading = v.reading;
        sessions = v.session ∷ [];
      }

  -- a note of what the chair saw and drew, for another
  abbrev pub noted : ChairView P Q R E → ChairView P Q R E
  noted v = record blank { seen = last_of v.seen v.drawn }

  abbrev pub heard : ChairView P Q R E → ChairView P Q R E → ChairView P Q R E
  heard v w = record v { seen = max v.seen w.seen }

  -- two chairs are one
  abbrev pub joined : ChairView P Q R E → ChairView P Q R E → ChairView P Q R E
  joined v w =
      record v {
        parts = v.parts + w.parts;
        seen = max v.seen w.seen;
        drawn = v.drawn ++ w.drawn;
        read = v.read ++ w.read;
        reading = read_both v.reading w.reading;
        sessions = v.sessions ++ w.sessions;
      }

  -- what the chairs drew and read, the last chair's first
  abbrev pub drawn_of : List (ChairView P Q R E) → List (ℕ × E)
  drawn_of [] = []
  drawn_of (v ∷ vs) = drawn_of vs ++ v.drawn

  abbrev pub read_of : List (ChairView P Q R E) → List (E × Known P Q R E)
  read_of [] = []
  read_of (v ∷ vs) = read_of vs ++ v.read

  abbrev pub charged_of : List (ChairView P Q R E) → List Charge
  charged_of [] = []
  charged_of (v ∷ vs) = charged_of vs ++ v.reading.charged

  -- the turns that a step is about are known of anew by their holder
  abbrev pub refreshed : (ℕ → Bool) → Known P Q R E → List (ℕ × Known P Q R E) → List (ℕ × Known P Q R E)
  refreshed touched L [] = []
  refreshed touched L (h ∷ hs) = (h.0, cond (touched h.0) L h.1) ∷ refreshed touched L hs

  -- a look, at which the entry was read, if there is one
  abbrev pub after_look : Option E → Known P Q R E → ChairView P Q R E → ChairView P Q R E
  after_look None K v = record v { seen = newest K }
  after_look (Some e) K v = record v { seen = newest K; read = (e, K) ∷ v.read }

abbrev pub Sat : Type 0 → Type 0 → Type 0 → Type 0 → Type 0 → Type 0
Sat M P Q R E = Me (Option (Item M P Q R E)) (ChairView P Q R E)

abbrev pub At : Type 0 → Type 0 → Type 0 → Type 0 → Type 0 → Type 0
At M P Q R E = Step (Option (Item M P Q R E))

abbrev pub Now : Type 0 → Type 0 → Type 0 → Type 0 → Type 0 → Type 0
Now M P Q R E = State (Option (Item M P Q R E)) (ChairView P Q R E)

-- ---- what is known, seen from one chair

module _ {P Q R E : Type 0} (μ : Meaning P Q R E) where
  abbrev pub Stay : Turn → Known P Q R E → Known P Q R E → Type 0
  Stay = Stays μ.touches μ.lies

  -- what holds for a chair of all that is known by now, whatever the others did
  pub record Sees (v : ChairView P Q R E) (K : Known P Q R E) : Type 0 where
    pub opening : v.opening ≡ Some K.opening
    pub ok : μ.ok K
    pub few : newest K ≤ 2 ^ 63
    pub held : Each (λ h. μ.ok h.1 × Stay (turn_at K.opening h.0) h.1 K) v.held
    pub seen : v.seen ≤ newest K
    pub drew : Each (λ d. HasNumberAt K.opening.base K.log d.0 d.1) v.drawn
    pub marked : Marked μ K
    pub reader : Reader μ K v.reading
    -- all that was drawn for its session, it drew
    pub own : (n : ℕ) (e : E) → HasNumberAt K.opening.base K.log n e → μ.session e ≡ v.session
        → 0 < times n v.drawn

  -- what a draw asks: whatever is known by now, the chair holds all that the entry changes, the entry may
  -- be drawn, and the queue's mark is not above its number
  pub record Covers (e : E) (v : ChairView P Q R E) : Type 0 where
    pub held : (K : Known P Q R E) → Sees v K → (t : Turn) → IsTurn K.opening t
        → μ.touches K.log e t ≡ true → 0 < times (slot_of K.opening t) v.held
    pub may : (K : Known P Q R E) → Sees v K → newest K < 2 ^ 63 → μ.may e K
    pub mark : (K : Known P Q R E) → Sees v K → mark_of (μ.queue e) K.claims ≤ suc (newest K)

  -- what an entry asks that is read and not drawn
  abbrev pub MayRead : E → ChairView P Q R E → Type 0
  MayRead e v = (K : Known P Q R E) → Sees v K → μ.fits e K

  -- the entry is of the chair's session, and comes after all that the chair drew and read
  pub record Follows (e : E) (v : ChairView P Q R E) : Type 0 where
    pub session : μ.session e ≡ v.session
    pub drawn : Each (λ d. μ.group d.1 < μ.group e) v.drawn
    pub read : Each (λ r. μ.group r.0 < μ.group e) v.read

  -- a group of a session, as a draw with its number or as a read at a number, comes after another of that
  -- session: its number is not below the other's, and above it where the later one is a draw
  abbrev pub DrawAfterDraw : ℕ × E → ℕ × E → Type 0
  DrawAfterDraw d before = (μ.group before.1 < μ.group d.1) × (before.0 < d.0)

  abbrev pub DrawAfterRead : ℕ × E → E × Known P Q R E → Type 0
  DrawAfterRead d before = (μ.group before.0 < μ.group d.1) × (newest before.1 < d.0)

  abbrev pub ReadAfterDraw : E × Known P Q R E → ℕ × E → Type 0
  ReadAfterDraw r before = (μ.group before.1 < μ.group r.0) × (before.0 ≤ newest r.1)

  abbrev pub ReadAfterRead : E × Known P Q R E → E × Known P Q R E → Type 0
  ReadAfterRead r before = (μ.group before.0 < μ.group r.0) × (newest before.1 ≤ newest r.1)

  -- what was drawn and read is of the session, and of each two the one comes after the other: along the
  -- session's groups the numbers never fall, a draw's is above all before it, and no group stands twice
  pub record InOrder (session : ℕ) (drew : List (ℕ × E)) (read : List (E × Known P Q R E)) : Type 0 where
    pub drew_own : Each (λ d. μ.session d.1 ≡ session) drew
    pub read_own : Each (λ r. μ.session r.0 ≡ session) read
    pub draws : Sorted DrawAfterDraw drew
    pub reads : Sorted ReadAfterRead read
    pub both : Each (λ d. Each (λ r. DrawAfterRead d r ⊎ ReadAfterDraw r d) read) drew

  -- what a view has drawn and read is in order
  abbrev pub IsInOrder : ChairView P Q R E → Type 0
  IsInOrder v = InOrder v.session v.drawn v.read

  abbrev pub after_draw : E → Known P Q R E → ChairView P Q R E → ChairView P Q R E
  after_draw e K v = record v {
    seen = suc (newest K);
    held = refreshed (λ k. μ.touches K.log e (turn_at K.opening k)) (drawn e K) v.held;
    drawn = (suc (newest K), e) ∷ v.drawn;
  }

-- ---- the rule

module _ {P Q R E : Type 0} (μ : Meaning P Q R E) where
  -- a view, as far as turns go: what it holds is what was known then, except for what others can't touch
  pub record Holder (turn : ℕ → Turn) (slots : ℕ) (K : Known P Q R E) (v : ChairView P Q R E) : Type 0 where
    pub idle : v.parts ≡ 0 → v.held ≡ []
    pub hand : (k : ℕ) → v.hand ≡ suc k → 0 < times k v.held
    pub held : Each (λ h. (h.0 < slots) × μ.ok h.1 × Stay μ (turn h.0) h.1 K) v.held

  -- a view, as far as numbers go
  pub record Drawer (most : ℕ) (K : Known P Q R E) (v : ChairView P Q R E) : Type 0 where
    pub few : length v.drawn ≤ v.parts * most
    pub opening : v.parts ≢ 0 → v.opening ≡ Some K.opening
    pub seen : v.seen ≤ newest K
    pub drew : Each (λ d. HasNumberAt K.opening.base K.log d.0 d.1) v.drawn
    pub read : Each (λ r. μ.ok r.1 × Grows r.1 K × μ.fits r.0 r.1) v.read
    -- of one chair; where chairs became one, each was in order before
    pub order : v.parts ≡ 1 → IsInOrder μ v

  -- a view, as far as sessions go: its own is among them, and all that was drawn for them, it drew
  pub record Sitter (K : Known P Q R E) (v : ChairView P Q R E) : Type 0 where
    pub own : v.parts ≢ 0 → 0 < sits v.session v
    pub drew : (n : ℕ) (e : E) → HasNumberAt K.opening.base K.log n e → 0 < sits (μ.session e) v
        → 0 < times n v.drawn

module _ {M P Q R E : Type 0} (μ : Meaning P Q R E) where
  -- the value is what the machine says of the turn
  abbrev pub Stands : Turn → Known P Q R E → Item M P Q R E → Type 0
  Stands (Page b) K (item.Page p) = μ.page b K p
  Stands (Page b) K (item.Side q) = ⊥
  Stands (Page b) K (item.Root r) = ⊥
  Stands (Side i) K (item.Page p) = ⊥
  Stands (Side i) K (item.Side q) = μ.side i K q
  Stands (Side i) K (item.Root r) = ⊥
  Stands Root K (item.Page p) = ⊥
  Stands Root K (item.Side q) = ⊥
  Stands Root K (item.Root r) = μ.root K r

  -- turns: each is held by one chair at most, and its value is at home where none holds it; between the
  -- taking of the word and of the slot, and between the laying and the freeing, the slot is in hand
  module _ (turn : ℕ → Turn) where
    pub record Turned (K : Known P Q R E) (s : Now M P Q R E) (k : ℕ) : Type 0 where
      pub word : slice_index s.words k ≡ holders k s.views
      pub home : holders k s.views ≡ 0
          → (x : Item M P Q R E) × (get_elem? s.homes k ≡ some (some (Some x))) × Stands (turn k) K x
      pub away : holders k s.views ≡ 1 → hands k s.views ≡ 0 → get_elem? s.homes k ≡ some (some None)

    pub record Turns (K : Known P Q R E) (s : Now M P Q R E) : Type 0 where
      pub wide : length s.homes < length s.words
      pub ok : μ.ok K
      pub single : (k : ℕ) → holders k s.views ≤ 1
      pub each_turn : (k : ℕ) → k < length s.homes → Turned K s k
      pub each_chair : (j : ℕ) (v : ChairView P Q R E) → get_elem? s.views j ≡ some v
          → Holder μ turn (length s.homes) K v

  -- numbers: the counter is the newest number, and each number was drawn by one chair
  pub record Numbers (chairs : ℕ) (K : Known P Q R E) (s : Now M P Q R E) : Type 0 where
    pub counter : slice_index s.words (length s.homes) ≡ newest K
    pub whole : total (λ v. v.parts) s.views ≡ chairs
    pub counted : total (λ v. length v.drawn) s.views ≡ length K.log
    pub once : (n : ℕ) → K.opening.base < n → n ≤ newest K → total (λ v. times n v.drawn) s.views ≡ 1
    pub bounds : (K.opening.base ≤ 2 ^ 62) × (0 < chairs)
    pub each_chair : (j : ℕ) (v : ChairView P Q R E) → get_elem? s.views j ≡ some v
        → Drawer μ (allotment chairs) K v

  -- the other words: the queues' marks and the base; what the chairs read of them, and each charge stands
  -- in one view
  pub record Words (K : Known P Q R E) (s : Now M P Q R E) : Type 0 where
    pub wide : length s.words ≡ suc (suc (length s.homes + length K.opening.sides))
    pub marks : (q : ℕ) → q < length K.opening.sides
        → slice_index s.words (suc (length s.homes + q)) ≡ mark_of q K.claims
    pub base : slice_index s.words (suc (length s.homes + length K.opening.sides)) ≡ K.word
    pub marked : Marked μ K
    pub charges : (f : Charge → Bool) → total (λ v. tally f v.reading.charged) s.views ≡ tally f K.charges
    pub each_chair : (j : ℕ) (v : ChairView P Q R E) → get_elem? s.views j ≡ some v → Reader μ K v.reading
    pub idle : (j : ℕ) (v : ChairView P Q R E) → get_elem? s.views j ≡ some v → v.parts ≡ 0
        → v.reading.charged ≡ []

  -- sessions: each is one view's at most
  pub record Sessions (K : Known P Q R E) (s : Now M P Q R E) : Type 0 where
    pub single : (i : ℕ) → total (sits i) s.views ≤ 1
    pub each_chair : (j : ℕ) (v : ChairView P Q R E) → get_elem? s.views j ≡ some v → Sitter μ K v

  -- all that is known together, with what each layer of the rule says of it
  abbrev pub Ruled : Opening P Q R → ℕ → Now M P Q R E → Type 0
  Ruled o chairs s =
      (K : Known P Q R E) × (K.opening ≡ o) × Turns (turn_at o) K s × Numbers chairs K s × Words K s
      × Sessions K s

  -- ---- what each step shows

  abbrev pub taken : At M P Q R E → Sat M P Q R E → ℕ → Sat M P Q R E → Type 0
  taken st me n me' =
      (n ≡ 0
      → (x : Item M P Q R E) × (K : Known P Q R E)
      × (me' ≡ (
        record me.0 { hand = suc st.word; held = (st.word, K) ∷ me.0.held },
        (st.word, Some x) ∷ [],
      ))
      × Sees μ me.0 K × Stands (turn_at K.opening st.word) K x)
      × (n ≢ 0 → me' ≡ me)

  abbrev pub drew_one : E → At M P Q R E → Sat M P Q R E → ℕ → Sat M P Q R E → Type 0
  drew_one e st me n me' =
      ((K : Known P Q R E) × (me' ≡ (after_draw μ e K me.0, me.1)) × (newest K ≡ n) × Sees μ me.0 K)
      × Below n me.0 × (n < 2 ^ 63) × (me.0.parts ≡ 1 → IsInOrder μ me'.0)

  abbrev pub looked : Option E → At M P Q R E → Sat M P Q R E → ℕ → Sat M P Q R E → Type 0
  looked o st me n me' =
      ((K : Known P Q R E) × (me' ≡ (after_look o K me.0, me.1)) × (newest K ≡ n) × Sees μ me.0 K)
      × Below n me.0 × (me.0.parts ≡ 1 → IsInOrder μ me'.0)

module _ {M P Q R E : Type 0} where
  abbrev pub settled : At M P Q R E → Sat M P Q R E → ℕ → Sat M P Q R E → Type 0
  settled st me n me' = me' ≡ (record me.0 { hand = 0 }, [])

  abbrev pub reached : At M P Q R E → Sat M P Q R E → ℕ → Sat M P Q R E → Type 0
  reached st me n me' = me' ≡ (record me.0 { hand = suc st.word }, (st.word, None) ∷ [])

  abbrev pub freed : At M P Q R E → Sat M P Q R E → ℕ → Sat M P Q R E → Type 0
  freed st me n me' = me' ≡ (record me.0 { hand = 0; held = without st.word me.0.held }, [])

  -- how the desk of the key was opened
  abbrev pub opening_of : Start M P Q R E → Opening P Q R
  opening_of key =
      record {
        pages = key.pages.value.items;
        sides = key.sides.value.items;
        root = key.root.value;
        base = key.base;
      }
