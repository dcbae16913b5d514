-- The map, the last change of a block, and where a transaction stands in the history.
use Rattle.std.proofs.Common.{◌≡◌, ℕ, ◌+◌, ◌<◌, ◌≤◌, eqb, Bool, true, false, List, [], ◌∷◌, ◌++◌, length, Option, Some, None, is_some, cond, sym, refl, ap, ◌∙◌, inl, inr, arith}
use Rattle.std.proofs.lemmas.Bool.{cases_lt, le-leb, lt-leb, cases_Bool, false≢true}
use Rattle.mq_blocks.specs.Journal.{is_among}
use Rattle.mq_blocks.specs.Machine.{Map, Writes, write_of, or_kept, after}
use Rattle.mq_ledger.specs.History.{blocks_of, map_after, changes, last, upto, AreNumbered, IsAt}
use Rattle.mq_ledger.specs.declared.tx.Tx.{Tx}

pub upto-at : (n : ℕ) (t : Tx) (ts : List Tx) → t.number ≤ n → upto n (t ∷ ts) ≡ t ∷ ts
upto-at n t ts l = rw (le-leb _ _ l) refl

pub upto-past : (n : ℕ) (t : Tx) (ts : List Tx) → n < t.number → upto n (t ∷ ts) ≡ upto n ts
upto-past n t ts l = rw (lt-leb _ _ l) refl

pub at_numbered : (base : ℕ) (t : Tx) (ts h : List Tx) → AreNumbered base h → IsAt t ts h → AreNumbered base (t ∷ ts)
at_numbered base t ts [] n at = absurd at
at_numbered base t ts (u ∷ txs) n (inl same) = rw (same.0, same.1) at n
at_numbered base t ts (u ∷ txs) n (inr deeper) = at_numbered base t ts txs n.1 deeper

pub at_most : (base : ℕ) (t : Tx) (ts h : List Tx) → AreNumbered base h → IsAt t ts h → t.number ≤ base + length h
at_most base t ts [] n at = absurd at
at_most base t ts (u ∷ txs) n (inl same) = (let k : u.number ≤ base + length (u ∷ txs) = omega (arith, n.0) in rw same.0 at k)
at_most base t ts (u ∷ txs) n (inr deeper) = omega (arith, at_most base t ts txs n.1 deeper)

pub upto_newer : (base m : ℕ) (t : Tx) (ts h : List Tx) → AreNumbered base h → IsAt t ts h → m < t.number → upto m h ≡ upto m ts
upto_newer base m t ts [] n at l = absurd at
upto_newer base m t ts (u ∷ txs) n (inl same) l =
    let l' : m < u.number = rw (← same.0) at l in
    upto-past m u txs l' ∙ ap (upto m) same.1
upto_newer base m t ts (u ∷ txs) n (inr deeper) l =
    let k = at_most base t ts txs n.1 deeper in
    upto-past m u txs (omega (arith, n.0)) ∙ upto_newer base m t ts txs n.1 deeper l

pub upto_number : (base : ℕ) (t : Tx) (ts h : List Tx) → AreNumbered base h → IsAt t ts h → upto t.number h ≡ t ∷ ts
upto_number base t ts [] n at = absurd at
upto_number base t ts (u ∷ txs) n (inl same) = rw (same.0, same.1) (upto-at t.number t ts (omega arith))
upto_number base t ts (u ∷ txs) n (inr deeper) =
    let k = at_most base t ts txs n.1 deeper in
    upto-past t.number u txs (omega (arith, n.0)) ∙ upto_number base t ts txs n.1 deeper

pub upto_all : (base m : ℕ) (h : List Tx) → AreNumbered base h → base + length h ≤ m → upto m h ≡ h
upto_all base m [] n l = refl
upto_all base m (t ∷ ts) n l = upto-at m t ts (omega (arith, n.0))

pub upto-upto : (m f : ℕ) (h : List Tx) → m ≤ f → upto m (upto f h) ≡ upto m h
upto-upto m f [] l = refl
upto-upto m f (t ∷ ts) l =
    elim (cases_lt f t.number) [
      | inl past ↦ rw (upto-past f t ts past, upto-past m t ts (omega arith)) (upto-upto m f ts l)
      | inr at ↦ rw (upto-at f t ts at) refl
    ]

pub numbered-upto : (base m : ℕ) (h : List Tx) → AreNumbered base h → AreNumbered base (upto m h)
numbered-upto base m [] n = tt
numbered-upto base m (t ∷ ts) n =
    elim (cases_lt m t.number) [
      | inl past ↦ rw (upto-past m t ts past) (numbered-upto base m ts n.1)
      | inr at ↦ rw (upto-at m t ts at) n
    ]

pub last-changed : (base : ℕ) (t : Tx) (ts : List Tx) (x : ℕ) → changes t x ≡ true → last base (t ∷ ts) x ≡ t.number
last-changed base t ts x c = rw c refl

pub last-same : (base : ℕ) (t : Tx) (ts : List Tx) (x : ℕ) → changes t x ≡ false → last base (t ∷ ts) x ≡ last base ts x
last-same base t ts x c = rw c refl

pub last_le : (base : ℕ) (h : List Tx) (x : ℕ) → AreNumbered base h → last base h x ≤ base + length h
last_le base [] x n = omega arith
last_le base (t ∷ ts) x n =
    elim (cases_Bool (changes t x)) [
      | inl c ↦ rw (last-changed base t ts x c) (omega (arith, n.0))
      | inr c ↦ rw (last-same base t ts x c) (omega (arith, last_le base ts x n.1))
    ]

pub last_at : (base : ℕ) (t : Tx) (ts h : List Tx) (x : ℕ) → AreNumbered base h → IsAt t ts h → changes t x ≡ true → t.number ≤ last base h x
last_at base t ts [] x n at c = absurd at
last_at base t ts (u ∷ txs) x n (inl same) c =
    let c' : changes u x ≡ true = rw (← same.0) at c in
    rw (last-changed base u txs x c', same.0) (omega arith)
last_at base t ts (u ∷ txs) x n (inr deeper) c =
    elim (cases_Bool (changes u x)) [
      | inl d ↦ rw (last-changed base u txs x d) (omega (arith, n.0, at_most base t ts txs n.1 deeper))
      | inr d ↦ rw (last-same base u txs x d) (last_at base t ts txs x n.1 deeper c)
    ]

pub last_upto_le : (base f : ℕ) (h : List Tx) (x : ℕ) → AreNumbered base h → last base (upto f h) x ≤ last base h x
last_upto_le base f [] x n = omega arith
last_upto_le base f (t ∷ ts) x n =
    elim (cases_lt f t.number) [
      | inl past ↦
          let rest = last_upto_le base f ts x n.1 in
          let most = last_le base ts x n.1 in
          rw (upto-past f t ts past) (elim (cases_Bool (changes t x)) [
            | inl c ↦ rw (last-changed base t ts x c) (omega (arith, n.0))
            | inr c ↦ rw (last-same base t ts x c) rest
          ])
      | inr at ↦ rw (upto-at f t ts at) (omega arith)
    ]

pub last_upto_more : (base f g : ℕ) (h : List Tx) (x : ℕ) → AreNumbered base h → f ≤ g → last base (upto f h) x ≤ last base (upto g h) x
last_upto_more base f g h x n l = rw (← upto-upto f g h l) (last_upto_le base f (upto g h) x (numbered-upto base g h n))

pub length-upto : (base f : ℕ) (h : List Tx) → AreNumbered base h → base ≤ f → base + length (upto f h) ≤ f
length-upto base f [] n l = omega arith
length-upto base f (t ∷ ts) n l =
    elim (cases_lt f t.number) [
      | inl past ↦ rw (upto-past f t ts past) (length-upto base f ts n.1 l)
      | inr at ↦ rw (upto-at f t ts at) (omega (arith, n.0))
    ]

pub last_upto_bound : (base f : ℕ) (h : List Tx) (x : ℕ) → AreNumbered base h → base ≤ f → last base (upto f h) x ≤ f
last_upto_bound base f h x n l = omega (arith, last_le base (upto f h) x (numbered-upto base f h n), length-upto base f h n l)

pub unchanged : (start : Map) (t : Tx) (ts : List Tx) (x : ℕ) → changes t x ≡ false → map_after start (t ∷ ts) x ≡ map_after start ts x
unfolding after
unchanged start t ts x c = go (write_of (t.logged ++ t.direct) x) (is_among x t.freed) (map_after start ts x) c
  where
    go : (w : Option (List ℕ)) (f : Bool) (old : Option (List ℕ)) → cond (is_some w) true f ≡ false → or_kept w (cond f None old) ≡ old
    go (Some v) f old e = absurd (false≢true (sym e))
    go None true old e = absurd (false≢true (sym e))
    go None false old e = refl

-- where the last change is no later, the value is as it was then
pub last_settled : (base f : ℕ) (h : List Tx) (x : ℕ) → AreNumbered base h → last base h x ≤ f → last base (upto f h) x ≡ last base h x
last_settled base f [] x n l = refl
last_settled base f (t ∷ ts) x n l =
    elim (cases_lt f t.number) [
      | inl past ↦
          rw (upto-past f t ts past) (elim (cases_Bool (changes t x)) [
            | inl c ↦ absurd (let k = rw (last-changed base t ts x c) at l in omega arith)
            | inr c ↦ (let k = rw (last-same base t ts x c) at l in rw (last-same base t ts x c) (last_settled base f ts x n.1 k))
          ])
      | inr at ↦ rw (upto-at f t ts at) refl
    ]

pub value_settled : (start : Map) (base f : ℕ) (h : List Tx) (x : ℕ) → last base h x ≤ f → map_after start h x ≡ map_after start (upto f h) x
value_settled start base f [] x l = refl
value_settled start base f (t ∷ ts) x l =
    elim (cases_lt f t.number) [
      | inl past ↦
          rw (upto-past f t ts past) (elim (cases_Bool (changes t x)) [
            | inl c ↦ absurd (let k = rw (last-changed base t ts x c) at l in omega arith)
            | inr c ↦ (let k = rw (last-same base t ts x c) at l in unchanged start t ts x c ∙ value_settled start base f ts x k)
          ])
      | inr at ↦ rw (upto-at f t ts at) refl
    ]

-- two that have one number are one
pub at_same : (base : ℕ) (t u : Tx) (ts txs h : List Tx) → AreNumbered base h → IsAt t ts h → IsAt u txs h → t.number ≡ u.number → (t ∷ ts) ≡ (u ∷ txs)
at_same base t u ts txs h n a b e = sym (upto_number base t ts h n a) ∙ ap (λ m. upto m h) e ∙ upto_number base u txs h n b

-- the one with the lesser number stands below the other
pub at_below : (base : ℕ) (t u : Tx) (ts txs h : List Tx) → AreNumbered base h → IsAt t ts h → IsAt u txs h → u.number < t.number → IsAt u txs ts
at_below base t u ts txs [] n a b l = absurd a
at_below base t u ts txs (w ∷ ws) n (inl same) (inl other) l = absurd (let e : t.number ≡ u.number = ap (λ (k : Tx). k.number) (sym same.0 ∙ other.0) in omega arith)
at_below base t u ts txs (w ∷ ws) n (inl same) (inr deeper) l = rw (← same.1) deeper
at_below base t u ts txs (w ∷ ws) n (inr above) (inl other) l =
    absurd (let k = at_most base t ts ws n.1 above in let e : w.number ≡ u.number = ap (λ (k : Tx). k.number) other.0 in omega (arith, n.0))
at_below base t u ts txs (w ∷ ws) n (inr above) (inr deeper) l = at_below base t u ts txs ws n.1 above deeper l

-- A block that a transaction past the front found free, and that nothing since the base changed, is free at
-- the base.
pub free_at : (start : Map) (base m f : ℕ) (t : Tx) (ts h : List Tx) (x : ℕ) → AreNumbered base h → IsAt t ts h → f < t.number → m ≤ f → map_after start ts x ≡ None → last base ts x ≤ f → last base (upto f h) x ≤ m → map_after start (upto m h) x ≡ None
free_at start base m f t ts h x n at past low free settled l =
    let k = at_numbered base t ts h n at in
    let a = rw (upto_newer base f t ts h n at past, last_settled base f ts x k.1 settled) at l in
    rw (upto_newer base m t ts h n at (omega arith)) (sym (value_settled start base m ts x a) ∙ free)

-- ---- what a transaction writes

pub written_among : (ws : Writes) (x : ℕ) → is_among x (blocks_of ws) ≡ true → (block : List ℕ) × (write_of ws x ≡ Some block)
written_among [] x e = absurd (false≢true e)
written_among (w ∷ ws) x e = elim (cases_Bool (eqb w.0 x)) [
  | inl same ↦ (w.1, rw same refl)
  | inr other ↦ rw other (written_among ws x (rw other at e))
]

pub among_written : (ws : Writes) (x : ℕ) (block : List ℕ) → write_of ws x ≡ Some block → is_among x (blocks_of ws) ≡ true
among_written [] x block e = absurd (cc)
among_written (w ∷ ws) x block e = elim (cases_Bool (eqb w.0 x)) [
  | inl same ↦ rw same refl
  | inr other ↦ rw other (among_written ws x block (rw other at e))
]

pub unwritten : (ws : Writes) (x : ℕ) → is_among x (blocks_of ws) ≡ false → write_of ws x ≡ None
unwritten [] x e = refl
unwritten (w ∷ ws) x e = elim (cases_Bool (eqb w.0 x)) [
  | inl same ↦ absurd (false≢true (sym (rw same at e)))
  | inr other ↦ rw other (unwritten ws x (rw other at e))
]

pub write_of-append : (vs ws : Writes) (x : ℕ) → write_of (vs ++ ws) x ≡ or_kept (write_of vs x) (write_of ws x)
write_of-append [] ws x = refl
write_of-append (v ∷ vs) ws x = elim (cases_Bool (eqb v.0 x)) [
  | inl same ↦ rw same refl
  | inr other ↦ rw other (write_of-append vs ws x)
]

written_changes : (t : Tx) (x : ℕ) (block : List ℕ) → write_of (t.logged ++ t.direct) x ≡ Some block → changes t x ≡ true
written_changes t x block e = rw e refl

pub changes_logged : (t : Tx) (x : ℕ) → is_among x (blocks_of t.logged) ≡ true → changes t x ≡ true
changes_logged t x e =
    let w = written_among t.logged x e in
    written_changes t x w.0 (write_of-append t.logged t.direct x ∙ ap (λ o. or_kept o (write_of t.direct x)) w.1)

pub changes_direct : (t : Tx) (x : ℕ) → is_among x (blocks_of t.direct) ≡ true → changes t x ≡ true
changes_direct t x e =
    let w = written_among t.direct x e in
    go (write_of t.logged x) refl w.1
  where
    go : (o : Option (List ℕ)) → write_of t.logged x ≡ o → {block : List ℕ} → write_of t.direct x ≡ Some block → changes t x ≡ true
    go (Some v) a b = written_changes t x v (write_of-append t.logged t.direct x ∙ ap (λ o. or_kept o (write_of t.direct x)) a)
    go None a {block} b = written_changes t x block (write_of-append t.logged t.direct x ∙ ap (λ o. or_kept o (write_of t.direct x)) a ∙ b)

-- what it wrote is in the map
pub map_written : (start : Map) (t : Tx) (ts : List Tx) (x : ℕ) (block : List ℕ) → write_of (t.logged ++ t.direct) x ≡ Some block → map_after start (t ∷ ts) x ≡ Some block
unfolding after
map_written start t ts x block e = rw e refl
