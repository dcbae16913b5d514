-- The entries that the transactions of a queue have in its ring, as the lines of its commits count them.
use Rattle.std.proofs.Common.{◌≡◌, ◌∙◌, ℕ, cond, ◌+◌, ◌<◌, ◌≤◌, Bool, true, false, List, [], ◌∷◌, ◌++◌, length, map, inl, inr, refl, sym, ap, subst, arith}
use Rattle.std.specs.Prelude.{◌&&◌, nat_eq, reverse}
use Rattle.std.specs.List.{All, Contains}
use Rattle.std.proofs.lemmas.Bool.{cases_lt, le-leb, lt-leb, true≢false}
use Rattle.std.proofs.lemmas.List.{reverse-append}
use lib.ListN.{length-map}
use Rattle.mq_blocks.proofs.DescriptorLimits.{further-none, further-one}
use Rattle.mq_blocks.specs.Descriptor.{further_for}
use Rattle.mq_blocks.specs.Geometry.{homes_of}
use Rattle.mq_blocks.specs.Machine.{Map, after}
use Rattle.mq_blocks.specs.declared.geometry.Geometry.{Geometry}
use Rattle.mq_calls.proofs.LawsChanging.{writes_rise}
use Rattle.mq_calls.specs.Entries.{Does, freed_by, tx_of, volume_after, written_by}
use Rattle.mq_calls.specs.Group.{file_group}
use Rattle.mq_calls.specs.Plans.{IsPlaced, planned_by}
use Rattle.mq_calls.specs.declared.entry.FileEntry.{FileEntry}
use Rattle.mq_ledger.specs.History.{IsAt, change_of, of_queue, writes}
use Rattle.mq_ledger.specs.Items.{below, descriptor_blocks, end_of, further_blocks, total}
use Rattle.mq_ledger.specs.declared.tx.Tx.{Tx}
use Rattle.mq_run_laws.proofs.Histories.{history-changes, history-laid, stays-on}
use Rattle.mq_run_laws.specs.Cuts.{HasEntries, HasShare, is_on}
use Rattle.mq_run_laws.specs.Histories.{AreLinesOf, none, commit, read, AreOfBytes, IsCommitOf, TellsOf, map_after}
use Rattle.mq_run_laws.specs.Legal.{Writes, next}
use Rattle.mq_pages.specs.declared.page.Write.{Write}
use Rattle.mq_report.specs.Lines.{Line}
use Rattle.mq_desk_laws.specs.Rule.{IsLegalHistory, history, numbered}
use Rattle.mq_desk_laws.specs.Values.{Values}
use Rattle.mq_script.specs.Scripts.{Script}
use Rattle.mq_queue_side.proofs.Parts.{few, logged_blocks, size}
use Rattle.mq_queue_side.proofs.CommitsPlans.{planned}
use Rattle.mq_queue_side.specs.Commits.{IsPlanOf, written_in}
use Rattle.mq_tree.specs.Kept.{HasBytes}
use Rattle.mq_tree.specs.Laid.{IsLaid}
use Rattle.mq_tree.specs.Requests.{after_group}
use Rattle.mq_tree.specs.Volume.{Volume}
use Rattle.mq_run_laws.proofs.Pairs.{cons-cases, none-in}

-- what a queue's entries count, for each block that they write and each of their descriptors
abbrev pub count : ℕ → List FileEntry → ℕ
count q [] = 0
count q (e ∷ es) = count q es + cond (nat_eq e.session q) (writes (tx_of e) + descriptor_blocks (tx_of e)) 0

count-append : (q : ℕ) (xs ys : List FileEntry) → count q (xs ++ ys) ≡ count q xs + count q ys
count-append q [] ys = omega arith
count-append q (x ∷ xs) ys = let rest = count-append q xs ys in omega arith

pub count-reverse : (q : ℕ) (es : List FileEntry) → count q (reverse es) ≡ count q es
count-reverse q [] = refl
count-reverse q (e ∷ es) =
    let rest = count-reverse q es in
    let parts = count-append q (reverse es) (e ∷ []) in
    ap (count q) (reverse-append (e ∷ []) es) ∙ omega arith

-- ---- a transaction has an entry for each write

written-blocks : (start : Map) (base : ℕ) (txs : List Tx) (ws : List Write) → map (λ p. p.block) (map (planned_by start base txs) ws) ≡ map (λ w. w.block) ws
written-blocks start base txs [] = refl
written-blocks start base txs (w ∷ ws) = ap (λ (bs : List ℕ). w.block ∷ bs) (written-blocks start base txs ws)

further-rising : (m n : ℕ) → m ≤ n → further_for m ≤ further_for n
further-rising m n le = elim (cases_lt 1010 m) [
  | inl high ↦ (let a = further-one m high in let b = further-one n (omega (arith, le, high)) in omega (arith, a, b))
  | inr low ↦ (let a = further-none m low in omega (arith, a))
]

-- A transaction has an entry for each write, and its descriptor has no more blocks than one that lists all
-- that is written.
pub record IsSized (e : FileEntry) : Type 0 where
  pub entries : writes (tx_of e) ≡ length (written_by e)
  pub further : further_blocks (tx_of e) ≤ further_for (length (written_by e))

sized : (g : Geometry) (start m : Map) (base : ℕ) (txs : List Tx) (e : FileEntry) → Does g m e → IsPlaced g start base txs e → IsSized e
sized g start m base txs e does placed =
    let rise = writes_rise g m does.ran.volume (volume_after g does.ran.volume e) (written_by e) (freed_by e) does.ran.laid does.ran.moves in
    let blocks = written-blocks start base txs (written_by e) in
    let plan = planned g e.session e.reads.front e.reads.base (map (planned_by start base txs) (written_by e)) e.placed (subst (λ (bs : List ℕ). Rattle.mq_blocks.specs.Descriptor.AreRising 0 (homes_of g) bs) (sym blocks) rise) placed in
    let is = subst (λ (bs : List ℕ). IsPlanOf (homes_of g) bs e.placed) blocks plan in
    let listed = ap length (logged_blocks (homes_of g) (written_by e) e.placed is) in
    let logged : length (written_in e.placed.logged (written_by e)) ≡ length e.placed.logged = sym (length-map (written_in e.placed.logged (written_by e)) (λ (w : ℕ × List ℕ). w.0)) ∙ listed in
    let same : further_blocks (tx_of e) ≡ further_for (length e.placed.logged + length e.placed.revoked) = ap (λ (n : ℕ). further_for (n + length e.placed.revoked)) logged in
    let less = further-rising (length e.placed.logged + length e.placed.revoked) (length (written_by e)) (few (homes_of g) (written_by e) e.placed is) in
    record { entries = size (homes_of g) (written_by e) e.placed is; further = omega (arith, same, less) }

abbrev pub AreSized : List FileEntry → Type 0
AreSized [] = Unit {0}
AreSized (e ∷ es) = IsSized e × AreSized es

sized-append : (xs ys : List FileEntry) → AreSized xs → AreSized ys → AreSized (xs ++ ys)
sized-append [] ys h k = k
sized-append (x ∷ xs) ys h k = (h.0, sized-append xs ys h.1 k)

pub sized-reverse : (es : List FileEntry) → AreSized es → AreSized (reverse es)
sized-reverse [] h = tt
sized-reverse (e ∷ es) h = subst (λ (xs : List FileEntry). AreSized xs) (sym (reverse-append (e ∷ []) es)) (sized-append (reverse es) (e ∷ []) (sized-reverse es h.1) (h.0, tt))

module _ {Q R : Type 0} (values : Values Q R FileEntry) where
  abbrev hist : ℕ → List FileEntry → List Tx
  hist base es = history values file_group base es

  abbrev last : ℕ → FileEntry → List FileEntry → Tx
  last base e es = numbered (base + length es + 1) (tx_of e)

  own-queue : (q base : ℕ) (e : FileEntry) (es : List FileEntry) → nat_eq e.session q ≡ true → of_queue q (hist base (e ∷ es)) ≡ last base e es ∷ of_queue q (hist base es)
  own-queue q base e es is = ap (λ (b : Bool). cond b (last base e es ∷ of_queue q (hist base es)) (of_queue q (hist base es))) is

  other-queue : (q base : ℕ) (e : FileEntry) (es : List FileEntry) → nat_eq e.session q ≡ false → of_queue q (hist base (e ∷ es)) ≡ of_queue q (hist base es)
  other-queue q base e es is = ap (λ (b : Bool). cond b (last base e es ∷ of_queue q (hist base es)) (of_queue q (hist base es))) is

  counted : (q : ℕ) (e : FileEntry) (b : Bool) → nat_eq e.session q ≡ b → cond (nat_eq e.session q) (writes (tx_of e) + descriptor_blocks (tx_of e)) 0 ≡ cond b (writes (tx_of e) + descriptor_blocks (tx_of e)) 0
  counted q e b is = ap (λ (c : Bool). cond c (writes (tx_of e) + descriptor_blocks (tx_of e)) 0) is

  pub all-sized : (g : Geometry) (start : Map) (base : ℕ) (es : List FileEntry) → IsLegalHistory values file_group g start base es → AreSized es
  all-sized g start base [] legal = tt
  all-sized g start base (e ∷ es) legal = (sized g start _ base (hist base es) e legal.0 legal.1, all-sized g start base es legal.2)

  pub total-is : (base q : ℕ) (es : List FileEntry) → total (of_queue q (hist base es)) ≡ count q es
  total-is base q [] = refl
  total-is base q (e ∷ es) = by (total-is base q es) (nat_eq e.session q) refl
    where
      by : total (of_queue q (hist base es)) ≡ count q es → (b : Bool) → nat_eq e.session q ≡ b → total (of_queue q (hist base (e ∷ es))) ≡ count q (e ∷ es)
      by rest true is =
          let own = counted q e true is in
          ap total (own-queue q base e es is) ∙ omega arith
      by rest false is =
          let own = counted q e false is in
          ap total (other-queue q base e es is) ∙ omega arith

  pub legal-older : (g : Geometry) (start : Map) (base : ℕ) (newer old : List FileEntry) → IsLegalHistory values file_group g start base (newer ++ old) → IsLegalHistory values file_group g start base old
  legal-older g start base [] old legal = legal
  legal-older g start base (e ∷ es) old legal = legal-older g start base es old legal.2

  queue-low : (q base : ℕ) (es : List FileEntry) (t : Tx) (ts : List Tx) → IsAt t ts (of_queue q (hist base es)) → t.number ≤ base + length es
  queue-low q base [] t ts at = absurd at
  queue-low q base (e ∷ es) t ts at = by (queue-low q base es t ts) (nat_eq e.session q) refl
    where
      by : (IsAt t ts (of_queue q (hist base es)) → t.number ≤ base + length es) → (b : Bool) → nat_eq e.session q ≡ b → t.number ≤ base + length (e ∷ es)
      by before false is = let rest = before (subst (λ us. IsAt t ts us) (other-queue q base e es is) at) in omega arith
      by before true is = elim (subst (λ us. IsAt t ts us) (own-queue q base e es is) at) [
        | inl same ↦ (let number : base + length es + 1 ≡ t.number = ap (λ (u : Tx). u.number) same.0 in omega arith)
        | inr deeper ↦ (let rest = before deeper in omega arith)
      ]

  -- ---- how far a doorbell went

  -- The history up to the newest transaction of the queue whose entries stand below the count.
  pub record Below (from bell q base : ℕ) (log : List FileEntry) : Type 0 where
    pub newer : List FileEntry
    pub old : List FileEntry
    pub whole : log ≡ newer ++ old
    pub is : below from bell (of_queue q (hist base log)) ≡ of_queue q (hist base old)
    pub low : (t : Tx) (ts : List Tx) → IsAt t ts (of_queue q (hist base log)) → end_of from (t ∷ ts) ≤ bell → t.number ≤ base + length old

  pub below-at : (from bell q base : ℕ) (log : List FileEntry) → Below from bell q base log
  below-at from bell q base [] = record { newer = []; old = []; whole = refl; is = refl; low = λ t ts at le. absurd at }
  below-at from bell q base (e ∷ es) = by (below-at from bell q base es) (nat_eq e.session q) refl
    where
      by : Below from bell q base es → (b : Bool) → nat_eq e.session q ≡ b → Below from bell q base (e ∷ es)
      by rest false is = record {
        newer = e ∷ rest.newer;
        old = rest.old;
        whole = ap (λ (xs : List FileEntry). e ∷ xs) rest.whole;
        is = ap (below from bell) (other-queue q base e es is) ∙ rest.is;
        low = λ t ts at le. rest.low t ts (subst (λ us. IsAt t ts us) (other-queue q base e es is) at) le;
      }
      by rest true is = elim (cases_lt bell (end_of from (last base e es ∷ of_queue q (hist base es)))) [
        | inl lt ↦ record {
          newer = e ∷ rest.newer;
          old = rest.old;
          whole = ap (λ (xs : List FileEntry). e ∷ xs) rest.whole;
          is = ap (below from bell) (own-queue q base e es is) ∙ (ap (λ (b : Bool). cond b (last base e es ∷ of_queue q (hist base es)) (below from bell (of_queue q (hist base es)))) (lt-leb _ _ lt) ∙ rest.is);
          low = λ t ts at le. elim (subst (λ us. IsAt t ts us) (own-queue q base e es is) at) [
            | inl same ↦ (let ends = ap (end_of from) (λ i. same.0 i ∷ same.1 i) in absurd (omega arith))
            | inr deeper ↦ rest.low t ts deeper le
          ];
        }
        | inr ge ↦ record {
          newer = [];
          old = e ∷ es;
          whole = refl;
          is = ap (below from bell) (own-queue q base e es is) ∙ (ap (λ (b : Bool). cond b (last base e es ∷ of_queue q (hist base es)) (below from bell (of_queue q (hist base es)))) (le-leb _ _ ge) ∙ sym (own-queue q base e es is));
          low = λ t ts at le. queue-low q base (e ∷ es) t ts at;
        }
      ]

-- ---- lines

module _ (g : Geometry) (scripts : List Script) where
  -- the lines of the first entries, and those of the others
  pub record Parted (m : Map) (n : ℕ) (first rest : List FileEntry) (lines : List Line) : Type 0 where
    pub sent : List Line
    pub unsent : List Line
    pub parts : lines ≡ sent ++ unsent
    pub before : AreLinesOf g scripts m n first sent
    pub behind : AreLinesOf g scripts (map_after m first) (n + length first) rest unsent

  pub parted : (m : Map) (n : ℕ) (first rest es : List FileEntry) (lines : List Line) → es ≡ first ++ rest → AreLinesOf g scripts m n es lines → Parted m n first rest lines
  parted m n [] rest es lines is are =
      let at : n ≡ n + 0 = omega arith in
      record { sent = []; unsent = lines; parts = refl; before = none; behind = subst (λ (k : ℕ). AreLinesOf g scripts m k rest lines) at (subst (λ (fs : List FileEntry). AreLinesOf g scripts m n fs lines) is are) }
  parted m n (x ∷ xs) rest _ _ is none = absurd (cc)
  parted m n (x ∷ xs) rest _ _ is (commit {es = fs} {ls = ls} e l c more) =
      let same : e ≡ x = cc in
      let tail : fs ≡ xs ++ rest = cc in
      let r = parted (after m (change_of (tx_of e))) (n + 1) xs rest fs ls tail more in
      let at : (n + 1) + length xs ≡ n + length (x ∷ xs) = omega arith in
      record {
        sent = l ∷ r.sent;
        unsent = r.unsent;
        parts = ap (λ (ks : List Line). l ∷ ks) r.parts;
        before = subst (λ (y : FileEntry). AreLinesOf g scripts m n (y ∷ xs) (l ∷ r.sent)) same (commit e l c r.before);
        behind = subst (λ (k : ℕ). AreLinesOf g scripts (map_after m (x ∷ xs)) k rest r.unsent) at (subst (λ (y : FileEntry). AreLinesOf g scripts (map_after (after m (change_of (tx_of y))) xs) ((n + 1) + length xs) rest r.unsent) same r.behind);
      }
  parted m n (x ∷ xs) rest es _ is (read {ls = ls} e l c more) =
      let r = parted m n (x ∷ xs) rest es ls is more in
      record { sent = l ∷ r.sent; unsent = r.unsent; parts = ap (λ (ks : List Line). l ∷ ks) r.parts; before = read e l c r.before; behind = r.behind }

  -- the commits of a history are above the number from which it goes
  pub commits-above : (m : Map) (n : ℕ) (es : List FileEntry) (lines : List Line) (l : Line) → AreLinesOf g scripts m n es lines → Contains lines l → l.commit ≡ true → n < l.number
  commits-above m n es lines l none c yea = absurd (none-in l c)
  commits-above m n es lines l (commit e k is more) c yea = elim (cons-cases l k _ c) [
    | inl same ↦ (let at = is.number in let number : k.number ≡ l.number = ap (λ (x : Line). x.number) same in omega arith)
    | inr c ↦ (let rest = commits-above _ (n + 1) _ _ l more c yea in omega arith)
  ]
  commits-above m n es lines l (read e k is more) c yea = elim (cons-cases l k _ c) [
    | inl same ↦ absurd (true≢false (sym yea ∙ (sym (ap (λ (x : Line). x.commit) same) ∙ is.commit)))
    | inr c ↦ commits-above m n es _ l more c yea
  ]

  next-is : (v : Volume) (e : FileEntry) (l : Line) → TellsOf scripts l e → volume_after g v e ≡ next g scripts v l
  next-is v e l t = ap (λ (s : ℕ). after_group g s v e.requests) t.session_is ∙ ap (after_group g l.session v) t.requests_are

  share : (q : ℕ) (m : Map) (v : Volume) (n sum : ℕ) (e : FileEntry) (l : Line) → IsLaid g m v → IsCommitOf g scripts m n e l → IsSized e → HasShare g v (next g scripts v l) (is_on q l) (sum + cond (nat_eq e.session q) (writes (tx_of e) + descriptor_blocks (tx_of e)) 0) sum
  share q m v n sum e l laid c size_is = by (nat_eq e.session q) refl
    where
      on : (b : Bool) → nat_eq e.session q ≡ b → is_on q l ≡ b
      on b is = ap (λ (x : Bool). x && nat_eq l.session q) c.commit ∙ (ap (λ (s : ℕ). nat_eq s q) (sym c.tells.session_is) ∙ is)

      wrote : Writes g v (next g scripts v l) (length (written_by e))
      wrote =
          let runs = (history-changes g m v [] [] e laid (c.does, tt)).runs in
          subst (λ (w : Volume). Writes g v w (length (written_by e))) (next-is v e l c.tells) (record { writes = written_by e; frees = freed_by e; moves = runs.moves; many = refl })

      by : (b : Bool) → nat_eq e.session q ≡ b → HasShare g v (next g scripts v l) (is_on q l) (sum + cond (nat_eq e.session q) (writes (tx_of e) + descriptor_blocks (tx_of e)) 0) sum
      by true is =
          let all = size_is.entries in
          subst (λ (z : Bool × Bool). HasShare g v (next g scripts v l) z.0 (sum + cond z.1 (writes (tx_of e) + descriptor_blocks (tx_of e)) 0) sum) (λ i. (sym (on true is) i, sym is i)) (length (written_by e), further_blocks (tx_of e), wrote, size_is.further, omega (arith, all))
      by false is = subst (λ (z : Bool × Bool). HasShare g v (next g scripts v l) z.0 (sum + cond z.1 (writes (tx_of e) + descriptor_blocks (tx_of e)) 0) sum) (λ i. (sym (on false is) i, sym is i)) (omega arith)

  -- the lines of a history count what its entries do
  pub shares : (q : ℕ) (m : Map) (v : Volume) (n : ℕ) (es : List FileEntry) (lines : List Line) → AreOfBytes scripts → IsLaid g m v → AreSized es → AreLinesOf g scripts m n es lines → HasEntries g scripts q v lines (count q es)
  shares q m v n es lines low laid all none = refl
  shares q m v n es lines low laid all (commit {es = fs} {ls = ls} e l c more) =
      let there_is : IsLaid g (after m (change_of (tx_of e))) (next g scripts v l) = subst (λ (w : Volume). IsLaid g (after m (change_of (tx_of e))) w) (next-is v e l c.tells) (history-laid g m v (e ∷ []) [] laid (c.does, tt)) in
      (count q fs, shares q (after m (change_of (tx_of e))) (next g scripts v l) (n + 1) fs ls low there_is all.1 more, share q m v n (count q fs) e l laid c all.0)
  shares q m v n es lines low laid all (read {ls = ls} e l r more) =
      let stays = stays-on g m v e laid r.asks r.quiet (subst (λ rs. All HasBytes rs) (sym r.tells.requests_are) (low l.session l.group r.tells.of)) in
      let same : v ≡ next g scripts v l = sym stays.stays ∙ next-is v e l r.tells in
      let there_is : IsLaid g m (next g scripts v l) = subst (λ (w : Volume). IsLaid g m w) same laid in
      let off : is_on q l ≡ false = ap (λ (x : Bool). x && nat_eq l.session q) r.commit in
      (count q es, shares q m (next g scripts v l) n es ls low there_is all more, subst (λ (b : Bool). HasShare g v (next g scripts v l) b (count q es) (count q es)) (sym off) refl)
