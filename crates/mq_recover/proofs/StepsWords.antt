-- The base, and then the heads.
use Rattle.std.proofs.Common.{◌≡◌, ◌<◌, ⊎_elim, ℕ, suc, ◌+◌, Bool, true, false, List, [], ◌∷◌, ◌++◌, length, map, take, drop, set, refl, sym, ◌∙◌, ap, subst, arith, append_assoc}
use Rattle.std.proofs.lemmas.Bool.{cases_eq, eq-eqb, ne_eqb}
use Rattle.std.proofs.lemmas.List.{append-nil, get_or_at, length-append, length-map, length-take-le, set_at, take-append-drop, drop_more}
use Rattle.std.specs.Prelude.{nat_eq, if◌then◌else◌}
use Rattle.mq_blocks.specs.Drive.{PortState, IsQuiescent, after_flush, after_store_base, after_store_head}
use Rattle.mq_blocks.specs.declared.geometry.Geometry.{Geometry}
use Rattle.mq_ledger.specs.State.{no_port, port_at}
use Rattle.mq_drive.specs.Start.{IsPortOf}
use Rattle.mq_drive.specs.declared.role.Role.{Role}
use Rattle.mq_drive.specs.declared.role.Role.TheVariants.{Root}
use Rattle.mq_drive.proofs.StartRolePorts.{word-port, flush-port}
use Rattle.mq_recover.specs.Drives.{DriveState, at_queue, drive}
use Rattle.mq_recover.specs.RecoverHomes.{after_raise, after_move, IsCutMove, AreCutMoves}
use Rattle.mq_recover.specs.Events.{Event, StoreHead, FlushHead, after_events, head_events, heads_events, StopsAt}
use Rattle.mq_recover.specs.declared.refusal.RecoverRefusal.TheVariants.{Off}
use Rattle.mq_recover.proofs.StepsEvents.{after-then, off-after}

-- ---- the base

raised-as : (P : PortState → Type 0) (s : PortState) (base : ℕ) → P s → P (after_flush (after_store_base s base)) → P (after_raise s base)
raised-as P s base before after = ⊎_elim
    (λ same. rw (eq-eqb s.base base same) before)
    (λ other. rw (ne_eqb s.base base other) after)
    (cases_eq s.base base)

raised-base : (s : PortState) (base : ℕ) → (after_raise s base).base ≡ base
raised-base s base = ⊎_elim
    (λ same. rw (eq-eqb s.base base same) same)
    (λ other. rw (ne_eqb s.base base other) refl)
    (cases_eq s.base base)

-- a port without staged entries is quiet once its words are flushed
word-flushed : (s : PortState) (stored_head stored_base events : ℕ) → IsQuiescent s → IsQuiescent (after_flush (record s { stored_head = stored_head; stored_base = stored_base; events = events }))
word-flushed s stored_head stored_base events q =
    let none : length s.pending ≡ 0 = ap length q.pending in
    record {
      flushed_end = omega (arith, none);
      pending = q.pending;
      posted = q.posted;
      failed = q.failed;
      head = refl;
      base = refl;
      certain = q.certain;
    }

pub record IsRaised (g : Geometry) (s : PortState) (base : ℕ) (t : PortState) : Type 0 where
  pub port : IsPortOf g Root t
  pub quiet : IsQuiescent t
  pub base_is : t.base ≡ base
  pub doorbell_is : t.doorbell ≡ s.doorbell
  pub head_is : t.head ≡ s.head
  pub blocks_are : t.blocks ≡ s.blocks
  pub begun_is : t.begun ≡ s.begun

pub raised : (g : Geometry) (s : PortState) (base : ℕ) (t : PortState) → IsPortOf g Root s → IsQuiescent s → t ≡ after_raise s base → IsRaised g s base t
raised g s base t p q is =
    let stored : PortState = after_store_base s base in
    subst (IsRaised g s base) (sym is) (record {
      port = raised-as (IsPortOf g Root) s base p (flush-port g Root stored (word-port g Root s s.stored_head base stored.events p));
      quiet = raised-as IsQuiescent s base q (word-flushed s s.stored_head base stored.events q);
      base_is = raised-base s base;
      doorbell_is = raised-as (λ (u : PortState). u.doorbell ≡ s.doorbell) s base refl refl;
      head_is = raised-as (λ (u : PortState). u.head ≡ s.head) s base refl q.head;
      blocks_are = raised-as (λ (u : PortState). u.blocks ≡ s.blocks) s base refl refl;
      begun_is = raised-as (λ (u : PortState). u.begun ≡ s.begun) s base refl refl;
    })

-- ---- a head

moved-as : (P : PortState → Type 0) (s : PortState) → P s → P (after_flush (after_store_head s s.doorbell)) → P (after_move s)
moved-as P s before after = ⊎_elim
    (λ same. rw (eq-eqb s.head s.doorbell same) before)
    (λ other. rw (ne_eqb s.head s.doorbell other) after)
    (cases_eq s.head s.doorbell)

moved-head : (s : PortState) → (after_move s).head ≡ s.doorbell
moved-head s = ⊎_elim
    (λ same. rw (eq-eqb s.head s.doorbell same) same)
    (λ other. rw (ne_eqb s.head s.doorbell other) refl)
    (cases_eq s.head s.doorbell)

pub record IsMoved (g : Geometry) (role : Role) (s t : PortState) : Type 0 where
  pub port : IsPortOf g role t
  pub quiet : IsQuiescent t
  pub head_is : t.head ≡ s.doorbell
  pub doorbell_is : t.doorbell ≡ s.doorbell
  pub blocks_are : t.blocks ≡ s.blocks
  pub begun_is : t.begun ≡ s.begun

pub moved : (g : Geometry) (role : Role) (s : PortState) → IsPortOf g role s → IsQuiescent s → IsMoved g role s (after_move s)
moved g role s p q =
    let stored : PortState = after_store_head s s.doorbell in
    record {
      port = moved-as (IsPortOf g role) s p (flush-port g role stored (word-port g role s s.doorbell s.stored_base stored.events p));
      quiet = moved-as IsQuiescent s q (word-flushed s s.doorbell s.stored_base stored.events q);
      head_is = moved-head s;
      doorbell_is = moved-as (λ (u : PortState). u.doorbell ≡ s.doorbell) s refl refl;
      blocks_are = moved-as (λ (u : PortState). u.blocks ≡ s.blocks) s refl refl;
      begun_is = moved-as (λ (u : PortState). u.begun ≡ s.begun) s refl refl;
    }

-- ---- all heads

-- one port of a row changes
row-at : (q : ℕ) (f : PortState → PortState) (pre : List PortState) (p : PortState) (ps : List PortState) (root : PortState) → length pre ≡ q → at_queue q f (drive (pre ++ p ∷ ps) root) ≡ drive (pre ++ f p ∷ ps) root
row-at q f pre p ps root long =
    ap (λ (s : PortState). drive (set (pre ++ p ∷ ps) q (f s)) root) (get_or_at pre p ps no_port q long)
    ∙ ap (λ (l : List PortState). drive l root) (set_at pre p ps (f p) q long)

row-moved : (g : Geometry) (q : ℕ) (pre : List PortState) (p : PortState) (ps : List PortState) (root : PortState) → length pre ≡ q → (t : Bool)
    → after_events g (drive (pre ++ p ∷ ps) root) (if t then [] else StoreHead q p.doorbell ∷ FlushHead q ∷ []) ≡ drive (pre ++ (if t then p else after_flush (after_store_head p p.doorbell)) ∷ ps) root
row-moved g q pre p ps root long true = refl
row-moved g q pre p ps root long false =
    ap (λ (d : DriveState). at_queue q after_flush d) (row-at q (λ s. after_store_head s p.doorbell) pre p ps root long)
    ∙ row-at q after_flush pre (after_store_head p p.doorbell) ps root long

-- the heads of these ports, which stand between others, go to their doorbells
moves-events : (g : Geometry) (q : ℕ) (pre ps post : List PortState) (root : PortState) → length pre ≡ q
    → after_events g (drive (pre ++ (ps ++ post)) root) (heads_events q ps) ≡ drive (pre ++ (map after_move ps ++ post)) root
moves-events g q pre [] post root long = refl
moves-events g q pre (p ∷ ps) post root long =
    let m : PortState = after_move p in
    let size = length-append pre (m ∷ []) in
    after-then g (drive (pre ++ p ∷ (ps ++ post)) root) (head_events q p.head p.doorbell) (heads_events (q + 1) ps)
    ∙ ap (λ (d : DriveState). after_events g d (heads_events (q + 1) ps)) (row-moved g q pre p (ps ++ post) root long (nat_eq p.head p.doorbell))
    ∙ ap (λ (l : List PortState). after_events g (drive l root) (heads_events (q + 1) ps)) (sym (append_assoc pre (m ∷ []) (ps ++ post)))
    ∙ moves-events g (q + 1) (pre ++ m ∷ []) ps post root (omega arith)
    ∙ ap (λ (l : List PortState). drive l root) (append_assoc pre (m ∷ []) (map after_move ps ++ post))

pub moved-events : (g : Geometry) (ports : List PortState) (root : PortState) → after_events g (drive ports root) (heads_events 0 ports) ≡ drive (map after_move ports) root
moved-events g ports root =
    ap (λ (l : List PortState). after_events g (drive l root) (heads_events 0 ports)) (sym (append-nil ports))
    ∙ moves-events g 0 [] ports [] root refl
    ∙ ap (λ (l : List PortState). drive l root) (append-nil (map after_move ports))

-- ---- cut among them

heads-split : (q n : ℕ) (xs ys : List PortState) → q + length xs ≡ n → heads_events q (xs ++ ys) ≡ heads_events q xs ++ heads_events n ys
heads-split q n [] ys long = let same : q ≡ n = omega arith in ap (λ (k : ℕ). heads_events k ys) same
heads-split q n (x ∷ xs) ys long =
    ap (λ (l : List Event). head_events q x.head x.doorbell ++ l) (heads-split (q + 1) n xs ys (omega arith))
    ∙ sym (append_assoc (head_events q x.head x.doorbell) (heads_events (q + 1) xs) (heads_events n ys))

cut-row : (g : Geometry) (q : ℕ) (pre : List PortState) (p t : PortState) (post : List PortState) (root : PortState) (s : DriveState) (xs ys : List Event) → length pre ≡ q → IsCutMove p t
    → drive (pre ++ p ∷ post) root ≡ after_events g s xs → StopsAt g Off s (xs ++ (head_events q p.head p.doorbell ++ ys)) (drive (pre ++ t ∷ post) root)
cut-row g q pre p t post root s xs ys long cut first =
    let m : DriveState = drive (pre ++ p ∷ post) root in
    let n : DriveState = drive (pre ++ t ∷ post) root in
    let P : Bool → Type 0 = λ b. StopsAt g Off s (xs ++ ((if b then [] else StoreHead q p.doorbell ∷ FlushHead q ∷ []) ++ ys)) n in
    let more : List Event = StoreHead q p.doorbell ∷ FlushHead q ∷ ys in
    subst P (sym (ne_eqb p.head p.doorbell cut.0))
    (⊎_elim
    (λ before. off-after g s m n xs more 0 first (omega arith) (ap (λ (u : PortState). drive (pre ++ u ∷ post) root) before))
    (λ stored. off-after g s m n xs more 1 first (omega arith)
    (ap (λ (u : PortState). drive (pre ++ u ∷ post) root) stored ∙ sym (row-at q (λ u. after_store_head u p.doorbell) pre p post root long)))
    cut.1)

pub cut-moves : (g : Geometry) (olds news : List PortState) (root : PortState) → AreCutMoves olds news → StopsAt g Off (drive olds root) (heads_events 0 olds) (drive news root)
cut-moves g olds news root cut =
    let q : ℕ = cut.0 in
    let low = cut.1 in
    let t : PortState = cut.2 in
    let p : PortState = port_at olds q in
    let pre : List PortState = take q olds in
    let post : List PortState = drop (q + 1) olds in
    let first : List PortState = map after_move pre in
    let size : length pre ≡ q = length-take-le q olds (omega arith) in
    let long : length first ≡ q = length-map pre after_move ∙ size in
    let olds_are : olds ≡ pre ++ p ∷ post = sym (take-append-drop q olds) ∙ ap (λ (l : List PortState). pre ++ l) (drop_more olds q no_port low) in
    let split : heads_events 0 olds ≡ heads_events 0 pre ++ heads_events q (p ∷ post) = ap (λ (l : List PortState). heads_events 0 l) olds_are ∙ heads-split 0 q pre (p ∷ post) (omega arith) in
    let so_far : drive (first ++ p ∷ post) root ≡ after_events g (drive olds root) (heads_events 0 pre) =
    sym (ap (λ (l : List PortState). after_events g (drive l root) (heads_events 0 pre)) olds_are ∙ moves-events g 0 [] pre (p ∷ post) root refl) in
    subst (λ (l : List PortState). StopsAt g Off (drive olds root) (heads_events 0 olds) (drive l root)) (sym cut.4)
    (subst (λ (l : List Event). StopsAt g Off (drive olds root) l (drive (first ++ t ∷ post) root)) (sym split)
    (cut-row g q first p t post root (drive olds root) (heads_events 0 pre) (heads_events (q + 1) post) long cut.3 so_far))

-- ---- the same words

-- ports with the same heads and doorbells have the same events
pub heads-same : (q : ℕ) (ports others : List PortState) → length ports ≡ length others → ((k : ℕ) → k < length ports → (port_at ports k).head ≡ (port_at others k).head)
    → ((k : ℕ) → k < length ports → (port_at ports k).doorbell ≡ (port_at others k).doorbell) → heads_events q ports ≡ heads_events q others
heads-same q [] [] long head bell = refl
heads-same q [] (o ∷ os) long head bell = absurd (omega arith)
heads-same q (p ∷ ps) [] long head bell = absurd (omega arith)
heads-same q (p ∷ ps) (o ∷ os) long head bell =
    ap (λ (h : ℕ). head_events q h p.doorbell ++ heads_events (q + 1) ps) (head 0 (omega arith))
    ∙ ap (λ (b : ℕ). head_events q o.head b ++ heads_events (q + 1) ps) (bell 0 (omega arith))
    ∙ ap (λ (l : List Event). head_events q o.head o.doorbell ++ l) (heads-same (q + 1) ps os (omega arith) (λ k low. head (suc k) (omega arith)) (λ k low. bell (suc k) (omega arith)))
