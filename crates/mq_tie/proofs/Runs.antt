-- What a run leaves: its history, its commits and reads, and the lawful state that its ports are.
use Rattle.std.proofs.Common.{◌≡◌, ℕ, zero, suc, ◌+◌, ◌-◌, ◌<◌, ◌≤◌, true, List, [], ◌∷◌, length, map, Some, get_or, refl, sym, ap, subst, ◌∙◌, arith}
use Rattle.std.specs.Prelude.{reverse, slice_get}
use Rattle.std.specs.List.{sum_by}
use Rattle.std.proofs.lemmas.List.{length-reverse}
use Rattle.mq_blocks.specs.Drive.{PortState}
use Rattle.mq_blocks.specs.Journal.{is_among}
use Rattle.mq_drive.specs.Steps.{PortFault}
use Rattle.mq_drive.specs.declared.port.Port.{Ghosts}
use Rattle.mq_state_laws.proofs.PartsAssembly.{lawful}
use Rattle.mq_state_laws.specs.Parts.{AreMarks, AreParts, marks_from}
use Rattle.mq_journal.specs.Numbers.{Seat, Shared, Start}
use Rattle.mq_journal.specs.Values.{side_values}
use Rattle.mq_journal.specs.Machine.{journal}
use Rattle.mq_ledger.specs.KnownJournal.{front}
use Rattle.mq_pages.specs.declared.page.PageCell.{PageCell}
use Rattle.mq_desk_laws.specs.Groups.{GroupView}
use Rattle.mq_desk_laws.specs.Rule.{core_of, geometry_of}
use Rattle.mq_desk_laws.proofs.RuleSettled.{front_claimed}
use Rattle.mq_queue_side.specs.declared.root.Root.{Root}
use Rattle.mq_queue_side.specs.declared.side.QueueSide.{QueueSide}
use Rattle.mq_turns.specs.Chairs.{DeskEnded}
use Rattle.mq_turns.specs.Lists.{Each}
use Rattle.mq_turns.specs.Marks.{mark_of}
use Rattle.mq_turns.specs.Meaning.{HasNumberAt, newest}
use Rattle.mq_turns.proofs.Lists.{each_map}
use Rattle.mq_turns.proofs.Meaning.{at_bounds}
use Rattle.mq_tie.specs.Closed.{HasRun}
use Rattle.mq_tie.specs.Ended.{HasEnded, parts_over}
use Rattle.mq_tie.specs.Legal.{map_at, numbered}
use Rattle.mq_tie.specs.Runs.{IsKnownDone, IsRun, history_of, ports_of}
use Rattle.mq_tie.specs.Stored.{AreWithin, HasStored, IsNoted, entries_at, stored_by}
use Rattle.mq_tie.specs.declared.ended.Ended.{Ended}
use Rattle.mq_tie.specs.declared.ended.EntryPlace.{EntryPlace}
use Rattle.mq_tie.proofs.EndedParts.{ended_marks, ended_parts}
use Rattle.mq_tie.proofs.Legal.{is-commit, is-read, map-newest}
use Rattle.mq_tie.proofs.Stored.{StoreAll, at-place, has-stored, noted-history, stored-many, within}

-- ---- lists

numbered-get : {E : Type 0} (n : ℕ) (es : List E) (i : ℕ) (e : E) → slice_get es i ≡ Some e → slice_get (numbered n es) i ≡ Some (n + i, e)
numbered-get n [] i e at = absurd (cc)
numbered-get n (x ∷ xs) zero e at = let same : x ≡ e = cc in let is : n ≡ n + 0 = omega arith in λ j. Some (is j, same j)
numbered-get n (x ∷ xs) (suc i) e at = let is : suc n + i ≡ n + suc i = omega arith in numbered-get (suc n) xs i e at ∙ ap (λ (m : ℕ). Some (m, e)) is

numbered-length : {E : Type 0} (n : ℕ) (es : List E) → length (numbered n es) ≡ length es
numbered-length n [] = refl
numbered-length n (e ∷ es) = ap suc (numbered-length (suc n) es)

each-at : {A : Type 0} (P : A → Type 0) (xs : List A) (k : ℕ) (x : A) → Each P xs → k < length xs → get_or xs k x ≡ x → P x
each-at P [] k x h l e = absurd (omega arith)
each-at P (y ∷ ys) zero x h l e = subst P e h.0
each-at P (y ∷ ys) (suc k) x h l e = each-at P ys k x h.1 (omega arith) e

pub same-ports : {P E B : Type 0} {G : Ghosts P} (f : P → B) (ss : List (QueueSide P E G)) → map (λ s. f s.pmr.port) ss ≡ map f (map (λ s. s.pmr.port) ss)
same-ports f [] = refl
same-ports f (s ∷ ss) = ap (λ ps. f s.pmr.port ∷ ps) (same-ports f ss)

module _ {P E : Type 0} {G : Ghosts P} (state : P → PortState) (faults : P → List PortFault) (group : GroupView E) (o : Start P E G) (views : List (Seat P E G)) (pages : List PageCell) (sides : List (QueueSide P E G)) (root : Root P G) (next base : ℕ) (end : DeskEnded (journal state faults group) o views pages sides root next base) where
  abbrev K : Shared P E G
  K = end.known

  -- ---- what is stored

  pub store-all : StoreAll (side_values state faults) group K.opening.base K.log sides
  store-all = record {
    each = λ q w e. (end.sides_stand q w e).stored;
    own = λ n e at. let low = end.marked.own n e at in let many = end.all_sides ∙ ap (λ p. length p.sides) (sym end.opening) in omega arith;
  }

  pub many : sum_by (λ s. length s.stored.items) sides ≡ length K.log
  many = stored-many (side_values state faults) group K.opening.base K.log sides store-all

  pub first : next - sum_by (λ s. length s.stored.items) sides ≡ K.opening.base
  first = let last = end.next_is in let all = many in omega arith

  pub few : sum_by (λ s. length s.stored.items) sides ≤ next
  few = let last = end.next_is in let all = many in omega arith

  pub all-within : AreWithin (stored_by sides) (next - sum_by (λ s. length s.stored.items) sides) (sum_by (λ s. length s.stored.items) sides)
  all-within s d e =
      let is = within (side_values state faults) group K.opening.base K.log sides store-all s d e in
      let low = is.0 in
      let high = is.1 in
      let at = first in
      let all = many in
      (omega arith, omega arith)

  pub all-stored : (n : ℕ) → next - sum_by (λ s. length s.stored.items) sides < n → n ≤ next - sum_by (λ s. length s.stored.items) sides + sum_by (λ s. length s.stored.items) sides → HasStored (stored_by sides) n
  all-stored n lo hi =
      let at = first in
      let all = many in
      has-stored (side_values state faults) group K.opening.base K.log sides store-all n (omega arith) (omega arith)

  -- ---- what a run leaves

  acknowledged : (n : ℕ) → IsKnownDone views next n → n ≤ front (core_of (side_values state faults) group K)
  acknowledged n is =
      let low = is.low in
      let last = end.next_is in
      front_claimed (side_values state faults) group n K end.ok (omega arith) (λ m e at l.
      let claimed = each-at _ views is.one.0 is.view end.done is.one.1 is.one.2 in
      let high = is.done in
      claimed m e at (omega arith))

  -- what is asked of a count and an order over these sides
  pub count-fits : (ss : List (QueueSide P E G)) (m limit : ℕ) → ss ≡ sides → m ≡ next → m < limit → sum_by (λ s. length s.stored.items) ss < limit
  count-fits ss m limit same last short =
      let low = few in
      let is = ap (sum_by (λ s. length s.stored.items)) same in
      omega arith

  pub count-low : (ss : List (QueueSide P E G)) (m k : ℕ) → ss ≡ sides → m ≡ next → k ≡ sum_by (λ s. length s.stored.items) ss → k ≤ m
  count-low ss m k same last count =
      let low = few in
      let is = ap (sum_by (λ s. length s.stored.items)) same in
      omega arith

  -- an order of all that is stored
  module _ (ds cs : List (QueueSide P E G)) (m k : ℕ) (same : ds ≡ sides) (counted : cs ≡ sides) (last : m ≡ next) (count : k ≡ sum_by (λ s. length s.stored.items) cs) where
    count-is : k ≡ sum_by (λ s. length s.stored.items) sides
    count-is = count ∙ ap (sum_by (λ s. length s.stored.items)) counted

    pub order-within : AreWithin (stored_by ds) (m - k) k
    order-within = rw (same, last, count-is) all-within

    pub order-stored : (n : ℕ) → m - k < n → n ≤ m - k + k → HasStored (stored_by ds) n
    order-stored = rw (same, last, count-is) all-stored

    module _ (ss : List (QueueSide P E G)) (os : List EntryPlace) (same_sides : ss ≡ sides) (long : length os ≡ k) (noted : (n : ℕ) → m - k < n → n ≤ m - k + k → IsNoted (stored_by ds) (m - k) os n) where
      pub in-order : entries_at (stored_by ss) os ≡ numbered (suc K.opening.base) (reverse K.log)
      in-order =
          let at = first in
          let all = many in
          let count' = count-is in
          let base' : m - k ≡ K.opening.base = omega arith in
          ap (λ ts. entries_at (stored_by ts) os) same_sides
          ∙ noted-history (side_values state faults) group K.opening.base K.log sides store-all os (long ∙ (count-is ∙ many)) (λ n lo hi.
          subst (λ (b : ℕ). IsNoted (stored_by sides) b os n) base' (subst (λ ts. IsNoted (stored_by ts) (m - k) os n) same (noted n (omega arith) (omega arith))))

      pub all-found : length (entries_at (stored_by ss) os) ≡ length os
      all-found = ap length in-order ∙ (numbered-length (suc K.opening.base) (reverse K.log) ∙ (length-reverse K.log ∙ sym (long ∙ (count-is ∙ many))))

  module _ (r : Ended P E G) (same_pages : r.pages.items ≡ pages) (same_sides : r.sides.items ≡ sides) (same_root : r.root ≡ root) (same_next : r.next ≡ next) (ordered : history_of r ≡ numbered (suc K.opening.base) (reverse K.log)) where
    in-place : (n : ℕ) (e : E) → HasNumberAt K.opening.base K.log n e → slice_get (history_of r) (n - suc K.opening.base) ≡ Some (n, e)
    in-place n e at =
        let low = (at_bounds K.opening.base K.log n e at).0 in
        let is : suc K.opening.base + (n - suc K.opening.base) ≡ n = omega arith in
        ap (λ hs. slice_get hs (n - suc K.opening.base)) ordered ∙ (numbered-get (suc K.opening.base) (reverse K.log) (n - suc K.opening.base) e (at-place K.opening.base K.log n e at) ∙ ap (λ (m : ℕ). Some (m, e)) is)

    has-ended : (told : List ℕ) → length K.opening.sides ≡ (geometry_of (side_values state faults) group K).queues → ((n : ℕ) → is_among n told ≡ true → IsKnownDone views r.next n) → HasEnded (side_values state faults) group K r.sides.items r.root told
    has-ended told queues known = record {
      ok = end.ok;
      many = ap length same_sides ∙ (end.all_sides ∙ (ap (λ p. length p.sides) (sym end.opening) ∙ queues));
      sides = λ q w e. end.sides_stand q w (ap (λ ss. slice_get ss q) (sym same_sides) ∙ e);
      root = subst (λ t. (journal state faults group).root K t) (sym same_root) end.root_stands;
      acknowledged = λ n among. acknowledged n (subst (λ (l : ℕ). IsKnownDone views l n) same_next (known n among));
    }

    pub is-run : IsRun state faults group K views r
    is-run = record {
      history = ordered;
      last = let long = ap length ordered ∙ (numbered-length (suc K.opening.base) (reverse K.log) ∙ length-reverse K.log) in let last = end.next_is in omega arith;
      stands = in-place;
      commits = is-commit (side_values state faults) group K end.ok;
      reads = each_map _ _ (λ a is. is-read (side_values state faults) group K a.1 a.0 is.1 is.2) _ end.read;
      draws = each_map _ _ (λ d at. in-place d.0 d.1 at) _ end.drew;
      cells = ap length same_pages ∙ (end.all_pages ∙ ap (λ p. length p.pages) (sym end.opening));
      contents = λ b c e.
          let last : r.next ≡ newest K = same_next ∙ end.next_is in
          (end.pages_stand b c (ap (λ ps. slice_get ps b) (sym same_pages) ∙ e)).content
          ∙ ((λ i. map-newest (side_values state faults) group K i b) ∙ ap (λ (n : ℕ). map_at (side_values state faults) group K n b) (sym last));
      ends = λ queues told known.
          let ended = has-ended told queues known in
          let same = same-ports state r.sides.items in
          let are = subst (λ ps. AreParts (parts_over (side_values state faults) group K ps (state r.root.port) told)) same (ended_parts (side_values state faults) group K r.sides.items r.root told ended) in
          record {
            parts = are;
            marks = subst (λ ps. AreMarks (parts_over (side_values state faults) group K ps (state r.root.port) told) (marks_from (λ q. mark_of q K.claims) 0 (geometry_of (side_values state faults) group K).queues)) same (ended_marks (side_values state faults) group K r.sides.items r.root told ended end.marked.undone);
            lawful = lawful _ are;
          };
    }

-- ---- a desk that is closed

module _ {P E : Type 0} {G : Ghosts P} (state : P → PortState) (faults : P → List PortFault) (group : GroupView E) (o : Start P E G) (views : List (Seat P E G)) (sides : List (QueueSide P E G)) (r : Ended P E G) (ports : ports_of r ≡ map (λ s. s.pmr.port) sides) (done : r.done.items ≡ map (λ s. s.done) sides) where
  abbrev Over : List PageCell → Root P G → ℕ → ℕ → Type 0
  Over pages root next base = (end : DeskEnded (journal state faults group) o views pages sides root next base) → IsRun state faults group end.known views r → HasRun state faults group o views r

  pub has-run : (pages : List PageCell) (root : Root P G) (next base : ℕ) → r.pages.items ≡ pages → r.root ≡ root → r.next ≡ next → r.base ≡ base → Over pages root next base
  has-run pages root next base same_pages same_root same_next same_base =
      subst (λ ps. Over ps root next base) same_pages
      (subst (λ t. Over r.pages.items t next base) same_root
      (subst (λ (n : ℕ). Over r.pages.items r.root n base) same_next
      (subst (λ (b : ℕ). Over r.pages.items r.root r.next b) same_base
      (λ end run. record { sides = sides; end = end; ports = ports; done = done; run = run }))))
