-- The lines of a text, one after another.
use Rattle.std.proofs.Common.{◌≡◌, ◌<◌, ◌≤◌, ⊎_elim, inl, inr, ℕ, suc, ◌+◌, ◌-◌, ◌*◌, ◌^◌, true, List, [], ◌∷◌, length, drop, get_or, Some, refl, sym, ◌∙◌, ap, subst, arith, add-zero}
use Rattle.std.proofs.Math.Seq.{drop-cons}
use Rattle.std.proofs.lemmas.List.{get_or_default}
use Rattle.mq_blocks.specs.Descriptor.{Descriptor, AreRising, journal_form, last_block}
use Rattle.mq_blocks.specs.Limits.{newest_version, usable_depth}
use Rattle.mq_blocks.specs.Drive.{PortState, PortImage, IsImage, counted, index_of, staged_end}
use Rattle.mq_blocks.specs.Geometry.{homes_of}
use Rattle.mq_blocks.specs.Journal.{shown}
use Rattle.mq_blocks.specs.Machine.{Writes, Transaction}
use Rattle.mq_blocks.specs.declared.geometry.Geometry.{Geometry}
use Rattle.mq_blocks.specs.declared.command.Command.{Command}
use Rattle.mq_drive.specs.Start.{IsPortOf}
use Rattle.mq_drive.specs.declared.role.Role.TheVariants.{Queue}
use Rattle.mq_nvme.specs.Says.{journal_reading}
use Rattle.mq_command_blocks.specs.Commits.{IsCleanQueue, AllBelow, Keeps, ShowsMap, blocks_in, items_of, descriptor_for}
use Rattle.mq_block_trace.specs.Prefixes.{IsReached, events_of, line_events, places_upto}
use Rattle.mq_command_blocks.specs.Cuts.{HasBounds, HasStopped, IsCut, IsEarly, QueueShows, rung_after, rung_by}
use Rattle.mq_block_trace.specs.Lines.{set_in, writes_from, named, transaction_of, transactions_of, map_after}
use Rattle.mq_pmr.specs.Runs.{Items, OwnsAll}
use Rattle.mq_command_blocks.specs.Runs.{AreDistinct, after_line}
use Rattle.mq_block_text.specs.Text.{AreGoodItems, AreGoodLines, IsGoodText, sets_in, places_of}
use Rattle.mq_block_text.specs.declared.item.BlockItem.{BlockItem}
use Rattle.mq_block_text.proofs.TextParts.{good_items}
use Rattle.mq_command_blocks.proofs.Cuts.{early_all, early_none, settled_port}
use Rattle.mq_command_blocks.proofs.CutsEvents.{counted-counted, events_more, rung_between, rung_inside}
use Rattle.mq_command_blocks.proofs.CutsExits.{bounds_line, bounds_then, events_line, nearly_image, port_all}
use Rattle.mq_block_trace.proofs.LinesFills.{length-writes, length-writes_sets, named_is}
use Rattle.mq_command_blocks.proofs.LinesFills.{below_set, rising_writes}
use Rattle.mq_command_blocks.proofs.RunsJournalItems.{length-items, own_items, distinct_items, new_below}
use Rattle.mq_command_blocks.proofs.CommitsKeeps.{kept, doorbell_is}
use Rattle.mq_command_blocks.proofs.CommitsShows.{shows_map}
use Rattle.mq_command_blocks.proofs.CommitsRungEntries.{readable, readable_still}

abbrev pub Lines : Type 0
Lines = List (List BlockItem)

-- the first n lines are committed; the next transaction begins at `next`, and the last one's
-- descriptor stands at `last`
pub record SoFar (g : Geometry) (start s : PortState) (lines : Lines) (n next last : ℕ) : Type 0 where
  pub ds : List Descriptor
  pub count : length ds ≡ n
  pub keeps : Keeps g s next last ds (transactions_of lines n)
  pub follows : 0 < n → last + 1 ≡ next
  pub doorbell : s.doorbell ≡ start.doorbell + next
  pub places : next ≡ places_upto lines n
  pub rings : s.rings ≡ counted start.rings n
  pub events : s.events ≡ counted start.events (events_of lines n)
  pub bounds : HasBounds start s
  pub room : next + places_of (drop n lines) ≤ 1024
  pub good : AreGoodLines (drop n lines)
  pub below : AllBelow (homes_of g) (drop n lines)

pub none_yet : (g : Geometry) (s : PortState) (lines : Lines) → IsCleanQueue g s → IsGoodText lines → AllBelow (homes_of g) lines → SoFar g s s lines 0 0 0
none_yet g s lines clean good below = record {
  ds = [];
  count = refl;
  keeps = record {
    quiet = clean.quiet;
    port = clean.port;
    done = clean.done;
    chain = λ i agrees. omega arith;
    carry = λ i agrees. tt;
    row = tt;
    none = λ none. refl;
    newest = λ some.
        let before = clean.before some in
        let low : before.0 ≡ 0 = omega (arith, before.2) in
        (before.1, before.3 ∙ (λ i. Some (low i, before.1, true)), λ more. absurd (omega arith));
    below = λ some. absurd (omega arith);
    first = λ none. refl;
  };
  follows = λ some. absurd (omega arith);
  doorbell = omega arith;
  places = refl;
  rings = refl;
  events = refl;
  bounds = record { fuse = refl; fail = refl; begins = refl };
  room = omega (arith, good.1);
  good = good.0;
  below = below;
}

-- what is known of the line at hand, and of its items
pub record Turn (g : Geometry) (s : PortState) (line : List BlockItem) (items : Items) : Type 0 where
  pub good : AreGoodItems line
  pub end : staged_end s + length items ≤ 2 ^ 63
  pub room : length items ≤ usable_depth
  pub own : OwnsAll s items
  pub distinct : AreDistinct (index_of s) items

-- each line takes a place
pub places_many : (lines : Lines) → length lines ≤ places_of lines
places_many [] = omega arith
places_many (l ∷ ls) = omega (arith, places_many ls)

-- ---- what stands

-- each image of a port that has committed the first lines shows them
shows_lines : (g : Geometry) (start s : PortState) (lines : Lines) (n next last : ℕ) → SoFar g start s lines n next last → g.queues ≡ 1 → start.doorbell ≤ 2 ^ 62 → length lines ≤ 1024 → n ≤ length lines
    → (q r : PortImage) → IsImage s q → r.base ≡ 0 → ShowsMap g (shown journal_reading g (q ∷ []) r) n (map_after lines n)
shows_lines g start s lines n next last so_far one low short within q r image base =
    let room = so_far.room in
    let area = g.area_low in
    let bell = so_far.doorbell in
    let count = so_far.count in
    let keeps = so_far.keeps in
    let shown_all : ShowsMap g (shown journal_reading g (q ∷ []) r) (length so_far.ds) (map_after lines n) =
    shows_map g s s next last so_far.ds (transactions_of lines n) keeps one (omega arith) (omega arith) 0 [] (early_none s keeps.quiet) keeps.port
    (readable_still s s keeps.done (omega arith) refl) (λ k less. tt) q r image base in
    subst (λ (m : ℕ). ShowsMap g (shown journal_reading g (q ∷ []) r) m (map_after lines n)) count shown_all

-- all lines are committed
pub finished : (g : Geometry) (start s : PortState) (lines : Lines) (n next last : ℕ) → SoFar g start s lines n next last → g.queues ≡ 1 → start.doorbell ≤ 2 ^ 62 → length lines ≤ 1024 → n ≡ length lines
    → (q r : PortImage) → IsImage s q → r.base ≡ 0 → ShowsMap g (shown journal_reading g (q ∷ []) r) (length lines) (map_after lines (length lines))
finished g start s lines n next last so_far one low short all q r image base =
    subst (λ (m : ℕ). ShowsMap g (shown journal_reading g (q ∷ []) r) m (map_after lines m)) all (shows_lines g start s lines n next last so_far one low short (omega arith) q r image base)

-- and the doorbell is past all of them
pub finished_rung : (g : Geometry) (start s : PortState) (lines : Lines) (n next last : ℕ) → SoFar g start s lines n next last → n ≡ length lines
    → s.doorbell ≡ start.doorbell + rung_after lines (events_of lines (length lines))
finished_rung g start s lines n next last so_far all =
    let rung = rung_between lines n (omega arith) in
    let bell = so_far.doorbell in
    let places = so_far.places in
    subst (λ (m : ℕ). s.doorbell ≡ start.doorbell + rung_after lines (events_of lines m)) all (omega arith)

-- what a refusal leaves
pub record IsStopped (g : Geometry) (start new : PortState) (lines : Lines) : Type 0 where
  pub count : ℕ
  pub stopped : HasStopped start new lines count
  pub shows : QueueShows g new lines count
  pub port : IsPortOf g (Queue 0) new
  pub bounds : HasBounds start new

-- a refusal between two lines
pub stopped_between : (g : Geometry) (start s : PortState) (lines : Lines) (n next last : ℕ) → SoFar g start s lines n next last → g.queues ≡ 1 → start.doorbell ≤ 2 ^ 62 → length lines ≤ 1024 → n < length lines
    → IsStopped g start s lines
stopped_between g start s lines n next last so_far one low short within = record {
  count = events_of lines n;
  stopped = record {
    events_are = so_far.events;
    few = let more = events_more lines (suc n) (length lines) (omega arith) in omega arith;
    rung = let rung = rung_between lines n (omega arith) in let bell = so_far.doorbell in let places = so_far.places in omega arith;
  };
  shows = λ q r image base. (n, record { within = omega arith; ends = inl (omega arith, λ less. omega arith) }, shows_lines g start s lines n next last so_far one low short (omega arith) q r image base);
  port = so_far.keeps.port;
  bounds = so_far.bounds;
}

-- the line at hand
module _ (g : Geometry) (start s : PortState) (lines : Lines) (n next last : ℕ) (so_far : SoFar g start s lines n next last) (one : g.queues ≡ 1) (short : length lines ≤ 1024)
    (low : start.doorbell ≤ 2 ^ 62) (less : n < length lines) (line : List BlockItem) (is : line ≡ get_or lines n []) where
  abbrev ws : Writes
  ws = writes_from (set_in line) 0 named

  abbrev items : Items
  items = items_of g (n + 1) next last ws

  rest : drop n lines ≡ line ∷ drop (n + 1) lines
  rest = drop-cons lines n [] less ∙ (λ i. sym is i ∷ drop (let e : suc n ≡ n + 1 = omega arith in e i) lines)

  good_rest : AreGoodLines (line ∷ drop (n + 1) lines)
  good_rest = subst AreGoodLines rest so_far.good

  below_rest : AllBelow (homes_of g) (line ∷ drop (n + 1) lines)
  below_rest = subst (AllBelow (homes_of g)) rest so_far.below

  room_rest : next + (sets_in line + 1 + places_of (drop (n + 1) lines)) ≤ 1024
  room_rest = subst (λ (l : Lines). next + places_of l ≤ 1024) rest so_far.room

  few : length ws ≤ 256
  few = omega (arith, length-writes (set_in line) 0 named, named_is)

  sets : length ws ≡ sets_in line
  sets = length-writes_sets line (good_items line good_rest.0)

  count : length items ≡ length ws + 1
  count = length-items g next (last_block journal_form newest_version (descriptor_for (n + 1) next last ws)) ws

  fits : next + length ws < g.area
  fits = let area = g.area_low in let r = room_rest in let c = sets in omega arith

  pub turn : Turn g s line items
  turn =
      let quiet = so_far.keeps.quiet in
      let at : staged_end s ≡ s.doorbell = ap (λ (l : List Command). s.doorbell + length l) quiet.pending ∙ add-zero s.doorbell in
      let bell = so_far.doorbell in
      let r = room_rest in
      record {
        good = good_items line good_rest.0;
        end = omega (arith, at, bell, count, few, r);
        room = omega (arith, count, few);
        own = own_items g s next (last_block journal_form newest_version (descriptor_for (n + 1) next last ws)) ws so_far.keeps.port one fits;
        distinct = distinct_items g s next (last_block journal_form newest_version (descriptor_for (n + 1) next last ws)) ws so_far.keeps.port one fits;
      }

  rings_after : (after_line s (n + 1) items).rings ≡ counted s.rings 1
  unfolding after_line
  rings_after = refl

  events_next : events_of lines (n + 1) ≡ events_of lines n + (2 * length items + 4)
  events_next =
      let next_is : events_of lines (n + 1) ≡ events_of lines (suc n) = ap (events_of lines) (let e : n + 1 ≡ suc n = omega arith in e) in
      let line_is : line_events (get_or lines n []) ≡ line_events line = ap line_events (sym is) in
      let c = count in
      let s = sets in
      omega arith

  pub more : (new : PortState) → new ≡ after_line s (n + 1) items → SoFar g start new lines (n + 1) (next + length items) (next + length items - 1)
  more new moved =
      let ds : List Descriptor = so_far.ds in
      let known : length ds ≡ n = so_far.count in
      let before : 0 < length ds → last + 1 ≤ next = λ some. let f : last + 1 ≡ next = so_far.follows (omega arith) in omega arith in
      let rising : AreRising 0 (homes_of g) (blocks_in ws) = rising_writes (homes_of g) (set_in line) 0 named 0 (below_set (homes_of g) line below_rest.0) (omega arith) in
      let r = room_rest in
      let c = few in
      let small : length ds < 2 ^ 63 = omega arith in
      let low_next : next < 2 ^ 61 = omega arith in
      let same : after_line s (length ds + 1) (items_of g (length ds + 1) next last ws) ≡ new = (λ i. after_line s (known i + 1) (items_of g (known i + 1) next last ws)) ∙ sym moved in
      let step : Keeps g (after_line s (length ds + 1) (items_of g (length ds + 1) next last ws)) (next + length ws + 1) (next + length ws) (descriptor_for (length ds + 1) next last ws ∷ ds) (transaction_of (n + 1) line ∷ transactions_of lines n) =
      kept g s next last ds (transactions_of lines n) so_far.keeps one (transaction_of (n + 1) line) (let e : n + 1 ≡ length ds + 1 = omega arith in e) small low_next fits few rising before in
      let end : next + length ws + 1 ≡ next + length items = omega (arith, count) in
      let at : next + length ws ≡ next + length items - 1 = omega (arith, count) in
      let all : transaction_of (n + 1) line ∷ transactions_of lines n ≡ transactions_of lines (n + 1) =
      ap (λ (l : List BlockItem). transaction_of (n + 1) l ∷ transactions_of lines n) is ∙ ap (transactions_of lines) (let e : suc n ≡ n + 1 = omega arith in e) in
      record {
        ds = descriptor_for (length ds + 1) next last ws ∷ ds;
        count = omega arith;
        keeps =
            subst (λ (m : ℕ). Keeps g new m (next + length items - 1) (descriptor_for (length ds + 1) next last ws ∷ ds) (transactions_of lines (n + 1))) end
            (subst (λ (m : ℕ). Keeps g new (next + length ws + 1) m (descriptor_for (length ds + 1) next last ws ∷ ds) (transactions_of lines (n + 1))) at
            (subst (λ (ts : List Transaction). Keeps g new (next + length ws + 1) (next + length ws) (descriptor_for (length ds + 1) next last ws ∷ ds) ts) all
            (subst (λ (u : PortState). Keeps g u (next + length ws + 1) (next + length ws) (descriptor_for (length ds + 1) next last ws ∷ ds) (transaction_of (n + 1) line ∷ transactions_of lines n)) same step)));
        follows = λ some. omega (arith, count);
        doorbell =
            ap (λ (u : PortState). u.doorbell) (sym same)
            ∙ doorbell_is g s next last ds (transactions_of lines n) so_far.keeps one (transaction_of (n + 1) line) (let e : n + 1 ≡ length ds + 1 = omega arith in e) small low_next fits few rising
            ∙ (let bell = so_far.doorbell in omega (arith, count));
        places =
            let c = count in let t = sets ∙ ap sets_in is in let p = so_far.places in
            (let e : next + length items ≡ places_upto lines (suc n) = omega arith in e) ∙ ap (places_upto lines) (let e : suc n ≡ n + 1 = omega arith in e);
        events =
            ap (λ (u : PortState). u.events) moved ∙ events_line s (n + 1) items so_far.keeps.quiet ∙ ap (λ (m : ℕ). counted m (2 * length items + 4)) so_far.events
            ∙ counted-counted start.events (events_of lines n) (2 * length items + 4) ∙ ap (counted start.events) (sym events_next);
        bounds = bounds_then start s new so_far.bounds (subst (HasBounds s) (sym moved) (bounds_line s (n + 1) items));
        rings = ap (λ (u : PortState). u.rings) moved ∙ rings_after ∙ ap (λ (m : ℕ). counted m 1) so_far.rings ∙ counted-counted start.rings n 1;
        room = let s = sets in omega (arith, count);
        good = good_rest.1;
        below = below_rest.1;
      }

  abbrev block : List ℕ
  block = last_block journal_form newest_version (descriptor_for (n + 1) next last ws)

  -- the lines before it stand
  stands_before : (new : PortState) (k : ℕ) → IsEarly s new (n + 1) items → IsPortOf g (Queue 0) new → k < 2 * length items + 4 → (q r : PortImage) → IsImage new q → r.base ≡ 0
      → (m : ℕ) × IsReached lines (events_of lines n + k) m × ShowsMap g (shown journal_reading g (q ∷ []) r) m (map_after lines m)
  stands_before new k early port few_events q r image base =
      let keeps = so_far.keeps in
      let bell = so_far.doorbell in
      let area = g.area_low in
      let few_ws : length ws ≤ 256 = few in
      let long = count in
      let after_next = events_next in
      let next_is : events_of lines (n + 1) ≡ events_of lines (suc n) = ap (events_of lines) (let e : n + 1 ≡ suc n = omega arith in e) in
      let number = so_far.count in
      let room = so_far.room in
      let shown_all : ShowsMap g (shown journal_reading g (q ∷ []) r) (length so_far.ds) (map_after lines n) =
      shows_map g s new next last so_far.ds (transactions_of lines n) keeps one (omega arith) (omega arith) (n + 1) items early port
      (readable g s new (n + 1) next block ws keeps.port keeps.quiet keeps.done (omega arith) (omega arith) (omega arith) (omega arith) early.rung)
      (λ j below. new_below g s next j block ws keeps.port one below fits) q r image base in (
        n,
        record { within = omega arith; ends = inl (omega arith, λ more. omega arith) },
        subst (λ (m : ℕ). ShowsMap g (shown journal_reading g (q ∷ []) r) m (map_after lines n)) number shown_all,
      )

  -- the line stands too
  stands_after : (q r : PortImage) → IsImage (after_line s (n + 1) items) q → r.base ≡ 0
      → (m : ℕ) × IsReached lines (events_of lines n + (2 * length items + 3)) m × ShowsMap g (shown journal_reading g (q ∷ []) r) m (map_after lines m)
  stands_after q r image base =
      let after_next = events_next in
      let done = more (after_line s (n + 1) items) refl in (
        n + 1,
        record { within = omega arith; ends = inr (omega arith, omega arith) },
        shows_lines g start (after_line s (n + 1) items) lines (n + 1) (next + length items) (next + length items - 1) done one low short (omega arith) q r image base,
      )

  -- a refusal comes before the line's last event
  cut_few : (new : PortState) (k : ℕ) → IsCut s new (n + 1) items k → k < 2 * length items + 4
  cut_few new k cut = ⊎_elim (λ early. let less_k = early.1 in omega arith) (λ nearly. let at = nearly.1 in omega arith) cut.stage

  -- the doorbell has moved past the lines before it, and past it where it was rung
  cut_rung : (new : PortState) (k : ℕ) → IsCut s new (n + 1) items k → new.doorbell ≡ start.doorbell + rung_after lines (events_of lines n + k)
  cut_rung new k cut =
      let same : length items ≡ sets_in (get_or lines n []) + 1 = let c = count in let t = sets ∙ ap sets_in is in omega arith in
      let inside = cut_few new k cut in
      let rung = rung_inside lines n k less (omega arith) in
      let here : new.doorbell ≡ s.doorbell + rung_by (sets_in (get_or lines n []) + 1) k = cut.rung_is ∙ ap (λ (m : ℕ). s.doorbell + rung_by m k) same in
      let bell = so_far.doorbell in
      let places = so_far.places in
      omega arith

  pub stopped_inside : (new : PortState) (k : ℕ) → IsCut s new (n + 1) items k → IsStopped g start new lines
  stopped_inside new k cut =
      let keeps = so_far.keeps in
      let room : length items ≤ usable_depth = turn.room in
      record {
        count = events_of lines n + k;
        stopped = record {
          events_are = cut.events_are ∙ ap (λ (m : ℕ). counted m k) so_far.events ∙ counted-counted start.events (events_of lines n) k;
          few =
              let after_next = events_next in
              let end = events_more lines (n + 1) (length lines) (omega arith) in
              let inside = cut_few new k cut in
              omega arith;
          rung = cut_rung new k cut;
        };
        shows = λ q r image base. ⊎_elim
            (λ early. stands_before new k early.0 (cut.port g (Queue 0) keeps.port) (let less_k = early.1 in omega arith) q r image base)
            (λ nearly.
            let at : k ≡ 2 * length items + 3 = nearly.1 in
            ⊎_elim
            (λ before. stands_before _ k (early_all s (n + 1) items keeps.quiet keeps.done (settled_port g s keeps.port keeps.quiet) room) (port_all s (n + 1) items keeps.quiet g (Queue 0) keeps.port) (omega arith) q r before base)
            (λ after. subst (λ (m : ℕ). (p : ℕ) × IsReached lines (events_of lines n + m) p × ShowsMap g (shown journal_reading g (q ∷ []) r) p (map_after lines p)) (sym at) (stands_after q r after base))
            (nearly_image s (n + 1) items q (subst (λ (u : PortState). IsImage u q) nearly.0 image)))
            cut.stage;
        port = cut.port g (Queue 0) keeps.port;
        bounds = bounds_then start s new so_far.bounds cut.bounds;
      }

-- the line at hand, as a loop over the lines has it
module _ (g : Geometry) (start s : PortState) (lines xs : Lines) (n number next last : ℕ) (so_far : SoFar g start s lines n next last) (clean : IsCleanQueue g start) (good : IsGoodText lines)
    (same : xs ≡ lines) (less : n < length xs) (line : List BlockItem) (is : line ≡ get_or xs n line) (at : number ≡ n) where
  line_is : line ≡ get_or lines n []
  line_is = is ∙ get_or_default xs n line [] less ∙ ap (λ (l : Lines). get_or l n []) same

  within : n < length lines
  within = subst (λ (l : Lines). n < length l) same less

  short : length lines ≤ 1024
  short = omega (arith, places_many lines, good.1)

  its_items : (items : Items) → items ≡ items_of g (number + 1) next last (writes_from (set_in line) 0 named) → items ≡ items_of g (n + 1) next last (writes_from (set_in line) 0 named)
  its_items items made = made ∙ ap (λ (m : ℕ). items_of g (m + 1) next last (writes_from (set_in line) 0 named)) at

  pub good_line : AreGoodItems line
  good_line = (turn g start s lines n next last so_far clean.one short clean.low within line line_is).good

  pub low_next : next < 2 ^ 61
  low_next = let room = so_far.room in omega arith

  pub line_turn : (items : Items) → items ≡ items_of g (number + 1) next last (writes_from (set_in line) 0 named) → Turn g s line items
  line_turn items made = subst (Turn g s line) (sym (its_items items made)) (turn g start s lines n next last so_far clean.one short clean.low within line line_is)

  pub some_items : (items : Items) → items ≡ items_of g (number + 1) next last (writes_from (set_in line) 0 named) → 1 ≤ length items
  some_items items made =
      let long = ap length (its_items items made) ∙ length-items g next (last_block journal_form newest_version (descriptor_for (n + 1) next last (writes_from (set_in line) 0 named))) (writes_from (set_in line) 0 named) in
      omega (arith, long)

  pub line_more : (items : Items) (new : PortState) (count : ℕ) → items ≡ items_of g (number + 1) next last (writes_from (set_in line) 0 named) → new ≡ after_line s (number + 1) items → count ≡ length items
      → SoFar g start new lines (n + 1) (next + count) (next + count - 1)
  line_more items new count made moved counts =
      let same_items = its_items items made in
      let moved_on : new ≡ after_line s (n + 1) (items_of g (n + 1) next last (writes_from (set_in line) 0 named)) = moved ∙ (λ i. after_line s (at i + 1) (same_items i)) in
      subst (λ (m : ℕ). SoFar g start new lines (n + 1) (next + m) (next + m - 1)) (sym (counts ∙ ap length same_items))
      (more g start s lines n next last so_far clean.one short clean.low within line line_is new moved_on)

  pub line_stopped : (items : Items) (new : PortState) (k : ℕ) → items ≡ items_of g (number + 1) next last (writes_from (set_in line) 0 named) → IsCut s new (number + 1) items k → IsStopped g start new lines
  line_stopped items new k made cut =
      let same_items = its_items items made in
      let cut_on : IsCut s new (n + 1) (items_of g (n + 1) next last (writes_from (set_in line) 0 named)) k =
      subst (λ (m : ℕ). IsCut s new (m + 1) (items_of g (n + 1) next last (writes_from (set_in line) 0 named)) k) at (subst (λ (l : Items). IsCut s new (number + 1) l k) same_items cut) in
      stopped_inside g start s lines n next last so_far clean.one short clean.low within line line_is new k cut_on

  pub line_between : IsStopped g start s lines
  line_between = stopped_between g start s lines n next last so_far clean.one clean.low short within
