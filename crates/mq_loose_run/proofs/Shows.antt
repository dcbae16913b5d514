-- What the image of the drive shows of a run, whole or cut.
use Rattle.std.proofs.Common.{◌≡◌, ◌<◌, ◌≤◌, ℕ, zero, suc, ◌+◌, ◌-◌, Bool, true, false, cond, List, [], ◌∷◌, ◌++◌, length, Option, Some, None, refl, sym, ◌∙◌, ap, subst, inl, arith}
use Rattle.std.proofs.lemmas.Bool.{le-leb}
use Rattle.std.proofs.lemmas.List.{append-nil}
use Rattle.mq_block_text.specs.declared.item.BlockItem.{BlockItem}
use Rattle.mq_block_trace.specs.Lines.{empty_map, named, set_in, writes_from}
use Rattle.mq_block_trace.proofs.LinesFills.{named_is}
use Rattle.mq_blocks.specs.Drive.{FuseName, PortImage}
use Rattle.mq_blocks.specs.Journal.{is_among}
use Rattle.mq_blocks.specs.Machine.{Map, after, or_kept, write_of}
use Rattle.mq_image.specs.Drives.{IsDrive}
use Rattle.mq_image.specs.File.{DriveImage, queue_ports, root_port}
use Rattle.mq_ledger.specs.History.{change_of, map_after}
use Rattle.mq_ledger.specs.State.{AreImages, State, start_map}
use Rattle.mq_ledger.specs.declared.tx.Tx.{Tx}
use Rattle.mq_ledger.proofs.History.{among_written}
use Rattle.mq_loose.specs.Guards.{settled}
use Rattle.mq_loose_order.specs.Dependence.{kept}
use Rattle.mq_loose_queues.specs.Journal.{IsJournal, state_over}
use Rattle.mq_loose_queues.specs.Queues.{QueuesState, at_queue}
use Rattle.mq_loose_text.specs.Meaning.{IsSetIn, after_line, drawn_by, drawn_in, events_upto, happens, line_at, numbers_from, numbers_in, rung_on, settled_in, tx_of}
use Rattle.mq_loose_text.specs.Text.{IsGoodText, queue_count}
use Rattle.mq_loose_text.specs.declared.line.LooseLine.{LooseLine}
use Rattle.mq_loose_text.specs.declared.line.LooseLine.TheVariants.{Commit, Done}
use Rattle.mq_loose_run.specs.Cuts.{ShowsRun}
use Rattle.mq_loose_run.specs.Lines.{HasRun, HasStopped}
use Rattle.mq_loose_run.specs.Runs.{IsRunGeometry}
use Rattle.mq_loose_run.proofs.Counts.{queue_is}
use Rattle.mq_loose_run.proofs.Ends.{end_rung, end_set, end_settled, stop_rung, stop_set, stop_settled, set_low}
use Rattle.mq_loose_run.proofs.ImageSets.{image_base, image_bell, image_numbers, image_stands, image_standing, image_whole, numbers_few, numbers_same, order, the_chains, the_rows, the_set}
use Rattle.mq_loose_run.proofs.MayCommit.{homes_are, written_set}

-- ---- the map after a set

-- what is in the map from the empty one on is so in each
map_value : (m : Map) (h : List Tx) (x : ℕ) (v : List ℕ) → map_after empty_map h x ≡ Some v → map_after m h x ≡ Some v
unfolding after
map_value m [] x v e = absurd (cc)
map_value m (t ∷ ts) x v e = go (write_of (change_of t).writes x) (is_among x t.freed) e (map_value m ts x v)
  where
    go : (o : Option (List ℕ)) (f : Bool) → or_kept o (cond f None (map_after empty_map ts x)) ≡ Some v → (map_after empty_map ts x ≡ Some v → map_after m ts x ≡ Some v) → or_kept o (cond f None (map_after m ts x)) ≡ Some v
    go (Some w) f e rest = e
    go None true e rest = absurd (cc)
    go None false e rest = rest e

-- only named blocks are in it
low_tx : (h us : List Tx) (q : ℕ) (is : List BlockItem) (x : ℕ) (v : List ℕ) → (map_after empty_map us x ≡ Some v → x < 256) → map_after empty_map (tx_of h q is ∷ us) x ≡ Some v → x < 256
unfolding after
low_tx h us q is x v rest e = go (write_of (writes_from (set_in is) 0 named ++ []) x) refl (is_among x (tx_of h q is).freed) e
  where
    go : (o : Option (List ℕ)) → write_of (writes_from (set_in is) 0 named ++ []) x ≡ o → (f : Bool) → or_kept o (cond f None (map_after empty_map us x)) ≡ Some v → x < 256
    go (Some w) there f e =
        let among = among_written (writes_from (set_in is) 0 named) x w (ap (λ ws. write_of ws x) (sym (append-nil (writes_from (set_in is) 0 named))) ∙ there) in
        (let low = (written_set (set_in is) 0 named x among).0 in omega (arith, low, named_is))
    go None there true e = absurd (cc)
    go None there false e = rest e

low_line : (S : ℕ → Bool) (l : LooseLine) (h : List Tx) (x : ℕ) (v : List ℕ) → (map_after empty_map (kept S h) x ≡ Some v → x < 256) → map_after empty_map (kept S (after_line l h)) x ≡ Some v → x < 256
low_line S (Commit q is) h x v rest e = go (S (length h + 1)) e
  where
    go : (b : Bool) → map_after empty_map (cond b (tx_of h q is ∷ kept S h) (kept S h)) x ≡ Some v → x < 256
    go true e = low_tx h (kept S h) q is x v rest e
    go false e = rest e
low_line S (Done q) h x v rest e = rest e

named_low : (S : ℕ → Bool) (n : ℕ) (lines : List LooseLine) (x : ℕ) (v : List ℕ) → map_after empty_map (kept S (drawn_by lines n)) x ≡ Some v → x < 256
named_low S zero lines x v e = absurd (cc)
named_low S (suc n) lines x v e = low_line S (line_at lines n) (drawn_by lines n) x v (named_low S n lines x v) e

-- later transactions are not of the set
kept_line : (S : ℕ → Bool) (l : LooseLine) (h : List Tx) → S (length h + 1) ≡ false → kept S (after_line l h) ≡ kept S h
kept_line S (Commit q is) h out = ap (λ (b : Bool). cond b (tx_of h q is ∷ kept S h) (kept S h)) out
kept_line S (Done q) h out = refl

drawn_more : (n d : ℕ) (lines : List LooseLine) → length (drawn_by lines n) ≤ length (drawn_by lines (n + d))
drawn_more n zero lines = (let e : n + 0 ≡ n = omega arith in let s = ap (λ (k : ℕ). length (drawn_by lines k)) e in omega (arith, s))
drawn_more n (suc d) lines =
    let e : n + suc d ≡ suc (n + d) = omega arith in
    let s = ap (λ (k : ℕ). length (drawn_by lines k)) e in
    let l = drawn_more n d lines in
    let m = line_more (line_at lines (n + d)) (drawn_by lines (n + d)) in
    omega (arith, s, l, m)
  where
    line_more : (l : LooseLine) (h : List Tx) → length h ≤ length (after_line l h)
    line_more (Commit q is) h = omega arith
    line_more (Done q) h = omega arith

kept_same : (S : ℕ → Bool) (lines : List LooseLine) (p d : ℕ) → ((m : ℕ) → 1 + length (drawn_by lines p) ≤ m → S m ≡ false) → kept S (drawn_by lines (p + d)) ≡ kept S (drawn_by lines p)
kept_same S lines p zero none = (let e : p + 0 ≡ p = omega arith in ap (λ (k : ℕ). kept S (drawn_by lines k)) e)
kept_same S lines p (suc d) none =
    (let e : p + suc d ≡ suc (p + d) = omega arith in ap (λ (k : ℕ). kept S (drawn_by lines k)) e)
    ∙ kept_line S (line_at lines (p + d)) (drawn_by lines (p + d)) (none (length (drawn_by lines (p + d)) + 1) (let l = drawn_more p d lines in omega (arith, l)))
    ∙ kept_same S lines p d none

-- ---- the image of the drive

module _ (start : State) (lines : List LooseLine) (p : ℕ) (v : QueuesState) (j : IsJournal start (drawn_by lines p) v) (base : start.base ≡ 0) (geometry : IsRunGeometry start.geometry) (within : p ≤ length lines) (images : List PortImage) (drive : IsDrive (record { geometry = start.geometry; ports = images }))
    (it : AreImages (state_over start (drawn_by lines p) [] v) (queue_ports (record { geometry = start.geometry; ports = images })) (root_port (record { geometry = start.geometry; ports = images }))) where
  abbrev x : DriveImage
  x = record { geometry = start.geometry; ports = images }

  abbrev h : List Tx
  h = drawn_by lines p

  abbrev S : ℕ → Bool
  S = the_set start h v j base (queue_ports x) (root_port x) it

  -- no number above those that were drawn is in the set
  outside : (m : ℕ) → 1 + length h ≤ m → S m ≡ false
  outside = set_low start h v j base (queue_ports x) (root_port x) it

  all_lines : length lines ≡ p + (length lines - p)
  all_lines = omega (arith, within)

  numbers_all : {T : ℕ → Bool} → ((m : ℕ) → 1 + length h ≤ m → T m ≡ false) → numbers_from T 1 (length h) ≡ numbers_in T lines
  numbers_all {T} none =
      let more = drawn_more p (length lines - p) lines in
      let long : length (drawn_in lines) ≡ length h + (length (drawn_by lines (p + (length lines - p))) - length h) = (let e = ap (λ (k : ℕ). length (drawn_by lines k)) all_lines in omega (arith, e, more)) in
      sym (ap (numbers_from T 1) long ∙ numbers_few T 1 (length h) (length (drawn_by lines (p + (length lines - p))) - length h) none)

  kept_all : kept S (drawn_in lines) ≡ kept S h
  kept_all = ap (λ (k : ℕ). kept S (drawn_by lines k)) all_lines ∙ kept_same S lines p (length lines - p) outside

  pub shows : (cut : Option ℕ) (ack : List ℕ) → ack ≡ numbers_from (settled (state_over start h [] v)) 1 (length (drawn_in lines)) → ((m : ℕ) → settled (state_over start h [] v) m ≡ settled_in cut lines m) → IsSetIn cut lines S → ((q : ℕ) → q < queue_count → (at_queue v q).side.port.doorbell ≡ rung_on cut q lines) → ShowsRun cut lines ack x
  shows cut ack ack_is settled_is set rung = record {
    drive = drive;
    base = image_base start h v j base (queue_ports x) (root_port x) it;
    acknowledged_are = ack_is ∙ numbers_same (settled (state_over start h [] v)) (settled_in cut lines) 1 (length (drawn_in lines)) settled_is;
    set = S;
    set_in = set;
    deps = order start h v j base (queue_ports x) (root_port x) it;
    chains = the_chains start h v j base (queue_ports x) (root_port x) it;
    whole = image_whole start h v j base (queue_ports x) (root_port x) it;
    ds = the_rows start h v j base (queue_ports x) (root_port x) it;
    standing = image_standing start h v j base (queue_ports x) (root_port x) it;
    set_is = image_numbers start h v j base (queue_ports x) (root_port x) it ∙ numbers_all outside;
    stand = λ b content there.
        let here : map_after empty_map (kept S h) b ≡ Some content = ap (λ (us : List Tx). map_after empty_map us b) (sym kept_all) ∙ there in
        let low = named_low S p lines b content here in
        let homes = homes_are start.geometry geometry in
        image_stands start h v j base (queue_ports x) (root_port x) it b content (omega (arith, low, homes)) (map_value (start_map start.start) (kept S h) b content here);
    rung = λ q low. image_bell start h v j base (queue_ports x) (root_port x) it q (let g = geometry.queues in omega (arith, low, g, queue_is)) ∙ rung q low;
  }

-- ---- the two ends of a run

-- the whole text was run
pub ran_shows : (fuse : FuseName) (start : State) (lines : List LooseLine) (v : QueuesState) → IsGoodText lines → (r : HasRun fuse start lines (length lines) v) → (images : List PortImage) → IsDrive (record { geometry = start.geometry; ports = images })
    → AreImages (state_over start (drawn_by lines (length lines)) [] v) (queue_ports (record { geometry = start.geometry; ports = images })) (root_port (record { geometry = start.geometry; ports = images }))
    → ((l : ℕ) → fuse.limit ≡ Some l → events_upto lines (length lines) ≤ l) → (ack : List ℕ) → ((s : State) (h : List Tx) → IsJournal s h v → ack ≡ numbers_from (settled (state_over s h [] v)) 1 (length (drawn_in lines)))
    → ShowsRun fuse.limit lines ack (record { geometry = start.geometry; ports = images })
ran_shows fuse start lines v good r images drive it enough ack ack_is =
    shows start lines (length lines) v r.drawn.journal r.drawn.start_is.base r.drawn.start_is.geometry_is (omega arith) images drive it fuse.limit ack (ack_is start (drawn_by lines (length lines)) r.drawn.journal)
    (end_settled fuse start lines v fuse.limit r in_time) (inl (λ i m. end_set fuse start lines v fuse.limit r in_time _ _ it m i)) (end_rung fuse start lines v fuse.limit r in_time)
  where
    time : (cut : Option ℕ) → ((l : ℕ) → cut ≡ Some l → events_upto lines (length lines) ≤ l) → happens cut (events_upto lines (length lines)) ≡ true
    time None low = refl
    time (Some l) low = le-leb (events_upto lines (length lines)) l (low l refl)

    in_time : happens fuse.limit (events_upto lines (length lines)) ≡ true
    in_time = time fuse.limit enough

-- the power went off in a line
pub stopped_shows : (fuse : FuseName) (start : State) (lines : List LooseLine) (v : QueuesState) → IsGoodText lines → (n : ℕ) (r : HasStopped fuse start lines n v) → (images : List PortImage) → IsDrive (record { geometry = start.geometry; ports = images })
    → AreImages (state_over start (drawn_by lines (suc n)) [] v) (queue_ports (record { geometry = start.geometry; ports = images })) (root_port (record { geometry = start.geometry; ports = images }))
    → (l : ℕ) → fuse.limit ≡ Some l → l ≡ events_upto lines n + r.events → (ack : List ℕ) → ((s : State) (h : List Tx) → IsJournal s h v → ack ≡ numbers_from (settled (state_over s h [] v)) 1 (length (drawn_in lines)))
    → ShowsRun fuse.limit lines ack (record { geometry = start.geometry; ports = images })
stopped_shows fuse start lines v good n r images drive it l limit at ack ack_is =
    subst (λ (cut : Option ℕ). ShowsRun cut lines ack (record { geometry = start.geometry; ports = images })) (sym (limit ∙ ap (λ (m : ℕ). Some m) at))
    (shows start lines (suc n) v r.drawn.journal r.drawn.start_is.base r.drawn.start_is.geometry_is (let w = r.inside in omega (arith, w)) images drive it (Some (events_upto lines n + r.events)) ack (ack_is start (drawn_by lines (suc n)) r.drawn.journal)
    (stop_settled fuse start lines good n v r) (stop_set fuse start lines good n v r _ _ it) (stop_rung fuse start lines good n v r))
