-- Home writes keep what holds of a port: whoever needs a block's content at home needs none that a
-- later transaction logged.
use Rattle.std.proofs.Common.{◌≡◌, ◌≢◌, ℕ, ◌<◌, ◌≤◌, true, false, Bool, List, length, get_or, Option, Some, None, sym, refl, ap, subst, ◌∙◌, arith}
use Rattle.std.proofs.lemmas.Bool.{false≢true}
use Rattle.std.proofs.lemmas.List.{length-set, get_or-set_other}
use Rattle.mq_blocks.specs.Blocks.{block_at, content}
use Rattle.mq_blocks.specs.Drive.{PortState, index_of}
use Rattle.mq_blocks.specs.Geometry.{homes_of, zone_of, home_lba}
use Rattle.mq_blocks.specs.Journal.{is_among}
use Rattle.mq_blocks.specs.declared.command.HomeWrite.{HomeWrite}
use Rattle.mq_blocks.specs.declared.geometry.Geometry.{Geometry}
use Rattle.mq_ledger.specs.History.{blocks_of, last, upto, IsAt}
use Rattle.mq_ledger.specs.Items.{item_at}
use Rattle.mq_ledger.specs.KnownJournal.{KnownJournal, LogOk, front}
use Rattle.mq_ledger.specs.Sides.{Certainly, IsDone, SideOk, RootOk, home_index, home_index_in}
use Rattle.mq_ledger.specs.declared.tx.Tx.{Tx}
use Rattle.mq_blocks.proofs.JournalAmong.{apart-not_among}
use Rattle.mq_blocks.proofs.Ports.{parts_of, port-along}
use Rattle.mq_ledger.proofs.History.{last_at, last_settled, changes_direct}
use Rattle.mq_core.specs.Events.{begin_home, end_home}
use Rattle.mq_core.specs.Homes.{IsLoggedLast}
use Rattle.mq_core.proofs.SidesCommands.{apart_along}
use Rattle.mq_core.proofs.EventsPorts.{index-place, index-zone, zone-apart}
use Rattle.mq_core.proofs.KnownJournalSources.{direct_in, direct-zone}

-- the port with other contents and home writes
abbrev pub written_to : PortState → List (Option (List ℕ)) → List Bool → List HomeWrite → ℕ → PortState
written_to p blocks certain begun begins = record p { blocks = blocks; certain = certain; begun = begun; begins = begins }

-- all but one block are as they were
pub record AreElse (p : PortState) (at : ℕ) (blocks : List (Option (List ℕ))) (certain : List Bool) : Type 0 where
  pub blocks_len : length blocks ≡ length p.blocks
  pub certain_len : length certain ≡ length p.certain
  pub blocks_same : (n : ℕ) → n ≢ at → block_at blocks n ≡ block_at p.blocks n
  pub certain_same : (n : ℕ) → n ≢ at → get_or certain n false ≡ get_or p.certain n false

pub certainly_else : (p : PortState) (at n : ℕ) (v : List ℕ) (blocks : List (Option (List ℕ))) (certain : List Bool) (begun : List HomeWrite) (begins : ℕ) → AreElse p at blocks certain → n ≢ at → Certainly p n v → Certainly (written_to p blocks certain begun begins) n v
certainly_else p at n v blocks certain begun begins els other c =
    record {
      certain = record { certain = els.certain_same n other ∙ c.certain.certain; apart = apart_along p (written_to p blocks certain begun begins) n p.posted (λ lba. refl) c.certain.apart };
      is = els.blocks_same n other ∙ c.is;
    }

-- two blocks of the root
pub root-apart : (g : Geometry) (x y : ℕ) → zone_of g x ≡ None → zone_of g y ≡ None → home_index g y ≡ home_index g x → y ≡ x
root-apart g x y zx zy same = sym (ap (λ w. home_index_in g w y) zy) ∙ (same ∙ ap (λ w. home_index_in g w x) zx)

-- nothing that a port keeps to needs the content of this block at home
pub record IsFree (k : KnownJournal) (x : ℕ) : Type 0 where
  pub direct : (t : Tx) (ts : List Tx) → IsAt t ts k.history → is_among x (blocks_of t.direct) ≡ true → last k.base (upto (front k) k.history) x ≤ t.number → ⊥
  pub due : (v : ℕ) → k.due x v ≡ true → last k.base (upto (front k) k.history) x ≤ v → ⊥

pub free_logged : (k : KnownJournal) (x : ℕ) → LogOk k → IsLoggedLast k x → IsFree k x
free_logged k x log u =
    let settled = last_settled k.base (front k) k.history x log.numbers u.high in
    record {
      direct = λ t ts at among m.
          let most = last_at k.base t ts k.history x log.numbers at (changes_direct t x among) in
          let lg = u.logged t ts at (omega (arith, settled, m, most)) in
          let form = (log.each t ts at).0 in
          false≢true (sym (apart-not_among (blocks_of t.logged) (blocks_of t.direct) x form.apart lg) ∙ among);
      due = λ v due m. (let above = u.due v due in absurd (omega (arith, settled, m, above)));
    }

pub side_free : (k : KnownJournal) (q : ℕ) (txs : List Tx) (p : PortState) (x : ℕ) (blocks : List (Option (List ℕ))) (certain : List Bool) (begun : List HomeWrite) (begins : ℕ) → LogOk k → SideOk k q txs p → zone_of k.geometry x ≡ Some q → IsFree k x
    → AreElse p (home_index k.geometry x) blocks certain → SideOk k q txs (written_to p blocks certain begun begins)
side_free k q txs p x blocks certain begun begins log s zone free els =
    let o = s.order in
    let kept : (n : ℕ) (v : List ℕ) → n ≢ home_index k.geometry x → Certainly p n v → Certainly (written_to p blocks certain begun begins) n v = λ n v other c.
    certainly_else p (home_index k.geometry x) n v blocks certain begun begins els other c in
    let before : (c : ℕ) → IsDone (written_to p blocks certain begun begins) c → IsDone p c = λ c d. record { rung = d.rung; posted = d.posted; failed = d.failed } in
    record {
      queue = s.queue;
      part = s.part;
      port = port-along s.port (λ i. record (parts_of p) { blocks = els.blocks_len i; certain = els.certain_len i });
      order = record { head_low = o.head_low; stored = o.stored; rung = o.rung; flushed = o.flushed; staged = o.staged; drawn = o.drawn; room = o.room };
      limit = s.limit;
      ends = record { head = s.ends.head; stored = s.ends.stored; doorbell = s.ends.doorbell };
      ring = record { settled = s.ring.settled; start = s.ring.start; rung = s.ring.rung; waits = s.ring.waits };
      commands = record {
        pending = s.commands.pending;
        pending_counts = s.commands.pending_counts;
        posted = s.commands.posted;
        posted_counts = s.commands.posted_counts;
        failed = s.commands.failed;
        failed_counts = s.commands.failed_counts;
      };
      area = record {
        fits = s.area.fits;
        limit = s.area.limit;
        holds = λ c place low d target.
            let i = (index-place k.geometry q place p s.port s.queue).1 in
            let j = (index-zone k.geometry q x p s.port zone).1 in
            kept _ _ (λ e. omega arith) (s.area.holds c place low (before c d) target);
      };
      based = s.based;
      done = s.done;
      direct = λ c y low d target m.
          let rung = d.rung in
          let b = direct_in k q txs c y s.part low (omega (arith, rung, o.flushed, o.staged, o.drawn)) target in
          kept _ _ (λ e.
          let is : y ≡ x = zone-apart k.geometry q y x (direct-zone k q txs c y log b).0 zone e in
          let among : is_among x (blocks_of b.t.direct) ≡ true = subst (λ z. is_among z (blocks_of b.t.direct) ≡ true) is b.among in
          let m' : last k.base (upto (front k) k.history) x ≤ (item_at (k.from q) txs c).number = subst (λ z. last k.base (upto (front k) k.history) z ≤ (item_at (k.from q) txs c).number) is m in
          let number = b.number in
          free.direct b.t b.ts b.at among (omega (arith, m', number))) (s.direct c y low (before c d) target m);
      homes = λ y v block inside z due there m.
          kept _ _ (λ e.
          let is : y ≡ x = zone-apart k.geometry q y x z zone e in
          let m' : last k.base (upto (front k) k.history) x ≤ v = subst (λ w. last k.base (upto (front k) k.history) w ≤ v) is m in
          free.due v (subst (λ w. k.due w v ≡ true) is due) m') (s.homes y v block inside z due there m);
    }

pub side_written : (k : KnownJournal) (q : ℕ) (txs : List Tx) (p : PortState) (x : ℕ) (blocks : List (Option (List ℕ))) (certain : List Bool) (begun : List HomeWrite) (begins : ℕ) → LogOk k → SideOk k q txs p → zone_of k.geometry x ≡ Some q → IsLoggedLast k x
    → AreElse p (home_index k.geometry x) blocks certain → SideOk k q txs (written_to p blocks certain begun begins)
side_written k q txs p x blocks certain begun begins log s zone u els = side_free k q txs p x blocks certain begun begins log s zone (free_logged k x log u) els

pub root_free : (k : KnownJournal) (p : PortState) (x : ℕ) (blocks : List (Option (List ℕ))) (certain : List Bool) (begun : List HomeWrite) (begins : ℕ) → RootOk k p → zone_of k.geometry x ≡ None → IsFree k x
    → AreElse p (home_index k.geometry x) blocks certain → RootOk k (written_to p blocks certain begun begins)
root_free k p x blocks certain begun begins r zone free els =
    record {
      port = port-along r.port (λ i. record (parts_of p) { blocks = els.blocks_len i; certain = els.certain_len i });
      posted = r.posted;
      bases = r.bases;
      homes = λ y v block inside z due there m.
          certainly_else p (home_index k.geometry x) _ _ blocks certain begun begins els (λ e.
          let is : y ≡ x = root-apart k.geometry x y zone z e in
          let m' : last k.base (upto (front k) k.history) x ≤ v = subst (λ w. last k.base (upto (front k) k.history) w ≤ v) is m in
          free.due v (subst (λ w. k.due w v ≡ true) is due) m') (r.homes y v block inside z due there m);
    }

pub root_written : (k : KnownJournal) (p : PortState) (x : ℕ) (blocks : List (Option (List ℕ))) (certain : List Bool) (begun : List HomeWrite) (begins : ℕ) → LogOk k → RootOk k p → zone_of k.geometry x ≡ None → x < homes_of k.geometry → IsLoggedLast k x
    → AreElse p (home_index k.geometry x) blocks certain → RootOk k (written_to p blocks certain begun begins)
root_written k p x blocks certain begun begins log r zone block u els = root_free k p x blocks certain begun begins r zone (free_logged k x log u) els

-- ---- a home write begins, or ends

pub else_begin : (g : Geometry) (x : ℕ) (block : List ℕ) (p : PortState) → index_of p (home_lba g x) ≡ home_index g x → AreElse p (home_index g x) (begin_home g x block p).blocks (begin_home g x block p).certain
else_begin g x block p at =
    record {
      blocks_len = refl;
      certain_len = length-set p.certain (index_of p (home_lba g x)) false;
      blocks_same = λ n other. refl;
      certain_same = λ n other. get_or-set_other p.certain (index_of p (home_lba g x)) n false false (λ e. other (e ∙ at));
    }

pub else_end : (g : Geometry) (x : ℕ) (block : List ℕ) (p : PortState) → index_of p (home_lba g x) ≡ home_index g x → AreElse p (home_index g x) (end_home g x block p).blocks (end_home g x block p).certain
else_end g x block p at =
    record {
      blocks_len = length-set p.blocks (index_of p (home_lba g x)) (Some block);
      certain_len = length-set p.certain (index_of p (home_lba g x)) true;
      blocks_same = λ n other. ap content (get_or-set_other p.blocks (index_of p (home_lba g x)) n (Some block) None (λ e. other (e ∙ at)));
      certain_same = λ n other. get_or-set_other p.certain (index_of p (home_lba g x)) n true false (λ e. other (e ∙ at));
    }
