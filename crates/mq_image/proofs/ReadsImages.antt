-- The image that the ports of a file are read as.
use Rattle.std.proofs.Common.{get_or, ◌≡◌, ◌≢◌, ◌≤◌, ◌<◌, ℕ, inl, inr, zero-add, ◌+◌, ◌++◌, ◌^◌, List, length, take, drop, map, true, refl, sym, ap, subst, ◌∙◌, arith}
use Rattle.std.specs.Prelude.{Option, None}
use Rattle.std.specs.List.{All, flat_map}
use Rattle.std.proofs.lemmas.Bool.{cases_lt, eqb-true, ne_eqb}
use Rattle.std.proofs.lemmas.List.{get_or-map, get_or-take, get_or_default, length-map, length-take-le, same_lists}
use Rattle.std.proofs.lemmas.List.Folds.{flat_map-map}
use Rattle.mq_blocks.specs.Drive.{PortImage}
use Rattle.mq_blocks.specs.Geometry.{area_of, queues_of}
use Rattle.mq_blocks.specs.Journal.{no_image}
use Rattle.mq_blocks.specs.declared.geometry.Geometry.{Geometry}
use Rattle.mq_drive.specs.Start.{IsImageOf}
use Rattle.mq_drive.specs.declared.role.Role.TheVariants.{Root}
use Rattle.mq_image.specs.Drives.{HasWidths, IsRead}
use Rattle.mq_image.specs.Faults.{old_words_fault, queues_in, words_fault}
use Rattle.mq_image.specs.File.{file_bytes, is_version, kept, namespace, rings_end}
use Rattle.mq_image.specs.Old.{AreMoved, AreOldWords, IsOldPort, moved}
use Rattle.mq_image.specs.Reads.{AreStored, IsQueuePort}
use Rattle.mq_image.proofs.FileForms.{depth-new, depth-old}
use Rattle.mq_image.proofs.FileWritten.{FileShown, PortsShown, file-shown, shown-of}
use Rattle.mq_image.proofs.OldMoves.{length-moved, slots-dwords}
use Rattle.mq_image.proofs.OldWords.{none-words}

-- ---- the ports in the file

pub stored-shown : (v : ℕ) (g : Geometry) (file : List ℕ) (ports : List PortImage) → AreStored v g file ports → PortsShown v g (take (queues_of g) ports) (get_or ports (queues_of g) no_image)
stored-shown v g file ports s =
    let n = s.count_is in
    let r = s.root in
    let count : length (take (queues_of g) ports) ≡ queues_of g = length-take-le (queues_of g) ports (omega arith) in
    shown-of v g (take (queues_of g) ports) (get_or ports (queues_of g) no_image) count (λ k d l.
    let low : k < queues_of g = omega (arith, l, count) in
    let is : get_or (take (queues_of g) ports) k d ≡ get_or ports k no_image = get_or-take (queues_of g) ports k d low ∙ get_or_default ports k d no_image (omega (arith, low, n)) in
    subst (λ (q : PortImage). IsQueuePort v g q) (sym is) (s.queues k low)) (record { blocks = r.blocks; slots = r.slots; doorbell = r.doorbell; head = r.head; base_is = refl; widths = r.widths })

stored-file : (v : ℕ) (g : Geometry) (file : List ℕ) (ports : List PortImage) → v < 2 ^ 32 → AreStored v g file ports → FileShown file v g (take (queues_of g) ports) (get_or ports (queues_of g) no_image)
stored-file v g file ports low s =
    subst (λ (f : List ℕ). FileShown f v g (take (queues_of g) ports) (get_or ports (queues_of g) no_image)) (sym s.bytes) (file-shown v g (take (queues_of g) ports) (get_or ports (queues_of g) no_image) low (stored-shown v g file ports s))

pub stored-room : (v : ℕ) (g : Geometry) (file : List ℕ) (ports : List PortImage) → v < 2 ^ 32 → AreStored v g file ports → rings_end v (queues_of g) ≤ length file
stored-room v g file ports low s = let z = (stored-file v g file ports low s).size in omega arith

-- ---- the words

pub words-old-first : (file : List ℕ) (v n : ℕ) → v ≡ 1 → n ≡ queues_in file → words_fault v file ≡ old_words_fault n 0 file
unfolding words_fault
words-old-first file v n e q = ap (λ (w : ℕ). words_fault w file) e ∙ ap (λ (k : ℕ). old_words_fault k 0 file) (sym q)

pub version-new : (v : ℕ) → is_version v ≡ true → v ≢ 1 → v ≡ 2
version-new v known e = let n = ne_eqb v 1 e in eqb-true v 2 (rw n at known)

-- ---- a drive

widths-all : (v : ℕ) (g : Geometry) (ports : List PortImage) → length ports ≡ queues_of g + 1 → ((q : ℕ) → q < queues_of g → HasWidths (get_or ports q no_image)) → HasWidths (get_or ports (queues_of g) no_image) → All HasWidths ports
widths-all v g ports n queues root = λ k d l. subst (λ (p : PortImage). HasWidths p) (sym (get_or_default ports k d no_image l)) (elim (cases_lt k (queues_of g)) [
  | inl low ↦ queues k low
  | inr high ↦
      let last : k ≡ queues_of g = omega (arith, l, high, n) in
      subst (λ (j : ℕ). HasWidths (get_or ports j no_image)) (sym last) root
])

-- a file of today's version
pub new-read : (g : Geometry) (file : List ℕ) (ports : List PortImage) → AreStored 2 g file ports → IsRead (record { geometry = g; ports = ports }) file
new-read g file ports s = record {
  drive = record {
    ports = s.count_is;
    queues = λ q l. let p = s.queues q l in record { slots = p.slots ∙ depth-new; blocks = p.blocks; words = p.base };
    root = record { slots = s.root.slots; blocks = s.root.blocks ∙ sym (zero-add _); words = (s.root.doorbell, s.root.head) };
  };
  widths = widths-all 2 g ports s.count_is (λ q l. (s.queues q l).widths) s.root.widths;
  file_is = inl s.bytes;
  kept_is = s.kept_is;
}

-- ---- version 1

pub stored-old : (v : ℕ) (g : Geometry) (file : List ℕ) (ports : List PortImage) → v ≡ 1 → AreStored v g file ports → words_fault 1 file ≡ None → (k : ℕ) → k < queues_of g → IsOldPort (get_or ports k no_image)
stored-old v g file ports e s w k l =
    let t = subst (λ (n : ℕ). AreStored n g file ports) e s in
    let p = t.queues k l in
    let n = t.count_is in
    let shown = stored-shown 1 g file ports t in
    let words = none-words file g (take (queues_of g) ports) (get_or ports (queues_of g) no_image) shown (stored-file 1 g file ports (omega arith) t) w k no_image (omega (arith, l, shown.count)) in
    record { slots = p.slots ∙ depth-old; dwords = p.widths.slots; words = subst (λ (q : PortImage). AreOldWords q) (get_or-take (queues_of g) ports k no_image l) words }

moved-widths : (p : PortImage) → IsOldPort p → HasWidths p → HasWidths (moved p)
moved-widths p o w = record { doorbell = w.doorbell; head = w.head; base = w.base; slots = slots-dwords p.head p.doorbell p.slots 4096 o.slots o.dwords; blocks = w.blocks }

-- the ports of an old file with their rings moved are those of an image
pub old-read : (v : ℕ) (g : Geometry) (file : List ℕ) (ports new : List PortImage) → v ≡ 1 → AreStored v g file ports → words_fault 1 file ≡ None → AreMoved (queues_of g) ports new → IsRead (record { geometry = g; ports = new }) file
old-read v g file ports new e stored w m = record {
  drive = record {
    ports = m.count_is ∙ s.count_is;
    queues = λ q l. let p = s.queues q l in
        let is = m.done q l in
        let o = get_or ports q no_image in record {
          slots = ap (λ (x : PortImage). length x.slots) is ∙ length-moved o.head o.doorbell o.slots 4096;
          blocks = ap (λ (x : PortImage). length x.blocks) is ∙ p.blocks;
          words = ap (λ (x : PortImage). x.base) is ∙ p.base;
        };
    root = subst (λ (p : PortImage). IsImageOf g Root p) (sym root) (record { slots = s.root.slots; blocks = s.root.blocks ∙ sym (zero-add _); words = (s.root.doorbell, s.root.head) });
  };
  widths = widths-all 1 g new (m.count_is ∙ s.count_is) (λ q l. subst (λ (p : PortImage). HasWidths p) (sym (m.done q l)) (moved-widths (get_or ports q no_image) (each q l) (s.queues q l).widths)) (subst (λ (p : PortImage). HasWidths p) (sym root) s.root.widths);
  file_is = inr (record {
    old = old;
    each = λ k d l. subst (λ (p : PortImage). IsOldPort p) (sym (at k d l)) (each k (omega (arith, l, count)));
    moved_is = front;
    is = s.bytes ∙ ap (file_bytes 1 g old) (sym root);
  });
  kept_is = ap (λ (ps : List PortImage). map kept (namespace g ps last)) front ∙ ap (λ (p : PortImage). map kept (namespace g (map moved old) p)) root ∙ ap (map kept) same ∙ s.kept_is
      ∙ sym same ∙ ap (λ (p : PortImage). namespace g (map moved old) p) (sym root) ∙ ap (λ (ps : List PortImage). namespace g ps last) (sym front);
}
  where
    s : AreStored 1 g file ports
    s = subst (λ (n : ℕ). AreStored n g file ports) e stored

    old : List PortImage
    old = take (queues_of g) ports

    last : PortImage
    last = get_or new (queues_of g) no_image

    root : last ≡ get_or ports (queues_of g) no_image
    root = m.rest (queues_of g) (omega arith)

    each : (k : ℕ) → k < queues_of g → IsOldPort (get_or ports k no_image)
    each = stored-old v g file ports e stored w

    count : length old ≡ queues_of g
    count = (stored-shown 1 g file ports s).count

    at : (k : ℕ) (d : PortImage) → k < length old → get_or old k d ≡ get_or ports k no_image
    at k d l = let low : k < queues_of g = omega (arith, l, count) in get_or-take (queues_of g) ports k d low ∙ get_or_default ports k d no_image (omega (arith, low, s.count_is))

    front : take (queues_of g) new ≡ map moved old
    front =
        let n : length (take (queues_of g) new) ≡ queues_of g = length-take-le (queues_of g) new (omega (arith, m.count_is, s.count_is)) in
        same_lists (take (queues_of g) new) (map moved old) (n ∙ sym (length-map old moved ∙ count)) (λ k d l.
        let low : k < queues_of g = omega (arith, l, n) in
        let inside : k < length old = omega (arith, low, count) in
        get_or-take (queues_of g) new k d low ∙ get_or_default new k d no_image (omega (arith, low, m.count_is, s.count_is)) ∙ m.done k low ∙ ap moved (sym (at k d inside)) ∙ sym (get_or-map moved old k d d inside))

    -- a port keeps its blocks
    same : namespace g (map moved old) (get_or ports (queues_of g) no_image) ≡ namespace g old (get_or ports (queues_of g) no_image)
    same =
        let root = (get_or ports (queues_of g) no_image).blocks in
        ap (λ (bs : List (Option (List ℕ))). bs ++ root ++ flat_map (λ (p : PortImage). drop (area_of g) p.blocks) (map moved old)) (flat_map-map (λ (p : PortImage). take (area_of g) p.blocks) moved old)
        ∙ ap (λ (bs : List (Option (List ℕ))). flat_map (λ (p : PortImage). take (area_of g) p.blocks) old ++ root ++ bs) (flat_map-map (λ (p : PortImage). drop (area_of g) p.blocks) moved old)
