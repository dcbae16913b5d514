use Rattle.std.proofs.Common.{◌≡◌, ◌∙◌, ◌+◌, ◌*◌, ◌++◌, List, ℕ, [], ◌∷◌, sym, ap, subst, length, arith}
use Rattle.std.specs.List.{All, flat_map}
use Rattle.std.proofs.lemmas.List.{append-nil, length_push}
use Rattle.std.proofs.lemmas.List.Concat.{flat_map-append}
use Rattle.std.proofs.lemmas.List.Elements.{All-push}
use Rattle.mq_blocks.specs.Windows.{window}
use Rattle.mq_blocks.proofs.WindowsReadings.{window-add}
use Rattle.mq_nvme.specs.Dwords.{AreDwords, dword_bytes}
use Rattle.mq_image.proofs.ring.read_slots.Goals as goal

slots-more : (file : List ℕ) (at k : ℕ) (es : List (List ℕ)) (e : List ℕ) → flat_map dword_bytes es ≡ window file at (64 * k) → dword_bytes e ≡ window file (at + 64 * k) 64 → flat_map dword_bytes (es ++ e ∷ []) ≡ window file at (64 * (k + 1))
slots-more file at k es e f g =
    let m : 64 * (k + 1) ≡ 64 * k + 64 = omega arith in
    flat_map-append dword_bytes es (e ∷ []) ∙ ap (λ (w : List ℕ). flat_map dword_bytes es ++ w) (append-nil (dword_bytes e)) ∙ ap (λ (w : List ℕ). w ++ dword_bytes e) f ∙ ap (λ (w : List ℕ). window file at (64 * k) ++ w) g
    ∙ sym (window-add file at (64 * k) 64) ∙ ap (λ (n : ℕ). window file at n) (sym m)

pub loop-slot-preserved : goal.loop-slot-preserved
loop-slot-preserved c =
    let i = c.in_ok-push.ensures.items in
    let v = c.loop-slot.invariant in record {
      count = ap length i ∙ length_push c.loop-slot.slots.items _ ∙ ap (λ (k : ℕ). k + 1) v.count;
      dwords = subst (λ (es : List (List ℕ)). All (λ e. AreDwords 16 e) es) (sym i) (All-push (λ (e : List ℕ). AreDwords 16 e) c.loop-slot.slots.items c.entry_at.result v.dwords c.entry_at.ensures.dwords);
      bytes = ap (flat_map dword_bytes) i ∙ slots-more c.args.file.now c.args.at c.loop-slot.slot c.loop-slot.slots.items c.entry_at.result v.bytes c.entry_at.ensures.bytes;
    }

pub returns-clause-bytes : goal.returns-clause-bytes
returns-clause-bytes c = let n : 64 * c.loop-slot.slot ≡ 64 * c.args.depth = omega arith in c.loop-slot.invariant.bytes ∙ ap (λ (k : ℕ). window c.args.file.now c.args.at k) n
