-- How many entries of the ring the transaction of a group takes.
use Rattle.std.proofs.Common.{◌≡◌, ℕ, suc, ◌+◌, Bool, true, cond, List, [], ◌∷◌, length, inl, inr, refl, ap, subst, ◌∙◌, arith}
use Rattle.std.specs.List.{Contains}
use Rattle.mq_blocks.specs.Descriptor.{further_for}
use Rattle.mq_blocks.specs.Journal.{is_among}
use Rattle.mq_blocks.proofs.JournalAmong.{among-behind, among-here}
use Rattle.mq_desk_laws.specs.Rule.{numbered}
use Rattle.mq_kv_entries.specs.Entries.{IsAllLogged, placed_by, tx_of, written_by}
use Rattle.mq_kv_entries.specs.declared.entry.KvEntry.{KvEntry}
use Rattle.mq_sessions.proofs.Members.{cons-cases, cons-here, cons-there, none-contained}
use Rattle.mq_kv_run.specs.Groups.{entries_for}
use Rattle.mq_ledger.specs.History.{writes}
use Rattle.mq_ledger.specs.Items.{descriptor_blocks}
use Rattle.mq_pages.specs.declared.page.Write.{Write}
use Rattle.mq_queue_side.specs.Commits.{written_in}
use Rattle.mq_sessions.specs.Drawn.{blocks_in}

blocks-among : (ws : List Write) (w : Write) → Contains ws w → is_among w.block (blocks_in ws) ≡ true
blocks-among [] w c = none-contained w c
blocks-among (x ∷ ws) w c = elim (cons-cases x ws w c) [
  | inl same ↦ subst (λ (y : Write). is_among y.block (x.block ∷ blocks_in ws) ≡ true) same (among-here x.block (blocks_in ws))
  | inr later ↦ among-behind x.block w.block (blocks_in ws) (blocks-among ws w later)
]

all-written : (bs : List ℕ) (ws : List Write) → ((w : Write) → Contains ws w → is_among w.block bs ≡ true) → length (written_in bs ws) ≡ length ws
all-written bs [] all = refl
all-written bs (w ∷ ws) all =
    ap (λ (t : Bool). length (cond t ((w.block, w.content) ∷ written_in bs ws) (written_in bs ws))) (all w (cons-here w ws w refl))
    ∙ ap suc (all-written bs ws (λ x c. all x (cons-there w ws x c)))

none-written : (ws : List Write) → length (written_in [] ws) ≡ 0
none-written [] = refl
none-written (w ∷ ws) = none-written ws

pub entries-are : (e : KvEntry) (n : ℕ) → IsAllLogged e → writes (numbered n (tx_of e)) + descriptor_blocks (numbered n (tx_of e)) ≡ entries_for (length (written_by e))
entries-are e n is =
    let ws = written_by e in
    let logged : length (written_in (placed_by e).logged ws) ≡ length ws = ap (λ (bs : List ℕ). length (written_in bs ws)) is.logged ∙ all-written (blocks_in ws) ws (blocks-among ws) in
    let direct : length (written_in (placed_by e).direct ws) ≡ 0 = ap (λ (bs : List ℕ). length (written_in bs ws)) is.direct ∙ none-written ws in
    let revoked : length (placed_by e).revoked ≡ 0 = ap (λ (bs : List ℕ). length bs) is.revoked in
    let named : length (written_in (placed_by e).logged ws) + length (placed_by e).revoked ≡ length ws = omega (arith, logged, revoked) in
    let further : further_for (length (written_in (placed_by e).logged ws) + length (placed_by e).revoked) ≡ further_for (length ws) = ap further_for named in
    omega (arith, logged, direct, further)
