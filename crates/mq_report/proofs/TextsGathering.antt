-- What a whole report says, from its lines of words.
use Rattle.std.proofs.Common.{◌≡◌, ◌∙◌, ℕ, suc, Bool, true, false, List, [], ◌∷◌, ◌++◌, length, refl, sym, ap, arith, append_assoc}
use Rattle.std.specs.Prelude.{map, nat_eq, All, codes, ◌||◌}
use Rattle.std.proofs.lemmas.List.{append-nil}
use Rattle.mq_tree.specs.declared.request.Reply.{Reply}
use Rattle.mq_report.specs.Lines.{Line, Printed, as_printed}
use Rattle.mq_report.specs.Ranges.{AreFit, AreSmall, IsFit, IsSmall}
use Rattle.mq_report.specs.Texts.{Words, base_line, entry_line, entry_lines, last_line, reply_line, report_lines, told_line}
use Rattle.mq_report.specs.declared.line.Last.{Last}
use Rattle.mq_report.specs.declared.line.Last.TheVariants.{Clean, Cut, StoppedTx, StoppedBlock}
use Rattle.mq_report.specs.declared.line.Told.{Told}
use Rattle.mq_report.proofs.TextsBack.{key, last-back, last_of, line-back, line_back, reply-back, reply_back, told-back, told_back, value, value-decimal, word}

-- replies that stand before the first entry, and the entries with theirs
pub record Found : Type 0 where
  pub replies : List Reply
  pub lines : List Line

abbrev pub nothing : Found
nothing = record { replies = []; lines = [] }

abbrev is_reply : Words → Bool
is_reply ws = nat_eq (length (word ws 0)) 0

abbrev is_entry : Words → Bool
is_entry ws = nat_eq (key (word ws 0)) (key (codes "commit")) || nat_eq (key (word ws 0)) (key (codes "at"))

abbrev is_answer : Words → Bool
is_answer ws = nat_eq (key (word ws 0)) (key (codes "answer"))

abbrev pick : (is_reply is_entry : Bool) → Words → Found → Found
pick true e ws f = record { replies = reply_back ws ∷ f.replies; lines = f.lines }
pick false true ws f = record { replies = []; lines = line_back ws f.replies ∷ f.lines }
pick false false ws f = record { replies = []; lines = f.lines }

abbrev pub gather : List Words → Found
gather [] = nothing
gather (w ∷ ws) = pick (is_reply w) (is_entry w) w (gather ws)

abbrev picked : Bool → Words → List Printed → List Printed
picked true ws ts = told_back ws ∷ ts
picked false ws ts = ts

abbrev pub tells : List Words → List Printed
tells [] = []
tells (w ∷ ws) = picked (is_answer w) w (tells ws)

abbrev pub final : List Words → Last
final [] = Clean 0
final (w ∷ []) = last_of w
final (w ∷ v ∷ ws) = final (v ∷ ws)

-- ---- what is behind the entries

gather-end : (x : Last) → gather (last_line x ∷ []) ≡ nothing
gather-end (Clean n) = refl
gather-end (Cut n) = refl
gather-end (StoppedTx n) = refl
gather-end (StoppedBlock n) = refl

gather-told : (ts : List Told) (x : Last) → gather (map told_line ts ++ last_line x ∷ []) ≡ nothing
gather-told [] x = gather-end x
gather-told (t ∷ ts) x = ap (λ (f : Found). record { replies = []; lines = f.lines }) (gather-told ts x)

gather-replies : (rs : List Reply) (ws : List Words) → All IsFit rs → gather (map reply_line rs ++ ws) ≡ record { replies = rs ++ (gather ws).replies; lines = (gather ws).lines }
gather-replies [] ws h = refl
gather-replies (r ∷ rs) ws h =
    ap (λ (f : Found). record { replies = reply_back (reply_line r) ∷ f.replies; lines = f.lines }) (gather-replies rs ws (λ k d l. h (suc k) d (omega arith)))
    ∙ ap (λ (x : Reply). record { replies = x ∷ (rs ++ (gather ws).replies); lines = (gather ws).lines }) (reply-back r (h 0 r (omega arith)))

entry-picked : (l : Line) (b : Bool) (f : Found) → l.commit ≡ b → pick (is_reply (entry_line l)) (is_entry (entry_line l)) (entry_line l) f ≡ record { replies = []; lines = line_back (entry_line l) f.replies ∷ f.lines }
entry-picked l b f e = at l.number l.commit l.session l.group
  where
    at : (n : ℕ) (c : Bool) (s g : ℕ) → pick (is_reply (entry_line (record { number = n; commit = c; session = s; group = g; end = l.end; replies = l.replies }))) (is_entry (entry_line (record { number = n; commit = c; session = s; group = g; end = l.end; replies = l.replies }))) (entry_line (record { number = n; commit = c; session = s; group = g; end = l.end; replies = l.replies })) f ≡ record { replies = []; lines = line_back (entry_line (record { number = n; commit = c; session = s; group = g; end = l.end; replies = l.replies })) f.replies ∷ f.lines }
    at n true s g = refl
    at n false s g = refl

pub gather-entries : (ls : List Line) (ws : List Words) → AreFit ls → gather ws ≡ nothing → gather (entry_lines ls ++ ws) ≡ record { replies = []; lines = ls }
gather-entries [] ws h e = e
gather-entries (l ∷ ls) ws h e =
    let inner : gather (entry_lines ls ++ ws) ≡ record { replies = []; lines = ls } = gather-entries ls ws h.2 e in
    let below : gather ((map reply_line l.replies ++ entry_lines ls) ++ ws) ≡ record { replies = l.replies; lines = ls } =
    ap gather (append_assoc (map reply_line l.replies) (entry_lines ls) ws)
    ∙ gather-replies l.replies (entry_lines ls ++ ws) h.0
    ∙ ap (λ (f : Found). record { replies = l.replies ++ f.replies; lines = f.lines }) inner
    ∙ ap (λ (rs : List Reply). record { replies = rs; lines = ls }) (append-nil l.replies) in
    entry-picked l l.commit (gather ((map reply_line l.replies ++ entry_lines ls) ++ ws)) refl
    ∙ ap (λ (f : Found). record { replies = []; lines = line_back (entry_line l) f.replies ∷ f.lines }) below
    ∙ ap (λ (x : Line). record { replies = []; lines = x ∷ ls }) (line-back l h.1)

-- ---- the answers

tells-end : (x : Last) → tells (last_line x ∷ []) ≡ []
tells-end (Clean n) = refl
tells-end (Cut n) = refl
tells-end (StoppedTx n) = refl
tells-end (StoppedBlock n) = refl

tells-told : (ts : List Told) (x : Last) → AreSmall ts → tells (map told_line ts ++ last_line x ∷ []) ≡ map as_printed ts
tells-told [] x h = tells-end x
tells-told (t ∷ ts) x h = ap (λ y. told_back (told_line t) ∷ y) (tells-told ts x h.1) ∙ ap (λ y. y ∷ map as_printed ts) (told-back t h.0)

tells-replies : (rs : List Reply) (ws : List Words) → tells (map reply_line rs ++ ws) ≡ tells ws
tells-replies [] ws = refl
tells-replies (r ∷ rs) ws = tells-replies rs ws

tells-entry : (l : Line) (ws : List Words) → tells (entry_line l ∷ ws) ≡ tells ws
tells-entry l ws = at l.number l.commit l.session l.group
  where
    at : (n : ℕ) (c : Bool) (s g : ℕ) → tells (entry_line (record { number = n; commit = c; session = s; group = g; end = l.end; replies = l.replies }) ∷ ws) ≡ tells ws
    at n true s g = refl
    at n false s g = refl

tells-entries : (ls : List Line) (ws : List Words) → tells (entry_lines ls ++ ws) ≡ tells ws
tells-entries [] ws = refl
tells-entries (l ∷ ls) ws =
    tells-entry l ((map reply_line l.replies ++ entry_lines ls) ++ ws)
    ∙ ap tells (append_assoc (map reply_line l.replies) (entry_lines ls) ws)
    ∙ tells-replies l.replies (entry_lines ls ++ ws)
    ∙ tells-entries ls ws

final-behind : (us : List Words) (w : Words) → final (us ++ w ∷ []) ≡ last_of w
final-behind [] w = refl
final-behind (u ∷ []) w = refl
final-behind (u ∷ v ∷ us) w = final-behind (v ∷ us) w

-- ---- the whole

abbrev pub head : List Words → Words
head [] = []
head (w ∷ ws) = w

pub base-is : (b : ℕ) (ls : List Line) (ts : List Told) (x : Last) → IsSmall b ls ts x → value (word (head (report_lines b ls ts x)) 1) ≡ b
base-is b ls ts x h = value-decimal b h.base_small

pub lines-are : (b : ℕ) (ls : List Line) (ts : List Told) (x : Last) → IsSmall b ls ts x → (gather (report_lines b ls ts x)).lines ≡ ls
lines-are b ls ts x h = ap (λ (f : Found). f.lines) (gather-entries ls (map told_line ts ++ last_line x ∷ []) h.entries_fit (gather-told ts x))

pub answers-are : (b : ℕ) (ls : List Line) (ts : List Told) (x : Last) → IsSmall b ls ts x → tells (report_lines b ls ts x) ≡ map as_printed ts
answers-are b ls ts x h = tells-entries ls (map told_line ts ++ last_line x ∷ []) ∙ tells-told ts x h.answers_small

pub last-is : (b : ℕ) (ls : List Line) (ts : List Told) (x : Last) → IsSmall b ls ts x → final (report_lines b ls ts x) ≡ x
last-is b ls ts x h =
    ap (λ (ws : List Words). final (base_line b ∷ ws)) (sym (append_assoc (entry_lines ls) (map told_line ts) (last_line x ∷ [])))
    ∙ final-behind (base_line b ∷ (entry_lines ls ++ map told_line ts)) (last_line x)
    ∙ last-back x h.last_small
