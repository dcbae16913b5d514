-- Blocks that are filled, one after another.
use Rattle.std.proofs.Common.{◌≡◌, ◌<◌, ◌≤◌, ℕ, zero, suc, ◌+◌, ◌-◌, Bool, true, false, cond, eqb, List, [], ◌∷◌, ◌++◌, length, get_or, Option, Some, None, refl, sym, ◌∙◌, ap, arith, append_assoc, add-zero}
use Rattle.std.proofs.lemmas.Bool.{eqb-true}
use Rattle.mq_blocks.specs.Blocks.{filled}
use Rattle.mq_blocks.specs.Descriptor.{AreRising, journal_form, last_block}
use Rattle.mq_blocks.specs.Limits.{newest_version}
use Rattle.mq_blocks.specs.Geometry.{area_lba}
use Rattle.mq_blocks.specs.Machine.{Writes}
use Rattle.mq_blocks.specs.declared.geometry.Geometry.{Geometry}
use Rattle.mq_command_blocks.specs.Commits.{AreBelow, blocks_in, copies_from, items_from, items_of, descriptor_for}
use Rattle.mq_block_trace.specs.Lines.{set_in, with_write, writes_from, named}
use Rattle.mq_command_blocks.proofs.CommitsKeeps.{length-blocks_in}
use Rattle.mq_pmr.specs.Runs.{Items}
use Rattle.mq_block_trace.proofs.LinesFills.{Fill, length-writes, named_is, writes-along, writes_at}
use Rattle.mq_block_text.specs.declared.item.BlockItem.{BlockItem}
use Rattle.mq_block_text.specs.declared.item.BlockItem.TheVariants.{Set, Free}

-- ---- what a loop over the blocks has so far

pub blocks_none : (f : Fill) (b : ℕ) (so_far all : List ℕ) → b < 256 → f b ≡ None → all ≡ so_far ++ blocks_in (writes_from f b (named - b)) → all ≡ so_far ++ blocks_in (writes_from f (b + 1) (named - (b + 1)))
blocks_none f b so_far all less none is =
    is ∙ ap (λ (ws : Writes). so_far ++ blocks_in ws) (writes_at f named b (omega (arith, named_is)) ∙ ap (λ (o : Option ℕ). with_write b o (writes_from f (b + 1) (named - (b + 1)))) none)

pub blocks_some : (f : Fill) (b v : ℕ) (so_far all : List ℕ) → b < 256 → f b ≡ Some v → all ≡ so_far ++ blocks_in (writes_from f b (named - b))
    → all ≡ (so_far ++ b ∷ []) ++ blocks_in (writes_from f (b + 1) (named - (b + 1)))
blocks_some f b v so_far all less some is =
    is ∙ ap (λ (ws : Writes). so_far ++ blocks_in ws) (writes_at f named b (omega (arith, named_is)) ∙ ap (λ (o : Option ℕ). with_write b o (writes_from f (b + 1) (named - (b + 1)))) some)
    ∙ sym (append_assoc so_far (b ∷ []) (blocks_in (writes_from f (b + 1) (named - (b + 1)))))

pub copies_none : (g : Geometry) (f : Fill) (b place : ℕ) (so_far all : Items) → b < 256 → f b ≡ None → all ≡ so_far ++ copies_from g place (writes_from f b (named - b))
    → all ≡ so_far ++ copies_from g place (writes_from f (b + 1) (named - (b + 1)))
copies_none g f b place so_far all less none is =
    is ∙ ap (λ (ws : Writes). so_far ++ copies_from g place ws) (writes_at f named b (omega (arith, named_is)) ∙ ap (λ (o : Option ℕ). with_write b o (writes_from f (b + 1) (named - (b + 1)))) none)

pub copies_some : (g : Geometry) (f : Fill) (b v place : ℕ) (so_far all : Items) → b < 256 → f b ≡ Some v → all ≡ so_far ++ copies_from g place (writes_from f b (named - b))
    → all ≡ (so_far ++ (area_lba g 0 place, filled v) ∷ []) ++ copies_from g (place + 1) (writes_from f (b + 1) (named - (b + 1)))
copies_some g f b v place so_far all less some is =
    is ∙ ap (λ (ws : Writes). so_far ++ copies_from g place ws) (writes_at f named b (omega (arith, named_is)) ∙ ap (λ (o : Option ℕ). with_write b o (writes_from f (b + 1) (named - (b + 1)))) some)
    ∙ sym (append_assoc so_far ((area_lba g 0 place, filled v) ∷ []) (copies_from g (place + 1) (writes_from f (b + 1) (named - (b + 1)))))

pub length-copies : (g : Geometry) (place : ℕ) (ws : Writes) → length (copies_from g place ws) ≡ length ws
length-copies g place [] = refl
length-copies g place (w ∷ ws) = ap suc (length-copies g (place + 1) ws)

pub copies-then : (g : Geometry) (place : ℕ) (block : List ℕ) (ws : Writes) → copies_from g place ws ++ (area_lba g 0 (place + length ws), block) ∷ [] ≡ items_from g place block ws
copies-then g place block [] = ap (λ (n : ℕ). (area_lba g 0 n, block) ∷ []) (add-zero place)
copies-then g place block (w ∷ ws) =
    let more : place + suc (length ws) ≡ place + 1 + length ws = omega arith in
    ap (λ (l : Items). (area_lba g 0 place, w.1) ∷ l)
    (ap (λ (n : ℕ). copies_from g (place + 1) ws ++ (area_lba g 0 n, block) ∷ []) more ∙ copies-then g (place + 1) block ws)

-- ---- bounds

-- blocks that are filled are below this one
abbrev pub FillsBelow : ℕ → Fill → Type 0
FillsBelow homes f = (b v : ℕ) → f b ≡ Some v → b < homes

rising_step : (homes low b : ℕ) (o : Option ℕ) (ws : Writes) → low ≤ b → ((v : ℕ) → o ≡ Some v → b < homes) → ((m : ℕ) → m ≤ b + 1 → AreRising m homes (blocks_in ws)) → AreRising low homes (blocks_in (with_write b o ws))
rising_step homes low b None ws below small rest = rest low (omega arith)
rising_step homes low b (Some v) ws below small rest = (below, small v refl, rest (b + 1) (omega arith))

pub rising_writes : (homes : ℕ) (f : Fill) (b n low : ℕ) → FillsBelow homes f → low ≤ b → AreRising low homes (blocks_in (writes_from f b n))
rising_writes homes f b zero low small below = tt
rising_writes homes f b (suc n) low small below = rising_step homes low b (f b) (writes_from f (b + 1) n) below (small b) (λ m at. rising_writes homes f (b + 1) n m small at)

set_case : (homes b v c w : ℕ) (rest : Option ℕ) (t : Bool) → eqb c b ≡ t → c < homes → (rest ≡ Some v → b < homes) → cond t (Some w) rest ≡ Some v → b < homes
set_case homes b v c w rest true same small later found = let e : c ≡ b = eqb-true c b same in omega arith
set_case homes b v c w rest false other small later found = later found

pub below_set : (homes : ℕ) (is : List BlockItem) → AreBelow homes is → FillsBelow homes (set_in is)
below_set homes [] below b v found = cc
below_set homes (Set c w ∷ is) below b v found = set_case homes b v c w (set_in is b) (eqb c b) refl below.0 (λ rest. below_set homes is below.1 b v rest) found
below_set homes (Free c ∷ is) below b v found = below_set homes is below.1 b v found

pub length-blocks_few : (f : Fill) → length (blocks_in (writes_from f 0 named)) ≤ 256
length-blocks_few f = omega (arith, length-blocks_in (writes_from f 0 named), length-writes f 0 named, named_is)

-- the copies and the descriptor of what the fills say
pub items_made : (g : Geometry) (fills : List (Option ℕ)) (f : Fill) (number next last : ℕ) (logged : List ℕ) (copied items : Items)
    → logged ≡ blocks_in (writes_from (λ b. get_or fills b None) 0 named) → copied ≡ copies_from g next (writes_from (λ b. get_or fills b None) 0 named)
    → ((b : ℕ) → b < 256 → get_or fills b None ≡ f b)
    → items ≡ copied ++ (area_lba g 0 (next + length logged), last_block journal_form newest_version record { queue = 0; number = number; place = next + length logged; prev_place = last; prev_number = number - 1; logged = logged; revoked = [] }) ∷ []
    → items ≡ items_of g number next last (writes_from f 0 named)
items_made g fills f number next last logged copied items is_logged is_copied same is =
    let ws : Writes = writes_from f 0 named in
    let along : writes_from (λ b. get_or fills b None) 0 named ≡ ws = writes-along (λ b. get_or fills b None) f 0 named (λ k low high. same k (omega (arith, named_is))) in
    let blocks : logged ≡ blocks_in ws = is_logged ∙ ap blocks_in along in
    let copies : copied ≡ copies_from g next ws = is_copied ∙ ap (copies_from g next) along in
    let count : length logged ≡ length ws = ap length blocks ∙ length-blocks_in ws in
    is
    ∙ (λ i. copies i ++ (area_lba g 0 (next + count i), last_block journal_form newest_version record { queue = 0; number = number; place = next + count i; prev_place = last; prev_number = number - 1; logged = blocks i; revoked = [] }) ∷ [])
    ∙ copies-then g next (last_block journal_form newest_version (descriptor_for number next last ws)) ws
