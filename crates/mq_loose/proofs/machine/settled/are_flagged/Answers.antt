use Rattle.std.proofs.Common.{◌≡◌, ℕ, ◌+◌, ◌<◌, ◌≤◌, true, List, length, get_or, sym, subst, ◌∙◌, arith}
use Rattle.std.proofs.lemmas.List.{get_or_read}
use Rattle.mq_blocks.specs.Journal.{is_among}
use Rattle.mq_blocks.proofs.JournalAmong.{at-among}
use Rattle.mq_loose.proofs.machine.settled.are_flagged.Goals as goal

in_range : (base count : ℕ) (ns : List ℕ) (k n item : ℕ) → ((m : ℕ) → is_among m ns ≡ true → (base < m) × (m ≤ base + count)) → k < length ns → n ≡ item → item ≡ get_or ns k item → (base < n) × (n ≤ base + count)
in_range base count ns k n item each inside is read =
    let at : n ≡ get_or ns k 0 = is ∙ get_or_read ns k item inside read 0 in
    each n (subst (λ m. is_among m ns ≡ true) (sym at) (at-among ns k inside))

pub overflow_sub-at : goal.overflow_sub-at
overflow_sub-at c =
    let inside : c.loop-number.number-index < length c.args.numbers.now = omega arith in
    let r = in_range c.args.base (length c.args.flags.now) c.args.numbers.now c.loop-number.number-index c.number.inside.0 c.number-item.result c.requires inside c.number.view_is c.number-item.is in
    omega (arith, r.0)

pub overflow_sub-at-in-loop-number : goal.overflow_sub-at-in-loop-number
overflow_sub-at-in-loop-number c =
    let inside : c.loop-number.number-index < length c.args.numbers.now = omega arith in
    let r = in_range c.args.base (length c.args.flags.now) c.args.numbers.now c.loop-number.number-index c.number.inside.0 c.number-item.result c.requires inside c.number.view_is c.number-item.is in
    omega (arith, r.0)

pub bounds-flags-at : goal.bounds-flags-at
bounds-flags-at c =
    let inside : c.loop-number.number-index < length c.args.numbers.now = omega arith in
    let r = in_range c.args.base (length c.args.flags.now) c.args.numbers.now c.loop-number.number-index c.number.inside.0 c.number-item.result c.requires inside c.number.view_is c.number-item.is in
    omega (arith, r.0, r.1)
