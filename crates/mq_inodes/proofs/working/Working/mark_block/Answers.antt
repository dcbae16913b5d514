use Rattle.std.proofs.Common.{◌≡◌, ◌≢◌, ℕ, ◌-◌, ◌/◌, ◌%◌, List, Bool, Some, sym, ap, subst, arith, ◌∙◌, if◌then◌else◌}
use Rattle.std.proofs.lemmas.Result.{on_ok_weaker}
use Rattle.mq_blocks.specs.Geometry.{meta_of, zone_size}
use Rattle.mq_blocks.specs.declared.geometry.Geometry.{Geometry}
use Rattle.mq_inodes.specs.Changes.{IsBlockMarked, IsPut, bit_in, zone_in}
use Rattle.mq_inodes.specs.Edits.{IsKindPut}
use Rattle.mq_inodes.specs.Pages.{Pages, pages_of}
use Rattle.mq_layout.specs.Bits.{bit_of}
use Rattle.mq_layout.specs.Places.{zone_bitmap}
use Rattle.mq_pages.specs.declared.page.Kind.TheVariants.{Meta}
use Rattle.mq_tree.specs.Laid.{IsPage}
use Rattle.mq_tree.proofs.LaidMaps.{zone-low}
use Rattle.mq_inodes.proofs.working.Working.mark_block.Goals as goal

-- the zone of a block and its bit there, as they are computed
placed : (g : Geometry) (b inside meta zone : ℕ) → inside ≡ b → meta ≡ meta_of g → zone ≡ zone_size g → ((inside - meta) / zone ≡ zone_in g b) × ((inside - meta) % zone ≡ bit_in g b)
placed g b inside meta zone e f h = (cc, cc)

marked : (g : Geometry) (old mid new : Pages) (b z : ℕ) (value : Bool) (before after : List ℕ) → z ≡ zone_bitmap (zone_in g b) → old z ≡ Some (Some before) → ((x : ℕ) → x ≢ z → mid x ≡ old x) → IsPage after
    → bit_of after (bit_in g b) ≡ (if value then 1 else 0) → ((k : ℕ) → k ≢ bit_in g b → bit_of after k ≡ bit_of before k) → IsPut mid new z (Some after) → IsBlockMarked g old new b value
marked g old mid new b z value before after e was same form bit rest put = record {
  before = before;
  after = after;
  was = ap old (sym e) ∙ was;
  put = subst (λ x. IsPut old new x (Some after)) e (record { here = put.here; others = λ x other. put.others x other ∙ same x other });
  form = form;
  bit = bit;
  rest = rest;
}

pub returns-clause-kinds : goal.returns-clause-kinds
returns-clause-kinds c = on_ok_weaker c.put.result (λ (k : IsKindPut c.lift.new.self c.put.new.self c.zone_bitmap-bitmap.result (Some Meta)) b high.
    let g = c.args.self.now.geometry in
    let low = zone-low g c.args.b c.requires.high c.requires.home in
    let p = placed g c.args.b c.b.inside.0 c.meta.result c.zone-zone.result c.b.view_is c.meta.ensures c.zone-zone.ensures in
    let is = c.zone_bitmap-bitmap.ensures in
    let m = g.meta_low in
    let other : b ≢ c.zone_bitmap-bitmap.result = λ same. omega arith in
    k.others b other ∙ c.in_ok-marks.ensures.rest.kinds b other) c.put.ensures.kind

pub returns-clause-marked : goal.returns-clause-marked
returns-clause-marked c =
    let g = c.args.self.now.geometry in
    let p = placed g c.args.b c.b.inside.0 c.meta.result c.zone-zone.result c.b.view_is c.meta.ensures c.zone-zone.ensures in
    let after = c.set_bit.new.into in
    on_ok_weaker c.put.result (marked g (pages_of c.args.self.now) (pages_of c.lift.new.self) (pages_of c.put.new.self) c.args.b c.zone_bitmap-bitmap.result c.args.value c.in_ok-marks.marks after (c.zone_bitmap-bitmap.ensures ∙ ap zone_bitmap p.0) c.in_ok-marks.ensures.content c.in_ok-marks.ensures.rest.pages (record { whole = c.set_bit.ensures.whole; bytes = c.set_bit.ensures.bytes })
    (ap (bit_of after) (sym p.1) ∙ c.set_bit.ensures.set) (λ k other. c.set_bit.ensures.others k (λ e. other (e ∙ p.1)))) c.put.ensures.page
