use Rattle.std.proofs.Common.{◌≡◌, ◌+◌, ◌-◌, ◌*◌, ◌<◌, ◌≤◌, ℕ, List, length, take, drop, replicate, sym, subst, ap, ◌∙◌, arith, rules}
use Rattle.std.proofs.lemmas.List.{length-take-le, length-drop, length-replicate, take_all}
use Rattle.mq_blocks.specs.Descriptor.{Descriptor, form_with, further_block, list_bytes}
use Rattle.mq_blocks.specs.Windows.{written}
use Rattle.mq_area.proofs.DescriptorWritten.{IsCut, cut-of, last-written, further-written}
use Rattle.mq_blocks.proofs.WindowsWritten.{put_mid-written}
use Rattle.mq_area.proofs.write.write_further.Goals as goal
use borrow.Rule.Slice.PartMut.{put_mid}

pub returns : goal.returns
returns c magic version =
    let i = c.d.inside in
    let l : c.len.result ≡ length i.logged.items = search rules in
    let r : c.len-2.result ≡ length i.revoked.items = search rules in
    let d : Descriptor = record { queue = i.queue; number = i.number; place = i.place; prev_place = i.prev_place; prev_number = i.prev_number; logged = i.logged.items; revoked = i.revoked.items } in
    let a = c.fitting-logged.result in
    let b = c.fitting-revoked.result in
    let x = c.fitting-logged.ensures in
    let y = c.fitting-revoked.ensures in
    let xf = x.few in
    let xr = x.fits in
    let yf = y.few in
    let yr = y.fits in
    let cut : IsCut (length d.logged) (length d.revoked) a b = cut-of (length d.logged) (length d.revoked) a b (omega arith) (omega arith) (λ h. x.most h ∙ l) (omega arith) (omega arith) (λ h. y.most h ∙ r) in
    let l3 : c.len-3.result ≡ length i.logged.items = search rules in
    let r4 : c.len-4.result ≡ length i.revoked.items = search rules in
    let q = 4 * (c.len-3.result - a) + 4 * (c.len-4.result - b) in
    let n = length c.put_list-2.new.block - q in
    let R : Descriptor → Type 0 = λ x. length x.logged + length x.revoked ≤ 2034 in
    let few : length d.logged + length d.revoked ≤ 2034 = subst R (sym c.d.view_is) c.requires.counts in
    let M : Descriptor → Type 0 = λ x. 1010 < length x.logged + length x.revoked in
    let many : 1010 < length d.logged + length d.revoked = subst M (sym c.d.view_is) c.requires.many in
    let whole : length c.put_list-2.new.block ≡ 4096 = omega arith in
    let full = cut.full many in
    let count : length (drop q c.put_list-2.new.block) ≡ n = length-drop q c.put_list-2.new.block in
    let fill : c.fill.new.self ≡ replicate n 0 = c.fill.ensures.after (λ y e. e) ∙ ap (λ (k : ℕ). replicate k 0) (length-take-le n (drop q c.put_list-2.new.block) (omega arith)) in
    let one : c.put_list.new.block ≡ written c.args.block.now 0 (list_bytes (take (length i.logged.items - a) (drop a i.logged.items))) = rw c.as_slice.ensures.value at c.put_list.ensures in
    let two : c.put_list-2.new.block ≡ written c.put_list.new.block (4 * (c.len-3.result - a)) (list_bytes (take (length i.revoked.items - b) (drop b i.revoked.items))) = rw c.as_slice-2.ensures.value at c.put_list-2.ensures in
    let first : c.put_list.new.block ≡ written c.args.block.now 0 (list_bytes (drop a i.logged.items)) =
    one ∙ ap (λ (xs : List ℕ). written c.args.block.now 0 (list_bytes xs)) (take_all (length i.logged.items - a) (drop a i.logged.items) (omega (arith, length-drop a i.logged.items))) in
    let second : c.put_list-2.new.block ≡ written c.put_list.new.block (4 * (c.len-3.result - a)) (list_bytes (drop b i.revoked.items)) =
    two ∙ ap (λ (xs : List ℕ). written c.put_list.new.block (4 * (c.len-3.result - a)) (list_bytes xs)) (take_all (length i.revoked.items - b) (drop b i.revoked.items) (omega (arith, length-drop b i.revoked.items))) in
    let P : Descriptor → Type 0 = λ x. put_mid q n c.put_list-2.new.block c.fill.new.self ≡ further_block (form_with magic version) version x in
    subst P c.d.view_is (further-written magic version _ _ _ _ d a b _ q n c.requires.whole few many cut (omega arith) (omega arith) (omega arith) first second
    (put_mid-written _ q n _ _ fill (omega (arith, length-replicate {A = ℕ} n 0))))
