use Rattle.std.proofs.Common.{◌≡◌, ◌+◌, ◌-◌, ◌*◌, ◌≤◌, ℕ, length, drop, replicate, sym, subst, ap, ◌∙◌, arith, rules}
use Rattle.std.proofs.lemmas.List.{length-take-le, length-drop, length-replicate}
use Rattle.mq_blocks.specs.Descriptor.{Descriptor, header_bytes, list_bytes}
use Rattle.mq_blocks.specs.Windows.{written}
use Rattle.mq_blocks.proofs.WindowsWritten.{put_mid-written}
use Rattle.mq_loose_order.specs.Form.{listing, loose_bytes, loose_magic}
use Rattle.mq_loose_order.proofs.NumbersWritten.{loose-written}
use Rattle.mq_loose_order.proofs.write.write_bytes.Goals as goal
use borrow.Rule.Slice.PartMut.{put_mid}

pub returns : goal.returns
returns c =
    let i = c.d.inside in
    let deps = c.args.deps.now in
    let l : c.len.result ≡ length i.logged.items = search rules in
    let d : Descriptor = record { queue = i.queue; number = i.number; place = i.place; prev_place = i.prev_place; prev_number = i.prev_number; logged = i.logged.items; revoked = i.revoked.items } in
    let second = 56 + 4 * c.len.result in
    let q = 56 + 4 * c.len.result + 8 * length deps in
    let n = length c.put_numbers.new.block - q in
    let F : Descriptor → Type 0 = λ x. length x.logged ≤ 256 in
    let few : length d.logged ≤ 256 = subst F (sym c.d.view_is) c.requires.logged in
    let whole : length c.put_numbers.new.block ≡ 4096 = omega arith in
    let count : length (drop q c.put_numbers.new.block) ≡ n = length-drop q c.put_numbers.new.block in
    let fill : c.fill.new.self ≡ replicate n 0 = c.fill.ensures.after (λ y e. e) ∙ ap (λ (k : ℕ). replicate k 0) (length-take-le n (drop q c.put_numbers.new.block) (omega arith)) in
    let first : c.put_list.new.block ≡ written c.put_header.new.block 56 (list_bytes i.logged.items) = rw c.deref.ensures.value at c.put_list.ensures in
    let P : Descriptor → Type 0 = λ x. put_mid q n c.put_numbers.new.block c.fill.new.self ≡ loose_bytes x deps in
    let Q : Descriptor → Type 0 = λ x. c.put_header.new.block ≡ written c.args.block.now 0 (header_bytes loose_magic 1 (listing deps x)) in
    subst P c.d.view_is (loose-written _ _ _ _ _ d deps second q n c.requires.whole few c.requires.deps (omega arith) (omega arith) (omega arith) (subst Q (sym c.d.view_is) c.put_header.ensures) first c.put_numbers.ensures
    (put_mid-written _ q n _ _ fill (omega (arith, length-replicate {A = ℕ} n 0))))
