use Rattle.std.proofs.Common.{◌≡◌, ◌∙◌, ◌+◌, ◌++◌, List, ℕ, ap, length, arith}
use Rattle.std.specs.Prelude.{Option}
use Rattle.mq_blocks.specs.Drive.{PortImage}
use Rattle.mq_image.specs.File.{header_bytes, namespace, record_count, records, written_version}
use Rattle.mq_image.proofs.File.{file-put, namespace-count, namespace-length}
use Rattle.mq_image.proofs.write.write_ports.Goals as goal

pub count_ports-requires : goal.count_ports-requires
count_ports-requires c =
    let n = namespace-length c.args.geometry c.args.queues.now c.args.root.now in
    let s = c.requires.size in
    omega arith

pub overflow_add-count : goal.overflow_add-count
overflow_add-count c =
    let n = namespace-length c.args.geometry c.args.queues.now c.args.root.now in
    let s = c.requires.size in
    let a = c.count_ports.ensures.most in
    let b = c.count_port.ensures.most in
    omega arith

pub returns : goal.returns
returns c =
    let g = c.args.geometry in
    let root = c.args.root.now in
    let n = namespace-count g c.args.queues.now root in
    let a = c.count_ports.ensures.is in
    let b = c.count_port.ensures.is in
    let count : c.count_ports.result + c.count_port.result ≡ record_count (namespace g c.args.queues.now root) = omega arith in
    let blocks : c.deref.result.now ≡ root.blocks = c.deref.ensures.value ∙ ap (λ (p : PortImage). p.blocks) c.root.view_is in
    file-put g c.args.queues.now root _ _ _ _ _ _ _ _ _ _ (c.reserve_exact.ensures.items ∙ c.clear.ensures.items) count c.in_ok-meta.ensures.end (c.in_ok-zones.ensures.end ∙ ap (λ (bs : List (Option (List ℕ))). c.in_ok-meta.meta + length bs) blocks)
    (c.in_ok-put_header.ensures ∙ ap (λ (p : PortImage). c.reserve_exact.new.self.items ++ header_bytes written_version g p.base) c.root.view_is) c.in_ok-put_rings.ensures c.in_ok-put_u32.ensures c.in_ok-meta.ensures.bytes
    (c.in_ok-zones.ensures.bytes ∙ ap (λ (bs : List (Option (List ℕ))). c.put_areas.new.file.items ++ records c.in_ok-meta.meta bs) blocks) c.in_ok-put_zones.ensures
