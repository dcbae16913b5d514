use Rattle.std.proofs.Common.{◌≡◌, ◌<◌, ◌++◌, ◌∷◌, [], Result, Ok, Err, OnOk, sym, ap, subst, ◌∙◌, reverse}
use Rattle.std.proofs.lemmas.Result.{on_err_weaker}
use Rattle.mq_blocks.specs.Geometry.{zone_of, homes_of}
use Rattle.mq_core.specs.Events.{begin_home, content_at}
use Rattle.mq_core.specs.Homes.{IsIn, ports_after, root_after}
use Rattle.mq_core.specs.Parts.{home_begun, parts, state_with, under}
use Rattle.mq_core.proofs.EventsTellings.{reverse_push}
use Rattle.mq_core.proofs.machine.homes.write_home.Goals as goal

pub begin_write-requires-clause-block : goal.begin_write-requires-clause-block
begin_write-requires-clause-block c = subst (λ g. c.args.block < homes_of g) (sym c.geometry.ensures) c.requires.block

pub begin_write-requires-clause-there : goal.begin_write-requires-clause-there
begin_write-requires-clause-there c = subst (λ g. IsIn g c.args.block c.args.ports.now.items c.args.root.now) (sym c.geometry.ensures) c.requires.port

-- three answers as one
all_ok : {E P Q R S : Type 0} (r : Result (Unit {0}) E) → (P → Q → R → S) → OnOk r P → OnOk r Q → OnOk r R → OnOk r S
all_ok (Ok u) f p q w = f p q w
all_ok (Err e) f p q w = tt

pub returns-clause-begun : goal.returns-clause-begun
returns-clause-begun c =
    let l = c.args.ledger.now in
    let x = c.args.block in
    let e = c.begin_write.ensures in
    let Begun = begin_home c.geometry.result x c.in_ok-content.content in
    let zone = zone_of c.geometry.result x in
    let ports_are : ports_after Begun zone c.args.ports.now.items ≡ ports_after (begin_home l.geometry x (content_at (parts l c.args.ports.now.items c.args.root.now) x)) (zone_of l.geometry x) c.args.ports.now.items = (λ i. ports_after (begin_home (c.geometry.ensures i) x (c.in_ok-content.ensures i)) (zone_of (c.geometry.ensures i) x) c.args.ports.now.items) in
    let root_is : root_after Begun zone c.args.root.now ≡ root_after (begin_home l.geometry x (content_at (parts l c.args.ports.now.items c.args.root.now) x)) (zone_of l.geometry x) c.args.root.now = (λ i. root_after (begin_home (c.geometry.ensures i) x (c.in_ok-content.ensures i)) (zone_of (c.geometry.ensures i) x) c.args.root.now) in
    let join : c.begin_write.new.ports.items ≡ ports_after Begun zone c.args.ports.now.items → c.begin_write.new.root ≡ root_after Begun zone c.args.root.now → c.begin_write.new.writing.items ≡ c.args.writing.now.items ++ x ∷ []
    → under l c.begin_write.new.ports.items c.begin_write.new.root c.begin_write.new.writing.items ≡ home_begun l c.args.ports.now.items c.args.root.now c.args.writing.now.items x = λ p r w.
    let ports = p ∙ ports_are in
    let root = r ∙ root_is in
    let writing = ap reverse w ∙ reverse_push c.args.writing.now.items x in
    λ i. state_with l (ports i) (root i) [] (writing i) [] in
    all_ok c.begin_write.result join e.ports e.root e.writing

pub returns-clause-refused : goal.returns-clause-refused
returns-clause-refused c =
    let l = c.args.ledger.now in
    let same : (c.begin_write.new.ports.items ≡ c.args.ports.now.items) × (c.begin_write.new.root ≡ c.args.root.now) × (c.begin_write.new.writing.items ≡ c.args.writing.now.items) → under l c.begin_write.new.ports.items c.begin_write.new.root c.begin_write.new.writing.items ≡ under l c.args.ports.now.items c.args.root.now c.args.writing.now.items = λ e i. under l (e.0 i) (e.1 i) (e.2 i) in
    on_err_weaker c.begin_write.result same c.begin_write.ensures.refused
