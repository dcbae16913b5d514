use Rattle.std.proofs.Common.{ap, subst, sym, ◌∙◌}
use Rattle.mq_exec.proofs.ReadsStepping.{lack-of, lack-on}
use Rattle.mq_tree.specs.Kept.{HasBytes}
use Rattle.mq_tree.specs.declared.request.Request.{Request}
use Rattle.mq_tree.specs.declared.request.Request.TheVariants.{Mkdir, Create, Write, Truncate, Unlink, Rmdir, Rename, Link}
use Rattle.mq_exec.proofs.change.change.Goals as goal

pub returns-in-Mkdir-clause-lack : goal.returns-in-Mkdir-clause-lack
returns-in-Mkdir-clause-lack c = lack-of c.args.working.now c.args.queue c.args.request.now (Mkdir c.in-Mkdir.path) c.make.result c.in-Mkdir.is c.make.ensures.lack

pub returns-in-Create-clause-lack : goal.returns-in-Create-clause-lack
returns-in-Create-clause-lack c = lack-of c.args.working.now c.args.queue c.args.request.now (Create c.in-Create.path) c.make-in-Create.result c.in-Create.is c.make-in-Create.ensures.lack

pub returns-in-Write-clause-lack : goal.returns-in-Write-clause-lack
returns-in-Write-clause-lack c =
    lack-of c.args.working.now c.args.queue c.args.request.now (Write c.in-Write.path c.in-Write.at c.deref.result.now) c.write.result (c.in-Write.is ∙ ap (λ bytes. Write c.in-Write.path c.in-Write.at bytes) (sym (c.deref.ensures.value ∙ c.bytes.view_is)))
    c.write.ensures.lack

pub returns-in-Truncate-clause-lack : goal.returns-in-Truncate-clause-lack
returns-in-Truncate-clause-lack c = lack-of c.args.working.now c.args.queue c.args.request.now (Truncate c.in-Truncate.path c.in-Truncate.size) c.truncate.result c.in-Truncate.is c.truncate.ensures.lack

pub returns-in-Unlink-clause-lack : goal.returns-in-Unlink-clause-lack
returns-in-Unlink-clause-lack c = lack-on c.args.working.now c.args.queue c.args.request.now (Unlink c.in-Unlink.path) c.unlink.result c.in-Unlink.is c.unlink.ensures.lack

pub returns-in-Rmdir-clause-lack : goal.returns-in-Rmdir-clause-lack
returns-in-Rmdir-clause-lack c = lack-on c.args.working.now c.args.queue c.args.request.now (Rmdir c.in-Rmdir.path) c.rmdir.result c.in-Rmdir.is c.rmdir.ensures.lack

pub returns-in-Rename-clause-lack : goal.returns-in-Rename-clause-lack
returns-in-Rename-clause-lack c = lack-of c.args.working.now c.args.queue c.args.request.now (Rename c.in-Rename.from c.in-Rename.to) c.rename.result c.in-Rename.is c.rename.ensures.lack

pub returns-in-Link-clause-lack : goal.returns-in-Link-clause-lack
returns-in-Link-clause-lack c = lack-of c.args.working.now c.args.queue c.args.request.now (Link c.in-Link.from c.in-Link.to) c.link.result c.in-Link.is c.link.ensures.lack

pub returns-in-Mkdir-clause-bytes : goal.returns-in-Mkdir-clause-bytes
returns-in-Mkdir-clause-bytes c = subst (λ (r : Request). HasBytes r) (sym c.in-Mkdir.is) tt

pub returns-in-Create-clause-bytes : goal.returns-in-Create-clause-bytes
returns-in-Create-clause-bytes c = subst (λ (r : Request). HasBytes r) (sym c.in-Create.is) tt

pub returns-in-Truncate-clause-bytes : goal.returns-in-Truncate-clause-bytes
returns-in-Truncate-clause-bytes c = subst (λ (r : Request). HasBytes r) (sym c.in-Truncate.is) tt

pub returns-in-Unlink-clause-bytes : goal.returns-in-Unlink-clause-bytes
returns-in-Unlink-clause-bytes c = subst (λ (r : Request). HasBytes r) (sym c.in-Unlink.is) tt

pub returns-in-Rmdir-clause-bytes : goal.returns-in-Rmdir-clause-bytes
returns-in-Rmdir-clause-bytes c = subst (λ (r : Request). HasBytes r) (sym c.in-Rmdir.is) tt

pub returns-in-Rename-clause-bytes : goal.returns-in-Rename-clause-bytes
returns-in-Rename-clause-bytes c = subst (λ (r : Request). HasBytes r) (sym c.in-Rename.is) tt

pub returns-in-Link-clause-bytes : goal.returns-in-Link-clause-bytes
returns-in-Link-clause-bytes c = subst (λ (r : Request). HasBytes r) (sym c.in-Link.is) tt

pub returns-in-Write-clause-bytes : goal.returns-in-Write-clause-bytes
returns-in-Write-clause-bytes c = subst (λ (r : Request). HasBytes r) (sym (c.in-Write.is ∙ ap (λ bytes. Write c.in-Write.path c.in-Write.at bytes) (sym (c.deref.ensures.value ∙ c.bytes.view_is)))) c.write.ensures.bytes
