use Rattle.std.proofs.Common.{ap, length, rules, sym, List, ◌∙◌, ◌≡◌}
use Rattle.std.specs.Prelude.{Option}
use Rattle.mq_layout.specs.Slots.{Entry}
use Rattle.mq_tree.specs.ListText.{entries_in}
use Rattle.mq_tree.proofs.ListText.{names-counted}
use Rattle.mq_tree.proofs.directory.Directory.len.Goals as goal

pub returns : goal.returns
returns c =
    let n : c.len.result ≡ length c.self.inside.links.entries = search rules in
    n ∙ sym (names-counted c.self.inside.links.entries) ∙ ap (λ (slots : List (Option Entry)). length (entries_in slots)) c.self.view_is
