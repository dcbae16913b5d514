use Rattle.std.proofs.lemmas.Result.{err_from_is_err_and}
use Rattle.mq_tree.specs.Clean.{AreApart, AreDirs, AreEnded, AreLinked, AreMarked, AreNamed, AreNamedOnce, AreOnce, ArePointers, AreReached, IsTable}
use Rattle.mq_tree.specs.Decoded.{volume_in}
use Rattle.mq_tree.proofs.FirstFindings.{clean-1, clean-2, clean-3, clean-4, clean-5, clean-6, passed, refused}
use Rattle.mq_tree.proofs.phases.read_volume.Goals as goal

pub returns-in_err-inodes-clause-cause : goal.returns-in_err-inodes-clause-cause
returns-in_err-inodes-clause-cause c =
    let p = err_from_is_err_and c.from_residual.result c.from_residual.ensures.1 in
    rw (p.1, p.2) (refused c.args.geometry c.args.blocks.now c.read_table.result c.in_phase.result c.in_err-inodes.field-0.0 1 c.in_phase.ensures c.in_err-inodes.was (clean-1 c.args.geometry c.args.blocks.now) c.read_table.ensures.cause)

pub check_blocks-requires-clause-table : goal.check_blocks-requires-clause-table
check_blocks-requires-clause-table c = passed c.read_table.result c.in_phase.result c.in_ok-inodes.inodes 1 (IsTable c.args.geometry c.args.blocks.now) c.in_phase.ensures c.in_ok-inodes.was c.read_table.ensures.clean

pub returns-in_err-in_phase-clause-cause : goal.returns-in_err-in_phase-clause-cause
returns-in_err-in_phase-clause-cause c =
    let table = passed c.read_table.result c.in_phase.result c.in_ok-inodes.inodes 1 (IsTable c.args.geometry c.args.blocks.now) c.in_phase.ensures c.in_ok-inodes.was c.read_table.ensures.clean in
    let p = err_from_is_err_and c.from_residual-in_err-in_phase.result c.from_residual-in_err-in_phase.ensures.1 in
    rw (p.1, p.2) (refused c.args.geometry c.args.blocks.now c.check_blocks.result c.in_phase-2.result c.in_err-in_phase.field-0.0 2 c.in_phase-2.ensures c.in_err-in_phase.was (clean-2 c.args.geometry c.args.blocks.now table) c.check_blocks.ensures.cause)

pub claim_blocks-requires-clause-table : goal.claim_blocks-requires-clause-table
claim_blocks-requires-clause-table c = passed c.read_table.result c.in_phase.result c.in_ok-inodes.inodes 1 (IsTable c.args.geometry c.args.blocks.now) c.in_phase.ensures c.in_ok-inodes.was c.read_table.ensures.clean

pub claim_blocks-requires-clause-pointers : goal.claim_blocks-requires-clause-pointers
claim_blocks-requires-clause-pointers c = passed c.check_blocks.result c.in_phase-2.result c.in_ok-in_phase.field-0 2 (ArePointers c.args.geometry c.args.blocks.now) c.in_phase-2.ensures c.in_ok-in_phase.was c.check_blocks.ensures.pointers

pub read_names-named-requires-clause-table : goal.read_names-named-requires-clause-table
read_names-named-requires-clause-table c = passed c.read_table.result c.in_phase.result c.in_ok-inodes.inodes 1 (IsTable c.args.geometry c.args.blocks.now) c.in_phase.ensures c.in_ok-inodes.was c.read_table.ensures.clean

pub read_names-named-requires-clause-pointers : goal.read_names-named-requires-clause-pointers
read_names-named-requires-clause-pointers c = passed c.check_blocks.result c.in_phase-2.result c.in_ok-in_phase.field-0 2 (ArePointers c.args.geometry c.args.blocks.now) c.in_phase-2.ensures c.in_ok-in_phase.was c.check_blocks.ensures.pointers

pub read_names-named-requires-clause-dirs : goal.read_names-named-requires-clause-dirs
read_names-named-requires-clause-dirs c = passed c.check_blocks.result c.in_phase-2.result c.in_ok-in_phase.field-0 2 (AreDirs c.args.geometry c.args.blocks.now) c.in_phase-2.ensures c.in_ok-in_phase.was c.check_blocks.ensures.dirs

pub returns-in_err-contents-clause-cause : goal.returns-in_err-contents-clause-cause
returns-in_err-contents-clause-cause c =
    let table = passed c.read_table.result c.in_phase.result c.in_ok-inodes.inodes 1 (IsTable c.args.geometry c.args.blocks.now) c.in_phase.ensures c.in_ok-inodes.was c.read_table.ensures.clean in
    let pointers = passed c.check_blocks.result c.in_phase-2.result c.in_ok-in_phase.field-0 2 (ArePointers c.args.geometry c.args.blocks.now) c.in_phase-2.ensures c.in_ok-in_phase.was c.check_blocks.ensures.pointers in
    let dirs = passed c.check_blocks.result c.in_phase-2.result c.in_ok-in_phase.field-0 2 (AreDirs c.args.geometry c.args.blocks.now) c.in_phase-2.ensures c.in_ok-in_phase.was c.check_blocks.ensures.dirs in
    let p = err_from_is_err_and c.from_residual-in_err-contents.result c.from_residual-in_err-contents.ensures.1 in
    rw (p.1, p.2) (refused c.args.geometry c.args.blocks.now c.read_names-named.result c.in_phase-3.result c.in_err-contents.field-0.0 3 c.in_phase-3.ensures c.in_err-contents.was (clean-3 c.args.geometry c.args.blocks.now table pointers dirs) c.read_names-named.ensures.cause)

pub check_uses-counted-requires-clause-table : goal.check_uses-counted-requires-clause-table
check_uses-counted-requires-clause-table c =
    let table = passed c.read_table.result c.in_phase.result c.in_ok-inodes.inodes 1 (IsTable c.args.geometry c.args.blocks.now) c.in_phase.ensures c.in_ok-inodes.was c.read_table.ensures.clean in
    table

pub check_uses-counted-requires-clause-pointers : goal.check_uses-counted-requires-clause-pointers
check_uses-counted-requires-clause-pointers c = passed c.check_blocks.result c.in_phase-2.result c.in_ok-in_phase.field-0 2 (ArePointers c.args.geometry c.args.blocks.now) c.in_phase-2.ensures c.in_ok-in_phase.was c.check_blocks.ensures.pointers

pub check_uses-counted-requires-clause-dirs : goal.check_uses-counted-requires-clause-dirs
check_uses-counted-requires-clause-dirs c = passed c.check_blocks.result c.in_phase-2.result c.in_ok-in_phase.field-0 2 (AreDirs c.args.geometry c.args.blocks.now) c.in_phase-2.ensures c.in_ok-in_phase.was c.check_blocks.ensures.dirs

pub check_uses-counted-requires-clause-named : goal.check_uses-counted-requires-clause-named
check_uses-counted-requires-clause-named c =
    let named = passed c.read_names-named.result c.in_phase-3.result c.in_ok-contents.contents 3 (AreNamed (volume_in c.args.geometry c.args.blocks.now)) c.in_phase-3.ensures c.in_ok-contents.was c.read_names-named.ensures.named in
    named

pub returns-in_err-in_phase-2-clause-cause : goal.returns-in_err-in_phase-2-clause-cause
returns-in_err-in_phase-2-clause-cause c =
    let table = passed c.read_table.result c.in_phase.result c.in_ok-inodes.inodes 1 (IsTable c.args.geometry c.args.blocks.now) c.in_phase.ensures c.in_ok-inodes.was c.read_table.ensures.clean in
    let pointers = passed c.check_blocks.result c.in_phase-2.result c.in_ok-in_phase.field-0 2 (ArePointers c.args.geometry c.args.blocks.now) c.in_phase-2.ensures c.in_ok-in_phase.was c.check_blocks.ensures.pointers in
    let dirs = passed c.check_blocks.result c.in_phase-2.result c.in_ok-in_phase.field-0 2 (AreDirs c.args.geometry c.args.blocks.now) c.in_phase-2.ensures c.in_ok-in_phase.was c.check_blocks.ensures.dirs in
    let named = passed c.read_names-named.result c.in_phase-3.result c.in_ok-contents.contents 3 (AreNamed (volume_in c.args.geometry c.args.blocks.now)) c.in_phase-3.ensures c.in_ok-contents.was c.read_names-named.ensures.named in
    let once = passed c.read_names-named.result c.in_phase-3.result c.in_ok-contents.contents 3 (AreOnce (volume_in c.args.geometry c.args.blocks.now)) c.in_phase-3.ensures c.in_ok-contents.was c.read_names-named.ensures.once in
    let p = err_from_is_err_and c.from_residual-in_err-in_phase-2.result c.from_residual-in_err-in_phase-2.ensures.1 in
    rw (p.1, p.2) (refused c.args.geometry c.args.blocks.now c.check_uses-counted.result c.in_phase-4.result c.in_err-in_phase-2.field-0.0 4 c.in_phase-4.ensures c.in_err-in_phase-2.was (clean-4 c.args.geometry c.args.blocks.now (clean-3 c.args.geometry c.args.blocks.now table pointers dirs) named once) c.check_uses-counted.ensures.cause)

pub walk_all-requires-clause-table : goal.walk_all-requires-clause-table
walk_all-requires-clause-table c = passed c.read_table.result c.in_phase.result c.in_ok-inodes.inodes 1 (IsTable c.args.geometry c.args.blocks.now) c.in_phase.ensures c.in_ok-inodes.was c.read_table.ensures.clean

pub walk_all-requires-clause-dirs : goal.walk_all-requires-clause-dirs
walk_all-requires-clause-dirs c = passed c.check_blocks.result c.in_phase-2.result c.in_ok-in_phase.field-0 2 (AreDirs c.args.geometry c.args.blocks.now) c.in_phase-2.ensures c.in_ok-in_phase.was c.check_blocks.ensures.dirs

pub walk_all-requires-clause-named : goal.walk_all-requires-clause-named
walk_all-requires-clause-named c =
    let named = passed c.read_names-named.result c.in_phase-3.result c.in_ok-contents.contents 3 (AreNamed (volume_in c.args.geometry c.args.blocks.now)) c.in_phase-3.ensures c.in_ok-contents.was c.read_names-named.ensures.named in
    named

pub walk_all-requires-clause-names : goal.walk_all-requires-clause-names
walk_all-requires-clause-names c = passed c.read_names-named.result c.in_phase-3.result c.in_ok-contents.contents 3 (AreOnce (volume_in c.args.geometry c.args.blocks.now)) c.in_phase-3.ensures c.in_ok-contents.was c.read_names-named.ensures.once

pub walk_all-requires-clause-pointers : goal.walk_all-requires-clause-pointers
walk_all-requires-clause-pointers c = passed c.check_blocks.result c.in_phase-2.result c.in_ok-in_phase.field-0 2 (ArePointers c.args.geometry c.args.blocks.now) c.in_phase-2.ensures c.in_ok-in_phase.was c.check_blocks.ensures.pointers

pub walk_all-requires-clause-once : goal.walk_all-requires-clause-once
walk_all-requires-clause-once c =
    let alone = passed c.check_uses-counted.result c.in_phase-4.result c.in_ok-in_phase-2.field-0 4 (AreNamedOnce (volume_in c.args.geometry c.args.blocks.now)) c.in_phase-4.ensures c.in_ok-in_phase-2.was c.check_uses-counted.ensures.once in
    alone

pub check_marks_and_paths-marked-requires-clause-table : goal.check_marks_and_paths-marked-requires-clause-table
check_marks_and_paths-marked-requires-clause-table c =
    let table = passed c.read_table.result c.in_phase.result c.in_ok-inodes.inodes 1 (IsTable c.args.geometry c.args.blocks.now) c.in_phase.ensures c.in_ok-inodes.was c.read_table.ensures.clean in
    table

pub check_marks_and_paths-marked-requires-clause-pointers : goal.check_marks_and_paths-marked-requires-clause-pointers
check_marks_and_paths-marked-requires-clause-pointers c = passed c.check_blocks.result c.in_phase-2.result c.in_ok-in_phase.field-0 2 (ArePointers c.args.geometry c.args.blocks.now) c.in_phase-2.ensures c.in_ok-in_phase.was c.check_blocks.ensures.pointers

pub returns-in_err-in_phase-3-clause-cause : goal.returns-in_err-in_phase-3-clause-cause
returns-in_err-in_phase-3-clause-cause c =
    let table = passed c.read_table.result c.in_phase.result c.in_ok-inodes.inodes 1 (IsTable c.args.geometry c.args.blocks.now) c.in_phase.ensures c.in_ok-inodes.was c.read_table.ensures.clean in
    let pointers = passed c.check_blocks.result c.in_phase-2.result c.in_ok-in_phase.field-0 2 (ArePointers c.args.geometry c.args.blocks.now) c.in_phase-2.ensures c.in_ok-in_phase.was c.check_blocks.ensures.pointers in
    let dirs = passed c.check_blocks.result c.in_phase-2.result c.in_ok-in_phase.field-0 2 (AreDirs c.args.geometry c.args.blocks.now) c.in_phase-2.ensures c.in_ok-in_phase.was c.check_blocks.ensures.dirs in
    let named = passed c.read_names-named.result c.in_phase-3.result c.in_ok-contents.contents 3 (AreNamed (volume_in c.args.geometry c.args.blocks.now)) c.in_phase-3.ensures c.in_ok-contents.was c.read_names-named.ensures.named in
    let once = passed c.read_names-named.result c.in_phase-3.result c.in_ok-contents.contents 3 (AreOnce (volume_in c.args.geometry c.args.blocks.now)) c.in_phase-3.ensures c.in_ok-contents.was c.read_names-named.ensures.once in
    let apart = passed c.check_uses-counted.result c.in_phase-4.result c.in_ok-in_phase-2.field-0 4 (AreApart (volume_in c.args.geometry c.args.blocks.now)) c.in_phase-4.ensures c.in_ok-in_phase-2.was c.check_uses-counted.ensures.apart in
    let alone = passed c.check_uses-counted.result c.in_phase-4.result c.in_ok-in_phase-2.field-0 4 (AreNamedOnce (volume_in c.args.geometry c.args.blocks.now)) c.in_phase-4.ensures c.in_ok-in_phase-2.was c.check_uses-counted.ensures.once in
    let linked = passed c.check_uses-counted.result c.in_phase-4.result c.in_ok-in_phase-2.field-0 4 (AreLinked c.args.geometry c.args.blocks.now) c.in_phase-4.ensures c.in_ok-in_phase-2.was c.check_uses-counted.ensures.linked in
    let p = err_from_is_err_and c.from_residual-in_err-in_phase-3.result c.from_residual-in_err-in_phase-3.ensures.1 in
    rw (p.1, p.2) (refused c.args.geometry c.args.blocks.now c.check_marks_and_paths-marked.result c.in_phase-5.result c.in_err-in_phase-3.field-0.0 5 c.in_phase-5.ensures c.in_err-in_phase-3.was (clean-5 c.args.geometry c.args.blocks.now (clean-4 c.args.geometry c.args.blocks.now (clean-3 c.args.geometry c.args.blocks.now table pointers dirs) named once) apart alone linked) c.check_marks_and_paths-marked.ensures.cause)

pub check_tails-requires-clause-table : goal.check_tails-requires-clause-table
check_tails-requires-clause-table c =
    let table = passed c.read_table.result c.in_phase.result c.in_ok-inodes.inodes 1 (IsTable c.args.geometry c.args.blocks.now) c.in_phase.ensures c.in_ok-inodes.was c.read_table.ensures.clean in
    table

pub check_tails-requires-clause-pointers : goal.check_tails-requires-clause-pointers
check_tails-requires-clause-pointers c = passed c.check_blocks.result c.in_phase-2.result c.in_ok-in_phase.field-0 2 (ArePointers c.args.geometry c.args.blocks.now) c.in_phase-2.ensures c.in_ok-in_phase.was c.check_blocks.ensures.pointers

pub returns-in_err-in_phase-4-clause-cause : goal.returns-in_err-in_phase-4-clause-cause
returns-in_err-in_phase-4-clause-cause c =
    let table = passed c.read_table.result c.in_phase.result c.in_ok-inodes.inodes 1 (IsTable c.args.geometry c.args.blocks.now) c.in_phase.ensures c.in_ok-inodes.was c.read_table.ensures.clean in
    let pointers = passed c.check_blocks.result c.in_phase-2.result c.in_ok-in_phase.field-0 2 (ArePointers c.args.geometry c.args.blocks.now) c.in_phase-2.ensures c.in_ok-in_phase.was c.check_blocks.ensures.pointers in
    let dirs = passed c.check_blocks.result c.in_phase-2.result c.in_ok-in_phase.field-0 2 (AreDirs c.args.geometry c.args.blocks.now) c.in_phase-2.ensures c.in_ok-in_phase.was c.check_blocks.ensures.dirs in
    let named = passed c.read_names-named.result c.in_phase-3.result c.in_ok-contents.contents 3 (AreNamed (volume_in c.args.geometry c.args.blocks.now)) c.in_phase-3.ensures c.in_ok-contents.was c.read_names-named.ensures.named in
    let once = passed c.read_names-named.result c.in_phase-3.result c.in_ok-contents.contents 3 (AreOnce (volume_in c.args.geometry c.args.blocks.now)) c.in_phase-3.ensures c.in_ok-contents.was c.read_names-named.ensures.once in
    let apart = passed c.check_uses-counted.result c.in_phase-4.result c.in_ok-in_phase-2.field-0 4 (AreApart (volume_in c.args.geometry c.args.blocks.now)) c.in_phase-4.ensures c.in_ok-in_phase-2.was c.check_uses-counted.ensures.apart in
    let alone = passed c.check_uses-counted.result c.in_phase-4.result c.in_ok-in_phase-2.field-0 4 (AreNamedOnce (volume_in c.args.geometry c.args.blocks.now)) c.in_phase-4.ensures c.in_ok-in_phase-2.was c.check_uses-counted.ensures.once in
    let linked = passed c.check_uses-counted.result c.in_phase-4.result c.in_ok-in_phase-2.field-0 4 (AreLinked c.args.geometry c.args.blocks.now) c.in_phase-4.ensures c.in_ok-in_phase-2.was c.check_uses-counted.ensures.linked in
    let marked = passed c.check_marks_and_paths-marked.result c.in_phase-5.result c.in_ok-in_phase-3.field-0 5 (AreMarked c.args.geometry c.args.blocks.now) c.in_phase-5.ensures c.in_ok-in_phase-3.was c.check_marks_and_paths-marked.ensures.marked in
    let reached = passed c.check_marks_and_paths-marked.result c.in_phase-5.result c.in_ok-in_phase-3.field-0 5 (AreReached (volume_in c.args.geometry c.args.blocks.now)) c.in_phase-5.ensures c.in_ok-in_phase-3.was c.check_marks_and_paths-marked.ensures.reached in
    let p = err_from_is_err_and c.from_residual-in_err-in_phase-4.result c.from_residual-in_err-in_phase-4.ensures.1 in
    rw (p.1, p.2) (refused c.args.geometry c.args.blocks.now c.check_tails.result c.in_phase-6.result c.in_err-in_phase-4.field-0.0 6 c.in_phase-6.ensures c.in_err-in_phase-4.was (clean-6 c.args.geometry c.args.blocks.now (clean-5 c.args.geometry c.args.blocks.now (clean-4 c.args.geometry c.args.blocks.now (clean-3 c.args.geometry c.args.blocks.now table pointers dirs) named once) apart alone linked) marked reached) c.check_tails.ensures.cause)

pub returns-clause-clean : goal.returns-clause-clean
returns-clause-clean c =
    let table = passed c.read_table.result c.in_phase.result c.in_ok-inodes.inodes 1 (IsTable c.args.geometry c.args.blocks.now) c.in_phase.ensures c.in_ok-inodes.was c.read_table.ensures.clean in
    let pointers = passed c.check_blocks.result c.in_phase-2.result c.in_ok-in_phase.field-0 2 (ArePointers c.args.geometry c.args.blocks.now) c.in_phase-2.ensures c.in_ok-in_phase.was c.check_blocks.ensures.pointers in
    let dirs = passed c.check_blocks.result c.in_phase-2.result c.in_ok-in_phase.field-0 2 (AreDirs c.args.geometry c.args.blocks.now) c.in_phase-2.ensures c.in_ok-in_phase.was c.check_blocks.ensures.dirs in
    let named = passed c.read_names-named.result c.in_phase-3.result c.in_ok-contents.contents 3 (AreNamed (volume_in c.args.geometry c.args.blocks.now)) c.in_phase-3.ensures c.in_ok-contents.was c.read_names-named.ensures.named in
    let once = passed c.read_names-named.result c.in_phase-3.result c.in_ok-contents.contents 3 (AreOnce (volume_in c.args.geometry c.args.blocks.now)) c.in_phase-3.ensures c.in_ok-contents.was c.read_names-named.ensures.once in
    let apart = passed c.check_uses-counted.result c.in_phase-4.result c.in_ok-in_phase-2.field-0 4 (AreApart (volume_in c.args.geometry c.args.blocks.now)) c.in_phase-4.ensures c.in_ok-in_phase-2.was c.check_uses-counted.ensures.apart in
    let alone = passed c.check_uses-counted.result c.in_phase-4.result c.in_ok-in_phase-2.field-0 4 (AreNamedOnce (volume_in c.args.geometry c.args.blocks.now)) c.in_phase-4.ensures c.in_ok-in_phase-2.was c.check_uses-counted.ensures.once in
    let linked = passed c.check_uses-counted.result c.in_phase-4.result c.in_ok-in_phase-2.field-0 4 (AreLinked c.args.geometry c.args.blocks.now) c.in_phase-4.ensures c.in_ok-in_phase-2.was c.check_uses-counted.ensures.linked in
    let marked = passed c.check_marks_and_paths-marked.result c.in_phase-5.result c.in_ok-in_phase-3.field-0 5 (AreMarked c.args.geometry c.args.blocks.now) c.in_phase-5.ensures c.in_ok-in_phase-3.was c.check_marks_and_paths-marked.ensures.marked in
    let reached = passed c.check_marks_and_paths-marked.result c.in_phase-5.result c.in_ok-in_phase-3.field-0 5 (AreReached (volume_in c.args.geometry c.args.blocks.now)) c.in_phase-5.ensures c.in_ok-in_phase-3.was c.check_marks_and_paths-marked.ensures.reached in
    let ended = passed c.check_tails.result c.in_phase-6.result c.in_ok-in_phase-4.field-0 6 (AreEnded c.args.geometry c.args.blocks.now) c.in_phase-6.ensures c.in_ok-in_phase-4.was c.check_tails.ensures.ended in
    record {
      table = table;
      pointers = pointers;
      apart = apart;
      dirs = dirs;
      named = named;
      names = once;
      reached = reached;
      linked = linked;
      marked = marked;
      ended = ended;
    }
