use Rattle.std.proofs.Common.{Ok, ap}
use Rattle.mq_layout.specs.declared.inode.Inode.{Inode}
use Rattle.mq_layout.proofs.Fields.{not-refused}
use Rattle.mq_layout.proofs.InodesForms.{read-none, read-same, read-sound}
use Rattle.mq_layout.proofs.inode.read_inode.Goals as goal

pub returns-in_err-check_fields-clause-complete : goal.returns-in_err-check_fields-clause-complete
returns-in_err-check_fields-clause-complete c i s =
    not-refused _ _ (read-none c.args.block.now c.bytes-bytes.result.now c.args.at c.fields-inode.result i c.bytes-bytes.ensures.is c.fields-inode.ensures.is s) c.in_err-check_fields.ensures

pub returns-clause-sound : goal.returns-clause-sound
returns-clause-sound c =
    read-sound c.args.block.now c.bytes-bytes.result.now c.args.at c.fields-inode.result c.bytes-bytes.ensures.is c.bytes-bytes.ensures.whole c.requires c.fields-inode.ensures.bytes c.fields-inode.ensures.is
    c.in_ok-check_fields.ensures

pub returns-clause-complete : goal.returns-clause-complete
returns-clause-complete c i s =
    ap (λ (x : Inode). Ok x) (read-same c.args.block.now c.bytes-bytes.result.now c.args.at c.fields-inode.result i c.bytes-bytes.ensures.is c.fields-inode.ensures.is s)
