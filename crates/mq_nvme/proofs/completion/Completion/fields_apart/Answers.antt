-- The other field is apart from the one that is written.
use Rattle.mq_nvme.specs.Fields.{completion_place}
use Rattle.mq_nvme.proofs.FieldsApart.{get_field-apart, completion-apart}
use Rattle.mq_nvme.proofs.completion.Completion.fields_apart.Goals as goal

pub returns-clause-other : goal.returns-clause-other
returns-clause-other c =
    get_field-apart (completion_place c.args.field) (completion_place c.args.other) _ _ (completion-apart c.args.field c.args.other c.requires.apart) c.set.ensures.others
