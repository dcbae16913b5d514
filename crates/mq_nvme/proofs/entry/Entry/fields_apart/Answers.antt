-- The other field is apart from the one that is written.
use Rattle.mq_nvme.specs.Fields.{submission_place}
use Rattle.mq_nvme.proofs.FieldsApart.{get_field-apart, submission-apart}
use Rattle.mq_nvme.proofs.entry.Entry.fields_apart.Goals as goal

pub returns-clause-other : goal.returns-clause-other
returns-clause-other c =
    get_field-apart (submission_place c.args.field) (submission_place c.args.other) _ _ (submission-apart c.args.field c.args.other c.requires.apart) c.set.ensures.others
