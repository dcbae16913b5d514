-- What the entry of a request says.
use Rattle.std.proofs.Common.{◌≡◌, ℕ, List, Option, Some, ◌∙◌, ap}
use Rattle.mq_nvme.specs.Entry.{entry_of, IsRequest, IsWrite}
use Rattle.mq_nvme.specs.Says.{said, says}
use Rattle.mq_nvme.specs.declared.write.WriteReq.{WriteReq}
use Rattle.mq_nvme.specs.declared.write.EntryRefusal.{EntryRefusal}
use Rattle.mq_nvme.proofs.EntryRequests.{tx_of-entry, lba_of-entry, is_commit-entry}
use Rattle.mq_nvme.proofs.EntryRefusals.{accepts}

pub says-entry : (r : WriteReq) → IsRequest r → says (entry_of r) ≡ Some (r.tx, r.lba, r.commit)
unfolding says
says-entry r request =
    ap (λ (c : Option EntryRefusal). said (entry_of r) c) (accepts r request)
    ∙ (λ i. Some (tx_of-entry r i, lba_of-entry r i, is_commit-entry r i))

-- what an entry says in which a request was read
pub says-of : (e : List ℕ) (r : WriteReq) → IsWrite e r → says e ≡ Some (r.tx, r.lba, r.commit)
says-of e r w = ap says w.is ∙ says-entry r w.request
