-- How causes are named in the lines of the program.
use Rattle.std.specs.Prelude.{ℕ, List, codes}
use Rattle.mq_area.specs.declared.refusal.DescriptorRefusal.{DescriptorRefusal}
use Rattle.mq_area.specs.declared.refusal.DescriptorRefusal.TheVariants as descriptor
use Rattle.mq_nvme.specs.declared.write.EntryRefusal.{EntryRefusal}
use Rattle.mq_nvme.specs.declared.write.EntryRefusal.TheVariants as entry
use Rattle.mq_tree.specs.declared.corrupt.CorruptCause.{CorruptCause}
use Rattle.mq_tree.specs.declared.corrupt.CorruptCause.TheVariants as corrupt
use Rattle.mq_tree.specs.declared.request.Fault.{Fault}
use Rattle.mq_tree.specs.declared.request.Fault.TheVariants as fault

abbrev pub entry_name : EntryRefusal → List ℕ
entry_name (entry.Opcode found) = codes "Opcode"
entry_name (entry.Namespace found) = codes "Namespace"
entry_name (entry.Count found) = codes "Count"
entry_name (entry.Flags dword value) = codes "Flags"

abbrev pub descriptor_name : DescriptorRefusal → List ℕ
descriptor_name (descriptor.Magic found) = codes "Magic"
descriptor_name (descriptor.Version found) = codes "Version"
descriptor_name (descriptor.Queue found) = codes "Queue"
descriptor_name (descriptor.Number found) = codes "Number"
descriptor_name (descriptor.Place found) = codes "Place"
descriptor_name (descriptor.Previous place number) = codes "Previous"
descriptor_name (descriptor.Counts logged revoked) = codes "Counts"
descriptor_name (descriptor.List index found) = codes "List"
descriptor_name (descriptor.Rest offset) = codes "Rest"
descriptor_name descriptor.OutOfMemory = codes "OutOfMemory"

abbrev pub corrupt_name : CorruptCause → List ℕ
corrupt_name corrupt.Layout = codes "Layout"
corrupt_name corrupt.Pointer = codes "Pointer"
corrupt_name corrupt.Unmarked = codes "Unmarked"
corrupt_name corrupt.Shared = codes "Shared"
corrupt_name corrupt.Count = codes "Count"
corrupt_name corrupt.Twin = codes "Twin"
corrupt_name corrupt.Unreached = codes "Unreached"
corrupt_name corrupt.Kind = codes "Kind"
corrupt_name corrupt.Tail = codes "Tail"

abbrev pub fault_name : Fault → List ℕ
fault_name fault.NotFound = codes "NotFound"
fault_name fault.Exists = codes "Exists"
fault_name fault.NotDir = codes "NotDir"
fault_name fault.IsDir = codes "IsDir"
fault_name fault.NotEmpty = codes "NotEmpty"
fault_name fault.BadName = codes "BadName"
fault_name fault.TooBig = codes "TooBig"
fault_name fault.Subtree = codes "Subtree"
fault_name fault.NoSpace = codes "NoSpace"
fault_name fault.NoInodes = codes "NoInodes"
fault_name fault.Links = codes "Links"
