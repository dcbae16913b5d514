-- The lines of refusals.
use Rattle.std.specs.Prelude.{ℕ, List, ◌++◌, codes}
use Rattle.std.specs.Fmt.{decimal}
use Rattle.mq_blocks.specs.declared.geometry.GeometryRefusal.{GeometryRefusal}
use Rattle.mq_blocks.specs.declared.geometry.GeometryRefusal.TheVariants.{Queues, Area, Homes}
use Rattle.mq_command_images.specs.Names.{corrupt_name, descriptor_name, entry_name, fault_name}
use Rattle.mq_command_io.specs.Ending.{memory_line}
use Rattle.mq_image.specs.declared.fault.FileFault.{FileFault}
use Rattle.mq_image.specs.declared.fault.FileFault.TheVariants as file
use Rattle.mq_image_ops.specs.declared.refusal.StandingRefusal.{StandingRefusal}
use Rattle.mq_image_ops.specs.declared.refusal.StandingRefusal.TheVariants as standing
use Rattle.mq_recover.specs.declared.refusal.ChainRefusal.{ChainRefusal}
use Rattle.mq_recover.specs.declared.refusal.ChainRefusal.TheVariants as chain
use Rattle.mq_recover.specs.declared.refusal.ImageFault.{ImageFault}
use Rattle.mq_recover.specs.declared.refusal.ImageFault.TheVariants as image
use Rattle.mq_tree.specs.declared.corrupt.CorruptCause.{CorruptCause}
use Rattle.mq_tree.specs.declared.request.Fault.{Fault}

-- some words, a number, and the end of the line
abbrev pub number_line : List ℕ → ℕ → List ℕ
number_line words n = words ++ (decimal n ++ codes "\n")

-- the same with two numbers
abbrev pub numbers_line : List ℕ → ℕ → ℕ → List ℕ
numbers_line words m n = words ++ (decimal m ++ (codes " " ++ (decimal n ++ codes "\n")))

-- ---- numbers that are no geometry

abbrev pub geometry_line : GeometryRefusal → List ℕ
geometry_line (Queues found) = number_line (codes "geometry Queues ") found
geometry_line (Area found) = number_line (codes "geometry Area ") found
geometry_line (Homes meta zone) = numbers_line (codes "geometry Homes ") meta zone

-- those of the file of an image
abbrev pub image_geometry_line : GeometryRefusal → List ℕ
image_geometry_line (Queues found) = number_line (codes "image Geometry Queues ") found
image_geometry_line (Area found) = number_line (codes "image Geometry Area ") found
image_geometry_line (Homes meta zone) = numbers_line (codes "image Geometry Homes ") meta zone

-- ---- bytes that are no image

abbrev pub file_line : FileFault → List ℕ
file_line (file.Short need have) = numbers_line (codes "image Short ") need have
file_line file.Magic = codes "image Magic\n"
file_line (file.Version found) = number_line (codes "image Version ") found
file_line (file.Geometry refusal) = image_geometry_line refusal
file_line (file.Reserved found) = number_line (codes "image Reserved ") found
file_line (file.Count found) = number_line (codes "image Count ") found
file_line (file.Order index) = number_line (codes "image Order ") index
file_line (file.Zero lba) = number_line (codes "image Zero ") lba
file_line (file.Extra bytes) = number_line (codes "image Extra ") bytes
file_line (file.OldWords queue) = codes "image Bad queue " ++ (decimal queue ++ codes " Words\n")
file_line file.OutOfMemory = memory_line

-- ---- images that are not readable

abbrev pub chain_line : ℕ → ChainRefusal → List ℕ
chain_line q (chain.Entry cause) =
    codes "image Bad queue " ++ (decimal q ++ (codes " Entry " ++ (entry_name cause ++ codes "\n")))
chain_line q (chain.Descriptor number cause) =
    codes "image Bad queue "
    ++ (decimal q
    ++ (codes " Descriptor "
    ++ (decimal number ++ (codes " " ++ (descriptor_name cause ++ codes "\n")))))
chain_line q chain.Words = codes "image Bad queue " ++ (decimal q ++ codes " Words\n")
chain_line q chain.Commit = codes "image Bad queue " ++ (decimal q ++ codes " Commit\n")
chain_line q (chain.AreaPlace lba) = codes "image Bad queue " ++ (decimal q ++ codes " AreaPlace\n")
chain_line q (chain.Span oldest newest) = codes "image Bad queue " ++ (decimal q ++ codes " Span\n")
chain_line q (chain.Limit number) = codes "image Bad queue " ++ (decimal q ++ codes " Limit\n")
chain_line q chain.OutOfMemory = memory_line

abbrev pub drive_line : ImageFault → List ℕ
drive_line (image.Bad q cause) = chain_line q cause
drive_line (image.Twice number first second) =
    codes "image Twice "
    ++ (decimal number
    ++ (codes " queues " ++ (decimal first ++ (codes " " ++ (decimal second ++ codes "\n")))))
drive_line (image.Limit base) = number_line (codes "image Limit ") base
drive_line image.OutOfMemory = memory_line

-- ---- blocks that have no tree, and paths of no file

abbrev pub corrupt_line : CorruptCause → ℕ → List ℕ
corrupt_line cause b =
    codes "image Corrupt " ++ (corrupt_name cause ++ (codes " block " ++ (decimal b ++ codes "\n")))

abbrev pub volume_line : StandingRefusal → List ℕ
volume_line (standing.Image fault) = drive_line fault
volume_line (standing.Corrupt cause b) = corrupt_line cause b
volume_line standing.OutOfMemory = memory_line

abbrev pub path_line : Fault → List ℕ
path_line fault = codes "path " ++ (fault_name fault ++ codes "\n")
