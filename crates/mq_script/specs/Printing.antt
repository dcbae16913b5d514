-- How scripts are printed.
use Rattle.std.specs.Prelude.{ℕ, Bool, ◌&&◌, ◌==◌, not, if◌then◌else◌, List, [], ◌∷◌, ◌++◌, codes, decimal}
use Rattle.std.specs.List.{list_all}
use Rattle.mq_block_text.specs.Text.{hex_text}
use Rattle.mq_block_text.specs.Words.{is_plain}
use Rattle.mq_tree.specs.declared.request.Request.{Request}
use Rattle.mq_tree.specs.declared.request.Request.TheVariants.{Mkdir, Create, Write, Truncate, Unlink, Rmdir, Rename, Link, Read, List as ListOf, Stat}
use Rattle.mq_tree.specs.Listings.{path_text}
use Rattle.mq_script.specs.Scripts.{Group, Script}
use Rattle.mq_script.specs.declared.group.End.{End}
use Rattle.mq_script.specs.declared.group.End.TheVariants.{Fsync, Fatomic, Ask}

-- two digits for each byte
abbrev pub pairs_text : List ℕ → List ℕ
pairs_text [] = []
pairs_text (b ∷ bytes) = hex_text b ++ pairs_text bytes

-- a byte that may stand between quotes
abbrev pub is_quotable : ℕ → Bool
is_quotable b = is_plain b && not (b == 34)

abbrev pub data_text : List ℕ → List ℕ
data_text bytes =
    if list_all is_quotable bytes then 34 ∷ bytes ++ 34 ∷ [] else codes "hex:" ++ pairs_text bytes

abbrev pub request_text : Request → List ℕ
request_text (Mkdir p) = codes "mkdir " ++ path_text p
request_text (Create p) = codes "create " ++ path_text p
request_text (Write p offset bytes) =
    codes "write " ++ path_text p ++ 32 ∷ decimal offset ++ 32 ∷ data_text bytes
request_text (Truncate p size) = codes "truncate " ++ path_text p ++ 32 ∷ decimal size
request_text (Unlink p) = codes "unlink " ++ path_text p
request_text (Rmdir p) = codes "rmdir " ++ path_text p
request_text (Rename p q) = codes "rename " ++ path_text p ++ 32 ∷ path_text q
request_text (Link p q) = codes "link " ++ path_text p ++ 32 ∷ path_text q
request_text (Read p offset count) =
    codes "read " ++ path_text p ++ 32 ∷ decimal offset ++ 32 ∷ decimal count
request_text (ListOf p) = codes "list " ++ path_text p
request_text (Stat p) = codes "stat " ++ path_text p

abbrev pub end_text : End → List ℕ
end_text Fsync = codes "fsync\n"
end_text Fatomic = codes "fatomic\n"
end_text Ask = codes "ask\n"

-- each request on a line
abbrev pub requests_text : List Request → List ℕ
requests_text [] = []
requests_text (r ∷ requests) = request_text r ++ 10 ∷ requests_text requests

abbrev pub groups_text : List Group → List ℕ
groups_text [] = []
groups_text (g ∷ groups) = requests_text g.requests ++ end_text g.end ++ groups_text groups

abbrev pub script_text : Script → List ℕ
script_text script = groups_text script.groups
