-- What the program says of itself and of each command.
use Rattle.std.specs.Prelude.{ℕ, List, ◌++◌, Option, Some, None, codes}
use Rattle.mq_kv_cli.specs.declared.verb.Verb.{Verb}
use Rattle.mq_kv_cli.specs.declared.verb.Verb.TheVariants as verb

unfoldable pub program_help : List ℕ
program_help =
    codes "mq_kv_tool keeps a key-value store on an emulated drive.\n\n"
    ++ (codes "  mq_kv_tool new IMAGE\n"
    ++ (codes "  mq_kv_tool apply IMAGE FILE [--cut K] [--pick S]\n\n"
    ++ (codes "mq_kv_tool COMMAND --help says more of a command.\n")))

unfoldable pub new_help : List ℕ
new_help =
    codes "mq_kv_tool new IMAGE\n\n"
    ++ (codes "Saves as IMAGE a fresh drive with an empty store: one queue, and 64 buckets of\n"
    ++ (codes "4096 bytes, over which the keys are spread.\n\n"
    ++ (codes "Status: 0 done, 4 the image could not be saved or the output failed, 6 out of\n"
    ++ (codes "memory.\n\n"
    ++ (codes "Example: mq_kv_tool new d\n")))))

unfoldable pub apply_help : List ℕ
apply_help =
    codes "mq_kv_tool apply IMAGE FILE [--cut K] [--pick S]\n\n"
    ++ (codes "Recovers the drive of IMAGE, does the groups of FILE one after another, saves\n"
    ++ (codes "what that left as IMAGE, and prints a report.\n\n"
    ++ (codes "  --cut K      the power goes off after K events, or at the end of the groups\n"
    ++ (codes "  --pick S     chooses the order of commands and what a cut leaves, else 0\n\n"
    ++ (codes "Each line of FILE is an operation, or ends a group, which is done whole or not\n"
    ++ (codes "at all. The last line ends a group.\n\n"
    ++ (codes "  put alice 100   the key alice has the value 100 from now on\n"
    ++ (codes "  get alice       prints value 100\n"
    ++ (codes "  del alice       the key is gone; where it is not there, prints missing\n"
    ++ (codes "  sync            ends a group: what is printed as synced survives any cut\n\n"
    ++ (codes "Keys and values are words of visible ASCII: a key of 1 to 255 bytes, a value of\n"
    ++ (codes "1 to 1024. A bucket has room for 4096 bytes, 4 for each key, the key, and its\n"
    ++ (codes "value. An operation that does not fit is refused, and the others are done.\n\n"
    ++ (codes "Status: 0 done, refused and large groups too, 2 a line that is not in the form,\n"
    ++ (codes "3 the image is refused, 4 a file or the output failed or a file is too long,\n"
    ++ (codes "6 out of memory.\n\n"
    ++ (codes "Example: mq_kv_tool apply d f --cut 8\n")))))))))))))))))

abbrev pub help_text : Option Verb → List ℕ
help_text None = program_help
help_text (Some verb.New) = new_help
help_text (Some verb.Apply) = apply_help

abbrev pub version_line : List ℕ
version_line = codes "mq_kv_tool 0.1.0\n"
