-- What the program says of itself and of each command.
use Rattle.std.specs.Prelude.{ℕ, List, ◌++◌, Option, Some, None, codes}
use Rattle.mq_cli.specs.declared.verb.Verb.{Verb}
use Rattle.mq_cli.specs.declared.verb.Verb.TheVariants as verb

unfoldable pub program_help : List ℕ
program_help =
    codes "mqfs runs a crash-consistent journal on an emulated drive.\n\n"
    ++ (codes "  mqfs blocks FILE [--cut K] [--pick S] [--again J] [--save NAME] [--trace NAME]\n"
    ++ (codes "  mqfs format IMAGE QUEUES AREA META ZONE\n"
    ++ (codes "  mqfs run IMAGE SCRIPT.. [--cut K] [--pick S] [--fail Q:N]\n"
    ++ (codes "  mqfs recover IMAGE [--cut K] [--pick S]\n"
    ++ (codes "  mqfs ls IMAGE\n"
    ++ (codes "  mqfs cat IMAGE PATH\n"
    ++ (codes "  mqfs gen SEED THREADS GROUPS [--save NAME]\n"
    ++ (codes "  mqfs dump IMAGE\n"
    ++ (codes "  mqfs check IMAGE\n"
    ++ (codes "  mqfs audit TRACE\n"
    ++ (codes "  mqfs replicate FILE [--seed S] [--save NAME]\n"
    ++ (codes "  mqfs loose FILE [--cut K] [--pick S] [--save NAME]\n\n"
    ++ (codes "mqfs COMMAND --help says more of a command.\n")))))))))))))

unfoldable pub blocks_help : List ℕ
blocks_help =
    codes "mqfs blocks FILE [--cut K] [--pick S] [--again J] [--save NAME] [--trace NAME]\n\n"
    ++ (codes "Commits each line of the block text FILE as a transaction on a fresh drive,\n"
    ++ (codes "cuts the power, recovers, and prints what stands.\n\n"
    ++ (codes "  --cut K       the power goes off after K events, else at the end\n"
    ++ (codes "  --pick S      chooses what a cut leaves of what is not certain, else 0\n"
    ++ (codes "  --again J     a first recovery is cut after J events\n"
    ++ (codes "  --save NAME   saves the image that the cut left, before the recovery\n"
    ++ (codes "  --trace NAME  saves the trace of the events up to the cut\n\n"
    ++ (codes "The items of a line are separated by one space, and name each block once:\n\n"
    ++ (codes "  5=ab 7=01     sets block 5 to 4096 bytes ab and block 7 to 4096 bytes 01\n"
    ++ (codes "  -7 9=ff       frees block 7 and sets block 9; blocks are 0 to 255\n\n"
    ++ (codes "All lines take at most 1024 places, one for each set block and each line.\n\n"
    ++ (codes "Status: 0 done, 2 a line that is not in the form, 4 a file or the output failed\n"
    ++ (codes "or a file is too long, 6 out of memory.\n\n"
    ++ (codes "Example: mqfs blocks examples/frees.txt --cut 10\n"))))))))))))))

unfoldable pub format_help : List ℕ
format_help =
    codes "mqfs format IMAGE QUEUES AREA META ZONE\n\n"
    ++ (codes "Saves as IMAGE a fresh drive with an empty file system. The numbers are:\n\n"
    ++ (codes "  QUEUES  the queues, 1 to 16: so many sessions can commit at once\n"
    ++ (codes "  AREA    the blocks of each queue's journal area, 1024 to 16384\n"
    ++ (codes "  META    the blocks of metadata, at least QUEUES + 3\n"
    ++ (codes "  ZONE    the blocks of each queue's zone of data, at least 1\n\n"
    ++ (codes "META + QUEUES * ZONE is at most 32768. A block has 4096 bytes.\n\n"
    ++ (codes "Status: 0 done, 3 a number is out of its range, 4 the image could not be saved\n"
    ++ (codes "or the output failed, 6 out of memory.\n\n"
    ++ (codes "Example: mqfs format d 2 1024 64 256\n")))))))))

unfoldable pub run_help : List ℕ
run_help =
    codes "mqfs run IMAGE SCRIPT.. [--cut K] [--pick S] [--fail Q:N]\n\n"
    ++ (codes "Recovers the drive of IMAGE, runs each SCRIPT on a session and a thread of its\n"
    ++ (codes "own, saves what that left as IMAGE, and prints a report.\n\n"
    ++ (codes "  --cut K      the power goes off after K events, or at the end of the sessions\n"
    ++ (codes "  --pick S     chooses the order of commands and what a cut leaves, else 0\n"
    ++ (codes "  --fail Q:N   command N of port Q, counted from 1, ends with an error\n\n"
    ++ (codes "A SCRIPT has a request on each line, its words one space apart, and a line that\n"
    ++ (codes "ends each group. A group is carried out whole or not at all. Paths begin with /.\n\n"
    ++ (codes "  mkdir /a                a new directory\n"
    ++ (codes "  create /a/f             a new empty file\n"
    ++ (codes "  write /a/f 0 \"hi\"       bytes from offset 0 on; a gap before is filled with 0\n"
    ++ (codes "  write /a/f 2 hex:6869   bytes in hexadecimal\n"
    ++ (codes "  write /a/f 4 fill:7a:9  9 times the byte 7a\n"
    ++ (codes "  truncate /a/f 8         the file cut, or filled with zeros, to 8 bytes\n"
    ++ (codes "  link /a/f /g            a further name, the second, for a file\n"
    ++ (codes "  rename /g /h            a file or directory moved; the new name must be free\n"
    ++ (codes "  read /a/f 0 8           8 bytes from offset 0 on\n"
    ++ (codes "  list /a                 the names in a directory\n"
    ++ (codes "  fsync                   ends a group: what is answered ok survives any cut\n"
    ++ (codes "  unlink /a/f             a name of a file gone, with the last one the file\n"
    ++ (codes "  rmdir /a                an empty directory gone\n"
    ++ (codes "  fatomic                 ends a group: whole or not at all, durable later\n"
    ++ (codes "  stat /h                 how long a file is, or how many names a directory has\n"
    ++ (codes "  ask                     ends a group that may only look\n\n"
    ++ (codes "Status: 0 done, 2 a script is not in the form or there are too many, 3 the image\n"
    ++ (codes "is refused, 4 a file or the output failed or a file is too long, 5 the command\n"
    ++ (codes "of --fail was executed, 6 out of memory.\n\n"
    ++ (codes "Example: mqfs run d a b --cut 40\n")))))))))))))))))))))))))))

unfoldable pub recover_help : List ℕ
recover_help =
    codes "mqfs recover IMAGE [--cut K] [--pick S]\n\n"
    ++ (codes "Recovers the drive of IMAGE, saves what that left as IMAGE, and prints how many\n"
    ++ (codes "transactions stood on it and its base.\n\n"
    ++ (codes "  --cut K      the power goes off after K events of the recovery, if it has more\n"
    ++ (codes "  --pick S     chooses what a cut leaves of what is not certain, else 0\n\n"
    ++ (codes "Status: 0 done, 3 the image is refused, 4 a file or the output failed or a file\n"
    ++ (codes "is too long, 6 out of memory.\n\n"
    ++ (codes "Example: mqfs recover d --cut 3\n")))))))

unfoldable pub ls_help : List ℕ
ls_help =
    codes "mqfs ls IMAGE\n\n"
    ++ (codes "Prints the tree of files that stands on IMAGE: a line \"d PATH\" for each\n"
    ++ (codes "directory and \"f SIZE PATH\" for each file. Nothing is saved.\n\n"
    ++ (codes "Status: 0 done, 3 the image is refused, 4 a file or the output failed or a file\n"
    ++ (codes "is too long, 6 out of memory.\n\n"
    ++ (codes "Example: mqfs ls d\n")))))

unfoldable pub cat_help : List ℕ
cat_help =
    codes "mqfs cat IMAGE PATH\n\n"
    ++ (codes "Prints the bytes of the file at PATH of the tree that stands on IMAGE. PATH\n"
    ++ (codes "begins with a slash. Nothing is saved.\n\n"
    ++ (codes "Status: 0 done, 3 the image or the path is refused, 4 a file or the output\n"
    ++ (codes "failed or a file is too long, 6 out of memory.\n\n"
    ++ (codes "Example: mqfs cat d /a/f\n")))))

unfoldable pub gen_help : List ℕ
gen_help =
    codes "mqfs gen SEED THREADS GROUPS [--save NAME]\n\n"
    ++ (codes "Runs a workload that the number SEED chooses on a fresh drive in memory, each of\n"
    ++ (codes "1 to 16 THREADS with 0 to 10000 GROUPS of requests, and prints how much the tree\n"
    ++ (codes "of files then has.\n\n"
    ++ (codes "  --save NAME  saves the image that a cut at the end of the sessions leaves\n\n"
    ++ (codes "Status: 0 done, 4 the image could not be saved or the output failed, 6 out of\n"
    ++ (codes "memory.\n\n"
    ++ (codes "Example: mqfs gen 7 4 2000\n")))))))

unfoldable pub dump_help : List ℕ
dump_help =
    codes "mqfs dump IMAGE\n\n"
    ++ (codes "Prints the words and the chains of transactions of IMAGE, and how many of them\n"
    ++ (codes "stand. Nothing is saved.\n\n"
    ++ (codes "Status: 0 done, 3 the image is refused, 4 a file or the output failed or a file\n"
    ++ (codes "is too long, 6 out of memory.\n\n"
    ++ (codes "Example: mqfs dump d\n")))))

unfoldable pub check_help : List ℕ
check_help =
    codes "mqfs check IMAGE\n\n"
    ++ (codes "Checks the home blocks that stand on IMAGE: prints how many directories, files\n"
    ++ (codes "and blocks their file system has, or what is wrong with it first. Nothing is\n"
    ++ (codes "saved.\n\n"
    ++ (codes "Status: 0 done, whatever it found, 3 the image is refused, 4 a file or the\n"
    ++ (codes "output failed or a file is too long, 6 out of memory.\n\n"
    ++ (codes "Example: mqfs check d\n"))))))

unfoldable pub audit_help : List ℕ
audit_help =
    codes "mqfs audit TRACE\n\n"
    ++ (codes "Runs the events of TRACE on the state machine of the journal: prints how many it\n"
    ++ (codes "took and which transactions a cut after them may leave, or the line of the first\n"
    ++ (codes "that it does not allow. Nothing is saved.\n\n"
    ++ (codes "The first two lines are the drive and its live blocks, and each further line is\n"
    ++ (codes "an event, in the order in which they happened:\n\n"
    ++ (codes "  geometry 2 1024 64 256 0   queues, area, metadata, zone, base\n"
    ++ (codes "  start 65=11                block 65 is live, and its first byte is 11\n"
    ++ (codes "  clear 0 1                  queue 0 has done all its numbers below 1\n"
    ++ (codes "  draw 0 logged 65=22 direct revoked freed\n"
    ++ (codes "                             number 1 is queue 0's, and logs block 65\n"
    ++ (codes "  stage 0                    an entry of queue 0 is in its ring\n"
    ++ (codes "  flush 0                    the entries of queue 0 are durable\n"
    ++ (codes "  ring 0                     the doorbell of queue 0 is to be written\n"
    ++ (codes "  complete 0 2               command 2 of queue 0, from 0, has succeeded\n"
    ++ (codes "  failed 0 2                 or it has failed\n"
    ++ (codes "  storehead 0 2              the head of queue 0 is to be written: 2\n"
    ++ (codes "  flushhead 0                the head of queue 0 is durable\n"
    ++ (codes "  ack 1                      somebody is told that all up to 1 survives\n"
    ++ (codes "  home 65, homedone 65       block 65 is written home: begun, and done\n"
    ++ (codes "  storebase 1, flushbase     the base is to be written: 1; it is durable\n\n"
    ++ (codes "Two digits behind a block stand for its contents: one byte, or a checksum.\n\n"
    ++ (codes "Status: 0 done, whatever it found, 2 a line is not in the form, 4 a file or the\n"
    ++ (codes "output failed or a file is too long, 6 out of memory.\n\n"
    ++ (codes "Example: mqfs audit examples/driver.txt\n"))))))))))))))))))))))))

unfoldable pub replicate_help : List ℕ
replicate_help =
    codes "mqfs replicate FILE [--seed S] [--save NAME]\n\n"
    ++ (codes "Sends each line of the block text FILE as an update to a replica on a fresh\n"
    ++ (codes "drive, over a link that loses and repeats updates, and prints how many the\n"
    ++ (codes "replica has reached and the blocks that stand on it. For the lines of FILE see\n"
    ++ (codes "mqfs blocks --help.\n\n"
    ++ (codes "  --seed S     chooses what the link loses and repeats, else 0\n"
    ++ (codes "  --save NAME  saves the image of the replica\n\n"
    ++ (codes "Status: 0 done, 2 a line that is not in the form, 4 a file or the output failed\n"
    ++ (codes "or a file is too long, 6 out of memory.\n\n"
    ++ (codes "Example: mqfs replicate examples/frees.txt --seed 3\n")))))))))

unfoldable pub loose_help : List ℕ
loose_help =
    codes "mqfs loose FILE [--cut K] [--pick S] [--save NAME]\n\n"
    ++ (codes "Runs FILE on a fresh drive of four queues in the loose order. A line is a queue\n"
    ++ (codes "and the items of a transaction, or done and a queue, which drains it. Cuts the\n"
    ++ (codes "power, and prints the transactions that were acknowledged, those that stand, and\n"
    ++ (codes "the blocks that these leave.\n\n"
    ++ (codes "  --cut K      the power goes off after K events, else at the end\n"
    ++ (codes "  --pick S     chooses what a cut leaves of what is not certain, else 0\n"
    ++ (codes "  --save NAME  saves the image that the cut left\n\n"
    ++ (codes "  0 5=ab 7=01   queue 0 sets block 5 to bytes ab and block 7 to bytes 01\n"
    ++ (codes "  1 -7          queue 1 frees block 7; queues are 0 to 3, blocks 0 to 255\n"
    ++ (codes "  done 0        queue 0 waits for all that it sent\n\n"
    ++ (codes "Status: 0 done, 2 a line that is not in the form, 4 a file or the output failed\n"
    ++ (codes "or a file is too long, 6 out of memory.\n\n"
    ++ (codes "Example: mqfs loose examples/loose.txt --cut 9\n")))))))))))))

abbrev pub help_text : Option Verb → List ℕ
help_text None = program_help
help_text (Some verb.Blocks) = blocks_help
help_text (Some verb.Format) = format_help
help_text (Some verb.Run) = run_help
help_text (Some verb.Recover) = recover_help
help_text (Some verb.Ls) = ls_help
help_text (Some verb.Cat) = cat_help
help_text (Some verb.Gen) = gen_help
help_text (Some verb.Dump) = dump_help
help_text (Some verb.Check) = check_help
help_text (Some verb.Audit) = audit_help
help_text (Some verb.Replicate) = replicate_help
help_text (Some verb.Loose) = loose_help

abbrev pub version_line : List ℕ
version_line = codes "mqfs 0.1.0\n"
