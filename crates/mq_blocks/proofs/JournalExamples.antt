-- Worked examples of the definitions. Contents of blocks are short lists here.
use Rattle.std.proofs.Common.{◌≡◌, ◌≢◌, ◌<◌, ◌≤◌, ◌^◌, ◌-◌, ℕ, inr, refl, arith, lit<, lit≤, subst, ⊎_elim}
use Rattle.std.specs.Prelude.{List, [], ◌∷◌, Option, Some, None, codes, true, nat_eq, if◌then◌else◌}
use Rattle.byteorder.specs.Endian.{little_number}
use Rattle.mq_blocks.specs.Descriptor.{Descriptor, AreRising, IsGood, IsDescriptor, further_for, journal_form, journal_magic, last_block, list_bytes}
use Rattle.mq_blocks.specs.Limits.{newest_version}
use Rattle.mq_blocks.specs.Drive.{no_fuse, PortState, counted, index_of, without_last}
use Rattle.mq_blocks.specs.Geometry.{zone_of, home_lba, area_lba, homes_of, write_limit, shaped}
use Rattle.mq_blocks.specs.Journal.{Shown, WriteFields, Has, AreInRow, AreWhole, IsChain, IsQueueChain, Reaches, stands}
use Rattle.mq_blocks.specs.Machine.{Map, Transaction, after, after_all, last_change}
use Rattle.mq_blocks.specs.declared.command.HomeWrite.{HomeWrite}
use Rattle.mq_blocks.specs.declared.geometry.Geometry.{Geometry}

-- ---- where blocks lie

-- one queue: the area's Lbas are 0 to 1023, the home blocks' 1024 to 1279
abbrev small : Geometry
small = shaped 1 1024 16 240 (lit≤ tt, lit≤ tt) (lit≤ tt, lit≤ tt) (lit≤ tt, lit≤ tt, lit≤ tt)

-- two queues: the areas' Lbas are 0 to 2047, the home blocks' 2048 to 2623
abbrev two : Geometry
two = shaped 2 1024 64 256 (lit≤ tt, lit≤ tt) (lit≤ tt, lit≤ tt) (lit≤ tt, lit≤ tt, lit≤ tt)

small_homes : homes_of small ≡ 256
small_homes = refl

small_home : home_lba small 20 ≡ 1044
small_home = refl

small_meta_end : zone_of small 15 ≡ None
small_meta_end = refl

small_zone : zone_of small 16 ≡ Some 0
small_zone = refl

small_zone_end : zone_of small 255 ≡ Some 0
small_zone_end = refl

-- places go round the area
small_place : area_lba small 0 1029 ≡ 5
small_place = refl

two_homes : homes_of two ≡ 576
two_homes = refl

two_home : home_lba two 66 ≡ 2114
two_home = refl

two_meta : zone_of two 5 ≡ None
two_meta = refl

two_zone : zone_of two 66 ≡ Some 0
two_zone = refl

two_zone_end : zone_of two 319 ≡ Some 0
two_zone_end = refl

two_zone_next : zone_of two 320 ≡ Some 1
two_zone_next = refl

two_place : area_lba two 1 2053 ≡ 1029
two_place = refl

-- ---- descriptors

magic_text : journal_magic ≡ little_number 8 (codes "MQFSDSC1")
magic_text = refl

list_of_two : list_bytes (1 ∷ 3 ∷ []) ≡ 1 ∷ 0 ∷ 0 ∷ 0 ∷ 3 ∷ 0 ∷ 0 ∷ 0 ∷ []
list_of_two = refl

list_of_large : list_bytes (258 ∷ []) ≡ 2 ∷ 1 ∷ 0 ∷ 0 ∷ []
list_of_large = refl

rising : AreRising 0 65 (1 ∷ 3 ∷ 64 ∷ [])
rising = (lit≤ tt, lit< tt, (lit≤ tt, lit< tt, (lit≤ tt, lit< tt, tt)))

not_rising : AreRising 0 65 (3 ∷ 3 ∷ []) → ⊥
not_rising r = let low : 4 ≤ 3 = r.2.0 in omega arith

not_below : AreRising 0 64 (1 ∷ 3 ∷ 64 ∷ []) → ⊥
not_below r = let high : 64 < 64 = r.2.2.1 in omega arith

-- ---- prefix and standing

-- logs blocks 20 and 21, whose copies are at places 0 and 1
abbrev first : Descriptor
first = record {
  queue = 0;
  number = 1;
  place = 2;
  prev_place = 0;
  prev_number = 0;
  logged = 20 ∷ 21 ∷ [];
  revoked = [];
}

-- logs block 20, whose copy is at place 3, and writes block 21 at home, whose copy it revokes
abbrev second : Descriptor
second = record {
  queue = 0;
  number = 2;
  place = 4;
  prev_place = 2;
  prev_number = 1;
  logged = 20 ∷ [];
  revoked = 21 ∷ [];
}

-- logs block 21, whose copy is at place 1024, which is the area's first block
abbrev later : Descriptor
later = record {
  queue = 0;
  number = 3;
  place = 1025;
  prev_place = 4;
  prev_number = 2;
  logged = 21 ∷ [];
  revoked = [];
}

-- the blocks of the area: the first two descriptors, and copies that hold their places
abbrev area_block : ℕ → List ℕ
area_block k = if nat_eq k 2 then last_block journal_form newest_version first else (if nat_eq k 4 then last_block journal_form newest_version second else k ∷ [])

-- the last entry of the second transaction names its descriptor
abbrev slot_entry : ℕ → Option WriteFields
slot_entry k = if nat_eq k 5 then Some (2, 4, true) else None

-- the first two transactions are done, and none is under way; a home block holds its number and 255
abbrev journal : Shown
journal = record {
  form = journal_form;
  base = 0;
  head = λ q. 6;
  doorbell = λ q. 6;
  entry = λ q k. slot_entry k;
  area = λ q k. area_block k;
  home = λ b. b ∷ 255 ∷ [];
}

in_row : AreInRow 0 (later ∷ second ∷ first ∷ [])
in_row = (refl, (refl, (refl, tt)))

not_in_row : AreInRow 0 (later ∷ first ∷ []) → ⊥
not_in_row r = omega (arith, r.0)

copy_stands : stands small journal (first ∷ []) 21 ≡ 1 ∷ []
unfolding further_for
copy_stands = refl

later_copy_stands : stands small journal (second ∷ first ∷ []) 20 ≡ 3 ∷ []
unfolding further_for
later_copy_stands = refl

-- the revoked copy counts no more
home_stands : stands small journal (second ∷ first ∷ []) 21 ≡ 21 ∷ 255 ∷ []
unfolding further_for
home_stands = refl

unlogged_stands : stands small journal (second ∷ first ∷ []) 22 ≡ 22 ∷ 255 ∷ []
unfolding further_for
unlogged_stands = refl

-- a revocation takes no later copy away
copied_again : stands small journal (later ∷ second ∷ first ∷ []) 21 ≡ 0 ∷ []
unfolding further_for
copied_again = refl

-- ---- a readable journal

abbrev both : List Descriptor
both = second ∷ first ∷ []

first_good : IsGood (write_limit small) 256 first
unfolding further_for write_limit
first_good = record {
  queue = lit< tt;
  number = lit< tt;
  place = lit< tt;
  falls = lit< tt;
  first = λ _. refl;
  before = λ none. absurd (omega (arith, none));
  counts = lit≤ tt;
  fits = lit≤ tt;
  logged = (lit≤ tt, lit< tt, (lit≤ tt, lit< tt, tt));
  revoked = tt;
  apart = tt;
}

second_good : IsGood (write_limit small) 256 second
unfolding further_for write_limit
second_good = record {
  queue = lit< tt;
  number = lit< tt;
  place = lit< tt;
  falls = lit< tt;
  first = λ none. absurd (omega (arith, none));
  before = λ _. lit< tt;
  counts = lit≤ tt;
  fits = lit≤ tt;
  logged = (lit≤ tt, lit< tt, tt);
  revoked = (lit≤ tt, lit< tt, tt);
  apart = ((λ same. absurd (omega (arith, same)), tt), tt);
}

first_is : IsDescriptor journal_form (write_limit small) 256 (last_block journal_form newest_version first) (1 ∷ []) first
unfolding further_for write_limit
first_is = record { version = newest_version; known = inr refl; last = refl; rest = λ one. absurd (omega (arith, one)); good = first_good }

second_is : IsDescriptor journal_form (write_limit small) 256 (last_block journal_form newest_version second) (3 ∷ []) second
unfolding further_for write_limit
second_is = record { version = newest_version; known = inr refl; last = refl; rest = λ one. absurd (omega (arith, one)); good = second_good }

chain : IsChain small journal 0 2 4 both
chain = (
  lit< tt,
  record { is = second_is; queue_is = refl; number_is = refl; place_is = refl },
  (lit< tt, record { is = first_is; queue_is = refl; number_is = refl; place_is = refl }, lit≤ tt),
)

queue_chain : IsQueueChain small journal 0 both
unfolding further_for
queue_chain = record {
  number = 2;
  lba = 4;
  place = 4;
  order = lit≤ tt;
  few = lit≤ tt;
  low = lit≤ tt;
  none = λ none. absurd (omega (arith, none));
  newest = λ _. refl;
  limit = lit≤ tt;
  own = λ _. refl;
  chain = chain;
  reach = (lit< tt, (lit< tt, tt));
  rung = λ c low high. absurd (omega (arith, low, high));
  rung_whole = λ more. absurd (omega (arith, more));
}

whole : AreWhole small journal (λ q. both)
whole = record {
  limit = lit≤ tt;
  each = λ q below. let is : 0 ≡ q = omega (arith, below) in subst (λ (n : ℕ). IsQueueChain small journal n both) is queue_chain;
  once = λ q r below also differ. absurd (differ (omega (arith, below, also)));
}

-- the prefix is 2
reaches : Reaches small journal both
reaches = record {
  chains = λ q. both;
  whole = whole;
  prefix = record {
    row = (refl, (refl, tt));
    whole = λ d has. (of_queue d has, has);
    greatest = λ q d below has. greatest d has;
  };
}
  where
    of_queue : (d : Descriptor) → Has both d → d.queue < 1
    of_queue d has = ⊎_elim
        (λ (is : second ≡ d). subst (λ (e : Descriptor). e.queue < 1) is (lit< tt))
        (λ (rest : Has (first ∷ []) d). ⊎_elim (λ (is : first ≡ d). subst (λ (e : Descriptor). e.queue < 1) is (lit< tt)) (λ (none : ⊥). absurd none) rest)
        has

    greatest : (d : Descriptor) → Has both d → d.number ≢ 3
    greatest d has = ⊎_elim
        (λ (is : second ≡ d). subst (λ (e : Descriptor). e.number ≢ 3) is (λ same. omega (arith, same)))
        (λ (rest : Has (first ∷ []) d). ⊎_elim (λ (is : first ≡ d). subst (λ (e : Descriptor). e.number ≢ 3) is (λ same. omega (arith, same))) (λ (none : ⊥). absurd none) rest)
        has

-- ---- maps and transactions

abbrev empty : Map
empty b = None

abbrev writes_three : Transaction
writes_three = record {
  number = 1;
  writes = (1, 10 ∷ []) ∷ (2, 20 ∷ []) ∷ (3, 30 ∷ []) ∷ [];
  freed = [];
}

abbrev writes_and_frees : Transaction
writes_and_frees = record {
  number = 2;
  writes = (1, 11 ∷ []) ∷ [];
  freed = 2 ∷ [];
}

after_one : after empty writes_three 2 ≡ Some (20 ∷ [])
unfolding after
after_one = refl

written_again : after_all empty (writes_and_frees ∷ writes_three ∷ []) 1 ≡ Some (11 ∷ [])
unfolding after
written_again = refl

freed : after_all empty (writes_and_frees ∷ writes_three ∷ []) 2 ≡ None
unfolding after
freed = refl

kept : after_all empty (writes_and_frees ∷ writes_three ∷ []) 3 ≡ Some (30 ∷ [])
unfolding after
kept = refl

never_written : after_all empty (writes_and_frees ∷ writes_three ∷ []) 4 ≡ None
unfolding after
never_written = refl

last_written : last_change 0 (writes_and_frees ∷ writes_three ∷ []) 1 ≡ 2
last_written = refl

last_freed : last_change 0 (writes_and_frees ∷ writes_three ∷ []) 2 ≡ 2
last_freed = refl

last_of_first : last_change 0 (writes_and_frees ∷ writes_three ∷ []) 3 ≡ 1
last_of_first = refl

last_of_none : last_change 7 (writes_and_frees ∷ writes_three ∷ []) 4 ≡ 7
last_of_none = refl

-- ---- ports

-- the port of queue 1 of two, of which the indices count only the extents
abbrev port : PortState
port = record {
  queue = Some 1;
  area_first = 1024;
  area_size = 1024;
  homes_first = 2368;
  homes_size = 256;
  flushed = [];
  staged = [];
  flushed_end = 0;
  pending = [];
  doorbell = 0;
  posted = [];
  failed = [];
  head = 0;
  stored_head = 0;
  base = 0;
  stored_base = 0;
  blocks = [];
  certain = [];
  begun = [];
  rings = 0;
  begins = 0;
  events = 0;
  fuse = no_fuse;
  fail = None;
}

area_index : index_of port 1030 ≡ 6
area_index = refl

home_index : index_of port 2370 ≡ 1026
home_index = refl

abbrev write : ℕ → ℕ → HomeWrite
write lba byte = record { lba = lba; block = byte ∷ [] }

last_of_two : without_last 40 (write 40 1 ∷ write 41 2 ∷ write 40 3 ∷ []) ≡ write 40 1 ∷ write 41 2 ∷ []
last_of_two = refl

last_of_one : without_last 41 (write 40 1 ∷ write 41 2 ∷ write 40 3 ∷ []) ≡ write 40 1 ∷ write 40 3 ∷ []
last_of_one = refl

none_of_them : without_last 42 (write 40 1 ∷ write 41 2 ∷ []) ≡ write 40 1 ∷ write 41 2 ∷ []
none_of_them = refl

counts : counted 5 2 ≡ 7
counts = refl

counts_to_end : counted (2 ^ 64 - 2) 1 ≡ 2 ^ 64 - 1
counts_to_end = refl

stands_still : counted (2 ^ 64 - 2) 3 ≡ 2 ^ 64 - 1
stands_still = refl
