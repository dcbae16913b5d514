-- A text is that of one report.
use Rattle.std.proofs.Common.{◌≡◌, ℕ, Bool, true, false, ◌+◌, ◌*◌, ◌^◌, ◌<◌, List, [], ◌∷◌, ◌++◌, get_or, drop, map, sym, ◌∙◌, ap, refl, append_assoc, append-nil}
use Rattle.std.specs.Prelude.{◌||◌, nat_eq, if◌then◌else◌, codes, decimal}
use Rattle.std.specs.List.{AllByRecursion}
use Rattle.std.specs.Str.Parse.{digits_value}
use Rattle.std.proofs.lemmas.Bool.{ne_eqb}
use Rattle.std.proofs.lemmas.Fmt.{digits_value-decimal}
use Rattle.mq_block_text.proofs.TextNumbers.{own}
use Rattle.mq_block_text.proofs.TextParts.{Avoids, avoids_append}
use Rattle.mq_block_text.proofs.WordsLines.{lines_again, number_visible, plain_of, no_feed}
use Rattle.mq_block_text.specs.Words.{lines_of}
use Rattle.mq_kv_buckets.specs.declared.operation.KvFault.{KvFault}
use Rattle.mq_kv_buckets.specs.declared.operation.KvFault.TheVariants.{BucketFull, KeySize, ValueSize}
use Rattle.mq_kv_buckets.specs.declared.operation.KvReply.{KvReply}
use Rattle.mq_kv_buckets.specs.declared.operation.KvReply.TheVariants.{Done, Missing, Refused, Value}
use Rattle.mq_kv_text.specs.Reports.{IsPlain, IsPlainGroup, IsPlainLast, IsPlainReply, Report, group_lines, groups_lines, last_line, reply_text, report_lines, report_text}
use Rattle.mq_kv_text.specs.declared.report.GroupReport.{GroupReport}
use Rattle.mq_kv_text.specs.declared.report.GroupReport.TheVariants.{Large, Off, Synced as WasSynced}
use Rattle.mq_kv_text.specs.declared.report.LastLine.{LastLine}
use Rattle.mq_kv_text.specs.declared.report.LastLine.TheVariants.{Clean, Cut}

-- ---- what lines say

abbrev value : List ℕ → ℕ
value text = digits_value 10 text

value-decimal : (n : ℕ) → n < 2 ^ 64 → value (decimal n) ≡ n
value-decimal n small = digits_value-decimal own n small

abbrev key : List ℕ → ℕ
key line = get_or line 0 0 * 256 + get_or line 1 0

abbrev begins : List ℕ → List ℕ → Bool
begins line word = nat_eq (key line) (key word)

abbrev fault_back : List ℕ → KvFault
fault_back name = if begins name (codes "KeySize") then KeySize else (if begins name (codes "ValueSize") then ValueSize else BucketFull)

abbrev reply_back : List ℕ → KvReply
reply_back line =
    if begins line (codes "done") then Done
    else (if begins line (codes "missing") then Missing
    else (if begins line (codes "value") then Value (drop 6 line)
    else Refused (fault_back (drop 8 line))))

abbrev is_reply : List ℕ → Bool
is_reply line = begins line (codes "done") || (begins line (codes "missing") || (begins line (codes "value") || begins line (codes "refused")))

abbrev group_back : List KvReply → List ℕ → GroupReport
group_back before line =
    if begins line (codes "synced") then WasSynced (record { replies = before; at = value (drop 7 line) })
    else (if begins line (codes "large") then Large (value (drop 6 line)) else Off)

abbrev is_group : List ℕ → Bool
is_group line = begins line (codes "synced") || (begins line (codes "large") || begins line (codes "off"))

abbrev last_back : List ℕ → LastLine
last_back line = if begins line (codes "clean") then Clean (value (drop 6 line)) else Cut (value (drop 4 line))

abbrev onto : GroupReport → Report → Report
onto g r = record { groups = g ∷ r.groups; last = r.last }

abbrev step : (is_reply is_group : Bool) → List KvReply → List ℕ → (List KvReply → Report) → Report
step true group before line more = more (before ++ reply_back line ∷ [])
step false true before line more = onto (group_back before line) (more [])
step false false before line more = record { groups = []; last = last_back line }

-- the report of some lines, before which these replies of its first group stand
abbrev back : List KvReply → List (List ℕ) → Report
back before [] = record { groups = []; last = Clean 0 }
back before (line ∷ lines) = step (is_reply line) (is_group line) before line (λ replies. back replies lines)

reply_step : (r : KvReply) (before : List KvReply) (lines : List (List ℕ)) → back before (reply_text r ∷ lines) ≡ back (before ++ r ∷ []) lines
reply_step Done before lines = refl
reply_step Missing before lines = refl
reply_step (Value v) before lines = refl
reply_step (Refused KeySize) before lines = refl
reply_step (Refused ValueSize) before lines = refl
reply_step (Refused BucketFull) before lines = refl

replies_back : (rs before : List KvReply) (lines : List (List ℕ)) → back before (map reply_text rs ++ lines) ≡ back (before ++ rs) lines
replies_back [] before lines = ap (λ (b : List KvReply). back b lines) (sym (append-nil before))
replies_back (r ∷ rs) before lines =
    reply_step r before (map reply_text rs ++ lines) ∙ replies_back rs (before ++ r ∷ []) lines
    ∙ ap (λ (b : List KvReply). back b lines) (append_assoc before (r ∷ []) rs)

group_step : (g : GroupReport) → IsPlainGroup g → (lines : List (List ℕ)) → back [] (group_lines g ++ lines) ≡ onto g (back [] lines)
group_step (WasSynced s) plain lines =
    let own_line : List ℕ = codes "synced " ++ decimal s.at in
    ap (back []) (append_assoc (map reply_text s.replies) (own_line ∷ []) lines)
    ∙ replies_back s.replies [] (own_line ∷ lines)
    ∙ ap (λ (n : ℕ). onto (WasSynced (record { replies = s.replies; at = n })) (back [] lines)) (value-decimal s.at plain.1)
group_step (Large count) plain lines = ap (λ (n : ℕ). onto (Large n) (back [] lines)) (value-decimal count plain)
group_step Off plain lines = refl

last_again : (x : LastLine) → IsPlainLast x → back [] (last_line x ∷ []) ≡ record { groups = []; last = x }
last_again (Clean n) plain = ap (λ (m : ℕ). record { groups = []; last = Clean m }) (value-decimal n plain)
last_again (Cut n) plain = ap (λ (m : ℕ). record { groups = []; last = Cut m }) (value-decimal n plain)

lines_back : (groups : List GroupReport) (x : LastLine) → AllByRecursion IsPlainGroup groups → IsPlainLast x → back [] (groups_lines groups ++ last_line x ∷ []) ≡ record { groups = groups; last = x }
lines_back [] x plain last = last_again x last
lines_back (g ∷ groups) x plain last =
    ap (back []) (append_assoc (group_lines g) (groups_lines groups) (last_line x ∷ []))
    ∙ group_step g plain.0 (groups_lines groups ++ last_line x ∷ [])
    ∙ ap (onto g) (lines_back groups x plain.1 last)

-- ---- no line has a line feed

named_avoids : (word : List ℕ) (n : ℕ) → Avoids 10 word → n < 2 ^ 64 → Avoids 10 (word ++ decimal n)
named_avoids word n avoid small = avoids_append 10 word (decimal n) avoid (no_feed (decimal n) (plain_of (decimal n) (number_visible n small)))

value_avoids : (v : List ℕ) → IsPlainReply (Value v) → Avoids 10 v
value_avoids v plain = λ k d inside. ne_eqb (get_or v k d) 10 (plain k d inside)

reply_avoids : (r : KvReply) → IsPlainReply r → Avoids 10 (reply_text r)
reply_avoids Done plain = no_feed (codes "done") refl
reply_avoids Missing plain = no_feed (codes "missing") refl
reply_avoids (Value v) plain = avoids_append 10 (codes "value ") v (no_feed (codes "value ") refl) (value_avoids v plain)
reply_avoids (Refused KeySize) plain = no_feed (codes "refused KeySize") refl
reply_avoids (Refused ValueSize) plain = no_feed (codes "refused ValueSize") refl
reply_avoids (Refused BucketFull) plain = no_feed (codes "refused BucketFull") refl

abbrev AvoidAll : List (List ℕ) → Type 0
AvoidAll lines = AllByRecursion (Avoids 10) lines

avoid_more : (xs ys : List (List ℕ)) → AvoidAll xs → AvoidAll ys → AvoidAll (xs ++ ys)
avoid_more [] ys a b = b
avoid_more (x ∷ xs) ys a b = (a.0, avoid_more xs ys a.1 b)

replies_avoid : (rs : List KvReply) → AllByRecursion IsPlainReply rs → AvoidAll (map reply_text rs)
replies_avoid [] plain = tt
replies_avoid (r ∷ rs) plain = (reply_avoids r plain.0, replies_avoid rs plain.1)

group_avoids : (g : GroupReport) → IsPlainGroup g → AvoidAll (group_lines g)
group_avoids (WasSynced s) plain =
    avoid_more (map reply_text s.replies) ((codes "synced " ++ decimal s.at) ∷ []) (replies_avoid s.replies plain.0)
    (named_avoids (codes "synced ") s.at (no_feed (codes "synced ") refl) plain.1, tt)
group_avoids (Large count) plain = (named_avoids (codes "large ") count (no_feed (codes "large ") refl) plain, tt)
group_avoids Off plain = (no_feed (codes "off") refl, tt)

groups_avoid : (groups : List GroupReport) → AllByRecursion IsPlainGroup groups → AvoidAll (groups_lines groups)
groups_avoid [] plain = tt
groups_avoid (g ∷ groups) plain = avoid_more (group_lines g) (groups_lines groups) (group_avoids g plain.0) (groups_avoid groups plain.1)

last_avoids : (x : LastLine) → IsPlainLast x → Avoids 10 (last_line x)
last_avoids (Clean n) plain = named_avoids (codes "clean ") n (no_feed (codes "clean ") refl) plain
last_avoids (Cut n) plain = named_avoids (codes "cut ") n (no_feed (codes "cut ") refl) plain

lines_of_report : (r : Report) → IsPlain r → lines_of (report_text r) ≡ report_lines r
lines_of_report r plain = lines_again (report_lines r) (avoid_more (groups_lines r.groups) (last_line r.last ∷ []) (groups_avoid r.groups plain.groups) (last_avoids r.last plain.last, tt))

-- ---- two reports of one text

pub one_report : (r s : Report) → IsPlain r → IsPlain s → report_text r ≡ report_text s → r ≡ s
one_report r s plain also e =
    sym (lines_back r.groups r.last plain.groups plain.last)
    ∙ ap (back []) (sym (lines_of_report r plain) ∙ ap lines_of e ∙ lines_of_report s also)
    ∙ lines_back s.groups s.last also.groups also.last
