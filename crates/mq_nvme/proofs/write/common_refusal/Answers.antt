-- Each pointer that is read is a whole dword.
use Rattle.std.proofs.Common.{rules, ◌≡◌, ◌∙◌, slice_index}
use Rattle.mq_nvme.specs.Entry.{common_rules, slot_of}
use Rattle.mq_nvme.proofs.FieldReadings.{whole, slot_is}
use Rattle.mq_nvme.proofs.write.common_refusal.Goals as goal

pub returns-then-get-ne0 : goal.returns-then-get-ne0
unfolding common_rules
returns-then-get-ne0 c =
    let slot : c.get-slot.result ≡ slot_of c.args.entry.now = c.get-slot.ensures.is ∙ slot_is 16 c.args.entry.now c.get-slot.ensures.are in
    let d4 : c.get.result ≡ slice_index c.args.entry.now 4 = c.get.ensures.is ∙ whole 16 4 c.args.entry.now c.get.ensures.are in
    search rules

pub returns-then-get-ne0-2 : goal.returns-then-get-ne0-2
unfolding common_rules
returns-then-get-ne0-2 c =
    let slot : c.get-slot.result ≡ slot_of c.args.entry.now = c.get-slot.ensures.is ∙ slot_is 16 c.args.entry.now c.get-slot.ensures.are in
    let d4 : c.get.result ≡ slice_index c.args.entry.now 4 = c.get.ensures.is ∙ whole 16 4 c.args.entry.now c.get.ensures.are in
    let d5 : c.get-2.result ≡ slice_index c.args.entry.now 5 = c.get-2.ensures.is ∙ whole 16 5 c.args.entry.now c.get-2.ensures.are in
    search rules

pub returns-then-get-slot : goal.returns-then-get-slot
unfolding common_rules
returns-then-get-slot c =
    let slot : c.get-slot.result ≡ slot_of c.args.entry.now = c.get-slot.ensures.is ∙ slot_is 16 c.args.entry.now c.get-slot.ensures.are in
    let d4 : c.get.result ≡ slice_index c.args.entry.now 4 = c.get.ensures.is ∙ whole 16 4 c.args.entry.now c.get.ensures.are in
    let d5 : c.get-2.result ≡ slice_index c.args.entry.now 5 = c.get-2.ensures.is ∙ whole 16 5 c.args.entry.now c.get-2.ensures.are in
    let d6 : c.get-3.result ≡ slice_index c.args.entry.now 6 = c.get-3.ensures.is ∙ whole 16 6 c.args.entry.now c.get-3.ensures.are in
    search rules

pub returns-then-get-ne0-3 : goal.returns-then-get-ne0-3
unfolding common_rules
returns-then-get-ne0-3 c =
    let slot : c.get-slot.result ≡ slot_of c.args.entry.now = c.get-slot.ensures.is ∙ slot_is 16 c.args.entry.now c.get-slot.ensures.are in
    let d4 : c.get.result ≡ slice_index c.args.entry.now 4 = c.get.ensures.is ∙ whole 16 4 c.args.entry.now c.get.ensures.are in
    let d5 : c.get-2.result ≡ slice_index c.args.entry.now 5 = c.get-2.ensures.is ∙ whole 16 5 c.args.entry.now c.get-2.ensures.are in
    let d6 : c.get-3.result ≡ slice_index c.args.entry.now 6 = c.get-3.ensures.is ∙ whole 16 6 c.args.entry.now c.get-3.ensures.are in
    let d7 : c.get-4.result ≡ slice_index c.args.entry.now 7 = c.get-4.ensures.is ∙ whole 16 7 c.args.entry.now c.get-4.ensures.are in
    search rules

pub returns-then-get-ne0-4 : goal.returns-then-get-ne0-4
unfolding common_rules
returns-then-get-ne0-4 c =
    let slot : c.get-slot.result ≡ slot_of c.args.entry.now = c.get-slot.ensures.is ∙ slot_is 16 c.args.entry.now c.get-slot.ensures.are in
    let d4 : c.get.result ≡ slice_index c.args.entry.now 4 = c.get.ensures.is ∙ whole 16 4 c.args.entry.now c.get.ensures.are in
    let d5 : c.get-2.result ≡ slice_index c.args.entry.now 5 = c.get-2.ensures.is ∙ whole 16 5 c.args.entry.now c.get-2.ensures.are in
    let d6 : c.get-3.result ≡ slice_index c.args.entry.now 6 = c.get-3.ensures.is ∙ whole 16 6 c.args.entry.now c.get-3.ensures.are in
    let d7 : c.get-4.result ≡ slice_index c.args.entry.now 7 = c.get-4.ensures.is ∙ whole 16 7 c.args.entry.now c.get-4.ensures.are in
    let d8 : c.get-5.result ≡ slice_index c.args.entry.now 8 = c.get-5.ensures.is ∙ whole 16 8 c.args.entry.now c.get-5.ensures.are in
    search rules

pub returns-then-get-ne0-5 : goal.returns-then-get-ne0-5
unfolding common_rules
returns-then-get-ne0-5 c =
    let slot : c.get-slot.result ≡ slot_of c.args.entry.now = c.get-slot.ensures.is ∙ slot_is 16 c.args.entry.now c.get-slot.ensures.are in
    let d4 : c.get.result ≡ slice_index c.args.entry.now 4 = c.get.ensures.is ∙ whole 16 4 c.args.entry.now c.get.ensures.are in
    let d5 : c.get-2.result ≡ slice_index c.args.entry.now 5 = c.get-2.ensures.is ∙ whole 16 5 c.args.entry.now c.get-2.ensures.are in
    let d6 : c.get-3.result ≡ slice_index c.args.entry.now 6 = c.get-3.ensures.is ∙ whole 16 6 c.args.entry.now c.get-3.ensures.are in
    let d7 : c.get-4.result ≡ slice_index c.args.entry.now 7 = c.get-4.ensures.is ∙ whole 16 7 c.args.entry.now c.get-4.ensures.are in
    let d8 : c.get-5.result ≡ slice_index c.args.entry.now 8 = c.get-5.ensures.is ∙ whole 16 8 c.args.entry.now c.get-5.ensures.are in
    let d9 : c.get-6.result ≡ slice_index c.args.entry.now 9 = c.get-6.ensures.is ∙ whole 16 9 c.args.entry.now c.get-6.ensures.are in
    search rules

pub returns : goal.returns
unfolding common_rules
returns c =
    let slot : c.get-slot.result ≡ slot_of c.args.entry.now = c.get-slot.ensures.is ∙ slot_is 16 c.args.entry.now c.get-slot.ensures.are in
    let d4 : c.get.result ≡ slice_index c.args.entry.now 4 = c.get.ensures.is ∙ whole 16 4 c.args.entry.now c.get.ensures.are in
    let d5 : c.get-2.result ≡ slice_index c.args.entry.now 5 = c.get-2.ensures.is ∙ whole 16 5 c.args.entry.now c.get-2.ensures.are in
    let d6 : c.get-3.result ≡ slice_index c.args.entry.now 6 = c.get-3.ensures.is ∙ whole 16 6 c.args.entry.now c.get-3.ensures.are in
    let d7 : c.get-4.result ≡ slice_index c.args.entry.now 7 = c.get-4.ensures.is ∙ whole 16 7 c.args.entry.now c.get-4.ensures.are in
    let d8 : c.get-5.result ≡ slice_index c.args.entry.now 8 = c.get-5.ensures.is ∙ whole 16 8 c.args.entry.now c.get-5.ensures.are in
    let d9 : c.get-6.result ≡ slice_index c.args.entry.now 9 = c.get-6.ensures.is ∙ whole 16 9 c.args.entry.now c.get-6.ensures.are in
    search rules
