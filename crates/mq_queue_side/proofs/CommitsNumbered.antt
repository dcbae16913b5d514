-- A numbered commit, whose descriptor is written.
use Rattle.std.proofs.Common.{◌≡◌, ℕ, zero, suc, ◌+◌, ◌<◌, ◌≤◌, List, Option, Some, None, length, sym, ap, ◌∙◌, refl, arith}
use Rattle.std.proofs.lemmas.List.{length-map}
use Rattle.mq_blocks.specs.Descriptor.{Descriptor, further, further_block, further_for, journal_form, last_block}
use Rattle.mq_blocks.specs.Limits.{newest_version}
use Rattle.mq_blocks.proofs.DescriptorLimits.{further-most, further-none, further-one}
use Rattle.mq_queue_side.specs.Commits.{Commit, descriptor_with, further_of, further_where, numbered_with}
use Rattle.mq_queue_side.specs.Parts.{HasFurther, count_of, numbered_by}
use Rattle.mq_queue_side.specs.declared.commit.Position.{Position}

-- it is taken where the entries ask for one
pub counted : (count : ℕ) (before : Option (List ℕ)) → HasFurther count before → count_of before ≡ further_for count
counted count None few = sym (further-none count few)
counted count (Some block) many = sym (further-one count many)

-- the further block counts only if there is one
further_same : (count : ℕ) (a b : List ℕ) → count ≤ 1 → (count ≡ 1 → a ≡ b) → further_where count a ≡ further_where count b
further_same zero a b few same = refl
further_same (suc count) a b few same = same (omega arith)

pub written_as : (commit : Commit) (number : ℕ) (at : Position) (d : Descriptor) (block other : List ℕ) → d ≡ descriptor_with commit at.queue number at.first at.prev_place at.prev_number → block ≡ last_block journal_form newest_version d
    → (further d ≡ 1 → other ≡ further_block journal_form newest_version d) → numbered_by commit number at block other ≡ numbered_with journal_form commit at.queue number at.first at.prev_place at.prev_number
written_as commit number at d block other is last rest =
    let e : Descriptor = descriptor_with commit at.queue number at.first at.prev_place at.prev_number in
    let count : further d ≡ further_of commit =
    ap (λ (x : Descriptor). further_for (length x.logged + length x.revoked)) is ∙ ap (λ (n : ℕ). further_for (n + length commit.revoked)) (length-map commit.logged (λ (w : ℕ × List ℕ). w.0)) in
    let before : further_where (further_of commit) other ≡ further_where (further_of commit) (further_block journal_form newest_version e) =
    further_same (further_of commit) other (further_block journal_form newest_version e) (further-most (length commit.logged + length commit.revoked)) (λ one. rest (count ∙ one) ∙ ap (further_block journal_form newest_version) is) in
    let here : block ≡ last_block journal_form newest_version e = last ∙ ap (last_block journal_form newest_version) is in
    λ i. record {
      commit = commit;
      queue = at.queue;
      number = number;
      first = at.first;
      prev_place = at.prev_place;
      prev_number = at.prev_number;
      last = here i;
      further = before i;
    }
