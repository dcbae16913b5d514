use Rattle.std.proofs.Common.{◌≡◌, ℕ, ◌++◌, false, List, [], ◌∷◌, drop, reverse, sym, ap, subst, ◌∙◌, arith}
use Rattle.std.proofs.lemmas.List.{append_assoc}
use Rattle.mq_pages.specs.declared.page.ShadowPage.{ShadowPage}
use Rattle.mq_queue_side.specs.Parts.{is_head, pages_in, pages_out, AreLeft}
use Rattle.mq_queue_side.proofs.PartsWalks.{IsAtHead, at_head, next_left, next_in, next_out, other_left, other_in, other_out}
use Rattle.mq_queue_side.proofs.prepare.part.Goals as goal

pub parting-preserved-then-is_next : goal.parting-preserved-then-is_next
parting-preserved-then-is_next c =
    let blocks : List ℕ = c.args.blocks.now in
    let at : ℕ = c.parting.at in
    let page = c.take_first-page.result in
    let rest : List ShadowPage = reverse c.take_first-page.new.reversed.items in
    let was : reverse c.parting.pages.items ≡ page ∷ rest = c.take_first-page.ensures in
    let inv = c.parting.invariant in
    let h : IsAtHead page.block at blocks = at_head page.block at blocks (sym c.is_next.ensures ∙ c.if-is_next.true) in
    let all : AreLeft (drop at blocks) (page ∷ rest) = subst (λ (ps : List ShadowPage). AreLeft (drop at blocks) ps) was inv.left in
    let left : AreLeft (h.b ∷ h.more) (page ∷ rest) = subst (λ (bs : List ℕ). AreLeft bs (page ∷ rest)) h.here all in
    let old : List ShadowPage = c.parting.listed.items in
    let others : List ShadowPage = c.parting.others.items in
    record {
      within = (let l = h.inside in omega (arith, l));
      left = subst (λ (bs : List ℕ). AreLeft bs rest) (sym h.next) (next_left h.b h.more page rest left h.same);
      listed =
          (λ i. c.in_ok-push.ensures.items i ++ pages_in (h.next i) rest) ∙ append_assoc old (page ∷ []) (pages_in h.more rest)
          ∙ ap (λ (r : List ShadowPage). old ++ r) (sym (next_in h.b h.more page rest left h.same)) ∙ (λ i. old ++ pages_in (sym h.here i) (sym was i)) ∙ inv.listed;
      others =
          (λ i. others ++ pages_out (h.next i) rest) ∙ ap (λ (r : List ShadowPage). others ++ r) (sym (next_out h.b h.more page rest left h.same))
          ∙ (λ i. others ++ pages_out (sym h.here i) (sym was i)) ∙ inv.others;
    }

pub parting-preserved : goal.parting-preserved
parting-preserved c =
    let blocks : List ℕ = drop c.parting.at c.args.blocks.now in
    let page = c.take_first-page.result in
    let rest : List ShadowPage = reverse c.take_first-page.new.reversed.items in
    let was : reverse c.parting.pages.items ≡ page ∷ rest = c.take_first-page.ensures in
    let inv = c.parting.invariant in
    let other : is_head page.block blocks ≡ false = sym c.is_next.ensures ∙ c.if-is_next.false in
    let left : AreLeft blocks (page ∷ rest) = subst (λ (ps : List ShadowPage). AreLeft blocks ps) was inv.left in
    let old : List ShadowPage = c.parting.others.items in
    let listed : List ShadowPage = c.parting.listed.items in
    record {
      within = inv.within;
      left = other_left blocks page rest left other;
      listed = ap (λ (r : List ShadowPage). listed ++ r) (sym (other_in blocks page rest left other)) ∙ (λ i. listed ++ pages_in blocks (sym was i)) ∙ inv.listed;
      others =
          (λ i. c.in_ok-push-2.ensures.items i ++ pages_out blocks rest) ∙ append_assoc old (page ∷ []) (pages_out blocks rest)
          ∙ ap (λ (r : List ShadowPage). old ++ r) (sym (other_out blocks page rest left other)) ∙ (λ i. old ++ pages_out blocks (sym was i)) ∙ inv.others;
    }
