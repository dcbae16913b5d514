-- The words of whole lines.
use Rattle.std.proofs.Common.{◌≡◌, ℕ, Bool, true, cond, List, [], ◌∷◌, ◌∙◌, ap, refl}
use Rattle.std.specs.Prelude.{Err}
use Rattle.std.specs.List.{list_all}
use Rattle.mq_block_text.proofs.TextParts.{split_some}
use Rattle.mq_block_text.specs.Words.{is_plain, words_of}
use Rattle.mq_script.specs.Lines.{an_end, line_in, verb_line, words_line}
use Rattle.mq_script.specs.Verbs.{verb_in}
use Rattle.mq_script.specs.declared.group.End.{End}
use Rattle.mq_script.specs.declared.refusal.ScriptCause.TheVariants.{Arguments, Bytes}
use Rattle.mq_script.proofs.WordsCutting.{is_space}

end_step : (end : End) (words : List (List ℕ)) → (words ≡ [] → ⊥) → an_end end words ≡ Err Arguments
end_step end [] some = absurd (some refl)
end_step end (w ∷ words) some = refl

-- an end takes no words
pub end_more : (end : End) (text : List ℕ) → an_end end (words_of text) ≡ Err Arguments
end_more end text = end_step end (words_of text) (split_some is_space text)

-- a line with no other bytes is read by its words
pub line_plain : (text word : List ℕ) (words : List (List ℕ)) → list_all is_plain text ≡ true → words_of text ≡ word ∷ words → line_in text ≡ verb_line (verb_in word) words
line_plain text word words plain cut = ap (λ (b : Bool). cond b (words_line (words_of text)) (Err Bytes)) plain ∙ ap words_line cut
