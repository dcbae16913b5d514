use Rattle.std.proofs.Common.{◌∙◌, inl, inr, refl, map}
use Rattle.std.specs.String.{string_bytes}
use Rattle.clap.specs.Words.{app_of, fault_of, kind_of}
use Rattle.mq_cli.proofs.SyntaxApps.{some_kind}
use Rattle.mq_cli.proofs.parse.parse_words.Goals as goal

pub returns-in-Ok-clause-taken : goal.returns-in-Ok-clause-taken
returns-in-Ok-clause-taken c = c.in-Ok.ensures.kinds c.requires.free

pub returns-in-Ok-clause-rows : goal.returns-in-Ok-clause-rows
returns-in-Ok-clause-rows c = (c.in-Ok.ensures.matches c.requires.simple).0

pub returns : goal.returns
returns c =
    let fails = c.in-Err.ensures.kinds c.requires.free in
    record {
      taken = tt;
      rows = tt;
      refused = elim fails [
        | inl memory ↦ absurd (c.in_default.not-OutOfMemory (c.kind.ensures ∙ memory))
        | inr among ↦ inr (refl, λ none. some_kind (kind_of c.in-Err.error) (fault_of (app_of c.args.command) (map string_bytes c.args.words.now)) among none)
      ];
    }
