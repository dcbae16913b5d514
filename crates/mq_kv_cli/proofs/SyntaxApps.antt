-- The commands as `clap` has them.
use Rattle.std.proofs.Common.{◌≡◌, true, refl}
use Rattle.clap.specs.Words.{is_simple, is_simple_and_free}
use Rattle.mq_kv_cli.specs.Syntax.{app_for}
use Rattle.mq_kv_cli.specs.declared.verb.Verb.{Verb}
use Rattle.mq_kv_cli.specs.declared.verb.Verb.TheVariants.{New, Apply}

-- each is a command of which `clap` states exactly what it takes
pub simple_and_free : (v : Verb) → is_simple_and_free (app_for v) ≡ true
unfolding app_for
simple_and_free New = refl
simple_and_free Apply = refl

pub simple : (v : Verb) → is_simple (app_for v) ≡ true
unfolding app_for
simple New = refl
simple Apply = refl
