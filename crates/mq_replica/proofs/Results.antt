-- Facts of one result.
use Rattle.std.proofs.Common.{IfErr, IfOk, OnOk, Result, Ok, Err}

pub both_ok : {T E : Type 0} (r : Result T E) (P Q R : T → Type 0) → ((x : T) → P x → Q x → R x) → IfOk r P → IfOk r Q → IfOk r R
both_ok (Ok x) P Q R f p q = f x p q
both_ok (Err e) P Q R f p q = tt

pub both_err : {T E : Type 0} (r : Result T E) (P Q R : E → Type 0) → ((x : E) → P x → Q x → R x) → IfErr r P → IfErr r Q → IfErr r R
both_err (Ok x) P Q R f p q = tt
both_err (Err e) P Q R f p q = f e p q

-- what holds anyway holds on success
pub on_ok : {T E : Type 0} (r : Result T E) (P : Type 0) → P → OnOk r P
on_ok (Ok x) P p = p
on_ok (Err e) P p = tt
