-- The buckets that are looked at and not held.
use Rattle.std.proofs.Common.{get_or, ◌≡◌, ◌≢◌, ◌⊎◌, inl, inr, ℕ, ◌+◌, ◌<◌, false, List, [], ◌∷◌, ◌++◌, length, take, refl, sym, ap, subst, ◌∙◌}
use Rattle.std.specs.Prelude.{None}
use Rattle.std.proofs.lemmas.Bool.{false≢true}
use Rattle.std.proofs.lemmas.List.{take_more}
use Rattle.std.proofs.lemmas.List.Elements.{Contains-append_cases, Contains-append_left, Contains-append_right}
use Rattle.mq_kv_buckets.specs.Store.{is_key, key_of}
use Rattle.mq_kv_buckets.specs.declared.operation.KvOp.{KvOp}
use Rattle.mq_kv_entries.specs.Groups.{AreLacking, GroupLooks, LooksAt, LooksAtHeld}
use Rattle.mq_sessions.specs.Pages.{held_pages}
use Rattle.mq_sessions.proofs.Members.{cons-cases, cons-here, none-contained}
use Rattle.mq_pages.specs.Held.{Cells}

pub lacking-none : (buckets : ℕ) (cells : Cells) → AreLacking buckets cells [] []
lacking-none buckets cells = record {
  all = λ b looks absent. none-contained looks.0 looks.1;
  only = λ b there. none-contained b there;
}

-- at which block a further operation looks
last-looks : (buckets : ℕ) (ops : List KvOp) (op : KvOp) (b : ℕ) → GroupLooks buckets (ops ++ op ∷ []) b → GroupLooks buckets ops b ⊎ LooksAt buckets op b
last-looks buckets ops op b looks = elim (Contains-append_cases ops (op ∷ []) looks.0 looks.1) [
  | inl before ↦ inl (looks.0, before, looks.2)
  | inr last ↦ elim (cons-cases op [] looks.0 last) [
    | inl same ↦ (let P : KvOp → Type 0 = λ x. LooksAt buckets x b in inr (subst P (sym same) looks.2))
    | inr none ↦ none-contained looks.0 none
  ]
]

before-looks : (buckets : ℕ) (ops : List KvOp) (op : KvOp) (b : ℕ) → GroupLooks buckets ops b → GroupLooks buckets (ops ++ op ∷ []) b
before-looks buckets ops op b looks = (looks.0, Contains-append_left ops (op ∷ []) looks.0 looks.1, looks.2)

op-looks : (buckets : ℕ) (ops : List KvOp) (op : KvOp) (b : ℕ) → LooksAt buckets op b → GroupLooks buckets (ops ++ op ∷ []) b
op-looks buckets ops op b looks = (op, Contains-append_right ops (op ∷ []) op (cons-here op [] op refl), looks)

-- the bucket of a further operation is not held
pub lacking-more : (buckets : ℕ) (cells : Cells) (ops : List KvOp) (blocks : List ℕ) (op : KvOp) (b : ℕ) → AreLacking buckets cells ops blocks → LooksAt buckets op b → held_pages cells b ≡ None → AreLacking buckets cells (ops ++ op ∷ []) (blocks ++ b ∷ [])
lacking-more buckets cells ops blocks op b lacking looks absent = record {
  all = λ x found none. elim (last-looks buckets ops op x found) [
    | inl before ↦ Contains-append_left blocks (b ∷ []) x (lacking.all x before none)
    | inr last ↦ Contains-append_right blocks (b ∷ []) x (cons-here b [] x (sym looks.1 ∙ last.1))
  ];
  only = λ x there. elim (Contains-append_cases blocks (b ∷ []) x there) [
    | inl before ↦ (let o = lacking.only x before in (before-looks buckets ops op x o.0, o.1))
    | inr last ↦ elim (cons-cases b [] x last) [
      | inl same ↦
          (let P : ℕ → Type 0 = λ n. GroupLooks buckets (ops ++ op ∷ []) n × (held_pages cells n ≡ None) in subst P same (op-looks buckets ops op b looks, absent))
      | inr none ↦ none-contained x none
    ]
  ];
}

-- it is held, or the operation looks at none
pub lacking-same : (buckets : ℕ) (cells : Cells) (ops : List KvOp) (blocks : List ℕ) (op : KvOp) → AreLacking buckets cells ops blocks → ((b : ℕ) → LooksAt buckets op b → held_pages cells b ≢ None) → AreLacking buckets cells (ops ++ op ∷ []) blocks
lacking-same buckets cells ops blocks op lacking held = record {
  all = λ x found none. elim (last-looks buckets ops op x found) [
    | inl before ↦ lacking.all x before none
    | inr last ↦ absurd (held x last none)
  ];
  only = λ x there. (let o = lacking.only x there in (before-looks buckets ops op x o.0, o.1));
}

pub looks-none : (buckets : ℕ) (op : KvOp) → is_key (key_of op) ≡ false → (b : ℕ) → LooksAt buckets op b → ⊥
looks-none buckets op bad b looks = false≢true (sym bad ∙ looks.0)

-- the bucket of an operation is the one at which it looks
pub held-looked : (buckets : ℕ) (cells : Cells) (op : KvOp) (b : ℕ) → LooksAt buckets op b → held_pages cells b ≢ None → LooksAtHeld buckets cells op
held-looked buckets cells op b looks held x at none =
    let same : b ≡ x = sym looks.1 ∙ at.1 in
    held (ap (held_pages cells) same ∙ none)

-- the operations up to the next
pub next-taken : (ops : List KvOp) (i : ℕ) (op : KvOp) → i < length ops → op ≡ get_or ops i op → take (i + 1) ops ≡ take i ops ++ op ∷ []
next-taken ops i op low is = take_more ops i op low ∙ ap (λ (x : KvOp). take i ops ++ x ∷ []) (sym is)
