-- What the home blocks hold after one transaction more.
use Rattle.std.proofs.Common.{◌≡◌, ℕ, List, [], ◌∷◌, ◌++◌, append-nil, cond, IsSome, Option, Some, None, refl, sym, ap, subst, ◌∙◌, slice_index_or}
use Rattle.std.proofs.lemmas.Bool.{false≢true}
use Rattle.mq_blocks.specs.Blocks.{content}
use Rattle.mq_blocks.specs.Journal.{is_among, or_else}
use Rattle.mq_blocks.specs.Machine.{Map, Writes, after, or_kept, write_of}
use Rattle.mq_ledger.specs.History.{change_of, map_after}
use Rattle.mq_ledger.specs.State.{start_map}
use Rattle.mq_ledger.specs.declared.tx.Tx.{Tx}
use Rattle.mq_replica.specs.Contents.{with_writes}
use Rattle.mq_replica.specs.Opened.{AreLogged, contents_of}

kept_content : (w old : Option (List ℕ)) → content (or_kept w old) ≡ or_else w (content old)
kept_content (Some v) old = refl
kept_content None old = refl

kept_some : (w old : Option (List ℕ)) → IsSome old → IsSome (or_kept w old)
kept_some (Some v) old is = refl
kept_some None old is = is

-- what a transaction that frees nothing makes of a block
pub after_logged : (m : Map) (t : Tx) (x : ℕ) → t.direct ≡ [] → t.freed ≡ [] → after m (change_of t) x ≡ or_kept (write_of t.logged x) (m x)
unfolding after
after_logged m t x direct freed = λ i. or_kept (write_of ((ap (λ (ws : Writes). t.logged ++ ws) direct ∙ append-nil t.logged) i) x) (cond (is_among x (freed i)) None (m x))

pub contents_more : (start : List (Option (List ℕ))) (t : Tx) (ts : List Tx) (x : ℕ) → t.direct ≡ [] → t.freed ≡ [] → contents_of start (t ∷ ts) x ≡ with_writes t.logged (contents_of start ts) x
contents_more start t ts x direct freed = ap content (after_logged (map_after (start_map start) ts) t x direct freed) ∙ kept_content (write_of t.logged x) (map_after (start_map start) ts x)

-- every block stays in the map
pub all_mapped : (start : List (Option (List ℕ))) (h : List Tx) (x : ℕ) → AreLogged h → IsSome (slice_index_or start x None) → IsSome (map_after (start_map start) h x)
all_mapped start [] x are some = some
all_mapped start (t ∷ ts) x are some = subst (λ (o : Option (List ℕ)). IsSome o) (sym (after_logged (map_after (start_map start) ts) t x are.1 are.2)) (kept_some (write_of t.logged x) (map_after (start_map start) ts x) (all_mapped start ts x are.3 some))

-- its content
pub some_content : (o : Option (List ℕ)) → IsSome o → o ≡ Some (content o)
some_content (Some v) is = refl
some_content None is = absurd (false≢true is)
