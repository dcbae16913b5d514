-- The log of a desk, which has the newest entry first, is a history.
use Rattle.std.proofs.Common.{◌≡◌, ◌∙◌, ℕ, List, [], ◌∷◌, ◌++◌, refl, sym, ap, subst}
use Rattle.std.specs.Prelude.{reverse}
use Rattle.std.proofs.lemmas.List.{reverse-append}
use Rattle.mq_blocks.specs.Machine.{Map, after}
use Rattle.mq_blocks.specs.declared.geometry.Geometry.{Geometry}
use Rattle.mq_calls.specs.Entries.{Does, tx_of}
use Rattle.mq_calls.specs.Group.{file_group}
use Rattle.mq_calls.specs.declared.entry.FileEntry.{FileEntry}
use Rattle.mq_ledger.specs.History as ledger
use Rattle.mq_ledger.specs.History.{change_of}
use Rattle.mq_run_laws.specs.Histories.{AllDo, map_after}
use Rattle.mq_desk_laws.specs.Rule.{IsLegalHistory, history, numbered}
use Rattle.mq_desk_laws.specs.Values.{Values}

do-append : (g : Geometry) (m : Map) (es fs : List FileEntry) → AllDo g m es → AllDo g (map_after m es) fs → AllDo g m (es ++ fs)
do-append g m [] fs h t = t
do-append g m (e ∷ es) fs h t = (h.0, do-append g (after m (change_of (tx_of e))) es fs h.1 t)

map-append : (m : Map) (es fs : List FileEntry) → map_after m (es ++ fs) ≡ map_after (map_after m es) fs
map-append m [] fs = refl
map-append m (e ∷ es) fs = map-append (after m (change_of (tx_of e))) es fs

-- a number changes nothing of what a transaction does
numbered-same : (m : Map) (n : ℕ) (e : FileEntry) → after m (change_of (numbered n (tx_of e))) ≡ after m (change_of (tx_of e))
unfolding after
numbered-same m n e = refl

module _ {Q R : Type 0} (values : Values Q R FileEntry) where
  pub log-map : (start : Map) (base : ℕ) (es : List FileEntry) → ledger.map_after start (history values file_group base es) ≡ map_after start (reverse es)
  log-map start base [] = refl
  log-map start base (e ∷ es) =
      let before : Map = map_after start (reverse es) in
      let last : ledger.map_after start (history values file_group base (e ∷ es)) ≡ after before (change_of (tx_of e)) =
      numbered-same (ledger.map_after start (history values file_group base es)) _ e ∙ ap (λ (m : Map). after m (change_of (tx_of e))) (log-map start base es) in
      last ∙ sym (map-append start (reverse es) (e ∷ [])) ∙ ap (map_after start) (sym (reverse-append (e ∷ []) es))

  pub log-does : (g : Geometry) (start : Map) (base : ℕ) (es : List FileEntry) → IsLegalHistory values file_group g start base es → AllDo g start (reverse es)
  log-does g start base [] h = tt
  log-does g start base (e ∷ es) h =
      let last : Does g (map_after start (reverse es)) e = subst (λ (m : Map). Does g m e) (log-map start base es) h.0 in
      subst (λ (fs : List FileEntry). AllDo g start fs) (sym (reverse-append (e ∷ []) es)) (do-append g start (reverse es) (e ∷ []) (log-does g start base es h.2) (last, tt))
