-- The laws of requests on a small file system: their premises hold, and they say what stands where.
use Rattle.std.proofs.Common.{◌≡◌, ℕ, zero, suc, ◌<◌, ◌⊎◌, inr, true, List, [], ◌∷◌, refl, ◌∙◌, arith}
use Rattle.std.specs.Prelude.{Some, None}
use Rattle.std.specs.List.{All}
use Rattle.mq_blocks.specs.Geometry.{queues_of}
use Rattle.mq_layout.specs.Names.{is_name}
use Rattle.mq_tree.specs.Empty.{empty_volume}
use Rattle.mq_tree.specs.Faults.{IsFault, IsFull}
use Rattle.mq_tree.specs.Kept.{HasBytes, IsAdded, IsBare, IsListed, IsRemoved, IsRenamed, IsRewritten}
use Rattle.mq_tree.specs.Requests.{after_group, cut_to, is_named, spliced, step}
use Rattle.mq_tree.specs.Sound.{AreBytes, IsSound}
use Rattle.mq_tree.specs.Volume.{ADir, AFile, Volume, tree}
use Rattle.mq_tree.specs.declared.request.Fault.TheVariants.{Exists, NoSpace}
use Rattle.mq_tree.specs.declared.request.Reply.TheVariants.{Ok as Done, Refused}
use Rattle.mq_tree.specs.declared.request.Request.TheVariants.{Mkdir, Create, Write, Truncate, Unlink, Rmdir, Rename}
use Rattle.mq_tree.proofs.Empty.{empty-sound}
use Rattle.mq_tree.proofs.RequestsExamples.{a, f, first, small, v}
use Rattle.mq_tree.proofs.KeptAsks.{listed}
use Rattle.mq_tree.proofs.FaultsExact.{refused-only}
use Rattle.mq_tree.proofs.KeptRefusals.{tree-refused}
use Rattle.mq_tree.proofs.KeptSteps.{group-sound, ok-create, ok-mkdir, ok-rename, ok-rmdir, ok-truncate, ok-unlink, ok-write, step-sound}

one-queue : 0 < queues_of small
unfolding small
one-queue = omega arith

two-bytes : AreBytes (104 ∷ 105 ∷ [])
two-bytes zero = omega arith
two-bytes (suc zero) = omega arith
two-bytes (suc (suc k)) = omega arith

first-bytes : All HasBytes first
first-bytes zero d l = tt
first-bytes (suc zero) d l = tt
first-bytes (suc (suc zero)) d l = two-bytes
first-bytes (suc (suc (suc k))) d l = absurd (omega arith)

-- mkdir /a, create /a/f and write /a/f keep the empty volume sound
sound : IsSound small v
sound = group-sound small 0 (empty_volume small) first (empty-sound small) one-queue first-bytes

-- ---- each request can answer Ok

mkdir-done : (step small 0 v (Mkdir (f ∷ []))).reply ≡ Done
unfolding step after_group small is_name
mkdir-done = refl

made : IsAdded v (step small 0 v (Mkdir (f ∷ []))).next (f ∷ []) ADir
made = ok-mkdir small 0 v (f ∷ []) sound one-queue mkdir-done

create-done : (step small 0 v (Create (f ∷ []))).reply ≡ Done
unfolding step after_group small is_name
create-done = refl

created : IsAdded v (step small 0 v (Create (f ∷ []))).next (f ∷ []) (AFile [])
created = ok-create small 0 v (f ∷ []) sound one-queue create-done

write-done : (step small 0 v (Write (a ∷ f ∷ []) 3 (104 ∷ 105 ∷ []))).reply ≡ Done
unfolding step after_group small is_name
write-done = refl

written : IsRewritten v (step small 0 v (Write (a ∷ f ∷ []) 3 (104 ∷ 105 ∷ []))).next (a ∷ f ∷ []) (λ old. spliced 3 (104 ∷ 105 ∷ []) old)
written = ok-write small 0 v (a ∷ f ∷ []) 3 (104 ∷ 105 ∷ []) sound one-queue two-bytes write-done

truncate-done : (step small 0 v (Truncate (a ∷ f ∷ []) 1)).reply ≡ Done
unfolding step after_group small is_name
truncate-done = refl

truncated : IsRewritten v (step small 0 v (Truncate (a ∷ f ∷ []) 1)).next (a ∷ f ∷ []) (λ old. cut_to 1 old)
truncated = ok-truncate small 0 v (a ∷ f ∷ []) 1 sound one-queue truncate-done

unlink-done : (step small 0 v (Unlink (a ∷ f ∷ []))).reply ≡ Done
unfolding step after_group small is_name
unlink-done = refl

unlinked : (old : List ℕ) × IsRemoved v (step small 0 v (Unlink (a ∷ f ∷ []))).next (a ∷ f ∷ []) (AFile old)
unlinked = ok-unlink small 0 v (a ∷ f ∷ []) sound unlink-done

-- the volume without the file
abbrev w : Volume
w = (step small 0 v (Unlink (a ∷ f ∷ []))).next

without-sound : IsSound small w
without-sound = step-sound small 0 v (Unlink (a ∷ f ∷ [])) sound one-queue tt

rmdir-done : (step small 0 w (Rmdir (a ∷ []))).reply ≡ Done
unfolding step after_group small is_name
rmdir-done = refl

removed : IsRemoved w (step small 0 w (Rmdir (a ∷ []))).next (a ∷ []) ADir × IsBare w (a ∷ [])
removed = ok-rmdir small 0 w (a ∷ []) without-sound rmdir-done

rename-done : (step small 0 v (Rename (a ∷ []) (f ∷ []))).reply ≡ Done
unfolding step after_group small is_name
rename-done = refl

renamed : IsRenamed v (step small 0 v (Rename (a ∷ []) (f ∷ []))).next (a ∷ []) (f ∷ [])
renamed = ok-rename small 0 v (a ∷ []) (f ∷ []) sound one-queue rename-done

-- ---- the file in the directory that moved

file-before : tree v (a ∷ f ∷ []) ≡ Some (AFile (104 ∷ 105 ∷ []))
unfolding step after_group small is_name
file-before = refl

file-after : tree (step small 0 v (Rename (a ∷ []) (f ∷ []))).next (f ∷ f ∷ []) ≡ Some (AFile (104 ∷ 105 ∷ []))
file-after = renamed.here (f ∷ []) ∙ file-before

file-gone : tree (step small 0 v (Rename (a ∷ []) (f ∷ []))).next (a ∷ f ∷ []) ≡ None
file-gone = renamed.gone (f ∷ [])

-- ---- refusals

exists-named : is_named (Mkdir (a ∷ [])) ≡ true
unfolding is_name
exists-named = refl

the-directory : tree v (a ∷ []) ≡ Some ADir
unfolding step after_group small is_name
the-directory = refl

exists : (step small 0 v (Mkdir (a ∷ []))).reply ≡ Refused Exists
exists = tree-refused small 0 v (Mkdir (a ∷ [])) Exists sound exists-named (inr (ADir, the-directory, refl))

-- no block is left
space-named : is_named (Truncate (a ∷ f ∷ []) 5000) ≡ true
unfolding is_name
space-named = refl

space-refused : (step small 0 v (Truncate (a ∷ f ∷ []) 5000)).reply ≡ Refused NoSpace
unfolding step after_group small is_name
space-refused = refl

no-space : IsFault v (Truncate (a ∷ f ∷ []) 5000) NoSpace ⊎ IsFull small 0 v (Truncate (a ∷ f ∷ []) 5000) NoSpace
no-space = refused-only small 0 v (Truncate (a ∷ f ∷ []) 5000) NoSpace sound space-named space-refused

-- what is read and listed
listed-names : IsListed small 0 v (a ∷ [])
listed-names = listed small 0 v (a ∷ []) sound exists-named the-directory
