-- What a path names, for a request that reads.
use Rattle.std.proofs.Common.{◌≡◌, ℕ, ◌<◌, Bool, true, cond, List, [], ◌∷◌, refl, sym, ap, subst, ◌∙◌}
use Rattle.std.specs.Prelude.{Option, Some, None, Result, Ok, Err, option_and_then}
use Rattle.std.specs.List.{list_all}
use Rattle.mq_blocks.specs.declared.geometry.Geometry.{Geometry}
use Rattle.mq_layout.specs.Names.{is_name}
use Rattle.mq_layout.specs.Places.{inode_block, inodes_of}
use Rattle.mq_layout.specs.declared.inode.Inode.{Inode}
use Rattle.mq_exec.specs.Reads.{IsNamed, NamesLeadPast, number_of}
use Rattle.mq_inodes.specs.Walks.{inode, named}
use Rattle.mq_inodes.specs.declared.walk.Target.{Target}
use Rattle.mq_inodes.specs.declared.walk.Target.TheVariants.{Root, Lost, In}
use Rattle.mq_inodes.proofs.Sound.{used-low}
use Rattle.mq_inodes.proofs.Walks.{found-used, leads-here, walk-at}
use Rattle.mq_tree.specs.Laid.{inode_of}
use Rattle.mq_tree.specs.Requests.{Root as AtRoot, Lost as AtFault, In as AtName, Says, asks, refused, target, target_in, walk}
use Rattle.mq_tree.specs.Sound.{IsSound}
use Rattle.mq_tree.specs.Volume.{Body, Path, Volume, Way, body, find, inode_at, is_used, node, slots_of, way}
use Rattle.mq_tree.specs.declared.request.Fault.{Fault}
use Rattle.mq_tree.specs.declared.request.Fault.TheVariants.{BadName}
use Rattle.mq_tree.specs.declared.request.Reply.{Reply}

-- the inode at a target, where there is one
record IsThere (v : Volume) (w : Way) (i : ℕ) : Type 0 where
  leads : inode_at v w ≡ Some i
  used : is_used (body v i) ≡ true
  answers : (reply : Body → Reply) → asks v reply (target v w) ≡ Says (reply (body v i))

root-used : (g : Geometry) (v : Volume) → IsSound g v → is_used (body v 0) ≡ true
root-used g v sound = ap is_used sound.root.1

at-root : (g : Geometry) (v : Volume) (t : Target) (i : ℕ) → IsSound g v → named [] t ≡ AtRoot → number_of t ≡ Ok i → IsThere v [] i
at-root g v Root i sound e n = let z : 0 ≡ i = cc in subst (λ j. IsThere v [] j) z (record { leads = refl; used = root-used g v sound; answers = λ reply. refl })
at-root g v (Lost fault) i sound e n = absurd (cc)
at-root g v (In d o) i sound e n = absurd (cc)

some-number : (d : ℕ) (o : Option ℕ) (i : ℕ) → number_of (In d o) ≡ Ok i → o ≡ Some i
some-number d None i n = absurd (cc)
some-number d (Some j) i n = let z : j ≡ i = cc in ap (λ (k : ℕ). Some k) z

at-name : (g : Geometry) (v : Volume) (name : List ℕ) (w : Way) (t : Target) (i d : ℕ) → IsSound g v → walk v w ≡ Ok d → named (name ∷ w) t ≡ AtName d name (find name (slots_of (body v d))) → number_of t ≡ Ok i → IsThere v (name ∷ w) i
at-name g v name w Root i d sound is e n = absurd (cc)
at-name g v name w (Lost fault) i d sound is e n = absurd (cc)
at-name g v name w (In c o) i d sound is e n =
    let same : o ≡ find name (slots_of (body v d)) = cc in
    let some : find name (slots_of (body v d)) ≡ Some i = sym same ∙ some-number c o i n in
    record {
      leads = ap (λ (x : Option ℕ). option_and_then (λ j. find name (slots_of (body v j))) x) (walk-at g v w d sound is) ∙ some;
      used = found-used g v d name i sound some;
      answers = λ reply. ap (λ (r : Result ℕ Fault). asks v reply (target_in v name r)) is ∙ ap (λ (x : Option ℕ). asks v reply (AtName d name x)) some;
    }

at-fault : (v : Volume) (w : Way) (t : Target) (i : ℕ) (fault : Fault) → named w t ≡ AtFault fault → number_of t ≡ Ok i → IsThere v w i
at-fault v w Root i fault e n = absurd (cc)
at-fault v w (Lost other) i fault e n = absurd (cc)
at-fault v w (In d o) i fault e n = absurd (cc)

at-end : (g : Geometry) (v : Volume) (name : List ℕ) (w : Way) (t : Target) (i : ℕ) (r : Result ℕ Fault) → IsSound g v → walk v w ≡ r → named (name ∷ w) t ≡ target_in v name r → number_of t ≡ Ok i → IsThere v (name ∷ w) i
at-end g v name w t i (Err fault) sound is e n = at-fault v (name ∷ w) t i fault e n
at-end g v name w t i (Ok d) sound is e n = at-name g v name w t i d sound is e n

at-target : (g : Geometry) (v : Volume) (w : Way) (t : Target) (i : ℕ) → IsSound g v → named w t ≡ target v w → number_of t ≡ Ok i → IsThere v w i
at-target g v [] t i sound e n = at-root g v t i sound e n
at-target g v (name ∷ w) t i sound e n = at-end g v name w t i (walk v w) sound refl e n

pub number-low : (g : Geometry) (v : Volume) (path : Path) (t : Target) (i : ℕ) → IsSound g v → named (way path) t ≡ target v (way path) → Ok i ≡ number_of t → i < inodes_of g
number-low g v path t i sound e n = used-low g v i sound (at-target g v (way path) t i sound e (sym n)).used

pub number-past : (g : Geometry) (v : Volume) (path : Path) (t : Target) (i b : ℕ) → IsSound g v → list_all is_name path ≡ true → named (way path) t ≡ target v (way path) → Ok i ≡ number_of t → b ≡ inode_block g i → NamesLeadPast g v path b
number-past g v path t i b sound good e n at = record { names = good; past = inode i (leads-here v (way path) i (at-target g v (way path) t i sound e (sym n)).leads) at }

pub number-named : (g : Geometry) (v : Volume) (path : Path) (t : Target) (i : ℕ) (n : Inode) → IsSound g v → list_all is_name path ≡ true → named (way path) t ≡ target v (way path) → Ok i ≡ number_of t → n ≡ inode_of (node v i) → IsNamed v path (record { number = i; inode = n })
number-named g v path t i n sound good e is says =
    let h = at-target g v (way path) t i sound e (sym is) in
    record {
      is = record { says = says; used = h.used };
      names = good;
      leads = h.leads;
      answers = λ reply. ap (λ (b : Bool). cond b (asks v reply (target v (way path))) (refused BadName)) good ∙ h.answers reply;
    }
