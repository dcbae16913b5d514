-- Files and directories that are made where pages are absent.
use Rattle.std.proofs.Common.{◌≡◌, ℕ, ◌<◌, inl, inr, Bool, true, false, suc, List, [], ◌∷◌, ◌++◌, arith, refl, sym, ap, subst, ◌∙◌}
use Rattle.std.specs.Prelude.{Option, Some, None}
use Rattle.std.specs.List.{All, list_all}
use Rattle.std.proofs.lemmas.Option.{none-some}
use Rattle.std.proofs.lemmas.List.Elements.{All-contains}
use Rattle.mq_blocks.specs.Geometry.{queues_of}
use Rattle.mq_blocks.specs.declared.geometry.Geometry.{Geometry}
use Rattle.mq_exec.specs.Ahead.{Adds, GoesOn}
use Rattle.mq_exec.specs.Plans.{ComesTo, HoldsMake, IsRefused, PlansMake, make_request, made_entry}
use Rattle.mq_exec.specs.declared.make.Creation.{Creation}
use Rattle.mq_exec.proofs.PlansCreationLooks.{making-step}
use Rattle.mq_exec.proofs.Outcomes.{step-becomes}
use Rattle.mq_exec.proofs.ReadsStepping.{WritesBytes, named-sound, step-bad}
use Rattle.mq_inodes.specs.Bare.{empty_body, with_inode}
use Rattle.mq_inodes.specs.Dirs.{slots_at, slots_in}
use Rattle.mq_inodes.specs.Edits.{Carries, IsOver}
use Rattle.mq_inodes.specs.Fits.{Agrees, Fits}
use Rattle.mq_inodes.specs.MissingPages.{OfEach}
use Rattle.mq_inodes.specs.Pages.{IsHeld, Pages, content, pages_of}
use Rattle.mq_inodes.specs.Unseen.{AreNoted}
use Rattle.mq_inodes.specs.declared.working.Working.{Working}
use Rattle.mq_inodes.proofs.PagesHeld.{held-same}
use Rattle.mq_inodes.proofs.LaidOnce.{shown-vacant}
use Rattle.mq_inodes.proofs.ChangesTaken.{IsFree}
use Rattle.mq_inodes.proofs.Picks.{picks-all_free}
use Rattle.mq_layout.specs.Names.{is_name}
use Rattle.mq_layout.specs.Places.{inode_bitmap, inode_block}
use Rattle.mq_layout.specs.Slots.{Entry}
use Rattle.mq_tree.specs.Clean.{IsDirBlock}
use Rattle.mq_tree.specs.Kept.{HasBytes}
use Rattle.mq_tree.specs.Looks.{Looks, LooksAt}
use Rattle.mq_tree.specs.Sound.{IsSound}
use Rattle.mq_tree.specs.Requests.{RequestOutcome, is_named, linked, make, step, target, unused, verdict}
use Rattle.mq_tree.specs.Volume.{Body, Path, Volume, way}
use Rattle.mq_tree.specs.declared.request.Fault.{Fault}
use Rattle.mq_tree.specs.declared.request.Reply.{Reply}
use Rattle.mq_tree.specs.declared.request.Request.{Request}
use Rattle.mq_tree.proofs.KeptSteps.{step-sound}

-- ---- blocks that are noted as free

-- a page that is held stays as it was
noted-same : (g : Geometry) (old new : Pages) (v : Volume) (blocks : List ℕ) (b : ℕ) → Fits g old v → All (IsFree g v) blocks → AreNoted old new blocks → IsHeld old b → new b ≡ old b
noted-same g old new v blocks b fits free noted held = elim (noted.each b) [
  | inl same ↦ same
  | inr among ↦ (let f = All-contains (IsFree g v) blocks b free among.0 in absurd (shown-vacant g v b _ (fits.held b _ held) (f.high, f.free)))
]

pub noted-agrees : (g : Geometry) (old new : Pages) (v : Volume) (blocks : List ℕ) → All (IsFree g v) blocks → AreNoted old new blocks → Agrees g old v → Agrees g new v
noted-agrees g old new v blocks free noted agrees = record {
  sound = agrees.sound;
  fits = record {
    held = λ b page e. elim (noted.each b) [
      | inl same ↦ agrees.fits.held b page (sym same ∙ e)
      | inr among ↦ (let both : Some None ≡ Some (Some page) = sym among.1 ∙ e in absurd (cc))
    ];
    free = λ b e. elim (noted.each b) [
      | inl same ↦ agrees.fits.free b (sym same ∙ e)
      | inr among ↦ (let f = All-contains (IsFree g v) blocks b free among.0 in (f.high, f.free))
    ];
  };
}

pub noted-known : (old new : Pages) (blocks : List ℕ) (b : ℕ) → AreNoted old new blocks → new b ≡ None → old b ≡ None
noted-known old new blocks b noted none = elim (noted.each b) [
  | inl same ↦ sym same ∙ none
  | inr among ↦ absurd (none-some None (sym none ∙ among.1))
]

slots-same : (old new : Pages) (blocks : List ℕ) → All (λ b. new b ≡ old b) blocks → slots_at new blocks ≡ slots_at old blocks
slots-same old new [] same = refl
slots-same old new (b ∷ bs) same = ap (λ (o : Option (Option (List ℕ))). slots_in (content o) ++ slots_at new bs) (same 0 b (omega arith)) ∙ ap (λ (s : List (Option Entry)). slots_in (content (old b)) ++ s) (slots-same old new bs (λ k d l. same (suc k) d (omega arith)))

pub noted-holds : (g : Geometry) (q : ℕ) (old new : Pages) (v : Volume) (y : Body) (path : Path) (m : Creation) → Agrees g old v → PlansMake g q v y path m → AreNoted old new m.picks.items → HoldsMake g old m → HoldsMake g new m
noted-holds g q old new v y path m agrees plan noted h = record {
  dirs = λ k d l.
      let dir = h.dirs k d l in
      record { held = held _ dir.held; form = subst (λ (o : Option (Option (List ℕ))). IsDirBlock (content o)) (sym (same _ dir.held)) dir.form };
  few = h.few;
  table = held (inode_block g m.directory.number) h.table;
  pointers = λ many. held m.directory.inode.indirect (h.pointers many);
  picks = λ k d l. let p = h.picks k d l in record { high = p.high; home = p.home; marks = held _ p.marks };
  marks = held (inode_bitmap g) h.marks;
  slot = h.slot ∙ ap (λ (s : List (Option Entry)). unused 0 s) (sym (slots-same old new m.directory.blocks.items (λ k d l. same _ (h.dirs k d l).held)));
}
  where
    free : All (IsFree g v) m.picks.items
    free = picks-all_free g q v _ m.picks.items plan.link.queue plan.link.picked

    same : (b : ℕ) → IsHeld old b → new b ≡ old b
    same b there = noted-same g old new v m.picks.items b agrees.fits free noted there

    held : (b : ℕ) → IsHeld old b → IsHeld new b
    held b there = held-same old new b (same b there) there

-- ---- what is gone on with

making-bytes : (t : Bool) (path : Path) → HasBytes (make_request t path)
making-bytes true path = tt
making-bytes false path = tt

making-named : (t : Bool) (path : Path) → is_named (make_request t path) ≡ list_all is_name path
making-named true path = refl
making-named false path = refl

pub adds-none : (pages : Pages) (looks : ℕ → Type 0) (xs : List ℕ) → Adds pages looks xs xs
adds-none pages looks xs = record { only = λ b c. inl c }

-- it leads to the same volume, and the pages stay
pub goes-same : (q : ℕ) (r : Request) (w : Working) → OfEach w (λ v. (step w.geometry q v r).next ≡ v) → GoesOn q r w w
goes-same q r w same = record {
  geometry = refl;
  known = λ b e. e;
  next = λ v agrees. subst (λ (u : Volume). Agrees w.geometry (pages_of w) u) (sym (same v agrees)) agrees;
}

pub goes-bad : (q : ℕ) (t : Bool) (path : Path) (w : Working) → list_all is_name path ≡ false → GoesOn q (make_request t path) w w
goes-bad q t path w bad = goes-same q (make_request t path) w (λ v agrees. step-bad w.geometry q v (make_request t path) (making-named t path ∙ bad))

pub goes-refused : (q : ℕ) (t : Bool) (path : Path) (fault : Fault) (w : Working) → list_all is_name path ≡ true → OfEach w (λ v. IsRefused w.geometry v (make w.geometry q v (empty_body t) (target v (way path))) fault) → GoesOn q (make_request t path) w w
goes-refused q t path fault w good refuses = goes-same q (make_request t path) w (λ v agrees. ap (λ (o : RequestOutcome). o.next) (making-step w.geometry q v t path good ∙ refuses v agrees))

-- at what is looked
pub making-looks : (w : Working) (q : ℕ) (t : Bool) (path : Path) (b : ℕ) → list_all is_name path ≡ true → OfEach w (λ v. (directory : Bool) → LooksAt w.geometry q v (make_request directory path) b) → OfEach w (λ v. Looks w.geometry q v (make_request t path) b)
making-looks w q t path b good h v agrees = record { named = making-named t path ∙ good; looks = h v agrees t }

-- what is made
pub made-agrees : (g : Geometry) (q : ℕ) (v : Volume) (t : Bool) (path : Path) (m : Creation) (new : Pages) → q < queues_of g → list_all is_name path ≡ true → IsSound g v → PlansMake g q v (empty_body t) path m
    → Carries g new (linked g q (with_inode v m.inode (empty_body t)) m.directory.number (made_entry path m)) → Agrees g new (step g q v (make_request t path)).next
made-agrees g q v t path m new low good sound plan carries =
    let e = ap (λ (o : RequestOutcome). o.next) (making-step g q v t path good ∙ plan.carried) in
    record { sound = step-sound g q v (make_request t path) sound low (making-bytes t path); fits = subst (λ u. Fits g new u) (sym e) carries.fits }

pub adds-weaker : (pages : Pages) (P Q : ℕ → Type 0) (before after : List ℕ) → ((b : ℕ) → P b → Q b) → Adds pages P before after → Adds pages Q before after
adds-weaker pages P Q before after f h = record {
  only = λ b c. elim (h.only b c) [
    | inl old ↦ inl old
    | inr new ↦ inr (new.0, f b new.1)
  ];
}

-- all that making asks for, once it is noted what is free
pub noted-ready : (g x : Geometry) (q : ℕ) (old mid : Pages) (v : Volume) (y : Body) (path : Path) (m : Creation) → x ≡ g → Agrees g old v → PlansMake g q v y path m → HoldsMake g old m → AreNoted old mid m.picks.items → Agrees x mid v × PlansMake x q v y path m × HoldsMake x mid m
noted-ready g x q old mid v y path m e agrees plan holds noted =
    let free = picks-all_free g q v _ m.picks.items plan.link.queue plan.link.picked in
    subst (λ (z : Geometry). Agrees z mid v × PlansMake z q v y path m × HoldsMake z mid m) (sym e) (noted-agrees g old mid v m.picks.items free noted agrees, plan, noted-holds g q old mid v y path m agrees plan noted holds)

pub makes-on : (q : ℕ) (t : Bool) (path : Path) (m : Creation) (old mid new : Working) → q < queues_of old.geometry → list_all is_name path ≡ true → mid.geometry ≡ old.geometry → AreNoted (pages_of old) (pages_of mid) m.picks.items → IsOver mid new → HoldsMake old.geometry (pages_of old) m
    → OfEach old (λ v. PlansMake old.geometry q v (empty_body t) path m)
    → ((p : ℕ) (v : Volume) → Agrees mid.geometry (pages_of mid) v → PlansMake mid.geometry p v (empty_body t) path m → Carries mid.geometry (pages_of new) (linked mid.geometry p (with_inode v m.inode (empty_body t)) m.directory.number (made_entry path m)))
    → GoesOn q (make_request t path) old new
makes-on q t path m old mid new low good e noted over holds plans carried = record {
  geometry = over.view.geometry ∙ e;
  known = λ b none. noted-known (pages_of old) (pages_of mid) m.picks.items b noted (over.known b none);
  next = λ v agrees.
      let plan = plans v agrees in
      let r = noted-ready old.geometry mid.geometry q (pages_of old) (pages_of mid) v (empty_body t) path m e agrees plan holds noted in
      let c : Carries old.geometry (pages_of new) (linked old.geometry q (with_inode v m.inode (empty_body t)) m.directory.number (made_entry path m)) =
      subst (λ (z : Geometry). Carries z (pages_of new) (linked z q (with_inode v m.inode (empty_body t)) m.directory.number (made_entry path m))) e (carried q v r.0 r.1) in
      made-agrees old.geometry q v t path m (pages_of new) low good agrees.sound plan c;
}

-- a request that was done
pub steps-on : (q : ℕ) (r : Request) (reply : Reply) (old new : Working) → q < queues_of old.geometry → WritesBytes r → IsOver old new → OfEach old (λ v. ComesTo old.geometry v (verdict old.geometry q v r) reply old new) → GoesOn q r old new
steps-on q r reply old new low fine over comes = record {
  geometry = over.view.geometry;
  known = over.known;
  next = λ v agrees. record { sound = named-sound old.geometry q v r agrees.sound low fine; fits = (step-becomes old.geometry q v r reply old new (comes v agrees)).carries.fits };
}
