-- The ports of a drive, started one after another.
use Rattle.std.proofs.Common.{◌≡◌, ◌<◌, ◌≤◌, ℕ, zero, suc, ◌+◌, ◌-◌, List, [], ◌∷◌, ◌++◌, All, length, map, take, get_or, Option, refl, sym, ◌∙◌, ap, subst, arith, append_assoc, length-append}
use Rattle.std.specs.List.{remove}
use Rattle.std.proofs.lemmas.List.{get_or-append_right, map_push, take_at}
use Rattle.std.proofs.lemmas.List.Elements.{All-push}
use Rattle.mq_blocks.specs.Drive.{FuseName, PortImage, PortState}
use Rattle.mq_blocks.specs.Geometry.{queues_of}
use Rattle.mq_blocks.specs.declared.geometry.Geometry.{Geometry}
use Rattle.mq_blocks.specs.Journal.{no_image}
use Rattle.mq_drive.specs.Emu.{emu_state}
use Rattle.mq_drive.specs.Start.{IsImageOf}
use Rattle.mq_drive.specs.declared.emu.EmuPort.{EmuPort}
use Rattle.mq_drive.specs.declared.fuse.FuseSeat.{FuseSeat}
use Rattle.mq_drive.specs.declared.port.Ports.{Ports}
use Rattle.mq_drive.specs.declared.role.Role.TheVariants.{Queue, Root}
use Rattle.mq_image.specs.Drives.{IsDrive}
use Rattle.mq_image.specs.File.{DriveImage}
use Rattle.mq_image_ops.specs.Starts.{AreFreshSeats, AreSeeded, AreStarted, IsFreshPort, IsFreshSeat, IsSeeded}
use Rattle.mq_image_ops.specs.Views.{port_from, starts_from}
use Rattle.mq_image_ops.specs.declared.ports.Failing.{Failing}

-- the first of a list, as `remove` gives it
head-of : {A : Type 0} (xs : List A) (x : A) → 0 < length xs → x ≡ get_or xs 0 x → xs ≡ x ∷ remove xs 0
head-of [] x some is = absurd (omega arith)
head-of (y ∷ ys) x some is = ap (λ (z : _). z ∷ ys) (sym is)

first-fresh : (fuse : FuseName) (seats : List FuseSeat) (s : FuseSeat) → 0 < length seats → s ≡ get_or seats 0 s → All (IsFreshSeat fuse) seats → IsFreshSeat fuse s × All (IsFreshSeat fuse) (remove seats 0)
first-fresh fuse [] s some is all = absurd (omega arith)
first-fresh fuse (t ∷ ts) s some is all = (subst (IsFreshSeat fuse) (sym is) (all 0 t (omega arith)), λ k d low. all (suc k) d (omega arith))

starts-push : (g : Geometry) (fuse : FuseName) (fail : Option Failing) (n : ℕ) (is : List PortImage) (i : PortImage) → starts_from g fuse fail n (is ++ i ∷ []) ≡ starts_from g fuse fail n is ++ port_from g fuse fail (Queue (n + length is)) i ∷ []
starts-push g fuse fail n [] i = ap (λ (k : ℕ). port_from g fuse fail (Queue k) i ∷ []) (let e : n ≡ n + 0 = omega arith in e)
starts-push g fuse fail n (j ∷ is) i =
    ap (λ (l : List PortState). port_from g fuse fail (Queue n) j ∷ l) (starts-push g fuse fail (n + 1) is i)
    ∙ ap (λ (k : ℕ). port_from g fuse fail (Queue n) j ∷ (starts_from g fuse fail (n + 1) is ++ port_from g fuse fail (Queue k) i ∷ [])) (let e : n + 1 + length is ≡ n + length (j ∷ is) = omega arith in e)

-- The ports of the first n queues are started; the images and the seats of the others are left, and of the
-- root.
pub record AreStartedTo (g : Geometry) (fuse : FuseName) (fail : Option Failing) (all : List PortImage) (n : ℕ) (queues : List EmuPort) (left : List PortImage) (seats : List FuseSeat) : Type 0 where
  pub done : List PortImage
  pub parts : all ≡ done ++ left
  pub count : length done ≡ n
  pub states : map emu_state queues ≡ starts_from g fuse fail 0 done
  pub fresh : All IsFreshPort queues
  pub seats_count : length seats + n ≡ queues_of g + 1
  pub seats_fresh : All (IsFreshSeat fuse) seats

pub none-started : (g : Geometry) (fuse : FuseName) (fail : Option Failing) (all : List PortImage) (queues : List EmuPort) (seats : List FuseSeat) → queues ≡ [] → AreFreshSeats fuse (queues_of g + 1) seats → AreStartedTo g fuse fail all 0 queues all seats
none-started g fuse fail all queues seats none fresh = record {
  done = [];
  parts = refl;
  count = refl;
  states = ap (map emu_state) none;
  fresh = subst (All IsFreshPort) (sym none) (λ k d low. absurd (omega arith));
  seats_count = let few = fresh.count_is in omega arith;
  seats_fresh = fresh.each;
}

left-some : (g : Geometry) (all done left : List PortImage) (n : ℕ) → all ≡ done ++ left → length done ≡ n → length all ≡ queues_of g + 1 → n ≤ queues_of g → 0 < length left
left-some g all done left n parts count size low = let long = ap length parts ∙ length-append done left in omega arith

module _ (g : Geometry) (fuse : FuseName) (fail : Option Failing) (all : List PortImage) (n : ℕ) (queues : List EmuPort) (left : List PortImage) (seats : List FuseSeat) (to : AreStartedTo g fuse fail all n queues left seats) (size : length all ≡ queues_of g + 1) (low : n ≤ queues_of g) where
  pub image-left : 0 < length left
  image-left = left-some g all to.done left n to.parts to.count size low

  pub seat-left : 0 < length seats
  seat-left = let few = to.seats_count in omega arith

  module _ (i : PortImage) (is : i ≡ get_or left 0 i) (s : FuseSeat) (seat : s ≡ get_or seats 0 s) where
    first : left ≡ i ∷ remove left 0
    first = head-of left i image-left is

    pub next-image : get_or all n no_image ≡ i
    next-image =
        ap (λ (l : List PortImage). get_or l n no_image) to.parts
        ∙ get_or-append_right to.done left n n no_image to.count (omega arith)
        ∙ ap (λ (k : ℕ). get_or left k no_image) (let e : n - n ≡ 0 = omega arith in e)
        ∙ ap (λ (l : List PortImage). get_or l 0 no_image) first

    pub next-seat : IsFreshSeat fuse s
    next-seat = (first-fresh fuse seats s seat-left seat to.seats_fresh).0

    pub more-started : (p : EmuPort) (more : List EmuPort) → n < queues_of g → emu_state p ≡ port_from g fuse fail (Queue n) i → IsFreshPort p → more ≡ queues ++ p ∷ [] → AreStartedTo g fuse fail all (n + 1) more (remove left 0) (remove seats 0)
    more-started p more less starts fresh are =
        let count = to.count in
        subst (λ (l : List EmuPort). AreStartedTo g fuse fail all (n + 1) l (remove left 0) (remove seats 0)) (sym are) (record {
          done = to.done ++ i ∷ [];
          parts = to.parts ∙ ap (λ (l : List PortImage). to.done ++ l) first ∙ sym (append_assoc to.done (i ∷ []) (remove left 0));
          count = length-append to.done (i ∷ []) ∙ ap (λ (k : ℕ). k + 1) count;
          states =
              map_push emu_state queues p
              ∙ ap (λ (l : List PortState). l ++ emu_state p ∷ []) to.states
              ∙ ap (λ (t : PortState). starts_from g fuse fail 0 to.done ++ t ∷ []) (starts ∙ ap (λ (k : ℕ). port_from g fuse fail (Queue k) i) (let e : n ≡ 0 + length to.done = omega arith in e))
              ∙ sym (starts-push g fuse fail 0 to.done i);
          fresh = All-push IsFreshPort queues p to.fresh fresh;
          seats_count = let few = to.seats_count in let one = ap length (head-of seats s seat-left seat) in omega arith;
          seats_fresh = (first-fresh fuse seats s seat-left seat to.seats_fresh).1;
        })

    -- with the root's port, all are
    pub all-started : (root : EmuPort) (ports : Ports EmuPort) → n ≡ queues_of g → emu_state root ≡ port_from g fuse fail Root i → IsFreshPort root → ports.queues.items ≡ queues → ports.root ≡ root → AreStarted fuse fail (record { geometry = g; ports = all }) ports
    all-started root ports last starts fresh are root_is =
        let whole : take (queues_of g) all ≡ to.done = ap (take (queues_of g)) to.parts ∙ take_at to.done left (queues_of g) (to.count ∙ last) in
        let own : get_or all (queues_of g) no_image ≡ i = ap (λ (k : ℕ). get_or all k no_image) (sym last) ∙ next-image in
        record {
          states =
              ap (λ (l : List EmuPort). record { queues = map emu_state l; root = emu_state ports.root }) are
              ∙ ap (λ (p : EmuPort). record { queues = map emu_state queues; root = emu_state p }) root_is
              ∙ ap (λ (l : List PortState). record { queues = l; root = emu_state root }) (to.states ∙ ap (starts_from g fuse fail 0) (sym whole))
              ∙ ap (λ (t : PortState). record { queues = starts_from g fuse fail 0 (take (queues_of g) all); root = t }) (starts ∙ ap (λ (j : PortImage). port_from g fuse fail Root j) (sym own));
          queues = subst (All IsFreshPort) (sym are) to.fresh;
          root = subst IsFreshPort (sym root_is) fresh;
        }

-- the image of a queue's port, of a geometry that is the drive's
pub image-of : (g : Geometry) (x : DriveImage) (i : PortImage) (q : ℕ) → IsDrive x → g ≡ x.geometry → q < queues_of g → get_or x.ports q no_image ≡ i → IsImageOf g (Queue q) i
image-of g x i q drive same low is =
    let count : queues_of g ≡ queues_of x.geometry = ap queues_of same in
    subst (λ (h : Geometry). IsImageOf h (Queue q) i) (sym same) (subst (IsImageOf x.geometry (Queue q)) is (drive.queues q (omega arith)))

pub root-image-of : (g : Geometry) (x : DriveImage) (i : PortImage) → IsDrive x → g ≡ x.geometry → get_or x.ports (queues_of g) no_image ≡ i → IsImageOf g Root i
root-image-of g x i drive same is =
    subst (λ (h : Geometry). IsImageOf h Root i) (sym same) (subst (IsImageOf x.geometry Root) (ap (λ (h : Geometry). get_or x.ports (queues_of h) no_image) (sym same) ∙ is) drive.root)

pub size-of : (g : Geometry) (x : DriveImage) → IsDrive x → g ≡ x.geometry → length x.ports ≡ queues_of g + 1
size-of g x drive same = drive.ports ∙ ap (λ (h : Geometry). queues_of h + 1) (sym same)

-- the image with its own geometry, under another name
pub same-image : (fuse : FuseName) (fail : Option Failing) (g : Geometry) (x : DriveImage) (ports : Ports EmuPort) → g ≡ x.geometry → AreStarted fuse fail (record { geometry = g; ports = x.ports }) ports → AreStarted fuse fail x ports
same-image fuse fail g x ports same started = subst (λ (h : Geometry). AreStarted fuse fail (record { geometry = h; ports = x.ports }) ports) same started

-- ---- what the ports leave to chance

-- the ports of the queues from this one on are seeded
pub record AreSeededFrom (g : Geometry) (seed n : ℕ) (queues : List EmuPort) : Type 0 where
  pub each : (k : ℕ) (d : EmuPort) → k < length queues → IsSeeded g seed (Queue (n + k)) (get_or queues k d)

seeded-push : (g : Geometry) (seed n : ℕ) (queues : List EmuPort) (p : EmuPort) → AreSeededFrom g seed n queues → IsSeeded g seed (Queue (n + length queues)) p → AreSeededFrom g seed n (queues ++ p ∷ [])
seeded-push g seed n [] p to one = record { each = alone }
  where
    alone : (k : ℕ) (d : EmuPort) → k < 1 → IsSeeded g seed (Queue (n + k)) (get_or (p ∷ []) k d)
    alone zero d low = one
    alone (suc k) d low = absurd (omega (arith, low))
seeded-push g seed n (q ∷ queues) p to one =
    let rest : AreSeededFrom g seed (n + 1) queues = record { each = λ k d low. subst (λ (j : ℕ). IsSeeded g seed (Queue j) (get_or queues k d)) (let e : n + suc k ≡ n + 1 + k = omega arith in e) (to.each (suc k) d (omega (arith, low))) } in
    let last : IsSeeded g seed (Queue (n + 1 + length queues)) p = subst (λ (j : ℕ). IsSeeded g seed (Queue j) p) (let e : n + suc (length queues) ≡ n + 1 + length queues = omega arith in e) one in
    record { each = both (seeded-push g seed (n + 1) queues p rest last) }
  where
    both : AreSeededFrom g seed (n + 1) (queues ++ p ∷ []) → (k : ℕ) (d : EmuPort) → k < suc (length (queues ++ p ∷ [])) → IsSeeded g seed (Queue (n + k)) (get_or (q ∷ (queues ++ p ∷ [])) k d)
    both more zero d low = to.each 0 d (omega arith)
    both more (suc k) d low = subst (λ (j : ℕ). IsSeeded g seed (Queue j) (get_or (queues ++ p ∷ []) k d)) (let e : n + 1 + k ≡ n + suc k = omega arith in e) (more.each k d (omega (arith, low)))

-- the ports of the first n queues are seeded
pub record AreSeededTo (g : Geometry) (seed n : ℕ) (queues : List EmuPort) : Type 0 where
  pub count : length queues ≡ n
  pub from : AreSeededFrom g seed 0 queues

pub first-seeded : (g : Geometry) (seed : ℕ) (queues : List EmuPort) → queues ≡ [] → AreSeededTo g seed 0 queues
first-seeded g seed queues none = subst (AreSeededTo g seed 0) (sym none) (record { count = refl; from = record { each = λ k d low. absurd (omega (arith, low)) } })

pub more-seeded : (g : Geometry) (seed n : ℕ) (queues more : List EmuPort) (p : EmuPort) → AreSeededTo g seed n queues → IsSeeded g seed (Queue n) p → more ≡ queues ++ p ∷ [] → AreSeededTo g seed (n + 1) more
more-seeded g seed n queues more p to one are =
    let count = to.count in
    let last : IsSeeded g seed (Queue (0 + length queues)) p = subst (λ (k : ℕ). IsSeeded g seed (Queue k) p) (let e : n ≡ 0 + length queues = omega (arith, count) in e) one in
    subst (AreSeededTo g seed (n + 1)) (sym are) (record {
      count = length-append queues (p ∷ []) ∙ ap (λ (k : ℕ). k + 1) count;
      from = seeded-push g seed 0 queues p to.from last;
    })

-- with the root's port, all are, of a geometry that is the drive's
pub all-seeded : (g h : Geometry) (seed n : ℕ) (queues : List EmuPort) (ports : Ports EmuPort) → g ≡ h → AreSeededTo g seed n queues → IsSeeded g seed Root ports.root → ports.queues.items ≡ queues → AreSeeded h seed ports
all-seeded g h seed n queues ports same to root are =
    subst (λ (k : Geometry). AreSeeded k seed ports) same (record {
      queues = λ q d low.
          let less : q < length queues = subst (λ (l : List EmuPort). q < length l) are low in
          let own : IsSeeded g seed (Queue q) (get_or queues q d) = subst (λ (k : ℕ). IsSeeded g seed (Queue k) (get_or queues q d)) (let e : 0 + q ≡ q = omega arith in e) (to.from.each q d less) in
          subst (λ (l : List EmuPort). IsSeeded g seed (Queue q) (get_or l q d)) (sym are) own;
      root = root;
    })
