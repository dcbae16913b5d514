-- A desk that is opened over the ports of a journal in which nothing was drawn.
use Rattle.std.specs.Prelude.{◌≡◌, ◌-◌, ◌^◌, ℕ, [], map, slice_get, Some}
use Rattle.mq_ledger.specs.State.{State, IsStart}
use Rattle.mq_ledger.specs.Written.{journal_entries}
use Rattle.mq_pages.specs.declared.page.PageCell.{PageCell}
use Rattle.mq_turns.specs.Meaning.{opened}
use Rattle.mq_turns.specs.declared.rule.Opening.{Opening}
use Rattle.mq_desk_laws.specs.Groups.{GroupView}
use Rattle.mq_desk_laws.specs.Rule.{IsOk, IsPage, IsSide, IsRoot, part_of, shape_of, start_of}
use Rattle.mq_desk_laws.specs.Values.{Values}

module _ {Q R E : Type 0} (values : Values Q R E) (group : GroupView E) where
  -- the journal whose map, ports and root these are
  abbrev pub state_of : Opening PageCell Q R → State
  state_of o = record {
    geometry = shape_of values group o;
    start = map (λ c. c.content) o.pages;
    base = o.base;
    starts = map (λ w. (values.port w).doorbell) o.sides;
    history = [];
    ports = map values.port o.sides;
    root = values.root o.root;
    marks = map (λ w. 2 ^ 64 - 1) o.sides;
    writing = [];
    acknowledged = [];
  }

  -- It is a start of the machine, groups run on its map, and no cell and no side says otherwise.
  pub record IsFresh (o : Opening PageCell Q R) : Type 0 where
    pub start : IsStart journal_entries (state_of o)
    pub good : group.good (shape_of values group o) (start_of values group o)
    pub cells : (b : ℕ) (c : PageCell) → slice_get o.pages b ≡ Some c
        → (c.version ≡ o.base) × (c.last_logged ≡ o.base) × (c.home_version ≡ o.base)
    pub stored : (q : ℕ) (w : Q) → slice_get o.sides q ≡ Some w → values.stored w ≡ []
    pub shape : values.root_says (shape_of values group o) o.root
    pub says : (q : ℕ) (w : Q) → slice_get o.sides q ≡ Some w
        → values.says (part_of values group q (opened o)) w

  -- what lies there is what the rule says of it
  pub record IsRuled (o : Opening PageCell Q R) : Type 0 where
    pub ok : IsOk values group (opened o)
    pub pages : (b : ℕ) (c : PageCell) → slice_get o.pages b ≡ Some c → IsPage values group b (opened o) c
    pub sides : (q : ℕ) (w : Q) → slice_get o.sides q ≡ Some w → IsSide values group q (opened o) w
    pub root : IsRoot values group (opened o) o.root
