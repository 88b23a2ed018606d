-- A loop on its way: what is left of its turns does from here what all of them did from the start.
use Rattle.std.proofs.Common.{◌++◌, ◌≡◌, ℕ, suc, ◌+◌, ◌-◌, ◌<◌, true, false, cond, List, ◌∷◌, map, reverse, Option, None, Result, Ok, Err, inl, refl, sym, ap, subst, ◌∙◌, arith}
use Rattle.liquid_model.specs.Data.{Datum}
use Rattle.liquid_model.specs.Maps.{Map}
use Rattle.liquid_model.specs.declared.error.Error.{Error}
use Rattle.liquid_core.specs.Environment.{Environment, Names, local_of}
use Rattle.liquid_core.specs.Held.{held}
use Rattle.liquid_core.specs.Loops.{loop_scope}
use Rattle.liquid_core.specs.Places.{place_of}
use Rattle.liquid_core.specs.States.{Layers, layers_of, loops_of, merged_layers, enclosing_scopes, with_interrupt, with_scope_popped, with_scope_pushed, with_frame_at}
use Rattle.liquid_core.specs.LoopFrames.{EndsIn, GoesOn, IsNext, WentOn, item_of, loop_name, loop_object, scope_maps, frame_item_at, frame_map_at, without_innermost}
use Rattle.liquid_core.specs.declared.interrupt.Interrupt.{Interrupt}
use Rattle.liquid_core.specs.declared.state.State.{State}
use Rattle.liquid_core.specs.declared.frame.Scope.{Scope}
use Rattle.liquid_core.specs.declared.frame.Scope.TheVariants as variants
use Rattle.liquid_core.specs.declared.frame.LoopFrame.{LoopFrame}
use Rattle.liquid_core.proofs.States.{standing_last, turn_off}
use Rattle.liquid_core.specs.Expression.{Expression}
use Rattle.liquid_model.specs.Texts.{Text}
use Rattle.liquid_evaluation.specs.Names.{node_names, nodes_names, optional_names, source_names, window_names}
use Rattle.liquid_evaluation.specs.Tree.{Nodes, Source, Window, for_each, tablerow}
use Rattle.liquid_meaning.specs.Within.{Within}
use Rattle.liquid_meaning.proofs.Within.{left, right}
use Rattle.liquid_engine.specs.StateKept.{LayersKept}
use Rattle.liquid_engine.specs.inside.LoopRuns.{StartsAt, cells_meant, one_cell, one_turn, turns_meant}
use Rattle.liquid_engine.specs.inside.LoopTurns.{each_from}
use Rattle.liquid_engine.specs.Performs.{Configuration, Meets, Performs, WritesText, unit}
use Rattle.liquid_engine.specs.Sinks.{Sink}
use Rattle.liquid_engine.proofs.Joined.{by_rule, bind_met, bind_faulted, change_met, done_met, read_met, write_met}
use Rattle.liquid_engine.proofs.StateKept.{kept_after, kept_interrupt}
use Rattle.liquid_engine.proofs.LoopItems.{each_more, each_none}
use Rattle.liquid_engine.proofs.PartialRuns.{partial_met}
use Rattle.liquid_engine.proofs.Sinks.{Adds-nil}
use Rattle.liquid_meaning.specs.Effects.{interrupted_by, is_break, take_interrupt}
use Rattle.liquid_meaning.specs.Loops.{cell_end, cell_start, for_all, until_break}
use Rattle.liquid_meaning.specs.Runs.{Nothing, Run, change, done, write, ◌>>=◌, with_scope}
use Rattle.liquid_meaning.proofs.Rules.{all_more, all_none, until_more, until_none}

-- ---- the turns that are left

abbrev pub Leads : Run Nothing → Run Nothing → Configuration → Configuration → Type 0
Leads all rest start here = (r : Result (Unit {0}) Error) (after : Configuration) → Performs r rest here after → Performs r all start after

-- of a `for`, from its k-th turn on
abbrev pub TurnsLead : LoopFrame → Map Datum → Run Nothing → ℕ → ℕ → Configuration → Configuration → Type 0
TurnsLead t local body m k start here = Leads (turns_meant t local body) (until_break (one_turn t local body) k (each_from (frame_item_at t) k (m - k))) start here

-- of a `tablerow`, from its k-th cell on
abbrev pub CellsLead : LoopFrame → ℕ → Map Datum → Run Nothing → ℕ → ℕ → Configuration → Configuration → Type 0
CellsLead t columns local body m k start here = Leads (cells_meant t columns local body) (for_all (one_cell t columns local body) k (each_from (frame_item_at t) k (m - k))) start here

same_after : (k : ℕ) → suc k ≡ k + 1
same_after k = omega arith

all_left : (n m : ℕ) → n ≡ m → n ≡ m - 0
all_left n m is = omega (arith, is)

module _ (t : LoopFrame) (local : Map Datum) (body : Run Nothing) (m : ℕ) where
  pub turns_start : (start : Configuration) → t.count ≡ m → TurnsLead t local body m 0 start start
  turns_start start is r after h =
      subst (λ n. Performs r (until_break (one_turn t local body) 0 (each_from (frame_item_at t) 0 n)) start after) (sym (all_left t.count m is)) h

  turned : (k : ℕ) → k < m → until_break (one_turn t local body) k (each_from (frame_item_at t) k (m - k))
      ≡ (one_turn t local body k (frame_item_at t k) >>= (λ left. cond (is_break left) (done tt) (until_break (one_turn t local body) (k + 1) (each_from (frame_item_at t) (k + 1) (m - (k + 1))))))
  turned k lt =
      ap (until_break (one_turn t local body) k) (each_more (frame_item_at t) k m lt)
      ∙ until_more (one_turn t local body) k (frame_item_at t k) (each_from (frame_item_at t) (k + 1) (m - (k + 1)))
      ∙ ap (λ j. one_turn t local body k (frame_item_at t k) >>= (λ left. cond (is_break left) (done tt) (until_break (one_turn t local body) j (each_from (frame_item_at t) (k + 1) (m - (k + 1)))))) (same_after k)

  module _ (k : ℕ) (start here there : Configuration) where
    abbrev rest : Option Interrupt → Run Nothing
    rest left = cond (is_break left) (done tt) (until_break (one_turn t local body) (k + 1) (each_from (frame_item_at t) (k + 1) (m - (k + 1))))

    pub turn_on : (left : Option Interrupt) → k < m → TurnsLead t local body m k start here → Meets (λ (i : Option Interrupt). i) (Ok left) (one_turn t local body k (frame_item_at t k)) here there → is_break left ≡ false
        → TurnsLead t local body m (k + 1) start there
    turn_on left lt leads ran goes r after h =
        leads r after (by_rule (turned k lt) (bind_met (λ (i : Option Interrupt). i) unit left r (one_turn t local body k (frame_item_at t k)) rest here there after ran
        (subst (λ b. Performs r (cond b (done tt) (until_break (one_turn t local body) (k + 1) (each_from (frame_item_at t) (k + 1) (m - (k + 1))))) there after) (sym goes) h)))

    pub turn_break : (value : Unit {0}) (left : Option Interrupt) → k < m → TurnsLead t local body m k start here → Meets (λ (i : Option Interrupt). i) (Ok left) (one_turn t local body k (frame_item_at t k)) here there → is_break left ≡ true
        → Performs (Ok value) (turns_meant t local body) start there
    turn_break value left lt leads ran stops =
        leads (Ok value) there (by_rule (turned k lt) (bind_met (λ (i : Option Interrupt). i) unit left (Ok value) (one_turn t local body k (frame_item_at t k)) rest here there there ran
        (subst (λ b. Performs (Ok value) (cond b (done tt) (until_break (one_turn t local body) (k + 1) (each_from (frame_item_at t) (k + 1) (m - (k + 1))))) there there) (sym stops) (done_met value there))))

    pub turn_fault : (e : Error) → k < m → TurnsLead t local body m k start here → Meets (λ (i : Option Interrupt). i) (Err e) (one_turn t local body k (frame_item_at t k)) here there → Performs (Err e) (turns_meant t local body) start there
    turn_fault e lt leads ran = leads (Err e) there (by_rule (turned k lt) (bind_faulted (λ (i : Option Interrupt). i) unit e (one_turn t local body k (frame_item_at t k)) rest here there ran))

  pub turns_end : (value : Unit {0}) (k : ℕ) (start here : Configuration) → k ≡ m → TurnsLead t local body m k start here → Performs (Ok value) (turns_meant t local body) start here
  turns_end value k start here last leads =
      leads (Ok value) here (by_rule (ap (until_break (one_turn t local body) k) (each_none (frame_item_at t) k m last) ∙ until_none (one_turn t local body) k) (done_met value here))

module _ (t : LoopFrame) (columns : ℕ) (local : Map Datum) (body : Run Nothing) (m : ℕ) where
  pub cells_start : (start : Configuration) → t.count ≡ m → CellsLead t columns local body m 0 start start
  cells_start start is r after h =
      subst (λ n. Performs r (for_all (one_cell t columns local body) 0 (each_from (frame_item_at t) 0 n)) start after) (sym (all_left t.count m is)) h

  celled : (k : ℕ) → k < m → for_all (one_cell t columns local body) k (each_from (frame_item_at t) k (m - k))
      ≡ (one_cell t columns local body k (frame_item_at t k) >>= (λ a. for_all (one_cell t columns local body) (k + 1) (each_from (frame_item_at t) (k + 1) (m - (k + 1)))))
  celled k lt =
      ap (for_all (one_cell t columns local body) k) (each_more (frame_item_at t) k m lt)
      ∙ all_more (one_cell t columns local body) k (frame_item_at t k) (each_from (frame_item_at t) (k + 1) (m - (k + 1)))
      ∙ ap (λ j. one_cell t columns local body k (frame_item_at t k) >>= (λ a. for_all (one_cell t columns local body) j (each_from (frame_item_at t) (k + 1) (m - (k + 1))))) (same_after k)

  module _ (k : ℕ) (start here there : Configuration) where
    abbrev more : Nothing → Run Nothing
    more a = for_all (one_cell t columns local body) (k + 1) (each_from (frame_item_at t) (k + 1) (m - (k + 1)))

    pub cell_on : (value : Unit {0}) → k < m → CellsLead t columns local body m k start here → Performs (Ok value) (one_cell t columns local body k (frame_item_at t k)) here there → CellsLead t columns local body m (k + 1) start there
    cell_on value lt leads ran r after h = leads r after (by_rule (celled k lt) (bind_met unit unit value r (one_cell t columns local body k (frame_item_at t k)) more here there after ran h))

    pub cell_fault : (e : Error) → k < m → CellsLead t columns local body m k start here → Performs (Err e) (one_cell t columns local body k (frame_item_at t k)) here there → Performs (Err e) (cells_meant t columns local body) start there
    cell_fault e lt leads ran = leads (Err e) there (by_rule (celled k lt) (bind_faulted unit unit e (one_cell t columns local body k (frame_item_at t k)) more here there ran))

  pub cells_end : (value : Unit {0}) (k : ℕ) (start here : Configuration) → k ≡ m → CellsLead t columns local body m k start here → Performs (Ok value) (cells_meant t columns local body) start here
  cells_end value k start here last leads =
      leads (Ok value) here (by_rule (ap (for_all (one_cell t columns local body) k) (each_none (frame_item_at t) k m last) ∙ all_none (one_cell t columns local body) k) (done_met value here))

-- ---- one turn

given_back : {A : Type 0} (a : A) (p : Configuration) → Meets (λ (x : A). x) (Ok a) (done a) p p
unfolding done
given_back a p = inl (record { end = refl; within = refl; adds = Adds-nil p.sink; none_failed = refl; same = refl })

taken : (s : Sink) (e : Environment) → Meets (λ (i : Option Interrupt). i) (Ok e.registers.interrupt) take_interrupt (record { sink = s; environment = e }) (record { sink = s; environment = interrupted_by None e })
taken s e =
    let left = e.registers.interrupt in
    let p : Configuration = record { sink = s; environment = e } in
    let q : Configuration = record { sink = s; environment = interrupted_by None e } in
    read_met (λ (i : Option Interrupt). i) (Ok left) (λ e. e.registers.interrupt) (λ left. change (interrupted_by None) >>= (λ a. done left)) p q
    (bind_met unit (λ (i : Option Interrupt). i) tt (Ok left) (change (interrupted_by None)) (λ a. done left) p q q (change_met (Ok tt) (interrupted_by None) s e (interrupted_by None e) refl) (given_back left q))

-- p before the body, q after it, both with the turn as their innermost scope
module _ (t : LoopFrame) (k : ℕ) (local : Map Datum) (body : Run Nothing) (s u : Sink) (p q : Layers) (pushed : p ≡ with_scope_pushed (frame_map_at t k local) (with_scope_popped p)) (kept : q.scopes ≡ p.scopes) where
  abbrev before : Sink → Configuration
  before sink = record { sink = sink; environment = merged_layers (with_scope_popped p) }

  abbrev after : Configuration
  after = record { sink = u; environment = merged_layers (with_scope_popped q) }

  ran_in : (r : Result (Unit {0}) Error) → Performs r body (record { sink = s; environment = merged_layers p }) (record { sink = u; environment = merged_layers q }) → Performs r (with_scope (frame_map_at t k local) body) (before s) after
  ran_in r h = partial_met (frame_map_at t k local) r body s u (with_scope_popped p) p q (with_scope_popped q) pushed kept refl h

  -- w after the interrupt was cleared
  pub turn_ran : (value : Unit {0}) (w : Layers) → w ≡ with_interrupt None q → Performs (Ok value) body (record { sink = s; environment = merged_layers p }) (record { sink = u; environment = merged_layers q })
      → Meets (λ (i : Option Interrupt). i) (Ok q.registers.interrupt) (one_turn t local body k (frame_item_at t k)) (before s) (record { sink = u; environment = merged_layers (with_scope_popped w) })
  turn_ran value w cleared h =
      subst (λ l. Meets (λ (i : Option Interrupt). i) (Ok q.registers.interrupt) (one_turn t local body k (frame_item_at t k)) (before s) (record { sink = u; environment = merged_layers (with_scope_popped l) })) (sym cleared)
      (bind_met unit (λ (i : Option Interrupt). i) value (Ok q.registers.interrupt) (with_scope (frame_map_at t k local) body) (λ a. take_interrupt) (before s) after (record { sink = u; environment = interrupted_by None (merged_layers (with_scope_popped q)) })
      (ran_in (Ok value) h) (taken u (merged_layers (with_scope_popped q))))

  pub turn_faulted : (e : Error) → Performs (Err e) body (record { sink = s; environment = merged_layers p }) (record { sink = u; environment = merged_layers q })
      → Meets (λ (i : Option Interrupt). i) (Err e) (one_turn t local body k (frame_item_at t k)) (before s) after
  turn_faulted e h = bind_faulted unit (λ (i : Option Interrupt). i) e (with_scope (frame_map_at t k local) body) (λ a. take_interrupt) (before s) after (ran_in (Err e) h)

  -- what a cell does after its beginning
  abbrev inside : ℕ → Nothing → Run Nothing
  inside columns a = with_scope (frame_map_at t k local) body >>= (λ b. write (cell_end k t.count columns))

  pub cell_ran : (columns : ℕ) (x y : Unit {0}) (r : Result (Unit {0}) Error) (first last : Sink) → WritesText (Ok x) (cell_start k columns) first s → Performs (Ok y) body (record { sink = s; environment = merged_layers p }) (record { sink = u; environment = merged_layers q })
      → WritesText r (cell_end k t.count columns) u last → Performs r (one_cell t columns local body k (frame_item_at t k)) (before first) (record { sink = last; environment = merged_layers (with_scope_popped q) })
  cell_ran columns x y r first last opens h closes =
      let end : Configuration = record { sink = last; environment = merged_layers (with_scope_popped q) } in
      bind_met unit unit x r (write (cell_start k columns)) (inside columns) (before first) (before s) end (write_met (Ok x) (cell_start k columns) first s (merged_layers (with_scope_popped p)) opens)
      (bind_met unit unit y r (with_scope (frame_map_at t k local) body) (λ b. write (cell_end k t.count columns)) (before s) after end (ran_in (Ok y) h) (write_met r (cell_end k t.count columns) u last (merged_layers (with_scope_popped q)) closes))

  pub cell_faulted : (columns : ℕ) (x : Unit {0}) (e : Error) (first : Sink) → WritesText (Ok x) (cell_start k columns) first s → Performs (Err e) body (record { sink = s; environment = merged_layers p }) (record { sink = u; environment = merged_layers q })
      → Performs (Err e) (one_cell t columns local body k (frame_item_at t k)) (before first) after
  cell_faulted columns x e first opens h =
      bind_met unit unit x (Err e) (write (cell_start k columns)) (inside columns) (before first) (before s) after (write_met (Ok x) (cell_start k columns) first s (merged_layers (with_scope_popped p)) opens)
      (bind_faulted unit unit e (with_scope (frame_map_at t k local) body) (λ b. write (cell_end k t.count columns)) (before s) after (ran_in (Err e) h))

-- a cell that can't begin
pub cell_unopened : (t : LoopFrame) (k columns : ℕ) (local : Map Datum) (body : Run Nothing) (e : Error) (s u : Sink) (g : Environment) → WritesText (Err e) (cell_start k columns) s u
    → Performs (Err e) (one_cell t columns local body k (frame_item_at t k)) (record { sink = s; environment = g }) (record { sink = u; environment = g })
cell_unopened t k columns local body e s u g h =
    bind_faulted unit unit e (write (cell_start k columns)) (λ a. with_scope (frame_map_at t k local) body >>= (λ b. write (cell_end k t.count columns))) _ _ (write_met (Err e) (cell_start k columns) s u g h)

-- ---- where a loop stands

-- the innermost scope is the loop t in its k-th turn
pub record AtTurn (before : List Scope) (t : LoopFrame) (k : ℕ) (s : State) : Type 0 where
  pub now : LoopFrame
  pub innermost : EndsIn (loops_of s) before now
  pub at : now.at ≡ k
  pub count : now.count ≡ t.count
  pub binds : (j : ℕ) (local : Map Datum) → frame_map_at now j local ≡ frame_map_at t j local

module _ (before : List Scope) (t : LoopFrame) where
  pub at_start : (m : ℕ) (s : State) → StartsAt m s before t → AtTurn before t 0 s
  at_start m s h = record { now = t; innermost = h.innermost; at = h.first; count = refl; binds = λ j local. refl }

  pub at_kept : (k : ℕ) (s u : State) → loops_of u ≡ loops_of s → AtTurn before t k s → AtTurn before t k u
  at_kept k s u same a = record { now = a.now; innermost = same ∙ a.innermost; at = a.at; count = a.count; binds = a.binds }

  next_binds : (old new : LoopFrame) (j : ℕ) (local : Map Datum) → IsNext old new → frame_map_at new j local ≡ frame_map_at old j local
  next_binds old new j local n = λ i. loop_scope (loop_name (n.kind i)) (loop_object (n.kind i) j (n.count i) local) (n.name i).now (item_of (n.items i) (place_of (n.reversed i) (n.from i) (n.count i) j))

  pub at_next : (k : ℕ) (s u : State) → AtTurn before t k s → WentOn (loops_of s) (loops_of u) → AtTurn before t (k + 1) u
  at_next k s u a went =
      let (new, (ends, next)) = went before a.now a.innermost in
      record {
        now = new;
        innermost = ends;
        at = next.at ∙ ap (λ n. n + 1) a.at;
        count = next.count ∙ a.count;
        binds = λ j local. next_binds a.now new j local next ∙ a.binds j local;
      }

  pub at_goes_on : (k m : ℕ) (s : State) → AtTurn before t k s → t.count ≡ m → k + 1 < m → GoesOn (loops_of s)
  at_goes_on k m s a many lt = (before, (a.now, (a.innermost, (let is : a.now.count ≡ m = a.count ∙ many in omega (arith, is, a.at)))))

  pub at_off : (k : ℕ) (s : State) → AtTurn before t k s → without_innermost (loops_of s) ≡ before
  at_off k s a = ap without_innermost a.innermost ∙ turn_off before a.now

  innermost_layers : (u : LoopFrame) (s : State) → EndsIn (loops_of s) before u → layers_of s ≡ with_frame_at u u.at (layers_of s)
  unfolding layers_of
  innermost_layers u s e =
      let outer = reverse (map held s.scopes.items) in
      let was : scope_maps s.frames.items outer ≡ frame_map_at u u.at (local_of (scope_maps before outer)) ∷ scope_maps before outer = ap (λ l. scope_maps l outer) e ∙ standing_last before (variants.LoopFrame u) outer in
      let again : scope_maps s.frames.items outer ≡ frame_map_at u u.at (local_of (enclosing_scopes (scope_maps s.frames.items outer))) ∷ enclosing_scopes (scope_maps s.frames.items outer) =
      was ∙ sym (ap (λ l. frame_map_at u u.at (local_of (enclosing_scopes l)) ∷ enclosing_scopes l) was) in
      λ i. record (layers_of s) { scopes = again i }

  -- it stands over the scopes that are after it
  pub at_pushed : (k : ℕ) (s : State) (scopes : List (Map Datum)) → AtTurn before t k s → enclosing_scopes (layers_of s).scopes ≡ scopes
      → layers_of s ≡ with_scope_pushed (frame_map_at t k (local_of scopes)) (with_scope_popped (layers_of s))
  at_pushed k s scopes a over =
      innermost_layers a.now s a.innermost
      ∙ (λ i. with_frame_at a.now (a.at i) (layers_of s))
      ∙ (λ i. with_scope_pushed (a.binds k (local_of (enclosing_scopes (layers_of s).scopes)) i) (with_scope_popped (layers_of s)))
      ∙ (λ i. with_scope_pushed (frame_map_at t k (local_of (over i))) (with_scope_popped (layers_of s)))

-- the next turn stands over the same scopes
pub enclosing_after_advance : (t : LoopFrame) (k : ℕ) (l n : Layers) → n ≡ with_frame_at t k l → with_scope_popped n ≡ with_scope_popped l
enclosing_after_advance t k l n is = ap with_scope_popped is

-- ---- what is kept

pub kept_inside : (N : Names) (p q : Layers) → LayersKept N p q → LayersKept N (with_scope_popped p) (with_scope_popped q)
kept_inside N p q k = record { scopes = ap enclosing_scopes k.scopes; globals = k.globals; assigned = k.assigned; counters = k.counters; missing = k.missing }

-- a further turn: l at the start, p before it, q after its body, w after the interrupt was cleared
pub kept_turn : (N : Names) (l p q w : Layers) → LayersKept N (with_scope_popped l) (with_scope_popped p) → LayersKept N p q → w ≡ with_interrupt None q → LayersKept N (with_scope_popped l) (with_scope_popped w)
kept_turn N l p q w before body cleared =
    kept_after N _ _ _ before (kept_after N _ _ _ (kept_inside N p q body) (kept_interrupt N None (with_scope_popped q) (with_scope_popped w) (ap with_scope_popped cleared)))

pub kept_cell : (N : Names) (l p q : Layers) → LayersKept N (with_scope_popped l) (with_scope_popped p) → LayersKept N p q → LayersKept N (with_scope_popped l) (with_scope_popped q)
kept_cell N l p q before body = kept_after N _ _ _ before (kept_inside N p q body)

-- ---- around a loop

-- l before it is pushed, p after that, q after its turns, z after it is popped
module _ (scope : Map Datum) (l p q z : Layers) (pushed : p ≡ with_scope_pushed scope l) (popped : z ≡ with_scope_popped q) where
  pub from_enclosing : (r : Result (Unit {0}) Error) (m : Map Datum → Run Nothing) (s u : Sink) → Performs r (m (local_of (enclosing_scopes p.scopes))) (record { sink = s; environment = merged_layers (with_scope_popped p) }) (record { sink = u; environment = merged_layers (with_scope_popped q) })
      → Performs r (m (local_of l.scopes)) (record { sink = s; environment = merged_layers l }) (record { sink = u; environment = merged_layers z })
  from_enclosing r m s u h =
      subst (λ n. Performs r (m (local_of l.scopes)) (record { sink = s; environment = merged_layers l }) (record { sink = u; environment = merged_layers n })) (sym popped)
      (subst (λ n. Performs r (m (local_of (enclosing_scopes n.scopes))) (record { sink = s; environment = merged_layers (with_scope_popped n) }) (record { sink = u; environment = merged_layers (with_scope_popped q) })) pushed h)

  pub kept_from_enclosing : (N : Names) → LayersKept N (with_scope_popped p) (with_scope_popped q) → LayersKept N l z
  kept_from_enclosing N k = subst (LayersKept N l) (sym popped) (subst (λ n. LayersKept N (with_scope_popped n) (with_scope_popped q)) pushed k)

-- ---- the names of the bodies

pub for_within : (N : Names) (name : Text) (source : Source) (window : Window) (body otherwise : Nodes) → Within N (node_names (for_each name source window body otherwise)) → Within N (nodes_names body) × Within N (nodes_names otherwise)
unfolding node_names
for_within N name source window body otherwise h =
    let bodies = right N (window_names window) (nodes_names body ++ nodes_names otherwise) (right N (source_names source) (window_names window ++ (nodes_names body ++ nodes_names otherwise)) h.1.1) in
    (left N (nodes_names body) (nodes_names otherwise) bodies, right N (nodes_names body) (nodes_names otherwise) bodies)

pub row_within : (N : Names) (name : Text) (source : Source) (window : Window) (columns : Option Expression) (body : Nodes) → Within N (node_names (tablerow name source window columns body)) → Within N (nodes_names body)
unfolding node_names
row_within N name source window columns body h =
    right N (window_names window) (nodes_names body)
    (right N (optional_names columns) (window_names window ++ nodes_names body) (right N (source_names source) (optional_names columns ++ (window_names window ++ nodes_names body)) h.1.1))
