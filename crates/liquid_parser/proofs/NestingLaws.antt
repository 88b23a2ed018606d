-- The stack of open blocks reads just what the grammar of blocks says.
use Rattle.std.proofs.Common.{◌≡◌, ℕ, suc, ◌+◌, ◌-◌, ◌<◌, ◌≤◌, List, [], ◌∷◌, Bool, true, false, cond, nat_lt, Option, Some, None, option_map, refl, sym, ap, ◌∙◌, subst, arith}
use Rattle.std.proofs.lemmas.Bool.Decides.{nat_tests}
use Rattle.liquid_core.specs.Expression.{Expression}
use Rattle.liquid_evaluation.specs.Tree.{Node, Nodes, no_nodes, node, Whens, no_whens, when}
use Rattle.liquid_parser.specs.Nesting.{Opening, of_one, of_two, of_many, Statement, leaf, closed, begins, elsif, arm, otherwise, ends, refused, AreNodes, none, is_leaf, is_closed, is_block, IsBlock, one, two, many, IsLast, no_else, is_else, IsElse, is_last, is_elsif, AreWhens, no_more, is_when}
use Rattle.liquid_parser.specs.OpenBlocks.{append, with_node, Reading, last, first, case_head, when_body, begun, context_in, ended, else_of, when_of, elsif_of, Level, level, context_of, deeper, block_depth, close, statement_step, to_closed, to_begin, go, read_pieces}
use Rattle.liquid_language.specs.declared.block.Block.{Block}
use Rattle.liquid_language.specs.declared.block.BlockContext.{BlockContext}
use Rattle.liquid_language.specs.declared.block.BlockContext.TheVariants.{Outside, InBody, InLast}

pub append-assoc : (f g h : Nodes) → append (append f g) h ≡ append f (append g h)
append-assoc no_nodes g h = refl
append-assoc (node n f) g h = ap (node n) (append-assoc f g h)

pub append-none : (f : Nodes) → append f no_nodes ≡ f
append-none no_nodes = refl
append-none (node n f) = ap (node n) (append-none f)

pub some_room : (d : ℕ) → d < 200 → nat_lt d 200 ≡ true
some_room d h = grind (arith, nat_tests)

room_is : (d : ℕ) → nat_lt d 200 ≡ true → d < 200
room_is d h = grind (arith, nat_tests)

-- a statement by which a piece stands in the grammar
abbrev pub Stands : Statement → Type 0
Stands (leaf n) = Unit {0}
Stands (closed n) = Unit {0}
Stands (begins o) = Unit {0}
Stands (elsif next) = Unit {0}
Stands (arm vs) = Unit {0}
Stands otherwise = Unit {0}
Stands ends = Unit {0}
Stands refused = ⊥

module _ {P : Type 0} (Is : BlockContext → P → Statement → Type 0) (reads : BlockContext → P → Statement) (says : (x : BlockContext) (p : P) (l : Statement) → Is x p l → reads x p ≡ l) (stands : (x : BlockContext) (p : P) (l : Statement) → Stands l → reads x p ≡ l → Is x p l) where
  -- ---- what stands in the grammar is read

  turn : (x : BlockContext) (p : P) (l : Statement) (ps : List P) (ls : List Level) (cur : Nodes) → context_of ls ≡ x → Is x p l → read_pieces reads (p ∷ ps) ls cur ≡ go (read_pieces reads ps) (statement_step l ls cur)
  turn x p l ps ls cur e h = ap (λ (y : BlockContext). go (read_pieces reads ps) (statement_step (reads y p) ls cur)) e ∙ ap (λ (l : Statement). go (read_pieces reads ps) (statement_step l ls cur)) (says x p l h)

  begin_turn : (o : Opening) (ps : List P) (ls : List Level) (cur : Nodes) → block_depth ls < 200 → go (read_pieces reads ps) (to_begin o ls cur) ≡ read_pieces reads ps (level (begun o) cur false ∷ ls) no_nodes
  begin_turn o ps ls cur h = ap (λ (b : Bool). go (read_pieces reads ps) (cond b (Some (level (begun o) cur false ∷ ls, no_nodes)) None)) (some_room (block_depth ls) h)

  closed_turn : (n : Node) (ps : List P) (ls : List Level) (cur : Nodes) → block_depth ls < 200 → go (read_pieces reads ps) (to_closed n ls cur) ≡ read_pieces reads ps ls (with_node cur n)
  closed_turn n ps ls cur h = ap (λ (b : Bool). go (read_pieces reads ps) (cond b (Some (ls, with_node cur n)) None)) (some_room (block_depth ls) h)

  -- the body that is being read can be ended by a `when` and an `else`, with this node
  record Arms (b : Block) (r : Reading) (cur : Nodes) (make : Whens → Nodes → Node) : Type 0 where
    context : context_in r ≡ InBody b
    at_end : ended r cur ≡ make no_whens no_nodes
    at_else : else_of r cur ≡ Some (last b (make no_whens))
    at_when : (vs : List Expression) → when_of vs r cur ≡ Some (when_body b (λ g ws o. make (when vs g ws) o))

  mutual
    pub nodes_again : {x : BlockContext} {d : ℕ} {f : Nodes} {ps rest : List P} → AreNodes Is x d f ps rest → (ls : List Level) (cur : Nodes) → context_of ls ≡ x → block_depth ls + d ≤ 200
        → read_pieces reads ps ls cur ≡ read_pieces reads rest ls (append cur f)
    nodes_again (none {ps = ps}) ls cur e m = ap (read_pieces reads ps ls) (sym (append-none cur))
    nodes_again (is_leaf {x = x} {p = p} {n = n} {f = f} {ps = ps} {rest = rest} r ns) ls cur e m =
        turn x p (leaf n) ps ls cur e r ∙ nodes_again ns ls (with_node cur n) e m ∙ ap (read_pieces reads rest ls) (append-assoc cur (node n no_nodes) f)
    nodes_again (is_closed {x = x} {d = d} {p = p} {n = n} {f = f} {ps = ps} {rest = rest} r ns) ls cur e m =
        turn x p (closed n) ps ls cur e r
        ∙ closed_turn n ps ls cur (omega (arith, m))
        ∙ nodes_again ns ls (with_node cur n) e m
        ∙ ap (read_pieces reads rest ls) (append-assoc cur (node n no_nodes) f)
    nodes_again (is_block {x = x} {d = d} {p = p} {o = o} {n = n} {f = f} {ps = ps} {after = after} {rest = rest} r b ns) ls cur e m =
        turn x p (begins o) ps ls cur e r
        ∙ begin_turn o ps ls cur (omega (arith, m))
        ∙ block_again b cur ls (omega (arith, m))
        ∙ nodes_again ns ls (with_node cur n) e m
        ∙ ap (read_pieces reads rest ls) (append-assoc cur (node n no_nodes) f)

    block_again : {d : ℕ} {o : Opening} {n : Node} {ps rest : List P} → IsBlock Is d o n ps rest → (cur : Nodes) (ls : List Level) → suc (block_depth ls) + d ≤ 200
        → read_pieces reads ps (level (begun o) cur false ∷ ls) no_nodes ≡ read_pieces reads rest ls (with_node cur n)
    block_again (one {b = b} {make = make} {f = f} {q = q} {rest = rest} ns e) cur ls m =
        nodes_again ns (level (last b make) cur false ∷ ls) no_nodes refl m ∙ turn (InLast b) q ends rest (level (last b make) cur false ∷ ls) f refl e
    block_again (two {b = b} {make = make} {f = f} ns os) cur ls m =
        nodes_again ns (level (first b make) cur false ∷ ls) no_nodes refl m ∙ else_again os make cur false ls f m
    block_again (many {b = b} {make = make} {case_head = f} ns ws) cur ls m =
        nodes_again ns (level (case_head b make) cur false ∷ ls) no_nodes refl m
        ∙ whens_again ws (case_head b make) make cur false ls f (record { context = refl; at_end = refl; at_else = refl; at_when = λ vs. refl }) m

    else_again : {b : Block} {d : ℕ} {o : Nodes} {ps rest : List P} → IsElse Is b d o ps rest → (make : Nodes → Nodes → Node) (f : Nodes) (k : Bool) (ls : List Level) (cur : Nodes) → deeper k (block_depth ls) + d ≤ 200
        → read_pieces reads ps (level (first b make) f k ∷ ls) cur ≡ go (read_pieces reads rest) (close k ls (with_node f (make cur o)))
    else_again (is_last {b = b} os) make f k ls cur m = last_again os (first b make) (make cur) f k ls cur refl refl refl m
    else_again (is_elsif {b = b} {p = p} {make = next} {f = g} {o = o} {ps = ps} r ns os) make f k ls cur m =
        turn (InBody b) p (elsif next) ps (level (first b make) f k ∷ ls) cur refl r
        ∙ nodes_again ns (level (first b next) no_nodes true ∷ level (last b (make cur)) f k ∷ ls) no_nodes refl m
        ∙ else_again os next no_nodes true (level (last b (make cur)) f k ∷ ls) g m

    last_again : {b : Block} {d : ℕ} {o : Nodes} {ps rest : List P} → IsLast Is b d o ps rest → (r : Reading) (make : Nodes → Node) (f : Nodes) (k : Bool) (ls : List Level) (cur : Nodes)
        → context_in r ≡ InBody b → ended r cur ≡ make no_nodes → else_of r cur ≡ Some (last b make) → deeper k (block_depth ls) + d ≤ 200
        → read_pieces reads ps (level r f k ∷ ls) cur ≡ go (read_pieces reads rest) (close k ls (with_node f (make o)))
    last_again (no_else {b = b} {p = p} {rest = rest} s) r make f k ls cur x e h m =
        turn (InBody b) p ends rest (level r f k ∷ ls) cur x s ∙ ap (λ (n : Node). go (read_pieces reads rest) (close k ls (with_node f n))) e
    last_again (is_else {b = b} {p = p} {q = q} {o = o} {ps = ps} {rest = rest} s ns t) r make f k ls cur x e h m =
        turn (InBody b) p otherwise ps (level r f k ∷ ls) cur x s
        ∙ ap (λ (o : Option Reading). go (read_pieces reads ps) (option_map (λ s. (level s f k ∷ ls, no_nodes)) o)) h
        ∙ nodes_again ns (level (last b make) f k ∷ ls) no_nodes refl m
        ∙ turn (InLast b) q ends rest (level (last b make) f k ∷ ls) o refl t

    whens_again : {b : Block} {d : ℕ} {ws : Whens} {o : Nodes} {ps rest : List P} → AreWhens Is b d ws o ps rest → (r : Reading) (make : Whens → Nodes → Node) (f : Nodes) (k : Bool) (ls : List Level) (cur : Nodes)
        → Arms b r cur make → deeper k (block_depth ls) + d ≤ 200
        → read_pieces reads ps (level r f k ∷ ls) cur ≡ go (read_pieces reads rest) (close k ls (with_node f (make ws o)))
    whens_again (no_more os) r make f k ls cur a m = last_again os r (make no_whens) f k ls cur a.context a.at_end a.at_else m
    whens_again (is_when {b = b} {p = p} {vs = vs} {f = g} {ps = ps} s ns ws) r make f k ls cur a m =
        let next : Nodes → Whens → Nodes → Node = λ g ws o. make (when vs g ws) o in
        turn (InBody b) p (arm vs) ps (level r f k ∷ ls) cur a.context s
        ∙ ap (λ (o : Option Reading). go (read_pieces reads ps) (option_map (λ s. (level s f k ∷ ls, no_nodes)) o)) (a.at_when vs)
        ∙ nodes_again ns (level (when_body b next) f k ∷ ls) no_nodes refl m
        ∙ whens_again ws (when_body b next) (next g) f k ls g (record { context = refl; at_end = refl; at_else = refl; at_when = λ us. refl }) m

  -- ---- what is read stands in the grammar

  -- the pieces go on so that the block, whose body is being read, is the node n
  Rest : Reading → ℕ → Nodes → Node → List P → List P → Type 0
  Rest (last b make) d cur n ps rest = (g : Nodes) × (q : P) × AreNodes Is (InLast b) d g ps (q ∷ rest) × (Is (InLast b) q ends) × (n ≡ make (append cur g))
  Rest (first b make) d cur n ps rest = (g : Nodes) × (after : List P) × (o : Nodes) × AreNodes Is (InBody b) d g ps after × IsElse Is b d o after rest × (n ≡ make (append cur g) o)
  Rest (case_head b make) d cur n ps rest = (g : Nodes) × (after : List P) × (ws : Whens) × (o : Nodes) × AreNodes Is (InBody b) d g ps after × AreWhens Is b d ws o after rest × (n ≡ make ws o)
  Rest (when_body b make) d cur n ps rest = (g : Nodes) × (after : List P) × (ws : Whens) × (o : Nodes) × AreNodes Is (InBody b) d g ps after × AreWhens Is b d ws o after rest × (n ≡ make (append cur g) ws o)

  -- the pieces go on so that the tree is t. The truth value says that a block has just ended, by whose end the one around it ends
  Completes : Bool → List Level → Nodes → List P → Nodes → Type 0
  Completes true [] cur ps t = ⊥
  Completes true (level r f k ∷ ls) cur ps t = Completes k ls (with_node f (ended r cur)) ps t
  Completes false [] cur ps t = (f : Nodes) × AreNodes Is Outside 200 f ps [] × (t ≡ append cur f)
  Completes false (level r f k ∷ ls) cur ps t = (n : Node) × (rest : List P) × Rest r (200 - deeper k (block_depth ls)) cur n ps rest × Completes k ls (with_node f n) rest t

  rest_leaf : (p : P) (m : Node) (r : Reading) (d : ℕ) (cur : Nodes) (n : Node) (ps rest : List P) → Is (context_in r) p (leaf m) → Rest r d (with_node cur m) n ps rest → Rest r d cur n (p ∷ ps) rest
  unfolding Rest
  rest_leaf p m (last b make) d cur n ps rest s (g, q, ns, e, is) = (node m g, q, is_leaf s ns, e, is ∙ ap make (append-assoc cur (node m no_nodes) g))
  rest_leaf p m (first b make) d cur n ps rest s (g, after, o, ns, os, is) = (node m g, after, o, is_leaf s ns, os, is ∙ ap (λ (f : Nodes). make f o) (append-assoc cur (node m no_nodes) g))
  rest_leaf p m (case_head b make) d cur n ps rest s (g, after, ws, o, ns, os, is) = (node m g, after, ws, o, is_leaf s ns, os, is)
  rest_leaf p m (when_body b make) d cur n ps rest s (g, after, ws, o, ns, os, is) = (node m g, after, ws, o, is_leaf s ns, os, is ∙ ap (λ (f : Nodes). make f ws o) (append-assoc cur (node m no_nodes) g))

  rest_closed : (p : P) (m : Node) (r : Reading) (d : ℕ) (cur : Nodes) (n : Node) (ps rest : List P) → Is (context_in r) p (closed m) → Rest r (suc d) (with_node cur m) n ps rest → Rest r (suc d) cur n (p ∷ ps) rest
  unfolding Rest
  rest_closed p m (last b make) d cur n ps rest s (g, q, ns, e, is) = (node m g, q, is_closed s ns, e, is ∙ ap make (append-assoc cur (node m no_nodes) g))
  rest_closed p m (first b make) d cur n ps rest s (g, after, o, ns, os, is) = (node m g, after, o, is_closed s ns, os, is ∙ ap (λ (f : Nodes). make f o) (append-assoc cur (node m no_nodes) g))
  rest_closed p m (case_head b make) d cur n ps rest s (g, after, ws, o, ns, os, is) = (node m g, after, ws, o, is_closed s ns, os, is)
  rest_closed p m (when_body b make) d cur n ps rest s (g, after, ws, o, ns, os, is) = (node m g, after, ws, o, is_closed s ns, os, is ∙ ap (λ (f : Nodes). make f ws o) (append-assoc cur (node m no_nodes) g))

  rest_block : (p : P) (o : Opening) (m : Node) (r : Reading) (d : ℕ) (cur : Nodes) (n : Node) (ps after rest : List P) → Is (context_in r) p (begins o) → IsBlock Is d o m ps after
      → Rest r (suc d) (with_node cur m) n after rest → Rest r (suc d) cur n (p ∷ ps) rest
  unfolding Rest
  rest_block p o m (last b make) d cur n ps after rest s is_b (g, q, ns, e, is) = (node m g, q, is_block s is_b ns, e, is ∙ ap make (append-assoc cur (node m no_nodes) g))
  rest_block p o m (first b make) d cur n ps after rest s is_b (g, later, os, ns, h, is) = (node m g, later, os, is_block s is_b ns, h, is ∙ ap (λ (f : Nodes). make f os) (append-assoc cur (node m no_nodes) g))
  rest_block p o m (case_head b make) d cur n ps after rest s is_b (g, later, ws, os, ns, h, is) = (node m g, later, ws, os, is_block s is_b ns, h, is)
  rest_block p o m (when_body b make) d cur n ps after rest s is_b (g, later, ws, os, ns, h, is) = (node m g, later, ws, os, is_block s is_b ns, h, is ∙ ap (λ (f : Nodes). make f ws os) (append-assoc cur (node m no_nodes) g))

  -- a block that has begun is whole
  rest_begun : (o : Opening) (d : ℕ) (n : Node) (ps rest : List P) → Rest (begun o) d no_nodes n ps rest → IsBlock Is d o n ps rest
  unfolding Rest
  rest_begun (of_one b make) d n ps rest (g, q, ns, e, is) = subst (λ (m : Node). IsBlock Is d (of_one b make) m ps rest) (sym is) (one ns e)
  rest_begun (of_two b make) d n ps rest (g, after, o, ns, os, is) = subst (λ (m : Node). IsBlock Is d (of_two b make) m ps rest) (sym is) (two ns os)
  rest_begun (of_many b make) d n ps rest (g, after, ws, o, ns, os, is) = subst (λ (m : Node). IsBlock Is d (of_many b make) m ps rest) (sym is) (many ns os)

  rest_ends : (p : P) (r : Reading) (d : ℕ) (cur : Nodes) (rest : List P) → Is (context_in r) p ends → Rest r d cur (ended r cur) (p ∷ rest) rest
  unfolding Rest
  rest_ends p (last b make) d cur rest s = (no_nodes, p, none, s, ap make (sym (append-none cur)))
  rest_ends p (first b make) d cur rest s = (no_nodes, p ∷ rest, no_nodes, none, is_last (no_else s), ap (λ (f : Nodes). make f no_nodes) (sym (append-none cur)))
  rest_ends p (case_head b make) d cur rest s = (no_nodes, p ∷ rest, no_whens, no_nodes, none, no_more (no_else s), refl)
  rest_ends p (when_body b make) d cur rest s = (no_nodes, p ∷ rest, no_whens, no_nodes, none, no_more (no_else s), ap (λ (f : Nodes). make f no_whens no_nodes) (sym (append-none cur)))

  rest_else : (p : P) (r s : Reading) (d : ℕ) (cur : Nodes) (n : Node) (ps rest : List P) → Is (context_in r) p otherwise → else_of r cur ≡ Some s → Rest s d no_nodes n ps rest → Rest r d cur n (p ∷ ps) rest
  unfolding Rest
  rest_else p (last b make) s d cur n ps rest w e h = absurd cc
  rest_else p (first b make) s d cur n ps rest w e h =
      let same : s ≡ last b (make cur) = cc in
      let (g, q, ns, t, is) = subst (λ (s : Reading). Rest s d no_nodes n ps rest) same h in
      (no_nodes, p ∷ ps, g, none, is_last (is_else w ns t), is ∙ ap (λ (f : Nodes). make f g) (sym (append-none cur)))
  rest_else p (case_head b make) s d cur n ps rest w e h =
      let same : s ≡ last b (make no_whens) = cc in
      let (g, q, ns, t, is) = subst (λ (s : Reading). Rest s d no_nodes n ps rest) same h in
      (no_nodes, p ∷ ps, no_whens, g, none, no_more (is_else w ns t), is)
  rest_else p (when_body b make) s d cur n ps rest w e h =
      let same : s ≡ last b (make cur no_whens) = cc in
      let (g, q, ns, t, is) = subst (λ (s : Reading). Rest s d no_nodes n ps rest) same h in
      (no_nodes, p ∷ ps, no_whens, g, none, no_more (is_else w ns t), is ∙ ap (λ (f : Nodes). make f no_whens g) (sym (append-none cur)))

  rest_when : (p : P) (vs : List Expression) (r s : Reading) (d : ℕ) (cur : Nodes) (n : Node) (ps rest : List P) → Is (context_in r) p (arm vs) → when_of vs r cur ≡ Some s → Rest s d no_nodes n ps rest → Rest r d cur n (p ∷ ps) rest
  unfolding Rest
  rest_when p vs (last b make) s d cur n ps rest w e h = absurd cc
  rest_when p vs (first b make) s d cur n ps rest w e h = absurd cc
  rest_when p vs (case_head b make) s d cur n ps rest w e h =
      let same : s ≡ when_body b (λ g ws o. make (when vs g ws) o) = cc in
      let (g, after, ws, o, ns, t, is) = subst (λ (s : Reading). Rest s d no_nodes n ps rest) same h in
      (no_nodes, p ∷ ps, when vs g ws, o, none, is_when w ns t, is)
  rest_when p vs (when_body b make) s d cur n ps rest w e h =
      let same : s ≡ when_body b (λ g ws o. make cur (when vs g ws) o) = cc in
      let (g, after, ws, o, ns, t, is) = subst (λ (s : Reading). Rest s d no_nodes n ps rest) same h in
      (no_nodes, p ∷ ps, when vs g ws, o, none, is_when w ns t, is ∙ ap (λ (f : Nodes). make f (when vs g ws) o) (sym (append-none cur)))

  more_leaf : (p : P) (m : Node) (ls : List Level) (cur : Nodes) (ps : List P) (t : Nodes) → Is (context_of ls) p (leaf m) → Completes false ls (with_node cur m) ps t → Completes false ls cur (p ∷ ps) t
  unfolding Completes
  more_leaf p m [] cur ps t s (f, ns, e) = (node m f, is_leaf s ns, e ∙ append-assoc cur (node m no_nodes) f)
  more_leaf p m (level r f k ∷ ls) cur ps t s (n, rest, h, c) = (n, rest, rest_leaf p m r (200 - deeper k (block_depth ls)) cur n ps rest s h, c)

  rest_deeper : (p : P) (o : Opening) (m : Node) (r : Reading) (e : ℕ) (cur : Nodes) (n : Node) (ps after rest : List P) → e < 200 → Is (context_in r) p (begins o) → IsBlock Is (200 - suc e) o m ps after
      → Rest r (200 - e) (with_node cur m) n after rest → Rest r (200 - e) cur n (p ∷ ps) rest
  rest_deeper p o m r e cur n ps after rest l s b h =
      let is : 200 - e ≡ suc (200 - suc e) = omega (arith, l) in
      subst (λ (d : ℕ). Rest r d cur n (p ∷ ps) rest) (sym is) (rest_block p o m r (200 - suc e) cur n ps after rest s b (subst (λ (d : ℕ). Rest r d (with_node cur m) n after rest) is h))

  rest_closed_deeper : (p : P) (m : Node) (r : Reading) (e : ℕ) (cur : Nodes) (n : Node) (ps rest : List P) → e < 200 → Is (context_in r) p (closed m) → Rest r (200 - e) (with_node cur m) n ps rest → Rest r (200 - e) cur n (p ∷ ps) rest
  rest_closed_deeper p m r e cur n ps rest l s h =
      let is : 200 - e ≡ suc (200 - suc e) = omega (arith, l) in
      subst (λ (d : ℕ). Rest r d cur n (p ∷ ps) rest) (sym is) (rest_closed p m r (200 - suc e) cur n ps rest s (subst (λ (d : ℕ). Rest r d (with_node cur m) n ps rest) is h))

  more_closed : (p : P) (m : Node) (ls : List Level) (cur : Nodes) (ps : List P) (t : Nodes) → block_depth ls < 200 → Is (context_of ls) p (closed m) → Completes false ls (with_node cur m) ps t → Completes false ls cur (p ∷ ps) t
  unfolding Completes
  more_closed p m [] cur ps t l s (f, ns, e) = (node m f, is_closed s ns, e ∙ append-assoc cur (node m no_nodes) f)
  more_closed p m (level r f k ∷ ls) cur ps t l s (n, rest, h, c) = (n, rest, rest_closed_deeper p m r (deeper k (block_depth ls)) cur n ps rest l s h, c)

  more_block : (p : P) (o : Opening) (m : Node) (ls : List Level) (cur : Nodes) (ps after : List P) (t : Nodes) → block_depth ls < 200 → Is (context_of ls) p (begins o) → IsBlock Is (200 - suc (block_depth ls)) o m ps after
      → Completes false ls (with_node cur m) after t → Completes false ls cur (p ∷ ps) t
  unfolding Completes
  more_block p o m [] cur ps after t l s b (f, ns, e) = (node m f, is_block s b ns, e ∙ append-assoc cur (node m no_nodes) f)
  more_block p o m (level r f k ∷ ls) cur ps after t l s b (n, rest, h, c) = (n, rest, rest_deeper p o m r (deeper k (block_depth ls)) cur n ps after rest l s b h, c)

  module _ (t : Nodes) (ps : List P) (more : (ls : List Level) (cur : Nodes) → read_pieces reads ps ls cur ≡ Some t → Completes false ls cur ps t) where
    close_takes : (k : Bool) (ls : List Level) (cur : Nodes) → go (read_pieces reads ps) (close k ls cur) ≡ Some t → Completes k ls cur ps t
    unfolding Completes
    close_takes false ls cur h = more ls cur h
    close_takes true [] cur h = absurd cc
    close_takes true (level r f k ∷ ls) cur h = close_takes k ls (with_node f (ended r cur)) h

    begin_takes : (p : P) (o : Opening) (ls : List Level) (cur : Nodes) (room : Bool) → nat_lt (block_depth ls) 200 ≡ room → Is (context_of ls) p (begins o)
        → go (read_pieces reads ps) (cond room (Some (level (begun o) cur false ∷ ls, no_nodes)) None) ≡ Some t → Completes false ls cur (p ∷ ps) t
    unfolding Completes
    begin_takes p o ls cur false e s h = absurd cc
    begin_takes p o ls cur true e s h =
        let (n, rest, r, c) = more (level (begun o) cur false ∷ ls) no_nodes h in
        more_block p o n ls cur ps rest t (room_is (block_depth ls) e) s (rest_begun o (200 - suc (block_depth ls)) n ps rest r) c

    closed_takes : (p : P) (m : Node) (ls : List Level) (cur : Nodes) (room : Bool) → nat_lt (block_depth ls) 200 ≡ room → Is (context_of ls) p (closed m)
        → go (read_pieces reads ps) (cond room (Some (ls, with_node cur m)) None) ≡ Some t → Completes false ls cur (p ∷ ps) t
    closed_takes p m ls cur false e s h = absurd cc
    closed_takes p m ls cur true e s h = more_closed p m ls cur ps t (room_is (block_depth ls) e) s (more ls (with_node cur m) h)

    else_takes : (p : P) (r : Reading) (f : Nodes) (k : Bool) (ls : List Level) (cur : Nodes) (to : Option Reading) → else_of r cur ≡ to → Is (context_in r) p otherwise
        → go (read_pieces reads ps) (option_map (λ s. (level s f k ∷ ls, no_nodes)) to) ≡ Some t → Completes false (level r f k ∷ ls) cur (p ∷ ps) t
    unfolding Completes
    else_takes p r f k ls cur None e s h = absurd cc
    else_takes p r f k ls cur (Some to) e s h =
        let (n, rest, d, c) = more (level to f k ∷ ls) no_nodes h in
        (n, rest, rest_else p r to (200 - deeper k (block_depth ls)) cur n ps rest s e d, c)

    when_takes : (p : P) (vs : List Expression) (r : Reading) (f : Nodes) (k : Bool) (ls : List Level) (cur : Nodes) (to : Option Reading) → when_of vs r cur ≡ to → Is (context_in r) p (arm vs)
        → go (read_pieces reads ps) (option_map (λ s. (level s f k ∷ ls, no_nodes)) to) ≡ Some t → Completes false (level r f k ∷ ls) cur (p ∷ ps) t
    unfolding Completes
    when_takes p vs r f k ls cur None e s h = absurd cc
    when_takes p vs r f k ls cur (Some to) e s h =
        let (n, rest, d, c) = more (level to f k ∷ ls) no_nodes h in
        (n, rest, rest_when p vs r to (200 - deeper k (block_depth ls)) cur n ps rest s e d, c)

    elsif_takes : (p : P) (next : Nodes → Nodes → Node) (r : Reading) (f : Nodes) (k : Bool) (ls : List Level) (cur : Nodes) → Is (context_in r) p (elsif next)
        → go (read_pieces reads ps) (option_map (λ s. (level s.1 no_nodes true ∷ level s.0 f k ∷ ls, no_nodes)) (elsif_of next r cur)) ≡ Some t → Completes false (level r f k ∷ ls) cur (p ∷ ps) t
    unfolding Completes Rest
    elsif_takes p next (last b make) f k ls cur s h = absurd cc
    elsif_takes p next (first b make) f k ls cur s h =
        let (n, rest, (g, after, o, ns, os, is), c) = more (level (first b next) no_nodes true ∷ level (last b (make cur)) f k ∷ ls) no_nodes h in
        let e : IsElse Is b (200 - deeper k (block_depth ls)) (node n no_nodes) (p ∷ ps) rest = subst (λ (m : Node). IsElse Is b (200 - deeper k (block_depth ls)) (node m no_nodes) (p ∷ ps) rest) (sym is) (is_elsif s ns os) in
        (make cur (node n no_nodes), rest, (no_nodes, p ∷ ps, node n no_nodes, none, e, ap (λ (f : Nodes). make f (node n no_nodes)) (sym (append-none cur))), c)
    elsif_takes p next (case_head b make) f k ls cur s h = absurd cc
    elsif_takes p next (when_body b make) f k ls cur s h = absurd cc

    step_takes : (p : P) (l : Statement) (ls : List Level) (cur : Nodes) → reads (context_of ls) p ≡ l → go (read_pieces reads ps) (statement_step l ls cur) ≡ Some t → Completes false ls cur (p ∷ ps) t
    unfolding Completes
    step_takes p (leaf m) ls cur s h = more_leaf p m ls cur ps t (stands (context_of ls) p (leaf m) tt s) (more ls (with_node cur m) h)
    step_takes p (closed m) ls cur s h = closed_takes p m ls cur (nat_lt (block_depth ls) 200) refl (stands (context_of ls) p (closed m) tt s) h
    step_takes p (begins o) ls cur s h = begin_takes p o ls cur (nat_lt (block_depth ls) 200) refl (stands (context_of ls) p (begins o) tt s) h
    step_takes p (elsif next) [] cur s h = absurd cc
    step_takes p (elsif next) (level r f k ∷ ls) cur s h = elsif_takes p next r f k ls cur (stands (context_in r) p (elsif next) tt s) h
    step_takes p (arm vs) [] cur s h = absurd cc
    step_takes p (arm vs) (level r f k ∷ ls) cur s h = when_takes p vs r f k ls cur (when_of vs r cur) refl (stands (context_in r) p (arm vs) tt s) h
    step_takes p otherwise [] cur s h = absurd cc
    step_takes p otherwise (level r f k ∷ ls) cur s h = else_takes p r f k ls cur (else_of r cur) refl (stands (context_in r) p otherwise tt s) h
    step_takes p ends [] cur s h = absurd cc
    step_takes p ends (level r f k ∷ ls) cur s h = (ended r cur, ps, rest_ends p r (200 - deeper k (block_depth ls)) cur ps (stands (context_in r) p ends tt s), close_takes k ls (with_node f (ended r cur)) h)
    step_takes p refused ls cur s h = absurd cc

  read_takes : (t : Nodes) (ps : List P) (ls : List Level) (cur : Nodes) → read_pieces reads ps ls cur ≡ Some t → Completes false ls cur ps t
  unfolding Completes
  read_takes t [] [] cur h = let e : cur ≡ t = cc in (no_nodes, none, sym e ∙ sym (append-none cur))
  read_takes t [] (l ∷ ls) cur h = absurd cc
  read_takes t (p ∷ ps) ls cur h = step_takes t ps (read_takes t ps) p (reads (context_of ls) p) ls cur refl h

  pub tree_takes : (t : Nodes) (ps : List P) → read_pieces reads ps [] no_nodes ≡ Some t → AreNodes Is Outside 200 t ps []
  unfolding Completes
  tree_takes t ps h = let (f, ns, e) = read_takes t ps [] no_nodes h in subst (λ (n : Nodes). AreNodes Is Outside 200 n ps []) (sym e) ns

  pub tree_again : (t : Nodes) (ps : List P) → AreNodes Is Outside 200 t ps [] → read_pieces reads ps [] no_nodes ≡ Some t
  tree_again t ps h = nodes_again h [] no_nodes refl (omega arith)

  pub one_tree : (t u : Nodes) (ps : List P) → AreNodes Is Outside 200 t ps [] → AreNodes Is Outside 200 u ps [] → t ≡ u
  one_tree t u ps h g = let e : Some t ≡ Some u = sym (tree_again t ps h) ∙ tree_again u ps g in cc
