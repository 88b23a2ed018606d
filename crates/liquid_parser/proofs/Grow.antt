-- Each step of building.
use Rattle.std.proofs.Common.{◌≡◌, ℕ, suc, ◌+◌, ◌-◌, ◌<◌, List, [], ◌∷◌, ◌++◌, length, get_or, reverse, Bool, Some, refl, sym, ap, ◌∙◌, subst, arith, append_assoc, length-append}
use Rattle.std.proofs.lemmas.List.{append-nil, reverse-append, reverse-reverse}
use Rattle.std.specs.Prelude.{slice_set, slice_get}
use Rattle.std.proofs.Math.Seq.{set-append_seam, get_or-append_seam}
use Rattle.std.proofs.lemmas.Option.{slice_get-get_or}
use Rattle.liquid_syntax.specs.Flats.{Maker, nodes_of, bodies_of}
use Rattle.liquid_syntax.specs.Forest.{Forest, Bodies, empty, node, no_bodies, body, forest_size, sizes}
use Rattle.liquid_syntax.specs.Laid.{Flat, ends_of, laid, laid_bodies}
use Rattle.liquid_syntax.proofs.Round as round
use Rattle.liquid_syntax.proofs.Round.{length-laid, length-laid_bodies}
use Rattle.liquid_parser.specs.OpenBlocks.{append, Reading, last, first, case_head, when_body, begun, to_when, context_in, ended, Level, level, context_of, block_depth, State, with_node, to_else}
use Rattle.liquid_evaluation.specs.Tree as tree
use Rattle.liquid_evaluation.specs.Tree.{Nodes, no_nodes, Whens, no_whens, when}
use Rattle.liquid_syntax.specs.Flats.{case_flat, flat_of, flats, with_arms}
use Rattle.liquid_core.specs.Expression.{Expression}
use Rattle.std.specs.Prelude.{take, true, false}
use Rattle.liquid_parser.specs.inside.Building.{IsPrepared, opening, set_before_last, set_last, before_last_ended, last_ended, after_arms, armed_with, IsCase, IsAdded, EndIsSet, BodyEnded, takes_else, takes_when, Fits, Builds, Closes, stage_context, context_at}
use Rattle.liquid_language.specs.declared.block.Block.{Block}
use Rattle.liquid_parser.specs.declared.build.Builder.{Builder}
use Rattle.liquid_language.specs.declared.block.BlockContext.{BlockContext}
use Rattle.liquid_language.specs.declared.block.BlockContext.TheVariants.{Outside, InBody, InLast}
use Rattle.liquid_parser.specs.declared.build.Open.{Open}
use Rattle.liquid_syntax.specs.declared.node.Node as code
use Rattle.liquid_parser.specs.declared.build.Stage.{Stage}
use Rattle.liquid_parser.specs.declared.build.Stage.TheVariants.{First, Last, CaseHead, WhenBody}

-- ---- forests

abbrev pub Trees : Type 0
Trees = Forest Maker

abbrev pub Flats : Type 0
Flats = List (Flat Maker)

nodes_append : (f g : Trees) → nodes_of (round.append f g) ≡ append (nodes_of f) (nodes_of g)
nodes_append empty g = refl
nodes_append (node make bs rest) g = ap (tree.node (make (bodies_of bs))) (nodes_append rest g)

laid-append : (k : ℕ) (f g : Trees) → laid k (round.append f g) ≡ laid k f ++ laid (k + forest_size f) g
laid-append k empty g = let e : k ≡ k + 0 = omega arith in ap (λ n. laid n g) e
laid-append k (node h bs rest) g =
    let x : Flat Maker = record { head = h; ends = ends_of (k + 1) bs } in
    let e : k + 1 + sizes bs + forest_size rest ≡ k + suc (sizes bs + forest_size rest) = omega arith in
    ap (λ l. x ∷ (laid_bodies (k + 1) bs ++ l)) (laid-append (k + 1 + sizes bs) rest g ∙ ap (λ n. laid (k + 1 + sizes bs) rest ++ laid n g) e)
    ∙ ap (λ l. x ∷ l) (sym (append_assoc (laid_bodies (k + 1) bs) (laid (k + 1 + sizes bs) rest) (laid (k + suc (sizes bs + forest_size rest)) g)))

-- one more body
with_body : Bodies Maker → Trees → Bodies Maker
with_body no_bodies f = body f no_bodies
with_body (body g bs) f = body g (with_body bs f)

bodies_with : (bs : Bodies Maker) (f : Trees) → bodies_of (with_body bs f) ≡ bodies_of bs ++ nodes_of f ∷ []
unfolding with_body
bodies_with no_bodies f = refl
bodies_with (body g bs) f = ap (λ l. nodes_of g ∷ l) (bodies_with bs f)

ends_with : (k : ℕ) (bs : Bodies Maker) (f : Trees) → ends_of k (with_body bs f) ≡ ends_of k bs ++ (k + sizes bs + forest_size f) ∷ []
unfolding with_body
ends_with k no_bodies f = let e : k + forest_size f ≡ k + 0 + forest_size f = omega arith in ap (λ n. n ∷ []) e
ends_with k (body g bs) f =
    let e : k + forest_size g + sizes bs + forest_size f ≡ k + (forest_size g + sizes bs) + forest_size f = omega arith in
    ap (λ l. (k + forest_size g) ∷ l) (ends_with (k + forest_size g) bs f ∙ ap (λ n. ends_of (k + forest_size g) bs ++ n ∷ []) e)

laid_with : (k : ℕ) (bs : Bodies Maker) (f : Trees) → laid_bodies k (with_body bs f) ≡ laid_bodies k bs ++ laid (k + sizes bs) f
unfolding with_body
laid_with k no_bodies f = let e : k ≡ k + 0 = omega arith in append-nil (laid k f) ∙ ap (λ n. laid n f) e
laid_with k (body g bs) f =
    let e : k + forest_size g + sizes bs ≡ k + (forest_size g + sizes bs) = omega arith in
    ap (λ l. laid k g ++ l) (laid_with (k + forest_size g) bs f ∙ ap (λ n. laid_bodies (k + forest_size g) bs ++ laid n f) e)
    ∙ sym (append_assoc (laid k g) (laid_bodies (k + forest_size g) bs) (laid (k + (forest_size g + sizes bs)) f))

pub set_last_seam : (e : ℕ) (xs : List ℕ) (z : ℕ) → set_last e (xs ++ z ∷ []) ≡ xs ++ e ∷ []
set_last_seam e [] z = refl
set_last_seam e (x ∷ []) z = refl
set_last_seam e (x ∷ y ∷ xs) z = ap (λ l. x ∷ l) (set_last_seam e (y ∷ xs) z)

pub set_before_seam : (e : ℕ) (xs : List ℕ) (y z : ℕ) → set_before_last e ((xs ++ y ∷ []) ++ z ∷ []) ≡ (xs ++ e ∷ []) ++ z ∷ []
set_before_seam e [] y z = refl
set_before_seam e (x ∷ []) y z = refl
set_before_seam e (x ∷ v ∷ []) y z = refl
set_before_seam e (x ∷ v ∷ u ∷ xs) y z = ap (λ l. x ∷ l) (set_before_seam e (v ∷ u ∷ xs) y z)

ends_count : (k : ℕ) (bs : Bodies Maker) → length (ends_of k bs) ≡ length (bodies_of bs)
ends_count k no_bodies = refl
ends_count k (body f bs) = omega (arith, ends_count (k + forest_size f) bs)

-- ---- the `when` parts of a `case`

arms_done : (make : Whens → Nodes → tree.Node) (vss : List (List Expression)) (fs : List Nodes) (o : Nodes) → length vss ≡ length fs → with_arms make vss (fs ++ o ∷ []) ≡ after_arms make vss fs no_whens o
arms_done make [] [] o h = refl
arms_done make [] (f ∷ fs) o h = absurd (omega (arith, h))
arms_done make (vs ∷ vss) [] o h = absurd (omega (arith, h))
arms_done make (vs ∷ vss) (f ∷ fs) o h = arms_done (λ ws o. make (when vs f ws) o) vss fs o (omega (arith, h))

arms_more : (make : Whens → Nodes → tree.Node) (vss : List (List Expression)) (fs : List Nodes) (vs : List Expression) (f : Nodes) (ws : Whens) (o : Nodes) → length vss ≡ length fs
    → after_arms make (vss ++ vs ∷ []) (fs ++ f ∷ []) ws o ≡ after_arms make vss fs (when vs f ws) o
arms_more make [] [] vs f ws o h = refl
arms_more make [] (g ∷ fs) vs f ws o h = absurd (omega (arith, h))
arms_more make (us ∷ vss) [] vs f ws o h = absurd (omega (arith, h))
arms_more make (us ∷ vss) (g ∷ fs) vs f ws o h = arms_more (λ ws o. make (when us g ws) o) vss fs vs f ws o (omega (arith, h))

take_seam : (pre : Flats) (x : Flat Maker) (rest : Flats) → take (suc (length pre)) (pre ++ x ∷ rest) ≡ pre ++ x ∷ []
take_seam [] x rest = refl
take_seam (y ∷ pre) x rest = ap (λ l. y ∷ l) (take_seam pre x rest)

-- ---- the list

-- the length so far
level-length : (pre : Flats) (x : Flat Maker) (bs : Bodies Maker) (c : Trees) (ns : Flats) → ns ≡ pre ++ x ∷ (laid_bodies (length pre + 1) bs ++ laid (length pre + 1 + sizes bs) c) → length ns ≡ length pre + 1 + sizes bs + forest_size c
level-length pre x bs c ns e =
    let inner = laid_bodies (length pre + 1) bs ++ laid (length pre + 1 + sizes bs) c in
    let a : length inner ≡ sizes bs + forest_size c =
    length-append (laid_bodies (length pre + 1) bs) (laid (length pre + 1 + sizes bs) c)
    ∙ ap (λ n. n + length (laid (length pre + 1 + sizes bs) c)) (length-laid_bodies (length pre + 1) bs)
    ∙ ap (λ n. sizes bs + n) (length-laid (length pre + 1 + sizes bs) c) in
    let b = ap length e ∙ length-append pre (x ∷ inner) in
    omega (arith, a, b)

-- more nodes of the innermost list
grow : (ns : Flats) (os : List Open) (ls : List Level) (cur : Nodes) (g : Trees) → Builds ns os ls cur → Builds (ns ++ laid (length ns) g) os ls (append cur (nodes_of g))
grow ns [] [] cur g (c, is, e) =
    let long : length ns ≡ 0 + forest_size c = let z : forest_size c ≡ 0 + forest_size c = omega arith in ap length e ∙ length-laid 0 c ∙ z in (
      round.append c g,
      ap (λ f. append f (nodes_of g)) is ∙ sym (nodes_append c g),
      ap (λ n. ns ++ laid n g) long ∙ ap (λ l. l ++ laid (0 + forest_size c) g) e ∙ sym (laid-append 0 c g),
    )
grow ns [] (l ∷ ls) cur g b = absurd b
grow ns (o ∷ os) [] cur g b = absurd b
grow ns (o ∷ os) (level r f ch ∷ ls) cur g (pre, x, bs, c, is, at, chained, fits, e, below) =
    let k = length pre + 1 + sizes bs in
    let lb = laid_bodies (length pre + 1) bs in
    let all : ns ++ laid (length ns) g ≡ pre ++ x ∷ (lb ++ laid k (round.append c g)) =
    ap (λ n. ns ++ laid n g) (level-length pre x bs c ns e)
    ∙ ap (λ m. m ++ laid (k + forest_size c) g) e
    ∙ append_assoc pre (x ∷ (lb ++ laid k c)) (laid (k + forest_size c) g)
    ∙ ap (λ m. pre ++ x ∷ m) (append_assoc lb (laid k c) (laid (k + forest_size c) g))
    ∙ ap (λ m. pre ++ x ∷ (lb ++ m)) (sym (laid-append k c g)) in
    (pre, x, bs, round.append c g, ap (λ f. append f (nodes_of g)) is ∙ sym (nodes_append c g), at, chained, fits, all, below)

pub nothing_built : (ns : List code.Node) (os : List Open) → ns ≡ [] → os ≡ [] → Builds (flats ns) (reverse os) [] no_nodes
nothing_built [] [] e f = (empty, refl, refl)
nothing_built (n ∷ ns) os e f = absurd cc
nothing_built [] (o ∷ os) e f = absurd cc

-- a node without bodies
pub leaf : (ns ms : Flats) (x : Flat Maker) (os : List Open) (ls : List Level) (cur : Nodes) → ms ≡ ns ++ x ∷ [] → x.ends ≡ [] → Builds ns os ls cur → Builds ms os ls (with_node cur (x.head []))
leaf ns ms x os ls cur e none b =
    let is : x ≡ record { head = x.head; ends = [] } = ap (λ (es : List ℕ). record x { ends = es }) none in
    let all : ms ≡ ns ++ laid (length ns) (node x.head no_bodies empty) = e ∙ ap (λ (y : Flat Maker). ns ++ y ∷ []) is in
    subst (λ l. Builds l os ls (with_node cur (x.head []))) (sym all) (grow ns os ls cur (node x.head no_bodies empty) b)

-- a node without bodies, alone in the body of another
pub wrapped : (ns ms : Flats) (x y : Flat Maker) (os : List Open) (ls : List Level) (cur : Nodes) → ms ≡ ns ++ x ∷ y ∷ [] → x.ends ≡ (length ns + 2) ∷ [] → y.ends ≡ [] → Builds ns os ls cur → Builds ms os ls (with_node cur (x.head (tree.node (y.head []) no_nodes ∷ [])))
wrapped ns ms x y os ls cur e ends none b =
    let g : Trees = node x.head (body (node y.head no_bodies empty) no_bodies) empty in
    let n : length ns + 2 ≡ length ns + 1 + 1 = omega arith in
    let outer : x ≡ record { head = x.head; ends = (length ns + 1 + 1) ∷ [] } = ap (λ (es : List ℕ). record x { ends = es }) (ends ∙ ap (λ n. n ∷ []) n) in
    let inner : y ≡ record { head = y.head; ends = [] } = ap (λ (es : List ℕ). record y { ends = es }) none in
    let all : ms ≡ ns ++ laid (length ns) g = e ∙ ap (λ (v : Flat Maker). ns ++ v ∷ y ∷ []) outer ∙ ap (λ (v : Flat Maker). ns ++ record { head = x.head; ends = (length ns + 1 + 1) ∷ [] } ∷ v ∷ []) inner in
    subst (λ l. Builds l os ls (with_node cur (x.head (tree.node (y.head []) no_nodes ∷ [])))) (sym all) (grow ns os ls cur g b)

-- a block begins
pub begin : (ns ms : Flats) (x : Flat Maker) (r : Reading) (o : Open) (os : List Open) (ls : List Level) (cur : Nodes) → ms ≡ ns ++ x ∷ [] → o.node_index ≡ length ns → Fits o r x no_bodies (length ns + 1) → Builds ns os ls cur
    → Builds ms (o ∷ os) (level r cur o.chained ∷ ls) no_nodes
begin ns ms x r o os ls cur e at fits b = (ns, x, no_bodies, empty, refl, at, refl, fits, e, b)

-- the node of an open block
there : (pre : Flats) (x : Flat Maker) (rest ns : Flats) (at : ℕ) (old : Flat Maker) → at ≡ length pre → ns ≡ pre ++ x ∷ rest → old ≡ get_or ns at old → old ≡ x
there pre x rest ns at old is e was = was ∙ ap (λ n. get_or ns n old) is ∙ ap (λ m. get_or m (length pre) old) e ∙ get_or-append_seam pre x rest old

changed : (pre : Flats) (x y : Flat Maker) (rest ns : Flats) (at : ℕ) → at ≡ length pre → ns ≡ pre ++ x ∷ rest → slice_set ns at y ≡ pre ++ y ∷ rest
changed pre x y rest ns at is e = ap (λ n. slice_set ns n y) is ∙ ap (λ m. slice_set m (length pre) y) e ∙ set-append_seam pre x rest y

-- a first body ends, and the last begins
otherwise : (ns ms : Flats) (o p : Open) (os : List Open) (b : Block) (make : Nodes → Nodes → tree.Node) (f : Nodes) (k : Bool) (ls : List Level) (cur : Nodes) (old y : Flat Maker)
    → ms ≡ slice_set ns o.node_index y → old ≡ get_or ns o.node_index old → y ≡ before_last_ended (length ns) old
    → p.node_index ≡ o.node_index → p.chained ≡ o.chained → p.block ≡ o.block → p.stage ≡ Last
    → Builds ns (o ∷ os) (level (first b make) f k ∷ ls) cur → Builds ms (p ∷ os) (level (last b (make cur)) f k ∷ ls) no_nodes
otherwise ns ms o p os b make f k ls cur old y set was is at ch bl st (pre, x, bs, c, is_c, at', chained, (stage, block, nob, (y1, z1, ends), makes), e, below) =
    let n = length pre + 1 in
    let e0 : ns ≡ pre ++ x ∷ laid (n + 0) c = e ∙ ap (λ (bs : Bodies Maker). pre ++ x ∷ (laid_bodies n bs ++ laid (n + sizes bs) c)) nob in
    let long : length ns ≡ n + forest_size c = omega (arith, level-length pre x no_bodies c ns e0) in
    let new : Flat Maker = record { head = x.head; ends = (n + forest_size c) ∷ z1 ∷ [] } in
    let old_is : old ≡ x = there pre x (laid (n + 0) c) ns o.node_index old at' e0 was in
    let new_is : y ≡ new =
    is ∙ ap (before_last_ended (length ns)) old_is ∙ ap (λ (es : List ℕ). record { head = x.head; ends = set_before_last (length ns) es }) ends ∙ ap (λ (l : ℕ). record { head = x.head; ends = l ∷ z1 ∷ [] }) long in
    let z : n + 0 ≡ n = omega arith in
    let all : ms ≡ pre ++ new ∷ ((laid n c ++ []) ++ []) =
    set ∙ changed pre x y (laid (n + 0) c) ns o.node_index at' e0 ∙ ap (λ (v : Flat Maker). pre ++ v ∷ laid (n + 0) c) new_is
    ∙ ap (λ m. pre ++ new ∷ laid m c) z ∙ ap (λ l. pre ++ new ∷ l) (sym (append-nil (laid n c ++ []) ∙ append-nil (laid n c))) in (
      pre,
      new,
      body c no_bodies,
      empty,
      refl,
      at ∙ at',
      ch ∙ chained,
      (st, bl ∙ block, (z1, refl), λ g. makes cur g ∙ ap (λ l. x.head (l ∷ g ∷ [])) is_c),
      all,
      below,
    )

-- a block ends in its last body
close_last : (ns ms : Flats) (o : Open) (os : List Open) (b : Block) (make : Nodes → tree.Node) (f : Nodes) (k : Bool) (ls : List Level) (cur : Nodes) (old y : Flat Maker)
    → ms ≡ slice_set ns o.node_index y → old ≡ get_or ns o.node_index old → y ≡ last_ended (length ns) old
    → Builds ns (o ∷ os) (level (last b make) f k ∷ ls) cur → (o.chained ≡ k) × Builds ms os ls (with_node f (make cur))
close_last ns ms o os b make f k ls cur old y set was is (pre, x, bs, c, is_c, at, chained, (stage, block, (z, ends), makes), e, below) =
    let n = length pre + 1 in
    let cs = with_body bs c in
    let long : length ns ≡ n + sizes bs + forest_size c = level-length pre x bs c ns e in
    let rest = laid_bodies n bs ++ laid (n + sizes bs) c in
    let new : Flat Maker = record { head = x.head; ends = ends_of n cs } in
    let old_is : old ≡ x = there pre x rest ns o.node_index old at e was in
    let new_is : y ≡ new =
    is ∙ ap (last_ended (length ns)) old_is
    ∙ ap (λ (es : List ℕ). record { head = x.head; ends = es }) (ap (set_last (length ns)) ends ∙ set_last_seam (length ns) (ends_of n bs) z ∙ ap (λ (l : ℕ). ends_of n bs ++ l ∷ []) long ∙ sym (ends_with n bs c)) in
    let all : ms ≡ pre ++ laid (length pre) (node x.head cs empty) =
    set ∙ changed pre x y rest ns o.node_index at e ∙ ap (λ (v : Flat Maker). pre ++ v ∷ rest) new_is
    ∙ ap (λ l. pre ++ new ∷ l) (sym (laid_with n bs c) ∙ sym (append-nil (laid_bodies n cs))) in
    let made : make cur ≡ x.head (bodies_of cs) = makes cur ∙ ap (λ l. x.head (bodies_of bs ++ l ∷ [])) is_c ∙ ap x.head (sym (bodies_with bs c)) in (
      chained,
      subst (λ (m : Flats). Builds m os ls (with_node f (make cur))) (sym all)
          (subst (λ (t : tree.Node). Builds (pre ++ laid (length pre) (node x.head cs empty)) os ls (with_node f t)) (sym made) (grow pre os ls f (node x.head cs empty) below)),
    )

-- the node of a `case` stands between two bodies
Pauses : Flats → Open → List Open → Block → (Whens → Nodes → tree.Node) → Nodes → Bool → List Level → Type 0
Pauses ns o os b make f k ls =
    (pre : Flats) × (x : Flat Maker) × (bs : Bodies Maker) × (o.node_index ≡ length pre) × (o.block ≡ b) × (o.chained ≡ k) × IsCase x bs (length pre + 1) make × (ns ≡ pre ++ x ∷ laid_bodies (length pre + 1) bs) × Builds pre os ls f

case_head_pauses : (ns ms : Flats) (o : Open) (os : List Open) (b : Block) (make : Whens → Nodes → tree.Node) (f : Nodes) (k : Bool) (ls : List Level) (cur : Nodes) → ms ≡ take (o.node_index + 1) ns
    → Builds ns (o ∷ os) (level (case_head b make) f k ∷ ls) cur → Pauses ms o os b make f k ls
unfolding Pauses
case_head_pauses ns ms o os b make f k ls cur is (pre, x, bs, c, is_c, at, chained, (stage, block, nob, whole), e, below) =
    let n : o.node_index + 1 ≡ suc (length pre) = omega (arith, at) in
    (pre, x, no_bodies, at, block, chained, whole, is ∙ ap (λ n. take n ns) n ∙ ap (take (suc (length pre))) e ∙ take_seam pre x (laid_bodies (length pre + 1) bs ++ laid (length pre + 1 + sizes bs) c), below)

armed_pauses : (ns ms : Flats) (o : Open) (os : List Open) (b : Block) (make : Nodes → Whens → Nodes → tree.Node) (f : Nodes) (k : Bool) (ls : List Level) (cur : Nodes) → EndIsSet o.node_index ns ms
    → Builds ns (o ∷ os) (level (when_body b make) f k ∷ ls) cur → Pauses ms o os b (make cur) f k ls
unfolding Pauses
armed_pauses ns ms o os b make f k ls cur (old, was, set) (pre, x, bs, c, is_c, at, chained, (stage, block, t, vss, vs, y, z, count, x_is, makes), e, below) =
    let n = length pre + 1 in
    let cs = with_body bs c in
    let long : length ns ≡ n + sizes bs + forest_size c = level-length pre x bs c ns e in
    let rest = laid_bodies n bs ++ laid (n + sizes bs) c in
    let new : Flat Maker = case_flat t (vss ++ vs ∷ []) (ends_of n cs) z in
    let old_is : old ≡ x = there pre x rest ns o.node_index old at e was in
    let new_is : before_last_ended (length ns) old ≡ new =
    ap (before_last_ended (length ns)) (old_is ∙ x_is)
    ∙ ap (λ (es : List ℕ). record { head = with_arms (λ ws o. tree.case_of t ws o) (vss ++ vs ∷ []); ends = es })
    (set_before_seam (length ns) (ends_of n bs) y z ∙ ap (λ (es : List ℕ). es ++ z ∷ []) (ap (λ (l : ℕ). ends_of n bs ++ l ∷ []) long ∙ sym (ends_with n bs c))) in
    let all : ms ≡ pre ++ new ∷ laid_bodies n cs =
    set ∙ changed pre x (before_last_ended (length ns) old) rest ns o.node_index at e ∙ ap (λ (v : Flat Maker). pre ++ v ∷ rest) new_is ∙ ap (λ l. pre ++ new ∷ l) (sym (laid_with n bs c)) in
    let many : length (vss ++ vs ∷ []) ≡ length (bodies_of cs) =
    let a : length (vss ++ vs ∷ []) ≡ length vss + 1 = length-append vss (vs ∷ []) in
    let d : length (bodies_of cs) ≡ length (bodies_of bs) + 1 = ap length (bodies_with bs c) ∙ length-append (bodies_of bs) (nodes_of c ∷ []) in
    omega (arith, a, d, count) in
    let made : (ws : Whens) (o : Nodes) → make cur ws o ≡ armed_with t (vss ++ vs ∷ []) (bodies_of cs) ws o =
    λ ws o. makes cur ws o ∙ sym (arms_more (λ ws o. tree.case_of t ws o) vss (bodies_of bs) vs cur ws o count)
    ∙ ap (λ l. armed_with t (vss ++ vs ∷ []) l ws o) (ap (λ l. bodies_of bs ++ l ∷ []) is_c ∙ sym (bodies_with bs c)) in
    (pre, new, cs, at, block, chained, (t, vss ++ vs ∷ [], z, many, refl, made), all, below)

-- after it the else list begins
last_goes : (ns : Flats) (o p : Open) (os : List Open) (b : Block) (make : Whens → Nodes → tree.Node) (f : Nodes) (k : Bool) (ls : List Level)
    → p.node_index ≡ o.node_index → p.chained ≡ o.chained → p.block ≡ o.block → p.stage ≡ Last → Pauses ns o os b make f k ls → Builds ns (p ∷ os) (level (last b (make no_whens)) f k ∷ ls) no_nodes
unfolding Pauses
last_goes ns o p os b make f k ls at' ch bl st (pre, x, bs, at, block, chained, (t, vss, z, count, x_is, makes), e, below) =
    let n = length pre + 1 in (
      pre,
      x,
      bs,
      empty,
      refl,
      at' ∙ at,
      ch ∙ chained,
      (
        st,
        bl ∙ block,
        (z, ap (λ (v : Flat Maker). v.ends) x_is),
        λ g. makes no_whens g ∙ sym (arms_done (λ ws o. tree.case_of t ws o) vss (bodies_of bs) g count) ∙ ap (λ (v : Flat Maker). v.head (bodies_of bs ++ g ∷ [])) (sym x_is),
      ),
      e ∙ ap (λ l. pre ++ x ∷ l) (sym (append-nil (laid_bodies n bs))),
      below,
    )

-- or a further `when`
when_goes : (ns ms : Flats) (o p : Open) (os : List Open) (b : Block) (make : Whens → Nodes → tree.Node) (f : Nodes) (k : Bool) (ls : List Level) (vs : List Expression) (old y : Flat Maker)
    → ms ≡ slice_set ns o.node_index y → old ≡ get_or ns o.node_index old → IsAdded vs old y
    → p.node_index ≡ o.node_index → p.chained ≡ o.chained → p.block ≡ o.block → p.stage ≡ WhenBody → Pauses ns o os b make f k ls
    → Builds ms (p ∷ os) (level (when_body b (λ g ws o. make (when vs g ws) o)) f k ∷ ls) no_nodes
unfolding Pauses
when_goes ns ms o p os b make f k ls vs old y set was added at' ch bl st (pre, x, bs, at, block, chained, (t, vss, z, count, x_is, makes), e, below) =
    let n = length pre + 1 in
    let new : Flat Maker = case_flat t (vss ++ vs ∷ []) (ends_of n bs ++ 0 ∷ []) z in
    let old_is : old ≡ x = there pre x (laid_bodies n bs) ns o.node_index old at e was in
    let y_is : y ≡ new = added t vss (ends_of n bs) z (count ∙ sym (ends_count n bs)) (old_is ∙ x_is) in
    let all : ms ≡ pre ++ new ∷ (laid_bodies n bs ++ []) =
    set ∙ changed pre x y (laid_bodies n bs) ns o.node_index at e ∙ ap (λ (v : Flat Maker). pre ++ v ∷ laid_bodies n bs) y_is ∙ ap (λ l. pre ++ new ∷ l) (sym (append-nil (laid_bodies n bs))) in
    (pre, new, bs, empty, refl, at' ∙ at, ch ∙ chained, (st, bl ∙ block, t, vss, vs, 0, z, count, refl, λ g ws o. makes (when vs g ws) o), all, below)

-- ---- on the code's stack, whose last block is the innermost

reverse-last : {A : Type 0} (xs : List A) (x : A) → reverse (xs ++ x ∷ []) ≡ x ∷ reverse xs
reverse-last xs x = reverse-append xs (x ∷ [])

-- where the next piece stands
top_context : List Open → BlockContext
top_context [] = Outside
top_context (o ∷ os) = stage_context o.stage o.block

fits_context : (o : Open) (r : Reading) (x : Flat Maker) (bs : Bodies Maker) (n : ℕ) → Fits o r x bs n → stage_context o.stage o.block ≡ context_in r
fits_context o (last b make) x bs n (stage, block, ends, makes) = ap (λ (s : Stage). stage_context s o.block) stage ∙ ap InLast block
fits_context o (first b make) x bs n (stage, block, none, ends, makes) = ap (λ (s : Stage). stage_context s o.block) stage ∙ ap InBody block
fits_context o (case_head b make) x bs n h = ap (λ (s : Stage). stage_context s o.block) h.0 ∙ ap InBody h.1
fits_context o (when_body b make) x bs n h = ap (λ (s : Stage). stage_context s o.block) h.0 ∙ ap InBody h.1

top_is : (ns : Flats) (os : List Open) (ls : List Level) (cur : Nodes) → Builds ns os ls cur → top_context os ≡ context_of ls
unfolding top_context
top_is ns [] [] cur b = refl
top_is ns (o ∷ os) [] cur b = absurd b
top_is ns [] (l ∷ ls) cur b = absurd b
top_is ns (o ∷ os) (level r f k ∷ ls) cur (pre, x, bs, c, is, at, chained, fits, e, below) = fits_context o r x bs (length pre + 1) fits

last_get : (ys : List Open) (o : Open) → slice_get (ys ++ o ∷ []) (length (ys ++ o ∷ []) - 1) ≡ Some o
last_get ys o =
    let e : length (ys ++ o ∷ []) - 1 ≡ length ys = omega (arith, length-append ys (o ∷ [])) in
    let w : length ys < length (ys ++ o ∷ []) = omega (arith, length-append ys (o ∷ [])) in
    ap (slice_get (ys ++ o ∷ [])) e ∙ slice_get-get_or (ys ++ o ∷ []) (length ys) o w ∙ ap Some (get_or-append_seam ys o [] o)

last_top : (os : List Open) → context_at (slice_get (reverse os) (length (reverse os) - 1)) ≡ top_context os
unfolding top_context
last_top [] = refl
last_top (o ∷ os) = let e : reverse (o ∷ os) ≡ reverse os ++ o ∷ [] = reverse-append (o ∷ []) os in ap (λ l. context_at (slice_get l (length l - 1))) e ∙ ap context_at (last_get (reverse os) o)

pub context_is : (ns : Flats) (xs : List Open) (ls : List Level) (cur : Nodes) → Builds ns (reverse xs) ls cur → context_at (slice_get xs (length xs - 1)) ≡ context_of ls
context_is ns xs ls cur b = ap (λ l. context_at (slice_get l (length l - 1))) (sym (reverse-reverse xs)) ∙ last_top (reverse xs) ∙ top_is ns (reverse xs) ls cur b

-- the last body begins
pub record Goes (ms : Flats) (os : List Open) (ls : List Level) (cur : Nodes) (s : State) : Type 0 where
  pub read : to_else ls cur ≡ Some s
  pub built : Builds ms os s.0 s.1
  pub deep : block_depth ls ≡ block_depth s.0

else_by : (ns ms : Flats) (o p : Open) (os : List Open) → BodyEnded o.stage o.node_index ns ms → takes_else o.stage ≡ true
    → p.node_index ≡ o.node_index → p.chained ≡ o.chained → p.block ≡ o.block → p.stage ≡ Last
    → (ls : List Level) (cur : Nodes) → Builds ns (o ∷ os) ls cur → (s : State) × Goes ms (p ∷ os) ls cur s
else_by ns ms o p os done takes at ch bl st [] cur h = absurd h
else_by ns ms o p os done takes at ch bl st (level (last b make) f k ∷ ls) cur h =
    let no : false ≡ true = subst (λ (s : Stage). takes_else s ≡ true) h.7.0 takes in absurd cc
else_by ns ms o p os done takes at ch bl st (level (first b make) f k ∷ ls) cur h =
    let d = subst (λ (s : Stage). BodyEnded s o.node_index ns ms) h.7.0 done in (
      (level (last b (make cur)) f k ∷ ls, no_nodes),
      record {
        read = refl;
        built = otherwise ns ms o p os b make f k ls cur d.0 (before_last_ended (length ns) d.0) d.2 d.1 refl at ch bl st h;
        deep = refl;
      },
    )
else_by ns ms o p os done takes at ch bl st (level (case_head b make) f k ∷ ls) cur h =
    let d = subst (λ (s : Stage). BodyEnded s o.node_index ns ms) h.7.0 done in (
      (level (last b (make no_whens)) f k ∷ ls, no_nodes),
      record {
        read = refl;
        built = last_goes ms o p os b make f k ls at ch bl st (case_head_pauses ns ms o os b make f k ls cur d h);
        deep = refl;
      },
    )
else_by ns ms o p os done takes at ch bl st (level (when_body b make) f k ∷ ls) cur h =
    let d = subst (λ (s : Stage). BodyEnded s o.node_index ns ms) h.7.0 done in (
      (level (last b (make cur no_whens)) f k ∷ ls, no_nodes),
      record {
        read = refl;
        built = last_goes ms o p os b (make cur) f k ls at ch bl st (armed_pauses ns ms o os b make f k ls cur d h);
        deep = refl;
      },
    )

pub else_on : (ns ms : Flats) (all rest now : List Open) (o p : Open) → all ≡ rest ++ o ∷ [] → now ≡ rest ++ p ∷ [] → BodyEnded o.stage o.node_index ns ms → takes_else o.stage ≡ true
    → p.node_index ≡ o.node_index → p.chained ≡ o.chained → p.block ≡ o.block → p.stage ≡ Last
    → (ls : List Level) (cur : Nodes) → Builds ns (reverse all) ls cur → (s : State) × (to_else ls cur ≡ Some s) × Builds ms (reverse now) s.0 s.1 × (block_depth ls ≡ block_depth s.0)
else_on ns ms all rest now o p e e2 done takes at ch bl st ls cur h =
    let h' = subst (λ os. Builds ns os ls cur) (ap reverse e ∙ reverse-last rest o) h in
    let r = else_by ns ms o p (reverse rest) done takes at ch bl st ls cur h' in
    (r.0, r.1.read, subst (λ os. Builds ms os r.0.0 r.0.1) (sym (ap reverse e2 ∙ reverse-last rest p)) r.1.built, r.1.deep)

-- a `when`
when_by : (ns mid ms : Flats) (o p : Open) (os : List Open) (vs : List Expression) (old y : Flat Maker) → BodyEnded o.stage o.node_index ns mid → takes_when o.stage ≡ true
    → ms ≡ slice_set mid o.node_index y → old ≡ get_or mid o.node_index old → IsAdded vs old y
    → p.node_index ≡ o.node_index → p.chained ≡ o.chained → p.block ≡ o.block → p.stage ≡ WhenBody
    → (ls : List Level) (cur : Nodes) → Builds ns (o ∷ os) ls cur → (s : State) × (to_when vs ls cur ≡ Some s) × Builds ms (p ∷ os) s.0 s.1 × (block_depth ls ≡ block_depth s.0)
when_by ns mid ms o p os vs old y done takes set was added at ch bl st [] cur h = absurd h
when_by ns mid ms o p os vs old y done takes set was added at ch bl st (level (last b make) f k ∷ ls) cur h =
    let no : false ≡ true = subst (λ (s : Stage). takes_when s ≡ true) h.7.0 takes in absurd cc
when_by ns mid ms o p os vs old y done takes set was added at ch bl st (level (first b make) f k ∷ ls) cur h =
    let no : false ≡ true = subst (λ (s : Stage). takes_when s ≡ true) h.7.0 takes in absurd cc
when_by ns mid ms o p os vs old y done takes set was added at ch bl st (level (case_head b make) f k ∷ ls) cur h =
    let d = subst (λ (s : Stage). BodyEnded s o.node_index ns mid) h.7.0 done in (
      (level (when_body b (λ g ws o. make (when vs g ws) o)) f k ∷ ls, no_nodes),
      refl,
      when_goes mid ms o p os b make f k ls vs old y set was added at ch bl st (case_head_pauses ns mid o os b make f k ls cur d h),
      refl,
    )
when_by ns mid ms o p os vs old y done takes set was added at ch bl st (level (when_body b make) f k ∷ ls) cur h =
    let d = subst (λ (s : Stage). BodyEnded s o.node_index ns mid) h.7.0 done in (
      (level (when_body b (λ g ws o. make cur (when vs g ws) o)) f k ∷ ls, no_nodes),
      refl,
      when_goes mid ms o p os b (make cur) f k ls vs old y set was added at ch bl st (armed_pauses ns mid o os b make f k ls cur d h),
      refl,
    )

pub when_on : (ns mid ms : Flats) (all rest now : List Open) (o p : Open) (vs : List Expression) (old y : Flat Maker) → all ≡ rest ++ o ∷ [] → now ≡ rest ++ p ∷ [] → BodyEnded o.stage o.node_index ns mid → takes_when o.stage ≡ true
    → ms ≡ slice_set mid o.node_index y → old ≡ get_or mid o.node_index old → IsAdded vs old y
    → p.node_index ≡ o.node_index → p.chained ≡ o.chained → p.block ≡ o.block → p.stage ≡ WhenBody
    → (ls : List Level) (cur : Nodes) → Builds ns (reverse all) ls cur → (s : State) × (to_when vs ls cur ≡ Some s) × Builds ms (reverse now) s.0 s.1 × (block_depth ls ≡ block_depth s.0)
when_on ns mid ms all rest now o p vs old y e e2 done takes set was added at ch bl st ls cur h =
    let h' = subst (λ os. Builds ns os ls cur) (ap reverse e ∙ reverse-last rest o) h in
    let r = when_by ns mid ms o p (reverse rest) vs old y done takes set was added at ch bl st ls cur h' in
    (r.0, r.1, subst (λ os. Builds ms os r.0.0 r.0.1) (sym (ap reverse e2 ∙ reverse-last rest p)) r.2, r.3)

-- a block ends: its last body, or another, after which the last is empty
last_open : Open → Open
last_open o = record { node_index = o.node_index; block = o.block; stage = Last; chained = o.chained }

close : (ns mid ms : Flats) (o : Open) (os : List Open) (r : Reading) (f : Nodes) (k : Bool) (ls : List Level) (cur : Nodes) (old y : Flat Maker) → BodyEnded o.stage o.node_index ns mid
    → ms ≡ slice_set mid o.node_index y → old ≡ get_or mid o.node_index old → y ≡ last_ended (length mid) old
    → Builds ns (o ∷ os) (level r f k ∷ ls) cur → (o.chained ≡ k) × Builds ms os ls (with_node f (ended r cur))
unfolding last_open
close ns mid ms o os (last b make) f k ls cur old y done set was is h =
    let same : mid ≡ ns = subst (λ (s : Stage). BodyEnded s o.node_index ns mid) h.7.0 done in
    close_last mid ms o os b make f k ls cur old y set was is (subst (λ (m : Flats). Builds m (o ∷ os) (level (last b make) f k ∷ ls) cur) (sym same) h)
close ns mid ms o os (first b make) f k ls cur old y done set was is h =
    let d = subst (λ (s : Stage). BodyEnded s o.node_index ns mid) h.7.0 done in
    close_last mid ms (last_open o) os b (make cur) f k ls no_nodes old y set was is (otherwise ns mid o (last_open o) os b make f k ls cur d.0 (before_last_ended (length ns) d.0) d.2 d.1 refl refl refl refl refl h)
close ns mid ms o os (case_head b make) f k ls cur old y done set was is h =
    let d = subst (λ (s : Stage). BodyEnded s o.node_index ns mid) h.7.0 done in
    close_last mid ms (last_open o) os b (make no_whens) f k ls no_nodes old y set was is (last_goes mid o (last_open o) os b make f k ls refl refl refl refl (case_head_pauses ns mid o os b make f k ls cur d h))
close ns mid ms o os (when_body b make) f k ls cur old y done set was is h =
    let d = subst (λ (s : Stage). BodyEnded s o.node_index ns mid) h.7.0 done in
    close_last mid ms (last_open o) os b (make cur no_whens) f k ls no_nodes old y set was is (last_goes mid o (last_open o) os b (make cur) f k ls refl refl refl refl (armed_pauses ns mid o os b make f k ls cur d h))

closes_by : (ns mid : Flats) (o : Open) (os : List Open) (b : Builder) (old y : Flat Maker) → BodyEnded o.stage o.node_index ns mid → flats b.nodes.items ≡ slice_set mid o.node_index y → old ≡ get_or mid o.node_index old → y ≡ last_ended (length mid) old → reverse b.blocks.items ≡ os
    → (ls : List Level) (cur : Nodes) → Builds ns (o ∷ os) ls cur → Closes ls cur b (Some o.chained)
closes_by ns mid o os b old y done set was is stack [] cur h = absurd h
closes_by ns mid o os b old y done set was is stack (level r f k ∷ ls) cur h =
    let d = close ns mid (flats b.nodes.items) o os r f k ls cur old y done set was is h in
    (d.0, subst (λ (os : List Open). Builds (flats b.nodes.items) os ls (with_node f (ended r cur))) (sym stack) d.1)

pub closes_on : (ns mid : Flats) (all : List Open) (o : Open) (b : Builder) (old y : Flat Maker) (long : ℕ) → all ≡ b.blocks.items ++ o ∷ [] → long ≡ length mid → BodyEnded o.stage o.node_index ns mid → flats b.nodes.items ≡ slice_set mid o.node_index y
    → old ≡ get_or mid o.node_index old → y ≡ last_ended long old → (ls : List Level) (cur : Nodes) → Builds ns (reverse all) ls cur → Closes ls cur b (Some o.chained)
closes_on ns mid all o b old y long e n done set was is ls cur h =
    closes_by ns mid o (reverse b.blocks.items) b old y done set was (is ∙ ap (λ k. last_ended k old) n) refl ls cur (subst (λ os. Builds ns os ls cur) (ap reverse e ∙ reverse-last b.blocks.items o) h)

prepared_fits : (o : Open) (b : Block) (stage : Stage) (n : code.Node) (k : ℕ) → o.stage ≡ stage → o.block ≡ b → IsPrepared stage n → Fits o (begun (opening b stage n)) (flat_of n) no_bodies k
prepared_fits o b First n k st bl prepared = (st, bl, refl, prepared, λ g h. refl)
prepared_fits o b Last n k st bl prepared = (st, bl, prepared, λ g. refl)
prepared_fits o b CaseHead n k st bl (t, z, is, makes) = (st, bl, refl, (t, [], z, refl, is, makes))
prepared_fits o b WhenBody n k st bl prepared = absurd prepared

-- a block begins after the nodes
pub begins_on : (ns ms : Flats) (n : code.Node) (all now : List Open) (o : Open) (b : Block) (stage : Stage) (ls : List Level) (cur : Nodes) → ms ≡ ns ++ flat_of n ∷ [] → now ≡ all ++ o ∷ [] → o.node_index ≡ length ns
    → o.stage ≡ stage → o.block ≡ b → IsPrepared stage n → Builds ns (reverse all) ls cur → Builds ms (reverse now) (level (begun (opening b stage n)) cur o.chained ∷ ls) no_nodes
begins_on ns ms n all now o b stage ls cur e stack at st bl prepared built =
    subst (λ os. Builds ms os (level (begun (opening b stage n)) cur o.chained ∷ ls) no_nodes) (sym (ap reverse stack ∙ reverse-last all o))
    (begin ns ms (flat_of n) (begun (opening b stage n)) o (reverse all) ls cur e at (prepared_fits o b stage n (length ns + 1) st bl prepared) built)
