-- A `case` whose `when` parts come one after another.
use Rattle.std.proofs.Common.{◌≡◌, ℕ, zero, suc, ◌-◌, ◌<◌, List, [], ◌∷◌, ◌++◌, map, length, get_or, slice_set, refl, sym, ap, ◌∙◌, arith, length-append}
use Rattle.std.proofs.lemmas.List.{map-append}
use Rattle.std.proofs.Math.Seq.{set-append_seam}
use Rattle.liquid_core.specs.Expression.{Expression}
use Rattle.liquid_core.specs.ExpressionView.{expression_view}
use Rattle.liquid_parser.specs.inside.Building.{IsAdded, last_ended, set_before_last}
use Rattle.liquid_syntax.specs.Flats.{Maker, arm_ends, arm_values, values_in, case_flat, flat_of, with_arms, with_one, with_two}
use Rattle.liquid_syntax.specs.Laid.{Flat}
use Rattle.liquid_evaluation.specs.Tree as tree
use Rattle.liquid_evaluation.specs.Tree.{Nodes, no_nodes, Whens, no_whens, when, case_of}
use Rattle.liquid_syntax.specs.declared.node.Arm.{Arm}
use Rattle.liquid_syntax.specs.declared.node.Node.{Node}
use Rattle.liquid_syntax.specs.declared.node.Node.TheVariants.{Text as Plain, Output, Assign, Raw, Comment, If, Unless, Capture, Case, For, TableRow, Break, Continue, Increment, Decrement, Cycle, IfChanged, Filtered, Include, JekyllInclude, Render, RenderEach}
use Rattle.liquid_parser.proofs.Grow.{set_before_seam, set_last_seam}

pub case_last : (t : Expression) (vss : List (List Expression)) (es : List ℕ) (e z : ℕ) → case_flat t vss es e ≡ last_ended e (case_flat t vss es z)
case_last t vss es e z = ap (λ (es : List ℕ). record { head = with_arms (λ ws o. case_of t ws o) vss; ends = es }) (sym (set_last_seam e es z))

-- ---- the last `when` part

split_last : (arms : List Arm) (x : Arm) → x ≡ get_or arms (length arms - 1) x → 0 < length arms → (front : List Arm) × (arms ≡ front ++ x ∷ [])
split_last [] x h l = absurd (omega (arith, l))
split_last (a ∷ []) x h l =
    let e : length (a ∷ []) - 1 ≡ 0 = omega arith in
    let same : x ≡ a = h ∙ ap (λ n. get_or (a ∷ []) n x) e in
    ([], ap (λ (y : Arm). y ∷ []) (sym same))
split_last (a ∷ b ∷ arms) x h l =
    let e : length (a ∷ b ∷ arms) - 1 ≡ suc (length (b ∷ arms) - 1) = omega arith in
    let (front, is) = split_last (b ∷ arms) x (h ∙ ap (λ n. get_or (a ∷ b ∷ arms) n x) e) (omega arith) in
    (a ∷ front, ap (λ (l : List Arm). a ∷ l) is)

pub arm_ended : (arms : List Arm) (x y : Arm) (n : ℕ) → n ≡ length arms → 0 < n → x ≡ get_or arms (n - 1) x → y.values ≡ x.values
    → (arm_values (slice_set arms (n - 1) y) ≡ arm_values arms) × ((z : ℕ) → arm_ends (slice_set arms (n - 1) y) ++ z ∷ [] ≡ set_before_last y.end (arm_ends arms ++ z ∷ []))
arm_ended arms x y n count some is same =
    let (front, cut) = split_last arms x (is ∙ ap (λ n. get_or arms (n - 1) x) count) (omega (arith, count, some)) in
    let at : n - 1 ≡ length front = omega (arith, count ∙ ap length cut ∙ length-append front (x ∷ [])) in
    let set : slice_set arms (n - 1) y ≡ front ++ y ∷ [] = ap (λ n. slice_set arms n y) at ∙ ap (λ l. slice_set l (length front) y) cut ∙ set-append_seam front x [] y in
    let old : arm_ends arms ≡ arm_ends front ++ x.end ∷ [] = ap arm_ends cut ∙ map-append (λ arm. arm.end) front (x ∷ []) in
    let new : arm_ends (slice_set arms (n - 1) y) ≡ arm_ends front ++ y.end ∷ [] = ap arm_ends set ∙ map-append (λ arm. arm.end) front (y ∷ []) in (
      ap arm_values set ∙ map-append values_in front (y ∷ []) ∙ ap (λ vs. arm_values front ++ map expression_view vs.items ∷ []) same ∙ sym (ap arm_values cut ∙ map-append values_in front (x ∷ [])),
      λ z. ap (λ l. l ++ z ∷ []) new ∙ sym (set_before_seam y.end (arm_ends front) x.end z) ∙ ap (λ l. set_before_last y.end (l ++ z ∷ [])) (sym old),
    )

-- ---- a further `when` part: a node that is the list's `case` is a `case`

blanks : ℕ → List Nodes
blanks zero = []
blanks (suc n) = no_nodes ∷ blanks n

whens_of : List (List Expression) → Whens
whens_of [] = no_whens
whens_of (vs ∷ vss) = when vs no_nodes (whens_of vss)

values_of : Whens → List (List Expression)
values_of no_whens = []
values_of (when vs f ws) = vs ∷ values_of ws

there_again : (vss : List (List Expression)) → values_of (whens_of vss) ≡ vss
unfolding whens_of values_of
there_again [] = refl
there_again (vs ∷ vss) = ap (λ l. vs ∷ l) (there_again vss)

with_blanks : (make : Whens → Nodes → tree.Node) (vss : List (List Expression)) → with_arms make vss (blanks (length vss) ++ no_nodes ∷ []) ≡ make (whens_of vss) no_nodes
unfolding blanks whens_of
with_blanks make [] = refl
with_blanks make (vs ∷ vss) = with_blanks (λ ws o. make (when vs no_nodes ws) o) vss

last_same : (xs ys : List ℕ) (x y : ℕ) → xs ++ x ∷ [] ≡ ys ++ y ∷ [] → (xs ≡ ys) × (x ≡ y)
last_same [] [] x y h = let e : x ≡ y = cc in (refl, e)
last_same [] (v ∷ ys) x y h = absurd (omega (arith, ap length h, length-append ys (y ∷ [])))
last_same (u ∷ xs) [] x y h = absurd (omega (arith, ap length h, length-append xs (x ∷ [])))
last_same (u ∷ xs) (v ∷ ys) x y h =
    let e : u ≡ v = cc in
    let more : xs ++ x ∷ [] ≡ ys ++ y ∷ [] = cc in
    let (a, b) = last_same xs ys x y more in
    (ap (λ w. w ∷ xs) e ∙ ap (λ l. v ∷ l) a, b)

case_parts : (t s : Expression) (ws us : Whens) (f g : Nodes) → case_of t ws f ≡ case_of s us g → (t ≡ s) × (ws ≡ us)
case_parts t s ws us f g h = let a : t ≡ s = cc in let b : ws ≡ us = cc in (a, b)

case_same : (t s : Expression) (vss uss : List (List Expression)) (es ds : List ℕ) (y z : ℕ) → length vss ≡ length es → length uss ≡ length ds → case_flat s uss ds y ≡ case_flat t vss es z
    → (s ≡ t) × (uss ≡ vss) × (ds ≡ es) × (y ≡ z)
case_same t s vss uss es ds y z count many h =
    let ends = last_same ds es y z (ap (λ (x : Flat Maker). x.ends) h) in
    let long : length uss ≡ length vss = many ∙ ap length ends.0 ∙ sym count in
    let heads : case_of s (whens_of uss) no_nodes ≡ case_of t (whens_of vss) no_nodes =
    sym (with_blanks (λ ws o. case_of s ws o) uss) ∙ ap (λ (x : Flat Maker). x.head (blanks (length uss) ++ no_nodes ∷ [])) h
    ∙ ap (λ n. with_arms (λ ws o. case_of t ws o) vss (blanks n ++ no_nodes ∷ [])) long ∙ with_blanks (λ ws o. case_of t ws o) vss in
    let parts = case_parts s t (whens_of uss) (whens_of vss) no_nodes no_nodes heads in
    (parts.0, sym (there_again uss) ∙ ap values_of parts.1 ∙ there_again vss, ends.0, ends.1)

pub arm_added : (t : Expression) (old new : List Arm) (a : Arm) (z : ℕ) → new ≡ old ++ a ∷ [] → a.end ≡ 0 → IsAdded (values_in a) (case_flat t (arm_values old) (arm_ends old) z) (case_flat t (arm_values new) (arm_ends new) z)
arm_added t old new a z is zero_end s vss es y count h =
    let (target, values, ends, last) = case_same s t vss (arm_values old) es (arm_ends old) z y count (length-both old) h in
    ap (λ l. case_flat t (arm_values l) (arm_ends l) z) is
    ∙ ap (λ l. case_flat t l (arm_ends (old ++ a ∷ [])) z) (map-append values_in old (a ∷ []) ∙ ap (λ l. l ++ values_in a ∷ []) values)
    ∙ ap (λ l. case_flat t (vss ++ values_in a ∷ []) l z) (map-append (λ arm. arm.end) old (a ∷ []) ∙ ap (λ l. l ++ a.end ∷ []) ends ∙ ap (λ e. es ++ e ∷ []) zero_end)
    ∙ ap (λ e. case_flat t (vss ++ values_in a ∷ []) (es ++ 0 ∷ []) e) last ∙ ap (λ t. case_flat t (vss ++ values_in a ∷ []) (es ++ 0 ∷ []) y) target
  where
    length-both : (arms : List Arm) → length (arm_values arms) ≡ length (arm_ends arms)
    length-both [] = refl
    length-both (a ∷ arms) = omega (arith, length-both arms)

-- ---- any other node is none

some_case : (x : Flat Maker) (t : Expression) (vss : List (List Expression)) (es : List ℕ) (z : ℕ) → x ≡ case_flat t vss es z → x.head (blanks (length vss) ++ no_nodes ∷ []) ≡ case_of t (whens_of vss) no_nodes
some_case x t vss es z h = ap (λ (x : Flat Maker). x.head (blanks (length vss) ++ no_nodes ∷ [])) h ∙ with_blanks (λ ws o. case_of t ws o) vss

one_is_none : (make : Nodes → tree.Node) (n : ℕ) (t : Expression) (ws : Whens) (o : Nodes) → (make no_nodes ≡ case_of t ws o → ⊥) → with_one make (blanks n ++ no_nodes ∷ []) ≡ case_of t ws o → ⊥
unfolding blanks
one_is_none make zero t ws o apart h = apart h
one_is_none make (suc zero) t ws o apart h = absurd cc
one_is_none make (suc (suc n)) t ws o apart h = absurd cc

two_is_none : (make : Nodes → Nodes → tree.Node) (n : ℕ) (t : Expression) (ws : Whens) (o : Nodes) → (make no_nodes no_nodes ≡ case_of t ws o → ⊥) → with_two make (blanks n ++ no_nodes ∷ []) ≡ case_of t ws o → ⊥
unfolding blanks
two_is_none make zero t ws o apart h = absurd cc
two_is_none make (suc zero) t ws o apart h = apart h
two_is_none make (suc (suc zero)) t ws o apart h = absurd cc
two_is_none make (suc (suc (suc n))) t ws o apart h = absurd cc

abbrev pub IsNoCase : Node → Type 0
IsNoCase n = (t : Expression) (vss : List (List Expression)) (es : List ℕ) (z : ℕ) → flat_of n ≡ case_flat t vss es z → ⊥

pub no_case : (n : Node) → ((target : _) (arms : _) (end : _) → n ≡ Case target arms end → ⊥) → IsNoCase n
no_case (Plain s) other t vss es z h = let e = some_case (flat_of (Plain s)) t vss es z h in absurd cc
no_case (Output chain) other t vss es z h = let e = some_case (flat_of (Output chain)) t vss es z h in absurd cc
no_case (Assign name chain) other t vss es z h = let e = some_case (flat_of (Assign name chain)) t vss es z h in absurd cc
no_case (Raw s) other t vss es z h = let e = some_case (flat_of (Raw s)) t vss es z h in absurd cc
no_case Comment other t vss es z h = let e = some_case (flat_of Comment) t vss es z h in absurd cc
no_case (If c bodies) other t vss es z h = two_is_none _ (length vss) t (whens_of vss) no_nodes (λ e. absurd cc) (some_case (flat_of (If c bodies)) t vss es z h)
no_case (Unless c bodies) other t vss es z h = two_is_none _ (length vss) t (whens_of vss) no_nodes (λ e. absurd cc) (some_case (flat_of (Unless c bodies)) t vss es z h)
no_case (Capture name end) other t vss es z h = one_is_none _ (length vss) t (whens_of vss) no_nodes (λ e. absurd cc) (some_case (flat_of (Capture name end)) t vss es z h)
no_case (Case target arms end) other t vss es z h = other target arms end refl
no_case (For f bodies) other t vss es z h = two_is_none _ (length vss) t (whens_of vss) no_nodes (λ e. absurd cc) (some_case (flat_of (For f bodies)) t vss es z h)
no_case (TableRow r end) other t vss es z h = one_is_none _ (length vss) t (whens_of vss) no_nodes (λ e. absurd cc) (some_case (flat_of (TableRow r end)) t vss es z h)
no_case Break other t vss es z h = let e = some_case (flat_of Break) t vss es z h in absurd cc
no_case Continue other t vss es z h = let e = some_case (flat_of Continue) t vss es z h in absurd cc
no_case (Increment name) other t vss es z h = let e = some_case (flat_of (Increment name)) t vss es z h in absurd cc
no_case (Decrement name) other t vss es z h = let e = some_case (flat_of (Decrement name)) t vss es z h in absurd cc
no_case (Cycle group values) other t vss es z h = let e = some_case (flat_of (Cycle group values)) t vss es z h in absurd cc
no_case (IfChanged end) other t vss es z h = one_is_none _ (length vss) t (whens_of vss) no_nodes (λ e. absurd cc) (some_case (flat_of (IfChanged end)) t vss es z h)
no_case (Filtered filters end) other t vss es z h = one_is_none _ (length vss) t (whens_of vss) no_nodes (λ e. absurd cc) (some_case (flat_of (Filtered filters end)) t vss es z h)
no_case (Include name bindings) other t vss es z h = let e = some_case (flat_of (Include name bindings)) t vss es z h in absurd cc
no_case (JekyllInclude name bindings) other t vss es z h = let e = some_case (flat_of (JekyllInclude name bindings)) t vss es z h in absurd cc
no_case (Render name bindings) other t vss es z h = let e = some_case (flat_of (Render name bindings)) t vss es z h in absurd cc
no_case (RenderEach name each bindings) other t vss es z h = let e = some_case (flat_of (RenderEach name each bindings)) t vss es z h in absurd cc
