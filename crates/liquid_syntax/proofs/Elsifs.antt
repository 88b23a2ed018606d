-- An `if` alone in the last body of another, as an `elsif` is, by the places of a list.
use Rattle.std.proofs.Common.{◌≡◌, ℕ, ◌+◌, false, ◌&&◌, List, nat_eq, refl, sym, ap, ◌∙◌, subst, arith}
use Rattle.std.proofs.lemmas.Bool.{eq-eqb, ne_eqb}
use Rattle.liquid_evaluation.specs.declared.condition.Condition.{Condition}
use Rattle.liquid_syntax.specs.Flats.{flat_of}
use Rattle.liquid_syntax.specs.Forest.{Forest, Bodies, empty, node, no_bodies, body}
use Rattle.liquid_syntax.specs.Laid.{Flat, IsLaidOut, StandBodies, last_end}
use Rattle.liquid_syntax.specs.declared.node.BodyEnds.{BodyEnds}
use Rattle.liquid_syntax.specs.declared.node.Node.{Node}
use Rattle.liquid_syntax.specs.declared.node.Node.TheVariants.{Text as Plain, Output, Assign, Raw, Comment, If, Unless, Capture, Case, For, TableRow, Break, Continue, Increment, Decrement, Cycle, IfChanged, Filtered, Include, JekyllInclude, Render, RenderEach}
use Rattle.liquid_syntax.specs.inside.BlankNodes.{is_empty, is_if, is_lone_if, own_flats}
use Rattle.liquid_syntax.proofs.Places.{Stands-le, StandBodies-le, two_bodies}
use Rattle.liquid_syntax.proofs.Tidied.{Begins}

-- a range is over where nothing is left
pub left_by_place : (ns : List (Flat Node)) (k : ℕ) (f : Forest Node) (to : ℕ) → IsLaidOut ns k f to → nat_eq k to ≡ is_empty f
left_by_place ns k empty to s = eq-eqb k to s
left_by_place ns k (node h bs rest) to (x, is, eq, inner, after) =
    let inside = StandBodies-le ns (k + 1) x.ends bs inner in
    let outside = Stands-le ns (last_end (k + 1) x.ends) rest to after in
    ne_eqb k to (λ e. absurd (omega (arith, inside, outside, e)))

-- the first node of a range is an `if` that ends with it
pub lone_by_end : (ns : List Node) (at : ℕ) (f : Forest Node) (to : ℕ) (n : Node) (condition : Condition) (ends : BodyEnds) → n ≡ If condition ends → Begins ns at f to n → nat_eq ends.last_end to ≡ is_lone_if f
lone_by_end ns at f to n condition ends same (bs, rest, is, inner, after) =
    let here : IsLaidOut (own_flats ns) ends.last_end rest to = subst (λ m. IsLaidOut (own_flats ns) (last_end (at + 1) (flat_of m).ends) rest to) same after in
    left_by_place (own_flats ns) ends.last_end rest to here ∙ sym (ap is_lone_if is ∙ ap (λ m. is_if m && is_empty rest) same)

pub other_if : (n : Node) → ((condition : Condition) (ends : BodyEnds) → n ≡ If condition ends → ⊥) → is_if n ≡ false
other_if (If condition ends) other = absurd (other condition ends refl)
other_if (Plain t) other = refl
other_if (Output chain) other = refl
other_if (Assign name chain) other = refl
other_if (Raw t) other = refl
other_if Comment other = refl
other_if (Unless condition ends) other = refl
other_if (Capture name end) other = refl
other_if (Case target arms end) other = refl
other_if (For f ends) other = refl
other_if (TableRow r end) other = refl
other_if Break other = refl
other_if Continue other = refl
other_if (Increment name) other = refl
other_if (Decrement name) other = refl
other_if (Cycle group values) other = refl
other_if (IfChanged end) other = refl
other_if (Filtered filters end) other = refl
other_if (Include name pairs) other = refl
other_if (JekyllInclude name pairs) other = refl
other_if (Render name pairs) other = refl
other_if (RenderEach name each pairs) other = refl

pub lone_other : (ns : List Node) (at : ℕ) (f : Forest Node) (to : ℕ) (n : Node) → is_if n ≡ false → Begins ns at f to n → false ≡ is_lone_if f
lone_other ns at f to n other (bs, rest, is, inner, after) = sym (ap is_lone_if is ∙ ap (λ b. b && is_empty rest) other)

-- the two bodies of an `if`
pub if_bodies : (ns : List Node) (at : ℕ) (n : Node) (condition : Condition) (ends : BodyEnds) (bs : Bodies Node) → n ≡ If condition ends → StandBodies (own_flats ns) (at + 1) (flat_of n).ends bs
    → (f g : Forest Node) × (bs ≡ body f (body g no_bodies)) × IsLaidOut (own_flats ns) (at + 1) f ends.first_end × IsLaidOut (own_flats ns) ends.first_end g ends.last_end
if_bodies ns at n condition ends bs same s =
    two_bodies (own_flats ns) (at + 1) ends.first_end ends.last_end bs (subst (λ m. StandBodies (own_flats ns) (at + 1) (flat_of m).ends bs) same s)
