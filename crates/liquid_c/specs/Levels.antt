-- How many levels a run can reach: a page is one, and each block and each partial that runs in it
-- is one more.
--     levels_in ns      what a list of nodes reaches by itself
--     most_levels depth t p      what a template of the levels t reaches, where partials of the
--                                levels p may be nested up to that depth
--
-- Each body counts, whether it would run or not. A tag that runs a partial counts as if it could
-- name any of them, since its name may be a value of the data.
use Rattle.std.specs.Prelude.{ℕ, ◌+◌, ◌-◌, ◌*◌, max, nat_eq, nat_lt}
use Rattle.std.specs.Prelude.{Bool, true, false, ◌&&◌, ◌||◌, cond, List, [], ◌∷◌, length}
use Rattle.liquid_syntax.specs.declared.node.Node.{Node}
use Rattle.liquid_syntax.specs.declared.node.Node.TheVariants.{If, Unless, Capture, Case, For}
use Rattle.liquid_syntax.specs.declared.node.Node.TheVariants.{TableRow, IfChanged, Filtered}
use Rattle.liquid_syntax.specs.declared.node.Node.TheVariants.{Include, JekyllInclude, Render}
use Rattle.liquid_syntax.specs.declared.node.Node.TheVariants.{RenderEach}
use Rattle.liquid_syntax.specs.declared.node.BodyEnds.{BodyEnds}
use Rattle.liquid_c.specs.declared.levels.TemplateLevels.{TemplateLevels}
use Rattle.liquid_c.specs.declared.levels.Open.{Open}

-- ---- which blocks are open at an index of a list of nodes: the innermost first

-- those that haven't ended there
abbrev pub still_open : ℕ → List Open → List Open
still_open at [] = []
still_open at (o ∷ os) = cond (nat_lt at o.end) (o ∷ os) (still_open at os)

abbrev pub block : ℕ → ℕ → List Open → List Open
block otherwise end os = record { otherwise = otherwise; end = end } ∷ os

-- its else list stands between these indices
abbrev pub has_else : Open → ℕ → ℕ → Bool
has_else o at end = nat_eq o.otherwise at && nat_eq o.end end

-- An `if` that is all of the else list of another one is an `elsif`: it stands in the place of
-- that one, and not in it.
abbrev pub left_by_elsif : ℕ → ℕ → List Open → List Open
left_by_elsif at end [] = []
left_by_elsif at end (o ∷ os) = cond (has_else o at end) os (o ∷ os)

-- those that are open after the node there
abbrev pub opened : ℕ → Node → List Open → List Open
opened at (If condition bodies) os =
    block bodies.first_end bodies.last_end (left_by_elsif at bodies.last_end os)
opened at (Unless condition bodies) os = block 0 bodies.last_end os
opened at (Capture name end) os = block 0 end os
opened at (Case target arms end) os = block 0 end os
opened at (For head bodies) os = block 0 bodies.last_end os
opened at (TableRow head end) os = block 0 end os
opened at (IfChanged end) os = block 0 end os
opened at (Filtered filters end) os = block 0 end os
opened at _ os = os

-- ---- what a list of nodes reaches

-- a tag that runs a partial
abbrev pub is_call : Node → Bool
is_call (Include name pairs) = true
is_call (JekyllInclude name pairs) = true
is_call (Render name pairs) = true
is_call (RenderEach name each pairs) = true
is_call _ = false

-- what a node adds that stands at this level
abbrev pub levels_with_node : Node → ℕ → TemplateLevels → TemplateLevels
levels_with_node n level l = record {
  lists = max l.lists level;
  calls = cond (is_call n) (max l.calls level) l.calls;
}

-- the nodes from an index on, where these blocks are open
abbrev pub levels_from : ℕ → List Open → TemplateLevels → List Node → TemplateLevels
levels_from at os l [] = l
levels_from at os l (n ∷ ns) =
    let now = opened at n (still_open at os) in
    levels_from (at + 1) now (levels_with_node n (length now + 1) l) ns

-- a list is a level of its own
unfoldable pub levels_in : List Node → TemplateLevels
levels_in ns = levels_from 0 [] (record { lists = 1; calls = 0 }) ns

-- ---- templates with partials

-- no template
abbrev pub no_levels : TemplateLevels
no_levels = record { lists = 0; calls = 0 }

-- of two templates the more
abbrev pub greater_of : TemplateLevels → TemplateLevels → TemplateLevels
greater_of a b = record { lists = max a.lists b.lists; calls = max a.calls b.calls }

-- what is reached through a tag at this level (0: there is none): all partials but the last run
-- one in their turn
abbrev pub levels_through : ℕ → ℕ → TemplateLevels → ℕ
levels_through depth level p =
    cond (nat_eq depth 0 || nat_eq level 0) 0 (level + (p.calls * (depth - 1) + p.lists))

unfoldable pub most_levels : ℕ → TemplateLevels → TemplateLevels → ℕ
most_levels depth t p = max t.lists (levels_through depth t.calls p)
