-- The node of a `case`, where it stands.
use Rattle.std.proofs.Common.{◌≡◌, ℕ, ◌+◌, ◌<◌, ◌≤◌, List, [], ◌∷◌, ◌++◌, get_or, Result, refl, sym, ap, subst, ◌∙◌, arith}
use Rattle.liquid_model.specs.declared.error.Error.{Error}
use Rattle.liquid_core.specs.Expression.{Expression}
use Rattle.liquid_core.specs.declared.state.State.{State}
use Rattle.liquid_evaluation.specs.Names.{node_names}
use Rattle.liquid_evaluation.specs.Tree as tree
use Rattle.liquid_evaluation.specs.Tree.{Whens, Nodes, no_whens, when, case_of}
use Rattle.liquid_syntax.specs.Flats.{Maker, arm_ends, arm_values, bodies_of, case_flat, flat_of, flats, nodes_of, values_in, with_arms, NodeAt, IsNode}
use Rattle.liquid_syntax.specs.Forest.{Bodies, no_bodies, body}
use Rattle.liquid_syntax.specs.Laid.{IsLaidOut, StandBodies, last_end}
use Rattle.liquid_syntax.specs.declared.node.Arm.{Arm}
use Rattle.liquid_syntax.specs.declared.node.Node.{Node}
use Rattle.liquid_syntax.proofs.Places.{one_body}
use Rattle.liquid_engine.specs.inside.Choices.{CaseStands, HasCaseAt}
use Rattle.liquid_engine.specs.inside.Engine.{node_meant}
use Rattle.liquid_engine.specs.Silent.{IsSilent}
use Rattle.liquid_engine.specs.StateKept.{Keeps, IsRenderNode}
use Rattle.liquid_engine.specs.Performs.{Configuration, Performs}
use Rattle.liquid_meaning.specs.Meaning.{Setting}
use Rattle.liquid_engine.proofs.CaseChoices.{case_le}
use Rattle.liquid_engine.proofs.Going.{Known, known, node_within, NodePerforms, NodeKeeps, NodeAlone}

-- the bodies of a `case`
case_bodies : (ns : List Node) (from : ℕ) (arms : List Arm) (last : ℕ) (bs : Bodies Maker) → StandBodies (flats ns) from (arm_ends arms ++ last ∷ []) bs
    → (ws : Whens) × (o : Nodes) × CaseStands ns from arms last ws o × ((make : Whens → Nodes → tree.Node) → with_arms make (arm_values arms) (bodies_of bs) ≡ make ws o) × (last_end from (arm_ends arms ++ last ∷ []) ≡ last)
case_bodies ns from [] last bs s =
    let (b, is, here) = one_body (flats ns) from last bs s in
    (no_whens, nodes_of b, (b, here, refl), (λ make. ap (λ x. with_arms make [] (bodies_of x)) is), refl)
case_bodies ns from (arm ∷ arms) last no_bodies s = absurd cc
case_bodies ns from (arm ∷ arms) last (body f bs) (e, rest, eq, here, more) =
    let same : e ≡ arm.end = cc in
    let ends : rest ≡ arm_ends arms ++ last ∷ [] = cc in
    let (ws, o, stands, made, over) = case_bodies ns arm.end arms last bs (subst (λ l. StandBodies (flats ns) arm.end l bs) ends (subst (λ k. StandBodies (flats ns) k rest bs) same more)) in
    (when (values_in arm) (nodes_of f) ws, o, (f, subst (IsLaidOut (flats ns) from f) same here, refl, refl, stands), (λ make. made (λ ws o. make (when (values_in arm) (nodes_of f) ws) o)), over)

module _ (ns : List Node) (at : ℕ) (target : Expression) (arms : List Arm) (last to : ℕ) (r m : Node) (req : IsNode ns at to) (read : r ≡ get_or ns at r) (same : r ≡ m)
    (form : flat_of m ≡ case_flat target (arm_values arms) (arm_ends arms) last) where
  pub known_case : (n : tree.Node) (next : ℕ) → NodeAt ns at n next → (ws : Whens) × (o : Nodes) × CaseStands ns (at + 1) arms last ws o × (n ≡ case_of target ws o) × (next ≡ last)
  known_case n next there =
      let (bs, inner, made, ends) = subst (Known ns at n next) form (known ns at r m n next there (node_within ns at to req) read same) in
      let (ws, o, stands, is, over) = case_bodies ns (at + 1) arms last bs inner in
      (ws, o, stands, made ∙ is (λ ws o. case_of target ws o), ends ∙ over)

  -- its parts stand after it, and inside of the range
  pub the_case : HasCaseAt ns (at + 1) arms last × (at < last) × (last ≤ to)
  the_case =
      let (n, next, there, le) = req in
      let (ws, o, stands, is, ends) = known_case n next there in
      let first = case_le ns (at + 1) arms last ws o stands in
      ((ws, o, stands), omega arith, (let x : last ≤ to = omega arith in x))

  pub case_ends : (n : tree.Node) (next : ℕ) → NodeAt ns at n next → last ≡ next
  case_ends n next there = let (ws, o, stands, is, ends) = known_case n next there in sym ends

  pub case_performs : (setting : Setting) (depth : ℕ) (res : Result (Unit {0}) Error) (a z : Configuration) → ((ws : Whens) (o : Nodes) → CaseStands ns (at + 1) arms last ws o → Performs res (node_meant setting depth (case_of target ws o)) a z)
      → NodePerforms setting depth ns at res a z
  case_performs setting depth res a z h n next there =
      let (ws, o, stands, is, ends) = known_case n next there in
      subst (λ y. Performs res (node_meant setting depth y) a z) (sym is) (h ws o stands)

  pub case_keeps : (setting : Setting) (s u : State) → ((ws : Whens) (o : Nodes) → CaseStands ns (at + 1) arms last ws o → Keeps (node_names (case_of target ws o)) setting s u) → NodeKeeps setting ns at s u
  case_keeps setting s u h n next there =
      let (ws, o, stands, is, ends) = known_case n next there in
      subst (λ y. Keeps (node_names y) setting s u) (sym is) (h ws o stands)

  pub case_other : (s u : State) → NodeAlone ns at s u
  case_other s u n next there h =
      let (ws, o, stands, is, ends) = known_case n next there in
      absurd (subst (λ y. IsRenderNode y) is h)

  pub case_loud : (n : tree.Node) (next : ℕ) → NodeAt ns at n next → IsSilent n → ⊥
  case_loud n next there silent =
      let (ws, o, stands, is, ends) = known_case n next there in
      subst (λ y. IsSilent y) is silent
