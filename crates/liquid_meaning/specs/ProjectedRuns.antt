-- The data a run needs: the data cut down to the parts that its template can see.
--     ProjectedRun      a run over the data is a run over what is left of it;   SameSight      and
--                       so are the runs over data of which the same is left
use Rattle.std.specs.Prelude.{◌≡◌, ℕ, T, false}
use Rattle.liquid_model.specs.Data.{Pairs}
use Rattle.liquid_model.specs.Find.{value_at}
use Rattle.liquid_model.specs.Maps.{empty}
use Rattle.liquid_model.specs.Projected.{projected_pairs}
use Rattle.liquid_core.specs.Environment.{Environment, own_environment}
use Rattle.liquid_core.specs.declared.missing_value.Missing.{Missing}
use Rattle.liquid_evaluation.specs.Tree.{Nodes}
use Rattle.liquid_meaning.specs.Meaning.{Setting, meaning}
use Rattle.liquid_meaning.specs.Reading.{Uses, Needs, covers}
use Rattle.liquid_meaning.specs.Reads.{Respects}

-- a new environment with these pairs as data, and what becomes of a missing value
abbrev pub over_data : Missing → Pairs → Environment
over_data missing ps = record (own_environment missing empty) { globals = λ name. value_at name ps }

-- the text and the end of a run over data are those of a run over what is left of the data
abbrev pub ProjectedRun : Type 0
ProjectedRun = (needs : Needs) (U : Uses) (setting : Setting) (depth : ℕ) (nodes : Nodes)
    (missing : Missing) (ps : Pairs) → Respects setting.answers needs
    → T (covers needs U setting nodes)
    → (let o = meaning setting depth nodes (over_data missing ps) in
    let p = meaning setting depth nodes (over_data missing (projected_pairs U false ps)) in
    (o.text ≡ p.text) × (o.end ≡ p.end))

-- so data of which the same is left give the same page: a page need be made again only where that
-- changes
abbrev pub SameSight : Type 0
SameSight = (needs : Needs) (U : Uses) (setting : Setting) (depth : ℕ) (nodes : Nodes)
    (missing : Missing) (ps qs : Pairs) → Respects setting.answers needs
    → T (covers needs U setting nodes)
    → projected_pairs U false ps ≡ projected_pairs U false qs
    → (let o = meaning setting depth nodes (over_data missing ps) in
    let p = meaning setting depth nodes (over_data missing qs) in
    (o.text ≡ p.text) × (o.end ≡ p.end))
