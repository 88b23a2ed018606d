-- A key of what a page can see of its data.
--     IsKeyOf U source key      the key is the text of data that are alike in U with the source's
--     EqualKeysEqualPages      the law: data of one key give the same page
use Rattle.std.specs.Prelude.{◌≡◌, ℕ, Result, Ok, Err, String, string_bytes}
use Rattle.std.specs.declared.alloc.Global.{Global}
use Rattle.liquid_model.specs.Answer.{Faulted}
use Rattle.liquid_model.specs.Data.{Pairs}
use Rattle.liquid_model.specs.Skipping.{AlikeKeys}
use Rattle.liquid_model.specs.Texts.{Text}
use Rattle.liquid_model.specs.declared.error.Error.{Error}
use Rattle.liquid_core.specs.declared.missing_value.Missing.{Missing}
use Rattle.liquid_model.specs.FilterAnswers.{FilterAnswer}
use Rattle.liquid_evaluation.specs.Evaluation.{answers_with}
use Rattle.liquid_evaluation.specs.Tree.{Nodes}
use Rattle.liquid_json.specs.Json.{data_of}
use Rattle.liquid_meaning.specs.Meaning.{meaning}
use Rattle.liquid_meaning.specs.ProjectedRuns.{over_data}
use Rattle.liquid_meaning.specs.Reading.{Uses}
use Rattle.liquid_syntax.specs.declared.partials.Partials.{Partials}
use Rattle.liquid_uses.specs.Covered.{SeesDataAlone, covered_setting}

-- both are texts of data, and under each name these are alike in what U asks of it
pub record IsKeyOf (U : Uses) (source key : Text) : Type 0 where
  pub whole : Pairs
  pub seen : Pairs
  pub source_is : data_of source ≡ Ok whole
  pub key_is : data_of key ≡ Ok seen
  pub alike : AlikeKeys U whole seen

-- the answer is a key of the source, or the kind of fault with which its data are refused, unless
-- memory ran out
abbrev pub AnswersKey : Uses → Text → Result (String Global) Error → Type 0
AnswersKey U source (Ok key) = IsKeyOf U source (string_bytes key)
AnswersKey U source (Err e) = Faulted e.kind (data_of source)

-- where a run sees no more than U asks
abbrev pub EqualKeysEqualPages : Type 0
EqualKeysEqualPages = (U : Uses) (p : Partials) (nodes : Nodes) → SeesDataAlone U p nodes
    → (source other key : Text) → IsKeyOf U source key → IsKeyOf U other key
    → (ps qs : Pairs) → data_of source ≡ Ok ps → data_of other ≡ Ok qs
    → (named : Text → FilterAnswer) (depth : ℕ) (missing : Missing)
    → (let setting = covered_setting (answers_with named) p in
    let o = meaning setting depth nodes (over_data missing ps) in
    let r = meaning setting depth nodes (over_data missing qs) in
    (o.text ≡ r.text) × (o.end ≡ r.end))
