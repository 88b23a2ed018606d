-- Keys, and the runs over data of one key.
use Rattle.std.proofs.Common.{◌≡◌, ℕ, Option, Some, None, Result, Ok, Err, String, Global, string_bytes, sym, ap, ◌∙◌, subst}
use Rattle.liquid_model.specs.Answer.{Faulted, IsValueOrMemory}
use Rattle.liquid_model.specs.Data.{Datum, object, Pairs, no_pairs}
use Rattle.liquid_model.specs.Skipping.{AlikeKeys}
use Rattle.liquid_model.specs.Texts.{Text}
use Rattle.liquid_model.specs.declared.error.Error.{Error}
use Rattle.liquid_model.specs.declared.error.ErrorKind.{ErrorKind}
use Rattle.liquid_model.specs.declared.error.ErrorKind.TheVariants.{Memory}
use Rattle.liquid_model.proofs.Alike.{alike_same}
use Rattle.liquid_core.specs.declared.missing_value.Missing.{Missing}
use Rattle.liquid_model.specs.FilterAnswers.{FilterAnswer}
use Rattle.liquid_evaluation.specs.Evaluation.{answers_with}
use Rattle.liquid_evaluation.specs.Tree.{Nodes}
use Rattle.liquid_json.specs.JsonTexts.{json_text}
use Rattle.liquid_json.specs.Asked.{IsAlikeData}
use Rattle.liquid_json.specs.Json.{data_of, object_read}
use Rattle.liquid_json.proofs.Plain.{of_object}
use Rattle.liquid_filter_sets.specs.ReadBack.{json_read_back, value_read}
use Rattle.liquid_meaning.specs.Meaning.{meaning}
use Rattle.liquid_meaning.specs.ProjectedRuns.{over_data}
use Rattle.liquid_meaning.specs.Reading.{Uses}
use Rattle.liquid_syntax.specs.declared.partials.Partials.{Partials}
use Rattle.liquid_uses.specs.Covered.{SeesDataAlone, covered_setting}
use Rattle.liquid_seen_keys.specs.Keys.{IsKeyOf, AnswersKey, EqualKeysEqualPages}
use Rattle.serde_json.specs.Data as json
use Rattle.serde_json.specs.Read.{read}

-- a value that is read is a map where it is one
map_read : (o : Option json.Data) (ms : Pairs) → value_read o ≡ Ok (object ms) → object_read o ≡ Ok ms
map_read None ms h = absurd cc
map_read (Some d) ms h = of_object d ms h

data_back : (ms : Pairs) → json_read_back (object ms) ≡ Ok (object ms) → data_of (json_text (object ms)) ≡ Ok ms
data_back ms h = map_read (read (json_text (object ms))) ms h

memory : (source : Text) (k : ErrorKind) → k ≡ Memory → Faulted k (data_of source)
memory source k is = subst (λ (x : ErrorKind). Faulted x (data_of source)) (sym is) tt

written : (U : Uses) (source : Text) (ms : Pairs) (r : Result (String Global) Error) → IsAlikeData U (data_of source) ms → json_read_back (object ms) ≡ Ok (object ms)
    → IsValueOrMemory (λ s. string_bytes s) r (json_text (object ms)) → AnswersKey U source r
written U source ms (Ok t) a back h = record { whole = a.0; seen = ms; source_is = a.1; key_is = ap data_of h ∙ data_back ms back; alike = a.2 }
written U source ms (Err e) a back h = memory source e.kind h

-- the text of a map that is read back
pub key_written : (U : Uses) (source : Text) (ms : Pairs) (d : Datum) (r : Result (String Global) Error) → IsAlikeData U (data_of source) ms → d ≡ object ms → json_read_back d ≡ Ok d
    → IsValueOrMemory (λ s. string_bytes s) r (json_text d) → AnswersKey U source r
key_written U source ms d r a is back h =
    written U source ms r a (subst (λ x. json_read_back x ≡ Ok x) is back) (subst (λ x. IsValueOrMemory (λ s. string_bytes s) r (json_text x)) is h)

-- no key, for want of memory
pub refused_key : (U : Uses) (source : Text) (e : Error) → e.kind ≡ Memory → AnswersKey U source (Err e)
refused_key U source e h = memory source e.kind h

pub whole_key : (U : Uses) (source : Text) (ms : Pairs) (t : String Global) → IsAlikeData U (data_of source) ms → string_bytes t ≡ source → AnswersKey U source (Ok t)
whole_key U source ms t a h = record { whole = a.0; seen = a.0; source_is = a.1; key_is = ap data_of h ∙ a.1; alike = λ key. alike_same (U key) _ }

-- ---- the law

abbrev pairs_in : Result Pairs ErrorKind → Pairs
pairs_in (Ok ps) = ps
pairs_in (Err k) = no_pairs

one : (r : Result Pairs ErrorKind) (ps qs : Pairs) → r ≡ Ok ps → r ≡ Ok qs → ps ≡ qs
one r ps qs e f = ap pairs_in (sym e ∙ f)

module _ (U : Uses) (p : Partials) (nodes : Nodes) (alone : SeesDataAlone U p nodes) (named : Text → FilterAnswer) (depth : ℕ) (missing : Missing) where
  abbrev Same : Pairs → Pairs → Type 0
  Same ps qs =
      (let setting = covered_setting (answers_with named) p in
      let o = meaning setting depth nodes (over_data missing ps) in
      let r = meaning setting depth nodes (over_data missing qs) in
      (o.text ≡ r.text) × (o.end ≡ r.end))

  of_key : (source key : Text) (k : IsKeyOf U source key) (ps : Pairs) → data_of source ≡ Ok ps → Same ps k.seen
  of_key source key k ps e = alone named depth missing ps k.seen (subst (λ ms. AlikeKeys U ms k.seen) (one (data_of source) k.whole ps k.source_is e) k.alike)

pub equal_pages : EqualKeysEqualPages
equal_pages U p nodes alone source other key k l ps qs e f named depth missing =
    let a = of_key U p nodes alone named depth missing source key k ps e in
    let b = of_key U p nodes alone named depth missing other key l qs f in
    let same : l.seen ≡ k.seen = one (data_of key) l.seen k.seen l.key_is k.key_is in
    let c = subst (λ ms. Same U p nodes alone named depth missing qs ms) same b in
    (a.0 ∙ sym c.0, a.1 ∙ sym c.1)
