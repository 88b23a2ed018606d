-- The kinds of faults that pages end by.
use Rattle.std.proofs.Common.{◌≡◌, ℤ, Option, Some, None, Result, Ok, Err, inl, inr, refl, ap, subst}
use Rattle.std.specs.Prelude.{◌⊎◌, T}
use Rattle.liquid_model.specs.Texts.{Text}
use Rattle.liquid_model.specs.declared.error.ErrorKind.{ErrorKind}
use Rattle.liquid_filters.specs.RunKinds.{is_run_kind}
use Rattle.liquid_filters.proofs.Ended.{Ended, ended_ok, ended_err, ended_then}
use Rattle.liquid_parser.specs.Parsing.{IsOfSource}
use Rattle.liquid_language.specs.declared.registry.Language.{Language}
use Rattle.liquid_meaning.specs.Runs.{Nothing}
use Rattle.liquid_meaning.proofs.RunKinds.{kinds_of_own_runs}
use Rattle.serde_json.specs.Data as json
use Rattle.serde_json.specs.Find.{as_i64}
use Rattle.serde_json.specs.Read.{read}
use Rattle.liquid_json.specs.Json.{whole_number, datum_of, parsed_items, parsed_pairs, parsed_object, object_read}
use Rattle.liquid_page_texts.specs.Page.{PageTexts, RefusesTexts, no_template, no_data, bad_partial, IsPage, page, no_page}
use Rattle.liquid_page_texts.specs.PageLaw.{KindsOfPages}

ended_whole : (o : Option ℤ) → Ended (whole_number o)
ended_whole None = ended_err _ tt
ended_whole (Some z) = ended_ok _

mutual
  ended_datum : (d : json.Data) → Ended (datum_of d)
  ended_datum json.null = ended_ok _
  ended_datum (json.boolean b) = ended_ok _
  ended_datum (json.number n) = ended_whole (as_i64 n)
  ended_datum (json.string s) = ended_ok _
  ended_datum (json.array ds) = ended_then (ended_items ds) (λ es. ended_ok _)
  ended_datum (json.object ms) = ended_then (ended_pairs ms) (λ ps. ended_ok _)

  ended_items : (ds : json.Items) → Ended (parsed_items ds)
  ended_items json.no_items = ended_ok _
  ended_items (json.item d ds) = ended_then (ended_datum d) (λ e. ended_then (ended_items ds) (λ es. ended_ok _))

  ended_pairs : (ms : json.Members) → Ended (parsed_pairs ms)
  ended_pairs json.no_members = ended_ok _
  ended_pairs (json.member k d ms) = ended_then (ended_datum d) (λ e. ended_then (ended_pairs ms) (λ ps. ended_ok _))

ended_object : (d : json.Data) → Ended (parsed_object d)
ended_object (json.object ms) = ended_pairs ms
ended_object _ = ended_err _ tt

ended_read : (o : Option json.Data) → Ended (object_read o)
ended_read (Some d) = ended_object d
ended_read None = ended_err _ tt

refused_kind : (l : Language) (texts : PageTexts) (kind : ErrorKind) → RefusesTexts l texts kind → T (is_run_kind kind) ⊎ IsOfSource kind
refused_kind l texts kind (no_template none of_source) = inr of_source
refused_kind l texts kind (no_data only is) = inl ((ended_read (read texts.«data»)).ended kind is)
refused_kind l texts kind (bad_partial only «data» bad of_source) = inr of_source

-- the kind of a fault, or another one in place of a value
abbrev kind_or : ErrorKind → Result Nothing ErrorKind → ErrorKind
kind_or other (Ok x) = other
kind_or other (Err kind) = kind

page_ends : (l : Language) (texts : PageTexts) (text : Text) (end : Result Nothing ErrorKind) (kind : ErrorKind) → IsPage l texts text end → end ≡ Err kind → T (is_run_kind kind) ⊎ IsOfSource kind
page_ends l texts text end kind (page read is) h = inl (kinds_of_own_runs read.partials 32 read.tree _ kind h)
page_ends l texts text end kind (no_page refused) h = subst (λ k. T (is_run_kind k) ⊎ IsOfSource k) (ap (kind_or kind) h) (refused_kind l texts _ refused)

pub kinds_of_pages : KindsOfPages
kinds_of_pages l texts text kind is = page_ends l texts text (Err kind) kind is refl
