use Rattle.std.proofs.Common.{Ok, refl, ap, sym, subst, ◌∙◌}
use Rattle.std.proofs.lemmas.Str.{IsUtf8-string_bytes}
use Rattle.std.specs.Str.{IsUtf8}
use Rattle.liquid_model.proofs.Views.{view-Text}
use Rattle.liquid_model.specs.Data.{Datum}
use Rattle.liquid_model.specs.Arguments.{Answer}
use Rattle.liquid_shopify_host_filters.specs.Codecs.{decoded_text}
use Rattle.liquid_shopify_host_filters.proofs.Decoded.{is_decoded, not_decoded}
use Rattle.liquid_shopify_host_filters.proofs.Faults.{faulted}
use Rattle.liquid_shopify_host_filters.proofs.codec.decoded_text.Goals as goal

pub returns-in-Ok : goal.returns-in-Ok
returns-in-Ok c =
    let made = ap (λ v. v.items) c.in-Ok.ensures.ok in
    let answer : Datum → Answer = λ d. Ok d in
    is_decoded c.args.bytes.items _ (subst IsUtf8 made (IsUtf8-string_bytes c.in-Ok.text)) made
    ∙ ap answer (sym (view-Text c.in-Ok.text))

pub returns : goal.returns
returns c =
    faulted (decoded_text c.args.bytes.items) _ c.new.result.kind c.new.ensures.kind_or_memory
    (not_decoded c.args.bytes.items (λ h. let f = c.in-Err.ensures.succeeds h in cc)) refl
