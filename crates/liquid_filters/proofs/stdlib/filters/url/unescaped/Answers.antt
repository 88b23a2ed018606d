use Rattle.std.proofs.Common.{ap, ◌∙◌, sym, subst, refl}
use Rattle.std.specs.Str.{IsUtf8}
use Rattle.percent_encoding.specs.Percent.{percent_decode}
use Rattle.liquid_filters.specs.Urls.{text_of_bytes, unescaped}
use Rattle.liquid_filters.proofs.WebFaults.{faulted}
use Rattle.liquid_filters.proofs.Urls.{of_bytes_text, of_bytes_not}
use Rattle.liquid_filters.proofs.stdlib.filters.url.unescaped.Goals as goal

pub returns-in-Ok : goal.returns-in-Ok
returns-in-Ok c =
    let raw = c.percent_decode.ensures.bytes ∙ ap percent_decode (c.deref.ensures.value ∙ c.in_ok-bytes.ensures) in
    of_bytes_text _ _ (subst IsUtf8 raw c.in-Ok.ensures.ok_only_if_utf8) (c.in_ok-into_owned-in-Ok.ensures.ok ∙ c.in-Ok.ensures.value ∙ raw)

pub returns-in-Err-Utf8 : goal.returns-in-Err-Utf8
returns-in-Err-Utf8 c =
    let raw = c.percent_decode.ensures.bytes ∙ ap percent_decode (c.deref.ensures.value ∙ c.in_ok-bytes.ensures) in
    faulted (text_of_bytes (unescaped c.args.text.now)) _ c.new.result.kind c.new.ensures.kind_or_memory (of_bytes_not _ (λ h. let f = c.in-Err-Utf8.ensures.utf8 (subst IsUtf8 (sym raw) h) in cc (f, c.in-Err-Utf8.field-0-is))) refl
