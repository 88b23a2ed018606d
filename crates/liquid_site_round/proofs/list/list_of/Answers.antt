use Rattle.std.proofs.Common.{◌≡◌, ◌∙◌, ◌++◌, ap, drop, string_bytes, sym}
use Rattle.std.proofs.lemmas.List.{drop_all}
use Rattle.liquid_language.specs.Entries.{seen}
use Rattle.liquid_site_round.specs.SiteWriting.{built_file_view, built_names}
use Rattle.liquid_site_round.specs.WrittenNames.{list_text}
use Rattle.liquid_site_round.proofs.Names.{text_both, text_end, words}
use Rattle.liquid_site_round.proofs.list.list_of.Goals as goal

pub returns : goal.returns
returns c =
    let built = built_names (seen built_file_view c.args.files.now.entries) in
    let names = c.args.names.now in
    let text = text_end (string_bytes c.loop-name.text) (words (drop c.loop-name.name-index names)) (list_text (words names)) (ap words (drop_all c.loop-name.name-index names c.loop-name-test.false)) c.loop-name.invariant in
    c.in_ok-push_names.ensures ∙ ap (λ t. t ++ list_text built) text ∙ sym (text_both (words names) built)
