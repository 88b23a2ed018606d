use Rattle.std.proofs.Common.{◌≡◌, ◌∷◌, ◌∙◌, ◌++◌, [], ap, rules, string_bytes}
use Rattle.liquid_language.specs.Entries.{seen}
use Rattle.liquid_site_round.specs.SiteWriting.{built_file_view, built_names}
use Rattle.liquid_site_round.specs.WrittenNames.{list_text}
use Rattle.liquid_site_round.proofs.Names.{text_turn}
use Rattle.liquid_site_round.proofs.list.push_names.Goals as goal

pub loop-name-init : goal.loop-name-init
loop-name-init c =
    let all : c.into_iter-name-iterator.result ≡ c.args.files.now.entries = search rules in
    ap (λ es. string_bytes c.args.text.now ++ list_text (built_names (seen built_file_view es))) all

pub loop-name-preserved : goal.loop-name-preserved
loop-name-preserved c =
    text_turn (string_bytes c.loop-name.text) (string_bytes c.push_name.new.text) (string_bytes c.in-Some.name.now) _ (built_names (seen built_file_view c.next.new.self)) _ (ap (λ es. built_names (seen built_file_view es)) c.in-Some.ensures.steps)
    (c.in_ok-push_name.ensures ∙ ap (λ n. string_bytes c.loop-name.text ++ (n ++ 10 ∷ [])) c.as_str.ensures.value) c.loop-name.invariant
