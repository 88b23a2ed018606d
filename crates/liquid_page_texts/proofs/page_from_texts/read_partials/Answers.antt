use Rattle.std.proofs.Common.{◌≡◌, ◌∷◌, ◌+◌, drop, inl, inr, sym, ap, ◌∙◌, subst, string_bytes, arith}
use Rattle.std.proofs.lemmas.List.{drop_more}
use Rattle.std.proofs.lemmas.Result.{err_from_is_err_and}
use Rattle.liquid_parser.specs.Parsing.{IsOnlyTree, HasNoTree}
use Rattle.liquid_language.specs.Entries.{put_entry}
use Rattle.liquid_syntax.specs.Templates.{tree_of, partials_of}
use Rattle.liquid_page_texts.specs.Page.{sources_of, ArePartials, HasBadPartial}
use Rattle.liquid_page_texts.proofs.Reading.{partial_refused}
use Rattle.liquid_page_texts.proofs.page_from_texts.read_partials.Goals as goal

pub returns-in_err-template : goal.returns-in_err-template
returns-in_err-template c =
    let l = c.args.language.now in
    let xs = c.args.sources.now in
    let i = c.loop-name.name-index in
    let item = c.loop-name-item.result in
    let next : drop i xs ≡ item ∷ drop (i + 1) xs = drop_more xs i item (omega arith) ∙ ap (λ z. z ∷ drop (i + 1) xs) (sym c.loop-name-item.is) in
    let p = err_from_is_err_and c.from_residual.result c.from_residual.ensures.1 in
    rw (p.1, p.2) (partial_refused l (sources_of xs) (sources_of (drop (i + 1) xs)) c.as_str-text.result.now c.in_err-template.field-0.0 c.in_err-template.ensures.parses c.in_err-template.ensures.kinds
    (λ none. c.loop-name.invariant.bad (subst (λ ps. HasBadPartial l (sources_of ps)) (sym next) (inl (subst (HasNoTree l) c.as_str-text.ensures.value none)))))

pub loop-name-preserved : goal.loop-name-preserved
loop-name-preserved c =
    let l = c.args.language.now in
    let xs = c.args.sources.now in
    let i = c.loop-name.name-index in
    let item = c.loop-name-item.result in
    let next : drop i xs ≡ item ∷ drop (i + 1) xs = drop_more xs i item (omega arith) ∙ ap (λ z. z ∷ drop (i + 1) xs) (sym c.loop-name-item.is) in
    let tree = tree_of c.in_ok-template.template in
    let only : IsOnlyTree l tree (string_bytes item.1) = subst (IsOnlyTree l tree) c.as_str-text.ensures.value c.in_ok-template.ensures.parses in
    let named : string_bytes c.in_ok-from_str.field-0 ≡ string_bytes item.0 = c.in_ok-from_str.ensures.ok ∙ c.as_str-called.ensures.value in
    record {
      read = λ all h. c.loop-name.invariant.read all (subst (λ ps. ArePartials l (sources_of ps) (partials_of c.loop-name.partials) all) (sym next)
          (tree, only, subst (λ before. ArePartials l (sources_of (drop (i + 1) xs)) before all) (c.in_ok-insert.ensures.inserted ∙ ap (λ name. put_entry name tree (partials_of c.loop-name.partials)) named) h));
      bad = λ h. c.loop-name.invariant.bad (subst (λ ps. HasBadPartial l (sources_of ps)) (sym next) (inr (tree, only, h)));
    }
