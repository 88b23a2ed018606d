use Rattle.std.proofs.Common.{◌∙◌, ◌++◌, ap, encode_utf8, inl, inr, refl, sym}
use Rattle.liquid_files.proofs.excerpt.without_mark.Goals as goal

pub returns-in-Some : goal.returns-in-Some
returns-in-Some c = inl (c.in-Some.ensures.cases.1.split ∙ ap (λ r. encode_utf8 0xFEFF ++ r) (sym c.in-Some.ensures.cases.2))

pub returns-in-None : goal.returns-in-None
returns-in-None c = inr (c.in-None.ensures.cases, refl)
