use Rattle.std.proofs.Common.{Some, None, arith, sym}
use Rattle.std.proofs.lemmas.Str.Pattern.{strip_suffix_char}
use Rattle.liquid_jekyll_host_filters.proofs.UrlTexts.{no_slash, slash_goes}
use Rattle.liquid_jekyll_host_filters.proofs.urls.without_slash.Goals as goal

pub returns-in-Some : goal.returns-in-Some
returns-in-Some c = slash_goes c.args.text.now c.in-Some.front.now (strip_suffix_char 47 c.args.text.now (Some c.in-Some.front) c.in-Some.ensures.cases (omega arith))

pub returns-in-None : goal.returns-in-None
returns-in-None c = sym (no_slash c.args.text.now (strip_suffix_char 47 c.args.text.now None c.in-None.ensures.cases (omega arith)))
