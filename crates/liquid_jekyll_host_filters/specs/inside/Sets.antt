-- The sets of bytes that are escaped.
use Rattle.percent_encoding.specs.declared.ascii_set.AsciiSet.{AsciiSet}
use Rattle.liquid_jekyll_host_filters.specs.declared.percent.Escaping.{Escaping}
use Rattle.liquid_jekyll_host_filters.specs.declared.percent.Escaping.TheVariants.{Form, Path, Url}
use Rattle.liquid_jekyll_host_filters.specs.declared.percent.TheConstants.{FORM, PATH, URL}

abbrev pub set_of : Escaping → AsciiSet
set_of Form = FORM
set_of Path = PATH
set_of Url = URL
