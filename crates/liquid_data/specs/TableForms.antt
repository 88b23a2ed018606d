-- How a table is written, and how its cells are read.
--     table_config form      how the rows of a table are parted into cells
use Rattle.std.specs.Prelude.{ℕ}
use Rattle.csv.specs.Reading.{default_config}
use Rattle.csv.specs.declared.parser.Config.{Config}
use Rattle.liquid_data.specs.declared.form.CellForm.TheVariants.{Texts}
use Rattle.liquid_data.specs.declared.form.NameForm.TheVariants.{AsWritten}
use Rattle.liquid_data.specs.declared.form.TableForm.{TableForm}

-- commas between cells, each of which is a text, under the names that the first row has
abbrev pub plain_form : TableForm
plain_form = record { delimiter = 44; cells = Texts; names = AsWritten }

-- quotes and line ends are the same whatever byte parts the cells
abbrev pub delimited : ℕ → Config
delimited delimiter = record default_config { delimiter = delimiter }

abbrev pub table_config : TableForm → Config
table_config form = delimited form.delimiter
