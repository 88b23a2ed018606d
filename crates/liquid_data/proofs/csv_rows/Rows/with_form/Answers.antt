use Rattle.std.proofs.Common.{inr, ap, option_map, sym, ◌∙◌}
use Rattle.csv.specs.Reading.{builder_config, builder_is_flexible, builder_names_headers, builder_trim, strip_bom}
use Rattle.liquid_data.specs.Heads.{names_view}
use Rattle.liquid_data.specs.Quotes.{bytes_left}
use Rattle.liquid_data.proofs.TableHeads.{head_named, with_delimiter}
use Rattle.liquid_data.proofs.csv_rows.Rows.with_form.Goals as goal

pub returns-clause-plain : goal.returns-clause-plain
returns-clause-plain g c =
    let made = c.from_reader.ensures in
    c.in_default.ensures.plain (
      inr (inr (made.has_headers ∙ ap builder_names_headers c.delimiter.ensures ∙ ap builder_names_headers c.flexible.ensures ∙ ap builder_names_headers c.has_headers.ensures, made.headers)),
      made.trim ∙ ap builder_trim c.delimiter.ensures ∙ ap builder_trim c.flexible.ensures ∙ ap builder_trim c.has_headers.ensures ∙ c.new.ensures.trim,
      made.flexible ∙ ap builder_is_flexible c.delimiter.ensures ∙ ap builder_is_flexible c.flexible.ensures,
    )

pub returns-clause-form : goal.returns-clause-form
returns-clause-form g c =
    let made = c.from_reader.ensures in
    let read = c.in_default.ensures.row (
      inr (inr (made.has_headers ∙ ap builder_names_headers c.delimiter.ensures ∙ ap builder_names_headers c.flexible.ensures ∙ ap builder_names_headers c.has_headers.ensures, made.headers)),
      made.trim ∙ ap builder_trim c.delimiter.ensures ∙ ap builder_trim c.flexible.ensures ∙ ap builder_trim c.has_headers.ensures ∙ c.new.ensures.trim,
      made.flexible ∙ ap builder_is_flexible c.delimiter.ensures ∙ ap builder_is_flexible c.flexible.ensures,
    ) in (
      read.2 ∙ made.config ∙ ap builder_config c.delimiter.ensures
          ∙ ap (with_delimiter c.args.form.delimiter) (ap builder_config c.flexible.ensures ∙ ap builder_config c.has_headers.ensures ∙ c.new.ensures.config),
      c.in_default.ensures.cells,
    )

pub returns-clause-head : goal.returns-clause-head
returns-clause-head g c =
    let made = c.from_reader.ensures in
    let read = c.in_default.ensures.row (
      inr (inr (made.has_headers ∙ ap builder_names_headers c.delimiter.ensures ∙ ap builder_names_headers c.flexible.ensures ∙ ap builder_names_headers c.has_headers.ensures, made.headers)),
      made.trim ∙ ap builder_trim c.delimiter.ensures ∙ ap builder_trim c.flexible.ensures ∙ ap builder_trim c.has_headers.ensures ∙ c.new.ensures.trim,
      made.flexible ∙ ap builder_is_flexible c.delimiter.ensures ∙ ap builder_is_flexible c.flexible.ensures,
    ) in
    head_named c.args.form _ _ _ _ _ _ _ _ _
    (made.config ∙ ap builder_config c.delimiter.ensures
    ∙ ap (with_delimiter c.args.form.delimiter) (ap builder_config c.flexible.ensures ∙ ap builder_config c.has_headers.ensures ∙ c.new.ensures.config))
    made.state (made.source ∙ ap (λ q. option_map strip_bom (bytes_left g.R.Read.remaining q)) c.new-2.ensures) read.0
    (sym (ap names_view c.in-Ok.is) ∙ c.in_ok-names.ensures)
