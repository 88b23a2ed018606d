-- What `ifchanged` does with the text of its body.
use Rattle.std.specs.Prelude.{cond, Option}
use Rattle.liquid_model.specs.Texts.{Text}
use Rattle.liquid_meaning.specs.Effects.{changed_to, is_last_text}
use Rattle.liquid_meaning.specs.Runs.{Nothing, Run, done, read_environment, change, write, ◌>>=◌}

-- the text is written where it differs from the last one
abbrev pub written_unless_last : Option Text → Text → Run Nothing
written_unless_last last t = cond (is_last_text last t) (done tt) (write t)

-- and it is the last one from then on
abbrev pub shown_if_changed : Text → Run Nothing
shown_if_changed t =
    read_environment (λ e. e.registers.changed) >>= (λ last. written_unless_last last t >>=
    (λ a. change (changed_to t)))
