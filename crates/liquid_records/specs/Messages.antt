-- What a message says of a record without a page, after its number.
use Rattle.std.specs.Prelude.{◌++◌, codes, string_bytes}
use Rattle.std.specs.Fmt.{decimal}
use Rattle.liquid_engine.specs.declared.limits.LimitReached.TheVariants.{Bytes, Turns}
use Rattle.liquid_model.specs.Errors.{error_text}
use Rattle.liquid_model.specs.Quotes.{quotation}
use Rattle.liquid_model.specs.Texts.{Text}
use Rattle.liquid_files.specs.Words.{protected_text}
use Rattle.liquid_files.specs.declared.disk.DiskFault.TheVariants.{Protected}
use Rattle.liquid_records.specs.declared.job.Why.{Why}
use Rattle.liquid_records.specs.declared.job.Why.TheVariants.{NoData, Unnamed, BadName, Faulted}
use Rattle.liquid_records.specs.declared.job.Why.TheVariants.{Limited}
use Rattle.liquid_records.specs.declared.merge.Failure.{Failure}
use Rattle.liquid_records.specs.declared.merge.Failure.TheVariants.{NoPage, Again, Unwritten}

abbrev pub why_text : Why → Text
why_text (NoData e) = error_text e
why_text (Faulted e) = error_text e
why_text (Unnamed e) = codes "the name of its file: " ++ error_text e
why_text (BadName name) = codes "the name of its file is `" ++ (quotation (string_bytes name)
    ++ codes "`: it may not begin with a slash, and each part between slashes needs more than dots")
why_text (Limited Bytes) = codes "its page takes more than its limit allows"
why_text (Limited Turns) = codes "its page takes more turns than its limit allows"

abbrev pub failure_text : Failure → Text
failure_text (NoPage why) = why_text why
failure_text (Again name before) = codes "the file `" ++ (quotation (string_bytes name)
    ++ (codes "` is that of record " ++ (decimal before
    ++ codes ": give each record another name")))
failure_text (Unwritten name (Protected why)) = codes "the file `"
    ++ (quotation (string_bytes name) ++ (codes "` can't be written: " ++ protected_text why))
failure_text (Unwritten name fault) = codes "the file `" ++ (quotation (string_bytes name)
    ++ codes "` can't be written")
