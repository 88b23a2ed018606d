use Rattle.liquid_filters.proofs.laws.dates.spelling_laws.Goals as goal
use Rattle.liquid_filters.proofs.Written.{plain_is_read, named_is_read, short_is_read}
use Rattle.liquid_filters.proofs.Spelled.{read_is_written}

pub returns-clause-plain_is_read : goal.returns-clause-plain_is_read
returns-clause-plain_is_read c = plain_is_read

pub returns-clause-named_is_read : goal.returns-clause-named_is_read
returns-clause-named_is_read c = named_is_read

pub returns-clause-short_is_read : goal.returns-clause-short_is_read
returns-clause-short_is_read c = short_is_read

pub returns-clause-read_is_written : goal.returns-clause-read_is_written
returns-clause-read_is_written c = read_is_written
