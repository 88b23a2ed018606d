use Rattle.liquid_yaml.proofs.ReadingLaws.{read_stands, standing_is_read, refused_has_none}
use Rattle.liquid_yaml.proofs.laws.front_matter_laws.Goals as goal

pub returns-clause-read : goal.returns-clause-read
returns-clause-read c = read_stands

pub returns-clause-standing : goal.returns-clause-standing
returns-clause-standing c = standing_is_read

pub returns-clause-refused : goal.returns-clause-refused
returns-clause-refused c = refused_has_none
