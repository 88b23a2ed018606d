use Rattle.std.proofs.Common.{◌≡◌, string_bytes, ap, ◌∙◌}
use Rattle.liquid_language.specs.Entries.{seen}
use Rattle.liquid_language.proofs.Inserted.{listed_inserted}
use Rattle.liquid_model.specs.Maps.{insert, listed}
use Rattle.liquid_site_build.proofs.place.put_owner.Goals as goal

pub returns-clause-owners : goal.returns-clause-owners
returns-clause-owners c =
    listed_inserted string_bytes c.insert.new.self.entries c.args.owners.now.entries c.in_ok-file.file c.in_ok-source.source c.in_ok-insert.ensures.entries
    ∙ (λ i. insert (listed (seen string_bytes c.args.owners.now.entries)) (c.in_ok-file.ensures.ok i) (c.in_ok-source.ensures.ok i))
