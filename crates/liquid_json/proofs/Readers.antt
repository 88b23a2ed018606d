-- What is alike in what readers read is alike in what uses ask for.
use Rattle.std.proofs.Common.{BTreeMap, String, Global}
use Rattle.liquid_model.specs.Data.{Pairs}
use Rattle.liquid_model.specs.Skipping.{AlikeKeys}
use Rattle.liquid_model.specs.Texts.{Text}
use Rattle.liquid_model.specs.Uses.{Use, everything}
use Rattle.liquid_model.specs.UseViews.{members_view, uses_view}
use Rattle.liquid_model.specs.declared.uses.Use as code
use Rattle.liquid_model.proofs.Alike.{alike_equal}
use Rattle.liquid_json.specs.inside.Copies.{AskMore}
use Rattle.liquid_json.proofs.PlainCopies.{use_more}

pub all_alike : (U : Text → Use) (ps qs : Pairs) → AlikeKeys (λ name. everything) ps qs → AlikeKeys U ps qs
all_alike U ps qs a key = alike_equal (U key) _ _ (a key)

pub plain_alike : (uses plain : BTreeMap (String Global) code.Use) → AskMore (members_view plain.entries) (members_view uses.entries) → (ps qs : Pairs) → AlikeKeys (uses_view plain) ps qs → AlikeKeys (uses_view uses) ps qs
plain_alike uses plain more ps qs a key = use_more (members_view plain.entries) (members_view uses.entries) key more _ _ (a key)
