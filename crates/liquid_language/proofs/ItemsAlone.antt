-- Languages in which each tag has items alone.
use Rattle.std.proofs.Common.{◌≡◌, List, [], Bool, false, Option, Some, None, refl, ap}
use Rattle.liquid_model.specs.Maps.{listed}
use Rattle.liquid_model.specs.Texts.{Text}
use Rattle.liquid_lexer.specs.SourceReading.{style_by}
use Rattle.liquid_lexer.specs.declared.style.Style.{Style}
use Rattle.liquid_lexer.specs.declared.style.Style.TheVariants.{Items}
use Rattle.liquid_language.specs.HostTags.{numbers_of, style_in}
use Rattle.liquid_language.specs.Languages.{kinds_of}
use Rattle.liquid_language.specs.Styles.{style_among, style_of, style_of_host, style_of_kind}
use Rattle.liquid_language.specs.declared.host_tags.HostKind.{HostKind}
use Rattle.liquid_language.specs.declared.registry.BlockKind.{BlockKind}
use Rattle.liquid_language.specs.declared.registry.Language.{Language}
use Rattle.liquid_language.specs.declared.registry.TagKind.{TagKind}

items_among : (l : Language) (a : Option TagKind) (b : Option BlockKind) (h : Option HostKind) → l.include_paths ≡ false → style_of_host l.host_tags h ≡ Items → style_among l a b h ≡ Items
items_among l (Some kind) b h e host = ap (λ (paths : Bool). style_of_kind paths kind) e
items_among l None (Some kind) h e host = refl
items_among l None None h e host = host

items_of_name : (l : Language) (w : Text) → l.include_paths ≡ false → style_of_host l.host_tags (listed (numbers_of l.host_tags) w) ≡ Items → style_of l w ≡ Items
items_of_name l w e host = items_among l (listed (kinds_of l.tags) w) (listed (kinds_of l.blocks) w) (listed (numbers_of l.host_tags) w) e host

nothing_listed : (l : Language) (w : Text) → numbers_of l.host_tags ≡ [] → style_of_host l.host_tags (listed (numbers_of l.host_tags) w) ≡ Items
unfolding listed
nothing_listed l w none = ap (λ (es : List (Text × HostKind)). style_of_host l.host_tags (listed es w)) none

by_name : (f : Text → Style) → ((w : Text) → f w ≡ Items) → (o : Option Text) → style_by f o ≡ Items
by_name f all None = refl
by_name f all (Some w) = all w

-- where the host has registered nothing
pub items_without_host : (l : Language) → l.include_paths ≡ false → numbers_of l.host_tags ≡ [] → (o : Option Text) → style_by (style_of l) o ≡ Items
items_without_host l e none o = by_name (style_of l) (λ w. items_of_name l w e (nothing_listed l w none)) o

-- where each of the host's tags and blocks has items
pub items_alone : (l : Language) → l.include_paths ≡ false → ((kind : HostKind) → style_in l.host_tags kind ≡ Items) → (w : Text) → style_of l w ≡ Items
items_alone l e each w = items_of_name l w e (on (listed (numbers_of l.host_tags) w))
  where
    on : (h : Option HostKind) → style_of_host l.host_tags h ≡ Items
    on None = refl
    on (Some kind) = each kind
