-- The layouts that are left after some were passed.
use Rattle.std.proofs.Common.{◌≡◌, Bool, true, false, cond, ◌||◌, List, [], ◌∷◌, length, ℕ, suc, Option, Some, None, String, Global, string_bytes, nat_cmp, refl, sym, ap, ◌∙◌}
use Rattle.std.specs.BTreeMap.{is_at}
use Rattle.std.specs.BTreeSet.{BTreeSet, contains_text}
use Rattle.std.specs.Cmp.Lexicographic.{slice_cmp}
use Rattle.std.specs.List.{list_any}
use Rattle.std.proofs.lemmas.Slice.Eq.{bytes_eq-Decides}
use Rattle.liquid_model.specs.Maps.{listed}
use Rattle.liquid_model.specs.Texts.{Text, same_text}
use Rattle.liquid_core.specs.Environment.{Names}
use Rattle.liquid_language.specs.Entries.{seen, without}
use Rattle.liquid_syntax.specs.NameSets.{added, mentioned_in_set}
use Rattle.liquid_syntax.proofs.Held.{Ascend, AllAbove, apart, absent_below}
use Rattle.liquid_site_build.specs.Sources.{SiteText, SiteTexts}

same_is : (a b : Text) → same_text a b ≡ true → a ≡ b
same_is a b h = (bytes_eq-Decides a b).0 h

is_same : (a b : Text) → a ≡ b → same_text a b ≡ true
is_same a b h = (bytes_eq-Decides a b).1 h

module _ {Y : Type 0} where
  above_cond : (a : Text) (e : Text × Y) (es rest : List (Text × Y)) (b : Bool) → AllAbove a (e ∷ es) → AllAbove a rest → AllAbove a (cond b es (e ∷ rest))
  above_cond a e es rest true h k = h.1
  above_cond a e es rest false h k = (h.0, k)

  above_without : (a name : Text) (es : List (Text × Y)) → AllAbove a es → AllAbove a (without name es)
  above_without a name [] h = tt
  above_without a name (e ∷ es) h = above_cond a e es (without name es) (same_text e.0 name) h (above_without a name es h.1)

  ascend_cond : (e : Text × Y) (es rest : List (Text × Y)) (b : Bool) → Ascend es → AllAbove e.0 rest → Ascend rest → Ascend (cond b es (e ∷ rest))
  ascend_cond e es rest true h k l = h
  ascend_cond e es rest false h k l = (k, l)

  pub ascend_without : (name : Text) (es : List (Text × Y)) → Ascend es → Ascend (without name es)
  ascend_without name [] h = tt
  ascend_without name (e ∷ es) h = ascend_cond e es (without name es) (same_text e.0 name) h.1 (above_without e.0 name es h.0) (ascend_without name es h.1)

  -- what isn't found under the name that was taken out is found as before
  taken_out : (e : Text × Y) (name x : Text) (rest : Option Y) → same_text e.0 name ≡ false → (b c : Bool) → same_text name x ≡ b → same_text e.0 x ≡ c
      → cond c (Some e.1) (cond b None rest) ≡ cond b None (cond c (Some e.1) rest)
  taken_out e name x rest other true true g h = absurd (apart (sym (is_same e.0 name (same_is e.0 x h ∙ sym (same_is name x g))) ∙ other))
  taken_out e name x rest other true false g h = refl
  taken_out e name x rest other false c g h = refl

  none_either : (b : Bool) → ◌≡◌ {A = Option Y} None (cond b None None)
  none_either true = refl
  none_either false = refl

  at_first : (e : Text × Y) (name x : Text) (es : List (Text × Y)) → AllAbove e.0 es → e.0 ≡ name → (b c : Bool) → same_text name x ≡ b → same_text e.0 x ≡ c
      → listed es x ≡ cond b None (cond c (Some e.1) (listed es x))
  at_first e name x es up is true c f g = ap (listed es) (sym (is ∙ same_is name x f)) ∙ absent_below e.0 es up
  at_first e name x es up is false false f g = refl
  at_first e name x es up is false true f g = absurd (apart (sym (is_same name x (sym is ∙ same_is e.0 x g)) ∙ f))

  pub listed_without : (name x : Text) (es : List (Text × Y)) → Ascend es → listed (without name es) x ≡ cond (same_text name x) None (listed es x)
  unfolding listed
  listed_without name x [] h = none_either (same_text name x)
  listed_without name x (e ∷ es) h = on (same_text e.0 name) refl (listed_without name x es h.1)
    where
      on : (a : Bool) → same_text e.0 name ≡ a → listed (without name es) x ≡ cond (same_text name x) None (listed es x)
          → listed (cond a es (e ∷ without name es)) x ≡ cond (same_text name x) None (cond (same_text e.0 x) (Some e.1) (listed es x))
      on true is rest = at_first e name x es h.0 (same_is e.0 name is) (same_text name x) (same_text e.0 x) refl refl
      on false is rest = ap (λ o. cond (same_text e.0 x) (Some e.1) o) rest ∙ taken_out e name x (listed es x) is (same_text name x) (same_text e.0 x) refl refl

-- these are left of all after those were passed
abbrev pub AreLeft : Names → SiteTexts → SiteTexts → Type 0
AreLeft passed all left = Ascend left × ((x : Text) → listed left x ≡ cond (passed x) None (listed all x))

passed_or : {Y : Type 0} (p q : Bool) (o : Option Y) → cond q None (cond p None o) ≡ cond (p || (q || false)) None o
passed_or true true o = refl
passed_or true false o = refl
passed_or false true o = refl
passed_or false false o = refl

turned : (a b : Text) → same_text a b ≡ same_text b a
turned a b = on (same_text a b) (same_text b a) refl refl
  where
    on : (x y : Bool) → same_text a b ≡ x → same_text b a ≡ y → x ≡ y
    on true true e f = refl
    on false false e f = refl
    on true false e f = absurd (apart (sym (is_same b a (sym (same_is a b e))) ∙ f))
    on false true e f = absurd (apart (sym (is_same a b (sym (same_is b a f))) ∙ e))

pub left_without : (passed : Names) (all left : SiteTexts) (name : Text) → AreLeft passed all left → AreLeft (added (name ∷ []) passed) all (without name left)
unfolding added
left_without passed all left name h = (
  ascend_without name left h.0,
  λ x.
      listed_without name x left h.0 ∙ ap (cond (same_text name x) None) (h.1 x) ∙ passed_or (passed x) (same_text name x) (listed all x)
      ∙ ap (λ b. cond (passed x || (b || false)) None (listed all x)) (turned name x),
)

-- a set without names has none
pub none_in : (names : BTreeSet (String Global)) (x : Text) → names.keys ≡ [] → mentioned_in_set names x ≡ false
unfolding mentioned_in_set
none_in names x h = ap (list_any (is_at (λ k. slice_cmp nat_cmp x (string_bytes k)))) h

pub in_set : (names : BTreeSet (String Global)) (x : Text) (b : Bool) → b ≡ contains_text names x → (c : Bool) → b ≡ c → mentioned_in_set names x ≡ c
unfolding mentioned_in_set
in_set names x b h c k = sym h ∙ k

pub seen_length : {X Y : Type 0} (f : X → Y) (es : List (String Global × X)) → length (seen f es) ≡ length es
seen_length f [] = refl
seen_length f (e ∷ es) = ap suc (seen_length f es)

pub none_for : {Y : Type 0} (b : Bool) (o : Option Y) → o ≡ None → cond b None o ≡ None
none_for true o h = refl
none_for false o h = h
