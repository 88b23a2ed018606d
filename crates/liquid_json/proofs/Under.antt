-- What is read of data where not all of it is asked for.
use Rattle.std.proofs.Common.{◌≡◌, ℕ, zero, suc, Bool, true, false, List, [], ◌∷◌, take, String, Global, BTreeMap, Option, Some, None, Result, Ok, Err, nat_cmp, bytes_eq, string_bytes, refl, sym, ap, ◌∙◌, subst}
use Rattle.std.specs.Prelude.{IfOk}
use Rattle.std.specs.BTreeMap.{is_at}
use Rattle.std.specs.Cmp.Lexicographic.{slice_cmp, bytes_decides}
use Rattle.std.specs.Map.{lookup}
use mathlib.Core.Path.{subst₂}
use Rattle.liquid_model.specs.Answer.{Answers}
use Rattle.liquid_model.specs.Data.{Datum, nil, truth, number, text, array, object, Items, Pairs, put}
use Rattle.liquid_model.specs.Find.{value_at}
use Rattle.liquid_model.specs.Skipping.{AlikeKeys}
use Rattle.liquid_model.specs.Texts.{Text}
use Rattle.liquid_model.specs.Uses.{Use, Alike, Pairwise}
use Rattle.liquid_model.specs.UseViews.{uses_view, members_view}
use Rattle.liquid_model.specs.declared.error.Error.{Error}
use Rattle.liquid_model.specs.declared.error.ErrorKind.{ErrorKind}
use Rattle.liquid_model.specs.declared.uses.Use as code
use Rattle.liquid_model.proofs.Alike.{AlikeLists}
use Rattle.liquid_model.proofs.Maps.{value_at_put, value_at_put_other}
use Rattle.liquid_json.specs.Asked.{AnswersAlike}
use Rattle.liquid_json.specs.Under.{Under, is_same, is_missing, is_unread, is_beginning, has_some_members, ItemsUnder, are_left, is_first, KeysUnder}
use Rattle.liquid_json.specs.inside.Copies.{AskMore}
use Rattle.liquid_json.specs.inside.Planned.{IsReadData}
use Rattle.liquid_json.proofs.PlainCopies.{Entry, use_more}

-- ---- items

-- items that are built: alike in what is asked, and under those of the text
abbrev pub BuiltLists : Use → List Datum → List Datum → Type 0
BuiltLists u = Pairwise (λ c d. Alike u (Some c) (Some d) × Under (Some c) (Some d))

pub built_alike : (u : Use) (cs ds : List Datum) → BuiltLists u cs ds → AlikeLists u cs ds
built_alike u [] [] a = tt
built_alike u [] (d ∷ ds) a = absurd a
built_alike u (c ∷ cs) [] a = absurd a
built_alike u (c ∷ cs) (d ∷ ds) a = (a.0.0, built_alike u cs ds a.1)

pub built_under : (u : Use) (cs ds : List Datum) → BuiltLists u cs ds → ItemsUnder cs ds
built_under u [] [] a = are_left
built_under u [] (d ∷ ds) a = absurd a
built_under u (c ∷ cs) [] a = absurd a
built_under u (c ∷ cs) (d ∷ ds) a = is_first a.0.1 (built_under u cs ds a.1)

-- those up to a limit begin the list
pub first_under : (u : Use) (n : ℕ) (cs ds : List Datum) → BuiltLists u (take n cs) ds → ItemsUnder cs ds
first_under u n cs [] a = are_left
first_under u zero cs (d ∷ ds) a = absurd a
first_under u (suc n) [] (d ∷ ds) a = absurd a
first_under u (suc n) (c ∷ cs) (d ∷ ds) a = is_first a.0.1 (first_under u n cs ds a.1)

-- ---- members

differs : (b : Bool) → b ≡ false → b ≡ true → ⊥
differs b e f = absurd cc

pub under_in_both : (ps qs : Pairs) (k : Text) (c d : Datum) → KeysUnder ps qs → Under (Some c) (Some d) → KeysUnder (put k c ps) (put k d qs)
under_in_both ps qs k c d a h key = at (bytes_eq key k) refl
  where
    at : (b : Bool) → bytes_eq key k ≡ b → Under (value_at key (put k c ps)) (value_at key (put k d qs))
    at true e = subst (λ q. Under (value_at q (put k c ps)) (value_at q (put k d qs))) (sym ((bytes_decides key k).0 e)) (subst₂ Under (sym (value_at_put k c ps)) (sym (value_at_put k d qs)) h)
    at false e =
        let other : key ≡ k → ⊥ = λ is. differs (bytes_eq key k) e ((bytes_decides key k).1 is) in
        subst₂ Under (sym (value_at_put_other key k c ps other)) (sym (value_at_put_other key k d qs other)) (a key)

pub under_in_one : (ps qs : Pairs) (k : Text) (c : Datum) → KeysUnder ps qs → value_at k qs ≡ None → KeysUnder (put k c ps) qs
under_in_one ps qs k c a none key = at (bytes_eq key k) refl
  where
    at : (b : Bool) → bytes_eq key k ≡ b → Under (value_at key (put k c ps)) (value_at key qs)
    at true e = subst (Under (value_at key (put k c ps))) (sym (ap (λ q. value_at q qs) ((bytes_decides key k).0 e) ∙ none)) is_missing
    at false e = subst (λ o. Under o (value_at key qs)) (sym (value_at_put_other key k c ps (λ is. differs (bytes_eq key k) e ((bytes_decides key k).1 is)))) (a key)

-- whether uses name a key
abbrev pub named : List Entry → Text → Option code.Use
named es key = lookup (is_at (λ k. slice_cmp nat_cmp key (string_bytes k))) es

-- the pairs have no key that the uses don't name
abbrev pub NamedAlone : List Entry → Pairs → Type 0
NamedAlone es qs = (key : Text) → named es key ≡ None → value_at key qs ≡ None

pub named_put : (es : List Entry) (qs : Pairs) (k : Text) (d : Datum) (u : code.Use) → Some u ≡ named es k → NamedAlone es qs → NamedAlone es (put k d qs)
named_put es qs k d u there a key none =
    value_at_put_other key k d qs (λ is. something u (there ∙ sym (ap (named es) is) ∙ none)) ∙ a key none
  where
    something : (u : code.Use) → Some u ≡ None → ⊥
    something u e = absurd cc

-- ---- a value and a map

abbrev InMaps : Option Datum → Option Datum → Type 0
InMaps (Some (object ps)) (Some (object qs)) = KeysUnder ps qs
InMaps _ _ = Unit {0}

in_same : (o : Option Datum) → InMaps o o
in_same None = tt
in_same (Some nil) = tt
in_same (Some (truth b)) = tt
in_same (Some (number z)) = tt
in_same (Some (text s)) = tt
in_same (Some (array ds)) = tt
in_same (Some (object ps)) = λ key. is_same

in_missing : (o : Option Datum) → InMaps o None
in_missing None = tt
in_missing (Some nil) = tt
in_missing (Some (truth b)) = tt
in_missing (Some (number z)) = tt
in_missing (Some (text s)) = tt
in_missing (Some (array ds)) = tt
in_missing (Some (object ps)) = tt

in_unread : (c : Datum) → InMaps (Some c) (Some nil)
in_unread nil = tt
in_unread (truth b) = tt
in_unread (number z) = tt
in_unread (text s) = tt
in_unread (array ds) = tt
in_unread (object ps) = tt

in_maps : {o p : Option Datum} → Under o p → InMaps o p
in_maps (is_same {o}) = in_same o
in_maps (is_missing {o}) = in_missing o
in_maps (is_unread {d}) = in_unread d
in_maps (is_beginning a) = tt
in_maps (has_some_members a) = a

pub keys_under : (ps qs : Pairs) → Under (Some (object ps)) (Some (object qs)) → KeysUnder ps qs
keys_under ps qs a = in_maps a

-- ---- the whole data

pub read_more : (more less : BTreeMap (String Global) code.Use) (wanted : Result Pairs ErrorKind) (qs : Pairs) → AskMore (members_view more.entries) (members_view less.entries) → IsReadData (uses_view more) wanted qs → IsReadData (uses_view less) wanted qs
read_more more less wanted qs h a = (a.0, a.1, (λ key. use_more (members_view more.entries) (members_view less.entries) key h _ _ (a.2 key)), a.3)

pub read_under : (U : Text → Use) (wanted : Result Pairs ErrorKind) (qs : Pairs) → IsReadData U wanted qs → IfOk wanted (λ ps. KeysUnder ps qs)
read_under U wanted qs a = subst (λ r. IfOk r (λ ps. KeysUnder ps qs)) (sym a.1) a.3

pub whole_under : {X : Type 0} (seen : X → Pairs) (r : Result X Error) (wanted : Result Pairs ErrorKind) → Answers seen r wanted → IfOk r (λ m. IfOk wanted (λ ps. KeysUnder ps (seen m)))
whole_under seen (Ok m) wanted h = subst (λ r. IfOk r (λ ps. KeysUnder ps (seen m))) (sym h) (λ key. is_same)
whole_under seen (Err e) wanted h = tt
