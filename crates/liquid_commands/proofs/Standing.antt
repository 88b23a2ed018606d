-- Data of a file in place of others, with what stands before.
use Rattle.std.proofs.Common.{◌≡◌, ℕ, List, [], ◌∷◌, Bool, true, false, cond, BTreeMap, String, Global, Less, nat_cmp, Option, Some, None, Result, Ok, Err, bytes_eq, codes, string_bytes, refl, sym, ap, subst, ◌∙◌}
use mathlib.Core.Path.{subst₂}
use Rattle.std.proofs.lemmas.Map.Text.{is_eq-slice_cmp}
use Rattle.std.specs.Cmp.Lexicographic.{slice_cmp, bytes_decides}
use Rattle.std.specs.List.{AllByRecursion}
use Rattle.std.specs.List.Sorted.{IsStrictlySortedBy}
use Rattle.std.specs.Map.{keys_of}
use Rattle.std.specs.Ordering.{is_eq}
use Rattle.std.specs.String.{string_cmp}
use Rattle.liquid_model.specs.Answer.{Answers}
use Rattle.liquid_model.specs.Data.{Pairs, no_pairs, pair, put, object}
use Rattle.liquid_model.specs.Find.{value_at}
use Rattle.liquid_model.specs.Skipping.{AlikeKeys}
use Rattle.liquid_model.specs.Texts.{Text, ◌else◌}
use Rattle.liquid_model.specs.Uses.{Use, Alike}
use Rattle.liquid_model.specs.View.{view, pairs_view}
use Rattle.liquid_model.specs.declared.error.Error.{Error}
use Rattle.liquid_model.specs.declared.error.ErrorKind.{ErrorKind}
use Rattle.liquid_model.specs.declared.value.Value.{Value}
use Rattle.liquid_model.proofs.Alike.{alike_else, alike_same}
use Rattle.liquid_model.proofs.Maps.{value_at_put, value_at_put_other}
use Rattle.liquid_model.proofs.Skipping.{put_in_both}
use Rattle.liquid_model.proofs.Views.{Entry}
use Rattle.liquid_commands.specs.Words.{has_ending, is_yaml}
use Rattle.liquid_data.specs.Forms.{formed, put_all}
use Rattle.liquid_data.specs.declared.forms.DataForm.{DataForm}
use Rattle.liquid_json.specs.Asked.{IsAlikeData}
use Rattle.liquid_json.specs.Json.{data_of}
use Rattle.liquid_json.specs.MapsAsked.{AnswersMapAlike}
use Rattle.liquid_json.proofs.Ascending.{Ascend, Below, data_ascends, names}
use Rattle.liquid_commands.specs.Inputs.{data_of_file, with_input}
use Rattle.liquid_commands.specs.Seen.{StandsInFor, AnswersInput}

abbrev pub ReadData : Type 0
ReadData = BTreeMap (String Global) Value

-- ---- the same data

same_members : (U : Text → Use) (ms ps qs : Pairs) → AlikeKeys U ps qs → AlikeKeys U (put_all ms ps) (put_all ms qs)
same_members U no_pairs ps qs a = a
same_members U (pair k d ms) ps qs a = same_members U ms (put k d ps) (put k d qs) (put_in_both U ps qs k d d a (alike_same (U k) (Some d)))

same_stands : (U : Text → Use) (name : Option Text) (ps : Pairs) → StandsInFor U name ps ps
same_stands U None ps before others a = same_members U ps before others a
same_stands U (Some name) ps before others a = put_in_both U before others name (object ps) (object ps) a (alike_same (U name) (Some (object ps)))

pub whole_input : (U : Text → Use) (name : Option Text) (r : Result ReadData Error) (wanted : Result Pairs ErrorKind) → Answers (λ (m : ReadData). pairs_view m.entries) r wanted
    → AnswersInput (λ (m : ReadData). pairs_view m.entries) U name r wanted
whole_input U name (Ok m) wanted h = (pairs_view m.entries, h, same_stands U name (pairs_view m.entries))
whole_input U name (Err e) wanted h = h

-- ---- under a name

pub named_stands : (U : Text → Use) (name : Text) (ps qs : Pairs) → Alike (U name) (Some (object ps)) (Some (object qs)) → StandsInFor U (Some name) ps qs
named_stands U name ps qs h before others a = put_in_both U before others name (object ps) (object qs) a h

-- ---- member by member

not_below : (k l : Text) → slice_cmp nat_cmp k l ≡ Less → bytes_eq k l ≡ false
not_below k l lower = sym (is_eq-slice_cmp k l) ∙ ap is_eq lower

none_below : (k : Text) (ps : Pairs) → Below k (names ps) → value_at k ps ≡ None
none_below k no_pairs h = refl
none_below k (pair l d ps) h = ap (λ b. cond b (Some d) (value_at k ps)) (not_below k l h.0) ∙ none_below k ps h.1

found_in_all : (ms ps : Pairs) (key : Text) → Ascend (names ms) → value_at key (put_all ms ps) ≡ (value_at key ms else value_at key ps)
found_in_all no_pairs ps key h = refl
found_in_all (pair k d ms) ps key h = found_in_all ms (put k d ps) key h.1 ∙ at (bytes_eq key k) refl
  where
    at : (b : Bool) → bytes_eq key k ≡ b → (value_at key ms else value_at key (put k d ps)) ≡ (cond (bytes_eq key k) (Some d) (value_at key ms) else value_at key ps)
    at true is =
        let same : key ≡ k = (bytes_decides key k).0 is in
        ap (λ o. o else value_at key (put k d ps)) (ap (λ q. value_at q ms) same ∙ none_below k ms h.0) ∙ ap (λ q. value_at q (put k d ps)) same ∙ value_at_put k d ps
        ∙ ap (λ b. cond b (Some d) (value_at key ms) else value_at key ps) (sym is)
    at false is =
        ap (λ o. value_at key ms else o) (value_at_put_other key k d ps (λ e. differs is ((bytes_decides key k).1 e))) ∙ ap (λ b. cond b (Some d) (value_at key ms) else value_at key ps) (sym is)
      where
        differs : {b : Bool} → b ≡ false → b ≡ true → ⊥
        differs e f = absurd cc

pub members_stand : (U : Text → Use) (ps qs : Pairs) → Ascend (names ps) → Ascend (names qs) → AlikeKeys U ps qs → StandsInFor U None ps qs
members_stand U ps qs h g a before others b key =
    subst₂ (Alike (U key)) (sym (found_in_all ps before key h)) (sym (found_in_all qs others key g)) (alike_else (U key) (value_at key ps) (value_at key qs) (value_at key before) (value_at key others) (a key) (b key))

-- ---- the entries of a map

entries_below : (k : String Global) (es : List Entry) → AllByRecursion (λ l. string_cmp k l ≡ Less) (keys_of es) → Below (string_bytes k) (names (pairs_view es))
entries_below k [] h = tt
entries_below k (e ∷ es) h = (h.0, entries_below k es h.1)

pub entries_ascend : (es : List Entry) → IsStrictlySortedBy string_cmp (keys_of es) → Ascend (names (pairs_view es))
unfolding IsStrictlySortedBy
entries_ascend [] h = tt
entries_ascend (e ∷ es) h = (entries_below e.0 es h.0, entries_ascend es h.1)

-- ---- what readers answer

pub named_answers : (U : Text → Use) (u : Use) (name : Text) (r : Result ReadData Error) (wanted : Result Pairs ErrorKind) → U name ≡ u → AnswersMapAlike (λ (m : ReadData). pairs_view m.entries) u r wanted
    → AnswersInput (λ (m : ReadData). pairs_view m.entries) U (Some name) r wanted
named_answers U u name (Ok m) wanted same h =
    let qs = pairs_view m.entries in
    (h.0, h.1, named_stands U name h.0 qs (subst (λ v. Alike v (Some (object h.0)) (Some (object qs))) (sym same) h.2))
named_answers U u name (Err e) wanted same h = h

pub members_answer : (U : Text → Use) (source : List ℕ) (es : List Entry) → IsStrictlySortedBy string_cmp (keys_of es) → IsAlikeData U (data_of source) (pairs_view es)
    → (ps : Pairs) × (data_of source ≡ Ok ps) × StandsInFor U None ps (pairs_view es)
members_answer U source es sorted h = (h.0, h.1, members_stand U h.0 (pairs_view es) (data_ascends source h.0 h.1) (entries_ascend es sorted) h.2)

-- ---- the plain form is that of the text

form_off : (r : Result Pairs ErrorKind) → formed false r ≡ r
form_off (Ok ps) = refl
form_off (Err kind) = refl

pub plain_form : (U : Text → Use) (name : Option Text) (r : Result ReadData Error) (path source : List ℕ) (form : DataForm) → has_ending (codes ".toml") path ≡ false → is_yaml path ≡ false → form.decimals_as_texts ≡ false → form.dates ≡ false
    → AnswersInput (λ (m : ReadData). pairs_view m.entries) U name r (data_of source) → AnswersInput (λ (m : ReadData). pairs_view m.entries) U name r (data_of_file path form source)
plain_form U name r path source form json plain whole undated h =
    subst (AnswersInput (λ (m : ReadData). pairs_view m.entries) U name r) (sym (rw (json, plain, whole, undated) (form_off (data_of source)))) h
