-- Data that stand under one name, alike as one map.
use Rattle.std.proofs.Common.{◌≡◌, true, BTreeMap, Global, String, Some, None, Option, Result, Ok, Err, sym, subst}
use Rattle.std.specs.Prelude.{IfOk, IfSome}
use Rattle.liquid_model.specs.Answer.{Answers}
use Rattle.liquid_model.specs.Data.{Pairs, object}
use Rattle.liquid_model.specs.Skipping.{AlikeKeys}
use Rattle.liquid_model.specs.Uses.{Use, Fields, nothing, parts, uncounted, use_in}
use Rattle.liquid_model.specs.View.{pairs_view}
use Rattle.liquid_model.specs.declared.error.Error.{Error}
use Rattle.liquid_model.specs.declared.error.ErrorKind.{ErrorKind}
use Rattle.liquid_model.specs.declared.value.Value.{Value}
use Rattle.liquid_model.proofs.Alike.{alike_same}
use Rattle.liquid_json.specs.MapsAsked.{AnswersMapAlike, IsAlikeMap}
use Rattle.liquid_json.specs.PlainUses.{plain_fields}
use Rattle.liquid_json.specs.inside.Copies.{AskMore}
use Rattle.liquid_json.proofs.PlainCopies.{parts_more}
use Rattle.liquid_json.proofs.PlainUses.{map_read, seen}

abbrev ReadData : Type 0
ReadData = BTreeMap (String Global) Value

pub whole_map_answers : {X : Type 0} (view : X → Pairs) (u : Use) (r : Result X Error) (wanted : Result Pairs ErrorKind) → Answers view r wanted → AnswersMapAlike view u r wanted
whole_map_answers view u (Ok m) wanted h = (view m, h, alike_same u _)
whole_map_answers view u (Err e) wanted h = h

-- maps that are alike in each member that is asked for
pub members_map : (more less : Fields) (wanted : Result Pairs ErrorKind) (qs : Pairs) → plain_fields more ≡ true → AskMore more less
    → (ps : Pairs) × (wanted ≡ Ok ps) × AlikeKeys (λ key. use_in key more) ps qs → IsAlikeMap (parts less uncounted) wanted qs
members_map more less wanted qs plain asks a =
    (a.0, a.1, parts_more more less uncounted uncounted asks tt (Some (object a.0)) (Some (object qs)) (map_read more a.0 qs plain (λ key. seen more key plain _ _ (a.2 key))))

over_found : {A : Type 0} (P Q : A → Type 0) (r : Result (Option A) Error) → IfOk r (λ o. IfSome o P) → ((x : A) → P x → Q x) → IfOk r (λ o. IfSome o Q)
over_found P Q (Ok (Some x)) h k = k x h
over_found P Q (Ok None) h k = tt
over_found P Q (Err e) h k = tt

-- of a use that is another one, and of one that asks nothing
pub same_use : (u v : Use) (wanted : Result Pairs ErrorKind) (r : Result (Option ReadData) Error) → u ≡ v → IfOk r (λ o. IfSome o (λ m. IsAlikeMap v wanted (pairs_view m.entries)))
    → IfOk r (λ o. IfSome o (λ m. IsAlikeMap u wanted (pairs_view m.entries)))
same_use u v wanted r same h = subst (λ w. IfOk r (λ o. IfSome o (λ m. IsAlikeMap w wanted (pairs_view m.entries)))) (sym same) h

pub no_use : (u v : Use) (wanted : Result Pairs ErrorKind) (r : Result (Option ReadData) Error) → u ≡ nothing → IfOk r (λ o. IfSome o (λ m. IsAlikeMap v wanted (pairs_view m.entries)))
    → IfOk r (λ o. IfSome o (λ m. IsAlikeMap u wanted (pairs_view m.entries)))
no_use u v wanted r is h =
    same_use u nothing wanted r is (over_found (λ (m : ReadData). IsAlikeMap v wanted (pairs_view m.entries)) (λ (m : ReadData). IsAlikeMap nothing wanted (pairs_view m.entries)) r h (λ m found. (found.0, found.1, tt)))
