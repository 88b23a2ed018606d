-- Uses that name members alone, each once.
use Rattle.std.proofs.Common.{◌≡◌, ℕ, Bool, true, false, cond, not, ◌&&◌, ◌||◌, Option, Some, refl, ap, ◌∙◌, codes}
use mathlib.Core.Path.{subst}
use Rattle.std.specs.Cmp.Lexicographic.{bytes_decides}
use Rattle.liquid_model.specs.Texts.{Text, same_text}
use Rattle.liquid_model.specs.Data.{Datum, array, object, Items, no_items, Pairs}
use Rattle.liquid_model.specs.Lists.{list_of}
use Rattle.liquid_model.specs.Uses.{Use, nothing, everything, parts, Fields, no_fields, field, uncounted, up_to, PairwiseUpTo, Alike, use_in, asks_whether, join, is_place}
use Rattle.liquid_model.specs.Projected.{use_of_key, asks_length, asks_of_list, pairs_wanted}
use Rattle.liquid_model.specs.Skipping.{AlikeKeys}
use Rattle.liquid_model.proofs.Projected.{fields_unseen}
use Rattle.liquid_model.proofs.Skipping.{map_with_some_keys, list_without_items}
use Rattle.liquid_json.specs.PlainUses.{is_plain_use, plain_fields}

pub first_true : (a b : Bool) → a && b ≡ true → a ≡ true
first_true true b e = refl
first_true false b e = absurd cc

pub second_true : (a b : Bool) → a && b ≡ true → b ≡ true
second_true true b e = e
second_true false b e = absurd cc

untrue : (a : Bool) → not a ≡ true → a ≡ false
untrue true e = absurd cc
untrue false e = refl

neither : (a b c : Bool) → b ≡ false → c ≡ false → (a && b) || c ≡ false
neither true b c e f = rw e f
neither false b c e f = f

no_size : (a b : Bool) → a || b ≡ false → a ≡ false
no_size true b e = absurd cc
no_size false b e = refl

pub unlisted : (ms : Fields) → plain_fields ms ≡ true → asks_of_list ms ≡ false
unlisted no_fields h = refl
unlisted (field k u more) h =
    let kept = untrue _ (first_true _ _ h) in
    let rest = second_true (not (same_text k (codes "size") || is_place k)) _ h in
    neither (asks_whether u) _ _ kept (unlisted more (second_true (is_plain_use u) _ (second_true (not (asks_whether (use_of_key k more))) _ rest)))

pub unsized : (ms : Fields) → plain_fields ms ≡ true → asks_length ms ≡ false
unsized no_fields h = refl
unsized (field k u more) h =
    let kept = no_size (same_text k (codes "size")) (is_place k) (untrue _ (first_true _ _ h)) in
    let rest = second_true (not (same_text k (codes "size") || is_place k)) _ h in
    neither (asks_whether u) _ _ kept (unsized more (second_true (is_plain_use u) _ (second_true (not (asks_whether (use_of_key k more))) _ rest)))

-- with a use that asks nothing
with_none : (u v : Use) (o p : Option Datum) → asks_whether v ≡ false → Alike u o p → Alike (join u v) o p
with_none nothing nothing o p e a = tt
with_none everything nothing o p e a = a
with_none (parts ms ts) nothing o p e a = a
with_none u everything o p e a = absurd cc
with_none u (parts ms ts) o p e a = absurd cc

none_with : (u v : Use) → asks_whether u ≡ false → asks_whether v ≡ false → asks_whether (join u v) ≡ false
none_with nothing v e f = f
none_with everything v e f = absurd cc
none_with (parts ms ts) v e f = absurd cc

same_name : (b : Bool) (k l : Text) → same_text k l ≡ b → b ≡ true → k ≡ l
same_name b k l e h = (bytes_decides k l).0 (e ∙ h)

of_key : (ms : Fields) (key : Text) → plain_fields ms ≡ true → (o p : Option Datum) → Alike (use_in key ms) o p → Alike (use_of_key key ms) o p
of_key no_fields key h o p a = a
of_key (field k u more) key h o p a =
    let rest = second_true (not (same_text k (codes "size") || is_place k)) _ h in
    let once = untrue _ (first_true (not (asks_whether (use_of_key k more))) _ rest) in
    let after = second_true (is_plain_use u) _ (second_true (not (asks_whether (use_of_key k more))) _ rest) in
    at (same_text k key) refl a once (λ b. of_key more key after o p b)
  where
    at : (b : Bool) → same_text k key ≡ b → Alike (cond b u (use_in key more)) o p → asks_whether (use_of_key k more) ≡ false → (Alike (use_in key more) o p → Alike (use_of_key key more) o p)
        → Alike (cond b (join u (use_of_key key more)) (use_of_key key more)) o p
    at true e a once next = with_none u (use_of_key key more) o p (subst (λ l. asks_whether (use_of_key l more) ≡ false) ((bytes_decides k key).0 e) once) a
    at false e a once next = next a

of_no_key : (ms : Fields) (key : Text) → plain_fields ms ≡ true → use_in key ms ≡ nothing → asks_whether (use_of_key key ms) ≡ false
of_no_key no_fields key h e = refl
of_no_key (field k u more) key h e =
    let rest = second_true (not (same_text k (codes "size") || is_place k)) _ h in
    let once = untrue _ (first_true (not (asks_whether (use_of_key k more))) _ rest) in
    let after = second_true (is_plain_use u) _ (second_true (not (asks_whether (use_of_key k more))) _ rest) in
    at (same_text k key) refl e once (λ b. of_no_key more key after b)
  where
    at : (b : Bool) → same_text k key ≡ b → cond b u (use_in key more) ≡ nothing → asks_whether (use_of_key k more) ≡ false → (use_in key more ≡ nothing → asks_whether (use_of_key key more) ≡ false)
        → asks_whether (cond b (join u (use_of_key key more)) (use_of_key key more)) ≡ false
    at true is e once next = none_with u (use_of_key key more) (ap asks_whether e) (subst (λ l. asks_whether (use_of_key l more) ≡ false) ((bytes_decides k key).0 is) once)
    at false is e once next = next e

pub seen : (ms : Fields) (key : Text) → plain_fields ms ≡ true → (o p : Option Datum) → Alike (use_in key ms) o p → Alike (pairs_wanted ms uncounted key) o p
seen ms key h o p a = with_none (use_of_key key ms) nothing o p refl (of_key ms key h o p a)

pub unseen : (ms : Fields) (key : Text) → plain_fields ms ≡ true → use_in key ms ≡ nothing → asks_whether (pairs_wanted ms uncounted key) ≡ false
unseen ms key h e = none_with (use_of_key key ms) nothing (of_no_key ms key h e) refl

pub plain_in : (ms : Fields) (key : Text) → plain_fields ms ≡ true → is_plain_use (use_in key ms) ≡ true
plain_in no_fields key h = refl
plain_in (field k u more) key h =
    let rest = second_true (not (asks_whether (use_of_key k more))) _ (second_true (not (same_text k (codes "size") || is_place k)) _ h) in
    at (same_text k key) (first_true (is_plain_use u) _ rest) (plain_in more key (second_true (is_plain_use u) _ rest))
  where
    at : (b : Bool) → is_plain_use u ≡ true → is_plain_use (use_in key more) ≡ true → is_plain_use (cond b u (use_in key more)) ≡ true
    at true e f = e
    at false e f = f

pub list_read : (ms : Fields) (n : Option ℕ) (u : Use) (cs ds : Items) → plain_fields ms ≡ true → PairwiseUpTo n (λ c d. Alike u (Some c) (Some d)) (list_of cs) (list_of ds) → Alike (parts ms (up_to n u)) (Some (array cs)) (Some (array ds))
list_read ms n u cs ds h a = (refl, (fields_unseen cs ds ms (unlisted ms h), a))

pub list_skipped : (ms : Fields) (cs : Items) → plain_fields ms ≡ true → Alike (parts ms uncounted) (Some (array cs)) (Some (array no_items))
list_skipped ms cs h = list_without_items ms cs (unlisted ms h)

pub map_read : (ms : Fields) (qs ps : Pairs) → plain_fields ms ≡ true → AlikeKeys (pairs_wanted ms uncounted) qs ps → Alike (parts ms uncounted) (Some (object qs)) (Some (object ps))
map_read ms qs ps h a = map_with_some_keys ms uncounted qs ps (unsized ms h) a
