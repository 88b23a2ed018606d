-- Relations of lists that hold of one thing alone.
use Rattle.std.proofs.Common.{◌≡◌, ◌-◌, ◌⊎◌, inl, inr, ⊎_elim, ◌||◌, Bool, true, false, cond, List, [], ◌∷◌, ◌++◌, length, drop, slice_get, Option, Some, None, ap, refl, sym, subst, ◌∙◌}
use Rattle.std.specs.Bool.{Decides}
use Rattle.std.specs.List.{filter, filter_map, cons_option}
use Rattle.std.proofs.lemmas.List.{append-nil, take-append-drop}
use Rattle.std.proofs.Math.Seq.{take-append_seam, drop-append_seam}
use Rattle.liquid_model.specs.Answer.{IsTheOne}
use Rattle.liquid_model.specs.Data.{Datum}
use Rattle.liquid_model.specs.Order.{same}
use Rattle.liquid_model.specs.OrderLaws.{same_Decides}
use Rattle.liquid_model.specs.Texts.{Text}
use Rattle.liquid_model.specs.Joined.{joined}
use Rattle.liquid_model.proofs.Ones.{one, same_one}
use Rattle.liquid_filters.specs.Keeping.{has_same, uniq_after}
use Rattle.liquid_filters.specs.ListPlaces.{StartsWith, EndsWith, IsFollowed, IsJoined, KeepsItems, KeepsValues, IsItemOf, KeepsFirsts}
use Rattle.liquid_filters.proofs.Ends.{slice_get_last}

-- ---- the items of which a test holds
kept_at : (P : Datum → Type 0) (d : Datum) (ds rest : List Datum) (b : Bool) → Decides b (P d) → KeepsItems P ds rest → KeepsItems P (d ∷ ds) (cond b (d ∷ rest) rest)
kept_at P d ds rest true h k = inl (h.0 refl, rest, refl, k)
kept_at P d ds rest false h k = inr (λ p. absurd (let e : false ≡ true = h.1 p in cc), k)

kept : (P : Datum → Type 0) (test : Datum → Bool) → ((d : Datum) → Decides (test d) (P d)) → (ds : List Datum) → KeepsItems P ds (filter test ds)
kept P test decides [] = refl
kept P test decides (d ∷ ds) = kept_at P d ds _ (test d) (decides d) (kept P test decides ds)

not_kept : (P : Datum → Type 0) (d : Datum) (b : Bool) → Decides b (P d) → ¬ (P d) → b ≡ false
not_kept P d true h n = absurd (n (h.0 refl))
not_kept P d false h n = refl

kept_only : (P : Datum → Type 0) (test : Datum → Bool) → ((d : Datum) → Decides (test d) (P d)) → (ds out : List Datum) → KeepsItems P ds out → out ≡ filter test ds
kept_only P test decides [] out k = k
kept_only P test decides (d ∷ ds) out (inl k) = k.2 ∙ ap (λ l. d ∷ l) (kept_only P test decides ds k.1 k.3) ∙ sym (ap (λ b. cond b (d ∷ filter test ds) (filter test ds)) ((decides d).1 k.0))
kept_only P test decides (d ∷ ds) out (inr k) = kept_only P test decides ds out k.1 ∙ sym (ap (λ b. cond b (d ∷ filter test ds) (filter test ds)) (not_kept P d (test d) (decides d) k.0))

pub keeps_one : (P : Datum → Type 0) (test : Datum → Bool) → ((d : Datum) → Decides (test d) (P d)) → (ds : List Datum) → IsTheOne (KeepsItems P ds) (filter test ds)
keeps_one P test decides ds = one (KeepsItems P ds) (filter test ds) (kept P test decides ds) (kept_only P test decides ds)

-- ---- the values of the items that have one
valued : (value : Datum → Option Datum) (ds : List Datum) → KeepsValues value ds (filter_map value ds)
valued value [] = refl
valued value (d ∷ ds) = valued_at value d ds _ (value d) refl (valued value ds)
  where
    valued_at : (value : Datum → Option Datum) (d : Datum) (ds rest : List Datum) (o : Option Datum) → value d ≡ o → KeepsValues value ds rest → KeepsValues value (d ∷ ds) (cons_option o rest)
    valued_at value d ds rest (Some e) h k = inl (e, h, rest, refl, k)
    valued_at value d ds rest None h k = inr (h, k)

valued_only : (value : Datum → Option Datum) (ds out : List Datum) → KeepsValues value ds out → out ≡ filter_map value ds
valued_only value [] out k = k
valued_only value (d ∷ ds) out (inl k) = k.3 ∙ ap (λ l. k.0 ∷ l) (valued_only value ds k.2 k.4) ∙ sym (ap (λ o. cons_option o (filter_map value ds)) k.1)
valued_only value (d ∷ ds) out (inr k) = valued_only value ds out k.1 ∙ sym (ap (λ o. cons_option o (filter_map value ds)) k.0)

pub values_one : (value : Datum → Option Datum) (ds : List Datum) → IsTheOne (KeepsValues value ds) (filter_map value ds)
values_one value ds = one (KeepsValues value ds) (filter_map value ds) (valued value ds) (valued_only value ds)

-- ---- the first of items alike
among_either : (d e : Datum) (es : List Datum) (t u : Bool) → Decides t (e ≡ d) → Decides u (IsItemOf d es) → Decides (t || u) ((e ≡ d) ⊎ IsItemOf d es)
among_either d e es true u f g = (λ h. inl (f.0 refl), λ h. refl)
among_either d e es false u f g = (λ h. inr (g.0 h), ⊎_elim (λ q. let z : false ≡ true = f.1 q in cc) (λ q. g.1 q))

among : (d : Datum) (es : List Datum) → Decides (has_same d es) (IsItemOf d es)
among d [] = (λ h. let u : ⊥ = cc in u, λ h. absurd h)
among d (e ∷ es) = among_either d e es (same e d) (has_same d es) (same_Decides e d) (among d es)

not_among : (d : Datum) (es : List Datum) (b : Bool) → Decides b (IsItemOf d es) → ¬ (IsItemOf d es) → b ≡ false
not_among d es true h n = absurd (n (h.0 refl))
not_among d es false h n = refl

first_at : (before : List Datum) (d : Datum) (ds one two : List Datum) (b : Bool) → Decides b (IsItemOf d before) → KeepsFirsts before ds one → KeepsFirsts (before ++ d ∷ []) ds two
    → KeepsFirsts before (d ∷ ds) (cond b one (d ∷ two))
first_at before d ds one two true h k m = inr (h.0 refl, k)
first_at before d ds one two false h k m = inl (λ p. absurd (let e : false ≡ true = h.1 p in cc), two, refl, m)

firsts : (before ds : List Datum) → KeepsFirsts before ds (uniq_after before ds)
firsts before [] = refl
firsts before (d ∷ ds) = first_at before d ds _ _ (has_same d before) (among d before) (firsts before ds) (firsts (before ++ d ∷ []) ds)

firsts_only : (before ds out : List Datum) → KeepsFirsts before ds out → out ≡ uniq_after before ds
firsts_only before [] out k = k
firsts_only before (d ∷ ds) out (inl k) = k.2 ∙ ap (λ l. d ∷ l) (firsts_only (before ++ d ∷ []) ds k.1 k.3)
    ∙ sym (ap (λ b. cond b (uniq_after before ds) (d ∷ uniq_after (before ++ d ∷ []) ds)) (not_among d before _ (among d before) k.0))
firsts_only before (d ∷ ds) out (inr k) = firsts_only before ds out k.1
    ∙ sym (ap (λ b. cond b (uniq_after before ds) (d ∷ uniq_after (before ++ d ∷ []) ds)) ((among d before).1 k.0))

pub firsts_one : (ds : List Datum) → IsTheOne (KeepsFirsts [] ds) (uniq_after [] ds)
firsts_one ds = one (KeepsFirsts [] ds) (uniq_after [] ds) (firsts [] ds) (firsts_only [] ds)

-- ---- texts in a row
pub joined_one : (separator : Text) (ts : List Text) → IsTheOne (IsJoined separator ts) (joined separator ts)
joined_one separator [] = same_one []
joined_one separator (t ∷ []) = λ s. (λ e. e ∙ sym (append-nil t), λ e. e ∙ append-nil t)
joined_one separator (t ∷ u ∷ ts) =
    let rest = joined separator (u ∷ ts) in
    let h = joined_one separator (u ∷ ts) in
    one (IsJoined separator (t ∷ u ∷ ts)) (joined separator (t ∷ u ∷ ts)) (rest, refl, (h rest).1 refl) (λ s m. m.1 ∙ ap (λ r. t ++ (separator ++ r)) ((h m.0).0 m.2))

-- ---- rows and ends
pub followed_one : (ds es : List Datum) → IsTheOne (IsFollowed ds es) (ds ++ es)
followed_one ds es = one (IsFollowed ds es) (ds ++ es) (take-append_seam ds es, drop-append_seam ds es)
    (λ out m. sym (take-append-drop (length ds) out) ∙ ap (λ l. l ++ drop (length ds) out) m.0 ∙ ap (λ l. ds ++ l) m.1)

pub starts_one : {X : Type 0} (xs : List X) → IsTheOne (StartsWith xs) (slice_get xs 0)
starts_one {X} xs = one (StartsWith xs) (slice_get xs 0) (starts xs) (starts_only xs)
  where
    starts : (ys : List X) → StartsWith ys (slice_get ys 0)
    starts [] = refl
    starts (y ∷ ys) = (ys, refl)

    starts_only : (ys : List X) (o : Option X) → StartsWith ys o → o ≡ slice_get ys 0
    starts_only ys None m = sym (ap (λ l. slice_get l 0) m)
    starts_only ys (Some x) m = sym (ap (λ l. slice_get l 0) m.1)

back : {X : Type 0} (xs : List X) → ((before : List X) × (x : X) × (xs ≡ before ++ x ∷ [])) ⊎ (xs ≡ [])
back [] = inr refl
back (x ∷ []) = inl ([], x, refl)
back (x ∷ y ∷ ys) = ⊎_elim (λ b. inl (x ∷ b.0, b.1, ap (λ l. x ∷ l) b.2)) (λ e. absurd (let u : ⊥ = cc in u)) (back (y ∷ ys))

pub ends_one : {X : Type 0} (xs : List X) → IsTheOne (EndsWith xs) (slice_get xs (length xs - 1))
ends_one {X} xs = one (EndsWith xs) (slice_get xs (length xs - 1)) (ends xs) (ends_only xs)
  where
    ends : (ys : List X) → EndsWith ys (slice_get ys (length ys - 1))
    ends ys = ⊎_elim
        (λ b. subst (EndsWith ys) (sym (slice_get_last b.0 b.1) ∙ ap (λ l. slice_get l (length l - 1)) (sym b.2)) (b.0, b.2))
        (λ e. subst (EndsWith ys) (ap (λ l. slice_get l (length l - 1)) (sym e)) e) (back ys)

    ends_only : (ys : List X) (o : Option X) → EndsWith ys o → o ≡ slice_get ys (length ys - 1)
    ends_only ys None m = sym (ap (λ l. slice_get l (length l - 1)) m)
    ends_only ys (Some x) m = sym (slice_get_last m.0 x) ∙ ap (λ l. slice_get l (length l - 1)) (sym m.1)
