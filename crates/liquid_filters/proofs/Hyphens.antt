-- Runs of characters as hyphens, and the hyphens at both ends.
use Rattle.std.proofs.Common.{◌≡◌, ℕ, suc, ◌==◌, ◌&&◌, Bool, true, false, cond, not, List, [], ◌∷◌, ◌++◌, length, map, ap, refl, sym, subst, ◌∙◌, append-nil, arith}
use Rattle.std.proofs.lemmas.Bool.Decides.{nat_tests}
use Rattle.std.specs.List.{concat}
use Rattle.std.proofs.Math.Bool.{and-false}
use Rattle.liquid_model.specs.Answer.{IsTheOne}
use Rattle.liquid_filters.specs.Runs.{TextPart, kept, other, characters_of, shown_of, AreOther, EndsRun, AreParts, Hyphens, AreHyphens, StartsOther, EndsOther, CutsHyphens}
use Rattle.liquid_filters.specs.Slugs.{hyphened, without_outer, slug_character, without_first, without_last}

-- ---- runs
abbrev flat : List TextPart → List ℕ
flat ps = concat (map characters_of ps)

abbrev seen : List TextPart → List ℕ
seen ps = concat (map shown_of ps)

module _ (keeps : ℕ → Bool) where
  past_others : (cs rest : List ℕ) → AreOther keeps cs → hyphened keeps true (cs ++ rest) ≡ hyphened keeps true rest
  past_others [] rest h = refl
  past_others (c ∷ cs) rest h =
      ap (λ b. slug_character b true c ++ hyphened keeps (not b) (cs ++ rest)) h.0 ∙ past_others cs rest h.1

  after_run : (ps : List TextPart) → EndsRun ps → AreParts keeps ps → hyphened keeps true (flat ps) ≡ hyphened keeps false (flat ps)
  after_run [] e h = refl
  after_run (kept c ∷ ps) e h =
      ap (λ b. slug_character b true c ++ hyphened keeps (not b) (flat ps)) h.0 ∙ sym (ap (λ b. slug_character b false c ++ hyphened keeps (not b) (flat ps)) h.0)
  after_run (other c cs ∷ ps) e h = absurd e

  shown_parts : (ps : List TextPart) → AreParts keeps ps → hyphened keeps false (flat ps) ≡ seen ps
  shown_parts [] h = refl
  shown_parts (kept c ∷ ps) h = ap (λ b. slug_character b false c ++ hyphened keeps (not b) (flat ps)) h.0 ∙ ap (λ l. c ∷ l) (shown_parts ps h.1)
  shown_parts (other c cs ∷ ps) h =
      ap (λ b. slug_character b false c ++ hyphened keeps (not b) (cs ++ flat ps)) h.0.0
      ∙ ap (λ l. 45 ∷ l) (past_others cs (flat ps) h.0.1 ∙ after_run ps h.1 h.2 ∙ shown_parts ps h.2)

  add : Bool → ℕ → List TextPart → List TextPart
  add true c ps = kept c ∷ ps
  add false c (other d ds ∷ ps) = other c (d ∷ ds) ∷ ps
  add false c ps = other c [] ∷ ps

  parts : List ℕ → List TextPart
  parts [] = []
  parts (c ∷ cs) = add (keeps c) c (parts cs)

  added : (b : Bool) (c : ℕ) (ps : List TextPart) → keeps c ≡ b → AreParts keeps ps → AreParts keeps (add b c ps) × (flat (add b c ps) ≡ c ∷ flat ps)
  unfolding add
  added true c ps e h = ((e, h), refl)
  added false c [] e h = (((e, tt), tt, tt), refl)
  added false c (kept d ∷ ps) e h = (((e, tt), tt, h), refl)
  added false c (other d ds ∷ ps) e h = (((e, h.0), h.1, h.2), refl)

  are_parts : (cs : List ℕ) → AreParts keeps (parts cs) × (flat (parts cs) ≡ cs)
  unfolding parts
  are_parts [] = (tt, refl)
  are_parts (c ∷ cs) =
      let rest = are_parts cs in
      let more = added (keeps c) c (parts cs) refl rest.0 in
      (more.0, more.1 ∙ ap (λ l. c ∷ l) rest.1)

  hyphens_stand : (cs : List ℕ) → Hyphens keeps cs (hyphened keeps false cs)
  hyphens_stand cs =
      let h = are_parts cs in
      (parts cs, h.0, sym h.1, ap (hyphened keeps false) (sym h.1) ∙ shown_parts (parts cs) h.0)

  hyphens_unique : (cs ds : List ℕ) → Hyphens keeps cs ds → ds ≡ hyphened keeps false cs
  hyphens_unique cs ds h = h.3 ∙ sym (shown_parts h.0 h.1) ∙ ap (hyphened keeps false) (sym h.2)

  pub hyphens_one : (cs : List ℕ) → IsTheOne (Hyphens keeps cs) (hyphened keeps false cs)
  hyphens_one cs = λ ds. (hyphens_unique cs ds, λ e. subst (Hyphens keeps cs) (sym e) (hyphens_stand cs))

-- ---- hyphens at the start
skip_hyphens : (hs cs : List ℕ) → AreHyphens hs → without_first (hs ++ cs) ≡ without_first cs
skip_hyphens [] cs a = refl
skip_hyphens (h ∷ hs) cs a = ap (λ t. cond t (without_first (hs ++ cs)) (h ∷ (hs ++ cs))) a.0 ∙ skip_hyphens hs cs a.1

pub first_stays : (cs : List ℕ) → StartsOther cs → without_first cs ≡ cs
first_stays [] p = refl
first_stays (c ∷ cs) p = ap (λ t. cond t (without_first cs) (c ∷ cs)) p

abbrev Skipped : List ℕ → List ℕ → Type 0
Skipped cs left = (before : List ℕ) × (cs ≡ before ++ left) × AreHyphens before × StartsOther left

skip_either : (c : ℕ) (cs : List ℕ) (t : Bool) → (c == 45) ≡ t → Skipped cs (without_first cs) → Skipped (c ∷ cs) (cond t (without_first cs) (c ∷ cs))
skip_either c cs true e h = (c ∷ h.0, ap (λ t. c ∷ t) h.1, (e, h.2), h.3)
skip_either c cs false e h = ([], refl, tt, e)

pub skip_stands : (cs : List ℕ) → Skipped cs (without_first cs)
skip_stands [] = ([], refl, tt, tt)
skip_stands (c ∷ cs) = skip_either c cs (c == 45) refl (skip_stands cs)

-- ---- hyphens at the end
drop_all : (hs : List ℕ) → AreHyphens hs → without_last hs ≡ []
drop_all [] a = refl
drop_all (h ∷ hs) a =
    ap (λ t. cond ((h == 45) && length t == 0) [] (h ∷ t)) (drop_all hs a.1) ∙ ap (λ t. cond (t && true) [] (h ∷ [])) a.0

drop_hyphens : (cs hs : List ℕ) → AreHyphens hs → without_last (cs ++ hs) ≡ without_last cs
drop_hyphens [] hs a = drop_all hs a
drop_hyphens (c ∷ cs) hs a = ap (λ t. cond ((c == 45) && length t == 0) [] (c ∷ t)) (drop_hyphens cs hs a)

not_zero : (n : ℕ) → (suc n == 0) ≡ false
not_zero n = grind (arith, nat_tests)

pub last_stays : (cs : List ℕ) → EndsOther cs → without_last cs ≡ cs
last_stays [] p = refl
last_stays (c ∷ []) p = ap (λ t. cond (t && true) [] (c ∷ [])) p
last_stays (c ∷ (d ∷ cs)) p =
    ap (λ t. cond ((c == 45) && length t == 0) [] (c ∷ t)) (last_stays (d ∷ cs) p)
    ∙ ap (λ t. cond ((c == 45) && t) [] (c ∷ (d ∷ cs))) (not_zero (length cs)) ∙ ap (λ t. cond t [] (c ∷ (d ∷ cs))) (and-false (c == 45))

abbrev Dropped : List ℕ → List ℕ → Type 0
Dropped cs left = (after : List ℕ) × (cs ≡ left ++ after) × AreHyphens after × EndsOther left

drop_either : (c : ℕ) (cs left : List ℕ) (t : Bool) → (c == 45) ≡ t → Dropped cs left → Dropped (c ∷ cs) (cond (t && length left == 0) [] (c ∷ left))
drop_either c cs [] true e h = (c ∷ h.0, ap (λ t. c ∷ t) h.1, (e, h.2), tt)
drop_either c cs [] false e h = (h.0, ap (λ t. c ∷ t) h.1, h.2, e)
drop_either c cs (d ∷ left) true e h =
    subst (λ t. Dropped (c ∷ cs) (cond t [] (c ∷ (d ∷ left)))) (sym (not_zero (length left))) (h.0, ap (λ t. c ∷ t) h.1, h.2, h.3)
drop_either c cs (d ∷ left) false e h = (h.0, ap (λ t. c ∷ t) h.1, h.2, h.3)

pub drop_stands : (cs : List ℕ) → Dropped cs (without_last cs)
drop_stands [] = ([], refl, tt, tt)
drop_stands (c ∷ cs) = drop_either c cs (without_last cs) (c == 45) refl (drop_stands cs)

-- a hyphen at the end goes
pub without_end : (cs : List ℕ) → without_last (cs ++ 45 ∷ []) ≡ without_last cs
without_end cs = drop_hyphens cs (45 ∷ []) (refl, tt)

pub ends_before : (cs : List ℕ) (c : ℕ) → (c == 45) ≡ false → EndsOther (cs ++ c ∷ [])
ends_before [] c e = e
ends_before (d ∷ []) c e = e
ends_before (d ∷ (f ∷ cs)) c e = ends_before (f ∷ cs) c e

-- ---- hyphens at both ends
skip_all : (hs : List ℕ) → AreHyphens hs → without_first hs ≡ []
skip_all hs a = ap without_first (sym (append-nil hs)) ∙ skip_hyphens hs [] a

both_stay : (cut after : List ℕ) → AreHyphens after → StartsOther cut → EndsOther cut → without_last (without_first (cut ++ after)) ≡ cut
both_stay [] after a p q = ap without_last (skip_all after a)
both_stay (c ∷ cs) after a p q = ap without_last (first_stays (c ∷ (cs ++ after)) p) ∙ drop_hyphens (c ∷ cs) after a ∙ last_stays (c ∷ cs) q

starts_front : (cut after : List ℕ) → StartsOther (cut ++ after) → StartsOther cut
starts_front [] after p = tt
starts_front (c ∷ cs) after p = p

cuts_unique : (ds cut : List ℕ) → CutsHyphens ds cut → cut ≡ without_outer ds
cuts_unique ds cut h =
    sym (both_stay cut h.1 h.4 h.5 h.6) ∙ ap without_last (sym (skip_hyphens h.0 (cut ++ h.1) h.3)) ∙ ap without_outer (sym h.2)

pub cuts_stand : (ds : List ℕ) → CutsHyphens ds (without_outer ds)
cuts_stand ds =
    let first = skip_stands ds in
    let last = drop_stands (without_first ds) in (
      first.0,
      last.0,
      first.1 ∙ ap (λ cs. first.0 ++ cs) last.1,
      first.2,
      last.2,
      starts_front (without_outer ds) last.0 (subst StartsOther last.1 first.3),
      last.3,
    )

pub cuts_one : (ds : List ℕ) → IsTheOne (CutsHyphens ds) (without_outer ds)
cuts_one ds = λ cut. (cuts_unique ds cut, λ e. subst (CutsHyphens ds) (sym e) (cuts_stand ds))
