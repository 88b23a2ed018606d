-- Where paths may be cut, and names on them.
use Rattle.std.proofs.Common.{◌≡◌, ℕ, ◌+◌, ◌-◌, ◌<◌, ◌≤◌, ◌&&◌, ◌||◌, List, length, take, get_or, Bool, true, false, bytes_eq, nat_le, Option, Some, None, Bor, ap, ◌∙◌, sym, refl, subst, arith}
use Rattle.std.specs.List.{list_any}
use Rattle.std.specs.Str.{IsUtf8, IsCharBoundary}
use Rattle.std.proofs.lemmas.Bool.Decides.{nat_tests}
use Rattle.std.proofs.lemmas.Bool.{and_parts}
use Rattle.std.proofs.lemmas.Slice.Eq.{bytes_eq-Decides}
use Rattle.std.proofs.lemmas.Str.{IsCharBoundary-from_take}
use Rattle.liquid_model.specs.Texts.{Text}
use Rattle.liquid_site_build.specs.SiteFiles.{is_below}
use Rattle.liquid_yaml.specs.Bytes.{first_part, first_part_view, left_view, parts_left}
use Rattle.liquid_yaml.proofs.Cuts.{flow_cut}
use Rattle.liquid_yaml.proofs.Turns.{parts_cut}

pub dot_cut : (bs : Text) (n : ℕ) → 0 < n → n ≤ length bs → get_or bs (n - 1) 0 < 128 → IsCharBoundary bs (n - 1)
dot_cut bs n positive within dot = flow_cut bs (n - 1) (omega arith) (λ h. dot)

-- a text may be cut after another that stands at its front
pub below_cut : (folder path : Text) → IsUtf8 folder → IsUtf8 path → is_below folder path ≡ true → IsCharBoundary path (length folder)
below_cut folder path f u h =
    let p = and_parts (nat_le (length folder) (length path)) (bytes_eq (take (length folder) path) folder) h in
    let l : length folder ≤ length path = grind (arith, nat_tests) in
    IsCharBoundary-from_take path (length folder) u l (subst IsUtf8 (sym ((bytes_eq-Decides (take (length folder) path) folder).0 p.1)) f)

abbrev Cut : Type 0
Cut = Bor Text × Option (Bor Text)

module _ (p : Text → Bool) (left : Option (Bor Text)) (text : Bor Text) (cut : Cut) (whole : Bool) (is : left ≡ Some text) (first : first_part_view cut ≡ first_part 47 text.now) where
  pub any_turn : p cut.0.now ≡ false → list_any p (parts_left 47 (left_view left)) ≡ whole → list_any p (parts_left 47 (left_view cut.1)) ≡ whole
  any_turn e inv = ap (λ b. b || list_any p (parts_left 47 (left_view cut.1))) (sym e) ∙ sym (ap (list_any p) (parts_cut 47 left text cut is first)) ∙ inv

  pub any_found : p cut.0.now ≡ true → list_any p (parts_left 47 (left_view left)) ≡ whole → true ≡ whole
  any_found e inv = ap (λ b. b || list_any p (parts_left 47 (left_view cut.1))) (sym e) ∙ sym (ap (list_any p) (parts_cut 47 left text cut is first)) ∙ inv

pub any_none : (p : Text → Bool) (left : Option (Bor Text)) (whole : Bool) → left ≡ None → list_any p (parts_left 47 (left_view left)) ≡ whole → false ≡ whole
any_none p left whole e inv = ap (λ o. list_any p (parts_left 47 (left_view o))) (sym e) ∙ inv
