-- Texts after one another.
use Rattle.std.proofs.Common.{◌≡◌, ◌++◌, ap, ◌∙◌, append_assoc}
use Rattle.liquid_commands.specs.Escapes.{DiagnosticText}

-- three texts, of which the last is spelled in another way
pub three : (a b c d x y z w : DiagnosticText) → b ≡ a ++ x → c ≡ b ++ y → d ≡ c ++ z → z ≡ w → d ≡ a ++ (x ++ (y ++ w))
three a b c d x y z w p q u e =
    u ∙ ap (λ t. t ++ z) (q ∙ ap (λ t. t ++ y) p)
    ∙ append_assoc (a ++ x) y z
    ∙ append_assoc a x (y ++ z)
    ∙ ap (λ v. a ++ (x ++ (y ++ v))) e
