use Rattle.std.proofs.Common.{◌≡◌, ◌≢◌, suc, Bool, true, false, ◌&&◌, List, [], ◌∷◌, length, refl, ap, ◌∙◌, sym}
use Rattle.cxx_ast.specs.Environment.{Passing}
use Rattle.cxx_ast.specs.Broken.{same_passing, same_parameters}
use Rattle.cxx_rules.proofs.agree.same_parameters.Goals as goal

and_false : (b : Bool) → (b && false) ≡ false
and_false true = refl
and_false false = refl

apart : (ps qs : List Passing) → length ps ≢ length qs → same_parameters ps qs ≡ false
apart [] [] h = absurd (h refl)
apart [] (q ∷ qs) h = refl
apart (p ∷ ps) [] h = refl
apart (p ∷ ps) (q ∷ qs) h = ap (λ b. same_passing p q && b) (apart ps qs (λ e. h (ap suc e))) ∙ and_false (same_passing p q)

pub returns-then-ps-qs : goal.returns-then-ps-qs
returns-then-ps-qs c = sym (apart c.args.ps.now c.args.qs.now c.if-ps-qs.true)
