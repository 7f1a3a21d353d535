-- The names of the classes' functions, gathered class by class.
use Rattle.std.proofs.Common.{◌≡◌, ◌+◌, ℕ, suc, List, ◌++◌, ap, sym, ◌∙◌, append_assoc}
use Rattle.std.specs.Prelude.{Option}
use Rattle.cxx_ast.specs.Plain.{Checked}
use Rattle.symbol_names.specs.Names.{class_names, classes_names}

-- a class more
pub class_done : (p : Checked) (k n m : ℕ) (names after goal : List (Option (List ℕ))) → n ≡ suc m → after ≡ names ++ class_names p k → names ++ classes_names p k n ≡ goal →
    after ++ classes_names p (k + 1) m ≡ goal
class_done p k n m names after goal left is whole =
    ap (λ x. x ++ classes_names p (k + 1) m) is ∙ append_assoc names (class_names p k) (classes_names p (k + 1) m) ∙ sym (ap (λ i. names ++ classes_names p k i) left) ∙ whole
