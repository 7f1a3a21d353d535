-- The row of a base stands before those of what derives from it.
use Rattle.std.proofs.Common.{◌≡◌, ◌+◌, ℕ, Bool, true, ◌&&◌, List, [], ◌∷◌, ◌++◌, map, length, Option, Some, None, refl, subst, arith}
use Rattle.std.specs.Prelude.{nat_lt}
use Rattle.std.proofs.lemmas.Bool.Decides.{nat_tests}
use Rattle.std.proofs.lemmas.List.{length-append}
use Rattle.std.specs.Cmp.Derive.{both_true}
use Rattle.cxx_ast.specs.declared.name.Name.{Name}
use Rattle.cxx_ast.specs.Plain.{Class, Checked}
use Rattle.cxx_ast.specs.Checked.{IsChecked}
use Rattle.meaning_forms.specs.Class.{ObjectType, base_part, member_part}
use Rattle.region_forms.specs.Layout.{ClassLayout, class_layout}
use Rattle.region_forms.specs.Numbering.{base_number, class_row, class_rows, type_rows}
use Rattle.region_forms.specs.WellFormed.{rows_test}
use Rattle.class_layout.specs.Fit.{AreBefore, FitBehind, Fit}
use Rattle.class_layout.proofs.Program.{classes_fit}

row_before : (n : ℕ) (base : Option Name) (members : List ObjectType) (rest : Bool) → AreBefore n (base_part base ++ members) → rest ≡ true →
    elim (base_number base) [ None ↦ rest | Some b ↦ nat_lt b (n + 1) && rest ] ≡ true
row_before n None members rest h k = k
row_before n (Some b) members rest h k = let below = h.0 in both_true (grind (arith, nat_tests, below)) k

rows_before : (laid : List ClassLayout) (cs : List Class) → FitBehind laid cs → rows_test (length laid + 1) (map (class_row 2) cs) ≡ true
rows_before laid [] h = refl
rows_before laid (c ∷ cs) h =
    row_before (length laid) c.base (map member_part c.members) (rows_test (length laid + 1 + 1) (map (class_row 2) cs)) h.0.before
    (subst (λ n. rows_test (n + 1) (map (class_row 2) cs) ≡ true) (length-append laid (class_layout laid c ∷ []))
    (rows_before (laid ++ class_layout laid c ∷ []) cs h.1))

class_rows_before : (cs : List Class) → Fit cs → rows_test 1 (class_rows cs) ≡ true
class_rows_before [] h = refl
class_rows_before (c ∷ cs) h =
    row_before 0 c.base (map member_part c.members) (rows_test 2 (map (class_row 2) cs)) h.0.before (rows_before (class_layout [] c ∷ []) cs h.1)

pub bases_before : (p : Checked) → IsChecked p → rows_test 0 (type_rows p) ≡ true
bases_before p h = class_rows_before p.classes (classes_fit p h)
