-- The classes of a checked program stand in order, `std::bad_exception` the first of them.
use Rattle.std.proofs.Common.{◌≡◌, refl, sym, subst}
use Rattle.cxx_ast.specs.Checked.{bad_exception, checked}
use Rattle.cxx_ast.specs.Plain.{Program}
use Rattle.meaning_forms.specs.Class.{class_at}
use Rattle.region_exceptions.proofs.Ordered.{classes_ordered}
use Rattle.region_meaning.specs.Forms.{CheckedProgramsAreOrdered}
use Rattle.cxx_ast.specs.declared.standard.Std.{Std}

first_class : (std : Std) (p : Program) → class_at (checked std p) 0 ≡ bad_exception
unfolding checked
first_class std p = refl

pub checked_programs_are_ordered : CheckedProgramsAreOrdered
checked_programs_are_ordered p h = record { ordered = classes_ordered p h; first = subst (λ q. class_at q 0 ≡ bad_exception) (sym h.resolved) (first_class h.std h.program) }
