-- What lies behind the addresses in the slots of each function of a program: its own object, if it is of a class, and what its references
-- name. In any other slot stands the address of an exception object, of which no more than the largest object is used.
use Rattle.std.specs.Prelude.{ℕ, zero, suc, ◌+◌, List, [], ◌∷◌, ◌++◌, map, length, Option, Some, None, slice_get, unwrap_or}
use Rattle.cxx_ast.specs.declared.types.Ty.{Ty}
use Rattle.cxx_ast.specs.Plain.{Checked, Function}
use Rattle.cxx_ast.specs.Limits.{most_class_bytes}
use Rattle.meaning_forms.specs.Class.{class_type, object_type, class_at}
use Rattle.region_forms.specs.Layout.{Layout, laid_size}
use Rattle.region_forms.specs.Numbering.{variables_of}
use Rattle.region_forms.specs.LowerProgram.{copied_type}
use Rattle.address_bounds.specs.Rooms.{Reach}
use Rattle.address_bounds.specs.Reaches.{Needs}

-- the class of a function, if it is of one, and the types of its variables
pub record Given : Type 0 where
  pub own : Option ℕ
  pub variables : List Ty

-- the functions of regions in their order
abbrev pub own_given : Function → Given
own_given f = record { own = None; variables = variables_of f }

abbrev pub class_given : ℕ → Function → Given
class_given k f = record { own = Some k; variables = variables_of f }

abbrev pub implicit_given : ℕ → List Ty → Given
implicit_given k types = record { own = Some k; variables = types }

abbrev pub givens_of_class : Checked → ℕ → List Given
givens_of_class p k =
    map (class_given k) (class_at p k).functions ++ implicit_given k [] ∷ implicit_given k (copied_type (class_at p k)) ∷ implicit_given k [] ∷ []

abbrev pub givens_of_classes : Checked → ℕ → ℕ → List Given
givens_of_classes p k zero = []
givens_of_classes p k (suc n) = givens_of_class p k ++ givens_of_classes p (k + 1) n

abbrev pub givens_of : Checked → List Given
givens_of p = map own_given p.functions ++ givens_of_classes p 0 (length p.classes)

-- the bytes behind the addresses in the first slots
abbrev pub own_reach : Layout → Option ℕ → List ℕ
own_reach l None = []
own_reach l (Some k) = laid_size l (class_type k) ∷ []

abbrev pub reaches_in : Layout → Given → List ℕ
reaches_in l g = own_reach l g.own ++ map (λ t. laid_size l (object_type t)) g.variables

abbrev pub reach_of : Layout → Given → Reach
reach_of l g s = unwrap_or (slice_get (reaches_in l g) s) most_class_bytes

-- what is needed by each function of a program
abbrev pub no_given : Given
no_given = record { own = None; variables = [] }

abbrev pub needs_of : Checked → Layout → Needs
needs_of p l n = reach_of l (unwrap_or (slice_get (givens_of p) n) no_given)
