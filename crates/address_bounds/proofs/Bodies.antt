-- The bodies of functions, and what constructors and destructors do with parts.
use Rattle.std.proofs.Common.{◌≡◌, refl, sym, subst, arith, ℕ, suc, ◌+◌, ◌<◌, Bool, true, false, List, [], ◌∷◌, length, Option, Some, None}
use Rattle.std.specs.Prelude.{map, slice_get}
use Rattle.std.proofs.lemmas.List.{length-map}
use Rattle.cxx_ast.specs.declared.declaration.FuncKind.{FuncKind}
use Rattle.cxx_ast.specs.declared.declaration.FuncKind.TheVariants.{Plain, Method, Constructor as ConstructorKind, Destructor as DestructorKind}
use Rattle.cxx_ast.specs.declared.types.Param.{Param}
use Rattle.cxx_ast.specs.Plain.{Function, Specification, listed, noexcept, Expressions, no_expressions, expression_then}
use Rattle.meaning_forms.specs.Call.{statements_in, initialiser_for}
use Rattle.meaning_forms.specs.Class.{ObjectType, int_type, class_type, parts_of}
use Rattle.meaning_forms.specs.Construct.{constructor_for}
use Rattle.meaning_forms.specs.Frame.{Variable}
use Rattle.meaning_forms.specs.World.{Reference, nowhere}
use Rattle.region_forms.specs.Form.{Region}
use Rattle.region_forms.specs.LowerExpression.{Lowering, result_slot, exception_slot, first_temporary, lower}
use Rattle.region_forms.specs.LowerStatement.{statements}
use Rattle.region_forms.specs.LowerProgram.{part_place, limited, build_parts, destroy_parts, default_built, default_part, copy_part, initial_part, last_result, body_of}
use Rattle.region_simulation.specs.Statements.{declared_to}
use Rattle.region_statements.specs.Functions.{AreDeclared, all_declared_to, IsTypedBody, gives_int}
use Rattle.region_statements.specs.Members.{CanInitialise, CanInitialiseParts}
use Rattle.address_bounds.specs.Rooms.{HasRoom}
use Rattle.address_bounds.specs.Reaches.{RegionReaches}
use Rattle.address_bounds.proofs.Sizes.{part_inside}
use Rattle.address_bounds.proofs.Where.{Where, size, Known, Within, AllReach, both_reach, from_reach, help_room}
use Rattle.address_bounds.proofs.Expressions.{reaches}
use Rattle.address_bounds.proofs.Constructed.{this_needed, default_there, copy_there, destructor_needed, construct_reaches, copy_reaches}
use Rattle.address_bounds.proofs.Statements.{first_later, within_declared, statements_reach}

-- parameters come in reach
pub within_parameters : (l : Lowering) (params : List Param) (rs : List Reference) (n : ℕ) (xs : List Variable) → Within l xs → AreDeclared l n params → Within l (all_declared_to params rs xs)
within_parameters l [] rs n xs within d = within
within_parameters l (x ∷ params) [] n xs within d = within
within_parameters l (x ∷ params) (r ∷ rs) n xs within d = within_parameters l params rs (n + 1) (declared_to x.name r xs) (within_declared l xs n x.name x.ty r within d.0) d.1

none_within : (l : Lowering) → Within l []
none_within l n is = absurd (cc is)

-- what parameters stand for does not matter
abbrev pub somewhere : List Param → List Reference
somewhere params = map (λ x. nowhere) params

somewhere_length : (params : List Param) → length (somewhere params) ≡ length params
somewhere_length params = length-map params (λ x. nowhere)

-- the first of some parts, and those behind it
pub first_part : (P : List ObjectType) (i : ℕ) (t : ObjectType) (types : List ObjectType) → ((j : ℕ) (u : ObjectType) → slice_get (t ∷ types) j ≡ Some u → slice_get P (i + j) ≡ Some u) → slice_get P i ≡ Some t
first_part P i t types are = let none : i + 0 ≡ i = omega arith in subst (λ n. slice_get P n ≡ Some t) none (are 0 t refl)

pub later_parts : (P : List ObjectType) (i : ℕ) (t : ObjectType) (types : List ObjectType) → ((j : ℕ) (u : ObjectType) → slice_get (t ∷ types) j ≡ Some u → slice_get P (i + j) ≡ Some u) → (j : ℕ) (u : ObjectType) →
    slice_get types j ≡ Some u → slice_get P (i + 1 + j) ≡ Some u
later_parts P i t types are j u e = let one : i + suc j ≡ i + 1 + j = omega arith in subst (λ n. slice_get P n ≡ Some u) one (are (suc j) u e)

module _ (w : Where) (k : Known w) where
  abbrev Everywhere : (ℕ → List Region) → Type 0
  Everywhere rest = (d : ℕ) → AllReach w (rest d)

  -- the statements of a body
  pub body_reaches : (f : Function) → IsTypedBody w.lowering w.own f → (d : ℕ) → AllReach w (statements w.lowering (statements_in f.body) 0 (length f.parameters) d)
  body_reaches f typed d =
      statements_reach w k (gives_int f.result) (statements_in f.body) (all_declared_to f.parameters (somewhere f.parameters) [])
      (within_parameters w.lowering f.parameters (somewhere f.parameters) 0 [] (none_within w.lowering) typed.parameters) 0 (length f.parameters) d
      (typed.statements (somewhere f.parameters) (somewhere_length f.parameters))

  pub limited_reaches : (specification : Option Specification) (act : ℕ → List Region) (d : ℕ) → Everywhere act → RegionReaches w.needs w.reach w.slots (limited w.lowering specification act d)
  limited_reaches None act d h = from_reach w (act (d + 1)) (h (d + 1))
  limited_reaches (Some (listed types)) act d h = from_reach w (act (d + 2)) (h (d + 2))
  limited_reaches (Some (noexcept place b)) act d h =
      let all = k.behind (exception_slot w.lowering) (omega arith) in (from_reach w (act (d + 2)) (h (d + 2)), (omega (arith, all), (tt, (((tt, tt), tt), tt)), tt))

  pub last_reaches : (b : Bool) → AllReach w (last_result w.lowering b)
  last_reaches false = tt
  last_reaches true = ((help_room w k (result_slot w.lowering) 4 (omega arith) (omega arith), tt), tt)

  -- ---- the parts of a class

  module _ (c : ℕ) (own : w.own ≡ Some c) where
    -- a part of the own object
    part_room : (i : ℕ) (t : ObjectType) → slice_get (parts_of w.lowering.program c) i ≡ Some t → HasRoom w.reach w.slots (part_place w.lowering.layout w.lowering.program c 0 i) (size w t)
    part_room i t e =
        let part = part_inside w.lowering.layout w.lowering.program k.apart c i t e in
        let inside = part.0 in let all = k.this c own in
        (part.1, omega (arith, inside, all))

    pub build_reaches : (build : ℕ → ObjectType → List Region) (left : ℕ → List Region) → ((i j : ℕ) → slice_get (parts_of w.lowering.program c) i ≡ Some (class_type j) → j < length w.lowering.program.classes) →
        ((i : ℕ) (t : ObjectType) → slice_get (parts_of w.lowering.program c) i ≡ Some t → AllReach w (build i t)) → Everywhere left → (i : ℕ) (types : List ObjectType) →
        ((j : ℕ) (t : ObjectType) → slice_get types j ≡ Some t → slice_get (parts_of w.lowering.program c) (i + j) ≡ Some t) → (d : ℕ) → AllReach w (build_parts w.lowering c build i types left d)
    build_reaches build left there each h i [] are d = h d
    build_reaches build left there each h i (int_type ∷ types) are d =
        both_reach w (build i int_type) (build_parts w.lowering c build (i + 1) types left d) (each i int_type (first_part (parts_of w.lowering.program c) i int_type types are))
        (build_reaches build left there each h (i + 1) types (later_parts (parts_of w.lowering.program c) i int_type types are) d)
    build_reaches build left there each h i (class_type j ∷ types) are d =
        let first = first_part (parts_of w.lowering.program c) i (class_type j) types are in
        both_reach w (build i (class_type j)) _ (each i (class_type j) first) (
          (
            from_reach w (build_parts w.lowering c build (i + 1) types left (d + 2)) (build_reaches build left there each h (i + 1) types (later_parts (parts_of w.lowering.program c) i (class_type j) types are) (d + 2)),
            destructor_needed w k j (part_place w.lowering.layout w.lowering.program c 0 i) (there i j first) (part_room i (class_type j) first),
          ),
          tt,
        )

    pub destroy_reaches : (body : ℕ → List Region) → ((i j : ℕ) → slice_get (parts_of w.lowering.program c) i ≡ Some (class_type j) → j < length w.lowering.program.classes) → Everywhere body → (i : ℕ) (types : List ObjectType) →
        ((j : ℕ) (t : ObjectType) → slice_get types j ≡ Some t → slice_get (parts_of w.lowering.program c) (i + j) ≡ Some t) → (d : ℕ) → AllReach w (destroy_parts w.lowering c i types body d)
    destroy_reaches body there h i [] are d = h d
    destroy_reaches body there h i (int_type ∷ types) are d = destroy_reaches body there h (i + 1) types (later_parts (parts_of w.lowering.program c) i int_type types are) d
    destroy_reaches body there h i (class_type j ∷ types) are d =
        let first = first_part (parts_of w.lowering.program c) i (class_type j) types are in (
          (
            from_reach w (destroy_parts w.lowering c (i + 1) types body (d + 2)) (destroy_reaches body there h (i + 1) types (later_parts (parts_of w.lowering.program c) i (class_type j) types are) (d + 2)),
            destructor_needed w k j (part_place w.lowering.layout w.lowering.program c 0 i) (there i j first) (part_room i (class_type j) first),
          ),
          tt,
        )

    default_reaches : (j i : ℕ) → j < length w.lowering.program.classes → slice_get (parts_of w.lowering.program c) i ≡ Some (class_type j) → AllReach w (default_built w.lowering j (part_place w.lowering.layout w.lowering.program c 0 i))
    default_reaches j i below e =
        ((subst (λ n. HasRoom w.reach w.slots (part_place w.lowering.layout w.lowering.program c 0 i) n) (sym (this_needed w k j (constructor_for w.lowering.program j 0) (default_there w k j below))) (part_room i (class_type j) e), tt), tt)

    -- parts by default, by copying and by initialisers
    pub default_part_reaches : ((i j : ℕ) → slice_get (parts_of w.lowering.program c) i ≡ Some (class_type j) → j < length w.lowering.program.classes) → (i : ℕ) (t : ObjectType) → slice_get (parts_of w.lowering.program c) i ≡ Some t →
        AllReach w (default_part w.lowering c i t)
    default_part_reaches there i int_type e = ((part_room i int_type e, tt), tt)
    default_part_reaches there i (class_type j) e = default_reaches j i (there i j e) e

    pub copy_part_reaches : w.reach 1 ≡ size w (class_type c) → ((i j : ℕ) → slice_get (parts_of w.lowering.program c) i ≡ Some (class_type j) → j < length w.lowering.program.classes) → (i : ℕ) (t : ObjectType) →
        slice_get (parts_of w.lowering.program c) i ≡ Some t → AllReach w (copy_part w.lowering c i t)
    copy_part_reaches source there i t e = by t e (let part = part_inside w.lowering.layout w.lowering.program k.apart c i t e in let inside = part.0 in (part.1, omega (arith, inside, source)))
      where
        by : (t : ObjectType) → slice_get (parts_of w.lowering.program c) i ≡ Some t → HasRoom w.reach w.slots (part_place w.lowering.layout w.lowering.program c 1 i) (size w t) → AllReach w (copy_part w.lowering c i t)
        by int_type e from = ((part_room i int_type e, from), tt)
        by (class_type j) e from =
            (copy_reaches w k j (part_place w.lowering.layout w.lowering.program c 0 i) (part_place w.lowering.layout w.lowering.program c 1 i) (copy_there w k j (there i j e)) (part_room i (class_type j) e) from, tt)

    pub initial_part_reaches : (xs : List Variable) → Within w.lowering xs → ((i j : ℕ) → slice_get (parts_of w.lowering.program c) i ≡ Some (class_type j) → j < length w.lowering.program.classes) → (i : ℕ) (es : Option Expressions)
        (t : ObjectType) → slice_get (parts_of w.lowering.program c) i ≡ Some t → CanInitialise w.lowering w.own xs es t → AllReach w (initial_part w.lowering c i es t)
    initial_part_reaches xs within there i None int_type e can = tt
    initial_part_reaches xs within there i None (class_type j) e can = default_reaches j i (there i j e) e
    initial_part_reaches xs within there i (Some no_expressions) int_type e can = ((part_room i int_type e, tt), tt)
    initial_part_reaches xs within there i (Some (expression_then x es)) int_type e can =
        let y = reaches w k xs within x (first_temporary w.lowering) (first_later w.lowering) can in
        both_reach w (lower w.lowering x (first_temporary w.lowering)).before _ y.before ((part_room i int_type e, y.value), tt)
    initial_part_reaches xs within there i (Some es) (class_type j) e can =
        construct_reaches w k xs within j es (part_place w.lowering.layout w.lowering.program c 0 i) (first_temporary w.lowering) (first_later w.lowering) can (part_room i (class_type j) e)

    -- ---- member functions

    -- all parts are those from the first on
    from_first : (j : ℕ) (t : ObjectType) → slice_get (parts_of w.lowering.program c) j ≡ Some t → slice_get (parts_of w.lowering.program c) (0 + j) ≡ Some t
    from_first j t e = let none : j ≡ 0 + j = omega arith in subst (λ n. slice_get (parts_of w.lowering.program c) n ≡ Some t) none e

    pub member_reaches : (f : Function) (kind : FuncKind) → ((i j : ℕ) → slice_get (parts_of w.lowering.program c) i ≡ Some (class_type j) → j < length w.lowering.program.classes) → IsTypedBody w.lowering w.own f →
        (kind ≡ ConstructorKind → CanInitialiseParts w.lowering c f) → (d : ℕ) → AllReach w (body_of w.lowering kind c f d)
    member_reaches f Plain there typed initialised d = body_reaches f typed d
    member_reaches f Method there typed initialised d = body_reaches f typed d
    member_reaches f ConstructorKind there typed initialised d =
        build_reaches (λ i. initial_part w.lowering c i (initialiser_for w.lowering.program f.initialisers i)) (λ e. statements w.lowering (statements_in f.body) 0 (length f.parameters) e) there
        (λ i t e. initial_part_reaches (all_declared_to f.parameters (somewhere f.parameters) []) (within_parameters w.lowering f.parameters (somewhere f.parameters) 0 [] (none_within w.lowering) typed.parameters) there i
        (initialiser_for w.lowering.program f.initialisers i) t e
        (subst (λ o. CanInitialise w.lowering o (all_declared_to f.parameters (somewhere f.parameters) []) (initialiser_for w.lowering.program f.initialisers i) t) (sym own)
        (initialised refl (somewhere f.parameters) (somewhere_length f.parameters) i t e)))
        (body_reaches f typed) 0 (parts_of w.lowering.program c) from_first d
    member_reaches f DestructorKind there typed initialised d =
        destroy_reaches (λ e. statements w.lowering (statements_in f.body) 0 (length f.parameters) e) there (body_reaches f typed) 0 (parts_of w.lowering.program c) from_first d
