-- The slots that the body of a function mentions.
use Rattle.std.proofs.Common.{◌≡◌, ◌+◌, ◌≤◌, ℕ, Bool, true, false, ◌==◌, List, [], ◌∷◌, map, length, Option, Some, None, if◌then◌else◌, arith}
use Rattle.std.proofs.lemmas.List.{length-append, length-map}
use Rattle.std.specs.Prelude.{⊤}
use Rattle.cxx_ast.specs.declared.declaration.FuncKind.{FuncKind}
use Rattle.cxx_ast.specs.declared.declaration.FuncKind.TheVariants.{Constructor, Destructor}
use Rattle.cxx_ast.specs.Plain.{Checked, Specification, listed, noexcept, Function, Initialiser, Expressions, no_expressions, expression_then, Statements}
use Rattle.cxx_ast.specs.Sizes.{most_levels, arguments_of, initialisers_most, body_most}
use Rattle.meaning_forms.specs.Class.{ObjectType, int_type, class_type, class_at, parts_of}
use Rattle.meaning_forms.specs.Call.{initialiser_for, statements_in, place_named}
use Rattle.region_forms.specs.Form.{Place, Region, store, op}
use Rattle.region_forms.specs.Layout.{Layout}
use Rattle.region_forms.specs.Mentioned.{slots_of_root, slots_of}
use Rattle.region_forms.specs.Numbering.{variables_of, declared_in_body}
use Rattle.region_forms.specs.LowerExpression.{Lowering, first_temporary, lower}
use Rattle.region_forms.specs.LowerStatement.{statements, nothing_more}
use Rattle.region_forms.specs.LowerProgram.{part_place, limited, build_parts, destroy_parts, default_part, copy_part, initial_value, initial_part, lowering, last_result, body_of, declared_function, copied_type, some_constructor, implicit_default_function, implicit_copy_function, implicit_destructor_function}
use Rattle.landing_pads.specs.Numbered.{ExpressionsFit, BodyFits, InitialisersFit, VariablesAreNumbered}
use Rattle.landing_pads.specs.Frames.{between_calls, most_of}
use Rattle.landing_pads.proofs.Mentions.{Below, behind, with_last, count, lowered, constructed_below}
use Rattle.landing_pads.proofs.StatementSlots.{Measured, Rest, statements_below, nothing_below}

module _ (l : Lowering) (m : ℕ) (room : first_temporary l ≤ m) where
  -- how each part is built mentions no slot from m on
  abbrev Built : (ℕ → ObjectType → List Region) → Type 0
  Built build = (i : ℕ) (t : ObjectType) → Below m (build i t)

  pub built_below : (k : ℕ) (build : ℕ → ObjectType → List Region) (i : ℕ) (types : List ObjectType) (left : ℕ → List Region) (d : ℕ) →
      Built build → Rest l m room left → Below m (build_parts l k build i types left d)
  built_below k build i [] left d b h = h d
  built_below k build i (int_type ∷ types) left d b h = behind m (build i int_type) _ (b i int_type) (built_below k build (i + 1) types left d b h)
  built_below k build i (class_type c ∷ types) left d b h =
      let row = built_below k build (i + 1) types left (d + 2) b h in
      behind m (build i (class_type c)) _ (b i (class_type c)) (omega (arith, room, row))

  pub destroyed_below : (k i : ℕ) (types : List ObjectType) (body : ℕ → List Region) (d : ℕ) → Rest l m room body → Below m (destroy_parts l k i types body d)
  destroyed_below k i [] body d h = h d
  destroyed_below k i (int_type ∷ types) body d h = destroyed_below k (i + 1) types body d h
  destroyed_below k i (class_type c ∷ types) body d h = let row = destroyed_below k (i + 1) types body (d + 2) h in omega (arith, room, row)

  pub default_below : (k : ℕ) → Built (default_part l k)
  default_below k i int_type = omega (arith, room)
  default_below k i (class_type c) = omega (arith, room)

  pub copy_below : (k : ℕ) → Built (copy_part l k)
  copy_below k i int_type = omega (arith, room)
  copy_below k i (class_type c) = omega (arith, room)

  value_below : (p : Place) (es : Expressions) → slots_of_root p.root ≤ m → ExpressionsFit (count l) es → first_temporary l + most_levels es + arguments_of es ≤ m →
      Below m (initial_value l p es)
  value_below p no_expressions h f k = omega (arith, h)
  value_below p (expression_then e es) h f k =
      let x = lowered l e (first_temporary l) m f.0 (omega arith) (omega (arith, k)) in
      with_last m (lower l e (first_temporary l)).before (op (store p (lower l e (first_temporary l)).value)) x.before (omega (arith, h, x.value))

  -- the arguments of an initialiser, if there is one
  abbrev GivenFits : Option Expressions → Type 0
  GivenFits None = ⊤
  GivenFits (Some es) = ExpressionsFit (count l) es × (first_temporary l + most_levels es + arguments_of es ≤ m)

  initialiser_fits : (p : Checked) (xs : List Initialiser) (i : ℕ) → InitialisersFit (count l) xs → Measured l m room (initialisers_most xs) → GivenFits (initialiser_for p xs i)
  initialiser_fits p [] i h k = tt
  initialiser_fits p (x ∷ xs) i h k = go (place_named p x.name.bound == i) (initialiser_fits p xs i h.1 (omega (arith, k)))
    where
      go : (b : Bool) → GivenFits (initialiser_for p xs i) → GivenFits (if b then Some x.arguments else initialiser_for p xs i)
      go true rest = (h.0, omega (arith, k))
      go false rest = rest

  initial_below : (k i : ℕ) (es : Option Expressions) (t : ObjectType) → GivenFits es → Below m (initial_part l k i es t)
  initial_below k i None int_type h = omega arith
  initial_below k i None (class_type c) h = omega (arith, room)
  initial_below k i (Some es) int_type h = value_below (part_place l.layout l.program k 0 i) es (omega (arith, room)) h.0 h.1
  initial_below k i (Some es) (class_type c) h = constructed_below l c es (part_place l.layout l.program k 0 i) m h.0 (omega (arith, room)) h.1

  -- the body of a declared function
  module _ (f : Function) (named : InitialisersFit (count l) f.initialisers) (within : BodyFits (count l) f.body)
      (counted : length f.parameters + length (declared_in_body f.body) ≤ count l) (enough : Measured l m room (most_of f)) where
    body_statements : Rest l m room (statements l (statements_in f.body) 0 (length f.parameters))
    body_statements d = go f.body within counted (omega (arith, enough))
      where
        go : (b : Option Statements) → BodyFits (count l) b → length f.parameters + length (declared_in_body b) ≤ count l → Measured l m room (body_most b) →
            Below m (statements l (statements_in b) 0 (length f.parameters) d)
        go None h c k = omega arith
        go (Some ss) h c k = statements_below l m room ss 0 (length f.parameters) d h c k

    body_below : (kind : FuncKind) (k : ℕ) → Rest l m room (body_of l kind k f)
    body_below Constructor k d =
        built_below k (λ i. initial_part l k i (initialiser_for l.program f.initialisers i)) 0 (parts_of l.program k)
        (statements l (statements_in f.body) 0 (length f.parameters)) d
        (λ i t. initial_below k i (initialiser_for l.program f.initialisers i) t (initialiser_fits l.program f.initialisers i named (omega (arith, enough)))) body_statements
    body_below Destructor k d =
        destroyed_below k 0 (parts_of l.program k) (statements l (statements_in f.body) 0 (length f.parameters)) d body_statements
    body_below kind k d = body_statements d

    limited_below : (s : Option Specification) (act : ℕ → List Region) (d : ℕ) → Rest l m room act → slots_of (limited l s act d) ≤ m
    limited_below None act d h = h (d + 1)
    limited_below (Some (listed types)) act d h = h (d + 2)
    limited_below (Some (noexcept place b)) act d h = let inside = h (d + 2) in omega (arith, inside, room)

    last_below : (is_main : Bool) → Below m (last_result l is_main)
    last_below false = omega arith
    last_below true = omega (arith, room)

    pub whole_below : (is_main : Bool) (k : ℕ) → Below m (limited l f.specification (body_of l f.kind k f) 1 ∷ last_result l is_main)
    whole_below is_main k =
        let whole = limited_below f.specification (body_of l f.kind k f) 1 (body_below f.kind k) in
        behind m (limited l f.specification (body_of l f.kind k f) 1 ∷ []) (last_result l is_main) (omega (arith, whole)) (last_below is_main)

variables_counted : (f : Function) → length (variables_of f) ≡ length f.parameters + length (declared_in_body f.body)
variables_counted f =
    let both = length-append (map (λ x. x.ty) f.parameters) (declared_in_body f.body) in
    let first = length-map f.parameters (λ x. x.ty) in
    omega (arith, both, first)

-- what a declared function keeps between calls
pub declared_few : (p : Checked) (layout : Layout) (is_member is_main : Bool) (k : ℕ) (f : Function) → VariablesAreNumbered f →
    between_calls is_member (variables_of f) (declared_function p layout is_member is_main k f).body ≤ (most_of f).levels + (most_of f).arguments
declared_few p layout is_member is_main k f h =
    let l = lowering p layout is_member (variables_of f) in
    let m = first_temporary l + (most_of f).levels + (most_of f).arguments in
    let below = whole_below l m (omega arith) f h.initialisers h.body (omega (arith, variables_counted f)) (omega arith) is_main k in
    omega (arith, below)

-- the implicit functions of a class keep nothing
unless_declared : (m : ℕ) (is_declared : Bool) (rs : List Region) → Below m rs → Below m (if is_declared then [] else rs)
unless_declared m true rs h = omega arith
unless_declared m false rs h = h

pub default_few : (p : Checked) (layout : Layout) (k : ℕ) → between_calls true [] (implicit_default_function p layout k).body ≤ 0
default_few p layout k =
    let l = lowering p layout true [] in
    let m = first_temporary l in
    let below = unless_declared m (some_constructor (class_at p k).functions) (build_parts l k (default_part l k) 0 (parts_of p k) nothing_more 1)
    (built_below l m (omega arith) k (default_part l k) 0 (parts_of p k) nothing_more 1 (default_below l m (omega arith) k) (nothing_below l m (omega arith))) in
    omega (arith, below)

pub copy_few : (p : Checked) (layout : Layout) (k : ℕ) → between_calls true (copied_type (class_at p k)) (implicit_copy_function p layout k).body ≤ 0
copy_few p layout k =
    let l = lowering p layout true (copied_type (class_at p k)) in
    let m = first_temporary l in
    let below = built_below l m (omega arith) k (copy_part l k) 0 (parts_of p k) nothing_more 1 (copy_below l m (omega arith) k) (nothing_below l m (omega arith)) in
    omega (arith, below)

pub destructor_few : (p : Checked) (layout : Layout) (k : ℕ) → between_calls true [] (implicit_destructor_function p layout k).body ≤ 0
destructor_few p layout k =
    let l = lowering p layout true [] in
    let m = first_temporary l in
    let below = destroyed_below l m (omega arith) k 0 (parts_of p k) nothing_more 1 (nothing_below l m (omega arith)) in
    omega (arith, below)
