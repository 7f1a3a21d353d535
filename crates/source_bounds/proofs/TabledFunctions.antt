-- What functions become has few call sites, and weighs little in chains.
use Rattle.std.proofs.Common.{◌≡◌, ℕ, ◌+◌, ◌*◌, ◌≤◌, Bool, true, false, List, [], ◌∷◌, length, Option, Some, None, if◌then◌else◌, arith}
use Rattle.std.proofs.lemmas.List.{length-map}
use Rattle.cxx_ast.specs.declared.declaration.FuncKind.{FuncKind}
use Rattle.cxx_ast.specs.declared.declaration.FuncKind.TheVariants.{Plain, Method, Constructor, Destructor}
use Rattle.cxx_ast.specs.Plain.{Checked, Function, Expressions, no_expressions, expression_then, Initialiser, Specification, listed, noexcept}
use Rattle.meaning_forms.specs.Class.{ObjectType, int_type, class_type, object_type, parts_of}
use Rattle.meaning_forms.specs.Running.{destructor}
use Rattle.meaning_forms.specs.Call.{initialiser_for, statements_in}
use Rattle.region_forms.specs.Form.{Region, in_order, destroy_part, destroy_scope, regions_from}
use Rattle.region_forms.specs.Numbering.{number_of, type_number}
use Rattle.region_forms.specs.LowerExpression.{Lowering, first_temporary}
use Rattle.region_forms.specs.LowerStatement.{statements, nothing_more}
use Rattle.region_forms.specs.LowerProgram.{part_place, limited, build_parts, destroy_parts, default_part, copy_part, initial_value, initial_part, last_result, body_of}
use Rattle.source_bounds.specs.LeastTokens.{tokens_in_all, tokens_given, initialisers_tokens, statements_tokens}
use Rattle.source_bounds.proofs.Functions.{given_tokens}
use Rattle.source_bounds.proofs.Sums.{sum_from}
use Rattle.source_bounds.proofs.Tabled.{Tabled, TabledRegion, no_table, upto, first_of, single, then_others, an_op, in_a_row, a_scope}
use Rattle.source_bounds.proofs.TabledExpressions.{built_sited}
use Rattle.source_bounds.proofs.TabledStatements.{Others, valued_table, nothing_table, statements_table}
use Rattle.source_bounds.specs.TableWeights.{chain_weight, all_chain_weight}
use Rattle.source_bounds.proofs.Measures.{weights_within}

-- the sites of building the parts from the j-th on
abbrev parts_sites : (ℕ → ℕ) → ℕ → List ObjectType → ℕ
parts_sites w j [] = 0
parts_sites w j (t ∷ types) = w j + 1 + parts_sites w (j + 1) types

all_alike : (j : ℕ) (types : List ObjectType) → parts_sites (λ i. 1) j types ≡ 2 * length types
all_alike j [] = omega arith
all_alike j (t ∷ types) = omega (arith, all_alike (j + 1) types)

initialised_sites : (p : Checked) (is : List Initialiser) (j : ℕ) (types : List ObjectType) →
    parts_sites (λ i. tokens_given (initialiser_for p is i) + 1) j types ≡ 2 * length types + sum_from (λ i. tokens_given (initialiser_for p is i)) j (length types)
initialised_sites p is j [] = omega arith
initialised_sites p is j (t ∷ types) = omega (arith, initialised_sites p is (j + 1) types)

-- beside its statements
abbrev pub kind_sites : FuncKind → ℕ → Function → ℕ
kind_sites Constructor parts f = 2 * parts + initialisers_tokens f.initialisers
kind_sites Destructor parts f = 2 * parts
kind_sites _ parts f = 0

-- a specification
abbrev pub specification_sites : Option Specification → ℕ
specification_sites None = 0
specification_sites (Some (listed types)) = 2
specification_sites (Some (noexcept place b)) = 5

abbrev pub specification_guards : Option Specification → ℕ
specification_guards None = 0
specification_guards (Some (listed types)) = length types + 9
specification_guards (Some (noexcept place b)) = 9

module _ (l : Lowering) where
  built : (k : ℕ) (build : ℕ → ObjectType → List Region) (w : ℕ → ℕ) (j : ℕ) (types : List ObjectType) (left : ℕ → List Region) (m g d : ℕ) →
      ((i : ℕ) (t : ObjectType) → Tabled (w i) 0 (build i t)) → Others l m g left → Tabled (parts_sites w j types + m) g (build_parts l k build j types left d)
  built k build w j [] left m g d h r = upto (parts_sites w j [] + m) g (r d) (omega arith) (omega arith)
  built k build w j (int_type ∷ types) left m g d h r =
      upto (parts_sites w j (int_type ∷ types) + m) g
      (then_others (build j int_type) (build_parts l k build (j + 1) types left d) (h j int_type) (built k build w (j + 1) types left m g d h r)) (omega arith) (omega arith)
  built k build w j (class_type c ∷ types) left m g d h r =
      let inside = build_parts l k build (j + 1) types left (d + 2) in
      upto (parts_sites w j (class_type c ∷ types) + m) g
      (then_others (build j (class_type c)) _ (h j (class_type c))
      (single (a_scope (in_order inside) (destroy_part (part_place l.layout l.program k 0 j) (number_of l.program (destructor c)))
      (in_a_row inside (built k build w (j + 1) types left m g (d + 2) h r))))) (omega arith) (omega arith)

  destroyed : (k j : ℕ) (types : List ObjectType) (body : ℕ → List Region) (m g d : ℕ) → Others l m g body → Tabled (2 * length types + m) g (destroy_parts l k j types body d)
  destroyed k j [] body m g d r = upto (0 + m) g (r d) (omega arith) (omega arith)
  destroyed k j (int_type ∷ types) body m g d r =
      upto (2 * length (int_type ∷ types) + m) g (destroyed k (j + 1) types body m g d r) (omega arith) (omega arith)
  destroyed k j (class_type c ∷ types) body m g d r =
      let inside = destroy_parts l k (j + 1) types body (d + 2) in
      upto (2 * length (class_type c ∷ types) + m) g
      (single (a_scope (in_order inside) (destroy_scope (part_place l.layout l.program k 0 j) (number_of l.program (destructor c)))
      (in_a_row inside (destroyed k (j + 1) types body m g (d + 2) r)))) (omega arith) (omega arith)

  initial_int : (k j : ℕ) (es : Expressions) → Tabled (tokens_in_all es + 1) 0 (initial_value l (part_place l.layout l.program k 0 j) es)
  initial_int k j no_expressions = single (an_op _)
  initial_int k j (expression_then e es) =
      upto (tokens_in_all (expression_then e es) + 1) 0 (valued_table l e (part_place l.layout l.program k 0 j)) (omega arith) (omega arith)

  initial : (k j : ℕ) (o : Option Expressions) (t : ObjectType) → Tabled (tokens_given o + 1) 0 (initial_part l k j o t)
  initial k j None int_type = no_table 1 0
  initial k j None (class_type c) = single (an_op _)
  initial k j (Some es) int_type = initial_int k j es
  initial k j (Some es) (class_type c) = built_sited l c es (part_place l.layout l.program k 0 j) (first_temporary l)

  default_cost : (k j : ℕ) (t : ObjectType) → Tabled 1 0 (default_part l k j t)
  default_cost k j int_type = single (an_op _)
  default_cost k j (class_type c) = single (an_op _)

  copy_cost : (k j : ℕ) (t : ObjectType) → Tabled 1 0 (copy_part l k j t)
  copy_cost k j int_type = single (an_op _)
  copy_cost k j (class_type c) = single (an_op _)

  abbrev pub written : Function → ℕ
  written f = statements_tokens (statements_in f.body)

  own_statements : (f : Function) → Others l (written f) (written f) (λ e. statements l (statements_in f.body) 0 (length f.parameters) e)
  own_statements f e = statements_table l (statements_in f.body) 0 (length f.parameters) e

  bodied : (kind : FuncKind) (k : ℕ) (f : Function) (d : ℕ) → Tabled (kind_sites kind (length (parts_of l.program k)) f + written f) (written f) (body_of l kind k f d)
  bodied Constructor k f d =
      let types = parts_of l.program k in
      upto (kind_sites Constructor (length types) f + written f) (written f)
      (built k (λ j. initial_part l k j (initialiser_for l.program f.initialisers j)) (λ j. tokens_given (initialiser_for l.program f.initialisers j) + 1) 0 types
      (λ e. statements l (statements_in f.body) 0 (length f.parameters) e) (written f) (written f) d
      (λ j t. initial k j (initialiser_for l.program f.initialisers j) t) (own_statements f))
      (omega (arith, initialised_sites l.program f.initialisers 0 types, given_tokens l.program f.initialisers 0 (length types))) (omega arith)
  bodied Destructor k f d = destroyed k 0 (parts_of l.program k) (λ e. statements l (statements_in f.body) 0 (length f.parameters) e) (written f) (written f) d (own_statements f)
  bodied Plain k f d = upto (0 + written f) (written f) (own_statements f d) (omega arith) (omega arith)
  bodied Method k f d = upto (0 + written f) (written f) (own_statements f d) (omega arith) (omega arith)

  limited_table : (o : Option Specification) (act : ℕ → List Region) (s g d : ℕ) → Others l s g act → TabledRegion (s + specification_sites o) (g + specification_guards o) (limited l o act d)
  limited_table None act s g d r = let k = r (d + 1) in record { sites = omega (arith, k.sites); guards = omega (arith, k.guards) }
  limited_table (Some (noexcept place b)) act s g d r = let k = r (d + 2) in record { sites = omega (arith, k.sites); guards = omega (arith, k.guards) }
  limited_table (Some (listed types)) act s g d r =
      let k = r (d + 2) in
      record { sites = omega (arith, k.sites); guards = omega (arith, k.guards, length-map types (λ t. type_number (object_type t))) }

  -- what guards a whole function weighs 9 in chains, whatever types it lists
  limited_weight : (o : Option Specification) (act : ℕ → List Region) (s g d : ℕ) → Others l s g act → chain_weight (limited l o act d) ≤ g + 9
  limited_weight None act s g d r = let k = r (d + 1) in omega (arith, k.guards, weights_within (regions_from (act (d + 1))))
  limited_weight (Some (listed types)) act s g d r = let k = r (d + 2) in omega (arith, k.guards, weights_within (regions_from (act (d + 2))))
  limited_weight (Some (noexcept place b)) act s g d r = let k = r (d + 2) in omega (arith, k.guards, weights_within (regions_from (act (d + 2))))

  last_table : (is_main : Bool) → Tabled 0 0 (last_result l is_main)
  last_table false = no_table 0 0
  last_table true = record { sites = omega arith; guards = omega arith }

  pub body_table : (is_main : Bool) (k : ℕ) (f : Function) →
      TabledRegion (kind_sites f.kind (length (parts_of l.program k)) f + written f + specification_sites f.specification) (written f + specification_guards f.specification)
      (in_order (limited l f.specification (body_of l f.kind k f) 1 ∷ last_result l is_main))
  body_table is_main k f =
      in_a_row _ (upto _ _ (first_of
      (limited_table f.specification (body_of l f.kind k f) (kind_sites f.kind (length (parts_of l.program k)) f + written f) (written f) 1 (λ d. bodied f.kind k f d))
      (last_table is_main)) (omega arith) (omega arith))

  last_weight : (is_main : Bool) → all_chain_weight (regions_from (last_result l is_main)) ≤ 0
  last_weight false = omega arith
  last_weight true = omega arith

  pub body_weight : (is_main : Bool) (k : ℕ) (f : Function) →
      chain_weight (in_order (limited l f.specification (body_of l f.kind k f) 1 ∷ last_result l is_main)) ≤ written f + 9
  body_weight is_main k f =
      omega (
        arith,
        limited_weight f.specification (body_of l f.kind k f) (kind_sites f.kind (length (parts_of l.program k)) f + written f) (written f) 1 (λ d. bodied f.kind k f d),
        last_weight is_main,
      )

  pub default_table : (is_declared : Bool) (k : ℕ) → TabledRegion (if is_declared then 0 else 2 * length (parts_of l.program k)) 0
      (in_order (if is_declared then [] else build_parts l k (default_part l k) 0 (parts_of l.program k) nothing_more 1))
  default_table true k = in_a_row [] (no_table 0 0)
  default_table false k =
      in_a_row _ (upto (2 * length (parts_of l.program k)) 0 (built k (default_part l k) (λ j. 1) 0 (parts_of l.program k) nothing_more 0 0 1 (default_cost k) (nothing_table l))
      (omega (arith, all_alike 0 (parts_of l.program k))) (omega arith))

  pub copy_table : (k : ℕ) → TabledRegion (2 * length (parts_of l.program k)) 0 (in_order (build_parts l k (copy_part l k) 0 (parts_of l.program k) nothing_more 1))
  copy_table k =
      in_a_row _ (upto (2 * length (parts_of l.program k)) 0 (built k (copy_part l k) (λ j. 1) 0 (parts_of l.program k) nothing_more 0 0 1 (copy_cost k) (nothing_table l))
      (omega (arith, all_alike 0 (parts_of l.program k))) (omega arith))

  pub destructor_table : (k : ℕ) → TabledRegion (2 * length (parts_of l.program k)) 0 (in_order (destroy_parts l k 0 (parts_of l.program k) nothing_more 1))
  destructor_table k =
      in_a_row _ (upto (2 * length (parts_of l.program k)) 0 (destroyed k 0 (parts_of l.program k) nothing_more 0 0 1 (nothing_table l)) (omega arith) (omega arith))
