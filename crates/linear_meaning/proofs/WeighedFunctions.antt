-- What functions become weighs at most 40 for each token, and 49 for each part of an object that is built or destroyed.
use Rattle.std.proofs.Common.{◌≡◌, ℕ, ◌+◌, ◌*◌, ◌≤◌, Bool, true, false, List, [], ◌∷◌, length, Option, Some, None, if◌then◌else◌, arith}
use Rattle.cxx_ast.specs.declared.declaration.FuncKind.{FuncKind}
use Rattle.cxx_ast.specs.declared.declaration.FuncKind.TheVariants.{Plain, Method, Constructor, Destructor}
use Rattle.cxx_ast.specs.Plain.{Checked, Function, Expressions, no_expressions, expression_then, Initialiser, Specification, listed, noexcept}
use Rattle.meaning_forms.specs.Class.{ObjectType, int_type, class_type, class_at, parts_of}
use Rattle.meaning_forms.specs.Running.{destructor}
use Rattle.meaning_forms.specs.Call.{initialiser_for, statements_in}
use Rattle.region_forms.specs.Form.{Region, in_order, destroy_part, destroy_scope}
use Rattle.region_forms.specs.Layout.{Layout}
use Rattle.region_forms.specs.Numbering.{number_of, variables_of}
use Rattle.region_forms.specs.LowerExpression.{Lowering, first_temporary}
use Rattle.region_forms.specs.LowerStatement.{statements, nothing_more}
use Rattle.region_forms.specs.LowerProgram.{part_place, limited, build_parts, destroy_parts, default_part, copy_part, initial_value, initial_part, lowering, last_result, body_of, copied_type, some_constructor, declared_function, implicit_default_function, implicit_copy_function, implicit_destructor_function}
use Rattle.source_bounds.specs.LeastTokens.{tokens_in_all, tokens_given, initialisers_tokens, statements_tokens, function_tokens}
use Rattle.source_bounds.proofs.Functions.{given_tokens}
use Rattle.source_bounds.proofs.Units.{body_counted}
use Rattle.source_bounds.proofs.Sums.{sum_from}
use Rattle.linear_meaning.proofs.Weights.{weight, Weigh, Weighs, no_weight, upto, first_of, single, then_others, an_op, in_a_row, a_scope}
use Rattle.linear_meaning.proofs.WeighedExpressions.{built_weighs}
use Rattle.linear_meaning.proofs.WeighedStatements.{Others, valued, nothing_weighs, statements_weigh}

-- the weight of building the parts from the j-th on
abbrev parts_weight : (ℕ → ℕ) → ℕ → List ObjectType → ℕ
parts_weight w j [] = 0
parts_weight w j (t ∷ types) = w j + 33 + parts_weight w (j + 1) types

all_alike : (j : ℕ) (types : List ObjectType) → parts_weight (λ i. 16) j types ≡ 49 * length types
all_alike j [] = omega arith
all_alike j (t ∷ types) = omega (arith, all_alike (j + 1) types)

initialised_weight : (p : Checked) (is : List Initialiser) (j : ℕ) (types : List ObjectType) →
    parts_weight (λ i. 40 * tokens_given (initialiser_for p is i) + 16) j types ≡ 49 * length types + 40 * sum_from (λ i. tokens_given (initialiser_for p is i)) j (length types)
initialised_weight p is j [] = omega arith
initialised_weight p is j (t ∷ types) = omega (arith, initialised_weight p is (j + 1) types)

-- beside its statements
abbrev kind_weight : FuncKind → ℕ → Function → ℕ
kind_weight Constructor parts f = 49 * parts + 40 * initialisers_tokens f.initialisers
kind_weight Destructor parts f = 33 * parts
kind_weight _ parts f = 0

kind_counted : (kind : FuncKind) (parts : ℕ) (f : Function) → kind_weight kind parts f ≤ 49 * parts + 40 * initialisers_tokens f.initialisers
kind_counted Constructor parts f = omega arith
kind_counted Destructor parts f = omega arith
kind_counted Plain parts f = omega arith
kind_counted Method parts f = omega arith

-- a specification
abbrev specification_weight : Option Specification → ℕ
specification_weight None = 2
specification_weight (Some (listed types)) = 98
specification_weight (Some (noexcept place b)) = 79

-- a function's name, its parentheses and its body pay for it
specification_small : (o : Option Specification) → specification_weight o ≤ 98
specification_small None = omega arith
specification_small (Some (listed types)) = omega arith
specification_small (Some (noexcept place b)) = omega arith

module _ (l : Lowering) where
  built : (k : ℕ) (build : ℕ → ObjectType → List Region) (w : ℕ → ℕ) (j : ℕ) (types : List ObjectType) (left : ℕ → List Region) (m d : ℕ) →
      ((i : ℕ) (t : ObjectType) → Weigh (w i) (build i t)) → Others l m left → Weigh (parts_weight w j types + m) (build_parts l k build j types left d)
  built k build w j [] left m d h r = upto (parts_weight w j [] + m) (r d) (omega arith)
  built k build w j (int_type ∷ types) left m d h r =
      upto (parts_weight w j (int_type ∷ types) + m)
      (then_others (build j int_type) (build_parts l k build (j + 1) types left d) (h j int_type) (built k build w (j + 1) types left m d h r)) (omega arith)
  built k build w j (class_type c ∷ types) left m d h r =
      let inside = build_parts l k build (j + 1) types left (d + 2) in
      upto (parts_weight w j (class_type c ∷ types) + m)
      (then_others (build j (class_type c)) _ (h j (class_type c))
      (single (a_scope (in_order inside) (destroy_part (part_place l.layout l.program k 0 j) (number_of l.program (destructor c)))
      (in_a_row inside (built k build w (j + 1) types left m (d + 2) h r))))) (omega arith)

  destroyed : (k j : ℕ) (types : List ObjectType) (body : ℕ → List Region) (m d : ℕ) → Others l m body → Weigh (33 * length types + m) (destroy_parts l k j types body d)
  destroyed k j [] body m d r = upto (0 + m) (r d) (omega arith)
  destroyed k j (int_type ∷ types) body m d r = upto (33 * length (int_type ∷ types) + m) (destroyed k (j + 1) types body m d r) (omega arith)
  destroyed k j (class_type c ∷ types) body m d r =
      let inside = destroy_parts l k (j + 1) types body (d + 2) in
      upto (33 * length (class_type c ∷ types) + m)
      (single (a_scope (in_order inside) (destroy_scope (part_place l.layout l.program k 0 j) (number_of l.program (destructor c)))
      (in_a_row inside (destroyed k (j + 1) types body m (d + 2) r)))) (omega arith)

  initial_int : (k j : ℕ) (es : Expressions) → Weigh (40 * tokens_in_all es + 16) (initial_value l (part_place l.layout l.program k 0 j) es)
  initial_int k j no_expressions = single (an_op _)
  initial_int k j (expression_then e es) =
      upto (40 * tokens_in_all (expression_then e es) + 16) (valued l e (part_place l.layout l.program k 0 j)) (omega arith)

  initial : (k j : ℕ) (o : Option Expressions) (t : ObjectType) → Weigh (40 * tokens_given o + 16) (initial_part l k j o t)
  initial k j None int_type = no_weight 16
  initial k j None (class_type c) = single (an_op _)
  initial k j (Some es) int_type = initial_int k j es
  initial k j (Some es) (class_type c) = built_weighs l c es (part_place l.layout l.program k 0 j) (first_temporary l)

  default_weighs : (k j : ℕ) (t : ObjectType) → Weigh 16 (default_part l k j t)
  default_weighs k j int_type = single (an_op _)
  default_weighs k j (class_type c) = single (an_op _)

  copy_weighs : (k j : ℕ) (t : ObjectType) → Weigh 16 (copy_part l k j t)
  copy_weighs k j int_type = single (an_op _)
  copy_weighs k j (class_type c) = single (an_op _)

  abbrev written : Function → ℕ
  written f = 40 * statements_tokens (statements_in f.body)

  own_statements : (f : Function) → Others l (written f) (λ e. statements l (statements_in f.body) 0 (length f.parameters) e)
  own_statements f e = statements_weigh l (statements_in f.body) 0 (length f.parameters) e

  bodied : (kind : FuncKind) (k : ℕ) (f : Function) (d : ℕ) → Weigh (kind_weight kind (length (parts_of l.program k)) f + written f) (body_of l kind k f d)
  bodied Constructor k f d =
      let types = parts_of l.program k in
      upto (kind_weight Constructor (length types) f + written f)
      (built k (λ j. initial_part l k j (initialiser_for l.program f.initialisers j)) (λ j. 40 * tokens_given (initialiser_for l.program f.initialisers j) + 16) 0 types
      (λ e. statements l (statements_in f.body) 0 (length f.parameters) e) (written f) d
      (λ j t. initial k j (initialiser_for l.program f.initialisers j) t) (own_statements f))
      (omega (arith, initialised_weight l.program f.initialisers 0 types, given_tokens l.program f.initialisers 0 (length types)))
  bodied Destructor k f d = destroyed k 0 (parts_of l.program k) (λ e. statements l (statements_in f.body) 0 (length f.parameters) e) (written f) d (own_statements f)
  bodied Plain k f d = upto (0 + written f) (own_statements f d) (omega arith)
  bodied Method k f d = upto (0 + written f) (own_statements f d) (omega arith)

  limited_weighs : (o : Option Specification) (act : ℕ → List Region) (m d : ℕ) → Others l m act → Weighs (m + specification_weight o) (limited l o act d)
  limited_weighs None act m d r = let k = r (d + 1) in record { few = omega (arith, k.few) }
  limited_weighs (Some (listed types)) act m d r = let k = r (d + 2) in record { few = omega (arith, k.few) }
  limited_weighs (Some (noexcept place b)) act m d r = let k = r (d + 2) in record { few = omega (arith, k.few) }

  last_weighs : (is_main : Bool) → Weigh 16 (last_result l is_main)
  last_weighs false = no_weight 16
  last_weighs true = single (an_op _)

  body_weighs : (is_main : Bool) (k : ℕ) (f : Function) →
      weight (in_order (limited l f.specification (body_of l f.kind k f) 1 ∷ last_result l is_main)) + 2 ≤ 40 * function_tokens f + 49 * length (parts_of l.program k)
  body_weighs is_main k f =
      let whole = first_of
      (limited_weighs f.specification (body_of l f.kind k f) (kind_weight f.kind (length (parts_of l.program k)) f + written f) 1 (λ d. bodied f.kind k f d))
      (last_weighs is_main) in
      omega (arith, whole.few, kind_counted f.kind (length (parts_of l.program k)) f, specification_small f.specification, body_counted f.body)

  default_body : (is_declared : Bool) (k : ℕ) →
      weight (in_order (if is_declared then [] else build_parts l k (default_part l k) 0 (parts_of l.program k) nothing_more 1)) ≤ 49 * length (parts_of l.program k) + 2
  default_body true k = omega arith
  default_body false k =
      let whole = built k (default_part l k) (λ j. 16) 0 (parts_of l.program k) nothing_more 0 1 (default_weighs k) (nothing_weighs l) in
      omega (arith, whole.few, all_alike 0 (parts_of l.program k))

  copy_body : (k : ℕ) → weight (in_order (build_parts l k (copy_part l k) 0 (parts_of l.program k) nothing_more 1)) ≤ 49 * length (parts_of l.program k) + 2
  copy_body k =
      let whole = built k (copy_part l k) (λ j. 16) 0 (parts_of l.program k) nothing_more 0 1 (copy_weighs k) (nothing_weighs l) in
      omega (arith, whole.few, all_alike 0 (parts_of l.program k))

  destructor_body : (k : ℕ) → weight (in_order (destroy_parts l k 0 (parts_of l.program k) nothing_more 1)) ≤ 49 * length (parts_of l.program k) + 2
  destructor_body k =
      let whole = destroyed k 0 (parts_of l.program k) nothing_more 0 1 (nothing_weighs l) in
      omega (arith, whole.few)

-- each function
pub declared_weighs : (p : Checked) (layout : Layout) (is_member is_main : Bool) (k : ℕ) (f : Function) →
    weight (declared_function p layout is_member is_main k f).body + 2 ≤ 40 * function_tokens f + 49 * length (parts_of p k)
declared_weighs p layout is_member is_main k f = body_weighs (lowering p layout is_member (variables_of f)) is_main k f

pub default_function_weighs : (p : Checked) (layout : Layout) (k : ℕ) → weight (implicit_default_function p layout k).body ≤ 49 * length (parts_of p k) + 2
default_function_weighs p layout k = default_body (lowering p layout true []) (some_constructor (class_at p k).functions) k

pub copy_function_weighs : (p : Checked) (layout : Layout) (k : ℕ) → weight (implicit_copy_function p layout k).body ≤ 49 * length (parts_of p k) + 2
copy_function_weighs p layout k = copy_body (lowering p layout true (copied_type (class_at p k))) k

pub destructor_function_weighs : (p : Checked) (layout : Layout) (k : ℕ) → weight (implicit_destructor_function p layout k).body ≤ 49 * length (parts_of p k) + 2
destructor_function_weighs p layout k = destructor_body (lowering p layout true []) k
