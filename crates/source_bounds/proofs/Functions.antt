-- What functions become. A constructor builds each part of its object, and a destructor destroys it.
use Rattle.std.proofs.Common.{◌≡◌, ℕ, zero, suc, ◌+◌, ◌*◌, ◌≤◌, Bool, true, false, ◌==◌, List, [], ◌∷◌, map, length, Option, Some, None, if◌then◌else◌, refl, arith}
use Rattle.std.specs.Prelude.{nat_lt}
use Rattle.cxx_ast.specs.declared.types.Ty.{Ty}
use Rattle.cxx_ast.specs.declared.declaration.FuncKind.{FuncKind}
use Rattle.cxx_ast.specs.declared.declaration.FuncKind.TheVariants.{Plain, Method, Constructor, Destructor}
use Rattle.cxx_ast.specs.Plain.{Checked, Function, Expressions, no_expressions, expression_then, Statements, Initialiser, Specification, listed, noexcept}
use Rattle.meaning_forms.specs.Class.{ObjectType, int_type, class_type, object_type, parts_of}
use Rattle.meaning_forms.specs.Running.{destructor}
use Rattle.meaning_forms.specs.Call.{place_named}
use Rattle.meaning_forms.specs.Call.{initialiser_for, statements_in}
use Rattle.region_forms.specs.Form.{Region, in_order, destroy_part, destroy_scope, builtin, no_arguments, call, enter, op, no_clauses, protect, leave_handler}
use Rattle.region_forms.specs.Numbering.{number_of, type_number}
use Rattle.region_forms.specs.LowerExpression.{Lowering, first_temporary, exception_slot}
use Rattle.region_forms.specs.LowerStatement.{statements, nothing_more}
use Rattle.region_forms.specs.LowerProgram.{part_place, limited, build_parts, destroy_parts, default_part, copy_part, initial_value, initial_part, last_result, body_of, ending}
use Rattle.source_bounds.specs.LeastTokens.{tokens_in_all, tokens_given, initialisers_tokens, statements_tokens}
use Rattle.source_bounds.specs.NamedTypes.{HaveRows, SpecificationNamesRows, BodyNamesRows, AllNameRows, FunctionNamesRows}
use Rattle.source_bounds.proofs.Budget.{Fine, Whole, AreNamed, no_more, within, whole_within, in_front, behind, alone, one_op, ordered, protected, limited_to, FineClauses, guarded, clauses_within, no_clause, one_clause}
use Rattle.source_bounds.proofs.Expressions.{built_fine}
use Rattle.source_bounds.proofs.Statements.{Rest, valued, nothing_fine, statements_fine}
use Rattle.source_bounds.proofs.Sums.{sum_from, one_changed}
use Rattle.cxx_ast.specs.declared.name.Builtin.TheVariants.{Terminate}

-- the words of building the parts from the j-th on
abbrev parts_words : (ℕ → ℕ) → ℕ → List ObjectType → ℕ
parts_words w j [] = 0
parts_words w j (t ∷ types) = w j + 11 + parts_words w (j + 1) types

all_alike : (n j : ℕ) (types : List ObjectType) → parts_words (λ i. n) j types ≡ (n + 11) * length types
all_alike n j [] = omega arith
all_alike n j (t ∷ types) = omega (arith, all_alike n (j + 1) types)

-- each initialiser is that of one part at most
pub given_tokens : (p : Checked) (is : List Initialiser) (j n : ℕ) → sum_from (λ i. tokens_given (initialiser_for p is i)) j n ≤ initialisers_tokens is
given_tokens p [] j n = nothing j n
  where
    nothing : (j n : ℕ) → sum_from (λ i. 0) j n ≤ 0
    nothing j zero = omega arith
    nothing j (suc n) = omega (arith, nothing (j + 1) n)
given_tokens p (x ∷ is) j n =
    omega (arith, as_changed j n, one_changed (place_named p x.name.bound) (tokens_in_all x.arguments) (λ i. tokens_given (initialiser_for p is i)) j n, given_tokens p is j n)
  where
    one : (b : Bool) (o : Option Expressions) → tokens_given (if b then Some x.arguments else o) ≡ (if b then tokens_in_all x.arguments else tokens_given o)
    one true o = refl
    one false o = refl

    as_changed : (j n : ℕ) → sum_from (λ i. tokens_given (initialiser_for p (x ∷ is) i)) j n ≡
        sum_from (λ i. if place_named p x.name.bound == i then tokens_in_all x.arguments else tokens_given (initialiser_for p is i)) j n
    as_changed j zero = refl
    as_changed j (suc n) = omega (arith, one (place_named p x.name.bound == j) (initialiser_for p is j), as_changed (j + 1) n)

initialised_words : (p : Checked) (is : List Initialiser) (j : ℕ) (types : List ObjectType) →
    parts_words (λ i. 32 * tokens_given (initialiser_for p is i) + 5) j types ≡ 16 * length types + 32 * sum_from (λ i. tokens_given (initialiser_for p is i)) j (length types)
initialised_words p is j [] = omega arith
initialised_words p is j (t ∷ types) = omega (arith, initialised_words p is (j + 1) types)

-- a specification
abbrev pub specification_words : Option Specification → ℕ
specification_words None = 0
specification_words (Some (listed types)) = 273
specification_words (Some (noexcept place b)) = 573

-- what a kind of function does beside its statements
abbrev pub kind_words : FuncKind → ℕ → Function → ℕ
kind_words Constructor parts f = 16 * parts + 32 * initialisers_tokens f.initialisers
kind_words Destructor parts f = 47 * parts
kind_words _ parts f = 0

module _ (rows : ℕ) (l : Lowering) where
  built : (k : ℕ) (build : ℕ → ObjectType → List Region) (w : ℕ → ℕ) (j : ℕ) (types : List ObjectType) (left : ℕ → List Region) (m d : ℕ) →
      ((i : ℕ) (t : ObjectType) (e : ℕ) → Fine rows 0 e (w i) (build i t)) → Rest rows l 0 m left → Fine rows 0 d (parts_words w j types + m) (build_parts l k build j types left d)
  built k build w j [] left m d h r = within (parts_words w j [] + m) (r d) (omega arith)
  built k build w j (int_type ∷ types) left m d h r =
      within (parts_words w j (int_type ∷ types) + m)
      (behind (build j int_type) (build_parts l k build (j + 1) types left d) (h j int_type d) (built k build w (j + 1) types left m d h r)) (omega arith)
  built k build w j (class_type c ∷ types) left m d h r =
      let inside = build_parts l k build (j + 1) types left (d + 2) in
      within (parts_words w j (class_type c ∷ types) + m)
      (behind (build j (class_type c)) _ (h j (class_type c) d)
      (alone (protected d (d + 1) (in_order inside) (destroy_part (part_place l.layout l.program k 0 j) (number_of l.program (destructor c))) (omega arith)
      (ordered (d + 1) (d + 2) inside (omega arith) (built k build w (j + 1) types left m (d + 2) h r))))) (omega arith)

  destroyed : (k j : ℕ) (types : List ObjectType) (body : ℕ → List Region) (m d : ℕ) → Rest rows l 0 m body →
      Fine rows 0 d (47 * length types + m) (destroy_parts l k j types body d)
  destroyed k j [] body m d r = within (47 * 0 + m) (r d) (omega arith)
  destroyed k j (int_type ∷ types) body m d r =
      within (47 * length (int_type ∷ types) + m) (destroyed k (j + 1) types body m d r) (omega arith)
  destroyed k j (class_type c ∷ types) body m d r =
      let inside = destroy_parts l k (j + 1) types body (d + 2) in
      within (47 * length (class_type c ∷ types) + m)
      (alone (protected d (d + 1) (in_order inside) (destroy_scope (part_place l.layout l.program k 0 j) (number_of l.program (destructor c))) (omega arith)
      (ordered (d + 1) (d + 2) inside (omega arith) (destroyed k (j + 1) types body m (d + 2) r)))) (omega arith)

  initial_int : (k j : ℕ) (es : Expressions) (d : ℕ) → Fine rows 0 d (32 * tokens_in_all es + 5) (initial_value l (part_place l.layout l.program k 0 j) es)
  initial_int k j no_expressions d = within 5 (alone (one_op rows 0 d _)) (omega arith)
  initial_int k j (expression_then e es) d =
      within (32 * tokens_in_all (expression_then e es) + 5) (valued rows l 0 e (part_place l.layout l.program k 0 j) d) (omega arith)

  initial : (k j : ℕ) (o : Option Expressions) (t : ObjectType) (d : ℕ) → Fine rows 0 d (32 * tokens_given o + 5) (initial_part l k j o t)
  initial k j None int_type d = no_more rows 0 d 5
  initial k j None (class_type c) d = alone (one_op rows 0 d _)
  initial k j (Some es) int_type d = initial_int k j es d
  initial k j (Some es) (class_type c) d = built_fine rows 0 l c es (part_place l.layout l.program k 0 j) d (first_temporary l)

  default_cost : (k j : ℕ) (t : ObjectType) (d : ℕ) → Fine rows 0 d 5 (default_part l k j t)
  default_cost k j int_type d = within 5 (alone (one_op rows 0 d _)) (omega arith)
  default_cost k j (class_type c) d = alone (one_op rows 0 d _)

  copy_cost : (k j : ℕ) (t : ObjectType) (d : ℕ) → Fine rows 0 d 8 (copy_part l k j t)
  copy_cost k j int_type d = within 8 (alone (one_op rows 0 d _)) (omega arith)
  copy_cost k j (class_type c) d = alone (one_op rows 0 d _)

  -- a body's own statements
  abbrev written_tokens : Function → ℕ
  written_tokens f = statements_tokens (statements_in f.body)

  there : (o : Option Statements) → BodyNamesRows rows o → AllNameRows rows (statements_in o)
  there None h = tt
  there (Some ss) h = h

  own_statements : (f : Function) → FunctionNamesRows rows f → Rest rows l 0 (128 * written_tokens f) (λ e. statements l (statements_in f.body) 0 (length f.parameters) e)
  own_statements f h e = statements_fine rows l (statements_in f.body) 0 (length f.parameters) e (there f.body h.body)

  bodied : (kind : FuncKind) (k : ℕ) (f : Function) (d : ℕ) → FunctionNamesRows rows f →
      Fine rows 0 d (kind_words kind (length (parts_of l.program k)) f + 128 * written_tokens f) (body_of l kind k f d)
  bodied Constructor k f d h =
      let types = parts_of l.program k in
      within (kind_words Constructor (length types) f + 128 * written_tokens f)
      (built k (λ j. initial_part l k j (initialiser_for l.program f.initialisers j)) (λ j. 32 * tokens_given (initialiser_for l.program f.initialisers j) + 5) 0 types
      (λ e. statements l (statements_in f.body) 0 (length f.parameters) e) (128 * written_tokens f) d
      (λ j t e. initial k j (initialiser_for l.program f.initialisers j) t e) (own_statements f h))
      (omega (arith, initialised_words l.program f.initialisers 0 types, given_tokens l.program f.initialisers 0 (length types)))
  bodied Destructor k f d h = destroyed k 0 (parts_of l.program k) (λ e. statements l (statements_in f.body) 0 (length f.parameters) e) (128 * written_tokens f) d (own_statements f h)
  bodied Plain k f d h = within (0 + 128 * written_tokens f) (own_statements f h d) (omega arith)
  bodied Method k f d h = within (0 + 128 * written_tokens f) (own_statements f h d) (omega arith)

  listed_named : (types : List Ty) → HaveRows rows types → AreNamed rows (map (λ t. t + 1) (map (λ t. type_number (object_type t)) types))
  listed_named [] h = tt
  listed_named (t ∷ types) h = (h.0, listed_named types h.1)

  -- the one clause of what is `noexcept`
  ending_cost : (d : ℕ) → FineClauses rows 0 (d + 1) 567 (ending l)
  ending_cost d =
      let terminate = op (call (builtin Terminate) no_arguments) in
      let inside = in_order (terminate ∷ []) in
      let own = protected (d + 2) (d + 3) inside leave_handler (omega arith)
      (ordered (d + 3) (d + 4) (terminate ∷ []) (omega arith) (alone (one_op rows 0 (d + 4) (call (builtin Terminate) no_arguments)))) in
      let body = within 558 (in_front (one_op rows 0 (d + 2) (enter (exception_slot l))) (alone own)) (omega arith) in
      clauses_within 567
      (one_clause None (exception_slot l) (in_order (op (enter (exception_slot l)) ∷ protect inside leave_handler ∷ [])) no_clauses (omega arith)
      (ordered (d + 1) (d + 2) (op (enter (exception_slot l)) ∷ protect inside leave_handler ∷ []) (omega arith) body) (no_clause rows 0 (d + 1) 0)) (omega arith)

  limited_cost : (o : Option Specification) (act : ℕ → List Region) (m d : ℕ) → SpecificationNamesRows rows o → Rest rows l 0 m act →
      Whole rows 0 d (m + specification_words o) (limited l o act d)
  limited_cost None act m d h r = whole_within (m + 0) (ordered d (d + 1) (act (d + 1)) (omega arith) (r (d + 1))) (omega arith)
  limited_cost (Some (noexcept place b)) act m d h r =
      whole_within (m + 573)
      (guarded d (d + 1) (in_order (act (d + 2))) (ending l) (omega arith) (ordered (d + 1) (d + 2) (act (d + 2)) (omega arith) (r (d + 2))) (ending_cost d)) (omega arith)
  limited_cost (Some (listed types)) act m d h r =
      limited_to d (d + 1) (in_order (act (d + 2))) (map (λ t. type_number (object_type t)) types) (omega arith) (listed_named types h)
      (ordered (d + 1) (d + 2) (act (d + 2)) (omega arith) (r (d + 2)))

  last_cost : (is_main : Bool) (d : ℕ) → Fine rows 0 d 4 (last_result l is_main)
  last_cost false d = no_more rows 0 d 4
  last_cost true d = alone (one_op rows 0 d _)

  pub whole_body : (is_main : Bool) (k : ℕ) (f : Function) → FunctionNamesRows rows f →
      Whole rows 0 0 (4 + (kind_words f.kind (length (parts_of l.program k)) f + 128 * written_tokens f + specification_words f.specification))
      (in_order (limited l f.specification (body_of l f.kind k f) 1 ∷ last_result l is_main))
  whole_body is_main k f h =
      ordered 0 1 _ refl (within (4 + (kind_words f.kind (length (parts_of l.program k)) f + 128 * written_tokens f + specification_words f.specification)) (in_front
      (limited_cost f.specification (body_of l f.kind k f) (kind_words f.kind (length (parts_of l.program k)) f + 128 * written_tokens f) 1 h.specification (λ d. bodied f.kind k f d h))
      (last_cost is_main 1)) (omega arith))

  pub default_whole : (is_declared : Bool) (k : ℕ) → Whole rows 0 0 (if is_declared then 0 else 16 * length (parts_of l.program k))
      (in_order (if is_declared then [] else build_parts l k (default_part l k) 0 (parts_of l.program k) nothing_more 1))
  default_whole true k = ordered 0 1 [] refl (no_more rows 0 1 0)
  default_whole false k =
      whole_within (16 * length (parts_of l.program k))
      (ordered 0 1 _ refl (built k (default_part l k) (λ j. 5) 0 (parts_of l.program k) nothing_more 0 1 (default_cost k) (nothing_fine rows l 0))) (omega (arith, all_alike 5 0 (parts_of l.program k)))

  pub copy_whole : (k : ℕ) → Whole rows 0 0 (19 * length (parts_of l.program k)) (in_order (build_parts l k (copy_part l k) 0 (parts_of l.program k) nothing_more 1))
  copy_whole k =
      whole_within (19 * length (parts_of l.program k))
      (ordered 0 1 _ refl (built k (copy_part l k) (λ j. 8) 0 (parts_of l.program k) nothing_more 0 1 (copy_cost k) (nothing_fine rows l 0))) (omega (arith, all_alike 8 0 (parts_of l.program k)))

  pub destructor_whole : (k : ℕ) → Whole rows 0 0 (47 * length (parts_of l.program k)) (in_order (destroy_parts l k 0 (parts_of l.program k) nothing_more 1))
  destructor_whole k =
      whole_within (47 * length (parts_of l.program k)) (ordered 0 1 _ refl (destroyed k 0 (parts_of l.program k) nothing_more 0 1 (nothing_fine rows l 0))) (omega arith)

-- What a constructor or a destructor of so many parts has beside what its tokens pay for. A constructor with 16 parameters or more pays for
-- all parts that an object has at most.
abbrev pub extra_words : FuncKind → ℕ → ℕ → ℕ
extra_words Constructor parts n = if nat_lt n 16 then 16 * parts else 0
extra_words Destructor parts n = 47 * parts
extra_words _ parts n = 0
