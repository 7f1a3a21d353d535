-- What a destructor becomes: a scope for each part of its class, and its statements inside.
use Rattle.std.proofs.Common.{ℕ, ◌+◌, ◌*◌, ◌≤◌, Bool, true, false, List, [], ◌∷◌, length, Option, Some, None, arith}
use Rattle.cxx_ast.specs.Plain.{Specification, listed, noexcept}
use Rattle.meaning_forms.specs.Class.{ObjectType, int_type, class_type, parts_of}
use Rattle.meaning_forms.specs.Call.{statements_in}
use Rattle.region_forms.specs.Form.{Region}
use Rattle.region_forms.specs.LowerExpression.{Lowering}
use Rattle.region_forms.specs.LowerStatement.{statements}
use Rattle.region_forms.specs.LowerProgram.{limited, destroy_parts, last_result}
use Rattle.source_bounds.specs.LeastTokens.{statements_tokens}
use Rattle.source_bounds.specs.RegionWords.{region_words}
use Rattle.function_lengths.specs.Lengths.{extent_words, DestructorsAreShort}
use Rattle.function_lengths.proofs.Statements.{words, RestIs, statements_cost}

module _ (l : Lowering) where
  destroyed : (k j : ℕ) (types : List ObjectType) (body : ℕ → List Region) (m d : ℕ) → RestIs m body → words (destroy_parts l k j types body d) ≤ 47 * length types + m
  destroyed k j [] body m d r = omega (arith, r d)
  destroyed k j (int_type ∷ types) body m d r = omega (arith, destroyed k (j + 1) types body m d r)
  destroyed k j (class_type c ∷ types) body m d r = omega (arith, destroyed k (j + 1) types body m (d + 2) r)

  limited_cost : (o : Option Specification) (act : ℕ → List Region) (m d : ℕ) → RestIs m act → region_words (limited l o act d) ≤ m + extent_words o
  limited_cost None act m d h = omega (arith, h (d + 1))
  limited_cost (Some (listed types)) act m d h = omega (arith, h (d + 2))
  limited_cost (Some (noexcept place b)) act m d h = omega (arith, h (d + 2))

  last_cost : (is_main : Bool) → words (last_result l is_main) ≤ 4
  last_cost true = omega arith
  last_cost false = omega arith

pub destructors_are_short : DestructorsAreShort
destructors_are_short l is_main k f =
    let types = parts_of l.program k in
    let own = 104 * statements_tokens (statements_in f.body) in
    let body : ℕ → List Region = λ d. statements l (statements_in f.body) 0 (length f.parameters) d in
    let inside : RestIs (47 * length types + own) (λ d. destroy_parts l k 0 types body d) = λ d. destroyed l k 0 types body own d (λ e. statements_cost l (statements_in f.body) 0 (length f.parameters) e) in
    omega (arith, limited_cost l f.specification (λ d. destroy_parts l k 0 types body d) (47 * length types + own) 1 inside, last_cost l is_main)
