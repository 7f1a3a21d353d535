-- The extent of a specification does the same.
use Rattle.std.proofs.Common.{◌≡◌, ℕ, ◌+◌, ◌<◌, List, [], ◌∷◌, Some, refl, sym, ap, subst, arith}
use Rattle.std.specs.Prelude.{map}
use Rattle.cxx_ast.specs.declared.types.Ty.{Ty}
use Rattle.meaning_forms.specs.Class.{ObjectType, object_type}
use Rattle.meaning_forms.specs.Context.{Context as SourceContext, specification, guarded_by, catch_all, try_block}
use Rattle.meaning_forms.specs.Running.{Running as SourceRunning}
use Rattle.meaning_forms.specs.Statement.{statements as source_statements}
use Rattle.meaning_forms.specs.Call.{construction, destruction}
use Rattle.meaning_forms.specs.Specification.{after_extent, under_specification, guard_of, end_noexcept}
use Rattle.region_forms.specs.Form.{limit, in_order, regions_from, Region}
use Rattle.region_forms.specs.Laws.{CaughtListFollows}
use Rattle.region_forms.specs.Numbering.{type_number}
use Rattle.region_forms.specs.LowerExpression.{result_slot}
use Rattle.region_forms.specs.LowerStatement.{variable_slot}
use Rattle.region_forms.specs.Meaning.{outwards}
use Rattle.linear_simulation.specs.Watched.{watched_limit, watched as region, watched_all as regions}
use Rattle.region_simulation.specs.Stands.{context_of}
use Rattle.region_simulation.specs.Alike.{Alike}
use Rattle.region_simulation.specs.Flows.{FlowAgrees, DoesAlike}
use Rattle.region_simulation.specs.Expressions.{source_running}
use Rattle.region_simulation.proofs.Flowing.{alike_after, outwards_agrees, single}
use Rattle.region_exceptions.specs.Extents.{ExtentsAlike, ExtentsDoAlike, AllExtentsDoAlike, EmptyConstructor}
use Rattle.region_exceptions.proofs.Faring.{orderly_sound}
use Rattle.region_exceptions.proofs.FaringTrees.{statements_fares}
use Rattle.region_exceptions.proofs.FaringCalls.{construction_fares, destruction_fares}
use Rattle.region_exceptions.proofs.Standing.{stands_guarded}
use Rattle.region_exceptions.proofs.Scopes.{flows_steady}
use Rattle.region_exceptions.proofs.Specifications.{extent_out}
use Rattle.cxx_ast.specs.Plain.{listed, noexcept}
use Rattle.meaning_forms.specs.Outcome.{Action as SourceAction, Flow as SourceFlow}
use Rattle.region_forms.specs.LowerProgram.{ending, specified}
use Rattle.region_exceptions.specs.Throws.{InEachContext}
use Rattle.region_exceptions.specs.Fares.{FaresIn, CallsFare}
use Rattle.region_exceptions.specs.Handlers.{EmptyDestructor}
use Rattle.region_exceptions.proofs.Tries.{tries_alike}
use Rattle.region_exceptions.proofs.Exceptions.{enterable}
use Rattle.region_exceptions.proofs.Ending.{ending_catches}

pub extents_alike : CaughtListFollows → ExtentsAlike
extents_alike laws l gives i d lt a b same fare empty makes at k c w s stands names act body fares does =
    let types = map object_type names in
    let inside = guarded_by (specification types) c in
    let agree = FlowAgrees l gives i (d + 1) in
    let y = region b body (context_of w.open_calls inside) s in
    let standing = stands_guarded l.layout a.program at (specification types) c w s stands in
    alike_after l.layout a.program agree (FlowAgrees l gives i d) at k c w s (after_extent a types c (act inside w))
    (watched_limit b (map type_number types) (context_of w.open_calls c) y) outwards (outwards_agrees l gives i d lt)
    (extent_out laws l.layout a b same fare empty makes agree (result_slot l + 1) (flows_steady l gives i (d + 1)) types c
    at k w s stands (act inside w) y does (fares w.last_number w (omega arith) (orderly_sound inside w standing.sound)))

numbers_of : (types : List Ty) → map (λ t. type_number (object_type t)) types ≡ map type_number (map object_type types)
numbers_of [] = refl
numbers_of (t ∷ types) = ap (λ ns. type_number (object_type t) ∷ ns) (numbers_of types)

-- of a list
list_does : CaughtListFollows → InEachContext (λ l own gives call b v c.
    CallsFare (source_running l call) → EmptyDestructor l.layout (source_running l call) b → EmptyConstructor l.layout (source_running l call) b
    → (n i d : ℕ) (names : List Ty) (act : SourceContext → SourceAction SourceFlow) (rs : List Region) → i < d
    → FaresIn l.program (guarded_by (specification (map object_type names)) c) (act (guarded_by (specification (map object_type names)) c))
    → DoesAlike l own gives b v (guarded_by (specification (map object_type names)) c) n i (d + 2) (act (guarded_by (specification (map object_type names)) c)) rs
    → DoesAlike l own gives b v c n i d (under_specification (source_running l call) (Some (listed names)) act c) (specified l (listed names) (in_order rs) ∷ []))
list_does laws l own gives call b v c same fare empty makes n i d names act rs lt fares does at w s stands scope =
    subst (λ ns. Alike l.layout l.program at k c w s (FlowAgrees l gives i d) (under_specification a (Some (listed names)) act c w)
    (regions b (regions_from (limit (in_order rs) ns ∷ [])) (context_of w.open_calls c) s)) (sym (numbers_of names))
    (subst (λ z. Alike l.layout l.program at k c w s (FlowAgrees l gives i d) (under_specification a (Some (listed names)) act c w) z)
    (sym (single b (limit (in_order rs) (map type_number types)) (context_of w.open_calls c) s))
    (extents_alike laws l gives i d lt a b same fare empty makes at k c w s stands names act (in_order rs) fares body))
  where
    a : SourceRunning
    a = source_running l call

    k : ℕ
    k = variable_slot l n

    types : List ObjectType
    types = map object_type names

    inside : SourceContext
    inside = guarded_by (specification types) c

    body : Alike l.layout l.program at k inside w s (FlowAgrees l gives i (d + 1)) (act inside w) (region b (in_order rs) (context_of w.open_calls inside) s)
    body =
        let e : d + 2 ≡ d + 1 + 1 = omega arith in
        let h = subst (λ m. Alike l.layout l.program at k inside w s (FlowAgrees l gives i m) (act inside w) (regions b (regions_from rs) (context_of w.open_calls inside) s)) e
        (does at w s (stands_guarded l.layout l.program at (specification types) c w s stands) scope) in
        alike_after l.layout l.program (FlowAgrees l gives i (d + 1 + 1)) (FlowAgrees l gives i (d + 1)) at k inside w s (act inside w)
        (regions b (regions_from rs) (context_of w.open_calls inside) s) outwards (outwards_agrees l gives i (d + 1) (omega (arith, lt))) h

-- of each specification
pub extents_do_alike : CaughtListFollows → ExtentsDoAlike
extents_do_alike laws l own gives call b v c same fare empty makes n i d (listed names) act rs lt fares does =
    list_does laws l own gives call b v c same fare empty makes n i d names act rs lt fares does
extents_do_alike laws l own gives call b v c same fare empty makes n i d (noexcept place q) act rs lt fares does =
    let inside = guarded_by (try_block (catch_all ∷ [])) c in
    tries_alike l own gives b v c n i d lt (catch_all ∷ []) (ending l) refl (act inside) rs (end_noexcept (source_running l call) c) (enterable l.program inside (act inside) fares) does
    (ending_catches laws l own gives call b v c same n i (d + 1))

pub all_extents_do_alike : CaughtListFollows → AllExtentsDoAlike
all_extents_do_alike laws l own gives call b v c same fare empty makes = record {
  statements = λ ss n i d s rs lt does.
      extents_do_alike laws l own gives call b v c same fare empty makes n i d s (source_statements r ss v) rs lt
      (statements_fares r ss v (guarded_by (guard_of s) c) fare).at does;
  constructions = λ k f n i d s rs lt does.
      extents_do_alike laws l own gives call b v c same fare empty makes n i d s (construction r k f v) rs lt
      (construction_fares r k f v (guarded_by (guard_of s) c) fare).at does;
  destructions = λ k f this n i d s rs lt does.
      extents_do_alike laws l own gives call b v c same fare empty makes n i d s (destruction r k f this) rs lt
      (destruction_fares r k f this (guarded_by (guard_of s) c) fare).at does;
}
  where
    r : SourceRunning
    r = source_running l call
