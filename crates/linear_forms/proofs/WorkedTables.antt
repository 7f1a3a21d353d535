-- The code and the tables of small functions, worked out by hand.
use Rattle.std.specs.Prelude.{◌≡◌, refl, pos, negsuc, ℕ, ℤ, zero, suc, List, [], ◌∷◌, Some, None, length, flat_map}
use Rattle.eh_bytes.specs.Spelling.{uleb_spelling, uleb_spelling_within}
use Rattle.cxx_ast.specs.declared.name.Builtin.TheVariants.{WriteInt}
use Rattle.region_forms.specs.Form.{Place, in_slot, through, number, load, defined, builtin, no_arguments, argument_then, int_argument, store, bind, call, construct, destroy, make, throw, enter, leave, destroy_scope, Region, op, protect, catch, limit, barrier, clause_then, no_clauses, leave_region, in_order}
use Rattle.region_forms.specs.Layout.{layout_of}
use Rattle.region_forms.specs.LowerProgram.{regions_of}
use Rattle.linear_forms.specs.Linear.{plain, label, jump, pad, jump_filter, free, resume, return, CodeSite, FunctionCode, UnitCode}
use Rattle.linear_forms.specs.Tables.{list_of, sense_in}
use Rattle.linear_forms.specs.Filters.{filter_for, types_in, lists_in}
use Rattle.linear_forms.specs.Unit.{unit_of, function_code}
use Rattle.linear_forms.specs.UnitRun.{code_at}
use Rattle.linear_forms.proofs.Worked.{caught_outside}

-- a site with a pad, and one without
abbrev site : (start end pad : ℕ) → List ℤ → CodeSite
site from to p chain = record { start = from; end = to; pad = Some p; filters = chain }

abbrev open_site : (start end : ℕ) → CodeSite
open_site from to = record { start = from; end = to; pad = None; filters = [] }

-- a slot's beginning, and what the address in a slot names
abbrev at : ℕ → Place
at s = record { root = in_slot s; offset = 0 }

abbrev named : ℕ → Place
named s = record { root = through s; offset = 0 }

-- the program of Worked that throws in a function with an object, and catches outside
abbrev unit : UnitCode
unit = unit_of (regions_of caught_outside (layout_of caught_outside))

-- void f() { A a(1); throw 7; }    Slots: a 0, result 1, exception 2, pads' object 3, selector 4, way out 5. A::A is 5, A::~A is 6.
thrower : code_at unit 0 ≡ record {
  name = [];
  parameters = 0;
  slots = (code_at unit 0).slots;
  ops =
      plain (construct (at 0) 5 (argument_then (int_argument (number (pos 1))) no_arguments)) ∷
      jump 3 ∷ pad 3 4 ∷ plain (destroy (at 0) 6) ∷ resume 3 ∷ label 3 ∷
      plain (make 2) ∷
      jump 7 ∷ pad 3 4 ∷ free 2 ∷ resume 3 ∷ label 7 ∷
      plain (store (named 2) (number (pos 7))) ∷ label 9 ∷ label 6 ∷
      plain (throw 2 0 None) ∷ label 5 ∷
      label 4 ∷ plain (destroy (at 0) 6) ∷ label 2 ∷
      label 1 ∷ label 0 ∷ return None ∷ [];
  sites = open_site 0 1 ∷ open_site 4 5 ∷ site 10 11 2 (pos 0 ∷ []) ∷ site 15 16 2 (pos 0 ∷ []) ∷ open_site 18 19 ∷ [];
  types = [];
  lists = [];
  frame = 64;
}
unfolding caught_outside uleb_spelling uleb_spelling_within
thrower = refl

-- int main() { try { f(); } catch (int e) { write_int(e); } return 0; }    Slots: e 0, then as above.
catcher : code_at unit 1 ≡ record {
  name = [];
  parameters = 0;
  slots = (code_at unit 1).slots;
  ops =
      jump 3 ∷ pad 3 4 ∷ jump_filter 4 (pos 1) 4 ∷ resume 3 ∷
      label 4 ∷ plain (bind 2 (named 3)) ∷ plain (store (at 0) (load (named 2))) ∷ plain (enter 2) ∷
      jump 7 ∷ pad 3 4 ∷ plain leave ∷ resume 3 ∷ label 7 ∷
      plain (call (builtin WriteInt) (argument_then (int_argument (load (at 0))) no_arguments)) ∷ label 9 ∷
      label 8 ∷ plain leave ∷ label 6 ∷ label 5 ∷ jump 2 ∷
      label 3 ∷ plain (call (defined 0) no_arguments) ∷ label 10 ∷ label 2 ∷
      plain (store (at 1) (number (pos 0))) ∷ jump 0 ∷ label 1 ∷ plain (store (at 1) (number (pos 0))) ∷ label 0 ∷ return (Some 1) ∷ [];
  sites = open_site 3 4 ∷ open_site 11 12 ∷ open_site 16 17 ∷ site 21 22 1 (pos 1 ∷ []) ∷ [];
  types = 1 ∷ [];
  lists = [];
  frame = 64;
}
unfolding caught_outside uleb_spelling uleb_spelling_within
catcher = refl

-- a call of function 0
abbrev calls : Region
calls = op (call (defined 0) no_arguments)

-- Types in order of first use, with `catch (...)` and a type that is caught twice; two calls in one extent are one site; a chain has
-- one filter of a cleanup; what stands behind a barrier has no site.
--     try { A a; A b; f(); f(); [barrier] f(); } catch (T4&) { try { f(); } catch (T1&) { } } catch (...) { }    with T4 caught outside
abbrev several : Region
several = catch
    (catch
    (protect (protect (in_order (calls ∷ calls ∷ barrier calls ∷ [])) (destroy_scope (at 0) 7)) (destroy_scope (at 1) 7))
    (clause_then (Some 4) 2 (catch calls (clause_then (Some 1) 2 (in_order []) no_clauses))
    (clause_then None 2 (in_order []) no_clauses)))
    (clause_then (Some 4) 2 (in_order []) (clause_then (Some 2) 2 (in_order []) no_clauses))

abbrev several_code : FunctionCode
several_code = function_code (record { name = []; parameters = 0; slots = []; result = None; body = several })

several-types : several_code.types ≡ 5 ∷ 3 ∷ 0 ∷ 2 ∷ []
several-types = refl

-- places: the outer pad is at 1, the inner one at 15, that in its first handler at 22, those of the objects at 39 and 44
several-sites : several_code.sites ≡
    open_site 4 5 ∷
    site 18 19 1 (pos 1 ∷ pos 2 ∷ []) ∷
    site 24 25 1 (pos 1 ∷ pos 2 ∷ []) ∷
    site 30 31 22 (pos 4 ∷ pos 1 ∷ pos 2 ∷ []) ∷
    site 41 42 15 (pos 1 ∷ pos 3 ∷ pos 1 ∷ pos 2 ∷ []) ∷
    site 46 47 39 (pos 0 ∷ pos 1 ∷ pos 3 ∷ pos 1 ∷ pos 2 ∷ []) ∷
    site 48 50 44 (pos 0 ∷ pos 1 ∷ pos 3 ∷ pos 1 ∷ pos 2 ∷ []) ∷
    site 54 55 39 (pos 0 ∷ pos 1 ∷ pos 3 ∷ pos 1 ∷ pos 2 ∷ []) ∷
    site 57 58 15 (pos 1 ∷ pos 3 ∷ pos 1 ∷ pos 2 ∷ []) ∷ []
several-sites = refl

-- the numbers below n, from the greatest on
abbrev below : ℕ → List ℕ
below zero = []
below (suc n) = n ∷ below n

-- A specification of 130 types and one of type 3 inside it. The first list has indices 1 to 130, of which those from 128 on take two
-- bytes each: 127 + 3 * 2 bytes and the 0 behind them are 134, so the second list's filter is -135. Type 3 is used as number 127.
abbrev listed_types : Region
listed_types = limit (limit calls (3 ∷ [])) (below 130)

long_list-filter : filter_for (types_in listed_types) (lists_in listed_types) (list_of (3 ∷ [])) ≡ negsuc 134
unfolding uleb_spelling uleb_spelling_within
long_list-filter = refl

long_list-means : sense_in (types_in listed_types) (lists_in listed_types) (negsuc 134) ≡ list_of (3 ∷ [])
unfolding uleb_spelling uleb_spelling_within
long_list-means = refl

long_list-indices : lists_in (limit calls (3 ∷ 9 ∷ 3 ∷ [])) ≡ (1 ∷ 2 ∷ 1 ∷ []) ∷ []
long_list-indices = refl

-- so many scopes inside one another, and a return out of the innermost
abbrev nested : ℕ → ℕ → Region
nested zero n = leave_region n
nested (suc k) n = protect (nested k n) (destroy_scope (at 0) 7)

abbrev nested_code : FunctionCode
nested_code = function_code (record { name = []; parameters = 0; slots = []; result = None; body = nested 100 100 })

-- Each scope has 5 operations before what it protects and 5 behind, but 3 the outermost; then the return's own 2, and the last one. Each
-- has a site for its way on and one for its destructor, all of them but the outermost's with one filter.
nested-grows : (length nested_code.ops ≡ 1001) × (length nested_code.sites ≡ 200) × (length (flat_map (λ s. s.filters) nested_code.sites) ≡ 198)
nested-grows = (refl, refl, refl)
