-- Where functions begin.
use Rattle.std.proofs.Common.{◌≡◌, ◌∙◌, ℕ, zero, suc, ◌+◌, ◌<◌, ◌≤◌, List, [], ◌∷◌, length, map, take, get_or, refl, sym, ap, arith}
use Rattle.std.proofs.Math.ListN.{get_or-map}
use Rattle.std.proofs.lemmas.List.{length-map, take_all}
use Rattle.eh_bytes.specs.Listed.{ListedFunction, listed_function}
use Rattle.eh_bytes.specs.declared.unit.EmittedFunc.{EmittedFunc}
use Rattle.linear_forms.specs.Linear.{UnitCode}
use Rattle.machine_forms.specs.Routine.{Routine, all_words, listed_routines, routine_words}
use Rattle.machine_forms.specs.Emitted.{function_first, unit_routines}
use Rattle.rv64_emit.specs.Places.{HasTargets}
use Rattle.rv64_emit.specs.declared.places.Targets.{Targets}

first_listed : (w : ℕ) (rs : List Routine) (n : ℕ) (d : ListedFunction) → n < length rs →
    (get_or (listed_routines w rs) n d).first ≡ w + all_words (take n rs)
first_listed w [] n d h = absurd (omega (arith, h))
first_listed w (r ∷ rs) zero d h = omega arith
first_listed w (r ∷ rs) (suc n) d h = first_listed (w + routine_words r) rs n d (omega (arith, h)) ∙ omega arith

as_many : (w : ℕ) (rs : List Routine) → length (listed_routines w rs) ≡ length rs
as_many w [] = refl
as_many w (r ∷ rs) = ap suc (as_many (w + routine_words r) rs)

many_functions : (t : Targets) (u : UnitCode) → HasTargets t u → length t.functions.now ≡ length (unit_routines u)
many_functions t u h = sym (length-map t.functions.now listed_function) ∙ (ap length h.functions ∙ as_many 2 (unit_routines u))

-- the first word of a function that is there
pub first_of : (t : Targets) (u : UnitCode) (n : ℕ) (f : EmittedFunc) → HasTargets t u → n < length t.functions.now →
    f ≡ get_or t.functions.now n f → f.first ≡ function_first u n
first_of t u n f h within e =
    let there : n < length (unit_routines u) = omega (arith, many_functions t u h, within) in
    let same : listed_function f ≡ get_or (map listed_function t.functions.now) n (listed_function f) = ap listed_function e ∙ sym (get_or-map listed_function t.functions.now n f) in
    ap (λ x. x.first) (same ∙ ap (λ l. get_or l n (listed_function f)) h.functions) ∙ first_listed 2 (unit_routines u) n (listed_function f) there

-- behind the last one
pub end_of : (t : Targets) (u : UnitCode) (n : ℕ) → HasTargets t u → length t.functions.now ≤ n → t.end ≡ function_first u n
end_of t u n h past =
    let beyond : length (unit_routines u) ≤ n = omega (arith, many_functions t u h, past) in
    h.end ∙ ap (λ rs. 2 + all_words rs) (sym (take_all n (unit_routines u) beyond))
