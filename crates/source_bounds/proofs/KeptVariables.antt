-- The kept variables of a source's function are those of its code.
use Rattle.std.proofs.Common.{◌≡◌, ◌∙◌, refl, ap, arith, ℕ, zero, suc, ◌+◌, not, Bool, true, false, List, [], ◌∷◌, ◌++◌, map, take, length, replicate, if◌then◌else◌}
use Rattle.std.specs.Prelude.{slice_get, unwrap_or}
use Rattle.cxx_ast.specs.declared.types.Ty.{Ty}
use Rattle.cxx_ast.specs.declared.types.Ty.TheVariants.{Int, Void, Object, IntRef, ObjectRef}
use Rattle.cxx_ast.specs.Plain.{Function}
use Rattle.region_forms.specs.Form.{Slot, Region, RegionFunction}
use Rattle.region_forms.specs.LowerExpression.{Lowering, variable_type}
use Rattle.region_forms.specs.LowerProgram.{help, own_slots, slot_for, lowering, declared_function}
use Rattle.region_forms.specs.Numbering.{variables_of}
use Rattle.landing_pads.specs.Frames.{between_calls}
use Rattle.source_bounds.specs.KeptChoice.{region_takes, untaken_in, VariablesAreChosen}
use Rattle.source_bounds.specs.KeptVariables.{function_binds, unbound_ints, KeptVariablesAreUnbound}
use Rattle.source_bounds.proofs.KeptStatements.{function_takes}

-- slots for help are no ints
helps_untaken : (r : Region) (s n : ℕ) → untaken_in r s (replicate n help) ≡ []
helps_untaken r s zero = refl
helps_untaken r s (suc n) = helps_untaken r (s + 1) n

-- the slots of variables, the first of which is variable v, before those for help
variables_untaken : (l : Lowering) (k : ℕ) (f : Function) (r : Region) → ((v : ℕ) → variable_type l v ≡ Int → region_takes (l.first_variable + v) r ≡ function_binds l v k f) →
    (s v : ℕ) (types : List Ty) (n : ℕ) → s ≡ l.first_variable + v → ((i : ℕ) → slice_get l.variables (v + i) ≡ slice_get types i) →
    untaken_in r s (map (slot_for l.layout) types ++ replicate n help) ≡ unbound_ints l k f v types
variables_untaken l k f r takes s v [] n at are = helps_untaken r s n
variables_untaken l k f r takes s v (t ∷ types) n at are =
    by t first (variables_untaken l k f r takes (s + 1) (v + 1) types n (omega (arith, at)) (λ i. let on : v + 1 + i ≡ v + suc i = omega arith in ap (slice_get l.variables) on ∙ are (suc i)))
  where
    zeroth : v ≡ v + 0
    zeroth = omega arith

    first : variable_type l v ≡ t
    first = ap (λ o. unwrap_or o Int) (ap (slice_get l.variables) zeroth ∙ are 0)

    by : (t : Ty) → variable_type l v ≡ t → untaken_in r (s + 1) (map (slot_for l.layout) types ++ replicate n help) ≡ unbound_ints l k f (v + 1) types →
        untaken_in r s (slot_for l.layout t ∷ (map (slot_for l.layout) types ++ replicate n help)) ≡ unbound_ints l k f v (t ∷ types)
    by Int is more =
        let same : region_takes s r ≡ function_binds l v k f = ap (λ a. region_takes a r) at ∙ takes v is in
        ap (λ ks. if not (region_takes s r) then s ∷ ks else ks) more
        ∙ (ap (λ b. if not b then s ∷ unbound_ints l k f (v + 1) types else unbound_ints l k f (v + 1) types) same
        ∙ ap (λ a. if not (function_binds l v k f) then a ∷ unbound_ints l k f (v + 1) types else unbound_ints l k f (v + 1) types) at)
    by Void is more = more
    by (Object c) is more = more
    by (IntRef const) is more = more
    by (ObjectRef const c) is more = more

-- the address of a member function's object is no int
behind_own : (r : Region) (is_member : Bool) (slots : List Slot) → untaken_in r 0 (own_slots is_member ++ slots) ≡ untaken_in r (length (own_slots is_member)) slots
behind_own r false slots = refl
behind_own r true slots = refl

pub kept_variables_are_unbound : VariablesAreChosen → KeptVariablesAreUnbound
kept_variables_are_unbound chosen p layout is_member is_main k f =
    let l : Lowering = lowering p layout is_member (variables_of f) in
    let r : RegionFunction = declared_function p layout is_member is_main k f in
    let n : ℕ = 2 + between_calls is_member (variables_of f) r.body in
    let first : l.first_variable ≡ l.first_variable + 0 = omega arith in
    chosen r ∙ ap (take 10) (behind_own r.body is_member (map (slot_for layout) (variables_of f) ++ replicate n help)
    ∙ variables_untaken l k f r.body (λ v int. function_takes l v int is_main k f) l.first_variable 0 (variables_of f) n first (λ i. let on : 0 + i ≡ i = omega arith in ap (slice_get (variables_of f)) on))
