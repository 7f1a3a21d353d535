-- In a checked program main is there, and has no parameters.
use Rattle.std.proofs.Common.{◌≡◌, ◌∙◌, ◌+◌, ◌<◌, ℕ, zero, suc, Bool, true, false, not, ◌&&◌, ◌||◌, ◌==◌, nat_lt, cond, List, [], ◌∷◌, ◌++◌, length, Option, Some, None, position, option_map, refl, sym, ap, subst, bytes_eq, arith}
use Rattle.std.specs.Prelude.{slice_get, unwrap_or, if◌then◌else◌}
use Rattle.std.proofs.lemmas.Bool.{and_parts}
use Rattle.std.proofs.lemmas.Bool.Decides.{nat_tests}
use Rattle.std.specs.Cmp.Derive.{both_true}
use Rattle.cxx_ast.specs.declared.name.Bound.TheVariants.{Func}
use Rattle.cxx_ast.specs.declared.types.Param.{Param}
use Rattle.cxx_ast.specs.declared.types.Ty.TheVariants.{Int}
use Rattle.cxx_ast.specs.Settled.{settle_function}
use Rattle.cxx_ast.specs.Standards.{standard_found}
use Rattle.cxx_ast.specs.declared.standard.Std.{Std}
use Rattle.cxx_ast.specs.Plain.{Function, Declaration, class_declaration, global_declaration, function_declaration, Program, Checked, Statements}
use Rattle.cxx_ast.specs.Finding.{breaks_if}
use Rattle.cxx_ast.specs.Rule.{no_main}
use Rattle.cxx_ast.specs.Environment.{Environment, Scope}
use Rattle.cxx_ast.specs.Locals.{outermost, declare_param, declare_params}
use Rattle.cxx_ast.specs.TypeNames.{has_body, signature}
use Rattle.cxx_ast.specs.Resolve.{function_number, resolve_params, resolve_body, resolve_function}
use Rattle.cxx_ast.specs.Declare.{at_the_start, definitions, declare_behind, body_environment, function_scope}
use Rattle.cxx_ast.specs.DeclaredNames.{once_only_found}
use Rattle.cxx_ast.specs.Broken.{Valid, broken, declaration_found, declarations_found, is_main, has_main}
use Rattle.cxx_ast.specs.Checked.{resolve_declarations, functions_of, checked, IsChecked}
use Rattle.cxx_ast.proofs.Positions.{position-cons}
use Rattle.region_forms.specs.Form.{RegionFunction}
use Rattle.region_forms.specs.Layout.{Layout}
use Rattle.region_forms.specs.LowerProgram.{declared_function, own_functions, functions_of_classes, regions_of}
use Rattle.region_ir.specs.Leaves.{main_test}
use Rattle.region_ir.proofs.Sound.{Sound, sound_parts, held, nothing_refused}
use Rattle.region_ir.proofs.JumpsStand.{declared_sound}
use Rattle.region_ir.proofs.MainOnce.{main_text, not_main, name_sound, no_more, now_defined}
use Rattle.std.proofs.lemmas.Option.{slice_get-map}

-- main's place among names and functions
pub record MainAt (names : List (List ℕ)) (fs : List Function) : Type 0 where
  pub number : ℕ
  pub function : Function
  pub named : position (λ d. bytes_eq d main_text) names ≡ Some number
  pub there : slice_get fs number ≡ Some function
  pub alone : length function.parameters ≡ 0

-- behind a function that is defined or not
one_more : (b c : Bool) (name : List ℕ) (names : List (List ℕ)) (f : Function) (fs : List Function) → c ≡ b → (b ≡ false → MainAt names fs) →
    (b ≡ true → bytes_eq name main_text ≡ true → length f.parameters ≡ 0) → (bytes_eq name main_text ≡ false → MainAt names fs) →
    MainAt (if b then name ∷ names else names) (if c then f ∷ fs else fs)
one_more false false name names f fs e skip here later = skip refl
one_more true true name names f fs e skip here later = by (bytes_eq name main_text) refl
  where
    at : (b : Bool) → bytes_eq name main_text ≡ b →
        position (λ d. bytes_eq d main_text) (name ∷ names) ≡ cond b (Some 0) (option_map suc (position (λ d. bytes_eq d main_text) names))
    at b q = position-cons (λ d. bytes_eq d main_text) name names
        ∙ ap (λ x. cond x (Some 0) (option_map suc (position (λ d. bytes_eq d main_text) names))) q

    by : (b : Bool) → bytes_eq name main_text ≡ b → MainAt (name ∷ names) (f ∷ fs)
    by true q = record { number = 0; function = f; named = at true q; there = refl; alone = here refl q }
    by false q =
        let m = later q in
        record { number = suc m.number; function = m.function; named = at false q ∙ ap (option_map suc) m.named; there = m.there; alone = m.alone }
one_more true false name names f fs e skip here later = absurd (cc e)
one_more false true name names f fs e skip here later = absurd (cc e)

same_body : (env : Environment) (sc : Scope) (b : Option Statements) → has_body (resolve_body env sc b) ≡ has_body b
same_body env sc None = refl
same_body env sc (Some ss) = refl

same_count : (env : Environment) (sc : Scope) (ps : List Param) → length (resolve_params env sc ps) ≡ length ps
same_count env sc [] = refl
same_count env sc (p ∷ ps) = ap suc (same_count env (declare_param env p sc) ps)

right_of : (a b : Bool) → a ≡ false → (a || b) ≡ true → b ≡ true
right_of true b h k = absurd (cc h)
right_of false b h k = k

and_false : (a b : Bool) → a ≡ false → (a && b) ≡ false
and_false true b h = absurd (cc h)
and_false false b h = refl

and_right_false : (a b : Bool) → b ≡ false → (a && b) ≡ false
and_right_false true b h = h
and_right_false false b h = refl

-- main has no parameters
main_alone : (f : Function) → is_main f ≡ true → length f.parameters ≡ 0
main_alone f h =
    let start = and_parts (bytes_eq f.name.text main_text && has_body f.body && (length f.parameters == 0)) (elim f.result [ Int ↦ true | _ ↦ false ]) h in
    let count = (and_parts (bytes_eq f.name.text main_text && has_body f.body) (length f.parameters == 0) start.0).1 in grind (arith, nat_tests, count)

-- the first definition of main is the only one
module _ (env : Environment) (f : Function) (ds : List Declaration) (named : Sound (declaration_found env (function_declaration f)))
    (rest : Sound (declarations_found (declare_behind env (function_declaration f)) ds)) (h : (is_main f || has_main ds) ≡ true) where
  first_alone : has_body f.body ≡ true → bytes_eq f.name.text main_text ≡ true → length f.parameters ≡ 0
  first_alone b e = by (is_main f) refl
    where
      by : (c : Bool) → is_main f ≡ c → length f.parameters ≡ 0
      by true q = main_alone f q
      by false q =
          let later = right_of (is_main f) (has_main ds) q h in
          let defined = now_defined env (signature env outermost f) (both_true e b) (name_sound env f named) in
          absurd (cc (sym later ∙ no_more (declare_behind env (function_declaration f)) ds defined rest))

pub main_at : (env : Environment) (ds : List Declaration) → Sound (declarations_found env ds) → has_main ds ≡ true →
    MainAt (definitions ds) (functions_of (resolve_declarations env ds))
main_at env [] s h = absurd (cc h)
main_at env (class_declaration c ∷ ds) s h =
    let d = class_declaration c in
    main_at (declare_behind env d) ds (sound_parts (declaration_found env d) (declarations_found (declare_behind env d) ds) s).1 h
main_at env (global_declaration n value ∷ ds) s h =
    let d = global_declaration n value in
    main_at (declare_behind env d) ds (sound_parts (declaration_found env d) (declarations_found (declare_behind env d) ds) s).1 h
main_at env (function_declaration f ∷ ds) s h =
    let d = function_declaration f in
    let parts = sound_parts (declaration_found env d) (declarations_found (declare_behind env d) ds) s in
    let body = body_environment env f in
    let sc = function_scope env None f.result in
    one_more (has_body f.body) (has_body (resolve_body body (declare_params body f.parameters sc) f.body)) f.name.text (definitions ds)
    (resolve_function env outermost body sc (Func (function_number env f.name.text)) f) (functions_of (resolve_declarations (declare_behind env d) ds))
    (same_body body (declare_params body f.parameters sc) f.body)
    (λ b. main_at (declare_behind env d) ds parts.1 (right_of (is_main f) (has_main ds)
    (not_main f (and_right_false (bytes_eq f.name.text main_text) (has_body f.body) b)) h))
    (λ b e. same_count env outermost f.parameters ∙ first_alone env f ds parts.0 parts.1 h b e)
    (λ e. main_at (declare_behind env d) ds parts.1 (right_of (is_main f) (has_main ds)
    (not_main f (and_false (bytes_eq f.name.text main_text) (has_body f.body) e)) h))

-- a function of a program by its number among its regions
record At (p : Checked) (l : Layout) (fs : List RegionFunction) (n : ℕ) (f : Function) : Type 0 where
  main : Bool
  at : slice_get fs n ≡ Some (declared_function p l false main 0 f)
  below : n < length fs

own_at : (p : Checked) (l : Layout) (k : ℕ) (fs : List Function) (others : List RegionFunction) (n : ℕ) (f : Function) → slice_get fs n ≡ Some f →
    At p l (own_functions p l k fs ++ others) n f
own_at p l k [] others zero f e = absurd (cc e)
own_at p l k [] others (suc n) f e = absurd (cc e)
own_at p l k (g ∷ fs) others zero f e =
    let same : g ≡ f = cc e in
    record { main = k == p.main; at = ap (λ x. Some (declared_function p l false (k == p.main) 0 x)) same; below = omega arith }
own_at p l k (g ∷ fs) others (suc n) f e =
    let a = own_at p l (k + 1) fs others n f e in
    let less = a.below in record { main = a.main; at = a.at; below = omega (arith, less) }

passes : (p : Checked) (l : Layout) (f : Function) → slice_get p.functions p.main ≡ Some f → length f.parameters ≡ 0 → main_test (regions_of p l) ≡ true
passes p l f e alone =
    let a = own_at p l 0 p.functions (functions_of_classes p l 0 (length p.classes)) p.main f e in
    let less = a.below in
    let there : nat_lt p.main (length (regions_of p l).functions) ≡ true = grind (arith, nat_tests, less) in
    both_true there (rw a.at (rw alone refl))

program_main : (std : Std) (p : Program) (l : Layout) → Valid std p → main_test (regions_of (checked std p) l) ≡ true
unfolding broken checked
program_main std p l valid =
    let walked = declarations_found (at_the_start p.declarations) p.declarations in
    let once = once_only_found p.declarations in
    let main = breaks_if (not (has_main p.declarations)) no_main p.length in
    let own = standard_found std p.declarations in
    let sound = (sound_parts (walked ++ once ++ main) own (nothing_refused (definitions p.declarations) (walked ++ once ++ main ++ own) valid)).0 in
    let some = held (has_main p.declarations) no_main p.length (sound_parts (walked ++ once) main sound).1 in
    let m = main_at (at_the_start p.declarations) p.declarations (declared_sound std p valid) some in
    let number : (checked std p).main ≡ m.number = ap (λ o. unwrap_or o (length (definitions p.declarations))) m.named in
    let settled = settle_function None m.function in
    let there : slice_get (checked std p).functions m.number ≡ Some settled =
    slice_get-map (settle_function None) (functions_of (resolve_declarations (at_the_start p.declarations) p.declarations)) m.number ∙ ap (option_map (settle_function None)) m.there in
    passes (checked std p) l settled (ap (slice_get (checked std p).functions) number ∙ there) m.alone

pub checked_main : (p : Checked) (l : Layout) → IsChecked p → main_test (regions_of p l) ≡ true
checked_main p l h = subst (λ q. main_test (regions_of q l) ≡ true) (sym h.resolved) (program_main h.std h.program l h.valid)
