-- A program declares no more classes, functions and globals than it has tokens.
use Rattle.std.proofs.Common.{◌≡◌, ◌∙◌, ◌+◌, ◌*◌, ◌≤◌, ℕ, suc, Bool, true, false, List, [], ◌∷◌, ◌++◌, map, length, None, if◌then◌else◌, refl, sym, ap, subst, arith}
use Rattle.std.specs.Prelude.{slice_get, unwrap_or}
use Rattle.std.proofs.lemmas.List.{length-map, length-append}
use Rattle.cxx_ast.specs.declared.token.Token.{Token}
use Rattle.cxx_ast.specs.declared.mark.Mark.TheVariants as sign
use Rattle.cxx_ast.specs.declared.standard.Std.{Std}
use Rattle.cxx_ast.specs.Plain.{Function, Class, Program, Checked}
use Rattle.cxx_ast.specs.Environment.{Environment}
use Rattle.cxx_ast.specs.TypeNames.{has_body}
use Rattle.cxx_ast.specs.declared.name.Bound.TheVariants.{Func}
use Rattle.cxx_ast.specs.Locals.{outermost}
use Rattle.cxx_ast.specs.Resolve.{function_number, resolve_function}
use Rattle.cxx_ast.specs.Declare.{at_the_start, declare_behind, body_environment, function_scope}
use Rattle.cxx_ast.specs.Piece.{Piece, anywhere, placed, named, mark, Fit}
use Rattle.cxx_ast.specs.Written.{Member, data_member, function_member, Written, written_class, written_global, written_function, data_members, functions, declared, spell_params, spell_specification, spell_initialisers, spell_body, in_full, spell_function, spell_members, spell_declarations}
use Rattle.cxx_ast.specs.Checked.{bad_exception, resolve_methods, resolve_declarations, classes_of, globals_of, functions_of, checked}
use Rattle.cxx_ast.specs.Settled.{Allowed, allowed_by, destructor_of, given, settle_function, settle_classes}
use Rattle.meaning_forms.specs.Class.{class_at, no_class}
use Rattle.region_forms.specs.Layout.{Layout}
use Rattle.region_forms.specs.LowerProgram.{implicit_default_function, implicit_copy_function, implicit_destructor_function, declared_function, own_functions, functions_of_class, functions_of_classes, regions_of}
use Rattle.region_formed.specs.Counts.{CountsFit, CheckedCountsFit}
use Rattle.region_formed.proofs.Pieces.{Rule, Above, lower, after_param, after_params, after_specification, after_initialisers, after_body, after_result, after_tilde, after_base, after_start_value}
use Rattle.region_formed.proofs.Throws.{rows_counted}

-- names are counted, up to a total
abbrev counts : ℕ → Rule
counts total = record {
  fits = λ n x. Unit {0};
  next = λ n x. n + 1;
  end = λ n. n ≤ total;
  rises = λ n x h. omega arith;
  lower_fits = λ m n x le h. tt;
  lower_next = λ m n x le. omega (arith, le);
  lower_end = λ m n le h. omega (arith, le, h);
}

counted_tokens : (total n : ℕ) (ts : List Token) (ps : List Piece) → Fit ts ps → n + length ts ≤ total → Above (counts total) n ps
counted_tokens total n [] [] f h = omega (arith, h)
counted_tokens total n [] (p ∷ ps) f h = absurd f
counted_tokens total n (t ∷ ts) [] f h = absurd f
counted_tokens total n (t ∷ ts) (anywhere k ∷ ps) f h = counted_tokens total n ts ps f.1 (omega (arith, h))
counted_tokens total n (t ∷ ts) (placed k place ∷ ps) f h = counted_tokens total n ts ps f.1 (omega (arith, h))
counted_tokens total n (t ∷ ts) (named x ∷ ps) f h = (tt, counted_tokens total (n + 1) ts ps f.1 (omega (arith, h)))

module _ (total : ℕ) where
  abbrev Counted : ℕ → List Piece → Type 0
  Counted n ps = Above (counts total) n ps

  function_counted : (f : Function) (after : List Piece) (n : ℕ) → Counted n (spell_function f after) → Counted (n + 1) after
  function_counted f after n h =
      let r = counts total in
      let body = spell_body f.body after in
      let inits = spell_initialisers f.initialisers body in
      let tail = spell_specification (in_full f) f.specification inits in
      let inner = mark sign.OpenParen ∷ spell_params f.parameters (mark sign.CloseParen ∷ tail) in
      let here = (after_result r f.kind f.result (named f.name ∷ inner) n h).1 in
      after_body r f.body after (n + 1) (after_initialisers r f.initialisers body (n + 1) (after_specification r (in_full f) f.specification inits (n + 1)
      (after_params r f.parameters (mark sign.CloseParen ∷ tail) (n + 1) here)))

  members_counted : (ms : List Member) (after : List Piece) (n m : ℕ) → m ≡ n + length (functions ms) → Counted n (spell_members ms after) → Counted m after
  members_counted [] after n m e h = lower (counts total) after m n (omega (arith, e)) h
  members_counted (data_member x ∷ ms) after n m e h =
      members_counted ms after n m e (after_param (counts total) x (mark sign.Semicolon ∷ spell_members ms after) n h)
  members_counted (function_member f ∷ ms) after n m e h =
      members_counted ms after (n + 1) m (omega (arith, e))
      (function_counted f (spell_members ms after) n (after_tilde (counts total) f.kind (spell_function f (spell_members ms after)) n h))

-- how many names of classes, functions and globals there are
abbrev size_of : List Written → ℕ
size_of [] = 0
size_of (written_class x is_public base ms ∷ ws) = 1 + length (functions ms) + size_of ws
size_of (written_global x s ∷ ws) = 1 + size_of ws
size_of (written_function f ∷ ws) = 1 + size_of ws

program_counted : (total : ℕ) (ws : List Written) (n : ℕ) → Above (counts total) n (spell_declarations ws []) → n + size_of ws ≤ total
program_counted total [] n h = omega (arith, h)
program_counted total (written_class x is_public base ms ∷ ws) n h =
    let after = mark sign.CloseBrace ∷ mark sign.Semicolon ∷ spell_declarations ws [] in
    let inner = mark sign.OpenBrace ∷ spell_members ms after in
    let rest = program_counted total ws (n + 1 + length (functions ms))
    (members_counted total ms after (n + 1) (n + 1 + length (functions ms)) refl (after_base (counts total) is_public base inner (n + 1) h.1)) in
    omega (arith, rest)
program_counted total (written_global x s ∷ ws) n h =
    let rest = program_counted total ws (n + 1) (after_start_value (counts total) s (mark sign.Semicolon ∷ spell_declarations ws []) (n + 1) h.1) in omega (arith, rest)
program_counted total (written_function f ∷ ws) n h =
    let rest = program_counted total ws (n + 1) (function_counted total f (spell_declarations ws []) n h) in omega (arith, rest)

-- the same of the program whose names are bound
abbrev weight : List Class → ℕ
weight [] = 0
weight (c ∷ cs) = 1 + length c.functions + weight cs

methods_count : (env : Environment) (c : Class) (i : ℕ) (fs : List Function) → length (resolve_methods env c i fs) ≡ length fs
methods_count env c i [] = refl
methods_count env c i (f ∷ fs) = ap suc (methods_count env c (i + 1) fs)

one_more : (b : Bool) (f : Function) (fs : List Function) → length (if b then f ∷ fs else fs) ≤ 1 + length fs
one_more true f fs = omega arith
one_more false f fs = omega arith

weighed : (env : Environment) (ws : List Written) →
    length (functions_of (resolve_declarations env (map declared ws))) + weight (classes_of (resolve_declarations env (map declared ws)))
    + length (globals_of (resolve_declarations env (map declared ws))) ≤ size_of ws
weighed env [] = omega arith
weighed env (written_class x is_public base ms ∷ ws) =
    let d = declared (written_class x is_public base ms) in
    let c : Class = record { name = x; base = base; members = data_members ms; functions = functions ms } in
    let rest = weighed (declare_behind env d) ws in
    let same = methods_count env c 0 (functions ms) in omega (arith, rest, same)
weighed env (written_global x s ∷ ws) = let rest = weighed (declare_behind env (declared (written_global x s))) ws in omega (arith, rest)
weighed env (written_function f ∷ ws) =
    let rest = weighed (declare_behind env (declared (written_function f))) ws in
    let bound = resolve_function env outermost (body_environment env f) (function_scope env None f.result) (Func (function_number env f.name.text)) f in
    let one = one_more (has_body bound.body) bound (functions_of (resolve_declarations (declare_behind env (declared (written_function f))) (map declared ws))) in
    omega (arith, rest, one)

-- and with the specifications that count
weight_settled : (std : Std) (before : List Allowed) (cs : List Class) → weight (settle_classes std before cs) ≡ weight cs
weight_settled std before [] = refl
weight_settled std before (c ∷ cs) =
    let own = given std before c in
    let mapped = length-map c.functions (settle_function own) in
    let rest = weight_settled std (before ++ allowed_by (destructor_of own c.functions) ∷ []) cs in omega (arith, mapped, rest)

-- the functions of regions
own_count : (p : Checked) (l : Layout) (n : ℕ) (fs : List Function) → length (own_functions p l n fs) ≡ length fs
own_count p l n [] = refl
own_count p l n (f ∷ fs) = ap suc (own_count p l (n + 1) fs)

class_count : (p : Checked) (l : Layout) (k : ℕ) → length (functions_of_class p l k) ≡ length (class_at p k).functions + 3
class_count p l k =
    let mapped = length-map (class_at p k).functions (declared_function p l true false k) in
    let all = length-append (map (declared_function p l true false k) (class_at p k).functions)
    (implicit_default_function p l k ∷ implicit_copy_function p l k ∷ implicit_destructor_function p l k ∷ []) in omega (arith, mapped, all)

classes_count : (p : Checked) (l : Layout) (k : ℕ) (cs : List Class) → ((j : ℕ) → class_at p (k + j) ≡ unwrap_or (slice_get cs j) no_class) →
    length (functions_of_classes p l k (length cs)) ≤ 3 * weight cs
classes_count p l k [] h = omega arith
classes_count p l k (c ∷ cs) h =
    let none : k ≡ k + 0 = omega arith in
    let here = ap (λ d. length d.functions) (ap (class_at p) none ∙ h 0) in
    let one = class_count p l k in
    let rest = classes_count p l (k + 1) cs (λ j. let same : k + 1 + j ≡ k + suc j = omega arith in ap (class_at p) same ∙ h (suc j)) in
    let all = length-append (functions_of_class p l k) (functions_of_classes p l (k + 1) (length cs)) in
    omega (arith, here, one, rest, all)

classes_weight : (cs : List Class) → length cs ≤ weight cs
classes_weight [] = omega arith
classes_weight (c ∷ cs) = let rest = classes_weight cs in omega (arith, rest)

program_counts : (std : Std) (p : Program) (ws : List Written) (l : Layout) (n : ℕ) → map declared ws ≡ p.declarations → size_of ws ≤ n → CountsFit (regions_of (checked std p) l) n
unfolding checked
program_counts std p ws l n e few =
    let q = checked std p in
    let env = at_the_start p.declarations in
    let all = subst (λ ds. length (functions_of (resolve_declarations env ds)) + weight (classes_of (resolve_declarations env ds)) + length (globals_of (resolve_declarations env ds)) ≤ size_of ws) e
    (weighed env ws) in
    let own = own_count q l 0 q.functions in
    let others = classes_count q l 0 q.classes (λ j. let none : 0 + j ≡ j = omega arith in ap (class_at q) none) in
    let whole = length-append (own_functions q l 0 q.functions) (functions_of_classes q l 0 (length q.classes)) in
    let rows = rows_counted q.classes in
    let ds = resolve_declarations env p.declarations in
    let classes = classes_weight q.classes in
    let settled = weight_settled std [] (bad_exception ∷ classes_of ds) in
    let functions = length-map (functions_of ds) (settle_function None) in
    record {
      functions = omega (arith, few, all, own, others, whole, settled, functions);
      types = omega (arith, few, all, rows, classes, settled);
      globals = omega (arith, few, all);
    }

pub counts_fit : CheckedCountsFit
counts_fit p l c =
    let tokens = counted_tokens (length c.tokens) 0 c.tokens (spell_declarations c.tree.written []) c.tree.spelled (omega arith) in
    let few = program_counted (length c.tokens) c.tree.written 0 tokens in
    subst (λ q. CountsFit (regions_of q l) (length c.tokens)) (sym c.resolved)
    (program_counts c.std c.program c.tree.written l (length c.tokens) c.tree.declarations (omega (arith, few)))
