-- Parameters and initialisers one by one.
use Rattle.std.proofs.Common.{◌≡◌, ℕ, Bool, true, false, ◌||◌, List, [], ◌∷◌, ◌++◌, Some, None, Option, refl, ap, ◌∙◌, sym, bytes_eq}
use Rattle.cxx_ast.specs.declared.name.Name.{Name}
use Rattle.cxx_ast.specs.declared.types.Param.{Param}
use Rattle.cxx_ast.specs.Plain.{Initialiser, Function}
use Rattle.cxx_ast.specs.Environment.{class_kind, Field, Environment, Scope, ClassEntry}
use Rattle.cxx_ast.specs.Finding.{breaks_if}
use Rattle.cxx_ast.specs.Rule.{redeclared}
use Rattle.cxx_ast.specs.FunctionRules.{params_twice, initialiser_found, initialisers_found, left_part, left_fields, left_base, has_text, class_text, initialised}
use Rattle.cxx_rules.specs.declared.found.Found.{Found}
use Rattle.cxx_rules.specs.Parts.{param_found, param_seen, params_behind, initialisers_behind, left_behind, named_behind, left_parts, class_building}
use Rattle.cxx_rules.specs.Summary.{nothing_found, both, seen}
use Rattle.cxx_rules.proofs.FoundLaws.{nothing_both, both_both}
use Rattle.cxx_rules.proofs.GivenLaws.{end_of, next_of, seen_both}

or_false : (a : Bool) → a ≡ (a || false)
or_false true = refl
or_false false = refl

or_swap : (a b c : Bool) → ((a || b) || c) ≡ (b || (a || c))
or_swap true true c = refl
or_swap true false c = refl
or_swap false true c = refl
or_swap false false c = refl

-- texts as good as others
abbrev pub SameTexts : List (List ℕ) → List (List ℕ) → Type 0
SameTexts a b = (q : List ℕ) → has_text q a ≡ has_text q b

or_around : (a b c : Bool) → (a || (b || c)) ≡ (b || (a || c))
or_around true true c = refl
or_around true false c = refl
or_around false b c = refl

has_behind : (q t : List ℕ) (ts : List (List ℕ)) → has_text q (ts ++ t ∷ []) ≡ (bytes_eq t q || has_text q ts)
has_behind q t [] = refl
has_behind q t (u ∷ ts) = ap (λ b. bytes_eq u q || b) (has_behind q t ts) ∙ or_around (bytes_eq u q) (bytes_eq t q) (has_text q ts)

-- a name behind others, or in front of them
seen_same : (p : Param) (a b : List (List ℕ)) → SameTexts a b → SameTexts (param_seen a p) (elim p.name [ None ↦ b | Some n ↦ n.text ∷ b ])
seen_same p a b h q = by p.name
  where
    by : (o : Option Name) → has_text q (elim o [ None ↦ a | Some n ↦ a ++ n.text ∷ [] ]) ≡ has_text q (elim o [ None ↦ b | Some n ↦ n.text ∷ b ])
    by None = h q
    by (Some n) = has_behind q n.text a ∙ ap (λ x. bytes_eq n.text q || x) (h q)

twice_step : (before : List (List ℕ)) (ty : _) (n : Option Name) (ps : List Param) →
    params_twice before (record { ty = ty; name = n } ∷ ps)
    ≡ param_found before (record { ty = ty; name = n }) ++ params_twice (elim n [ None ↦ before | Some n ↦ n.text ∷ before ]) ps
twice_step before ty None ps = refl
twice_step before ty (Some n) ps = refl

found_same : (p : Param) (a b : List (List ℕ)) → SameTexts a b → param_found a p ≡ param_found b p
found_same p a b h = by p.name
  where
    by : (o : Option Name) → param_found a (record p { name = o }) ≡ param_found b (record p { name = o })
    by None = refl
    by (Some n) = ap (λ t. breaks_if t redeclared n.place) (h n.text)

params_so_far : (env : Environment) (f : Found) (a b : List (List ℕ)) (ps : List Param) → SameTexts a b →
    params_behind env f a ps ≡ both f (seen env (params_twice b ps))
params_so_far env f a b [] h = end_of env f
params_so_far env f a b (p ∷ ps) h =
    let next : List (List ℕ) = elim p.name [ None ↦ b | Some n ↦ n.text ∷ b ] in
    params_so_far env (both f (seen env (param_found a p))) (param_seen a p) next ps (seen_same p a b h)
    ∙ ap (λ x. both (both f (seen env x)) (seen env (params_twice next ps))) (found_same p a b h)
    ∙ next_of env f (seen env (param_found b p)) (param_found b p) (params_twice next ps) refl
    ∙ ap (λ xs. both f (seen env xs)) (sym (twice_step b p.ty p.name ps))

pub params_behind_is : (env : Environment) (ps : List Param) → params_behind env nothing_found [] ps ≡ seen env (params_twice [] ps)
params_behind_is env ps = params_so_far env nothing_found [] [] ps (λ q. refl) ∙ nothing_both (seen env (params_twice [] ps))

initialisers_so_far : (env : Environment) (sc : Scope) (c : ClassEntry) (f : Found) (before : List (List ℕ)) (is : List Initialiser) →
    initialisers_behind env sc c f before is ≡ both f (seen env (initialisers_found env sc c before is))
initialisers_so_far env sc c f before [] = end_of env f
initialisers_so_far env sc c f before (i ∷ is) =
    initialisers_so_far env sc c (both f (seen env (initialiser_found env sc c before i))) (i.name.text ∷ before) is
    ∙ next_of env f (seen env (initialiser_found env sc c before i)) (initialiser_found env sc c before i) (initialisers_found env sc c (i.name.text ∷ before) is) refl

pub initialisers_behind_is : (env : Environment) (sc : Scope) (c : ClassEntry) (is : List Initialiser) →
    initialisers_behind env sc c nothing_found [] is ≡ seen env (initialisers_found env sc c [] is)
initialisers_behind_is env sc c is = initialisers_so_far env sc c nothing_found [] is ∙ nothing_both (seen env (initialisers_found env sc c [] is))

-- the names of initialisers in either order
has_named : (q : List ℕ) (before : List (List ℕ)) (is : List Initialiser) → has_text q (named_behind before is) ≡ (has_text q before || has_text q (initialised is))
has_named q before [] = or_false (has_text q before)
has_named q before (i ∷ is) =
    has_named q (i.name.text ∷ before) is ∙ or_swap (bytes_eq i.name.text q) (has_text q before) (has_text q (initialised is))

named_same : (is : List Initialiser) → SameTexts (named_behind [] is) (initialised is)
named_same is q = has_named q [] is

left_so_far : (env : Environment) (place : ℕ) (a b : List (List ℕ)) (f : Found) (fs : List Field) → SameTexts a b →
    left_behind env place a f fs ≡ both f (seen env (left_fields env place b fs))
left_so_far env place a b f [] h = end_of env f
left_so_far env place a b f (x ∷ fs) h =
    ap (λ t. left_behind env place a (both f (seen env (left_part env place t x.kind))) fs) (h x.name.text)
    ∙ left_so_far env place a b (both f (seen env (left_part env place (has_text x.name.text b) x.kind))) fs h
    ∙ next_of env f (seen env (left_part env place (has_text x.name.text b) x.kind)) (left_part env place (has_text x.name.text b) x.kind) (left_fields env place b fs) refl

left_base_same : (env : Environment) (place : ℕ) (a b : List (List ℕ)) (o : Option ℕ) → SameTexts a b → left_base env place a o ≡ left_base env place b o
left_base_same env place a b None h = refl
left_base_same env place a b (Some k) h = ap (λ t. left_part env place t (class_kind k)) (h (class_text env k))

-- the parts of a constructor
building_is : (env : Environment) (sc : Scope) (c : ClassEntry) (fn : Function) →
    both (initialisers_behind env sc c nothing_found [] fn.initialisers) (left_parts env c fn.name.place (named_behind [] fn.initialisers))
    ≡ seen env (class_building env sc c fn)
building_is env sc c fn =
    both_both _ _ _
    ∙ seen_both env _ _ (initialisers_found env sc c [] fn.initialisers ++ left_fields env fn.name.place (initialised fn.initialisers) c.fields)
    (left_base env fn.name.place (initialised fn.initialisers) c.base)
    (seen_both env _ _ (initialisers_found env sc c [] fn.initialisers) (left_fields env fn.name.place (initialised fn.initialisers) c.fields)
    (initialisers_behind_is env sc c fn.initialisers)
    (left_so_far env fn.name.place (named_behind [] fn.initialisers) (initialised fn.initialisers) nothing_found c.fields (named_same fn.initialisers)
    ∙ nothing_both (seen env (left_fields env fn.name.place (initialised fn.initialisers) c.fields))))
    (ap (seen env) (left_base_same env fn.name.place (named_behind [] fn.initialisers) (initialised fn.initialisers) c.base (named_same fn.initialisers)))

pub building_by : (env : Environment) (sc : Scope) (c : ClassEntry) (fn : Function) (first names taken : List (List ℕ)) (a b r : Found) →
    first ≡ [] → a ≡ initialisers_behind env sc c nothing_found first fn.initialisers → names ≡ named_behind first fn.initialisers →
    taken ≡ names → b ≡ left_parts env c fn.name.place taken → r ≡ both a b → r ≡ seen env (class_building env sc c fn)
building_by env sc c fn first names taken a b r e p n t q h =
    h ∙ ap (λ x. both x b) (p ∙ ap (λ f. initialisers_behind env sc c nothing_found f fn.initialisers) e)
    ∙ ap (both (initialisers_behind env sc c nothing_found [] fn.initialisers))
    (q ∙ ap (left_parts env c fn.name.place) (t ∙ n ∙ ap (λ f. named_behind f fn.initialisers) e))
    ∙ building_is env sc c fn
