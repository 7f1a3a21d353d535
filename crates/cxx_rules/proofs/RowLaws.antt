-- Variables by their names.
use Rattle.std.proofs.Common.{◌≡◌, ℕ, zero, suc, Bool, true, false, List, [], ◌∷◌, ◌++◌, Option, Some, None, Vec, Bor, option_map, refl, ap, ◌∙◌, cond, bytes_eq, find, take}
use Rattle.std.specs.Map.{lookup}
use Rattle.std.specs.Option.{option_copied}
use Rattle.std.specs.declared.alloc.Global.{Global}
use Rattle.cxx_ast.specs.Environment.{Variable}
use Rattle.cxx_rules.specs.ScopeOf.{variables_of, AreNamed}
use Rattle.cxx_rules.proofs.NameLaws.{bytes_same}

found_by : (q : List ℕ) (k : Vec ℕ Global) (v : Variable) (es : List (Vec ℕ Global × Variable)) (b : Bool) → bytes_eq v.text q ≡ b →
    lookup (λ k. bytes_eq q k.items) es ≡ find (λ v. bytes_eq v.text q) (variables_of es) →
    cond b (Some v) (lookup (λ k. bytes_eq q k.items) es) ≡ cond b (Some v) (find (λ v. bytes_eq v.text q) (variables_of es))
found_by q k v es true e h = refl
found_by q k v es false e h = h

pub named_found : (q : List ℕ) (es : List (Vec ℕ Global × Variable)) → AreNamed es →
    lookup (λ k. bytes_eq q k.items) es ≡ find (λ v. bytes_eq v.text q) (variables_of es)
named_found q [] named = refl
named_found q ((k, v) ∷ es) named =
    ap (λ b. cond b (Some v) (lookup (λ k. bytes_eq q k.items) es)) (bytes_same q k.items ∙ ap (λ t. bytes_eq t q) named.0)
    ∙ found_by q k v es (bytes_eq v.text q) refl (named_found q es named.1)

pub named_push : (k : Vec ℕ Global) (v : Variable) (es : List (Vec ℕ Global × Variable)) → AreNamed es → k.items ≡ v.text → AreNamed (es ++ (k, v) ∷ [])
named_push k v [] named e = (e, tt)
named_push k v (f ∷ es) named e = (named.0, named_push k v es named.1 e)

pub named_take : (n : ℕ) (es : List (Vec ℕ Global × Variable)) → AreNamed es → AreNamed (take n es)
named_take zero es named = tt
named_take (suc n) [] named = tt
named_take (suc n) (e ∷ es) named = (named.0, named_take n es named.1)

pub none_found : (o : Option Variable) → elim o [ None ↦ false | Some v ↦ true ] ≡ false → o ≡ None
none_found None e = refl
none_found (Some v) e = cc

pub copied_is : (o : Option (Bor Variable)) → option_map (λ v. v.now) o ≡ option_copied o
copied_is None = refl
copied_is (Some v) = refl

pub variables_taken : (n : ℕ) (es : List (Vec ℕ Global × Variable)) → variables_of (take n es) ≡ take n (variables_of es)
variables_taken zero es = refl
variables_taken (suc n) [] = refl
variables_taken (suc n) (e ∷ es) = ap (λ vs. e.1 ∷ vs) (variables_taken n es)
