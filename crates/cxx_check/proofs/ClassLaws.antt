-- Classes part by part.
use Rattle.std.proofs.Common.{◌≡◌, ℕ, Bool, if◌then◌else◌, List, [], ◌++◌, Option, Some, None, refl, ap, ◌∙◌, sym, map, flat_map, append_assoc}
use Rattle.cxx_ast.specs.declared.name.Name.{Name}
use Rattle.cxx_ast.specs.Plain.{Class, Function, class_declaration}
use Rattle.cxx_ast.specs.declared.name.Bound.TheVariants.{Free}
use Rattle.cxx_ast.specs.Environment.{Field, Signature, ClassEntry, Environment, Scope, class_thing}
use Rattle.cxx_ast.specs.Resolve.{resolve_function}
use Rattle.cxx_ast.specs.Finding.{breaks_if}
use Rattle.cxx_ast.specs.Rule.{redeclared}
use Rattle.cxx_ast.specs.ClassRules.{is_taken, base_found, field_found, method_found, twice_among, specials_found, size_found, class_rules_found}
use Rattle.cxx_ast.specs.Declare.{with_class, next_class, with_class_name, base_number, head_environment, head_scope, class_entry, declare_behind, function_scope}
use Rattle.cxx_ast.specs.FunctionRules.{function_found, body_found, definition_found}
use Rattle.cxx_check.specs.ClassParts.{base_in, base_number_in, bare_class, field_in, field_of_in, method_head_in, method_of_in, entry_in, heads_found, method_inside}
use Rattle.cxx_check.specs.FunctionParts.{head_found, inside_scope, inside_found}
use Rattle.cxx_check.specs.OwnParts.{own_found, part_names}
use Rattle.cxx_rules.specs.declared.found.Found.{Found}
use Rattle.cxx_rules.specs.Known.{front_of}
use Rattle.cxx_rules.specs.Summary.{both, seen, broken_at, nothing_found}
use Rattle.cxx_rules.proofs.FoundLaws.{summary_append, summary_if, both_both}
use Rattle.cxx_check.proofs.KnownLaws.{seen_alike, name_definitions, name_classes, front_kept, entry_alike}
use Rattle.cxx_check.proofs.OrderLaws.{moved_behind, parted}

base_number_is : (env : Environment) (c : Class) (b : Option Name) → base_number env (record c { base = b }) ≡ base_number_in (with_class_name env c) (next_class env) b
base_number_is env c None = refl
base_number_is env c (Some b) = refl

base_found_is : (env : Environment) (c : Class) (b : Option Name) → base_in (with_class_name env c) (next_class env) b ≡ base_found env c b
base_found_is env c None = refl
base_found_is env c (Some b) = refl

-- a class that was added and left again
pub without_added : (known : Environment) (e : ClassEntry) → record (with_class known e) { classes = front_of (with_class known e).classes } ≡ known
without_added known e = ap (λ cs. record known { classes = cs }) (front_kept known.classes e)

-- the head of a class makes its parts known
pub head_is : (env : Environment) (c : Class) (known : Environment) (k : ℕ) (base : Option ℕ) →
    known ≡ with_class_name env c → k ≡ next_class env → base ≡ base_number_in known k c.base → with_class known (bare_class base c) ≡ head_environment env c
head_is env c known k base e f g =
    ap (λ x. with_class x (bare_class base c)) e
    ∙ ap (λ b. with_class (with_class_name env c) (bare_class b c))
    (g ∙ ap (λ x. base_number_in x k c.base) e ∙ ap (λ x. base_number_in (with_class_name env c) x c.base) f ∙ sym (base_number_is env c c.base))

-- what is known of the class
pub entry_is : (env : Environment) (c : Class) (known : Environment) (inside : Environment) (k : ℕ) (base : Option ℕ) (fs : List Field) (ss : List Signature) (text : List ℕ) →
    known ≡ with_class_name env c → inside ≡ head_environment env c → k ≡ next_class env → base ≡ base_number_in known k c.base →
    fs ≡ map (field_of_in inside k) c.members → ss ≡ map (method_of_in inside k) c.functions → text ≡ c.name.text →
    entry_in known k base fs ss text ≡ class_entry env c
entry_is env c known inside k base fs ss text e i f g h j t =
    let N = with_class_name env c in
    let H = head_environment env c in
    let n = next_class env in
    let b = g ∙ ap (λ x. base_number_in x k c.base) e ∙ ap (λ x. base_number_in N x c.base) f ∙ sym (base_number_is env c c.base) in
    let fields = h ∙ ap (λ x. map (field_of_in x k) c.members) i ∙ ap (λ x. map (field_of_in H x) c.members) f in
    let functions = j ∙ ap (λ x. map (method_of_in x k) c.functions) i ∙ ap (λ x. map (method_of_in H x) c.functions) f in
    ap (λ x. entry_in x k base fs ss text) e ∙ ap (λ x. entry_in N x base fs ss text) f ∙ ap (λ x. entry_in N n x fs ss text) b
    ∙ ap (λ x. entry_in N n (base_number env c) x ss text) fields
    ∙ ap (λ x. entry_in N n (base_number env c) (map (field_of_in H n) c.members) x text) functions
    ∙ ap (entry_in N n (base_number env c) (map (field_of_in H n) c.members) (map (method_of_in H n) c.functions)) t
    ∙ entry_alike N env n (base_number env c) (map (field_of_in H n) c.members) (map (method_of_in H n) c.functions) c.name.text (name_classes env c.name.text (class_thing n))

-- what the heads of a class break
pub heads_are : (env : Environment) (c : Class) (known inside : Environment) (k : ℕ) (a m f r : Found) →
    known ≡ with_class_name env c → inside ≡ head_environment env c → k ≡ next_class env →
    a ≡ seen known (base_in known k c.base) → m ≡ seen inside (flat_map (field_in inside k) c.members) →
    f ≡ seen inside (flat_map (method_head_in inside k) c.functions) → r ≡ both (both a m) f → r ≡ seen env (heads_found env c)
heads_are env c known inside k a m f r e i g x y z w =
    let N = with_class_name env c in
    let H = head_environment env c in
    let n = next_class env in
    let d = env.definitions in
    let N-known = name_definitions env c.name.text (class_thing n) in
    let base = x ∙ ap (λ v. seen v (base_in v k c.base)) e ∙ ap (λ v. seen N (base_in N v c.base)) g ∙ ap (seen N) (base_found_is env c c.base) ∙ seen_alike N env (base_found env c c.base) N-known in
    let fields = y ∙ ap (λ v. seen v (flat_map (field_in v k) c.members)) i ∙ ap (λ v. seen H (flat_map (field_in H v) c.members)) g ∙ seen_alike H env (flat_map (field_found env c) c.members) N-known in
    let functions = z ∙ ap (λ v. seen v (flat_map (method_head_in v k) c.functions)) i ∙ ap (λ v. seen H (flat_map (method_head_in H v) c.functions)) g
    ∙ seen_alike H env (flat_map (λ f. head_found H (head_scope env f.name) f) c.functions) N-known in
    w ∙ ap (λ v. both (both v m) f) base ∙ ap (λ v. both (both (seen env (base_found env c c.base)) v) f) fields
    ∙ ap (λ v. both v f) (sym (summary_append d (base_found env c c.base) (flat_map (field_found env c) c.members)))
    ∙ ap (both (seen env (base_found env c c.base ++ flat_map (field_found env c) c.members))) functions
    ∙ sym (summary_append d (base_found env c c.base ++ flat_map (field_found env c) c.members) (flat_map (λ f. head_found H (head_scope env f.name) f) c.functions))

-- a function by its head and by what stands behind it
pub function_parts : (env head : Environment) (place : Scope) (known : Environment) (own : Option ℕ) (f : Function) →
    seen env (function_found head place known own f) ≡ both (seen env (head_found head place f)) (seen env (inside_found head place known own f))
function_parts env head place known own f =
    let sc = function_scope known own f.result in
    ap (seen env) (append_assoc (head_found head place f) (body_found known (inside_scope known own f) own f f.body) (definition_found known (resolve_function head place known sc Free f) f.body))
    ∙ summary_append env.definitions (head_found head place f) (inside_found head place known own f)

regroup : (t b f hd w s z i : Found) → both (both (both t (both (both b f) hd)) (both (both w s) z)) i ≡ both (both (both (both (both (both t b) f) w) s) z) (both hd i)
regroup t b f hd w s z i =
    let p = both (both t b) f in
    let q = both (both w s) z in
    ap (λ x. both (both x q) i) (both_both t (both b f) hd ∙ ap (λ x. both x hd) (both_both t b f))
    ∙ ap (λ x. both x i) (moved_behind p hd q)
    ∙ sym (both_both (both p q) hd i)
    ∙ ap (λ x. both x (both hd i)) (both_both p (both w s) z ∙ ap (λ x. both x z) (both_both p w s))

-- a class, whose heads were walked before what stands behind them
pub class_is : (env : Environment) (c : Class) (t h o b r : Found) →
    t ≡ seen env (breaks_if (is_taken env c.name.text) redeclared c.name.place) → h ≡ seen env (heads_found env c) →
    o ≡ seen env (own_found (next_class env) c (class_entry env c)) → b ≡ seen env (flat_map (method_inside env c) c.functions) →
    r ≡ both (both (both t h) o) b → r ≡ seen env (class_rules_found env c)
class_is env c t h o b r e f g i w =
    let d = env.definitions in
    let T = breaks_if (is_taken env c.name.text) redeclared c.name.place in
    let B = base_found env c c.base in
    let F = flat_map (field_found env c) c.members in
    let heads = λ (f : Function). head_found (head_environment env c) (head_scope env f.name) f in
    let D = flat_map heads c.functions in
    let W = twice_among (part_names c) (part_names c) in
    let S = specials_found (next_class env) c.name.text [] (class_entry env c).functions in
    let Z = size_found (class_entry env c) c.name.place in
    let I = flat_map (method_inside env c) c.functions in
    let M = flat_map (method_found env c) c.functions in
    let whole = parted env (method_found env c) heads (method_inside env c)
    (λ f. function_parts env (head_environment env c) (head_scope env f.name) (declare_behind env (class_declaration c)) (Some (next_class env)) f) c.functions in
    w ∙ ap (λ x. both (both (both x h) o) b) e ∙ ap (λ x. both (both (both (seen env T) x) o) b) (f ∙ summary_append d (B ++ F) D ∙ ap (λ x. both x (seen env D)) (summary_append d B F))
    ∙ ap (λ x. both (both (both (seen env T) (both (both (seen env B) (seen env F)) (seen env D))) x) b) (g ∙ summary_append d (W ++ S) Z ∙ ap (λ x. both x (seen env Z)) (summary_append d W S))
    ∙ ap (both (both (both (seen env T) (both (both (seen env B) (seen env F)) (seen env D))) (both (both (seen env W) (seen env S)) (seen env Z)))) i
    ∙ regroup (seen env T) (seen env B) (seen env F) (seen env D) (seen env W) (seen env S) (seen env Z) (seen env I)
    ∙ ap (both (both (both (both (both (both (seen env T) (seen env B)) (seen env F)) (seen env W)) (seen env S)) (seen env Z))) (sym whole)
    ∙ sym (summary_append d (T ++ B ++ F ++ W ++ S ++ Z) M
    ∙ ap (λ x. both x (seen env M)) (summary_append d (T ++ B ++ F ++ W ++ S) Z
    ∙ ap (λ x. both x (seen env Z)) (summary_append d (T ++ B ++ F ++ W) S
    ∙ ap (λ x. both x (seen env S)) (summary_append d (T ++ B ++ F) W
    ∙ ap (λ x. both x (seen env W)) (summary_append d (T ++ B) F
    ∙ ap (λ x. both x (seen env F)) (summary_append d T B))))))

-- a name that is taken
pub taken_is : (env : Environment) (n : Name) (text : List ℕ) (b : Bool) (f : Found) → text ≡ n.text → b ≡ is_taken env text →
    f ≡ (if b then broken_at redeclared n.place else nothing_found) → f ≡ seen env (breaks_if (is_taken env n.text) redeclared n.place)
taken_is env n text b f e g h =
    h ∙ sym (summary_if env.definitions b redeclared n.place) ∙ ap (λ x. seen env (breaks_if x redeclared n.place)) (g ∙ ap (is_taken env) e)
