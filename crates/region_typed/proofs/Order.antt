-- The data members of a class stand in the order of their places, and each name stands once.
use Rattle.std.proofs.Common.{◌≡◌, ◌∙◌, ◌+◌, ◌<◌, ◌≤◌, ◌&&◌, ℕ, nat_lt, Bool, true, false, List, [], ◌∷◌, ◌++◌, map, Option, Some, None, bytes_eq, refl, sym, ap, subst, arith}
use Rattle.std.specs.Prelude.{flat_map}
use Rattle.std.proofs.lemmas.Bool.Decides.{nat_tests}
use Rattle.cxx_ast.specs.declared.name.Name.{Name}
use Rattle.cxx_ast.specs.declared.mark.Mark.TheVariants as sign
use Rattle.cxx_ast.specs.declared.types.Param.{Param}
use Rattle.cxx_ast.specs.Piece.{Piece, named, mark}
use Rattle.cxx_ast.specs.Plain.{Function, Class}
use Rattle.cxx_ast.specs.Rule.{redeclared}
use Rattle.cxx_ast.specs.Finding.{breaks_if}
use Rattle.cxx_ast.specs.Environment.{Field, Environment}
use Rattle.cxx_ast.specs.Declare.{next_class, name_of, field_of, class_entry}
use Rattle.cxx_ast.specs.ClassRules.{is_taken, base_found, field_found, method_names, stands_before, twice_among, specials_found, size_found, method_found, class_rules_found}
use Rattle.cxx_ast.specs.Spelling.{spell_name}
use Rattle.cxx_ast.specs.Written.{Member, data_member, function_member, Written, written_class, written_global, written_function, data_members, spell_params, spell_specification, spell_initialisers, spell_body, in_full, spell_function, spell_members, spell_base, spell_start_value, spell_declarations}
use Rattle.cxx_ast.specs.Grammatical.{Each, There, IsMember, IsGrammatical}
use Rattle.region_formed.proofs.Fine.{Fine, fine_parts, not_broken}
use Rattle.region_formed.proofs.Pieces.{Above, lower, after_name, after_type, after_body, after_specification, after_initialisers, after_params, after_result, after_tilde, after_base, after_start_value}
use Rattle.region_formed.proofs.Places.{places}
use Rattle.region_formed.proofs.Once.{NotBefore, none_before}
use Rattle.region_formed.proofs.Lists.{each_map, each_front}
use Rattle.region_typed.proofs.Initial.{NamesOnce}

-- names stand one behind the other, from n on
abbrev pub Ordered : ℕ → List Name → Type 0
Ordered n [] = Unit {0}
Ordered n (x ∷ names) = (n ≤ x.place) × Ordered (x.place + 1) names

from_lower : (n m : ℕ) (names : List Name) → m ≤ n → Ordered n names → Ordered m names
from_lower n m [] le h = tt
from_lower n m (x ∷ names) le h = let first = h.0 in (omega (arith, le, first), h.1)

function_skipped : (f : Function) (after : List Piece) (n : ℕ) → Above places n (spell_function f after) → Above places n after
function_skipped f after n h =
    let body = spell_body f.body after in
    let tail = spell_specification (in_full f) f.specification (spell_initialisers f.initialisers body) in
    let inner = mark sign.OpenParen ∷ spell_params f.parameters (mark sign.CloseParen ∷ tail) in
    after_body places f.body after n (after_initialisers places f.initialisers body n (after_specification places (in_full f) f.specification (spell_initialisers f.initialisers body) n
    (after_params places f.parameters (mark sign.CloseParen ∷ tail) n (after_name places f.name inner n (after_result places f.kind f.result (named f.name ∷ inner) n h)))))

members_ordered : (ms : List Member) (after : List Piece) (n : ℕ) → Each IsMember ms → Above places n (spell_members ms after) →
    Ordered n (map name_of (data_members ms)) × Above places n after
members_ordered [] after n w h = (tt, h)
members_ordered (data_member x ∷ ms) after n w h =
    go x.name w.0.1 (after_type places x.ty (spell_name x.name (mark sign.Semicolon ∷ spell_members ms after)) n h) (λ m q. members_ordered ms after m w.1 q)
  where
    go : (y : Option Name) → There y → Above places n (spell_name y (mark sign.Semicolon ∷ spell_members ms after)) →
        ((m : ℕ) → Above places m (spell_members ms after) → Ordered m (map name_of (data_members ms)) × Above places m after) →
        Ordered n (name_of (record x { name = y }) ∷ map name_of (data_members ms)) × Above places n after
    go None t q rest = absurd t
    go (Some y) t q rest =
        let r = rest (y.place + 1) q.1 in
        let first = q.0.0 in
        ((first, r.0), lower places after n (y.place + 1) (omega (arith, first)) r.1)
members_ordered (function_member f ∷ ms) after n w h =
    members_ordered ms after n w.1 (function_skipped f (spell_members ms after) n (after_tilde places f.kind (spell_function f (spell_members ms after)) n h))

-- of each class
abbrev pub FieldsOrdered : Written → Type 0
FieldsOrdered (written_class x is_public base ms) = Ordered 0 (map name_of (data_members ms))
FieldsOrdered w = Unit {0}

pub all_ordered : (ws : List Written) (n : ℕ) → Each IsGrammatical ws → Above places n (spell_declarations ws []) → Each FieldsOrdered ws
all_ordered [] n g h = tt
all_ordered (written_class x is_public base ms ∷ ws) n g h =
    let end = mark sign.CloseBrace ∷ mark sign.Semicolon ∷ spell_declarations ws [] in
    let inner = mark sign.OpenBrace ∷ spell_members ms end in
    let r = members_ordered ms end n g.0 (after_base places is_public base inner n (after_name places x (spell_base is_public base inner) n h)) in
    (from_lower n 0 (map name_of (data_members ms)) (omega arith) r.0, all_ordered ws n g.1 r.1)
all_ordered (written_global x s ∷ ws) n g h =
    let rest = spell_declarations ws [] in
    (tt, all_ordered ws n g.1 (after_start_value places s (mark sign.Semicolon ∷ rest) n (after_name places x (spell_start_value s (mark sign.Semicolon ∷ rest)) n h)))
all_ordered (written_function f ∷ ws) n g h = (tt, all_ordered ws n g.1 (function_skipped f (spell_declarations ws []) n h))

-- in order, so none of them twice
differs : (a b : Bool) → (a && b) ≡ false → b ≡ true → a ≡ false
differs true b h e = absurd (cc (sym h ∙ e))
differs false b h e = refl

later_differ : (x : Name) (n : ℕ) (names : List Name) → x.place < n → Ordered n names → Each (λ (y : Name). NotBefore x y) names → Each (λ (y : Name). bytes_eq x.text y.text ≡ false) names
later_differ x n [] less o h = tt
later_differ x n (y ∷ names) less o h =
    let first = o.0 in
    let before : nat_lt x.place y.place ≡ true = grind (arith, nat_tests, less, first) in
    (differs (bytes_eq x.text y.text) (nat_lt x.place y.place) h.0 before, later_differ x (y.place + 1) names (omega (arith, less, first)) o.1 h.1)

names_once : (n : ℕ) (names : List Name) → Ordered n names → Each (λ (y : Name). Each (λ (x : Name). NotBefore x y) names) names → NamesOnce names
names_once n [] o h = tt
names_once n (x ∷ names) o h = (
  later_differ x (x.place + 1) names (omega arith) o.1
      (each_map (λ (y : Name). NotBefore x y × Each (λ (z : Name). NotBefore z y) names) (λ (y : Name). NotBefore x y) (λ y q. q.0) names h.1),
  names_once (x.place + 1) names o.1
      (each_map (λ (y : Name). NotBefore x y × Each (λ (z : Name). NotBefore z y) names) (λ (y : Name). Each (λ (z : Name). NotBefore z y) names) (λ y q. q.1) names h.1),
)

twice_each : (defined : List (List ℕ)) (all names : List Name) → Fine defined (twice_among all names) → Each (λ (n : Name). Each (λ (m : Name). NotBefore m n) all) names
twice_each defined all [] f = tt
twice_each defined all (n ∷ names) f =
    let parts = fine_parts defined (breaks_if (stands_before all n) redeclared n.place) (twice_among all names) f in
    (none_before all n (not_broken defined (stands_before all n) redeclared n.place parts.0), twice_each defined all names parts.1)

entry_names : (env : Environment) (c : Class) (ps : List Param) → map (λ (f : Field). f.name) (map (field_of env c) ps) ≡ map name_of ps
entry_names env c [] = refl
entry_names env c (x ∷ ps) = ap (λ names. name_of x ∷ names) (entry_names env c ps)

-- the data members of a class that breaks no rule
pub fields_once : (defined : List (List ℕ)) (env : Environment) (c : Class) → Fine defined (class_rules_found env c) → Ordered 0 (map name_of c.members) →
    NamesOnce (map (λ (f : Field). f.name) (class_entry env c).fields)
fields_once defined env c f o =
    let fields = map name_of c.members in
    let names = fields ++ method_names c.functions in
    let taken = breaks_if (is_taken env c.name.text) redeclared c.name.place in
    let base = base_found env c c.base in
    let types = flat_map (field_found env c) c.members in
    let specials = specials_found (next_class env) c.name.text [] (class_entry env c).functions in
    let size = size_found (class_entry env c) c.name.place in
    let a = fine_parts defined (taken ++ base ++ types ++ twice_among names names ++ specials ++ size) (flat_map (method_found env c) c.functions) f in
    let b = fine_parts defined (taken ++ base ++ types ++ twice_among names names ++ specials) size a.0 in
    let d = fine_parts defined (taken ++ base ++ types ++ twice_among names names) specials b.0 in
    let all = twice_each defined names names (fine_parts defined (taken ++ base ++ types) (twice_among names names) d.0).1 in
    let own = each_front (λ (n : Name). Each (λ (m : Name). NotBefore m n) names) fields (method_names c.functions) all in
    subst NamesOnce (sym (entry_names env c c.members))
    (names_once 0 fields o (each_map (λ (n : Name). Each (λ (m : Name). NotBefore m n) names) (λ (n : Name). Each (λ (m : Name). NotBefore m n) fields)
    (λ n q. each_front (λ (m : Name). NotBefore m n) fields (method_names c.functions) q) fields own))
