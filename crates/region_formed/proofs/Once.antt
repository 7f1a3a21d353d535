-- A class's name is that of no parameter and no member, since it is declared once only and names stand apart.
use Rattle.std.proofs.Common.{◌≡◌, ◌∙◌, ◌<◌, ◌≤◌, ◌&&◌, ◌||◌, ℕ, Bool, true, false, List, [], ◌∷◌, ◌++◌, map, Option, Some, None, bytes_eq, codes, if◌then◌else◌, refl, sym, ap, ap₂, subst, arith}
use Rattle.std.specs.Prelude.{flat_map, nat_lt}
use Rattle.std.proofs.lemmas.Bool.Decides.{nat_tests}
use Rattle.std.proofs.lemmas.Slice.Eq.{bytes_eq-Decides}
use Rattle.cxx_ast.specs.declared.name.Name.{Name}
use Rattle.cxx_ast.specs.declared.declaration.FuncKind.{FuncKind}
use Rattle.cxx_ast.specs.declared.declaration.FuncKind.TheVariants.{Plain, Method, Constructor, Destructor}
use Rattle.cxx_ast.specs.Rule.{redeclared}
use Rattle.cxx_ast.specs.Finding.{breaks_if}
use Rattle.cxx_ast.specs.Plain.{Function}
use Rattle.cxx_ast.specs.Lookup.{builtin_named}
use Rattle.cxx_ast.specs.FunctionRules.{has_text}
use Rattle.cxx_ast.specs.Declare.{name_of}
use Rattle.cxx_ast.specs.ClassRules.{method_names, stands_before}
use Rattle.cxx_ast.specs.DeclaredNames.{some_name, param_names, body_names, inside_function, names_declared, class_names, is_builtin, once_found, once_only_found}
use Rattle.cxx_ast.specs.Grammatical.{Each, There, IsMember, IsGrammatical}
use Rattle.cxx_ast.specs.Written.{Member, data_member, function_member, Written, written_class, written_global, written_function, data_members, functions, declared}
use Rattle.region_formed.proofs.Fine.{Fine, fine_parts, not_broken}
use Rattle.region_formed.proofs.Programs.{class_texts}
use Rattle.region_formed.proofs.Places.{IsOneWord}
use Rattle.region_formed.proofs.Spelled.{own_names, field_names, class_name, other_names, ProgramPassed}
use Rattle.region_formed.proofs.Lists.{each_map, each_both, each_front, each_back, each_append, flipped, behind_true}

-- a name does not stand before another of the same text
abbrev pub NotBefore : Name → Name → Type 0
NotBefore m n = (bytes_eq m.text n.text && nat_lt m.place n.place) ≡ false

or_false : (a b : Bool) → (a || b) ≡ false → (a ≡ false) × (b ≡ false)
or_false true b h = absurd (cc h)
or_false false b h = (refl, h)

pub none_before : (all : List Name) (n : Name) → stands_before all n ≡ false → Each (λ (m : Name). NotBefore m n) all
none_before [] n h = tt
none_before (m ∷ all) n h =
    let parts = or_false (bytes_eq m.text n.text && nat_lt m.place n.place) (stands_before all n) h in (parts.0, none_before all n parts.1)

-- of two names with one text that stand apart, one stands before the other
text_swap : (a b : List ℕ) → bytes_eq a b ≡ true → bytes_eq b a ≡ true
text_swap a b h = let same : a ≡ b = (bytes_eq-Decides a b).0 h in (bytes_eq-Decides b a).1 (sym same)

pub differ_by : (m n : Name) → NotBefore m n → NotBefore n m → (m.place ≡ n.place → ⊥) → bytes_eq m.text n.text ≡ false
differ_by m n h k apart = go (bytes_eq m.text n.text) refl
  where
    go : (b : Bool) → bytes_eq m.text n.text ≡ b → bytes_eq m.text n.text ≡ false
    go false e = e
    go true e =
        let first : nat_lt m.place n.place ≡ false = sym (ap (λ b. b && nat_lt m.place n.place) e) ∙ h in
        let second : nat_lt n.place m.place ≡ false = sym (ap (λ b. b && nat_lt n.place m.place) (text_swap m.text n.text e)) ∙ k in
        let same : m.place ≡ n.place = grind (arith, nat_tests, first, second) in
        absurd (apart same)

-- what is declared once only
abbrev OnceOnly : List (List ℕ) → List Name → Name → Type 0
OnceOnly special all n = has_text n.text special ≡ true → Each (λ (m : Name). NotBefore m n) all

once_each : (defined special : List (List ℕ)) (all names : List Name) → Fine defined (once_found special all names) → Each (OnceOnly special all) names
once_each defined special all [] f = tt
once_each defined special all (n ∷ names) f =
    let test = if is_builtin (builtin_named n.text) then true else if has_text n.text special then stands_before all n else false in
    let parts = fine_parts defined (breaks_if test redeclared n.place) (once_found special all names) f in
    (go (is_builtin (builtin_named n.text)) (has_text n.text special) refl (not_broken defined test redeclared n.place parts.0), once_each defined special all names parts.1)
  where
    go : (b c : Bool) → has_text n.text special ≡ c → (if b then true else if c then stands_before all n else false) ≡ false → OnceOnly special all n
    go true c e h special_text = absurd (cc h)
    go false true e h special_text = none_before all n h
    go false false e h special_text = absurd (cc (sym e ∙ special_text))

-- the names that are asked about: of data members, of member functions and of parameters
abbrev pub asked_names : Written → List Name
asked_names (written_class x is_public base ms) =
    field_names ms ++ (method_names (functions ms) ++ flat_map (λ (f : Function). param_names f.parameters) (functions ms))
asked_names (written_global x s) = []
asked_names (written_function f) = param_names f.parameters

-- a data member has a name
fields_named : (P : Name → Type 0) (ms : List Member) → Each IsMember ms → Each P (param_names (data_members ms)) → Each P (field_names ms)
fields_named P [] w h = tt
fields_named P (data_member x ∷ ms) w h = go x.name w.0.1 h (fields_named P ms w.1)
  where
    go : (y : Option Name) → There y → Each P (some_name y ++ param_names (data_members ms)) → (Each P (param_names (data_members ms)) → Each P (field_names ms)) →
        P (name_of (record x { name = y })) × Each P (field_names ms)
    go None t k rest = absurd t
    go (Some y) t k rest = (k.0, rest k.1)
fields_named P (function_member f ∷ ms) w h = fields_named P ms w.1 h

inside_params : (P : Name → Type 0) (fs : List Function) → Each P (flat_map inside_function fs) → Each P (flat_map (λ (f : Function). param_names f.parameters) fs)
inside_params P [] h = tt
inside_params P (f ∷ fs) h =
    each_append P (param_names f.parameters) _ (each_front P (param_names f.parameters) (body_names f.body) (each_front P (inside_function f) (flat_map inside_function fs) h))
    (inside_params P fs (each_back P (inside_function f) (flat_map inside_function fs) h))

own_params : (P : Name → Type 0) (fs : List Function) → Each P (flat_map own_names fs) → Each P (flat_map (λ (f : Function). param_names f.parameters) fs)
own_params P [] h = tt
own_params P (f ∷ fs) h =
    each_append P (param_names f.parameters) _ (each_front P (param_names f.parameters) (flat_map own_names fs) h.1)
    (own_params P fs (each_back P (param_names f.parameters) (flat_map own_names fs) h.1))

own_methods : (P : Name → Type 0) (fs : List Function) → Each P (flat_map own_names fs) → Each P (method_names fs)
own_methods P [] h = tt
own_methods P (f ∷ fs) h = go f.kind (own_methods P fs (each_back P (param_names f.parameters) (flat_map own_names fs) h.1))
  where
    go : (k : FuncKind) → Each P (method_names fs) → Each P (elim k [ Method ↦ f.name ∷ method_names fs | _ ↦ method_names fs ])
    go Plain r = r
    go Method r = (h.0, r)
    go Constructor r = r
    go Destructor r = r

-- they are declared
declared_asked : (P : Name → Type 0) (w : Written) → IsGrammatical w → Each P (names_declared (declared w)) → Each P (asked_names w)
declared_asked P (written_class x is_public base ms) g h =
    let fields = param_names (data_members ms) in
    let methods = method_names (functions ms) in
    let inner = flat_map inside_function (functions ms) in
    let front = each_front P (fields ++ methods) inner h.1 in
    each_append P (field_names ms) _ (fields_named P ms g (each_front P fields methods front))
    (each_append P methods _ (each_back P fields methods front) (inside_params P (functions ms) (each_back P (fields ++ methods) inner h.1)))
declared_asked P (written_global x s) g h = tt
declared_asked P (written_function f) g h = each_front P (param_names f.parameters) (body_names f.body) h.1

all_asked : (P : Name → Type 0) (ws : List Written) → Each IsGrammatical ws → Each P (flat_map names_declared (map declared ws)) → Each P (flat_map asked_names ws)
all_asked P [] g h = tt
all_asked P (w ∷ ws) g h =
    each_append P (asked_names w) _ (declared_asked P w g.0 (each_front P (names_declared (declared w)) _ h)) (all_asked P ws g.1 (each_back P (names_declared (declared w)) _ h))

-- and among those that stand apart from classes' names
other_asked : (P : Name → Type 0) (w : Written) → Each P (other_names w) → Each P (asked_names w)
other_asked P (written_class x is_public base ms) h =
    let own = each_back P (field_names ms) (flat_map own_names (functions ms)) h in
    each_append P (field_names ms) _ (each_front P (field_names ms) (flat_map own_names (functions ms)) h)
    (each_append P (method_names (functions ms)) _ (own_methods P (functions ms) own) (own_params P (functions ms) own))
other_asked P (written_global x s) h = tt
other_asked P (written_function f) h = h

others_asked : (P : Name → Type 0) (ws : List Written) → Each P (flat_map other_names ws) → Each P (flat_map asked_names ws)
others_asked P [] h = tt
others_asked P (w ∷ ws) h =
    each_append P (asked_names w) _ (other_asked P w (each_front P (other_names w) _ h)) (others_asked P ws (each_back P (other_names w) _ h))

-- classes' names are declared
all_classes : (P : Name → Type 0) (ws : List Written) → Each P (flat_map names_declared (map declared ws)) → Each P (flat_map class_name ws)
all_classes P [] h = tt
all_classes P (written_class x is_public base ms ∷ ws) h = (h.0, all_classes P ws (each_back P (names_declared (declared (written_class x is_public base ms))) _ h))
all_classes P (written_global x s ∷ ws) h = all_classes P ws h.1
all_classes P (written_function f ∷ ws) h = all_classes P ws (each_back P (names_declared (declared (written_function f))) _ h)

abbrev texts : List Name → List (List ℕ)
texts names = map (λ (x : Name). x.text) names

class_names_are : (ws : List Written) → class_names (map declared ws) ≡ texts (flat_map class_name ws)
class_names_are [] = refl
class_names_are (written_class x is_public base ms ∷ ws) = ap (λ ts. x.text ∷ ts) (class_names_are ws)
class_names_are (written_global x s ∷ ws) = class_names_are ws
class_names_are (written_function f ∷ ws) = class_names_are ws

-- a name that differs from each of some is none of them
no_text : (y : Name) (names : List Name) → Each (λ (n : Name). bytes_eq n.text y.text ≡ false) names → has_text y.text (texts names) ≡ false
no_text y [] h = refl
no_text y (n ∷ names) h = ap₂ (λ a b. a || b) h.0 (no_text y names h.1)

among_texts : (text : List ℕ) (others : List (List ℕ)) (names : List Name) → Each (λ (n : Name). has_text n.text (text ∷ texts names) ≡ true) names
among_texts text others names = go names names (λ t h. behind_true (bytes_eq text t) (has_text t (texts names)) h)
  where
    go : (xs all : List Name) → ((t : List ℕ) → has_text t (texts xs) ≡ true → has_text t (text ∷ texts names) ≡ true) → Each (λ (n : Name). has_text n.text (text ∷ texts names) ≡ true) xs
    go [] all h = tt
    go (n ∷ xs) all h = (
      h n.text (ap (λ b. b || has_text n.text (texts xs)) ((bytes_eq-Decides n.text n.text).1 refl)),
      go xs all (λ t k. h t (behind_true (bytes_eq n.text t) (has_text t (texts xs)) k)),
    )

module _ (defined : List (List ℕ)) (ws : List Written) (g : Each IsGrammatical ws) (passed : ProgramPassed 0 ws) (fine : Fine defined (once_only_found (map declared ws))) where
  abbrev classes : List Name
  classes = flat_map class_name ws

  abbrev asked : List Name
  asked = flat_map asked_names ws

  abbrev all : List Name
  all = flat_map names_declared (map declared ws)

  abbrev special : List (List ℕ)
  special = codes "main" ∷ texts classes

  once : Each (OnceOnly special all) all
  once = subst (λ ts. Each (OnceOnly (codes "main" ∷ ts) all) all) (class_names_are ws)
      (once_each defined (codes "main" ∷ class_names (map declared ws)) all all fine)

  -- no name that is asked about stands before a class's
  not_before_classes : Each (λ (n : Name). Each (λ (y : Name). NotBefore y n × (n.place ≡ y.place → ⊥)) asked) classes
  not_before_classes =
      each_both (λ (n : Name). Each (λ (y : Name). NotBefore y n) asked) (λ (n : Name). Each (λ (y : Name). n.place ≡ y.place → ⊥) asked)
      (λ (n : Name). Each (λ (y : Name). NotBefore y n × (n.place ≡ y.place → ⊥)) asked)
      (λ n h k. each_both (λ (y : Name). NotBefore y n) (λ (y : Name). n.place ≡ y.place → ⊥) (λ (y : Name). NotBefore y n × (n.place ≡ y.place → ⊥)) (λ y a b. (a, b)) asked h k)
      classes
      (each_both (λ (n : Name). has_text n.text special ≡ true) (OnceOnly special all) (λ (n : Name). Each (λ (y : Name). NotBefore y n) asked)
      (λ n t o. all_asked (λ (y : Name). NotBefore y n) ws g (o t)) classes (among_texts (codes "main") [] classes) (all_classes (OnceOnly special all) ws once))
      (each_map (λ (n : Name). Each (λ (y : Name). n.place ≡ y.place → ⊥) (flat_map other_names ws)) (λ (n : Name). Each (λ (y : Name). n.place ≡ y.place → ⊥) asked)
      (λ n h. others_asked (λ (y : Name). n.place ≡ y.place → ⊥) ws h) classes passed.apart)

  -- it is none of them
  stranger : (y : Name) → OnceOnly special all y → Each (λ (n : Name). NotBefore y n × (n.place ≡ y.place → ⊥)) classes → has_text y.text (texts classes) ≡ false
  stranger y o h = go (has_text y.text (texts classes)) refl
    where
      go : (b : Bool) → has_text y.text (texts classes) ≡ b → has_text y.text (texts classes) ≡ false
      go false e = e
      go true e =
          no_text y classes (each_both (λ (n : Name). NotBefore n y) (λ (n : Name). NotBefore y n × (n.place ≡ y.place → ⊥)) (λ (n : Name). bytes_eq n.text y.text ≡ false)
          (λ n a b. differ_by n y a b.0 b.1) classes (all_classes (λ (n : Name). NotBefore n y) ws (o (behind_true (bytes_eq (codes "main") y.text) (has_text y.text (texts classes)) e))) h)

  swap_false : (a b : List ℕ) → bytes_eq a b ≡ false → bytes_eq b a ≡ false
  swap_false a b h = go (bytes_eq b a) refl
    where
      go : (x : Bool) → bytes_eq b a ≡ x → bytes_eq b a ≡ false
      go false e = e
      go true e = absurd (cc (sym (text_swap b a e) ∙ h))

  pub strangers : Each (λ (y : Name). has_text y.text (class_texts (map declared ws)) ≡ false) asked
  strangers =
      subst (λ ts. Each (λ (y : Name). has_text y.text (codes "std::bad_exception" ∷ ts) ≡ false) asked) (sym (class_names_are ws))
      (each_both (λ (y : Name). has_text y.text (texts classes) ≡ false) (λ (y : Name). (0 ≤ y.place) × (y.place < passed.bound) × IsOneWord y.text)
      (λ (y : Name). has_text y.text (codes "std::bad_exception" ∷ texts classes) ≡ false)
      (λ y a b. ap₂ (λ u v. u || v) (swap_false y.text (codes "std::bad_exception") b.2) a) asked
      (each_both (OnceOnly special all) (λ (y : Name). Each (λ (n : Name). NotBefore y n × (n.place ≡ y.place → ⊥)) classes) (λ (y : Name). has_text y.text (texts classes) ≡ false)
      (λ y o h. stranger y o h) asked (all_asked (OnceOnly special all) ws g once)
      (flipped (λ (n y : Name). NotBefore y n × (n.place ≡ y.place → ⊥)) classes asked not_before_classes))
      (others_asked (λ (y : Name). (0 ≤ y.place) × (y.place < passed.bound) × IsOneWord y.text) ws passed.others))
