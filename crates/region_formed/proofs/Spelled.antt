-- The names that a program declares stand apart.
use Rattle.std.proofs.Common.{◌≡◌, ◌+◌, ◌<◌, ◌≤◌, ℕ, List, [], ◌∷◌, ◌++◌, map, Option, Some, None, sym, arith}
use Rattle.std.specs.Prelude.{flat_map}
use Rattle.cxx_ast.specs.declared.name.Name.{Name}
use Rattle.cxx_ast.specs.declared.types.Param.{Param}
use Rattle.cxx_ast.specs.declared.mark.Mark.TheVariants as sign
use Rattle.cxx_ast.specs.Plain.{Function}
use Rattle.cxx_ast.specs.Piece.{Piece, named, mark}
use Rattle.cxx_ast.specs.Spelling.{spell_name, spell_param}
use Rattle.cxx_ast.specs.Declare.{name_of}
use Rattle.cxx_ast.specs.DeclaredNames.{some_name, param_names}
use Rattle.cxx_ast.specs.Grammatical.{Each, There, IsMember, IsGrammatical}
use Rattle.cxx_ast.specs.Written.{Member, data_member, function_member, Written, written_class, written_global, written_function, data_members, functions, spell_more_params, spell_params, spell_specification, spell_initialisers, spell_body, in_full, spell_function, spell_members, spell_base, spell_start_value, spell_declaration, spell_declarations}
use Rattle.region_formed.proofs.Pieces.{Above, after_name, after_type, after_specification, after_initialisers, after_body, after_result, after_tilde, after_base, after_start_value}
use Rattle.region_formed.proofs.Places.{places, IsOneWord}

-- names that stand from n on and before m, and are of one word
abbrev pub Between : ℕ → ℕ → List Name → Type 0
Between n m names = Each (λ (x : Name). (n ≤ x.place) × (x.place < m) × IsOneWord x.text) names

wider : (n m a b : ℕ) → a ≤ n → m ≤ b → (names : List Name) → Between n m names → Between a b names
wider n m a b le ge [] h = tt
wider n m a b le ge (x ∷ names) h =
    let first = h.0.0 in let last = h.0.1 in ((omega (arith, le, first), omega (arith, ge, last), h.0.2), wider n m a b le ge names h.1)

both_between : (n m : ℕ) (xs ys : List Name) → Between n m xs → Between n m ys → Between n m (xs ++ ys)
both_between n m [] ys h k = k
both_between n m (x ∷ xs) ys h k = (h.0, both_between n m xs ys h.1 k)

-- names stand up to a bound, and what is behind them from it on
record Passed (n : ℕ) (names : List Name) (after : List Piece) : Type 0 where
  bound : ℕ
  le : n ≤ bound
  between : Between n bound names
  rest : Above places bound after

no_names : (n : ℕ) (after : List Piece) → Above places n after → Passed n [] after
no_names n after h = record { bound = n; le = omega arith; between = tt; rest = h }

one_name : (n : ℕ) (x : Name) (after : List Piece) → Above places n (named x ∷ after) → Passed n (x ∷ []) after
one_name n x after h =
    let first = h.0.0 in
    record { bound = x.place + 1; le = omega (arith, first); between = ((first, omega arith, h.0.1), tt); rest = h.1 }

then_names : (n : ℕ) (xs ys : List Name) (middle after : List Piece) → Passed n xs middle → ((m : ℕ) → Above places m middle → Passed m ys after) → Passed n (xs ++ ys) after
then_names n xs ys middle after h k =
    let r = k h.bound h.rest in
    let first = h.le in
    let second = r.le in
    record {
      bound = r.bound;
      le = omega (arith, first, second);
      between = both_between n r.bound xs ys (wider n h.bound n r.bound (omega arith) second xs h.between)
          (wider h.bound r.bound n r.bound first (omega arith) ys r.between);
      rest = r.rest;
    }

-- a parameter, and parameters
param_passed : (p : Param) (after : List Piece) (n : ℕ) → Above places n (spell_param p after) → Passed n (some_name p.name) after
param_passed p after n h = go p.name (after_type places p.ty (spell_name p.name after) n h)
  where
    go : (x : Option Name) → Above places n (spell_name x after) → Passed n (some_name x) after
    go None q = no_names n after q
    go (Some x) q = one_name n x after q

more_params_passed : (ps : List Param) (after : List Piece) (n : ℕ) → Above places n (spell_more_params ps after) → Passed n (param_names ps) after
more_params_passed [] after n h = no_names n after h
more_params_passed (p ∷ ps) after n h =
    then_names n (some_name p.name) (param_names ps) (spell_more_params ps after) after (param_passed p (spell_more_params ps after) n h)
    (λ m q. more_params_passed ps after m q)

params_passed : (ps : List Param) (after : List Piece) (n : ℕ) → Above places n (spell_params ps after) → Passed n (param_names ps) after
params_passed [] after n h = no_names n after h
params_passed (p ∷ ps) after n h =
    then_names n (some_name p.name) (param_names ps) (spell_more_params ps after) after (param_passed p (spell_more_params ps after) n h)
    (λ m q. more_params_passed ps after m q)

-- a function: its name and those of its parameters
abbrev pub own_names : Function → List Name
own_names f = f.name ∷ param_names f.parameters

function_passed : (f : Function) (after : List Piece) (n : ℕ) → Above places n (spell_function f after) → Passed n (own_names f) after
function_passed f after n h =
    let body = spell_body f.body after in
    let tail = spell_specification (in_full f) f.specification (spell_initialisers f.initialisers body) in
    let inner = mark sign.OpenParen ∷ spell_params f.parameters (mark sign.CloseParen ∷ tail) in
    then_names n (f.name ∷ []) (param_names f.parameters) inner after (one_name n f.name inner (after_result places f.kind f.result (named f.name ∷ inner) n h))
    (λ m q.
    let ps = params_passed f.parameters (mark sign.CloseParen ∷ tail) m q in
    record {
      bound = ps.bound;
      le = ps.le;
      between = ps.between;
      rest = after_body places f.body after ps.bound (after_initialisers places f.initialisers body ps.bound (after_specification places (in_full f) f.specification (spell_initialisers f.initialisers body) ps.bound ps.rest));
    })

-- no name of the one list stands where one of the other does
abbrev pub Apart : List Name → List Name → Type 0
Apart xs ys = Each (λ (x : Name). Each (λ (y : Name). x.place ≡ y.place → ⊥) ys) xs

apart_by : (n m a b : ℕ) (xs ys : List Name) → m ≤ a → Between n m xs → Between a b ys → Apart xs ys
apart_by n m a b [] ys le h k = tt
apart_by n m a b (x ∷ xs) ys le h k = (one ys k, apart_by n m a b xs ys le h.1 k)
  where
    one : (ys : List Name) → Between a b ys → Each (λ (y : Name). x.place ≡ y.place → ⊥) ys
    one [] k = tt
    one (y ∷ ys) k = let first = h.0.1 in let last = k.0.0 in ((λ e. omega (arith, e, first, last, le)), one ys k.1)

apart_flip : (xs ys : List Name) → Apart xs ys → Apart ys xs
apart_flip xs [] h = tt
apart_flip xs (y ∷ ys) h = (one xs h, apart_flip xs ys (less xs h))
  where
    one : (xs : List Name) → Apart xs (y ∷ ys) → Each (λ (x : Name). y.place ≡ x.place → ⊥) xs
    one [] h = tt
    one (x ∷ xs) h = ((λ e. h.0.0 (sym e)), one xs h.1)

    less : (xs : List Name) → Apart xs (y ∷ ys) → Apart xs ys
    less [] h = tt
    less (x ∷ xs) h = (h.0.1, less xs h.1)

apart_right : (xs ys zs : List Name) → Apart xs ys → Apart xs zs → Apart xs (ys ++ zs)
apart_right [] ys zs h k = tt
apart_right (x ∷ xs) ys zs h k = (one ys h.0, apart_right xs ys zs h.1 k.1)
  where
    one : (ys : List Name) → Each (λ (y : Name). x.place ≡ y.place → ⊥) ys → Each (λ (y : Name). x.place ≡ y.place → ⊥) (ys ++ zs)
    one [] h = k.0
    one (y ∷ ys) h = (h.0, one ys h.1)

apart_left : (xs ys zs : List Name) → Apart xs zs → Apart ys zs → Apart (xs ++ ys) zs
apart_left [] ys zs h k = k
apart_left (x ∷ xs) ys zs h k = (h.0, apart_left xs ys zs h.1 k)

-- the members of a class: its data members, its functions by name, and all names that they have
abbrev pub field_names : List Member → List Name
field_names ms = map name_of (data_members ms)

abbrev pub function_names : List Member → List Name
function_names ms = map (λ (f : Function). f.name) (functions ms)

abbrev pub all_names : List Member → List Name
all_names ms = field_names ms ++ flat_map own_names (functions ms)

record MembersPassed (n : ℕ) (ms : List Member) (after : List Piece) : Type 0 where
  bound : ℕ
  le : n ≤ bound
  fields : Between n bound (field_names ms)
  functions_between : Between n bound (flat_map own_names (functions ms))
  apart : Apart (field_names ms) (function_names ms)
  rest : Above places bound after

field_passed : (x : Param) (after : List Piece) (n : ℕ) → There x.name → Above places n (spell_param x after) → Passed n (name_of x ∷ []) after
field_passed x after n t h = go x.name t (after_type places x.ty (spell_name x.name after) n h)
  where
    go : (y : Option Name) → There y → Above places n (spell_name y after) → Passed n (name_of (record x { name = y }) ∷ []) after
    go None t q = absurd t
    go (Some y) t q = one_name n y after q

-- the names of functions are among theirs
names_among : (n m : ℕ) (fs : List Function) → Between n m (flat_map own_names fs) → Between n m (map (λ (f : Function). f.name) fs)
names_among n m [] h = tt
names_among n m (f ∷ fs) h = (h.0, names_among n m fs (rest (param_names f.parameters) h.1))
  where
    rest : (xs : List Name) → Between n m (xs ++ flat_map own_names fs) → Between n m (flat_map own_names fs)
    rest [] k = k
    rest (x ∷ xs) k = rest xs k.1

members_passed : (ms : List Member) (after : List Piece) (n : ℕ) → Each IsMember ms → Above places n (spell_members ms after) → MembersPassed n ms after
members_passed [] after n w h = record { bound = n; le = omega arith; fields = tt; functions_between = tt; apart = tt; rest = h }
members_passed (data_member x ∷ ms) after n w h =
    let f = field_passed x (mark sign.Semicolon ∷ spell_members ms after) n w.0.1 h in
    let r = members_passed ms after f.bound w.1 f.rest in
    let first = f.le in
    let second = r.le in
    record {
      bound = r.bound;
      le = omega (arith, first, second);
      fields = ((wider n f.bound n r.bound (omega arith) second (name_of x ∷ []) f.between).0, wider f.bound r.bound n r.bound first (omega arith) (field_names ms) r.fields);
      functions_between = wider f.bound r.bound n r.bound first (omega arith) (flat_map own_names (functions ms)) r.functions_between;
      apart = ((apart_by n f.bound f.bound r.bound (name_of x ∷ []) (function_names ms) (omega arith) f.between (names_among f.bound r.bound (functions ms) r.functions_between)).0, r.apart);
      rest = r.rest;
    }
members_passed (function_member x ∷ ms) after n w h =
    let f = function_passed x (spell_members ms after) n (after_tilde places x.kind (spell_function x (spell_members ms after)) n h) in
    let r = members_passed ms after f.bound w.1 f.rest in
    let first = f.le in
    let second = r.le in
    record {
      bound = r.bound;
      le = omega (arith, first, second);
      fields = wider f.bound r.bound n r.bound first (omega arith) (field_names ms) r.fields;
      functions_between = both_between n r.bound (own_names x) (flat_map own_names (functions ms)) (wider n f.bound n r.bound (omega arith) second (own_names x) f.between)
          (wider f.bound r.bound n r.bound first (omega arith) (flat_map own_names (functions ms)) r.functions_between);
      apart = apart_right (field_names ms) (x.name ∷ []) (function_names ms)
          (apart_flip (x.name ∷ []) (field_names ms) (apart_by n f.bound f.bound r.bound (x.name ∷ []) (field_names ms) (omega arith) (f.between.0, tt) r.fields)) r.apart;
      rest = r.rest;
    }

-- the classes of a program by name, and all other names of its classes' members and of its functions' parameters
abbrev pub class_name : Written → List Name
class_name (written_class x is_public base ms) = x ∷ []
class_name (written_global x s) = []
class_name (written_function f) = []

abbrev pub other_names : Written → List Name
other_names (written_class x is_public base ms) = all_names ms
other_names (written_global x s) = []
other_names (written_function f) = param_names f.parameters

-- a declaration: a class's data members have names of no member function
abbrev pub MembersApart : Written → Type 0
MembersApart (written_class x is_public base ms) = Apart (field_names ms) (function_names ms)
MembersApart w = Unit {0}

record DeclarationPassed (n : ℕ) (w : Written) (after : List Piece) : Type 0 where
  bound : ℕ
  le : n ≤ bound
  class : Between n bound (class_name w)
  others : Between n bound (other_names w)
  apart : Apart (class_name w) (other_names w)
  members : MembersApart w
  rest : Above places bound after

declaration_passed : (w : Written) (after : List Piece) (n : ℕ) → IsGrammatical w → Above places n (spell_declaration w after) → DeclarationPassed n w after
declaration_passed (written_class x is_public base ms) after n g h =
    let end = mark sign.CloseBrace ∷ mark sign.Semicolon ∷ after in
    let inner = mark sign.OpenBrace ∷ spell_members ms end in
    let c = one_name n x (spell_base is_public base inner) h in
    let r = members_passed ms end c.bound g (after_base places is_public base inner c.bound c.rest) in
    let first = c.le in
    let second = r.le in
    let others = both_between c.bound r.bound (field_names ms) (flat_map own_names (functions ms)) r.fields r.functions_between in
    record {
      bound = r.bound;
      le = omega (arith, first, second);
      class = wider n c.bound n r.bound (omega arith) second (x ∷ []) c.between;
      others = wider c.bound r.bound n r.bound first (omega arith) (all_names ms) others;
      apart = apart_by n c.bound c.bound r.bound (x ∷ []) (all_names ms) (omega arith) c.between others;
      members = r.apart;
      rest = r.rest;
    }
declaration_passed (written_global x s) after n g h = record {
  bound = n;
  le = omega arith;
  class = tt;
  others = tt;
  apart = tt;
  members = tt;
  rest = after_start_value places s (mark sign.Semicolon ∷ after) n (after_name places x (spell_start_value s (mark sign.Semicolon ∷ after)) n h);
}
declaration_passed (written_function f) after n g h =
    let r = function_passed f after n h in
    record { bound = r.bound; le = r.le; class = tt; others = r.between.1; apart = tt; members = tt; rest = r.rest }

-- all declarations
pub record ProgramPassed (n : ℕ) (ws : List Written) : Type 0 where
  pub bound : ℕ
  pub le : n ≤ bound
  pub classes : Between n bound (flat_map class_name ws)
  pub others : Between n bound (flat_map other_names ws)
  pub apart : Apart (flat_map class_name ws) (flat_map other_names ws)
  pub members : Each MembersApart ws

pub program_passed : (ws : List Written) (n : ℕ) → Each IsGrammatical ws → Above places n (spell_declarations ws []) → ProgramPassed n ws
program_passed [] n g h = record { bound = n; le = omega arith; classes = tt; others = tt; apart = tt; members = tt }
program_passed (w ∷ ws) n g h =
    let d = declaration_passed w (spell_declarations ws []) n g.0 h in
    let r = program_passed ws d.bound g.1 d.rest in
    let first = d.le in
    let second = r.le in
    let own = class_name w in
    let more = flat_map class_name ws in
    let names = other_names w in
    let further = flat_map other_names ws in
    record {
      bound = r.bound;
      le = omega (arith, first, second);
      classes = both_between n r.bound own more (wider n d.bound n r.bound (omega arith) second own d.class) (wider d.bound r.bound n r.bound first (omega arith) more r.classes);
      others = both_between n r.bound names further (wider n d.bound n r.bound (omega arith) second names d.others) (wider d.bound r.bound n r.bound first (omega arith) further r.others);
      apart = apart_left own more (names ++ further)
          (apart_right own names further d.apart (apart_by n d.bound d.bound r.bound own further (omega arith) d.class r.others))
          (apart_right more names further (apart_flip names more (apart_by n d.bound d.bound r.bound names more (omega arith) d.others r.classes)) r.apart);
      members = (d.members, r.members);
    }
