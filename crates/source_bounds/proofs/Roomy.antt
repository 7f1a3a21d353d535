-- How many bytes the functions of a program take at most beside their words: for each token at most 256.
use Rattle.std.proofs.Common.{◌≡◌, ℕ, zero, suc, ◌+◌, ◌-◌, ◌*◌, ◌≤◌, ◌==◌, Bool, true, false, List, [], ◌∷◌, ◌++◌, map, length, Option, Some, None, if◌then◌else◌, refl, arith}
use Rattle.std.proofs.lemmas.List.{length-append, length-map}
use Rattle.std.specs.List.{AllByRecursion}
use Rattle.std.specs.Prelude.{nat_lt}
use Rattle.cxx_ast.specs.declared.declaration.FuncKind.{FuncKind}
use Rattle.cxx_ast.specs.declared.declaration.FuncKind.TheVariants.{Plain, Method, Constructor, Destructor}
use Rattle.cxx_ast.specs.Plain.{Function, Class, Checked, Specification, listed, noexcept}
use Rattle.cxx_ast.specs.Checked.{IsChecked}
use Rattle.meaning_forms.specs.Class.{class_at, no_class, parts_of, base_part, member_part}
use Rattle.region_forms.specs.Form.{RegionFunction}
use Rattle.region_forms.specs.Layout.{Layout, class_parts}
use Rattle.region_forms.specs.Numbering.{variables_of, type_rows}
use Rattle.region_forms.specs.LowerProgram.{lowering, copied_type, some_constructor, declared_function, implicit_default_function, implicit_copy_function, implicit_destructor_function, own_functions, functions_of_class, functions_of_classes, regions_of}
use Rattle.class_layout.specs.Fit.{CheckedClassesFit}
use Rattle.source_bounds.specs.LeastTokens.{initialisers_tokens, parameters_tokens, specification_tokens, function_tokens, functions_tokens, base_tokens, class_tokens, classes_tokens}
use Rattle.source_bounds.specs.NamedTypes.{FunctionNamesRows}
use Rattle.source_bounds.specs.RegionWords.{region_words, HasFewWays}
use Rattle.source_bounds.specs.TableWeights.{sites_in, guards_in, chain_weight}
use Rattle.source_bounds.proofs.Functions.{extra_words, whole_body, default_whole, copy_whole, destructor_whole}
use Rattle.source_bounds.proofs.Rows.{checked_named}
use Rattle.source_bounds.proofs.Parts.{checked_parts}
use Rattle.source_bounds.proofs.Classes.{FewSpecials, checked_few, extras, all_extras}
use Rattle.source_bounds.proofs.Limits.{checked_short}
use Rattle.source_bounds.proofs.Sums.{sum_from}
use Rattle.source_bounds.proofs.TabledFunctions.{kind_sites, specification_sites, specification_guards, body_table, default_table, copy_table, destructor_table, written, body_weight}
use Rattle.source_bounds.proofs.Units.{many_parameters, not_small, body_counted, kind_counted, base_counted, summed, no_own_parts}
use Rattle.source_bounds.proofs.Lists.{both_all, at_or}
use Rattle.source_bounds.proofs.Products.{chains_room, no_chains, outermost_chains}
use Rattle.source_bounds.proofs.Measures.{weight_within}

-- a function whose body is not too large
pub record IsRoomy (f : RegionFunction) : Type 0 where
  pub few : HasFewWays f.body
  pub words : region_words f.body ≤ 300000
  pub guards : guards_in f.body ≤ 2080
  pub weight : chain_weight f.body ≤ 2010

-- the bytes of a function beside its words, and of its symbol
abbrev pub most_room : RegionFunction → ℕ
most_room f = 12 * sites_in f.body + chains_room (chain_weight f.body) + 6 * guards_in f.body + 251

abbrev pub all_room : List RegionFunction → ℕ
all_room [] = 0
all_room (f ∷ fs) = most_room f + all_room fs

pub record RoomyFunctions (m : ℕ) (fs : List RegionFunction) : Type 0 where
  pub each : AllByRecursion IsRoomy fs
  pub room : all_room fs ≤ m

none_roomy : RoomyFunctions 0 []
none_roomy = record { each = tt; room = omega arith }

one_roomy : {m k : ℕ} (f : RegionFunction) (fs : List RegionFunction) → IsRoomy f → most_room f ≤ m → RoomyFunctions k fs → RoomyFunctions (m + k) (f ∷ fs)
one_roomy f fs h le g = record { each = (h, g.each); room = omega (arith, le, g.room) }

room_both : (fs gs : List RegionFunction) → all_room (fs ++ gs) ≡ all_room fs + all_room gs
room_both [] gs = omega arith
room_both (f ∷ fs) gs = omega (arith, room_both fs gs)

both_roomy : {m k : ℕ} (fs gs : List RegionFunction) → RoomyFunctions m fs → RoomyFunctions k gs → RoomyFunctions (m + k) (fs ++ gs)
both_roomy fs gs h g = record { each = both_all IsRoomy fs gs h.each g.each; room = omega (arith, room_both fs gs, h.room, g.room) }

more_room : {m : ℕ} {fs : List RegionFunction} (k : ℕ) → RoomyFunctions m fs → m ≤ k → RoomyFunctions k fs
more_room k h le = record { each = h.each; room = omega (arith, h.room, le) }

-- what a function is given beside its statements

extra_small : (k : FuncKind) (m n : ℕ) → extra_words k m n ≤ 47 * m
extra_small Plain m n = omega arith
extra_small Method m n = omega arith
extra_small Destructor m n = omega arith
extra_small Constructor m n = go (nat_lt n 16)
  where
    go : (b : Bool) → (if b then 16 * m else 0) ≤ 47 * m
    go true = omega arith
    go false = omega arith

-- a list that a destructor takes over has 64 types at most
specification_room : (k : FuncKind) (o : Option Specification) → 12 * specification_sites o + 6 * specification_guards o ≤ 256 * specification_tokens k o + 462
specification_room Plain None = omega arith
specification_room Plain (Some (listed types)) = omega arith
specification_room Plain (Some (noexcept place b)) = omega arith
specification_room Method None = omega arith
specification_room Method (Some (listed types)) = omega arith
specification_room Method (Some (noexcept place b)) = omega arith
specification_room Constructor None = omega arith
specification_room Constructor (Some (listed types)) = omega arith
specification_room Constructor (Some (noexcept place b)) = omega arith
specification_room Destructor None = omega arith
specification_room Destructor (Some (listed types)) = omega arith
specification_room Destructor (Some (noexcept place b)) = omega arith

guards_counted : (k : FuncKind) (o : Option Specification) → specification_guards o ≤ specification_tokens k o + 73
guards_counted Plain None = omega arith
guards_counted Plain (Some (listed types)) = omega arith
guards_counted Plain (Some (noexcept place b)) = omega arith
guards_counted Method None = omega arith
guards_counted Method (Some (listed types)) = omega arith
guards_counted Method (Some (noexcept place b)) = omega arith
guards_counted Constructor None = omega arith
guards_counted Constructor (Some (listed types)) = omega arith
guards_counted Constructor (Some (noexcept place b)) = omega arith
guards_counted Destructor None = omega arith
guards_counted Destructor (Some (listed types)) = omega arith
guards_counted Destructor (Some (noexcept place b)) = omega arith

kind_room : (k : FuncKind) (m : ℕ) (f : Function) → m ≤ 256 →
    12 * kind_sites k m f ≤ 256 * parameters_tokens (length f.parameters) + 12 * initialisers_tokens f.initialisers + 2 * extra_words k m (length f.parameters)
kind_room Plain m f h = omega arith
kind_room Method m f h = omega arith
kind_room Destructor m f h = omega arith
kind_room Constructor m f h = go (nat_lt (length f.parameters) 16) refl
  where
    go : (b : Bool) → nat_lt (length f.parameters) 16 ≡ b →
        12 * (2 * m + initialisers_tokens f.initialisers) ≤ 256 * parameters_tokens (length f.parameters) + 12 * initialisers_tokens f.initialisers + 2 * (if b then 16 * m else 0)
    go true e = omega arith
    go false e = omega (arith, h, many_parameters (length f.parameters) (not_small (length f.parameters) e))

default_extra : (b : Bool) (m : ℕ) → 12 * (if b then 0 else 2 * m) ≤ 2 * (if b then 0 else 16 * m)
default_extra true m = omega arith
default_extra false m = omega arith

default_small : (b : Bool) (m : ℕ) → (if b then 0 else 16 * m) ≤ 16 * m
default_small true m = omega arith
default_small false m = omega arith

module _ (rows : ℕ) (p : Checked) (layout : Layout) where
  declared_roomy : (is_member is_main : Bool) (k : ℕ) (f : Function) {m : ℕ} (fs : List RegionFunction) → FunctionNamesRows rows f → length (parts_of p k) ≤ 256 → function_tokens f ≤ 2000 →
      RoomyFunctions m fs → RoomyFunctions (256 * function_tokens f + 2 * extra_words f.kind (length (parts_of p k)) (length f.parameters) + m) (declared_function p layout is_member is_main k f ∷ fs)
  declared_roomy is_member is_main k f fs h small short g =
      let l = lowering p layout is_member (variables_of f) in
      let parts = length (parts_of p k) in
      let words = whole_body rows l is_main k f h in
      let table = body_table l is_main k f in
      let weight = body_weight l is_main k f in
      let counted = body_counted f.body in
      one_roomy (declared_function p layout is_member is_main k f) fs
      (record {
        few = words.few;
        words = omega (
          arith,
          words.words,
          kind_counted f.kind parts f f.specification small,
          counted,
          extra_small f.kind parts (length f.parameters),
          small,
          short,
        );
        guards = omega (arith, table.guards, counted, guards_counted f.kind f.specification, short);
        weight = omega (arith, weight, counted, short);
      })
      (omega (
        arith,
        table.sites,
        table.guards,
        outermost_chains (chain_weight (declared_function p layout is_member is_main k f).body) (written l f) weight (omega (arith, counted, short)),
        kind_room f.kind parts f small,
        counted,
        specification_room f.kind f.specification,
      )) g

  own_roomy : (n : ℕ) (fs : List Function) → length (parts_of p 0) ≡ 0 → AllByRecursion (FunctionNamesRows rows) fs → AllByRecursion (λ f. function_tokens f ≤ 2000) fs →
      RoomyFunctions (256 * functions_tokens fs) (own_functions p layout n fs)
  own_roomy n [] none h short = none_roomy
  own_roomy n (f ∷ fs) none h short =
      more_room (256 * functions_tokens (f ∷ fs))
      (declared_roomy false (n == p.main) 0 f (own_functions p layout (n + 1) fs) h.0 (omega (arith, none)) short.0 (own_roomy (n + 1) fs none h.1 short.1))
      (omega (arith, none, extra_small f.kind (length (parts_of p 0)) (length f.parameters)))

  methods_roomy : (k : ℕ) (fs : List Function) → length (parts_of p k) ≤ 256 → AllByRecursion (FunctionNamesRows rows) fs → AllByRecursion (λ f. function_tokens f ≤ 2000) fs →
      RoomyFunctions (256 * functions_tokens fs + 2 * extras (length (parts_of p k)) fs) (map (declared_function p layout true false k) fs)
  methods_roomy k [] small h short = none_roomy
  methods_roomy k (f ∷ fs) small h short =
      more_room (256 * functions_tokens (f ∷ fs) + 2 * extras (length (parts_of p k)) (f ∷ fs))
      (declared_roomy true false k f (map (declared_function p layout true false k) fs) h.0 small short.0 (methods_roomy k fs small h.1 short.1)) (omega arith)

  parts_room : (c : Class) → 686 * length (class_parts c) + 1042 ≤ 256 * (3 * length c.members + base_tokens c.base + 5)
  parts_room c =
      omega (arith, length-append (base_part c.base) (map member_part c.members), length-map c.members member_part, (base_counted c.base).0, (base_counted c.base).1)

  class_roomy : (k : ℕ) (m : ℕ) → length (class_parts (class_at p k)) ≤ 256 → AllByRecursion (FunctionNamesRows rows) (class_at p k).functions → FewSpecials (class_at p k) →
      AllByRecursion (λ f. function_tokens f ≤ 2000) (class_at p k).functions → m + 280 ≡ 256 * class_tokens (class_at p k) → RoomyFunctions m (functions_of_class p layout k)
  class_roomy k m small h few short e =
      let c = class_at p k in
      let n = length (class_parts c) in
      let l = lowering p layout true [] in
      let copying = lowering p layout true (copied_type c) in
      let destroys = destructor_whole rows l k in
      let destroys-table = destructor_table l k in
      let destroys-weight = weight_within (implicit_destructor_function p layout k).body in
      let copies = copy_whole rows copying k in
      let copies-table = copy_table copying k in
      let copies-weight = weight_within (implicit_copy_function p layout k).body in
      let builds = default_whole rows l (some_constructor c.functions) k in
      let builds-table = default_table l (some_constructor c.functions) k in
      let builds-weight = weight_within (implicit_default_function p layout k).body in
      let last = one_roomy {m = 24 * n + 254} (implicit_destructor_function p layout k) []
      (record { few = destroys.few; words = omega (arith, destroys.words, small); guards = omega (arith, destroys-table.guards); weight = omega (arith, destroys-table.guards, destroys-weight) })
      (omega (arith, destroys-table.sites, destroys-table.guards, no_chains (chain_weight (implicit_destructor_function p layout k).body) (omega (arith, destroys-table.guards, destroys-weight)))) none_roomy in
      let copied = one_roomy {m = 24 * n + 254} (implicit_copy_function p layout k) (implicit_destructor_function p layout k ∷ [])
      (record { few = copies.few; words = omega (arith, copies.words, small); guards = omega (arith, copies-table.guards); weight = omega (arith, copies-table.guards, copies-weight) })
      (omega (arith, copies-table.sites, copies-table.guards, no_chains (chain_weight (implicit_copy_function p layout k).body) (omega (arith, copies-table.guards, copies-weight)))) last in
      let implicit = one_roomy {m = 12 * (if some_constructor c.functions then 0 else 2 * n) + 254} (implicit_default_function p layout k)
      (implicit_copy_function p layout k ∷ implicit_destructor_function p layout k ∷ [])
      (record { few = builds.few; words = omega (arith, builds.words, default_small (some_constructor c.functions) n, small); guards = omega (arith, builds-table.guards); weight = omega (arith, builds-table.guards, builds-weight) })
      (omega (arith, builds-table.sites, builds-table.guards, no_chains (chain_weight (implicit_default_function p layout k).body) (omega (arith, builds-table.guards, builds-weight)))) copied in
      more_room m
      (both_roomy (map (declared_function p layout true false k) c.functions)
      (implicit_default_function p layout k ∷ implicit_copy_function p layout k ∷ implicit_destructor_function p layout k ∷ []) (methods_roomy k c.functions small h short) implicit)
      (omega (arith, e, all_extras n c few, default_extra (some_constructor c.functions) n, parts_room c))

  -- what holds of each class
  record ClassFits (c : Class) : Type 0 where
    parts : length (class_parts c) ≤ 256
    named : AllByRecursion (FunctionNamesRows rows) c.functions
    few : FewSpecials c
    short : AllByRecursion (λ f. function_tokens f ≤ 2000) c.functions

  -- the functions of classes, with 280 bytes left for the record of each
  record RoomyClasses (k n : ℕ) : Type 0 where
    most : ℕ
    roomy : RoomyFunctions most (functions_of_classes p layout k n)
    total : most + 280 * n ≤ 256 * sum_from (λ i. class_tokens (class_at p i)) k n

  class_large : (c : Class) → 280 ≤ 256 * class_tokens c
  class_large c = omega arith

  classes_roomy : (k n : ℕ) → ((i : ℕ) → ClassFits (class_at p i)) → RoomyClasses k n
  classes_roomy k zero h = record { most = 0; roomy = none_roomy; total = omega arith }
  classes_roomy k (suc n) h =
      let own = h k in
      let m = 256 * class_tokens (class_at p k) - 280 in
      let e : m + 280 ≡ 256 * class_tokens (class_at p k) = omega (arith, class_large (class_at p k)) in
      let rest = classes_roomy (k + 1) n h in
      record {
        most = m + rest.most;
        roomy = both_roomy (functions_of_class p layout k) (functions_of_classes p layout (k + 1) n) (class_roomy k m own.parts own.named own.few own.short e) rest.roomy;
        total = omega (arith, e, rest.total);
      }

-- a checked program
pub record RoomyProgram (p : Checked) (l : Layout) : Type 0 where
  pub most : ℕ
  pub roomy : RoomyFunctions most (regions_of p l).functions
  pub total : most + 280 * length p.classes ≤ 256 * (classes_tokens p.classes + functions_tokens p.functions)

pub checked_roomy : CheckedClassesFit → (p : Checked) (l : Layout) → IsChecked p → RoomyProgram p l
checked_roomy fit p l h =
    let rows = length (type_rows p) in
    let named = checked_named p h in
    let parts = checked_parts fit p h in
    let few = checked_few p h in
    let short = checked_short p h in
    let classes : (i : ℕ) → ClassFits rows p l (class_at p i) = λ i. record {
      parts = at_or (λ c. length (class_parts c) ≤ 256) p.classes i no_class parts (omega arith);
      named = at_or (λ c. AllByRecursion (FunctionNamesRows rows) c.functions) p.classes i no_class named.methods tt;
      few = at_or FewSpecials p.classes i no_class few (record { constructors = omega arith; destructors = omega arith });
      short = at_or (λ c. AllByRecursion (λ f. function_tokens f ≤ 2000) c.functions) p.classes i no_class short.methods tt;
    } in
    let rest = classes_roomy rows p l 0 (length p.classes) classes in
    record {
      most = 256 * functions_tokens p.functions + rest.most;
      roomy = both_roomy (own_functions p l 0 p.functions) (functions_of_classes p l 0 (length p.classes)) (own_roomy rows p l 0 p.functions (no_own_parts p h) named.own short.own) rest.roomy;
      total = omega (arith, rest.total, summed p.classes);
    }
