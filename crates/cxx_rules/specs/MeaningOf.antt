-- Meanings as the definitions have them.
use Rattle.std.specs.Prelude.{ℕ, List, Option, Some, None, slice_get}
use Rattle.cxx_ast.specs.Environment as environment
use Rattle.cxx_ast.specs.Lookup as lookup
use Rattle.cxx_rules.specs.declared.lookup.Meaning.{Meaning}
use Rattle.cxx_rules.specs.declared.lookup.Meaning.TheVariants.{Unknown, Local, Field, Method, Global, Function, Class, Builtin}
use Rattle.cxx_rules.specs.declared.lookup.Member.{Member}
use Rattle.cxx_rules.specs.declared.member.Step.{Step}
use Rattle.cxx_rules.specs.declared.member.Step.TheVariants.{Here, Base}
use Rattle.cxx_rules.specs.KindOf.{kind_of}

-- what a meaning in memory stands for
abbrev pub meaning_of : Meaning → environment.Meaning
meaning_of Unknown = environment.unknown
meaning_of (Local v) = environment.a_local v.now
meaning_of (Field k i kind) = environment.a_field k i (kind_of kind)
meaning_of (Method k i s) = environment.a_method k i s.now
meaning_of (Global n) = environment.a_global n
meaning_of (Function s) = environment.a_function s.now
meaning_of (Class k) = environment.a_class k
meaning_of (Builtin b) = environment.a_builtin b

-- what a member in memory stands for
abbrev pub member_found : Member → lookup.Found
member_found m = record { place = m.place; meaning = meaning_of m.meaning }

-- the member of class k with a name
abbrev pub own_member : Option ℕ → List ℕ → ℕ → environment.ClassEntry → Option lookup.Found
own_member limit text k c = lookup.first_of_two (lookup.field_named limit text k 0 c.fields) (lookup.method_named limit text k 0 c.functions)

-- the base of class k
abbrev pub base_of : environment.Environment → ℕ → Option ℕ
base_of env k = elim (slice_get env.classes k) [ None ↦ None | Some c ↦ c.base ]

-- what a class says of a name, where f answers for its base
abbrev pub told : (ℕ → environment.Meaning) → Step → environment.Meaning
told f (Here m) = meaning_of m
told f (Base b) = f b
