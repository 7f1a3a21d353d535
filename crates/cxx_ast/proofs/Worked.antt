-- Programs by the two standards: what is refused, how `noexcept` is spelled, and which specifications count.
use Rattle.std.specs.Prelude.{◌≡◌, refl, ℕ, ◌+◌, pos, Bool, true, false, List, [], ◌∷◌, codes, Option, Some, None}
use Rattle.cxx_ast.specs.declared.name.Bound.TheVariants.{Free}
use Rattle.cxx_ast.specs.declared.name.Name.{Name}
use Rattle.cxx_ast.specs.declared.types.Ty.TheVariants.{Int, Void, Object}
use Rattle.cxx_ast.specs.declared.types.Param.{Param}
use Rattle.cxx_ast.specs.declared.declaration.FuncKind.TheVariants.{Plain, Destructor}
use Rattle.cxx_ast.specs.declared.standard.Std.TheVariants.{Cxx03, Cxx11}
use Rattle.cxx_ast.specs.declared.token.TokenKind.TheVariants as kind
use Rattle.cxx_ast.specs.declared.mark.Mark.TheVariants as sign
use Rattle.cxx_ast.specs.declared.keyword.Keyword.TheVariants as keyword
use Rattle.cxx_ast.specs.Plain.{number, call, no_expressions, return, evaluate, no_statements, statement_then, Specification, listed, noexcept, Function, Class, class_declaration, global_declaration, function_declaration, Program}
use Rattle.cxx_ast.specs.Piece.{placed, named, word, mark}
use Rattle.cxx_ast.specs.Written.{spell_function, in_full}
use Rattle.cxx_ast.specs.Broken.{broken}
use Rattle.cxx_ast.specs.Refused.{refused}
use Rattle.cxx_ast.specs.Checked.{checked}

abbrev nm : List ℕ → ℕ → Name
nm text place = record { text = text; place = place; bound = Free }

-- `noexcept` in a specification: void f() noexcept { } int main() { f(); return 0; }
quiet_function : (in_full : Bool) → Function
quiet_function b = record {
  name = nm (codes "f") 5;
  kind = Plain;
  result = Void;
  parameters = [];
  specification = Some (noexcept 9 true);
  initialisers = [];
  body = Some no_statements;
  tokens = elim b [ true ↦ 10 | false ↦ 7 ];
}

main_calling : Function
main_calling = record {
  name = nm (codes "main") 26;
  kind = Plain;
  result = Int;
  parameters = [];
  specification = None;
  initialisers = [];
  body = Some (statement_then (evaluate (call (nm (codes "f") 35 ∷ []) no_expressions)) (statement_then (return 40 (Some (number (pos 0) 47))) no_statements));
  tokens = 13;
}

with_noexcept : Program
with_noexcept = record { declarations = function_declaration (quiet_function false) ∷ function_declaration main_calling ∷ []; tokens = 20; length = 51 }

noexcept-in_03 : refused Cxx03 with_noexcept ≡ Some (71, 9)
unfolding with_noexcept quiet_function main_calling broken
noexcept-in_03 = refl

noexcept-in_11 : refused Cxx11 with_noexcept ≡ None
unfolding with_noexcept quiet_function main_calling broken
noexcept-in_11 = refl

-- int nullptr; int main() { return 0; }
plain_main : ℕ → Function
plain_main place = record {
  name = nm (codes "main") place;
  kind = Plain;
  result = Int;
  parameters = [];
  specification = None;
  initialisers = [];
  body = Some (statement_then (return (place + 9) (Some (number (pos 0) (place + 16)))) no_statements);
  tokens = 9;
}

with_keyword : Program
with_keyword = record { declarations = global_declaration (nm (codes "nullptr") 4) (pos 0) ∷ function_declaration (plain_main 17) ∷ []; tokens = 12; length = 37 }

keyword-in_03 : refused Cxx03 with_keyword ≡ None
unfolding with_keyword plain_main broken
keyword-in_03 = refl

keyword-in_11 : refused Cxx11 with_keyword ≡ Some (70, 4)
unfolding with_keyword plain_main broken
keyword-in_11 = refl

-- the number of tokens tells whether `(true)` is written
spelled-short : spell_function (quiet_function false) [] ≡
    word keyword.Void ∷ named (nm (codes "f") 5) ∷ mark sign.OpenParen ∷ mark sign.CloseParen ∷ placed (kind.Name (codes "noexcept")) 9 ∷
    mark sign.OpenBrace ∷ mark sign.CloseBrace ∷ []
unfolding quiet_function in_full
spelled-short = refl

spelled-full : spell_function (quiet_function true) [] ≡
    word keyword.Void ∷ named (nm (codes "f") 5) ∷ mark sign.OpenParen ∷ mark sign.CloseParen ∷ placed (kind.Name (codes "noexcept")) 9 ∷
    mark sign.OpenParen ∷ word keyword.True ∷ mark sign.CloseParen ∷ mark sign.OpenBrace ∷ mark sign.CloseBrace ∷ []
unfolding quiet_function in_full
spelled-full = refl

-- the specifications of destructors that count
destructor : List ℕ → Option Specification → Function
destructor text s = record {
  name = nm text 0;
  kind = Destructor;
  result = Void;
  parameters = [];
  specification = s;
  initialisers = [];
  body = Some no_statements;
  tokens = 5;
}

member : List ℕ → Param
member text = record { ty = Object (nm text 0); name = Some (nm (codes "m") 0) }

-- struct A { ~A() { } }; struct B { ~B() throw(int) { } }; struct C : A { B m; ~C() { } }; struct D { ~D() noexcept(false) { } };
-- struct E { D m; }; struct F { E m; ~F() { } };
destroying : Program
destroying = record {
  declarations =
      class_declaration (record { name = nm (codes "A") 1; base = None; members = []; functions = destructor (codes "A") None ∷ [] }) ∷
      class_declaration (record { name = nm (codes "B") 2; base = None; members = []; functions = destructor (codes "B") (Some (listed (Int ∷ []))) ∷ [] }) ∷
      class_declaration (record { name = nm (codes "C") 3; base = Some (nm (codes "A") 4); members = member (codes "B") ∷ []; functions = destructor (codes "C") None ∷ [] }) ∷
      class_declaration (record { name = nm (codes "D") 5; base = None; members = []; functions = destructor (codes "D") (Some (noexcept 0 false)) ∷ [] }) ∷
      class_declaration (record { name = nm (codes "E") 6; base = None; members = member (codes "D") ∷ []; functions = [] }) ∷
      class_declaration (record { name = nm (codes "F") 7; base = None; members = member (codes "E") ∷ []; functions = destructor (codes "F") None ∷ [] }) ∷ [];
  tokens = 0;
  length = 0;
}

abbrev written : List Function → List (Option Specification)
written [] = []
written (f ∷ fs) = f.specification ∷ written fs

abbrev specifications : List Class → List (List (Option Specification))
specifications [] = []
specifications (c ∷ cs) = written c.functions ∷ specifications cs

settled-03 : specifications (checked Cxx03 destroying).classes ≡
    [] ∷ (None ∷ []) ∷ (Some (listed (Int ∷ [])) ∷ []) ∷ (None ∷ []) ∷ (None ∷ []) ∷ [] ∷ (None ∷ []) ∷ []
unfolding destroying destructor member checked
settled-03 = refl

settled-11 : specifications (checked Cxx11 destroying).classes ≡
    [] ∷ (Some (noexcept 0 true) ∷ []) ∷ (Some (listed (Int ∷ [])) ∷ []) ∷ (Some (listed (Int ∷ [])) ∷ []) ∷ (None ∷ []) ∷ [] ∷ (None ∷ []) ∷ []
unfolding destroying destructor member checked
settled-11 = refl
