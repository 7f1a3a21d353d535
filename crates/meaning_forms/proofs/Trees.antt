-- Short forms of trees for the worked programs.
use Rattle.std.specs.Prelude.{ℕ, ℤ, List, [], ◌∷◌, Option, Some}
use Rattle.cxx_ast.specs.declared.name.Bound.{Bound}
use Rattle.cxx_ast.specs.declared.name.Bound.TheVariants.{Free}
use Rattle.cxx_ast.specs.declared.name.Name.{Name}
use Rattle.cxx_ast.specs.declared.types.Ty.{Ty}
use Rattle.cxx_ast.specs.declared.types.Param.{Param}
use Rattle.cxx_ast.specs.declared.declaration.FuncKind.{FuncKind}
use Rattle.cxx_ast.specs.Plain.{Expressions, Statements, Initialiser, Specification, Function, Class, Checked}
use Rattle.run_items.specs.declared.item.Item.{Item}
use Rattle.run_items.specs.declared.item.Item.TheVariants.{Line}

abbrev pub nm : Bound → Name
nm b = record { text = []; place = 0; bound = b }

abbrev pub pa : Ty → Option Name → Param
pa t n = record { ty = t; name = n }

abbrev pub ini : Name → Expressions → Initialiser
ini n es = record { name = n; arguments = es }

abbrev pub fn : FuncKind → Ty → List Param → Option Specification → List Initialiser → Statements → Function
fn k t ps spec is body = record { name = nm Free; kind = k; result = t; parameters = ps; specification = spec; initialisers = is; body = Some body; tokens = 0 }

abbrev pub cl : Option Name → List Param → List Function → Class
cl b ms fs = record { name = nm Free; base = b; members = ms; functions = fs }

abbrev pub ck : List Class → List ℤ → List Function → ℕ → Checked
ck cs gs fs m = record { program = record { declarations = []; tokens = 0; length = 0 }; classes = cs; globals = gs; functions = fs; main = m }

abbrev pub lines_of : List Item → List Item
lines_of [] = []
lines_of (Line v ∷ items) = Line v ∷ lines_of items
lines_of (i ∷ items) = lines_of items
