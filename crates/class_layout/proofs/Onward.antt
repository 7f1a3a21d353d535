-- What is left to lay out behind the classes that are laid out.
use Rattle.std.specs.Prelude.{◌≡◌, List}
use Rattle.cxx_ast.specs.Plain.{Class}
use Rattle.region_forms.specs.Layout.{ClassLayout, layouts, layouts_behind}
use Rattle.class_layout.specs.Fit.{FitBehind}

-- the classes that are left fit, and lead to the layouts of all
pub record Onward (all : List Class) (laid : List ClassLayout) (left : List Class) : Type 0 where
  pub leads : layouts_behind laid left ≡ layouts all
  pub fit : FitBehind laid left
