-- The plain layouts that layouts in memory stand for.
use Rattle.std.specs.Prelude.{map}
use Rattle.class_layout.specs.declared.forms.ClassLayout.{ClassLayout as ClassLayoutValue}
use Rattle.class_layout.specs.declared.forms.Layout.{Layout as LayoutValue}
use Rattle.region_forms.specs.Layout.{ClassLayout, Layout}

-- the layout of a class
abbrev pub class_layout_of : ClassLayoutValue → ClassLayout
class_layout_of c = record { size = c.size; members = c.members.items }

-- the layouts of classes
abbrev pub laid_out : LayoutValue → Layout
laid_out l = record { classes = map class_layout_of l.classes.items }
