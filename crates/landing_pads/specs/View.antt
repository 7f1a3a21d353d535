-- The plain linear code that code in memory stands for.
use Rattle.std.specs.Prelude.{map}
use Rattle.region_ir.specs.View.{operation_of, row_of, slot_of, value_of}
use Rattle.landing_pads.specs.declared.unit.LinearOp.{LinearOp as LinearOpValue}
use Rattle.landing_pads.specs.declared.unit.LinearOp.TheVariants as linear
use Rattle.landing_pads.specs.declared.unit.CodeSite.{CodeSite as CodeSiteValue}
use Rattle.landing_pads.specs.declared.unit.FuncCode.{FuncCode}
use Rattle.landing_pads.specs.declared.unit.UnitCode.{UnitCode as UnitCodeValue}
use Rattle.landing_pads.specs.declared.placed.Cover.{Cover as CoverValue}
use Rattle.landing_pads.specs.declared.placed.Cover.TheVariants.{Bare, Unpadded, Padded}
use Rattle.landing_pads.specs.declared.placed.Placed.{Placed as PlacedValue}
use Rattle.linear_forms.specs.Linear.{LinearOp, plain, label, jump, jump_zero, pad, jump_filter, free, resume, unexpected, return, CodeSite, FunctionCode, UnitCode}
use Rattle.linear_forms.specs.Tables.{Cover, bare, unpadded, padded}
use Rattle.linear_forms.specs.Sites.{Placed}

-- an operation
abbrev pub linear_of : LinearOpValue → LinearOp
linear_of (linear.Op o) = plain (operation_of o)
linear_of (linear.Label l) = label l
linear_of (linear.Jump l) = jump l
linear_of (linear.JumpZero v l) = jump_zero (value_of v) l
linear_of (linear.Pad o s) = pad o s
linear_of (linear.JumpFilter s f l) = jump_filter s f l
linear_of (linear.Free s) = free s
linear_of (linear.Resume s) = resume s
linear_of (linear.Unexpected o s) = unexpected o s
linear_of (linear.Return s) = return s

-- what covers an operation
abbrev pub cover_of : CoverValue → Cover
cover_of Bare = bare
cover_of Unpadded = unpadded
cover_of (Padded p chain) = padded p chain.value.items

-- an operation in its cover
abbrev pub placed_of : PlacedValue → Placed
placed_of x = record { op = linear_of x.op; cover = cover_of x.cover }

-- a call site
abbrev pub site_of : CodeSiteValue → CodeSite
site_of s = record { start = s.start; end = s.end; pad = s.pad; filters = s.filters.items }

-- a function
abbrev pub code_of : FuncCode → FunctionCode
code_of f = record {
  name = f.name;
  parameters = f.params;
  slots = map slot_of f.slots.items;
  ops = map linear_of f.ops.items;
  sites = map site_of f.sites.items;
  types = f.types.items;
  lists = map (λ l. l.items) f.lists.items;
  frame = f.frame;
}

-- a program
abbrev pub unit_view : UnitCodeValue → UnitCode
unit_view u = record {
  functions = map code_of u.functions.items;
  types = map row_of u.types.items;
  globals = u.globals.items;
  tokens = u.tokens;
  main = u.main;
}
