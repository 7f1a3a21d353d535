-- The linear code of a program of regions, with the tables of its functions.
use Rattle.std.specs.Prelude.{◌+◌, List, [], ◌∷◌, ◌++◌, map, length}
use Rattle.region_forms.specs.Form.{RegionFunction, Regions}
use Rattle.linear_forms.specs.Linear.{return, FunctionCode, UnitCode}
use Rattle.linear_forms.specs.Tables.{unpadded}
use Rattle.linear_forms.specs.Sites.{Placed, sites_of}
use Rattle.linear_forms.specs.Filters.{filter_for, types_in, lists_in}
use Rattle.linear_forms.specs.Emission.{Emitting, quiet}
use Rattle.linear_forms.specs.Code.{region_code}
use Rattle.linear_forms.specs.Frame.{code_slots, frame_bytes}

-- what a function's code is made with; the slots of pads stand behind its own
abbrev pub emitting : RegionFunction → Emitting
emitting f = record {
  filter = filter_for (types_in f.body) (lists_in f.body);
  object = length f.slots;
  selector = length f.slots + 1;
  way = length f.slots + 2;
}

-- a function's code: that of its body, out of which all may come, then the return
abbrev pub placed_code : RegionFunction → List Placed
placed_code f = region_code (emitting f) unpadded [] 0 0 f.body ++ quiet (return f.result) ∷ []

-- a function with its tables
abbrev pub function_code : RegionFunction → FunctionCode
function_code f = record {
  name = f.name;
  parameters = f.parameters;
  slots = code_slots f;
  ops = map (λ x. x.op) (placed_code f);
  sites = sites_of (placed_code f);
  types = types_in f.body;
  lists = lists_in f.body;
  frame = frame_bytes (code_slots f);
}

-- the linear code of a program of regions
abbrev pub unit_of : Regions → UnitCode
unit_of r = record { functions = map function_code r.functions; types = r.types; globals = r.globals; tokens = r.tokens; main = r.main }
