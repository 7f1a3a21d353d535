-- The world that the evaluator's stands for.
use Rattle.std.specs.Prelude.{ℕ, ◌==◌, map, drop, if◌then◌else◌}
use Rattle.scope_world.specs.declared.exception.Installed.{Installed as CodeInstalled}
use Rattle.scope_world.specs.declared.exception.Exception.{Exception as CodeException}
use Rattle.scope_world.specs.declared.exception.Exception.TheVariants.{Building, Native, Foreign}
use Rattle.scope_world.specs.declared.exception.Live.{Live as CodeLive}
use Rattle.scope_world.specs.declared.world.World.{World as CodeWorld}
use Rattle.scope_world.specs.Objects.{type_of, part_of}
use Rattle.scope_world.specs.Outside.{Told}
use Rattle.meaning_forms.specs.World.{World, Installed, Exception, building, native, foreign, Live}

-- the handlers set
abbrev pub installed_of : CodeInstalled → Installed
installed_of i = record { terminate_handler = i.terminate; unexpected_handler = i.unexpected }

-- an exception
abbrev pub exception_of : CodeException → Exception
exception_of Building = building
exception_of (Native t o kept) = native (type_of t) o (installed_of kept)
exception_of (Foreign k t) = foreign k t

-- a live exception
abbrev pub live_of : CodeLive → Live
live_of x = record { number = x.number; exception = exception_of x.exception }

-- an exception in place of the one with its number
abbrev pub with_live : ℕ → CodeException → CodeLive → CodeLive
with_live e x y = if y.number == e then record { number = e; exception = x } else y

-- the world, seen from inside so many open calls
abbrev pub world_of : {G : Type 0} → (G → Told) → ℕ → CodeWorld G → World
world_of told depth w = record {
  objects = map part_of w.objects.items;
  input = drop w.read w.input.items;
  items = (told w.outside).written;
  live = map live_of w.live.items;
  last_number = w.last_number;
  replies = (told w.outside).replies;
  installed = installed_of w.installed;
  turns = w.turns;
  open_calls = depth;
  deepest = w.deepest;
}
