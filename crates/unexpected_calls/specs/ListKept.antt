-- What call_unexpected keeps names a list of a function of the unit.
use Rattle.std.specs.Prelude.{◌≡◌, ℕ, ◌<◌, ℤ, negsuc, ◌∷◌, length}
use Rattle.cxa_runtime.specs.World as abi
use Rattle.linear_forms.specs.Activation.{State}
use Rattle.linear_forms.specs.UnitRun.{code_of}
use Rattle.flight_homes.specs.Keeps.{Carrying}
use Rattle.machine_simulation.specs.Plan.{Plan}
use Rattle.stub_landings.specs.Rests.{ChecksThrown}
use Rattle.kept_selectors.specs.Selectors.{SelectorsNamed}
use Rattle.unexpected_calls.specs.Lists.{HasFilter}

-- a number and a function, as ThrownOut asks
pub record ListKept (p : Plan) (selector : ℤ) (owner : ℕ) : Type 0 where
  pub number : ℕ
  pub list : selector ≡ negsuc number
  pub known : owner < length p.unit.functions
  pub filter : HasFilter p.unit owner (negsuc number)

-- They are there behind its first pad, where every run keeps selectors.
abbrev pub ListsAreKept : Type 0
ListsAreKept = (p : Plan) (k : Carrying) (st : State) (w : abi.World) → (h : ChecksThrown p st w) → SelectorsNamed (code_of p.unit) k (st.top ∷ st.frames) → ListKept p h.kept.selector h.kept.owner
