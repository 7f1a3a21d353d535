-- When an operation does the same in a frame of regions and in a frame of the machine, which has slots behind the function's own.
use Rattle.std.specs.Prelude.{◌≡◌, ℕ, ◌≤◌, Bool, true, Option, None, Some}
use Rattle.region_forms.specs.Form.{Place, Op, leave}
use Rattle.region_forms.specs.World.{Frame}
use Rattle.region_forms.specs.Mentioned.{slots_of_root}
use Rattle.region_forms.specs.Effect.{Effect, goes, calls, raises, terminates, ends, cancels, leaves_newest, meaningless}
use Rattle.linear_forms.specs.Linear.{plain}
use Rattle.linear_forms.specs.Stub.{linear}
use Rattle.linear_forms.specs.Operation.{wanted_by}
use Rattle.linear_forms.specs.CodeRuns.{SameBelow}

-- The same effect, but for slots from n on. What a call gives goes to this place; a call, an exception and a forced unwind are of an
-- operation that may raise, as the truth value says. Leaving a handler is no such effect.
abbrev pub Alike : ℕ → Option Place → Bool → Effect → Effect → Type 0
Alike n want raising (goes f w) y = (g : Frame) × SameBelow n f g × (y ≡ goes g w)
Alike n want raising (calls p m given) y = (p ≡ want) × (raising ≡ true) × (y ≡ calls p m given)
Alike n want raising (raises e w) y = (raising ≡ true) × (y ≡ raises e w)
Alike n want raising (terminates h w) y = y ≡ terminates h w
Alike n want raising (ends e w) y = y ≡ ends e w
Alike n want raising (cancels z w) y = (raising ≡ true) × (y ≡ cancels z w)
Alike n want raising leaves_newest y = ⊥
Alike n want raising meaningless y = y ≡ meaningless

-- the place has a slot below n, if there is a place
abbrev pub InSlots : ℕ → Option Place → Type 0
InSlots n None = Unit {0}
InSlots n (Some p) = slots_of_root p.root ≤ n

-- where the value of an operation's call goes
abbrev pub want_of : Op → Option Place
want_of o = wanted_by (Some (linear (plain o)))

-- any operation but the leaving of a handler
abbrev pub IsOther : Op → Type 0
IsOther leave = ⊥
IsOther _ = Unit {0}
