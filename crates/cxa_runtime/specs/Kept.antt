-- What the runtime keeps between calls.
use Rattle.std.specs.Prelude.{◌≡◌, ◌<◌, ◌≤◌, ◌+◌, ◌-◌, ◌^◌, ℕ, suc, nat_le, Bool, true, false, ℤ, pos, negsuc, List, [], ◌∷◌, ◌++◌, map, drop, Option, Some, None}
use Rattle.std.specs.List.{list_all}
use Rattle.eh_bytes.specs.declared.unit.RuntimeRecord.{RuntimeRecord}
use Rattle.eh_outer.specs.declared.module.Reply.{Reply}
use Rattle.eh_outer.specs.Module.{ModuleView}
use Rattle.run_items.specs.declared.item.Item.{Item}
use Rattle.run_items.specs.declared.item.Item.TheVariants.{Enter}
use Rattle.table_forms.specs.Fde.{Fde}
use Rattle.rv64_isa.specs.State.{State, with_reg}
use Rattle.frame_read.specs.ReadsFrames.{Listing}
use Rattle.raise_core.specs.declared.raised.Raised.{Raised}
use Rattle.raise_core.specs.declared.raised.Raised.TheVariants.{Install}
use Rattle.raise_core.specs.Reads.{AreTables}
use Rattle.caught_stack.specs.declared.header.Header.{Header}
use Rattle.caught_stack.specs.Caught.{Caught}
use Rattle.caught_stack.specs.Allocate.{with_header}
use Rattle.caught_stack.specs.Begin.{begun}
use Rattle.caught_stack.specs.Exceptions.{Exceptions, no_exceptions}
use Rattle.cxa_runtime.specs.Frozen.{frozen}
use Rattle.cxa_runtime.specs.declared.effect.Effect.{Effect}
use Rattle.cxa_runtime.specs.declared.object.Object.{Object}
use Rattle.cxa_runtime.specs.World.{World, Outcome, a0, a1}
use Rattle.cxa_runtime.specs.Raising.{Image}

-- the state of the ABI machine, but for the input and the replies that are left: `read` bytes of the input were read, and `turns` turns were begun
pub record Kept : Type 0 where
  pub hart : State
  pub frames : Listing
  pub places : RuntimeRecord
  pub exceptions : Exceptions
  pub terminate_handler : ℕ
  pub unexpected_handler : ℕ
  pub last_number : ℕ
  pub unwinding : Option ℤ
  pub read : ℕ
  pub shown : List Item
  pub count : ℕ
  pub turns : ℕ
  pub terminating : Bool

abbrev pub world_of : Kept → List ℕ → List (List Reply) → World
world_of k input replies = record {
  hart = k.hart;
  exceptions = k.exceptions;
  terminate_handler = k.terminate_handler;
  unexpected_handler = k.unexpected_handler;
  last_number = k.last_number;
  unwinding = k.unwinding;
  input = drop k.read input;
  replies = replies;
  shown = k.shown;
  count = k.count;
  terminating = k.terminating;
}

abbrev pub image_of : List Fde → Kept → Image
image_of fdes k = record { fdes = fdes; places = k.places }

-- the replies that modules have left
abbrev pub replies_of : List ModuleView → List (List Reply)
replies_of modules = map (λ seen. seen.rest) modules

-- a handlerCount is this far from 0 at most
abbrev pub is_within : ℕ → ℤ → Bool
is_within most (pos n) = nat_le n most
is_within most (negsuc n) = nat_le (suc n) most

-- each handlerCount is
abbrev pub are_within : ℕ → Caught → Bool
are_within most caught = list_all (λ entry. is_within most entry.1) caught

-- each number, and each handler of an exception, took a turn
pub record IsKept (e : Exceptions) (last_number count turns : ℕ) : Type 0 where
  pub numbers : last_number ≤ turns
  pub handlers : are_within turns e.caught ≡ true
  pub counted : count ≤ turns
  pub few : turns ≤ 2 ^ 40

-- a turn has begun, and has done nothing yet
pub record IsFresh (k : Kept) : Type 0 where
  pub silent : k.shown ≡ []
  pub number : k.last_number < k.turns
  pub count : k.count < k.turns
  pub handlers : are_within (k.turns - 1) k.exceptions.caught ≡ true
  pub few : k.turns ≤ 2 ^ 40

-- the state of a new runtime
abbrev pub at_first : State → Listing → RuntimeRecord → Kept
at_first hart frames places = record {
  hart = hart;
  frames = frames;
  places = places;
  exceptions = no_exceptions;
  terminate_handler = 0;
  unexpected_handler = 0;
  last_number = 0;
  unwinding = None;
  read = 0;
  shown = [];
  count = 0;
  turns = 0;
  terminating = false;
}

-- a call does what the definition says, whatever input and replies are left
abbrev pub Makes : (World → Outcome) → Kept → Kept → Effect → Type 0
Makes call old new effect =
    (input : List ℕ) (replies : List (List Reply)) → (effect, world_of new input replies) ≡ call (world_of old input replies)

-- the same over the image whose tables the machine has
abbrev pub MakesOver : (Image → World → Outcome) → Kept → Kept → Effect → Type 0
MakesOver call old new effect = (t : AreTables old.hart old.frames) → Makes (call (image_of t.read.fdes old)) old new effect

-- a call leaves the memory and the image as they are, and counts nothing
pub record Stays (old new : Kept) : Type 0 where
  pub memory : new.hart.memory ≡ old.hart.memory
  pub frames : new.frames ≡ old.frames
  pub places : new.places ≡ old.places
  pub turns : new.turns ≡ old.turns
  pub count : new.count ≡ old.count

-- the same of a call with what is counted
pub record Remains (old new : Kept) : Type 0 where
  pub memory : new.hart.memory ≡ old.hart.memory
  pub frames : new.frames ≡ old.frames
  pub places : new.places ≡ old.places
  pub turns : new.turns ≡ old.turns

-- the exception is entered
abbrev pub after_entering : Object → Kept → Kept
after_entering o k = record k { exceptions = begun o.slot k.exceptions; shown = k.shown ++ Enter o.header.number ∷ [] }

-- registers with the two results
abbrev pub with_both : ℕ → ℕ → Kept → Kept
with_both x y k = record k { hart = record k.hart { regs = with_reg (with_reg k.hart.regs a0 x) a1 y } }

-- the hart alone has changed, and nothing where no landing pad is entered
abbrev pub Unwinds : Raised → Kept → Kept → Type 0
Unwinds (Install pad selector cfa lsda) old new = new ≡ record old { hart = new.hart }
Unwinds _ old new = new ≡ old

-- a slot, where one was vacant, has the header, and its number was given
abbrev pub after_allocating : Option ℕ → Header → Kept → Kept
after_allocating None h k = k
after_allocating (Some slot) h k = record k { exceptions = with_header slot h k.exceptions; last_number = h.number }

-- a turn begins, and has shown nothing
abbrev pub begun_turn : Kept → Kept
begun_turn k = record k { shown = []; turns = k.turns + 1 }

-- a turn leaves the image as it is, and the memory that may not be written
pub record StaysFrozen (old new : Kept) : Type 0 where
  pub memory : frozen new.hart.memory ≡ frozen old.hart.memory
  pub frames : new.frames ≡ old.frames
  pub places : new.places ≡ old.places
  pub turns : new.turns ≡ old.turns + 1
