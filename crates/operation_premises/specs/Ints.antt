-- The numbers in regions are ints.
use Rattle.std.specs.Prelude.{⊤}
use Rattle.region_forms.specs.Form.{Value, number, load, unary, binary, call_value, Argument, int_argument, address_argument, handler_argument, Arguments, no_arguments, argument_then, Op, evaluate, store, bind, call, construct, destroy, make, throw, rethrow, enter, leave}
use Rattle.address_bounds.specs.Everywhere.{Said}
use Rattle.machine_pieces.specs.Numbers.{IsInt}

abbrev mutual
  pub HasInts : Value → Type 0
  HasInts (number v) = IsInt v
  HasInts (load q) = ⊤
  HasInts (unary o v) = HasInts v
  HasInts (binary o a b) = HasInts a × HasInts b
  HasInts (call_value c args) = HaveInts args

  pub ArgumentHasInts : Argument → Type 0
  ArgumentHasInts (int_argument v) = HasInts v
  ArgumentHasInts (address_argument q) = ⊤
  ArgumentHasInts (handler_argument n) = ⊤

  pub HaveInts : Arguments → Type 0
  HaveInts no_arguments = ⊤
  HaveInts (argument_then a args) = ArgumentHasInts a × HaveInts args

abbrev pub OpHasInts : Op → Type 0
OpHasInts (evaluate v) = HasInts v
OpHasInts (store q v) = HasInts v
OpHasInts (bind s q) = ⊤
OpHasInts (call c args) = HaveInts args
OpHasInts (construct q n args) = HaveInts args
OpHasInts (destroy q n) = ⊤
OpHasInts (make s) = ⊤
OpHasInts (throw s t d) = ⊤
OpHasInts rethrow = ⊤
OpHasInts (enter s) = ⊤
OpHasInts leave = ⊤

-- said of all operations and tests of a region
abbrev pub ints : Said
ints = record { operation = OpHasInts; test = HasInts; caught = λ s. ⊤; freed = λ s. ⊤ }
