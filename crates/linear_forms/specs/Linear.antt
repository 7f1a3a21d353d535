-- Linear code as plain data: operations in a row, with what a function's tables say of places in it.
use Rattle.std.specs.Prelude.{ℕ, ℤ, List, Option}
use Rattle.region_forms.specs.Form.{Value, Op, Slot, TypeRow}

-- An operation of linear code. `jump_zero` jumps where the value is 0; `pad` begins a landing pad and puts the object's address and the
-- selector in its two slots; `jump_filter` jumps where the slot holds that filter; `free` gives back the object of a slot; `resume` goes
-- on with what the pad interrupted; `unexpected` passes the object and the selector to the runtime; `return` gives the value of a slot.
pub data LinearOp : Type 0 where
  plain : Op → LinearOp
  label : ℕ → LinearOp
  jump : ℕ → LinearOp
  jump_zero : Value → ℕ → LinearOp
  pad : ℕ → ℕ → LinearOp
  jump_filter : ℕ → ℤ → ℕ → LinearOp
  free : ℕ → LinearOp
  resume : ℕ → LinearOp
  unexpected : ℕ → ℕ → LinearOp
  return : Option ℕ → LinearOp

-- a call site: the operations from a place up to another, their landing pad, if they have one, and its chain of filters
pub record CodeSite : Type 0 where
  pub start : ℕ
  pub end : ℕ
  pub pad : Option ℕ
  pub filters : List ℤ

-- A function. `types` has 0 for `catch (...)`, else one more than the type's number; `lists` has lists of indices into it, which count
-- from 1. A filter above 0 is an index into `types`, and filter -j names the list whose first byte is byte j - 1 of the lists, which
-- stand one after the other as a table of exceptions spells them.
pub record FunctionCode : Type 0 where
  pub name : List ℕ
  pub parameters : ℕ
  pub slots : List Slot
  pub ops : List LinearOp
  pub sites : List CodeSite
  pub types : List ℕ
  pub lists : List (List ℕ)
  pub frame : ℕ

-- a program; functions and types are named by their numbers in these lists
pub record UnitCode : Type 0 where
  pub functions : List FunctionCode
  pub types : List TypeRow
  pub globals : List ℤ
  pub tokens : ℕ
  pub main : ℕ
