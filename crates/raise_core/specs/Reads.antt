-- The tables of a machine that frames were read from.
use Rattle.std.specs.Prelude.{◌≡◌, ◌==◌, ◌+◌, ◌^◌, ◌&&◌, ◌||◌, nat_lt, ℕ, Bool, true, Ok, is_ok}
use Rattle.std.specs.List.{list_all}
use Rattle.eh_bytes.specs.Memory.{Memory}
use Rattle.table_forms.specs.Frames as forms
use Rattle.table_forms.specs.Lsda.{lsda}
use Rattle.frame_read.specs.declared.listed.Fde.{Fde}
use Rattle.frame_read.specs.ReadsFrames.{Listing, listing}
use Rattle.rv64_isa.specs.State.{State}
use Rattle.frame_walk.specs.Outward.{tables_of}

-- the exception table that an FDE names, if any, can be read for its function, whose region ends in the address space
abbrev pub is_readable : Memory → Fde → Bool
is_readable memory f = f.lsda == 0 || (nat_lt (f.region.start + f.region.length) (2 ^ 64) && is_ok (lsda memory f.lsda f.region))

abbrev pub are_readable : State → Listing → Bool
are_readable s frames = list_all (is_readable (tables_of s)) frames.fdes

-- these frames are what is read of the machine's tables, and each exception table that they name can be read
pub record AreTables (s : State) (frames : Listing) : Type 0 where
  pub header : ℕ
  pub read : forms.Frames
  pub reads : forms.frames (tables_of s) header ≡ Ok read
  pub lists : frames ≡ listing read
  pub tables : are_readable s frames ≡ true
