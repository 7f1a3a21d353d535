-- Action records and their chains (Itanium C++ ABI, "Exception Handling Tables": a filter, and the displacement of the next record).
use Rattle.std.specs.Prelude.{ℕ, zero, suc, ℤ, pos, negsuc, ◌+◌, ◌-◌, nat_lt, List, [], ◌∷◌, length, take, Option, Some, None, Result, Ok, Err, if◌then◌else◌}
use Rattle.eh_bytes.specs.declared.error.ByteError.{ByteError}
use Rattle.eh_bytes.specs.declared.error.ByteError.TheVariants as causes
use Rattle.eh_bytes.specs.Memory.{Part}
use Rattle.eh_bytes.specs.Field.{at}
use Rattle.eh_bytes.specs.Leb128.{sleb}
use Rattle.table_forms.specs.declared.found.Next.{Next}
use Rattle.table_forms.specs.declared.found.Next.TheVariants.{Ends, Leaves, Goes}
use Rattle.table_forms.specs.declared.found.Action.{Action}
use Rattle.table_forms.specs.declared.found.Action.TheVariants.{Record, Outside, Ranged}
use Rattle.table_forms.specs.declared.reason.Reason.TheVariants.{LebRange, ActionOutside, ActionLoop}
use Rattle.table_forms.specs.Fault.{Fault, fault}
use Rattle.table_forms.specs.LsdaHead.{Head, Types}
use Rattle.table_forms.specs.Walk.{Returns}

-- a record of a chain: where it stands, and its filter
pub record Link : Type 0 where
  pub at : ℕ
  pub filter : ℤ

-- how a chain ends: by displacement 0, by a record that lies outside, by one that it met before, or by a number out of range
pub data Ending : Type 0 where
  ended : Ending
  outside : Ending
  repeated : Ending
  ranged : ℕ → Ending

pub record Chain : Type 0 where
  pub links : List Link
  pub ending : Ending

-- records end at or before the base, without types at or before the part's end
abbrev pub action_end : Part → Option Types → ℕ
action_end part None = length part.bytes
action_end part (Some types) = types.base

-- the record at a displacement, which counts from its own place; 0 ends the chain
abbrev pub next_of : ℕ → ℤ → Next
next_of p (pos zero) = Ends
next_of p (pos (suc n)) = Goes (p + suc n)
next_of p (negsuc n) = if nat_lt n p then Goes (p - 1 - n) else Leaves

-- a record that its end cuts lies outside; a number out of range is refused where it stands
abbrev pub fails_at : ℕ → ByteError → Action
fails_at p causes.LebRange = Ranged p
fails_at p _ = Outside

abbrev pub with_displacement : ℤ → ℕ → Result (ℤ × ℕ) ByteError → Action
with_displacement filter p (Ok (d, next)) = Record filter (next_of p d)
with_displacement filter p (Err cause) = fails_at p cause

abbrev pub with_filter : List ℕ → ℕ → Result (ℤ × ℕ) ByteError → Action
with_filter bytes p (Ok (filter, next)) = with_displacement filter next (at sleb bytes next)
with_filter bytes p (Err cause) = fails_at p cause

-- the record at a place of bytes that end with the action table, which begins at this place
unfoldable pub action_in : List ℕ → ℕ → ℕ → Action
action_in bytes actions_at p = if nat_lt p actions_at then Outside else with_filter bytes p (at sleb bytes p)

abbrev pub action_at : Part → Head → ℕ → Action
action_at part h p = action_in (take (action_end part h.types) part.bytes) h.actions_at p

abbrev pub no_links : Ending → Chain
no_links e = record { links = []; ending = e }

abbrev pub and_links : Link → Chain → Chain
and_links l rest = record { links = l ∷ rest.links; ending = rest.ending }

abbrev pub next_links : Next → (ℕ → Chain) → Chain
next_links Ends more = no_links ended
next_links Leaves more = no_links outside
next_links (Goes p) more = more p

abbrev pub links_from : ℕ → Action → (ℕ → Chain) → Chain
links_from p Outside more = no_links outside
links_from p (Ranged q) more = no_links (ranged q)
links_from p (Record filter next) more = and_links (record { at = p; filter = filter }) (next_links next more)

-- the chain from a place on; where it has not ended after so many records, one came again
unfoldable pub links_within : ℕ → Part → Head → ℕ → Chain
links_within zero part h p = no_links repeated
links_within (suc n) part h p = links_from p (action_at part h p) (links_within n part h)

-- the first record of action a stands at byte a - 1 of the action table
abbrev pub first_record : Head → ℕ → ℕ
first_record h a = h.actions_at + a - 1

-- the chain of an action; more records than the part has bytes can't all begin at different bytes
abbrev pub chain_of : Part → Head → ℕ → Chain
chain_of part h a = links_within (1 + length part.bytes) part h (first_record h a)

-- a record that lies outside is refused at the site, one that comes again at the first record, a number out of range at it
abbrev pub ending_faults : Part → Head → ℕ → ℕ → Ending → List Fault
ending_faults part h site a ended = []
ending_faults part h site a outside = fault ActionOutside (part.file_at + site) ∷ []
ending_faults part h site a repeated = fault ActionLoop (part.file_at + first_record h a) ∷ []
ending_faults part h site a (ranged p) = fault LebRange (part.file_at + p) ∷ []

-- the place of the record behind the one at a place, where that is a record and not the last one
abbrev pub goes_to : Action → Option ℕ
goes_to (Record filter (Goes p)) = Some p
goes_to _ = None

abbrev pub next_record : Part → Head → ℕ → Option ℕ
next_record part h p = goes_to (action_at part h p)

-- the chain of an action comes to one record twice
abbrev pub MeetsTwice : Part → Head → ℕ → Type 0
MeetsTwice part h a = Returns (next_record part h) (first_record h a)
