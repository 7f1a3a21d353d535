-- What is known of the indices of lists that were judged.
use Rattle.std.specs.Prelude.{◌≡◌, ◌<◌, ◌≤◌, ◌+◌, ◌==◌, ◌||◌, ℕ, suc, ℤ, negsuc, Bool, List, [], ◌∷◌, length, Option, Some, None, Ok, ⊤, if◌then◌else◌}
use Rattle.eh_bytes.specs.Memory.{Part, Memory}
use Rattle.table_forms.specs.declared.reason.Reason.TheVariants.{FilterOutside, SpecificationOpen}
use Rattle.table_forms.specs.Fault.{Fault, fault, joined, least, refusal_of}
use Rattle.table_forms.specs.LsdaHead.{Head, Types}
use Rattle.table_forms.specs.LsdaTypes.{entry_at, index_at, indices_within, list_faults}
use Rattle.lsda_read.specs.declared.known.ListEnd.{ListEnd}
use Rattle.lsda_read.specs.declared.list_walk.Met.{Met}
use Rattle.lsda_read.specs.declared.list_walk.ListTurn.{ListTurn}
use Rattle.lsda_read.specs.declared.list_walk.ListTurn.TheVariants as turns

-- an entry outside of the types is refused at the record that names it
abbrev pub outside_fault : Part → ℕ → Bool → Option Fault
outside_fault part named_at outside = if outside then Some (fault FilterOutside (part.file_at + named_at)) else None

-- a list that no 0 ends is refused at its own first byte
abbrev pub open_fault : Part → ℕ → Bool → Option Fault
open_fault part first cut = if cut then Some (fault SpecificationOpen (part.file_at + first)) else None

abbrev pub list_end : Part → ℕ → ℕ → ListEnd → Option Fault
list_end part named_at first e = joined (outside_fault part named_at e.outside) (open_fault part first e.cut)

-- what answers of a list from p on
abbrev pub rest_of_list : Memory → Part → Head → Types → ℕ → ℕ → ℕ → ℕ → Option Fault
rest_of_list memory part h types named_at first n p = least (list_faults memory part h types named_at (indices_within n part first p))

-- to what stands already a list that goes on at p adds what its end does, and nothing else
abbrev pub AddsList : Memory → Part → Head → Types → Option Fault → ℕ → ListEnd → Type 0
AddsList memory part h types stands p e = (n named_at first : ℕ) → length part.bytes < p + n →
    joined stands (rest_of_list memory part h types named_at first n p) ≡ joined stands (list_end part named_at first e)

abbrev pub AreListsKnown : Memory → Part → Head → Option Fault → (ℕ → Option ListEnd) → Type 0
AreListsKnown memory part h stands lists =
    (types : Types) (p : ℕ) (e : ListEnd) → h.types ≡ Some types → lists p ≡ Some e → AddsList memory part h types stands p e

-- entry i is judged where a record names it; whether it lies outside is all that another record would add
pub record IsEntryJudged (memory : Memory) (part : Part) (h : Head) (types : Types) (before now : Option Fault) (named_at i : ℕ) (outside : Bool) : Type 0 where
  pub more : Option Fault
  pub stands : now ≡ joined before (least (refusal_of (entry_at memory part h types named_at i)))
  pub entry : (place : ℕ) → least (refusal_of (entry_at memory part h types place i)) ≡ joined more (outside_fault part place outside)

-- the index at p, and the place behind it
pub record IsIndex (part : Part) (p k next : ℕ) : Type 0 where
  pub some : 0 < k
  pub on : p < next
  pub inside : next ≤ length part.bytes
  pub read : (first : ℕ) → index_at part first p ≡ Ok (k, next)

-- the list ends at p; but for its end all is judged
pub record IsListOver (memory : Memory) (part : Part) (h : Head) (types : Types) (before now : Option Fault) (p : ℕ) (e : ListEnd) : Type 0 where
  pub more : Option Fault
  pub stands : now ≡ joined before more
  pub rest : (named_at first n : ℕ) → rest_of_list memory part h types named_at first (suc n) p ≡ joined more (list_end part named_at first e)

abbrev pub IsListTurn : Memory → Part → Head → Types → Option Fault → Option Fault → ℕ → ListTurn → Type 0
IsListTurn memory part h types before now p (turns.On k next) = IsIndex part p k next × (now ≡ before)
IsListTurn memory part h types before now p (turns.Over e) = IsListOver memory part h types before now p e

-- the end of a list whose entry at the front may lie outside
abbrev pub and_outside : Bool → ListEnd → ListEnd
and_outside outside e = record { outside = outside || e.outside; cut = e.cut }

-- the end of a list that begins with these indices
abbrev pub end_along : List Met → ListEnd → ListEnd
end_along [] e = e
end_along (m ∷ path) e = and_outside m.outside (end_along path e)

-- what was known, and the ends from each index of a path on
abbrev pub with_indices : List Met → ListEnd → (ℕ → Option ListEnd) → ℕ → Option ListEnd
with_indices [] e lists p = lists p
with_indices (m ∷ path) e lists p = if m.place == p then Some (end_along (m ∷ path) e) else with_indices path e lists p

-- what is known from each index of a path on
abbrev pub AreAlong : Memory → Part → Head → Types → Option Fault → ListEnd → List Met → Type 0
AreAlong memory part h types stands e [] = ⊤
AreAlong memory part h types stands e (m ∷ path) = AddsList memory part h types stands m.place (end_along (m ∷ path) e) × AreAlong memory part h types stands e path

-- a list was walked to its end: but for the end all that is refused of it stands, and it is known how it ends from each index of the path on
pub record IsListWalked (memory : Memory) (part : Part) (h : Head) (types : Types) (named_at first : ℕ) (whole stands : Option Fault) (lists : ℕ → Option ListEnd) (path : List Met) (e : ListEnd) : Type 0 where
  pub total : whole ≡ joined stands (list_end part named_at first e)
  pub walked : AreAlong memory part h types stands e path
  pub others : (p : ℕ) (e' : ListEnd) → lists p ≡ Some e' → AddsList memory part h types stands p e'

-- the list that a filter names begins here
pub record IsListOf (part : Part) (h : Head) (filter : ℤ) (types : Types) (first : ℕ) : Type 0 where
  pub behind : ℕ
  pub names : filter ≡ negsuc behind
  pub typed : h.types ≡ Some types
  pub begins : first ≡ types.base + behind
  pub inside : first ≤ length part.bytes
