-- Laws of linear code.
use Rattle.std.specs.Prelude.{◌≡◌, ℕ, ◌+◌, ◌<◌, ◌≤◌, ℤ, true, false, List, [], ◌∷◌, ◌++◌, length, Option, None, Some, find, if◌then◌else◌, slice_get}
use Rattle.region_forms.specs.Form.{Op, Cleanup, Region, TypeRow, RegionFunction, Regions}
use Rattle.region_forms.specs.Guard.{Guard, clauses, listed, everything, matches, allows}
use Rattle.linear_forms.specs.Linear.{label, pad, CodeSite}
use Rattle.linear_forms.specs.Tables.{Cover, bare, unpadded, padded, Sense, cleanup, clause, list_of, look_up, sense_in, label_place}
use Rattle.linear_forms.specs.Verdict.{Verdict, target, no_way, or_clean, verdict, pad_verdict, has_cleanup}
use Rattle.linear_forms.specs.Stub.{compiled}
use Rattle.linear_forms.specs.Activation.{Code, Activation, look}
use Rattle.linear_forms.specs.Sites.{Placed, cover_in, joins, merged, sites_of}
use Rattle.linear_forms.specs.Filters.{filter_for, types_in, lists_in}
use Rattle.linear_forms.specs.Emission.{Emitting, with_cleanup, guarded, cleaned, put, pad_cleanup, exit_cleanup, filters_of}
use Rattle.linear_forms.specs.Unit.{placed_code, function_code, unit_of}
use Rattle.linear_forms.specs.UnitRun.{code_of}
use Rattle.linear_forms.specs.Size.{most_ops}
use Rattle.linear_forms.specs.Copies.{cleans_in, copies}
use Rattle.linear_forms.specs.Means.{Means, AllMean, FiltersMean}
use Rattle.linear_forms.specs.Stands.{FunctionStands}
use Rattle.linear_forms.specs.Agrees.{Agrees, IsSited}

-- each site begins no later than it ends
abbrev pub AreForward : List CodeSite → Type 0
AreForward [] = Unit {0}
AreForward (s ∷ sites) = (s.start ≤ s.end) × AreForward sites

-- no site says the same as the one behind it, where that begins at its end
abbrev pub NoneJoin : List CodeSite → Type 0
NoneJoin [] = Unit {0}
NoneJoin (s ∷ []) = Unit {0}
NoneJoin (s ∷ t ∷ sites) = (joins s t ≡ false) × NoneJoin (t ∷ sites)

-- sites from a place up to another: each begins before it ends, and none before the end of the one before it
abbrev pub AreInOrder : (from to : ℕ) → List CodeSite → Type 0
AreInOrder from to [] = from ≤ to
AreInOrder from to (s ∷ sites) = (from ≤ s.start) × (s.start < s.end) × AreInOrder s.end to sites

-- Joining neighbours changes no look-up and leaves none that could be joined; the sites of code say of each place what covers it,
-- and stand in order inside the code.
pub record SitesAreRight : Type 0 where
  pub kept : (sites : List CodeSite) (p : ℕ) → AreForward sites → look_up (merged sites) p ≡ look_up sites p
  pub joined : (sites : List CodeSite) → NoneJoin (merged sites)
  pub said : (code : List Placed) (p : ℕ) → look_up (sites_of code) p ≡ cover_in code p
  pub ordered : (code : List Placed) → AreInOrder 0 (length code) (sites_of code)

-- With a filter of a cleanup, and with one for several, a chain says of each exception what it said, and of one that nothing in it stops
-- that there is a cleanup; a forced unwind sees that too.
pub record CleanupsAreSeen : Type 0 where
  pub raised : (rows : List TypeRow) (senses : ℤ → Sense) (n : ℤ) (chain : List ℤ) (t : Option ℕ) → senses n ≡ cleanup →
      pad_verdict rows senses (with_cleanup n chain) t ≡ or_clean (verdict rows senses chain t)
  pub forced : (senses : ℤ → Sense) (n : ℤ) (chain : List ℤ) → senses n ≡ cleanup → has_cleanup senses (with_cleanup n chain) ≡ true

-- what the first clause that matches makes of a verdict, if one does
abbrev pub chosen : (Sense → ℤ) → Option (Option ℕ) → Verdict → Verdict
chosen filter None rest = rest
chosen filter (Some u) rest = target (filter (clause u))

-- Of the clauses of a handler's pad the first that matches decides, and the selector is its filter; where none does, what is farther out
-- decides. A specification's list stops what it does not allow, and a foreign exception can't pass it.
pub record HandlersAreChosen : Type 0 where
  pub clauses : (rows : List TypeRow) (senses : ℤ → Sense) (em : Emitting) (ts : List (Option ℕ)) (chain : List ℤ) (t : Option ℕ) →
      AllMean senses em.filter ts →
      verdict rows senses (filters_of em ts ++ chain) t ≡ chosen em.filter (find (matches rows t) ts) (verdict rows senses chain t)
  pub list : (rows : List TypeRow) (senses : ℤ → Sense) (n : ℤ) (types : List ℕ) (chain : List ℤ) (t : ℕ) → senses n ≡ list_of types →
      verdict rows senses (n ∷ chain) (Some t) ≡ (if allows rows types (Some t) then verdict rows senses chain (Some t) else target n)
  pub foreign : (rows : List TypeRow) (senses : ℤ → Sense) (n : ℤ) (types : List ℕ) (chain : List ℤ) → senses n ≡ list_of types →
      verdict rows senses (n ∷ chain) None ≡ no_way

-- Each cleanup of a scope or a handler stands twice in a function's code. In its pad it has no site, and for normal exits it has that of
-- its surroundings.
pub record CleanupsStandTwice : Type 0 where
  pub counted : (f : RegionFunction) → cleans_in (placed_code f) ≡ copies f.body
  pub bare_in_pad : (cl : Cleanup) → (pad_cleanup cl).cover ≡ bare
  pub sited_at_exits : (cl : Cleanup) (o : Op) (c : Cover) → exit_cleanup cl ≡ Some o → (put o c).cover ≡ c

-- the filters of a function mean by its own tables what they are for
abbrev pub FiltersAreRight : Type 0
FiltersAreRight = (r : Region) → FiltersMean (sense_in (types_in r) (lists_in r)) (filter_for (types_in r) (lists_in r)) r

-- the operations of a function's code have this label at a place
abbrev pub HasLabel : RegionFunction → (label place : ℕ) → Type 0
HasLabel f l p = slice_get (function_code f).ops p ≡ Some (label l)

-- a label stands once in a function's code, and is found where it stands
pub record LabelsAreDistinct : Type 0 where
  pub once : (f : RegionFunction) (l p q : ℕ) → HasLabel f l p → HasLabel f l q → p ≡ q
  pub found : (f : RegionFunction) (l p : ℕ) → HasLabel f l p → label_place (function_code f).ops l 0 ≡ p

-- a pad that covers an operation of a function is one of its pads
abbrev pub PadsStand : Type 0
PadsStand = (f : RegionFunction) (p q : ℕ) (chain : List ℤ) → cover_in (placed_code f) p ≡ padded q chain →
    slice_get (function_code f).ops q ≡ Some (pad (length f.slots) (length f.slots + 1))

-- a function's code is no longer than its parts and their ways out make it
abbrev pub CodeIsShort : Type 0
CodeIsShort = (f : RegionFunction) → length (placed_code f) ≤ most_ops f.body + 1

-- in the unit of a program each function stands
abbrev pub FunctionsStand : Type 0
FunctionsStand = (r : Regions) (n : ℕ) (f : RegionFunction) → slice_get r.functions n ≡ Some f → FunctionStands (code_of (unit_of r)) n f

-- The search by tables does what the guards do, inside the extent of each pad as outside it, in a function that is called as at the call,
-- and in main. `f` is the number of the function, `em` what its code is made with, `p` the place of the pad.
pub record SearchIsRight (code : Code) (f : ℕ) (em : Emitting) : Type 0 where
  pub cleaned : (gs : List Guard) (c : Cover) (fs : List Activation) (p : ℕ) → IsSited c → Means (code.sense_at f) em.filter cleanup →
      Agrees code (compiled f) gs c fs → Agrees code (compiled f) gs (cleaned em p c) fs
  pub caught : (gs : List Guard) (c : Cover) (fs : List Activation) (p : ℕ) (ts : List (Option ℕ)) → IsSited c → AllMean (code.sense_at f) em.filter ts →
      Agrees code (compiled f) gs c fs → Agrees code (compiled f) (clauses ts ∷ gs) (guarded p (filters_of em ts) c) fs
  pub limited : (gs : List Guard) (c : Cover) (fs : List Activation) (p : ℕ) (types : List ℕ) → IsSited c →
      Means (code.sense_at f) em.filter (list_of types) → Agrees code (compiled f) gs c fs →
      Agrees code (compiled f) (listed types ∷ gs) (guarded p (em.filter (list_of types) ∷ []) c) fs
  pub barred : (gs : List Guard) (fs : List Activation) → Agrees code (compiled f) (everything ∷ gs) bare fs
  pub called : (g : ℕ) (a : Activation) (gs : List Guard) (c : Cover) (fs : List Activation) → a.function ≡ compiled f →
      look code (compiled f) a.place ≡ c → Agrees code (compiled f) gs c fs → Agrees code (compiled g) gs unpadded (a ∷ fs)
  pub first : Agrees code (compiled f) [] unpadded []

-- so for each program and function
abbrev pub SearchAgrees : Type 0
SearchAgrees = (code : Code) (f : ℕ) (em : Emitting) → SearchIsRight code f em
