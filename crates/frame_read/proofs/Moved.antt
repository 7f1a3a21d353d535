-- Instructions one after the other move to what they move to together.
use Rattle.std.proofs.Common.{◌≡◌, ◌+◌, ◌<◌, ◌^◌, ℕ, true, false, nat_lt, List, [], ◌∷◌, ◌++◌, Ok, Err, refl, ap, sym, subst, ◌∙◌, arith, append_assoc, append-nil}
use Rattle.std.specs.Prelude.{min, filter}
use Rattle.std.proofs.lemmas.List.Elements.{filter-append}
use Rattle.std.proofs.lemmas.List.Sums.{fold-append}
use Rattle.eh_bytes.specs.declared.frames.Region64.{Region64}
use Rattle.eh_bytes.specs.Memory.{Part}
use Rattle.table_forms.specs.Fault.{Fault}
use Rattle.table_forms.specs.Instruction.{Instruction, nop, go_to, advance, set_cfa, set_cfa_register, set_cfa_offset, set_rule, restore, remember_state, restore_state, Coding, instruction_at}
use Rattle.table_forms.specs.Row.{location_after, locations_from}
use Rattle.table_forms.specs.Fde.{Fde, is_in}
use Rattle.frame_read.specs.Moves.{location_behind, moves_inside, MovesOver}
use Rattle.frame_read.specs.Known.{IsKnown}
use Rattle.frame_read.specs.RowWalk.{IsLeft}
use Rattle.frame_read.specs.Seen.{coding_seen}
use Rattle.frame_read.specs.States.{list_of, states_of}
use Rattle.frame_read.specs.declared.lookup.FdeHere.{FdeHere}
use Rattle.frame_read.specs.declared.moves.Moves.{Moves}
use Rattle.frame_read.proofs.RowWalks.{left_behind, left_none, left_whole}

pub locations_append : (xs ys : List Instruction) (l : ℕ) → locations_from l (xs ++ ys) ≡ locations_from l xs ++ locations_from (location_behind l xs) ys
locations_append [] ys l = refl
locations_append (go_to m ∷ xs) ys l = ap (λ ls. m ∷ ls) (locations_append xs ys m)
locations_append (advance n ∷ xs) ys l = ap (λ ls. (l + n) ∷ ls) (locations_append xs ys (l + n))
locations_append (nop ∷ xs) ys l = locations_append xs ys l
locations_append (set_cfa r n ∷ xs) ys l = locations_append xs ys l
locations_append (set_cfa_register r ∷ xs) ys l = locations_append xs ys l
locations_append (set_cfa_offset n ∷ xs) ys l = locations_append xs ys l
locations_append (set_rule r rule ∷ xs) ys l = locations_append xs ys l
locations_append (restore r ∷ xs) ys l = locations_append xs ys l
locations_append (remember_state ∷ xs) ys l = locations_append xs ys l
locations_append (restore_state ∷ xs) ys l = locations_append xs ys l

pub moves_append : (region : Region64) (xs ys : List Instruction) (l : ℕ) → moves_inside region l (xs ++ ys) ≡ moves_inside region l xs ++ moves_inside region (location_behind l xs) ys
moves_append region xs ys l =
    ap (filter (is_in region)) (locations_append xs ys l) ∙ filter-append (is_in region) (locations_from l xs) (locations_from (location_behind l xs) ys)

-- none so far
pub moves_none : (m : Moves) (l : ℕ) → m.location ≡ min l (2 ^ 64) → MovesOver m m l []
moves_none m l at = record { at = at; reached = sym (append-nil m.reached.items) }

-- some more
pub moves_more : (a b c : Moves) (l : ℕ) (xs ys : List Instruction) → b.region ≡ a.region → MovesOver a b l xs → MovesOver b c (location_behind l xs) ys → MovesOver a c l (xs ++ ys)
moves_more a b c l xs ys same first then = record {
  at = then.at ∙ ap (λ n. min n (2 ^ 64)) (sym (fold-append (λ n i. location_after i n) l xs ys));
  reached = then.reached ∙ ap (λ r. b.reached.items ++ moves_inside r (location_behind l xs) ys) same
      ∙ ap (λ ls. ls ++ moves_inside a.region (location_behind l xs) ys) first.reached ∙ append_assoc a.reached.items (moves_inside a.region l xs) (moves_inside a.region (location_behind l xs) ys)
      ∙ ap (λ ls. a.reached.items ++ ls) (sym (moves_append a.region xs ys l));
}

-- ---- a pass over instructions in their bytes: those that were taken, and those that are left from a place on
pub record HasMoved (c : Coding) (part : Part) (stop : ℕ) (old new : Moves) (location : ℕ) (all : List Instruction) (behind p : ℕ) : Type 0 where
  pub taken : List Instruction
  pub rest : List Instruction
  pub states : ℕ
  pub both : all ≡ taken ++ rest
  pub is : IsLeft c part stop states p rest behind
  pub over : MovesOver old new location taken

pub pass_begins : (c : Coding) (part : Part) (stop states first : ℕ) (m : Moves) (location : ℕ) (all : List Instruction) (behind : ℕ) → m.location ≡ min location (2 ^ 64) →
    IsLeft c part stop states first all behind → HasMoved c part stop m m location all behind first
pass_begins c part stop states first m location all behind at is =
    record { taken = []; rest = all; states = states; both = refl; is = is; over = moves_none m location at }

-- one instruction on
pub pass_on : {c : Coding} {part : Part} {stop : ℕ} {old new : Moves} {location : ℕ} {all : List Instruction} {behind p : ℕ} (i : Instruction) (next : ℕ) (newer : Moves) → p < stop → nat_lt p stop ≡ true →
    p < next → instruction_at c part stop p ≡ Ok (i, next) → new.region ≡ old.region → ((l : ℕ) → new.location ≡ min l (2 ^ 64) → MovesOver new newer l (i ∷ [])) →
    HasMoved c part stop old new location all behind p → HasMoved c part stop old newer location all behind next
pass_on {old = old} {new = new} {location = location} i next newer inside test on read same step h =
    let l = left_behind i next inside test on read h.is in
    record {
      taken = h.taken ++ i ∷ [];
      rest = l.rest;
      states = l.states';
      both = h.both ∙ ap (λ is. h.taken ++ is) l.first ∙ sym (append_assoc h.taken (i ∷ []) l.rest);
      is = l.is;
      over = moves_more old new newer location h.taken (i ∷ []) same h.over (step (location_behind location h.taken) h.over.at);
    }

-- none is refused
pub pass_whole : {c : Coding} {part : Part} {stop : ℕ} {old new : Moves} {location : ℕ} {all : List Instruction} {behind p : ℕ} (f : Fault) → p < stop → nat_lt p stop ≡ true →
    instruction_at c part stop p ≡ Err f → HasMoved c part stop old new location all behind p → ⊥
pass_whole f inside test read h = left_whole f inside test read h.is

-- at the end all were taken
pub pass_ends : {c : Coding} {part : Part} {stop : ℕ} {old new : Moves} {location : ℕ} {all : List Instruction} {behind p : ℕ} → nat_lt p stop ≡ false →
    HasMoved c part stop old new location all behind p → MovesOver old new location all
pass_ends {old = old} {new = new} {location = location} outside h =
    subst (MovesOver old new location) (sym (h.both ∙ ap (λ is. h.taken ++ is) (left_none outside h.is).0 ∙ append-nil h.taken)) h.over

-- ---- the instructions of an FDE that was read before, and those of its CIE
pub common_left : (part : Part) (h : FdeHere) (f : Fde) (known : IsKnown part h f) → IsLeft (coding_seen h.cie.coding) part h.cie.stop 0 h.cie.first known.common.list known.common.states
common_left part h f known = record { fuel = h.cie.stop; enough = omega arith; list = sym (ap list_of known.common_read); kept = ap states_of known.common_read }

pub own_left : (part : Part) (h : FdeHere) (f : Fde) (known : IsKnown part h f) →
    IsLeft (coding_seen h.cie.coding) part h.fde.stop known.common.states h.fde.first known.own.list known.own.states
own_left part h f known = record { fuel = h.fde.stop; enough = omega arith; list = sym (ap list_of known.own_read); kept = ap states_of known.own_read }

-- the start is reached first
pub all_reached : (region : Region64) (xs ys : List Instruction) (a b c : Moves) → a.region ≡ region → a.reached.items ≡ filter (is_in region) (region.start ∷ []) → b.region ≡ a.region →
    MovesOver a b region.start xs → MovesOver b c (location_behind region.start xs) ys → c.reached.items ≡ filter (is_in region) (region.start ∷ locations_from region.start (xs ++ ys))
all_reached region xs ys a b c same start kept first then =
    let both = moves_more a b c region.start xs ys kept first then in
    both.reached ∙ ap (λ r. a.reached.items ++ moves_inside r region.start (xs ++ ys)) same ∙ ap (λ ls. ls ++ moves_inside region region.start (xs ++ ys)) start ∙
    sym (filter-append (is_in region) (region.start ∷ []) (locations_from region.start (xs ++ ys)))
