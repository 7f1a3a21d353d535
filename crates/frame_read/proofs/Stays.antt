-- Instructions that move no location: their fold is the same from each start but for that.
use Rattle.std.proofs.Common.{◌≡◌, ◌≤◌, ◌<◌, ℕ, true, false, nat_lt, List, [], ◌∷◌, ◌++◌, Some, Ok, Err, refl, ap, sym, subst, ◌∙◌, arith, append_assoc, append-nil, fold}
use Rattle.std.proofs.lemmas.Bool.Decides.{nat_tests}
use Rattle.std.proofs.lemmas.List.Sums.{fold-append}
use Rattle.eh_bytes.specs.Memory.{Part}
use Rattle.table_forms.specs.declared.found.Row.{Row}
use Rattle.table_forms.specs.Fault.{Fault}
use Rattle.table_forms.specs.Instruction.{Instruction, nop, go_to, advance, set_cfa, set_cfa_register, set_cfa_offset, set_rule, restore, remember_state, restore_state, Coding, instruction_at}
use Rattle.table_forms.specs.Instructions.{states_after}
use Rattle.table_forms.specs.Row.{Folding, restored, after, location_after, locations_from}
use Rattle.table_forms.proofs.RowFold.{Below}
use Rattle.frame_read.specs.CieFold.{AllStay, StaysOver, stays}
use Rattle.frame_read.specs.Moves.{location_behind}
use Rattle.frame_read.specs.RowWalk.{IsLeft}
use Rattle.frame_read.proofs.RowWalks.{after_goes, left_behind, left_none, left_whole}

-- one of them
pub stays_at : (i : Instruction) (l : ℕ) → stays i ≡ true → location_after i l ≡ l
stays_at nop l stay = refl
stays_at (go_to m) l stay = absurd cc
stays_at (advance n) l stay = absurd cc
stays_at (set_cfa r n) l stay = refl
stays_at (set_cfa_register r) l stay = refl
stays_at (set_cfa_offset n) l stay = refl
stays_at (set_rule r rule) l stay = refl
stays_at (restore r) l stay = refl
stays_at remember_state l stay = refl
stays_at restore_state l stay = refl

-- a fold at another location
abbrev pub elsewhere : ℕ → Folding → Folding
elsewhere l s = record s { location = l }

stays_after : (i : Instruction) (s : Folding) → stays i ≡ true → (after s i).location ≡ s.location
stays_after nop s stay = refl
stays_after (go_to m) s stay = absurd cc
stays_after (advance n) s stay = absurd cc
stays_after (set_cfa r n) s stay = refl
stays_after (set_cfa_register r) s stay = refl
stays_after (set_cfa_offset n) s stay = refl
stays_after (set_rule r rule) s stay = refl
stays_after (restore r) s stay = refl
stays_after remember_state s stay = refl
stays_after restore_state s stay = by s.states
  where
    by : (rows : List Row) → (restored s rows).location ≡ s.location
    by [] = refl
    by (row ∷ rows) = refl

after_elsewhere : (i : Instruction) (l : ℕ) (s : Folding) → stays i ≡ true → after (elsewhere l s) i ≡ elsewhere l (after s i)
after_elsewhere nop l s stay = refl
after_elsewhere (go_to m) l s stay = absurd cc
after_elsewhere (advance n) l s stay = absurd cc
after_elsewhere (set_cfa r n) l s stay = refl
after_elsewhere (set_cfa_register r) l s stay = refl
after_elsewhere (set_cfa_offset n) l s stay = refl
after_elsewhere (set_rule r rule) l s stay = refl
after_elsewhere (restore r) l s stay = refl
after_elsewhere remember_state l s stay = refl
after_elsewhere restore_state l s stay = by s.states
  where
    by : (rows : List Row) → restored (elsewhere l s) rows ≡ elsewhere l (restored s rows)
    by [] = refl
    by (row ∷ rows) = refl

reaches_none : (i : Instruction) (is : List Instruction) (l : ℕ) → stays i ≡ true → locations_from l (i ∷ is) ≡ locations_from l is
reaches_none nop is l stay = refl
reaches_none (go_to m) is l stay = absurd cc
reaches_none (advance n) is l stay = absurd cc
reaches_none (set_cfa r n) is l stay = refl
reaches_none (set_cfa_register r) is l stay = refl
reaches_none (set_cfa_offset n) is l stay = refl
reaches_none (set_rule r rule) is l stay = refl
reaches_none (restore r) is l stay = refl
reaches_none remember_state is l stay = refl
reaches_none restore_state is l stay = refl

-- ---- all of them
pub fold_elsewhere : (is : List Instruction) (l : ℕ) (s : Folding) → AllStay is → fold after (elsewhere l s) is ≡ elsewhere l (fold after s is)
fold_elsewhere [] l s stay = refl
fold_elsewhere (i ∷ is) l s stay = ap (λ x. fold after x is) (after_elsewhere i l s stay.0) ∙ fold_elsewhere is l (after s i) stay.1

pub stay_below : (is : List Instruction) (q : ℕ) (s : Folding) → AllStay is → s.stopped ≡ false → s.location ≤ q → Below q s is
stay_below [] q s stay goes low = goes
stay_below (i ∷ is) q s stay goes low =
    let same = stays_at i s.location stay.0 in
    let same' = stays_after i s stay.0 in (
      goes,
      grind (arith, nat_tests, same, low),
      stay_below is q (after s i) stay.1 (after_goes s i ∙ goes) (omega (arith, same', low)),
    )

pub stay_reach_none : (is : List Instruction) (l : ℕ) → AllStay is → locations_from l is ≡ []
stay_reach_none [] l stay = refl
stay_reach_none (i ∷ is) l stay = reaches_none i is l stay.0 ∙ stay_reach_none is l stay.1

pub stay_behind : (is : List Instruction) (l : ℕ) → AllStay is → location_behind l is ≡ l
stay_behind [] l stay = refl
stay_behind (i ∷ is) l stay = ap (λ m. location_behind m is) (stays_at i l stay.0) ∙ stay_behind is l stay.1

stay_append : (xs ys : List Instruction) → AllStay xs → AllStay ys → AllStay (xs ++ ys)
stay_append [] ys stay stay' = stay'
stay_append (x ∷ xs) ys stay stay' = (stay.0, stay_append xs ys stay.1 stay')

-- ---- a pass over them in their bytes
pub record HasStayed (c : Coding) (part : Part) (stop : ℕ) (s t : Folding) (all : List Instruction) (behind states p : ℕ) : Type 0 where
  pub taken : List Instruction
  pub rest : List Instruction
  pub both : all ≡ taken ++ rest
  pub is : IsLeft c part stop states p rest behind
  pub over : StaysOver s taken t

pub stay_begins : (c : Coding) (part : Part) (stop states first : ℕ) (s : Folding) (all : List Instruction) (behind : ℕ) →
    IsLeft c part stop states first all behind → HasStayed c part stop s s all behind states first
stay_begins c part stop states first s all behind is = record { taken = []; rest = all; both = refl; is = is; over = record { stay = tt; over = refl } }

pub stay_on : {c : Coding} {part : Part} {stop : ℕ} {s t : Folding} {all : List Instruction} {behind states p : ℕ} (i : Instruction) (next states' : ℕ) (u : Folding) → p < stop → nat_lt p stop ≡ true → p < next →
    instruction_at c part stop p ≡ Ok (i, next) → states_after i states ≡ Some states' → stays i ≡ true → u ≡ after t i →
    HasStayed c part stop s t all behind states p → HasStayed c part stop s u all behind states' next
stay_on {c = c} {part = part} {stop = stop} {s = s} {behind = behind} i next states' u inside test on read counts stay is h =
    let l = left_behind i next inside test on read h.is in
    record {
      taken = h.taken ++ i ∷ [];
      rest = l.rest;
      both = h.both ∙ ap (λ is. h.taken ++ is) l.first ∙ sym (append_assoc h.taken (i ∷ []) l.rest);
      is = subst (λ n. IsLeft c part stop n next l.rest behind) (some_same (sym l.counts ∙ counts)) l.is;
      over = record {
        stay = stay_append h.taken (i ∷ []) h.over.stay (stay, tt);
        over = is ∙ ap (λ x. after x i) h.over.over ∙ sym (fold-append after s h.taken (i ∷ []));
      };
    }
  where
    some_same : {m n : ℕ} → Some m ≡ Some n → m ≡ n
    some_same e = cc

pub stay_whole : {c : Coding} {part : Part} {stop : ℕ} {s t : Folding} {all : List Instruction} {behind states p : ℕ} (f : Fault) → p < stop → nat_lt p stop ≡ true →
    instruction_at c part stop p ≡ Err f → HasStayed c part stop s t all behind states p → ⊥
stay_whole f inside test read h = left_whole f inside test read h.is

pub stay_ends : {c : Coding} {part : Part} {stop : ℕ} {s t : Folding} {all : List Instruction} {behind states p : ℕ} → nat_lt p stop ≡ false →
    HasStayed c part stop s t all behind states p → StaysOver s all t × (states ≡ behind)
stay_ends {s = s} {t = t} outside h =
    let e = left_none outside h.is in
    (subst (λ is. StaysOver s is t) (sym (h.both ∙ ap (λ is. h.taken ++ is) e.0 ∙ append-nil h.taken)) h.over, sym e.1)

-- one that moves the location is one of all
pub stay_not : {c : Coding} {part : Part} {stop : ℕ} {s t : Folding} {all : List Instruction} {behind states p : ℕ} (i : Instruction) (next : ℕ) → p < stop → nat_lt p stop ≡ true → p < next →
    instruction_at c part stop p ≡ Ok (i, next) → stays i ≡ false → HasStayed c part stop s t all behind states p → AllStay all → ⊥
stay_not i next inside test on read moves h stay =
    let l = left_behind i next inside test on read h.is in
    let both = h.both ∙ ap (λ is. h.taken ++ is) l.first in
    let still = of_all h.taken i l.rest (subst AllStay both stay) in
    let wrong : true ≡ false = sym still ∙ moves in absurd cc
  where
    of_all : (xs : List Instruction) (i : Instruction) (ys : List Instruction) → AllStay (xs ++ i ∷ ys) → stays i ≡ true
    of_all [] i ys stay = stay.0
    of_all (x ∷ xs) i ys stay = of_all xs i ys stay.1
