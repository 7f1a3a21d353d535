-- A fold on its way over instructions.
use Rattle.std.proofs.Common.{◌≡◌, ◌≤◌, ◌<◌, ◌+◌, ℕ, zero, suc, Bool, true, false, List, [], ◌∷◌, Option, Some, None, Result, Ok, Err, refl, ap, sym, ◌∙◌, arith, nat_lt, fold}
use Rattle.std.specs.Prelude.{IsSome, IsOk}
use Rattle.eh_bytes.specs.Memory.{Part}
use Rattle.table_forms.specs.Fault.{Fault}
use Rattle.table_forms.specs.Instruction.{Instruction, Coding, instruction_at}
use Rattle.table_forms.specs.Instructions.{Instructions, states_after, and_instructions, instructions_after, instructions_within}
use Rattle.table_forms.specs.Row.{Folding, stepped}
use Rattle.table_forms.proofs.RowFold.{fold_off}
use Rattle.frame_read.specs.States.{states_of, list_of}

abbrev pub states_read : Result ℕ Fault → ℕ
states_read (Ok n) = n
states_read (Err f) = 0

-- a list begins with the instruction at its place
pub begins_with : (c : Coding) (part : Part) (stop states p n : ℕ) (i : Instruction) (next : ℕ) → nat_lt p stop ≡ true →
    instruction_at c part stop p ≡ Ok (i, next) →
    instructions_within (suc n) c part stop p states ≡ instructions_after (part.file_at + p) i (states_after i states) (instructions_within n c part stop next)
unfolding instructions_within
begins_with c part stop states p n i next inside read = rw (inside, read) refl

pub fails_at : (c : Coding) (part : Part) (stop states p n : ℕ) (f : Fault) → nat_lt p stop ≡ true →
    instruction_at c part stop p ≡ Err f → instructions_within (suc n) c part stop p states ≡ Err f
unfolding instructions_within
fails_at c part stop states p n f inside read = rw (inside, read) refl

pub ends_at : (c : Coding) (part : Part) (stop states p : ℕ) → nat_lt p stop ≡ false → (n : ℕ) →
    instructions_within n c part stop p states ≡ Ok (record { list = []; states = states })
unfolding instructions_within
ends_at c part stop states p outside zero = refl
ends_at c part stop states p outside (suc n) = rw outside refl

-- a list that is read whole counts the states after its first instruction
pub counted : (c : Coding) (part : Part) (stop states p n k : ℕ) (i : Instruction) (next : ℕ) → nat_lt p stop ≡ true →
    instruction_at c part stop p ≡ Ok (i, next) → states_of (instructions_within (suc n) c part stop p states) ≡ Ok k → IsSome (states_after i states)
counted c part stop states p n k i next inside read whole =
    by (states_after i states) (ap states_of (sym (begins_with c part stop states p n i next inside read)) ∙ whole)
  where
    by : (o : Option ℕ) → states_of (instructions_after (part.file_at + p) i o (instructions_within n c part stop next)) ≡ Ok k → IsSome o
    by (Some x) w = refl
    by None w = absurd cc

pub and_states : (i : Instruction) (rest : Result Instructions Fault) → states_of (and_instructions i rest) ≡ states_of rest
and_states i (Ok rest) = refl
and_states i (Err f) = refl

pub and_list : (i : Instruction) (rest : Result Instructions Fault) (k : ℕ) → states_of rest ≡ Ok k → list_of (and_instructions i rest) ≡ i ∷ list_of rest
and_list i (Ok rest) k e = refl
and_list i (Err f) k e = absurd cc

-- a fold on its way: what it gives of the rest is what it gives of all
pub record Folds {S : Type 0} (step : S → Instruction → S) (whole : S) (k : ℕ) (c : Coding) (part : Part) (stop : ℕ) (s : S) (states p : ℕ) : Type 0 where
  pub fuel : ℕ
  pub enough : stop ≤ p + fuel
  pub all : whole ≡ fold step s (list_of (instructions_within fuel c part stop p states))
  pub kept : states_of (instructions_within fuel c part stop p states) ≡ Ok k

-- there is a first instruction, and the states after it are counted
pub goes_some : {S : Type 0} {step : S → Instruction → S} {whole : S} {k : ℕ} {c : Coding} {part : Part} {stop : ℕ} {s : S} {states p : ℕ} (i : Instruction) (next : ℕ) →
    p < stop → nat_lt p stop ≡ true → instruction_at c part stop p ≡ Ok (i, next) → Folds step whole k c part stop s states p → IsSome (states_after i states)
goes_some {S = S} {step = step} {whole = whole} {k = k} {c = c} {part = part} {stop = stop} {s = s} {states = states} {p = p} i next inside inside' read w = by w.fuel w.enough w.kept
  where
    by : (n : ℕ) → stop ≤ p + n → states_of (instructions_within n c part stop p states) ≡ Ok k → IsSome (states_after i states)
    by zero enough kept = absurd (omega (arith, enough, inside))
    by (suc n) enough kept = counted c part stop states p n k i next inside' read kept

-- none is refused
pub goes_whole : {S : Type 0} {step : S → Instruction → S} {whole : S} {k : ℕ} {c : Coding} {part : Part} {stop : ℕ} {s : S} {states p : ℕ} (f : Fault) →
    p < stop → nat_lt p stop ≡ true → instruction_at c part stop p ≡ Err f → Folds step whole k c part stop s states p → ⊥
goes_whole {S = S} {step = step} {whole = whole} {k = k} {c = c} {part = part} {stop = stop} {s = s} {states = states} {p = p} f inside inside' read w = by w.fuel w.enough w.kept
  where
    by : (n : ℕ) → stop ≤ p + n → states_of (instructions_within n c part stop p states) ≡ Ok k → ⊥
    by zero enough kept = omega (arith, enough, inside)
    by (suc n) enough kept = let wrong : Err f ≡ Ok k = ap states_of (sym (fails_at c part stop states p n f inside' read)) ∙ kept in cc

-- one instruction on
pub goes_on : {S : Type 0} {step : S → Instruction → S} {whole : S} {k : ℕ} {c : Coding} {part : Part} {stop : ℕ} {s : S} {states p : ℕ} (i : Instruction) (next states' : ℕ) →
    p < stop → nat_lt p stop ≡ true → p < next → instruction_at c part stop p ≡ Ok (i, next) → states_after i states ≡ Some states' →
    Folds step whole k c part stop s states p → Folds step whole k c part stop (step s i) states' next
goes_on {S = S} {step = step} {whole = whole} {k = k} {c = c} {part = part} {stop = stop} {s = s} {states = states} {p = p} i next states' inside inside' on read counts w = by w.fuel w.enough w.all w.kept
  where
    by : (n : ℕ) → stop ≤ p + n → whole ≡ fold step s (list_of (instructions_within n c part stop p states)) →
        states_of (instructions_within n c part stop p states) ≡ Ok k → Folds step whole k c part stop (step s i) states' next
    by zero enough all kept = absurd (omega (arith, enough, inside))
    by (suc n) enough all kept =
        let rest = instructions_within n c part stop next states' in
        let first = begins_with c part stop states p n i next inside' read ∙ ap (λ o. instructions_after (part.file_at + p) i o (instructions_within n c part stop next)) counts in
        let kept' = sym (and_states i rest) ∙ ap states_of (sym first) ∙ kept in
        record {
          fuel = n;
          enough = omega (arith, enough, on);
          all = all ∙ ap (λ r. fold step s (list_of r)) first ∙ ap (fold step s) (and_list i rest k kept');
          kept = kept';
        }

-- one instruction on, where the fold stops
pub goes_off : (pc : ℕ) {whole : Folding} {k : ℕ} {c : Coding} {part : Part} {stop : ℕ} {s : Folding} {states p : ℕ} (i : Instruction) (next : ℕ) →
    p < stop → nat_lt p stop ≡ true → p < next → instruction_at c part stop p ≡ Ok (i, next) → (stepped pc s i).stopped ≡ true →
    Folds (stepped pc) whole k c part stop s states p → whole ≡ stepped pc s i
goes_off pc {whole = whole} {k = k} {c = c} {part = part} {stop = stop} {s = s} {states = states} {p = p} i next inside inside' on read stopped w =
    by (states_after i states) refl (goes_some i next inside inside' read w)
  where
    by : (o : Option ℕ) → states_after i states ≡ o → IsSome o → whole ≡ stepped pc s i
    by None e some = absurd cc
    by (Some states') e some =
        let f = goes_on i next states' inside inside' on read e w in
        f.all ∙ fold_off pc (stepped pc s i) (list_of (instructions_within f.fuel c part stop next states')) stopped

-- at the end
pub goes_out : {S : Type 0} {step : S → Instruction → S} {whole : S} {k : ℕ} {c : Coding} {part : Part} {stop : ℕ} {s : S} {states p : ℕ} →
    nat_lt p stop ≡ false → Folds step whole k c part stop s states p → (whole ≡ s) × (k ≡ states)
goes_out {S = S} {step = step} {whole = whole} {k = k} {c = c} {part = part} {stop = stop} {s = s} {states = states} {p = p} outside w =
    let e = ends_at c part stop states p outside w.fuel in (
      w.all ∙ ap (λ r. fold step s (list_of r)) e,
      ap states_read (sym w.kept ∙ ap states_of e),
    )

pub starts : {S : Type 0} (step : S → Instruction → S) (c : Coding) (part : Part) (stop : ℕ) (s : S) (states p k : ℕ) → states_of (instructions_within stop c part stop p states) ≡ Ok k →
    Folds step (fold step s (list_of (instructions_within stop c part stop p states))) k c part stop s states p
starts step c part stop s states p k kept = record { fuel = stop; enough = omega arith; all = refl; kept = kept }

abbrev pub count_of : Result Instructions Fault → ℕ
count_of (Ok is) = is.states
count_of (Err f) = 0

pub whole_counts : (read : Result Instructions Fault) → IsOk read → states_of read ≡ Ok (count_of read)
whole_counts (Ok is) ok = refl
whole_counts (Err f) ok = absurd cc

-- a fold that has stopped is the same over each list
pub same_off : (pc : ℕ) (s : Folding) (b : Bool) (xs ys : List Instruction) → s.stopped ≡ b → (b ≡ false → xs ≡ ys) → fold (stepped pc) s xs ≡ fold (stepped pc) s ys
same_off pc s true xs ys stopped same = fold_off pc s xs stopped ∙ sym (fold_off pc s ys stopped)
same_off pc s false xs ys stopped same = ap (fold (stepped pc) s) (same refl)
