-- What is kept of an FDE and its CIE was read before.
use Rattle.std.proofs.Common.{◌≡◌, ◌<◌, ℕ, List, length, map, slice_get, slice_index_or, Option, Some, Result, Ok, Err, refl, ap, sym, ◌∙◌, subst, option_map}
use Rattle.std.proofs.lemmas.Option.{slice_get-get_or, slice_get-map}
use Rattle.std.specs.Prelude.{All, IsOk}
use Rattle.eh_bytes.specs.Memory.{Part}
use Rattle.table_forms.specs.Cie.{Cie}
use Rattle.table_forms.specs.Fault.{Fault}
use Rattle.table_forms.specs.Fde.{Fde}
use Rattle.table_forms.specs.Instruction.{Coding, Instruction}
use Rattle.table_forms.specs.Instructions.{Instructions, instructions_at}
use Rattle.frame_read.specs.Heads.{cie_with, fde_with}
use Rattle.frame_read.specs.Known.{IsKnown}
use Rattle.frame_read.specs.Ready.{here_seen, IsReady}
use Rattle.frame_read.specs.Seen.{coding_seen}
use Rattle.frame_read.specs.States.{list_of, states_of}
use Rattle.frame_read.specs.declared.cie_part.CiePart.{CiePart}
use Rattle.frame_read.specs.declared.lookup.FdeHere.{FdeHere}

-- the CIE by its instructions and the count of states
abbrev cie_by : Part → CiePart → List Instruction → ℕ → Cie
cie_by part c is n = cie_with part c (record { list = is; states = n })

abbrev fde_by : Part → FdeHere → List Instruction → ℕ → List Instruction → Fde
fde_by part h is n own = fde_with part (cie_by part h.cie is n) h.fde (record { list = own; states = n })

ok_same : (m n : ℕ) → (λ (w : Result ℕ Fault). w) (Ok m) ≡ Ok n → m ≡ n
ok_same m n e = cc

pub ready_known : (bytes : List ℕ) (part : Part) (h : FdeHere) → IsReady bytes part h → IsKnown part h (here_seen part h)
ready_known bytes part h r = by (instructions_at c part h.cie.stop h.cie.first 0) (instructions_at c part h.fde.stop h.fde.first h.cie.states) refl refl r.whole r.own
  where
    c : Coding
    c = coding_seen h.cie.coding

    by : (x y : Result Instructions Fault) → instructions_at c part h.cie.stop h.cie.first 0 ≡ x → instructions_at c part h.fde.stop h.fde.first h.cie.states ≡ y → states_of x ≡ Ok h.cie.states → IsOk y →
        IsKnown part h (here_seen part h)
    by (Ok common) (Ok own) e d counts ok =
        let same = ok_same common.states h.cie.states counts in
        record {
          common = common;
          own = own;
          common_read = e;
          own_read = ap (instructions_at c part h.fde.stop h.fde.first) same ∙ d;
          same =
              ap (λ (x : Result Instructions Fault). fde_by part h (list_of x) h.cie.states (list_of (instructions_at c part h.fde.stop h.fde.first h.cie.states))) e
              ∙ ap (λ (y : Result Instructions Fault). fde_by part h common.list h.cie.states (list_of y)) d
              ∙ ap (λ n. fde_by part h common.list n own.list) (sym same);
        }
    by (Ok common) (Err f) e d counts ok = absurd cc
    by (Err f) y e d counts ok = absurd cc

-- the one that is kept with a number is what the view has there, and is ready
pub kept_at : (bytes : List ℕ) (part : Part) (fdes : List FdeHere) (n : ℕ) (h d : FdeHere) (f : Fde) → All (IsReady bytes part) fdes → n < length fdes → h ≡ slice_index_or fdes n d →
    slice_get (map (here_seen part) fdes) n ≡ Some f → IsReady bytes part h × (f ≡ here_seen part h)
kept_at bytes part fdes n h d f ready inside is at =
    let there = ap (option_map (here_seen part)) (slice_get-get_or fdes n d inside) in
    let same = some_fde f (here_seen part (slice_index_or fdes n d)) (sym at ∙ slice_get-map (here_seen part) fdes n ∙ there) in
    (subst (IsReady bytes part) (sym is) (ready n d inside), same ∙ sym (ap (here_seen part) is))
  where
    some_fde : (a b : Fde) → (λ (w : Option Fde). w) (Some a) ≡ Some b → a ≡ b
    some_fde a b e = cc
