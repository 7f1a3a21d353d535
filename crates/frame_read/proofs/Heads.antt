-- An FDE that was read before: what its head leaves to read can be read.
use Rattle.std.proofs.Common.{◌≡◌, ℕ, Option, Some, None, Result, Ok, Err, refl, ap, sym, ◌∙◌}
use Rattle.eh_bytes.specs.Memory.{Part}
use Rattle.table_forms.specs.Fault.{Fault, ◌>>=◌}
use Rattle.table_forms.specs.Instructions.{Instructions, instructions_at}
use Rattle.table_forms.specs.Cie.{Cie}
use Rattle.table_forms.specs.Fde.{Fde, fde_at}
use Rattle.table_forms.specs.Spans.{Span}
use Rattle.frame_read.specs.Seen.{coding_seen}
use Rattle.frame_read.specs.Entry.{ok_of, fde_behind}
use Rattle.frame_read.specs.Heads.{cie_with, cie_after, fde_with, fde_after}
use Rattle.frame_read.specs.Known.{IsKnown}
use Rattle.frame_read.specs.declared.cie_part.CiePart.{CiePart}
use Rattle.frame_read.specs.declared.lookup.FdeHere.{FdeHere}

-- a CIE, by what is left to read of it
pub record ReadAfter (part : Part) (c : CiePart) (cie : Cie) : Type 0 where
  pub instructions : Instructions
  pub read : instructions_at (coding_seen c.coding) part c.stop c.first 0 ≡ Ok instructions
  pub same : cie_with part c instructions ≡ cie

pub read_after : (part : Part) (c : CiePart) (cie : Cie) → cie_after part c ≡ Ok cie → ReadAfter part c cie
read_after part c cie after = by (instructions_at (coding_seen c.coding) part c.stop c.first 0) refl after
  where
    by : (r : Result Instructions Fault) → instructions_at (coding_seen c.coding) part c.stop c.first 0 ≡ r → (r >>= λ is. Ok (cie_with part c is)) ≡ Ok cie → ReadAfter part c cie
    by (Ok is) e after = record { instructions = is; read = e; same = cc }
    by (Err f) e after = absurd cc

-- an FDE behind its CIE
pub record ReadBehind (part : Part) (s : Span) (next : ℕ) (there : Option Cie) (f : Fde) : Type 0 where
  pub cie : Cie
  pub found : there ≡ Some cie
  pub read : fde_at cie part s.at s.stop next ≡ Ok f

pub read_behind : (part : Part) (s : Span) (next : ℕ) (there : Option Cie) (f : Fde) → fde_behind part s next there ≡ Some f → ReadBehind part s next there f
read_behind part s next None f e = absurd cc
read_behind part s next (Some cie) f e = by (fde_at cie part s.at s.stop next) refl e
  where
    by : (r : Result Fde Fault) → fde_at cie part s.at s.stop next ≡ r → ok_of r ≡ Some f → ReadBehind part s next (Some cie) f
    by (Ok g) is e = record { cie = cie; found = refl; read = is ∙ same g f e }
      where
        same : (x y : Fde) → (λ (w : Option Fde). w) (Some x) ≡ Some y → (λ (w : Result Fde Fault). w) (Ok x) ≡ Ok y
        same x y e = cc
    by (Err g) is e = absurd cc

-- with the head of the FDE
pub is_known : (part : Part) (h : FdeHere) (cie : Cie) (f : Fde) (at stop next : ℕ) → cie_after part h.cie ≡ Ok cie → fde_at cie part at stop next ≡ Ok f →
    ((is : Instructions) → fde_at (cie_with part h.cie is) part at stop next ≡ fde_after part (cie_with part h.cie is) h.fde) → IsKnown part h f
is_known part h cie f at stop next after read head =
    let c = read_after part h.cie cie after in
    by c (instructions_at (coding_seen h.cie.coding) part h.fde.stop h.fde.first c.instructions.states) refl
    (sym (head c.instructions) ∙ ap (λ (x : Cie). fde_at x part at stop next) c.same ∙ read)
  where
    same : (x y : Fde) → (λ (w : Result Fde Fault). w) (Ok x) ≡ Ok y → y ≡ x
    same x y e = cc

    by : (c : ReadAfter part h.cie cie) (r : Result Instructions Fault) → instructions_at (coding_seen h.cie.coding) part h.fde.stop h.fde.first c.instructions.states ≡ r →
        (r >>= λ is. Ok (fde_with part (cie_with part h.cie c.instructions) h.fde is)) ≡ Ok f → IsKnown part h f
    by c (Ok own) e after = record {
      common = c.instructions;
      own = own;
      common_read = c.read;
      own_read = e;
      same = same (fde_with part (cie_with part h.cie c.instructions) h.fde own) f after;
    }
    by c (Err g) e after = absurd cc

-- it is not refused
pub not_refused : (part : Part) (c : CiePart) (cie : Cie) (f : Fde) (at stop next : ℕ) (g : Fault) → cie_after part c ≡ Ok cie → fde_at cie part at stop next ≡ Ok f →
    ((is : Instructions) → fde_at (cie_with part c is) part at stop next ≡ Err g) → ⊥
not_refused part c cie f at stop next g after read refused =
    let r = read_after part c cie after in
    let wrong : Err g ≡ Ok f = sym (refused r.instructions) ∙ ap (λ (x : Cie). fde_at x part at stop next) r.same ∙ read in cc
