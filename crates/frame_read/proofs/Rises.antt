-- The places of parts rise.
use Rattle.std.proofs.Common.{◌≡◌, ◌+◌, ℕ, zero, suc, Bool, true, false, nat_lt, nat_le, List, length, drop, take, Option, Some, None, option_map, Result, Ok, Err, refl, ap, sym, subst, arith, if◌then◌else◌}
use Rattle.std.specs.Int.{w32, from_le_bytes}
use Rattle.eh_bytes.specs.declared.frames.Region64.{Region64}
use Rattle.eh_bytes.specs.declared.error.ByteError.TheVariants.{Truncated}
use Rattle.eh_bytes.specs.Memory.{Part}
use Rattle.eh_bytes.specs.Field.{fixed, behind}
use Rattle.table_forms.specs.Fault.{Fault, with_reason, frame_reason}
use Rattle.table_forms.specs.Instruction.{in_frames}
use Rattle.table_forms.specs.Cie.{Cie, cie_at}
use Rattle.table_forms.specs.Spans.{Span, spans_from, spans_after, spans_within, distance_at}
use Rattle.table_forms.specs.Parts.{cie_of, cies_of, region_behind, region_of, regions_of, cie_behind}
use Rattle.frame_read.specs.Rises.{RisesBy}
use Rattle.frame_read.specs.SeenPart.{entry_seen, entries_seen}
use Rattle.frame_read.specs.declared.entry.CieEntry.{CieEntry}
use Rattle.frame_read.proofs.Halves.{lower, rises_filtered, rises_mapped}
use Rattle.frame_read.proofs.Overlaps.{Rising}

-- the places of lengths rise, and the first is at n or above
abbrev pub Rise : ℕ → List Span → Type 0
Rise n spans = RisesBy (λ (s : Span). s.at) n spans

abbrev next_read : Result (ℕ × ℕ) Fault → ℕ
next_read (Ok x) = x.1
next_read (Err f) = 0

-- a number of four bytes is followed by the place behind it
pub next_place : (part : Part) (stop p n next : ℕ) → in_frames (fixed w32) part stop p ≡ Ok (n, next) → next ≡ p + 4
next_place part stop p n next read = by (nat_lt (length (drop p (take stop part.bytes))) 4) read
  where
    by : (b : Bool) → with_reason frame_reason (part.file_at + p) (behind p (if b then Err Truncated else Ok (from_le_bytes w32 (take 4 (drop p (take stop part.bytes))), 4))) ≡ Ok (n, next) → next ≡ p + 4
    by true e = absurd cc
    by false e = sym (ap next_read e)

pub spans_rise : (n : ℕ) (part : Part) (p : ℕ) → Rise p (spans_within n part p).list
unfolding spans_within
spans_rise zero part p = refl
spans_rise (suc n) part p =
    by (spans_rise n part) (nat_lt p (length part.bytes)) (in_frames (fixed w32) part (length part.bytes) p) refl
  where
    by : ((q : ℕ) → Rise q (spans_within n part q).list) → (b : Bool) (read : Result (ℕ × ℕ) Fault) → in_frames (fixed w32) part (length part.bytes) p ≡ read →
        Rise p (spans_from part p b read (spans_within n part)).list
    by later false read e = refl
    by later true (Err f) e = refl
    by later true (Ok (zero, next)) e = refl
    by later true (Ok (suc k, next)) e = fits (nat_le (next + suc k) (length part.bytes))
      where
        fits : (b : Bool) → Rise p (spans_after part p b (record { at = p; stop = next + suc k }) (spans_within n part)).list
        fits false = refl
        fits true =
            let q = next_place part (length part.bytes) p (suc k) next e in
            (omega arith, lower (λ (s : Span). s.at) (p + 1) (next + suc k) (spans_within n part (next + suc k)).list (omega (arith, q)) (later (next + suc k)))

-- the place of a region is that of its part
placed : (part : Part) (entries : List (ℕ × Result Cie Fault)) (s : Span) (x : ℕ × Region64) → region_of part entries s (distance_at part s) ≡ Some x → x.0 ≡ s.at
placed part entries s x e = by (distance_at part s) e
  where
    from : (o : Option Region64) → option_map (λ (r : Region64). (s.at, r)) o ≡ Some x → x.0 ≡ s.at
    from None e = absurd cc
    from (Some r) e = same (s.at, r) x e
      where
        same : (a b : ℕ × Region64) → (λ (w : Option (ℕ × Region64)). w) (Some a) ≡ Some b → b.0 ≡ a.0
        same a b e = cc

    by : (d : Result (ℕ × ℕ) Fault) → region_of part entries s d ≡ Some x → x.0 ≡ s.at
    by (Err f) e = absurd cc
    by (Ok (zero, next)) e = absurd cc
    by (Ok (suc k, next)) e = from (region_behind part s next (cie_behind entries s.at (suc k))) e

pub regions_rise : (part : Part) (entries : List (ℕ × Result Cie Fault)) (n : ℕ) (spans : List Span) → Rise n spans → Rising n (regions_of part entries spans)
unfolding regions_of
regions_rise part entries n spans rise =
    rises_filtered (λ (s : Span). s.at) (λ (x : ℕ × Region64). x.0) (λ s. region_of part entries s (distance_at part s)) (placed part entries) n spans rise

-- the place of a CIE is that of its part
cie_placed : (part : Part) (s : Span) (x : ℕ × Result Cie Fault) → cie_of part s (distance_at part s) ≡ Some x → x.0 ≡ s.at
cie_placed part s x e = by (distance_at part s) e
  where
    same : (a b : ℕ × Result Cie Fault) → (λ (w : Option (ℕ × Result Cie Fault)). w) (Some a) ≡ Some b → b.0 ≡ a.0
    same a b e = cc

    by : (d : Result (ℕ × ℕ) Fault) → cie_of part s d ≡ Some x → x.0 ≡ s.at
    by (Err f) e = absurd cc
    by (Ok (zero, next)) e = same (s.at, cie_at part s.at s.stop next) x e
    by (Ok (suc k, next)) e = absurd cc

-- the CIEs that were read of some parts stand in the order of their places
pub entries_rise : (part : Part) (n : ℕ) (spans : List Span) (entries : List CieEntry) → Rise n spans → entries_seen part entries ≡ cies_of part spans → RisesBy (λ (e : CieEntry). e.at) n entries
unfolding cies_of
entries_rise part n spans entries rise read =
    rises_mapped (λ (c : ℕ × Result Cie Fault). c.0) (entry_seen part) n entries (
    subst (λ (cs : List (ℕ × Result Cie Fault)). RisesBy (λ (c : ℕ × Result Cie Fault). c.0) n cs) (sym read)
    (rises_filtered (λ (s : Span). s.at) (λ (c : ℕ × Result Cie Fault). c.0) (λ s. cie_of part s (distance_at part s)) (cie_placed part) n spans rise)
    )
