-- A frame description entry depends only on the bytes up to its stop.
use Rattle.std.proofs.Common.{◌≡◌, ◌+◌, ◌%◌, ◌^◌, ◌≤◌, ℕ, nat_lt, List, [], ◌∷◌, Result, Ok, refl, ap, sym, ◌∙◌, arith}
use Rattle.std.specs.Prelude.{Option, Some, None}
use Rattle.eh_bytes.specs.declared.encoded.Pointer.{Pointer}
use Rattle.eh_bytes.specs.declared.frames.Region64.{Region64}
use Rattle.eh_bytes.specs.Memory.{Part}
use Rattle.eh_bytes.specs.Encoded.{encoded}
use Rattle.table_forms.specs.declared.reason.Reason.TheVariants.{FrameTruncated}
use Rattle.table_forms.specs.Fault.{Fault, ◌>>=◌}
use Rattle.table_forms.specs.Instructions.{Instructions, instructions_at}
use Rattle.table_forms.specs.Cie.{Cie, sized_at}
use Rattle.table_forms.specs.Fde.{Fde, region_at, lsda_pointer, lsda_at, fde_at}
use Rattle.lsda_pack.proofs.HeadFrame.{with_bytes, bind_ok}
use Rattle.lsda_pack.proofs.Alike.{Alike, Local, done_same, field_local, bind_same, then_local, given_local, checked_local}
use Rattle.lsda_pack.proofs.InstructionsFrame.{instructions_same}
use Rattle.lsda_pack.proofs.CieFrame.{sized_same, sized_bounds}

abbrev region_of : ℕ → ℕ → Region64
region_of start len = record { start = start; length = len }

pub region_local : (cie : Cie) → Local (region_at cie)
unfolding region_at
region_local cie =
    then_local (field_local (λ a. encoded cie.coding.encoding a))
    (λ p start. then_local (field_local (λ a. encoded (cie.coding.encoding % 16) 0))
    (λ q len. checked_local (region_of start.value len.value) (nat_lt (start.value + len.value) (2 ^ 64)) FrameTruncated q))

abbrev pointed : Pointer × ℕ → Result ℕ Fault
pointed pointer = Ok pointer.0.value

pointer_same : (e : Option ℕ) (part : Part) (ys : List ℕ) (from end s p : ℕ) → Alike from end part.bytes ys → from ≤ p → s ≤ end → lsda_pointer e (with_bytes part ys) s p ≡ lsda_pointer e part s p
pointer_same None part ys from end s p alike low high = refl
pointer_same (Some e) part ys from end s p alike low high = ap (λ r. r >>= pointed) ((field_local (λ a. encoded e a)).same part ys from end s p alike low high)

abbrev place_behind : ℕ → ℕ → Result (ℕ × ℕ) Fault
place_behind next lsda = Ok (lsda, next)

abbrev after_size : Cie → Part → ℕ × ℕ → Result (ℕ × ℕ) Fault
after_size cie part d = lsda_pointer cie.lsda_encoding part d.1 d.0 >>= place_behind d.1

lsda_local : (name : List ℕ) (cie : Cie) → Local (lsda_at name cie)
lsda_local [] cie = given_local 0
lsda_local (z ∷ letters) cie = record {
  same = λ part ys from end s p alike low high.
      ap (λ r. r >>= after_size cie (with_bytes part ys)) (sized_same part ys from end s p alike low high) ∙
      bind_same (sized_at part s p) (after_size cie (with_bytes part ys)) (after_size cie part)
      (λ d is. let bounds = sized_bounds part s p d is in
      let first = bounds.forward in
      let last = bounds.inside in
      ap (λ r. r >>= place_behind d.1) (pointer_same cie.lsda_encoding part ys from end d.1 d.0 alike (omega (arith, low, first)) (omega (arith, last, high))));
  forward = λ part s p a read.
      let d = bind_ok (sized_at part s p) (after_size cie part) a read in
      let l = bind_ok (lsda_pointer cie.lsda_encoding part d.0.1 d.0.0) (place_behind d.0.1) a d.2 in
      let bounds = sized_bounds part s p d.0 d.1 in
      let first = bounds.forward in
      let order = bounds.order in
      let place : d.0.1 ≡ a.1 = ap (λ x. x.1) (done_same (l.0, d.0.1) a l.2) in
      omega (arith, first, order, place);
}

-- the fields of the entry, one after the other
abbrev fde_made : Cie → Part → ℕ → Region64 × ℕ → ℕ × ℕ → Instructions → Result Fde Fault
fde_made cie part at region lsda is =
    Ok (record { address = part.address + at; place = part.file_at + at; region = region.0; lsda = lsda.0; cie = cie; instructions = is.list })

abbrev after_lsda : Cie → Part → ℕ → ℕ → Region64 × ℕ → ℕ × ℕ → Result Fde Fault
after_lsda cie part at s region lsda = instructions_at cie.coding part s lsda.1 cie.states >>= fde_made cie part at region lsda

abbrev after_region : Cie → Part → ℕ → ℕ → Region64 × ℕ → Result Fde Fault
after_region cie part at s region = lsda_at cie.augmentation cie part s region.1 >>= after_lsda cie part at s region

fde_steps : (cie : Cie) (part : Part) (at s p : ℕ) → fde_at cie part at s p ≡ (region_at cie part s p >>= after_region cie part at s)
unfolding fde_at
fde_steps cie part at s p = refl

module _ (cie : Cie) (part : Part) (ys : List ℕ) (from end at s : ℕ) (alike : Alike from end part.bytes ys) (high : s ≤ end) where
  lsda_done : (region : Region64 × ℕ) (lsda : ℕ × ℕ) → from ≤ lsda.1 → after_lsda cie (with_bytes part ys) at s region lsda ≡ after_lsda cie part at s region lsda
  lsda_done region lsda low = ap (λ r. r >>= fde_made cie part at region lsda) (instructions_same cie.coding part ys from end s lsda.1 cie.states alike low high)

  region_done : (region : Region64 × ℕ) → from ≤ region.1 → after_region cie (with_bytes part ys) at s region ≡ after_region cie part at s region
  region_done region low =
      ap (λ r. r >>= after_lsda cie (with_bytes part ys) at s region) ((lsda_local cie.augmentation cie).same part ys from end s region.1 alike low high) ∙
      bind_same (lsda_at cie.augmentation cie part s region.1) (after_lsda cie (with_bytes part ys) at s region) (after_lsda cie part at s region)
      (λ l is. let more = (lsda_local cie.augmentation cie).forward part s region.1 l is in lsda_done region l (omega (arith, low, more)))

  pub fde_same : (p : ℕ) → from ≤ p → fde_at cie (with_bytes part ys) at s p ≡ fde_at cie part at s p
  fde_same p low =
      fde_steps cie (with_bytes part ys) at s p ∙
      ap (λ r. r >>= after_region cie (with_bytes part ys) at s) ((region_local cie).same part ys from end s p alike low high) ∙
      bind_same (region_at cie part s p) (after_region cie (with_bytes part ys) at s) (after_region cie part at s)
      (λ r is. let more = (region_local cie).forward part s p r is in region_done r (omega (arith, low, more))) ∙
      sym (fde_steps cie part at s p)
