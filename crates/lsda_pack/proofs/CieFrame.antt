-- A common information entry depends only on the bytes up to its stop.
use Rattle.std.proofs.Common.{◌≡◌, ◌+◌, ◌≤◌, ◌==◌, ℕ, ℤ, Bool, true, false, nat_lt, nat_le, List, [], ◌∷◌, Result, Ok, refl, ap, sym, ◌∙◌, arith}
use Rattle.std.specs.Prelude.{Option, Some, None, is_some, ◌||◌, if◌then◌else◌}
use Rattle.std.proofs.lemmas.Bool.Decides.{nat_tests}
use Rattle.eh_bytes.specs.declared.encoded.Pointer.{Pointer}
use Rattle.eh_bytes.specs.Memory.{Part}
use Rattle.eh_bytes.specs.Field.{byte}
use Rattle.eh_bytes.specs.Leb128.{uleb, sleb}
use Rattle.eh_bytes.specs.Encoded.{encoded, encoding_format, is_direct}
use Rattle.table_forms.specs.declared.reason.Reason.TheVariants.{Encoding, FrameTruncated, Version, RegisterRange}
use Rattle.table_forms.specs.Fault.{Fault, ◌>>=◌, demand}
use Rattle.table_forms.specs.Instruction.{Coding, in_frames}
use Rattle.table_forms.specs.Instructions.{Instructions, instructions_at}
use Rattle.table_forms.specs.Cie.{Cie, Letters, no_letters, text, wrong_letter, no_wrong, direct_at, personality_at, letter_at, letters_at, sized_at, augmented, return_register_at, cie_at}
use Rattle.lsda_pack.proofs.HeadFrame.{with_bytes, bind_ok}
use Rattle.lsda_pack.proofs.Alike.{Alike, Local, done, done_same, field_local, bind_same, then_local, given_local, checked_local}
use Rattle.lsda_pack.proofs.InstructionsFrame.{instructions_same}

-- the pointer to a personality, whose place behind counts alone
abbrev pointer_behind : Pointer × ℕ → Result ℕ Fault
pointer_behind pointer = Ok pointer.1

abbrev after_encoding : Part → ℕ → ℕ → ℕ × ℕ → Result ℕ Fault
after_encoding part s p e =
    demand (is_some (encoding_format e.0)) Encoding (part.file_at + p) >>= λ known. in_frames (encoded e.0 (part.address + e.1)) part s e.1 >>= pointer_behind

personality_steps : (part : Part) (s p : ℕ) → personality_at part s p ≡ (in_frames byte part s p >>= after_encoding part s p)
unfolding personality_at
personality_steps part s p = refl

byte_local : Local (λ part s p. in_frames byte part s p)
byte_local = field_local (λ a. byte)

pointer_local : (e : ℕ) → Local (λ part s p. in_frames (encoded e (part.address + p)) part s p)
pointer_local e = field_local (λ a. encoded e a)

personality_same : (part : Part) (ys : List ℕ) (from end s p : ℕ) → Alike from end part.bytes ys → from ≤ p → s ≤ end → personality_at (with_bytes part ys) s p ≡ personality_at part s p
personality_same part ys from end s p alike low high =
    let other = with_bytes part ys in
    personality_steps other s p ∙
    ap (λ r. r >>= after_encoding other s p) (byte_local.same part ys from end s p alike low high) ∙
    bind_same (in_frames byte part s p) (after_encoding other s p) (after_encoding part s p)
    (λ e is. let more = byte_local.forward part s p e is in
    ap (λ r. demand (is_some (encoding_format e.0)) Encoding (part.file_at + p) >>= λ known. r >>= pointer_behind)
    ((pointer_local e.0).same part ys from end s e.1 alike (omega (arith, low, more)) high)) ∙
    sym (personality_steps part s p)

personality_forward : (part : Part) (s p n : ℕ) → personality_at part s p ≡ Ok n → p ≤ n
personality_forward part s p n read =
    let e = bind_ok (in_frames byte part s p) (after_encoding part s p) n (sym (personality_steps part s p) ∙ read) in
    let known = bind_ok (demand (is_some (encoding_format e.0.0)) Encoding (part.file_at + p)) (λ known. in_frames (encoded e.0.0 (part.address + e.0.1)) part s e.0.1 >>= pointer_behind) n e.2 in
    let pointer = bind_ok (in_frames (encoded e.0.0 (part.address + e.0.1)) part s e.0.1) pointer_behind n known.2 in
    let one = byte_local.forward part s p e.0 e.1 in
    let two = (pointer_local e.0.0).forward part s e.0.1 pointer.0 pointer.1 in
    let place : pointer.0.1 ≡ n = done_same pointer.0.1 n pointer.2 in
    omega (arith, one, two, place)

direct_local : Local direct_at
direct_local = then_local byte_local (λ p e. checked_local e (is_direct e) Encoding p)

-- one letter
abbrev with_personality : Letters → ℕ → Result (Letters × ℕ) Fault
with_personality l next = Ok (l, next)

personality_local : (l : Letters) → Local (λ part s p. personality_at part s p >>= with_personality l)
personality_local l = record {
  same = λ part ys from end s p alike low high. ap (λ r. r >>= with_personality l) (personality_same part ys from end s p alike low high);
  forward = λ part s p a read.
      let next = bind_ok (personality_at part s p) (with_personality l) a read in
      let more = personality_forward part s p next.0 next.1 in
      let place : next.0 ≡ a.1 = ap (λ x. x.1) (done_same (l, next.0) a next.2) in
      omega (arith, more, place);
}

letter_local : (letter : ℕ) (l : Letters) → Local (λ part s p. letter_at part s letter l p)
unfolding letter_at
letter_local letter l = by_personality (letter == 0x50)
  where
    last : (b : Bool) → Local (λ part s p.
        if b then (direct_at part s p >>= λ e. done (record l { encoding = e.0 }, e.1)) else done (record l { signal = true }, p))
    last true = then_local direct_local (λ p e. given_local (record l { encoding = e }))
    last false = given_local (record l { signal = true })

    by_table : (b : Bool) → Local (λ part s p.
        if b then (direct_at part s p >>= λ e. done (record l { lsda_encoding = Some e.0 }, e.1))
        else if letter == 0x52 then (direct_at part s p >>= λ e. done (record l { encoding = e.0 }, e.1))
        else done (record l { signal = true }, p))
    by_table true = then_local direct_local (λ p e. given_local (record l { lsda_encoding = Some e }))
    by_table false = last (letter == 0x52)

    by_personality : (b : Bool) → Local (λ part s p.
        if b then (personality_at part s p >>= with_personality l)
        else if letter == 0x4c then (direct_at part s p >>= λ e. done (record l { lsda_encoding = Some e.0 }, e.1))
        else if letter == 0x52 then (direct_at part s p >>= λ e. done (record l { encoding = e.0 }, e.1))
        else done (record l { signal = true }, p))
    by_personality true = personality_local l
    by_personality false = by_table (letter == 0x4c)

letters_same : (letters : List ℕ) (part : Part) (ys : List ℕ) (from end s : ℕ) (l : Letters) (p : ℕ) → Alike from end part.bytes ys → from ≤ p → s ≤ end →
    letters_at (with_bytes part ys) s letters l p ≡ letters_at part s letters l p
letters_same [] part ys from end s l p alike low high = refl
letters_same (b ∷ bs) part ys from end s l p alike low high =
    let other = with_bytes part ys in
    ap (λ r. r >>= λ x. letters_at other s bs x.0 x.1) ((letter_local b l).same part ys from end s p alike low high) ∙
    bind_same (letter_at part s b l p) (λ x. letters_at other s bs x.0 x.1) (λ x. letters_at part s bs x.0 x.1)
    (λ x is. let more = (letter_local b l).forward part s p x is in letters_same bs part ys from end s x.0 x.1 alike (omega (arith, low, more)) high)

-- where sized data begin and end
abbrev sized_steps : Part → ℕ → ℕ → ℕ × ℕ → Result (ℕ × ℕ) Fault
sized_steps part s p size = demand (nat_le (size.1 + size.0) s) FrameTruncated (part.file_at + p) >>= λ inside. done (size.1, size.1 + size.0)

uleb_local : Local (λ part s p. in_frames uleb part s p)
uleb_local = field_local (λ a. uleb)

pub sized_same : (part : Part) (ys : List ℕ) (from end s p : ℕ) → Alike from end part.bytes ys → from ≤ p → s ≤ end → sized_at (with_bytes part ys) s p ≡ sized_at part s p
unfolding sized_at
sized_same part ys from end s p alike low high = ap (λ r. r >>= sized_steps part s p) (uleb_local.same part ys from end s p alike low high)

pub record SizedAt (s p : ℕ) (d : ℕ × ℕ) : Type 0 where
  pub forward : p ≤ d.0
  pub order : d.0 ≤ d.1
  pub inside : d.1 ≤ s

pub sized_bounds : (part : Part) (s p : ℕ) (d : ℕ × ℕ) → sized_at part s p ≡ Ok d → SizedAt s p d
unfolding sized_at
sized_bounds part s p d read =
    let size = bind_ok (in_frames uleb part s p) (sized_steps part s p) d read in
    by_test (nat_le (size.0.1 + size.0.0) s) size.0 (uleb_local.forward part s p size.0 size.1) refl size.2
  where
    by_test : (b : Bool) (size : ℕ × ℕ) → p ≤ size.1 → nat_le (size.1 + size.0) s ≡ b →
        (demand b FrameTruncated (part.file_at + p) >>= λ inside. done (size.1, size.1 + size.0)) ≡ Ok d → SizedAt s p d
    by_test false size more is e = absurd cc
    by_test true size more is e =
        let pair = done_same (size.1, size.1 + size.0) d e in
        let first : size.1 ≡ d.0 = ap (λ x. x.0) pair in
        let last : size.1 + size.0 ≡ d.1 = ap (λ x. x.1) pair in
        let fits : size.1 + size.0 ≤ s = grind (arith, nat_tests, is) in
        record { forward = omega (arith, more, first); order = omega (arith, first, last); inside = omega (arith, fits, last) }

abbrev letters_behind : ℕ → Letters → Result (Letters × ℕ) Fault
letters_behind next l = Ok (l, next)

augmented_local : (name : List ℕ) → Local (λ part s p. augmented part s name p)
augmented_local [] = given_local no_letters
augmented_local (z ∷ letters) = record {
  same = λ part ys from end s p alike low high.
      ap (λ r. r >>= λ d. letters_at (with_bytes part ys) d.1 letters no_letters d.0 >>= letters_behind d.1) (sized_same part ys from end s p alike low high) ∙
      bind_same (sized_at part s p) (λ d. letters_at (with_bytes part ys) d.1 letters no_letters d.0 >>= letters_behind d.1)
      (λ d. letters_at part d.1 letters no_letters d.0 >>= letters_behind d.1)
      (λ d is. let bounds = sized_bounds part s p d is in
      let first = bounds.forward in
      let last = bounds.inside in
      ap (λ r. r >>= letters_behind d.1) (letters_same letters part ys from end d.1 no_letters d.0 alike (omega (arith, low, first)) (omega (arith, last, high))));
  forward = λ part s p a read.
      let d = bind_ok (sized_at part s p) (λ d. letters_at part d.1 letters no_letters d.0 >>= letters_behind d.1) a read in
      let l = bind_ok (letters_at part d.0.1 letters no_letters d.0.0) (letters_behind d.0.1) a d.2 in
      let bounds = sized_bounds part s p d.0 d.1 in
      let first = bounds.forward in
      let order = bounds.order in
      let place : d.0.1 ≡ a.1 = ap (λ x. x.1) (done_same (l.0, d.0.1) a l.2) in
      omega (arith, first, order, place);
}

register_local : (version : ℕ) → Local (return_register_at version)
unfolding return_register_at
register_local version = then_local (field_local (λ a. if version == 1 then byte else uleb)) (λ p r. checked_local r (nat_lt r 64) RegisterRange p)

no_wrong_same : (part : Part) (ys : List ℕ) (o : Option ℕ) → no_wrong (with_bytes part ys) o ≡ no_wrong part o
no_wrong_same part ys None = refl
no_wrong_same part ys (Some p) = refl

-- the fields of the entry, one after the other
abbrev coding_of : ℕ × ℕ → ℤ × ℕ → Letters × ℕ → Coding
coding_of code factor l = record { code_factor = code.0; data_factor = factor.0; encoding = l.0.encoding }

abbrev cie_made : Part → ℕ → ℕ × ℕ → List ℕ × ℕ → ℕ × ℕ → ℤ × ℕ → ℕ × ℕ → Letters × ℕ → Instructions → Result Cie Fault
cie_made part at version name code factor return l is = Ok (record {
  place = part.file_at + at;
  version = version.0;
  augmentation = name.0;
  coding = coding_of code factor l;
  return_register = return.0;
  lsda_encoding = l.0.lsda_encoding;
  signal = l.0.signal;
  instructions = is.list;
  states = is.states;
})

abbrev after_letters : Part → ℕ → ℕ → ℕ × ℕ → List ℕ × ℕ → ℕ × ℕ → ℤ × ℕ → ℕ × ℕ → Letters × ℕ → Result Cie Fault
after_letters part at s version name code factor return l =
    instructions_at (coding_of code factor l) part s l.1 0 >>= cie_made part at version name code factor return l

abbrev after_register : Part → ℕ → ℕ → ℕ × ℕ → List ℕ × ℕ → ℕ × ℕ → ℤ × ℕ → ℕ × ℕ → Result Cie Fault
after_register part at s version name code factor return = augmented part s name.0 return.1 >>= after_letters part at s version name code factor return

abbrev after_factor : Part → ℕ → ℕ → ℕ × ℕ → List ℕ × ℕ → ℕ × ℕ → ℤ × ℕ → Result Cie Fault
after_factor part at s version name code factor = return_register_at version.0 part s factor.1 >>= after_register part at s version name code factor

abbrev after_code : Part → ℕ → ℕ → ℕ × ℕ → List ℕ × ℕ → ℕ × ℕ → Result Cie Fault
after_code part at s version name code = in_frames sleb part s code.1 >>= after_factor part at s version name code

abbrev after_name : Part → ℕ → ℕ → ℕ × ℕ → List ℕ × ℕ → Result Cie Fault
after_name part at s version name =
    no_wrong part (wrong_letter version.1 name.0) >>= λ letters. in_frames uleb part s name.1 >>= after_code part at s version name

abbrev after_version : Part → ℕ → ℕ → ℕ → ℕ × ℕ → Result Cie Fault
after_version part at s p version =
    demand (version.0 == 1 || version.0 == 3) Version (part.file_at + p) >>= λ known. in_frames text part s version.1 >>= after_name part at s version

cie_steps : (part : Part) (at s p : ℕ) → cie_at part at s p ≡ (in_frames byte part s p >>= after_version part at s p)
unfolding cie_at
cie_steps part at s p = refl

text_local : Local (λ part s p. in_frames text part s p)
text_local = field_local (λ a. text)

sleb_local : Local (λ part s p. in_frames sleb part s p)
sleb_local = field_local (λ a. sleb)

module _ (part : Part) (ys : List ℕ) (from end at s : ℕ) (alike : Alike from end part.bytes ys) (high : s ≤ end) where
  letters_done : (version : ℕ × ℕ) (name : List ℕ × ℕ) (code : ℕ × ℕ) (factor : ℤ × ℕ) (return : ℕ × ℕ) (l : Letters × ℕ) → from ≤ l.1 →
      after_letters (with_bytes part ys) at s version name code factor return l ≡ after_letters part at s version name code factor return l
  letters_done version name code factor return l low =
      ap (λ r. r >>= cie_made part at version name code factor return l) (instructions_same (coding_of code factor l) part ys from end s l.1 0 alike low high)

  register_done : (version : ℕ × ℕ) (name : List ℕ × ℕ) (code : ℕ × ℕ) (factor : ℤ × ℕ) (return : ℕ × ℕ) → from ≤ return.1 →
      after_register (with_bytes part ys) at s version name code factor return ≡ after_register part at s version name code factor return
  register_done version name code factor return low =
      ap (λ r. r >>= after_letters (with_bytes part ys) at s version name code factor return) ((augmented_local name.0).same part ys from end s return.1 alike low high) ∙
      bind_same (augmented part s name.0 return.1) (after_letters (with_bytes part ys) at s version name code factor return) (after_letters part at s version name code factor return)
      (λ l is. let more = (augmented_local name.0).forward part s return.1 l is in letters_done version name code factor return l (omega (arith, low, more)))

  factor_done : (version : ℕ × ℕ) (name : List ℕ × ℕ) (code : ℕ × ℕ) (factor : ℤ × ℕ) → from ≤ factor.1 →
      after_factor (with_bytes part ys) at s version name code factor ≡ after_factor part at s version name code factor
  factor_done version name code factor low =
      ap (λ r. r >>= after_register (with_bytes part ys) at s version name code factor) ((register_local version.0).same part ys from end s factor.1 alike low high) ∙
      bind_same (return_register_at version.0 part s factor.1) (after_register (with_bytes part ys) at s version name code factor) (after_register part at s version name code factor)
      (λ r is. let more = (register_local version.0).forward part s factor.1 r is in register_done version name code factor r (omega (arith, low, more)))

  code_done : (version : ℕ × ℕ) (name : List ℕ × ℕ) (code : ℕ × ℕ) → from ≤ code.1 → after_code (with_bytes part ys) at s version name code ≡ after_code part at s version name code
  code_done version name code low =
      ap (λ r. r >>= after_factor (with_bytes part ys) at s version name code) (sleb_local.same part ys from end s code.1 alike low high) ∙
      bind_same (in_frames sleb part s code.1) (after_factor (with_bytes part ys) at s version name code) (after_factor part at s version name code)
      (λ f is. let more = sleb_local.forward part s code.1 f is in factor_done version name code f (omega (arith, low, more)))

  name_done : (version : ℕ × ℕ) (name : List ℕ × ℕ) → from ≤ name.1 → after_name (with_bytes part ys) at s version name ≡ after_name part at s version name
  name_done version name low =
      ap (λ r. r >>= λ letters. in_frames uleb (with_bytes part ys) s name.1 >>= after_code (with_bytes part ys) at s version name) (no_wrong_same part ys (wrong_letter version.1 name.0)) ∙
      ap (λ r. no_wrong part (wrong_letter version.1 name.0) >>= λ letters. r)
      (ap (λ r. r >>= after_code (with_bytes part ys) at s version name) (uleb_local.same part ys from end s name.1 alike low high) ∙
      bind_same (in_frames uleb part s name.1) (after_code (with_bytes part ys) at s version name) (after_code part at s version name)
      (λ c is. let more = uleb_local.forward part s name.1 c is in code_done version name c (omega (arith, low, more))))

  version_done : (p : ℕ) (version : ℕ × ℕ) → from ≤ version.1 → after_version (with_bytes part ys) at s p version ≡ after_version part at s p version
  version_done p version low =
      ap (λ r. demand (version.0 == 1 || version.0 == 3) Version (part.file_at + p) >>= λ known. r)
      (ap (λ r. r >>= after_name (with_bytes part ys) at s version) (text_local.same part ys from end s version.1 alike low high) ∙
      bind_same (in_frames text part s version.1) (after_name (with_bytes part ys) at s version) (after_name part at s version)
      (λ n is. let more = text_local.forward part s version.1 n is in name_done version n (omega (arith, low, more))))

  pub cie_same : (p : ℕ) → from ≤ p → cie_at (with_bytes part ys) at s p ≡ cie_at part at s p
  cie_same p low =
      cie_steps (with_bytes part ys) at s p ∙
      ap (λ r. r >>= after_version (with_bytes part ys) at s p) (byte_local.same part ys from end s p alike low high) ∙
      bind_same (in_frames byte part s p) (after_version (with_bytes part ys) at s p) (after_version part at s p)
      (λ v is. let more = byte_local.forward part s p v is in version_done p v (omega (arith, low, more))) ∙
      sym (cie_steps part at s p)
