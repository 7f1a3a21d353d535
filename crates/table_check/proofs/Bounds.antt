-- Regions end in the address space, and there are no more FDEs than bytes.
use Rattle.std.proofs.Common.{◌≡◌, ◌+◌, ◌<◌, ◌≤◌, ◌^◌, ◌%◌, ℕ, zero, suc, Bool, List, [], ◌∷◌, map, filter_map, length, Option, Some, None, Result, Ok, Err, refl, arith, nat_lt}
use Rattle.std.specs.Bool.{⊤}
use Rattle.std.specs.List.{AllByRecursion, cons_option}
use Rattle.std.proofs.lemmas.Bool.Decides.{nat_tests}
use Rattle.eh_bytes.specs.declared.frames.Region64.{Region64}
use Rattle.eh_bytes.specs.declared.encoded.Pointer.{Pointer}
use Rattle.eh_bytes.specs.Memory.{Part}
use Rattle.eh_bytes.specs.Encoded.{encoded}
use Rattle.table_forms.specs.declared.reason.Reason.TheVariants.{FrameTruncated}
use Rattle.table_forms.specs.Fault.{Fault, demand}
use Rattle.table_forms.specs.Instruction.{Instruction, in_frames}
use Rattle.table_forms.specs.Instructions.{Instructions, instructions_at}
use Rattle.table_forms.specs.Cie.{Cie, cie_at}
use Rattle.table_forms.specs.Fde.{Fde, region_at, lsda_at, fde_at}
use Rattle.table_forms.specs.Spans.{Span, distance_at}
use Rattle.table_forms.specs.Parts.{Said, refused, said_cie, said_fde, unread, cie_said, fde_said, said_behind, said_of, says, cie_behind, fde_in}
use Rattle.table_check.proofs.Read.{IfRead, bind, read_at, met}

abbrev pub Ends : Fde → Type 0
Ends f = f.region.start + f.region.length < 2 ^ 64

abbrev EndsAt : Region64 × ℕ → Type 0
EndsAt r = r.0.start + r.0.length < 2 ^ 64

ends_at : (s l p : ℕ) (x : Bool) (next : ℕ) → demand (nat_lt (s + l) (2 ^ 64)) FrameTruncated p ≡ Ok x → IfRead EndsAt (Ok (record { start = s; length = l }, next))
unfolding IfRead
ends_at s l p x next e = let t = met (nat_lt (s + l) (2 ^ 64)) FrameTruncated p x e in grind (arith, nat_tests, t)

region_ends : (cie : Cie) (part : Part) (stop p : ℕ) → IfRead EndsAt (region_at cie part stop p)
unfolding region_at
region_ends cie part stop p =
    bind {A = Pointer × ℕ} EndsAt (in_frames (encoded cie.coding.encoding (part.address + p)) part stop p) _ (λ start _.
    bind {A = Pointer × ℕ} EndsAt (in_frames (encoded (cie.coding.encoding % 16) 0) part stop start.1) _ (λ len _.
    bind {A = Bool} EndsAt (demand (nat_lt (start.0.value + len.0.value) (2 ^ 64)) FrameTruncated (part.file_at + start.1)) _ (λ ends e.
    ends_at start.0.value len.0.value (part.file_at + start.1) ends len.1 e)))

stays : (region : Region64) (lsda : ℕ) (is : List Instruction) (cie : Cie) (part : Part) (at : ℕ) → region.start + region.length < 2 ^ 64 →
    IfRead Ends (Ok (record { address = part.address + at; place = part.file_at + at; region = region; lsda = lsda; cie = cie; instructions = is }))
unfolding IfRead
stays region lsda is cie part at ends = ends

fde_ends : (cie : Cie) (part : Part) (at stop p : ℕ) → IfRead Ends (fde_at cie part at stop p)
unfolding fde_at
fde_ends cie part at stop p =
    bind {A = Region64 × ℕ} Ends (region_at cie part stop p) _ (λ region e.
    bind {A = ℕ × ℕ} Ends (lsda_at cie.augmentation cie part stop region.1) _ (λ lsda _.
    bind {A = Instructions} Ends (instructions_at cie.coding part stop lsda.1 cie.states) _ (λ is _.
    stays region.0 lsda.0 is.list cie part at (read_at EndsAt (region_at cie part stop p) region e (region_ends cie part stop p)))))

-- what a part says
abbrev SaysEnding : Said → Type 0
SaysEnding (said_fde f) = Ends f
SaysEnding (said_cie c) = ⊤
SaysEnding (refused e) = ⊤
SaysEnding unread = ⊤

says_ending : (part : Part) (entries : List (ℕ × Result Cie Fault)) (s : Span) → SaysEnding (says part entries s)
unfolding says
says_ending part entries s = by (distance_at part s)
  where
    fde : (r : Result Fde Fault) → IfRead Ends r → SaysEnding (fde_said r)
    fde (Ok f) ends = read_at Ends (Ok f) f refl ends
    fde (Err e) ends = tt

    cie : (r : Result Cie Fault) → SaysEnding (cie_said r)
    cie (Ok c) = tt
    cie (Err e) = tt

    behind : (next : ℕ) (o : Option (Result Cie Fault)) → SaysEnding (said_behind part s next o)
    behind next None = tt
    behind next (Some (Err e)) = tt
    behind next (Some (Ok c)) = fde (fde_at c part s.at s.stop next) (fde_ends c part s.at s.stop next)

    by : (d : Result (ℕ × ℕ) Fault) → SaysEnding (said_of part entries s d)
    by (Err e) = tt
    by (Ok (zero, next)) = cie (cie_at part s.at s.stop next)
    by (Ok (suc d, next)) = behind next (cie_behind entries s.at (suc d))

pub fdes_end : (part : Part) (entries : List (ℕ × Result Cie Fault)) (spans : List Span) → AllByRecursion Ends (filter_map fde_in (map (says part entries) spans))
fdes_end part entries [] = tt
fdes_end part entries (s ∷ spans) = by (fdes_end part entries spans) (says part entries s) (says_ending part entries s)
  where
    rest : List Fde
    rest = filter_map fde_in (map (says part entries) spans)

    by : AllByRecursion Ends rest → (x : Said) → SaysEnding x → AllByRecursion Ends (cons_option (fde_in x) rest)
    by all (said_fde f) ends = (ends, all)
    by all (said_cie c) ends = all
    by all (refused e) ends = all
    by all unread ends = all

pub fdes_few : (part : Part) (entries : List (ℕ × Result Cie Fault)) (spans : List Span) → length (filter_map fde_in (map (says part entries) spans)) ≤ length spans
fdes_few part entries [] = omega arith
fdes_few part entries (s ∷ spans) = by (fdes_few part entries spans) (says part entries s)
  where
    rest : List Fde
    rest = filter_map fde_in (map (says part entries) spans)

    by : length rest ≤ length spans → (x : Said) → length (cons_option (fde_in x) rest) ≤ suc (length spans)
    by few (said_fde f) = omega (arith, few)
    by few (said_cie c) = omega (arith, few)
    by few (refused e) = omega (arith, few)
    by few unread = omega (arith, few)
