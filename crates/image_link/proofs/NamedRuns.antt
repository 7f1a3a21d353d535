-- An image with sections and symbols runs as without, and is small.
use Rattle.std.proofs.Common.{◌≡◌, ◌+◌, ◌-◌, ◌*◌, ◌≤◌, ℕ, Bool, true, List, [], ◌∷◌, ◌++◌, length, map, Result, Ok, Err, refl, ap, sym, subst, ◌∙◌, arith}
use Rattle.std.specs.Prelude.{IfOk, IsOkAnd, Option}
use Rattle.std.specs.declared.vec.Vec.{Vec}
use Rattle.std.specs.declared.alloc.Global.{Global}
use Rattle.eh_bytes.specs.Listed.{ListedUnit}
use Rattle.table_forms.specs.Fault.{Fault, ◌>>=◌, least, answer}
use Rattle.table_forms.specs.Frames.{frames, sorted}
use Rattle.elf_image.specs.Behind.{StandBehind}
use Rattle.elf_image.specs.Clean.{CleanImage, functions_of, judged}
use Rattle.elf_image.specs.Elf.{Image, elf}
use Rattle.elf_image.specs.Runnable.{written_faults, runnable}
use Rattle.elf_sections.specs.declared.section.Places.{Places}
use Rattle.elf_sections.specs.declared.symbol.Symbol.{Symbol}
use Rattle.elf_sections.specs.Written.{with_sections}
use Rattle.elf_sections.proofs.Kept.{sections_change_no_reading}
use Rattle.image_forms.specs.Linked.{linked}
use Rattle.image_forms.specs.Symbols.{Names, places_for, symbols_for, named}
use Rattle.image_link.specs.Runs.{UnitStands, RunsUnit}

-- what is read of an image, and judged of it
clean_of : Image → Result CleanImage Fault
clean_of i =
    frames i.memory i.frame_header >>= λ read.
    functions_of i.memory (sorted read.fdes) >>= λ functions.
    Ok (record { image = i; cies = read.cies; functions = functions })

runs_of_read : Result Image Fault → Result CleanImage Fault
runs_of_read read = (read >>= clean_of) >>= λ i. answer (least (written_faults i)) i

runnable_steps : (file : List ℕ) → runnable file ≡ runs_of_read (elf file true)
unfolding runnable judged clean_of runs_of_read
runnable_steps file = refl

-- nothing is refused of the file of an image that may run
elf_read : (read : Result Image Fault) (P : CleanImage → Type 0) → IsOkAnd (runs_of_read read) P → (i : Image) × (read ≡ Ok i)
unfolding runs_of_read
elf_read (Ok i) P h = (i, refl)
elf_read (Err e) P h = absurd h

runs_with : (file : List ℕ) (places : Places) (symbols : List Symbol) (P : CleanImage → Type 0) → StandBehind file → IsOkAnd (runnable file) P →
    IsOkAnd (runnable (with_sections file places symbols)) P
runs_with file places symbols P behind runs =
    let read = elf_read (elf file true) P (subst (λ r. IsOkAnd r P) (runnable_steps file) runs) in
    let same = sections_change_no_reading file places symbols true read.0 behind read.1 in
    subst (λ r. IsOkAnd r P) (sym (runnable_steps (with_sections file places symbols) ∙ ap runs_of_read (same ∙ sym read.1) ∙ sym (runnable_steps file))) runs

pub named_runs : (names : Names) (u : ListedUnit) → StandBehind (linked u) → RunsUnit u (linked u) → RunsUnit u (named names u)
unfolding named
named_runs names u behind runs = runs_with (linked u) (places_for u) (symbols_for names u) (UnitStands u) behind runs

-- what holds of the bytes holds of a file that has them
pub of_file : {E : Type 0} (r : Result (Vec ℕ Global) E) (bytes : List ℕ) (P : List ℕ → Type 0) → IfOk r (λ file. file.items ≡ bytes) → P bytes → IfOk r (λ file. P file.items)
of_file (Ok file) bytes P is holds = subst P (sym is) holds
of_file (Err e) bytes P is holds = tt
