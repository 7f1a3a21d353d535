-- A whole image, by what is refused of its parts.
use Rattle.std.proofs.Common.{◌≡◌, ℕ, Bool, true, List, [], ◌++◌, length, Ok, Err, Result, refl, ap, sym, subst, ◌∙◌}
use Rattle.std.specs.Prelude.{Some, None}
use Rattle.table_forms.specs.declared.reason.Reason.TheVariants.{NoFrames}
use Rattle.table_forms.specs.Fault.{Fault, ◌>>=◌, unless, least, answer}
use Rattle.table_forms.proofs.Least.{least-append, none_left}
use Rattle.elf_image.specs.declared.error.ImageError.{ImageError}
use Rattle.elf_image.specs.Header.{header_faults}
use Rattle.elf_image.specs.Programs.{headers_of, loaded, frames_header, runtime_header}
use Rattle.elf_image.specs.Loads.{load_faults, is_within, AreSound}
use Rattle.elf_image.specs.Runtime.{runtime_faults}
use Rattle.elf_image.specs.Elf.{Image, image_of, segment_faults, faults_to_run, elf}
use Rattle.elf_image.specs.Reports.{reported}
use Rattle.elf_image.specs.Reads.{ReadsImage}
use Rattle.elf_image.proofs.Sound.{sound}

abbrev pub all_faults : Bool → List ℕ → List Fault
all_faults run file = segment_faults file (headers_of file) ++ faults_to_run run file (headers_of file)

header_refused : (file : List ℕ) (run : Bool) (f : Fault) → Some f ≡ least (header_faults file) → elf file run ≡ Err f
unfolding elf
header_refused file run f is =
    ap (λ o. answer o true >>= (λ _. answer (least (all_faults run file)) (image_of file (headers_of file)))) (sym is)

behind : (file : List ℕ) (run : Bool) → None ≡ least (header_faults file) → elf file run ≡ answer (least (all_faults run file)) (image_of file (headers_of file))
unfolding elf
behind file run is = ap (λ o. answer o true >>= (λ _. answer (least (all_faults run file)) (image_of file (headers_of file)))) (sym is)

reports : (f : Fault) (e : ImageError) (read : Result Image Fault) → e ≡ reported f → read ≡ Err f → ReadsImage (Err e) read
reports f e read is refused = subst (λ x. ReadsImage (Err x) read) (sym is) (f, refused, refl)

pub reports_header : (file : List ℕ) (run : Bool) (f : Fault) (e : ImageError) → Some f ≡ least (header_faults file) → e ≡ reported f → ReadsImage (Err e) (elf file run)
reports_header file run f e is said = reports f e (elf file run) said (header_refused file run f is)

pub reports_segments : (file : List ℕ) (run : Bool) (f : Fault) (e : ImageError) → None ≡ least (header_faults file) → Some f ≡ least (all_faults run file) → e ≡ reported f →
    ReadsImage (Err e) (elf file run)
reports_segments file run f e whole is said =
    reports f e (elf file run) said (behind file run whole ∙ ap (λ o. answer o (image_of file (headers_of file))) (sym is))

pub gives_image : (file : List ℕ) (run : Bool) (i : Image) → None ≡ least (header_faults file) → None ≡ least (all_faults run file) → i ≡ image_of file (headers_of file) → elf file run ≡ Ok i
gives_image file run i whole none is = behind file run whole ∙ ap (λ o. answer o (image_of file (headers_of file))) (sym none) ∙ ap Ok (sym is)

-- the segments of an image of which nothing is refused
pub image_sound : (file : List ℕ) (run : Bool) → None ≡ least (all_faults run file) → AreSound (length file) 0 [] (loaded (headers_of file))
unfolding segment_faults
image_sound file run none =
    let headers = headers_of file in
    let ls = loaded headers in
    let a = load_faults (length file) 0 [] ls in
    let b = unless (is_within ls (frames_header headers)) NoFrames 0 in
    let c = runtime_faults file ls (runtime_header headers) in
    let d = faults_to_run run file headers in
    let first = none_left (least (a ++ b ++ c)) (least d) (sym (least-append (a ++ b ++ c) d) ∙ sym none) in
    let second = none_left (least (a ++ b)) (least c) (sym (least-append (a ++ b) c) ∙ first) in
    sound (length file) 0 [] ls (none_left (least a) (least b) (sym (least-append a b) ∙ second))
