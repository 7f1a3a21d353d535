-- The functions of a clean image by their FDEs as they are listed.
use Rattle.std.proofs.Common.{◌≡◌, ℕ, List, [], ◌∷◌, ◌++◌, map, Ok, Err, Result, refl, ap, sym, subst, ◌∙◌, append_assoc}
use Rattle.std.specs.Prelude.{Option, Contains, flat_map}
use Rattle.std.specs.List.{AllByRecursion}
use Rattle.eh_bytes.specs.Memory.{Memory}
use Rattle.table_forms.specs.Fault.{Fault, ◌>>=◌}
use Rattle.table_forms.specs.Lsda.{Table}
use Rattle.table_forms.specs.Fde as forms
use Rattle.table_forms.specs.Frames.{Frames, frames, sorted}
use Rattle.elf_image.specs.Clean.{Function, table_named, functions_of}
use Rattle.elf_image.specs.Loads.{IsSmall}
use Rattle.frame_read.specs.Listed.{fde_listed}
use Rattle.frame_read.specs.ReadsFrames.{Listing, listing}
use Rattle.frame_read.specs.declared.listed.Fde.{Fde}
use Rattle.table_check.proofs.Bounds.{Ends}
use Rattle.table_check.proofs.Few.{sorted_all, order_sound}
use Rattle.table_dump.specs.Seen.{IsFunction, AreFunctions}
use Rattle.table_dump.specs.Dump.{function_text}
use Rattle.lsda_read.proofs.Whole.{all_in}

pub first_function : (memory : Memory) (l : Listing) (fde : Fde) (fs : List Fde) (gs : List Function) → AreFunctions memory l (fde ∷ fs) gs → (g : Function) × IsFunction memory l fde g
first_function memory l fde fs [] are = absurd are
first_function memory l fde fs (g ∷ gs) are = (g, are.0)

pub function_turn : (memory : Memory) (l : Listing) (fde : Fde) (fs : List Fde) (gs : List Function) (all out new : List ℕ) → AreFunctions memory l (fde ∷ fs) gs →
    all ≡ out ++ flat_map function_text gs → ((g : Function) → IsFunction memory l fde g → new ≡ out ++ function_text g) →
    (more : List Function) × AreFunctions memory l fs more × (all ≡ new ++ flat_map function_text more)
function_turn memory l fde fs [] all out new are is put = absurd are
function_turn memory l fde fs (g ∷ gs) all out new are is put =
    (gs, are.1, is ∙ sym (append_assoc out (function_text g) (flat_map function_text gs)) ∙ ap (λ o. o ++ flat_map function_text gs) (sym (put g are.0)))

-- ---- those of frames that are read
one : (memory : Memory) (l : Listing) (header : ℕ) (d : Frames) (f : forms.Fde) (t : Option Table) → frames memory header ≡ Ok d → l ≡ listing d → Contains d.fdes f → Ends f →
    table_named memory f.lsda f.region ≡ Ok t → IsFunction memory l (fde_listed f) (record { fde = f; table = t })
one memory l header d f t is seen stands ends read =
    record { entry = record { header = header; read = d; reads = is; lists = seen; stands = stands; listed = refl }; ends = ends; table = read }

are_from : (memory : Memory) (l : Listing) (header : ℕ) (d : Frames) → frames memory header ≡ Ok d → l ≡ listing d → (fs : List forms.Fde) → AllByRecursion (Contains d.fdes) fs → AllByRecursion Ends fs →
    (gs : List Function) → functions_of memory fs ≡ Ok gs → AreFunctions memory l (map (λ g. fde_listed g.fde) gs) gs
are_from memory l header d is seen [] stand end gs e = subst (λ hs. AreFunctions memory l (map (λ (g : Function). fde_listed g.fde) hs) hs) (same [] gs (Ok []) refl e) tt
  where
    same : (xs ys : List Function) (r : Result (List Function) Fault) → Ok xs ≡ r → r ≡ Ok ys → xs ≡ ys
    same xs ys r e f = cc
are_from memory l header d is seen (f ∷ fs) stand end gs e = by (λ hs. are_from memory l header d is seen fs stand.1 end.1 hs) (table_named memory f.lsda f.region) refl e
  where
    same : (xs ys : List Function) (r : Result (List Function) Fault) → Ok xs ≡ r → r ≡ Ok ys → xs ≡ ys
    same xs ys r e f = cc

    rest : (t : Option Table) → table_named memory f.lsda f.region ≡ Ok t → ((hs : List Function) → functions_of memory fs ≡ Ok hs → AreFunctions memory l (map (λ g. fde_listed g.fde) hs) hs) →
        (r : Result (List Function) Fault) → functions_of memory fs ≡ r → (r >>= λ more. Ok (record { fde = f; table = t } ∷ more)) ≡ Ok gs → AreFunctions memory l (map (λ g. fde_listed g.fde) gs) gs
    rest t read more (Err x) re e = absurd cc
    rest t read more (Ok hs) re e =
        subst (λ ys. AreFunctions memory l (map (λ (g : Function). fde_listed g.fde) ys) ys) (same (record { fde = f; table = t } ∷ hs) gs (Ok (record { fde = f; table = t } ∷ hs)) refl e)
        (one memory l header d f t is seen stand.0 end.0 read, more hs re)

    by : ((hs : List Function) → functions_of memory fs ≡ Ok hs → AreFunctions memory l (map (λ g. fde_listed g.fde) hs) hs) → (r : Result (Option Table) Fault) → table_named memory f.lsda f.region ≡ r →
        ((r >>= λ t. Ok (record { fde = f; table = t })) >>= λ first. functions_of memory fs >>= λ more. Ok (first ∷ more)) ≡ Ok gs → AreFunctions memory l (map (λ g. fde_listed g.fde) gs) gs
    by more (Err x) re e = absurd cc
    by more (Ok t) re e = rest t re more (functions_of memory fs) refl e

pub functions_are : (memory : Memory) (l : Listing) (header : ℕ) (d : Frames) (gs : List Function) → AllByRecursion IsSmall memory → frames memory header ≡ Ok d → l ≡ listing d →
    functions_of memory (sorted d.fdes) ≡ Ok gs → AreFunctions memory l (map (λ g. fde_listed g.fde) gs) gs
functions_are memory l header d gs small is seen read =
    are_from memory l header d is seen (sorted d.fdes) (sorted_all (Contains d.fdes) d.fdes (all_in d.fdes)) (order_sound memory header d small is).end gs read
