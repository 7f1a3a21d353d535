-- The function of a place is that of the FDE that is sought among the frames.
use Rattle.std.proofs.Common.{◌≡◌, ℕ, Bool, true, false, List, [], ◌∷◌, map, Option, Some, None, Result, Ok, Err, refl, ap, sym, subst, ◌∙◌}
use Rattle.std.specs.Prelude.{option_map, find, if◌then◌else◌}
use Rattle.eh_bytes.specs.Memory.{Memory, memory_of}
use Rattle.eh_bytes.proofs.Mapped.{find_map}
use Rattle.table_forms.specs.Fault.{Fault, ◌>>=◌}
use Rattle.table_forms.specs.Lsda.{Table}
use Rattle.table_forms.specs.Fde as forms
use Rattle.table_forms.specs.Fde.{is_in, fde_for}
use Rattle.table_forms.specs.Frames.{Frames, frames, sorted}
use Rattle.elf_image.specs.Clean.{Function, CleanImage, table_named, functions_of}
use Rattle.elf_image.proofs.Cleaned.{IsReadFrom, read_from}
use Rattle.frame_read.specs.Listed.{fde_listed}
use Rattle.frame_read.specs.Sound.{AreApart}
use Rattle.frame_read.specs.ReadsFrames.{Listing, listing, ReadsFrames}
use Rattle.frame_read.specs.declared.listed.Fde.{Fde}
use Rattle.frame_read.proofs.Sound.{frames_sound}
use Rattle.frame_read.proofs.Apart.{in_sorted, from_sorted, apart_sorted, found_one, found_is}
use Rattle.table_check.specs.declared.clean.CleanImage as found
use Rattle.table_dump.specs.Seen.{IsFunction, AreFunctions}
use Rattle.table_dump.proofs.Dumped.{whole_of}
use Rattle.place_verdicts.specs.Places.{function_at}
use Rattle.place_verdicts.specs.Image.{IsRead}

-- ---- the FDEs of functions
functions_fdes : (memory : Memory) (fs : List forms.Fde) (gs : List Function) → functions_of memory fs ≡ Ok gs → map (λ g. g.fde) gs ≡ fs
functions_fdes memory [] gs e = ap (map (λ (g : Function). g.fde)) (sym (same [] gs (functions_of memory []) refl e))
  where
    same : (xs ys : List Function) (r : Result (List Function) Fault) → r ≡ Ok xs → r ≡ Ok ys → xs ≡ ys
    same xs ys r e f = cc
functions_fdes memory (f ∷ fs) gs e = by (λ hs. functions_fdes memory fs hs) (table_named memory f.lsda f.region) e
  where
    same : (xs ys : List Function) (r : Result (List Function) Fault) → r ≡ Ok xs → r ≡ Ok ys → xs ≡ ys
    same xs ys r e f = cc

    rest : (t : Option Table) → ((hs : List Function) → functions_of memory fs ≡ Ok hs → map (λ g. g.fde) hs ≡ fs) → (r : Result (List Function) Fault) → functions_of memory fs ≡ r →
        (r >>= λ more. Ok (record { fde = f; table = t } ∷ more)) ≡ Ok gs → map (λ g. g.fde) gs ≡ f ∷ fs
    rest t more (Err x) is e = absurd cc
    rest t more (Ok hs) is e =
        ap (map (λ (g : Function). g.fde)) (sym (same (record { fde = f; table = t } ∷ hs) gs (Ok (record { fde = f; table = t } ∷ hs)) refl e)) ∙ ap (λ xs. f ∷ xs) (more hs is)

    by : ((hs : List Function) → functions_of memory fs ≡ Ok hs → map (λ g. g.fde) hs ≡ fs) → (r : Result (Option Table) Fault) →
        ((r >>= λ t. Ok (record { fde = f; table = t })) >>= λ first. functions_of memory fs >>= λ more. Ok (first ∷ more)) ≡ Ok gs → map (λ g. g.fde) gs ≡ f ∷ fs
    by more (Err x) e = absurd cc
    by more (Ok t) e = rest t more (functions_of memory fs) refl e

-- ---- the order does not matter, since no two regions overlap
for_sorted : (fs : List forms.Fde) (pc : ℕ) → AreApart fs → fde_for fs pc ≡ fde_for (sorted fs) pc
for_sorted fs pc apart = by (fde_for fs pc) (fde_for (sorted fs) pc) refl refl
  where
    by : (a b : Option forms.Fde) → fde_for fs pc ≡ a → fde_for (sorted fs) pc ≡ b → a ≡ b
    by None None e e' = refl
    by None (Some f) e e' =
        let r = found_is (sorted fs) f pc e' in
        sym e ∙ found_one fs f pc apart (from_sorted f fs r.0) r.1
    by (Some f) b e e' =
        let r = found_is fs f pc e in
        sym (found_one (sorted fs) f pc (apart_sorted fs apart) (in_sorted f fs r.0) r.1) ∙ e'

listed_map : (gs : List Function) (pc : ℕ) → option_map fde_listed (fde_for (map (λ g. g.fde) gs) pc) ≡ option_map (λ g. fde_listed g.fde) (function_at gs pc)
listed_map gs pc = ap (option_map fde_listed) (find_map (λ (g : Function). g.fde) (λ f. is_in f.region pc) gs) ∙ twice (function_at gs pc)
  where
    twice : (o : Option Function) → option_map fde_listed (option_map (λ g. g.fde) o) ≡ option_map (λ g. fde_listed g.fde) o
    twice None = refl
    twice (Some g) = refl

-- ---- what is sought in an image that was read
pub sought : (i : found.CleanImage) (c : CleanImage) (pc : ℕ) (o : Option Fde) → IsRead i c →
    ((memory : Memory) (header : ℕ) (read : Frames) → frames memory header ≡ Ok read → i.frames ≡ listing read → o ≡ option_map fde_listed (fde_for read.fdes pc)) →
    o ≡ option_map (λ g. fde_listed g.fde) (function_at c.functions pc)
sought i c pc o is for = from (read_from is.file false c is.cleans)
  where
    seen_at : (l : Listing) (r : Result Frames Fault) (d : Frames) → r ≡ Ok d → ReadsFrames (Ok l) r → l ≡ listing d
    seen_at l (Ok x) d e seen = seen ∙ ap listing (same x d e)
      where
        same : (x y : Frames) → (λ (w : Result Frames Fault). w) (Ok x) ≡ Ok y → x ≡ y
        same x y e = cc
    seen_at l (Err f) d e seen = absurd seen

    from : IsReadFrom is.file false c → o ≡ option_map (λ g. fde_listed g.fde) (function_at c.functions pc)
    from r =
        let l = seen_at i.frames (frames c.image.memory c.image.frame_header) r.read r.frames_read is.seen.frames_read in
        let sound = frames_sound c.image.memory c.image.frame_header r.read r.frames_read in
        for c.image.memory c.image.frame_header r.read r.frames_read l ∙ ap (option_map fde_listed) (for_sorted r.read.fdes pc sound.apart) ∙
        ap (λ fs. option_map fde_listed (fde_for fs pc)) (sym (functions_fdes c.image.memory (sorted r.read.fdes) c.functions r.functions_read)) ∙ listed_map c.functions pc

one_function : (memory : Memory) (l : Listing) (fdes : List Fde) (gs : List Function) (p : Function → Bool) (g : Function) → AreFunctions memory l fdes gs → find p gs ≡ Some g → IsFunction memory l (fde_listed g.fde) g
one_function memory l [] [] p g are at = absurd cc
one_function memory l [] (h ∷ hs) p g are at = absurd are
one_function memory l (f ∷ fs) [] p g are at = absurd are
one_function memory l (f ∷ fs) (h ∷ hs) p g are at = by (p h) at (λ e. one_function memory l fs hs p g are.1 e)
  where
    same : (x y : Function) → (λ (w : Option Function). w) (Some x) ≡ Some y → x ≡ y
    same x y e = cc

    by : (b : Bool) → (if b then Some h else find p hs) ≡ Some g → (find p hs ≡ Some g → IsFunction memory l (fde_listed g.fde) g) → IsFunction memory l (fde_listed g.fde) g
    by true e more = subst (λ x. IsFunction memory l (fde_listed x.fde) x) (same h g e) (subst (λ x. IsFunction memory l x h) are.0.entry.listed are.0)
    by false e more = more e

-- a function of the image, as it was listed
pub function_is : (i : found.CleanImage) (c : CleanImage) (pc : ℕ) (g : Function) → IsRead i c → function_at c.functions pc ≡ Some g → IsFunction (memory_of i.elf.segments) i.frames (fde_listed g.fde) g
function_is i c pc g is at =
    let w = whole_of is.file c i is.cleans is.seen in
    one_function (memory_of i.elf.segments) i.frames i.order.items c.functions (λ f. is_in f.fde.region pc) g w.functions at

-- ---- by what was found
pub found_some : (o : Option Function) (fde : Fde) → Some fde ≡ option_map (λ g. fde_listed g.fde) o → (g : Function) × (o ≡ Some g) × (fde ≡ fde_listed g.fde)
found_some None fde e = absurd cc
found_some (Some g) fde e = (g, refl, same fde (fde_listed g.fde) e)
  where
    same : (x y : Fde) → (λ (w : Option Fde). w) (Some x) ≡ Some y → x ≡ y
    same x y e = cc

pub found_none : (o : Option Function) → None ≡ option_map (λ g. fde_listed g.fde) o → None ≡ o
found_none None e = refl
found_none (Some g) e = absurd cc

-- a function of the image by the FDE that was found
pub function_found : (i : found.CleanImage) (c : CleanImage) (pc : ℕ) (o : Option Fde) (fde : Fde) → IsRead i c → o ≡ Some fde → o ≡ option_map (λ g. fde_listed g.fde) (function_at c.functions pc) →
    (g : Function) × (function_at c.functions pc ≡ Some g) × IsFunction (memory_of i.elf.segments) i.frames fde g
function_found i c pc o fde is some at =
    let f = found_some (function_at c.functions pc) fde (sym some ∙ at) in
    (f.0, f.1, subst (λ x. IsFunction (memory_of i.elf.segments) i.frames x f.0) (sym f.2) (function_is i c pc f.0 is f.1))
