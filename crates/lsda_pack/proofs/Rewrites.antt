-- What stands in a file after its packed tables were written.
use Rattle.std.proofs.Common.{◌≡◌, ◌+◌, ◌-◌, ◌<◌, ◌≤◌, ℕ, zero, suc, List, [], ◌∷◌, ◌++◌, length, take, drop, replicate, refl, ap, sym, subst, ◌∙◌, arith, ◌⊎◌, inl, inr, append_assoc}
use Rattle.std.specs.Prelude.{slice_get, fold}
use Rattle.std.specs.List.{AllByRecursion}
use Rattle.std.proofs.lemmas.List.{length-append, length-take-le, length-replicate, take-append-drop, drop_at, take_at}
use Rattle.lsda_pack.specs.PackedImage.{put_at, spare, rewritten}
use Rattle.lsda_pack.specs.Placed.{Placed}
use Rattle.lsda_pack.specs.Rule.{bytes_for}
use Rattle.lsda_pack.proofs.FilesFrame.{Stays, get_taken, get_dropped, taken_stays}
use Rattle.lsda_pack.proofs.Sizes.{FitsIn, one_size}

get_before : (xs ys : List ℕ) (n : ℕ) → n < length xs → slice_get (xs ++ ys) n ≡ slice_get xs n
get_before [] ys n less = absurd (omega (arith, less))
get_before (x ∷ xs) ys zero less = refl
get_before (x ∷ xs) ys (suc n) less = get_before xs ys n (omega (arith, less))

get_behind : (xs ys : List ℕ) (n : ℕ) → length xs ≤ n → slice_get (xs ++ ys) n ≡ slice_get ys (n - length xs)
get_behind [] ys n more = let none : n ≡ n - 0 = omega arith in ap (slice_get ys) none
get_behind (x ∷ xs) ys zero more = absurd (omega (arith, more))
get_behind (x ∷ xs) ys (suc n) more =
    let same : n - length xs ≡ suc n - length (x ∷ xs) = omega arith in get_behind xs ys n (omega (arith, more)) ∙ ap (slice_get ys) same

-- outside of what is put each byte stays
put_outside : (place : ℕ) (bytes file : List ℕ) (n : ℕ) → place + length bytes ≤ length file → (n < place) ⊎ (place + length bytes ≤ n) → slice_get (put_at place bytes file) n ≡ slice_get file n
put_outside place bytes file n inside (inl before) =
    let front = take place file in
    let rest = drop (place + length bytes) file in
    let long : length front ≡ place = length-take-le place file (omega (arith, inside)) in
    get_before (front ++ bytes) rest n (omega (arith, before, long, length-append front bytes)) ∙ get_before front bytes n (omega (arith, before, long)) ∙ get_taken place file n before
put_outside place bytes file n inside (inr behind) =
    let front = take place file in
    let rest = drop (place + length bytes) file in
    let long : length front ≡ place = length-take-le place file (omega (arith, inside)) in
    let both : length (front ++ bytes) ≡ place + length bytes = length-append front bytes ∙ ap (λ m. m + length bytes) long in
    let at : place + length bytes + (n - length (front ++ bytes)) ≡ n = omega (arith, behind, both) in
    get_behind (front ++ bytes) rest n (omega (arith, behind, both)) ∙ get_dropped (place + length bytes) file (n - length (front ++ bytes)) ∙ ap (slice_get file) at

-- and there stand the bytes
put_inside : (place : ℕ) (bytes file : List ℕ) → place + length bytes ≤ length file → drop place (put_at place bytes file) ≡ bytes ++ drop (place + length bytes) file
put_inside place bytes file inside =
    let front = take place file in
    let rest = drop (place + length bytes) file in
    ap (drop place) (append_assoc front bytes rest) ∙ drop_at front (bytes ++ rest) place (length-take-le place file (omega (arith, inside)))

abbrev pub new_bytes : Placed → List ℕ
new_bytes t = bytes_for t ++ replicate (spare t) 0

pub new_long : (size : ℕ) (t : Placed) → FitsIn size t → length (new_bytes t) ≡ t.end - t.first
new_long size t fits =
    let fewer = fits.fewer in
    omega (arith, fewer, length-append (bytes_for t) (replicate (spare t) 0), length-replicate {A = ℕ} (spare t) 0)

-- a place that a table does not have
abbrev pub IsOutside : ℕ → Placed → Type 0
IsOutside n t = (n < t.place) ⊎ (t.place + (t.end - t.first) ≤ n)

one_outside : (file : List ℕ) (t : Placed) (n : ℕ) → FitsIn (length file) t → IsOutside n t → slice_get (rewritten file t) n ≡ slice_get file n
unfolding rewritten
one_outside file t n fits outside =
    let long = new_long (length file) t fits in
    let inside = fits.inside in
    put_outside t.place (new_bytes t) file n (omega (arith, long, inside)) (by outside long)
  where
    by : (n < t.place) ⊎ (t.place + (t.end - t.first) ≤ n) → length (new_bytes t) ≡ t.end - t.first → (n < t.place) ⊎ (t.place + length (new_bytes t) ≤ n)
    by (inl before) long = inl before
    by (inr behind) long = inr (omega (arith, behind, long))

pub all_outside : (ts : List Placed) (file : List ℕ) (n : ℕ) → AllByRecursion (FitsIn (length file)) ts → AllByRecursion (IsOutside n) ts → slice_get (fold rewritten file ts) n ≡ slice_get file n
all_outside [] file n fits outside = refl
all_outside (t ∷ ts) file n fits outside =
    all_outside ts (rewritten file t) n (subst (λ m. AllByRecursion (FitsIn m) ts) (sym (one_size file t fits.0)) fits.1) outside.1 ∙ one_outside file t n fits.0 outside.0

-- the bytes of one table, where no other has a place of it
one_written : (file : List ℕ) (t : Placed) → FitsIn (length file) t → take (t.end - t.first) (drop t.place (rewritten file t)) ≡ new_bytes t
unfolding rewritten
one_written file t fits =
    let long = new_long (length file) t fits in
    let inside = fits.inside in
    ap (take (t.end - t.first)) (put_inside t.place (new_bytes t) file (omega (arith, long, inside))) ∙
    take_at (new_bytes t) (drop (t.place + length (new_bytes t)) file) (t.end - t.first) long

pub written : (before after : List Placed) (t : Placed) (file : List ℕ) → AllByRecursion (FitsIn (length file)) before → FitsIn (length file) t → AllByRecursion (FitsIn (length file)) after →
    ((n : ℕ) → t.place ≤ n → n < t.place + (t.end - t.first) → AllByRecursion (IsOutside n) after) →
    drop t.place (fold rewritten file (before ++ t ∷ after)) ≡ bytes_for t ++ (replicate (spare t) 0 ++ drop (t.end - t.first) (drop t.place (fold rewritten file (before ++ t ∷ after))))
written [] after t file fits own later outside =
    let size = t.end - t.first in
    let now = rewritten file t in
    let last = fold rewritten now after in
    let stays : Stays t.place (t.place + size) now last =
    λ n low high. all_outside after now n (subst (λ m. AllByRecursion (FitsIn m) after) (sym (one_size file t own)) later) (outside n low high) in
    let front : take size (drop t.place last) ≡ new_bytes t = sym (taken_stays t.place size now last stays) ∙ one_written file t own in
    sym (take-append-drop size (drop t.place last)) ∙ ap (λ xs. xs ++ drop size (drop t.place last)) front ∙
    append_assoc (bytes_for t) (replicate (spare t) 0) (drop size (drop t.place last))
written (u ∷ before) after t file fits own later outside =
    let size = sym (one_size file u fits.0) in
    written before after t (rewritten file u) (subst (λ m. AllByRecursion (FitsIn m) before) size fits.1) (subst (λ m. FitsIn m t) size own)
    (subst (λ m. AllByRecursion (FitsIn m) after) size later) outside
