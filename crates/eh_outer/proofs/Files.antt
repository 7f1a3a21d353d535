-- The files of a list, looked up from a place on.
use Rattle.std.proofs.Common.{◌≡◌, ◌∙◌, ℕ, ◌+◌, ◌<◌, ◌≤◌, suc, cond, List, ◌∷◌, drop, get_or, length, Some, None, String, Vec, string_bytes, ap, sym, add-one, drop-cons}
use Rattle.std.specs.declared.alloc.Global.{Global}
use Rattle.std.specs.Str.{bytes_eq}
use Rattle.std.specs.Ordering.{nat_cmp}
use Rattle.std.specs.Cmp.Lexicographic.{slice_cmp}
use Rattle.std.specs.FinMap.{get, insert, get-insert, get-empty}
use Rattle.std.proofs.lemmas.List.{drop_all}
use Rattle.std.proofs.lemmas.Cmp.{nat_list_cmp_total}
use Rattle.std.proofs.lemmas.Map.Text.{is_eq-slice_cmp}
use Rattle.eh_outer.specs.MemStore.{entries_of, files_in}
use Rattle.eh_outer.specs.Store.{Files}

get_put : (m : Files) (k v q : List ℕ) → get (insert m k v) q ≡ cond (bytes_eq q k) (Some v) (get m q)
get_put m k v q = get-insert nat_list_cmp_total m k v q ∙ ap (λ b. cond b (Some v) (get m q)) (is_eq-slice_cmp q k)

-- what is found from a place on: the file there, or what is found behind it
pub found_from : (files : List (String Global × Vec ℕ Global)) (i : ℕ) (file : String Global × Vec ℕ Global) (name : List ℕ) → i < length files → file ≡ get_or files i file →
    get (files_in (entries_of (drop i files))) name ≡ cond (bytes_eq name (string_bytes file.0)) (Some file.1.items) (get (files_in (entries_of (drop (i + 1) files))) name)
found_from files i file name below is =
    let here : drop i files ≡ file ∷ drop (i + 1) files = rw add-one (drop-cons files i file below ∙ ap (λ f. f ∷ drop (suc i) files) (sym is)) in
    ap (λ fs. get (files_in (entries_of fs)) name) here ∙ get_put _ _ _ name

-- nothing is found at the end
pub found_at_end : (files : List (String Global × Vec ℕ Global)) (i : ℕ) (name : List ℕ) → length files ≤ i → get (files_in (entries_of (drop i files))) name ≡ None
found_at_end files i name past = ap (λ fs. get (files_in (entries_of fs)) name) (drop_all i files past) ∙ get-empty (slice_cmp nat_cmp) name
