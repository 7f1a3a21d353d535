-- The files of several harts, read one after the other.
use Rattle.std.proofs.Common.{Vec, ◌≡◌, ◌≤◌, ◌∙◌, ℕ, List, [], ◌∷◌, ◌++◌, length, Some, IfSome, inl, inr, refl, ap, sym, subst, append_assoc, append-nil, arith}
use Rattle.std.specs.Prelude.{⊤}
use Rattle.std.specs.Global.{Global}
use Rattle.std.specs.FinMap.{get}
use Rattle.eh_outer.specs.Store.{StoreView}
use Rattle.eh_commands.specs.declared.status.Status.{Status}
use Rattle.eh_commands.specs.declared.status.Status.TheVariants.{ReadFault, TooLong, NoMemory}
use Rattle.eh_commands.specs.File.{IsFile, Told, Unread, input_limit}
use Rattle.eh_commands.specs.HartFiles.{AreFiles, HartsAsked, Named, ToldAll, ToldHarts, UnreadAmong, files_of, input_files, kept_bytes}
use Rattle.eh_commands.proofs.Causes.{unread_one, unread_since}

-- ---- behind a file that was read
-- what the store between two readings tells, the first of them told
told_since : (limit : ℕ) (name : List ℕ) (old mid : StoreView) → mid.files ≡ old.files → Told limit mid name (λ file. ⊤) → Told limit old name (λ file. ⊤)
told_since limit name old mid same (file, (short, there), done) = (file, (short, subst (λ f. IfSome f (λ files. get files name ≡ Some file)) same there), done)

among_since : (files : List Named) (old mid new : StoreView) → old.faults ≤ mid.faults → mid.files ≡ old.files → (status : Status) → UnreadAmong files mid new status → UnreadAmong files old new status
among_since [] old mid new later same status why = why
among_since ((limit, name) ∷ files) old mid new later same status (inl why) = inl (unread_since limit name old mid new later same status why)
among_since ((limit, name) ∷ files) old mid new later same status (inr (told, why)) =
    inr (told_since limit name old mid same told, among_since files old mid new later same status why)

pub unread_behind : (limit : ℕ) (name bytes : List ℕ) (files : List Named) (old mid new : StoreView) → IsFile limit old name bytes → old.faults ≤ mid.faults → mid.files ≡ old.files → (status : Status) →
    UnreadAmong files mid new status → UnreadAmong ((limit, name) ∷ files) old new status
unread_behind limit name bytes files old mid new is later same status why =
    inr ((bytes, is, tt), among_since files old mid new later same status why)

pub are_since : (files : List Named) (old mid : StoreView) (all : List (List ℕ)) → mid.files ≡ old.files → AreFiles files mid all → AreFiles files old all
are_since [] old mid [] same are = tt
are_since [] old mid (bytes ∷ more) same are = absurd are
are_since ((limit, name) ∷ files) old mid [] same are = absurd are
are_since ((limit, name) ∷ files) old mid (bytes ∷ more) same are =
    ((are.0.0, subst (λ f. IfSome f (λ m. get m name ≡ Some bytes)) same are.0.1), are_since files old mid more same are.1)

-- ---- the inputs
-- those up to a place were read
pub record InputsSoFar (names rest : List (List ℕ)) (old now : StoreView) (inputs : List (Vec ℕ Global)) : Type 0 where
  pub done : List (List ℕ)
  pub split : names ≡ done ++ rest
  pub are : AreFiles (input_files done) old (kept_bytes inputs)
  pub same : now.files ≡ old.files
  pub later : old.faults ≤ now.faults

pub inputs_first : (names : List (List ℕ)) (store : StoreView) → InputsSoFar names names store store []
inputs_first names store = record { done = []; split = refl; are = tt; same = refl; later = omega arith }

one_more : (done : List (List ℕ)) (name : List ℕ) (store : StoreView) (inputs : List (List ℕ)) (input : List ℕ) → AreFiles (input_files done) store inputs → IsFile input_limit store name input →
    AreFiles (input_files (done ++ name ∷ [])) store (inputs ++ input ∷ [])
one_more [] name store [] input are is = (is, tt)
one_more [] name store (i ∷ inputs) input are is = absurd are
one_more (d ∷ done) name store [] input are is = absurd are
one_more (d ∷ done) name store (i ∷ inputs) input are is = (are.0, one_more done name store inputs input are.1 is)

pub inputs_next : (names rest others : List (List ℕ)) (name : List ℕ) (old now next : StoreView) (before after : List (Vec ℕ Global)) (input : List ℕ) → rest ≡ name ∷ others → InputsSoFar names rest old now before →
    IsFile input_limit now name input → kept_bytes after ≡ kept_bytes before ++ input ∷ [] → next.files ≡ now.files → now.faults ≤ next.faults → InputsSoFar names others old next after
inputs_next names rest others name old now next before after input is h file pushed same later =
    let so_far = h.later in
    let file_is : IsFile input_limit old name input = (file.0, subst (λ f. IfSome f (λ m. get m name ≡ Some input)) h.same file.1) in record {
      done = h.done ++ name ∷ [];
      split = h.split ∙ ap (λ (r : List (List ℕ)). h.done ++ r) is ∙ sym (append_assoc h.done (name ∷ []) others);
      are = subst (λ (all : List (List ℕ)). AreFiles (input_files (h.done ++ name ∷ [])) old all) (sym pushed) (one_more h.done name old (kept_bytes before) input h.are file_is);
      same = same ∙ h.same;
      later = omega (arith, so_far, later);
    }

pub inputs_all : (names rest : List (List ℕ)) (old now : StoreView) (inputs : List (Vec ℕ Global)) → rest ≡ [] → InputsSoFar names rest old now inputs → AreFiles (input_files names) old (kept_bytes inputs)
inputs_all names rest old now inputs none h =
    let all : h.done ≡ names = sym (h.split ∙ ap (λ (r : List (List ℕ)). h.done ++ r) none ∙ append-nil h.done) in
    subst (λ (ns : List (List ℕ)). AreFiles (input_files ns) old (kept_bytes inputs)) all h.are

unread_there : (done others : List (List ℕ)) (name : List ℕ) (old new : StoreView) (inputs : List (List ℕ)) (status : Status) → AreFiles (input_files done) old inputs → Unread input_limit name old new status →
    UnreadAmong (input_files (done ++ name ∷ others)) old new status
unread_there [] others name old new [] status are why = inl why
unread_there [] others name old new (i ∷ inputs) status are why = absurd are
unread_there (d ∷ done) others name old new [] status are why = absurd are
unread_there (d ∷ done) others name old new (i ∷ inputs) status are why =
    inr ((i, are.0, tt), unread_there done others name old new inputs status are.1 why)

pub inputs_fail : (names rest others : List (List ℕ)) (name : List ℕ) (old now new : StoreView) (inputs : List (Vec ℕ Global)) (status : Status) → rest ≡ name ∷ others → InputsSoFar names rest old now inputs →
    Unread input_limit name now new status → UnreadAmong (input_files names) old new status
inputs_fail names rest others name old now new inputs status is h why =
    let there = h.split ∙ ap (λ (r : List (List ℕ)). h.done ++ r) is in
    subst (λ (ns : List (List ℕ)). UnreadAmong (input_files ns) old new status) (sym there)
    (unread_there h.done others name old new (kept_bytes inputs) status h.are (unread_since input_limit name old now new h.later h.same status why))

-- ---- what is told
told_all : (names : List (List ℕ)) (store : StoreView) (inputs : List (List ℕ)) (P : List (List ℕ) → Type 0) → AreFiles (input_files names) store inputs → P inputs → ToldAll store names P
told_all [] store [] P are holds = holds
told_all [] store (i ∷ inputs) P are holds = absurd are
told_all (name ∷ names) store [] P are holds = absurd are
told_all (name ∷ names) store (input ∷ inputs) P are holds =
    (input, are.0, told_all names store inputs (λ is. P (input ∷ is)) are.1 holds)

-- what holds of the files that were read
pub told_harts : (a : HartsAsked) (store : StoreView) (image text : List ℕ) (inputs : List (List ℕ)) (P : List ℕ → List ℕ → List (List ℕ) → Type 0) → AreFiles (files_of a) store (image ∷ (text ∷ inputs)) →
    P image text inputs → ToldHarts a store P
told_harts a store image text inputs P are holds =
    (image, are.0, (text, are.1.0, told_all a.inputs store inputs (P image text) are.1.1 holds))

-- as many inputs as names
pub as_many : (names : List (List ℕ)) (store : StoreView) (inputs : List (List ℕ)) → AreFiles (input_files names) store inputs → length inputs ≡ length names
as_many [] store [] are = refl
as_many [] store (i ∷ inputs) are = absurd are
as_many (name ∷ names) store [] are = absurd are
as_many (name ∷ names) store (i ∷ inputs) are = let more = as_many names store inputs are.1 in omega (arith, more)

-- ---- files that are not read
-- a status of which one is not read is one of three
pub among_one : (P : Status → Type 0) → P ReadFault → P TooLong → P NoMemory → (files : List Named) (old new : StoreView) (status : Status) → UnreadAmong files old new status → P status
among_one P fault long memory [] old new status why = absurd why
among_one P fault long memory ((limit, name) ∷ files) old new status (inl why) = unread_one P fault long memory limit name old new status why
among_one P fault long memory ((limit, name) ∷ files) old new status (inr (told, why)) = among_one P fault long memory files old new status why
