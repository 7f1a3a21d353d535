-- What is known of a told source.
use Rattle.std.proofs.Common.{◌≡◌, ◌∙◌, ℕ, List, Some, IfSome, sym, subst}
use Rattle.std.specs.FinMap.{get}
use Rattle.eh_outer.specs.Store.{Files, StoreView}
use Rattle.cxx_ast.specs.declared.standard.Std.{Std}
use Rattle.cxx_ast.specs.Plain.{Program}
use Rattle.cxx_front.specs.Source.{IsRefused}
use Rattle.cxx_front.specs.Fate.{HasOnly, refused, valid}
use Rattle.eh_commands.specs.declared.status.Status.TheVariants.{SourceRefused}
use Rattle.eh_commands.specs.File.{Told}

pub some_same : {A : Type 0} {x y : A} → Some x ≡ Some y → x ≡ y
some_same e = cc

-- what holds of the told file holds of this source
pub told_of : (limit : ℕ) (store : StoreView) (name file : List ℕ) (files : Files) (P : List ℕ → Type 0) → store.files ≡ Some files → get files name ≡ Some file → Told limit store name P → P file
told_of limit store name file files P is there told =
    let (held, (short, it_is), holds) = told in
    let found = subst (λ f. IfSome f (λ m. get m name ≡ Some held)) is it_is in
    subst P (some_same (sym found ∙ there)) holds

pub valid_same : {p q : Program} → valid p ≡ valid q → p ≡ q
valid_same e = cc

-- a source that is valid is not refused
pub not_refused : (std : Std) (source : List ℕ) (p : Program) (number place : ℕ) → HasOnly std source (valid p) → IsRefused std source number place → ⊥
not_refused std source p number place only is =
    let same : valid p ≡ refused number place = only.only (refused number place) is in
    cc

pub same_refusal : {m n p q : ℕ} → refused m p ≡ refused n q → SourceRefused m p ≡ SourceRefused n q
same_refusal e = cc
