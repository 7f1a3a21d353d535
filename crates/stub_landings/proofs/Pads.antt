-- The pads of the runtime's own functions.
use Rattle.std.proofs.Common.{◌≡◌, refl, subst, arith, ℕ, zero, suc, ◌+◌, ℤ, List, [], ◌∷◌, Some, None, inl, inr}
use Rattle.std.specs.Prelude.{⊤, ◌⊎◌, slice_get}
use Rattle.linear_forms.specs.Tables.{Cover, bare, unpadded, padded}
use Rattle.linear_forms.specs.Stub.{Function, compiled, end_catch, terminating, call_unexpected, StubRow, stub_rows, stub_cover}
use Rattle.linear_forms.specs.Activation.{Code, look}
use Rattle.stub_landings.specs.OwnCalls.{IsOwn}

-- a place with a pad, in rows
abbrev AtPad : (P : ℕ → ℕ → Type 0) (place : ℕ) → Cover → Type 0
AtPad P place bare = ⊤
AtPad P place unpadded = ⊤
AtPad P place (padded q chain) = P place q

abbrev AllPads : (P : ℕ → ℕ → Type 0) (place : ℕ) → List StubRow → Type 0
AllPads P place [] = ⊤
AllPads P place (r ∷ rows) = AtPad P place r.cover × AllPads P (place + 1) rows

in_rows : (P : ℕ → ℕ → Type 0) (rows : List StubRow) (from place : ℕ) → AllPads P from rows → AtPad P (from + place) (elim (slice_get rows place) [ None ↦ bare | Some r ↦ r.cover ])
in_rows P [] from place all = tt
in_rows P (r ∷ rows) from zero all = subst (λ n. AtPad P n r.cover) (omega arith) all.0
in_rows P (r ∷ rows) from (suc place) all =
    let next : from + 1 + place ≡ from + suc place = omega arith in
    subst (λ n. AtPad P n (elim (slice_get rows place) [ None ↦ bare | Some y ↦ y.cover ])) next (in_rows P rows (from + 1) place all.1)

of_cover : (P : ℕ → ℕ → Type 0) (place q : ℕ) (c : Cover) (chain : List ℤ) → AtPad P place c → c ≡ padded q chain → P place q
of_cover P place q bare chain at is = absurd (cc is)
of_cover P place q unpadded chain at is = absurd (cc is)
of_cover P place q (padded r filters) chain at is = let same : r ≡ q = cc is in subst (P place) same at

abbrev pub EndCatchPad : ℕ → ℕ → Type 0
EndCatchPad place q = (place ≡ 1) × (q ≡ 4)

abbrev pub UnexpectedPad : ℕ → ℕ → Type 0
UnexpectedPad place q = ((place ≡ 1) × (q ≡ 3)) ⊎ (q ≡ 14)

-- the pads of one of them, and where they are for
abbrev pub OwnPad : Function → ℕ → ℕ → Type 0
OwnPad f place q = ((f ≡ end_catch) × EndCatchPad place q) ⊎ ((f ≡ call_unexpected) × UnexpectedPad place q)

abbrev NoPad : ℕ → ℕ → Type 0
NoPad place q = ⊥

pub own_pads : (code : Code) (f : Function) (place q : ℕ) (chain : List ℤ) → IsOwn f → look code f place ≡ padded q chain → OwnPad f place q
own_pads code (compiled n) place q chain own is = absurd own
own_pads code end_catch place q chain own is =
    let zero_and : 0 + place ≡ place = omega arith in
    let at = subst (λ n. AtPad EndCatchPad n (stub_cover end_catch place)) zero_and (in_rows EndCatchPad (stub_rows end_catch) 0 place (tt, ((refl, refl), (tt, (tt, (tt, (tt, (tt, tt)))))))) in
    inl (refl, of_cover EndCatchPad place q (stub_cover end_catch place) chain at is)
own_pads code terminating place q chain own is =
    let zero_and : 0 + place ≡ place = omega arith in
    let at = subst (λ n. AtPad NoPad n (stub_cover terminating place)) zero_and (in_rows NoPad (stub_rows terminating) 0 place (tt, (tt, tt))) in
    absurd (of_cover NoPad place q (stub_cover terminating place) chain at is)
own_pads code call_unexpected place q chain own is =
    let zero_and : 0 + place ≡ place = omega arith in
    let at = subst (λ n. AtPad UnexpectedPad n (stub_cover call_unexpected place)) zero_and (in_rows UnexpectedPad (stub_rows call_unexpected) 0 place
    (tt, (inl (refl, refl), (tt, (tt, (tt, (tt, (tt, (tt, (tt, (tt, (inr refl, (tt, (tt, (inr refl, (tt, (tt, (tt, (tt, tt))))))))))))))))))) in
    inr (refl, of_cover UnexpectedPad place q (stub_cover call_unexpected place) chain at is)
