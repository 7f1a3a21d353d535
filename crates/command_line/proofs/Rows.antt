-- What a use of an argument leaves under each name.
use Rattle.std.proofs.Common.{◌≡◌, ◌∙◌, ℕ, Bool, true, false, cond, true≢false, List, [], ◌∷◌, ◌++◌, Some, None, refl, sym, ap, bytes_eq, append-nil, append_assoc}
use Rattle.std.specs.Prelude.{find, unwrap_or}
use Rattle.std.specs.Option.{option_map}
use Rattle.std.specs.Prelude.{if◌then◌else◌}
use Rattle.std.proofs.lemmas.Bool.{false_from_ne_true}
use Rattle.clap.specs.Walk.{Row, stronger, with_values}
use Rattle.clap.specs.declared.builder.value_parser.Reading.{Reading}
use Rattle.clap.specs.declared.parser.matches.ValueSource.{ValueSource}
use Rattle.command_line.specs.Matches.{Shows, name_in, text_in, text_under, texts_under, values_under}
use Rattle.command_line.specs.Pieces.{Piece}
use Rattle.plain_text.proofs.Texts.{same_text}
use Rattle.command_line.proofs.Texts.{text_itself}

-- the values, where the names are the same
abbrev when_same : Bool → List (List ℕ) → List (List ℕ)
when_same b values = if b then values else []

-- the value of a row, where it has the name, and else what the others have
abbrev first_values : Bool → List (List ℕ) → List (List ℕ) → List (List ℕ)
first_values b values others = if b then values else others

head_values : (name : List ℕ) (r : Row) (rows : List Row) → values_under name (r ∷ rows) ≡ first_values (bytes_eq r.id name) r.values (values_under name rows)
head_values name r rows = go (bytes_eq r.id name)
  where
    go : (b : Bool) → unwrap_or (option_map (λ (x : Row). x.values) (cond b (Some r) (find (λ (x : Row). bytes_eq x.id name) rows))) [] ≡ first_values b r.values (values_under name rows)
    go true = refl
    go false = refl

pub put : (id : List ℕ) (how : Reading) (from : ValueSource) (values : List (List ℕ)) (rows : List Row) (name : List ℕ)
    → values_under name (with_values id how from values rows) ≡ values_under name rows ++ when_same (bytes_eq id name) values
put id how from values [] name = go (bytes_eq id name)
  where
    go : (b : Bool) → unwrap_or (option_map (λ (x : Row). x.values) (cond b (Some (record { id = id; values = values; count = None; source = Some from; reading = how })) None)) [] ≡ when_same b values
    go true = refl
    go false = refl
put id how from values (r ∷ rows) name = at_head (bytes_eq r.id id) refl (put id how from values rows name)
  where
    changed : Row
    changed = record r { values = r.values ++ values; source = Some (stronger r.source from) }

    seen : (b : Bool) → first_values b (r.values ++ values) (values_under name rows) ≡ first_values b r.values (values_under name rows) ++ when_same b values
    seen true = refl
    seen false = sym (append-nil (values_under name rows))

    kept : (b : Bool) → bytes_eq r.id name ≡ b → bytes_eq r.id id ≡ false
        → values_under name (with_values id how from values rows) ≡ values_under name rows ++ when_same (bytes_eq id name) values
        → first_values b r.values (values_under name (with_values id how from values rows)) ≡ first_values b r.values (values_under name rows) ++ when_same (bytes_eq id name) values
    kept true hit apart e =
        let differs : bytes_eq id name ≡ false = false_from_ne_true _ (λ same.
        let at : r.id ≡ id = same_text r.id name hit ∙ sym (same_text id name same) in
        true≢false (sym (text_itself id) ∙ (ap (λ t. bytes_eq t id) (sym at) ∙ apart))) in
        sym (append-nil r.values) ∙ ap (λ (t : Bool). r.values ++ when_same t values) (sym differs)
    kept false miss apart e = e

    at_head : (b : Bool) → bytes_eq r.id id ≡ b
        → values_under name (with_values id how from values rows) ≡ values_under name rows ++ when_same (bytes_eq id name) values
        → values_under name (cond b (changed ∷ rows) (r ∷ with_values id how from values rows)) ≡ values_under name (r ∷ rows) ++ when_same (bytes_eq id name) values
    at_head true hit e =
        let same : r.id ≡ id = same_text r.id id hit in
        head_values name changed rows
        ∙ (ap (λ t. first_values (bytes_eq t name) (r.values ++ values) (values_under name rows)) same
        ∙ (seen (bytes_eq id name)
        ∙ (ap (λ t. first_values (bytes_eq t name) r.values (values_under name rows) ++ when_same (bytes_eq id name) values) (sym same)
        ∙ ap (λ (vs : List (List ℕ)). vs ++ when_same (bytes_eq id name) values) (sym (head_values name r rows)))))
    at_head false miss e =
        head_values name r (with_values id how from values rows)
        ∙ (kept (bytes_eq r.id name) refl miss e
        ∙ ap (λ (vs : List (List ℕ)). vs ++ when_same (bytes_eq id name) values) (sym (head_values name r rows)))

texts_more : (name : List ℕ) (ps : List Piece) (p : Piece) → texts_under name (ps ++ p ∷ []) ≡ texts_under name ps ++ text_under name p
texts_more name [] p = append-nil (text_under name p)
texts_more name (q ∷ ps) p = ap (λ (ts : List (List ℕ)). text_under name q ++ ts) (texts_more name ps p) ∙ sym (append_assoc (text_under name q) (texts_under name ps) (text_under name p))

-- one more use shows one more piece
pub shows_more : (rows : List Row) (ps : List Piece) (p : Piece) (how : Reading) (from : ValueSource) → Shows rows ps
    → Shows (with_values (name_in p) how from (text_in p ∷ []) rows) (ps ++ p ∷ [])
shows_more rows ps p how from shows name =
    put (name_in p) how from (text_in p ∷ []) rows name
    ∙ (ap (λ (vs : List (List ℕ)). vs ++ text_under name p) (shows name) ∙ sym (texts_more name ps p))
